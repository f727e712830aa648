-- Old items whose blocks are all old ones, also where what stood around them is gone, stay so as a repair learns more.
use Rattle.std.proofs.Common.{◌≡◌, ℕ, Bool, true, false, ◌==◌, ◌&&◌, if◌then◌else◌, Option, Some, None, List, ◌∷◌, refl, ap, ◌∙◌, subst}
use Rattle.ceal_base.specs.Operators.{same_place}
use Rattle.ceal_base.specs.Trace.{Trace, Nothing, Stepped, Allocated, Wrote, WasRead, trace_then}
use Rattle.ceal_base.specs.declared.forest.Key.{Key}
use Rattle.ceal_base.specs.declared.forest.UnitId.{UnitId}
use Rattle.ceal_base.specs.declared.word.BlockId.TheVariants.{Input, Core}
use Rattle.ceal_base.specs.declared.word.Place.{Place}
use Rattle.ceal_base.specs.declared.word.Word.{Word}
use Rattle.ceal_code.proofs.Words.StepLocality.{word-more, words-more, key-more, set-known, words_after_read-known, next-known, next-same, made-same}
use Rattle.ceal_code.proofs.Words.SameIsEqual.{both, nat-same, some-same, none-some}
use Rattle.ceal_code.specs.Init.{made, pointer}
use Rattle.ceal_code.specs.Known.{Subset, Holds, KnownVariables, KnownStack, KnownAct}
use Rattle.ceal_code.specs.Program.{Code}
use Rattle.ceal_code.specs.Replay.{Yields, In, here, there, KnownWord, KnownWords, KnownKey, Mentions}
use Rattle.ceal_code.specs.Step.{Stack, Empty, Run, Act, next}
use Rattle.ceal_code.specs.Value.{Plain, Variables, set}
use Rattle.ceal_theory.proofs.Repair.RepairInvariant.{Extends, agrees}
use Rattle.ceal_theory.proofs.Store.WordsGrow.{mentions-subset}
use Rattle.ceal_theory.proofs.Repair.RepairYields.{pointer-known}
use Rattle.ceal_theory.proofs.Reuse.TakenItems.{words-same, key-same, unit-same}
use Rattle.ceal_theory.proofs.Repair.YieldsByStep.{yields-told}
use Rattle.ceal_theory.specs.Known.{Told, Sure}
use Rattle.ceal_theory.specs.Repair.{resumed}
use Rattle.ceal_theory.specs.Take.{TakenAlloc, TakenRead, same_words, same_key, alloc_then, read_then, take_alloc, take_read}

module _ (code : Code) (n : ℕ) (ds : List ℕ) where
  -- what a state knows of a step
  pub knows : (x : Plain) → Holds n ds x → (st : Stack) → KnownStack n ds st → KnownAct n ds (next code x st)
  knows x h st k = next-known n ds x h x (λ b i. refl) code st k

  module _ (x y : Plain) (h : Holds n ds x) (ext : Extends x y) where
    at-more : (st : Stack) (l : Trace) → KnownStack n ds st → Told code y (next code x st) l → Told code y (next code y st) l
    at-more st l k t = subst (λ a. Told code y a l) (next-same n ds x h y (agrees n ds x y h ext) code st k) t

    made-more : (key : Key) → KnownKey n ds key → made code x key ≡ made code y key
    made-more key k = made-same n ds x h y (agrees n ds x y h ext) code key k

  pub run-known : (key : Key) (b v u i : ℕ) (env : Variables) (below : Stack) → In b ds → KnownVariables n ds env
      → KnownStack n ds below → KnownStack n ds (Run u i (set env v (pointer key (Core b))) below)
  run-known key b v u i env below j h k = (set-known n ds env v (pointer key (Core b)) h (pointer-known n ds key (Core b) j), k)

  pub told-more : (x y : Plain) → Holds n ds x → Extends x y → {a : Act} {l : Trace} → Told code x a l → KnownAct n ds a → Sure code n ds x l → Told code y a l
  told-more x y h ext Told.over k s = Told.over
  told-more x y h ext (Told.quiet {after = after} {rest = rest} r) k s =
      Told.quiet (at-more x y h ext after rest k (told-more x y h ext r (knows x h after k) s))
  told-more x y h ext (Told.makes {key = key} {v = v} {u = u} {i = i} {env = env} {below = below} {b = b} {rest = rest} e r) k s =
      let st : Stack = Run u i (set env v (pointer key (Core b))) below in
      let ks = run-known key b v u i env below s.0 k.1 k.2 in
      Told.makes (ext (Core b) (made code x key) e ∙ ap Some (made-more x y h ext key k.0))
      (at-more x y h ext st rest ks (told-more x y h ext r (knows x h st ks) s.3))
  told-more x y h ext (Told.writes {after = after} {rest = rest} r) k s =
      Told.writes (at-more x y h ext after rest k.2 (told-more x y h ext r (knows x h after k.2) s))
  told-more x y h ext (Told.reads {below = below} {u = u} {v = v} {args = args} {value = value} {inside = inside} {rest = rest} r1 r2) k s =
      let st : Stack = resumed code u v args value in
      let ks : KnownStack n ds st = words_after_read-known n ds code u.0 v args value Empty k.1 s.0 tt in
      Told.reads (at-more x y h ext st inside ks (told-more x y h ext r1 (knows x h st ks) s.3))
      (at-more x y h ext below rest k.2 (told-more x y h ext r2 (knows x h below k.2) s.4))

  pub sure-more : (x y : Plain) → Holds n ds x → Extends x y → (l : Trace) → Sure code n ds x l → Sure code n ds y l
  sure-more x y h ext Nothing s = s
  sure-more x y h ext (Stepped rest) s = sure-more x y h ext rest s
  sure-more x y h ext (Allocated (Core b) key rest) s =
      (s.0, s.1, ext (Core b) (made code x key) s.2 ∙ ap Some (made-more x y h ext key s.1), sure-more x y h ext rest s.3)
  sure-more x y h ext (Allocated (Input i) key rest) s = absurd s
  sure-more x y h ext (Wrote p value rest) s = sure-more x y h ext rest s
  sure-more x y h ext (WasRead p value u v args inside rest) s =
      let st : Stack = resumed code u v args value in
      let ks : KnownStack n ds st = words_after_read-known n ds code u.0 v args value Empty s.1 s.0 tt in
      (s.0, s.1, at-more x y h ext st inside ks (told-more x y h ext s.2 (knows x h st ks) s.3), sure-more x y h ext inside s.3, sure-more x y h ext rest s.4)

  -- what a stack yields, over what a state knows later
  pub later : (x z : Plain) → Holds n ds x → Extends x z → (st : Stack) (l : Trace) → KnownStack n ds st → Sure code n ds x l → Told code x (next code x st) l → Told code z (next code z st) l
  later x z h e st l k s t = at-more x z h e st l k (told-more x z h e t (knows x h st k) s)

  sure-followed : (x : Plain) (f g : Trace) → Sure code n ds x f → Sure code n ds x g → Sure code n ds x (trace_then f g)
  sure-followed x Nothing g h k = k
  sure-followed x (Stepped rest) g h k = sure-followed x rest g h k
  sure-followed x (Allocated (Core b) key rest) g h k = (h.0, h.1, h.2, sure-followed x rest g h.3 k)
  sure-followed x (Allocated (Input i) key rest) g h k = absurd h
  sure-followed x (Wrote p value rest) g h k = sure-followed x rest g h k
  sure-followed x (WasRead p value u v args inside rest) g h k = (h.0, h.1, h.2, h.3, sure-followed x rest g h.4 k)

  pub record SureAlloc (x : Plain) (key : Key) (t : TakenAlloc) : Type 0 where
    pub core : ℕ
    pub is : t.block ≡ Core core
    pub old : In core ds
    pub held : x (Core core) ≡ Some (made code x key)
    pub left : Sure code n ds x t.leftover

  pub record SureRead (x : Plain) (u : UnitId) (v : ℕ) (args : List Word) (t : TakenRead) : Type 0 where
    pub value : KnownWord n ds t.value
    pub words : KnownWords n ds args
    pub told : Told code x (next code x (resumed code u v args t.value)) t.inside
    pub inside : Sure code n ds x t.inside
    pub left : Sure code n ds x t.leftover

  module _ (x : Plain) where
    alloc-then : (key : Key) (rest : Trace) (first second : Option TakenAlloc) (t : TakenAlloc)
        → Sure code n ds x rest → ((t : TakenAlloc) → first ≡ Some t → SureAlloc x key t) → ((t : TakenAlloc) → second ≡ Some t → SureAlloc x key t)
        → alloc_then rest first second ≡ Some t → SureAlloc x key t
    alloc-then key rest None second t h f g e = g t e
    alloc-then key rest (Some a) second t h f g e =
        let k = f a refl in
        subst (λ t. SureAlloc x key t) (some-same (record a { leftover = trace_then a.leftover rest }) t e)
        (record { core = k.core; is = k.is; old = k.old; held = k.held; left = sure-followed x a.leftover rest k.left h })

    alloc-if : (test : Bool) (b : ℕ) (k key : Key) (rest : Trace) (t : TakenAlloc) → same_key k key ≡ test → In b ds → x (Core b) ≡ Some (made code x k) → Sure code n ds x rest
        → ((t : TakenAlloc) → take_alloc key rest ≡ Some t → SureAlloc x key t)
        → (if test then Some (record { block = Core b; leftover = rest }) else take_alloc key rest) ≡ Some t → SureAlloc x key t
    alloc-if false b k key rest t s i h p g e = g t e
    alloc-if true b k key rest t s i h p g e =
        subst (λ t. SureAlloc x key t) (some-same (record { block = Core b; leftover = rest }) t e) (record { core = b; is = refl; old = i; held = rw (key-same k key s) at h; left = p })

    pub sure-alloc : (key : Key) (old : Trace) → Sure code n ds x old → (t : TakenAlloc) → take_alloc key old ≡ Some t → SureAlloc x key t
    unfolding take_alloc
    sure-alloc key Nothing h t e = none-some t e
    sure-alloc key (Stepped rest) h t e = sure-alloc key rest h t e
    sure-alloc key (Allocated (Core b) k rest) h t e = alloc-if (same_key k key) b k key rest t refl h.0 h.2 h.3 (sure-alloc key rest h.3) e
    sure-alloc key (Allocated (Input i) k rest) h t e = absurd h
    sure-alloc key (Wrote p value rest) h t e = sure-alloc key rest h t e
    sure-alloc key (WasRead p value u v args inside rest) h t e =
        alloc-then key rest (take_alloc key inside) (take_alloc key rest) t h.4 (sure-alloc key inside h.3) (sure-alloc key rest h.4) e

    read-then : (u : UnitId) (v : ℕ) (args : List Word) (rest : Trace) (first second : Option TakenRead) (r : TakenRead)
        → Sure code n ds x rest → ((r : TakenRead) → first ≡ Some r → SureRead x u v args r) → ((r : TakenRead) → second ≡ Some r → SureRead x u v args r)
        → read_then rest first second ≡ Some r → SureRead x u v args r
    read-then u v args rest None second r h f g e = g r e
    read-then u v args rest (Some a) second r h f g e =
        let k = f a refl in
        subst (λ r. SureRead x u v args r) (some-same (record a { leftover = trace_then a.leftover rest }) r e)
        (record { value = k.value; words = k.words; told = k.told; inside = k.inside; left = sure-followed x a.leftover rest k.left h })

    read-if : (test : Bool) (p q : Place) (value : Word) (u u' : UnitId) (v v' : ℕ) (args args' : List Word) (inside rest : Trace) (other : Option TakenRead) (r : TakenRead)
        → (same_place p q && u.0 == u'.0 && v == v' && same_words args args') ≡ test
        → Sure code n ds x (WasRead p value u v args inside rest)
        → ((r : TakenRead) → other ≡ Some r → SureRead x u' v' args' r)
        → (if test then Some (record { value = value; inside = inside; leftover = rest }) else other) ≡ Some r
        → SureRead x u' v' args' r
    read-if false p q value u u' v v' args args' inside rest other r s h g e = g r e
    read-if true p q value u u' v v' args args' inside rest other r s h g e =
        let s1 = both (same_place p q && u.0 == u'.0 && v == v') (same_words args args') s in
        let s2 = both (same_place p q && u.0 == u'.0) (v == v') s1.0 in
        let s3 = both (same_place p q) (u.0 == u'.0) s2.0 in
        let k : SureRead x u v args (record { value = value; inside = inside; leftover = rest }) = record { value = h.0; words = h.1; told = h.2; inside = h.3; left = h.4 } in
        let k' : SureRead x u' v' args' (record { value = value; inside = inside; leftover = rest }) = rw (unit-same u u' s3.1, nat-same v v' s2.1, words-same args args' s1.1) at k in
        subst (λ r. SureRead x u' v' args' r) (some-same (record { value = value; inside = inside; leftover = rest }) r e) k'

    pub sure-read : (p : Place) (u : UnitId) (v : ℕ) (args : List Word) (old : Trace) → Sure code n ds x old → (r : TakenRead) → take_read p u v args old ≡ Some r → SureRead x u v args r
    unfolding take_read
    sure-read p u v args Nothing h r e = none-some r e
    sure-read p u v args (Stepped rest) h r e = sure-read p u v args rest h r e
    sure-read p u v args (Allocated (Core b) k rest) h r e = sure-read p u v args rest h.3 r e
    sure-read p u v args (Allocated (Input i) k rest) h r e = absurd h
    sure-read p u v args (Wrote q value rest) h r e = sure-read p u v args rest h r e
    sure-read p u v args (WasRead q value u' v' args' inside rest) h r e =
        read-if (same_place q p && u'.0 == u.0 && v' == v && same_words args' args) q p value u' u v' v args' args inside rest
        (read_then rest (take_read p u v args inside) (take_read p u v args rest)) r refl h
        (λ r. read-then u v args rest (take_read p u v args inside) (take_read p u v args rest) r h.4 (sure-read p u v args inside h.3) (sure-read p u v args rest h.4)) e

  -- items that a stack yields, of which each mentions known blocks
  pub yields-sure : (x : Plain) {st : Stack} {l : Trace} → Yields code x st l → (bs cs : List ℕ) → Mentions n bs l cs → Subset cs ds → Sure code n ds x l
  yields-sure x (Yields.over e) bs cs Mentions.end sub = tt
  yields-sure x (Yields.quiet e r) bs cs (Mentions.step m) sub = yields-sure x r bs cs m sub
  yields-sure x (Yields.makes {key = key} {b = b} e h r) bs cs (Mentions.step (Mentions.alloc k m)) sub =
      (sub b (mentions-subset m b here), key-more n bs ds (λ c i. sub c (mentions-subset m c (there i))) key k, h, yields-sure x r (b ∷ bs) cs m sub)
  yields-sure x (Yields.writes e r) bs cs (Mentions.step (Mentions.write p v m)) sub = yields-sure x r bs cs m sub
  yields-sure x (Yields.reads {args = args} {value = value} e r1 r2) bs cs (Mentions.step (Mentions.read {ds = es} p kv ka m1 m2)) sub = (
    word-more n bs ds (λ c i. sub c (mentions-subset m2 c (mentions-subset m1 c i))) value kv,
    words-more n bs ds (λ c i. sub c (mentions-subset m2 c (mentions-subset m1 c i))) args ka,
    yields-told code x r1,
    yields-sure x r1 bs es m1 (λ c i. sub c (mentions-subset m2 c i)),
    yields-sure x r2 es cs m2 sub,
  )
