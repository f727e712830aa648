-- What is taken from old items, and what is left over.
use Rattle.std.proofs.Common.{◌≡◌, ℕ, Bool, true, false, ◌==◌, ◌&&◌, if◌then◌else◌, Option, Some, None, List, [], ◌∷◌, refl, ap, ap₂, subst, arith}
use Rattle.ceal_base.specs.Operators.{same_place, same_word}
use Rattle.ceal_base.specs.Trace.{Trace, Nothing, Stepped, Allocated, Wrote, WasRead, trace_then}
use Rattle.ceal_base.specs.declared.forest.Key.{Key}
use Rattle.ceal_base.specs.declared.forest.Key.TheVariants.{Init, ModInt as IntKey, ModPtr as PtrKey}
use Rattle.ceal_base.specs.declared.forest.UnitId.{UnitId}
use Rattle.ceal_base.specs.declared.word.BlockId.TheVariants.{Input, Core}
use Rattle.ceal_base.specs.declared.word.Place.{Place}
use Rattle.ceal_base.specs.declared.word.Word.{Word}
use Rattle.ceal_code.proofs.Words.SameIsEqual.{both, nat-same, word-same, some-same, none-some}
use Rattle.ceal_code.specs.Init.{made}
use Rattle.ceal_code.specs.Program.{Code}
use Rattle.ceal_code.specs.Replay.{Yields}
use Rattle.ceal_code.specs.Value.{Plain}
use Rattle.ceal_theory.proofs.Repair.RepairInvariant.{Pieces}
use Rattle.ceal_theory.specs.Repair.{resumed}
use Rattle.ceal_theory.specs.Take.{TakenAlloc, TakenRead, same_words, same_key, alloc_then, read_then, take_alloc, take_read}

pub words-same : (vs ws : List Word) → same_words vs ws ≡ true → vs ≡ ws
words-same [] [] h = refl
words-same (v ∷ vs) (w ∷ ws) h =
    let k = both (same_word v w) (same_words vs ws) h in ap₂ ◌∷◌ (word-same v w k.0) (words-same vs ws k.1)
words-same _ _ h = absurd (grind (arith, h))

pub key-same : (k l : Key) → same_key k l ≡ true → k ≡ l
key-same (Init f vs) (Init g ws) h =
    let k = both (f == g) (same_words vs ws) h in ap₂ Init (nat-same f g k.0) (words-same vs ws k.1)
key-same IntKey IntKey h = refl
key-same (PtrKey s) (PtrKey t) h = ap PtrKey (nat-same s t h)
key-same _ _ h = absurd (grind (arith, h))

pub unit-same : (u w : UnitId) → (u.0 == w.0) ≡ true → u ≡ w
unit-same u w h = ap (λ n. record { 0 = n }) (nat-same u.0 w.0 h)

module _ (code : Code) (x y : Plain) where
  pub pieces-followed : (f g : Trace) → Pieces code x y f → Pieces code x y g → Pieces code x y (trace_then f g)
  pieces-followed Nothing g h k = k
  pieces-followed (Stepped rest) g h k = pieces-followed rest g h k
  pieces-followed (Allocated (Core b) key rest) g h k = (h.0, pieces-followed rest g h.1 k)
  pieces-followed (Allocated (Input i) key rest) g h k = absurd h
  pieces-followed (Wrote p value rest) g h k = pieces-followed rest g h k
  pieces-followed (WasRead p value u v args inside rest) g h k = (h.0, h.1, pieces-followed rest g h.2 k)

  pub record FromAlloc (key : Key) (t : TakenAlloc) : Type 0 where
    pub core : ℕ
    pub is : t.block ≡ Core core
    pub held : x (Core core) ≡ Some (made code y key)
    pub left : Pieces code x y t.leftover

  pub record FromRead (u : UnitId) (v : ℕ) (args : List Word) (r : TakenRead) : Type 0 where
    pub yields : Yields code y (resumed code u v args r.value) r.inside
    pub inside : Pieces code x y r.inside
    pub left : Pieces code x y r.leftover

  alloc-then : (key : Key) (rest : Trace) (first second : Option TakenAlloc) (t : TakenAlloc)
      → Pieces code x y rest
      → ((t : TakenAlloc) → first ≡ Some t → FromAlloc key t)
      → ((t : TakenAlloc) → second ≡ Some t → FromAlloc key t)
      → alloc_then rest first second ≡ Some t → FromAlloc key t
  alloc-then key rest None second t h f g e = g t e
  alloc-then key rest (Some a) second t h f g e =
      let k = f a refl in
      subst (λ t. FromAlloc key t) (some-same (record a { leftover = trace_then a.leftover rest }) t e)
      (record { core = k.core; is = k.is; held = k.held; left = pieces-followed a.leftover rest k.left h })

  alloc-if : (test : Bool) (b : ℕ) (k key : Key) (rest : Trace) (t : TakenAlloc)
      → same_key k key ≡ test
      → x (Core b) ≡ Some (made code y k)
      → Pieces code x y rest
      → ((t : TakenAlloc) → take_alloc key rest ≡ Some t → FromAlloc key t)
      → (if test then Some (record { block = Core b; leftover = rest }) else take_alloc key rest) ≡ Some t
      → FromAlloc key t
  alloc-if false b k key rest t s h p g e = g t e
  alloc-if true b k key rest t s h p g e =
      subst (λ t. FromAlloc key t) (some-same (record { block = Core b; leftover = rest }) t e)
      (record { core = b; is = refl; held = rw (key-same k key s) at h; left = p })

  -- the block that is taken has in x what the key gives
  pub take-alloc : (key : Key) (old : Trace) → Pieces code x y old → (t : TakenAlloc) → take_alloc key old ≡ Some t → FromAlloc key t
  unfolding take_alloc
  take-alloc key Nothing h t e = none-some t e
  take-alloc key (Stepped rest) h t e = take-alloc key rest h t e
  take-alloc key (Allocated (Core b) k rest) h t e = alloc-if (same_key k key) b k key rest t refl h.0 h.1 (take-alloc key rest h.1) e
  take-alloc key (Allocated (Input i) k rest) h t e = absurd h
  take-alloc key (Wrote p value rest) h t e = take-alloc key rest h t e
  take-alloc key (WasRead p value u v args inside rest) h t e =
      alloc-then key rest (take_alloc key inside) (take_alloc key rest) t h.2 (take-alloc key inside h.1) (take-alloc key rest h.2) e

  read-then : (u : UnitId) (v : ℕ) (args : List Word) (rest : Trace) (first second : Option TakenRead) (r : TakenRead)
      → Pieces code x y rest
      → ((r : TakenRead) → first ≡ Some r → FromRead u v args r)
      → ((r : TakenRead) → second ≡ Some r → FromRead u v args r)
      → read_then rest first second ≡ Some r → FromRead u v args r
  read-then u v args rest None second r h f g e = g r e
  read-then u v args rest (Some a) second r h f g e =
      let k = f a refl in
      subst (λ r. FromRead u v args r) (some-same (record a { leftover = trace_then a.leftover rest }) r e)
      (record { yields = k.yields; inside = k.inside; left = pieces-followed a.leftover rest k.left h })

  read-if : (test : Bool) (p q : Place) (value : Word) (u u' : UnitId) (v v' : ℕ) (args args' : List Word) (inside rest : Trace) (other : Option TakenRead) (r : TakenRead)
      → (same_place p q && u.0 == u'.0 && v == v' && same_words args args') ≡ test
      → Yields code y (resumed code u v args value) inside
      → Pieces code x y inside
      → Pieces code x y rest
      → ((r : TakenRead) → other ≡ Some r → FromRead u' v' args' r)
      → (if test then Some (record { value = value; inside = inside; leftover = rest }) else other) ≡ Some r
      → FromRead u' v' args' r
  read-if false p q value u u' v v' args args' inside rest other r s h i l g e = g r e
  read-if true p q value u u' v v' args args' inside rest other r s h i l g e =
      let s1 = both (same_place p q && u.0 == u'.0 && v == v') (same_words args args') s in
      let s2 = both (same_place p q && u.0 == u'.0) (v == v') s1.0 in
      let s3 = both (same_place p q) (u.0 == u'.0) s2.0 in
      let k : FromRead u v args (record { value = value; inside = inside; leftover = rest }) = record { yields = h; inside = i; left = l } in
      let k' : FromRead u' v' args' (record { value = value; inside = inside; leftover = rest }) = rw (unit-same u u' s3.1, nat-same v v' s2.1, words-same args args' s1.1) at k in
      subst (λ r. FromRead u' v' args' r) (some-same (record { value = value; inside = inside; leftover = rest }) r e) k'

  -- the read that is taken has the items that its unit yields on its value
  pub take-read : (p : Place) (u : UnitId) (v : ℕ) (args : List Word) (old : Trace) → Pieces code x y old
      → (r : TakenRead) → take_read p u v args old ≡ Some r → FromRead u v args r
  unfolding take_read
  take-read p u v args Nothing h r e = none-some r e
  take-read p u v args (Stepped rest) h r e = take-read p u v args rest h r e
  take-read p u v args (Allocated (Core b) k rest) h r e = take-read p u v args rest h.1 r e
  take-read p u v args (Allocated (Input i) k rest) h r e = absurd h
  take-read p u v args (Wrote q value rest) h r e = take-read p u v args rest h r e
  take-read p u v args (WasRead q value u' v' args' inside rest) h r e =
      read-if (same_place q p && u'.0 == u.0 && v' == v && same_words args' args) q p value u' u v' v args' args inside rest
      (read_then rest (take_read p u v args inside) (take_read p u v args rest)) r refl h.0 h.1 h.2
      (λ r. read-then u v args rest (take_read p u v args inside) (take_read p u v args rest) r h.2 (take-read p u v args inside h.1) (take-read p u v args rest h.2)) e
