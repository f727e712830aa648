-- What a repair gives is yielded by the same stack, over the plain words at the end.
use Rattle.std.proofs.Common.{◌≡◌, ℕ, pos, Bool, true, false, if◌then◌else◌, Option, Some, List, ◌∷◌, sym, ap, ◌∙◌, subst}
use Rattle.ceal_base.specs.Operators.{same_block, same_place}
use Rattle.ceal_base.specs.Trace.{Trace, Stepped, Allocated}
use Rattle.ceal_base.specs.declared.forest.Key.{Key}
use Rattle.ceal_base.specs.declared.forest.Key.TheVariants.{Init, ModInt as IntKey, ModPtr as PtrKey}
use Rattle.ceal_base.specs.declared.forest.UnitId.{UnitId}
use Rattle.ceal_base.specs.declared.kind.FieldKind.{FieldKind}
use Rattle.ceal_base.specs.declared.word.BlockId.{BlockId}
use Rattle.ceal_base.specs.declared.word.BlockId.TheVariants.{Input, Core}
use Rattle.ceal_base.specs.declared.word.Place.{Place}
use Rattle.ceal_base.specs.declared.word.Word.{Word}
use Rattle.ceal_base.specs.declared.word.Word.TheVariants.{Num}
use Rattle.ceal_code.proofs.Words.Closed.{field_default-of}
use Rattle.ceal_code.proofs.Words.StepLocality.{word-more, words-more, stack-more, variables-more, set-known, words_after_read-known, next-known, next-same, made-known, made-same}
use Rattle.ceal_code.specs.Init.{made, pointer}
use Rattle.ceal_code.specs.Known.{Subset, Held, Holds, KnownVariables, KnownStack, KnownAct}
use Rattle.ceal_code.specs.Program.{Code}
use Rattle.ceal_code.specs.Replay.{Yields, In, here, there, KnownBlock, KnownWord, KnownWords, KnownKey, Mentions, Store, learnt, cell_default, shape_of, cleared, stored}
use Rattle.ceal_code.specs.Step.{Stack, Empty, Run, Act, Over, Quiet, Makes, Writes, Reads, next}
use Rattle.ceal_code.specs.Value.{Plain, Variables, set, field_kind, field_default, is_cell}
use Rattle.ceal_theory.proofs.Repair.RepairInvariant.{Extends, extends-trans, agrees, Good, Pieces}
use Rattle.ceal_theory.proofs.Store.WordsGrow.{learnt-extends, learnt-here, learnt-free, fix-grows, mend-grows, anew-grows, mentions-subset, pieces-more}
use Rattle.ceal_theory.proofs.Reuse.TakenItems.{take-alloc, take-read}
use Rattle.ceal_theory.specs.Repair.{Single, State, clears, puts, works, grows, resumed, Fix, Mend, Reruns}

pub wider : (b : ℕ) (bs : List ℕ) → Subset bs (b ∷ bs)
wider b bs c h = there h

pub pointer-known : (inputs : ℕ) (bs : List ℕ) (key : Key) (b : BlockId) → KnownBlock inputs bs b → KnownWord inputs bs (pointer key b)
pointer-known inputs bs (Init f args) b h = h
pointer-known inputs bs IntKey b h = h
pointer-known inputs bs (PtrKey s) b h = h

pub held-more : (inputs : ℕ) (bs cs : List ℕ) (x x' : Plain) → Subset bs cs → Extends x x' → (b : BlockId) → Held inputs bs x b → Held inputs cs x' b
held-more inputs bs cs x x' sub ext b h =
    record { block = h.block; there = ext b h.block h.there; known = words-more inputs bs cs sub h.block.words h.known }

core-held : (inputs : ℕ) (bs : List ℕ) (x x' : Plain) (b c : ℕ) → Holds inputs bs x → Extends x x' → Held inputs (b ∷ bs) x' (Core b)
    → In c (b ∷ bs) → Held inputs (b ∷ bs) x' (Core c)
core-held inputs bs x x' b c h ext k here = k
core-held inputs bs x x' b c h ext k (there i) = held-more inputs bs (b ∷ bs) x x' (wider b bs) ext (Core c) (h (Core c) i)

pub holds-with : (inputs : ℕ) (bs : List ℕ) (x x' : Plain) (b : ℕ) → Holds inputs bs x → Extends x x' → Held inputs (b ∷ bs) x' (Core b) → Holds inputs (b ∷ bs) x'
holds-with inputs bs x x' b h ext k (Input i) l = held-more inputs bs (b ∷ bs) x x' (wider b bs) ext (Input i) (h (Input i) l)
holds-with inputs bs x x' b h ext k (Core c) l = core-held inputs bs x x' b c h ext k l

if-word : (inputs : ℕ) (bs : List ℕ) (b : Bool) (v w : Word) → KnownWord inputs bs v → KnownWord inputs bs w → KnownWord inputs bs (if b then v else w)
if-word inputs bs true v w h k = h
if-word inputs bs false v w h k = k

pub cell-known : (inputs : ℕ) (bs : List ℕ) (kind : Option FieldKind) → KnownWord inputs bs (cell_default kind)
cell-known inputs bs kind = if-word inputs bs (is_cell kind) (field_default kind) (Num (pos 0)) (field_default-of (KnownWord inputs bs) (λ n. tt) tt kind) tt

pub cleared-known : (code : Code) (inputs : ℕ) (bs : List ℕ) (s : Store) (b : BlockId) (key : Key) →
    ((p : Place) → KnownWord inputs bs (s p)) → (p : Place) → KnownWord inputs bs (cleared code s b key p)
unfolding cleared
cleared-known code inputs bs s b key h p =
    if-word inputs bs (same_block p.block b) (cell_default (field_kind code.structs (shape_of code key) p.field))
    (s p) (cell-known inputs bs (field_kind code.structs (shape_of code key) p.field)) (h p)

pub stored-known : (inputs : ℕ) (bs : List ℕ) (s : Store) (q : Place) (v : Word) →
    ((p : Place) → KnownWord inputs bs (s p)) → KnownWord inputs bs v → (p : Place) → KnownWord inputs bs
    (stored s q v p)
unfolding stored
stored-known inputs bs s q v h k p = if-word inputs bs (same_place p q) v (s p) k (h p)

pub store-more : (inputs : ℕ) (bs cs : List ℕ) (s : Store) → Subset bs cs → ((p : Place) → KnownWord inputs bs (s p)) → (p : Place) → KnownWord inputs cs (s p)
store-more inputs bs cs s sub h p = word-more inputs bs cs sub (s p) (h p)

good-clears : (names : ℕ → ℕ) (code : Code) (inputs : ℕ) (bs : List ℕ) (s : State) (b : ℕ) (key : Key)
    → Good names inputs bs s → Held inputs (b ∷ bs) s.plain (Core b) → Good names inputs (b ∷ bs)
    (clears code s (Core b) key)
good-clears names code inputs bs s b key g h = record {
  plain = holds-with inputs bs s.plain s.plain b g.plain (λ c block e. e) h;
  store = cleared-known code inputs (b ∷ bs) s.store (Core b) key (store-more inputs bs (b ∷ bs) s.store (wider b bs) g.store);
  free = g.free;
}

good-works : (names : ℕ → ℕ) (inputs : ℕ) (bs : List ℕ) (s : State) → Good names inputs bs s → Good names inputs bs (works s)
good-works names inputs bs s g = record { plain = g.plain; store = g.store; free = g.free }

good-puts : (names : ℕ → ℕ) (inputs : ℕ) (bs : List ℕ) (s : State) (p : Place) (v : Word) → Good names inputs bs s → KnownWord inputs bs v → Good names inputs bs (puts s p v)
good-puts names inputs bs s p v g k = record { plain = g.plain; store = stored-known inputs bs s.store p v g.store k; free = g.free }

-- with a new block, to which the variable points
pub ran-known : (inputs : ℕ) (bs : List ℕ) (key : Key) (b v u i : ℕ) (env : Variables) (below : Stack)
    → KnownVariables inputs bs env → KnownStack inputs bs below → KnownStack inputs (b ∷ bs) (Run u i (set env v (pointer key (Core b))) below)
ran-known inputs bs key b v u i env below h k = (
  set-known inputs (b ∷ bs) env v (pointer key (Core b)) (variables-more inputs bs (b ∷ bs) (wider b bs) env h) (pointer-known inputs (b ∷ bs) key (Core b) here),
  stack-more inputs bs (b ∷ bs) (wider b bs) below k,
)

module _ (code : Code) (inputs : ℕ) (y : Plain) where
  pub step-y : (bs : List ℕ) (x : Plain) (st : Stack) (a : Act) → Holds inputs bs x → Extends x y → KnownStack inputs bs st → next code y st ≡ a → KnownAct inputs bs a
  step-y bs x st a h ext k e =
      subst (KnownAct inputs bs) (next-same inputs bs x h y (agrees inputs bs x y h ext) code st k ∙ e) (next-known inputs bs x h y (agrees inputs bs x y h ext) code st k)

  pub step-x : (bs : List ℕ) (x : Plain) (st : Stack) (a : Act) → Holds inputs bs x → Extends x y → KnownStack inputs bs st → next code x st ≡ a → (next code y st ≡ a) × KnownAct inputs bs a
  step-x bs x st a h ext k e = (
    sym (next-same inputs bs x h y (agrees inputs bs x y h ext) code st k) ∙ e,
    subst (KnownAct inputs bs) e (next-known inputs bs x h y (agrees inputs bs x y h ext) code st k),
  )

  pub same-made : (bs : List ℕ) (x : Plain) (key : Key) → Holds inputs bs x → Extends x y → KnownKey inputs bs key → made code x key ≡ made code y key
  same-made bs x key h ext k = made-same inputs bs x h y (agrees inputs bs x y h ext) code key k

  -- a block that is in x what y makes of a known key
  pub held-key : (bs : List ℕ) (x : Plain) (key : Key) (b : ℕ) → Holds inputs bs x → Extends x y → KnownKey inputs bs key → x (Core b) ≡ Some (made code y key)
      → Held inputs (b ∷ bs) x (Core b)
  held-key bs x key b h ext k e = record {
    block = made code y key;
    there = e;
    known = words-more inputs bs (b ∷ bs) (wider b bs) (made code y key).words
        (subst (λ block. KnownWords inputs bs block.words) (same-made bs x key h ext k) (made-known inputs bs x h y (agrees inputs bs x y h ext) code key k));
  }

module _ (names : ℕ → ℕ) (single : Single names) (code : Code) (inputs : ℕ) where
  good-grows : (bs : List ℕ) (s : State) (key : Key) → Good names inputs bs s → KnownKey inputs bs key → Good names inputs (names s.number ∷ bs) (grows code names s key)
  good-grows bs s key g k =
      let block = made code s.plain key in
      let held : Held inputs (names s.number ∷ bs) (learnt s.plain (Core (names s.number)) block) (Core (names s.number)) = record {
        block = block;
        there = learnt-here s.plain (Core (names s.number)) block;
        known = words-more inputs bs (names s.number ∷ bs) (wider (names s.number) bs) block.words (made-known inputs bs s.plain g.plain s.plain (λ b h. λ i. s.plain b) code key k);
      } in
      record {
        plain = holds-with inputs bs s.plain (learnt s.plain (Core (names s.number)) block) (names s.number) g.plain (learnt-extends names s.plain s.number block g.free) held;
        store = cleared-known code inputs (names s.number ∷ bs) s.store (Core (names s.number)) key (store-more inputs bs (names s.number ∷ bs) s.store (wider (names s.number) bs) g.store);
        free = learnt-free names single s.plain s.number block g.free;
      }

  -- what the new items of a repair are, from known blocks bs and a stack, over the plain words y
  pub record Played (y : Plain) (bs : List ℕ) (st : Stack) (new : Trace) (s' : State) : Type 0 where
    pub known : List ℕ
    pub mentions : Mentions inputs bs new known
    pub yields : Yields code y st new
    pub good : Good names inputs known s'

  pub record Left (y : Plain) (bs : List ℕ) (st : Stack) (new over : Trace) (s' : State) : Type 0 where
    pub known : List ℕ
    pub mentions : Mentions inputs bs new known
    pub yields : Yields code y st new
    pub good : Good names inputs known s'
    pub left : Pieces code s'.plain y over

  module _ (y : Plain) where
    -- a taken block, which is a core block
    took : (bs : List ℕ) (st below : Stack) (key : Key) (v u i b : ℕ) (env : Variables) (d : BlockId) (new left : Trace) (s s' : State)
        → d ≡ Core b → next code y st ≡ Makes key v u i env below → KnownKey inputs bs key → y (Core b) ≡ Some (made code y key) → Good names inputs bs s → Held inputs (b ∷ bs) s.plain (Core b)
        → KnownVariables inputs bs env → KnownStack inputs bs below
        → (Good names inputs (b ∷ bs) (clears code s d key) → KnownStack inputs (b ∷ bs)
        (Run u i (set env v (pointer key d)) below) → Left y (b ∷ bs)
        (Run u i (set env v (pointer key d)) below) new left s')
        → Left y bs st (Stepped (Allocated d key new)) left s'
    took bs st below key v u i b env d new left s s' is e kk h g held kv ks =
        subst (λ d. (Good names inputs (b ∷ bs) (clears code s d key) → KnownStack inputs (b ∷ bs)
        (Run u i (set env v (pointer key d)) below) → Left y (b ∷ bs)
        (Run u i (set env v (pointer key d)) below) new left s')
        → Left y bs st (Stepped (Allocated d key new)) left s') (sym is) (λ f. go (f (good-clears names code inputs bs s b key g held) (ran-known inputs bs key b v u i env below kv ks)))
      where
        go : Left y (b ∷ bs) (Run u i (set env v (pointer key (Core b))) below) new left s' → Left y bs st (Stepped (Allocated (Core b) key new)) left s'
        go q = record { known = q.known; mentions = Mentions.step (Mentions.alloc kk q.mentions); yields = Yields.makes e h q.yields; good = q.good; left = q.left }

    mutual
      pub fix-plays : {s s' : State} {old new : Trace} → Fix code names s old s' new
          → Extends s'.plain y → (bs : List ℕ) → Good names inputs bs s
          → (st : Stack) → Yields code y st old → KnownStack inputs bs st → Pieces code s.plain y old
          → Played y bs st new s'
      fix-plays Fix.end ext bs g st (Yields.over e) k h = record { known = bs; mentions = Mentions.end; yields = Yields.over e; good = g }
      fix-plays {s} {s'} (Fix.step f) ext bs g st (Yields.quiet {after = after} e r) k h =
          let x = extends-trans s.plain s'.plain y (fix-grows single f g.free).plain ext in
          let q = fix-plays f ext bs g after r (step-y code inputs y bs s.plain st (Quiet after) g.plain x k e) h in
          record { known = q.known; mentions = Mentions.step q.mentions; yields = Yields.quiet e q.yields; good = q.good }
      fix-plays {s} {s'} (Fix.step (Fix.alloc f)) ext bs g st (Yields.makes {key = key} {v = v} {u = u} {i = i} {env = env} {below = below} {b = b} e m r) k h =
          let x = extends-trans s.plain s'.plain y (fix-grows single f g.free).plain ext in
          let a = step-y code inputs y bs s.plain st (Makes key v u i env below) g.plain x k e in
          let g' = good-clears names code inputs bs s b key g (held-key code inputs y bs s.plain key b g.plain x a.0 h.0) in
          let q = fix-plays f ext (b ∷ bs) g' (Run u i (set env v (pointer key (Core b))) below) r (ran-known inputs bs key b v u i env below a.1 a.2) h.1 in
          record { known = q.known; mentions = Mentions.step (Mentions.alloc a.0 q.mentions); yields = Yields.makes e m q.yields; good = q.good }
      fix-plays {s} {s'} (Fix.step (Fix.write f)) ext bs g st (Yields.writes {after = after} {p = p} {value = value} e r) k h =
          let x = extends-trans s.plain s'.plain y (fix-grows single f g.free).plain ext in
          let a = step-y code inputs y bs s.plain st (Writes p value after) g.plain x k e in
          let q = fix-plays f ext bs (good-puts names inputs bs s p value g a.1) after r a.2 h in
          record { known = q.known; mentions = Mentions.step (Mentions.write a.0 a.1 q.mentions); yields = Yields.writes e q.yields; good = q.good }
      fix-plays {s} {s'} (Fix.step (Fix.read {t = t} m f)) ext bs g st (Yields.reads {below = below} {p = p} {u = u} {v = v} {args = args} {rest = rest} e r1 r2) k h =
          let gm = mend-grows single m g.free in
          let xt = extends-trans t.plain s'.plain y (fix-grows single f gm.free).plain ext in
          let x = extends-trans s.plain t.plain y gm.plain xt in
          let a = step-y code inputs y bs s.plain st (Reads p u v args below) g.plain x k e in
          let q1 = mend-plays m xt bs g r1 a.1 h.1 in
          let q2 = fix-plays f ext q1.known q1.good below r2 (stack-more inputs bs q1.known (mentions-subset q1.mentions) below a.2) (pieces-more code s.plain t.plain y gm.plain rest h.2) in
          record { known = q2.known; mentions = Mentions.step (Mentions.read a.0 (g.store p) a.1 q1.mentions q2.mentions); yields = Yields.reads e q1.yields q2.yields; good = q2.good }
      fix-plays (Fix.alloc f) ext bs g st r k h = elim r [ ]
      fix-plays (Fix.write f) ext bs g st r k h = elim r [ ]
      fix-plays (Fix.read m f) ext bs g st r k h = elim r [ ]

      pub mend-plays : {s t : State} {p : Place} {u : UnitId} {v : ℕ} {args : List Word} {value : Word} {old new : Trace}
          → Mend code names s p u v args value old t new
          → Extends t.plain y → (bs : List ℕ) → Good names inputs bs s
          → Yields code y (resumed code u v args value) old → KnownWords inputs bs args → Pieces code s.plain y old
          → Played y bs (resumed code u v args (s.store p)) new t
      mend-plays {s} {t} {p} {u} {v} {args} {value} {old} {new} (Mend.kept e f) ext bs g r k h =
          let kv : KnownWord inputs bs value = subst (KnownWord inputs bs) e (g.store p) in
          let q = fix-plays f ext bs g (resumed code u v args value) r (words_after_read-known inputs bs code u.0 v args value Empty k kv tt) h in
          subst (λ w. Played y bs (resumed code u v args w) new t) (sym e) q
      mend-plays {s} {t} {p} {u} {v} {args} (Mend.stale e a) ext bs g r k h =
          let q = anew-plays a ext bs g (words_after_read-known inputs bs code u.0 v args (s.store p) Empty k (g.store p) tt) h in
          record { known = q.known; mentions = q.mentions; yields = q.yields; good = q.good }

      pub anew-plays : {s s' : State} {st : Stack} {old new left : Trace} → Reruns code names s st old s' new left
          → Extends s'.plain y → (bs : List ℕ) → Good names inputs bs s
          → KnownStack inputs bs st → Pieces code s.plain y old
          → Left y bs st new left s'
      anew-plays {s} {s'} {st} (Reruns.over e) ext bs g k h =
          let a = step-x code inputs y bs s.plain st Over g.plain ext k e in
          record { known = bs; mentions = Mentions.end; yields = Yields.over a.0; good = g; left = h }
      anew-plays {s} {s'} {st} (Reruns.quiet {after = after} e n) ext bs g k h =
          let x = extends-trans s.plain s'.plain y (anew-grows single n g.free).plain ext in
          let a = step-x code inputs y bs s.plain st (Quiet after) g.plain x k e in
          let q = anew-plays n ext bs (good-works names inputs bs s g) a.1 h in
          record { known = q.known; mentions = Mentions.step q.mentions; yields = Yields.quiet a.0 q.yields; good = q.good; left = q.left }
      anew-plays {s} {s'} {st} {old} (Reruns.takes_alloc {below = below} {key = key} {v = v} {u = u} {i = i} {env = env} {new = new} {left = left} {t = t} e w n) ext bs g k h =
          let x = extends-trans s.plain s'.plain y (anew-grows single n g.free).plain ext in
          let a = step-x code inputs y bs s.plain st (Makes key v u i env below) g.plain x k e in
          let d = take-alloc code s.plain y key old h t w in
          took bs st below key v u i d.core env t.block new left (works s) s' d.is a.0 a.1.0 (x (Core d.core) (made code y key) d.held) (good-works names inputs bs s g)
          (held-key code inputs y bs s.plain key d.core g.plain x a.1.0 d.held) a.1.1 a.1.2 (λ g' k'. anew-plays n ext (d.core ∷ bs) g' k' d.left)
      anew-plays {s} {s'} {st} {old} (Reruns.makes {below = below} {key = key} {v = v} {u = u} {i = i} {env = env} e w n) ext bs g k h =
          let block = made code s.plain key in
          let x' = extends-trans (learnt s.plain (Core (names s.number)) block) s'.plain y (anew-grows single n (learnt-free names single s.plain s.number block g.free)).plain ext in
          let x = extends-trans s.plain (learnt s.plain (Core (names s.number)) block) y (learnt-extends names s.plain s.number block g.free) x' in
          let a = step-x code inputs y bs s.plain st (Makes key v u i env below) g.plain x k e in
          let h' = pieces-more code s.plain (learnt s.plain (Core (names s.number)) block) y (learnt-extends names s.plain s.number block g.free) old h in
          let q = anew-plays n ext (names s.number ∷ bs)
          (good-grows bs (works s) key (good-works names inputs bs s g) a.1.0)
          (ran-known inputs bs key (names s.number) v u i env below a.1.1 a.1.2) h' in
          let there' : y (Core (names s.number)) ≡ Some (made code y key) =
          x' (Core (names s.number)) block (learnt-here s.plain (Core (names s.number)) block) ∙ ap Some (same-made code inputs y bs s.plain key g.plain x a.1.0) in
          record { known = q.known; mentions = Mentions.step (Mentions.alloc a.1.0 q.mentions); yields = Yields.makes a.0 there' q.yields; good = q.good; left = q.left }
      anew-plays {s} {s'} {st} (Reruns.writes {after = after} {p = p} {value = value} e n) ext bs g k h =
          let x = extends-trans s.plain s'.plain y (anew-grows single n g.free).plain ext in
          let a = step-x code inputs y bs s.plain st (Writes p value after) g.plain x k e in
          let q = anew-plays n ext bs (good-puts names inputs bs (works s) p value (good-works names inputs bs s g) a.1.1) a.1.2 h in
          record { known = q.known; mentions = Mentions.step (Mentions.write a.1.0 a.1.1 q.mentions); yields = Yields.writes a.0 q.yields; good = q.good; left = q.left }
      anew-plays {s} {s'} {st} {old} (Reruns.takes_read {t = t} {below = below} {p = p} {u = u} {v = v} {args = args} {r = r} e w m n) ext bs g k h =
          let gm = mend-grows single m g.free in
          let xt = extends-trans t.plain s'.plain y (anew-grows single n gm.free).plain ext in
          let x = extends-trans s.plain t.plain y gm.plain xt in
          let a = step-x code inputs y bs s.plain st (Reads p u v args below) g.plain x k e in
          let d = take-read code s.plain y p u v args old h r w in
          let q1 = mend-plays m xt bs (good-works names inputs bs s g) d.yields a.1.1 d.inside in
          let q2 = anew-plays n ext q1.known q1.good (stack-more inputs bs q1.known (mentions-subset q1.mentions) below a.1.2) (pieces-more code s.plain t.plain y gm.plain r.leftover d.left) in
          record {
            known = q2.known;
            mentions = Mentions.step
                (Mentions.read a.1.0 (g.store p) a.1.1 q1.mentions q2.mentions);
            yields =
                Yields.reads a.0 q1.yields q2.yields;
            good = q2.good;
            left = q2.left;
          }
      anew-plays {s} {s'} {st} {old} (Reruns.reads {t = t} {below = below} {p = p} {u = u} {v = v} {args = args} e w m n) ext bs g k h =
          let gm = anew-grows single m g.free in
          let xt = extends-trans t.plain s'.plain y (anew-grows single n gm.free).plain ext in
          let x = extends-trans s.plain t.plain y gm.plain xt in
          let a = step-x code inputs y bs s.plain st (Reads p u v args below) g.plain x k e in
          let q1 = anew-plays m xt bs (good-works names inputs bs s g) (words_after_read-known inputs bs code u.0 v args (s.store p) Empty a.1.1 (g.store p) tt) h in
          let q2 = anew-plays n ext q1.known q1.good (stack-more inputs bs q1.known (mentions-subset q1.mentions) below a.1.2) q1.left in
          record {
            known = q2.known;
            mentions = Mentions.step
                (Mentions.read a.1.0 (g.store p) a.1.1 q1.mentions q2.mentions);
            yields =
                Yields.reads a.0 q1.yields q2.yields;
            good = q2.good;
            left = q2.left;
          }
