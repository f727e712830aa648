-- What the store has at places of core blocks when a slice begins does not matter: where the slice looks, the items
-- before have allocated the block.
use Rattle.std.proofs.Common.{ℕ, suc, Option, List, [], ◌∷◌, length, sym, ◌∙◌, subst}
use Rattle.ceal_base.specs.Block.{Block}
use Rattle.ceal_base.specs.Trace.{Trace, WasRead}
use Rattle.ceal_base.specs.declared.forest.Key.{Key}
use Rattle.ceal_base.specs.declared.word.BlockId.TheVariants.{Core}
use Rattle.ceal_base.specs.declared.word.Place.{Place}
use Rattle.ceal_base.specs.declared.word.Word.{Word}
use Rattle.ceal_code.proofs.Words.StepLocality.{stack-more, words_after_read-known}
use Rattle.ceal_code.specs.Fitting.{Fits}
use Rattle.ceal_code.specs.Known.{Subset, Held, KnownStack}
use Rattle.ceal_code.specs.Program.{Code}
use Rattle.ceal_code.specs.Replay.{Yields, Store, there, KnownWord, cleared, stored, bases}
use Rattle.ceal_code.specs.Step.{Stack, Empty, Run, Quiet, Makes, Writes, Reads, started}
use Rattle.ceal_code.specs.Value.{Plain}
use Rattle.ceal_theory.proofs.Repair.RepairInvariant.{Extends, extends-trans, agrees, Good, Pieces}
use Rattle.ceal_theory.proofs.Store.WordsGrow.{mentions-subset, pieces-more, anew-grows}
use Rattle.ceal_theory.proofs.Store.FittingInputs.{bases-known}
use Rattle.ceal_theory.proofs.Repair.RepairYields.{wider, holds-with, ran-known, cleared-known, store-more, held-key, step-y, anew-plays}
use Rattle.ceal_theory.specs.Repair.{Single, State, clears, resumed, Reruns}
use Rattle.ceal_theory.proofs.Store.KnownPlaces.{SameAt, cleared-same, stored-same, anew-again}
use Rattle.ceal_theory.specs.Walk.{with_store}
use Rattle.ceal_theory.proofs.SlicedRepair.DoneReplays.{same-bases, begun}
use Rattle.ceal_theory.proofs.SlicedRepair.Soundness.{good, start-known, starting-known}
use Rattle.ceal_theory.proofs.Store.Mentions.{uses-yields, uses-pieces}
use Rattle.ceal_theory.proofs.SlicedRepair.PartYields.{AsPart, fix-part, part-fix, part-grows, good-puts}
use Rattle.ceal_theory.specs.SliceLaws.{FromBases}
use Rattle.ceal_theory.specs.Slices.{Repair, with_inputs, starting, Part, Runs, Slices, RepairHolds}

module _ (names : ℕ → ℕ) (single : Single names) (code : Code) (n : ℕ) (y : Plain) where
  pub record OrderedAgain (k j : ℕ) (bs : List ℕ) (t : State) (old new : Trace) (s' : State) : Type 0 where
    pub known : List ℕ
    pub sub : Subset bs known
    pub good : Good names n known s'
    pub after : Store
    pub part : Part code names k t old j (with_store s' after) new
    pub same : SameAt n known s'.store after

  good-alloc : (bs : List ℕ) (s : State) (b : ℕ) (key : Key) → Good names n bs s → Held n (b ∷ bs) s.plain (Core b) → Good names n (b ∷ bs) (clears code s (Core b) key)
  good-alloc bs s b key g h = record {
    plain = holds-with n bs s.plain s.plain b g.plain (λ c block e. e) h;
    store = cleared-known code n (b ∷ bs) s.store (Core b) key (store-more n bs (b ∷ bs) s.store (wider b bs) g.store);
    free = g.free;
  }

  -- bs are the core blocks that the items so far allocate
  pub part-in-order : {k j : ℕ} {s s' : State} {old new : Trace} → Part code names k s old j s' new → Extends s'.plain y → (bs : List ℕ) → Good names n bs s
      → (st : Stack) → Yields code y st old → KnownStack n bs st → Pieces code s.plain y old → (t : Store) → SameAt n bs s.store t → OrderedAgain k j bs (with_store s t) old new s'
  part-in-order Part.stays ext bs g st r k h t w = record { known = bs; sub = λ b i. i; good = g; after = t; part = Part.stays; same = w }
  part-in-order Part.end ext bs g st r k h t w = record { known = bs; sub = λ b i. i; good = g; after = t; part = Part.end; same = w }
  part-in-order {s = s} {s' = s'} (Part.step f) ext bs g st (Yields.quiet {after = after} e r) k h t w =
      let x = extends-trans s.plain s'.plain y (part-grows single f g.free).plain ext in
      let q = part-in-order f ext bs g after r (step-y code n y bs s.plain st (Quiet after) g.plain x k e) h t w in
      record { known = q.known; sub = q.sub; good = q.good; after = q.after; part = Part.step q.part; same = q.same }
  part-in-order {s = s} {s' = s'} (Part.step (Part.alloc f)) ext bs g st (Yields.makes {key = key} {v = v} {u = u} {i = i} {env = env} {below = below} {b = b} e m r) k h t w =
      let x = extends-trans s.plain s'.plain y (part-grows single f g.free).plain ext in
      let a = step-y code n y bs s.plain st (Makes key v u i env below) g.plain x k e in
      let q = part-in-order f ext (b ∷ bs) (good-alloc bs s b key g (held-key code n y bs s.plain key b g.plain x a.0 h.0)) (Run u i _ below) r (ran-known n bs key b v u i env below a.1 a.2) h.1
      (cleared code t (Core b) key) (cleared-same code n bs b key s.store t w) in
      record { known = q.known; sub = λ c i. q.sub c (there i); good = q.good; after = q.after; part = Part.step (Part.alloc q.part); same = q.same }
  part-in-order {s = s} {s' = s'} (Part.step (Part.write f)) ext bs g st (Yields.writes {after = after} {p = p} {value = value} e r) k h t w =
      let x = extends-trans s.plain s'.plain y (part-grows single f g.free).plain ext in
      let a = step-y code n y bs s.plain st (Writes p value after) g.plain x k e in
      let q = part-in-order f ext bs (good-puts code names n bs s p value g a.1) after r a.2 h (stored t p value) (stored-same n bs s.store t p value w) in
      record { known = q.known; sub = q.sub; good = q.good; after = q.after; part = Part.step (Part.write q.part); same = q.same }
  part-in-order {s = s} {s' = s'} {new = new}
      (Part.step (Part.kept {k = k1} {j = j1} {t = s1} {inside' = o'} {rest' = l'} same f1 f2)) ext bs g st
      (Yields.reads {below = below} {p = p} {u = u} {v = v} {args = args} {value = value} {inside = o} {rest =
      l} e r1 r2) k h t w =
      let g1 = part-grows single f1 g.free in
      let xt = extends-trans s1.plain s'.plain y (part-grows single f2 g1.free).plain ext in
      let x = extends-trans s.plain s1.plain y g1.plain xt in
      let a = step-y code n y bs s.plain st (Reads p u v args below) g.plain x k e in
      let kv : KnownWord n bs value = subst (KnownWord n bs) same (g.store p) in
      let q1 = part-in-order f1 xt bs g (resumed code u v args value) r1 (words_after_read-known n bs code u.0 v args value Empty a.1 kv tt) h.1 t w in
      let q2 = part-in-order f2 ext q1.known q1.good below r2 (stack-more n bs q1.known q1.sub below a.2) (pieces-more code s.plain s1.plain y g1.plain l h.2) q1.after q1.same in
      let z : Part code names (suc k1) (with_store s t) (WasRead p value u v args o l) j1 (with_store s' q2.after)
      (WasRead p (t p) u v args o' l') = Part.kept (sym (w p a.0) ∙ same) q1.part q2.part in
      record {
        known = q2.known;
        sub = λ b i. q2.sub b (q1.sub b i);
        good = q2.good;
        after = q2.after;
        part = Part.step (subst (λ z. Part code names (suc k1) (with_store s t) (WasRead p value u v args o l) j1 (with_store s' q2.after) (WasRead p z u v args o' l')) (sym (w p a.0)) z);
        same = q2.same;
      }
  part-in-order {s = s} {s' = s'} (Part.step
      (Part.stale {k = k1} {j = j1} {t = s1} {inside' = o'} {left = left} {rest' = l'} apart' f1 f2)) ext bs g st
      (Yields.reads {below = below} {p = p} {u = u} {v = v} {args = args} {value = value} {inside = o} {rest =
      l} e r1 r2) k h t w =
      let g1 = anew-grows single f1 g.free in
      let xt = extends-trans s1.plain s'.plain y (part-grows single f2 g1.free).plain ext in
      let x = extends-trans s.plain s1.plain y g1.plain xt in
      let a = step-y code n y bs s.plain st (Reads p u v args below) g.plain x k e in
      let m = anew-plays names single code n y f1 xt bs g (words_after_read-known n bs code u.0 v args (s.store p) Empty a.1 (g.store p) tt) h.1 in
      let q1 = anew-again code names n f1 m.mentions t w in
      let sub1 : Subset bs m.known = mentions-subset m.mentions in
      let q2 = part-in-order f2 ext m.known m.good below r2 (stack-more n bs m.known sub1 below a.2) (pieces-more code s.plain s1.plain y g1.plain l h.2) q1.after q1.same in
      let a' : Reruns code names (with_store s t) (resumed code u v args (t p)) o (with_store s1 q1.after) o' left =
      subst (λ z. Reruns code names (with_store s t) (resumed code u v args z) o (with_store s1 q1.after) o' left)
      (w p a.0) q1.anew in
      let z : Part code names (suc k1) (with_store s t) (WasRead p value u v args o l) j1 (with_store s' q2.after)
      (WasRead p (t p) u v args o' l') = Part.stale (λ i. apart' (w p a.0 ∙ i)) a' q2.part in
      record {
        known = q2.known;
        sub = λ b i. q2.sub b (sub1 b i);
        good = q2.good;
        after = q2.after;
        part = Part.step (subst (λ z. Part code names (suc k1) (with_store s t) (WasRead p value u v args o l) j1 (with_store s' q2.after) (WasRead p z u v args o' l')) (sym (w p a.0)) z);
        same = q2.same;
      }
  part-in-order (Part.alloc f) ext bs g st r k h t w = elim r [ ]
  part-in-order (Part.write f) ext bs g st r k h t w = elim r [ ]
  part-in-order (Part.kept e f1 f2) ext bs g st r k h t w = elim r [ ]
  part-in-order (Part.stale e a f) ext bs g st r k h t w = elim r [ ]

module _ {names : ℕ → ℕ} (code : Code) (inputs : List Block) (f : ℕ) (args : List Word) (fits : Fits code inputs f args) (r : Repair) (h : RepairHolds code names inputs f args r) where
  abbrev from_store : Store → State
  from_store s = record { store = s; plain = with_inputs code inputs r.known; number = r.number; work = r.spent }

  -- two stores with the bases at inputs
  module _ (s t : Store) (known : (p : Place) → KnownWord (length inputs) [] (s p)) (same : SameAt (length inputs) [] s t) where
    begins-good : Good names (length inputs) [] (from_store s)
    begins-good = record { plain = begun code inputs f args fits r h; store = known; free = (good code inputs f args fits r h).free }

    part-over : (k j : ℕ) (s' : State) (m : Trace) → Part code names k (from_store s) r.items j s' m → (a : Store) × Part code names k (from_store t) r.items j (with_store s' a) m
    part-over k j s' m p =
        let ext = (part-grows h.single p begins-good.free).plain in
        let y = uses-yields code (length inputs) h.blocks (with_inputs code inputs r.known) s'.plain h.holds
        (agrees (length inputs) h.blocks (with_inputs code inputs r.known) s'.plain h.holds ext) h.yields
        (start-known code inputs f args fits r h h.blocks) h.uses in
        let q = part-in-order names h.single code (length inputs) s'.plain p (λ b block e. e) [] begins-good (started code f args) y (start-known code inputs f args fits r h [])
        (uses-pieces code (length inputs) h.blocks (with_inputs code inputs r.known) s'.plain h.holds ext y h.uses) t same in
        (q.after, q.part)

    runs-over : (k : Option ℕ) (s' : State) (m : Trace) → Runs code names k (from_store s) r.items s' m → (a : Store) × Runs code names k (from_store t) r.items (with_store s' a) m
    runs-over k s' m (Runs.whole g) =
        let q : AsPart code names (from_store s) r.items s' m 0 = fix-part g 0 in
        let p = part-over (suc q.reads) 1 s' m q.part in (p.0, Runs.whole (part-fix p.1))
    runs-over k s' m (Runs.part {k = i} {j = j} g) = let p = part-over i j s' m g in (p.0, Runs.part p.1)

  pub to-bases : (k : Option ℕ) (r' : Repair) → Slices code names inputs k r r' → FromBases code names inputs k r r'
  to-bases k r' s =
      let q = runs-over (starting code inputs r.known) (bases code inputs) (starting-known code inputs fits.blocks r.known) (same-bases code inputs r.known) k s.after s.items s.runs in
      record { after = with_store s.after q.0; items = s.items; runs = q.1; is = s.is }

  pub from-bases : (k : Option ℕ) (r' : Repair) → FromBases code names inputs k r r' → Slices code names inputs k r r'
  from-bases k r' s =
      let q = runs-over (bases code inputs) (starting code inputs r.known) (bases-known code inputs fits.blocks) (λ p i. sym (same-bases code inputs r.known p i)) k s.after s.items s.runs in
      record { after = with_store s.after q.0; items = s.items; runs = q.1; is = s.is }
