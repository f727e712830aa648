-- Slices follow one another, as laws of repairs that hold.
use Rattle.std.proofs.Common.{◌≡◌, ℕ, zero, suc, ◌+◌, Option, Some, None, List, [], length, refl, sym, ap, ◌∙◌, subst, arith}
use Rattle.ceal_base.specs.Block.{Block}
use Rattle.ceal_base.specs.Trace.{Trace, WasRead}
use Rattle.ceal_base.specs.declared.word.BlockId.{BlockId}
use Rattle.ceal_base.specs.declared.word.BlockId.TheVariants.{Input, Core}
use Rattle.ceal_base.specs.declared.word.Word.{Word}
use Rattle.ceal_code.proofs.Words.StepLocality.{words_after_read-known}
use Rattle.ceal_code.specs.Fitting.{Fits}
use Rattle.ceal_code.specs.Known.{Subset}
use Rattle.ceal_code.specs.Program.{Code}
use Rattle.ceal_code.specs.Replay.{Store, KnownBlock, cleared, stored, bases, IsHonest}
use Rattle.ceal_code.specs.Step.{Empty}
use Rattle.ceal_code.specs.Value.{Plain}
use Rattle.ceal_theory.proofs.Repair.RepairInvariant.{Extends, extends-trans, Good, Pieces}
use Rattle.ceal_theory.proofs.Store.WordsGrow.{mentions-subset, pieces-more, anew-grows}
use Rattle.ceal_theory.proofs.Repair.RepairYields.{anew-plays}
use Rattle.ceal_theory.proofs.Store.EqualContents.{stored-equal, cleared-equal}
use Rattle.ceal_theory.specs.Repair.{Single, State, resumed, Fix, Reruns}
use Rattle.ceal_theory.proofs.Store.KnownPlaces.{SameAt, anew-again, HonestAgain, honest-again}
use Rattle.ceal_theory.specs.Walk.{with_store}
use Rattle.ceal_theory.proofs.SlicedRepair.DoneReplays.{same-bases, in-order, whole-done}
use Rattle.ceal_theory.proofs.SlicedRepair.Soundness.{at-core, good, grown, same-plain, yields', slice-sound, start-known, starting-known}
use Rattle.ceal_theory.proofs.SlicedRepair.Composition.{walk-part, part-plus, join}
use Rattle.ceal_theory.proofs.Store.Mentions.{uses-more, uses-pieces}
use Rattle.ceal_theory.proofs.SlicedRepair.PartYields.{beyond, beyond-sum, part-fix, AsPart, fix-part, part-grows, good-again, good-puts}
use Rattle.ceal_theory.specs.Slices.{Repair, with_inputs, default_in, starting_in, starting, goes_on, Part, Runs, repair_at, Slices, Uses, RepairHolds, Follows}

module _ (names : ℕ → ℕ) (single : Single names) (code : Code) (n : ℕ) (y : Plain) where
  pub record PartAgain (k j : ℕ) (bs : List ℕ) (t : State) (old new : Trace) (s' : State) : Type 0 where
    pub known : List ℕ
    pub sub : Subset bs known
    pub good : Good names n known s'
    pub after : Store
    pub part : Part code names k t old j (with_store s' after) new
    pub same : SameAt n known s'.store after

  -- a part uses what the store has only at known places
  pub part-again : {k j : ℕ} {s s' : State} {old new : Trace} → Part code names k s old j s' new → Extends s'.plain y → (bs : List ℕ) → Good names n bs s → Pieces code s.plain y old → Uses n bs old
      → (t : Store) → SameAt n bs s.store t → PartAgain k j bs (with_store s t) old new s'
  part-again Part.stays ext bs g h u t w = record { known = bs; sub = λ b i. i; good = g; after = t; part = Part.stays; same = w }
  part-again Part.end ext bs g h u t w = record { known = bs; sub = λ b i. i; good = g; after = t; part = Part.end; same = w }
  part-again (Part.step f) ext bs g h u t w =
      let q = part-again f ext bs g h u t w in record { known = q.known; sub = q.sub; good = q.good; after = q.after; part = Part.step q.part; same = q.same }
  part-again {s = s} (Part.alloc {b = Core c} {key = key} f) ext bs g h u t w =
      let q = part-again f ext bs (good-again code names n bs s (Core c) key g) h.1 u.2 (cleared code t (Core c) key) (λ p k. cleared-equal code s.store t (Core c) key p (w p k)) in
      record { known = q.known; sub = q.sub; good = q.good; after = q.after; part = Part.alloc q.part; same = q.same }
  part-again {s = s} (Part.alloc {b = Input i} {key = key} f) ext bs g h u t w = absurd h
  part-again {s = s} (Part.write {p = p} {value = v} f) ext bs g h u t w =
      let q = part-again f ext bs (good-puts code names n bs s p v g u.1) h u.2 (stored t p v) (λ q k. stored-equal s.store t p v q (w q k)) in
      record { known = q.known; sub = q.sub; good = q.good; after = q.after; part = Part.write q.part; same = q.same }
  part-again {k} {j} {s} {s'} (Part.kept {k = k1} {t = s1} {p = p} {value = value} {u = u} {v = v} {args = args} {inside = o} {inside' = o'} {rest = l} {rest' = l'} e f1 f2) ext bs g h us t w =
      let g1 = part-grows single f1 g.free in
      let xt = extends-trans s1.plain s'.plain y (part-grows single f2 g1.free).plain ext in
      let q1 = part-again f1 xt bs g h.1 us.3 t w in
      let q2 = part-again f2 ext q1.known q1.good (pieces-more code s.plain s1.plain y g1.plain l h.2) (uses-more n bs q1.known q1.sub l us.4) q1.after q1.same in
      let z : Part code names (suc k1) (with_store s t) (WasRead p value u v args o l) j (with_store s' q2.after) (WasRead p (t p) u v args o' l') = Part.kept (sym (w p us.0) ∙ e) q1.part q2.part in
      record {
        known = q2.known;
        sub = λ b i. q2.sub b (q1.sub b i);
        good = q2.good;
        after = q2.after;
        part = subst (λ z. Part code names (suc k1) (with_store s t) (WasRead p value u v args o l) j (with_store s' q2.after) (WasRead p z u v args o' l')) (sym (w p us.0)) z;
        same = q2.same;
      }
  part-again {k} {j} {s} {s'} (Part.stale {k = k1} {t = s1} {p = p} {value = value} {u = u} {v = v} {args =
      args} {inside = o} {inside' = o'} {left = left} {rest = l} {rest' = l'} e a f) ext bs g h us t w =
      let g1 = anew-grows single a g.free in
      let xt = extends-trans s1.plain s'.plain y (part-grows single f g1.free).plain ext in
      let m = anew-plays names single code n y a xt bs g (words_after_read-known n bs code u.0 v args (s.store p) Empty us.2 (g.store p) tt) h.1 in
      let q1 = anew-again code names n a m.mentions t w in
      let sub1 : Subset bs m.known = mentions-subset m.mentions in
      let q2 = part-again f ext m.known m.good (pieces-more code s.plain s1.plain y g1.plain l h.2) (uses-more n bs m.known sub1 l us.4) q1.after q1.same in
      let a' : Reruns code names (with_store s t) (resumed code u v args (t p)) o (with_store s1 q1.after) o' left =
      subst (λ z. Reruns code names (with_store s t) (resumed code u v args z) o (with_store s1 q1.after) o' left)
      (w p us.0) q1.anew in
      let z : Part code names (suc k1) (with_store s t) (WasRead p value u v args o l) j (with_store s' q2.after) (WasRead p (t p) u v args o' l') = Part.stale (λ i. e (w p us.0 ∙ i)) a' q2.part in
      record {
        known = q2.known;
        sub = λ b i. q2.sub b (sub1 b i);
        good = q2.good;
        after = q2.after;
        part = subst (λ z. Part code names (suc k1) (with_store s t) (WasRead p value u v args o l) j (with_store s' q2.after) (WasRead p z u v args o' l')) (sym (w p us.0)) z;
        same = q2.same;
      }

module _ {names : ℕ → ℕ} (code : Code) (inputs : List Block) (f : ℕ) (args : List Word) (fits : Fits code inputs f args) (r : Repair) (h : RepairHolds code names inputs f args r) where
  -- a later repair has the same defaults for the blocks that are known now
  default-same : (z : Plain) → Extends (with_inputs code inputs r.known) z → SameAt (length inputs) h.blocks (starting code inputs r.known) (starting code inputs z)
  unfolding starting
  default-same z ext p k = go p.block k
    where
      core : (c : ℕ) → KnownBlock (length inputs) h.blocks (Core c) → default_in code.structs (r.known (Core c)) p.field ≡ default_in code.structs (z (Core c)) p.field
      core c k =
          let i = h.holds (Core c) k in
          rw (sym (at-core code inputs r.known c) ∙ i.there, ext (Core c) i.block i.there) refl

      go : (b : BlockId) → KnownBlock (length inputs) h.blocks b → starting_in code inputs r.known b p.field ≡ starting_in code inputs z b p.field
      go (Input i) k = refl
      go (Core c) k = core c k

  pieces-of : (k j : ℕ) (s' : State) (m : Trace) (p : Part code names k (goes_on code inputs r) r.items j s' m) → Pieces code (with_inputs code inputs r.known) s'.plain r.items
  pieces-of k j s' m p = uses-pieces code (length inputs) h.blocks (with_inputs code inputs r.known) s'.plain h.holds
      (grown code inputs f args fits r h k j s' m p) (yields' code inputs f args fits r h k j s' m p) h.uses

  -- the part from the store at the beginning of a later repair
  abbrev pub from_later : Plain → State
  from_later z = with_store (goes_on code inputs r) (starting code inputs z)

  pub to-later : (k j : ℕ) (t : State) (m : Trace) → Part code names k (goes_on code inputs r) r.items j t m → (z : Plain) → Extends (with_inputs code inputs r.known) z
      → (a : Store) × Part code names k (from_later z) r.items j (with_store t a) m
  to-later k j t m p z ext =
      let q = part-again names h.single code (length inputs) t.plain p (λ b block e. e) h.blocks
      (good code inputs f args fits r h) (pieces-of k j t m p) h.uses (starting code inputs z)
      (default-same z ext) in
      (q.after, q.part)

  module _ (k i : ℕ) (t : State) (m : Trace) (p : Part code names k (goes_on code inputs r) r.items zero t m) (j : ℕ)
      (s' : State) (n : Trace) (g : Part code names (suc j) (goes_on code inputs (repair_at t m)) m i s' n) where
    second : Part code names (suc j) (with_store t (starting code inputs t.plain)) m i s' n
    second = subst (λ x. Part code names (suc j)
        (record { store = starting code inputs t.plain; plain = x; number = t.number; work = t.work }) m i s' n)
        (same-plain code inputs f args fits r h k zero t m p) g

    ext : Extends (with_inputs code inputs r.known) t.plain
    ext = grown code inputs f args fits r h k zero t m p

    joined : Part code names (beyond k (suc j)) (from_later t.plain) r.items i s' n
    joined = join code (to-later k zero t m p t.plain ext).1 second

    later-good : Good names (length inputs) h.blocks (from_later t.plain)
    later-good =
        let b = good code inputs f args fits r h in
        record {
          plain = b.plain;
          store = λ p. Rattle.ceal_code.proofs.Words.StepLocality.word-more
              (length inputs) [] h.blocks (λ b i. elim i [ ]) (starting code inputs t.plain p)
              (starting-known code inputs fits.blocks t.plain p);
          free = b.free;
        }

    later-grown : Extends (with_inputs code inputs r.known) s'.plain
    later-grown = (part-grows h.single joined later-good.free).plain

    later-pieces : Pieces code (with_inputs code inputs r.known) s'.plain r.items
    later-pieces =
        uses-pieces code (length inputs) h.blocks (with_inputs code inputs r.known) s'.plain h.holds later-grown
        (Rattle.ceal_theory.proofs.Store.Mentions.uses-yields code (length inputs) h.blocks (with_inputs code inputs r.known) s'.plain h.holds
        (Rattle.ceal_theory.proofs.Repair.RepairInvariant.agrees (length inputs) h.blocks
        (with_inputs code inputs r.known) s'.plain h.holds later-grown) h.yields
        (start-known code inputs f args fits r h h.blocks) h.uses) h.uses

    -- two parts one after the other are one part
    pub two-parts : (a : Store) × Part code names (beyond k (suc j)) (goes_on code inputs r) r.items i (with_store s' a) n
    two-parts =
        let q = part-again names h.single code (length inputs) s'.plain joined (λ b block e. e) h.blocks later-good later-pieces h.uses (starting code inputs r.known)
        (λ p k. sym (default-same t.plain ext p k)) in
        (q.after, q.part)

module _ {names : ℕ → ℕ} (code : Code) (inputs : List Block) (f : ℕ) (args : List Word) (fits : Fits code inputs f args) where
  module _ (r : Repair) (h : RepairHolds code names inputs f args r) (honest : IsHonest code inputs r.items) where
    pub from-start : HonestAgain code (length inputs) (starting code inputs r.known) r.items (in-order code inputs f args fits r h (bases code inputs) honest.after
        (Rattle.ceal_theory.proofs.Store.FittingInputs.bases-known code inputs fits.blocks) honest.walk).known honest.after
    from-start = honest-again code (length inputs) honest.walk
        (in-order code inputs f args fits r h (bases code inputs) honest.after (Rattle.ceal_theory.proofs.Store.FittingInputs.bases-known code inputs fits.blocks) honest.walk).mentions
        (starting code inputs r.known) (λ p k. sym (same-bases code inputs r.known p k))

    same-end : (j i : ℕ) (s' : State) (n : Trace) → Part code names (suc j) (goes_on code inputs r) r.items i s' n → repair_at s' n ≡ repair_at (goes_on code inputs r) r.items
    same-end j i s' n g =
        let q = walk-part code from-start.walk (goes_on code inputs r) j g in
        rw (q.state, q.items) refl

    runs-stay : (k : Option ℕ) (s' : State) (n : Trace) → Runs code names k (goes_on code inputs r) r.items s' n → repair_at s' n ≡ repair_at (goes_on code inputs r) r.items
    runs-stay None s' n (Runs.whole g) = let q : AsPart code names (goes_on code inputs r) r.items s' n 0 = fix-part g 0 in same-end q.reads 1 s' n q.part
    runs-stay (Some zero) s' n (Runs.part Part.stays) = refl
    runs-stay (Some (suc j)) s' n (Runs.part {j = i} g) = same-end j i s' n g

  -- a slice of a repair that is done leaves it
  pub done-stays : (r : Repair) → RepairHolds code names inputs f args r → IsHonest code inputs r.items → (k : Option ℕ)
      (r' : Repair) → Slices code names inputs k r r' → r' ≡ repair_at (goes_on code inputs r) r.items
  done-stays r h honest k r' s = s.is ∙ runs-stay r h honest k s.after s.items s.runs

  module _ (r : Repair) (h : RepairHolds code names inputs f args r) where
    abbrev start : State
    start = goes_on code inputs r

    module _ (k : ℕ) (t : State) (m : Trace) where
      -- at the inputs nothing changed
      pub again-same : (i : ℕ) → Part code names k start r.items i t m → repair_at (goes_on code inputs (repair_at t m)) m ≡ repair_at t m
      again-same i p = ap (λ x. record { items = m; known = x; number = t.number; spent = t.work }) (same-plain code inputs f args fits r h k i t m p)

      sum-runs : (i : ℕ) (s' : State) (n : Trace) (j : ℕ) → Part code names (beyond k j) start r.items i s' n → Slices code names inputs (Some (k + j)) r (repair_at s' n)
      sum-runs i s' n j p = record { after = s'; items = n; runs = Runs.part (subst (λ z. Part code names z start r.items i s' n) (beyond-sum k j) p); is = refl }

      used-up : Part code names k start r.items zero t m → (o : Option ℕ) (s' : State) (n : Trace) → Runs code names o (goes_on code inputs (repair_at t m)) m s' n
          → (z : Repair) → z ≡ repair_at s' n → Follows code names inputs k r o z
      used-up p None s' n (Runs.whole g) z e =
          let q : AsPart code names (goes_on code inputs (repair_at t m)) m s' n 0 = fix-part g 0 in
          let w = two-parts code inputs f args fits r h k 1 t m p q.reads s' n q.part in
          subst (λ z. Follows code names inputs k r None z) (sym e) (Follows.whole (record { after = with_store s' w.0; items = n; runs = Runs.whole (part-fix w.1); is = refl }))
      used-up p (Some zero) s' n (Runs.part Part.stays) z e =
          subst (λ z. Follows code names inputs k r (Some zero) z) (sym (e ∙ again-same zero p))
          (Follows.part (record { after = t; items = m; runs = Runs.part (subst (λ z. Part code names z start r.items zero t m) (omega arith) p); is = refl }))
      used-up p (Some (suc j)) s' n (Runs.part {j = i} g) z e =
          let w = two-parts code inputs f args fits r h k i t m p j s' n g in
          subst (λ z. Follows code names inputs k r (Some (suc j)) z) (sym e) (Follows.part (sum-runs i (with_store s' w.0) n (suc j) w.1))

      with-left : (i : ℕ) (p : Part code names k start r.items (suc i) t m) → IsHonest code inputs m → (o : Option ℕ) (z : Repair) → z ≡ repair_at t m → Follows code names inputs k r o z
      with-left i p honest None z e = subst (λ z. Follows code names inputs k r None z) (sym e) (Follows.whole (record { after = t; items = m; runs = Runs.whole (part-fix p); is = refl }))
      with-left i p honest (Some j) z e = subst (λ z. Follows code names inputs k r (Some j) z) (sym e) (Follows.part (sum-runs (beyond (suc i) j) t m j (part-plus code p j)))

      by-left : (i : ℕ) → Part code names k start r.items i t m → (o : Option ℕ) (z : Repair) → Slices code names inputs o (repair_at t m) z → Follows code names inputs k r o z
      by-left zero p o z s = used-up p o s.after s.items s.runs z s.is
      by-left (suc i) p o z s =
          let g : Fix code names start r.items t m = part-fix p in
          let w : Slices code names inputs None r (repair_at t m) = record { after = t; items = m; runs = Runs.whole g; is = refl } in
          let honest : IsHonest code inputs m = whole-done code inputs f args fits r h (repair_at t m) w in
          with-left i p honest o z (done-stays (repair_at t m) (slice-sound code inputs f args fits r h None (repair_at t m) w) honest o z s ∙ again-same (suc i) p)

    from-runs : (k : ℕ) (t : State) (m : Trace) → Runs code names (Some k) start r.items t m → (o : Option ℕ)
        (z : Repair) → Slices code names inputs o (repair_at t m) z → Follows code names inputs k r o z
    from-runs k t m (Runs.part {j = i} p) o z s = by-left k t m i p o z s

    -- two slices on the same inputs are one
    pub follow : (k : ℕ) (r' : Repair) → Slices code names inputs (Some k) r r' → (o : Option ℕ) (z : Repair) → Slices code names inputs o r' z → Follows code names inputs k r o z
    follow k r' s o z s' = from-runs k s.after s.items s.runs o z (subst (λ r. Slices code names inputs o r z) s.is s')
