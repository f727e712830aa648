-- Turns of a repair in progress, and the results of slices by them.
use Rattle.std.proofs.Common.{◌≡◌, ℕ, zero, suc, ◌+◌, ◌≤◌, ◌<◌, true, false, Bool, Option, Some, None, List, ◌∷◌, ◌++◌, append_assoc, inl, inr, ◌⊎◌, refl, sym, ap, subst, ◌∙◌, arith}
use Rattle.std.proofs.lemmas.Bool.{cases_order}
use Rattle.std.specs.Bool.{⊤}
use Rattle.ceal_base.specs.Block.{Block}
use Rattle.ceal_base.proofs.TraceLemmas.{trace-flat}
use Rattle.ceal_base.specs.Trace.{trace_of, Trace, Nothing, Stepped, Allocated, Wrote, WasRead, flat}
use Rattle.ceal_base.specs.declared.forest.Item.{Item}
use Rattle.ceal_base.specs.declared.forest.Item.TheVariants.{Read, End}
use Rattle.ceal_base.specs.declared.forest.UnitId.{UnitId}
use Rattle.ceal_base.specs.declared.word.BlockId.TheVariants.{Core}
use Rattle.ceal_base.specs.declared.word.Place.{Place}
use Rattle.ceal_base.specs.declared.word.Word.{Word}
use Rattle.ceal_code.specs.Fitting.{Fits}
use Rattle.ceal_code.specs.Program.{Code}
use Rattle.ceal_code.proofs.Words.SameIsEqual.{some-same}
use Rattle.ceal_code.specs.Replay.{Store, IsHonest, plain_of}
use Rattle.ceal_code.specs.Value.{Plain}
use Rattle.ceal_code.specs.Tables.{plain_in, store_in}
use Rattle.ceal_code.specs.declared.trace_memory.TraceMemory.{TraceMemory}
use Rattle.ceal_adjust.specs.Alone.{alone, state_of, IsRan, IsAt}
use Rattle.ceal_adjust.specs.Answers.{EndsAt, IsBeyond}
use Rattle.ceal_adjust.specs.KnownBlocks.{nothing, knowing}
use Rattle.ceal_adjust.specs.Slicing.{StandsFor, HoldsFor, IsStale, IsTurn, IsSliceOf, Comes, IsConcluded, IfGiven}
use Rattle.ceal_adjust.specs.declared.complete.Limit.{Limit}
use Rattle.ceal_adjust.specs.declared.complete.Limit.TheVariants.{Work}
use Rattle.ceal_adjust.specs.declared.slices.Repair.{Repair as RepairInCode}
use Rattle.ceal_adjust.specs.declared.slices.Sliced.{Sliced}
use Rattle.ceal_adjust.specs.declared.slices.Sliced.TheVariants.{More, Done, Spent}
use Rattle.ceal_adjust.specs.declared.stale.Stale.{Stale}
use Rattle.ceal_adjust.specs.declared.turn.Ran.{Ran}
use Rattle.ceal_adjust.specs.declared.turn.Turned.TheVariants.{Went, Over}
use Rattle.ceal_theory.proofs.Nodes.TurnCourse.{turn-course-law}
use Rattle.ceal_theory.proofs.Reuse.FlatTake.{first-flat, followed-nothing}
use Rattle.ceal_theory.proofs.SlicedRepair.SliceLaws.{begin-law, slice-law, slices-law, start-law, is-done-law, turn-law, turns-law, turns-over-law}
use Rattle.ceal_theory.specs.Course.{TurnCourse}
use Rattle.ceal_theory.specs.Levels.{first, levels, skipped}
use Rattle.ceal_theory.proofs.Store.FittingInputs.{fits-more}
use Rattle.ceal_theory.specs.Laws.{Edited}
use Rattle.ceal_theory.specs.Repair.{State, own, resumed}
use Rattle.ceal_theory.specs.SliceLaws.{FirstStale, Turned, Turns, unit_alone}
use Rattle.ceal_theory.specs.Slices.{Repair, Part, Runs, Slices, sliced, repair_at, goes_on, beginning, with_inputs, starting, RepairHolds, is_done}
use Rattle.ceal_theory.specs.Moves.{Machine, Running, Bottom, BecomesBy}
use Rattle.ceal_theory.proofs.Store.Walk.{agrees-front}
use Rattle.ceal_theory.specs.Walk.{store_after, AgreesAll}

-- whole items open no level and close none
skipped-flat : (n : ℕ) (f : Trace) (is : List Item) → skipped (suc n) (flat f ++ is) ≡ skipped (suc n) is
unfolding skipped
skipped-flat n Nothing is = refl
skipped-flat n (Stepped rest) is = skipped-flat n rest is
skipped-flat n (Allocated b key rest) is = skipped-flat n rest is
skipped-flat n (Wrote p value rest) is = skipped-flat n rest is
skipped-flat n (WasRead p value u v args inside rest) is =
    ap (skipped (suc (suc n))) (append_assoc (flat inside) (End ∷ flat rest) is) ∙ (skipped-flat (suc n) inside (End ∷ (flat rest ++ is)) ∙ skipped-flat n rest is)

-- the items after the end of a read
pub skipped-inside : (inside : Trace) (back : List Item) → skipped 1 (flat inside ++ End ∷ back) ≡ back
unfolding skipped
skipped-inside inside back = skipped-flat 0 inside (End ∷ back)

inside-first : (inside : Trace) (back : List Item) → first (levels (flat inside ++ End ∷ back)) ≡ inside
inside-first inside back = first-flat inside (End ∷ back) ∙ followed-nothing inside

-- the machine of the read's unit
begins-by : (code : Code) (inputs : List Block) (r : Repair) (front : List Item) (p : Place) (u : UnitId) (v : ℕ)
    (args : List Word) (inside : Trace) (back after : List Item) (content : Word) (s : Store) (x : Plain)
    (next spent : ℕ)
    → x ≡ with_inputs code inputs r.known → s ≡ store_after code (starting code inputs r.known) front → next ≡ r.number → spent ≡ r.spent
    → content ≡ store_after code (starting code inputs r.known) front p → after ≡ flat inside ++ End ∷ back
    → record {
      state = record { store = s; plain = x; number = next; work = spent };
      mode = Running (resumed code u v args content) (first (levels after));
      frames = Bottom;
    }
    ≡ unit_alone code inputs r front p u v args inside
begins-by code inputs r front p u v args inside back after content s x next spent a b c d e h = rw (e, a, b, c, d, h, inside-first inside back) refl

-- the items after a turn
spliced-by : (front : List Item) (p : Place) (u : UnitId) (v : ℕ) (args : List Word) (c d : Word)
    (out after : List Item) (inside : Trace) (back : List Item) → c ≡ d → after ≡ flat inside ++ End ∷ back
    → front ++ Read p c u v args ∷ (out ++ End ∷ skipped 1 after) ≡ front ++ Read p d u v args ∷ (out ++ End ∷ back)
spliced-by front p u v args c d out after inside back e h = rw (e, h, skipped-inside inside back) refl

-- what agrees, and what is stale, where the walk begins the same
pub agrees-there : (code now : Code) (s t : Store) (is js : List Item) → now ≡ code → t ≡ s → is ≡ js → AgreesAll now t is → AgreesAll code s js
agrees-there code now s t is js e k l h = rw (e, k, l) at h

pub stale-there : (code now : Code) (s t : Store) (is js : List Item) (x : Stale) → now ≡ code → t ≡ s → is ≡ js → IsStale now t is x → IsStale code s js x
stale-there code now s t is js x e k l h = rw (e, k, l) at h

-- the same machine
pub beyond-there : (code now : Code) (limit : Limit) (m start : Machine) → now ≡ code → m ≡ start → IsBeyond now limit m → IsBeyond code limit start
beyond-there code now limit m start e k h = subst (λ n. IsBeyond code limit n) k (subst (λ c. IsBeyond c limit m) e h)

pub ends-there : (code now : Code) (limit : Limit) (m start : Machine) (out : List Item) (s : State) → now ≡ code → m ≡ start → EndsAt now limit m out s → EndsAt code limit start out s
ends-there code now limit m start out s e k h = subst (λ n. EndsAt code limit n out s) k (subst (λ c. EndsAt c limit m out s) e h)

-- what the unit has come to
pub is-ran : (code : Code) (fuel : ℕ) (start : Machine) (s : State) (ran : Ran) → EndsAt code (Work fuel) start ran.inside.items s → ran.next ≡ s.number → ran.spent ≡ s.work
    → ((b : ℕ) → b < ran.next → knowing nothing ran.known (Core b) ≡ s.plain (Core b)) → ((b : ℕ) → ran.next ≤ b → knowing nothing ran.known (Core b) ≡ None) → IsRan code fuel start ran
is-ran code fuel start s ran e n k below others = record {
  ended = e.ended;
  number = ap (λ t. t.number) e.state ∙ sym n;
  work = ap (λ t. t.work) e.state ∙ sym k;
  below = λ b l. below b l ∙ ap (λ t. t.plain (Core b)) (sym e.state);
  others = others;
}

-- no block of a trace that may be edited has a number from the next one on
none-above : (code : Code) (old inputs : List Block) (f : ℕ) (args : List Word) (l : Trace) (next : ℕ)
    → Edited code old inputs f args l next → RepairHolds code own inputs f args (beginning code inputs l next)
none-above code old inputs f args l next e = begin-law code own old inputs f args l next next e (λ j k h. h) e.above

-- a repair that begins
module _ (code : Code) (inputs : List Block) (l : Trace) (next : ℕ) (q : RepairInCode) (items : q.forest ≡ flat l)
    (is_next : q.next ≡ next) (spent : q.spent ≡ 0) (x : Plain) (plain : x ≡ plain_of code inputs l)
    (below : (b : ℕ) → b < next → knowing nothing q.known (Core b) ≡ x (Core b)) (others : (b : ℕ) → next ≤ b → knowing nothing q.known (Core b) ≡ None) where
  module _ (old : List Block) (f : ℕ) (args : List Word) (e : Edited code old inputs f args l next) where
    begun-known : (b : ℕ) → (b ≡ next) ⊎ ((b < next) ⊎ (next < b)) → knowing nothing q.known (Core b) ≡ plain_of code inputs l (Core b)
    begun-known b (inl k) = others b (omega (arith, k)) ∙ sym ((none-above code old inputs f args l next e).free b (omega (arith, k)))
    begun-known b (inr (inl k)) = below b k ∙ ap (λ p. p (Core b)) plain
    begun-known b (inr (inr k)) = others b (omega (arith, k)) ∙ sym ((none-above code old inputs f args l next e).free b (omega (arith, k)))

    begun-stands : StandsFor q (beginning code inputs l next)
    begun-stands = record { items = items; known = λ b. begun-known b (cases_order b next); next = is_next; spent = spent }

    pub begun-holds : HoldsFor code inputs f args q
    begun-holds = record {
      fits = fits-more code old inputs e.extended f args e.call e.fit;
      repair = beginning code inputs l next;
      stands = begun-stands;
      sound = none-above code old inputs f args l next e;
    }

  pub begun-for : (old : List Block) (f : ℕ) (args : List Word) (m : Trace) → flat l ≡ flat m → Edited code old inputs f args m next → StandsFor q (beginning code inputs l next)
  begun-for old f args m e edited =
      begun-stands old f args (subst (λ l. Edited code old inputs f args l next) (some-same m l (sym (trace-flat m) ∙ (ap trace_of (sym e) ∙ trace-flat l))) edited)

module _ (code : Code) (inputs : List Block) (f : ℕ) (args : List Word) (fits : Fits code inputs f args) (fuel : ℕ) (r : Repair) (sound : RepairHolds code own inputs f args r) where
  -- one turn
  module _ (q : RepairInCode) (stands : StandsFor q r) (m : TraceMemory) (x : Stale) (there : IsAt code inputs r m x) where
    abbrev first_read : FirstStale code own inputs r x.front.now x.closure.place x.closure.unit x.closure.var x.closure.args x.after.now
    first_read = turn-law code own inputs r x.front.now x.closure.place there.stale.value x.closure.unit x.closure.var x.closure.args x.after.now there.stale.split there.stale.agrees there.stale.stale

    split : flat r.items ≡ x.front.now ++ Read x.closure.place there.stale.value x.closure.unit x.closure.var x.closure.args ∷ (flat first_read.inside ++ End ∷ first_read.back)
    split = there.stale.split ∙ ap (λ is. x.front.now ++ Read x.closure.place there.stale.value x.closure.unit x.closure.var x.closure.args ∷ is) first_read.items

    begins : alone code (state_of m q) x ≡ unit_alone code inputs r x.front.now x.closure.place x.closure.unit x.closure.var x.closure.args first_read.inside
    begins =
        begins-by code inputs r x.front.now x.closure.place x.closure.unit x.closure.var x.closure.args first_read.inside first_read.back x.after.now x.content (store_in m) (plain_in m) q.next q.spent
        there.plain there.store stands.next stands.spent there.stale.content first_read.items

    course : (machine : Machine) (out : List Item) → BecomesBy code own (alone code (state_of m q) x) machine out
        → TurnCourse code own inputs r x.front.now x.closure.place x.closure.unit x.closure.var x.closure.args first_read.inside first_read.back machine out
    course machine out leads =
        turn-course-law code own inputs r x.front.now x.closure.place there.stale.value x.closure.unit x.closure.var
        x.closure.args first_read.inside first_read.back split there.stale.agrees there.stale.stale
        machine out (rw begins at leads)

    -- more steps were re-executed than the fuel allows
    pub is-over : IsBeyond code (Work fuel) (alone code (state_of m q) x) → IsTurn code inputs fuel r Over
    is-over b = (course b.machine b.out b.leads).over fuel b.beyond

    known-all : (ran : Ran) (h : IsRan code fuel (alone code (state_of m q) x) ran) (l : Trace) → RepairHolds code own inputs f args (repair_at h.ended.machine.state l)
        → (b : ℕ) → knowing nothing ran.known (Core b) ≡ h.ended.machine.state.plain (Core b)
    known-all ran h l s b = of (cases_order b ran.next)
      where
        of : (b ≡ ran.next) ⊎ ((b < ran.next) ⊎ (ran.next < b)) → knowing nothing ran.known (Core b) ≡ h.ended.machine.state.plain (Core b)
        of (inl e) = h.others b (omega (arith, e)) ∙ sym (s.free b (omega (arith, e, h.number)))
        of (inr (inl less)) = h.below b less
        of (inr (inr more)) = h.others b (omega (arith, more)) ∙ sym (s.free b (omega (arith, more, h.number)))

    -- it has ended
    pub is-gone : (ran : Ran) → IsRan code fuel (alone code (state_of m q) x) ran → (p : RepairInCode)
        → p ≡ record {
          forest = x.front.now ++ Read x.closure.place x.content x.closure.unit x.closure.var x.closure.args ∷ (ran.inside.items ++ End ∷ skipped 1 x.after.now);
          known = ran.known;
          next = ran.next;
          spent = ran.spent;
        }
        → IsTurn code inputs fuel r (Went p)
    is-gone ran h p e =
        let end = (course h.ended.machine ran.inside.items h.ended.leads).ended h.ended.ended in
        let z : Repair = repair_at h.ended.machine.state end.0 in
        let later = slice-law code own inputs f args fits r sound (Some 1) z end.1 in (
          z,
          end.1,
          record {
            items = ap (λ k. k.forest) e
                ∙ (spliced-by x.front.now x.closure.place x.closure.unit x.closure.var x.closure.args x.content
                (store_after code (starting code inputs r.known) x.front.now x.closure.place) ran.inside.items x.after.now
                first_read.inside first_read.back there.stale.content first_read.items ∙ sym end.2);
            known = rw e (known-all ran h end.0 later.sound);
            next = rw e (sym h.number);
            spent = rw e (sym h.work);
          },
          rw e (omega (arith, h.work, h.ended.within)),
        )

-- n turns have brought a repair to this one
pub record Reached (code : Code) (inputs : List Block) (f : ℕ) (args : List Word) (n : ℕ) (r : Repair) (q : RepairInCode) : Type 0 where
  pub repair : Repair
  pub stands : StandsFor q repair
  pub sound : RepairHolds code own inputs f args repair
  pub turns : Turns code own inputs n r repair

-- n is at most the number of reads, if there is one
abbrev pub Within : Option ℕ → ℕ → Type 0
Within None n = ⊤
Within (Some k) n = n ≤ k

pub within-zero : (o : Option ℕ) → Within o 0
within-zero None = tt
within-zero (Some k) = omega arith

pub within-more : (o : Option ℕ) (n : ℕ) → Within o n → ¬ (o ≡ Some n) → Within o (n + 1)
within-more None n h d = tt
within-more (Some k) n h d = of (cases_order n k)
  where
    of : (n ≡ k) ⊎ ((n < k) ⊎ (k < n)) → n + 1 ≤ k
    of (inl e) = absurd (d (ap Some (sym e)))
    of (inr (inl l)) = omega (arith, l)
    of (inr (inr g)) = absurd (omega (arith, g, h))

one-more : {code : Code} {inputs : List Block} {n : ℕ} {r z z' : Repair} → Turns code own inputs n r z → Slices code own inputs (Some 1) z z' → Turns code own inputs (suc n) r z'
one-more Turns.none s = Turns.turn s Turns.none
one-more (Turns.turn t h) s = Turns.turn t (one-more h s)

split-less : (n k : ℕ) → n < k → (j : ℕ) × (k ≡ n + suc j)
split-less n zero l = absurd (omega (arith, l))
split-less zero (suc k) l = (k, omega arith)
split-less (suc n) (suc k) l = let r = split-less n k (omega (arith, l)) in (r.0, omega (arith, r.1))

no-turns : {code : Code} {inputs : List Block} {n : ℕ} {r z : Repair} → Turns code own inputs n r z → n ≡ 0 → z ≡ r
no-turns Turns.none e = refl
no-turns (Turns.turn s h) e = absurd cc

module _ (code : Code) (inputs : List Block) (f : ℕ) (args : List Word) (fits : Fits code inputs f args) (fuel : ℕ) (r : Repair) (sound : RepairHolds code own inputs f args r) where
  pub reached-first : (q : RepairInCode) → StandsFor q r → Reached code inputs f args 0 r q
  reached-first q stands = record { repair = r; stands = stands; sound = sound; turns = Turns.none }

  -- items that agree with the store in which a slice begins are honest, and conversely
  pub agrees-done : AgreesAll code (starting code inputs r.known) (flat r.items) → IsHonest code inputs r.items
  agrees-done a = (start-law code own inputs f args fits r sound).1 a

  pub stale-more : (x : Stale) → IsStale code (starting code inputs r.known) (flat r.items) x → ¬ IsHonest code inputs r.items
  stale-more x h honest =
      let all = subst (λ is. AgreesAll code (starting code inputs r.known) is) h.split ((start-law code own inputs f args fits r sound).0 honest) in
      h.stale (agrees-front code (starting code inputs r.known) x.front.now (Read x.closure.place h.value x.closure.unit x.closure.var x.closure.args ∷ x.after.now) all).1.0

  module _ (n : ℕ) (q : RepairInCode) (reached : Reached code inputs f args n r q) where
    pub reached-more : (p : RepairInCode) → IsTurn code inputs fuel reached.repair (Went p) → Reached code inputs f args (n + 1) r p
    reached-more p t = record {
      repair = t.0;
      stands = t.2;
      sound = (slice-law code own inputs f args fits reached.repair reached.sound (Some 1) t.0 t.1).sound;
      turns = let e : suc n ≡ n + 1 = omega arith in subst (λ k. Turns code own inputs k r t.0) e (one-more reached.turns t.1);
    }

    turned : Turned code own inputs n r reached.repair
    turned = turns-law code own inputs f args fits r sound n reached.repair reached.turns

    abbrev last : Repair
    last = repair_at (goes_on code inputs reached.repair) reached.repair.items

    stands-last : StandsFor q last
    unfolding with_inputs
    stands-last = record {
      items = reached.stands.items;
      known = λ b. reached.stands.known b ∙ same b;
      next = reached.stands.next;
      spent = reached.stands.spent;
    }
      where
        same : (b : ℕ) → reached.repair.known (Core b) ≡ with_inputs code inputs reached.repair.known (Core b)
        same b = refl

    spent-few : q.spent ≤ fuel → reached.repair.spent ≤ fuel
    spent-few few = omega (arith, few, reached.stands.spent)

    slice-of : (reads : Option ℕ) (done : Bool) (z : Repair) → Slices code own inputs reads r z → z.spent ≤ fuel → StandsFor q z → is_done code inputs z ≡ done
        → IsSliceOf code inputs reads fuel done r q
    slice-of reads done z s few stands d = record { repair = z; is = (slices-law code own inputs reads fuel r z).1 (s, few); stands = stands; ends = d }

    -- no read is stale any more
    pub is-done : q.spent ≤ fuel → IsHonest code inputs reached.repair.items → (reads : Option ℕ) → Within reads n → ¬ (reads ≡ Some n) → Comes code inputs reads fuel r (Done q)
    is-done few honest None within less =
        slice-of None true last (turned.whole honest) (spent-few few) stands-last ((is-done-law code inputs last).1 honest)
    is-done few honest (Some k) within less =
        slice-of (Some k) true last (turned.ended honest k (of (cases_order n k))) (spent-few few) stands-last ((is-done-law code inputs last).1 honest)
      where
        of : (n ≡ k) ⊎ ((n < k) ⊎ (k < n)) → n < k
        of (inl e) = absurd (less (ap Some (sym e)))
        of (inr (inl l)) = l
        of (inr (inr g)) = absurd (omega (arith, g, within))

    -- as many reads were re-executed as there may be
    at-limit : q.spent ≤ fuel → (done : Bool) → ((z : Repair) → z.items ≡ reached.repair.items → is_done code inputs z ≡ done) → IsSliceOf code inputs (Some n) fuel done r q
    at-limit few done d = of n refl
      where
        of : (k : ℕ) → n ≡ k → IsSliceOf code inputs (Some n) fuel done r q
        of zero e =
            let same : reached.repair ≡ r = no-turns reached.turns e in
            slice-of (Some n) done last
            (rw (e, same) (record { after = goes_on code inputs r; items = r.items; runs = Runs.part Part.stays; is = refl })) (spent-few few) stands-last (d last refl)
        of (suc k) e = slice-of (Some n) done reached.repair (turned.many (omega (arith, e))) (spent-few few) reached.stands (d reached.repair refl)

    done-if : (z : Repair) → z.items ≡ reached.repair.items → IsHonest code inputs reached.repair.items → is_done code inputs z ≡ true
    done-if z e h = (is-done-law code inputs z).1 (subst (λ l. IsHonest code inputs l) (sym e) h)

    not-done : (z : Repair) → z.items ≡ reached.repair.items → ¬ IsHonest code inputs reached.repair.items → is_done code inputs z ≡ false
    not-done z e h = of (is_done code inputs z) refl
      where
        of : (t : Bool) → is_done code inputs z ≡ t → is_done code inputs z ≡ false
        of false k = k
        of true k = absurd (h (subst (λ l. IsHonest code inputs l) e ((is-done-law code inputs z).0 k)))

    pub is-concluded : q.spent ≤ fuel → (reads : Option ℕ) → reads ≡ Some n → (s : Sliced) → IsConcluded code inputs reached.repair q s → Comes code inputs reads fuel r s
    is-concluded few reads e (More p) h = rw (e, h.0) (at-limit few false (λ z k. not-done z k h.1))
    is-concluded few reads e (Done p) h = rw (e, h.0) (at-limit few true (λ z k. done-if z k h.1))
    is-concluded few reads e Spent h = absurd h

    -- more steps were re-executed than the fuel allows
    pub is-spent : IsTurn code inputs fuel reached.repair Over → (reads : Option ℕ) → Within reads n → ¬ (reads ≡ Some n) → Comes code inputs reads fuel r Spent
    is-spent over None within less = (turns-over-law code own inputs f args fits r sound n reached.repair reached.turns).whole fuel over.0
    is-spent over (Some k) within less = of (cases_order n k)
      where
        of : (n ≡ k) ⊎ ((n < k) ⊎ (k < n)) → sliced code own inputs (Some k) fuel r ≡ None
        of (inl e) = absurd (less (ap Some (sym e)))
        of (inr (inl l)) =
            let j = split-less n k l in
            rw j.1 ((turns-over-law code own inputs f args fits r sound n reached.repair reached.turns).part fuel j.0 (over.1 j.0))
        of (inr (inr g)) = absurd (omega (arith, g, within))

  holds-again : (reads : Option ℕ) (done : Bool) (p : RepairInCode) → IsSliceOf code inputs reads fuel done r p → HoldsFor code inputs f args p
  holds-again reads done p h = record {
    fits = fits;
    repair = h.repair;
    stands = h.stands;
    sound = (slice-law code own inputs f args fits r sound reads h.repair ((slices-law code own inputs reads fuel r h.repair).0 h.is).0).sound;
  }

  -- what a slice gives holds again
  pub given-holds : (reads : Option ℕ) (s : Sliced) → Comes code inputs reads fuel r s → IfGiven s (HoldsFor code inputs f args)
  given-holds reads (More p) h = holds-again reads false p h
  given-holds reads (Done p) h = holds-again reads true p h
  given-holds reads Spent h = tt
