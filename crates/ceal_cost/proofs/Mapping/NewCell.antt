-- MAP on a list with a new cell: run and bound grow with the list, and the work is 10.
use Rattle.std.proofs.Common.{◌≡◌, ℕ, ◌+◌, ◌*◌, ◌≤◌, ◌==◌, false, Option, Some, List, [], ◌∷◌, ◌++◌, length, refl, sym, ap, ap₂, ◌∙◌, subst, arith, append-nil}
use Rattle.ceal_base.specs.Block.{Block}
use Rattle.ceal_base.specs.Finished.{Finished}
use Rattle.ceal_base.specs.Shapes.{kinds_of_shape}
use Rattle.ceal_base.specs.declared.kind.Shape.TheVariants.{Struct}
use Rattle.ceal_base.specs.Trace.{Trace, Nothing, Stepped, WasRead, steps_of, blocks_of}
use Rattle.ceal_base.specs.declared.word.BlockId.{BlockId}
use Rattle.ceal_base.specs.declared.word.BlockId.TheVariants.{Input, Core}
use Rattle.ceal_base.specs.declared.word.Place.{Place}
use Rattle.ceal_base.specs.declared.word.Word.{Word}
use Rattle.ceal_base.specs.declared.word.Word.TheVariants.{At}
use Rattle.ceal_code.proofs.Words.SameIsEqual.{nat-refl, none-some, some-same}
use Rattle.ceal_code.specs.Alike.{Pairs, TraceAlike}
use Rattle.ceal_code.specs.Fitting.{Fits}
use Rattle.ceal_code.specs.Fresh.{fresh}
use Rattle.ceal_code.specs.Init.{made}
use Rattle.ceal_code.specs.Program.{Code}
use Rattle.ceal_code.specs.Replay.{In, IsHonest, Replays, bases, count, core_numbers, input_plain, learnt, plain_after, plain_of, plain_words}
use Rattle.ceal_code.specs.Step.{Empty}
use Rattle.ceal_code.specs.Value.{Plain}
use Rattle.ceal_cost.proofs.Firsts.{first-of}
use Rattle.ceal_cost.proofs.Mapping.Steps.{after_read, key_for, tail_in, Is, starts, next-read, next-over, made-cell, still-cell}
use Rattle.ceal_cost.proofs.Mapping.Runs.{inside, steps-inside, Ready, first-run, reads-as, none-read}
use Rattle.ceal_cost.proofs.Mapping.Update.{other-cell, mended}
use Rattle.ceal_cost.specs.Bounds.{aligned_of}
use Rattle.ceal_cost.specs.Mapping.{MapNames, mapping, tail_of, to_first, IsCell, AreCells, HasNewCell, lists, GrowsWithTheList, StaysTen, NewCellLaw}
use Rattle.ceal_theory.proofs.Repair.FunctionOfRules.{adjusted-found, first-found}
use Rattle.ceal_theory.proofs.Repair.EndAsFromScratch.{first-law}
use Rattle.ceal_theory.proofs.Repair.RepairLaws.{renamed-repair-law}
use Rattle.ceal_theory.specs.Adjust.{Above, Adjusts, Firsts}
use Rattle.ceal_theory.specs.Computed.{Repaired, adjusted, first_of}
use Rattle.ceal_theory.specs.Cost.{aligned, cost_from}
use Rattle.ceal_theory.specs.Laws.{Edited, FirstOutcome, RenamedRepair}
use Rattle.ceal_theory.specs.Repair.{State, own, begins, Fix, Reruns}

-- the first trace of a call on a list of these cells
abbrev first_trace : Place → Place → List ℕ → Trace
first_trace from to cells = Stepped (WasRead from (to_first cells) after_read 2 (At to ∷ []) (inside to cells 0) Nothing)

-- its blocks have the numbers from 0 on
inside-above : (q : Place) (cells : List ℕ) (k b : ℕ) → k + length cells ≤ b → count b (core_numbers (blocks_of (inside q cells k))) ≡ 0
inside-above q [] k b h = refl
inside-above q (c ∷ cells) k b h =
    let other : (k == b) ≡ false = grind (arith, h) in
    let later = inside-above (tail_in (Core k)) cells (k + 1) b (omega (arith, h)) in
    rw (append-nil (blocks_of (inside (tail_in (Core k)) cells (k + 1))), other) (omega (arith, later))

trace-above : (from to : Place) (cells : List ℕ) → Above (length cells) (first_trace from to cells)
trace-above from to cells b h = rw (append-nil (blocks_of (inside to cells 0))) (inside-above to cells 0 b (omega (arith, h)))

-- a list with one more
one-more : (before : List ℕ) (cell : ℕ) (later : List ℕ) → length (before ++ cell ∷ later) ≡ length (before ++ later) + 1
one-more [] cell later = omega arith
one-more (c ∷ before) cell later = let h = one-more before cell later in omega (arith, h)

with-new : (before : List ℕ) (cell : ℕ) (later : List ℕ) (c : ℕ) → In c (before ++ later) → In c (before ++ cell ∷ later)
with-new [] cell later c i = In.there i
with-new (d ∷ before) cell later c In.here = In.here
with-new (d ∷ before) cell later c (In.there i) = In.there (with-new before cell later c i)

-- A read of both lists: up to the new cell they find the same, and what is inside the read that finds it is the cost.
cost-of-read : (p q : Place) (before : List ℕ) (cell next : ℕ) (later : List ℕ) (k : ℕ) (ps : Pairs) → ¬ (In cell (next ∷ later))
    → (cost_from ps (WasRead p (to_first (before ++ next ∷ later)) after_read 2 (At q ∷ []) (inside q (before ++ next ∷ later) k) Nothing)
    (WasRead p (to_first (before ++ cell ∷ next ∷ later)) after_read 2 (At q ∷ []) (inside q (before ++ cell ∷ next ∷ later) k) Nothing)).cost ≡ 5 * length (next ∷ later) + 7
unfolding cost_from
cost-of-read p q [] cell next later k ps other =
    let steps = steps-inside q (cell ∷ next ∷ later) k in
    rw (other-cell cell next later other) (omega (arith, steps))
cost-of-read p q (c ∷ before) cell next later k ps other =
    let inner = cost-of-read (tail_of c) (tail_in (Core k)) before cell next later (k + 1) (record { left = k; right = k } ∷ ps) other in
    rw (nat-refl c) (omega (arith, inner))

beside : (from to : Place) (before : List ℕ) (cell next : ℕ) (later : List ℕ) → ¬ (In cell (next ∷ later))
    → aligned (first_trace from to (before ++ next ∷ later)) (first_trace from to (before ++ cell ∷ next ∷ later)) ≡ 5 * length (next ∷ later) + 7
unfolding cost_from
beside from to before cell next later other = cost-of-read from to before cell next later 0 [] other

-- a first trace is one of the call
replays-first : (code : Code) (inputs : List Block) (f : ℕ) (args : List Word) (n : ℕ) → Fits code inputs f args → (a : Repaired)
    → first_of code inputs n f args ≡ Some a → Replays code inputs f args a.items
replays-first code inputs f args n fits a e = go (first_of code inputs n f args) (fresh code f args inputs n) e (first-law code inputs f args fits n)
  where
    go : (o : Option Repaired) (p : Option Finished) → o ≡ Some a → FirstOutcome code inputs f args o p → Replays code inputs f args a.items
    go _ _ i FirstOutcome.none = none-some a i
    go _ _ i (FirstOutcome.some {a = b} t) = subst (λ a. Replays code inputs f args a.items) (some-same b a i) t.replays

-- what is inside a read leaves the inputs, and cells of the image
module _ (names : MapNames) where
  input-after : (cells : List ℕ) (q : Place) (k : ℕ) (x : Plain) (i : ℕ) → plain_after (mapping names) x (inside q cells k) (Input i) ≡ x (Input i)
  unfolding learnt
  input-after [] q k x i = refl
  input-after (c ∷ cells) q k x i = input-after cells (tail_in (Core k)) (k + 1) (learnt x (Core k) (made (mapping names) x (key_for (Input c)))) i

  cell-after : (cells : List ℕ) (q : Place) (k : ℕ) (x : Plain) (b : BlockId) → Is x b → Is (plain_after (mapping names) x (inside q cells k)) b
  cell-after [] q k x b i = i
  cell-after (c ∷ cells) q k x b i =
      cell-after cells (tail_in (Core k)) (k + 1) (learnt x (Core k) (made (mapping names) x (key_for (Input c)))) b (still-cell names x (Input c) (Core k) b i)

  -- a cell of the image for each cell of the list
  block-of : (before : List ℕ) (next : ℕ) (later : List ℕ) (q : Place) (k j : ℕ) (x : Plain) → j ≡ k + length before → Is (plain_after (mapping names) x (inside q (before ++ next ∷ later) k)) (Core j)
  block-of [] next later q k j x e =
      let same : k ≡ j = omega (arith, e) in
      subst (λ j. Is (plain_after (mapping names) x (inside q (next ∷ later) k)) (Core j)) same
      (cell-after later (tail_in (Core k)) (k + 1) (learnt x (Core k) (made (mapping names) x (key_for (Input next)))) (Core k) (made-cell names x (Input next) (Core k)))
  block-of (c ∷ before) next later q k j x e =
      block-of before next later (tail_in (Core k)) (k + 1) j (learnt x (Core k) (made (mapping names) x (key_for (Input c)))) (omega (arith, e))

  -- an input that is a cell
  input-cell : (inputs : List Block) (c : ℕ) (next : Word) → IsCell names inputs c next → Is (input_plain (mapping names) inputs) (Input c)
  unfolding input_plain
  input-cell inputs c next i = record { words = plain_words (kinds_of_shape (mapping names).structs (Struct 0)) i.words; there = rw i.there refl }

  moved : (x y : Plain) (b : BlockId) → y b ≡ x b → Is x b → Is y b
  moved x y b e i = record { words = i.words; there = e ∙ i.there }

  ready : (x : Plain) (inputs : List Block) → ((c : ℕ) → x (Input c) ≡ input_plain (mapping names) inputs (Input c)) → (cells : List ℕ) → AreCells names inputs cells
      → Ready x (bases (mapping names) inputs) cells
  ready x inputs same [] AreCells.none = Ready.none
  ready x inputs same (c ∷ cells) (AreCells.more i r) =
      Ready.more (moved (input_plain (mapping names) inputs) x (Input c) (same c) (input-cell inputs c (to_first cells) i)) i.tail (ready x inputs same cells r)

  module _ (inputs : List Block) (from to : Place) (cells : List ℕ) (here : bases (mapping names) inputs from ≡ to_first cells) (are : AreCells names inputs cells)
      (apart : (c : ℕ) → In c cells → ¬ (to ≡ tail_of c)) where
    firsts : Firsts (mapping names) inputs 1 (lists from to) (first_trace from to cells) (5 * length cells + 3)
    firsts =
        let s : State = begins (mapping names) inputs (input_plain (mapping names) inputs) 0 in
        let inner = first-run names cells (record s { work = 1 }) to (ready (input_plain (mapping names) inputs) inputs (λ c. refl) cells are) apart in
        record {
          after = inner.after;
          left = Nothing;
          anew = subst (λ st. Reruns (mapping names) own s st Nothing inner.after (first_trace from to cells) Nothing) (sym (starts names from to))
              (reads-as names (to_first cells) here (next-read names s.plain from to Empty) (none-read names from after_read 2 (At to ∷ []))
              inner.runs (Reruns.over (next-over names inner.after.plain)));
          counted = omega (arith, inner.counted);
        }

    pub first-is : (n : ℕ) → 5 * length cells + 3 ≤ n → first_of (mapping names) inputs n 1 (lists from to) ≡ Some (record { items = first_trace from to cells; work = 5 * length cells + 3 })
    first-is n h = first-found (mapping names) inputs n 1 (lists from to) (first_trace from to cells) (5 * length cells + 3) firsts h

  module _ (old new : List Block) (from to : Place) (before : List ℕ) (cell next : ℕ) (later : List ℕ) (h : HasNewCell names old new from to before cell next later) where
    abbrev cells : List ℕ
    cells = before ++ next ∷ later

    abbrev longer : List ℕ
    longer = before ++ cell ∷ next ∷ later

    abbrev trace : Trace
    trace = first_trace from to cells

    first-old : (n : ℕ) → 5 * length cells + 3 ≤ n → first_of (mapping names) old n 1 (lists from to) ≡ Some (record { items = trace; work = 5 * length cells + 3 })
    first-old = first-is old from to cells h.was.first h.was.all (λ c i. h.apart c (with-new before cell (next ∷ later) c i))

    first-new : (n : ℕ) → 5 * length cells + 8 ≤ n → first_of (mapping names) new n 1 (lists from to) ≡ Some (record { items = first_trace from to longer; work = 5 * length longer + 3 })
    first-new n k = let more = one-more before cell (next ∷ later) in first-is new from to longer h.is.first h.is.all h.apart n (omega (arith, k, more))

    grows : GrowsWithTheList names old new from to (length cells) (length (next ∷ later))
    grows = record {
      steps = λ n k. (record { items = trace; work = 5 * length cells + 3 }, first-old n k, refl);
      bound = λ n k. ap₂ aligned_of (first-old n (omega (arith, k))) (first-new n k) ∙ beside from to before cell next later h.other;
    }

    same-plain : (c : ℕ) → plain_of (mapping names) new trace (Input c) ≡ input_plain (mapping names) new (Input c)
    unfolding plain_of
    same-plain c = input-after cells to 0 (input_plain (mapping names) new) c

    its-block : Is (plain_of (mapping names) new trace) (Core (0 + length before))
    unfolding plain_of
    its-block = block-of before next later to 0 (0 + length before) (input_plain (mapping names) new) refl

    -- the repair of the first trace
    record Adjusted (number : ℕ) : Type 0 where
      items : Trace
      adjusts : Adjusts (mapping names) new number trace items 10

    adjust : (number : ℕ) → Adjusted number
    adjust number =
        let s : State = begins (mapping names) new (plain_of (mapping names) new trace) number in
        let r = mended names cell next later h.other before s from to 0 h.is.first (ready s.plain new same-plain longer h.is.all) its-block h.apart in
        record {
          items = Stepped (WasRead from (s.store from) after_read 2 (At to ∷ []) r.items Nothing);
          adjusts = record { after = r.after; fix = Fix.step (Fix.read r.mend Fix.end); counted = r.counted };
        }

    module _ (l : Trace) (number : ℕ) (e : Edited (mapping names) old new 1 (lists from to) l number) (honest : IsHonest (mapping names) old l) where
      edited-first : Edited (mapping names) old new 1 (lists from to) trace (length cells)
      edited-first =
          let n = 5 * length cells + 3 in
          record {
            call = e.call;
            fit = e.fit;
            extended = e.extended;
            trace = replays-first (mapping names) old 1 (lists from to) n e.call (record { items = trace; work = n }) (first-old n (omega arith));
            above = trace-above from to cells;
          }

      -- the repair of the trace is that of the first trace renamed
      there : (n : ℕ) → 10 ≤ n → (a : Repaired) × (adjusted (mapping names) new number n l ≡ Some a) × (a.work ≡ 10)
      there n k =
          let fuel = steps_of l + (5 * length cells + 3) in
          let g = first-of (mapping names) old 1 (lists from to) l (record { fits = e.call; replays = e.trace; honest = honest }) fuel (omega arith) in
          let is : g.first ≡ record { items = trace; work = 5 * length cells + 3 } =
          some-same g.first (record { items = trace; work = 5 * length cells + 3 }) (sym g.is ∙ first-old fuel (omega arith)) in
          let a = adjust (length cells) in
          let repaired = adjusted-found (mapping names) new (length cells) n trace a.items 10 a.adjusts k in
          go n (adjusted (mapping names) new (length cells) n trace) (adjusted (mapping names) new number n l) repaired refl
          (renamed-repair-law (mapping names) old new 1 (lists from to) trace (length cells) edited-first
          g.pairs g.one l (subst (λ f. TraceAlike g.pairs f.items l) is g.alike) number e.above n)
        where
          go : (n : ℕ) (o p : Option Repaired) → o ≡ Some (record { items = (adjust (length cells)).items; work = 10 }) → adjusted (mapping names) new number n l ≡ p → RenamedRepair o p
              → (a : Repaired) × (adjusted (mapping names) new number n l ≡ Some a) × (a.work ≡ 10)
          go n _ _ i j RenamedRepair.none = none-some (record { items = (adjust (length cells)).items; work = 10 }) i
          go n _ _ i j (RenamedRepair.some {a = a} {b = b} ps one alike work) =
              (b, j, sym work ∙ ap (λ a. a.work) (some-same a (record { items = (adjust (length cells)).items; work = 10 }) i))

      each : (m : Trace) (work : ℕ) → Adjusts (mapping names) new number l m work → work ≡ 10
      each m work a =
          let n = work + 10 in
          let t = there n (omega arith) in
          ap (λ a. a.work) (some-same (record { items = m; work = work }) t.0 (sym (adjusted-found (mapping names) new number n l m work a (omega arith)) ∙ t.1)) ∙ t.2

      stays : StaysTen names old new from to l number
      stays = record { there = there; each = each }

pub new-cell-law : NewCellLaw
new-cell-law names old new from to before cell next later h = record {
  grows = grows names old new from to before cell next later h;
  stays = stays names old new from to before cell next later h;
}
