-- A run with which a repair is in progress, and which slice of the definition's repair a slice of it is.
use Rattle.std.proofs.Common.{◌≡◌, ℕ, ◌+◌, ◌<◌, ◌≤◌, Bool, true, false, Option, Some, None, List, refl, sym, ap, subst, ◌∙◌, inr, arith}
use Rattle.std.specs.Option.{IsSomeAnd}
use Rattle.std.specs.Prelude.{◌↔◌, IsSome}
use Rattle.ceal_base.proofs.TraceLemmas.{trace-flat}
use Rattle.ceal_base.specs.Block.{Block}
use Rattle.ceal_base.specs.Trace.{Trace, trace_of}
use Rattle.ceal_base.specs.declared.call.Call.{Call}
use Rattle.ceal_base.specs.declared.word.BlockId.TheVariants.{Core}
use Rattle.ceal_base.specs.declared.word.Word.{Word}
use Rattle.ceal_code.proofs.Words.SameIsEqual.{some-same, none-some}
use Rattle.ceal_code.specs.Alike.{Pairs, Tied, TraceAlike, OneToOne}
use Rattle.ceal_code.specs.Program.{Code}
use Rattle.ceal_code.specs.Replay.{IsHonest}
use Rattle.ceal_engine.proofs.Inputs.{extended-refl}
use Rattle.ceal_engine.proofs.Present.{part-trace}
use Rattle.ceal_engine.proofs.Repairs.{kept-as, trace-is}
use Rattle.ceal_engine.proofs.RunMemory.{low-numbers}
use Rattle.ceal_engine.specs.Engine.{EngineState, IsWhole, fresh_call, trace}
use Rattle.ceal_engine.specs.Keeping.{IsPartKept, Keeps, heap_in, phase_at, phase_of, running_in, state_of}
use Rattle.ceal_engine.specs.Runs.{finished, under_way, told, opened}
use Rattle.ceal_engine.specs.Partial.{spent_in, carried_by, CarriesRepair, IsUnderWay, RenamedFrom, SliceContinues, SliceEnds, IsOut, KeepsWords, unrepaired_of, LeavesFewer}
use Rattle.ceal_engine.specs.declared.phase.Phase.{Phase}
use Rattle.ceal_engine.specs.declared.phase.Phase.TheVariants.{Finished as IsFinished, Pending, Partial}
use Rattle.ceal_engine.specs.declared.run.Run.{Run}
use Rattle.ceal_engine.specs.declared.run.Run.TheVariants as its
use Rattle.ceal_engine.specs.declared.run.Stage.{Stage}
use Rattle.ceal_engine.specs.declared.run.Stage.TheVariants as stage
use Rattle.ceal_heap.specs.Heap.{Contents, next, plain_of}
use Rattle.ceal_repair.proofs.Runs.FewNumbers.{kept-few}
use Rattle.ceal_repair.specs.Answers.{IsKeptRun}
use Rattle.ceal_repair.specs.Blocks.{HasFew}
use Rattle.ceal_repair.specs.Slicing.{IsPartRun, IsSliceOf, IsSliced}
use Rattle.ceal_repair.specs.declared.running.Running.{Running}
use Rattle.ceal_repair.specs.declared.advance.Progress.{Progress as Far}
use Rattle.ceal_repair.specs.declared.advance.Progress.TheVariants.{More, Done, Spent, OutOfFuel}
use Rattle.ceal_theory.proofs.SlicedRepair.CarriedLaws.{alike, carried-begin-law, carried-same-law, carried-on-law, own-single}
use Rattle.ceal_theory.proofs.Renaming.RenamedSlice.{slice-renamed}
use Rattle.ceal_theory.proofs.SlicedRepair.SliceLaws.{begin-law, other-names-law, slice-law, slices-law, whole-law, is-done-law}
use Rattle.ceal_theory.proofs.SlicedRepair.Progress.{progress-law}
use Rattle.ceal_theory.specs.Adjust.{Above}
use Rattle.ceal_theory.specs.Carried.{Carried, CarriedSlices, numbered_from_zero}
use Rattle.ceal_theory.specs.Laws.{Edited}
use Rattle.ceal_theory.specs.Progress.{unrepaired}
use Rattle.ceal_theory.specs.Repair.{own}
use Rattle.ceal_theory.specs.Slices.{Repair, beginning, sliced, is_done, RepairHolds, Slices, IsOldOrNewPair, RenamedSlices}

-- ---- a new repair begins

module _ (code : Code) (fuel : ℕ) (inputs : List Block) (call : Call) (l : Trace) (run : Running) (kept : IsKeptRun code inputs call.function call.args fuel l run) where
  abbrev low : Above (next run.heap) l
  low = low-numbers code inputs l run kept.stands

  abbrev edited : Edited code inputs inputs call.function call.args l (next run.heap)
  edited = record { call = kept.fits; fit = kept.fits.blocks; extended = extended-refl code inputs; trace = kept.replays; above = low }

  few-readable : HasFew fuel run.heap
  few-readable = kept-few code inputs call.function call.args fuel l run kept

  pub begun : IsPartRun code inputs call.function call.args fuel (beginning code inputs l 0) (told 0 run)
  begun = record {
    fits = kept.fits;
    stands = record {
      kept = kept.stands.kept;
      nests = kept.stands.nests;
      items = kept.stands.items;
      known = λ b. sym (kept.stands.words b);
      blocks = kept.stands.blocks;
      spent = refl;
      names = λ k. next run.heap + k;
      sound = begin-law code (λ k. next run.heap + k) inputs inputs call.function call.args l (next run.heap) 0 edited (λ j k e. omega (arith, e)) (λ k h. low (next run.heap + k) (omega arith));
    };
    few = omega arith;
    blocks = record {
      blocks = few-readable.blocks;
      each = few-readable.each;
      few = omega (arith, few-readable.few);
    };
    numbers = kept.numbers;
  }

  unfoldable pub begun-kept : IsPartKept code fuel inputs call (told 0 run)
  begun-kept = record {
    repair = beginning code inputs l 0;
    of = begun;
    next = next run.heap;
    ordered = beginning code inputs l (next run.heap);
    sound = begin-law code own inputs inputs call.function call.args l (next run.heap) (next run.heap) edited (λ j k e. e) (λ k h. low k h);
    carried = carried-begin-law code inputs inputs call.function call.args l (next run.heap) 0 edited;
  }

-- ---- the run with which a repair is in progress

pub opened-whole : (s : Stage) (run : Running) → IsWhole (phase_at s) → opened (its.Kept run s) ≡ Some (told 0 run)
opened-whole stage.Finished run h = refl
opened-whole stage.Pending run h = refl
opened-whole stage.Partial run h = absurd (grind (arith, h))

-- a run with which a repair continues
abbrev pub IsOpenRun : Code → ℕ → List Block → Option Call → Running → Type 0
IsOpenRun code fuel inputs None run = ⊥
IsOpenRun code fuel inputs (Some call) run = IsPartKept code fuel inputs call run

pub open-run : (code : Code) (fuel : ℕ) (inputs : List Block) (before : Run) (call : Option Call) → Keeps code fuel inputs before call → (run : Running) → opened before ≡ Some run
    → IsOpenRun code fuel inputs call run
open-run code fuel inputs its.New call k run e = none-some run e
open-run code fuel inputs (its.Kept old s) None k run e = elim k [ ]
open-run code fuel inputs (its.Kept old stage.Finished) (Some call) k run e =
    subst (IsPartKept code fuel inputs call) (some-same (told 0 old) run e) (begun-kept code fuel inputs call k.trace old k.of)
open-run code fuel inputs (its.Kept old stage.Pending) (Some call) k run e = subst (IsPartKept code fuel inputs call) (some-same (told 0 old) run e) (begun-kept code fuel inputs call k.0 old k.1)
open-run code fuel inputs (its.Kept old stage.Partial) (Some call) k run e = subst (IsPartKept code fuel inputs call) (some-same old run e) k
open-run code fuel inputs its.Dropped call k run e = none-some run e

-- what of it is that of the run before
pub record SameAs (phase : Phase) (before run : Running) : Type 0 where
  pub tables : run.tables ≡ before.tables
  pub trace : run.tables.trace ≡ before.tables.trace
  pub heap : run.heap ≡ before.heap
  pub spent : run.spent ≡ spent_in phase before.spent

pub same-as : (s : Stage) (before run : Running) → opened (its.Kept before s) ≡ Some run → SameAs (phase_at s) before run
same-as stage.Finished before run e = subst (SameAs IsFinished before) (some-same (told 0 before) run e) (record { tables = refl; trace = refl; heap = refl; spent = refl })
same-as stage.Pending before run e = subst (SameAs Pending before) (some-same (told 0 before) run e) (record { tables = refl; trace = refl; heap = refl; spent = refl })
same-as stage.Partial before run e = subst (SameAs Partial before) (some-same before run e) (record { tables = refl; trace = refl; heap = refl; spent = refl })

-- ---- the definition's repair

-- a slice of the repair is there, and is carried to this one
pub record Carries (code : Code) (inputs : List Block) (f : ℕ) (args : List Word) (fuel next' : ℕ) (r : Repair) (k : Option ℕ) (z : Repair) : Type 0 where
  pub repair : Repair
  pub is : sliced code own inputs k fuel r ≡ Some repair
  pub carried : Carried code inputs next' repair z
  pub honest : IsHonest code inputs repair.items ↔ IsHonest code inputs z.items
  pub sound : RepairHolds code own inputs f args repair

module _ (code : Code) (inputs : List Block) (f : ℕ) (args : List Word) (fuel : ℕ) (q : Repair) (run : Running) (part : IsPartRun code inputs f args fuel q run) (k : Option ℕ) where
  module _ (next' : ℕ) (r : Repair) (sound : RepairHolds code own inputs f args r) (carried : Carried code inputs next' r q) where
    by-names : (o : Option Repair) → IsSliceOf code inputs k fuel q o → CarriedSlices code inputs next' (sliced code own inputs k fuel r) o
    by-names o s = subst (λ z. CarriedSlices code inputs next' (sliced code own inputs k fuel r) z) s.is
        (carried-on-law code part.stands.names s.names inputs f args part.fits r q sound part.stands.sound s.single s.off next' carried k fuel)

    pub there : (z : Repair) → IsSliceOf code inputs k fuel q (Some z) → Carries code inputs f args fuel next' r k z
    there z s = at (sliced code own inputs k fuel r) refl (by-names (Some z) s)
      where
        at : (o : Option Repair) → sliced code own inputs k fuel r ≡ o → CarriedSlices code inputs next' o (Some z) → Carries code inputs f args fuel next' r k z
        at None e x = elim x [ ]
        at (Some z') e (CarriedSlices.some c done) = record {
          repair = z';
          is = e;
          carried = c;
          honest = done;
          sound = (slice-law code own inputs f args part.fits r sound k z' ((slices-law code own inputs k fuel r z').0 e).0).sound;
        }

    pub none-there : IsSliceOf code inputs k fuel q None → sliced code own inputs k fuel r ≡ None
    none-there s = at (sliced code own inputs k fuel r) refl (by-names None s)
      where
        at : (o : Option Repair) → sliced code own inputs k fuel r ≡ o → CarriedSlices code inputs next' o None → sliced code own inputs k fuel r ≡ None
        at None e x = e
        at (Some z') e x = elim x [ ]

  -- the slice with the heap's numbers
  module _ (z : Repair) (s : IsSliceOf code inputs k fuel q (Some z)) where
    anew-sound : RepairHolds code s.names inputs f args (numbered_from_zero q)
    anew-sound = other-names-law code part.stands.names s.names inputs f args q part.stands.sound s.single 0 (λ j h. s.off j)

    by-rules : Slices code s.names inputs k (numbered_from_zero q) z
    by-rules = ((slices-law code s.names inputs k fuel (numbered_from_zero q) z).0 s.is).0

    -- what was known is known still
    pub still-known : (b : ℕ) (block : Block) → q.known (Core b) ≡ Some block → z.known (Core b) ≡ Some block
    still-known = (slice-law code s.names inputs f args part.fits (numbered_from_zero q) anew-sound k z by-rules).kept

    -- without a number of reads it is done
    pub whole-done : k ≡ None → IsHonest code inputs z.items
    whole-done e = whole-law code s.names inputs f args part.fits (numbered_from_zero q) anew-sound z (subst (λ o. Slices code s.names inputs o (numbered_from_zero q) z) e by-rules)

-- The slice is the definition's with its blocks renamed: a block that was known before has the number that it had, and
-- a new one a number that no block had.
pub record Renames (code : Code) (next' : ℕ) (before now : Repair) (l m : Trace) : Type 0 where
  pub pairs : Pairs
  pub one : OneToOne pairs
  pub alike : TraceAlike pairs l m
  pub kept : (b c : ℕ) → Tied b c pairs → b < next' → b ≡ c
  pub apart : (b c : ℕ) → Tied b c pairs → before.known (Core b) ≡ None → now.known (Core c) ≡ None

module _ (code : Code) (inputs : List Block) (f : ℕ) (args : List Word) (fuel : ℕ) (q : Repair) (run : Running) (part : IsPartRun code inputs f args fuel q run) (k : Option ℕ) (next' : ℕ) (r : Repair)
    (sound : RepairHolds code own inputs f args r) (carried : Carried code inputs next' r q) (z z' : Repair) (s : IsSliceOf code inputs k fuel q (Some z))
    (is : sliced code own inputs k fuel r ≡ Some z') where
  names-sound : RepairHolds code s.names inputs f args (numbered_from_zero q)
  names-sound = anew-sound code inputs f args fuel q run part k z s

  same-carried : Carried code inputs next' r (numbered_from_zero q)
  same-carried = carried-same-law code inputs next' r q (numbered_from_zero q) carried refl (λ b. refl) refl

  known-none : (b : ℕ) (block : Block) → r.known (Core b) ≡ Some block → r.known (Core b) ≡ None → ⊥
  known-none b block e none = none-some block (sym none ∙ e)

  old-number : (b c : ℕ) → IsOldOrNewPair own s.names same-carried.pairs r (numbered_from_zero q) b c → b < next' → b ≡ c
  old-number b c (IsOldOrNewPair.old i) l = same-carried.kept b c i l
  old-number b c (IsOldOrNewPair.new j e e') l = absurd (omega (arith, e, l, same-carried.above))

  new-number : (b c : ℕ) → IsOldOrNewPair own s.names same-carried.pairs r (numbered_from_zero q) b c → r.known (Core b) ≡ None → q.known (Core c) ≡ None
  new-number b c (IsOldOrNewPair.old i) none = let w = same-carried.left b c i in absurd (known-none b w.0 w.1 none)
  new-number b c (IsOldOrNewPair.new j e e') none = subst (λ d. q.known (Core d) ≡ None) (sym e') (s.off (0 + j))

  pub renames : Renames code next' r q z'.items z.items
  renames = of (subst (λ o. RenamedSlices code own s.names inputs same-carried.pairs r (numbered_from_zero q) o (Some z)) is
      (subst (λ o. RenamedSlices code own s.names inputs same-carried.pairs r (numbered_from_zero q) (sliced code own inputs k fuel r) o) s.is
      (slice-renamed code inputs part.fits.blocks own s.names own-single s.single same-carried.pairs r (numbered_from_zero q)
      (alike code s.names inputs f args part.fits r (numbered_from_zero q) sound names-sound next' same-carried) k fuel)))
    where
      of : RenamedSlices code own s.names inputs same-carried.pairs r (numbered_from_zero q) (Some z') (Some z) → Renames code next' r q z'.items z.items
      of (RenamedSlices.some qs wide a from) = record {
        pairs = qs;
        one = a.one;
        alike = a.items;
        kept = λ b c t l. old-number b c (from b c t) l;
        apart = λ b c t none. new-number b c (from b c t) none;
      }

done-of : (code : Code) (inputs : List Block) (r : Repair) → IsHonest code inputs r.items → is_done code inputs r ≡ true
done-of code inputs r = (is-done-law code inputs r).1

not-done-of : (code : Code) (inputs : List Block) (r : Repair) → ¬ IsHonest code inputs r.items → is_done code inputs r ≡ false
not-done-of code inputs r stale = go (is_done code inputs r) refl
  where
    go : (t : Bool) → is_done code inputs r ≡ t → is_done code inputs r ≡ false
    go true e = absurd (stale ((is-done-law code inputs r).0 e))
    go false e = e

-- ---- an engine whose repair is in progress

module _ (code : Code) (fuel : ℕ) (inputs : List Block) (call : Call) (g : Stage) (before run : Running) (is : opened (its.Kept before g) ≡ Some run) (k : IsPartKept code fuel inputs call run) where
  abbrev e : EngineState
  e = state_of code fuel inputs (Some call) (its.Kept before g)

  same : SameAs (phase_at g) before run
  same = same-as g before run is

  -- the engine's repair is carried to that of the run
  pub here : (next' : ℕ) (r : Repair) → (c : CarriesRepair e next' r) → RepairHolds code own inputs call.function call.args r × Carried code inputs next' r k.repair
  here next' r c = (
    subst (λ (d : Call). RepairHolds code own inputs d.function d.args r) (some-same c.call call (sym c.called)) c.sound,
    carried-same-law code inputs next' r (carried_by e c.items) k.repair c.carried items
        (λ b. k.of.stands.known b ∙ ap (λ h. plain_of h (Core b)) same.heap)
        (k.of.stands.spent ∙ same.spent),
  )
    where
      items : k.repair.items ≡ c.items
      items = some-same k.repair.items c.items (sym (part-trace code fuel inputs call run k) ∙ (ap (λ t. trace_of (Rattle.ceal_trace.specs.Items.forest_of t.nodes)) same.trace ∙ c.is))

  module _ (reads : Option ℕ) (next' : ℕ) (r : Repair) (c : CarriesRepair e next' r) where
    abbrev h : RepairHolds code own inputs call.function call.args r × Carried code inputs next' r k.repair
    h = here next' r c

    abbrev found : (z : Repair) → IsSliceOf code inputs reads fuel k.repair (Some z) → Carries code inputs call.function call.args fuel next' r reads z
    found = there code inputs call.function call.args fuel k.repair run k.of reads next' r h.0 h.1

    -- the items of what was found are those of the slice, renamed
    renamed : (z : Repair) (s : IsSliceOf code inputs reads fuel k.repair (Some z)) → RenamedFrom e next' r (found z s).repair.items z.items
    renamed z s =
        let f = found z s in
        let w = renames code inputs call.function call.args fuel k.repair run k.of reads next' r h.0 h.1 z f.repair s f.is in
        record {
          pairs = w.pairs;
          one = w.one;
          alike = w.alike;
          kept = w.kept;
          apart = λ b c t none. ap (λ (g : Contents). plain_of g (Core c)) (sym same.heap) ∙ (sym (k.of.stands.known c) ∙ w.apart b c t none);
        }

    pub comes-more : (run' : Running) → IsSliced code inputs call.function call.args reads fuel k.repair run' More
        → SliceContinues e (under_way code fuel inputs (Some call) run') reads next' r
    comes-more run' s = let z = found s.0 s.1 in record {
      repair = z.repair;
      is = z.is;
      more = not-done-of code inputs z.repair (λ d. s.2 (z.honest.0 d));
      items = subst (λ o. IsSomeAnd o (RenamedFrom e next' r z.repair.items)) (sym (ap trace_of s.3.stands.items ∙ trace-flat s.0.items)) (renamed s.0 s.1);
      carries = record {
        call = call;
        called = refl;
        items = s.0.items;
        is = ap trace_of s.3.stands.items ∙ trace-flat s.0.items;
        sound = z.sound;
        carried =
            carried-same-law code inputs next' z.repair s.0 (carried_by (under_way code fuel inputs (Some call) run') s.0.items) z.carried refl (λ b. sym (s.3.stands.known b)) (sym s.3.stands.spent);
      };
    }

    pub comes-done : (run' : Running) → IsSliced code inputs call.function call.args reads fuel k.repair run' Done
        → SliceEnds e (finished code fuel inputs (Some call) run') reads next' r
    comes-done run' s = let z = found s.0 s.1 in record {
      repair = z.repair;
      is = z.is;
      done = done-of code inputs z.repair (z.honest.1 s.2.honest);
      items = subst (λ o. IsSomeAnd o (RenamedFrom e next' r z.repair.items)) (sym (trace-is code fuel inputs call k.of.fits s.0.items run' s.2))
          (renamed s.0 s.1);
      work = s.3 ∙ sym z.carried.spent;
    }

    pub comes-none : (run' : Running) → IsSliced code inputs call.function call.args reads fuel k.repair run' Spent → sliced code own inputs reads fuel r ≡ None
    comes-none run' s = none-there code inputs call.function call.args fuel k.repair run k.of reads next' r h.0 h.1 s

    pub comes-out : (run' : Running) → IsSliced code inputs call.function call.args reads fuel k.repair run' OutOfFuel → IsOut e reads r
    comes-out run' s = let z = found s.0 s.1 in inr (z.repair, z.is, done-of code inputs z.repair (z.honest.1 s.2))

  -- a part of it can be kept
  pub more-kept : (reads : Option ℕ) (run' : Running) → IsSliced code inputs call.function call.args reads fuel k.repair run' More → IsPartKept code fuel inputs call run'
  more-kept reads run' s =
      let z = there code inputs call.function call.args fuel k.repair run k.of reads k.next k.ordered k.sound k.carried s.0 s.1 in
      record { repair = s.0; of = s.3; next = k.next; ordered = z.repair; sound = z.sound; carried = z.carried }

  -- it is a part of a repair only where a number of reads was given
  pub more-some : (reads : Option ℕ) (run' : Running) → IsSliced code inputs call.function call.args reads fuel k.repair run' More → IsSome reads
  more-some None run' s = absurd (s.2 (whole-done code inputs call.function call.args fuel k.repair run k.of None s.0 s.1 refl))
  more-some (Some n) run' s = refl

  -- fewer reads are left from the first stale one on
  pub fewer-left : (reads : Option ℕ) (run' : Running) → IsSliced code inputs call.function call.args reads fuel k.repair run' More
      → LeavesFewer e (under_way code fuel inputs (Some call) run') reads
  fewer-left None run' s = tt
  fewer-left (Some n) run' s =
      let was : trace e ≡ Some k.repair.items = sym (ap (λ t. trace_of (Rattle.ceal_trace.specs.Items.forest_of t.nodes)) same.trace) ∙ part-trace code fuel inputs call run k in
      let now : trace (under_way code fuel inputs (Some call) run') ≡ Some s.0.items = ap trace_of s.3.stands.items ∙ trace-flat s.0.items in
      let fewer = progress-law code s.1.names inputs call.function call.args k.of.fits (numbered_from_zero k.repair)
      (anew-sound code inputs call.function call.args fuel k.repair run k.of (Some n) s.0 s.1)
      n s.0 (by-rules code inputs call.function call.args fuel k.repair run k.of (Some n) s.0 s.1) s.2 in
      subst (λ (o : Option Trace). unrepaired_of code inputs o + n ≤ unrepaired_of code inputs (trace e)) (sym now)
      (subst (λ (o : Option Trace). unrepaired code inputs s.0.items + n ≤ unrepaired_of code inputs o) (sym was) fewer)

  -- and blocks can still be read
  pub words-stay : (reads : Option ℕ) (run' : Running) → IsSliced code inputs call.function call.args reads fuel k.repair run' More → KeepsWords (Some before.heap) (Some run'.heap)
  words-stay reads run' s b block w =
      sym (s.3.stands.known b)
      ∙ still-known code inputs call.function call.args fuel k.repair run k.of reads s.0 s.1 b block (k.of.stands.known b ∙ (ap (λ h. plain_of h (Core b)) same.heap ∙ w))

-- ---- in the words of the engine's functions

module _ (code : Code) (fuel : ℕ) (inputs : List Block) (before : Run) (call : Option Call) (keeps : Keeps code fuel inputs before call) (run : Running) (is : opened before ≡ Some run) where
  -- it is a part of a repair
  pub open-part : (f : ℕ) × (args : List Word) × (r : Repair) × IsPartRun code inputs f args fuel r run
  open-part = go call (open-run code fuel inputs before call keeps run is)
    where
      go : (c : Option Call) → IsOpenRun code fuel inputs c run → (f : ℕ) × (args : List Word) × (r : Repair) × IsPartRun code inputs f args fuel r run
      go None k = elim k [ ]
      go (Some c) k = (c.function, c.args, k.repair, k.of)

  module _ (reads : Option ℕ) (run' : Running) (s : Far)
      (slice : (f : ℕ) (args : List Word) (r : Repair) → IsPartRun code inputs f args fuel r run → IsSliced code inputs f args reads fuel r run' s) where
    -- what is true of a call that is there, of the run before it, and of what the slice comes to
    by-parts : (P : Option Call → Run → Type 0)
        → ((c : Call) (b : Running) (g : Stage) → opened (its.Kept b g) ≡ Some run → (k : IsPartKept code fuel inputs c run) → IsSliced code inputs c.function c.args reads fuel k.repair run' s
        → P (Some c) (its.Kept b g)) → P call before
    by-parts P f = go call before refl (open-run code fuel inputs before call keeps run is)
      where
        go : (c : Option Call) (b : Run) → before ≡ b → IsOpenRun code fuel inputs c run → P c b
        go None b j k = elim k [ ]
        go (Some c) its.New j k = none-some run (ap opened (sym j) ∙ is)
        go (Some c) (its.Kept b g) j k = f c b g (ap opened (sym j) ∙ is) k (slice c.function c.args k.repair k.of)
        go (Some c) its.Dropped j k = none-some run (ap opened (sym j) ∙ is)

    abbrev old : Option Call → Run → EngineState
    old c b = state_of code fuel inputs c b

    pub keeps-more : s ≡ More → Keeps code fuel inputs (its.Kept run' stage.Partial) call
    keeps-more h = by-parts (λ c b. Keeps code fuel inputs (its.Kept run' stage.Partial) c)
        (λ c b g o k t. more-kept code fuel inputs c g b run o k reads run' (subst (IsSliced code inputs c.function c.args reads fuel k.repair run') h t))

    pub keeps-done : s ≡ Done → Keeps code fuel inputs (its.Kept run' stage.Finished) call
    keeps-done h = by-parts (λ c b. Keeps code fuel inputs (its.Kept run' stage.Finished) c)
        (λ c b g o k t. let d = subst (IsSliced code inputs c.function c.args reads fuel k.repair run') h t in kept-as code fuel inputs c k.of.fits d.0.items run' d.2)

    pub goes-on : s ≡ More
        → (next' : ℕ) (r : Repair) → CarriesRepair (old call before) next' r → SliceContinues (old call before) (under_way code fuel inputs call run') reads next' r
    goes-on h = by-parts (λ c b. (next' : ℕ) (r : Repair) → CarriesRepair (old c b) next' r → SliceContinues (old c b) (under_way code fuel inputs c run') reads next' r)
        (λ c b g o k t next' r m. comes-more code fuel inputs c g b run o k reads next' r m run' (subst (IsSliced code inputs c.function c.args reads fuel k.repair run') h t))

    pub ends : s ≡ Done
        → (next' : ℕ) (r : Repair) → CarriesRepair (old call before) next' r → SliceEnds (old call before) (finished code fuel inputs call run') reads next' r
    ends h = by-parts (λ c b. (next' : ℕ) (r : Repair) → CarriesRepair (old c b) next' r → SliceEnds (old c b) (finished code fuel inputs c run') reads next' r)
        (λ c b g o k t next' r m. comes-done code fuel inputs c g b run o k reads next' r m run' (subst (IsSliced code inputs c.function c.args reads fuel k.repair run') h t))

    pub some-reads : s ≡ More → IsSome reads
    some-reads h = by-parts (λ c b. IsSome reads)
        (λ c b g o k t. more-some code fuel inputs c g b run o k reads run' (subst (IsSliced code inputs c.function c.args reads fuel k.repair run') h t))

    pub leaves-fewer : s ≡ More → LeavesFewer (old call before) (under_way code fuel inputs call run') reads
    leaves-fewer h = by-parts (λ c b. LeavesFewer (old c b) (under_way code fuel inputs c run') reads)
        (λ c b g o k t. fewer-left code fuel inputs c g b run o k reads run' (subst (IsSliced code inputs c.function c.args reads fuel k.repair run') h t))

    pub keeps-words : s ≡ More → KeepsWords (heap_in (running_in before)) (Some run'.heap)
    keeps-words h = by-parts (λ c b. KeepsWords (heap_in (running_in b)) (Some run'.heap))
        (λ c b g o k t. words-stay code fuel inputs c g b run o k reads run' (subst (IsSliced code inputs c.function c.args reads fuel k.repair run') h t))

    pub no-slice : s ≡ Spent → (next' : ℕ) (r : Repair) → CarriesRepair (old call before) next' r → sliced code own inputs reads fuel r ≡ None
    no-slice h = by-parts (λ c b. (next' : ℕ) (r : Repair) → CarriesRepair (old c b) next' r → sliced code own inputs reads fuel r ≡ None)
        (λ c b g o k t next' r m. comes-none code fuel inputs c g b run o k reads next' r m run' (subst (IsSliced code inputs c.function c.args reads fuel k.repair run') h t))

    pub is-out : s ≡ OutOfFuel → (next' : ℕ) (r : Repair) → CarriesRepair (old call before) next' r → IsOut (old call before) reads r
    is-out h = by-parts (λ c b. (next' : ℕ) (r : Repair) → CarriesRepair (old c b) next' r → IsOut (old c b) reads r)
        (λ c b g o k t next' r m. comes-out code fuel inputs c g b run o k reads next' r m run' (subst (IsSliced code inputs c.function c.args reads fuel k.repair run') h t))

    -- then the run from scratch is out of fuel, too
    pub fresh-out : s ≡ OutOfFuel → fresh_call code inputs fuel call ≡ None
    fresh-out h = by-parts (λ c b. fresh_call code inputs fuel c ≡ None) (λ c b g o k t. (subst (IsSliced code inputs c.function c.args reads fuel k.repair run') h t).3)

-- ---- a repair of the call is in progress

pub is-under-way : (code : Code) (fuel : ℕ) (inputs : List Block) (run : Run) (call : Option Call) → Keeps code fuel inputs run call → phase_of run ≡ Partial
    → IsUnderWay (state_of code fuel inputs call run)
is-under-way code fuel inputs its.New call k e = absurd (grind (arith, e))
is-under-way code fuel inputs (its.Kept run s) None k e = elim k [ ]
is-under-way code fuel inputs (its.Kept run stage.Finished) (Some call) k e = absurd (grind (arith, e))
is-under-way code fuel inputs (its.Kept run stage.Pending) (Some call) k e = absurd (grind (arith, e))
is-under-way code fuel inputs (its.Kept run stage.Partial) (Some call) k e = record {
  next = k.next;
  repair = k.ordered;
  carries = record {
    call = call;
    called = refl;
    items = k.repair.items;
    is = part-trace code fuel inputs call run k;
    sound = k.sound;
    carried = carried-same-law code inputs k.next k.ordered k.repair (carried_by (under_way code fuel inputs (Some call) run) k.repair.items) k.carried refl (λ b. sym (k.of.stands.known b))
        (sym k.of.stands.spent);
  };
  few = k.of.few;
}
is-under-way code fuel inputs its.Dropped call k e = absurd (grind (arith, e))
