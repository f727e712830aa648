-- The laws of repair. A trace here is one of a call: a core function of the code, with arguments and inputs that fit.
use Rattle.std.specs.Prelude.{◌≡◌, ◌↔◌, ℕ, zero, suc, ◌+◌, ◌≤◌, ◌<◌, true, Option, Some, None, List, [], ◌∷◌}
use Rattle.ceal_base.specs.Block.{Block, Blocks}
use Rattle.ceal_base.specs.Finished.{Finished}
use Rattle.ceal_base.specs.Fitting.{inputs_fit}
use Rattle.ceal_base.specs.Same.{Same}
use Rattle.ceal_base.specs.Trace.{Trace, steps_of, blocks_of}
use Rattle.ceal_base.specs.declared.word.BlockId.TheVariants.{Core}
use Rattle.ceal_base.specs.declared.word.Word.{Word}
use Rattle.ceal_code.specs.Alike.{Pairs, TraceAlike, OneToOne, zipped}
use Rattle.ceal_code.specs.Fitting.{Fits}
use Rattle.ceal_code.specs.Fresh.{fresh}
use Rattle.ceal_code.specs.Program.{Code}
use Rattle.ceal_code.specs.Replay.{Store, count, core_numbers, plain_of, Replays, IsHonest, block_after, inputs_after}
use Rattle.ceal_theory.specs.Adjust.{Extended, Above, Adjusts, Firsts}
use Rattle.ceal_theory.specs.Computed.{Repaired, adjusted, first_of}

-- the memory after the trace, with the store at its end, where the i-th block stands for the core block of number i
abbrev pub MemoryAfter : Code → List Block → Trace → Store → Blocks → Type 0
MemoryAfter code inputs l after m =
    Same (core_numbers (blocks_of l)) (inputs_after code after 0 inputs)
    (λ b. block_after code (plain_of code inputs l) after (Core b)) m

-- What change propagation starts from: a trace of a call on old inputs, new inputs that extend them, and a number above
-- all blocks of the trace.
pub record Edited
    (code : Code) (old new : List Block) (f : ℕ) (args : List Word) (l : Trace) (number : ℕ) : Type 0 where
  pub call : Fits code old f args
  pub fit : inputs_fit code.structs new ≡ true
  pub extended : Extended code old new
  pub trace : Replays code old f args l
  pub above : Above number l

-- a trace of the call that is honest on these inputs, whose blocks below a number are blocks of the old trace
pub record Updated
    (code : Code) (inputs : List Block) (f : ℕ) (args : List Word) (number : ℕ) (old new : Trace) : Type 0 where
  pub replays : Replays code inputs f args new
  pub honest : IsHonest code inputs new
  pub blocks : (b : ℕ) → b < number → count b (core_numbers (blocks_of new)) ≤ count b (core_numbers (blocks_of old))

-- the repaired trace is a trace of the call on the new inputs, honest and with distinct blocks: old ones, and new ones
-- with numbers from the next one on
abbrev pub RepairLaw : Type 0
RepairLaw = (code : Code) (old new : List Block) (f : ℕ) (args : List Word) (l m : Trace) (number work : ℕ)
    → Edited code old new f args l number → Adjusts code new number l m work → Updated code new f args number l m

-- two traces that are one up to their blocks, the i-th of the one for the i-th of the other, with one memory
pub record EqualTraces (code : Code) (inputs : List Block) (l m : Trace) (after after' : Store) : Type 0 where
  pub traces : TraceAlike (zipped (core_numbers (blocks_of l)) (core_numbers (blocks_of m))) l m
  pub steps : steps_of l ≡ steps_of m
  pub memory : Blocks
  pub left : MemoryAfter code inputs l after memory
  pub right : MemoryAfter code inputs m after' memory

-- a call has one honest trace on given inputs, up to the numbers of blocks
abbrev pub UniqueLaw : Type 0
UniqueLaw = (code : Code) (inputs : List Block) (f : ℕ) (args : List Word) → Fits code inputs f args
    → (l m : Trace) → Replays code inputs f args l → Replays code inputs f args m
    → (h : IsHonest code inputs l) (k : IsHonest code inputs m) → EqualTraces code inputs l m h.after k.after

-- a trace whose blocks are renamed one to one is a trace of the call, and is honest where the other is
abbrev pub RenamedLaw : Type 0
RenamedLaw = (code : Code) (inputs : List Block) (f : ℕ) (args : List Word) → Fits code inputs f args
    → (ps : Pairs) → OneToOne ps → (l m : Trace) → TraceAlike ps l m → Replays code inputs f args l
    → Replays code inputs f args m × (IsHonest code inputs l → IsHonest code inputs m)

-- both are not there, or the one is the other with its blocks renamed one to one, and with the same work
pub data RenamedRepair : Option Repaired → Option Repaired → Type 0 where
  none : RenamedRepair None None
  some : {a b : Repaired} (ps : Pairs) → OneToOne ps → TraceAlike ps a.items b.items → a.work ≡ b.work
      → RenamedRepair (Some a) (Some b)

-- the repair of a renamed trace is there exactly when that of the trace is, and is that one renamed; the next numbers
-- may be any above the blocks
abbrev pub RenamedRepairLaw : Type 0
RenamedRepairLaw = (code : Code) (old new : List Block) (f : ℕ) (args : List Word) (l : Trace) (number : ℕ)
    → Edited code old new f args l number
    → (ps : Pairs) → OneToOne ps → (m : Trace) → TraceAlike ps l m → (other : ℕ) → Above other m
    → (n : ℕ) → RenamedRepair (adjusted code new number n l) (adjusted code new other n m)

-- Where the run from scratch ends within n steps, the repair is there with that much work at most; its kept and
-- its new steps together are the run's. Where the repair is there and has n steps at most, the run ends.
pub record SameEnd
    (code : Code) (inputs : List Block) (f : ℕ) (args : List Word) (number n : ℕ) (l : Trace) : Type 0 where
  pub repaired : (r : Finished) → fresh code f args inputs n ≡ Some r
      → (a : Repaired) × (adjusted code inputs number n l ≡ Some a) × (steps_of a.items ≡ r.steps) × a.work ≤ r.steps
  pub ended : (a : Repaired) → adjusted code inputs number n l ≡ Some a → steps_of a.items ≤ n
      → (r : Finished) × (fresh code f args inputs n ≡ Some r) × (r.steps ≡ steps_of a.items)

abbrev pub EndLaw : Type 0
EndLaw = (code : Code) (old new : List Block) (f : ℕ) (args : List Word) (l : Trace) (number : ℕ)
    → Edited code old new f args l number → (n : ℕ) → SameEnd code new f args number n l

-- a trace that is honest already is left as it is, with no work
abbrev pub UnchangedLaw : Type 0
UnchangedLaw = (code : Code) (inputs : List Block) (l : Trace) → IsHonest code inputs l
    → (number n : ℕ) → adjusted code inputs number n l ≡ Some (record { items = l; work = 0 })

-- n numbers from a given one on
abbrev pub numbers : ℕ → ℕ → List ℕ
numbers from zero = []
numbers from (suc n) = from ∷ numbers (from + 1) n

-- a first trace with what the run from scratch comes to: each of its steps is work, its blocks have the numbers of the
-- run's allocations, and its memory is the run's
pub record FirstTrace
    (code : Code) (inputs : List Block) (f : ℕ) (args : List Word) (a : Repaired) (r : Finished) : Type 0 where
  pub replays : Replays code inputs f args a.items
  pub honest : IsHonest code inputs a.items
  pub work : a.work ≡ r.steps
  pub steps : steps_of a.items ≡ r.steps
  pub blocks : core_numbers (blocks_of a.items) ≡ numbers 0 r.blocks
  pub memory : MemoryAfter code inputs a.items honest.after r.memory

-- a first trace and the run from scratch: both are there, or neither
pub data FirstOutcome (code : Code) (inputs : List Block) (f : ℕ) (args : List Word) : Option Repaired
    → Option Finished → Type 0 where
  none : FirstOutcome code inputs f args None None
  some : {a : Repaired} {r : Finished} → FirstTrace code inputs f args a r
      → FirstOutcome code inputs f args (Some a) (Some r)

-- the first trace is that of the run from scratch, and is not there where that has no end within n steps
abbrev pub FirstLaw : Type 0
FirstLaw = (code : Code) (inputs : List Block) (f : ℕ) (args : List Word) → Fits code inputs f args
    → (n : ℕ) → FirstOutcome code inputs f args (first_of code inputs n f args) (fresh code f args inputs n)

-- the function gives exactly what the rules give with so much work at most
abbrev pub FunctionLaw : Type 0
FunctionLaw = (code : Code) (inputs : List Block) (n : ℕ) (a : Repaired)
    → ((number : ℕ) (l : Trace)
    → (adjusted code inputs number n l ≡ Some a) ↔ (Adjusts code inputs number l a.items a.work × a.work ≤ n))
    × ((f : ℕ) (args : List Word)
    → (first_of code inputs n f args ≡ Some a) ↔ (Firsts code inputs f args a.items a.work × a.work ≤ n))
