-- Slices make progress: how many reads a repair in progress has from the first stale one on.
use Rattle.std.specs.Prelude.{◌≡◌, ◌↔◌, ℕ, zero, suc, ◌+◌, ◌*◌, ◌≤◌, Some, List, [], ◌∷◌, if◌then◌else◌}
use Rattle.ceal_base.specs.Block.{Block}
use Rattle.ceal_base.specs.Operators.{same_word}
use Rattle.ceal_base.specs.Trace.{Trace, flat}
use Rattle.ceal_base.specs.declared.forest.Item.{Item}
use Rattle.ceal_base.specs.declared.forest.Item.TheVariants.{Step, Alloc, Write, Read, End}
use Rattle.ceal_base.specs.declared.word.Word.{Word}
use Rattle.ceal_code.specs.Fitting.{Fits}
use Rattle.ceal_code.specs.Program.{Code}
use Rattle.ceal_code.specs.Replay.{Store, cleared, stored, bases, IsHonest}
use Rattle.ceal_theory.specs.Counts.{reads_of}
use Rattle.ceal_theory.specs.Slices.{Repair, Slices, RepairHolds}

-- how many of the items are reads
abbrev pub reads_in : List Item → ℕ
reads_in [] = 0
reads_in (Step ∷ is) = reads_in is
reads_in (Alloc b key ∷ is) = reads_in is
reads_in (Write p value ∷ is) = reads_in is
reads_in (Read p value u v args ∷ is) = 1 + reads_in is
reads_in (End ∷ is) = reads_in is

-- how many reads there are from the first one on that does not record what the store has, along items from a store
abbrev pub unrepaired_from : Code → Store → List Item → ℕ
unrepaired_from code s [] = 0
unrepaired_from code s (Step ∷ is) = unrepaired_from code s is
unrepaired_from code s (Alloc b key ∷ is) = unrepaired_from code (cleared code s b key) is
unrepaired_from code s (Write p value ∷ is) = unrepaired_from code (stored s p value) is
unrepaired_from code s (Read p value u v args ∷ is) =
    if same_word (s p) value then unrepaired_from code s is else 1 + reads_in is
unrepaired_from code s (End ∷ is) = unrepaired_from code s is

-- how many reads of a trace there are from the first stale one on; those before it are repaired
abbrev pub unrepaired : Code → List Block → Trace → ℕ
unrepaired code inputs l = unrepaired_from code (bases code inputs) (flat l)

-- they are reads of the trace, and there are none exactly when it is honest
abbrev pub UnrepairedLaw : Type 0
UnrepairedLaw =
    (code : Code) (inputs : List Block) (l : Trace)
    → (unrepaired code inputs l ≤ reads_of l) × (IsHonest code inputs l ↔ (unrepaired code inputs l ≡ 0))

-- a slice of k reads that does not end the repair leaves fewer of them, by k at least
abbrev pub ProgressLaw : Type 0
ProgressLaw =
    (code : Code) (names : ℕ → ℕ) (inputs : List Block) (f : ℕ) (args : List Word) → Fits code inputs f args
    → (r : Repair) → RepairHolds code names inputs f args r
    → (k : ℕ) (r' : Repair) → Slices code names inputs (Some k) r r' → ¬ (IsHonest code inputs r'.items)
    → unrepaired code inputs r'.items + k ≤ unrepaired code inputs r.items

-- n slices of k reads, one after another on the same inputs, none of which ends the repair
pub data Unended (code : Code) (names : ℕ → ℕ) (inputs : List Block) (k : ℕ) : ℕ → Repair → Repair → Type 0 where
  none : {r : Repair} → Unended code names inputs k zero r r
  more : {n : ℕ} {r r' z : Repair} → Slices code names inputs (Some k) r r' → ¬ (IsHonest code inputs r'.items)
      → Unended code names inputs k n r' z → Unended code names inputs k (suc n) r z

-- so slices of k reads end the repair: all together those that do not have no more reads than were unrepaired
abbrev pub SlicesEndLaw : Type 0
SlicesEndLaw =
    (code : Code) (names : ℕ → ℕ) (inputs : List Block) (f : ℕ) (args : List Word) → Fits code inputs f args
    → (r : Repair) → RepairHolds code names inputs f args r
    → (k n : ℕ) (z : Repair) → Unended code names inputs k n r z
    → n * k + unrepaired code inputs z.items ≤ unrepaired code inputs r.items
