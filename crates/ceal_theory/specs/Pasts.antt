-- What the lines of a script so far have left of runs, and what a slice leaves.
use Rattle.std.specs.Prelude.{◌≡◌, ℕ, suc, max, ◌≤◌, Bool, Option, Some, None, List, [], ◌∷◌, if◌then◌else◌, true}
use Rattle.std.specs.Prelude.{false, ⊤, IfSome}
use Rattle.ceal_base.specs.Block.{Block}
use Rattle.ceal_base.specs.Trace.{blocks_of}
use Rattle.ceal_base.specs.declared.word.Word.{Word}
use Rattle.ceal_code.specs.Fitting.{Fits}
use Rattle.ceal_code.specs.Program.{Code}
use Rattle.ceal_code.specs.Replay.{core_numbers, Replays, IsHonest}
use Rattle.ceal_theory.specs.Carried.{Carried}
use Rattle.ceal_theory.specs.Computed.{Repaired}
use Rattle.ceal_theory.specs.Laws.{RenamedRepair}
use Rattle.ceal_theory.specs.Repair.{own}
use Rattle.ceal_theory.specs.Slices.{Repair, beginning, sliced, is_done, RepairHolds}

-- no trace, a trace with its work, or a repair in progress
pub data Past : Type 0 where
  NoTrace : Past
  Traced : (run : Repaired) → Past
  Going : (repair : Repair) → Past

-- the first trace, where there is one
abbrev pub first_past : Option Repaired → Past
first_past None = NoTrace
first_past (Some l) = Traced l

-- the first number above all of these
abbrev pub number_above : List ℕ → ℕ
number_above [] = 0
number_above (b ∷ bs) = max (suc b) (number_above bs)

-- the repair from which a slice continues: the one that is pending, or a new one of the trace
abbrev pub next_repair : Code → List Block → Past → Option Repair
next_repair code inputs NoTrace = None
next_repair code inputs (Traced l) =
    Some (beginning code inputs l.items (number_above (core_numbers (blocks_of l.items))))
next_repair code inputs (Going r) = Some r

-- the trace of a repair that is done; where the run from scratch is out of fuel there is none
abbrev pub done_past : Option Repaired → Repair → Past
done_past None r = NoTrace
done_past (Some first) r = Traced (record { items = r.items; work = r.spent })

-- what a slice leaves: a repair that is in progress or done; where there is none the call is run again
abbrev pub left_by : Code → List Block → Option Repaired → Option Repair → Past
left_by code inputs first None = first_past first
left_by code inputs first (Some r) = if is_done code inputs r then done_past first r else Going r

-- a slice of the repair, where there is one
abbrev pub slice_of : Code → List Block → ℕ → Option ℕ → Option Repair → Option Repair
slice_of code inputs fuel k None = None
slice_of code inputs fuel k (Some r) = sliced code own inputs k fuel r

-- What is after a `propagate`, or a `propagate K`, of a call whose first trace on the present inputs is
-- this, if the run ends.
abbrev pub past_after : Code → List Block → ℕ → Option Repaired → Option ℕ → Past → Past
past_after code inputs fuel first k past =
    left_by code inputs first (slice_of code inputs fuel k (next_repair code inputs past))

-- whether a repair is in progress
abbrev pub goes : Past → Bool
goes NoTrace = false
goes (Traced l) = false
goes (Going r) = true

-- What a session has is what the definition has, up to the numbers of core blocks.
pub data SamePast (code : Code) (inputs : List Block) (f : ℕ) (args : List Word) : Past → Past → Type 0 where
  none : SamePast code inputs f args NoTrace NoTrace
  traced : {a b : Repaired} → RenamedRepair (Some a) (Some b) → SamePast code inputs f args (Traced a) (Traced b)
  going : {r q : Repair} → RepairHolds code own inputs f args r → Carried code inputs 0 r q
      → SamePast code inputs f args (Going r) (Going q)

-- what is past belongs to the call: a trace of it, or a repair that holds for it
abbrev pub IsPastOf : Code → List Block → ℕ → List Word → Past → Type 0
IsPastOf code inputs f args NoTrace = ⊤
IsPastOf code inputs f args (Traced l) = Replays code inputs f args l.items
IsPastOf code inputs f args (Going r) = RepairHolds code own inputs f args r

-- so it is after each line that repairs
abbrev pub PastLaw : Type 0
PastLaw =
    (code : Code) (inputs : List Block) (f : ℕ) (args : List Word) → Fits code inputs f args
    → (fuel : ℕ) (first : Option Repaired) → IfSome first (λ l. Replays code inputs f args l.items)
    → (k : Option ℕ) (p : Past) → IsPastOf code inputs f args p
    → IsPastOf code inputs f args (past_after code inputs fuel first k p)
