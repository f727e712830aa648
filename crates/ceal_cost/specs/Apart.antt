-- How many reads a repair finds stale at most: the reads of two first traces that differ side by side, and those inside
-- them.
use Rattle.std.specs.Prelude.{ℕ, ◌+◌, ◌≤◌, Bool, true, false, Option, Some, List, []}
use Rattle.ceal_base.specs.Block.{Block}
use Rattle.ceal_base.specs.Trace.{Trace, Stepped, Allocated, Wrote, WasRead, steps_of}
use Rattle.ceal_base.specs.declared.forest.UnitId.{UnitId}
use Rattle.ceal_base.specs.declared.word.Place.{Place}
use Rattle.ceal_base.specs.declared.word.Word.{Word}
use Rattle.ceal_code.specs.Alike.{Pairs}
use Rattle.ceal_code.specs.Program.{Code}
use Rattle.ceal_code.specs.Replay.{IsHonest}
use Rattle.ceal_code.specs.Step.{Stack}
use Rattle.ceal_theory.specs.Adjust.{Adjusts}
use Rattle.ceal_theory.specs.Computed.{Repaired, first_of}
use Rattle.ceal_theory.specs.Cost.{same_value, with_pair, cost_inside, cost_from}
use Rattle.ceal_theory.specs.Counts.{reads_of}
use Rattle.ceal_theory.specs.Laws.{Edited}
use Rattle.ceal_theory.specs.Repair.{State, Fix, Mend, Reruns}

-- where the values of two reads are not the same, the second one counts, and so does each read inside it
abbrev pub reads_inside : Bool → ℕ → Trace → ℕ
reads_inside true n j = n
reads_inside false n j = 1 + reads_of j

-- How many reads of the second trace have another value than those beside them, or are inside one that has. The traces
-- go side by side as they do for their cost.
unfoldable pub apart_from : Pairs → Trace → Trace → ℕ
apart_from ps (Stepped l) (Stepped m) = apart_from ps l m
apart_from ps (Allocated b key l) (Allocated c key' m) = apart_from (with_pair ps b c) l m
apart_from ps (Wrote p v l) (Wrote q w m) = apart_from ps l m
apart_from ps (WasRead p v u x args i l) (WasRead q w u' x' args' j m) =
    reads_inside (same_value ps v w) (apart_from ps i j) j
    + apart_from (cost_inside (same_value ps v w) (cost_from ps i j) ps j).pairs l m
apart_from ps _ _ = 0

-- the same of two traces that are both there
abbrev pub apart_of : Option Repaired → Option Repaired → ℕ
apart_of (Some g) (Some h) = apart_from [] g.items h.items
apart_of _ _ = 0

-- the reads that are apart in the first traces of a call on old and on new inputs
abbrev pub first_apart : Code → ℕ → List Block → List Block → ℕ → List Word → ℕ
first_apart code n old new f args = apart_of (first_of code old n f args) (first_of code new n f args)

-- how many reads a repair finds stale, among those that are kept and those that are taken
abbrev mutual
  pub stale_fix : {code : Code} {names : ℕ → ℕ} {s s' : State} {old new : Trace} → Fix code names s old s' new → ℕ
  stale_fix Fix.end = 0
  stale_fix (Fix.step f) = stale_fix f
  stale_fix (Fix.alloc f) = stale_fix f
  stale_fix (Fix.write f) = stale_fix f
  stale_fix (Fix.read m f) = stale_mend m + stale_fix f

  -- at one read
  pub stale_mend : {code : Code} {names : ℕ → ℕ} {s t : State} {p : Place} {u : UnitId} {v : ℕ}
      {args : List Word} {value : Word} {old new : Trace}
      → Mend code names s p u v args value old t new → ℕ
  stale_mend (Mend.kept e f) = stale_fix f
  stale_mend (Mend.stale e a) = 1 + stale_anew a

  -- while a stack is re-executed
  pub stale_anew : {code : Code} {names : ℕ → ℕ} {s s' : State} {st : Stack} {old new left : Trace}
      → Reruns code names s st old s' new left → ℕ
  stale_anew (Reruns.over e) = 0
  stale_anew (Reruns.quiet e a) = stale_anew a
  stale_anew (Reruns.takes_alloc e t a) = stale_anew a
  stale_anew (Reruns.makes e t a) = stale_anew a
  stale_anew (Reruns.writes e a) = stale_anew a
  stale_anew (Reruns.takes_read e t m a) = stale_mend m + stale_anew a
  stale_anew (Reruns.reads e t m a) = stale_anew m + stale_anew a

-- A repair of an honest trace finds no more reads stale than are apart in the first traces of its call, whatever
-- repairs came before. Those are no more than the reads of the new first trace.
abbrev pub StaleLaw : Type 0
StaleLaw = (code : Code) (old new : List Block) (f : ℕ) (args : List Word) (l m : Trace) (number work n : ℕ)
    → Edited code old new f args l number → IsHonest code old l → steps_of l ≤ n → steps_of m ≤ n
    → (a : Adjusts code new number l m work)
    → (stale_fix a.fix ≤ first_apart code n old new f args) × (first_apart code n old new f args ≤ reads_of m)
