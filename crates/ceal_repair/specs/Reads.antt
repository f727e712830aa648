-- A read that is taken.
use Rattle.std.specs.Prelude.{◌≡◌, ◌∷◌, Bool, true, false, List}
use Rattle.ceal_base.specs.declared.word.Word.{Word}
use Rattle.ceal_code.specs.Step.{Stack, Over}
use Rattle.ceal_code.specs.declared.stack.Closure.{Closure}
use Rattle.ceal_code.specs.declared.step.Reading.{Reading}
use Rattle.ceal_code.specs.declared.waits.Floor.{Floor}
use Rattle.ceal_memo.specs.Keys.{ReadKey}
use Rattle.ceal_order.specs.declared.stamp.Stamp.{Stamp}
use Rattle.ceal_repair.specs.Moment.{Start, RunningNow}
use Rattle.ceal_repair.specs.Repairs.{code_of, inputs_of, view, view_under, units_on, next_in, Runs, PassesOn}
use Rattle.ceal_repair.specs.Frames.{Taken, Kept}
use Rattle.ceal_repair.specs.declared.repair.Repair.{Repair}

-- the closure of a read with these arguments
abbrev pub closure_in : Reading → List Word → Closure
closure_in r args = record { place = r.place; unit = r.unit; var = r.var; args = args }

-- what a read of a closure is found by
abbrev pub key_in : Closure → ReadKey
key_in closure = record { place = closure.place; unit = closure.unit; var = closure.var; args = closure.args }

-- a read that was taken: its unit is re-executed, or what is inside it has to be passed
abbrev pub Entered : Bool → Start → Repair → Type 0
Entered true start r = Runs start r
Entered false start r = PassesOn start r

-- the unit of a read that was taken is over; its frame was taken off
pub record EndsTaken (start : Start) (below : Floor) (until : Stamp) (r : Repair) : Type 0 where
  pub stack : Stack
  pub now : RunningNow (code_of r) (inputs_of r) start stack
      (record (view_under below r) { frames = Taken (units_on below r) until ∷ (view_under below r).frames })
  pub over : next_in r stack ≡ Over

-- the unit of a stale read among nodes that are kept is over; its frame was taken off
pub record EndsKept (start : Start) (until : Stamp) (r : Repair) : Type 0 where
  pub stack : Stack
  pub now : RunningNow (code_of r) (inputs_of r) start stack (record (view r) { frames = Kept until ∷ (view r).frames })
  pub over : next_in r stack ≡ Over
