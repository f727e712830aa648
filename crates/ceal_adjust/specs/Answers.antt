-- What a repair in code answers.
use Rattle.std.specs.Prelude.{◌≡◌, ℕ, ◌≤◌, ◌<◌, Option, Some, None, List}
use Rattle.ceal_base.specs.Finished.{Finished}
use Rattle.ceal_base.specs.Trace.{Trace, flat, steps_in}
use Rattle.ceal_base.specs.declared.forest.Item.{Item}
use Rattle.ceal_code.specs.Program.{Code}
use Rattle.ceal_theory.specs.Computed.{Repaired}
use Rattle.ceal_theory.specs.Repair.{State, own}
use Rattle.ceal_theory.specs.Moves.{Machine, Ended, next_move, Finishes, BecomesBy}
use Rattle.ceal_adjust.specs.declared.adjust.Adjusted.{Adjusted}
use Rattle.ceal_adjust.specs.declared.adjust.Adjusted.TheVariants.{Done, OutOfFuel}
use Rattle.ceal_adjust.specs.declared.complete.Limit.{Limit}
use Rattle.ceal_adjust.specs.declared.complete.Limit.TheVariants.{Written, Work}

-- more steps than the limit allows were written, or re-executed
abbrev pub Exceeds : Limit → ℕ → ℕ → Type 0
Exceeds (Written n) steps work = n < steps
Exceeds (Work n) steps work = n < work

abbrev pub Keeps : Limit → ℕ → ℕ → Type 0
Keeps (Written n) steps work = steps ≤ n
Keeps (Work n) steps work = work ≤ n

-- The machine that began has ended, has written these items, and is within the limit.
pub record HasEnded (code : Code) (limit : Limit) (start : Machine) (out : List Item) : Type 0 where
  pub machine : Machine
  pub leads : BecomesBy code own start machine out
  pub ended : next_move code own machine ≡ Ended
  pub within : Keeps limit (steps_in out) machine.state.work

-- and its state is this one
pub record EndsAt (code : Code) (limit : Limit) (start : Machine) (out : List Item) (s : State) : Type 0 where
  pub ended : HasEnded code limit start out
  pub state : ended.machine.state ≡ s

-- it is beyond the limit
pub record IsBeyond (code : Code) (limit : Limit) (start : Machine) : Type 0 where
  pub machine : Machine
  pub out : List Item
  pub leads : BecomesBy code own start machine out
  pub beyond : Exceeds limit (steps_in out) machine.state.work

-- the machine finishes with the forest and this work, within the fuel
pub record Completes (code : Code) (fuel : ℕ) (start : Machine) (forest : List Item) (work : ℕ) : Type 0 where
  pub after : State
  pub finishes : Finishes code own start after forest
  pub counted : after.work ≡ work
  pub within : steps_in forest ≤ fuel

-- whatever the machine finishes with has more steps than the fuel
abbrev pub RunsOut : Code → ℕ → Machine → Type 0
RunsOut code fuel start = (s' : State) (items : List Item) → Finishes code own start s' items → fuel < steps_in items

-- what an answer says of the machine that began
abbrev pub Answered : Code → ℕ → Machine → Adjusted → Type 0
Answered code fuel start (Done forest work) = Completes code fuel start forest work
Answered code fuel start OutOfFuel = RunsOut code fuel start

-- the flat form of the repair that the definition gives, with its work, where the run from scratch ends
pub record IsRepair (forest : List Item) (work : ℕ) (defined : Option Repaired) (run : Option Finished) : Type 0 where
  pub items : Trace
  pub flat_form : forest ≡ flat items
  pub same : defined ≡ Some (record { items = items; work = work })
  pub finished : Finished
  pub ends : run ≡ Some finished

-- the answer is that of the definition, and it is out of fuel exactly when the run from scratch is
abbrev pub IsAnswer : Option Repaired → Option Finished → Adjusted → Type 0
IsAnswer defined run (Done forest work) = IsRepair forest work defined run
IsAnswer defined run OutOfFuel = run ≡ None
