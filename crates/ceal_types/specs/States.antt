-- What a call answers that changes a state.
use Rattle.std.specs.Prelude.{◌≡◌, Result, Ok, Err}
use Rattle.ceal_base.specs.Answers.{Fails}
use Rattle.ceal_base.specs.declared.fault.Fault.{Fault}
use Rattle.ceal_base.specs.declared.fault.FrontError.{FrontError}

-- The state that it leaves is this result, or it answers the fault, or memory ran out.
abbrev pub Leaves : {S : Type 0} → Result (Unit {0}) FrontError → S → Result S Fault → Type 0
Leaves (Ok u) left r = r ≡ Ok left
Leaves (Err e) left r = Fails e r

-- What it answers and the state that it leaves make up this result.
abbrev pub Makes : {A S T : Type 0} → (A → S → T) → Result A FrontError → S → Result T Fault → Type 0
Makes make (Ok x) left r = r ≡ Ok (make x left)
Makes make (Err e) left r = Fails e r
