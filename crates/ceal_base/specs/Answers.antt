-- What a phase of the compiler answers, apart from running out of memory.
use Rattle.std.specs.Prelude.{◌≡◌, Result, Ok, Err}
use Rattle.ceal_base.specs.declared.fault.Fault.{Fault}
use Rattle.ceal_base.specs.declared.fault.FrontError.{FrontError}
use Rattle.ceal_base.specs.declared.fault.FrontError.TheVariants.{Memory, Fault as FaultError}

-- This error is answered where this is the result, or memory ran out.
abbrev pub Fails : {A : Type 0} → FrontError → Result A Fault → Type 0
Fails Memory r = Unit {0}
Fails (FaultError f) r = r ≡ Err f

-- What was answered is this result, or memory ran out.
abbrev pub Gives : {A : Type 0} → Result A FrontError → Result A Fault → Type 0
Gives (Ok x) r = r ≡ Ok x
Gives (Err e) r = Fails e r

-- What holds of the fault that was answered.
abbrev pub IfFault : {A : Type 0} → Result A FrontError → (Fault → Type 0) → Type 0
IfFault (Ok x) P = Unit {0}
IfFault (Err Memory) P = Unit {0}
IfFault (Err (FaultError f)) P = P f
