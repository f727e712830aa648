-- Lists of faults, in the order in which they are met.
use Rattle.std.specs.Prelude.{List, [], ◌∷◌, ◌++◌}
use Rattle.ceal_base.specs.declared.fault.Fault.{Fault}
use Rattle.ceal_base.specs.declared.fault.FaultCode.{FaultCode}
use Rattle.ceal_base.specs.declared.fault.Span.{Span}

-- this one fault
abbrev pub one : FaultCode → Span → List Fault
one code at = record { code = code; span = at } ∷ []

-- the faults of each item, one item after another
unfoldable pub faults_of_each : {A : Type 0} → (A → List Fault) → List A → List Fault
faults_of_each faults [] = []
faults_of_each faults (x ∷ xs) = faults x ++ faults_of_each faults xs
