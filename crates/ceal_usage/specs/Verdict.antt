-- What a list of faults, in the order of the walk, comes to: the first counts.
use Rattle.std.specs.Prelude.{Result, Ok, Err, List, [], ◌∷◌}
use Rattle.ceal_base.specs.declared.fault.Fault.{Fault}

-- the first fault, where there is one
abbrev pub verdict : List Fault → Result (Unit {0}) Fault
verdict [] = Ok tt
verdict (f ∷ fs) = Err f
