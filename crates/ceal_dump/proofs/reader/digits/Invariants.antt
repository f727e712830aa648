use Rattle.std.proofs.Common.{◌≡◌, length}
use Rattle.ceal_dump.specs.Reading.{number_from}
use Rattle.ceal_dump.proofs.reader.digits.Given as goal

-- what is read from here on is what is read from the front
abbrev pub invariant-loop-byte : goal.invariant-loop-byte
invariant-loop-byte l = number_from l.n l.rest ≡ number_from 0 l.bytes

abbrev pub decreases-loop-byte : goal.decreases-loop-byte
decreases-loop-byte l = length l.rest
