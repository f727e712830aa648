use Rattle.std.proofs.Common.{◌≡◌, length}
use Rattle.ceal_code.specs.Valid.{fields_ok}
use Rattle.ceal_code.proofs.validate.are_fields_ok.Given as goal

abbrev pub invariant-loop-field : goal.invariant-loop-field
invariant-loop-field l = fields_ok l.structs l.fields ≡ fields_ok l.structs l.fn.fields

abbrev pub decreases-loop-field : goal.decreases-loop-field
decreases-loop-field l = length l.fields
