-- Computed samples of the definitions.
use Rattle.std.proofs.Common.{◌≡◌, refl}
use Rattle.std.specs.Prelude.{codes}
use Rattle.std.specs.Fmt.{digits}
use Rattle.ceal_base.specs.declared.fault.FaultCode.TheVariants.{S3, N1}
use Rattle.ceal_compile.specs.FaultLine.{fault_line, line_feeds, first_line}

-- a fault at the first byte, and one after a line feed
at_first_byte : fault_line (codes "b") (record { code = S3; span = record { from = 0; to = 1 } }) ≡ codes "fault S3 at 1:1: unexpected token\n"
unfolding line_feeds first_line digits
at_first_byte = refl

on_second_line : fault_line (codes "a\nb = c;") (record { code = N1; span = record { from = 6; to = 7 } }) ≡ codes "fault N1 at 2:5: unknown name\n"
unfolding line_feeds first_line digits
on_second_line = refl
