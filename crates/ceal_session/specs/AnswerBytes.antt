-- The bytes of an answer.
use Rattle.std.specs.Prelude.{ℕ, List}
use Rattle.ceal_session.specs.declared.answer.Bytes.{Bytes}
use Rattle.ceal_session.specs.declared.answer.Bytes.TheVariants.{Fixed, Line, Owned}

abbrev pub bytes_of : Bytes → List ℕ
bytes_of (Fixed text) = text.now
bytes_of (Line line) = line.items
bytes_of (Owned text) = text
