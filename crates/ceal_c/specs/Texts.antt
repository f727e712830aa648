-- Bytes in the room that a caller gives.
use Rattle.std.specs.Prelude.{ℕ, ◌-◌, ◌++◌, List, length, take, replicate}

-- as many bytes of the text as fit, and zeros after them
abbrev pub filled : ℕ → List ℕ → List ℕ
filled room text = take room text ++ replicate (room - length text) 0
