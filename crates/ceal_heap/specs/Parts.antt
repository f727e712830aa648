-- How the words of a block are kept: the first ones as they are, and of those after them only how many they are.
use Rattle.std.specs.Prelude.{List, ◌++◌, pos, replicate}
use Rattle.ceal_base.specs.declared.word.Word.{Word}
use Rattle.ceal_base.specs.declared.word.Word.TheVariants.{Num, Null}
use Rattle.ceal_heap.specs.declared.parts.Parts.{Parts}

-- the words after those that are kept: zeros, and then nulls
abbrev pub filling : Parts → List Word
filling parts = replicate parts.zeros (Num (pos 0)) ++ replicate parts.nulls Null
