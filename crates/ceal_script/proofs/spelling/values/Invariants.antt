use Rattle.std.proofs.Common.{take}
use Rattle.std.specs.List.{AllZip}
use Rattle.ceal_script.specs.Spelling.{SpellsValue}
use Rattle.ceal_script.specs.Words.{texts}
use Rattle.ceal_script.proofs.spelling.values.Given as goal

-- the values so far are what the words so far spell
abbrev pub invariant-loop-word : goal.invariant-loop-word
invariant-loop-word l = AllZip SpellsValue (texts (take l.word-index l.words)) l.values
