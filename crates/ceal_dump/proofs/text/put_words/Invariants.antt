use Rattle.std.proofs.Common.{◌≡◌, ◌++◌, length}
use Rattle.ceal_dump.specs.DumpText.{words_text, SmallWords}
use Rattle.ceal_dump.proofs.text.put_words.Given as goal

-- with the text of what is left it is the text of all, and all is in range where what is left is
abbrev pub invariant-loop-word : goal.invariant-loop-word
invariant-loop-word l = record {
  text : l.out ++ words_text l.words ≡ l.fn.out ++ words_text l.fn.words;
  range : SmallWords l.words → SmallWords l.fn.words;
}

abbrev pub decreases-loop-word : goal.decreases-loop-word
decreases-loop-word l = length l.words
