use Rattle.std.proofs.Common.{◌≡◌, drop}
use Rattle.ceal_session.specs.Senses.{words_of}
use Rattle.ceal_session.proofs.Replies.WordsOfSenses.{behind}
use Rattle.ceal_session.proofs.senses.words.Given as goal

-- the words so far, and then those of what is left
abbrev pub invariant-loop-sense : goal.invariant-loop-sense
invariant-loop-sense l = behind l.words (words_of (drop l.sense-index l.senses)) ≡ words_of l.senses
