use Rattle.std.proofs.Common.{◌++◌}
use Rattle.ceal_dump.proofs.Ranges.{words-in, words-out}
use Rattle.ceal_dump.proofs.Steps.{words-more, words-end}
use Rattle.ceal_dump.specs.DumpText.{words_text}
use Rattle.ceal_dump.proofs.text.put_words.Goals as goal

-- a space and this word, after the words before it; all are in range if these are
pub loop-word-preserved : goal.loop-word-preserved
loop-word-preserved c = record {
  text = words-more c.loop-word.out c.append.new.self c.put_word.new.out (c.args.out.now ++ words_text c.args.words.now) c.loop-word.words.now c.in-Some.more.now c.in-Some.word.now
      c.in_ok-append.ensures.ok c.in_ok-put_word.ensures.text c.in-Some.ensures.cases.0 c.loop-word.invariant.text;
  range = λ h. c.loop-word.invariant.range (words-in c.loop-word.words.now c.in-Some.more.now c.in-Some.word.now c.in-Some.ensures.cases.0 c.put_word.ensures.range h);
}

pub returns-clause-text : goal.returns-clause-text
returns-clause-text c = words-end c.loop-word.out (c.args.out.now ++ words_text c.args.words.now) c.loop-word.words.now c.in_default.ensures.cases c.loop-word.invariant.text

pub returns-clause-range : goal.returns-clause-range
returns-clause-range c = c.loop-word.invariant.range (words-out c.loop-word.words.now c.in_default.ensures.cases)
