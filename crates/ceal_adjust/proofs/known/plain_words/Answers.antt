use Rattle.std.proofs.Common.{◌∙◌, sym}
use Rattle.ceal_code.specs.Tables.{plain_in}
use Rattle.ceal_theory.proofs.Store.WordsOneByOne.{words-more, words-end}
use Rattle.ceal_adjust.proofs.known.plain_words.Goals as goal

pub returns-in-None : goal.returns-in-None
returns-in-None c =
    words-end (plain_in c.args.memory.now c.args.id) c.loop-field.field c.loop-field.words.items c.loop-field.invariant (sym c.in-None.is ∙ c.word.ensures)

-- the word of this field, after those before it
pub loop-field-preserved : goal.loop-field-preserved
loop-field-preserved c =
    rw c.in_ok-push-in-Some.ensures.items
    (words-more (plain_in c.args.memory.now c.args.id) c.loop-field.field c.loop-field.words.items c.in-Some.word c.loop-field.invariant (sym c.in-Some.is ∙ c.word.ensures))
