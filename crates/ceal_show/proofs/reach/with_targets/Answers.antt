use Rattle.std.proofs.Common.{◌≤◌, ◌∙◌, sym, length, arith}
use Rattle.ceal_show.specs.Shown.{words_at}
use Rattle.ceal_show.proofs.Finding.{words_more, words_all, words_counted, word_there}
use Rattle.ceal_show.proofs.reach.with_targets.Goals as goal

-- the block has as many words as its shape has fields
pub word-requires : goal.word-requires
word-requires g c =
    let counted = rw (c.items.ensures.value, c.structs.ensures) at c.in_ok-count.ensures in
    word_there (g.V.View.declared c.args.view.now) (g.V.View.memory c.args.view.now) c.requires.whole c.args.block c.shape.result c.loop-field.field c.in_ok-count.count c.shape.ensures
    counted c.loop-field-test.true

pub loop-field-preserved : goal.loop-field-preserved
loop-field-preserved g c =
    words_more c.loop-field.met c.in_ok-met.met (words_at (g.V.View.memory c.args.view.now) c.args.block) c.loop-field.field c.word.result c.word.ensures c.in_ok-met.ensures
    ∙ c.loop-field.invariant

-- the loop passed all fields, so all targets of the block were met
pub returns : goal.returns
returns g c =
    let words = words_at (g.V.View.memory c.args.view.now) c.args.block in
    let counted = rw (c.items.ensures.value, c.structs.ensures) at c.in_ok-count.ensures in
    let all = words_counted (g.V.View.declared c.args.view.now) (g.V.View.memory c.args.view.now) c.requires.whole c.args.block c.shape.result c.shape.ensures in
    let over : length words ≤ c.loop-field.field = omega (arith, counted, all, c.loop-field-test.false) in
    sym (words_all c.loop-field.met words c.loop-field.field over) ∙ c.loop-field.invariant
