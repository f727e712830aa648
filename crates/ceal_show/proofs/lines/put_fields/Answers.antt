use Rattle.std.proofs.Common.{◌≤◌, ◌∙◌, sym, length, arith}
use Rattle.ceal_show.specs.Graph.{Scene}
use Rattle.ceal_show.specs.Shown.{words_at}
use Rattle.ceal_show.proofs.Finding.{words_counted, word_there}
use Rattle.ceal_show.proofs.LineSteps.{among_target, fields_more, fields_all}
use Rattle.ceal_show.proofs.lines.put_fields.Goals as goal

-- the block has as many words as its shape has fields
pub word-word-requires : goal.word-word-requires
word-word-requires g c =
    let counted = rw (c.items.ensures.value, c.structs.ensures) at c.in_ok-count.ensures in
    word_there (g.V.View.declared c.args.view.now) (g.V.View.memory c.args.view.now) c.requires.whole c.args.block c.args.shape c.loop-field.field c.in_ok-count.count c.requires.shape
    counted c.loop-field-test.true

pub put_field_word-requires-clause-met : goal.put_field_word-requires-clause-met
put_field_word-requires-clause-met g c =
    among_target (g.V.View.memory c.args.view.now) c.args.met.now c.args.block c.loop-field.field c.word-word.result c.requires.closed c.requires.met c.word-word.ensures

-- the text of this field, after those of the fields before it
pub loop-field-preserved : goal.loop-field-preserved
loop-field-preserved g c =
    let scene : Scene = record { structs = g.V.View.declared c.args.view.now; memory = g.V.View.memory c.args.view.now; name = g.V.View.name c.args.view.now; blocks = c.args.met.now } in
    let words = words_at (g.V.View.memory c.args.view.now) c.args.block in
    fields_more scene c.args.shape c.loop-field.out c.put_field_word.new.out words c.loop-field.field c.word-word.result c.word-word.ensures c.in_ok-put_field_word.ensures
    ∙ c.loop-field.invariant

-- the loop passed all fields, and the block has no more words
pub returns : goal.returns
returns g c =
    let scene : Scene = record { structs = g.V.View.declared c.args.view.now; memory = g.V.View.memory c.args.view.now; name = g.V.View.name c.args.view.now; blocks = c.args.met.now } in
    let words = words_at (g.V.View.memory c.args.view.now) c.args.block in
    let counted = rw (c.items.ensures.value, c.structs.ensures) at c.in_ok-count.ensures in
    let all = words_counted (g.V.View.declared c.args.view.now) (g.V.View.memory c.args.view.now) c.requires.whole c.args.block c.args.shape c.requires.shape in
    let over : length words ≤ c.loop-field.field = omega (arith, counted, all, c.loop-field-test.false) in
    sym (fields_all scene c.args.shape c.loop-field.out words c.loop-field.field over) ∙ c.loop-field.invariant
