use Rattle.std.proofs.Common.{◌≡◌, ◌∙◌, true, false, Some, sym, ap, is_some}
use Rattle.ceal_base.specs.Fitting.{kind_in}
use Rattle.ceal_engine.specs.Engine.{block_in, is_plain}
use Rattle.ceal_session.proofs.Memory.SeenBlocks.{seen-block, seen-finished, shows-finished, word-seen, word-stored, word-plain, kind-there, kind-by}
use Rattle.ceal_session.proofs.Memory.EngineTellsRun.{whole-engine}
use Rattle.ceal_session.proofs.view.field_word.Goals as goal

pub shape-shape-requires-clause-shows : goal.shape-shape-requires-clause-shows
shape-shape-requires-clause-shows c =
    let e = c.args.engine.now in
    shows-finished e (seen-finished e c.args.block (word-seen e c.phase-phase.ensures.whole c.progress_law.ensures.law c.args.block c.args.field c.requires)) c.args.block

pub shape-shape-requires-clause-there : goal.shape-shape-requires-clause-there
shape-shape-requires-clause-there c =
    let e = c.args.engine.now in
    let s = seen-block e c.phase-phase.ensures.whole c.progress_law.ensures.law c.args.block
    (word-seen e c.phase-phase.ensures.whole c.progress_law.ensures.law c.args.block c.args.field c.requires) in
    ap is_some s.shown.there

pub field-requires-clause-shows : goal.field-requires-clause-shows
field-requires-clause-shows c =
    let e = c.args.engine.now in
    shows-finished e (seen-finished e c.args.block (word-seen e c.phase-phase.ensures.whole c.progress_law.ensures.law c.args.block c.args.field c.requires)) c.args.block

pub field-requires-clause-there : goal.field-requires-clause-there
field-requires-clause-there c =
    let e = c.args.engine.now in
    ap is_plain (kind-by e.code.structs (block_in e c.args.block) c.shape-shape.result c.args.field c.shape-shape.ensures.value ∙ sym c.kind_of.ensures) ∙ sym c.is_plain.ensures ∙ c.if-is_plain.true

pub value-requires-clause-finished : goal.value-requires-clause-finished
value-requires-clause-finished c =
    let e = c.args.engine.now in
    seen-finished e c.args.block (word-seen e c.phase-phase.ensures.whole c.progress_law.ensures.law c.args.block c.args.field c.requires)

-- the field is a modifiable of a block of the memory
pub value-requires-clause-there : goal.value-requires-clause-there
value-requires-clause-there c =
    let e = c.args.engine.now in
    let fin = seen-finished e c.args.block (word-seen e c.phase-phase.ensures.whole c.progress_law.ensures.law c.args.block c.args.field c.requires) in
    let p : is_plain (kind_in e.code.structs (block_in e c.args.block) c.args.field) ≡ false =
    ap is_plain (kind-by e.code.structs (block_in e c.args.block) c.shape-shape.result c.args.field c.shape-shape.ensures.value ∙ sym c.kind_of.ensures) ∙ sym c.is_plain.ensures
    ∙ c.if-is_plain.false in
    kind-there e c.phase-phase.ensures.whole c.progress_law.ensures.law c.args.block c.args.field c.requires
    (whole-engine e c.phase-phase.ensures.whole fin c.fitting_is_whole.ensures.law) p

-- the field is plain, so its word is the one that its block was made with
pub returns-then-is_plain : goal.returns-then-is_plain
returns-then-is_plain c =
    let e = c.args.engine.now in
    let p : is_plain (kind_in e.code.structs (block_in e c.args.block) c.args.field) ≡ true =
    ap is_plain (kind-by e.code.structs (block_in e c.args.block) c.shape-shape.result c.args.field c.shape-shape.ensures.value ∙ sym c.kind_of.ensures) ∙ sym c.is_plain.ensures
    ∙ c.if-is_plain.true in
    word-plain e c.phase-phase.ensures.whole c.progress_law.ensures.law c.args.block c.args.field c.requires p ∙ ap Some (sym c.field.ensures.value)

pub returns-else-is_plain : goal.returns-else-is_plain
returns-else-is_plain c =
    let e = c.args.engine.now in
    word-stored e c.phase-phase.ensures.whole c.progress_law.ensures.law c.args.block c.args.field c.requires ∙ ap Some (sym c.value.ensures.value)
