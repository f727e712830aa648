use Rattle.std.proofs.Common.{◌∙◌, Some, sym, ap, is_some}
use Rattle.std.specs.Option.{option_map}
use Rattle.ceal_session.proofs.Memory.SeenBlocks.{seen-block, seen-finished, shows-finished}
use Rattle.ceal_show.specs.Shown.{shape_in}
use Rattle.ceal_session.proofs.view.block_shape.Goals as goal

pub shape-requires-clause-shows : goal.shape-requires-clause-shows
shape-requires-clause-shows c = shows-finished c.args.engine.now (seen-finished c.args.engine.now c.args.block c.requires) c.args.block

pub shape-requires-clause-there : goal.shape-requires-clause-there
shape-requires-clause-there c = let s = seen-block c.args.engine.now c.phase-phase.ensures.whole c.progress_law.ensures.law c.args.block c.requires in ap is_some s.shown.there

pub returns : goal.returns
returns c =
    let s = seen-block c.args.engine.now c.phase-phase.ensures.whole c.progress_law.ensures.law c.args.block c.requires in
    ap shape_in s.seen_as ∙ ap Some (sym s.shown.shape) ∙ sym (ap (option_map (λ b. b.shape)) s.shown.there) ∙ c.shape.ensures.value
