use Rattle.std.proofs.Common.{refl}
use Rattle.ceal_repair.proofs.Runs.InputPlaces.{touched-either, touched-looks, kept-cells}
use Rattle.ceal_trace.specs.Nodes.{stamps_in}
use Rattle.ceal_repair.proofs.edits.touch.Goals as goal

pub returns-clause-looks : goal.returns-clause-looks
returns-clause-looks c =
    let l = touched-looks c.set_base.result c.args.tables.now.mods c.set_base.new.self c.args.place _ c.set_base.ensures.ok c.set_base.ensures.err in
    record { looked = l.0; differed = l.1; queue = refl }

pub returns-clause-kept : goal.returns-clause-kept
returns-clause-kept c =
    kept-cells c.args.tables.now c.requires.kept c.set_base.new.self
    (touched-either c.set_base.result c.args.tables.now.mods c.set_base.new.self c.args.place _ c.requires.bare c.set_base.ensures.ok c.set_base.ensures.err)
    (c.set_base.ensures.follows (stamps_in c.args.tables.now.trace.nodes) c.requires.kept.step.mods)

pub returns-clause-marks : goal.returns-clause-marks
returns-clause-marks c = (touched-looks c.set_base.result c.args.tables.now.mods c.set_base.new.self c.args.place _ c.set_base.ensures.ok c.set_base.ensures.err).2
