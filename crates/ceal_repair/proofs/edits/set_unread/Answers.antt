use Rattle.ceal_repair.proofs.TableCalls.BaseEdit.{edit-base}
use Rattle.ceal_repair.proofs.Runs.InputPlaces.{unread-kept}
use Rattle.ceal_trace.specs.Nodes.{stamps_in}
use Rattle.ceal_repair.proofs.edits.set_unread.Goals as goal

pub returns-clause-base : goal.returns-clause-base
returns-clause-base c = λ p. edit-base c.args.tables.now c.requires.kept c.args.place c.args.value c.set_base.new.self c.in-Ok.ensures.ok p

pub returns-clause-kept : goal.returns-clause-kept
returns-clause-kept c =
    unread-kept c.args.tables.now c.requires.kept c.args.place c.args.value c.set_base.new.self c.in-Ok.ensures.ok c.requires.unread
    (c.set_base.ensures.follows (stamps_in c.args.tables.now.trace.nodes) c.requires.kept.step.mods)

pub returns-clause-looked : goal.returns-clause-looked
returns-clause-looked c = c.in-Ok.ensures.ok.looked

pub returns-clause-differed : goal.returns-clause-differed
returns-clause-differed c = c.in-Ok.ensures.ok.differed

pub returns-clause-marks : goal.returns-clause-marks
returns-clause-marks c = c.in-Ok.ensures.ok.marked
