use Rattle.std.proofs.Common.{refl}
use Rattle.ceal_repair.proofs.QueueCover.NodeChanges.{cell-same}
use Rattle.ceal_repair.proofs.Runs.InputPlaces.{kept-cells}
use Rattle.ceal_repair.proofs.TableCalls.CutKeepsTables.{follows-same}
use Rattle.ceal_trace.specs.Nodes.{stamps_in}
use Rattle.ceal_repair.proofs.Lists.ToldWrites.{told-step}
use Rattle.ceal_repair.proofs.tables.Tables.mark.Goals as goal

pub mark-requires : goal.mark-requires
mark-requires c = record { values = told-step c.args.self.now c.requires.kept.step }

pub returns-clause-looks : goal.returns-clause-looks
returns-clause-looks c = record { looked = c.mark.ensures.looked; differed = c.mark.ensures.differed; queue = refl }

pub returns-clause-kept : goal.returns-clause-kept
returns-clause-kept c =
    let old = c.args.self.now in
    kept-cells old c.requires.kept c.mark.new.self (λ p. cell-same p c.mark.new.self old.mods c.mark.ensures.cells)
    (follows-same (stamps_in old.trace.nodes) old.mods c.mark.new.self c.mark.ensures.cells c.requires.kept.step.mods)
