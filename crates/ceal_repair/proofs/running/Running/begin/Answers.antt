use Rattle.std.proofs.Common.{◌∙◌, ap}
use Rattle.ceal_code.specs.Program.{Code}
use Rattle.ceal_repair.proofs.Runs.RunBlocks.{none-queued, first-bases}
use Rattle.ceal_repair.proofs.running.Running.begin.Goals as goal
use Rattle.ceal_trace.specs.Nodes.{Timeline}

pub returns-in-Ok-clause-queue : goal.returns-in-Ok-clause-queue
returns-in-Ok-clause-queue c = none-queued c.set_inputs.new.tables c.in_default.ensures.kept (ap (λ (t : Timeline). t.nodes) c.in_default.ensures.trace ∙ c.in_ok-tables.ensures.nodes)

pub returns-in-Ok-clause-bases : goal.returns-in-Ok-clause-bases
returns-in-Ok-clause-bases c =
    first-bases c.args.code.now.structs c.args.inputs.now c.in-Ok.heap c.in_ok-tables.tables.mods c.set_inputs.new.tables.mods c.in-Ok.ensures.new c.in_ok-tables.ensures.bases
    (rw (c.items.ensures.value, ap (λ (k : Code). k.structs) c.code.view_is) at c.in_default.ensures.inputs) c.in_default.ensures.others

pub returns-in-Ok-clause-looks : goal.returns-in-Ok-clause-looks
returns-in-Ok-clause-looks c = record {
  looked = c.set_inputs.ensures.looked ∙ c.in_ok-tables.ensures.looks.looked;
  differed = c.set_inputs.ensures.differed ∙ c.in_ok-tables.ensures.looks.differed;
  touched = ap (λ (t : Timeline). t.touched) c.in_default.ensures.trace ∙ c.in_ok-tables.ensures.looks.touched;
  spare = ap (λ (t : Timeline). t.spare) c.in_default.ensures.trace ∙ c.in_ok-tables.ensures.looks.spare;
}

pub returns-in-Ok-clause-unmarked : goal.returns-in-Ok-clause-unmarked
returns-in-Ok-clause-unmarked c = c.set_inputs.ensures.marks ∙ c.in_ok-tables.ensures.unmarked
