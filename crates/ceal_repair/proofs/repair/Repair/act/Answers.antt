use Rattle.std.proofs.Common.{refl, ◌∙◌}
use Rattle.ceal_code.specs.Stacks.{stack_in, top_of, below_in}
use Rattle.ceal_code.specs.declared.step.Act.TheVariants as does
use Rattle.ceal_code.specs.declared.step.Step.TheVariants as step
use Rattle.ceal_repair.proofs.Runs.NextAct.{acts-over}
use Rattle.ceal_repair.specs.Reads.{closure_in}
use Rattle.ceal_repair.proofs.repair.Repair.act.Goals as goal

pub close-requires : goal.close-requires
close-requires c = record {
  over = (
    c.requires.runs.0,
    acts-over c.args.self.now c.next.new.self c.next.new.self c.in_ok-next.field-0 step.Over does.Over (stack_in c.next.new.self.stack.now)
        c.in_ok-next.ensures.rest c.in_ok-next.ensures.acts c.in-Over.is refl refl c.in_ok-next.ensures.aside c.requires.runs.0 c.requires.runs.1,
  );
}

pub quiet-requires : goal.quiet-requires
quiet-requires c = record {
  acts = (
    c.requires.runs.0,
    acts-over c.args.self.now c.next.new.self c.next.new.self c.in_ok-next.field-0 step.Quiet does.Quiet (stack_in c.next.new.self.stack.now)
        c.in_ok-next.ensures.rest c.in_ok-next.ensures.acts c.in-Quiet.is refl refl c.in_ok-next.ensures.aside c.requires.runs.0 c.requires.runs.1,
  );
}

-- the next step allocates, with this key
pub make-requires : goal.make-requires
make-requires c = record {
  acts = (
    c.requires.runs.0,
    acts-over c.args.self.now c.next.new.self c.next.new.self c.in_ok-next.field-0 (step.Makes c.in-Makes.making)
        (does.Makes c.in_ok-key-in-Makes.key c.in-Makes.making.var (top_of c.next.new.self.stack.now)) (below_in c.next.new.self.stack.now)
        c.in_ok-next.ensures.rest c.in_ok-next.ensures.acts c.in-Makes.is refl c.in_ok-key-in-Makes.ensures.key c.in_ok-next.ensures.aside c.requires.runs.0 c.requires.runs.1,
  );
}

pub write-requires : goal.write-requires
write-requires c = record {
  acts = (
    c.requires.runs.0,
    acts-over c.args.self.now c.next.new.self c.next.new.self c.in_ok-next.field-0 (step.Writes c.in-Writes.place c.in-Writes.value)
        (does.Writes c.in-Writes.place c.in-Writes.value) (stack_in c.next.new.self.stack.now)
        c.in_ok-next.ensures.rest c.in_ok-next.ensures.acts c.in-Writes.is refl refl c.in_ok-next.ensures.aside c.requires.runs.0 c.requires.runs.1,
  );
}

-- the next step reads, and its unit waits with this closure
pub read-requires : goal.read-requires
read-requires c = record {
  acts = (
    c.requires.runs.0,
    acts-over c.args.self.now c.next.new.self c.leave_for.new.self c.in_ok-next.field-0 (step.Reads c.in-Reads.reading)
        (does.Reads (closure_in c.in-Reads.reading c.leave_for.new.self.args.now.items)) (stack_in c.leave_for.new.self.stack.now)
        c.in_ok-next.ensures.rest c.in_ok-next.ensures.acts c.in-Reads.is c.in_ok-leave_for-in-Reads.ensures.rest c.in_ok-leave_for-in-Reads.ensures.closure
        (c.in_ok-leave_for-in-Reads.ensures.aside ∙ c.in_ok-next.ensures.aside) c.requires.runs.0 c.requires.runs.1,
  );
}
