use Rattle.ceal_cli.proofs.Outputs.OutputByMode.{not_accepted}
use Rattle.ceal_cli.proofs.accepted_program.program.Goals as goal

-- the program's text is accepted, so it has no first fault
pub unreachable-requires : goal.unreachable-requires
unreachable-requires c =
    not_accepted c.args.input.bytes.now c.in-Err-Fault.field-0-0 (c.one_answer.ensures.law c.args.input.bytes.now)
    (rw (c.in-Err-Fault.field-0-is) at c.in-Err-Fault.ensures.fault) c.requires.accepted
