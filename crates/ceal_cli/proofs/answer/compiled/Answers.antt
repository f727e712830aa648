use Rattle.std.proofs.Common.{inl, refl, rules}
use Rattle.ceal_cli.specs.Output.{AreFirstReplies}
use Rattle.ceal_cli.proofs.Sessions.GrowingReplies.{kept, nothing}
use Rattle.ceal_cli.proofs.Outputs.OutputByMode.{not_accepted}
use Rattle.ceal_cli.proofs.Inputs.AnswerOrRefusal.{taken-accepted}
use Rattle.ceal_cli.proofs.answer.compiled.Goals as goal

-- a source text with a fault is no program, so nothing is taken
pub returns-in_ok-refuse-in-Err-Fault-clause-taken : goal.returns-in_ok-refuse-in-Err-Fault-clause-taken
returns-in_ok-refuse-in-Err-Fault-clause-taken g c = (
  (λ t. absurd (cc t)),
  λ a. absurd (not_accepted c.args.input.bytes.now c.in-Err-Fault.fault (c.one_answer.ensures.law c.args.input.bytes.now)
      (rw (c.in-Err-Fault.field-0-is) at c.in-Err-Fault.ensures.fault) (taken-accepted c.args.mode c.args.input.bytes.now a)),
)

pub returns-in_ok-refuse-in-Err-Fault-clause-readable : goal.returns-in_ok-refuse-in-Err-Fault-clause-readable
returns-in_ok-refuse-in-Err-Fault-clause-readable g c = λ t. absurd (cc t)

-- without memory for the code nothing is written
pub returns-in-Err-Memory-clause-cut : goal.returns-in-Err-Memory-clause-cut
returns-in-Err-Memory-clause-cut g c = λ _ _ fuel _. nothing (g.K.Sink.written c.args.sink.now) (AreFirstReplies fuel c.args.input.bytes.now) (inl refl)

pub returns-in_err-refuse-in-Err-Fault-clause-cut : goal.returns-in_err-refuse-in-Err-Fault-clause-cut
returns-in_err-refuse-in-Err-Fault-clause-cut g c = λ out own fuel _.
    kept (g.K.Sink.written c.args.sink.now) (g.K.Sink.written c.refuse.new.sink) (AreFirstReplies fuel c.args.input.bytes.now) (inl refl) (c.refuse.ensures.memory (search rules) own)
