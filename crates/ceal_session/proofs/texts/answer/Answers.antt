use Rattle.std.proofs.Common.{◌∙◌, ap, arith}
use Rattle.std.specs.Prelude.{ℕ, ◌++◌, codes}
use Rattle.std.specs.Fmt.{decimal}
use Rattle.ceal_session.proofs.Replies.TextOfReply.{if-ok}
use Rattle.ceal_session.proofs.Memory.EngineTellsRun.{told-number}
use Rattle.ceal_session.specs.SessionState.{situation}
use Rattle.ceal_session.specs.Runs.{present_run}
use Rattle.ceal_session.specs.State.{numbers_in}
use Rattle.ceal_session.proofs.texts.answer.Goals as goal

-- the text is the number in decimal digits, and a line feed
pub returns-in-Work-clause-told : goal.returns-in-Work-clause-told
returns-in-Work-clause-told c =
    rw c.in-Work.is
    (if-ok c.number_line-in-Work.result
    (λ text h. told-number c.args.state.now.state (numbers_in (situation c.args.state.now)) (present_run c.args.state.now.state) c.work.ensures.run text
    (h ∙ ap (λ (n : ℕ). decimal n ++ codes "\n") c.work.ensures.work))
    c.number_line-in-Work.ensures.line)

pub returns-in-Bound-clause-long : goal.returns-in-Bound-clause-long
returns-in-Bound-clause-long c = if-ok c.bound_line.result (λ text h l. absurd (omega (arith, h, l))) c.bound_line.ensures.short
