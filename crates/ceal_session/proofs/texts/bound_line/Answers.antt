use Rattle.std.proofs.Common.{◌∙◌, ap}
use Rattle.std.specs.Prelude.{ℕ, ◌++◌, codes}
use Rattle.std.specs.Fmt.{decimal}
use Rattle.ceal_session.proofs.Replies.TextOfReply.{if-ok}
use Rattle.ceal_session.proofs.Memory.EngineTellsRun.{told-bound}
use Rattle.ceal_session.specs.SessionState.{situation}
use Rattle.ceal_session.specs.Runs.{present_run}
use Rattle.ceal_session.specs.State.{numbers_in}
use Rattle.ceal_session.proofs.texts.bound_line.Goals as goal

-- the text is the number in decimal digits, and a line feed
pub returns-clause-told : goal.returns-clause-told
returns-clause-told c =
    if-ok c.number_line.result
    (λ text h. told-bound c.args.state.now.state (numbers_in (situation c.args.state.now)) (present_run c.args.state.now.state) c.bound.ensures.run text
    (h ∙ ap (λ (n : ℕ). decimal n ++ codes "\n") c.in_ok-bound.ensures.bound))
    c.number_line.ensures.line
