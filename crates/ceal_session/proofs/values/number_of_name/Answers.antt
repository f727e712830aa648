use Rattle.std.specs.Prelude.{◌++◌, codes}
use Rattle.ceal_session.proofs.Replies.NumberAsPrinted.{printed-by}
use Rattle.ceal_session.specs.SessionState.{situation}
use Rattle.ceal_session.specs.State.{numbers_in}
use Rattle.ceal_session.proofs.values.number_of_name.Goals as goal

pub returns-clause-printed : goal.returns-clause-printed
returns-clause-printed c =
    let line = codes "get " ++ c.args.name.now in
    printed-by c.args.state.now.state (numbers_in (situation c.args.state.now)) line (c.command_or_none.ensures line) c.find_number.result c.find_number.ensures
