use Rattle.ceal_session.specs.SessionState.{situation}
use Rattle.ceal_cli.proofs.Outputs.DumpExists.{recorded-core, recorded-closed}
use Rattle.ceal_cli.proofs.save.save_of.Goals as goal

pub text_of-text-requires-clause-core : goal.text_of-text-requires-clause-core
text_of-text-requires-clause-core c =
    let saved = rw c.in-Some.is at c.in_ok-saved.ensures.saved in
    recorded-core (situation c.args.session.now) c.in-Some.saved.kept saved.kept c.renaming_law.ensures.law

pub text_of-text-requires-clause-ends : goal.text_of-text-requires-clause-ends
text_of-text-requires-clause-ends c =
    let saved = rw c.in-Some.is at c.in_ok-saved.ensures.saved in
    recorded-closed (situation c.args.session.now) c.in-Some.saved.kept saved.kept
