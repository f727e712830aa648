use Rattle.std.proofs.Common.{◌≡◌, Ok, subst}
use Rattle.ceal_compile.specs.Compiled.{IsCodeOf}
use Rattle.ceal_session.specs.SessionState.{situation}
use Rattle.ceal_session.specs.Consistency.{IsIn}
use Rattle.ceal_cli.proofs.Sessions.SessionInSituation.{in-again}
use Rattle.ceal_cli.specs.Members.{first_situation}
use Rattle.ceal_cli.proofs.members.MembersMaker.make.Goals as goal

-- a member begins with the state that a session of its own has
pub returns : goal.returns
returns c =
    let i = c.self.inside in
    let q = c.in_ok-program.program in
    let same : Ok q.typed ≡ Ok i.program.typed = c.one_answer.ensures.law i.input.bytes.now (Ok q.typed) (Ok i.program.typed) c.in_ok-program.ensures.program c.self.invariant.0.reads in
    let typed : q.typed ≡ i.program.typed = cc same in
    let code : q.code ≡ i.program.code = c.one_code.ensures.law i.program.typed q.code i.program.code
    (subst (λ t. IsCodeOf t q.code) typed
    (c.in_ok-program.ensures.compiled).code) c.self.invariant.0.compiled.code in
    record {
      opens = subst (λ b. IsIn (situation c.in_ok-session.session) (first_situation b)) c.self.view_is
          (rw c.in_ok-session.ensures.state (in-again c.some_reply.ensures.begun i.program q i.fuel c.self.invariant.0.compiled typed code));
    }
