use Rattle.ceal_session.proofs.Moves.FirstState.{begun-holds, begun-is}
use Rattle.ceal_session.proofs.state.State.new.Goals as goal

pub invariant_of-result : goal.invariant_of-result
invariant_of-result c =
    let e = c.in_ok-engine in
    rw (c.in-Ok.ensures.program, c.seeded-2.ensures.empty, c.new-2.ensures)
    (begun-holds c.args.program e.engine e.ensures.code e.ensures.inputs e.ensures.phase c.requires.compiled)

pub returns : goal.returns
returns c =
    let e = c.in_ok-engine in
    rw (c.in-Ok.ensures.program, c.seeded-2.ensures.empty, c.new-2.ensures)
    (begun-is c.args.program e.engine e.ensures.code e.ensures.inputs e.ensures.phase c.phase-phase.ensures.whole c.args.fuel e.ensures.fuel e.ensures.call)
