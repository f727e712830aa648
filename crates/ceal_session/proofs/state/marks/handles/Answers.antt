use Rattle.std.proofs.Common.{refl}
use Rattle.ceal_session.proofs.Moves.PlacesOfInputs.{handle-told}
use Rattle.ceal_session.proofs.state.marks.handles.Goals as goal

pub loop-place-preserved : goal.loop-place-preserved
loop-place-preserved c =
    handle-told c.args.places.now c.loop-place.place-index _ c.loop-place.found.items _ _ c.loop-place-test.true refl c.loop-place.invariant c.in_ok-push.ensures.items
