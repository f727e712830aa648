use Rattle.std.proofs.Common.{subst}
use Rattle.ceal_adjust.proofs.Sliced.{is-over, is-gone}
use Rattle.ceal_adjust.specs.Alone.{alone, state_of, IsRan}
use Rattle.ceal_adjust.specs.Answers.{IsBeyond}
use Rattle.ceal_adjust.specs.declared.complete.Limit.TheVariants.{Work}
use Rattle.ceal_adjust.proofs.turn.run_stale.Goals as goal

-- the turn would have more work than the fuel
pub returns-in-None : goal.returns-in-None
returns-in-None c = λ code inputs r f args fits stands sound there.
    is-over code inputs f args fits c.args.fuel r sound c.args.repair.now stands c.args.memory c.args.stale there
    (subst (λ k. IsBeyond k (Work c.args.fuel) (alone k (state_of c.args.memory c.args.repair.now) c.args.stale)) there.same (rw c.in-None.is at c.in_ok-run_alone.ensures))

-- the read's unit was re-executed, and that is the turn
pub returns-in_ok-next-in-Some : goal.returns-in_ok-next-in-Some
returns-in_ok-next-in-Some c = λ code inputs r f args fits stands sound there.
    is-gone code inputs f args fits c.args.fuel r sound c.args.repair.now stands c.args.memory c.args.stale there c.in-Some.ran
    (subst (λ k. IsRan k c.args.fuel (alone k (state_of c.args.memory c.args.repair.now) c.args.stale) c.in-Some.ran) there.same (rw c.in-Some.is at c.in_ok-run_alone.ensures))
    c.in_ok-next-in-Some.next c.in_ok-next-in-Some.ensures
