use Rattle.ceal_adjust.proofs.MachineSteps.{if-acts}
use Rattle.ceal_adjust.proofs.Sliced.{reached-first, reached-more, is-concluded, is-done, is-spent, given-holds, within-zero, within-more}
use Rattle.ceal_adjust.specs.declared.slices.Sliced.TheVariants.{Done}
use Rattle.ceal_adjust.proofs.slices.slice_repair.Goals as goal

pub loop-turns-init : goal.loop-turns-init
loop-turns-init c = record {
  few = c.requires.few;
  within = within-zero c.args.reads;
  reached = λ r f args fits stands sound. reached-first c.args.code.now c.args.inputs.now f args fits c.args.fuel r sound c.args.repair stands;
}

-- the number of reads was re-executed, and so the slice is over
pub returns-then-is_last-clause-slice : goal.returns-then-is_last-clause-slice
returns-then-is_last-clause-slice c =
    if-acts c.concluded.result _ _ (λ s h. λ r f args fits stands sound.
    let z = c.loop-turns.invariant.reached r f args fits stands sound in
    is-concluded c.args.code.now c.args.inputs.now f args fits c.args.fuel r sound c.loop-turns.turns c.loop-turns.repair z c.loop-turns.invariant.few c.args.reads
    (c.is_last.ensures.0 c.if-is_last.true) s
    (h z.repair f args fits z.stands z.sound)) c.concluded.ensures

-- so the repair that is left is one of the call, too
pub returns-then-is_last-clause-holds : goal.returns-then-is_last-clause-holds
returns-then-is_last-clause-holds c =
    if-acts c.concluded.result _ _ (λ s h. λ f args held.
    let z = c.loop-turns.invariant.reached held.repair f args held.fits held.stands held.sound in
    given-holds c.args.code.now c.args.inputs.now f args held.fits c.args.fuel held.repair held.sound c.args.reads s
    (is-concluded c.args.code.now c.args.inputs.now f args held.fits c.args.fuel held.repair held.sound c.loop-turns.turns c.loop-turns.repair z c.loop-turns.invariant.few c.args.reads
    (c.is_last.ensures.0 c.if-is_last.true) s
    (h z.repair f args held.fits z.stands z.sound))) c.concluded.ensures

-- no read is stale any more, so the slice is done before its number is reached
pub returns-in-Honest-clause-slice : goal.returns-in-Honest-clause-slice
returns-in-Honest-clause-slice c = λ r f args fits stands sound.
    let z = c.loop-turns.invariant.reached r f args fits stands sound in
    is-done c.args.code.now c.args.inputs.now f args fits c.args.fuel r sound c.loop-turns.turns c.loop-turns.repair z c.loop-turns.invariant.few
    ((rw c.in-Honest.is at c.in_ok-turn.ensures) z.repair f args fits z.stands z.sound) c.args.reads c.loop-turns.invariant.within
    (λ e. let t = c.is_last.ensures.1 e in
    let d = c.if-is_last.false in
    absurd cc)

-- so the repair that is left is one of the call, too
pub returns-in-Honest-clause-holds : goal.returns-in-Honest-clause-holds
returns-in-Honest-clause-holds c = λ f args held.
    let z = c.loop-turns.invariant.reached held.repair f args held.fits held.stands held.sound in
    given-holds c.args.code.now c.args.inputs.now f args held.fits c.args.fuel held.repair held.sound c.args.reads (Done c.loop-turns.repair)
    (is-done c.args.code.now c.args.inputs.now f args held.fits c.args.fuel held.repair held.sound c.loop-turns.turns c.loop-turns.repair z c.loop-turns.invariant.few
    ((rw c.in-Honest.is at c.in_ok-turn.ensures) z.repair f args held.fits z.stands z.sound) c.args.reads c.loop-turns.invariant.within
    (λ e. let t = c.is_last.ensures.1 e in
    let d = c.if-is_last.false in
    absurd cc))

-- the next turn has more work than the fuel, and a slice would have to make it
pub returns-in-Over-clause-slice : goal.returns-in-Over-clause-slice
returns-in-Over-clause-slice c = λ r f args fits stands sound.
    let z = c.loop-turns.invariant.reached r f args fits stands sound in
    is-spent c.args.code.now c.args.inputs.now f args fits c.args.fuel r sound c.loop-turns.turns c.loop-turns.repair z
    ((rw c.in-Over.is at c.in_ok-turn.ensures) z.repair f args fits z.stands z.sound)
    c.args.reads c.loop-turns.invariant.within
    (λ e. let t = c.is_last.ensures.1 e in
    let d = c.if-is_last.false in
    absurd cc)

-- one turn more is made, and the number is not reached
pub loop-turns-preserved : goal.loop-turns-preserved
loop-turns-preserved c = record {
  few = let held = c.requires.holds.2 in
      let z = c.loop-turns.invariant.reached held.repair c.requires.holds.0 c.requires.holds.1 held.fits held.stands held.sound in
      ((rw c.in-Went.is at c.in_ok-turn.ensures) z.repair c.requires.holds.0 c.requires.holds.1 held.fits z.stands z.sound).3;
  within = within-more c.args.reads c.loop-turns.turns c.loop-turns.invariant.within
      (λ e. let t = c.is_last.ensures.1 e in
      let d = c.if-is_last.false in
      absurd cc);
  reached = λ r f args fits stands sound.
      let z = c.loop-turns.invariant.reached r f args fits stands sound in
      reached-more c.args.code.now c.args.inputs.now f args fits c.args.fuel r sound c.loop-turns.turns c.loop-turns.repair z c.in-Went.next
      ((rw c.in-Went.is at c.in_ok-turn.ensures) z.repair f args fits z.stands z.sound);
}
