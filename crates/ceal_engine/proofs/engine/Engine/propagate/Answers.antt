use Rattle.std.proofs.lemmas.Result.{err_from_is_err_and}
use Rattle.ceal_engine.proofs.Advanced.{ended-phase, ended-present, to-end}
use Rattle.ceal_engine.proofs.engine.Engine.propagate.Goals as goal

-- it is the call of `advance`, which ends where all reads may be re-executed
pub returns-clause-advances : goal.returns-clause-advances
returns-clause-advances c =
    let a = c.in_ok-advance.ensures in
    to-end c.args.self.now c.advance.new.self c.in_ok-advance.field-0 (record { keeps = a.keeps; outcome = a.outcome; sure = a.sure; still = a.still })

pub returns-clause-phase : goal.returns-clause-phase
returns-clause-phase c =
    let a = c.in_ok-advance.ensures in
    ended-phase c.args.self.now c.advance.new.self
    (to-end c.args.self.now c.advance.new.self c.in_ok-advance.field-0 (record { keeps = a.keeps; outcome = a.outcome; sure = a.sure; still = a.still }))

pub returns-clause-present : goal.returns-clause-present
returns-clause-present c =
    let a = c.in_ok-advance.ensures in
    ended-present c.args.self.now c.advance.new.self
    (to-end c.args.self.now c.advance.new.self c.in_ok-advance.field-0 (record { keeps = a.keeps; outcome = a.outcome; sure = a.sure; still = a.still }))

pub returns-in_err-advance-clause-advances : goal.returns-in_err-advance-clause-advances
returns-in_err-advance-clause-advances c =
    let a = c.in_err-advance.ensures in
    let error = err_from_is_err_and c.from_residual.result c.from_residual.ensures.1 in
    rw (error.1, error.2) (record { keeps = a.keeps; outcome = a.outcome; sure = a.sure; still = a.still })
