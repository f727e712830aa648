use Rattle.std.proofs.lemmas.Result.{err_from_is_err_and}
use Rattle.ceal_engine.proofs.Advanced.{by-progress}
use Rattle.ceal_engine.proofs.engine.Engine.slice.Goals as goal

-- it is the call of `advance`, whose answer tells more
pub returns : goal.returns
returns c = record {
  advances =
      let a = c.in_ok-came.ensures in
      by-progress c.args.self.now c.advance.new.self c.args.reads c.in_ok-came.came
      (record { keeps = a.keeps; outcome = a.outcome; sure = a.sure; still = a.still }) c.progress.result c.progress.ensures;
}

pub returns-in_err-came : goal.returns-in_err-came
returns-in_err-came c = record {
  advances =
      let a = c.in_err-came.ensures in
      let error = err_from_is_err_and c.from_residual.result c.from_residual.ensures.1 in
      rw (error.1, error.2) (record { keeps = a.keeps; outcome = a.outcome; sure = a.sure; still = a.still });
}
