use Rattle.std.proofs.Common.{rules, ap}
use Rattle.ceal_cli.proofs.Sessions.RepliesFromFirstRun.{one_before, from_here, begun_here, none_begun, no_run, no_run_begun}
use Rattle.ceal_cli.proofs.from_run.reply_from_run.Goals as goal

-- no line is left, and none of them was a `run`
pub returns-in_default : goal.returns-in_default
returns-in_default g c =
    let left = rw c.in_default.ensures.0 at c.loop-line.invariant.before in
    let same = ap g.K.Sink.written c.loop-line.invariant.same in
    record {
      writes = record {
        all = no_run _ _ _ left _ _ same;
        part = no_run_begun _ _ _ left _ _ same;
        fault = search rules;
        later = search rules;
      };
    }

-- from the first `run` on the replies are written, and before it none was
pub returns-then-is_run_line : goal.returns-then-is_run_line
returns-then-is_run_line g c =
    let left = rw c.in-Some.ensures at c.loop-line.invariant.before in
    let same = ap g.K.Sink.written c.loop-line.invariant.same in
    let run = c.is_run_line.ensures.0 c.if-is_run_line.true in
    let here = rw (c.copied-here.ensures, c.in-Some.ensures) at c.reply_all.ensures.writes in
    record {
      writes = record {
        all = from_here _ _ _ _ _ left _ _ _ same c.reply_all.result run here.all;
        part = begun_here _ _ _ _ _ left _ _ _ same run here.part;
        fault = rw c.loop-line.invariant.same at here.fault;
        later = rw c.loop-line.invariant.same at here.later;
      };
    }

-- this line is no `run`: it is carried out, and its reply is not written
pub loop-line-preserved : goal.loop-line-preserved
loop-line-preserved g c =
    let left = rw c.in-Some.ensures at c.loop-line.invariant.before in
    record {
      before = one_before _ _ _ _ _ left _ c.in_ok-carry_out.ensures.answered.0
          (λ p. let t = c.is_run_line.ensures.1 p in let f = c.if-is_run_line.false in absurd (cc (t, f)))
          c.in_ok-carry_out.ensures.answered.1;
      same = c.loop-line.invariant.same;
    }

pub returns-in_err-carry_out : goal.returns-in_err-carry_out
returns-in_err-carry_out g c =
    let left = rw c.in-Some.ensures at c.loop-line.invariant.before in
    record {
      writes = record {
        all = search rules;
        part = none_begun _ _ _ _ _ left _ _ (ap g.K.Sink.written c.loop-line.invariant.same);
        fault = search rules;
        later = search rules;
      };
    }
