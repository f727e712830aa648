use Rattle.std.proofs.Common.{rules, arith, refl}
use Rattle.ceal_session.specs.SessionState.{situation}
use Rattle.ceal_cli.proofs.Sessions.GrowingReplies.{none_so_far, one_more, some_of_it, first_served, all_written, all_begun}
use Rattle.ceal_cli.proofs.replies.reply_all.Goals as goal

pub loop-line-init : goal.loop-line-init
loop-line-init g c = record { so_far = none_so_far _ _ _; later = omega arith }

pub loop-line-preserved : goal.loop-line-preserved
loop-line-preserved g c =
    let left = rw c.in-Some.ensures at c.loop-line.invariant.so_far in
    record {
      so_far = one_more _ _ _ _ _ _ _ _ _ left c.in_ok-reply.ensures.writes.all;
      later = omega (arith, c.loop-line.invariant.later, c.in_ok-reply.ensures.writes.later);
    }

-- the sink took no more: what is written is a part of the replies
pub returns-in_err-reply : goal.returns-in_err-reply
returns-in_err-reply g c =
    let left = rw c.in-Some.ensures at c.loop-line.invariant.so_far in
    record {
      writes = record {
        all = search rules;
        part = some_of_it _ _ _ _ _ (situation c.reply.new.session) _ _ _ left c.reply.ensures.writes.part;
        fault = search rules;
        later = omega (arith, c.loop-line.invariant.later, c.reply.ensures.writes.later);
      };
      cut = λ is own. first_served _ _ _ _ _ _ _ left (c.reply.ensures.memory (search rules) own);
    }

pub returns : goal.returns
returns g c =
    let left = rw c.in_default.ensures.0 at c.loop-line.invariant.so_far in
    record {
      writes = record {
        all = all_written _ _ _ _ _ left;
        part = all_begun _ _ _ _ _ left;
        fault = search rules;
        later = c.loop-line.invariant.later;
      };
      cut = λ is. absurd (cc is);
    }
