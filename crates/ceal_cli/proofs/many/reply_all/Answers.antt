use Rattle.std.proofs.Common.{◌∙◌, rules, refl, arith}
use Rattle.ceal_cli.specs.Members.{first_situation}
use Rattle.ceal_cli.proofs.Sessions.ManyReplies.{none-told, one-told, part-told, all-told, all-begun}
use Rattle.ceal_cli.proofs.many.reply_all.Goals as goal

pub loop-line-init : goal.loop-line-init
loop-line-init g c = record { so_far = none-told _ _ _ _ c.requires.none; maker = refl; later = omega arith }

-- the replies to one line more are written
pub loop-line-preserved : goal.loop-line-preserved
loop-line-preserved g c =
    let left = rw c.in-Some.ensures at c.loop-line.invariant.so_far in
    let grows = rw c.loop-line.invariant.maker at c.in_ok-reply.ensures.writes.all in
    let a = c.loop-line.invariant.later in
    let b = c.in_ok-reply.ensures.writes.later in
    record {
      so_far = one-told c.some_reply.ensures.reply c.one_reply.ensures.reply c.some_reply-2.ensures.kept c.some_reply-2.ensures.script (first_situation c.args.many.now.maker) c.requires.sound
          _ _ _ _ _ _ _ _ left grows;
      maker = c.in_ok-reply.ensures.maker ∙ c.loop-line.invariant.maker;
      later = omega (arith, a, b);
    }

-- the sink took no more: what is written is a part of the replies
pub returns-in_err-reply : goal.returns-in_err-reply
returns-in_err-reply g c =
    let left = rw c.in-Some.ensures at c.loop-line.invariant.so_far in
    let grows = rw c.loop-line.invariant.maker at c.reply.ensures.writes.part in
    let a = c.loop-line.invariant.later in
    let b = c.reply.ensures.writes.later in
    record {
      writes = record {
        all = search rules;
        part = part-told c.some_reply.ensures.reply c.one_reply.ensures.reply c.some_reply-2.ensures.kept c.some_reply-2.ensures.script (first_situation c.args.many.now.maker) c.requires.sound
            _ _ _ _ _ _ _ _ left grows;
        fault = search rules;
        later = omega (arith, a, b);
      };
    }

pub returns : goal.returns
returns g c =
    let left = rw c.in_default.ensures.0 at c.loop-line.invariant.so_far in
    record {
      writes = record {
        all = all-told _ _ _ _ _ left;
        part = all-begun _ _ _ _ _ left;
        fault = search rules;
        later = c.loop-line.invariant.later;
      };
    }
