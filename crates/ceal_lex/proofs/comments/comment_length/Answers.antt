use Rattle.std.proofs.Common.{arith, rules}
use Rattle.ceal_lex.proofs.Closing.{closes}
use Rattle.ceal_lex.proofs.comments.comment_length.Goals as goal

pub returns-then-text-at-eq47 : goal.returns-then-text-at-eq47
returns-then-text-at-eq47 c =
    closes c.args.text.now c.loop-at.at c.loop-at.invariant.none (omega (arith, c.loop-at-test.true)) (search rules) (search rules)
