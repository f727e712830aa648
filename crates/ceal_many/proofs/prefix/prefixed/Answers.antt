use Rattle.ceal_many.specs.Prefixes.{prefixed}
use Rattle.ceal_many.proofs.PrefixSteps.{went, over}
use Rattle.ceal_many.proofs.prefix.prefixed.Goals as goal

-- at the beginning of a line its prefix and the byte are added, elsewhere the byte
pub loop-byte-preserved : goal.loop-byte-preserved
loop-byte-preserved c =
    rw (c.in_ok-push.ensures.ok, c.in_ok-put_prefix.ensures)
    (went c.args.name.now c.loop-byte.text c.args.reply.now (prefixed c.args.name.now c.args.reply.now) c.loop-byte.byte-index c.loop-byte.begins
    c.loop-byte-test.true c.loop-byte.invariant)

pub returns : goal.returns
returns c = over c.args.name.now c.loop-byte.text c.args.reply.now (prefixed c.args.name.now c.args.reply.now) c.loop-byte.byte-index c.loop-byte.begins
    c.loop-byte-test.false c.loop-byte.invariant
