use Rattle.ceal_flow.proofs.BitFacts.{but-bit}
use Rattle.ceal_flow.proofs.bits.but.Goals as goal

pub returns-then-v-chunk : goal.returns-then-v-chunk
returns-then-v-chunk c = record {
  value = λ j l. but-bit c.args.chunk.bits c.in-Some.v c.args.chunk.at j c.args.except c.in-Some.is c.if-v-chunk.true l;
}
