use Rattle.ceal_flow.proofs.ChunkFacts.{before-none}
use Rattle.ceal_flow.proofs.bits.has.Goals as goal

pub skip-requires-clause-before : goal.skip-requires-clause-before
skip-requires-clause-before c = before-none c.args.chunks.now _
