use Rattle.std.proofs.Common.{arith}
use Rattle.ceal_memo.proofs.Linking.{bucket_within}
use Rattle.ceal_memo.proofs.chains.bucket.Goals as goal

pub returns-clause-within : goal.returns-clause-within
returns-clause-within c = rw c.from.ensures (bucket_within c.args.size c.args.hash c.requires.some (omega arith))
