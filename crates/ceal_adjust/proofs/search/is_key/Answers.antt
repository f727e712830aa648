use Rattle.ceal_adjust.proofs.Keys.{is-key}
use Rattle.ceal_adjust.proofs.search.is_key.Goals as goal

pub returns : goal.returns
returns c = is-key c.same_as.result c.args.k.now c.args.key.now c.same_as.ensures.same
