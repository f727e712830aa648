use Rattle.ceal_order.proofs.Powers.{three_fits}
use Rattle.ceal_order.proofs.run.is_sparse.Goals as goal

pub pow-requires : goal.pow-requires
pow-requires c = three_fits c.args.bits c.requires
