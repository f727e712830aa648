use Rattle.ceal_order.proofs.Balance.{deep_squared, few_forks, deep_in_items}
use Rattle.ceal_order.proofs.tree.depth_law.Goals as goal

pub returns-clause-depth : goal.returns-clause-depth
returns-clause-depth g c = deep_squared c.args.tree.now c.requires

pub returns-clause-forks : goal.returns-clause-forks
returns-clause-forks g c = few_forks c.args.tree.now c.requires

pub returns-clause-way : goal.returns-clause-way
returns-clause-way g c = deep_in_items c.args.tree.now c.requires
