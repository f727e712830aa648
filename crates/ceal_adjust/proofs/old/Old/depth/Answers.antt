use Rattle.ceal_adjust.proofs.MarkSteps.{nested-within, nested-at}
use Rattle.ceal_adjust.proofs.old.Old.depth.Goals as goal

pub index-requires : goal.index-requires
index-requires c =
    nested-within c.args.self.now c.self.inside.items.now c.self.inside.nesting.items c.self.view_is c.self.invariant.0 c.args.at c.requires c.self.inside.nesting.len c.self.inside.nesting.ok.0

pub returns : goal.returns
returns c =
    nested-at c.args.self.now c.self.inside.items.now c.self.inside.nesting.items c.self.view_is c.self.invariant.0 c.args.at c.requires c.index.result.now c.index.ensures
