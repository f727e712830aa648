use Rattle.std.proofs.Common.{◌≡◌, Some, ◌∙◌, sym, subst}
use Rattle.std.specs.Option.{option_map}
use Rattle.std.specs.Prelude.{IsSome}
use Rattle.ceal_base.specs.Block.{Block}
use Rattle.ceal_engine.proofs.ReadRun.{shape-read, no-shape}
use Rattle.ceal_engine.specs.Engine.{block_in}
use Rattle.ceal_engine.specs.Keeping.{running_in}
use Rattle.ceal_engine.proofs.engine.Engine.shape.Goals as goal

pub unreachable-requires : goal.unreachable-requires
unreachable-requires c =
    no-shape c.self.inside.code c.self.inside.inputs (running_in c.self.inside.run) c.args.block (sym c.shape.ensures ∙ c.in-None.is)
    (subst (λ e. IsSome (block_in e c.args.block)) (sym c.self.view_is) c.requires.there)

pub returns : goal.returns
returns c = record {
  value =
      subst (λ e. option_map (λ (b : Block). b.shape) (block_in e c.args.block) ≡ Some c.in-Some.shape) c.self.view_is
      (sym (shape-read c.self.inside.code c.self.inside.inputs (running_in c.self.inside.run) c.args.block) ∙ (sym c.shape.ensures ∙ c.in-Some.is));
}
