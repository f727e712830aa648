use Rattle.std.proofs.Common.{◌≡◌, ◌∙◌, subst}
use Rattle.std.specs.Option.{option_map}
use Rattle.ceal_base.specs.Block.{Block}
use Rattle.ceal_engine.proofs.ReadRun.{shape-read}
use Rattle.ceal_engine.specs.Keeping.{running_in}
use Rattle.ceal_engine.specs.Engine.{block_in}
use Rattle.ceal_engine.proofs.engine.Engine.find_shape.Goals as goal

pub returns-clause-value : goal.returns-clause-value
returns-clause-value c = λ shows.
    subst (λ e. c.shape.result ≡ option_map (λ (b : Block). b.shape) (block_in e c.args.block)) c.self.view_is
    (c.shape.ensures ∙ shape-read c.self.inside.code c.self.inside.inputs (running_in c.self.inside.run) c.args.block)
