use Rattle.std.proofs.Common.{refl, ap, ◌∙◌}
use Rattle.ceal_base.specs.Block.{Block}
use Rattle.ceal_code.proofs.Equations.TableSteps.{made-learnt, contents-known}
use Rattle.ceal_code.specs.Replay.{cell_default}
use Rattle.ceal_code.specs.Value.{field_kind}
use Rattle.ceal_code.proofs.trace_memory.TraceMemory.know.Goals as goal

pub returns-clause-plain : goal.returns-clause-plain
returns-clause-plain c = made-learnt c.args.self.now _ c.args.id c.args.block refl refl c.in_ok-insert.ensures.updates.0

pub returns-clause-store : goal.returns-clause-store
returns-clause-store c =
    contents-known c.args.self.now _ c.new.result c.args.id c.args.block refl refl
    (λ code s p. c.new.ensures.word code s p ∙ ap (λ (b : Block). cell_default (field_kind code.structs b.shape p.field)) c.block.view_is)
    c.in_ok-insert-2.ensures.updates.0
