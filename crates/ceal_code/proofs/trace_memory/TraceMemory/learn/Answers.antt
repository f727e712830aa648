use Rattle.std.proofs.Common.{refl, ap, ◌∙◌}
use Rattle.ceal_code.proofs.Equations.TableSteps.{made-learnt}
use Rattle.ceal_code.specs.Replay.{learnt}
use Rattle.ceal_code.specs.Tables.{plain_in, store_in}
use Rattle.ceal_code.proofs.trace_memory.TraceMemory.learn.Goals as goal

pub returns-clause-plain : goal.returns-clause-plain
returns-clause-plain c =
    made-learnt c.args.self.now _ c.args.id c.in_ok-block.block refl refl c.in_ok-insert.ensures.updates.0
    ∙ ap (learnt (plain_in c.args.self.now) c.args.id) c.in_ok-block.ensures.block

pub returns-clause-store : goal.returns-clause-store
unfolding store_in
returns-clause-store c = refl
