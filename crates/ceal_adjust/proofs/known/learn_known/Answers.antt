use Rattle.std.proofs.Common.{◌∙◌, sym}
use Rattle.ceal_code.specs.Tables.{code_in, plain_in, store_in}
use Rattle.ceal_adjust.proofs.Knowing.{knowing-none, defaulting-none}
use Rattle.ceal_adjust.proofs.known.learn_known.Goals as goal

pub returns-clause-plain : goal.returns-clause-plain
returns-clause-plain c =
    sym (knowing-none (plain_in c.loop-first.memory) c.loop-first.known.now c.in_default.ensures.cases) ∙ c.loop-first.invariant.plain

pub returns-clause-store : goal.returns-clause-store
returns-clause-store c =
    sym (defaulting-none (code_in c.loop-first.memory) (store_in c.loop-first.memory) c.loop-first.known.now c.in_default.ensures.cases) ∙ c.loop-first.invariant.store
