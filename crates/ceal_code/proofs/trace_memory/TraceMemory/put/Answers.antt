use Rattle.std.proofs.Common.{refl}
use Rattle.ceal_code.proofs.Equations.TableSteps.{contents-put}
use Rattle.ceal_code.specs.Tables.{plain_in}
use Rattle.ceal_code.proofs.trace_memory.TraceMemory.put.Goals as goal

pub returns-clause-plain : goal.returns-clause-plain
unfolding plain_in
returns-clause-plain c = refl

pub returns-clause-store : goal.returns-clause-store
returns-clause-store c =
    contents-put c.args.self.now _ c.new-unwritten.result c.args.place c.args.value refl refl c.new-unwritten.ensures.word
    c.in_ok-put_word.ensures.here c.in_ok-put_word.ensures.others
