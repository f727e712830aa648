use Rattle.ceal_code.proofs.Equations.TableSteps.{input-some}
use Rattle.ceal_code.proofs.trace_memory.input_word.Goals as goal

pub returns-in-Some : goal.returns-in-Some
returns-in-Some c =
    input-some c.args.code.now c.args.inputs.now c.args.block c.in-Input.n c.args.field c.in-Some.found.now c.plain_word_in.result c.in-Input.is
    (rw c.in-Some.is at c.input_at.ensures) c.plain_word_in.ensures
