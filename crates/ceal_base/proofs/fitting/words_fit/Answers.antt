use Rattle.ceal_base.specs.Block.{alone}
use Rattle.ceal_base.proofs.FittingSteps.{words-lengths}
use Rattle.ceal_base.proofs.fitting.words_fit.Goals as goal

pub returns-then-kinds-words : goal.returns-then-kinds-words
returns-then-kinds-words c = record { value = words-lengths c.args.structs.now (alone c.args.inputs.now) c.args.kinds.now c.args.words.now c.if-kinds-words.true }
