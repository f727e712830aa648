use Rattle.ceal_base.specs.Block.{alone}
use Rattle.ceal_base.proofs.FittingSteps.{fields-lengths}
use Rattle.ceal_base.proofs.fitting.fields_fit.Goals as goal

pub returns-then-fields-words : goal.returns-then-fields-words
returns-then-fields-words c = fields-lengths c.args.structs.now (alone c.args.inputs.now) c.args.fields.now c.args.words.now c.if-fields-words.true
