use Rattle.ceal_adjust.proofs.Keys.{are-words}
use Rattle.ceal_adjust.proofs.search.are_words.Goals as goal

pub returns : goal.returns
returns c = are-words c.same_as.result c.args.words.now c.args.args.now c.same_as.ensures.same
