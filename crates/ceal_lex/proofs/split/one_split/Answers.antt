use Rattle.ceal_lex.proofs.Marks.{one_split}
use Rattle.ceal_lex.proofs.split.one_split.Goals as goal

pub returns : goal.returns
returns c = one_split
