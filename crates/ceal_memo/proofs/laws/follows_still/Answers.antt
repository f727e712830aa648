use Rattle.ceal_memo.proofs.Holding.{follows_law}
use Rattle.ceal_memo.proofs.laws.follows_still.Goals as goal

pub returns-clause-law : goal.returns-clause-law
returns-clause-law c = λ memo entries old new holds follows keeps.
    follows_law memo entries holds old new (λ stamps. c.rising_still.ensures.law stamps old new) follows keeps
