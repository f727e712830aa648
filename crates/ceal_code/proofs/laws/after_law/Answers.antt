use Rattle.ceal_code.proofs.Replay.AfterLaws.{store-law, inputs-law}
use Rattle.ceal_code.proofs.laws.after_law.Goals as goal

pub returns-clause-store : goal.returns-clause-store
returns-clause-store c = λ code s t l h. store-law code s t l h

pub returns-clause-inputs : goal.returns-clause-inputs
returns-clause-inputs c = λ code inputs f args l r s i. inputs-law code inputs f args l r s i
