use Rattle.ceal_serve.proofs.Opening.{fault-step, none-of-it}
use Rattle.ceal_serve.proofs.source.refuse.Goals as goal

pub say-requires : goal.say-requires
say-requires g c = record { step = rw c.items.ensures.value (fault-step _ _ _ (c.args.fault, c.requires.first, c.in_ok-line.ensures.text) c.requires.owed) }

pub returns-in_err-line-clause-part : goal.returns-in_err-line-clause-part
returns-in_err-line-clause-part g c = none-of-it _ _ _ c.args.fault c.requires.first
