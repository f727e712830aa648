use Rattle.ceal_serve.proofs.Asked.{asked-nothing, asked-run}
use Rattle.ceal_serve.proofs.top.asked_fuel.Goals as goal

pub returns-in-Some : goal.returns-in-Some
returns-in-Some c = asked-run _ _ c.in_ok-words.ensures c.in-Some.mode _ (rw c.in-Some.is at c.in_ok-mode.ensures) c.fuel_of.ensures

pub returns : goal.returns
returns c = asked-nothing _ _ c.in_ok-words.ensures (rw c.in-None.is at c.in_ok-mode.ensures)
