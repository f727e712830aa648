use Rattle.ceal_engine.proofs.CostOfCalls.{room-law}
use Rattle.ceal_engine.proofs.laws.room_law.Goals as goal

pub returns : goal.returns
returns c = record { law = room-law }
