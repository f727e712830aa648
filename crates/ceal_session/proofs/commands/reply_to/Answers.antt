use Rattle.ceal_engine.specs.Cost.{CostOfCall}
use Rattle.ceal_session.proofs.Replies.QuestionsAnswered.{cell-sense}
use Rattle.ceal_session.proofs.commands.reply_to.Goals as goal

pub set-requires : goal.set-requires
set-requires c = rw c.in_ok-place_sense-in-Set.ensures (cell-sense c.args.state.now.state c.in-Set.place)

-- a question leaves the engine as it is
pub returns-in-Blank-clause-cost : goal.returns-in-Blank-clause-cost
returns-in-Blank-clause-cost c = CostOfCall.same

pub returns-in_ok-place_sense-in-Get-clause-cost : goal.returns-in_ok-place_sense-in-Get-clause-cost
returns-in_ok-place_sense-in-Get-clause-cost c = CostOfCall.same

pub returns-in-Show-clause-cost : goal.returns-in-Show-clause-cost
returns-in-Show-clause-cost c = CostOfCall.same

pub returns-in-Blocks-clause-cost : goal.returns-in-Blocks-clause-cost
returns-in-Blocks-clause-cost c = CostOfCall.same

pub returns-in-Steps-clause-cost : goal.returns-in-Steps-clause-cost
returns-in-Steps-clause-cost c = CostOfCall.same

pub returns-in-Work-clause-cost : goal.returns-in-Work-clause-cost
returns-in-Work-clause-cost c = CostOfCall.same

pub returns-in-Bound-clause-cost : goal.returns-in-Bound-clause-cost
returns-in-Bound-clause-cost c = CostOfCall.same
