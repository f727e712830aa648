-- The record of a session's run.
use Rattle.std.specs.Prelude.{◌≡◌, Some}
use Rattle.ceal_base.specs.declared.call.Call.{Call}
use Rattle.ceal_base.specs.declared.recorded.Record.{Record}
use Rattle.ceal_record.specs.Recorded.{IsRecordOf, IsTraceOf}
use Rattle.ceal_theory.specs.Computed.{Repaired}
use Rattle.ceal_session.specs.Questions.{IsReady}
use Rattle.ceal_session.specs.State.{Situation, last}

-- There is a finished run, whose trace is one of the accepted call on the inputs of this moment, and the
-- record is that of this trace.
pub record IsRecorded (m : Situation) (r : Record) : Type 0 where
  pub ready : IsReady m.state
  pub call : Call
  pub called : m.state.call ≡ Some call
  pub run : Repaired
  pub traced : last m ≡ Some run
  pub of : IsTraceOf m.code m.state.inputs call run.items
  pub is : IsRecordOf m.code m.state.inputs call run.items r
