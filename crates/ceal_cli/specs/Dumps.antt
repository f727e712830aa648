-- What is written of the situation after a script: the dump of its run's record.
use Rattle.std.specs.Prelude.{◌≡◌, ℕ, Option, Some, List, codes}
use Rattle.ceal_base.specs.declared.call.Call.{Call}
use Rattle.ceal_base.specs.declared.recorded.Record.{Record}
use Rattle.ceal_code.specs.Program.{Code}
use Rattle.ceal_dump.specs.DumpText.{dump_text}
use Rattle.ceal_record.specs.Recorded.{IsRecordOf}
use Rattle.ceal_session.specs.Replies.{situation_without_run, Leads}
use Rattle.ceal_session.specs.State.{State, Situation, last}
use Rattle.ceal_session.specs.Steps.{reply_to_query}
use Rattle.ceal_session.specs.declared.reply.Query.TheVariants.{Steps}
use Rattle.ceal_session.specs.declared.reply.Reply.{Reply}
use Rattle.ceal_session.specs.declared.reply.Reply.TheVariants.{Told}
use Rattle.ceal_theory.specs.Computed.{Repaired}

abbrev pub no_run_text : List ℕ
no_run_text = codes "no finished run\n"

-- the record of this trace of the call, in the situation
abbrev pub IsRecordIn : Situation → Option Call → Option Repaired → Record → Type 0
IsRecordIn m (Some call) (Some l) r = IsRecordOf m.code m.state.inputs call l.items r
IsRecordIn m _ _ r = ⊥

-- By what a line `steps` would be answered: where it is told, what is written of the record of the run
-- of this moment, and else the line that says that there is none.
abbrev pub IsWrittenBy : Reply → Situation → (Record → List ℕ) → List ℕ → Type 0
IsWrittenBy (Told q) m write out =
    (r : Record) × IsRecordIn m m.state.call (last m) r × (out ≡ write r)
IsWrittenBy _ m write out = out ≡ no_run_text

abbrev pub IsWrittenOf : Situation → (Record → List ℕ) → List ℕ → Type 0
IsWrittenOf m write out = IsWrittenBy (reply_to_query m.state Steps) m write out

-- The dump of the run of this moment; where a line `steps` would be refused, the line that says so.
abbrev pub IsDumpOf : Situation → List ℕ → Type 0
IsDumpOf m out = IsWrittenOf m dump_text out

-- The same, after these lines in a new session.
pub record IsDumped (code : Code) (s : State) (lines : List (List ℕ)) (out : List ℕ) : Type 0 where
  pub replies : List ℕ
  pub end : Situation
  pub leads : Leads (situation_without_run code s) lines replies end
  pub dump : IsDumpOf end out
