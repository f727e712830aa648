-- The laws of records.
use Rattle.std.specs.Prelude.{◌≡◌, List}
use Rattle.ceal_base.specs.Block.{Block}
use Rattle.ceal_base.specs.Trace.{Trace}
use Rattle.ceal_base.specs.declared.call.Call.{Call}
use Rattle.ceal_base.specs.declared.recorded.Record.{Record}
use Rattle.ceal_code.specs.Alike.{Pairs, OneToOne, TraceAlike}
use Rattle.ceal_code.specs.Program.{Code}
use Rattle.ceal_record.specs.Recorded.{IsRecordOf}

-- a trace of a call has one record
abbrev pub OneRecordLaw : Type 0
OneRecordLaw = (code : Code) (inputs : List Block) (call : Call) (l : Trace) (r s : Record)
    → IsRecordOf code inputs call l r → IsRecordOf code inputs call l s → r ≡ s

-- a trace that is another one up to the numbers of core blocks has the same record
abbrev pub RenamedLaw : Type 0
RenamedLaw = (code : Code) (inputs : List Block) (call : Call) (ps : Pairs) (l m : Trace) (r : Record)
    → OneToOne ps → TraceAlike ps l m → IsRecordOf code inputs call m r → IsRecordOf code inputs call l r

-- each trace has a record
abbrev pub SomeRecordLaw : Type 0
SomeRecordLaw =
    (code : Code) (inputs : List Block) (call : Call) (l : Trace) → (r : Record) × IsRecordOf code inputs call l r
