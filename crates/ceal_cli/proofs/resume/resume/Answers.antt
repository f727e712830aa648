use Rattle.std.proofs.Common.{rules, inr, Ok, refl}
use Rattle.ceal_session.specs.SessionState.{situation}
use Rattle.ceal_cli.specs.Output.{IsOutput}
use Rattle.ceal_cli.specs.Resumed.{unreadable_save, not_holding}
use Rattle.ceal_cli.specs.declared.words.Mode.TheVariants.{Resume}
use Rattle.ceal_cli.proofs.Sessions.GrowingReplies.{writes_text}
use Rattle.ceal_cli.proofs.Outputs.ResumedOutput.{is-unreadable, is-unsound, replied, taken}
use Rattle.ceal_cli.proofs.Inputs.AnswerOrRefusal.{not-refused}
use Rattle.ceal_cli.proofs.resume.resume.Goals as goal

-- the session was restored, and the sink took a part of its replies
pub returns-in_err-told-in-Ok-clause-writes : goal.returns-in_err-told-in-Ok-clause-writes
returns-in_err-told-in-Ok-clause-writes g c =
    let w = replied c.args.input.bytes.now c.args.input.part c.requires.split c.args.program c.requires.program c.requires.compiled c.script-bytes.result.now c.script-bytes.ensures
    c.split-part.result c.split-part.ensures.parts (situation c.in-Ok.session) c.in-Ok.ensures.session c.reply_all-told.result
    (g.K.Sink.written c.args.sink.now) (g.K.Sink.written c.reply_all-told.new.sink) (g.K.Sink.faults c.args.sink.now) (g.K.Sink.faults c.reply_all-told.new.sink)
    c.kept_line.ensures.law c.some_reply.ensures.script
    (rw (← c.script.ensures, ← c.new.ensures) c.reply_all-told.ensures.writes) in
    record { all = search rules; part = w.part; fault = search rules; later = w.later }

-- the session was restored, and its replies are written
pub returns-in_ok-told-in-Ok-clause-writes : goal.returns-in_ok-told-in-Ok-clause-writes
returns-in_ok-told-in-Ok-clause-writes g c =
    let w = replied c.args.input.bytes.now c.args.input.part c.requires.split c.args.program c.requires.program c.requires.compiled c.script-bytes.result.now c.script-bytes.ensures
    c.split-part.result c.split-part.ensures.parts (situation c.in-Ok.session) c.in-Ok.ensures.session (Ok tt)
    (g.K.Sink.written c.args.sink.now) (g.K.Sink.written c.reply_all-told.new.sink) (g.K.Sink.faults c.args.sink.now) (g.K.Sink.faults c.reply_all-told.new.sink)
    c.kept_line.ensures.law c.some_reply.ensures.script
    (rw (← c.script.ensures, ← c.new.ensures) c.in_ok-told-in-Ok.ensures.writes) in
    record { all = w.all; part = w.part; fault = search rules; later = w.later }

-- the save holds, so the lines after it are answered
pub returns-in_ok-told-in-Ok-clause-taken : goal.returns-in_ok-told-in-Ok-clause-taken
returns-in_ok-told-in-Ok-clause-taken g c = (
  (λ _. taken c.args.input.bytes.now c.args.input.part c.requires.split c.args.program c.requires.program c.requires.compiled c.script-bytes.result.now c.script-bytes.ensures
      c.split-part.result c.split-part.ensures.parts (situation c.in-Ok.session) c.in-Ok.ensures.session),
  λ _. refl,
)

-- the save is unreadable, and the sink took a part of the line that says so
pub returns-in_err-write_all-in-Err-Unreadable-clause-writes : goal.returns-in_err-write_all-in-Err-Unreadable-clause-writes
returns-in_err-write_all-in-Err-Unreadable-clause-writes g c =
    let why = rw c.in-Err-Unreadable.field-0-is at c.in-Err-Unreadable.ensures.unreadable in
    let w = writes_text c.write_all.result _ _ _ _ (IsOutput Resume c.args.input.bytes.now) unreadable_save
    (inr (is-unreadable c.args.input.bytes.now c.args.input.part c.requires.split c.args.program c.requires.program c.requires.compiled c.script-bytes.result.now c.script-bytes.ensures (why refl)))
    c.write_all.ensures.all c.write_all.ensures.prefix c.write_all.ensures.fault c.write_all.ensures.later in
    record { all = search rules; part = w.part; fault = search rules; later = w.later }

-- the save is unreadable, and the line says so
pub returns-in_ok-write_all-in-Err-Unreadable-clause-writes : goal.returns-in_ok-write_all-in-Err-Unreadable-clause-writes
returns-in_ok-write_all-in-Err-Unreadable-clause-writes g c =
    let why = rw c.in-Err-Unreadable.field-0-is at c.in-Err-Unreadable.ensures.unreadable in
    let w = writes_text _ _ _ _ _ (IsOutput Resume c.args.input.bytes.now) unreadable_save
    (inr (is-unreadable c.args.input.bytes.now c.args.input.part c.requires.split c.args.program c.requires.program c.requires.compiled c.script-bytes.result.now c.script-bytes.ensures (why refl)))
    c.in_ok-write_all-in-Err-Unreadable.ensures.all c.in_ok-write_all-in-Err-Unreadable.ensures.prefix
    c.in_ok-write_all-in-Err-Unreadable.ensures.fault c.in_ok-write_all-in-Err-Unreadable.ensures.later in
    record { all = w.all; part = w.part; fault = search rules; later = w.later }

-- the save does not hold, and the sink took a part of the line that says so
pub returns-in_err-write_all-in-Err-Unsound-clause-writes : goal.returns-in_err-write_all-in-Err-Unsound-clause-writes
returns-in_err-write_all-in-Err-Unsound-clause-writes g c =
    let why = rw c.in-Err-Unsound.field-0-is at c.in-Err-Unsound.ensures.unsound in
    let w = writes_text c.write_all-in-Err-Unsound.result _ _ _ _ (IsOutput Resume c.args.input.bytes.now) not_holding
    (inr (is-unsound c.args.input.bytes.now c.args.input.part c.requires.split c.args.program c.requires.program c.requires.compiled c.script-bytes.result.now c.script-bytes.ensures (why refl)))
    c.write_all-in-Err-Unsound.ensures.all c.write_all-in-Err-Unsound.ensures.prefix c.write_all-in-Err-Unsound.ensures.fault c.write_all-in-Err-Unsound.ensures.later in
    record { all = search rules; part = w.part; fault = search rules; later = w.later }

-- the save does not hold, and the line says so
pub returns-in_ok-write_all-in-Err-Unsound-clause-writes : goal.returns-in_ok-write_all-in-Err-Unsound-clause-writes
returns-in_ok-write_all-in-Err-Unsound-clause-writes g c =
    let why = rw c.in-Err-Unsound.field-0-is at c.in-Err-Unsound.ensures.unsound in
    let w = writes_text _ _ _ _ _ (IsOutput Resume c.args.input.bytes.now) not_holding
    (inr (is-unsound c.args.input.bytes.now c.args.input.part c.requires.split c.args.program c.requires.program c.requires.compiled c.script-bytes.result.now c.script-bytes.ensures (why refl)))
    c.in_ok-write_all-in-Err-Unsound.ensures.all c.in_ok-write_all-in-Err-Unsound.ensures.prefix c.in_ok-write_all-in-Err-Unsound.ensures.fault c.in_ok-write_all-in-Err-Unsound.ensures.later in
    record { all = w.all; part = w.part; fault = search rules; later = w.later }

-- the save does not hold, so none of the lines is answered
pub returns-in_ok-write_all-in-Err-Unsound-clause-taken : goal.returns-in_ok-write_all-in-Err-Unsound-clause-taken
returns-in_ok-write_all-in-Err-Unsound-clause-taken g c =
    let why = rw c.in-Err-Unsound.field-0-is at c.in-Err-Unsound.ensures.unsound in (
      (λ t. absurd (cc t)),
      λ h. absurd (not-refused c.one_split.ensures c.one_answer.ensures.law c.one_code.ensures.law c.one_save_law.ensures.law Resume c.args.input.bytes.now not_holding h
          (is-unsound c.args.input.bytes.now c.args.input.part c.requires.split c.args.program c.requires.program c.requires.compiled c.script-bytes.result.now c.script-bytes.ensures (why refl))),
    )
