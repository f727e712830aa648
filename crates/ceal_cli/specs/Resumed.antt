-- A session that is resumed: what is after the first mark, and what is written.
use Rattle.std.specs.Prelude.{◌≡◌, ◌⊎◌, ℕ, true, List, codes}
use Rattle.ceal_base.specs.Trace.{Trace, flat}
use Rattle.ceal_base.specs.declared.typed.Typed.{Typed}
use Rattle.ceal_code.specs.Program.{Code}
use Rattle.ceal_lex.specs.Parts.{IsSplit, source_of}
use Rattle.ceal_lex.specs.declared.parts.Split.{Split}
use Rattle.ceal_session.specs.Replies.{Leads}
use Rattle.ceal_session.specs.SessionSave.{SaveHolds, situation_of_save}
use Rattle.ceal_session.specs.State.{Situation}
use Rattle.ceal_snap.specs.SaveText.{Save, IsSave}
use Rattle.ceal_cli.specs.Lines.{script_of, script_lines}

-- The bytes after the first mark are a save, a second line `%%`, and a script.
pub record Resumption (bytes : List ℕ) : Type 0 where
  pub part : Split
  pub split : IsSplit bytes part
  pub marked : part.marked ≡ true
  pub saved : Save
  pub is : IsSave (source_of bytes part) saved

-- the lines of the second script
abbrev pub lines_after : {bytes : List ℕ} → Resumption bytes → List (List ℕ)
lines_after {bytes} r = script_lines (script_of bytes r.part)

abbrev pub unreadable_save : List ℕ
unreadable_save = codes "refused V1: unreadable save\n"

abbrev pub not_holding : List ℕ
not_holding = codes "refused V2: save does not hold\n"

-- There is a save after the mark, and it holds.
abbrev pub IsResumable : Code → List ℕ → Type 0
IsResumable code bytes = (r : Resumption bytes) × SaveHolds code r.saved

-- why there is none to continue from
abbrev pub IsNotResumed : Code → List ℕ → List ℕ → Type 0
IsNotResumed code bytes out =
    (¬ Resumption bytes × (out ≡ unreadable_save))
    ⊎ ((r : Resumption bytes) × ¬ SaveHolds code r.saved × (out ≡ not_holding))

-- The replies to the second script, from the situation of the save.
pub record IsRepliedAfter (program : Typed) (code : Code) (bytes out : List ℕ) : Type 0 where
  pub from : Resumption bytes
  pub holds : SaveHolds code from.saved
  pub trace : Trace
  pub items : from.saved.kept.forest ≡ flat trace
  pub end : Situation
  pub leads : Leads (situation_of_save program code from.saved trace) (lines_after from) out end
