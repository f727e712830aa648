-- The replies to a script, by the plain meaning of the source and a list of entries: for each line that runs,
-- its numbers, or that a repair is in progress, or that it was out of fuel. Nothing else of the compiler and of
-- trace repair comes into the text.
use Rattle.std.specs.Prelude.{◌≡◌, ℕ, Bool, true, false, Option, Result, Ok, Err, List, [], ◌∷◌, ◌++◌}
use Rattle.ceal_base.specs.declared.call.Call.{Call}
use Rattle.ceal_script.specs.declared.command.Command.{Command}
use Rattle.ceal_theory.specs.Pasts.{Past, NoTrace, Traced, Going}
use Rattle.ceal_session.specs.Replies.{Reads, Answers, Leads, situation_after}
use Rattle.ceal_session.specs.Consistency.{IsConsistent}
use Rattle.ceal_session.specs.State.{State, Situation, Numbers, numbers_in}
use Rattle.ceal_session.specs.Works.{call_in, past_in, bound_in}
use Rattle.ceal_session.specs.declared.refusal.Refusal.{Refusal}

-- what the text of the replies uses of a line that runs
pub data Entry : Type 0 where
  Counted : (numbers : Numbers) → Entry
  More : Entry
  Out : Entry

-- the entry of a line after which this is left of runs, with its bound
abbrev pub entry_of : Past → ℕ → Entry
entry_of NoTrace bound = Out
entry_of (Traced l) bound = Counted (record { work = l.work; bound = bound })
entry_of (Going r) bound = More

-- a line that runs has an entry, and no other line has one
abbrev pub entries_by : Result Call Refusal → Entry → List Entry
entries_by (Err r) entry = []
entries_by (Ok call) entry = entry ∷ []

abbrev pub entries_in : Situation → Option Command → List Entry
entries_in m command = entries_by (call_in m.state command) (entry_of (past_in m command) (bound_in m command))

-- The entries are read off the situations after the lines, one line after another.
unfoldable pub AreEntries : Situation → List (List ℕ) → List Entry → Type 0
AreEntries m [] entries = entries ≡ []
AreEntries m (line ∷ lines) entries =
    (command : Option Command) × (later : List Entry) × Reads line command
    × AreEntries (situation_after m command) lines later × (entries ≡ entries_in m command ++ later)

-- whether a repair is in progress after the line of the first entry
abbrev pub begins_with_more : List Entry → Bool
begins_with_more (More ∷ later) = true
begins_with_more (Counted numbers ∷ later) = false
begins_with_more (Out ∷ later) = false
begins_with_more [] = false

-- the latest numbers, and the entries that are still to come, after a line
pub record Told : Type 0 where
  pub latest : Numbers
  pub coming : List Entry

abbrev pub told_after_run : Numbers → List Entry → Told
told_after_run latest [] = record { latest = latest; coming = [] }
told_after_run latest (Counted numbers ∷ later) = record { latest = numbers; coming = later }
told_after_run latest (More ∷ later) = record { latest = latest; coming = later }
told_after_run latest (Out ∷ later) = record { latest = latest; coming = later }

abbrev pub told_after : Result Call Refusal → Numbers → List Entry → Told
told_after (Err r) latest entries = record { latest = latest; coming = entries }
told_after (Ok call) latest entries = told_after_run latest entries

-- The text that the plain meaning of the source gives to the lines, with the latest numbers and the entries to come.
unfoldable pub AreReplies : State → Told → List (List ℕ) → List ℕ → Type 0
AreReplies s told [] out = out ≡ []
AreReplies s told (line ∷ lines) out =
    (text : List ℕ) × (next : State) × (rest : List ℕ)
    × (a : Answers s told.latest (begins_with_more told.coming) line text next)
    × AreReplies next (told_after (call_in s a.command) told.latest told.coming) lines rest × (out ≡ text ++ rest)

-- The replies of lines are this text.
pub record Tells (m : Situation) (lines : List (List ℕ)) (out : List ℕ) : Type 0 where
  pub entries : List Entry
  pub are : AreEntries m lines entries
  pub text : AreReplies m.state (record { latest = numbers_in m; coming = entries }) lines out

abbrev pub EntriesLaw : Type 0
EntriesLaw =
    (m end : Situation) (lines : List (List ℕ)) (out : List ℕ) → IsConsistent m → Leads m lines out end
    → Tells m lines out

-- And the entries and the text are functions of the lines.
abbrev pub OneTextLaw : Type 0
OneTextLaw =
    (s : State) (told : Told) (lines : List (List ℕ)) (a b : List ℕ) → AreReplies s told lines a
    → AreReplies s told lines b → a ≡ b
