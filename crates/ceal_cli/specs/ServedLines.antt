-- What a session has answered line by line, and what a sink has of it.
use Rattle.std.specs.Prelude.{◌≡◌, ◌⊎◌, List, [], ◌∷◌, ◌++◌, ℕ, Option, Result, IsErrOf}
use Rattle.ceal_base.specs.declared.recorded.Record.{Record}
use Rattle.ceal_dump.specs.DumpText.{IsDump}
use Rattle.ceal_io.specs.declared.streams.Stopped.{Stopped}
use Rattle.ceal_io.specs.declared.streams.Stopped.TheVariants.{Memory}
use Rattle.ceal_session.specs.Questions.{IsReady}
use Rattle.ceal_session.specs.AfterLine.{IsAfterLine}
use Rattle.ceal_session.specs.RunRecord.{IsRecorded}
use Rattle.ceal_session.specs.Replies.{Answers}
use Rattle.ceal_session.specs.SessionSave.{IsSaved}
use Rattle.ceal_session.specs.State.{Situation, numbers_in}
use Rattle.ceal_snap.specs.SaveText.{Save, save_text, IsSave}
use Rattle.ceal_theory.specs.Pasts.{goes}
use Rattle.ceal_cli.specs.Dumps.{no_run_text}
use Rattle.ceal_cli.specs.SinkGrowth.{Grows, WritesFirst}
use Rattle.ceal_cli.specs.Output.{IsPrefix, IsRunLine}
use Rattle.ceal_cli.specs.Saves.{with_source}
use Rattle.ceal_cli.specs.declared.words.Mode.{Mode}
use Rattle.ceal_cli.specs.declared.words.Mode.TheVariants.{Run}

-- A session answers the line by the text, and this is left of it.
pub record Serves (m : Situation) (line text : List ℕ) (n : Situation) : Type 0 where
  pub answers : Answers m.state (numbers_in m) (goes n.past) line text n.state
  pub repairs : IsAfterLine m line n

-- A session answers the lines, one after another, by these bytes.
unfoldable pub AreServed : Situation → List (List ℕ) → List ℕ → Type 0
AreServed m [] out = out ≡ []
AreServed m (line ∷ lines) out =
    (text : List ℕ) × (next : Situation) × (rest : List ℕ) × Serves m line text next
    × AreServed next lines rest × (out ≡ text ++ rest)

-- The text begins them: it is the replies to the first of the lines, and the beginning of the next one.
unfoldable pub BeginServed : Situation → List (List ℕ) → List ℕ → Type 0
BeginServed m [] out = out ≡ []
BeginServed m (line ∷ lines) out =
    (out ≡ [])
    ⊎ (text : List ℕ) × (next : Situation) × Serves m line text next
    × (IsPrefix out text ⊎ (rest : List ℕ) × (out ≡ text ++ rest) × BeginServed next lines rest)

-- The text is the replies to the first of the lines, each of them whole.
abbrev pub FirstAreServed : Situation → List (List ℕ) → List ℕ → Type 0
FirstAreServed m lines out =
    (front : List (List ℕ)) × (back : List (List ℕ)) × (lines ≡ front ++ back) × AreServed m front out

-- Where memory ran out in a call that replies to a script, and it was not the sink that had none, the replies to the
-- first lines were written, each of them whole.
abbrev pub StopsBetween
    : {A : Type 0} → Result A Stopped → Type 0 → Option (List ℕ) → Option (List ℕ) → Mode → List ℕ → Type 0
StopsBetween result takes_memory old now mode input =
    IsErrOf result Memory → ¬ takes_memory → (fuel : ℕ) → mode ≡ Run fuel → WritesFirst old now fuel input

-- by the replies to lines
abbrev pub WritesReplies
    : Option (List ℕ) → Option (List ℕ) → Situation → List (List ℕ) → Type 0
WritesReplies old now m lines = Grows old now (λ out. AreServed m lines out)

abbrev pub BeginsToReply
    : Option (List ℕ) → Option (List ℕ) → Situation → List (List ℕ) → Type 0
BeginsToReply old now m lines = Grows old now (λ out. BeginServed m lines out)

-- A session answers the lines, and the text is the replies from that of the first run on.
unfoldable pub AreServedFromRun : Situation → List (List ℕ) → List ℕ → Type 0
AreServedFromRun m [] out = out ≡ []
AreServedFromRun m (line ∷ lines) out =
    (IsRunLine line × AreServed m (line ∷ lines) out)
    ⊎ ((¬ IsRunLine line) × (text : List ℕ) × (next : Situation)
    × Serves m line text next × AreServedFromRun next lines out)

-- The text begins them.
unfoldable pub BeginServedFromRun : Situation → List (List ℕ) → List ℕ → Type 0
BeginServedFromRun m [] out = out ≡ []
BeginServedFromRun m (line ∷ lines) out =
    (out ≡ [])
    ⊎ ((IsRunLine line × BeginServed m (line ∷ lines) out)
    ⊎ ((¬ IsRunLine line) × (text : List ℕ) × (next : Situation)
    × Serves m line text next × BeginServedFromRun next lines out))

-- by the replies to lines from the first run on
abbrev pub WritesFromRun
    : Option (List ℕ) → Option (List ℕ) → Situation → List (List ℕ) → Type 0
WritesFromRun old now m lines = Grows old now (λ out. AreServedFromRun m lines out)

abbrev pub BeginsFromRun
    : Option (List ℕ) → Option (List ℕ) → Situation → List (List ℕ) → Type 0
BeginsFromRun old now m lines = Grows old now (λ out. BeginServedFromRun m lines out)

-- the text is the reply to a line, and this is left
abbrev pub IsReply : Situation → List ℕ → Situation → List ℕ → Type 0
IsReply m line next text = Serves m line text next

-- by the reply to a line
abbrev pub WritesReply
    : Option (List ℕ) → Option (List ℕ) → Situation → List ℕ → Situation → Type 0
WritesReply old now m line next = Grows old now (λ out. Serves m line out next)

-- The text begins the reply to a line.
abbrev pub BeginsReply : Situation → List ℕ → List ℕ → Type 0
BeginsReply m line out =
    (out ≡ []) ⊎ (text : List ℕ) × (next : Situation) × Serves m line text next × IsPrefix out text

abbrev pub WritesPart : Option (List ℕ) → Option (List ℕ) → Situation → List ℕ → Type 0
WritesPart old now m line = Grows old now (λ out. BeginsReply m line out)

-- The lines are carried out, one after another, and the session is left so.
unfoldable pub Carries : Situation → List (List ℕ) → Situation → Type 0
Carries m [] n = n ≡ m
Carries m (line ∷ lines) n =
    (text : List ℕ) × (next : Situation) × Serves m line text next × Carries next lines n

-- The text is the dump of the session's record, or says that there is none.
abbrev pub IsDumpFrom : Situation → List ℕ → Type 0
IsDumpFrom m out =
    ((¬ IsReady m.state) × (out ≡ no_run_text))
    ⊎ ((r : Record) × IsRecorded m r × IsDump out r)

-- The text is the session's save, after the source part, or says that there is none.
abbrev pub IsSaveFrom : List ℕ → Situation → List ℕ → Type 0
IsSaveFrom source m out =
    ((¬ IsReady m.state) × (out ≡ no_run_text))
    ⊎ ((s : Save) × IsSaved m s × IsSave (save_text s) s × (out ≡ with_source source s))

-- A text of this sort is written of the session after the lines.
pub record IsAfterLines
    (P : Situation → List ℕ → Type 0) (m : Situation) (lines : List (List ℕ)) (out : List ℕ) : Type 0 where
  pub end : Situation
  pub carries : Carries m lines end
  pub is : P end out

abbrev pub IsDumpAfterLines : Situation → List (List ℕ) → List ℕ → Type 0
IsDumpAfterLines m lines out = IsAfterLines IsDumpFrom m lines out

abbrev pub IsSaveAfterLines : List ℕ → Situation → List (List ℕ) → List ℕ → Type 0
IsSaveAfterLines source m lines out = IsAfterLines (IsSaveFrom source) m lines out
