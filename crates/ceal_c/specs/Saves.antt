-- Saves, from memory to memory.
use Rattle.std.specs.Prelude.{◌≡◌, ◌<◌, ℕ, Option, List, [], length}
use Rattle.ceal_compile.specs.Compiled.{IsCompiled}
use Rattle.ceal_compile.specs.Source.{IsProgram}
use Rattle.ceal_compile.specs.declared.program.Program.{Program}
use Rattle.ceal_session.specs.Questions.{IsReady}
use Rattle.ceal_session.specs.SessionSave.{IsResumed, IsSaved, SaveHolds}
use Rattle.ceal_session.specs.SessionState.{Held, situation}
use Rattle.ceal_snap.specs.SaveText.{Save, IsSave}
use Rattle.ceal_c.specs.Calls.{BeginsFrom, Faults}
use Rattle.ceal_c.specs.declared.open.Open.{Open}
use Rattle.ceal_c.specs.declared.status.Status.{Status}
use Rattle.ceal_c.specs.declared.status.Status.TheVariants.{Done, NoMemory, Fault as IsFault, TooLong, NotReady}
use Rattle.ceal_c.specs.declared.status.Status.TheVariants.{Unreadable, Unsound}

-- the text is that of the session's save
pub record IsSaveOf (session : Held) (text : List ℕ) : Type 0 where
  pub save : Save
  pub saved : IsSaved (situation session) save
  pub is : IsSave text save

-- why a session was not saved
abbrev pub SavesNot : Held → Status → Type 0
SavesNot session NotReady = IsReady session.state → ⊥
SavesNot session NoMemory = Unit {0}
SavesNot session status = ⊥

-- a session was saved, and the text of the save is kept as its reply; or it was not
abbrev pub HasSaved : Open → Status → Open → Type 0
HasSaved old Done new = IsSaveOf old.session new.reply × (new.session ≡ old.session)
HasSaved old status new = SavesNot old.session status × (new ≡ old)

-- the bytes are a save that holds for the program, and the session continues from it
pub record Continues (program : Program) (bytes : List ℕ) (session : Held) : Type 0 where
  pub save : Save
  pub is : IsSave bytes save
  pub holds : SaveHolds program.code save
  pub resumed : IsResumed program save (situation session)

-- the bytes are a save that does not hold for the program
pub record IsUnsound (program : Program) (bytes : List ℕ) : Type 0 where
  pub save : Save
  pub is : IsSave bytes save
  pub not : SaveHolds program.code save → ⊥

-- why no session of the program continues
abbrev pub ContinuesNot : Program → List ℕ → Status → Type 0
ContinuesNot program bytes Unreadable = (save : Save) → IsSave bytes save → ⊥
ContinuesNot program bytes Unsound = IsUnsound program bytes
ContinuesNot program bytes NoMemory = Unit {0}
ContinuesNot program bytes status = ⊥

-- a session of the program of the source, which continues from the save, and no reply
pub record Resumes (source bytes : List ℕ) (new : Open) : Type 0 where
  pub program : Program
  pub found : IsProgram source program.typed
  pub compiled : IsCompiled program
  pub continues : Continues program bytes new.session
  pub reply : new.reply ≡ []

-- the save does not hold for the program of the source
pub record IsUnsoundFor (source bytes : List ℕ) : Type 0 where
  pub program : Program
  pub found : IsProgram source program.typed
  pub compiled : IsCompiled program
  pub unsound : IsUnsound program bytes

-- why no session was resumed
abbrev pub ResumesNot : List ℕ → List ℕ → List ℕ → Status → List ℕ → Type 0
ResumesNot source bytes before IsFault text = Faults source (length before) text
ResumesNot source bytes before TooLong text = (4194304 < length source) × (text ≡ before)
ResumesNot source bytes before Unreadable text = ((save : Save) → IsSave bytes save → ⊥) × (text ≡ before)
ResumesNot source bytes before Unsound text = IsUnsoundFor source bytes × (text ≡ before)
ResumesNot source bytes before NoMemory text = text ≡ before
ResumesNot source bytes before status text = ⊥

-- resuming a save
abbrev pub ResumesFrom : Option Open → List ℕ → List ℕ → List ℕ → ℕ → List ℕ → Option Open → Type 0
ResumesFrom old source bytes before number text new =
    BeginsFrom (Resumes source bytes) (ResumesNot source bytes before) old before number text new
