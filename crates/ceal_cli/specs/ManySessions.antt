-- What many sessions write.
use Rattle.std.specs.Prelude.{◌≡◌, ℕ, List, [], ◌∷◌, ◌++◌}
use Rattle.ceal_code.specs.Program.{Code}
use Rattle.ceal_many.specs.Replies.{AreReplies}
use Rattle.ceal_many.specs.Sessions.{Named}
use Rattle.ceal_session.specs.Replies.{situation_without_run, Replies}
use Rattle.ceal_session.specs.State.{State, Situation}

abbrev pub Text : Type 0
Text = List ℕ

-- one text after another
abbrev pub joined_texts : List Text → Text
joined_texts [] = []
joined_texts (text ∷ texts) = text ++ joined_texts texts

-- The lines are answered by these bytes: each by the session that it names, which begins in the first
-- situation.
pub record AreTold
    (first : Situation) (sessions : List (Named Situation)) (lines : List Text) (out : Text) : Type 0 where
  pub texts : List Text
  pub next : List (Named Situation)
  pub replies : AreReplies Replies first sessions lines texts next
  pub whole : out ≡ joined_texts texts

-- So it is from no session on, where a session begins with no inputs and no run.
abbrev pub AreManyReplies : Code → State → List Text → Text → Type 0
AreManyReplies code s lines out = AreTold (situation_without_run code s) [] lines out
