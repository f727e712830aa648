-- What `resume` writes for a save that holds, whoever wrote it.
use Rattle.std.specs.Prelude.{◌≡◌, ℕ, List, [], ◌∷◌}
use Rattle.ceal_session.specs.Replies.{Replies}
use Rattle.ceal_session.specs.SessionSave.{situation_of_save}
use Rattle.ceal_session.specs.State.{Situation, numbers_in}
use Rattle.ceal_session.specs.Strangers.{LineAlike, with_first}
use Rattle.ceal_cli.specs.ManySessions.{joined_texts}
use Rattle.ceal_cli.specs.Output.{IsAnswer}
use Rattle.ceal_cli.specs.Resumed.{lines_after}
use Rattle.ceal_cli.specs.declared.words.Mode.TheVariants.{Resume}

-- Line by line the texts are the replies in the one situation and in the other one, and as much is alike as is
-- believed of a save: all but the numbers before the next completed run. From where both have the same numbers on, all
-- texts are the same.
pub data AreBeside : Situation → Situation → List (List ℕ) → List (List ℕ) → List (List ℕ) → Type 0 where
  none : {m n : Situation} → AreBeside m n [] [] []
  more : {m n o p : Situation} {line text other : List ℕ} {lines texts others : List (List ℕ)}
      → Replies m line text o → Replies n line other p → LineAlike m n line text other o p
      → (numbers_in m ≡ numbers_in n → text ∷ texts ≡ other ∷ others) → AreBeside o p lines texts others
      → AreBeside m n (line ∷ lines) (text ∷ texts) (other ∷ others)

-- So what `resume` writes is the replies of a session that has the first trace of the call, but for those numbers.
abbrev pub StrangerOutputLaw : Type 0
StrangerOutputLaw = (input out : List ℕ) (answer : IsAnswer Resume input out)
    → (texts : List (List ℕ)) × (others : List (List ℕ)) × (out ≡ joined_texts texts)
    × AreBeside (situation_of_save answer.0.program answer.0.code answer.1.from.saved answer.1.trace)
    (with_first answer.0.program answer.0.code answer.1.from.saved) (lines_after answer.1.from) texts others
