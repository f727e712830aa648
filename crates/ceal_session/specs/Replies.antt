-- The replies to the lines of a script. The situations between the lines are the definition's: after each
-- line, the state that the plain meaning of the source gives, run again on the edited inputs, and what
-- change propagation over the program's code has left. A line is answered only by the state, but for `work`
-- and `bound`, which tell the numbers of the situation, and for `propagate READS`, which is answered `more`
-- where a repair is in progress after it. Whatever is written of a script speaks of these two relations, `Replies`
-- and `Leads`: its replies, the dump and the save after it, the replies of one of many sessions, and those
-- of a session that is resumed.
use Rattle.std.specs.Prelude.{◌≡◌, ℕ, Bool, Option, Some, None, List, [], ◌∷◌, ◌++◌}
use Rattle.ceal_code.specs.Program.{Code}
use Rattle.ceal_script.specs.Lines.{IsLineOf}
use Rattle.ceal_script.specs.declared.command.Command.{Command}
use Rattle.ceal_theory.specs.Pasts.{NoTrace, goes}
use Rattle.ceal_session.specs.State.{State, Situation, Numbers, numbers_in}
use Rattle.ceal_session.specs.Steps.{step_of_line}
use Rattle.ceal_session.specs.Texts.{IsText}
use Rattle.ceal_session.specs.Works.{past_in, bound_in}

-- The line is this command's, or no command's.
abbrev pub Reads : List ℕ → Option Command → Type 0
Reads line (Some command) = IsLineOf command line
Reads line None = (command : Command) → IsLineOf command line → ⊥

-- The line is answered by the text, where these are the latest numbers, and `more` says whether a repair is in
-- progress after the line; the state after it is `next`.
pub record Answers (s : State) (numbers : Numbers) (more : Bool) (line text : List ℕ) (next : State) : Type 0 where
  pub command : Option Command
  pub reads : Reads line command
  pub reply : IsText s numbers (step_of_line s more command).reply text
  pub state : next ≡ (step_of_line s more command).state

-- nothing was run
abbrev pub situation_without_run : Code → State → Situation
situation_without_run code s = record { state = s; code = code; past = NoTrace; bound = 0 }

-- the situation after a line of this command, or of none
abbrev pub situation_after : Situation → Option Command → Situation
situation_after m command = record {
  state = (step_of_line m.state (goes (past_in m command)) command).state;
  code = m.code;
  past = past_in m command;
  bound = bound_in m command;
}

-- The line is answered by the text, and the situation after it is the other one.
pub record Replies (m : Situation) (line text : List ℕ) (n : Situation) : Type 0 where
  pub command : Option Command
  pub reads : Reads line command
  pub reply : IsText m.state (numbers_in m) (step_of_line m.state (goes (past_in m command)) command).reply text
  pub next : n ≡ situation_after m command

-- The lines are answered, one after another, by these bytes, and the situation after them is the other one.
unfoldable pub Leads : Situation → List (List ℕ) → List ℕ → Situation → Type 0
Leads m [] out n = (out ≡ []) × (n ≡ m)
Leads m (line ∷ lines) out n =
    (text : List ℕ) × (mid : Situation) × (rest : List ℕ) × Replies m line text mid × Leads mid lines rest n
    × (out ≡ text ++ rest)

-- The replies to a script, from a state where nothing was run, are these bytes.
pub record IsReplied (code : Code) (s : State) (lines : List (List ℕ)) (out : List ℕ) : Type 0 where
  pub end : Situation
  pub leads : Leads (situation_without_run code s) lines out end
