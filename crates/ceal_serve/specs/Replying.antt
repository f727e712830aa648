-- Replies to lines, one after another.
use Rattle.std.specs.Prelude.{◌≡◌, ℕ, true, false, List, ◌++◌}
use Rattle.ceal_lex.specs.Parts.{IsBeforeLine}
use Rattle.ceal_session.specs.Replies.{Leads, situation_without_run}
use Rattle.ceal_session.specs.Consistency.{IsIn}
use Rattle.ceal_session.specs.State.{Situation}
use Rattle.ceal_cli.specs.Lines.{script_lines}
use Rattle.ceal_cli.specs.Output.{Programmed, first_state}
use Rattle.ceal_cli.specs.ServedLines.{Serves}
use Rattle.ceal_serve.specs.Exchange.{Exchange}
use Rattle.ceal_serve.specs.Turns.{Headed, IsWithinReply}

-- The text is complete lines, and to those of its script this was said; the session is in the situation after them.
pub record Follows (fuel : ℕ) (text said : List ℕ) (session : Situation) : Type 0 where
  pub parts : Headed false text
  pub program : Programmed parts.head
  pub complete : IsBeforeLine text
  pub front : List (List ℕ)
  pub lines : (more : List ℕ) → script_lines (parts.script ++ more) ≡ front ++ script_lines more
  pub end : Situation
  pub leads : Leads (situation_without_run program.code (first_state program fuel)) front said end
  pub is_in : IsIn session end

-- So it is, and the rest was heard after it, and not yet the end.
pub record IsAt (rest : List ℕ) (session : Situation) (e : Exchange) : Type 0 where
  pub text : List ℕ
  pub heard : e.heard ≡ text ++ rest
  pub going : e.ended ≡ false
  pub follows : Follows e.fuel text e.said session

-- So it is, and the rest is the last line, after which there is nothing to hear.
pub record IsLast (rest : List ℕ) (session : Situation) (e : Exchange) : Type 0 where
  pub text : List ℕ
  pub heard : e.heard ≡ text ++ rest
  pub ended : e.ended ≡ true
  pub follows : Follows e.fuel text e.said session

-- Whatever a session answers the line by is the next reply, of which nothing was said yet.
unfoldable pub Owes : Situation → List ℕ → Exchange → Type 0
Owes session line e = (text : List ℕ) (next : Situation) → Serves session line text next → IsWithinReply text e
