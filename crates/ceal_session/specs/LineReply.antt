-- How a line is answered.
use Rattle.std.specs.Prelude.{◌≡◌, ℕ, Bool, Option, List}
use Rattle.ceal_script.specs.declared.command.Command.{Command}
use Rattle.ceal_session.specs.Replies.{Reads}
use Rattle.ceal_session.specs.State.{State}
use Rattle.ceal_session.specs.Steps.{step_of_line}
use Rattle.ceal_session.specs.declared.reply.Reply.{Reply}

-- The line has this reply, where `more` says whether a repair is in progress after it; the state after it is `next`.
pub record HasReply (s : State) (more : Bool) (line : List ℕ) (reply : Reply) (next : State) : Type 0 where
  pub command : Option Command
  pub reads : Reads line command
  pub told : reply ≡ (step_of_line s more command).reply
  pub state : next ≡ (step_of_line s more command).state
