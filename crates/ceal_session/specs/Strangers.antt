-- What is believed of a save, whoever wrote it.
use Rattle.std.specs.Prelude.{◌≡◌, ℕ, false, Option, Some, Ok, List, [], ◌∷◌}
use Rattle.ceal_base.specs.Trace.{Trace, flat, steps_in}
use Rattle.ceal_base.specs.declared.call.Call.{Call}
use Rattle.ceal_base.specs.declared.typed.Typed.{Typed}
use Rattle.ceal_code.specs.Program.{Code}
use Rattle.ceal_compile.specs.Compiled.{IsCompiled}
use Rattle.ceal_compile.specs.declared.program.Program.{Program}
use Rattle.ceal_script.specs.declared.command.Command.{Command}
use Rattle.ceal_script.specs.declared.command.Command.TheVariants.{Work, Bound}
use Rattle.ceal_snap.specs.SaveText.{Save}
use Rattle.ceal_theory.specs.Computed.{Repaired, first_of}
use Rattle.ceal_theory.specs.Pasts.{first_past, goes}
use Rattle.ceal_session.specs.Replies.{Reads, Replies, Leads}
use Rattle.ceal_session.specs.SessionSave.{SaveHolds, saved_state, situation_of_save}
use Rattle.ceal_session.specs.Consistency.{IsConsistent}
use Rattle.ceal_session.specs.State.{Situation, numbers_in}
use Rattle.ceal_session.specs.Works.{call_in}

-- the situation of the save with the first trace of its call in the place of its own trace, and the numbers of that
abbrev pub with_first : Typed → Code → Save → Situation
with_first program code s = record {
  state = saved_state program s;
  code = code;
  past = first_past (first_of code s.kept.inputs s.fuel s.kept.function s.kept.args);
  bound = steps_in s.kept.forest;
}

-- a line that asks for `work` or `bound`
abbrev pub AsksNumbers : Option Command → Type 0
AsksNumbers (Some Work) = Unit {0}
AsksNumbers (Some Bound) = Unit {0}
AsksNumbers _ = ⊥

-- the line runs the call, and no repair is in progress after it
pub record Completes (m : Situation) (line : List ℕ) (n : Situation) : Type 0 where
  pub command : Option Command
  pub reads : Reads line command
  pub call : Call
  pub runs : call_in m.state command ≡ Ok call
  pub ends : goes n.past ≡ false

-- The line has the same reply in both, unless it asks for numbers; and after a completed run both have the same ones.
pub record LineAlike (m n : Situation) (line text other : List ℕ) (o p : Situation) : Type 0 where
  pub reply : ((command : Option Command) → Reads line command → AsksNumbers command → ⊥) → text ≡ other
  pub numbers : Completes m line o → numbers_in o ≡ numbers_in p

-- From where both have the same numbers each script has the same replies in both.
abbrev pub AreOne : Situation → Situation → Type 0
AreOne m n = numbers_in m ≡ numbers_in n
    → (lines : List (List ℕ)) (out : List ℕ) (end : Situation) → Leads m lines out end
    → (other : Situation) × Leads n lines out other

-- So it is with the lines one after another.
unfoldable pub AreAlike : Situation → Situation → List (List ℕ) → Type 0
AreAlike m n [] = AreOne m n
AreAlike m n (line ∷ lines) =
    AreOne m n
    × ((text other : List ℕ) (o p : Situation) → Replies m line text o → Replies n line other p
    → LineAlike m n line text other o p × AreAlike o p lines)

-- The first trace of the call is there, its situation is one that a session comes to, and the save's is alike.
pub record AnswersAsFirst (program : Program) (s : Save) (trace : Trace) (lines : List (List ℕ)) : Type 0 where
  pub first : Repaired
  pub is : first_of program.code s.kept.inputs s.fuel s.kept.function s.kept.args ≡ Some first
  pub stands : IsConsistent (with_first program.typed program.code s)
  pub alike : AreAlike (situation_of_save program.typed program.code s trace)
      (with_first program.typed program.code s) lines

-- Of a save that holds nothing but its work and its bound is believed, and these until the next completed run
-- or repair: all other replies are those of a session that has the first trace of the call, and from then on
-- all are.
abbrev pub StrangerLaw : Type 0
StrangerLaw = (program : Program) (s : Save) (trace : Trace) → IsCompiled program → SaveHolds program.code s
    → s.kept.forest ≡ flat trace → (lines : List (List ℕ)) → AnswersAsFirst program s trace lines
