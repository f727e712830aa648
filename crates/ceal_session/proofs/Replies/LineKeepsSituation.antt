-- A line of a session that is in a situation is answered as there, and the session is in the situation after the line.
use Rattle.std.proofs.Common.{◌≡◌, ℕ, Option, Result, Ok, Err, List, refl, sym, ap, ◌∙◌, subst}
use Rattle.ceal_base.specs.Block.{Block}
use Rattle.ceal_base.specs.declared.call.Call.{Call}
use Rattle.ceal_script.specs.declared.command.Command.{Command}
use Rattle.ceal_theory.specs.Pasts.{Past, SamePast, goes}
use Rattle.ceal_session.proofs.Replies.ReplyUpToNumbers.{LineFacts, is-goes, more-same, before-call, ran-past, kept-reply}
use Rattle.ceal_session.specs.AfterLine.{RunsOrKeeps}
use Rattle.ceal_session.specs.Laws.{KeptLaw, OneCommandLaw}
use Rattle.ceal_session.specs.Replies.{Reads, situation_after}
use Rattle.ceal_session.specs.Consistency.{IsConsistent, IsSamePast, IsIn}
use Rattle.ceal_session.specs.State.{State, Situation}
use Rattle.ceal_session.specs.Steps.{step_of_line}
use Rattle.ceal_session.specs.Works.{call_in, reads_in, past_in, past_left, bound_left}
use Rattle.ceal_session.specs.declared.refusal.Refusal.{Refusal}

-- so it is with each line in a situation that a session comes to
abbrev pub FactsLaw : Type 0
FactsLaw = (m : Situation) (line : List ℕ) (command : Option Command) → Reads line command → IsConsistent m → LineFacts m command

-- what both have after the line, by its call
abbrev pub SameBehind : Situation → Option Command → Result Call Refusal → Situation → Type 0
SameBehind m command called new =
    (new.code ≡ m.code)
    × (new.bound ≡ bound_left m.code m.state called (reads_in command) m.past m.bound)
    × IsSamePast m.code (situation_after m command).state.inputs (situation_after m command).state.call (past_left m.code m.state called (reads_in command) m.past) new.past

module _ (facts : FactsLaw) (old new m : Situation) (h : IsIn old m) (line : List ℕ) (command : Option Command) (reads : Reads line command) where
  by-call : (called : Result Call Refusal) → call_in m.state command ≡ called → RunsOrKeeps old called (reads_in command) new → SameBehind m command called new
  by-call (Err r) e g =
      let f = facts m line command reads h.sound in (
        g.code ∙ h.code,
        g.bound ∙ h.bound,
        subst (λ (x : Past). IsSamePast m.code (situation_after m command).state.inputs (situation_after m command).state.call m.past x) (sym g.past)
            (subst (λ (o : Option Call). IsSamePast m.code (situation_after m command).state.inputs o m.past old.past) (sym (f.same_call r e))
            (more-same m.code m.state.inputs (situation_after m command).state.inputs m.state.call f.fits f.fit f.extended m.past old.past h.past)),
      )
  by-call (Ok call) e g =
      let f = facts m line command reads h.sound in
      let b = before-call m.code m.state call m.past old.past (f.before call e) h.sound.past h.past in
      let k = ran-past m old new call (reads_in command) h.code h.state h.bound b.0 b.1 g in (
        g.code ∙ h.code,
        k.1,
        subst (λ (o : Option Call). IsSamePast m.code (situation_after m command).state.inputs o (past_left m.code m.state (Ok call) (reads_in command) m.past) new.past) (sym (f.called call e))
            (subst (λ (i : List Block). SamePast m.code i call.function call.args (past_left m.code m.state (Ok call) (reads_in command) m.past) new.past) (sym (f.inputs call e)) k.0),
      )

pub kept-law : FactsLaw → OneCommandLaw → KeptLaw
kept-law facts command_law old new m line text h a r =
    let command = a.command in
    let same = command_law line r.command command r.reads a.reads in
    let here = subst (λ (c : Option Command). RunsOrKeeps old (call_in old.state c) (reads_in c) new) same r.goes in
    let gone = subst (λ (s : State). RunsOrKeeps old (call_in s command) (reads_in command) new) h.state here in
    let k = by-call facts old new m h line command a.reads (call_in m.state command) refl gone in
    let f = facts m line command a.reads h.sound in
    let on = is-goes m.code (situation_after m command).state.inputs (situation_after m command).state.call (past_in m command) new.past k.2 in
    record {
      next = situation_after m command;
      replies = kept-reply m old new line text h.state h.bound h.past a on;
      is_in = record {
        state = a.state ∙ ap (λ (s : State). (step_of_line s (goes new.past) command).state) h.state
            ∙ ap (λ g. (step_of_line m.state g command).state) (sym on);
        code = k.0;
        bound = k.1;
        sound = f.stands;
        past = k.2;
      };
    }
