-- A session is in a situation after each of its calls.
use Rattle.std.proofs.Common.{◌≡◌, ℕ, ℤ, inl, inr, Result, Ok, Err, IfOk, OnOk, List, sym, subst}
use Rattle.std.specs.Prelude.{OnErr}
use Rattle.ceal_base.specs.declared.no_memory.NoMemory.{NoMemory}
use Rattle.ceal_base.specs.declared.word.Word.TheVariants.{Num}
use Rattle.ceal_session.specs.AfterLine.{IsAfterLine, IsAfterNoMemory, KeepsRuns}
use Rattle.ceal_session.specs.Consistency.{IsIn, IsInSome}
use Rattle.ceal_session.specs.Laws.{AnswersIn, DroppedLaw, KeptEditLaw, KeptLaw}
use Rattle.ceal_session.specs.Replies.{Answers}
use Rattle.ceal_session.specs.SessionState.{Held, situation}
use Rattle.ceal_session.specs.State.{Situation, State, numbers_in}
use Rattle.ceal_session.specs.Steps.{call_of, step_of_set}
use Rattle.ceal_session.specs.Values.{sense_of_handle}
use Rattle.ceal_session.specs.declared.handle.Handle.{Handle}
use Rattle.ceal_session.specs.declared.reply.Reply.TheVariants as reply
use Rattle.ceal_session.specs.declared.sense.Sense.TheVariants.{Word as IsWord}
use Rattle.ceal_theory.specs.Pasts.{goes}

-- after a line
pub after-answer : KeptLaw → DroppedLaw → (old new : Held) → IsInSome (situation old) → (line : List ℕ) (r : Result (List ℕ) NoMemory)
    → IfOk r (λ text. Answers old.state (numbers_in (situation old)) (goes (situation new).past) line text new.state)
    → OnOk r (IsAfterLine (situation old) line (situation new)) → OnErr r (IsAfterNoMemory (situation old) line (situation new)) → IsInSome (situation new)
after-answer kept dropped old new h line (Ok text) a after left = let k = kept (situation old) (situation new) h.0 line text h.1 a after in (k.next, k.is_in)
after-answer kept dropped old new h line (Err e) a after left = elim left [
  | inl same ↦ subst IsInSome (sym same) h
  | inr d ↦
      let runs = subst (λ (s : State). call_of s d.command ≡ Ok d.call) h.1.state d.runs in
      subst IsInSome (sym d.left) (_, dropped (situation old) h.0 d.command d.call h.1 runs)
]

-- in each situation that it is in it answers as is said there
pub answers-in : KeptLaw → (old new : Held) (line : List ℕ) (r : Result (List ℕ) NoMemory)
    → IfOk r (λ text. Answers old.state (numbers_in (situation old)) (goes (situation new).past) line text new.state)
    → OnOk r (IsAfterLine (situation old) line (situation new)) → IfOk r (λ text. (m : Situation) → IsIn (situation old) m → AnswersIn m line text (situation new))
answers-in kept old new line (Ok text) a after = λ m h. kept (situation old) (situation new) m line text h a after
answers-in kept old new line (Err e) a after = tt

-- after an edit by a handle
pub after-edit : {A E : Type 0} → KeptEditLaw → (old new : Held) → IsInSome (situation old) → (h : Handle) (number : ℤ) (r : Result A E)
    → OnOk r (record { reply = reply.Ok; state = new.state } ≡ step_of_set old.state (sense_of_handle old.state h) (IsWord (Num number)))
    → OnOk r (KeepsRuns (situation old) (situation new)) → OnErr r (new ≡ old) → IsInSome (situation new)
after-edit kept old new s h number (Ok x) set keeps err = let k = kept (situation old) (situation new) s.0 h number s.1 (record { set = set; keeps = keeps }) in (k.next, k.is_in)
after-edit kept old new s h number (Err e) set keeps err = subst (λ (k : Held). IsInSome (situation k)) (sym err) s
