-- From the outcome of a run or a repair to the reply.
use Rattle.std.proofs.Common.{◌≡◌, inr, ℕ, Bool, true, false, Option, Some, None, Result, Ok, Err, IfOk, OnOk, is_some, is_none, refl, ap, subst, arith}
use Rattle.std.specs.Prelude.{OnErr}
use Rattle.ceal_base.specs.Finished.{Finished}
use Rattle.ceal_base.specs.declared.call.Call.{Call}
use Rattle.ceal_base.specs.declared.no_memory.NoMemory.{NoMemory}
use Rattle.ceal_engine.specs.declared.phase.Came.TheVariants.{More, Done, Anew}
use Rattle.ceal_engine.specs.declared.run_error.RunError.TheVariants.{Memory, OutOfFuel}
use Rattle.ceal_session.specs.Outcomes.{Outcome, reply_after, SituationAfterOutcome}
use Rattle.ceal_session.specs.AfterLine.{RunsOrKeeps, RunsAsDefined, IsAfterNoMemoryOf}
use Rattle.ceal_session.specs.Runs.{run_of, with_run, with_part}
use Rattle.ceal_session.specs.State.{State, Situation}
use Rattle.ceal_session.specs.Steps.{Step, IsQuiet, call_again, run_reply, runs}
use Rattle.ceal_session.specs.declared.reply.Reply.{Reply}
use Rattle.ceal_theory.specs.Pasts.{goes}

abbrev At : Reply → Situation → Step
At reply n = record { reply = reply; state = n.state }

module _ (m n : Situation) (call : Call) where
  -- a part of a repair, a completed run, and one that is out of fuel
  more-step : (reads : Option ℕ) → is_some reads ≡ true → n.state ≡ with_part m.state → At (run_reply reads true false) n ≡ runs m.state reads true (Ok call)
  more-step None some e = absurd (grind (arith, some))
  more-step (Some k) some e = rw e refl

  done-step : (reads : Option ℕ) (o : Option Finished) → run_of m.state call ≡ o → is_some o ≡ true → n.state ≡ with_run m.state call false
      → At (run_reply reads false false) n ≡ runs m.state reads false (Ok call)
  done-step reads None i some e = absurd (grind (arith, some))
  done-step None (Some f) i some e = rw (i, e) refl
  done-step (Some k) (Some f) i some e = rw (i, e) refl

  out-step : (reads : Option ℕ) → run_of m.state call ≡ None → n.state ≡ with_run m.state call true → At (run_reply reads false true) n ≡ runs m.state reads false (Ok call)
  out-step None i e = rw (i, e) refl
  out-step (Some k) i e = rw (i, e) refl

  module _ (reads : Option ℕ) where
    pub run-ok : (o : Outcome) → SituationAfterOutcome m call reads o n → (r : Result Reply NoMemory) → r ≡ reply_after reads o
        → IfOk r (λ reply. At reply n ≡ runs m.state reads (goes n.past) (Ok call))
    run-ok (Ok More) h r e = rw (e, h.1.going) (more-step reads h.0 h.1.state)
    run-ok (Ok Done) h r e = rw (e, h.1.going) (done-step reads (run_of m.state call) refl h.0 h.1.state)
    run-ok (Ok Anew) h r e = rw (e, h.1.going) (done-step reads (run_of m.state call) refl h.0 h.1.state)
    run-ok (Err OutOfFuel) h r e = rw (e, h.1.going) (out-step reads h.0 h.1.state)
    run-ok (Err Memory) h r e = rw e tt

    pub run-goes : (o : Outcome) → SituationAfterOutcome m call reads o n → (r : Result Reply NoMemory) → r ≡ reply_after reads o → OnOk r (RunsAsDefined m call reads n)
    run-goes (Ok More) h r e = rw e h.1.retraces
    run-goes (Ok Done) h r e = rw e h.1.retraces
    run-goes (Ok Anew) h r e = rw e h.1.retraces
    run-goes (Err OutOfFuel) h r e = rw e h.1.retraces
    run-goes (Err Memory) h r e = rw e tt

    pub run-left : (o : Outcome) → SituationAfterOutcome m call reads o n → (r : Result Reply NoMemory) → r ≡ reply_after reads o → OnErr r (IsAfterNoMemoryOf m (Ok call) n)
    run-left (Ok More) h r e = rw e tt
    run-left (Ok Done) h r e = rw e tt
    run-left (Ok Anew) h r e = rw e tt
    run-left (Err OutOfFuel) h r e = rw e tt
    run-left (Err Memory) h r e = rw e (inr (call, refl, h))

-- so it is with the call that was accepted
module _ (m n : Situation) (outcome : Outcome) (some : is_some m.state.call ≡ true) (r : Result Reply NoMemory) (reads : Option ℕ)
    (h : (call : Call) → m.state.call ≡ Some call → SituationAfterOutcome m call reads outcome n) (e : r ≡ reply_after reads outcome) where
  pub again-ok : IfOk r (λ reply. At reply n ≡ runs m.state reads (goes n.past) (call_again m.state.call))
  again-ok = go m.state.call refl some
    where
      go : (o : Option Call) → m.state.call ≡ o → is_some o ≡ true → IfOk r (λ reply. At reply n ≡ runs m.state reads (goes n.past) (call_again o))
      go None i s = absurd (grind (arith, s))
      go (Some call) i s = run-ok m n call reads outcome (h call i) r e

  pub again-goes : OnOk r (RunsOrKeeps m (call_again m.state.call) reads n)
  again-goes = go m.state.call refl some
    where
      go : (o : Option Call) → m.state.call ≡ o → is_some o ≡ true → OnOk r (RunsOrKeeps m (call_again o) reads n)
      go None i s = absurd (grind (arith, s))
      go (Some call) i s = run-goes m n call reads outcome (h call i) r e

  pub again-left : OnErr r (IsAfterNoMemoryOf m (call_again m.state.call) n)
  again-left = go m.state.call refl some
    where
      go : (o : Option Call) → m.state.call ≡ o → is_some o ≡ true → OnErr r (IsAfterNoMemoryOf m (call_again o) n)
      go None i s = absurd (grind (arith, s))
      go (Some call) i s = run-left m n call reads outcome (h call i) r e

-- after a line that ran a change is kept
run-changes : (reads : Option ℕ) (more out : Bool) → IsQuiet (run_reply reads more out) → ⊥
run-changes None more true h = h
run-changes None more false h = h
run-changes (Some n) true out h = h
run-changes (Some n) false true h = h
run-changes (Some n) false false h = h

pub not-quiet : (s t : State) (reads : Option ℕ) (more : Bool) (call : Call) (reply : Reply) → record { reply = reply; state = t } ≡ runs s reads more (Ok call) → IsQuiet reply → ⊥
not-quiet s t reads more call reply e h = run-changes reads more (is_none (run_of s call)) (subst IsQuiet (ap (λ (step : Step). step.reply) e) h)

pub again-not-quiet : (s t : State) (reads : Option ℕ) (more : Bool) (o : Option Call) → is_some o ≡ true → (reply : Reply) → record { reply = reply; state = t } ≡ runs s reads more (call_again o)
    → IsQuiet reply → ⊥
again-not-quiet s t reads more None some reply e h = absurd (grind (arith, some))
again-not-quiet s t reads more (Some call) some reply e h = not-quiet s t reads more call reply e h
