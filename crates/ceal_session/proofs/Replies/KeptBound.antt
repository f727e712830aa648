-- A session that keeps its bound is in the same situation.
use Rattle.std.proofs.Common.{◌≡◌, inl, ℕ, Bool, List, sym, ap, ◌∙◌, subst}
use Rattle.ceal_base.specs.declared.typed.Typed.{Typed}
use Rattle.ceal_engine.specs.Engine.{EngineState}
use Rattle.ceal_theory.specs.Pasts.{goes}
use Rattle.ceal_session.specs.AfterLine.{IsAfterLine, Bounds, IsAfterNoMemory}
use Rattle.ceal_session.specs.Journal.{JournalState, with_bound}
use Rattle.ceal_session.specs.SessionState.{Held, SessionInvariant, held_of, situation}
use Rattle.ceal_session.specs.Replies.{Answers}
use Rattle.ceal_session.specs.State.{Situation, Numbers}

module _ (program : Typed) (names : List (List ℕ)) (e : EngineState) (j : JournalState) (pending : Bool) (n : ℕ) where
  pub keeps : SessionInvariant program names e j pending → SessionInvariant program names e (with_bound j n) pending
  keeps h = record {
    compiled = h.compiled;
    named = h.named;
    spelled = h.spelled;
    done = h.done;
    edited = h.edited;
    partial = h.partial;
    present = h.present;
    within = h.within;
    settled = h.settled;
    was = h.was;
    measured = tt;
  }

  pub keeps-situation : n ≡ (situation (held_of program names e j pending)).bound
      → situation (held_of program names e (with_bound j n) pending) ≡ situation (held_of program names e j pending)
  keeps-situation same = ap (λ b. record (situation (held_of program names e j pending)) { bound = b }) same

-- an answer of one session is that of another one in the same situation
module _ (old mid after : Held) (same : situation after ≡ situation mid) (line text : List ℕ) where
  pub answers-kept : (numbers : Numbers) → Answers old.state numbers (goes (situation mid).past) line text mid.state → Answers old.state numbers (goes (situation after).past) line text after.state
  answers-kept numbers h = subst (λ (m : Situation). Answers old.state numbers (goes m.past) line text m.state) (sym same) h

module _ (old mid after : Held) (same : situation after ≡ situation mid) (line : List ℕ) where
  pub repairs-kept : IsAfterLine (situation old) line (situation mid) → IsAfterLine (situation old) line (situation after)
  repairs-kept h = subst (IsAfterLine (situation old) line) (sym same) h

  pub bounds-kept : Bounds (situation old) line (situation mid) → Bounds (situation old) line (situation after)
  bounds-kept h = subst (Bounds (situation old) line) (sym same) h

  pub left-kept : mid ≡ old → IsAfterNoMemory (situation old) line (situation after)
  left-kept h = inl (same ∙ ap situation h)
