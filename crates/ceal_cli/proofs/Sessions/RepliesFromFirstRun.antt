-- Replies from that of the first run on.
use Rattle.std.proofs.Common.{◌≡◌, inl, inr, ℕ, Bool, true, List, [], ◌∷◌, Option, Result, Ok, Err, OnOk, codes, drop, eqb, refl, sym, subst}
use Rattle.std.specs.List.{starts_with}
use Rattle.std.proofs.lemmas.Bool.Decides.{Decides-eqb}
use Rattle.std.proofs.lemmas.Slice.Eq.{starts_is}
use Rattle.ceal_session.specs.State.{Situation}
use Rattle.ceal_cli.specs.ServedLines.{Serves, AreServedFromRun, BeginServedFromRun, WritesReplies, BeginsToReply, WritesFromRun, BeginsFromRun}
use Rattle.ceal_cli.specs.Output.{IsRunLine}
use Rattle.ceal_cli.proofs.Sessions.GrowingReplies.{nothing, weaker}

-- what is compared with `run ` at its front
pub run_line : (line : List ℕ) (r : Bool) → r ≡ starts_with eqb line (codes "run ") → (r ≡ true → IsRunLine line) × (IsRunLine line → r ≡ true)
run_line line r e =
    let begins = starts_is Decides-eqb line (codes "run ") r e in
    ((λ t. record { rest = drop 4 line; same = sym (begins.0 t) }), λ p. begins.1 p.rest (sym p.same))

-- Lines were answered, none of them a run, and these are left.
pub record Before (start here : Situation) (all left : List (List ℕ)) : Type 0 where
  pub whole : (out : List ℕ) → AreServedFromRun here left out → AreServedFromRun start all out
  pub begun : (out : List ℕ) → BeginServedFromRun here left out → BeginServedFromRun start all out

module _ (start here : Situation) (all lines : List (List ℕ)) (line : List ℕ) (before : Before start here all (line ∷ lines)) where
  -- one more line was answered
  pub one_before : (next : Situation) (text : List ℕ) → (IsRunLine line → ⊥) → Serves here line text next → Before start next all lines
  unfolding AreServedFromRun BeginServedFromRun
  one_before next text other answers = record {
    whole = λ out h. before.whole out (inr (other, text, next, answers, h));
    begun = λ out h. before.begun out (inr (inr (other, text, next, answers, h)));
  }

  module _ (old a b : Option (List ℕ)) (same : a ≡ old) where
    -- the line is a run, and the replies from it on were written
    pub from_here : {E : Type 0} (r : Result (Unit {0}) E) → IsRunLine line → OnOk r (WritesReplies a b here (line ∷ lines)) → OnOk r (WritesFromRun old b start all)
    unfolding AreServedFromRun
    from_here (Ok u) is h = subst (λ (o : Option (List ℕ)). WritesFromRun o b start all) same (weaker (λ out replies. before.whole out (inl (is, replies))) h)
    from_here (Err e) is h = tt

    pub begun_here : IsRunLine line → BeginsToReply a b here (line ∷ lines) → BeginsFromRun old b start all
    unfolding BeginServedFromRun
    begun_here is h = subst (λ (o : Option (List ℕ)). BeginsFromRun o b start all) same (weaker (λ out begins. before.begun out (inr (inl (is, begins)))) h)

  -- nothing was written
  pub none_begun : (old a : Option (List ℕ)) → a ≡ old → BeginsFromRun old a start all
  unfolding BeginServedFromRun
  none_begun old a same = subst (λ (o : Option (List ℕ)). BeginsFromRun o a start all) same (nothing a _ (before.begun [] (inl refl)))

-- no line is left
module _ (start here : Situation) (all : List (List ℕ)) (before : Before start here all []) (old a : Option (List ℕ)) (same : a ≡ old) where
  pub no_run : WritesFromRun old a start all
  unfolding AreServedFromRun
  no_run = subst (λ (o : Option (List ℕ)). WritesFromRun o a start all) same (nothing a _ (before.whole [] refl))

  pub no_run_begun : BeginsFromRun old a start all
  unfolding BeginServedFromRun
  no_run_begun = subst (λ (o : Option (List ℕ)). BeginsFromRun o a start all) same (nothing a _ (before.begun [] refl))
