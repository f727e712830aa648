use Rattle.std.proofs.Common.{◌≡◌, ℕ, Option, Some, None, List, [], ◌∷◌, subst}
use Rattle.std.specs.Option.{option_map}
use Rattle.std.specs.Prelude.{IfSome}
use Rattle.ceal_order.specs.Rising.{numbers, IsRising}
use Rattle.ceal_order.specs.Stamps.{head_of}
use Rattle.ceal_order.specs.declared.stamp.Stamp.{Stamp}
use Rattle.ceal_queue.specs.Queue.{Waiting, Follows, IsEarliest}
use Rattle.ceal_queue.proofs.QueueLemmas.{is_earliest}
use Rattle.ceal_queue.proofs.stale.Stale.first.Goals as goal

earliest-of : (o : Option Stamp) (ss : List ℕ) → option_map (λ (s : Stamp). s.0) o ≡ head_of ss → IfSome o (λ s. (order : List ℕ) → IsRising order ss → IsEarliest order ss s.0)
earliest-of None ss e = tt
earliest-of (Some s) [] e = absurd (cc)
earliest-of (Some s) (x ∷ ss) e = λ order rising. let same : x ≡ s.0 = cc in subst (λ y. IsEarliest order (x ∷ ss) y) same (is_earliest order x ss rising)

pub returns-clause-first : goal.returns-clause-first
returns-clause-first c =
    subst (λ (q : Waiting). IfSome c.first.result (λ s. (order : List ℕ) → Follows order q → IsEarliest order q.stamps s.0)) c.self.view_is
    (earliest-of c.first.result (numbers c.self.inside.stamps.items) c.first.ensures.first)
