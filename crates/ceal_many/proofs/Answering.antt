-- What a session answers, as it is written.
use Rattle.std.proofs.Common.{◌≡◌, inl, ℕ, List, Result, Ok, Err, IfOk, OnErr, ap, ◌∙◌}
use Rattle.ceal_many.specs.Prefixes.{prefixed}
use Rattle.ceal_many.specs.Replies.{Writes, LeavesOne}
use Rattle.ceal_many.specs.Standing.{IsAnswered, IsLeft}

module _ {A S E : Type 0} (stands : A → S → Type 0) (answers : S → List ℕ → List ℕ → S → Type 0) (leaves : S → List ℕ → S → Type 0)
    (name line reply told : List ℕ) (old new : A) (same : told ≡ reply) (h : IsAnswered stands answers old line reply new) where
  pub wrote : (r : Result (List ℕ) E) → IfOk r (λ text. text ≡ prefixed name told)
      → IfOk r (λ text. IsAnswered stands (Writes answers name) old line text new)
  wrote (Ok text) e = λ s t. (let a = h s t in (a.0, a.1, record { reply = reply; answer = a.2; written = e ∙ ap (prefixed name) same }))
  wrote (Err e) k = tt

  pub lost : (r : Result (List ℕ) E) → OnErr r (IsLeft stands (LeavesOne answers leaves) old line new)
  lost (Ok text) = tt
  lost (Err e) = λ s t. (let a = h s t in (a.0, a.1, inl (reply, a.2)))
