-- Copies told by the times of assignments.
use Rattle.std.proofs.Common.{◌≡◌, ℕ, ◌<◌, ◌≤◌, ◌==◌, nat_lt, Bool, true, false, if◌then◌else◌, Option, Some, None, refl, ap, ◌∙◌, arith}
use Rattle.std.proofs.Math.Path.{fun_ext}
use Rattle.ceal_code.proofs.Words.SameIsEqual.{nat-same, nat-refl}
use Rattle.ceal_code.specs.declared.expr.CodeExpr.{CodeExpr, Num as NumExpr, Null as NullExpr, Var, Unary', Binary', Field', Address'}
use Rattle.ceal_fold.specs.Folding.{copy_by, copy_without, copies_with}
use Rattle.ceal_fold.specs.States.{Pages, last_of, time, lasting_copy, current_copy, copy_at}
use Rattle.ceal_fold.specs.declared.copies.Copied.{Copied}
use Rattle.ceal_fold.specs.declared.copies.Copied.TheVariants.{Num as CopiedNum, Null as CopiedNull, Var as CopiedVar}
use Rattle.ceal_fold.specs.declared.known.Assigned.{Assigned}

-- a variable is made no copy of itself
pub copy-other : (v : ℕ) (e : CodeExpr) → copy_without v (copy_by v e) ≡ copy_by v e
copy-other v (NumExpr n) = refl
copy-other v NullExpr = refl
copy-other v (Var w) = go (w.0 == v) refl
  where
    go : (b : Bool) → (w.0 == v) ≡ b → copy_without v (if b then None else Some (CopiedVar w)) ≡ (if b then None else Some (CopiedVar w))
    go true e = refl
    go false e = rw e refl
copy-other v (Unary' op _ a) = refl
copy-other v (Binary' op _ a _ b) = refl
copy-other v (Field' _ a s f) = refl
copy-other v (Address' _ a s f) = refl

abbrev made : ℕ → Option Copied → Option Assigned
made at copy = Some (record { at = at; copy = copy })

-- one variable is assigned, later than each was before
module _ (last last' : ℕ → Option Assigned) (v at : ℕ) (copy : Option Copied) (put : (u : ℕ) → last' u ≡ (if u == v then made at copy else last u))
    (earlier : (u : ℕ) → time (last u) < at) where
  put-same : last' v ≡ made at copy
  put-same = put v ∙ ap (λ b. if b then made at copy else last v) (nat-refl v)

  put-other : (u : ℕ) → (u == v) ≡ false → last' u ≡ last u
  put-other u e = put u ∙ ap (λ b. if b then made at copy else last u) e

  put-times : (u : ℕ) → time (last' u) ≤ at
  put-times u = go (u == v) refl
    where
      go : (b : Bool) → (u == v) ≡ b → time (last' u) ≤ at
      go true e =
          let i : u ≡ v = nat-same u v e in
          let t : time (last' u) ≡ at = ap (λ u. time (last' u)) i ∙ ap time put-same in
          omega (arith, t)
      go false e =
          let t : time (last' u) ≡ time (last u) = ap time (put-other u e) in
          let h = earlier u in
          omega (arith, t, h)

  -- what is left of another variable's copy
  left : (n : ℕ) (o : Option Copied) → n < at → lasting_copy last' n o ≡ copy_without v (lasting_copy last n o)
  left n None h = refl
  left n (Some (CopiedNum k)) h = refl
  left n (Some CopiedNull) h = refl
  left n (Some (CopiedVar w)) h = go (w.0 == v) refl (nat_lt (time (last w.0)) n) refl
    where
      over : (w.0 == v) ≡ true → nat_lt (time (last' w.0)) n ≡ false
      over e =
          let i : w.0 ≡ v = nat-same w.0 v e in
          let t : time (last' w.0) ≡ at = ap (λ u. time (last' u)) i ∙ ap time put-same in
          rw t (grind (arith, h))

      go : (a : Bool) → (w.0 == v) ≡ a → (b : Bool) → nat_lt (time (last w.0)) n ≡ b
          → (if nat_lt (time (last' w.0)) n then Some (CopiedVar w) else None) ≡ copy_without v (if b then Some (CopiedVar w) else None)
      go true e true f = rw (over e, e) refl
      go true e false f = rw (over e) refl
      go false e true f = rw (put-other w.0 e, f, e) refl
      go false e false f = rw (put-other w.0 e, f) refl

  -- the copy that was made just now
  new : (o : Option Copied) → copy_without v o ≡ o → lasting_copy last' at o ≡ o
  new None h = refl
  new (Some (CopiedNum k)) h = refl
  new (Some CopiedNull) h = refl
  new (Some (CopiedVar w)) h = go (w.0 == v) refl
    where
      go : (a : Bool) → (w.0 == v) ≡ a → (if nat_lt (time (last' w.0)) at then Some (CopiedVar w) else None) ≡ Some (CopiedVar w)
      go true e = absurd (grind (arith, e, h))
      go false e =
          let k = earlier w.0 in
          let lt : nat_lt (time (last w.0)) at ≡ true = grind (arith, k) in
          rw (put-other w.0 e, lt) refl

  put-copies : copy_without v copy ≡ copy → (u : ℕ) → current_copy last' (last' u) ≡ (if u == v then copy else copy_without v (current_copy last (last u)))
  put-copies h u = go (u == v) refl
    where
      other : (o : Option Assigned) → last u ≡ o → current_copy last' o ≡ copy_without v (current_copy last o)
      other None e = refl
      other (Some a) e = left a.at a.copy (let k = earlier u in let t : time (last u) ≡ a.at = ap time e in omega (arith, k, t))

      go : (b : Bool) → (u == v) ≡ b → current_copy last' (last' u) ≡ (if b then copy else copy_without v (current_copy last (last u)))
      go true e =
          let i : u ≡ v = nat-same u v e in
          ap (current_copy last') (ap last' i ∙ put-same) ∙ new copy h
      go false e = ap (current_copy last') (put-other u e) ∙ other (last u) refl

module _ (known known' : Pages) (v at : ℕ) (copy : Option Copied) (put : (u : ℕ) → last_of known' u ≡ (if u == v then made at copy else last_of known u))
    (earlier : (u : ℕ) → time (last_of known u) < at) where
  pub assigned-times : (u : ℕ) → time (last_of known' u) ≤ at
  assigned-times = put-times (last_of known) (last_of known') v at copy put earlier

  pub assigned-copies : copy_without v copy ≡ copy → copy_at known' ≡ copies_with (copy_at known) v copy
  unfolding copy_at copies_with
  assigned-copies h = fun_ext (put-copies (last_of known) (last_of known') v at copy put earlier h)

pub ruleset pass_steps = (copy-other)
