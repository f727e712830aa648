-- What hearing a line comes to.
use Rattle.std.proofs.Common.{◌≡◌, inl, inr, ℕ, ◌+◌, ◌<◌, ◌≤◌, Option, Some, None, Result, Ok, Err, List, [], ◌∷◌, ◌++◌, length, drop, length-append, ◌∙◌, refl, sym, ap, subst, arith}
use Rattle.std.specs.Prelude.{IfOk, IsErrAnd, OnErr, IsErrOf, MatchOption}
use Rattle.std.proofs.lemmas.Bool.{cases_lt}
use Rattle.ceal_serve.specs.Exchange.{Exchange}
use Rattle.ceal_serve.specs.Listening.{Hears, HearsEnd, HearsLine, HearsMore, HearsSome, HasLine}
use Rattle.ceal_serve.specs.Troubles.{IsCounted}
use Rattle.ceal_serve.specs.Turns.{IsLong, IsOneLine}
use Rattle.ceal_serve.specs.declared.trouble.Trouble.{Trouble}
use Rattle.ceal_serve.specs.declared.trouble.Trouble.TheVariants.{TooLong}
use Rattle.ceal_serve.proofs.FirstLine.{line-after, long-line, one-line-append}

-- what a call that hears a line says of its answer
pub record Told (r : Result (Option ℕ) Trouble) (limit : ℕ) (o n : Option Exchange) (a c : List ℕ) (reads reads_after writes writes_after : ℕ) : Type 0 where
  pub heard : IfOk r (λ found. HearsLine found limit o n a c)
  pub long : IsErrOf r TooLong → Hears o n a c × IsLong limit c
  pub lost : OnErr r (HearsSome o n)
  pub counted : IsCounted r reads reads_after writes writes_after

module _ (limit : ℕ) (o n : Option Exchange) (a c : List ℕ) (h : Hears o n a c) (reads reads_after writes writes_after : ℕ) (later : reads ≤ reads_after) (written : writes ≤ writes_after) where
  told-long : IsLong limit c → (r : Result (Option ℕ) Trouble) → r ≡ Err TooLong → Told r limit o n a c reads reads_after writes writes_after
  told-long long r e = subst (λ (x : Result (Option ℕ) Trouble). Told x limit o n a c reads reads_after writes writes_after) (sym e) (record {
    heard = tt;
    long = λ x. (h, long);
    lost = (h.more, h.exchange);
    counted = record { read_fault = λ x. absurd (cc x); write_fault = λ x. absurd (cc x); reads_later = later; writes_later = written };
  })

  told-short : (at : ℕ) → HasLine c at → at < limit → (r : Result (Option ℕ) Trouble) → r ≡ Ok (Some at) → Told r limit o n a c reads reads_after writes writes_after
  told-short at k less r e = subst (λ (x : Result (Option ℕ) Trouble). Told x limit o n a c reads reads_after writes writes_after) (sym e) (record {
    heard = (h, k, less);
    long = λ x. absurd (cc x);
    lost = tt;
    counted = record { read_fault = λ x. absurd (cc x); write_fault = λ x. absurd (cc x); reads_later = later; writes_later = written };
  })

  long-size : (at : ℕ) → HasLine c at → limit ≤ at → limit < length c
  long-size at k more =
      let size = ap length k.whole in
      let sum = length-append k.line (10 ∷ k.rest) in
      let ends = k.ends in
      omega (arith, size, sum, ends, more)

  -- the line is there, and it fits or not
  pub told-line : (at : ℕ) → HasLine c at → (r : Result (Option ℕ) Trouble) → (at < limit → r ≡ Ok (Some at)) × (limit ≤ at → r ≡ Err TooLong)
      → Told r limit o n a c reads reads_after writes writes_after
  told-line at k r t = elim (cases_lt at limit) [
    | inl less ↦ told-short at k less r (t.0 less)
    | inr more ↦ told-long (record { one = long-line c at limit k more; long = long-size at k more }) r (t.1 more)
  ]

-- one line, and what was heard of the next
drop-front : (xs ys : List ℕ) → drop (length xs) (xs ++ ys) ≡ ys
drop-front [] ys = refl
drop-front (x ∷ xs) ys = drop-front xs ys

part-is : (o n : Option Exchange) (old new part : List ℕ) (before : ℕ) (h : HearsMore o n old new) → before ≡ length old → part ≡ drop before new → part ≡ h.more
part-is o n old new part before h at is =
    is ∙ (ap (λ k. drop k new) at ∙ (ap (λ (l : List ℕ). drop (length old) l) h.there ∙ drop-front old h.more))

pub later-line : (o n : Option Exchange) (old new part : List ℕ) (before at : ℕ) → HearsMore o n old new → before ≡ length old → IsOneLine old → part ≡ drop before new → HasLine part at
    → HasLine new (before + at)
later-line o n old new part before at h place one is has =
    let more : HasLine h.more at = subst (λ (l : List ℕ). HasLine l at) (part-is o n old new part before h place is) has in
    subst (λ (l : List ℕ). HasLine l (before + at)) (sym h.there) (subst (λ k. HasLine (old ++ h.more) (k + at)) (sym place) (line-after old h.more at one more))

pub later-one : (o n : Option Exchange) (old new part : List ℕ) (before : ℕ) → HearsMore o n old new → before ≡ length old → IsOneLine old → part ≡ drop before new → IsOneLine part → IsOneLine new
later-one o n old new part before h place one is has =
    subst IsOneLine (sym h.there) (one-line-append old h.more one (subst IsOneLine (part-is o n old new part before h place is) has))

-- a choice that was made
pub some-case : {A : Type 0} (o : Option A) (P : Type 0) (Q : A → Type 0) (x : A) → o ≡ Some x → MatchOption o P Q → Q x
some-case o P Q x e h = subst (λ p. MatchOption p P Q) e h

pub none-case : {A : Type 0} (o : Option A) (P : Type 0) (Q : A → Type 0) → o ≡ None → MatchOption o P Q → P
none-case o P Q e h = subst (λ p. MatchOption p P Q) e h

pub line-case : (found : Option ℕ) (at limit : ℕ) (o n : Option Exchange) (a c : List ℕ) → found ≡ Some at → HearsLine found limit o n a c → Hears o n a c × HasLine c at × (at < limit)
line-case found at limit o n a c e h = subst (λ f. HearsLine f limit o n a c) e h

pub end-case : (found : Option ℕ) (limit : ℕ) (o n : Option Exchange) (a c : List ℕ) → found ≡ None → HearsLine found limit o n a c → HearsEnd o n a c × IsOneLine c × (length c ≤ limit)
end-case found limit o n a c e h = subst (λ f. HearsLine f limit o n a c) e h

-- an error that is handed on is the one that came
same-error : {A : Type 0} (x t : Trouble) → IsErrOf {T = A} (Err x) t → x ≡ t
same-error x t e = cc e

pub handed-on : {A B : Type 0} (r : Result A Trouble) (s : Result B Trouble) (x t : Trouble) → IsErrAnd r (λ y. y ≡ x) → s ≡ Err x → IsErrOf r t → IsErrOf s t
handed-on (Ok a) s x t h is e = absurd h
handed-on (Err y) s x t h is e = is ∙ ap (λ z. Err z) (sym h ∙ same-error y t e)
