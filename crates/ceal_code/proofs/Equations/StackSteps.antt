-- The words with which units begin.
use Rattle.std.proofs.Common.{◌≡◌, ℕ, zero, suc, ◌+◌, ◌-◌, ◌<◌, ◌≤◌, ◌==◌, Some, ◌⊎◌, inl, inr, Bool, true, false, if◌then◌else◌, List, [], ◌∷◌, ◌++◌, length, replicate, drop, get_or, set as put_at}
use Rattle.std.proofs.Common.{drop-cons, append-nil, append_assoc, refl, sym, ap, ◌∙◌, slice_get, unwrap_or, arith, min}
use Rattle.std.proofs.Math.Path.{fun_ext}
use Rattle.std.proofs.lemmas.List.{get_or-set_same, get_or-set_other}
use Rattle.std.proofs.lemmas.Option.{unwrap_or-slice_get, slice_get_within, get_or_from_slice_get}
use Rattle.ceal_base.specs.declared.word.Word.{Word}
use Rattle.ceal_base.specs.declared.word.Word.TheVariants.{Null}
use Rattle.ceal_code.proofs.Words.SameIsEqual.{nat-same}
use Rattle.ceal_code.specs.Init.{arguments}
use Rattle.ceal_code.specs.Step.{bound, chosen, woven, first_word, later_words}
use Rattle.ceal_code.specs.Value.{Variables, unset, set}
use Rattle.ceal_code.specs.declared.expr.VarId.{VarId}

-- nulls after the words of variables
padded : (words : List Word) (n u : ℕ) → get_or (words ++ replicate n Null) u Null ≡ get_or words u Null
padded [] zero u = refl
padded [] (suc n) zero = refl
padded [] (suc n) (suc u) = padded [] n u
padded (w ∷ words) n zero = refl
padded (w ∷ words) n (suc u) = padded words n u

-- nulls that are added change no variable
pub arguments-padded : (words more : List Word) (n : ℕ) → more ≡ words ++ replicate n Null → arguments more ≡ arguments words
unfolding arguments
arguments-padded words more n e = fun_ext (λ u.
    unwrap_or-slice_get more u Null ∙ (ap (λ ws. get_or ws u Null) e ∙ (padded words n u ∙ sym (unwrap_or-slice_get words u Null))))

set-at : (words more : List Word) (v u : ℕ) (word : Word) → v < length more → ((i : ℕ) → get_or more i Null ≡ get_or words i Null)
    → (b : Bool) → (u == v) ≡ b → get_or (put_at more v word) u Null ≡ (if b then word else get_or words u Null)
set-at words more v u word h same true e = rw (nat-same u v e) (get_or-set_same more v word Null h)
set-at words more v u word h same false e = get_or-set_other more v u word Null (λ k. grind (arith, k, e)) ∙ same u

-- a variable is set, with room made for it
pub arguments-set : (words : List Word) (v : ℕ) (word : Word) (more : List Word) → more ≡ words ++ replicate (v + 1 - length words) Null → v < length more
    → arguments (put_at more v word) ≡ set (arguments words) v word
unfolding arguments set
arguments-set words v word more e h = fun_ext (λ u.
    unwrap_or-slice_get (put_at more v word) u Null
    ∙ set-at words more v u word h (λ i. rw e (padded words (v + 1 - length words) i)) (u == v) refl
    ∙ ap (λ d. if u == v then word else d) (sym (unwrap_or-slice_get words u Null)))

pub bound-step : (params : List VarId) (words : List Word) (j i : ℕ) (d : VarId) (e : Word) → i ≡ j + 1 → j < length params → j < length words
    → bound (drop j params) (drop j words) ≡ set (bound (drop i params) (drop i words)) (get_or params j d).0 (get_or words j e)
unfolding bound
bound-step params words j i d e n h k =
    let m : i ≡ suc j = omega (arith, n) in
    rw (m, drop-cons params j d h, drop-cons words j e k) refl

pub bind-next : (params : List VarId) (words : List Word) (j i : ℕ) (p : VarId) (w : Word) (x y : Variables) → i ≡ j + 1 → slice_get params j ≡ Some p → slice_get words j ≡ Some w
    → x ≡ bound (drop i params) (drop i words) → y ≡ set x p.0 w → y ≡ bound (drop j params) (drop j words)
bind-next params words j i p w x y e h k inv l =
    l ∙ (ap (λ z. set z p.0 w) inv
    ∙ sym (bound-step params words j i p w e (slice_get_within params j p h) (slice_get_within words j w k)
    ∙ rw (get_or_from_slice_get params j p p h, get_or_from_slice_get words j w w k) refl))

pub drop-all : {A : Type 0} (xs : List A) (n : ℕ) → length xs ≤ n → drop n xs ≡ []
drop-all [] zero h = refl
drop-all [] (suc n) h = refl
drop-all (x ∷ xs) zero h = absurd (omega (arith, h))
drop-all (x ∷ xs) (suc n) h = drop-all xs n (omega (arith, h))

pub bound-none : (params : List VarId) → bound params [] ≡ unset
unfolding bound
bound-none [] = refl
bound-none (p ∷ ps) = refl

pub le-either : (a b : ℕ) → (a ≤ b) ⊎ (b ≤ a)
le-either zero b = inl (omega arith)
le-either (suc a) zero = inr (omega arith)
le-either (suc a) (suc b) = elim (le-either a b) [ inl h ↦ inl (omega (arith, h)) | inr h ↦ inr (omega (arith, h)) ]

pub bound-end : (params : List VarId) (words : List Word) (n : ℕ) → n ≡ min (length params) (length words) → bound (drop n params) (drop n words) ≡ unset
unfolding bound
bound-end params words n e = elim (le-either (length params) (length words)) [
  | inl h ↦ rw (drop-all params n (omega (arith, h, e))) refl
  | inr h ↦ rw (drop-all words n (omega (arith, h, e))) (bound-none (drop n params))
]

pub arguments-none : arguments [] ≡ unset
unfolding arguments unset
arguments-none = refl

pub no-arguments : (words : List Word) → words ≡ [] → arguments words ≡ unset
no-arguments words e = rw e arguments-none

pub ruleset bind_steps = (arguments-none)

pub chosen-none : (args : List Word) → chosen [] args ≡ []
unfolding chosen
chosen-none args = refl

pub chosen-more : (p : VarId) (ps : List VarId) (args : List Word) → chosen (p ∷ ps) args ≡ unwrap_or (slice_get args p.0) Null ∷ chosen ps args
unfolding chosen
chosen-more p ps args = refl

pub ruleset choose_steps = (chosen-none, chosen-more)

pub woven-more : (p : VarId) (ps : List VarId) (v : ℕ) (value : Word) (args : List Word)
    → woven (p ∷ ps) v value args ≡ (if p.0 == v then value else first_word args) ∷ woven ps v value (if p.0 == v then args else later_words args)
unfolding woven
woven-more p ps v value args = go (p.0 == v)
  where
    go : (b : Bool) → (if b then value ∷ woven ps v value args else first_word args ∷ woven ps v value (later_words args))
        ≡ (if b then value else first_word args) ∷ woven ps v value (if b then args else later_words args)
    go true = refl
    go false = refl

-- in code, word by word
pub choose-next : (out next : List Word) (params more : List VarId) (p : VarId) (args all : List Word) (w : Word) → next ≡ out ++ w ∷ [] → w ≡ unwrap_or (slice_get args p.0) Null
    → params ≡ p ∷ more → out ++ chosen params args ≡ all → next ++ chosen more args ≡ all
choose-next out next params more p args all w e k l inv =
    ap (λ ws. ws ++ chosen more args) e ∙ (append_assoc out (w ∷ []) (chosen more args)
    ∙ (ap (λ ws. out ++ ws) (ap (λ v. v ∷ chosen more args) k ∙ (sym (chosen-more p more args) ∙ ap (λ ps. chosen ps args) (sym l))) ∙ inv))

pub choose-end : (out : List Word) (params : List VarId) (args all : List Word) → length params ≡ 0 → out ++ chosen params args ≡ all → out ≡ all
choose-end out [] args all h inv = sym (append-nil out) ∙ (ap (λ ws. out ++ ws) (sym (chosen-none args)) ∙ inv)
choose-end out (p ∷ ps) args all h inv = absurd (omega (arith, h))
