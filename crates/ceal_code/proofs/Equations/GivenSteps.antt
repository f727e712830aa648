-- The words of a unit that continues after a read, from the last parameter to the first.
use Rattle.std.proofs.Common.{◌≡◌, ℕ, zero, suc, ◌+◌, ◌≤◌, ◌<◌, ◌==◌, Some, Bool, true, false, if◌then◌else◌, List, [], ◌∷◌, ◌++◌, length, take, drop, get_or, drop-cons, refl, sym, ap, ◌∙◌, slice_get}
use Rattle.std.proofs.Common.{unwrap_or, min, inl, inr, arith}
use Rattle.std.proofs.lemmas.List.{take_more}
use Rattle.std.proofs.lemmas.Option.{unwrap_or-slice_get, slice_get_within, get_or_from_slice_get}
use Rattle.ceal_base.specs.declared.word.Word.{Word}
use Rattle.ceal_base.specs.declared.word.Word.TheVariants.{Null}
use Rattle.ceal_code.specs.Step.{bound, woven, first_word, later_words}
use Rattle.ceal_code.specs.Value.{Plain, Variables, unset, set, expr_value, values}
use Rattle.ceal_code.specs.Weaving.{one_other, others}
use Rattle.ceal_code.specs.declared.expr.CodeExpr.{CodeExpr}
use Rattle.ceal_code.specs.declared.expr.VarId.{VarId}
use Rattle.ceal_base.specs.declared.typed.StructInfo.{StructInfo}
use Rattle.ceal_code.proofs.Equations.StackSteps.{woven-more, drop-all, bound-none, le-either}
use Rattle.ceal_code.proofs.Equations.ValueSteps.{values-none}

others-push : (v : ℕ) (ps : List VarId) (p : VarId) → others v (ps ++ p ∷ []) ≡ others v ps + one_other v p
unfolding others
others-push v [] p = omega arith
others-push v (d ∷ ps) p = let e = others-push v ps p in omega (arith, e)

pub others-none : (v : ℕ) (ps : List VarId) → others v (take 0 ps) ≡ 0
unfolding others
others-none v ps = refl

pub others-more : (v : ℕ) (ps : List VarId) (i : ℕ) (d : VarId) → i < length ps → others v (take (i + 1) ps) ≡ others v (take i ps) + one_other v (get_or ps i d)
others-more v ps i d h = rw (take_more ps i d h) (others-push v (take i ps) (get_or ps i d))

take-enough : {A : Type 0} (xs : List A) (n : ℕ) → length xs ≤ n → take n xs ≡ xs
take-enough [] zero h = refl
take-enough [] (suc n) h = refl
take-enough (x ∷ xs) zero h = absurd (omega (arith, h))
take-enough (x ∷ xs) (suc n) h = ap (λ ys. x ∷ ys) (take-enough xs n (omega (arith, h)))

drop-whole : {A : Type 0} (xs : List A) → drop (length xs) xs ≡ []
drop-whole [] = refl
drop-whole (x ∷ xs) = drop-whole xs

pub others-all : (v : ℕ) (ps : List VarId) (n : ℕ) → length ps ≤ n → others v (take n ps) ≡ others v ps
others-all v ps n h = ap (λ qs. others v qs) (take-enough ps n h)

pub others-next : (v : ℕ) (ps : List VarId) (i j : ℕ) (p : VarId) (one : ℕ) → i ≡ j + 1 → slice_get ps j ≡ Some p → one ≡ one_other v p → others v (take i ps) ≡ others v (take j ps) + one
others-next v ps i j p one e h k =
    ap (λ n. others v (take n ps)) e
    ∙ (others-more v ps j p (slice_get_within ps j p h)
    ∙ (ap (λ q. others v (take j ps) + one_other v q) (get_or_from_slice_get ps j p p h)
    ∙ ap (λ n. others v (take j ps) + n) (sym k)))

woven-of-none : (v : ℕ) (value : Word) (args : List Word) → bound [] (woven [] v value args) ≡ unset
unfolding bound woven
woven-of-none v value args = refl

pub given-none : (ps : List VarId) (v : ℕ) (value : Word) (args : List Word) → unset ≡ bound (drop (length ps) ps) (woven (drop (length ps) ps) v value args)
given-none ps v value args = rw (drop-whole ps) (sym (woven-of-none v value args))

pub given-all : (ps : List VarId) (v : ℕ) (value : Word) (args : List Word) (i at : ℕ) (x : Variables) → i ≤ 0 → at ≡ others v (take i ps)
    → x ≡ bound (drop i ps) (woven (drop i ps) v value (drop at args)) → x ≡ bound ps (woven ps v value args)
given-all ps v value args zero at x h k e = e ∙ ap (λ n. bound ps (woven ps v value (drop n args))) (k ∙ others-none v ps)
given-all ps v value args (suc i) at x h k e = absurd (omega (arith, h))

bound-more : (p : VarId) (ps : List VarId) (word : Word) (words : List Word) → bound (p ∷ ps) (word ∷ words) ≡ set (bound ps words) p.0 word
unfolding bound
bound-more p ps word words = refl

later-at : (args : List Word) (n : ℕ) → later_words (drop n args) ≡ drop (suc n) args
later-at [] zero = refl
later-at [] (suc n) = refl
later-at (a ∷ args) zero = refl
later-at (a ∷ args) (suc n) = later-at args n

first-or : (args : List Word) (n : ℕ) → first_word (drop n args) ≡ get_or args n Null
first-or [] zero = refl
first-or [] (suc n) = refl
first-or (a ∷ args) zero = refl
first-or (a ∷ args) (suc n) = first-or args n

head-at : (value : Word) (args : List Word) (at : ℕ) (b : Bool)
    → (if b then value else first_word (drop at args)) ≡ (if b then value else unwrap_or (slice_get args at) Null)
head-at value args at true = refl
head-at value args at false = first-or args at ∙ sym (unwrap_or-slice_get args at Null)

tail-at : (args : List Word) (before after one : ℕ) (b : Bool) → one ≡ (if b then 0 else 1) → before ≡ after + one
    → (if b then drop after args else later_words (drop after args)) ≡ drop before args
tail-at args before after one true e k = let m : after ≡ before = omega (arith, e, k) in ap (λ n. drop n args) m
tail-at args before after one false e k = let m : suc after ≡ before = omega (arith, e, k) in later-at args after ∙ ap (λ n. drop n args) m

drop-next : {A : Type 0} (ps : List A) (j i : ℕ) (p : A) → i ≡ j + 1 → slice_get ps j ≡ Some p → drop j ps ≡ p ∷ drop i ps
drop-next ps j i p e h =
    let m : i ≡ suc j = omega (arith, e) in
    rw m (drop-cons ps j p (slice_get_within ps j p h) ∙ ap (λ q. q ∷ drop (suc j) ps) (get_or_from_slice_get ps j p p h))

woven-next : (p : VarId) (ps : List VarId) (v : ℕ) (value : Word) (args : List Word) (before after one : ℕ) (w : Word)
    → w ≡ (if p.0 == v then value else unwrap_or (slice_get args after) Null) → one ≡ one_other v p → before ≡ after + one
    → woven (p ∷ ps) v value (drop after args) ≡ w ∷ woven ps v value (drop before args)
woven-next p ps v value args before after one w e k m =
    woven-more p ps v value (drop after args)
    ∙ (ap (λ u. u ∷ woven ps v value (if p.0 == v then drop after args else later_words (drop after args))) (head-at value args after (p.0 == v) ∙ sym e)
    ∙ ap (λ us. w ∷ woven ps v value us) (tail-at args before after one (p.0 == v) k m))

pub given-next : (ps : List VarId) (v : ℕ) (value : Word) (args : List Word) (j i before after one : ℕ) (p : VarId) (w : Word) (x y : Variables)
    → i ≡ j + 1 → slice_get ps j ≡ Some p → w ≡ (if p.0 == v then value else unwrap_or (slice_get args after) Null) → one ≡ one_other v p → before ≡ after + one
    → x ≡ bound (drop i ps) (woven (drop i ps) v value (drop before args)) → y ≡ set x p.0 w
    → y ≡ bound (drop j ps) (woven (drop j ps) v value (drop after args))
given-next ps v value args j i before after one p w x y e h k l m inv s =
    s ∙ (ap (λ z. set z p.0 w) inv
    ∙ sym (ap (λ qs. bound qs (woven qs v value (drop after args))) (drop-next ps j i p e h)
    ∙ (ap (λ ws. bound (p ∷ drop i ps) ws) (woven-next p (drop i ps) v value args before after one w k l m)
    ∙ bound-more p (drop i ps) w (woven (drop i ps) v value (drop before args)))))

module _ (structs : List StructInfo) (x : Plain) (env : Variables) where
  values-more : (e : CodeExpr) (es : List CodeExpr) → values structs x env (e ∷ es) ≡ expr_value structs x env e ∷ values structs x env es
  unfolding values
  values-more e es = refl

  bound-no-params : (words : List Word) → bound [] words ≡ unset
  unfolding bound
  bound-no-params words = refl

  -- what expressions give, for parameters
  pub values-end : (params : List VarId) (es : List CodeExpr) (n : ℕ) → n ≡ min (length params) (length es)
      → bound (drop n params) (values structs x env (drop n es)) ≡ unset
  values-end params es n e = elim (le-either (length params) (length es)) [
    | inl h ↦ ap (λ (ps : List VarId). bound ps (values structs x env (drop n es))) (drop-all params n (omega (arith, h, e))) ∙ bound-no-params (values structs x env (drop n es))
    | inr h ↦ ap (λ (ds : List CodeExpr). bound (drop n params) (values structs x env ds)) (drop-all es n (omega (arith, h, e)))
        ∙ (ap (λ (ws : List Word). bound (drop n params) ws) (values-none structs x env) ∙ bound-none (drop n params))
  ]

  pub values-next : (params : List VarId) (es : List CodeExpr) (j i : ℕ) (p : VarId) (e : CodeExpr) (w : Word) (y z : Variables)
      → i ≡ j + 1 → slice_get params j ≡ Some p → slice_get es j ≡ Some e → w ≡ expr_value structs x env e
      → y ≡ bound (drop i params) (values structs x env (drop i es)) → z ≡ set y p.0 w
      → z ≡ bound (drop j params) (values structs x env (drop j es))
  values-next params es j i p e w y z n h k v inv s =
      s ∙ (ap (λ u. set u p.0 w) inv
      ∙ sym (ap (λ qs. bound qs (values structs x env (drop j es))) (drop-next params j i p n h)
      ∙ (ap (λ ds. bound (p ∷ drop i params) (values structs x env ds)) (drop-next es j i e n k)
      ∙ (ap (λ ws. bound (p ∷ drop i params) ws) (values-more e (drop i es) ∙ ap (λ u. u ∷ values structs x env (drop i es)) (sym v))
      ∙ bound-more p (drop i params) w (values structs x env (drop i es))))))
