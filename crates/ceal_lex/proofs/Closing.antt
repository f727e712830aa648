-- Where a comment ends.
use Rattle.std.proofs.Common.{◌≡◌, ℕ, ◌+◌, ◌≤◌, ◌<◌, List, ◌∷◌, ◌++◌, length, take, drop, get_or, sym, ap, ◌∙◌, arith, inl, inr}
use Rattle.std.proofs.lemmas.Bool.{cases_eq}
use Rattle.std.proofs.lemmas.List.{length-append, length-take-le, take-append-drop, drop_more, get_or_at, get_or-append-add}
use Rattle.ceal_lex.specs.Characters.{SLASH, STAR}
use Rattle.ceal_lex.specs.Front.{IsNeverClosed, ClosesAt}

-- There is no `*/` before byte n.
abbrev pub NoneBefore : ℕ → List ℕ → Type 0
NoneBefore n text = (a b : List ℕ) → text ≡ a ++ STAR ∷ SLASH ∷ b → n ≤ length a

module _ (text : List ℕ) (n : ℕ) (none : NoneBefore n text) where
  -- two bytes that are no `*/`
  pub none_more : (get_or text n 0 ≡ STAR → get_or text (n + 1) 0 ≡ SLASH → ⊥) → NoneBefore (n + 1) text
  none_more other a b h = elim (cases_eq n (length a)) [
    | inl e ↦ absurd (other (ap (λ (x : List ℕ). get_or x n 0) h ∙ get_or_at a STAR (SLASH ∷ b) 0 n (sym e))
        (ap (λ (x : List ℕ). get_or x (n + 1) 0) h ∙ ap (λ (k : ℕ). get_or (a ++ STAR ∷ SLASH ∷ b) (k + 1) 0) e ∙ get_or-append-add a (STAR ∷ SLASH ∷ b) 1 0))
    | inr e ↦ let p = none a b h in omega (arith, p, e)
  ]

  -- no place is left for one
  pub none_left : length text ≤ n + 1 → IsNeverClosed text
  none_left small a b h =
      let p = none a b h in
      let l : length text ≡ length a + length (STAR ∷ SLASH ∷ b) = ap length h ∙ length-append a (STAR ∷ SLASH ∷ b) in
      omega (arith, p, l)

  pub closes : n + 1 < length text → get_or text n 0 ≡ STAR → get_or text (n + 1) 0 ≡ SLASH → ClosesAt n text
  closes room star slash =
      let e : take n text ++ STAR ∷ SLASH ∷ drop (n + 1 + 1) text ≡ text =
      ap (λ (x : List ℕ). take n text ++ x)
      (ap (λ (k : ℕ). k ∷ SLASH ∷ drop (n + 1 + 1) text) (sym star) ∙ ap (λ (k : ℕ). get_or text n 0 ∷ k ∷ drop (n + 1 + 1) text) (sym slash)
      ∙ ap (λ (x : List ℕ). get_or text n 0 ∷ x) (sym (drop_more text (n + 1) 0 room)) ∙ sym (drop_more text n 0 (omega arith)))
      ∙ take-append-drop n text in
      let l : length (take n text) ≡ n = length-take-le n text (omega arith) in
      record {
        inside = take n text;
        rest = drop (n + 1 + 1) text;
        whole = e;
        first = λ a b h. let p = none a b (sym e ∙ h) in omega (arith, p, l);
        counted = sym l;
      }
