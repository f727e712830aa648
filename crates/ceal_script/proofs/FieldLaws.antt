-- A field's name is an identifier, or an element's: what is before the first bracket, and after it.
use Rattle.std.proofs.Common.{◌≡◌, ◌⊎◌, inl, inr, ℕ, ◌+◌, true, false, not, List, [], ◌∷◌, ◌++◌, length, take, drop, Option, Some, None, refl, sym, ap, ◌∙◌, subst, arith}
use Rattle.std.specs.Prelude.{◌==◌, position}
use Rattle.std.proofs.lemmas.Bool.{cases_Bool, cases_eq, false≢true}
use Rattle.std.proofs.lemmas.Bool.Decides.{nat_tests}
use Rattle.std.proofs.lemmas.List.{append_cancel_right}
use Rattle.ceal_script.specs.Characters.{is_name_byte}
use Rattle.ceal_script.specs.Spelling.{OPENING_BRACKET, CLOSING_BRACKET, is_identifier, IsIdentifier, IsIndex, IsElement, IsField}
use Rattle.ceal_script.proofs.IndexLaws.{index_or_none}
use Rattle.ceal_script.proofs.Marks.{around_mark, before_mark, behind_mark, mark_behind}
use Rattle.ceal_script.proofs.PlaceLaws.{identifier_bytes}

no_bracket : (b : ℕ) → is_name_byte b ≡ true → not (b == OPENING_BRACKET) ≡ true
no_bracket b h = grind (arith, nat_tests)

-- the place of the bracket of an element
pub bracket_behind : (row rest : List ℕ) → IsIdentifier row → position (λ b. b == OPENING_BRACKET) (row ++ OPENING_BRACKET ∷ rest) ≡ Some (length row)
bracket_behind row rest h = mark_behind OPENING_BRACKET no_bracket row rest (identifier_bytes row h)

module _ (word : List ℕ) where
  pub no_element : None ≡ position (λ b. b == OPENING_BRACKET) word → IsElement word → ⊥
  no_element e h =
      let q : None ≡ Some (length h.0) = e ∙ ap (position (λ b. b == OPENING_BRACKET)) h.2 ∙ bracket_behind h.0 (h.1 ++ CLOSING_BRACKET ∷ []) h.3 in
      cc

  module _ (at : ℕ) (e : Some at ≡ position (λ b. b == OPENING_BRACKET) word) where
    -- the row's name, and the number with its bracket
    pub element_parts : (h : IsElement word) → (take at word ≡ h.0) × (drop (at + 1) word ≡ h.1 ++ CLOSING_BRACKET ∷ [])
    element_parts h =
        let rest : List ℕ = h.1 ++ CLOSING_BRACKET ∷ [] in
        let q : Some at ≡ Some (length h.0) = e ∙ ap (position (λ b. b == OPENING_BRACKET)) h.2 ∙ bracket_behind h.0 rest h.3 in
        let r : at ≡ length h.0 = cc in (
          ap (take at) h.2 ∙ ap (λ (n : ℕ). take n (h.0 ++ OPENING_BRACKET ∷ rest)) r ∙ before_mark OPENING_BRACKET h.0 rest,
          ap (drop (at + 1)) h.2 ∙ ap (λ (n : ℕ). drop (n + 1) (h.0 ++ OPENING_BRACKET ∷ rest)) r ∙ behind_mark OPENING_BRACKET h.0 rest,
        )

    pub no_row : is_identifier (take at word) ≡ false → IsElement word → ⊥
    no_row f h = false≢true (sym f ∙ ap is_identifier (element_parts h).0 ∙ h.3)

    pub not_closed : ((front : List ℕ) → drop (at + 1) word ≡ front ++ CLOSING_BRACKET ∷ [] → ⊥) → IsElement word → ⊥
    not_closed f h = f h.1 (element_parts h).1

    module _ (index : List ℕ) (closed : drop (at + 1) word ≡ index ++ CLOSING_BRACKET ∷ []) where
      pub index_within : IsElement word → IsIndex index
      index_within h =
          let same : h.1 ≡ index = append_cancel_right h.1 index (CLOSING_BRACKET ∷ []) (sym (element_parts h).1 ∙ closed) in
          subst IsIndex same h.4

      pub element_around : IsIdentifier (take at word) → IsIndex index → IsElement word
      element_around n i = (
        take at word,
        index,
        around_mark OPENING_BRACKET word at e ∙ ap (λ (r : List ℕ). take at word ++ OPENING_BRACKET ∷ r) closed,
        n,
        i,
      )

-- a text ends in a bracket, or does not
closed_or_none : (text : List ℕ) → ((front : List ℕ) × (text ≡ front ++ CLOSING_BRACKET ∷ [])) ⊎ ((front : List ℕ) → text ≡ front ++ CLOSING_BRACKET ∷ [] → ⊥)
closed_or_none [] = inr none
  where
    none : (front : List ℕ) → [] ≡ front ++ CLOSING_BRACKET ∷ [] → ⊥
    none [] e = cc
    none (c ∷ front) e = cc
closed_or_none (b ∷ []) = elim (cases_eq b CLOSING_BRACKET) [
  | inl e ↦ inl ([], ap (λ (c : ℕ). c ∷ []) e)
  | inr other ↦ inr (none other)
]
  where
    none : (b ≡ CLOSING_BRACKET → ⊥) → (front : List ℕ) → b ∷ [] ≡ front ++ CLOSING_BRACKET ∷ [] → ⊥
    none other [] e = other cc
    none other (c ∷ []) e = cc
    none other (c ∷ d ∷ front) e = cc
closed_or_none (b ∷ c ∷ text) = elim (closed_or_none (c ∷ text)) [
  | inl found ↦ inl (b ∷ found.0, ap (λ (t : List ℕ). b ∷ t) found.1)
  | inr none ↦ inr (longer none)
]
  where
    longer : ((front : List ℕ) → c ∷ text ≡ front ++ CLOSING_BRACKET ∷ [] → ⊥) → (front : List ℕ) → b ∷ c ∷ text ≡ front ++ CLOSING_BRACKET ∷ [] → ⊥
    longer none [] e = cc
    longer none (d ∷ front) e = none front cc

element_or_none : (word : List ℕ) → IsElement word ⊎ (IsElement word → ⊥)
element_or_none word = by_bracket (position (λ b. b == OPENING_BRACKET) word) refl
  where
    by_bracket : (bracket : Option ℕ) → bracket ≡ position (λ b. b == OPENING_BRACKET) word → IsElement word ⊎ (IsElement word → ⊥)
    by_bracket None e = inr (no_element word e)
    by_bracket (Some at) e = elim (closed_or_none (drop (at + 1) word)) [
      | inr none ↦ inr (not_closed word at e none)
      | inl closed ↦ elim (index_or_none closed.0) [
        | inr none ↦ inr (λ h. none (index_within word at e closed.0 closed.1 h))
        | inl index ↦ elim (cases_Bool (is_identifier (take at word))) [
          | inr none ↦ inr (no_row word at e none)
          | inl row ↦ inl (element_around word at e closed.0 closed.1 row index)
        ]
      ]
    ]

pub field_or_none : (word : List ℕ) → IsField word ⊎ (IsField word → ⊥)
field_or_none word = elim (cases_Bool (is_identifier word)) [
  | inl name ↦ inl (inl name)
  | inr no_name ↦ elim (element_or_none word) [
    | inl element ↦ inl (inr element)
    | inr no_element_here ↦ inr (λ h. elim h [ inl p ↦ false≢true (sym no_name ∙ p) | inr q ↦ no_element_here q ])
  ]
]
