-- A stamp comes into a list.
use Rattle.std.proofs.Common.{◌≡◌, ◌≢◌, ℕ, inl, inr, List, [], ◌∷◌, ◌++◌, length, set, Some, sym, ◌∙◌, subst, slice_get}
use Rattle.std.proofs.lemmas.Bool.Decides.{eqb_tells}
use Rattle.ceal_memo.specs.Lists.{stamps_at}
use Rattle.ceal_memo.specs.Numbers.{OneList, IsEntered}
use Rattle.ceal_memo.proofs.Numbers.{none_or_some, none_of, push_here, push_other, beyond, set_gets, set_leaves, get_within}
use Rattle.ceal_memo.proofs.Looking.{first_is, second_is, empty_or, list_is, looked}

-- one list changes, to one of a hash of which the others have no stamps
one_list : (old new : List (ℕ × List ℕ)) (hash n : ℕ) (stamps : List ℕ) → OneList old → slice_get new n ≡ Some (hash, stamps)
    → ((i : ℕ) → i ≢ n → slice_get new i ≡ slice_get old i) → ((m : ℕ) (b : List ℕ) → m ≢ n → slice_get old m ≡ Some (hash, b) → b ≡ []) → OneList new
one_list old new hash n stamps unique here others only i j k a b at_i at_j some_a some_b = elim (eqb_tells i n) [
  | inl p ↦ elim (eqb_tells j n) [
    | inl q ↦ p.1 ∙ sym q.1
    | inr q ↦
        let same : k ≡ hash = first_is k hash a stamps (sym at_i ∙ subst (λ (m : ℕ). slice_get new m ≡ Some (hash, stamps)) (sym p.1) here) in
        absurd (some_b (only j b q.1 (sym (others j q.1) ∙ subst (λ (h : ℕ). slice_get new j ≡ Some (h, b)) same at_j)))
  ]
  | inr p ↦ elim (eqb_tells j n) [
    | inl q ↦
        let same : k ≡ hash = first_is k hash b stamps (sym at_j ∙ subst (λ (m : ℕ). slice_get new m ≡ Some (hash, stamps)) (sym q.1) here) in
        absurd (some_a (only i a p.1 (sym (others i p.1) ∙ subst (λ (h : ℕ). slice_get new i ≡ Some (h, a)) same at_i)))
    | inr q ↦ unique i j k a b (sym (others i p.1) ∙ at_i) (sym (others j q.1) ∙ at_j) some_a some_b
  ]
]

module _ (old : List (ℕ × List ℕ)) (unique : OneList old) (hash : ℕ) (stamps : List ℕ) where
  -- into a list that has stamps
  pub entered_again : (n : ℕ) (l : List ℕ) → slice_get old n ≡ Some (hash, l) → l ≢ [] → IsEntered old (set old n (hash, stamps)) hash n stamps
  entered_again n l at some =
      let here = set_gets old n (hash, stamps) (get_within old n (hash, l) at) in
      record {
        here = here;
        others = set_leaves old n (hash, stamps);
        before = list_is old n hash l at ∙ sym (looked old unique n hash l at some);
        place = λ k s ss was. first_is k hash (s ∷ ss) l (sym was ∙ at);
        unique = one_list old (set old n (hash, stamps)) hash n stamps unique here (set_leaves old n (hash, stamps))
            (λ m b other at_m. elim (empty_or b) [
              | inl empty ↦ empty
              | inr more ↦ absurd (other (unique m n hash b l at_m at more some))
            ]);
      }

  module _ (none : stamps_at old hash ≡ []) where
    no_other : (m : ℕ) (b : List ℕ) → slice_get old m ≡ Some (hash, b) → b ≡ []
    no_other m b at = elim (empty_or b) [
      | inl empty ↦ empty
      | inr some ↦ sym (looked old unique m hash b at some) ∙ none
    ]

    -- into a list that was empty
    pub entered_there : (n k : ℕ) → slice_get old n ≡ Some (k, []) → IsEntered old (set old n (hash, stamps)) hash n stamps
    entered_there n k at =
        let here = set_gets old n (hash, stamps) (get_within old n (k, []) at) in
        record {
          here = here;
          others = set_leaves old n (hash, stamps);
          before = list_is old n k [] at ∙ sym none;
          place = λ j s ss was. let differ : s ∷ ss ≡ [] = second_is j k (s ∷ ss) [] (sym was ∙ at) in cc;
          unique = one_list old (set old n (hash, stamps)) hash n stamps unique here (set_leaves old n (hash, stamps)) (λ m b other. no_other m b);
        }

    -- into one that comes last
    pub entered_last : IsEntered old (old ++ (hash, stamps) ∷ []) hash (length old) stamps
    entered_last = record {
      here = push_here old (hash, stamps);
      others = push_other old (hash, stamps);
      before = none_of old (length old) (beyond old) ∙ sym none;
      place = λ k s ss was. absurd (none_or_some (slice_get old (length old)) (k, s ∷ ss) (beyond old) was);
      unique = one_list old (old ++ (hash, stamps) ∷ []) hash (length old) stamps unique (push_here old (hash, stamps)) (push_other old (hash, stamps)) (λ m b other. no_other m b);
    }
