-- A text with prefixes, byte by byte.
use Rattle.std.proofs.Common.{◌≡◌, ℕ, ◌+◌, ◌<◌, ◌≤◌, Bool, nat_eq, List, [], ◌∷◌, ◌++◌, length, drop, get_or, sym, ap, ◌∙◌, append_assoc, append-nil}
use Rattle.std.proofs.lemmas.List.{drop_more, drop_all}
use Rattle.ceal_many.specs.Prefixes.{prefix_if, with_prefix}

module _ (name text bytes whole : List ℕ) (i : ℕ) (begins : Bool) where
  step : i < length bytes → with_prefix name begins (drop i bytes)
      ≡ prefix_if begins name ++ get_or bytes i 0 ∷ with_prefix name (nat_eq (get_or bytes i 0) 10) (drop (i + 1) bytes)
  unfolding with_prefix
  step h = ap (with_prefix name begins) (drop_more bytes i 0 h)

  pub went : i < length bytes → text ++ with_prefix name begins (drop i bytes) ≡ whole
      → ((text ++ prefix_if begins name) ++ get_or bytes i 0 ∷ []) ++ with_prefix name (nat_eq (get_or bytes i 0) 10) (drop (i + 1) bytes) ≡ whole
  went h same =
      let rest = with_prefix name (nat_eq (get_or bytes i 0) 10) (drop (i + 1) bytes) in
      append_assoc (text ++ prefix_if begins name) (get_or bytes i 0 ∷ []) rest
      ∙ append_assoc text (prefix_if begins name) (get_or bytes i 0 ∷ rest)
      ∙ sym (ap (λ (l : List ℕ). text ++ l) (step h)) ∙ same

  pub over : length bytes ≤ i → text ++ with_prefix name begins (drop i bytes) ≡ whole → text ≡ whole
  unfolding with_prefix
  over h same = sym (ap (λ (l : List ℕ). text ++ with_prefix name begins l) (drop_all i bytes h) ∙ append-nil text) ∙ same
