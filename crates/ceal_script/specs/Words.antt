-- The words of a line.
use Rattle.std.specs.Prelude.{◌≡◌, ℕ, List, [], ◌∷◌, ◌++◌, map, IsTrue, IsFalse}
use Rattle.std.specs.Borrow.{Bor}
use Rattle.std.specs.List.{AllByRecursion}
use Rattle.ceal_script.specs.Characters.{is_gap}

-- only spaces and tabs
abbrev pub AreGaps : List ℕ → Type 0
AreGaps bytes = AllByRecursion (λ b. IsTrue (is_gap b)) bytes

-- at least one byte, and no space or tab
abbrev pub IsWord : List ℕ → Type 0
IsWord [] = ⊥
IsWord (b ∷ bs) = AllByRecursion (λ c. IsFalse (is_gap c)) (b ∷ bs)

-- the line ends here, or a space or a tab follows
abbrev pub EndsWord : List ℕ → Type 0
EndsWord [] = Unit {0}
EndsWord (b ∷ bs) = IsTrue (is_gap b)

-- The line is spaces and tabs, a whole word, and the rest.
pub record HasWord (line word rest : List ℕ) : Type 0 where
  pub gaps : List ℕ
  pub are_gaps : AreGaps gaps
  pub is_word : IsWord word
  pub ends : EndsWord rest
  pub whole : line ≡ gaps ++ (word ++ rest)

-- These are the words of the line: spaces and tabs are between them, and belong to none.
unfoldable pub HasWords : List ℕ → List (List ℕ) → Type 0
HasWords line [] = AreGaps line
HasWords line (word ∷ words) = (rest : List ℕ) × HasWord line word rest × HasWords rest words

-- what slices of bytes have
abbrev pub texts : List (Bor (List ℕ)) → List (List ℕ)
texts words = map (λ word. word.now) words
