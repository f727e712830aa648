-- A list of distinct stamps, and what is asked of it (order maintenance: Dietz and Sleator, STOC 1987; Bender, Cole,
-- Demaine, Farach-Colton and Zito, ESA 2002).
use Rattle.std.specs.Prelude.{◌≡◌, ◌≢◌, ◌↔◌, ◌<◌, ℕ, ◌+◌, ◌^◌, List, [], ◌∷◌, length, Option, None, Some, Bool, true}
use Rattle.std.specs.Prelude.{false, ◌==◌, if◌then◌else◌}

-- what a caller sees of an order: its stamps, the first one first, and how many may be inserted without taking memory
pub record Listing : Type 0 where
  pub stamps : List ℕ
  pub spare : ℕ

-- for how many insertions room is made at most beyond those that are asked for
abbrev pub room_beyond : ℕ
room_beyond = 63

-- a number is none of these
abbrev pub NotIn : ℕ → List ℕ → Type 0
NotIn s [] = Unit {0}
NotIn s (x ∷ xs) = (s ≢ x) × NotIn s xs

-- no number occurs twice
abbrev pub Distinct : List ℕ → Type 0
Distinct [] = Unit {0}
Distinct (x ∷ xs) = NotIn x xs × Distinct xs

-- each of these is below n
abbrev pub AllBelow : ℕ → List ℕ → Type 0
AllBelow n [] = Unit {0}
AllBelow n (x ∷ xs) = (x < n) × AllBelow n xs

-- whether a number is one of these
abbrev pub is_in : ℕ → List ℕ → Bool
is_in s [] = false
is_in s (x ∷ xs) = if x == s then true else is_in s xs

-- what is true of every order: its stamps are distinct, each number is below that of all stamps and spare places
-- together, and those are fewer than 2^32
pub record IsOrder (order : Listing) : Type 0 where
  pub distinct : Distinct order.stamps
  pub below : AllBelow (length order.stamps + order.spare) order.stamps
  pub few : length order.stamps + order.spare < 2 ^ 32

-- the number of stamps before one; one stamp is before another where its place is the lower one
abbrev pub place : ℕ → List ℕ → ℕ
place s [] = 0
place s (x ∷ xs) = if x == s then 0 else 1 + place s xs

-- the first of a list
abbrev pub head_of : List ℕ → Option ℕ
head_of [] = None
head_of (x ∷ xs) = Some x

-- the one after a stamp, None for the last
abbrev pub successor : ℕ → List ℕ → Option ℕ
successor s [] = None
successor s (x ∷ xs) = if x == s then head_of xs else successor s xs

-- with a new stamp directly after s
abbrev pub with_after : ℕ → ℕ → List ℕ → List ℕ
with_after s new [] = []
with_after s new (x ∷ xs) = if x == s then x ∷ new ∷ xs else x ∷ with_after s new xs

-- without s
abbrev pub without : ℕ → List ℕ → List ℕ
without s [] = []
without s (x ∷ xs) = if x == s then xs else x ∷ without s xs

-- the second list has the stamps of the first, in their order, and one more
pub record OneMore (more : ℕ) (fewer all : List ℕ) : Type 0 where
  pub absent : is_in more fewer ≡ false
  pub there : is_in more all ≡ true
  pub others : (s : ℕ) → is_in s fewer ≡ true → is_in s all ≡ true
  pub only : (s : ℕ) → is_in s all ≡ true → s ≢ more → is_in s fewer ≡ true
  pub order : (a b : ℕ) → is_in a fewer ≡ true → is_in b fewer ≡ true
      → (place a fewer < place b fewer) ↔ (place a all < place b all)
