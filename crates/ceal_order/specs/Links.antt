-- Stamps as a list of links.
use Rattle.std.specs.Prelude.{◌≡◌, ◌≢◌, ◌<◌, ◌≤◌, ◌^◌, ◌+◌, ℕ, List, [], ◌∷◌, ◌++◌, length, slice_index_or, suc, zero}
use Rattle.std.specs.Prelude.{◌==◌, if◌then◌else◌}
use Rattle.ceal_order.specs.declared.link.Link.{Link}
use Rattle.ceal_order.specs.Stamps.{Distinct, AllBelow}

-- the index that stands for no link
abbrev pub no_link : ℕ
no_link = 4294967295

abbrev pub blank : Link
blank = record { label = 0; prev = 0; next = 0 }

abbrev pub next_of : List Link → ℕ → ℕ
next_of links k = (slice_index_or links k blank).next

abbrev pub prev_of : List Link → ℕ → ℕ
prev_of links k = (slice_index_or links k blank).prev

abbrev pub label_of : List Link → ℕ → ℕ
label_of links k = (slice_index_or links k blank).label

-- the links from one on, as far as there are any, and at most n
abbrev pub chain : ℕ → (ℕ → ℕ) → ℕ → List ℕ
chain zero next at = []
chain (suc n) next at = if at == no_link then [] else at ∷ chain n next (next at)

-- the stamps, which begin at the link 0
abbrev pub stamps_of : List Link → List ℕ
stamps_of links = chain (length links) (next_of links) 0

-- the links that are kept for new stamps
abbrev pub spares_of : List Link → ℕ → List ℕ
spares_of links free = chain (length links) (next_of links) free

-- following next from one link on gives these, and then no link
abbrev pub Chained : (ℕ → ℕ) → ℕ → List ℕ → Type 0
Chained next at [] = at ≡ no_link
Chained next at (x ∷ xs) = (at ≡ x) × Chained next (next x) xs

-- the one after a link points back to it, and has a higher label
abbrev pub Ahead : (ℕ → ℕ) → (ℕ → ℕ) → ℕ → List ℕ → Type 0
Ahead prev label x [] = Unit {0}
Ahead prev label x (y ∷ ys) = (prev y ≡ x) × (label x < label y)

-- links point back, and their labels rise and have 62 bits
abbrev pub Rising : (ℕ → ℕ) → (ℕ → ℕ) → List ℕ → Type 0
Rising prev label [] = Unit {0}
Rising prev label (x ∷ xs) = (label x < 2 ^ 62) × Ahead prev label x xs × Rising prev label xs

-- these stamps and these spare links are all the links
pub record Sound (links : List Link) (free spare : ℕ) (stamps spares : List ℕ) : Type 0 where
  pub live : Chained (next_of links) 0 stamps
  pub kept : Chained (next_of links) free spares
  pub rising : Rising (prev_of links) (label_of links) stamps
  pub distinct : Distinct (stamps ++ spares)
  pub within : AllBelow (length links) (stamps ++ spares)
  pub few : length links < 2 ^ 32
  pub all : length stamps + length spares ≡ length links
  pub room : length spares ≡ spare

-- links that lie one after another, with rising labels
pub record IsLine (links : List Link) (stamps : List ℕ) : Type 0 where
  pub live : Chained (next_of links) 0 stamps
  pub rising : Rising (prev_of links) (label_of links) stamps
  pub distinct : Distinct stamps
  pub within : AllBelow (length links) stamps
  pub few : length links < 2 ^ 32
  pub all : length stamps ≤ length links

-- a label that is free directly after a link
pub record Between (links : List Link) (at label : ℕ) : Type 0 where
  pub above : label_of links at < label
  pub ends : next_of links at ≡ no_link → label < 2 ^ 62
  pub below : next_of links at ≢ no_link → label < label_of links (next_of links at)

-- nothing but labels has changed
pub record SameLinks (old new : List Link) : Type 0 where
  pub long : length new ≡ length old
  pub next : (k : ℕ) → next_of new k ≡ next_of old k
  pub prev : (k : ℕ) → prev_of new k ≡ prev_of old k

-- a new link was put after another
pub record Spliced (old new : List Link) (at fresh label : ℕ) : Type 0 where
  pub long : length new ≡ length old
  pub next_at : next_of new at ≡ fresh
  pub next_fresh : next_of new fresh ≡ next_of old at
  pub next_other : (k : ℕ) → k ≢ at → k ≢ fresh → next_of new k ≡ next_of old k
  pub prev_fresh : prev_of new fresh ≡ at
  pub prev_next : next_of old at ≢ no_link → prev_of new (next_of old at) ≡ fresh
  pub prev_other : (k : ℕ) → k ≢ fresh → k ≢ next_of old at → prev_of new k ≡ prev_of old k
  pub label_fresh : label_of new fresh ≡ label
  pub label_other : (k : ℕ) → k ≢ fresh → label_of new k ≡ label_of old k

-- a link was taken out, and is before a spare one
pub record Unlinked (old new : List Link) (at free : ℕ) : Type 0 where
  pub long : length new ≡ length old
  pub next_prev : next_of new (prev_of old at) ≡ next_of old at
  pub next_gone : next_of new at ≡ free
  pub next_other : (k : ℕ) → k ≢ at → k ≢ prev_of old at → next_of new k ≡ next_of old k
  pub prev_next : next_of old at ≢ no_link → prev_of new (next_of old at) ≡ prev_of old at
  pub prev_other : (k : ℕ) → k ≢ next_of old at → prev_of new k ≡ prev_of old k
  pub label_other : (k : ℕ) → label_of new k ≡ label_of old k

-- `more` spare links were added, and the first of them leads to those from free on
pub record Grown (old new : List Link) (free first more : ℕ) : Type 0 where
  pub long : length new ≡ length old + more
  pub stamps : (spare : ℕ) → Sound old free spare (stamps_of old) (spares_of old free) → stamps_of new ≡ stamps_of old
  pub sound : (spare : ℕ) → Sound old free spare (stamps_of old) (spares_of old free)
      → Sound new first (spare + more) (stamps_of new) (spares_of new first)
