-- The writes of a place.
use Rattle.std.specs.Prelude.{◌≡◌, ⊤, ℕ, Option, Some, None, List, [], ◌∷◌, nat_lt, insert, ◌==◌, if◌then◌else◌}
use Rattle.ceal_base.specs.declared.word.Word.{Word}
use Rattle.ceal_order.specs.Stamps.{place}
use Rattle.ceal_order.specs.Rising.{count_before}

-- a write: its stamp, and its value
pub record Write : Type 0 where
  pub stamp : ℕ
  pub value : Word

-- the stamps of writes
abbrev pub stamps_of : List Write → List ℕ
stamps_of [] = []
stamps_of (w ∷ ws) = w.stamp ∷ stamps_of ws

-- stamps with their values
abbrev pub written : List ℕ → List Word → List Write
written [] vs = []
written (s ∷ ss) [] = []
written (s ∷ ss) (v ∷ vs) = record { stamp = s; value = v } ∷ written ss vs

-- the value of the write at a stamp, None where there is no write
abbrev pub written_at : ℕ → List Write → Option Word
written_at s [] = None
written_at s (w ∷ ws) = if w.stamp == s then Some w.value else written_at s ws

-- the value of the last of these, the base where there are none
abbrev pub last_of : Word → List Write → Word
last_of base [] = base
last_of base (w ∷ ws) = last_of w.value ws

-- those before a stamp
abbrev pub those_before : List ℕ → ℕ → List Write → List Write
those_before order s [] = []
those_before order s (w ∷ ws) =
    if nat_lt (place w.stamp order) (place s order) then w ∷ those_before order s ws else those_before order s ws

-- each of these writes is told with its value
abbrev pub AreTold : (ℕ → Option Word) → List Write → Type 0
AreTold tells [] = ⊤
AreTold tells (w ∷ ws) = (tells w.stamp ≡ Some w.value) × AreTold tells ws

-- with one more, after those before it
abbrev pub with_one : List ℕ → ℕ → Word → List Write → List Write
with_one order s value ws = insert ws (count_before order s (stamps_of ws)) (record { stamp = s; value = value })

-- without the one at a stamp
abbrev pub without_one : ℕ → List Write → List Write
without_one s [] = []
without_one s (w ∷ ws) = if w.stamp == s then ws else w ∷ without_one s ws
