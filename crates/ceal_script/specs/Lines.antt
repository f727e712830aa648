-- Which bytes are a line of which command.
use Rattle.std.specs.Prelude.{◌≡◌, ℕ, Bool, false, ◌&&◌, nat_eq, IsTrue, List, [], ◌∷◌, codes}
use Rattle.std.specs.List.{AllZip}
use Rattle.ceal_script.specs.Spelling.{IsIdentifier, IsName, SpellsKind, SpellsPlace, SpellsReads, SpellsValue}
use Rattle.ceal_script.specs.Words.{HasWords}
use Rattle.ceal_script.specs.declared.command.Command.{Command}
use Rattle.ceal_script.specs.declared.command.Command.TheVariants.{Blank, Mod, New, Set, Run, Propagate, Slice, Get}
use Rattle.ceal_script.specs.declared.command.Command.TheVariants.{Show, Blocks, Steps, Work, Bound}

abbrev pub SLASH : ℕ
SLASH = 47

-- a word that begins with `//`
abbrev pub is_comment : List ℕ → Bool
is_comment (a ∷ b ∷ bs) = nat_eq a SLASH && nat_eq b SLASH
is_comment _ = false

-- no words, or the words of a comment
abbrev pub IsBlank : List (List ℕ) → Type 0
IsBlank [] = Unit {0}
IsBlank (word ∷ words) = IsTrue (is_comment word)

-- The words are those of the command.
abbrev pub Says : List (List ℕ) → Command → Type 0
Says words Blank = IsBlank words
-- `mod NAME int VALUE`, `mod NAME STRUCT VALUE`
Says words (Mod name kind value) =
    (k v : List ℕ) × (words ≡ codes "mod" ∷ name ∷ k ∷ v ∷ []) × IsName name × SpellsKind k kind × SpellsValue v value
-- `new NAME STRUCT VALUES`
Says words (New name shape values) =
    (vs : List (List ℕ)) × (words ≡ codes "new" ∷ name ∷ shape ∷ vs) × IsName name × IsIdentifier shape
    × AllZip SpellsValue vs values
-- `set PLACE VALUE`
Says words (Set place value) =
    (p v : List ℕ) × (words ≡ codes "set" ∷ p ∷ v ∷ []) × SpellsPlace p place × SpellsValue v value
-- `run FUNCTION VALUES`
Says words (Run function args) =
    (vs : List (List ℕ)) × (words ≡ codes "run" ∷ function ∷ vs) × IsIdentifier function × AllZip SpellsValue vs args
Says words Propagate = words ≡ codes "propagate" ∷ []
-- `propagate READS`
Says words (Slice reads) = (k : List ℕ) × (words ≡ codes "propagate" ∷ k ∷ []) × SpellsReads k reads
-- `get PLACE`
Says words (Get place) = (p : List ℕ) × (words ≡ codes "get" ∷ p ∷ []) × SpellsPlace p place
-- `show NAME`
Says words (Show name) = (words ≡ codes "show" ∷ name ∷ []) × IsName name
Says words Blocks = words ≡ codes "blocks" ∷ []
Says words Steps = words ≡ codes "steps" ∷ []
Says words Work = words ≡ codes "work" ∷ []
Says words Bound = words ≡ codes "bound" ∷ []

-- The line is one of the command.
pub record IsLineOf (command : Command) (line : List ℕ) : Type 0 where
  pub words : List (List ℕ)
  pub has_words : HasWords line words
  pub says : Says words command
