-- A list of three cells, and one with a fourth cell in front of them.
use Rattle.std.proofs.Common.{◌≡◌, ℕ, ◌==◌, false, pos, List, [], ◌∷◌, refl, ap, arith}
use Rattle.ceal_base.specs.Block.{Block}
use Rattle.ceal_base.specs.declared.kind.Shape.TheVariants.{Struct, ModPtr}
use Rattle.ceal_base.specs.declared.word.BlockId.TheVariants.{Input}
use Rattle.ceal_base.specs.declared.word.Place.{Place}
use Rattle.ceal_base.specs.declared.word.Word.{Word}
use Rattle.ceal_base.specs.declared.word.Word.TheVariants.{Num, Null, Block as BlockWord}
use Rattle.ceal_code.specs.Replay.{In, bases}
use Rattle.ceal_cost.specs.Mapping.{MapNames, AreCells, HasNewCell}

abbrev place : ℕ → Place
place n = record { block = Input n; field = 0 }

abbrev pointer : Word → Block
pointer word = record { shape = ModPtr 0; words = word ∷ [] }

abbrev cell : ℕ → Word → Block
cell head tail = record { shape = Struct 0; words = Num (pos head) ∷ tail ∷ [] }

-- input 0 is the list and input 1 its image; inputs 2, 3 and 4 are cells, and 5 is a cell before them
abbrev inputs : ℕ → List Block
inputs first =
    pointer (BlockWord (Input first)) ∷ pointer Null ∷ cell 1 (BlockWord (Input 3)) ∷ cell 2 (BlockWord (Input 4)) ∷ cell 3 Null ∷ cell 0 (BlockWord (Input 2)) ∷ []

not-first : (b c : ℕ) (cells : List ℕ) → (b == c) ≡ false → ¬ (In b cells) → ¬ (In b (c ∷ cells))
not-first b c cells e rest In.here = absurd (grind (arith, e))
not-first b c cells e rest (In.there i) = rest i

module _ (names : MapNames) where
  cells : (first : ℕ) → AreCells names (inputs first) (2 ∷ 3 ∷ 4 ∷ [])
  unfolding bases
  cells first =
      AreCells.more (record { words = Num (pos 1) ∷ BlockWord (Input 3) ∷ []; there = refl; tail = refl })
      (AreCells.more (record { words = Num (pos 2) ∷ BlockWord (Input 4) ∷ []; there = refl; tail = refl })
      (AreCells.more (record { words = Num (pos 3) ∷ Null ∷ []; there = refl; tail = refl }) AreCells.none))

  new-first : HasNewCell names (inputs 2) (inputs 5) (place 0) (place 1) [] 5 2 (3 ∷ 4 ∷ [])
  unfolding bases
  new-first = record {
    was = record { first = refl; all = cells 2 };
    is = record { first = refl; all = AreCells.more (record { words = Num (pos 0) ∷ BlockWord (Input 2) ∷ []; there = refl; tail = refl }) (cells 5) };
    other = not-first 5 2 (3 ∷ 4 ∷ []) refl (not-first 5 3 (4 ∷ []) refl (not-first 5 4 [] refl (λ i. elim i [ ])));
    apart = λ c i e. let n : 0 ≡ 1 = ap (λ p. p.field) e in absurd (grind (arith, n));
  }
