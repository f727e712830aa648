-- A modifiable of its own in a heap: live, revoked and released.
use Rattle.std.proofs.Common.{◌≡◌, zero, suc, pos, Some, None, List, [], ◌∷◌, refl}
use Rattle.ceal_base.specs.declared.kind.Shape.TheVariants.{ModInt}
use Rattle.ceal_base.specs.declared.word.BlockId.TheVariants.{Input, Core}
use Rattle.ceal_base.specs.declared.word.Word.TheVariants.{Num, Null, Block as BlockWord, At}
use Rattle.ceal_heap.specs.Cells.{words_in}
use Rattle.ceal_heap.specs.Parts.{filling}
use Rattle.ceal_heap.specs.Heap.{Contents, Known, Live, Revoked, standing, block_of, live_count, revoked_count, revoked, released, NoneReleased, IsFree}
use Rattle.ceal_heap.specs.declared.number.Held.{Held}
use Rattle.ceal_heap.specs.declared.number.State.{State}
use Rattle.ceal_heap.specs.declared.number.State.TheVariants.{Live as LiveState, Revoked as RevokedState, Released as ReleasedState}
use Rattle.ceal_words.specs.SizeClass.{SizeClass}
use Rattle.ceal_words.specs.declared.slot.Slot.{Slot}

-- a word takes two cells, of which the first says what it is: a number, null, a core block, and a field of an input
words : words_in (0 ∷ 7 ∷ 1 ∷ 0 ∷ 3 ∷ 2 ∷ 4 ∷ 4294967301 ∷ [])
    ≡ Num (pos 7) ∷ Null ∷ BlockWord (Core 2) ∷ At (record { block = Input 5; field = 1 }) ∷ []
words = refl

-- a block of which one word is kept, with a zero and two nulls after it
parts : filling (record { kept = 1; zeros = 1; nulls = 2 }) ≡ Num (pos 0) ∷ Null ∷ Null ∷ []
parts = refl

-- the slot of two cells with the number 7
abbrev slot : Slot
slot = record { chunk = 1; at = 0; len = 2 }

abbrev region : List SizeClass
region = record { size = 1; pieces = []; spare = 0 } ∷ record { size = 2; pieces = Some (0 ∷ 7 ∷ []) ∷ []; spare = 0 } ∷ []

abbrev held : Held
held = record { slot = slot; parts = record { kept = 1; zeros = 0; nulls = 0 } }

-- a heap of one number
abbrev heap : State → Contents
heap state = record { numbers = record { shape = ModInt; state = state } ∷ []; region = region }

abbrev block : Known
block = record { shape = ModInt; words = Num (pos 7) ∷ []; slot = slot }

is_live : standing (heap (LiveState held)) (Core 0) ≡ Live block
is_live = refl

-- a revoked block is no longer live, and is still read
is_revoked : standing (heap (RevokedState held)) (Core 0) ≡ revoked (Live block)
is_revoked = refl

still_read : block_of (heap (RevokedState held)) (Core 0) ≡ Some block
still_read = refl

none_live : live_count (heap (RevokedState held)) ≡ 0
none_live = refl

one_revoked : revoked_count (heap (RevokedState held)) ≡ 1
one_revoked = refl

-- a released block is read no more
is_released : standing (heap ReleasedState) (Core 0) ≡ released (Revoked block)
is_released = refl

not_read : block_of (heap ReleasedState) (Core 0) ≡ None
not_read = refl

-- its number is given out again, and not while the block can be read: then the next number is
comes_again : IsFree (heap ReleasedState) (Core 0) (Some ModInt)
comes_again = refl

not_while_revoked : IsFree (heap (RevokedState held)) (Core 0) (Some ModInt) → ⊥
not_while_revoked same = absurd (cc)

none_released : NoneReleased (heap (RevokedState held))
none_released (Input n) shape same = absurd (cc)
none_released (Core zero) shape same = absurd (cc)
none_released (Core (suc n)) shape same = absurd (cc)

another_number : IsFree (heap (RevokedState held)) (Core 1) None
another_number = (refl, none_released)
