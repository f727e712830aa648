-- The record of a run of INC, and blocks in the order of their allocations. INC: unit 0 reads its first parameter, and
-- unit 1 writes one more than the value to the second.
use Rattle.std.proofs.Common.{◌≡◌, ℕ, pos, Some, None, List, [], ◌∷◌, refl, ap}
use Rattle.ceal_base.specs.Block.{Block}
use Rattle.ceal_base.specs.Trace.{Trace, Nothing, Stepped, Wrote, Allocated, flat}
use Rattle.ceal_base.specs.declared.word.BlockId.TheVariants.{Core}
use Rattle.ceal_base.specs.declared.word.Place.{Place}
use Rattle.ceal_base.specs.declared.word.Word.{Word}
use Rattle.ceal_base.specs.declared.word.Word.TheVariants.{Num, At}
use Rattle.ceal_base.specs.declared.call.Call.{Call}
use Rattle.ceal_base.specs.declared.forest.Key.TheVariants.{ModInt as IntKey}
use Rattle.ceal_base.specs.declared.recorded.Record.{Record}
use Rattle.ceal_code.proofs.Replay.Increment.{inc, place, inputs, args, items}
use Rattle.ceal_code.specs.Replay.{bases, stored}
use Rattle.ceal_code.specs.Step.{first_word}
use Rattle.ceal_record.specs.Numbers.{place_in}
use Rattle.ceal_record.specs.Recorded.{in_order, left_by, IsRecordOf}

abbrev call : Call
call = record { function = 0; args = args }

-- a record of the call where a is 4, with what b holds then
abbrev recorded : ℕ → Record
recorded after = record { inputs = inputs 4 0; function = 0; args = args; forest = flat (items 4 5); memory = record { inputs = inputs 4 after; made = [] } }

its_record : IsRecordOf inc (inputs 4 0) call (items 4 5) (recorded 5)
unfolding in_order bases stored
its_record = record { blocks = refl; function = refl; args = refl; items = refl; memory = record { inputs = refl; made = refl } }

-- what b holds
abbrev of_b : List Block → Word
of_b (a ∷ b ∷ more) = first_word b.words
of_b _ = Num (pos 0)

-- no record says that b holds 6 then
differ : inputs 4 6 ≡ inputs 4 5 → ⊥
differ same = absurd (let no : Num (pos 6) ≡ Num (pos 5) = ap of_b same in cc)

not_its_record : IsRecordOf inc (inputs 4 0) call (items 4 5) (recorded 6) → ⊥
unfolding in_order bases stored
not_its_record is = differ is.memory.inputs

left_in_b : left_by inc (inputs 4 0) (items 4 5) (place 1) ≡ Num (pos 5)
unfolding bases stored
left_in_b = refl

-- a trace that allocates the blocks 7 and 3, and writes the one into the other: in a record they are 0 and 1
abbrev cell : ℕ → Place
cell b = record { block = Core b; field = 0 }

abbrev allocating : ℕ → ℕ → Trace
allocating b c = Stepped (Allocated (Core b) IntKey (Stepped (Allocated (Core c) IntKey (Stepped (Wrote (cell c) (At (cell b)) Nothing)))))

blocks_in_order : in_order (allocating 7 3) ≡ allocating 0 1
unfolding in_order
blocks_in_order = refl

place_of_three : place_in (7 ∷ 3 ∷ []) 3 ≡ Some 1
place_of_three = refl

no_place_of_five : place_in (7 ∷ 3 ∷ []) 5 ≡ None
no_place_of_five = refl
