-- A modifiable that is written twice and read three times: what each read sees, and which of them a change affects.
use Rattle.std.proofs.Common.{◌≡◌, ℕ, pos, List, [], ◌∷◌, refl, arith, lit<}
use Rattle.ceal_base.specs.declared.word.Word.TheVariants.{Num}
use Rattle.ceal_mods.specs.Cell.{value_before, latest_value, with_write, without_write, with_read, Rises, Sees, IsAffected}
use Rattle.ceal_mods.specs.Slots.{no_slot, slot_in}
use Rattle.ceal_mods.specs.Writes.{Write}
use Rattle.ceal_mods.specs.declared.cell.Cell.{Cell}

-- time is told by an order of stamps, and not by their numbers
abbrev order : List ℕ
order = 0 ∷ 7 ∷ 3 ∷ 9 ∷ 5 ∷ 2 ∷ 8 ∷ []

abbrev write : ℕ → ℕ → Write
write s n = record { stamp = s; value = Num (pos n) }

-- it holds 4, is read at 7, gets 5 at 3, is read at 9, gets 6 at 5, and is read at 2
abbrev cell : Cell
cell = record { base = Num (pos 4); writes = write 3 5 ∷ write 5 6 ∷ []; reads = 7 ∷ 9 ∷ 2 ∷ [] }

it_rises : Rises order cell
it_rises = record { writes = (refl, (lit< tt, tt), (refl, tt, tt)); reads = (refl, (lit< tt, (lit< tt, tt)), (refl, (lit< tt, tt), (refl, tt, tt))) }

-- the write before a stamp counts, and none after it
the_base : value_before order 7 cell ≡ Num (pos 4)
the_base = refl

the_first_write : value_before order 9 cell ≡ Num (pos 5)
the_first_write = refl

the_second_write : value_before order 2 cell ≡ Num (pos 6)
the_second_write = refl

without_the_second : value_before order 2 (without_write 5 cell) ≡ Num (pos 5)
without_the_second = refl

at_the_end : latest_value cell ≡ Num (pos 6)
at_the_end = refl

-- a write takes its place in time among the others, and so does a read
written_between : (with_write order 9 (Num (pos 1)) cell).writes ≡ write 3 5 ∷ write 9 1 ∷ write 5 6 ∷ []
written_between = refl

read_at_the_end : (with_read order 8 cell).reads ≡ 7 ∷ 9 ∷ 2 ∷ 8 ∷ []
read_at_the_end = refl

-- another value at 3 affects the read at 9, and not the one at 2, since the write at 5 is between
affected : IsAffected order cell 3 9
affected = record {
  sees = record { there = refl; behind = lit< tt; clear = λ w there later. grind (arith) };
  earliest = λ other sees. let there = sees.there in let behind = sees.behind in grind (arith);
}

not_affected : Sees order cell 3 2 → ⊥
not_affected sees = absurd (let between = sees.clear 5 refl (lit< tt) in omega (arith, between))

-- rows of slots by two numbers
a_slot : slot_in ((4 ∷ []) ∷ (no_slot ∷ 6 ∷ []) ∷ []) 1 1 ≡ 6
a_slot = refl

no_row : slot_in ((4 ∷ []) ∷ []) 1 1 ≡ no_slot
no_row = refl
