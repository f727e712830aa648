-- Reads of two keys that may share a hash, and a read of a third key.
use Rattle.std.proofs.Common.{◌≡◌, ℕ, List, [], ◌∷◌, Option, None, Some, refl}
use Rattle.ceal_base.specs.declared.forest.Key.TheVariants.{ModInt, ModPtr}
use Rattle.ceal_memo.specs.Keys.{EntryKey, OfAlloc}
use Rattle.ceal_memo.specs.Memo.{no_entries, with_key, without_key}

-- time is told by an order of stamps, and not by their numbers
abbrev order : List ℕ
order = 0 ∷ 7 ∷ 3 ∷ 9 ∷ 5 ∷ []

-- the entries at 7 and 5 have one key, that at 9 another
abbrev entries : ℕ → Option EntryKey
entries = with_key 5 (OfAlloc ModInt) (with_key 9 (OfAlloc (ModPtr 3)) (with_key 7 (OfAlloc ModInt) no_entries))

at_nine : entries 9 ≡ Some (OfAlloc (ModPtr 3))
at_nine = refl

nothing_there : entries 3 ≡ None
nothing_there = refl

taken_out : without_key 9 entries 9 ≡ None
taken_out = refl
