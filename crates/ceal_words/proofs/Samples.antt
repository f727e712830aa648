-- Samples of the definitions, computed.
use Rattle.std.proofs.Common.{◌≡◌, List, [], ◌∷◌, Some, None, refl}
use Rattle.ceal_words.specs.Layout.{pieces_from, free_list}
use Rattle.ceal_words.specs.Lengths.{size_class}
use Rattle.ceal_words.specs.Region.{words_of, spare}
use Rattle.ceal_words.specs.SizeClass.{SizeClass}
use Rattle.ceal_words.specs.declared.slot.Slot.{Slot}

one : size_class 1 ≡ 0
unfolding lib.Count.count_leading_zeros
one = refl

three : size_class 3 ≡ 2
unfolding lib.Count.count_leading_zeros
three = refl

longest : size_class 65536 ≡ 16
unfolding lib.Count.count_leading_zeros
longest = refl

-- three pieces of two words: the first is taken at length 1, the last at length 2
pieces : pieces_from 2 0 (1 ∷ 0 ∷ 2 ∷ []) (5 ∷ 6 ∷ 7 ∷ 8 ∷ 9 ∷ 4 ∷ []) ≡ Some (5 ∷ []) ∷ None ∷ Some (9 ∷ 4 ∷ []) ∷ []
pieces = refl

-- piece 1 names piece 0 as the next one
free : free_list 2 (3 ∷ 0 ∷ 0 ∷ 8 ∷ []) 2 1 ≡ 1 ∷ 0 ∷ []
free = refl

abbrev region : List SizeClass
region = record { size = 1; pieces = None ∷ Some (7 ∷ []) ∷ []; spare = 1 } ∷ []

abbrev slot : Slot
slot = record { chunk = 0; at = 1; len = 1 }

seen : words_of region slot ≡ Some (7 ∷ [])
seen = refl

left : spare region 1 ≡ 1
unfolding lib.Count.count_leading_zeros
left = refl
