use Rattle.std.proofs.Common.{◌≡◌, ◌-◌, ◌^◌, true, false, [], ◌∷◌, Some, rules, refl}
use Rattle.ceal_io.specs.Calls.{has_number, Calls, next_fails, after_call}
use Rattle.ceal_io.specs.Streams.{one_more_fault, LosesCount, GrowsByPrefix}

-- the second call is listed
abbrev calls : Calls
calls = record { fails = 2 ∷ 5 ∷ []; made = 1; faults = 0 }

listed : next_fails calls ≡ true
unfolding has_number
listed = refl

counted : after_call calls ≡ record { fails = 2 ∷ 5 ∷ []; made = 2; faults = 1 }
unfolding has_number
counted = refl

not_listed : next_fails (after_call calls) ≡ false
unfolding has_number
not_listed = refl

at_the_end : one_more_fault (2 ^ 64 - 1) ≡ 2 ^ 64 - 1
at_the_end = refl

lost_two : LosesCount (Some (7 ∷ 8 ∷ 9 ∷ [])) (Some (9 ∷ [])) 2
lost_two = (7 ∷ 8 ∷ [], refl, refl)

grown_by_one : GrowsByPrefix (Some (7 ∷ [])) (Some (7 ∷ 8 ∷ [])) (8 ∷ 9 ∷ [])
grown_by_one = (1, search rules, refl)
