-- Computed samples of the definitions: the draws are those of the sample `rand` of the C standard.
use Rattle.std.proofs.Common.{◌≡◌, refl}
use Rattle.ceal_gen.specs.Draws.{draw, next_state, state_after}

one_draw : next_state 1 ≡ 1103527590
one_draw = refl

first_of_seed_one : draw 1 1 ≡ 16838
unfolding state_after
first_of_seed_one = refl

second_of_seed_one : draw 1 2 ≡ 5758
unfolding state_after
second_of_seed_one = refl
