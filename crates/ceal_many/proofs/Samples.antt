-- Computed samples of the definitions.
use Rattle.std.proofs.Common.{◌≡◌, [], ◌∷◌, refl}
use Rattle.std.specs.Prelude.{codes}
use Rattle.ceal_many.specs.Lines.{Blank, For, Unreadable, said}
use Rattle.ceal_many.specs.Prefixes.{prefixed, with_prefix}
use Rattle.ceal_many.specs.Alone.{names_after, own_lines}

for_a_session : said (codes "@x mod a int 4") ≡ For (codes "x") (codes "mod a int 4")
unfolding said
for_a_session = refl

behind_a_tab : said (codes "@x_1\t steps") ≡ For (codes "x_1") (codes " steps")
unfolding said
behind_a_tab = refl

-- the line for the session may be missing
name_alone : said (codes "@x") ≡ For (codes "x") []
unfolding said
name_alone = refl

name_and_space : said (codes "@x ") ≡ For (codes "x") []
unfolding said
name_and_space = refl

space_before : said (codes " @x steps") ≡ Unreadable
unfolding said
space_before = refl

null_is_no_name : said (codes "@null steps") ≡ Unreadable
unfolding said
null_is_no_name = refl

no_name : said (codes "mod c int 1") ≡ Unreadable
unfolding said
no_name = refl

comment : said (codes " // @x steps") ≡ Blank
unfolding said
comment = refl

nothing : said [] ≡ Blank
unfolding said
nothing = refl

-- each line of a reply has the prefix, an empty one too
three_lines : prefixed (codes "x") (codes "a\n\nb\n") ≡ codes "x: a\nx: \nx: b\n"
unfolding with_prefix
three_lines = refl

no_line : prefixed (codes "x") [] ≡ []
unfolding with_prefix
no_line = refl

-- the names in the order in which they first come, and the lines of one
two_names : names_after [] (codes "@x a" ∷ codes "" ∷ codes "@y b" ∷ codes "@x c" ∷ []) ≡ codes "x" ∷ codes "y" ∷ []
unfolding said names_after
two_names = refl

lines_of_one : own_lines (codes "x") (codes "@x a" ∷ codes "" ∷ codes "@y b" ∷ codes "@x c" ∷ []) ≡ codes "a" ∷ codes "c" ∷ []
unfolding said own_lines
lines_of_one = refl
