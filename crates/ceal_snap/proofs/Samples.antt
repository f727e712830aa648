-- Computed samples of the definitions.
use Rattle.std.proofs.Common.{◌≡◌, [], ◌∷◌, refl}
use Rattle.std.specs.Prelude.{codes}
use Rattle.ceal_dump.specs.Reading.{many_from}
use Rattle.ceal_snap.specs.Reading.{name_at, names_from}
use Rattle.ceal_snap.specs.SaveText.{name_lines}

text_of_names : name_lines (codes "a" ∷ codes "list" ∷ []) ≡ codes "a\nlist\n"
unfolding name_lines
text_of_names = refl

read_of_names : names_from 2 (codes "a\nlist\nceal-trace 1\n") ≡ (codes "a" ∷ codes "list" ∷ [], codes "ceal-trace 1\n")
unfolding many_from name_at
read_of_names = refl
