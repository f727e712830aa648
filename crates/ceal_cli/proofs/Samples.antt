-- Computed samples of the definitions.
use Rattle.std.proofs.Common.{◌≡◌, [], ◌∷◌, refl}
use Rattle.std.specs.Prelude.{codes}
use Rattle.ceal_cli.specs.Lines.{lines_of, script_lines}

-- a CR before a line feed is dropped, and after the last line feed there is one more line
lines_of_text : script_lines (codes "run f a\r\nget a\n") ≡ codes "run f a" ∷ codes "get a" ∷ [] ∷ []
unfolding lines_of
lines_of_text = refl

-- without a line feed a CR stays
return_at_the_end : script_lines (codes "steps\r") ≡ codes "steps\r" ∷ []
unfolding lines_of
return_at_the_end = refl

-- an empty script has one empty line
empty_script : script_lines [] ≡ [] ∷ []
unfolding lines_of
empty_script = refl
