-- How many fields the members of a struct are, while one of them is read.
use Rattle.std.proofs.Common.{◌≡◌, refl}
use Rattle.ceal_base.specs.declared.syntax.TypeForm.TheVariants.{Int, CellRow}
use Rattle.ceal_grammar.specs.declared.state.TypePart.TheVariants.{Mod, Done}
use Rattle.ceal_parse.specs.Reading.{fields_with}

-- a type that is not read to its end is one field so far
unread : fields_with 254 Mod ≡ 255
unread = refl

plain : fields_with 254 (Done Int) ≡ 255
plain = refl

-- a row of three modifiables is three fields
row : fields_with 252 (Done (CellRow 3)) ≡ 255
row = refl
