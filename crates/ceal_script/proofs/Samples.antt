-- Computed samples of the definitions.
use Rattle.std.proofs.Common.{◌≡◌, ℕ, ◌<◌, true, false, List, [], ◌∷◌, ◌++◌, ◌∙◌, pos, Some, inl, inr, refl, rules, sym, arith}
use Rattle.std.specs.Prelude.{codes}
use Rattle.std.specs.Fmt.{decimal, digits}
use Rattle.std.proofs.lemmas.Bool.{false≢true}
use Rattle.std.proofs.lemmas.List.{append_assoc}
use Rattle.ceal_base.specs.Digits.{number_with_digits, number_of}
use Rattle.ceal_script.specs.Lines.{is_comment, IsLineOf}
use Rattle.ceal_script.specs.Spelling.{is_name, is_identifier, IsIdentifier, IsIndex, IsField}
use Rattle.ceal_script.specs.Words.{HasWords}
use Rattle.ceal_script.specs.declared.command.Command.TheVariants.{Set, Steps}
use Rattle.ceal_script.specs.declared.command.ValueWord.TheVariants.{Num}
use Rattle.ceal_script.proofs.FieldLaws.{bracket_behind, index_within}
use Rattle.ceal_script.proofs.IndexLaws.{index_below, index_digits, index_front}

-- `null` is the one identifier that is no name of an input
new_is_name : is_name (codes "new") ≡ true
new_is_name = refl

null_is_no_name : is_name (codes "null") ≡ false
null_is_no_name = refl

null_is_identifier : is_identifier (codes "null") ≡ true
null_is_identifier = refl

zeros_in_front : number_of (codes "007") ≡ 7
unfolding number_with_digits
zeros_in_front = refl

comment : is_comment (codes "//x") ≡ true
comment = refl

steps_line : IsLineOf Steps (codes " steps\t")
unfolding HasWords
steps_line = record {
  words = codes "steps" ∷ [];
  has_words = (
    codes "\t",
    record { gaps = codes " "; are_gaps = search rules; is_word = search rules; ends = refl; whole = refl },
    search rules,
  );
  says = refl;
}

-- each element of a row has a name, the one that a struct's fields have for it
element_is_field : (row : List ℕ) (i : ℕ) → IsIdentifier row → i < 255 → IsField (row ++ codes "[" ++ decimal i ++ codes "]")
element_is_field row i h l = inr (row, decimal i, append_assoc (row ++ codes "[") (decimal i) (codes "]") ∙ append_assoc row (codes "[") (decimal i ++ codes "]"), h, (i, l, refl))

set_element_line : IsLineOf (Set (record { name = codes "r"; field = Some (codes "s[2]") }) (Num (pos 5))) (codes "set r.s[2] 5")
unfolding HasWords number_with_digits digits
set_element_line = record {
  words = codes "set" ∷ codes "r.s[2]" ∷ codes "5" ∷ [];
  has_words = (
    codes " r.s[2] 5",
    record { gaps = []; are_gaps = tt; is_word = search rules; ends = refl; whole = refl },
    (
      codes " 5",
      record { gaps = codes " "; are_gaps = search rules; is_word = search rules; ends = refl; whole = refl },
      ([], record { gaps = codes " "; are_gaps = search rules; is_word = search rules; ends = tt; whole = refl }, tt),
    ),
  );
  says = (
    codes "r.s[2]",
    codes "5",
    refl,
    (refl, refl, element_is_field (codes "s") 2 refl (omega arith)),
    inl (refl, omega arith, refl),
  );
}

-- what is between the brackets
between : (index : List ℕ) → IsField (codes "s[" ++ (index ++ codes "]")) → IsIndex index
between index (inl h) = absurd (false≢true h)
between index (inr h) = index_within (codes "s[" ++ (index ++ codes "]")) 1 (sym (bracket_behind (codes "s") (index ++ codes "]") refl)) index refl h

zero_in_front_no_field : IsField (codes "s[04]") → ⊥
zero_in_front_no_field h = let e = index_front (codes "04") (between (codes "04") h) refl in cc

too_many_no_field : IsField (codes "s[255]") → ⊥
unfolding number_with_digits
too_many_no_field h = let l : 255 < 255 = index_below (codes "255") (between (codes "255") h) in omega (arith, l)

space_no_field : IsField (codes "s[2 ]") → ⊥
space_no_field h = false≢true (index_digits (codes "2 ") (between (codes "2 ") h))
