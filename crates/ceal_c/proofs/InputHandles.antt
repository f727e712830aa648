-- A handle that a name has is that of a field of an input.
use Rattle.std.proofs.Common.{◌≡◌, ◌⊎◌, inl, inr, ℕ, List, Option, Some, None, Ok, sym, ap, arith}
use Rattle.ceal_base.specs.declared.kind.FieldKind.{FieldKind}
use Rattle.ceal_base.specs.declared.kind.FieldKind.TheVariants.{Plain as PlainField, CellInt, CellPtr}
use Rattle.ceal_base.specs.declared.kind.Shape.{Shape}
use Rattle.ceal_base.specs.declared.kind.Shape.TheVariants.{Struct, ModInt, ModPtr}
use Rattle.ceal_base.specs.declared.typed.FieldInfo.{FieldInfo}
use Rattle.ceal_base.specs.declared.word.BlockId.TheVariants.{Input}
use Rattle.ceal_script.specs.Lines.{IsLineOf}
use Rattle.ceal_script.specs.declared.command.Command.{Command}
use Rattle.ceal_script.specs.declared.command.Command.TheVariants.{Blank, Mod, New, Set, Run, Propagate, Slice, Get, Show, Blocks, Steps, Work, Bound}
use Rattle.ceal_session.specs.Replies.{Reads}
use Rattle.ceal_session.specs.Senses.{block_sense, field_sense, found_sense, input_sense, kind_sense, member_sense, modifiable, part_sense, place_sense, shape_at}
use Rattle.ceal_session.specs.Senses.{field_named, fields_numbered, input_named}
use Rattle.ceal_session.specs.State.{State}
use Rattle.ceal_session.specs.Values.{handle_of_command, handle_of_sense}
use Rattle.ceal_session.specs.declared.handle.Handle.{Handle}
use Rattle.ceal_session.specs.declared.sense.Sense.{Sense}
use Rattle.ceal_c.specs.Handles.{IsOfInput}
use Rattle.std.specs.Prelude.{slice_get}

-- the handle of what a place of a line stands for, if it has one
abbrev IsFound : Sense → Handle → Type 0
IsFound sense h = handle_of_sense sense ≡ Ok h

module _ (h : Handle) where
  at-field : (n field : ℕ) → IsFound (modifiable n field) h → IsOfInput h
  at-field n field e =
      let is : record { place = record { block = Input n; field = field } } ≡ h = grind (arith, e) in
      record { number = n; is = ap (λ (g : Handle). g.place.block) (sym is) }

  at-block : (n : ℕ) (shape : Option Shape) → IsFound (block_sense n shape) h → IsOfInput h
  at-block n None e = absurd (grind (arith, e))
  at-block n (Some (Struct s)) e = absurd (grind (arith, e))
  at-block n (Some ModInt) e = at-field n 0 e
  at-block n (Some (ModPtr s)) e = at-field n 0 e

  at-kind : (n field : ℕ) (kind : FieldKind) → IsFound (kind_sense n field kind) h → IsOfInput h
  at-kind n field (PlainField kind) e = absurd (grind (arith, e))
  at-kind n field CellInt e = at-field n field e
  at-kind n field (CellPtr s) e = at-field n field e

  at-info : (n field : ℕ) (info : Option FieldInfo) → IsFound (field_sense n field info) h → IsOfInput h
  at-info n field None e = absurd (grind (arith, e))
  at-info n field (Some f) e = at-kind n field f.kind e

  at-member : (n : ℕ) (fields : List FieldInfo) (number : Option ℕ) → IsFound (member_sense n fields number) h → IsOfInput h
  at-member n fields None e = absurd (grind (arith, e))
  at-member n fields (Some field) e = at-info n field (slice_get fields field) e

  at-part : (s : State) (n : ℕ) (field : List ℕ) (shape : Option Shape) → IsFound (part_sense s n field shape) h → IsOfInput h
  at-part s n field None e = absurd (grind (arith, e))
  at-part s n field (Some (Struct k)) e = at-member n (fields_numbered s k) (field_named (fields_numbered s k) field) e
  at-part s n field (Some ModInt) e = absurd (grind (arith, e))
  at-part s n field (Some (ModPtr k)) e = absurd (grind (arith, e))

  at-input : (s : State) (n : ℕ) (field : Option (List ℕ)) → IsFound (input_sense s n field) h → IsOfInput h
  at-input s n None e = at-block n (shape_at s n) e
  at-input s n (Some field) e = at-part s n field (shape_at s n) e

  at-name : (s : State) (number : Option ℕ) (field : Option (List ℕ)) → IsFound (found_sense s number field) h → IsOfInput h
  at-name s None field e = absurd (grind (arith, e))
  at-name s (Some n) field e = at-input s n field e

  pub found-of-input : (s : State) (command : Option Command) → handle_of_command s command ≡ Ok h → IsOfInput h
  found-of-input s None e = absurd (grind (arith, e))
  found-of-input s (Some (Get place)) e = at-name s (input_named s place.name) place.field e
  found-of-input s (Some Blank) e = absurd (grind (arith, e))
  found-of-input s (Some (Mod name kind value)) e = absurd (grind (arith, e))
  found-of-input s (Some (New name shape values)) e = absurd (grind (arith, e))
  found-of-input s (Some (Set place value)) e = absurd (grind (arith, e))
  found-of-input s (Some (Run function args)) e = absurd (grind (arith, e))
  found-of-input s (Some Propagate) e = absurd (grind (arith, e))
  found-of-input s (Some (Slice reads)) e = absurd (grind (arith, e))
  found-of-input s (Some (Show name)) e = absurd (grind (arith, e))
  found-of-input s (Some Blocks) e = absurd (grind (arith, e))
  found-of-input s (Some Steps) e = absurd (grind (arith, e))
  found-of-input s (Some Work) e = absurd (grind (arith, e))
  found-of-input s (Some Bound) e = absurd (grind (arith, e))

  -- by what the line is
  pub found-by-line : (s : State) (line : List ℕ) → ((c : Command) × IsLineOf c line) ⊎ ((c : Command) → IsLineOf c line → ⊥)
      → ((o : Option Command) → Reads line o → handle_of_command s o ≡ Ok h) → IsOfInput h
  found-by-line s line (inl c) g = found-of-input s (Some c.0) (g (Some c.0) c.1)
  found-by-line s line (inr none) g = found-of-input s None (g None none)
