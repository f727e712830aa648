-- The value at the place that a look-up gives.
use Rattle.std.proofs.Common.{◌≡◌, ℕ, Option, Some, None, List, [], ◌∷◌, map, position, slice_get, refl, sym, ap, ◌∙◌}
use Rattle.std.specs.Prelude.{IfSome}
use Rattle.std.specs.Map.{keys_of, lookup}
use Rattle.std.specs.Option.{option_map}
use Rattle.std.specs.Str.{bytes_eq}
use Rattle.std.proofs.lemmas.Option.{slice_get-map}
use Rattle.indexmap.proofs.MapLemmas.{value_index}
use Rattle.ceal_base.specs.Shapes.{field_kinds, kind_of_field, field_rows, row_of_field}
use Rattle.ceal_base.specs.declared.kind.FieldKind.{FieldKind}
use Rattle.ceal_types.specs.Checked.{field_info, struct_info}
use Rattle.ceal_types.specs.Expressions.{Fields}
use Rattle.ceal_types.specs.declared.program.Field.{Field}
use Rattle.ceal_types.specs.Tables.{Name, find, both_some, second, value_at}

module _ {A : Type 0} where
  both-place : (table : List (Name × A)) (n : Option ℕ) (v : Option A) → IfSome n (λ i. slice_get (map second table) i ≡ v)
      → IfSome (both_some n v) (λ f. value_at table f.0 ≡ Some f.1)
  both-place table None v h = tt
  both-place table (Some i) None h = tt
  both-place table (Some i) (Some v) h = sym (slice_get-map second table i) ∙ h

  -- the value that is found is at the number that is found
  pub find-place : (table : List (Name × A)) (name : Name) → IfSome (find table name) (λ f. value_at table f.0 ≡ Some f.1)
  unfolding find
  find-place table name =
      both-place table (position (bytes_eq name) (keys_of table)) (lookup (bytes_eq name) table) (value_index (bytes_eq name) table)

abbrev kind_of : Field → FieldKind
kind_of f = f.kind

abbrev row_of : Field → ℕ
row_of f = f.row

kinds-of-fields : (fields : Fields) → map kind_of_field (map field_info fields) ≡ map kind_of (map second fields)
kinds-of-fields [] = refl
kinds-of-fields (f ∷ fields) = ap (λ (l : List FieldKind). f.1.kind ∷ l) (kinds-of-fields fields)

rows-of-fields : (fields : Fields) → map row_of_field (map field_info fields) ≡ map row_of (map second fields)
rows-of-fields [] = refl
rows-of-fields (f ∷ fields) = ap (λ (l : List ℕ). f.1.row ∷ l) (rows-of-fields fields)

same-fields : (a b : Fields) → Some a ≡ Some b → a ≡ b
same-fields a b p = cc

kinds-of-struct : (o : Option (Name × Fields)) (fields : Fields) → option_map second o ≡ Some fields
    → field_kinds (option_map struct_info o) ≡ map kind_of (map second fields)
kinds-of-struct None fields h = cc
kinds-of-struct (Some t) fields h = kinds-of-fields t.1 ∙ ap (λ (l : Fields). map kind_of (map second l)) (same-fields t.1 fields h)

rows-of-struct : (o : Option (Name × Fields)) (fields : Fields) → option_map second o ≡ Some fields
    → field_rows (option_map struct_info o) ≡ map row_of (map second fields)
rows-of-struct None fields h = cc
rows-of-struct (Some t) fields h = rows-of-fields t.1 ∙ ap (λ (l : Fields). map row_of (map second l)) (same-fields t.1 fields h)

module _ (structs : List (Name × Fields)) (s : ℕ) (fields : Fields) (n : ℕ) (f : Field) (there : value_at structs s ≡ Some fields) (at : value_at fields n ≡ Some f) where
  -- the type of a field of a struct, by both their numbers
  pub field-place : slice_get (field_kinds (slice_get (map struct_info structs) s)) n ≡ Some f.kind
  field-place =
      rw (slice_get-map struct_info structs s, kinds-of-struct (slice_get structs s) fields there, slice_get-map kind_of (map second fields) n, slice_get-map second fields n, at) refl

  -- and the length of the row that begins at it
  pub row-place : slice_get (field_rows (slice_get (map struct_info structs) s)) n ≡ Some f.row
  row-place =
      rw (slice_get-map struct_info structs s, rows-of-struct (slice_get structs s) fields there, slice_get-map row_of (map second fields) n, slice_get-map second fields n, at) refl
