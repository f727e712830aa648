-- The elements of a whole row have one kind.
use Rattle.std.proofs.Common.{◌≡◌, ℕ, zero, suc, ◌+◌, ◌<◌, ◌==◌, ◌&&◌, nat_lt, nat_le, true, Option, Some, None, List, [], ◌∷◌, length, map, refl, ap, subst, sym, slice_get, arith}
use Rattle.ceal_base.specs.Kinds.{same_kind}
use Rattle.ceal_base.specs.Shapes.{kind_of_field, field_kinds, row_of_field, field_rows, row_at}
use Rattle.ceal_base.specs.declared.kind.FieldKind.{FieldKind}
use Rattle.ceal_base.specs.declared.kind.FieldKind.TheVariants.{Plain as PlainField, CellInt, CellPtr}
use Rattle.ceal_base.specs.declared.kind.Kind.{Kind}
use Rattle.ceal_base.specs.declared.kind.Kind.TheVariants.{Int, Ptr, ModInt, ModPtr}
use Rattle.ceal_base.specs.declared.kind.Shape.TheVariants.{Struct}
use Rattle.ceal_base.specs.declared.typed.FieldInfo.{FieldInfo}
use Rattle.ceal_base.specs.declared.typed.StructInfo.{StructInfo}
use Rattle.ceal_code.proofs.Words.SameIsEqual.{both, nat-same, some-same, none-some}
use Rattle.ceal_code.specs.Valid.{is_row_of, same_field, fields_ok, row_goes_on, row_whole, rows_ok, structs_ok}
use Rattle.ceal_code.specs.Value.{field_kind, is_cell}

pub kind-same : (k l : Kind) → same_kind k l ≡ true → k ≡ l
kind-same Int Int h = refl
kind-same (Ptr s) (Ptr t) h = ap Ptr (nat-same s t h)
kind-same ModInt ModInt h = refl
kind-same (ModPtr s) (ModPtr t) h = ap ModPtr (nat-same s t h)
kind-same _ _ h = absurd (grind (arith, h))

field-same : (k l : FieldKind) → same_field k l ≡ true → k ≡ l
field-same (PlainField k) (PlainField l) h = ap PlainField (kind-same k l h)
field-same CellInt CellInt h = refl
field-same (CellPtr s) (CellPtr t) h = ap CellPtr (nat-same s t h)
field-same _ _ h = absurd (grind (arith, h))

goes-on : (n : ℕ) (kind : FieldKind) (fields : List FieldInfo) → row_goes_on n kind fields ≡ true → (i : ℕ) → i < n → slice_get (map kind_of_field fields) i ≡ Some kind
unfolding row_goes_on
goes-on zero kind fields h i l = absurd (omega (arith, l))
goes-on (suc n) kind [] h i l = absurd (grind (arith, h))
goes-on (suc n) kind (f ∷ fields) h zero l =
    let p = both (same_field kind f.kind && (f.row == 0)) (row_goes_on n kind fields) h in
    let q = both (same_field kind f.kind) (f.row == 0) p.0 in
    ap Some (sym (field-same kind f.kind q.0))
goes-on (suc n) kind (f ∷ fields) h (suc i) l =
    let p = both (same_field kind f.kind && (f.row == 0)) (row_goes_on n kind fields) h in
    goes-on n kind fields p.1 i (omega (arith, l))

whole : (row : ℕ) (kind : FieldKind) (fields : List FieldInfo) → row_whole row kind fields ≡ true → (i : ℕ) → suc i < row → slice_get (map kind_of_field fields) i ≡ Some kind
whole zero kind fields h i l = absurd (omega (arith, l))
whole (suc n) kind fields h i l =
    let p = both (is_cell (Some kind)) (row_goes_on n kind fields) h in goes-on n kind fields p.1 i (omega (arith, l))

rows-in : (fields : List FieldInfo) → rows_ok fields ≡ true → (f row : ℕ) → is_row_of row (slice_get (map row_of_field fields) f) ≡ true → (i : ℕ) → i < row
    → slice_get (map kind_of_field fields) (f + i) ≡ slice_get (map kind_of_field fields) f
unfolding rows_ok
rows-in [] h f row k i l = absurd (grind (arith, k))
rows-in (g ∷ fields) h zero row k i l =
    let p = both (row_whole g.row g.kind fields) (rows_ok fields) h in
    let q = both (nat_lt 0 row) (g.row == row) k in
    let e : (0 + i) ≡ i = omega arith in
    rw e (at-start i (subst (λ n. row_whole n g.kind fields ≡ true) (nat-same g.row row q.1) p.0) l)
  where
    at-start : (i : ℕ) → row_whole row g.kind fields ≡ true → i < row → slice_get (g.kind ∷ map kind_of_field fields) i ≡ Some g.kind
    at-start zero w l = refl
    at-start (suc i) w l = whole row g.kind fields w i l
rows-in (g ∷ fields) h (suc f) row k i l =
    let p = both (row_whole g.row g.kind fields) (rows_ok fields) h in
    let e : (suc f + i) ≡ suc (f + i) = omega arith in
    rw e (rows-in fields p.1 f row k i l)

structs-in : (structs rest : List StructInfo) → structs_ok structs rest ≡ true → (s : ℕ) (info : StructInfo) → slice_get rest s ≡ Some info → rows_ok info.fields ≡ true
unfolding structs_ok
structs-in structs [] h s info e = none-some info e
structs-in structs (g ∷ rest) h zero info e =
    let p = both (nat_le (length g.fields) 255 && (fields_ok structs g.fields && rows_ok g.fields)) (structs_ok structs rest) h in
    let q = both (nat_le (length g.fields) 255) (fields_ok structs g.fields && rows_ok g.fields) p.0 in
    let r = both (fields_ok structs g.fields) (rows_ok g.fields) q.1 in
    subst (λ g. rows_ok g.fields ≡ true) (some-same g info e) r.1
structs-in structs (g ∷ rest) h (suc s) info e =
    let p = both (nat_le (length g.fields) 255 && (fields_ok structs g.fields && rows_ok g.fields)) (structs_ok structs rest) h in
    structs-in structs rest p.1 s info e

-- each element of a row has the kind of the first one
abbrev pub RowsHold : List StructInfo → Type 0
RowsHold structs = (s f row : ℕ) → is_row_of row (row_at structs s f) ≡ true → (i : ℕ) → i < row → field_kind structs (Struct s) (f + i) ≡ field_kind structs (Struct s) f

pub rows-hold : (structs : List StructInfo) → structs_ok structs structs ≡ true → RowsHold structs
rows-hold structs h s f row k i l = go (slice_get structs s) refl k
  where
    go : (o : Option StructInfo) → slice_get structs s ≡ o → is_row_of row (slice_get (field_rows o) f) ≡ true → slice_get (field_kinds o) (f + i) ≡ slice_get (field_kinds o) f
    go None e k = absurd (grind (arith, k))
    go (Some info) e k = rows-in info.fields (structs-in structs structs h s info e) f row k i l
