-- The elements of a row are whole.
use Rattle.std.proofs.Common.{◌≡◌, ◌==◌, Bool, true, false, if◌then◌else◌, ℕ, zero, suc, ◌+◌, ◌≤◌, arith, List, [], ◌∷◌, ◌++◌, All, map, length, take, refl, ap, subst, sym}
use Rattle.std.proofs.lemmas.List.{length_push}
use Rattle.std.proofs.lemmas.List.Elements.{All-push, All-map}
use Rattle.ceal_base.specs.WellTyped.{IsCell, RowWhole, RowsWhole}
use Rattle.ceal_base.specs.declared.kind.FieldKind.{FieldKind}
use Rattle.ceal_base.specs.declared.syntax.Ident.{Ident}
use Rattle.ceal_base.specs.declared.typed.FieldInfo.{FieldInfo}
use Rattle.ceal_types.specs.Checked.{field_info}
use Rattle.ceal_types.specs.Expressions.{Fields}
use Rattle.ceal_types.specs.Heads.{row_at}
use Rattle.ceal_types.specs.Tables.{Name, element_name}
use Rattle.ceal_types.specs.declared.program.Field.{Field}

abbrev pub element : Ident → FieldKind → ℕ → ℕ → Name × Field
element name kind row i = (element_name name.text i, record { kind = kind; row = row_at row i })

-- the first elements of a row, as many as are given
unfoldable pub elements : Ident → FieldKind → ℕ → ℕ → Fields
elements name kind row zero = []
elements name kind row (suc i) = elements name kind row i ++ element name kind row i ∷ []

-- a field inside a row: of its kind, and no row begins at it
abbrev Inside : FieldKind → FieldInfo → Type 0
Inside kind f = (f.kind ≡ kind) × (f.row ≡ 0)

take-append : {A : Type 0} (n : ℕ) (xs ys : List A) → n ≤ length xs → take n (xs ++ ys) ≡ take n xs
take-append zero xs ys h = refl
take-append (suc n) [] ys h = absurd (omega (arith, h))
take-append (suc n) (x ∷ xs) ys h = ap (λ (l : List _). x ∷ l) (take-append n xs ys (omega (arith, h)))

length-append : {A : Type 0} (xs ys : List A) → length (xs ++ ys) ≡ length xs + length ys
length-append [] ys = omega arith
length-append (x ∷ xs) ys = omega (arith, length-append xs ys)

whole-append : (row : ℕ) (kind : FieldKind) (xs ys : List FieldInfo) → RowWhole row kind xs → RowWhole row kind (xs ++ ys)
whole-append zero kind xs ys h = tt
whole-append (suc n) kind xs ys h =
    (h.0, omega (arith, h.1, length-append xs ys), subst (λ (l : List FieldInfo). All (Inside kind) l) (sym (take-append n xs ys h.1)) h.2)

pub rows-append : (xs ys : List FieldInfo) → RowsWhole xs → RowsWhole ys → RowsWhole (xs ++ ys)
unfolding RowsWhole
rows-append [] ys h k = k
rows-append (x ∷ xs) ys h k = (whole-append x.row x.kind xs ys h.0, rows-append xs ys h.1 k)

-- fields at which no row begins
inside-whole : (kind : FieldKind) (fields : List FieldInfo) → All (Inside kind) fields → RowsWhole fields
unfolding RowsWhole
inside-whole kind [] h = tt
inside-whole kind (f ∷ fields) h =
    (subst (λ (n : ℕ). RowWhole n f.kind fields) (sym (h 0 f (omega arith)).1) tt, inside-whole kind fields (λ k d l. h (suc k) d (omega (arith, l))))

-- the elements after the first one
record Later (name : Ident) (kind : FieldKind) (row i : ℕ) : Type 0 where
  rest : Fields
  is : elements name kind row (suc i) ≡ element name kind row 0 ∷ rest
  count : length rest ≡ i
  inside : All (λ f. Inside kind (field_info f)) rest

no-row : (row i : ℕ) → row_at row (suc i) ≡ 0
no-row row i = go (suc i == 0) refl
  where
    go : (b : Bool) → (suc i == 0) ≡ b → (if b then row else 0) ≡ 0
    go true e = absurd (grind (arith, e))
    go false e = refl

later : (name : Ident) (kind : FieldKind) (row i : ℕ) → Later name kind row i
unfolding elements
later name kind row zero = record { rest = []; is = refl; count = refl; inside = λ k d l. absurd (omega arith) }
later name kind row (suc i) =
    let l = later name kind row i in
    let none = no-row row i in
    record {
      rest = l.rest ++ element name kind row (suc i) ∷ [];
      is = ap (λ (xs : Fields). xs ++ element name kind row (suc i) ∷ []) l.is;
      count = omega (arith, l.count, length_push l.rest (element name kind row (suc i)));
      inside = All-push (λ f. Inside kind (field_info f)) l.rest (element name kind row (suc i)) l.inside (refl, none);
    }

take-all : {A : Type 0} (n : ℕ) (xs : List A) → length xs ≡ n → take n xs ≡ xs
take-all zero [] h = refl
take-all zero (x ∷ xs) h = absurd (omega (arith, h))
take-all (suc n) [] h = absurd (omega (arith, h))
take-all (suc n) (x ∷ xs) h = ap (λ (l : List _). x ∷ l) (take-all n xs (omega (arith, h)))

length-map : {A B : Type 0} (f : A → B) (xs : List A) → length (map f xs) ≡ length xs
length-map f [] = refl
length-map f (x ∷ xs) = omega (arith, length-map f xs)

all-map : (kind : FieldKind) (fields : Fields) → All (λ f. Inside kind (field_info f)) fields → All (Inside kind) (map field_info fields)
all-map kind fields h = All-map (Inside kind) field_info fields h

-- all elements of a row of modifiables
pub row-whole : (name : Ident) (kind : FieldKind) (row : ℕ) → IsCell kind → RowsWhole (map field_info (elements name kind row row))
unfolding RowsWhole elements
row-whole name kind zero c = tt
row-whole name kind (suc n) c =
    let l = later name kind (suc n) n in
    let inside = all-map kind l.rest l.inside in
    let count : length (map field_info l.rest) ≡ n = omega (arith, length-map field_info l.rest, l.count) in
    rw l.is (
      (c, omega (arith, count), subst (λ (xs : List FieldInfo). All (Inside kind) xs) (sym (take-all n (map field_info l.rest) count)) inside),
      inside-whole kind (map field_info l.rest) inside,
    )
