-- The type of a folded expression: that of the expression, or that of null where the expression is a pointer.
use Rattle.std.proofs.Common.{◌≡◌, ℕ, ℤ, ◌==◌, ◌||◌, ◌&&◌, Bool, true, false, if◌then◌else◌, Option, Some, None, List, [], ◌∷◌, ◌⊎◌, inl, inr, refl, sym, ap, ap₂, subst, slice_get, unwrap_or, arith}
use Rattle.std.specs.Prelude.{⊤}
use Rattle.ceal_base.specs.Kinds.{is_pointer}
use Rattle.ceal_base.specs.Operators.{unary_value, binary_value, picked_element, truth}
use Rattle.ceal_base.specs.Shapes.{row_at}
use Rattle.ceal_base.specs.declared.kind.FieldKind.{FieldKind}
use Rattle.ceal_base.specs.declared.kind.FieldKind.TheVariants.{Plain as PlainField, CellInt, CellPtr}
use Rattle.ceal_base.specs.declared.kind.Kind.{Kind}
use Rattle.ceal_base.specs.declared.kind.Kind.TheVariants.{Int, Ptr, ModInt, ModPtr}
use Rattle.ceal_base.specs.declared.kind.Shape.TheVariants.{Struct}
use Rattle.ceal_base.specs.declared.operators.Binary.{Binary as BinaryOp}
use Rattle.ceal_base.specs.declared.operators.Binary.TheVariants.{Add, Sub, Mul, Div, Rem, Less, LessEq, More, MoreEq, Same, Differ, And, Or, Pick}
use Rattle.ceal_base.specs.declared.operators.Unary.{Unary as UnaryOp}
use Rattle.ceal_base.specs.declared.operators.Unary.TheVariants.{Neg, Not}
use Rattle.ceal_base.specs.declared.typed.StructInfo.{StructInfo}
use Rattle.ceal_base.specs.declared.word.Word.{Word}
use Rattle.ceal_base.specs.declared.word.Word.TheVariants.{Num as NumWord, Null}
use Rattle.ceal_code.proofs.Words.PickedRows.{IfPick}
use Rattle.ceal_code.proofs.Words.RowKinds.{kind-same}
use Rattle.ceal_code.proofs.Words.SameIsEqual.{both, both-true, some-same, none-some}
use Rattle.ceal_code.proofs.Equations.TypeSteps.{type-unary, type-binary, type-field, type-address, row-address}
use Rattle.ceal_code.specs.Valid.{Typing, is_place, is_content, fits, fits_maybe, one_type, int_if, element_type}
use Rattle.ceal_code.specs.Valid.{binary_type, is_row_of, starts_row, left_suits, operand_suits, variable_type}
use Rattle.ceal_code.specs.Valid.{points_to, plain_type, cell_type, type_of, operand_type, all_fit, params_fit}
use Rattle.ceal_code.specs.Valid.{place_fits, content_fits, write_fits}
use Rattle.ceal_code.specs.Value.{field_kind, field_default}
use Rattle.ceal_code.specs.declared.expr.CodeExpr.{CodeExpr, Num as NumExpr, Null as NullExpr, Var, Unary', Binary', Field', Address', Row_of-CodeExpr, end_of-CodeExpr, more_of-CodeExpr}
use Rattle.ceal_code.specs.declared.expr.CodeExpr.TheViews.{Binary, Field, Address}
use Rattle.ceal_code.specs.declared.expr.VarId.{VarId}
use Rattle.ceal_code.specs.declared.typing.ExprType.TheVariants.{Of, AnyPointer, AnyPlace}
use Rattle.ceal_fold.specs.Folding.{Copies, use_of, constant, constant_expr, is_null, unary_folded, binary_folded, folded_expr, folded_operand, folded_exprs, mentions, operand_mentions, all_mention}

abbrev pub Refined : Typing → Typing → Type 0
Refined None t = ⊤
Refined (Some AnyPointer) t = t ≡ Some AnyPointer
Refined (Some AnyPlace) t = (t ≡ Some AnyPlace) ⊎ (t ≡ Some AnyPointer)
Refined (Some (Of k)) t = (t ≡ Some (Of k)) ⊎ (((t ≡ Some AnyPointer) × (is_pointer k ≡ true)) ⊎ ((t ≡ Some AnyPlace) × (is_place k ≡ true)))

pub refined-refl : (t : Typing) → Refined t t
refined-refl None = tt
refined-refl (Some AnyPointer) = refl
refined-refl (Some AnyPlace) = inl refl
refined-refl (Some (Of k)) = inl refl

place-pointer : (k : Kind) → is_place k ≡ true → is_pointer k ≡ true
place-pointer Int h = absurd (grind (arith, h))
place-pointer (Ptr s) h = refl
place-pointer ModInt h = refl
place-pointer (ModPtr s) h = refl

pub refined-fits : (kind : Kind) (t t' : Typing) → Refined t t' → fits kind t ≡ true → fits kind t' ≡ true
refined-fits kind None t' h k = absurd (grind (arith, k))
refined-fits kind (Some AnyPointer) t' h k = rw h k
refined-fits kind (Some AnyPlace) t' (inl e) k = rw e k
refined-fits kind (Some AnyPlace) t' (inr e) k = rw e (place-pointer kind k)
refined-fits kind (Some (Of other)) t' (inl e) k = rw e k
refined-fits kind (Some (Of other)) t' (inr (inl p)) k = rw (p.0, kind-same kind other k) p.1
refined-fits kind (Some (Of other)) t' (inr (inr p)) k = rw (p.0, kind-same kind other k) p.1

pub refined-maybe : (kind : Option Kind) (t t' : Typing) → Refined t t' → fits_maybe kind t ≡ true → fits_maybe kind t' ≡ true
refined-maybe None t t' h k = absurd (grind (arith, k))
refined-maybe (Some kind) t t' h k = refined-fits kind t t' h k

pub refined-place : (kind : Option Kind) (t t' : Typing) → Refined t t' → place_fits kind t ≡ true → place_fits kind t' ≡ true
refined-place None t t' h k = absurd (grind (arith, k))
refined-place (Some Int) t t' h k = refined-fits ModInt t t' h k
refined-place (Some (Ptr s)) t t' h k = refined-fits (ModPtr s) t t' h k
refined-place (Some ModInt) t t' h k = absurd (grind (arith, k))
refined-place (Some (ModPtr s)) t t' h k = absurd (grind (arith, k))

-- where a value goes, null and an element of null may stand for the place, and null for a pointer
int-goes : (t t' : Typing) → Refined t t' → fits Int t ≡ true → content_fits t' ≡ true
int-goes None t' h k = absurd (grind (arith, k))
int-goes (Some AnyPointer) t' h k = absurd (grind (arith, k))
int-goes (Some AnyPlace) t' h k = absurd (grind (arith, k))
int-goes (Some (Of Int)) t' (inl e) k = rw e refl
int-goes (Some (Of Int)) t' (inr (inl p)) k = absurd (grind (arith, p.1))
int-goes (Some (Of Int)) t' (inr (inr p)) k = absurd (grind (arith, p.1))
int-goes (Some (Of (Ptr s))) t' h k = absurd (grind (arith, k))
int-goes (Some (Of ModInt)) t' h k = absurd (grind (arith, k))
int-goes (Some (Of (ModPtr s))) t' h k = absurd (grind (arith, k))

pointer-goes : (s : ℕ) (t t' : Typing) → Refined t t' → fits (Ptr s) t ≡ true → content_fits t' ≡ true
pointer-goes s None t' h k = absurd (grind (arith, k))
pointer-goes s (Some AnyPointer) t' h k = rw h refl
pointer-goes s (Some AnyPlace) t' h k = absurd (grind (arith, k))
pointer-goes s (Some (Of Int)) t' h k = absurd (grind (arith, k))
pointer-goes s (Some (Of (Ptr z))) t' (inl e) k = rw e refl
pointer-goes s (Some (Of (Ptr z))) t' (inr (inl p)) k = rw (p.0) refl
pointer-goes s (Some (Of (Ptr z))) t' (inr (inr p)) k = absurd (grind (arith, p.1))
pointer-goes s (Some (Of ModInt)) t' h k = absurd (grind (arith, k))
pointer-goes s (Some (Of (ModPtr z))) t' h k = absurd (grind (arith, k))

no-content : (k : Kind) → is_content k ≡ true → is_place k ≡ true → ⊥
no-content Int h p = grind (arith, p)
no-content (Ptr s) h p = grind (arith, p)
no-content ModInt h p = grind (arith, h)
no-content (ModPtr s) h p = grind (arith, h)

content-goes : (t t' : Typing) → Refined t t' → content_fits t ≡ true → content_fits t' ≡ true
content-goes None t' h k = absurd (grind (arith, k))
content-goes (Some AnyPointer) t' h k = rw h refl
content-goes (Some AnyPlace) t' h k = absurd (grind (arith, k))
content-goes (Some (Of kind)) t' (inl e) k = rw e k
content-goes (Some (Of kind)) t' (inr (inl p)) k = rw (p.0) refl
content-goes (Some (Of kind)) t' (inr (inr p)) k = absurd (no-content kind k p.1)

pub refined-write : (s s' t t' : Typing) → Refined s s' → Refined t t' → write_fits s t ≡ true → write_fits s' t' ≡ true
refined-write None s' t t' g h k = absurd (grind (arith, k))
refined-write (Some AnyPointer) s' t t' g h k = rw g (content-goes t t' h k)
refined-write (Some AnyPlace) s' t t' (inl e) h k = rw e (content-goes t t' h k)
refined-write (Some AnyPlace) s' t t' (inr e) h k = rw e (content-goes t t' h k)
refined-write (Some (Of Int)) s' t t' g h k = absurd (grind (arith, k))
refined-write (Some (Of (Ptr s))) s' t t' g h k = absurd (grind (arith, k))
refined-write (Some (Of ModInt)) s' t t' (inl e) h k = rw e (refined-fits Int t t' h k)
refined-write (Some (Of ModInt)) s' t t' (inr (inl p)) h k = rw (p.0) (int-goes t t' h k)
refined-write (Some (Of ModInt)) s' t t' (inr (inr p)) h k = rw (p.0) (int-goes t t' h k)
refined-write (Some (Of (ModPtr s))) s' t t' (inl e) h k = rw e (refined-fits (Ptr s) t t' h k)
refined-write (Some (Of (ModPtr s))) s' t t' (inr (inl p)) h k = rw (p.0) (pointer-goes s t t' h k)
refined-write (Some (Of (ModPtr s))) s' t t' (inr (inr p)) h k = rw (p.0) (pointer-goes s t t' h k)

null-one : (t t' : Typing) → Refined t t' → one_type (Some AnyPointer) t ≡ true → one_type (Some AnyPointer) t' ≡ true
null-one None t' h k = absurd (grind (arith, k))
null-one (Some AnyPointer) t' h k = rw h refl
null-one (Some AnyPlace) t' (inl e) k = rw e refl
null-one (Some AnyPlace) t' (inr e) k = rw e refl
null-one (Some (Of kind)) t' (inl e) k = rw e k
null-one (Some (Of kind)) t' (inr (inl p)) k = rw (p.0) refl
null-one (Some (Of kind)) t' (inr (inr p)) k = rw (p.0) refl

place-one : (t t' : Typing) → Refined t t' → one_type (Some AnyPlace) t ≡ true → one_type (Some AnyPlace) t' ≡ true
place-one None t' h k = absurd (grind (arith, k))
place-one (Some AnyPointer) t' h k = rw h refl
place-one (Some AnyPlace) t' (inl e) k = rw e refl
place-one (Some AnyPlace) t' (inr e) k = rw e refl
place-one (Some (Of kind)) t' (inl e) k = rw e k
place-one (Some (Of kind)) t' (inr (inl p)) k = rw (p.0) refl
place-one (Some (Of kind)) t' (inr (inr p)) k = rw (p.0) refl

place-null : (t : Typing) → one_type (Some AnyPlace) t ≡ true → one_type (Some AnyPointer) t ≡ true
place-null None k = absurd (grind (arith, k))
place-null (Some AnyPointer) k = refl
place-null (Some AnyPlace) k = refl
place-null (Some (Of kind)) k = place-pointer kind k

kind-one : (kind : Kind) (t t' : Typing) → Refined t t' → is_pointer kind ≡ true → fits kind t ≡ true → one_type (Some AnyPointer) t' ≡ true
kind-one kind None t' h p k = absurd (grind (arith, k))
kind-one kind (Some AnyPointer) t' h p k = rw h refl
kind-one kind (Some AnyPlace) t' (inl e) p k = rw e refl
kind-one kind (Some AnyPlace) t' (inr e) p k = rw e refl
kind-one kind (Some (Of other)) t' (inl e) p k = rw (e, ← kind-same kind other k) p
kind-one kind (Some (Of other)) t' (inr (inl q)) p k = rw (q.0) refl
kind-one kind (Some (Of other)) t' (inr (inr q)) p k = rw (q.0) refl

kind-place : (kind : Kind) (t t' : Typing) → Refined t t' → is_place kind ≡ true → fits kind t ≡ true → one_type (Some AnyPlace) t' ≡ true
kind-place kind None t' h p k = absurd (grind (arith, k))
kind-place kind (Some AnyPointer) t' h p k = rw h refl
kind-place kind (Some AnyPlace) t' (inl e) p k = rw e refl
kind-place kind (Some AnyPlace) t' (inr e) p k = rw e refl
kind-place kind (Some (Of other)) t' (inl e) p k = rw (e, ← kind-same kind other k) p
kind-place kind (Some (Of other)) t' (inr (inl q)) p k = rw (q.0) refl
kind-place kind (Some (Of other)) t' (inr (inr q)) p k = rw (q.0) refl

refined-one : (s s' t t' : Typing) → Refined s s' → Refined t t' → one_type s t ≡ true → one_type s' t' ≡ true
refined-one None s' t t' g h k = absurd (grind (arith, k))
refined-one (Some AnyPointer) s' t t' g h k = rw g (null-one t t' h k)
refined-one (Some AnyPlace) s' t t' (inl e) h k = rw e (place-one t t' h k)
refined-one (Some AnyPlace) s' t t' (inr e) h k = rw e (place-null t' (place-one t t' h k))
refined-one (Some (Of kind)) s' t t' (inl e) h k = rw e (refined-fits kind t t' h k)
refined-one (Some (Of kind)) s' t t' (inr (inl p)) h k = rw (p.0) (kind-one kind t t' h p.1 k)
refined-one (Some (Of kind)) s' t t' (inr (inr p)) h k = rw (p.0) (kind-place kind t t' h p.1 k)

-- a type that the address of a modifiable may have
abbrev pub PlaceType : Typing → Type 0
PlaceType None = ⊤
PlaceType (Some AnyPointer) = ⊤
PlaceType (Some AnyPlace) = ⊤
PlaceType (Some (Of k)) = is_place k ≡ true

refined-element : (s s' : Typing) → Refined s s' → PlaceType s → Refined (element_type s) (element_type s')
refined-element None s' g p = tt
refined-element (Some AnyPointer) s' g p = rw g (inl refl)
refined-element (Some AnyPlace) s' (inl e) p = rw e (inl refl)
refined-element (Some AnyPlace) s' (inr e) p = rw e (inl refl)
refined-element (Some (Of k)) s' (inl e) p = rw e (inl refl)
refined-element (Some (Of k)) s' (inr (inl q)) p = rw (q.0) (inr (inr (refl, p)))
refined-element (Some (Of k)) s' (inr (inr q)) p = rw (q.0) (inr (inr (refl, p)))

refined-if : (a b : Bool) (t u : Typing) → (a ≡ true → b ≡ true) → (a ≡ true → Refined t u) → Refined (if a then t else None) (if b then u else None)
refined-if true b t u h k = rw (h refl) (k refl)
refined-if false b t u h k = tt

pub refined-int : (a b : Bool) → (a ≡ true → b ≡ true) → Refined (int_if a) (int_if b)
refined-int true b h = rw (h refl) (inl refl)
refined-int false b h = tt

ints : (s s' t t' : Typing) → Refined s s' → Refined t t' → (fits Int s && fits Int t) ≡ true → (fits Int s' && fits Int t') ≡ true
ints s s' t t' g h k =
    let p = both (fits Int s) (fits Int t) k in
    both-true (fits Int s') (fits Int t') (refined-fits Int s s' g p.0) (refined-fits Int t t' h p.1)

pub refined-binary : (op : BinaryOp) (s s' t t' : Typing) → IfPick op (λ row. PlaceType s) → Refined s s' → Refined t t' → Refined (binary_type op s t) (binary_type op s' t')
refined-binary Same s s' t t' p g h = refined-int (one_type s t) (one_type s' t') (refined-one s s' t t' g h)
refined-binary Differ s s' t t' p g h = refined-int (one_type s t) (one_type s' t') (refined-one s s' t t' g h)
refined-binary Add s s' t t' p g h = refined-int (fits Int s && fits Int t) (fits Int s' && fits Int t') (ints s s' t t' g h)
refined-binary Sub s s' t t' p g h = refined-int (fits Int s && fits Int t) (fits Int s' && fits Int t') (ints s s' t t' g h)
refined-binary Mul s s' t t' p g h = refined-int (fits Int s && fits Int t) (fits Int s' && fits Int t') (ints s s' t t' g h)
refined-binary Div s s' t t' p g h = refined-int (fits Int s && fits Int t) (fits Int s' && fits Int t') (ints s s' t t' g h)
refined-binary Rem s s' t t' p g h = refined-int (fits Int s && fits Int t) (fits Int s' && fits Int t') (ints s s' t t' g h)
refined-binary Less s s' t t' p g h = refined-int (fits Int s && fits Int t) (fits Int s' && fits Int t') (ints s s' t t' g h)
refined-binary LessEq s s' t t' p g h = refined-int (fits Int s && fits Int t) (fits Int s' && fits Int t') (ints s s' t t' g h)
refined-binary More s s' t t' p g h = refined-int (fits Int s && fits Int t) (fits Int s' && fits Int t') (ints s s' t t' g h)
refined-binary MoreEq s s' t t' p g h = refined-int (fits Int s && fits Int t) (fits Int s' && fits Int t') (ints s s' t t' g h)
refined-binary And s s' t t' p g h = refined-int (fits Int s && fits Int t) (fits Int s' && fits Int t') (ints s s' t t' g h)
refined-binary Or s s' t t' p g h = refined-int (fits Int s && fits Int t) (fits Int s' && fits Int t') (ints s s' t t' g h)
refined-binary (Pick row) s s' t t' p g h =
    refined-if (fits Int t) (fits Int t') (element_type s) (element_type s') (refined-fits Int t t' h) (λ k. refined-element s s' g p)

-- the type of an operator but `Pick` is int, if it has one
int-refined : (b : Bool) (t : Typing) → t ≡ Some (Of Int) → Refined (int_if b) t
int-refined true t h = inl h
int-refined false t h = tt

binary-int : (op : BinaryOp) (s t u : Typing) → IfPick op (λ row. ⊥) → u ≡ Some (Of Int) → Refined (binary_type op s t) u
binary-int Same s t u p h = int-refined (one_type s t) u h
binary-int Differ s t u p h = int-refined (one_type s t) u h
binary-int Add s t u p h = int-refined (fits Int s && fits Int t) u h
binary-int Sub s t u p h = int-refined (fits Int s && fits Int t) u h
binary-int Mul s t u p h = int-refined (fits Int s && fits Int t) u h
binary-int Div s t u p h = int-refined (fits Int s && fits Int t) u h
binary-int Rem s t u p h = int-refined (fits Int s && fits Int t) u h
binary-int Less s t u p h = int-refined (fits Int s && fits Int t) u h
binary-int LessEq s t u p h = int-refined (fits Int s && fits Int t) u h
binary-int More s t u p h = int-refined (fits Int s && fits Int t) u h
binary-int MoreEq s t u p h = int-refined (fits Int s && fits Int t) u h
binary-int And s t u p h = int-refined (fits Int s && fits Int t) u h
binary-int Or s t u p h = int-refined (fits Int s && fits Int t) u h
binary-int (Pick row) s t u p h = absurd p

-- where the type is kept, if there is one
abbrev pub Kept : Typing → Typing → Type 0
Kept None t = ⊤
Kept (Some a) t = t ≡ Some a

pub kept-refined : (s t u : Typing) → Refined s t → Kept t u → Refined s u
kept-refined None t u h k = tt
kept-refined (Some AnyPointer) t u h k = subst (λ t. Kept t u) h k
kept-refined (Some AnyPlace) t u (inl e) k = inl (subst (λ t. Kept t u) e k)
kept-refined (Some AnyPlace) t u (inr e) k = inr (subst (λ t. Kept t u) e k)
kept-refined (Some (Of a)) t u (inl e) k = inl (subst (λ t. Kept t u) e k)
kept-refined (Some (Of a)) t u (inr (inl p)) k = inr (inl (subst (λ t. Kept t u) (p.0) k, p.1))
kept-refined (Some (Of a)) t u (inr (inr p)) k = inr (inr (subst (λ t. Kept t u) (p.0) k, p.1))

kept-same : (t : Typing) (u : Typing) → u ≡ t → Kept t u
kept-same None u h = tt
kept-same (Some a) u h = h

kept-int : (s t : Typing) → Kept s t → Kept (int_if (fits Int s)) (int_if (fits Int t))
kept-int None t h = tt
kept-int (Some a) t h = kept-same (int_if (fits Int (Some a))) (int_if (fits Int t)) (ap (λ t. int_if (fits Int t)) h)

one-none : (s : Typing) → one_type s None ≡ false
one-none None = refl
one-none (Some AnyPointer) = refl
one-none (Some AnyPlace) = refl
one-none (Some (Of k)) = refl

ints-none : (s : Typing) → (fits Int s && fits Int None) ≡ false
ints-none s = go (fits Int s)
  where
    go : (b : Bool) → (b && false) ≡ false
    go true = refl
    go false = refl

kept-none : (b : Bool) (u : Typing) → b ≡ false → Kept (int_if b) u
kept-none b u h = rw h tt

right-none : (op : BinaryOp) (s u : Typing) → Kept (binary_type op s None) u
right-none Same s u = kept-none (one_type s None) u (one-none s)
right-none Differ s u = kept-none (one_type s None) u (one-none s)
right-none Add s u = kept-none (fits Int s && fits Int None) u (ints-none s)
right-none Sub s u = kept-none (fits Int s && fits Int None) u (ints-none s)
right-none Mul s u = kept-none (fits Int s && fits Int None) u (ints-none s)
right-none Div s u = kept-none (fits Int s && fits Int None) u (ints-none s)
right-none Rem s u = kept-none (fits Int s && fits Int None) u (ints-none s)
right-none Less s u = kept-none (fits Int s && fits Int None) u (ints-none s)
right-none LessEq s u = kept-none (fits Int s && fits Int None) u (ints-none s)
right-none More s u = kept-none (fits Int s && fits Int None) u (ints-none s)
right-none MoreEq s u = kept-none (fits Int s && fits Int None) u (ints-none s)
right-none And s u = kept-none (fits Int s && fits Int None) u (ints-none s)
right-none Or s u = kept-none (fits Int s && fits Int None) u (ints-none s)
right-none (Pick row) s u = tt

none-if : (b : Bool) (u : Typing) → Kept (if b then None else None) u
none-if true u = tt
none-if false u = tt

left-none : (op : BinaryOp) (t u : Typing) → Kept (binary_type op None t) u
left-none Same t u = tt
left-none Differ t u = tt
left-none Add t u = tt
left-none Sub t u = tt
left-none Mul t u = tt
left-none Div t u = tt
left-none Rem t u = tt
left-none Less t u = tt
left-none LessEq t u = tt
left-none More t u = tt
left-none MoreEq t u = tt
left-none And t u = tt
left-none Or t u = tt
left-none (Pick row) t u = none-if (fits Int t) u

kept-binary : (op : BinaryOp) (s s' t t' : Typing) → Kept s s' → Kept t t' → Kept (binary_type op s t) (binary_type op s' t')
kept-binary op None s' t t' g h = left-none op t (binary_type op s' t')
kept-binary op (Some a) s' None t' g h = right-none op (Some a) (binary_type op s' t')
kept-binary op (Some a) s' (Some b) t' g h = kept-same (binary_type op (Some a) (Some b)) (binary_type op s' t') (ap₂ (binary_type op) g h)

kept-if : (b : Bool) (t u : Typing) → Kept t u → Kept (if b then t else None) (if b then u else None)
kept-if true t u h = h
kept-if false t u h = tt

kept-points : (s : ℕ) (t t' u : Typing) → Kept t t' → Kept (if points_to s t then u else None) (if points_to s t' then u else None)
kept-points s None t' u h = tt
kept-points s (Some a) t' u h = kept-same (if points_to s (Some a) then u else None) (if points_to s t' then u else None) (ap (λ t. if points_to s t then u else None) h)

or-left : (a b : Bool) → a ≡ true → (a || b) ≡ true
or-left a b h = rw h refl

or-right : (a b : Bool) → b ≡ true → (a || b) ≡ true
or-right true b h = refl
or-right false b h = h

abbrev pub known_at : List Bool → ℕ → Bool
known_at known v = unwrap_or (slice_get known v) false

module _ (structs : List StructInfo) (kinds : List Kind) (known : List Bool) where
  -- a folded expression where each copy has the type of its variable
  abbrev pub CopiesTyped : Copies → Type 0
  CopiesTyped copies = (v : VarId) → Refined (variable_type (slice_get kinds v.0) (known_at known v.0)) (type_of structs kinds known (use_of v (copies v.0)))

  abbrev IsNum : Word → Type 0
  IsNum w = (z : ℤ) × (w ≡ NumWord z)

  constant-int : (w : Word) → IsNum w → type_of structs kinds known (constant_expr w) ≡ Some (Of Int)
  unfolding type_of
  constant-int w h = rw (h.1) refl

  truth-num : (b : Bool) → IsNum (truth b)
  truth-num true = (_, refl)
  truth-num false = (_, refl)

  unary-num : (op : UnaryOp) (w : Word) → IsNum (unary_value op w)
  unary-num Neg w = (_, refl)
  unary-num Not w = truth-num _

  binary-num : (op : BinaryOp) (v w : Word) → IfPick op (λ row. ⊥) → IsNum (binary_value op v w)
  binary-num Add v w p = (_, refl)
  binary-num Sub v w p = (_, refl)
  binary-num Mul v w p = (_, refl)
  binary-num Div v w p = (_, refl)
  binary-num Rem v w p = (_, refl)
  binary-num Less v w p = truth-num _
  binary-num LessEq v w p = truth-num _
  binary-num More v w p = truth-num _
  binary-num MoreEq v w p = truth-num _
  binary-num Same v w p = truth-num _
  binary-num Differ v w p = truth-num _
  binary-num And v w p = truth-num _
  binary-num Or v w p = truth-num _
  binary-num (Pick row) v w p = absurd p

  unary-refined : (op : UnaryOp) (t : Typing) (a : CodeExpr) (o : Option Word) → Refined t
      (type_of structs kinds known a) → Refined (int_if (fits Int t))
      (type_of structs kinds known (unary_folded op a o))
  unary-refined op t a None h = rw (type-unary structs kinds known op a) (refined-int (fits Int t) (fits Int (type_of structs kinds known a)) (refined-fits Int t (type_of structs kinds known a) h))
  unary-refined op t a (Some w) h = int-refined (fits Int t) (type_of structs kinds known (constant_expr (unary_value op w))) (constant-int (unary_value op w) (unary-num op w))

  if-refined : (b : Bool) (t u : Typing) → Refined t u → Refined (if b then t else None) u
  if-refined true t u h = h
  if-refined false t u h = tt

  kept-op : (op : BinaryOp) (q : Bool) (s t : Typing) (a b : CodeExpr) → (q ≡ true → left_suits structs op a ≡ true) → IfPick op (λ row. PlaceType s) → Refined s (type_of structs kinds known a)
      → Refined t (type_of structs kinds known b) → Refined (if q then binary_type op s t else None) (type_of structs kinds known (Binary op a b))
  kept-op op q s t a b l p g h =
      rw (type-binary structs kinds known op a b)
      (refined-if q (left_suits structs op a) (binary_type op s t) (binary_type op (type_of structs kinds known a) (type_of structs kinds known b)) l
      (λ k. refined-binary op s (type_of structs kinds known a) t (type_of structs kinds known b) p g h))

  -- an element of null that is folded is null
  null-element : (s : Typing) → Refined s (Some AnyPointer) → Refined (element_type s) (Some AnyPointer)
  null-element None g = tt
  null-element (Some AnyPointer) g = inr refl
  null-element (Some AnyPlace) g = inr refl
  null-element (Some (Of k)) g = g

  pick-folded : (row : ℕ) (q : Bool) (s t : Typing) (a : CodeExpr) (v w : Word) → (q ≡ true → starts_row structs row a ≡ true) → constant a ≡ Some v → Refined s (type_of structs kinds known a)
      → Refined (if q then (if fits Int t then element_type s else None) else None) (type_of structs kinds known (constant_expr (picked_element row v w)))
  unfolding type_of
  pick-folded row false s t a v w l e g = tt
  pick-folded row true s t (NumExpr n) v w l e g = absurd (grind (arith, l refl))
  pick-folded row true s t NullExpr v w l e g =
      let i : Null ≡ v = some-same Null v e in
      subst (λ v. Refined (if fits Int t then element_type s else None) (type_of structs kinds known (constant_expr (picked_element row v w)))) i
      (if-refined (fits Int t) (element_type s) (Some AnyPointer) (null-element s g))
  pick-folded row true s t (Var v') v w l e g = none-some v e
  pick-folded row true s t (Unary' op _ a) v w l e g = none-some v e
  pick-folded row true s t (Binary' op _ a _ b) v w l e g = none-some v e
  pick-folded row true s t (Field' _ a z f) v w l e g = none-some v e
  pick-folded row true s t (Address' _ a z f) v w l e g = none-some v e

  constants-folded : (op : BinaryOp) (q : Bool) (s t : Typing) (a : CodeExpr) (v w : Word) →
      (q ≡ true → left_suits structs op a ≡ true) → constant a ≡ Some v → Refined s (type_of structs kinds known a)
      → Refined (if q then binary_type op s t else None) (type_of structs kinds known (constant_expr (binary_value op v w)))
  constants-folded (Pick row) q s t a v w l e g = pick-folded row q s t a v w l e g
  constants-folded op q s t a v w l e g =
      if-refined q (binary_type op s t) (type_of structs kinds known (constant_expr (binary_value op v w)))
      (binary-int op s t (type_of structs kinds known (constant_expr (binary_value op v w))) tt (constant-int (binary_value op v w) (binary-num op v w tt)))

  binary-refined : (op : BinaryOp) (q : Bool) (s t : Typing) (a b : CodeExpr) (o p : Option Word) → (q ≡ true → left_suits structs op a ≡ true) → IfPick op (λ row. PlaceType s) → constant a ≡ o
      → Refined s (type_of structs kinds known a) → Refined t (type_of structs kinds known b)
      → Refined (if q then binary_type op s t else None) (type_of structs kinds known (binary_folded op a b o p))
  binary-refined op q s t a b None p l c e g h = kept-op op q s t a b l c g h
  binary-refined op q s t a b (Some v) None l c e g h = kept-op op q s t a b l c g h
  binary-refined op q s t a b (Some v) (Some w) l c e g h = constants-folded op q s t a v w l e g

  default-refined : (k : Option FieldKind) → Refined (plain_type k) (type_of structs kinds known (constant_expr (field_default k)))
  unfolding type_of
  default-refined None = tt
  default-refined (Some (PlainField Int)) = inl refl
  default-refined (Some (PlainField (Ptr s))) = inr (inl (refl, refl))
  default-refined (Some (PlainField ModInt)) = inr (inl (refl, refl))
  default-refined (Some (PlainField (ModPtr s))) = inr (inl (refl, refl))
  default-refined (Some CellInt) = tt
  default-refined (Some (CellPtr s)) = tt

  cell-refined : (k : Option FieldKind) → Refined (cell_type k) (type_of structs kinds known NullExpr)
  unfolding type_of
  cell-refined None = tt
  cell-refined (Some (PlainField kind)) = tt
  cell-refined (Some CellInt) = inr (inl (refl, refl))
  cell-refined (Some (CellPtr s)) = inr (inl (refl, refl))

  -- only null has the type of null
  variable-not-null : (o : Option Kind) (b : Bool) → variable_type o b ≡ Some AnyPointer → ⊥
  variable-not-null None b h = grind (arith, h)
  variable-not-null (Some k) true h = grind (arith, h)
  variable-not-null (Some k) false h = grind (arith, h)

  int-not-null : (b : Bool) → int_if b ≡ Some AnyPointer → ⊥
  int-not-null true h = grind (arith, h)
  int-not-null false h = grind (arith, h)

  if-not-null : (b : Bool) (t : Typing) → (t ≡ Some AnyPointer → ⊥) → (if b then t else None) ≡ Some AnyPointer → ⊥
  if-not-null true t g h = g h
  if-not-null false t g h = grind (arith, h)

  element-not-null : (s : Typing) → element_type s ≡ Some AnyPointer → ⊥
  element-not-null None h = grind (arith, h)
  element-not-null (Some AnyPointer) h = grind (arith, h)
  element-not-null (Some AnyPlace) h = grind (arith, h)
  element-not-null (Some (Of k)) h = grind (arith, h)

  binary-not-null : (op : BinaryOp) (s t : Typing) → binary_type op s t ≡ Some AnyPointer → ⊥
  binary-not-null Same s t h = int-not-null (one_type s t) h
  binary-not-null Differ s t h = int-not-null (one_type s t) h
  binary-not-null Add s t h = int-not-null (fits Int s && fits Int t) h
  binary-not-null Sub s t h = int-not-null (fits Int s && fits Int t) h
  binary-not-null Mul s t h = int-not-null (fits Int s && fits Int t) h
  binary-not-null Div s t h = int-not-null (fits Int s && fits Int t) h
  binary-not-null Rem s t h = int-not-null (fits Int s && fits Int t) h
  binary-not-null Less s t h = int-not-null (fits Int s && fits Int t) h
  binary-not-null LessEq s t h = int-not-null (fits Int s && fits Int t) h
  binary-not-null More s t h = int-not-null (fits Int s && fits Int t) h
  binary-not-null MoreEq s t h = int-not-null (fits Int s && fits Int t) h
  binary-not-null And s t h = int-not-null (fits Int s && fits Int t) h
  binary-not-null Or s t h = int-not-null (fits Int s && fits Int t) h
  binary-not-null (Pick row) s t h = if-not-null (fits Int t) (element_type s) (element-not-null s) h

  plain-not-null : (k : Option FieldKind) → plain_type k ≡ Some AnyPointer → ⊥
  plain-not-null None h = grind (arith, h)
  plain-not-null (Some (PlainField kind)) h = grind (arith, h)
  plain-not-null (Some CellInt) h = grind (arith, h)
  plain-not-null (Some (CellPtr s)) h = grind (arith, h)

  cell-not-null : (k : Option FieldKind) → cell_type k ≡ Some AnyPointer → ⊥
  cell-not-null None h = grind (arith, h)
  cell-not-null (Some (PlainField kind)) h = grind (arith, h)
  cell-not-null (Some CellInt) h = grind (arith, h)
  cell-not-null (Some (CellPtr s)) h = grind (arith, h)

  null-type : (e : CodeExpr) → type_of structs kinds known e ≡ Some AnyPointer → is_null e ≡ true
  unfolding type_of
  null-type (NumExpr n) h = absurd (grind (arith, h))
  null-type NullExpr h = refl
  null-type (Var v) h = absurd (variable-not-null (slice_get kinds v.0) (known_at known v.0) h)
  null-type (Unary' op _ a) h = absurd (int-not-null (fits Int (operand_type structs kinds known a)) h)
  null-type (Binary' op _ a _ b) h =
      absurd (if-not-null (operand_suits structs op a) (binary_type op (operand_type structs kinds known a) (operand_type structs kinds known b))
      (binary-not-null op (operand_type structs kinds known a) (operand_type structs kinds known b)) h)
  null-type (Field' _ a s f) h = absurd (if-not-null (points_to s (operand_type structs kinds known a))
      (plain_type (field_kind structs (Struct s) f)) (plain-not-null (field_kind structs (Struct s) f)) h)
  null-type (Address' _ a s f) h = absurd (if-not-null (points_to s (operand_type structs kinds known a))
      (cell_type (field_kind structs (Struct s) f)) (cell-not-null (field_kind structs (Struct s) f)) h)

  no-struct-place : {A : Type 0} (s : ℕ) → is_place (Ptr s) ≡ true → A
  no-struct-place s h = absurd (grind (arith, h))

  -- what is to the left of `->` still points to the struct, where it is not null
  points-refined : (s : ℕ) (t : Typing) (a : CodeExpr) → Refined t (type_of structs kinds known a) → is_null a ≡ false → points_to s t ≡ true → points_to s (type_of structs kinds known a) ≡ true
  points-refined s None a h n k = absurd (grind (arith, k))
  points-refined s (Some AnyPointer) a h n k = absurd (grind (arith, k))
  points-refined s (Some AnyPlace) a h n k = absurd (grind (arith, k))
  points-refined s (Some (Of kind)) a (inl e) n k = rw e k
  points-refined s (Some (Of kind)) a (inr (inl p)) n k = let i = null-type a p.0 in absurd (grind (arith, n, i))
  points-refined s (Some (Of kind)) a (inr (inr p)) n k = no-struct-place s (subst (λ k. is_place k ≡ true) (sym (kind-same (Ptr s) kind k)) p.1)

  points-if : (a b : Bool) (t : Typing) → (a ≡ true → b ≡ true) → Refined (if a then t else None) (if b then t else None)
  points-if true b t h = rw (h refl) (refined-refl t)
  points-if false b t h = tt

  field-refined : (s f : ℕ) (t : Typing) (a : CodeExpr) → Refined t (type_of structs kinds known a) → (b : Bool) → is_null a ≡ b
      → Refined (if points_to s t then plain_type (field_kind structs (Struct s) f) else None)
      (type_of structs kinds known (if b then constant_expr
      (field_default (field_kind structs (Struct s) f)) else Field a s f))
  field-refined s f t a h true n =
      if-refined (points_to s t) (plain_type (field_kind structs (Struct s) f))
      (type_of structs kinds known (constant_expr (field_default (field_kind structs (Struct s) f))))
      (default-refined (field_kind structs (Struct s) f))
  field-refined s f t a h false n =
      rw (type-field structs kinds known a s f) (points-if (points_to s t) (points_to s (type_of structs kinds known a)) (plain_type (field_kind structs (Struct s) f)) (points-refined s t a h n))

  address-refined : (s f : ℕ) (t : Typing) (a : CodeExpr) → Refined t (type_of structs kinds known a) → (b : Bool) → is_null a ≡ b
      → Refined (if points_to s t then cell_type (field_kind structs (Struct s) f) else None) (type_of structs kinds known (if b then NullExpr else Address a s f))
  address-refined s f t a h true n =
      if-refined (points_to s t) (cell_type (field_kind structs (Struct s) f)) (type_of structs kinds known NullExpr) (cell-refined (field_kind structs (Struct s) f))
  address-refined s f t a h false n =
      rw (type-address structs kinds known a s f) (points-if (points_to s t) (points_to s (type_of structs kinds known a)) (cell_type (field_kind structs (Struct s) f)) (points-refined s t a h n))

  -- what is to the left of an index has the type of a place
  place-if : (b : Bool) (k : Option FieldKind) → PlaceType (if b then cell_type k else None)
  place-if false k = tt
  place-if true None = tt
  place-if true (Some (PlainField kind)) = tt
  place-if true (Some CellInt) = refl
  place-if true (Some (CellPtr s)) = refl

  start-place : (row : ℕ) (e : CodeExpr) → starts_row structs row e ≡ true → PlaceType (type_of structs kinds known e)
  unfolding type_of
  start-place row NullExpr h = tt
  start-place row (Address' _ a s f) h = place-if (points_to s (operand_type structs kinds known a)) (field_kind structs (Struct s) f)
  start-place row (NumExpr n) h = absurd (grind (arith, h))
  start-place row (Var v) h = absurd (grind (arith, h))
  start-place row (Unary' op _ a) h = absurd (grind (arith, h))
  start-place row (Binary' op _ a _ b) h = absurd (grind (arith, h))
  start-place row (Field' _ a s f) h = absurd (grind (arith, h))

  module _ (copies : Copies) (good : CopiesTyped copies) where
    null-or-address : (row : ℕ) (b : Bool) (a : CodeExpr) (s f : ℕ) → is_row_of row (row_at structs s f) ≡ true → starts_row structs row (if b then NullExpr else Address a s f) ≡ true
    null-or-address row true a s f h = refl
    null-or-address row false a s f h = rw (row-address structs row a s f) h

    start-folded : (row : ℕ) (e : CodeExpr) → starts_row structs row e ≡ true → starts_row structs row (folded_expr structs copies e) ≡ true
    unfolding folded_expr
    start-folded row NullExpr h = refl
    start-folded row (Address' _ a s f) h = null-or-address row (is_null (folded_operand structs copies a)) (folded_operand structs copies a) s f h
    start-folded row (NumExpr n) h = absurd (grind (arith, h))
    start-folded row (Var v) h = absurd (grind (arith, h))
    start-folded row (Unary' op _ a) h = absurd (grind (arith, h))
    start-folded row (Binary' op _ a _ b) h = absurd (grind (arith, h))
    start-folded row (Field' _ a s f) h = absurd (grind (arith, h))

    -- folding keeps what `Pick` asks of its left operand
    suits-folded : (op : BinaryOp) {n : _} (a : Row_of-CodeExpr n) → operand_suits structs op a ≡ true → left_suits structs op (folded_operand structs copies a) ≡ true
    unfolding folded_expr
    suits-folded (Pick row) end_of-CodeExpr h = absurd (grind (arith, h))
    suits-folded (Pick row) (more_of-CodeExpr e rest) h = start-folded row e h
    suits-folded op a h = refl

    pick-place : (op : BinaryOp) {n : _} (a : Row_of-CodeExpr n) → operand_suits structs op a ≡ true → IfPick op (λ row. PlaceType (operand_type structs kinds known a))
    unfolding type_of
    pick-place (Pick row) end_of-CodeExpr h = tt
    pick-place (Pick row) (more_of-CodeExpr e rest) h = start-place row e h
    pick-place op a h = tt

    -- an operator, where its left operand is what it asks
    suited : (op : BinaryOp) (q : Bool) (s t : Typing) (a b : CodeExpr) → (q ≡ true → left_suits structs op a ≡ true) → (q ≡ true → IfPick op (λ row. PlaceType s))
        → Refined s (type_of structs kinds known a) → Refined t (type_of structs kinds known b)
        → Refined (if q then binary_type op s t else None) (type_of structs kinds known (binary_folded op a b (constant a) (constant b)))
    suited op true s t a b l c g h = binary-refined op true s t a b (constant a) (constant b) l (c refl) refl g h
    suited op false s t a b l c g h = tt

    mutual
      unfolding type_of folded_expr

      pub type-folded : (e : CodeExpr) → Refined (type_of structs kinds known e) (type_of structs kinds known (folded_expr structs copies e))
      type-folded (NumExpr n) = inl refl
      type-folded NullExpr = refl
      type-folded (Var v) = good v
      type-folded (Unary' op _ a) = unary-refined op (operand_type structs kinds known a) (folded_operand structs copies a) (constant (folded_operand structs copies a)) (operand-folded a)
      type-folded (Binary' op _ a _ b) =
          suited op (operand_suits structs op a) (operand_type structs kinds known a) (operand_type structs kinds known b) (folded_operand structs copies a) (folded_operand structs copies b)
          (suits-folded op a) (pick-place op a) (operand-folded a) (operand-folded b)
      type-folded (Field' _ a s f) = field-refined s f (operand_type structs kinds known a) (folded_operand structs copies a) (operand-folded a) (is_null (folded_operand structs copies a)) refl
      type-folded (Address' _ a s f) = address-refined s f (operand_type structs kinds known a) (folded_operand structs copies a) (operand-folded a) (is_null (folded_operand structs copies a)) refl

      operand-folded : {n : _} (row : Row_of-CodeExpr n) → Refined (operand_type structs kinds known row) (type_of structs kinds known (folded_operand structs copies row))
      operand-folded end_of-CodeExpr = tt
      operand-folded (more_of-CodeExpr e rest) = type-folded e

  module _ (known' : List Bool) where
    abbrev pub KnownWhere : (ℕ → Bool) → Type 0
    KnownWhere used = (v : ℕ) → used v ≡ true → known_at known v ≡ true → known_at known' v ≡ true

    kept-variable : (o : Option Kind) (b b' : Bool) → (b ≡ true → b' ≡ true) → Kept (variable_type o b) (variable_type o b')
    kept-variable None b b' h = tt
    kept-variable (Some k) true b' h = rw (h refl) refl
    kept-variable (Some k) false b' h = tt

    mutual
      unfolding type_of mentions

      pub type-kept : (e : CodeExpr) → KnownWhere (mentions e) → Kept (type_of structs kinds known e) (type_of structs kinds known' e)
      type-kept (NumExpr n) h = refl
      type-kept NullExpr h = refl
      type-kept (Var v) h = let s : (v.0 == v.0) ≡ true = grind arith in kept-variable (slice_get kinds v.0) (known_at known v.0) (known_at known' v.0) (h v.0 s)
      type-kept (Unary' op _ a) h = kept-int (operand_type structs kinds known a) (operand_type structs kinds known' a) (operand-kept a h)
      type-kept (Binary' op _ a _ b) h =
          kept-if (operand_suits structs op a) (binary_type op (operand_type structs kinds known a) (operand_type structs kinds known b))
          (binary_type op (operand_type structs kinds known' a) (operand_type structs kinds known' b))
          (kept-binary op (operand_type structs kinds known a) (operand_type structs kinds known' a) (operand_type structs kinds known b) (operand_type structs kinds known' b)
          (operand-kept a (λ v m. h v (or-left (operand_mentions a v) (operand_mentions b v) m)))
          (operand-kept b (λ v m. h v (or-right (operand_mentions a v) (operand_mentions b v) m))))
      type-kept (Field' _ a s f) h = kept-points s (operand_type structs kinds known a) (operand_type structs kinds known' a) (plain_type (field_kind structs (Struct s) f)) (operand-kept a h)
      type-kept (Address' _ a s f) h = kept-points s (operand_type structs kinds known a) (operand_type structs kinds known' a) (cell_type (field_kind structs (Struct s) f)) (operand-kept a h)

      operand-kept : {n : _} (row : Row_of-CodeExpr n) → KnownWhere (operand_mentions row) → Kept (operand_type structs kinds known row) (operand_type structs kinds known' row)
      operand-kept end_of-CodeExpr h = tt
      operand-kept (more_of-CodeExpr e rest) h = type-kept e h

    module _ (copies : Copies) (good : CopiesTyped copies) where
      pub type-final : (e : CodeExpr) → KnownWhere (mentions (folded_expr structs copies e)) → Refined (type_of structs kinds known e) (type_of structs kinds known' (folded_expr structs copies e))
      type-final e h =
          kept-refined (type_of structs kinds known e) (type_of structs kinds known (folded_expr structs copies e)) (type_of structs kinds known' (folded_expr structs copies e))
          (type-folded copies good e) (type-kept (folded_expr structs copies e) h)

      pub all-final : (ks : List Kind) (es : List CodeExpr) → KnownWhere
          (all_mention (folded_exprs structs copies es)) → all_fit structs kinds known ks es ≡ true
          → all_fit structs kinds known' ks (folded_exprs structs copies es) ≡ true
      unfolding all_fit folded_exprs all_mention
      all-final [] [] h k = k
      all-final [] (e ∷ es) h k = absurd (grind (arith, k))
      all-final (asked ∷ ks) [] h k = absurd (grind (arith, k))
      all-final (asked ∷ ks) (e ∷ es) h k =
          let e' = folded_expr structs copies e in
          let es' = folded_exprs structs copies es in
          let p = both (fits asked (type_of structs kinds known e)) (all_fit structs kinds known ks es) k in
          both-true (fits asked (type_of structs kinds known' e')) (all_fit structs kinds known' ks es')
          (refined-fits asked (type_of structs kinds known e) (type_of structs kinds known' e') (type-final e (λ v m. h v (or-left (mentions e' v) (all_mention es' v) m))) p.0)
          (all-final ks es (λ v m. h v (or-right (mentions e' v) (all_mention es' v) m)) p.1)

      pub params-final : (theirs : List Kind) (ps : List VarId) (es : List CodeExpr) → KnownWhere (all_mention (folded_exprs structs copies es)) → params_fit structs kinds known theirs ps es ≡ true
          → params_fit structs kinds known' theirs ps (folded_exprs structs copies es) ≡ true
      unfolding params_fit folded_exprs all_mention
      params-final theirs [] [] h k = k
      params-final theirs [] (e ∷ es) h k = absurd (grind (arith, k))
      params-final theirs (q ∷ ps) [] h k = absurd (grind (arith, k))
      params-final theirs (q ∷ ps) (e ∷ es) h k =
          let e' = folded_expr structs copies e in
          let es' = folded_exprs structs copies es in
          let p = both (fits_maybe (slice_get theirs q.0) (type_of structs kinds known e)) (params_fit structs kinds known theirs ps es) k in
          both-true (fits_maybe (slice_get theirs q.0) (type_of structs kinds known' e')) (params_fit structs kinds known' theirs ps es')
          (refined-maybe (slice_get theirs q.0) (type_of structs kinds known e) (type_of structs kinds known' e') (type-final e (λ v m. h v (or-left (mentions e' v) (all_mention es' v) m))) p.0)
          (params-final theirs ps es (λ v m. h v (or-right (mentions e' v) (all_mention es' v) m)) p.1)
