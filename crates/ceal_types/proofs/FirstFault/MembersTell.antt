-- The members of a struct, and what is before `->`.
use Rattle.std.proofs.Common.{◌≡◌, ℕ, ◌==◌, Option, Some, None, Result, Ok, List, [], ◌∷◌, ◌++◌, map, slice_get, refl, sym, subst, ap, ◌∙◌, if◌then◌else◌}
use Rattle.std.specs.Prelude.{IfSome, is_some}
use Rattle.std.specs.Option.{option_map, option_and_then}
use Rattle.std.proofs.lemmas.Option.{slice_get-map}
use Rattle.ceal_base.specs.Faults.{one}
use Rattle.ceal_base.specs.WellTyped.{address_kind, name_of_field}
use Rattle.ceal_base.specs.declared.fault.Fault.{Fault}
use Rattle.ceal_base.specs.declared.fault.FaultCode.TheVariants.{T1, T3, T5}
use Rattle.ceal_base.specs.declared.fault.Span.{Span}
use Rattle.ceal_base.specs.declared.kind.FieldKind.{FieldKind}
use Rattle.ceal_base.specs.declared.kind.FieldKind.TheVariants.{Plain, CellInt, CellPtr}
use Rattle.ceal_base.specs.declared.kind.Kind.{Kind}
use Rattle.ceal_base.specs.declared.kind.Kind.TheVariants.{Int, Ptr, ModInt, ModPtr}
use Rattle.ceal_base.specs.declared.operators.Binary.TheVariants.{Pick}
use Rattle.ceal_base.specs.declared.syntax.FunctionDecl.{FunctionDecl}
use Rattle.ceal_base.specs.declared.syntax.Ident.{Ident}
use Rattle.ceal_base.specs.declared.typed.FieldInfo.{FieldInfo}
use Rattle.ceal_base.specs.declared.typed.TypedExpr.{TypedExpr}
use Rattle.ceal_base.specs.declared.typed.TypedForm.TheViews as typed
use Rattle.ceal_types.specs.Checked.{field_info}
use Rattle.ceal_types.specs.Expressions.{Fields, expression, found_or, field_or_row, field_named, field_of_struct}
use Rattle.ceal_types.specs.Expressions.{member_of, member, value_of_field, field_of, place_of_field, address_of}
use Rattle.ceal_types.specs.Expressions.{element_of, element_of_row, pick_of_kind, pick_of}
use Rattle.ceal_types.specs.Faults.{one_unless, one_if, misfit, arrow_faults, use_faults, address_faults, element_faults}
use Rattle.ceal_types.specs.Kinds.{suits}
use Rattle.ceal_types.specs.Known.{Known, Declared, member_named, member_known, value_type, place_type}
use Rattle.ceal_types.specs.Resolves.{member_number}
use Rattle.ceal_types.specs.Tables.{Name, find, second, value_at, element_name}
use Rattle.ceal_types.specs.Walk.{fault}
use Rattle.ceal_types.specs.declared.program.Field.{Field}
use Rattle.ceal_types.specs.declared.program.Member.{Member}
use Rattle.ceal_types.specs.declared.program.Program.{Program}
use Rattle.ceal_types.proofs.NameNumbers.FoundPlace.{find-place}
use Rattle.ceal_types.proofs.Resolution.NumbersOfNames.{first, member-place, names-of-fields, some-same}
use Rattle.ceal_types.proofs.FirstFault.WalkTells.{Tells, unless-tells, unless-first, where-first, either-way, as-list}

-- an expression begins at this token and has this type
abbrev pub TypedAs : Span → Known → TypedExpr → Type 0
TypedAs at type x = (x.span ≡ at) × (type ≡ Some x.kind)

-- the structs of a walk by name, with their fields
abbrev pub known_structs : List (Name × Fields) → List (Name × List FieldInfo)
known_structs [] = []
known_structs (s ∷ structs) = (s.0, map field_info s.1) ∷ known_structs structs

-- T1 at a value of another type than is asked
pub misfit-tells : {A : Type 0} (P : A → Type 0) (asked : Kind) (type : Known) (at : Span) (x : TypedExpr) (v : A) → TypedAs at type x → P v
    → Tells P (misfit (Some asked) type at) (if suits asked x.kind then Ok v else fault T1 x.span)
misfit-tells P asked type at x v t h =
    rw (t.1, t.0) (unless-tells P (suits asked x.kind) T1 at v (λ b. h))

pub misfit-first : {A : Type 0} (P : A → Type 0) (asked : Kind) (type : Known) (at : Span) (x : TypedExpr) (gs : List Fault) (r : Result A Fault) → TypedAs at type x
    → Tells P gs r → Tells P (misfit (Some asked) type at ++ gs) (if suits asked x.kind then r else fault T1 x.span)
misfit-first P asked type at x gs r t h =
    rw (t.1, t.0) (unless-first P (suits asked x.kind) T1 at gs r (λ b. h))

-- ---- members by name
-- the field that is found is the one that is at its number
abbrev FieldAs : Option (ℕ × Field) → Option FieldInfo → Type 0
FieldAs None m = m ≡ None
FieldAs (Some f) m = (i : FieldInfo) × (m ≡ Some i) × (i.kind ≡ f.1.kind) × (i.row ≡ f.1.row)

either-place : (fields : Fields) (a b : Option (ℕ × Field)) → IfSome a (λ f. value_at fields f.0 ≡ Some f.1) → IfSome b (λ f. value_at fields f.0 ≡ Some f.1)
    → IfSome (found_or a b) (λ f. value_at fields f.0 ≡ Some f.1)
either-place fields None b h k = k
either-place fields (Some a) b h k = h

field-there : (o : Option (Name × Field)) (f : Field) → option_map second o ≡ Some f
    → (i : FieldInfo) × (option_map field_info o ≡ Some i) × (i.kind ≡ f.kind) × (i.row ≡ f.row)
field-there None f h = cc
field-there (Some e) f h =
    let same = some-same e.1 f h in
    (field_info e, refl, ap (λ (g : Field). g.kind) same, ap (λ (g : Field). g.row) same)

found-as : (fields : Fields) (o : Option (ℕ × Field)) (n : Option ℕ) → IfSome o (λ f. value_at fields f.0 ≡ Some f.1) → option_map first o ≡ n
    → FieldAs o (option_and_then (slice_get (map field_info fields)) n)
found-as fields None n h e = ap (option_and_then (slice_get (map field_info fields))) (sym e)
found-as fields (Some f) n h e =
    let there = field-there (slice_get fields f.0) f.1 h in
    (there.0, ap (option_and_then (slice_get (map field_info fields))) (sym e) ∙ slice_get-map field_info fields f.0 ∙ there.1, there.2, there.3)

member-as : (fields : Fields) (name : Name) → FieldAs (field_or_row fields name) (member_named name (map field_info fields))
member-as fields name =
    found-as fields (field_or_row fields name) (member_number (map name_of_field (map field_info fields)) name)
    (either-place fields (find fields name) (find fields (element_name name 0)) (find-place fields name) (find-place fields (element_name name 0)))
    (member-place fields name ∙ ap (λ (l : List Name). member_number l name) (sym (names-of-fields fields)))

abbrev shown : Name × Fields → Name × List FieldInfo
shown s = (s.0, map field_info s.1)

known-map : (structs : List (Name × Fields)) → known_structs structs ≡ map shown structs
known-map [] = refl
known-map (s ∷ structs) = ap (λ (l : List (Name × List FieldInfo)). (s.0, map field_info s.1) ∷ l) (known-map structs)

shown-second : (o : Option (Name × Fields)) → option_map second (option_map shown o) ≡ option_map (map field_info) (option_map second o)
shown-second None = refl
shown-second (Some s) = refl

known-at : (structs : List (Name × Fields)) (s : ℕ) → value_at (known_structs structs) s ≡ option_map (map field_info) (value_at structs s)
known-at structs s = rw (known-map structs, slice_get-map shown structs s) (shown-second (slice_get structs s))

module _ (p : Program) (functions : List (Name × FunctionDecl)) where
  -- what is declared, by the walk's tables
  abbrev pub Shown : Declared
  Shown = record { names = p.names; structs = known_structs p.structs; functions = functions }

  -- the member is the one that is known
  abbrev pub MemberAs : Known → Name → Member → Type 0
  MemberAs type name m = (i : FieldInfo) × (member_known Shown type name ≡ Some i) × (i.kind ≡ m.kind) × (i.row ≡ m.row)

  named-tells : (name : Ident) (s : ℕ) (o : Option (ℕ × Field)) (m : Option FieldInfo) → FieldAs o m → member_known Shown (Some (Some (Ptr s))) name.text ≡ m
      → Tells (MemberAs (Some (Some (Ptr s))) name.text) (one_unless (is_some m) T5 name.span) (field_named name s o)
  named-tells name s None m h e = rw h refl
  named-tells name s (Some f) m h e = (rw h.1 refl, (h.0, e ∙ h.1, h.2, h.3))

  struct-tells : (name : Ident) (s : ℕ) (o : Option Fields)
      → member_known Shown (Some (Some (Ptr s))) name.text ≡ option_and_then (member_named name.text) (option_map (map field_info) o)
      → Tells (MemberAs (Some (Some (Ptr s))) name.text) (one_unless (is_some (option_and_then (member_named name.text) (option_map (map field_info) o))) T5 name.span) (field_of_struct name s o)
  struct-tells name s None e = refl
  struct-tells name s (Some fields) e =
      named-tells name s (field_or_row fields name.text) (member_named name.text (map field_info fields)) (member-as fields name.text) e

  kind-tells : (at : Span) (name : Ident) (kind : Option Kind)
      → Tells (MemberAs (Some kind) name.text) (arrow_faults Shown (Some kind) at name) (member_of p.structs at name kind)
  kind-tells at name None = refl
  kind-tells at name (Some Int) = refl
  kind-tells at name (Some ModInt) = refl
  kind-tells at name (Some (ModPtr s)) = refl
  kind-tells at name (Some (Ptr s)) =
      let e = ap (option_and_then (member_named name.text)) (known-at p.structs s) in
      as-list (MemberAs (Some (Some (Ptr s))) name.text) (one_unless (is_some (option_and_then (member_named name.text) (option_map (map field_info) (value_at p.structs s)))) T5 name.span)
      (arrow_faults Shown (Some (Some (Ptr s))) at name) (member_of p.structs at name (Some (Ptr s)))
      (ap (λ (o : Option FieldInfo). one_unless (is_some o) T5 name.span) (sym e)) (struct-tells name s (value_at p.structs s) e)

  pub member-tells : (at : Span) (type : Known) (name : Ident) (y : TypedExpr) → TypedAs at type y
      → Tells (MemberAs type name.text) (arrow_faults Shown type at name) (member p.structs name y)
  unfolding member
  member-tells at type name y t =
      subst (λ (k : Known). Tells (MemberAs k name.text) (arrow_faults Shown k at name) (member_of p.structs y.span name y.kind)) (sym t.1)
      (subst (λ (a : Span). Tells (MemberAs (Some y.kind) name.text) (arrow_faults Shown (Some y.kind) a name) (member_of p.structs y.span name y.kind)) t.0
      (kind-tells y.span name y.kind))

  -- ---- the value of a member, its place, and the place of an element of it
  value-tells : (at : Span) (name : Ident) (y : TypedExpr) (s f : ℕ) (i : FieldInfo) (kind : FieldKind) → i.kind ≡ kind
      → Tells (TypedAs at (value_type (Some i))) (use_faults (Some i) name.span) (value_of_field at name y s f kind)
  value-tells at name y s f i (Plain k) h = rw h (refl, (refl, refl))
  value-tells at name y s f i CellInt h = rw h refl
  value-tells at name y s f i (CellPtr t) h = rw h refl

  pub field-tells : (at : Span) (name : Ident) (y : TypedExpr) (m : Member) (found : Option FieldInfo) → (i : FieldInfo) → found ≡ Some i → i.kind ≡ m.kind
      → Tells (TypedAs at (value_type found)) (use_faults found name.span) (field_of at name y m)
  field-tells at name y m found i e h = rw e (value-tells at name y m.shape m.field i m.kind h)

  place-tells : (at : Span) (name : Ident) (y : TypedExpr) (s f : ℕ) (i : FieldInfo) (kind : FieldKind) → i.kind ≡ kind
      → Tells (TypedAs at (place_type (Some i))) (one_unless (is_some (address_kind (Some i.kind))) T3 name.span) (place_of_field at name y s f kind)
  place-tells at name y s f i (Plain k) h = rw h refl
  place-tells at name y s f i CellInt h = rw h (refl, (refl, refl))
  place-tells at name y s f i (CellPtr t) h = rw h (refl, (refl, refl))

  pub address-tells : (at : Span) (name : Ident) (y : TypedExpr) (m : Member) (found : Option FieldInfo) → (i : FieldInfo) → found ≡ Some i → i.kind ≡ m.kind → i.row ≡ m.row
      → Tells (TypedAs at (place_type found)) (address_faults found name.span) (address_of at name y m)
  address-tells at name y m found i e h k =
      rw (e, k) (either-way (TypedAs at (place_type (Some i))) (m.row == 0) (one_unless (is_some (address_kind (Some i.kind))) T3 name.span) (one T1 name.span)
      (place_of_field at name y m.shape m.field m.kind) (fault T1 name.span) (place-tells at name y m.shape m.field i m.kind h) refl)

  -- an element of a row of modifiables
  row-tells : (at to : Span) (type : Known) (name : Ident) (kind : Kind) (y z : TypedExpr) (m : Member) → TypedAs to type z
      → Tells (TypedAs at (Some (Some kind))) (one_if (m.row == 0) T1 name.span ++ misfit (Some Int) type to) (element_of_row at name kind y z m)
  row-tells at to type name kind y z m t =
      let P = TypedAs at (Some (Some kind)) in
      let place = expression at (Some kind) (typed.Address y m.shape m.field) in
      where-first P (m.row == 0) T1 name.span (misfit (Some Int) type to) (element_of at name kind place z m.row)
      (λ b. misfit-tells P Int type to z (expression at (Some kind) (typed.Binary (Pick m.row) name.span place z)) t (refl, refl))

  element-tells : (at to : Span) (type : Known) (name : Ident) (y z : TypedExpr) (m : Member) (i : FieldInfo) → TypedAs to type z → i.row ≡ m.row → (kind : FieldKind) → i.kind ≡ kind
      → Tells (TypedAs at (place_type (Some i))) (element_faults (Some i) name.span ++ misfit (Some Int) type to) (pick_of_kind at name y z m kind)
  element-tells at to type name y z m i t k (Plain kind) h = rw h refl
  element-tells at to type name y z m i t k CellInt h = rw (h, k) (row-tells at to type name ModInt y z m t)
  element-tells at to type name y z m i t k (CellPtr s) h = rw (h, k) (row-tells at to type name (ModPtr s) y z m t)

  pub pick-tells : (at to : Span) (type : Known) (name : Ident) (y z : TypedExpr) (m : Member) (found : Option FieldInfo) → (i : FieldInfo) → found ≡ Some i → i.kind ≡ m.kind → i.row ≡ m.row
      → TypedAs to type z → Tells (TypedAs at (place_type found)) (element_faults found name.span ++ misfit (Some Int) type to) (pick_of at name y z m)
  pick-tells at to type name y z m found i e h k t = rw e (element-tells at to type name y z m i t k m.kind h)
