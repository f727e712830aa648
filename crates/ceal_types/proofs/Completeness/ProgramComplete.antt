-- A program that agrees with a tree and is well typed is what the walk gives.
use Rattle.std.proofs.Common.{◌≡◌, ℕ, zero, suc, ◌+◌, ◌||◌, arith, Bool, false, Option, Some, None, Ok, List, [], ◌∷◌}
use Rattle.std.proofs.Common.{◌++◌, All, map, slice_get, length, take, refl, sym, subst, ap, ◌∙◌, append_assoc}
use Rattle.std.proofs.Common.{append-nil}
use Rattle.std.specs.List.{AllByRecursion, IsDistinct, list_any}
use Rattle.std.specs.Cmp.Lexicographic.{nat_list_eq_equiv}
use Rattle.std.specs.Map.{keys_of}
use Rattle.std.specs.Str.{bytes_eq}
use Rattle.std.proofs.lemmas.List.{length_push, map-append}
use Rattle.std.proofs.lemmas.List.Elements.{All-push}
use Rattle.ceal_base.specs.WellTyped.{context_of, FunctionTyped, WellTyped, StmtsTyped, numbers_below, struct_name, function_name, name_of_field}
use Rattle.ceal_base.specs.declared.fault.FaultCode.TheVariants.{N2}
use Rattle.ceal_base.specs.declared.kind.FieldKind.{FieldKind}
use Rattle.ceal_base.specs.declared.kind.FieldKind.TheVariants.{CellPtr}
use Rattle.ceal_base.specs.declared.kind.Kind.{Kind}
use Rattle.ceal_base.specs.declared.kind.Kind.TheVariants as kinds
use Rattle.ceal_base.specs.declared.syntax.Entry.{Entry}
use Rattle.ceal_base.specs.declared.syntax.Entry.TheVariants.{Struct, Function}
use Rattle.ceal_base.specs.declared.syntax.FieldDecl.{FieldDecl}
use Rattle.ceal_base.specs.declared.syntax.FunctionDecl.{FunctionDecl}
use Rattle.ceal_base.specs.declared.syntax.Ident.{Ident}
use Rattle.ceal_base.specs.declared.syntax.StructDecl.{StructDecl}
use Rattle.ceal_base.specs.declared.syntax.Tree.{Tree}
use Rattle.ceal_base.specs.declared.syntax.TypeForm.{TypeForm}
use Rattle.ceal_base.specs.declared.syntax.TypeForm.TheVariants as forms
use Rattle.ceal_base.specs.declared.typed.FieldInfo.{FieldInfo}
use Rattle.ceal_base.specs.declared.typed.StructInfo.{StructInfo}
use Rattle.ceal_base.specs.declared.typed.Typed.{Typed}
use Rattle.ceal_base.specs.declared.typed.TypedFunction.{TypedFunction}
use Rattle.ceal_types.specs.Checked.{field_info, struct_info, function_of, function_body, typed_function, with_body, program_of, bodies, checked}
use Rattle.ceal_types.specs.Expressions.{Fields}
use Rattle.ceal_types.specs.Heads.{number_or_fault, struct_number, kind_of, plain_pointer, plain_place, field_kind_of}
use Rattle.ceal_types.specs.Heads.{row_of, has_member, with_element, with_elements, added_field, new_field, with_field}
use Rattle.ceal_types.specs.Heads.{with_variable, new_parameter, with_parameter, own_of, no_variables, head}
use Rattle.ceal_types.specs.Heads.{with_parameters, head_of, with_struct, with_function, with_entry, struct_names}
use Rattle.ceal_types.specs.Heads.{no_entries, heads}
use Rattle.ceal_types.specs.Resolves.{Environment, IsNew, IsKind, IsFieldKind, IsStruct, StmtsResolve, elements}
use Rattle.ceal_types.specs.Resolves.{member_fields, MembersResolve, StructResolves, declared_name, numbered_from}
use Rattle.ceal_types.specs.Resolves.{ParametersResolve, OwnResolves, FunctionResolves, EntriesResolve, Resolves}
use Rattle.ceal_types.specs.Statements.{block, inner_block, typed_stmts}
use Rattle.ceal_types.specs.Tables.{Name, has, with_name, element_name}
use Rattle.ceal_types.specs.Walk.{fault, result_map, in_turn, at_end}
use Rattle.ceal_types.specs.declared.program.Program.{Program}
use Rattle.ceal_types.specs.declared.program.Variable.{Variable}
use Rattle.ceal_types.specs.declared.program.Variables.{Variables}
use Rattle.ceal_types.proofs.Completeness.ExpressionComplete.{VariableKind, ScopeKinds}
use Rattle.ceal_types.proofs.Resolution.ExpressionResolved.{Whole}
use Rattle.ceal_types.proofs.Walks.LongerList.{Grows, grows-take}
use Rattle.ceal_types.proofs.NameNumbers.NumberOfName.{has-any, keys-added}
use Rattle.ceal_types.proofs.Typing.ProgramTyped.{View, view, head_view, view_name, heads-match, names-of-functions, names-of-heads}
use Rattle.ceal_types.proofs.Resolution.NumbersOfNames.{numbers, numbers-added, names-of-fields, after-at, mapped-at, if-false}
use Rattle.ceal_types.proofs.Typing.WholeRows.{element}
use Rattle.ceal_types.proofs.Typing.WholeRows.{elements as walked_elements}
use Rattle.ceal_types.proofs.Completeness.StatementComplete.{body-walked}

-- ---- names that are apart
middle : {A : Type 0} (P : A → Type 0) (xs ys : List A) (y : A) → AllByRecursion P (xs ++ y ∷ ys) → P y
middle P [] ys y h = h.0
middle P (x ∷ xs) ys y h = middle P xs ys y h.1

front : {A : Type 0} (P : A → Type 0) (xs ys : List A) → AllByRecursion P (xs ++ ys) → AllByRecursion P xs
front P [] ys h = tt
front P (x ∷ xs) ys h = (h.0, front P xs ys h.1)

apart-front : (xs ys : List Name) → IsDistinct bytes_eq (xs ++ ys) → IsDistinct bytes_eq xs
unfolding IsDistinct
apart-front [] ys h = tt
apart-front (x ∷ xs) ys h = (front (λ z. bytes_eq x z ≡ false) xs ys h.0, apart-front xs ys h.1)

or-false : (a b : Bool) → a ≡ false → b ≡ false → (a || b) ≡ false
or-false a b h k = ap (λ (c : Bool). c || b) h ∙ k

-- a name is none of those before it
not-before : (xs ys : List Name) (y : Name) → IsDistinct bytes_eq (xs ++ y ∷ ys) → list_any (bytes_eq y) xs ≡ false
unfolding IsDistinct
not-before [] ys y h = refl
not-before (x ∷ xs) ys y h =
    or-false (bytes_eq y x) (list_any (bytes_eq y) xs) (nat_list_eq_equiv.symm y x ∙ middle (λ z. bytes_eq x z ≡ false) xs ys y h.0) (not-before xs ys y h.1)

not-there : {A : Type 0} (table : List (Name × A)) (name : Name) → IsNew (keys_of table) name → has table name ≡ false
not-there table name h = has-any table name ∙ h

-- ---- fields
abbrev Fits : Fields → List FieldInfo → Type 0
Fits fields infos = map field_info fields ≡ infos

elements-same : (name : Ident) (kind : FieldKind) (row i : ℕ) → map field_info (walked_elements name kind row i) ≡ elements name.text kind row i
unfolding walked_elements elements
elements-same name kind row zero = refl
elements-same name kind row (suc i) =
    map-append field_info (walked_elements name kind row i) (element name kind row i ∷ [])
    ∙ ap (λ (l : List FieldInfo). l ++ field_info (element name kind row i) ∷ []) (elements-same name kind row i)

-- the keys of fields and of what comes after them
abbrev Apart : Fields → List FieldInfo → Type 0
Apart fields infos = IsDistinct bytes_eq (keys_of fields ++ map name_of_field infos)

names-behind : (fields : Fields) (xs ys : List FieldInfo) → Apart fields (xs ++ ys) → IsDistinct bytes_eq ((keys_of fields ++ map name_of_field xs) ++ map name_of_field ys)
names-behind fields xs ys h =
    subst (IsDistinct bytes_eq) (ap (λ (l : List Name). keys_of fields ++ l) (map-append name_of_field xs ys) ∙ sym (append_assoc (keys_of fields) (map name_of_field xs) (map name_of_field ys))) h

keys-behind : (fields more : Fields) → keys_of (fields ++ more) ≡ keys_of fields ++ map name_of_field (map field_info more)
keys-behind [] more = sym (names-of-fields more)
keys-behind (f ∷ fields) more = ap (λ (l : List Name). f.0 ∷ l) (keys-behind fields more)

elements-complete : (name : Ident) (kind : FieldKind) (row i : ℕ) (fields : Fields) → Apart fields (elements name.text kind row i)
    → with_elements name kind row i fields ≡ Ok (fields ++ walked_elements name kind row i)
unfolding with_elements elements walked_elements
elements-complete name kind row zero fields h = ap Ok (sym (append-nil fields))
elements-complete name kind row (suc i) fields h =
    let here = names-behind fields (elements name.text kind row i) (field_info (element name kind row i) ∷ []) h in
    let before = apart-front (keys_of fields ++ map name_of_field (elements name.text kind row i)) (element_name name.text i ∷ []) here in
    let some = fields ++ walked_elements name kind row i in
    let keys : keys_of (fields ++ walked_elements name kind row i) ≡ keys_of fields ++ map name_of_field (elements name.text kind row i) =
    keys-behind fields (walked_elements name kind row i) ∙ ap (λ (l : List FieldInfo). keys_of fields ++ map name_of_field l) (elements-same name kind row i) in
    let none = not-before (keys_of fields ++ map name_of_field (elements name.text kind row i)) [] (element_name name.text i) here in
    after-at (with_element name kind row i) (with_elements name kind row i fields) some (Ok (fields ++ (walked_elements name kind row i ++ element name kind row i ∷ [])))
    (elements-complete name kind row i fields before)
    (if-false (has some (element_name name.text i)) (fault N2 name.span) (Ok (some ++ element name kind row i ∷ [])) (Ok (fields ++ (walked_elements name kind row i ++ element name kind row i ∷ [])))
    (not-there some (element_name name.text i) (subst (λ (l : List Name). IsNew l (element_name name.text i)) (sym keys) none))
    (ap Ok (append_assoc fields (walked_elements name kind row i) (element name kind row i ∷ []))))

-- what a member adds
record Adds (name : Ident) (form : TypeForm) (kind : FieldKind) (fields : Fields) : Type 0 where
  more : Fields
  is : added_field name (row_of form) fields kind ≡ Ok (fields ++ more)
  fits : Fits more (member_fields form name.text kind)

one-added : (name : Ident) (kind : FieldKind) → Fits ((name.text, record { kind = kind; row = 0 }) ∷ []) (record { name = name.text; kind = kind; row = 0 } ∷ [])
one-added name kind = refl

added-complete : (name : Ident) (form : TypeForm) (kind : FieldKind) (fields : Fields) → Apart fields (member_fields form name.text kind) → Adds name form kind fields
added-complete name forms.Int kind fields h = record { more = (name.text, record { kind = kind; row = 0 }) ∷ []; is = refl; fits = one-added name kind }
added-complete name (forms.Ptr s) kind fields h = record { more = (name.text, record { kind = kind; row = 0 }) ∷ []; is = refl; fits = one-added name kind }
added-complete name forms.ModInt kind fields h = record { more = (name.text, record { kind = kind; row = 0 }) ∷ []; is = refl; fits = one-added name kind }
added-complete name (forms.ModPtr s) kind fields h = record { more = (name.text, record { kind = kind; row = 0 }) ∷ []; is = refl; fits = one-added name kind }
added-complete name forms.CellInt kind fields h = record { more = (name.text, record { kind = kind; row = 0 }) ∷ []; is = refl; fits = one-added name kind }
added-complete name (forms.CellPtr s) kind fields h = record { more = (name.text, record { kind = kind; row = 0 }) ∷ []; is = refl; fits = one-added name kind }
added-complete name (forms.CellRow row) kind fields h =
    record { more = walked_elements name kind row row; is = elements-complete name kind row row fields h; fits = elements-same name kind row row }
added-complete name (forms.CellPtrRow s row) kind fields h =
    record { more = walked_elements name kind row row; is = elements-complete name kind row row fields h; fits = elements-same name kind row row }

abbrev FieldsWalked : List Name → List FieldDecl → Fields → List FieldInfo → Type 0
FieldsWalked names ds fields infos = (more : Fields) × (in_turn (with_field names) ds fields ≡ Ok (fields ++ more)) × Fits more infos

module _ (p : Typed) where
  number-complete : (name : Ident) (s : ℕ) → IsStruct p name s → struct_number (map struct_name p.structs) name ≡ Ok s
  number-complete name s h = ap (number_or_fault name) h

  kind-named : (form : TypeForm) (kind : Kind) → IsKind p form kind → kind_of (map struct_name p.structs) form ≡ Ok kind
  kind-named forms.Int kind h = ap Ok (sym h)
  kind-named (forms.Ptr name) kind h = mapped-at kinds.Ptr (struct_number (map struct_name p.structs) name) h.0 kind (number-complete name h.0 h.1) (sym h.2)
  kind-named forms.ModInt kind h = ap Ok (sym h)
  kind-named (forms.ModPtr name) kind h = mapped-at kinds.ModPtr (struct_number (map struct_name p.structs) name) h.0 kind (number-complete name h.0 h.1) (sym h.2)
  kind-named forms.CellInt kind h = ap Ok (sym h)
  kind-named (forms.CellPtr name) kind h = mapped-at kinds.ModPtr (struct_number (map struct_name p.structs) name) h.0 kind (number-complete name h.0 h.1) (sym h.2)
  kind-named (forms.CellRow row) kind h = ap Ok (sym h)
  kind-named (forms.CellPtrRow name row) kind h = mapped-at kinds.ModPtr (struct_number (map struct_name p.structs) name) h.0 kind (number-complete name h.0 h.1) (sym h.2)

  field-kind-named : (form : TypeForm) (kind : FieldKind) → IsFieldKind p form kind → field_kind_of (map struct_name p.structs) form ≡ Ok kind
  field-kind-named forms.Int kind h = ap Ok (sym h)
  field-kind-named (forms.Ptr name) kind h = mapped-at plain_pointer (struct_number (map struct_name p.structs) name) h.0 kind (number-complete name h.0 h.1) (sym h.2)
  field-kind-named forms.ModInt kind h = ap Ok (sym h)
  field-kind-named (forms.ModPtr name) kind h = mapped-at plain_place (struct_number (map struct_name p.structs) name) h.0 kind (number-complete name h.0 h.1) (sym h.2)
  field-kind-named forms.CellInt kind h = ap Ok (sym h)
  field-kind-named (forms.CellPtr name) kind h = mapped-at CellPtr (struct_number (map struct_name p.structs) name) h.0 kind (number-complete name h.0 h.1) (sym h.2)
  field-kind-named (forms.CellRow row) kind h = ap Ok (sym h)
  field-kind-named (forms.CellPtrRow name row) kind h = mapped-at CellPtr (struct_number (map struct_name p.structs) name) h.0 kind (number-complete name h.0 h.1) (sym h.2)

  member-complete : (d : FieldDecl) (fields : Fields) (kind : FieldKind) → IsFieldKind p d.form kind → IsNew (keys_of fields) d.name.text
      → IsNew (keys_of fields) (element_name d.name.text 0) → (a : Adds d.name d.form kind fields)
      → with_field (map struct_name p.structs) d fields ≡ Ok (fields ++ a.more)
  unfolding with_field
  member-complete d fields kind h new row a =
      after-at (new_field d.name (row_of d.form) fields) (field_kind_of (map struct_name p.structs) d.form) kind (Ok (fields ++ a.more)) (field-kind-named d.form kind h)
      (if-false (has_member fields d.name.text) (fault N2 d.name.span) (added_field d.name (row_of d.form) fields kind) (Ok (fields ++ a.more))
      (or-false (has fields d.name.text) (has fields (element_name d.name.text 0)) (not-there fields d.name.text new) (not-there fields (element_name d.name.text 0) row)) a.is)

  fields-walked : (ds : List FieldDecl) (fields : Fields) (infos : List FieldInfo) → MembersResolve p (keys_of fields) ds infos → Apart fields infos
      → FieldsWalked (map struct_name p.structs) ds fields infos
  unfolding in_turn
  fields-walked [] fields infos h apart = ([], ap Ok (sym (append-nil fields)), sym h)
  fields-walked (d ∷ ds) fields infos h apart =
      let kind = h.0 in
      let rest = h.1 in
      let mine = member_fields d.form d.name.text h.0 in
      let here = names-behind fields mine rest (subst (Apart fields) h.5 apart) in
      let a = added-complete d.name d.form kind fields (apart-front (keys_of fields ++ map name_of_field mine) (map name_of_field rest) here) in
      let keys : keys_of (fields ++ a.more) ≡ keys_of fields ++ map name_of_field (member_fields d.form d.name.text h.0) =
      keys-behind fields a.more ∙ ap (λ (l : List FieldInfo). keys_of fields ++ map name_of_field l) a.fits in
      let w = fields-walked ds (fields ++ a.more) rest (subst (λ (l : List Name). MembersResolve p l ds rest) (sym keys) h.6)
      (subst (λ (l : List Name). IsDistinct bytes_eq (l ++ map name_of_field rest)) (sym keys) here) in (
        a.more ++ w.0,
        after-at (in_turn (with_field (map struct_name p.structs)) ds) (with_field (map struct_name p.structs) d fields) (fields ++ a.more) (Ok (fields ++ (a.more ++ w.0)))
            (member-complete d fields kind h.2 h.3 h.4 a) (w.1 ∙ ap Ok (append_assoc fields a.more w.0)),
        map-append field_info a.more w.0 ∙ (λ i. a.fits i ++ w.2 i) ∙ sym h.5,
      )

  -- ---- parameters
  record ParametersWalked (v : Variables) (ds : List FieldDecl) (kinds : List Kind) : Type 0 where
    left : Variables
    is : in_turn (with_parameter (map struct_name p.structs)) ds v ≡ Ok left
    count : length left.kinds ≡ length v.kinds + length ds
    scope : numbers left.scope ≡ numbers v.scope ++ numbered_from (length v.kinds) (map declared_name ds)
    within : Grows left.kinds kinds
    good : ScopeKinds kinds left.scope

  -- the kinds begin with those of the variables, and continue with these
  abbrev Ahead : Variables → List Kind → List Kind → Type 0
  Ahead v kinds rest = kinds ≡ v.kinds ++ rest

  ahead-at : (xs rest : List Kind) (kind : Kind) → slice_get (xs ++ kind ∷ rest) (length xs) ≡ Some kind
  ahead-at [] rest kind = refl
  ahead-at (x ∷ xs) rest kind = ahead-at xs rest kind

  parameter-walked : (d : FieldDecl) (v : Variables) (kind : Kind) → IsKind p d.form kind → has v.scope d.name.text ≡ false
      → with_parameter (map struct_name p.structs) d v ≡ Ok (with_variable v d.name.text kind)
  unfolding with_parameter
  parameter-walked d v kind h none =
      after-at (new_parameter d.name v) (kind_of (map struct_name p.structs) d.form) kind (Ok (with_variable v d.name.text kind)) (kind-named d.form kind h)
      (if-false (has v.scope d.name.text) (fault N2 d.name.span) (Ok (with_variable v d.name.text kind)) (Ok (with_variable v d.name.text kind)) none refl)

  parameters-walked : (ds : List FieldDecl) (v : Variables) (kinds rest : List Kind) → ParametersResolve p ds rest → Ahead v kinds rest → ScopeKinds kinds v.scope
      → IsDistinct bytes_eq (keys_of v.scope ++ map declared_name ds) → ParametersWalked v ds kinds
  unfolding in_turn
  parameters-walked [] v kinds rest h ahead good apart = record {
    left = v;
    is = refl;
    count = omega arith;
    scope = sym (append-nil (numbers v.scope));
    within = record { more = rest; is = ahead };
    good = good;
  }
  parameters-walked (d ∷ ds) v kinds [] h ahead good apart = absurd h
  parameters-walked (d ∷ ds) v kinds (kind ∷ rest) h ahead good apart =
      let n = length v.kinds in
      let x : Variable = record { number = length v.kinds; kind = kind } in
      let w = with_variable v d.name.text kind in
      let there : slice_get kinds (length v.kinds) ≡ Some kind = ap (λ (l : List Kind). slice_get l (length v.kinds)) ahead ∙ ahead-at v.kinds rest kind in
      let next : length (v.kinds ++ kind ∷ []) ≡ length v.kinds + 1 = omega (arith, length_push v.kinds kind) in
      let keys : keys_of (v.scope ++ (d.name.text, record { number = length v.kinds; kind = kind }) ∷ []) ++ map declared_name ds ≡ keys_of v.scope ++ d.name.text ∷ map declared_name ds =
      ap (λ (l : List Name). l ++ map declared_name ds) (keys-added v.scope d.name.text x) ∙ append_assoc (keys_of v.scope) (d.name.text ∷ []) (map declared_name ds) in
      let k = parameters-walked ds w kinds rest h.1 (ahead ∙ sym (append_assoc v.kinds (kind ∷ []) rest))
      (All-push (λ e. VariableKind kinds e.1) v.scope (d.name.text, x) good there) (subst (IsDistinct bytes_eq) (sym keys) apart) in
      record {
        left = k.left;
        is = after-at (in_turn (with_parameter (map struct_name p.structs)) ds) (with_parameter (map struct_name p.structs) d v) w (Ok k.left)
            (parameter-walked d v kind h.0 (not-there v.scope d.name.text (not-before (keys_of v.scope) (map declared_name ds) d.name.text apart))) k.is;
        count = omega (arith, k.count, next);
        scope = k.scope
            ∙ (λ i. numbers-added v.scope d.name.text x i ++ numbered_from (next i) (map declared_name ds))
            ∙ append_assoc (numbers v.scope) ((d.name.text, n) ∷ []) (numbered_from (length v.kinds + 1) (map declared_name ds));
        within = k.within;
        good = k.good;
      }

  own-complete : (o : Option Ident) (own : Option ℕ) → OwnResolves p o own → own_of (map struct_name p.structs) o ≡ Ok own
  own-complete None None h = refl
  own-complete (Some name) (Some s) h = mapped-at Some (struct_number (map struct_name p.structs) name) s (Some s) (number-complete name s h) refl
  own-complete None (Some s) h = absurd h
  own-complete (Some name) None h = absurd h

  -- the head of a function
  record HeadWalked (f : FunctionDecl) (g : TypedFunction) : Type 0 where
    parameters : ParametersWalked no_variables f.params g.kinds
    is : head_of (map struct_name p.structs) f ≡ Ok (head g.initialiser parameters.left)
    count : length parameters.left.kinds ≡ g.params
    shown : head_view (f.name.text, head g.initialiser parameters.left) ≡ view g

  head-walked : (f : FunctionDecl) (g : TypedFunction) → FunctionResolves p f g → HeadWalked f g
  unfolding head_of view head_view
  head-walked f g h =
      let k = parameters-walked f.params no_variables g.kinds g.kinds h.parameters refl (λ k d l. absurd (omega arith)) h.names in
      let count : length k.left.kinds ≡ g.params = omega (arith, k.count, h.count) in
      let first : take g.params g.kinds ≡ k.left.kinds = ap (λ (n : ℕ). take n g.kinds) (sym count) ∙ grows-take k.left.kinds g.kinds k.within in
      record {
        parameters = k;
        is = after-at (with_parameters (map struct_name p.structs) f.params) (own_of (map struct_name p.structs) f.initialiser) g.initialiser (Ok (head g.initialiser k.left))
            (own-complete f.initialiser g.initialiser h.own)
            (mapped-at (head g.initialiser) (in_turn (with_parameter (map struct_name p.structs)) f.params no_variables) k.left (head g.initialiser k.left) k.is refl);
        count = count;
        shown = λ i. record { name = (sym h.name i).text; own = g.initialiser; kinds = sym first i };
      }

  -- ---- heads of entries
  record HeadsWalked (entries : List Entry) (q : Program) (structs : List StructInfo) (functions : List TypedFunction) : Type 0 where
    left : Program
    is : in_turn with_entry entries q ≡ Ok left
    names_kept : left.names ≡ q.names
    structs_are : map struct_info left.structs ≡ map struct_info q.structs ++ structs
    views : map head_view left.functions ≡ map head_view q.functions ++ map view functions

  struct-walked : (s : StructDecl) (t : StructInfo) (q : Program) → q.names ≡ map struct_name p.structs → StructResolves p s t → IsDistinct bytes_eq (map name_of_field t.fields)
      → has q.structs s.name.text ≡ false → (fields : Fields) × (with_entry (Struct s) q ≡ Ok (with_struct q s.name.text fields)) × (struct_info (s.name.text, fields) ≡ t)
  unfolding with_entry
  struct-walked s t q same h apart none =
      let w = fields-walked s.fields [] t.fields h.1 apart in (
        w.0,
        if-false (has q.structs s.name.text) (fault N2 s.name.span) (result_map (with_struct q s.name.text) (in_turn (with_field q.names) s.fields [])) (Ok (with_struct q s.name.text w.0)) none
            (mapped-at (with_struct q s.name.text) (in_turn (with_field q.names) s.fields []) w.0 (with_struct q s.name.text w.0)
            (ap (λ (l : List Name). in_turn (with_field l) s.fields []) same ∙ w.1) refl),
        λ i. record { name = sym h.0 i; fields = w.2 i },
      )

  function-walked : (f : FunctionDecl) (g : TypedFunction) (q : Program) → q.names ≡ map struct_name p.structs → (k : HeadWalked f g)
      → has q.functions f.name.text ≡ false → with_entry (Function f) q ≡ Ok (with_function q f.name.text (head g.initialiser k.parameters.left))
  unfolding with_entry
  function-walked f g q same k none =
      if-false (has q.functions f.name.text) (fault N2 f.name.span) (result_map (with_function q f.name.text) (head_of q.names f))
      (Ok (with_function q f.name.text (head g.initialiser k.parameters.left))) none
      (mapped-at (with_function q f.name.text) (head_of q.names f) (head g.initialiser k.parameters.left) (with_function q f.name.text (head g.initialiser k.parameters.left))
      (ap (λ (l : List Name). head_of l f) same ∙ k.is) refl)

  -- the names of the structs and functions that are there, and of those that follow, are apart
  record NamesApart (q : Program) (structs : List StructInfo) (functions : List TypedFunction) : Type 0 where
    of_structs : IsDistinct bytes_eq (keys_of q.structs ++ map struct_name structs)
    of_functions : IsDistinct bytes_eq (keys_of q.functions ++ map function_name functions)
    fields : All (λ t. IsDistinct bytes_eq (map name_of_field t.fields)) structs

  pass : {A : Type 0} (table : List (Name × A)) (name : Name) (v : A) (rest : List Name) → IsDistinct bytes_eq (keys_of table ++ name ∷ rest)
      → IsDistinct bytes_eq (keys_of (table ++ (name, v) ∷ []) ++ rest)
  pass table name v rest h =
      subst (IsDistinct bytes_eq) (sym (ap (λ (l : List Name). l ++ rest) (keys-added table name v) ∙ append_assoc (keys_of table) (name ∷ []) rest)) h

  heads-walked : (entries : List Entry) (q : Program) (structs : List StructInfo) (functions : List TypedFunction) → q.names ≡ map struct_name p.structs
      → EntriesResolve p entries structs functions → NamesApart q structs functions → HeadsWalked entries q structs functions
  unfolding in_turn
  heads-walked [] q [] [] same h apart = record {
    left = q;
    is = refl;
    names_kept = refl;
    structs_are = sym (append-nil (map struct_info q.structs));
    views = sym (append-nil (map head_view q.functions));
  }
  heads-walked [] q (t ∷ structs) functions same h apart = absurd h
  heads-walked [] q [] (g ∷ functions) same h apart = absurd h
  heads-walked (Struct s ∷ entries) q [] functions same h apart = absurd h
  heads-walked (Struct s ∷ entries) q (t ∷ structs) functions same h apart =
      let names = subst (λ (n : Name). IsDistinct bytes_eq (keys_of q.structs ++ n ∷ map struct_name structs)) h.0.0 apart.of_structs in
      let w = struct-walked s t q same h.0 (apart.fields 0 t (omega arith))
      (not-there q.structs s.name.text (not-before (keys_of q.structs) (map struct_name structs) s.name.text names)) in
      let k = heads-walked entries (with_struct q s.name.text w.0) structs functions same h.1 (record {
        of_structs = pass q.structs s.name.text w.0 (map struct_name structs) names;
        of_functions = apart.of_functions;
        fields = λ k d l. apart.fields (suc k) d (omega (arith, l));
      }) in
      record {
        left = k.left;
        is = after-at (in_turn with_entry entries) (with_entry (Struct s) q) (with_struct q s.name.text w.0) (Ok k.left) w.1 k.is;
        names_kept = k.names_kept;
        structs_are = k.structs_are ∙ ap (λ (l : List StructInfo). l ++ structs) (map-append struct_info q.structs ((s.name.text, w.0) ∷ []))
            ∙ append_assoc (map struct_info q.structs) (struct_info (s.name.text, w.0) ∷ []) structs ∙ ap (λ (x : StructInfo). map struct_info q.structs ++ x ∷ structs) w.2;
        views = k.views;
      }
  heads-walked (Function f ∷ entries) q structs [] same h apart = absurd h
  heads-walked (Function f ∷ entries) q structs (g ∷ functions) same h apart =
      let names = subst (λ (n : Name). IsDistinct bytes_eq (keys_of q.functions ++ n ∷ map function_name functions)) (ap (λ (x : Ident). x.text) h.0.name) apart.of_functions in
      let m = head-walked f g h.0 in
      let f_head = head g.initialiser m.parameters.left in
      let k = heads-walked entries (with_function q f.name.text (head g.initialiser m.parameters.left)) structs functions same h.1 (record {
        of_structs = apart.of_structs;
        of_functions = pass q.functions f.name.text (head g.initialiser m.parameters.left) (map function_name functions) names;
        fields = apart.fields;
      }) in
      record {
        left = k.left;
        is = after-at (in_turn with_entry entries) (with_entry (Function f) q) (with_function q f.name.text f_head) (Ok k.left)
            (function-walked f g q same m (not-there q.functions f.name.text (not-before (keys_of q.functions) (map function_name functions) f.name.text names))) k.is;
        names_kept = k.names_kept;
        structs_are = k.structs_are;
        views = k.views ∙ ap (λ (l : List View). l ++ map view functions) (map-append head_view q.functions ((f.name.text, f_head) ∷ []))
            ∙ append_assoc (map head_view q.functions) (head_view (f.name.text, f_head) ∷ []) (map view functions)
            ∙ ap (λ (x : View). map head_view q.functions ++ x ∷ map view functions) m.shown;
      }

  -- the names of all structs
  with-new-name : (names : List Name) (name : Name) (rest : List Name) → IsDistinct bytes_eq (names ++ name ∷ rest) → with_name names name ≡ names ++ name ∷ []
  with-new-name names name rest h = if-false (list_any (bytes_eq name) names) names (names ++ name ∷ []) (names ++ name ∷ []) (not-before names rest name h) refl

  names-walked : (entries : List Entry) (before : List Name) (structs : List StructInfo) (functions : List TypedFunction) → EntriesResolve p entries structs functions
      → IsDistinct bytes_eq (before ++ map struct_name structs) → struct_names entries before ≡ before ++ map struct_name structs
  unfolding struct_names
  names-walked [] before [] [] h apart = sym (append-nil before)
  names-walked [] before (t ∷ structs) functions h apart = absurd h
  names-walked [] before [] (g ∷ functions) h apart = absurd h
  names-walked (Struct s ∷ entries) before [] functions h apart = absurd h
  names-walked (Struct s ∷ entries) before (t ∷ structs) functions h apart =
      let names = subst (λ (n : Name). IsDistinct bytes_eq (before ++ n ∷ map struct_name structs)) h.0.0 apart in
      let more = append_assoc before (s.name.text ∷ []) (map struct_name structs) in
      ap (struct_names entries) (with-new-name before s.name.text (map struct_name structs) names)
      ∙ names-walked entries (before ++ s.name.text ∷ []) structs functions h.1 (subst (IsDistinct bytes_eq) (sym more) names)
      ∙ more ∙ ap (λ (n : Name). before ++ n ∷ map struct_name structs) (sym h.0.0)
  names-walked (Function f ∷ entries) before structs [] h apart = absurd h
  names-walked (Function f ∷ entries) before structs (g ∷ functions) h apart = names-walked entries before structs functions h.1 apart

-- ---- bodies, where the heads are those of the program
module _ (p : Program) (fs : List TypedFunction) (names : p.names ≡ map struct_name (map struct_info p.structs)) (views : map head_view p.functions ≡ map view fs) where
  grown-all : (xs ys : List Kind) → Grows xs ys → length xs ≡ length ys → xs ≡ ys
  grown-all xs ys g same = all g.more g.is
    where
      length-more : (zs more : List Kind) → length (zs ++ more) ≡ length zs + length more
      length-more [] more = omega arith
      length-more (z ∷ zs) more = omega (arith, length-more zs more)

      all : (more : List Kind) → ys ≡ xs ++ more → xs ≡ ys
      all [] is = sym (append-nil xs) ∙ sym is
      all (m ∷ more) is = absurd (omega (arith, same, ap length is, length-more xs (m ∷ more)))

  functions : map function_name fs ≡ keys_of p.functions
  functions = names-of-functions fs ∙ ap (map view_name) (sym views) ∙ names-of-heads p.functions

  function-complete : (f : FunctionDecl) (g : TypedFunction) → FunctionResolves (Whole p fs) f g → FunctionTyped (map struct_info p.structs) fs g → typed_function p f ≡ Ok g
  unfolding typed_function
  function-complete f g h t =
      let m = head-walked (Whole p fs) f g h in
      let v = m.parameters.left in
      let scope : numbers m.parameters.left.scope ≡ numbered_from 0 (map declared_name f.params) = m.parameters.scope in
      let b = body-walked p fs names functions (heads-match p.functions fs (sym views)) g.initialiser g.kinds f.body g.body v (numbers_below g.params) m.parameters.within m.parameters.good
      (subst (λ (l : Environment). StmtsResolve (Whole p fs) l f.body g.body) (sym scope) h.body)
      (subst (λ (n : ℕ). StmtsTyped (context_of (map struct_info p.structs) fs g) (numbers_below g.params) n g.body) (sym m.count) t.body) in
      let kinds = grown-all b.left.kinds g.kinds b.within (omega (arith, b.count, m.count, t.numbered)) in
      let f_head = head g.initialiser v in
      after-at (function_body p f) (head_of p.names f) f_head (Ok g) (ap (λ (l : List Name). head_of l f) names ∙ m.is)
      (mapped-at (function_of f f_head) (inner_block (typed_stmts p g.initialiser f.body) v) (block g.body b.left) g b.is
      (λ i. record { initialiser = g.initialiser; name = sym h.name i; params = m.count i; kinds = kinds i; body = g.body; close = sym h.close i }))

  bodies-complete : (entries : List Entry) (structs : List StructInfo) (functions done : List TypedFunction) → EntriesResolve (Whole p fs) entries structs functions
      → All (FunctionTyped (map struct_info p.structs) fs) functions → in_turn (with_body p) entries done ≡ Ok (done ++ functions)
  unfolding in_turn with_body
  bodies-complete [] [] [] done h t = ap Ok (sym (append-nil done))
  bodies-complete [] (s ∷ structs) functions done h t = absurd h
  bodies-complete [] [] (g ∷ functions) done h t = absurd h
  bodies-complete (Struct s ∷ entries) [] functions done h t = absurd h
  bodies-complete (Struct s ∷ entries) (x ∷ structs) functions done h t = bodies-complete entries structs functions done h.1 t
  bodies-complete (Function f ∷ entries) structs [] done h t = absurd h
  bodies-complete (Function f ∷ entries) structs (g ∷ functions) done h t =
      after-at (in_turn (with_body p) entries) (result_map (at_end done) (typed_function p f)) (done ++ g ∷ []) (Ok (done ++ g ∷ functions))
      (mapped-at (at_end done) (typed_function p f) g (done ++ g ∷ []) (function-complete f g h.0 (t 0 g (omega arith))) refl)
      (bodies-complete entries structs functions (done ++ g ∷ []) h.1 (λ k d l. t (suc k) d (omega (arith, l))) ∙ ap Ok (append_assoc done (g ∷ []) functions))

-- a well typed program with which a tree agrees is the program of the tree
pub answered-complete : (tree : Tree) (program : Typed) → Resolves tree program → WellTyped program → checked tree ≡ Ok program
unfolding checked heads
answered-complete tree program h t =
    let all = names-walked program tree.entries [] program.structs program.functions h t.struct_names in
    let q = no_entries (struct_names tree.entries []) in
    let w = heads-walked program tree.entries q program.structs program.functions all h (record {
      of_structs = t.struct_names;
      of_functions = t.function_names;
      fields = λ k d l. (t.structs k d l).names;
    }) in
    let p = w.left in
    let same : program_of w.left program.functions ≡ program = λ i. record { structs = w.structs_are i; functions = program.functions } in
    let names : w.left.names ≡ map struct_name (map struct_info w.left.structs) = w.names_kept ∙ all ∙ ap (map struct_name) (sym w.structs_are) in
    let agrees = subst (λ (x : Typed). EntriesResolve x tree.entries x.structs x.functions) (sym same) h in
    let typed = subst (λ (x : Typed). All (FunctionTyped x.structs x.functions) x.functions) (sym same) t.functions in
    after-at (bodies tree.entries) (in_turn with_entry tree.entries q) p (Ok program) w.is
    (mapped-at (program_of p) (in_turn (with_body p) tree.entries []) program.functions program
    (bodies-complete p program.functions names w.views tree.entries (map struct_info p.structs) program.functions [] agrees typed) same)
