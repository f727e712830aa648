-- The heads that the walk gives are well typed.
use Rattle.std.proofs.Common.{◌≡◌, ℕ, zero, suc, ◌+◌, ◌<◌, ◌≤◌, ◌||◌, arith, Bool, true, false, Option, Some, None}
use Rattle.std.proofs.Common.{Result, Ok, Err, List, [], ◌∷◌, ◌++◌, All, map, length, refl, sym, subst, ap, ◌∙◌}
use Rattle.std.proofs.Common.{append_assoc, append-nil}
use Rattle.std.specs.Prelude.{IfOk, IfSome}
use Rattle.std.specs.List.{IsDistinct}
use Rattle.std.specs.Map.{keys_of}
use Rattle.std.specs.Str.{bytes_eq}
use Rattle.std.proofs.lemmas.Cmp.{nat_list_eq_equiv}
use Rattle.std.proofs.lemmas.List.{length_push, map-append}
use Rattle.std.proofs.lemmas.List.Elements.{All-push, All-map}
use Rattle.std.proofs.lemmas.Map.Keys.{IsDistinct-push}
use Rattle.std.proofs.lemmas.Map.Made.{is_some-lookup}
use Rattle.ceal_base.specs.WellTyped.{KindKnown, FieldKnown, IsCell, RowsWhole, StructTyped, name_of_field, numbers_below}
use Rattle.ceal_base.specs.declared.fault.Fault.{Fault}
use Rattle.ceal_base.specs.declared.fault.FaultCode.TheVariants.{N2}
use Rattle.ceal_base.specs.declared.kind.FieldKind.{FieldKind}
use Rattle.ceal_base.specs.declared.kind.FieldKind.TheVariants.{CellPtr}
use Rattle.ceal_base.specs.declared.kind.Kind.{Kind}
use Rattle.ceal_base.specs.declared.syntax.Entry.{Entry}
use Rattle.ceal_base.specs.declared.syntax.Entry.TheVariants.{Struct, Function}
use Rattle.ceal_base.specs.declared.syntax.FieldDecl.{FieldDecl}
use Rattle.ceal_base.specs.declared.syntax.FunctionDecl.{FunctionDecl}
use Rattle.ceal_base.specs.declared.syntax.Ident.{Ident}
use Rattle.ceal_base.specs.declared.syntax.TypeForm.{TypeForm}
use Rattle.ceal_base.specs.declared.syntax.TypeForm.TheVariants as forms
use Rattle.ceal_base.specs.declared.typed.StructInfo.{StructInfo}
use Rattle.ceal_types.specs.Checked.{field_info, struct_info}
use Rattle.ceal_types.specs.Expressions.{Fields}
use Rattle.ceal_types.specs.Heads.{struct_number, kind_of, plain_pointer, plain_place, field_kind_of, row_of, row_at}
use Rattle.ceal_types.specs.Heads.{has_member, with_element, with_elements, added_field, new_field, with_field}
use Rattle.ceal_types.specs.Heads.{with_variable, new_parameter, with_parameter, own_of, no_variables, head}
use Rattle.ceal_types.specs.Heads.{with_parameters, head_of, with_struct, with_function, with_entry, with_struct_name}
use Rattle.ceal_types.specs.Heads.{struct_names}
use Rattle.ceal_types.specs.Limits.{width, fields_in, IsShort}
use Rattle.ceal_types.specs.Tables.{Name, has, with_name, element_name}
use Rattle.ceal_types.specs.Walk.{fault, result_map, in_turn}
use Rattle.ceal_types.specs.declared.program.Head.{Head}
use Rattle.ceal_types.specs.declared.program.Program.{Program}
use Rattle.ceal_types.specs.declared.program.Variables.{Variables}
use Rattle.ceal_types.proofs.Typing.ExpressionTyped.{ScopeGood}
use Rattle.ceal_types.proofs.Walks.WalkKeeps.{after-keeps, mapped-keeps, if-keeps, weaken, any-ok, turn-keeps, turn-keeps-each, turn-counts}
use Rattle.ceal_types.proofs.Typing.WholeRows.{element, elements, rows-append, row-whole}
use Rattle.std.proofs.lemmas.Bool.{false≢true}
use Rattle.ceal_types.proofs.Typing.StatementTyped.{variable-good}
use Rattle.ceal_types.proofs.Typing.ValueTyped.{struct-known, kind-known}

-- a new name keeps names apart
pub distinct-more : {A : Type 0} (table : List (Name × A)) (name : Name) (v : A) → IsDistinct bytes_eq (keys_of table) → has table name ≡ false
    → IsDistinct bytes_eq (keys_of (table ++ (name, v) ∷ []))
distinct-more table name v apart none =
    rw (map-append (λ e. e.0) table ((name, v) ∷ []))
    (IsDistinct-push nat_list_eq_equiv (keys_of table) name apart (sym (is_some-lookup (bytes_eq name) table) ∙ none))

names-of-fields : (fields : Fields) → map name_of_field (map field_info fields) ≡ keys_of fields
names-of-fields [] = refl
names-of-fields (f ∷ fields) = ap (λ (l : List Name). f.0 ∷ l) (names-of-fields fields)

length-map : {A B : Type 0} (f : A → B) (xs : List A) → length (map f xs) ≡ length xs
length-map f [] = refl
length-map f (x ∷ xs) = omega (arith, length-map f xs)

kinds-both : (r : Result FieldKind Fault) (P Q : FieldKind → Type 0) → IfOk r P → IfOk r Q → IfOk r (λ k. P k × Q k)
kinds-both (Ok k) P Q h l = (h, l)
kinds-both (Err f) P Q h l = tt

module _ (names : List Name) (structs : List StructInfo) (all : length names ≤ length structs) where
  abbrev Known : FieldKind → Type 0
  Known kind = FieldKnown structs (record { name = []; kind = kind; row = 0 })

  abbrev Within : ℕ → Type 0
  Within n = n < length structs

  field-kind-known : (form : TypeForm) → IfOk (field_kind_of names form) Known
  field-kind-known forms.Int = tt
  field-kind-known (forms.Ptr name) = mapped-keeps Within Known plain_pointer (struct_number names name) (struct-known names structs all name) (λ n h. h)
  field-kind-known forms.ModInt = tt
  field-kind-known (forms.ModPtr name) = mapped-keeps Within Known plain_place (struct_number names name) (struct-known names structs all name) (λ n h. h)
  field-kind-known forms.CellInt = tt
  field-kind-known (forms.CellPtr name) = mapped-keeps Within Known CellPtr (struct_number names name) (struct-known names structs all name) (λ n h. h)
  field-kind-known (forms.CellRow row) = tt
  field-kind-known (forms.CellPtrRow name row) = mapped-keeps Within Known CellPtr (struct_number names name) (struct-known names structs all name) (λ n h. h)

  -- a row is one of modifiables
  abbrev RowKind : Option ℕ → FieldKind → Type 0
  RowKind None kind = Unit {0}
  RowKind (Some row) kind = IsCell kind

  row-kind : (form : TypeForm) → IfOk (field_kind_of names form) (RowKind (row_of form))
  row-kind forms.Int = tt
  row-kind (forms.Ptr name) = mapped-keeps (λ n. Unit {0}) (λ k. Unit {0}) plain_pointer (struct_number names name) (any-ok (struct_number names name)) (λ n u. tt)
  row-kind forms.ModInt = tt
  row-kind (forms.ModPtr name) = mapped-keeps (λ n. Unit {0}) (λ k. Unit {0}) plain_place (struct_number names name) (any-ok (struct_number names name)) (λ n u. tt)
  row-kind forms.CellInt = tt
  row-kind (forms.CellPtr name) = mapped-keeps (λ n. Unit {0}) (λ k. Unit {0}) CellPtr (struct_number names name) (any-ok (struct_number names name)) (λ n u. tt)
  row-kind (forms.CellRow row) = tt
  row-kind (forms.CellPtrRow name row) = mapped-keeps (λ n. Unit {0}) IsCell CellPtr (struct_number names name) (any-ok (struct_number names name)) (λ n u. tt)

  record FieldsGood (fields : Fields) : Type 0 where
    apart : IsDistinct bytes_eq (keys_of fields)
    known : All (λ f. Known f.1.kind) fields
    rows : RowsWhole (map field_info fields)

  -- some elements of a row after fields
  record ElementsGood (name : Ident) (kind : FieldKind) (row i : ℕ) (fields more : Fields) : Type 0 where
    is : more ≡ fields ++ elements name kind row i
    apart : IsDistinct bytes_eq (keys_of more)
    known : All (λ f. Known f.1.kind) more

  elements-good : (name : Ident) (kind : FieldKind) (row i : ℕ) (fields : Fields) → FieldsGood fields → Known kind → IfOk (with_elements name kind row i fields) (ElementsGood name kind row i fields)
  unfolding with_elements elements
  elements-good name kind row zero fields h k = record { is = sym (append-nil fields); apart = h.apart; known = h.known }
  elements-good name kind row (suc i) fields h k =
      after-keeps (ElementsGood name kind row i fields) (ElementsGood name kind row (suc i) fields) (with_element name kind row i) (with_elements name kind row i fields)
      (elements-good name kind row i fields h k)
      (λ more g. if-keeps (ElementsGood name kind row (suc i) fields) (has more (element_name name.text i)) (fault N2 name.span) (Ok (more ++ element name kind row i ∷ [])) (λ b. tt)
      (λ none. record {
        is = ap (λ (l : Fields). l ++ element name kind row i ∷ []) g.is ∙ append_assoc fields (elements name kind row i) (element name kind row i ∷ []);
        apart = distinct-more more (element_name name.text i) (record { kind = kind; row = row_at row i }) g.apart none;
        known = All-push (λ f. Known f.1.kind) more (element name kind row i) g.known k;
      }))

  added-good : (name : Ident) (row : Option ℕ) (fields : Fields) (kind : FieldKind) → FieldsGood fields → Known kind → RowKind row kind → has fields name.text ≡ false
      → IfOk (added_field name row fields kind) FieldsGood
  unfolding RowsWhole
  added-good name None fields kind h k r none = record {
    apart = distinct-more fields name.text (record { kind = kind; row = 0 }) h.apart none;
    known = All-push (λ f. Known f.1.kind) fields (name.text, record { kind = kind; row = 0 }) h.known k;
    rows = rw (map-append field_info fields ((name.text, record { kind = kind; row = 0 }) ∷ []))
        (rows-append (map field_info fields) (field_info (name.text, record { kind = kind; row = 0 }) ∷ []) h.rows
        (tt, tt));
  }
  added-good name (Some row) fields kind h k r none =
      weaken (ElementsGood name kind row row fields) FieldsGood (with_elements name kind row row fields)
      (λ more g. record {
        apart = g.apart;
        known = g.known;
        rows = rw (g.is, map-append field_info fields (elements name kind row row))
            (rows-append (map field_info fields) (map field_info (elements name kind row row)) h.rows
            (row-whole name kind row r));
      })
      (elements-good name kind row row fields h k)

  not-either : (a b : Bool) → (a || b) ≡ false → a ≡ false
  not-either false b h = refl
  not-either true b h = absurd (false≢true (sym h))

  new-field-good : (name : Ident) (row : Option ℕ) (fields : Fields) (kind : FieldKind) → FieldsGood fields → Known kind → RowKind row kind → IfOk (new_field name row fields kind) FieldsGood
  new-field-good name row fields kind h k r =
      if-keeps FieldsGood (has_member fields name.text) (fault N2 name.span) (added_field name row fields kind) (λ b. tt)
      (λ none. added-good name row fields kind h k r (not-either (has fields name.text) (has fields (element_name name.text 0)) none))

  elements-count : (name : Ident) (kind : FieldKind) (row i : ℕ) (fields : Fields) → IfOk (with_elements name kind row i fields) (λ more. length more ≡ length fields + i)
  unfolding with_elements
  elements-count name kind row zero fields = omega arith
  elements-count name kind row (suc i) fields =
      after-keeps (λ more. length more ≡ length fields + i) (λ more. length more ≡ length fields + suc i) (with_element name kind row i) (with_elements name kind row i fields)
      (elements-count name kind row i fields)
      (λ more g. if-keeps (λ m. length m ≡ length fields + suc i) (has more (element_name name.text i)) (fault N2 name.span) (Ok (more ++ element name kind row i ∷ [])) (λ b. tt)
      (λ none. omega (arith, g, length_push more (element name kind row i))))

  added-counts : (name : Ident) (row : Option ℕ) (fields : Fields) (kind : FieldKind) → IfOk (added_field name row fields kind) (λ more. length more ≡ length fields + width row)
  added-counts name None fields kind = omega (arith, length_push fields (name.text, record { kind = kind; row = 0 }))
  added-counts name (Some row) fields kind = elements-count name kind row row fields

  new-field-counts : (name : Ident) (row : Option ℕ) (fields : Fields) (kind : FieldKind) → IfOk (new_field name row fields kind) (λ more. length more ≡ length fields + width row)
  new-field-counts name row fields kind =
      if-keeps (λ more. length more ≡ length fields + width row) (has_member fields name.text) (fault N2 name.span) (added_field name row fields kind) (λ b. tt)
      (λ none. added-counts name row fields kind)

  fields-good : (decls : List FieldDecl) → IfOk (in_turn (with_field names) decls []) FieldsGood
  unfolding with_field IsDistinct RowsWhole
  fields-good decls = turn-keeps (with_field names) FieldsGood
      (λ d fields h. after-keeps (λ kind. Known kind × RowKind (row_of d.form) kind) FieldsGood (new_field d.name (row_of d.form) fields) (field_kind_of names d.form)
      (kinds-both (field_kind_of names d.form) Known (RowKind (row_of d.form)) (field-kind-known d.form) (row-kind d.form))
      (λ kind k. new-field-good d.name (row_of d.form) fields kind h k.0 k.1))
      decls [] (record { apart = tt; known = λ k d l. absurd (omega arith); rows = tt })

  fields-count-from : (decls : List FieldDecl) (fields : Fields) → IfOk (in_turn (with_field names) decls fields) (λ more. length more ≡ length fields + fields_in decls)
  unfolding in_turn with_field fields_in
  fields-count-from [] fields = omega arith
  fields-count-from (d ∷ decls) fields =
      after-keeps (λ more. length more ≡ length fields + width (row_of d.form)) (λ more. length more ≡ length fields + fields_in (d ∷ decls)) (in_turn (with_field names) decls)
      (with_field names d fields)
      (after-keeps (λ kind. Unit {0}) (λ more. length more ≡ length fields + width (row_of d.form)) (new_field d.name (row_of d.form) fields) (field_kind_of names d.form)
      (any-ok (field_kind_of names d.form)) (λ kind u. new-field-counts d.name (row_of d.form) fields kind))
      (λ some g. weaken (λ more. length more ≡ length some + fields_in decls) (λ more. length more ≡ length fields + fields_in (d ∷ decls)) (in_turn (with_field names) decls some)
      (λ more k. omega (arith, g, k)) (fields-count-from decls some))

  fields-count : (decls : List FieldDecl) → IfOk (in_turn (with_field names) decls []) (λ fields. length fields ≡ fields_in decls)
  fields-count decls =
      weaken (λ fields. length fields ≡ 0 + fields_in decls) (λ fields. length fields ≡ fields_in decls) (in_turn (with_field names) decls []) (λ fields h. omega (arith, h))
      (fields-count-from decls [])

  struct-typed : (name : Name) (fields : Fields) → FieldsGood fields → length fields ≤ 255 → StructTyped structs (struct_info (name, fields))
  struct-typed name fields h few = record {
    few = omega (arith, length-map field_info fields, few);
    names = rw (names-of-fields fields) h.apart;
    fields = All-map (FieldKnown structs) field_info fields h.known;
    rows = h.rows;
  }

  -- the parameters
  pub record ParametersGood (v : Variables) : Type 0 where
    pub known : All (KindKnown structs) v.kinds
    pub good : ScopeGood v.scope (numbers_below (length v.kinds)) v.kinds

  with-variable-good : (v : Variables) (name : Name) (kind : Kind) → ParametersGood v → KindKnown structs kind → ParametersGood (with_variable v name kind)
  with-variable-good v name kind h k =
      let more : length (v.kinds ++ kind ∷ []) ≡ suc (length v.kinds) = omega (arith, length_push v.kinds kind) in
      record {
        known = All-push (KindKnown structs) v.kinds kind h.known k;
        good = subst (λ (n : ℕ). ScopeGood (with_variable v name kind).scope (numbers_below n) (v.kinds ++ kind ∷ [])) (sym more)
            (variable-good v (numbers_below (length v.kinds)) name kind h.good);
      }

  parameters-good : (decls : List FieldDecl) → IfOk (in_turn (with_parameter names) decls no_variables) ParametersGood
  unfolding with_parameter
  parameters-good decls = turn-keeps (with_parameter names) ParametersGood
      (λ d v h. after-keeps (KindKnown structs) ParametersGood (new_parameter d.name v) (kind_of names d.form) (kind-known names structs all d.form)
      (λ kind k. if-keeps ParametersGood (has v.scope d.name.text) (fault N2 d.name.span) (Ok (with_variable v d.name.text kind)) (λ b. tt)
      (λ none. with-variable-good v d.name.text kind h k)))
      decls no_variables (record { known = λ k d l. absurd (omega arith); good = λ k d l. absurd (omega arith) })

  parameters-count : (decls : List FieldDecl) → IfOk (in_turn (with_parameter names) decls no_variables) (λ v. length v.kinds ≡ length decls)
  unfolding with_parameter
  parameters-count decls =
      weaken (λ v. length v.kinds ≡ 0 + length decls) (λ v. length v.kinds ≡ length decls) (in_turn (with_parameter names) decls no_variables) (λ v h. omega (arith, h))
      (turn-counts (with_parameter names) (λ v. length v.kinds)
      (λ d v. after-keeps (λ kind. Unit {0}) (λ more. length more.kinds ≡ length v.kinds + 1) (new_parameter d.name v) (kind_of names d.form) (any-ok (kind_of names d.form))
      (λ kind u. if-keeps (λ more. length more.kinds ≡ length v.kinds + 1) (has v.scope d.name.text) (fault N2 d.name.span) (Ok (with_variable v d.name.text kind)) (λ b. tt)
      (λ none. omega (arith, length_push v.kinds kind))))
      decls no_variables)

  -- a function's head
  pub record HeadGood (h : Head) : Type 0 where
    pub own : IfSome h.own Within
    pub parameters : ParametersGood h.parameters
    pub few : length h.parameters.kinds ≤ 255

  own-good : (o : Option Ident) → IfOk (own_of names o) (λ s. IfSome s Within)
  own-good None = tt
  own-good (Some name) = mapped-keeps Within (λ s. IfSome s Within) Some (struct_number names name) (struct-known names structs all name) (λ n h. h)

  both-ok : (r : Result Variables Fault) (P Q : Variables → Type 0) → IfOk r P → IfOk r Q → IfOk r (λ v. P v × Q v)
  both-ok (Ok v) P Q h k = (h, k)
  both-ok (Err f) P Q h k = tt

  pub head-good : (f : FunctionDecl) → length f.params ≤ 255 → IfOk (head_of names f) HeadGood
  unfolding head_of
  head-good f few =
      after-keeps (λ s. IfSome s Within) HeadGood (with_parameters names f.params) (own_of names f.initialiser) (own-good f.initialiser)
      (λ own o. mapped-keeps (λ v. ParametersGood v × (length v.kinds ≡ length f.params)) HeadGood (head own) (in_turn (with_parameter names) f.params no_variables)
      (both-ok (in_turn (with_parameter names) f.params no_variables) ParametersGood (λ v. length v.kinds ≡ length f.params) (parameters-good f.params) (parameters-count f.params))
      (λ v h. record { own = o; parameters = h.0; few = omega (arith, h.1, few) }))

  -- the entries so far
  pub record ProgramGood (p : Program) : Type 0 where
    pub same_names : p.names ≡ names
    pub struct_names : IsDistinct bytes_eq (keys_of p.structs)
    pub function_names : IsDistinct bytes_eq (keys_of p.functions)
    pub typed : All (λ t. StructTyped structs (struct_info t)) p.structs

  fields-both : (r : Result Fields Fault) (P Q : Fields → Type 0) → IfOk r P → IfOk r Q → IfOk r (λ v. P v × Q v)
  fields-both (Ok v) P Q h k = (h, k)
  fields-both (Err f) P Q h k = tt

  entry-good : (e : Entry) (p : Program) → IsShort e → ProgramGood p → IfOk (with_entry e p) ProgramGood
  unfolding with_entry
  entry-good (Struct s) p few h =
      let fields : IfOk (in_turn (with_field p.names) s.fields []) (λ v. FieldsGood v × (length v ≡ fields_in s.fields)) =
      subst (λ (l : List Name). IfOk (in_turn (with_field l) s.fields []) (λ v. FieldsGood v × (length v ≡ fields_in s.fields))) (sym h.same_names)
      (fields-both (in_turn (with_field names) s.fields []) FieldsGood (λ v. length v ≡ fields_in s.fields) (fields-good s.fields) (fields-count s.fields)) in
      if-keeps ProgramGood (has p.structs s.name.text) (fault N2 s.name.span) (result_map (with_struct p s.name.text) (in_turn (with_field p.names) s.fields [])) (λ b. tt)
      (λ none. mapped-keeps (λ v. FieldsGood v × (length v ≡ fields_in s.fields)) ProgramGood (with_struct p s.name.text) (in_turn (with_field p.names) s.fields []) fields
      (λ v k. record {
        same_names = h.same_names;
        struct_names = distinct-more p.structs s.name.text v h.struct_names none;
        function_names = h.function_names;
        typed = All-push (λ t. StructTyped structs (struct_info t)) p.structs (s.name.text, v) h.typed (struct-typed s.name.text v k.0 (omega (arith, k.1, few)));
      }))
  entry-good (Function f) p few h =
      if-keeps ProgramGood (has p.functions f.name.text) (fault N2 f.name.span) (result_map (with_function p f.name.text) (head_of p.names f)) (λ b. tt)
      (λ none. mapped-keeps (λ g. Unit {0}) ProgramGood (with_function p f.name.text) (head_of p.names f) (any-ok (head_of p.names f))
      (λ g u. record {
        same_names = h.same_names;
        struct_names = h.struct_names;
        function_names = distinct-more p.functions f.name.text g h.function_names none;
        typed = h.typed;
      }))

  pub entries-good : (entries : List Entry) → All IsShort entries → (p : Program) → ProgramGood p → IfOk (in_turn with_entry entries p) ProgramGood
  entries-good entries short = turn-keeps-each with_entry IsShort ProgramGood entry-good entries short

-- the names of all structs are those of the structs of the program
entry-names : (e : Entry) (p : Program) → IfOk (with_entry e p) (λ q. keys_of q.structs ≡ with_struct_name e (keys_of p.structs))
unfolding with_entry
entry-names (Struct s) p =
    if-keeps (λ q. keys_of q.structs ≡ with_name (keys_of p.structs) s.name.text) (has p.structs s.name.text) (fault N2 s.name.span)
    (result_map (with_struct p s.name.text) (in_turn (with_field p.names) s.fields [])) (λ b. tt)
    (λ none. mapped-keeps (λ v. Unit {0}) (λ q. keys_of q.structs ≡ with_name (keys_of p.structs) s.name.text) (with_struct p s.name.text) (in_turn (with_field p.names) s.fields [])
    (any-ok (in_turn (with_field p.names) s.fields []))
    (λ v u. rw (map-append (λ e. e.0) p.structs ((s.name.text, v) ∷ []), ← is_some-lookup (bytes_eq s.name.text) p.structs, none) refl))
entry-names (Function f) p =
    if-keeps (λ q. keys_of q.structs ≡ keys_of p.structs) (has p.functions f.name.text) (fault N2 f.name.span) (result_map (with_function p f.name.text) (head_of p.names f)) (λ b. tt)
    (λ none. mapped-keeps (λ g. Unit {0}) (λ q. keys_of q.structs ≡ keys_of p.structs) (with_function p f.name.text) (head_of p.names f) (any-ok (head_of p.names f)) (λ g u. refl))

pub entries-names : (entries : List Entry) (p : Program) → IfOk (in_turn with_entry entries p) (λ q. struct_names entries (keys_of p.structs) ≡ keys_of q.structs)
unfolding in_turn struct_names
entries-names [] p = refl
entries-names (e ∷ rest) p =
    after-keeps (λ q. keys_of q.structs ≡ with_struct_name e (keys_of p.structs)) (λ q. struct_names rest (with_struct_name e (keys_of p.structs)) ≡ keys_of q.structs)
    (in_turn with_entry rest) (with_entry e p) (entry-names e p)
    (λ q h. subst (λ (l : List Name). IfOk (in_turn with_entry rest q) (λ r. struct_names rest l ≡ keys_of r.structs)) h (entries-names rest q))
