-- The first fault of the heads, and what is declared where they have none.
use Rattle.std.proofs.Common.{◌≡◌, ℕ, zero, suc, ◌||◌, Bool, Option, Some, None, Ok, List, [], ◌∷◌, ◌++◌, map, position, refl, sym, subst, ap, ◌∙◌, append_assoc, append-nil, if◌then◌else◌}
use Rattle.std.specs.List.{list_any}
use Rattle.std.specs.Map.{keys_of}
use Rattle.std.specs.Str.{bytes_eq}
use Rattle.std.proofs.lemmas.List.{map-append}
use Rattle.ceal_base.specs.WellTyped.{name_of_field}
use Rattle.ceal_base.specs.declared.fault.FaultCode.TheVariants.{N2}
use Rattle.ceal_base.specs.declared.kind.FieldKind.{FieldKind}
use Rattle.ceal_base.specs.declared.kind.FieldKind.TheVariants.{CellPtr}
use Rattle.ceal_base.specs.declared.kind.Kind.{Kind}
use Rattle.ceal_base.specs.declared.syntax.Entry.{Entry}
use Rattle.ceal_base.specs.declared.syntax.Entry.TheVariants.{Struct, Function}
use Rattle.ceal_base.specs.declared.syntax.FieldDecl.{FieldDecl}
use Rattle.ceal_base.specs.declared.syntax.FunctionDecl.{FunctionDecl}
use Rattle.ceal_base.specs.declared.syntax.Ident.{Ident}
use Rattle.ceal_base.specs.declared.syntax.StructDecl.{StructDecl}
use Rattle.ceal_base.specs.declared.syntax.TypeForm.{TypeForm}
use Rattle.ceal_base.specs.declared.syntax.TypeForm.TheVariants as forms
use Rattle.ceal_base.specs.declared.typed.FieldInfo.{FieldInfo}
use Rattle.ceal_types.specs.Checked.{field_info}
use Rattle.ceal_types.specs.Expressions.{Fields}
use Rattle.ceal_types.specs.Faults.{one_if, type_faults, is_taken, element_names, element_taken, row_taken}
use Rattle.ceal_types.specs.Faults.{member_faults, parameter_name, parameter_faults, own_faults, head_faults}
use Rattle.ceal_types.specs.Faults.{faults_after, parameter_in_scope}
use Rattle.ceal_types.specs.Heads.{struct_number, kind_of, plain_pointer, plain_place, field_kind_of, row_of, row_at}
use Rattle.ceal_types.specs.Heads.{has_member, with_element, with_elements, added_field, new_field, with_field}
use Rattle.ceal_types.specs.Heads.{with_variable, new_parameter, with_parameter, own_of, no_variables, head}
use Rattle.ceal_types.specs.Heads.{with_parameters, head_of, with_struct, with_function, with_entry}
use Rattle.ceal_types.specs.Known.{variable_type, fields_of_member, fields_in, structs_in, functions_in}
use Rattle.ceal_types.specs.Resolves.{member_fields}
use Rattle.ceal_types.specs.Tables.{Name, has, element_name}
use Rattle.ceal_types.specs.Walk.{fault, result_map, in_turn}
use Rattle.ceal_types.specs.declared.program.Head.{Head}
use Rattle.ceal_types.specs.declared.program.Program.{Program}
use Rattle.ceal_types.specs.declared.program.Variables.{Variables}
use Rattle.ceal_types.proofs.FirstFault.ExpressionsTell.{OwnAs, known_variables, variables-added}
use Rattle.ceal_types.proofs.FirstFault.MembersTell.{known_structs}
use Rattle.ceal_types.proofs.FirstFault.StatementsTell.{Any, struct-tells, pointer-tells, form-tells, KindsKnown, HeadKnown, HeadsKnown, has-heads}
use Rattle.ceal_types.proofs.FirstFault.WalkTells.{Tells, after-tells, mapped-tells, where-tells, where-first}
use Rattle.ceal_types.proofs.FirstFault.WalkTells.{where-either, where-after, tells-weaker, tells-itself, tells-and}
use Rattle.ceal_types.proofs.FirstFault.WalkTells.{as-list, right-three, turn-tells}
use Rattle.ceal_types.proofs.NameNumbers.NumberOfName.{has-any, keys-added}
use Rattle.ceal_types.proofs.Resolution.NumbersOfNames.{names-of-fields}
use Rattle.ceal_types.proofs.Resolution.ProgramResolved.{Gives, added-given}

-- ---- the members of a struct
field-form-any : (names : List Name) (form : TypeForm) → Tells Any (type_faults names form) (field_kind_of names form)
field-form-any names forms.Int = (refl, tt)
field-form-any names (forms.Ptr name) = pointer-tells names plain_pointer name
field-form-any names forms.ModInt = (refl, tt)
field-form-any names (forms.ModPtr name) = pointer-tells names plain_place name
field-form-any names forms.CellInt = (refl, tt)
field-form-any names (forms.CellPtr name) = pointer-tells names CellPtr name
field-form-any names (forms.CellRow row) = (refl, tt)
field-form-any names (forms.CellPtrRow name row) = pointer-tells names CellPtr name

field-form-tells : (names : List Name) (form : TypeForm) → Tells (λ kind. Any kind × (field_kind_of names form ≡ Ok kind)) (type_faults names form) (field_kind_of names form)
field-form-tells names form = tells-itself Any (type_faults names form) (field_kind_of names form) (field-form-any names form)

taken-alike : (fields : Fields) (name : Name) → has_member fields name ≡ is_taken (keys_of fields) name
taken-alike fields name = λ i. has-any fields name i || has-any fields (element_name name 0) i

-- the elements of a row, whose names may be taken
module _ (name : Ident) (kind : FieldKind) (row : ℕ) (fields : Fields) where
  abbrev Named : ℕ → Fields → Type 0
  Named i more = keys_of more ≡ keys_of fields ++ element_names name.text i

  one-named : (i : ℕ) (more : Fields) → Named i more → (f : _) → Named (suc i) (more ++ (element_name name.text i, f) ∷ [])
  unfolding element_names
  one-named i more h f =
      keys-added more (element_name name.text i) f ∙ ap (λ (l : List Name). l ++ element_name name.text i ∷ []) h
      ∙ append_assoc (keys_of fields) (element_names name.text i) (element_name name.text i ∷ [])

  element-tells : (i : ℕ) (more : Fields) → Named i more
      → Tells (Named (suc i)) (one_if (list_any (bytes_eq (element_name name.text i)) (keys_of fields ++ element_names name.text i)) N2 name.span) (with_element name kind row i more)
  element-tells i more h =
      let element = element_name name.text i in
      let added = more ++ (element, record { kind = kind; row = row_at row i }) ∷ [] in
      as-list (Named (suc i)) (one_if (has more element) N2 name.span) (one_if (list_any (bytes_eq element) (keys_of fields ++ element_names name.text i)) N2 name.span)
      (with_element name kind row i more)
      (ap (λ (b : Bool). one_if b N2 name.span) (has-any more element ∙ ap (list_any (bytes_eq element)) h))
      (where-tells (Named (suc i)) (has more element) N2 name.span added (λ b. one-named i more h (record { kind = kind; row = row_at row i })))

  elements-tell : (i : ℕ) → Tells (Named i) (one_if (element_taken (keys_of fields) name.text i) N2 name.span) (with_elements name kind row i fields)
  unfolding with_elements element_taken element_names
  elements-tell zero = (refl, sym (append-nil (keys_of fields)))
  elements-tell (suc i) =
      where-after (Named i) (Named (suc i)) (element_taken (keys_of fields) name.text i)
      (list_any (bytes_eq (element_name name.text i)) (keys_of fields ++ element_names name.text i)) N2 name.span (with_element name kind row i)
      (with_elements name kind row i fields) (elements-tell i) (λ more h. element-tells i more h)

added-any : (name : Ident) (row : Option ℕ) (fields : Fields) (kind : FieldKind)
    → Tells Any (one_if (row_taken (keys_of fields) name.text row) N2 name.span) (added_field name row fields kind)
added-any name None fields kind = (refl, tt)
added-any name (Some row) fields kind =
    tells-weaker (Named name kind row fields row) Any (one_if (element_taken (keys_of fields) name.text row) N2 name.span) (with_elements name kind row row fields)
    (elements-tell name kind row fields row) (λ x h. tt)

module _ (names : List Name) where
  abbrev FieldsAs : List FieldDecl → Fields → Type 0
  FieldsAs before fields = map field_info fields ≡ fields_in names before

  fields-more : (before : List FieldDecl) (d : FieldDecl) → fields_in names (before ++ d ∷ []) ≡ fields_in names before ++ fields_of_member names d
  unfolding fields_in
  fields-more [] d = append-nil (fields_of_member names d)
  fields-more (x ∷ xs) d =
      ap (λ (l : List FieldInfo). fields_of_member names x ++ l) (fields-more xs d) ∙ sym (append_assoc (fields_of_member names x) (fields_in names xs) (fields_of_member names d))

  member-known : (d : FieldDecl) (kind : FieldKind) → field_kind_of names d.form ≡ Ok kind → fields_of_member names d ≡ member_fields d.form d.name.text kind
  member-known d kind h = rw (fields_of_member, h) refl

  member-tells : (before : List FieldDecl) (d : FieldDecl) (fields : Fields) → FieldsAs before fields
      → Tells (FieldsAs (before ++ d ∷ [])) (member_faults names before d) (with_field names d fields)
  unfolding with_field
  member-tells before d fields h =
      let P = FieldsAs (before ++ d ∷ []) in
      let name = d.name.text in
      let keys : keys_of fields ≡ map name_of_field (fields_in names before) = sym (names-of-fields fields) ∙ ap (map name_of_field) h in
      after-tells (λ kind. Any kind × (field_kind_of names d.form ≡ Ok kind)) P (type_faults names d.form)
      (one_if (is_taken (map name_of_field (fields_in names before)) name || row_taken (map name_of_field (fields_in names before)) name (row_of d.form)) N2 d.name.span)
      (new_field d.name (row_of d.form) fields) (field_kind_of names d.form) (field-form-tells names d.form)
      (λ kind k.
      let taken = one_if (row_taken (keys_of fields) name (row_of d.form)) N2 d.name.span in
      as-list P (one_if (has_member fields name || row_taken (keys_of fields) name (row_of d.form)) N2 d.name.span)
      (one_if (is_taken (map name_of_field (fields_in names before)) name || row_taken (map name_of_field (fields_in names before)) name (row_of d.form)) N2 d.name.span)
      (new_field d.name (row_of d.form) fields kind)
      (ap (λ (b : Bool). one_if (b || row_taken (keys_of fields) name (row_of d.form)) N2 d.name.span) (taken-alike fields name)
      ∙ ap (λ (l : List Name). one_if (is_taken l name || row_taken l name (row_of d.form)) N2 d.name.span) keys)
      (where-either P (has_member fields name) (row_taken (keys_of fields) name (row_of d.form)) N2 d.name.span (added_field d.name (row_of d.form) fields kind)
      (λ none. tells-weaker (λ all. Any all × Gives fields (member_fields d.form name kind) all) P taken (added_field d.name (row_of d.form) fields kind)
      (tells-and Any (Gives fields (member_fields d.form name kind)) taken (added_field d.name (row_of d.form) fields kind) (added-any d.name (row_of d.form) fields kind)
      (added-given d.form d.name kind fields))
      (λ all g. g.1 ∙ (λ i. h i ++ sym (member-known d kind k.1) i) ∙ sym (fields-more before d)))))

  none-as : FieldsAs [] []
  unfolding fields_in
  none-as = refl

  pub members-tell : (ds : List FieldDecl) → Tells (λ fields. map field_info fields ≡ fields_in names ds) (faults_after (member_faults names) [] ds) (in_turn (with_field names) ds [])
  members-tell ds = turn-tells (with_field names) (member_faults names) FieldsAs member-tells ds [] [] none-as

  -- ---- the head of a function
  record ParametersAs (before : List FieldDecl) (v : Variables) : Type 0 where
    scope : known_variables v.scope ≡ map (parameter_in_scope names) before
    kinds : KindsKnown names before v.kinds
    keys : keys_of v.scope ≡ map parameter_name before

  kinds-more : (ds : List FieldDecl) (kinds : List Kind) (d : FieldDecl) (kind : Kind) → KindsKnown names ds kinds → variable_type names d.form ≡ Some (Some kind)
      → KindsKnown names (ds ++ d ∷ []) (kinds ++ kind ∷ [])
  kinds-more [] [] d kind k h = (h, tt)
  kinds-more [] (x ∷ kinds) d kind k h = absurd k
  kinds-more (x ∷ ds) [] d kind k h = absurd k
  kinds-more (x ∷ ds) (y ∷ kinds) d kind k h = (k.0, kinds-more ds kinds d kind k.1 h)

  parameter-tells : (before : List FieldDecl) (d : FieldDecl) (v : Variables) → ParametersAs before v
      → Tells (ParametersAs (before ++ d ∷ [])) (parameter_faults names before d) (with_parameter names d v)
  unfolding with_parameter
  parameter-tells before d v h =
      let P = ParametersAs (before ++ d ∷ []) in
      let name = d.name.text in
      let taken = one_if (list_any (bytes_eq name) (map parameter_name before)) N2 d.name.span in
      after-tells (λ kind. variable_type names d.form ≡ Some (Some kind)) P (type_faults names d.form) taken (new_parameter d.name v) (kind_of names d.form) (form-tells names d.form)
      (λ kind k. as-list P (one_if (has v.scope name) N2 d.name.span) taken (new_parameter d.name v kind)
      (ap (λ (b : Bool). one_if b N2 d.name.span) (has-any v.scope name ∙ ap (list_any (bytes_eq name)) h.keys))
      (where-tells P (has v.scope name) N2 d.name.span (with_variable v name kind)
      (λ none. record {
        scope = variables-added v.scope name _ ∙ (λ i. h.scope i ++ (name, sym k i) ∷ []) ∙ sym (map-append (parameter_in_scope names) before (d ∷ []));
        kinds = kinds-more before v.kinds d kind h.kinds k;
        keys = keys-added v.scope name _ ∙ ap (λ (l : List Name). l ++ name ∷ []) h.keys ∙ sym (map-append parameter_name before (d ∷ []));
      })))

  parameters-tell : (ds : List FieldDecl) → Tells (ParametersAs ds) (faults_after (parameter_faults names) [] ds) (in_turn (with_parameter names) ds no_variables)
  parameters-tell ds =
      turn-tells (with_parameter names) (parameter_faults names) ParametersAs parameter-tells ds [] no_variables (record { scope = refl; kinds = tt; keys = refl })

  own-tells : (o : Option Ident) → Tells (OwnAs names o) (own_faults names o) (own_of names o)
  own-tells None = (refl, refl)
  own-tells (Some name) =
      mapped-tells (λ s. position (bytes_eq name.text) names ≡ Some s) (OwnAs names (Some name)) (own_faults names (Some name)) Some (struct_number names name) (struct-tells names name)
      (λ s h. (s, refl, h))

  pub head-tells : (f : FunctionDecl) → Tells (HeadKnown names f) (own_faults names f.initialiser ++ faults_after (parameter_faults names) [] f.params) (head_of names f)
  unfolding head_of
  head-tells f =
      let gs = faults_after (parameter_faults names) [] f.params in
      after-tells (OwnAs names f.initialiser) (HeadKnown names f) (own_faults names f.initialiser) gs (with_parameters names f.params) (own_of names f.initialiser) (own-tells f.initialiser)
      (λ own h. mapped-tells (ParametersAs f.params) (HeadKnown names f) gs (head own) (in_turn (with_parameter names) f.params no_variables) (parameters-tell f.params)
      (λ v k. record { own = h; kinds = k.kinds; scope = k.scope }))

  -- ---- entries
  pub record EntriesAs (before : List Entry) (q : Program) : Type 0 where
    pub names_kept : q.names ≡ names
    pub structs : known_structs q.structs ≡ structs_in names before
    pub functions : HeadsKnown names q.functions (functions_in before)

  struct-more : (before : List Entry) (s : StructDecl) → structs_in names (before ++ Struct s ∷ []) ≡ structs_in names before ++ (s.name.text, fields_in names s.fields) ∷ []
  unfolding structs_in
  struct-more [] s = refl
  struct-more (Struct t ∷ entries) s = ap (λ (l : List (Name × List FieldInfo)). (t.name.text, fields_in names t.fields) ∷ l) (struct-more entries s)
  struct-more (Function f ∷ entries) s = struct-more entries s

  no-struct-more : (before : List Entry) (f : FunctionDecl) → structs_in names (before ++ Function f ∷ []) ≡ structs_in names before
  unfolding structs_in
  no-struct-more [] f = refl
  no-struct-more (Struct t ∷ entries) f = ap (λ (l : List (Name × List FieldInfo)). (t.name.text, fields_in names t.fields) ∷ l) (no-struct-more entries f)
  no-struct-more (Function g ∷ entries) f = no-struct-more entries f

  function-more : (before : List Entry) (f : FunctionDecl) → functions_in (before ++ Function f ∷ []) ≡ functions_in before ++ (f.name.text, f) ∷ []
  unfolding functions_in
  function-more [] f = refl
  function-more (Struct t ∷ entries) f = function-more entries f
  function-more (Function g ∷ entries) f = ap (λ (l : List (Name × FunctionDecl)). (g.name.text, g) ∷ l) (function-more entries f)

  no-function-more : (before : List Entry) (s : StructDecl) → functions_in (before ++ Struct s ∷ []) ≡ functions_in before
  unfolding functions_in
  no-function-more [] s = refl
  no-function-more (Struct t ∷ entries) s = no-function-more entries s
  no-function-more (Function g ∷ entries) s = ap (λ (l : List (Name × FunctionDecl)). (g.name.text, g) ∷ l) (no-function-more entries s)

  known-more : (structs : List (Name × Fields)) (name : Name) (fields : Fields) → known_structs (structs ++ (name, fields) ∷ []) ≡ known_structs structs ++ (name, map field_info fields) ∷ []
  known-more [] name fields = refl
  known-more (s ∷ structs) name fields = ap (λ (l : List (Name × List FieldInfo)). (s.0, map field_info s.1) ∷ l) (known-more structs name fields)

  heads-more : (hs : List (Name × Head)) (fs : List (Name × FunctionDecl)) (f : FunctionDecl) (h : Head) → HeadsKnown names hs fs → HeadKnown names f h
      → HeadsKnown names (hs ++ (f.name.text, h) ∷ []) (fs ++ (f.name.text, f) ∷ [])
  heads-more [] [] f h k one = (refl, one, tt)
  heads-more [] (g ∷ fs) f h k one = absurd k
  heads-more (g ∷ hs) [] f h k one = absurd k
  heads-more (g ∷ hs) (e ∷ fs) f h k one = (k.0, k.1, heads-more hs fs f h k.2 one)

  keys-known : (structs : List (Name × Fields)) → keys_of (known_structs structs) ≡ keys_of structs
  keys-known [] = refl
  keys-known (s ∷ structs) = ap (λ (l : List Name). s.0 ∷ l) (keys-known structs)

  has-struct : (structs : List (Name × Fields)) (name : Name) → has structs name ≡ has (known_structs structs) name
  has-struct structs name = has-any structs name ∙ ap (list_any (bytes_eq name)) (sym (keys-known structs)) ∙ sym (has-any (known_structs structs) name)

  pub entry-tells : (before : List Entry) (e : Entry) (q : Program) → EntriesAs before q → Tells (EntriesAs (before ++ e ∷ [])) (head_faults names before e) (with_entry e q)
  unfolding with_entry
  entry-tells before (Struct s) q h =
      let P = EntriesAs (before ++ Struct s ∷ []) in
      let gs = faults_after (member_faults names) [] s.fields in
      let r = result_map (with_struct q s.name.text) (in_turn (with_field q.names) s.fields []) in
      as-list P (one_if (has q.structs s.name.text) N2 s.name.span ++ gs) (one_if (has (structs_in names before) s.name.text) N2 s.name.span ++ gs)
      (if has q.structs s.name.text then fault N2 s.name.span else r)
      (ap (λ (b : Bool). one_if b N2 s.name.span ++ gs) (has-struct q.structs s.name.text ∙ ap (λ (l : List (Name × List FieldInfo)). has l s.name.text) h.structs))
      (where-first P (has q.structs s.name.text) N2 s.name.span gs r
      (λ none. mapped-tells (λ fields. map field_info fields ≡ fields_in names s.fields) P gs (with_struct q s.name.text) (in_turn (with_field q.names) s.fields [])
      (subst (λ (l : List Name). Tells (λ fields. map field_info fields ≡ fields_in names s.fields) gs (in_turn (with_field l) s.fields [])) (sym h.names_kept) (members-tell s.fields))
      (λ fields k. record {
        names_kept = h.names_kept;
        structs = known-more q.structs s.name.text fields ∙ (λ i. h.structs i ++ (s.name.text, k i) ∷ []) ∙ sym (struct-more before s);
        functions = subst (HeadsKnown names q.functions) (sym (no-function-more before s)) h.functions;
      })))
  entry-tells before (Function f) q h =
      let P = EntriesAs (before ++ Function f ∷ []) in
      let fs = one_if (has (functions_in before) f.name.text) N2 f.name.span in
      let gs = own_faults names f.initialiser in
      let hs = faults_after (parameter_faults names) [] f.params in
      let r = result_map (with_function q f.name.text) (head_of q.names f) in
      as-list P (one_if (has q.functions f.name.text) N2 f.name.span ++ (gs ++ hs)) (fs ++ gs ++ hs) (if has q.functions f.name.text then fault N2 f.name.span else r)
      (ap (λ (b : Bool). one_if b N2 f.name.span ++ (gs ++ hs)) (has-heads names f.name.text q.functions (functions_in before) h.functions) ∙ right-three fs gs hs)
      (where-first P (has q.functions f.name.text) N2 f.name.span (gs ++ hs) r
      (λ none. mapped-tells (HeadKnown names f) P (gs ++ hs) (with_function q f.name.text) (head_of q.names f)
      (subst (λ (l : List Name). Tells (HeadKnown names f) (gs ++ hs) (head_of l f)) (sym h.names_kept) (head-tells f))
      (λ head k. record {
        names_kept = h.names_kept;
        structs = h.structs ∙ sym (no-struct-more before f);
        functions = subst (HeadsKnown names (q.functions ++ (f.name.text, head) ∷ [])) (sym (function-more before f)) (heads-more q.functions (functions_in before) f head h.functions k);
      })))
