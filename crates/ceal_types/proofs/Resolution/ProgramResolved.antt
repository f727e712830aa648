-- In the program that the walk gives each name has its number.
use Rattle.std.proofs.Common.{◌≡◌, ℕ, zero, suc, ◌+◌, ◌||◌, arith, Bool, true, false, Option, Some, None, Result, Ok}
use Rattle.std.proofs.Common.{Err, List, [], ◌∷◌, ◌++◌, map, length, refl, sym, subst, ap, ◌∙◌, append_assoc}
use Rattle.std.proofs.Common.{append-nil}
use Rattle.std.specs.Prelude.{IfOk}
use Rattle.std.specs.List.{IsDistinct}
use Rattle.std.specs.Map.{keys_of}
use Rattle.std.specs.Str.{bytes_eq}
use Rattle.std.proofs.lemmas.Bool.{true≢false}
use Rattle.std.proofs.lemmas.List.{length_push, map-append}
use Rattle.ceal_base.specs.WellTyped.{struct_name, function_name, name_of_field}
use Rattle.ceal_base.specs.declared.fault.Fault.{Fault}
use Rattle.ceal_base.specs.declared.fault.FaultCode.TheVariants.{N2}
use Rattle.ceal_base.specs.declared.kind.FieldKind.{FieldKind}
use Rattle.ceal_base.specs.declared.kind.FieldKind.TheVariants.{CellPtr}
use Rattle.ceal_base.specs.declared.kind.Kind.{Kind}
use Rattle.ceal_base.specs.declared.syntax.Entry.{Entry}
use Rattle.ceal_base.specs.declared.syntax.Entry.TheVariants.{Struct, Function}
use Rattle.ceal_base.specs.declared.syntax.FieldDecl.{FieldDecl}
use Rattle.ceal_base.specs.declared.syntax.FunctionDecl.{FunctionDecl}
use Rattle.ceal_base.specs.declared.syntax.Ident.{Ident}
use Rattle.ceal_base.specs.declared.syntax.StructDecl.{StructDecl}
use Rattle.ceal_base.specs.declared.syntax.Tree.{Tree}
use Rattle.ceal_base.specs.declared.syntax.TypeForm.{TypeForm}
use Rattle.ceal_base.specs.declared.syntax.TypeForm.TheVariants as forms
use Rattle.ceal_base.specs.declared.typed.FieldInfo.{FieldInfo}
use Rattle.ceal_base.specs.declared.typed.Typed.{Typed}
use Rattle.ceal_base.specs.declared.typed.TypedFunction.{TypedFunction}
use Rattle.ceal_types.specs.Checked.{field_info, struct_info, function_of, function_body, typed_function, with_body, program_of, bodies, checked}
use Rattle.ceal_types.specs.Expressions.{Fields}
use Rattle.ceal_types.specs.Heads.{struct_number, kind_of, plain_pointer, plain_place, field_kind_of, row_of, row_at}
use Rattle.ceal_types.specs.Heads.{has_member, with_element, with_elements, added_field, new_field, with_field}
use Rattle.ceal_types.specs.Heads.{with_variable, new_parameter, with_parameter, own_of, no_variables, head}
use Rattle.ceal_types.specs.Heads.{with_parameters, head_of, with_struct, with_function, with_entry, struct_names}
use Rattle.ceal_types.specs.Heads.{no_entries, heads}
use Rattle.ceal_types.specs.Resolves.{Environment, IsNew, IsKind, IsFieldKind, IsStruct, StmtsResolve, elements}
use Rattle.ceal_types.specs.Resolves.{member_fields, MembersResolve, StructResolves, declared_name, numbered_from}
use Rattle.ceal_types.specs.Resolves.{ParametersResolve, OwnResolves, FunctionResolves, EntriesResolve, Resolves}
use Rattle.ceal_types.specs.Statements.{Block, inner_block, typed_stmts}
use Rattle.ceal_types.specs.Tables.{Name, has, element_name}
use Rattle.ceal_types.specs.Walk.{fault, result_map, in_turn, at_end}
use Rattle.ceal_types.specs.declared.program.Head.{Head}
use Rattle.ceal_types.specs.declared.program.Program.{Program}
use Rattle.ceal_types.specs.declared.program.Variables.{Variables}
use Rattle.ceal_types.proofs.Resolution.ExpressionResolved.{Whole}
use Rattle.ceal_types.proofs.Typing.HeadTyped.{distinct-more, entries-names}
use Rattle.ceal_types.proofs.Walks.WalkKeeps.{after-keeps, mapped-keeps, if-keeps, weaken, any-ok, ok-at, after-ok, turn-keeps}
use Rattle.ceal_types.proofs.Typing.KindsGrow.{BlockGrows, body-grows}
use Rattle.ceal_types.proofs.NameNumbers.NumberOfName.{has-any, keys-added}
use Rattle.ceal_types.proofs.Typing.ProgramTyped.{view_name, HeadAdded, head-added, struct-added, shown-all, names-of-functions, names-of-heads, names-of-structs, same-ok}
use Rattle.ceal_types.proofs.Resolution.NumbersOfNames.{numbers, numbers-added, names-of-fields, both-hold}
use Rattle.ceal_types.proofs.Resolution.StatementResolved.{struct-named, kind-named, body-resolves}

append-more : {A : Type 0} (xs ys zs more : List A) (x : A) → xs ≡ ys ++ more → zs ≡ xs ++ x ∷ [] → zs ≡ ys ++ (more ++ x ∷ [])
append-more xs ys zs more x h k = k ∙ ap (λ (l : List _). l ++ x ∷ []) h ∙ append_assoc ys more (x ∷ [])

not-first : (a b : Bool) → (a || b) ≡ false → a ≡ false
not-first false b h = refl
not-first true b h = absurd (true≢false h)

not-second : (a b : Bool) → (a || b) ≡ false → b ≡ false
not-second false b h = h
not-second true b h = absurd (true≢false h)

pub is-new : {A : Type 0} (table : List (Name × A)) (name : Name) → has table name ≡ false → IsNew (keys_of table) name
is-new table name none = sym (has-any table name) ∙ none

-- ---- what a member adds to a struct
-- these fields come after others
abbrev pub Gives : Fields → List FieldInfo → Fields → Type 0
Gives fields more all = map field_info all ≡ map field_info fields ++ more

one-given : (name : Ident) (kind : FieldKind) (fields : Fields)
    → Gives fields (record { name = name.text; kind = kind; row = 0 } ∷ []) (fields ++ (name.text, record { kind = kind; row = 0 }) ∷ [])
one-given name kind fields = map-append field_info fields ((name.text, record { kind = kind; row = 0 }) ∷ [])

pub elements-given : (name : Ident) (kind : FieldKind) (row i : ℕ) (fields : Fields) → IfOk (with_elements name kind row i fields) (Gives fields (elements name.text kind row i))
unfolding with_elements elements
elements-given name kind row zero fields = sym (append-nil (map field_info fields))
elements-given name kind row (suc i) fields =
    after-keeps (Gives fields (elements name.text kind row i)) (Gives fields (elements name.text kind row (suc i))) (with_element name kind row i) (with_elements name kind row i fields)
    (elements-given name kind row i fields)
    (λ more g. if-keeps (Gives fields (elements name.text kind row (suc i))) (has more (element_name name.text i)) (fault N2 name.span)
    (Ok (more ++ (element_name name.text i, record { kind = kind; row = row_at row i }) ∷ [])) (λ b. tt)
    (λ none. append-more (map field_info more) (map field_info fields) (map field_info (more ++ (element_name name.text i, record { kind = kind; row = row_at row i }) ∷ []))
    (elements name.text kind row i) (field_info (element_name name.text i, record { kind = kind; row = row_at row i })) g
    (map-append field_info more ((element_name name.text i, record { kind = kind; row = row_at row i }) ∷ []))))

pub added-given : (form : TypeForm) (name : Ident) (kind : FieldKind) (fields : Fields) → IfOk (added_field name (row_of form) fields kind) (Gives fields (member_fields form name.text kind))
added-given forms.Int name kind fields = one-given name kind fields
added-given (forms.Ptr s) name kind fields = one-given name kind fields
added-given forms.ModInt name kind fields = one-given name kind fields
added-given (forms.ModPtr s) name kind fields = one-given name kind fields
added-given forms.CellInt name kind fields = one-given name kind fields
added-given (forms.CellPtr s) name kind fields = one-given name kind fields
added-given (forms.CellRow row) name kind fields = elements-given name kind row row fields
added-given (forms.CellPtrRow s row) name kind fields = elements-given name kind row row fields

pub keys-given : (fields all : Fields) (more : List FieldInfo) → Gives fields more all → keys_of all ≡ keys_of fields ++ map name_of_field more
keys-given fields all more h =
    sym (names-of-fields all) ∙ ap (map name_of_field) h ∙ map-append name_of_field (map field_info fields) more
    ∙ ap (λ (l : List Name). l ++ map name_of_field more) (names-of-fields fields)

-- a parameter's kind is there, whatever comes after
more-parameters : (p : Typed) (ds : List FieldDecl) (kinds more : List Kind) → ParametersResolve p ds kinds → ParametersResolve p ds (kinds ++ more)
more-parameters p [] kinds more h = tt
more-parameters p (d ∷ ds) [] more h = absurd h
more-parameters p (d ∷ ds) (kind ∷ kinds) more h = (h.0, more-parameters p ds kinds more h.1)

module _ (p : Program) (fs : List TypedFunction) (names : p.names ≡ map struct_name (map struct_info p.structs)) (functions : map function_name fs ≡ keys_of p.functions) where
  pointer-named : (form : TypeForm) (make : ℕ → FieldKind) (name : Ident) → ((s : ℕ) → IsStruct (Whole p fs) name s → IsFieldKind (Whole p fs) form (make s))
      → IfOk (result_map make (struct_number p.names name)) (IsFieldKind (Whole p fs) form)
  pointer-named form make name h =
      mapped-keeps (IsStruct (Whole p fs) name) (IsFieldKind (Whole p fs) form) make (struct_number p.names name) (struct-named p fs names functions name) h

  field-kind-named : (form : TypeForm) → IfOk (field_kind_of p.names form) (IsFieldKind (Whole p fs) form)
  field-kind-named forms.Int = refl
  field-kind-named (forms.Ptr name) = pointer-named (forms.Ptr name) plain_pointer name (λ s h. (s, h, refl))
  field-kind-named forms.ModInt = refl
  field-kind-named (forms.ModPtr name) = pointer-named (forms.ModPtr name) plain_place name (λ s h. (s, h, refl))
  field-kind-named forms.CellInt = refl
  field-kind-named (forms.CellPtr name) = pointer-named (forms.CellPtr name) CellPtr name (λ s h. (s, h, refl))
  field-kind-named (forms.CellRow row) = refl
  field-kind-named (forms.CellPtrRow name row) = pointer-named (forms.CellPtrRow name row) CellPtr name (λ s h. (s, h, refl))

  -- one more member
  record MemberGoes (fields : Fields) (d : FieldDecl) (all : Fields) : Type 0 where
    kind : FieldKind
    is_kind : IsFieldKind (Whole p fs) d.form kind
    new : IsNew (keys_of fields) d.name.text
    new_row : IsNew (keys_of fields) (element_name d.name.text 0)
    is : Gives fields (member_fields d.form d.name.text kind) all

  member-goes : (d : FieldDecl) (fields : Fields) → IfOk (with_field p.names d fields) (MemberGoes fields d)
  unfolding with_field
  member-goes d fields =
      after-keeps (IsFieldKind (Whole p fs) d.form) (MemberGoes fields d) (new_field d.name (row_of d.form) fields) (field_kind_of p.names d.form) (field-kind-named d.form)
      (λ kind h. if-keeps (MemberGoes fields d) (has_member fields d.name.text) (fault N2 d.name.span) (added_field d.name (row_of d.form) fields kind) (λ b. tt)
      (λ none. weaken (Gives fields (member_fields d.form d.name.text kind)) (MemberGoes fields d) (added_field d.name (row_of d.form) fields kind)
      (λ all g. record {
        kind = kind;
        is_kind = h;
        new = is-new fields d.name.text (not-first (has fields d.name.text) (has fields (element_name d.name.text 0)) none);
        new_row = is-new fields (element_name d.name.text 0) (not-second (has fields d.name.text) (has fields (element_name d.name.text 0)) none);
        is = g;
      })
      (added-given d.form d.name kind fields)))

  -- the members of a struct
  record MembersGo (fields : Fields) (ds : List FieldDecl) (all : Fields) : Type 0 where
    more : List FieldInfo
    is : Gives fields more all
    agrees : MembersResolve (Whole p fs) (keys_of fields) ds more

  members-go : (ds : List FieldDecl) (fields : Fields) → IfOk (in_turn (with_field p.names) ds fields) (MembersGo fields ds)
  unfolding in_turn
  members-go [] fields = record { more = []; is = sym (append-nil (map field_info fields)); agrees = refl }
  members-go (d ∷ ds) fields =
      after-keeps (MemberGoes fields d) (MembersGo fields (d ∷ ds)) (in_turn (with_field p.names) ds) (with_field p.names d fields) (member-goes d fields)
      (λ some m. weaken (MembersGo some ds) (MembersGo fields (d ∷ ds)) (in_turn (with_field p.names) ds some)
      (λ all k. record {
        more = member_fields d.form d.name.text m.kind ++ k.more;
        is = k.is ∙ ap (λ (l : List FieldInfo). l ++ k.more) m.is ∙ append_assoc (map field_info fields) (member_fields d.form d.name.text m.kind) k.more;
        agrees = (
          m.kind,
          k.more,
          m.is_kind,
          m.new,
          m.new_row,
          refl,
          subst (λ (l : List Name). MembersResolve (Whole p fs) l ds k.more) (keys-given fields some (member_fields d.form d.name.text m.kind) m.is) k.agrees,
        );
      })
      (members-go ds some))

  struct-resolves : (s : StructDecl) → IfOk (in_turn (with_field p.names) s.fields []) (λ fields. StructResolves (Whole p fs) s (struct_info (s.name.text, fields)))
  struct-resolves s =
      weaken (MembersGo [] s.fields) (λ fields. StructResolves (Whole p fs) s (struct_info (s.name.text, fields))) (in_turn (with_field p.names) s.fields [])
      (λ fields k. (refl, subst (λ (l : List FieldInfo). MembersResolve (Whole p fs) [] s.fields l) (sym k.is) k.agrees))
      (members-go s.fields [])

  -- ---- the head of a function
  record ParametersGo (v : Variables) (ds : List FieldDecl) (w : Variables) : Type 0 where
    more : List Kind
    is : w.kinds ≡ v.kinds ++ more
    count : length more ≡ length ds
    agrees : ParametersResolve (Whole p fs) ds more
    scope : numbers w.scope ≡ numbers v.scope ++ numbered_from (length v.kinds) (map declared_name ds)
    keys : keys_of w.scope ≡ keys_of v.scope ++ map declared_name ds
    apart : IsDistinct bytes_eq (keys_of v.scope) → IsDistinct bytes_eq (keys_of w.scope)

  record ParameterGoes (v : Variables) (d : FieldDecl) (w : Variables) : Type 0 where
    kind : Kind
    is_kind : IsKind (Whole p fs) d.form kind
    none : has v.scope d.name.text ≡ false
    is : w ≡ with_variable v d.name.text kind

  parameter-goes : (d : FieldDecl) (v : Variables) → IfOk (with_parameter p.names d v) (ParameterGoes v d)
  unfolding with_parameter
  parameter-goes d v =
      after-keeps (IsKind (Whole p fs) d.form) (ParameterGoes v d) (new_parameter d.name v) (kind_of p.names d.form) (kind-named p fs names functions d.form)
      (λ kind h. if-keeps (ParameterGoes v d) (has v.scope d.name.text) (fault N2 d.name.span) (Ok (with_variable v d.name.text kind)) (λ b. tt)
      (λ none. record { kind = kind; is_kind = h; none = none; is = refl }))

  with-parameter : (d : FieldDecl) (ds : List FieldDecl) (v : Variables) (kind : Kind) (w : Variables) → IsKind (Whole p fs) d.form kind → has v.scope d.name.text ≡ false
      → ParametersGo (with_variable v d.name.text kind) ds w → ParametersGo v (d ∷ ds) w
  with-parameter d ds v kind w h none k =
      let next : length (v.kinds ++ kind ∷ []) ≡ length v.kinds + 1 = omega (arith, length_push v.kinds kind) in
      record {
        more = kind ∷ k.more;
        is = k.is ∙ append_assoc v.kinds (kind ∷ []) k.more;
        count = omega (arith, k.count);
        agrees = (h, k.agrees);
        scope = k.scope
            ∙ (λ i. numbers-added v.scope d.name.text (record { number = length v.kinds; kind = kind }) i ++ numbered_from (next i) (map declared_name ds))
            ∙ append_assoc (numbers v.scope) ((d.name.text, length v.kinds) ∷ []) (numbered_from (length v.kinds + 1) (map declared_name ds));
        keys = k.keys ∙ ap (λ (l : List Name). l ++ map declared_name ds) (keys-added v.scope d.name.text (record { number = length v.kinds; kind = kind }))
            ∙ append_assoc (keys_of v.scope) (d.name.text ∷ []) (map declared_name ds);
        apart = λ a. k.apart (distinct-more v.scope d.name.text (record { number = length v.kinds; kind = kind }) a none);
      }

  parameters-go : (ds : List FieldDecl) (v : Variables) → IfOk (in_turn (with_parameter p.names) ds v) (ParametersGo v ds)
  unfolding in_turn
  parameters-go [] v = record {
    more = [];
    is = sym (append-nil v.kinds);
    count = refl;
    agrees = tt;
    scope = sym (append-nil (numbers v.scope));
    keys = sym (append-nil (keys_of v.scope));
    apart = λ a. a;
  }
  parameters-go (d ∷ ds) v =
      after-keeps (ParameterGoes v d) (ParametersGo v (d ∷ ds)) (in_turn (with_parameter p.names) ds) (with_parameter p.names d v) (parameter-goes d v)
      (λ u m. weaken (ParametersGo u ds) (ParametersGo v (d ∷ ds)) (in_turn (with_parameter p.names) ds u)
      (λ w k. with-parameter d ds v m.kind w m.is_kind m.none (subst (λ (x : Variables). ParametersGo x ds w) m.is k))
      (parameters-go ds u))

  own-resolves : (o : Option Ident) → IfOk (own_of p.names o) (OwnResolves (Whole p fs) o)
  own-resolves None = tt
  own-resolves (Some name) =
      mapped-keeps (IsStruct (Whole p fs) name) (OwnResolves (Whole p fs) (Some name)) Some (struct_number p.names name) (struct-named p fs names functions name) (λ s h. h)

  record HeadResolves (f : FunctionDecl) (h : Head) : Type 0 where
    own : OwnResolves (Whole p fs) f.initialiser h.own
    parameters : ParametersGo no_variables f.params h.parameters

  head-resolves : (f : FunctionDecl) → IfOk (head_of p.names f) (HeadResolves f)
  unfolding head_of
  head-resolves f =
      after-keeps (OwnResolves (Whole p fs) f.initialiser) (HeadResolves f) (with_parameters p.names f.params) (own_of p.names f.initialiser) (own-resolves f.initialiser)
      (λ o h. mapped-keeps (ParametersGo no_variables f.params) (HeadResolves f) (head o) (in_turn (with_parameter p.names) f.params no_variables)
      (parameters-go f.params no_variables) (λ v k. record { own = h; parameters = k }))

  -- ---- a function
  function-made : (f : FunctionDecl) (h : Head) (b : Block) → HeadResolves f h → StmtsResolve (Whole p fs) (numbers h.parameters.scope) f.body b.stmts
      → BlockGrows h.parameters b → FunctionResolves (Whole p fs) f (function_of f h b)
  unfolding IsDistinct
  function-made f h b k body grows = record {
    own = k.own;
    name = refl;
    count = ap length k.parameters.is ∙ k.parameters.count;
    names = subst (IsDistinct bytes_eq) k.parameters.keys (k.parameters.apart tt);
    parameters = subst (ParametersResolve (Whole p fs) f.params) (sym (grows.is ∙ ap (λ (l : List Kind). l ++ grows.more) k.parameters.is))
        (more-parameters (Whole p fs) f.params k.parameters.more grows.more k.parameters.agrees);
    body = subst (λ (l : Environment). StmtsResolve (Whole p fs) l f.body b.stmts) k.parameters.scope body;
    close = refl;
  }

  function-resolves : (f : FunctionDecl) → IfOk (typed_function p f) (FunctionResolves (Whole p fs) f)
  unfolding typed_function
  function-resolves f =
      after-keeps (HeadResolves f) (FunctionResolves (Whole p fs) f) (function_body p f) (head_of p.names f) (head-resolves f)
      (λ h k. mapped-keeps (λ b. StmtsResolve (Whole p fs) (numbers h.parameters.scope) f.body b.stmts × BlockGrows h.parameters b) (FunctionResolves (Whole p fs) f)
      (function_of f h) (inner_block (typed_stmts p h.own f.body) h.parameters)
      (both-hold (inner_block (typed_stmts p h.own f.body) h.parameters) (λ b. StmtsResolve (Whole p fs) (numbers h.parameters.scope) f.body b.stmts) (BlockGrows h.parameters)
      (body-resolves p fs names functions h.own f.body h.parameters) (body-grows p h.own f.body h.parameters))
      (λ b g. function-made f h b k g.0 g.1))

  -- ---- entries
  record StructGoes (s : StructDecl) (q r : Program) : Type 0 where
    fields : Fields
    names_kept : r.names ≡ q.names
    is : r.structs ≡ q.structs ++ (s.name.text, fields) ∷ []
    agrees : StructResolves (Whole p fs) s (struct_info (s.name.text, fields))

  struct-goes : (s : StructDecl) (q : Program) → q.names ≡ p.names → IfOk (with_entry (Struct s) q) (StructGoes s q)
  unfolding with_entry
  struct-goes s q same =
      if-keeps (StructGoes s q) (has q.structs s.name.text) (fault N2 s.name.span) (result_map (with_struct q s.name.text) (in_turn (with_field q.names) s.fields [])) (λ b. tt)
      (λ none. mapped-keeps (λ fields. StructResolves (Whole p fs) s (struct_info (s.name.text, fields))) (StructGoes s q) (with_struct q s.name.text) (in_turn (with_field q.names) s.fields [])
      (subst (λ (l : List Name). IfOk (in_turn (with_field l) s.fields []) (λ fields. StructResolves (Whole p fs) s (struct_info (s.name.text, fields)))) (sym same) (struct-resolves s))
      (λ fields k. record { fields = fields; names_kept = refl; is = refl; agrees = k }))

  record FunctionGoes (f : FunctionDecl) (gs hs : List TypedFunction) : Type 0 where
    function : TypedFunction
    is : hs ≡ gs ++ function ∷ []
    agrees : FunctionResolves (Whole p fs) f function

  function-goes : (f : FunctionDecl) (gs : List TypedFunction) → IfOk (with_body p (Function f) gs) (FunctionGoes f gs)
  unfolding with_body
  function-goes f gs =
      mapped-keeps (FunctionResolves (Whole p fs) f) (FunctionGoes f gs) (at_end gs) (typed_function p f) (function-resolves f)
      (λ g k. record { function = g; is = refl; agrees = k })

  record EntriesGo (entries : List Entry) (q r : Program) (gs hs : List TypedFunction) : Type 0 where
    some : List (Name × Fields)
    others : List TypedFunction
    is_structs : r.structs ≡ q.structs ++ some
    is_functions : hs ≡ gs ++ others
    agrees : EntriesResolve (Whole p fs) entries (map struct_info some) others

  functions-kept : (f : FunctionDecl) (q : Program) → IfOk (with_entry (Function f) q) (λ r. r.structs ≡ q.structs)
  unfolding with_entry
  functions-kept f q =
      if-keeps (λ r. r.structs ≡ q.structs) (has q.functions f.name.text) (fault N2 f.name.span) (result_map (with_function q f.name.text) (head_of q.names f)) (λ b. tt)
      (λ none. mapped-keeps (λ h. Unit {0}) (λ r. r.structs ≡ q.structs) (with_function q f.name.text) (head_of q.names f) (any-ok (head_of q.names f)) (λ h u. refl))

  struct-body : (s : StructDecl) (gs hs : List TypedFunction) → with_body p (Struct s) gs ≡ Ok hs → gs ≡ hs
  unfolding with_body
  struct-body s gs hs h = same-ok gs hs h

  entries-go : (entries : List Entry) (q r : Program) (gs hs : List TypedFunction) → q.names ≡ p.names
      → in_turn with_entry entries q ≡ Ok r → in_turn (with_body p) entries gs ≡ Ok hs → EntriesGo entries q r gs hs
  unfolding in_turn
  entries-go [] q r gs hs same heads here =
      let a = same-ok q r heads in
      let b = same-ok gs hs here in
      record {
        some = [];
        others = [];
        is_structs = ap (λ (x : Program). x.structs) (sym a) ∙ sym (append-nil q.structs);
        is_functions = sym b ∙ sym (append-nil gs);
        agrees = tt;
      }
  entries-go (Struct s ∷ rest) q r gs hs same heads here =
      let a = after-ok (in_turn with_entry rest) (with_entry (Struct s) q) r heads in
      let b = after-ok (in_turn (with_body p) rest) (with_body p (Struct s) gs) hs here in
      let m = ok-at (StructGoes s q) (with_entry (Struct s) q) a.0 a.1 (struct-goes s q same) in
      let k = entries-go rest a.0 r b.0 hs (m.names_kept ∙ same) a.2 b.2 in
      record {
        some = (s.name.text, m.fields) ∷ k.some;
        others = k.others;
        is_structs = k.is_structs ∙ ap (λ (l : List (Name × Fields)). l ++ k.some) m.is ∙ append_assoc q.structs ((s.name.text, m.fields) ∷ []) k.some;
        is_functions = k.is_functions ∙ ap (λ (l : List TypedFunction). l ++ k.others) (sym (struct-body s gs b.0 b.1));
        agrees = (m.agrees, k.agrees);
      }
  entries-go (Function f ∷ rest) q r gs hs same heads here =
      let a = after-ok (in_turn with_entry rest) (with_entry (Function f) q) r heads in
      let b = after-ok (in_turn (with_body p) rest) (with_body p (Function f) gs) hs here in
      let added = ok-at (HeadAdded f q) (with_entry (Function f) q) a.0 a.1 (head-added f q) in
      let kept = ok-at (λ (x : Program). x.structs ≡ q.structs) (with_entry (Function f) q) a.0 a.1 (functions-kept f q) in
      let m = ok-at (FunctionGoes f gs) (with_body p (Function f) gs) b.0 b.1 (function-goes f gs) in
      let k = entries-go rest a.0 r b.0 hs (added.names ∙ same) a.2 b.2 in
      record {
        some = k.some;
        others = m.function ∷ k.others;
        is_structs = k.is_structs ∙ ap (λ (l : List (Name × Fields)). l ++ k.some) kept;
        is_functions = k.is_functions ∙ ap (λ (l : List TypedFunction). l ++ k.others) m.is ∙ append_assoc gs (m.function ∷ []) k.others;
        agrees = (m.agrees, k.agrees);
      }

-- the names of structs stay
entry-keeps : (names : List Name) (e : Entry) (q : Program) → q.names ≡ names → IfOk (with_entry e q) (λ r. r.names ≡ names)
entry-keeps names (Struct s) q h =
    weaken (λ r. (r.names ≡ q.names) × (r.functions ≡ q.functions)) (λ r. r.names ≡ names) (with_entry (Struct s) q) (λ r k. k.0 ∙ h) (struct-added s q)
entry-keeps names (Function f) q h = weaken (HeadAdded f q) (λ r. r.names ≡ names) (with_entry (Function f) q) (λ r k. k.names ∙ h) (head-added f q)

names-kept : (entries : List Entry) (names : List Name) (p : Program) → in_turn with_entry entries (no_entries names) ≡ Ok p → p.names ≡ names
names-kept entries names p is =
    ok-at (λ (q : Program). q.names ≡ names) (in_turn with_entry entries (no_entries names)) p is
    (turn-keeps with_entry (λ q. q.names ≡ names) (entry-keeps names) entries (no_entries names) refl)

program-resolves : (entries : List Entry) (p : Program) (fs : List TypedFunction) → in_turn with_entry entries (no_entries (struct_names entries [])) ≡ Ok p
    → in_turn (with_body p) entries [] ≡ Ok fs → EntriesResolve (program_of p fs) entries (map struct_info p.structs) fs
program-resolves entries p fs heads here =
    let all = struct_names entries [] in
    let keys : struct_names entries [] ≡ keys_of p.structs =
    ok-at (λ (q : Program). struct_names entries [] ≡ keys_of q.structs) (in_turn with_entry entries (no_entries (struct_names entries []))) p heads
    (entries-names entries (no_entries (struct_names entries []))) in
    let kept = names-kept entries (struct_names entries []) p heads in
    let names = kept ∙ keys ∙ sym (names-of-structs p.structs) in
    let shown = shown-all p entries (no_entries all) p [] fs (record { names = sym kept; views = refl }) heads here in
    let functions = names-of-functions fs ∙ ap (map view_name) shown.views ∙ names-of-heads p.functions in
    let go = entries-go p fs names functions entries (no_entries all) p [] fs (sym kept) heads here in
    subst (λ (l : List TypedFunction). EntriesResolve (program_of p fs) entries (map struct_info p.structs) l) (sym go.is_functions)
    (subst (λ (l : List (Name × Fields)). EntriesResolve (program_of p fs) entries (map struct_info l) go.others) (sym go.is_structs) go.agrees)

mapped-ok : {A B : Type 0} (make : A → B) (r : Result A Fault) (y : B) → result_map make r ≡ Ok y → (x : A) × (r ≡ Ok x) × (make x ≡ y)
mapped-ok make (Ok x) y h = (x, refl, same-ok (make x) y h)
mapped-ok make (Err f) y h = cc

-- each name of an answered program has its number
pub answered-resolves : (tree : Tree) (program : Typed) → checked tree ≡ Ok program → Resolves tree program
unfolding checked heads
answered-resolves tree program is =
    let a = after-ok (bodies tree.entries) (heads tree.entries) program is in
    let b = mapped-ok (program_of a.0) (in_turn (with_body a.0) tree.entries []) program a.2 in
    subst (Resolves tree) b.2 (program-resolves tree.entries a.0 b.0 a.1 b.1)
