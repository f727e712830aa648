-- The first fault of a statement, and the variables in scope after it where it has none.
use Rattle.std.proofs.Common.{◌≡◌, ℕ, suc, arith, ◌==◌, Bool, true, false, Option, Some, None, Result, Ok, List, [], ◌∷◌, ◌++◌, map, length, position, refl, sym, subst, ap, ◌∙◌, cond, if◌then◌else◌}
use Rattle.std.specs.Prelude.{is_some}
use Rattle.std.specs.Map.{keys_of, lookup}
use Rattle.std.specs.Option.{option_map, option_flatten}
use Rattle.std.specs.Result.{result_ok}
use Rattle.std.specs.Str.{bytes_eq}
use Rattle.std.proofs.lemmas.Bool.{true≢false}
use Rattle.std.proofs.lemmas.Cmp.{nat_list_eq_equiv}
use Rattle.std.proofs.Math.Dec.{eqb-suc-suc}
use Rattle.ceal_base.specs.Faults.{one, faults_of_each}
use Rattle.ceal_base.specs.Kinds.{same_kind}
use Rattle.ceal_base.specs.WellTyped.{kind_held, plain_kind}
use Rattle.ceal_base.specs.declared.fault.Fault.{Fault}
use Rattle.ceal_base.specs.declared.fault.FaultCode.TheVariants.{N1, N2, T1, T2, T3}
use Rattle.ceal_base.specs.declared.fault.Span.{Span}
use Rattle.ceal_base.specs.declared.kind.FieldKind.{FieldKind}
use Rattle.ceal_base.specs.declared.kind.FieldKind.TheVariants.{Plain as PlainField, CellInt, CellPtr}
use Rattle.ceal_base.specs.declared.kind.Kind.{Kind}
use Rattle.ceal_base.specs.declared.kind.Kind.TheVariants.{Ptr, ModInt, ModPtr}
use Rattle.ceal_base.specs.declared.syntax.Expr.{Expr}
use Rattle.ceal_base.specs.declared.syntax.FieldDecl.{FieldDecl}
use Rattle.ceal_base.specs.declared.syntax.FunctionDecl.{FunctionDecl}
use Rattle.ceal_base.specs.declared.syntax.Ident.{Ident}
use Rattle.ceal_base.specs.declared.syntax.Stmt.{Stmt, Declare, Assign, SetField, Write, Call, If', While', Return, Break, Continue}
use Rattle.ceal_base.specs.declared.syntax.Stmt.{Row_of-Stmt, end_of-Stmt, more_of-Stmt}
use Rattle.ceal_base.specs.declared.syntax.TypeForm.{TypeForm}
use Rattle.ceal_base.specs.declared.syntax.TypeForm.TheVariants as forms
use Rattle.ceal_base.specs.declared.syntax.Value.{Value}
use Rattle.ceal_base.specs.declared.syntax.Value.TheVariants.{Plain, Read, Alloc, ModrefInt, Modref}
use Rattle.ceal_base.specs.declared.typed.FieldInfo.{FieldInfo}
use Rattle.ceal_base.specs.declared.typed.TypedExpr.{TypedExpr}
use Rattle.ceal_base.specs.declared.typed.TypedStmt.{TypedStmt}
use Rattle.ceal_base.specs.declared.typed.TypedStmt.{SetField as SetTyped, Write as WriteTyped}
use Rattle.ceal_base.specs.declared.typed.TypedValue.TheVariants.{Plain as PlainTyped, Read as ReadTyped, Alloc as AllocTyped, ModrefInt as ModrefIntTyped, Modref as ModrefTyped}
use Rattle.ceal_types.specs.Expressions.{Scope, typed_expr, typed_exprs, condition, member}
use Rattle.ceal_types.specs.Faults.{one_unless, one_if, struct_faults, type_faults, misfit, arrow_faults}
use Rattle.ceal_types.specs.Faults.{use_faults, expr_faults, condition_faults, argument_faults, call_faults}
use Rattle.ceal_types.specs.Faults.{alloc_faults, place_faults, held_kind, value_faults, with_declared, stmt_faults}
use Rattle.ceal_types.specs.Faults.{row_faults, stmts_faults, parameter_in_scope}
use Rattle.ceal_types.specs.Heads.{number_or_fault, struct_number, kind_of}
use Rattle.ceal_types.specs.Known.{Known, TypingContext, variable_type, pointer_type, member_known, type_of, type_of_field}
use Rattle.ceal_types.specs.Statements.{Step, Block, still, empty_block, block_end, inner_block, with_step, declaration}
use Rattle.ceal_types.specs.Statements.{declare, assignment, assign_if_found, assign, plain_kind as plain_or_fault}
use Rattle.ceal_types.specs.Statements.{set_suited, set_value, set_member, set_left, set_field, write_held, write_of}
use Rattle.ceal_types.specs.Statements.{write, call_of, call_checked, call_if_found, call, arguments_suit, call_by_own}
use Rattle.ceal_types.specs.Statements.{call_suits, alloc_by_own, alloc_suits, if_step, choose, branch, while_step}
use Rattle.ceal_types.specs.Statements.{loop, asked_for, plain_value, held_value, read_value, modref_value, block_value}
use Rattle.ceal_types.specs.Statements.{alloc_value, alloc_by, alloc_of, typed_value, typed_stmt, typed_row}
use Rattle.ceal_types.specs.Statements.{typed_stmts}
use Rattle.ceal_types.specs.Tables.{Name, has, find, both_some}
use Rattle.ceal_types.specs.Walk.{fault, after, result_map, in_turn}
use Rattle.ceal_types.specs.declared.program.Head.{Head}
use Rattle.ceal_types.specs.declared.program.Member.{Member}
use Rattle.ceal_types.specs.declared.program.Program.{Program}
use Rattle.ceal_types.specs.declared.program.Variable.{Variable}
use Rattle.ceal_types.specs.declared.program.Variables.{Variables}
use Rattle.ceal_types.proofs.FirstFault.ExpressionsTell.{OwnAs, Here, known_variables, type_of_variable}
use Rattle.ceal_types.proofs.FirstFault.ExpressionsTell.{variables-added, lookup-known, has-known, same-place}
use Rattle.ceal_types.proofs.FirstFault.ExpressionsTell.{ArgsTyped, expr-tells, exprs-tell, condition-tells}
use Rattle.ceal_types.proofs.FirstFault.MembersTell.{TypedAs, Shown, MemberAs, misfit-tells, misfit-first, member-tells}
use Rattle.ceal_types.proofs.FirstFault.WalkTells.{Tells, after-tells, both-tells, mapped-tells, unless-tells}
use Rattle.ceal_types.proofs.FirstFault.WalkTells.{unless-first, where-first, either-way, tells-weaker, tells-itself}
use Rattle.ceal_types.proofs.FirstFault.WalkTells.{as-list, right-three, right-four, right-five}
use Rattle.ceal_types.proofs.NameNumbers.NumberOfName.{hit, miss, has-number, any-position}
use Rattle.ceal_types.proofs.Resolution.NumbersOfNames.{some-same}
use Rattle.ceal_types.proofs.Walks.LongerList.{Grows, grows-same, grows-more, grows-on, grows-take}

-- ---- structs and types
pub struct-tells : (names : List Name) (name : Ident) → Tells (λ s. position (bytes_eq name.text) names ≡ Some s) (struct_faults names name) (struct_number names name)
struct-tells names name =
    as-list (λ s. position (bytes_eq name.text) names ≡ Some s) (one_unless (is_some (position (bytes_eq name.text) names)) N1 name.span) (struct_faults names name)
    (struct_number names name) (ap (λ (b : Bool). one_unless b N1 name.span) (sym (any-position (bytes_eq name.text) names))) (by (position (bytes_eq name.text) names) refl)
  where
    by : (o : Option ℕ) → position (bytes_eq name.text) names ≡ o
        → Tells (λ s. position (bytes_eq name.text) names ≡ Some s) (one_unless (is_some o) N1 name.span) (number_or_fault name o)
    by None e = refl
    by (Some s) e = (refl, e)

-- whatever it is
abbrev pub Any : {A : Type 0} → A → Type 0
Any x = Unit {0}

pub pointer-tells : {K : Type 0} (names : List Name) (make : ℕ → K) (name : Ident) → Tells Any (struct_faults names name) (result_map make (struct_number names name))
pointer-tells names make name =
    mapped-tells (λ s. position (bytes_eq name.text) names ≡ Some s) Any (struct_faults names name) make (struct_number names name) (struct-tells names name) (λ s h. tt)

form-any : (names : List Name) (form : TypeForm) → Tells Any (type_faults names form) (kind_of names form)
form-any names forms.Int = (refl, tt)
form-any names (forms.Ptr name) = pointer-tells names Ptr name
form-any names forms.ModInt = (refl, tt)
form-any names (forms.ModPtr name) = pointer-tells names ModPtr name
form-any names forms.CellInt = (refl, tt)
form-any names (forms.CellPtr name) = pointer-tells names ModPtr name
form-any names (forms.CellRow row) = (refl, tt)
form-any names (forms.CellPtrRow name row) = pointer-tells names ModPtr name

-- the type of a variable is known where its struct is there
pub form-tells : (names : List Name) (form : TypeForm) → Tells (λ kind. variable_type names form ≡ Some (Some kind)) (type_faults names form) (kind_of names form)
form-tells names form =
    tells-weaker (λ kind. Any kind × (kind_of names form ≡ Ok kind)) (λ kind. variable_type names form ≡ Some (Some kind)) (type_faults names form) (kind_of names form)
    (tells-itself Any (type_faults names form) (kind_of names form) (form-any names form))
    (λ kind h. ap (λ (r : Result Kind Fault). option_map Some (result_ok r)) h.1)

-- the type of a pointer to a struct that is there
pointer-known : (make : ℕ → Kind) (names : List Name) (name : Ident) (s : ℕ) → position (bytes_eq name.text) names ≡ Some s → pointer_type make names name ≡ Some (Some (make s))
pointer-known make names name s h = ap (option_map (λ (n : ℕ). Some (make n))) h

-- two names of structs have one number exactly when they are the same
module _ (a b : Name) where
  suc-of : (o : Option ℕ) (n : ℕ) → option_map suc o ≡ Some n → (k : ℕ) × (o ≡ Some k) × (n ≡ suc k)
  suc-of None n h = cc
  suc-of (Some k) n h = (k, refl, sym (some-same (suc k) n h))

  zero-only : (o : Option ℕ) (n : ℕ) → o ≡ Some 0 → o ≡ Some n → n ≡ 0
  zero-only o n h k = sym (some-same 0 n (sym h ∙ k))

  left-here : (n : Name) → bytes_eq a n ≡ true → bytes_eq a b ≡ bytes_eq b n
  left-here n h = nat_list_eq_equiv.congr a n b h ∙ nat_list_eq_equiv.symm n b

  right-here : (n : Name) → bytes_eq b n ≡ true → bytes_eq a b ≡ bytes_eq a n
  right-here n h = nat_list_eq_equiv.symm a b ∙ nat_list_eq_equiv.congr b n a h ∙ nat_list_eq_equiv.symm n a

  pub same-number : (names : List Name) (s t : ℕ) → position (bytes_eq a) names ≡ Some s → position (bytes_eq b) names ≡ Some t → (s == t) ≡ bytes_eq a b
  same-number [] s t h k = cc
  same-number (n ∷ ns) s t h k = by (λ i j. same-number ns i j) (bytes_eq a n) (bytes_eq b n) refl refl
    where
      by : ((i j : ℕ) → position (bytes_eq a) ns ≡ Some i → position (bytes_eq b) ns ≡ Some j → (i == j) ≡ bytes_eq a b) → (x y : Bool) → bytes_eq a n ≡ x → bytes_eq b n ≡ y → (s == t) ≡ bytes_eq a b
      by again true true e f =
          let i : s ≡ 0 = zero-only (position (bytes_eq a) (n ∷ ns)) s (hit (bytes_eq a) n ns e) h in
          let j : t ≡ 0 = zero-only (position (bytes_eq b) (n ∷ ns)) t (hit (bytes_eq b) n ns f) k in
          let l : (s == t) ≡ true = grind (arith, i, j) in
          l ∙ sym (left-here n e ∙ f)
      by again true false e f =
          let i : s ≡ 0 = zero-only (position (bytes_eq a) (n ∷ ns)) s (hit (bytes_eq a) n ns e) h in
          let j = suc-of (position (bytes_eq b) ns) t (sym (miss (bytes_eq b) n ns f) ∙ k) in
          let l : (s == t) ≡ false = grind (arith, i, j.2) in
          l ∙ sym (left-here n e ∙ f)
      by again false true e f =
          let i = suc-of (position (bytes_eq a) ns) s (sym (miss (bytes_eq a) n ns e) ∙ h) in
          let j : t ≡ 0 = zero-only (position (bytes_eq b) (n ∷ ns)) t (hit (bytes_eq b) n ns f) k in
          let l : (s == t) ≡ false = grind (arith, i.2, j) in
          l ∙ sym (right-here n f ∙ e)
      by again false false e f =
          let i = suc-of (position (bytes_eq a) ns) s (sym (miss (bytes_eq a) n ns e) ∙ h) in
          let j = suc-of (position (bytes_eq b) ns) t (sym (miss (bytes_eq b) n ns f) ∙ k) in
          (λ l. i.2 l == j.2 l) ∙ eqb-suc-suc i.0 j.0 ∙ again i.0 j.0 i.1 j.1

-- ---- functions
-- the kinds of parameters are those of their types
abbrev pub KindsKnown : List Name → List FieldDecl → List Kind → Type 0
KindsKnown names [] [] = Unit {0}
KindsKnown names (d ∷ ds) (kind ∷ kinds) = (variable_type names d.form ≡ Some (Some kind)) × KindsKnown names ds kinds
KindsKnown names [] (kind ∷ kinds) = ⊥
KindsKnown names (d ∷ ds) [] = ⊥

-- a head is that of the function
pub record HeadKnown (names : List Name) (f : FunctionDecl) (h : Head) : Type 0 where
  pub own : OwnAs names f.initialiser h.own
  pub kinds : KindsKnown names f.params h.parameters.kinds
  pub scope : known_variables h.parameters.scope ≡ map (parameter_in_scope names) f.params

abbrev pub HeadsKnown : List Name → List (Name × Head) → List (Name × FunctionDecl) → Type 0
HeadsKnown names [] [] = Unit {0}
HeadsKnown names (h ∷ hs) (f ∷ fs) = (h.0 ≡ f.0) × HeadKnown names f.1 h.1 × HeadsKnown names hs fs
HeadsKnown names [] (f ∷ fs) = ⊥
HeadsKnown names (h ∷ hs) [] = ⊥

abbrev LookupAs : List Name → Option Head → Option FunctionDecl → Type 0
LookupAs names None None = Unit {0}
LookupAs names (Some h) (Some f) = HeadKnown names f h
LookupAs names None (Some f) = ⊥
LookupAs names (Some h) None = ⊥

abbrev FoundAs : List Name → Option (ℕ × Head) → Option FunctionDecl → Type 0
FoundAs names None None = Unit {0}
FoundAs names (Some h) (Some f) = HeadKnown names f h.1
FoundAs names None (Some f) = ⊥
FoundAs names (Some h) None = ⊥

lookup-heads : (names : List Name) (test : Name → Bool) (hs : List (Name × Head)) (fs : List (Name × FunctionDecl)) → HeadsKnown names hs fs
    → LookupAs names (lookup test hs) (lookup test fs)
lookup-heads names test [] [] k = tt
lookup-heads names test [] (f ∷ fs) k = absurd k
lookup-heads names test (h ∷ hs) [] k = absurd k
lookup-heads names test (h ∷ hs) (f ∷ fs) k = by (test h.0) (test f.0) (ap test k.0) (lookup-heads names test hs fs k.2)
  where
    by : (a b : Bool) → a ≡ b → LookupAs names (lookup test hs) (lookup test fs)
        → LookupAs names (cond a (Some h.1) (lookup test hs)) (cond b (Some f.1) (lookup test fs))
    by true true e l = k.1
    by false false e l = l
    by true false e l = absurd (true≢false e)
    by false true e l = absurd (true≢false (sym e))

-- a name is that of a head exactly when it is that of a function
pub has-heads : (names : List Name) (name : Name) (hs : List (Name × Head)) (fs : List (Name × FunctionDecl)) → HeadsKnown names hs fs → has hs name ≡ has fs name
has-heads names name hs fs k = by (lookup (bytes_eq name) hs) (lookup (bytes_eq name) fs) (lookup-heads names (bytes_eq name) hs fs k)
  where
    by : (v : Option Head) (f : Option FunctionDecl) → LookupAs names v f → is_some v ≡ is_some f
    by None None l = refl
    by None (Some f) l = absurd l
    by (Some h) None l = absurd l
    by (Some h) (Some f) l = refl

found-heads : (names : List Name) (name : Name) (hs : List (Name × Head)) (fs : List (Name × FunctionDecl)) → HeadsKnown names hs fs
    → FoundAs names (find hs name) (lookup (bytes_eq name) fs)
unfolding find
found-heads names name hs fs k =
    by (position (bytes_eq name) (keys_of hs)) (lookup (bytes_eq name) hs) (lookup (bytes_eq name) fs) (has-number hs name) (lookup-heads names (bytes_eq name) hs fs k)
  where
    by : (n : Option ℕ) (v : Option Head) (f : Option FunctionDecl) → is_some v ≡ is_some n → LookupAs names v f → FoundAs names (both_some n v) f
    by None None None e l = tt
    by None None (Some f) e l = absurd l
    by (Some n) None None e l = tt
    by (Some n) None (Some f) e l = absurd l
    by None (Some h) f e l = absurd (true≢false e)
    by (Some n) (Some h) None e l = absurd l
    by (Some n) (Some h) (Some f) e l = l

kinds-length : (names : List Name) (ds : List FieldDecl) (kinds : List Kind) → KindsKnown names ds kinds → length kinds ≡ length ds
kinds-length names [] [] k = refl
kinds-length names [] (kind ∷ kinds) k = absurd k
kinds-length names (d ∷ ds) [] k = absurd k
kinds-length names (d ∷ ds) (kind ∷ kinds) k = ap suc (kinds-length names ds kinds k.1)

-- a value of the kind that is asked
asked-tells : {A : Type 0} (asked given : Kind) (type : Known) (at : Span) (x : A) → type ≡ Some (Some given) → Tells Any (misfit (Some asked) type at) (asked_for asked given at x)
asked-tells asked given type at x h = rw h (unless-tells Any (same_kind asked given) T1 at x (λ b. tt))

module _ (p : Program) (functions : List (Name × FunctionDecl)) (heads : HeadsKnown p.names p.functions functions) (init : Option Ident) (own : Option ℕ) (own-as : OwnAs p.names init own) where
  -- what a statement is in
  abbrev At : Scope → TypingContext
  At scope = Here p functions init own own-as scope

  module _ (scope : Scope) where
    abbrev Args : List Expr → List TypedExpr → Type 0
    Args es xs = ArgsTyped p functions init own own-as scope es xs

    args-length : (es : List Expr) (xs : List TypedExpr) → Args es xs → length xs ≡ length es
    args-length [] [] a = refl
    args-length [] (x ∷ xs) a = absurd a
    args-length (e ∷ es) [] a = absurd a
    args-length (e ∷ es) (x ∷ xs) a = ap suc (args-length es xs a.1)

    suit-tells : (ds : List FieldDecl) (kinds : List Kind) (es : List Expr) (xs : List TypedExpr) → KindsKnown p.names ds kinds → Args es xs
        → Tells Any (argument_faults (At scope) ds es) (arguments_suit kinds xs)
    suit-tells [] [] es xs k a = (refl, tt)
    suit-tells [] (kind ∷ kinds) es xs k a = absurd k
    suit-tells (d ∷ ds) [] es xs k a = absurd k
    suit-tells (d ∷ ds) (kind ∷ kinds) [] [] k a = (refl, tt)
    suit-tells (d ∷ ds) (kind ∷ kinds) [] (x ∷ xs) k a = absurd a
    suit-tells (d ∷ ds) (kind ∷ kinds) (e ∷ es) [] k a = absurd a
    suit-tells (d ∷ ds) (kind ∷ kinds) (e ∷ es) (x ∷ xs) k a =
        let rest = argument_faults (At scope) ds es in
        let type = type_of (At scope) e in
        as-list Any (misfit (Some kind) type e.span ++ rest) (argument_faults (At scope) (d ∷ ds) (e ∷ es)) (arguments_suit (kind ∷ kinds) (x ∷ xs))
        (ap (λ (o : Known). misfit (option_flatten o) type e.span ++ rest) (sym k.0))
        (misfit-first Any kind type e.span x rest (arguments_suit kinds xs) a.0 (suit-tells ds kinds es xs k.1 a.1))

    call-tells : (name : Ident) (args : List Expr) (f : FunctionDecl) (h : Head) (xs : List TypedExpr) → HeadKnown p.names f h → Args args xs
        → Tells Any (call_faults (At scope) name args (Some f)) (call_suits name h xs)
    call-tells name args f h xs k a = by f.initialiser h.own k.own
      where
        by : (o : Option Ident) (s : Option ℕ) → OwnAs p.names o s
            → Tells Any (elim o [ None ↦ if length args == length f.params then argument_faults (At scope) f.params args else one T2 name.span | Some i ↦ [] ])
            (call_by_own s h.parameters.kinds name xs)
        by None s e =
            rw (e, args-length args xs a, kinds-length p.names f.params h.parameters.kinds k.kinds)
            (either-way Any (length args == length f.params) (argument_faults (At scope) f.params args) (one T2 name.span) (arguments_suit h.parameters.kinds xs) (fault T2 name.span)
            (suit-tells f.params h.parameters.kinds args xs k.kinds a) refl)
        by (Some i) s e = rw e.1 (refl, tt)

    alloc-suits : (structure name : Ident) (args : List Expr) (shape : ℕ) → position (bytes_eq structure.text) p.names ≡ Some shape → (f : FunctionDecl) (h : Head) (xs : List TypedExpr)
        → HeadKnown p.names f h → Args args xs → Tells Any (alloc_faults (At scope) structure name args (Some f)) (alloc_suits structure name shape h xs)
    alloc-suits structure name args shape there f h xs k a = by f.initialiser h.own k.own
      where
        by : (o : Option Ident) (s : Option ℕ) → OwnAs p.names o s
            → Tells Any (elim o [
              | None ↦ []
              | Some i ↦
                  if length args == length f.params
                  then one_unless (bytes_eq i.text structure.text) T1 structure.span ++ argument_faults (At scope) f.params args
                  else one T2 name.span
            ]) (alloc_by_own s h.parameters.kinds structure name shape xs)
        by None s e = rw e (refl, tt)
        by (Some i) s e =
            rw (e.1, args-length args xs a, kinds-length p.names f.params h.parameters.kinds k.kinds, same-number i.text structure.text p.names e.0 shape e.2 there)
            (either-way Any (length args == length f.params) (one_unless (bytes_eq i.text structure.text) T1 structure.span ++ argument_faults (At scope) f.params args) (one T2 name.span)
            (if bytes_eq i.text structure.text then arguments_suit h.parameters.kinds xs else fault T1 structure.span) (fault T2 name.span)
            (unless-first Any (bytes_eq i.text structure.text) T1 structure.span (argument_faults (At scope) f.params args) (arguments_suit h.parameters.kinds xs)
            (λ b. suit-tells f.params h.parameters.kinds args xs k.kinds a)) refl)

    -- ---- values
    held-tells : (asked : Kind) (at to : Span) (x : TypedExpr) → x.span ≡ to → (o : Option Kind)
        → Tells Any (one_unless (is_some o) T3 to ++ misfit (Some asked) (option_map Some o) at) (held_value asked at x o)
    held-tells asked at to x h None = same-place T3 x.span to h
    held-tells asked at to x h (Some kind) = unless-tells Any (same_kind asked kind) T1 at (ReadTyped at x) (λ b. tt)

    alloc-tells : (asked : Kind) (at : Span) (structure name : Ident) (args : List Expr) (s : ℕ) → position (bytes_eq structure.text) p.names ≡ Some s
        → (o : Option (ℕ × Head)) (f : Option FunctionDecl) → FoundAs p.names o f
        → Tells Any (one_unless (is_some f) N1 name.span ++ (faults_of_each (expr_faults (At scope)) args ++ (alloc_faults (At scope) structure name args f
        ++ misfit (Some asked) (pointer_type Ptr p.names structure) at))) (alloc_by p own scope asked at structure name args s o)
    alloc-tells asked at structure name args s there None None k = refl
    alloc-tells asked at structure name args s there None (Some f) k = absurd k
    alloc-tells asked at structure name args s there (Some h) None k = absurd k
    alloc-tells asked at structure name args s there (Some h) (Some f) k =
        let fs = faults_of_each (expr_faults (At scope)) args in
        let gs = alloc_faults (At scope) structure name args (Some f) in
        let hs = misfit (Some asked) (pointer_type Ptr p.names structure) at in
        after-tells (Args args) Any fs (gs ++ hs) (alloc_value asked at structure name s h) (typed_exprs p own scope args) (exprs-tell p functions init own own-as scope args)
        (λ xs a. after-tells Any Any gs hs (block_value asked at name s h.0 xs) (alloc_suits structure name s h.1 xs) (alloc-suits structure name args s there f h.1 xs k a)
        (λ u w. asked-tells asked (Ptr s) (pointer_type Ptr p.names structure) at (AllocTyped at s h.0 name.span xs) (pointer-known Ptr p.names structure s there)))

    pub value-tells : (asked : Kind) (value : Value) → Tells Any (value_faults (At scope) (Some asked) value) (typed_value p own scope asked value)
    unfolding typed_value
    value-tells asked (Plain e) =
        let type = type_of (At scope) e in
        after-tells (TypedAs e.span type) Any (expr_faults (At scope) e) (misfit (Some asked) type e.span) (plain_value asked) (typed_expr p own scope e)
        (expr-tells p functions init own own-as scope e) (λ x h. misfit-tells Any asked type e.span x (PlainTyped x) h tt)
    value-tells asked (Read at e) =
        let type = type_of (At scope) e in
        let fs = expr_faults (At scope) e in
        let gs = place_faults type e.span in
        let hs = misfit (Some asked) (option_map Some (held_kind type)) at in
        as-list Any (fs ++ (gs ++ hs)) (fs ++ gs ++ hs) (after (read_value asked at) (typed_expr p own scope e)) (right-three fs gs hs)
        (after-tells (TypedAs e.span type) Any fs (gs ++ hs) (read_value asked at) (typed_expr p own scope e) (expr-tells p functions init own own-as scope e)
        (λ x h. as-list Any (one_unless (is_some (kind_held x.kind)) T3 e.span ++ misfit (Some asked) (option_map Some (kind_held x.kind)) at) (gs ++ hs) (read_value asked at x)
        (ap (λ (k : Known). place_faults k e.span ++ misfit (Some asked) (option_map Some (held_kind k)) at) (sym h.1))
        (held-tells asked at e.span x h.0 (kind_held x.kind))))
    value-tells asked (Alloc at structure name args) =
        let f = lookup (bytes_eq name.text) functions in
        let fs = struct_faults p.names structure in
        let gs = one_unless (is_some f) N1 name.span in
        let hs = faults_of_each (expr_faults (At scope)) args in
        let js = alloc_faults (At scope) structure name args f in
        let ks = misfit (Some asked) (pointer_type Ptr p.names structure) at in
        let r = after (alloc_of p own scope asked at structure name args) (struct_number p.names structure) in
        as-list Any (fs ++ (gs ++ (hs ++ (js ++ ks)))) (fs ++ gs ++ hs ++ js ++ ks) r (right-five fs gs hs js ks)
        (after-tells (λ s. position (bytes_eq structure.text) p.names ≡ Some s) Any fs (gs ++ (hs ++ (js ++ ks))) (alloc_of p own scope asked at structure name args)
        (struct_number p.names structure) (struct-tells p.names structure)
        (λ s h. alloc-tells asked at structure name args s h (find p.functions name.text) f (found-heads p.names name.text p.functions functions heads)))
    value-tells asked (ModrefInt at) = asked-tells asked ModInt (Some (Some ModInt)) at (ModrefIntTyped at) refl
    value-tells asked (Modref at structure) =
        let type = pointer_type ModPtr p.names structure in
        after-tells (λ s. position (bytes_eq structure.text) p.names ≡ Some s) Any (struct_faults p.names structure) (misfit (Some asked) type at) (modref_value asked at)
        (struct_number p.names structure) (struct-tells p.names structure)
        (λ s h. asked-tells asked (ModPtr s) type at (ModrefTyped at s) (pointer-known ModPtr p.names structure s h))

    -- ---- statements that declare nothing
    assigned-tells : (name : Ident) (value : Value) (o : Option Variable) (l : Option Known) → l ≡ option_map type_of_variable o
        → Tells Any (one_unless (is_some l) N1 name.span ++ value_faults (At scope) (option_flatten (option_flatten l)) value) (assign_if_found p own name value scope o)
    assigned-tells name value None l e = rw e refl
    assigned-tells name value (Some x) l e =
        rw e (mapped-tells Any Any (value_faults (At scope) (Some x.kind) value) (assignment name x.number) (typed_value p own scope x.kind value) (value-tells x.kind value) (λ y u. tt))

    set-kind : (at : Span) (name : Ident) (e : Expr) (y : TypedExpr) (m : Member) (found : Option FieldInfo) (i : FieldInfo) → found ≡ Some i → (kind : FieldKind) → i.kind ≡ kind
        → Tells Any (use_faults found name.span ++ (expr_faults (At scope) e ++ misfit (plain_kind (option_map type_of_field found)) (type_of (At scope) e) e.span))
        (after (set_value p own scope at e y m) (plain_or_fault name kind))
    set-kind at name e y m found i h (PlainField kind) k =
        rw (h, k) (after-tells (TypedAs e.span (type_of (At scope) e)) Any (expr_faults (At scope) e) (misfit (Some kind) (type_of (At scope) e) e.span) (set_suited at y m kind)
        (typed_expr p own scope e) (expr-tells p functions init own own-as scope e)
        (λ x t. misfit-tells Any kind (type_of (At scope) e) e.span x (SetTyped at y m.shape m.field x) t tt))
    set-kind at name e y m found i h CellInt k = rw (h, k) refl
    set-kind at name e y m found i h (CellPtr s) k = rw (h, k) refl

    set-tells : (at : Span) (left : Expr) (name : Ident) (e : Expr) → Tells Any (stmt_faults (At scope) (SetField at left name e)) (set_field p own scope at left name e)
    unfolding stmt_faults
    set-tells at left name e =
        let type = type_of (At scope) left in
        let found = member_known (Shown p functions) type name.text in
        let fs = expr_faults (At scope) left in
        let gs = arrow_faults (Shown p functions) type left.span name in
        let hs = use_faults found name.span in
        let js = expr_faults (At scope) e in
        let ks = misfit (plain_kind (option_map type_of_field found)) (type_of (At scope) e) e.span in
        as-list Any (fs ++ (gs ++ (hs ++ (js ++ ks)))) (fs ++ gs ++ hs ++ js ++ ks) (set_field p own scope at left name e) (right-five fs gs hs js ks)
        (after-tells (TypedAs left.span type) Any fs (gs ++ (hs ++ (js ++ ks))) (set_left p own scope at name e) (typed_expr p own scope left) (expr-tells p functions init own own-as scope left)
        (λ y h. after-tells (MemberAs p functions type name.text) Any gs (hs ++ (js ++ ks)) (set_member p own scope at name e y) (member p.structs name y)
        (member-tells p functions left.span type name y h)
        (λ m k. set-kind at name e y m found k.0 k.1 m.kind k.2)))

    held-written : (at to : Span) (y x : TypedExpr) (type : Known) (end : Span) → y.span ≡ to → TypedAs end type x → (o : Option Kind)
        → Tells Any (one_unless (is_some o) T3 to ++ misfit o type end) (write_held at y x o)
    held-written at to y x type end h k None = same-place T3 y.span to h
    held-written at to y x type end h k (Some kind) = misfit-tells Any kind type end x (WriteTyped at y x) k tt

    write-tells : (at : Span) (place e : Expr) → Tells Any (stmt_faults (At scope) (Write at place e)) (write p own scope at place e)
    unfolding stmt_faults
    write-tells at place e =
        let type = type_of (At scope) place in
        let fs = expr_faults (At scope) place in
        let gs = expr_faults (At scope) e in
        let hs = place_faults type place.span in
        let js = misfit (held_kind type) (type_of (At scope) e) e.span in
        as-list Any (fs ++ (gs ++ (hs ++ js))) (fs ++ gs ++ hs ++ js) (write p own scope at place e) (right-four fs gs hs js)
        (both-tells (TypedAs place.span type) (TypedAs e.span (type_of (At scope) e)) Any fs gs (hs ++ js) (write_of at) (typed_expr p own scope place) (typed_expr p own scope e)
        (expr-tells p functions init own own-as scope place) (expr-tells p functions init own own-as scope e)
        (λ y x h k. as-list Any (one_unless (is_some (kind_held y.kind)) T3 place.span ++ misfit (kind_held y.kind) (type_of (At scope) e) e.span) (hs ++ js) (write_of at y x)
        (ap (λ (t : Known). place_faults t place.span ++ misfit (held_kind t) (type_of (At scope) e) e.span) (sym h.1))
        (held-written at place.span y x (type_of (At scope) e) e.span h.0 k (kind_held y.kind))))

    called-tells : (name : Ident) (args : List Expr) (o : Option (ℕ × Head)) (f : Option FunctionDecl) → FoundAs p.names o f
        → Tells Any (one_unless (is_some f) N1 name.span ++ (faults_of_each (expr_faults (At scope)) args ++ call_faults (At scope) name args f)) (call_if_found p own scope name args o)
    called-tells name args None None k = refl
    called-tells name args None (Some f) k = absurd k
    called-tells name args (Some h) None k = absurd k
    called-tells name args (Some h) (Some f) k =
        after-tells (Args args) Any (faults_of_each (expr_faults (At scope)) args) (call_faults (At scope) name args (Some f)) (call_checked name h) (typed_exprs p own scope args)
        (exprs-tell p functions init own own-as scope args)
        (λ xs a. mapped-tells Any Any (call_faults (At scope) name args (Some f)) (call_of name h.0 xs) (call_suits name h.1 xs) (call-tells name args f h.1 xs k a) (λ u w. tt))

    callee-tells : (name : Ident) (args : List Expr) → Tells Any (stmt_faults (At scope) (Call name args)) (call p own scope name args)
    unfolding stmt_faults
    callee-tells name args =
        let f = lookup (bytes_eq name.text) functions in
        let fs = one_unless (is_some f) N1 name.span in
        let gs = faults_of_each (expr_faults (At scope)) args in
        let hs = call_faults (At scope) name args f in
        as-list Any (fs ++ (gs ++ hs)) (fs ++ gs ++ hs) (call p own scope name args) (right-three fs gs hs)
        (called-tells name args (find p.functions name.text) f (found-heads p.names name.text p.functions functions heads))

  -- ---- statements, and what is in scope after them
  abbrev StepAs : Scope → Stmt → Step → Type 0
  StepAs scope s t = (known_variables t.variables.scope ≡ (with_declared (At scope) s).scope) × Grows scope t.variables.scope

  abbrev RowAs : Block → Block → Type 0
  RowAs b c = Grows b.variables.scope c.variables.scope

  abbrev BackTo : Scope → Block → Type 0
  BackTo scope b = b.variables.scope ≡ scope

  abbrev WithAs : Block → Stmt → Block → Type 0
  WithAs b s c = (known_variables c.variables.scope ≡ (with_declared (At b.variables.scope) s).scope) × Grows b.variables.scope c.variables.scope

  still-tells : (v : Variables) (s : Stmt) (fs : List Fault) (r : Result TypedStmt Fault) → known_variables v.scope ≡ (with_declared (At v.scope) s).scope → Tells Any fs r
      → Tells (StepAs v.scope s) fs (result_map (still v) r)
  still-tells v s fs r same h = mapped-tells Any (StepAs v.scope s) fs (still v) r h (λ t u. (same, grows-same v.scope))

  back : (v : Variables) (scope : Scope) → scope ≡ v.scope → (known_variables scope ≡ known_variables v.scope) × Grows v.scope scope
  back v scope is = (ap known_variables is, subst (λ (l : Scope). Grows v.scope l) (sym is) (grows-same v.scope))

  nested-tells : (v : Variables) {n : _} (row : Row_of-Stmt n) (fs : List Fault) → Tells (RowAs (empty_block v)) fs (typed_row p own row (empty_block v))
      → Tells (BackTo v.scope) fs (inner_block (typed_row p own row) v)
  nested-tells v row fs h =
      mapped-tells (RowAs (empty_block v)) (BackTo v.scope) fs (block_end (length v.scope)) (typed_row p own row (empty_block v)) h
      (λ b g. grows-take v.scope b.variables.scope g)

  declare-tells : (v : Variables) (at : Span) (form : TypeForm) (name : Ident) (value : Value) (kind : Kind) → variable_type p.names form ≡ Some (Some kind)
      → Tells (StepAs v.scope (Declare at form name value))
      (one_if (has (known_variables v.scope) name.text) N2 name.span ++ value_faults (At v.scope) (option_flatten (variable_type p.names form)) value)
      (declare p own at name value v kind)
  declare-tells v at form name value kind h =
      let P = StepAs v.scope (Declare at form name value) in
      let fs = value_faults (At v.scope) (Some kind) value in
      as-list P (one_if (has v.scope name.text) N2 name.span ++ fs)
      (one_if (has (known_variables v.scope) name.text) N2 name.span ++ value_faults (At v.scope) (option_flatten (variable_type p.names form)) value)
      (declare p own at name value v kind)
      (λ i. one_if (sym (has-known v.scope name.text) i) N2 name.span ++ value_faults (At v.scope) (option_flatten (sym h i)) value)
      (where-first P (has v.scope name.text) N2 name.span fs (result_map (declaration at name kind v) (typed_value p own v.scope kind value))
      (λ none. mapped-tells Any P fs (declaration at name kind v) (typed_value p own v.scope kind value) (value-tells v.scope kind value)
      (λ x u. (
        variables-added v.scope name.text (record { number = length v.kinds; kind = kind })
            ∙ ap (λ (t : Known). known_variables v.scope ++ (name.text, t) ∷ []) (sym h),
        grows-more v.scope v.scope _ (grows-same v.scope),
      ))))

  -- the context after a statement is that of the variables after it
  context-after : (scope after : Scope) (s : Stmt) → known_variables after ≡ (with_declared (At scope) s).scope → At after ≡ with_declared (At scope) s
  context-after scope after (Declare at form name value) h = λ i. record { declared = Shown p functions; initialiser = init; scope = h i }
  context-after scope after s h = λ i. record { declared = Shown p functions; initialiser = init; scope = h i }

  mutual
    unfolding typed_stmt stmt_faults

    stmt-tells : (s : Stmt) (v : Variables) → Tells (StepAs v.scope s) (stmt_faults (At v.scope) s) (typed_stmt p own s v)
    stmt-tells (Declare at form name value) v =
        let P = StepAs v.scope (Declare at form name value) in
        let fs = type_faults p.names form in
        let gs = one_if (has (known_variables v.scope) name.text) N2 name.span in
        let hs = value_faults (At v.scope) (option_flatten (variable_type p.names form)) value in
        as-list P (fs ++ (gs ++ hs)) (fs ++ gs ++ hs) (after (declare p own at name value v) (kind_of p.names form)) (right-three fs gs hs)
        (after-tells (λ kind. variable_type p.names form ≡ Some (Some kind)) P fs (gs ++ hs) (declare p own at name value v) (kind_of p.names form) (form-tells p.names form)
        (λ kind h. declare-tells v at form name value kind h))
    stmt-tells (Assign name value) v =
        still-tells v (Assign name value) (stmt_faults (At v.scope) (Assign name value)) (assign p own v.scope name value) refl
        (assigned-tells v.scope name value (lookup (bytes_eq name.text) v.scope) (lookup (bytes_eq name.text) (known_variables v.scope)) (lookup-known (bytes_eq name.text) v.scope))
    stmt-tells (SetField at left name e) v =
        still-tells v (SetField at left name e) (stmt_faults (At v.scope) (SetField at left name e)) (set_field p own v.scope at left name e) refl (set-tells v.scope at left name e)
    stmt-tells (Write at place e) v =
        still-tells v (Write at place e) (stmt_faults (At v.scope) (Write at place e)) (write p own v.scope at place e) refl (write-tells v.scope at place e)
    stmt-tells (Call name args) v =
        still-tells v (Call name args) (stmt_faults (At v.scope) (Call name args)) (call p own v.scope name args) refl (callee-tells v.scope name args)
    stmt-tells (If' at test _ first _ second) v =
        let P = StepAs v.scope (If' at test _ first _ second) in
        let fs = condition_faults (At v.scope) test in
        let gs = row_faults (At v.scope) first in
        let hs = row_faults (At v.scope) second in
        let one = inner_block (typed_row p own first) in
        let two = inner_block (typed_row p own second) in
        as-list P (fs ++ (gs ++ hs)) (fs ++ gs ++ hs) (after (branch at one two v) (condition p own v.scope test)) (right-three fs gs hs)
        (after-tells Any P fs (gs ++ hs) (branch at one two v) (condition p own v.scope test) (condition-tells p functions init own own-as v.scope test)
        (λ x u. after-tells (BackTo v.scope) P gs hs (choose at x two) (one v) (nested-tells v first gs (row-tells first (empty_block v)))
        (λ a k. mapped-tells (BackTo a.variables.scope) P hs (if_step at x a) (two a.variables)
        (as-list (BackTo a.variables.scope) (row_faults (At a.variables.scope) second) hs (two a.variables) (ap (λ (l : Scope). row_faults (At l) second) k)
        (nested-tells a.variables second (row_faults (At a.variables.scope) second) (row-tells second (empty_block a.variables))))
        (λ b l. back v b.variables.scope (l ∙ k)))))
    stmt-tells (While' at test _ body) v =
        let P = StepAs v.scope (While' at test _ body) in
        let fs = condition_faults (At v.scope) test in
        let gs = row_faults (At v.scope) body in
        let one = inner_block (typed_row p own body) in
        after-tells Any P fs gs (loop at one v) (condition p own v.scope test) (condition-tells p functions init own own-as v.scope test)
        (λ x u. mapped-tells (BackTo v.scope) P gs (while_step at x) (one v) (nested-tells v body gs (row-tells body (empty_block v)))
        (λ b k. back v b.variables.scope k))
    stmt-tells (Return at) v = (refl, (refl, grows-same v.scope))
    stmt-tells (Break at) v = (refl, (refl, grows-same v.scope))
    stmt-tells (Continue at) v = (refl, (refl, grows-same v.scope))

    row-tells : {n : _} → (row : Row_of-Stmt n) (b : Block) → Tells (RowAs b) (row_faults (At b.variables.scope) row) (typed_row p own row b)
    row-tells end_of-Stmt b = (refl, grows-same b.variables.scope)
    row-tells (more_of-Stmt s rest) b =
        let fs = stmt_faults (At b.variables.scope) s in
        let gs = row_faults (with_declared (At b.variables.scope) s) rest in
        after-tells (WithAs b s) (RowAs b) fs gs (typed_row p own rest) (result_map (with_step b) (typed_stmt p own s b.variables))
        (mapped-tells (StepAs b.variables.scope s) (WithAs b s) fs (with_step b) (typed_stmt p own s b.variables) (stmt-tells s b.variables) (λ t k. k))
        (λ c w. tells-weaker (RowAs c) (RowAs b) gs (typed_row p own rest c)
        (as-list (RowAs c) (row_faults (At c.variables.scope) rest) gs (typed_row p own rest c)
        (ap (λ (k : TypingContext). row_faults k rest) (context-after b.variables.scope c.variables.scope s w.0)) (row-tells rest c))
        (λ d g. grows-on b.variables.scope c.variables.scope d.variables.scope w.1 g))

  stmts-tell : (ss : List Stmt) (b : Block) → Tells (RowAs b) (stmts_faults (At b.variables.scope) ss) (typed_stmts p own ss b)
  unfolding in_turn stmts_faults
  stmts-tell [] b = (refl, grows-same b.variables.scope)
  stmts-tell (s ∷ ss) b =
      let fs = stmt_faults (At b.variables.scope) s in
      let gs = stmts_faults (with_declared (At b.variables.scope) s) ss in
      after-tells (WithAs b s) (RowAs b) fs gs (typed_stmts p own ss) (result_map (with_step b) (typed_stmt p own s b.variables))
      (mapped-tells (StepAs b.variables.scope s) (WithAs b s) fs (with_step b) (typed_stmt p own s b.variables) (stmt-tells s b.variables) (λ t k. k))
      (λ c w. tells-weaker (RowAs c) (RowAs b) gs (typed_stmts p own ss c)
      (as-list (RowAs c) (stmts_faults (At c.variables.scope) ss) gs (typed_stmts p own ss c)
      (ap (λ (k : TypingContext). stmts_faults k ss) (context-after b.variables.scope c.variables.scope s w.0)) (stmts-tell ss c))
      (λ d g. grows-on b.variables.scope c.variables.scope d.variables.scope w.1 g))

  pub body-tells : (ss : List Stmt) (v : Variables) → Tells Any (stmts_faults (At v.scope) ss) (inner_block (typed_stmts p own ss) v)
  body-tells ss v =
      mapped-tells (RowAs (empty_block v)) Any (stmts_faults (At v.scope) ss) (block_end (length v.scope)) (typed_stmts p own ss (empty_block v)) (stmts-tell ss (empty_block v)) (λ b g. tt)
