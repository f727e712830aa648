-- The first fault of an expression, and its type where it has none.
use Rattle.std.proofs.Common.{◌≡◌, ℕ, Bool, true, false, Option, Some, None, Result, Ok, List, [], ◌∷◌, ◌++◌, position}
use Rattle.std.proofs.Common.{slice_get, refl, sym, subst, ap, ◌∙◌, append_assoc, append-nil, cond, if◌then◌else◌}
use Rattle.std.specs.Prelude.{is_some}
use Rattle.std.specs.Map.{lookup}
use Rattle.std.specs.Option.{option_map, option_and_then, option_flatten}
use Rattle.std.specs.Str.{bytes_eq}
use Rattle.ceal_base.specs.Faults.{one, faults_of_each}
use Rattle.ceal_base.specs.declared.fault.Fault.{Fault}
use Rattle.ceal_base.specs.declared.fault.FaultCode.{FaultCode}
use Rattle.ceal_base.specs.declared.fault.FaultCode.TheVariants.{N1, T1, T3}
use Rattle.ceal_base.specs.declared.fault.Span.{Span}
use Rattle.ceal_base.specs.declared.kind.Kind.TheVariants.{Int, Ptr}
use Rattle.ceal_base.specs.declared.operators.Binary.{Binary as BinaryOp}
use Rattle.ceal_base.specs.declared.operators.Binary.TheVariants.{Add, Sub, Mul, Div, Rem, Less, LessEq, More, MoreEq, Same, Differ, And, Or, Pick}
use Rattle.ceal_base.specs.declared.syntax.Expr.{Expr}
use Rattle.ceal_base.specs.declared.syntax.ExprForm.{ExprForm, Num, Null, Var, Own, Unary', Binary', Field', Address', Pick'}
use Rattle.ceal_base.specs.declared.syntax.ExprForm.TheBlock.{Row_of-Expr, end_of-Expr, more_of-Expr}
use Rattle.ceal_base.specs.declared.syntax.FunctionDecl.{FunctionDecl}
use Rattle.ceal_base.specs.declared.syntax.Ident.{Ident}
use Rattle.ceal_base.specs.declared.typed.TypedExpr.{TypedExpr}
use Rattle.ceal_types.specs.Expressions.{Scope, typed_form, typed_operand, typed_expr, typed_exprs, with_expr}
use Rattle.ceal_types.specs.Expressions.{condition, variable_at, own_at, int_asked, unary_at, unary_of, binary_at}
use Rattle.ceal_types.specs.Expressions.{binary_of, comparison, int_operation, no_pick, field_of, field_at, address_of}
use Rattle.ceal_types.specs.Expressions.{address_at, pick_of, pick_at, no_address, member}
use Rattle.ceal_types.specs.Faults.{one_unless, misfit, mismatch, operation_faults, arrow_faults, use_faults}
use Rattle.ceal_types.specs.Faults.{address_faults, element_faults, form_faults, operand_faults, expr_faults}
use Rattle.ceal_types.specs.Faults.{condition_faults}
use Rattle.ceal_types.specs.Kinds.{suits, comparable}
use Rattle.ceal_types.specs.Known.{Known, TypingContext, pointer_type, member_known, operation_type, value_type, place_type, operand_span, form_type, operand_type, type_of}
use Rattle.ceal_types.specs.Tables.{Name, has}
use Rattle.ceal_types.specs.Walk.{fault, after, both, in_turn, at_end}
use Rattle.ceal_types.specs.declared.program.Program.{Program}
use Rattle.ceal_types.specs.declared.program.Variable.{Variable}
use Rattle.ceal_types.proofs.FirstFault.MembersTell.{TypedAs, Shown, MemberAs, misfit-tells, misfit-first, member-tells, field-tells, address-tells, pick-tells}
use Rattle.ceal_types.proofs.FirstFault.WalkTells.{Tells, after-tells, both-tells, mapped-tells, unless-tells, tells-weaker, as-list, right-three, right-five}

abbrev pub type_of_variable : Variable → Known
type_of_variable v = Some (Some v.kind)

-- the variables in scope with their types
abbrev pub known_variables : Scope → List (Name × Known)
known_variables [] = []
known_variables (e ∷ es) = (e.0, type_of_variable e.1) ∷ known_variables es

pub variables-added : (scope : Scope) (name : Name) (v : Variable) → known_variables (scope ++ (name, v) ∷ []) ≡ known_variables scope ++ (name, type_of_variable v) ∷ []
variables-added [] name v = refl
variables-added (e ∷ es) name v = ap (λ (l : List (Name × Known)). (e.0, type_of_variable e.1) ∷ l) (variables-added es name v)

pub lookup-known : (test : Name → Bool) (scope : Scope) → lookup test (known_variables scope) ≡ option_map type_of_variable (lookup test scope)
lookup-known test [] = refl
lookup-known test (e ∷ es) = by (test e.0) (lookup-known test es)
  where
    by : (b : Bool) → lookup test (known_variables es) ≡ option_map type_of_variable (lookup test es)
        → cond b (Some (type_of_variable e.1)) (lookup test (known_variables es)) ≡ option_map type_of_variable (cond b (Some e.1) (lookup test es))
    by true h = refl
    by false h = h

pub has-known : (scope : Scope) (name : Name) → has (known_variables scope) name ≡ has scope name
has-known scope name = ap is_some (lookup-known (bytes_eq name) scope) ∙ by (lookup (bytes_eq name) scope)
  where
    by : (o : Option Variable) → is_some (option_map type_of_variable o) ≡ is_some o
    by None = refl
    by (Some v) = refl

-- the struct of `self` is the one that an initialiser names
abbrev pub OwnAs : List Name → Option Ident → Option ℕ → Type 0
OwnAs names None own = own ≡ None
OwnAs names (Some name) own = (s : ℕ) × (own ≡ Some s) × (position (bytes_eq name.text) names ≡ Some s)

variable-tells : (at : Span) (name : Ident) (o : Option Variable) (l : Option Known) → l ≡ option_map type_of_variable o
    → Tells (TypedAs at (option_flatten l)) (one_unless (is_some l) N1 name.span) (variable_at at name o)
variable-tells at name None l e = rw e refl
variable-tells at name (Some v) l e = rw e (refl, (refl, refl))

own-tells : (names : List Name) (at : Span) (init : Option Ident) (own : Option ℕ) → OwnAs names init own
    → Tells (TypedAs at (option_and_then (pointer_type Ptr names) init)) (one_unless (is_some init) N1 at) (own_at at own)
own-tells names at None own h = rw h refl
own-tells names at (Some name) own h = rw (h.1, h.2) (refl, (refl, refl))

-- ---- operators
-- a fault at the same place
pub same-place : (code : FaultCode) (a b : Span) → a ≡ b → slice_get (one code b) 0 ≡ slice_get (one code a) 0
same-place code a b h = ap (λ (s : Span). slice_get (one code s) 0) (sym h)

compared-tells : (at : Span) (op : BinaryOp) (sign : Span) (left right : Known) (la ra : Span) (y z : TypedExpr) → TypedAs la left y → TypedAs ra right z
    → Tells (TypedAs at (Some (Some Int))) (mismatch left right sign) (comparison at op sign y z)
compared-tells at op sign left right la ra y z h k =
    rw (h.1, k.1) (unless-tells (TypedAs at (Some (Some Int))) (comparable y.kind z.kind) T1 sign (binary_of at op sign y z) (λ b. (refl, refl)))

computed-tells : (at : Span) (op : BinaryOp) (sign : Span) (left right : Known) (la ra : Span) (y z : TypedExpr) → TypedAs la left y → TypedAs ra right z
    → Tells (TypedAs at (Some (Some Int))) (misfit (Some Int) left la ++ misfit (Some Int) right ra) (int_operation at op sign y z)
computed-tells at op sign left right la ra y z h k =
    let P = TypedAs at (Some (Some Int)) in
    misfit-first P Int left la y (misfit (Some Int) right ra) (if suits Int z.kind then Ok (binary_of at op sign y z) else fault T1 z.span) h
    (misfit-tells P Int right ra z (binary_of at op sign y z) k (refl, refl))

binary-tells : (at : Span) (op : BinaryOp) (sign : Span) (left right : Known) (la ra : Span) (y z : TypedExpr) → TypedAs la left y → TypedAs ra right z
    → Tells (TypedAs at (operation_type op)) (operation_faults op sign left la right ra) (binary_at at op sign y z)
binary-tells at Same sign left right la ra y z h k = compared-tells at Same sign left right la ra y z h k
binary-tells at Differ sign left right la ra y z h k = compared-tells at Differ sign left right la ra y z h k
binary-tells at Add sign left right la ra y z h k = computed-tells at Add sign left right la ra y z h k
binary-tells at Sub sign left right la ra y z h k = computed-tells at Sub sign left right la ra y z h k
binary-tells at Mul sign left right la ra y z h k = computed-tells at Mul sign left right la ra y z h k
binary-tells at Div sign left right la ra y z h k = computed-tells at Div sign left right la ra y z h k
binary-tells at Rem sign left right la ra y z h k = computed-tells at Rem sign left right la ra y z h k
binary-tells at Less sign left right la ra y z h k = computed-tells at Less sign left right la ra y z h k
binary-tells at LessEq sign left right la ra y z h k = computed-tells at LessEq sign left right la ra y z h k
binary-tells at More sign left right la ra y z h k = computed-tells at More sign left right la ra y z h k
binary-tells at MoreEq sign left right la ra y z h k = computed-tells at MoreEq sign left right la ra y z h k
binary-tells at And sign left right la ra y z h k = computed-tells at And sign left right la ra y z h k
binary-tells at Or sign left right la ra y z h k = computed-tells at Or sign left right la ra y z h k
binary-tells at (Pick row) sign left right la ra y z h k = same-place T3 y.span la h.0

-- `&` of what is no field access
no-address-tells : {n : _} (Q : TypedExpr → Type 0) (a : Row_of-Expr n) (type : Known) (fs : List Fault) (r : Result TypedExpr Fault) → Tells (TypedAs (operand_span a) type) fs r
    → Tells Q (fs ++ one T3 (operand_span a)) (after no_address r)
no-address-tells Q a type fs r t =
    after-tells (TypedAs (operand_span a) type) Q fs (one T3 (operand_span a)) no_address r t (λ y h. same-place T3 y.span (operand_span a) h.0)

no-pick-tells : {n m : _} (Q : TypedExpr → Type 0) (a : Row_of-Expr n) (i : Row_of-Expr m) (type index : Known) (fs gs : List Fault) (r s : Result TypedExpr Fault)
    → Tells (TypedAs (operand_span a) type) fs r → Tells (TypedAs (operand_span i) index) gs s → Tells Q (fs ++ gs ++ one T3 (operand_span a)) (both no_pick r s)
no-pick-tells Q a i type index fs gs r s t u =
    as-list Q (fs ++ (gs ++ one T3 (operand_span a))) (fs ++ gs ++ one T3 (operand_span a)) (both no_pick r s) (right-three fs gs (one T3 (operand_span a)))
    (both-tells (TypedAs (operand_span a) type) (TypedAs (operand_span i) index) Q fs gs (one T3 (operand_span a)) no_pick r s t u
    (λ y z h k. same-place T3 y.span (operand_span a) h.0))

module _ (p : Program) (functions : List (Name × FunctionDecl)) (init : Option Ident) (own : Option ℕ) (own-as : OwnAs p.names init own) (scope : Scope) where
  -- what an expression is in
  abbrev pub Here : TypingContext
  Here = record { declared = Shown p functions; initialiser = init; scope = known_variables scope }

  mutual
    unfolding typed_form form_faults form_type field_at address_at pick_at

    pub form-tells : (at : Span) (form : ExprForm) → Tells (TypedAs at (form_type Here form)) (form_faults Here at form) (typed_form p own scope at form)
    form-tells at (Num n) = (refl, (refl, refl))
    form-tells at Null = (refl, (refl, refl))
    form-tells at (Var name) =
        variable-tells at name (lookup (bytes_eq name.text) scope) (lookup (bytes_eq name.text) (known_variables scope)) (lookup-known (bytes_eq name.text) scope)
    form-tells at Own = own-tells p.names at init own own-as
    form-tells at (Unary' op _ a) =
        after-tells (TypedAs (operand_span a) (operand_type Here a)) (TypedAs at (Some (Some Int))) (operand_faults Here a) (misfit (Some Int) (operand_type Here a) (operand_span a))
        (unary_at at op) (typed_operand p own scope a) (operand-tells a)
        (λ y h. misfit-tells (TypedAs at (Some (Some Int))) Int (operand_type Here a) (operand_span a) y (unary_of at op y) h (refl, refl))
    form-tells at (Binary' op sign _ a _ b) =
        let fs = operand_faults Here a in
        let gs = operand_faults Here b in
        let hs = operation_faults op sign (operand_type Here a) (operand_span a) (operand_type Here b) (operand_span b) in
        let r = both (binary_at at op sign) (typed_operand p own scope a) (typed_operand p own scope b) in
        as-list (TypedAs at (operation_type op)) (fs ++ (gs ++ hs)) (fs ++ gs ++ hs) r (right-three fs gs hs)
        (both-tells (TypedAs (operand_span a) (operand_type Here a)) (TypedAs (operand_span b) (operand_type Here b)) (TypedAs at (operation_type op)) fs gs hs
        (binary_at at op sign) (typed_operand p own scope a) (typed_operand p own scope b) (operand-tells a) (operand-tells b)
        (λ y z h k. binary-tells at op sign (operand_type Here a) (operand_type Here b) (operand_span a) (operand_span b) y z h k))
    form-tells at (Field' _ a name) =
        let type = operand_type Here a in
        let found = member_known (Shown p functions) type name.text in
        let fs = operand_faults Here a in
        let gs = arrow_faults (Shown p functions) type (operand_span a) name in
        let hs = use_faults found name.span in
        let r = after (field_at p.structs at name) (typed_operand p own scope a) in
        as-list (TypedAs at (value_type found)) (fs ++ (gs ++ hs)) (fs ++ gs ++ hs) r (right-three fs gs hs)
        (after-tells (TypedAs (operand_span a) type) (TypedAs at (value_type found)) fs (gs ++ hs) (field_at p.structs at name) (typed_operand p own scope a) (operand-tells a)
        (λ y h. after-tells (MemberAs p functions type name.text) (TypedAs at (value_type found)) gs hs (field_of at name y) (member p.structs name y)
        (member-tells p functions (operand_span a) type name y h)
        (λ m k. field-tells p functions at name y m found k.0 k.1 k.2)))
    form-tells at (Address' _ (more_of-Expr span (Field' _ a name) rest)) =
        let type = operand_type Here a in
        let found = member_known (Shown p functions) type name.text in
        let fs = operand_faults Here a in
        let gs = arrow_faults (Shown p functions) type (operand_span a) name in
        let hs = address_faults found name.span in
        let r = after (address_at p.structs at name) (typed_operand p own scope a) in
        as-list (TypedAs at (place_type found)) (fs ++ (gs ++ hs)) (fs ++ gs ++ hs) r (right-three fs gs hs)
        (after-tells (TypedAs (operand_span a) type) (TypedAs at (place_type found)) fs (gs ++ hs) (address_at p.structs at name) (typed_operand p own scope a) (operand-tells a)
        (λ y h. after-tells (MemberAs p functions type name.text) (TypedAs at (place_type found)) gs hs (address_of at name y) (member p.structs name y)
        (member-tells p functions (operand_span a) type name y h)
        (λ m k. address-tells p functions at name y m found k.0 k.1 k.2 k.3)))
    form-tells at (Address' _ a) =
        no-address-tells (TypedAs at None) a (operand_type Here a) (operand_faults Here a) (typed_operand p own scope a) (operand-tells a)
    form-tells at (Pick' _ (more_of-Expr span (Field' _ a name) rest) _ i) =
        let type = operand_type Here a in
        let found = member_known (Shown p functions) type name.text in
        let index = operand_type Here i in
        let fs = operand_faults Here a in
        let gs = operand_faults Here i in
        let hs = arrow_faults (Shown p functions) type (operand_span a) name in
        let js = element_faults found name.span in
        let ks = misfit (Some Int) index (operand_span i) in
        let r = both (pick_at p.structs at name) (typed_operand p own scope a) (typed_operand p own scope i) in
        as-list (TypedAs at (place_type found)) (fs ++ (gs ++ (hs ++ (js ++ ks)))) (fs ++ gs ++ hs ++ js ++ ks) r (right-five fs gs hs js ks)
        (both-tells (TypedAs (operand_span a) type) (TypedAs (operand_span i) index) (TypedAs at (place_type found)) fs gs (hs ++ (js ++ ks)) (pick_at p.structs at name)
        (typed_operand p own scope a) (typed_operand p own scope i) (operand-tells a) (operand-tells i)
        (λ y z h w. after-tells (MemberAs p functions type name.text) (TypedAs at (place_type found)) hs (js ++ ks) (pick_of at name y z) (member p.structs name y)
        (member-tells p functions (operand_span a) type name y h)
        (λ m k. pick-tells p functions at (operand_span i) index name y z m found k.0 k.1 k.2 k.3 w)))
    form-tells at (Pick' _ a _ i) =
        no-pick-tells (TypedAs at None) a i (operand_type Here a) (operand_type Here i) (operand_faults Here a) (operand_faults Here i)
        (typed_operand p own scope a) (typed_operand p own scope i) (operand-tells a) (operand-tells i)

    operand-tells : {n : _} → (a : Row_of-Expr n) → Tells (TypedAs (operand_span a) (operand_type Here a)) (operand_faults Here a) (typed_operand p own scope a)
    operand-tells end_of-Expr = (refl, (refl, refl))
    operand-tells (more_of-Expr span form rest) = form-tells span form

  pub expr-tells : (e : Expr) → Tells (TypedAs e.span (type_of Here e)) (expr_faults Here e) (typed_expr p own scope e)
  expr-tells e = form-tells e.span e.form

  pub condition-tells : (e : Expr) → Tells (λ x. Unit {0}) (condition_faults Here e) (condition p own scope e)
  condition-tells e =
      after-tells (TypedAs e.span (type_of Here e)) (λ x. Unit {0}) (expr_faults Here e) (misfit (Some Int) (type_of Here e) e.span) int_asked (typed_expr p own scope e) (expr-tells e)
      (λ x h. misfit-tells (λ y. Unit {0}) Int (type_of Here e) e.span x x h tt)

  -- arguments, one by one
  abbrev pub ArgsTyped : List Expr → List TypedExpr → Type 0
  ArgsTyped [] [] = Unit {0}
  ArgsTyped (e ∷ es) (x ∷ xs) = TypedAs e.span (type_of Here e) x × ArgsTyped es xs
  ArgsTyped [] (x ∷ xs) = ⊥
  ArgsTyped (e ∷ es) [] = ⊥

  abbrev MoreTyped : List TypedExpr → List Expr → List TypedExpr → Type 0
  MoreTyped done es xs = (more : List TypedExpr) × (xs ≡ done ++ more) × ArgsTyped es more

  abbrev OneTyped : List TypedExpr → Expr → List TypedExpr → Type 0
  OneTyped done e xs = (x : TypedExpr) × (xs ≡ done ++ x ∷ []) × TypedAs e.span (type_of Here e) x

  more-tell : (es : List Expr) (done : List TypedExpr) → Tells (MoreTyped done es) (faults_of_each (expr_faults Here) es) (in_turn (with_expr p own scope) es done)
  unfolding in_turn faults_of_each
  more-tell [] done = (refl, ([], sym (append-nil done), tt))
  more-tell (e ∷ es) done =
      after-tells (OneTyped done e) (MoreTyped done (e ∷ es)) (expr_faults Here e) (faults_of_each (expr_faults Here) es) (in_turn (with_expr p own scope) es) (with_expr p own scope e done)
      (mapped-tells (TypedAs e.span (type_of Here e)) (OneTyped done e) (expr_faults Here e) (at_end done) (typed_expr p own scope e) (expr-tells e) (λ x h. (x, refl, h)))
      (λ xs k. tells-weaker (MoreTyped xs es) (MoreTyped done (e ∷ es)) (faults_of_each (expr_faults Here) es) (in_turn (with_expr p own scope) es xs) (more-tell es xs)
      (λ ys m. (k.0 ∷ m.0, m.1 ∙ ap (λ (l : List TypedExpr). l ++ m.0) k.1 ∙ append_assoc done (k.0 ∷ []) m.0, (k.2, m.2))))

  pub exprs-tell : (es : List Expr) → Tells (ArgsTyped es) (faults_of_each (expr_faults Here) es) (typed_exprs p own scope es)
  exprs-tell es =
      tells-weaker (MoreTyped [] es) (ArgsTyped es) (faults_of_each (expr_faults Here) es) (typed_exprs p own scope es) (more-tell es [])
      (λ xs m. subst (ArgsTyped es) (sym m.1) m.2)
