-- A value that the walk gives is well typed.
use Rattle.std.proofs.Common.{◌≡◌, ℕ, ◌<◌, ◌≤◌, arith, Bool, Option, Some, None, Result, Ok, List, [], ◌∷◌, All, map, position, slice_get, length, refl, sym, subst, ap, ◌∙◌, if◌then◌else◌}
use Rattle.std.specs.Prelude.{IfOk, IfSome, ◌==◌}
use Rattle.std.specs.Str.{bytes_eq}
use Rattle.std.proofs.lemmas.Bool.Decides.{Decides-eqb}
use Rattle.std.proofs.lemmas.List.Quantifiers.{position-Some}
use Rattle.ceal_base.specs.WellTyped.{KindKnown, ArgsSuit, CallSuits, AllocSuits, ValueTyped, kind_held, param_kinds}
use Rattle.ceal_base.specs.declared.fault.Fault.{Fault}
use Rattle.ceal_base.specs.declared.fault.FaultCode.TheVariants.{T1, T2}
use Rattle.ceal_base.specs.declared.fault.Span.{Span}
use Rattle.ceal_base.specs.declared.kind.Kind.{Kind}
use Rattle.ceal_base.specs.declared.kind.Kind.TheVariants.{Ptr, ModInt, ModPtr}
use Rattle.ceal_base.specs.declared.syntax.Expr.{Expr}
use Rattle.ceal_base.specs.declared.syntax.Ident.{Ident}
use Rattle.ceal_base.specs.declared.syntax.TypeForm.{TypeForm}
use Rattle.ceal_base.specs.declared.syntax.TypeForm.TheVariants as forms
use Rattle.ceal_base.specs.declared.syntax.Value.{Value}
use Rattle.ceal_base.specs.declared.syntax.Value.TheVariants.{Plain, Read, Alloc, ModrefInt, Modref}
use Rattle.ceal_base.specs.declared.typed.StructInfo.{StructInfo}
use Rattle.ceal_base.specs.declared.typed.TypedExpr.{TypedExpr}
use Rattle.ceal_base.specs.declared.typed.TypedFunction.{TypedFunction}
use Rattle.ceal_base.specs.declared.typed.TypedValue.{TypedValue}
use Rattle.ceal_base.specs.declared.typed.TypedValue.TheVariants.{Plain as PlainTyped, Read as ReadTyped, Alloc as AllocTyped, ModrefInt as ModrefIntTyped, Modref as ModrefTyped}
use Rattle.ceal_types.specs.Checked.{struct_info}
use Rattle.ceal_types.specs.Expressions.{Scope, typed_expr, typed_exprs}
use Rattle.ceal_types.specs.Heads.{number_or_fault, struct_number, kind_of}
use Rattle.ceal_base.specs.Kinds.{same_kind}
use Rattle.ceal_types.specs.Kinds.{suits}
use Rattle.ceal_types.specs.Statements.{arguments_suit, call_by_own, call_suits, alloc_by_own, alloc_suits, asked_for}
use Rattle.ceal_types.specs.Statements.{plain_value, held_value, read_value, modref_value, block_value, alloc_value}
use Rattle.ceal_types.specs.Statements.{alloc_by, alloc_of, typed_value}
use Rattle.ceal_types.specs.Tables.{Name, find, value_at}
use Rattle.ceal_types.specs.Walk.{fault}
use Rattle.ceal_types.specs.declared.program.Head.{Head}
use Rattle.ceal_types.specs.declared.program.Program.{Program}
use Rattle.ceal_types.proofs.Typing.ExpressionTyped.{around, ScopeGood, Good, expr-typed, exprs-typed}
use Rattle.ceal_types.proofs.Walks.WalkKeeps.{after-keeps, mapped-keeps, if-keeps, weaken}
use Rattle.ceal_types.proofs.Typing.KindTests.{suited, same-kind}
use Rattle.ceal_types.proofs.NameNumbers.FoundPlace.{find-place}

-- the number of a struct is that of one
within-position : (test : Name → Bool) (names : List Name) (o : Option ℕ) → position test names ≡ o → IfSome o (λ n. n < length names)
within-position test names None h = tt
within-position test names (Some n) h = (position-Some test names n [] h).0

number-within : (name : Ident) (count : ℕ) (o : Option ℕ) → IfSome o (λ n. n < count) → IfOk (number_or_fault name o) (λ n. n < count)
number-within name count None h = tt
number-within name count (Some n) h = h

pub struct-within : (names : List Name) (name : Ident) → IfOk (struct_number names name) (λ n. n < length names)
struct-within names name =
    let test = bytes_eq name.text in
    number-within name (length names) (position (bytes_eq name.text) names) (within-position (bytes_eq name.text) names (position (bytes_eq name.text) names) refl)

module _ (names : List Name) (structs : List StructInfo) (all : length names ≤ length structs) where
  pub struct-known : (name : Ident) → IfOk (struct_number names name) (λ n. n < length structs)
  struct-known name = weaken (λ n. n < length names) (λ n. n < length structs) (struct_number names name) (λ n h. omega (arith, h, all)) (struct-within names name)

  -- the type that a declaration names is known
  pub kind-known : (form : TypeForm) → IfOk (kind_of names form) (KindKnown structs)
  kind-known forms.Int = tt
  kind-known (forms.Ptr name) = mapped-keeps (λ n. n < length structs) (KindKnown structs) Ptr (struct_number names name) (struct-known name) (λ n h. h)
  kind-known forms.ModInt = tt
  kind-known (forms.ModPtr name) = mapped-keeps (λ n. n < length structs) (KindKnown structs) ModPtr (struct_number names name) (struct-known name) (λ n h. h)
  kind-known forms.CellInt = tt
  kind-known (forms.CellPtr name) = mapped-keeps (λ n. n < length structs) (KindKnown structs) ModPtr (struct_number names name) (struct-known name) (λ n h. h)
  kind-known (forms.CellRow row) = tt
  kind-known (forms.CellPtrRow name row) = mapped-keeps (λ n. n < length structs) (KindKnown structs) ModPtr (struct_number names name) (struct-known name) (λ n h. h)

-- as many arguments as parameters, of their types
args-suit : (kinds : List Kind) (es : List TypedExpr) → length es ≡ length kinds → IfOk (arguments_suit kinds es) (λ u. ArgsSuit kinds es)
args-suit [] [] h = tt
args-suit [] (e ∷ es) h = absurd (omega (arith, h))
args-suit (kind ∷ kinds) [] h = absurd (omega (arith, h))
args-suit (kind ∷ kinds) (e ∷ es) h =
    if-keeps (λ u. ArgsSuit (kind ∷ kinds) (e ∷ es)) (suits kind e.kind) (arguments_suit kinds es) (fault T1 e.span)
    (λ b. weaken (λ u. ArgsSuit kinds es) (λ u. ArgsSuit (kind ∷ kinds) (e ∷ es)) (arguments_suit kinds es) (λ u r. (suited kind e.kind b, r)) (args-suit kinds es (omega (arith, h))))
    (λ n. tt)

-- the functions of the typed program have the heads that the walk of the heads gave
pub record HasHead (fs : List TypedFunction) (n : ℕ) (f : Head) : Type 0 where
  pub function : TypedFunction
  pub there : slice_get fs n ≡ Some function
  pub own : function.initialiser ≡ f.own
  pub kinds : param_kinds function ≡ f.parameters.kinds

abbrev pub HeadsMatch : List (Name × Head) → List TypedFunction → Type 0
HeadsMatch heads fs = (n : ℕ) (f : Head) → value_at heads n ≡ Some f → HasHead fs n f

counted : (kinds : List Kind) (es : List TypedExpr) (P : Unit {0} → Type 0) (name : Ident) (r : Result (Unit {0}) Fault)
    → (length es ≡ length kinds → IfOk r P) → IfOk (if length es == length kinds then r else fault T2 name.span) P
counted kinds es P name r same =
    if-keeps P (length es == length kinds) r (fault T2 name.span) (λ b. same ((Decides-eqb (length es) (length kinds)).0 b)) (λ n. tt)

-- what is asked of the arguments, by the struct of `self`
abbrev CallOwn : Option ℕ → List Kind → List TypedExpr → Type 0
CallOwn None kinds es = ArgsSuit kinds es
CallOwn (Some s) kinds es = Unit {0}

abbrev AllocOwn : Option ℕ → List Kind → ℕ → List TypedExpr → Type 0
AllocOwn None kinds shape es = Unit {0}
AllocOwn (Some s) kinds shape es = (s ≡ shape) × ArgsSuit kinds es

call-own : (name : Ident) (o : Option ℕ) (kinds : List Kind) (es : List TypedExpr) → IfOk (call_by_own o kinds name es) (λ u. CallOwn o kinds es)
call-own name None kinds es = counted kinds es (λ u. ArgsSuit kinds es) name (arguments_suit kinds es) (args-suit kinds es)
call-own name (Some s) kinds es = tt

alloc-own : (structure name : Ident) (shape : ℕ) (o : Option ℕ) (kinds : List Kind) (es : List TypedExpr)
    → IfOk (alloc_by_own o kinds structure name shape es) (λ u. AllocOwn o kinds shape es)
alloc-own structure name shape None kinds es = tt
alloc-own structure name shape (Some s) kinds es =
    let P : Unit {0} → Type 0 = λ u. (s ≡ shape) × ArgsSuit kinds es in
    counted kinds es P name (if s == shape then arguments_suit kinds es else fault T1 structure.span)
    (λ same. if-keeps P (s == shape) (arguments_suit kinds es) (fault T1 structure.span)
    (λ b. weaken (λ u. ArgsSuit kinds es) P (arguments_suit kinds es) (λ u r. ((Decides-eqb s shape).0 b, r)) (args-suit kinds es same))
    (λ n. tt))

call-elim : (o : Option ℕ) (kinds : List Kind) (es : List TypedExpr) → CallOwn o kinds es → elim o as (λ _. Type 0) [ None ↦ ArgsSuit kinds es | Some s ↦ Unit {0} ]
call-elim None kinds es h = h
call-elim (Some s) kinds es h = h

alloc-elim : (o : Option ℕ) (kinds : List Kind) (shape : ℕ) (es : List TypedExpr)
    → AllocOwn o kinds shape es → elim o as (λ _. Type 0) [ None ↦ Unit {0} | Some s ↦ (s ≡ shape) × ArgsSuit kinds es ]
alloc-elim None kinds shape es h = h
alloc-elim (Some s) kinds shape es h = h

module _ (fs : List TypedFunction) (n : ℕ) (f : Head) (has : HasHead fs n f) where
  call-suits : (es : List TypedExpr) → CallOwn f.own f.parameters.kinds es → CallSuits (slice_get fs n) es
  call-suits es h =
      let own = subst (λ (o : Option ℕ). CallOwn o f.parameters.kinds es) (sym has.own) h in
      let kinds = subst (λ (l : List Kind). CallOwn has.function.initialiser l es) (sym has.kinds) own in
      subst (λ (o : Option TypedFunction). CallSuits o es) (sym has.there) (call-elim has.function.initialiser (param_kinds has.function) es kinds)

  alloc-suits : (shape : ℕ) (es : List TypedExpr) → AllocOwn f.own f.parameters.kinds shape es → AllocSuits (slice_get fs n) shape es
  alloc-suits shape es h =
      let own = subst (λ (o : Option ℕ). AllocOwn o f.parameters.kinds shape es) (sym has.own) h in
      let kinds = subst (λ (l : List Kind). AllocOwn has.function.initialiser l shape es) (sym has.kinds) own in
      subst (λ (o : Option TypedFunction). AllocSuits o shape es) (sym has.there) (alloc-elim has.function.initialiser (param_kinds has.function) shape es kinds)

  pub call-good : (name : Ident) (es : List TypedExpr) → IfOk (call_suits name f es) (λ u. CallSuits (slice_get fs n) es)
  call-good name es =
      weaken (λ u. CallOwn f.own f.parameters.kinds es) (λ u. CallSuits (slice_get fs n) es) (call_suits name f es)
      (λ u r. call-suits es r) (call-own name f.own f.parameters.kinds es)

  pub alloc-good : (structure name : Ident) (shape : ℕ) (es : List TypedExpr)
      → IfOk (alloc_suits structure name shape f es) (λ u. AllocSuits (slice_get fs n) shape es)
  alloc-good structure name shape es =
      weaken (λ u. AllocOwn f.own f.parameters.kinds shape es) (λ u. AllocSuits (slice_get fs n) shape es)
      (alloc_suits structure name shape f es) (λ u r. alloc-suits shape es r) (alloc-own structure name shape f.own f.parameters.kinds es)

pub asked-good : {A : Type 0} (P : A → Type 0) (asked given : Kind) (at : Span) (x : A) → (asked ≡ given → P x) → IfOk (asked_for asked given at x) P
asked-good P asked given at x h = if-keeps P (same_kind asked given) (Ok x) (fault T1 at) (λ b. h (same-kind asked given b)) (λ n. tt)

module _ (p : Program) (fs : List TypedFunction) (own : Option ℕ) (kinds : List Kind) (seen : List ℕ) (scope : Scope)
    (good : ScopeGood scope seen kinds) (heads : HeadsMatch p.functions fs) (all : length p.names ≤ length (map struct_info p.structs)) where
  abbrev ValueGood : Kind → TypedValue → Type 0
  ValueGood asked v = ValueTyped (around p fs own kinds) seen asked v

  abbrev GoodHere : TypedExpr → Type 0
  GoodHere e = Good p fs own kinds seen e

  held-typed : (asked : Kind) (at : Span) (e : TypedExpr) → GoodHere e → (o : Option Kind) → kind_held e.kind ≡ o → IfOk (held_value asked at e o) (ValueGood asked)
  held-typed asked at e h None is = tt
  held-typed asked at e h (Some kind) is = asked-good (ValueGood asked) asked kind at (ReadTyped at e) (λ same. (h, is ∙ ap Some (sym same)))

  by-typed : (asked : Kind) (at : Span) (structure name : Ident) (args : List Expr) (shape : ℕ) → shape < length (map struct_info p.structs)
      → (o : Option (ℕ × Head)) → IfSome o (λ f. value_at p.functions f.0 ≡ Some f.1)
      → IfOk (alloc_by p own scope asked at structure name args shape o) (ValueGood asked)
  by-typed asked at structure name args shape within None h = tt
  by-typed asked at structure name args shape within (Some f) h =
      after-keeps (All GoodHere) (ValueGood asked) (alloc_value asked at structure name shape f) (typed_exprs p own scope args) (exprs-typed p fs own kinds seen scope good args)
      (λ es k. after-keeps (λ u. AllocSuits (slice_get fs f.0) shape es) (ValueGood asked) (block_value asked at name shape f.0 es) (alloc_suits structure name shape f.1 es)
      (alloc-good fs f.0 f.1 (heads f.0 f.1 h) structure name shape es)
      (λ u a. asked-good (ValueGood asked) asked (Ptr shape) at (AllocTyped at shape f.0 name.span es) (λ same. (within, same, k, a))))

  pub value-good : (asked : Kind) (v : Value) → IfOk (typed_value p own scope asked v) (ValueGood asked)
  unfolding typed_value
  value-good asked (Plain e) =
      after-keeps GoodHere (ValueGood asked) (plain_value asked) (typed_expr p own scope e) (expr-typed p fs own kinds seen scope good e)
      (λ t h. if-keeps (ValueGood asked) (suits asked t.kind) (Ok (PlainTyped t)) (fault T1 t.span) (λ b. (h, suited asked t.kind b)) (λ n. tt))
  value-good asked (Read at e) =
      after-keeps GoodHere (ValueGood asked) (read_value asked at) (typed_expr p own scope e) (expr-typed p fs own kinds seen scope good e)
      (λ t h. held-typed asked at t h (kind_held t.kind) refl)
  value-good asked (Alloc at structure name args) =
      after-keeps (λ n. n < length (map struct_info p.structs)) (ValueGood asked) (alloc_of p own scope asked at structure name args) (struct_number p.names structure)
      (struct-known p.names (map struct_info p.structs) all structure)
      (λ shape within. by-typed asked at structure name args shape within (find p.functions name.text) (find-place p.functions name.text))
  value-good asked (ModrefInt at) = asked-good (ValueGood asked) asked ModInt at (ModrefIntTyped at) (λ same. same)
  value-good asked (Modref at structure) =
      after-keeps (λ n. n < length (map struct_info p.structs)) (ValueGood asked) (modref_value asked at) (struct_number p.names structure)
      (struct-known p.names (map struct_info p.structs) all structure)
      (λ s within. asked-good (ValueGood asked) asked (ModPtr s) at (ModrefTyped at s) (λ same. (within, same)))
