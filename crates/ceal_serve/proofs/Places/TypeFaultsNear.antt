-- Where a tree is near, so are its faults of names and types.
use Rattle.std.proofs.Common.{◌≡◌, ◌==◌, ℕ, Bool, true, false, Option, Some, None, List, [], ◌∷◌, ◌++◌, length, if◌then◌else◌, slice_get, subst, arith}
use Rattle.std.specs.Map.{lookup}
use Rattle.std.specs.Option.{option_map}
use Rattle.std.specs.Str.{bytes_eq}
use Rattle.ceal_base.specs.Faults.{one, faults_of_each}
use Rattle.ceal_base.specs.WellTyped.{plain_kind}
use Rattle.ceal_base.specs.declared.fault.Fault.{Fault}
use Rattle.ceal_base.specs.declared.fault.FaultCode.{FaultCode}
use Rattle.ceal_base.specs.declared.fault.FaultCode.TheVariants.{N1, T1, T2, T3, T4, T5}
use Rattle.ceal_base.specs.declared.fault.Span.{Span}
use Rattle.ceal_base.specs.declared.kind.Kind.{Kind}
use Rattle.ceal_base.specs.declared.kind.Kind.TheVariants.{Int, Ptr, ModInt, ModPtr}
use Rattle.ceal_base.specs.declared.operators.Binary.{Binary}
use Rattle.ceal_base.specs.declared.operators.Binary.TheVariants.{Add, Sub, Mul, Div, Rem, Less, LessEq, More, MoreEq}
use Rattle.ceal_base.specs.declared.operators.Binary.TheVariants.{Same, Differ, And, Or, Pick}
use Rattle.ceal_base.specs.declared.syntax.Entry.{Entry}
use Rattle.ceal_base.specs.declared.syntax.Entry.TheVariants.{Struct, Function}
use Rattle.ceal_base.specs.declared.syntax.Expr.{Expr}
use Rattle.ceal_base.specs.declared.syntax.ExprForm.TheBlock.{Row_of-Expr, end_of-Expr, more_of-Expr}
use Rattle.ceal_base.specs.declared.syntax.ExprForm.{ExprForm, Num, Null, Var, Own, Unary', Binary', Field', Address', Pick'}
use Rattle.ceal_base.specs.declared.syntax.FieldDecl.{FieldDecl}
use Rattle.ceal_base.specs.declared.syntax.FunctionDecl.{FunctionDecl}
use Rattle.ceal_base.specs.declared.syntax.Ident.{Ident}
use Rattle.ceal_base.specs.declared.syntax.Stmt.{Stmt, Declare, Assign, SetField, Write, Call, If', While', Return, Break, Continue}
use Rattle.ceal_base.specs.declared.syntax.Stmt.{Row_of-Stmt, end_of-Stmt, more_of-Stmt}
use Rattle.ceal_base.specs.declared.syntax.Tree.{Tree}
use Rattle.ceal_base.specs.declared.syntax.TypeForm.{TypeForm}
use Rattle.ceal_base.specs.declared.syntax.TypeForm.TheVariants as forms
use Rattle.ceal_base.specs.declared.syntax.Value.{Value}
use Rattle.ceal_base.specs.declared.syntax.Value.TheVariants.{Plain, Read, Alloc, ModrefInt, Modref}
use Rattle.ceal_base.specs.declared.typed.FieldInfo.{FieldInfo}
use Rattle.ceal_types.specs.Faults as types
use Rattle.ceal_types.specs.Faults.{one_unless, one_if, faults_after, type_faults, member_faults, parameter_faults, own_faults, head_faults}
use Rattle.ceal_types.specs.Faults.{misfit, mismatch, operation_faults, arrow_faults, use_faults, address_faults, element_faults, form_faults, operand_faults, expr_faults}
use Rattle.ceal_types.specs.Faults.{condition_faults, argument_faults, call_faults, alloc_faults, place_faults, value_faults, with_declared, stmt_faults, row_faults, stmts_faults}
use Rattle.ceal_types.specs.Faults.{body_faults, tree_faults, parameter_kind, held_kind}
use Rattle.ceal_types.specs.Known.{Known, Declared, TypingContext, operand_span, operand_type, type_of, member_known, type_of_field}
use Rattle.ceal_types.specs.Tables.{Name}
use Rattle.ceal_serve.proofs.Places.Near.{Near, Each, FaultNear, AllNear, none, both, one-near, unless-near}
use Rattle.ceal_serve.proofs.Places.Near.{FormNear, OperandNear, ExprNear, TypeNear, ValueNear, StmtNear, StmtsNear, DeclNear, OwnNear, EntryNear, TreeIsNear}

module _ (n : ℕ) where
  abbrev pub All : List Fault → Type 0
  All fs = AllNear n fs

  if-near : (b : Bool) (xs ys : List Fault) → All xs → All ys → All (if b then xs else ys)
  if-near true xs ys h k = h
  if-near false xs ys h k = k

  where-near : (b : Bool) (code : FaultCode) (at : Span) → Near n at → All (one_if b code at)
  where-near b code at h = if-near b (one code at) [] (one-near n code at h) (none n)

  each-near : {A : Type 0} (P : A → Type 0) (faults : A → List Fault) → ((x : A) → P x → All (faults x)) → (xs : List A) → Each P xs → All (faults_of_each faults xs)
  unfolding Each faults_of_each
  each-near P faults near [] h = tt
  each-near P faults near (x ∷ xs) h = both n (faults x) (faults_of_each faults xs) (near x h.0) (each-near P faults near xs h.1)

  after-near : {A : Type 0} (P : A → Type 0) (faults : List A → A → List Fault) → ((b : List A) (x : A) → P x → All (faults b x)) → (before xs : List A) → Each P xs
      → All (faults_after faults before xs)
  unfolding Each faults_after
  after-near P faults near before [] h = tt
  after-near P faults near before (x ∷ xs) h =
      both n (faults before x) (faults_after faults (before ++ x ∷ []) xs) (near before x h.0) (after-near P faults near (before ++ x ∷ []) xs h.1)

  struct-near : (names : List Name) (x : Ident) → Near n x.span → All (types.struct_faults names x)
  struct-near names x h = unless-near n _ N1 x.span h

  types-near : (names : List Name) (form : TypeForm) → TypeNear n form → All (type_faults names form)
  types-near names forms.Int h = none n
  types-near names (forms.Ptr x) h = struct-near names x h
  types-near names forms.ModInt h = none n
  types-near names (forms.ModPtr x) h = struct-near names x h
  types-near names forms.CellInt h = none n
  types-near names (forms.CellPtr x) h = struct-near names x h
  types-near names (forms.CellRow row) h = none n
  types-near names (forms.CellPtrRow x row) h = struct-near names x h

  members-near : (structs : List Name) (before : List FieldDecl) (d : FieldDecl) → DeclNear n d → All (member_faults structs before d)
  members-near structs before d h = both n _ _ (types-near structs d.form h.0) (where-near _ _ d.name.span h.1)

  parameters-near : (structs : List Name) (before : List FieldDecl) (d : FieldDecl) → DeclNear n d → All (parameter_faults structs before d)
  parameters-near structs before d h = both n _ _ (types-near structs d.form h.0) (where-near _ _ d.name.span h.1)

  own-near : (names : List Name) (own : Option Ident) → OwnNear n own → All (own_faults names own)
  own-near names None h = none n
  own-near names (Some x) h = struct-near names x h

  heads-near : (names : List Name) (before : List Entry) (e : Entry) → EntryNear n e → All (head_faults names before e)
  heads-near names before (Struct s) h = both n _ _ (where-near _ _ s.name.span h.0) (after-near (DeclNear n) (member_faults names) (members-near names) [] s.fields h.1)
  heads-near names before (Function f) h =
      both n _ _ (both n _ _ (where-near _ _ f.name.span h.1) (own-near names f.initialiser h.0))
      (after-near (DeclNear n) (parameter_faults names) (parameters-near names) [] f.params h.2)

  misfits-near : (asked : Option Kind) (given : Known) (at : Span) → Near n at → All (misfit asked given at)
  misfits-near None given at h = none n
  misfits-near (Some kind) None at h = none n
  misfits-near (Some kind) (Some given) at h = unless-near n _ T1 at h

  mismatches-near : (left right : Known) (at : Span) → Near n at → All (mismatch left right at)
  mismatches-near None right at h = none n
  mismatches-near (Some kind) None at h = none n
  mismatches-near (Some kind) (Some other) at h = unless-near n _ T1 at h

  operations-near : (op : Binary) (sign : Span) (left : Known) (at : Span) (right : Known) (to : Span) → Near n sign → Near n at → Near n to
      → All (operation_faults op sign left at right to)
  operations-near Same sign left at right to s h k = mismatches-near left right sign s
  operations-near Differ sign left at right to s h k = mismatches-near left right sign s
  operations-near (Pick row) sign left at right to s h k = one-near n T3 at h
  operations-near Add sign left at right to s h k = both n _ _ (misfits-near (Some Int) left at h) (misfits-near (Some Int) right to k)
  operations-near Sub sign left at right to s h k = both n _ _ (misfits-near (Some Int) left at h) (misfits-near (Some Int) right to k)
  operations-near Mul sign left at right to s h k = both n _ _ (misfits-near (Some Int) left at h) (misfits-near (Some Int) right to k)
  operations-near Div sign left at right to s h k = both n _ _ (misfits-near (Some Int) left at h) (misfits-near (Some Int) right to k)
  operations-near Rem sign left at right to s h k = both n _ _ (misfits-near (Some Int) left at h) (misfits-near (Some Int) right to k)
  operations-near Less sign left at right to s h k = both n _ _ (misfits-near (Some Int) left at h) (misfits-near (Some Int) right to k)
  operations-near LessEq sign left at right to s h k = both n _ _ (misfits-near (Some Int) left at h) (misfits-near (Some Int) right to k)
  operations-near More sign left at right to s h k = both n _ _ (misfits-near (Some Int) left at h) (misfits-near (Some Int) right to k)
  operations-near MoreEq sign left at right to s h k = both n _ _ (misfits-near (Some Int) left at h) (misfits-near (Some Int) right to k)
  operations-near And sign left at right to s h k = both n _ _ (misfits-near (Some Int) left at h) (misfits-near (Some Int) right to k)
  operations-near Or sign left at right to s h k = both n _ _ (misfits-near (Some Int) left at h) (misfits-near (Some Int) right to k)

  arrows-near : (d : Declared) (kind : Known) (at : Span) (x : Ident) → Near n at → Near n x.span → All (arrow_faults d kind at x)
  arrows-near d None at x h k = none n
  arrows-near d (Some None) at x h k = one-near n T4 at h
  arrows-near d (Some (Some Int)) at x h k = one-near n T4 at h
  arrows-near d (Some (Some (Ptr s))) at x h k = unless-near n _ T5 x.span k
  arrows-near d (Some (Some ModInt)) at x h k = one-near n T4 at h
  arrows-near d (Some (Some (ModPtr s))) at x h k = one-near n T4 at h

  uses-near : (m : Option FieldInfo) (at : Span) → Near n at → All (use_faults m at)
  uses-near None at h = none n
  uses-near (Some m) at h = unless-near n _ T1 at h

  addresses-near : (m : Option FieldInfo) (at : Span) → Near n at → All (address_faults m at)
  addresses-near None at h = none n
  addresses-near (Some m) at h = if-near (m.row == 0) _ _ (unless-near n _ T3 at h) (one-near n T1 at h)

  elements-near : (m : Option FieldInfo) (at : Span) → Near n at → All (element_faults m at)
  elements-near None at h = none n
  elements-near (Some m) at h = if-near _ _ _ (where-near (m.row == 0) T1 at h) (one-near n T3 at h)

  begins-near : {k : _} (a : Row_of-Expr k) → OperandNear n a → Near n (operand_span a)
  unfolding FormNear
  begins-near end_of-Expr h = omega arith
  begins-near (more_of-Expr span form rest) h = h.0

  module _ (c : TypingContext) where
    mutual
      unfolding form_faults FormNear

      forms-near : (at : Span) (form : ExprForm) → Near n at → FormNear n form → All (form_faults c at form)
      forms-near at (Num v) s h = none n
      forms-near at Null s h = none n
      forms-near at (Var x) s h = unless-near n _ N1 x.span h
      forms-near at Own s h = unless-near n _ N1 at s
      forms-near at (Unary' op _ a) s h = both n _ _ (operands-near a h) (misfits-near (Some Int) _ (operand_span a) (begins-near a h))
      forms-near at (Binary' op sign _ a _ b) s h =
          both n _ _ (both n _ _ (operands-near a h.1) (operands-near b h.2)) (operations-near op sign _ (operand_span a) _ (operand_span b) h.0 (begins-near a h.1) (begins-near b h.2))
      forms-near at (Field' _ a x) s h =
          both n _ _ (both n _ _ (operands-near a h.0) (arrows-near c.declared _ (operand_span a) x (begins-near a h.0) h.1)) (uses-near (member_known c.declared (operand_type c a) x.text) x.span h.1)
      forms-near at (Address' _ (more_of-Expr span (Field' _ a x) rest)) s h =
          both n _ _ (both n _ _ (operands-near a h.1.0) (arrows-near c.declared _ (operand_span a) x (begins-near a h.1.0) h.1.1))
          (addresses-near (member_known c.declared (operand_type c a) x.text) x.span h.1.1)
      forms-near at (Address' _ a) s h = both n _ _ (operands-near a h) (one-near n T3 (operand_span a) (begins-near a h))
      forms-near at (Pick' _ (more_of-Expr span (Field' _ a x) rest) _ i) s h =
          both n _ _
          (both n _ _
          (both n _ _ (both n _ _ (operands-near a h.0.1.0) (operands-near i h.1)) (arrows-near c.declared _ (operand_span a) x (begins-near a h.0.1.0) h.0.1.1))
          (elements-near (member_known c.declared (operand_type c a) x.text) x.span h.0.1.1))
          (misfits-near (Some Int) (operand_type c i) (operand_span i) (begins-near i h.1))
      forms-near at (Pick' _ a _ i) s h = both n _ _ (both n _ _ (operands-near a h.0) (operands-near i h.1)) (one-near n T3 (operand_span a) (begins-near a h.0))

      operands-near : {k : _} (a : Row_of-Expr k) → OperandNear n a → All (operand_faults c a)
      operands-near end_of-Expr h = none n
      operands-near (more_of-Expr span form rest) h = forms-near span form h.0 h.1

    exprs-near : (e : Expr) → ExprNear n e → All (expr_faults c e)
    exprs-near e h = forms-near e.span e.form h.0 h.1

    conditions-near : (e : Expr) → ExprNear n e → All (condition_faults c e)
    conditions-near e h = both n _ _ (exprs-near e h) (misfits-near (Some Int) _ e.span h.0)

    arguments-near : (ds : List FieldDecl) (es : List Expr) → Each (ExprNear n) es → All (argument_faults c ds es)
    unfolding Each
    arguments-near [] es h = none n
    arguments-near (d ∷ ds) [] h = none n
    arguments-near (d ∷ ds) (e ∷ es) h = both n _ _ (misfits-near (parameter_kind c.declared.names d) (type_of c e) e.span h.0.0) (arguments-near ds es h.1)

    calls-near : (x : Ident) (args : List Expr) (f : Option FunctionDecl) → Near n x.span → Each (ExprNear n) args → All (call_faults c x args f)
    calls-near x args None s h = none n
    calls-near x args (Some f) s h = elim f.initialiser as (λ i. All (elim i [
      | None ↦ if length args == length f.params then argument_faults c f.params args else one T2 x.span
      | Some own ↦ []
    ])) [
      | None ↦ if-near _ _ _ (arguments-near f.params args h) (one-near n T2 x.span s)
      | Some own ↦ none n
    ]

    allocs-near : (structure x : Ident) (args : List Expr) (f : Option FunctionDecl) → Near n structure.span → Near n x.span → Each (ExprNear n) args
        → All (alloc_faults c structure x args f)
    allocs-near structure x args None t s h = none n
    allocs-near structure x args (Some f) t s h = elim f.initialiser as (λ i. All (elim i [
      | None ↦ []
      | Some own ↦
          if length args == length f.params
          then one_unless (bytes_eq own.text structure.text) T1 structure.span ++ argument_faults c f.params args
          else one T2 x.span
    ])) [
      | None ↦ none n
      | Some own ↦ if-near _ _ _ (both n _ _ (unless-near n _ T1 structure.span t) (arguments-near f.params args h)) (one-near n T2 x.span s)
    ]

    places-near : (kind : Known) (at : Span) → Near n at → All (place_faults kind at)
    places-near None at h = none n
    places-near (Some kind) at h = unless-near n _ T3 at h

    values-near : (asked : Option Kind) (v : Value) → ValueNear n v → All (value_faults c asked v)
    values-near asked (Plain e) h = both n _ _ (exprs-near e h) (misfits-near asked _ e.span h.0)
    values-near asked (Read at e) h = both n _ _ (both n _ _ (exprs-near e h.1) (places-near _ e.span h.1.0)) (misfits-near asked _ at h.0)
    values-near asked (Alloc at structure x args) h =
        both n _ _
        (both n _ _
        (both n _ _ (both n _ _ (struct-near c.declared.names structure h.1) (unless-near n _ N1 x.span h.2)) (each-near (ExprNear n) (expr_faults c) exprs-near args h.3))
        (allocs-near structure x args (lookup (bytes_eq x.text) c.declared.functions) h.1 h.2 h.3))
        (misfits-near asked _ at h.0)
    values-near asked (ModrefInt at) h = misfits-near asked _ at h
    values-near asked (Modref at structure) h = both n _ _ (struct-near c.declared.names structure h.1) (misfits-near asked _ at h.0)

  mutual
    unfolding stmt_faults StmtNear

    stmt-near : (c : TypingContext) (s : Stmt) → StmtNear n s → All (stmt_faults c s)
    stmt-near c (Declare at form x value) h =
        both n _ _ (both n _ _ (types-near c.declared.names form h.1) (where-near _ _ x.span h.2)) (values-near c _ value h.3)
    stmt-near c (Assign x value) h = both n _ _ (unless-near n _ N1 x.span h.0) (values-near c _ value h.1)
    stmt-near c (SetField at left x e) h =
        both n _ _
        (both n _ _
        (both n _ _ (both n _ _ (exprs-near c left h.1) (arrows-near c.declared _ left.span x h.1.0 h.2)) (uses-near _ x.span h.2))
        (exprs-near c e h.3))
        (misfits-near (plain_kind (option_map type_of_field (member_known c.declared (type_of c left) x.text))) (type_of c e) e.span h.3.0)
    stmt-near c (Write at place e) h =
        both n _ _ (both n _ _ (both n _ _ (exprs-near c place h.1) (exprs-near c e h.2)) (places-near c _ place.span h.1.0)) (misfits-near (held_kind (type_of c place)) (type_of c e) e.span h.2.0)
    stmt-near c (Call x args) h =
        both n _ _ (both n _ _ (unless-near n _ N1 x.span h.0) (each-near (ExprNear n) (expr_faults c) (exprs-near c) args h.1))
        (calls-near c x args (lookup (bytes_eq x.text) c.declared.functions) h.0 h.1)
    stmt-near c (If' at test _ first _ second) h = both n _ _ (both n _ _ (conditions-near c test h.1) (rows-near c first h.2)) (rows-near c second h.3)
    stmt-near c (While' at test _ body) h = both n _ _ (conditions-near c test h.1) (rows-near c body h.2)
    stmt-near c (Return at) h = none n
    stmt-near c (Break at) h = none n
    stmt-near c (Continue at) h = none n

    rows-near : (c : TypingContext) {k : _} (r : Row_of-Stmt k) → StmtsNear n r → All (row_faults c r)
    rows-near c end_of-Stmt h = none n
    rows-near c (more_of-Stmt s rest) h = both n _ _ (stmt-near c s h.0) (rows-near (with_declared c s) rest h.1)

  stmts-near : (c : TypingContext) (ss : List Stmt) → Each (StmtNear n) ss → All (stmts_faults c ss)
  unfolding Each stmts_faults
  stmts-near c [] h = tt
  stmts-near c (s ∷ ss) h = both n _ _ (stmt-near c s h.0) (stmts-near (with_declared c s) ss h.1)

  bodies-near : (d : Declared) (e : Entry) → EntryNear n e → All (body_faults d e)
  bodies-near d (Struct s) h = none n
  bodies-near d (Function f) h = stmts-near _ f.body h.3

  faults-near : (tree : Tree) → TreeIsNear n tree → All (tree_faults tree)
  faults-near tree h =
      both n _ _ (after-near (EntryNear n) (head_faults _) (heads-near _) [] tree.entries h) (each-near (EntryNear n) (body_faults _) (bodies-near _) tree.entries h)

  -- so is the first of faults that are near
  pub first-near : (fs : List Fault) (f : Fault) → slice_get fs 0 ≡ Some f → All fs → FaultNear n f
  unfolding Each
  first-near [] f e h = cc
  first-near (g ∷ fs) f e h = subst (FaultNear n) (some-same g f e) h.0
    where
      some-same : (a b : Fault) → Some a ≡ Some b → a ≡ b
      some-same a b e = cc

  pub type-fault-near : (tree : Tree) (f : Fault) → TreeIsNear n tree → slice_get (tree_faults tree) 0 ≡ Some f → FaultNear n f
  type-fault-near tree f h e = first-near (tree_faults tree) f e (faults-near tree h)
