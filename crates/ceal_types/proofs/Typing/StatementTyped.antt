-- A statement that the walk gives is well typed.
use Rattle.std.proofs.Common.{◌≡◌, ℕ, suc, ◌+◌, ◌≤◌, arith, Option, Some, None, Result, Ok, Err, List, [], ◌∷◌, ◌++◌, All, Contains, map, slice_get, length, refl, sym, subst, ap}
use Rattle.std.specs.Prelude.{IfOk, IfSome}
use Rattle.std.specs.Map.{lookup}
use Rattle.std.specs.Str.{bytes_eq}
use Rattle.std.proofs.lemmas.List.{length_push}
use Rattle.std.proofs.lemmas.List.Elements.{All-push}
use Rattle.std.proofs.lemmas.Map.Entries.{All-lookup}
use Rattle.ceal_base.specs.WellTyped.{Context, KindKnown, StmtTyped, RowTyped, StmtsTyped, ValueTyped, kind_held, declarations, row_declarations, all_declarations, seen_after}
use Rattle.ceal_base.specs.declared.fault.Fault.{Fault}
use Rattle.ceal_base.specs.declared.fault.FaultCode.TheVariants.{N2, T1}
use Rattle.ceal_base.specs.declared.fault.Span.{Span}
use Rattle.ceal_base.specs.declared.kind.FieldKind.{FieldKind}
use Rattle.ceal_base.specs.declared.kind.FieldKind.TheVariants.{Plain as PlainField, CellInt, CellPtr}
use Rattle.ceal_base.specs.declared.kind.Kind.{Kind}
use Rattle.ceal_base.specs.declared.kind.Kind.TheVariants.{Int}
use Rattle.ceal_base.specs.declared.syntax.Expr.{Expr}
use Rattle.ceal_base.specs.declared.syntax.Ident.{Ident}
use Rattle.ceal_base.specs.declared.syntax.Stmt.{Stmt, Declare, Assign, SetField, Write, Call, If', While', Return, Break, Continue}
use Rattle.ceal_base.specs.declared.syntax.Stmt.{Row_of-Stmt, end_of-Stmt, more_of-Stmt}
use Rattle.ceal_base.specs.declared.syntax.Value.{Value}
use Rattle.ceal_base.specs.declared.typed.StructInfo.{StructInfo}
use Rattle.ceal_base.specs.declared.typed.TypedExpr.{TypedExpr}
use Rattle.ceal_base.specs.declared.typed.TypedFunction.{TypedFunction}
use Rattle.ceal_base.specs.declared.typed.TypedStmt.{TypedStmt}
use Rattle.ceal_base.specs.declared.typed.TypedStmt.{SetField as SetTyped, Write as WriteTyped, Return as ReturnTyped, Break as BreakTyped, Continue as ContinueTyped}
use Rattle.ceal_base.specs.declared.typed.TypedStmt.TheBlock.{hidden-the_row-TypedStmt-0, shape-the_row-TypedStmt-0}
use Rattle.ceal_base.specs.declared.typed.TypedValue.{TypedValue}
use Rattle.ceal_types.specs.Checked.{struct_info}
use Rattle.ceal_types.specs.Expressions.{Scope, typed_expr, typed_exprs, condition, member}
use Rattle.ceal_types.specs.Heads.{kind_of, with_variable}
use Rattle.ceal_types.specs.Kinds.{suits}
use Rattle.ceal_types.specs.Statements.{Step, Block, step, still, empty_block, block_end, inner_block, with_step}
use Rattle.ceal_types.specs.Statements.{declaration, declare, assignment, assign_if_found, assign, plain_kind}
use Rattle.ceal_types.specs.Statements.{set_suited, set_value, set_member, set_left, set_field, write_held, write_of}
use Rattle.ceal_types.specs.Statements.{write, call_of, call_checked, call_if_found, call, call_suits, if_step, choose}
use Rattle.ceal_types.specs.Statements.{branch, while_step, loop, typed_value, typed_stmt, typed_row, typed_stmts}
use Rattle.ceal_types.specs.Statements.{with_stmt}
use Rattle.ceal_types.specs.Tables.{Name, has, find, value_at}
use Rattle.ceal_types.specs.Walk.{fault, after, result_map}
use Rattle.ceal_types.specs.declared.program.Head.{Head}
use Rattle.ceal_types.specs.declared.program.Member.{Member}
use Rattle.ceal_types.specs.declared.program.Program.{Program}
use Rattle.ceal_types.specs.declared.program.Variable.{Variable}
use Rattle.ceal_types.specs.declared.program.Variables.{Variables}
use Rattle.ceal_types.proofs.Typing.ExpressionTyped.{around, VariableGood, ScopeGood, MemberGood, member-good, Good, expr-typed, exprs-typed, condition-typed}
use Rattle.ceal_types.proofs.Walks.LongerList.{Grows, grows-same, grows-more, grows-on, grows-get, get-last, grows-take}
use Rattle.ceal_types.proofs.Walks.WalkKeeps.{after-keeps, mapped-keeps, both-keeps, if-keeps, turn-keeps}
use Rattle.ceal_types.proofs.Typing.KindTests.{suited}
use Rattle.ceal_types.proofs.NameNumbers.FoundPlace.{find-place}
use Rattle.ceal_types.proofs.Typing.ValueTyped.{HeadsMatch, call-good, value-good, kind-known}
use Rattle.ceal_base.specs.WellTyped.{CallSuits}

-- what holds for each K of what is given, where it does
all-keep : {A C : Type 0} (P : C → A → Type 0) (Q : C → Type 0) (r : Result A Fault) → ((c : C) → Q c → IfOk r (P c)) → IfOk r (λ x. (c : C) → Q c → P c x)
all-keep P Q (Ok x) h = h
all-keep P Q (Err f) h = tt

-- the variables in scope after these statements
abbrev pub seen_through : List ℕ → List TypedStmt → List ℕ
seen_through seen [] = seen
seen_through seen (s ∷ rest) = seen_through (seen_after seen s) rest

through-push : (seen : List ℕ) (xs : List TypedStmt) (s : TypedStmt) → seen_through seen (xs ++ s ∷ []) ≡ seen_after (seen_through seen xs) s
through-push seen [] s = refl
through-push seen (x ∷ xs) s = through-push (seen_after seen x) xs s

declarations-push : (xs : List TypedStmt) (s : TypedStmt) → all_declarations (xs ++ s ∷ []) ≡ all_declarations xs + declarations s
unfolding all_declarations
declarations-push [] s = omega arith
declarations-push (x ∷ xs) s = omega (arith, declarations-push xs s)

pub row-declarations : (xs : List TypedStmt) → row_declarations (hidden-the_row-TypedStmt-0 xs) ≡ all_declarations xs
unfolding declarations all_declarations hidden-the_row-TypedStmt-0 shape-the_row-TypedStmt-0 denote.Hole.Carrier.hidden
row-declarations [] = refl
row-declarations (s ∷ xs) = ap (λ (n : ℕ). declarations s + n) (row-declarations xs)

stmts-push : (c : Context) (xs : List TypedStmt) (s : TypedStmt) (seen : List ℕ) (next last : ℕ) → StmtsTyped c seen next xs
    → last ≡ next + all_declarations xs → StmtTyped c (seen_through seen xs) last s → StmtsTyped c seen next (xs ++ s ∷ [])
unfolding StmtsTyped all_declarations
stmts-push c [] s seen next last h is k =
    let same : last ≡ next = omega (arith, is) in
    (subst (λ (n : ℕ). StmtTyped c seen n s) same k, tt)
stmts-push c (x ∷ xs) s seen next last h is k =
    (h.0, stmts-push c xs s (seen_after seen x) (next + declarations x) last h.1 (omega (arith, is)) k)

row-typed : (c : Context) (xs : List TypedStmt) (seen : List ℕ) (next : ℕ) → StmtsTyped c seen next xs → RowTyped c seen next (hidden-the_row-TypedStmt-0 xs)
unfolding StmtTyped StmtsTyped hidden-the_row-TypedStmt-0 shape-the_row-TypedStmt-0 denote.Hole.Carrier.hidden
row-typed c [] seen next h = tt
row-typed c (s ∷ xs) seen next h = (h.0, row-typed c xs (seen_after seen s) (next + declarations s) h.1)

contains-more : (seen : List ℕ) (n x : ℕ) → Contains seen x → Contains (n ∷ seen) x
contains-more seen n x h = (suc h.0, omega (arith, h.1), h.2)

scope-grows : (scope : Scope) (seen : List ℕ) (kinds more : List Kind) → Grows kinds more → ScopeGood scope seen kinds → ScopeGood scope seen more
scope-grows scope seen kinds more g good = λ k d l. ((good k d l).0, grows-get kinds more _ _ g (good k d l).1)

scope-sees : (scope : Scope) (seen : List ℕ) (kinds : List Kind) (n : ℕ) → ScopeGood scope seen kinds → ScopeGood scope (n ∷ seen) kinds
scope-sees scope seen kinds n good = λ k d l. (contains-more seen n _ (good k d l).0, (good k d l).1)

-- a new variable is seen
pub variable-good : (v : Variables) (seen : List ℕ) (name : Name) (kind : Kind) → ScopeGood v.scope seen v.kinds
    → ScopeGood (with_variable v name kind).scope (length v.kinds ∷ seen) (with_variable v name kind).kinds
variable-good v seen name kind good =
    let kinds = v.kinds ++ kind ∷ [] in
    let n = length v.kinds in
    let old = scope-sees v.scope seen kinds n (scope-grows v.scope seen v.kinds kinds (grows-more v.kinds v.kinds kind (grows-same v.kinds)) good) in
    All-push (λ e. VariableGood (n ∷ seen) kinds e.1) v.scope (name, record { number = n; kind = kind }) old ((0, omega arith, refl), get-last v.kinds kind)

module _ (p : Program) (fs : List TypedFunction) (own : Option ℕ) (heads : HeadsMatch p.functions fs)
    (all : length p.names ≤ length (map struct_info p.structs)) where
  abbrev structs : List StructInfo
  structs = map struct_info p.structs

  -- the statement is typed and declares nothing
  record Still (seen : List ℕ) (next : ℕ) (kinds : List Kind) (s : TypedStmt) : Type 0 where
    none : declarations s ≡ 0
    same : seen_after seen s ≡ seen
    typed : StmtTyped (around p fs own kinds) seen next s

  module _ (kinds : List Kind) (seen : List ℕ) (next : ℕ) (scope : Scope) (good : ScopeGood scope seen kinds) where
    abbrev GoodHere : TypedExpr → Type 0
    GoodHere e = Good p fs own kinds seen e

    abbrev StillHere : TypedStmt → Type 0
    StillHere s = Still seen next kinds s

    assigned-still : (name : Ident) (value : Value) (o : Option Variable) → IfSome o (VariableGood seen kinds)
        → IfOk (assign_if_found p own name value scope o) StillHere
    unfolding StmtTyped declarations
    assigned-still name value None h = tt
    assigned-still name value (Some x) h =
        mapped-keeps (ValueTyped (around p fs own kinds) seen x.kind) StillHere (assignment name x.number) (typed_value p own scope x.kind value)
        (value-good p fs own kinds seen scope good heads all x.kind value)
        (λ t k. record { none = refl; same = refl; typed = (h.0, rw h.1 k) })

    set-plain : (at : Span) (left : TypedExpr) (m : Member) (kind : Kind) (e : TypedExpr) → GoodHere left → MemberGood p.structs left.kind m
        → m.kind ≡ PlainField kind → GoodHere e → IfOk (set_suited at left m kind e) StillHere
    unfolding StmtTyped declarations
    set-plain at left m kind e h g is k =
        if-keeps StillHere (suits kind e.kind) (Ok (SetTyped at left m.shape m.field e)) (fault T1 e.span)
        (λ b. record { none = refl; same = refl; typed = (h, g.left, rw (g.there, is) (k, suited kind e.kind b)) }) (λ n. tt)

    set-kind : (at : Span) (name : Ident) (e : Expr) (left : TypedExpr) (m : Member) → GoodHere left → MemberGood p.structs left.kind m
        → (kind : FieldKind) → m.kind ≡ kind → IfOk (after (set_value p own scope at e left m) (plain_kind name kind)) StillHere
    set-kind at name e left m h g (PlainField kind) is =
        after-keeps GoodHere StillHere (set_suited at left m kind) (typed_expr p own scope e) (expr-typed p fs own kinds seen scope good e)
        (λ t k. set-plain at left m kind t h g is k)
    set-kind at name e left m h g CellInt is = tt
    set-kind at name e left m h g (CellPtr t) is = tt

    set-still : (at : Span) (left : Expr) (name : Ident) (e : Expr) → IfOk (set_field p own scope at left name e) StillHere
    set-still at left name e =
        after-keeps GoodHere StillHere (set_left p own scope at name e) (typed_expr p own scope left) (expr-typed p fs own kinds seen scope good left)
        (λ l h. after-keeps (MemberGood p.structs l.kind) StillHere (set_member p own scope at name e l) (member p.structs name l) (member-good p.structs name l)
        (λ m g. set-kind at name e l m h g m.kind refl))

    held-still : (at : Span) (place e : TypedExpr) → GoodHere place → GoodHere e → (o : Option Kind) → kind_held place.kind ≡ o
        → IfOk (write_held at place e o) StillHere
    unfolding StmtTyped declarations
    held-still at place e h k None is = tt
    held-still at place e h k (Some kind) is =
        if-keeps StillHere (suits kind e.kind) (Ok (WriteTyped at place e)) (fault T1 e.span)
        (λ b. record { none = refl; same = refl; typed = (h, rw is (k, suited kind e.kind b)) }) (λ n. tt)

    write-still : (at : Span) (place e : Expr) → IfOk (write p own scope at place e) StillHere
    write-still at place e =
        both-keeps GoodHere GoodHere StillHere (write_of at) (typed_expr p own scope place) (typed_expr p own scope e)
        (expr-typed p fs own kinds seen scope good place) (expr-typed p fs own kinds seen scope good e)
        (λ q t h k. held-still at q t h k (kind_held q.kind) refl)

    called-still : (name : Ident) (args : List Expr) (o : Option (ℕ × Head)) → IfSome o (λ f. value_at p.functions f.0 ≡ Some f.1)
        → IfOk (call_if_found p own scope name args o) StillHere
    unfolding StmtTyped declarations
    called-still name args None h = tt
    called-still name args (Some f) h =
        after-keeps (All GoodHere) StillHere (call_checked name f) (typed_exprs p own scope args) (exprs-typed p fs own kinds seen scope good args)
        (λ es k. mapped-keeps (λ u. CallSuits (slice_get fs f.0) es) StillHere (call_of name f.0 es) (call_suits name f.1 es)
        (call-good fs f.0 f.1 (heads f.0 f.1 h) name es) (λ u c. record { none = refl; same = refl; typed = (k, c) }))

  -- what a statement leaves is good
  pub record StepGood (v : Variables) (seen : List ℕ) (s : Step) : Type 0 where
    pub kinds : Grows v.kinds s.variables.kinds
    pub count : length s.variables.kinds ≡ length v.kinds + declarations s.stmt
    pub known : All (KindKnown structs) s.variables.kinds
    pub scope : Grows v.scope s.variables.scope
    pub good : ScopeGood s.variables.scope (seen_after seen s.stmt) s.variables.kinds
    pub typed : (more : List Kind) → Grows s.variables.kinds more → StmtTyped (around p fs own more) seen (length v.kinds) s.stmt

  pub record BlockGood (v : Variables) (seen : List ℕ) (b : Block) : Type 0 where
    pub kinds : Grows v.kinds b.variables.kinds
    pub count : length b.variables.kinds ≡ length v.kinds + all_declarations b.stmts
    pub known : All (KindKnown structs) b.variables.kinds
    pub scope : Grows v.scope b.variables.scope
    pub good : ScopeGood b.variables.scope (seen_through seen b.stmts) b.variables.kinds
    pub typed : (more : List Kind) → Grows b.variables.kinds more → StmtsTyped (around p fs own more) seen (length v.kinds) b.stmts

  -- a block at whose end the scope is as before
  pub record NestedGood (v : Variables) (seen : List ℕ) (b : Block) : Type 0 where
    pub kinds : Grows v.kinds b.variables.kinds
    pub count : length b.variables.kinds ≡ length v.kinds + all_declarations b.stmts
    pub known : All (KindKnown structs) b.variables.kinds
    pub scope : b.variables.scope ≡ v.scope
    pub typed : (more : List Kind) → Grows b.variables.kinds more → StmtsTyped (around p fs own more) seen (length v.kinds) b.stmts

  still-good : (v : Variables) (seen : List ℕ) (r : Result TypedStmt Fault) → All (KindKnown structs) v.kinds → ScopeGood v.scope seen v.kinds
      → ((more : List Kind) → Grows v.kinds more → IfOk r (Still seen (length v.kinds) more)) → IfOk (result_map (still v) r) (StepGood v seen)
  still-good v seen r known good h =
      mapped-keeps (λ s. (more : List Kind) → Grows v.kinds more → Still seen (length v.kinds) more s) (StepGood v seen) (still v) r
      (all-keep (λ more s. Still seen (length v.kinds) more s) (Grows v.kinds) r h)
      (λ s k. let now = k v.kinds (grows-same v.kinds) in
      record {
        kinds = grows-same v.kinds;
        count = omega (arith, now.none);
        known = known;
        scope = grows-same v.scope;
        good = subst (λ (l : List ℕ). ScopeGood v.scope l v.kinds) (sym now.same) good;
        typed = λ more g. (k more g).typed;
      })

  open-good : (v : Variables) (seen : List ℕ) → All (KindKnown structs) v.kinds → ScopeGood v.scope seen v.kinds → BlockGood v seen (empty_block v)
  unfolding StmtsTyped all_declarations
  open-good v seen known good = record {
    kinds = grows-same v.kinds;
    count = omega arith;
    known = known;
    scope = grows-same v.scope;
    good = good;
    typed = λ more g. tt;
  }

  push-good : (v : Variables) (seen : List ℕ) (b : Block) (s : Step) → BlockGood v seen b → StepGood b.variables (seen_through seen b.stmts) s
      → BlockGood v seen (with_step b s)
  push-good v seen b s h k = record {
    kinds = grows-on v.kinds b.variables.kinds s.variables.kinds h.kinds k.kinds;
    count = omega (arith, h.count, k.count, declarations-push b.stmts s.stmt);
    known = k.known;
    scope = grows-on v.scope b.variables.scope s.variables.scope h.scope k.scope;
    good = subst (λ (l : List ℕ). ScopeGood s.variables.scope l s.variables.kinds) (sym (through-push seen b.stmts s.stmt)) k.good;
    typed = λ more g. stmts-push (around p fs own more) b.stmts s.stmt seen (length v.kinds) (length b.variables.kinds)
        (h.typed more (grows-on b.variables.kinds s.variables.kinds more k.kinds g)) h.count (k.typed more g);
  }

  close-good : (v : Variables) (seen : List ℕ) (b : Block) → BlockGood v seen b → NestedGood v seen (block_end (length v.scope) b)
  close-good v seen b h = record {
    kinds = h.kinds;
    count = h.count;
    known = h.known;
    scope = grows-take v.scope b.variables.scope h.scope;
    typed = h.typed;
  }

  pub nested-good : (v : Variables) (seen : List ℕ) (walk : Block → Result Block Fault) → All (KindKnown structs) v.kinds → ScopeGood v.scope seen v.kinds
      → ((b : Block) → BlockGood v seen b → IfOk (walk b) (BlockGood v seen)) → IfOk (inner_block walk v) (NestedGood v seen)
  nested-good v seen walk known good keep =
      mapped-keeps (BlockGood v seen) (NestedGood v seen) (block_end (length v.scope)) (walk (empty_block v)) (keep (empty_block v) (open-good v seen known good))
      (λ b h. close-good v seen b h)

  -- a declaration
  declared-good : (v : Variables) (seen : List ℕ) (at : Span) (name : Ident) (kind : Kind) (t : TypedValue) → All (KindKnown structs) v.kinds
      → ScopeGood v.scope seen v.kinds → KindKnown structs kind
      → ((more : List Kind) → Grows v.kinds more → ValueTyped (around p fs own more) seen kind t) → StepGood v seen (declaration at name kind v t)
  unfolding StmtTyped declarations
  declared-good v seen at name kind t known good here value =
      let one = grows-more v.kinds v.kinds kind (grows-same v.kinds) in
      let kinds = v.kinds ++ kind ∷ [] in
      record {
        kinds = one;
        count = omega (arith, length_push v.kinds kind);
        known = All-push (KindKnown structs) v.kinds kind known here;
        scope = grows-more v.scope v.scope _ (grows-same v.scope);
        good = variable-good v seen name.text kind good;
        typed = λ more g. (refl, grows-get kinds more (length v.kinds) kind g (get-last v.kinds kind), value more (grows-on v.kinds kinds more one g));
      }

  declare-good : (v : Variables) (seen : List ℕ) (at : Span) (name : Ident) (value : Value) (kind : Kind) → All (KindKnown structs) v.kinds
      → ScopeGood v.scope seen v.kinds → KindKnown structs kind → IfOk (declare p own at name value v kind) (StepGood v seen)
  declare-good v seen at name value kind known good here =
      if-keeps (StepGood v seen) (has v.scope name.text) (fault N2 name.span) (result_map (declaration at name kind v) (typed_value p own v.scope kind value)) (λ b. tt)
      (λ n. mapped-keeps (λ t. (more : List Kind) → Grows v.kinds more → ValueTyped (around p fs own more) seen kind t) (StepGood v seen)
      (declaration at name kind v) (typed_value p own v.scope kind value)
      (all-keep (λ more t. ValueTyped (around p fs own more) seen kind t) (Grows v.kinds) (typed_value p own v.scope kind value)
      (λ more g. value-good p fs own more seen v.scope (scope-grows v.scope seen v.kinds more g good) heads all kind value))
      (λ t k. declared-good v seen at name kind t known good here k))

  -- an expression of this type, whatever is declared later
  abbrev Test : Variables → List ℕ → TypedExpr → Type 0
  Test v seen t = (more : List Kind) → Grows v.kinds more → Good p fs own more seen t × (t.kind ≡ Some Int)

  test-good : (v : Variables) (seen : List ℕ) (e : Expr) → ScopeGood v.scope seen v.kinds → IfOk (condition p own v.scope e) (Test v seen)
  test-good v seen e good =
      all-keep (λ more t. Good p fs own more seen t × (t.kind ≡ Some Int)) (Grows v.kinds) (condition p own v.scope e)
      (λ more g. condition-typed p fs own more seen v.scope (scope-grows v.scope seen v.kinds more g good) e)

  back-good : (v : Variables) (seen : List ℕ) (b : Block) → NestedGood v seen b → ScopeGood v.scope seen v.kinds
      → ScopeGood b.variables.scope seen b.variables.kinds
  back-good v seen b h good =
      subst (λ (l : Scope). ScopeGood l seen b.variables.kinds) (sym h.scope) (scope-grows v.scope seen v.kinds b.variables.kinds h.kinds good)

  scope-back : (v : Variables) (seen : List ℕ) (b : Block) → NestedGood v seen b → Grows v.scope b.variables.scope
  scope-back v seen b h = subst (λ (l : Scope). Grows v.scope l) (sym h.scope) (grows-same v.scope)

  if-good : (v : Variables) (seen : List ℕ) (at : Span) (test : TypedExpr) (a b : Block) → ScopeGood v.scope seen v.kinds → Test v seen test
      → NestedGood v seen a → NestedGood a.variables seen b → StepGood v seen (if_step at test a b)
  unfolding StmtTyped declarations hidden-the_row-TypedStmt-0 shape-the_row-TypedStmt-0 denote.Hole.Carrier.hidden
  if-good v seen at test a b good t h k = record {
    kinds = grows-on v.kinds a.variables.kinds b.variables.kinds h.kinds k.kinds;
    count = omega (arith, h.count, k.count, row-declarations a.stmts, row-declarations b.stmts);
    known = k.known;
    scope = subst (λ (l : Scope). Grows v.scope l) (sym k.scope) (scope-back v seen a h);
    good = back-good a.variables seen b k (back-good v seen a h good);
    typed = λ more g.
        let mid = grows-on a.variables.kinds b.variables.kinds more k.kinds g in
        let test = t more (grows-on v.kinds a.variables.kinds more h.kinds mid) in
        let next : length a.variables.kinds ≡ length v.kinds + row_declarations (hidden-the_row-TypedStmt-0 a.stmts) = omega (arith, h.count, row-declarations a.stmts) in (
          test.0,
          test.1,
          row-typed (around p fs own more) a.stmts seen (length v.kinds) (h.typed more mid),
          subst (λ (n : ℕ). RowTyped (around p fs own more) seen n (hidden-the_row-TypedStmt-0 b.stmts)) next
              (row-typed (around p fs own more) b.stmts seen (length a.variables.kinds) (k.typed more g)),
        );
  }

  while-good : (v : Variables) (seen : List ℕ) (at : Span) (test : TypedExpr) (b : Block) → ScopeGood v.scope seen v.kinds → Test v seen test
      → NestedGood v seen b → StepGood v seen (while_step at test b)
  unfolding StmtTyped declarations hidden-the_row-TypedStmt-0 shape-the_row-TypedStmt-0 denote.Hole.Carrier.hidden
  while-good v seen at test b good t h = record {
    kinds = h.kinds;
    count = omega (arith, h.count, row-declarations b.stmts);
    known = h.known;
    scope = scope-back v seen b h;
    good = back-good v seen b h good;
    typed = λ more g.
        let test = t more (grows-on v.kinds b.variables.kinds more h.kinds g) in
        (test.0, test.1, row-typed (around p fs own more) b.stmts seen (length v.kinds) (h.typed more g));
  }

  return-good : (v : Variables) (seen : List ℕ) (at : Span) → All (KindKnown structs) v.kinds → ScopeGood v.scope seen v.kinds
      → StepGood v seen (step (ReturnTyped at) v)
  unfolding StmtTyped declarations
  return-good v seen at known good = record {
    kinds = grows-same v.kinds;
    count = omega arith;
    known = known;
    scope = grows-same v.scope;
    good = good;
    typed = λ more g. tt;
  }

  break-good : (v : Variables) (seen : List ℕ) (at : Span) → All (KindKnown structs) v.kinds → ScopeGood v.scope seen v.kinds
      → StepGood v seen (step (BreakTyped at) v)
  unfolding StmtTyped declarations
  break-good v seen at known good = record {
    kinds = grows-same v.kinds;
    count = omega arith;
    known = known;
    scope = grows-same v.scope;
    good = good;
    typed = λ more g. tt;
  }

  continue-good : (v : Variables) (seen : List ℕ) (at : Span) → All (KindKnown structs) v.kinds → ScopeGood v.scope seen v.kinds
      → StepGood v seen (step (ContinueTyped at) v)
  unfolding StmtTyped declarations
  continue-good v seen at known good = record {
    kinds = grows-same v.kinds;
    count = omega arith;
    known = known;
    scope = grows-same v.scope;
    good = good;
    typed = λ more g. tt;
  }

  mutual
    unfolding typed_stmt

    pub stmt-good : (s : Stmt) (v : Variables) (seen : List ℕ) → All (KindKnown structs) v.kinds → ScopeGood v.scope seen v.kinds
        → IfOk (typed_stmt p own s v) (StepGood v seen)
    stmt-good (Declare at form name value) v seen known good =
        after-keeps (KindKnown structs) (StepGood v seen) (declare p own at name value v) (kind_of p.names form) (kind-known p.names structs all form)
        (λ kind here. declare-good v seen at name value kind known good here)
    stmt-good (Assign name value) v seen known good =
        still-good v seen (assign p own v.scope name value) known good
        (λ more g. let here = scope-grows v.scope seen v.kinds more g good in
        assigned-still more seen (length v.kinds) v.scope here name value (lookup (bytes_eq name.text) v.scope) (All-lookup (VariableGood seen more) (bytes_eq name.text) v.scope here))
    stmt-good (SetField at left name e) v seen known good =
        still-good v seen (set_field p own v.scope at left name e) known good
        (λ more g. set-still more seen (length v.kinds) v.scope (scope-grows v.scope seen v.kinds more g good) at left name e)
    stmt-good (Write at place e) v seen known good =
        still-good v seen (write p own v.scope at place e) known good
        (λ more g. write-still more seen (length v.kinds) v.scope (scope-grows v.scope seen v.kinds more g good) at place e)
    stmt-good (Call name args) v seen known good =
        still-good v seen (call p own v.scope name args) known good
        (λ more g. called-still more seen (length v.kinds) v.scope (scope-grows v.scope seen v.kinds more g good) name args (find p.functions name.text) (find-place p.functions name.text))
    stmt-good (If' at test _ first _ second) v seen known good =
        after-keeps (Test v seen) (StepGood v seen)
        (branch at (inner_block (typed_row p own first)) (inner_block (typed_row p own second)) v)
        (condition p own v.scope test) (test-good v seen test good)
        (λ t h. after-keeps (NestedGood v seen) (StepGood v seen) (choose at t (inner_block (typed_row p own second))) (inner_block (typed_row p own first) v)
        (nested-good v seen (typed_row p own first) known good (row-good first v seen))
        (λ a k. mapped-keeps (NestedGood a.variables seen) (StepGood v seen) (if_step at t a) (inner_block (typed_row p own second) a.variables)
        (nested-good a.variables seen (typed_row p own second) k.known (back-good v seen a k good) (row-good second a.variables seen))
        (λ b l. if-good v seen at t a b good h k l)))
    stmt-good (While' at test _ body) v seen known good =
        after-keeps (Test v seen) (StepGood v seen) (loop at (inner_block (typed_row p own body)) v) (condition p own v.scope test) (test-good v seen test good)
        (λ t h. mapped-keeps (NestedGood v seen) (StepGood v seen) (while_step at t) (inner_block (typed_row p own body) v)
        (nested-good v seen (typed_row p own body) known good (row-good body v seen))
        (λ b k. while-good v seen at t b good h k))
    stmt-good (Return at) v seen known good = return-good v seen at known good
    stmt-good (Break at) v seen known good = break-good v seen at known good
    stmt-good (Continue at) v seen known good = continue-good v seen at known good

    row-good : {n : _} → (row : Row_of-Stmt n) (v : Variables) (seen : List ℕ) (b : Block) → BlockGood v seen b → IfOk (typed_row p own row b) (BlockGood v seen)
    row-good end_of-Stmt v seen b h = h
    row-good (more_of-Stmt s rest) v seen b h =
        after-keeps (BlockGood v seen) (BlockGood v seen) (typed_row p own rest) (result_map (with_step b) (typed_stmt p own s b.variables))
        (mapped-keeps (StepGood b.variables (seen_through seen b.stmts)) (BlockGood v seen) (with_step b) (typed_stmt p own s b.variables)
        (stmt-good s b.variables (seen_through seen b.stmts) h.known h.good) (λ st k. push-good v seen b st h k))
        (row-good rest v seen)

  -- the statements of a block one after another
  pub stmts-good : (xs : List Stmt) (v : Variables) (seen : List ℕ) (b : Block) → BlockGood v seen b → IfOk (typed_stmts p own xs b) (BlockGood v seen)
  stmts-good xs v seen = turn-keeps (with_stmt p own) (BlockGood v seen)
      (λ s b h. mapped-keeps (StepGood b.variables (seen_through seen b.stmts)) (BlockGood v seen) (with_step b) (typed_stmt p own s b.variables)
      (stmt-good s b.variables (seen_through seen b.stmts) h.known h.good) (λ st k. push-good v seen b st h k))
      xs
