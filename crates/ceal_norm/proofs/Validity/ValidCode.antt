-- The structs and functions of the code are right.
use Rattle.std.proofs.Common.{◌≡◌, ℕ, zero, suc, ◌+◌, ◌<◌, ◌≤◌, ◌==◌, true, Some, IfSome, List, [], ◌∷◌, length, map, take, replicate, slice_get, unwrap_or, All, refl, sym, ap, ◌∙◌, subst, arith}
use Rattle.std.proofs.lemmas.Bool.{lt-ltb, le-leb}
use Rattle.std.proofs.lemmas.List.{length-take-le}
use Rattle.std.proofs.lemmas.List.Elements.{All-head, All-tail, All-take}
use Rattle.ceal_base.specs.Usage.{FunctionUsage, KeepsUsage}
use Rattle.ceal_base.specs.WellTyped.{KindKnown, FieldKnown, IsCell, RowWhole, RowsWhole, FunctionTyped, StructTyped, WellTyped, context_of, numbers_below}
use Rattle.ceal_base.specs.declared.kind.FieldKind.{FieldKind}
use Rattle.ceal_base.specs.declared.kind.FieldKind.TheVariants.{Plain as PlainField, CellInt, CellPtr}
use Rattle.ceal_base.specs.declared.kind.Kind.{Kind}
use Rattle.ceal_base.specs.declared.kind.Kind.TheVariants.{Int, Ptr, ModInt, ModPtr}
use Rattle.ceal_base.specs.declared.typed.FieldInfo.{FieldInfo}
use Rattle.ceal_base.specs.declared.typed.StructInfo.{StructInfo}
use Rattle.ceal_base.specs.declared.typed.Typed.{Typed}
use Rattle.ceal_base.specs.declared.typed.TypedFunction.{TypedFunction}
use Rattle.ceal_code.proofs.Words.SameIsEqual.{both-true, nat-refl}
use Rattle.ceal_code.specs.Program.{Code}
use Rattle.ceal_code.specs.Value.{is_cell}
use Rattle.ceal_code.specs.Valid.{kind_ok, kinds_ok, field_ok, fields_ok, same_field, row_goes_on, row_whole, rows_ok}
use Rattle.ceal_code.specs.Valid.{structs_ok, is_prefix, entry_ok, function_ok, functions_ok, units_ok, valid, stmts_ok}
use Rattle.ceal_flow.specs.Live.{AreLiveSets}
use Rattle.ceal_flow.specs.Lowering.{core_at, graph_of}
use Rattle.ceal_flow.specs.Sets.{is_in, set_at}
use Rattle.ceal_flow.specs.declared.function.GraphFunction.{GraphFunction}
use Rattle.ceal_flow.specs.declared.function.GraphFunction.TheVariants.{Init}
use Rattle.ceal_flow.proofs.Placing.{made-at, all-at}
use Rattle.ceal_norm.specs.Expressions.{all_init_code}
use Rattle.ceal_norm.specs.Laws.{IsForward, source_of}
use Rattle.ceal_norm.specs.Units.{Source, function_code, kinds_code, code_of}
use Rattle.ceal_norm.proofs.Validity.ExpressionTypes.{kind-refl}
use Rattle.ceal_norm.proofs.Validity.KnownVariables.{all-below}
use Rattle.ceal_norm.proofs.Validity.RightCommands.{seen-live, owner-is, unit-is, entry-of, entry-is, numbers-less}
use Rattle.ceal_norm.proofs.Validity.RightInitialisers.{body-right}
use Rattle.ceal_norm.proofs.Jumps.FunctionOfBlock.{functions-there}
use Rattle.ceal_norm.proofs.Validity.StatementsAtEntries.{Function, function-of, Sort, core, initialiser, sort-of, init-function, init-usage, entry-spot}
use Rattle.ceal_norm.proofs.Validity.UnitsOfEntries.{units-all}
use Rattle.ceal_norm.proofs.Validity.RightTrees.{unit-right}

-- rows are whole
field-same : (k : FieldKind) → same_field k k ≡ true
field-same (PlainField kind) = kind-refl kind
field-same CellInt = refl
field-same (CellPtr s) = nat-refl s

cell-right : (k : FieldKind) → IsCell k → is_cell (Some k) ≡ true
cell-right (PlainField kind) h = absurd h
cell-right CellInt h = refl
cell-right (CellPtr s) h = refl

abbrev InRow : FieldKind → FieldInfo → Type 0
InRow kind f = (f.kind ≡ kind) × (f.row ≡ 0)

row-on : (n : ℕ) (kind : FieldKind) (rest : List FieldInfo) → n ≤ length rest → All (InRow kind) (take n rest) → row_goes_on n kind rest ≡ true
unfolding row_goes_on
row-on zero kind rest l h = refl
row-on (suc n) kind [] l h = absurd (omega (arith, l))
row-on (suc n) kind (f ∷ rest) l h =
    let here = All-head (InRow kind) f (take n rest) h in
    both-true _ _ (both-true _ _ (ap (same_field kind) here.0 ∙ field-same kind) (ap (λ n. n == 0) here.1))
    (row-on n kind rest (omega (arith, l)) (All-tail (InRow kind) f (take n rest) h))

row-right : (n : ℕ) (kind : FieldKind) (rest : List FieldInfo) → RowWhole n kind rest → row_whole n kind rest ≡ true
row-right zero kind rest h = refl
row-right (suc n) kind rest h = both-true _ _ (cell-right kind h.0) (row-on n kind rest h.1 h.2)

rows-right : (fs : List FieldInfo) → RowsWhole fs → rows_ok fs ≡ true
unfolding RowsWhole rows_ok
rows-right [] h = refl
rows-right (f ∷ rest) h = both-true _ _ (row-right f.row f.kind rest h.0) (rows-right rest h.1)

module _ (structs : List StructInfo) where
  kind-right : (k : Kind) → KindKnown structs k → kind_ok structs k ≡ true
  kind-right Int h = refl
  kind-right (Ptr s) h = lt-ltb s (length structs) h
  kind-right ModInt h = refl
  kind-right (ModPtr s) h = lt-ltb s (length structs) h

  kinds-right : (ks : List Kind) → All (KindKnown structs) ks → kinds_ok structs ks ≡ true
  unfolding kinds_ok
  kinds-right [] h = refl
  kinds-right (k ∷ ks) h = both-true _ _ (kind-right k (All-head (KindKnown structs) k ks h)) (kinds-right ks (All-tail (KindKnown structs) k ks h))

  abbrev KnownIn : FieldKind → Type 0
  KnownIn (PlainField kind) = KindKnown structs kind
  KnownIn CellInt = Unit {0}
  KnownIn (CellPtr s) = s < length structs

  field-right : (k : FieldKind) → KnownIn k → field_ok structs k ≡ true
  field-right (PlainField kind) h = kind-right kind h
  field-right CellInt h = refl
  field-right (CellPtr s) h = lt-ltb s (length structs) h

  fields-right : (fs : List FieldInfo) → All (FieldKnown structs) fs → fields_ok structs fs ≡ true
  unfolding fields_ok
  fields-right [] h = refl
  fields-right (f ∷ fs) h = both-true _ _ (field-right f.kind (All-head (FieldKnown structs) f fs h)) (fields-right fs (All-tail (FieldKnown structs) f fs h))

  structs-right : (rest : List StructInfo) → All (StructTyped structs) rest → structs_ok structs rest ≡ true
  unfolding structs_ok
  structs-right [] h = refl
  structs-right (s ∷ rest) h =
      let t = All-head (StructTyped structs) s rest h in
      both-true _ _ (both-true _ _ (le-leb (length s.fields) 255 t.few) (both-true _ _ (fields-right s.fields t.fields) (rows-right s.fields t.rows)))
      (structs-right rest (All-tail (StructTyped structs) s rest h))

prefix-right : (n : ℕ) (ks : List Kind) → is_prefix (take n ks) ks ≡ true
unfolding is_prefix
prefix-right zero ks = refl
prefix-right (suc n) [] = refl
prefix-right (suc n) (k ∷ ks) = both-true _ _ (kind-refl k) (prefix-right n ks)

functions-all : (c : Code) (s : Source) (k : ℕ) (gs : List GraphFunction)
    → ((j : ℕ) (x : GraphFunction) → slice_get gs j ≡ Some x → function_ok c (k + j) (function_code s x) (kinds_code x) ≡ true)
    → functions_ok c k (map (function_code s) gs) (map kinds_code gs) ≡ true
unfolding functions_ok
functions-all c s k [] h = refl
functions-all c s k (x ∷ gs) h =
    let z : k + 0 ≡ k = omega arith in
    both-true _ _ (subst (λ i. function_ok c i (function_code s x) (kinds_code x) ≡ true) z (h 0 x refl))
    (functions-all c s (k + 1) gs (λ j y e. let m : k + suc j ≡ k + 1 + j = omega arith in subst (λ i. function_ok c i (function_code s y) (kinds_code y) ≡ true) m (h (suc j) y e)))

module _ (p : Typed) (typed : WellTyped p) (kept : KeepsUsage p) (sets : List (List ℕ)) (live : AreLiveSets (graph_of p).blocks sets) where
  abbrev src : Source
  src = source_of p sets

  abbrev code : Code
  code = code_of src

  abbrev Sound : ℕ → GraphFunction → Type 0
  Sound k x = function_ok code k (function_code src x) (kinds_code x) ≡ true

  core-right : (k : ℕ) (fn : Function p k) → Sound k (core_at fn.f fn.home.start)
  core-right k fn =
      let first = entry-of p typed kept sets live k fn in
      let seen = numbers_below fn.f.params in
      let numbered = fn.typed.numbered in
      let few : fn.f.params ≤ length fn.f.kinds = omega (arith, numbered) in
      let long : length (take fn.f.params fn.f.kinds) ≡ fn.f.params = length-take-le fn.f.params fn.f.kinds few in
      let less : (v : ℕ) → is_in v (set_at sets first) ≡ true → v < length (take fn.f.params fn.f.kinds) =
      λ v h. subst (λ n. v < n) (sym long) (numbers-less fn.f.params v (seen-live p typed kept sets live k fn seen first v fn.first h).0) in
      both-true _ _ (both-true _ _ (prefix-right fn.f.params fn.f.kinds) (kinds-right p.structs fn.f.kinds fn.typed.kinds))
      (ap (entry_ok k (length (take fn.f.params fn.f.kinds))) (unit-is p typed kept sets live k fn seen first fn.first (entry-is p typed kept sets live k fn))
      ∙ both-true _ _ (rw (owner-is p typed kept sets live k fn seen first fn.first) (nat-refl k)) (all-below (length (take fn.f.params fn.f.kinds)) (set_at sets first) less))

  init-right : (k : ℕ) (f : TypedFunction) (s : ℕ) → slice_get p.functions k ≡ Some f → f.initialiser ≡ Some s → Sound k (Init f)
  init-right k f s is e =
      let t = all-at (FunctionTyped p.structs p.functions) p.functions k f typed.functions is in
      let usage = init-usage p.functions f s e (all-at (FunctionUsage p.functions) p.functions k f kept is) in
      let numbered = t.numbered in
      let few : f.params ≤ length f.kinds = omega (arith, numbered) in
      let own : s < length p.structs = subst (λ o. IfSome o (λ r. r < length p.structs)) e t.own in
      let named : unwrap_or f.initialiser 0 ≡ s = ap (λ o. unwrap_or o 0) e in
      let body = body-right (context_of p.structs p.functions f) s f.params e few f.params f.body usage t.body in
      both-true _ _ (kinds-right p.structs (take f.params f.kinds) (All-take (KindKnown p.structs) f.params f.kinds t.kinds))
      (both-true _ _ (rw named (lt-ltb s (length p.structs) own))
      (subst (λ n. stmts_ok p.structs (take f.params f.kinds) (replicate (length (take f.params f.kinds)) true) n (all_init_code f.body) ≡ true) (sym named) body))

  function-right : (k : ℕ) (x : GraphFunction) (f : TypedFunction) → slice_get (graph_of p).functions k ≡ Some x → slice_get p.functions k ≡ Some f → Sort f → Sound k x
  function-right k x f there is (core none) =
      let fn = function-of p typed kept k f is none in
      let same : core_at fn.f fn.home.start ≡ x = cc (fn.home.function, there) in
      subst (λ y. Sound k y) same (core-right k fn)
  function-right k x f there is (initialiser s e) =
      let m = made-at p.functions k f is in
      let made : slice_get (graph_of p).functions k ≡ Some (Init f) = m.function ∙ ap Some (init-function f m.start s e) in
      let same : Init f ≡ x = cc (made, there) in
      subst (λ y. Sound k y) same (init-right k f s is e)

  functions-right : functions_ok code 0 code.functions code.kinds ≡ true
  functions-right =
      functions-all code src 0 (graph_of p).functions (λ j x e.
      let z : j ≡ 0 + j = omega arith in
      let f = functions-there p.functions 0 j x e in
      subst (λ i. Sound i x) z (function-right j x f.0 e f.1 (sort-of f.0)))

  units-right : IsForward (graph_of p) → units_ok code code.units ≡ true
  units-right forward =
      units-all src code (length (graph_of p).blocks) (λ b e l.
      let spot = entry-spot p typed kept b e in
      unit-right p typed kept sets live forward spot.k spot.function spot.seen b spot.stands)

  -- the code of a program is valid
  pub code-valid : IsForward (graph_of p) → valid (code_of (source_of p sets)) ≡ true
  unfolding valid
  code-valid forward = both-true _ _ (structs-right p.structs p.structs typed.structs) (both-true _ _ functions-right (units-right forward))
