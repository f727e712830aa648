-- A program that the walk gives is well typed.
use Rattle.std.proofs.Common.{◌≡◌, ℕ, ◌≤◌, arith, Option, Some, None, Result, Ok, Err, List, [], ◌∷◌, ◌++◌, All, map, slice_get, length, refl, sym, subst, ap, ◌∙◌}
use Rattle.std.specs.Prelude.{IfOk}
use Rattle.std.specs.List.{IsDistinct}
use Rattle.std.specs.Map.{keys_of}
use Rattle.std.specs.Option.{option_map}
use Rattle.std.proofs.lemmas.List.{map-append}
use Rattle.std.proofs.lemmas.List.Elements.{All-push, All-map}
use Rattle.std.proofs.lemmas.Option.{slice_get-map}
use Rattle.ceal_base.specs.Answers.{Gives}
use Rattle.ceal_base.specs.WellTyped.{FunctionTyped, StructTyped, WellTyped, param_kinds, numbers_below, struct_name, function_name}
use Rattle.ceal_base.specs.declared.fault.Fault.{Fault}
use Rattle.ceal_base.specs.declared.fault.FaultCode.TheVariants.{N2}
use Rattle.ceal_base.specs.declared.fault.FrontError.{FrontError}
use Rattle.ceal_base.specs.declared.kind.Kind.{Kind}
use Rattle.ceal_base.specs.declared.syntax.Entry.{Entry}
use Rattle.ceal_base.specs.declared.syntax.Entry.TheVariants.{Struct, Function}
use Rattle.ceal_base.specs.declared.syntax.FunctionDecl.{FunctionDecl}
use Rattle.ceal_base.specs.declared.syntax.StructDecl.{StructDecl}
use Rattle.ceal_base.specs.declared.syntax.Tree.{Tree}
use Rattle.ceal_base.specs.declared.typed.StructInfo.{StructInfo}
use Rattle.ceal_base.specs.declared.typed.Typed.{Typed}
use Rattle.ceal_base.specs.declared.typed.TypedFunction.{TypedFunction}
use Rattle.ceal_types.specs.Checked.{struct_info, function_of, function_body, typed_function, with_body, program_of, bodies, checked}
use Rattle.ceal_types.specs.Expressions.{Fields}
use Rattle.ceal_types.specs.Heads.{with_field, head_of, with_struct, with_function, with_entry, struct_names, no_entries, heads}
use Rattle.ceal_types.specs.Limits.{IsShort, HasShortLists}
use Rattle.ceal_types.specs.Statements.{inner_block, typed_stmts}
use Rattle.ceal_types.specs.Tables.{Name, has, second}
use Rattle.ceal_types.specs.Walk.{fault, result_map, in_turn, at_end}
use Rattle.ceal_types.specs.declared.program.Head.{Head}
use Rattle.ceal_types.specs.declared.program.Program.{Program}
use Rattle.ceal_types.proofs.Walks.LongerList.{grows-same, grows-take}
use Rattle.ceal_types.proofs.Typing.HeadTyped.{HeadGood, head-good, ProgramGood, entries-good, entries-names}
use Rattle.ceal_types.proofs.Walks.WalkKeeps.{after-keeps, mapped-keeps, if-keeps, any-ok, ok-self, ok-at, after-ok, turn-keeps-each}
use Rattle.ceal_types.proofs.Typing.KindsGrow.{BlockGrows, body-grows}
use Rattle.ceal_types.proofs.Typing.StatementTyped.{NestedGood, nested-good, stmts-good}
use Rattle.ceal_types.proofs.Typing.ValueTyped.{HasHead, HeadsMatch}

-- what a function shows of its head
pub record View : Type 0 where
  pub name : Name
  pub own : Option ℕ
  pub kinds : List Kind

unfoldable pub view : TypedFunction → View
view t = record { name = t.name.text; own = t.initialiser; kinds = param_kinds t }

unfoldable pub head_view : Name × Head → View
head_view h = record { name = h.0; own = h.1.own; kinds = h.1.parameters.kinds }

pub view_name : View → Name
view_name v = v.name

-- a function is typed with the head of its declaration
record Headed (names : List Name) (f : FunctionDecl) (t : TypedFunction) : Type 0 where
  head : Head
  is : head_of names f ≡ Ok head
  same : view t ≡ head_view (f.name.text, head)

function-headed : (p : Program) (f : FunctionDecl) → IfOk (typed_function p f) (Headed p.names f)
unfolding typed_function view head_view
function-headed p f =
    after-keeps (λ h. head_of p.names f ≡ Ok h) (Headed p.names f) (function_body p f) (head_of p.names f) (ok-self (head_of p.names f))
    (λ h is. mapped-keeps (BlockGrows h.parameters) (Headed p.names f) (function_of f h) (inner_block (typed_stmts p h.own f.body) h.parameters)
    (body-grows p h.own f.body h.parameters)
    (λ b grows. record {
      head = h;
      is = is;
      same = ap (λ (kinds : List Kind). record { name = f.name.text; own = h.own; kinds = kinds }) (grows-take h.parameters.kinds b.variables.kinds grows);
    }))

-- one more function of the heads, and of the bodies
pub record HeadAdded (f : FunctionDecl) (q r : Program) : Type 0 where
  pub head : Head
  pub is : head_of q.names f ≡ Ok head
  pub names : r.names ≡ q.names
  pub functions : r.functions ≡ q.functions ++ (f.name.text, head) ∷ []

pub head-added : (f : FunctionDecl) (q : Program) → IfOk (with_entry (Function f) q) (HeadAdded f q)
unfolding with_entry
head-added f q =
    if-keeps (HeadAdded f q) (has q.functions f.name.text) (fault N2 f.name.span) (result_map (with_function q f.name.text) (head_of q.names f)) (λ b. tt)
    (λ none. mapped-keeps (λ h. head_of q.names f ≡ Ok h) (HeadAdded f q) (with_function q f.name.text) (head_of q.names f) (ok-self (head_of q.names f))
    (λ h is. record { head = h; is = is; names = refl; functions = refl }))

record BodyAdded (p : Program) (f : FunctionDecl) (gs hs : List TypedFunction) : Type 0 where
  function : TypedFunction
  headed : Headed p.names f function
  functions : hs ≡ gs ++ function ∷ []

body-added : (p : Program) (f : FunctionDecl) (gs : List TypedFunction) → IfOk (with_body p (Function f) gs) (BodyAdded p f gs)
unfolding with_body
body-added p f gs =
    mapped-keeps (Headed p.names f) (BodyAdded p f gs) (at_end gs) (typed_function p f) (function-headed p f)
    (λ t h. record { function = t; headed = h; functions = refl })

pub struct-added : (s : StructDecl) (q : Program) → IfOk (with_entry (Struct s) q) (λ r. (r.names ≡ q.names) × (r.functions ≡ q.functions))
unfolding with_entry
struct-added s q =
    if-keeps (λ r. (r.names ≡ q.names) × (r.functions ≡ q.functions)) (has q.structs s.name.text) (fault N2 s.name.span)
    (result_map (with_struct q s.name.text) (in_turn (with_field q.names) s.fields [])) (λ b. tt)
    (λ none. mapped-keeps (λ v. Unit {0}) (λ r. (r.names ≡ q.names) × (r.functions ≡ q.functions)) (with_struct q s.name.text) (in_turn (with_field q.names) s.fields [])
    (any-ok (in_turn (with_field q.names) s.fields [])) (λ v u. (refl, refl)))

pub same-ok : {A : Type 0} (x y : A) → ◌≡◌ {A = Result A Fault} (Ok x) (Ok y) → x ≡ y
same-ok x y h = cc

-- the functions so far show the heads so far
pub record Shown (p q : Program) (gs : List TypedFunction) : Type 0 where
  pub names : q.names ≡ p.names
  pub views : map view gs ≡ map head_view q.functions

shown-entry : (p : Program) (e : Entry) (q r : Program) (gs hs : List TypedFunction) → Shown p q gs → with_entry e q ≡ Ok r → with_body p e gs ≡ Ok hs → Shown p r hs
unfolding with_body
shown-entry p (Struct s) q r gs hs shown heads here =
    let added = ok-at (λ (x : Program). (x.names ≡ q.names) × (x.functions ≡ q.functions)) (with_entry (Struct s) q) r heads (struct-added s q) in
    let same = same-ok gs hs here in
    record {
      names = added.0 ∙ shown.names;
      views = rw (← same, added.1) shown.views;
    }
shown-entry p (Function f) q r gs hs shown heads here =
    let added = ok-at (HeadAdded f q) (with_entry (Function f) q) r heads (head-added f q) in
    let body = ok-at (BodyAdded p f gs) (with_body p (Function f) gs) hs here (body-added p f gs) in
    let is : head_of p.names f ≡ Ok added.head = subst (λ (l : List Name). head_of l f ≡ Ok added.head) shown.names added.is in
    let one = same-ok body.headed.head added.head (sym body.headed.is ∙ is) in
    let last : view body.function ≡ head_view (f.name.text, added.head) = body.headed.same ∙ ap (λ (h : Head). head_view (f.name.text, h)) one in
    record {
      names = added.names ∙ shown.names;
      views = rw (body.functions, added.functions, map-append view gs (body.function ∷ []), map-append head_view q.functions ((f.name.text, added.head) ∷ []), shown.views, last) refl;
    }

pub shown-all : (p : Program) (entries : List Entry) (q r : Program) (gs hs : List TypedFunction) → Shown p q gs
    → in_turn with_entry entries q ≡ Ok r → in_turn (with_body p) entries gs ≡ Ok hs → Shown p r hs
unfolding in_turn
shown-all p [] q r gs hs shown heads here =
    let a = same-ok q r heads in
    let b = same-ok gs hs here in
    record { names = ap (λ (x : Program). x.names) (sym a) ∙ shown.names; views = rw (← b, ← a) shown.views }
shown-all p (e ∷ rest) q r gs hs shown heads here =
    let a = after-ok (in_turn with_entry rest) (with_entry e q) r heads in
    let b = after-ok (in_turn (with_body p) rest) (with_body p e gs) hs here in
    shown-all p rest a.0 r b.0 hs (shown-entry p e q a.0 gs b.0 shown a.1 b.1) a.2 b.2

-- so each function has its head
has-head : (fs : List TypedFunction) (n : ℕ) (name : Name) (f : Head) (o : Option TypedFunction) → slice_get fs n ≡ o
    → option_map view o ≡ Some (head_view (name, f)) → HasHead fs n f
unfolding view head_view
has-head fs n name f None there h = cc
has-head fs n name f (Some t) there h =
    let same = some-same (view t) (head_view (name, f)) h in
    record { function = t; there = there; own = ap (λ (v : View). v.own) same; kinds = ap (λ (v : View). v.kinds) same }
  where
    some-same : (a b : View) → Some a ≡ Some b → a ≡ b
    some-same a b p = cc

value-there : (heads : List (Name × Head)) (n : ℕ) (f : Head) (o : Option (Name × Head)) → slice_get heads n ≡ o → option_map second o ≡ Some f
    → (name : Name) × (slice_get heads n ≡ Some (name, f))
value-there heads n f None is h = cc
value-there heads n f (Some e) is h = (e.0, is ∙ ap (λ (g : Head). Some (e.0, g)) (some-same e.1 f h))
  where
    some-same : (a b : Head) → Some a ≡ Some b → a ≡ b
    some-same a b p = cc

pub heads-match : (heads : List (Name × Head)) (fs : List TypedFunction) → map view fs ≡ map head_view heads → HeadsMatch heads fs
heads-match heads fs views n f h =
    let there = value-there heads n f (slice_get heads n) refl h in
    let at : option_map view (slice_get fs n) ≡ Some (head_view (there.0, f)) =
    sym (slice_get-map view fs n) ∙ ap (λ (l : List View). slice_get l n) views ∙ slice_get-map head_view heads n ∙ ap (option_map head_view) there.1 in
    has-head fs n there.0 f (slice_get fs n) refl at

pub names-of-functions : (fs : List TypedFunction) → map function_name fs ≡ map view_name (map view fs)
unfolding view view_name
names-of-functions [] = refl
names-of-functions (f ∷ fs) = ap (λ (l : List Name). f.name.text ∷ l) (names-of-functions fs)

pub names-of-heads : (heads : List (Name × Head)) → map view_name (map head_view heads) ≡ keys_of heads
unfolding head_view view_name
names-of-heads [] = refl
names-of-heads (h ∷ heads) = ap (λ (l : List Name). h.0 ∷ l) (names-of-heads heads)

pub names-of-structs : (structs : List (Name × Fields)) → map struct_name (map struct_info structs) ≡ keys_of structs
names-of-structs [] = refl
names-of-structs (s ∷ structs) = ap (λ (l : List Name). s.0 ∷ l) (names-of-structs structs)

length-map : {A B : Type 0} (f : A → B) (xs : List A) → length (map f xs) ≡ length xs
length-map f [] = refl
length-map f (x ∷ xs) = omega (arith, length-map f xs)

module _ (p : Program) (fs : List TypedFunction) (matching : HeadsMatch p.functions fs) (all : length p.names ≤ length (map struct_info p.structs)) where
  function-typed : (f : FunctionDecl) → length f.params ≤ 255 → IfOk (typed_function p f) (FunctionTyped (map struct_info p.structs) fs)
  unfolding typed_function
  function-typed f few =
      after-keeps (HeadGood p.names (map struct_info p.structs) all) (FunctionTyped (map struct_info p.structs) fs) (function_body p f) (head_of p.names f)
      (head-good p.names (map struct_info p.structs) all f few)
      (λ h good. let seen = numbers_below (length h.parameters.kinds) in
      mapped-keeps (NestedGood p fs h.own matching all h.parameters seen) (FunctionTyped (map struct_info p.structs) fs) (function_of f h)
      (inner_block (typed_stmts p h.own f.body) h.parameters)
      (nested-good p fs h.own matching all h.parameters seen (typed_stmts p h.own f.body) good.parameters.known good.parameters.good
      (stmts-good p fs h.own matching all f.body h.parameters seen))
      (λ b k. record {
        own = good.own;
        kinds = k.known;
        few = good.few;
        numbered = sym k.count;
        body = k.typed b.variables.kinds (grows-same b.variables.kinds);
      }))

  body-typed : (e : Entry) (gs : List TypedFunction) → IsShort e → All (FunctionTyped (map struct_info p.structs) fs) gs
      → IfOk (with_body p e gs) (All (FunctionTyped (map struct_info p.structs) fs))
  unfolding with_body
  body-typed (Struct s) gs few h = h
  body-typed (Function f) gs few h =
      mapped-keeps (FunctionTyped (map struct_info p.structs) fs) (All (FunctionTyped (map struct_info p.structs) fs)) (at_end gs) (typed_function p f)
      (function-typed f few) (λ t k. All-push (FunctionTyped (map struct_info p.structs) fs) gs t h k)

  bodies-typed : (entries : List Entry) → All IsShort entries → IfOk (in_turn (with_body p) entries []) (All (FunctionTyped (map struct_info p.structs) fs))
  bodies-typed entries short =
      turn-keeps-each (with_body p) IsShort (All (FunctionTyped (map struct_info p.structs) fs)) body-typed entries short [] (λ k d l. absurd (omega arith))

first-good : (names : List Name) (structs : List StructInfo) (all : length names ≤ length structs) → ProgramGood names structs all (no_entries names)
unfolding IsDistinct
first-good names structs all = record { same_names = refl; struct_names = tt; function_names = tt; typed = λ k d l. absurd (omega arith) }

-- the walk of the heads has given p, and that of the bodies fs
program-typed : (entries : List Entry) (p : Program) (fs : List TypedFunction) → All IsShort entries
    → in_turn with_entry entries (no_entries (struct_names entries [])) ≡ Ok p → in_turn (with_body p) entries [] ≡ Ok fs → WellTyped (program_of p fs)
program-typed entries p fs short heads here =
    let names = struct_names entries [] in
    let structs = map struct_info p.structs in
    let keys : struct_names entries [] ≡ keys_of p.structs =
    ok-at (λ (q : Program). struct_names entries [] ≡ keys_of q.structs) (in_turn with_entry entries (no_entries (struct_names entries []))) p heads
    (entries-names entries (no_entries (struct_names entries []))) in
    let count : length (struct_names entries []) ≤ length (map struct_info p.structs) =
    omega (arith, ap length keys, length-map struct_info p.structs, length-map (λ (e : Name × Fields). e.0) p.structs) in
    let good = ok-at (ProgramGood names structs count) (in_turn with_entry entries (no_entries names)) p heads
    (entries-good names structs count entries short (no_entries names) (first-good names structs count)) in
    let all : length p.names ≤ length (map struct_info p.structs) = omega (arith, ap length good.same_names, count) in
    let shown = shown-all p entries (no_entries names) p [] fs (record { names = sym good.same_names; views = refl }) heads here in
    let matching = heads-match p.functions fs shown.views in
    record {
      struct_names = rw (names-of-structs p.structs) good.struct_names;
      function_names = rw (names-of-functions fs, shown.views, names-of-heads p.functions) good.function_names;
      structs = All-map (StructTyped (map struct_info p.structs)) struct_info p.structs good.typed;
      functions = ok-at (All (FunctionTyped (map struct_info p.structs) fs)) (in_turn (with_body p) entries []) fs here (bodies-typed p fs matching all entries short);
    }

pub checked-typed : (tree : Tree) → HasShortLists tree → IfOk (checked tree) WellTyped
unfolding checked heads
checked-typed tree short =
    after-keeps (λ p. in_turn with_entry tree.entries (no_entries (struct_names tree.entries [])) ≡ Ok p) WellTyped (bodies tree.entries)
    (in_turn with_entry tree.entries (no_entries (struct_names tree.entries []))) (ok-self _)
    (λ p heads. mapped-keeps (λ fs. in_turn (with_body p) tree.entries [] ≡ Ok fs) WellTyped (program_of p) (in_turn (with_body p) tree.entries []) (ok-self _)
    (λ fs here. program-typed tree.entries p fs short heads here))

-- and so is what was answered
pub answered-typed : (tree : Tree) (program : Typed) → HasShortLists tree → checked tree ≡ Ok program → WellTyped program
answered-typed tree program short is = ok-at WellTyped (checked tree) program is (checked-typed tree short)

-- where a program was answered, it is well typed
pub given-typed : (tree : Tree) (r : Result Typed FrontError) → Gives r (checked tree) → HasShortLists tree → IfOk r WellTyped
given-typed tree (Ok program) given short = answered-typed tree program short given
given-typed tree (Err e) given short = tt
