-- Names and their numbers in the walk's tables, and in the program.
use Rattle.std.proofs.Common.{◌≡◌, ℕ, Bool, true, false, Option, Some, None, Result, Ok, Err, List, [], ◌∷◌, ◌++◌, map, position, slice_get, refl, sym, ap, ◌∙◌, cond, if◌then◌else◌}
use Rattle.std.specs.Prelude.{IfOk, is_some}
use Rattle.std.specs.Map.{keys_of, lookup}
use Rattle.std.specs.Option.{option_map}
use Rattle.std.specs.Str.{bytes_eq}
use Rattle.std.proofs.lemmas.Bool.{true≢false}
use Rattle.std.proofs.lemmas.Bool.Decides.{Decides-eqb}
use Rattle.std.proofs.lemmas.Option.{slice_get-map}
use Rattle.ceal_base.specs.WellTyped.{IsPointer, Suits, Comparable, name_of_field}
use Rattle.ceal_base.specs.declared.fault.Fault.{Fault}
use Rattle.ceal_base.specs.declared.fault.Span.{Span}
use Rattle.ceal_base.specs.declared.kind.Kind.{Kind}
use Rattle.ceal_base.specs.declared.kind.Kind.TheVariants.{Int, Ptr, ModInt, ModPtr}
use Rattle.ceal_base.specs.declared.typed.TypedExpr.{TypedExpr}
use Rattle.ceal_base.specs.declared.typed.TypedForm.{TypedForm}
use Rattle.ceal_types.specs.Checked.{field_info, struct_info}
use Rattle.ceal_types.specs.Expressions.{Fields, Scope, expression, found_or, field_or_row}
use Rattle.ceal_base.specs.Kinds.{same_kind, is_pointer}
use Rattle.ceal_types.specs.Kinds.{suits, comparable}
use Rattle.ceal_types.specs.Numbers.{or_second}
use Rattle.ceal_types.specs.Resolves.{Environment, field_names, member_number}
use Rattle.ceal_types.specs.Tables.{Name, find, both_some, second, value_at, element_name}
use Rattle.ceal_types.specs.Walk.{after, result_map, both}
use Rattle.ceal_types.specs.declared.program.Field.{Field}
use Rattle.ceal_types.specs.declared.program.Variable.{Variable}
use Rattle.ceal_types.proofs.NameNumbers.NumberOfName.{has-number}

abbrev pub number_of : Variable → ℕ
number_of v = v.number

-- the variables in scope with their numbers
abbrev pub numbers : Scope → Environment
numbers [] = []
numbers (e ∷ es) = (e.0, e.1.number) ∷ numbers es

pub numbers-added : (scope : Scope) (name : Name) (v : Variable) → numbers (scope ++ (name, v) ∷ []) ≡ numbers scope ++ (name, v.number) ∷ []
numbers-added [] name v = refl
numbers-added (e ∷ es) name v = ap (λ (l : Environment). (e.0, e.1.number) ∷ l) (numbers-added es name v)

pub lookup-numbers : (test : Name → Bool) (scope : Scope) → lookup test (numbers scope) ≡ option_map number_of (lookup test scope)
lookup-numbers test [] = refl
lookup-numbers test (e ∷ es) = by (test e.0) (lookup-numbers test es)
  where
    by : (b : Bool) → lookup test (numbers es) ≡ option_map number_of (lookup test es)
        → cond b (Some e.1.number) (lookup test (numbers es)) ≡ option_map number_of (cond b (Some e.1) (lookup test es))
    by true h = refl
    by false h = h

abbrev pub first : {A : Type 0} → ℕ × A → ℕ
first e = e.0

-- the number of what is found is the name's place
pub find-number : {A : Type 0} (table : List (Name × A)) (name : Name) → option_map first (find table name) ≡ position (bytes_eq name) (keys_of table)
unfolding find
find-number {A = A} table name = by (position (bytes_eq name) (keys_of table)) (lookup (bytes_eq name) table) (has-number table name)
  where
    by : (n : Option ℕ) (v : Option A) → is_some v ≡ is_some n → option_map first (both_some n v) ≡ n
    by None v h = refl
    by (Some n) None h = absurd (true≢false (sym h))
    by (Some n) (Some v) h = refl

pub member-place : (fields : Fields) (name : Name) → option_map first (field_or_row fields name) ≡ member_number (keys_of fields) name
member-place fields name =
    either (find fields name) (find fields (element_name name 0))
    ∙ (λ i. or_second (find-number fields name i) (find-number fields (element_name name 0) i))
  where
    either : (a b : Option (ℕ × Field)) → option_map first (found_or a b) ≡ or_second (option_map first a) (option_map first b)
    either None b = refl
    either (Some a) b = refl

pub names-of-fields : (fields : Fields) → map name_of_field (map field_info fields) ≡ keys_of fields
names-of-fields [] = refl
names-of-fields (f ∷ fields) = ap (λ (l : List Name). f.0 ∷ l) (names-of-fields fields)

pub some-same : {A : Type 0} (a b : A) → Some a ≡ Some b → a ≡ b
some-same a b p = cc

names-of-struct : (o : Option (Name × Fields)) (fields : Fields) → option_map second o ≡ Some fields → field_names (option_map struct_info o) ≡ keys_of fields
names-of-struct None fields h = cc
names-of-struct (Some t) fields h = names-of-fields t.1 ∙ ap (λ (l : Fields). keys_of l) (some-same t.1 fields h)

no-struct : (o : Option (Name × Fields)) → option_map second o ≡ None → field_names (option_map struct_info o) ≡ []
no-struct None h = refl
no-struct (Some t) h = cc

-- the names of the fields of struct s
pub names-there : (structs : List (Name × Fields)) (s : ℕ) (fields : Fields) → value_at structs s ≡ Some fields
    → field_names (slice_get (map struct_info structs) s) ≡ keys_of fields
names-there structs s fields there = ap field_names (slice_get-map struct_info structs s) ∙ names-of-struct (slice_get structs s) fields there

pub none-there : (structs : List (Name × Fields)) (s : ℕ) → value_at structs s ≡ None → field_names (slice_get (map struct_info structs) s) ≡ []
none-there structs s there = ap field_names (slice_get-map struct_info structs s) ∙ no-struct (slice_get structs s) there

-- ---- results
pub both-hold : {A : Type 0} (r : Result A Fault) (P Q : A → Type 0) → IfOk r P → IfOk r Q → IfOk r (λ x. P x × Q x)
both-hold (Ok x) P Q h k = (h, k)
both-hold (Err f) P Q h k = tt

pub after-at : {A B : Type 0} (next : A → Result B Fault) (r : Result A Fault) (x : A) (s : Result B Fault) → r ≡ Ok x → next x ≡ s → after next r ≡ s
after-at next r x s h k = ap (after next) h ∙ k

pub mapped-at : {A B : Type 0} (make : A → B) (r : Result A Fault) (x : A) (y : B) → r ≡ Ok x → make x ≡ y → result_map make r ≡ Ok y
mapped-at make r x y h k = ap (result_map make) h ∙ ap Ok k

pub both-at : {A B C : Type 0} (next : A → B → Result C Fault) (r : Result A Fault) (s : Result B Fault) (x : A) (y : B) (t : Result C Fault)
    → r ≡ Ok x → s ≡ Ok y → next x y ≡ t → both next r s ≡ t
both-at next r s x y t h k l = (λ i. both next (h i) (k i)) ∙ l

pub if-true : {A : Type 0} (b : Bool) (x y z : A) → b ≡ true → x ≡ z → (if b then x else y) ≡ z
if-true true x y z h k = k
if-true false x y z h k = absurd (true≢false (sym h))

pub if-false : {A : Type 0} (b : Bool) (x y z : A) → b ≡ false → y ≡ z → (if b then x else y) ≡ z
if-false false x y z h k = k
if-false true x y z h k = absurd (true≢false h)

pub same-expr : (x : TypedExpr) (at : Span) (kind : Option Kind) (form : TypedForm) → x.span ≡ at → x.kind ≡ kind → x.form ≡ form → expression at kind form ≡ x
same-expr x at kind form s k f = λ i. record { span = sym s i; kind = sym k i; form = sym f i }

-- ---- kinds that suit pass the tests
pub same-self : (kind : Kind) → same_kind kind kind ≡ true
same-self Int = refl
same-self (Ptr s) = (Decides-eqb s s).1 refl
same-self ModInt = refl
same-self (ModPtr s) = (Decides-eqb s s).1 refl

pub same-true : (a b : Kind) → a ≡ b → same_kind a b ≡ true
same-true a b h = ap (same_kind a) (sym h) ∙ same-self a

pointer-true : (kind : Kind) → IsPointer kind → is_pointer kind ≡ true
pointer-true Int h = absurd h
pointer-true (Ptr s) h = refl
pointer-true ModInt h = refl
pointer-true (ModPtr s) h = refl

pub suits-true : (asked : Kind) (given : Option Kind) → Suits asked given → suits asked given ≡ true
suits-true asked None h = pointer-true asked h
suits-true asked (Some kind) h = same-true asked kind h

pub comparable-true : (left right : Option Kind) → Comparable left right → comparable left right ≡ true
comparable-true None None h = refl
comparable-true None (Some kind) h = pointer-true kind h
comparable-true (Some kind) None h = pointer-true kind h
comparable-true (Some kind) (Some other) h = same-true kind other h
