-- The commands of a block of a core function are right: the variables of each target and the expressions of a statement
-- have the types that are asked.
use Rattle.std.proofs.Common.{◌≡◌, inl, inr, ℕ, zero, suc, ◌<◌, ◌≤◌, ◌==◌, Bool, true, Option, Some, None, IsSome}
use Rattle.std.proofs.Common.{IsNone, IsSomeAnd, List, [], ◌∷◌, length, map, take, slice_get, unwrap_or, Contains, All}
use Rattle.std.proofs.Common.{refl, sym, ap, ap₂, ◌∙◌, subst, arith}
use Rattle.std.proofs.lemmas.Bool.Decides.{eqb_tells}
use Rattle.std.proofs.lemmas.List.{length-take-le}
use Rattle.std.proofs.lemmas.List.Elements.{All-head, All-tail}
use Rattle.ceal_base.specs.Usage.{IsCore, IsInitialiser, KeepsUsage}
use Rattle.ceal_base.specs.WellTyped.{Context, ExprTyped, ExprSuits, CallSuits, AllocSuits, ArgsSuit, Suits, WellTyped, param_kinds, kind_held, numbers_below}
use Rattle.ceal_base.specs.declared.kind.Kind.{Kind}
use Rattle.ceal_base.specs.declared.kind.Kind.TheVariants.{Int, Ptr, ModInt, ModPtr}
use Rattle.ceal_base.specs.declared.typed.StructInfo.{StructInfo}
use Rattle.ceal_base.specs.declared.typed.Typed.{Typed}
use Rattle.ceal_base.specs.declared.typed.TypedExpr.{TypedExpr}
use Rattle.ceal_base.specs.declared.typed.TypedFunction.{TypedFunction}
use Rattle.ceal_code.proofs.Words.SameIsEqual.{both-true, nat-refl}
use Rattle.ceal_code.proofs.Equations.TypeSteps.{type-var}
use Rattle.ceal_code.specs.Program.{Code}
use Rattle.ceal_code.specs.Step.{kinds_of}
use Rattle.ceal_code.specs.Valid.{type_of, fits, fits_maybe, params_fit, others, unit_fits, read_fits, entry_fits, call_fits, alloc_fits, place_fits, write_fits, all_fit}
use Rattle.ceal_code.specs.declared.expr.CodeExpr.{Var}
use Rattle.ceal_flow.specs.Live.{AreLiveSets, mentions, all_mentions}
use Rattle.ceal_flow.specs.Lowering.{end_of, first_of, core_at, graph_of}
use Rattle.ceal_flow.specs.Sets.{is_in, set_at}
use Rattle.ceal_flow.specs.declared.function.GraphFunction.TheVariants.{Init}
use Rattle.ceal_flow.proofs.Placing.{made-at}
use Rattle.ceal_norm.specs.Entries.{is_entry, entries_before}
use Rattle.ceal_norm.specs.Expressions.{variable, expr_code}
use Rattle.ceal_norm.specs.Laws.{source_of}
use Rattle.ceal_norm.specs.Units.{Source, own_args, args_of, without, closure_args, arg_at, call_args, entry_set, owner, unit_code, function_code, kinds_code, code_of}
use Rattle.ceal_norm.proofs.Jumps.JumpCounts.{contains-none, contains-cases}
use Rattle.ceal_norm.proofs.Validity.ExpressionTypes.{type_for, Seen, Has, kind-refl, suits-fits, form-seen, form-without, form-type, args-fit, exprs-seen}
use Rattle.ceal_norm.proofs.Validity.KnownVariables.{get-map, there, in-first, in-later, in-left, in-right, Knows}
use Rattle.ceal_norm.proofs.Validity.LiveVariablesInScope.{Match, stands-there, live-seen}
use Rattle.ceal_norm.proofs.Validity.StatementsAtEntries.{Function, StandsIn, function-of, context, init-function}
use Rattle.ceal_norm.proofs.Validity.StatementsAtBlocks.{within-blocks}
use Rattle.ceal_norm.proofs.Validity.UnitsOfEntries.{unit-at, function-entry}

module _ (structs : List StructInfo) (kinds : List Kind) (known : List Bool) where
  pub own-in : (v : ℕ) → v < length kinds → Knows known v → fits_maybe (slice_get kinds v) (type_of structs kinds known (Var (variable v))) ≡ true
  own-in v l h = let t = there kinds v l in rw (type-var structs kinds known (variable v), t.is, h) (kind-refl t.item)

  -- each variable stands for itself
  module _ (theirs : List Kind) where
    own-fit : (ws : List ℕ) → ((v : ℕ) → is_in v ws ≡ true → fits_maybe (slice_get theirs v) (type_of structs kinds known (Var (variable v))) ≡ true)
        → params_fit structs kinds known theirs (map variable ws) (own_args ws) ≡ true
    unfolding params_fit
    own-fit [] h = refl
    own-fit (w ∷ ws) h = both-true _ _ (h w (in-first w ws)) (own-fit ws (λ v i. h v (in-later v w ws i)))

    others-fit : (n : ℕ) (ws : List ℕ) → ((v : ℕ) → is_in v ws ≡ true → (v ≡ n → ⊥) → fits_maybe (slice_get theirs v) (type_of structs kinds known (Var (variable v))) ≡ true)
        → params_fit structs kinds known theirs (others n (map variable ws)) (own_args (without n ws)) ≡ true
    unfolding params_fit others without
    others-fit n [] h = refl
    others-fit n (w ∷ ws) h = elim (eqb_tells w n) [
      | inl p ↦ rw p.0 (others-fit n ws (λ v i d. h v (in-later v w ws i) d))
      | inr p ↦ rw p.0 (both-true _ _ (h w (in-first w ws) p.1) (others-fit n ws (λ v i d. h v (in-later v w ws i) d)))
    ]

    calls-fit : (args : List TypedExpr) (ws : List ℕ) → ((v : ℕ) → is_in v ws ≡ true → fits_maybe (slice_get theirs v) (type_of structs kinds known (arg_at (slice_get args v))) ≡ true)
        → params_fit structs kinds known theirs (map variable ws) (call_args args ws) ≡ true
    unfolding params_fit
    calls-fit args [] h = refl
    calls-fit args (w ∷ ws) h = both-true _ _ (h w (in-first w ws)) (calls-fit args ws (λ v i. h v (in-later v w ws i)))

pub some-and : {X : Type 0} (o : Option X) (P : X → Type 0) → IsSomeAnd o P → Match o P
some-and None P h = absurd h
some-and (Some x) P h = record { item = x; is = refl; holds = h }

pub some-is : (i : Option ℕ) → IsSome i → (t : ℕ) × (i ≡ Some t)
some-is None h = cc
some-is (Some t) h = (t, refl)

pub none-is : (i : Option ℕ) → IsNone i → i ≡ None
none-is None h = refl
none-is (Some s) h = cc

pub numbers-less : (n v : ℕ) → Contains (numbers_below n) v → v < n
numbers-less zero v h = absurd (contains-none v h)
numbers-less (suc n) v h = elim (contains-cases n (numbers_below n) v h) [
  | inl e ↦ omega (arith, e)
  | inr k ↦ let l = numbers-less n v k in omega (arith, l)
]

pub get-take : {X : Type 0} (n : ℕ) (xs : List X) (i : ℕ) → i < n → slice_get (take n xs) i ≡ slice_get xs i
get-take zero xs i l = absurd (omega (arith, l))
get-take (suc n) [] i l = refl
get-take (suc n) (x ∷ xs) zero l = refl
get-take (suc n) (x ∷ xs) (suc i) l = get-take n xs i (omega (arith, l))

-- the argument for a parameter
record Given (c : Context) (seen : List ℕ) (asked : List Kind) (args : List TypedExpr) (v : ℕ) : Type 0 where
  e : TypedExpr
  kind : Kind
  is : slice_get args v ≡ Some e
  asks : slice_get asked v ≡ Some kind
  typed : ExprTyped c seen e
  suits : Suits kind e.kind
  inside : (u : ℕ) → is_in u (mentions e) ≡ true → is_in u (all_mentions args) ≡ true

given : (c : Context) (seen : List ℕ) (asked : List Kind) (args : List TypedExpr) (v : ℕ) → All (ExprTyped c seen) args → ArgsSuit asked args → v < length asked → Given c seen asked args v
unfolding all_mentions
given c seen [] args v t s l = absurd (omega (arith, l))
given c seen (k ∷ ks) [] v t s l = absurd s
given c seen (k ∷ ks) (e ∷ es) zero t s l =
    record { e = e; kind = k; is = refl; asks = refl; typed = All-head (ExprTyped c seen) e es t; suits = s.0; inside = λ u i. in-left u (mentions e) (all_mentions es) i }
given c seen (k ∷ ks) (e ∷ es) (suc v) t s l =
    let r = given c seen ks es v (All-tail (ExprTyped c seen) e es t) s.1 (omega (arith, l)) in
    record { e = r.e; kind = r.kind; is = r.is; asks = r.asks; typed = r.typed; suits = r.suits; inside = λ u i. in-right u (mentions e) (all_mentions es) (r.inside u i) }

abbrev CallIn : TypedFunction → List TypedExpr → Option ℕ → Type 0
CallIn h args None = ArgsSuit (param_kinds h) args
CallIn h args (Some s) = Unit {0}

abbrev AllocIn : TypedFunction → ℕ → List TypedExpr → Option ℕ → Type 0
AllocIn h shape args None = Unit {0}
AllocIn h shape args (Some s) = (s ≡ shape) × ArgsSuit (param_kinds h) args

-- the variables that are live at the block are known
abbrev pub Covers : List (List ℕ) → List Bool → ℕ → Type 0
Covers sets known b = (v : ℕ) → is_in v (set_at sets b) ≡ true → Knows known v

module _ (p : Typed) (typed : WellTyped p) (kept : KeepsUsage p) (sets : List (List ℕ)) (live : AreLiveSets (graph_of p).blocks sets) where
  abbrev src : Source
  src = source_of p sets

  abbrev code : Code
  code = code_of src

  module _ (k : ℕ) (fn : Function p k) where
    abbrev kinds : List Kind
    kinds = fn.f.kinds

    pub kinds-are : kinds_of code k ≡ kinds
    kinds-are = ap (λ o. unwrap_or o []) (get-map kinds_code (graph_of p).functions k (core_at fn.f fn.home.start) fn.home.function)

    pub seen-live : (seen : List ℕ) (b v : ℕ) → StandsIn p k fn seen b → is_in v (set_at sets b) ≡ true → Seen (context p fn.f) seen v
    seen-live seen b v st h =
        live-seen p.functions (context p fn.f) (graph_of p).blocks fn.home.start (end_of fn.f.body fn.home.start) fn.over fn.room sets live seen b v st h

    pub there-is : (seen : List ℕ) (b : ℕ) → StandsIn p k fn seen b → b < length (graph_of p).blocks
    there-is seen b st = stands-there p.functions (context p fn.f) (graph_of p).blocks fn.home.start (end_of fn.f.body fn.home.start) fn.over fn.room seen b st

    pub owner-is : (seen : List ℕ) (b : ℕ) → StandsIn p k fn seen b → owner (graph_of p) b ≡ k
    owner-is seen b st =
        let w = within-blocks p.functions (context p fn.f) (graph_of p).blocks fn.home.start (end_of fn.f.body fn.home.start) fn.over fn.room seen b st in fn.home.owned b w.0 w.1

    pub unit-is : (seen : List ℕ) (b : ℕ) → StandsIn p k fn seen b → is_entry (graph_of p) b ≡ true → slice_get code.units (entries_before (graph_of p) b) ≡ Some (unit_code src b)
    unit-is seen b st e = unit-at src (length (graph_of p).blocks) b e (there-is seen b st)

    owner-true : (seen : List ℕ) (b : ℕ) → StandsIn p k fn seen b → (owner (graph_of p) b == k) ≡ true
    owner-true seen b st = rw (owner-is seen b st) (nat-refl k)

    abbrev pub entry-of : ℕ
    entry-of = first_of fn.f.body fn.home.start

    pub entry-is : is_entry (graph_of p) entry-of ≡ true
    entry-is = function-entry (graph_of p) k fn.f.name.text entry-of fn.f.params fn.f.kinds fn.home.function

  module _ (k : ℕ) (fn : Function p k) where
    module _ (known : List Bool) where
      own-fits : (v : ℕ) → v < length fn.f.kinds → Knows known v → fits_maybe (slice_get (kinds_of code k) v) (type_of p.structs (kinds_of code k) known (Var (variable v))) ≡ true
      own-fits v l h = subst (λ ks. fits_maybe (slice_get ks v) (type_of p.structs ks known (Var (variable v))) ≡ true) (sym (kinds-are k fn)) (own-in p.structs fn.f.kinds known v l h)

      -- a tail call of the unit of an entry
      pub unit-fits : (seen : List ℕ) (b : ℕ) → StandsIn p k fn seen b → is_entry (graph_of p) b ≡ true → Covers sets known b
          → unit_fits code k known (slice_get code.units (entries_before (graph_of p) b)) (args_of src b) ≡ true
      unit-fits seen b st e cover =
          ap (λ o. unit_fits code k known o (args_of src b)) (unit-is k fn seen b st e)
          ∙ both-true _ _ (owner-true k fn seen b st)
          (own-fit p.structs (kinds_of code k) known (kinds_of code k) (set_at sets b) (λ v i. own-fits v (seen-live k fn seen b v st i).1 (cover v i)))

      -- and of that after a read
      pub read-fits : (seen : List ℕ) (b n : ℕ) → StandsIn p k fn seen b → is_entry (graph_of p) b ≡ true → ((v : ℕ) → is_in v (set_at sets b) ≡ true → (v ≡ n → ⊥) → Knows known v)
          → read_fits code k known n (slice_get code.units (entries_before (graph_of p) b)) (closure_args src n b) ≡ true
      read-fits seen b n st e cover =
          ap (λ o. read_fits code k known n o (closure_args src n b)) (unit-is k fn seen b st e)
          ∙ both-true _ _ (owner-true k fn seen b st)
          (others-fit p.structs (kinds_of code k) known (kinds_of code k) n (set_at sets b) (λ v i d. own-fits v (seen-live k fn seen b v st i).1 (cover v i d)))

      module _ (seen : List ℕ) where
        abbrev TypedHere : TypedExpr → Type 0
        TypedHere e = ExprTyped (context p fn.f) seen e

        has-of : (v : ℕ) → v < length fn.f.kinds → Knows known v → Has (context p fn.f) seen fn.f.kinds known v
        has-of v l h = let t = there fn.f.kinds v l in rw (h, t.is) refl

        -- the type of an expression whose variables are known
        pub expr-is : (e : TypedExpr) → TypedHere e → ((v : ℕ) → is_in v (mentions e) ≡ true → Knows known v) → type_of p.structs (kinds_of code k) known (expr_code e) ≡ Some (type_for e.kind)
        expr-is e t h =
            subst (λ ks. type_of p.structs ks known (expr_code e) ≡ Some (type_for e.kind)) (sym (kinds-are k fn))
            (form-type (context p fn.f) seen fn.f.kinds known e.kind e.form t (form-without (context p fn.f) seen fn.none e.kind e.form t)
            (λ v i. has-of v (form-seen (context p fn.f) seen e.kind e.form t v i).1 (h v i)))

        pub expr-fits : (asked : Kind) (e : TypedExpr) → ExprSuits (context p fn.f) seen asked e → ((v : ℕ) → is_in v (mentions e) ≡ true → Knows known v)
            → fits asked (type_of p.structs (kinds_of code k) known (expr_code e)) ≡ true
        expr-fits asked e t h = ap (fits asked) (expr-is e t.0 h) ∙ suits-fits asked e.kind t.1

        pub slot-fits : (n : ℕ) (asked : Kind) (e : TypedExpr) → slice_get fn.f.kinds n ≡ Some asked → ExprSuits (context p fn.f) seen asked e
            → ((v : ℕ) → is_in v (mentions e) ≡ true → Knows known v)
            → fits_maybe (slice_get (kinds_of code k) n) (type_of p.structs (kinds_of code k) known (expr_code e)) ≡ true
        slot-fits n asked e slot t h =
            ap (λ ks. fits_maybe (slice_get ks n) (type_of p.structs (kinds_of code k) known (expr_code e))) (kinds-are k fn)
            ∙ ap (λ o. fits_maybe o (type_of p.structs (kinds_of code k) known (expr_code e))) slot ∙ expr-fits asked e t h

        held-place : (o : Option Kind) (asked : Kind) → kind_held o ≡ Some asked → place_fits (Some asked) (Some (type_for o)) ≡ true
        held-place (Some ModInt) asked e = let same : Int ≡ asked = cc in rw (← same) refl
        held-place (Some (ModPtr s)) asked e = let same : Ptr s ≡ asked = cc in rw (← same) (nat-refl s)
        held-place (Some Int) asked e = cc
        held-place (Some (Ptr s)) asked e = cc
        held-place None asked e = cc

        pub place-fits : (n : ℕ) (asked : Kind) (e : TypedExpr) → slice_get fn.f.kinds n ≡ Some asked → TypedHere e → kind_held e.kind ≡ Some asked
            → ((v : ℕ) → is_in v (mentions e) ≡ true → Knows known v) → place_fits (slice_get (kinds_of code k) n) (type_of p.structs (kinds_of code k) known (expr_code e)) ≡ true
        place-fits n asked e slot t held h =
            ap (λ ks. place_fits (slice_get ks n) (type_of p.structs (kinds_of code k) known (expr_code e))) (kinds-are k fn)
            ∙ ap₂ place_fits slot (expr-is e t h) ∙ held-place e.kind asked held

        held-write : (o : Option Kind) (asked : Kind) (given : Option Kind) → kind_held o ≡ Some asked → Suits asked given → write_fits (Some (type_for o)) (Some (type_for given)) ≡ true
        held-write (Some ModInt) asked given e t = let same : asked ≡ Int = cc in suits-fits Int given (subst (λ a. Suits a given) same t)
        held-write (Some (ModPtr s)) asked given e t = let same : asked ≡ Ptr s = cc in suits-fits (Ptr s) given (subst (λ a. Suits a given) same t)
        held-write (Some Int) asked given e t = cc
        held-write (Some (Ptr s)) asked given e t = cc
        held-write None asked given e t = cc

        pub write-fits : (place e : TypedExpr) (asked : Kind) → TypedHere place → kind_held place.kind ≡ Some asked → ExprSuits (context p fn.f) seen asked e
            → ((v : ℕ) → is_in v (mentions place) ≡ true → Knows known v) → ((v : ℕ) → is_in v (mentions e) ≡ true → Knows known v)
            → write_fits (type_of p.structs (kinds_of code k) known (expr_code place)) (type_of p.structs (kinds_of code k) known (expr_code e)) ≡ true
        write-fits place e asked t held u h i = ap₂ write_fits (expr-is place t h) (expr-is e u.0 i) ∙ held-write place.kind asked e.kind held u.1

        -- an `alloc` by an initialiser
        pub alloc-fits : (n j shape : ℕ) (asked : Kind) (args : List TypedExpr) → slice_get fn.f.kinds n ≡ Some asked → asked ≡ Ptr shape → All TypedHere args
            → AllocSuits (slice_get p.functions j) shape args → IsInitialiser (slice_get p.functions j) → ((v : ℕ) → is_in v (all_mentions args) ≡ true → Knows known v)
            → alloc_fits code k known (slice_get (kinds_of code k) n) (slice_get code.functions j) (map expr_code args) ≡ true
        alloc-fits n j shape asked args slot is t suits usage h =
            let m = some-and (slice_get p.functions j) (λ f. IsSome f.initialiser) usage in
            let i = some-is m.item.initialiser m.holds in
            let made = made-at p.functions j m.item m.is in
            let there : slice_get (graph_of p).functions j ≡ Some (Init m.item) = made.function ∙ ap Some (init-function m.item made.start i.0 i.1) in
            let here : slice_get code.functions j ≡ Some (function_code src (Init m.item)) = get-map (function_code src) (graph_of p).functions j (Init m.item) there in
            let named = subst (λ o. AllocSuits o shape args) m.is suits in
            let all = let P : Option ℕ → Type 0 = λ x. AllocIn m.item shape args x in subst P i.1 named in
            let own : unwrap_or m.item.initialiser 0 ≡ shape = ap (λ o. unwrap_or o 0) i.1 ∙ all.0 in
            let fit = args-fit (context p fn.f) seen fn.f.kinds known (param_kinds m.item) args t
            (λ e te. form-without (context p fn.f) seen fn.none e.kind e.form te) all.1 (λ v iv. has-of v (args-seen v iv) (h v iv)) in
            ap (λ o. alloc_fits code k known (slice_get (kinds_of code k) n) o (map expr_code args)) here
            ∙ ap (λ ks. alloc_fits code k known (slice_get ks n) (Some (function_code src (Init m.item))) (map expr_code args)) (kinds-are k fn)
            ∙ ap (λ o. alloc_fits code k known o (Some (function_code src (Init m.item))) (map expr_code args)) slot
            ∙ both-true _ _ (rw (own, is) (nat-refl shape)) (subst (λ ks. all_fit p.structs ks known (param_kinds m.item) (map expr_code args) ≡ true) (sym (kinds-are k fn)) fit)
          where
            args-seen : (v : ℕ) → is_in v (all_mentions args) ≡ true → v < length fn.f.kinds
            args-seen v i = (exprs-seen (context p fn.f) seen args t v i).1

        -- a call of a core function
        arg-fits : (j : ℕ) (o : Function p j) (args : List TypedExpr) → All TypedHere args → ArgsSuit (param_kinds o.f) args
            → ((v : ℕ) → is_in v (all_mentions args) ≡ true → Knows known v) → (v : ℕ) → is_in v (set_at sets (entry-of j o)) ≡ true
            → fits_maybe (slice_get (kinds_of code j) v) (type_of p.structs (kinds_of code k) known (arg_at (slice_get args v))) ≡ true
        arg-fits j o args t suits h v i =
            let less : v < o.f.params = numbers-less o.f.params v (seen-live j o (numbers_below o.f.params) (entry-of j o) v o.first i).0 in
            let numbered = o.typed.numbered in
            let few : o.f.params ≤ length o.f.kinds = omega (arith, numbered) in
            let long : length (take o.f.params o.f.kinds) ≡ o.f.params = length-take-le o.f.params o.f.kinds few in
            let r = given (context p fn.f) seen (param_kinds o.f) args v t suits (omega (arith, less, long)) in
            let theirs : slice_get (kinds_of code j) v ≡ Some r.kind = ap (λ ks. slice_get ks v) (kinds-are j o) ∙ sym (get-take o.f.params o.f.kinds v less) ∙ r.asks in
            ap₂ fits_maybe theirs (ap (λ a. type_of p.structs (kinds_of code k) known (arg_at a)) r.is ∙ expr-is r.e r.typed (λ u m. h u (r.inside u m)))
            ∙ suits-fits r.kind r.e.kind r.suits

        call-of : (j : ℕ) (o : Function p j) (args : List TypedExpr) → All TypedHere args → ArgsSuit (param_kinds o.f) args
            → ((v : ℕ) → is_in v (all_mentions args) ≡ true → Knows known v)
            → call_fits code k known j (slice_get code.functions j) (call_args args (entry_set src (slice_get (graph_of p).functions j))) ≡ true
        call-of j o args t suits h =
            let made = core_at o.f o.home.start in
            let here : slice_get code.functions j ≡ Some (function_code src made) = get-map (function_code src) (graph_of p).functions j made o.home.function in
            ap₂ (λ x y. call_fits code k known j x (call_args args (entry_set src y))) here o.home.function
            ∙ ap (λ u. entry_fits code k known j u (call_args args (set_at sets (entry-of j o)))) (unit-is j o (numbers_below o.f.params) (entry-of j o) o.first (entry-is j o))
            ∙ calls-fit p.structs (kinds_of code k) known (kinds_of code j) args (set_at sets (entry-of j o)) (arg-fits j o args t suits h)

        pub call-fits : (j : ℕ) (args : List TypedExpr) → All TypedHere args → CallSuits (slice_get p.functions j) args → IsCore (slice_get p.functions j)
            → ((v : ℕ) → is_in v (all_mentions args) ≡ true → Knows known v)
            → call_fits code k known j (slice_get code.functions j) (call_args args (entry_set src (slice_get (graph_of p).functions j))) ≡ true
        call-fits j args t suits usage h =
            let m = some-and (slice_get p.functions j) (λ f. IsNone f.initialiser) usage in
            let o = function-of p typed kept j m.item m.is (none-is m.item.initialiser m.holds) in
            let named = subst (λ x. CallSuits x args) o.is suits in
            let all = let P : Option ℕ → Type 0 = λ x. CallIn o.f args x in subst P o.none named in
            call-of j o args t all h
