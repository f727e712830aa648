-- The folding of valid code is valid.
use Rattle.std.proofs.Common.{◌≡◌, ℕ, zero, suc, ◌+◌, ◌<◌, ◌==◌, nat_lt, ◌||◌, ◌&&◌, not, Bool, true, false}
use Rattle.std.proofs.Common.{if◌then◌else◌, Option, Some, None, List, [], ◌∷◌, ◌⊎◌, inl, inr, refl, sym, ap, ap₂, ◌∙◌}
use Rattle.std.proofs.Common.{subst, length, replicate, slice_get, slice_set, arith}
use Rattle.ceal_base.specs.declared.kind.Kind.{Kind}
use Rattle.ceal_base.specs.declared.kind.Kind.TheVariants.{Int, Ptr}
use Rattle.ceal_base.specs.declared.typed.StructInfo.{StructInfo}
use Rattle.ceal_code.proofs.Words.RowKinds.{kind-same}
use Rattle.ceal_code.proofs.Words.SameIsEqual.{both, both-true, nat-same}
use Rattle.ceal_code.proofs.TypedCode.TypedBlocks.{units-valid, functions-valid}
use Rattle.ceal_code.specs.Program.{Unit as CodeUnit, Code}
use Rattle.ceal_code.specs.Step.{kinds_of}
use Rattle.ceal_code.specs.Valid.{Typing, fits, fits_maybe, variable_type, type_of, place_fits, unit_fits, read_fits}
use Rattle.ceal_code.specs.Valid.{entry_fits, call_fits, alloc_fits, others, params_fit, all_fit, command_ok, onward}
use Rattle.ceal_code.specs.Valid.{path_ok, paths_ok, goes_forward, all_forward, followers, is_tree, with_params, below}
use Rattle.ceal_code.specs.Valid.{is_core, body_ok, unit_ok, units_ok, is_prefix, kinds_ok, entry_ok, function_ok}
use Rattle.ceal_code.specs.Valid.{functions_ok, structs_ok, valid}
use Rattle.ceal_code.specs.declared.command.Cmd.{Cmd}
use Rattle.ceal_code.specs.declared.command.Cmd.TheVariants.{Move, Tick, Alloc, Modref, Write, If, Done, Tail, Read, Call}
use Rattle.ceal_code.specs.declared.expr.CodeExpr.{CodeExpr, Num as NumExpr, Null as NullExpr, Var, Unary', Binary', Field', Address'}
use Rattle.ceal_code.specs.declared.expr.VarId.{VarId}
use Rattle.ceal_code.specs.declared.typing.ExprType.TheVariants.{Of, AnyPointer, AnyPlace}
use Rattle.ceal_code.specs.declared.function.FunctionCode.{FunctionCode}
use Rattle.ceal_code.specs.declared.function.FunctionCode.TheVariants.{Core as CoreFunction, Init as InitFunction}
use Rattle.ceal_fold.proofs.Forward.{forward-at, forward-folded}
use Rattle.ceal_fold.proofs.Bodies.{facts, facts-root, folded-length, replaced-tree, ticked-tree}
use Rattle.ceal_fold.proofs.ListSteps.{at-same, at-other, at-past}
use Rattle.ceal_fold.proofs.ReplaceSteps.{set-length}
use Rattle.ceal_fold.proofs.Simulated.{final, spot, used-follower, among-next, among-first, among-second, lt-true}
use Rattle.ceal_fold.proofs.Types.{Refined, refined-refl, refined-fits, refined-maybe, refined-place, refined-write, known_at, CopiesTyped, type-folded, type-final, all-final, params-final}
use Rattle.ceal_fold.specs.Folding.{Copies, no_copies, at_root, use_of, copies_after, copy_by, copy_without}
use Rattle.ceal_fold.specs.Folding.{copies_with, is_among, folded_expr, folded_exprs, folded_command, folded_commands}
use Rattle.ceal_fold.specs.Folding.{mentions, all_mention, uses, assigns, used, used_in, used_by, command_or_tick}
use Rattle.ceal_fold.specs.Folding.{folded_unit, folded_units, folded}
use Rattle.ceal_fold.specs.declared.copies.Copied.{Copied}
use Rattle.ceal_fold.specs.declared.copies.Copied.TheVariants.{Num as CopiedNum, Null as CopiedNull, Var as CopiedVar}

or-left : (a b : Bool) → a ≡ true → (a || b) ≡ true
or-left a b h = rw h refl

or-right : (a b : Bool) → b ≡ true → (a || b) ≡ true
or-right true b h = refl
or-right false b h = h

-- a variable that is known stays so, and an assignment makes its own known
set-other : (known : List Bool) (v u : ℕ) → (u == v) ≡ false → known_at (slice_set known v true) u ≡ known_at known u
set-other known v u e = at-other false known v true u (λ i. grind (arith, e, i))

set-kept : (known known' : List Bool) (v u : ℕ) → length known' ≡ length known → ((u == v) ≡ false → known_at known u ≡ true → known_at known' u ≡ true)
    → known_at (slice_set known v true) u ≡ true → known_at (slice_set known' v true) u ≡ true
set-kept known known' v u n h k = go (u == v) refl
  where
    there : (v < length known) ⊎ (length known < v + 1) → (u == v) ≡ true → known_at (slice_set known' v true) u ≡ true
    there (inl lo) e = let i : u ≡ v = nat-same u v e in rw i (at-same false known' v true (omega (arith, lo, n)))
    there (inr hi) e =
        let i : u ≡ v = nat-same u v e in
        let z : known_at (slice_set known v true) u ≡ false = at-past false (slice_set known v true) u (omega (arith, hi, i, set-length known v true)) in
        absurd (grind (arith, z, k))

    split : (b : Bool) → nat_lt v (length known) ≡ b → (v < length known) ⊎ (length known < v + 1)
    split true e = inl (grind (arith, e))
    split false e = inr (grind (arith, e))

    go : (b : Bool) → (u == v) ≡ b → known_at (slice_set known' v true) u ≡ true
    go true e = there (split (nat_lt v (length known)) refl) e
    go false e = set-other known' v u e ∙ h e (sym (set-other known v u e) ∙ k)

module _ (structs : List StructInfo) (kinds : List Kind) (known : List Bool) where
  variable-if : (k : Kind) (b : Bool) (t : Typing) → Refined (Some (Of k)) t → Refined (variable_type (Some k) b) t
  variable-if k true t h = h
  variable-if k false t h = tt

  variable-maybe : (o : Option Kind) (b : Bool) (t : Typing) → ((k : Kind) → o ≡ Some k → Refined (Some (Of k)) t) → Refined (variable_type o b) t
  variable-maybe None b t h = tt
  variable-maybe (Some k) b t h = variable-if k b t (h k refl)

  module _ (v : ℕ) where
    -- with the variable known
    abbrev after : List Bool
    after = slice_set known v true

    type-apart : (w : VarId) → (w.0 == v) ≡ false → type_of structs kinds after (Var w) ≡ type_of structs kinds known (Var w)
    unfolding type_of
    type-apart w e = ap (variable_type (slice_get kinds w.0)) (set-other known v w.0 e)

    type-self : (w : VarId) → Refined (variable_type (slice_get kinds w.0) (known_at after w.0)) (type_of structs kinds after (Var w))
    unfolding type_of
    type-self w = refined-refl (variable_type (slice_get kinds w.0) (known_at after w.0))

    type-num : (z : _) → type_of structs kinds after (NumExpr z) ≡ type_of structs kinds known (NumExpr z)
    unfolding type_of
    type-num z = refl

    type-null : type_of structs kinds after NullExpr ≡ type_of structs kinds known NullExpr
    unfolding type_of
    type-null = refl

    -- the copies of other variables
    other-typed : (w : VarId) (o : Option Copied) → (w.0 == v) ≡ false → Refined (variable_type (slice_get kinds w.0) (known_at known w.0)) (type_of structs kinds known (use_of w o))
        → Refined (variable_type (slice_get kinds w.0) (known_at after w.0)) (type_of structs kinds after (use_of w (copy_without v o)))
    other-typed w None e h = type-self w
    other-typed w (Some (CopiedNum z)) e h = rw (set-other known v w.0 e, type-num z) h
    other-typed w (Some CopiedNull) e h = rw (set-other known v w.0 e, type-null) h
    other-typed w (Some (CopiedVar y)) e h = go (y.0 == v) refl
      where
        go : (b : Bool) → (y.0 == v) ≡ b → Refined (variable_type (slice_get kinds w.0) (known_at after w.0)) (type_of structs kinds after (use_of w (if b then None else Some (CopiedVar y))))
        go true f = type-self w
        go false f = rw (set-other known v w.0 e, type-apart y f) h

    copies-set : (copies : Copies) (copy : Option Copied) → CopiesTyped structs kinds known copies
        → ((w : VarId) → w.0 ≡ v → Refined (variable_type (slice_get kinds w.0) (known_at after w.0)) (type_of structs kinds after (use_of w copy)))
        → CopiesTyped structs kinds after (copies_with copies v copy)
    unfolding copies_with
    copies-set copies copy good h w = go (w.0 == v) refl
      where
        go : (b : Bool) → (w.0 == v) ≡ b → Refined (variable_type (slice_get kinds w.0) (known_at after w.0)) (type_of structs kinds after (use_of w (if b then copy else copy_without v (copies w.0))))
        go true e = h w (nat-same w.0 v e)
        go false e = other-typed w (copies w.0) e (good w)

    -- what a kind asks of a type that may be there
    fits-refined : (k : Kind) (t : Typing) → fits k t ≡ true → Refined (Some (Of k)) t
    fits-refined k None h = absurd (grind (arith, h))
    fits-refined k (Some AnyPointer) h = inr (inl (refl, h))
    fits-refined k (Some AnyPlace) h = inr (inr (refl, h))
    fits-refined k (Some (Of other)) h = inl (ap (λ k. Some (Of k)) (sym (kind-same k other h)))

    fits-of : (o : Option Kind) (k : Kind) (t : Typing) → o ≡ Some k → fits_maybe o t ≡ true → fits k t ≡ true
    fits-of o k t e h = subst (λ o. fits_maybe o t ≡ true) e h

    move-typed : (e : CodeExpr) → fits_maybe (slice_get kinds v) (type_of structs kinds known e) ≡ true → (w : VarId) → w.0 ≡ v
        → Refined (variable_type (slice_get kinds w.0) (known_at after w.0)) (type_of structs kinds after (use_of w (copy_by v e)))
    move-typed (NumExpr z) h w i =
        variable-maybe (slice_get kinds w.0) (known_at after w.0) (type_of structs kinds after (NumExpr z))
        (λ k f. rw (type-num z) (fits-refined k (type_of structs kinds known (NumExpr z))
        (fits-of (slice_get kinds v) k (type_of structs kinds known (NumExpr z))
        (ap (slice_get kinds) (sym i) ∙ f) h)))
    move-typed NullExpr h w i =
        variable-maybe (slice_get kinds w.0) (known_at after w.0) (type_of structs kinds after NullExpr)
        (λ k f. rw type-null (fits-refined k (type_of structs kinds known NullExpr) (fits-of (slice_get kinds v) k (type_of structs kinds known NullExpr) (ap (slice_get kinds) (sym i) ∙ f) h)))
    move-typed (Var y) h w i = go (y.0 == v) refl
      where
        go : (b : Bool) → (y.0 == v) ≡ b → Refined (variable_type (slice_get kinds w.0) (known_at after w.0)) (type_of structs kinds after (use_of w (if b then None else Some (CopiedVar y))))
        go true f = type-self w
        go false f =
            variable-maybe (slice_get kinds w.0) (known_at after w.0) (type_of structs kinds after (Var y))
            (λ k g. rw (type-apart y f) (fits-refined k (type_of structs kinds known (Var y))
            (fits-of (slice_get kinds v) k (type_of structs kinds known (Var y))
            (ap (slice_get kinds) (sym i) ∙ g) h)))
    move-typed (Unary' op _ a) h w i = type-self w
    move-typed (Binary' op _ a _ b) h w i = type-self w
    move-typed (Field' _ a s f) h w i = type-self w
    move-typed (Address' _ a s f) h w i = type-self w

  none-typed : CopiesTyped structs kinds known no_copies
  unfolding type_of no_copies
  none-typed w = refined-refl (variable_type (slice_get kinds w.0) (known_at known w.0))

abbrev map-unit : List StructInfo → Option CodeUnit → Option CodeUnit
map-unit structs None = None
map-unit structs (Some unit) = Some (folded_unit structs unit)

unit-there : (structs : List StructInfo) (units : List CodeUnit) (u : ℕ) → slice_get (folded_units structs units) u ≡ map-unit structs (slice_get units u)
unfolding folded_units
unit-there structs [] u = refl
unit-there structs (unit ∷ units) zero = refl
unit-there structs (unit ∷ units) (suc u) = unit-there structs units u

module _ (code : Code) (ok : valid code ≡ true) where
  abbrev folds : Code
  folds = folded code

  module _ (f : ℕ) (known known' : List Bool) (copies : Copies) (good : CopiesTyped code.structs (kinds_of code f) known copies) where
    abbrev Where : (ℕ → Bool) → Type 0
    Where used = (v : ℕ) → used v ≡ true → known_at known v ≡ true → known_at known' v ≡ true

    abbrev fold-expr : CodeExpr → CodeExpr
    fold-expr e = folded_expr code.structs copies e

    abbrev fold-all : List CodeExpr → List CodeExpr
    fold-all es = folded_exprs code.structs copies es

    type-is : (e : CodeExpr) → Where (mentions (fold-expr e)) → Refined (type_of code.structs (kinds_of code f) known e) (type_of code.structs (kinds_of code f) known' (fold-expr e))
    type-is e h = type-final code.structs (kinds_of code f) known known' copies good e h

    unit-go : (o : Option CodeUnit) (args : List CodeExpr) → Where (all_mention (fold-all args))
        → unit_fits code f known o args ≡ true → unit_fits folds f known' (map-unit code.structs o)
        (fold-all args) ≡ true
    unit-go None args h k = absurd (grind (arith, k))
    unit-go (Some unit) args h k =
        let p = both (unit.function == f) (params_fit code.structs (kinds_of code f) known (kinds_of code f) unit.params args) k in
        both-true (unit.function == f) (params_fit code.structs (kinds_of code f) known' (kinds_of code f) unit.params (fold-all args)) p.0
        (params-final code.structs (kinds_of code f) known known' copies good (kinds_of code f) unit.params args h p.1)

    read-go : (v : ℕ) (o : Option CodeUnit) (args : List CodeExpr) → Where (all_mention (fold-all args))
        → read_fits code f known v o args ≡ true → read_fits folds f known' v (map-unit code.structs o)
        (fold-all args) ≡ true
    read-go v None args h k = absurd (grind (arith, k))
    read-go v (Some unit) args h k =
        let p = both (unit.function == f) (params_fit code.structs (kinds_of code f) known (kinds_of code f) (others v unit.params) args) k in
        both-true (unit.function == f) (params_fit code.structs (kinds_of code f) known' (kinds_of code f) (others v unit.params) (fold-all args)) p.0
        (params-final code.structs (kinds_of code f) known known' copies good (kinds_of code f) (others v unit.params) args h p.1)

    entry-go : (g : ℕ) (o : Option CodeUnit) (args : List CodeExpr) → Where (all_mention (fold-all args))
        → entry_fits code f known g o args ≡ true → entry_fits folds f known' g (map-unit code.structs o)
        (fold-all args) ≡ true
    entry-go g None args h k = absurd (grind (arith, k))
    entry-go g (Some unit) args h k = params-final code.structs (kinds_of code f) known known' copies good (kinds_of code g) unit.params args h k

    call-go : (g : ℕ) (o : Option FunctionCode) (args : List CodeExpr) → Where (all_mention (fold-all args))
        → call_fits code f known g o args ≡ true → call_fits folds f known' g o (fold-all args) ≡ true
    call-go g None args h k = absurd (grind (arith, k))
    call-go g (Some (InitFunction name s params body)) args h k = absurd (grind (arith, k))
    call-go g (Some (CoreFunction name entry params)) args h k = rw (unit-there code.structs code.units entry.0) (entry-go g (slice_get code.units entry.0) args h k)

    alloc-go : (kind : Option Kind) (o : Option FunctionCode) (args : List CodeExpr) → Where
        (all_mention (fold-all args)) → alloc_fits code f known kind o args ≡ true → alloc_fits folds f known' kind o
        (fold-all args) ≡ true
    alloc-go kind None args h k = absurd (grind (arith, k))
    alloc-go kind (Some (CoreFunction name entry params)) args h k = absurd (grind (arith, k))
    alloc-go kind (Some (InitFunction name s params body)) args h k =
        let p = both (fits_maybe kind (Some (Of (Ptr s)))) (all_fit code.structs (kinds_of code f) known params args) k in
        both-true (fits_maybe kind (Some (Of (Ptr s)))) (all_fit code.structs (kinds_of code f) known' params (fold-all args)) p.0
        (all-final code.structs (kinds_of code f) known known' copies good params args h p.1)

    -- a folded command, where the variables that it uses are still known
    command-go : (stepped : Bool) (c : Cmd) → Where (uses (folded_command code.structs copies c))
        → command_ok code f known stepped c ≡ true → command_ok folds f known' stepped
        (folded_command code.structs copies c) ≡ true
    command-go stepped (Move v e) h k = refined-maybe (slice_get (kinds_of code f) v.0)
        (type_of code.structs (kinds_of code f) known e) (type_of code.structs (kinds_of code f) known' (fold-expr e))
        (type-is e h) k
    command-go stepped Tick h k = refl
    command-go stepped (Alloc v g args) h k = alloc-go (slice_get (kinds_of code f) v.0) (slice_get code.functions g) args h k
    command-go stepped (Modref v shape) h k = k
    command-go stepped (Write p e) h k =
        refined-write (type_of code.structs (kinds_of code f) known p)
        (type_of code.structs (kinds_of code f) known' (fold-expr p))
        (type_of code.structs (kinds_of code f) known e)
        (type_of code.structs (kinds_of code f) known' (fold-expr e))
        (type-is p (λ v m. h v (or-left (mentions (fold-expr p) v) (mentions (fold-expr e) v) m))) (type-is e (λ v m. h v (or-right (mentions (fold-expr p) v) (mentions (fold-expr e) v) m))) k
    command-go stepped (If test first second) h k = refined-fits Int
        (type_of code.structs (kinds_of code f) known test)
        (type_of code.structs (kinds_of code f) known' (fold-expr test)) (type-is test h) k
    command-go stepped Done h k = refl
    command-go stepped (Tail w args) h k =
        let p = both stepped (unit_fits code f known (slice_get code.units w.0) args) k in
        both-true stepped (unit_fits folds f known' (slice_get (folded_units code.structs code.units) w.0) (fold-all args)) p.0
        (rw (unit-there code.structs code.units w.0) (unit-go (slice_get code.units w.0) args h p.1))
    command-go stepped (Read v q w args) h k =
        let p = both (place_fits (slice_get (kinds_of code f) v.0) (type_of code.structs (kinds_of code f) known q)) (read_fits code f known v.0 (slice_get code.units w.0) args) k in
        both-true (place_fits (slice_get (kinds_of code f) v.0)
        (type_of code.structs (kinds_of code f) known' (fold-expr q)))
        (read_fits folds f known' v.0 (slice_get (folded_units code.structs code.units) w.0) (fold-all args))
        (refined-place (slice_get (kinds_of code f) v.0) (type_of code.structs (kinds_of code f) known q)
        (type_of code.structs (kinds_of code f) known' (fold-expr q))
        (type-is q (λ z m. h z (or-left (mentions (fold-expr q) z) (all_mention (fold-all args) z) m))) p.0)
        (rw (unit-there code.structs code.units w.0) (read-go v.0 (slice_get code.units w.0) args (λ z m. h z (or-right (mentions (fold-expr q) z) (all_mention (fold-all args) z) m)) p.1))
    command-go stepped (Call g args w rest) h k =
        let p = both (call_fits code f known g (slice_get code.functions g) args) (unit_fits code f known (slice_get code.units w.0) rest) k in
        both-true (call_fits folds f known' g (slice_get code.functions g) (fold-all args)) (unit_fits folds f known' (slice_get (folded_units code.structs code.units) w.0) (fold-all rest))
        (call-go g (slice_get code.functions g) args (λ z m. h z (or-left (all_mention (fold-all args) z) (all_mention (fold-all rest) z) m)) p.0)
        (rw (unit-there code.structs code.units w.0) (unit-go (slice_get code.units w.0) rest (λ z m. h z (or-right (all_mention (fold-all args) z) (all_mention (fold-all rest) z) m)) p.1))

  module _ (f : ℕ) (body : List Cmd) (tree : is_tree body ≡ true) (forward : all_forward body 0 ≡ true) where
    abbrev F : ℕ → Copies
    F = facts code.structs at_root 0 body

    abbrev U : ℕ → ℕ → Bool
    U = used 0 (final code.structs body)

    abbrev Good : ℕ → List Bool → Type 0
    Good i known = CopiesTyped code.structs (kinds_of code f) known (F i)

    abbrev Live : ℕ → List Bool → List Bool → Type 0
    Live i known known' = (v : ℕ) → U i v ≡ true → known_at known v ≡ true → known_at known' v ≡ true

    -- the paths that continue from an index
    abbrev On : ℕ → Type 0
    On n = (i : ℕ) (known known' : List Bool) (stepped : Bool) → length known' ≡ length known → paths_ok code f body n i known stepped ≡ true → Good i known → Live i known known'
        → paths_ok folds f (final code.structs body) n i known' stepped ≡ true

    module _ (n i : ℕ) (on : On n) (known known' : List Bool) (stepped : Bool) (long : length known' ≡ length known) (good : Good i known) (live : Live i known known')
        (later : ℕ → ℕ → Bool) (ahead : (j v : ℕ) → i < j → U j v ≡ later j v) where
      abbrev fold-it : Cmd → Cmd
      fold-it c = folded_command code.structs (F i) c

      abbrev Goes : Cmd → Type 0
      Goes d = (command_ok folds f known' stepped d && onward (paths_ok folds f (final code.structs body) n) d i known') ≡ true

      next-up : i < i + 1
      next-up = omega arith

      module _ (d : Cmd) (here : (v : ℕ) → U i v ≡ used_by later d i v) where
        used-known : (v : ℕ) → uses d v ≡ true → known_at known v ≡ true → known_at known' v ≡ true
        used-known v h k = live v (here v ∙ or-left (uses d v) (not (assigns d v) && used_in later (followers d i) v) h) k

        kept-known : (v : ℕ) → assigns d v ≡ false → used_in later (followers d i) v ≡ true → known_at known v ≡ true → known_at known' v ≡ true
        kept-known v h m k = live v (here v ∙ or-right (uses d v) (not (assigns d v) && used_in later (followers d i) v) (rw (h, m) refl)) k

      same-flags : (v : ℕ) → length (slice_set known' v true) ≡ length (slice_set known v true)
      same-flags v = set-length known' v true ∙ long ∙ sym (set-length known v true)

      -- after an assignment, whose variable is known from then on
      set-live : (v : ℕ) (d : Cmd) (here : (z : ℕ) → U i z ≡ used_by later d i z) → ((z : ℕ) → assigns d z ≡ (v == z))
          → followers d i ≡ (i + 1) ∷ [] → Live (i + 1) (slice_set known v true) (slice_set known' v true)
      set-live v d here a fs z m k =
          set-kept known known' v z long
          (λ e g. kept-known d here z (a z ∙ flip e) (ap (λ js. used_in later js z) fs ∙ used-follower later ((i + 1) ∷ []) (i + 1) z (among-next i) (sym (ahead (i + 1) z next-up) ∙ m)) g) k
        where
          flip : (z == v) ≡ false → (v == z) ≡ false
          flip e = turn (v == z) refl
            where
              turn : (b : Bool) → (v == z) ≡ b → b ≡ false
              turn false g = refl
              turn true g = absurd (grind (arith, e, g))

      keep-live : (d : Cmd) (here : (z : ℕ) → U i z ≡ used_by later d i z) → ((z : ℕ) → assigns d z ≡ false) → (j : ℕ) → i < j → is_among j (followers d i) ≡ true → Live j known known'
      keep-live d here a j lo m z g k = kept-known d here z (a z) (used-follower later (followers d i) j z m (sym (ahead j z lo) ∙ g)) k

      cmd-go : (c : Cmd) → goes_forward c i ≡ true → ((v : ℕ) → U i v ≡ used_by later (command_or_tick (used_in later (followers c i)) (fold-it c)) i v)
          → ((j : ℕ) → i < j → is_among j (followers c i) ≡ true → F j ≡ copies_after (F i) (fold-it c))
          → command_ok code f known stepped c ≡ true → onward (paths_ok code f body n) c i known ≡ true → Goes (command_or_tick (used_in later (followers c i)) (fold-it c))
      cmd-go (Move v e) up here follow k p = go (used_in later ((i + 1) ∷ []) v.0) refl here
        where
          e' : CodeExpr
          e' = folded_expr code.structs (F i) e

          typed : fits_maybe (slice_get (kinds_of code f) v.0) (type_of code.structs (kinds_of code f) known e') ≡ true
          typed = refined-maybe (slice_get (kinds_of code f) v.0) (type_of code.structs (kinds_of code f) known e)
              (type_of code.structs (kinds_of code f) known e')
              (type-folded code.structs (kinds_of code f) known (F i) good e) k

          good' : Good (i + 1) (slice_set known v.0 true)
          good' =
              subst (CopiesTyped code.structs (kinds_of code f) (slice_set known v.0 true)) (sym (follow (i + 1) next-up (among-next i)))
              (copies-set code.structs (kinds_of code f) known v.0 (F i) (copy_by v.0 e') good (move-typed code.structs (kinds_of code f) known v.0 e' typed))

          go : (b : Bool) → used_in later ((i + 1) ∷ []) v.0 ≡ b → ((z : ℕ) → U i z ≡ used_by later (if b then Move v e' else Tick) i z) → Goes (if b then Move v e' else Tick)
          go true g here =
              both-true (command_ok folds f known' stepped (Move v e')) (onward (paths_ok folds f (final code.structs body) n) (Move v e') i known')
              (command-go f known known' (F i) good stepped (Move v e) (used-known (Move v e') here) k)
              (on (i + 1) (slice_set known v.0 true) (slice_set known' v.0 true) true (same-flags v.0) p good' (set-live v.0 (Move v e') here (λ z. refl) refl))
          go false g here =
              both-true (command_ok folds f known' stepped Tick) (onward (paths_ok folds f (final code.structs body) n) Tick i known') refl
              (on (i + 1) (slice_set known v.0 true) known' true (long ∙ sym (set-length known v.0 true)) p good' (λ z m k. still z m k))
            where
              still : (z : ℕ) → U (i + 1) z ≡ true → known_at (slice_set known v.0 true) z ≡ true → known_at known' z ≡ true
              still z m k = which (z == v.0) refl
                where
                  used' : used_in later ((i + 1) ∷ []) z ≡ true
                  used' = used-follower later ((i + 1) ∷ []) (i + 1) z (among-next i) (sym (ahead (i + 1) z next-up) ∙ m)

                  which : (b : Bool) → (z == v.0) ≡ b → known_at known' z ≡ true
                  which true a = let q : z ≡ v.0 = nat-same z v.0 a in let r : used_in later
                      ((i + 1) ∷ []) v.0 ≡ true = ap (λ z. used_in later ((i + 1) ∷ []) z) (sym q) ∙ used' in absurd
                      (grind (arith, g, r))
                  which false a = kept-known Tick here z refl used' (sym (set-other known v.0 z a) ∙ k)
      cmd-go Tick up here follow k p =
          both-true (command_ok folds f known' stepped Tick) (onward (paths_ok folds f (final code.structs body) n) Tick i known') refl
          (on (i + 1) known known' true long p (subst (CopiesTyped code.structs (kinds_of code f) known) (sym (follow (i + 1) next-up (among-next i))) good)
          (keep-live Tick here (λ z. refl) (i + 1) next-up (among-next i)))
      cmd-go (Alloc v g args) up here follow k p =
          let d = fold-it (Alloc v g args) in
          both-true (command_ok folds f known' stepped d) (onward (paths_ok folds f (final code.structs body) n) d i known')
          (command-go f known known' (F i) good stepped (Alloc v g args) (used-known d here) k)
          (on (i + 1) (slice_set known v.0 true) (slice_set known' v.0 true) true (same-flags v.0) p
          (subst (CopiesTyped code.structs (kinds_of code f) (slice_set known v.0 true)) (sym (follow (i + 1) next-up (among-next i)))
          (copies-set code.structs (kinds_of code f) known v.0 (F i) None good (λ w e. type-self code.structs (kinds_of code f) known v.0 w)))
          (set-live v.0 d here (λ z. refl) refl))
      cmd-go (Modref v shape) up here follow k p =
          let d = Modref v shape in
          both-true (command_ok folds f known' stepped d) (onward (paths_ok folds f (final code.structs body) n) d i known')
          (command-go f known known' (F i) good stepped (Modref v shape) (used-known d here) k)
          (on (i + 1) (slice_set known v.0 true) (slice_set known' v.0 true) true (same-flags v.0) p
          (subst (CopiesTyped code.structs (kinds_of code f) (slice_set known v.0 true)) (sym (follow (i + 1) next-up (among-next i)))
          (copies-set code.structs (kinds_of code f) known v.0 (F i) None good (λ w e. type-self code.structs (kinds_of code f) known v.0 w)))
          (set-live v.0 d here (λ z. refl) refl))
      cmd-go (Write q e) up here follow k p =
          let d = fold-it (Write q e) in
          both-true (command_ok folds f known' stepped d) (onward (paths_ok folds f (final code.structs body) n) d i known')
          (command-go f known known' (F i) good stepped (Write q e) (used-known d here) k)
          (on (i + 1) known known' true long p (subst (CopiesTyped code.structs (kinds_of code f) known) (sym (follow (i + 1) next-up (among-next i))) good)
          (keep-live d here (λ z. refl) (i + 1) next-up (among-next i)))
      cmd-go (If test first second) up here follow k p =
          let b = both (nat_lt i first) (nat_lt i second) up in
          let c = both (paths_ok code f body n first known true) (paths_ok code f body n second known true) p in
          let d = fold-it (If test first second) in
          let lo = lt-true i first b.0 in
          let hi = lt-true i second b.1 in
          let B = final code.structs body in
          both-true (command_ok folds f known' stepped d) (onward (paths_ok folds f B n) d i known')
          (command-go f known known' (F i) good stepped (If test first second) (used-known d here) k)
          (both-true (paths_ok folds f B n first known' true) (paths_ok folds f B n second known' true)
          (on first known known' true long c.0 (subst (CopiesTyped code.structs (kinds_of code f) known)
          (sym (follow first lo (among-first first second))) good)
          (keep-live d here (λ z. refl) first lo (among-first first second)))
          (on second known known' true long c.1 (subst (CopiesTyped code.structs (kinds_of code f) known)
          (sym (follow second hi (among-second first second))) good)
          (keep-live d here (λ z. refl) second hi (among-second first second))))
      cmd-go Done up here follow k p = refl
      cmd-go (Tail w args) up here follow k p =
          let d = fold-it (Tail w args) in
          both-true (command_ok folds f known' stepped d)
          (onward (paths_ok folds f (final code.structs body) n) d i known')
          (command-go f known known' (F i) good stepped (Tail w args) (used-known d here) k) refl
      cmd-go (Read v q w args) up here follow k p =
          let d = fold-it (Read v q w args) in
          both-true (command_ok folds f known' stepped d)
          (onward (paths_ok folds f (final code.structs body) n) d i known')
          (command-go f known known' (F i) good stepped (Read v q w args) (used-known d here) k) refl
      cmd-go (Call g args w rest) up here follow k p =
          let d = fold-it (Call g args w rest) in
          both-true (command_ok folds f known' stepped d)
          (onward (paths_ok folds f (final code.structs body) n) d i known')
          (command-go f known known' (F i) good stepped (Call g args w rest) (used-known d here) k) refl

    paths-go : (n : ℕ) → On n
    unfolding paths_ok
    paths-go zero i known known' stepped long h good live = absurd (grind (arith, h))
    paths-go (suc n) i known known' stepped long h good live = found (paths-go n) (slice_get body i) refl h
      where
        found : On n → (o : Option Cmd) → slice_get body i ≡ o → path_ok code f (paths_ok code f body n) o i known stepped ≡ true
            → path_ok folds f (paths_ok folds f (final code.structs body) n) (slice_get (final code.structs body) i) i known' stepped ≡ true
        found on None e h = absurd (grind (arith, h))
        found on (Some c) e h =
            let s = spot code.structs body i c tree e in
            let up = forward-at body 0 i i c forward e (omega arith) in
            let p = both (command_ok code f known stepped c) (onward (paths_ok code f body n) c i known) h in
            rw (s.there) (cmd-go n i on known known' stepped long good live s.later s.ahead c up s.here s.follow p.0 p.1)

  unit-go' : (unit : CodeUnit) → unit_ok code unit ≡ true → unit_ok folds (folded_unit code.structs unit) ≡ true
  unfolding unit_ok
  unit-go' unit h =
      let f = unit.function in
      let begun = with_params (replicate (length (kinds_of code f)) false) unit.params in
      let B = final code.structs unit.body in
      let p = both (is_core (slice_get code.functions f)) (below (length (kinds_of code f)) unit.params && body_ok code f unit.params unit.body) h in
      let q = both (below (length (kinds_of code f)) unit.params) (body_ok code f unit.params unit.body) p.1 in
      let r = both (all_forward unit.body 0 && is_tree unit.body) (paths_ok code f unit.body (length unit.body) 0 begun false) q.1 in
      let shape = both (all_forward unit.body 0) (is_tree unit.body) r.0 in
      let forward : all_forward B 0 ≡ true = forward-folded code.structs unit.body ∙ shape.0 in
      let tree : is_tree B ≡ true = ticked-tree (folded_commands code.structs at_root 0 unit.body) ∙ replaced-tree code.structs unit.body ∙ shape.1 in
      let paths : paths_ok folds f B (length B) 0 begun false ≡ true =
      ap (λ n. paths_ok folds f B n 0 begun false) (folded-length code.structs unit.body)
      ∙ paths-go f unit.body shape.1 shape.0 (length unit.body) 0 begun begun false refl r.1
      (subst (CopiesTyped code.structs (kinds_of code f) begun) (sym (facts-root code.structs unit.body)) (none-typed code.structs (kinds_of code f) begun)) (λ v m k. k) in
      both-true (is_core (slice_get code.functions f)) (below (length (kinds_of code f)) unit.params && body_ok folds f unit.params B) p.0
      (both-true (below (length (kinds_of code f)) unit.params) (body_ok folds f unit.params B) q.0
      (both-true (all_forward B 0 && is_tree B) (paths_ok folds f B (length B) 0 begun false) (both-true (all_forward B 0) (is_tree B) forward tree) paths))

  units-go : (units : List CodeUnit) → units_ok code units ≡ true → units_ok folds (folded_units code.structs units) ≡ true
  unfolding units_ok folded_units
  units-go [] h = refl
  units-go (unit ∷ units) h =
      let p = both (unit_ok code unit) (units_ok code units) h in
      both-true (unit_ok folds (folded_unit code.structs unit)) (units_ok folds (folded_units code.structs units)) (unit-go' unit p.0) (units-go units p.1)

  entry-same : (f n : ℕ) (o : Option CodeUnit) → entry_ok f n (map-unit code.structs o) ≡ entry_ok f n o
  entry-same f n None = refl
  entry-same f n (Some unit) = refl

  function-same : (f : ℕ) (function : FunctionCode) (kinds : List Kind) → function_ok folds f function kinds ≡ function_ok code f function kinds
  function-same f (CoreFunction name entry params) kinds =
      ap (λ b. (is_prefix params kinds && kinds_ok code.structs kinds) && b)
      (ap (entry_ok f (length params)) (unit-there code.structs code.units entry.0) ∙ entry-same f (length params)
      (slice_get code.units entry.0))
  function-same f (InitFunction name s params body) kinds = refl

  functions-same : (f : ℕ) (functions : List FunctionCode) (kinds : List (List Kind)) → functions_ok folds f functions kinds ≡ functions_ok code f functions kinds
  unfolding functions_ok
  functions-same f [] [] = refl
  functions-same f [] (ks ∷ kinds) = refl
  functions-same f (function ∷ functions) [] = refl
  functions-same f (function ∷ functions) (ks ∷ kinds) = ap₂ (λ a b. a && b) (function-same f function ks) (functions-same (f + 1) functions kinds)

  pub folded-valid : valid folds ≡ true
  unfolding valid
  folded-valid =
      let k = both (structs_ok code.structs code.structs) (functions_ok code 0 code.functions code.kinds && units_ok code code.units) ok in
      both-true (structs_ok code.structs code.structs) (functions_ok folds 0 code.functions code.kinds && units_ok folds (folded_units code.structs code.units)) k.0
      (both-true (functions_ok folds 0 code.functions code.kinds) (units_ok folds (folded_units code.structs code.units))
      (functions-same 0 code.functions code.kinds ∙ functions-valid code ok) (units-go code.units (units-valid code ok)))
