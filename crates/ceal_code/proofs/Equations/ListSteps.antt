-- Lists of kinds, fields, structs, parameters and units, item by item.
use Rattle.std.proofs.Common.{◌≡◌, ℕ, zero, suc, ◌+◌, ◌-◌, ◌<◌, true, false, ◌&&◌, List, [], ◌∷◌, refl, length, arith, nat_lt, nat_le, ◌==◌}
use Rattle.ceal_base.specs.Kinds.{same_kind}
use Rattle.ceal_base.specs.declared.kind.FieldKind.{FieldKind}
use Rattle.ceal_base.specs.declared.kind.Kind.{Kind}
use Rattle.ceal_base.specs.declared.typed.FieldInfo.{FieldInfo}
use Rattle.ceal_base.specs.declared.typed.StructInfo.{StructInfo}
use Rattle.ceal_code.specs.Program.{Unit, Code}
use Rattle.ceal_code.specs.Valid.{kind_ok, kinds_ok, field_ok, fields_ok, same_field, row_goes_on, row_whole, rows_ok, structs_ok, is_prefix, below, unit_ok, units_ok, function_ok, functions_ok}
use Rattle.ceal_code.specs.declared.expr.VarId.{VarId}
use Rattle.ceal_code.specs.declared.function.FunctionCode.{FunctionCode}

module _ (structs : List StructInfo) where
  pub kinds-cons : (k : Kind) (ks : List Kind) → kinds_ok structs (k ∷ ks) ≡ (kind_ok structs k && kinds_ok structs ks)
  unfolding kinds_ok
  kinds-cons k ks = refl

  pub kinds-end : (ks : List Kind) → length ks ≡ 0 → kinds_ok structs ks ≡ true
  unfolding kinds_ok
  kinds-end [] h = refl
  kinds-end (k ∷ ks) h = absurd (omega (arith, h))

  pub fields-cons : (f : FieldInfo) (fs : List FieldInfo) → fields_ok structs (f ∷ fs) ≡ (field_ok structs f.kind && fields_ok structs fs)
  unfolding fields_ok
  fields-cons f fs = refl

  pub fields-end : (fs : List FieldInfo) → length fs ≡ 0 → fields_ok structs fs ≡ true
  unfolding fields_ok
  fields-end [] h = refl
  fields-end (f ∷ fs) h = absurd (omega (arith, h))

  pub structs-cons : (s : StructInfo) (ss : List StructInfo)
      → structs_ok structs (s ∷ ss) ≡ ((nat_le (length s.fields) 255 && (fields_ok structs s.fields && rows_ok s.fields)) && structs_ok structs ss)
  unfolding structs_ok
  structs-cons s ss = refl

  pub structs-end : (ss : List StructInfo) → length ss ≡ 0 → structs_ok structs ss ≡ true
  unfolding structs_ok
  structs-end [] h = refl
  structs-end (s ∷ ss) h = absurd (omega (arith, h))

pub going-none : (kind : FieldKind) (fs : List FieldInfo) → row_goes_on 0 kind fs ≡ true
unfolding row_goes_on
going-none kind fs = refl

pub going-over : (n : ℕ) (kind : FieldKind) (fs : List FieldInfo) → n ≡ 0 → row_goes_on n kind fs ≡ true
unfolding row_goes_on
going-over zero kind fs h = refl
going-over (suc n) kind fs h = absurd (omega (arith, h))

pub going-cons : (n : ℕ) (kind : FieldKind) (f : FieldInfo) (fs : List FieldInfo) → 0 < n
    → row_goes_on n kind (f ∷ fs) ≡ ((same_field kind f.kind && (f.row == 0)) && row_goes_on (n - 1) kind fs)
unfolding row_goes_on
going-cons zero kind f fs h = absurd (omega (arith, h))
going-cons (suc n) kind f fs h =
    let e : (suc n - 1) ≡ n = omega arith in rw e refl

pub going-end : (n : ℕ) (kind : FieldKind) (fs : List FieldInfo) → 0 < n → length fs ≡ 0 → row_goes_on n kind fs ≡ false
unfolding row_goes_on
going-end zero kind fs h k = absurd (omega (arith, h))
going-end (suc n) kind [] h k = refl
going-end (suc n) kind (f ∷ fs) h k = absurd (omega (arith, k))

pub rows-cons : (f : FieldInfo) (fs : List FieldInfo) → rows_ok (f ∷ fs) ≡ (row_whole f.row f.kind fs && rows_ok fs)
unfolding rows_ok
rows-cons f fs = refl

pub rows-end : (fs : List FieldInfo) → length fs ≡ 0 → rows_ok fs ≡ true
unfolding rows_ok
rows-end [] h = refl
rows-end (f ∷ fs) h = absurd (omega (arith, h))

pub prefix-cons : (p : Kind) (ps : List Kind) (k : Kind) (ks : List Kind) → is_prefix (p ∷ ps) (k ∷ ks) ≡ (same_kind p k && is_prefix ps ks)
unfolding is_prefix
prefix-cons p ps k ks = refl

pub prefix-short : (p : Kind) (ps : List Kind) (ks : List Kind) → length ks ≡ 0 → is_prefix (p ∷ ps) ks ≡ false
unfolding is_prefix
prefix-short p ps [] h = refl
prefix-short p ps (k ∷ ks) h = absurd (omega (arith, h))

pub prefix-end : (ps ks : List Kind) → length ps ≡ 0 → is_prefix ps ks ≡ true
unfolding is_prefix
prefix-end [] ks h = refl
prefix-end (p ∷ ps) ks h = absurd (omega (arith, h))

pub below-cons : (n : ℕ) (p : VarId) (ps : List VarId) → below n (p ∷ ps) ≡ (nat_lt p.0 n && below n ps)
unfolding below
below-cons n p ps = refl

pub below-end : (n : ℕ) (ps : List VarId) → length ps ≡ 0 → below n ps ≡ true
unfolding below
below-end n [] h = refl
below-end n (p ∷ ps) h = absurd (omega (arith, h))

module _ (code : Code) where
  pub units-cons : (u : Unit) (us : List Unit) → units_ok code (u ∷ us) ≡ (unit_ok code u && units_ok code us)
  unfolding units_ok
  units-cons u us = refl

  pub units-end : (us : List Unit) → length us ≡ 0 → units_ok code us ≡ true
  unfolding units_ok
  units-end [] h = refl
  units-end (u ∷ us) h = absurd (omega (arith, h))

  pub functions-cons : (f : ℕ) (g : FunctionCode) (gs : List FunctionCode) (ks : List Kind) (kss : List (List Kind))
      → functions_ok code f (g ∷ gs) (ks ∷ kss) ≡ (function_ok code f g ks && functions_ok code (f + 1) gs kss)
  unfolding functions_ok
  functions-cons f g gs ks kss = refl

  pub functions-short : (f : ℕ) (g : FunctionCode) (gs : List FunctionCode) (kss : List (List Kind)) → length kss ≡ 0 → functions_ok code f (g ∷ gs) kss ≡ false
  unfolding functions_ok
  functions-short f g gs [] h = refl
  functions-short f g gs (ks ∷ kss) h = absurd (omega (arith, h))

  pub functions-end : (f : ℕ) (gs : List FunctionCode) (kss : List (List Kind)) → length gs ≡ 0 → functions_ok code f gs kss ≡ (length kss == 0)
  unfolding functions_ok
  functions-end f [] [] h = refl
  functions-end f [] (ks ∷ kss) h = grind arith
  functions-end f (g ∷ gs) kss h = absurd (omega (arith, h))

pub ruleset kinds_steps = (kinds-cons, kinds-end)

pub ruleset fields_steps = (fields-cons, fields-end)

pub ruleset going_steps = (going-none, going-cons, going-end)

pub ruleset rows_steps = (rows-cons, rows-end)

pub ruleset structs_steps = (structs-cons, structs-end)

pub ruleset prefix_steps = (prefix-cons, prefix-short, prefix-end)

pub ruleset below_steps = (below-cons, below-end)

pub ruleset units_steps = (units-cons, units-end)

pub ruleset functions_steps = (functions-cons, functions-short, functions-end)
