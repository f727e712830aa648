-- The units of a graph's entries.
use Rattle.std.proofs.Common.{◌≡◌, inl, inr, ℕ, zero, suc, ◌+◌, ◌<◌, ◌≤◌, ◌||◌, ◌&&◌, nat_le, Bool, true, false, Some}
use Rattle.std.proofs.Common.{if◌then◌else◌, List, [], ◌∷◌, ◌++◌, length, slice_get, Contains, refl, sym, subst, arith}
use Rattle.std.proofs.Common.{length-append}
use Rattle.std.proofs.lemmas.Bool.{or_left, or_right, or_cases, leb-true}
use Rattle.std.proofs.lemmas.Bool.Decides.{eqb_tells}
use Rattle.std.proofs.lemmas.List.Elements.{Contains-push, Contains-append_left, Contains-append_right}
use Rattle.ceal_base.specs.declared.typed.Typed.{Typed}
use Rattle.ceal_base.specs.declared.typed.TypedStmt.{TypedStmt}
use Rattle.ceal_code.proofs.Words.SameIsEqual.{both-true}
use Rattle.ceal_code.specs.Program.{Unit, Code}
use Rattle.ceal_code.specs.Valid.{unit_ok, units_ok}
use Rattle.ceal_base.specs.declared.kind.Kind.{Kind}
use Rattle.ceal_flow.specs.Laws.{firsts, IsReached}
use Rattle.ceal_flow.specs.Lowering.{graph_of}
use Rattle.ceal_flow.specs.Paths.{stays, jumps, jumps_at}
use Rattle.ceal_flow.specs.Program.{Graph}
use Rattle.ceal_flow.specs.Sets.{is_in}
use Rattle.ceal_flow.specs.declared.block.GraphBlock.{GraphBlock}
use Rattle.ceal_flow.specs.declared.block.GraphBlock.TheVariants.{Done, Test, Act, Unreached}
use Rattle.ceal_flow.specs.declared.function.GraphFunction.{GraphFunction}
use Rattle.ceal_flow.specs.declared.function.GraphFunction.TheVariants.{Core, Init}
use Rattle.ceal_flow.proofs.ListFacts.{get-left, get-right}
use Rattle.ceal_norm.specs.Entries.{has_closure, continuations, all_continuations, all_jumps, count, is_entry, entries_before}
use Rattle.ceal_norm.specs.Units.{Source, unit_code, units_before}
use Rattle.ceal_norm.proofs.Jumps.JumpsLeadToBlocks.{jump-reached}
use Rattle.ceal_norm.proofs.Jumps.JumpCounts.{first-entry}
use Rattle.ceal_norm.proofs.Validity.KnownVariables.{in-first, in-cases, in-left, in-right, in-either}

module _ (s : Source) where
  length-if : (b : Bool) (us : List Unit) (u : Unit) (n : ℕ) → length us ≡ n → length (if b then us ++ u ∷ [] else us) ≡ (if b then n + 1 else n)
  length-if true us u n h = let l = length-append us (u ∷ []) in omega (arith, l, h)
  length-if false us u n h = h

  units-length : (n : ℕ) → length (units_before s n) ≡ entries_before s.graph n
  unfolding units_before entries_before
  units-length zero = refl
  units-length (suc n) = length-if (is_entry s.graph n) (units_before s n) (unit_code s n) (entries_before s.graph n) (units-length n)

  left-if : (b : Bool) (us : List Unit) (u : Unit) (i : ℕ) (v : Unit) → slice_get us i ≡ Some v → slice_get (if b then us ++ u ∷ [] else us) i ≡ Some v
  left-if true us u i v h = get-left us (u ∷ []) i v h
  left-if false us u i v h = h

  last-if : (b : Bool) (us : List Unit) (u : Unit) (i : ℕ) → b ≡ true → i ≡ length us → slice_get (if b then us ++ u ∷ [] else us) i ≡ Some u
  last-if true us u i e h = get-right us (u ∷ []) i 0 u refl (omega (arith, h))
  last-if false us u i e h = cc

  -- the unit of an entry
  pub unit-at : (n b : ℕ) → is_entry s.graph b ≡ true → b < n → slice_get (units_before s n) (entries_before s.graph b) ≡ Some (unit_code s b)
  unfolding units_before
  unit-at zero b e l = absurd (omega (arith, l))
  unit-at (suc n) b e l = elim (eqb_tells b n) [
    | inl p ↦
        let here = subst (λ c. is_entry s.graph c ≡ true) p.1 e in
        subst (λ c. slice_get (units_before s (suc n)) (entries_before s.graph c) ≡ Some (unit_code s c)) (sym p.1)
        (last-if (is_entry s.graph n) (units_before s n) (unit_code s n) (entries_before s.graph n) here (sym (units-length n)))
    | inr p ↦
        let different = p.1 in
        left-if (is_entry s.graph n) (units_before s n) (unit_code s n) (entries_before s.graph b) (unit_code s b) (unit-at n b e (omega (arith, l, different)))
  ]

  module _ (code : Code) where
    push-true : (b : Bool) (us : List Unit) (u : Unit) → (b && units_ok code us) ≡ true → (units_ok code us ≡ true → units_ok code (us ++ u ∷ []) ≡ true)
        → (b && units_ok code (us ++ u ∷ [])) ≡ true
    push-true true us u h k = k h
    push-true false us u h k = h

    units-push : (us : List Unit) (u : Unit) → units_ok code us ≡ true → unit_ok code u ≡ true → units_ok code (us ++ u ∷ []) ≡ true
    unfolding units_ok
    units-push [] u h k = both-true _ _ k refl
    units-push (x ∷ us) u h k = push-true (unit_ok code x) us u h (λ m. units-push us u m k)

    units-if : (b : Bool) (us : List Unit) (u : Unit) → units_ok code us ≡ true → (b ≡ true → unit_ok code u ≡ true) → units_ok code (if b then us ++ u ∷ [] else us) ≡ true
    units-if true us u h k = units-push us u h (k refl)
    units-if false us u h k = h

    pub units-all : (n : ℕ) → ((b : ℕ) → is_entry s.graph b ≡ true → b < n → unit_ok code (unit_code s b) ≡ true) → units_ok code (units_before s n) ≡ true
    unfolding units_before units_ok
    units-all zero h = refl
    units-all (suc n) h =
        units-if (is_entry s.graph n) (units_before s n) (unit_code s n) (units-all n (λ b e l. h b e (omega (arith, l)))) (λ e. h n e (omega arith))

-- entries
continuation-in : (blocks : List GraphBlock) (b c : ℕ) (block : GraphBlock) → slice_get blocks b ≡ Some block → is_in c (continuations block) ≡ true → is_in c (all_continuations blocks) ≡ true
unfolding all_continuations
continuation-in [] b c block e h = cc
continuation-in (x ∷ xs) zero c block e h = let same : x ≡ block = cc in in-left c (continuations x) (all_continuations xs) (rw same h)
continuation-in (x ∷ xs) (suc b) c block e h = in-right c (continuations x) (all_continuations xs) (continuation-in xs b c block e h)

pub continuation-entry : (g : Graph) (b c : ℕ) (s : TypedStmt) → slice_get g.blocks b ≡ Some (Act s c) → has_closure s ≡ true → is_entry g c ≡ true
continuation-entry g b c s look h =
    let here : is_in c (continuations (Act s c)) ≡ true = rw h (in-first c []) in
    let inside = continuation-in g.blocks b c (Act s c) look here in
    or_left (is_in c (firsts g.functions) || is_in c (all_continuations g.blocks)) (nat_le 2 (count c (all_jumps g.blocks)))
    (or_right (is_in c (firsts g.functions)) (is_in c (all_continuations g.blocks)) inside)

first-in : (gs : List GraphFunction) (k : ℕ) (name : List ℕ) (first params : ℕ) (kinds : List Kind) → slice_get gs k ≡ Some (Core name first params kinds) → Contains (firsts gs) first
first-in [] k name first params kinds e = cc
first-in (Init f ∷ gs) zero name first params kinds e = cc
first-in (Core n x q ks ∷ gs) zero name first params kinds e =
    let same : x ≡ first = cc in subst (λ y. Contains (x ∷ firsts gs) y) same (Contains-append_left (x ∷ []) (firsts gs) x (Contains-push [] x))
first-in (Init f ∷ gs) (suc k) name first params kinds e = first-in gs k name first params kinds e
first-in (Core n x q ks ∷ gs) (suc k) name first params kinds e = Contains-append_right (x ∷ []) (firsts gs) first (first-in gs k name first params kinds e)

-- the first block of a function
pub function-entry : (g : Graph) (k : ℕ) (name : List ℕ) (first params : ℕ) (kinds : List Kind) → slice_get g.functions k ≡ Some (Core name first params kinds) → is_entry g first ≡ true
function-entry g k name first params kinds e = first-entry g first (first-in g.functions k name first params kinds e)

in-contains : (v : ℕ) (xs : List ℕ) → is_in v xs ≡ true → Contains xs v
in-contains v [] h = cc
in-contains v (x ∷ xs) h = elim (in-cases v x xs h) [
  | inl e ↦ Contains-append_left (x ∷ []) xs v (subst (λ y. Contains (x ∷ []) y) e (Contains-push [] x))
  | inr k ↦ Contains-append_right (x ∷ []) xs v (in-contains v xs k)
]

-- a block from which a jump leads to another
record Jumps (blocks : List GraphBlock) (c : ℕ) : Type 0 where
  b : ℕ
  leads : Contains (jumps_at (slice_get blocks b)) c

later-jump : (x : GraphBlock) (xs : List GraphBlock) (c : ℕ) → Jumps xs c → Jumps (x ∷ xs) c
later-jump x xs c j = record { b = suc j.b; leads = j.leads }

continuation-if : (t : Bool) (n c : ℕ) → is_in c (if t then n ∷ [] else []) ≡ true → is_in c (n ∷ []) ≡ true
continuation-if true n c h = h
continuation-if false n c h = cc

continuation-jumps : (block : GraphBlock) (c : ℕ) → is_in c (continuations block) ≡ true → is_in c (jumps block) ≡ true
continuation-jumps Done c h = h
continuation-jumps (Test test a b) c h = cc
continuation-jumps (Act s next) c h = continuation-if (has_closure s) next c h
continuation-jumps Unreached c h = h

continuation-from : (blocks : List GraphBlock) (c : ℕ) → is_in c (all_continuations blocks) ≡ true → Jumps blocks c
unfolding all_continuations
continuation-from [] c h = cc
continuation-from (x ∷ xs) c h = elim (in-either c (continuations x) (all_continuations xs) h) [
  | inl k ↦ record { b = 0; leads = in-contains c (jumps x) (continuation-jumps x c k) }
  | inr k ↦ later-jump x xs c (continuation-from xs c k)
]

counted-in : (c : ℕ) (xs : List ℕ) → 1 ≤ count c xs → is_in c xs ≡ true
unfolding count
counted-in c [] h = absurd (omega (arith, h))
counted-in c (x ∷ xs) h = elim (eqb_tells x c) [
  | inl p ↦ rw p.0 refl
  | inr p ↦ let fewer : 1 ≤ count c xs = rw p.0 at h in rw p.0 (counted-in c xs fewer)
]

jumps-from : (blocks : List GraphBlock) (c : ℕ) → is_in c (all_jumps blocks) ≡ true → Jumps blocks c
unfolding all_jumps
jumps-from [] c h = cc
jumps-from (x ∷ xs) c h = elim (in-either c (jumps x) (all_jumps xs) h) [
  | inl k ↦ record { b = 0; leads = in-contains c (jumps x) k }
  | inr k ↦ later-jump x xs c (jumps-from xs c k)
]

module _ (p : Typed) where
  -- a path leads to each entry
  pub entry-reached : (c : ℕ) → is_entry (graph_of p) c ≡ true → IsReached (graph_of p) c
  entry-reached c h =
      let gs = firsts (graph_of p).functions in
      let bs = all_continuations (graph_of p).blocks in
      let js = all_jumps (graph_of p).blocks in
      elim (or_cases (is_in c gs || is_in c bs) (nat_le 2 (count c js)) h) [
        | inl k ↦ elim (or_cases (is_in c gs) (is_in c bs) k) [
          | inl m ↦ (c, in-contains c gs m, stays)
          | inr m ↦ let j = continuation-from (graph_of p).blocks c m in jump-reached p j.b c j.leads
        ]
        | inr k ↦
            let two = leb-true 2 (count c js) k in
            let j = jumps-from (graph_of p).blocks c (counted-in c js (omega (arith, two))) in jump-reached p j.b c j.leads
      ]
