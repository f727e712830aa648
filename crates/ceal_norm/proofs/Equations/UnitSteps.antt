-- The units one by one.
use Rattle.std.proofs.Common.{◌≡◌, ℕ, zero, suc, ◌+◌, ◌<◌, Bool, true, false, if◌then◌else◌, Some, List, [], ◌∷◌, ◌++◌}
use Rattle.std.proofs.Common.{length, get_or, slice_get, map, take, refl, ap, sym, arith, append-nil, append_assoc}
use Rattle.std.proofs.Common.{add-one, ◌∙◌}
use Rattle.std.proofs.lemmas.List.{take_more, map-append}
use Rattle.std.proofs.lemmas.Option.{slice_get_within, get_or_from_slice_get}
use Rattle.ceal_base.specs.declared.kind.Kind.{Kind}
use Rattle.ceal_base.specs.declared.typed.TypedFunction.{TypedFunction}
use Rattle.ceal_code.specs.Program.{Unit}
use Rattle.ceal_flow.specs.declared.block.GraphBlock.{GraphBlock}
use Rattle.ceal_flow.specs.declared.block.GraphBlock.TheVariants.{Done, Test, Act, Unreached}
use Rattle.ceal_flow.specs.declared.function.GraphFunction.{GraphFunction}
use Rattle.ceal_flow.specs.declared.function.GraphFunction.TheVariants.{Core, Init}
use Rattle.ceal_norm.specs.Entries.{is_entry}
use Rattle.ceal_norm.specs.Units.{Source, core_numbers, ends_before, is_done, unit_code, units_before}

pub cores-end : (n : ℕ) (fs : List GraphFunction) → length fs ≡ 0 → core_numbers n fs ≡ []
unfolding core_numbers
cores-end n [] h = refl
cores-end n (f ∷ fs) h = absurd (omega (arith, h))

pub cores-core : (n : ℕ) (name : List ℕ) (first params : ℕ) (kinds : List Kind) (fs : List GraphFunction)
    → core_numbers n (Core name first params kinds ∷ fs) ≡ n ∷ core_numbers (n + 1) fs
unfolding core_numbers
cores-core n name first params kinds fs = refl

pub cores-init : (n : ℕ) (f : TypedFunction) (fs : List GraphFunction) → core_numbers n (Init f ∷ fs) ≡ core_numbers (n + 1) fs
unfolding core_numbers
cores-init n f fs = refl

pub ruleset core_steps = (cores-end, cores-core, cores-init, append-nil, append_assoc)

pub units-none : (s : Source) → units_before s 0 ≡ []
unfolding units_before
units-none s = refl

pub units-more : (s : Source) (b : ℕ)
    → units_before s (b + 1) ≡ (if is_entry s.graph b then units_before s b ++ unit_code s b ∷ [] else units_before s b)
unfolding units_before
units-more s b = rw add-one refl

pub ends-none : (blocks : List GraphBlock) → ends_before blocks 0 ≡ 0
unfolding ends_before
ends-none blocks = refl

ends-swap : (t : Bool) (n : ℕ) → (if t then n + 1 else n) + 1 ≡ (if t then (n + 1) + 1 else n + 1)
ends-swap true n = refl
ends-swap false n = refl

ends-next : (blocks : List GraphBlock) (b : ℕ) (d : GraphBlock) → b < length blocks
    → ends_before blocks (suc b) ≡ (if is_done (get_or blocks b d) then ends_before blocks b + 1 else ends_before blocks b)
unfolding ends_before
ends-next [] b d l = absurd (omega (arith, l))
ends-next (Done ∷ bs) zero d l = refl
ends-next (Test test first second ∷ bs) zero d l = refl
ends-next (Act s next ∷ bs) zero d l = refl
ends-next (Unreached ∷ bs) zero d l = refl
ends-next (Done ∷ bs) (suc b) d l =
    ap (λ n. n + 1) (ends-next bs b d (omega (arith, l))) ∙ ends-swap (is_done (get_or bs b d)) (ends_before bs b)
ends-next (Test test first second ∷ bs) (suc b) d l = ends-next bs b d (omega (arith, l))
ends-next (Act s next ∷ bs) (suc b) d l = ends-next bs b d (omega (arith, l))
ends-next (Unreached ∷ bs) (suc b) d l = ends-next bs b d (omega (arith, l))

pub ends-more : (blocks : List GraphBlock) (b : ℕ) (d : GraphBlock) → b < length blocks
    → ends_before blocks (b + 1) ≡ (if is_done (get_or blocks b d) then ends_before blocks b + 1 else ends_before blocks b)
ends-more blocks b d l = rw add-one (ends-next blocks b d l)

pub ruleset unit_steps = (units-none, units-more, ends-none)

-- one item more of a list that is mapped
pub map-more : {A B : Type 0} (f : A → B) (xs : List A) (i : ℕ) (x : A) → slice_get xs i ≡ Some x → map f (take (i + 1) xs) ≡ map f (take i xs) ++ f x ∷ []
map-more f xs i x h =
    let within = slice_get_within xs i x h in
    ap (map f) (take_more xs i x within)
    ∙ ap (λ y. map f (take i xs ++ y ∷ [])) (get_or_from_slice_get xs i x x h) ∙ map-append f (take i xs) (x ∷ [])

-- the units and ends before one block more
pub units-step : (s : Source) (i b : ℕ) (old new : List Unit) → b ≡ i
    → new ≡ (if is_entry s.graph b then old ++ unit_code s b ∷ [] else old) → old ≡ units_before s i → new ≡ units_before s (i + 1)
units-step s i b old new e h k =
    h ∙ ap (λ n. if is_entry s.graph n then old ++ unit_code s n ∷ [] else old) e
    ∙ ap (λ us. if is_entry s.graph i then us ++ unit_code s i ∷ [] else us) k ∙ sym (units-more s i)

pub ends-step : (blocks : List GraphBlock) (i b : ℕ) (d : GraphBlock) (t : Bool) (old new : ℕ) → b ≡ i → slice_get blocks b ≡ Some d
    → t ≡ is_done d → new ≡ (if t then old + 1 else old) → old ≡ ends_before blocks i → new ≡ ends_before blocks (i + 1)
ends-step blocks i b d t old new e here is h k =
    let at : slice_get blocks i ≡ Some d = ap (slice_get blocks) (sym e) ∙ here in
    h ∙ ap (λ x. if x then old + 1 else old) (is ∙ ap is_done (sym (get_or_from_slice_get blocks i d d at)))
    ∙ ap (λ n. if is_done (get_or blocks i d) then n + 1 else n) k
    ∙ sym (ends-more blocks i d (slice_get_within blocks i d at))
