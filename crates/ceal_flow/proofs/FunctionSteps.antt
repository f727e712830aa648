-- The blocks of functions one after another.
use Rattle.std.proofs.Common.{◌≡◌, ℕ, suc, ◌+◌, ◌<◌, Option, Some, None, List, [], ◌∷◌, ◌++◌, length, take, drop, get_or, slice_get, refl, ap, sym, ◌∙◌, arith, length-append, append_assoc, add-one}
use Rattle.std.proofs.Math.Seq.{drop-cons}
use Rattle.std.proofs.lemmas.List.{take_more, take-append-drop}
use Rattle.ceal_base.specs.declared.fault.Span.{Span}
use Rattle.ceal_base.specs.declared.typed.TypedFunction.{TypedFunction}
use Rattle.ceal_base.specs.declared.typed.TypedStmt.{TypedStmt}
use Rattle.ceal_flow.specs.Blocks.{no_loop}
use Rattle.ceal_flow.specs.Lowering.{size_in, function_size, function_sizes, end_of, function_at, blocks_in, blocks_at, functions_from, blocks_from, places_in, places_of, function_places}
use Rattle.ceal_flow.proofs.BlockSteps.{all-length}
use Rattle.ceal_flow.proofs.ListFacts.{get-left, get-right}
use Rattle.ceal_flow.proofs.PlaceSteps.{all-places-length}

-- sizes
pub function_sizes-nil : function_sizes [] ≡ 0
unfolding function_sizes
function_sizes-nil = refl

pub function_sizes-cons : (f : TypedFunction) (fs : List TypedFunction) → function_sizes (f ∷ fs) ≡ function_size f + function_sizes fs
unfolding function_sizes
function_sizes-cons f fs = refl

pub function_sizes-append : (fs gs : List TypedFunction) → function_sizes (fs ++ gs) ≡ function_sizes fs + function_sizes gs
unfolding function_sizes
function_sizes-append [] gs = omega arith
function_sizes-append (f ∷ fs) gs = let h = function_sizes-append fs gs in omega (arith, h)

pub function_sizes-drop : (fs : List TypedFunction) (i : ℕ) (f : TypedFunction) → f ≡ get_or fs i f → i < length fs
    → function_sizes (drop i fs) ≡ function_size f + function_sizes (drop (i + 1) fs)
function_sizes-drop fs i f is h = rw (drop-cons fs i f h, ← is, add-one) (function_sizes-cons f (drop (suc i) fs))

pub function_sizes-take : (fs : List TypedFunction) (i : ℕ) (f : TypedFunction) → f ≡ get_or fs i f → i < length fs
    → function_sizes (take (i + 1) fs) ≡ function_sizes (take i fs) + function_size f
function_sizes-take fs i f is h =
    let one : function_sizes (f ∷ []) ≡ function_size f = function_sizes-cons f [] ∙ rw function_sizes-nil (omega arith) in
    rw (take_more fs i f h, ← is, function_sizes-append) (ap (λ n. function_sizes (take i fs) + n) one)

-- places
places_in-length : (i : Option ℕ) (body : List TypedStmt) (close : Span) → length (places_in i body close) ≡ size_in i body
places_in-length None body close = let h = all-places-length body in simp length-append (omega (arith, h))
places_in-length (Some s) body close = refl

function_places-cons : (f : TypedFunction) (fs : List TypedFunction) → function_places (f ∷ fs) ≡ places_of f ++ function_places fs
unfolding function_places
function_places-cons f fs = refl

function_places-append : (fs gs : List TypedFunction) → function_places (fs ++ gs) ≡ function_places fs ++ function_places gs
unfolding function_places
function_places-append [] gs = refl
function_places-append (f ∷ fs) gs = rw (function_places-append fs gs, append_assoc) refl

pub function_places-length : (fs : List TypedFunction) → length (function_places fs) ≡ function_sizes fs
unfolding function_places function_sizes
function_places-length [] = refl
function_places-length (f ∷ fs) =
    let a = places_in-length f.initialiser f.body f.close in
    let b = function_places-length fs in simp length-append (omega (arith, a, b))

function_places-parts : (fs : List TypedFunction) (i : ℕ) (f : TypedFunction) → f ≡ get_or fs i f → i < length fs
    → function_places fs ≡ function_places (take i fs) ++ (places_of f ++ function_places (drop (i + 1) fs))
function_places-parts fs i f is h =
    sym (ap function_places (take-append-drop i fs)) ∙ function_places-append (take i fs) (drop i fs)
    ∙ ap (λ ps. function_places (take i fs) ++ ps) (rw (drop-cons fs i f h, ← is, add-one) (function_places-cons f (drop (suc i) fs)))

-- the place of a block of the function at `i`
pub function_places-at : (fs : List TypedFunction) (i : ℕ) (f : TypedFunction) → f ≡ get_or fs i f → i < length fs
    → (k j : ℕ) (at : Span) → slice_get (places_of f) j ≡ Some at → k ≡ function_sizes (take i fs) + j → slice_get (function_places fs) k ≡ Some at
function_places-at fs i f is h k j at here e =
    rw (function_places-parts fs i f is h)
    (get-right (function_places (take i fs)) (places_of f ++ function_places (drop (i + 1) fs)) k j at
    (get-left (places_of f) (function_places (drop (i + 1) fs)) j at here)
    (rw (function_places-length (take i fs)) e))

-- blocks
pub blocks_in-length : (i : Option ℕ) (body : List TypedStmt) (n : ℕ) → length (blocks_in i body n) ≡ size_in i body
blocks_in-length None body n = let h = all-length body n (end_of body n) (no_loop (end_of body n)) in simp length-append (omega (arith, h))
blocks_in-length (Some s) body n = refl

pub blocks_from-length : (fs : List TypedFunction) (n : ℕ) → length (blocks_from n fs) ≡ function_sizes fs
unfolding blocks_from function_sizes
blocks_from-length [] n = refl
blocks_from-length (f ∷ fs) n =
    let a = blocks_in-length f.initialiser f.body n in
    let b = blocks_from-length fs (n + function_size f) in simp length-append (omega (arith, a, b))

module _ (n : ℕ) where
  pub functions_from-nil : functions_from n [] ≡ []
  unfolding functions_from
  functions_from-nil = refl

  pub blocks_from-nil : blocks_from n [] ≡ []
  unfolding blocks_from
  blocks_from-nil = refl

  pub functions_from-cons : (f : TypedFunction) (fs : List TypedFunction) → functions_from n (f ∷ fs) ≡ function_at f n ∷ functions_from (n + function_size f) fs
  unfolding functions_from
  functions_from-cons f fs = refl

  pub blocks_from-cons : (f : TypedFunction) (fs : List TypedFunction) → blocks_from n (f ∷ fs) ≡ blocks_at f n ++ blocks_from (n + function_size f) fs
  unfolding blocks_from
  blocks_from-cons f fs = refl

pub functions_from-drop : (n : ℕ) (fs : List TypedFunction) (i : ℕ) (f : TypedFunction) → f ≡ get_or fs i f → i < length fs
    → functions_from n (drop i fs) ≡ function_at f n ∷ functions_from (n + function_size f) (drop (i + 1) fs)
functions_from-drop n fs i f is h = rw (drop-cons fs i f h, ← is, add-one) (functions_from-cons n f (drop (suc i) fs))

pub blocks_from-drop : (n : ℕ) (fs : List TypedFunction) (i : ℕ) (f : TypedFunction) → f ≡ get_or fs i f → i < length fs
    → blocks_from n (drop i fs) ≡ blocks_at f n ++ blocks_from (n + function_size f) (drop (i + 1) fs)
blocks_from-drop n fs i f is h = rw (drop-cons fs i f h, ← is, add-one) (blocks_from-cons n f (drop (suc i) fs))
