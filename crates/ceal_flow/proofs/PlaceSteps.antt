-- The places of the blocks of each form of statement.
use Rattle.std.proofs.Common.{◌≡◌, ℕ, ◌+◌, ◌-◌, ◌<◌, Some, List, [], ◌∷◌, ◌++◌, length, slice_get, refl, ap, ap₂, sym, ◌∙◌, arith, length-append, take, drop, get_or, suc, add-one, append_assoc}
use Rattle.std.proofs.Math.Seq.{drop-cons}
use Rattle.std.proofs.lemmas.List.{take-append-drop}
use Rattle.ceal_base.specs.declared.fault.Span.{Span}
use Rattle.ceal_base.specs.declared.kind.Kind.{Kind}
use Rattle.ceal_base.specs.declared.typed.TypedExpr.{TypedExpr}
use Rattle.ceal_base.specs.declared.typed.TypedStmt.{TypedStmt, If', While', Row_of-TypedStmt, end_of-TypedStmt, more_of-TypedStmt}
use Rattle.ceal_base.specs.declared.typed.TypedStmt.TheBlock.{hidden-the_row-TypedStmt-0, shape-the_row-TypedStmt-0}
use Rattle.ceal_base.specs.declared.typed.TypedStmt.TheVariants.{Declare, Assign, SetField, Write, Call, Return, Break, Continue}
use Rattle.ceal_base.specs.declared.typed.TypedStmt.TheViews.{If, While}
use Rattle.ceal_base.specs.declared.typed.TypedValue.{TypedValue}
use Rattle.ceal_flow.specs.Blocks.{size, row_size, sizes}
use Rattle.ceal_flow.specs.Lowering.{places, row_places, all_places}
use Rattle.ceal_flow.specs.declared.limit.TheConstants.{BLOCK_LIMIT}
use Rattle.ceal_flow.proofs.ListFacts.{get-left, get-right}
use Rattle.ceal_flow.proofs.BlockSteps.{row-sizes, size_steps}

pub row-places : (xs : List TypedStmt) → row_places (hidden-the_row-TypedStmt-0 xs) ≡ all_places xs
unfolding places all_places hidden-the_row-TypedStmt-0 shape-the_row-TypedStmt-0 denote.Hole.Carrier.hidden
row-places [] = refl
row-places (s ∷ xs) = ap (λ ps. places s ++ ps) (row-places xs)

pub places-declare : (at : Span) (n : ℕ) (kind : Kind) (v : TypedValue) → places (Declare at n kind v) ≡ at ∷ []
unfolding places
places-declare at n kind v = refl

pub places-assign : (at : Span) (n : ℕ) (v : TypedValue) → places (Assign at n v) ≡ at ∷ []
unfolding places
places-assign at n v = refl

pub places-set : (at : Span) (left : TypedExpr) (s field : ℕ) (e : TypedExpr) → places (SetField at left s field e) ≡ at ∷ []
unfolding places
places-set at left s field e = refl

pub places-write : (at : Span) (p e : TypedExpr) → places (Write at p e) ≡ at ∷ []
unfolding places
places-write at p e = refl

pub places-call : (at : Span) (f : ℕ) (args : List TypedExpr) → places (Call at f args) ≡ at ∷ []
unfolding places
places-call at f args = refl

pub places-return : (at : Span) → places (Return at) ≡ []
unfolding places
places-return at = refl

pub places-break : (at : Span) → places (Break at) ≡ []
unfolding places
places-break at = refl

pub places-continue : (at : Span) → places (Continue at) ≡ []
unfolding places
places-continue at = refl

pub places-if : (at : Span) (test : TypedExpr) (first second : List TypedStmt) → places (If at test first second) ≡ at ∷ (all_places first ++ all_places second)
unfolding places
places-if at test first second = ap₂ (λ a b. at ∷ (a ++ b)) (row-places first) (row-places second)

pub places-while : (at : Span) (test : TypedExpr) (body : List TypedStmt) → places (While at test body) ≡ at ∷ all_places body
unfolding places
places-while at test body = ap (λ a. at ∷ a) (row-places body)

-- one for each block
mutual
  unfolding places size

  pub places-length : (s : TypedStmt) → length (places s) ≡ size s
  places-length (Declare at v kind value) = refl
  places-length (Assign at v value) = refl
  places-length (SetField at left s field e) = refl
  places-length (Write at p e) = refl
  places-length (Call at f args) = refl
  places-length (Return at) = refl
  places-length (Break at) = refl
  places-length (Continue at) = refl
  places-length (If' at test _ first _ second) =
      let a = row-places-length first in let b = row-places-length second in simp length-append (omega (arith, a, b))
  places-length (While' at test _ body) = let a = row-places-length body in omega (arith, a)

  row-places-length : {m : _} (r : Row_of-TypedStmt m) → length (row_places r) ≡ row_size r
  row-places-length end_of-TypedStmt = refl
  row-places-length (more_of-TypedStmt s rest) =
      let a = places-length s in let b = row-places-length rest in simp length-append (omega (arith, a, b))

pub all-places-length : (xs : List TypedStmt) → length (all_places xs) ≡ sizes xs
all-places-length xs = sym (ap length (row-places xs)) ∙ row-places-length (hidden-the_row-TypedStmt-0 xs) ∙ row-sizes xs

pub all-places-append : (xs ys : List TypedStmt) → all_places (xs ++ ys) ≡ all_places xs ++ all_places ys
unfolding all_places
all-places-append [] ys = refl
all-places-append (s ∷ xs) ys = rw (all-places-append xs ys, append_assoc) refl

all-places-cons : (s : TypedStmt) (rest : List TypedStmt) → all_places (s ∷ rest) ≡ places s ++ all_places rest
unfolding all_places
all-places-cons s rest = refl

pub all-places-parts : (xs : List TypedStmt) (i : ℕ) (s : TypedStmt) → s ≡ get_or xs i s → i < length xs
    → all_places xs ≡ all_places (take i xs) ++ (places s ++ all_places (drop (i + 1) xs))
all-places-parts xs i s is h =
    sym (ap all_places (take-append-drop i xs)) ∙ all-places-append (take i xs) (drop i xs)
    ∙ ap (λ ps. all_places (take i xs) ++ ps) (rw (drop-cons xs i s h, ← is, add-one) (all-places-cons s (drop (suc i) xs)))

-- the place of a block of the statement at `i`
pub all-places-at : (xs : List TypedStmt) (i : ℕ) (s : TypedStmt) → s ≡ get_or xs i s → i < length xs
    → (k j : ℕ) (at : Span) → slice_get (places s) j ≡ Some at → k ≡ sizes (take i xs) + j → slice_get (all_places xs) k ≡ Some at
all-places-at xs i s is h k j at here e =
    rw (all-places-parts xs i s is h)
    (get-right (all_places (take i xs)) (places s ++ all_places (drop (i + 1) xs)) k j at (get-left (places s) (all_places (drop (i + 1) xs)) j at here)
    (rw (all-places-length (take i xs)) e))

-- the first place past the limit, where none is left
pub place-first : (at : Span) (ps : List Span) (count : ℕ) (place : Span) → place ≡ at → count ≡ BLOCK_LIMIT → slice_get (at ∷ ps) (BLOCK_LIMIT - count) ≡ Some place
place-first at ps count place e full = let z : BLOCK_LIMIT - count ≡ 0 = omega arith in rw (z, e) refl

pub ruleset place_steps = (size_steps, places-declare, places-assign, places-set, places-write, places-call, places-return, places-break, places-continue)
