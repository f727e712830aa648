-- The places of the blocks of statements and of functions in a graph.
use Rattle.std.proofs.Common.{◌≡◌, ℕ, zero, suc, ◌+◌, ◌<◌, true, Option, Some, List, [], ◌∷◌, ◌++◌, length, slice_get}
use Rattle.std.proofs.Common.{replicate, if◌then◌else◌, refl, ap, sym, ◌∙◌, arith, append_assoc, length-append, All}
use Rattle.std.proofs.Common.{subst}
use Rattle.std.proofs.lemmas.List.Elements.{All-head, All-tail}
use Rattle.ceal_base.specs.declared.typed.TypedFunction.{TypedFunction}
use Rattle.ceal_base.specs.declared.typed.TypedStmt.{TypedStmt}
use Rattle.ceal_flow.specs.Blocks.{size, sizes, may_continue, entry, blocks_of, all_blocks}
use Rattle.ceal_flow.specs.Lowering.{function_size, function_at, blocks_at, functions_from, blocks_from}
use Rattle.ceal_flow.specs.declared.block.GraphBlock.{GraphBlock}
use Rattle.ceal_flow.specs.declared.exits.Exits.{Exits}
use Rattle.ceal_flow.specs.declared.block.GraphBlock.TheVariants.{Unreached}
use Rattle.ceal_flow.specs.declared.function.GraphFunction.{GraphFunction}
use Rattle.ceal_flow.proofs.BlockSteps.{blocks-length, all-cons}
use Rattle.ceal_flow.proofs.FunctionSteps.{blocks_in-length}
use Rattle.ceal_flow.proofs.ListFacts.{get-append_left, get-append_right}

-- the blocks from block `n` on are these
abbrev pub Placed : List GraphBlock → ℕ → List GraphBlock → Type 0
Placed blocks n xs = (i : ℕ) → i < length xs → slice_get blocks (n + i) ≡ slice_get xs i

module _ (blocks : List GraphBlock) where
  pub placed-head : (n : ℕ) (x : GraphBlock) (xs : List GraphBlock) → Placed blocks n (x ∷ xs) → slice_get blocks n ≡ Some x
  placed-head n x xs h = let e : n ≡ n + 0 = omega arith in ap (slice_get blocks) e ∙ h 0 (omega arith)

  pub placed-left : (n : ℕ) (xs ys : List GraphBlock) → Placed blocks n (xs ++ ys) → Placed blocks n xs
  placed-left n xs ys h i l =
      let more : i < length (xs ++ ys) = simp length-append (omega arith) in h i more ∙ get-append_left xs ys i l

  pub placed-right : (n : ℕ) (xs ys : List GraphBlock) (k : ℕ) → k ≡ length xs → Placed blocks n (xs ++ ys) → Placed blocks (n + k) ys
  placed-right n xs ys k e h i l =
      let more : length xs + i < length (xs ++ ys) = simp length-append (omega arith) in
      let same : n + k + i ≡ n + (length xs + i) = omega arith in
      ap (slice_get blocks) same ∙ h (length xs + i) more ∙ get-append_right xs ys (length xs + i) i refl

  pub placed-tail : (n : ℕ) (x : GraphBlock) (xs : List GraphBlock) → Placed blocks n (x ∷ xs) → Placed blocks (n + 1) xs
  placed-tail n x xs h = placed-right n (x ∷ []) xs 1 refl h

  -- the first statement, and those after it
  pub placed-first : (s : TypedStmt) (ss : List TypedStmt) (n after : ℕ) (exits : Exits) → Placed blocks n (all_blocks (s ∷ ss) n after exits)
      → Placed blocks n (blocks_of s n (entry ss (n + size s) after exits) exits)
  placed-first s ss n after exits h =
      placed-left n _ (if may_continue s then all_blocks ss (n + size s) after exits else replicate (sizes ss) Unreached) (rw all-cons at h)

  pub placed-rest : (s : TypedStmt) (ss : List TypedStmt) (n after : ℕ) (exits : Exits) → may_continue s ≡ true → Placed blocks n (all_blocks (s ∷ ss) n after exits)
      → Placed blocks (n + size s) (all_blocks ss (n + size s) after exits)
  placed-rest s ss n after exits on h =
      placed-right n (blocks_of s n (entry ss (n + size s) after exits) exits) (all_blocks ss (n + size s) after exits) (size s)
      (sym (blocks-length s n (entry ss (n + size s) after exits) exits)) (rw (all-cons, on) at h)

-- a part is where it is put
pub placed-part : (before xs after : List GraphBlock) (n : ℕ) → n ≡ length before → Placed (before ++ (xs ++ after)) n xs
placed-part before xs after n e i l =
    let same : n + i ≡ length before + i = omega arith in
    get-append_right before (xs ++ after) (n + i) i same ∙ get-append_left xs after i l

-- what `lower` makes of the function of this number: it begins at some block, where its blocks are
pub record Made (blocks : List GraphBlock) (made : Option GraphFunction) (f : TypedFunction) : Type 0 where
  pub start : ℕ
  pub function : made ≡ Some (function_at f start)
  pub placed : Placed blocks start (blocks_at f start)

made-from : (before : List GraphBlock) (n : ℕ) (fs : List TypedFunction) (k : ℕ) (f : TypedFunction) → n ≡ length before → slice_get fs k ≡ Some f
    → Made (before ++ blocks_from n fs) (slice_get (functions_from n fs) k) f
unfolding blocks_from functions_from
made-from before n [] k f e h = cc
made-from before n (g ∷ fs) zero f e h =
    let same : g ≡ f = cc in
    record {
      start = n;
      function = ap (λ x. Some (function_at x n)) same;
      placed = rw (← same) (placed-part before (blocks_at g n) (blocks_from (n + function_size g) fs) n e);
    }
made-from before n (g ∷ fs) (suc k) f e h =
    let l = blocks_in-length g.initialiser g.body n in
    let longer : n + function_size g ≡ length (before ++ blocks_at g n) = simp length-append (omega (arith, l)) in
    let m = made-from (before ++ blocks_at g n) (n + function_size g) fs k f longer h in
    record { start = m.start; function = m.function; placed = rw append_assoc at m.placed }

pub made-at : (fs : List TypedFunction) (k : ℕ) (f : TypedFunction) → slice_get fs k ≡ Some f → Made (blocks_from 0 fs) (slice_get (functions_from 0 fs) k) f
made-at fs k f h = made-from [] 0 fs k f refl h

-- what holds of all holds of the item at `i`
pub all-at : {X : Type 0} (P : X → Type 0) (xs : List X) (i : ℕ) (x : X) → All P xs → slice_get xs i ≡ Some x → P x
all-at P [] i x all h = cc
all-at P (y ∷ ys) zero x all h = let e : y ≡ x = cc in subst P e (All-head P y ys all)
all-at P (y ∷ ys) (suc i) x all h = all-at P ys i x (All-tail P y ys all) h
