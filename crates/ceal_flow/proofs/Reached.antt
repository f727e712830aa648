-- The blocks that are kept are those that a path leads to.
use Rattle.std.proofs.Common.{◌≡◌, ◌⊎◌, inl, inr, ℕ, zero, suc, ◌+◌, Bool, true, false, ◌&&◌, Option, Some, None, List}
use Rattle.std.proofs.Common.{[], ◌∷◌, ◌++◌, length, slice_get, replicate, if◌then◌else◌, Contains, refl, sym, subst}
use Rattle.std.proofs.Common.{arith, append_assoc, length-append}
use Rattle.std.proofs.lemmas.List.Elements.{Contains-push_cases, Contains-append_cases}
use Rattle.ceal_base.specs.declared.typed.Typed.{Typed}
use Rattle.ceal_base.specs.declared.typed.TypedFunction.{TypedFunction}
use Rattle.ceal_base.specs.declared.typed.TypedStmt.{TypedStmt, Declare, Assign, SetField, Write, Call, If', While', Return, Break, Continue, Row_of-TypedStmt, end_of-TypedStmt, more_of-TypedStmt}
use Rattle.ceal_base.specs.declared.typed.TypedStmt.TheBlock.{hidden-the_row-TypedStmt-0}
use Rattle.ceal_flow.specs.Blocks.{size, row_size, sizes, may_continue, row_may_continue, all_may_continue, no_loop, in_loop, target, row_entry, entry, blocks_of, row_blocks, all_blocks}
use Rattle.ceal_flow.specs.Laws.{IsKept, firsts, IsReached, IsSimple}
use Rattle.ceal_flow.specs.Lowering.{function_size, end_of, first_of, core_blocks, function_in, blocks_in, blocks_at, functions_from, blocks_from, graph_of}
use Rattle.ceal_flow.specs.Paths.{stays, jumps_to, jumps, Leads}
use Rattle.ceal_flow.specs.declared.block.GraphBlock.{GraphBlock}
use Rattle.ceal_flow.specs.declared.exits.Exits.{Exits}
use Rattle.ceal_flow.specs.declared.block.GraphBlock.TheVariants.{Done, Act, Unreached}
use Rattle.ceal_flow.specs.declared.function.GraphFunction.{GraphFunction}
use Rattle.ceal_flow.proofs.BlockSteps.{row-may_continue, row-entry, row-blocks, blocks-length, row-length, all-length}
use Rattle.ceal_flow.proofs.FunctionSteps.{blocks_in-length}
use Rattle.ceal_flow.proofs.Owners.{owner-of}
use Rattle.ceal_flow.proofs.Placing.{Placed, placed-head, placed-left, placed-right, placed-tail, placed-part}
use Rattle.ceal_flow.proofs.Reach.{IsExit, Laws, LeadsOut, AllKept, Kept, parted, nothing-laws, jump-laws, act-laws, seq-laws, last-laws, if-laws, while-laws}

module _ (blocks : List GraphBlock) where
  -- a statement, and then others
  cons-laws : (start mid : ℕ) (xs ys : List GraphBlock) (n k m after : ℕ) (exits : Exits) (a b : Bool) → length xs ≡ k → Laws blocks start xs n mid exits a
      → (a ≡ true → Laws blocks mid ys (n + k) after exits b) → Laws blocks start (xs ++ (if a then ys else replicate m Unreached)) n after exits (a && b)
  cons-laws start mid xs ys n k m after exits true b long one two = seq-laws blocks start mid xs ys n k after exits b long one (two refl)
  cons-laws start mid xs ys n k m after exits false b long one two = last-laws blocks start mid xs n m after exits one

  behind-placed : (xs ys : List GraphBlock) (n k m : ℕ) (a : Bool) → length xs ≡ k → a ≡ true
      → Placed blocks n (xs ++ (if a then ys else replicate m Unreached)) → Placed blocks (n + k) ys
  behind-placed xs ys n k m true long e h = placed-right blocks n xs ys k (sym long) h
  behind-placed xs ys n k m false long e h = cc

  mutual
    unfolding blocks_of size may_continue

    stmt-laws : (s : TypedStmt) (n after : ℕ) (exits : Exits) → Placed blocks n (blocks_of s n after exits) → Laws blocks (target s n exits) (blocks_of s n after exits) n after exits (may_continue s)
    stmt-laws (Declare at v kind value) n after exits h = act-laws blocks (Declare at v kind value) n after exits (placed-head blocks n _ [] h) tt
    stmt-laws (Assign at v value) n after exits h = act-laws blocks (Assign at v value) n after exits (placed-head blocks n _ [] h) tt
    stmt-laws (SetField at left k field e) n after exits h = act-laws blocks (SetField at left k field e) n after exits (placed-head blocks n _ [] h) tt
    stmt-laws (Write at place e) n after exits h = act-laws blocks (Write at place e) n after exits (placed-head blocks n _ [] h) tt
    stmt-laws (Call at f args) n after exits h = act-laws blocks (Call at f args) n after exits (placed-head blocks n _ [] h) tt
    stmt-laws (If' at test _ first _ second) n after exits h =
        let m = n + 1 + row_size first in
        let parts = placed-tail blocks n _ (row_blocks first (n + 1) after exits ++ row_blocks second m after exits) h in
        let long = row-length first (n + 1) after exits in
        let one = row-laws first (n + 1) after exits (placed-left blocks (n + 1) (row_blocks first (n + 1) after exits) (row_blocks second m after exits) parts) in
        let two = row-laws second m after exits (placed-right blocks (n + 1) (row_blocks first (n + 1) after exits) (row_blocks second m after exits) (row_size first) (sym long) parts) in
        if-laws blocks test _ _ (row_blocks first (n + 1) after exits) (row_blocks second m after exits) n (row_size first) after exits (row_may_continue first) (row_may_continue second) long
        (placed-head blocks n _ _ h) one two
    stmt-laws (While' at test _ body) n after exits h =
        let inside = in_loop exits n after in
        let part = placed-tail blocks n _ (row_blocks body (n + 1) n inside) h in
        while-laws blocks test _ (row_blocks body (n + 1) n inside) n after exits (row_may_continue body) (placed-head blocks n _ _ h) (row-laws body (n + 1) n inside part)
    stmt-laws (Return at) n after exits h = jump-laws blocks n after exits exits.done (inl refl)
    stmt-laws (Break at) n after exits h = jump-laws blocks n after exits exits.behind (inr (inl refl))
    stmt-laws (Continue at) n after exits h = jump-laws blocks n after exits exits.test (inr (inr refl))

    row-laws : {m : _} (r : Row_of-TypedStmt m) (n after : ℕ) (exits : Exits) → Placed blocks n (row_blocks r n after exits)
        → Laws blocks (row_entry r n after exits) (row_blocks r n after exits) n after exits (row_may_continue r)
    row-laws end_of-TypedStmt n after exits h = nothing-laws blocks n after exits
    row-laws (more_of-TypedStmt s rest) n after exits h =
        let mid = row_entry rest (n + size s) after exits in
        let xs = blocks_of s n mid exits in
        let ys = row_blocks rest (n + size s) after exits in
        let long = blocks-length s n mid exits in
        let here = placed-left blocks n xs (if may_continue s then ys else replicate (row_size rest) Unreached) h in
        cons-laws (target s n exits) mid xs ys n (size s) (row_size rest) after exits (may_continue s) (row_may_continue rest) long (stmt-laws s n mid exits here)
        (λ e. row-laws rest (n + size s) after exits (behind-placed xs ys n (size s) (row_size rest) (may_continue s) long e h))

  all-laws : (ss : List TypedStmt) (n after : ℕ) (exits : Exits) → Placed blocks n (all_blocks ss n after exits)
      → Laws blocks (entry ss n after exits) (all_blocks ss n after exits) n after exits (all_may_continue ss)
  all-laws ss n after exits h =
      let r = hidden-the_row-TypedStmt-0 ss in
      rw (← row-entry, ← row-blocks, ← row-may_continue) (row-laws r n after exits (rw row-blocks h))

  -- a core function
  pub record Whole (body : List TypedStmt) (n : ℕ) : Type 0 where
    pub inside : (i : ℕ) → IsKept (slice_get (core_blocks body n) i) → Leads blocks (first_of body n) (n + i)
    pub entry : Kept blocks (first_of body n)
    pub closed : (i : ℕ) (block : GraphBlock) (c : ℕ) → slice_get (core_blocks body n) i ≡ Some block → Contains (jumps block) c → Kept blocks c
    pub acts : (i : ℕ) (s : TypedStmt) (next : ℕ) → slice_get (core_blocks body n) i ≡ Some (Act s next) → IsSimple s

  -- in no loop every path leads to the end
  exit-done : (done c : ℕ) → IsExit (no_loop done) c → c ≡ done
  exit-done done c (inl e) = sym e
  exit-done done c (inr (inl e)) = sym e
  exit-done done c (inr (inr e)) = sym e

  either-way : (b : Bool) (start done : ℕ) → (b ≡ true → Leads blocks start done) → (b ≡ false → LeadsOut blocks start (no_loop done)) → Leads blocks start done
  either-way true start done h k = h refl
  either-way false start done h k = let l = k refl in subst (λ x. Leads blocks start x) (exit-done done l.0 l.1) l.2

  module _ (body : List TypedStmt) (n : ℕ) (placed : Placed blocks n (core_blocks body n)) where
    there : slice_get blocks (end_of body n) ≡ Some Done
    there =
        let done = end_of body n in
        placed-head blocks done Done [] (placed-right blocks n (all_blocks body n done (no_loop done)) (Done ∷ []) (sizes body) (sym (all-length body n done (no_loop done))) placed)

    stmts : Laws blocks (first_of body n) (all_blocks body n (end_of body n) (no_loop (end_of body n))) n (end_of body n) (no_loop (end_of body n)) (all_may_continue body)
    stmts =
        let done = end_of body n in
        all-laws body n done (no_loop done) (placed-left blocks n (all_blocks body n done (no_loop done)) (Done ∷ []) placed)

    kept-end : Kept blocks (end_of body n)
    kept-end = rw there tt

    kept-ends : AllKept blocks (no_loop (end_of body n))
    kept-ends = record { done = kept-end; behind = kept-end; test = kept-end }

    at-last : (j i : ℕ) → i ≡ length (all_blocks body n (end_of body n) (no_loop (end_of body n))) + j → IsKept (slice_get (Done ∷ []) j) → Leads blocks (first_of body n) (n + i)
    at-last zero i e h =
        let done = end_of body n in
        let long = all-length body n done (no_loop done) in
        let same : done ≡ n + i = omega (arith, e, long) in
        subst (λ m. Leads blocks (first_of body n) m) same (either-way (all_may_continue body) (first_of body n) done stmts.onward stmts.out)
    at-last (suc j) i e h = absurd h

    whole-inside : (i : ℕ) → IsKept (slice_get (core_blocks body n) i) → Leads blocks (first_of body n) (n + i)
    whole-inside i h = elim (parted IsKept (all_blocks body n (end_of body n) (no_loop (end_of body n))) (Done ∷ []) i h) [
      | inl l ↦ stmts.inside i l.1
      | inr l ↦ at-last l.0 i l.1 l.2
    ]

    none-after : (j : ℕ) (block : GraphBlock) (c : ℕ) → slice_get (Done ∷ []) j ≡ Some block → Contains (jumps block) c → ⊥
    none-after zero block c e h =
        let same : Done ≡ block = cc in
        let k = subst (λ x. Contains (jumps x) c) (sym same) h in let l = k.1 in omega (arith, l)
    none-after (suc j) block c e h = cc

    whole-closed : (i : ℕ) (block : GraphBlock) (c : ℕ) → slice_get (core_blocks body n) i ≡ Some block → Contains (jumps block) c → Kept blocks c
    whole-closed i block c e h = elim (parted (λ o. o ≡ Some block) (all_blocks body n (end_of body n) (no_loop (end_of body n))) (Done ∷ []) i e) [
      | inl l ↦ stmts.closed kept-ends (λ t. kept-end) i block c l.1 h
      | inr l ↦ absurd (none-after l.0 block c l.2 h)
    ]

    no-act : (j : ℕ) (s : TypedStmt) (next : ℕ) → slice_get (Done ∷ []) j ≡ Some (Act s next) → ⊥
    no-act zero s next e = cc
    no-act (suc j) s next e = cc

    whole-acts : (i : ℕ) (s : TypedStmt) (next : ℕ) → slice_get (core_blocks body n) i ≡ Some (Act s next) → IsSimple s
    whole-acts i s next e = elim (parted (λ o. o ≡ Some (Act s next)) (all_blocks body n (end_of body n) (no_loop (end_of body n))) (Done ∷ []) i e) [
      | inl l ↦ stmts.acts i s next l.1
      | inr l ↦ absurd (no-act l.0 s next l.2)
    ]

    pub whole : Whole body n
    whole = record { inside = whole-inside; entry = stmts.entry kept-ends (λ t. kept-end); closed = whole-closed; acts = whole-acts }

-- the core function that begins at a block
record Started (blocks : List GraphBlock) (x : ℕ) : Type 0 where
  body : List TypedStmt
  start : ℕ
  is : first_of body start ≡ x
  placed : Placed blocks start (core_blocks body start)

first-cases : (i : Option ℕ) (f : TypedFunction) (n : ℕ) (fs : List GraphFunction) (x : ℕ) → Contains (firsts (function_in i f n ∷ fs)) x
    → ((i ≡ None) × (first_of f.body n ≡ x)) ⊎ Contains (firsts fs) x
first-cases None f n fs x h = elim (Contains-append_cases (first_of f.body n ∷ []) (firsts fs) x h) [
  | inl k ↦ elim (Contains-push_cases [] (first_of f.body n) x k) [ inl z ↦ absurd (let l = z.1 in omega (arith, l)) | inr e ↦ inl (refl, e) ]
  | inr k ↦ inr k
]
first-cases (Some s) f n fs x h = inr h

core-part : (before rest : List GraphBlock) (i : Option ℕ) (body : List TypedStmt) (n : ℕ) → n ≡ length before → i ≡ None
    → Placed (before ++ (blocks_in i body n ++ rest)) n (core_blocks body n)
core-part before rest None body n e z = placed-part before (core_blocks body n) rest n e
core-part before rest (Some s) body n e z = cc

started-from : (before : List GraphBlock) (n : ℕ) (fs : List TypedFunction) (x : ℕ) → n ≡ length before
    → Contains (firsts (functions_from n fs)) x → Started (before ++ blocks_from n fs) x
unfolding blocks_from functions_from
started-from before n [] x e h = let l = h.1 in absurd (omega (arith, l))
started-from before n (f ∷ fs) x e h = elim (first-cases f.initialiser f n (functions_from (n + function_size f) fs) x h) [
  | inl k ↦ record { body = f.body; start = n; is = k.1; placed = core-part before (blocks_from (n + function_size f) fs) f.initialiser f.body n e k.0 }
  | inr k ↦
      let long = blocks_in-length f.initialiser f.body n in
      let longer : n + function_size f ≡ length (before ++ blocks_at f n) = simp length-append (omega (arith, long, e)) in
      let s = started-from (before ++ blocks_at f n) (n + function_size f) fs x longer k in
      record { body = s.body; start = s.start; is = s.is; placed = rw append_assoc at s.placed }
]

record Block (o : Option GraphBlock) : Type 0 where
  block : GraphBlock
  is : o ≡ Some block

kept-block : (o : Option GraphBlock) → IsKept o → Block o
kept-block None h = absurd h
kept-block (Some b) h = record { block = b; is = refl }

module _ (p : Typed) where
  kept-along : (a b : ℕ) → Leads (graph_of p).blocks a b → Kept (graph_of p).blocks a → Kept (graph_of p).blocks b
  kept-along a b stays k = k
  kept-along a b (jumps_to {b = x} {c = y} {d = z} t j h) k =
      let found = kept-block (slice_get (graph_of p).blocks x) k in
      let o = owner-of p x found.block found.is in
      let w = whole (graph_of p).blocks o.body o.start o.placed in
      kept-along y b h (w.closed o.i found.block y o.item (rw found.is at j))

  pub reached-kept : (b : ℕ) → IsReached (graph_of p) b → Kept (graph_of p).blocks b
  reached-kept b h =
      let s = started-from [] 0 p.functions h.0 refl h.1 in
      let w = whole (graph_of p).blocks s.body s.start s.placed in
      kept-along h.0 b h.2 (subst (λ x. Kept (graph_of p).blocks x) s.is w.entry)

  pub kept-reached : (b : ℕ) → Kept (graph_of p).blocks b → IsReached (graph_of p) b
  kept-reached b h =
      let found = kept-block (slice_get (graph_of p).blocks b) h in
      let o = owner-of p b found.block found.is in
      let w = whole (graph_of p).blocks o.body o.start o.placed in
      let inside = w.inside o.i (rw o.item (rw found.is at h)) in
      (first_of o.body o.start, o.first, subst (λ x. Leads (graph_of p).blocks (first_of o.body o.start) x) (sym o.at) inside)

  pub act-simple : (b : ℕ) (s : TypedStmt) (next : ℕ) → slice_get (graph_of p).blocks b ≡ Some (Act s next) → IsSimple s
  act-simple b s next e =
      let o = owner-of p b (Act s next) e in
      let w = whole (graph_of p).blocks o.body o.start o.placed in w.acts o.i s next o.item
