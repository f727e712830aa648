-- Which function a block is of.
use Rattle.std.proofs.Common.{◌≡◌, inl, inr, ℕ, zero, suc, ◌+◌, ◌-◌, ◌<◌, ◌≤◌, Option, Some, None, if◌then◌else◌, true}
use Rattle.std.proofs.Common.{false, Bool, List, [], ◌∷◌, ◌++◌, length, slice_get, slice_index_or, replicate, Contains}
use Rattle.std.proofs.Common.{refl, ap, ◌∙◌, subst, arith, append_assoc}
use Rattle.ceal_base.specs.declared.kind.Kind.{Kind}
use Rattle.ceal_base.specs.declared.typed.TypedFunction.{TypedFunction}
use Rattle.ceal_base.specs.declared.typed.TypedStmt.{TypedStmt, Declare, Assign, SetField, Write, Call, If', While', Return, Break, Continue, Row_of-TypedStmt, end_of-TypedStmt, more_of-TypedStmt}
use Rattle.ceal_base.specs.declared.typed.TypedStmt.TheBlock.{hidden-the_row-TypedStmt-0}
use Rattle.ceal_flow.specs.Blocks.{size, row_size, sizes, may_continue, no_loop, in_loop, row_entry, blocks_of, row_blocks, all_blocks}
use Rattle.ceal_flow.specs.Laws.{firsts}
use Rattle.ceal_flow.specs.Lowering.{function_size, end_of, core_at, core_blocks, function_in, blocks_in, blocks_at, functions_from, blocks_from}
use Rattle.ceal_flow.specs.declared.block.GraphBlock.{GraphBlock}
use Rattle.ceal_flow.specs.declared.exits.Exits.{Exits}
use Rattle.ceal_flow.specs.declared.block.GraphBlock.TheVariants.{Done, Test, Act, Unreached}
use Rattle.ceal_flow.specs.declared.function.GraphFunction.{GraphFunction}
use Rattle.ceal_flow.specs.declared.function.GraphFunction.TheVariants.{Core, Init}
use Rattle.ceal_flow.proofs.BlockSteps.{row-blocks, all-length}
use Rattle.ceal_flow.proofs.FunctionSteps.{blocks_in-length}
use Rattle.ceal_flow.proofs.ListFacts.{get-append_left, get-append_right}
use Rattle.ceal_flow.proofs.Placing.{Placed}
use Rattle.ceal_norm.specs.Units.{ends_before, core_numbers}
use Rattle.ceal_norm.proofs.Jumps.JumpCounts.{contains-none, contains-cases}

-- none of the blocks is a function's end
abbrev pub NoEnd : List GraphBlock → Type 0
NoEnd [] = Unit {0}
NoEnd (Done ∷ blocks) = ⊥
NoEnd (Test test a b ∷ blocks) = NoEnd blocks
NoEnd (Act s next ∷ blocks) = NoEnd blocks
NoEnd (Unreached ∷ blocks) = NoEnd blocks

no-end-append : (xs ys : List GraphBlock) → NoEnd xs → NoEnd ys → NoEnd (xs ++ ys)
no-end-append [] ys h k = k
no-end-append (Done ∷ xs) ys h k = absurd h
no-end-append (Test test a b ∷ xs) ys h k = no-end-append xs ys h k
no-end-append (Act s next ∷ xs) ys h k = no-end-append xs ys h k
no-end-append (Unreached ∷ xs) ys h k = no-end-append xs ys h k

no-end-left_out : (k : ℕ) → NoEnd (replicate k Unreached)
no-end-left_out zero = tt
no-end-left_out (suc k) = no-end-left_out k

no-end-behind : (b : Bool) (xs : List GraphBlock) (k : ℕ) → NoEnd xs → NoEnd (if b then xs else replicate k Unreached)
no-end-behind true xs k h = h
no-end-behind false xs k h = no-end-left_out k

mutual
  unfolding blocks_of

  no-end-stmt : (s : TypedStmt) (n after : ℕ) (exits : Exits) → NoEnd (blocks_of s n after exits)
  no-end-stmt (Declare at v kind value) n after exits = tt
  no-end-stmt (Assign at v value) n after exits = tt
  no-end-stmt (SetField at left k field e) n after exits = tt
  no-end-stmt (Write at place e) n after exits = tt
  no-end-stmt (Call at f args) n after exits = tt
  no-end-stmt (If' at test _ first _ second) n after exits =
      no-end-append (row_blocks first (n + 1) after exits) (row_blocks second (n + 1 + row_size first) after exits) (no-end-row first (n + 1) after exits)
      (no-end-row second (n + 1 + row_size first) after exits)
  no-end-stmt (While' at test _ body) n after exits = no-end-row body (n + 1) n (in_loop exits n after)
  no-end-stmt (Return at) n after exits = tt
  no-end-stmt (Break at) n after exits = tt
  no-end-stmt (Continue at) n after exits = tt

  no-end-row : {m : _} (r : Row_of-TypedStmt m) (n after : ℕ) (exits : Exits) → NoEnd (row_blocks r n after exits)
  no-end-row end_of-TypedStmt n after exits = tt
  no-end-row (more_of-TypedStmt s rest) n after exits =
      no-end-append (blocks_of s n (row_entry rest (n + size s) after exits) exits) _ (no-end-stmt s n (row_entry rest (n + size s) after exits) exits)
      (no-end-behind (may_continue s) (row_blocks rest (n + size s) after exits) (row_size rest) (no-end-row rest (n + size s) after exits))

no-end-all : (ss : List TypedStmt) (n after : ℕ) (exits : Exits) → NoEnd (all_blocks ss n after exits)
no-end-all ss n after exits = subst NoEnd (row-blocks ss n after exits) (no-end-row (hidden-the_row-TypedStmt-0 ss) n after exits)

-- no function ends before them
ends-none : (xs ys : List GraphBlock) (i : ℕ) → NoEnd xs → i ≤ length xs → ends_before (xs ++ ys) i ≡ 0
unfolding ends_before
ends-none [] ys zero h l = refl
ends-none [] ys (suc i) h l = absurd (omega (arith, l))
ends-none (x ∷ xs) ys zero h l = refl
ends-none (Done ∷ xs) ys (suc i) h l = absurd h
ends-none (Test test a b ∷ xs) ys (suc i) h l = ends-none xs ys i h (omega (arith, l))
ends-none (Act s next ∷ xs) ys (suc i) h l = ends-none xs ys i h (omega (arith, l))
ends-none (Unreached ∷ xs) ys (suc i) h l = ends-none xs ys i h (omega (arith, l))

-- one ends with them, and the others follow
ends-one : (xs ys : List GraphBlock) (i j : ℕ) → NoEnd xs → i ≡ length xs + 1 + j → ends_before (xs ++ Done ∷ ys) i ≡ ends_before ys j + 1
unfolding ends_before
ends-one [] ys zero j h e = absurd (omega (arith, e))
ends-one [] ys (suc i) j h e = let same : i ≡ j = omega (arith, e) in ap (λ k. ends_before ys k + 1) same
ends-one (x ∷ xs) ys zero j h e = absurd (omega (arith, e))
ends-one (Done ∷ xs) ys (suc i) j h e = absurd h
ends-one (Test test a b ∷ xs) ys (suc i) j h e = ends-one xs ys i j h (omega (arith, e))
ends-one (Act s next ∷ xs) ys (suc i) j h e = ends-one xs ys i j h (omega (arith, e))
ends-one (Unreached ∷ xs) ys (suc i) j h e = ends-one xs ys i j h (omega (arith, e))

core-none : (body : List TypedStmt) (n : ℕ) (rest : List GraphBlock) (i : ℕ) → i ≤ sizes body → ends_before (core_blocks body n ++ rest) i ≡ 0
core-none body n rest i l =
    let done = end_of body n in
    let long = all-length body n done (no_loop done) in
    ap (λ bs. ends_before bs i) (append_assoc (all_blocks body n done (no_loop done)) (Done ∷ []) rest)
    ∙ ends-none (all_blocks body n done (no_loop done)) (Done ∷ rest) i (no-end-all body n done (no_loop done)) (omega (arith, long, l))

core-one : (body : List TypedStmt) (n : ℕ) (rest : List GraphBlock) (i j : ℕ) → i ≡ sizes body + 1 + j → ends_before (core_blocks body n ++ rest) i ≡ ends_before rest j + 1
core-one body n rest i j e =
    let done = end_of body n in
    let long = all-length body n done (no_loop done) in
    ap (λ bs. ends_before bs i) (append_assoc (all_blocks body n done (no_loop done)) (Done ∷ []) rest)
    ∙ ends-one (all_blocks body n done (no_loop done)) rest i j (no-end-all body n done (no_loop done)) (omega (arith, long, e))

-- a core function among others, of which the first begins at block `n`: where it begins, and that its blocks are its
-- own
record Among (n : ℕ) (fs : List TypedFunction) (k : ℕ) (f : TypedFunction) : Type 0 where
  start : ℕ
  skip : ℕ
  begins : start ≡ n + skip
  function : slice_get (functions_from n fs) k ≡ Some (core_at f start)
  placed : (i : ℕ) → i < length (core_blocks f.body start) → slice_get (blocks_from n fs) (skip + i) ≡ slice_get (core_blocks f.body start) i
  owned : (m i : ℕ) → i ≤ sizes f.body → slice_index_or (core_numbers m (functions_from n fs)) (ends_before (blocks_from n fs) (skip + i)) 0 ≡ m + k

index-first : (m : ℕ) (ms : List ℕ) (e : ℕ) → e ≡ 0 → slice_index_or (m ∷ ms) e 0 ≡ m
index-first m ms e h = rw h refl

index-more : (m : ℕ) (ms : List ℕ) (e d : ℕ) → e ≡ d + 1 → slice_index_or (m ∷ ms) e 0 ≡ slice_index_or ms d 0
index-more m ms zero d h = absurd (omega (arith, h))
index-more m ms (suc e) d h = let same : e ≡ d = omega (arith, h) in ap (λ x. slice_index_or ms x 0) same

-- the function is the first
among-first : (i : Option ℕ) (f : TypedFunction) (n : ℕ) (gs : List GraphFunction) (rest : List GraphBlock) → i ≡ None → (m j : ℕ) → j ≤ sizes f.body
    → slice_index_or (core_numbers m (function_in i f n ∷ gs)) (ends_before (blocks_in i f.body n ++ rest) (0 + j)) 0 ≡ m + 0
unfolding core_numbers
among-first None f n gs rest e m j l =
    let same : 0 + j ≡ j = omega arith in
    let z : m ≡ m + 0 = omega arith in
    index-first m (core_numbers (m + 1) gs) _ (ap (ends_before (core_blocks f.body n ++ rest)) same ∙ core-none f.body n rest j l) ∙ z
among-first (Some s) f n gs rest e m j l = cc

first-placed : (i : Option ℕ) (body : List TypedStmt) (n : ℕ) (rest : List GraphBlock) → i ≡ None → (j : ℕ) → j < length (core_blocks body n)
    → slice_get (blocks_in i body n ++ rest) (0 + j) ≡ slice_get (core_blocks body n) j
first-placed None body n rest e j l = let same : 0 + j ≡ j = omega arith in ap (slice_get (core_blocks body n ++ rest)) same ∙ get-append_left (core_blocks body n) rest j l
first-placed (Some s) body n rest e j l = cc

-- the function is not the first
among-later : (i : Option ℕ) (g : TypedFunction) (n k : ℕ) (gs : List GraphFunction) (rest : List GraphBlock) (skip size_skip j : ℕ) → size_skip ≡ length (blocks_in i g.body n) + skip
    → ((m : ℕ) → slice_index_or (core_numbers m gs) (ends_before rest (skip + j)) 0 ≡ m + k)
    → (m : ℕ) → slice_index_or (core_numbers m (function_in i g n ∷ gs)) (ends_before (blocks_in i g.body n ++ rest) (size_skip + j)) 0 ≡ m + suc k
unfolding core_numbers
among-later None g n k gs rest skip size_skip j e h m =
    let long = blocks_in-length None g.body n in
    let at : size_skip + j ≡ sizes g.body + 1 + (skip + j) = omega (arith, e, long) in
    let z : (m + 1) + k ≡ m + suc k = omega arith in
    index-more m (core_numbers (m + 1) gs) _ (ends_before rest (skip + j)) (core-one g.body n rest (size_skip + j) (skip + j) at) ∙ h (m + 1) ∙ z
among-later (Some s) g n k gs rest skip size_skip j e h m =
    let at : size_skip + j ≡ skip + j = omega (arith, e) in
    let z : (m + 1) + k ≡ m + suc k = omega arith in
    ap (λ x. slice_index_or (core_numbers (m + 1) gs) (ends_before rest x) 0) at ∙ h (m + 1) ∙ z

among : (n : ℕ) (fs : List TypedFunction) (k : ℕ) (f : TypedFunction) → slice_get fs k ≡ Some f → f.initialiser ≡ None → Among n fs k f
unfolding functions_from blocks_from
among n [] k f e none = cc
among n (g ∷ fs) zero f e none =
    let same : g ≡ f = cc in
    let none' : g.initialiser ≡ None = rw (← same) at none in
    subst (λ x. Among n (g ∷ fs) zero x) same (record {
      start = n;
      skip = 0;
      begins = omega arith;
      function = rw none' refl;
      placed = first-placed g.initialiser g.body n (blocks_from (n + function_size g) fs) none';
      owned = among-first g.initialiser g n (functions_from (n + function_size g) fs) (blocks_from (n + function_size g) fs) none';
    })
among n (g ∷ fs) (suc k) f e none =
    let a = among (n + function_size g) fs k f e none in
    let long = blocks_in-length g.initialiser g.body n in
    let begins = a.begins in
    let skip = length (blocks_in g.initialiser g.body n) + a.skip in
    record {
      start = a.start;
      skip = skip;
      begins = omega (arith, begins, long);
      function = a.function;
      placed = λ i l. get-append_right (blocks_at g n) (blocks_from (n + function_size g) fs) (skip + i) (a.skip + i) (omega arith) ∙ a.placed i l;
      owned = λ m i l. among-later g.initialiser g n k (functions_from (n + function_size g) fs) (blocks_from (n + function_size g) fs) a.skip skip i refl (λ o. a.owned o i l) m;
    }

-- a core function of a program: where it begins in the graph, and that its blocks are its own
pub record Home (fs : List TypedFunction) (k : ℕ) (f : TypedFunction) : Type 0 where
  pub start : ℕ
  pub function : slice_get (functions_from 0 fs) k ≡ Some (core_at f start)
  pub placed : Placed (blocks_from 0 fs) start (core_blocks f.body start)
  pub owned : (b : ℕ) → start ≤ b → b ≤ end_of f.body start → slice_index_or (core_numbers 0 (functions_from 0 fs)) (ends_before (blocks_from 0 fs) b) 0 ≡ k

pub home : (fs : List TypedFunction) (k : ℕ) (f : TypedFunction) → slice_get fs k ≡ Some f → f.initialiser ≡ None → Home fs k f
home fs k f e none =
    let a = among 0 fs k f e none in
    let begins = a.begins in
    record {
      start = a.start;
      function = a.function;
      placed = λ i l. let same : a.start + i ≡ a.skip + i = omega (arith, begins) in ap (slice_get (blocks_from 0 fs)) same ∙ a.placed i l;
      owned = λ b low high.
          let i = b - a.start in
          let same : b ≡ a.skip + i = omega (arith, begins, low) in
          let z : 0 + k ≡ k = omega arith in
          ap (λ x. slice_index_or (core_numbers 0 (functions_from 0 fs)) (ends_before (blocks_from 0 fs) x) 0) same ∙ a.owned 0 i (omega (arith, low, high)) ∙ z;
    }

-- each function of a graph is that of a function of the program
pub functions-there : (fs : List TypedFunction) (n k : ℕ) (g : GraphFunction) → slice_get (functions_from n fs) k ≡ Some g → (f : TypedFunction) × (slice_get fs k ≡ Some f)
unfolding functions_from
functions-there [] n k g e = cc
functions-there (f ∷ fs) n zero g e = (f, refl)
functions-there (f ∷ fs) n (suc k) g e = functions-there fs (n + function_size f) k g e

-- the core function that begins at a block
pub record Begins (gs : List GraphFunction) (x : ℕ) : Type 0 where
  pub k : ℕ
  pub name : List ℕ
  pub params : ℕ
  pub kinds : List Kind
  pub is : slice_get gs k ≡ Some (Core name x params kinds)

pub begins : (gs : List GraphFunction) (x : ℕ) → Contains (firsts gs) x → Begins gs x
begins [] x h = absurd (contains-none x h)
begins (Init f ∷ gs) x h =
    let b = begins gs x h in record { k = suc b.k; name = b.name; params = b.params; kinds = b.kinds; is = b.is }
begins (Core name first params kinds ∷ gs) x h = elim (contains-cases first (firsts gs) x h) [
  | inl e ↦ record { k = zero; name = name; params = params; kinds = kinds; is = ap (λ y. Some (Core name y params kinds)) e }
  | inr k ↦ let b = begins gs x k in record { k = suc b.k; name = b.name; params = b.params; kinds = b.kinds; is = b.is }
]
