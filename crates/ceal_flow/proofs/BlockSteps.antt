-- The blocks of each form of statement.
use Rattle.std.proofs.Common.{◌≡◌, ℕ, ◌+◌, Bool, true, false, ◌&&◌, ◌||◌, List, [], ◌∷◌, ◌++◌, length, replicate}
use Rattle.std.proofs.Common.{if◌then◌else◌, refl, ap, ap₂, sym, ◌∙◌, arith, length-append, ◌<◌, take, drop, get_or}
use Rattle.std.proofs.Common.{add-one, suc}
use Rattle.std.proofs.lemmas.List.{length-replicate, take_more, take-append-drop}
use Rattle.std.proofs.Math.Seq.{drop-cons}
use Rattle.ceal_base.specs.declared.fault.Span.{Span}
use Rattle.ceal_base.specs.declared.kind.Kind.{Kind}
use Rattle.ceal_base.specs.declared.typed.TypedExpr.{TypedExpr}
use Rattle.ceal_base.specs.declared.typed.TypedStmt.{TypedStmt, If', While', Row_of-TypedStmt, end_of-TypedStmt, more_of-TypedStmt}
use Rattle.ceal_base.specs.declared.typed.TypedStmt.TheBlock.{hidden-the_row-TypedStmt-0, shape-the_row-TypedStmt-0}
use Rattle.ceal_base.specs.declared.typed.TypedStmt.TheVariants.{Declare, Assign, SetField, Write, Call, Return, Break, Continue}
use Rattle.ceal_base.specs.declared.typed.TypedStmt.TheViews.{If, While}
use Rattle.ceal_base.specs.declared.typed.TypedValue.{TypedValue}
use Rattle.ceal_flow.specs.Blocks.{size, row_size, sizes, may_continue, row_may_continue, all_may_continue, in_loop, row_entry, entry, blocks_of, row_blocks, all_blocks}
use Rattle.ceal_flow.specs.declared.block.GraphBlock.{GraphBlock}
use Rattle.ceal_flow.specs.declared.exits.Exits.{Exits}
use Rattle.ceal_flow.specs.declared.block.GraphBlock.TheVariants.{Test, Act, Unreached}

-- what holds of a row of statements as of their list
pub row-sizes : (xs : List TypedStmt) → row_size (hidden-the_row-TypedStmt-0 xs) ≡ sizes xs
unfolding size sizes hidden-the_row-TypedStmt-0 shape-the_row-TypedStmt-0 denote.Hole.Carrier.hidden
row-sizes [] = refl
row-sizes (s ∷ xs) = ap (λ n. size s + n) (row-sizes xs)

pub row-may_continue : (xs : List TypedStmt) → row_may_continue (hidden-the_row-TypedStmt-0 xs) ≡ all_may_continue xs
unfolding may_continue all_may_continue hidden-the_row-TypedStmt-0 shape-the_row-TypedStmt-0 denote.Hole.Carrier.hidden
row-may_continue [] = refl
row-may_continue (s ∷ xs) = ap (λ b. may_continue s && b) (row-may_continue xs)

pub row-entry : (xs : List TypedStmt) (n after : ℕ) (exits : Exits) → row_entry (hidden-the_row-TypedStmt-0 xs) n after exits ≡ entry xs n after exits
unfolding hidden-the_row-TypedStmt-0 shape-the_row-TypedStmt-0 denote.Hole.Carrier.hidden
row-entry [] n after exits = refl
row-entry (s ∷ xs) n after exits = refl

pub row-blocks : (xs : List TypedStmt) (n after : ℕ) (exits : Exits) → row_blocks (hidden-the_row-TypedStmt-0 xs) n after exits ≡ all_blocks xs n after exits
unfolding blocks_of all_blocks hidden-the_row-TypedStmt-0 shape-the_row-TypedStmt-0 denote.Hole.Carrier.hidden
row-blocks [] n after exits = refl
row-blocks (s ∷ xs) n after exits =
    ap (λ m. blocks_of s n m exits ++ (if may_continue s then row_blocks (hidden-the_row-TypedStmt-0 xs) (n + size s) after exits else replicate (row_size (hidden-the_row-TypedStmt-0 xs)) Unreached))
    (row-entry xs (n + size s) after exits)
    ∙ ap₂ (λ bs k. blocks_of s n (entry xs (n + size s) after exits) exits ++ (if may_continue s then bs else replicate k Unreached)) (row-blocks xs (n + size s) after exits) (row-sizes xs)

-- sizes
pub size-declare : (at : Span) (n : ℕ) (kind : Kind) (v : TypedValue) → size (Declare at n kind v) ≡ 1
unfolding size
size-declare at n kind v = refl

pub size-assign : (at : Span) (n : ℕ) (v : TypedValue) → size (Assign at n v) ≡ 1
unfolding size
size-assign at n v = refl

pub size-set : (at : Span) (left : TypedExpr) (s field : ℕ) (e : TypedExpr) → size (SetField at left s field e) ≡ 1
unfolding size
size-set at left s field e = refl

pub size-write : (at : Span) (p e : TypedExpr) → size (Write at p e) ≡ 1
unfolding size
size-write at p e = refl

pub size-call : (at : Span) (f : ℕ) (args : List TypedExpr) → size (Call at f args) ≡ 1
unfolding size
size-call at f args = refl

pub size-return : (at : Span) → size (Return at) ≡ 0
unfolding size
size-return at = refl

pub size-break : (at : Span) → size (Break at) ≡ 0
unfolding size
size-break at = refl

pub size-continue : (at : Span) → size (Continue at) ≡ 0
unfolding size
size-continue at = refl

pub size-if : (at : Span) (test : TypedExpr) (first second : List TypedStmt) → size (If at test first second) ≡ 1 + sizes first + sizes second
unfolding size
size-if at test first second = ap₂ (λ a b. 1 + a + b) (row-sizes first) (row-sizes second)

pub size-while : (at : Span) (test : TypedExpr) (body : List TypedStmt) → size (While at test body) ≡ 1 + sizes body
unfolding size
size-while at test body = ap (λ a. 1 + a) (row-sizes body)

pub sizes-nil : sizes [] ≡ 0
unfolding sizes
sizes-nil = refl

pub sizes-cons : (s : TypedStmt) (rest : List TypedStmt) → sizes (s ∷ rest) ≡ size s + sizes rest
unfolding sizes
sizes-cons s rest = refl

pub sizes-append : (xs ys : List TypedStmt) → sizes (xs ++ ys) ≡ sizes xs + sizes ys
unfolding sizes
sizes-append [] ys = omega arith
sizes-append (s ∷ xs) ys = let h = sizes-append xs ys in omega (arith, h)

-- of those from the statement at `i` on
pub sizes-drop : (xs : List TypedStmt) (i : ℕ) (s : TypedStmt) → s ≡ get_or xs i s → i < length xs → sizes (drop i xs) ≡ size s + sizes (drop (i + 1) xs)
sizes-drop xs i s is h = rw (drop-cons xs i s h, ← is, add-one) (sizes-cons s (drop (suc i) xs))

pub sizes-take : (xs : List TypedStmt) (i : ℕ) (s : TypedStmt) → s ≡ get_or xs i s → i < length xs → sizes (take (i + 1) xs) ≡ sizes (take i xs) + size s
sizes-take xs i s is h =
    let one : sizes (s ∷ []) ≡ size s = sizes-cons s [] ∙ rw sizes-nil (omega arith) in
    rw (take_more xs i s h, ← is, sizes-append) (ap (λ n. sizes (take i xs) + n) one)

pub sizes-parts : (xs : List TypedStmt) (i : ℕ) → sizes (take i xs) + sizes (drop i xs) ≡ sizes xs
sizes-parts xs i = sym (sizes-append (take i xs) (drop i xs)) ∙ ap sizes (take-append-drop i xs)

-- whether a path continues
pub on-declare : (at : Span) (n : ℕ) (kind : Kind) (v : TypedValue) → may_continue (Declare at n kind v) ≡ true
unfolding may_continue
on-declare at n kind v = refl

pub on-assign : (at : Span) (n : ℕ) (v : TypedValue) → may_continue (Assign at n v) ≡ true
unfolding may_continue
on-assign at n v = refl

pub on-set : (at : Span) (left : TypedExpr) (s field : ℕ) (e : TypedExpr) → may_continue (SetField at left s field e) ≡ true
unfolding may_continue
on-set at left s field e = refl

pub on-write : (at : Span) (p e : TypedExpr) → may_continue (Write at p e) ≡ true
unfolding may_continue
on-write at p e = refl

pub on-call : (at : Span) (f : ℕ) (args : List TypedExpr) → may_continue (Call at f args) ≡ true
unfolding may_continue
on-call at f args = refl

pub on-return : (at : Span) → may_continue (Return at) ≡ false
unfolding may_continue
on-return at = refl

pub on-break : (at : Span) → may_continue (Break at) ≡ false
unfolding may_continue
on-break at = refl

pub on-continue : (at : Span) → may_continue (Continue at) ≡ false
unfolding may_continue
on-continue at = refl

pub on-if : (at : Span) (test : TypedExpr) (first second : List TypedStmt) → may_continue (If at test first second) ≡ (all_may_continue first || all_may_continue second)
unfolding may_continue
on-if at test first second = ap₂ (λ a b. a || b) (row-may_continue first) (row-may_continue second)

pub on-while : (at : Span) (test : TypedExpr) (body : List TypedStmt) → may_continue (While at test body) ≡ true
unfolding may_continue
on-while at test body = refl

pub on-nil : all_may_continue [] ≡ true
unfolding all_may_continue
on-nil = refl

pub on-cons : (s : TypedStmt) (rest : List TypedStmt) → all_may_continue (s ∷ rest) ≡ (may_continue s && all_may_continue rest)
unfolding all_may_continue
on-cons s rest = refl

-- blocks
module _ (n after : ℕ) (exits : Exits) where
  pub blocks-declare : (at : Span) (v : ℕ) (kind : Kind) (value : TypedValue) → blocks_of (Declare at v kind value) n after exits ≡ Act (Declare at v kind value) after ∷ []
  unfolding blocks_of
  blocks-declare at v kind value = refl

  pub blocks-assign : (at : Span) (v : ℕ) (value : TypedValue) → blocks_of (Assign at v value) n after exits ≡ Act (Assign at v value) after ∷ []
  unfolding blocks_of
  blocks-assign at v value = refl

  pub blocks-set : (at : Span) (left : TypedExpr) (s field : ℕ) (e : TypedExpr)
      → blocks_of (SetField at left s field e) n after exits ≡ Act (SetField at left s field e) after ∷ []
  unfolding blocks_of
  blocks-set at left s field e = refl

  pub blocks-write : (at : Span) (p e : TypedExpr) → blocks_of (Write at p e) n after exits ≡ Act (Write at p e) after ∷ []
  unfolding blocks_of
  blocks-write at p e = refl

  pub blocks-call : (at : Span) (f : ℕ) (args : List TypedExpr) → blocks_of (Call at f args) n after exits ≡ Act (Call at f args) after ∷ []
  unfolding blocks_of
  blocks-call at f args = refl

  pub blocks-return : (at : Span) → blocks_of (Return at) n after exits ≡ []
  unfolding blocks_of
  blocks-return at = refl

  pub blocks-break : (at : Span) → blocks_of (Break at) n after exits ≡ []
  unfolding blocks_of
  blocks-break at = refl

  pub blocks-continue : (at : Span) → blocks_of (Continue at) n after exits ≡ []
  unfolding blocks_of
  blocks-continue at = refl

  pub blocks-if : (at : Span) (test : TypedExpr) (first second : List TypedStmt) → blocks_of (If at test first second) n after exits
      ≡ Test test (entry first (n + 1) after exits) (entry second (n + 1 + sizes first) after exits)
      ∷ (all_blocks first (n + 1) after exits ++ all_blocks second (n + 1 + sizes first) after exits)
  unfolding blocks_of
  blocks-if at test first second = simp (row-entry, row-blocks, row-sizes)

  pub blocks-while : (at : Span) (test : TypedExpr) (body : List TypedStmt)
      → blocks_of (While at test body) n after exits ≡ Test test (entry body (n + 1) n (in_loop exits n after)) after ∷ all_blocks body (n + 1) n (in_loop exits n after)
  unfolding blocks_of
  blocks-while at test body = simp (row-entry, row-blocks)

  pub all-nil : all_blocks [] n after exits ≡ []
  unfolding all_blocks
  all-nil = refl

  pub all-cons : (s : TypedStmt) (rest : List TypedStmt) → all_blocks (s ∷ rest) n after exits
      ≡ blocks_of s n (entry rest (n + size s) after exits) exits ++ (if may_continue s then all_blocks rest (n + size s) after exits else replicate (sizes rest) Unreached)
  unfolding all_blocks
  all-cons s rest = refl

-- as many as the size says
behind-length : (b : Bool) (xs : List GraphBlock) (k : ℕ) → length xs ≡ k → length (if b then xs else replicate k Unreached) ≡ k
behind-length true xs k h = h
behind-length false xs k h = length-replicate k Unreached

mutual
  unfolding blocks_of size

  pub blocks-length : (s : TypedStmt) (n after : ℕ) (exits : Exits) → length (blocks_of s n after exits) ≡ size s
  blocks-length (Declare at v kind value) n after exits = refl
  blocks-length (Assign at v value) n after exits = refl
  blocks-length (SetField at left s field e) n after exits = refl
  blocks-length (Write at p e) n after exits = refl
  blocks-length (Call at f args) n after exits = refl
  blocks-length (Return at) n after exits = refl
  blocks-length (Break at) n after exits = refl
  blocks-length (Continue at) n after exits = refl
  blocks-length (If' at test _ first _ second) n after exits =
      let a = row-length first (n + 1) after exits in
      let b = row-length second (n + 1 + row_size first) after exits in
      simp length-append (omega (arith, a, b))
  blocks-length (While' at test _ body) n after exits = let a = row-length body (n + 1) n (in_loop exits n after) in omega (arith, a)

  pub row-length : {m : _} (r : Row_of-TypedStmt m) (n after : ℕ) (exits : Exits) → length (row_blocks r n after exits) ≡ row_size r
  row-length end_of-TypedStmt n after exits = refl
  row-length (more_of-TypedStmt s rest) n after exits =
      let a = blocks-length s n (row_entry rest (n + size s) after exits) exits in
      let b = behind-length (may_continue s) (row_blocks rest (n + size s) after exits) (row_size rest) (row-length rest (n + size s) after exits) in
      simp length-append (omega (arith, a, b))

pub all-length : (xs : List TypedStmt) (n after : ℕ) (exits : Exits) → length (all_blocks xs n after exits) ≡ sizes xs
all-length xs n after exits = sym (ap length (row-blocks xs n after exits)) ∙ row-length (hidden-the_row-TypedStmt-0 xs) n after exits ∙ row-sizes xs

pub ruleset size_steps = (size-declare, size-assign, size-set, size-write, size-call, size-return, size-break, size-continue, size-if, size-while, sizes-nil, sizes-cons)

pub ruleset put_steps = (
  size_steps,
  on-declare,
  on-assign,
  on-set,
  on-write,
  on-call,
  on-return,
  on-break,
  on-continue,
  on-if,
  on-while,
  blocks-declare,
  blocks-assign,
  blocks-set,
  blocks-write,
  blocks-call,
  blocks-return,
  blocks-break,
  blocks-continue,
)
