-- The blocks that are put after others.
use Rattle.std.proofs.Common.{◌≡◌, ℕ, suc, ◌+◌, ◌<◌, true, false, ◌&&◌, List, [], ◌∷◌, ◌++◌, length, drop, get_or}
use Rattle.std.proofs.Common.{replicate, if◌then◌else◌, refl, sym, ◌∙◌, arith, append_assoc, length-append, add-one}
use Rattle.std.proofs.Math.Seq.{drop-cons}
use Rattle.ceal_base.specs.declared.fault.Span.{Span}
use Rattle.ceal_base.specs.declared.typed.TypedExpr.{TypedExpr}
use Rattle.ceal_base.specs.declared.typed.TypedStmt.{TypedStmt}
use Rattle.ceal_base.specs.declared.typed.TypedStmt.TheViews.{If, While}
use Rattle.ceal_base.specs.declared.typed.TypedFunction.{TypedFunction}
use Rattle.ceal_flow.specs.Lowering.{function_size, function_at, blocks_at, functions_from, blocks_from}
use Rattle.ceal_flow.specs.declared.function.GraphFunction.{GraphFunction}
use Rattle.ceal_flow.proofs.FunctionSteps.{blocks_in-length, functions_from-drop, blocks_from-drop}
use Rattle.ceal_flow.specs.Blocks.{size, sizes, may_continue, all_may_continue, in_loop, entry, blocks_of, all_blocks}
use Rattle.ceal_flow.specs.declared.block.GraphBlock.{GraphBlock}
use Rattle.ceal_flow.specs.declared.exits.Exits.{Exits}
use Rattle.ceal_flow.specs.declared.block.GraphBlock.TheVariants.{Test, Unreached}
use Rattle.ceal_flow.proofs.BlockSteps.{blocks-if, blocks-while, blocks-length, all-length, all-cons, on-cons}

-- a test, and then the blocks of both parts
pub put-if : (old a b c : List GraphBlock) (at : Span) (test : TypedExpr) (first second : List TypedStmt) (n m a_at b_at after : ℕ) (exits : Exits)
    → n ≡ length old → m ≡ n + 1 + sizes first → a_at ≡ entry first (n + 1) after exits → b_at ≡ entry second m after exits
    → a ≡ old ++ Test test a_at b_at ∷ [] → b ≡ a ++ all_blocks first (length a) after exits → c ≡ b ++ all_blocks second (length b) after exits
    → c ≡ old ++ blocks_of (If at test first second) (length old) after exits
put-if old a b c at test first second n m a_at b_at after exits n_is m_is a_at_is b_at_is a_is b_is c_is =
    let la : length a ≡ n + 1 = rw a_is (simp length-append (omega (arith, n_is))) in
    let lf = all-length first (length a) after exits in
    let lb : length b ≡ m = rw b_is (simp length-append (omega (arith, la, lf, m_is))) in
    rw (c_is, lb, b_is, la, a_is, a_at_is, b_at_is, m_is, n_is, blocks-if) (rw (append_assoc, append_assoc) refl)

pub put-while : (old a b : List GraphBlock) (at : Span) (test : TypedExpr) (body : List TypedStmt) (n body_at after : ℕ) (exits : Exits)
    → n ≡ length old → body_at ≡ entry body (n + 1) n (in_loop exits n after) → a ≡ old ++ Test test body_at after ∷ [] → b ≡ a ++ all_blocks body (length a) n (in_loop exits n after)
    → b ≡ old ++ blocks_of (While at test body) (length old) after exits
put-while old a b at test body n body_at after exits n_is body_at_is a_is b_is =
    let la : length a ≡ n + 1 = rw a_is (simp length-append (omega (arith, n_is))) in
    rw (b_is, la, a_is, body_at_is, n_is, blocks-while, append_assoc) refl

-- the statements from the one at `i` on
pub all_blocks-drop : (xs : List TypedStmt) (i : ℕ) (s : TypedStmt) (n after : ℕ) (exits : Exits) → s ≡ get_or xs i s → i < length xs
    → all_blocks (drop i xs) n after exits ≡ blocks_of s n (entry (drop (i + 1) xs) (n + size s) after exits) exits
    ++ (if may_continue s then all_blocks (drop (i + 1) xs) (n + size s) after exits else replicate (sizes (drop (i + 1) xs)) Unreached)
all_blocks-drop xs i s n after exits is h = rw (drop-cons xs i s h, ← is, add-one) (all-cons n after exits s (drop (suc i) xs))

pub all_may_continue-drop : (xs : List TypedStmt) (i : ℕ) (s : TypedStmt) → s ≡ get_or xs i s → i < length xs → all_may_continue (drop i xs) ≡ (may_continue s && all_may_continue (drop (i + 1) xs))
all_may_continue-drop xs i s is h = rw (drop-cons xs i s h, ← is, add-one) (on-cons s (drop (suc i) xs))

-- a statement after which some path continues leaves the rest
pub put-next : (xs : List TypedStmt) (i : ℕ) (s : TypedStmt) (old new all : List GraphBlock) (next after : ℕ) (exits : Exits) → s ≡ get_or xs i s → i < length xs
    → next ≡ entry (drop (i + 1) xs) (length old + size s) after exits → new ≡ old ++ blocks_of s (length old) next exits → may_continue s ≡ true
    → old ++ all_blocks (drop i xs) (length old) after exits ≡ all
    → new ++ all_blocks (drop (i + 1) xs) (length new) after exits ≡ all
put-next xs i s old new all next after exits is h next_is new_is on all_is =
    let l = blocks-length s (length old) next exits in
    let ln : length new ≡ length old + size s = rw new_is (simp length-append (omega (arith, l))) in
    rw ln
    (rw (new_is, next_is, append_assoc) (sym (rw (all_blocks-drop xs i s (length old) after exits is h, on) refl)) ∙ all_is)

-- after any other the rest is left out
pub put-last : (xs : List TypedStmt) (i : ℕ) (s : TypedStmt) (old new : List GraphBlock) (all : List GraphBlock) (next after : ℕ) (exits : Exits) → s ≡ get_or xs i s → i < length xs
    → next ≡ entry (drop (i + 1) xs) (length old + size s) after exits → new ≡ old ++ blocks_of s (length old) next exits → may_continue s ≡ false
    → old ++ all_blocks (drop i xs) (length old) after exits ≡ all
    → new ++ replicate (sizes (drop (i + 1) xs)) Unreached ≡ all
put-last xs i s old new all next after exits is h next_is new_is on all_is =
    rw (new_is, next_is, append_assoc) (sym (rw (all_blocks-drop xs i s (length old) after exits is h, on) refl)) ∙ all_is

pub length-push : (old new : List GraphBlock) (b : GraphBlock) → new ≡ old ++ b ∷ [] → length new ≡ length old + 1
length-push old new b h = rw h (simp length-append refl)

pub length-more : (old new : List GraphBlock) (xs : List TypedStmt) (n after : ℕ) (exits : Exits) → new ≡ old ++ all_blocks xs n after exits → length new ≡ length old + sizes xs
length-more old new xs n after exits h = let l = all-length xs n after exits in rw h (simp length-append (omega (arith, l)))

pub length-one : (old new : List GraphBlock) (s : TypedStmt) (n after : ℕ) (exits : Exits) → new ≡ old ++ blocks_of s n after exits → length new ≡ length old + size s
length-one old new s n after exits h = let l = blocks-length s n after exits in rw h (simp length-append (omega (arith, l)))

-- functions one after another
pub length-function : (old new : List GraphBlock) (f : TypedFunction) → new ≡ old ++ blocks_at f (length old) → length new ≡ length old + function_size f
length-function old new f h = let l = blocks_in-length f.initialiser f.body (length old) in rw h (simp length-append (omega (arith, l)))

pub next-blocks : (fs : List TypedFunction) (i : ℕ) (f : TypedFunction) (old new all : List GraphBlock) → f ≡ get_or fs i f → i < length fs
    → new ≡ old ++ blocks_at f (length old) → old ++ blocks_from (length old) (drop i fs) ≡ all → new ++ blocks_from (length new) (drop (i + 1) fs) ≡ all
next-blocks fs i f old new all is h new_is all_is =
    rw (length-function old new f new_is) (rw (new_is, append_assoc) (rw (← blocks_from-drop (length old) fs i f is h) all_is))

pub next-functions : (fs : List TypedFunction) (i : ℕ) (f : TypedFunction) (old new : List GraphBlock) (put : List GraphFunction) (g : GraphFunction) (all : List GraphFunction)
    → f ≡ get_or fs i f → i < length fs → new ≡ old ++ blocks_at f (length old) → g ≡ function_at f (length old)
    → put ++ functions_from (length old) (drop i fs) ≡ all → (put ++ g ∷ []) ++ functions_from (length new) (drop (i + 1) fs) ≡ all
next-functions fs i f old new put g all is h new_is g_is all_is =
    rw (length-function old new f new_is, append_assoc, g_is) (rw (← functions_from-drop (length old) fs i f is h) all_is)
