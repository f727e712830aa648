-- The tree of a block unfolds: with at least as many blocks as there are from it on, its depth does not matter.
use Rattle.std.proofs.Common.{◌≡◌, ℕ, zero, suc, ◌+◌, ◌<◌, ◌≤◌, Bool, true, false, Option, Some, None, List, [], ◌∷◌, length, slice_get, Contains, if◌then◌else◌, refl, arith}
use Rattle.std.proofs.lemmas.List.Elements.{Contains-push, Contains-append_left, Contains-append_right}
use Rattle.ceal_base.specs.declared.typed.TypedStmt.{TypedStmt, Declare, Assign, SetField, Write, Call, If', While', Return, Break, Continue}
use Rattle.ceal_base.specs.declared.typed.TypedValue.{TypedValue}
use Rattle.ceal_base.specs.declared.typed.TypedValue.TheVariants.{Plain, Read, Alloc, ModrefInt, Modref}
use Rattle.ceal_code.specs.declared.command.Cmd.{Cmd}
use Rattle.ceal_code.specs.declared.command.Cmd.TheVariants as command
use Rattle.ceal_code.specs.declared.expr.CodeExpr.{CodeExpr}
use Rattle.ceal_flow.specs.Paths.{jumps_at}
use Rattle.ceal_flow.specs.declared.block.GraphBlock.{GraphBlock}
use Rattle.ceal_flow.specs.declared.block.GraphBlock.TheVariants.{Done, Test, Act, Unreached}
use Rattle.ceal_norm.specs.Entries.{is_entry}
use Rattle.ceal_norm.specs.Expressions.{expr_code}
use Rattle.ceal_norm.specs.Laws.{IsClosed, IsForward}
use Rattle.ceal_norm.specs.Units.{Source, Placed, unit_of, args_of, jump_code, test_code, value_code, stmt_code, block_code, tree}

module _ (s : Source) where
  -- the code of a block depends only on what is at its jumps
  module _ (F G : Placed) where
    value-same : (next i n : ℕ) (v : TypedValue) → ((j : ℕ) → F next j ≡ G next j) → value_code s F next i n v ≡ value_code s G next i n v
    value-same next i n (Plain e) h = rw (h (i + 1)) refl
    value-same next i n (Read at e) h = refl
    value-same next i n (Alloc at shape f name args) h = rw (h (i + 1)) refl
    value-same next i n (ModrefInt at) h = rw (h (i + 1)) refl
    value-same next i n (Modref at shape) h = rw (h (i + 1)) refl

    stmt-same : (next i : ℕ) (st : TypedStmt) → ((j : ℕ) → F next j ≡ G next j) → stmt_code s F next i st ≡ stmt_code s G next i st
    stmt-same next i (Declare at n kind value) h = value-same next i n value h
    stmt-same next i (Assign at n value) h = value-same next i n value h
    stmt-same next i (SetField at left k field e) h = rw (h (i + 1)) refl
    stmt-same next i (Write at place e) h = rw (h (i + 1)) refl
    stmt-same next i (Call at f args) h = refl
    stmt-same next i (If' at test _ first _ second) h = rw (h (i + 1)) refl
    stmt-same next i (While' at test _ body) h = rw (h (i + 1)) refl
    stmt-same next i (Return at) h = rw (h (i + 1)) refl
    stmt-same next i (Break at) h = rw (h (i + 1)) refl
    stmt-same next i (Continue at) h = rw (h (i + 1)) refl

    test-same : (test : CodeExpr) (i : ℕ) (xs ys : List Cmd) (a b : ℕ → List Cmd) → xs ≡ ys → ((j : ℕ) → a j ≡ b j)
        → test_code test i xs a ≡ test_code test i ys b
    test-same test i xs ys a b e h = rw (e, h (i + 1 + length ys)) refl

    block-same : (i : ℕ) (o : Option GraphBlock) → ((c : ℕ) → Contains (jumps_at o) c → (j : ℕ) → F c j ≡ G c j)
        → block_code s F i o ≡ block_code s G i o
    block-same i None h = refl
    block-same i (Some Done) h = refl
    block-same i (Some (Test test a b)) h =
        test-same (expr_code test) i (F a (i + 1)) (G a (i + 1)) (F b) (G b)
        (h a (Contains-append_left (a ∷ []) (b ∷ []) a (Contains-push [] a)) (i + 1))
        (h b (Contains-append_right (a ∷ []) (b ∷ []) b (Contains-push [] b)))
    block-same i (Some (Act st next)) h = stmt-same next i st (h next (Contains-push [] next))
    block-same i (Some Unreached) h = refl

    chosen-same : (x : Bool) (xs ys zs : List Cmd) → (x ≡ false → ys ≡ zs) → (if x then xs else ys) ≡ (if x then xs else zs)
    chosen-same true xs ys zs h = refl
    chosen-same false xs ys zs h = h refl

    jump-same : (c i : ℕ) → (is_entry s.graph c ≡ false → F c i ≡ G c i) → jump_code s F c i ≡ jump_code s G c i
    jump-same c i h = chosen-same (is_entry s.graph c) (command.Tail (unit_of s c) (args_of s c) ∷ []) (F c i) (G c i) h

  module _ (closed : IsClosed s.graph) (forward : IsForward s.graph) where
    pub same-tree : (d e b i : ℕ) → b < length s.graph.blocks → length s.graph.blocks ≤ d + b → length s.graph.blocks ≤ e + b
        → tree s d b i ≡ tree s e b i
    unfolding tree
    same-tree zero e b i l h k = absurd (omega (arith, l, h))
    same-tree (suc d) zero b i l h k = absurd (omega (arith, l, k))
    same-tree (suc d) (suc e) b i l h k =
        block-same (jump_code s (tree s d)) (jump_code s (tree s e)) i (slice_get s.graph.blocks b)
        (λ c j m. jump-same (tree s d) (tree s e) c m
        (λ q. let ahead = forward b c j q in
        same-tree d e c m (closed b c j) (omega (arith, ahead, h)) (omega (arith, ahead, k))))

    -- the tree of a block that is there
    pub tree-block : (b i : ℕ) → b < length s.graph.blocks
        → tree s (length s.graph.blocks) b i ≡ block_code s (jump_code s (tree s (length s.graph.blocks))) i (slice_get s.graph.blocks b)
    unfolding tree
    tree-block b i l = same-tree (length s.graph.blocks) (suc (length s.graph.blocks)) b i l (omega arith) (omega arith)
