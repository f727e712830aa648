-- A body command by command.
use Rattle.std.proofs.Common.{◌≡◌, ℕ, ◌+◌, ◌<◌, ◌≤◌, Bool, true, false, not, if◌then◌else◌, Option, Some, None, List}
use Rattle.std.proofs.Common.{[], ◌∷◌, ◌++◌, length, reverse, slice_set, refl, ap, sym, ◌∙◌, arith, length-append}
use Rattle.std.proofs.Common.{append_assoc}
use Rattle.std.proofs.Math.Seq.{get_or-append_seam, set-append_seam}
use Rattle.std.proofs.lemmas.List.{reverse-append, length-set}
use Rattle.ceal_base.specs.declared.typed.TypedExpr.{TypedExpr}
use Rattle.ceal_base.specs.declared.typed.TypedStmt.{TypedStmt, Declare, Assign, SetField, Write, Call, If', While', Return, Break, Continue}
use Rattle.ceal_base.specs.declared.typed.TypedValue.{TypedValue}
use Rattle.ceal_base.specs.declared.typed.TypedValue.TheVariants.{Plain, Read, Alloc, ModrefInt, Modref}
use Rattle.ceal_code.specs.declared.command.Cmd.{Cmd}
use Rattle.ceal_code.specs.declared.command.Cmd.TheVariants as command
use Rattle.ceal_code.specs.declared.expr.CodeExpr.{CodeExpr}
use Rattle.ceal_flow.specs.declared.block.GraphBlock.TheVariants.{Test}
use Rattle.ceal_norm.specs.Body.{onward, value_command, stmt_command, tail_command, with_second, with_second_at, with_second_here, whole_body, next_pending, parts, AllBelow}
use Rattle.ceal_norm.specs.Entries.{is_read, has_closure, is_entry}
use Rattle.ceal_norm.specs.Expressions.{expr_code}
use Rattle.ceal_norm.specs.Units.{Source, Placed, value_code, stmt_code, block_code, tree}
use Rattle.ceal_norm.specs.declared.body.Pending.{Pending}

pub reverse-push : (ps : List Pending) (p : Pending) → reverse (ps ++ p ∷ []) ≡ p ∷ reverse ps
reverse-push ps p = reverse-append ps (p ∷ [])

pub ruleset push_steps = (reverse-push)

length-more : {A : Type 0} (xs : List A) (x : A) → length (xs ++ x ∷ []) ≡ length xs + 1
length-more xs x = length-append xs (x ∷ [])

module _ (s : Source) where
  pub finished-none : (body : List Cmd) → whole_body s body [] ≡ body
  unfolding whole_body
  finished-none body = refl

  pub finished-cons : (body : List Cmd) (p : Pending) (ps : List Pending)
      → whole_body s body (p ∷ ps) ≡ whole_body s (with_second_here body p.test ++ onward s p.block (length (with_second_here body p.test))) ps
  unfolding whole_body
  finished-cons body p ps = refl

  -- the command of a statement comes first in its code
  value-first : (F : Placed) (next i n : ℕ) (v : TypedValue)
      → value_code s F next i n v ≡ value_command s next n v ∷ (if not (is_read v) then F next (i + 1) else [])
  value-first F next i n (Plain e) = refl
  value-first F next i n (Read at e) = refl
  value-first F next i n (Alloc at shape f name args) = refl
  value-first F next i n (ModrefInt at) = refl
  value-first F next i n (Modref at shape) = refl

  stmt-first : (F : Placed) (next i : ℕ) (st : TypedStmt)
      → stmt_code s F next i st ≡ stmt_command s next st ∷ (if not (has_closure st) then F next (i + 1) else [])
  stmt-first F next i (Declare at n kind value) = value-first F next i n value
  stmt-first F next i (Assign at n value) = value-first F next i n value
  stmt-first F next i (SetField at left k field e) = refl
  stmt-first F next i (Write at place e) = refl
  stmt-first F next i (Call at f args) = refl
  stmt-first F next i (If' at test _ first _ second) = refl
  stmt-first F next i (While' at test _ body) = refl
  stmt-first F next i (Return at) = refl
  stmt-first F next i (Break at) = refl
  stmt-first F next i (Continue at) = refl

  one-command : (body : List Cmd) (c : Cmd) (next : ℕ) (on : Bool) (ps : List Pending)
      → whole_body s (body ++ c ∷ []) (next_pending on next ++ ps)
      ≡ whole_body s (body ++ c ∷ (if on then onward s next (length body + 1) else [])) ps
  one-command body c next true ps =
      finished-cons (body ++ c ∷ []) (record { block = next; test = None }) ps
      ∙ ap (λ xs. whole_body s xs ps)
      (ap (λ k. (body ++ c ∷ []) ++ onward s next k) (length-more body c) ∙ append_assoc body (c ∷ []) (onward s next (length body + 1)))
  one-command body c next false ps = refl

  pub act-same : (body : List Cmd) (st : TypedStmt) (next : ℕ) (ps : List Pending)
      → whole_body s (body ++ stmt_command s next st ∷ []) (next_pending (not (has_closure st)) next ++ ps)
      ≡ whole_body s (body ++ stmt_code s (onward s) next (length body) st) ps
  act-same body st next ps =
      one-command body (stmt_command s next st) next (not (has_closure st)) ps
      ∙ ap (λ xs. whole_body s (body ++ xs) ps) (sym (stmt-first (onward s) next (length body) st))

  -- the second index of an `if` is where its second part begins
  patched-if : (body more : List Cmd) (test : CodeExpr) (i j k : ℕ)
      → with_second_at (body ++ command.If test i j ∷ more) (length body) k ≡ body ++ command.If test i k ∷ more
  patched-if body more test i j k =
      ap (λ c. slice_set (body ++ command.If test i j ∷ more) (length body) (with_second c k))
      (get_or-append_seam body (command.If test i j) more command.Done)
      ∙ set-append_seam body (command.If test i j) more (command.If test i k)

  pub test-same : (body : List Cmd) (test : TypedExpr) (first second : ℕ) (ps : List Pending)
      → whole_body s (body ++ command.If (expr_code test) (length body + 1) 0 ∷ []) (parts (length body) first second ++ ps)
      ≡ whole_body s (body ++ block_code s (onward s) (length body) (Some (Test test first second))) ps
  test-same body test first second ps =
      let i = length body + 1 in
      let start = command.If (expr_code test) i 0 in
      let xs = onward s first i in
      let k = i + length xs in
      let p : Pending = record { block = first; test = None } in
      let q : Pending = record { block = second; test = Some (length body) } in
      let joined : (body ++ start ∷ []) ++ onward s first (length (body ++ start ∷ [])) ≡ body ++ start ∷ xs =
      ap (λ n. (body ++ start ∷ []) ++ onward s first n) (length-more body start) ∙ append_assoc body (start ∷ []) xs in
      let long : length (body ++ start ∷ xs) ≡ k = length-append body (start ∷ xs) ∙ omega arith in
      let second_at : with_second_here (body ++ start ∷ xs) (Some (length body)) ≡ body ++ command.If (expr_code test) i k ∷ xs =
      ap (with_second_at (body ++ start ∷ xs) (length body)) long ∙ patched-if body xs (expr_code test) i 0 k in
      let long_too : length (body ++ command.If (expr_code test) i k ∷ xs) ≡ k = length-append body (command.If (expr_code test) i k ∷ xs) ∙ omega arith in
      finished-cons (body ++ start ∷ []) p (q ∷ ps)
      ∙ ap (λ b. whole_body s b (q ∷ ps)) joined
      ∙ finished-cons (body ++ start ∷ xs) q ps
      ∙ ap (λ b. whole_body s (b ++ onward s second (length b)) ps) second_at
      ∙ ap (λ n. whole_body s ((body ++ command.If (expr_code test) i k ∷ xs) ++ onward s second n) ps) long_too
      ∙ ap (λ b. whole_body s b ps) (append_assoc body (command.If (expr_code test) i k ∷ xs) (onward s second k))

  pub jump-entry : (b i : ℕ) → is_entry s.graph b ≡ true → onward s b i ≡ tail_command s b ∷ []
  jump-entry b i h = rw h refl

  pub jump-tree : (b i : ℕ) → is_entry s.graph b ≡ false → onward s b i ≡ tree s (length s.graph.blocks) b i
  jump-tree b i h = rw h refl

pub below-following : (n next : ℕ) (on : Bool) (ps : List Pending) → next < n → AllBelow n ps → AllBelow n (next_pending on next ++ ps)
below-following n next true ps l h = (l, h)
below-following n next false ps l h = h

pub below-parts : (n at first second : ℕ) (ps : List Pending) → first < n → second < n → AllBelow n ps → AllBelow n (parts at first second ++ ps)
below-parts n at first second ps l m h = (l, (m, h))

pub begun-length : (body : List Cmd) (test : Option ℕ) → length (with_second_here body test) ≡ length body
begun-length body None = refl
begun-length body (Some at) = length-set body at _

pub finished-length : (s : Source) (body : List Cmd) (ps : List Pending) → length body ≤ length (whole_body s body ps)
unfolding whole_body
finished-length s body [] = omega arith
finished-length s body (p ∷ ps) =
    let more = finished-length s (with_second_here body p.test ++ onward s p.block (length (with_second_here body p.test))) ps in
    let long = length-append (with_second_here body p.test) (onward s p.block (length (with_second_here body p.test))) in
    let same = begun-length body p.test in
    omega (arith, more, long, same)

pub ruleset act_steps = (act-same, below-following, length-append)

pub ruleset test_steps = (test-same, below-parts, length-append)

pub ruleset jump_steps = (jump-entry, jump-tree, length-append)

pub ruleset pending_steps = (finished-cons, begun-length)
