-- Code and its folding take the same steps from stacks that agree on the variables that the folding still uses.
use Rattle.std.proofs.Common.{◌≡◌, ℕ, ◌+◌, ◌<◌, ◌==◌, nat_lt, ◌||◌, ◌&&◌, not, Bool, true, false, if◌then◌else◌, Some}
use Rattle.std.proofs.Common.{None, List, [], ◌∷◌, ◌++◌, refl, sym, ap, ◌∙◌, subst, length, slice_get, slice_set, arith}
use Rattle.ceal_base.specs.declared.forest.UnitId.{UnitId}
use Rattle.ceal_base.specs.declared.kind.Shape.{Shape}
use Rattle.ceal_base.specs.declared.typed.StructInfo.{StructInfo}
use Rattle.ceal_base.specs.declared.word.Word.{Word}
use Rattle.ceal_code.proofs.Words.SameIsEqual.{both, nat-same}
use Rattle.ceal_code.specs.Program.{Unit as CodeUnit, Code}
use Rattle.ceal_code.specs.Valid.{goes_forward, onward, paths_ok, is_tree, valid, followers}
use Rattle.ceal_code.specs.Value.{Plain, Variables, set, expr_value, values}
use Rattle.ceal_code.specs.declared.command.Cmd.{Cmd}
use Rattle.ceal_code.specs.declared.command.Cmd.TheVariants.{Move, Tick, Alloc, Modref, Write, If, Done, Tail, Read, Call}
use Rattle.ceal_code.specs.declared.expr.CodeExpr.{CodeExpr}
use Rattle.ceal_code.specs.declared.expr.VarId.{VarId}
use Rattle.ceal_fold.proofs.Bodies.{around, in-middle, facts, facts-follow, replaced-around, folded-followers, ticked-around, used-later, used-here}
use Rattle.ceal_fold.proofs.Trees.{tree-apart}
use Rattle.ceal_fold.proofs.Values.{CopyHolds, Holds, value-folded, values-folded, value-mentioned, values-mentioned, set-other, holds-set, move-holds}
use Rattle.ceal_fold.specs.Folding.{Copies, at_root, copies_after, copy_by, is_among, folded_expr, folded_exprs}
use Rattle.ceal_fold.specs.Folding.{folded_command, folded_commands, mentions, all_mention, uses, assigns, used}
use Rattle.ceal_fold.specs.Folding.{used_in, used_by, command_or_tick, without_unused}

-- the body of a folded unit
abbrev pub final : List StructInfo → List Cmd → List Cmd
final structs body = without_unused 0 (folded_commands structs at_root 0 body)

-- what is at an index of a folded body, and what is known and used there
pub record Spot (structs : List StructInfo) (body : List Cmd) (i : ℕ) (c : Cmd) : Type 0 where
  pub later : ℕ → ℕ → Bool
  pub there : slice_get (final structs body) i ≡ Some (command_or_tick (used_in later (followers c i)) (folded_command structs (facts structs at_root 0 body i) c))
  pub here : (v : ℕ) → used 0 (final structs body) i v ≡ used_by later (command_or_tick (used_in later (followers c i)) (folded_command structs (facts structs at_root 0 body i) c)) i v
  pub ahead : (j v : ℕ) → i < j → used 0 (final structs body) j v ≡ later j v
  pub follow : (j : ℕ) → i < j → is_among j (followers c i) ≡ true
      → facts structs at_root 0 body j ≡ copies_after (facts structs at_root 0 body i) (folded_command structs (facts structs at_root 0 body i) c)

spot-around : (structs : List StructInfo) (before : List Cmd) (c : Cmd) (after : List Cmd) → is_tree (before ++ c ∷ after) ≡ true → Spot structs (before ++ c ∷ after) (length before) c
spot-around structs before c after tree =
    let body = before ++ c ∷ after in
    let i = length before in
    let k = facts structs at_root 0 body i in
    let d = folded_command structs k c in
    let q = replaced-around structs c after at_root 0 before i (omega arith) in
    let t = ticked-around d q.after' 0 q.before' i (omega (arith, q.long)) in
    let long : length t.before' ≡ i = t.long ∙ q.long in
    let is : followers d i ≡ followers c i = folded-followers structs k c i in
    let whole : final structs body ≡ t.before' ++ command_or_tick (used_in (used (i + 1) t.after') (followers c i)) d ∷ t.after' =
    ap (without_unused 0) q.whole ∙ t.whole ∙ ap (λ js. t.before' ++ command_or_tick (used_in (used (i + 1) t.after') js) d ∷ t.after') is in
    let e = command_or_tick (used_in (used (i + 1) t.after') (followers c i)) d in
    record {
      later = used (i + 1) t.after';
      there = ap (λ cs. slice_get cs i) whole ∙ subst (λ n. slice_get (t.before' ++ e ∷ t.after') n ≡ Some e) long (in-middle t.before' e t.after');
      here = λ v. ap (λ cs. used 0 cs i v) whole ∙ subst (λ n. used 0 (t.before' ++ e ∷ t.after') n v ≡ used_by (used (n + 1) t.after') e n v) long (used-here t.before' e t.after' v);
      ahead = λ j v lo. ap (λ cs. used 0 cs j v) whole ∙ used-later t.before' e t.after' j v (omega (arith, lo, long)) ∙ ap (λ n. used (n + 1) t.after' j v) long;
      follow = λ j lo m. facts-follow structs c after at_root 0 before i (omega arith) j lo m (tree-apart before c after tree j m);
    }

pub spot : (structs : List StructInfo) (body : List Cmd) (i : ℕ) (c : Cmd) → is_tree body ≡ true → slice_get body i ≡ Some c → Spot structs body i c
spot structs body i c tree e =
    let a = around body i c e in
    subst (λ n. Spot structs body n c) a.long
    (subst (λ cs. Spot structs cs (length a.before) c) (sym a.whole) (spot-around structs a.before c a.after (subst (λ cs. is_tree cs ≡ true) a.whole tree)))

or-left : (a b : Bool) → a ≡ true → (a || b) ≡ true
or-left a b h = rw h refl

or-right : (a b : Bool) → b ≡ true → (a || b) ≡ true
or-right true b h = refl
or-right false b h = h

pub used-follower : (later : ℕ → ℕ → Bool) (js : List ℕ) (j v : ℕ) → is_among j js ≡ true → later j v ≡ true → used_in later js v ≡ true
unfolding used_in is_among
used-follower later [] j v m h = absurd (grind (arith, m))
used-follower later (k ∷ js) j v m h = go (j == k) refl m (λ m. used-follower later js j v m h)
  where
    go : (b : Bool) → (j == k) ≡ b → (b || is_among j js) ≡ true → (is_among j js ≡ true → used_in later js v ≡ true) → (later k v || used_in later js v) ≡ true
    go true e m again = let i : j ≡ k = nat-same j k e in or-left (later k v) (used_in later js v) (ap (λ k. later k v) (sym i) ∙ h)
    go false e m again = or-right (later k v) (used_in later js v) (again m)

pub among-next : (i : ℕ) → is_among (i + 1) ((i + 1) ∷ []) ≡ true
unfolding is_among
among-next i = let e : (i + 1 == i + 1) ≡ true = grind arith in rw e refl

pub among-first : (j k : ℕ) → is_among j (j ∷ k ∷ []) ≡ true
unfolding is_among
among-first j k = let e : (j == j) ≡ true = grind arith in rw e refl

pub among-second : (j k : ℕ) → is_among k (j ∷ k ∷ []) ≡ true
unfolding is_among
among-second j k = let e : (k == k) ≡ true = grind arith in or-right (k == j) (k == k || false) (rw e refl)

pub lt-true : (a b : ℕ) → nat_lt a b ≡ true → a < b
lt-true a b h = grind (arith, h)

module _ (code : Code) (ok : valid code ≡ true) where
  -- a frame of the code and one of its folding
  pub data FrameTied (u i : ℕ) (env env' : Variables) : Type 0 where
    inside : (unit : CodeUnit) (fuel : ℕ) (known : List Bool) (stepped : Bool) → slice_get code.units u ≡ Some unit
        → paths_ok code unit.function unit.body fuel i known stepped ≡ true
        → Holds (facts code.structs at_root 0 unit.body i) env
        → ((v : ℕ) → used 0 (final code.structs unit.body) i v ≡ true → env' v ≡ env v)
        → FrameTied u i env env'
    nowhere : slice_get code.units u ≡ None → FrameTied u i env env'

  -- a command of the code and the one that stands for it in the folding
  pub data CmdsTied (u i : ℕ) (env env' : Variables) : Cmd → Cmd → Type 0 where
    move : {v : VarId} {e e' : CodeExpr}
        → ((x : Plain) → FrameTied u (i + 1) (set env v.0 (expr_value code.structs x env e)) (set env' v.0 (expr_value code.structs x env' e')))
        → CmdsTied u i env env' (Move v e) (Move v e')
    dropped : {v : VarId} {e : CodeExpr}
        → ((x : Plain) → FrameTied u (i + 1) (set env v.0 (expr_value code.structs x env e)) env')
        → CmdsTied u i env env' (Move v e) Tick
    tick : FrameTied u (i + 1) env env' → CmdsTied u i env env' Tick Tick
    alloc : {v : VarId} {g : ℕ} {args args' : List CodeExpr}
        → ((x : Plain) → values code.structs x env' args' ≡ values code.structs x env args)
        → ((w : Word) → FrameTied u (i + 1) (set env v.0 w) (set env' v.0 w))
        → CmdsTied u i env env' (Alloc v g args) (Alloc v g args')
    modref : {v : VarId} {shape : Shape} → ((w : Word) → FrameTied u (i + 1) (set env v.0 w) (set env' v.0 w)) → CmdsTied u i env env' (Modref v shape) (Modref v shape)
    write : {p p' e e' : CodeExpr}
        → ((x : Plain) → expr_value code.structs x env' p' ≡ expr_value code.structs x env p)
        → ((x : Plain) → expr_value code.structs x env' e' ≡ expr_value code.structs x env e)
        → FrameTied u (i + 1) env env' → CmdsTied u i env env' (Write p e) (Write p' e')
    test : {t t' : CodeExpr} {first second : ℕ}
        → ((x : Plain) → expr_value code.structs x env' t' ≡ expr_value code.structs x env t)
        → FrameTied u first env env' → FrameTied u second env env' → CmdsTied u i env env' (If t first second) (If t' first second)
    done : CmdsTied u i env env' Done Done
    tail : {w : UnitId} {args args' : List CodeExpr}
        → ((x : Plain) → values code.structs x env' args' ≡ values code.structs x env args) → CmdsTied u i env env' (Tail w args) (Tail w args')
    read : {v : VarId} {p p' : CodeExpr} {w : UnitId} {args args' : List CodeExpr}
        → ((x : Plain) → expr_value code.structs x env' p' ≡ expr_value code.structs x env p)
        → ((x : Plain) → values code.structs x env' args' ≡ values code.structs x env args)
        → CmdsTied u i env env' (Read v p w args) (Read v p' w args')
    call : {g : ℕ} {args args' : List CodeExpr} {w : UnitId} {rest rest' : List CodeExpr}
        → ((x : Plain) → values code.structs x env' args' ≡ values code.structs x env args)
        → ((x : Plain) → values code.structs x env' rest' ≡ values code.structs x env rest)
        → CmdsTied u i env env' (Call g args w rest) (Call g args' w rest')

  module _ (u i : ℕ) (env env' : Variables) (unit : CodeUnit) (is : slice_get code.units u ≡ Some unit)
      (known : Holds (facts code.structs at_root 0 unit.body i) env)
      (same : (v : ℕ) → used 0 (final code.structs unit.body) i v ≡ true → env' v ≡ env v)
      (later : ℕ → ℕ → Bool) (ahead : (j v : ℕ) → i < j → used 0 (final code.structs unit.body) j v ≡ later j v) where
    abbrev F : ℕ → Copies
    F = facts code.structs at_root 0 unit.body

    -- the words of folded expressions that the folding uses
    expr-tied : (e : CodeExpr) → ((v : ℕ) → mentions (folded_expr code.structs (F i) e) v ≡ true → env' v ≡ env v) →
        (x : Plain) → expr_value code.structs x env'
        (folded_expr code.structs (F i) e) ≡ expr_value code.structs x env e
    expr-tied e h x = value-mentioned code.structs x env env' (folded_expr code.structs (F i) e) h ∙ value-folded code.structs x env (F i) known e

    exprs-tied : (es : List CodeExpr) → ((v : ℕ) → all_mention (folded_exprs code.structs (F i) es) v ≡ true
        → env' v ≡ env v) → (x : Plain) → values code.structs x env'
        (folded_exprs code.structs (F i) es) ≡ values code.structs x env es
    exprs-tied es h x = values-mentioned code.structs x env env' (folded_exprs code.structs (F i) es) h ∙ values-folded code.structs x env (F i) known es

    module _ (c d : Cmd) (here : (v : ℕ) → used 0 (final code.structs unit.body) i v ≡ used_by later d i v) where
      used-tied : (v : ℕ) → uses d v ≡ true → env' v ≡ env v
      used-tied v h = same v (here v ∙ or-left (uses d v) (not (assigns d v) && used_in later (followers d i) v) h)

      kept-tied : (v : ℕ) → assigns d v ≡ false → used_in later (followers d i) v ≡ true → env' v ≡ env v
      kept-tied v h k = same v (here v ∙ or-right (uses d v) (not (assigns d v) && used_in later (followers d i) v) (rw (h, k) refl))

    -- the next frames
    frame-on : (envn envn' : Variables) (j fuel : ℕ) (flags : List Bool) → paths_ok code unit.function unit.body fuel j flags true ≡ true → i < j
        → Holds (F j) envn → ((v : ℕ) → later j v ≡ true → envn' v ≡ envn v) → FrameTied u j envn envn'
    frame-on envn envn' j fuel flags p lo h k = FrameTied.inside unit fuel flags true is p h (λ v m. k v (sym (ahead j v lo) ∙ m))

    -- after an assignment of the same word, on both sides
    set-tied : (n : ℕ) (w w' : Word) → w' ≡ w → ((v : ℕ) → (n == v) ≡ false → later (i + 1) v ≡ true → env' v ≡ env v) → (v : ℕ) → later (i + 1) v ≡ true → set env' n w' v ≡ set env n w v
    unfolding set
    set-tied n w w' e h v m = go (v == n) refl
      where
        go : (b : Bool) → (v == n) ≡ b → (if b then w' else env' v) ≡ (if b then w else env v)
        go true f = e
        go false f = let g : (n == v) ≡ false = flip (n == v) refl f in h v g m
          where
            flip : (b : Bool) → (n == v) ≡ b → (v == n) ≡ false → (n == v) ≡ false
            flip false g f = g
            flip true g f = absurd (grind (arith, f, g))

    abbrev folds : Cmd → Cmd
    folds c = folded_command code.structs (F i) c

    next-up : i < i + 1
    next-up = omega arith

    pub cmd-tied : (c : Cmd) → goes_forward c i ≡ true → ((v : ℕ) → used 0 (final code.structs unit.body) i v ≡ used_by later (command_or_tick (used_in later (followers c i)) (folds c)) i v)
        → ((j : ℕ) → i < j → is_among j (followers c i) ≡ true → F j ≡ copies_after (F i) (folds c))
        → (fuel : ℕ) (flags : List Bool) → onward (paths_ok code unit.function unit.body fuel) c i flags ≡ true
        → CmdsTied u i env env' c (command_or_tick (used_in later (followers c i)) (folds c))
    cmd-tied (Move v e) up here follow fuel flags p = go (used_in later ((i + 1) ∷ []) v.0) refl here
      where
        e' : CodeExpr
        e' = folded_expr code.structs (F i) e

        copied : (x : Plain) → Holds (F (i + 1)) (set env v.0 (expr_value code.structs x env e))
        copied x =
            subst (λ k. Holds k (set env v.0 (expr_value code.structs x env e))) (sym (follow (i + 1) next-up (among-next i)))
            (holds-set (F i) env v.0 (expr_value code.structs x env e) (copy_by v.0 e') known
            (subst (λ w. CopyHolds (set env v.0 w) w (copy_by v.0 e')) (value-folded code.structs x env (F i) known e) (move-holds code.structs x env v.0 e')))

        go : (b : Bool) → used_in later ((i + 1) ∷ []) v.0 ≡ b → ((z : ℕ) → used 0 (final code.structs unit.body) i z ≡ used_by later (if b then Move v e' else Tick) i z)
            → CmdsTied u i env env' (Move v e) (if b then Move v e' else Tick)
        go true f here = CmdsTied.move (λ x. frame-on (set env v.0 (expr_value code.structs x env e))
            (set env' v.0 (expr_value code.structs x env' e')) (i + 1) fuel (slice_set flags v.0 true) p next-up
            (copied x)
            (set-tied v.0 (expr_value code.structs x env e) (expr_value code.structs x env' e') (expr-tied e (λ z m. used-tied (Move v e) (Move v e') here z m) x)
            (λ z g m. kept-tied (Move v e) (Move v e') here z g (used-follower later ((i + 1) ∷ []) (i + 1) z (among-next i) m))))
        go false f here = CmdsTied.dropped (λ x. frame-on (set env v.0 (expr_value code.structs x env e)) env' (i + 1) fuel (slice_set flags v.0 true) p next-up (copied x) (λ z m. unset x z m))
          where
            unset : (x : Plain) (z : ℕ) → later (i + 1) z ≡ true → env' z ≡ set env v.0 (expr_value code.structs x env e) z
            unset x z m = which (z == v.0) refl
              where
                used' : used_in later ((i + 1) ∷ []) z ≡ true
                used' = used-follower later ((i + 1) ∷ []) (i + 1) z (among-next i) m

                which : (b : Bool) → (z == v.0) ≡ b → env' z ≡ set env v.0 (expr_value code.structs x env e) z
                which true g = let n : z ≡ v.0 = nat-same z v.0 g in let k : used_in later ((i + 1) ∷ []) v.0 ≡ true =
                    ap (λ z. used_in later ((i + 1) ∷ []) z) (sym n) ∙ used' in absurd (grind (arith, f, k))
                which false g = kept-tied (Move v e) Tick here z refl used' ∙ sym (set-other env v.0 z (expr_value code.structs x env e) g)
    cmd-tied Tick up here follow fuel flags p =
        CmdsTied.tick (frame-on env env' (i + 1) fuel flags p next-up (subst (λ k. Holds k env) (sym (follow (i + 1) next-up (among-next i))) known)
        (λ z m. kept-tied Tick Tick here z refl (used-follower later ((i + 1) ∷ []) (i + 1) z (among-next i) m)))
    cmd-tied (Alloc v g args) up here follow fuel flags p =
        let d = Alloc v g (folded_exprs code.structs (F i) args) in
        CmdsTied.alloc (exprs-tied args (λ z m. used-tied d d here z m))
        (λ w. frame-on (set env v.0 w) (set env' v.0 w) (i + 1) fuel (slice_set flags v.0 true) p next-up
        (subst (λ k. Holds k (set env v.0 w)) (sym (follow (i + 1) next-up (among-next i))) (holds-set (F i) env v.0 w None known tt))
        (set-tied v.0 w w refl (λ z g m. kept-tied d d here z g (used-follower later ((i + 1) ∷ []) (i + 1) z (among-next i) m))))
    cmd-tied (Modref v shape) up here follow fuel flags p =
        CmdsTied.modref (λ w. frame-on (set env v.0 w) (set env' v.0 w) (i + 1) fuel (slice_set flags v.0 true) p next-up
        (subst (λ k. Holds k (set env v.0 w)) (sym (follow (i + 1) next-up (among-next i))) (holds-set (F i) env v.0 w None known tt))
        (set-tied v.0 w w refl (λ z g m. kept-tied (Modref v shape) (Modref v shape) here z g (used-follower later ((i + 1) ∷ []) (i + 1) z (among-next i) m))))
    cmd-tied (Write q e) up here follow fuel flags p =
        let q' = folded_expr code.structs (F i) q in
        let e' = folded_expr code.structs (F i) e in
        CmdsTied.write (expr-tied q (λ z m. used-tied (Write q e) (Write q' e') here z (or-left (mentions q' z) (mentions e' z) m)))
        (expr-tied e (λ z m. used-tied (Write q e) (Write q' e') here z (or-right (mentions q' z) (mentions e' z) m)))
        (frame-on env env' (i + 1) fuel flags p next-up (subst (λ k. Holds k env) (sym (follow (i + 1) next-up (among-next i))) known)
        (λ z m. kept-tied (Write q e) (Write q' e') here z refl (used-follower later ((i + 1) ∷ []) (i + 1) z (among-next i) m)))
    cmd-tied (If t first second) up here follow fuel flags p =
        let b = both (nat_lt i first) (nat_lt i second) up in
        let c = both (paths_ok code unit.function unit.body fuel first flags true) (paths_ok code unit.function unit.body fuel second flags true) p in
        let t' = folded_expr code.structs (F i) t in
        let d = If t' first second in
        let lo = lt-true i first b.0 in
        let hi = lt-true i second b.1 in
        CmdsTied.test (expr-tied t (λ z m. used-tied d d here z m))
        (frame-on env env' first fuel flags c.0 lo (subst (λ k. Holds k env) (sym (follow first lo (among-first first second))) known)
        (λ z m. kept-tied d d here z refl (used-follower later (first ∷ second ∷ []) first z (among-first first second) m)))
        (frame-on env env' second fuel flags c.1 hi (subst (λ k. Holds k env) (sym (follow second hi (among-second first second))) known)
        (λ z m. kept-tied d d here z refl (used-follower later (first ∷ second ∷ []) second z (among-second first second) m)))
    cmd-tied Done up here follow fuel flags p = CmdsTied.done
    cmd-tied (Tail w args) up here follow fuel flags p =
        let d = Tail w (folded_exprs code.structs (F i) args) in CmdsTied.tail (exprs-tied args (λ z m. used-tied d d here z m))
    cmd-tied (Read v q w args) up here follow fuel flags p =
        let q' = folded_expr code.structs (F i) q in
        let args' = folded_exprs code.structs (F i) args in
        let d = Read v q' w args' in
        CmdsTied.read (expr-tied q (λ z m. used-tied d d here z (or-left (mentions q' z) (all_mention args' z) m)))
        (exprs-tied args (λ z m. used-tied d d here z (or-right (mentions q' z) (all_mention args' z) m)))
    cmd-tied (Call g args w rest) up here follow fuel flags p =
        let args' = folded_exprs code.structs (F i) args in
        let rest' = folded_exprs code.structs (F i) rest in
        let d = Call g args' w rest' in
        CmdsTied.call (exprs-tied args (λ z m. used-tied d d here z (or-left (all_mention args' z) (all_mention rest' z) m)))
        (exprs-tied rest (λ z m. used-tied d d here z (or-right (all_mention args' z) (all_mention rest' z) m)))
