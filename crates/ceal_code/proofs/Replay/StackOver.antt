-- A step of a stack over another one.
use Rattle.std.proofs.Common.{◌≡◌, ℕ, ◌+◌, List, refl, subst, sym}
use Rattle.ceal_base.specs.declared.forest.UnitId.{UnitId}
use Rattle.ceal_base.specs.declared.word.Word.{Word}
use Rattle.ceal_base.specs.declared.word.Word.TheVariants.{Num, Null, Block as BlockWord, At}
use Rattle.ceal_code.specs.Over.{on, act_on}
use Rattle.ceal_code.specs.Program.{Code}
use Rattle.ceal_code.specs.Step.{Stack, Empty, Run, Act, command_at, place_of, writes_at, reads_at, act, landed, stack_after_quiet_at, stack_after_quiet, acted, next}
use Rattle.ceal_code.specs.Value.{Plain, Variables, expr_value, values}
use Rattle.ceal_code.specs.declared.command.Cmd.{Cmd}
use Rattle.ceal_code.specs.declared.command.Cmd.TheVariants.{Move, Tick, Alloc, Modref, Write, If, Done, Tail, Read, Call}

module _ (code : Code) (x : Plain) (below : Stack) (later : Act) where
  writes-on : (w value : Word) (after : Stack) → writes_at (place_of w) value (on after below) ≡ act_on (writes_at (place_of w) value after) below later
  writes-on (Num n) value after = refl
  writes-on Null value after = refl
  writes-on (BlockWord b) value after = refl
  writes-on (At p) value after = refl

  reads-on : (w : Word) (u : UnitId) (v : ℕ) (args : List Word) (st : Stack) → reads_at code (place_of w) u v args (on st below) ≡ act_on (reads_at code (place_of w) u v args st) below later
  reads-on (Num n) u v args st = refl
  reads-on Null u v args st = refl
  reads-on (BlockWord b) u v args st = refl
  reads-on (At p) u v args st = refl

  -- what takes a step
  abbrev Steps : Cmd → Type 0
  Steps Done = ⊥
  Steps (Tail w args) = ⊥
  Steps _ = Unit {0}

  module _ (u i : ℕ) (env : Variables) (st : Stack) where
    act-on : (c : Cmd) → Steps c → act code x c u i env (on st below) ≡ act_on (act code x c u i env st) below later
    act-on (Move v e) h = refl
    act-on Tick h = refl
    act-on (Alloc v f args) h = refl
    act-on (Modref v shape) h = refl
    act-on (Write p e) h = writes-on (expr_value code.structs x env p) (expr_value code.structs x env e) (Run u (i + 1) env st)
    act-on (If test first second) h = refl
    act-on Done h = absurd h
    act-on (Tail w args) h = absurd h
    act-on (Read v p w args) h = reads-on (expr_value code.structs x env p) w v.0 (values code.structs x env args) st
    act-on (Call f args w rest) h = refl

    run-on : (c : Cmd) → command_at code u i ≡ c → Steps c → acted code x (Run u i env (on st below)) ≡ act_on (acted code x (Run u i env st)) below later
    run-on c e h = subst (λ d. act code x d u i env (on st below) ≡ act_on (act code x d u i env st) below later) (sym e) (act-on c h)

  module _ (st over-rest rest : Stack) (h : acted code x over-rest ≡ act_on (acted code x rest) below later) where
    landed-on : (u : ℕ) (env : Variables) (c : Cmd) → command_at code u 0 ≡ c
        → acted code x (landed c (Run u 0 env (on st below)) over-rest) ≡ act_on (acted code x (landed c (Run u 0 env st) rest)) below later
    landed-on u env Done e = h
    landed-on u env (Tail w args) e = h
    landed-on u env (Move v a) e = run-on u 0 env st (Move v a) e tt
    landed-on u env Tick e = run-on u 0 env st Tick e tt
    landed-on u env (Alloc v f args) e = run-on u 0 env st (Alloc v f args) e tt
    landed-on u env (Modref v shape) e = run-on u 0 env st (Modref v shape) e tt
    landed-on u env (Write p a) e = run-on u 0 env st (Write p a) e tt
    landed-on u env (If test first second) e = run-on u 0 env st (If test first second) e tt
    landed-on u env (Read v p w args) e = run-on u 0 env st (Read v p w args) e tt
    landed-on u env (Call f args w others) e = run-on u 0 env st (Call f args w others) e tt

    at-on : (u i : ℕ) (env : Variables) (c : Cmd) → command_at code u i ≡ c
        → acted code x (stack_after_quiet_at code x c u i env (on st below) over-rest) ≡ act_on (acted code x (stack_after_quiet_at code x c u i env st rest)) below later
    at-on u i env Done e = h
    at-on u i env (Tail w args) e = landed-on w.0 _ (command_at code w.0 0) refl
    at-on u i env (Move v a) e = run-on u i env st (Move v a) e tt
    at-on u i env Tick e = run-on u i env st Tick e tt
    at-on u i env (Alloc v f args) e = run-on u i env st (Alloc v f args) e tt
    at-on u i env (Modref v shape) e = run-on u i env st (Modref v shape) e tt
    at-on u i env (Write p a) e = run-on u i env st (Write p a) e tt
    at-on u i env (If test first second) e = run-on u i env st (If test first second) e tt
    at-on u i env (Read v p w args) e = run-on u i env st (Read v p w args) e tt
    at-on u i env (Call f args w others) e = run-on u i env st (Call f args w others) e tt

module _ (code : Code) (x : Plain) (below : Stack) where
  stack_after_quiet-on : (st : Stack) → acted code x (stack_after_quiet code x (on st below))
      ≡ act_on (acted code x (stack_after_quiet code x st)) below (acted code x (stack_after_quiet code x below))
  unfolding stack_after_quiet
  stack_after_quiet-on Empty = refl
  stack_after_quiet-on (Run u i env st) =
      at-on code x below (acted code x (stack_after_quiet code x below)) st (stack_after_quiet code x (on st below)) (stack_after_quiet code x st) (stack_after_quiet-on st) u i env
      (command_at code u i) refl

  pub next-on : (st : Stack) → next code x (on st below) ≡ act_on (next code x st) below (next code x below)
  unfolding next
  next-on st = stack_after_quiet-on st
