-- The repair of a trace as a function: the rules, with a bound on how deep steps that are re-executed nest.
use Rattle.std.specs.Prelude.{ℕ, zero, suc, ◌+◌, nat_le, Bool, true, false, Option, Some, None, List, if◌then◌else◌}
use Rattle.ceal_base.specs.Block.{Block}
use Rattle.ceal_base.specs.Operators.{same_word}
use Rattle.ceal_base.specs.Trace.{Trace, Nothing, Stepped, Allocated, Wrote, WasRead}
use Rattle.ceal_base.specs.declared.forest.Key.{Key}
use Rattle.ceal_base.specs.declared.forest.UnitId.{UnitId}
use Rattle.ceal_base.specs.declared.word.BlockId.TheVariants.{Core}
use Rattle.ceal_base.specs.declared.word.Place.{Place}
use Rattle.ceal_base.specs.declared.word.Word.{Word}
use Rattle.ceal_code.specs.Init.{pointer}
use Rattle.ceal_code.specs.Program.{Code}
use Rattle.ceal_code.specs.Replay.{input_plain, plain_of}
use Rattle.ceal_code.specs.Step.{Stack, Run, Act, Over, Quiet, Makes, Writes, Reads, started, next}
use Rattle.ceal_code.specs.Value.{Variables, set}
use Rattle.ceal_theory.specs.Repair.{State, begins, clears, puts, works, own, grows, resumed}
use Rattle.ceal_theory.specs.Take.{TakenAlloc, TakenRead, take_alloc, take_read}

-- what a repair of items comes to: the state after it, and the items
pub record Fixed : Type 0 where
  pub state : State
  pub items : Trace

-- what a run comes to: the state after it, its items, and what it leaves of the old ones
pub record Ran : Type 0 where
  pub state : State
  pub items : Trace
  pub left : Trace

-- how a stack is re-executed, one level deeper
abbrev pub Runner : Type 0
Runner = State → Stack → Trace → Option Ran

-- a run with more items in front
abbrev pub ran_with : (Trace → Trace) → Option Ran → Option Ran
ran_with f None = None
ran_with f (Some r) = Some (record r { items = f r.items })

-- repaired items with more in front
abbrev pub fixed_with : (Trace → Trace) → Option Fixed → Option Fixed
fixed_with f None = None
fixed_with f (Some r) = Some (record r { items = f r.items })

-- a repair, and then another
abbrev pub and_fix : Option Fixed → (Fixed → Option Fixed) → Option Fixed
and_fix None f = None
and_fix (Some a) f = f a

-- a repair, and then a run
abbrev pub and_run : Option Fixed → (Fixed → Option Ran) → Option Ran
and_run None f = None
and_run (Some a) f = f a

-- a run, and then another
abbrev pub and_ran : Option Ran → (Ran → Option Ran) → Option Ran
and_ran None f = None
and_ran (Some a) f = f a

-- what a stale read's unit leaves over is revoked
abbrev pub kept_items : Option Ran → Option Fixed
kept_items None = None
kept_items (Some r) = Some (record { state = r.state; items = r.items })

abbrev pub mend_if : Code → Runner → State → Place → UnitId → ℕ → List Word → Trace → Option Fixed → Bool → Option Fixed
mend_if code again s p u v args inside kept true = kept
mend_if code again s p u v args inside kept false = kept_items (again s (resumed code u v args (s.store p)) inside)

-- the repair of items, item by item
abbrev pub fix_by : Code → Runner → State → Trace → Option Fixed
fix_by code again s Nothing = Some (record { state = s; items = Nothing })
fix_by code again s (Stepped rest) = fixed_with Stepped (fix_by code again s rest)
fix_by code again s (Allocated b key rest) = fixed_with (Allocated b key) (fix_by code again (clears code s b key) rest)
fix_by code again s (Wrote p value rest) = fixed_with (Wrote p value) (fix_by code again (puts s p value) rest)
fix_by code again s (WasRead p value u v args inside rest) =
    let kept = fix_by code again s inside in
    and_fix (mend_if code again s p u v args inside kept (same_word (s.store p) value))
    (λ a. fixed_with (WasRead p (s.store p) u v args a.items) (fix_by code again a.state rest))

-- the repair of what is inside a read that is taken
abbrev pub mend_by : Code → Runner → State → Place → UnitId → ℕ → List Word → Word → Trace → Option Fixed
mend_by code again s p u v args value inside =
    let kept = fix_by code again s inside in
    mend_if code again s p u v args inside kept (same_word (s.store p) value)

-- an allocation: the old block is taken where there is one with its key, and else a new one is made
abbrev pub make_by : Code → (ℕ → ℕ) → Runner → State → Trace → Key → ℕ → ℕ → ℕ → Variables → Stack
    → Option TakenAlloc → Option Ran
make_by code names again s old key v u i env below (Some t) =
    ran_with (λ l. Stepped (Allocated t.block key l))
    (again (clears code (works s) t.block key) (Run u i (set env v (pointer key t.block)) below) t.leftover)
make_by code names again s old key v u i env below None =
    ran_with (λ l. Stepped (Allocated (Core (names s.number)) key l))
    (again (grows code names (works s) key) (Run u i (set env v (pointer key (Core (names s.number)))) below) old)

-- a read: an old one is taken where there is one with its key, and else its unit runs
abbrev pub read_by : Code → Runner → State → Trace → Place → UnitId → ℕ → List Word → Stack → Option TakenRead
    → Option Ran
read_by code again s old p u v args below (Some r) =
    and_run (mend_by code again (works s) p u v args r.value r.inside)
    (λ a. ran_with (λ l. Stepped (WasRead p (s.store p) u v args a.items l)) (again a.state below r.leftover))
read_by code again s old p u v args below None =
    and_ran (again (works s) (resumed code u v args (s.store p)) old)
    (λ a. ran_with (λ l. Stepped (WasRead p (s.store p) u v args a.items l)) (again a.state below a.left))

-- what a next step does
abbrev pub perform : Code → (ℕ → ℕ) → Runner → State → Trace → Act → Option Ran
perform code names again s old Over = Some (record { state = s; items = Nothing; left = old })
perform code names again s old (Quiet after) = ran_with Stepped (again (works s) after old)
perform code names again s old (Makes key v u i env below) =
    make_by code names again s old key v u i env below (take_alloc key old)
perform code names again s old (Writes p value after) =
    ran_with (λ l. Stepped (Wrote p value l)) (again (puts (works s) p value) after old)
perform code names again s old (Reads p u v args below) =
    read_by code again s old p u v args below (take_read p u v args old)

-- a stack is re-executed with a leftover, at most so deep
unfoldable pub rerun : Code → (ℕ → ℕ) → ℕ → Runner
rerun code names zero s st old = None
rerun code names (suc depth) s st old = perform code names (rerun code names depth) s old (next code s.plain st)

-- what a repair comes to: its items, and its work
pub record Repaired : Type 0 where
  pub items : Trace
  pub work : ℕ

-- a repair, where its steps are n at most
abbrev pub fixed_within : ℕ → Option Fixed → Option Repaired
fixed_within n None = None
fixed_within n (Some f) = if nat_le f.state.work n then Some (record { items = f.items; work = f.state.work }) else None

-- the repair of the items on these inputs with new blocks from a number on, where its work is at most n
unfoldable pub adjusted : Code → List Block → ℕ → ℕ → Trace → Option Repaired
adjusted code inputs number n old =
    fixed_within n (fix_by code (rerun code own (n + 1)) (begins code inputs (plain_of code inputs old) number) old)

-- a run, where its steps are n at most
abbrev pub ran_within : ℕ → Option Ran → Option Repaired
ran_within n None = None
ran_within n (Some r) = if nat_le r.state.work n then Some (record { items = r.items; work = r.state.work }) else None

-- the first trace of the call, where it has at most n steps
unfoldable pub first_of : Code → List Block → ℕ → ℕ → List Word → Option Repaired
first_of code inputs n f args =
    ran_within n (rerun code own (n + 1) (begins code inputs (input_plain code inputs) 0) (started code f args) Nothing)
