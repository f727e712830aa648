-- The repair of a trace, as rules.
use Rattle.std.specs.Prelude.{◌≡◌, ℕ, ◌+◌, Some, None, List}
use Rattle.ceal_base.specs.Block.{Block}
use Rattle.ceal_base.specs.Trace.{Trace, Nothing, Stepped, Allocated, Wrote, WasRead}
use Rattle.ceal_base.specs.declared.forest.Key.{Key}
use Rattle.ceal_base.specs.declared.forest.UnitId.{UnitId}
use Rattle.ceal_base.specs.declared.word.BlockId.{BlockId}
use Rattle.ceal_base.specs.declared.word.BlockId.TheVariants.{Core}
use Rattle.ceal_base.specs.declared.word.Place.{Place}
use Rattle.ceal_base.specs.declared.word.Word.{Word}
use Rattle.ceal_code.specs.Init.{made, pointer}
use Rattle.ceal_code.specs.Program.{Code}
use Rattle.ceal_code.specs.Replay.{Store, learnt, bases, cleared, stored}
use Rattle.ceal_code.specs.Step.{Stack, Empty, Run, Over, Quiet, Makes, Writes, Reads, entered, words_after_read, next}
use Rattle.ceal_code.specs.Value.{Plain, Variables, set}
use Rattle.ceal_theory.specs.Take.{TakenAlloc, TakenRead, take_alloc, take_read}

-- the one store of a repair, its plain words, which only grow, the number of the next new block, and the work so far
pub record State : Type 0 where
  pub store : Store
  pub plain : Plain
  pub number : ℕ
  pub work : ℕ

-- the state at the beginning: the bases of the inputs, and no work
abbrev pub begins : Code → List Block → Plain → ℕ → State
begins code inputs x number = record { store = bases code inputs; plain = x; number = number; work = 0 }

-- an allocation of a block that has its plain words already
abbrev pub clears : Code → State → BlockId → Key → State
clears code s b key = record s { store = cleared code s.store b key }

-- the state after a write
abbrev pub puts : State → Place → Word → State
puts s p value = record s { store = stored s.store p value }

-- one step that is re-executed
abbrev pub works : State → State
works s = record s { work = s.work + 1 }

-- each number is another name
abbrev pub Single : (ℕ → ℕ) → Type 0
Single names = (j k : ℕ) → names j ≡ names k → j ≡ k

-- each number stands for itself
abbrev pub own : ℕ → ℕ
own n = n

-- with a new block for this key, of the next number as it is called
abbrev pub grows : Code → (ℕ → ℕ) → State → Key → State
grows code names s key = record {
  store = cleared code s.store (Core (names s.number)) key;
  plain = learnt s.plain (Core (names s.number)) (made code s.plain key);
  number = s.number + 1;
  work = s.work;
}

-- the unit of a read by itself, on the value for its variable and on its arguments
abbrev pub resumed : Code → UnitId → ℕ → List Word → Word → Stack
resumed code u v args value = entered code u.0 (words_after_read code u.0 v args value) Empty

-- The new blocks have the names of the numbers from the next one on.
mutual
  -- the items are gone through in order from the one state to the other, and become the second items
  pub data Fix (code : Code) (names : ℕ → ℕ) : State → Trace → State → Trace → Type 0 where
    end : {s : State} → Fix code names s Nothing s Nothing
    step : {s s' : State} {rest rest' : Trace} → Fix code names s rest s' rest'
        → Fix code names s (Stepped rest) s' (Stepped rest')
    alloc : {s s' : State} {b : BlockId} {key : Key} {rest rest' : Trace}
        → Fix code names (clears code s b key) rest s' rest'
        → Fix code names s (Allocated b key rest) s' (Allocated b key rest')
    write : {s s' : State} {p : Place} {value : Word} {rest rest' : Trace}
        → Fix code names (puts s p value) rest s' rest' → Fix code names s (Wrote p value rest) s' (Wrote p value rest')
    read : {s t s' : State} {p : Place} {value : Word} {u : UnitId} {v : ℕ} {args : List Word}
        {inside inside' rest rest' : Trace}
        → Mend code names s p u v args value inside t inside'
        → Fix code names t rest s' rest'
        → Fix code names s (WasRead p value u v args inside rest) s' (WasRead p (s.store p) u v args inside' rest')

  -- One read with this key, its old value and its old items gets these new items. Its new value is the store's; where
  -- that is another one the read is stale, and its unit is re-executed with the old items as leftover, whose
  -- rest is revoked.
  pub data Mend (code : Code) (names : ℕ → ℕ) : State → Place → UnitId → ℕ → List Word → Word → Trace → State
      → Trace → Type 0 where
    kept : {s t : State} {p : Place} {u : UnitId} {v : ℕ} {args : List Word} {value : Word} {inside inside' : Trace}
        → s.store p ≡ value → Fix code names s inside t inside' → Mend code names s p u v args value inside t inside'
    stale : {s t : State} {p : Place} {u : UnitId} {v : ℕ} {args : List Word} {value : Word}
        {inside inside' left : Trace}
        → ¬ (s.store p ≡ value)
        → Reruns code names s (resumed code u v args (s.store p)) inside t inside' left
        → Mend code names s p u v args value inside t inside'

  -- the stack is re-executed with a leftover; it ends in a state, makes items, and leaves a rest of the leftover
  pub data Reruns (code : Code) (names : ℕ → ℕ) : State → Stack → Trace → State → Trace → Trace → Type 0 where
    over : {s : State} {st : Stack} {old : Trace} → next code s.plain st ≡ Over
        → Reruns code names s st old s Nothing old
    quiet : {s s' : State} {st after : Stack} {old new left : Trace}
        → next code s.plain st ≡ Quiet after
        → Reruns code names (works s) after old s' new left
        → Reruns code names s st old s' (Stepped new) left
    takes_alloc : {s s' : State} {st below : Stack} {key : Key} {v u i : ℕ} {env : Variables}
        {old new left : Trace} {t : TakenAlloc}
        → next code s.plain st ≡ Makes key v u i env below
        → take_alloc key old ≡ Some t
        → Reruns code names (clears code (works s) t.block key)
        (Run u i (set env v (pointer key t.block)) below) t.leftover s' new left
        → Reruns code names s st old s' (Stepped (Allocated t.block key new)) left
    makes : {s s' : State} {st below : Stack} {key : Key} {v u i : ℕ} {env : Variables} {old new left : Trace}
        → next code s.plain st ≡ Makes key v u i env below
        → take_alloc key old ≡ None
        → Reruns code names (grows code names (works s) key)
        (Run u i (set env v (pointer key (Core (names s.number)))) below) old s' new left
        → Reruns code names s st old s' (Stepped (Allocated (Core (names s.number)) key new)) left
    writes : {s s' : State} {st after : Stack} {p : Place} {value : Word} {old new left : Trace}
        → next code s.plain st ≡ Writes p value after
        → Reruns code names (puts (works s) p value) after old s' new left
        → Reruns code names s st old s' (Stepped (Wrote p value new)) left
    takes_read : {s t s' : State} {st below : Stack} {p : Place} {u : UnitId} {v : ℕ} {args : List Word}
        {old inside' new left : Trace} {r : TakenRead}
        → next code s.plain st ≡ Reads p u v args below
        → take_read p u v args old ≡ Some r
        → Mend code names (works s) p u v args r.value r.inside t inside'
        → Reruns code names t below r.leftover s' new left
        → Reruns code names s st old s' (Stepped (WasRead p (s.store p) u v args inside' new)) left
    reads : {s t s' : State} {st below : Stack} {p : Place} {u : UnitId} {v : ℕ} {args : List Word}
        {old between inside' new left : Trace}
        → next code s.plain st ≡ Reads p u v args below
        → take_read p u v args old ≡ None
        → Reruns code names (works s) (resumed code u v args (s.store p)) old t inside' between
        → Reruns code names t below between s' new left
        → Reruns code names s st old s' (Stepped (WasRead p (s.store p) u v args inside' new)) left
