-- The repair as a machine with a stack of what is to follow, which writes flat items.
use Rattle.std.specs.Prelude.{◌≡◌, ◌↔◌, ℕ, Bool, true, false, Option, Some, None, List, [], ◌∷◌, ◌++◌}
use Rattle.ceal_base.specs.Operators.{same_word}
use Rattle.ceal_base.specs.Trace.{Trace, Nothing, Stepped, Allocated, Wrote, WasRead, flat}
use Rattle.ceal_base.specs.declared.forest.Item.{Item}
use Rattle.ceal_base.specs.declared.forest.Item.TheVariants.{Step, Alloc, Write, Read, End}
use Rattle.ceal_base.specs.declared.forest.Key.{Key}
use Rattle.ceal_base.specs.declared.forest.UnitId.{UnitId}
use Rattle.ceal_base.specs.declared.word.BlockId.TheVariants.{Core}
use Rattle.ceal_base.specs.declared.word.Place.{Place}
use Rattle.ceal_base.specs.declared.word.Word.{Word}
use Rattle.ceal_code.specs.Init.{pointer}
use Rattle.ceal_code.specs.Program.{Code}
use Rattle.ceal_code.specs.Step.{Stack, Run, Act, Over, Quiet, Makes, Writes, Reads, next}
use Rattle.ceal_code.specs.Value.{Variables, set}
use Rattle.ceal_theory.specs.Repair.{State, clears, puts, works, grows, resumed, Fix, Reruns}
use Rattle.ceal_theory.specs.Take.{TakenAlloc, TakenRead, take_alloc, take_read}

-- what is done now: items are gone through, or a stack runs with old items left over
pub data Mode : Type 0 where
  Fixing : (todo : Trace) → Mode
  Running : (st : Stack) (old : Trace) → Mode

-- what follows the end of a read: items to go through, a stack with other old items, or a stack with what is left over
pub data Frames : Type 0 where
  Bottom : Frames
  AfterFix : (rest : Trace) (outer : Frames) → Frames
  AfterMend : (below : Stack) (old : Trace) (outer : Frames) → Frames
  AfterRun : (below : Stack) (outer : Frames) → Frames

-- the machine of a repair: a state, a mode, and the reads that are open
pub record Machine : Type 0 where
  pub state : State
  pub mode : Mode
  pub frames : Frames

-- the machine has ended, or it writes items and continues
pub data Move : Type 0 where
  Ended : Move
  Went : (written : List Item) (machine : Machine) → Move

-- a move that writes these items, and the machine after it
abbrev pub writing_move : List Item → State → Mode → Frames → Move
writing_move written s mode frames = Went written (record { state = s; mode = mode; frames = frames })

-- a part is over, with this left over
abbrev pub closing_move : State → Trace → Frames → Move
closing_move s left Bottom = Ended
closing_move s left (AfterFix rest outer) = writing_move (End ∷ []) s (Fixing rest) outer
closing_move s left (AfterMend below old outer) = writing_move (End ∷ []) s (Running below old) outer
closing_move s left (AfterRun below outer) = writing_move (End ∷ []) s (Running below left) outer

-- a read with old items inside: they are gone through where its value is the store's, else the unit runs
abbrev pub mode_inside : Code → Bool → UnitId → ℕ → List Word → Word → Trace → Mode
mode_inside code true u v args now inside = Fixing inside
mode_inside code false u v args now inside = Running (resumed code u v args now) inside

-- a move while old items are repaired
abbrev pub fix_move : Code → State → Frames → Trace → Move
fix_move code s fs Nothing = closing_move s Nothing fs
fix_move code s fs (Stepped rest) = writing_move (Step ∷ []) s (Fixing rest) fs
fix_move code s fs (Allocated b key rest) = writing_move (Alloc b key ∷ []) (clears code s b key) (Fixing rest) fs
fix_move code s fs (Wrote p value rest) = writing_move (Write p value ∷ []) (puts s p value) (Fixing rest) fs
fix_move code s fs (WasRead p value u v args inside rest) =
    writing_move (Read p (s.store p) u v args ∷ []) s
    (mode_inside code (same_word (s.store p) value) u v args (s.store p) inside) (AfterFix rest fs)

-- a move that allocates
abbrev pub alloc_move : Code → (ℕ → ℕ) → State → Frames → Key → ℕ → ℕ → ℕ → Variables → Stack → Trace
    → Option TakenAlloc → Move
alloc_move code names s fs key v u i env below old (Some t) =
    writing_move (Step ∷ Alloc t.block key ∷ []) (clears code (works s) t.block key)
    (Running (Run u i (set env v (pointer key t.block)) below) t.leftover) fs
alloc_move code names s fs key v u i env below old None =
    writing_move (Step ∷ Alloc (Core (names s.number)) key ∷ []) (grows code names (works s) key)
    (Running (Run u i (set env v (pointer key (Core (names s.number)))) below) old) fs

-- a move that reads
abbrev pub read_move : Code → State → Frames → Place → UnitId → ℕ → List Word → Stack → Trace → Option TakenRead → Move
read_move code s fs p u v args below old (Some r) =
    writing_move (Step ∷ Read p (s.store p) u v args ∷ []) (works s)
    (mode_inside code (same_word (s.store p) r.value) u v args (s.store p) r.inside) (AfterMend below r.leftover fs)
read_move code s fs p u v args below old None =
    writing_move (Step ∷ Read p (s.store p) u v args ∷ []) (works s)
    (Running (resumed code u v args (s.store p)) old) (AfterRun below fs)

-- a move of a run, by its next step
abbrev pub act_move : Code → (ℕ → ℕ) → State → Frames → Trace → Act → Move
act_move code names s fs old Over = closing_move s old fs
act_move code names s fs old (Quiet after) = writing_move (Step ∷ []) (works s) (Running after old) fs
act_move code names s fs old (Makes key v u i env below) =
    alloc_move code names s fs key v u i env below old (take_alloc key old)
act_move code names s fs old (Writes p value after) =
    writing_move (Step ∷ Write p value ∷ []) (puts (works s) p value) (Running after old) fs
act_move code names s fs old (Reads p u v args below) =
    read_move code s fs p u v args below old (take_read p u v args old)

-- a move, by the mode
abbrev pub mode_move : Code → (ℕ → ℕ) → State → Frames → Mode → Move
mode_move code names s fs (Fixing todo) = fix_move code s fs todo
mode_move code names s fs (Running st old) = act_move code names s fs old (next code s.plain st)

-- one move of the machine
unfoldable pub next_move : Code → (ℕ → ℕ) → Machine → Move
next_move code names m = mode_move code names m.state m.frames m.mode

-- what the frames give after a part has ended in a state with old items left over
pub data Resumes (code : Code) (names : ℕ → ℕ) : State → Trace → Frames → State → List Item → Type 0 where
  bottom : {s : State} {left : Trace} → Resumes code names s left Bottom s []
  after_fix : {s t s' : State} {left rest rest' : Trace} {outer : Frames} {out : List Item}
      → Fix code names s rest t rest' → Resumes code names t Nothing outer s' out
      → Resumes code names s left (AfterFix rest outer) s' (End ∷ (flat rest' ++ out))
  after_mend : {s t s' : State} {left old new left' : Trace} {below : Stack} {outer : Frames} {out : List Item}
      → Reruns code names s below old t new left' → Resumes code names t left' outer s' out
      → Resumes code names s left (AfterMend below old outer) s' (End ∷ (flat new ++ out))
  after_run : {s t s' : State} {left new left' : Trace} {below : Stack} {outer : Frames} {out : List Item}
      → Reruns code names s below left t new left' → Resumes code names t left' outer s' out
      → Resumes code names s left (AfterRun below outer) s' (End ∷ (flat new ++ out))

-- the machine ends in this state, and writes these items until then
pub data Finishes (code : Code) (names : ℕ → ℕ) : Machine → State → List Item → Type 0 where
  fixes : {s t s' : State} {todo new : Trace} {fs : Frames} {out : List Item}
      → Fix code names s todo t new → Resumes code names t Nothing fs s' out
      → Finishes code names (record { state = s; mode = Fixing todo; frames = fs }) s' (flat new ++ out)
  runs : {s t s' : State} {st : Stack} {old new left : Trace} {fs : Frames} {out : List Item}
      → Reruns code names s st old t new left → Resumes code names t left fs s' out
      → Finishes code names (record { state = s; mode = Running st old; frames = fs }) s' (flat new ++ out)

-- what is left to write of these items, after some of them
pub record Goes (code : Code) (names : ℕ → ℕ) (m : Machine) (s' : State) (written out : List Item) : Type 0 where
  pub rest : List Item
  pub same : out ≡ written ++ rest
  pub finishes : Finishes code names m s' rest

-- the one machine becomes the other, and has written these items: each finishes where the other does
pub record BecomesBy (code : Code) (names : ℕ → ℕ) (m m' : Machine) (written : List Item) : Type 0 where
  pub back : (s' : State) (rest : List Item) → Finishes code names m' s' rest
      → Finishes code names m s' (written ++ rest)
  pub ahead : (s' : State) (items : List Item) → Finishes code names m s' items → Goes code names m' s' written items

-- what a machine finishes with where its move is its last
pub record Ends (code : Code) (names : ℕ → ℕ) (m : Machine) : Type 0 where
  pub back : Finishes code names m m.state []
  pub ahead : (s' : State) (items : List Item) → Finishes code names m s' items → items ≡ []

-- the move is one by the rules
abbrev pub IsMove : Code → (ℕ → ℕ) → Machine → Move → Type 0
IsMove code names m Ended = Ends code names m
IsMove code names m (Went written m') = BecomesBy code names m m' written

-- The machine: one move, moves after one another, the machine of a repair and that of a first trace.
pub record MachineLaws (code : Code) (names : ℕ → ℕ) : Type 0 where
  pub moves : (m : Machine) → IsMove code names m (next_move code names m)
  pub stays : (m : Machine) → BecomesBy code names m m []
  pub leads : (m m' m'' : Machine) (is js : List Item) → BecomesBy code names m m' is → BecomesBy code names m' m'' js
      → BecomesBy code names m m'' (is ++ js)
  pub fixes : (s s' : State) (l : Trace) (items : List Item)
      → Finishes code names (record { state = s; mode = Fixing l; frames = Bottom }) s' items
      ↔ ((m : Trace) × (items ≡ flat m) × Fix code names s l s' m)
  pub runs : (s s' : State) (st : Stack) (l : Trace) (items : List Item)
      → Finishes code names (record { state = s; mode = Running st l; frames = Bottom }) s' items
      ↔ ((m left : Trace) × (items ≡ flat m) × Reruns code names s st l s' m left)
  -- steps in front of what is left over do not matter
  pub bare : (s : State) (st : Stack) (l : Trace) (fs : Frames)
      → BecomesBy code names (record { state = s; mode = Running st (Stepped l); frames = fs })
      (record { state = s; mode = Running st l; frames = fs }) []
  pub bare_after : (s : State) (mode : Mode) (below : Stack) (l : Trace) (fs : Frames)
      → BecomesBy code names (record { state = s; mode = mode; frames = AfterMend below (Stepped l) fs })
      (record { state = s; mode = mode; frames = AfterMend below l fs }) []

abbrev pub MachineLaw : Type 0
MachineLaw = (code : Code) (names : ℕ → ℕ) → MachineLaws code names
