-- The course of a turn over nodes: what an engine does to its nodes is what the machine of repair does in its
-- moves, but for steps that are between the items of what is left over, which do not matter and may be
-- dropped.
use Rattle.std.specs.Prelude.{◌≡◌, ℕ, suc, ◌≤◌, ◌<◌, true, false, Some, None, List, [], ◌∷◌, ◌++◌, length}
use Rattle.ceal_base.specs.Block.{Block}
use Rattle.ceal_base.specs.Operators.{same_word}
use Rattle.ceal_base.specs.Trace.{Trace, flat, steps_in}
use Rattle.ceal_base.specs.declared.forest.Item.{Item}
use Rattle.ceal_base.specs.declared.forest.Item.TheVariants.{Step, Alloc, Write, Read, End}
use Rattle.ceal_base.specs.declared.forest.Key.{Key}
use Rattle.ceal_base.specs.declared.forest.UnitId.{UnitId}
use Rattle.ceal_base.specs.declared.word.BlockId.{BlockId}
use Rattle.ceal_base.specs.declared.word.BlockId.TheVariants.{Core}
use Rattle.ceal_base.specs.declared.word.Place.{Place}
use Rattle.ceal_base.specs.declared.word.Word.{Word}
use Rattle.ceal_code.specs.Fitting.{Fits}
use Rattle.ceal_code.specs.Init.{pointer}
use Rattle.ceal_code.specs.Program.{Code}
use Rattle.ceal_code.specs.Step.{Stack, Run, Over, Quiet, Makes, Writes, Reads, next}
use Rattle.ceal_code.specs.Value.{Variables, set}
use Rattle.ceal_theory.specs.Cover.{known_after}
use Rattle.ceal_theory.specs.Groves.{Knot, Grove, stepped, trace_in, knot, knots, bare, ticks, items_in, Closes}
use Rattle.ceal_theory.specs.Known.{Knows}
use Rattle.ceal_theory.specs.Levels.{first, around, levels}
use Rattle.ceal_theory.specs.Repair.{State, clears, puts, works, grows, resumed}
use Rattle.ceal_theory.specs.SliceLaws.{unit_alone}
use Rattle.ceal_theory.specs.Slices.{Repair, starting, repair_at, Slices, sliced, RepairHolds}
use Rattle.ceal_theory.specs.Take.{TakenAlloc, TakenRead, take_alloc, take_read}
use Rattle.ceal_theory.specs.Moves.{Mode, Fixing, Running, Frames, Bottom, AfterFix, AfterMend, AfterRun, Machine}
use Rattle.ceal_theory.specs.Moves.{Ended, next_move, Finishes, BecomesBy}
use Rattle.ceal_theory.specs.Walk.{with_store, store_after, AgreesAll}

-- what waits for the end of a read: kept items around it, a stack with the old items after it, or a stack
-- with those that are left over then
pub data Wait : Type 0 where
  Fixes : Wait
  Takes : (below : Stack) → Wait
  Begins : (below : Stack) → Wait

-- what waits, where these levels of old items are around those of now
abbrev pub frames_at : List Wait → List Trace → Frames
frames_at [] ts = Bottom
frames_at (Fixes ∷ ws) ts = AfterFix (first ts) (frames_at ws (around ts))
frames_at (Takes below ∷ ws) ts = AfterMend below (first ts) (frames_at ws (around ts))
frames_at (Begins below ∷ ws) ts = AfterRun below (frames_at ws ts)

-- items are gone through, with these after it
abbrev pub fixing_at : State → List Wait → List Item → Machine
fixing_at s ws is = record { state = s; mode = Fixing (first (levels is)); frames = frames_at ws (around (levels is)) }

-- a stack runs, with these after it
abbrev pub running_at : State → Stack → List Wait → List Item → Machine
running_at s st ws is =
    record { state = s; mode = Running st (first (levels is)); frames = frames_at ws (around (levels is)) }

-- what waits after items that are kept: their reads wait for their ends
pub data Nested : List Wait → List Item → List Wait → Type 0 where
  none : {ws : List Wait} → Nested ws [] ws
  step : {ws vs : List Wait} {is : List Item} → Nested ws is vs → Nested ws (Step ∷ is) vs
  alloc : {ws vs : List Wait} {b : BlockId} {key : Key} {is : List Item} → Nested ws is vs
      → Nested ws (Alloc b key ∷ is) vs
  write : {ws vs : List Wait} {p : Place} {value : Word} {is : List Item} → Nested ws is vs
      → Nested ws (Write p value ∷ is) vs
  read : {ws vs : List Wait} {p : Place} {value : Word} {u : UnitId} {v : ℕ} {args : List Word} {is : List Item}
      → Nested (Fixes ∷ ws) is vs → Nested ws (Read p value u v args ∷ is) vs
  end : {ws vs : List Wait} {is : List Item} → Nested ws is vs → Nested (Fixes ∷ ws) (End ∷ is) vs

-- the same but for steps between the items of what is left over
pub data BareMode : Mode → Mode → Type 0 where
  fixes : {l : Trace} → BareMode (Fixing l) (Fixing l)
  runs : {st : Stack} {l m : Trace} → bare l ≡ bare m → BareMode (Running st l) (Running st m)

-- frames that are the same but for steps between items of what is left over
pub data BareFrames : Frames → Frames → Type 0 where
  bottom : BareFrames Bottom Bottom
  after_fix : {l : Trace} {fs gs : Frames} → BareFrames fs gs → BareFrames (AfterFix l fs) (AfterFix l gs)
  after_mend : {st : Stack} {l m : Trace} {fs gs : Frames} → bare l ≡ bare m → BareFrames fs gs
      → BareFrames (AfterMend st l fs) (AfterMend st m gs)
  after_run : {st : Stack} {fs gs : Frames} → BareFrames fs gs → BareFrames (AfterRun st fs) (AfterRun st gs)

-- machines that are the same but for such steps
pub record BareSame (m m' : Machine) : Type 0 where
  pub state : m.state ≡ m'.state
  pub mode : BareMode m.mode m'.mode
  pub frames : BareFrames m.frames m'.frames

-- steps between the items of what is left over may be dropped, or put in
abbrev pub BareLaw : Type 0
BareLaw = (code : Code) (names : ℕ → ℕ) (m m' : Machine) → BareSame m m' → BecomesBy code names m m' []

-- What an engine does to its nodes. After the cursor are the nodes of a grove, which are left over, and
-- then the end of the read that is repaired, or nothing.
pub record Moves (code : Code) (names : ℕ → ℕ) : Type 0 where
  -- kept items that agree with the store are passed
  pub passes : {ws vs : List Wait} {is : List Item} → Nested ws is vs → (s : State) → AgreesAll code s.store is
      → (rest : List Item)
      → BecomesBy code names (fixing_at s ws (is ++ rest))
      (fixing_at (with_store s (store_after code s.store is)) vs rest) is
  -- a stale read among them: its unit runs, with what is inside it left over; its steps are dropped
  pub repairs : (s : State) (ws : List Wait) (p : Place) (value : Word) (u : UnitId) (v : ℕ) (args : List Word)
      (stamp n : ℕ) (back : List Knot) → same_word (s.store p) value ≡ false
      → BecomesBy code names (fixing_at s ws (items_in (knot stamp (Read p value u v args) n ∷ back)))
      (running_at s (resumed code u v args (s.store p)) (Fixes ∷ ws) (items_in back)) (Read p (s.store p) u v args ∷ [])
  -- its unit is over: what is left over is revoked, and what is kept continues after its end
  pub repaired : (s : State) (st : Stack) (ws : List Wait) (g : Grove) (e m : ℕ) (rest : List Knot)
      → next code s.plain st ≡ Over
      → BecomesBy code names (running_at s st (Fixes ∷ ws) (items_in (knots g ++ knot e End m ∷ rest)))
      (fixing_at s ws (ticks m ++ items_in rest)) (End ∷ [])
  -- a taken read that was re-executed is over: what is left over is revoked, and what is left over after its end is
  -- used from here on
  pub retaken : (s : State) (st below : Stack) (ws : List Wait) (g : Grove) (e m : ℕ) (rest : List Knot)
      → next code s.plain st ≡ Over
      → BecomesBy code names (running_at s st (Takes below ∷ ws) (items_in (knots g ++ knot e End m ∷ rest)))
      (running_at s below ws (items_in rest)) (End ∷ [])
  -- a taken read that was kept is over
  pub passed : (s : State) (below : Stack) (ws : List Wait) (e m : ℕ) (rest : List Knot)
      → BecomesBy code names (fixing_at s (Takes below ∷ ws) (items_in (knot e End m ∷ rest)))
      (running_at s below ws (items_in rest)) (End ∷ [])
  -- a new read is over: its end is put in
  pub finished : (s : State) (st below : Stack) (ws : List Wait) (is : List Item) → next code s.plain st ≡ Over
      → BecomesBy code names (running_at s st (Begins below ∷ ws) is) (running_at s below ws is) (End ∷ [])
  -- an allocation is taken, and all before it is revoked
  pub alloc_taken : (s : State) (st : Stack) (ws : List Wait) (g : Grove) (tail : List Knot) (key : Key)
      (v u i : ℕ) (env : Variables) (below : Stack) (t : TakenAlloc) (rest : Grove)
      → Closes tail → next code s.plain st ≡ Makes key v u i env below → take_alloc key (trace_in g) ≡ Some t
      → bare t.leftover ≡ bare (trace_in rest)
      → BecomesBy code names (running_at s st ws (items_in (knots g ++ tail)))
      (running_at (clears code (works s) t.block key) (Run u i (set env v (pointer key t.block)) below) ws
      (items_in (knots rest ++ tail)))
      (Step ∷ Alloc t.block key ∷ [])
  -- a block is made, with the name of its number
  pub alloc_made : (s : State) (st : Stack) (ws : List Wait) (g : Grove) (tail : List Knot) (key : Key)
      (v u i : ℕ) (env : Variables) (below : Stack) (b : ℕ)
      → names s.number ≡ b → Closes tail → next code s.plain st ≡ Makes key v u i env below
      → take_alloc key (trace_in g) ≡ None
      → BecomesBy code names (running_at s st ws (items_in (knots g ++ tail)))
      (running_at (grows code (λ k. b) (works s) key) (Run u i (set env v (pointer key (Core b))) below) ws
      (items_in (knots g ++ tail)))
      (Step ∷ Alloc (Core b) key ∷ [])
  -- a write, and a step that is neither
  pub write_put : (s : State) (st after : Stack) (ws : List Wait) (is : List Item) (p : Place) (value : Word)
      → next code s.plain st ≡ Writes p value after
      → BecomesBy code names (running_at s st ws is) (running_at (puts (works s) p value) after ws is)
      (Step ∷ Write p value ∷ [])
  pub step_done : (s : State) (st after : Stack) (ws : List Wait) (is : List Item) → next code s.plain st ≡ Quiet after
      → BecomesBy code names (running_at s st ws is) (running_at (works s) after ws is) (Step ∷ [])
  -- a new read begins, and shares what is left over
  pub read_begun : (s : State) (st below : Stack) (ws : List Wait) (g : Grove) (tail : List Knot) (p : Place)
      (u : UnitId) (v : ℕ) (args : List Word) → Closes tail
      → next code s.plain st ≡ Reads p u v args below → take_read p u v args (trace_in g) ≡ None
      → BecomesBy code names (running_at s st ws (items_in (knots g ++ tail)))
      (running_at (works s) (resumed code u v args (s.store p)) (Begins below ∷ ws) (items_in (knots g ++ tail)))
      (Step ∷ Read p (s.store p) u v args ∷ [])
  -- a read is taken, and all before it is revoked: it is honest, and what is inside it is gone through
  pub read_taken : (s : State) (st below : Stack) (ws : List Wait) (g inside rest : Grove) (e m n : ℕ)
      (tail : List Knot) (p : Place) (u : UnitId) (v : ℕ) (args : List Word) (t : TakenRead)
      → Closes tail → next code s.plain st ≡ Reads p u v args below → take_read p u v args (trace_in g) ≡ Some t
      → t.inside ≡ stepped n (trace_in inside) → bare t.leftover ≡ bare (trace_in rest)
      → same_word (s.store p) t.value ≡ true
      → BecomesBy code names (running_at s st ws (items_in (knots g ++ tail)))
      (fixing_at (works s) (Takes below ∷ ws)
      (ticks n ++ items_in (knots inside ++ knot e End m ∷ (knots rest ++ tail))))
      (Step ∷ Read p (s.store p) u v args ∷ [])
  -- or it is stale, and its unit runs with what was inside it
  pub read_retaken : (s : State) (st below : Stack) (ws : List Wait) (g inside rest : Grove) (e m n : ℕ)
      (tail : List Knot) (p : Place) (u : UnitId) (v : ℕ) (args : List Word) (t : TakenRead)
      → Closes tail → next code s.plain st ≡ Reads p u v args below → take_read p u v args (trace_in g) ≡ Some t
      → t.inside ≡ stepped n (trace_in inside) → bare t.leftover ≡ bare (trace_in rest)
      → same_word (s.store p) t.value ≡ false
      → BecomesBy code names (running_at s st ws (items_in (knots g ++ tail)))
      (running_at (works s) (resumed code u v args (s.store p)) (Takes below ∷ ws)
      (items_in (knots inside ++ knot e End m ∷ (knots rest ++ tail))))
      (Step ∷ Read p (s.store p) u v args ∷ [])

abbrev pub MovesLaw : Type 0
MovesLaw = (code : Code) (names : ℕ → ℕ) → Moves code names

-- whatever a machine finishes with has at least the work of each machine that it comes to, and the steps that
-- it has written by then
abbrev pub WorkLaw : Type 0
WorkLaw = (code : Code) (names : ℕ → ℕ) (start m : Machine) (out : List Item) → BecomesBy code names start m out
    → (t : State) (items : List Item) → Finishes code names start t items
    → (m.state.work ≤ t.work) × (steps_in out ≤ steps_in items)

-- A turn that has ended is a slice of one read; one whose work is more than n by now has no slice of
-- n steps spent.
pub record TurnCourse
    (code : Code) (names : ℕ → ℕ) (inputs : List Block) (r : Repair) (front : List Item)
    (p : Place) (u : UnitId) (v : ℕ) (args : List Word) (inside : Trace) (back : List Item)
    (m : Machine) (out : List Item) : Type 0 where
  pub ended : next_move code names m ≡ Ended
      → (l : Trace) × Slices code names inputs (Some 1) r (repair_at m.state l)
      × (flat l ≡ front ++ Read p (store_after code (starting code inputs r.known) front p) u v args
      ∷ (out ++ End ∷ back))
  pub over : (n : ℕ) → n < m.state.work
      → (sliced code names inputs None n r ≡ None) × ((k : ℕ) → sliced code names inputs (Some (suc k)) n r ≡ None)

abbrev pub TurnCourseLaw : Type 0
TurnCourseLaw =
    (code : Code) (names : ℕ → ℕ) (inputs : List Block) (r : Repair) (front : List Item) (p : Place)
    (value : Word) (u : UnitId) (v : ℕ) (args : List Word) (inside : Trace) (back : List Item)
    → flat r.items ≡ front ++ Read p value u v args ∷ (flat inside ++ End ∷ back)
    → AgreesAll code (starting code inputs r.known) front
    → ¬ (store_after code (starting code inputs r.known) front p ≡ value)
    → (m : Machine) (out : List Item)
    → BecomesBy code names (unit_alone code inputs r front p u v args inside) m out
    → TurnCourse code names inputs r front p u v args inside back m out

-- what the machine of a turn knows at its beginning: the blocks that the items before the read allocate, and
-- of old ones those that the repair knows
abbrev pub TurnKnownLaw : Type 0
TurnKnownLaw =
    (code : Code) (names : ℕ → ℕ) (inputs : List Block) (f : ℕ) (ws : List Word) → Fits code inputs f ws
    → (r : Repair) → (h : RepairHolds code names inputs f ws r)
    → (front : List Item) (p : Place) (value : Word) (u : UnitId) (v : ℕ) (args : List Word) (after : List Item)
    → flat r.items ≡ front ++ Read p value u v args ∷ after
    → AgreesAll code (starting code inputs r.known) front
    → ¬ (store_after code (starting code inputs r.known) front p ≡ value)
    → (inside : Trace) (back : List Item) → after ≡ flat inside ++ End ∷ back
    → Knows code (length inputs) h.blocks (known_after [] front) (unit_alone code inputs r front p u v args inside)
