-- The machine of repair over the flat list of old items: a place in it, how many of its levels are left over, and what
-- follows. No trees are left in it.
use Rattle.std.specs.Prelude.{◌≡◌, ℕ, suc, Option, Some, None, List, [], ◌∷◌, ◌++◌}
use Rattle.ceal_base.specs.Trace.{Trace, flat}
use Rattle.ceal_base.specs.declared.forest.Item.{Item}
use Rattle.ceal_base.specs.declared.forest.Item.TheVariants.{Step, Alloc, Write, Read, End}
use Rattle.ceal_base.specs.declared.forest.Key.{Key}
use Rattle.ceal_base.specs.declared.forest.UnitId.{UnitId}
use Rattle.ceal_base.specs.declared.word.BlockId.TheVariants.{Core}
use Rattle.ceal_base.specs.declared.word.Place.{Place}
use Rattle.ceal_base.specs.declared.word.Word.{Word}
use Rattle.ceal_code.specs.Init.{pointer}
use Rattle.ceal_code.specs.Program.{Code}
use Rattle.ceal_code.specs.Step.{Stack, Run, Over, Quiet, Makes, Writes, Reads, next}
use Rattle.ceal_code.specs.Value.{Variables, set}
use Rattle.ceal_theory.specs.Levels.{first, around, levels, loose, beyond, skipped, FoundAlloc, find_alloc, FoundRead}
use Rattle.ceal_theory.specs.Levels.{find_read}
use Rattle.ceal_theory.specs.Repair.{State, clears, puts, works, grows, resumed}
use Rattle.ceal_theory.specs.Moves.{Machine, Fixing, Running, Frames, Bottom, AfterFix, AfterMend, AfterRun, Ended}
use Rattle.ceal_theory.specs.Moves.{next_move, BecomesBy}
use Rattle.ceal_theory.specs.Walk.{store_after, AgreesAll, with_store}

-- items are walked, or a stack runs with `levels` levels left over
pub data FlatMode : Type 0 where
  GoesThrough : FlatMode
  Runs : (st : Stack) (levels : ℕ) → FlatMode

-- what follows the End of a read: the items are walked, a stack runs with other levels left over, or with
-- those that are left over then
pub data FlatFrame : Type 0 where
  Fixes : FlatFrame
  Mends : (below : Stack) (levels : ℕ) → FlatFrame
  GoesOn : (below : Stack) → FlatFrame

-- frames by their flat forms and what is left over around them
abbrev pub frames_of : List FlatFrame → List Trace → Frames
frames_of [] ts = Bottom
frames_of (Fixes ∷ fs) ts = AfterFix (first ts) (frames_of fs (around ts))
frames_of (Mends below n ∷ fs) ts = AfterMend below (loose n ts) (frames_of fs (beyond n ts))
frames_of (GoesOn below ∷ fs) ts = AfterRun below (frames_of fs ts)

-- the machine at the first of these items
abbrev pub flat_machine : State → FlatMode → List FlatFrame → List Item → Machine
flat_machine s GoesThrough fs is =
    record { state = s; mode = Fixing (first (levels is)); frames = frames_of fs (around (levels is)) }
flat_machine s (Runs st n) fs is =
    record { state = s; mode = Running st (loose n (levels is)); frames = frames_of fs (beyond n (levels is)) }

-- the frames after an item that stays as it is
abbrev pub passes : Item → List FlatFrame → Option (List FlatFrame)
passes (Read p value u v args) fs = Some (Fixes ∷ fs)
passes End (Fixes ∷ fs) = Some fs
passes End (Mends below n ∷ fs) = None
passes End (GoesOn below ∷ fs) = None
passes End [] = None
passes Step fs = Some fs
passes (Alloc b key) fs = Some fs
passes (Write p value) fs = Some fs

-- what follows, where the frames are there
abbrev pub then_passes : Option (List FlatFrame) → (List FlatFrame → Option (List FlatFrame)) → Option (List FlatFrame)
then_passes None f = None
then_passes (Some fs) f = f fs

-- the frames after items have been passed
abbrev pub passes_all : List Item → List FlatFrame → Option (List FlatFrame)
passes_all [] fs = Some fs
passes_all (i ∷ is) fs = then_passes (passes i fs) (passes_all is)

pub record FlatLaws (code : Code) (names : ℕ → ℕ) : Type 0 where
  -- at the beginning
  pub begins : (s : State) (l : Trace)
      → flat_machine s GoesThrough [] (flat l) ≡ record { state = s; mode = Fixing l; frames = Bottom }
  -- items that agree with the store stay, at once up to any place
  pub stays : (s : State) (fs fs' : List FlatFrame) (front back : List Item) → AgreesAll code s.store front
      → passes_all front fs ≡ Some fs'
      → BecomesBy code names (flat_machine s GoesThrough fs (front ++ back))
      (flat_machine (with_store s (store_after code s.store front)) GoesThrough fs' back) front
  -- a read that does not agree
  pub stale : (s : State) (fs : List FlatFrame) (p : Place) (value : Word) (u : UnitId) (v : ℕ)
      (args : List Word) (is : List Item) → ¬ (s.store p ≡ value)
      → BecomesBy code names (flat_machine s GoesThrough fs (Read p value u v args ∷ is))
      (flat_machine s (Runs (resumed code u v args (s.store p)) 1) (Fixes ∷ fs) is) (Read p (s.store p) u v args ∷ [])
  -- the End of a taken read
  pub mended : (s : State) (fs : List FlatFrame) (below : Stack) (n : ℕ) (is : List Item)
      → BecomesBy code names (flat_machine s GoesThrough (Mends below n ∷ fs) (End ∷ is))
      (flat_machine s (Runs below n) fs is) (End ∷ [])
  pub last : (s : State) → next_move code names (flat_machine s GoesThrough [] []) ≡ Ended
  -- a stack that is over: what it leaves over is revoked, or continues to what follows
  pub over_fixes : (s : State) (fs : List FlatFrame) (st : Stack) (n : ℕ) (is : List Item) → next code s.plain st ≡ Over
      → BecomesBy code names (flat_machine s (Runs st n) (Fixes ∷ fs) is)
      (flat_machine s GoesThrough fs (skipped n is)) (End ∷ [])
  pub over_mends : (s : State) (fs : List FlatFrame) (st below : Stack) (n m : ℕ) (is : List Item)
      → next code s.plain st ≡ Over
      → BecomesBy code names (flat_machine s (Runs st n) (Mends below m ∷ fs) is)
      (flat_machine s (Runs below m) fs (skipped n is)) (End ∷ [])
  pub over_goes_on : (s : State) (fs : List FlatFrame) (st below : Stack) (n : ℕ) (is : List Item)
      → next code s.plain st ≡ Over
      → BecomesBy code names (flat_machine s (Runs st n) (GoesOn below ∷ fs) is)
      (flat_machine s (Runs below n) fs is) (End ∷ [])
  pub over_last : (s : State) (st : Stack) (n : ℕ) (is : List Item) → next code s.plain st ≡ Over
      → next_move code names (flat_machine s (Runs st n) [] is) ≡ Ended
  -- a stack that runs
  pub quiet : (s : State) (fs : List FlatFrame) (st after : Stack) (n : ℕ) (is : List Item)
      → next code s.plain st ≡ Quiet after
      → BecomesBy code names
      (flat_machine s (Runs st n) fs is) (flat_machine (works s) (Runs after n) fs is) (Step ∷ [])
  pub writes : (s : State) (fs : List FlatFrame) (st after : Stack) (p : Place) (value : Word) (n : ℕ)
      (is : List Item) → next code s.plain st ≡ Writes p value after
      → BecomesBy code names (flat_machine s (Runs st n) fs is)
      (flat_machine (puts (works s) p value) (Runs after n) fs is) (Step ∷ Write p value ∷ [])
  pub makes : (s : State) (fs : List FlatFrame) (st below : Stack) (key : Key) (v u i : ℕ) (env : Variables)
      (n : ℕ) (is : List Item) → next code s.plain st ≡ Makes key v u i env below
      → find_alloc key n is ≡ None → (b : ℕ) → names s.number ≡ b
      → BecomesBy code names (flat_machine s (Runs st n) fs is)
      (flat_machine (grows code (λ k. b) (works s) key)
      (Runs (Run u i (set env v (pointer key (Core b))) below) n) fs is)
      (Step ∷ Alloc (Core b) key ∷ [])
  pub takes_alloc : (s : State) (fs : List FlatFrame) (st below : Stack) (key : Key) (v u i : ℕ)
      (env : Variables) (n : ℕ) (is : List Item) → next code s.plain st ≡ Makes key v u i env below
      → (f : FoundAlloc) → find_alloc key n is ≡ Some f
      → BecomesBy code names (flat_machine s (Runs st n) fs is)
      (flat_machine (clears code (works s) f.block key)
      (Runs (Run u i (set env v (pointer key f.block)) below) f.levels) fs f.rest)
      (Step ∷ Alloc f.block key ∷ [])
  pub reads : (s : State) (fs : List FlatFrame) (st below : Stack) (p : Place) (u : UnitId) (v : ℕ)
      (args : List Word) (n : ℕ) (is : List Item) → next code s.plain st ≡ Reads p u v args below
      → find_read p u v args n is ≡ None
      → BecomesBy code names (flat_machine s (Runs st n) fs is)
      (flat_machine (works s) (Runs (resumed code u v args (s.store p)) n) (GoesOn below ∷ fs) is)
      (Step ∷ Read p (s.store p) u v args ∷ [])
  pub takes_read : (s : State) (fs : List FlatFrame) (st below : Stack) (p : Place) (u : UnitId) (v : ℕ)
      (args : List Word) (n : ℕ) (is : List Item) → next code s.plain st ≡ Reads p u v args below
      → (f : FoundRead) → find_read p u v args n is ≡ Some f → s.store p ≡ f.value
      → BecomesBy code names (flat_machine s (Runs st n) fs is)
      (flat_machine (works s) GoesThrough (Mends below f.levels ∷ fs) f.rest) (Step ∷ Read p (s.store p) u v args ∷ [])
  pub takes_stale : (s : State) (fs : List FlatFrame) (st below : Stack) (p : Place) (u : UnitId) (v : ℕ)
      (args : List Word) (n : ℕ) (is : List Item) → next code s.plain st ≡ Reads p u v args below
      → (f : FoundRead) → find_read p u v args n is ≡ Some f → ¬ (s.store p ≡ f.value)
      → BecomesBy code names (flat_machine s (Runs st n) fs is)
      (flat_machine (works s) (Runs (resumed code u v args (s.store p)) 1) (Mends below f.levels ∷ fs) f.rest)
      (Step ∷ Read p (s.store p) u v args ∷ [])
  -- a step in front of what is left over does not matter
  pub bare : (s : State) (fs : List FlatFrame) (st : Stack) (n : ℕ) (is : List Item)
      → BecomesBy code names
      (flat_machine s (Runs st (suc n)) fs (Step ∷ is)) (flat_machine s (Runs st (suc n)) fs is) []

abbrev pub FlatMachineLaw : Type 0
FlatMachineLaw = (code : Code) (names : ℕ → ℕ) → FlatLaws code names
