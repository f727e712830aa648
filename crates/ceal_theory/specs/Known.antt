-- What a machine of repair knows: the blocks of the new items so far and the inputs. The items that it writes
-- mention no other block.
use Rattle.std.specs.Prelude.{◌≡◌, ◌⊎◌, ℕ, Some, None, List, [], ◌∷◌, ◌++◌, length, ⊤}
use Rattle.ceal_base.specs.Block.{Block}
use Rattle.ceal_base.specs.Trace.{Trace, Nothing, Stepped, Allocated, Wrote, WasRead}
use Rattle.ceal_base.specs.declared.forest.Item.{Item}
use Rattle.ceal_base.specs.declared.forest.Item.TheVariants.{Step, Alloc, Write, Read, End}
use Rattle.ceal_base.specs.declared.forest.Key.{Key}
use Rattle.ceal_base.specs.declared.forest.UnitId.{UnitId}
use Rattle.ceal_base.specs.declared.word.BlockId.TheVariants.{Input, Core}
use Rattle.ceal_base.specs.declared.word.Place.{Place}
use Rattle.ceal_base.specs.declared.word.Word.{Word}
use Rattle.ceal_code.specs.Fitting.{Fits}
use Rattle.ceal_code.specs.Init.{made, pointer}
use Rattle.ceal_code.specs.Known.{Holds, KnownStack, KnownAct}
use Rattle.ceal_code.specs.Program.{Code}
use Rattle.ceal_code.specs.Replay.{In, KnownBlock, KnownWord, KnownWords, KnownKey}
use Rattle.ceal_code.specs.Step.{Stack, Run, Act, Over, Quiet, Makes, Writes, Reads, next}
use Rattle.ceal_code.specs.Value.{Plain, Variables, set}
use Rattle.ceal_theory.specs.Chosen.{repair_begins, first_begins}
use Rattle.ceal_theory.specs.FlatMachine.{GoesThrough, FlatFrame, flat_machine, passes_all}
use Rattle.ceal_theory.specs.Laws.{Edited}
use Rattle.ceal_theory.specs.Repair.{State, resumed}
use Rattle.ceal_theory.specs.Moves.{Mode, Fixing, Running, Frames, Bottom, AfterFix, AfterMend, AfterRun, Machine, Went}
use Rattle.ceal_theory.specs.Moves.{next_move}
use Rattle.ceal_theory.specs.Walk.{store_after, AgreesAll, with_store}

-- what a stack yields, by what its next step is
pub data Told (code : Code) (x : Plain) : Act → Trace → Type 0 where
  over : Told code x Over Nothing
  quiet : {after : Stack} {rest : Trace} → Told code x (next code x after) rest
      → Told code x (Quiet after) (Stepped rest)
  makes : {key : Key} {v u i : ℕ} {env : Variables} {below : Stack} {b : ℕ} {rest : Trace}
      → x (Core b) ≡ Some (made code x key)
      → Told code x (next code x (Run u i (set env v (pointer key (Core b))) below)) rest
      → Told code x (Makes key v u i env below) (Stepped (Allocated (Core b) key rest))
  writes : {after : Stack} {p : Place} {value : Word} {rest : Trace} → Told code x (next code x after) rest
      → Told code x (Writes p value after) (Stepped (Wrote p value rest))
  reads : {below : Stack} {p : Place} {u : UnitId} {v : ℕ} {args : List Word} {value : Word} {inside rest : Trace}
      → Told code x (next code x (resumed code u v args value)) inside
      → Told code x (next code x below) rest
      → Told code x (Reads p u v args below) (Stepped (WasRead p value u v args inside rest))

-- old items whose blocks are among these, also where what stood around them is gone
abbrev pub Sure : Code → ℕ → List ℕ → Plain → Trace → Type 0
Sure code n ds x Nothing = ⊤
Sure code n ds x (Stepped rest) = Sure code n ds x rest
Sure code n ds x (Allocated (Core b) key rest) =
    In b ds × KnownKey n ds key × (x (Core b) ≡ Some (made code x key)) × Sure code n ds x rest
Sure code n ds x (Allocated (Input i) key rest) = ⊥
Sure code n ds x (Wrote p value rest) = Sure code n ds x rest
Sure code n ds x (WasRead p value u v args inside rest) =
    KnownWord n ds value × KnownWords n ds args × Told code x (next code x (resumed code u v args value)) inside
    × Sure code n ds x inside × Sure code n ds x rest

-- items that are gone through are those of a stack that is known, or of one whose step was gone through just now
pub data Ready (code : Code) (n : ℕ) (ds : List ℕ) (x : Plain) (bs : List ℕ) : Trace → Type 0 where
  whole : {a : Act} {l : Trace} → KnownAct n bs a → KnownAct n ds a → Told code x a l → Ready code n ds x bs l
  stepped : {a : Act} {l : Trace} → KnownAct n bs a → KnownAct n ds a → Told code x a (Stepped l)
      → Ready code n ds x bs l

abbrev pub KnowsMode : Code → ℕ → List ℕ → Plain → List ℕ → Mode → Type 0
KnowsMode code n ds x bs (Fixing todo) = Ready code n ds x bs todo × Sure code n ds x todo
KnowsMode code n ds x bs (Running st old) = KnownStack n bs st × Sure code n ds x old

abbrev pub KnowsFrames : Code → ℕ → List ℕ → Plain → List ℕ → Frames → Type 0
KnowsFrames code n ds x bs Bottom = ⊤
KnowsFrames code n ds x bs (AfterFix rest outer) =
    Ready code n ds x bs rest × Sure code n ds x rest × KnowsFrames code n ds x bs outer
KnowsFrames code n ds x bs (AfterMend below old outer) =
    KnownStack n bs below × Sure code n ds x old × KnowsFrames code n ds x bs outer
KnowsFrames code n ds x bs (AfterRun below outer) = KnownStack n bs below × KnowsFrames code n ds x bs outer

-- The machine knows n inputs and the core blocks bs; ds are those of the old trace.
pub record Knows (code : Code) (n : ℕ) (ds bs : List ℕ) (m : Machine) : Type 0 where
  pub plain : Holds n bs m.state.plain
  pub old : Holds n ds m.state.plain
  pub store : (p : Place) → KnownWord n bs (m.state.store p)
  pub mode : KnowsMode code n ds m.state.plain bs m.mode
  pub frames : KnowsFrames code n ds m.state.plain bs m.frames

-- each item mentions inputs, and core blocks that are known before it; with these the one list becomes the other
pub data KnownItems (n : ℕ) : List ℕ → List Item → List ℕ → Type 0 where
  none : {bs : List ℕ} → KnownItems n bs [] bs
  step : {bs cs : List ℕ} {is : List Item} → KnownItems n bs is cs → KnownItems n bs (Step ∷ is) cs
  close : {bs cs : List ℕ} {is : List Item} → KnownItems n bs is cs → KnownItems n bs (End ∷ is) cs
  alloc : {bs cs : List ℕ} {b : ℕ} {key : Key} {is : List Item} → KnownKey n bs key
      → KnownItems n (b ∷ bs) is cs → KnownItems n bs (Alloc (Core b) key ∷ is) cs
  write : {bs cs : List ℕ} {p : Place} {value : Word} {is : List Item} → KnownBlock n bs p.block
      → KnownWord n bs value → KnownItems n bs is cs → KnownItems n bs (Write p value ∷ is) cs
  read : {bs cs : List ℕ} {p : Place} {value : Word} {u : UnitId} {v : ℕ} {args : List Word} {is : List Item}
      → KnownBlock n bs p.block → KnownWord n bs value → KnownWords n bs args → KnownItems n bs is cs
      → KnownItems n bs (Read p value u v args ∷ is) cs

-- the machine still knows, and what it writes mentions only known blocks
pub record GoesKnowing (code : Code) (n : ℕ) (ds bs : List ℕ) (written : List Item) (m : Machine) : Type 0 where
  pub known : List ℕ
  pub items : KnownItems n bs written known
  pub knows : Knows code n ds known m

pub record KnowingLaws (code : Code) : Type 0 where
  pub begins : (old new : List Block) (f : ℕ) (args : List Word) (l : Trace) (number : ℕ)
      → (e : Edited code old new f args l number) → Knows code (length new) e.trace.known [] (repair_begins code new l)
  pub first_begins : (inputs : List Block) (f : ℕ) (args : List Word) → Fits code inputs f args
      → Knows code (length inputs) [] [] (first_begins code inputs f args)
  -- one move; a block that is made has a number that no block has
  pub moves : (names : ℕ → ℕ) (n : ℕ) (ds bs : List ℕ) (m m' : Machine) (written : List Item)
      → Knows code n ds bs m → next_move code names m ≡ Went written m'
      → (m'.state.number ≡ m.state.number) ⊎ (m.state.plain (Core (names m.state.number)) ≡ None)
      → GoesKnowing code n ds bs written m'
  -- items that agree with the store, at once
  pub stays : (n : ℕ) (ds bs : List ℕ) (s : State) (fs fs' : List FlatFrame) (front back : List Item)
      → Knows code n ds bs (flat_machine s GoesThrough fs (front ++ back))
      → AgreesAll code s.store front → passes_all front fs ≡ Some fs'
      → GoesKnowing code n ds bs front
      (flat_machine (with_store s (store_after code s.store front)) GoesThrough fs' back)
  -- the place and the arguments of the read that comes next are known
  pub next_read : (n : ℕ) (ds bs : List ℕ) (s : State) (fs : List FlatFrame) (p : Place) (value : Word)
      (u : UnitId) (v : ℕ) (args : List Word) (back : List Item)
      → Knows code n ds bs (flat_machine s GoesThrough fs (Read p value u v args ∷ back))
      → KnownBlock n bs p.block × KnownWords n bs args

abbrev pub KnownLaw : Type 0
KnownLaw = (code : Code) → KnowingLaws code
