-- Steps of the machine as the code keeps it.
use Rattle.std.proofs.Common.{◌≡◌, ℕ, Bool, false, Some, List, [], ◌∷◌, ◌++◌, ◌+◌, drop, reverse, refl, ap, sym, ◌∙◌, Result, Ok, Err, IfOk}
use Rattle.std.proofs.lemmas.List.{reverse-append}
use Rattle.ceal_base.specs.Operators.{same_word}
use Rattle.ceal_base.specs.declared.forest.Item.{Item}
use Rattle.ceal_base.specs.declared.forest.Item.TheVariants.{Step, Alloc, Read}
use Rattle.ceal_base.specs.declared.forest.Key.{Key}
use Rattle.ceal_base.specs.declared.word.BlockId.{BlockId}
use Rattle.ceal_base.specs.declared.word.Word.{Word}
use Rattle.ceal_code.specs.Init.{pointer}
use Rattle.ceal_code.specs.Program.{Code}
use Rattle.ceal_code.specs.Stacks.{stack_in}
use Rattle.ceal_code.specs.Step.{Stack, Empty, Run, Act, Makes, Reads, entered, words_after_read}
use Rattle.ceal_code.specs.Value.{Variables, set}
use Rattle.ceal_code.specs.declared.stack.Closure.{Closure}
use Rattle.ceal_code.specs.declared.stack.Stack.{Stack as CodeStack}
use Rattle.ceal_theory.proofs.Reuse.FlatTake.{loose-one, skipped-levels, take-found, take-found-read, found-beyond, found-beyond-read}
use Rattle.ceal_theory.specs.Levels.{first, around, levels, loose, beyond, FoundAlloc, find_alloc, FoundRead, taken_alloc, taken_read}
use Rattle.ceal_theory.specs.Repair.{State, own, clears, works, resumed}
use Rattle.ceal_theory.specs.Moves.{Frames, Bottom, Running as MachineRunning, Machine, Move, Went, mode_inside, alloc_move, read_move, act_move}
use Rattle.ceal_adjust.specs.Closures.{find_closure}
use Rattle.ceal_adjust.specs.Machines.{code_of, state_in, frames_in, after, left_over, machine_of, machine_in}
use Rattle.ceal_adjust.specs.declared.frame.Frame.{Frame}
use Rattle.ceal_adjust.specs.declared.frame.Frame.TheVariants.{Mend}
use Rattle.ceal_adjust.specs.declared.frame.Mode.TheVariants.{Fixing as IsFixing, Running as IsRunning}
use Rattle.ceal_adjust.specs.declared.frame.Mode.{Mode as CodeMode}
use Rattle.ceal_adjust.specs.declared.repair.Repair.{Repair}

pub frames-push : (fs : List Frame) (f : Frame) → reverse (fs ++ f ∷ []) ≡ f ∷ reverse fs
frames-push fs f = reverse-append fs (f ∷ [])

pub ruleset frame_steps = (frames-push, loose-one, skipped-levels)

-- the stack of a unit that continues after a read, by itself
resumed-in : (code : Code) (stack under : CodeStack) (c : Closure) (now : Word)
    → stack_in stack ≡ entered code c.unit.0 (words_after_read code c.unit.0 c.var c.args now) (stack_in under) → stack_in under ≡ Empty
    → stack_in stack ≡ resumed code c.unit c.var c.args now
resumed-in code stack under c now e l = e ∙ ap (entered code c.unit.0 (words_after_read code c.unit.0 c.var c.args now)) l

-- the machine inside a read whose unit runs
pub open-stale : (code : Code) (s : State) (fs : List Frame) (is : List Item) (stack under : CodeStack) (same : Bool) (c : Closure) (now : Word)
    → same ≡ false → stack_in stack ≡ entered code c.unit.0 (words_after_read code c.unit.0 c.var c.args now) (stack_in under) → stack_in under ≡ Empty
    → machine_of IsRunning s stack 1 fs is
    ≡ record { state = s; mode = mode_inside code same c.unit c.var c.args now (first (levels is)); frames = frames_in (reverse fs) (around (levels is)) }
unfolding machine_of
open-stale code s fs is stack under same c now e l n = rw (e, resumed-in code stack under c now l n, loose-one (levels is)) refl

-- the unit of a read by itself
pub alone-begins : (code now : Code) (s : State) (is after : List Item) (stack under : CodeStack) (c : Closure) (content : Word) → now ≡ code
    → stack_in stack ≡ entered now c.unit.0 (words_after_read now c.unit.0 c.var c.args content) (stack_in under) → stack_in under ≡ Empty → is ≡ after
    → machine_of IsRunning s stack 1 [] is ≡ record { state = s; mode = MachineRunning (resumed code c.unit c.var c.args content) (first (levels after)); frames = Bottom }
unfolding machine_of
alone-begins code now s is after stack under c content k e l n =
    rw (n, resumed-in code stack under c content (e ∙ ap (λ h. entered h c.unit.0 (words_after_read h c.unit.0 c.var c.args content) (stack_in under)) k) l, loose-one (levels after)) refl

-- a block is taken
pub make-taken : (code : Code) (s t : State) (fs : List Frame) (is : List Item) (n : ℕ) (key : Key) (v u i : ℕ) (env : Variables) (below : Stack)
    (f : FoundAlloc) (stack : CodeStack)
    → find_alloc key n is ≡ Some f → stack_in stack ≡ Run u i (set env v (pointer key f.block)) below → t ≡ clears code (works s) f.block key
    → Went (Step ∷ Alloc f.block key ∷ []) (machine_of IsRunning t stack f.levels fs f.rest)
    ≡ alloc_move code own s (frames_in (reverse fs) (beyond n (levels is))) key v u i env below (loose n (levels is)) (taken_alloc (find_alloc key n is))
unfolding machine_of
make-taken code s t fs is n key v u i env below f stack e k a = rw (e, k, a, found-beyond key is n f e) refl

-- a read is taken
pub read-taken : (code : Code) (s t : State) (fs gs : List Frame) (is : List Item) (n : ℕ) (c : Closure)
    (below : CodeStack) (f : FoundRead) (same : Bool) (now : Word) (m : Machine)
    → now ≡ s.store c.place → t ≡ works s → find_closure c n is ≡ Some f → gs ≡ fs ++ Mend below f.levels ∷ [] → same ≡ same_word now f.value
    → m ≡ record { state = t; mode = mode_inside code same c.unit c.var c.args now (first (levels f.rest)); frames = frames_in (reverse gs) (around (levels f.rest)) }
    → Went (Step ∷ Read c.place now c.unit c.var c.args ∷ []) m
    ≡ read_move code s (frames_in (reverse fs) (beyond n (levels is))) c.place c.unit c.var c.args (stack_in below) (loose n (levels is)) (taken_read (find_closure c n is))
read-taken code s t fs gs is n c below f same now m a b e g h k =
    rw (k, e, h, a, b, g, frames-push fs (Mend below f.levels), found-beyond-read c.place c.unit c.var c.args is n f e) refl

-- what is taken is what is found
pub acts-makes : (code : Code) (s : State) (fs : Frames) (is : List Item) (n : ℕ) (key : Key) (v u i : ℕ) (env : Variables) (below : Stack) (t : Move) (a : Act)
    → a ≡ Makes key v u i env below
    → t ≡ alloc_move code own s fs key v u i env below (loose n (levels is)) (taken_alloc (find_alloc key n is)) → t ≡ act_move code own s fs (loose n (levels is)) a
acts-makes code s fs is n key v u i env below t a e k = rw (e, take-found key is n) k

pub acts-reads : (code : Code) (s : State) (fs : Frames) (is : List Item) (n : ℕ) (c : Closure) (below : Stack) (t : Move) (a : Act)
    → a ≡ Reads c.place c.unit c.var c.args below
    → t ≡ read_move code s fs c.place c.unit c.var c.args below (loose n (levels is)) (taken_read (find_closure c n is)) → t ≡ act_move code own s fs (loose n (levels is)) a
acts-reads code s fs is n c below t a e k = rw (e, take-found-read c.place c.unit c.var c.args is n) k

-- the machine, part by part
pub machine-by : (r : Repair) (mode : CodeMode) (s : State) (stack : CodeStack) (n : ℕ) (fs : List Frame) (is : List Item)
    → r.mode ≡ mode → state_in r ≡ s → r.stack ≡ stack → r.levels ≡ n → r.frames.items ≡ fs → drop r.rest r.items ≡ is → machine_in r ≡ machine_of mode s stack n fs is
machine-by r mode s stack n fs is a b c d e f = rw (a, b, c, d, e, f) refl

make-bare : (old new : Repair) (key : Key) (v u i : ℕ) (env : Variables) (block : BlockId) (at n : ℕ) → old.mode ≡ IsRunning
    → new ≡ record (record old { work = old.work + 1; rest = at; levels = n }) { memory = new.memory; stack = new.stack }
    → state_in new ≡ clears (code_of old) (works (state_in old)) block key
    → stack_in new.stack ≡ Run u i (set env v (pointer key block)) (stack_in old.stack)
    → find_alloc key old.levels (drop old.rest old.items) ≡ Some (record { block = block; rest = drop at old.items; levels = n })
    → Went (Step ∷ Alloc block key ∷ []) (machine_in new)
    ≡ alloc_move (code_of old) own (state_in old) (after old old.levels) key v u i env (stack_in old.stack) (left_over old) (taken_alloc (find_alloc key old.levels (drop old.rest old.items)))
make-bare old new key v u i env block at n m rest state stack find =
    ap (Went (Step ∷ Alloc block key ∷ []))
    (machine-by new IsRunning (clears (code_of old) (works (state_in old)) block key) new.stack n old.frames.items (drop at old.items)
    (ap (λ r. r.mode) rest ∙ m) state refl (ap (λ r. r.levels) rest) (ap (λ r. r.frames.items) rest) (ap (λ r. drop r.rest r.items) rest))
    ∙ make-taken (code_of old) (state_in old) (clears (code_of old) (works (state_in old)) block key) old.frames.items (drop old.rest old.items) old.levels key v u i env (stack_in old.stack)
    (record { block = block; rest = drop at old.items; levels = n }) new.stack find stack refl

-- a block is taken, in code
pub make-some : (old stepped new : Repair) (key : Key) (v u i : ℕ) (env : Variables) (block : BlockId) (at n : ℕ) → old.mode ≡ IsRunning
    → stepped ≡ record old { work = old.work + 1 }
    → new ≡ record (record stepped { rest = at; levels = n }) { memory = new.memory; stack = new.stack }
    → state_in new ≡ clears (code_of stepped) (state_in stepped) block key
    → stack_in new.stack ≡ Run u i (set env v (pointer key block)) (stack_in stepped.stack)
    → find_alloc key stepped.levels (drop stepped.rest stepped.items) ≡ Some (record { block = block; rest = drop at stepped.items; levels = n })
    → Went (Step ∷ Alloc block key ∷ []) (machine_in new)
    ≡ alloc_move (code_of old) own (state_in old) (after old old.levels) key v u i env (stack_in old.stack) (left_over old) (taken_alloc (find_alloc key old.levels (drop old.rest old.items)))
make-some old stepped new key v u i env block at n m e rest state stack find =
    make-bare old new key v u i env block at n m (rw e at rest) (rw e at state) (rw e at stack) (rw e at find)

-- what a result is where its own clause says it
pub if-acts : {A B : Type 0} (r : Result A B) (P Q : A → Type 0) → ((a : A) → P a → Q a) → IfOk r P → IfOk r Q
if-acts (Ok a) P Q f h = f a h
if-acts (Err b) P Q f h = h

-- the machine's state
pub machine-work : (mode : CodeMode) (s : State) (stack : CodeStack) (n : ℕ) (fs : List Frame) (is : List Item) → (machine_of mode s stack n fs is).state.work ≡ s.work
unfolding machine_of
machine-work IsFixing s stack n fs is = refl
machine-work IsRunning s stack n fs is = refl

pub work-in : (r : Repair) (work : ℕ) → work ≡ (state_in r).work → (machine_in r).state.work ≡ work
work-in r work e = machine-work r.mode (state_in r) r.stack r.levels r.frames.items (drop r.rest r.items) ∙ sym e

machine-state : (mode : CodeMode) (s : State) (stack : CodeStack) (n : ℕ) (fs : List Frame) (is : List Item) → (machine_of mode s stack n fs is).state ≡ s
unfolding machine_of
machine-state IsFixing s stack n fs is = refl
machine-state IsRunning s stack n fs is = refl

pub state-is : (r : Repair) → (machine_in r).state ≡ state_in r
state-is r = machine-state r.mode (state_in r) r.stack r.levels r.frames.items (drop r.rest r.items)
