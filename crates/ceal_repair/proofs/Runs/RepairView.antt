-- A repair under way in code, by what its parts were.
use Rattle.std.proofs.Common.{◌≡◌, ℕ, ◌+◌, true, List, [], ◌∷◌, ◌++◌, reverse, sym, ap, ap₂, subst, ◌∙◌}
use Rattle.std.specs.Global.{Vec}
use Rattle.std.proofs.lemmas.List.{reverse-append}
use Rattle.ceal_base.specs.Block.{Block}
use Rattle.ceal_code.specs.Program.{Code}
use Rattle.ceal_code.specs.Piles.{Pile}
use Rattle.ceal_code.specs.Stacks.{stack_in, above_floor, under_floor}
use Rattle.ceal_code.specs.Step.{Stack}
use Rattle.ceal_code.specs.declared.stack.Stack.{Stack as CodeStack}
use Rattle.ceal_code.specs.declared.waits.Floor.{Floor}
use Rattle.ceal_heap.specs.Heap.{Contents}
use Rattle.ceal_repair.proofs.Runs.UnitSteps.{StepMore, NodeMore, cursor-here, here-next, late-next}
use Rattle.ceal_repair.specs.Entries.{entries}
use Rattle.ceal_repair.specs.Kept.{QueuedAfter}
use Rattle.ceal_repair.specs.Moment.{View, Start, RunningNow}
use Rattle.ceal_repair.specs.Repairs.{code_of, inputs_of, view, RunsAt}
use Rattle.ceal_order.specs.declared.stamp.Stamp.{Stamp}
use Rattle.ceal_repair.specs.Frames.{Frame, Begun, Taken, Kept, frames_in}
use Rattle.ceal_repair.specs.declared.frame.Frame.{Frame as CodeFrame}
use Rattle.ceal_repair.specs.declared.frame.Frame.TheVariants.{Begun as CodeBegun, Taken as CodeTaken, Kept as CodeKept}
use Rattle.ceal_repair.specs.declared.repair.Repair.{Repair}
use Rattle.ceal_repair.specs.declared.running.Running.{Running}
use Rattle.ceal_repair.specs.declared.tables.Tables.{Tables}
use Rattle.ceal_trace.specs.Nodes.{has_node}
use Rattle.ceal_trace.specs.declared.node.Node.{Node}

-- a repair whose run keeps this, with these units and frames
abbrev pub with_parts : Repair → Running → CodeStack → Vec CodeFrame → Repair
with_parts r running stack frames = record r {
  running = record r.running { now = running };
  stack = record r.stack { now = stack };
  frames = record r.frames { now = frames };
}

-- where a unit runs the cursor is at a node
pub running-here : (start : Start) (st : Stack) (r : Repair) → RunsAt start st r → has_node (view r).cursor (view r).tables.trace.nodes ≡ true
running-here start st r now = cursor-here start (view r) now.reads (entries now.left ++ now.tail) now.placed

pub runs-as : (code : Code) (inputs : List Block) (start : Start) (st : Stack) (v : View) (r : Repair) → RunningNow code inputs start st v
    → code_of r ≡ code → inputs_of r ≡ inputs → stack_in r.stack.now ≡ st → view r ≡ v → RunsAt start (stack_in r.stack.now) r
runs-as code inputs start st v r now c i s w =
    subst (λ code. RunningNow code (inputs_of r) start (stack_in r.stack.now) (view r)) (sym c)
    (subst (λ inputs. RunningNow code inputs start (stack_in r.stack.now) (view r)) (sym i)
    (subst (λ st. RunningNow code inputs start st (view r)) (sym s)
    (subst (λ v. RunningNow code inputs start st v) (sym w) now)))

-- one step more was re-executed
pub record IsStepped (old new : Repair) : Type 0 where
  pub rest : new ≡ record old { running = new.running }
  pub heap : new.running.now.heap ≡ old.running.now.heap
  pub spent : new.running.now.spent ≡ old.running.now.spent + 1
  pub more : StepMore old.cursor.0 old.running.now.tables new.running.now.tables

pub stepped-view : (old new : Repair) → IsStepped old new
    → view new ≡ record { tables = new.running.now.tables; heap = (view old).heap; spent = (view old).spent + 1; cursor = (view old).cursor; limit = (view old).limit; frames = (view old).frames }
stepped-view old new h = ap view h.rest
    ∙ ap₂ (λ (heap : Contents)
    (n : ℕ). record { tables = new.running.now.tables; heap = heap; spent = n; cursor = (view old).cursor; limit = (view old).limit; frames = (view old).frames }) h.heap h.spent

pub cursor-kept : (old new : Repair) → IsStepped old new → new.cursor.0 ≡ old.cursor.0
cursor-kept old new h = ap (λ (r : Repair). r.cursor.0) h.rest

pub stepped-here : (start : Start) (st : Stack) (old new : Repair) → RunsAt start st old → IsStepped old new → has_node new.cursor.0 new.running.now.tables.trace.nodes ≡ true
stepped-here start st old new now h =
    subst (λ s. has_node s new.running.now.tables.trace.nodes ≡ true) (sym (cursor-kept old new h))
    (here-next (code_of old) (inputs_of old) start st (view old) now new.running.now.tables h.more)

pub stepped-late : (start : Start) (st : Stack) (old new : Repair) → RunsAt start st old → IsStepped old new → QueuedAfter new.cursor.0 new.running.now.tables
stepped-late start st old new now h =
    subst (λ s. QueuedAfter s new.running.now.tables) (sym (cursor-kept old new h))
    (late-next (code_of old) (inputs_of old) start st (view old) now new.running.now.tables h.more)

-- a node that was put in after the cursor
pub node-behind : (old new : Repair) → IsStepped old new → (s : ℕ) (node : Node) (t : Tables) → NodeMore new.cursor.0 s node new.running.now.tables t
    → NodeMore old.cursor.0 s node new.running.now.tables t
node-behind old new h s node t k = subst (λ c. NodeMore c s node new.running.now.tables t) (cursor-kept old new h) k

pub put-view : (old new : Repair) → IsStepped old new → (t : Tables) (s : ℕ)
    → ◌≡◌ {A = View} (record { tables = t; heap = (view new).heap; spent = (view new).spent; cursor = s; limit = (view new).limit; frames = (view new).frames })
    (record { tables = t; heap = (view old).heap; spent = (view old).spent + 1; cursor = s; limit = (view old).limit; frames = (view old).frames })
put-view old new h t s = ap (λ (w : View). record { tables = t; heap = w.heap; spent = w.spent; cursor = s; limit = w.limit; frames = w.frames }) (stepped-view old new h)

reverse-more : {A : Type 0} (xs : List A) (x : A) → reverse (xs ++ x ∷ []) ≡ x ∷ reverse xs
reverse-more xs x = reverse-append xs (x ∷ [])

-- a frame that was put on the others, whose units were set aside
pub begun-frames : (old aside now : Pile) (floor : Floor) (read : Stamp) (fs gs : List CodeFrame) → now ≡ aside → under_floor floor aside ≡ old → gs ≡ fs ++ CodeBegun floor read ∷ []
    → frames_in now (reverse gs) ≡ Begun (above_floor floor aside) read ∷ frames_in old (reverse fs)
begun-frames old aside now floor read fs gs e u is =
    ap₂ frames_in e (ap reverse is ∙ reverse-more fs (CodeBegun floor read))
    ∙ ap (λ (a : Pile). Begun (above_floor floor aside) read ∷ frames_in a (reverse fs)) u

pub taken-frames : (old aside now : Pile) (floor : Floor) (limit : Stamp) (fs gs : List CodeFrame) → now ≡ aside → under_floor floor aside ≡ old → gs ≡ fs ++ CodeTaken floor limit ∷ []
    → frames_in now (reverse gs) ≡ Taken (above_floor floor aside) limit ∷ frames_in old (reverse fs)
taken-frames old aside now floor limit fs gs e u is =
    ap₂ frames_in e (ap reverse is ∙ reverse-more fs (CodeTaken floor limit))
    ∙ ap (λ (a : Pile). Taken (above_floor floor aside) limit ∷ frames_in a (reverse fs)) u

-- and one that was put on them, where no unit was
pub kept-frames : (old now : Pile) (until : Stamp) (fs gs : List CodeFrame) → now ≡ old → gs ≡ fs ++ CodeKept until ∷ []
    → frames_in now (reverse gs) ≡ Kept until ∷ frames_in old (reverse fs)
kept-frames old now until fs gs e is = ap₂ frames_in e (ap reverse is ∙ reverse-more fs (CodeKept until))

-- the view with other frames
pub begun-view : (old new : Repair) → IsStepped old new → (t : Tables) (s : ℕ) (f : Frame) (fs : List Frame) → fs ≡ f ∷ (view new).frames
    → ◌≡◌ {A = View} (record { tables = t; heap = (view new).heap; spent = (view new).spent; cursor = s; limit = (view new).limit; frames = fs })
    (record { tables = t; heap = (view old).heap; spent = (view old).spent + 1; cursor = s; limit = (view old).limit; frames = f ∷ (view old).frames })
begun-view old new h t s f fs e =
    ap (λ (gs : List Frame). record { tables = t; heap = (view new).heap; spent = (view new).spent; cursor = s; limit = (view new).limit; frames = gs }) e
    ∙ ap (λ (w : View). record { tables = t; heap = w.heap; spent = w.spent; cursor = s; limit = w.limit; frames = f ∷ w.frames }) (stepped-view old new h)

pub made-view : (old new : Repair) → IsStepped old new → (t : Tables) (heap : Contents) (n s : ℕ) (aside : Pile) → n ≡ new.running.now.spent → aside ≡ new.stack.now.waits.aside
    → ◌≡◌ {A = View} (record { tables = t; heap = heap; spent = n; cursor = s; limit = (view new).limit; frames = frames_in aside (reverse new.frames.now.items) })
    (record { tables = t; heap = heap; spent = (view old).spent + 1; cursor = s; limit = (view old).limit; frames = (view old).frames })
made-view old new h t heap n s aside e k =
    ap₂ (λ (m : ℕ) (a : Pile). record { tables = t; heap = heap; spent = m; cursor = s; limit = (view new).limit; frames = frames_in a (reverse new.frames.now.items) }) e k
    ∙ ap (λ (w : View). record { tables = t; heap = heap; spent = w.spent; cursor = s; limit = w.limit; frames = w.frames }) (stepped-view old new h)
