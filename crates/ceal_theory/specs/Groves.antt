-- Old nodes that are left over, as a forest whose nodes have their stamps.
use Rattle.std.specs.Prelude.{◌≡◌, ℕ, zero, suc, Bool, true, false, Option, Some, None, List, [], ◌∷◌, ◌++◌, ⊤}
use Rattle.ceal_base.specs.Trace.{Trace, Nothing, Stepped, Allocated, Wrote, WasRead}
use Rattle.ceal_base.specs.declared.forest.Item.{Item}
use Rattle.ceal_base.specs.declared.forest.Item.TheVariants.{Step, Alloc, Write, Read, End}
use Rattle.ceal_base.specs.declared.forest.Key.{Key}
use Rattle.ceal_base.specs.declared.forest.UnitId.{UnitId}
use Rattle.ceal_base.specs.declared.word.BlockId.{BlockId}
use Rattle.ceal_base.specs.declared.word.Place.{Place}
use Rattle.ceal_base.specs.declared.word.Word.{Word}
use Rattle.ceal_theory.specs.Levels.{same_read}
use Rattle.ceal_theory.specs.Take.{TakenAlloc, TakenRead, same_key, take_alloc, take_read}

-- a node: its stamp, what it is, and the steps on it (no node is a step itself)
pub record Knot : Type 0 where
  pub stamp : ℕ
  pub item : Item
  pub steps : ℕ

-- nodes with their stamps and steps; a read with the nodes inside it, and with its end
pub data Grove : Type 0 where
  Bare : Grove
  Made : (stamp : ℕ) (block : BlockId) (key : Key) (steps : ℕ) (rest : Grove) → Grove
  Put : (stamp : ℕ) (place : Place) (value : Word) (steps : ℕ) (rest : Grove) → Grove
  Got : (stamp : ℕ) (place : Place) (value : Word) (unit : UnitId) (var : ℕ) (args : List Word) (steps : ℕ)
      (inside : Grove) (end end_steps : ℕ) (rest : Grove) → Grove

-- a trace with steps in front
abbrev pub stepped : ℕ → Trace → Trace
stepped zero t = t
stepped (suc n) t = Stepped (stepped n t)

-- the items that they stand for
abbrev pub trace_in : Grove → Trace
trace_in Bare = Nothing
trace_in (Made s b key n rest) = Allocated b key (stepped n (trace_in rest))
trace_in (Put s p v n rest) = Wrote p v (stepped n (trace_in rest))
trace_in (Got s p v u x args n inside e m rest) =
    WasRead p v u x args (stepped n (trace_in inside)) (stepped m (trace_in rest))

-- a stamp, its item, and the steps before it
abbrev pub knot : ℕ → Item → ℕ → Knot
knot s i n = record { stamp = s; item = i; steps = n }

-- the nodes in their order
abbrev pub knots : Grove → List Knot
knots Bare = []
knots (Made s b key n rest) = knot s (Alloc b key) n ∷ knots rest
knots (Put s p v n rest) = knot s (Write p v) n ∷ knots rest
knots (Got s p v u x args n inside e m rest) =
    knot s (Read p v u x args) n ∷ (knots inside ++ knot e End m ∷ knots rest)

-- one grove and then another
abbrev pub joined : Grove → Grove → Grove
joined Bare h = h
joined (Made s b key n rest) h = Made s b key n (joined rest h)
joined (Put s p v n rest) h = Put s p v n (joined rest h)
joined (Got s p v u x args n inside e m rest) h = Got s p v u x args n inside e m (joined rest h)

-- without the first node, and without its end
abbrev pub cut : Grove → Grove
cut Bare = Bare
cut (Made s b key n rest) = rest
cut (Put s p v n rest) = rest
cut (Got s p v u x args n inside e m rest) = joined inside rest

-- without the steps that are between its own items; those inside a read stay
abbrev pub bare : Trace → Trace
bare Nothing = Nothing
bare (Stepped rest) = bare rest
bare (Allocated b key rest) = Allocated b key (bare rest)
bare (Wrote p v rest) = Wrote p v (bare rest)
bare (WasRead p v u x args inside rest) = WasRead p v u x args inside (bare rest)

-- a list of steps
abbrev pub ticks : ℕ → List Item
ticks zero = []
ticks (suc n) = Step ∷ ticks n

-- the items of nodes, each followed by its steps
abbrev pub items_in : List Knot → List Item
items_in [] = []
items_in (k ∷ ks) = k.item ∷ (ticks k.steps ++ items_in ks)

-- nodes that begin with an end, or none
pub data Closes : List Knot → Type 0 where
  nothing : Closes []
  closes : (end steps : ℕ) (rest : List Knot) → Closes (knot end End steps ∷ rest)

-- the nodes close this number of open reads
pub data Closed : ℕ → List Knot → Type 0 where
  done : Closed zero []
  alloc' : {n : ℕ} {ks : List Knot} (s : ℕ) (b : BlockId) (key : Key) (m : ℕ) → Closed n ks
      → Closed n (knot s (Alloc b key) m ∷ ks)
  write' : {n : ℕ} {ks : List Knot} (s : ℕ) (p : Place) (v : Word) (m : ℕ) → Closed n ks
      → Closed n (knot s (Write p v) m ∷ ks)
  read' : {n : ℕ} {ks : List Knot} (s : ℕ) (p : Place) (v : Word) (u : UnitId) (x : ℕ) (args : List Word)
      (m : ℕ) → Closed (suc n) ks → Closed n (knot s (Read p v u x args) m ∷ ks)
  end' : {n : ℕ} {ks : List Knot} (s m : ℕ) → Closed n ks → Closed (suc n) (knot s End m ∷ ks)

-- What is left over of an open read: a grove up to its end, and after it what closes the others.
pub record Opened (n : ℕ) (ks : List Knot) : Type 0 where
  pub inside : Grove
  pub end : ℕ
  pub steps : ℕ
  pub rest : List Knot
  pub same : ks ≡ knots inside ++ knot end End steps ∷ rest
  pub closed : Closed n rest

-- so nodes that close one open read more than n are those of a grove, the end, and nodes that close n
abbrev pub OpenedLaw : Type 0
OpenedLaw = (n : ℕ) (ks : List Knot) → Closed (suc n) ks → Opened n ks

-- The same taking, but for steps of what is left over.
abbrev pub bare_alloc : Option TakenAlloc → Option TakenAlloc
bare_alloc None = None
bare_alloc (Some t) = Some (record t { leftover = bare t.leftover })

-- a read that is taken, without steps before what is left over
abbrev pub bare_read : Option TakenRead → Option TakenRead
bare_read None = None
bare_read (Some t) = Some (record t { leftover = bare t.leftover })

-- whether the first node has the key, or is such a read
abbrev pub first_has : Key → Grove → Bool
first_has key (Made s b k n rest) = same_key k key
first_has key Bare = false
first_has key (Put s p v n rest) = false
first_has key (Got s p v u x args n inside e m rest) = false

-- whether the first item of a grove is a read with this key
abbrev pub first_reads : Place → UnitId → ℕ → List Word → Grove → Bool
first_reads p u x args (Got s q v w y words n inside e m rest) = same_read q w y words p u x args
first_reads p u x args Bare = false
first_reads p u x args (Made s b k n rest) = false
first_reads p u x args (Put s q v n rest) = false

-- the item is no allocation with the key
abbrev pub LacksItem : Key → Item → Type 0
LacksItem key (Alloc b k) = same_key k key ≡ false
LacksItem key Step = ⊤
LacksItem key (Write p v) = ⊤
LacksItem key (Read p v u x args) = ⊤
LacksItem key End = ⊤

-- no node has the key
abbrev pub Lacks : Key → List Knot → Type 0
Lacks key [] = ⊤
Lacks key (k ∷ ks) = LacksItem key k.item × Lacks key ks

-- the item is no read with the key
abbrev pub LacksReadItem : Place → UnitId → ℕ → List Word → Item → Type 0
LacksReadItem p u x args (Read q v w y words) = same_read q w y words p u x args ≡ false
LacksReadItem p u x args Step = ⊤
LacksReadItem p u x args (Alloc b k) = ⊤
LacksReadItem p u x args (Write q v) = ⊤
LacksReadItem p u x args End = ⊤

-- no node is such a read
abbrev pub LacksRead : Place → UnitId → ℕ → List Word → List Knot → Type 0
LacksRead p u x args [] = ⊤
LacksRead p u x args (k ∷ ks) = LacksReadItem p u x args k.item × LacksRead p u x args ks

-- Taking is kept by revoking: to revoke the first node of what is left over, with its end, where it is not
-- the one that is asked for, changes nothing of what is taken but for steps. So the first node that is the
-- one is what is taken, and where none is, nothing is.
pub record Takings : Type 0 where
  pub alloc_kept : (key : Key) (g : Grove) → first_has key g ≡ false
      → bare_alloc (take_alloc key (trace_in (cut g))) ≡ bare_alloc (take_alloc key (trace_in g))
  pub alloc_found : (key : Key) (s : ℕ) (b : BlockId) (k : Key) (n : ℕ) (rest : Grove) → same_key k key ≡ true
      → take_alloc key (trace_in (Made s b k n rest))
      ≡ Some (record { block = b; leftover = stepped n (trace_in rest) })
  pub alloc_absent : (key : Key) (g : Grove) → Lacks key (knots g) → take_alloc key (trace_in g) ≡ None
  pub read_kept : (p : Place) (u : UnitId) (x : ℕ) (args : List Word) (g : Grove) → first_reads p u x args g ≡ false
      → bare_read (take_read p u x args (trace_in (cut g))) ≡ bare_read (take_read p u x args (trace_in g))
  pub read_found : (p : Place) (u : UnitId) (x : ℕ) (args : List Word) (s : ℕ) (q : Place) (v : Word)
      (w : UnitId) (y : ℕ) (words : List Word) (n : ℕ) (inside : Grove) (e m : ℕ) (rest : Grove)
      → same_read q w y words p u x args ≡ true
      → take_read p u x args (trace_in (Got s q v w y words n inside e m rest))
      ≡ Some (record { value = v; inside = stepped n (trace_in inside); leftover = stepped m (trace_in rest) })
  pub read_absent : (p : Place) (u : UnitId) (x : ℕ) (args : List Word) (g : Grove)
      → LacksRead p u x args (knots g) → take_read p u x args (trace_in g) ≡ None

abbrev pub TakingLaw : Type 0
TakingLaw = Takings
