-- What the queue of a repair in progress has to hold, over the items in the order of time, each with its stamp.
use Rattle.std.specs.Prelude.{◌≡◌, ℕ, ◌==◌, ◌||◌, Bool, true, false, if◌then◌else◌, Option, Some, None, List, [], ◌∷◌}
use Rattle.std.specs.Prelude.{◌++◌, ◌⊎◌, ⊤}
use Rattle.ceal_base.specs.Operators.{same_place}
use Rattle.ceal_base.specs.Trace.{Trace, Stepped, Allocated, Wrote, WasRead, flat}
use Rattle.ceal_base.specs.declared.forest.Item.{Item}
use Rattle.ceal_base.specs.declared.forest.Item.TheVariants.{Step, Alloc, Write, Read, End}
use Rattle.ceal_base.specs.declared.forest.UnitId.{UnitId}
use Rattle.ceal_base.specs.declared.forest.Key.{Key}
use Rattle.ceal_base.specs.declared.word.BlockId.{BlockId}
use Rattle.ceal_base.specs.declared.word.BlockId.TheVariants.{Input, Core}
use Rattle.ceal_base.specs.declared.word.Place.{Place}
use Rattle.ceal_base.specs.declared.word.Word.{Word}
use Rattle.ceal_code.specs.Program.{Code}
use Rattle.ceal_code.specs.Replay.{Store, Honest, cleared, stored}
use Rattle.ceal_theory.specs.Walk.{store_after, AgreesAll}

-- nodes of a trace: items with their stamps, in order
pub data Nodes : Type 0 where
  Nil : Nodes
  Node : (stamp : ℕ) (item : Item) (rest : Nodes) → Nodes

-- the items of nodes
abbrev pub items_of : Nodes → List Item
items_of Nil = []
items_of (Node n i rest) = i ∷ items_of rest

-- the ones and then the others
abbrev pub before : Nodes → Nodes → Nodes
before Nil l = l
before (Node n i rest) l = Node n i (before rest l)

-- whether a stamp is queued; whether a queued read of the place came after the last write of it
abbrev pub Queue : Type 0
Queue = ℕ → Bool

-- at which places somebody waits for a queued read
abbrev pub Waiting : Type 0
Waiting = Place → Bool

-- nobody waits
unfoldable pub none_waits : Waiting
none_waits = λ p. false

-- nobody waits at place p any more
unfoldable pub waiting_after_write : Waiting → Place → Waiting
waiting_after_write w p = λ q. if same_place q p then false else w q

-- at place p somebody waits, if b says so
unfoldable pub waiting_after_read : Waiting → Place → Bool → Waiting
waiting_after_read w p b = λ q. if same_place q p then w q || b else w q

-- Each read that is not honest is queued, or a queued read of its place is before it with no write of the
-- place between.
abbrev pub Covered : Code → Queue → Store → Waiting → Nodes → Type 0
Covered code q s w Nil = ⊤
Covered code q s w (Node n Step rest) = Covered code q s w rest
Covered code q s w (Node n (Alloc b key) rest) = Covered code q (cleared code s b key) w rest
Covered code q s w (Node n (Write p value) rest) = Covered code q (stored s p value) (waiting_after_write w p) rest
Covered code q s w (Node n (Read p value u v args) rest) =
    ((s p ≡ value) ⊎ (waiting_after_read w p (q n) p ≡ true)) × Covered code q s (waiting_after_read w p (q n)) rest
Covered code q s w (Node n End rest) = Covered code q s w rest

-- the first read of the place that no write of it comes before
abbrev pub first_read : Place → Nodes → Option ℕ
first_read p Nil = None
first_read p (Node n Step rest) = first_read p rest
first_read p (Node n (Alloc b key) rest) = first_read p rest
first_read p (Node n (Write q value) rest) = if same_place q p then None else first_read p rest
first_read p (Node n (Read q value u v args) rest) = if same_place q p then Some n else first_read p rest
first_read p (Node n End rest) = first_read p rest

-- the queue with one more, if there is one
unfoldable pub with_queued : Queue → Option ℕ → Queue
with_queued q None = q
with_queued q (Some n) = λ m. q m || m == n

-- the queue without n
unfoldable pub without : Queue → ℕ → Queue
without q n = λ m. if m == n then false else q m

-- none of the nodes is queued
abbrev pub NoneQueued : Queue → Nodes → Type 0
NoneQueued q Nil = ⊤
NoneQueued q (Node n i rest) = (q n ≡ false) × NoneQueued q rest

-- the stamp is at none of these
abbrev pub Absent : ℕ → Nodes → Type 0
Absent m Nil = ⊤
Absent m (Node n i rest) = ((n == m) ≡ false) × Absent m rest

-- A change of what the store has at one place keeps the cover, where the first read of the place is queued:
-- so with an edit of a base, with a write that is put in or taken out, and with a queued read that is taken
-- out.
abbrev pub ChangeLaw : Type 0
ChangeLaw = (code : Code) (q : Queue) (s : Store) (p : Place) (value : Word) (l : Nodes)
    → (Covered code q s none_waits l → Covered code (with_queued q (first_read p l)) (stored s p value) none_waits l)
    × ((w : Waiting) (wait : Bool) → Covered code q s w l
    → Covered code (with_queued q (first_read p l)) s (waiting_after_read (waiting_after_write w p) p wait) l)

-- Where none of the first nodes is queued they are honest, and what follows is covered. So the first queued
-- read, if it is stale, is the first stale read; and where nothing is queued all is honest.
abbrev pub FirstQueuedLaw : Type 0
FirstQueuedLaw =
    (code : Code) (q : Queue) (s : Store) (front l : Nodes) → NoneQueued q front
    → Covered code q s none_waits (before front l)
    → AgreesAll code s (items_of front) × Covered code q (store_after code s (items_of front)) none_waits l

-- the first queued read, where it is honest, goes from the queue, and the next one of its place, with no
-- write between, comes in its stead
abbrev pub PopLaw : Type 0
PopLaw =
    (code : Code) (q : Queue) (s : Store) (front : Nodes) (n : ℕ) (p : Place) (value : Word) (u : UnitId)
    (v : ℕ) (args : List Word) (l : Nodes)
    → NoneQueued q front → Absent n l
    → Covered code q s none_waits (before front (Node n (Read p value u v args) l))
    → store_after code s (items_of front) p ≡ value
    → Covered code (with_queued (without q n) (first_read p l)) s none_waits
    (before front (Node n (Read p value u v args) l))

-- honest nodes may be put in front of covered ones
abbrev pub FrontLaw : Type 0
FrontLaw =
    (code : Code) (q : Queue) (s : Store) (front l : Nodes) → AgreesAll code s (items_of front)
    → Covered code q (store_after code s (items_of front)) none_waits l
    → Covered code q s none_waits (before front l)

-- the core blocks of these, and those that the items allocate
abbrev pub known_after : List ℕ → List Item → List ℕ
known_after bs [] = bs
known_after bs (Step ∷ is) = known_after bs is
known_after bs (Alloc (Core b) key ∷ is) = known_after (b ∷ bs) is
known_after bs (Alloc (Input i) key ∷ is) = known_after bs is
known_after bs (Write p value ∷ is) = known_after bs is
known_after bs (Read p value u v args ∷ is) = known_after bs is
known_after bs (End ∷ is) = known_after bs is

-- A read of a trace: the items before it, all of them honest, the store at it, what it is, what is inside it,
-- and the items after its end.
pub data At (code : Code) : Store → Trace → List Item → Store → Place → Word → UnitId → ℕ → List Word → Trace
    → List Item → Type 0 where
  here : {s : Store} {p : Place} {value : Word} {u : UnitId} {v : ℕ} {args : List Word} {inside rest : Trace}
      → At code s (WasRead p value u v args inside rest) [] s p value u v args inside (flat rest)
  step : {s w : Store} {rest : Trace} {front back : List Item} {p : Place} {value : Word} {u : UnitId} {v : ℕ}
      {args : List Word} {inside : Trace}
      → At code s rest front w p value u v args inside back
      → At code s (Stepped rest) (Step ∷ front) w p value u v args inside back
  alloc : {s w : Store} {b : BlockId} {key : Key} {rest : Trace} {front back : List Item} {p : Place}
      {value : Word} {u : UnitId} {v : ℕ} {args : List Word} {inside : Trace}
      → At code (cleared code s b key) rest front w p value u v args inside back
      → At code s (Allocated b key rest) (Alloc b key ∷ front) w p value u v args inside back
  write : {s w : Store} {x : Place} {y : Word} {rest : Trace} {front back : List Item} {p : Place}
      {value : Word} {u : UnitId} {v : ℕ} {args : List Word} {inside : Trace}
      → At code (stored s x y) rest front w p value u v args inside back
      → At code s (Wrote x y rest) (Write x y ∷ front) w p value u v args inside back
  inner : {s w : Store} {x : Place} {y : Word} {c : UnitId} {n : ℕ} {ws : List Word} {within rest : Trace}
      {front back : List Item} {p : Place} {value : Word} {u : UnitId} {v : ℕ} {args : List Word} {inside : Trace}
      → s x ≡ y → At code s within front w p value u v args inside back
      → At code s (WasRead x y c n ws within rest) (Read x y c n ws ∷ front) w p value u v args inside
      (back ++ End ∷ flat rest)
  outer : {s t w : Store} {x : Place} {y : Word} {c : UnitId} {n : ℕ} {ws : List Word} {within rest : Trace}
      {front back : List Item} {p : Place} {value : Word} {u : UnitId} {v : ℕ} {args : List Word} {inside : Trace}
      → s x ≡ y → Honest code s within t → At code t rest front w p value u v args inside back
      → At code s (WasRead x y c n ws within rest)
      (Read x y c n ws ∷ (flat within ++ End ∷ front)) w p value u v args inside back

-- who waits after these
abbrev pub waits_after : Queue → Waiting → Nodes → Waiting
waits_after q w Nil = w
waits_after q w (Node n Step rest) = waits_after q w rest
waits_after q w (Node n (Alloc b key) rest) = waits_after q w rest
waits_after q w (Node n (Write p value) rest) = waits_after q (waiting_after_write w p) rest
waits_after q w (Node n (Read p value u v args) rest) = waits_after q (waiting_after_read w p (q n)) rest
waits_after q w (Node n End rest) = waits_after q w rest

-- the stamp, if there is one, is queued
abbrev pub Queued : Queue → Option ℕ → Type 0
Queued q None = ⊤
Queued q (Some n) = q n ≡ true

-- what the one queue has of these nodes the other has
abbrev pub MoreOn : Queue → Queue → Nodes → Type 0
MoreOn q q' Nil = ⊤
MoreOn q q' (Node n i rest) = (q n ≡ true → q' n ≡ true) × MoreOn q q' rest

-- The one law of the queue, of which the others are instances: the store and who waits may change at any
-- places whose first read in these nodes is queued.
abbrev pub CoverLaw : Type 0
CoverLaw = (code : Code) (q q' : Queue) (l : Nodes) → MoreOn q q' l → (s s' : Store) (w : Waiting)
    → ((p : Place) → ((s p ≡ s' p) × (w p ≡ false)) ⊎ Queued q' (first_read p l)) → Covered code q s w l
    → Covered code q' s' none_waits l

-- Old nodes between a front and a back give place to new ones that are honest, as in a turn: the cover stays
-- where the first read after is queued of each place whose content differs there or of which somebody waited.
abbrev pub ReplaceLaw : Type 0
ReplaceLaw =
    (code : Code) (q q' : Queue) (s : Store) (front old new back : Nodes) → NoneQueued q front
    → Covered code q s none_waits (before front (before old back))
    → AgreesAll code (store_after code s (items_of front)) (items_of new) → MoreOn q q' back
    → ((p : Place)
    → ((store_after code (store_after code s (items_of front)) (items_of old) p
    ≡ store_after code (store_after code s (items_of front)) (items_of new) p)
    × (waits_after q none_waits old p ≡ false))
    ⊎ Queued q' (first_read p back))
    → Covered code q' s none_waits (before front (before new back))

-- What an engine does to its nodes keeps the cover, where none of the nodes in front is queued.
pub record NodeChanges (code : Code) : Type 0 where
  -- a write is put in or taken out, and the next read of its place is queued
  pub put_write : (q : Queue) (s : Store) (front back : Nodes) (n : ℕ) (p : Place) (value : Word)
      → NoneQueued q front → Covered code q s none_waits (before front back)
      → Covered code (with_queued q (first_read p back)) s none_waits (before front (Node n (Write p value) back))
  pub cut_write : (q : Queue) (s : Store) (front back : Nodes) (n : ℕ) (p : Place) (value : Word)
      → NoneQueued q front → Covered code q s none_waits (before front (Node n (Write p value) back))
      → Covered code (with_queued q (first_read p back)) s none_waits (before front back)
  -- a read is revoked, queued or not, and the next read of its place is queued
  pub cut_read : (q : Queue) (s : Store) (front back : Nodes) (n : ℕ) (p : Place) (value : Word) (u : UnitId)
      (v : ℕ) (args : List Word) → NoneQueued q front
      → Covered code q s none_waits (before front (Node n (Read p value u v args) back))
      → Covered code (with_queued q (first_read p back)) s none_waits (before front back)
  -- a new read is put in that has the content of its moment
  pub put_read : (q : Queue) (s : Store) (front back : Nodes) (n : ℕ) (p : Place) (value : Word) (u : UnitId)
      (v : ℕ) (args : List Word) → NoneQueued q front → store_after code s (items_of front) p ≡ value
      → Covered code q s none_waits (before front back)
      → Covered code q s none_waits (before front (Node n (Read p value u v args) back))
  -- an end is put in or taken out
  pub put_end : (q : Queue) (s : Store) (front back : Nodes) (n : ℕ) → NoneQueued q front
      → Covered code q s none_waits (before front back) → Covered code q s none_waits (before front (Node n End back))
  pub cut_end : (q : Queue) (s : Store) (front back : Nodes) (n : ℕ) → NoneQueued q front
      → Covered code q s none_waits (before front (Node n End back)) → Covered code q s none_waits (before front back)
  -- an allocation is put in or taken out where the modifiables of its block have their defaults
  pub put_alloc : (q : Queue) (s : Store) (front back : Nodes) (n : ℕ) (b : BlockId) (key : Key) → NoneQueued q front
      → ((p : Place)
      → cleared code (store_after code s (items_of front)) b key p ≡ store_after code s (items_of front) p)
      → Covered code q s none_waits (before front back)
      → Covered code q s none_waits (before front (Node n (Alloc b key) back))
  pub cut_alloc : (q : Queue) (s : Store) (front back : Nodes) (n : ℕ) (b : BlockId) (key : Key) → NoneQueued q front
      → ((p : Place)
      → cleared code (store_after code s (items_of front)) b key p ≡ store_after code s (items_of front) p)
      → Covered code q s none_waits (before front (Node n (Alloc b key) back))
      → Covered code q s none_waits (before front back)

abbrev pub NodeChangesLaw : Type 0
NodeChangesLaw = (code : Code) → NodeChanges code
