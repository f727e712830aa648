-- The laws of slices. A repair here is one of a call: a core function of the code, with arguments and inputs that fit.
use Rattle.std.specs.Prelude.{◌≡◌, ◌↔◌, ℕ, zero, suc, ◌+◌, ◌≤◌, ◌<◌, true, false, Option, Some, None, List, [], ◌∷◌}
use Rattle.std.specs.Prelude.{◌++◌, length, ◌⊎◌, ⊤}
use Rattle.ceal_base.specs.Block.{Block}
use Rattle.ceal_base.specs.Fitting.{inputs_fit}
use Rattle.ceal_base.specs.Trace.{Trace, Nothing, Stepped, Allocated, Wrote, WasRead, blocks_of, flat}
use Rattle.ceal_base.specs.declared.forest.Item.{Item}
use Rattle.ceal_base.specs.declared.forest.Item.TheVariants.{Read, End}
use Rattle.ceal_base.specs.declared.forest.UnitId.{UnitId}
use Rattle.ceal_base.specs.declared.word.Place.{Place}
use Rattle.ceal_base.specs.declared.word.BlockId.{BlockId}
use Rattle.ceal_base.specs.declared.word.BlockId.TheVariants.{Core}
use Rattle.ceal_base.specs.declared.word.Word.{Word}
use Rattle.ceal_code.specs.Alike.{Pairs, Tied}
use Rattle.ceal_code.specs.Init.{made}
use Rattle.ceal_code.specs.Determined.{Determined}
use Rattle.ceal_code.specs.Fitting.{Fits}
use Rattle.ceal_code.specs.Known.{Holds, KnownStack}
use Rattle.ceal_code.specs.Program.{Code}
use Rattle.ceal_code.specs.Replay.{Yields, In, KnownBlock, KnownWord, KnownWords, count, core_numbers, Replays}
use Rattle.ceal_code.specs.Replay.{IsHonest, Store, bases, plain_of}
use Rattle.ceal_code.specs.Value.{Plain}
use Rattle.ceal_theory.specs.Adjust.{Extended, Above, AdjustsAs}
use Rattle.ceal_theory.specs.Computed.{Repaired, adjusted}
use Rattle.ceal_theory.specs.Laws.{Edited}
use Rattle.ceal_theory.specs.Repair.{Single, own, State, resumed, Reruns}
use Rattle.ceal_theory.specs.Moves.{Machine, Running, Bottom, Finishes}
use Rattle.ceal_theory.specs.Cover.{known_after, Nodes, Nil, Node, items_of, before, Queue, none_waits, Covered}
use Rattle.ceal_theory.specs.Cover.{first_read, NoneQueued, waits_after, Queued, MoreOn, At}
use Rattle.ceal_theory.specs.Walk.{store_after, AgreesAll}
use Rattle.ceal_theory.specs.Slices.{NamesApart, Repair, with_inputs, starting, Runs, repair_at, goes_on, Slices}
use Rattle.ceal_theory.specs.Slices.{sliced, RepairHolds, beginning, AlikeRepairs, RenamedSlices, is_done}

-- how often a core block occurs among the items
abbrev pub held : ℕ → Trace → ℕ
held b l = count b (core_numbers (blocks_of l))

-- a repair that begins from a trace of the call holds, whatever the bases of the new inputs, where no block
-- of the trace has a name of a number from the next one on
abbrev pub BeginLaw : Type 0
BeginLaw =
    (code : Code) (names : ℕ → ℕ) (old new : List Block) (f : ℕ) (args : List Word) (l : Trace)
    (above number : ℕ) → Edited code old new f args l above
    → Single names → NamesApart names number l → RepairHolds code names new f args (beginning code new l number)

-- it holds on inputs that extend its own, whatever their bases
abbrev pub MoreLaw : Type 0
MoreLaw =
    (code : Code) (names : ℕ → ℕ) (old new : List Block) (f : ℕ) (args : List Word) → Fits code old f args
    → inputs_fit code.structs new ≡ true → Extended code old new
    → (r : Repair) → RepairHolds code names old f args r → RepairHolds code names new f args r

-- the block has the name of one of these numbers
abbrev pub IsNamed : (ℕ → ℕ) → ℕ → ℕ → ℕ → Type 0
IsNamed names from to b = (k : ℕ) × (from ≤ k) × (k < to) × (b ≡ names k)

-- a repair holds with other names, and counted from another number on, where no known block has one that is
-- still to come
abbrev pub OtherNamesLaw : Type 0
OtherNamesLaw =
    (code : Code) (names names' : ℕ → ℕ) (inputs : List Block) (f : ℕ) (args : List Word) (r : Repair)
    → RepairHolds code names inputs f args r
    → Single names' → (number : ℕ) → ((k : ℕ) → number ≤ k → r.known (Core (names' k)) ≡ None)
    → RepairHolds code names' inputs f args (record r { number = number })

-- What a slice comes to. Known blocks stay known, and what is known besides has names of numbers from the
-- next one on, each of which the items have once. Of the other blocks the items have those that they had, or
-- fewer: what was revoked stays so.
pub record Sliced
    (code : Code) (names : ℕ → ℕ) (inputs : List Block) (f : ℕ) (args : List Word) (r r' : Repair) : Type 0 where
  pub sound : RepairHolds code names inputs f args r'
  pub kept : (b : ℕ) (block : Block) → r.known (Core b) ≡ Some block → r'.known (Core b) ≡ Some block
  pub known : (b : ℕ) (block : Block) → r'.known (Core b) ≡ Some block
      → (r.known (Core b) ≡ Some block) ⊎ IsNamed names r.number r'.number b
  pub old : (b : ℕ) → ¬ (IsNamed names r.number r'.number b) → held b r'.items ≤ held b r.items
  pub new : (k : ℕ) → r.number ≤ k → k < r'.number → held (names k) r'.items ≡ 1
  pub numbers : r.number ≤ r'.number
  pub room : r'.number + r.spent ≤ r.number + r'.spent

abbrev pub SliceLaw : Type 0
SliceLaw =
    (code : Code) (names : ℕ → ℕ) (inputs : List Block) (f : ℕ) (args : List Word) → Fits code inputs f args
    → (r : Repair) → RepairHolds code names inputs f args r
    → (k : Option ℕ) (r' : Repair) → Slices code names inputs k r r' → Sliced code names inputs f args r r'

-- a repair whose items are honest has a trace of the call, which determines the run from scratch: its memory,
-- and that it ends exactly when as many steps are allowed as the items have
pub record Ended
    (code : Code) (inputs : List Block) (f : ℕ) (args : List Word) (l : Trace)
    (h : IsHonest code inputs l) : Type 0 where
  pub replays : Replays code inputs f args l
  pub run : Determined code inputs f args l h.after

abbrev pub DoneLaw : Type 0
DoneLaw =
    (code : Code) (names : ℕ → ℕ) (inputs : List Block) (f : ℕ) (args : List Word) → Fits code inputs f args
    → (r : Repair) → RepairHolds code names inputs f args r
    → (h : IsHonest code inputs r.items) → Ended code inputs f args r.items h

-- the store in which a slice begins says of the items whether they are honest, as only the bases do
abbrev pub StartLaw : Type 0
StartLaw =
    (code : Code) (names : ℕ → ℕ) (inputs : List Block) (f : ℕ) (args : List Word) → Fits code inputs f args
    → (r : Repair) → RepairHolds code names inputs f args r
    → IsHonest code inputs r.items ↔ AgreesAll code (starting code inputs r.known) (flat r.items)

-- without a number of reads a slice is done
abbrev pub WholeLaw : Type 0
WholeLaw =
    (code : Code) (names : ℕ → ℕ) (inputs : List Block) (f : ℕ) (args : List Word) → Fits code inputs f args
    → (r : Repair) → RepairHolds code names inputs f args r
    → (r' : Repair) → Slices code names inputs None r r' → IsHonest code inputs r'.items

-- a slice of what is done leaves it
abbrev pub StaysLaw : Type 0
StaysLaw =
    (code : Code) (names : ℕ → ℕ) (inputs : List Block) (f : ℕ) (args : List Word) → Fits code inputs f args
    → (r : Repair) → RepairHolds code names inputs f args r
    → IsHonest code inputs r.items → (k : Option ℕ) (r' : Repair) → Slices code names inputs k r r'
    → r' ≡ repair_at (goes_on code inputs r) r.items

-- both are not there, or have the same items and the same work
pub data SameRepair : Option Repaired → Option Repair → Type 0 where
  none : SameRepair None None
  some : {a : Repaired} {r : Repair} → r.items ≡ a.items → r.spent ≡ a.work → SameRepair (Some a) (Some r)

-- the repair in progress has these items and this number of steps spent
pub record ComesTo
    (code : Code) (names : ℕ → ℕ) (inputs : List Block) (r : Repair) (m : Trace) (work : ℕ) : Type 0 where
  pub repair : Repair
  pub slice : Slices code names inputs None r repair
  pub items : repair.items ≡ m
  pub spent : repair.spent ≡ work

-- without a number of reads, from the beginning, a slice is the repair of the trace, with any names
abbrev pub BegunLaw : Type 0
BegunLaw =
    (code : Code) (names : ℕ → ℕ) (old new : List Block) (f : ℕ) (args : List Word) (l : Trace)
    (above number : ℕ) → Edited code old new f args l above
    → Single names → NamesApart names number l
    → ((m : Trace) (work : ℕ) → AdjustsAs code new names number l m work
    → ComesTo code names new (beginning code new l number) m work)
    × ((r : Repair) → Slices code names new None (beginning code new l number) r
    → AdjustsAs code new names number l r.items r.spent)

-- and so it is as a function, with the numbers from one above the blocks on
abbrev pub BegunAdjustedLaw : Type 0
BegunAdjustedLaw =
    (code : Code) (old new : List Block) (f : ℕ) (args : List Word) (l : Trace) (number : ℕ)
    → Edited code old new f args l number
    → (n : ℕ) → SameRepair (adjusted code new number n l) (sliced code own new None n (beginning code new l number))

-- A slice of a renamed repair is there exactly when that of the repair is, and is that one renamed, each
-- with its own names for the numbers of new blocks. So a slice with the numbers that a heap gives is the
-- slice, renamed.
abbrev pub RenamedSliceLaw : Type 0
RenamedSliceLaw =
    (code : Code) (names names' : ℕ → ℕ) → Single names → Single names' → (inputs : List Block)
    → inputs_fit code.structs inputs ≡ true
    → (ps : Pairs) (r q : Repair) → AlikeRepairs code names names' inputs ps r q
    → ((k : Option ℕ) (n : ℕ)
    → RenamedSlices code names names' inputs ps r q (sliced code names inputs k n r)
    (sliced code names' inputs k n q)) × (IsHonest code inputs r.items → IsHonest code inputs q.items)

-- what begins from one trace with two ways to name new blocks is one, each block for itself
pub record NamedBeginning
    (code : Code) (names names' : ℕ → ℕ) (inputs : List Block) (l : Trace) (r q : Repair) : Type 0 where
  pub pairs : Pairs
  pub alike : AlikeRepairs code names names' inputs pairs r q
  pub same : (b c : ℕ) → Tied b c pairs → (b ≡ c) × (1 ≤ held b l)

-- so, with the law above, slices with the numbers that a heap gives are the slices with numbers in their
-- order, renamed only at new blocks
abbrev pub NamedBeginningLaw : Type 0
NamedBeginningLaw =
    (code : Code) (names names' : ℕ → ℕ) (old new : List Block) (f : ℕ) (args : List Word) (l : Trace)
    (above number number' : ℕ) → Edited code old new f args l above
    → NamesApart names number l → NamesApart names' number' l
    → NamedBeginning code names names' new l (beginning code new l number) (beginning code new l number')

-- k reads, and then m more, or all
abbrev pub and_more : ℕ → Option ℕ → Option ℕ
and_more k None = None
and_more k (Some j) = Some (k + j)

-- two slices on the same inputs are one
abbrev pub FollowLaw : Type 0
FollowLaw =
    (code : Code) (names : ℕ → ℕ) (inputs : List Block) (f : ℕ) (args : List Word) → Fits code inputs f args
    → (r : Repair) → RepairHolds code names inputs f args r
    → (k : ℕ) (r' : Repair) → Slices code names inputs (Some k) r r' → (o : Option ℕ) (z : Repair)
    → Slices code names inputs o r' z → Slices code names inputs (and_more k o) r z

-- the function gives exactly what the rules give with n steps spent at most
abbrev pub SlicesLaw : Type 0
SlicesLaw =
    (code : Code) (names : ℕ → ℕ) (inputs : List Block) (k : Option ℕ) (n : ℕ) (r r' : Repair)
    → (sliced code names inputs k n r ≡ Some r') ↔ (Slices code names inputs k r r' × r'.spent ≤ n)

-- the function says exactly whether a repair is done
abbrev pub IsDoneLaw : Type 0
IsDoneLaw =
    (code : Code) (inputs : List Block) (r : Repair)
    → (is_done code inputs r ≡ true → IsHonest code inputs r.items)
    × (IsHonest code inputs r.items → is_done code inputs r ≡ true)

-- the result of a slice from only the bases, core blocks having 0 before their allocation
pub record FromBases (code : Code) (names : ℕ → ℕ) (inputs : List Block) (k : Option ℕ) (r r' : Repair) : Type 0 where
  pub after : State
  pub items : Trace
  pub runs : Runs code names k
      (record { store = bases code inputs; plain = with_inputs code inputs r.known; number = r.number; work = r.spent })
      r.items after items
  pub is : r' ≡ repair_at after items

-- the defaults of known blocks before their allocation do not matter
abbrev pub BasesLaw : Type 0
BasesLaw =
    (code : Code) (names : ℕ → ℕ) (inputs : List Block) (f : ℕ) (args : List Word) → Fits code inputs f args
    → (r : Repair) → RepairHolds code names inputs f args r
    → (k : Option ℕ) (r' : Repair)
    → (Slices code names inputs k r r' → FromBases code names inputs k r r')
    × (FromBases code names inputs k r r' → Slices code names inputs k r r')

-- the unit of a stale read is run by itself, from what the store has after these items
abbrev pub unit_alone : Code → List Block → Repair → List Item → Place → UnitId → ℕ → List Word → Trace → Machine
unit_alone code inputs r front p u v args inside = record {
  state = record {
    store = store_after code (starting code inputs r.known) front;
    plain = with_inputs code inputs r.known;
    number = r.number;
    work = r.spent;
  };
  mode = Running (resumed code u v args (store_after code (starting code inputs r.known) front p)) inside;
  frames = Bottom;
}

-- The one read that a turn repairs: the first that is not honest, from the store at the beginning of the
-- slice. Of whatever the machine of its unit by itself finishes with it is a slice of one read, whose flat
-- items are the old ones but for that read's value and what is in it. Where all that it can finish with has
-- more work than n, no slice has n steps spent or fewer.
pub record FirstStale
    (code : Code) (names : ℕ → ℕ) (inputs : List Block) (r : Repair) (front : List Item)
    (p : Place) (u : UnitId) (v : ℕ) (args : List Word) (after : List Item) : Type 0 where
  pub inside : Trace
  pub back : List Item
  pub items : after ≡ flat inside ++ End ∷ back
  pub slice : (t : State) (out : List Item)
      → Finishes code names (unit_alone code inputs r front p u v args inside) t out
      → (m : Trace) × Slices code names inputs (Some 1) r (repair_at t m)
      × (flat m ≡ front ++ Read p (store_after code (starting code inputs r.known) front p) u v args
      ∷ (out ++ End ∷ back))
  pub over : (n : ℕ)
      → ((t : State) (out : List Item)
      → Finishes code names (unit_alone code inputs r front p u v args inside) t out → n < t.work)
      → (sliced code names inputs None n r ≡ None) × ((k : ℕ) → sliced code names inputs (Some (suc k)) n r ≡ None)

abbrev pub TurnLaw : Type 0
TurnLaw =
    (code : Code) (names : ℕ → ℕ) (inputs : List Block) (r : Repair) (front : List Item) (p : Place)
    (value : Word) (u : UnitId) (v : ℕ) (args : List Word) (after : List Item)
    → flat r.items ≡ front ++ Read p value u v args ∷ after
    → AgreesAll code (starting code inputs r.known) front
    → ¬ (store_after code (starting code inputs r.known) front p ≡ value)
    → FirstStale code names inputs r front p u v args after

-- What is known there: the plain words of inputs and of the blocks that the items before the read allocate,
-- which name no others; no more do the store, the read and the stack of its unit. What is inside the read its
-- unit yields on its old value.
pub record KnownThere
    (code : Code) (inputs : List Block) (r : Repair) (front : List Item) (p : Place) (value : Word)
    (u : UnitId) (v : ℕ) (args : List Word) (after : List Item) : Type 0 where
  pub inside : Trace
  pub back : List Item
  pub items : after ≡ flat inside ++ End ∷ back
  pub holds : Holds (length inputs) (known_after [] front) (with_inputs code inputs r.known)
  pub store : (q : Place)
      → KnownWord (length inputs) (known_after [] front) (store_after code (starting code inputs r.known) front q)
  pub place : KnownBlock (length inputs) (known_after [] front) p.block
  pub words : KnownWords (length inputs) (known_after [] front) args
  pub stack : KnownStack (length inputs) (known_after [] front)
      (resumed code u v args (store_after code (starting code inputs r.known) front p))
  pub yields : Yields code (with_inputs code inputs r.known) (resumed code u v args value) inside

abbrev pub ReadyLaw : Type 0
ReadyLaw =
    (code : Code) (names : ℕ → ℕ) (inputs : List Block) (f : ℕ) (ws : List Word) → Fits code inputs f ws
    → (r : Repair) → RepairHolds code names inputs f ws r
    → (front : List Item) (p : Place) (value : Word) (u : UnitId) (v : ℕ) (args : List Word) (after : List Item)
    → flat r.items ≡ front ++ Read p value u v args ∷ after
    → AgreesAll code (starting code inputs r.known) front
    → ¬ (store_after code (starting code inputs r.known) front p ≡ value)
    → KnownThere code inputs r front p value u v args after

-- turns one after another, each a slice of one read
pub data Turns (code : Code) (names : ℕ → ℕ) (inputs : List Block) : ℕ → Repair → Repair → Type 0 where
  none : {r : Repair} → Turns code names inputs zero r r
  turn : {n : ℕ} {r r' z : Repair} → Slices code names inputs (Some 1) r r' → Turns code names inputs n r' z
      → Turns code names inputs (suc n) r z

-- Turns to an honest end are a slice without a number of reads, and one of any greater number; k turns, one at least,
-- are a slice of k reads.
pub record Turned (code : Code) (names : ℕ → ℕ) (inputs : List Block) (n : ℕ) (r z : Repair) : Type 0 where
  pub many : 1 ≤ n → Slices code names inputs (Some n) r z
  pub whole : IsHonest code inputs z.items → Slices code names inputs None r (repair_at (goes_on code inputs z) z.items)
  pub ended : IsHonest code inputs z.items → (k : ℕ) → n < k
      → Slices code names inputs (Some k) r (repair_at (goes_on code inputs z) z.items)

abbrev pub TurnsLaw : Type 0
TurnsLaw =
    (code : Code) (names : ℕ → ℕ) (inputs : List Block) (f : ℕ) (args : List Word) → Fits code inputs f args
    → (r : Repair) → RepairHolds code names inputs f args r
    → (n : ℕ) (z : Repair) → Turns code names inputs n r z → Turned code names inputs n r z

-- A repair with its history: it began from a trace of the call; since then inputs were edited and added, and
-- slices were taken, in any order.
pub data History (code : Code) (names : ℕ → ℕ) (f : ℕ) (args : List Word) : List Block → Repair → Type 0 where
  began : {old new : List Block} {l : Trace} {above number : ℕ} → Edited code old new f args l above
      → Single names → NamesApart names number l → History code names f args new (beginning code new l number)
  edited : {old new : List Block} {r : Repair} → History code names f args old r → Extended code old new
      → inputs_fit code.structs new ≡ true → History code names f args new r
  cut : {inputs : List Block} {k : Option ℕ} {r r' : Repair} → History code names f args inputs r
      → Slices code names inputs k r r' → History code names f args inputs r'

pub record HeldUp
    (code : Code) (names : ℕ → ℕ) (inputs : List Block) (f : ℕ) (args : List Word) (r : Repair) : Type 0 where
  pub call : Fits code inputs f args
  pub sound : RepairHolds code names inputs f args r
  pub ended : (h : IsHonest code inputs r.items) → Ended code inputs f args r.items h
  -- where they are a trace of the call its blocks have the words that are known; and when done a new repair may begin
  pub words : Replays code inputs f args r.items → (b : BlockId) (block : Block)
      → plain_of code inputs r.items b ≡ Some block → with_inputs code inputs r.known b ≡ Some block
  pub apart : NamesApart names r.number r.items
  pub again : IsHonest code inputs r.items → (number : ℕ) → Above number r.items
      → Edited code inputs inputs f args r.items number

-- after any edits and slices the repair holds; whenever its items are honest they are a trace of the call
abbrev pub HistoryLaw : Type 0
HistoryLaw =
    (code : Code) (names : ℕ → ℕ) (f : ℕ) (args : List Word) (inputs : List Block) (r : Repair)
    → History code names f args inputs r → HeldUp code names inputs f args r

-- each block that the items allocate has what its key gives
abbrev pub MadeIn : Code → Plain → Trace → Type 0
MadeIn code x Nothing = ⊤
MadeIn code x (Stepped rest) = MadeIn code x rest
MadeIn code x (Allocated b key rest) = (x b ≡ Some (made code x key)) × MadeIn code x rest
MadeIn code x (Wrote p value rest) = MadeIn code x rest
MadeIn code x (WasRead p value u v args inside rest) = MadeIn code x inside × MadeIn code x rest

-- A repair that is another one renamed holds where that does, if its blocks have what their keys give, and if
-- its known blocks are those that stand for known ones of the other and name only known blocks.
pub record StandsFor
    (code : Code) (names : ℕ → ℕ) (inputs : List Block) (ps : Pairs) (blocks : List ℕ) (q : Repair) : Type 0 where
  pub others : List ℕ
  pub listed : (b : ℕ) → In b blocks → (c : ℕ) × Tied b c ps × In c others
  pub known : (c : ℕ) (block : Block) → q.known (Core c) ≡ Some block → In c others
  pub holds : Holds (length inputs) others (with_inputs code inputs q.known)
  pub made' : MadeIn code (with_inputs code inputs q.known) q.items
  pub free : (k : ℕ) → q.number ≤ k → q.known (Core (names k)) ≡ None

abbrev pub RenamedSoundLaw : Type 0
RenamedSoundLaw =
    (code : Code) (names names' : ℕ → ℕ) → Single names' → (inputs : List Block) (f : ℕ) (args : List Word)
    → Fits code inputs f args → (r : Repair) → (h : RepairHolds code names inputs f args r)
    → (ps : Pairs) (q : Repair) → AlikeRepairs code names names' inputs ps r q
    → StandsFor code names' inputs ps h.blocks q → RepairHolds code names' inputs f args q

-- A slice of k reads and m more, or of all, is what a slice of m, or of all, makes of what one of k comes to; so
-- where the later one is not there within n steps spent, no more is the whole.
pub record Split
    (code : Code) (names : ℕ → ℕ) (inputs : List Block) (k : ℕ) (r r' : Repair) (o : Option ℕ) : Type 0 where
  pub later : (z : Repair) → Slices code names inputs (and_more k o) r z → Slices code names inputs o r' z
  pub over : (n : ℕ) → sliced code names inputs o n r' ≡ None → sliced code names inputs (and_more k o) n r ≡ None

abbrev pub SplitLaw : Type 0
SplitLaw =
    (code : Code) (names : ℕ → ℕ) (inputs : List Block) (f : ℕ) (args : List Word) → Fits code inputs f args
    → (r : Repair) → RepairHolds code names inputs f args r
    → (k : ℕ) (r' : Repair) → Slices code names inputs (Some k) r r' → (o : Option ℕ) → ¬ (o ≡ Some zero)
    → Split code names inputs k r r' o

-- the result of turns has no slice within n steps spent: then no more has what they began with
pub record TurnedOver (code : Code) (names : ℕ → ℕ) (inputs : List Block) (turns : ℕ) (r z : Repair) : Type 0 where
  pub whole : (n : ℕ) → sliced code names inputs None n z ≡ None → sliced code names inputs None n r ≡ None
  pub part : (n j : ℕ) → sliced code names inputs (Some (suc j)) n z ≡ None
      → sliced code names inputs (Some (turns + suc j)) n r ≡ None

abbrev pub TurnsOverLaw : Type 0
TurnsOverLaw =
    (code : Code) (names : ℕ → ℕ) (inputs : List Block) (f : ℕ) (args : List Word) → Fits code inputs f args
    → (r : Repair) → RepairHolds code names inputs f args r
    → (turns : ℕ) (z : Repair) → Turns code names inputs turns r z → TurnedOver code names inputs turns r z

-- A turn keeps the cover, from the start of the old repair to that of the new one, whose known blocks are
-- more: the nodes of the stale read and of what is inside it give place to those of its new items. The first
-- read after its end must be queued of each place whose content differs there, or of which somebody waited.
abbrev pub KeepLaw : Type 0
KeepLaw =
    (code : Code) (names : ℕ → ℕ) (inputs : List Block) (f : ℕ) (ws : List Word) → Fits code inputs f ws
    → (r : Repair) → RepairHolds code names inputs f ws r
    → (front old fresh behind : Nodes) (w : Store) (p : Place) (value : Word) (u : UnitId) (v : ℕ)
    (args : List Word) (inside : Trace) (back : List Item)
    → At code (starting code inputs r.known) r.items (items_of front) w p value u v args inside back
    → (t : State) (new left : Trace)
    → Reruns code names (record (goes_on code inputs r) { store = w }) (resumed code u v args (w p)) inside t new left
    → (stamp last : ℕ) → items_of fresh ≡ flat new → items_of (before front (before old behind)) ≡ flat r.items
    → (q q' : Queue) → NoneQueued q front
    → Covered code q (starting code inputs r.known) none_waits (before front (before old behind)) → MoreOn q q' behind
    → ((x : Place)
    → ((store_after code (store_after code (starting code inputs t.plain) (items_of front)) (items_of old) x
    ≡ store_after code (store_after code (starting code inputs t.plain) (items_of front))
    (items_of (Node stamp (Read p (w p) u v args) (before fresh (Node last End Nil)))) x)
    × (waits_after q none_waits old x ≡ false)) ⊎ Queued q' (first_read x behind))
    → Covered code q' (starting code inputs t.plain) none_waits
    (before front (before (Node stamp (Read p (w p) u v args) (before fresh (Node last End Nil))) behind))
