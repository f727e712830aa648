-- Repair where the new blocks have given numbers: those that a heap hands out.
use Rattle.std.specs.Prelude.{◌≡◌, ℕ, zero, suc, ◌+◌, ◌-◌, ◌≤◌, ◌<◌, nat_le, if◌then◌else◌, Some, List, [], ◌∷◌}
use Rattle.std.specs.Prelude.{slice_get}
use Rattle.ceal_base.specs.Block.{Block}
use Rattle.ceal_base.specs.Trace.{Trace, Nothing, Stepped, Allocated, Wrote, WasRead, blocks_of}
use Rattle.ceal_base.specs.declared.forest.Key.{Key}
use Rattle.ceal_base.specs.declared.forest.Key.TheVariants.{Init, ModInt as IntKey, ModPtr as PtrKey}
use Rattle.ceal_base.specs.declared.word.BlockId.{BlockId}
use Rattle.ceal_base.specs.declared.word.BlockId.TheVariants.{Input, Core}
use Rattle.ceal_base.specs.declared.word.Place.{Place}
use Rattle.ceal_base.specs.declared.word.Word.{Word}
use Rattle.ceal_base.specs.declared.word.Word.TheVariants.{Num, Null, Block as BlockWord, At}
use Rattle.ceal_code.specs.Alike.{Pairs, Tied, TraceAlike, OneToOne}
use Rattle.ceal_code.specs.Fitting.{Fits}
use Rattle.ceal_code.specs.Program.{Code}
use Rattle.ceal_code.specs.Replay.{In, Distinct, count, core_numbers, Replays, IsHonest}
use Rattle.ceal_theory.specs.Adjust.{Above, AdjustsAs, FirstsAs}
use Rattle.ceal_theory.specs.Computed.{Repaired, adjusted, first_of}
use Rattle.ceal_theory.specs.Laws.{Edited}
use Rattle.ceal_theory.specs.Repair.{Single}

-- a trace with another number for each core block
abbrev pub id_by : (ℕ → ℕ) → BlockId → BlockId
id_by r (Input i) = Input i
id_by r (Core b) = Core (r b)

-- a place with its block renamed
abbrev pub place_by : (ℕ → ℕ) → Place → Place
place_by r p = record p { block = id_by r p.block }

-- a word with its block renamed
abbrev pub word_by : (ℕ → ℕ) → Word → Word
word_by r (Num n) = Num n
word_by r Null = Null
word_by r (BlockWord b) = BlockWord (id_by r b)
word_by r (At p) = At (place_by r p)

-- the same of each word
abbrev pub words_by : (ℕ → ℕ) → List Word → List Word
words_by r [] = []
words_by r (w ∷ ws) = word_by r w ∷ words_by r ws

-- a key with its blocks renamed
abbrev pub key_by : (ℕ → ℕ) → Key → Key
key_by r (Init f args) = Init f (words_by r args)
key_by r IntKey = IntKey
key_by r (PtrKey s) = PtrKey s

-- a trace with its blocks renamed
abbrev pub trace_by : (ℕ → ℕ) → Trace → Trace
trace_by r Nothing = Nothing
trace_by r (Stepped rest) = Stepped (trace_by r rest)
trace_by r (Allocated b key rest) = Allocated (id_by r b) (key_by r key) (trace_by r rest)
trace_by r (Wrote p v rest) = Wrote (place_by r p) (word_by r v) (trace_by r rest)
trace_by r (WasRead p v u x args inside rest) =
    WasRead (place_by r p) (word_by r v) u x (words_by r args) (trace_by r inside) (trace_by r rest)

-- the k-th number from the first new one on becomes the k-th name, and what is below it stays
abbrev pub naming : ℕ → (ℕ → ℕ) → ℕ → ℕ
naming number names b = if nat_le number b then names (b - number) else b

-- no name is that of a block of the trace
abbrev pub Apart : (ℕ → ℕ) → Trace → Type 0
Apart names l = (k : ℕ) → count (names k) (core_numbers (blocks_of l)) ≡ 0

-- a pair of the repair and the one with names: an old block with itself, or the k-th new blocks
pub data NamedPair (l : Trace) (number : ℕ) (names : ℕ → ℕ) (b c : ℕ) : Type 0 where
  old : b ≡ c → 1 ≤ count b (core_numbers (blocks_of l)) → NamedPair l number names b c
  new : (k : ℕ) → b ≡ number + k → c ≡ names k → NamedPair l number names b c

-- The repair with names is the repair with the names in place of the numbers; so it is a trace of the call, honest, and
-- its blocks are old ones and names.
pub record Named
    (code : Code) (inputs : List Block) (f : ℕ) (args : List Word) (l : Trace) (number : ℕ)
    (names : ℕ → ℕ) (a m : Trace) : Type 0 where
  pub same : m ≡ trace_by (naming number names) a
  pub pairs : Pairs
  pub one : OneToOne pairs
  pub each : (b c : ℕ) → Tied b c pairs → NamedPair l number names b c
  pub alike : TraceAlike pairs a m
  pub replays : Replays code inputs f args m
  pub honest : IsHonest code inputs m

-- the repair with these names is there where the repair is, and is that one with the names, with the same work
pub record NamedRepair
    (code : Code) (inputs : List Block) (f : ℕ) (args : List Word) (l : Trace) (number : ℕ)
    (names : ℕ → ℕ) (n : ℕ) : Type 0 where
  pub there : (a : Repaired) → adjusted code inputs number n l ≡ Some a
      → (m : Trace) × AdjustsAs code inputs names 0 l m a.work × Named code inputs f args l number names a.items m
  pub back : (m : Trace) (work : ℕ) → AdjustsAs code inputs names 0 l m work → work ≤ n
      → (a : Repaired) × (adjusted code inputs number n l ≡ Some a) × (a.work ≡ work)
      × Named code inputs f args l number names a.items m

abbrev pub NamedLaw : Type 0
NamedLaw =
    (code : Code) (old new : List Block) (f : ℕ) (args : List Word) (l : Trace) (number : ℕ)
    → Edited code old new f args l number
    → (names : ℕ → ℕ) → Single names → Apart names l → (n : ℕ) → NamedRepair code new f args l number names n

-- the first trace with these names is there where the first trace is, and is that one with the names
pub record NamedFirst
    (code : Code) (inputs : List Block) (f : ℕ) (args : List Word) (names : ℕ → ℕ) (n : ℕ) : Type 0 where
  pub there : (a : Repaired) → first_of code inputs n f args ≡ Some a
      → (m : Trace) × FirstsAs code inputs names f args m a.work × Named code inputs f args Nothing 0 names a.items m
  pub back : (m : Trace) (work : ℕ) → FirstsAs code inputs names f args m work → work ≤ n
      → (a : Repaired) × (first_of code inputs n f args ≡ Some a) × (a.work ≡ work)
      × Named code inputs f args Nothing 0 names a.items m

abbrev pub NamedFirstLaw : Type 0
NamedFirstLaw = (code : Code) (inputs : List Block) (f : ℕ) (args : List Word) → Fits code inputs f args
    → (names : ℕ → ℕ) → Single names → (n : ℕ) → NamedFirst code inputs f args names n

-- these numbers first, and then those from a bound on
abbrev pub then_from : List ℕ → ℕ → ℕ → ℕ
then_from [] bound k = bound + k
then_from (b ∷ bs) bound zero = b
then_from (b ∷ bs) bound (suc k) = then_from bs bound k

-- Numbers that were handed out are continued as names: they are those numbers, one to one, and apart from the trace,
-- where each of them is, and all are below the bound.
abbrev pub HandedLaw : Type 0
HandedLaw = (bs : List ℕ) (bound : ℕ) → Distinct bs → ((b : ℕ) → In b bs → b < bound)
    → Single (then_from bs bound) × ((k b : ℕ) → slice_get bs k ≡ Some b → then_from bs bound k ≡ b)
    × ((l : Trace) → Above bound l → ((b : ℕ) → In b bs → count b (core_numbers (blocks_of l)) ≡ 0)
    → Apart (then_from bs bound) l)

-- a trace renamed by a function that is one to one on its blocks is alike it, so it is a trace of the call
pub record RenamedBy
    (code : Code) (inputs : List Block) (f : ℕ) (args : List Word) (r : ℕ → ℕ) (l : Trace) : Type 0 where
  pub pairs : Pairs
  pub one : OneToOne pairs
  pub each : (b c : ℕ) → Tied b c pairs → (c ≡ r b) × (1 ≤ count b (core_numbers (blocks_of l)))
  pub alike : TraceAlike pairs l (trace_by r l)
  pub replays : Replays code inputs f args (trace_by r l)
  pub honest : IsHonest code inputs l → IsHonest code inputs (trace_by r l)

abbrev pub RenamingLaw : Type 0
RenamingLaw =
    (code : Code) (inputs : List Block) (f : ℕ) (args : List Word) → Fits code inputs f args → (l : Trace)
    → Replays code inputs f args l
    → (r : ℕ → ℕ)
    → ((b c : ℕ) → 1 ≤ count b (core_numbers (blocks_of l)) → 1 ≤ count c (core_numbers (blocks_of l))
    → r b ≡ r c → b ≡ c)
    → RenamedBy code inputs f args r l
