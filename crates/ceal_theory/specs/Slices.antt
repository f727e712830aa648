-- The repair of a trace in slices: a repair in progress, what a slice of it does, and what holds of it.
use Rattle.std.specs.Prelude.{◌≡◌, ℕ, zero, suc, ◌+◌, ◌≤◌, pos, nat_le, Bool, true, false, Option, Some, None, List}
use Rattle.std.specs.Prelude.{length, slice_get, if◌then◌else◌, ⊤, is_some}
use Rattle.ceal_base.specs.Block.{Block}
use Rattle.ceal_base.specs.Operators.{same_word}
use Rattle.ceal_base.specs.Trace.{Trace, Nothing, Stepped, Allocated, Wrote, WasRead, blocks_of}
use Rattle.ceal_base.specs.declared.forest.Key.{Key}
use Rattle.ceal_base.specs.declared.forest.UnitId.{UnitId}
use Rattle.ceal_base.specs.declared.typed.StructInfo.{StructInfo}
use Rattle.ceal_base.specs.declared.word.BlockId.{BlockId}
use Rattle.ceal_base.specs.declared.word.BlockId.TheVariants.{Input, Core}
use Rattle.ceal_base.specs.declared.word.Place.{Place}
use Rattle.ceal_base.specs.declared.word.Word.{Word}
use Rattle.ceal_base.specs.declared.word.Word.TheVariants.{Num}
use Rattle.ceal_code.specs.Alike.{Pairs, Tied, PlainAlike, TraceAlike, Within, OneToOne}
use Rattle.ceal_code.specs.Known.{Holds}
use Rattle.ceal_code.specs.Program.{Code}
use Rattle.ceal_code.specs.Replay.{Yields, Store, In, KnownBlock, KnownWord, KnownWords, KnownKey, Distinct, count}
use Rattle.ceal_code.specs.Replay.{core_numbers, input_plain, content_in, cell_default, plain_of, cleared, stored}
use Rattle.ceal_code.specs.Replay.{bases}
use Rattle.ceal_code.specs.Step.{started}
use Rattle.ceal_code.specs.Value.{Plain, field_kind}
use Rattle.ceal_theory.specs.Computed.{Runner, Ran, Fixed, fix_by, rerun}
use Rattle.ceal_theory.specs.Repair.{Single, State, clears, puts, resumed, Fix, Reruns}

-- A repair in progress: the items as they are, the plain words of the core blocks that were known since it began, the
-- number of the next new block, and the steps that were re-executed.
pub record Repair : Type 0 where
  pub items : Trace
  pub known : Plain
  pub number : ℕ
  pub spent : ℕ

-- the plain words of all inputs, and those of known core blocks
unfoldable pub with_inputs : Code → List Block → Plain → Plain
with_inputs code inputs x (Input i) = input_plain code inputs (Input i)
with_inputs code inputs x (Core c) = x (Core c)

-- what a modifiable of a known block starts as; 0 where there is none
abbrev pub default_in : List StructInfo → Option Block → ℕ → Word
default_in structs None field = Num (pos 0)
default_in structs (Some block) field = cell_default (field_kind structs block.shape field)

-- what a place holds at the beginning of a slice
abbrev pub starting_in : Code → List Block → Plain → BlockId → ℕ → Word
starting_in code inputs x (Input i) field = content_in code.structs (slice_get inputs i) field
starting_in code inputs x (Core c) field = default_in code.structs (x (Core c)) field

-- the bases of the inputs, and the defaults of the modifiables of known core blocks
unfoldable pub starting : Code → List Block → Plain → Store
starting code inputs x = λ p. starting_in code inputs x p.block p.field

-- the state in which a slice begins
abbrev pub goes_on : Code → List Block → Repair → State
goes_on code inputs r = record {
  store = starting code inputs r.known;
  plain = with_inputs code inputs r.known;
  number = r.number;
  work = r.spent;
}

-- A part of the repair of items, by rules: from the number of reads that may still be re-executed before it to
-- the number after it. Where none may, all later items stay as they are.
pub data Part (code : Code) (names : ℕ → ℕ) : ℕ → State → Trace → ℕ → State → Trace → Type 0 where
  stays : {s : State} {l : Trace} → Part code names zero s l zero s l
  end : {k : ℕ} {s : State} → Part code names (suc k) s Nothing (suc k) s Nothing
  step : {k j : ℕ} {s s' : State} {rest rest' : Trace} → Part code names (suc k) s rest j s' rest'
      → Part code names (suc k) s (Stepped rest) j s' (Stepped rest')
  alloc : {k j : ℕ} {s s' : State} {b : BlockId} {key : Key} {rest rest' : Trace}
      → Part code names (suc k) (clears code s b key) rest j s' rest'
      → Part code names (suc k) s (Allocated b key rest) j s' (Allocated b key rest')
  write : {k j : ℕ} {s s' : State} {p : Place} {value : Word} {rest rest' : Trace}
      → Part code names (suc k) (puts s p value) rest j s' rest'
      → Part code names (suc k) s (Wrote p value rest) j s' (Wrote p value rest')
  kept : {k i j : ℕ} {s t s' : State} {p : Place} {value : Word} {u : UnitId} {v : ℕ} {args : List Word}
      {inside inside' rest rest' : Trace}
      → s.store p ≡ value
      → Part code names (suc k) s inside i t inside'
      → Part code names i t rest j s' rest'
      → Part code names (suc k) s (WasRead p value u v args inside rest) j s'
      (WasRead p (s.store p) u v args inside' rest')
  -- a stale read that counts
  stale : {k j : ℕ} {s t s' : State} {p : Place} {value : Word} {u : UnitId} {v : ℕ} {args : List Word}
      {inside inside' left rest rest' : Trace}
      → ¬ (s.store p ≡ value)
      → Reruns code names s (resumed code u v args (s.store p)) inside t inside' left
      → Part code names k t rest j s' rest'
      → Part code names (suc k) s (WasRead p value u v args inside rest) j s'
      (WasRead p (s.store p) u v args inside' rest')

-- a slice of at most k reads, or of all
pub data Runs (code : Code) (names : ℕ → ℕ) : Option ℕ → State → Trace → State → Trace → Type 0 where
  whole : {s s' : State} {l m : Trace} → Fix code names s l s' m → Runs code names None s l s' m
  part : {k j : ℕ} {s s' : State} {l m : Trace} → Part code names k s l j s' m → Runs code names (Some k) s l s' m

-- the repair at a state with these items
abbrev pub repair_at : State → Trace → Repair
repair_at s l = record { items = l; known = s.plain; number = s.number; spent = s.work }

-- the repair that a slice of this one comes to
pub record Slices (code : Code) (names : ℕ → ℕ) (inputs : List Block) (k : Option ℕ) (r r' : Repair) : Type 0 where
  pub after : State
  pub items : Trace
  pub runs : Runs code names k (goes_on code inputs r) r.items after items
  pub is : r' ≡ repair_at after items

-- The same as a function. What a part comes to:
pub record Cut : Type 0 where
  pub left : ℕ
  pub state : State
  pub items : Trace

-- a cut with more items in front
abbrev pub cut_with : (Trace → Trace) → Option Cut → Option Cut
cut_with f None = None
cut_with f (Some c) = Some (record c { items = f c.items })

-- a cut, and then another
abbrev pub and_cut : Option Cut → (Cut → Option Cut) → Option Cut
and_cut None f = None
and_cut (Some c) f = f c

-- a stale read's unit was re-executed; what it leaves over is revoked
abbrev pub cut_off : ℕ → Option Ran → Option Cut
cut_off k None = None
cut_off k (Some r) = Some (record { left = k; state = r.state; items = r.items })

abbrev pub cut_if : Code → Runner → ℕ → State → Place → UnitId → ℕ → List Word → Trace → Option Cut → Bool → Option Cut
cut_if code again k s p u v args inside walked true = walked
cut_if code again k s p u v args inside walked false = cut_off k (again s (resumed code u v args (s.store p)) inside)

-- a part of the repair of items, of k reads at most
abbrev pub part_by : Code → Runner → ℕ → State → Trace → Option Cut
part_by code again zero s l = Some (record { left = zero; state = s; items = l })
part_by code again (suc k) s Nothing = Some (record { left = suc k; state = s; items = Nothing })
part_by code again (suc k) s (Stepped rest) = cut_with Stepped (part_by code again (suc k) s rest)
part_by code again (suc k) s (Allocated b key rest) =
    cut_with (Allocated b key) (part_by code again (suc k) (clears code s b key) rest)
part_by code again (suc k) s (Wrote p value rest) =
    cut_with (Wrote p value) (part_by code again (suc k) (puts s p value) rest)
part_by code again (suc k) s (WasRead p value u v args inside rest) =
    let walked = part_by code again (suc k) s inside in
    and_cut (cut_if code again k s p u v args inside walked (same_word (s.store p) value))
    (λ c. cut_with (WasRead p (s.store p) u v args c.items) (part_by code again c.left c.state rest))

-- a whole repair, where its steps are n at most
abbrev pub whole_within : ℕ → Option Fixed → Option Repair
whole_within n None = None
whole_within n (Some f) = if nat_le f.state.work n then Some (repair_at f.state f.items) else None

-- a part, where its steps are n at most
abbrev pub part_within : ℕ → Option Cut → Option Repair
part_within n None = None
part_within n (Some c) = if nat_le c.state.work n then Some (repair_at c.state c.items) else None

-- a slice of the repair on these inputs of at most k reads, where no more than n steps are spent then
unfoldable pub sliced : Code → (ℕ → ℕ) → List Block → Option ℕ → ℕ → Repair → Option Repair
sliced code names inputs None n r =
    whole_within n (fix_by code (rerun code names (n + 1)) (goes_on code inputs r) r.items)
sliced code names inputs (Some k) n r =
    part_within n (part_by code (rerun code names (n + 1)) k (goes_on code inputs r) r.items)

-- each item mentions only inputs and core blocks of the list, in any order
abbrev pub Uses : ℕ → List ℕ → Trace → Type 0
Uses n bs Nothing = ⊤
Uses n bs (Stepped rest) = Uses n bs rest
Uses n bs (Allocated b key rest) = KnownBlock n bs b × KnownKey n bs key × Uses n bs rest
Uses n bs (Wrote p value rest) = KnownBlock n bs p.block × KnownWord n bs value × Uses n bs rest
Uses n bs (WasRead p value u v args inside rest) =
    KnownBlock n bs p.block × KnownWord n bs value × KnownWords n bs args × Uses n bs inside × Uses n bs rest

-- The repair holds for a call on these inputs. The call yields its items over the known plain words; so each
-- block of them has the words that its key gives. Its blocks are distinct. All that is mentioned is an input
-- or a known block. No known block has a name of a number from the next one on; where each number is its own
-- name, the next one lies above all of them.
pub record RepairHolds
    (code : Code) (names : ℕ → ℕ) (inputs : List Block) (f : ℕ) (args : List Word) (r : Repair) : Type 0 where
  pub yields : Yields code (with_inputs code inputs r.known) (started code f args) r.items
  pub distinct : Distinct (core_numbers (blocks_of r.items))
  pub blocks : List ℕ
  pub all : (b : ℕ) (block : Block) → r.known (Core b) ≡ Some block → In b blocks
  pub holds : Holds (length inputs) blocks (with_inputs code inputs r.known)
  pub uses : Uses (length inputs) blocks r.items
  pub single : Single names
  pub free : (k : ℕ) → r.number ≤ k → r.known (Core (names k)) ≡ None

-- no block of the trace has a name of a number from this one on
abbrev pub NamesApart : (ℕ → ℕ) → ℕ → Trace → Type 0
NamesApart names number l = (k : ℕ) → number ≤ k → count (names k) (core_numbers (blocks_of l)) ≡ 0

-- the repair that begins for items on these inputs, with a number above their blocks
abbrev pub beginning : Code → List Block → Trace → ℕ → Repair
beginning code inputs l number = record { items = l; known = plain_of code inputs l; number = number; spent = 0 }

-- one repair is the other with its core blocks renamed one to one
pub record AlikeRepairs
    (code : Code) (names names' : ℕ → ℕ) (inputs : List Block) (ps : Pairs) (r q : Repair) : Type 0 where
  pub one : OneToOne ps
  pub items : TraceAlike ps r.items q.items
  pub known : PlainAlike code.structs ps (with_inputs code inputs r.known) (with_inputs code inputs q.known)
  pub left : (b c : ℕ) → Tied b c ps → (k : ℕ) → r.number ≤ k → ¬ (b ≡ names k)
  pub right : (b c : ℕ) → Tied b c ps → (k : ℕ) → q.number ≤ k → ¬ (c ≡ names' k)
  pub spent : r.spent ≡ q.spent

-- the pair is one of these, or that of the k-th new blocks
pub data IsOldOrNewPair (names names' : ℕ → ℕ) (ps : Pairs) (r q : Repair) (b c : ℕ) : Type 0 where
  old : Tied b c ps → IsOldOrNewPair names names' ps r q b c
  new : (k : ℕ) → b ≡ names (r.number + k) → c ≡ names' (q.number + k) → IsOldOrNewPair names names' ps r q b c

-- both are not there, or the one is the other renamed, where a further pair is one of new blocks
pub data RenamedSlices (code : Code) (names names' : ℕ → ℕ) (inputs : List Block) (ps : Pairs)
    (r q : Repair) : Option Repair → Option Repair → Type 0 where
  none : RenamedSlices code names names' inputs ps r q None None
  some : {r' q' : Repair} (qs : Pairs) → Within ps qs → AlikeRepairs code names names' inputs qs r' q'
      → ((b c : ℕ) → Tied b c qs → IsOldOrNewPair names names' ps r q b c)
      → RenamedSlices code names names' inputs ps r q (Some r') (Some q')

-- after a slice of k reads a further one has the result of one slice of this repair
pub data Follows (code : Code) (names : ℕ → ℕ) (inputs : List Block) (k : ℕ) (r : Repair) : Option ℕ → Repair
    → Type 0 where
  whole : {z : Repair} → Slices code names inputs None r z → Follows code names inputs k r None z
  part : {j : ℕ} {z : Repair} → Slices code names inputs (Some (k + j)) r z → Follows code names inputs k r (Some j) z

-- whether items are honest, as a function: the store after them
abbrev pub and_store : Option Store → (Store → Option Store) → Option Store
and_store None f = None
and_store (Some t) f = f t

-- the store after items, if they are honest
abbrev pub honest_by : Code → Store → Trace → Option Store
honest_by code s Nothing = Some s
honest_by code s (Stepped rest) = honest_by code s rest
honest_by code s (Allocated b key rest) = honest_by code (cleared code s b key) rest
honest_by code s (Wrote p value rest) = honest_by code (stored s p value) rest
honest_by code s (WasRead p value u v args inside rest) =
    let walked = honest_by code s inside in
    if same_word (s p) value then and_store walked (λ t. honest_by code t rest) else None

-- the repair is done on these inputs
unfoldable pub is_done : Code → List Block → Repair → Bool
is_done code inputs r = is_some (honest_by code (bases code inputs) r.items)
