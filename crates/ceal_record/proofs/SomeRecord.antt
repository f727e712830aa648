-- Each trace has a record: each block that it allocates is in the memory after it.
use Rattle.std.proofs.Common.{◌≡◌, Bool, true, false, if◌then◌else◌, Option, Some, None, is_some, List, [], ◌∷◌, ◌++◌, map, refl, sym, ap₂}
use Rattle.std.specs.Option.{option_map}
use Rattle.ceal_base.specs.Block.{Block}
use Rattle.ceal_base.specs.Operators.{same_block}
use Rattle.ceal_base.specs.Trace.{Trace, Nothing, Stepped, Allocated, Wrote, WasRead, flat, blocks_of}
use Rattle.ceal_base.specs.declared.word.BlockId.{BlockId}
use Rattle.ceal_code.proofs.Words.SameIsEqual.{block-refl}
use Rattle.ceal_code.specs.After.{memory_after}
use Rattle.ceal_code.specs.Init.{made}
use Rattle.ceal_code.specs.Program.{Code}
use Rattle.ceal_code.specs.Replay.{Store, learnt, input_plain, plain_after, plain_of, filled, block_after, inputs_after}
use Rattle.ceal_code.specs.Value.{Plain}
use Rattle.ceal_record.specs.Laws.{SomeRecordLaw}
use Rattle.ceal_record.specs.Recorded.{left_by, in_order}

abbrev IsThere : Plain → BlockId → Type 0
IsThere x b = is_some (x b) ≡ true

abbrev AllThere : Plain → List BlockId → Type 0
AllThere x [] = Unit {0}
AllThere x (b ∷ bs) = IsThere x b × AllThere x bs

learnt-here : (x : Plain) (b : BlockId) (block : Block) → IsThere (learnt x b block) b
unfolding learnt
learnt-here x b block = rw (block-refl b) refl

learnt-still : (x : Plain) (c : BlockId) (block : Block) (b : BlockId) → IsThere x b → IsThere (learnt x c block) b
unfolding learnt
learnt-still x c block b h = go (same_block b c)
  where
    go : (t : Bool) → is_some (if t then Some block else x b) ≡ true
    go true = refl
    go false = h

-- a block that is there stays
stays : (code : Code) (x : Plain) (l : Trace) (b : BlockId) → IsThere x b → IsThere (plain_after code x l) b
stays code x Nothing b h = h
stays code x (Stepped rest) b h = stays code x rest b h
stays code x (Allocated c key rest) b h = stays code (learnt x c (made code x key)) rest b (learnt-still x c (made code x key) b h)
stays code x (Wrote p v rest) b h = stays code x rest b h
stays code x (WasRead p v u w args inside rest) b h = stays code (plain_after code x inside) rest b (stays code x inside b h)

all-stay : (code : Code) (x : Plain) (l : Trace) (bs : List BlockId) → AllThere x bs → AllThere (plain_after code x l) bs
all-stay code x l [] h = tt
all-stay code x l (b ∷ bs) h = (stays code x l b h.0, all-stay code x l bs h.1)

all-then : (x : Plain) (bs cs : List BlockId) → AllThere x bs → AllThere x cs → AllThere x (bs ++ cs)
all-then x [] cs h k = k
all-then x (b ∷ bs) cs h k = (h.0, all-then x bs cs h.1 k)

-- the blocks that a trace allocates are there after it
all-made : (code : Code) (x : Plain) (l : Trace) → AllThere (plain_after code x l) (blocks_of l)
all-made code x Nothing = tt
all-made code x (Stepped rest) = all-made code x rest
all-made code x (Allocated b key rest) =
    (stays code (learnt x b (made code x key)) rest b (learnt-here x b (made code x key)), all-made code (learnt x b (made code x key)) rest)
all-made code x (Wrote p v rest) = all-made code x rest
all-made code x (WasRead p v u w args inside rest) =
    all-then (plain_after code (plain_after code x inside) rest) (blocks_of inside) (blocks_of rest)
    (all-stay code (plain_after code x inside) rest (blocks_of inside) (all-made code x inside)) (all-made code (plain_after code x inside) rest)

block-there : (code : Code) (s : Store) (b : BlockId) (o : Option Block) → is_some o ≡ true → (block : Block) × (option_map (filled code s b) o ≡ Some block)
block-there code s b None h = absurd (cc h)
block-there code s b (Some block) h = (filled code s b block, refl)

blocks-there : (code : Code) (x : Plain) (s : Store) (bs : List BlockId) → AllThere x bs → (blocks : List Block) × (map Some blocks ≡ map (λ b. block_after code x s b) bs)
unfolding block_after
blocks-there code x s [] h = ([], refl)
blocks-there code x s (b ∷ bs) h =
    let one = block-there code s b (x b) h.0 in
    let more = blocks-there code x s bs h.1 in
    (one.0 ∷ more.0, ap₂ ◌∷◌ (sym one.1) more.1)

in-memory : (code : Code) (inputs : List Block) (l : Trace) → (blocks : List Block) × (map Some blocks ≡ map (memory_after code inputs l) (blocks_of l))
unfolding plain_of
in-memory code inputs l = blocks-there code (plain_of code inputs l) (left_by code inputs l) (blocks_of l) (all-made code (input_plain code inputs) l)

pub some-record : SomeRecordLaw
some-record code inputs call l =
    let m = in_order l in
    let blocks = in-memory code inputs m in (
      record {
        inputs = inputs;
        function = call.function;
        args = call.args;
        forest = flat m;
        memory = record { inputs = inputs_after code (left_by code inputs m) 0 inputs; made = blocks.0 };
      },
      record { blocks = refl; function = refl; args = refl; items = refl; memory = record { inputs = refl; made = blocks.1 } },
    )
