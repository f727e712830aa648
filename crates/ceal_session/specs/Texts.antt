-- The text of a reply.
use Rattle.std.specs.Prelude.{◌≡◌, ℕ, Option, Some, None, List, [], ◌++◌, slice_get, unwrap_or, codes}
use Rattle.std.specs.Fmt.{decimal, signed_decimal}
use Rattle.ceal_base.specs.Access.{content_of}
use Rattle.ceal_base.specs.Block.{block_at}
use Rattle.ceal_base.specs.Finished.{Finished}
use Rattle.ceal_base.specs.declared.word.BlockId.{BlockId}
use Rattle.ceal_base.specs.declared.word.BlockId.TheVariants.{Input, Core}
use Rattle.ceal_base.specs.declared.word.Word.{Word}
use Rattle.ceal_base.specs.declared.word.Word.TheVariants.{Num, Null, Block, At}
use Rattle.ceal_show.specs.Graph.{IsGraphText}
use Rattle.ceal_session.specs.Refusals.{refusal_text}
use Rattle.ceal_session.specs.Runs.{present_run}
use Rattle.ceal_session.specs.declared.refusal.Refusal.TheVariants.{C7}
use Rattle.ceal_session.specs.declared.reply.Query.{Query}
use Rattle.ceal_session.specs.declared.reply.Query.TheVariants.{Get, Show, Blocks, Steps, Work, Bound}
use Rattle.ceal_session.specs.declared.reply.Reply.{Reply}
use Rattle.ceal_session.specs.declared.reply.Reply.TheVariants.{Nothing, Ok, OutOfFuel, More, Done, Refused, Told}
use Rattle.ceal_session.specs.State.{State, Numbers}

-- the name of an input
abbrev pub input_name : State → ℕ → List ℕ
input_name s n = unwrap_or (slice_get s.names n) []

-- the name of an input, and `#1` for a core block
abbrev pub block_text : State → BlockId → List ℕ
block_text s (Input n) = input_name s n
block_text s (Core n) = codes "#1"

-- what a modifiable holds, as it is printed
abbrev pub value_text : State → Word → List ℕ
value_text s (Num n) = signed_decimal n
value_text s Null = codes "null"
value_text s (Block b) = block_text s b
value_text s (At p) = block_text s p.block

-- The text answers the question about a finished run, which has these numbers.
abbrev pub Tells : State → Numbers → Query → Finished → List ℕ → Type 0
Tells s numbers (Get p) f text = text ≡ value_text s (content_of f.memory (At p) Null) ++ codes "\n"
Tells s numbers (Show n) f text = IsGraphText s.program.structs (block_at f.memory) (input_name s) (Input n) text
Tells s numbers Blocks f text = text ≡ decimal f.blocks ++ codes "\n"
Tells s numbers Steps f text = text ≡ decimal f.steps ++ codes "\n"
Tells s numbers Work f text = text ≡ decimal numbers.work ++ codes "\n"
Tells s numbers Bound f text = text ≡ decimal numbers.bound ++ codes "\n"

-- A run that was in fuel stays so where inputs are added, so that a run is there.
abbrev pub TellsOf : State → Numbers → Query → Option Finished → List ℕ → Type 0
TellsOf s numbers q None text = text ≡ refusal_text C7
TellsOf s numbers q (Some f) text = Tells s numbers q f text

-- The text is that of the reply; a question is answered by the run from scratch on the inputs of this moment, and the
-- only lines `work` and `bound` by the numbers.
abbrev pub IsText : State → Numbers → Reply → List ℕ → Type 0
IsText s numbers Nothing text = text ≡ []
IsText s numbers Ok text = text ≡ codes "ok\n"
IsText s numbers OutOfFuel text = text ≡ codes "out of fuel\n"
IsText s numbers More text = text ≡ codes "more\n"
IsText s numbers Done text = text ≡ codes "done\n"
IsText s numbers (Refused r) text = text ≡ refusal_text r
IsText s numbers (Told q) text = TellsOf s numbers q (present_run s) text
