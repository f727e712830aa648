-- What is read of a run.
use Rattle.std.specs.Prelude.{Option, Some, None, List, slice_get}
use Rattle.ceal_base.specs.Block.{Block}
use Rattle.ceal_base.specs.declared.word.BlockId.{BlockId}
use Rattle.ceal_base.specs.declared.word.BlockId.TheVariants.{Input, Core}
use Rattle.ceal_base.specs.declared.word.Place.{Place}
use Rattle.ceal_base.specs.declared.word.Word.{Word}
use Rattle.ceal_base.specs.declared.word.Word.TheVariants.{Null}
use Rattle.ceal_code.specs.PlainWords.{block_word}
use Rattle.ceal_heap.specs.Heap.{plain_of}
use Rattle.ceal_engine.specs.Keeping.{contents}
use Rattle.ceal_repair.specs.declared.running.Running.{Running}

-- a core block of the run, each modifiable with its default
abbrev pub core_of : Option Running → BlockId → Option Block
core_of None block = None
core_of (Some run) block = plain_of run.heap block

-- an input with its bases, or a core block of the run
abbrev pub known_block : Option Running → List Block → BlockId → Option Block
known_block run inputs (Input n) = slice_get inputs n
known_block run inputs (Core n) = core_of run (Core n)

-- the content of a place at the end of the run; without a run its word
abbrev pub content_of : Option Running → Place → Word → Word
content_of None p word = word
content_of (Some run) p word = contents run.tables.mods p

-- the content of a place whose block has a word there
abbrev pub content_where : Option Running → Place → Option Word → Word
content_where run p None = Null
content_where run p (Some word) = content_of run p word

-- the content of a place at the end of the run; null where the block has no such field
abbrev pub content_at : Option Running → List Block → Place → Word
content_at run inputs p = content_where run p (block_word (known_block run inputs p.block) p.field)
