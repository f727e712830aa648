-- Memories that are one up to the numbers of their core blocks.
use Rattle.std.specs.Prelude.{◌≡◌, ℕ, ◌+◌, ◌==◌, nat_eq, ◌<◌, if◌then◌else◌, Option, List, [], ◌∷◌, length, map}
use Rattle.std.specs.Prelude.{slice_get, slice_index}
use Rattle.std.specs.Option.{option_map}
use Rattle.std.specs.List.{IsDistinct}
use Rattle.ceal_base.specs.Block.{Block, Blocks}
use Rattle.ceal_base.specs.declared.word.BlockId.{BlockId}
use Rattle.ceal_base.specs.declared.word.BlockId.TheVariants.{Input, Core}
use Rattle.ceal_base.specs.declared.word.Word.{Word}
use Rattle.ceal_base.specs.declared.word.Word.TheVariants.{Num, Null, Block as BlockWord, At}

-- the index of its first occurrence, or the list's length
abbrev pub index_of : List ℕ → ℕ → ℕ
index_of [] n = 0
index_of (b ∷ bs) n = if b == n then 0 else index_of bs n + 1

-- the name of a block by its place in the list
abbrev pub renamed_id : List ℕ → BlockId → BlockId
renamed_id bs (Input n) = Input n
renamed_id bs (Core n) = Core (index_of bs n)

-- a word with its block renamed so
abbrev pub renamed_word : List ℕ → Word → Word
renamed_word bs (Num n) = Num n
renamed_word bs Null = Null
renamed_word bs (BlockWord b) = BlockWord (renamed_id bs b)
renamed_word bs (At p) = At (record p { block = renamed_id bs p.block })

-- a block with its words renamed so
abbrev pub renamed_block : List ℕ → Block → Block
renamed_block bs b = record b { words = map (renamed_word bs) b.words }

-- the memory of these inputs and core blocks, with `Core bs[i]` replaced by `Core i` everywhere, is n
pub record Same (bs : List ℕ) (inputs : List Block) (core : ℕ → Option Block) (n : Blocks) : Type 0 where
  pub distinct : IsDistinct nat_eq bs
  pub each_input : map (renamed_block bs) inputs ≡ n.inputs
  pub count : length bs ≡ length n.made
  pub each_core : (i : ℕ) → i < length bs → option_map (renamed_block bs) (core (slice_index bs i)) ≡ slice_get n.made i
