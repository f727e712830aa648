-- What is asked of flat items, item by item.
use Rattle.std.specs.Prelude.{◌≡◌, Bool, true, false, not, ◌&&◌, is_some, Option, Some, List, [], ◌∷◌, map}
use Rattle.ceal_base.specs.Block.{Block}
use Rattle.ceal_base.specs.Operators.{same_word}
use Rattle.ceal_base.specs.declared.forest.Item.{Item}
use Rattle.ceal_base.specs.declared.forest.Item.TheVariants.{Step, Alloc, Write, Read, End}
use Rattle.ceal_base.specs.declared.forest.Key.{Key}
use Rattle.ceal_base.specs.declared.forest.Key.TheVariants.{Init, ModInt as IntKey, ModPtr as PtrKey}
use Rattle.ceal_base.specs.declared.word.BlockId.{BlockId}
use Rattle.ceal_base.specs.declared.word.BlockId.TheVariants.{Input, Core}
use Rattle.ceal_base.specs.declared.word.Word.{Word}
use Rattle.ceal_base.specs.declared.word.Word.TheVariants.{Num, Null, Block as BlockWord, At}
use Rattle.ceal_code.specs.Program.{Code}
use Rattle.ceal_code.specs.Replay.{Store}
use Rattle.ceal_code.specs.Tables.{plain_item, store_item}
use Rattle.ceal_code.specs.Value.{Plain}

-- the block that a word names is known, if it names one
abbrev pub word_known : Plain → Word → Bool
word_known x (Num n) = true
word_known x Null = true
word_known x (BlockWord b) = is_some (x b)
word_known x (At p) = is_some (x p.block)

-- whether each block that the words name is known
abbrev pub words_known : Plain → List Word → Bool
words_known x [] = true
words_known x (word ∷ words) = word_known x word && words_known x words

-- whether each block that the key names is known
abbrev pub key_known : Plain → Key → Bool
key_known x (Init f args) = words_known x args
key_known x IntKey = true
key_known x (PtrKey s) = true

-- a core block that is not known
abbrev pub is_new : Plain → BlockId → Bool
is_new x (Core b) = not (is_some (x (Core b)))
is_new x (Input i) = false

-- the item mentions only known blocks, and allocates a new one, if any
abbrev pub names_known : Plain → Item → Bool
names_known x Step = true
names_known x (Alloc b key) = key_known x key && is_new x b
names_known x (Write p value) = is_some (x p.block) && word_known x value
names_known x (Read p value u v args) = is_some (x p.block) && (word_known x value && words_known x args)
names_known x End = true

-- each item does, where those before it are known
unfoldable pub all_named : Code → Plain → List Item → Bool
all_named code x [] = true
all_named code x (i ∷ is) = names_known x i && all_named code (plain_item code x i) is

-- a read records the content of its place
abbrev pub records : Store → Item → Bool
records s Step = true
records s (Alloc b key) = true
records s (Write p value) = true
records s (Read p value u v args) = same_word (s p) value
records s End = true

-- each read does, at its moment
unfoldable pub all_honest : Code → Store → List Item → Bool
all_honest code s [] = true
all_honest code s (i ∷ is) = records s i && all_honest code (store_item code s i) is

-- the blocks that the items allocate, in order
abbrev pub allocated : List Item → List BlockId
allocated [] = []
allocated (Alloc b key ∷ is) = b ∷ allocated is
allocated (Step ∷ is) = allocated is
allocated (Write p value ∷ is) = allocated is
allocated (Read p value u v args ∷ is) = allocated is
allocated (End ∷ is) = allocated is

-- the blocks are those that the items allocate, in order
unfoldable pub AreMade : (BlockId → Option Block) → List Item → List Block → Type 0
AreMade m items blocks = map Some blocks ≡ map m (allocated items)
