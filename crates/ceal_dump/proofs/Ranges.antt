-- What is written is in range.
use Rattle.std.proofs.Common.{◌≡◌, List, [], ◌∷◌, length, arith}
use Rattle.ceal_base.specs.Block.{Block}
use Rattle.ceal_base.specs.declared.forest.Item.{Item}
use Rattle.ceal_base.specs.declared.word.Word.{Word}
use Rattle.ceal_dump.specs.DumpText.{SmallWord, SmallWords, SmallShape, SmallBlocks, SmallItem, SmallItems}

-- words
pub words-in : (words more : List Word) (w : Word) → words ≡ w ∷ more → SmallWord w → SmallWords more → SmallWords words
words-in words more w e h k = rw e (h, k)

pub words-out : (words : List Word) → length words ≡ 0 → SmallWords words
words-out [] e = tt
words-out (w ∷ ws) e = absurd (omega (arith, e))

-- blocks
pub blocks-in : (blocks more : List Block) (b : Block) → blocks ≡ b ∷ more → SmallShape b.shape × SmallWords b.words → SmallBlocks more → SmallBlocks blocks
blocks-in blocks more b e h k = rw e (h, k)

pub blocks-out : (blocks : List Block) → length blocks ≡ 0 → SmallBlocks blocks
blocks-out [] e = tt
blocks-out (b ∷ bs) e = absurd (omega (arith, e))

-- items
pub items-in : (items more : List Item) (i : Item) → items ≡ i ∷ more → SmallItem i → SmallItems more → SmallItems items
items-in items more i e h k = rw e (h, k)

pub items-out : (items : List Item) → length items ≡ 0 → SmallItems items
items-out [] e = tt
items-out (i ∷ is) e = absurd (omega (arith, e))
