-- Each part of a record is read back from its text.
use Rattle.std.proofs.Common.{◌≡◌, ℕ, zero, suc, ◌≤◌, ◌==◌, false, pos, negsuc, List, [], ◌∷◌, ◌++◌, length, refl, sym, ap, ◌∙◌, append_assoc, length-append, arith}
use Rattle.std.specs.Prelude.{codes}
use Rattle.std.proofs.lemmas.Bool.Decides.{nat_tests}
use Rattle.std.specs.Fmt.{decimal}
use Rattle.ceal_base.specs.Block.{Block}
use Rattle.ceal_base.specs.declared.forest.Item.{Item}
use Rattle.ceal_base.specs.declared.forest.Item.TheVariants.{Step, Alloc, Write, Read, End}
use Rattle.ceal_base.specs.declared.forest.Key.{Key}
use Rattle.ceal_base.specs.declared.forest.Key.TheVariants.{Init, ModInt as IntKey, ModPtr as PtrKey}
use Rattle.ceal_base.specs.declared.kind.Shape.{Shape}
use Rattle.ceal_base.specs.declared.kind.Shape.TheVariants.{Struct, ModInt, ModPtr}
use Rattle.ceal_base.specs.declared.word.BlockId.{BlockId}
use Rattle.ceal_base.specs.declared.word.BlockId.TheVariants.{Input, Core}
use Rattle.ceal_base.specs.declared.word.Place.{Place}
use Rattle.ceal_base.specs.declared.word.Word.{Word}
use Rattle.ceal_base.specs.declared.word.Word.TheVariants.{Num, Null, Block as BlockWord, At}
use Rattle.ceal_dump.proofs.Numbers.{Ends, small-back, first-above, positive-back, negative-back}
use Rattle.ceal_dump.specs.DumpText.{block_text, place_text, word_text, words_text, shape_text, block_line, block_lines}
use Rattle.ceal_dump.specs.DumpText.{key_text, item_line, item_lines, Small, SmallBlock, SmallPlace, SmallWord}
use Rattle.ceal_dump.specs.DumpText.{SmallWords, SmallShape, SmallBlocks, SmallKey, SmallItem, SmallItems}
use Rattle.ceal_dump.specs.Reading.{first_byte, block_at, place_at, pointer_at, word_at, words_from, words_at, shape_at}
use Rattle.ceal_dump.specs.Reading.{line_at, blocks_from, key_at, alloc_at, write_at, closure_read, read_at, item_at}
use Rattle.ceal_dump.specs.Reading.{items_from, inputs_at, trace_at, memory_at, many_from}

-- the bytes continue with no digit and no dot
pub record Stops (bs : List ℕ) : Type 0 where
  pub ends : Ends bs
  pub dot : (first_byte bs == 46) ≡ false

abbrev pub spaced : (bs : List ℕ) → Stops (32 ∷ bs)
spaced bs = record { ends = refl; dot = refl }

abbrev pub fed : (bs : List ℕ) → Stops (10 ∷ bs)
fed bs = record { ends = refl; dot = refl }

pub block-back : (b : BlockId) (more : List ℕ) → SmallBlock b → Ends more → block_at (block_text b ++ more) ≡ (b, more)
unfolding block_at
block-back (Input n) more h e = rw (small-back n more h e) refl
block-back (Core n) more h e = rw (small-back n more h e) refl

place-onto : (p : Place) (more : List ℕ) → place_text p ++ more ≡ block_text p.block ++ (46 ∷ (decimal p.field ++ more))
place-onto p more = append_assoc (block_text p.block ++ codes ".") (decimal p.field) more ∙ append_assoc (block_text p.block) (codes ".") (decimal p.field ++ more)

pub place-back : (p : Place) (more : List ℕ) → SmallPlace p → Ends more → place_at (place_text p ++ more) ≡ (p, more)
unfolding place_at
place-back p more h e = rw (place-onto p more, block-back p.block (46 ∷ (decimal p.field ++ more)) h.0 refl, small-back p.field more h.1 e) refl

pointer-block : (b : BlockId) (more : List ℕ) → SmallBlock b → Stops more → pointer_at (block_text b ++ more) ≡ (BlockWord b, more)
unfolding pointer_at
pointer-block b more h e = rw (block-back b more h e.ends, e.dot) refl

pointer-place : (p : Place) (more : List ℕ) → SmallPlace p → Ends more → pointer_at (place_text p ++ more) ≡ (At p, more)
unfolding pointer_at
pointer-place p more h e = rw (place-back p more h e, place-onto p more, block-back p.block (46 ∷ (decimal p.field ++ more)) h.0 refl) refl

word-block : (b : BlockId) (more : List ℕ) → word_at (block_text b ++ more) ≡ pointer_at (block_text b ++ more)
unfolding word_at
word-block (Input n) more = refl
word-block (Core n) more = refl

pub word-back : (w : Word) (more : List ℕ) → SmallWord w → Stops more → word_at (word_text w ++ more) ≡ (w, more)
unfolding word_at
word-back (Num (pos n)) more h e =
    rw (
      first-above n more 110 (omega (arith, h)) (omega arith),
      first-above n more 105 (omega (arith, h))
          (omega arith),
      first-above n more 99 (omega (arith, h)) (omega arith),
      positive-back n more h e.ends,
    )
    refl
word-back (Num (negsuc n)) more h e = rw (negative-back n more h e.ends) refl
word-back Null more h e = refl
word-back (BlockWord b) more h e = word-block b more ∙ pointer-block b more h e
word-back (At p) more h e =
    ap word_at (place-onto p more) ∙ (word-block p.block (46 ∷ (decimal p.field ++ more)) ∙ (ap pointer_at (sym (place-onto p more)) ∙ pointer-place p more h e.ends))

words-onto : (w : Word) (ws : List Word) (more : List ℕ) → words_text (w ∷ ws) ++ more ≡ 32 ∷ (word_text w ++ (words_text ws ++ more))
unfolding words_text
words-onto w ws more = append_assoc (codes " " ++ word_text w) (words_text ws) more ∙ append_assoc (codes " ") (word_text w) (words_text ws ++ more)

pub words-stop : (ws : List Word) (more : List ℕ) → Stops more → Stops (words_text ws ++ more)
unfolding words_text
words-stop [] more e = e
words-stop (w ∷ ws) more e = rw (words-onto w ws more) (spaced (word_text w ++ (words_text ws ++ more)))

words-long : (ws : List Word) (more : List ℕ) → length ws ≤ length (words_text ws ++ more)
words-long [] more = omega arith
words-long (w ∷ ws) more = omega (arith, ap length (words-onto w ws more), length-append (word_text w) (words_text ws ++ more), words-long ws more)

words-from : (ws : List Word) (k : ℕ) (more : List ℕ) → length ws ≤ k → SmallWords ws → Stops more → (first_byte more == 32) ≡ false → words_from k (words_text ws ++ more) ≡ (ws, more)
unfolding words_from words_text
words-from [] zero more l h e f = refl
words-from [] (suc k) more l h e f = rw f refl
words-from (w ∷ ws) zero more l h e f = absurd (omega (arith, l))
words-from (w ∷ ws) (suc k) more l h e f =
    rw (words-onto w ws more, word-back w (words_text ws ++ more) h.0 (words-stop ws more e), words-from ws k more (omega (arith, l)) h.1 e f) refl

pub words-back : (ws : List Word) (more : List ℕ) → SmallWords ws → Stops more → (first_byte more == 32) ≡ false → words_at (words_text ws ++ more) ≡ (ws, more)
unfolding words_at
words-back ws more h e f = words-from ws (length (words_text ws ++ more)) more (words-long ws more) h e f

shape-back : (s : Shape) (more : List ℕ) → SmallShape s → Ends more → shape_at (shape_text s ++ more) ≡ (s, more)
unfolding shape_at
shape-back (Struct n) more h e = rw (small-back n more h e) refl
shape-back ModInt more h e = refl
shape-back (ModPtr n) more h e = rw (small-back n more h e) refl

line-onto : (b : Block) (more : List ℕ) → block_line b ++ more ≡ shape_text b.shape ++ (words_text b.words ++ (10 ∷ more))
line-onto b more = append_assoc (shape_text b.shape ++ words_text b.words) (codes "\n") more ∙ append_assoc (shape_text b.shape) (words_text b.words) (10 ∷ more)

pub line-back : (b : Block) (more : List ℕ) → SmallShape b.shape → SmallWords b.words → line_at (block_line b ++ more) ≡ (b, more)
unfolding line_at
line-back b more h k =
    rw (line-onto b more, shape-back b.shape (words_text b.words ++ (10 ∷ more)) h (words-stop b.words (10 ∷ more) (fed more)).ends, words-back b.words (10 ∷ more) k (fed more) refl) refl

cons-there : (b : ℕ) (bs : List ℕ) → (length (b ∷ bs) == 0) ≡ false
cons-there b bs = grind (arith, nat_tests)

shape-there : (s : Shape) (more : List ℕ) → (length (shape_text s ++ more) == 0) ≡ false
shape-there (Struct n) more = cons-there 115 (decimal n ++ more)
shape-there ModInt more = cons-there 105 more
shape-there (ModPtr n) more = cons-there 112 (decimal n ++ more)

line-there : (b : Block) (more : List ℕ) → (length (block_line b ++ more) == 0) ≡ false
line-there b more = rw (line-onto b more) (shape-there b.shape (words_text b.words ++ (10 ∷ more)))

blocks-onto : (b : Block) (bs : List Block) (more : List ℕ) → block_lines (b ∷ bs) ++ more ≡ block_line b ++ (block_lines bs ++ more)
unfolding block_lines
blocks-onto b bs more = append_assoc (block_line b) (block_lines bs) more

pub blocks-back : (bs : List Block) (more : List ℕ) → SmallBlocks bs → blocks_from (length bs) (block_lines bs ++ more) ≡ (bs, more)
unfolding many_from block_lines
blocks-back [] more h = refl
blocks-back (b ∷ bs) more h =
    rw (blocks-onto b bs more, line-there b (block_lines bs ++ more), line-back b (block_lines bs ++ more) h.0.0 h.0.1, blocks-back bs more h.1) refl

key-back : (key : Key) (more : List ℕ) → SmallKey key → key_at (key_text key ++ (10 ∷ more)) ≡ (key, 10 ∷ more)
unfolding key_at
key-back (Init f args) more h =
    rw (
      append_assoc (codes "f" ++ decimal f) (words_text args) (10 ∷ more),
      small-back f
          (words_text args ++ (10 ∷ more)) h.0 (words-stop args (10 ∷ more) (fed more)).ends,
      words-back args
          (10 ∷ more) h.1 (fed more) refl,
    ) refl
key-back IntKey more h = refl
key-back (PtrKey n) more h = rw (small-back n (10 ∷ more) h refl) refl

alloc-onto : (b : BlockId) (key : Key) (more : List ℕ) → item_line (Alloc b key) ++ more ≡ 97 ∷ (32 ∷ (block_text b ++ (32 ∷ (key_text key ++ (10 ∷ more)))))
alloc-onto b key more =
    append_assoc (codes "a " ++ block_text b ++ codes " " ++ key_text key) (codes "\n") more
    ∙ (append_assoc (codes "a " ++ block_text b ++ codes " ") (key_text key) (10 ∷ more)
    ∙ (append_assoc (codes "a " ++ block_text b) (codes " ") (key_text key ++ (10 ∷ more)) ∙ append_assoc (codes "a ") (block_text b) (32 ∷ (key_text key ++ (10 ∷ more)))))

write-onto : (p : Place) (w : Word) (more : List ℕ) → item_line (Write p w) ++ more ≡ 119 ∷ (32 ∷ (place_text p ++ (32 ∷ (word_text w ++ (10 ∷ more)))))
write-onto p w more =
    append_assoc (codes "w " ++ place_text p ++ codes " " ++ word_text w) (codes "\n") more
    ∙ (append_assoc (codes "w " ++ place_text p ++ codes " ") (word_text w) (10 ∷ more)
    ∙ (append_assoc (codes "w " ++ place_text p) (codes " ") (word_text w ++ (10 ∷ more)) ∙ append_assoc (codes "w ") (place_text p) (32 ∷ (word_text w ++ (10 ∷ more)))))

read-onto : (p : Place) (w : Word) (u v : ℕ) (args : List Word) (more : List ℕ)
    → item_line (Read p w (record { 0 = u }) v args) ++ more
    ≡ 114 ∷ (32 ∷ (place_text p ++ (32 ∷ (word_text w ++ (32 ∷ (117 ∷ (decimal u ++ (32 ∷ (118 ∷ (decimal v ++ (words_text args ++ (10 ∷ more))))))))))))
read-onto p w u v args more =
    let a8 = words_text args ++ (10 ∷ more) in
    let a7 = decimal v ++ a8 in
    let a6 = 32 ∷ (118 ∷ a7) in
    let a5 = decimal u ++ a6 in
    let a4 = 32 ∷ (117 ∷ a5) in
    let a3 = word_text w ++ a4 in
    append_assoc (codes "r " ++ place_text p ++ codes " " ++ word_text w ++ codes " u" ++ decimal u ++ codes " v" ++ decimal v ++ words_text args) (codes "\n") more
    ∙ (append_assoc (codes "r " ++ place_text p ++ codes " " ++ word_text w ++ codes " u" ++ decimal u ++ codes " v" ++ decimal v) (words_text args) (10 ∷ more)
    ∙ (append_assoc (codes "r " ++ place_text p ++ codes " " ++ word_text w ++ codes " u" ++ decimal u ++ codes " v") (decimal v) a8
    ∙ (append_assoc (codes "r " ++ place_text p ++ codes " " ++ word_text w ++ codes " u" ++ decimal u) (codes " v") a7
    ∙ (append_assoc (codes "r " ++ place_text p ++ codes " " ++ word_text w ++ codes " u") (decimal u) a6
    ∙ (append_assoc (codes "r " ++ place_text p ++ codes " " ++ word_text w) (codes " u") a5
    ∙ (append_assoc (codes "r " ++ place_text p ++ codes " ") (word_text w) a4
    ∙ (append_assoc (codes "r " ++ place_text p) (codes " ") a3
    ∙ append_assoc (codes "r ") (place_text p) (32 ∷ a3))))))))

alloc-back : (b : BlockId) (key : Key) (more : List ℕ) → SmallBlock b → SmallKey key → alloc_at (block_text b ++ (32 ∷ (key_text key ++ (10 ∷ more)))) ≡ (Alloc b key, more)
unfolding alloc_at
alloc-back b key more h k = rw (block-back b (32 ∷ (key_text key ++ (10 ∷ more))) h refl, key-back key more k) refl

write-back : (p : Place) (w : Word) (more : List ℕ) → SmallPlace p → SmallWord w → write_at (place_text p ++ (32 ∷ (word_text w ++ (10 ∷ more)))) ≡ (Write p w, more)
unfolding write_at
write-back p w more h k = rw (place-back p (32 ∷ (word_text w ++ (10 ∷ more))) h refl, word-back w (10 ∷ more) k (fed more)) refl

closure-back : (p : Place) (w : Word) (u v : ℕ) (args : List Word) (more : List ℕ) → Small u → Small v → SmallWords args
    → closure_read p w (decimal u ++ (32 ∷ (118 ∷ (decimal v ++ (words_text args ++ (10 ∷ more)))))) ≡ (Read p w (record { 0 = u }) v args, more)
closure-back p w u v args more h k l =
    rw (
      small-back u (32 ∷ (118 ∷ (decimal v ++ (words_text args ++ (10 ∷ more))))) h refl,
      small-back v
          (words_text args ++ (10 ∷ more)) k (words-stop args (10 ∷ more) (fed more)).ends,
      words-back args
          (10 ∷ more) l (fed more) refl,
    ) refl

read-back : (p : Place) (w : Word) (u v : ℕ) (args : List Word) (more : List ℕ) → SmallPlace p → SmallWord w → Small u → Small v → SmallWords args
    → read_at (place_text p ++ (32 ∷ (word_text w ++ (32 ∷ (117 ∷ (decimal u ++ (32 ∷ (118 ∷ (decimal v ++ (words_text args ++ (10 ∷ more))))))))))) ≡ (Read p w (record { 0 = u }) v args, more)
unfolding read_at
read-back p w u v args more a b h k l =
    let a5 = decimal u ++ (32 ∷ (118 ∷ (decimal v ++ (words_text args ++ (10 ∷ more))))) in
    rw (place-back p (32 ∷ (word_text w ++ (32 ∷ (117 ∷ a5)))) a refl, word-back w (32 ∷ (117 ∷ a5)) b (spaced (117 ∷ a5))) (closure-back p w u v args more h k l)

pub item-back : (i : Item) (more : List ℕ) → SmallItem i → item_at (item_line i ++ more) ≡ (i, more)
unfolding item_at
item-back Step more h = refl
item-back (Alloc b key) more h = rw (alloc-onto b key more) (alloc-back b key more h.0 h.1)
item-back (Write p w) more h = rw (write-onto p w more) (write-back p w more h.0 h.1)
item-back (Read p w u v args) more h = rw (read-onto p w u.0 v args more) (read-back p w u.0 v args more h.0 h.1 h.2 h.3 h.4)
item-back End more h = refl

item-there : (i : Item) (more : List ℕ) → (length (item_line i ++ more) == 0) ≡ false
item-there Step more = cons-there 115 (10 ∷ more)
item-there (Alloc b key) more = ap (λ t. length t == 0) (alloc-onto b key more) ∙ cons-there 97 (32 ∷ (block_text b ++ (32 ∷ (key_text key ++ (10 ∷ more)))))
item-there (Write p w) more = ap (λ t. length t == 0) (write-onto p w more) ∙ cons-there 119 (32 ∷ (place_text p ++ (32 ∷ (word_text w ++ (10 ∷ more)))))
item-there (Read p w u v args) more =
    ap (λ t. length t == 0) (read-onto p w u.0 v args more)
    ∙ cons-there 114 (32 ∷ (place_text p ++ (32 ∷ (word_text w ++ (32 ∷ (117 ∷ (decimal u.0 ++ (32 ∷ (118 ∷ (decimal v ++ (words_text args ++ (10 ∷ more))))))))))))
item-there End more = cons-there 101 (10 ∷ more)

items-onto : (i : Item) (is : List Item) (more : List ℕ) → item_lines (i ∷ is) ++ more ≡ item_line i ++ (item_lines is ++ more)
unfolding item_lines
items-onto i is more = append_assoc (item_line i) (item_lines is) more

pub items-back : (is : List Item) (more : List ℕ) → SmallItems is → items_from (length is) (item_lines is ++ more) ≡ (is, more)
unfolding many_from item_lines
items-back [] more h = refl
items-back (i ∷ is) more h = rw (items-onto i is more, item-there i (item_lines is ++ more), item-back i (item_lines is ++ more) h.0, items-back is more h.1) refl

pub inputs-back : (bs : List Block) (more : List ℕ) → Small (length bs) → SmallBlocks bs → inputs_at (decimal (length bs) ++ (10 ∷ (block_lines bs ++ more))) ≡ (bs, more)
unfolding inputs_at
inputs-back bs more h k = rw (small-back (length bs) (10 ∷ (block_lines bs ++ more)) h refl) (blocks-back bs more k)

pub trace-back : (is : List Item) (more : List ℕ) → Small (length is) → SmallItems is → trace_at (decimal (length is) ++ (10 ∷ (item_lines is ++ more))) ≡ (is, more)
unfolding trace_at
trace-back is more h k = rw (small-back (length is) (10 ∷ (item_lines is ++ more)) h refl) (items-back is more k)

pub memory-back : (xs ys : List Block) (more : List ℕ) → Small (length xs) → Small (length ys) → SmallBlocks xs → SmallBlocks ys
    → memory_at (decimal (length xs) ++ (32 ∷ (decimal (length ys) ++ (10 ∷ (block_lines xs ++ (block_lines ys ++ more)))))) ≡ record { inputs = xs; made = ys }
unfolding memory_at
memory-back xs ys more h k l m =
    rw (
      small-back (length xs) (32 ∷ (decimal (length ys) ++ (10 ∷ (block_lines xs ++ (block_lines ys ++ more))))) h refl,
      small-back (length ys) (10 ∷ (block_lines xs ++ (block_lines ys ++ more))) k refl,
      blocks-back xs (block_lines ys ++ more) l,
      blocks-back ys more m,
    ) refl
