-- No byte of a save is a percent sign.
use Rattle.std.proofs.Common.{◌≡◌, ℕ, suc, ◌+◌, ◌%◌, ◌<◌, ◌≤◌, ◌^◌, ◌==◌, ◌&&◌, Bool, true, false, not, pos, negsuc, List, [], ◌∷◌, ◌++◌, length, refl, ap, ◌∙◌, arith}
use Rattle.std.specs.Prelude.{codes}
use Rattle.std.specs.Fmt.{decimal}
use Rattle.std.specs.List.{list_all, AllByRecursion}
use Rattle.std.proofs.lemmas.Bool.Decides.{nat_tests}
use Rattle.std.proofs.lemmas.Fmt.{decimal_by_steps}
use Rattle.ceal_base.specs.Block.{Block}
use Rattle.ceal_base.specs.declared.forest.Item.{Item}
use Rattle.ceal_base.specs.declared.forest.Item.TheVariants.{Step, Alloc, Write, Read, End}
use Rattle.ceal_base.specs.declared.forest.Key.{Key}
use Rattle.ceal_base.specs.declared.forest.Key.TheVariants.{Init, ModInt as IntKey, ModPtr as PtrKey}
use Rattle.ceal_base.specs.declared.kind.Shape.{Shape}
use Rattle.ceal_base.specs.declared.kind.Shape.TheVariants.{Struct, ModInt, ModPtr}
use Rattle.ceal_base.specs.declared.recorded.Record.{Record}
use Rattle.ceal_base.specs.declared.word.BlockId.{BlockId}
use Rattle.ceal_base.specs.declared.word.BlockId.TheVariants.{Input, Core}
use Rattle.ceal_base.specs.declared.word.Place.{Place}
use Rattle.ceal_base.specs.declared.word.Word.{Word}
use Rattle.ceal_base.specs.declared.word.Word.TheVariants.{Num, Null, Block as BlockWord, At}
use Rattle.ceal_dump.specs.DumpText.{block_text, place_text, word_text, words_text, shape_text, block_line, block_lines}
use Rattle.ceal_dump.specs.DumpText.{key_text, item_line, item_lines, inputs_text, call_text, trace_text, memory_text}
use Rattle.ceal_dump.specs.DumpText.{dump_text, HasDump, Small, SmallBlock, SmallPlace, SmallWord, SmallWords}
use Rattle.ceal_dump.specs.DumpText.{SmallShape, SmallBlocks, SmallKey, SmallItem, SmallItems, InRange}
use Rattle.ceal_script.specs.Characters.{is_name_byte}
use Rattle.ceal_script.specs.Spelling.{IsName}
use Rattle.ceal_snap.proofs.ReadBack.{name-bytes}
use Rattle.ceal_snap.specs.SaveText.{name_lines, head_text, save_text}
use Rattle.ceal_snap.specs.Marks.{is_plain, are_plain, NoMarkLaw}

-- a text without a percent sign
Plain : List ℕ → Type 0
Plain bs = are_plain bs ≡ true

and-true : (a b : Bool) → a ≡ true → b ≡ true → (a && b) ≡ true
and-true true true h k = refl
and-true true false h k = k
and-true false b h k = h

join : (as' bs : List ℕ) → Plain as' → Plain bs → Plain (as' ++ bs)
unfolding Plain
join [] bs h k = k
join (a ∷ as') bs h k = go (is_plain a) h (λ i. join as' bs i k)
  where
    go : (t : Bool) → (t && are_plain as') ≡ true → (are_plain as' ≡ true → are_plain (as' ++ bs) ≡ true) → (t && are_plain (as' ++ bs)) ≡ true
    go true h f = f h
    go false h f = h

digit-plain : (d : ℕ) → d < 10 → is_plain (48 + d) ≡ true
digit-plain d h = grind (arith, nat_tests)

decimal-plain : (n : ℕ) → n < 2 ^ 64 → Plain (decimal n)
unfolding Plain
decimal-plain n small = decimal_by_steps (λ m ds. are_plain ds ≡ true) one next n small
  where
    one : (m : ℕ) → m < 10 → are_plain ((48 + m) ∷ []) ≡ true
    one m h = and-true (is_plain (48 + m)) true (digit-plain m h) refl

    next : (m : ℕ) (ds : List ℕ) → 10 ≤ m → are_plain ds ≡ true → are_plain (ds ++ ((48 + m % 10) ∷ [])) ≡ true
    next m ds h k = join ds ((48 + m % 10) ∷ []) k (one (m % 10) (omega arith))

small-plain : (n : ℕ) → Small n → Plain (decimal n)
small-plain n h = decimal-plain n (omega (arith, h))

with-front : (front : List ℕ) → Plain front → (n : ℕ) → Small n → Plain (front ++ decimal n)
with-front front h n k = join front (decimal n) h (small-plain n k)

block-plain : (b : BlockId) → SmallBlock b → Plain (block_text b)
unfolding Plain
block-plain (Input n) h = with-front (codes "i") refl n h
block-plain (Core n) h = with-front (codes "c") refl n h

place-plain : (p : Place) → SmallPlace p → Plain (place_text p)
unfolding Plain
place-plain p h = join (block_text p.block ++ codes ".") (decimal p.field) (join (block_text p.block) (codes ".") (block-plain p.block h.0) refl) (small-plain p.field h.1)

word-plain : (w : Word) → SmallWord w → Plain (word_text w)
unfolding Plain
word-plain (Num (pos n)) h = decimal-plain n (omega (arith, h))
word-plain (Num (negsuc n)) h = join (codes "-") (decimal (suc n)) refl (decimal-plain (suc n) (omega (arith, h)))
word-plain Null h = refl
word-plain (BlockWord b) h = block-plain b h
word-plain (At p) h = place-plain p h

words-plain : (ws : List Word) → SmallWords ws → Plain (words_text ws)
unfolding Plain words_text
words-plain [] h = refl
words-plain (w ∷ ws) h = join (codes " " ++ word_text w) (words_text ws) (join (codes " ") (word_text w) refl (word-plain w h.0)) (words-plain ws h.1)

shape-plain : (s : Shape) → SmallShape s → Plain (shape_text s)
unfolding Plain
shape-plain (Struct n) h = with-front (codes "s") refl n h
shape-plain ModInt h = refl
shape-plain (ModPtr n) h = with-front (codes "p") refl n h

blocks-plain : (bs : List Block) → SmallBlocks bs → Plain (block_lines bs)
unfolding Plain block_lines
blocks-plain [] h = refl
blocks-plain (b ∷ bs) h =
    join (block_line b) (block_lines bs)
    (join (shape_text b.shape ++ words_text b.words) (codes "\n") (join (shape_text b.shape) (words_text b.words) (shape-plain b.shape h.0.0) (words-plain b.words h.0.1)) refl)
    (blocks-plain bs h.1)

key-plain : (k : Key) → SmallKey k → Plain (key_text k)
unfolding Plain
key-plain (Init f args) h = join (codes "f" ++ decimal f) (words_text args) (with-front (codes "f") refl f h.0) (words-plain args h.1)
key-plain IntKey h = refl
key-plain (PtrKey n) h = with-front (codes "p") refl n h

item-plain : (i : Item) → SmallItem i → Plain (item_line i)
unfolding Plain
item-plain Step h = refl
item-plain (Alloc b key) h =
    join (codes "a " ++ block_text b ++ codes " " ++ key_text key) (codes "\n")
    (join (codes "a " ++ block_text b ++ codes " ") (key_text key)
    (join (codes "a " ++ block_text b) (codes " ")
    (join (codes "a ") (block_text b) refl (block-plain b h.0)) refl) (key-plain key h.1)) refl
item-plain (Write p v) h =
    join (codes "w " ++ place_text p ++ codes " " ++ word_text v) (codes "\n")
    (join (codes "w " ++ place_text p ++ codes " ") (word_text v)
    (join (codes "w " ++ place_text p) (codes " ")
    (join (codes "w ") (place_text p) refl (place-plain p h.0)) refl) (word-plain v h.1)) refl
item-plain (Read p v u x args) h =
    let a = codes "r " ++ place_text p in
    let b = a ++ codes " " in
    let c = b ++ word_text v in
    let d = c ++ codes " u" in
    let e = d ++ decimal u.0 in
    let f = e ++ codes " v" in
    let g = f ++ decimal x in
    let k = g ++ words_text args in
    join k (codes "\n") (join g (words_text args) (join f (decimal x) (join e (codes " v") (join d (decimal u.0) (join c (codes " u") (join b (word_text v) (join a (codes " ")
    (join (codes "r ") (place_text p) refl (place-plain p h.0)) refl) (word-plain v h.1)) refl) (small-plain u.0 h.2)) refl) (small-plain x h.3)) (words-plain args h.4)) refl
item-plain End h = refl

items-plain : (is : List Item) → SmallItems is → Plain (item_lines is)
unfolding Plain item_lines
items-plain [] h = refl
items-plain (i ∷ is) h = join (item_line i) (item_lines is) (item-plain i h.0) (items-plain is h.1)

dump-plain : (r : Record) → HasDump r → InRange r → Plain (dump_text r)
unfolding Plain dump_text
dump-plain r h k =
    join (inputs_text r.inputs ++ call_text r.function r.args ++ trace_text r.forest ++ memory_text r.memory.inputs r.memory.made) (codes "end\n")
    (join (inputs_text r.inputs ++ call_text r.function r.args ++ trace_text r.forest) (memory_text r.memory.inputs r.memory.made)
    (join (inputs_text r.inputs ++ call_text r.function r.args) (trace_text r.forest)
    (join (inputs_text r.inputs) (call_text r.function r.args) inputs call) trace) memory) refl
  where
    inputs : are_plain (inputs_text r.inputs) ≡ true
    inputs = join (codes "ceal-trace 1\ninputs " ++ decimal (length r.inputs) ++ codes "\n") (block_lines r.inputs)
        (join (codes "ceal-trace 1\ninputs " ++ decimal (length r.inputs)) (codes "\n")
        (with-front (codes "ceal-trace 1\ninputs ") refl (length r.inputs) h.inputs) refl)
        (blocks-plain r.inputs k.inputs)

    call : are_plain (call_text r.function r.args) ≡ true
    call = join (codes "run " ++ decimal r.function ++ words_text r.args) (codes "\n")
        (join (codes "run " ++ decimal r.function) (words_text r.args)
        (with-front (codes "run ") refl r.function k.function) (words-plain r.args k.args)) refl

    trace : are_plain (trace_text r.forest) ≡ true
    trace = join (codes "trace " ++ decimal (length r.forest) ++ codes "\n") (item_lines r.forest)
        (join (codes "trace " ++ decimal (length r.forest)) (codes "\n") (with-front (codes "trace ") refl (length r.forest) h.items) refl) (items-plain r.forest k.items)

    memory : are_plain (memory_text r.memory.inputs r.memory.made) ≡ true
    memory =
        let a = codes "memory " ++ decimal (length r.memory.inputs) in
        let b = a ++ codes " " in
        let c = b ++ decimal (length r.memory.made) in
        let d = c ++ codes "\n" in
        let e = d ++ block_lines r.memory.inputs in
        join e (block_lines r.memory.made) (join d (block_lines r.memory.inputs) (join c (codes "\n") (join b (decimal (length r.memory.made)) (join a (codes " ")
        (with-front (codes "memory ") refl (length r.memory.inputs) h.memory) refl)
        (small-plain (length r.memory.made) h.made)) refl) (blocks-plain r.memory.inputs k.memory))
        (blocks-plain r.memory.made k.made)

-- a byte of a name is no percent sign
not-name : is_name_byte 37 ≡ false
not-name = refl

byte-plain : (b : ℕ) → is_name_byte b ≡ true → is_plain b ≡ true
byte-plain b h = go (b == 37) refl
  where
    go : (t : Bool) → (b == 37) ≡ t → not (b == 37) ≡ true
    go false e = rw e refl
    go true e = absurd (grind (arith, h, not-name, e))

bytes-plain : (bs : List ℕ) → list_all is_name_byte bs ≡ true → are_plain bs ≡ true
bytes-plain [] h = refl
bytes-plain (b ∷ bs) h = go (is_name_byte b) refl h (λ i. bytes-plain bs i)
  where
    go : (t : Bool) → is_name_byte b ≡ t → (t && list_all is_name_byte bs) ≡ true → (list_all is_name_byte bs ≡ true → are_plain bs ≡ true) → are_plain (b ∷ bs) ≡ true
    go true e k f = and-true (is_plain b) (are_plain bs) (byte-plain b e) (f k)
    go false e k f = absurd (cc k)

names-plain : (names : List (List ℕ)) → AllByRecursion IsName names → Plain (name_lines names)
unfolding Plain name_lines
names-plain [] h = refl
names-plain (n ∷ ns) h = join (n ++ codes "\n") (name_lines ns) (join n (codes "\n") (bytes-plain n (name-bytes n h.0)) refl) (names-plain ns h.1)

pub no-mark : NoMarkLaw
unfolding Plain save_text
no-mark bytes s h =
    let a1 = codes "ceal-save 1\nfuel " in
    let a2 = a1 ++ decimal s.fuel in
    let a3 = a2 ++ codes "\nwork " in
    let a4 = a3 ++ decimal s.work in
    let a5 = a4 ++ codes "\nbound " in
    let a6 = a5 ++ decimal s.bound in
    let a7 = a6 ++ codes "\nnames " in
    let a8 = a7 ++ decimal (length s.names) in
    let a9 = a8 ++ codes "\n" in
    let head = join a9 (name_lines s.names) (join a8 (codes "\n")
    (join a7 (decimal (length s.names)) (join a6 (codes "\nnames ")
    (join a5 (decimal s.bound) (join a4 (codes "\nbound ") (join a3 (decimal s.work) (join a2 (codes "\nwork ")
    (with-front (codes "ceal-save 1\nfuel ") refl s.fuel h.fuel) refl) (small-plain s.work h.work)) refl)
    (small-plain s.bound h.bound)) refl) (small-plain (length s.names) h.has.count)) refl)
    (names-plain s.names h.has.names) in
    ap are_plain h.text ∙ join (head_text s) (dump_text s.kept) head (dump-plain s.kept h.has.dump h.range)
