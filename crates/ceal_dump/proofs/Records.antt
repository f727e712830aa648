-- A record is read back from its dump text, and what is read is in range.
use Rattle.std.proofs.Common.{◌≡◌, ℕ, zero, suc, ◌^◌, ◌==◌, Bool, true, false, if◌then◌else◌, Ok, Err, List, ◌∷◌, ◌++◌, length, drop, refl, sym, ap, ◌∙◌, append_assoc, arith}
use Rattle.std.specs.Prelude.{codes, nat_lt}
use Rattle.std.specs.Fmt.{decimal}
use Rattle.std.proofs.lemmas.Bool.Decides.{nat_tests}
use Rattle.ceal_base.specs.Block.{Block}
use Rattle.ceal_base.specs.declared.forest.Item.{Item}
use Rattle.ceal_base.specs.declared.recorded.Record.{Record}
use Rattle.ceal_base.specs.declared.word.Word.{Word}
use Rattle.ceal_base.specs.declared.word.Word.TheVariants.{Num}
use Rattle.ceal_dump.proofs.Numbers.{small-back, small-range}
use Rattle.ceal_dump.proofs.ReadBack.{words-stop, words-back, inputs-back, trace-back, memory-back}
use Rattle.ceal_dump.specs.Answers.{OneRecordLaw, ReadBackLaw}
use Rattle.ceal_dump.specs.declared.read.DumpError.TheVariants.{Memory, Unreadable}
use Rattle.ceal_dump.specs.DumpText.{words_text, block_lines, item_lines, inputs_text, call_text, trace_text}
use Rattle.ceal_dump.specs.DumpText.{memory_text, dump_text, HasDump, Small, SmallBlock, SmallPlace, SmallWord}
use Rattle.ceal_dump.specs.DumpText.{SmallWords, SmallShape, SmallBlocks, SmallKey, SmallItem, SmallItems, InRange}
use Rattle.ceal_dump.specs.DumpText.{IsDump}
use Rattle.ceal_dump.specs.Reading.{first_byte, number_at, positive, negative, int_at, small_at, block_of, block_at}
use Rattle.ceal_dump.specs.Reading.{place_at, pointer_at, is_pointer, word_at, words_from, words_at, shape_at, line_at}
use Rattle.ceal_dump.specs.Reading.{blocks_from, key_at, alloc_at, write_at, read_at, item_at, items_from, inputs_at}
use Rattle.ceal_dump.specs.Reading.{trace_at, memory_at, call_record, record_at, many_from}

inputs-onto : (bs : List Block) (more : List ℕ) → inputs_text bs ++ more ≡ codes "ceal-trace 1\ninputs " ++ (decimal (length bs) ++ (10 ∷ (block_lines bs ++ more)))
inputs-onto bs more =
    append_assoc (codes "ceal-trace 1\ninputs " ++ decimal (length bs) ++ codes "\n") (block_lines bs) more
    ∙ (append_assoc (codes "ceal-trace 1\ninputs " ++ decimal (length bs)) (codes "\n") (block_lines bs ++ more)
    ∙ append_assoc (codes "ceal-trace 1\ninputs ") (decimal (length bs)) (10 ∷ (block_lines bs ++ more)))

call-onto : (f : ℕ) (args : List Word) (more : List ℕ) → call_text f args ++ more ≡ codes "run " ++ (decimal f ++ (words_text args ++ (10 ∷ more)))
call-onto f args more =
    append_assoc (codes "run " ++ decimal f ++ words_text args) (codes "\n") more
    ∙ (append_assoc (codes "run " ++ decimal f) (words_text args) (10 ∷ more) ∙ append_assoc (codes "run ") (decimal f) (words_text args ++ (10 ∷ more)))

trace-onto : (is : List Item) (more : List ℕ) → trace_text is ++ more ≡ codes "trace " ++ (decimal (length is) ++ (10 ∷ (item_lines is ++ more)))
trace-onto is more =
    append_assoc (codes "trace " ++ decimal (length is) ++ codes "\n") (item_lines is) more
    ∙ (append_assoc (codes "trace " ++ decimal (length is)) (codes "\n") (item_lines is ++ more) ∙ append_assoc (codes "trace ") (decimal (length is)) (10 ∷ (item_lines is ++ more)))

memory-onto : (xs ys : List Block) (more : List ℕ)
    → memory_text xs ys ++ more ≡ codes "memory " ++ (decimal (length xs) ++ (32 ∷ (decimal (length ys) ++ (10 ∷ (block_lines xs ++ (block_lines ys ++ more))))))
memory-onto xs ys more =
    append_assoc (codes "memory " ++ decimal (length xs) ++ codes " " ++ decimal (length ys) ++ codes "\n" ++ block_lines xs) (block_lines ys) more
    ∙ (append_assoc (codes "memory " ++ decimal (length xs) ++ codes " " ++ decimal (length ys) ++ codes "\n") (block_lines xs) (block_lines ys ++ more)
    ∙ (append_assoc (codes "memory " ++ decimal (length xs) ++ codes " " ++ decimal (length ys)) (codes "\n") (block_lines xs ++ (block_lines ys ++ more))
    ∙ (append_assoc (codes "memory " ++ decimal (length xs) ++ codes " ") (decimal (length ys)) (10 ∷ (block_lines xs ++ (block_lines ys ++ more)))
    ∙ (append_assoc (codes "memory " ++ decimal (length xs)) (codes " ") (decimal (length ys) ++ (10 ∷ (block_lines xs ++ (block_lines ys ++ more))))
    ∙ append_assoc (codes "memory ") (decimal (length xs)) (32 ∷ (decimal (length ys) ++ (10 ∷ (block_lines xs ++ (block_lines ys ++ more)))))))))

module _ (r : Record) where
  abbrev the_memory : List ℕ
  the_memory = decimal (length r.memory.inputs) ++ (32 ∷ (decimal (length r.memory.made) ++ (10 ∷ (block_lines r.memory.inputs ++ (block_lines r.memory.made ++ codes "end\n")))))

  abbrev the_trace : List ℕ
  the_trace = decimal (length r.forest) ++ (10 ∷ (item_lines r.forest ++ (codes "memory " ++ the_memory)))

  abbrev the_call : List ℕ
  the_call = decimal r.function ++ (words_text r.args ++ (codes "\ntrace " ++ the_trace))

  dump-onto : dump_text r ≡ codes "ceal-trace 1\ninputs " ++ (decimal (length r.inputs) ++ (10 ∷ (block_lines r.inputs ++ (codes "run " ++ the_call))))
  unfolding dump_text
  dump-onto =
      let i = inputs_text r.inputs in
      let c = call_text r.function r.args in
      let t = trace_text r.forest in
      let m = memory_text r.memory.inputs r.memory.made in
      append_assoc (i ++ c ++ t) m (codes "end\n")
      ∙ (append_assoc (i ++ c) t (m ++ codes "end\n")
      ∙ (append_assoc i c (t ++ (m ++ codes "end\n"))
      ∙ (ap (λ x. i ++ (c ++ (t ++ x))) (memory-onto r.memory.inputs r.memory.made (codes "end\n"))
      ∙ (ap (λ x. i ++ (c ++ x)) (trace-onto r.forest (codes "memory " ++ the_memory))
      ∙ (ap (λ x. i ++ x) (call-onto r.function r.args (codes "trace " ++ the_trace)) ∙ inputs-onto r.inputs (codes "run " ++ the_call))))))

  call-back : HasDump r → InRange r → call_record r.inputs the_call ≡ r
  call-back h k =
      rw (
        small-back r.function (words_text r.args ++ (codes "\ntrace " ++ the_trace)) k.function (words-stop r.args (codes "\ntrace " ++ the_trace) (record { ends = refl; dot = refl })).ends,
        words-back r.args (codes "\ntrace " ++ the_trace) k.args (record { ends = refl; dot = refl }) refl,
        trace-back r.forest (codes "memory " ++ the_memory) h.items k.items,
        memory-back r.memory.inputs r.memory.made (codes "end\n") h.memory h.made k.memory k.made,
      ) refl

  pub record-back : HasDump r → InRange r → record_at (dump_text r) ≡ r
  unfolding record_at
  record-back h k = rw (dump-onto, inputs-back r.inputs (codes "run " ++ the_call) h.inputs k.inputs) (call-back h k)

pub one-record : OneRecordLaw
one-record bytes r s h k = sym (record-back r h.has h.range) ∙ (ap record_at (sym h.text ∙ k.text) ∙ record-back s k.has k.range)

pub read-back : ReadBackLaw
read-back bytes r (Ok s) h k = one-record bytes s r k h
read-back bytes r (Err Memory) h k = tt
read-back bytes r (Err Unreadable) h k = k r h

-- the bytes of a record are read as it
pub record-read : (bytes : List ℕ) (r : Record) → IsDump bytes r → record_at bytes ≡ r
record-read bytes r h = ap record_at h.text ∙ record-back r h.has h.range

if-range : {A : Type 0} (P : A → Type 0) (t : Bool) (a b : A × List ℕ) → P a.0 → P b.0 → P (if t then a else b).0
if-range P true a b h k = h
if-range P false a b h k = k

block_of-range : (t : Bool) (n : ℕ) → Small n → (b : ℕ) → (b == 105) ≡ t → SmallBlock (block_of b n)
block_of-range true n h b e = rw e h
block_of-range false n h b e = rw e h

block-range : (bs : List ℕ) → SmallBlock (block_at bs).0
unfolding block_at
block-range bs = block_of-range (first_byte bs == 105) (small_at (drop 1 bs)).0 (small-range (drop 1 bs)) (first_byte bs) refl

place-range : (bs : List ℕ) → SmallPlace (place_at bs).0
unfolding place_at
place-range bs = (block-range bs, small-range (drop 1 (block_at bs).1))

pointer-range : (bs : List ℕ) → SmallWord (pointer_at bs).0
unfolding pointer_at
pointer-range bs = if-range SmallWord (first_byte (block_at bs).1 == 46) _ _ (place-range bs) (block-range bs)

positive-range : (n : ℕ) (t : Bool) → nat_lt n (2 ^ 63) ≡ t → SmallWord (Num (positive n))
positive-range n true e = rw e (grind (arith, nat_tests, e))
positive-range n false e = rw e (omega arith)

negative-range : (n : ℕ) → SmallWord (Num (negative n))
negative-range zero = omega arith
negative-range (suc n) = go (nat_lt n (2 ^ 63)) refl
  where
    go : (t : Bool) → nat_lt n (2 ^ 63) ≡ t → SmallWord (Num (negative (suc n)))
    go true e = rw e (grind (arith, nat_tests, e))
    go false e = rw e (omega arith)

int-range : (bs : List ℕ) → SmallWord (Num (int_at bs).0)
unfolding int_at
int-range bs =
    if-range (λ z. SmallWord (Num z)) (first_byte bs == 45) _ _ (negative-range (number_at (drop 1 bs)).0) (positive-range (number_at bs).0 (nat_lt (number_at bs).0 (2 ^ 63)) refl)

word-range : (bs : List ℕ) → SmallWord (word_at bs).0
unfolding word_at
word-range bs = if-range SmallWord (first_byte bs == 110) _ _ tt (if-range SmallWord (is_pointer (first_byte bs)) _ _ (pointer-range bs) (int-range bs))

words-range : (k : ℕ) (bs : List ℕ) → SmallWords (words_from k bs).0
unfolding words_from
words-range zero bs = tt
words-range (suc k) bs = if-range SmallWords (first_byte bs == 32) _ _ (word-range (drop 1 bs), words-range k (word_at (drop 1 bs)).1) tt

args-range : (bs : List ℕ) → SmallWords (words_at bs).0
unfolding words_at
args-range bs = words-range (length bs) bs

shape-range : (bs : List ℕ) → SmallShape (shape_at bs).0
unfolding shape_at
shape-range bs = if-range SmallShape (first_byte bs == 115) _ _ (small-range (drop 1 bs)) (if-range SmallShape (first_byte bs == 112) _ _ (small-range (drop 1 bs)) tt)

line-range : (bs : List ℕ) → SmallShape (line_at bs).0.shape × SmallWords (line_at bs).0.words
unfolding line_at
line-range bs = (shape-range bs, args-range (shape_at bs).1)

blocks-range : (n : ℕ) (bs : List ℕ) → SmallBlocks (blocks_from n bs).0
unfolding many_from
blocks-range zero bs = tt
blocks-range (suc n) bs = if-range SmallBlocks (length bs == 0) _ _ tt (line-range bs, blocks-range n (line_at bs).1)

key-range : (bs : List ℕ) → SmallKey (key_at bs).0
unfolding key_at
key-range bs =
    if-range SmallKey (first_byte bs == 102) _ _ (small-range (drop 1 bs), args-range (small_at (drop 1 bs)).1) (if-range SmallKey (first_byte bs == 112) _ _ (small-range (drop 1 bs)) tt)

alloc-range : (bs : List ℕ) → SmallItem (alloc_at bs).0
unfolding alloc_at
alloc-range bs = (block-range bs, key-range (drop 1 (block_at bs).1))

write-range : (bs : List ℕ) → SmallItem (write_at bs).0
unfolding write_at
write-range bs = (place-range bs, word-range (drop 1 (place_at bs).1))

read-range : (bs : List ℕ) → SmallItem (read_at bs).0
unfolding read_at
read-range bs =
    let x = drop 2 (word_at (drop 1 (place_at bs).1)).1 in
    let y = drop 2 (small_at x).1 in
    (place-range bs, word-range (drop 1 (place_at bs).1), small-range x, small-range y, args-range (small_at y).1)

item-range : (bs : List ℕ) → SmallItem (item_at bs).0
unfolding item_at
item-range bs =
    if-range SmallItem (first_byte bs == 115) _ _ tt
    (if-range SmallItem (first_byte bs == 97) _ _ (alloc-range (drop 2 bs))
    (if-range SmallItem (first_byte bs == 119) _ _ (write-range (drop 2 bs)) (if-range SmallItem (first_byte bs == 114) _ _ (read-range (drop 2 bs)) tt)))

items-range : (n : ℕ) (bs : List ℕ) → SmallItems (items_from n bs).0
unfolding many_from
items-range zero bs = tt
items-range (suc n) bs = if-range SmallItems (length bs == 0) _ _ tt (item-range bs, items-range n (item_at bs).1)

inputs-range : (bs : List ℕ) → SmallBlocks (inputs_at bs).0
unfolding inputs_at
inputs-range bs = blocks-range (small_at bs).0 (drop 1 (small_at bs).1)

trace-range : (bs : List ℕ) → SmallItems (trace_at bs).0
unfolding trace_at
trace-range bs = items-range (small_at bs).0 (drop 1 (small_at bs).1)

memory-range : (bs : List ℕ) → SmallBlocks (memory_at bs).inputs × SmallBlocks (memory_at bs).made
unfolding memory_at
memory-range bs =
    let b = small_at (drop 1 (small_at bs).1) in
    let inputs = blocks_from (small_at bs).0 (drop 1 b.1) in
    (blocks-range (small_at bs).0 (drop 1 b.1), blocks-range b.0 inputs.1)

pub record-range : (bs : List ℕ) → InRange (record_at bs)
unfolding record_at
record-range bs =
    let x = drop 4 (inputs_at (drop 20 bs)).1 in
    let args = words_at (small_at x).1 in
    let trace = trace_at (drop 7 args.1) in
    record {
      inputs = inputs-range (drop 20 bs);
      function = small-range x;
      args = args-range (small_at x).1;
      items = trace-range (drop 7 args.1);
      memory = (memory-range (drop 7 trace.1)).0;
      made = (memory-range (drop 7 trace.1)).1;
    }
