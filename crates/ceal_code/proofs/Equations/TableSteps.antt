-- The tables of a trace's memory, call by call.
use Rattle.std.proofs.Common.{◌≡◌, ℕ, zero, suc, ◌+◌, ◌==◌, ◌&&◌, Bool, true, false, cond, if◌then◌else◌, Option, Some, None, List, [], ◌∷◌, ◌++◌, length, append_assoc, append-nil, slice_get, refl}
use Rattle.std.proofs.Common.{sym, ap, ◌∙◌, unwrap_or, arith}
use Rattle.std.specs.BTreeMap.{get}
use Rattle.std.specs.Option.{option_map}
use Rattle.std.specs.Ordering.{is_eq}
use Rattle.std.proofs.Math.Path.{fun_ext}
use Rattle.ceal_base.specs.Block.{Block}
use Rattle.ceal_base.specs.Operators.{same_block}
use Rattle.ceal_base.specs.Shapes.{kinds_of_shape}
use Rattle.ceal_base.specs.Trace.{Trace, Nothing, Stepped, Allocated, Wrote, WasRead, flat}
use Rattle.ceal_base.specs.contracts.word.BlockIdOrd.TheImpl.{ghosts}
use Rattle.ceal_base.specs.declared.forest.Item.{Item}
use Rattle.ceal_base.specs.declared.forest.Item.TheVariants.{End}
use Rattle.ceal_base.specs.declared.forest.Key.{Key}
use Rattle.ceal_base.specs.declared.kind.FieldKind.{FieldKind}
use Rattle.ceal_base.specs.declared.kind.Shape.{Shape}
use Rattle.ceal_base.specs.declared.word.BlockId.{BlockId}
use Rattle.ceal_base.specs.declared.word.BlockId.TheVariants.{Input, Core}
use Rattle.ceal_base.specs.declared.word.Place.{Place}
use Rattle.ceal_base.specs.declared.word.Word.{Word}
use Rattle.ceal_code.proofs.Words.SameIsEqual.{nat-compared, block-same, block-refl}
use Rattle.ceal_code.specs.After.{store_after}
use Rattle.ceal_code.specs.Init.{made}
use Rattle.ceal_code.specs.PlainWords.{block_shape, block_word}
use Rattle.ceal_code.specs.Program.{Code}
use Rattle.ceal_code.specs.Replay.{Store, bases, learnt, input_plain, plain_words, plain_after, plain_of, cleared, stored, shape_of, cell_default, with_contents, block_after, filled}
use Rattle.ceal_code.specs.Tables.{plain_field_word, code_in, inputs_in, made_or, plain_in, unwritten, word_in, store_in, plain_item, plain_flat, store_item, store_flat, defaulted}
use Rattle.ceal_code.specs.Value.{Plain, field_kind, is_cell}
use Rattle.ceal_code.specs.declared.contents.Fields.{Fields}
use Rattle.ceal_code.specs.declared.trace_memory.TraceMemory.{TraceMemory}

same-option : (o : Option Word) → o ≡ option_map (λ w. w) o
same-option None = refl
same-option (Some w) = refl

-- the plain word of a field is that of its word
pub plain-at : (kinds : List FieldKind) (words : List Word) (f : ℕ)
    → slice_get (plain_words kinds words) f ≡ option_map (plain_field_word (slice_get kinds f)) (slice_get words f)
plain-at [] words zero = same-option (slice_get words zero)
plain-at [] words (suc f) = same-option (slice_get words (suc f))
plain-at (k ∷ ks) [] zero = refl
plain-at (k ∷ ks) [] (suc f) = refl
plain-at (k ∷ ks) (w ∷ ws) zero = refl
plain-at (k ∷ ks) (w ∷ ws) (suc f) = plain-at ks ws f

pub ruleset input_steps = (plain-at)

-- the plain word of an input's field
pub input-some : (code : Code) (inputs : List Block) (b : BlockId) (n f : ℕ) (block : Block) (w : Option Word) → b ≡ Input n → Some block ≡ slice_get inputs n
    → w ≡ option_map (plain_field_word (slice_get (kinds_of_shape code.structs block.shape) f)) (slice_get block.words f) → w ≡ block_word (input_plain code inputs b) f
unfolding input_plain
input-some code inputs b n f block w e h k = rw (e, ← h) (k ∙ sym (plain-at (kinds_of_shape code.structs block.shape) block.words f))

-- with contents, word by word
contents-at : (s : Store) (b : BlockId) (n : ℕ) (kinds : List FieldKind) (words : List Word) (f : ℕ)
    → slice_get (with_contents s b n kinds words) f
    ≡ option_map (λ w. if is_cell (slice_get kinds f) then s (record { block = b; field = n + f }) else w) (slice_get words f)
contents-at s b n [] words zero = same-option (slice_get words zero)
contents-at s b n [] words (suc f) = same-option (slice_get words (suc f))
contents-at s b n (k ∷ ks) [] zero = refl
contents-at s b n (k ∷ ks) [] (suc f) = refl
contents-at s b n (k ∷ ks) (w ∷ ws) zero = let e : n + 0 ≡ n = omega arith in rw e refl
contents-at s b n (k ∷ ks) (w ∷ ws) (suc f) = let e : n + suc f ≡ n + 1 + f = omega arith in rw e (contents-at s b (n + 1) ks ws f)

-- a word of memory after a trace, from the shape of its block and its plain word
abbrev pub after_word : Code → Store → BlockId → ℕ → Option Shape → Option Word → Option Word
after_word code s b f None w = None
after_word code s b f (Some shape) None = None
after_word code s b f (Some shape) (Some word) = Some (if is_cell (field_kind code.structs shape f) then s (record { block = b; field = f }) else word)

map-word : (code : Code) (s : Store) (b : BlockId) (f : ℕ) (shape : Shape) (w : Option Word)
    → option_map (λ w. if is_cell (field_kind code.structs shape f) then s (record { block = b; field = f }) else w) w ≡ after_word code s b f (Some shape) w
map-word code s b f shape None = refl
map-word code s b f shape (Some word) = refl

filled-at : (code : Code) (s : Store) (b : BlockId) (o : Option Block) (f : ℕ)
    → block_word (option_map (filled code s b) o) f ≡ after_word code s b f (block_shape o) (block_word o f)
filled-at code s b None f = refl
filled-at code s b (Some block) f =
    let e : 0 + f ≡ f = omega arith in
    (rw e at (contents-at s b 0 (kinds_of_shape code.structs block.shape) block.words f)) ∙ map-word code s b f block.shape (slice_get block.words f)

pub word-after : (code : Code) (x : Plain) (s : Store) (b : BlockId) (f : ℕ)
    → block_word (block_after code x s b) f ≡ after_word code s b f (block_shape (x b)) (block_word (x b) f)
unfolding block_after
word-after code x s b f = filled-at code s b (x b) f

pub ruleset after_steps = (word-after)

-- the order of blocks in code: they are compared as equal where they are one
pub eq-block : (a b : BlockId) → is_eq (ghosts.cmp a b) ≡ same_block a b
eq-block (Input m) (Input n) = nat-compared m n
eq-block (Core m) (Core n) = nat-compared m n
eq-block (Input m) (Core n) = refl
eq-block (Core m) (Input n) = refl

block-flip-by : (a b : BlockId) (x : Bool) → same_block a b ≡ x → same_block b a ≡ x
block-flip-by a b true e = rw (block-same a b e) (block-refl b)
block-flip-by a b false e = go (same_block b a) refl
  where
    go : (y : Bool) → same_block b a ≡ y → y ≡ false
    go false k = refl
    go true k = absurd (grind (arith, rw (block-same b a k) at e, block-refl a))

pub block-flip : (a b : BlockId) → same_block b a ≡ same_block a b
block-flip a b = block-flip-by a b (same_block a b) refl

-- at the beginning
pub plain-new : (m : TraceMemory) → m.made.entries ≡ [] → plain_in m ≡ input_plain (code_in m) (inputs_in m)
unfolding plain_in
plain-new m e = fun_ext (λ b. rw e refl)

pub store-new : (m : TraceMemory) → m.contents.entries ≡ [] → store_in m ≡ bases (code_in m) (inputs_in m)
unfolding store_in
store-new m e = fun_ext (λ p. rw e refl)

-- a block is learnt
pub made-learnt : (old next : TraceMemory) (id : BlockId) (block : Block) → code_in next ≡ code_in old → inputs_in next ≡ inputs_in old
    → ((b : BlockId) → get ghosts.cmp next.made b ≡ cond (is_eq (ghosts.cmp id b)) (Some block) (get ghosts.cmp old.made b))
    → plain_in next ≡ learnt (plain_in old) id block
unfolding plain_in learnt
made-learnt old next id block e k update = fun_ext (λ b.
    ap (λ o. made_or o (input_plain (code_in next) (inputs_in next) b)) (update b ∙ ap (λ (t : Bool). cond t (Some block) (get ghosts.cmp old.made b)) (eq-block id b ∙ sym (block-flip id b)))
    ∙ rw (e, k) (go b (same_block b id)))
  where
    go : (b : BlockId) (t : Bool) → made_or (cond t (Some block) (get ghosts.cmp old.made b)) (input_plain (code_in old) (inputs_in old) b)
        ≡ (if t then Some block else made_or (get ghosts.cmp old.made b) (input_plain (code_in old) (inputs_in old) b))
    go b true = refl
    go b false = refl

-- a block is made
pub contents-clear : (old next : TraceMemory) (fields : Fields) (id : BlockId) (shape : Shape) (key : Key) → code_in next ≡ code_in old → inputs_in next ≡ inputs_in old
    → ((code : Code) (s : Store) (p : Place) → word_in code s (Some fields) p ≡ unwritten code s (Some shape) p)
    → ((b : BlockId) → get ghosts.cmp next.contents b ≡ cond (is_eq (ghosts.cmp id b)) (Some fields) (get ghosts.cmp old.contents b))
    → shape ≡ shape_of (code_in old) key → store_in next ≡ cleared (code_in old) (store_in old) id key
unfolding store_in cleared
contents-clear old next fields id shape key e i fresh update k = fun_ext (λ q.
    ap (λ o. word_in (code_in next) (bases (code_in next) (inputs_in next)) o q)
    (update q.block ∙ ap (λ b. cond b (Some fields) (get ghosts.cmp old.contents q.block)) (eq-block id q.block ∙ sym (block-flip id q.block)))
    ∙ rw (e, i) (go q (same_block q.block id)))
  where
    go : (q : Place) (b : Bool)
        → word_in (code_in old) (bases (code_in old) (inputs_in old)) (cond b (Some fields) (get ghosts.cmp old.contents q.block)) q
        ≡ (if b then cell_default (field_kind (code_in old).structs (shape_of (code_in old) key) q.field) else word_in (code_in old) (bases (code_in old) (inputs_in old))
        (get ghosts.cmp old.contents q.block) q)
    go q true = fresh (code_in old) (bases (code_in old) (inputs_in old)) q ∙ rw k refl
    go q false = refl

-- a block is known
pub contents-known : (old next : TraceMemory) (fields : Fields) (id : BlockId) (block : Block) → code_in next ≡ code_in old → inputs_in next ≡ inputs_in old
    → ((code : Code) (s : Store) (p : Place) → word_in code s (Some fields) p ≡ unwritten code s (Some block.shape) p)
    → ((b : BlockId) → get ghosts.cmp next.contents b ≡ cond (is_eq (ghosts.cmp id b)) (Some fields) (get ghosts.cmp old.contents b))
    → store_in next ≡ defaulted (code_in old) (store_in old) id block
unfolding store_in defaulted
contents-known old next fields id block e i fresh update = fun_ext (λ q.
    ap (λ o. word_in (code_in next) (bases (code_in next) (inputs_in next)) o q)
    (update q.block ∙ ap (λ b. cond b (Some fields) (get ghosts.cmp old.contents q.block)) (eq-block id q.block ∙ sym (block-flip id q.block)))
    ∙ rw (e, i) (go q (same_block q.block id)))
  where
    go : (q : Place) (b : Bool)
        → word_in (code_in old) (bases (code_in old) (inputs_in old)) (cond b (Some fields) (get ghosts.cmp old.contents q.block)) q
        ≡ (if b then cell_default (field_kind (code_in old).structs block.shape q.field) else word_in (code_in old) (bases (code_in old) (inputs_in old)) (get ghosts.cmp old.contents q.block) q)
    go q true = fresh (code_in old) (bases (code_in old) (inputs_in old)) q
    go q false = refl

-- what was written of a block, where nothing is told as nothing written
opened : (code : Code) (s : Store) (o : Option Fields) (fields blank : Fields) (p : Place) → fields ≡ unwrap_or o blank
    → ((p : Place) → word_in code s (Some blank) p ≡ unwritten code s None p) → word_in code s (Some fields) p ≡ word_in code s o p
opened code s None fields blank p e h = rw e (h p)
opened code s (Some found) fields blank p e h = rw e refl

-- a place is written
pub contents-put : (old next : TraceMemory) (blank : Fields) (place : Place) (value : Word) → code_in next ≡ code_in old → inputs_in next ≡ inputs_in old
    → ((code : Code) (s : Store) (p : Place) → word_in code s (Some blank) p ≡ unwritten code s None p)
    → ((code : Code) (s : Store) (p : Place) → word_in code s (get ghosts.cmp next.contents place.block) p
    ≡ (if p.field == place.field then value else word_in code s (Some (unwrap_or (get ghosts.cmp old.contents place.block) blank)) p))
    → ((b : BlockId) → is_eq (ghosts.cmp place.block b) ≡ false → get ghosts.cmp next.contents b ≡ get ghosts.cmp old.contents b)
    → store_in next ≡ stored (store_in old) place value
unfolding store_in stored
contents-put old next blank place value e i fresh here others = fun_ext (λ q. rw (e, i) (go q (same_block place.block q.block) refl))
  where
    base : Store
    base = bases (code_in old) (inputs_in old)

    go : (q : Place) (b : Bool) → same_block place.block q.block ≡ b
        → word_in (code_in old) base (get ghosts.cmp next.contents q.block) q
        ≡ (if same_block q.block place.block && q.field == place.field then value else word_in (code_in old) base (get ghosts.cmp old.contents q.block) q)
    go q true h =
        rw (block-flip place.block q.block, h)
        (ap (λ b. word_in (code_in old) base (get ghosts.cmp next.contents b) q) (sym (block-same place.block q.block h))
        ∙ (here (code_in old) base q ∙ ap (λ w. if q.field == place.field then value else w)
        (opened (code_in old) base (get ghosts.cmp old.contents place.block) (unwrap_or (get ghosts.cmp old.contents place.block) blank) blank q refl (fresh (code_in old) base)
        ∙ ap (λ b. word_in (code_in old) base (get ghosts.cmp old.contents b) q) (block-same place.block q.block h))))
    go q false h =
        rw (block-flip place.block q.block, h) (ap (λ o. word_in (code_in old) base o q) (others q.block (eq-block place.block q.block ∙ h)))

-- items, one by one
pub plain-none : (code : Code) (x : Plain) → plain_flat code x [] ≡ x
unfolding plain_flat
plain-none code x = refl

pub plain-more : (code : Code) (x : Plain) (i : Item) (is : List Item) → plain_flat code x (i ∷ is) ≡ plain_flat code (plain_item code x i) is
unfolding plain_flat
plain-more code x i is = refl

pub ruleset plain_steps = (plain-none, plain-more)

pub store-none : (code : Code) (s : Store) → store_flat code s [] ≡ s
unfolding store_flat
store-none code s = refl

pub store-more : (code : Code) (s : Store) (i : Item) (is : List Item) → store_flat code s (i ∷ is) ≡ store_flat code (store_item code s i) is
unfolding store_flat
store-more code s i is = refl

pub ruleset store_steps = (store-none, store-more)

pub plain-end : (code : Code) (x y : Plain) (is : List Item) → length is ≡ 0 → plain_flat code x is ≡ y → x ≡ y
unfolding plain_flat
plain-end code x y [] h e = e
plain-end code x y (i ∷ is) h e = absurd (omega (arith, h))

pub store-end : (code : Code) (s t : Store) (is : List Item) → length is ≡ 0 → store_flat code s is ≡ t → s ≡ t
unfolding store_flat
store-end code s t [] h e = e
store-end code s t (i ∷ is) h e = absurd (omega (arith, h))

plain-then : (code : Code) (x : Plain) (l : Trace) (is : List Item) → plain_flat code x (flat l ++ is) ≡ plain_flat code (plain_after code x l) is
unfolding plain_flat
plain-then code x Nothing is = refl
plain-then code x (Stepped rest) is = plain-then code x rest is
plain-then code x (Allocated b key rest) is = plain-then code (learnt x b (made code x key)) rest is
plain-then code x (Wrote p value rest) is = plain-then code x rest is
plain-then code x (WasRead p value u v args inside rest) is =
    rw (append_assoc (flat inside) (End ∷ flat rest) is) (plain-then code x inside (End ∷ (flat rest ++ is)) ∙ plain-then code (plain_after code x inside) rest is)

-- those of a trace are those of its flat items
pub plain-of-flat : (code : Code) (inputs : List Block) (l : Trace) → plain_flat code (input_plain code inputs) (flat l) ≡ plain_of code inputs l
unfolding plain_of plain_flat
plain-of-flat code inputs l = ap (plain_flat code (input_plain code inputs)) (sym (append-nil (flat l))) ∙ plain-then code (input_plain code inputs) l []

store-then : (code : Code) (s : Store) (l : Trace) (is : List Item) → store_flat code s (flat l ++ is) ≡ store_flat code (store_after code s l) is
unfolding store_flat
store-then code s Nothing is = refl
store-then code s (Stepped rest) is = store-then code s rest is
store-then code s (Allocated b key rest) is = store-then code (cleared code s b key) rest is
store-then code s (Wrote p value rest) is = store-then code (stored s p value) rest is
store-then code s (WasRead p value u v args inside rest) is =
    rw (append_assoc (flat inside) (End ∷ flat rest) is) (store-then code s inside (End ∷ (flat rest ++ is)) ∙ store-then code (store_after code s inside) rest is)

pub store-of-flat : (code : Code) (s : Store) (l : Trace) → store_flat code s (flat l) ≡ store_after code s l
unfolding store_flat
store-of-flat code s l = ap (store_flat code s) (sym (append-nil (flat l))) ∙ store-then code s l []

-- after all items
pub plain-done : (code now : Code) (inputs : List Block) (x y z : Plain) (items : List Item) → now ≡ code → x ≡ input_plain code inputs
    → y ≡ plain_flat now x items → z ≡ y → (l : Trace) → items ≡ flat l → z ≡ plain_of code inputs l
plain-done code now inputs x y z items e h k m l f = m ∙ (k ∙ (rw (e, h, f) refl ∙ plain-of-flat code inputs l))

pub store-done : (code now : Code) (s t u : Store) (items : List Item) → now ≡ code → t ≡ s → u ≡ store_flat now t items
    → (l : Trace) → items ≡ flat l → u ≡ store_after code s l
store-done code now s t u items e h k l f = k ∙ (rw (e, h, f) refl ∙ store-of-flat code s l)

pub memory-done : (code now : Code) (x y : Plain) (s t : Store) (b : BlockId) → now ≡ code → y ≡ x → t ≡ s → block_after now y t b ≡ block_after code x s b
memory-done code now x y s t b e h k = rw (e, h, k) refl
