-- What blocks are known along items that mention only known blocks and allocate each block once.
use Rattle.std.proofs.Common.{◌≡◌, ℕ, zero, suc, ◌+◌, ◌≤◌, ◌<◌, ◌==◌, ◌&&◌, Bool, true, false, not, if◌then◌else◌}
use Rattle.std.proofs.Common.{Option, Some, None, List, [], ◌∷◌, ◌++◌, ◌⊎◌, inl, inr, length, slice_get, is_some, refl}
use Rattle.std.proofs.Common.{sym, ap, ◌∙◌, subst, append_assoc, arith}
use Rattle.std.specs.Option.{option_map}
use Rattle.std.proofs.lemmas.Bool.{false≢true}
use Rattle.ceal_base.specs.Block.{Block}
use Rattle.ceal_base.specs.Fitting.{inputs_fit}
use Rattle.ceal_base.specs.Operators.{same_block}
use Rattle.ceal_base.specs.Shapes.{kinds_of_shape}
use Rattle.ceal_base.specs.Trace.{Trace, Nothing, Stepped, Allocated, Wrote, WasRead, flat, blocks_of}
use Rattle.ceal_base.specs.declared.forest.Item.{Item}
use Rattle.ceal_base.specs.declared.forest.Item.TheVariants.{Step, Alloc, Write, Read, End}
use Rattle.ceal_base.specs.declared.forest.Key.{Key}
use Rattle.ceal_base.specs.declared.forest.Key.TheVariants.{Init, ModInt as IntKey, ModPtr as PtrKey}
use Rattle.ceal_base.specs.declared.kind.FieldKind.{FieldKind}
use Rattle.ceal_base.specs.declared.kind.FieldKind.TheVariants.{Plain as PlainField, CellInt, CellPtr}
use Rattle.ceal_base.specs.declared.word.BlockId.{BlockId}
use Rattle.ceal_base.specs.declared.word.BlockId.TheVariants.{Input, Core}
use Rattle.ceal_base.specs.declared.word.Word.{Word}
use Rattle.ceal_base.specs.declared.word.Word.TheVariants.{Num, Null, Block as BlockWord, At}
use Rattle.ceal_code.proofs.Replay.DeterminedRun.{cores-append}
use Rattle.ceal_code.proofs.TypedCode.FittingWords.{input-known}
use Rattle.ceal_code.proofs.Words.StepLocality.{words-more, made-known, made-same}
use Rattle.ceal_code.proofs.Replay.MemoryChanges.{get-within, got}
use Rattle.ceal_code.proofs.Alike.BlockPairs.{one-at}
use Rattle.ceal_code.proofs.Words.SameIsEqual.{both, both-true, nat-same, block-same, block-refl, none-some}
use Rattle.ceal_code.specs.Init.{made}
use Rattle.ceal_code.specs.Known.{Held, Holds, Agree}
use Rattle.ceal_code.specs.Program.{Code}
use Rattle.ceal_code.specs.Replay.{In, here, there, KnownBlock, KnownWord, KnownWords, KnownKey, Mentions, count, core_numbers, learnt, plain_words, plain_block, input_plain, plain_after}
use Rattle.ceal_code.specs.Tables.{plain_flat}
use Rattle.ceal_code.specs.Value.{Plain}
use Rattle.ceal_traceck.proofs.Accepted.{MadeItems}
use Rattle.ceal_traceck.specs.Items.{word_known, words_known, key_known, is_new, all_named}

-- what x knows y knows
abbrev pub Extends : Plain → Plain → Type 0
Extends x y = (b : BlockId) (block : Block) → x b ≡ Some block → y b ≡ Some block

some-there : {A : Type 0} (o : Option A) (a : A) → o ≡ Some a → is_some o ≡ true
some-there o a e = rw e refl

not-there : {A : Type 0} (o : Option A) → not (is_some o) ≡ true → o ≡ None
not-there None h = refl
not-there (Some a) h = absurd (grind (arith, h))

none-there : {A : Type 0} (o : Option A) → o ≡ None → not (is_some o) ≡ true
none-there o e = rw e refl

-- how often a number is in a list
pub in-count : (b : ℕ) (bs : List ℕ) → In b bs → 1 ≤ count b bs
in-count b [] i = elim i [ ]
in-count b (c ∷ bs) here = omega (arith, one-at b b refl)
in-count b (c ∷ bs) (there i) = omega (arith, in-count b bs i)

pub count-in : (b : ℕ) (bs : List ℕ) → 1 ≤ count b bs → In b bs
count-in b [] h = absurd (omega (arith, h))
count-in b (c ∷ bs) h = go (c == b) refl (λ k. count-in b bs k)
  where
    go : (t : Bool) → (c == b) ≡ t → (1 ≤ count b bs → In b bs) → In b (c ∷ bs)
    go true e later = subst (λ c. In b (c ∷ bs)) (sym (nat-same c b e)) here
    go false e later = there (later (few (c == b) e h))
      where
        few : (t : Bool) → t ≡ false → 1 ≤ (if t then 1 else 0) + count b bs → 1 ≤ count b bs
        few t e h = let k = rw e at h in omega (arith, k)

module _ (n : ℕ) (code : Code) where
  -- the plain words have the known blocks, which mention only known blocks, and no others
  pub record Knows (bs : List ℕ) (x : Plain) : Type 0 where
    pub holds : Holds n bs x
    pub only : (b : BlockId) → is_some (x b) ≡ true → KnownBlock n bs b

  module _ (bs : List ℕ) (x : Plain) (k : Knows bs x) where
    block-there : (b : BlockId) → KnownBlock n bs b → is_some (x b) ≡ true
    block-there b h = let g = k.holds b h in some-there (x b) g.block g.there

    word-of : (w : Word) → word_known x w ≡ true → KnownWord n bs w
    word-of (Num m) h = tt
    word-of Null h = tt
    word-of (BlockWord b) h = k.only b h
    word-of (At p) h = k.only p.block h

    of-word : (w : Word) → KnownWord n bs w → word_known x w ≡ true
    of-word (Num m) h = refl
    of-word Null h = refl
    of-word (BlockWord b) h = block-there b h
    of-word (At p) h = block-there p.block h

    words-of : (ws : List Word) → words_known x ws ≡ true → KnownWords n bs ws
    words-of [] h = tt
    words-of (w ∷ ws) h = let g = both (word_known x w) (words_known x ws) h in (word-of w g.0, words-of ws g.1)

    of-words : (ws : List Word) → KnownWords n bs ws → words_known x ws ≡ true
    of-words [] h = refl
    of-words (w ∷ ws) h = both-true (word_known x w) (words_known x ws) (of-word w h.0) (of-words ws h.1)

    key-of : (key : Key) → key_known x key ≡ true → KnownKey n bs key
    key-of (Init f args) h = words-of args h
    key-of IntKey h = tt
    key-of (PtrKey s) h = tt

    of-key : (key : Key) → KnownKey n bs key → key_known x key ≡ true
    of-key (Init f args) h = of-words args h
    of-key IntKey h = refl
    of-key (PtrKey s) h = refl

    -- a block that is not known is new
    new-count : (b : ℕ) → is_new x (Core b) ≡ true → count b bs ≡ 0
    new-count b h = go (count b bs) refl
      where
        go : (m : ℕ) → count b bs ≡ m → count b bs ≡ 0
        go zero e = e
        go (suc m) e =
            let there' = block-there (Core b) (count-in b bs (omega (arith, e))) in
            absurd (false≢true (rw (not-there (x (Core b)) h) at there'))

    count-new : (b : ℕ) → count b bs ≡ 0 → is_new x (Core b) ≡ true
    count-new b e = go (x (Core b)) refl
      where
        go : (o : Option Block) → x (Core b) ≡ o → is_new x (Core b) ≡ true
        go None h = none-there (x (Core b)) h
        go (Some block) h = absurd (omega (arith, e, in-count b bs (k.only (Core b) (some-there (x (Core b)) block h))))

learnt-here : (x : Plain) (b : BlockId) (new : Block) → learnt x b new b ≡ Some new
unfolding learnt
learnt-here x b new = rw (block-refl b)

extends-if : (x : Plain) (b : ℕ) (c : BlockId) (new block : Block) (t : Bool) → same_block c (Core b) ≡ t → x (Core b) ≡ None → x c ≡ Some block → (if t then Some new else x c) ≡ Some block
extends-if x b c new block false s h e = e
extends-if x b c new block true s h e = none-some block (sym h ∙ (ap x (sym (block-same c (Core b) s)) ∙ e))

learnt-extends : (x : Plain) (b : ℕ) (new : Block) → x (Core b) ≡ None → Extends x (learnt x (Core b) new)
unfolding learnt
learnt-extends x b new h c block e = extends-if x b c new block (same_block c (Core b)) refl h e

learnt-only-if : (x : Plain) (b : ℕ) (c : BlockId) (new : Block) (t : Bool) → same_block c (Core b) ≡ t → is_some (if t then Some new else x c) ≡ true → (c ≡ Core b) ⊎ (is_some (x c) ≡ true)
learnt-only-if x b c new false s h = inr h
learnt-only-if x b c new true s h = inl (block-same c (Core b) s)

learnt-only : (x : Plain) (b : ℕ) (c : BlockId) (new : Block) → is_some (learnt x (Core b) new c) ≡ true → (c ≡ Core b) ⊎ (is_some (x c) ≡ true)
unfolding learnt
learnt-only x b c new h = learnt-only-if x b c new (same_block c (Core b)) refl h

extends-agree : (n : ℕ) (bs : List ℕ) (x y : Plain) → Holds n bs x → Extends x y → Agree n bs x y
extends-agree n bs x y h e b k = let g = h b k in g.there ∙ sym (e b g.block g.there)

held-more : (n : ℕ) (bs : List ℕ) (b : ℕ) (x y : Plain) → Extends x y → (c : BlockId) → Held n bs x c → Held n (b ∷ bs) y c
held-more n bs b x y ext c h = record { block = h.block; there = ext c h.block h.there; known = words-more n bs (b ∷ bs) (λ c i. there i) h.block.words h.known }

once-more : (b : ℕ) (bs : List ℕ) → count b bs ≡ 0 → ((c : ℕ) → count c bs ≤ 1) → (c : ℕ) → count c (b ∷ bs) ≤ 1
once-more b bs fresh once c = go (b == c) refl
  where
    go : (t : Bool) → (b == c) ≡ t → count c (b ∷ bs) ≤ 1
    go false e = rw e (omega (arith, once c))
    go true e = rw e (let s : b ≡ c = nat-same b c e in omega (arith, rw s at fresh))

count-append : (b : ℕ) (bs cs : List ℕ) → count b (bs ++ cs) ≡ count b bs + count b cs
count-append b [] cs = omega arith
count-append b (c ∷ bs) cs = omega (arith, count-append b bs cs)

count-cores : (b : ℕ) (bs cs : List BlockId) → count b (core_numbers (bs ++ cs)) ≡ count b (core_numbers bs) + count b (core_numbers cs)
count-cores b bs cs = ap (count b) (cores-append bs cs) ∙ count-append b (core_numbers bs) (core_numbers cs)

module _ (n : ℕ) (code : Code) where
  -- with a block more
  knows-more : (bs : List ℕ) (x : Plain) (b : ℕ) (key : Key) → Knows n code bs x → KnownKey n bs key → x (Core b) ≡ None → Knows n code (b ∷ bs) (learnt x (Core b) (made code x key))
  knows-more bs x b key k known none = record { holds = holds; only = only }
    where
      new : Block
      new = made code x key

      holds : Holds n (b ∷ bs) (learnt x (Core b) (made code x key))
      holds (Input i) h = held-more n bs b x (learnt x (Core b) (made code x key)) (learnt-extends x b (made code x key) none) (Input i) (k.holds (Input i) h)
      holds (Core c) here = record {
        block = made code x key;
        there = learnt-here x (Core b) (made code x key);
        known = words-more n bs (b ∷ bs) (λ c i. there i) (made code x key).words (made-known n bs x k.holds x (λ c i. refl) code key known);
      }
      holds (Core c) (there i) = held-more n bs b x (learnt x (Core b) (made code x key)) (learnt-extends x b (made code x key) none) (Core c) (k.holds (Core c) i)

      only-if : (c : BlockId) → (c ≡ Core b) ⊎ (is_some (x c) ≡ true) → KnownBlock n (b ∷ bs) c
      only-if c (inl e) = subst (KnownBlock n (b ∷ bs)) (sym e) here
      only-if (Input i) (inr h) = k.only (Input i) h
      only-if (Core c) (inr h) = there (k.only (Core c) h)

      only : (c : BlockId) → is_some (learnt x (Core b) (made code x key) c) ≡ true → KnownBlock n (b ∷ bs) c
      only c h = only-if c (learnt-only x b c (made code x key) h)

  -- what the plain words are after such items
  pub record Learns (x : Plain) (is : List Item) : Type 0 where
    pub from : Extends x (plain_flat code x is)
    pub made' : MadeItems code (plain_flat code x is) is

  pub learns : (is : List Item) (bs : List ℕ) (x : Plain) → Knows n code bs x → all_named code x is ≡ true → Learns x is
  unfolding all_named plain_flat
  learns [] bs x k h = record { from = λ b block e. e; made' = tt }
  learns (Step ∷ is) bs x k h = let q = learns is bs x k h in record { from = q.from; made' = q.made' }
  learns (Alloc (Input i) key ∷ is) bs x k h =
      let g = both (key_known x key && false) (all_named code (learnt x (Input i) (made code x key)) is) h in
      none-some true (absurd (grind (arith, (both (key_known x key) false g.0).1)))
  learns (Alloc (Core b) key ∷ is) bs x k h =
      let new = made code x key in
      let x1 = learnt x (Core b) new in
      let g = both (key_known x key && is_new x (Core b)) (all_named code x1 is) h in
      let f = both (key_known x key) (is_new x (Core b)) g.0 in
      let none = not-there (x (Core b)) f.1 in
      let known = key-of n code bs x k key f.0 in
      let q = learns is (b ∷ bs) x1 (knows-more bs x b key k known none) g.1 in
      let ext : Extends x (plain_flat code x1 is) = λ c block e. q.from c block (learnt-extends x b new none c block e) in
      record {
        from = ext;
        made' = (
          q.from (Core b) new (learnt-here x (Core b) new) ∙ ap Some (made-same n bs x k.holds (plain_flat code x1 is) (extends-agree n bs x (plain_flat code x1 is) k.holds ext) code key known),
          q.made',
        );
      }
  learns (Write p value ∷ is) bs x k h =
      let g = both (is_some (x p.block) && word_known x value) (all_named code x is) h in
      let q = learns is bs x k g.1 in record { from = q.from; made' = q.made' }
  learns (Read p value u v args ∷ is) bs x k h =
      let g = both (is_some (x p.block) && (word_known x value && words_known x args)) (all_named code x is) h in
      let q = learns is bs x k g.1 in record { from = q.from; made' = q.made' }
  learns (End ∷ is) bs x k h = let q = learns is bs x k h in record { from = q.from; made' = q.made' }

  -- the items of a trace mention blocks allocated before, each once; the same holds of what follows
  pub record Mentioned (bs : List ℕ) (x : Plain) (l : Trace) (is : List Item) : Type 0 where
    pub known : List ℕ
    pub mentions : Mentions n bs l known
    pub knows : Knows n code known (plain_after code x l)
    pub counts : (b : ℕ) → count b known ≡ count b (core_numbers (blocks_of l)) + count b bs
    pub once : (b : ℕ) → count b known ≤ 1
    pub rest : all_named code (plain_after code x l) is ≡ true

  pub named-mentions : (l : Trace) (is : List Item) (bs : List ℕ) (x : Plain) → Knows n code bs x → ((b : ℕ) → count b bs ≤ 1) → all_named code x (flat l ++ is) ≡ true → Mentioned bs x l is
  unfolding all_named
  named-mentions Nothing is bs x k once h = record { known = bs; mentions = Mentions.end; knows = k; counts = λ b. omega arith; once = once; rest = h }
  named-mentions (Stepped l) is bs x k once h =
      let q = named-mentions l is bs x k once h in record { known = q.known; mentions = Mentions.step q.mentions; knows = q.knows; counts = q.counts; once = q.once; rest = q.rest }
  named-mentions (Allocated (Input i) key l) is bs x k once h =
      let g = both (key_known x key && false) (all_named code (learnt x (Input i) (made code x key)) (flat l ++ is)) h in
      absurd (grind (arith, (both (key_known x key) false g.0).1))
  named-mentions (Allocated (Core b) key l) is bs x k once h =
      let x1 = learnt x (Core b) (made code x key) in
      let g = both (key_known x key && is_new x (Core b)) (all_named code x1 (flat l ++ is)) h in
      let f = both (key_known x key) (is_new x (Core b)) g.0 in
      let known = key-of n code bs x k key f.0 in
      let fresh = new-count n code bs x k b f.1 in
      let one : (c : ℕ) → count c (b ∷ bs) ≤ 1 = λ c. once-more b bs fresh once c in
      let q = named-mentions l is (b ∷ bs) x1 (knows-more bs x b key k known (not-there (x (Core b)) f.1)) one g.1 in
      record {
        known = q.known;
        mentions = Mentions.alloc known q.mentions;
        knows = q.knows;
        counts = λ c. omega (arith, q.counts c);
        once = q.once;
        rest = q.rest;
      }
  named-mentions (Wrote p value l) is bs x k once h =
      let g = both (is_some (x p.block) && word_known x value) (all_named code x (flat l ++ is)) h in
      let f = both (is_some (x p.block)) (word_known x value) g.0 in
      let q = named-mentions l is bs x k once g.1 in
      record { known = q.known; mentions = Mentions.write (k.only p.block f.0) (word-of n code bs x k value f.1) q.mentions; knows = q.knows; counts = q.counts; once = q.once; rest = q.rest }
  named-mentions (WasRead p value u v args inside l) is bs x k once h =
      let h' : all_named code x (Read p value u v args ∷ (flat inside ++ End ∷ (flat l ++ is))) ≡ true = rw (append_assoc (flat inside) (End ∷ flat l) is) at h in
      let g = both (is_some (x p.block) && (word_known x value && words_known x args)) (all_named code x (flat inside ++ End ∷ (flat l ++ is))) h' in
      let f = both (is_some (x p.block)) (word_known x value && words_known x args) g.0 in
      let e = both (word_known x value) (words_known x args) f.1 in
      let q1 = named-mentions inside (End ∷ (flat l ++ is)) bs x k once g.1 in
      let q2 = named-mentions l is q1.known (plain_after code x inside) q1.knows q1.once q1.rest in
      record {
        known = q2.known;
        mentions = Mentions.read (k.only p.block f.0) (word-of n code bs x k value e.0) (words-of n code bs x k args e.1) q1.mentions q2.mentions;
        knows = q2.knows;
        counts = λ b. omega (arith, q1.counts b, q2.counts b, count-cores b (blocks_of inside) (blocks_of l));
        once = q2.once;
        rest = q2.rest;
      }

  -- and where they do, the items are named
  pub record Named (x : Plain) (l : Trace) (is : List Item) (known : List ℕ) : Type 0 where
    pub same : all_named code x (flat l ++ is) ≡ all_named code (plain_after code x l) is
    pub knows : Knows n code known (plain_after code x l)

  pub mentions-named : {bs cs : List ℕ} {l : Trace} → Mentions n bs l cs → (is : List Item) (x : Plain) → Knows n code bs x → ((b : ℕ) → count b (core_numbers (blocks_of l)) + count b bs ≤ 1)
      → Named x l is cs × ((b : ℕ) → count b cs ≡ count b (core_numbers (blocks_of l)) + count b bs)
  unfolding all_named
  mentions-named Mentions.end is x k once = (record { same = refl; knows = k }, λ b. omega arith)
  mentions-named (Mentions.step m) is x k once = let q = mentions-named m is x k once in (record { same = q.0.same; knows = q.0.knows }, q.1)
  mentions-named {bs} (Mentions.alloc {b = b} {key = key} {rest = l} a m) is x k once =
      let fresh : count b bs ≡ 0 = omega (arith, once b, one-at b b refl) in
      let new = count-new n code bs x k b fresh in
      let q = mentions-named m is (learnt x (Core b) (made code x key)) (knows-more bs x b key k a (not-there (x (Core b)) new)) (λ c. omega (arith, once c)) in
      (record { same = rw (of-key n code bs x k key a, new) q.0.same; knows = q.0.knows }, λ c. omega (arith, q.1 c))
  mentions-named {bs} (Mentions.write {p = p} {value = value} a b m) is x k once =
      let q = mentions-named m is x k once in
      (record { same = rw (block-there n code bs x k p.block a, of-word n code bs x k value b) q.0.same; knows = q.0.knows }, q.1)
  mentions-named {bs} (Mentions.read {p = p} {value = value} {u = u} {v = v} {args = args} {inside = inside} {rest = l} a b c m1 m2) is x k once =
      let q1 = mentions-named m1 (End ∷ (flat l ++ is)) x k (λ d. omega (arith, once d, count-cores d (blocks_of inside) (blocks_of l))) in
      let q2 = mentions-named m2 is (plain_after code x inside) q1.0.knows (λ d. omega (arith, once d, q1.1 d, count-cores d (blocks_of inside) (blocks_of l))) in (
        record {
          same = rw (append_assoc (flat inside) (End ∷ flat l) is, block-there n code bs x k p.block a, of-word n code bs x k value b, of-words n code bs x k args c) (q1.0.same ∙ q2.0.same);
          knows = q2.0.knows;
        },
        λ d. omega (arith, q1.1 d, q2.1 d, count-cores d (blocks_of inside) (blocks_of l)),
      )

plain-known : (n : ℕ) (bs : List ℕ) (kinds : List FieldKind) (ws : List Word) → KnownWords n bs ws → KnownWords n bs (plain_words kinds ws)
plain-known n bs [] ws h = h
plain-known n bs (kind ∷ kinds) [] h = h
plain-known n bs (PlainField kind ∷ kinds) (w ∷ ws) h = (h.0, plain-known n bs kinds ws h.1)
plain-known n bs (CellInt ∷ kinds) (w ∷ ws) h = (tt, plain-known n bs kinds ws h.1)
plain-known n bs (CellPtr s ∷ kinds) (w ∷ ws) h = (tt, plain-known n bs kinds ws h.1)

-- fitting inputs are known at the beginning, and nothing else
pub begin-knows : (code : Code) (inputs : List Block) → inputs_fit code.structs inputs ≡ true → Knows (length inputs) code [] (input_plain code inputs)
unfolding input_plain
begin-knows code inputs fit = record { holds = holds; only = only }
  where
    holds : Holds (length inputs) [] (input_plain code inputs)
    holds (Input i) h =
        let g = got inputs i h in record {
          block = plain_block code.structs g.0;
          there = rw g.1;
          known = plain-known (length inputs) [] (kinds_of_shape code.structs g.0.shape) g.0.words (input-known code.structs inputs fit i g.0 g.1);
        }
    holds (Core c) h = elim h [ ]

    only : (b : BlockId) → is_some (input_plain code inputs b) ≡ true → KnownBlock (length inputs) [] b
    only (Input i) h = go (slice_get inputs i) refl h
      where
        go : (o : Option Block) → slice_get inputs i ≡ o → is_some (option_map (plain_block code.structs) o) ≡ true → i < length inputs
        go None e h = absurd (grind (arith, h))
        go (Some block) e h = get-within inputs i block e
    only (Core c) h = absurd (grind (arith, h))
