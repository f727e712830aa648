-- Blocks and their words, one by one.
use Rattle.std.proofs.Common.{◌≡◌, ℕ, zero, suc, ◌+◌, ◌<◌, ◌≤◌, ◌==◌, Bool, true, false, not, is_some, Option, Some}
use Rattle.std.proofs.Common.{None, List, [], ◌∷◌, length, map, drop, slice_get, IsTrue, IfOk, Result, Ok, Err, ◌⊎◌}
use Rattle.std.proofs.Common.{inl, inr, refl, sym, ap, ap₂, ◌∙◌, arith}
use Rattle.std.specs.Prelude.{◌↔◌, IfNone, IfSome}
use Rattle.std.specs.Option.{option_map}
use Rattle.std.proofs.lemmas.Bool.{false≢true}
use Rattle.ceal_base.specs.Block.{Block}
use Rattle.ceal_base.specs.declared.forest.Item.{Item}
use Rattle.ceal_base.specs.declared.forest.Item.TheVariants.{Step, Alloc, Write, Read, End}
use Rattle.ceal_base.specs.declared.forest.Key.{Key}
use Rattle.ceal_base.specs.declared.word.BlockId.{BlockId}
use Rattle.ceal_base.specs.declared.word.Word.{Word}
use Rattle.ceal_code.proofs.Replay.FinalMemory.{list-same}
use Rattle.ceal_code.proofs.Words.SameIsEqual.{some-same, none-some}
use Rattle.ceal_code.specs.PlainWords.{block_shape, block_word}
use Rattle.ceal_code.specs.Program.{Code}
use Rattle.ceal_code.specs.Replay.{Store, filled, block_after}
use Rattle.ceal_code.specs.Value.{Plain}
use Rattle.ceal_traceck.specs.Items.{allocated, AreMade}

-- what is told not to hold does not
pub told-no : {P : Type 0} → (P → ⊥) → (IsTrue false → P) × (P → IsTrue false)
told-no absent = (λ t. absurd (false≢true t), λ h. absurd (absent h))

pub if-ok : {A B : Type 0} (r : Result A B) (P Q : A → Type 0) → ((a : A) → P a → Q a) → IfOk r P → IfOk r Q
if-ok (Ok a) P Q f h = f a h
if-ok (Err b) P Q f h = h

pub if-none : {A : Type 0} (o : Option A) (P Q : Type 0) → (P → Q) → IfNone o P → IfNone o Q
if-none None P Q f h = f h
if-none (Some a) P Q f h = h

pub if-some : {A : Type 0} (o : Option A) (P Q : A → Type 0) → ((a : A) → P a → Q a) → IfSome o P → IfSome o Q
if-some None P Q f h = h
if-some (Some a) P Q f h = f a h

-- what a test tells
pub zero-told : (n : ℕ) (t : Bool) → t ≡ (n == 0) → IsTrue t → n ≡ 0
zero-told n t e h = let k : (n == 0) ≡ true = sym e ∙ h in grind (arith, k)

pub told-zero : (n : ℕ) (t : Bool) → t ≡ (n == 0) → n ≡ 0 → IsTrue t
told-zero n t e h = e ∙ rw h refl

pub none-told : {A : Type 0} (o : Option A) (t : Bool) → is_some o ≡ not t → IsTrue t → o ≡ None
none-told None t e h = refl
none-told (Some a) true e h = absurd (false≢true (sym e))
none-told (Some a) false e h = absurd (false≢true h)

pub told-none : {A : Type 0} (o : Option A) (t : Bool) → is_some o ≡ not t → o ≡ None → IsTrue t
told-none None true e h = refl
told-none None false e h = absurd (false≢true e)
told-none (Some a) t e h = none-some a (sym h)

pub empty-list : {A : Type 0} (xs : List A) → length xs ≡ 0 → xs ≡ []
empty-list [] e = refl
empty-list (x ∷ xs) e = absurd (omega (arith, e))

-- the next of a list
pub drop-next : {A : Type 0} (n : ℕ) (xs more : List A) (x : A) → drop n xs ≡ x ∷ more → (drop (n + 1) xs ≡ more) × (slice_get xs n ≡ Some x)
drop-next n [] more x e = absurd (nothing n e)
  where
    nothing : (n : ℕ) → drop n [] ≡ x ∷ more → ⊥
    nothing zero e = cc
    nothing (suc n) e = cc
drop-next zero (y ∷ xs) more x e = let k : y ≡ x = cc in let l : xs ≡ more = cc in (l, ap Some k)
drop-next (suc n) (y ∷ xs) more x e = let q = drop-next n xs more x e in let k : suc n + 1 ≡ suc (n + 1) = omega arith in (rw k q.0, q.1)

pub drop-end : {A : Type 0} (n : ℕ) (xs : List A) → length (drop n xs) ≡ 0 → length xs ≤ n
drop-end n [] e = omega arith
drop-end zero (x ∷ xs) e = absurd (omega (arith, e))
drop-end (suc n) (x ∷ xs) e = omega (arith, drop-end n xs e)

pub get-beyond : {A : Type 0} (xs : List A) (n : ℕ) → length xs ≤ n → slice_get xs n ≡ None
get-beyond [] n h = refl
get-beyond (x ∷ xs) zero h = absurd (omega (arith, h))
get-beyond (x ∷ xs) (suc n) h = get-beyond xs n (omega (arith, h))

pub get-none : {A : Type 0} (xs : List A) (n m : ℕ) → slice_get xs n ≡ None → n ≤ m → slice_get xs m ≡ None
get-none [] n m e h = refl
get-none (x ∷ xs) zero m e h = none-some x (sym e)
get-none (x ∷ xs) (suc n) zero e h = absurd (omega (arith, h))
get-none (x ∷ xs) (suc n) (suc m) e h = get-none xs n m e (omega (arith, h))

word-none : (o : Option Block) (n m : ℕ) → block_word o n ≡ None → n ≤ m → block_word o m ≡ None
word-none None n m e h = refl
word-none (Some b) n m e h = get-none b.words n m e h

lower : (n m : ℕ) → (n < m) ⊎ (m ≤ n)
lower zero zero = inr (omega arith)
lower zero (suc m) = inl (omega arith)
lower (suc n) zero = inr (omega arith)
lower (suc n) (suc m) = go (lower n m)
  where
    go : (n < m) ⊎ (m ≤ n) → (suc n < suc m) ⊎ (suc m ≤ suc n)
    go (inl h) = inl (omega (arith, h))
    go (inr h) = inr (omega (arith, h))

module _ (o : Option Block) (words : List Word) (n : ℕ) (rest : List Word) (at : rest ≡ drop n words) where
  -- a word is another one
  pub words-wrong : (word : Word) (more : List Word) (found : Option Word) → rest ≡ word ∷ more
      → found ≡ block_word o n → (found ≡ Some word → IsTrue false) → ((f : ℕ) → block_word o f ≡ slice_get words f)
      → ⊥
  words-wrong word more found e k differs h = false≢true (differs (k ∙ (h n ∙ (drop-next n words more word (sym at ∙ e)).1)))

  pub words-more : (word : Word) (more : List Word) (found : Option Word) (m : ℕ) → rest ≡ word ∷ more
      → found ≡ block_word o n → found ≡ Some word → m ≡ n + 1 →
      ((f : ℕ) → f < n → block_word o f ≡ slice_get words f)
      → (f : ℕ) → f < m → block_word o f ≡ slice_get words f
  words-more word more found m e k l s h f i = go (lower f n)
    where
      go : (f < n) ⊎ (n ≤ f) → block_word o f ≡ slice_get words f
      go (inl j) = h f j
      go (inr j) = let same : f ≡ n = omega (arith, i, j, s) in rw same (sym k ∙ (l ∙ sym (drop-next n words more word (sym at ∙ e)).1))

  pub words-all : length rest ≡ 0 → ((f : ℕ) → f < n → block_word o f ≡ slice_get words f) → block_word o n ≡ None → (f : ℕ) → block_word o f ≡ slice_get words f
  words-all e h k f = go (lower f n)
    where
      few : length words ≤ n
      few = drop-end n words (ap length (sym at) ∙ e)

      go : (f < n) ⊎ (n ≤ f) → block_word o f ≡ slice_get words f
      go (inl j) = h f j
      go (inr j) = word-none o n f k j ∙ sym (get-beyond words f (omega (arith, drop-end n words (ap length (sym at) ∙ e), j)))

  pub words-end : length rest ≡ 0 → ((f : ℕ) → block_word o f ≡ slice_get words f) → block_word o n ≡ None
  words-end e h = h n ∙ get-beyond words n (drop-end n words (ap length (sym at) ∙ e))

pub rest-more : {A : Type 0} (n m : ℕ) (xs rest more : List A) (x : A) → rest ≡ drop n xs → rest ≡ x ∷ more → m ≡ n + 1 → more ≡ drop m xs
rest-more n m xs rest more x e k l = rw l (sym (drop-next n xs more x (sym e ∙ k)).0)

-- the shape of a block is that of its plain words
pub shape-after : (code : Code) (x : Plain) (s : Store) (b : BlockId) → block_shape (block_after code x s b) ≡ block_shape (x b)
unfolding block_after
shape-after code x s b = go (x b)
  where
    go : (o : Option Block) → block_shape (option_map (filled code s b) o) ≡ block_shape o
    go None = refl
    go (Some block) = refl

-- a block is its shape and its words
pub block-is : (o : Option Block) (block : Block) → block_shape o ≡ Some block.shape → ((f : ℕ) → block_word o f ≡ slice_get block.words f) → o ≡ Some block
block-is None block e h = none-some block.shape e
block-is (Some b) block e h = ap Some (ap₂ (λ shape words. record { shape = shape; words = words }) (some-same b.shape block.shape e) (list-same b.words block.words h))

pub is-block : (o : Option Block) (block : Block) → o ≡ Some block → (f : ℕ) → block_word o f ≡ slice_get block.words f
is-block o block e f = rw e refl

-- blocks of a memory
module _ {A : Type 0} (m : ℕ → Option A) (blocks : List A) (n : ℕ) (rest : List A) (at : rest ≡ drop n blocks) where
  pub blocks-wrong : (block : A) (more : List A) → rest ≡ block ∷ more → (m n ≡ Some block → ⊥) → ((i : ℕ) → i < length blocks → m i ≡ slice_get blocks i) → ⊥
  blocks-wrong block more e differs h =
      let found = (drop-next n blocks more block (sym at ∙ e)).1 in
      differs (h n (within (lower n (length blocks)) found) ∙ found)
    where
      within : (n < length blocks) ⊎ (length blocks ≤ n) → slice_get blocks n ≡ Some block → n < length blocks
      within (inl i) k = i
      within (inr i) k = none-some block (sym (get-beyond blocks n i) ∙ k)

  pub blocks-more : (block : A) (more : List A) (k : ℕ) → rest ≡ block ∷ more → m n ≡ Some block → k ≡ n + 1 → ((i : ℕ) → i < n → m i ≡ slice_get blocks i) → (i : ℕ) → i < k → m i ≡ slice_get blocks i
  blocks-more block more k e l s h i j = go (lower i n)
    where
      go : (i < n) ⊎ (n ≤ i) → m i ≡ slice_get blocks i
      go (inl j) = h i j
      go (inr g) = let same : i ≡ n = omega (arith, j, g, s) in rw same (l ∙ sym (drop-next n blocks more block (sym at ∙ e)).1)

-- core blocks, item by item
module _ (m : BlockId → Option Block) where
  pub skip-step : (i : Item) (is : List Item) (blocks : List Block) → i ≡ Step → AreMade m (i ∷ is) blocks ↔ AreMade m is blocks
  unfolding AreMade
  skip-step i is blocks e = rw e (λ h. h, λ h. h)

  pub skip-write : (i : Item) (is : List Item) (blocks : List Block) (p : _) (w : Word) → i ≡ Write p w → AreMade m (i ∷ is) blocks ↔ AreMade m is blocks
  unfolding AreMade
  skip-write i is blocks p w e = rw e (λ h. h, λ h. h)

  pub skip-read : (i : Item) (is : List Item) (blocks : List Block) (p : _) (w : Word) (u : _) (v : ℕ) (args : List Word) → i ≡ Read p w u v args → AreMade m (i ∷ is) blocks ↔ AreMade m is blocks
  unfolding AreMade
  skip-read i is blocks p w u v args e = rw e (λ h. h, λ h. h)

  pub skip-end : (i : Item) (is : List Item) (blocks : List Block) → i ≡ End → AreMade m (i ∷ is) blocks ↔ AreMade m is blocks
  unfolding AreMade
  skip-end i is blocks e = rw e (λ h. h, λ h. h)

  pub alloc-wrong : (i : Item) (id : BlockId) (key : Key) (blocks : List Block) → i ≡ Alloc id key →
      ((b : Block) (bs : List Block) → blocks ≡ b ∷ bs → m id ≡ Some b → ⊥) → (is : List Item) → AreMade m
      (i ∷ is) blocks → ⊥
  unfolding AreMade
  alloc-wrong i id key blocks e absent is h = go blocks refl (rw e at h)
    where
      go : (bs : List Block) → blocks ≡ bs → map Some bs ≡ m id ∷ map m (allocated is) → ⊥
      go [] k h = cc
      go (b ∷ bs) k h = let found : m id ≡ Some b = cc in absent b bs k found

  pub alloc-more : (i : Item) (id : BlockId) (key : Key) (b : Block) (blocks more : List Block) → i ≡ Alloc id key
      → blocks ≡ b ∷ more → m id ≡ Some b → (is : List Item) → AreMade m (i ∷ is) blocks ↔ AreMade m is more
  unfolding AreMade
  alloc-more i id key b blocks more e k found is =
      rw (e, k) (λ h. (let rest : map Some more ≡ map m (allocated is) = cc in rest), λ h. ap₂ ◌∷◌ (sym found) h)

  pub none-made : (is : List Item) (blocks : List Block) → length is ≡ 0 → (length blocks ≡ 0) ↔ AreMade m is blocks
  unfolding AreMade
  none-made [] [] e = (λ h. refl, λ h. refl)
  none-made [] (b ∷ bs) e = (λ h. absurd (omega (arith, h)), λ h. cc)
  none-made (i ∷ is) blocks e = absurd (omega (arith, e))
