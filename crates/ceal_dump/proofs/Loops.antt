-- What a loop of the reader has read, and what is left.
use Rattle.std.proofs.Common.{◌≡◌, ℕ, zero, suc, ◌+◌, ◌-◌, ◌<◌, ◌≤◌, ◌==◌, Bool, true, false, if◌then◌else◌, List, []}
use Rattle.std.proofs.Common.{◌∷◌, ◌++◌, length, drop, length-append, length-drop, Result, Ok, Err, OnOk, refl, sym, ap}
use Rattle.std.proofs.Common.{◌∙◌, append_assoc, append-nil, arith}
use Rattle.std.proofs.lemmas.Bool.Decides.{nat_tests}
use Rattle.ceal_base.specs.declared.word.Word.{Word}
use Rattle.ceal_base.specs.Digits.{is_digit}
use Rattle.ceal_dump.specs.Reading.{first_byte, with_digit, number_from, number_at, small_at, int_at, block_at, place_at, pointer_at, is_pointer, word_at, words_from, words_at, many_from}

-- a text of parts
pub joined : (out a b n m : List ℕ) → n ≡ out ++ a → m ≡ n ++ b → m ≡ out ++ (a ++ b)
joined out a b n m e k = k ∙ (ap (λ t. t ++ b) e ∙ append_assoc out a b)

pub on-ok : {A B : Type 0} (r : Result A B) (P Q : Type 0) → (P → Q) → OnOk r P → OnOk r Q
on-ok (Ok a) P Q f h = f h
on-ok (Err b) P Q f h = h

-- what is read leaves no more bytes
drop-shorter : (k : ℕ) (bs : List ℕ) → length (drop k bs) ≤ length bs
drop-shorter k bs = omega (arith, length-drop k bs)

if-shorter : {A : Type 0} (n : ℕ) (t : Bool) (a b : A × List ℕ) → length a.1 ≤ n → length b.1 ≤ n → length (if t then a else b).1 ≤ n
if-shorter n true a b h k = h
if-shorter n false a b h k = k

number-shorter : (n : ℕ) (bs : List ℕ) → length (number_from n bs).1 ≤ length bs
unfolding number_from
number-shorter n [] = omega arith
number-shorter n (b ∷ bs) = if-shorter (length (b ∷ bs)) (is_digit b) _ _ (omega (arith, number-shorter (with_digit n b) bs)) (omega arith)

small-shorter : (bs : List ℕ) → length (small_at bs).1 ≤ length bs
unfolding small_at number_at
small-shorter bs = number-shorter 0 bs

int-shorter : (bs : List ℕ) → length (int_at bs).1 ≤ length bs
unfolding int_at number_at
int-shorter bs = if-shorter (length bs) (first_byte bs == 45) _ _ (omega (arith, number-shorter 0 (drop 1 bs), drop-shorter 1 bs)) (number-shorter 0 bs)

block-shorter : (bs : List ℕ) → length (block_at bs).1 ≤ length bs
unfolding block_at
block-shorter bs = omega (arith, small-shorter (drop 1 bs), drop-shorter 1 bs)

place-shorter : (bs : List ℕ) → length (place_at bs).1 ≤ length bs
unfolding place_at
place-shorter bs = omega (arith, small-shorter (drop 1 (block_at bs).1), drop-shorter 1 (block_at bs).1, block-shorter bs)

pointer-shorter : (bs : List ℕ) → length (pointer_at bs).1 ≤ length bs
unfolding pointer_at
pointer-shorter bs = if-shorter (length bs) (first_byte (block_at bs).1 == 46) _ _ (place-shorter bs) (block-shorter bs)

pub word-shorter : (bs : List ℕ) → length (word_at bs).1 ≤ length bs
unfolding word_at
word-shorter bs = if-shorter (length bs) (first_byte bs == 110) _ _ (drop-shorter 4 bs) (if-shorter (length bs) (is_pointer (first_byte bs)) _ _ (pointer-shorter bs) (int-shorter bs))

-- after a space
behind-space : (bs : List ℕ) → (first_byte bs == 32) ≡ true → length (drop 1 bs) + 1 ≡ length bs
behind-space [] e = absurd (grind (arith, nat_tests, e))
behind-space (b ∷ bs) e = omega (arith, length-drop 1 (b ∷ bs))

pub space-shorter : (bs : List ℕ) → first_byte bs ≡ 32 → length (word_at (drop 1 bs)).1 + 1 ≤ length bs
space-shorter bs e =
    let k : (first_byte bs == 32) ≡ true = grind (arith, nat_tests, e) in
    omega (arith, word-shorter (drop 1 bs), behind-space bs k)

pub differs : (a b : ℕ) → (a ≡ b → ⊥) → (a == b) ≡ false
differs a b h = grind (arith, nat_tests)

-- one word more
words-step : (k : ℕ) (bs : List ℕ) → (first_byte bs == 32) ≡ true
    → words_from (suc k) bs ≡ ((word_at (drop 1 bs)).0 ∷ (words_from k (word_at (drop 1 bs)).1).0, (words_from k (word_at (drop 1 bs)).1).1)
unfolding words_from
words-step k bs e = rw e refl

words-stop : (k : ℕ) (bs : List ℕ) → (first_byte bs == 32) ≡ false → words_from k bs ≡ ([], bs)
unfolding words_from
words-stop zero bs e = refl
words-stop (suc k) bs e = rw e refl

module _ (all bs : List ℕ) (words : List Word)
    (same : (k : ℕ) → words ++ (words_from k bs).0 ≡ (words_from (length words + k) all).0) (rest : (k : ℕ) → (words_from k bs).1 ≡ (words_from (length words + k) all).1) where
  pub words-same : (w : Word) (more : List Word) (next : List ℕ) → first_byte bs ≡ 32 → w ≡ (word_at (drop 1 bs)).0 → next ≡ (word_at (drop 1 bs)).1 → more ≡ words ++ w ∷ []
      → (k : ℕ) → more ++ (words_from k next).0 ≡ (words_from (length more + k) all).0
  words-same w more next e f g h k =
      let t : (first_byte bs == 32) ≡ true = grind (arith, nat_tests, e) in
      let n : length words + suc k ≡ length more + k = omega (arith, ap length h, length-append words (w ∷ [])) in
      ap (λ ws. ws ++ (words_from k next).0) h
      ∙ (append_assoc words (w ∷ []) (words_from k next).0
      ∙ (ap (λ ws. words ++ ws) (rw (f, g) (sym (ap (λ q. q.0) (words-step k bs t)))) ∙ (same (suc k) ∙ ap (λ n. (words_from n all).0) n)))

  pub words-rest : (w : Word) (more : List Word) (next : List ℕ) → first_byte bs ≡ 32 → next ≡ (word_at (drop 1 bs)).1 → more ≡ words ++ w ∷ []
      → (k : ℕ) → (words_from k next).1 ≡ (words_from (length more + k) all).1
  words-rest w more next e g h k =
      let t : (first_byte bs == 32) ≡ true = grind (arith, nat_tests, e) in
      let n : length words + suc k ≡ length more + k = omega (arith, ap length h, length-append words (w ∷ [])) in
      rw g (sym (ap (λ q. q.1) (words-step k bs t))) ∙ (rest (suc k) ∙ ap (λ n. (words_from n all).1) n)

  pub words-all : (first_byte bs == 32) ≡ false → length words ≤ length all → words ≡ (words_at all).0
  unfolding words_at
  words-all e l =
      let k = length all - length words in
      let n : length words + k ≡ length all = omega (arith, l) in
      sym (append-nil words) ∙ (ap (λ q. words ++ q.0) (sym (words-stop k bs e)) ∙ (same k ∙ ap (λ n. (words_from n all).0) n))

  pub rest-all : (first_byte bs == 32) ≡ false → length words ≤ length all → bs ≡ (words_at all).1
  unfolding words_at
  rest-all e l =
      let k = length all - length words in
      let n : length words + k ≡ length all = omega (arith, l) in
      ap (λ q. q.1) (sym (words-stop k bs e)) ∙ (rest k ∙ ap (λ n. (words_from n all).1) n)

-- one thing more of those that are read one after another
module _ {A : Type 0} (read : List ℕ → A × List ℕ) where
  many-step : (n : ℕ) (bs : List ℕ) → 0 < n → (length bs == 0) ≡ false
      → many_from read n bs ≡ ((read bs).0 ∷ (many_from read (n - 1) (read bs).1).0, (many_from read (n - 1) (read bs).1).1)
  unfolding many_from
  many-step zero bs h e = absurd (omega (arith, h))
  many-step (suc n) bs h e = let k : suc n - 1 ≡ n = omega arith in rw (e, k) refl

  pub many-none : (n : ℕ) (bs : List ℕ) → n ≡ 0 → many_from read n bs ≡ ([], bs)
  unfolding many_from
  many-none n bs e = rw e refl

  pub many-out : (n : ℕ) (bs : List ℕ) → (length bs == 0) ≡ true → many_from read n bs ≡ ([], bs)
  unfolding many_from
  many-out zero bs e = refl
  many-out (suc n) bs e = rw e refl

  pub many-first : (n : ℕ) (bs next : List ℕ) (a : A) → 0 < n → (length bs == 0) ≡ false → a ≡ (read bs).0 → next ≡ (read bs).1
      → many_from read n bs ≡ (a ∷ (many_from read (n - 1) next).0, (many_from read (n - 1) next).1)
  many-first n bs next a h e f g = rw (f, g) (many-step n bs h e)

-- what was read so far, with one thing more
module _ {A : Type 0} (done : List A) (now next all : List A × List ℕ) (same : done ++ now.0 ≡ all.0) (rest : now.1 ≡ all.1) where
  pub more-same : (a : A) (more : List A) → now ≡ (a ∷ next.0, next.1) → more ≡ done ++ a ∷ [] → more ++ next.0 ≡ all.0
  more-same a more e h = ap (λ as'. as' ++ next.0) h ∙ (append_assoc done (a ∷ []) next.0 ∙ (ap (λ q. done ++ q.0) (sym e) ∙ same))

  pub more-rest : (a : A) → now ≡ (a ∷ next.0, next.1) → next.1 ≡ all.1
  more-rest a e = ap (λ q. q.1) (sym e) ∙ rest

  pub done-same : (bs : List ℕ) → now ≡ ([], bs) → done ≡ all.0
  done-same bs e = sym (append-nil done) ∙ (ap (λ q. done ++ q.0) (sym e) ∙ same)

  pub done-rest : (bs : List ℕ) → now ≡ ([], bs) → bs ≡ all.1
  done-rest bs e = ap (λ q. q.1) (sym e) ∙ rest
