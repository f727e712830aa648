-- The words of a line are found one by one, and they are its only ones.
use Rattle.std.proofs.Common.{◌≡◌, ◌≢◌, ℕ, Bool, true, false, not, List, [], ◌∷◌, ◌++◌, length, take, drop, refl, sym, ap, ◌∙◌, subst, arith}
use Rattle.std.specs.Prelude.{IsTrue, IsFalse}
use Rattle.std.specs.Borrow.{Bor}
use Rattle.std.specs.List.{AllByRecursion, prefix_len, position_or_len}
use Rattle.std.proofs.lemmas.Bool.{false≢true}
use Rattle.std.proofs.Math.Numerals.{one-add}
use Rattle.std.proofs.lemmas.List.{take-append-drop, append-nil}
use Rattle.ceal_script.specs.Characters.{is_gap}
use Rattle.ceal_script.specs.Words.{AreGaps, IsWord, EndsWord, HasWord, HasWords, texts}
use Rattle.ceal_script.proofs.Runs.{EndsRun, run_passes, run_ends, same_runs}

abbrev no_gap : ℕ → Bool
no_gap b = not (is_gap b)

turned : (b : Bool) → b ≡ false → not b ≡ true
turned b e = rw e refl

turned_back : (b : Bool) → not b ≡ true → b ≡ false
turned_back true e = absurd (false≢true e)
turned_back false e = refl

turned_off : (b : Bool) → not b ≡ false → b ≡ true
turned_off true e = refl
turned_off false e = absurd (false≢true (sym e))

-- the bytes of a word are no gaps
word_run : (bs : List ℕ) → AllByRecursion (λ c. IsFalse (is_gap c)) bs → AllByRecursion (λ c. IsTrue (no_gap c)) bs
word_run [] h = tt
word_run (b ∷ bs) h = (turned (is_gap b) h.0, word_run bs h.1)

run_word : (bs : List ℕ) → AllByRecursion (λ c. IsTrue (no_gap c)) bs → AllByRecursion (λ c. IsFalse (is_gap c)) bs
run_word [] h = tt
run_word (b ∷ bs) h = (turned_back (is_gap b) h.0, run_word bs h.1)

word_all : (word : List ℕ) → IsWord word → AllByRecursion (λ c. IsTrue (no_gap c)) word
word_all [] h = absurd h
word_all (b ∷ bs) h = word_run (b ∷ bs) h

word_ends : (rest : List ℕ) → EndsWord rest → EndsRun no_gap rest
word_ends [] h = tt
word_ends (b ∷ bs) h = rw h refl

gaps_end : (word rest : List ℕ) → IsWord word → EndsRun is_gap (word ++ rest)
gaps_end [] rest h = absurd h
gaps_end (b ∷ bs) rest h = h.0

-- the first word begins after the gaps, and ends before the next one
module _ (line : List ℕ) (n : ℕ) (e : n ≡ prefix_len is_gap line) where
  pub no_word : (text : List ℕ) → text ≡ drop n line → length text ≡ 0 → AreGaps line
  no_word text t z =
      let whole = take-append-drop n line in
      let empty : drop n line ≡ [] = sym t ∙ nothing text z in
      subst AreGaps (sym (append-nil (take n line)) ∙ ap (λ (r : List ℕ). take n line ++ r) (sym empty) ∙ whole) (rw e (run_passes is_gap line))
    where
      nothing : (l : List ℕ) → length l ≡ 0 → l ≡ []
      nothing [] z = refl
      nothing (b ∷ bs) z = absurd (omega (arith, z))

  pub first_found : (text : List ℕ) (m : ℕ) → text ≡ drop n line → length text ≢ 0 → m ≡ position_or_len is_gap text → HasWord line (take m text) (drop m text)
  first_found text m t z f = record {
    gaps = take n line;
    are_gaps = rw e (run_passes is_gap line);
    is_word = rw f (is_first text z (subst (EndsRun is_gap) (sym t) (rw e (run_ends is_gap line))));
    ends = rw f (ends_first (drop (prefix_len no_gap text) text) (run_ends no_gap text));
    whole = sym (take-append-drop n line) ∙ ap (λ (r : List ℕ). take n line ++ r) (sym t ∙ sym (take-append-drop m text));
  }
    where
      is_first : (l : List ℕ) → length l ≢ 0 → EndsRun is_gap l → IsWord (take (prefix_len no_gap l) l)
      is_first [] z r = absurd (z refl)
      is_first (b ∷ bs) z r = rw (r, one-add) (r, run_word (take (prefix_len no_gap bs) bs) (run_passes no_gap bs))

      ends_first : (l : List ℕ) → EndsRun no_gap l → EndsWord l
      ends_first [] r = tt
      ends_first (b ∷ bs) r = turned_off (is_gap b) r

-- the words so far, with one more
pub texts_push : (words : List (Bor (List ℕ))) (word : Bor (List ℕ)) (more : List (List ℕ)) → texts (words ++ word ∷ []) ++ more ≡ texts words ++ (word.now ∷ more)
texts_push [] word more = refl
texts_push (v ∷ words) word more = ap (λ (l : List (List ℕ)). v.now ∷ l) (texts_push words word more)

pub words_more : (line rest : List ℕ) (words next : List (Bor (List ℕ))) (word : Bor (List ℕ)) (behind : List ℕ)
    → ((more : List (List ℕ)) → HasWords rest more → HasWords line (texts words ++ more)) → HasWord rest word.now behind → next ≡ words ++ word ∷ []
    → (more : List (List ℕ)) → HasWords behind more → HasWords line (texts next ++ more)
unfolding HasWords
words_more line rest words next word behind so_far first e more h =
    rw e (subst (HasWords line) (sym (texts_push words word more)) (so_far (word.now ∷ more) (behind, first, h)))

pub words_all : (line rest : List ℕ) (words : List (Bor (List ℕ)))
    → ((more : List (List ℕ)) → HasWords rest more → HasWords line (texts words ++ more)) → AreGaps rest → HasWords line (texts words)
unfolding HasWords
words_all line rest words so_far gaps = subst (HasWords line) (append-nil (texts words)) (so_far [] gaps)

-- no line of gaps has a word
gaps_no_word : (line word rest : List ℕ) → AreGaps line → HasWord line word rest → ⊥
gaps_no_word line word rest g h =
    let e = same_runs is_gap line h.gaps [] (word ++ rest) g h.are_gaps tt (gaps_end word rest h.is_word) (append-nil line ∙ h.whole) in
    empty word h.is_word e.1
  where
    empty : (w : List ℕ) → IsWord w → [] ≡ w ++ rest → ⊥
    empty [] i e = i
    empty (b ∷ bs) i e = cc

-- the first word of a line is its only first word
same_first : (line word rest word' rest' : List ℕ) → HasWord line word rest → HasWord line word' rest' → (word ≡ word') × (rest ≡ rest')
same_first line word rest word' rest' h h' =
    let e = same_runs is_gap h.gaps h'.gaps (word ++ rest) (word' ++ rest') h.are_gaps h'.are_gaps (gaps_end word rest h.is_word) (gaps_end word' rest' h'.is_word) (sym h.whole ∙ h'.whole) in
    same_runs no_gap word word' rest rest' (word_all word h.is_word) (word_all word' h'.is_word) (word_ends rest h.ends) (word_ends rest' h'.ends) e.1

-- a line has one list of words
pub one_words : (line : List ℕ) (words others : List (List ℕ)) → HasWords line words → HasWords line others → words ≡ others
unfolding HasWords
one_words line [] [] h k = refl
one_words line [] (v ∷ vs) h (rest, k, ks) = absurd (gaps_no_word line v rest h k)
one_words line (w ∷ ws) [] (rest, h, hs) k = absurd (gaps_no_word line w rest k h)
one_words line (w ∷ ws) (v ∷ vs) (rest, h, hs) (rest', k, ks) =
    let e = same_first line w rest v rest' h k in
    let same : ws ≡ vs = one_words rest ws vs hs (subst (λ (r : List ℕ). HasWords r vs) (sym e.1) ks) in
    let first = e.0 in
    cc
