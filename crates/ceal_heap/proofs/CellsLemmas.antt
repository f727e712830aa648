-- The words of cells, two by two.
use Rattle.std.proofs.Common.{◌≡◌, ℕ, zero, suc, ◌+◌, ◌*◌, ◌<◌, ◌≤◌, List, [], ◌∷◌, ◌++◌, length, get_or, set, take, Option, Some, None, refl, sym, ap, ◌∙◌, subst, arith, slice_get, cond, Bool}
use Rattle.std.proofs.lemmas.List.{take_all, take_more_set, take_more}
use Rattle.std.proofs.lemmas.Option.{none-some, same_Some}
use Rattle.std.proofs.lemmas.Bool.{ne_eqb}
use Rattle.ceal_base.specs.declared.word.Word.{Word}
use Rattle.ceal_words.specs.SizeClass.{SizeClass, changed}
use Rattle.ceal_words.specs.Region.{KeepsOthers}
use Rattle.ceal_words.specs.declared.slot.Slot.{Slot}
use Rattle.ceal_heap.specs.Cells.{word_of, words_in, words_read, cells_held, cell_count}

abbrev twice : ℕ → ℕ
twice zero = zero
twice (suc i) = suc (suc (twice i))

twice-is : (i : ℕ) → twice i ≡ 2 * i
twice-is zero = refl
twice-is (suc i) = let e = twice-is i in omega (arith, e)

-- the two cells of a word are written
set_two : (cells : List ℕ) (i a b : ℕ) → words_in (set (set cells (twice i) a) (suc (twice i)) b) ≡ set (words_in cells) i (word_of a b)
set_two [] i a b = refl
set_two (s ∷ []) zero a b = refl
set_two (s ∷ []) (suc i) a b = refl
set_two (s ∷ c ∷ cells) zero a b = refl
set_two (s ∷ c ∷ cells) (suc i) a b = ap (λ (ws : List Word). word_of s c ∷ ws) (set_two cells i a b)

set_both : (o : Option (List ℕ)) (i a b : ℕ) → words_read (changed (changed o (twice i) a) (suc (twice i)) b) ≡ set (words_read o) i (word_of a b)
set_both None i a b = refl
set_both (Some cells) i a b = set_two cells i a b

pub written : (o one two : Option (List ℕ)) (i a b : ℕ) → one ≡ changed o (2 * i) a → two ≡ changed one (2 * i + 1) b
    → words_read two ≡ set (words_read o) i (word_of a b)
written o one two i a b first second =
    let at : (2 * i) ≡ twice i = sym (twice-is i) in
    let next : 2 * i + 1 ≡ suc (twice i) = omega (arith, at) in
    let one_ : one ≡ changed o (twice i) a = first ∙ ap (λ (n : ℕ). changed o n a) at in
    let two_ : two ≡ changed (changed o (twice i) a) (suc (twice i)) b = second ∙ ap (λ (n : ℕ). changed one n b) next ∙ ap (λ (q : Option (List ℕ)). changed q (suc (twice i)) b) one_ in
    ap words_read two_ ∙ set_both o i a b

-- the two cells of a word are read
get_two : (cells : List ℕ) (i a b : ℕ) → slice_get cells (twice i) ≡ Some a → slice_get cells (suc (twice i)) ≡ Some b → slice_get (words_in cells) i ≡ Some (word_of a b)
get_two [] i a b first second = absurd (none-some a first)
get_two (s ∷ []) zero a b first second = absurd (none-some b second)
get_two (s ∷ []) (suc i) a b first second = absurd (none-some a first)
get_two (s ∷ c ∷ cells) zero a b first second = ap (λ (n : ℕ). Some (word_of n c)) (same_Some s a first) ∙ ap (λ (n : ℕ). Some (word_of a n)) (same_Some c b second)
get_two (s ∷ c ∷ cells) (suc i) a b first second = get_two cells i a b first second

abbrev pub cell_at : Option (List ℕ) → ℕ → Option ℕ
cell_at None i = None
cell_at (Some cells) i = slice_get cells i

get_both : (o : Option (List ℕ)) (i a b : ℕ) → cell_at o (twice i) ≡ Some a → cell_at o (suc (twice i)) ≡ Some b → slice_get (words_read o) i ≡ Some (word_of a b)
get_both None i a b first second = absurd (none-some a first)
get_both (Some cells) i a b first second = get_two cells i a b first second

pub read : (o : Option (List ℕ)) (i a b : ℕ) → cell_at o (2 * i) ≡ Some a → cell_at o (2 * i + 1) ≡ Some b → slice_get (words_read o) i ≡ Some (word_of a b)
read o i a b first second =
    let at : (2 * i) ≡ twice i = sym (twice-is i) in
    let next : 2 * i + 1 ≡ suc (twice i) = omega (arith, at) in
    get_both o i a b (subst (λ (n : ℕ). cell_at o n ≡ Some a) at first) (subst (λ (n : ℕ). cell_at o n ≡ Some b) next second)

-- the number of cells that words have
pub count_some : (n : ℕ) → 0 < n → cell_count n ≡ 2 * n
count_some n some = ap (λ (b : Bool). cond b 1 (2 * n)) (ne_eqb n 0 (omega (arith, some)))

pub inside : (n i : ℕ) → i < n → 2 * i + 1 < cell_count n
inside n i below = let e = count_some n (omega (arith, below)) in omega (arith, e, below)

length_words : (cells : List ℕ) (n : ℕ) → length cells ≡ twice n → length (words_in cells) ≡ n
length_words [] zero e = refl
length_words [] (suc n) e = absurd (omega (arith, e))
length_words (s ∷ []) zero e = absurd (omega (arith, e))
length_words (s ∷ []) (suc n) e = absurd (omega (arith, e))
length_words (s ∷ c ∷ cells) zero e = absurd (omega (arith, e))
length_words (s ∷ c ∷ cells) (suc n) e = ap suc (length_words cells n (omega (arith, e)))

length_one : (cells : List ℕ) → length cells ≡ 1 → length (words_in cells) ≡ 0
length_one [] e = refl
length_one (s ∷ []) e = refl
length_one (s ∷ c ∷ cells) e = absurd (omega (arith, e))

pub length_read : (o : Option (List ℕ)) (n : ℕ) → cells_held o ≡ cell_count n → length (words_read o) ≡ n
length_read None zero e = refl
length_read None (suc n) e = absurd (let h = count_some (suc n) (omega arith) in omega (arith, e, h))
length_read (Some cells) zero e = length_one cells e
length_read (Some cells) (suc n) e = length_words cells (suc n) (e ∙ count_some (suc n) (omega arith) ∙ sym (twice-is (suc n)))

-- one more word is written
pub one_more : (ws all new : List Word) (i : ℕ) (d : Word) → new ≡ set ws i (get_or all i d) → length ws ≡ length all → i < length all
    → take i ws ≡ take i all → take (i + 1) new ≡ take (i + 1) all
one_more ws all new i d written long below same =
    ap (take (i + 1)) written
    ∙ take_more_set ws i (get_or all i d) (omega (arith, long, below))
    ∙ ap (λ (front : List Word). front ++ get_or all i d ∷ []) same
    ∙ sym (take_more all i d below)

pub all_written : (ws all : List Word) (i : ℕ) → length ws ≡ length all → length all ≤ i → take i ws ≡ take i all → ws ≡ all
all_written ws all i long past same = sym (take_all i ws (omega (arith, long, past))) ∙ same ∙ take_all i all past

-- a slot whose cells are kept
pub others_then : (slot : Slot) (a b c : List SizeClass) → KeepsOthers slot a b → KeepsOthers slot b c → KeepsOthers slot a c
others_then slot a b c first second other apart = second other apart ∙ first other apart
