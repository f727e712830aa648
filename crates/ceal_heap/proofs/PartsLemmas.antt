-- The words of a block, by its parts.
use Rattle.std.proofs.Common.{◌≡◌, ℕ, zero, suc, ◌+◌, ◌-◌, ◌<◌, ◌≤◌, List, [], ◌∷◌, ◌++◌, length, take, replicate, Some, refl, sym, ap, ◌∙◌, subst, arith, slice_get}
use Rattle.std.proofs.lemmas.List.{append_assoc, take_more}
use Rattle.std.proofs.lemmas.Option.{get_or_from_slice_get, slice_get_within}
use Rattle.ceal_base.specs.declared.word.Word.{Word}
use Rattle.ceal_heap.specs.Parts.{filling}
use Rattle.ceal_heap.specs.declared.parts.Parts.{Parts}

get_left : {X : Type 0} (xs ys : List X) (i : ℕ) → i < length xs → slice_get (xs ++ ys) i ≡ slice_get xs i
get_left [] ys i below = absurd (omega (arith, below))
get_left (x ∷ xs) ys zero below = refl
get_left (x ∷ xs) ys (suc i) below = get_left xs ys i (omega (arith, below))

get_right : {X : Type 0} (xs ys : List X) (i j : ℕ) → i ≡ length xs + j → slice_get (xs ++ ys) i ≡ slice_get ys j
get_right [] ys i j e = ap (slice_get ys) (omega (arith, e))
get_right (x ∷ xs) ys zero j e = absurd (omega (arith, e))
get_right (x ∷ xs) ys (suc i) j e = get_right xs ys i j (omega (arith, e))

-- the last word before those that are this one is this one too
pub one_less : (ws : List Word) (count : ℕ) (w : Word) → 0 < count → slice_get ws (count - 1) ≡ Some w → take count ws ++ replicate (length ws - count) w ≡ ws
    → take (count - 1) ws ++ replicate (length ws - (count - 1)) w ≡ ws
one_less ws count w some last same =
    let n = count - 1 in
    let below = slice_get_within ws n w last in
    let one : count ≡ n + 1 = omega (arith, some) in
    let more : (length ws - n) ≡ suc (length ws - (n + 1)) = omega (arith, below) in
    ap (λ (k : ℕ). take n ws ++ replicate k w) more
    ∙ sym (append_assoc (take n ws) (w ∷ []) (replicate (length ws - (n + 1)) w))
    ∙ ap (λ (x : Word). (take n ws ++ x ∷ []) ++ replicate (length ws - (n + 1)) w) (sym (get_or_from_slice_get ws n w w last))
    ∙ ap (λ (front : List Word). front ++ replicate (length ws - (n + 1)) w) (sym (take_more ws n w below))
    ∙ subst (λ (k : ℕ). take k ws ++ replicate (length ws - k) w ≡ ws) one same

-- a word of a block is one of those that are kept, or comes after them
pub kept_word : (ws : List Word) (p : Parts) (i : ℕ) (w : Word) → slice_get ws i ≡ Some w → Some w ≡ slice_get (ws ++ filling p) i
kept_word ws p i w here = sym (get_left ws (filling p) i (slice_get_within ws i w here) ∙ here)

pub word_after : (ws : List Word) (p : Parts) (i n : ℕ) → length ws ≡ n → n ≤ i → slice_get (filling p) (i - n) ≡ slice_get (ws ++ filling p) i
word_after ws p i n long past = sym (get_right ws (filling p) i (i - n) (omega (arith, long, past)))
