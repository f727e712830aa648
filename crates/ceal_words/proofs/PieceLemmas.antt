-- The words of a piece are changed by no write outside it.
use Rattle.std.proofs.Common.{◌≡◌, ◌≢◌, ℕ, zero, suc, ◌+◌, ◌-◌, ◌*◌, ◌<◌, ◌≤◌, List, [], ◌∷◌, ◌++◌, length, take, drop, get_or, set, Some, None, refl, sym, ap, ◌∙◌, subst, ⊎_elim, arith}
use Rattle.std.proofs.lemmas.List.{drop-set-lt, drop-set-add, take-set-le, get_or-set_same, get_or-set_other}
use Rattle.std.proofs.lemmas.List.{length-set, length-drop, ext_get_or, drop-append-le, take-append-le}
use Rattle.std.proofs.lemmas.List.{get_or_append_left, length_push, get_or_push}
use Rattle.std.proofs.lemmas.Nat.{row_fits}
use Rattle.std.proofs.lemmas.Bool.{cases_order, cases_eq}
use Rattle.ceal_words.specs.Layout.{piece, pieces_from}

-- two memories are the same in the first pieces but for piece i
abbrev pub Agree : ℕ → ℕ → ℕ → List ℕ → List ℕ → Type 0
Agree size made i before after = (j n : ℕ) → j ≢ i → j < made → n ≤ size → take n (drop (j * size) after) ≡ take n (drop (j * size) before)

pub agree_set : (size made i index value : ℕ) (words : List ℕ) → index < size → Agree size made i words (set words (i * size + index) value)
agree_set size made i index value words within j n other below fits =
    ⊎_elim (λ same. absurd (other same)) (λ apart. ⊎_elim
    (λ below_i. let row = row_fits j size i size below_i (omega arith) in
    let past = i * size + index - j * size in
    ap (λ (k : ℕ). take n (drop (j * size) (set words k value))) (omega arith)
    ∙ ap (take n) (drop-set-add (j * size) words past value)
    ∙ take-set-le n (drop (j * size) words) past value (omega arith))
    (λ above_i. let row = row_fits i size j size above_i (omega arith) in
    ap (take n) (drop-set-lt (j * size) words (i * size + index) value (omega arith)))
    apart)
    (cases_order j i)

pub agree_append : (size made i : ℕ) (words more : List ℕ) → made * size ≤ length words → Agree size made i words (words ++ more)
agree_append size made i words more room j n other below fits =
    let row = row_fits j size made size below (omega arith) in
    ap (take n) (drop-append-le (j * size) words more (omega arith))
    ∙ take-append-le n (drop (j * size) words) more (let e = length-drop (j * size) words in omega arith)

pub length-pieces : (size i : ℕ) (marks words : List ℕ) → length (pieces_from size i marks words) ≡ length marks
length-pieces size i [] words = refl
length-pieces size i (mark ∷ marks) words = ap suc (length-pieces size (suc i) marks words)

-- the piece of this number, where it is free also past the last one
piece_at : (size i k : ℕ) (marks words : List ℕ) → get_or (pieces_from size i marks words) k None ≡ piece (get_or marks k 0) (drop ((i + k) * size) words)
piece_at size i k [] words = refl
piece_at size i zero (mark ∷ marks) words = ap (λ (n : ℕ). piece mark (drop (n * size) words)) (omega arith)
piece_at size i (suc k) (mark ∷ marks) words = piece_at size (suc i) k marks words ∙ ap (λ (n : ℕ). piece (get_or marks k 0) (drop (n * size) words)) (omega arith)

pub piece_of : (size k : ℕ) (marks words : List ℕ) → get_or (pieces_from size 0 marks words) k None ≡ piece (get_or marks k 0) (drop (k * size) words)
piece_of size k marks words = piece_at size 0 k marks words ∙ ap (λ (n : ℕ). piece (get_or marks k 0) (drop (n * size) words)) (omega arith)

-- a piece is the same where its words are
piece_same : (size mark : ℕ) (before after : List ℕ) → mark ≤ size → ((n : ℕ) → n ≤ size → take n after ≡ take n before) → piece mark after ≡ piece mark before
piece_same size zero before after fits same = refl
piece_same size (suc n) before after fits same = ap Some (same (suc n) fits)

-- another mark of piece i, and other words in it, change only piece i
pub pieces_set : (size i mark : ℕ) (marks before after : List ℕ) → i < length marks → ((j : ℕ) → get_or marks j 0 ≤ size) → Agree size (length marks) i before after
    → pieces_from size 0 (set marks i mark) after ≡ set (pieces_from size 0 marks before) i (piece mark (drop (i * size) after))
pieces_set size i mark marks before after within fits agree =
    let new = piece mark (drop (i * size) after) in
    let count = length-pieces size 0 (set marks i mark) after ∙ length-set marks i mark in
    let old_count = length-pieces size 0 marks before in
    ext_get_or None (pieces_from size 0 (set marks i mark) after) (set (pieces_from size 0 marks before) i new)
    (count ∙ sym old_count ∙ sym (length-set (pieces_from size 0 marks before) i new))
    (λ j below. piece_of size j (set marks i mark) after ∙ ⊎_elim
    (λ same. subst (λ (k : ℕ). piece (get_or (set marks i mark) k 0) (drop (k * size) after) ≡ get_or (set (pieces_from size 0 marks before) i new) k None) (sym same)
    (ap (λ (m : ℕ). piece m (drop (i * size) after)) (get_or-set_same marks i mark 0 within)
    ∙ sym (get_or-set_same (pieces_from size 0 marks before) i new None (omega (arith, old_count, within)))))
    (λ other. ap (λ (m : ℕ). piece m (drop (j * size) after)) (get_or-set_other marks i j mark 0 other)
    ∙ piece_same size (get_or marks j 0) (drop (j * size) before) (drop (j * size) after) (fits j) (λ n small. agree j n other (omega (arith, count, below)) small)
    ∙ sym (piece_of size j marks before)
    ∙ sym (get_or-set_other (pieces_from size 0 marks before) i j new None other))
    (cases_eq j i))

-- one more free piece
pub pieces_push : (size : ℕ) (marks before after : List ℕ) → ((j : ℕ) → get_or marks j 0 ≤ size) → Agree size (length marks) (length marks) before after
    → pieces_from size 0 (marks ++ 0 ∷ []) after ≡ pieces_from size 0 marks before ++ None ∷ []
pieces_push size marks before after fits agree =
    let count = length-pieces size 0 (marks ++ 0 ∷ []) after ∙ length_push marks 0 in
    let old_count = length-pieces size 0 marks before in
    ext_get_or None (pieces_from size 0 (marks ++ 0 ∷ []) after) (pieces_from size 0 marks before ++ None ∷ [])
    (count ∙ sym (length_push (pieces_from size 0 marks before) None ∙ ap (λ (n : ℕ). n + 1) old_count))
    (λ j below. piece_of size j (marks ++ 0 ∷ []) after ∙ ⊎_elim
    (λ same. ap (λ (m : ℕ). piece m (drop (j * size) after)) (get_or_push marks 0 0 j (sym same))
    ∙ sym (get_or_push (pieces_from size 0 marks before) None None j (old_count ∙ sym same)))
    (λ other. let inside : j < length marks = omega (arith, count, below, other) in
    ap (λ (m : ℕ). piece m (drop (j * size) after)) (get_or_append_left marks (0 ∷ []) 0 j inside)
    ∙ piece_same size (get_or marks j 0) (drop (j * size) before) (drop (j * size) after) (fits j) (λ n small. agree j n other inside small)
    ∙ sym (piece_of size j marks before)
    ∙ sym (get_or_append_left (pieces_from size 0 marks before) (None ∷ []) None j (omega (arith, old_count, inside))))
    (cases_eq j (length marks)))

-- the pieces are the same where their words are
pub pieces_same : (size : ℕ) (marks before after : List ℕ) → ((j : ℕ) → get_or marks j 0 ≤ size)
    → ((j n : ℕ) → j < length marks → n ≤ size → take n (drop (j * size) after) ≡ take n (drop (j * size) before))
    → pieces_from size 0 marks after ≡ pieces_from size 0 marks before
pieces_same size marks before after fits same =
    let count = length-pieces size 0 marks after in
    ext_get_or None (pieces_from size 0 marks after) (pieces_from size 0 marks before) (count ∙ sym (length-pieces size 0 marks before))
    (λ j below. piece_of size j marks after
    ∙ piece_same size (get_or marks j 0) (drop (j * size) before) (drop (j * size) after) (fits j) (λ n small. same j n (omega (arith, count, below)) small)
    ∙ sym (piece_of size j marks before))
