-- The free list stays what it is under a write to a piece that is not in it.
use Rattle.std.proofs.Common.{◌≡◌, ◌≢◌, ℕ, zero, suc, ◌+◌, ◌*◌, ◌<◌, ◌≤◌, List, [], ◌∷◌, ◌++◌, length, drop, get_or, set, refl, sym, ap, ◌∙◌, subst, arith}
use Rattle.std.proofs.lemmas.List.{get_or-drop, get_or-take, get_or-set_other, length-set, get_or_append_left, length_push}
use Rattle.ceal_words.specs.Layout.{link, free_list, IsOutside, IsFreeList, free_count}
use Rattle.ceal_words.proofs.PieceLemmas.{Agree}

pub link_same : (size made i j : ℕ) (before after : List ℕ) → 0 < size → Agree size made i before after → j ≢ i → j < made → link size after j ≡ link size before j
link_same size made i j before after some agree other below =
    let first = λ (words : List ℕ). get_or-take 1 (drop (j * size) words) 0 0 (omega arith) ∙ get_or-drop (j * size) words 0 0 ∙ ap (λ (k : ℕ). get_or words k 0) {x = j * size + 0} {y = j * size}
    (omega arith) in
    sym (first after) ∙ ap (λ (words : List ℕ). get_or words 0 0) (agree j 1 other below some) ∙ first before

-- marks that are the same but for piece i
abbrev pub MarksAgree : ℕ → List ℕ → List ℕ → Type 0
MarksAgree i before after = (length before ≤ length after) × ((j : ℕ) → j ≢ i → j < length before → get_or after j 0 ≡ get_or before j 0)

pub list_same : (size i : ℕ) (before after marks : List ℕ) → 0 < size → Agree size (length marks) i before after
    → (n head : ℕ) → IsFreeList size before marks n head → IsOutside i (free_list size before n head) → free_list size after n head ≡ free_list size before n head
list_same size i before after marks some agree zero head free out = refl
list_same size i before after marks some agree (suc n) head free out =
    let next = link_same size (length marks) i head before after some agree out.0 free.0 in
    ap (λ (k : ℕ). head ∷ free_list size after n k) next
    ∙ ap (λ (xs : List ℕ). head ∷ xs) (list_same size i before after marks some agree n (link size before head) free.3 out.1)

pub free_same : (size i : ℕ) (before after marks marks' : List ℕ) → 0 < size → Agree size (length marks) i before after → MarksAgree i marks marks'
    → (n head : ℕ) → IsFreeList size before marks n head → IsOutside i (free_list size before n head) → IsFreeList size after marks' n head
free_same size i before after marks marks' some agree alike zero head free out = tt
free_same size i before after marks marks' some agree alike (suc n) head free out =
    let next = link_same size (length marks) i head before after some agree out.0 free.0 in
    let same = list_same size i before after marks some agree n (link size before head) free.3 out.1 in (
      omega (arith, free.0, alike.0),
      alike.1 head out.0 free.0 ∙ free.1,
      subst (λ (k : ℕ). IsOutside head (free_list size after n k)) (sym next) (subst (IsOutside head) (sym same) free.2),
      subst (λ (k : ℕ). IsFreeList size after marks' n k) (sym next) (free_same size i before after marks marks' some agree alike n (link size before head) free.3 out.1),
    )

-- a piece that is taken, or that is not there, is not in the free list
pub outside : (size i : ℕ) (words marks : List ℕ) → (i < length marks → 0 < get_or marks i 0)
    → (n head : ℕ) → IsFreeList size words marks n head → IsOutside i (free_list size words n head)
outside size i words marks taken zero head free = tt
outside size i words marks taken (suc n) head free = (
  (λ same. let busy = taken (subst (λ (k : ℕ). k < length marks) same free.0) in let idle = subst (λ (k : ℕ). get_or marks k 0 ≡ 0) same free.1 in omega (arith, busy, idle)),
  outside size i words marks taken n (link size words head) free.3,
)

pub marks_set : (i mark : ℕ) (marks : List ℕ) → MarksAgree i marks (set marks i mark)
marks_set i mark marks = (let e = length-set marks i mark in omega (arith, e), λ j other below. get_or-set_other marks i j mark 0 other)

pub marks_push : (marks : List ℕ) → MarksAgree (length marks) marks (marks ++ 0 ∷ [])
marks_push marks = (let e = length_push marks 0 in omega (arith, e), λ j other below. get_or_append_left marks (0 ∷ []) 0 j below)

-- how the number of free pieces changes with a mark
pub count_set : (i mark : ℕ) (marks : List ℕ) → i < length marks → free_count (set marks i mark) + free_count (get_or marks i 0 ∷ []) ≡ free_count marks + free_count (mark ∷ [])
count_set i mark [] within = absurd (omega (arith, within))
count_set zero zero (zero ∷ marks) within = refl
count_set zero zero (suc k ∷ marks) within = omega arith
count_set zero (suc m) (zero ∷ marks) within = omega arith
count_set zero (suc m) (suc k ∷ marks) within = refl
count_set (suc i) mark (zero ∷ marks) within = let e = count_set i mark marks (omega (arith, within)) in omega (arith, e)
count_set (suc i) mark (suc k ∷ marks) within = count_set i mark marks (omega (arith, within))

pub count_push : (marks : List ℕ) → free_count (marks ++ 0 ∷ []) ≡ free_count marks + 1
count_push [] = refl
count_push (zero ∷ marks) = let e = count_push marks in omega (arith, e)
count_push (suc k ∷ marks) = count_push marks

pub count_below : (marks : List ℕ) → free_count marks ≤ length marks
count_below [] = omega arith
count_below (zero ∷ marks) = let e = count_below marks in omega (arith, e)
count_below (suc k ∷ marks) = let e = count_below marks in omega (arith, e)
