-- What each step of a size class does to its layout, and to what contracts see of it.
use Rattle.std.proofs.Common.{append_assoc, ◌≡◌, ℕ, zero, suc, ◌+◌, ◌-◌, ◌*◌, ◌<◌, ◌≤◌, List, [], ◌∷◌, ◌++◌, length}
use Rattle.std.proofs.Common.{take, drop, get_or, set, replicate, Option, Some, None, IsSome, IfSome, Result, Ok, Err}
use Rattle.std.proofs.Common.{OnErr, refl, sym, ap, ◌∙◌, subst, ⊎_elim, arith, slice_get}
use Rattle.std.proofs.lemmas.List.{drop-set-add, get_or-drop, get_or-take, get_or-set_same, get_or-set_other}
use Rattle.std.proofs.lemmas.List.{get_or_past, length-set, length-drop, length-take-le, length_push, length-replicate}
use Rattle.std.proofs.lemmas.List.{replicate-append-replicate, set-get_or, get_or_push, get_or_append_left, set-set}
use Rattle.std.proofs.lemmas.List.{set_at, drop_more, drop_all, append-nil, replicate_more}
use Rattle.std.proofs.lemmas.Option.{slice_get-get_or, slice_get_past}
use Rattle.std.proofs.lemmas.Nat.{mul-add-lt, row_fits}
use Rattle.std.proofs.lemmas.Bool.{cases_lt, cases_eq, false≢true}
use Rattle.std.proofs.lemmas.List.{length-append}
use Rattle.std.proofs.Math.Nat.{add-mul, mul-le-mul_right}
use Rattle.ceal_words.specs.Lengths.{RoundsTo}
use Rattle.ceal_words.specs.SizeClass.{SizeClass, words_at, word_in, changed, taken, given, with_word, grown}
use Rattle.ceal_words.specs.Layout.{class_of, piece, pieces_from, link, free_list, IsOutside, IsFreeList, free_count, IsLaidOut}
use Rattle.ceal_words.proofs.PieceLemmas.{Agree, agree_set, agree_append, piece_of, pieces_set, pieces_push, pieces_same, length-pieces}
use Rattle.ceal_words.proofs.FreeLemmas.{free_same, list_same, outside, marks_set, marks_push, count_set, count_push, count_below}

abbrev pub view : ℕ → List ℕ → List ℕ → ℕ → SizeClass
view size words marks spare = record { size = size; pieces = pieces_from size 0 marks words; spare = spare }

-- a number that is not the default is in the list
pub stands : (xs : List ℕ) (i : ℕ) → 0 < get_or xs i 0 → i < length xs
stands xs i some = ⊎_elim (λ inside. inside) (λ past. let e = get_or_past xs i 0 past in absurd (omega (arith, e, some))) (cases_lt i (length xs))

is_marked : (mark : ℕ) (words : List ℕ) → IsSome (piece mark words) → 0 < mark
is_marked zero words none = absurd (false≢true none)
is_marked (suc n) words some = omega arith

-- the piece that a slot has is marked
pub marked : (size at : ℕ) (marks words : List ℕ) → IsSome (words_at (pieces_from size 0 marks words) at) → 0 < get_or marks at 0
marked size at marks words some = is_marked (get_or marks at 0) (drop (at * size) words) (subst IsSome (piece_of size at marks words) some)

is_inside : {X : Type 0} (xs : List X) (i : ℕ) → IsSome (slice_get xs i) → i < length xs
is_inside xs i some = ⊎_elim (λ inside. inside) (λ past. absurd (false≢true (subst IsSome (slice_get_past xs i past) some))) (cases_lt i (length xs))

length_taken : (n : ℕ) (xs : List ℕ) → length (take n xs) ≤ n
length_taken zero xs = omega arith
length_taken (suc n) [] = omega arith
length_taken (suc n) (x ∷ xs) = let e = length_taken n xs in omega (arith, e)

is_word : (mark index : ℕ) (words : List ℕ) → IsSome (word_in (piece mark words) index) → (index < mark) × (word_in (piece mark words) index ≡ Some (get_or words index 0))
is_word zero index words none = absurd (false≢true none)
is_word (suc n) index words some =
    let inside = is_inside (take (suc n) words) index some in let few = length_taken (suc n) words in
    let below : index < suc n = omega (arith, inside, few) in
    (below, slice_get-get_or (take (suc n) words) index 0 inside ∙ ap Some (get_or-take (suc n) words index 0 below))

-- a word of a slot is the word of the chunk at its place
pub word_of : (size at index : ℕ) (marks words : List ℕ) → IsSome (word_in (words_at (pieces_from size 0 marks words) at) index)
    → (index < get_or marks at 0) × (word_in (words_at (pieces_from size 0 marks words) at) index ≡ Some (get_or words (at * size + index) 0))
word_of size at index marks words some =
    let e = piece_of size at marks words in
    let found = is_word (get_or marks at 0) index (drop (at * size) words) (subst (λ (p : Option (List ℕ)). IsSome (word_in p index)) e some) in
    (found.0, ap (λ (p : Option (List ℕ)). word_in p index) e ∙ found.1 ∙ ap Some (get_or-drop (at * size) words index 0))

take_set : (n i value : ℕ) (xs : List ℕ) → take n (set xs i value) ≡ set (take n xs) i value
take_set zero i value xs = refl
take_set (suc n) i value [] = refl
take_set (suc n) zero value (x ∷ xs) = refl
take_set (suc n) (suc i) value (x ∷ xs) = ap (λ (ys : List ℕ). x ∷ ys) (take_set n i value xs)

piece_changed : (mark index value : ℕ) (words : List ℕ) → piece mark (set words index value) ≡ changed (piece mark words) index value
piece_changed zero index value words = refl
piece_changed (suc n) index value words = ap Some (take_set (suc n) index value words)

not_free : (mark : ℕ) → 0 < mark → free_count (mark ∷ []) ≡ 0
not_free zero some = absurd (omega (arith, some))
not_free (suc n) some = refl

of_some : (mark : ℕ) (words : List ℕ) → 0 < mark → piece mark words ≡ Some (take mark words)
of_some zero words some = absurd (omega (arith, some))
of_some (suc n) words some = refl

module _ (size made head spare : ℕ) (words marks : List ℕ) (laid : IsLaidOut size words marks made head spare) where
  pub fits : (j : ℕ) → get_or marks j 0 ≤ size
  fits j = ⊎_elim (λ some. (laid.lengths j some).fits) (λ none. omega (arith, none)) (cases_lt 0 (get_or marks j 0))

  -- the word of a piece lies in the chunk
  pub place : (at index : ℕ) → at < made → index < size → at * size + index < length words
  place at index below small = let h = mul-add-lt at size index made below small in let room = laid.room in omega (arith, h, room)

  agree_at : (at index value : ℕ) → index < size → Agree size (length marks) at words (set words (at * size + index) value)
  agree_at at index value small = agree_set size (length marks) at index value words small

  -- the words of a piece are as many as its mark says
  length_of : (mark : ℕ) (xs : List ℕ) → mark ≤ length xs → (0 < mark → RoundsTo mark size) → IfSome (piece mark xs) (λ ws. RoundsTo (length ws) size)
  length_of zero xs room rounds = tt
  length_of (suc n) xs room rounds = subst (λ (k : ℕ). RoundsTo k size) (sym (length-take-le (suc n) xs room)) (rounds (omega arith))

  pub taken_length : (at : ℕ) → IfSome (words_at (pieces_from size 0 marks words) at) (λ ws. RoundsTo (length ws) size)
  taken_length at = subst (λ (p : Option (List ℕ)). IfSome p (λ ws. RoundsTo (length ws) size)) (sym (piece_of size at marks words))
      (length_of (get_or marks at 0) (drop (at * size) words)
      (⊎_elim (λ some. let below = stands marks at some in let counted = laid.counted in let room = laid.room in
      let row = row_fits at size made size (omega (arith, below, counted)) (omega arith) in
      omega (arith, length-drop (at * size) words, row, room, fits at))
      (λ none. omega (arith, none)) (cases_lt 0 (get_or marks at 0)))
      (laid.lengths at))

  -- a word of a taken piece is written
  pub laid_set : (at index value : ℕ) → 0 < get_or marks at 0 → index < size → IsLaidOut size (set words (at * size + index) value) marks made head spare
  laid_set at index value busy small = record {
    some = laid.some;
    counted = laid.counted;
    room = let e = length-set words (at * size + index) value in let room = laid.room in omega (arith, e, room);
    lengths = laid.lengths;
    free = free_same size at words (set words (at * size + index) value) marks marks laid.some (agree_at at index value small) (omega arith, λ j other below. refl)
        spare head laid.free (outside size at words marks (λ _. busy) spare head laid.free);
    every = laid.every;
  }

  pub view_set : (at index value : ℕ) → 0 < get_or marks at 0 → index < size
      → view size (set words (at * size + index) value) marks spare ≡ with_word at index value (view size words marks spare)
  view_set at index value busy small =
      let new = set words (at * size + index) value in let mark = get_or marks at 0 in let pieces = pieces_from size 0 marks words in
      ap (λ (ps : List (Option (List ℕ))). record { size = size; pieces = ps; spare = spare })
      (ap (λ (ms : List ℕ). pieces_from size 0 ms new) (sym (set-get_or marks at 0))
      ∙ pieces_set size at mark marks words new (stands marks at busy) fits (agree_at at index value small)
      ∙ ap (λ (p : Option (List ℕ)). set pieces at p)
      (ap (piece mark) (drop-set-add (at * size) words index value)
      ∙ piece_changed mark index value (drop (at * size) words)
      ∙ ap (λ (p : Option (List ℕ)). changed p index value) (sym (piece_of size at marks words))))

  -- the word of a free piece's link is the head again after a piece was put before it
  free_given : (at n : ℕ) (words' marks' : List ℕ) → at < length marks' → get_or marks' at 0 ≡ 0 → link size words' at ≡ head
      → IsOutside at (free_list size words' n head) → IsFreeList size words' marks' n head → IsFreeList size words' marks' (suc n) at
  free_given at n words' marks' inside idle e out free =
      (inside, idle, subst (λ (k : ℕ). IsOutside at (free_list size words' n k)) (sym e) out, subst (λ (k : ℕ). IsFreeList size words' marks' n k) (sym e) free)

  start_is : (at value : ℕ) → at < made → link size (set words (at * size + 0) value) at ≡ value
  start_is at value below = ap (λ (k : ℕ). get_or (set words (at * size + 0) value) k 0) {x = at * size} {y = at * size + 0} (omega arith)
      ∙ get_or-set_same words (at * size + 0) value 0 (place at 0 below laid.some)

  lengths_after : (at mark : ℕ) → at < length marks → (0 < mark → RoundsTo mark size) → (i : ℕ) → 0 < get_or (set marks at mark) i 0 → RoundsTo (get_or (set marks at mark) i 0) size
  lengths_after at mark inside rounds i some = ⊎_elim
      (λ same. let e = ap (λ (k : ℕ). get_or (set marks at mark) k 0) same ∙ get_or-set_same marks at mark 0 inside in
      subst (λ (k : ℕ). RoundsTo k size) (sym e) (rounds (subst (λ (k : ℕ). 0 < k) e some)))
      (λ other. let e = get_or-set_other marks at i mark 0 other in subst (λ (k : ℕ). RoundsTo k size) (sym e) (laid.lengths i (subst (λ (k : ℕ). 0 < k) e some)))
      (cases_eq i at)

  -- a piece is given back
  laid_give : (at : ℕ) → 0 < get_or marks at 0 → IsLaidOut size (set words (at * size + 0) head) (set marks at 0) made at (spare + 1)
  laid_give at busy =
      let new = set words (at * size + 0) head in let inside = stands marks at busy in
      let agree = agree_at at 0 head laid.some in let out = outside size at words marks (λ _. busy) spare head laid.free in
      record {
        some = laid.some;
        counted = length-set marks at 0 ∙ laid.counted;
        room = let e = length-set words (at * size + 0) head in let room = laid.room in omega (arith, e, room);
        lengths = lengths_after at 0 inside (λ none. absurd (omega (arith, none)));
        free = subst (λ (n : ℕ). IsFreeList size new (set marks at 0) n at) {x = suc spare} (omega arith)
            (free_given at spare new (set marks at 0) (omega (arith, length-set marks at 0, inside)) (get_or-set_same marks at 0 0 inside)
            (start_is at head (omega (arith, inside, laid.counted)))
            (subst (IsOutside at) (sym (list_same size at words new marks laid.some agree spare head laid.free out)) out)
            (free_same size at words new marks (set marks at 0) laid.some agree (marks_set at 0 marks) spare head laid.free out));
        every = let e = count_set at 0 marks inside in let all = laid.every in omega (arith, e, all, not_free (get_or marks at 0) busy);
      }

  pub laid_given : (at : ℕ) → 0 < get_or marks at 0 → IsLaidOut size (set words (at * size) head) (set marks at 0) made at (spare + 1)
  laid_given at busy = subst (λ (k : ℕ). IsLaidOut size (set words k head) (set marks at 0) made at (spare + 1)) {x = at * size + 0} (omega arith) (laid_give at busy)

  -- the number of spare pieces stays below that of all
  pub has_taken : (at : ℕ) → 0 < get_or marks at 0 → spare < made
  has_taken at busy =
      let inside = stands marks at busy in let e = count_set at 0 marks inside in let all = laid.every in let counted = laid.counted in
      omega (arith, e, all, not_free (get_or marks at 0) busy, count_below (set marks at 0), length-set marks at 0, counted)

  view_give : (at : ℕ) → 0 < get_or marks at 0 → view size (set words (at * size + 0) head) (set marks at 0) (spare + 1) ≡ given at (view size words marks spare)
  view_give at busy =
      ap (λ (ps : List (Option (List ℕ))). record { size = size; pieces = ps; spare = spare + 1 })
      (pieces_set size at 0 marks words (set words (at * size + 0) head) (stands marks at busy) fits (agree_at at 0 head laid.some))

  pub view_given : (at : ℕ) → 0 < get_or marks at 0 → view size (set words (at * size) head) (set marks at 0) (spare + 1) ≡ given at (view size words marks spare)
  view_given at busy = subst (λ (k : ℕ). view size (set words k head) (set marks at 0) (spare + 1) ≡ given at (view size words marks spare)) {x = at * size + 0} (omega arith) (view_give at busy)

  has_room : length marks * size ≤ length words
  has_room = let room = laid.room in subst (λ (n : ℕ). n * size ≤ length words) (sym laid.counted) room

  -- more words, in no piece
  pub laid_longer : (more : List ℕ) → IsLaidOut size (words ++ more) marks made head spare
  laid_longer more =
      let agree = agree_append size (length marks) (length marks) words more has_room in
      let out = outside size (length marks) words marks (λ below. absurd (omega (arith, below))) spare head laid.free in
      record {
        some = laid.some;
        counted = laid.counted;
        room = let e = length-append words more in let room = laid.room in omega (arith, e, room);
        lengths = laid.lengths;
        free = free_same size (length marks) words (words ++ more) marks marks laid.some agree (omega arith, λ j other below. refl) spare head laid.free out;
        every = laid.every;
      }

  pub view_longer : (more : List ℕ) → view size (words ++ more) marks spare ≡ view size words marks spare
  view_longer more = ap (λ (ps : List (Option (List ℕ))). record { size = size; pieces = ps; spare = spare })
      (pieces_same size marks words (words ++ more) fits
      (λ j n below small. agree_append size (length marks) (length marks) words more has_room j n (λ e. absurd (omega (arith, e, below))) below small))

  -- one more piece, which becomes the head
  module _ (enough : made * size + size ≤ length words) where
    abbrev count : ℕ
    count = length marks

    abbrev pushed : List ℕ
    pushed = set words (count * size + 0) head

    enough_ : count * size + size ≤ length words
    enough_ = subst (λ (n : ℕ). n * size + size ≤ length words) (sym laid.counted) enough

    agree_more : Agree size count count words pushed
    agree_more = agree_set size count count 0 head words laid.some

    laid_more : IsLaidOut size pushed (marks ++ 0 ∷ []) (count + 1) count (spare + 1)
    laid_more =
        let out = outside size count words marks (λ below. absurd (omega (arith, below))) spare head laid.free in
        let start : count * size + 0 < length words = let some = laid.some in omega (arith, enough_, some) in
        record {
          some = laid.some;
          counted = length_push marks 0;
          room = let e = length-set words (count * size + 0) head in omega (arith, e, enough_, add-mul count 1 size);
          lengths = λ i some. let inside = stands (marks ++ 0 ∷ []) i some in ⊎_elim
              (λ same. let e = get_or_push marks 0 0 i (sym same) in absurd (omega (arith, e, some)))
              (λ other. let e = get_or_append_left marks (0 ∷ []) 0 i (omega (arith, inside, length_push marks 0, other)) in
              subst (λ (k : ℕ). RoundsTo k size) (sym e) (laid.lengths i (subst (λ (k : ℕ). 0 < k) e some)))
              (cases_eq i count);
          free = subst (λ (n : ℕ). IsFreeList size pushed (marks ++ 0 ∷ []) n count) {x = suc spare} (omega arith)
              (free_given count spare pushed (marks ++ 0 ∷ []) (omega (arith, length_push marks 0)) (get_or_push marks 0 0 count refl)
              (ap (λ (k : ℕ). get_or pushed k 0) {x = count * size} {y = count * size + 0} (omega arith) ∙ get_or-set_same words (count * size + 0) head 0 start)
              (subst (IsOutside count) (sym (list_same size count words pushed marks laid.some agree_more spare head laid.free out)) out)
              (free_same size count words pushed marks (marks ++ 0 ∷ []) laid.some agree_more (marks_push marks) spare head laid.free out));
          every = count_push marks ∙ ap (λ (n : ℕ). n + 1) laid.every;
        }

    pub laid_pushed : IsLaidOut size (set words (made * size) head) (marks ++ 0 ∷ []) (made + 1) made (spare + 1)
    laid_pushed = subst (λ (n : ℕ). IsLaidOut size (set words (n * size) head) (marks ++ 0 ∷ []) (n + 1) n (spare + 1)) laid.counted
        (subst (λ (k : ℕ). IsLaidOut size (set words k head) (marks ++ 0 ∷ []) (count + 1) count (spare + 1)) {x = count * size + 0} (omega arith) laid_more)

    view_more : view size pushed (marks ++ 0 ∷ []) (spare + 1) ≡ grown 1 (view size words marks spare)
    view_more = ap (λ (ps : List (Option (List ℕ))). record { size = size; pieces = ps; spare = spare + 1 }) (pieces_push size marks words pushed fits agree_more)

    pub view_pushed : view size (set words (made * size) head) (marks ++ 0 ∷ []) (spare + 1) ≡ grown 1 (view size words marks spare)
    view_pushed = subst (λ (n : ℕ). view size (set words (n * size) head) (marks ++ 0 ∷ []) (spare + 1) ≡ grown 1 (view size words marks spare)) laid.counted
        (subst (λ (k : ℕ). view size (set words k head) (marks ++ 0 ∷ []) (spare + 1) ≡ grown 1 (view size words marks spare)) {x = count * size + 0} (omega arith) view_more)

  -- there are not more spare pieces than pieces
  pub few : spare ≤ made
  few = let all = laid.every in let counted = laid.counted in omega (arith, all, counted, count_below marks)

  -- the piece that is taken next
  pub head_is_free : 0 < spare → (head < length marks) × (get_or marks head 0 ≡ 0)
  head_is_free some = let free = subst (λ (n : ℕ). IsFreeList size words marks n head) {y = suc (spare - 1)} (omega (arith, some)) laid.free in (free.0, free.1)

  pub laid_popped : 0 < spare → (len : ℕ) → RoundsTo len size → IsLaidOut size words (set marks head len) made (link size words head) (spare - 1)
  laid_popped some len rounds =
      let free = subst (λ (n : ℕ). IsFreeList size words marks n head) {y = suc (spare - 1)} (omega (arith, some)) laid.free in
      let filled : 0 < len = let least = rounds.least in omega (arith, least) in
      record {
        some = laid.some;
        counted = length-set marks head len ∙ laid.counted;
        room = laid.room;
        lengths = lengths_after head len free.0 (λ _. rounds);
        free = free_same size head words words marks (set marks head len) laid.some (λ j n other below small. refl) (marks_set head len marks) (spare - 1) (link size words head) free.3 free.2;
        every = let e = count_set head len marks free.0 in let all = laid.every in
            omega (arith, e, all, not_free len filled, ap (λ (k : ℕ). free_count (k ∷ [])) free.1);
      }

  pub was_free : 0 < spare → slice_get (pieces_from size 0 marks words) head ≡ Some None
  was_free some =
      let free = head_is_free some in
      slice_get-get_or (pieces_from size 0 marks words) head None (omega (arith, length-pieces size 0 marks words, free.0))
      ∙ ap Some (piece_of size head marks words ∙ ap (λ (k : ℕ). piece k (drop (head * size) words)) free.1)

  -- what the words of the piece happen to be
  abbrev pub found : ℕ → List ℕ
  found len = take len (drop (head * size) words)

  pub length_found : 0 < spare → (len : ℕ) → RoundsTo len size → length (found len) ≡ len
  length_found some len rounds =
      let free = head_is_free some in let small = rounds.fits in let counted = laid.counted in let room = laid.room in
      let row = row_fits head size made size (omega (arith, free.0, counted)) (omega arith) in
      length-take-le len (drop (head * size) words) (let e = length-drop (head * size) words in omega (arith, e, row, room, small))

  pub view_popped : 0 < spare → (len : ℕ) → RoundsTo len size → view size words (set marks head len) (spare - 1) ≡ taken head (found len) (view size words marks spare)
  view_popped some len rounds =
      let free = head_is_free some in let least = rounds.least in
      ap (λ (ps : List (Option (List ℕ))). record { size = size; pieces = ps; spare = spare - 1 })
      (pieces_set size head len marks words words free.0 fits (λ j n other below small. refl)
      ∙ ap (set (pieces_from size 0 marks words) head) (of_some len (drop (head * size) words) (omega (arith, least))))

split_push : (xs : List ℕ) (y : ℕ) (ys : List ℕ) → xs ++ y ∷ ys ≡ (xs ++ y ∷ []) ++ ys
split_push [] y ys = refl
split_push (x ∷ xs) y ys = ap (λ (zs : List ℕ). x ∷ zs) (split_push xs y ys)

-- a piece that is set to zero word by word
module _ (class : SizeClass) (at index : ℕ) (words : List ℕ) (inside : at < length class.pieces) where
  abbrev zeroed : ℕ → List ℕ
  zeroed n = replicate n 0 ++ drop n words

  now_at : words_at (taken at (zeroed index) class).pieces at ≡ Some (zeroed index)
  now_at = get_or-set_same class.pieces at (Some (zeroed index)) None inside

  length_zeroed : index < length words → index < length (zeroed index)
  length_zeroed below = let e = length-append (replicate index 0) (drop index words) in omega (arith, e, length-replicate {A = ℕ} index 0, length-drop index words, below)

  pub zeroed_within : index < length words → IsSome (word_in (words_at (taken at (zeroed index) class).pieces at) index)
  zeroed_within below = subst (λ (p : Option (List ℕ)). IsSome (word_in p index)) (sym now_at)
      (subst IsSome (sym (slice_get-get_or (zeroed index) index 0 (length_zeroed below))) refl)

  set_zeroed : index < length words → set (zeroed index) index 0 ≡ zeroed (index + 1)
  set_zeroed below = ap (λ (xs : List ℕ). set (replicate index 0 ++ xs) index 0) (drop_more words index 0 below)
      ∙ set_at (replicate index 0) (get_or words index 0) (drop (index + 1) words) 0 index (length-replicate index 0)
      ∙ split_push (replicate index 0) 0 (drop (index + 1) words)
      ∙ ap (λ (xs : List ℕ). xs ++ drop (index + 1) words) (replicate_more index 0)

  pub zeroed_more : index < length words → with_word at index 0 (taken at (zeroed index) class) ≡ taken at (zeroed (index + 1)) class
  zeroed_more below = ap (λ (ps : List (Option (List ℕ))). record { size = class.size; pieces = ps; spare = class.spare - 1 })
      (ap (λ (p : Option (List ℕ)). set (set class.pieces at (Some (zeroed index))) at (changed p index 0)) now_at
      ∙ set-set class.pieces at (Some (zeroed index)) (Some (set (zeroed index) index 0))
      ∙ ap (λ (xs : List ℕ). set class.pieces at (Some xs)) (set_zeroed below))

pub zeroed_all : (class : SizeClass) (at len index : ℕ) (words : List ℕ) → length words ≡ len → index ≡ len → taken at (replicate index 0 ++ drop index words) class ≡ taken at (replicate len 0) class
zeroed_all class at len index words e same = ap (λ (xs : List ℕ). taken at xs class)
    (ap (λ (xs : List ℕ). replicate index 0 ++ xs) (drop_all index words (omega (arith, e, same))) ∙ append-nil (replicate index 0) ∙ ap (λ (n : ℕ). replicate n 0) same)

-- what holds anyhow holds also at an error
pub on_err : {T E P : Type 0} (r : Result T E) → P → OnErr r P
on_err (Ok x) p = tt
on_err (Err e) p = p

-- room for the piece after those that were made
pub room_for : (size made i more n : ℕ) → i < more → (made + more) * size ≤ n → (made + i) * size + size ≤ n
room_for size made i more n l h =
    let all = mul-le-mul_right {m = made + i + 1} {n = made + more} size (omega (arith, l)) in
    let parts = add-mul (made + i) 1 size in
    omega (arith, all, parts, h)

pub grown_more : (n : ℕ) (class : SizeClass) → grown 1 (grown n class) ≡ grown (n + 1) class
grown_more n class =
    let pieces : (class.pieces ++ replicate n None) ++ replicate 1 None ≡ class.pieces ++ replicate (n + 1) None =
    append_assoc class.pieces (replicate n None) (replicate 1 None) ∙ ap (λ (ps : List (Option (List ℕ))). class.pieces ++ ps) (replicate-append-replicate n 1 None) in
    let spare : class.spare + n + 1 ≡ class.spare + (n + 1) = omega arith in
    ap (λ (ps : List (Option (List ℕ))). record class { pieces = ps; spare = class.spare + n + 1 }) pieces
    ∙ ap (λ (k : ℕ). record class { pieces = class.pieces ++ replicate (n + 1) None; spare = k }) spare

pub grown_none : (n : ℕ) (class : SizeClass) → n ≡ 0 → grown n class ≡ class
grown_none zero class h =
    let spare : class.spare + 0 ≡ class.spare = omega arith in
    ap (λ (ps : List (Option (List ℕ))). record class { pieces = ps; spare = class.spare + 0 }) (append-nil class.pieces)
    ∙ ap (λ (k : ℕ). record class { pieces = class.pieces; spare = k }) spare
grown_none (suc n) class h = absurd (omega (arith, h))

-- one piece more after the others
module _ (size made head spare i : ℕ) (words marks : List ℕ) (old : SizeClass) (laid : IsLaidOut size words marks (made + i) head (spare + i))
    (enough : (made + i) * size + size ≤ length words) (class : class_of size words marks (spare + i) ≡ grown i old) where
  pub laid_one : IsLaidOut size (set words ((made + i) * size) head) (marks ++ 0 ∷ []) (made + (i + 1)) (made + i) (spare + (i + 1))
  laid_one =
      subst (λ (m : ℕ). IsLaidOut size (set words ((made + i) * size) head) (marks ++ 0 ∷ []) m (made + i) (spare + (i + 1))) {x = made + i + 1} (omega arith)
      (subst (λ (k : ℕ). IsLaidOut size (set words ((made + i) * size) head) (marks ++ 0 ∷ []) (made + i + 1) (made + i) k) {x = spare + i + 1} (omega arith)
      (laid_pushed size (made + i) head (spare + i) words marks laid enough))

  pub class_one : class_of size (set words ((made + i) * size) head) (marks ++ 0 ∷ []) (spare + (i + 1)) ≡ grown (i + 1) old
  class_one =
      let same : spare + (i + 1) ≡ spare + i + 1 = omega arith in
      ap (class_of size (set words ((made + i) * size) head) (marks ++ 0 ∷ [])) same
      ∙ view_pushed size (made + i) head (spare + i) words marks laid enough ∙ ap (grown 1) class ∙ grown_more i old
