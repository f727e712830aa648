-- Cells of which the first ones are written.
use Rattle.std.proofs.Common.{◌≡◌, ℕ, zero, suc, ◌+◌, ◌-◌, ◌*◌, ◌^◌, ◌<◌, ◌≤◌, List, [], ◌∷◌, ◌++◌, length, map, take, drop, get_or, set, replicate, Option, Some, None, refl, sym, ap, ◌∙◌, arith}
use Rattle.std.proofs.Math.Seq.{take-append_seam}
use Rattle.std.proofs.lemmas.List.{length-set, length-map, length-append, length-replicate, map-append}
use Rattle.ceal_words.specs.Written.{held, IsWritten}

held_none : (n : ℕ) → held (replicate n None) ≡ []
held_none zero = refl
held_none (suc n) = refl

pub held_front : (xs : List ℕ) (n : ℕ) → held (map Some xs ++ replicate n None) ≡ xs
held_front [] n = held_none n
held_front (x ∷ xs) n = ap (λ (ys : List ℕ). x ∷ ys) (held_front xs n)

get_front : (xs : List ℕ) (more : List (Option ℕ)) (i : ℕ) → i < length xs → get_or (map Some xs ++ more) i None ≡ Some (get_or xs i 0)
get_front [] more i inside = absurd (omega (arith, inside))
get_front (x ∷ xs) more zero inside = refl
get_front (x ∷ xs) more (suc i) inside = get_front xs more i (omega (arith, inside))

set_front : (xs : List ℕ) (more : List (Option ℕ)) (i x : ℕ) → i < length xs → set (map Some xs ++ more) i (Some x) ≡ map Some (set xs i x) ++ more
set_front [] more i x inside = absurd (omega (arith, inside))
set_front (y ∷ xs) more zero x inside = refl
set_front (y ∷ xs) more (suc i) x inside = ap (λ (cs : List (Option ℕ)). Some y ∷ cs) (set_front xs more i x (omega (arith, inside)))

-- cells that are words and then room are written so far
pub written_front : (cells : List (Option ℕ)) (xs : List ℕ) (count room : ℕ) → cells ≡ map Some xs ++ replicate (room - count) None
    → length xs ≡ count → count ≤ room → room * 8 < 2 ^ 63 → IsWritten cells count room
written_front cells xs count room e counted within small =
    let same : held cells ≡ xs = ap held e ∙ held_front xs (room - count) in record {
      all = e ∙ ap (λ (ys : List ℕ). map Some ys ++ replicate (room - count) None) (sym same);
      counted = ap length same ∙ counted;
      within = within;
      fits = small;
    }

module _ (cells : List (Option ℕ)) (count room : ℕ) (written : IsWritten cells count room) where
  pub get_held : (i : ℕ) → i < length (held cells) → get_or cells i None ≡ Some (get_or (held cells) i 0)
  get_held i inside = ap (λ (cs : List (Option ℕ)). get_or cs i None) written.all ∙ get_front (held cells) (replicate (room - count) None) i inside

  pub count_held : count ≡ length (held cells)
  count_held = sym written.counted

  set_cells : (i x : ℕ) → i < length (held cells) → set cells i (Some x) ≡ map Some (set (held cells) i x) ++ replicate (room - count) None
  set_cells i x inside = ap (λ (cs : List (Option ℕ)). set cs i (Some x)) written.all ∙ set_front (held cells) (replicate (room - count) None) i x inside

  pub held_set : (i x : ℕ) → i < length (held cells) → held (set cells i (Some x)) ≡ set (held cells) i x
  held_set i x inside = ap held (set_cells i x inside) ∙ held_front (set (held cells) i x) (room - count)

  pub written_set : (i x : ℕ) → i < length (held cells) → IsWritten (set cells i (Some x)) count room
  written_set i x inside =
      written_front (set cells i (Some x)) (set (held cells) i x) count room (set_cells i x inside)
      (length-set (held cells) i x ∙ written.counted) written.within written.fits

-- one word more is copied
pub copied_next : (xs : List ℕ) (cells : List (Option ℕ)) (i : ℕ) → i < length xs → i < length cells
    → set (map Some (take i xs) ++ drop i cells) i (Some (get_or xs i 0)) ≡ map Some (take (suc i) xs) ++ drop (suc i) cells
copied_next [] cells i h k = absurd (omega (arith, h))
copied_next (x ∷ xs) [] i h k = absurd (omega (arith, k))
copied_next (x ∷ xs) (c ∷ cells) zero h k = refl
copied_next (x ∷ xs) (c ∷ cells) (suc i) h k = ap (λ (cs : List (Option ℕ)). Some x ∷ cs) (copied_next xs cells i (omega (arith, h)) (omega (arith, k)))

cleared_first : (cells : List (Option ℕ)) (i : ℕ) → i < length cells
    → set (replicate i (Some 0) ++ drop i cells) i (Some 0) ≡ replicate (suc i) (Some 0) ++ drop (suc i) cells
cleared_first [] i h = absurd (omega (arith, h))
cleared_first (c ∷ cells) zero h = refl
cleared_first (c ∷ cells) (suc i) h = ap (λ (cs : List (Option ℕ)). Some 0 ∷ cs) (cleared_first cells i (omega (arith, h)))

-- one cell more is cleared, after cells that stay
pub cleared_next : (cells : List (Option ℕ)) (from n i : ℕ) → i ≡ from + n → i < length cells
    → set (take from cells ++ replicate n (Some 0) ++ drop i cells) i (Some 0) ≡ take from cells ++ replicate (suc n) (Some 0) ++ drop (suc i) cells
cleared_next [] from n i e h = absurd (omega (arith, h))
cleared_next (c ∷ cells) zero n i e h =
    let same : n ≡ i = omega (arith, e) in
    rw same (cleared_first (c ∷ cells) i h)
cleared_next (c ∷ cells) (suc from) n zero e h = absurd (omega (arith, e))
cleared_next (c ∷ cells) (suc from) n (suc i) e h = ap (λ (cs : List (Option ℕ)). c ∷ cs) (cleared_next cells from n i (omega (arith, e)) (omega (arith, h)))

map_replicate : (n : ℕ) → map Some (replicate {A = ℕ} n 0) ≡ replicate n (Some 0)
map_replicate zero = refl
map_replicate (suc n) = ap (λ (cs : List (Option ℕ)). Some 0 ∷ cs) (map_replicate n)

pub rooms : (n m : ℕ) → n ≡ m → replicate {A = Option ℕ} n None ≡ replicate m None
rooms n m e = ap (λ (j : ℕ). replicate {A = Option ℕ} j None) e

pub drop_room : (n m : ℕ) → drop n (replicate {A = Option ℕ} m None) ≡ replicate (m - n) None
drop_room zero m = rooms m (m - 0) (omega arith)
drop_room (suc n) zero = rooms 0 (0 - suc n) (omega arith)
drop_room (suc n) (suc m) = drop_room n m ∙ rooms (m - n) (suc m - suc n) (omega arith)

drop_past : (xs : List ℕ) (more : List (Option ℕ)) (n k : ℕ) → n ≡ length xs + k → drop n (map Some xs ++ more) ≡ drop k more
drop_past [] more n k e = ap (λ j. drop j more) (omega (arith, e))
drop_past (x ∷ xs) more zero k e = absurd (omega (arith, e))
drop_past (x ∷ xs) more (suc n) k e = drop_past xs more n k (omega (arith, e))

-- words, and zeros in the room after them
pub longer_cells : (xs : List ℕ) (count len room : ℕ) → count ≡ length xs → count ≤ len → len ≤ room
    → take count (map Some xs ++ replicate (room - count) None) ++ replicate (len - count) (Some 0) ++ drop len (map Some xs ++ replicate (room - count) None)
    ≡ map Some (xs ++ replicate (len - count) 0) ++ replicate (room - len) None
longer_cells xs count len room e longer within =
    let behind : List (Option ℕ) = replicate (room - count) None in
    let words : List (Option ℕ) = map Some xs in
    let zeros : List (Option ℕ) = replicate (len - count) (Some 0) in
    let rest : List (Option ℕ) = replicate (room - len) None in
    let n : count ≡ length words = e ∙ sym (length-map xs Some) in
    let front : take count (words ++ behind) ≡ words =
    ap (λ (j : ℕ). take j (words ++ behind)) n ∙ take-append_seam words behind in
    let back : drop len (words ++ behind) ≡ rest =
    drop_past xs behind len (len - count) (omega (arith, e, longer))
    ∙ (drop_room (len - count) (room - count) ∙ rooms (room - count - (len - count)) (room - len) (omega (arith, longer, within))) in
    ap (λ (cs : List (Option ℕ)). (cs ++ zeros) ++ drop len (words ++ behind)) front
    ∙ (ap (λ (cs : List (Option ℕ)). (words ++ zeros) ++ cs) back
    ∙ (ap (λ (cs : List (Option ℕ)). (words ++ cs) ++ rest) (sym (map_replicate (len - count)))
    ∙ ap (λ (cs : List (Option ℕ)). cs ++ rest) (sym (map-append Some xs (replicate {A = ℕ} (len - count) 0)))))

pub long_zeros : (xs : List ℕ) (count len : ℕ) → count ≡ length xs → count ≤ len → length (xs ++ replicate (len - count) 0) ≡ len
long_zeros xs count len e longer = length-append xs (replicate {A = ℕ} (len - count) 0) ∙ omega (arith, e, longer, length-replicate {A = ℕ} (len - count) 0)
