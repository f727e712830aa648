-- What is marked again: the flags of the slots, and the ends of the cells.
use Rattle.std.proofs.Common.{◌≡◌, ◌≢◌, ◌<◌, ◌≤◌, ◌+◌, ℕ, suc, zero, inl, inr, true, false, Bool, cond, not, List, [], ◌∷◌, ◌++◌, refl, sym, ap, subst, ◌∙◌, arith}
use Rattle.std.proofs.Common.{length, drop, take, get_or, set, replicate}
use Rattle.std.proofs.lemmas.Bool.{cases_eq, eq-eqb}
use Rattle.std.proofs.lemmas.Bool.Decides.{eqb_tells}
use Rattle.std.proofs.lemmas.List.{length-set, length_push, length-append, length-drop, length-replicate, get_or-set_same, get_or-set_other}
use Rattle.std.proofs.lemmas.List.Sums.{sum_by-cons, sum_by-set}
use Rattle.ceal_base.specs.declared.word.Place.{Place}
use Rattle.ceal_base.specs.declared.word.Word.{Word}
use Rattle.ceal_order.proofs.Places.{in_tail}
use Rattle.ceal_order.specs.Stamps.{is_in, AllBelow}
use Rattle.ceal_mods.specs.Cell.{latest_value}
use Rattle.ceal_mods.specs.Index.{cell_in}
use Rattle.ceal_mods.specs.Marks.{SamePlaces, IsListed, end_in, ends_of, count_unlisted}
use Rattle.ceal_mods.specs.declared.cell.Cell.{Cell}

-- ---- a slot is listed

in-more : (s t : ℕ) (xs : List ℕ) → t ≢ s → is_in s (xs ++ t ∷ []) ≡ is_in s xs
in-more s t [] other = elim (eqb_tells t s) [ inl same ↦ absurd (other same.1) | inr differ ↦ rw differ.0 refl ]
in-more s t (x ∷ xs) other = elim (eqb_tells x s) [ inl same ↦ rw same.0 refl | inr differ ↦ rw differ.0 (in-more s t xs other) ]

in-last : (t : ℕ) (xs : List ℕ) → is_in t (xs ++ t ∷ []) ≡ true
in-last t [] = rw (eq-eqb t t refl) refl
in-last t (x ∷ xs) = in_tail t x (xs ++ t ∷ []) (in-last t xs)

count-set : (bs : List Bool) (n : ℕ) → n < length bs → get_or bs n false ≡ false → count_unlisted (set bs n true) + 1 ≡ count_unlisted bs
count-set bs n less off =
    let set-one = sum_by-set (λ (b : Bool). cond (not b) 1 0) bs n true false less in
    let h = rw off at set-one in
    omega (arith, h)

module _ (ends : List (Place × Word)) (listed : List Bool) (slots : List ℕ) (room at : ℕ) (kept : IsListed ends listed slots room) (within : at < length listed) (off : get_or listed at
    false ≡ false) where
  pub has-room : length slots < room
  has-room = (let one = count-set listed at within off in let all = kept.counted in let most = kept.room in omega (arith, one, all, most))

  pub listed-more : IsListed ends (set listed at true) (slots ++ at ∷ []) room
  listed-more =
      let long : length (set listed at true) ≡ length listed = length-set listed at true in
      let one = count-set listed at within off in
      let more = length_push slots at in
      let all = kept.counted in
      let most = kept.room in
      record {
        long = long ∙ kept.long;
        flags = λ s. elim (cases_eq at s) [
          | inl same ↦ subst (λ (n : ℕ). get_or (set listed at true) n false ≡ is_in n (slots ++ at ∷ [])) same (get_or-set_same listed at true false within ∙ sym (in-last at slots))
          | inr other ↦ get_or-set_other listed at s true false (λ e. other (sym e)) ∙ (kept.flags s ∙ sym (in-more s at slots other))
        ];
        counted = omega (arith, long, one, more, all);
        room = omega (arith, long, most);
      }

-- ---- no slot is listed any more

-- the flags after the loop has gone through these slots
abbrev pub unlisted : List ℕ → List Bool → List Bool
unlisted [] listed = listed
unlisted (s ∷ ss) listed = unlisted ss (set listed s false)

off-set : (bs : List Bool) (n : ℕ) → get_or (set bs n false) n false ≡ false
off-set [] n = refl
off-set (b ∷ bs) zero = refl
off-set (b ∷ bs) (suc n) = off-set bs n

all-off : (slots : List ℕ) (bs : List Bool) → ((s : ℕ) → is_in s slots ≡ false → get_or bs s false ≡ false) → (s : ℕ) → get_or (unlisted slots bs) s false ≡ false
all-off [] bs off = λ s. off s refl
all-off (t ∷ ss) bs off = all-off ss (set bs t false) (λ s none. elim (eqb_tells t s) [
  | inl same ↦ subst (λ (n : ℕ). get_or (set bs t false) n false ≡ false) same.1 (off-set bs t)
  | inr other ↦ get_or-set_other bs t s false false (λ e. other.1 (sym e)) ∙ off s (let no : is_in s (t ∷ ss) ≡ false = rw other.0 none in no)
])

length-unlisted : (slots : List ℕ) (bs : List Bool) → length (unlisted slots bs) ≡ length bs
length-unlisted [] bs = refl
length-unlisted (s ∷ ss) bs = length-unlisted ss (set bs s false) ∙ length-set bs s false

off-replicated : (k s : ℕ) → get_or (replicate k false) s false ≡ false
off-replicated zero s = refl
off-replicated (suc k) zero = refl
off-replicated (suc k) (suc s) = off-replicated k s

off-more : (bs : List Bool) (k s : ℕ) → ((n : ℕ) → get_or bs n false ≡ false) → get_or (bs ++ replicate k false) s false ≡ false
off-more [] k s off = off-replicated k s
off-more (b ∷ bs) k zero off = off 0
off-more (b ∷ bs) k (suc s) off = off-more bs k s (λ n. off (suc n))

all-false : (bs : List Bool) → ((n : ℕ) → get_or bs n false ≡ false) → bs ≡ replicate (length bs) false
all-false [] off = refl
all-false (b ∷ bs) off =
    let first : b ≡ false = off 0 in
    let rest = all-false bs (λ n. off (suc n)) in
    rw first (ap (λ (l : List Bool). false ∷ l) rest)

pub unlisted-is : (slots : List ℕ) (bs : List Bool) → ((s : ℕ) → get_or bs s false ≡ is_in s slots) → unlisted slots bs ≡ replicate (length bs) false
unlisted-is slots bs flags = all-false (unlisted slots bs) (all-off slots bs (λ s none. flags s ∙ none)) ∙ ap (λ (n : ℕ). replicate n false) (length-unlisted slots bs)

count-all : (bs : List Bool) → ((n : ℕ) → get_or bs n false ≡ false) → count_unlisted bs ≡ length bs
count-all [] off = refl
count-all (b ∷ bs) off =
    let more = sum_by-cons (λ (b : Bool). cond (not b) 1 0) b bs in
    let first : b ≡ false = off 0 in
    let rest = count-all bs (λ n. off (suc n)) in
    more ∙ rw first (omega (arith, rest))

none-listed : (after : List (Place × Word)) (n k room : ℕ) → length after ≡ n + k → n + k ≤ room → IsListed after (replicate n false ++ replicate k false) [] room
none-listed after n k room long enough =
    let flags = replicate n false ++ replicate k false in
    let off = λ (s : ℕ). off-more (replicate n false) k s (off-replicated n) in
    let whole = length-append (replicate n false) (replicate k false) in
    let first = length-replicate n false in
    let last = length-replicate k false in
    record {
      long = omega (arith, whole, first, last, long);
      flags = off;
      counted = (let all = count-all flags off in omega (arith, all));
      room = omega (arith, whole, first, last, enough);
    }

-- ---- what the cells hold

-- something else is held at a slot
abbrev pub with_end : ℕ → Word → List (Place × Word) → List (Place × Word)
with_end n w [] = []
with_end zero w (x ∷ xs) = (x.0, w) ∷ xs
with_end (suc n) w (x ∷ xs) = x ∷ with_end n w xs

-- the ends after the loop has gone through these slots
abbrev pub renewed : List (Place × Cell) → List ℕ → List (Place × Word) → List (Place × Word)
renewed cells [] ends = ends
renewed cells (s ∷ ss) ends = renewed cells ss (with_end s (latest_value (cell_in cells s)) ends)

length-with-end : (n : ℕ) (w : Word) (xs : List (Place × Word)) → length (with_end n w xs) ≡ length xs
length-with-end n w [] = refl
length-with-end zero w (x ∷ xs) = refl
length-with-end (suc n) w (x ∷ xs) = ap suc (length-with-end n w xs)

places-with-end : (n : ℕ) (w : Word) (xs : List (Place × Word)) (es : List (Place × Cell)) → SamePlaces xs es → SamePlaces (with_end n w xs) es
places-with-end n w [] es same = tt
places-with-end n w (x ∷ xs) [] same = absurd same
places-with-end zero w (x ∷ xs) (e ∷ es) same = same
places-with-end (suc n) w (x ∷ xs) (e ∷ es) same = (same.0, places-with-end n w xs es same.1)

end-with : (n : ℕ) (w : Word) (xs : List (Place × Word)) → n < length xs → end_in (with_end n w xs) n ≡ w
end-with n w [] less = absurd (omega arith)
end-with zero w (x ∷ xs) less = refl
end-with (suc n) w (x ∷ xs) less = end-with n w xs (omega arith)

end-other : (n s : ℕ) (w : Word) (xs : List (Place × Word)) → n ≢ s → end_in (with_end n w xs) s ≡ end_in xs s
end-other n s w [] other = refl
end-other zero zero w (x ∷ xs) other = absurd (other refl)
end-other zero (suc s) w (x ∷ xs) other = refl
end-other (suc n) zero w (x ∷ xs) other = refl
end-other (suc n) (suc s) w (x ∷ xs) other = end-other n s w xs (λ e. other (ap suc e))

same-ends : (xs : List (Place × Word)) (es : List (Place × Cell)) → SamePlaces xs es → ((s : ℕ) → s < length xs → end_in xs s ≡ latest_value (cell_in es s))
    → xs ≡ ends_of (take (length xs) es)
same-ends [] es places same = refl
same-ends (x ∷ xs) [] places same = absurd places
same-ends (x ∷ xs) (e ∷ es) places same =
    let rest = same-ends xs es places.1 (λ s less. same (suc s) (omega (arith, less))) in
    let first : (x.0, x.1) ≡ (e.0, latest_value e.1) = rw (places.0, same 0 (omega arith)) refl in
    ap (λ (y : Place × Word). y ∷ xs) first ∙ ap (λ (l : List (Place × Word)). (e.0, latest_value e.1) ∷ l) rest

pub renewed-is : (slots : List ℕ) (xs : List (Place × Word)) (es : List (Place × Cell)) → SamePlaces xs es
    → ((s : ℕ) → s < length xs → is_in s slots ≡ false → end_in xs s ≡ latest_value (cell_in es s)) → renewed es slots xs ≡ ends_of (take (length xs) es)
renewed-is [] xs es places same = same-ends xs es places (λ s less. same s less refl)
renewed-is (t ∷ ss) xs es places same =
    let now = latest_value (cell_in es t) in
    let long = length-with-end t now xs in
    let rest = renewed-is ss (with_end t now xs) es (places-with-end t now xs es places) (λ s less none. elim (eqb_tells t s) [
      | inl e ↦ subst (λ (n : ℕ). end_in (with_end t now xs) n ≡ latest_value (cell_in es n)) e.1 (end-with t now xs (let l = e.1 in omega (arith, l, less, long)))
      | inr e ↦ end-other t s now xs e.1 ∙ same s (omega (arith, less, long)) (let no : is_in s (t ∷ ss) ≡ false = rw e.0 none in no)
    ]) in
    rest ∙ ap (λ (n : ℕ). ends_of (take n es)) long

-- ---- a step of each loop

pub with-end-set : (xs : List (Place × Word)) (n : ℕ) (d : Place × Word) (w : Word) → n < length xs → set xs n ((get_or xs n d).0, w) ≡ with_end n w xs
with-end-set [] n d w less = absurd (omega arith)
with-end-set (x ∷ xs) zero d w less = refl
with-end-set (x ∷ xs) (suc n) d w less = ap (λ (l : List (Place × Word)). x ∷ l) (with-end-set xs n d w (omega arith))

-- one of many that are below a bound
pub below-at : (n : ℕ) (xs : List ℕ) (i d : ℕ) → AllBelow n xs → i < length xs → get_or xs i d < n
below-at n [] i d below less = absurd (omega arith)
below-at n (x ∷ xs) zero d below less = below.0
below-at n (x ∷ xs) (suc i) d below less = below-at n xs i d below.1 (omega arith)

length-ends : (es : List (Place × Cell)) → length (ends_of es) ≡ length es
length-ends [] = refl
length-ends (e ∷ es) = ap suc (length-ends es)

-- the ends of the first cells, and of the others
pub ends-split : (n : ℕ) (es : List (Place × Cell)) → ends_of (take n es) ++ ends_of (drop n es) ≡ ends_of es
ends-split zero es = refl
ends-split (suc n) [] = refl
ends-split (suc n) (e ∷ es) = ap (λ (l : List (Place × Word)). (e.0, latest_value e.1) ∷ l) (ends-split n es)

pub length-first-ends : (n : ℕ) (es : List (Place × Cell)) → n ≤ length es → length (ends_of (take n es)) ≡ n
length-first-ends zero es le = refl
length-first-ends (suc n) [] le = absurd (omega arith)
length-first-ends (suc n) (e ∷ es) le = ap suc (length-first-ends n es (omega arith))

-- all cells are marked again
pub none-listed-of-all : (cells : List (Place × Cell)) (n room : ℕ) → n ≤ length cells → length cells ≤ room
    → IsListed (ends_of (take n cells) ++ ends_of (drop n cells)) (replicate n false ++ replicate (length (drop n cells)) false) [] room
none-listed-of-all cells n room few enough =
    let first = length-first-ends n cells few in
    let last = length-ends (drop n cells) in
    let all = length-append (ends_of (take n cells)) (ends_of (drop n cells)) in
    let left = length-drop n cells in
    none-listed (ends_of (take n cells) ++ ends_of (drop n cells)) n (length (drop n cells)) room (omega (arith, first, last, all)) (omega (arith, left, few, enough))
