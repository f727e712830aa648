-- Marks of items, and the tables of their places.
use Rattle.std.proofs.Common.{◌≡◌, ℕ, zero, suc, ◌+◌, ◌<◌, ◌≤◌, ◌⊎◌, inl, inr, ◌++◌, ◌∷◌, [], Bool, true, false, cond}
use Rattle.std.proofs.Common.{if◌then◌else◌, Option, Some, None, List, length, get_or, unwrap_or, slice_get, refl, sym}
use Rattle.std.proofs.Common.{ap, subst, ◌∙◌, Result, Ok, Err, MatchOption, arith}
use Rattle.std.proofs.lemmas.Bool.{cases_lt}
use Rattle.std.proofs.lemmas.List.{length-append, get_or_append_left, get_or_push}
use Rattle.std.proofs.lemmas.List.Sorted.{searched}
use Rattle.std.proofs.lemmas.Option.{slice_get_within, slice_get_cases, get_or_from_slice_get}
use Rattle.std.specs.List.Sorted.{IsBinarySearchResult}
use Rattle.std.specs.Ordering.{nat_cmp}
use Rattle.std.specs.Bool.{Decides}
use Rattle.std.specs.HashMap.{get}
use Rattle.ceal_base.proofs.Equality.{words-Decides}
use Rattle.ceal_base.specs.declared.forest.Item.{Item}
use Rattle.ceal_theory.specs.Levels.{after_item}
use Rattle.ceal_adjust.specs.Marks.{same_mark, has, mark_of, mark_in, depth_after, depth, marked, places, depths}
use Rattle.ceal_adjust.specs.Places.{listed}
use Rattle.ceal_adjust.specs.Spots.{Free, Next}
use Rattle.ceal_adjust.specs.contracts.mark.MarkPartialEq.TheImpl.{ghosts}
use Rattle.ceal_adjust.specs.declared.mark.Mark.{Mark}
use Rattle.ceal_adjust.specs.declared.places.Places.{Places}

mark-Decides : (x m : Mark) → Decides (ghosts.eq x m) (x ≡ m)
mark-Decides x m = grind (arith, words-Decides)

pub mark-same : (x m : Mark) → same_mark x m ≡ true → x ≡ m
unfolding same_mark
mark-same x m e = (mark-Decides x m).0 e

pub mark-refl : (m : Mark) → same_mark m m ≡ true
unfolding same_mark
mark-refl m = (mark-Decides m m).1 refl

-- a place is added to those of its mark
pub places-add : (old taken next : Places) (m : Mark) (ps qs : List ℕ) (at : ℕ) → ps ≡ listed old m → qs ≡ ps ++ at ∷ []
    → ((q : Mark) → same_mark m q ≡ false → listed taken q ≡ listed old q)
    → ((q : Mark) → get ghosts.eq next.table q ≡ cond (ghosts.eq m q) (Some qs) (get ghosts.eq taken.table q))
    → (q : Mark) → listed next q ≡ (if same_mark m q then listed old q ++ at ∷ [] else listed old q)
unfolding listed same_mark
places-add old taken next m ps qs at e k others update q =
    ap (λ o. unwrap_or o []) (update q) ∙ go (same_mark m q) refl
  where
    go : (b : Bool) → same_mark m q ≡ b → unwrap_or (cond b (Some qs) (get ghosts.eq taken.table q)) [] ≡ (if b then listed old q ++ at ∷ [] else listed old q)
    go true h = k ∙ ap (λ l. l ++ at ∷ []) (e ∙ ap (λ x. listed old x) (mark-same m q h))
    go false h = others q h

more-is : (k : ℕ) → k + 1 ≡ suc k
more-is k = omega arith

-- the tables of one item more
pub depth-next : (is : List Item) (k d d' : ℕ) (i : Item) → slice_get is k ≡ Some i → d ≡ depth is k → d' ≡ after_item i d → d' ≡ depth is (k + 1)
unfolding depth
depth-next is k d d' i e h l = rw (more-is k) (l ∙ (ap (λ n. after_item i n) h ∙ ap (λ o. depth_after o (depth is k)) (sym e)))

pub depths-next : (is : List Item) (k d : ℕ) (all more : List ℕ) → all ≡ depths is k → d ≡ depth is k → more ≡ all ++ d ∷ [] → more ≡ depths is (k + 1)
unfolding depths
depths-next is k d all more e h l = rw (more-is k) (l ∙ (ap (λ xs. xs ++ d ∷ []) e ∙ ap (λ n. depths is k ++ n ∷ []) h))

pub places-next : (is : List Item) (k d : ℕ) (i : Item) → slice_get is k ≡ Some i → d ≡ depth is k → (m : Mark) (at : ℕ) (old : List ℕ) → at ≡ k → old ≡ places is m k
    → (if has (mark_of i d) m then old ++ at ∷ [] else old) ≡ places is m (k + 1)
unfolding places
places-next is k d i e h m at old a l =
    rw (more-is k, a) (ap (λ n. if has (mark_of i n) m then old ++ k ∷ [] else old) h
    ∙ (ap (λ xs. if has (mark_of i (depth is k)) m then xs ++ k ∷ [] else xs) l
    ∙ ap (λ o. if has (mark_in o (depth is k)) m then places is m k ++ k ∷ [] else places is m k) (sym e)))

pub depth-zero : (is : List Item) (n : ℕ) → n ≡ length is → n ≡ depth is 0
unfolding depth
depth-zero is n e = e

pub depths-zero : (is : List Item) (ds : List ℕ) → ds ≡ [] → ds ≡ depths is 0
unfolding depths
depths-zero is ds e = e

pub places-zero : (is : List Item) (m : Mark) (ps : List ℕ) → ps ≡ [] → ps ≡ places is m 0
unfolding places
places-zero is m ps e = e

depths-length : (is : List Item) (n : ℕ) → length (depths is n) ≡ n
unfolding depths
depths-length is zero = refl
depths-length is (suc n) = length-append (depths is n) (depth is n ∷ []) ∙ omega (arith, depths-length is n)

-- an item of a list that is pushed
pushed : (xs : List ℕ) (y i d : ℕ) → i < length xs + 1
    → ((i < length xs) × (get_or (xs ++ y ∷ []) i d ≡ get_or xs i d)) ⊎ ((i ≡ length xs) × (get_or (xs ++ y ∷ []) i d ≡ y))
pushed [] y zero d h = inr (refl, refl)
pushed [] y (suc i) d h = absurd (omega (arith, h))
pushed (x ∷ xs) y zero d h = inl (omega arith, refl)
pushed (x ∷ xs) y (suc i) d h = elim (pushed xs y i d (omega (arith, h))) [ inl k ↦ inl (omega (arith, k.0), k.1) | inr k ↦ inr (omega (arith, k.0), k.1) ]

depths-get : (is : List Item) (n k d : ℕ) → k < n → get_or (depths is n) k d ≡ depth is k
unfolding depths
depths-get is zero k d h = absurd (omega (arith, h))
depths-get is (suc n) k d h =
    elim (pushed (depths is n) (depth is n) k d (omega (arith, h, depths-length is n))) [
      | inl a ↦ a.1 ∙ depths-get is n k d (omega (arith, a.0, depths-length is n))
      | inr a ↦ a.1 ∙ ap (λ j. depth is j) (omega (arith, a.0, depths-length is n))
    ]

module _ (is items : List Item) (ds : List ℕ) (same : items ≡ is) (made : ds ≡ depths items (length items)) (at : ℕ) (h : at < length is) where
  pub nested-within : (n : ℕ) → n ≡ length ds → at < n
  nested-within n e = omega (arith, e, h, ap length made, depths-length items (length items), ap length same)

  pub nested-at : (x : ℕ) → x ≡ get_or ds at x → x ≡ depth is at
  nested-at x e =
      e ∙ (ap (λ l. get_or l at x) made ∙ (depths-get items (length items) at x (omega (arith, h, ap length same)) ∙ ap (λ l. depth l at) same))

-- the places with a mark, in their order
pub record Lists (is : List Item) (m : Mark) (n : ℕ) (ps : List ℕ) : Type 0 where
  pub below : (i : ℕ) → i < length ps → get_or ps i 0 < n
  pub each : (i : ℕ) → i < length ps → marked is m (get_or ps i 0) ≡ true
  pub rising : (i j : ℕ) → i < j → j < length ps → get_or ps i 0 < get_or ps j 0
  pub every : (k : ℕ) → k < n → marked is m k ≡ true → (i : ℕ) × (i < length ps) × (get_or ps i 0 ≡ k)

lists-push : (is : List Item) (m : Mark) (n : ℕ) (ps : List ℕ) → Lists is m n ps → marked is m n ≡ true → Lists is m (suc n) (ps ++ n ∷ [])
lists-push is m n ps l e = record {
  below = λ i h. elim (pushed ps n i 0 (counted i h)) [ inl a ↦ omega (arith, a.1, l.below i a.0) | inr a ↦ omega (arith, a.1) ];
  each = λ i h. elim (pushed ps n i 0 (counted i h)) [ inl a ↦ ap (λ k. marked is m k) a.1 ∙ l.each i a.0 | inr a ↦ ap (λ k. marked is m k) a.1 ∙ e ];
  rising = λ i j h k. elim (pushed ps n j 0 (counted j k)) [
    | inl b ↦ elim (pushed ps n i 0 (omega (arith, h, b.0))) [ inl a ↦ omega (arith, a.1, b.1, l.rising i j h b.0) | inr a ↦ absurd (omega (arith, a.0, b.0, h)) ]
    | inr b ↦ elim (pushed ps n i 0 (omega (arith, h, b.0))) [ inl a ↦ omega (arith, a.1, b.1, l.below i a.0) | inr a ↦ absurd (omega (arith, a.0, b.0, h)) ]
  ];
  every = λ k h t. elim (cases_lt k n) [ inl a ↦ old k a t | inr a ↦ new k h a ];
}
  where
    counted : (i : ℕ) → i < length (ps ++ n ∷ []) → i < length ps + 1
    counted i h = omega (arith, h, length-append ps (n ∷ []))

    old : (k : ℕ) → k < n → marked is m k ≡ true → (i : ℕ) × (i < length (ps ++ n ∷ [])) × (get_or (ps ++ n ∷ []) i 0 ≡ k)
    old k a t =
        let f = l.every k a t in
        (f.0, omega (arith, f.1, length-append ps (n ∷ [])), get_or_append_left ps (n ∷ []) 0 f.0 f.1 ∙ f.2)

    new : (k : ℕ) → k < suc n → n ≤ k → (i : ℕ) × (i < length (ps ++ n ∷ [])) × (get_or (ps ++ n ∷ []) i 0 ≡ k)
    new k h a = (length ps, omega (arith, length-append ps (n ∷ [])), get_or_push ps n 0 (length ps) refl ∙ omega (arith, h, a))

lists-same : (is : List Item) (m : Mark) (n : ℕ) (ps : List ℕ) → Lists is m n ps → marked is m n ≡ false → Lists is m (suc n) ps
lists-same is m n ps l e = record {
  below = λ i h. omega (arith, l.below i h);
  each = l.each;
  rising = l.rising;
  every = λ k h t. elim (cases_lt k n) [ inl a ↦ l.every k a t | inr a ↦ absurd (grind (arith, other k (omega (arith, h, a)) t, e)) ];
}
  where
    other : (k : ℕ) → k ≡ n → marked is m k ≡ true → marked is m n ≡ true
    other k a t = subst (λ j. marked is m j ≡ true) a t

lists-more : (is : List Item) (m : Mark) (n : ℕ) (ps : List ℕ) → Lists is m n ps → (b : Bool) → marked is m n ≡ b → Lists is m (suc n) (if b then ps ++ n ∷ [] else ps)
lists-more is m n ps l true e = lists-push is m n ps l e
lists-more is m n ps l false e = lists-same is m n ps l e

lists : (is : List Item) (m : Mark) (n : ℕ) → Lists is m n (places is m n)
unfolding places
lists is m zero = record {
  below = λ i h. absurd (omega (arith, h));
  each = λ i h. absurd (omega (arith, h));
  rising = λ i j h k. absurd (omega (arith, k));
  every = λ k h t. absurd (omega (arith, h));
}
lists is m (suc n) = lists-more is m n (places is m n) (lists is m n) (marked is m n) refl

pub lists-in : (is items : List Item) (m : Mark) (ps qs : List ℕ) → items ≡ is → ps ≡ qs → qs ≡ places items m (length items) → Lists is m (length is) ps
lists-in is items m ps qs e h k = subst (λ l. Lists l m (length l) ps) e (subst (λ l. Lists items m (length items) l) (sym (h ∙ k)) (lists items m (length items)))

rising-le : (ps : List ℕ) → ((i j : ℕ) → i < j → j < length ps → get_or ps i 0 < get_or ps j 0) → (i j : ℕ) → i ≤ j → j < length ps → get_or ps i 0 ≤ get_or ps j 0
rising-le ps r i j h k = elim (cases_lt i j) [ inl a ↦ omega (arith, r i j a k) | inr a ↦ rw (same i j h a) (omega arith) ]
  where
    same : (i j : ℕ) → i ≤ j → j ≤ i → i ≡ j
    same i j h a = omega (arith, h, a)

-- the search among them
module _ (is : List Item) (m : Mark) (from : ℕ) (ps : List ℕ) (l : Lists is m (length is) ps) where
  searched-here : (i : ℕ) → (i < length ps) × (get_or ps i 0 ≡ from) → Next is m from from
  searched-here i h = record {
    later = omega arith;
    there = omega (arith, l.below i h.0, h.1);
    marked = ap (λ k. marked is m k) (sym h.1) ∙ l.each i h.0;
    first = λ k a b. absurd (omega (arith, a, b));
  }

  none-before : (i k : ℕ) → ((j : ℕ) → j < i → get_or ps j 0 < from) → from ≤ k → k < length is → ((j : ℕ) → i ≤ j → j < length ps → k < get_or ps j 0) → (b : Bool) → marked is m k ≡ b → b ≡ false
  none-before i k low a h high false e = refl
  none-before i k low a h high true e =
      let f = l.every k h e in
      absurd (elim (cases_lt f.0 i) [ inl x ↦ omega (arith, low f.0 x, f.2, a) | inr x ↦ omega (arith, high f.0 x f.1, f.2) ])

  searched-later : (i : ℕ) → i < length ps → ((k : ℕ) → k < i → get_or ps k 0 < from) → from < get_or ps i 0 → Next is m from (get_or ps i 0)
  searched-later i h low high = record {
    later = omega (arith, high);
    there = l.below i h;
    marked = l.each i h;
    first = λ k a b. none-before i k low a (omega (arith, b, l.below i h)) (λ j x y. omega (arith, b, rising-le ps l.rising i j x y)) (marked is m k) refl;
  }

  searched-none : (i : ℕ) → length ps ≤ i → ((k : ℕ) → k < i → get_or ps k 0 < from) → Free is m from (length is)
  searched-none i h low k a b = none-before i k low a b (λ j x y. absurd (omega (arith, h, x, y))) (marked is m k) refl

  pub searched-ok : (i : ℕ) (r : Result ℕ ℕ) → IsBinarySearchResult (λ y. nat_cmp y from) ps r → r ≡ Ok i → Next is m from from
  searched-ok i r h e = searched-here i (rw e at (searched ps from r h (rising-le ps l.rising)))

  pub searched-err : (i : ℕ) (r : Result ℕ ℕ) → IsBinarySearchResult (λ y. nat_cmp y from) ps r → r ≡ Err i
      → (o : Option ℕ) → o ≡ slice_get ps i → MatchOption o (Free is m from (length is)) (λ at. Next is m from at)
  searched-err i r h e o k = go o k (rw e at (searched ps from r h (rising-le ps l.rising)))
    where
      outside : (xs : List ℕ) (i : ℕ) → slice_get xs i ≡ None → length xs ≤ i
      outside xs i e = grind (arith, slice_get_cases xs i, e)

      go : (o : Option ℕ) → o ≡ slice_get ps i → (i ≤ length ps) × ((k : ℕ) → k < i → get_or ps k 0 < from) × ((k : ℕ) → i ≤ k → k < length ps → from < get_or ps k 0)
          → MatchOption o (Free is m from (length is)) (λ at. Next is m from at)
      go None k f = searched-none i (outside ps i (sym k)) f.1
      go (Some at) k f =
          let h = slice_get_within ps i at (sym k) in
          subst (λ x. Next is m from x) (get_or_from_slice_get ps i at 0 (sym k)) (searched-later i h f.1 (f.2 i (omega arith) h))
