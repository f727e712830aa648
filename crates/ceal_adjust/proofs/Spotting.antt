-- To find by marks and depths is to find in a part of flat items.
use Rattle.std.proofs.Common.{◌≡◌, ℕ, zero, suc, pred, ◌+◌, ◌-◌, ◌<◌, ◌≤◌, inl, inr, ◌∷◌, [], Bool, true, false}
use Rattle.std.proofs.Common.{if◌then◌else◌, Option, Some, None, List, length, drop, drop-cons, slice_get, ◌==◌, ◌&&◌}
use Rattle.std.proofs.Common.{MatchOption, refl, sym, ap, ◌∙◌, arith}
use Rattle.std.proofs.Math.ListN.{drop_of_length-le}
use Rattle.std.proofs.lemmas.Bool.{cases_lt}
use Rattle.std.proofs.lemmas.List.{length-drop}
use Rattle.std.proofs.lemmas.Option.{slice_get_cases}
use Rattle.std.specs.Option.{is_some}
use Rattle.ceal_base.specs.Operators.{same_place}
use Rattle.ceal_base.specs.declared.forest.Item.{Item}
use Rattle.ceal_base.specs.declared.forest.Item.TheVariants.{Step, Alloc, Write, Read, End}
use Rattle.ceal_base.specs.declared.forest.Key.{Key}
use Rattle.ceal_base.specs.declared.forest.UnitId.{UnitId}
use Rattle.ceal_base.specs.declared.word.BlockId.{BlockId}
use Rattle.ceal_base.specs.declared.word.Place.{Place}
use Rattle.ceal_base.specs.declared.word.Word.{Word}
use Rattle.ceal_code.proofs.Words.SameIsEqual.{both, both-true, nat-same, nat-refl, place-same, place-refl, some-same, none-some}
use Rattle.ceal_theory.proofs.Reuse.FlatTake.{skipped-next, found-zero, found-empty, found-here, found-next, read-zero, read-empty, read-here, read-next}
use Rattle.ceal_adjust.proofs.Keys.{key-refl, words-refl}
use Rattle.ceal_adjust.proofs.MarkSteps.{mark-same, mark-refl}
use Rattle.ceal_theory.proofs.Reuse.TakenItems.{words-same, key-same, unit-same}
use Rattle.ceal_theory.specs.Levels.{after_item, skipped, block_of_key, find_alloc, same_read, value_of_read, find_read}
use Rattle.ceal_adjust.specs.Marks.{same_mark, has, mark_of, mark_in, depth_after, depth, marked}
use Rattle.ceal_adjust.specs.Spots.{Free, Next, Open, Ends, Absent, Found}
use Rattle.ceal_theory.specs.Take.{same_key, same_words}
use Rattle.ceal_adjust.specs.declared.mark.Mark.{Mark}
use Rattle.ceal_adjust.specs.declared.mark.Mark.TheVariants.{Made, Taken, Closed}

-- an item closes one level at most
after-least : (i : Item) (d : ℕ) → d ≤ after_item i d + 1
after-least Step d = omega arith
after-least (Alloc b k) d = omega arith
after-least (Write p v) d = omega arith
after-least (Read p v u x args) d = omega arith
after-least End zero = omega arith
after-least End (suc d) = omega arith

-- the levels after an item, counted from another place
balance-next : (i : Item) (l m from d more next : ℕ) → 0 < l → 0 < d → l + from ≡ m + d → more ≡ after_item i d → next + from ≡ m + more → next ≡ after_item i l
balance-next Step l m from d more next h k b e c = omega (arith, b, e, c)
balance-next (Alloc x y) l m from d more next h k b e c = omega (arith, b, e, c)
balance-next (Write p v) l m from d more next h k b e c = omega (arith, b, e, c)
balance-next (Read p v u x args) l m from d more next h k b e c = omega (arith, b, e, c)
balance-next End zero m from d more next h k b e c = absurd (omega (arith, h))
balance-next End (suc l) m from zero more next h k b e c = absurd (omega (arith, k))
balance-next End (suc l) m from (suc d) more next h k b e c = omega (arith, b, e, c)

module _ (is : List Item) where
  item-at : (k : ℕ) → k < length is → (i : Item) × (slice_get is k ≡ Some i) × (drop k is ≡ i ∷ drop (suc k) is)
  item-at k h = elim ((slice_get_cases is k).1) [
    | inl a ↦ (a.0, a.2, drop-cons is k a.0 h ∙ ap (λ x. x ∷ drop (suc k) is) a.3)
    | inr a ↦ absurd (omega (arith, h, a.0))
  ]

  depth-suc : (k : ℕ) (i : Item) → slice_get is k ≡ Some i → depth is (suc k) ≡ after_item i (depth is k)
  unfolding depth
  depth-suc k i e = ap (λ o. depth_after o (depth is k)) e

  depth-least : (k : ℕ) → depth is k ≤ depth is (suc k) + 1
  unfolding depth
  depth-least k = go (slice_get is k)
    where
      go : (o : Option Item) → depth is k ≤ depth_after o (depth is k) + 1
      go None = omega arith
      go (Some i) = after-least i (depth is k)

  depth-positive : (k : ℕ) → length is ≤ depth is k + k
  unfolding depth
  depth-positive zero = omega arith
  depth-positive (suc k) = omega (arith, depth-positive k, depth-least k)

  module _ (from levels : ℕ) where
    shorter : (k : ℕ) → from ≤ k → Open is from levels (suc k) → Open is from levels k
    shorter k h o = record { later = h; within = omega (arith, o.within); open_at = λ j a b. o.open_at j a (omega (arith, b)) }

    -- levels that are open are not closed twice
    pub enough : (to : ℕ) → Open is from levels to → depth is from ≤ levels + depth is to
    enough to o = elim (cases_lt from to) [ inl a ↦ past to a o | inr a ↦ here to (omega (arith, a, o.later)) ]
      where
        here : (to : ℕ) → from ≡ to → depth is from ≤ levels + depth is to
        here to e = rw e (omega arith)

        past : (to : ℕ) → from < to → Open is from levels to → depth is from ≤ levels + depth is to
        past zero a o = absurd (omega (arith, a))
        past (suc k) a o = omega (arith, o.open_at k (omega (arith, a)) (omega arith), depth-least k)

    module _ {X : Type 0} (F : ℕ → List Item → X) where
      pub walk : (d k : ℕ) → k ≡ from + d → Open is from levels k
          → ((j l : ℕ) (i : Item) → from ≤ j → j < k → slice_get is j ≡ Some i → 0 < l → F (after_item i l) (drop (suc j) is) ≡ F l (i ∷ drop (suc j) is))
          → (l : ℕ) → l + depth is from ≡ levels + depth is k → F levels (drop from is) ≡ F l (drop k is)
      walk zero k e o s l b = here k l (omega (arith, e)) b
        where
          here : (k l : ℕ) → k ≡ from → l + depth is from ≡ levels + depth is k → F levels (drop from is) ≡ F l (drop k is)
          here k l e b = let c : l ≡ levels = omega (arith, rw e at b) in rw (e, c) refl
      walk (suc d) zero e o s l b = absurd (omega (arith, e))
      walk (suc d) (suc j) e o s l b =
          let it = item-at j (omega (arith, o.within)) in
          let late : from ≤ j = omega (arith, e) in
          let up = o.open_at j late (omega arith) in
          let before : ℕ = levels + depth is j - depth is from in
          let some : 0 < before = omega (arith, up) in
          let bal : before + depth is from ≡ levels + depth is j = omega (arith, up) in
          let next : l ≡ after_item it.0 before =
          balance-next it.0 before levels (depth is from) (depth is j) (depth is (suc j)) l some (omega (arith, depth-positive j, o.within)) bal (depth-suc j it.0 it.1) b in
          walk d j (omega (arith, e)) (shorter j late o) (λ k m i a c. s k m i a (omega (arith, c))) before bal
          ∙ (ap (λ xs. F before xs) it.2 ∙ (sym (s j before it.0 late (omega arith) it.1 some) ∙ ap (λ n. F n (drop (suc j) is)) (sym next)))

    -- the items after the levels
    skipped-none : (l : ℕ) → skipped l [] ≡ []
    unfolding skipped
    skipped-none zero = refl
    skipped-none (suc l) = refl

    skipped-no : (l : ℕ) (xs : List Item) → l ≡ 0 → skipped l xs ≡ xs
    unfolding skipped
    skipped-no l xs e = rw e refl

    pub skip-ends : (to : ℕ) → Ends is from levels to → drop to is ≡ skipped levels (drop from is)
    skip-ends to e =
        let o = e.before in
        let rest : ℕ = levels + depth is to - depth is from in
        let bal : rest + depth is from ≡ levels + depth is to = omega (arith, enough to o) in
        let w = walk (λ l xs. skipped l xs) (to - from) to (omega (arith, o.later)) o
        (λ j l i a b f h. skipped-next l (after_item i l) (i ∷ drop (suc j) is) i
        (drop (suc j) is) refl h refl) rest bal in
        sym (w ∙ elim e.last [
          | inl a ↦ ap (λ xs. skipped rest xs) (drop_of_length-le is (omega (arith, a))) ∙ (skipped-none rest ∙ sym (drop_of_length-le is (omega (arith, a))))
          | inr a ↦ skipped-no rest (drop to is) (omega (arith, bal, a))
        ])

    pub skip-past : length is < from → drop from is ≡ skipped levels (drop from is)
    skip-past h = let e : drop from is ≡ [] = drop_of_length-le is (omega (arith, h)) in rw e (sym (skipped-none levels))

-- marks of different kinds, and of one
abbrev outside-of : Mark → Option ℕ
outside-of (Closed n) = Some n
outside-of (Made k) = None
outside-of (Taken p u x ws) = None

same-bools : (a b : Bool) → (a ≡ true → b ≡ true) → (b ≡ true → a ≡ true) → a ≡ b
same-bools true true h k = refl
same-bools false false h k = refl
same-bools true false h k = sym (h refl)
same-bools false true h k = k refl

apart : (x m : Mark) (b : Bool) → (x ≡ m → false ≡ true) → same_mark x m ≡ b → b ≡ false
apart x m true h e = sym (h (mark-same x m e))
apart x m false h e = refl

abbrev is-made : Mark → Bool
is-made (Made k) = true
is-made (Taken p u x ws) = false
is-made (Closed n) = false

abbrev is-taken : Mark → Bool
is-taken (Made k) = false
is-taken (Taken p u x ws) = true
is-taken (Closed n) = false

abbrev like-made : Key → Mark → Bool
like-made k (Made l) = same_key k l
like-made k (Taken p u x ws) = true
like-made k (Closed n) = true

abbrev like-taken : Place → UnitId → ℕ → List Word → Mark → Bool
like-taken p u x ws (Taken q v y vs) = same_read p u x ws q v y vs
like-taken p u x ws (Made l) = true
like-taken p u x ws (Closed n) = true

made-same : (k l : Key) → same_mark (Made k) (Made l) ≡ same_key k l
made-same k l = same-bools (same_mark (Made k) (Made l)) (same_key k l)
    (λ e. sym (ap (like-made k) (mark-same (Made k) (Made l) e)) ∙ key-refl k)
    (λ e. ap (λ x. same_mark (Made k) (Made x)) (sym (key-same k l e)) ∙ mark-refl (Made k))

taken-same : (p : Place) (u : UnitId) (x : ℕ) (ws : List Word) (q : Place) (v : UnitId) (y : ℕ) (vs : List Word)
    → same_mark (Taken p u x ws) (Taken q v y vs) ≡ same_read p u x ws q v y vs
taken-same p u x ws q v y vs = same-bools (same_mark (Taken p u x ws) (Taken q v y vs)) (same_read p u x ws q v y vs)
    (λ e. sym (ap (like-taken p u x ws) (mark-same (Taken p u x ws) (Taken q v y vs) e)) ∙ itself)
    back
  where
    itself : same_read p u x ws p u x ws ≡ true
    itself = both-true (same_place p p && u.0 == u.0 && x == x) (same_words ws ws)
        (both-true (same_place p p && u.0 == u.0) (x == x) (both-true (same_place p p) (u.0 == u.0) (place-refl p) (nat-refl u.0)) (nat-refl x)) (words-refl ws)

    back : same_read p u x ws q v y vs ≡ true → same_mark (Taken p u x ws) (Taken q v y vs) ≡ true
    back s =
        let s1 = both (same_place p q && u.0 == v.0 && x == y) (same_words ws vs) s in
        let s2 = both (same_place p q && u.0 == v.0) (x == y) s1.0 in
        let s3 = both (same_place p q) (u.0 == v.0) s2.0 in
        rw (← place-same p q s3.0, ← unit-same u v s3.1, ← nat-same x y s2.1, ← words-same ws vs s1.1) (mark-refl (Taken p u x ws))

-- an item is found by its mark where it is found by its key
if-some : {A : Type 0} (a : A) (b : Bool) → b ≡ is_some (if b then Some a else None)
if-some a true = refl
if-some a false = refl

alloc-is : (i : Item) (d : ℕ) (key : Key) → has (mark_of i d) (Made key) ≡ is_some (block_of_key i key)
alloc-is Step d key = refl
alloc-is (Alloc b k) d key = made-same k key ∙ if-some b (same_key k key)
alloc-is (Write p v) d key = refl
alloc-is (Read p v u x args) d key = apart (Taken p u x args) (Made key) (same_mark (Taken p u x args) (Made key)) (λ e. ap is-made e) refl
alloc-is End d key = apart (Closed (pred d)) (Made key) (same_mark (Closed (pred d)) (Made key)) (λ e. ap is-made e) refl

read-is : (i : Item) (d : ℕ) (p : Place) (u : UnitId) (x : ℕ) (ws : List Word) → has (mark_of i d) (Taken p u x ws) ≡ is_some (value_of_read i p u x ws)
read-is Step d p u x ws = refl
read-is (Alloc b k) d p u x ws = apart (Made k) (Taken p u x ws) (same_mark (Made k) (Taken p u x ws)) (λ e. ap is-taken e) refl
read-is (Write q v) d p u x ws = refl
read-is (Read q v w y args) d p u x ws = taken-same q w y args p u x ws ∙ if-some v (same_read q w y args p u x ws)
read-is End d p u x ws = apart (Closed (pred d)) (Taken p u x ws) (same_mark (Closed (pred d)) (Taken p u x ws)) (λ e. ap is-taken e) refl

-- an End leads back to its depth
closed-at : (i : Item) (d outside : ℕ) → has (mark_of i d) (Closed outside) ≡ true → after_item i d ≡ outside
closed-at Step d outside e = absurd (grind (arith, e))
closed-at (Alloc b k) d outside e = none-some outside (ap outside-of (mark-same (Made k) (Closed outside) e))
closed-at (Write p v) d outside e = absurd (grind (arith, e))
closed-at (Read p v u x args) d outside e = none-some outside (ap outside-of (mark-same (Taken p u x args) (Closed outside) e))
closed-at End d outside e = some-same (pred d) outside (ap outside-of (mark-same (Closed (pred d)) (Closed outside) e))

-- where no End leads back so far, a level is left
stays : (i : Item) (d outside levels from : ℕ) → levels + outside ≡ from → from < levels + d → has (mark_of i d) (Closed outside) ≡ false → from < levels + after_item i d
stays Step d outside levels from b h e = h
stays (Alloc x k) d outside levels from b h e = h
stays (Write p v) d outside levels from b h e = h
stays (Read p v u x args) d outside levels from b h e = omega (arith, h)
stays End zero outside levels from b h e = absurd (omega (arith, b, h))
stays End (suc d) outside levels from b h e =
    elim (cases_lt outside d) [ inl a ↦ omega (arith, a, b) | inr a ↦ absurd (grind (arith, other d (omega (arith, a, b, h)), e)) ]
  where
    other : (d : ℕ) → d ≡ outside → same_mark (Closed d) (Closed outside) ≡ true
    other d a = rw a (mark-refl (Closed outside))

module _ (is : List Item) where
  marked-in : (m : Mark) (k : ℕ) (i : Item) → slice_get is k ≡ Some i → marked is m k ≡ has (mark_of i (depth is k)) m
  marked-in m k i e = ap (λ o. has (mark_in o (depth is k)) m) e

  module _ (from levels : ℕ) where
    module _ (outside : ℕ) (some : 0 < levels) (sum : levels + outside ≡ depth is from) where
      open-there : (d k : ℕ) → k ≡ from + d → k ≤ length is → Free is (Closed outside) from k → depth is from < levels + depth is k
      open-there zero k e h f = here k (omega (arith, e))
        where
          here : (k : ℕ) → k ≡ from → depth is from < levels + depth is k
          here k e = rw e (omega (arith, some))
      open-there (suc d) zero e h f = absurd (omega (arith, e))
      open-there (suc d) (suc j) e h f =
          let it = item-at is j (omega (arith, h)) in
          let up = open-there d j (omega (arith, e)) (omega (arith, h)) (λ k a b. f k a (omega (arith, b))) in
          rw (depth-suc is j it.0 it.1)
          (stays it.0 (depth is j) outside levels (depth is from) sum up (sym (marked-in (Closed outside) j it.0 it.1) ∙ f j (omega (arith, e)) (omega arith)))

      open-to : (to : ℕ) → from ≤ to → to ≤ length is → ((k : ℕ) → k < to → Free is (Closed outside) from k) → Open is from levels to
      open-to to h k f = record {
        later = h;
        within = k;
        open_at = λ j a b. open-there (j - from) j (omega (arith, a)) (omega (arith, b, k)) (f j b);
      }

      pub ends-none : from ≤ length is → Free is (Closed outside) from (length is) → Ends is from levels (length is)
      ends-none h f = record { before = open-to (length is) h (omega arith) (λ k a j b c. f j b (omega (arith, a, c))); last = inl refl }

      pub ends-next : (at : ℕ) → Next is (Closed outside) from at → Ends is from levels (at + 1)
      ends-next at n =
          let it = item-at is at n.there in
          let back : depth is (suc at) ≡ outside = depth-suc is at it.0 it.1 ∙ closed-at it.0 (depth is at) outside (sym (marked-in (Closed outside) at it.0 it.1) ∙ n.marked) in
          let one : at + 1 ≡ suc at = omega arith in
          let deep : depth is (at + 1) ≡ outside = ap (λ k. depth is k) one ∙ back in
          record {
            before = open-to (at + 1) (omega (arith, n.later)) (omega (arith, n.there)) (λ k a j b c. n.first j b (omega (arith, a, c)));
            last = inr (omega (arith, deep, sum));
          }

    -- the items of the levels, and those that are found among them
    module _ {X : Type 0} (F : ℕ → List Item → Option X) (m : Mark)
        (step : (l : ℕ) (i : Item) (later : List Item) (d : ℕ) → 0 < l → has (mark_of i d) m ≡ false → F (after_item i l) later ≡ F l (i ∷ later))
        (none : (xs : List Item) → F 0 xs ≡ None) (empty : (l : ℕ) → F l [] ≡ None) where
      walk-free : (to l : ℕ) → Open is from levels to → Free is m from to → l + depth is from ≡ levels + depth is to → F levels (drop from is) ≡ F l (drop to is)
      walk-free to l o f b =
          walk is from levels F (to - from) to (omega (arith, o.later)) o
          (λ j n i a c e h. step n i (drop (suc j) is) (depth is j) h (sym (marked-in m j i e) ∙ f j a c)) l b

      pub absent-none : Absent is m from levels → F levels (drop from is) ≡ None
      absent-none h = elim (cases_lt (length is) from) [
        | inl a ↦ let e : drop from is ≡ [] = drop_of_length-le is (omega (arith, a)) in ap (λ xs. F levels xs) e ∙ empty levels
        | inr a ↦ within (h a)
      ]
        where
          within : (to : ℕ) × Ends is from levels to × Free is m from to → F levels (drop from is) ≡ None
          within t =
              let rest : ℕ = levels + depth is t.0 - depth is from in
              let bal : rest + depth is from ≡ levels + depth is t.0 = omega (arith, enough is from levels t.0 t.1.before) in
              walk-free t.0 rest t.1.before t.2 bal ∙ elim t.1.last [
                | inl a ↦ let e : drop t.0 is ≡ [] = drop_of_length-le is (omega (arith, a)) in ap (λ xs. F rest xs) e ∙ empty rest
                | inr a ↦ let z : rest ≡ 0 = omega (arith, bal, a) in ap (λ n. F n (drop t.0 is)) z ∙ none (drop t.0 is)
              ]

      pub found-walk : (at left : ℕ) → Found is m from levels at left → F levels (drop from is) ≡ F left (drop at is)
      found-walk at left f = walk-free at left (part f.before) f.next.first f.balance
        where
          part : Open is from levels (at + 1) → Open is from levels at
          part o = record { later = f.next.later; within = omega (arith, f.next.there); open_at = λ k a b. o.open_at k a (omega (arith, b)) }

    pub found-left : (m : Mark) (at left : ℕ) → Found is m from levels at left → 0 < left
    found-left m at left f = omega (arith, f.before.open_at at f.next.later (omega arith), f.balance)

    pub found-some : {A : Type 0} (m : Mark) (at left : ℕ) → Found is m from levels at left → drop at is ≡ [] → A
    found-some m at left f e = absurd (omega (arith, f.next.there, length-drop at is, ap length e))

    pub found-item : (m : Mark) (at left : ℕ) → Found is m from levels at left → (i : Item) (later : List Item) → drop at is ≡ i ∷ later → has (mark_of i (depth is at)) m ≡ true
    found-item m at left f i later e =
        let it = item-at is at f.next.there in
        let same : it.0 ≡ i = some-same it.0 i (ap head-of (sym it.2 ∙ e)) in
        ap (λ j. has (mark_of j (depth is at)) m) (sym same) ∙ (sym (marked-in m at it.0 it.1) ∙ f.next.marked)
      where
        head-of : List Item → Option Item
        head-of [] = None
        head-of (x ∷ xs) = Some x

some-true : {A : Type 0} (o : Option A) → is_some o ≡ false → o ≡ None
some-true None e = refl
some-true (Some a) e = absurd (grind (arith, e))

none-true : {A B : Type 0} (o : Option A) → is_some o ≡ true → o ≡ None → B
none-true None e h = absurd (grind (arith, e))
none-true (Some a) e h = none-some a (sym h)

-- allocations
module _ (is : List Item) (from levels : ℕ) (key : Key) where
  alloc-step : (l : ℕ) (i : Item) (later : List Item) (d : ℕ) → 0 < l → has (mark_of i d) (Made key) ≡ false → find_alloc key (after_item i l) later ≡ find_alloc key l (i ∷ later)
  alloc-step l i later d h e =
      found-next key l (after_item i l) (i ∷ later) i later (block_of_key i key) refl h refl (some-true (block_of_key i key) (sym (alloc-is i d key) ∙ e)) refl

  pub alloc-absent : Absent is (Made key) from levels → find_alloc key levels (drop from is) ≡ None
  alloc-absent = absent-none is from levels (find_alloc key) (Made key) alloc-step (λ xs. found-zero key 0 xs (omega arith)) (λ l. found-empty key l [] refl)

  pub alloc-found : (at left : ℕ) → Found is (Made key) from levels at left → (i : Item) (later : List Item) → drop at is ≡ i ∷ later → (o : Option BlockId) → o ≡ block_of_key i key
      → MatchOption o (find_alloc key levels (drop from is) ≡ None) (λ b. find_alloc key levels (drop from is) ≡ Some (record { block = b; rest = later; levels = left }))
  alloc-found at left f i later e None k =
      none-true (block_of_key i key) (sym (alloc-is i (depth is at) key) ∙ found-item is from levels (Made key) at left f i later e) (sym k)
  alloc-found at left f i later e (Some b) k =
      found-walk is from levels (find_alloc key) (Made key) alloc-step (λ xs. found-zero key 0 xs (omega arith)) (λ l. found-empty key l [] refl) at left f
      ∙ found-here key left (drop at is) i later (Some b) b e (found-left is from levels (Made key) at left f) k refl

-- reads
module _ (is : List Item) (from levels : ℕ) (p : Place) (u : UnitId) (v : ℕ) (args : List Word) where
  read-step : (l : ℕ) (i : Item) (later : List Item) (d : ℕ) → 0 < l → has (mark_of i d) (Taken p u v args) ≡ false → find_read p u v args (after_item i l) later ≡ find_read p u v args l (i ∷ later)
  read-step l i later d h e =
      read-next p u v args l (after_item i l) (i ∷ later) i later (value_of_read i p u v args) refl h refl (some-true (value_of_read i p u v args) (sym (read-is i d p u v args) ∙ e)) refl

  pub read-absent : Absent is (Taken p u v args) from levels → find_read p u v args levels (drop from is) ≡ None
  read-absent = absent-none is from levels (find_read p u v args) (Taken p u v args) read-step (λ xs. read-zero p u v args 0 xs (omega arith)) (λ l. read-empty p u v args l [] refl)

  pub read-found : (at left : ℕ) → Found is (Taken p u v args) from levels at left → (i : Item) (later : List Item) → drop at is ≡ i ∷ later → (o : Option Word) → o ≡ value_of_read i p u v args
      → MatchOption o (find_read p u v args levels (drop from is) ≡ None) (λ w. find_read p u v args levels (drop from is) ≡ Some (record { value = w; rest = later; levels = left }))
  read-found at left f i later e None k =
      none-true (value_of_read i p u v args) (sym (read-is i (depth is at) p u v args) ∙ found-item is from levels (Taken p u v args) at left f i later e) (sym k)
  read-found at left f i later e (Some w) k =
      found-walk is from levels (find_read p u v args) (Taken p u v args) read-step (λ xs. read-zero p u v args 0 xs (omega arith)) (λ l. read-empty p u v args l [] refl) at left f
      ∙ read-here p u v args left (drop at is) i later (Some w) w e (found-left is from levels (Taken p u v args) at left f) k refl
