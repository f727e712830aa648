-- The lists of a place and of a key where the nodes are parted at one of them.
use Rattle.std.proofs.Common.{◌≡◌, ℕ, inl, inr, ◌+◌, ◌<◌, ◌≤◌, Bool, true, false, if◌then◌else◌, nat_lt, insert, List, [], ◌∷◌, ◌++◌, length, refl, sym, ap, ◌∙◌, arith, Some}
use Rattle.std.proofs.lemmas.Bool.Decides.{eqb_tells}
use Rattle.std.proofs.lemmas.Bool.{eq-eqb}
use Rattle.ceal_base.specs.Operators.{same_place}
use Rattle.ceal_base.specs.declared.word.Place.{Place}
use Rattle.ceal_base.specs.declared.word.Word.{Word}
use Rattle.ceal_order.proofs.Places.{in_head, in_tail, apart, place_below}
use Rattle.ceal_order.specs.Stamps.{Distinct, is_in, place, without}
use Rattle.ceal_order.specs.Rising.{count_before}
use Rattle.ceal_trace.specs.Nodes.{Entry, stamps_in, node_at}
use Rattle.ceal_trace.specs.declared.node.Node.{Node}
use Rattle.ceal_trace.specs.declared.node.Node.TheVariants.{Root, Alloc, Write, Read, End}
use Rattle.ceal_mods.specs.Writes.{Write as WriteOf, stamps_of, without_one}
use Rattle.ceal_repair.specs.Lists.{write_of, writes_in, stamps_where}

-- ---- places in parts

pub place-front : (s : ℕ) (xs ys : List ℕ) → is_in s xs ≡ true → place s (xs ++ ys) ≡ place s xs
place-front s [] ys h = absurd (cc)
place-front s (x ∷ xs) ys h = elim (eqb_tells x s) [
  | inl p ↦ rw p.0 refl
  | inr p ↦ rw p.0 (ap (λ n. 1 + n) (place-front s xs ys (rw p.0 at h)))
]

pub place-back : (s : ℕ) (xs ys : List ℕ) → is_in s xs ≡ false → place s (xs ++ ys) ≡ length xs + place s ys
place-back s [] ys h = omega arith
place-back s (x ∷ xs) ys h = elim (eqb_tells x s) [
  | inl p ↦ absurd (let no : true ≡ false = rw p.0 at h in cc)
  | inr p ↦ rw p.0 (let r = place-back s xs ys (rw p.0 at h) in omega arith)
]

-- the front ones are before a stamp that is not among them, the others are not
pub before-part : (n s : ℕ) (xs ys : List ℕ) → is_in s xs ≡ true → is_in n xs ≡ false → place s (xs ++ ys) < place n (xs ++ ys)
before-part n s xs ys h k = omega (arith, place-front s xs ys h, place-back n xs ys k, place_below s xs h)

pub behind-part : (n s : ℕ) (xs ys : List ℕ) → is_in s xs ≡ false → is_in n xs ≡ false → place n ys ≡ 0 → place n (xs ++ ys) ≤ place s (xs ++ ys)
behind-part n s xs ys h k e = omega (arith, place-back s xs ys h, place-back n xs ys k, e)

-- ---- the number of those of a list before a stamp

pub count-all : (order : List ℕ) (n : ℕ) (fs bs : List ℕ) → ((t : ℕ) → is_in t fs ≡ true → place t order < place n order) → count_before order n (fs ++ bs) ≡ length fs + count_before order n bs
count-all order n [] bs h = omega arith
count-all order n (a ∷ fs) bs h =
    let l : nat_lt (place a order) (place n order) ≡ true = grind (arith, h a (in_head a fs)) in
    rw l (let r = count-all order n fs bs (λ t i. h t (in_tail t a fs i)) in omega arith)

pub count-none : (order : List ℕ) (n : ℕ) (bs : List ℕ) → ((t : ℕ) → is_in t bs ≡ true → place n order ≤ place t order) → count_before order n bs ≡ 0
count-none order n [] h = refl
count-none order n (b ∷ bs) h =
    let l : nat_lt (place b order) (place n order) ≡ false = grind (arith, h b (in_head b bs)) in
    rw l (count-none order n bs (λ t i. h t (in_tail t b bs i)))

pub insert-after : {A : Type 0} (fs bs : List A) (x : A) → insert (fs ++ bs) (length fs) x ≡ fs ++ x ∷ bs
insert-after [] bs x = refl
insert-after (a ∷ fs) bs x = ap (λ l. a ∷ l) (insert-after fs bs x)

-- ---- the lists of a place

pub writes-append : (p : Place) (f g : List Entry) → writes_in p (f ++ g) ≡ writes_in p f ++ writes_in p g
writes-append p [] g = refl
writes-append p (e ∷ es) g = one e.node (writes-append p es g)
  where
    one : (i : Node) → writes_in p (es ++ g) ≡ writes_in p es ++ writes_in p g → write_of p e.stamp i (writes_in p (es ++ g)) ≡ write_of p e.stamp i (writes_in p es) ++ writes_in p g
    one Root h = h
    one (Alloc b k) h = h
    one (Read q v u x args) h = h
    one (End r) h = h
    one (Write q v) h = go (same_place q p)
      where
        go : (t : Bool) → (if t then record { stamp = e.stamp; value = v } ∷ writes_in p (es ++ g) else writes_in p (es ++ g))
            ≡ (if t then record { stamp = e.stamp; value = v } ∷ writes_in p es else writes_in p es) ++ writes_in p g
        go true = ap (λ (l : List WriteOf). record { stamp = e.stamp; value = v } ∷ l) h
        go false = h

pub where-append : (f : Node → Bool) (xs ys : List Entry) → stamps_where f (xs ++ ys) ≡ stamps_where f xs ++ stamps_where f ys
where-append f [] ys = refl
where-append f (e ∷ es) ys = go (f e.node) (where-append f es ys)
  where
    go : (b : Bool) → stamps_where f (es ++ ys) ≡ stamps_where f es ++ stamps_where f ys
        → (if b then e.stamp ∷ stamps_where f (es ++ ys) else stamps_where f (es ++ ys)) ≡ (if b then e.stamp ∷ stamps_where f es else stamps_where f es) ++ stamps_where f ys
    go true h = ap (λ (l : List ℕ). e.stamp ∷ l) h
    go false h = h

-- the stamps of a place's lists are those of nodes
pub in-later : (t s : ℕ) (xs ys : List ℕ) → (is_in t xs ≡ true → is_in t ys ≡ true) → is_in t (s ∷ xs) ≡ true → is_in t (s ∷ ys) ≡ true
in-later t s xs ys h k = elim (eqb_tells s t) [ inl p ↦ rw p.0 refl | inr p ↦ rw p.0 (h (rw p.0 at k)) ]

pub writes-among : (p : Place) (es : List Entry) (t : ℕ) → is_in t (stamps_of (writes_in p es)) ≡ true → is_in t (stamps_in es) ≡ true
writes-among p [] t h = h
writes-among p (e ∷ es) t h = one e.node (writes-among p es t) h
  where
    one : (i : Node) → (is_in t (stamps_of (writes_in p es)) ≡ true → is_in t (stamps_in es) ≡ true) → is_in t (stamps_of (write_of p e.stamp i (writes_in p es))) ≡ true
        → is_in t (e.stamp ∷ stamps_in es) ≡ true
    one Root k h = in_tail t e.stamp (stamps_in es) (k h)
    one (Alloc b j) k h = in_tail t e.stamp (stamps_in es) (k h)
    one (Read q v u x args) k h = in_tail t e.stamp (stamps_in es) (k h)
    one (End r) k h = in_tail t e.stamp (stamps_in es) (k h)
    one (Write q v) k h = go (same_place q p) h
      where
        go : (b : Bool) → is_in t (stamps_of (if b then record { stamp = e.stamp; value = v } ∷ writes_in p es else writes_in p es)) ≡ true → is_in t (e.stamp ∷ stamps_in es) ≡ true
        go true h = in-later t e.stamp (stamps_of (writes_in p es)) (stamps_in es) k h
        go false h = in_tail t e.stamp (stamps_in es) (k h)

pub where-among : (f : Node → Bool) (es : List Entry) (t : ℕ) → is_in t (stamps_where f es) ≡ true → is_in t (stamps_in es) ≡ true
where-among f [] t h = h
where-among f (e ∷ es) t h = go (f e.node) (where-among f es t) h
  where
    go : (b : Bool) → (is_in t (stamps_where f es) ≡ true → is_in t (stamps_in es) ≡ true) → is_in t (if b then e.stamp ∷ stamps_where f es else stamps_where f es) ≡ true
        → is_in t (e.stamp ∷ stamps_in es) ≡ true
    go true k h = in-later t e.stamp (stamps_where f es) (stamps_in es) k h
    go false k h = in_tail t e.stamp (stamps_in es) (k h)

-- a stamp in the list is that of a node of which it is true
pub where-holds : (f : Node → Bool) (es : List Entry) (t : ℕ) → Distinct (stamps_in es) → is_in t (stamps_where f es) ≡ true → (n : Node) × (node_at t es ≡ Some n) × (f n ≡ true)
where-holds f [] t d h = absurd (let no : false ≡ true = h in cc)
where-holds f (e ∷ es) t d h = go (f e.node) refl (where-holds f es t d.1)
  where
    later : (is_in t (stamps_where f es) ≡ true → (n : Node) × (node_at t es ≡ Some n) × (f n ≡ true)) → is_in t (stamps_where f es) ≡ true
        → (n : Node) × (node_at t (e ∷ es) ≡ Some n) × (f n ≡ true)
    later on i =
        let r = on i in
        let there : is_in t (stamps_in es) ≡ true = where-among f es t i in
        elim (eqb_tells e.stamp t) [
          | inl q ↦ absurd (apart t e.stamp (stamps_in es) d.0 there (sym q.1))
          | inr q ↦ (r.0, rw q.0 r.1, r.2)
        ]

    go : (b : Bool) → f e.node ≡ b → (is_in t (stamps_where f es) ≡ true → (n : Node) × (node_at t es ≡ Some n) × (f n ≡ true))
        → (n : Node) × (node_at t (e ∷ es) ≡ Some n) × (f n ≡ true)
    go false k on = later on (rw k at h)
    go true k on = elim (eqb_tells e.stamp t) [
      | inl w ↦ (e.node, rw w.0 refl, k)
      | inr w ↦ later on (rw (k, w.0) at h)
    ]

-- ---- a node of which it is not true may be there or not

pub where-skip : (f : Node → Bool) (front : List Entry) (e : Entry) (back : List Entry) → f e.node ≡ false → stamps_where f (front ++ e ∷ back) ≡ stamps_where f (front ++ back)
where-skip f front e back k = where-append f front (e ∷ back) ∙ (ap (λ (l : List ℕ). stamps_where f front ++ l) skip ∙ sym (where-append f front back))
  where
    skip : stamps_where f (e ∷ back) ≡ stamps_where f back
    skip = rw k refl

pub writes-skip : (p : Place) (front : List Entry) (e : Entry) (back : List Entry) → write_of p e.stamp e.node (writes_in p back) ≡ writes_in p back
    → writes_in p (front ++ e ∷ back) ≡ writes_in p (front ++ back)
writes-skip p front e back k = writes-append p front (e ∷ back) ∙ (ap (λ (l : List WriteOf). writes_in p front ++ l) k ∙ sym (writes-append p front back))

-- ---- taken out of a list

pub out-one : (s : ℕ) (front back : List ℕ) → is_in s front ≡ false → without s (front ++ s ∷ back) ≡ front ++ back
out-one s [] back h = rw (eq-eqb s s refl) refl
out-one s (w ∷ ws) back h = elim (eqb_tells w s) [
  | inl p ↦ absurd (let no : true ≡ false = rw p.0 at h in cc)
  | inr p ↦ rw p.0 (ap (λ (l : List ℕ). w ∷ l) (out-one s ws back (rw p.0 at h)))
]

pub out-none : (s : ℕ) (xs : List ℕ) → is_in s xs ≡ false → without s xs ≡ xs
out-none s [] h = refl
out-none s (x ∷ xs) h = elim (eqb_tells x s) [
  | inl p ↦ absurd (let no : true ≡ false = rw p.0 at h in cc)
  | inr p ↦ rw p.0 (ap (λ (l : List ℕ). x ∷ l) (out-none s xs (rw p.0 at h)))
]

pub out-write : (s : ℕ) (v : Word) (front back : List WriteOf) → is_in s (stamps_of front) ≡ false → without_one s (front ++ record { stamp = s; value = v } ∷ back) ≡ front ++ back
out-write s v [] back h = rw (eq-eqb s s refl) refl
out-write s v (w ∷ ws) back h = elim (eqb_tells w.stamp s) [
  | inl p ↦ absurd (let no : true ≡ false = rw p.0 at h in cc)
  | inr p ↦ rw p.0 (ap (λ (l : List WriteOf). w ∷ l) (out-write s v ws back (rw p.0 at h)))
]

pub false-of : (b : Bool) → (b ≡ true → true ≡ false) → b ≡ false
false-of false h = refl
false-of true h = absurd (let no : true ≡ false = h refl in cc)
