-- What is put into the lists of a place and of a key, taken out of them and looked up in them, where the nodes are
-- parted.
use Rattle.std.proofs.Common.{◌≡◌, ℕ, suc, inl, inr, ◌+◌, ◌<◌, ◌≤◌, Bool, true, false, if◌then◌else◌, nat_lt, insert, List, [], ◌∷◌, ◌++◌, length, refl, sym, ap, subst, ◌∙◌, arith, append_assoc}
use Rattle.std.proofs.lemmas.Bool.Decides.{eqb_tells}
use Rattle.ceal_base.specs.Operators.{same_place}
use Rattle.ceal_base.specs.declared.word.Place.{Place}
use Rattle.ceal_base.specs.declared.word.Word.{Word}
use Rattle.ceal_code.proofs.Words.SameIsEqual.{place-refl, place-same}
use Rattle.ceal_code.specs.Replay.{Store, stored}
use Rattle.ceal_order.proofs.Places.{in_head, in_tail, apart, place_head}
use Rattle.ceal_order.specs.Stamps.{Distinct, is_in, place, without}
use Rattle.ceal_order.specs.Rising.{count_before}
use Rattle.ceal_trace.specs.Nodes.{Entry, stamps_in, has_node}
use Rattle.ceal_trace.proofs.Parts.{stamps-append}
use Rattle.ceal_trace.specs.declared.node.Node.{Node}
use Rattle.ceal_trace.specs.declared.node.Node.TheVariants.{Root, Alloc, Write, Read, End}
use Rattle.ceal_mods.specs.Cell.{value_before}
use Rattle.ceal_mods.specs.Writes.{Write as WriteOf, stamps_of, last_of, those_before, with_one}
use Rattle.ceal_mods.specs.declared.cell.Cell.{Cell}
use Rattle.ceal_repair.proofs.QueueCover.Chain.{place-sym}
use Rattle.ceal_repair.proofs.Lists.PartedLists.{before-part, behind-part, count-all, count-none, insert-after, writes-append, where-append, writes-among, where-among, out-one, out-none, false-of}
use Rattle.ceal_repair.proofs.Lists.PartedLists.{where-skip}
use Rattle.ceal_repair.specs.Covered.{content_after, contents_after}
use Rattle.ceal_repair.specs.Lists.{write_of, writes_in, stamps_where}

-- ---- stamps of the front are none of the back

pub not-front : (xs : List ℕ) (y : ℕ) (ys : List ℕ) → Distinct (xs ++ y ∷ ys) → is_in y xs ≡ false
not-front [] y ys h = refl
not-front (x ∷ xs) y ys h = elim (eqb_tells x y) [
  | inl p ↦ absurd (apart y x (xs ++ y ∷ ys) h.0 (in-mid xs y ys) (sym p.1))
  | inr p ↦ rw p.0 (not-front xs y ys h.1)
]
  where
    in-mid : (xs : List ℕ) (y : ℕ) (ys : List ℕ) → is_in y (xs ++ y ∷ ys) ≡ true
    in-mid [] y ys = in_head y ys
    in-mid (x ∷ xs) y ys = in_tail y x (xs ++ y ∷ ys) (in-mid xs y ys)

pub in-back : (xs ys : List ℕ) (t : ℕ) → is_in t ys ≡ true → is_in t (xs ++ ys) ≡ true
in-back [] ys t h = h
in-back (x ∷ xs) ys t h = in_tail t x (xs ++ ys) (in-back xs ys t h)

pub in-front : (xs ys : List ℕ) (t : ℕ) → is_in t xs ≡ true → is_in t (xs ++ ys) ≡ true
in-front [] ys t h = absurd (cc)
in-front (x ∷ xs) ys t h = elim (eqb_tells x t) [ inl p ↦ rw p.0 refl | inr p ↦ rw p.0 (in-front xs ys t (rw p.0 at h)) ]

pub back-apart : (xs ys : List ℕ) → Distinct (xs ++ ys) → (t : ℕ) → is_in t ys ≡ true → is_in t xs ≡ false
back-apart [] ys h t k = refl
back-apart (x ∷ xs) ys h t k = elim (eqb_tells x t) [
  | inl p ↦ absurd (apart t x (xs ++ ys) h.0 (in-back xs ys t k) (sym p.1))
  | inr p ↦ rw p.0 (back-apart xs ys h.1 t k)
]

pub in-parts : (xs ys : List ℕ) (t : ℕ) → is_in t (xs ++ ys) ≡ true → is_in t xs ≡ false → is_in t ys ≡ true
in-parts [] ys t h k = h
in-parts (x ∷ xs) ys t h k = elim (eqb_tells x t) [
  | inl p ↦ absurd (let no : true ≡ false = rw p.0 at k in cc)
  | inr p ↦ in-parts xs ys t (rw p.0 at h) (rw p.0 at k)
]

pub stamps_of-append : (f g : List WriteOf) → stamps_of (f ++ g) ≡ stamps_of f ++ stamps_of g
stamps_of-append [] g = refl
stamps_of-append (w ∷ ws) g = ap (λ (l : List ℕ). w.stamp ∷ l) (stamps_of-append ws g)

stamps_of-length : (f : List WriteOf) → length (stamps_of f) ≡ length f
stamps_of-length [] = refl
stamps_of-length (w ∷ ws) = ap suc (stamps_of-length ws)

-- nodes that are parted at one of them
module _ (front : List Entry) (e : Entry) (back : List Entry) (distinct : Distinct (stamps_in (front ++ e ∷ back))) where
  parts : Distinct (stamps_in front ++ e.stamp ∷ stamps_in back)
  parts = rw (stamps-append front (e ∷ back)) at distinct

  pub own-apart : is_in e.stamp (stamps_in front) ≡ false
  own-apart = not-front (stamps_in front) e.stamp (stamps_in back) parts

  -- a node of the front is before it, one of the back is not
  pub front-before : (t : ℕ) → is_in t (stamps_in front) ≡ true → place t (stamps_in (front ++ e ∷ back)) < place e.stamp (stamps_in (front ++ e ∷ back))
  front-before t h = rw (stamps-append front (e ∷ back)) (before-part e.stamp t (stamps_in front) (e.stamp ∷ stamps_in back) h own-apart)

  back-behind : (t : ℕ) → is_in t (stamps_in back) ≡ true → place e.stamp (stamps_in (front ++ e ∷ back)) ≤ place t (stamps_in (front ++ e ∷ back))
  back-behind t h = rw (stamps-append front (e ∷ back))
      (behind-part e.stamp t (stamps_in front) (e.stamp ∷ stamps_in back) (back-apart (stamps_in front) (e.stamp ∷ stamps_in back) parts t (in_tail t e.stamp (stamps_in back) h)) own-apart
      (place_head e.stamp (stamps_in back)))

  -- a write is put where its node is
  pub write-put : (p : Place) (v : Word) → e.node ≡ Write p v → with_one (stamps_in (front ++ e ∷ back)) e.stamp v (writes_in p front ++ writes_in p back) ≡ writes_in p (front ++ e ∷ back)
  write-put p v is =
      let count : count_before (stamps_in (front ++ e ∷ back)) e.stamp (stamps_of (writes_in p front) ++ stamps_of (writes_in p back)) ≡ length (writes_in p front) =
      count-all (stamps_in (front ++ e ∷ back)) e.stamp (stamps_of (writes_in p front)) (stamps_of (writes_in p back)) (λ t h. front-before t (writes-among p front t h))
      ∙ (ap (λ n. length (stamps_of (writes_in p front)) + n) (count-none (stamps_in (front ++ e ∷ back)) e.stamp (stamps_of (writes_in p back)) (λ t h. back-behind t (writes-among p back t h)))
      ∙ omega (arith, stamps_of-length (writes_in p front))) in
      rw (
        stamps_of-append (writes_in p front) (writes_in p back),
        count,
        insert-after (writes_in p front) (writes_in p back) (record { stamp = e.stamp; value = v }),
        writes-append p front
            (e ∷ back),
        is,
        place-refl p,
      ) refl

  pub where-put : (f : Node → Bool) → f e.node ≡ true
      → insert (stamps_where f (front ++ back)) (count_before (stamps_in (front ++ e ∷ back)) e.stamp (stamps_where f (front ++ back))) e.stamp ≡ stamps_where f (front ++ e ∷ back)
  where-put f is =
      let count : count_before (stamps_in (front ++ e ∷ back)) e.stamp (stamps_where f front ++ stamps_where f back) ≡ length (stamps_where f front) =
      count-all (stamps_in (front ++ e ∷ back)) e.stamp (stamps_where f front) (stamps_where f back) (λ t h. front-before t (where-among f front t h))
      ∙ (ap (λ n. length (stamps_where f front) + n) (count-none (stamps_in (front ++ e ∷ back)) e.stamp (stamps_where f back) (λ t h. back-behind t (where-among f back t h)))
      ∙ omega arith) in
      rw (where-append f front back, count, insert-after (stamps_where f front) (stamps_where f back) e.stamp, where-append f front (e ∷ back), is) refl

  pub own-behind : is_in e.stamp (stamps_in back) ≡ false
  own-behind = false-of (is_in e.stamp (stamps_in back)) (λ k. sym (in-back (stamps_in front) (e.stamp ∷ []) e.stamp (in_head e.stamp []))
      ∙ back-apart (stamps_in front ++ e.stamp ∷ []) (stamps_in back) (subst (λ (l : List ℕ). Distinct l) (sym (append_assoc (stamps_in front) (e.stamp ∷ []) (stamps_in back))) parts) e.stamp k)

  -- its stamp is that of no other node
  pub own-gone : has_node e.stamp (front ++ back) ≡ false
  own-gone = false-of (has_node e.stamp (front ++ back))
      (λ k. sym (in-parts (stamps_in front) (stamps_in back) e.stamp (subst (λ (l : List ℕ). is_in e.stamp l ≡ true) (stamps-append front back) k) own-apart) ∙ own-behind)

  -- taken out of a list, it is out of the list of the nodes
  pub where-cut : (f : Node → Bool) → without e.stamp (stamps_where f (front ++ e ∷ back)) ≡ stamps_where f (front ++ back)
  where-cut f = go (f e.node) refl
    where
      go : (b : Bool) → f e.node ≡ b → without e.stamp (stamps_where f (front ++ e ∷ back)) ≡ stamps_where f (front ++ back)
      go true k = ap (without e.stamp) (where-append f front (e ∷ back) ∙ ap (λ (l : List ℕ). stamps_where f front ++ l) here)
          ∙ (out-one e.stamp (stamps_where f front) (stamps_where f back) (false-of (is_in e.stamp (stamps_where f front)) (λ h. sym (where-among f front e.stamp h) ∙ own-apart))
          ∙ sym (where-append f front back))
        where
          here : stamps_where f (e ∷ back) ≡ e.stamp ∷ stamps_where f back
          here = rw k refl
      go false k = ap (without e.stamp) (where-skip f front e back k)
          ∙ out-none e.stamp (stamps_where f (front ++ back)) (false-of (is_in e.stamp (stamps_where f (front ++ back))) (λ h. sym (where-among f (front ++ back) e.stamp h) ∙ own-gone))

  those-all : (p : Place) (n : ℕ) (fs bs : List WriteOf) → ((t : ℕ) → is_in t (stamps_of fs) ≡ true → place t (stamps_in (front ++ e ∷ back)) < place n (stamps_in (front ++ e ∷ back)))
      → ((t : ℕ) → is_in t (stamps_of bs) ≡ true → place n (stamps_in (front ++ e ∷ back)) ≤ place t (stamps_in (front ++ e ∷ back))) → those_before (stamps_in (front ++ e ∷ back)) n (fs ++ bs) ≡ fs
  those-all p n [] [] h k = refl
  those-all p n [] (b ∷ bs) h k =
      let l : nat_lt (place b.stamp (stamps_in (front ++ e ∷ back))) (place n (stamps_in (front ++ e ∷ back))) ≡ false = grind (arith, k b.stamp (in_head b.stamp (stamps_of bs))) in
      rw l (those-all p n [] bs h (λ t i. k t (in_tail t b.stamp (stamps_of bs) i)))
  those-all p n (a ∷ fs) bs h k =
      let l : nat_lt (place a.stamp (stamps_in (front ++ e ∷ back))) (place n (stamps_in (front ++ e ∷ back))) ≡ true = grind (arith, h a.stamp (in_head a.stamp (stamps_of fs))) in
      rw l (ap (λ (ws : List WriteOf). a ∷ ws) (those-all p n fs bs (λ t i. h t (in_tail t a.stamp (stamps_of fs) i)) k))

  from-own : (t : ℕ) → is_in t (e.stamp ∷ stamps_in back) ≡ true → place e.stamp (stamps_in (front ++ e ∷ back)) ≤ place t (stamps_in (front ++ e ∷ back))
  from-own t h = elim (eqb_tells e.stamp t) [
    | inl q ↦ rw q.1 (omega arith)
    | inr q ↦ back-behind t (rw q.0 at h)
  ]

  -- what a place holds at a node is what the nodes before it leave
  pub value-there : (p : Place) (cell : Cell) → cell.writes ≡ writes_in p (front ++ e ∷ back)
      → value_before (stamps_in (front ++ e ∷ back)) e.stamp cell ≡ last_of cell.base (writes_in p front)
  value-there p cell is =
      rw (
        is,
        writes-append p front (e ∷ back),
        those-all p e.stamp (writes_in p front) (writes_in p (e ∷ back)) (λ t h. front-before t (writes-among p front t h))
            (λ t h. from-own t (writes-among p (e ∷ back) t h)),
      ) refl

stored-here : (s : Store) (p q : Place) (v : Word) → q ≡ p → stored s q v p ≡ v
unfolding stored
stored-here s p q v e = rw (e, place-refl p) refl

stored-away : (s : Store) (p q : Place) (v : Word) → same_place q p ≡ false → stored s q v p ≡ s p
unfolding stored
stored-away s p q v e = rw (place-sym q p e) refl

-- the last write of a place among nodes is what the place holds after them
pub last-contents : (p : Place) (es : List Entry) (s : Store) → last_of (s p) (writes_in p es) ≡ contents_after s es p
last-contents p [] s = refl
last-contents p (e ∷ es) s = one e.node (λ s. last-contents p es s)
  where
    one : (i : Node) → ((s : Store) → last_of (s p) (writes_in p es) ≡ contents_after s es p) → last_of (s p) (write_of p e.stamp i (writes_in p es)) ≡ contents_after (content_after s i) es p
    one Root h = h s
    one (Alloc b k) h = h s
    one (Read q v u x args) h = h s
    one (End r) h = h s
    one (Write q v) h = written q v (same_place q p) refl (h (stored s q v))
      where
        written : (q : Place) (v : Word) (t : Bool) → same_place q p ≡ t → last_of (stored s q v p) (writes_in p es) ≡ contents_after (stored s q v) es p
            → last_of (s p) (if t then record { stamp = e.stamp; value = v } ∷ writes_in p es else writes_in p es) ≡ contents_after (stored s q v) es p
        written q v true k h = ap (λ w. last_of w (writes_in p es)) (sym (stored-here s p q v (place-same q p k))) ∙ h
        written q v false k h = ap (λ w. last_of w (writes_in p es)) (sym (stored-away s p q v k)) ∙ h
