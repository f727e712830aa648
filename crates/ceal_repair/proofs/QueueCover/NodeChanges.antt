-- Nodes that are put in and taken out, and what is queued then.
use Rattle.std.proofs.Common.{◌≡◌, ◌≢◌, ◌≤◌, ◌+◌, ℕ, inl, inr, Bool, true, false, List, [], ◌∷◌, ◌++◌, length, refl, sym, ap, subst, ◌∙◌, arith, append_assoc, Some}
use Rattle.std.proofs.lemmas.Bool.Decides.{eqb_tells}
use Rattle.std.proofs.lemmas.Bool.{eq-eqb}
use Rattle.ceal_base.specs.declared.word.Place.{Place}
use Rattle.ceal_code.proofs.Words.SameIsEqual.{some-same, none-some}
use Rattle.ceal_code.specs.Replay.{Store}
use Rattle.ceal_mods.specs.Cell.{value_before}
use Rattle.ceal_mods.specs.Mods.{Contents, cell_of}
use Rattle.ceal_mods.specs.Writes.{Write as WriteOf, stamps_of}
use Rattle.ceal_mods.specs.declared.cell.Cell.{Cell}
use Rattle.ceal_order.proofs.Places.{in_head, in_tail, place_below}
use Rattle.ceal_order.specs.Stamps.{Distinct, is_in, place, OneMore}
use Rattle.ceal_repair.proofs.QueueCover.Chain.{FirstQueued, Keeps, keeps-own, chained-still}
use Rattle.ceal_repair.proofs.Lists.PartedLists.{place-front, place-back, writes-append, where-append, writes-among, where-among, where-holds, false-of}
use Rattle.ceal_repair.proofs.Lists.ListChanges.{in-back, in-parts, not-front, stamps_of-append, value-there, last-contents}
use Rattle.ceal_repair.proofs.QueueCover.AffectedRead.{first-woken}
use Rattle.ceal_repair.specs.Chain.{Chained}
use Rattle.ceal_repair.specs.Covered.{Queue, queue_of, and_one, contents_after}
use Rattle.ceal_repair.specs.Kept.{IsAwake, AreReads, base_in}
use Rattle.ceal_repair.specs.Lists.{IsTabled, reads_at, writes_in, stamps_where, before, up_to, nodes_after}
use Rattle.ceal_trace.proofs.Parts.{split_at, after-part, without-part, entry-part}
use Rattle.ceal_trace.specs.Nodes.{Entry, stamps_in, has_node, node_at, entry_at, held_by, is_read, with_entry_after, without_entry}
use Rattle.ceal_trace.specs.declared.node.Node.{Node}
use Rattle.ceal_trace.specs.declared.node.Node.TheVariants.{Root, Alloc, Write, Read, End}

-- ---- parted at a node

module _ (e : Entry) (back : List Entry) where
  pub before-node : (front : List Entry) → has_node e.stamp front ≡ false → before e.stamp (front ++ e ∷ back) ≡ front
  before-node [] none = rw (eq-eqb e.stamp e.stamp refl) refl
  before-node (x ∷ xs) none = elim (eqb_tells x.stamp e.stamp) [
    | inl p ↦ absurd (let no : true ≡ false = rw p.0 at none in cc)
    | inr p ↦ rw p.0 (ap (λ (l : List Entry). x ∷ l) (before-node xs (rw p.0 at none)))
  ]

  pub up-to-node : (front : List Entry) → has_node e.stamp front ≡ false → up_to e.stamp (front ++ e ∷ back) ≡ front ++ e ∷ []
  up-to-node [] none = rw (eq-eqb e.stamp e.stamp refl) refl
  up-to-node (x ∷ xs) none = elim (eqb_tells x.stamp e.stamp) [
    | inl p ↦ absurd (let no : true ≡ false = rw p.0 at none in cc)
    | inr p ↦ rw p.0 (ap (λ (l : List Entry). x ∷ l) (up-to-node xs (rw p.0 at none)))
  ]

  pub behind-node : (front : List Entry) → has_node e.stamp front ≡ false → nodes_after e.stamp (front ++ e ∷ back) ≡ back
  behind-node [] none = rw (eq-eqb e.stamp e.stamp refl) refl
  behind-node (x ∷ xs) none = elim (eqb_tells x.stamp e.stamp) [
    | inl p ↦ absurd (let no : true ≡ false = rw p.0 at none in cc)
    | inr p ↦ rw p.0 (behind-node xs (rw p.0 at none))
  ]

-- what is up to a node is not after it
pub up-to-places : (s : ℕ) (es : List Entry) (z : ℕ) → is_in z (stamps_in (up_to s es)) ≡ true → place z (stamps_in es) ≤ place s (stamps_in es)
up-to-places s [] z h = absurd (let no : false ≡ true = h in cc)
up-to-places s (e ∷ es) z h = elim (eqb_tells e.stamp s) [
  | inl p ↦ rw p.0 (own (rw p.0 at h))
  | inr p ↦ rw p.0 (later (up-to-places s es z) (rw p.0 at h))
]
  where
    own : is_in z (e.stamp ∷ []) ≡ true → place z (e.stamp ∷ stamps_in es) ≤ 0
    own i = elim (eqb_tells e.stamp z) [
      | inl q ↦ rw q.0 (omega arith)
      | inr q ↦ absurd (let no : false ≡ true = rw q.0 at i in cc)
    ]

    later : (is_in z (stamps_in (up_to s es)) ≡ true → place z (stamps_in es) ≤ place s (stamps_in es))
        → is_in z (e.stamp ∷ stamps_in (up_to s es)) ≡ true → place z (e.stamp ∷ stamps_in es) ≤ 1 + place s (stamps_in es)
    later on i = elim (eqb_tells e.stamp z) [
      | inl q ↦ rw q.0 (omega arith)
      | inr q ↦ rw q.0 (let a = on (rw q.0 at i) in omega (arith, a))
    ]

-- a new node directly after another one
pub record PutAfter (after : ℕ) (new : Entry) (old nodes : List Entry) : Type 0 where
  pub front : List Entry
  pub back : List Entry
  pub was : old ≡ front ++ back
  pub is : nodes ≡ front ++ new ∷ back
  pub front_is : up_to after old ≡ front

pub put-after : (after : ℕ) (new : Entry) (old nodes : List Entry) → has_node after old ≡ true → nodes ≡ with_entry_after after new old → PutAfter after new old nodes
put-after after new old nodes h is = go (split_at after old h)
  where
    go : (front : List Entry) × (e : Entry) × (back : List Entry) × (old ≡ front ++ e ∷ back) × (e.stamp ≡ after) × (has_node after front ≡ false) → PutAfter after new old nodes
    go s =
        let apart : has_node s.1.stamp s.0 ≡ false = rw (← s.4) at s.5 in
        record {
          front = s.0 ++ s.1 ∷ [];
          back = s.2;
          was = s.3 ∙ sym (append_assoc s.0 (s.1 ∷ []) s.2);
          is = is ∙ subst (λ (a : ℕ). with_entry_after a new old ≡ (s.0 ++ s.1 ∷ []) ++ new ∷ s.2) s.4
              (ap (λ (l : List Entry). with_entry_after s.1.stamp new l) s.3 ∙ (after-part s.1 s.2 new s.0 apart ∙ sym (append_assoc s.0 (s.1 ∷ []) (new ∷ s.2))));
          front_is = subst (λ (a : ℕ). up_to a old ≡ s.0 ++ s.1 ∷ []) s.4 (ap (up_to s.1.stamp) s.3 ∙ up-to-node s.1 s.2 s.0 apart);
        }

-- the nodes part at the one of a stamp
pub record PartAt (s : ℕ) (n : Node) (nodes : List Entry) : Type 0 where
  pub front : List Entry
  pub e : Entry
  pub back : List Entry
  pub was : nodes ≡ front ++ e ∷ back
  pub stamp : e.stamp ≡ s
  pub node : e.node ≡ n
  pub apart : has_node e.stamp front ≡ false

pub node-has : (s : ℕ) (n : Node) (es : List Entry) → node_at s es ≡ Some n → has_node s es ≡ true
node-has s n [] h = none-some n h
node-has s n (e ∷ es) h = elim (eqb_tells e.stamp s) [ inl p ↦ rw p.0 refl | inr p ↦ rw p.0 (node-has s n es (rw p.0 at h)) ]

pub read-has : (s : ℕ) (es : List Entry) → is_read (node_at s es) ≡ true → has_node s es ≡ true
read-has s [] h = absurd (let no : false ≡ true = h in cc)
read-has s (e ∷ es) h = elim (eqb_tells e.stamp s) [ inl p ↦ rw p.0 refl | inr p ↦ rw p.0 (read-has s es (rw p.0 at h)) ]

pub part-at : (s : ℕ) (n : Node) (nodes : List Entry) → node_at s nodes ≡ Some n → PartAt s n nodes
part-at s n nodes h = go (split_at s nodes (node-has s n nodes h))
  where
    go : (front : List Entry) × (e : Entry) × (back : List Entry) × (nodes ≡ front ++ e ∷ back) × (e.stamp ≡ s) × (has_node s front ≡ false) → PartAt s n nodes
    go x = record {
      front = x.0;
      e = x.1;
      back = x.2;
      was = x.3;
      stamp = x.4;
      node = some-same x.1.node n
          (sym (ap held_by (subst (λ (l : List Entry). entry_at x.1.stamp l ≡ Some x.1) (sym x.3) (entry-part x.1 x.2 x.0 (rw (← x.4) at x.5)))) ∙ (ap (λ t. node_at t nodes) x.4 ∙ h));
      apart = rw (← x.4) at x.5;
    }

-- the node at a stamp is gone
pub part-without : (s : ℕ) (n : Node) (nodes : List Entry) (c : PartAt s n nodes) → without_entry s nodes ≡ c.front ++ c.back
part-without s n nodes c = subst (λ t. without_entry t nodes ≡ c.front ++ c.back) c.stamp (ap (λ (l : List Entry). without_entry c.e.stamp l) c.was ∙ without-part c.e c.back c.front c.apart)

-- ---- what is queued

-- what a place's list of reads has are reads
pub listed-read : (p : Place) (nodes : List Entry) (mods : Contents) (z : ℕ) → Distinct (stamps_in nodes) → IsTabled nodes mods → is_in z (cell_of mods p).reads ≡ true
    → is_read (node_at z nodes) ≡ true
listed-read p nodes mods z d t i = go (where-holds (reads_at p) nodes z d (subst (λ (l : List ℕ). is_in z l ≡ true) (t.reads p) i))
  where
    read : (n : Node) → reads_at p n ≡ true → is_read (Some n) ≡ true
    read (Read q v u x args) h = refl
    read Root h = absurd (let no : false ≡ true = h in cc)
    read (Alloc b key) h = absurd (let no : false ≡ true = h in cc)
    read (Write q v) h = absurd (let no : false ≡ true = h in cc)
    read (End r) h = absurd (let no : false ≡ true = h in cc)

    go : (n : Node) × (node_at z nodes ≡ Some n) × (reads_at p n ≡ true) → is_read (node_at z nodes) ≡ true
    go x = ap is_read x.1 ∙ read x.0 x.2

-- the queue has reads of these nodes, and at most reads of a place came in
pub are-reads : (p : Place) (nodes : List Entry) (mods : Contents) (q q' : List ℕ) → Distinct (stamps_in nodes) → IsTabled nodes mods → AreReads nodes q
    → ((s : ℕ) → is_in s q ≡ false → is_in s q' ≡ true → is_in s (cell_of mods p).reads ≡ true) → AreReads nodes q'
are-reads p nodes mods q q' d t reads only s i = go (is_in s q) refl
  where
    go : (b : Bool) → is_in s q ≡ b → is_read (node_at s nodes) ≡ true
    go true e = reads s e
    go false e = listed-read p nodes mods s d t (only s e i)

-- reads stay reads where the nodes stay
pub still-reads : (old nodes : List Entry) (q : List ℕ) → ((s : ℕ) → has_node s old ≡ true → entry_at s nodes ≡ entry_at s old) → AreReads old q → AreReads nodes q
still-reads old nodes q same reads s i =
    let r = reads s i in
    ap is_read (ap held_by (same s (read-has s old r))) ∙ r

-- so where one is taken out that is not queued
pub fewer-reads : (gone : ℕ) (old nodes : List Entry) (q : List ℕ) → OneMore gone (stamps_in nodes) (stamps_in old) → ((s : ℕ) → has_node s nodes ≡ true → entry_at s old ≡ entry_at s nodes)
    → is_in gone q ≡ false → AreReads old q → AreReads nodes q
fewer-reads gone old nodes q more same none reads s i =
    let r = reads s i in
    let there : has_node s nodes ≡ true = more.only s (read-has s old r) (λ e. absurd (let no : true ≡ false = sym i ∙ (ap (λ z. is_in z q) e ∙ none) in cc)) in
    sym (ap is_read (ap held_by (same s there))) ∙ r

-- what is no read is not queued
pub no-read : (s : ℕ) (nodes : List Entry) (q : List ℕ) → AreReads nodes q → is_read (node_at s nodes) ≡ false → is_in s q ≡ false
no-read s nodes q reads h = false-of (is_in s q) (λ k. sym (reads s k) ∙ h)

-- ---- queues that keep what others have

pub keeps-among : (q q' : List ℕ) (es : List Entry) → ((t : ℕ) → is_in t (stamps_in es) ≡ true → is_in t q ≡ true → is_in t q' ≡ true) → Keeps (queue_of q) (queue_of q') es
unfolding queue_of
keeps-among q q' [] h = tt
keeps-among q q' (e ∷ es) h = (h e.stamp (in_head e.stamp (stamps_in es)), keeps-among q q' es (λ t i. h t (in_tail t e.stamp (stamps_in es) i)))

pub keeps-but : (s : ℕ) (q q' : List ℕ) (es : List Entry) → has_node s es ≡ false → ((t : ℕ) → is_in t q ≡ true → is_in t q' ≡ true) → Keeps (and_one s q) (queue_of q') es
unfolding queue_of and_one
keeps-but s q q' [] h k = tt
keeps-but s q q' (e ∷ es) h k = elim (eqb_tells e.stamp s) [
  | inl p ↦ absurd (let no : true ≡ false = rw p.0 at h in cc)
  | inr p ↦ (λ i. k e.stamp (rw p.0 at i), keeps-but s q q' es (rw p.0 at h) k)
]

-- what is chained over bases is so over the same bases
pub chained-base : (q : Queue) (s s' : Store) (es : List Entry) → ((p : Place) → s p ≡ s' p) → Chained q s es → Chained q s' es
chained-base q s s' es h c = chained-still q q es (keeps-own q es) s s' h c

-- and so under a queue that has more
pub chained-more : (q q' : List ℕ) (s : Store) (es : List Entry) → ((t : ℕ) → is_in t q ≡ true → is_in t q' ≡ true) → Chained (queue_of q) s es → Chained (queue_of q') s es
chained-more q q' s es h c = chained-still (queue_of q) (queue_of q') es (keeps-among q q' es (λ t i. h t)) s s (λ p. refl) c

and-more : (r : ℕ) (q m : List ℕ) → ((t : ℕ) → t ≢ r → is_in t m ≡ is_in t q) → (t : ℕ) → queue_of q t ≡ true → and_one r m t ≡ true
unfolding queue_of and_one
and-more r q m h t i = elim (eqb_tells t r) [
  | inl p ↦ rw p.0 refl
  | inr p ↦ rw p.0 (h t p.1 ∙ i)
]

pub is-queued : (s : ℕ) (q : List ℕ) (b : Bool) → is_in s q ≡ b → queue_of q s ≡ b
unfolding queue_of
is-queued s q b e = e

pub chained-and : (r : ℕ) (q m : List ℕ) (s : Store) (es : List Entry) → ((t : ℕ) → t ≢ r → is_in t m ≡ is_in t q) → Chained (queue_of q) s es → Chained (and_one r m) s es
chained-and r q m s es h c = chained-still (queue_of q) (and_one r m) es (keep es) s s (λ p. refl) c
  where
    keep : (es : List Entry) → Keeps (queue_of q) (and_one r m) es
    keep [] = tt
    keep (e ∷ es) = (and-more r q m h e.stamp, keep es)

-- ---- the first read that is affected

-- the last one of a list is after all of it
pub last-place : (xs : List ℕ) (y : ℕ) (ys : List ℕ) → is_in y xs ≡ false → (t : ℕ) → is_in t (xs ++ y ∷ []) ≡ true → place t ((xs ++ y ∷ []) ++ ys) ≤ place y ((xs ++ y ∷ []) ++ ys)
last-place xs y ys h t k =
    let a = place-front t (xs ++ y ∷ []) ys k in
    let b = place-front y (xs ++ y ∷ []) ys (in-back xs (y ∷ []) y (in_head y [])) in
    let c = place-back y xs (y ∷ []) h in
    let d = place_below t (xs ++ y ∷ []) k in
    omega (arith, a, b, c, d, length-one xs y)
  where
    length-one : (xs : List ℕ) (y : ℕ) → length (xs ++ y ∷ []) ≡ length xs + 1
    length-one [] y = omega arith
    length-one (x ∷ xs) y = omega (arith, length-one xs y)

-- After a stamp are these nodes, before it others. Where what is woken after it is the read that is affected, the first
-- node of the place after it is queued if it is a read.
pub first-queued : (front back : List Entry) (own : List ℕ) (s : ℕ) (order : List ℕ) (p : Place) (cell : Cell) (q' : List ℕ)
    → order ≡ (own ++ s ∷ []) ++ stamps_in back → Distinct order
    → ((t : ℕ) → is_in t (stamps_in front) ≡ true → is_in t (own ++ s ∷ []) ≡ true)
    → cell.writes ≡ writes_in p (front ++ back) → cell.reads ≡ stamps_where (reads_at p) (front ++ back)
    → IsAwake order cell s q' → FirstQueued (queue_of q') p back
unfolding queue_of
first-queued front back own s order p cell q' is distinct in_own w r awake =
    first-woken (own ++ s ∷ []) p cell s (λ t. is_in t q') order distinct
    (λ t k. subst (λ (l : List ℕ). place t l ≤ place s l) (sym is) (last-place own s (stamps_in back) apart t k))
    (in-back own (s ∷ []) s (in_head s [])) awake [] back (record {
      parts = is;
      writes = λ t i k. in-parts (stamps_of (writes_in p front)) (stamps_of (writes_in p back)) t
          (subst (λ (l : List ℕ). is_in t l ≡ true) (stamps_of-append (writes_in p front) (writes_in p back))
          (subst (λ (l : List WriteOf). is_in t (stamps_of l) ≡ true) (w ∙ writes-append p front back) i))
          (false-of (is_in t (stamps_of (writes_in p front))) (λ h. sym (in_own t (writes-among p front t h)) ∙ k));
      reads = λ t i k. in-parts (stamps_where (reads_at p) front) (stamps_where (reads_at p) back) t
          (subst (λ (l : List ℕ). is_in t l ≡ true) (r ∙ where-append (reads_at p) front back) i)
          (false-of (is_in t (stamps_where (reads_at p) front)) (λ h. sym (in_own t (where-among (reads_at p) front t h)) ∙ k));
      there = λ t i. subst (λ (l : List ℕ). is_in t l ≡ true) (sym (r ∙ where-append (reads_at p) front back)) (in-back (stamps_where (reads_at p) front) (stamps_where (reads_at p) back) t i);
    })
  where
    parts : Distinct (own ++ s ∷ stamps_in back)
    parts = subst (λ (l : List ℕ). Distinct l) (is ∙ append_assoc own (s ∷ []) (stamps_in back)) distinct

    apart : is_in s own ≡ false
    apart = not-front own s (stamps_in back) parts

-- ---- look-ups

pub cell-same : (p : Place) (a b : Contents) → a.cells ≡ b.cells → cell_of a p ≡ cell_of b p
cell-same p a b e = rw e refl

pub tabled-same : (nodes : List Entry) (a b : Contents) → a.cells ≡ b.cells → IsTabled nodes a → IsTabled nodes b
tabled-same nodes a b e t = record {
  writes = λ p. ap (λ (c : Cell). c.writes) (sym (cell-same p a b e)) ∙ t.writes p;
  reads = λ p. ap (λ (c : Cell). c.reads) (sym (cell-same p a b e)) ∙ t.reads p;
}

-- what a look-up at a node gives is what the nodes before it leave
pub looked-up : (s : ℕ) (front : List Entry) (e : Entry) (back nodes : List Entry) (mods : Contents) (p : Place) → nodes ≡ front ++ e ∷ back → e.stamp ≡ s → Distinct (stamps_in nodes)
    → IsTabled nodes mods
    → value_before (stamps_in nodes) s (cell_of mods p) ≡ contents_after (base_in mods) front p
looked-up s front e back nodes mods p was is distinct t =
    subst (λ z. value_before (stamps_in nodes) z (cell_of mods p) ≡ contents_after (base_in mods) front p) is
    (subst (λ (l : List Entry). value_before (stamps_in l) e.stamp (cell_of mods p) ≡ contents_after (base_in mods) front p) (sym was)
    (value-there front e back (subst (λ (l : List Entry). Distinct (stamps_in l)) was distinct) p (cell_of mods p) (t.writes p ∙ ap (writes_in p) was) ∙ last-contents p front (base_in mods)))
