-- What each call does to the nodes, the lists and the queue.
use Rattle.std.proofs.Common.{◌≡◌, ◌≢◌, ◌<◌, ◌≤◌, ◌+◌, ℕ, inl, inr, ◌⊎◌, Bool, true, false, List, [], ◌∷◌, ◌++◌, length, refl, sym, ap, subst, ◌∙◌, arith, append_assoc}
use Rattle.std.proofs.lemmas.Bool.Decides.{eqb_tells}
use Rattle.ceal_base.specs.declared.forest.Key.{Key}
use Rattle.ceal_base.specs.declared.forest.UnitId.{UnitId}
use Rattle.ceal_base.specs.declared.word.BlockId.{BlockId}
use Rattle.ceal_base.specs.declared.word.Place.{Place}
use Rattle.ceal_base.specs.declared.word.Word.{Word}
use Rattle.ceal_code.specs.Replay.{Store}
use Rattle.ceal_mods.specs.Mods.{Contents, cell_of}
use Rattle.ceal_mods.specs.Writes.{Write as WriteOf}
use Rattle.ceal_order.proofs.Places.{place_tells}
use Rattle.ceal_order.specs.Stamps.{Distinct, is_in, place, OneMore}
use Rattle.ceal_order.specs.declared.stamp.Stamp.{Stamp}
use Rattle.ceal_repair.proofs.QueueCover.NodeChanges.{PutAfter, first-queued, keeps-among, keeps-but, chained-base, is-queued}
use Rattle.ceal_repair.proofs.QueueCover.Chain.{FirstQueued, Keeps}
use Rattle.ceal_repair.proofs.Lists.PartedLists.{writes-append, where-append, false-of}
use Rattle.ceal_repair.proofs.Lists.ListChanges.{own-apart, own-behind, own-gone, front-before, in-front, in-back}
use Rattle.ceal_repair.proofs.QueueCover.ChainChanges.{IsQuiet, chained-part, chained-join, front-held, write-added, write-removed, write-idle, read-removed, read-cut, read-stays, read-settled}
use Rattle.ceal_repair.specs.Chain.{Chained, recorded_last}
use Rattle.ceal_repair.specs.Covered.{Queue, queue_of, and_one, contents_after}
use Rattle.ceal_repair.specs.Kept.{IsAwake, base_in}
use Rattle.ceal_repair.specs.Lists.{IsTabled, reads_at, write_of, writes_in, stamps_where}
use Rattle.ceal_trace.proofs.Parts.{stamps-append}
use Rattle.ceal_trace.specs.Nodes.{Entry, stamps_in, has_node, position, new_entry, steps_set, Inserted}
use Rattle.ceal_trace.specs.declared.node.Node.{Node}
use Rattle.ceal_trace.specs.declared.node.Node.TheVariants.{Alloc, Write, Read, End}

-- ---- places in the order

-- a stamp that is before another one is there
pub there-before : (s : ℕ) (xs : List ℕ) → place s xs < length xs → is_in s xs ≡ true
there-before s [] h = absurd (omega (arith, h))
there-before s (x ∷ xs) h = elim (eqb_tells x s) [
  | inl p ↦ rw p.0 refl
  | inr p ↦ rw p.0 (there-before s xs (let k : 1 + place s xs < length (x ∷ xs) = rw p.0 at h in omega (arith, k)))
]

-- what follows a node is after one that is put directly after that
pub behind-put : (after s : ℕ) (n : Node) (old nodes : List Entry) → Inserted after s n old nodes → has_node after old ≡ true
    → (r : ℕ) → has_node r old ≡ true → position after old < position r old → position s nodes < position r nodes
behind-put after s n old nodes i here r there lt =
    let further : position after nodes < position r nodes = (i.others.stamps.order after r here there).0 lt in
    let other : position r nodes ≢ position s nodes = λ e.
    absurd (let no : true ≡ false = sym there ∙ (ap (λ z. is_in z (stamps_in old)) (place_tells r s (stamps_in nodes) (i.others.stamps.others r there) i.there e) ∙ i.new) in cc) in
    omega (arith, i.after, further, other)

-- what follows a node does so where another one is taken out
pub behind-cut : (gone : ℕ) (fewer all : List ℕ) → OneMore gone fewer all → (s r : ℕ) → is_in s all ≡ true → is_in r all ≡ true → s ≢ gone → r ≢ gone
    → place s all < place r all → place s fewer < place r fewer
behind-cut gone fewer all more s r i j a b lt = (more.order s r (more.only s i a) (more.only r j b)).1 lt

-- ---- quiet nodes

pub alloc-quiet : (b : BlockId) (key : Key) → IsQuiet (Alloc b key)
alloc-quiet b key t q st back = (λ c. (tt, c), λ c. c.1)

pub end-quiet : (r : Stamp) → IsQuiet (End r)
end-quiet r t q st back = (λ c. (tt, c), λ c. c.1)

-- ---- a node that is changed

module _ (front : List Entry) (e e' : Entry) (back : List Entry) (stamp : e'.stamp ≡ e.stamp) where
  where-with : (f : Node → Bool) → f e'.node ≡ f e.node → stamps_where f (front ++ e' ∷ back) ≡ stamps_where f (front ++ e ∷ back)
  where-with f k = where-append f front (e' ∷ back) ∙ (ap (λ (l : List ℕ). stamps_where f front ++ l) own ∙ sym (where-append f front (e ∷ back)))
    where
      own : stamps_where f (e' ∷ back) ≡ stamps_where f (e ∷ back)
      own = rw (k, stamp) refl

  writes-with : (p : Place) → write_of p e'.stamp e'.node (writes_in p back) ≡ write_of p e.stamp e.node (writes_in p back) → writes_in p (front ++ e' ∷ back) ≡ writes_in p (front ++ e ∷ back)
  writes-with p k = writes-append p front (e' ∷ back) ∙ (ap (λ (l : List WriteOf). writes_in p front ++ l) k ∙ sym (writes-append p front (e ∷ back)))

  pub tabled-with : (mods : Contents) → ((p : Place) → reads_at p e'.node ≡ reads_at p e.node)
      → ((p : Place) → write_of p e'.stamp e'.node (writes_in p back) ≡ write_of p e.stamp e.node (writes_in p back))
      → IsTabled (front ++ e ∷ back) mods → IsTabled (front ++ e' ∷ back) mods
  tabled-with mods r w t = record {
    writes = λ p. t.writes p ∙ sym (writes-with p (w p));
    reads = λ p. t.reads p ∙ sym (where-with (reads_at p) (r p));
  }

pub steps-chained : (q : Queue) (t : Store) (front : List Entry) (e : Entry) (back : List Entry) (n : ℕ) → Chained q t (front ++ e ∷ back) → Chained q t (front ++ steps_set n e ∷ back)
steps-chained q t front e back n c =
    let d = chained-part q front (e ∷ back) t c in
    chained-join q front (steps_set n e ∷ back) t d.0 d.1

-- ---- the first read that is affected

module _ (front : List Entry) (e : Entry) (back nodes : List Entry) (was : nodes ≡ front ++ e ∷ back) (distinct : Distinct (stamps_in nodes)) (mods : Contents) (p : Place) (q' : List ℕ) where
  order-is : stamps_in nodes ≡ (stamps_in front ++ e.stamp ∷ []) ++ stamps_in back
  order-is = ap stamps_in was ∙ (stamps-append front (e ∷ back) ∙ sym (append_assoc (stamps_in front) (e.stamp ∷ []) (stamps_in back)))

  -- the lists still have the node
  pub awake-behind : IsTabled nodes mods → IsAwake (stamps_in nodes) (cell_of mods p) e.stamp q' → FirstQueued (queue_of q') p back
  awake-behind t awake =
      first-queued (front ++ e ∷ []) back (stamps_in front) e.stamp (stamps_in nodes) p (cell_of mods p) q' order-is distinct
      (λ t h. subst (λ (l : List ℕ). is_in t l ≡ true) (stamps-append front (e ∷ [])) h)
      (t.writes p ∙ ap (writes_in p) whole) (t.reads p ∙ ap (stamps_where (reads_at p)) whole) awake
    where
      whole : nodes ≡ (front ++ e ∷ []) ++ back
      whole = was ∙ sym (append_assoc front (e ∷ []) back)

  -- they have it no more
  pub awake-cut : IsTabled (front ++ back) mods → IsAwake (stamps_in nodes) (cell_of mods p) e.stamp q' → FirstQueued (queue_of q') p back
  awake-cut t awake =
      first-queued front back (stamps_in front) e.stamp (stamps_in nodes) p (cell_of mods p) q' order-is distinct
      (λ t h. in-front (stamps_in front) (e.stamp ∷ []) t h) (t.writes p) (t.reads p) awake

-- ---- nothing in front is queued

pub none-in-front : (front : List Entry) (e : Entry) (back nodes : List Entry) → nodes ≡ front ++ e ∷ back → Distinct (stamps_in nodes) → (q : List ℕ)
    → ((r : ℕ) → is_in r q ≡ true → place e.stamp (stamps_in nodes) ≤ place r (stamps_in nodes)) → (z : ℕ) → is_in z (stamps_in front) ≡ true → is_in z q ≡ false
none-in-front front e back nodes was distinct q first z i = false-of (is_in z q) (λ j.
    let a : place z (stamps_in nodes) < place e.stamp (stamps_in nodes) = subst (λ (l : List Entry). place z (stamps_in l) < place e.stamp (stamps_in l)) (sym was)
    (front-before front e back (subst (λ (l : List Entry). Distinct (stamps_in l)) was distinct) z i) in
    let b = first z j in absurd (omega (arith, a, b)))

and-none : (s z : ℕ) (q : List ℕ) → z ≢ s → is_in z q ≡ false → and_one s q z ≡ false
unfolding and_one
and-none s z q ne h = elim (eqb_tells z s) [
  | inl p ↦ absurd (ne p.1)
  | inr p ↦ rw p.0 h
]

-- ---- what stays chained

entry-of : (e : Entry) (n : Node) → e.node ≡ n → e ≡ record { stamp = e.stamp; node = n; steps = e.steps }
entry-of e n is = rw is refl

-- a write is put in
pub write-put-chained : (after s : ℕ) (p : Place) (v : Word) (old nodes : List Entry) → PutAfter after (new_entry s (Write p v)) old nodes → Distinct (stamps_in nodes)
    → (mods new : Contents) → ((x : Place) → base_in new x ≡ base_in mods x) → IsTabled nodes new → (q q' : List ℕ) → ((t : ℕ) → is_in t q ≡ true → is_in t q' ≡ true)
    → IsAwake (stamps_in nodes) (cell_of new p) s q' → Chained (queue_of q) (base_in mods) old → Chained (queue_of q') (base_in new) nodes
write-put-chained after s p v old nodes put distinct mods new base t q q' more awake c =
    subst (λ (l : List Entry). Chained (queue_of q') (base_in new) l) (sym put.is)
    (write-added (queue_of q) (queue_of q') (base_in new) put.front put.back s 0 p v (keeps-among q q' put.front (λ z i. more z)) (keeps-among q q' put.back (λ z i. more z))
    (awake-behind put.front (new_entry s (Write p v)) put.back nodes put.is distinct new p q' t awake)
    (chained-base (queue_of q) (base_in mods) (base_in new) (put.front ++ put.back) (λ x. sym (base x)) (subst (λ (l : List Entry). Chained (queue_of q) (base_in mods) l) put.was c)))

-- a write is taken out
pub write-cut-chained : (front : List Entry) (e : Entry) (back nodes : List Entry) (p : Place) (v : Word) → nodes ≡ front ++ e ∷ back → e.node ≡ Write p v → Distinct (stamps_in nodes)
    → (mods new : Contents) → ((x : Place) → base_in new x ≡ base_in mods x) → IsTabled (front ++ back) new → (q q' : List ℕ) → ((t : ℕ) → is_in t q ≡ true → is_in t q' ≡ true)
    → ((r : ℕ) → is_in r q ≡ true → place e.stamp (stamps_in nodes) ≤ place r (stamps_in nodes))
    → (contents_after (base_in mods) front p ≡ v) ⊎ IsAwake (stamps_in nodes) (cell_of new p) e.stamp q'
    → Chained (queue_of q) (base_in mods) nodes → Chained (queue_of q') (base_in new) (front ++ back)
write-cut-chained front e back nodes p v was is distinct mods new base t q q' more first awake c = go awake
  where
    c' : Chained (queue_of q) (base_in mods) (front ++ record { stamp = e.stamp; node = Write p v; steps = e.steps } ∷ back)
    c' = subst (λ (l : List Entry). Chained (queue_of q) (base_in mods) l) (was ∙ ap (λ x. front ++ x ∷ back) (entry-of e (Write p v) is)) c

    go : (contents_after (base_in mods) front p ≡ v) ⊎ IsAwake (stamps_in nodes) (cell_of new p) e.stamp q' → Chained (queue_of q') (base_in new) (front ++ back)
    go (inl same) = chained-base (queue_of q') (base_in mods) (base_in new) (front ++ back) (λ x. sym (base x))
        (write-idle (queue_of q) (queue_of q') (base_in mods) front back e.stamp e.steps p v (keeps-among q q' front (λ z i. more z)) (keeps-among q q' back (λ z i. more z))
        (front-held (queue_of q) (base_in mods) front (record { stamp = e.stamp; node = Write p v; steps = e.steps } ∷ back)
        (λ z i. is-queued z q false (none-in-front front e back nodes was distinct q first z i)) c' p ∙ same) c')
    go (inr woken) = chained-base (queue_of q') (base_in mods) (base_in new) (front ++ back) (λ x. sym (base x))
        (write-removed (queue_of q) (queue_of q') (base_in mods) front back e.stamp e.steps p v (keeps-among q q' front (λ z i. more z)) (keeps-among q q' back (λ z i. more z))
        (awake-cut front e back nodes was distinct new p q' t woken) c')

-- a read is taken out, that was queued or not
pub read-cut-chained : (front : List Entry) (e : Entry) (back nodes : List Entry) (p : Place) (v : Word) (u : UnitId) (x : ℕ) (args : List Word) → nodes ≡ front ++ e ∷ back
    → e.node ≡ Read p v u x args → Distinct (stamps_in nodes)
    → (mods : Contents) → IsTabled nodes mods → (q q' : List ℕ) → ((t : ℕ) → t ≢ e.stamp → is_in t q ≡ true → is_in t q' ≡ true)
    → (is_in e.stamp q ≡ true → IsAwake (stamps_in nodes) (cell_of mods p) e.stamp q') → Chained (queue_of q) (base_in mods) nodes → Chained (queue_of q') (base_in mods) (front ++ back)
read-cut-chained front e back nodes p v u x args was is distinct mods t q q' more awake c = go (is_in e.stamp q) refl
  where
    parted : Distinct (stamps_in (front ++ e ∷ back))
    parted = subst (λ (l : List Entry). Distinct (stamps_in l)) was distinct

    not-own : (z : ℕ) → has_node z (front ++ back) ≡ true → z ≢ e.stamp
    not-own z i k = absurd (let no : true ≡ false = sym i ∙ (ap (λ w. has_node w (front ++ back)) k ∙ own-gone front e back parted) in cc)

    in-f : (z : ℕ) → is_in z (stamps_in front) ≡ true → has_node z (front ++ back) ≡ true
    in-f z i = rw (stamps-append front back) (in-front (stamps_in front) (stamps_in back) z i)

    in-b : (z : ℕ) → is_in z (stamps_in back) ≡ true → has_node z (front ++ back) ≡ true
    in-b z i = rw (stamps-append front back) (in-back (stamps_in front) (stamps_in back) z i)

    keep-f : Keeps (queue_of q) (queue_of q') front
    keep-f = keeps-among q q' front (λ z i. more z (not-own z (in-f z i)))

    keep-b : Keeps (queue_of q) (queue_of q') back
    keep-b = keeps-among q q' back (λ z i. more z (not-own z (in-b z i)))

    c' : Chained (queue_of q) (base_in mods) (front ++ record { stamp = e.stamp; node = Read p v u x args; steps = e.steps } ∷ back)
    c' = subst (λ (l : List Entry). Chained (queue_of q) (base_in mods) l) (was ∙ ap (λ x. front ++ x ∷ back) (entry-of e (Read p v u x args) is)) c

    go : (b : Bool) → is_in e.stamp q ≡ b → Chained (queue_of q') (base_in mods) (front ++ back)
    go true k = read-removed (queue_of q) (queue_of q') (base_in mods) front back e.stamp e.steps p v u x args keep-f keep-b
        (awake-behind front e back nodes was distinct mods p q' t (awake k)) c'
    go false k = read-cut (queue_of q) (queue_of q') (base_in mods) front back e.stamp e.steps p v u x args keep-f keep-b (is-queued e.stamp q false k) c'

-- what was recorded last before a read that was popped is the content there
popped-as : (front : List Entry) (e : Entry) (back nodes : List Entry) (p : Place) (v : Word) (u : UnitId) (x : ℕ) (args : List Word) → nodes ≡ front ++ e ∷ back → e.node ≡ Read p v u x args
    → (q : Queue) (base : Store) → Chained q base nodes → Chained q base (front ++ record { stamp = e.stamp; node = Read p v u x args; steps = e.steps } ∷ back)
popped-as front e back nodes p v u x args was is q base c =
    subst (λ (l : List Entry). Chained q base l) (was ∙ ap (λ x. front ++ x ∷ back) (entry-of e (Read p v u x args) is)) c

popped-held : (front : List Entry) (e : Entry) (back nodes : List Entry) (p : Place) (v : Word) (u : UnitId) (x : ℕ) (args : List Word) → nodes ≡ front ++ e ∷ back → e.node ≡ Read p v u x args
    → Distinct (stamps_in nodes)
    → (q : List ℕ) (base : Store) → ((r : ℕ) → is_in r q ≡ true → place e.stamp (stamps_in nodes) ≤ place r (stamps_in nodes))
    → Chained (and_one e.stamp q) base nodes → recorded_last base front p ≡ contents_after base front p
popped-held front e back nodes p v u x args was is distinct q base first c =
    front-held (and_one e.stamp q) base front (record { stamp = e.stamp; node = Read p v u x args; steps = e.steps } ∷ back)
    (λ z i. and-none e.stamp z q (apart z i) (none-in-front front e back nodes was distinct q first z i))
    (popped-as front e back nodes p v u x args was is (and_one e.stamp q) base c) p
  where
    apart : (z : ℕ) → is_in z (stamps_in front) ≡ true → z ≢ e.stamp
    apart z i k = absurd (let no : true ≡ false = sym i ∙ (ap (λ w. is_in w (stamps_in front)) k ∙ own-apart front e back (subst (λ (l : List Entry). Distinct (stamps_in l)) was distinct)) in cc)

-- a read that was popped gets the content of its moment
pub settled-chained : (front : List Entry) (e : Entry) (back nodes : List Entry) (p : Place) (v w : Word) (u : UnitId) (x : ℕ) (args : List Word) → nodes ≡ front ++ e ∷ back
    → e.node ≡ Read p v u x args → Distinct (stamps_in nodes)
    → (mods : Contents) → IsTabled nodes mods → (q q' : List ℕ) → ((t : ℕ) → is_in t q ≡ true → is_in t q' ≡ true) → IsAwake (stamps_in nodes) (cell_of mods p) e.stamp q'
    → ((r : ℕ) → is_in r q ≡ true → place e.stamp (stamps_in nodes) ≤ place r (stamps_in nodes))
    → contents_after (base_in mods) front p ≡ w → Chained (and_one e.stamp q) (base_in mods) nodes
    → Chained (queue_of q') (base_in mods) (front ++ record { stamp = e.stamp; node = Read p w u x args; steps = e.steps } ∷ back)
settled-chained front e back nodes p v w u x args was is distinct mods t q q' more awake first now c =
    read-settled (and_one e.stamp q) (queue_of q') (base_in mods) front back e.stamp e.steps e.steps p v w u x args
    (keeps-but e.stamp q q' front (own-apart front e back parted) more) (keeps-but e.stamp q q' back (own-behind front e back parted) more)
    (awake-behind front e back nodes was distinct mods p q' t awake)
    (popped-held front e back nodes p v u x args was is distinct q (base_in mods) first c ∙ now)
    (popped-as front e back nodes p v u x args was is (and_one e.stamp q) (base_in mods) c)
  where
    parted : Distinct (stamps_in (front ++ e ∷ back))
    parted = subst (λ (l : List Entry). Distinct (stamps_in l)) was distinct

-- or it has that
pub honest-chained : (front : List Entry) (e : Entry) (back nodes : List Entry) (p : Place) (v : Word) (u : UnitId) (x : ℕ) (args : List Word) → nodes ≡ front ++ e ∷ back
    → e.node ≡ Read p v u x args → Distinct (stamps_in nodes)
    → (q : List ℕ) (base : Store) → ((r : ℕ) → is_in r q ≡ true → place e.stamp (stamps_in nodes) ≤ place r (stamps_in nodes))
    → contents_after base front p ≡ v → Chained (and_one e.stamp q) base nodes → Chained (queue_of q) base nodes
honest-chained front e back nodes p v u x args was is distinct q base first same c =
    subst (λ (l : List Entry). Chained (queue_of q) base l) (sym (was ∙ ap (λ x. front ++ x ∷ back) (entry-of e (Read p v u x args) is)))
    (read-stays (and_one e.stamp q) (queue_of q) base front back e.stamp e.steps p v u x args
    (keeps-but e.stamp q q front (own-apart front e back parted) (λ t i. i)) (keeps-but e.stamp q q back (own-behind front e back parted) (λ t i. i))
    (popped-held front e back nodes p v u x args was is distinct q base first c ∙ same)
    (popped-as front e back nodes p v u x args was is (and_one e.stamp q) base c))
  where
    parted : Distinct (stamps_in (front ++ e ∷ back))
    parted = subst (λ (l : List Entry). Distinct (stamps_in l)) was distinct
