-- Each call that takes nodes out, and each look at a read, keeps the tables in step and the reads chained.
use Rattle.std.proofs.Common.{◌≡◌, ◌≢◌, ◌<◌, ◌≤◌, ℕ, inl, inr, ◌⊎◌, Bool, true, false, List, ◌∷◌, ◌++◌, refl, sym, ap, subst, ◌∙◌, arith, Option, Some, None}
use Rattle.std.proofs.lemmas.Bool.Decides.{eqb_tells}
use Rattle.std.specs.Prelude.{option_map}
use Rattle.ceal_base.specs.declared.forest.Key.{Key}
use Rattle.ceal_base.specs.declared.word.BlockId.{BlockId}
use Rattle.ceal_base.specs.declared.word.Place.{Place}
use Rattle.ceal_base.specs.declared.word.Word.{Word}
use Rattle.ceal_base.specs.Operators.{same_place}
use Rattle.ceal_code.proofs.Words.SameIsEqual.{some-same, place-same}
use Rattle.ceal_memo.specs.Memo.{Contents as Entered, HasNone, Holds, without_key, Follows as Memo_follows}
use Rattle.ceal_memo.proofs.Holding.{follows_deleted}
use Rattle.ceal_mods.specs.Cell.{without_write, without_read, value_before}
use Rattle.ceal_mods.specs.Mods.{Contents, cell_of, Changes, IsFree, Follows as Mods_follow}
use Rattle.ceal_mods.specs.Writes.{Write as WriteOf, stamps_of}
use Rattle.ceal_mods.specs.declared.cell.Cell.{Cell}
use Rattle.ceal_order.proofs.Places.{place_below, place_tells}
use Rattle.ceal_order.proofs.RisingLemmas.{rising_deleted, in_order}
use Rattle.ceal_order.specs.Stamps.{Distinct, is_in, place, OneMore}
use Rattle.ceal_order.specs.declared.stamp.Stamp.{Stamp}
use Rattle.ceal_queue.specs.Queue.{Waiting, IsWithout, Follows as Queue_follows}
use Rattle.ceal_repair.proofs.QueueCover.NodeChanges.{PartAt, part-at, part-without, node-has, are-reads, fewer-reads, no-read, cell-same, tabled-same, before-node, looked-up, chained-base}
use Rattle.ceal_repair.proofs.QueueCover.NodeChanges.{chained-more, chained-and, is-queued}
use Rattle.ceal_repair.proofs.Lists.PartedLists.{false-of}
use Rattle.ceal_repair.proofs.Lists.ListChanges.{own-gone}
use Rattle.ceal_repair.proofs.QueueCover.ChainChanges.{IsQuiet, quiet-cut, read-honest}
use Rattle.ceal_repair.proofs.TableCalls.CallsKeepCover.{there-before, behind-cut, alloc-quiet, end-quiet, tabled-with, write-cut-chained, read-cut-chained, settled-chained, honest-chained}
use Rattle.ceal_repair.proofs.TableCalls.CallsKeepCover.{none-in-front}
use Rattle.ceal_repair.proofs.Lists.ListsOfNodes.{alloc-no-write, end-no-write, other-place, write-listed, read-listed, tabled-out, tabled-cut-write, tabled-cut-read, free-of}
use Rattle.ceal_repair.proofs.Lists.KeyedNodes.{keyed-as, keyed-out, keyed-cut, none-of}
use Rattle.ceal_repair.proofs.TableCalls.PutKeepsTables.{tables}
use Rattle.ceal_repair.specs.Chain.{Chained}
use Rattle.ceal_repair.specs.Covered.{queue_of, and_one, contents_after}
use Rattle.ceal_repair.specs.Kept.{InStep, Kept, ChainedBy, AreReads, IsAwake, Records, IsHonestRecord, IsStale, base_in, contents_at}
use Rattle.ceal_repair.specs.Lists.{IsTabled, IsKeyed, key_of, entries_in, reads_at, write_of, writes_in, before}
use Rattle.ceal_repair.specs.declared.tables.Tables.{Tables}
use Rattle.ceal_trace.proofs.Parts.{changed-part}
use Rattle.ceal_trace.specs.Nodes.{Entry, Timeline, IsTrace, NoLooseEnd, OneMoreNode, stamps_in, has_node, node_at, is_read, end_in, without_entry, value_set, with_value, valued, SameBut, held_by}
use Rattle.ceal_trace.specs.declared.node.Node.{Node}
use Rattle.ceal_trace.specs.declared.node.Node.TheVariants.{Root, Alloc, Write, Read, End}

-- ---- along fewer stamps

pub mods-deleted : (s : ℕ) (mods : Contents) (old new : List ℕ) → Mods_follow old mods → OneMore s new old → IsFree s mods → Mods_follow new mods
mods-deleted s mods old new f more free = λ p. record {
  writes = rising_deleted s (stamps_of (cell_of mods p).writes) old new (f p).writes more (free p).0;
  reads = rising_deleted s (cell_of mods p).reads old new (f p).reads more (free p).1;
}

pub memo-deleted : (s : ℕ) (memo : Entered) (old new : List ℕ) → Memo_follows old memo → OneMore s new old → HasNone s memo → Memo_follows new memo
memo-deleted = follows_deleted

-- a node that is no read has no end
pub no-end : (s : ℕ) (n : Node) (t : Timeline) → IsTrace t → node_at s t.nodes ≡ Some n → is_read (Some n) ≡ false → end_in s t.nodes ≡ None
no-end s n t w h plain = go (end_in s t.nodes) refl
  where
    go : (o : Option ℕ) → end_in s t.nodes ≡ o → o ≡ None
    go None e = refl
    go (Some u) e = absurd (let r : is_read (node_at s t.nodes) ≡ true = w.of_read u s e (node-has s n t.nodes h) in let no : false ≡ true = sym plain ∙ (rw h at r) in cc)

-- what is there is in the lists
pub write-there : (old : Tables) → InStep old → (s : ℕ) (p : Place) (v : Word) → node_at s old.trace.nodes ≡ Some (Write p v) → is_in s (stamps_of (cell_of old.mods p).writes) ≡ true
write-there old k s p v h =
    let c = part-at s (Write p v) old.trace.nodes h in
    subst (λ z. is_in z (stamps_of (cell_of old.mods p).writes) ≡ true) c.stamp (write-listed c.front c.e c.back p v c.node old.mods (subst (λ (l : List Entry). IsTabled l old.mods) c.was k.tabled))

pub read-there : (old : Tables) → InStep old → (s : ℕ) (p : Place) (v : Word) → Records p v (node_at s old.trace.nodes) → is_in s (cell_of old.mods p).reads ≡ true
read-there old k s p v r =
    let c = part-at s (Read p v r.unit r.var r.args) old.trace.nodes r.is in
    subst (λ z. is_in z (cell_of old.mods p).reads ≡ true) c.stamp
    (read-listed c.front c.e c.back p v r.unit r.var r.args c.node old.mods (subst (λ (l : List Entry). IsTabled l old.mods) c.was k.tabled))

pub by-queue : {X : Type 0} (r : ℕ) (q : List ℕ) → (is_in r q ≡ true → X) → (is_in r q ≡ false → X) → X
by-queue {X} r q f g = go (is_in r q) refl
  where
    go : (b : Bool) → is_in r q ≡ b → X
    go true e = f e
    go false e = g e

-- where one is not queued and none before it, what is queued is after it
pub behind-own : (order q : List ℕ) (s : ℕ) → Rattle.ceal_order.specs.Rising.IsRising order q → is_in s order ≡ true → is_in s q ≡ false → ((r : ℕ) → is_in r q ≡ true → place s order ≤ place r order)
    → (r : ℕ) → is_in r q ≡ true → place s order < place r order
behind-own order q s rises here none first r i =
    let ne : place r order ≢ place s order = λ e. absurd (let no : true ≡ false = sym i ∙ (ap (λ z. is_in z q) (place_tells r s order (in_order r q order rises i) here e) ∙ none) in cc) in
    omega (arith, first r i, ne)

-- what is left of a queue is not before what all of it is not
pub still-first : (order q m : List ℕ) (s : ℕ) → IsWithout s q m → ((r : ℕ) → is_in r q ≡ true → place s order ≤ place r order) → (r : ℕ) → is_in r m ≡ true → place s order ≤ place r order
still-first order q m s out first r i = elim (eqb_tells r s) [
  | inl p ↦ rw p.1 (omega arith)
  | inr p ↦ first r (sym (out.others r p.1) ∙ i)
]

-- the moment of a node is after those before it
pub moment : (s : ℕ) (n : Node) (t : Tables) (c : PartAt s n t.trace.nodes) → (p : Place) → contents_at s t p ≡ contents_after (base_in t.mods) c.front p
moment s n t c p =
    ap (λ (l : List Entry). contents_after (base_in t.mods) l p) (subst (λ z. before z t.trace.nodes ≡ c.front) c.stamp (ap (before c.e.stamp) c.was ∙ before-node c.e c.back c.front c.apart))

-- ---- one node is taken out

module _ (old : Tables) (k : Kept old) (s : ℕ) (n : Node) (at_it : node_at s old.trace.nodes ≡ Some n) (tr : Timeline) (is : tr.nodes ≡ without_entry s old.trace.nodes)
    (more : OneMoreNode s tr.nodes old.trace.nodes) (whole : IsTrace tr) (closed : NoLooseEnd tr.nodes) where
  pub cutting : PartAt s n old.trace.nodes
  cutting = part-at s n old.trace.nodes at_it

  pub left : tr.nodes ≡ cutting.front ++ cutting.back
  left = is ∙ part-without s n old.trace.nodes cutting

  parted : Distinct (stamps_in (cutting.front ++ cutting.e ∷ cutting.back))
  parted = subst (λ (l : List Entry). Distinct (stamps_in l)) cutting.was k.step.whole.order.distinct

  pub gone : has_node s tr.nodes ≡ false
  gone = subst (λ z. has_node z tr.nodes ≡ false) cutting.stamp (subst (λ (l : List Entry). has_node cutting.e.stamp l ≡ false) (sym left) (own-gone cutting.front cutting.e cutting.back parted))

  tabled-old : (mods : Contents) → IsTabled old.trace.nodes mods → IsTabled (cutting.front ++ cutting.e ∷ cutting.back) mods
  tabled-old mods t = subst (λ (l : List Entry). IsTabled l mods) cutting.was t

  unqueued : is_read (Some n) ≡ false → is_in s old.stale.stamps ≡ false
  unqueued plain = no-read s old.trace.nodes old.stale.stamps k.step.queued (ap is_read at_it ∙ plain)

  -- an allocation
  pub alloc-cut-kept : (b : BlockId) (key : Key) → n ≡ Alloc b key → (memo : Entered) → Holds memo (without_key s (entries_in old.trace.nodes))
      → HasNone s memo → Memo_follows (stamps_in old.trace.nodes) memo → Kept (tables tr old.mods old.stale memo)
  alloc-cut-kept b key e memo entries none ef = record {
    step = record {
      whole = whole;
      closed = closed;
      tabled = tabled;
      keyed = keyed-cut s old.trace.nodes tr.nodes is gone memo entries;
      queued = fewer-reads s old.trace.nodes tr.nodes old.stale.stamps more.stamps more.entries (unqueued plain) k.step.queued;
      mods = mods-deleted s old.mods (stamps_in old.trace.nodes) (stamps_in tr.nodes) k.step.mods more.stamps (free-of s tr.nodes old.mods tabled gone);
      memo = memo-deleted s memo (stamps_in old.trace.nodes) (stamps_in tr.nodes) ef more.stamps none;
      stale = rising_deleted s old.stale.stamps (stamps_in old.trace.nodes) (stamps_in tr.nodes) k.step.stale more.stamps (unqueued plain);
    };
    chained = subst (λ (l : List Entry). Chained (queue_of old.stale.stamps) (base_in old.mods) l) (sym left)
        (quiet-cut (queue_of old.stale.stamps) (base_in old.mods) cutting.front cutting.e cutting.back (quiet-as cutting.e.node (cutting.node ∙ e))
        (subst (λ (l : List Entry). Chained (queue_of old.stale.stamps) (base_in old.mods) l) cutting.was k.chained));
  }
    where
      plain : is_read (Some n) ≡ false
      plain = rw e refl

      quiet-as : (i : Node) → i ≡ Alloc b key → IsQuiet i
      quiet-as i h = rw h (alloc-quiet b key)

      no-alloc-read : (p : Place) (i : Node) → i ≡ Alloc b key → reads_at p i ≡ false
      no-alloc-read p i h = rw h refl

      tabled : IsTabled tr.nodes old.mods
      tabled = subst (λ (l : List Entry). IsTabled l old.mods) (sym left) (tabled-out cutting.front cutting.e cutting.back old.mods (λ p. no-alloc-read p cutting.e.node (cutting.node ∙ e))
          (λ p. alloc-no-write p cutting.e.stamp cutting.e.node (writes_in p cutting.back) b key (cutting.node ∙ e)) (tabled-old old.mods k.step.tabled))

  -- a write, with what that affects woken
  module _ (p : Place) (v : Word) (e : n ≡ Write p v) (mods : Contents) (change : Changes old.mods mods p (without_write s (cell_of old.mods p))) where
    pub write-cut-tabled : IsTabled tr.nodes mods
    write-cut-tabled =
        subst (λ (l : List Entry). IsTabled l mods) (sym left) (tabled-cut-write cutting.front cutting.e cutting.back parted p v (cutting.node ∙ e) old.mods mods (tabled-old old.mods k.step.tabled)
        (subst (λ z. Changes old.mods mods p (without_write z (cell_of old.mods p))) (sym cutting.stamp) change))

    pub write-cut-free : IsFree s mods
    write-cut-free = free-of s tr.nodes mods write-cut-tabled gone

    pub write-cut-bases : (q : Place) → base_in mods q ≡ base_in old.mods q
    write-cut-bases q = go (same_place q p) refl
      where
        go : (b : Bool) → same_place q p ≡ b → (cell_of mods q).base ≡ (cell_of old.mods q).base
        go true e = rw (place-same q p e) (ap (λ (c : Cell). c.base) change.here)
        go false e = ap (λ (c : Cell). c.base) (change.others q (other-place q p e))

    pub write-cut-behind : (stale : Waiting) → Queue_follows (stamps_in old.trace.nodes) stale
        → ((t : ℕ) → is_in t old.stale.stamps ≡ false → is_in t stale.stamps ≡ true → place s (stamps_in old.trace.nodes) < place t (stamps_in old.trace.nodes))
        → (z : ℕ) → place z (stamps_in old.trace.nodes) < place s (stamps_in old.trace.nodes)
        → ((r : ℕ) → is_in r old.stale.stamps ≡ true → place z (stamps_in old.trace.nodes) < place r (stamps_in old.trace.nodes))
        → (r : ℕ) → is_in r stale.stamps ≡ true → place z (stamps_in tr.nodes) < place r (stamps_in tr.nodes)
    write-cut-behind stale qf ahead z lt late r i =
        let here = node-has s n old.trace.nodes at_it in
        let inside = in_order r stale.stamps (stamps_in old.trace.nodes) qf i in
        let z-in = there-before z (stamps_in old.trace.nodes) (let b = place_below s (stamps_in old.trace.nodes) here in omega (arith, lt, b)) in
        let z-not : z ≢ s = λ w. absurd (let no : place s (stamps_in old.trace.nodes) < place s (stamps_in old.trace.nodes) =
        subst (λ y. place y (stamps_in old.trace.nodes) < place s (stamps_in old.trace.nodes)) w lt in omega (arith, no)) in
        by-queue r old.stale.stamps
        (λ j. behind-cut s (stamps_in tr.nodes) (stamps_in old.trace.nodes) more.stamps z r z-in inside z-not
        (λ w. absurd (let no : true ≡ false = sym j ∙ (ap (λ y. is_in y old.stale.stamps) w ∙ unqueued (rw e refl)) in cc)) (late r j))
        (λ j. behind-cut s (stamps_in tr.nodes) (stamps_in old.trace.nodes) more.stamps z r z-in inside z-not
        (λ w. absurd (let no : place s (stamps_in old.trace.nodes) < place s (stamps_in old.trace.nodes) =
        subst (λ y. place s (stamps_in old.trace.nodes) < place y (stamps_in old.trace.nodes)) w (ahead r j i) in omega (arith, no)))
        (let a = ahead r j i in omega (arith, a, lt)))

    pub write-cut-kept : (stale : Waiting) → ((t : ℕ) → is_in t old.stale.stamps ≡ true → is_in t stale.stamps ≡ true)
        → ((t : ℕ) → is_in t old.stale.stamps ≡ false → is_in t stale.stamps ≡ true → is_in t (cell_of mods p).reads ≡ true)
        → ((r : ℕ) → is_in r old.stale.stamps ≡ true → place s (stamps_in old.trace.nodes) ≤ place r (stamps_in old.trace.nodes))
        → (v ≡ contents_at s old p) ⊎ IsAwake (stamps_in old.trace.nodes) (cell_of mods p) s stale.stamps
        → Mods_follow (stamps_in old.trace.nodes) mods → Queue_follows (stamps_in old.trace.nodes) stale → Kept (tables tr mods stale old.memo)
    write-cut-kept stale keep only first awake mf qf = record {
      step = record {
        whole = whole;
        closed = closed;
        tabled = write-cut-tabled;
        keyed = keyed;
        queued = are-reads p tr.nodes mods old.stale.stamps stale.stamps whole.order.distinct write-cut-tabled
            (fewer-reads s old.trace.nodes tr.nodes old.stale.stamps more.stamps more.entries none k.step.queued) only;
        mods = mods-deleted s mods (stamps_in old.trace.nodes) (stamps_in tr.nodes) mf more.stamps write-cut-free;
        memo = memo-deleted s old.memo (stamps_in old.trace.nodes) (stamps_in tr.nodes) k.step.memo more.stamps (none-of s tr.nodes old.memo keyed gone);
        stale = rising_deleted s stale.stamps (stamps_in old.trace.nodes) (stamps_in tr.nodes) qf more.stamps now-none;
      };
      chained = subst (λ (l : List Entry). Chained (queue_of stale.stamps) (base_in mods) l) (sym left)
          (write-cut-chained cutting.front cutting.e cutting.back old.trace.nodes p v cutting.was (cutting.node ∙ e) k.step.whole.order.distinct old.mods mods write-cut-bases
          (subst (λ (l : List Entry). IsTabled l mods) left write-cut-tabled) old.stale.stamps stale.stamps keep
          (subst (λ z. (r : ℕ) → is_in r old.stale.stamps ≡ true → place z (stamps_in old.trace.nodes) ≤ place r (stamps_in old.trace.nodes)) (sym cutting.stamp) first)
          (told awake) k.chained);
    }
      where
        told : (v ≡ contents_at s old p) ⊎ IsAwake (stamps_in old.trace.nodes) (cell_of mods p) s stale.stamps
            → (contents_after (base_in old.mods) cutting.front p ≡ v) ⊎ IsAwake (stamps_in old.trace.nodes) (cell_of mods p) cutting.e.stamp stale.stamps
        told (inl same) = inl (sym (same ∙ moment s n old cutting p))
        told (inr woken) = inr (subst (λ z. IsAwake (stamps_in old.trace.nodes) (cell_of mods p) z stale.stamps) (sym cutting.stamp) woken)

        none : is_in s old.stale.stamps ≡ false
        none = unqueued (rw e refl)

        keyed : IsKeyed tr.nodes old.memo
        keyed = keyed-out s old.trace.nodes tr.nodes is gone n at_it (rw e refl) old.memo k.step.keyed

        now-none : is_in s stale.stamps ≡ false
        now-none = false-of (is_in s stale.stamps) (λ i. sym (only s none i) ∙ (write-cut-free p).1)

-- ---- a read and its end

abbrev pub stamp-of : ℕ → Stamp
stamp-of s = record { 0 = s }

end-no-read : (p : Place) (y : Stamp) (i : Node) → i ≡ End y → reads_at p i ≡ false
end-no-read p y i h = rw h refl

end-as : (y : Stamp) (i : Node) → i ≡ End y → IsQuiet i
end-as y i h = rw h (end-quiet y)

abbrev tells : Node → Bool
tells (Read q w u x args) = true
tells (End y) = false
tells Root = false
tells (Alloc b j) = false
tells (Write q w) = false

module _ (old : Tables) (k : Kept old) (s z : ℕ) (p : Place) (v : Word) (r : Records p v (node_at s old.trace.nodes)) (fin : end_in s old.trace.nodes ≡ Some z)
    (one two : Timeline) (is1 : one.nodes ≡ without_entry s old.trace.nodes) (more1 : OneMoreNode s one.nodes old.trace.nodes) (is2 : two.nodes ≡ without_entry z one.nodes)
    (more2 : OneMoreNode z two.nodes one.nodes)
    (whole1 : IsTrace one) (mods : Contents) (change : Changes old.mods mods p (without_read s (cell_of old.mods p)))
    (memo : Entered) (entered : Holds memo (without_key s (entries_in old.trace.nodes))) where
  read-part : PartAt s (Read p v r.unit r.var r.args) old.trace.nodes
  read-part = part-at s (Read p v r.unit r.var r.args) old.trace.nodes r.is

  left1 : one.nodes ≡ read-part.front ++ read-part.back
  left1 = is1 ∙ part-without s (Read p v r.unit r.var r.args) old.trace.nodes read-part

  parted1 : Distinct (stamps_in (read-part.front ++ read-part.e ∷ read-part.back))
  parted1 = subst (λ (l : List Entry). Distinct (stamps_in l)) read-part.was k.step.whole.order.distinct

  gone1 : has_node s one.nodes ≡ false
  gone1 = subst (λ z. has_node z one.nodes ≡ false) read-part.stamp
      (subst (λ (l : List Entry). has_node read-part.e.stamp l ≡ false) (sym left1) (own-gone read-part.front read-part.e read-part.back parted1))

  pub end-was : node_at z old.trace.nodes ≡ Some (End (stamp-of s))
  end-was = k.step.whole.end_node z s fin

  pub end-apart : z ≢ s
  end-apart e = absurd (let no : false ≡ true = ap tells (some-same (End (stamp-of s)) (Read p v r.unit r.var r.args) (sym end-was ∙ (ap (λ y. node_at y old.trace.nodes) e ∙ r.is))) in cc)

  pub end-there : has_node z one.nodes ≡ true
  end-there = more1.stamps.only z (node-has z (End (stamp-of s)) old.trace.nodes end-was) end-apart

  pub end-is : node_at z one.nodes ≡ Some (End (stamp-of s))
  end-is = ap held_by (sym (more1.entries z end-there)) ∙ end-was

  end-part : PartAt z (End (stamp-of s)) one.nodes
  end-part = part-at z (End (stamp-of s)) one.nodes end-is

  left2 : two.nodes ≡ end-part.front ++ end-part.back
  left2 = is2 ∙ part-without z (End (stamp-of s)) one.nodes end-part

  parted2 : Distinct (stamps_in (end-part.front ++ end-part.e ∷ end-part.back))
  parted2 = subst (λ (l : List Entry). Distinct (stamps_in l)) end-part.was whole1.order.distinct

  gone2 : has_node z two.nodes ≡ false
  gone2 = subst (λ y. has_node y two.nodes ≡ false) end-part.stamp
      (subst (λ (l : List Entry). has_node end-part.e.stamp l ≡ false) (sym left2) (own-gone end-part.front end-part.e end-part.back parted2))

  tabled1 : IsTabled one.nodes mods
  tabled1 = subst (λ (l : List Entry). IsTabled l mods) (sym left1) (tabled-cut-read read-part.front read-part.e read-part.back parted1 p v r.unit r.var r.args read-part.node old.mods mods
      (subst (λ (l : List Entry). IsTabled l old.mods) read-part.was k.step.tabled) (subst (λ y. Changes old.mods mods p (without_read y (cell_of old.mods p))) (sym read-part.stamp) change))

  keyed1 : IsKeyed one.nodes memo
  keyed1 = keyed-cut s old.trace.nodes one.nodes is1 gone1 memo entered

  tabled2 : IsTabled two.nodes mods
  tabled2 = subst (λ (l : List Entry). IsTabled l mods) (sym left2) (tabled-out end-part.front end-part.e end-part.back mods (λ q. end-no-read q (stamp-of s) end-part.e.node end-part.node)
      (λ q. end-no-write q end-part.e.stamp end-part.e.node (writes_in q end-part.back) (stamp-of s) end-part.node) (subst (λ (l : List Entry). IsTabled l mods) end-part.was tabled1))

  keyed2 : IsKeyed two.nodes memo
  keyed2 = keyed-out z one.nodes two.nodes is2 gone2 (End (stamp-of s)) end-is refl memo keyed1

  pub read-cut-bases : (q : Place) → base_in mods q ≡ base_in old.mods q
  read-cut-bases q = go (same_place q p) refl
    where
      go : (b : Bool) → same_place q p ≡ b → (cell_of mods q).base ≡ (cell_of old.mods q).base
      go true e = rw (place-same q p e) (ap (λ (c : Cell). c.base) change.here)
      go false e = ap (λ (c : Cell). c.base) (change.others q (other-place q p e))

  module _ (stale : Waiting) (none : is_in s stale.stamps ≡ false) (keep : (t : ℕ) → t ≢ s → is_in t old.stale.stamps ≡ true → is_in t stale.stamps ≡ true)
      (only : (t : ℕ) → is_in t old.stale.stamps ≡ false → is_in t stale.stamps ≡ true → is_in t (cell_of old.mods p).reads ≡ true) where
    reads-old : AreReads old.trace.nodes stale.stamps
    reads-old = are-reads p old.trace.nodes old.mods old.stale.stamps stale.stamps k.step.whole.order.distinct k.step.tabled k.step.queued only

    reads1 : AreReads one.nodes stale.stamps
    reads1 = fewer-reads s old.trace.nodes one.nodes stale.stamps more1.stamps more1.entries none reads-old

    pub end-none : is_in z stale.stamps ≡ false
    end-none = no-read z old.trace.nodes stale.stamps reads-old (ap is_read end-was)

    reads2 : AreReads two.nodes stale.stamps
    reads2 = fewer-reads z one.nodes two.nodes stale.stamps more2.stamps more2.entries end-none reads1

    pub read-cut-behind : place s (stamps_in old.trace.nodes) < place z (stamps_in old.trace.nodes) → Queue_follows (stamps_in old.trace.nodes) stale
        → ((r : ℕ) → is_in r stale.stamps ≡ true → place s (stamps_in old.trace.nodes) < place r (stamps_in old.trace.nodes))
        → (y : ℕ) → place y (stamps_in old.trace.nodes) < place s (stamps_in old.trace.nodes) → (r : ℕ) → is_in r stale.stamps ≡ true → place y (stamps_in two.nodes) < place r (stamps_in two.nodes)
    read-cut-behind far qf ahead y lt r i =
        let z-here = node-has z (End (stamp-of s)) old.trace.nodes end-was in
        let inside = in_order r stale.stamps (stamps_in old.trace.nodes) qf i in
        let y-in = there-before y (stamps_in old.trace.nodes) (let b = place_below z (stamps_in old.trace.nodes) z-here in omega (arith, lt, b, far)) in
        let y-s : y ≢ s = λ w. absurd (let no : place s (stamps_in old.trace.nodes) < place s (stamps_in old.trace.nodes) =
        subst (λ x. place x (stamps_in old.trace.nodes) < place s (stamps_in old.trace.nodes)) w lt in omega (arith, no)) in
        let y-z : y ≢ z = λ w. absurd (let no : place z (stamps_in old.trace.nodes) < place s (stamps_in old.trace.nodes) =
        subst (λ x. place x (stamps_in old.trace.nodes) < place s (stamps_in old.trace.nodes)) w lt in omega (arith, no, far)) in
        let r-s : r ≢ s = λ w. absurd (let no : true ≡ false = sym i ∙ (ap (λ x. is_in x stale.stamps) w ∙ none) in cc) in
        let r-z : r ≢ z = λ w. absurd (let no : true ≡ false = sym i ∙ (ap (λ x. is_in x stale.stamps) w ∙ end-none) in cc) in
        let a = ahead r i in
        behind-cut z (stamps_in two.nodes) (stamps_in one.nodes) more2.stamps y r (more1.stamps.only y y-in y-s) (more1.stamps.only r inside r-s) y-z r-z
        (behind-cut s (stamps_in one.nodes) (stamps_in old.trace.nodes) more1.stamps y r y-in inside y-s r-s (omega (arith, a, lt)))

    pub read-cut-kept : (is_in s old.stale.stamps ≡ true → IsAwake (stamps_in old.trace.nodes) (cell_of old.mods p) s stale.stamps) → IsTrace two → NoLooseEnd two.nodes
        → Mods_follow (stamps_in old.trace.nodes) mods → HasNone s memo → Memo_follows (stamps_in old.trace.nodes) memo → Queue_follows (stamps_in old.trace.nodes) stale
        → Kept (tables two mods stale memo)
    read-cut-kept awake whole closed mf none-s ef qf = record {
      step = record {
        whole = whole;
        closed = closed;
        tabled = tabled2;
        keyed = keyed2;
        queued = reads2;
        mods = mods-deleted z mods (stamps_in one.nodes) (stamps_in two.nodes)
            (mods-deleted s mods (stamps_in old.trace.nodes) (stamps_in one.nodes) mf more1.stamps (free-of s one.nodes mods tabled1 gone1)) more2.stamps (free-of z two.nodes mods tabled2 gone2);
        memo = memo-deleted z memo (stamps_in one.nodes) (stamps_in two.nodes)
            (memo-deleted s memo (stamps_in old.trace.nodes) (stamps_in one.nodes) ef more1.stamps none-s) more2.stamps (none-of z two.nodes memo keyed2 gone2);
        stale = rising_deleted z stale.stamps (stamps_in one.nodes) (stamps_in two.nodes)
            (rising_deleted s stale.stamps (stamps_in old.trace.nodes) (stamps_in one.nodes) qf more1.stamps none) more2.stamps end-none;
      };
      chained = chained-base (queue_of stale.stamps) (base_in old.mods) (base_in mods) two.nodes (λ q. sym (read-cut-bases q))
          (subst (λ (l : List Entry). Chained (queue_of stale.stamps) (base_in old.mods) l) (sym left2)
          (quiet-cut (queue_of stale.stamps) (base_in old.mods) end-part.front end-part.e end-part.back (end-as (stamp-of s) end-part.e.node end-part.node)
          (subst (λ (l : List Entry). Chained (queue_of stale.stamps) (base_in old.mods) l) (sym left1 ∙ end-part.was)
          (read-cut-chained read-part.front read-part.e read-part.back old.trace.nodes p v r.unit r.var r.args read-part.was read-part.node k.step.whole.order.distinct old.mods k.step.tabled
          old.stale.stamps stale.stamps
          (λ t ne. keep t (λ e. ne (e ∙ sym read-part.stamp)))
          (λ i. subst (λ y. IsAwake (stamps_in old.trace.nodes) (cell_of old.mods p) y stale.stamps) (sym read-part.stamp)
          (awake (subst (λ y. is_in y old.stale.stamps ≡ true) read-part.stamp i))) k.chained))));
    }

-- ---- a read is looked at

-- lists of the same cells follow the same order
pub follows-same : (order : List ℕ) (a b : Contents) → b.cells ≡ a.cells → Mods_follow order a → Mods_follow order b
follows-same order a b cells f = λ q. subst (λ (c : Cell). Rattle.ceal_mods.specs.Cell.Rises order c) (sym (cell-same q b a cells)) (f q)

records-same : (p q : Place) (v w : Word) (n : Option Node) → Records p v n → Records q w n → (p ≡ q) × (v ≡ w)
records-same p q v w n a b = same (some-same (Read p v a.unit a.var a.args) (Read q w b.unit b.var b.args) (sym a.is ∙ b.is))
  where
    same : Read p v a.unit a.var a.args ≡ Read q w b.unit b.var b.args → (p ≡ q) × (v ≡ w)
    same e = (grind (arith, e), grind (arith, e))

module _ (old : Tables) (k : InStep old) (s : ℕ) (p : Place) (v now : Word) (r : Records p v (node_at s old.trace.nodes))
    (found : now ≡ value_before (stamps_in old.trace.nodes) s (cell_of old.mods p)) where
  pub look-part : PartAt s (Read p v r.unit r.var r.args) old.trace.nodes
  look-part = part-at s (Read p v r.unit r.var r.args) old.trace.nodes r.is

  pub now-front : contents_after (base_in old.mods) look-part.front p ≡ now
  now-front = sym (looked-up s look-part.front look-part.e look-part.back old.trace.nodes old.mods p look-part.was look-part.stamp k.whole.order.distinct k.tabled) ∙ sym found

  pub now-is : now ≡ contents_at s old p
  now-is = sym (moment s (Read p v r.unit r.var r.args) old look-part p ∙ now-front)

  pub honest-read : v ≡ now → IsHonestRecord s old
  honest-read same q w other =
      let e = records-same p q v w (node_at s old.trace.nodes) r other in
      sym e.1 ∙ (same ∙ (now-is ∙ ap (contents_at s old) e.0))

  pub stale-read : v ≢ now → IsStale s old
  stale-read differ = record { place = p; value = v; read = r; differs = λ e. differ (e ∙ sym now-is) }

  module _ (chained : ChainedBy (and_one s old.stale.stamps) old) (first : (r : ℕ) → is_in r old.stale.stamps ≡ true → place s (stamps_in old.trace.nodes) ≤ place r (stamps_in old.trace.nodes))
      (mods : Contents) (cells : mods.cells ≡ old.mods.cells) where
    bases : (q : Place) → base_in old.mods q ≡ base_in mods q
    bases q = ap (λ (c : Cell). c.base) (sym (cell-same q mods old.mods cells))

    mods-now : Mods_follow (stamps_in old.trace.nodes) mods
    mods-now = follows-same (stamps_in old.trace.nodes) old.mods mods cells k.mods

    own-chained : ChainedBy (and_one look-part.e.stamp old.stale.stamps) old
    own-chained = subst (λ z. ChainedBy (and_one z old.stale.stamps) old) (sym look-part.stamp) chained

    own-first : (r : ℕ) → is_in r old.stale.stamps ≡ true → place look-part.e.stamp (stamps_in old.trace.nodes) ≤ place r (stamps_in old.trace.nodes)
    own-first = subst (λ z. (r : ℕ) → is_in r old.stale.stamps ≡ true → place z (stamps_in old.trace.nodes) ≤ place r (stamps_in old.trace.nodes)) (sym look-part.stamp) first

    -- it has the content of its moment
    pub honest-kept : v ≡ now → Kept (tables old.trace mods old.stale old.memo)
    honest-kept same = record {
      step = record {
        whole = k.whole;
        closed = k.closed;
        tabled = tabled-same old.trace.nodes old.mods mods (sym cells) k.tabled;
        keyed = k.keyed;
        queued = k.queued;
        mods = mods-now;
        memo = k.memo;
        stale = k.stale;
      };
      chained = chained-base (queue_of old.stale.stamps) (base_in old.mods) (base_in mods) old.trace.nodes bases
          (honest-chained look-part.front look-part.e look-part.back old.trace.nodes p v r.unit r.var r.args look-part.was look-part.node k.whole.order.distinct old.stale.stamps
          (base_in old.mods) own-first (now-front ∙ sym same) own-chained);
    }

    -- or gets it
    pub settled-kept : (stale : Waiting) → ((t : ℕ) → is_in t old.stale.stamps ≡ true → is_in t stale.stamps ≡ true)
        → ((t : ℕ) → is_in t old.stale.stamps ≡ false → is_in t stale.stamps ≡ true → is_in t (cell_of old.mods p).reads ≡ true)
        → IsAwake (stamps_in old.trace.nodes) (cell_of old.mods p) s stale.stamps → Queue_follows (stamps_in old.trace.nodes) stale
        → (tr : Timeline) → tr.nodes ≡ with_value s now old.trace.nodes → node_at s tr.nodes ≡ option_map (valued now) (node_at s old.trace.nodes) → SameBut s old.trace.nodes tr.nodes → IsTrace tr
        → NoLooseEnd tr.nodes
        → Kept (tables tr mods stale old.memo)
    settled-kept stale more only awake qf tr is at_s others whole closed = record {
      step = record {
        whole = whole;
        closed = closed;
        tabled = subst (λ (l : List Entry). IsTabled l mods) (sym there) (tabled-with look-part.front look-part.e new look-part.back refl mods (λ q. reads-as q look-part.e.node look-part.node)
            (λ q. writes-as q look-part.e.stamp (writes_in q look-part.back) look-part.e.node look-part.node)
            (subst (λ (l : List Entry). IsTabled l mods) look-part.was (tabled-same old.trace.nodes old.mods mods (sym cells) k.tabled)));
        keyed = keyed-as old.trace.nodes tr.nodes old.memo key-still k.keyed;
        queued = λ z i. read-still z (queued z i);
        mods = subst (λ (l : List ℕ). Mods_follow l mods) (sym others.stamps) mods-now;
        memo = subst (λ (l : List ℕ). Memo_follows l old.memo) (sym others.stamps) k.memo;
        stale = subst (λ (l : List ℕ). Queue_follows l stale) (sym others.stamps) qf;
      };
      chained = subst (λ (l : List Entry). Chained (queue_of stale.stamps) (base_in mods) l) (sym there) settled;
    }
      where
        new : Entry
        new = record { stamp = look-part.e.stamp; node = Read p now r.unit r.var r.args; steps = look-part.e.steps }

        queued : AreReads old.trace.nodes stale.stamps
        queued = are-reads p old.trace.nodes old.mods old.stale.stamps stale.stamps k.whole.order.distinct k.tabled k.queued only

        settled : Chained (queue_of stale.stamps) (base_in mods)
            (look-part.front ++ record { stamp = look-part.e.stamp; node = Read p now r.unit r.var r.args; steps = look-part.e.steps } ∷ look-part.back)
        settled = chained-base (queue_of stale.stamps) (base_in old.mods) (base_in mods)
            (look-part.front ++ record { stamp = look-part.e.stamp; node = Read p now r.unit r.var r.args; steps = look-part.e.steps } ∷ look-part.back) bases
            (settled-chained look-part.front look-part.e look-part.back old.trace.nodes p v now r.unit r.var r.args look-part.was look-part.node k.whole.order.distinct old.mods k.tabled
            old.stale.stamps stale.stamps more
            (subst (λ z. IsAwake (stamps_in old.trace.nodes) (cell_of old.mods p) z stale.stamps) (sym look-part.stamp) awake) own-first now-front own-chained)

        reads-as : (q : Place) (i : Node) → i ≡ Read p v r.unit r.var r.args → reads_at q (Read p now r.unit r.var r.args) ≡ reads_at q i
        reads-as q i h = rw h refl

        writes-as : (q : Place) (st : ℕ) (l : List WriteOf) (i : Node) → i ≡ Read p v r.unit r.var r.args → write_of q st (Read p now r.unit r.var r.args) l ≡ write_of q st i l
        writes-as q st l i h = rw h refl

        key-still : (z : ℕ) → entries_in tr.nodes z ≡ entries_in old.trace.nodes z
        key-still z = elim (eqb_tells z s) [
          | inl q ↦ rw (q.1, at_s, r.is) refl
          | inr q ↦ ap (λ (o : Option Entry). key_of (held_by o)) (others.entries z q.1)
        ]

        set-own : (e : Entry) → e.node ≡ Read p v r.unit r.var r.args → value_set now e ≡ record { stamp = e.stamp; node = Read p now r.unit r.var r.args; steps = e.steps }
        set-own e h = rw h refl

        there : tr.nodes ≡ look-part.front ++ new ∷ look-part.back
        there = is ∙ (subst (λ z. with_value z now old.trace.nodes ≡ look-part.front ++ value_set now look-part.e ∷ look-part.back) look-part.stamp
            (ap (λ (l : List Entry). with_value look-part.e.stamp now l) look-part.was ∙ changed-part look-part.e look-part.back (value_set now) look-part.front look-part.apart)
            ∙ ap (λ x. look-part.front ++ x ∷ look-part.back) (set-own look-part.e look-part.node))

        read-still : (z : ℕ) → is_read (node_at z old.trace.nodes) ≡ true → is_read (node_at z tr.nodes) ≡ true
        read-still z i = elim (eqb_tells z s) [
          | inl q ↦ rw (q.1, at_s, r.is) refl
          | inr q ↦ ap is_read (ap held_by (others.entries z q.1)) ∙ i
        ]

-- one that is not queued, and none before it, has the content of its moment
pub unqueued-honest : (t : Tables) → Kept t → (s : ℕ) → is_in s t.stale.stamps ≡ false
    → ((r : ℕ) → is_in r t.stale.stamps ≡ true → place s (stamps_in t.trace.nodes) ≤ place r (stamps_in t.trace.nodes)) → IsHonestRecord s t
unqueued-honest t k s none first p v r =
    sym (moment s (Read p v r.unit r.var r.args) t at p
    ∙ read-honest (queue_of t.stale.stamps) (base_in t.mods) at.front at.e.stamp at.e.steps p v r.unit r.var r.args at.back none-front
    (is-queued at.e.stamp t.stale.stamps false (ap (λ z. is_in z t.stale.stamps) at.stamp ∙ none))
    (subst (λ (l : List Entry). Chained (queue_of t.stale.stamps) (base_in t.mods) l) (at.was ∙ ap (λ x. at.front ++ x ∷ at.back) (own at.e at.node)) k.chained))
  where
    at : PartAt s (Read p v r.unit r.var r.args) t.trace.nodes
    at = part-at s (Read p v r.unit r.var r.args) t.trace.nodes r.is

    own : (e : Entry) → e.node ≡ Read p v r.unit r.var r.args → e ≡ record { stamp = e.stamp; node = Read p v r.unit r.var r.args; steps = e.steps }
    own e is = rw is refl

    none-front : (z : ℕ) → is_in z (stamps_in at.front) ≡ true → queue_of t.stale.stamps z ≡ false
    none-front z i = is-queued z t.stale.stamps false (none-in-front at.front at.e at.back t.trace.nodes at.was k.step.whole.order.distinct t.stale.stamps
        (subst (λ y. (r : ℕ) → is_in r t.stale.stamps ≡ true → place y (stamps_in t.trace.nodes) ≤ place r (stamps_in t.trace.nodes)) (sym at.stamp) first) z i)

-- what a node that is a read records
pub read-recorded : (n : Option Node) → is_read n ≡ true → (p : Place) × (v : Word) × Records p v n
read-recorded None h = absurd (let no : false ≡ true = h in cc)
read-recorded (Some Root) h = absurd (let no : false ≡ true = h in cc)
read-recorded (Some (Alloc b key)) h = absurd (let no : false ≡ true = h in cc)
read-recorded (Some (Write p v)) h = absurd (let no : false ≡ true = h in cc)
read-recorded (Some (End r)) h = absurd (let no : false ≡ true = h in cc)
read-recorded (Some (Read p v u x args)) h = (p, v, record { unit = u; var = x; args = args; is = refl })

-- a read that is honest, with none queued before it, may leave the queue
pub dismissed-kept : (t : Tables) → Kept t → (s : ℕ) → is_read (node_at s t.trace.nodes) ≡ true
    → ((r : ℕ) → is_in r t.stale.stamps ≡ true → place s (stamps_in t.trace.nodes) ≤ place r (stamps_in t.trace.nodes)) → IsHonestRecord s t
    → (stale : Waiting) → IsWithout s t.stale.stamps stale.stamps → Queue_follows (stamps_in t.trace.nodes) stale → Kept (tables t.trace t.mods stale t.memo)
dismissed-kept t k s here first honest stale out qf =
    let f = read-recorded (node_at s t.trace.nodes) here in
    honest-kept (tables t.trace t.mods stale t.memo) in-step s f.0 f.1 (value_before (stamps_in t.trace.nodes) s (cell_of t.mods f.0)) f.2 refl
    (chained-and s t.stale.stamps stale.stamps (base_in t.mods) t.trace.nodes out.others k.chained)
    (still-first (stamps_in t.trace.nodes) t.stale.stamps stale.stamps s out first) t.mods refl
    (honest f.0 f.1 f.2 ∙ sym (now-is (tables t.trace t.mods stale t.memo) in-step s f.0 f.1 (value_before (stamps_in t.trace.nodes) s (cell_of t.mods f.0)) f.2 refl))
  where
    same : (z : ℕ) → is_in z stale.stamps ≡ true → is_in z t.stale.stamps ≡ true
    same z i = elim (eqb_tells z s) [
      | inl q ↦ absurd (let no : true ≡ false = sym i ∙ (ap (λ w. is_in w stale.stamps) q.1 ∙ out.gone) in cc)
      | inr q ↦ sym (out.others z q.1) ∙ i
    ]

    in-step : InStep (tables t.trace t.mods stale t.memo)
    in-step = record {
      whole = k.step.whole;
      closed = k.step.closed;
      tabled = k.step.tabled;
      keyed = k.step.keyed;
      queued = λ z i. k.step.queued z (same z i);
      mods = k.step.mods;
      memo = k.step.memo;
      stale = qf;
    }

-- a queue of the same stamps will do
pub same-queue : (old : Tables) → Kept old → (s : ℕ) → is_in s old.stale.stamps ≡ false → (stale : Waiting) → IsWithout s old.stale.stamps stale.stamps
    → Queue_follows (stamps_in old.trace.nodes) stale
    → Kept (tables old.trace old.mods stale old.memo)
same-queue old k s none stale out qf = record {
  step = record {
    whole = k.step.whole;
    closed = k.step.closed;
    tabled = k.step.tabled;
    keyed = k.step.keyed;
    queued = λ z i. k.step.queued z (same z i);
    mods = k.step.mods;
    memo = k.step.memo;
    stale = qf;
  };
  chained = chained-more old.stale.stamps stale.stamps (base_in old.mods) old.trace.nodes more k.chained;
}
  where
    same : (z : ℕ) → is_in z stale.stamps ≡ true → is_in z old.stale.stamps ≡ true
    same z i = elim (eqb_tells z s) [
      | inl q ↦ absurd (let no : true ≡ false = sym i ∙ (ap (λ w. is_in w stale.stamps) q.1 ∙ out.gone) in cc)
      | inr q ↦ sym (out.others z q.1) ∙ i
    ]

    more : (z : ℕ) → is_in z old.stale.stamps ≡ true → is_in z stale.stamps ≡ true
    more z i = elim (eqb_tells z s) [
      | inl q ↦ absurd (let no : true ≡ false = sym i ∙ (ap (λ w. is_in w old.stale.stamps) q.1 ∙ none) in cc)
      | inr q ↦ out.others z q.1 ∙ i
    ]

pub as-tables : (t : Tables) (tr : Timeline) (mods : Contents) (memo : Entered) → t.trace ≡ tr → t.mods ≡ mods → t.memo ≡ memo → Kept (tables tr mods t.stale memo) → Kept t
as-tables t tr mods memo e f g k =
    subst (λ a. Kept (tables a t.mods t.stale t.memo)) (sym e) (subst (λ a. Kept (tables tr a t.stale t.memo)) (sym f) (subst (λ a. Kept (tables tr mods t.stale a)) (sym g) k))

-- the value of a write
pub same-write : (p q : Place) (v w : Word) → Write p v ≡ Write q w → (p ≡ q) × (v ≡ w)
same-write p q v w e = (grind (arith, e), grind (arith, e))

-- what a write's place holds at its moment
pub held-at : (old : Tables) → InStep old → (s : ℕ) (p : Place) (v held : Word) → node_at s old.trace.nodes ≡ Some (Write p v)
    → held ≡ value_before (stamps_in old.trace.nodes) s (cell_of old.mods p) → held ≡ contents_at s old p
held-at old k s p v held h found =
    let c = part-at s (Write p v) old.trace.nodes h in
    found ∙ (looked-up s c.front c.e c.back old.trace.nodes old.mods p c.was c.stamp k.whole.order.distinct k.tabled ∙ sym (moment s (Write p v) old c p))

-- a queue with other room
pub room-kept : (old : Tables) (stale : Waiting) → Kept old → stale.stamps ≡ old.stale.stamps → Queue_follows (stamps_in old.trace.nodes) stale → Kept (tables old.trace old.mods stale old.memo)
room-kept old stale k e qf = record {
  step = record {
    whole = k.step.whole;
    closed = k.step.closed;
    tabled = k.step.tabled;
    keyed = k.step.keyed;
    queued = λ z i. k.step.queued z (rw e at i);
    mods = k.step.mods;
    memo = k.step.memo;
    stale = qf;
  };
  chained = rw e k.chained;
}
