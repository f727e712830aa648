-- Each call keeps the tables in step and the reads chained.
use Rattle.std.proofs.Common.{◌≡◌, ◌<◌, ℕ, inl, inr, Bool, true, false, List, ◌∷◌, ◌++◌, refl, sym, ap, subst, ◌∙◌, arith}
use Rattle.ceal_base.specs.declared.forest.Key.{Key}
use Rattle.ceal_base.specs.declared.word.BlockId.{BlockId}
use Rattle.ceal_base.specs.declared.word.Place.{Place}
use Rattle.ceal_base.specs.declared.word.Word.{Word}
use Rattle.ceal_memo.specs.Keys.{OfRead, OfAlloc}
use Rattle.ceal_memo.specs.Memo.{Contents as Entered, HasNone, Holds, with_key, Follows as Memo_follows}
use Rattle.ceal_memo.specs.declared.key.ReadKey.{ReadKey}
use Rattle.ceal_mods.specs.Cell.{with_write, with_read}
use Rattle.ceal_mods.specs.Mods.{Contents, cell_of, Changes, IsFree, Follows as Mods_follow}
use Rattle.ceal_mods.specs.declared.cell.Cell.{Cell}
use Rattle.ceal_order.specs.Stamps.{Distinct, is_in, place}
use Rattle.ceal_order.specs.declared.stamp.Stamp.{Stamp}
use Rattle.ceal_queue.specs.Queue.{Waiting, Follows as Queue_follows}
use Rattle.ceal_repair.proofs.QueueCover.NodeChanges.{PutAfter, put-after, up-to-places, are-reads, still-reads, chained-base, is-queued}
use Rattle.ceal_repair.proofs.Lists.PartedLists.{false-of}
use Rattle.ceal_repair.proofs.QueueCover.ChainChanges.{quiet-put, read-put, front-held}
use Rattle.ceal_repair.proofs.TableCalls.CallsKeepCover.{alloc-quiet, end-quiet, tabled-with, steps-chained, write-put-chained}
use Rattle.ceal_repair.proofs.Lists.ListsOfNodes.{alloc-no-write, end-no-write, other-place, tabled-in, tabled-write, tabled-read, free-of}
use Rattle.ceal_repair.proofs.Lists.KeyedNodes.{keyed-as, keyed-in, keyed-entered, none-of}
use Rattle.ceal_repair.specs.Chain.{Chained}
use Rattle.ceal_repair.specs.Covered.{queue_of, contents_after}
use Rattle.ceal_repair.specs.Kept.{InStep, Kept, AreReads, IsAwake, base_in}
use Rattle.ceal_repair.specs.Lists.{IsTabled, writes_in, up_to, key_of, entries_in}
use Rattle.ceal_repair.specs.declared.tables.Tables.{Tables}
use Rattle.ceal_trace.proofs.Parts.{changed-part}
use Rattle.ceal_trace.specs.Nodes.{Entry, Timeline, IsTrace, NoLooseEnd, Inserted, stamps_in, has_node, node_at, is_read, new_entry, with_entry_after, steps_set, with_steps, SameBut, held_by}
use Rattle.ceal_trace.specs.declared.node.Node.{Node}
use Rattle.ceal_trace.specs.declared.node.Node.TheVariants.{Alloc, Write, Read, End}

abbrev pub tables : Timeline → Contents → Waiting → Entered → Tables
tables trace mods stale memo = record { trace = trace; mods = mods; stale = stale; memo = memo }

-- a change that leaves a place's base leaves all
pub bases-same : (old new : Contents) (p : Place) (cell : Cell) → Changes old new p cell → cell.base ≡ (cell_of old p).base → (q : Place) → base_in new q ≡ base_in old q
bases-same old new p cell change same q = go (Rattle.ceal_base.specs.Operators.same_place q p) refl
  where
    go : (b : Bool) → Rattle.ceal_base.specs.Operators.same_place q p ≡ b → (cell_of new q).base ≡ (cell_of old q).base
    go true e = rw (Rattle.ceal_code.proofs.Words.SameIsEqual.place-same q p e) (ap (λ (c : Cell). c.base) change.here ∙ same)
    go false e = ap (λ (c : Cell). c.base) (change.others q (other-place q p e))

-- ---- nodes that are put in

module _ (old : Tables) (k : Kept old) (after s : ℕ) (n : Node) (tr : Timeline) (here : has_node after old.trace.nodes ≡ true) (is : tr.nodes ≡ with_entry_after after (new_entry s n) old.trace.nodes)
    (ins : Inserted after s n old.trace.nodes tr.nodes) (whole : IsTrace tr) (closed : NoLooseEnd tr.nodes) where
  pub putting : PutAfter after (new_entry s n) old.trace.nodes tr.nodes
  putting = put-after after (new_entry s n) old.trace.nodes tr.nodes here is

  abbrev front : List Entry
  front = putting.front

  abbrev back : List Entry
  back = putting.back

  parted : Distinct (stamps_in (putting.front ++ new_entry s n ∷ putting.back))
  parted = subst (λ (l : List Entry). Distinct (stamps_in l)) putting.is whole.order.distinct

  tabled-old : IsTabled (putting.front ++ putting.back) old.mods
  tabled-old = subst (λ (l : List Entry). IsTabled l old.mods) putting.was k.step.tabled

  still-queued : AreReads tr.nodes old.stale.stamps
  still-queued = still-reads old.trace.nodes tr.nodes old.stale.stamps ins.others.entries k.step.queued

  -- an allocation
  pub alloc-kept : (b : BlockId) (key : Key) → n ≡ Alloc b key → (memo : Entered) → Holds memo (with_key s (OfAlloc key) (entries_in old.trace.nodes))
      → Mods_follow (stamps_in tr.nodes) old.mods → Memo_follows (stamps_in tr.nodes) memo → Queue_follows (stamps_in tr.nodes) old.stale → Kept (tables tr old.mods old.stale memo)
  alloc-kept b key e memo change mf ef qf = record {
    step = record {
      whole = whole;
      closed = closed;
      tabled = subst (λ (l : List Entry). IsTabled l old.mods) (sym putting.is)
          (tabled-in putting.front (new_entry s n) putting.back old.mods (λ p. rw e refl) (λ p. alloc-no-write p s n (writes_in p putting.back) b key e) tabled-old);
      keyed = keyed-entered after s n old.trace.nodes tr.nodes is ins.new ins.node (OfAlloc key) (rw e refl) memo change;
      queued = still-queued;
      mods = mf;
      memo = ef;
      stale = qf;
    };
    chained = subst (λ (l : List Entry). Chained (queue_of old.stale.stamps) (base_in old.mods) l) (sym putting.is)
        (quiet-put (queue_of old.stale.stamps) (base_in old.mods) putting.front (new_entry s n) putting.back (rw e (alloc-quiet b key))
        (subst (λ (l : List Entry). Chained (queue_of old.stale.stamps) (base_in old.mods) l) putting.was k.chained));
  }

  -- the end of a read
  pub end-kept : (r : Stamp) → n ≡ End r → Mods_follow (stamps_in tr.nodes) old.mods → Memo_follows (stamps_in tr.nodes) old.memo → Queue_follows (stamps_in tr.nodes) old.stale
      → Kept (tables tr old.mods old.stale old.memo)
  end-kept r e mf ef qf = record {
    step = record {
      whole = whole;
      closed = closed;
      tabled = subst (λ (l : List Entry). IsTabled l old.mods) (sym putting.is)
          (tabled-in putting.front (new_entry s n) putting.back old.mods (λ p. rw e refl) (λ p. end-no-write p s n (writes_in p putting.back) r e) tabled-old);
      keyed = keyed-in after s n old.trace.nodes tr.nodes is ins.new ins.node (rw e refl) old.memo k.step.keyed;
      queued = still-queued;
      mods = mf;
      memo = ef;
      stale = qf;
    };
    chained = subst (λ (l : List Entry). Chained (queue_of old.stale.stamps) (base_in old.mods) l) (sym putting.is)
        (quiet-put (queue_of old.stale.stamps) (base_in old.mods) putting.front (new_entry s n) putting.back (rw e (end-quiet r))
        (subst (λ (l : List Entry). Chained (queue_of old.stale.stamps) (base_in old.mods) l) putting.was k.chained));
  }

  -- a write, with what it affects woken
  pub write-tabled : (p : Place) (v : Word) → n ≡ Write p v → (mods : Contents) → Changes old.mods mods p (with_write (stamps_in tr.nodes) s v (cell_of old.mods p)) → IsTabled tr.nodes mods
  write-tabled p v e mods change = subst (λ (l : List Entry). IsTabled l mods) (sym putting.is) (tabled-write putting.front (new_entry s n) putting.back parted p v e old.mods mods tabled-old
      (subst (λ (l : List Entry). Changes old.mods mods p (with_write (stamps_in l) s v (cell_of old.mods p))) putting.is change))

  pub write-bases : (p : Place) (v : Word) (mods : Contents) → Changes old.mods mods p (with_write (stamps_in tr.nodes) s v (cell_of old.mods p)) → (q : Place) → base_in mods q ≡ base_in old.mods q
  write-bases p v mods change q = go (Rattle.ceal_base.specs.Operators.same_place q p) refl
    where
      go : (b : Bool) → Rattle.ceal_base.specs.Operators.same_place q p ≡ b → (cell_of mods q).base ≡ (cell_of old.mods q).base
      go true e = rw (Rattle.ceal_code.proofs.Words.SameIsEqual.place-same q p e) (ap (λ (c : Cell). c.base) change.here)
      go false e = ap (λ (c : Cell). c.base) (change.others q (other-place q p e))

  pub write-kept : (p : Place) (v : Word) → n ≡ Write p v → (mods : Contents) (stale : Waiting) → Changes old.mods mods p (with_write (stamps_in tr.nodes) s v (cell_of old.mods p))
      → ((t : ℕ) → is_in t old.stale.stamps ≡ true → is_in t stale.stamps ≡ true)
      → ((t : ℕ) → is_in t old.stale.stamps ≡ false → is_in t stale.stamps ≡ true → is_in t (cell_of mods p).reads ≡ true)
      → IsAwake (stamps_in tr.nodes) (cell_of mods p) s stale.stamps
      → Mods_follow (stamps_in tr.nodes) mods → Memo_follows (stamps_in tr.nodes) old.memo → Queue_follows (stamps_in tr.nodes) stale → Kept (tables tr mods stale old.memo)
  write-kept p v e mods stale change more only awake mf ef qf = record {
    step = record {
      whole = whole;
      closed = closed;
      tabled = write-tabled p v e mods change;
      keyed = keyed-in after s n old.trace.nodes tr.nodes is ins.new ins.node (rw e refl) old.memo k.step.keyed;
      queued = are-reads p tr.nodes mods old.stale.stamps stale.stamps whole.order.distinct (write-tabled p v e mods change) still-queued only;
      mods = mf;
      memo = ef;
      stale = qf;
    };
    chained = write-put-chained after s p v old.trace.nodes tr.nodes (subst (λ i. PutAfter after (new_entry s i) old.trace.nodes tr.nodes) e putting) whole.order.distinct old.mods mods
        (write-bases p v mods change)
        (write-tabled p v e mods change) old.stale.stamps stale.stamps more awake k.chained;
  }

  -- a read with what its place holds there
  pub read-kept : (key : ReadKey) (v : Word) → n ≡ Read key.place v key.unit key.var key.args → (mods : Contents) (memo : Entered)
      → Changes old.mods mods key.place (with_read (stamps_in tr.nodes) s (cell_of old.mods key.place))
      → Holds memo (with_key s (OfRead key) (entries_in old.trace.nodes))
      → v ≡ contents_after (base_in old.mods) (up_to after old.trace.nodes) key.place
      → ((r : ℕ) → is_in r old.stale.stamps ≡ true → place after (stamps_in old.trace.nodes) < place r (stamps_in old.trace.nodes))
      → Mods_follow (stamps_in tr.nodes) mods → Memo_follows (stamps_in tr.nodes) memo → Queue_follows (stamps_in tr.nodes) old.stale → Kept (tables tr mods old.stale memo)
  read-kept key v e mods memo change entry value late mf ef qf = record {
    step = record {
      whole = whole;
      closed = closed;
      tabled =
          subst (λ (l : List Entry). IsTabled l mods) (sym putting.is) (tabled-read putting.front (new_entry s n) putting.back parted key.place v key.unit key.var key.args e old.mods mods tabled-old
          (subst (λ (l : List Entry). Changes old.mods mods key.place (with_read (stamps_in l) s (cell_of old.mods key.place))) putting.is change));
      keyed = keyed-entered after s n old.trace.nodes tr.nodes is ins.new ins.node (OfRead key) (rw e refl) memo entry;
      queued = still-queued;
      mods = mf;
      memo = ef;
      stale = qf;
    };
    chained = chained-base (queue_of old.stale.stamps) (base_in old.mods) (base_in mods) tr.nodes (λ q. sym (read-bases q))
        (subst (λ (l : List Entry). Chained (queue_of old.stale.stamps) (base_in old.mods) l) (sym (putting.is ∙ ap (λ i. putting.front ++ new_entry s i ∷ putting.back) e))
        (read-put (queue_of old.stale.stamps) (base_in old.mods) putting.front putting.back s 0 key.place v key.unit key.var key.args
        (front-held (queue_of old.stale.stamps) (base_in old.mods) putting.front putting.back none was key.place
        ∙ (ap (λ (l : List Entry). contents_after (base_in old.mods) l key.place) (sym putting.front_is) ∙ sym value)) was));
  }
    where
      read-bases : (q : Place) → base_in mods q ≡ base_in old.mods q
      read-bases q = go (Rattle.ceal_base.specs.Operators.same_place q key.place) refl
        where
          go : (b : Bool) → Rattle.ceal_base.specs.Operators.same_place q key.place ≡ b → (cell_of mods q).base ≡ (cell_of old.mods q).base
          go true e = rw (Rattle.ceal_code.proofs.Words.SameIsEqual.place-same q key.place e) (ap (λ (c : Cell). c.base) change.here)
          go false e = ap (λ (c : Cell). c.base) (change.others q (other-place q key.place e))

      was : Chained (queue_of old.stale.stamps) (base_in old.mods) (putting.front ++ putting.back)
      was = subst (λ (l : List Entry). Chained (queue_of old.stale.stamps) (base_in old.mods) l) putting.was k.chained

      -- what is queued is after the nodes in front
      none : (z : ℕ) → is_in z (stamps_in putting.front) ≡ true → queue_of old.stale.stamps z ≡ false
      none z i = is-queued z old.stale.stamps false (false-of (is_in z old.stale.stamps) (λ j.
          let a = up-to-places after old.trace.nodes z (subst (λ (l : List Entry). is_in z (stamps_in l) ≡ true) (sym putting.front_is) i) in
          let b = late z j in absurd (omega (arith, a, b))))

-- what is not there has no entry
pub no-entry : (s : ℕ) (old : Tables) → InStep old → has_node s old.trace.nodes ≡ false → HasNone s old.memo
no-entry s old k h = none-of s old.trace.nodes old.memo k.keyed h

pub is-free : (s : ℕ) (old : Tables) → InStep old → has_node s old.trace.nodes ≡ false → IsFree s old.mods
is-free s old k h = free-of s old.trace.nodes old.mods k.tabled h

-- ---- steps are set

pub steps-kept : (old : Tables) → Kept old → (s n : ℕ) (tr : Timeline) → has_node s old.trace.nodes ≡ true → tr.nodes ≡ with_steps s n old.trace.nodes → node_at s tr.nodes ≡ node_at s old.trace.nodes
    → SameBut s old.trace.nodes tr.nodes → IsTrace tr → NoLooseEnd tr.nodes → Kept (tables tr old.mods old.stale old.memo)
steps-kept old k s n tr here is same others whole closed = go (Rattle.ceal_trace.proofs.Parts.split_at s old.trace.nodes here)
  where
    node-same : (z : ℕ) → node_at z tr.nodes ≡ node_at z old.trace.nodes
    node-same z = elim (Rattle.std.proofs.lemmas.Bool.Decides.eqb_tells z s) [
      | inl p ↦ rw p.1 same
      | inr p ↦ ap held_by (others.entries z p.1)
    ]

    go : (front : List Entry) × (e : Entry) × (back : List Entry) × (old.trace.nodes ≡ front ++ e ∷ back) × (e.stamp ≡ s) × (has_node s front ≡ false) → Kept (tables tr old.mods old.stale old.memo)
    go x =
        let at : tr.nodes ≡ x.0 ++ steps_set n x.1 ∷ x.2 = is ∙ subst (λ z. with_steps z n old.trace.nodes ≡ x.0 ++ steps_set n x.1 ∷ x.2) x.4
        (ap (λ (l : List Entry). with_steps x.1.stamp n l) x.3 ∙ changed-part x.1 x.2 (steps_set n) x.0 (rw (← x.4) at x.5)) in
        record {
          step = record {
            whole = whole;
            closed = closed;
            tabled = subst (λ (l : List Entry). IsTabled l old.mods) (sym at)
                (tabled-with x.0 x.1 (steps_set n x.1) x.2 refl old.mods (λ p. refl) (λ p. refl) (subst (λ (l : List Entry). IsTabled l old.mods) x.3 k.step.tabled));
            keyed = keyed-as old.trace.nodes tr.nodes old.memo (λ z. ap key_of (node-same z)) k.step.keyed;
            queued = λ z i. ap is_read (node-same z) ∙ k.step.queued z i;
            mods = subst (λ (l : List ℕ). Mods_follow l old.mods) (sym others.stamps) k.step.mods;
            memo = subst (λ (l : List ℕ). Memo_follows l old.memo) (sym others.stamps) k.step.memo;
            stale = subst (λ (l : List ℕ). Queue_follows l old.stale) (sym others.stamps) k.step.stale;
          };
          chained = subst (λ (l : List Entry). Chained (queue_of old.stale.stamps) (base_in old.mods) l) (sym at)
              (steps-chained (queue_of old.stale.stamps) (base_in old.mods) x.0 x.1 x.2 n
              (subst (λ (l : List Entry). Chained (queue_of old.stale.stamps) (base_in old.mods) l) x.3 k.chained));
        }
