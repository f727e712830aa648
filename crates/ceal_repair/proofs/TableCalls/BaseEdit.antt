-- The edit of a base, and the search for the first stale read.
use Rattle.std.proofs.Common.{◌≡◌, ◌≤◌, ◌+◌, ◌^◌, ℕ, inl, inr, Bool, true, false, if◌then◌else◌, List, [], ◌∷◌, length, refl, sym, ap, subst, ◌∙◌, arith, Option, Some, None, IfSome, IfNone}
use Rattle.std.specs.Option.{is_some}
use Rattle.std.proofs.lemmas.Bool.Decides.{eqb_tells}
use Rattle.std.proofs.lemmas.Bool.{eq-eqb}
use Rattle.ceal_base.specs.Operators.{same_place}
use Rattle.ceal_base.specs.declared.word.Place.{Place}
use Rattle.ceal_base.specs.declared.word.Word.{Word}
use Rattle.ceal_code.proofs.Words.SameIsEqual.{some-same, place-same}
use Rattle.ceal_code.specs.Replay.{stored}
use Rattle.ceal_base.specs.declared.word.Word.TheVariants.{Num}
use Rattle.ceal_mods.specs.Cell.{untouched, with_base}
use Rattle.ceal_mods.specs.Mods.{Contents, cell_of, HasCell, Changes, Follows as Mods_follow}
use Rattle.std.proofs.Common.{pos}
use Rattle.std.specs.Prelude.{IsSome, unwrap_or}
use Rattle.ceal_mods.specs.declared.cell.Cell.{Cell}
use Rattle.ceal_order.proofs.Places.{in_head, place_below, place_tells}
use Rattle.ceal_order.proofs.RisingLemmas.{in_order}
use Rattle.ceal_order.specs.Rising.{IsRising}
use Rattle.ceal_order.specs.Stamps.{is_in, place, head_of}
use Rattle.ceal_order.specs.declared.stamp.Stamp.{Stamp}
use Rattle.ceal_queue.specs.Queue.{Waiting, IsWithout, IsEarliest, IsBefore, Follows as Queue_follows}
use Rattle.ceal_repair.proofs.QueueCover.NodeChanges.{are-reads, keeps-among, chained-and}
use Rattle.ceal_repair.proofs.QueueCover.Chain.{FirstQueued}
use Rattle.ceal_repair.proofs.TableCalls.PutKeepsTables.{tables}
use Rattle.ceal_repair.proofs.Lists.PartedLists.{false-of}
use Rattle.ceal_repair.proofs.QueueCover.ChainChanges.{base-edited}
use Rattle.ceal_repair.proofs.TableCalls.CallsKeepCover.{awake-behind}
use Rattle.ceal_repair.proofs.Lists.ListsOfNodes.{other-place}
use Rattle.ceal_repair.specs.Covered.{queue_of, and_one}
use Rattle.ceal_repair.specs.Kept.{InStep, Kept, ChainedBy, IsAwake, IsStale, IsHonestRecord, QueuedAfter, Records, base_in, contents_at}
use Rattle.ceal_repair.specs.Lists.{IsTabled}
use Rattle.ceal_repair.proofs.TableCalls.FewLooks.{counts-still, counts-then}
use Rattle.ceal_repair.specs.Looks.{looks_owed, CountsOn, NoneDiffers, KeepsMarks}
use Rattle.ceal_repair.specs.declared.tables.Tables.{Tables}
use Rattle.ceal_trace.specs.Nodes.{Entry, Timeline, stamps_in, node_at, position, is_read, with_value}
use Rattle.ceal_trace.specs.declared.node.Node.TheVariants.{Root}

-- ---- a place that was never touched holds 0

none-holds : (o : Option Cell) → ¬ IsSome o → (unwrap_or o untouched).base ≡ Num (pos 0)
none-holds None bare = refl
none-holds (Some cell) bare = absurd (bare refl)

pub zero-base : (mods : Contents) (p : Place) (v : Word) → v ≡ Num (pos 0) → ¬ HasCell mods p → (q : Place) → base_in mods q ≡ stored (base_in mods) p v q
unfolding stored
zero-base mods p v is_0 bare q = go (same_place q p) refl
  where
    go : (b : Bool) → same_place q p ≡ b → (cell_of mods q).base ≡ (if b then v else (cell_of mods q).base)
    go true e = rw (place-same q p e, is_0) (none-holds _ bare)
    go false e = refl

-- ---- a base is edited

module _ (old : Tables) (k : Kept old) (p : Place) (v : Word) (mods : Contents) (change : Changes old.mods mods p (with_base v (cell_of old.mods p))) where
  writes-same : (q : Place) → (cell_of mods q).writes ≡ (cell_of old.mods q).writes
  writes-same q = go (same_place q p) refl
    where
      go : (b : Bool) → same_place q p ≡ b → (cell_of mods q).writes ≡ (cell_of old.mods q).writes
      go true e = rw (place-same q p e) (ap (λ (c : Cell). c.writes) change.here)
      go false e = ap (λ (c : Cell). c.writes) (change.others q (other-place q p e))

  pub edit-reads : (q : Place) → (cell_of mods q).reads ≡ (cell_of old.mods q).reads
  edit-reads q = go (same_place q p) refl
    where
      go : (b : Bool) → same_place q p ≡ b → (cell_of mods q).reads ≡ (cell_of old.mods q).reads
      go true e = rw (place-same q p e) (ap (λ (c : Cell). c.reads) change.here)
      go false e = ap (λ (c : Cell). c.reads) (change.others q (other-place q p e))

  pub edit-base : (q : Place) → base_in mods q ≡ stored (base_in old.mods) p v q
  unfolding stored
  edit-base q = go (same_place q p) refl
    where
      go : (b : Bool) → same_place q p ≡ b → (cell_of mods q).base ≡ (if b then v else (cell_of old.mods q).base)
      go true e = rw (place-same q p e) (ap (λ (c : Cell). c.base) change.here)
      go false e = ap (λ (c : Cell). c.base) (change.others q (other-place q p e))

  base-away : (q : Place) → same_place q p ≡ false → base_in old.mods q ≡ base_in mods q
  base-away q e = ap (λ (c : Cell). c.base) (sym (change.others q (other-place q p e)))

  pub edit-tabled : IsTabled old.trace.nodes mods
  edit-tabled = record { writes = λ q. writes-same q ∙ k.step.tabled.writes q; reads = λ q. edit-reads q ∙ k.step.tabled.reads q }

  pub edit-kept : (root : ℕ) → head_of (stamps_in old.trace.nodes) ≡ Some root → node_at root old.trace.nodes ≡ Some Root → (stale : Waiting)
      → ((t : ℕ) → is_in t old.stale.stamps ≡ true → is_in t stale.stamps ≡ true)
      → ((t : ℕ) → is_in t old.stale.stamps ≡ false → is_in t stale.stamps ≡ true → is_in t (cell_of mods p).reads ≡ true)
      → IsAwake (stamps_in old.trace.nodes) (cell_of mods p) root stale.stamps
      → Mods_follow (stamps_in old.trace.nodes) mods → Queue_follows (stamps_in old.trace.nodes) stale → Kept (tables old.trace mods stale old.memo)
  edit-kept root first is_root stale more only awake mf qf = record {
    step = record {
      whole = k.step.whole;
      closed = k.step.closed;
      tabled = edit-tabled;
      keyed = k.step.keyed;
      queued = are-reads p old.trace.nodes mods old.stale.stamps stale.stamps k.step.whole.order.distinct edit-tabled k.step.queued only;
      mods = mf;
      memo = k.step.memo;
      stale = qf;
    };
    chained = base-edited (queue_of old.stale.stamps) (queue_of stale.stamps) old.trace.nodes (base_in old.mods) (base_in mods) p base-away
        (keeps-among old.stale.stamps stale.stamps old.trace.nodes (λ t i. more t))
        (woken old.trace.nodes refl first is_root) k.chained;
  }
    where
      woken : (nodes : List Entry) → old.trace.nodes ≡ nodes → head_of (stamps_in nodes) ≡ Some root → node_at root nodes ≡ Some Root → FirstQueued (queue_of stale.stamps) p nodes
      woken [] e h n = tt
      woken (x ∷ xs) e h n =
          let own : x.stamp ≡ root = some-same x.stamp root h in
          let bare : x.node ≡ Root = some-same x.node Root (rw (own, eq-eqb root root refl) at n) in
          rw bare (awake-behind [] x xs old.trace.nodes e k.step.whole.order.distinct mods p stale.stamps edit-tabled (rw (← own) at awake))

-- ---- the search for the first stale read

-- how far it has come, over the places
pub record Looking (old t : Tables) (n : ℕ) : Type 0 where
  pub kept : Kept t
  pub trace : t.trace ≡ old.trace
  pub cells : t.mods.cells ≡ old.mods.cells
  pub memo : t.memo ≡ old.memo
  pub late : (s : ℕ) → is_in s t.stale.stamps ≡ true → n ≤ position s t.trace.nodes
  pub looks : looks_owed t ≤ looks_owed old
  pub queued : t.mods.looked + length t.stale.stamps ≤ old.mods.looked + length old.stale.stamps
  pub differed : NoneDiffers old t
  pub counts : CountsOn old t
  pub marks : KeepsMarks old t

pub looking-first : (old : Tables) → Kept old → Looking old old 0
looking-first old k = record {
  kept = k;
  trace = refl;
  cells = refl;
  memo = refl;
  late = λ s i. omega arith;
  looks = omega arith;
  queued = omega arith;
  differed = refl;
  counts = counts-still old old refl refl refl;
  marks = refl;
}

-- no place is that far on
pub none-late : (old t : Tables) (n : ℕ) → Looking old t n → 2 ^ 32 ≤ n → (s : ℕ) → is_in s t.stale.stamps ≡ true → ⊥
none-late old t n l far s i =
    omega (arith, l.late s i, far, place_below s (stamps_in t.trace.nodes) (in_order s t.stale.stamps (stamps_in t.trace.nodes) l.kept.step.stale i), l.kept.step.whole.order.few)

-- a queue that has none is empty
pub queue-empty : (q : List ℕ) → ((s : ℕ) → is_in s q ≡ true → ⊥) → q ≡ []
queue-empty [] none = refl
queue-empty (s ∷ ss) none = absurd (none s (in_head s ss))

-- a read was popped
module _ (t : Tables) (k : Kept t) (s : ℕ) (stale : Waiting) (first : IsEarliest (stamps_in t.trace.nodes) t.stale.stamps s) (out : IsWithout s t.stale.stamps stale.stamps) where
  was-in : (z : ℕ) → is_in z stale.stamps ≡ true → is_in z t.stale.stamps ≡ true
  was-in z i = elim (eqb_tells z s) [
    | inl q ↦ absurd (let no : true ≡ false = sym i ∙ (ap (λ w. is_in w stale.stamps) q.1 ∙ out.gone) in cc)
    | inr q ↦ sym (out.others z q.1) ∙ i
  ]

  pub popped-step : Queue_follows (stamps_in t.trace.nodes) stale → InStep (tables t.trace t.mods stale t.memo)
  popped-step qf = record {
    whole = k.step.whole;
    closed = k.step.closed;
    tabled = k.step.tabled;
    keyed = k.step.keyed;
    queued = λ z i. k.step.queued z (was-in z i);
    mods = k.step.mods;
    memo = k.step.memo;
    stale = qf;
  }

  pub popped-chained : ChainedBy (and_one s stale.stamps) (tables t.trace t.mods stale t.memo)
  popped-chained = chained-and s t.stale.stamps stale.stamps (base_in t.mods) t.trace.nodes out.others k.chained

  pub popped-read : is_read (node_at s t.trace.nodes) ≡ true
  popped-read = k.step.queued s first.there

-- one that was not stale
pub looked-more : (old t t' : Tables) (n s : ℕ) → Looking old t n → is_in s t.stale.stamps ≡ true → Kept t' → t'.trace ≡ t.trace → t'.mods.cells ≡ t.mods.cells → t'.memo ≡ t.memo → QueuedAfter s t'
    → looks_owed t' ≤ looks_owed t → t'.mods.looked + length t'.stale.stamps ≤ t.mods.looked + length t.stale.stamps → NoneDiffers t t' → CountsOn t t' → KeepsMarks t t' → Looking old t' (n + 1)
looked-more old t t' n s l i kept trace cells memo behind looks queued differed counts marks = record {
  kept = kept;
  trace = trace ∙ l.trace;
  cells = cells ∙ l.cells;
  memo = memo ∙ l.memo;
  late = λ z j. let a = behind z j in let b = l.late s i in omega (arith, a, b, ap (λ (w : Timeline). position s w.nodes) trace);
  looks = omega (arith, looks, l.looks);
  queued = omega (arith, queued, l.queued);
  differed = differed ∙ l.differed;
  counts = counts-then old t t' l.counts counts;
  marks = marks ∙ l.marks;
}

-- what is said of a read depends on the nodes and the cells
pub contents-same : (a b : Tables) (s : ℕ) → a.trace ≡ b.trace → a.mods.cells ≡ b.mods.cells → (p : Place) → contents_at s a p ≡ contents_at s b p
contents-same a b s e f p = rw (e, f) refl

pub stale-same : (a b : Tables) (s : ℕ) → a.trace ≡ b.trace → a.mods.cells ≡ b.mods.cells → IsStale s a → IsStale s b
stale-same a b s e f h = record {
  place = h.place;
  value = h.value;
  read = subst (λ (w : Timeline). Records h.place h.value (node_at s w.nodes)) e h.read;
  differs = λ k. h.differs (k ∙ sym (contents-same a b s e f h.place));
}

pub honest-same : (a b : Tables) (s : ℕ) → a.trace ≡ b.trace → a.mods.cells ≡ b.mods.cells → IsHonestRecord s a → IsHonestRecord s b
honest-same a b s e f h p v r = h p v (subst (λ (w : Timeline). Records p v (node_at s w.nodes)) (sym e) r) ∙ contents-same a b s e f p

pub nodes-same : (a b : Tables) (s : ℕ) (nodes : List Entry) → a.trace ≡ b.trace → a.mods.cells ≡ b.mods.cells
    → (p : Place) × (v : Word) × Records p v (node_at s a.trace.nodes) × (nodes ≡ with_value s (contents_at s a p) a.trace.nodes)
    → (p : Place) × (v : Word) × Records p v (node_at s b.trace.nodes) × (nodes ≡ with_value s (contents_at s b p) b.trace.nodes)
nodes-same a b s nodes e f h = (
  h.0,
  h.1,
  subst (λ (w : Timeline). Records h.0 h.1 (node_at s w.nodes)) e h.2,
  h.3 ∙ (ap (λ x. with_value s x a.trace.nodes) (contents-same a b s e f h.0) ∙ ap (λ (w : Timeline). with_value s (contents_at s b h.0) w.nodes) e),
)

pub if-none : {A P : Type 0} (o : Option A) → P → IfNone o P
if-none None p = p
if-none (Some x) p = tt

-- ---- the earliest of a queue

module _ (order q : List ℕ) (s : ℕ) (next : Option Stamp) (here : is_in s order ≡ true) (rises : IsRising order q) (first : (r : ℕ) → is_in r q ≡ true → place s order ≤ place r order)
    (after : IfSome next (λ n. place n.0 order ≡ place s order + 1)) (last : IfNone next (place s order + 1 ≡ length order)) where
  -- if one is popped, it is this one
  pub popped-own : (r : ℕ) → IsEarliest order q r → IsBefore order next r → r ≡ s
  popped-own r early before = go next after last before
    where
      inside : is_in r order ≡ true
      inside = in_order r q order rises early.there

      go : (o : Option Stamp) → IfSome o (λ n. place n.0 order ≡ place s order + 1) → IfNone o (place s order + 1 ≡ length order) → IsBefore order o r → r ≡ s
      go None a l b = place_tells r s order inside here (omega (arith, first r early.there, place_below r order inside, l))
      go (Some n) a l b = place_tells r s order inside here (omega (arith, first r early.there, a, b))

  -- if none is, it is not there
  pub popped-none : ((r : ℕ) → is_in r q ≡ true → ¬ IsBefore order next r) → is_in s q ≡ false
  popped-none none = false-of (is_in s q) (λ i. go next after (none s i))
    where
      go : (o : Option Stamp) → IfSome o (λ n. place n.0 order ≡ place s order + 1) → ¬ IsBefore order o s → true ≡ false
      go None a b = absurd (b tt)
      go (Some n) a b = absurd (b (omega (arith, a)))

  -- so what is popped says whether it was there
  pub pop-tells : (q' : Waiting) (w : Waiting) (o : Option Stamp) → w.stamps ≡ q → IfSome o (λ r. IsEarliest order q r.0) → IfSome o (λ r. IsBefore order next r.0)
      → IfSome o (λ r. IsWithout r.0 q q'.stamps)
      → IfNone o ((r : ℕ) → is_in r q ≡ true → ¬ IsBefore order next r) → IfNone o (q' ≡ w) → IsWithout s q q'.stamps × (is_some o ≡ is_in s q)
  pop-tells q' w None e a b c d f =
      let none = popped-none d in
      (subst (λ (l : List ℕ). IsWithout s q l) (sym (ap (λ (x : Waiting). x.stamps) f ∙ e)) (record { gone = none; others = λ t h. refl }), sym none)
  pop-tells q' w (Some r) e a b c d f =
      let own = popped-own r.0 a b in
      (subst (λ z. IsWithout z q q'.stamps) own c, sym (subst (λ z. is_in z q ≡ true) own a.there))
