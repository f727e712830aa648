-- The first node of what is left over is revoked.
use Rattle.std.proofs.Common.{◌≡◌, ◌≢◌, ℕ, inl, inr, ◌⊎◌, ◌+◌, ◌<◌, ◌≤◌, ◌==◌, if◌then◌else◌, true, false, Option, Some, None, List, [], ◌∷◌, ◌++◌, length, refl, sym, ap, subst, ◌∙◌, arith}
use Rattle.std.proofs.Common.{append_assoc}
use Rattle.std.specs.Prelude.{◌↔◌, IsSome}
use Rattle.std.proofs.lemmas.Bool.{cases_Bool, eq-eqb}
use Rattle.std.proofs.lemmas.Bool.Decides.{eqb_tells}
use Rattle.ceal_base.specs.Block.{Block}
use Rattle.ceal_base.specs.declared.forest.Key.{Key}
use Rattle.ceal_base.specs.declared.typed.StructInfo.{StructInfo}
use Rattle.ceal_base.specs.declared.word.BlockId.{BlockId}
use Rattle.ceal_base.specs.declared.word.BlockId.TheVariants.{Input, Core}
use Rattle.ceal_base.specs.declared.word.Place.{Place}
use Rattle.ceal_base.specs.declared.word.Word.{Word}
use Rattle.ceal_code.proofs.Words.SameIsEqual.{nat-refl}
use Rattle.ceal_code.specs.Program.{Code}
use Rattle.ceal_code.specs.Replay.{In, count}
use Rattle.ceal_heap.specs.Heap.{Contents, Standing, Unused, Live, Revoked, Released, IsLive, KeepsBlocks, block_of, standing, known, revoked}
use Rattle.ceal_order.specs.Stamps as order
use Rattle.ceal_order.specs.Stamps.{is_in}
use Rattle.ceal_repair.proofs.Nodes.NodeItems.{entries-joined, position-front, behind-all, not-in-is}
use Rattle.ceal_repair.proofs.Runs.FewNumbers.{known-revoked}
use Rattle.ceal_repair.proofs.Runs.NewBlock.{in-count, count-in, node-count}
use Rattle.ceal_repair.proofs.Nodes.NodeBlocks.{node_blocks, blocks_at, allocs-nodes}
use Rattle.ceal_repair.specs.Blocks.{There, Lives, HasBlocks}
use Rattle.ceal_repair.specs.Entries.{stamp_of_number, entry, end_entry, entries, first_stamp, first_in, starts, CutTo, there, more, IsUntil, Lies}
use Rattle.ceal_repair.specs.Words.{default_by_standing}
use Rattle.ceal_repair.specs.Kept.{Kept, QueuedAfter, QueuedFrom, Records, base_in}
use Rattle.ceal_repair.specs.declared.tables.Tables.{Tables}
use Rattle.ceal_theory.specs.Groves.{Grove, Bare, Made, Put, Got, joined, cut}
use Rattle.ceal_trace.proofs.Entries.{has-held, entry-left}
use Rattle.ceal_trace.proofs.Parts.{not_before, not_behind, entry-part, position-part, without-part}
use Rattle.ceal_trace.specs.Nodes.{Entry, stamps_in, has_node, position, node_at, held_by, end_in, is_read, is_plain, without_entry}
use Rattle.ceal_trace.specs.declared.node.Node.{Node}
use Rattle.ceal_trace.specs.declared.node.Node.TheVariants.{Root, Alloc, Write, Read, End}

-- ---- lists

pub length-more : {A : Type 0} (xs : List A) (x : A) → length (xs ++ x ∷ []) ≡ length xs + 1
length-more [] x = omega arith
length-more (y ∷ ys) x = omega (arith, length-more ys x)

position-behind : (r : ℕ) (front back : List Entry) → has_node r front ≡ false → length front ≤ position r (front ++ back)
position-behind r [] back h = omega arith
position-behind r (e ∷ es) back h = elim (eqb_tells e.stamp r) [
  | inl p ↦ absurd (let bad : true ≡ false = rw p.0 at h in cc)
  | inr p ↦ rw p.0 (let rest = position-behind r es back (rw p.0 at h) in omega arith)
]

-- ---- the first node that is left over

-- what comes first, and what after it
pub record BeginsWith (s : ℕ) (es : List Entry) : Type 0 where
  pub node : Node
  pub steps : ℕ
  pub back : List Entry
  pub is : es ≡ entry s node steps ∷ back
  pub plain : is_plain node ≡ true

pub begins-with : (g : Grove) (s : ℕ) → first_stamp g ≡ Some s → (tail : List Entry) → BeginsWith s (entries g ++ tail)
begins-with Bare s h tail = absurd (cc)
begins-with (Made t b key n rest) s h tail = record {
  node = Alloc b key;
  steps = n;
  back = entries rest ++ tail;
  is = let same : t ≡ s = cc in ap (λ k. entry k (Alloc b key) n ∷ (entries rest ++ tail)) same;
  plain = refl;
}
begins-with (Put t p v n rest) s h tail = record {
  node = Write p v;
  steps = n;
  back = entries rest ++ tail;
  is = let same : t ≡ s = cc in ap (λ k. entry k (Write p v) n ∷ (entries rest ++ tail)) same;
  plain = refl;
}
begins-with (Got t p v u x args n inside e m rest) s h tail = record {
  node = Read p v u x args;
  steps = n;
  back = (entries inside ++ end_entry e t m ∷ entries rest) ++ tail;
  is = let same : t ≡ s = cc in ap (λ k. entry k (Read p v u x args) n ∷ ((entries inside ++ end_entry e t m ∷ entries rest) ++ tail)) same;
  plain = refl;
}

module _ (cursor s : ℕ) (front : List Entry) (left : Grove) (tail : List Entry) (t : Tables) (kept : Kept t) (l : Lies cursor front left tail t) (f : first_stamp left ≡ Some s) where
  first-nodes : t.trace.nodes ≡ front ++ entry s (begins-with left s f tail).node (begins-with left s f tail).steps ∷ (begins-with left s f tail).back
  first-nodes = l.nodes ∙ ap (λ es. front ++ es) (begins-with left s f tail).is

  whole-distinct : order.Distinct (stamps_in (front ++ entry s (begins-with left s f tail).node (begins-with left s f tail).steps ∷ (begins-with left s f tail).back))
  whole-distinct = subst (λ es. order.Distinct (stamps_in es)) first-nodes kept.step.whole.order.distinct

  not-front : has_node s front ≡ false
  not-front = not_before front (entry s (begins-with left s f tail).node (begins-with left s f tail).steps) (begins-with left s f tail).back whole-distinct

  pub node-first : node_at s t.trace.nodes ≡ Some (begins-with left s f tail).node
  node-first = ap (node_at s) first-nodes ∙ ap held_by (entry-part (entry s (begins-with left s f tail).node (begins-with left s f tail).steps) (begins-with left s f tail).back front not-front)

  pub has-first : has_node s t.trace.nodes ≡ true
  has-first = has-held s (begins-with left s f tail).node t.trace.nodes node-first

  first-position : position s t.trace.nodes ≡ length front
  first-position = ap (position s) first-nodes ∙ position-part (entry s (begins-with left s f tail).node (begins-with left s f tail).steps) (begins-with left s f tail).back front not-front

  pub without-first : without_entry s t.trace.nodes ≡ front ++ (begins-with left s f tail).back
  without-first = ap (without_entry s) first-nodes ∙ without-part (entry s (begins-with left s f tail).node (begins-with left s f tail).steps) (begins-with left s f tail).back front not-front

module _ (cursor : ℕ) (front : List Entry) (left : Grove) (tail : List Entry) (t : Tables) (kept : Kept t) (l : Lies cursor front left tail t) where
  front-nodes : t.trace.nodes ≡ l.done ++ l.last ∷ (entries left ++ tail)
  front-nodes = l.nodes ∙ (ap (λ es. es ++ (entries left ++ tail)) l.ends ∙ behind-all l.done l.last (entries left ++ tail))

  last-not-done : has_node l.last.stamp l.done ≡ false
  last-not-done = not_before l.done l.last (entries left ++ tail) (subst (λ es. order.Distinct (stamps_in es)) front-nodes kept.step.whole.order.distinct)

  -- where nodes begin with those in front, the cursor is at their end
  cursor-position : (back : List Entry) → position cursor (front ++ back) ≡ length l.done
  cursor-position back =
      ap (λ es. position cursor (es ++ back)) l.ends ∙ (ap (position cursor) (behind-all l.done l.last back)
      ∙ (ap (λ k. position k (l.done ++ l.last ∷ back)) (sym l.is_at) ∙ position-part l.last back l.done last-not-done))

  pub cursor-at : position cursor t.trace.nodes ≡ length l.done
  cursor-at = ap (position cursor) l.nodes ∙ cursor-position (entries left ++ tail)

  pub front-long : length front ≡ length l.done + 1
  front-long = ap (λ es. length es) l.ends ∙ length-more l.done l.last

  -- what is queued is not in front
  queued-behind : (r : ℕ) → is_in r t.stale.stamps ≡ true → has_node r front ≡ false
  queued-behind r i = elim (cases_Bool (has_node r front)) [
    | inl e ↦ absurd (
        let low : position r t.trace.nodes ≤ length l.done = subst (λ es. position r es ≤ length l.done) (sym (l.nodes ∙ ap (λ es. es ++ (entries left ++ tail)) l.ends))
        (position-front r l.done l.last (entries left ++ tail) (subst (λ es. has_node r es ≡ true) l.ends e)) in
        omega (arith, low, cursor-at, l.late r i))
    | inr e ↦ e
  ]

  -- so nothing else is, where fewer nodes are after it
  pub late-fewer : (new : Tables) (back : List Entry) → new.trace.nodes ≡ front ++ back → ((r : ℕ) → is_in r new.stale.stamps ≡ true → is_in r t.stale.stamps ≡ true) → QueuedAfter cursor new
  late-fewer new back e only r i =
      subst (λ es. position cursor es < position r es) (sym e)
      (omega (arith, cursor-position back, front-long, position-behind r front back (queued-behind r (only r i))))

  pub lies-now : (new : Tables) (rest : Grove) → new.trace.nodes ≡ front ++ (entries rest ++ tail) → QueuedAfter cursor new → Lies cursor front rest tail new
  lies-now new rest e late = record { done = l.done; last = l.last; ends = l.ends; is_at = l.is_at; nodes = e; late = late }

-- ---- one node less

module _ (cursor s : ℕ) (front : List Entry) (left : Grove) (tail : List Entry) (t : Tables) (kept : Kept t) (l : Lies cursor front left tail t) (f : first_stamp left ≡ Some s) where
  -- the cursor is directly before it
  pub cursor-before : position s t.trace.nodes ≡ position cursor t.trace.nodes + 1
  cursor-before = omega (arith, first-position cursor s front left tail t kept l f, cursor-at cursor front left tail t kept l, front-long cursor front left tail t kept l)

  pub queued-from : QueuedFrom s t
  queued-from r i = omega (arith, cursor-before, l.late r i)

  pub plain-first : (n : Node) → node_at s t.trace.nodes ≡ Some n → is_plain n ≡ true
  plain-first n e =
      let same : Some (begins-with left s f tail).node ≡ Some n = sym (node-first cursor s front left tail t kept l f) ∙ e in
      let k : (begins-with left s f tail).node ≡ n = cc in subst (λ m. is_plain m ≡ true) k (begins-with left s f tail).plain

-- ---- what is left over then

pub back-plain : (g : Grove) (s : ℕ) (h : first_stamp g ≡ Some s) (tail : List Entry) → is_read (Some (begins-with g s h tail).node) ≡ false → (begins-with g s h tail).back ≡ entries (cut g) ++ tail
unfolding begins-with
back-plain Bare s h tail k = absurd (cc)
back-plain (Made t b key n rest) s h tail k = refl
back-plain (Put t p v n rest) s h tail k = refl
back-plain (Got t p v u x args n inside e m rest) s h tail k = absurd (cc)

-- after a read are those inside it, its end, and those after that
pub record ReadFirst (s : ℕ) (g : Grove) (tail back : List Entry) : Type 0 where
  pub inside : List Entry
  pub end : ℕ
  pub steps : ℕ
  pub rest : List Entry
  pub back_is : back ≡ inside ++ end_entry end s steps ∷ rest
  pub cut_is : entries (cut g) ++ tail ≡ inside ++ rest

pub back-read : (g : Grove) (s : ℕ) (h : first_stamp g ≡ Some s) (tail : List Entry) → is_read (Some (begins-with g s h tail).node) ≡ true → ReadFirst s g tail (begins-with g s h tail).back
unfolding begins-with
back-read Bare s h tail k = absurd (cc)
back-read (Made t b key n rest) s h tail k = absurd (cc)
back-read (Put t p v n rest) s h tail k = absurd (cc)
back-read (Got t p v u x args n inside e m rest) s h tail k = record {
  inside = entries inside;
  end = e;
  steps = m;
  rest = entries rest ++ tail;
  back_is = let same : t ≡ s = cc in append_assoc (entries inside) (end_entry e t m ∷ entries rest) tail ∙ ap (λ z. entries inside ++ end_entry e z m ∷ (entries rest ++ tail)) same;
  cut_is = ap (λ es. es ++ tail) (entries-joined inside rest) ∙ append_assoc (entries inside) (entries rest) tail;
}

has-fewer : (r : ℕ) (front : List Entry) (e : Entry) (back : List Entry) → has_node r (front ++ e ∷ back) ≡ false → has_node r (front ++ back) ≡ false
has-fewer r [] e back h = elim (eqb_tells e.stamp r) [
  | inl p ↦ absurd (let bad : true ≡ false = rw p.0 at h in cc)
  | inr p ↦ rw p.0 at h
]
has-fewer r (x ∷ xs) e back h = elim (eqb_tells x.stamp r) [
  | inl p ↦ absurd (let bad : true ≡ false = rw p.0 at h in cc)
  | inr p ↦ rw p.0 (has-fewer r xs e back (rw p.0 at h))
]

module _ (cursor s : ℕ) (front : List Entry) (left : Grove) (tail : List Entry) (t : Tables) (kept : Kept t) (l : Lies cursor front left tail t) (f : first_stamp left ≡ Some s) where
  is-node : is_read (node_at s t.trace.nodes) ≡ is_read (Some (begins-with left s f tail).node)
  is-node = ap is_read (node-first cursor s front left tail t kept l f)

  -- an allocation or a write
  pub one-less : is_read (node_at s t.trace.nodes) ≡ false → without_entry s t.trace.nodes ≡ front ++ (entries (cut left) ++ tail)
  one-less k = without-first cursor s front left tail t kept l f ∙ ap (λ es. front ++ es) (back-plain left s f tail (sym is-node ∙ k))

  -- a read
  module _ (k : is_read (node_at s t.trace.nodes) ≡ true) where
    pub the-read : ReadFirst s left tail (begins-with left s f tail).back
    the-read = back-read left s f tail (sym is-node ∙ k)

    begun : Entry
    begun = entry s (begins-with left s f tail).node (begins-with left s f tail).steps

    read-nodes : t.trace.nodes ≡ (front ++ begun ∷ the-read.inside) ++ end_entry the-read.end s the-read.steps ∷ the-read.rest
    unfolding begun
    read-nodes = first-nodes cursor s front left tail t kept l f ∙ (ap (λ es. front ++ begun ∷ es) the-read.back_is
        ∙ sym (append_assoc front (begun ∷ the-read.inside) (end_entry the-read.end s the-read.steps ∷ the-read.rest)))

    end-not-before : has_node the-read.end (front ++ begun ∷ the-read.inside) ≡ false
    end-not-before =
        not_before (front ++ begun ∷ the-read.inside) (end_entry the-read.end s the-read.steps) the-read.rest (subst (λ es. order.Distinct (stamps_in es)) read-nodes kept.step.whole.order.distinct)

    pub end-there : end_in s t.trace.nodes ≡ Some the-read.end
    end-there = kept.step.whole.one_end the-read.end (stamp_of_number s)
        (ap (node_at the-read.end) read-nodes ∙ ap held_by (entry-part (end_entry the-read.end s the-read.steps) the-read.rest (front ++ begun ∷ the-read.inside) end-not-before))

    pub end-some : IsSome (end_in s t.trace.nodes)
    end-some = subst (λ o. IsSome o) (sym end-there) refl

    pub both-less : (e : ℕ) → end_in s t.trace.nodes ≡ Some e → without_entry e (without_entry s t.trace.nodes) ≡ front ++ (entries (cut left) ++ tail)
    both-less e h =
        let same : Some the-read.end ≡ Some e = sym end-there ∙ h in
        let is : the-read.end ≡ e = cc in
        subst (λ z. without_entry z (without_entry s t.trace.nodes) ≡ front ++ (entries (cut left) ++ tail)) is
        (ap (without_entry the-read.end) (without-first cursor s front left tail t kept l f
        ∙ (ap (λ es. front ++ es) the-read.back_is ∙ sym (append_assoc front the-read.inside (end_entry the-read.end s the-read.steps ∷ the-read.rest))))
        ∙ (without-part (end_entry the-read.end s the-read.steps) the-read.rest (front ++ the-read.inside) (has-fewer the-read.end front begun the-read.inside end-not-before)
        ∙ (append_assoc front the-read.inside the-read.rest ∙ ap (λ es. front ++ es) (sym the-read.cut_is))))

-- ---- the blocks

pub blocks-without : (s : ℕ) (n : Node) (c : ℕ) (es : List Entry) → node_at s es ≡ Some n → count c (blocks_at es) ≡ count c (node_blocks n []) + count c (blocks_at (without_entry s es))
blocks-without s n c [] h = absurd (cc)
blocks-without s n c (e ∷ es) h = elim (eqb_tells e.stamp s) [
  | inl p ↦
      let same : Some e.node ≡ Some n = rw p.0 at h in
      let is : e.node ≡ n = cc in
      rw (p.0, is) (split n)
  | inr p ↦ rw p.0 (let k : node_at s es ≡ Some n = rw p.0 at h in node-count c (count c (node_blocks n [])) e.node (blocks_at es) (blocks_at (without_entry s es)) (blocks-without s n c es k))
]
  where
    split : (n : Node) → count c (node_blocks n (blocks_at es)) ≡ count c (node_blocks n []) + count c (blocks_at es)
    split Root = omega arith
    split (Alloc (Core b) key) = omega arith
    split (Alloc (Input i) key) = omega arith
    split (Write p v) = omega arith
    split (Read p v u x args) = omega arith
    split (End r) = omega arith

not-left : (s : ℕ) (es : List Entry) → order.Distinct (stamps_in es) → has_node s (without_entry s es) ≡ false
not-left s [] d = refl
not-left s (e ∷ es) d = elim (eqb_tells e.stamp s) [
  | inl p ↦ rw p.0 (subst (λ k. has_node k es ≡ false) p.1 (not-in-is e.stamp (stamps_in es) d.0))
  | inr p ↦ rw (p.0, p.0) (not-left s es d.1)
]

-- what is found in fewer nodes was there
pub node-left : (s u : ℕ) (n : Node) (es : List Entry) → order.Distinct (stamps_in es) → node_at u (without_entry s es) ≡ Some n → node_at u es ≡ Some n
node-left s u n es d h = elim (eqb_tells u s) [
  | inl p ↦ absurd (let bad : true ≡ false = sym (has-held u n (without_entry s es) h) ∙ (ap (λ k. has_node k (without_entry s es)) p.1 ∙ not-left s es d) in cc)
  | inr p ↦ ap held_by (sym (entry-left s u es p.1)) ∙ h
]

pub records-was : (new old : List Entry) → ((u : ℕ) (n : Node) → node_at u new ≡ Some n → node_at u old ≡ Some n) → (u : ℕ) (p : Place) (v : Word) → Records p v (node_at u new)
    → Records p v (node_at u old)
records-was new old h u p v r = record { unit = r.unit; var = r.var; args = r.args; is = h u (Read p v r.unit r.var r.args) r.is }

-- other nodes allocate the live blocks still
pub lives-still : (heap : Contents) (old new : List Entry) → ((c : ℕ) → count c (blocks_at new) ≡ count c (blocks_at old)) → ((u : ℕ) (n : Node) → node_at u new ≡ Some n → node_at u old ≡ Some n)
    → Lives heap old → Lives heap new
lives-still heap old new same was l = record {
  live = λ c. (
    λ i. subst (λ bs. In c bs) (sym (allocs-nodes new)) (count-in c (blocks_at new) (omega (arith, same c, in-count c (blocks_at old) (subst (λ bs. In c bs) (allocs-nodes old) ((l.live c).0 i))))),
    λ i. (l.live c).1 (subst (λ bs. In c bs) (sym (allocs-nodes old)) (count-in c (blocks_at old) (omega (arith, same c, in-count c (blocks_at new) (subst (λ bs. In c bs) (allocs-nodes new) i))))),
  );
  once = λ c. subst (λ bs. count c bs ≤ 1) (sym (allocs-nodes new)) (omega (arith, same c, subst (λ bs. count c bs ≤ 1) (allocs-nodes old) (l.once c)));
  cores = λ s i key e. l.cores s i key (was s (Alloc (Input i) key) e);
}

default-revoked : (structs : _) (s : Standing) (field : ℕ) → default_by_standing structs (revoked s) field ≡ default_by_standing structs s field
default-revoked structs Unused field = refl
default-revoked structs (Live block) field = refl
default-revoked structs (Revoked block) field = refl
default-revoked structs (Released shape) field = refl

-- the block of an allocation that is taken out is revoked
module _ (b : ℕ) (key : Key) (s : ℕ) (heap heap' : Contents) (old new : List Entry) (d : order.Distinct (stamps_in old)) (at-node : node_at s old ≡ Some (Alloc (Core b) key))
    (nodes : new ≡ without_entry s old)
    (gone : standing heap' (Core b) ≡ revoked (standing heap (Core b))) (others : KeepsBlocks (Core b) heap heap') (l : Lives heap old) where
  counted : (c : ℕ) → count c (blocks_at old) ≡ (if b == c then 1 else 0) + count c (blocks_at new)
  counted c = blocks-without s (Alloc (Core b) key) c old at-node ∙ (one ∙ ap (λ es. (if b == c then 1 else 0) + count c (blocks_at es)) (sym nodes))
    where
      one : count c (node_blocks (Alloc (Core b) key) []) + count c (blocks_at (without_entry s old)) ≡ (if b == c then 1 else 0) + count c (blocks_at (without_entry s old))
      one = omega arith

  core-same : (b c : ℕ) → Core b ≡ Core c → b ≡ c
  core-same b c e = cc

  in-old : (c : ℕ) → IsLive heap (Core c) ↔ In c (blocks_at old)
  in-old c = subst (λ bs. IsLive heap (Core c) ↔ In c bs) (allocs-nodes old) (l.live c)

  pub live-one : IsLive heap (Core b)
  live-one = (in-old b).1 (count-in b (blocks_at old) (let n : count b (blocks_at old) ≡ 1 + count b (blocks_at new) = rw (nat-refl b) at (counted b) in omega (arith, n)))

  not-live : (c : ℕ) → b ≡ c → IsLive heap' (Core c) → ⊥
  not-live c e i =
      let now : standing heap' (Core b) ≡ Revoked live-one.0 = gone ∙ ap revoked live-one.1 in
      let also : standing heap' (Core b) ≡ Live i.0 = ap (λ k. standing heap' (Core k)) e ∙ i.1 in
      let no : Revoked live-one.0 ≡ Live i.0 = sym now ∙ also in absurd (cc)

  other-live : (c : ℕ) → b ≢ c → standing heap' (Core c) ≡ standing heap (Core c)
  other-live c h = others (Core c) (λ e. h (sym (core-same c b e)))

  pub lives-less : Lives heap' new
  lives-less = record {
    live = λ c. elim (eqb_tells b c) [
      | inl p ↦ (
        λ i. absurd (not-live c p.1 i),
        λ i. absurd (
            let n : count c (blocks_at old) ≡ 1 + count c (blocks_at new) = rw p.0 at (counted c) in
            let o : count c (blocks_at old) ≤ 1 = subst (λ bs. count c bs ≤ 1) (allocs-nodes old) (l.once c) in
            omega (arith, n, o, in-count c (blocks_at new) (subst (λ bs. In c bs) (allocs-nodes new) i))),
      )
      | inr p ↦ (
        λ i. subst (λ bs. In c bs) (sym (allocs-nodes new)) (count-in c (blocks_at new) (
            let n : count c (blocks_at old) ≡ 0 + count c (blocks_at new) = rw p.0 at (counted c) in
            omega (arith, n, in-count c (blocks_at old) ((in-old c).0 (i.0, sym (other-live c p.1) ∙ i.1))))),
        λ i. let was = (in-old c).1 (count-in c (blocks_at old) (
            let n : count c (blocks_at old) ≡ 0 + count c (blocks_at new) = rw p.0 at (counted c) in
            omega (arith, n, in-count c (blocks_at new) (subst (λ bs. In c bs) (allocs-nodes new) i)))) in (was.0, other-live c p.1 ∙ was.1),
      )
    ];
    once = λ c. subst (λ bs. count c bs ≤ 1) (sym (allocs-nodes new)) (omega (arith, counted c, subst (λ bs. count c bs ≤ 1) (allocs-nodes old) (l.once c)));
    cores = λ u i k e. l.cores u i k (node-left s u (Alloc (Input i) k) old d (ap (node_at u) (sym nodes) ∙ e));
  }

  standing-as : (c : ℕ) → (standing heap' (Core c) ≡ standing heap (Core c)) ⊎ (standing heap' (Core c) ≡ revoked (standing heap (Core c)))
  standing-as c = elim (eqb_tells b c) [
    | inl p ↦ inr (subst (λ k. standing heap' (Core k) ≡ revoked (standing heap (Core k))) p.1 gone)
    | inr p ↦ inl (other-live c p.1)
  ]

  pub block-same : (c : BlockId) → block_of heap' c ≡ block_of heap c
  block-same (Input i) = refl
  block-same (Core c) = elim (standing-as c) [ inl e ↦ ap known e | inr e ↦ ap known e ∙ known-revoked (standing heap (Core c)) ]

  pub default-same : (structs : _) (c field : ℕ) → default_by_standing structs (standing heap' (Core c)) field ≡ default_by_standing structs (standing heap (Core c)) field
  default-same structs c field = elim (standing-as c) [
    | inl e ↦ ap (λ z. default_by_standing structs z field) e
    | inr e ↦ ap (λ z. default_by_standing structs z field) e ∙ default-revoked structs (standing heap (Core c)) field
  ]

there-same : (inputs : ℕ) (heap heap' : Contents) → ((c : BlockId) → block_of heap' c ≡ block_of heap c) → (c : BlockId) → There inputs heap c → There inputs heap' c
there-same inputs heap heap' h (Input i) k = k
there-same inputs heap heap' h (Core c) k = subst (λ o. IsSome o) (sym (h (Core c))) k

-- fewer nodes, where the live blocks are theirs
pub has-fewer-nodes : (code : Code) (inputs : List Block) (heap heap' : Contents) (old new : Tables) → ((p : Place) → base_in new.mods p ≡ base_in old.mods p)
    → ((c field : ℕ) → default_by_standing code.structs (standing heap' (Core c)) field ≡ default_by_standing code.structs (standing heap (Core c)) field)
    → ((c : BlockId) → block_of heap' c ≡ block_of heap c)
    → ((u : ℕ) (n : Node) → node_at u new.trace.nodes ≡ Some n → node_at u old.trace.nodes ≡ Some n) → Lives heap' new.trace.nodes → HasBlocks code inputs heap old → HasBlocks code inputs heap' new
has-fewer-nodes code inputs heap heap' old new b default same was lives h = record {
  bases = record {
    of_cores = λ c f. b (record { block = Core c; field = f }) ∙ (h.bases.of_cores c f ∙ sym (default c f));
    of_inputs = λ i f. b (record { block = Input i; field = f }) ∙ h.bases.of_inputs i f;
  };
  lives = lives;
  reads = λ u p v r. there-same (length inputs) heap heap' same p.block (h.reads u p v (records-was new.trace.nodes old.trace.nodes was u p v r));
}

-- ---- the three ways

-- a block that is revoked can still be read, and the others have the same state
pub record RevokedOne (structs : List StructInfo) (heap heap' : Contents) (new : List Entry) : Type 0 where
  pub lives : Lives heap' new
  pub same : (c : BlockId) → block_of heap' c ≡ block_of heap c
  pub default : (c field : ℕ) → default_by_standing structs (standing heap' (Core c)) field ≡ default_by_standing structs (standing heap (Core c)) field

pub alloc-live : (c : BlockId) (key : Key) (s : ℕ) (heap : Contents) (old : List Entry) → node_at s old ≡ Some (Alloc c key) → Lives heap old → IsLive heap c
alloc-live (Input i) key s heap old n l = absurd (l.cores s i key n)
alloc-live (Core b) key s heap old n l =
    let k : count b (blocks_at old) ≡ count b (node_blocks (Alloc (Core b) key) []) + count b (blocks_at (without_entry s old)) = blocks-without s (Alloc (Core b) key) b old n in
    let one : count b (node_blocks (Alloc (Core b) key) []) ≡ 1 = rw (nat-refl b) refl in
    (l.live b).1 (subst (λ bs. In b bs) (sym (allocs-nodes old)) (count-in b (blocks_at old) (omega (arith, k, one))))

pub alloc-revoked : (structs : List StructInfo) (c : BlockId) (key : Key) (s : ℕ) (heap heap' : Contents) (old new : List Entry) → order.Distinct (stamps_in old) → node_at s old ≡ Some (Alloc c key)
    → new ≡ without_entry s old → standing heap' c ≡ revoked (standing heap c) → KeepsBlocks c heap heap' → Lives heap old → RevokedOne structs heap heap' new
alloc-revoked structs (Input i) key s heap heap' old new d n e gone others l = absurd (l.cores s i key n)
alloc-revoked structs (Core b) key s heap heap' old new d n e gone others l = record {
  lives = lives-less b key s heap heap' old new d n e gone others l;
  same = block-same b key s heap heap' old new d n e gone others l;
  default = default-same b key s heap heap' old new d n e gone others l structs;
}

module _ (cursor s : ℕ) (front : List Entry) (left : Grove) (tail : List Entry) (t : Tables) (kept : Kept t) (l : Lies cursor front left tail t) (f : first_stamp left ≡ Some s) where
  pub cut-alloc-lies : (new : Tables) (c : BlockId) (key : Key) → node_at s t.trace.nodes ≡ Some (Alloc c key) → new.trace.nodes ≡ without_entry s t.trace.nodes → new.stale ≡ t.stale
      → Lies cursor front (cut left) tail new
  cut-alloc-lies new c key n e q =
      let nodes = e ∙ one-less cursor s front left tail t kept l f (ap is_read n) in
      lies-now cursor front left tail t kept l new (cut left) nodes
      (late-fewer cursor front left tail t kept l new (entries (cut left) ++ tail) nodes (λ r i. subst (λ (z : _). is_in r z.stamps ≡ true) q i))

  before-it : position cursor t.trace.nodes < position s t.trace.nodes
  before-it = omega (arith, cursor-before cursor s front left tail t kept l f)

  pub cut-write-lies : (new : Tables) (p : Place) (v : Word) → node_at s t.trace.nodes ≡ Some (Write p v) → new.trace.nodes ≡ without_entry s t.trace.nodes
      → ((c : ℕ) → position c t.trace.nodes < position s t.trace.nodes → QueuedAfter c t → QueuedAfter c new) → Lies cursor front (cut left) tail new
  cut-write-lies new p v n e late =
      lies-now cursor front left tail t kept l new (cut left) (e ∙ one-less cursor s front left tail t kept l f (ap is_read n)) (late cursor before-it l.late)

  pub cut-read-lies : (new : Tables) (e : ℕ) → is_read (node_at s t.trace.nodes) ≡ true → end_in s t.trace.nodes ≡ Some e → new.trace.nodes ≡ without_entry e (without_entry s t.trace.nodes)
      → ((c : ℕ) → position c t.trace.nodes < position s t.trace.nodes → QueuedAfter c new) → Lies cursor front (cut left) tail new
  cut-read-lies new e k h nodes late = lies-now cursor front left tail t kept l new (cut left) (nodes ∙ both-less cursor s front left tail t kept l f k e h) (late cursor before-it)

distinct-without : (s : ℕ) (es : List Entry) → order.Distinct (stamps_in es) → order.Distinct (stamps_in (without_entry s es))
distinct-without s [] d = tt
distinct-without s (e ∷ es) d = elim (eqb_tells e.stamp s) [
  | inl p ↦ rw p.0 d.1
  | inr p ↦ rw p.0 (without-notin e.stamp s es d.0, distinct-without s es d.1)
]
  where
    without-notin : (r s : ℕ) (es : List Entry) → order.NotIn r (stamps_in es) → order.NotIn r (stamps_in (without_entry s es))
    without-notin r s [] n = tt
    without-notin r s (e ∷ es) n = elim (eqb_tells e.stamp s) [ inl p ↦ rw p.0 n.1 | inr p ↦ rw p.0 (n.0, without-notin r s es n.1) ]

count-plain : (n : Node) (c : ℕ) → ((bs : List ℕ) → node_blocks n bs ≡ bs) → count c (node_blocks n []) ≡ 0
count-plain n c h = ap (count c) (h [])

-- a write is taken out, or a read with its end
pub write-has : (code : Code) (inputs : List Block) (heap : Contents) (old new : Tables) (s : ℕ) (p : Place) (v : Word) → order.Distinct (stamps_in old.trace.nodes)
    → node_at s old.trace.nodes ≡ Some (Write p v)
    → new.trace.nodes ≡ without_entry s old.trace.nodes → ((p : Place) → base_in new.mods p ≡ base_in old.mods p) → HasBlocks code inputs heap old → HasBlocks code inputs heap new
write-has code inputs heap old new s p v d n e b h =
    has-fewer-nodes code inputs heap heap old new b (λ c field. refl) (λ c. refl) was
    (lives-still heap old.trace.nodes new.trace.nodes (λ c. ap (λ es. count c (blocks_at es)) e ∙ (let k = blocks-without s (Write p v) c old.trace.nodes n in omega (arith, k))) was h.lives) h
  where
    was : (u : ℕ) (m : Node) → node_at u new.trace.nodes ≡ Some m → node_at u old.trace.nodes ≡ Some m
    was u m k = node-left s u m old.trace.nodes d (ap (node_at u) (sym e) ∙ k)

read-counts : (o : Option Node) → is_read o ≡ true → (n : Node) × (o ≡ Some n) × ((bs : List ℕ) → node_blocks n bs ≡ bs)
read-counts None h = absurd (cc)
read-counts (Some Root) h = absurd (cc)
read-counts (Some (Alloc b key)) h = absurd (cc)
read-counts (Some (Write p v)) h = absurd (cc)
read-counts (Some (Read p v u x args)) h = (Read p v u x args, refl, λ bs. refl)
read-counts (Some (End r)) h = absurd (cc)

pub read-has : (code : Code) (inputs : List Block) (heap : Contents) (old new : Tables) (s e : ℕ) → Kept old → is_read (node_at s old.trace.nodes) ≡ true → end_in s old.trace.nodes ≡ Some e
    → new.trace.nodes ≡ without_entry e (without_entry s old.trace.nodes) → ((p : Place) → base_in new.mods p ≡ base_in old.mods p) → HasBlocks code inputs heap old → HasBlocks code inputs heap new
read-has code inputs heap old new s e kept r found nodes b h =
    has-fewer-nodes code inputs heap heap old new b (λ c field. refl) (λ c. refl) was
    (lives-still heap old.trace.nodes new.trace.nodes counts was h.lives) h
  where
    d : order.Distinct (stamps_in old.trace.nodes)
    d = kept.step.whole.order.distinct

    end-node : node_at e old.trace.nodes ≡ Some (End (stamp_of_number s))
    end-node = kept.step.whole.end_node e s found

    differs : e ≢ s
    differs k = let no : is_read (Some (End (stamp_of_number s))) ≡ true = subst (λ o. is_read o ≡ true) (ap (λ z. node_at z old.trace.nodes) (sym k) ∙ end-node) r in absurd (cc)

    end-left : node_at e (without_entry s old.trace.nodes) ≡ Some (End (stamp_of_number s))
    end-left = ap held_by (entry-left s e old.trace.nodes differs) ∙ end-node

    was : (u : ℕ) (m : Node) → node_at u new.trace.nodes ≡ Some m → node_at u old.trace.nodes ≡ Some m
    was u m k = node-left s u m old.trace.nodes d (node-left e u m (without_entry s old.trace.nodes) (distinct-without s old.trace.nodes d) (ap (node_at u) (sym nodes) ∙ k))

    counts : (c : ℕ) → count c (blocks_at new.trace.nodes) ≡ count c (blocks_at old.trace.nodes)
    counts c =
        let q = read-counts (node_at s old.trace.nodes) r in
        let one = blocks-without s q.0 c old.trace.nodes q.1 in
        let zero = count-plain q.0 c q.2 in
        let two = blocks-without e (End (stamp_of_number s)) c (without_entry s old.trace.nodes) end-left in
        ap (λ es. count c (blocks_at es)) nodes
        ∙ (let n : count c (blocks_at (without_entry e (without_entry s old.trace.nodes))) ≡ count c (blocks_at old.trace.nodes) = omega (arith, one, zero, two) in n)

pub alloc-has : (code : Code) (inputs : List Block) (heap heap' : Contents) (old new : Tables) (s : ℕ) (c : BlockId) (key : Key) → order.Distinct (stamps_in old.trace.nodes)
    → node_at s old.trace.nodes ≡ Some (Alloc c key)
    → new.trace.nodes ≡ without_entry s old.trace.nodes → ((p : Place) → base_in new.mods p ≡ base_in old.mods p) → standing heap' c ≡ revoked (standing heap c) → KeepsBlocks c heap heap'
    → HasBlocks code inputs heap old → HasBlocks code inputs heap' new
alloc-has code inputs heap heap' old new s c key d n e b gone others h =
    let r = alloc-revoked code.structs c key s heap heap' old.trace.nodes new.trace.nodes d n e gone others h.lives in
    has-fewer-nodes code inputs heap heap' old new b r.default r.same (λ u m k. node-left s u m old.trace.nodes d (ap (node_at u) (sym e) ∙ k)) r.lives h

-- ---- up to a node

first-is : (g : Grove) (tail : List Entry) (s : ℕ) → first_in (entries g ++ tail) ≡ Some s → (first_stamp g ≡ Some s) ⊎ ((g ≡ Bare) × (first_in tail ≡ Some s))
first-is Bare tail s h = inr (refl, h)
first-is (Made t b key n rest) tail s h = inl h
first-is (Put t p v n rest) tail s h = inl h
first-is (Got t p v u x args n inside e m rest) tail s h = inl h

starts-joined : (f g : Grove) → starts (joined f g) ≡ starts f ++ starts g
starts-joined Bare g = refl
starts-joined (Made s b key n rest) g = ap (λ ss. s ∷ ss) (starts-joined rest g)
starts-joined (Put s p v n rest) g = ap (λ ss. s ∷ ss) (starts-joined rest g)
starts-joined (Got s p v u x args n inside e m rest) g = ap (λ ss. s ∷ ss) (ap (λ ss. starts inside ++ ss) (starts-joined rest g) ∙ sym (append_assoc (starts inside) (starts rest) (starts g)))

later-in : (until t s : ℕ) (ss : List ℕ) → Some t ≡ Some s → s ≢ until → is_in until (t ∷ ss) ≡ true → is_in until ss ≡ true
later-in until t s ss e other h = elim (eqb_tells t until) [
  | inl p ↦ absurd (other (let same : t ≡ s = cc in sym same ∙ p.1))
  | inr p ↦ rw p.0 at h
]

starts-cut : (g : Grove) (until s : ℕ) → first_stamp g ≡ Some s → s ≢ until → is_in until (starts g) ≡ true → is_in until (starts (cut g)) ≡ true
starts-cut Bare until s f other h = absurd (cc)
starts-cut (Made t b key n rest) until s f other h = later-in until t s (starts rest) f other h
starts-cut (Put t p v n rest) until s f other h = later-in until t s (starts rest) f other h
starts-cut (Got t p v u x args n inside e m rest) until s f other h =
    subst (λ ss. is_in until ss ≡ true) (sym (starts-joined inside rest)) (later-in until t s (starts inside ++ starts rest) f other h)

successor-part : (e : Entry) (back front : List Entry) → has_node e.stamp front ≡ false → order.successor e.stamp (stamps_in (front ++ e ∷ back)) ≡ first_in back
successor-part e back [] h = rw (eq-eqb e.stamp e.stamp refl) (go back)
  where
    go : (back : List Entry) → order.head_of (stamps_in back) ≡ first_in back
    go [] = refl
    go (x ∷ xs) = refl
successor-part e back (x ∷ xs) h = elim (eqb_tells x.stamp e.stamp) [
  | inl p ↦ absurd (let bad : true ≡ false = rw p.0 at h in cc)
  | inr p ↦ rw p.0 (successor-part e back xs (rw p.0 at h))
]

pub next-is : (cursor : ℕ) (front : List Entry) (left : Grove) (tail : List Entry) (t : Tables) → Kept t → Lies cursor front left tail t
    → order.successor cursor (stamps_in t.trace.nodes) ≡ first_in (entries left ++ tail)
next-is cursor front left tail t kept l =
    ap (λ es. order.successor cursor (stamps_in es)) (front-nodes cursor front left tail t kept l)
    ∙ (ap (λ k. order.successor k (stamps_in (l.done ++ l.last ∷ (entries left ++ tail)))) (sym l.is_at)
    ∙ successor-part l.last (entries left ++ tail) l.done (last-not-done cursor front left tail t kept l))

pub cursor-there : (cursor : ℕ) (front : List Entry) (left : Grove) (tail : List Entry) (t : Tables) → Kept t → Lies cursor front left tail t → has_node cursor t.trace.nodes ≡ true
cursor-there cursor front left tail t kept l = has-held cursor l.last.node t.trace.nodes
    (ap (node_at cursor) (front-nodes cursor front left tail t kept l)
    ∙ (ap (λ k. node_at k (l.done ++ l.last ∷ (entries left ++ tail))) (sym l.is_at)
    ∙ ap held_by (entry-part l.last (entries left ++ tail) l.done (last-not-done cursor front left tail t kept l))))

-- What is left of nodes that are left over, where some of the first were revoked.
pub record LeftOf (cursor until : ℕ) (front : List Entry) (left : Grove) (tail : List Entry) (t : Tables) : Type 0 where
  pub rest : Grove
  pub lies : Lies cursor front rest tail t
  pub cuts : (h : Grove) → CutTo until rest h → CutTo until left h
  pub there : is_in until (starts left) ≡ true → is_in until (starts rest) ≡ true

pub until-still : (cursor until : ℕ) (front : List Entry) (left : Grove) (tail : List Entry) (t : Tables) (r : LeftOf cursor until front left tail t) → IsUntil until left tail
    → IsUntil until r.rest tail
until-still cursor until front left tail t r (inl h) = inl (r.there h)
until-still cursor until front left tail t r (inr h) = inr h

-- the node after the cursor is one of them, where it is not the one up to which they are revoked
pub is-first : (cursor until s : ℕ) (front : List Entry) (left : Grove) (tail : List Entry) (t : Tables) → Kept t → Lies cursor front left tail t → IsUntil until left tail
    → order.successor cursor (stamps_in t.trace.nodes) ≡ Some s → s ≢ until → first_stamp left ≡ Some s
is-first cursor until s front left tail t kept l u n other = go (first-is left tail s (sym (next-is cursor front left tail t kept l) ∙ n)) u
  where
    go : (first_stamp left ≡ Some s) ⊎ ((left ≡ Bare) × (first_in tail ≡ Some s)) → IsUntil until left tail → first_stamp left ≡ Some s
    go (inl f) u = f
    go (inr (e, f)) (inl i) = absurd (let bad : false ≡ true = subst (λ g. is_in until (starts g) ≡ true) e i in cc)
    go (inr (e, f)) (inr k) = absurd (other (let same : Some s ≡ Some until = sym f ∙ k in cc))

pub cut-more : (cursor until s : ℕ) (front : List Entry) (left : Grove) (tail : List Entry) (t new : Tables) (r : LeftOf cursor until front left tail t)
    → first_stamp r.rest ≡ Some s → s ≢ until → Lies cursor front (cut r.rest) tail new → LeftOf cursor until front left tail new
cut-more cursor until s front left tail t new r f other l = record {
  rest = cut r.rest;
  lies = l;
  cuts = λ h c. r.cuts h (more (λ e. other (let same : Some s ≡ Some until = sym f ∙ e in cc)) c);
  there = λ h. starts-cut r.rest until s f other (r.there h);
}

starts-some : (g : Grove) (s : ℕ) → is_in s (starts g) ≡ true → (tail : List Entry) → first_in (entries g ++ tail) ≡ first_stamp g
starts-some Bare s h tail = absurd (cc)
starts-some (Made t b key n rest) s h tail = refl
starts-some (Put t p v n rest) s h tail = refl
starts-some (Got t p v u x args n inside e m rest) s h tail = refl

first-some : (g : Grove) (s : ℕ) → is_in s (starts g) ≡ true → first_stamp g ≡ None → ⊥
first-some Bare s h e = absurd (cc)
first-some (Made t b key n rest) s h e = absurd (cc)
first-some (Put t p v n rest) s h e = absurd (cc)
first-some (Got t p v u x args n inside e m rest) s h k = absurd (cc)

in-later : (s : ℕ) (xs ys : List Entry) → has_node s ys ≡ true → has_node s (xs ++ ys) ≡ true
in-later s [] ys h = h
in-later s (x ∷ xs) ys h = elim (eqb_tells x.stamp s) [ inl p ↦ rw p.0 refl | inr p ↦ rw p.0 (in-later s xs ys h) ]

first-in-has : (es : List Entry) (s : ℕ) → first_in es ≡ Some s → has_node s es ≡ true
first-in-has [] s h = absurd (cc)
first-in-has (e ∷ es) s h = let same : e.stamp ≡ s = cc in rw (eq-eqb e.stamp s same) refl

-- ends-with : what the first node of a grove leaves after it ends with the tail
back-tail : (g : Grove) (s : ℕ) (f : first_stamp g ≡ Some s) (tail : List Entry) (u : ℕ) → has_node u tail ≡ true → has_node u (begins-with g s f tail).back ≡ true
unfolding begins-with
back-tail Bare s f tail u h = absurd (cc)
back-tail (Made t b key n rest) s f tail u h = in-later u (entries rest) tail h
back-tail (Put t p v n rest) s f tail u h = in-later u (entries rest) tail h
back-tail (Got t p v x y args n inside e m rest) s f tail u h = in-later u (entries inside ++ end_entry e t m ∷ entries rest) tail h

-- the node up to which nodes are revoked is after the cursor: it is the first of them, or all were revoked
module _ (cursor until : ℕ) (front : List Entry) (left : Grove) (tail : List Entry) (t : Tables) (kept : Kept t) (r : LeftOf cursor until front left tail t) where
  pub cut-there : is_in until (starts left) ≡ true → order.successor cursor (stamps_in t.trace.nodes) ≡ Some until → (rest : Grove) × CutTo until left rest × Lies cursor front rest tail t
  cut-there i n = (r.rest, r.cuts r.rest (there (sym (starts-some r.rest until (r.there i) tail) ∙ (sym (next-is cursor front r.rest tail t kept r.lies) ∙ n))), r.lies)

  pub cut-all : first_in tail ≡ Some until → order.successor cursor (stamps_in t.trace.nodes) ≡ Some until → Lies cursor front Bare tail t
  cut-all i n = elim (first-is r.rest tail until (sym (next-is cursor front r.rest tail t kept r.lies) ∙ n)) [
    | inl f ↦ absurd (
        let d = whole-distinct cursor until front r.rest tail t kept r.lies f in
        let none = not_behind front (entry until (begins-with r.rest until f tail).node (begins-with r.rest until f tail).steps) (begins-with r.rest until f tail).back d in
        let bad : true ≡ false = sym (back-tail r.rest until f tail until (first-in-has tail until i)) ∙ none in cc)
    | inr q ↦ subst (λ g. Lies cursor front g tail t) q.0 r.lies
  ]

  pub not-none : IsUntil until left tail → order.successor cursor (stamps_in t.trace.nodes) ≡ None → ⊥
  not-none u n = go (until-still cursor until front left tail t r u)
    where
      go : IsUntil until r.rest tail → ⊥
      go (inl h) = first-some r.rest until h (sym (starts-some r.rest until h tail) ∙ (sym (next-is cursor front r.rest tail t kept r.lies) ∙ n))
      go (inr k) =
          let none : first_in (entries r.rest ++ tail) ≡ None = sym (next-is cursor front r.rest tail t kept r.lies) ∙ n in
          nothing (entries r.rest) none k
        where
          nothing : (xs : List Entry) → first_in (xs ++ tail) ≡ None → first_in tail ≡ Some until → ⊥
          nothing [] e k = let bad : Some until ≡ None = sym k ∙ e in absurd (cc)
          nothing (x ∷ xs) e k = absurd (cc)
