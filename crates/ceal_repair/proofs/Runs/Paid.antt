-- What is re-executed pays for what is looked at.
use Rattle.std.proofs.Common.{◌≡◌, ◌≤◌, ◌<◌, ◌+◌, ◌*◌, ℕ, zero, suc, inl, inr, List, [], ◌∷◌, ◌++◌, ◌≢◌, Bool, true, false, Option, Some, None, subst, Result, Ok, Err, OnOk, refl, sym, ap, ◌∙◌, arith}
use Rattle.std.proofs.Math.Nat.{min-le_left, min-le_right, le-min, eq-or-lt_of_le}
use Rattle.std.proofs.lemmas.Bool.{cases_lt}
use Rattle.std.proofs.lemmas.Bool.Decides.{eqb_tells}
use Rattle.std.specs.Prelude.{min, ◌-◌, ◌^◌, length}
use Rattle.ceal_base.specs.declared.word.Word.{Word}
use Rattle.ceal_base.specs.declared.word.Place.{Place}
use Rattle.ceal_code.proofs.Words.SameIsEqual.{some-same, none-some}
use Rattle.ceal_mods.specs.Mods.{Contents}
use Rattle.ceal_order.proofs.Places.{in_head, in_tail, length-without, other_left}
use Rattle.ceal_order.specs.Rising.{IsRising, IsBeforeAll}
use Rattle.ceal_order.specs.Stamps.{is_in, place, without, head_of}
use Rattle.ceal_repair.proofs.TableCalls.FewLooks.{owed-same, counts-still, counts-then}
use Rattle.ceal_repair.specs.Looks.{looks_owed, touched_owed, touched_ahead, ends_ahead, due, raised, Account, Comes, Distance, CountsOn, NoneDiffers, OneDiffers, writes_at, write_count, PaysBut}
use Rattle.ceal_repair.specs.Looks.{Pays, PaysFirst, LooksNever}
use Rattle.ceal_repair.proofs.Lists.PartedLists.{false-of}
use Rattle.ceal_repair.proofs.Runs.Nearness.{came-as, came-steps, came-value, came-start, came-end, reuses-as, is-later}
use Rattle.ceal_repair.proofs.TableCalls.CutKeepsTables.{unqueued-honest}
use Rattle.ceal_repair.specs.Distance.{CameTo}
use Rattle.ceal_repair.specs.Kept.{Kept, IsStale, Records, QueuedAfter, contents_at}
use Rattle.ceal_repair.specs.Lists.{nodes_after, stamps_where}
use Rattle.ceal_trace.proofs.Entries.{has-held}
use Rattle.ceal_repair.specs.Propagation.{Concludes}
use Rattle.ceal_repair.specs.Repairs.{account, left_nodes, StaysAnew}
use Rattle.ceal_repair.specs.declared.advance.Progress.{Progress}
use Rattle.ceal_repair.specs.declared.advance.Progress.TheVariants.{More, Done, Spent, OutOfFuel}
use Rattle.ceal_repair.specs.declared.frame.Frame.{Frame}
use Rattle.ceal_repair.specs.declared.frame.Frame.TheVariants.{Begun as CodeBegun, Taken as CodeTaken, Kept as CodeKept}
use Rattle.ceal_repair.specs.declared.repair.Repair.{Repair}
use Rattle.ceal_repair.specs.declared.running.Running.{Running}
use Rattle.ceal_repair.specs.declared.tables.Tables.{Tables}
use Rattle.std.proofs.lemmas.Bool.{eq-eqb}
use Rattle.ceal_trace.specs.Nodes.{Entry, is_read, node_at, position, stamps_in, changed_at, valued, value_set, steps_set, with_value, with_steps, with_entry_after, new_entry}
use Rattle.ceal_trace.specs.declared.node.Node.{Node}
use Rattle.ceal_trace.specs.declared.node.Node.TheVariants.{Root, Alloc, Write, Read, End}

-- ---- the writes of the nodes

count-changed : (s : ℕ) (change : Entry → Entry) (es : List Entry) → ((e : Entry) → writes_at (change e).node ≡ writes_at e.node) → write_count (changed_at s change es) ≡ write_count es
count-changed s change [] same = refl
count-changed s change (e ∷ es) same = elim (eqb_tells e.stamp s) [
  | inl p ↦ rw p.0 (ap (λ n. n + write_count es) (same e))
  | inr p ↦ rw p.0 (ap (λ n. writes_at e.node + n) (count-changed s change es same))
]

count-put : (s : ℕ) (new : Entry) (es : List Entry) → write_count (with_entry_after s new es) ≤ writes_at new.node + write_count es
count-put s new [] = omega arith
count-put s new (e ∷ es) = elim (eqb_tells e.stamp s) [
  | inl p ↦ rw p.0 (omega arith)
  | inr p ↦ rw p.0 (let a = count-put s new es in omega (arith, a))
]

valued-same : (w : Word) (n : Node) → writes_at (valued w n) ≡ writes_at n
valued-same w Root = refl
valued-same w (Alloc b key) = refl
valued-same w (Write p v) = refl
valued-same w (Read p v u x args) = refl
valued-same w (End r) = refl

-- ---- what is due after a call

pub due-steps : (a b : Tables) (s n : ℕ) → b.trace.nodes ≡ with_steps s n a.trace.nodes → b.mods ≡ a.mods → b.stale ≡ a.stale → due b ≤ due a
due-steps a b s n nodes mods stale =
    let o = owed-same a b mods stale in
    let k = ap write_count nodes ∙ count-changed s (steps_set n) a.trace.nodes (λ e. refl) in omega (arith, o, k)

pub due-value : (a b : Tables) (s : ℕ) (w : Word) (n : ℕ) → b.trace.nodes ≡ with_value s w a.trace.nodes → looks_owed b ≤ looks_owed a + n → due b ≤ due a + n
due-value a b s w n nodes o =
    let k = ap write_count nodes ∙ count-changed s (value_set w) a.trace.nodes (λ e. valued-same w e.node) in omega (arith, o, k)

pub due-put : (a b : Tables) (s z : ℕ) (node : Node) (n : ℕ) → b.trace.nodes ≡ with_entry_after s (new_entry z node) a.trace.nodes → looks_owed b ≤ looks_owed a + n
    → due b ≤ due a + n + 3 * writes_at node
due-put a b s z node n nodes o =
    let k = ap write_count nodes in
    let m = count-put s (new_entry z node) a.trace.nodes in omega (arith, o, k, m)

pub due-same : (a b : Tables) → b.trace ≡ a.trace → looks_owed b ≤ looks_owed a → due b ≤ due a
due-same a b e o = let k = ap (λ t. write_count t.nodes) e in omega (arith, o, k)

-- ---- what is paid

-- no node is new, and none has another value
abbrev pub SameNodes : Account → Account → Type 0
SameNodes a b = (o : List Entry) (f s : ℕ) → Comes o f s a → Comes o f s b

none-new : (a b : Account) → SameNodes a b → (m n : ℕ) → m ≡ 0 → n ≡ 0 → (o : List Entry) (f s : ℕ) → Comes o f s a → Comes o (f + m) (s + n) b
none-new a b h m n e k o f s r = came-as o (omega (arith, e)) (omega (arith, k)) (h o f s r)

pub stays : (a b : Account) → due b.tables ≤ due a.tables → touched_owed b.tables + b.ahead ≤ touched_owed a.tables + a.ahead → b.spent ≡ a.spent → NoneDiffers a.tables b.tables
    → CountsOn a.tables b.tables → b.ends ≤ a.ends → SameNodes a b → Pays a b
stays a b d t s n k h r = record {
  counts = k;
  stale = 0;
  differed = n;
  looks = omega (arith, d, s);
  touches = omega (arith, t, s);
  fresh = 0;
  few = omega (arith, h, s);
  comes = none-new a b r 0 0 refl refl;
}

pub step-pays : (a b : Account) (n : ℕ) → b.tables.trace.nodes ≡ with_steps a.cursor n a.tables.trace.nodes → b.tables.mods ≡ a.tables.mods → b.tables.stale ≡ a.tables.stale → b.spent ≡ a.spent + 1
    → touched_owed b.tables ≤ touched_owed a.tables + 1 → b.ahead ≡ a.ahead + 4 → b.ends ≡ a.ends + 2 → b.cursor ≡ a.cursor → CountsOn a.tables b.tables → PaysBut 5 a b
step-pays a b n nodes mods stale spent t h e is k =
    let d = due-steps a.tables b.tables a.cursor n nodes mods stale in
    record {
      counts = k;
      stale = 0;
      differed = ap (λ (c : Contents). c.differed) mods;
      looks = omega (arith, d, spent);
      touches = omega (arith, t, h, spent);
      fresh = 0;
      few = omega (arith, e, spent);
      comes = none-new a b (λ o f s r. subst (λ (c : ℕ). CameTo o f s c b.tables.trace.nodes) (sym is) (came-steps o f s a.cursor n a.tables.trace.nodes b.tables.trace.nodes nodes r)) 0 0 refl refl;
    }

-- with m new nodes
pub spends : (n m : ℕ) (a b c : Account) → PaysBut n a b → due c.tables ≤ due b.tables + n → touched_owed c.tables + c.ahead ≤ touched_owed b.tables + b.ahead → c.spent ≡ b.spent
    → NoneDiffers b.tables c.tables → CountsOn b.tables c.tables → m + c.ends ≤ b.ends → ((o : List Entry) (f s : ℕ) → Comes o f s b → Comes o (f + m) s c) → Pays a c
spends n m a b c p d t s q k h r = record {
  counts = counts-then a.tables b.tables c.tables p.counts k;
  stale = p.stale;
  differed = q ∙ p.differed;
  looks = let l = p.looks in omega (arith, l, d, s);
  touches = let l = p.touches in omega (arith, l, t, s);
  fresh = p.fresh + m;
  few = let l = p.few in omega (arith, l, h, s);
  comes = λ o f z g. came-as o (omega arith) refl (r o (f + p.fresh) (z + p.stale) (p.comes o f z g));
}

-- without any
pub none-put : (b c : Account) → SameNodes b c → (o : List Entry) (f s : ℕ) → Comes o f s b → Comes o (f + 0) s c
none-put b c h o f s r = came-as o (omega arith) refl (h o f s r)

pub pays-self : (a : Account) → Pays a a
pays-self a = stays a a (omega arith) (omega arith) refl refl (counts-still a.tables a.tables refl refl refl) (omega arith) (λ o f s h. h)

-- a node is put in whose touches are paid
pub puts : (a c : Account) → due c.tables ≤ due a.tables → touched_owed c.tables + c.ahead ≤ touched_owed a.tables + a.ahead → c.spent ≡ a.spent → NoneDiffers a.tables c.tables
    → CountsOn a.tables c.tables → 1 + c.ends ≤ a.ends → ((o : List Entry) (f s : ℕ) → Comes o f s a → Comes o (f + 1) s c) → Pays a c
puts a c d t s q k h r = spends 0 1 a a c (pays-self a) (omega (arith, d)) t s q k h r

-- ---- counts that stay at the end of their type

raised-more : (m n c : ℕ) → raised n (raised m c) ≡ raised (m + n) c
raised-more zero n c = let e : 0 + n ≡ n = omega arith in rw e refl
raised-more (suc m) n c = let e : suc m + n ≡ suc (m + n) = omega arith in rw e (raised-more m n (min (c + 1) (2 ^ 64 - 1)))

pub pays-both : (n m k : ℕ) (a b c : Account) → PaysBut n a b → PaysBut m b c → k ≤ n + m → PaysBut k a c
pays-both n m k a b c p q h = record {
  counts = counts-then a.tables b.tables c.tables p.counts q.counts;
  stale = p.stale + q.stale;
  differed = q.differed ∙ (ap (raised q.stale) p.differed ∙ raised-more p.stale q.stale a.tables.mods.differed);
  looks = let l = p.looks in let m = q.looks in omega (arith, l, m, h);
  touches = let l = p.touches in let m = q.touches in omega (arith, l, m);
  fresh = p.fresh + q.fresh;
  few = let l = p.few in let m = q.few in omega (arith, l, m);
  comes = λ o f z g. came-as o (omega arith) (omega arith) (q.comes o (f + p.fresh) (z + p.stale) (p.comes o f z g));
}

pub pays-then : (n : ℕ) (a b c : Account) → PaysBut n a b → Pays b c → PaysBut n a c
pays-then n a b c p q = pays-both n 0 n a b c p q (omega arith)

one-more : (d n : ℕ) → n ≡ min (d + 1) (2 ^ 64 - 1) → n < 2 ^ 64 - 1 → n ≡ d + 1
one-more d n e l = elim (eq-or-lt_of_le (min-le_left (d + 1) (2 ^ 64 - 1))) [
  | inl h ↦ e ∙ h
  | inr h ↦ absurd (let k : n + 1 ≤ min (d + 1) (2 ^ 64 - 1) = le-min (omega (arith, e, h)) (omega (arith, l)) in omega (arith, e, k))
]

-- what is within the type does not fall
raised-least : (n c : ℕ) → c ≤ 2 ^ 64 - 1 → c ≤ raised n c
raised-least zero c few = omega arith
raised-least (suc n) c few =
    let m : c ≤ min (c + 1) (2 ^ 64 - 1) = le-min (omega arith) few in
    let k = raised-least n (min (c + 1) (2 ^ 64 - 1)) (min-le_right (c + 1) (2 ^ 64 - 1)) in omega (arith, m, k)

-- where the end of the type was not reached, each time was counted
pub raised-all : (n c : ℕ) → raised n c < 2 ^ 64 - 1 → raised n c ≡ c + n
raised-all zero c l = omega arith
raised-all (suc n) c l =
    let up = raised-least n (min (c + 1) (2 ^ 64 - 1)) (min-le_right (c + 1) (2 ^ 64 - 1)) in
    let one = one-more c (min (c + 1) (2 ^ 64 - 1)) refl (omega (arith, up, l)) in
    let rest = raised-all n (min (c + 1) (2 ^ 64 - 1)) l in omega (arith, rest, one)

-- what did not rise was not counted at all
raised-none : (n c : ℕ) → c < 2 ^ 64 - 1 → raised n c ≡ c → n ≡ 0
raised-none n c few same = let all = raised-all n c (omega (arith, few, same)) in omega (arith, all, same)

-- what is left over need not be spent
pub pays-less : (n : ℕ) (a b : Account) → PaysBut n a b → Pays a b
pays-less n a b p = record {
  counts = p.counts;
  stale = p.stale;
  differed = p.differed;
  looks = let l = p.looks in omega
      (arith, l);
  touches = p.touches;
  fresh = p.fresh;
  few = p.few;
  comes = p.comes;
}

-- a content that differed pays for its look, and for one more; and for two touches, and its read has another value
pub one-left : (a b : Account) → due b.tables ≤ due a.tables + 1 → touched_owed b.tables + b.ahead ≤ touched_owed a.tables + a.ahead + 2 → b.spent ≡ a.spent → OneDiffers a.tables b.tables
    → CountsOn a.tables b.tables → b.ends ≤ a.ends → ((o : List Entry) (f s : ℕ) → Comes o f s a → Comes o f (s + 1) b) → PaysBut 1 a b
one-left a b d t s m k h r = record {
  counts = k;
  stale = 1;
  differed = m;
  looks = omega (arith, d, s);
  touches = omega (arith, t, s);
  fresh = 0;
  few = omega (arith, h, s);
  comes = λ o f z g. came-as o (omega arith) refl (r o f z g);
}

pub one-pays : (a b : Account) → due b.tables ≤ due a.tables + 1 → touched_owed b.tables + b.ahead ≤ touched_owed a.tables + a.ahead + 2 → b.spent ≡ a.spent → OneDiffers a.tables b.tables
    → CountsOn a.tables b.tables → b.ends ≤ a.ends → ((o : List Entry) (f s : ℕ) → Comes o f s a → Comes o f (s + 1) b) → Pays a b
one-pays a b d t s m k h r = pays-less 1 a b (one-left a b d t s m k h r)

-- a read that was found stale after the cursor
pub found-stale : (a : Account) (t : Tables) (read n m : ℕ) → Kept a.tables → IsStale read a.tables → (p : Place) (v : Word) → Records p v (node_at read a.tables.trace.nodes)
    → t.trace.nodes ≡ with_value read (contents_at read a.tables p) a.tables.trace.nodes → is_in read (stamps_in (nodes_after a.cursor a.tables.trace.nodes)) ≡ true
    → (o : List Entry) (f s : ℕ) → Comes o f s a → Comes o f (s + 1) (record a { tables = t; cursor = read; ahead = n; ends = m })
found-stale a t read n m kept stale p v is nodes after o f s h =
    let r = stale.read in
    let both = some-same (Read p v is.unit is.var is.args) (Read stale.place stale.value r.unit r.var r.args) (sym is.is ∙ r.is) in
    let place : p ≡ stale.place = cc in
    let value : v ≡ stale.value = cc in
    came-value o f s a.cursor read p v (contents_at read a.tables p) is.unit is.var is.args a.tables.trace.nodes t.trace.nodes nodes kept.step.whole.order.distinct after is.is
    (λ e. stale.differs (sym value ∙ (e ∙ ap (contents_at read a.tables) place))) h

-- it is after a node up to which none is queued
pub stale-after : (t : Tables) → Kept t → (c read : ℕ) → QueuedAfter c t → IsStale read t → is_in read (stamps_in (nodes_after c t.trace.nodes)) ≡ true
stale-after t kept c read late stale =
    is-later c read t.trace.nodes
    (elim (cases_lt (position c t.trace.nodes) (position read t.trace.nodes)) [
      | inl l ↦ l
      | inr l ↦ absurd (stale.differs (unqueued-honest t kept read (false-of (is_in read t.stale.stamps) (λ i. let m = late read i in absurd (omega (arith, m, l))))
          (λ z i. let m = late z i in omega (arith, m, l))
          stale.place stale.value stale.read))
    ]) (has-held read _ t.trace.nodes stale.read.is)

-- ---- frames

-- a frame is put on others
pub ahead-more : (fs : List Frame) (f : Frame) → touched_ahead (fs ++ f ∷ []) ≡ touched_ahead fs + touched_ahead (f ∷ [])
ahead-more [] f = omega arith
ahead-more (CodeBegun below read ∷ fs) f = let n = ahead-more fs f in omega (arith, n)
ahead-more (CodeTaken below limit ∷ fs) f = let n = ahead-more fs f in omega (arith, n)
ahead-more (CodeKept until ∷ fs) f = ahead-more fs f

pub ends-more : (fs : List Frame) (f : Frame) → ends_ahead (fs ++ f ∷ []) ≡ ends_ahead fs + ends_ahead (f ∷ [])
ends-more [] f = omega arith
ends-more (CodeBegun below read ∷ fs) f = let n = ends-more fs f in omega (arith, n)
ends-more (CodeTaken below limit ∷ fs) f = ends-more fs f
ends-more (CodeKept until ∷ fs) f = ends-more fs f

-- a frame is taken off
pub off-frames : (gs fs : List Frame) (f g : Frame) → gs ≡ fs ++ f ∷ [] → f ≡ g
    → (touched_ahead gs ≡ touched_ahead fs + touched_ahead (g ∷ [])) × (ends_ahead gs ≡ ends_ahead fs + ends_ahead (g ∷ []))
off-frames gs fs f g e is = (
  ap touched_ahead e ∙ (ahead-more fs f ∙ ap (λ (h : Frame). touched_ahead fs + touched_ahead (h ∷ [])) is),
  ap ends_ahead e ∙ (ends-more fs f ∙ ap (λ (h : Frame). ends_ahead fs + ends_ahead (h ∷ [])) is),
)

-- and its end is still to come
pub pays-off : (a b : Account) (n m : ℕ) → a.ahead ≡ n → a.ends ≡ m → Pays (record a { ahead = n; ends = m }) b → Pays a b
pays-off a b n m e k p = record {
  counts = p.counts;
  stale = p.stale;
  differed = p.differed;
  looks = p.looks;
  touches = let t = p.touches in omega (arith, t, e);
  fresh = p.fresh;
  few = let t = p.few in omega (arith, t, k);
  comes = p.comes;
}

pub on-ok : {A E P Q : Type 0} (r : Result A E) → (P → Q) → OnOk r P → OnOk r Q
on-ok (Ok x) f p = f p
on-ok (Err x) f p = p

-- ---- a queue that has no more

all-behind : (order : List ℕ) (x : ℕ) (xs : List ℕ) → IsBeforeAll order x xs → (z : ℕ) → is_in z xs ≡ true → place x order < place z order
all-behind order x [] b z i = absurd (let no : false ≡ true = i in cc)
all-behind order x (t ∷ ts) b z i = elim (eqb_tells t z) [
  | inl q ↦ subst (λ y. place x order < place y order) q.1 b.0
  | inr q ↦ all-behind order x ts b.1 z (rw q.0 at i)
]

apart-from : (order : List ℕ) (x z : ℕ) → place x order < place z order → z ≢ x
apart-from order x z l e = absurd (let no : place x order < place x order = subst (λ y. place x order < place y order) e l in omega (arith, no))

pub no-longer : (order xs ys : List ℕ) → IsRising order xs → ((r : ℕ) → is_in r xs ≡ true → is_in r ys ≡ true) → length xs ≤ length ys
no-longer order [] ys r h = omega arith
no-longer order (x ∷ xs) ys r h =
    let rest = no-longer order xs (without x ys) r.2 (λ z i. other_left x z ys (h z (in_tail z x xs i)) (apart-from order x z (all-behind order x xs r.1 z i))) in
    let long = length-without x ys (h x (in_head x xs)) in omega (arith, rest, long)

-- a block is made
pub due-made : (a b : Tables) → b.trace ≡ a.trace → b.mods.looked ≡ a.mods.looked → (order : List ℕ) → IsRising order b.stale.stamps
    → ((r : ℕ) → is_in r b.stale.stamps ≡ true → is_in r a.stale.stamps ≡ true) → due b ≤ due a
due-made a b e l order r h =
    let k = ap (λ t. write_count t.nodes) e in
    let n = no-longer order b.stale.stamps a.stale.stamps r h in omega (arith, k, l, n)

-- only the tables and the steps of a run matter
pub distance-as : (a a' b b' : Running) → a.tables ≡ a'.tables → a.spent ≡ a'.spent → b.tables ≡ b'.tables → b.spent ≡ b'.spent → Distance a b → Distance a' b'
distance-as a a' b b' t s u v h = record {
  counts = rw (← t, ← u) h.counts;
  fresh = h.fresh;
  stale = h.stale;
  reuses = rw (← t, ← u) h.reuses;
  few = rw (← s, ← v) h.few;
  differed = rw (← t, ← u) h.differed;
  looks = rw (← t, ← s, ← u, ← v) h.looks;
  touches = rw (← t, ← s, ← u, ← v) h.touches;
}

-- a repair that begins without frames
pub pays-settled : (a b : Repair) → Kept a.running.now.tables → a.frames.now.items ≡ [] → Pays (account a) (account b) → Distance a.running.now b.running.now
pays-settled a b kept none p =
    let nodes : List Entry = a.running.now.tables.trace.nodes in
    let t = p.touches in
    let n = ap touched_ahead none in
    let m = ap ends_ahead none in
    let f = p.few in
    record {
      counts = record { looked = p.counts.looked; differed = p.counts.differed; touched = p.counts.touched; grows = p.counts.grows; seed = p.counts.seed };
      fresh = p.fresh;
      stale = p.stale;
      reuses = reuses-as nodes (omega arith) (omega arith)
          (came-end nodes (0 + p.fresh) (0 + p.stale) b.cursor.0 b.running.now.tables.trace.nodes (p.comes nodes 0 0 (came-start a.cursor.0 nodes kept.step.whole.order.distinct)));
      few = omega (arith, f, m);
      differed = p.differed;
      looks = let l = p.looks in omega (arith, l);
      touches = omega (arith, t, n);
    }

-- a run from nothing
pub first-pays : (a : Running) → a.tables.trace.nodes ≡ new_entry 0 Root ∷ [] → a.tables.stale.stamps ≡ [] → LooksNever a.tables → a.spent ≡ 0 → (b c a' : Running) → a'.tables ≡ a.tables
    → a'.spent ≡ a.spent → c.tables ≡ b.tables → c.spent ≡ b.spent
    → Distance a' b → NoneDiffers a'.tables b.tables → PaysFirst c
first-pays a nodes queue looks spent b c a' t s u v pays same =
    let p = distance-as a' a b c t s (sym u) (sym v) pays in
    let l = p.looks in
    let h = p.touches in
    let n = ap write_count nodes in
    let m = ap (λ (es : List Entry). length es) nodes in
    let q = ap (λ (xs : List ℕ). length xs) queue in
    let d : c.tables.mods.differed ≡ a.tables.mods.differed = ap (λ (x : Tables). x.mods.differed) u ∙ (same ∙ ap (λ (x : Tables). x.mods.differed) t) in
    let none = raised-none p.stale a.tables.mods.differed (let z = looks.differed in omega (arith, z)) (sym p.differed ∙ d) in
    record {
      looks = omega (arith, l, n, q, looks.looked, none, spent);
      differed = d ∙ looks.differed;
      touches = omega (arith, h, m, looks.touched, none, spent);
      room = λ few. elim ((p.counts.grows few).room) [
        | inl r ↦ omega (arith, r, m, looks.spare)
        | inr r ↦ omega (arith, r, h, m, looks.touched, none, spent)
      ];
    }

-- ---- turns, of each of which one look is left over

pub due-one : (a b : Tables) → b.trace ≡ a.trace → looks_owed b ≤ looks_owed a + 1 → due b ≤ due a + 1
due-one a b e o = let k = ap (λ t. write_count t.nodes) e in omega (arith, o, k)

-- a turn more
pub turn-pays : (n : ℕ) (a b c : Account) → PaysBut n a b → PaysBut 1 b c → PaysBut (n + 1) a c
turn-pays n a b c p q = pays-both n 1 (n + 1) a b c p q (omega arith)

-- so it is with a run that has ended
pub pays-concluded : (p : Progress) (fuel n m k : ℕ) (a : Account) (b c : Running) → Concludes p fuel b c → Pays a (record { tables = b.tables; cursor = k; spent = b.spent; ahead = n; ends = m })
    → Pays a (record { tables = c.tables; cursor = k; spent = c.spent; ahead = n; ends = m })
pays-concluded More fuel n m k a b c h pays = absurd h
pays-concluded Done fuel n m k a b c h pays = rw (h.tables, h.spent) pays
pays-concluded Spent fuel n m k a b c h pays = absurd h
pays-concluded OutOfFuel fuel n m k a b c h pays = subst (λ (r : Running). Pays a (record { tables = r.tables; cursor = k; spent = r.spent; ahead = n; ends = m })) (sym h.0) pays

-- ---- a run from nothing, which has no limit

pub has-limit : {A Q : Type 0} (o : Option A) (x : A) → o ≡ Some x → o ≡ None → Q
has-limit o x is none = none-some x (sym none ∙ is)

pub none-left : {Q : Type 0} (r : Repair) (holds : Node → Bool) (s : ℕ) → r.limit ≡ None → head_of (stamps_where holds (left_nodes r)) ≡ Some s → Q
none-left r holds s none found = none-some s (rw none at found)

pub if-ok : {A E Q : Type 0} (r : Result A E) → Q → OnOk r Q
if-ok (Ok x) q = q
if-ok (Err x) q = tt

-- it stays so
pub anew-then : (a b c : Repair) → StaysAnew a b → StaysAnew b c → StaysAnew a c
anew-then a b c p q = λ none. let s = p none in let t = q s.0 in (t.0, t.1 ∙ s.1)

-- nothing that is queued is the root
pub root-late : (t : Tables) → Kept t → (c : ℕ) → head_of (stamps_in t.trace.nodes) ≡ Some c → QueuedAfter c t
root-late t kept c first s i = go t.trace.nodes first (kept.step.queued s i) (kept.step.whole.first_root c first)
  where
    go : (es : List Entry) → head_of (stamps_in es) ≡ Some c → is_read (node_at s es) ≡ true → node_at c es ≡ Some Root → position c es < position s es
    go [] f r n = none-some c f
    go (e ∷ es) f r n =
        let own : e.stamp ≡ c = some-same e.stamp c f in
        elim (eqb_tells e.stamp s) [
          | inl p ↦ absurd (let no : is_read (Some Root) ≡ true = subst (λ o. is_read o ≡ true) (subst (λ (z : ℕ). node_at z (e ∷ es) ≡ Some Root) (sym own ∙ p.1) n) r in cc)
          | inr p ↦ rw (own, eq-eqb c c refl, rw own at p.0) (omega arith)
        ]
