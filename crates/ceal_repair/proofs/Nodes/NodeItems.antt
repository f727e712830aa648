-- Nodes in front of the cursor and after it, and what they stand for.
use Rattle.std.proofs.Common.{◌≡◌, ℕ, zero, suc, inl, inr, ◌⊎◌, ◌+◌, ◌≤◌, Bool, true, false, if◌then◌else◌, Option, Some, None, List, [], ◌∷◌, ◌++◌, length, refl, sym, ap, subst, ◌∙◌, arith}
use Rattle.std.proofs.Common.{append_assoc, append-nil, add-one}
use Rattle.std.specs.Prelude.{⊤, IsSome}
use Rattle.std.proofs.lemmas.Bool.Decides.{eqb_tells}
use Rattle.std.proofs.lemmas.Bool.{eq-eqb}
use Rattle.ceal_base.specs.Operators.{same_place}
use Rattle.ceal_base.specs.declared.forest.Item.{Item}
use Rattle.ceal_base.specs.declared.forest.Item.TheVariants as item
use Rattle.ceal_base.specs.Trace.{Trace, Nothing, Stepped, Allocated, Wrote, WasRead, flat, blocks_of}
use Rattle.ceal_base.specs.declared.forest.UnitId.{UnitId}
use Rattle.ceal_base.specs.declared.word.BlockId.{BlockId}
use Rattle.ceal_base.specs.declared.word.BlockId.TheVariants.{Input, Core}
use Rattle.ceal_base.specs.declared.word.Place.{Place}
use Rattle.ceal_base.specs.declared.word.Word.{Word}
use Rattle.ceal_code.specs.Known.{Subset}
use Rattle.ceal_code.specs.Replay.{Store, In, here, there, core_numbers, stored, KnownBlock}
use Rattle.ceal_order.specs.Stamps.{NotIn, Distinct, is_in}
use Rattle.ceal_code.specs.Step.{Stack}
use Rattle.ceal_order.specs.declared.stamp.Stamp.{Stamp}
use Rattle.ceal_repair.specs.Around.{Bounds, Inside, Tails, Passes}
use Rattle.ceal_repair.specs.Entries.{entries, entry, end_entry, knots_of}
use Rattle.ceal_repair.specs.Moment.{Start, Began, Unfinished, through}
use Rattle.ceal_repair.specs.Frames.{Frame, Begun, Taken, Kept}
use Rattle.ceal_repair.specs.AsItems.{item_in}
use Rattle.ceal_repair.specs.Covered.{content_after, contents_after}
use Rattle.ceal_repair.specs.Lists.{up_to}
use Rattle.ceal_theory.specs.Course.{Wait, Begins}
use Rattle.ceal_theory.specs.Cover.{known_after}
use Rattle.ceal_theory.specs.Groves.{knot, Grove, Bare, Made, Put, Got, knots, joined, items_in}
use Rattle.ceal_theory.specs.Groves as grove
use Rattle.ceal_theory.specs.Known.{KnownItems}
use Rattle.ceal_theory.specs.KnownContent.{allocs}
use Rattle.ceal_trace.proofs.Entries.{has-read, has-entry}
use Rattle.ceal_trace.proofs.Parting.{unclosed-append}
use Rattle.ceal_trace.proofs.Stamped.{in_head, in_tail}
use Rattle.ceal_trace.proofs.Parts.{forest-append, not_before, entry-part, position-part, after-part, changed-part}
use Rattle.ceal_trace.specs.Items.{ticks, item_of, forest_of, unclosed_after, unclosed}
use Rattle.ceal_trace.specs.Nodes.{Entry, stamps_in, has_node, position, entry_at, node_at, steps_at, end_in, is_read, new_entry, with_entry_after, with_steps, steps_set}
use Rattle.ceal_trace.specs.declared.node.Node.{Node}
use Rattle.ceal_trace.specs.declared.node.Node.TheVariants.{Root, Alloc, Write, Read, End}

-- ---- the last node

-- with one step more
abbrev pub more : Entry → Entry
more e = steps_set (e.steps + 1) e

ticks-next : (n : ℕ) → ticks (suc n) ≡ ticks n ++ item.Step ∷ []
ticks-next zero = refl
ticks-next (suc n) = ap (λ is. item.Step ∷ is) (ticks-next n)

pub ticks-more : (n : ℕ) → ticks (n + 1) ≡ ticks n ++ item.Step ∷ []
ticks-more n = ap ticks (add-one n) ∙ ticks-next n

forest-one : (e : Entry) → forest_of (e ∷ []) ≡ item_of e.node ++ ticks e.steps
forest-one e = ap (λ is. item_of e.node ++ is) (append-nil (ticks e.steps))

-- one step more on the last node is one step after all
pub forest-step : (done : List Entry) (last : Entry) → forest_of (through done (more last)) ≡ forest_of (through done last) ++ item.Step ∷ []
forest-step done last =
    forest-append done (more last ∷ []) ∙ (ap (λ is. forest_of done ++ is) one ∙ (sym (append_assoc (forest_of done) (forest_of (last ∷ [])) (item.Step ∷ []))
    ∙ ap (λ is. is ++ item.Step ∷ []) (sym (forest-append done (last ∷ [])))))
  where
    one : forest_of (more last ∷ []) ≡ forest_of (last ∷ []) ++ item.Step ∷ []
    one = forest-one (more last) ∙ (ap (λ is. item_of last.node ++ is) (ticks-more last.steps)
        ∙ (sym (append_assoc (item_of last.node) (ticks last.steps) (item.Step ∷ [])) ∙ ap (λ is. is ++ item.Step ∷ []) (sym (forest-one last))))

-- a node that is put after all
pub forest-put : (front : List Entry) (s : ℕ) (node : Node) → forest_of (front ++ new_entry s node ∷ []) ≡ forest_of front ++ item_of node
forest-put front s node = forest-append front (new_entry s node ∷ []) ∙ ap (λ is. forest_of front ++ is) (append-nil (item_of node))

pub behind-all : (done : List Entry) (e : Entry) (back : List Entry) → (done ++ e ∷ []) ++ back ≡ done ++ e ∷ back
behind-all done e back = append_assoc done (e ∷ []) back

-- ---- where the nodes are parted at the last one in front

module _ (done : List Entry) (last : Entry) (back : List Entry) (distinct : Distinct (stamps_in (through done last ++ back))) where
  parted : Distinct (stamps_in (done ++ last ∷ back))
  parted = subst (λ es. Distinct (stamps_in es)) (behind-all done last back) distinct

  pub not-done : has_node last.stamp done ≡ false
  not-done = not_before done last back parted

  pub nodes-step : (n : ℕ) → with_steps last.stamp n (through done last ++ back) ≡ through done (steps_set n last) ++ back
  nodes-step n = ap (λ es. with_steps last.stamp n es) (behind-all done last back) ∙ (changed-part last back (steps_set n) done not-done ∙ sym (behind-all done (steps_set n last) back))

  pub nodes-put : (e : Entry) → with_entry_after last.stamp e (through done last ++ back) ≡ through (through done last) e ++ back
  nodes-put e = ap (λ es. with_entry_after last.stamp e es) (behind-all done last back)
      ∙ (after-part last back e done not-done ∙ (sym (behind-all done last (e ∷ back)) ∙ sym (behind-all (through done last) e back)))

  pub entry-there : entry_at last.stamp (through done last ++ back) ≡ Some last
  entry-there = ap (λ es. entry_at last.stamp es) (behind-all done last back) ∙ entry-part last back done not-done

  pub steps-there : steps_at last.stamp (through done last ++ back) ≡ last.steps
  steps-there = rw entry-there refl

  pub has-last : has_node last.stamp (through done last ++ back) ≡ true
  has-last = has-entry last.stamp last (through done last ++ back) entry-there

  pub position-there : position last.stamp (through done last ++ back) ≡ length done
  position-there = ap (λ es. position last.stamp es) (behind-all done last back) ∙ position-part last back done not-done

  pub up-to-last : up_to last.stamp (through done last ++ back) ≡ through done last
  up-to-last = ap (λ es. up_to last.stamp es) (behind-all done last back) ∙ up-to-part done not-done
    where
      up-to-part : (front : List Entry) → has_node last.stamp front ≡ false → up_to last.stamp (front ++ last ∷ back) ≡ front ++ last ∷ []
      up-to-part [] none = rw (eq-eqb last.stamp last.stamp refl) refl
      up-to-part (x ∷ xs) none = elim (eqb_tells x.stamp last.stamp) [
        | inl p ↦ absurd (let no : true ≡ false = rw p.0 at none in cc)
        | inr p ↦ rw p.0 (ap (λ (l : List Entry). x ∷ l) (up-to-part xs (rw p.0 at none)))
      ]

-- ---- the nodes of a grove

pub knots-append : (es fs : List Entry) → knots_of (es ++ fs) ≡ knots_of es ++ knots_of fs
knots-append [] fs = refl
knots-append (e ∷ es) fs = ap (λ ks. knot e.stamp (item_in e.node) e.steps ∷ ks) (knots-append es fs)

pub knots-entries : (g : Grove) → knots_of (entries g) ≡ knots g
knots-entries Bare = refl
knots-entries (Made s b key n rest) = ap (λ ks. knot s (item.Alloc b key) n ∷ ks) (knots-entries rest)
knots-entries (Put s p v n rest) = ap (λ ks. knot s (item.Write p v) n ∷ ks) (knots-entries rest)
knots-entries (Got s p v u x args n inside e m rest) =
    ap (λ ks. knot s (item.Read p v u x args) n ∷ ks) (knots-append (entries inside) (end_entry e s m ∷ entries rest)
    ∙ (ap (λ ks. ks ++ knot e item.End m ∷ knots_of (entries rest)) (knots-entries inside) ∙ ap (λ ks. knots inside ++ knot e item.End m ∷ ks) (knots-entries rest)))

pub entries-joined : (f g : Grove) → entries (joined f g) ≡ entries f ++ entries g
entries-joined Bare g = refl
entries-joined (Made s b key n rest) g = ap (λ es. entry s (Alloc b key) n ∷ es) (entries-joined rest g)
entries-joined (Put s p v n rest) g = ap (λ es. entry s (Write p v) n ∷ es) (entries-joined rest g)
entries-joined (Got s p v u x args n inside e m rest) g =
    ap (λ es. entry s (Read p v u x args) n ∷ es) (ap (λ es. entries inside ++ end_entry e s m ∷ es) (entries-joined rest g)
    ∙ sym (append_assoc (entries inside) (end_entry e s m ∷ entries rest) (entries g)))

-- none of these nodes is the root
abbrev pub RootlessNode : Node → Type 0
RootlessNode Root = ⊥
RootlessNode (Alloc b key) = ⊤
RootlessNode (Write p v) = ⊤
RootlessNode (Read p v u x args) = ⊤
RootlessNode (End r) = ⊤

abbrev pub Rootless : List Entry → Type 0
Rootless [] = ⊤
Rootless (e ∷ es) = RootlessNode e.node × Rootless es

ticks-same : (n : ℕ) → grove.ticks n ≡ ticks n
ticks-same zero = refl
ticks-same (suc n) = ap (λ is. item.Step ∷ is) (ticks-same n)

pub items-knots-of : (es : List Entry) → Rootless es → items_in (knots_of es) ≡ forest_of es
items-knots-of [] h = refl
items-knots-of (e ∷ es) h = ap (λ is. item_in e.node ∷ is) (ap (λ ts. ts ++ items_in (knots_of es)) (ticks-same e.steps) ∙ ap (λ is. ticks e.steps ++ is) (items-knots-of es h.1))
    ∙ go e.node h.0
  where
    go : (node : Node) → RootlessNode node → item_in node ∷ (ticks e.steps ++ forest_of es) ≡ item_of node ++ (ticks e.steps ++ forest_of es)
    go Root h = absurd h
    go (Alloc b key) t = refl
    go (Write p v) t = refl
    go (Read p v u x args) t = refl
    go (End r) t = refl

pub rootless-append : (es fs : List Entry) → Rootless es → Rootless fs → Rootless (es ++ fs)
rootless-append [] fs h k = k
rootless-append (e ∷ es) fs h k = (h.0, rootless-append es fs h.1 k)

pub rootless-entries : (g : Grove) → Rootless (entries g)
rootless-entries Bare = tt
rootless-entries (Made s b key n rest) = (tt, rootless-entries rest)
rootless-entries (Put s p v n rest) = (tt, rootless-entries rest)
rootless-entries (Got s p v u x args n inside e m rest) = (tt, rootless-append (entries inside) (end_entry e s m ∷ entries rest) (rootless-entries inside) (tt, rootless-entries rest))

-- ---- open reads

pub opened-step : (done : List Entry) (last : Entry) (reads : Option (List ℕ)) → unclosed reads (through done (more last)) ≡ unclosed reads (through done last)
opened-step [] last None = refl
opened-step [] last (Some rs) = refl
opened-step (e ∷ es) last None = refl
opened-step (e ∷ es) last (Some rs) = opened-step es last (unclosed_after e.stamp e.node rs)

pub opened-put : (front : List Entry) (rs : List ℕ) → unclosed (Some []) front ≡ Some rs → (e : Entry) → unclosed (Some []) (front ++ e ∷ []) ≡ unclosed (unclosed_after e.stamp e.node rs) []
opened-put front rs h e = unclosed-append front (e ∷ []) (Some []) ∙ ap (λ o. unclosed o (e ∷ [])) h

pub closed-last : (r : Stamp) (rs : List ℕ) (s : ℕ) → unclosed (unclosed_after s (End r) (r.0 ∷ rs)) [] ≡ Some rs
closed-last r rs s = rw (eq-eqb r.0 r.0 refl) refl

-- ---- the beginning

nothing-there : (xs : List Entry) (e : Entry) (ys : List Entry) → [] ≡ xs ++ e ∷ ys → ⊥
nothing-there [] e ys h = absurd (cc)
nothing-there (x ∷ xs) e ys h = absurd (cc)

pub began-step : (start : Start) (done : List Entry) (last : Entry) → Began start (through done last) → Began start (through done (more last))
began-step start done last b =
    let r = go start.before done b.fresh b.steps b.same in
    record { steps = r.0; fresh = r.1; same = r.2 }
  where
    go : (before done fresh : List Entry) (n : ℕ) → through done last ≡ before ++ entry start.stamp start.node n ∷ fresh
        → (m : ℕ) × (es : List Entry) × (through done (more last) ≡ before ++ entry start.stamp start.node m ∷ es)
    go [] [] fresh n h = let same : last ≡ entry start.stamp start.node n = cc in (n + 1, [], ap (λ e. more e ∷ []) same)
    go [] (d ∷ ds) fresh n h = let same : d ≡ entry start.stamp start.node n = cc in (n, through ds (more last), ap (λ e. e ∷ through ds (more last)) same)
    go (b ∷ bs) [] fresh n h = let no : [] ≡ bs ++ entry start.stamp start.node n ∷ fresh = cc in absurd (nothing-there bs (entry start.stamp start.node n) fresh no)
    go (b ∷ bs) (d ∷ ds) fresh n h =
        let same : d ≡ b = cc in
        let rest : through ds last ≡ bs ++ entry start.stamp start.node n ∷ fresh = cc in
        let r = go bs ds fresh n rest in
        (r.0, r.1, ap (λ e. e ∷ through ds (more last)) same ∙ ap (λ es. b ∷ es) r.2)

pub began-put : (start : Start) (front : List Entry) (e : Entry) → Began start front → Began start (front ++ e ∷ [])
began-put start front e b = record {
  steps = b.steps;
  fresh = b.fresh ++ e ∷ [];
  same = ap (λ es. es ++ e ∷ []) b.same ∙ append_assoc start.before (entry start.stamp start.node b.steps ∷ b.fresh) (e ∷ []);
}

-- ---- the reads that are open are among the nodes

-- no stamp of these is that of a node
abbrev ApartFrom : List ℕ → List Entry → Type 0
ApartFrom rs es = (r : ℕ) → is_in r rs ≡ true → has_node r es ≡ false

-- the reads that are open after nodes are different ones, and each of them is one of those before or is among the nodes
pub record OpenReads (before after : List ℕ) (es : List Entry) : Type 0 where
  pub distinct : Distinct after
  pub reads : (r : ℕ) → is_in r after ≡ true → (is_in r before ≡ true) ⊎ (is_read (node_at r es) ≡ true)

pub not-in : (x : ℕ) (xs : List ℕ) → is_in x xs ≡ false → NotIn x xs
not-in x [] h = tt
not-in x (y ∷ ys) h = elim (eqb_tells y x) [
  | inl p ↦ absurd (let bad : true ≡ false = rw p.0 at h in cc)
  | inr p ↦ (λ e. p.1 (sym e), not-in x ys (rw p.0 at h))
]

pub not-in-is : (x : ℕ) (xs : List ℕ) → NotIn x xs → is_in x xs ≡ false
not-in-is x [] h = refl
not-in-is x (y ∷ ys) h = elim (eqb_tells y x) [
  | inl p ↦ absurd (h.0 (sym p.1))
  | inr p ↦ rw p.0 (not-in-is x ys h.1)
]

-- a read of later nodes is one of all
later-read : (e : Entry) (es : List Entry) → has_node e.stamp es ≡ false → (r : ℕ) → is_read (node_at r es) ≡ true → is_read (node_at r (e ∷ es)) ≡ true
later-read e es none r h = elim (eqb_tells e.stamp r) [
  | inl p ↦ absurd (let bad : true ≡ false = sym (has-read r es h) ∙ (ap (λ k. has_node k es) (sym p.1) ∙ none) in cc)
  | inr p ↦ rw p.0 h
]

apart-later : (rs : List ℕ) (e : Entry) (es : List Entry) → ApartFrom rs (e ∷ es) → ApartFrom rs es
apart-later rs e es h r i = elim (eqb_tells e.stamp r) [
  | inl p ↦ absurd (let bad : true ≡ false = rw p.0 at (h r i) in cc)
  | inr p ↦ rw p.0 at (h r i)
]

first-apart : (rs : List ℕ) (e : Entry) (es : List Entry) → ApartFrom rs (e ∷ es) → is_in e.stamp rs ≡ false
first-apart rs e es h = go (is_in e.stamp rs) refl
  where
    go : (b : Bool) → is_in e.stamp rs ≡ b → b ≡ false
    go false i = refl
    go true i = absurd (let bad : true ≡ false = rw (eq-eqb e.stamp e.stamp refl) at (h e.stamp i) in cc)

later-open : (e : Entry) (es : List Entry) (before after : List ℕ) → has_node e.stamp es ≡ false → OpenReads before after es → OpenReads before after (e ∷ es)
later-open e es before after none o = record {
  distinct = o.distinct;
  reads = λ r i. elim (o.reads r i) [ inl j ↦ inl j | inr j ↦ inr (later-read e es none r j) ];
}

module _ (e : Entry) (es : List Entry) (after : List ℕ) (d : Distinct (stamps_in (e ∷ es)))
    (rest : (before : List ℕ) → Distinct before → ApartFrom before es → unclosed (Some before) es ≡ Some after → OpenReads before after es)
    (before : List ℕ) (o : Distinct before) (a : ApartFrom before (e ∷ es)) where
  none : has_node e.stamp es ≡ false
  none = not-in-is e.stamp (stamps_in es) d.0

  others : unclosed (Some before) es ≡ Some after → OpenReads before after (e ∷ es)
  others k = later-open e es before after none (rest before o (apart-later before e es a) k)

  begun-apart : ApartFrom (e.stamp ∷ before) es
  begun-apart r i = elim (eqb_tells e.stamp r) [
    | inl p ↦ subst (λ k. has_node k es ≡ false) p.1 none
    | inr p ↦ apart-later before e es a r (rw p.0 at i)
  ]

  begins : (p : Place) (v : Word) (u : UnitId) (x : ℕ) (args : List Word) → e.node ≡ Read p v u x args → unclosed (Some (e.stamp ∷ before)) es ≡ Some after → OpenReads before after (e ∷ es)
  begins p v u x args n k =
      let q = rest (e.stamp ∷ before) (not-in e.stamp before (first-apart before e es a), o) begun-apart k in
      record {
        distinct = q.distinct;
        reads = λ r i. elim (q.reads r i) [
          | inl j ↦ elim (eqb_tells e.stamp r) [
            | inl p ↦ inr (rw (p.0, n) refl)
            | inr p ↦ inl (rw p.0 at j)
          ]
          | inr j ↦ inr (later-read e es none r j)
        ];
      }

  closes : (r : Stamp) (bs : List ℕ) → before ≡ bs → unclosed (unclosed_after e.stamp (End r) bs) es ≡ Some after → OpenReads before after (e ∷ es)
  closes r [] h k = absurd (cc)
  closes r (b ∷ bs) h k = elim (eqb_tells r.0 b) [
    | inl p ↦
        let apart : ApartFrom bs es = λ t i. apart-later before e es a t (subst (λ l. is_in t l ≡ true) (sym h) (in_tail t b bs i)) in
        let both : Distinct (b ∷ bs) = subst (λ l. Distinct l) h o in
        let q = rest bs both.1 apart (rw p.0 at k) in
        record {
          distinct = q.distinct;
          reads = λ t i. elim (q.reads t i) [ inl j ↦ inl (subst (λ l. is_in t l ≡ true) (sym h) (in_tail t b bs j)) | inr j ↦ inr (later-read e es none t j) ];
        }
    | inr p ↦ absurd (let bad : None ≡ Some after = rw p.0 at k in cc)
  ]

  open-then : (node : Node) → e.node ≡ node → unclosed (unclosed_after e.stamp node before) es ≡ Some after → OpenReads before after (e ∷ es)
  open-then Root n k = others k
  open-then (Alloc b key) n k = others k
  open-then (Write p v) n k = others k
  open-then (Read p v u x args) n k = begins p v u x args n k
  open-then (End r) n k = closes r before refl k

open-reads : (es : List Entry) (before after : List ℕ) → Distinct (stamps_in es) → Distinct before → ApartFrom before es → unclosed (Some before) es ≡ Some after → OpenReads before after es
open-reads [] before after d o a h = let same : before ≡ after = cc in record { distinct = subst (λ rs. Distinct rs) same o; reads = λ r i. inl (subst (λ rs. is_in r rs ≡ true) (sym same) i) }
open-reads (e ∷ es) before after d o a h = open-then e es after d (λ b o a k. open-reads es b after d.1 o a k) before o a e.node refl h

-- the reads that are open after nodes are different ones, and each is a read among them
pub unclosed-reads : (es : List Entry) (rs : List ℕ) → Distinct (stamps_in es) → unclosed (Some []) es ≡ Some rs → Distinct rs × ((r : ℕ) → is_in r rs ≡ true → is_read (node_at r es) ≡ true)
unclosed-reads es rs d h =
    let o = open-reads es [] rs d tt (λ r i. absurd (cc)) h in
    (o.distinct, λ r i. elim (o.reads r i) [ inl j ↦ absurd (cc) | inr j ↦ j ])

-- ---- contents

pub contents-append : (s : Store) (es fs : List Entry) → contents_after s (es ++ fs) ≡ contents_after (contents_after s es) fs
contents-append s [] fs = refl
contents-append s (e ∷ es) fs = contents-append (content_after s e.node) es fs

pub contents-put : (s : Store) (front : List Entry) (n : ℕ) (node : Node) → contents_after s (front ++ new_entry n node ∷ []) ≡ content_after (contents_after s front) node
contents-put s front n node = contents-append s front (new_entry n node ∷ [])

pub contents-step : (s : Store) (done : List Entry) (last : Entry) → contents_after s (through done (more last)) ≡ contents_after s (through done last)
contents-step s [] last = refl
contents-step s (e ∷ es) last = contents-step (content_after s e.node) es last

pub stored-base : (s s' : Store) (p : Place) → s p ≡ s' p → (q : Place) (v : Word) → stored s q v p ≡ stored s' q v p
unfolding stored
stored-base s s' p h q v = ap (λ (w : Word). if same_place p q then v else w) h

content-base : (s s' : Store) (p : Place) → s p ≡ s' p → (node : Node) → content_after s node p ≡ content_after s' node p
content-base s s' p h Root = h
content-base s s' p h (Alloc b key) = h
content-base s s' p h (Write q v) = stored-base s s' p h q v
content-base s s' p h (Read q v u x args) = h
content-base s s' p h (End r) = h

pub contents-base : (s s' : Store) (p : Place) → s p ≡ s' p → (es : List Entry) → contents_after s es p ≡ contents_after s' es p
contents-base s s' p h [] = h
contents-base s s' p h (e ∷ es) = contents-base (content_after s e.node) (content_after s' e.node) p (content-base s s' p h e.node) es

-- ---- known blocks

pub known-append : (bs : List ℕ) (is js : List Item) → known_after bs (is ++ js) ≡ known_after (known_after bs is) js
known-append bs [] js = refl
known-append bs (item.Step ∷ is) js = known-append bs is js
known-append bs (item.Alloc (Core b) key ∷ is) js = known-append (b ∷ bs) is js
known-append bs (item.Alloc (Input i) key ∷ is) js = known-append bs is js
known-append bs (item.Write p value ∷ is) js = known-append bs is js
known-append bs (item.Read p value u v args ∷ is) js = known-append bs is js
known-append bs (item.End ∷ is) js = known-append bs is js

-- the end of a read changes no content and makes no block
pub same-ended : (count : ℕ) (store s s' : Store) (front : List Entry) (n : ℕ) (read : Stamp)
    → ((p : Place) → KnownBlock count (known_after [] (forest_of front)) p.block → store p ≡ contents_after s front p)
    → ((p : Place) → s' p ≡ s p)
    → (p : Place) → KnownBlock count (known_after [] (forest_of (through front (new_entry n (End read))))) p.block
    → store p ≡ contents_after s' (through front (new_entry n (End read))) p
same-ended count store s s' front n read same bases p known =
    same p (subst (λ bs. KnownBlock count bs p.block) (ap (known_after []) (forest-put front n (End read)) ∙ known-append [] (forest_of front) (item.End ∷ [])) known)
    ∙ (contents-base s s' p (sym (bases p)) front ∙ sym (ap (λ (f : Store). f p) (contents-put s' front n (End read))))

pub known-more : (bs : List ℕ) (is : List Item) → Subset bs (known_after bs is)
known-more bs [] b i = i
known-more bs (item.Step ∷ is) b i = known-more bs is b i
known-more bs (item.Alloc (Core c) key ∷ is) b i = known-more (c ∷ bs) is b (there i)
known-more bs (item.Alloc (Input c) key ∷ is) b i = known-more bs is b i
known-more bs (item.Write p value ∷ is) b i = known-more bs is b i
known-more bs (item.Read p value u v args ∷ is) b i = known-more bs is b i
known-more bs (item.End ∷ is) b i = known-more bs is b i

pub allocs-append : (is js : List Item) → allocs (is ++ js) ≡ allocs is ++ allocs js
allocs-append [] js = refl
allocs-append (item.Step ∷ is) js = allocs-append is js
allocs-append (item.Alloc (Core c) key ∷ is) js = ap (λ bs. c ∷ bs) (allocs-append is js)
allocs-append (item.Alloc (Input i) key ∷ is) js = allocs-append is js
allocs-append (item.Write p value ∷ is) js = allocs-append is js
allocs-append (item.Read p value u v args ∷ is) js = allocs-append is js
allocs-append (item.End ∷ is) js = allocs-append is js

pub in-case : (b c : ℕ) (bs : List ℕ) → In b (c ∷ bs) → (b ≡ c) ⊎ In b bs
in-case b c bs here = inl refl
in-case b c bs (there i) = inr i

-- what is known is allocated by the items, or was known before
pub known-allocs-or : (bs : List ℕ) (is : List Item) (b : ℕ) → In b (known_after bs is) → In b bs ⊎ In b (allocs is)
known-allocs-or bs [] b i = inl i
known-allocs-or bs (item.Step ∷ is) b i = known-allocs-or bs is b i
known-allocs-or bs (item.Alloc (Core c) key ∷ is) b i = go (known-allocs-or (c ∷ bs) is b i)
  where
    later : (b ≡ c) ⊎ In b bs → In b bs ⊎ In b (c ∷ allocs is)
    later (inl e) = inr (subst (λ d. In b (d ∷ allocs is)) e here)
    later (inr j) = inl j

    go : In b (c ∷ bs) ⊎ In b (allocs is) → In b bs ⊎ In b (c ∷ allocs is)
    go (inl j) = later (in-case b c bs j)
    go (inr j) = inr (there j)
known-allocs-or bs (item.Alloc (Input c) key ∷ is) b i = known-allocs-or bs is b i
known-allocs-or bs (item.Write p value ∷ is) b i = known-allocs-or bs is b i
known-allocs-or bs (item.Read p value u v args ∷ is) b i = known-allocs-or bs is b i
known-allocs-or bs (item.End ∷ is) b i = known-allocs-or bs is b i

pub known-allocs : (is : List Item) (b : ℕ) → In b (known_after [] is) → In b (allocs is)
known-allocs is b i = elim (known-allocs-or [] is b i) [ inl j ↦ absurd (elim j [ ]) | inr j ↦ j ]

pub known-items-after : {n : ℕ} {bs cs : List ℕ} {is : List Item} → KnownItems n bs is cs → cs ≡ known_after bs is
known-items-after KnownItems.none = refl
known-items-after (KnownItems.step k) = known-items-after k
known-items-after (KnownItems.close k) = known-items-after k
known-items-after (KnownItems.alloc a k) = known-items-after k
known-items-after (KnownItems.write a b k) = known-items-after k
known-items-after (KnownItems.read a b c k) = known-items-after k

pub known-items-append : {n : ℕ} {bs cs ds : List ℕ} {is js : List Item} → KnownItems n bs is cs → KnownItems n cs js ds → KnownItems n bs (is ++ js) ds
known-items-append KnownItems.none l = l
known-items-append (KnownItems.step k) l = KnownItems.step (known-items-append k l)
known-items-append (KnownItems.close k) l = KnownItems.close (known-items-append k l)
known-items-append (KnownItems.alloc a k) l = KnownItems.alloc a (known-items-append k l)
known-items-append (KnownItems.write a b k) l = KnownItems.write a b (known-items-append k l)
known-items-append (KnownItems.read a b c k) l = KnownItems.read a b c (known-items-append k l)

-- ---- what is found in front

pub entry-front : (r : ℕ) (front back : List Entry) → has_node r front ≡ true → entry_at r (front ++ back) ≡ entry_at r front
entry-front r [] back h = absurd (cc)
entry-front r (e ∷ es) back h = elim (eqb_tells e.stamp r) [ inl p ↦ rw p.0 refl | inr p ↦ rw p.0 (entry-front r es back (rw p.0 at h)) ]

-- a node in front is not after the last one
pub position-front : (r : ℕ) (done : List Entry) (last : Entry) (back : List Entry) → has_node r (through done last) ≡ true → position r (through done last ++ back) ≤ length done
position-front r [] last back h = elim (eqb_tells last.stamp r) [
  | inl p ↦ rw p.0 (omega arith)
  | inr p ↦ absurd (let bad : false ≡ true = rw p.0 at h in cc)
]
position-front r (e ∷ es) last back h = elim (eqb_tells e.stamp r) [
  | inl p ↦ rw p.0 (omega arith)
  | inr p ↦ rw p.0 (let rest = position-front r es last back (rw p.0 at h) in omega arith)
]

-- ---- what waits

-- the reads that are begun and wait for their ends
abbrev pub waiting : List Frame → List ℕ
waiting [] = []
waiting (Begun below read ∷ fs) = read.0 ∷ waiting fs
waiting (Taken below limit ∷ fs) = waiting fs
waiting (Kept until ∷ fs) = waiting fs

pub unfinished-waiting : (fs : List Frame) (old new : List Entry) → ((r : ℕ) → is_in r (waiting fs) ≡ true → end_in r new ≡ end_in r old) → Unfinished fs old → Unfinished fs new
unfinished-waiting [] old new h u = tt
unfinished-waiting (Begun below read ∷ fs) old new h u = (h read.0 (in_head read.0 (waiting fs)) ∙ u.0, unfinished-waiting fs old new (λ r i. h r (in_tail r read.0 (waiting fs) i)) u.1)
unfinished-waiting (Taken below limit ∷ fs) old new h u = unfinished-waiting fs old new h u
unfinished-waiting (Kept until ∷ fs) old new h u = unfinished-waiting fs old new h u

inside-reads : {ws : List Wait} {rs : List ℕ} {vs : List Wait} {qs : List ℕ} {es : List Entry} → Inside ws rs vs qs es → (r : ℕ) → is_in r rs ≡ true → is_in r qs ≡ true
inside-reads (Inside.level g) r i = i
inside-reads (Inside.deeper {qs = qs} g e q m h) r i = in_tail r q qs (inside-reads h r i)

-- they are open
mutual
  pub waiting-open : {limit : Option Stamp} {beyond : List Entry} {until : Option Stamp} {fs : List Frame} {ws : List Wait} {rs : List ℕ} {tail : List Entry}
      → Tails limit beyond until fs ws rs tail → (r : ℕ) → is_in r (waiting fs) ≡ true → is_in r rs ≡ true
  waiting-open Tails.last r i = absurd (cc)
  waiting-open (Tails.begun {rs = rs} below read t) r i = elim (eqb_tells read.0 r) [
    | inl p ↦ rw p.0 refl
    | inr p ↦ rw p.0 (waiting-open t r (rw p.0 at i))
  ]
  waiting-open (Tails.taken {rs = rs} below e q m g t) r i = in_tail r q rs (waiting-open t r i)
  waiting-open (Tails.kept {rs = rs} e q m t) r i = in_tail r q rs (passes-open t r i)

  pub passes-open : {limit : Option Stamp} {beyond : List Entry} {until : Stamp} {fs : List Frame} {ws : List Wait} {rs : List ℕ} {back : List Entry}
      → Passes limit beyond until fs ws rs back → (r : ℕ) → is_in r (waiting fs) ≡ true → is_in r rs ≡ true
  passes-open (Passes.passes {rs = rs} below e q m g h t) r i = inside-reads h r (in_tail r q rs (waiting-open t r i))

-- what is after nodes that are left over
pub tails-bound : {limit : Option Stamp} {beyond : List Entry} {until : Option Stamp} {fs : List Frame} {ws : List Wait} {rs : List ℕ} {tail : List Entry}
    → Tails limit beyond until fs ws rs tail → Bounds limit beyond → Bounds until tail
tails-bound Tails.last b = b
tails-bound (Tails.begun below read t) b = tails-bound t b
tails-bound (Tails.taken {tail = tail} below e r m g t) b = (r, m, entries g ++ tail, refl)
tails-bound (Tails.kept {back = back} e r m t) b = (r, m, back, refl)

-- what a frame that comes next says of what waits
pub record WaitsBegun (limit : Option Stamp) (beyond : List Entry) (until : Option Stamp) (below : Stack) (read : Stamp) (fs : List Frame) (ws : List Wait) (rs : List ℕ)
    (tail : List Entry) : Type 0 where
  pub waits : List Wait
  pub reads : List ℕ
  pub waits_are : ws ≡ Begins below ∷ waits
  pub reads_are : rs ≡ read.0 ∷ reads
  pub tails : Tails limit beyond until fs waits reads tail

abbrev pub ComesNext : Option Stamp → List Entry → Option Stamp → List Frame → List Wait → List ℕ → List Entry → Type 0
ComesNext limit beyond until [] ws rs tail = (ws ≡ []) × (rs ≡ []) × (tail ≡ beyond)
ComesNext limit beyond until (Begun below read ∷ fs) ws rs tail = WaitsBegun limit beyond until below read fs ws rs tail
ComesNext limit beyond until (Taken below next ∷ fs) ws rs tail = IsSome until
ComesNext limit beyond until (Kept next ∷ fs) ws rs tail = IsSome until

pub comes-next : {limit : Option Stamp} {beyond : List Entry} {until : Option Stamp} {fs : List Frame} {ws : List Wait} {rs : List ℕ} {tail : List Entry}
    → Tails limit beyond until fs ws rs tail → ComesNext limit beyond until fs ws rs tail
comes-next Tails.last = (refl, refl, refl)
comes-next (Tails.begun {ws = ws} {rs = rs} below read t) = record { waits = ws; reads = rs; waits_are = refl; reads_are = refl; tails = t }
comes-next (Tails.taken below e r m g t) = refl
comes-next (Tails.kept e r m t) = refl

-- stamps that occur once do so in front
not-in-front : (s : ℕ) (front back : List Entry) → NotIn s (stamps_in (front ++ back)) → NotIn s (stamps_in front)
not-in-front s [] back h = tt
not-in-front s (e ∷ es) back h = (h.0, not-in-front s es back h.1)

pub distinct-front : (front back : List Entry) → Distinct (stamps_in (front ++ back)) → Distinct (stamps_in front)
distinct-front [] back h = tt
distinct-front (e ∷ es) back h = (not-in-front e.stamp es back h.0, distinct-front es back h.1)

pub distinct-back : (front back : List Entry) → Distinct (stamps_in (front ++ back)) → Distinct (stamps_in back)
distinct-back [] back h = h
distinct-back (e ∷ es) back h = distinct-back es back h.1

-- ---- the blocks of a trace are those that its items allocate

core-append : (xs ys : List BlockId) → core_numbers (xs ++ ys) ≡ core_numbers xs ++ core_numbers ys
core-append [] ys = refl
core-append (Core b ∷ xs) ys = ap (λ (bs : List ℕ). b ∷ bs) (core-append xs ys)
core-append (Input i ∷ xs) ys = core-append xs ys

pub blocks-allocs : (l : Trace) → core_numbers (blocks_of l) ≡ allocs (flat l)
blocks-allocs Nothing = refl
blocks-allocs (Stepped rest) = blocks-allocs rest
blocks-allocs (Allocated (Core b) key rest) = ap (λ (bs : List ℕ). b ∷ bs) (blocks-allocs rest)
blocks-allocs (Allocated (Input i) key rest) = blocks-allocs rest
blocks-allocs (Wrote p value rest) = blocks-allocs rest
blocks-allocs (WasRead p value u v args inside rest) =
    core-append (blocks_of inside) (blocks_of rest) ∙ (ap (λ (bs : List ℕ). bs ++ core_numbers (blocks_of rest)) (blocks-allocs inside)
    ∙ (ap (λ (bs : List ℕ). allocs (flat inside) ++ bs) (blocks-allocs rest) ∙ sym (allocs-append (flat inside) (item.End ∷ flat rest))))
