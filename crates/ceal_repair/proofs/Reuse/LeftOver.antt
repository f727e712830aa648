-- What is left over to a unit, as the machine has it.
use Rattle.std.proofs.Common.{◌≡◌, ℕ, inl, inr, ◌⊎◌, true, false, Option, Some, None, List, [], ◌∷◌, ◌++◌, refl, sym, ap, subst, ◌∙◌}
use Rattle.std.proofs.lemmas.Bool.{cases_Bool, eq-eqb}
use Rattle.ceal_base.specs.Trace.{Trace, Nothing, Stepped, Allocated, Wrote, WasRead, flat, trace_then}
use Rattle.ceal_base.specs.declared.forest.Key.{Key}
use Rattle.ceal_base.specs.declared.word.BlockId.{BlockId}
use Rattle.ceal_base.specs.declared.word.BlockId.TheVariants.{Input, Core}
use Rattle.ceal_code.specs.Known.{Holds}
use Rattle.ceal_code.specs.Program.{Code}
use Rattle.ceal_code.specs.Replay.{KnownWord}
use Rattle.ceal_code.specs.Value.{Plain}
use Rattle.ceal_order.specs.Stamps.{NotIn, Distinct, is_in, head_of}
use Rattle.ceal_order.specs.declared.stamp.Stamp.{Stamp}
use Rattle.ceal_repair.proofs.Nodes.NodeItems.{knots-entries, items-knots-of, rootless-entries, entries-joined, not-in-is}
use Rattle.ceal_repair.specs.Around.{Bounds}
use Rattle.ceal_repair.specs.Entries.{end_entry, entries, first_stamp, starts, CutTo, there, more}
use Rattle.ceal_repair.proofs.Lists.PartedLists.{where-append, where-among}
use Rattle.ceal_repair.proofs.Lists.ListChanges.{in-front, in-back}
use Rattle.ceal_repair.specs.Lists.{allocates, stamps_where}
use Rattle.ceal_theory.proofs.Reuse.FlatTake.{followed-nothing, first-flat, around-flat}
use Rattle.ceal_theory.proofs.Nodes.EngineMoves.{items-knots}
use Rattle.ceal_theory.proofs.Reuse.TakenAfterRevocation.{taking-law, bare-stepped}
use Rattle.ceal_theory.specs.Course.{BareMode, BareFrames, BareSame}
use Rattle.ceal_theory.specs.Groves.{Grove, Bare, Made, Put, Got, cut, trace_in, items_in, bare, bare_alloc, first_has}
use Rattle.ceal_theory.specs.Known.{Sure, Knows, KnowsMode, KnowsFrames}
use Rattle.ceal_theory.specs.Levels.{first, around, levels}
use Rattle.ceal_theory.specs.Take.{TakenAlloc, same_key, take_alloc}
use Rattle.ceal_theory.specs.Moves.{Machine, Mode, Frames}
use Rattle.ceal_trace.proofs.Parts.{forest-append}
use Rattle.ceal_trace.proofs.Stamped.{head_in, in_tail}
use Rattle.ceal_trace.specs.Items.{forest_of}
use Rattle.ceal_trace.specs.Nodes.{Entry, stamps_in}

-- ---- levels

pub forest-left : (g : Grove) (tail : List Entry) → forest_of (entries g ++ tail) ≡ flat (trace_in g) ++ forest_of tail
forest-left g tail = forest-append (entries g) tail
    ∙ ap (λ is. is ++ forest_of tail) (sym (items-knots-of (entries g) (rootless-entries g)) ∙ (ap items_in (knots-entries g) ∙ items-knots g))

closed-first : (until : Option Stamp) (tail : List Entry) → Bounds until tail → (t : Trace) → trace_then t (first (levels (forest_of tail))) ≡ t
closed-first None tail b t = rw b (followed-nothing t)
closed-first (Some e) tail b t = rw b.3 (followed-nothing t)

pub first-left : (g : Grove) (until : Option Stamp) (tail : List Entry) → Bounds until tail → first (levels (forest_of (entries g ++ tail))) ≡ trace_in g
first-left g until tail b = ap (λ is. first (levels is)) (forest-left g tail) ∙ (first-flat (trace_in g) (forest_of tail) ∙ closed-first until tail b (trace_in g))

pub around-left : (g : Grove) (tail : List Entry) → around (levels (forest_of (entries g ++ tail))) ≡ around (levels (forest_of tail))
around-left g tail = ap (λ is. around (levels is)) (forest-left g tail) ∙ around-flat (trace_in g) (forest_of tail)

-- ---- what is known, but for steps that are dropped

module _ (code : Code) (n : ℕ) (ds : List ℕ) (x : Plain) where
  sure-of : (l : Trace) → Sure code n ds x (bare l) → Sure code n ds x l
  sure-of Nothing h = h
  sure-of (Stepped rest) h = sure-of rest h
  sure-of (Allocated (Core b) key rest) h = (h.0, h.1, h.2, sure-of rest h.3)
  sure-of (Allocated (Input i) key rest) h = h
  sure-of (Wrote p value rest) h = sure-of rest h
  sure-of (WasRead p value u v args inside rest) h = (h.0, h.1, h.2, h.3, sure-of rest h.4)

  of-sure : (l : Trace) → Sure code n ds x l → Sure code n ds x (bare l)
  of-sure Nothing h = h
  of-sure (Stepped rest) h = of-sure rest h
  of-sure (Allocated (Core b) key rest) h = (h.0, h.1, h.2, of-sure rest h.3)
  of-sure (Allocated (Input i) key rest) h = h
  of-sure (Wrote p value rest) h = of-sure rest h
  of-sure (WasRead p value u v args inside rest) h = (h.0, h.1, h.2, h.3, of-sure rest h.4)

  pub sure-bare : (l m : Trace) → bare l ≡ bare m → Sure code n ds x l → Sure code n ds x m
  sure-bare l m e h = sure-of m (subst (Sure code n ds x) e (of-sure l h))

  mode-knows : (bs : List ℕ) (m m' : Mode) → BareMode m m' → KnowsMode code n ds x bs m → KnowsMode code n ds x bs m'
  mode-knows bs m m' BareMode.fixes h = h
  mode-knows bs m m' (BareMode.runs {l = l} {m = k} e) h = (h.0, sure-bare l k e h.1)

  frames-know : (bs : List ℕ) {fs gs : Frames} → BareFrames fs gs → KnowsFrames code n ds x bs fs → KnowsFrames code n ds x bs gs
  frames-know bs BareFrames.bottom h = h
  frames-know bs (BareFrames.after_fix b) h = (h.0, h.1, frames-know bs b h.2)
  frames-know bs (BareFrames.after_mend {l = l} {m = k} e b) h = (h.0, sure-bare l k e h.1, frames-know bs b h.2)
  frames-know bs (BareFrames.after_run b) h = (h.0, frames-know bs b h.1)

-- the same machine but for such steps knows the same
pub knows-bare : (code : Code) (n : ℕ) (ds bs : List ℕ) (m m' : Machine) → BareSame m m' → Knows code n ds bs m → Knows code n ds bs m'
knows-bare code n ds bs m m' b k = record {
  plain = subst (λ s. Holds n bs s.plain) b.state k.plain;
  old = subst (λ s. Holds n ds s.plain) b.state k.old;
  store = subst (λ s. (p : _) → KnownWord n bs (s.store p)) b.state k.store;
  mode = subst (λ s. KnowsMode code n ds s.plain bs m'.mode) b.state (mode-knows code n ds m.state.plain bs m.mode m'.mode b.mode k.mode);
  frames = subst (λ s. KnowsFrames code n ds s.plain bs m'.frames) b.state (frames-know code n ds m.state.plain bs b.frames k.frames);
}

-- ---- an allocation that is left over

distinct-skip : (xs : List Entry) (e : Entry) (ys : List Entry) → Distinct (stamps_in (xs ++ e ∷ ys)) → Distinct (stamps_in (xs ++ ys))
distinct-skip [] e ys d = d.1
distinct-skip (x ∷ xs) e ys d = (skip xs d.0, distinct-skip xs e ys d.1)
  where
    skip : (xs : List Entry) → NotIn x.stamp (stamps_in (xs ++ e ∷ ys)) → NotIn x.stamp (stamps_in (xs ++ ys))
    skip [] n = n.1
    skip (z ∷ zs) n = (n.0, skip zs n.1)

-- the first allocation with a key, where nodes are revoked up to it
pub record MatchAlloc (key : Key) (found : ℕ) (g rest : Grove) : Type 0 where
  pub block : BlockId
  pub own : Key
  pub steps : ℕ
  pub behind : Grove
  pub is : rest ≡ Made found block own steps behind
  pub same : same_key own key ≡ true
  pub taken : bare_alloc (take_alloc key (trace_in g)) ≡ Some (record { block = block; leftover = bare (trace_in behind) })

not-later : (key : Key) (s : ℕ) (es : List Entry) {A : Type 0} → NotIn s (stamps_in es) → head_of (stamps_where (allocates key) es) ≡ Some s → A
not-later key s es n h =
    let i : is_in s (stamps_in es) ≡ true = where-among (allocates key) es s (head_in s (stamps_where (allocates key) es) h) in
    absurd (let no : true ≡ false = sym i ∙ not-in-is s (stamps_in es) n in cc)

match-here : (key : Key) (found : ℕ) (g : Grove) → first_stamp g ≡ Some found → Distinct (stamps_in (entries g)) → head_of (stamps_where (allocates key) (entries g)) ≡ Some found
    → MatchAlloc key found g g
match-here key found Bare f d h = absurd (cc)
match-here key found (Made t b k n rest) f d h = elim (cases_Bool (same_key k key)) [
  | inl e ↦ record {
    block = b;
    own = k;
    steps = n;
    behind = rest;
    is = let same : t ≡ found = cc in ap (λ z. Made z b k n rest) same;
    same = e;
    taken = ap bare_alloc (taking-law.alloc_found key t b k n rest e) ∙ ap (λ (l : Trace). Some (record { block = b; leftover = l })) (bare-stepped n (trace_in rest));
  }
  | inr e ↦
      let same : t ≡ found = cc in
      not-later key found (entries rest) (subst (λ z. NotIn z (stamps_in (entries rest))) same d.0) (rw e at h)
]
match-here key found (Put t p v n rest) f d h = let same : t ≡ found = cc in not-later key found (entries rest) (subst (λ z. NotIn z (stamps_in (entries rest))) same d.0) h
match-here key found (Got t p v u x args n inside e m rest) f d h =
    let same : t ≡ found = cc in
    not-later key found (entries inside ++ end_entry e t m ∷ entries rest) (subst (λ z. NotIn z (stamps_in (entries inside ++ end_entry e t m ∷ entries rest))) same d.0) h

-- the first node is another one
record MatchLater (key : Key) (found : ℕ) (g : Grove) : Type 0 where
  has : first_has key g ≡ false
  where_is : head_of (stamps_where (allocates key) (entries (cut g))) ≡ Some found
  distinct : Distinct (stamps_in (entries (cut g)))

match-later : (key : Key) (found : ℕ) (g : Grove) → ¬ (first_stamp g ≡ Some found) → Distinct (stamps_in (entries g)) → head_of (stamps_where (allocates key) (entries g)) ≡ Some found
    → MatchLater key found g
match-later key found Bare f d h = absurd (cc)
match-later key found (Made t b k n rest) f d h = elim (cases_Bool (same_key k key)) [
  | inl e ↦ absurd (f (rw e at h))
  | inr e ↦ record { has = e; where_is = rw e at h; distinct = d.1 }
]
match-later key found (Put t p v n rest) f d h = record { has = refl; where_is = h; distinct = d.1 }
match-later key found (Got t p v u x args n inside e m rest) f d h = record {
  has = refl;
  where_is = subst (λ es. head_of es ≡ Some found) (where-append (allocates key) (entries inside) (end_entry e t m ∷ entries rest) ∙ (sym (where-append (allocates key) (entries inside) (entries rest))
      ∙ ap (stamps_where (allocates key)) (sym (entries-joined inside rest)))) h;
  distinct = subst (λ es. Distinct (stamps_in es)) (sym (entries-joined inside rest)) (distinct-skip (entries inside) (end_entry e t m) (entries rest) d.1);
}

pub match-alloc : (key : Key) (found : ℕ) {g rest : Grove} → CutTo found g rest → Distinct (stamps_in (entries g)) → head_of (stamps_where (allocates key) (entries g)) ≡ Some found
    → MatchAlloc key found g rest
match-alloc key found {g} (there f) d h = match-here key found g f d h
match-alloc key found {g} (more f c) d h =
    let l = match-later key found g f d h in
    let m = match-alloc key found c l.distinct l.where_is in
    record { block = m.block; own = m.own; steps = m.steps; behind = m.behind; is = m.is; same = m.same; taken = sym (taking-law.alloc_kept key g l.has) ∙ m.taken }

-- what is taken then
pub record TakenAs (key : Key) (t : Trace) (block : BlockId) (behind : Trace) : Type 0 where
  pub left : Trace
  pub is : take_alloc key t ≡ Some (record { block = block; leftover = left })
  pub same : bare left ≡ bare behind

pub taken-as : (key : Key) (t : Trace) (block : BlockId) (behind : Trace) → bare_alloc (take_alloc key t) ≡ Some (record { block = block; leftover = bare behind }) → TakenAs key t block behind
taken-as key t block behind h = go (take_alloc key t) refl h
  where
    go : (o : Option TakenAlloc) → take_alloc key t ≡ o → bare_alloc o ≡ Some (record { block = block; leftover = bare behind }) → TakenAs key t block behind
    go None e k = absurd (cc)
    go (Some q) e k =
        let same : record q { leftover = bare q.leftover } ≡ record { block = block; leftover = bare behind } = cc in
        let b : q.block ≡ block = ap (λ (z : TakenAlloc). z.block) same in
        record { left = q.leftover; is = e ∙ ap (λ c. Some (record { block = c; leftover = q.leftover })) b; same = ap (λ (z : TakenAlloc). z.leftover) same }

-- the first with the key is among the nodes, and is no end
head-some : (xs ys : List ℕ) (s : ℕ) → head_of (xs ++ ys) ≡ Some s → (head_of xs ≡ Some s) ⊎ (head_of ys ≡ Some s)
head-some [] ys s h = inr h
head-some (x ∷ xs) ys s h = inl h

pub match-starts : (key : Key) (g : Grove) (s : ℕ) → head_of (stamps_where (allocates key) (entries g)) ≡ Some s → is_in s (starts g) ≡ true
match-starts key Bare s h = absurd (cc)
match-starts key (Made t b k n rest) s h = elim (cases_Bool (same_key k key)) [
  | inl e ↦ let same : t ≡ s = let k : Some t ≡ Some s = rw e at h in cc in rw (eq-eqb t s same) refl
  | inr e ↦ in_tail s t (starts rest) (match-starts key rest s (rw e at h))
]
match-starts key (Put t p v n rest) s h = in_tail s t (starts rest) (match-starts key rest s h)
match-starts key (Got t p v u x args n inside e m rest) s h =
    in_tail s t (starts inside ++ starts rest)
    (elim (head-some (stamps_where (allocates key) (entries inside)) (stamps_where (allocates key) (entries rest)) s
    (subst (λ es. head_of es ≡ Some s) (where-append (allocates key) (entries inside) (end_entry e t m ∷ entries rest)) h)) [
      | inl k ↦ in-front (starts inside) (starts rest) s (match-starts key inside s k)
      | inr k ↦ in-back (starts inside) (starts rest) s (match-starts key rest s k)
    ])
