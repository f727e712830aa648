-- How the nodes of a repair depart from the old ones, turn by turn.
use Rattle.std.proofs.Common.{◌≡◌, ◌⊎◌, ℕ, zero, suc, inl, inr, ◌+◌, ◌≤◌, ◌==◌, Bool, true, false, if◌then◌else◌, Option, Some, None}
use Rattle.std.proofs.Common.{List, [], ◌∷◌, ◌++◌, length, append_assoc, refl, sym, ap, subst, ◌∙◌, arith}
use Rattle.std.proofs.lemmas.Bool.{eq-eqb}
use Rattle.std.proofs.lemmas.Bool.Decides.{eqb_tells}
use Rattle.ceal_base.specs.declared.forest.Key.{Key}
use Rattle.ceal_base.specs.declared.forest.Key.TheVariants.{ModInt as IntKey}
use Rattle.ceal_base.specs.declared.word.BlockId.{BlockId}
use Rattle.ceal_base.specs.declared.word.Place.{Place}
use Rattle.ceal_base.specs.declared.word.Word.{Word}
use Rattle.ceal_base.specs.declared.word.Word.TheVariants.{Null}
use Rattle.ceal_base.specs.Trace.{Trace}
use Rattle.ceal_code.proofs.Words.SameIsEqual.{word-refl}
use Rattle.ceal_order.specs.Stamps.{Distinct, is_in}
use Rattle.ceal_order.specs.declared.stamp.Stamp.{Stamp}
use Rattle.ceal_repair.proofs.Lists.ListsOfNodes.{read-key-refl}
use Rattle.ceal_repair.proofs.Lists.PartedLists.{false-of}
use Rattle.ceal_repair.proofs.Nodes.GroveOfRead.{as-grove, rootless-behind, rootless-front}
use Rattle.ceal_repair.proofs.Nodes.NodeItems.{behind-all, distinct-front, unclosed-reads}
use Rattle.ceal_repair.specs.Departs.{Departs, DepartsSo, DepartsUpTo}
use Rattle.ceal_repair.specs.Distance.{has_other_value, revalued_reads}
use Rattle.ceal_repair.specs.Entries.{entry, entries, end_entry}
use Rattle.ceal_repair.specs.Kept.{Kept, IsStale}
use Rattle.ceal_repair.specs.Turning.{ReadAt}
use Rattle.ceal_repair.specs.declared.tables.Tables.{Tables}
use Rattle.ceal_theory.specs.Counts.{reads_of}
use Rattle.ceal_theory.specs.Groves.{Grove, Bare, Made, Put, Got, stepped, trace_in}
use Rattle.ceal_trace.proofs.Entries.{has-read}
use Rattle.ceal_trace.proofs.Parts.{not_before, not_behind, entry-part}
use Rattle.ceal_trace.specs.Items.{unclosed, unclosed_after, Nests}
use Rattle.ceal_trace.specs.Nodes.{Entry, Timeline, IsTrace, stamps_in, has_node, node_at, held_by, is_read}
use Rattle.ceal_trace.specs.declared.node.Node.{Node}
use Rattle.ceal_trace.specs.declared.node.Node.TheVariants.{Root, Alloc, Write, Read, End}

-- ---- lists

-- one of two fronts of nodes has the other in front of it: the first the node after the second, or the second the first
pub fronts : (xs ys zs : List Entry) (w : Entry) (ws : List Entry) → xs ++ ys ≡ zs ++ w ∷ ws
    → ((mid : List Entry) × (zs ≡ xs ++ mid)) ⊎ ((mid : List Entry) × (xs ≡ zs ++ w ∷ mid))
fronts [] ys zs w ws e = inl (zs, refl)
fronts (x ∷ xs) ys [] w ws e = inr (xs, cc)
fronts (x ∷ xs) ys (z ∷ zs) w ws e = of (fronts xs ys zs w ws cc)
  where
    of : ((mid : List Entry) × (zs ≡ xs ++ mid)) ⊎ ((mid : List Entry) × (xs ≡ zs ++ w ∷ mid))
        → ((mid : List Entry) × (z ∷ zs ≡ (x ∷ xs) ++ mid)) ⊎ ((mid : List Entry) × (x ∷ xs ≡ (z ∷ zs) ++ w ∷ mid))
    of (inl (mid, k)) = let same : z ≡ x = cc in inl (mid, cc)
    of (inr (mid, k)) = let same : z ≡ x = cc in inr (mid, cc)

cancel-front : (xs ys zs : List Entry) → xs ++ ys ≡ xs ++ zs → ys ≡ zs
cancel-front [] ys zs e = e
cancel-front (x ∷ xs) ys zs e = cancel-front xs ys zs cc

regroup : (xs mid : List Entry) (x : Entry) (inside : List Entry) (e : Entry) (behind : List Entry)
    → xs ++ (mid ++ x ∷ (inside ++ e ∷ behind)) ≡ (xs ++ (mid ++ x ∷ (inside ++ e ∷ []))) ++ behind
regroup xs mid x inside e behind =
    sym (append_assoc xs (mid ++ x ∷ (inside ++ e ∷ [])) behind
    ∙ ap (λ (es : List Entry). xs ++ es) (append_assoc mid (x ∷ (inside ++ e ∷ [])) behind ∙ ap (λ (es : List Entry). mid ++ x ∷ es) (behind-all inside e behind)))

has-right : (s : ℕ) (xs ys : List Entry) → has_node s ys ≡ true → has_node s (xs ++ ys) ≡ true
has-right s [] ys h = h
has-right s (x ∷ xs) ys h = elim (eqb_tells x.stamp s) [
  | inl p ↦ rw p.0 refl
  | inr p ↦ rw p.0 (has-right s xs ys h)
]

none-left : (s : ℕ) (xs ys : List Entry) → has_node s (xs ++ ys) ≡ false → has_node s xs ≡ false
none-left s [] ys h = refl
none-left s (x ∷ xs) ys h = elim (eqb_tells x.stamp s) [
  | inl p ↦ absurd (let no : true ≡ false = rw p.0 at h in cc)
  | inr p ↦ rw p.0 (none-left s xs ys (rw p.0 at h))
]

-- ---- what is inside a read that was re-executed

not-in-rest : (s x : ℕ) (xs : List ℕ) → is_in s (x ∷ xs) ≡ false → is_in s xs ≡ false
not-in-rest s x xs h = elim (eqb_tells x s) [
  | inl p ↦ absurd (let no : true ≡ false = rw p.0 at h in cc)
  | inr p ↦ rw p.0 at h
]

-- a read that is not open, and not among nodes, is not open after them
Unopened : ℕ → List Entry → Type 0
Unopened read es = (rs zs : List ℕ) → is_in read rs ≡ false → unclosed (Some rs) es ≡ Some zs → is_in read zs ≡ false

unopened-after : (read s : ℕ) (node : Node) (es : List Entry) → ((s == read) ≡ false) → Unopened read es
    → (rs zs : List ℕ) → is_in read rs ≡ false → unclosed (unclosed_after s node rs) es ≡ Some zs → is_in read zs ≡ false
unfolding Unopened
unopened-after read s Root es n k rs zs i h = k rs zs i h
unopened-after read s (Alloc b key) es n k rs zs i h = k rs zs i h
unopened-after read s (Write p v) es n k rs zs i h = k rs zs i h
unopened-after read s (Read p v u x args) es n k rs zs i h = k (s ∷ rs) zs (rw n i) h
unopened-after read s (End r) es n k [] zs i h = absurd (cc)
unopened-after read s (End r) es n k (b ∷ bs) zs i h = elim (eqb_tells r.0 b) [
  | inl q ↦ k bs zs (not-in-rest read b bs i) (rw q.0 at h)
  | inr q ↦ absurd (let bad : None ≡ Some zs = rw q.0 at h in cc)
]

unopened : (read : ℕ) (es : List Entry) → has_node read es ≡ false → Unopened read es
unfolding Unopened
unopened read [] n rs zs i h = let same : rs ≡ zs = cc in subst (λ (l : List ℕ). is_in read l ≡ false) same i
unopened read (e ∷ es) n rs zs i h = elim (eqb_tells e.stamp read) [
  | inl p ↦ absurd (let no : true ≡ false = rw p.0 at n in cc)
  | inr p ↦ unopened-after read e.stamp e.node es p.0 (unopened read es (rw p.0 at n)) rs zs i h
]

-- where a read stays open to the end the nodes close what they open
module _ (read : ℕ) (rs : List ℕ) (out : is_in read rs ≡ false) where
  Closes : List Entry → Type 0
  Closes es = (xs : List ℕ) → unclosed (Some (xs ++ read ∷ rs)) es ≡ Some (read ∷ rs) → unclosed (Some xs) es ≡ Some []

  closes-none : (xs : List ℕ) → xs ++ read ∷ rs ≡ read ∷ rs → xs ≡ []
  closes-none [] e = refl
  closes-none (x ∷ xs) e = let n = ap (λ (l : List ℕ). length l) e in absurd (omega (arith, n, longer xs))
    where
      longer : (xs : List ℕ) → length (read ∷ rs) ≤ length (xs ++ read ∷ rs)
      longer [] = omega arith
      longer (x ∷ xs) = omega (arith, longer xs)

  lost : (es : List Entry) → has_node read es ≡ false → unclosed (Some rs) es ≡ Some (read ∷ rs) → is_in read (read ∷ rs) ≡ false
  unfolding Unopened
  lost es n h = unopened read es n rs (read ∷ rs) out h

  closes-after : (s : ℕ) (node : Node) (es : List Entry) → has_node read es ≡ false → Closes es → (xs : List ℕ)
      → unclosed (unclosed_after s node (xs ++ read ∷ rs)) es ≡ Some (read ∷ rs) → unclosed (unclosed_after s node xs) es ≡ Some []
  unfolding Closes
  closes-after s Root es n k xs h = k xs h
  closes-after s (Alloc b key) es n k xs h = k xs h
  closes-after s (Write p v) es n k xs h = k xs h
  closes-after s (Read p v u x args) es n k xs h = k (s ∷ xs) h
  closes-after s (End r) es n k [] h = elim (eqb_tells r.0 read) [
    | inl q ↦ absurd (let none = lost es n (rw q.0 at h) in let no : true ≡ false = rw (eq-eqb read read refl) at none in cc)
    | inr q ↦ absurd (let bad : None ≡ Some (read ∷ rs) = rw q.0 at h in cc)
  ]
  closes-after s (End r) es n k (x ∷ xs) h = elim (eqb_tells r.0 x) [
    | inl q ↦ rw q.0 (k xs (rw q.0 at h))
    | inr q ↦ absurd (let bad : None ≡ Some (read ∷ rs) = rw q.0 at h in cc)
  ]

  closes : (es : List Entry) → has_node read es ≡ false → Closes es
  unfolding Closes
  closes [] n xs h = ap Some (closes-none xs cc)
  closes (e ∷ es) n xs h = elim (eqb_tells e.stamp read) [
    | inl p ↦ absurd (let no : true ≡ false = rw p.0 at n in cc)
    | inr p ↦ closes-after e.stamp e.node es (rw p.0 at n) (closes es (rw p.0 at n)) xs h
  ]

  nests-inside : (es : List Entry) → has_node read es ≡ false → unclosed (Some (read ∷ rs)) es ≡ Some (read ∷ rs) → Nests es
  unfolding Closes
  nests-inside es n h = closes es n [] h

-- so these nodes are those of a grove
pub grove-inside : (t : Timeline) → IsTrace t → (before inside back : List Entry) (e : Entry) (rs : List ℕ) → t.nodes ≡ before ++ e ∷ (inside ++ back)
    → unclosed (Some []) before ≡ Some rs → unclosed (Some (e.stamp ∷ rs)) inside ≡ Some (e.stamp ∷ rs) → (g : Grove) × (inside ≡ entries g)
grove-inside t trace before inside back e rs is opened h =
    let d : Distinct (stamps_in (before ++ e ∷ (inside ++ back))) = subst (λ (es : List Entry). Distinct (stamps_in es)) is trace.order.distinct in
    let apart = none-left e.stamp inside back (not_behind before e (inside ++ back) d) in
    let first = not_before before e (inside ++ back) d in
    let reads = (unclosed-reads before rs (distinct-front before (e ∷ (inside ++ back)) d) opened).1 in
    let out = false-of (is_in e.stamp rs) (λ i. sym (has-read e.stamp before (reads e.stamp i)) ∙ first) in
    as-grove inside (rootless-front inside back (rootless-behind t trace before e (inside ++ back) is)) (nests-inside e.stamp rs out inside apart h)

-- ---- nodes that depart

pub departs-same : (es : List Entry) → Departs es es 0
departs-same [] = Departs.none
departs-same (e ∷ es) = Departs.kept (departs-same es)

departs-as : {es fs es' fs' : List Entry} {n n' : ℕ} → es ≡ es' → fs ≡ fs' → n ≡ n' → Departs es fs n → Departs es' fs' n'
departs-as e f k d = rw (← e, ← f, ← k) d

pub departs-both : {es fs es' fs' : List Entry} {n k : ℕ} → Departs es fs n → Departs es' fs' k → Departs (es ++ es') (fs ++ fs') (n + k)
departs-both Departs.none d = departs-as refl refl (omega arith) d
departs-both (Departs.kept c) d = Departs.kept (departs-both c d)
departs-both {es' = es'} {fs' = fs'} {k = k} (Departs.apart {old = old} {new = new} {n = n} read p v w unit var args steps more was is end after differs c) d =
    departs-as (ap (λ (l : List Entry). entry read (Read p v unit var args) steps ∷ l) (sym (append_assoc (entries was) (end_entry end read after ∷ old) es')))
    (ap (λ (l : List Entry). entry read (Read p w unit var args) more ∷ l) (sym (append_assoc (entries is) (end_entry end read after ∷ new) fs')))
    (omega arith) (Departs.apart read p v w unit var args steps more was is end after differs (departs-both c d))

-- a read that is stale is no end
not-the-end : (u : Tables) → Kept u → (front : List Entry) (end read after : ℕ) (behind : List Entry) → u.trace.nodes ≡ front ++ end_entry end read after ∷ behind
    → (r : ℕ) → IsStale r u → is_in r (stamps_in (end_entry end read after ∷ behind)) ≡ true → is_in r (stamps_in behind) ≡ true
not-the-end u kept front end read after behind is r stale i = elim (eqb_tells end r) [
  | inl p ↦
      let d : Distinct (stamps_in (front ++ end_entry end read after ∷ behind)) = subst (λ (es : List Entry). Distinct (stamps_in es)) is kept.step.whole.order.distinct in
      let none = not_before front (end_entry end read after) behind d in
      let held : node_at end u.trace.nodes ≡ Some (end_entry end read after).node =
      ap (node_at end) is ∙ ap held_by (entry-part (end_entry end read after) behind front none) in
      let both : Some (end_entry end read after).node ≡ Some (Read stale.place stale.value stale.read.unit stale.read.var stale.read.args) =
      sym held ∙ (ap (λ (s : ℕ). node_at s u.trace.nodes) p.1 ∙ stale.read.is) in
      absurd (cc)
  | inr p ↦ rw p.0 at i
]

-- one turn more
module _ (old : List Entry) (t u : Tables) (kept : Kept t) (kept' : Kept u) (d : DepartsUpTo old t) (spot : ReadAt t.trace.nodes) (stale : IsStale spot.read t)
    (now : Word) (differs : ¬ (now ≡ spot.value)) (steps : ℕ) (inside : Grove)
    (nodes : u.trace.nodes
    ≡ spot.before ++ entry spot.read (Read spot.place now spot.unit spot.var spot.args) steps ∷ (entries inside ++ end_entry spot.end spot.read spot.end_steps ∷ spot.behind))
    (ahead : (r : ℕ) → IsStale r u → is_in r (stamps_in (end_entry spot.end spot.read spot.end_steps ∷ spot.behind)) ≡ true) where
  abbrev read-was : Entry
  read-was = entry spot.read (Read spot.place spot.value spot.unit spot.var spot.args) spot.steps

  abbrev read-is : Entry
  read-is = entry spot.read (Read spot.place now spot.unit spot.var spot.args) steps

  abbrev its-end : Entry
  its-end = end_entry spot.end spot.read spot.end_steps

  departs-behind : (mid : List Entry) → spot.before ≡ d.now ++ mid → DepartsUpTo old u
  departs-behind mid m =
      let behind-is : d.behind ≡ mid ++ read-was ∷ (entries spot.inside ++ its-end ∷ spot.behind) =
      cancel-front d.now d.behind (mid ++ read-was ∷ (entries spot.inside ++ its-end ∷ spot.behind))
      (sym d.is ∙ (spot.whole ∙ (ap (λ (es : List Entry). es ++ read-was ∷ (entries spot.inside ++ its-end ∷ spot.behind)) m
      ∙ append_assoc d.now mid (read-was ∷ (entries spot.inside ++ its-end ∷ spot.behind))))) in
      record {
        front = d.front ++ (mid ++ read-was ∷ (entries spot.inside ++ its-end ∷ []));
        now = d.now ++ (mid ++ read-is ∷ (entries inside ++ its-end ∷ []));
        behind = spot.behind;
        reads = d.reads + (0 + (1 + reads_of (trace_in inside) + 0));
        was = d.was ∙ (ap (λ (es : List Entry). d.front ++ es) behind-is ∙ regroup d.front mid read-was (entries spot.inside) its-end spot.behind);
        is = nodes ∙ (ap (λ (es : List Entry). es ++ read-is ∷ (entries inside ++ its-end ∷ spot.behind)) m
            ∙ (append_assoc d.now mid (read-is ∷ (entries inside ++ its-end ∷ spot.behind)) ∙ regroup d.now mid read-is (entries inside) its-end spot.behind));
        departs = departs-both d.departs
            (departs-both (departs-same mid) (Departs.apart spot.read spot.place spot.value now spot.unit spot.var spot.args spot.steps steps spot.inside inside spot.end spot.end_steps
            (λ e. differs (sym e)) Departs.none));
        ahead = λ r s.
            not-the-end u kept' (spot.before ++ read-is ∷ entries inside) spot.end spot.read spot.end_steps spot.behind
            (nodes ∙ sym (append_assoc spot.before (read-is ∷ entries inside) (its-end ∷ spot.behind))) r s (ahead r s);
      }

  not-in-front : (mid : List Entry) → d.now ≡ spot.before ++ read-was ∷ mid → ⊥
  not-in-front mid m =
      let nodes-are : t.trace.nodes ≡ spot.before ++ read-was ∷ (mid ++ d.behind) =
      d.is ∙ (ap (λ (es : List Entry). es ++ d.behind) m ∙ append_assoc spot.before (read-was ∷ mid) d.behind) in
      let none = not_behind spot.before read-was (mid ++ d.behind) (subst (λ (es : List Entry). Distinct (stamps_in es)) nodes-are kept.step.whole.order.distinct) in
      let some = has-right spot.read mid d.behind (d.ahead spot.read stale) in
      let no : true ≡ false = sym some ∙ none in
      cc

  pub turn-departs : DepartsUpTo old u
  turn-departs = of (fronts d.now d.behind spot.before read-was (entries spot.inside ++ its-end ∷ spot.behind) (sym d.is ∙ spot.whole))
    where
      of : ((mid : List Entry) × (spot.before ≡ d.now ++ mid)) ⊎ ((mid : List Entry) × (d.now ≡ spot.before ++ read-was ∷ mid)) → DepartsUpTo old u
      of (inl m) = departs-behind m.0 m.1
      of (inr m) = absurd (not-in-front m.0 m.1)

-- no turn was made
pub departs-not : (t : Tables) → DepartsUpTo t.trace.nodes t
departs-not t = record {
  front = [];
  now = [];
  behind = t.trace.nodes;
  reads = 0;
  was = refl;
  is = refl;
  departs = Departs.none;
  ahead = λ r s. has-read r t.trace.nodes (ap (λ (n : Option Node). is_read n) s.read.is);
}

-- only the queue is another one
pub departs-still : (old : List Entry) (t u : Tables) → u.trace.nodes ≡ t.trace.nodes → ((r : ℕ) → IsStale r u → IsStale r t) → DepartsUpTo old t → DepartsUpTo old u
departs-still old t u same stale d =
    record { front = d.front; now = d.now; behind = d.behind; reads = d.reads; was = d.was; is = same ∙ d.is; departs = d.departs; ahead = λ r s. d.ahead r (stale r s) }

-- all nodes
pub departs-whole : (old : List Entry) (t : Tables) → DepartsUpTo old t → DepartsSo old t.trace.nodes
departs-whole old t d = (d.reads + 0, rw (d.was, d.is) (departs-both d.departs (departs-same d.behind)))

-- ---- the reads that have another value at their stamps are among those that depart

other-none : (o : Option Node) (b : BlockId) (key : Key) (p : Place) (v : Word) (r : Stamp)
    → (has_other_value o (Alloc b key) ≡ false) × ((has_other_value o (Write p v) ≡ false) × (has_other_value o (End r) ≡ false))
other-none None b key p v r = (refl, (refl, refl))
other-none (Some Root) b key p v r = (refl, (refl, refl))
other-none (Some (Alloc c k)) b key p v r = (refl, (refl, refl))
other-none (Some (Write q w)) b key p v r = (refl, (refl, refl))
other-none (Some (Read q w u x args)) b key p v r = (refl, (refl, refl))
other-none (Some (End s)) b key p v r = (refl, (refl, refl))

other-itself : (n : Node) → has_other_value (Some n) n ≡ false
other-itself Root = refl
other-itself (Alloc b key) = refl
other-itself (Write p v) = refl
other-itself (Read p v u x args) = rw (read-key-refl (record { place = p; unit = u; var = x; args = args }), word-refl v) refl
other-itself (End r) = refl

at-most-one : (b : Bool) → (if b then 1 else 0) ≤ 1
at-most-one true = omega arith
at-most-one false = omega arith

pub reads-stepped : (n : ℕ) (l : Trace) → reads_of (stepped n l) ≡ reads_of l
reads-stepped zero l = refl
reads-stepped (suc n) l = reads-stepped n l

revalued-grove : (old : List Entry) (g : Grove) (es : List Entry) → revalued_reads old (entries g ++ es) ≤ reads_of (trace_in g) + revalued_reads old es
revalued-grove old Bare es = omega arith
revalued-grove old (Made s b key n rest) es =
    let no = (other-none (node_at s old) b key (record { block = b; field = 0 }) Null (record { 0 = 0 })).0 in
    rw no (omega (arith, revalued-grove old rest es, reads-stepped n (trace_in rest)))
revalued-grove old (Put s p v n rest) es =
    let no = (other-none (node_at s old) p.block IntKey p v (record { 0 = 0 })).1.0 in
    rw no (omega (arith, revalued-grove old rest es, reads-stepped n (trace_in rest)))
revalued-grove old (Got s p v u x args n inside e m rest) es =
    let no = (other-none (node_at e old) p.block IntKey p v (record { 0 = s })).1.1 in
    let is = ap (revalued_reads old) (append_assoc (entries inside) (end_entry e s m ∷ entries rest) es) in
    let inner = revalued-grove old inside (end_entry e s m ∷ (entries rest ++ es)) in
    let later = rw no at inner in
    let one = at-most-one (has_other_value (node_at s old) (Read p v u x args)) in
    omega (arith, is, later, one, revalued-grove old rest es, reads-stepped n (trace_in inside), reads-stepped m (trace_in rest))

revalued-departs : (old pre : List Entry) {es fs : List Entry} {n : ℕ} → old ≡ pre ++ es → Distinct (stamps_in old) → Departs es fs n → revalued_reads old fs ≤ n
revalued-departs old pre is d Departs.none = omega arith
revalued-departs old pre is d (Departs.kept {e = e} {old = es} {n = n} c) =
    let none = not_before pre e es (subst (λ (l : List Entry). Distinct (stamps_in l)) is d) in
    let held : node_at e.stamp old ≡ Some e.node = ap (node_at e.stamp) is ∙ ap held_by (entry-part e es pre none) in
    let no : has_other_value (node_at e.stamp old) e.node ≡ false = ap (λ (o : Option Node). has_other_value o e.node) held ∙ other-itself e.node in
    rw no (omega (arith, revalued-departs old (pre ++ e ∷ []) (is ∙ sym (behind-all pre e es)) d c))
revalued-departs old pre is d (Departs.apart {old = es} {new = fs} {n = n} read p v w unit var args steps more was now end after differs c) =
    let x : Entry = entry read (Read p v unit var args) steps in
    let e : Entry = end_entry end read after in
    let no = (other-none (node_at end old) p.block IntKey p v (record { 0 = read })).1.1 in
    let inner = revalued-grove old now (e ∷ fs) in
    let later = rw no at inner in
    let one = at-most-one (has_other_value (node_at read old) (Read p w unit var args)) in
    let rest = revalued-departs old (pre ++ x ∷ (entries was ++ e ∷ []))
    (is ∙ sym (append_assoc pre (x ∷ (entries was ++ e ∷ [])) es ∙ ap (λ (l : List Entry). pre ++ x ∷ l) (behind-all (entries was) e es))) d c in
    omega (arith, later, one, rest)

pub revalued-apart : (old new : List Entry) (n : ℕ) → Distinct (stamps_in old) → Departs old new n → revalued_reads old new ≤ n
revalued-apart old new n d c = revalued-departs old [] refl d c
