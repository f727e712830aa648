-- How far a repair takes the nodes from the old ones.
use Rattle.std.proofs.Common.{◌≡◌, ◌≢◌, ◌≤◌, ◌<◌, ◌+◌, ℕ, inl, inr, Bool, true, false, List, [], ◌∷◌, ◌++◌, Option, Some, None, subst, refl, sym, ap, ◌∙◌, arith}
use Rattle.std.proofs.lemmas.Bool.{eq-eqb}
use Rattle.std.proofs.lemmas.Bool.Decides.{eqb_tells}
use Rattle.std.specs.Prelude.{◌==◌}
use Rattle.ceal_base.specs.declared.forest.UnitId.{UnitId}
use Rattle.ceal_base.specs.declared.word.Place.{Place}
use Rattle.ceal_base.specs.declared.word.Word.{Word}
use Rattle.ceal_code.proofs.Words.SameIsEqual.{some-same, none-some, word-same}
use Rattle.ceal_base.specs.Operators.{same_word}
use Rattle.ceal_repair.proofs.Lists.ListsOfNodes.{read-key-refl}
use Rattle.ceal_order.specs.Stamps.{Distinct, NotIn, is_in}
use Rattle.ceal_base.specs.Block.{Block}
use Rattle.ceal_code.specs.Program.{Code}
use Rattle.ceal_order.specs.declared.stamp.Stamp.{Stamp}
use Rattle.ceal_repair.proofs.KeptNodes.PassAll.{passes-taken}
use Rattle.ceal_repair.proofs.Nodes.NodeItems.{entries-joined, behind-all}
use Rattle.ceal_repair.proofs.QueueCover.NodeChanges.{up-to-node, behind-node}
use Rattle.ceal_repair.specs.Distance.{Reuses, AllOld, CameTo, CutsAfter, has_other_value, revalued_reads}
use Rattle.ceal_repair.specs.Kept.{Kept}
use Rattle.ceal_repair.specs.Moment.{Start, View, PassingNow}
use Rattle.ceal_repair.specs.declared.tables.Tables.{Tables}
use Rattle.ceal_repair.specs.Entries.{entries, end_entry, first_in, first_stamp, CutTo, Lies}
use Rattle.ceal_repair.specs.Lists.{up_to, nodes_after}
use Rattle.ceal_theory.specs.Groves.{Grove, Bare, Made, Put, Got, cut}
use Rattle.ceal_trace.proofs.Parts.{not_before}
use Rattle.ceal_trace.specs.Nodes.{Entry, Timeline, Inserted, stamps_in, has_node, entry_at, node_at, position, changed_at, valued, value_set, steps_set, with_value, with_steps, with_entry_after}
use Rattle.ceal_trace.specs.Nodes.{new_entry}
use Rattle.ceal_trace.specs.declared.node.Node.{Node}
use Rattle.ceal_trace.specs.declared.node.Node.TheVariants.{Read}

-- ---- stamps that are in a list

not-in : (s : ℕ) (xs : List ℕ) → NotIn s xs → is_in s xs ≡ true → {Q : Type 0} → Q
not-in s [] n i = absurd (let no : false ≡ true = i in cc)
not-in s (x ∷ xs) n i = elim (eqb_tells x s) [
  | inl p ↦ absurd (n.0 (sym p.1))
  | inr p ↦ not-in s xs n.1 (rw p.0 at i)
]

-- ---- nodes at a stamp and after it

module _ (c : ℕ) where
  -- all nodes are those up to one and those after it
  pub parts-at : (es : List Entry) → es ≡ up_to c es ++ nodes_after c es
  parts-at [] = refl
  parts-at (e ∷ es) = elim (eqb_tells e.stamp c) [
    | inl p ↦ rw p.0 refl
    | inr p ↦ rw p.0 (ap (λ (l : List Entry). e ∷ l) (parts-at es))
  ]

  in-after : (s : ℕ) (es : List Entry) → is_in s (stamps_in (nodes_after c es)) ≡ true → is_in s (stamps_in es) ≡ true
  in-after s [] i = i
  in-after s (e ∷ es) i = elim (eqb_tells e.stamp c) [
    | inl p ↦ elim (eqb_tells e.stamp s) [
      | inl q ↦ rw q.0 refl
      | inr q ↦ rw q.0 (rw p.0 at i)
    ]
    | inr p ↦ elim (eqb_tells e.stamp s) [
      | inl q ↦ rw q.0 refl
      | inr q ↦ rw q.0 (in-after s es (rw p.0 at i))
    ]
  ]

  -- another node than the first one
  other-first : (s : ℕ) (e : Entry) (es : List Entry) → Distinct (stamps_in (e ∷ es)) → is_in s (stamps_in (nodes_after c (e ∷ es))) ≡ true → (e.stamp == s) ≡ false
  other-first s e es d i = elim (eqb_tells e.stamp c) [
    | inl p ↦ elim (eqb_tells e.stamp s) [
      | inl q ↦ not-in e.stamp (stamps_in es) d.0 (subst (λ (z : ℕ). is_in z (stamps_in es) ≡ true) (sym q.1) (rw p.0 at i))
      | inr q ↦ q.0
    ]
    | inr p ↦ elim (eqb_tells e.stamp s) [
      | inl q ↦ not-in e.stamp (stamps_in es) d.0 (subst (λ (z : ℕ). is_in z (stamps_in es) ≡ true) (sym q.1) (in-after s es (rw p.0 at i)))
      | inr q ↦ q.0
    ]
  ]

  module _ (s : ℕ) where
    -- those up to a later one, and those after that
    pub up-to-later : (es : List Entry) → Distinct (stamps_in es) → is_in s (stamps_in (nodes_after c es)) ≡ true → up_to s es ≡ up_to c es ++ up_to s (nodes_after c es)
    up-to-later [] d i = absurd (let no : false ≡ true = i in cc)
    up-to-later (e ∷ es) d i =
        let o = other-first s e es d i in elim (eqb_tells e.stamp c) [
          | inl p ↦ rw (o, p.0) refl
          | inr p ↦ rw (o, p.0) (ap (λ (l : List Entry). e ∷ l) (up-to-later es d.1 (rw p.0 at i)))
        ]

    pub after-later : (es : List Entry) → Distinct (stamps_in es) → is_in s (stamps_in (nodes_after c es)) ≡ true → nodes_after s es ≡ nodes_after s (nodes_after c es)
    after-later [] d i = refl
    after-later (e ∷ es) d i =
        let o = other-first s e es d i in elim (eqb_tells e.stamp c) [
          | inl p ↦ rw (o, p.0) refl
          | inr p ↦ rw (o, p.0) (after-later es d.1 (rw p.0 at i))
        ]

    pub entry-later : (es : List Entry) → Distinct (stamps_in es) → is_in s (stamps_in (nodes_after c es)) ≡ true → entry_at s es ≡ entry_at s (nodes_after c es)
    entry-later [] d i = refl
    entry-later (e ∷ es) d i =
        let o = other-first s e es d i in elim (eqb_tells e.stamp c) [
          | inl p ↦ rw (o, p.0) refl
          | inr p ↦ rw (o, p.0) (entry-later es d.1 (rw p.0 at i))
        ]

    none-before : (es : List Entry) → Distinct (stamps_in es) → is_in s (stamps_in (nodes_after c es)) ≡ true → has_node s (up_to c es) ≡ false
    none-before [] d i = refl
    none-before (e ∷ es) d i =
        let o = other-first s e es d i in elim (eqb_tells e.stamp c) [
          | inl p ↦ rw (p.0, o) refl
          | inr p ↦ rw (p.0, o) (none-before es d.1 (rw p.0 at i))
        ]

  -- a node with a later place
  pub is-later : (s : ℕ) (es : List Entry) → position c es < position s es → has_node s es ≡ true → is_in s (stamps_in (nodes_after c es)) ≡ true
  is-later s [] l h = absurd (let no : false ≡ true = h in cc)
  is-later s (e ∷ es) l h = elim (eqb_tells e.stamp s) [
    | inl q ↦ absurd (let z : position c (e ∷ es) < 0 = rw q.0 at l in omega (arith, z))
    | inr q ↦ elim (eqb_tells e.stamp c) [
      | inl p ↦ rw p.0 (rw q.0 at h)
      | inr p ↦ rw p.0 (is-later s es (let m = rw (p.0, q.0) at l in omega (arith, m)) (rw q.0 at h))
    ]
  ]

-- the first of these nodes
pub in-first : (s : ℕ) (es : List Entry) → first_in es ≡ Some s → is_in s (stamps_in es) ≡ true
in-first s [] h = none-some s h
in-first s (e ∷ es) h = let o = some-same e.stamp s h in rw (o, eq-eqb s s refl) refl

-- one in the middle of nodes
in-middle : (s : ℕ) (front : List Entry) (e : Entry) (back : List Entry) → e.stamp ≡ s → is_in s (stamps_in (front ++ e ∷ back)) ≡ true
in-middle s [] e back is = rw (is, eq-eqb s s refl) refl
in-middle s (x ∷ xs) e back is = elim (eqb_tells x.stamp s) [
  | inl p ↦ rw p.0 refl
  | inr p ↦ rw p.0 (in-middle s xs e back is)
]

-- ---- nodes that are changed

module _ (c : ℕ) (change : Entry → Entry) (same : (e : Entry) → (change e).stamp ≡ e.stamp) where
  up-to-changed : (es : List Entry) → up_to c (changed_at c change es) ≡ changed_at c change (up_to c es)
  up-to-changed [] = refl
  up-to-changed (e ∷ es) = elim (eqb_tells e.stamp c) [
    | inl p ↦ rw (p.0, same e, p.0) refl
    | inr p ↦ rw (p.0, p.0) (ap (λ (l : List Entry). e ∷ l) (up-to-changed es))
  ]

  after-changed : (es : List Entry) → nodes_after c (changed_at c change es) ≡ nodes_after c es
  after-changed [] = refl
  after-changed (e ∷ es) = elim (eqb_tells e.stamp c) [
    | inl p ↦ rw (p.0, same e, p.0) refl
    | inr p ↦ rw (p.0, p.0) (after-changed es)
  ]

  changed-later : (front back : List Entry) → has_node c front ≡ false → changed_at c change (front ++ back) ≡ front ++ changed_at c change back
  changed-later [] back none = refl
  changed-later (e ∷ es) back none = elim (eqb_tells e.stamp c) [
    | inl p ↦ absurd (let no : true ≡ false = rw p.0 at none in cc)
    | inr p ↦ rw p.0 (ap (λ (l : List Entry). e ∷ l) (changed-later es back (rw p.0 at none)))
  ]

-- ---- what is old

module _ (o : List Entry) where
  pub reuses-as : {es : List Entry} {f d f' d' : ℕ} → f ≡ f' → d ≡ d' → Reuses o es f d → Reuses o es f' d'
  reuses-as {es = es} {f = f} {d' = d'} e k r = subst (λ (n : ℕ). Reuses o es n d') e (subst (λ (n : ℕ). Reuses o es f n) k r)

  pub all-kept : (es : List Entry) → AllOld o es → Reuses o es 0 0
  all-kept [] a = Reuses.none
  all-kept (e ∷ es) a = Reuses.kept a.0 (all-kept es a.1)

  all-after : (s : ℕ) (es : List Entry) → AllOld o es → AllOld o (nodes_after s es)
  all-after s [] a = tt
  all-after s (e ∷ es) a = elim (eqb_tells e.stamp s) [
    | inl p ↦ rw p.0 a.1
    | inr p ↦ rw p.0 (all-after s es a.1)
  ]

  all-up-to : (s : ℕ) (es : List Entry) → AllOld o es → AllOld o (up_to s es)
  all-up-to s [] a = tt
  all-up-to s (e ∷ es) a = elim (eqb_tells e.stamp s) [
    | inl p ↦ rw p.0 (a.0, tt)
    | inr p ↦ rw p.0 (a.0, all-up-to s es a.1)
  ]

  pub reuses-both : {es fs : List Entry} {f d f' d' : ℕ} → Reuses o es f d → Reuses o fs f' d' → Reuses o (es ++ fs) (f + f') (d + d')
  reuses-both Reuses.none r = reuses-as (omega arith) (omega arith) r
  reuses-both (Reuses.kept h q) r = Reuses.kept h (reuses-both q r)
  reuses-both (Reuses.revalued p v w u x args h k n q) r = reuses-as (omega arith) (omega arith) (Reuses.revalued p v w u x args h k n (reuses-both q r))
  reuses-both (Reuses.new q) r = reuses-as (omega arith) (omega arith) (Reuses.new (reuses-both q r))

  reuses-steps : (s n : ℕ) {es : List Entry} {f d : ℕ} → Reuses o es f d → Reuses o (with_steps s n es) f d
  reuses-steps s n Reuses.none = Reuses.none
  reuses-steps s n (Reuses.kept {e = e} h q) = elim (eqb_tells e.stamp s) [
    | inl p ↦ rw p.0 (Reuses.kept h q)
    | inr p ↦ rw p.0 (Reuses.kept h (reuses-steps s n q))
  ]
  reuses-steps s n (Reuses.revalued {e = e} p v w u x args h k m q) = elim (eqb_tells e.stamp s) [
    | inl z ↦ rw z.0 (Reuses.revalued p v w u x args h k m q)
    | inr z ↦ rw z.0 (Reuses.revalued p v w u x args h k m (reuses-steps s n q))
  ]
  reuses-steps s n (Reuses.new {e = e} q) = elim (eqb_tells e.stamp s) [
    | inl p ↦ rw p.0 (Reuses.new q)
    | inr p ↦ rw p.0 (Reuses.new (reuses-steps s n q))
  ]

  -- the read at the end of some old nodes gets another value
  reuses-value : (s : ℕ) (p : Place) (v w : Word) (u : UnitId) (x : ℕ) (args : List Word) (es : List Entry) → AllOld o es → node_at s es ≡ Some (Read p v u x args) → v ≢ w
      → Reuses o (changed_at s (value_set w) (up_to s es)) 0 1
  reuses-value s p v w u x args [] a at n = none-some (Read p v u x args) at
  reuses-value s p v w u x args (e ∷ es) a at n = elim (eqb_tells e.stamp s) [
    | inl q ↦ rw (q.0, q.0) (own (some-same e.node (Read p v u x args) (rw q.0 at at)))
    | inr q ↦ rw (q.0, q.0) (Reuses.kept a.0 (reuses-value s p v w u x args es a.1 (rw q.0 at at) n))
  ]
    where
      own : e.node ≡ Read p v u x args → Reuses o (value_set w e ∷ []) 0 1
      own k = Reuses.revalued p v w u x args (a.0 ∙ ap Some k) (ap (valued w) k) n Reuses.none

-- each node is one of all of them
all-more : (o : List Entry) (e : Entry) (es : List Entry) → NotIn e.stamp (stamps_in es) → AllOld o es → AllOld (e ∷ o) es
all-more o e [] n a = tt
all-more o e (x ∷ xs) n a = elim (eqb_tells e.stamp x.stamp) [
  | inl p ↦ absurd (n.0 p.1)
  | inr p ↦ (rw p.0 a.0, all-more o e xs n.1 a.1)
]

pub all-self : (es : List Entry) → Distinct (stamps_in es) → AllOld es es
all-self [] d = tt
all-self (e ∷ es) d = (rw (eq-eqb e.stamp e.stamp refl) refl, all-more es e es d.0 (all-self es d.1))

-- ---- what a grove loses

module _ (o : List Entry) where
  all-both : (es fs : List Entry) → AllOld o es → AllOld o fs → AllOld o (es ++ fs)
  all-both [] fs a b = b
  all-both (e ∷ es) fs a b = (a.0, all-both es fs a.1 b)

  all-first : (es fs : List Entry) → AllOld o (es ++ fs) → AllOld o es
  all-first [] fs a = tt
  all-first (e ∷ es) fs a = (a.0, all-first es fs a.1)

  all-second : (es fs : List Entry) → AllOld o (es ++ fs) → AllOld o fs
  all-second [] fs a = a
  all-second (e ∷ es) fs a = all-second es fs a.1

  all-cut : (g : Grove) → AllOld o (entries g) → AllOld o (entries (cut g))
  all-cut Bare a = a
  all-cut (Made s b key n rest) a = a.1
  all-cut (Put s p v n rest) a = a.1
  all-cut (Got s p v u x args n inside e m rest) a = rw (entries-joined inside rest)
      (all-both (entries inside) (entries rest) (all-first (entries inside) (end_entry e s m ∷ entries rest) a.1) (all-second (entries inside) (end_entry e s m ∷ entries rest) a.1).1)

  pub all-left : (g h : Grove) (tail : List Entry) → AllOld o (entries g ++ tail) → (AllOld o (entries g) → AllOld o (entries h)) → AllOld o (entries h ++ tail)
  all-left g h tail a more = all-both (entries h) tail (more (all-first (entries g) tail a)) (all-second (entries g) tail a)

-- ---- how far a repair has come

module _ (o : List Entry) where
  pub came-as : {c : ℕ} {es : List Entry} {f d f' d' : ℕ} → f ≡ f' → d ≡ d' → CameTo o f d c es → CameTo o f' d' c es
  came-as e k h = record { front = reuses-as o e k h.front; back = h.back }

  pub came-steps : (f d c n : ℕ) (es fs : List Entry) → fs ≡ with_steps c n es → CameTo o f d c es → CameTo o f d c fs
  came-steps f d c n es fs is h = rw is (record {
    front = rw (up-to-changed c (steps_set n) (λ e. refl) es) (reuses-steps o c n h.front);
    back = rw (after-changed c (steps_set n) (λ e. refl) es) h.back;
  })

  pub came-move : (f d c s : ℕ) (es : List Entry) → Distinct (stamps_in es) → is_in s (stamps_in (nodes_after c es)) ≡ true → CameTo o f d c es → CameTo o f d s es
  came-move f d c s es distinct i h = record {
    front = rw (up-to-later c s es distinct i) (reuses-as o (omega arith) (omega arith) (reuses-both o h.front (all-kept o (up_to s (nodes_after c es)) (all-up-to o s (nodes_after c es) h.back))));
    back = rw (after-later c s es distinct i) (all-after o s (nodes_after c es) h.back);
  }

  pub came-value : (f d c s : ℕ) (p : Place) (v w : Word) (u : UnitId) (x : ℕ) (args : List Word) (es fs : List Entry) → fs ≡ with_value s w es → Distinct (stamps_in es)
      → is_in s (stamps_in (nodes_after c es)) ≡ true → node_at s es ≡ Some (Read p v u x args) → v ≢ w → CameTo o f d c es → CameTo o f (d + 1) s fs
  came-value f d c s p v w u x args es fs is distinct i at n h =
      let back : List Entry = nodes_after c es in
      let here : node_at s back ≡ Some (Read p v u x args) = ap held_by' (sym (entry-later c s es distinct i)) ∙ at in
      rw is (record {
        front = rw (up-to-changed s (value_set w) (λ e. refl) es, up-to-later c s es distinct i, changed-later s (value_set w) (λ e. refl) (up_to c es) (up_to s back) (none-before c s es distinct i))
            (reuses-as o (omega arith) refl (reuses-both o h.front (reuses-value o s p v w u x args back h.back here n)));
        back = rw (after-changed s (value_set w) (λ e. refl) es, after-later c s es distinct i) (all-after o s back h.back);
      })
    where
      held_by' : Option Entry → Option Node
      held_by' None = None
      held_by' (Some e) = Some e.node

  -- a node is put in
  put-there : (c : ℕ) (new : Entry) (es : List Entry) → has_node c es ≡ false → with_entry_after c new es ≡ es
  put-there c new [] none = refl
  put-there c new (e ∷ es) none = elim (eqb_tells e.stamp c) [
    | inl p ↦ absurd (let no : true ≡ false = rw p.0 at none in cc)
    | inr p ↦ rw p.0 (ap (λ (l : List Entry). e ∷ l) (put-there c new es (rw p.0 at none)))
  ]

  up-to-put : (c z : ℕ) (n : Node) (es : List Entry) → has_node z es ≡ false → has_node c es ≡ true → up_to z (with_entry_after c (new_entry z n) es) ≡ up_to c es ++ new_entry z n ∷ []
  up-to-put c z n [] none here = absurd (let no : false ≡ true = here in cc)
  up-to-put c z n (e ∷ es) none here = elim (eqb_tells e.stamp z) [
    | inl q ↦ absurd (let no : true ≡ false = rw q.0 at none in cc)
    | inr q ↦ elim (eqb_tells e.stamp c) [
      | inl p ↦ rw (p.0, q.0, eq-eqb z z refl) refl
      | inr p ↦ rw (p.0, q.0) (ap (λ (l : List Entry). e ∷ l) (up-to-put c z n es (rw q.0 at none) (rw p.0 at here)))
    ]
  ]

  after-put : (c z : ℕ) (n : Node) (es : List Entry) → has_node z es ≡ false → has_node c es ≡ true → nodes_after z (with_entry_after c (new_entry z n) es) ≡ nodes_after c es
  after-put c z n [] none here = absurd (let no : false ≡ true = here in cc)
  after-put c z n (e ∷ es) none here = elim (eqb_tells e.stamp z) [
    | inl q ↦ absurd (let no : true ≡ false = rw q.0 at none in cc)
    | inr q ↦ elim (eqb_tells e.stamp c) [
      | inl p ↦ rw (p.0, q.0, eq-eqb z z refl) refl
      | inr p ↦ rw (p.0, q.0) (after-put c z n es (rw q.0 at none) (rw p.0 at here))
    ]
  ]

  pub came-put : (f d c z : ℕ) (n : Node) (es fs : List Entry) → fs ≡ with_entry_after c (new_entry z n) es → Inserted c z n es fs → CameTo o f d c es → CameTo o (f + 1) d z fs
  came-put f d c z n es fs is more h = rw is (record {
    front = rw (up-to-put c z n es more.new here) (reuses-as o refl (omega arith) (reuses-both o h.front (Reuses.new {e = new_entry z n} Reuses.none)));
    back = rw (after-put c z n es more.new here) h.back;
  })
    where
      or-not : (b : Bool) → has_node c es ≡ b → has_node c es ≡ true
      or-not true e = e
      or-not false e = absurd (let no : false ≡ true = sym more.new ∙ (ap (has_node z) (sym (is ∙ put-there c (new_entry z n) es e)) ∙ more.there) in cc)

      here : has_node c es ≡ true
      here = or-not (has_node c es) refl

  -- nodes after the cursor are taken out
  pub came-cut : (f d c : ℕ) (es fs : List Entry) → up_to c fs ≡ up_to c es → (AllOld o (nodes_after c es) → AllOld o (nodes_after c fs)) → CameTo o f d c es → CameTo o f d c fs
  came-cut f d c es fs front back h = record { front = rw front h.front; back = back h.back }

  pub came-end : (f d c : ℕ) (es : List Entry) → CameTo o f d c es → Reuses o es f d
  came-end f d c es h =
      subst (λ (l : List Entry). Reuses o l f d) (sym (parts-at c es)) (reuses-as o (omega arith) (omega arith) (reuses-both o h.front (all-kept o (nodes_after c es) h.back)))

pub came-start : (c : ℕ) (es : List Entry) → Distinct (stamps_in es) → CameTo es 0 0 c es
came-start c es d = let a = all-self es d in record { front = all-kept es (up_to c es) (all-up-to es c es a); back = all-after es c es a }

-- ---- nodes after a cursor are taken out

all-cut-to : (o : List Entry) (s : ℕ) (g h : Grove) → CutTo s g h → AllOld o (entries g) → AllOld o (entries h)
all-cut-to o s g h (CutTo.there f) a = a
all-cut-to o s g h (CutTo.more n k) a = all-cut-to o s (cut g) h k (all-cut o g a)

cut-first : (s : ℕ) (g h : Grove) → CutTo s g h → first_stamp h ≡ Some s
cut-first s g h (CutTo.there f) = f
cut-first s g h (CutTo.more n k) = cut-first s (cut g) h k

first-grove : (s : ℕ) (g : Grove) (tail : List Entry) → first_stamp g ≡ Some s → first_in (entries g ++ tail) ≡ Some s
first-grove s Bare tail f = none-some s f
first-grove s (Made z b key n rest) tail f = f
first-grove s (Put z p v n rest) tail f = f
first-grove s (Got z p v u x args n inside e m rest) tail f = f

-- the nodes up to the cursor, and those after it
pub lies-parts : (c : ℕ) (front : List Entry) (left : Grove) (tail : List Entry) (t : Tables) → Kept t → Lies c front left tail t
    → (up_to c t.trace.nodes ≡ front) × (nodes_after c t.trace.nodes ≡ entries left ++ tail)
lies-parts c front left tail t kept l =
    let is : t.trace.nodes ≡ l.done ++ l.last ∷ (entries left ++ tail) = l.nodes ∙ (ap (λ (es : List Entry). es ++ (entries left ++ tail)) l.ends ∙ behind-all l.done l.last (entries left ++ tail)) in
    let apart : has_node l.last.stamp l.done ≡ false = not_before l.done l.last (entries left ++ tail) (subst (λ (es : List Entry). Distinct (stamps_in es)) is kept.step.whole.order.distinct) in (
      subst (λ (n : ℕ). up_to n t.trace.nodes ≡ front) l.is_at (ap (up_to l.last.stamp) is ∙ (up-to-node l.last (entries left ++ tail) l.done apart ∙ sym l.ends)),
      subst (λ (n : ℕ). nodes_after n t.trace.nodes ≡ entries left ++ tail) l.is_at (ap (nodes_after l.last.stamp) is ∙ behind-node l.last (entries left ++ tail) l.done apart),
    )

cuts-as : (c : ℕ) (front : List Entry) (left rest : Grove) (tail : List Entry) (t u : Tables) → Kept t → Kept u → Lies c front left tail t → Lies c front rest tail u
    → ((o : List Entry) → AllOld o (entries left) → AllOld o (entries rest)) → CutsAfter c t.trace.nodes u.trace.nodes
cuts-as c front left rest tail t u k h l m more =
    let a = lies-parts c front left tail t k l in
    let b = lies-parts c front rest tail u h m in
    record { front = b.0 ∙ sym a.0; back = λ o old. rw b.1 (all-left o left rest tail (rw a.1 at old) (more o)) }

-- up to one of them, which is then the first
pub cuts-to : (c s : ℕ) (front : List Entry) (left rest : Grove) (tail : List Entry) (t u : Tables) → Kept t → Kept u → Lies c front left tail t → CutTo s left rest → Lies c front rest tail u
    → CutsAfter c t.trace.nodes u.trace.nodes × (first_in (nodes_after c u.trace.nodes) ≡ Some s)
cuts-to c s front left rest tail t u k h l to m =
    let b = lies-parts c front rest tail u h m in
    (cuts-as c front left rest tail t u k h l m (λ o. all-cut-to o s left rest to), ap first_in b.1 ∙ first-grove s rest tail (cut-first s left rest to))

-- all of them
pub cuts-all : (c s : ℕ) (front : List Entry) (left : Grove) (tail : List Entry) (t u : Tables) → Kept t → Kept u → Lies c front left tail t → first_in tail ≡ Some s → Lies c front Bare tail u
    → CutsAfter c t.trace.nodes u.trace.nodes × (first_in (nodes_after c u.trace.nodes) ≡ Some s)
cuts-all c s front left tail t u k h l f m =
    let b = lies-parts c front Bare tail u h m in
    (cuts-as c front left Bare tail t u k h l m (λ o a. tt), ap first_in b.1 ∙ f)

-- the end of a taken read is after the cursor
pub end-after : (code : Code) (inputs : List Block) (start : Start) (until : Stamp) (v : View) → PassingNow code inputs start until v → is_in until.0 (stamps_in
    (nodes_after v.cursor v.tables.trace.nodes)) ≡ true
end-after code inputs start until v now =
    let p = passes-taken now.passes in
    let q = now.placed in
    let is : v.tables.trace.nodes ≡ q.done ++ q.last ∷ now.behind = q.nodes ∙ behind-all q.done q.last now.behind in
    let apart : has_node q.last.stamp q.done ≡ false = not_before q.done q.last now.behind (subst (λ (es : List Entry). Distinct (stamps_in es)) is q.kept.step.whole.order.distinct) in
    let after : nodes_after v.cursor v.tables.trace.nodes ≡ now.behind =
    subst (λ (n : ℕ). nodes_after n v.tables.trace.nodes ≡ now.behind) q.cursor (ap (nodes_after q.last.stamp) is ∙ behind-node q.last now.behind q.done apart) in
    let there : is_in p.end (stamps_in now.behind) ≡ true =
    subst (λ (es : List Entry). is_in p.end (stamps_in es) ≡ true) (sym p.back_is) (in-middle p.end p.nodes (end_entry p.end p.read p.steps) (entries p.behind ++ p.rest) refl) in
    subst (λ (s : Stamp). is_in s.0 (stamps_in (nodes_after v.cursor v.tables.trace.nodes)) ≡ true) (sym p.until_is) (subst (λ (es : List Entry). is_in p.end (stamps_in es) ≡ true) (sym after) there)

-- the cursor moves to the first node that is left
pub came-cut-to : (o : List Entry) (f d c s : ℕ) (es fs : List Entry) → CutsAfter c es fs → first_in (nodes_after c fs) ≡ Some s → Distinct (stamps_in fs) → CameTo o f d c es → CameTo o f d s fs
came-cut-to o f d c s es fs cuts first distinct h =
    came-move o f d c s fs distinct (in-first s (nodes_after c fs) first) (came-cut o f d c es fs cuts.front (cuts.back o) h)

-- the same nodes
pub came-same : (o : List Entry) (f d c : ℕ) (a b : Timeline) → b ≡ a → CameTo o f d c a.nodes → CameTo o f d c b.nodes
came-same o f d c a b e h = subst (λ (x : Timeline). CameTo o f d c x.nodes) (sym e) h

-- ---- the reads that have another value, counted

other-word : (v w : Word) → v ≢ w → same_word v w ≡ false
other-word v w n = go (same_word v w) refl
  where
    go : (b : Bool) → same_word v w ≡ b → same_word v w ≡ false
    go true e = absurd (n (word-same v w e))
    go false e = e

read-itself : (p : Place) (v w : Word) (u : UnitId) (x : ℕ) (args : List Word) → v ≢ w → has_other_value (Some (Read p v u x args)) (Read p w u x args) ≡ true
read-itself p v w u x args n = rw (read-key-refl (record { place = p; unit = u; var = x; args = args }), other-word v w n) refl

pub stale-revalued : (old new : List Entry) (fresh stale : ℕ) → Reuses old new fresh stale → stale ≤ revalued_reads old new
stale-revalued old [] fresh stale Reuses.none = omega arith
stale-revalued old (e ∷ es) fresh stale (Reuses.kept h r) = let n = stale-revalued old es fresh stale r in omega (arith, n)
stale-revalued old (e ∷ es) fresh stale (Reuses.revalued {stale = s} p v w u x args h k m r) =
    let n = stale-revalued old es fresh s r in
    let one : has_other_value (node_at e.stamp old) e.node ≡ true = rw (h, k) (read-itself p v w u x args m) in rw one (omega (arith, n))
stale-revalued old (e ∷ es) fresh stale (Reuses.new {fresh = f} r) = let n = stale-revalued old es f stale r in omega (arith, n)
