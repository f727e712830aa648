-- Entries in a list.
use Rattle.std.proofs.Common.{◌≡◌, ◌≢◌, ℕ, inl, inr, ◌+◌, true, false, List, [], ◌∷◌, refl, sym, ap, ◌∙◌, arith, Option, Some, None}
use Rattle.std.specs.Prelude.{option_map, IsSome}
use Rattle.std.proofs.lemmas.Bool.Decides.{eqb_tells}
use Rattle.std.proofs.lemmas.Bool.{eq-eqb, cases_Bool}
use Rattle.ceal_order.specs.declared.stamp.Stamp.{Stamp}
use Rattle.ceal_order.specs.Stamps.{Distinct, with_after, without}
use Rattle.ceal_trace.specs.declared.node.Node.{Node}
use Rattle.ceal_trace.specs.declared.node.Node.TheVariants.{Root, Alloc, Write, Read, End}
use Rattle.ceal_trace.specs.Nodes.{Entry, stamps_in, has_node, entry_at, node_at, steps_at, steps_sum, is_plain, is_read, ends, end_in, with_entry_after, without_entry, changed_at}
use Rattle.ceal_trace.proofs.Stamped.{NotIn-apart}

-- ---- the entry at a stamp

pub has-entry : (s : ℕ) (e : Entry) (es : List Entry) → entry_at s es ≡ Some e → has_node s es ≡ true
has-entry s x [] h = absurd (cc)
has-entry s x (e ∷ es) h = elim (eqb_tells e.stamp s) [ inl p ↦ rw p.0 refl | inr p ↦ rw p.0 (has-entry s x es (rw p.0 at h)) ]

pub has-held : (s : ℕ) (n : Node) (es : List Entry) → node_at s es ≡ Some n → has_node s es ≡ true
has-held s n [] h = absurd (cc)
has-held s n (e ∷ es) h = elim (eqb_tells e.stamp s) [ inl p ↦ rw p.0 refl | inr p ↦ rw p.0 (has-held s n es (rw p.0 at h)) ]

pub has-read : (s : ℕ) (es : List Entry) → is_read (node_at s es) ≡ true → has_node s es ≡ true
has-read s [] h = absurd (cc)
has-read s (e ∷ es) h = elim (eqb_tells e.stamp s) [ inl p ↦ rw p.0 refl | inr p ↦ rw p.0 (has-read s es (rw p.0 at h)) ]

-- ---- ends

pub ends_is : (read : ℕ) (n : Node) → ends read n ≡ true → n ≡ End (record { 0 = read })
ends_is read Root h = absurd (cc)
ends_is read (Alloc block key) h = absurd (cc)
ends_is read (Write place value) h = absurd (cc)
ends_is read (Read place value unit var args) h = absurd (cc)
ends_is read (End r) h = elim (eqb_tells r.0 read) [
  | inl p ↦ ap (λ (k : ℕ). End (record { 0 = k })) p.1
  | inr p ↦ absurd (let no : false ≡ true = rw p.0 at h in cc)
]

pub ends_own : (r : Stamp) → ends r.0 (End r) ≡ true
ends_own r = eq-eqb r.0 r.0 refl

pub ends_other : (read : ℕ) (r : Stamp) → read ≢ r.0 → ends read (End r) ≡ false
ends_other read r other = elim (eqb_tells r.0 read) [ inl p ↦ absurd (other (sym p.1)) | inr p ↦ p.0 ]

pub plain_ends : (read : ℕ) (n : Node) → is_plain n ≡ true → ends read n ≡ false
plain_ends read Root h = refl
plain_ends read (Alloc block key) h = refl
plain_ends read (Write place value) h = refl
plain_ends read (Read place value unit var args) h = refl
plain_ends read (End r) h = absurd (cc)

pub some_of : (o : Option ℕ) → IsSome o → (s : ℕ) × (o ≡ Some s)
some_of None h = absurd (let no : false ≡ true = h in cc)
some_of (Some s) h = (s, refl)

pub is_some_of : (o : Option ℕ) (s : ℕ) → o ≡ Some s → IsSome o
is_some_of o s h = rw h refl

pub none_of : (o : Option ℕ) → (IsSome o → ⊥) → o ≡ None
none_of None h = refl
none_of (Some s) h = absurd (h refl)

-- the end of a read is a node that ends it
pub end-found : (read s : ℕ) (es : List Entry) → Distinct (stamps_in es) → end_in read es ≡ Some s → node_at s es ≡ Some (End (record { 0 = read }))
end-found read s [] distinct h = absurd (cc)
end-found read s (e ∷ es) distinct h = elim (cases_Bool (ends read e.node)) [
  | inl p ↦
      let is : Some e.stamp ≡ Some s = rw p at h in
      let same : e.stamp ≡ s = cc in
      rw (eq-eqb e.stamp s same) (ap (λ (n : Node). Some n) (ends_is read e.node p))
  | inr p ↦
      let found = end-found read s es distinct.1 (rw p at h) in
      elim (eqb_tells e.stamp s) [
        | inl q ↦ absurd (NotIn-apart s e.stamp (stamps_in es) distinct.0 (has-held s (End (record { 0 = read })) es found) (sym q.1))
        | inr q ↦ rw q.0 found
      ]
]

-- ---- one entry more

module _ (s : ℕ) (new : Entry) where
  pub stamps-after : (es : List Entry) → stamps_in (with_entry_after s new es) ≡ with_after s new.stamp (stamps_in es)
  stamps-after [] = refl
  stamps-after (e ∷ es) = elim (eqb_tells e.stamp s) [
    | inl p ↦ rw p.0 refl
    | inr p ↦ rw p.0 (ap (λ (l : List ℕ). e.stamp ∷ l) (stamps-after es))
  ]

  pub entry-new : (es : List Entry) → has_node s es ≡ true → has_node new.stamp es ≡ false → entry_at new.stamp (with_entry_after s new es) ≡ Some new
  entry-new [] found fresh = absurd (cc)
  entry-new (e ∷ es) found fresh = elim (eqb_tells e.stamp new.stamp) [
    | inl t ↦ absurd (let no : true ≡ false = rw t.0 at fresh in cc)
    | inr t ↦ elim (eqb_tells e.stamp s) [
      | inl p ↦ rw (p.0, t.0, eq-eqb new.stamp new.stamp refl) refl
      | inr p ↦ rw (p.0, t.0) (entry-new es (rw p.0 at found) (rw t.0 at fresh))
    ]
  ]

  pub entry-old : (u : ℕ) (es : List Entry) → u ≢ new.stamp → entry_at u (with_entry_after s new es) ≡ entry_at u es
  entry-old u [] other = refl
  entry-old u (e ∷ es) other = elim (eqb_tells e.stamp s) [
    | inl p ↦ elim (eqb_tells new.stamp u) [ inl q ↦ absurd (other (sym q.1)) | inr q ↦ rw (p.0, q.0) refl ]
    | inr p ↦ elim (eqb_tells e.stamp u) [ inl q ↦ rw (p.0, q.0) refl | inr q ↦ rw (p.0, q.0) (entry-old u es other) ]
  ]

  pub sum-after : (es : List Entry) → has_node s es ≡ true → steps_sum (with_entry_after s new es) ≡ steps_sum es + new.steps
  sum-after [] found = absurd (cc)
  sum-after (e ∷ es) found = elim (eqb_tells e.stamp s) [
    | inl p ↦ rw p.0 (omega arith)
    | inr p ↦ rw p.0 (let rest = sum-after es (rw p.0 at found) in omega (arith, rest))
  ]

  pub ends-after : (read : ℕ) (es : List Entry) → ends read new.node ≡ false → end_in read (with_entry_after s new es) ≡ end_in read es
  ends-after read [] h = refl
  ends-after read (e ∷ es) h = elim (eqb_tells e.stamp s) [
    | inl p ↦ rw (p.0, h) refl
    | inr p ↦ elim (cases_Bool (ends read e.node)) [ inl q ↦ rw (p.0, q) refl | inr q ↦ rw (p.0, q) (ends-after read es h) ]
  ]

  pub end-new : (read : ℕ) (es : List Entry) → has_node s es ≡ true → ends read new.node ≡ true → end_in read es ≡ None
      → end_in read (with_entry_after s new es) ≡ Some new.stamp
  end-new read [] found does none = absurd (cc)
  end-new read (e ∷ es) found does none = elim (cases_Bool (ends read e.node)) [
    | inl q ↦ absurd (let no : Some e.stamp ≡ None = rw q at none in cc)
    | inr q ↦ elim (eqb_tells e.stamp s) [
      | inl p ↦ rw (p.0, q, does) refl
      | inr p ↦ rw (p.0, q) (end-new read es (rw p.0 at found) does (rw q at none))
    ]
  ]

-- ---- one entry less

module _ (s : ℕ) where
  pub stamps-without : (es : List Entry) → stamps_in (without_entry s es) ≡ without s (stamps_in es)
  stamps-without [] = refl
  stamps-without (e ∷ es) = elim (eqb_tells e.stamp s) [
    | inl p ↦ rw p.0 refl
    | inr p ↦ rw p.0 (ap (λ (l : List ℕ). e.stamp ∷ l) (stamps-without es))
  ]

  pub entry-left : (u : ℕ) (es : List Entry) → u ≢ s → entry_at u (without_entry s es) ≡ entry_at u es
  entry-left u [] other = refl
  entry-left u (e ∷ es) other = elim (eqb_tells e.stamp s) [
    | inl p ↦ elim (eqb_tells e.stamp u) [ inl q ↦ absurd (other (sym q.1 ∙ p.1)) | inr q ↦ rw (p.0, q.0) refl ]
    | inr p ↦ elim (eqb_tells e.stamp u) [ inl q ↦ rw (p.0, q.0) refl | inr q ↦ rw (p.0, q.0) (entry-left u es other) ]
  ]

  pub sum-without : (es : List Entry) → has_node s es ≡ true → steps_sum es ≡ steps_sum (without_entry s es) + steps_at s es
  sum-without [] found = absurd (cc)
  sum-without (e ∷ es) found = elim (eqb_tells e.stamp s) [
    | inl p ↦ rw p.0 (omega arith)
    | inr p ↦ rw p.0 (let rest = sum-without es (rw p.0 at found) in omega (arith, rest))
  ]

  pub ends-left : (read : ℕ) (n : Node) (es : List Entry) → node_at s es ≡ Some n → ends read n ≡ false → end_in read (without_entry s es) ≡ end_in read es
  ends-left read n [] held h = refl
  ends-left read n (e ∷ es) held h = elim (eqb_tells e.stamp s) [
    | inl p ↦
        let is : Some e.node ≡ Some n = rw p.0 at held in
        let same : e.node ≡ n = cc in
        let no : ends read e.node ≡ false = ap (λ (m : Node). ends read m) same ∙ h in
        rw (p.0, no) refl
    | inr p ↦ elim (cases_Bool (ends read e.node)) [
      | inl q ↦ rw (p.0, q) refl
      | inr q ↦ rw (p.0, q) (ends-left read n es (rw p.0 at held) h)
    ]
  ]

-- ---- an entry changed

module _ (s : ℕ) (change : Entry → Entry) (stamp_is : (e : Entry) → (change e).stamp ≡ e.stamp) where
  pub stamps-changed : (es : List Entry) → stamps_in (changed_at s change es) ≡ stamps_in es
  stamps-changed [] = refl
  stamps-changed (e ∷ es) = elim (eqb_tells e.stamp s) [
    | inl p ↦ rw (p.0, stamp_is e) refl
    | inr p ↦ rw p.0 (ap (λ (l : List ℕ). e.stamp ∷ l) (stamps-changed es))
  ]

  pub entry-changed : (es : List Entry) → entry_at s (changed_at s change es) ≡ option_map change (entry_at s es)
  entry-changed [] = refl
  entry-changed (e ∷ es) = elim (eqb_tells e.stamp s) [
    | inl p ↦ rw (p.0, stamp_is e, p.0) refl
    | inr p ↦ rw p.0 (rw p.0 (entry-changed es))
  ]

  pub entry-unchanged : (u : ℕ) (es : List Entry) → u ≢ s → entry_at u (changed_at s change es) ≡ entry_at u es
  entry-unchanged u [] other = refl
  entry-unchanged u (e ∷ es) other = elim (eqb_tells e.stamp s) [
    | inl p ↦ elim (eqb_tells e.stamp u) [ inl q ↦ absurd (other (sym q.1 ∙ p.1)) | inr q ↦ rw (p.0, stamp_is e, q.0) refl ]
    | inr p ↦ elim (eqb_tells e.stamp u) [ inl q ↦ rw (p.0, q.0) refl | inr q ↦ rw (p.0, q.0) (entry-unchanged u es other) ]
  ]

  pub sum-changed : (es : List Entry) → has_node s es ≡ true
      → steps_sum (changed_at s change es) + steps_at s es ≡ steps_sum es + steps_at s (changed_at s change es)
  sum-changed [] found = absurd (cc)
  sum-changed (e ∷ es) found = elim (eqb_tells e.stamp s) [
    | inl p ↦ rw (p.0, stamp_is e, p.0) (omega arith)
    | inr p ↦ rw p.0 (rw p.0 (let rest = sum-changed es (rw p.0 at found) in omega (arith, rest)))
  ]

  pub ends-changed : (read : ℕ) (es : List Entry) → ((e : Entry) → ends read (change e).node ≡ ends read e.node)
      → end_in read (changed_at s change es) ≡ end_in read es
  ends-changed read [] same = refl
  ends-changed read (e ∷ es) same = elim (eqb_tells e.stamp s) [
    | inl p ↦ rw (p.0, same e, stamp_is e) refl
    | inr p ↦ elim (cases_Bool (ends read e.node)) [ inl q ↦ rw (p.0, q) refl | inr q ↦ rw (p.0, q) (ends-changed read es same) ]
  ]
