-- The memo has the reads and the allocations of the nodes.
use Rattle.std.proofs.Common.{◌≡◌, ◌≢◌, ℕ, Bool, inl, inr, true, false, List, [], ◌∷◌, Option, None, Some, refl, sym, ap, subst, ◌∙◌}
use Rattle.std.proofs.lemmas.Bool.Decides.{eqb_tells}
use Rattle.ceal_memo.proofs.Holding.{holds_as, none_there}
use Rattle.ceal_memo.specs.Keys.{EntryKey}
use Rattle.ceal_memo.specs.Memo.{Contents, HasNone, Holds, with_key, without_key}
use Rattle.ceal_repair.specs.Lists.{IsKeyed, key_of, entries_in}
use Rattle.ceal_trace.proofs.Entries.{entry-old, entry-left}
use Rattle.ceal_trace.specs.Nodes.{Entry, has_node, node_at, held_by, new_entry, with_entry_after, without_entry}
use Rattle.ceal_trace.specs.declared.node.Node.{Node}

-- there is no node at a stamp that no node has
no-node : (s : ℕ) (es : List Entry) → has_node s es ≡ false → node_at s es ≡ None
no-node s [] none = refl
no-node s (e ∷ es) none = elim (eqb_tells e.stamp s) [
  | inl p ↦ absurd (let no : true ≡ false = rw p.0 at none in cc)
  | inr p ↦ rw p.0 (no-node s es (rw p.0 at none))
]

no-entry-there : (s : ℕ) (es : List Entry) → has_node s es ≡ false → entries_in es s ≡ None
no-entry-there s es none = ap key_of (no-node s es none)

-- where there is an entry there is a node
pub entry-there : (s : ℕ) (es : List Entry) → entries_in es s ≢ None → has_node s es ≡ true
entry-there s es some = by (has_node s es) refl
  where
    by : (b : Bool) → has_node s es ≡ b → b ≡ true
    by true is = refl
    by false is = absurd (some (no-entry-there s es is))

pub none-of : (s : ℕ) (nodes : List Entry) (memo : Contents) → IsKeyed nodes memo → has_node s nodes ≡ false → HasNone s memo
none-of s nodes memo keyed none = none_there memo (entries_in nodes) keyed.entries s (no-entry-there s nodes none)

pub keyed-as : (old new : List Entry) (memo : Contents) → ((t : ℕ) → entries_in new t ≡ entries_in old t) → IsKeyed old memo → IsKeyed new memo
keyed-as old new memo same keyed = record { entries = holds_as memo (entries_in old) (entries_in new) (λ t. sym (same t)) keyed.entries }

-- a node is put in
module _ (after s : ℕ) (n : Node) (old all : List Entry) (is : all ≡ with_entry_after after (new_entry s n) old) (new : has_node s old ≡ false) (at_it : node_at s all ≡ Some n) where
  others-put : (t : ℕ) → t ≢ s → entries_in all t ≡ entries_in old t
  others-put t other = ap (λ (l : List Entry). entries_in l t) is ∙ ap (λ (o : Option Entry). key_of (held_by o)) (entry-old after (new_entry s n) t old other)

  pub keyed-in : key_of (Some n) ≡ None → (memo : Contents) → IsKeyed old memo → IsKeyed all memo
  keyed-in quiet memo = keyed-as old all memo (λ t. elim (eqb_tells t s) [
    | inl p ↦ subst (λ z. entries_in all z ≡ entries_in old z) (sym p.1) (ap key_of at_it ∙ quiet ∙ sym (no-entry-there s old new))
    | inr p ↦ others-put t p.1
  ])

  pub keyed-entered : (key : EntryKey) → key_of (Some n) ≡ Some key → (memo : Contents) → Holds memo (with_key s key (entries_in old)) → IsKeyed all memo
  keyed-entered key own memo holds = record { entries = holds_as memo (with_key s key (entries_in old)) (entries_in all) same holds }
    where
      same : (t : ℕ) → with_key s key (entries_in old) t ≡ entries_in all t
      same t = elim (eqb_tells s t) [
        | inl p ↦ rw p.0 (sym (subst (λ z. entries_in all z ≡ Some key) p.1 (ap key_of at_it ∙ own)))
        | inr p ↦ rw p.0 (sym (others-put t (λ e. p.1 (sym e))))
      ]

-- a node is taken out
module _ (s : ℕ) (old left : List Entry) (is : left ≡ without_entry s old) (gone : has_node s left ≡ false) where
  others-left : (t : ℕ) → t ≢ s → entries_in left t ≡ entries_in old t
  others-left t other = ap (λ (l : List Entry). entries_in l t) is ∙ ap (λ (o : Option Entry). key_of (held_by o)) (entry-left s t old other)

  pub keyed-out : (n : Node) → node_at s old ≡ Some n → key_of (Some n) ≡ None → (memo : Contents) → IsKeyed old memo → IsKeyed left memo
  keyed-out n at_it quiet memo = keyed-as old left memo (λ t. elim (eqb_tells t s) [
    | inl p ↦ subst (λ z. entries_in left z ≡ entries_in old z) (sym p.1) (no-entry-there s left gone ∙ sym (ap key_of at_it ∙ quiet))
    | inr p ↦ others-left t p.1
  ])

  pub keyed-cut : (memo : Contents) → Holds memo (without_key s (entries_in old)) → IsKeyed left memo
  keyed-cut memo holds = record { entries = holds_as memo (without_key s (entries_in old)) (entries_in left) same holds }
    where
      same : (t : ℕ) → without_key s (entries_in old) t ≡ entries_in left t
      same t = elim (eqb_tells s t) [
        | inl p ↦ rw p.0 (sym (subst (λ z. entries_in left z ≡ None) p.1 (no-entry-there s left gone)))
        | inr p ↦ rw p.0 (sym (others-left t (λ e. p.1 (sym e))))
      ]
