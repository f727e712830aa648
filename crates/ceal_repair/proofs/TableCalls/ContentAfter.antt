-- What a place holds after a node, and the first tables.
use Rattle.std.proofs.Common.{◌≡◌, ℕ, inl, inr, true, false, List, [], ◌∷◌, ◌++◌, refl, sym, ap, ◌∙◌, Some, None}
use Rattle.std.proofs.lemmas.Bool.Decides.{eqb_tells}
use Rattle.ceal_base.specs.declared.word.Place.{Place}
use Rattle.ceal_code.proofs.Words.SameIsEqual.{some-same, none-some}
use Rattle.ceal_memo.proofs.Holding.{holds_as}
use Rattle.ceal_memo.specs.Memo.{Holds, no_entries, Follows as Memo_follows}
use Rattle.ceal_mods.specs.Cell.{value_before, latest_value}
use Rattle.ceal_mods.specs.Mods.{cell_of, IsUntouched, Follows as Mods_follow}
use Rattle.ceal_mods.specs.Writes.{Write as WriteOf, last_of}
use Rattle.ceal_mods.specs.declared.cell.Cell.{Cell}
use Rattle.ceal_order.specs.Stamps.{head_of, successor}
use Rattle.ceal_queue.specs.Queue.{Follows as Queue_follows}
use Rattle.ceal_repair.proofs.QueueCover.NodeChanges.{looked-up}
use Rattle.ceal_repair.proofs.Lists.ListChanges.{last-contents}
use Rattle.ceal_repair.specs.Covered.{contents_after}
use Rattle.ceal_repair.specs.Kept.{InStep, Kept, base_in}
use Rattle.ceal_repair.specs.Lists.{up_to, entries_in}
use Rattle.ceal_repair.specs.declared.tables.Tables.{Tables}
use Rattle.ceal_trace.specs.Nodes.{Entry, IsTrace, NoLooseEnd, stamps_in, has_node, new_entry}
use Rattle.ceal_trace.specs.declared.node.Node.TheVariants.{Root}

up-to-last : (s : ℕ) (nodes : List Entry) → has_node s nodes ≡ true → successor s (stamps_in nodes) ≡ None → up_to s nodes ≡ nodes
up-to-last s [] h k = absurd (let no : false ≡ true = h in cc)
up-to-last s (e ∷ es) h k = elim (eqb_tells e.stamp s) [
  | inl p ↦ rw p.0 (ap (λ (l : List Entry). e ∷ l) (sym (none es (rw p.0 at k))))
  | inr p ↦ rw p.0 (ap (λ (l : List Entry). e ∷ l) (up-to-last s es (rw p.0 at h) (rw p.0 at k)))
]
  where
    none : (es : List Entry) → head_of (stamps_in es) ≡ None → es ≡ []
    none [] h = refl
    none (x ∷ xs) h = none-some x.stamp (sym h)

up-to-next : (s n : ℕ) (nodes : List Entry) → successor s (stamps_in nodes) ≡ Some n → (x : Entry) × (rest : List Entry) × (nodes ≡ up_to s nodes ++ x ∷ rest) × (x.stamp ≡ n)
up-to-next s n [] k = none-some n k
up-to-next s n (e ∷ es) k = elim (eqb_tells e.stamp s) [
  | inl p ↦ (let r = first es (rw p.0 at k) in (r.0, r.1, rw p.0 (ap (λ (l : List Entry). e ∷ l) r.2), r.3))
  | inr p ↦ (let r = up-to-next s n es (rw p.0 at k) in (r.0, r.1, rw p.0 (ap (λ (l : List Entry). e ∷ l) r.2), r.3))
]
  where
    first : (es : List Entry) → head_of (stamps_in es) ≡ Some n → (x : Entry) × (rest : List Entry) × (es ≡ x ∷ rest) × (x.stamp ≡ n)
    first [] h = none-some n h
    first (x ∷ xs) h = (x, xs, refl, some-same x.stamp n h)

-- after the last node
pub value-last : (old : Tables) → InStep old → (p : Place) (s : ℕ) → has_node s old.trace.nodes ≡ true → successor s (stamps_in old.trace.nodes) ≡ None
    → latest_value (cell_of old.mods p) ≡ contents_after (base_in old.mods) (up_to s old.trace.nodes) p
value-last old k p s h last =
    ap (λ (l : List WriteOf). last_of (cell_of old.mods p).base l) (k.tabled.writes p) ∙ (last-contents p old.trace.nodes (base_in old.mods)
    ∙ ap (λ (l : List Entry). contents_after (base_in old.mods) l p) (sym (up-to-last s old.trace.nodes h last)))

-- after another one
pub value-next : (old : Tables) → InStep old → (p : Place) (s n : ℕ) → successor s (stamps_in old.trace.nodes) ≡ Some n
    → value_before (stamps_in old.trace.nodes) n (cell_of old.mods p) ≡ contents_after (base_in old.mods) (up_to s old.trace.nodes) p
value-next old k p s n next =
    let r = up-to-next s n old.trace.nodes next in
    looked-up n (up_to s old.trace.nodes) r.0 r.1 old.trace.nodes old.mods p r.2 r.3 k.whole.order.distinct k.tabled

root-none : (s : ℕ) → entries_in (new_entry 0 Root ∷ []) s ≡ None
root-none s = elim (eqb_tells 0 s) [ inl p ↦ rw p.0 refl | inr p ↦ rw p.0 refl ]

-- the tables of only the root
pub first-kept : (t : Tables) → t.trace.nodes ≡ new_entry 0 Root ∷ [] → IsTrace t.trace → NoLooseEnd t.trace.nodes → IsUntouched t.mods → t.stale.stamps ≡ []
    → Holds t.memo no_entries
    → Mods_follow (stamps_in t.trace.nodes) t.mods → Memo_follows (stamps_in t.trace.nodes) t.memo → Queue_follows (stamps_in t.trace.nodes) t.stale → Kept t
first-kept t nodes whole closed bare none entries mf ef qf = record {
  step = record {
    whole = whole;
    closed = closed;
    tabled = record { writes = λ p. rw nodes (ap (λ (c : Cell). c.writes) (bare p)); reads = λ p. rw nodes (ap (λ (c : Cell). c.reads) (bare p)) };
    keyed = record { entries = holds_as t.memo no_entries (entries_in t.trace.nodes) (λ s. sym (ap (λ l. entries_in l s) nodes ∙ root-none s)) entries };
    queued = λ s i. absurd (let no : false ≡ true = rw none at i in cc);
    mods = mf;
    memo = ef;
    stale = qf;
  };
  chained = rw nodes (tt, tt);
}

pub value-over : (a b : Tables) (s : ℕ) → a.trace ≡ b.trace → a.mods.cells ≡ b.mods.cells → (p : Place)
    → contents_after (base_in a.mods) (up_to s a.trace.nodes) p ≡ contents_after (base_in b.mods) (up_to s b.trace.nodes) p
value-over a b s e f p = rw (e, f) refl
