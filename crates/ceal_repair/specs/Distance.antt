-- How far the nodes of a trace are from those of an old one: the distance of traces (Ley-Wild, Acar and Fluet, *A cost
-- semantics for self-adjusting computation*, POPL 2009), with stamps for the places of nodes.
use Rattle.std.specs.Prelude.{◌≡◌, ◌≢◌, ℕ, ◌+◌, ⊤, List, [], ◌∷◌, Option, Some, Bool, false, ◌&&◌, not, if◌then◌else◌}
use Rattle.ceal_base.specs.Operators.{same_word}
use Rattle.ceal_base.specs.declared.forest.UnitId.{UnitId}
use Rattle.ceal_base.specs.declared.word.Place.{Place}
use Rattle.ceal_base.specs.declared.word.Word.{Word}
use Rattle.ceal_repair.specs.Lists.{up_to, nodes_after}
use Rattle.ceal_theory.specs.Levels.{same_read}
use Rattle.ceal_trace.specs.Nodes.{Entry, node_at}
use Rattle.ceal_trace.specs.declared.node.Node.{Node}
use Rattle.ceal_trace.specs.declared.node.Node.TheVariants.{Read}

-- Of these nodes `fresh` are new ones, `stale` are reads that the old nodes have at the same stamps with another value,
-- and each other one is an old node at its stamp. The steps on a node do not matter.
pub data Reuses (old : List Entry) : List Entry → ℕ → ℕ → Type 0 where
  none : Reuses old [] 0 0
  kept : {e : Entry} {es : List Entry} {fresh stale : ℕ} → node_at e.stamp old ≡ Some e.node
      → Reuses old es fresh stale → Reuses old (e ∷ es) fresh stale
  revalued : {e : Entry} {es : List Entry} {fresh stale : ℕ}
      → (p : Place) (v w : Word) (unit : UnitId) (var : ℕ) (args : List Word)
      → node_at e.stamp old ≡ Some (Read p v unit var args) → e.node ≡ Read p w unit var args → v ≢ w
      → Reuses old es fresh stale → Reuses old (e ∷ es) fresh (stale + 1)
  new : {e : Entry} {es : List Entry} {fresh stale : ℕ}
      → Reuses old es fresh stale → Reuses old (e ∷ es) (fresh + 1) stale

-- whether the second node is the read that the first one is, with another value
abbrev pub has_other_value : Option Node → Node → Bool
has_other_value (Some (Read p v unit var args)) (Read q w u x words) =
    same_read p unit var args q u x words && not (same_word v w)
has_other_value _ _ = false

-- how many of the new nodes are reads that the old ones have at their stamps with another value
abbrev pub revalued_reads : List Entry → List Entry → ℕ
revalued_reads old [] = 0
revalued_reads old (e ∷ es) = (if has_other_value (node_at e.stamp old) e.node then 1 else 0) + revalued_reads old es

-- each of these is an old node at its stamp
abbrev pub AllOld : List Entry → List Entry → Type 0
AllOld old [] = ⊤
AllOld old (e ∷ es) = (node_at e.stamp old ≡ Some e.node) × AllOld old es

-- A repair of the old nodes is at a cursor: the nodes after it are old ones, and of those up to it `fresh` are new, and
-- `stale` have another value.
pub record CameTo (old : List Entry) (fresh stale cursor : ℕ) (nodes : List Entry) : Type 0 where
  pub front : Reuses old (up_to cursor nodes) fresh stale
  pub back : AllOld old (nodes_after cursor nodes)

-- nodes after the cursor were taken out, and each that is left was there
pub record CutsAfter (cursor : ℕ) (old new : List Entry) : Type 0 where
  pub front : up_to cursor new ≡ up_to cursor old
  pub back : (o : List Entry) → AllOld o (nodes_after cursor old) → AllOld o (nodes_after cursor new)
