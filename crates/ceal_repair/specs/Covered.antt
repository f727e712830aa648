-- The contents that nodes leave, and what follows of what the queue of stale reads has to hold (`Chain`): wherever a
-- read does not have the content of its moment, a queued read of its place is there or before it, with no write of the
-- place between.
use Rattle.std.specs.Prelude.{◌≡◌, ◌⊎◌, ℕ, Bool, true, false, if◌then◌else◌, List, [], ◌∷◌, ⊤, ◌==◌}
use Rattle.ceal_base.specs.Operators.{same_place}
use Rattle.ceal_base.specs.declared.word.Place.{Place}
use Rattle.ceal_code.specs.Replay.{Store, stored}
use Rattle.ceal_order.specs.Stamps.{is_in}
use Rattle.ceal_trace.specs.Nodes.{Entry}
use Rattle.ceal_trace.specs.declared.node.Node.{Node}
use Rattle.ceal_trace.specs.declared.node.Node.TheVariants.{Write, Read}

-- the contents after a node, and after several
abbrev pub content_after : Store → Node → Store
content_after s (Write p value) = stored s p value
content_after s _ = s

-- what each place holds after the nodes
abbrev pub contents_after : Store → List Entry → Store
contents_after s [] = s
contents_after s (e ∷ es) = contents_after (content_after s e.node) es

-- which stamps are queued
abbrev pub Queue : Type 0
Queue = ℕ → Bool

-- the queue of these stamps
unfoldable pub queue_of : List ℕ → Queue
queue_of stamps = λ s. is_in s stamps

-- with one more stamp
unfoldable pub and_one : ℕ → List ℕ → Queue
and_one s stamps = λ t. if t == s then true else is_in t stamps

-- at which places a queued read was seen since the last write
abbrev pub Seen : Type 0
Seen = Place → Bool

-- what was seen, with this answer for place p
unfoldable pub with_seen : Seen → Place → Bool → Seen
with_seen g p b = λ q. if same_place q p then b else g q

-- where a queued read was seen since the last write, after one more node
abbrev pub seen_after : Queue → Seen → ℕ → Node → Seen
seen_after q g s (Write p value) = with_seen g p false
seen_after q g s (Read p value unit var args) = if q s then with_seen g p true else g
seen_after q g s _ = g

-- a read has the content of its place, or a queued one was seen
abbrev pub IsCovered : Store → Seen → Node → Type 0
IsCovered s g (Read p value unit var args) = (s p ≡ value) ⊎ (g p ≡ true)
IsCovered s g _ = ⊤

-- each of these is covered, where contents are these at first
abbrev pub Covers : Queue → Store → Seen → List Entry → Type 0
Covers q s g [] = ⊤
Covers q s g (e ∷ es) =
    IsCovered s (seen_after q g e.stamp e.node) e.node
    × Covers q (content_after s e.node) (seen_after q g e.stamp e.node) es
