-- The nodes of a trace as the theory of repair sees them.
use Rattle.std.specs.Prelude.{◌≡◌, List, [], ◌∷◌, ⊤}
use Rattle.ceal_base.specs.declared.forest.Item.{Item}
use Rattle.ceal_base.specs.declared.forest.Item.TheVariants as item
use Rattle.ceal_base.specs.declared.word.Place.{Place}
use Rattle.ceal_code.specs.Program.{Code}
use Rattle.ceal_code.specs.Replay.{Store, cleared}
use Rattle.ceal_repair.specs.Covered.{content_after}
use Rattle.ceal_theory.specs.Cover as cover
use Rattle.ceal_trace.specs.Nodes.{Entry}
use Rattle.ceal_trace.specs.declared.node.Node.{Node}
use Rattle.ceal_trace.specs.declared.node.Node.TheVariants.{Root, Alloc, Write, Read, End}

-- a node as an item; the root is none
abbrev pub item_in : Node → Item
item_in Root = item.Step
item_in (Alloc block key) = item.Alloc block key
item_in (Write place value) = item.Write place value
item_in (Read place value unit var args) = item.Read place value unit var args
item_in (End read) = item.End

-- a list of nodes as the theory has them
abbrev pub nodes_of : List Entry → cover.Nodes
nodes_of [] = cover.Nil
nodes_of (e ∷ es) = cover.Node e.stamp (item_in e.node) (nodes_of es)

-- an allocation is at a point where the modifiables of its block hold their defaults
abbrev pub StartsAt : Code → Store → Node → Type 0
StartsAt code s (Alloc block key) = (p : Place) → cleared code s block key p ≡ s p
StartsAt code s _ = ⊤

-- Each allocation is at a point where the modifiables of its block hold their defaults, from this store on.
abbrev pub StartsAll : Code → Store → List Entry → Type 0
StartsAll code s [] = ⊤
StartsAll code s (e ∷ es) = StartsAt code s e.node × StartsAll code (content_after s e.node) es
