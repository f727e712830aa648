-- The words for traces on small ones.
use Rattle.std.proofs.Common.{◌≡◌, ℕ, List, [], ◌∷◌, Some, None, false, refl, pos}
use Rattle.ceal_base.specs.declared.forest.Item.{Item}
use Rattle.ceal_base.specs.declared.forest.Item.TheVariants as item
use Rattle.ceal_base.specs.declared.word.BlockId.TheVariants.{Input}
use Rattle.ceal_base.specs.declared.word.Place.{Place}
use Rattle.ceal_base.specs.declared.word.Word.TheVariants.{Num, At}
use Rattle.ceal_base.specs.Trace.{Nothing, Stepped, Wrote, WasRead, trace_of}
use Rattle.ceal_trace.specs.declared.node.Node.{Node}
use Rattle.ceal_trace.specs.declared.node.Node.TheVariants.{Root, Write, Read, End}
use Rattle.ceal_trace.specs.Nodes.{Entry, node_at, steps_sum, end_in, with_entry_after, without_entry, with_value, with_steps, new_entry, position, has_node}
use Rattle.ceal_trace.specs.Items.{forest_of, unclosed, Nests}

abbrev a : Place
a = record { block = Input 0; field = 0 }

abbrev b : Place
b = record { block = Input 1; field = 0 }

-- a run that reads a number and writes the next one, with stamps that are not in order
abbrev read_of : ℕ → Node
read_of n = Read a (Num (pos n)) (record { 0 = 1 }) 2 (At b ∷ [])

abbrev entry : ℕ → Node → ℕ → Entry
entry s node steps = record { stamp = s; node = node; steps = steps }

abbrev increment : List Entry
increment = entry 0 Root 1 ∷ entry 7 (read_of 4) 1 ∷ entry 3 (Write b (Num (pos 5))) 0 ∷ entry 5 (End (record { 0 = 7 })) 0 ∷ []

abbrev items : List Item
items = item.Step ∷ item.Read a (Num (pos 4)) (record { 0 = 1 }) 2 (At b ∷ []) ∷ item.Step ∷ item.Write b (Num (pos 5)) ∷ item.End ∷ []

its_forest : forest_of increment ≡ items
its_forest = refl

its_tree : trace_of (forest_of increment) ≡ Some (Stepped (WasRead a (Num (pos 4)) (record { 0 = 1 }) 2 (At b ∷ []) (Stepped (Wrote b (Num (pos 5)) Nothing)) Nothing))
its_tree = refl

its_steps : steps_sum increment ≡ 2
its_steps = refl

it_nests : Nests increment
it_nests = refl

its_end : end_in 7 increment ≡ Some 5
its_end = refl

not_finished : end_in 7 (without_entry 5 increment) ≡ None
not_finished = refl

second : position 7 increment ≡ 1
second = refl

no_such_node : has_node 4 increment ≡ false
no_such_node = refl

-- one read more, which is not finished
abbrev begun : List Entry
begun = with_entry_after 3 (new_entry 9 (read_of 5)) increment

behind_the_write : begun ≡ entry 0 Root 1 ∷ entry 7 (read_of 4) 1 ∷ entry 3 (Write b (Num (pos 5))) 0 ∷ entry 9 (read_of 5) 0 ∷ entry 5 (End (record { 0 = 7 })) 0 ∷ []
behind_the_write = refl

does_not_nest : unclosed (Some []) begun ≡ None
does_not_nest = refl

finished_again : Nests (with_entry_after 9 (new_entry 2 (End (record { 0 = 9 }))) begun)
finished_again = refl

other_value : node_at 7 (with_value 7 (Num (pos 8)) increment) ≡ Some (read_of 8)
other_value = refl

other_steps : steps_sum (with_steps 7 6 increment) ≡ 7
other_steps = refl
