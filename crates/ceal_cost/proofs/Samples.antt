-- Two runs of INC side by side: unit 0 reads its first parameter, and unit 1 writes one more than the value to the
-- second.
use Rattle.std.proofs.Common.{◌≡◌, pos, Some, [], ◌∷◌, refl}
use Rattle.ceal_base.specs.declared.word.BlockId.TheVariants.{Core}
use Rattle.ceal_base.specs.declared.word.Word.{Word}
use Rattle.ceal_base.specs.declared.word.Word.TheVariants.{Num, Block as BlockWord}
use Rattle.ceal_code.specs.declared.expr.CodeExpr.TheBlock.{hidden-the_row-CodeExpr-0, shape-the_row-CodeExpr-0}
use Rattle.ceal_base.specs.declared.forest.Item.{Item}
use Rattle.ceal_base.specs.declared.forest.Item.TheVariants as item
use Rattle.ceal_base.specs.declared.forest.Key.TheVariants.{ModInt as IntKey}
use Rattle.ceal_code.proofs.Replay.Increment.{inc, place, inputs, args, items}
use Rattle.ceal_code.specs.Replay.{bases, input_plain, plain_of, stored}
use Rattle.ceal_code.specs.Step.{stack_after_quiet, next, chosen, bound, woven}
use Rattle.ceal_code.specs.Value.{expr_value, values, set, unset}
use Rattle.ceal_cost.specs.Bounds.{first_cost}
use Rattle.ceal_cost.specs.Along.{along}
use Rattle.ceal_cost.specs.Apart.{apart_from, first_apart}
use Rattle.ceal_cost.specs.Side.{steps_inside}
use Rattle.ceal_cost.specs.Ways.{way_of, with_items}
use Rattle.ceal_cost.specs.declared.aligned.Way.TheVariants.{On, Over, Apart}
use Rattle.ceal_theory.specs.Computed.{rerun, adjusted, first_of}
use Rattle.ceal_theory.specs.Cost.{cost_from}
use Rattle.ceal_theory.specs.Take.{take_read}

-- where a is 4 on the one side and 9 on the other the reads differ, and the step inside the second one counts
other_value : first_cost inc 2 (inputs 4 0) (inputs 9 0) 0 args ≡ 1
unfolding first_of rerun cost_from next stack_after_quiet chosen bound woven set unset expr_value values bases input_plain
    stored take_read hidden-the_row-CodeExpr-0 shape-the_row-CodeExpr-0 denote.Hole.Carrier.hidden
other_value = refl

-- so much work is the repair
its_work : adjusted inc (inputs 9 0) 0 2 (items 4 5) ≡ Some (record { items = items 9 10; work = 1 })
unfolding adjusted rerun next stack_after_quiet chosen bound woven set unset expr_value values bases input_plain
    plain_of stored hidden-the_row-CodeExpr-0 shape-the_row-CodeExpr-0 denote.Hole.Carrier.hidden
its_work = refl

-- and one read is apart
one_read : first_apart inc 2 (inputs 4 0) (inputs 9 0) 0 args ≡ 1
unfolding first_of rerun apart_from cost_from next stack_after_quiet chosen bound woven set unset expr_value values bases input_plain
    stored take_read hidden-the_row-CodeExpr-0 shape-the_row-CodeExpr-0 denote.Hole.Carrier.hidden
one_read = refl

-- the value of b is not read, and costs nothing
same_value : first_cost inc 2 (inputs 4 0) (inputs 4 7) 0 args ≡ 0
unfolding first_of rerun cost_from next stack_after_quiet chosen bound woven set unset expr_value values bases input_plain
    stored take_read hidden-the_row-CodeExpr-0 shape-the_row-CodeExpr-0 denote.Hole.Carrier.hidden
same_value = refl

-- levels of the one side beside those of the other
by_levels : along [] (items 4 5 ∷ items 1 2 ∷ []) (items 9 10 ∷ items 3 4 ∷ []) ≡ 2
unfolding along cost_from
by_levels = refl

-- inside one level: up to the end of the read
inside_the_read : steps_inside 1 (item.Step ∷ item.Write (place 1) (Num (pos 5)) ∷ item.End ∷ item.Step ∷ []) ≡ 1
unfolding steps_inside
inside_the_read = refl

-- a read of a, item by item
abbrev read_of : Word → Item
read_of value = item.Read (place 0) value (record { 0 = 1 }) 2 []

goes_over : way_of [] (read_of (Num (pos 4))) (read_of (Num (pos 9))) ≡ Over
goes_over = refl

goes_on : way_of [] (read_of (Num (pos 4))) (read_of (Num (pos 4))) ≡ On
goes_on = refl

of_two_sorts : way_of [] item.Step item.End ≡ Apart
of_two_sorts = refl

-- blocks that were allocated side by side count as equal, and others do not
side_by_side : way_of (with_items [] (item.Alloc (Core 0) IntKey) (item.Alloc (Core 3) IntKey)) (read_of (BlockWord (Core 0))) (read_of (BlockWord (Core 3))) ≡ On
side_by_side = refl

not_side_by_side : way_of [] (read_of (BlockWord (Core 0))) (read_of (BlockWord (Core 0))) ≡ Over
not_side_by_side = refl
