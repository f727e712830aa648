-- The repair of INC after an edit: unit 0 reads its first parameter, and unit 1 writes one more than the value to the
-- second.
use Rattle.std.proofs.Common.{◌≡◌, pos, Some, [], ◌∷◌, refl}
use Rattle.ceal_base.specs.Trace.{flat}
use Rattle.ceal_base.specs.declared.kind.Shape.TheVariants.{ModInt}
use Rattle.ceal_base.specs.declared.word.BlockId.TheVariants.{Core}
use Rattle.ceal_base.specs.declared.word.Word.TheVariants.{Num, At}
use Rattle.ceal_code.specs.declared.expr.CodeExpr.TheBlock.{hidden-the_row-CodeExpr-0, shape-the_row-CodeExpr-0}
use Rattle.ceal_base.specs.declared.forest.Item.TheVariants as item
use Rattle.ceal_code.proofs.Replay.Increment.{inc, place, inputs, args, items}
use Rattle.ceal_code.specs.Fresh.{fresh, run}
use Rattle.ceal_code.specs.Replay.{bases, input_plain, plain_of, stored, learnt}
use Rattle.ceal_code.specs.Step.{stack_after_quiet, next, chosen, bound, woven}
use Rattle.ceal_code.specs.Value.{expr_value, values, set, unset}
use Rattle.ceal_code.specs.declared.stack.Closure.{Closure}
use Rattle.ceal_adjust.specs.Answers.{IsAnswer}
use Rattle.ceal_adjust.specs.Closures.{find_closure, mark_of_read}
use Rattle.ceal_adjust.specs.KnownBlocks.{nothing, knowing, blocks_below}
use Rattle.ceal_adjust.specs.Marks.{mark_of, depth, depths}
use Rattle.ceal_adjust.specs.Slicing.{Comes}
use Rattle.ceal_adjust.specs.declared.adjust.Adjusted.TheVariants.{Done as IsDone, OutOfFuel}
use Rattle.ceal_adjust.specs.declared.mark.Mark.TheVariants.{Closed}
use Rattle.ceal_adjust.specs.declared.slices.Sliced.TheVariants.{Done as Ends, Spent}
use Rattle.ceal_theory.specs.Computed.{rerun, adjusted}
use Rattle.ceal_theory.specs.Levels.{find_read}
use Rattle.ceal_theory.specs.Slices.{beginning, sliced, is_done, with_inputs, starting}

-- the trace of a run on 4 is repaired where a is 9: one step is re-executed
repaired : IsAnswer (adjusted inc (inputs 9 0) 0 2 (items 4 5)) (fresh inc 0 args (inputs 9 0) 2) (IsDone (flat (items 9 10)) 1)
unfolding adjusted rerun fresh run next stack_after_quiet chosen bound woven set unset expr_value values bases input_plain
    plain_of stored hidden-the_row-CodeExpr-0 shape-the_row-CodeExpr-0 denote.Hole.Carrier.hidden
repaired = record {
  items = items 9 10;
  flat_form = refl;
  same = refl;
  finished = record { memory = record { inputs = inputs 9 10; made = [] }; steps = 2; blocks = 0 };
  ends = refl;
}

-- nothing has changed: nothing is re-executed
unchanged : IsAnswer (adjusted inc (inputs 4 7) 0 2 (items 4 5)) (fresh inc 0 args (inputs 4 7) 2) (IsDone (flat (items 4 5)) 0)
unfolding adjusted rerun fresh run next stack_after_quiet chosen bound woven set unset expr_value values bases input_plain
    plain_of stored hidden-the_row-CodeExpr-0 shape-the_row-CodeExpr-0 denote.Hole.Carrier.hidden
unchanged = record {
  items = items 4 5;
  flat_form = refl;
  same = refl;
  finished = record { memory = record { inputs = inputs 4 5; made = [] }; steps = 2; blocks = 0 };
  ends = refl;
}

-- a run from scratch takes two steps, and with fuel for one there is no repair
out_of_fuel : IsAnswer (adjusted inc (inputs 9 0) 0 1 (items 4 5)) (fresh inc 0 args (inputs 9 0) 1) OutOfFuel
unfolding adjusted rerun fresh run next stack_after_quiet chosen bound woven set unset expr_value values bases input_plain
    plain_of stored hidden-the_row-CodeExpr-0 shape-the_row-CodeExpr-0 denote.Hole.Carrier.hidden
out_of_fuel = refl

-- the same in a slice of one read, after which none is stale
in_a_slice : Comes inc (inputs 9 0) (Some 1) 2 (beginning inc (inputs 9 0) (items 4 5) 0) (Ends (record { forest = flat (items 9 10); known = []; next = 0; spent = 1 }))
unfolding sliced is_done with_inputs starting rerun knowing next stack_after_quiet chosen bound woven set unset expr_value
    values bases input_plain plain_of stored hidden-the_row-CodeExpr-0 shape-the_row-CodeExpr-0
    denote.Hole.Carrier.hidden
in_a_slice = record {
  repair = record { items = items 9 10; known = with_inputs inc (inputs 9 0) (plain_of inc (inputs 9 0) (items 4 5)); number = 0; spent = 1 };
  is = refl;
  stands = record { items = refl; known = λ b. refl; next = refl; spent = refl };
  ends = refl;
}

-- without a step no slice is there
no_slice : Comes inc (inputs 9 0) (Some 1) 0 (beginning inc (inputs 9 0) (items 4 5) 0) Spent
unfolding sliced with_inputs starting rerun next stack_after_quiet chosen bound woven set unset expr_value values bases
    input_plain plain_of stored hidden-the_row-CodeExpr-0 shape-the_row-CodeExpr-0 denote.Hole.Carrier.hidden
no_slice = refl

-- the read is found by its closure, and after it one level is left over around the items inside
abbrev closure : Closure
closure = record { place = place 0; unit = record { 0 = 1 }; var = 2; args = At (place 1) ∷ [] }

found : find_closure closure 1 (flat (items 4 5))
    ≡ Some (record { value = Num (pos 4); rest = item.Step ∷ item.Write (place 1) (Num (pos 5)) ∷ item.End ∷ []; levels = 1 })
unfolding find_read
found = refl

its_mark : mark_of (item.Read (place 0) (Num (pos 4)) (record { 0 = 1 }) 2 (At (place 1) ∷ [])) 1 ≡ Some (mark_of_read closure)
its_mark = refl

-- the end of the read leads back to one level less
its_end : mark_of item.End 2 ≡ Some (Closed 1)
its_end = refl

-- step, read, step, write and end: the read is open after its item, and up to its end
open_reads : depths (flat (items 4 5)) 5 ≡ 5 ∷ 5 ∷ 6 ∷ 6 ∷ 6 ∷ []
unfolding depths depth
open_reads = refl

-- a core block with its number
a_block : knowing nothing (record { number = 3; block = record { shape = ModInt; words = [] } } ∷ []) (Core 3) ≡ Some (record { shape = ModInt; words = [] })
unfolding knowing learnt
a_block = refl

-- of the blocks 1 and 3 only the one below 3 is listed
listed : blocks_below 3 (learnt (learnt nothing (Core 3) (record { shape = ModInt; words = [] })) (Core 1) (record { shape = ModInt; words = [] }))
    ≡ record { number = 1; block = record { shape = ModInt; words = [] } } ∷ []
unfolding blocks_below learnt
listed = refl
