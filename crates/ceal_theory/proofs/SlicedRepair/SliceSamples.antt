-- Slices, computed: two sums with an edit between the slices, and BOX, whose revoked block keeps its number while a
-- later slice makes a block.
use Rattle.std.proofs.Common.{◌≡◌, ℕ, pos, Bool, true, false, Option, Some, None, List, [], ◌∷◌, refl}
use Rattle.ceal_base.specs.Block.{Block}
use Rattle.ceal_base.specs.Trace.{steps_of, blocks_of}
use Rattle.ceal_base.specs.declared.kind.Kind.TheVariants.{Int, ModInt as ModIntKind}
use Rattle.ceal_base.specs.declared.operators.Binary.TheVariants.{Add}
use Rattle.ceal_base.specs.declared.word.Word.TheVariants.{At}
use Rattle.ceal_code.specs.Init.{made, set_by, set_by_all, arguments}
use Rattle.ceal_code.specs.Program.{Code}
use Rattle.ceal_code.specs.Replay.{input_plain, plain_of, bases, learnt, stored, cleared, core_numbers}
use Rattle.ceal_code.specs.Step.{stack_after_quiet, next, chosen, bound, woven}
use Rattle.ceal_code.specs.Value.{expr_value, values, set, unset}
use Rattle.ceal_code.specs.declared.command.Cmd.TheVariants.{Write, Done, Read, Call}
use Rattle.ceal_code.specs.declared.expr.CodeExpr.TheBlock.{hidden-the_row-CodeExpr-0, shape-the_row-CodeExpr-0}
use Rattle.ceal_code.specs.declared.expr.CodeExpr.TheVariants.{Num as NumExpr}
use Rattle.ceal_code.specs.declared.expr.CodeExpr.TheViews.{Binary}
use Rattle.ceal_code.specs.declared.function.FunctionCode.TheVariants.{Core as CoreFunction}
use Rattle.ceal_theory.proofs.SampleBox.{var, v, u, place, number, box, box_inputs, box_first}
use Rattle.ceal_theory.specs.Computed.{rerun, Repaired, first_of}
use Rattle.ceal_theory.specs.Repair.{own}
use Rattle.ceal_theory.specs.Take.{take_alloc, take_read}
use Rattle.ceal_theory.specs.Slices.{Repair, sliced, is_done, with_inputs, starting, beginning}

-- the slices' number spent, whether it is done, steps, and blocks
pub record Report : Type 0 where
  pub spent : ℕ
  pub done : Bool
  pub steps : ℕ
  pub blocks : List ℕ

abbrev report : Code → List Block → Option Repair → Option Report
report code inputs None = None
report code inputs (Some r) = Some (record { spent = r.spent; done = is_done code inputs r; steps = steps_of r.items; blocks = core_numbers (blocks_of r.items) })

abbrev begun : Code → List Block → ℕ → Option Repaired → Option Repair
begun code inputs number None = None
begun code inputs number (Some r) = Some (beginning code inputs r.items number)

abbrev slice_one : Code → List Block → ℕ → Option Repair → Option Repair
slice_one code inputs n None = None
slice_one code inputs n (Some r) = sliced code own inputs (Some 1) n r

abbrev box_1 : Option Repair
box_1 = slice_one box (box_inputs 2) 11 (begun box (box_inputs 2) 1 box_first)

abbrev box_2 : Option Repair
box_2 = slice_one box (box_inputs 2) 11 box_1

abbrev box_3 : Option Repair
box_3 = slice_one box (box_inputs 2) 11 box_2

-- the first `make` is re-executed and its block is revoked; then the second makes a block with another number; then
-- `look`
boxed-1 : report box (box_inputs 2) box_1 ≡ Some (record { spent = 1; done = false; steps = 9; blocks = [] })
unfolding first_of sliced is_done with_inputs starting rerun next stack_after_quiet chosen bound woven set unset expr_value
    values bases input_plain plain_of stored cleared learnt made set_by set_by_all arguments take_read take_alloc
    hidden-the_row-CodeExpr-0 shape-the_row-CodeExpr-0 denote.Hole.Carrier.hidden
boxed-1 = refl

boxed-2 : report box (box_inputs 2) box_2 ≡ Some (record { spent = 4; done = false; steps = 11; blocks = 1 ∷ [] })
unfolding first_of sliced is_done with_inputs starting rerun next stack_after_quiet chosen bound woven set unset expr_value
    values bases input_plain plain_of stored cleared learnt made set_by set_by_all arguments take_read take_alloc
    hidden-the_row-CodeExpr-0 shape-the_row-CodeExpr-0 denote.Hole.Carrier.hidden
boxed-2 = refl

boxed-3 : report box (box_inputs 2) box_3 ≡ Some (record { spent = 5; done = true; steps = 11; blocks = 1 ∷ [] })
unfolding first_of sliced is_done with_inputs starting rerun next stack_after_quiet chosen bound woven set unset expr_value
    values bases input_plain plain_of stored cleared learnt made set_by set_by_all arguments take_read take_alloc
    hidden-the_row-CodeExpr-0 shape-the_row-CodeExpr-0 denote.Hole.Carrier.hidden
boxed-3 = refl

-- two sums, one after the other
abbrev two : Code
two = record {
  structs = [];
  functions = CoreFunction [] (u 0) (ModIntKind ∷ ModIntKind ∷ []) ∷ CoreFunction [] (u 2) (ModIntKind ∷ ModIntKind ∷ ModIntKind ∷ ModIntKind ∷ []) ∷ [];
  units =
      record { function = 0; params = var 0 ∷ var 1 ∷ []; body = Read (var 2) (v 0) (u 1) (v 1 ∷ []) ∷ [] }
      ∷ record { function = 0; params = var 1 ∷ var 2 ∷ []; body = Write (v 1) (Binary Add (v 2) (NumExpr (pos 1))) ∷ Done ∷ [] }
      ∷ record { function = 1; params = var 0 ∷ var 1 ∷ var 2 ∷ var 3 ∷ []; body = Call 0 (v 0 ∷ v 1 ∷ []) (u 3) (v 2 ∷ v 3 ∷ []) ∷ [] }
      ∷ record { function = 1; params = var 2 ∷ var 3 ∷ []; body = Call 0 (v 2 ∷ v 3 ∷ []) (u 4) [] ∷ [] }
      ∷ record { function = 1; params = []; body = Done ∷ [] }
      ∷ [];
  kinds = (ModIntKind ∷ ModIntKind ∷ Int ∷ []) ∷ (ModIntKind ∷ ModIntKind ∷ ModIntKind ∷ ModIntKind ∷ []) ∷ [];
}

abbrev two_inputs : ℕ → ℕ → List Block
two_inputs a c = number a ∷ number 0 ∷ number c ∷ number 0 ∷ []

abbrev two_first : Option Repaired
two_first = first_of two (two_inputs 1 5) 6 1 (At (place 0) ∷ At (place 1) ∷ At (place 2) ∷ At (place 3) ∷ [])

abbrev two_1 : Option Repair
two_1 = slice_one two (two_inputs 2 7) 6 (begun two (two_inputs 2 7) 0 two_first)

abbrev two_2 : Option Repair
two_2 = slice_one two (two_inputs 3 7) 6 two_1

abbrev two_3 : Option Repair
two_3 = slice_one two (two_inputs 3 7) 6 two_2

two-1 : report two (two_inputs 2 7) two_1 ≡ Some (record { spent = 1; done = false; steps = 6; blocks = [] })
unfolding first_of sliced is_done with_inputs starting rerun next stack_after_quiet chosen bound woven set unset expr_value
    values bases input_plain plain_of stored cleared learnt made set_by set_by_all arguments take_read take_alloc
    hidden-the_row-CodeExpr-0 shape-the_row-CodeExpr-0 denote.Hole.Carrier.hidden
two-1 = refl

-- the first read is re-executed again after an edit, and counts again
two-2 : report two (two_inputs 3 7) two_2 ≡ Some (record { spent = 2; done = false; steps = 6; blocks = [] })
unfolding first_of sliced is_done with_inputs starting rerun next stack_after_quiet chosen bound woven set unset expr_value
    values bases input_plain plain_of stored cleared learnt made set_by set_by_all arguments take_read take_alloc
    hidden-the_row-CodeExpr-0 shape-the_row-CodeExpr-0 denote.Hole.Carrier.hidden
two-2 = refl

two-3 : report two (two_inputs 3 7) two_3 ≡ Some (record { spent = 3; done = true; steps = 6; blocks = [] })
unfolding first_of sliced is_done with_inputs starting rerun next stack_after_quiet chosen bound woven set unset expr_value
    values bases input_plain plain_of stored cleared learnt made set_by set_by_all arguments take_read take_alloc
    hidden-the_row-CodeExpr-0 shape-the_row-CodeExpr-0 denote.Hole.Carrier.hidden
two-3 = refl

-- with an edit before each slice the steps spent reach the bound, and then the slice is none
abbrev two_4 : Option Repair
two_4 = slice_one two (two_inputs 4 7) 6 two_2

abbrev two_5 : Option Repair
two_5 = slice_one two (two_inputs 5 7) 6 two_4

abbrev two_6 : Option Repair
two_6 = slice_one two (two_inputs 6 7) 6 two_5

abbrev two_7 : Option Repair
two_7 = slice_one two (two_inputs 7 7) 6 two_6

two-7 : report two (two_inputs 7 7) two_7 ≡ Some (record { spent = 6; done = false; steps = 6; blocks = [] })
unfolding first_of sliced is_done with_inputs starting rerun next stack_after_quiet chosen bound woven set unset expr_value
    values bases input_plain plain_of stored cleared learnt made set_by set_by_all arguments take_read take_alloc
    hidden-the_row-CodeExpr-0 shape-the_row-CodeExpr-0 denote.Hole.Carrier.hidden
two-7 = refl

two-8 : slice_one two (two_inputs 8 7) 6 two_7 ≡ None
unfolding first_of sliced is_done with_inputs starting rerun next stack_after_quiet chosen bound woven set unset expr_value
    values bases input_plain plain_of stored cleared learnt made set_by set_by_all arguments take_read take_alloc
    hidden-the_row-CodeExpr-0 shape-the_row-CodeExpr-0 denote.Hole.Carrier.hidden
two-8 = refl
