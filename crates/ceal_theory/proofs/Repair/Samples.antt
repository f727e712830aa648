-- Repairs, computed: INC with a new value, MAP with a new first cell, and BOX, whose revoked block's number is not
-- given out again.
use Rattle.std.proofs.Common.{◌≡◌, ℕ, pos, Option, Some, None, List, [], ◌∷◌, refl}
use Rattle.ceal_base.specs.Block.{Block}
use Rattle.ceal_base.specs.Trace.{Trace, Nothing, Stepped, Wrote, WasRead, steps_of, blocks_of}
use Rattle.ceal_base.specs.declared.kind.FieldKind.TheVariants.{Plain as PlainField, CellPtr}
use Rattle.ceal_base.specs.declared.kind.Kind.TheVariants.{Int, Ptr, ModInt as ModIntKind, ModPtr as ModPtrKind}
use Rattle.ceal_base.specs.declared.kind.Shape.TheVariants.{Struct}
use Rattle.ceal_base.specs.declared.operators.Binary.TheVariants.{Add, Mul, Differ}
use Rattle.ceal_base.specs.declared.word.BlockId.TheVariants.{Input}
use Rattle.ceal_base.specs.declared.word.Word.{Word}
use Rattle.ceal_base.specs.declared.word.Word.TheVariants.{Num, Null, Block as BlockWord, At}
use Rattle.ceal_code.specs.Init.{made, set_by, set_by_all, arguments}
use Rattle.ceal_code.specs.Program.{Code}
use Rattle.ceal_code.specs.Replay.{input_plain, plain_of, bases, learnt, stored, cleared, core_numbers}
use Rattle.ceal_code.specs.Step.{stack_after_quiet, next, chosen, bound, woven}
use Rattle.ceal_code.specs.Value.{expr_value, values, set, unset}
use Rattle.ceal_code.specs.declared.command.Cmd.TheVariants.{Alloc, Write, If, Done, Tail, Read, Call}
use Rattle.ceal_code.specs.declared.expr.CodeExpr.TheBlock.{hidden-the_row-CodeExpr-0, shape-the_row-CodeExpr-0}
use Rattle.ceal_code.specs.declared.expr.CodeExpr.TheVariants.{Num as NumExpr, Null as NullExpr}
use Rattle.ceal_code.specs.declared.expr.CodeExpr.TheViews.{Binary, Field, Address}
use Rattle.ceal_code.specs.declared.function.FunctionCode.TheVariants.{Core as CoreFunction, Init as InitFunction}
use Rattle.ceal_code.specs.declared.function.InitStmt.TheVariants.{Set}
use Rattle.ceal_theory.proofs.SampleBox.{var, v, u, place, number, pointer, box, box_inputs, box_first}
use Rattle.ceal_theory.specs.Cost.{aligned, cost_from}
use Rattle.ceal_theory.specs.Computed.{rerun, Repaired, adjusted, first_of}
use Rattle.ceal_theory.specs.Take.{take_alloc, take_read}

-- work, steps and blocks
abbrev report : Option Repaired → List ℕ
report None = []
report (Some r) = r.work ∷ steps_of r.items ∷ core_numbers (blocks_of r.items)

-- INC: unit 0 reads its first parameter, and unit 1 writes one more than the value to the second.
abbrev inc : Code
inc = record {
  structs = [];
  functions = CoreFunction [] (u 0) (ModIntKind ∷ ModIntKind ∷ []) ∷ [];
  units =
      record { function = 0; params = var 0 ∷ var 1 ∷ []; body = Read (var 2) (v 0) (u 1) (v 1 ∷ []) ∷ [] }
      ∷ record { function = 0; params = var 1 ∷ var 2 ∷ []; body = Write (v 1) (Binary Add (v 2) (NumExpr (pos 1))) ∷ Done ∷ [] }
      ∷ [];
  kinds = (ModIntKind ∷ ModIntKind ∷ Int ∷ []) ∷ [];
}

abbrev inc_inputs : ℕ → List Block
inc_inputs n = number n ∷ number 0 ∷ []

abbrev inc_args : List Word
inc_args = At (place 0) ∷ At (place 1) ∷ []

abbrev inc_items : ℕ → ℕ → Trace
inc_items n m = Stepped (WasRead (place 0) (Num (pos n)) (u 1) 2 (At (place 1) ∷ []) (Stepped (Wrote (place 1) (Num (pos m)) Nothing)) Nothing)

inc-first : first_of inc (inc_inputs 4) 2 0 inc_args ≡ Some (record { items = inc_items 4 5; work = 2 })
unfolding first_of rerun next stack_after_quiet chosen bound woven set unset expr_value values bases input_plain
    stored take_read hidden-the_row-CodeExpr-0 shape-the_row-CodeExpr-0 denote.Hole.Carrier.hidden
inc-first = refl

inc-out_of_fuel : first_of inc (inc_inputs 4) 1 0 inc_args ≡ None
unfolding first_of rerun next stack_after_quiet chosen bound woven set unset expr_value values bases input_plain
    stored take_read hidden-the_row-CodeExpr-0 shape-the_row-CodeExpr-0 denote.Hole.Carrier.hidden
inc-out_of_fuel = refl

inc-edited : adjusted inc (inc_inputs 9) 0 2 (inc_items 4 5) ≡ Some (record { items = inc_items 9 10; work = 1 })
unfolding adjusted rerun next stack_after_quiet chosen bound woven set unset expr_value values bases input_plain
    plain_of stored hidden-the_row-CodeExpr-0 shape-the_row-CodeExpr-0 denote.Hole.Carrier.hidden
inc-edited = refl

inc-same_value : adjusted inc (inc_inputs 4) 0 2 (inc_items 4 5) ≡ Some (record { items = inc_items 4 5; work = 0 })
unfolding adjusted rerun next stack_after_quiet chosen bound woven set unset expr_value values bases input_plain
    plain_of stored hidden-the_row-CodeExpr-0 shape-the_row-CodeExpr-0 denote.Hole.Carrier.hidden
inc-same_value = refl

-- MAP: a list of cells with a number and an embedded modifiable for the next cell; the new cells have ten times the
-- numbers.
abbrev mapping : Code
mapping = record {
  structs = record { name = []; fields = record { name = []; kind = PlainField Int; row = 0 } ∷ record { name = []; kind = CellPtr 0; row = 0 } ∷ [] } ∷ [];
  functions =
      InitFunction [] 0 (Ptr 0 ∷ []) (Set 0 (Binary Mul (Field (v 0) 0 0) (NumExpr (pos 10))) ∷ [])
      ∷ CoreFunction [] (u 0) (ModPtrKind 0 ∷ ModPtrKind 0 ∷ [])
      ∷ [];
  units =
      record { function = 1; params = var 0 ∷ var 1 ∷ []; body = Read (var 2) (v 0) (u 1) (v 1 ∷ []) ∷ [] }
      ∷ record {
        function = 1;
        params = var 1 ∷ var 2 ∷ [];
        body =
            If (Binary Differ (v 2) NullExpr) 1 4
            ∷ Alloc (var 3) 0 (v 2 ∷ [])
            ∷ Write (v 1) (v 3)
            ∷ Call 1 (Address (v 2) 0 1 ∷ Address (v 3) 0 1 ∷ []) (u 2) []
            ∷ Write (v 1) NullExpr
            ∷ Tail (u 2) []
            ∷ [];
      }
      ∷ record { function = 1; params = []; body = Done ∷ [] }
      ∷ [];
  kinds = [] ∷ (ModPtrKind 0 ∷ ModPtrKind 0 ∷ Ptr 0 ∷ Ptr 0 ∷ []) ∷ [];
}

abbrev cell : ℕ → Word → Block
cell head tail = record { shape = Struct 0; words = Num (pos head) ∷ tail ∷ [] }

-- input 0 is the list and input 1 its image; inputs 2, 3 and 4 are cells, and 5 is a cell before them
abbrev map_inputs : ℕ → List Block
map_inputs first =
    pointer (BlockWord (Input first)) ∷ pointer Null ∷ cell 1 (BlockWord (Input 3)) ∷ cell 2 (BlockWord (Input 4)) ∷ cell 3 Null ∷ cell 0 (BlockWord (Input 2)) ∷ []

abbrev map_first : Option Repaired
map_first = first_of mapping (map_inputs 2) 18 1 inc_args

abbrev map_again : Option Repaired → Option Repaired
map_again None = None
map_again (Some r) = adjusted mapping (map_inputs 5) 3 10 r.items

mapped : report map_first ≡ 18 ∷ 18 ∷ 0 ∷ 1 ∷ 2 ∷ []
unfolding first_of rerun next stack_after_quiet chosen bound woven set unset expr_value values bases input_plain stored cleared
    learnt made set_by set_by_all arguments take_read take_alloc hidden-the_row-CodeExpr-0 shape-the_row-CodeExpr-0
    denote.Hole.Carrier.hidden
mapped = refl

-- a new first cell: five steps and a block for it, and five for the old first cell, whose block is taken and the read
-- of whose tail is taken whole
mapped_again : report (map_again map_first) ≡ 10 ∷ 23 ∷ 3 ∷ 0 ∷ 1 ∷ 2 ∷ []
unfolding first_of adjusted rerun next stack_after_quiet chosen bound woven set unset expr_value values bases input_plain
    plain_of stored cleared learnt made set_by set_by_all arguments take_read take_alloc hidden-the_row-CodeExpr-0
    shape-the_row-CodeExpr-0 denote.Hole.Carrier.hidden
mapped_again = refl

abbrev box_again : Option Repaired → Option Repaired
box_again None = None
box_again (Some r) = adjusted box (box_inputs 2) 1 5 r.items

boxed : report box_first ≡ 11 ∷ 11 ∷ 0 ∷ []
unfolding first_of rerun next stack_after_quiet chosen bound woven set unset expr_value values bases input_plain stored cleared
    learnt made set_by set_by_all arguments take_read take_alloc hidden-the_row-CodeExpr-0 shape-the_row-CodeExpr-0
    denote.Hole.Carrier.hidden
boxed = refl

-- the first box is revoked and the second is new: were its number that of the first, the read of it would look
-- unchanged
boxed_again : report (box_again box_first) ≡ 5 ∷ 11 ∷ 1 ∷ []
unfolding first_of adjusted rerun next stack_after_quiet chosen bound woven set unset expr_value values bases input_plain
    plain_of stored cleared learnt made set_by set_by_all arguments take_read take_alloc hidden-the_row-CodeExpr-0
    shape-the_row-CodeExpr-0 denote.Hole.Carrier.hidden
boxed_again = refl

-- the cost of the one first trace beside the other
abbrev beside : Option Repaired → Option Repaired → ℕ
beside (Some a) (Some b) = aligned a.items b.items
beside _ _ = 0

abbrev map_other : Option Repaired
map_other = first_of mapping (map_inputs 5) 23 1 inc_args

mapped_cost : beside map_first map_other ≡ 22
unfolding first_of rerun next stack_after_quiet chosen bound woven set unset expr_value values bases input_plain stored cleared
    learnt made set_by set_by_all arguments take_read take_alloc cost_from hidden-the_row-CodeExpr-0
    shape-the_row-CodeExpr-0 denote.Hole.Carrier.hidden
mapped_cost = refl

inc_cost : aligned (inc_items 4 5) (inc_items 9 10) ≡ 1
unfolding cost_from
inc_cost = refl

abbrev box_other : Option Repaired
box_other = first_of box (box_inputs 2) 11 3 (At (place 0) ∷ At (place 1) ∷ At (place 2) ∷ [])

boxed_cost : beside box_first box_other ≡ 5
unfolding first_of rerun next stack_after_quiet chosen bound woven set unset expr_value values bases input_plain stored cleared
    learnt made set_by set_by_all arguments take_read take_alloc cost_from hidden-the_row-CodeExpr-0
    shape-the_row-CodeExpr-0 denote.Hole.Carrier.hidden
boxed_cost = refl
