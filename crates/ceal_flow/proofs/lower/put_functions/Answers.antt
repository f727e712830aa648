use Rattle.std.proofs.Common.{◌≡◌, ◌+◌, ◌<◌, [], length, drop, arith, drop_of_length-le}
use Rattle.std.proofs.lemmas.List.{append-nil}
use Rattle.ceal_flow.specs.Lowering.{function_size, function_sizes}
use Rattle.ceal_flow.proofs.FunctionSteps.{function_sizes-drop, blocks_from-nil, functions_from-nil}
use Rattle.ceal_flow.proofs.PutSteps.{length-function, next-blocks, next-functions}
use Rattle.ceal_flow.proofs.lower.put_functions.Goals as goal

pub put_function-requires : goal.put_function-requires
put_function-requires c =
    let within : c.loop-function.function-index < length c.args.functions.now = omega arith in
    let here : function_sizes (drop c.loop-function.function-index c.args.functions.now)
    ≡ function_size c.function-item.result + function_sizes (drop (c.loop-function.function-index + 1) c.args.functions.now) =
    function_sizes-drop c.args.functions.now _ c.function-item.result c.function-item.is within in
    record { room = omega (arith, here, c.loop-function.invariant.room) }

pub loop-function-preserved : goal.loop-function-preserved
loop-function-preserved c =
    let within : c.loop-function.function-index < length c.args.functions.now = omega arith in
    let here : function_sizes (drop c.loop-function.function-index c.args.functions.now)
    ≡ function_size c.function-item.result + function_sizes (drop (c.loop-function.function-index + 1) c.args.functions.now) =
    function_sizes-drop c.args.functions.now _ c.function-item.result c.function-item.is within in
    let one : length c.put_function.new.blocks.items ≡ length c.loop-function.blocks.items + function_size c.function-item.result =
    length-function _ _ c.function-item.result c.in_ok-put_function.ensures.blocks in
    record {
      room = omega (arith, here, one, c.loop-function.invariant.room);
      blocks = next-blocks c.args.functions.now c.loop-function.function-index c.function-item.result c.loop-function.blocks.items c.put_function.new.blocks.items _
          c.function-item.is within c.in_ok-put_function.ensures.blocks c.loop-function.invariant.blocks;
      functions = rw c.in_ok-push.ensures.items
          (next-functions c.args.functions.now c.loop-function.function-index c.function-item.result c.loop-function.blocks.items c.put_function.new.blocks.items
          c.loop-function.put.items c.in_ok-put_function.field-0 _ c.function-item.is within c.in_ok-put_function.ensures.blocks c.in_ok-put_function.ensures.function
          c.loop-function.invariant.functions);
    }

pub returns-clause-blocks : goal.returns-clause-blocks
returns-clause-blocks c =
    let none : drop c.loop-function.function-index c.args.functions.now ≡ [] = drop_of_length-le c.args.functions.now c.loop-function-test.false in
    rw (none, blocks_from-nil, append-nil) at c.loop-function.invariant.blocks

pub returns-clause-functions : goal.returns-clause-functions
returns-clause-functions c =
    let none : drop c.loop-function.function-index c.args.functions.now ≡ [] = drop_of_length-le c.args.functions.now c.loop-function-test.false in
    rw (none, functions_from-nil, append-nil) at c.loop-function.invariant.functions
