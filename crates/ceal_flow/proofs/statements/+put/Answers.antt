use Rattle.std.proofs.Common.{◌≡◌, ◌+◌, ◌<◌, false, true, length, drop, sym, ◌∙◌, ap, arith, rules, refl, [], drop_of_length-le}
use Rattle.std.proofs.lemmas.List.{take_rest, append-nil}
use Rattle.ceal_base.specs.declared.typed.TypedStmt.{the_lemmas}
use Rattle.ceal_flow.specs.Blocks.{size, sizes, may_continue}
use Rattle.ceal_flow.proofs.BlockSteps.{size-if, size-while, sizes-drop, blocks-return, blocks-break, blocks-continue, on-nil, all-nil}
use Rattle.ceal_flow.proofs.PutSteps.{put-if, put-while, put-next, put-last, all_may_continue-drop, length-push, length-more, length-one}
use Rattle.ceal_flow.proofs.statements.+put.Goals as goal

pub put_stmt-put_stmts-requires : goal.put_stmt-put_stmts-requires
put_stmt-put_stmts-requires t c =
    let h : size c.args.s.now ≡ 1 + sizes c.in-If.first + sizes c.in-If.second = rw c.in-If.is (size-if _ _ _ _) in
    let l : length c.put_test.new.blocks.items ≡ length c.args.blocks.now.items + 1 = length-push _ _ _ c.in_ok-put_test-in-If.ensures in
    (search (rules, the_lemmas), rw c.items-in-If-3.ensures.value (omega (arith, h, l, c.requires.room)))

pub put_stmt-put_stmts-requires-in-If : goal.put_stmt-put_stmts-requires-in-If
put_stmt-put_stmts-requires-in-If t c =
    let h : size c.args.s.now ≡ 1 + sizes c.in-If.first + sizes c.in-If.second = rw c.in-If.is (size-if _ _ _ _) in
    let l : length c.put_test.new.blocks.items ≡ length c.args.blocks.now.items + 1 = length-push _ _ _ c.in_ok-put_test-in-If.ensures in
    let first_is = rw c.items-in-If-3.ensures.value at c.in_ok-first_on-in-If.ensures.blocks in
    let m : length c.put_stmts.new.blocks.items ≡ length c.put_test.new.blocks.items + sizes c.in-If.first = length-more _ _ _ _ _ _ first_is in
    (search (rules, the_lemmas), rw c.items-in-If-4.ensures.value (omega (arith, h, l, m, c.requires.room)))

pub put_stmt-put_stmts-requires-in-While : goal.put_stmt-put_stmts-requires-in-While
put_stmt-put_stmts-requires-in-While t c =
    let h : size c.args.s.now ≡ 1 + sizes c.in-While.body = rw c.in-While.is (size-while _ _ _) in
    let l : length c.put_test-in-While.new.blocks.items ≡ length c.args.blocks.now.items + 1 = length-push _ _ _ c.in_ok-put_test-in-While.ensures in
    (search (rules, the_lemmas), rw c.items-in-While-2.ensures.value (omega (arith, h, l, c.requires.room)))

pub put_stmt-returns-in_ok-second_on-in-If-clause-blocks : goal.put_stmt-returns-in_ok-second_on-in-If-clause-blocks
put_stmt-returns-in_ok-second_on-in-If-clause-blocks t c =
    let size_is = rw c.items.ensures.value at c.sizes_of.ensures.value in
    let yes_is = rw c.items-in-If.ensures.value at c.entry_of-yes.ensures.value in
    let no_is = rw c.items-in-If-2.ensures.value at c.entry_of-no.ensures.value in
    let first_is = rw c.items-in-If-3.ensures.value at c.in_ok-first_on-in-If.ensures.blocks in
    let second_is = rw c.items-in-If-4.ensures.value at c.in_ok-second_on-in-If.ensures.blocks in
    rw c.in-If.is
    (put-if _ _ _ _ c.in-If.field-0 c.in-If.test c.in-If.first c.in-If.second c.next_number-first_at.result (c.next_number-first_at.result + 1 + c.sizes_of.result) _ _ _ _
    c.next_number-first_at.ensures.value (ap (λ k. c.next_number-first_at.result + 1 + k) size_is) yes_is no_is c.in_ok-put_test-in-If.ensures first_is second_is)

pub put_stmt-returns-in_ok-put_stmts-in-While-clause-blocks : goal.put_stmt-returns-in_ok-put_stmts-in-While-clause-blocks
put_stmt-returns-in_ok-put_stmts-in-While-clause-blocks t c =
    let yes_is = rw (c.items-in-While.ensures.value, c.in_loop-inside.ensures.value) at c.entry_of-yes-in-While.ensures.value in
    let body_is = rw (c.items-in-While-2.ensures.value, c.in_loop-inside.ensures.value) at c.in_ok-put_stmts-in-While.ensures.blocks in
    rw c.in-While.is
    (put-while _ _ _ c.in-While.field-0 c.in-While.test c.in-While.body c.next_number-at.result _ _ _ c.next_number-at.ensures.value yes_is c.in_ok-put_test-in-While.ensures body_is)

pub put_stmt-returns-in-Return-clause-blocks : goal.put_stmt-returns-in-Return-clause-blocks
put_stmt-returns-in-Return-clause-blocks t c = rw (c.in-Return.is, blocks-return, append-nil) refl

pub put_stmt-returns-in-Break-clause-blocks : goal.put_stmt-returns-in-Break-clause-blocks
put_stmt-returns-in-Break-clause-blocks t c = rw (c.in-Break.is, blocks-break, append-nil) refl

pub put_stmt-returns-in-Continue-clause-blocks : goal.put_stmt-returns-in-Continue-clause-blocks
put_stmt-returns-in-Continue-clause-blocks t c = rw (c.in-Continue.is, blocks-continue, append-nil) refl

pub put_stmts-size_of-requires : goal.put_stmts-size_of-requires
put_stmts-size_of-requires t c =
    let within : c.loop-i.i < length c.args.stmts.now = omega arith in
    let here : sizes (drop c.loop-i.i c.args.stmts.now) ≡ size c.index-stmts-i.result + sizes (drop (c.loop-i.i + 1) c.args.stmts.now) =
    sizes-drop c.args.stmts.now _ c.index-stmts-i.result c.index-stmts-i.is within in
    omega (arith, here, c.loop-i.invariant.room)

pub put_stmts-overflow_add-behind : goal.put_stmts-overflow_add-behind
put_stmts-overflow_add-behind t c =
    let within : c.loop-i.i < length c.args.stmts.now = omega arith in
    let here : sizes (drop c.loop-i.i c.args.stmts.now) ≡ size c.index-stmts-i.result + sizes (drop (c.loop-i.i + 1) c.args.stmts.now) =
    sizes-drop c.args.stmts.now _ c.index-stmts-i.result c.index-stmts-i.is within in
    omega (arith, here, c.loop-i.invariant.room, c.size_of.ensures.value, c.next_number.ensures.value)

pub put_stmts-put_stmt-requires : goal.put_stmts-put_stmt-requires
put_stmts-put_stmt-requires t c =
    let within : c.loop-i.i < length c.args.stmts.now = omega arith in
    let here : sizes (drop c.loop-i.i c.args.stmts.now) ≡ size c.index-stmts-i.result + sizes (drop (c.loop-i.i + 1) c.args.stmts.now) =
    sizes-drop c.args.stmts.now _ c.index-stmts-i.result c.index-stmts-i.is within in
    (search (rules, the_lemmas), omega (arith, here, c.loop-i.invariant.room))

pub put_stmts-sizes_of-requires : goal.put_stmts-sizes_of-requires
put_stmts-sizes_of-requires t c =
    let within : c.loop-i.i < length c.args.stmts.now = omega arith in
    let here : sizes (drop c.loop-i.i c.args.stmts.now) ≡ size c.index-stmts-i.result + sizes (drop (c.loop-i.i + 1) c.args.stmts.now) =
    sizes-drop c.args.stmts.now _ c.index-stmts-i.result c.index-stmts-i.is within in
    rw take_rest (omega (arith, here, c.loop-i.invariant.room))

pub put_stmts-returns-then-not-branch-clause-blocks : goal.put_stmts-returns-then-not-branch-clause-blocks
put_stmts-returns-then-not-branch-clause-blocks t c =
    let within : c.loop-i.i < length c.args.stmts.now = omega arith in
    let next_is = rw (take_rest, c.size_of.ensures.value, c.next_number.ensures.value) at c.entry_of-next.ensures.value in
    let rest_is = rw take_rest at c.sizes_of.ensures.value in
    let off : may_continue c.index-stmts-i.result ≡ false = sym c.in_ok-put_stmt.ensures.on ∙ c.if-not-branch.true in
    c.in_ok-leave_out.ensures ∙ rw rest_is
    (put-last c.args.stmts.now c.loop-i.i c.index-stmts-i.result c.loop-i.blocks.items c.put_stmt.new.blocks.items _ _ _ _ c.index-stmts-i.is within
    next_is c.in_ok-put_stmt.ensures.blocks off c.loop-i.invariant.blocks)

pub put_stmts-returns-then-not-branch-clause-on : goal.put_stmts-returns-then-not-branch-clause-on
put_stmts-returns-then-not-branch-clause-on t c =
    let within : c.loop-i.i < length c.args.stmts.now = omega arith in
    let off : may_continue c.index-stmts-i.result ≡ false = sym c.in_ok-put_stmt.ensures.on ∙ c.if-not-branch.true in
    let here = rw off at (all_may_continue-drop c.args.stmts.now c.loop-i.i c.index-stmts-i.result c.index-stmts-i.is within) in
    sym here ∙ c.loop-i.invariant.on

pub put_stmts-loop-i-preserved : goal.put_stmts-loop-i-preserved
put_stmts-loop-i-preserved t c =
    let within : c.loop-i.i < length c.args.stmts.now = omega arith in
    let here : sizes (drop c.loop-i.i c.args.stmts.now) ≡ size c.index-stmts-i.result + sizes (drop (c.loop-i.i + 1) c.args.stmts.now) =
    sizes-drop c.args.stmts.now _ c.index-stmts-i.result c.index-stmts-i.is within in
    let one : length c.put_stmt.new.blocks.items ≡ length c.loop-i.blocks.items + size c.index-stmts-i.result =
    length-one _ _ _ _ _ _ c.in_ok-put_stmt.ensures.blocks in
    let next_is = rw (take_rest, c.size_of.ensures.value, c.next_number.ensures.value) at c.entry_of-next.ensures.value in
    let go : may_continue c.index-stmts-i.result ≡ true = sym c.in_ok-put_stmt.ensures.on ∙ c.if-not-branch.false in
    record {
      room = omega (arith, here, one, c.loop-i.invariant.room);
      blocks = put-next c.args.stmts.now c.loop-i.i c.index-stmts-i.result c.loop-i.blocks.items c.put_stmt.new.blocks.items _ _ _ _ c.index-stmts-i.is within
          next_is c.in_ok-put_stmt.ensures.blocks go c.loop-i.invariant.blocks;
      on = sym (rw go at (all_may_continue-drop c.args.stmts.now c.loop-i.i c.index-stmts-i.result c.index-stmts-i.is within)) ∙ c.loop-i.invariant.on;
    }

pub put_stmts-returns-clause-blocks : goal.put_stmts-returns-clause-blocks
put_stmts-returns-clause-blocks t c =
    let none : drop c.loop-i.i c.args.stmts.now ≡ [] = drop_of_length-le c.args.stmts.now c.loop-i-test.false in
    let whole = rw (none, all-nil, append-nil) at c.loop-i.invariant.blocks in whole

pub put_stmts-returns-clause-on : goal.put_stmts-returns-clause-on
put_stmts-returns-clause-on t c =
    let none : drop c.loop-i.i c.args.stmts.now ≡ [] = drop_of_length-le c.args.stmts.now c.loop-i-test.false in
    rw (none, on-nil) at c.loop-i.invariant.on
