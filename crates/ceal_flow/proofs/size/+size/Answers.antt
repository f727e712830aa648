use Rattle.std.proofs.Common.{◌≡◌, ◌+◌, ◌<◌, length, take, drop, arith, rules}
use Rattle.ceal_base.specs.declared.typed.TypedStmt.{the_lemmas}
use Rattle.ceal_flow.specs.Blocks.{size, sizes}
use Rattle.ceal_flow.proofs.BlockSteps.{size-if, size-while, sizes-take, sizes-drop, sizes-parts}
use Rattle.ceal_flow.proofs.size.+size.Goals as goal

pub size_of-sizes_of-requires : goal.size_of-sizes_of-requires
size_of-sizes_of-requires t c =
    let h : size c.args.s.now ≡ 1 + sizes c.in-If.first + sizes c.in-If.second = rw c.in-If.is (size-if _ _ _ _) in
    (search (rules, the_lemmas), rw c.items.ensures.value (omega (arith, h, c.requires)))

pub size_of-sizes_of-requires-in-If : goal.size_of-sizes_of-requires-in-If
size_of-sizes_of-requires-in-If t c =
    let h : size c.args.s.now ≡ 1 + sizes c.in-If.first + sizes c.in-If.second = rw c.in-If.is (size-if _ _ _ _) in
    (search (rules, the_lemmas), rw c.items-in-If.ensures.value (omega (arith, h, c.requires)))

pub size_of-sizes_of-requires-in-While : goal.size_of-sizes_of-requires-in-While
size_of-sizes_of-requires-in-While t c =
    let h : size c.args.s.now ≡ 1 + sizes c.in-While.body = rw c.in-While.is (size-while _ _ _) in
    (search (rules, the_lemmas), rw c.items-in-While.ensures.value (omega (arith, h, c.requires)))

pub sizes_of-size_of-total-requires : goal.sizes_of-size_of-total-requires
sizes_of-size_of-total-requires t c =
    let stmts = c.args.stmts.now in
    let within : c.loop-s.s-index < length c.args.stmts.now = omega arith in
    let here : sizes (drop c.loop-s.s-index c.args.stmts.now) ≡ size c.s-item.result + sizes (drop (c.loop-s.s-index + 1) c.args.stmts.now) =
    sizes-drop stmts _ c.s-item.result c.s-item.is within in
    let parts : sizes (take c.loop-s.s-index c.args.stmts.now) + sizes (drop c.loop-s.s-index c.args.stmts.now) ≡ sizes c.args.stmts.now = sizes-parts stmts c.loop-s.s-index in
    (search (rules, the_lemmas), omega (arith, here, parts, c.requires))

pub sizes_of-overflow_add-total : goal.sizes_of-overflow_add-total
sizes_of-overflow_add-total t c =
    let stmts = c.args.stmts.now in
    let within : c.loop-s.s-index < length c.args.stmts.now = omega arith in
    let here : sizes (drop c.loop-s.s-index c.args.stmts.now) ≡ size c.s-item.result + sizes (drop (c.loop-s.s-index + 1) c.args.stmts.now) =
    sizes-drop stmts _ c.s-item.result c.s-item.is within in
    let parts : sizes (take c.loop-s.s-index c.args.stmts.now) + sizes (drop c.loop-s.s-index c.args.stmts.now) ≡ sizes c.args.stmts.now = sizes-parts stmts c.loop-s.s-index in
    omega (arith, here, parts, c.requires, c.loop-s.invariant, c.size_of-total.ensures.value)

pub sizes_of-loop-s-preserved : goal.sizes_of-loop-s-preserved
sizes_of-loop-s-preserved t c =
    let stmts = c.args.stmts.now in
    let within : c.loop-s.s-index < length c.args.stmts.now = omega arith in
    let more : sizes (take (c.loop-s.s-index + 1) c.args.stmts.now) ≡ sizes (take c.loop-s.s-index c.args.stmts.now) + size c.s-item.result =
    sizes-take stmts _ c.s-item.result c.s-item.is within in
    omega (arith, more, c.loop-s.invariant, c.size_of-total.ensures.value)
