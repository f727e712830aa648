use Rattle.std.proofs.Common.{rules, ◌≡◌}
use Rattle.ceal_trace.specs.declared.node.Node.TheVariants.{End}
use Rattle.ceal_runtime_tests.proofs.trace.removes_a_read.Goals as goal

-- the end that was left stood for the read that was taken out, and went, too
pub insert_write-requires-clause-closed : goal.insert_write-requires-clause-closed
insert_write-requires-clause-closed g c =
    let closed = c.set_value.ensures.closed (c.set_steps-2.ensures.closed c.finish_read-end.ensures.closed) in
    let loose = c.remove-gone.ensures.loose closed in
    let end = c.finish_read-end.result.0 in
    let left = c.remove-gone.ensures.others.entries end (search rules) in
    let kept = c.set_value.ensures.others.entries end (search rules) in
    let stepped = c.set_steps-2.ensures.node in
    let put = c.finish_read-end.ensures.inserted.node in
    let gone = c.remove-gone-2.ensures.node in
    let same : c.remove-gone-2.result.node ≡ End c.begin_read-read.result = cc in
    c.remove-gone-2.ensures.mended c.begin_read-read.result.0 loose (rw same (search rules))
