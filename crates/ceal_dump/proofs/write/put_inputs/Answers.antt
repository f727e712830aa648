use Rattle.std.proofs.Common.{◌++◌, length}
use Rattle.std.specs.Prelude.{codes}
use Rattle.std.specs.Fmt.{decimal}
use Rattle.ceal_dump.proofs.Loops.{joined, on-ok}
use Rattle.ceal_dump.specs.DumpText.{block_lines}
use Rattle.ceal_dump.proofs.write.put_inputs.Goals as goal

-- the head, the count, and the line of each input
pub returns-clause-text : goal.returns-clause-text
returns-clause-text c =
    let out = c.args.out.now in
    let bs = c.args.blocks.now in
    let head = codes "ceal-trace 1\ninputs " in
    on-ok c.put_blocks.result _ _ (λ e.
    joined out (head ++ decimal (length bs) ++ codes "\n") (block_lines bs) c.append-2.new.self c.put_blocks.new.out
    (joined out (head ++ decimal (length bs)) (codes "\n") c.append_number.new.self c.append-2.new.self
    (joined out head (decimal (length bs)) c.append.new.self c.append_number.new.self c.in_ok-append.ensures.ok
    c.in_ok-append_number.ensures.ok) c.in_ok-append-2.ensures.ok) e) c.put_blocks.ensures.text
