use Rattle.std.proofs.Common.{◌≡◌, ◌++◌, drop}
use Rattle.ceal_show.specs.Graph.{Scene, lines_text}
use Rattle.ceal_show.proofs.lines.put_lines.Given as goal

-- with the blocks that are left it is the text of all
abbrev pub invariant-loop-block : goal.invariant-loop-block
invariant-loop-block g l =
    let scene : Scene = record { structs = g.V.View.declared l.view; memory = g.V.View.memory l.view; name = g.V.View.name l.view; blocks = l.met } in
    l.out ++ lines_text scene (drop l.block-index l.met) ≡ l.fn.out ++ lines_text scene l.met
