use Rattle.std.proofs.Common.{◌≡◌, ◌++◌, drop}
use Rattle.ceal_show.specs.Graph.{Scene, fields_text}
use Rattle.ceal_show.specs.Shown.{words_at}
use Rattle.ceal_show.proofs.lines.put_fields.Given as goal

-- with the fields that are left it is the text of all
abbrev pub invariant-loop-field : goal.invariant-loop-field
invariant-loop-field g l =
    let scene : Scene = record { structs = g.V.View.declared l.view; memory = g.V.View.memory l.view; name = g.V.View.name l.view; blocks = l.met } in
    let words = words_at (g.V.View.memory l.view) l.block in
    l.out ++ fields_text scene l.shape l.field (drop l.field words) ≡ l.fn.out ++ fields_text scene l.shape 0 words
