use Rattle.std.proofs.Common.{◌+◌, ◌*◌}
use Rattle.std.specs.Prelude.{codes}
use Rattle.std.specs.Fmt.{decimal}
use Rattle.ceal_gen.specs.Names.{node_name}
use Rattle.ceal_gen.specs.TreeText.{operator_line}
use Rattle.ceal_gen.proofs.Pieces.{nine}
use Rattle.ceal_gen.proofs.tree.put_operator.Goals as goal

-- the line of an inner node names its operator and its two children
pub returns : goal.returns
unfolding operator_line
returns c =
    let i = c.args.node in
    rw (
      c.in_ok-append_str-5.ensures.ok,
      c.in_ok-put_node_name-3.ensures,
      c.in_ok-append_str-4.ensures.ok,
      c.in_ok-put_node_name-2.ensures,
      c.in_ok-append_str-3.ensures.ok,
      c.in_ok-append_number.ensures.ok,
      c.in_ok-append_str-2.ensures.ok,
      c.in_ok-put_node_name.ensures,
      c.in_ok-append_str.ensures.ok,
    )
    (nine c.args.out.now (codes "new ") (node_name i) (codes " node ") (decimal c.args.operator) (codes " 0 ") (node_name (2 * i)) (codes " ") (node_name (2 * i + 1)) (codes "\n"))
