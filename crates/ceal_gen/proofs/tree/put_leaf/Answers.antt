use Rattle.std.proofs.Common.{refl, append_assoc}
use Rattle.ceal_gen.specs.TreeText.{leaf_line}
use Rattle.ceal_gen.proofs.tree.put_leaf.Goals as goal

pub returns : goal.returns
unfolding leaf_line
returns c = rw (
  c.in_ok-append_str-3.ensures.ok,
  c.in_ok-append_number.ensures.ok,
  c.in_ok-append_str-2.ensures.ok,
  c.in_ok-put_node_name.ensures,
  c.in_ok-append_str.ensures.ok,
) (simp append_assoc refl)
