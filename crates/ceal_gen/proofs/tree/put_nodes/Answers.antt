use Rattle.std.proofs.Common.{◌≡◌, ◌-◌, ◌++◌, List, [], ℕ, ◌∙◌, sym, ap, arith}
use Rattle.std.proofs.lemmas.List.{append-nil}
use Rattle.ceal_gen.specs.Draws.{next_state, drawn}
use Rattle.ceal_gen.specs.TreeText.{node_count, node_lines}
use Rattle.ceal_gen.proofs.Steps.{state-none, state-more, nodes-none, nodes-next}
use Rattle.ceal_gen.proofs.tree.put_nodes.Goals as goal

-- no number was drawn, and all nodes are to come
pub loop-behind-init : goal.loop-behind-init
loop-behind-init c =
    let all : node_count c.args.size - 0 ≡ node_count c.args.size = omega arith in
    record {
      state = c.from_seed-draws.ensures ∙ sym (state-none c.args.seed);
      lines = ap (λ (n : ℕ). c.args.out.now ++ node_lines c.args.seed c.args.size n) all;
    }

-- one number is drawn for this node, whose lines are the first of those that were to come
pub loop-behind-preserved : goal.loop-behind-preserved
loop-behind-preserved c =
    let next = c.draw.ensures.state ∙ ap next_state c.loop-behind.invariant.state in
    let within = rw c.from.ensures at c.loop-behind-test.true in
    let added = rw c.from.ensures at c.in_ok-put_node.ensures in
    record {
      state = next ∙ sym (state-more c.args.seed c.loop-behind.behind);
      lines = nodes-next c.args.seed c.args.size c.loop-behind.behind c.draw.result _ c.loop-behind.out _ within (c.draw.ensures.value ∙ ap drawn next) c.loop-behind.invariant.lines added;
    }

-- the loop passed all nodes, so no line is left
pub returns : goal.returns
returns c =
    let over = rw c.from.ensures at c.loop-behind-test.false in
    let none : node_count c.args.size - c.loop-behind.behind ≡ 0 = omega (arith, over) in
    let left : node_lines c.args.seed c.args.size (node_count c.args.size - c.loop-behind.behind) ≡ [] = ap (node_lines c.args.seed c.args.size) none ∙ nodes-none c.args.seed c.args.size in
    sym (append-nil c.loop-behind.out) ∙ ap (λ (x : List ℕ). c.loop-behind.out ++ x) (sym left) ∙ c.loop-behind.invariant.lines
