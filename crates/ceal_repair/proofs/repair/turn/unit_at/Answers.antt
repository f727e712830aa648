use Rattle.std.proofs.Common.{List, Some, sym, ap, ◌∙◌}
use Rattle.ceal_base.specs.declared.word.Word.{Word}
use Rattle.ceal_code.specs.Stacks.{stack_in}
use Rattle.ceal_repair.proofs.Propagation.TurnBegin.{unit-as}
use Rattle.ceal_trace.specs.Nodes.{node_at}
use Rattle.ceal_trace.specs.declared.node.Node.TheVariants.{Read}
use Rattle.ceal_repair.proofs.repair.turn.unit_at.Goals as goal

-- the node is a read, so its unit begins with its value and its arguments
pub returns : goal.returns
returns c = record {
  unit = λ p v u x args held.
      let seen = c.read_at-seen.result in
      unit-as c.args.code.now (node_at c.args.read.0 c.args.trace.now.nodes) p v u x args held seen.place seen.value seen.unit seen.var c.items-args.result.now
      (c.read_at-seen.ensures.read ∙ ap (λ (ws : List Word). Some (Read seen.place seen.value seen.unit seen.var ws)) (sym c.items-args.ensures.value))
      (stack_in c.resume.new.self) (stack_in c.clear.new.self) c.clear.ensures.cleared c.in_ok-resume.ensures.resumed;
  aside = c.in_ok-resume.ensures.aside ∙ c.clear.ensures.aside;
}
