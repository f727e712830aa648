use Rattle.std.proofs.Common.{◌≡◌, true, Some, ap, ◌∙◌}
use Rattle.ceal_trace.specs.Nodes.{is_plain, seen}
use Rattle.ceal_trace.specs.declared.node.Seen.{Seen}
use Rattle.ceal_trace.specs.declared.node.Node.TheVariants.{Root, End}
use Rattle.ceal_repair.proofs.cutting.cut_of.Goals as goal

pub unreachable-requires : goal.unreachable-requires
unreachable-requires c = let no : is_plain Root ≡ true = c.requires.plain Root (c.node.ensures.node ∙ ap (λ (s : Seen). Some (seen s)) c.in-Root.is) in absurd (cc)

pub unreachable-requires-in-End : goal.unreachable-requires-in-End
unreachable-requires-in-End c = let no : is_plain (End c.in-End.read) ≡ true = c.requires.plain (End c.in-End.read) (c.node.ensures.node ∙ ap (λ (s : Seen). Some (seen s)) c.in-End.is) in absurd (cc)
