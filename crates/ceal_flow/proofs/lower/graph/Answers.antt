use Rattle.std.proofs.Common.{◌≡◌, rules}
use Rattle.ceal_flow.proofs.FunctionSteps.{blocks_from-length}
use Rattle.ceal_flow.proofs.SameRun.{runs-as}
use Rattle.ceal_flow.specs.Lowering.{graph_of}
use Rattle.ceal_flow.proofs.lower.graph.Goals as goal

pub returns-clause-few : goal.returns-clause-few
returns-clause-few c =
    let same : c.new.result ≡ graph_of c.args.program.now = search rules in
    rw (same, blocks_from-length) c.requires.limit

pub returns-clause-same_run : goal.returns-clause-same_run
returns-clause-same_run c =
    let same : c.new.result ≡ graph_of c.args.program.now = search rules in
    λ kept. rw same (runs-as c.args.program.now kept)
