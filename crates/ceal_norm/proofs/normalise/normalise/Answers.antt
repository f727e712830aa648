use Rattle.std.proofs.Common.{◌≡◌, ap, sym, subst, ◌∙◌, rules}
use Rattle.ceal_code.specs.Valid.{valid}
use Rattle.ceal_flow.specs.Live.{AreLiveSets}
use Rattle.ceal_flow.specs.Lowering.{graph_of}
use Rattle.ceal_norm.specs.Laws.{RunsAs, source_of}
use Rattle.ceal_norm.specs.Units.{code_of}
use Rattle.ceal_norm.proofs.normalise.normalise.Goals as goal

-- of a typed program's graph with its live variables, the code is valid
pub returns-clause-valid : goal.returns-clause-valid
returns-clause-valid c = λ p e typed kept.
    let exact : c.new-2.result ≡ code_of (record { graph = c.args.graph.now; live = c.args.live.now }) = search rules in
    let same : c.new-2.result ≡ code_of (source_of p c.args.live.now) = exact ∙ ap (λ g. code_of (record { graph = g; live = c.args.live.now })) e in
    let live : AreLiveSets (graph_of p).blocks c.args.live.now = subst (λ g. AreLiveSets g.blocks c.args.live.now) e c.requires.live in
    ap valid same ∙ c.valid_law.ensures.law p c.args.live.now typed kept live

-- and it runs as the graph does, which runs as the program does
pub returns-clause-same_run : goal.returns-clause-same_run
returns-clause-same_run c = λ p e typed kept.
    let exact : c.new-2.result ≡ code_of (record { graph = c.args.graph.now; live = c.args.live.now }) = search rules in
    let same : c.new-2.result ≡ code_of (source_of p c.args.live.now) = exact ∙ ap (λ g. code_of (record { graph = g; live = c.args.live.now })) e in
    let live : AreLiveSets (graph_of p).blocks c.args.live.now = subst (λ g. AreLiveSets g.blocks c.args.live.now) e c.requires.live in
    subst (λ code. RunsAs code p) (sym same) (c.run_law.ensures.law p c.args.live.now typed kept live)
