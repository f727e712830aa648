use Rattle.std.proofs.Common.{◌<◌, IfOk, length, sym, subst}
use Rattle.ceal_session.proofs.Replies.TextOfReply.{if-ok}
use Rattle.ceal_session.proofs.Memory.EngineTellsRun.{whole-seen, root-seen, told-graph}
use Rattle.ceal_session.specs.Questions.{IsReady}
use Rattle.ceal_session.specs.SessionState.{situation, situation_of}
use Rattle.ceal_session.specs.Runs.{present_run}
use Rattle.ceal_session.specs.Texts.{TellsOf}
use Rattle.ceal_session.specs.State.{numbers_in}
use Rattle.ceal_session.specs.declared.reply.Query.TheVariants.{Show}
use Rattle.ceal_session.proofs.state.State.graph.Goals as goal

pub graph-requires-clause-whole : goal.graph-requires-clause-whole
graph-requires-clause-whole c =
    whole-seen c.self.inside.program c.self.inside.names c.self.inside.engine c.self.inside.journal c.self.inside.pending c.self.invariant c.phase-phase.ensures.whole
    (subst (λ m. IsReady m.state) (sym c.self.view_is) c.requires.ready) c.fitting_is_whole.ensures.law

-- an input is a block of the memory
pub graph-requires-clause-there : goal.graph-requires-clause-there
graph-requires-clause-there c =
    root-seen c.self.inside.program c.self.inside.names c.self.inside.engine c.self.inside.journal c.self.inside.pending c.self.invariant c.phase-phase.ensures.whole
    (subst (λ m. IsReady m.state) (sym c.self.view_is) c.requires.ready) c.progress_law.ensures.law
    c.args.input (subst (λ m. c.args.input < length m.state.inputs) (sym c.self.view_is) c.requires.there)

-- the text is the graph of the memory from this input on
pub returns : goal.returns
returns c =
    subst (λ m. IfOk c.graph.result (λ text. TellsOf m.state (numbers_in (situation m)) (Show c.args.input) (present_run m.state) text)) c.self.view_is
    (if-ok c.graph.result
    (λ text h. told-graph c.self.inside.program c.self.inside.names c.self.inside.engine c.self.inside.journal c.self.inside.pending c.self.invariant c.phase-phase.ensures.whole
    (subst (λ m. IsReady m.state) (sym c.self.view_is) c.requires.ready) c.progress_law.ensures.law
    c.fitting_is_whole.ensures.law c.same_text.ensures.law c.args.input (subst (λ m. c.args.input < length m.state.inputs) (sym c.self.view_is) c.requires.there)
    (numbers_in (situation_of c.self.inside.program c.self.inside.names c.self.inside.engine c.self.inside.journal c.self.inside.pending)) text h)
    c.graph.ensures)
