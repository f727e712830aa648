use Rattle.std.proofs.Common.{◌≤◌, sym, subst}
use Rattle.ceal_code.specs.Fitting.{Fits}
use Rattle.ceal_engine.proofs.Inputs.{argument-number}
use Rattle.ceal_engine.proofs.engine.Engine.run.Goals as goal

-- the arguments are as many as the function has parameters, and for those the call has room
pub set-requires-clause-room : goal.set-requires-clause-room
set-requires-clause-room c =
    subst (λ n. n ≤ c.self.inside.call.room)
    (argument-number c.self.inside.code c.self.inside.inputs c.args.function c.args.args.now (subst (λ e. Fits e.code e.inputs c.args.function c.args.args.now) (sym c.self.view_is) c.requires.fits))
    (c.self.invariant.room c.args.function)
