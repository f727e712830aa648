use Rattle.std.proofs.Common.{◌∙◌, Some, None, ap, refl, arith}
use Rattle.std.proofs.lemmas.Result.{err_from_is_err_and}
use Rattle.std.specs.Prelude.{List}
use Rattle.ceal_base.specs.declared.word.Word.{Word}
use Rattle.ceal_engine.proofs.Advanced.{end-keeps, ran}
use Rattle.ceal_engine.specs.Calls.{called}
use Rattle.ceal_engine.specs.Engine.{has_run, is_whole}
use Rattle.ceal_session.proofs.Engine.EngineKeepsPast.{ran-first, failed-first}
use Rattle.ceal_session.proofs.advance.first_run.Goals as goal

-- the first run of a call has no repair before it
pub returns : goal.returns
returns c = record {
  brings =
      let e = c.args.engine.now in
      let with-call = called e c.args.call.now.function c.items.result.now in
      let a = c.in_ok-run.ensures.advances in
      let k = end-keeps with-call c.run.new.self c.run.result c.run.ensures.advances in
      ran-first e c.run.new.self c.phase-phase.ensures.whole c.args.call.now c.requires.fits k.code k.fuel k.inputs
      (k.call ∙ ap (λ (args : List Word). Some (record { function = c.args.call.now.function; args = args })) c.items.ensures.value) None
      (λ w. absurd (let p = ap is_whole c.requires.new in grind (arith, p, w))) (ap has_run c.requires.new) (ran with-call c.run.new.self refl a);
}

-- after an error there is no run
pub returns-in_err-run : goal.returns-in_err-run
returns-in_err-run c = record {
  brings =
      let e = c.args.engine.now in
      let k = c.in_err-run.ensures.advances.keeps in
      let error = err_from_is_err_and c.from_residual.result c.from_residual.ensures.1 in
      rw (error.1, error.2)
      (failed-first e c.run.new.self c.phase-phase.ensures.whole c.args.call.now c.requires.fits k.code k.fuel k.inputs
      (k.call ∙ ap (λ (args : List Word). Some (record { function = c.args.call.now.function; args = args })) c.items.ensures.value) None
      (ap has_run c.requires.new) c.in_err-run.field-0.0 k.out_of_fuel k.dropped);
}
