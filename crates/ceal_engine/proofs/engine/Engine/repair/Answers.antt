use Rattle.std.proofs.Common.{◌≡◌, ◌∙◌, inl, false, true, None, Some, Err, ap, refl, sym, subst}
use Rattle.std.proofs.lemmas.Result.{err_from_is_err_and}
use Rattle.ceal_base.specs.Trace.{Trace}
use Rattle.ceal_code.specs.Replay.{IsHonest}
use Rattle.ceal_engine.proofs.Advanced.{out-of-fuel}
use Rattle.ceal_engine.proofs.Carrying.{open-part, keeps-more, keeps-done, goes-on, ends, some-reads, leaves-fewer, keeps-words, no-slice, is-out, fresh-out}
use Rattle.ceal_engine.proofs.CostOfCalls.{cost-repair, distinct-nodes, looks-queued, marks-opened}
use Rattle.ceal_engine.proofs.ReadsApart.{apart-repair}
use Rattle.ceal_engine.proofs.Keeping.{sound-with, sound-dropped}
use Rattle.ceal_engine.proofs.NoneStale.{done-within, part-honest, honest-ends, front-kept, on-error}
use Rattle.ceal_engine.proofs.Present.{other-whole, sound-present}
use Rattle.ceal_engine.proofs.TraceSoFar.{done-so-far, spent-fresh}
use Rattle.ceal_engine.specs.Advance.{RepairGoesOn, RepairEnds}
use Rattle.ceal_engine.specs.Calls.{Advances}
use Rattle.ceal_engine.specs.Engine.{has_run, trace}
use Rattle.ceal_engine.specs.Keeping.{phase_of, state_of}
use Rattle.ceal_engine.specs.Partial.{CarriesRepair, IsOut}
use Rattle.ceal_engine.specs.Runs.{finished, opened, under_way}
use Rattle.ceal_engine.specs.declared.phase.Came.{Came}
use Rattle.ceal_engine.specs.declared.phase.Phase.TheVariants.{Partial}
use Rattle.ceal_engine.specs.declared.run.Run.TheVariants as its
use Rattle.ceal_engine.specs.declared.run.Stage.TheVariants as stage
use Rattle.ceal_engine.specs.declared.run_error.RunError.TheVariants.{Memory, OutOfFuel}
use Rattle.ceal_repair.specs.Slicing.{IsSliced}
use Rattle.ceal_theory.specs.Repair.{own}
use Rattle.ceal_theory.specs.Slices.{sliced as sliced_repair}
use Rattle.ceal_engine.proofs.engine.Engine.repair.Goals as goal

pub advance-requires-clause-part : goal.advance-requires-clause-part
advance-requires-clause-part c =
    let v = c.self.inside in
    open-part v.code v.fuel v.inputs v.run v.call.call c.self.invariant.keeps c.open.new.run (ap opened c.in-Kept.is ∙ ap Some (sym c.open.ensures))

-- the repair continues: what the slice left is kept as a partial run
pub invariant_of-self : goal.invariant_of-self
invariant_of-self c =
    let v = c.self.inside in
    let run = c.advance.new.running in
    (sound-with v.code v.fuel v.inputs v.call v.run (its.Kept run stage.Partial) c.self.invariant
    (keeps-more v.code v.fuel v.inputs v.run v.call.call c.self.invariant.keeps c.open.new.run
    (ap opened c.in-Kept.is ∙ ap Some (sym c.open.ensures)) c.args.reads run c.in-Ok-More.field-0 c.in-Ok-More.ensures.sliced c.in-Ok-More.field-0-is))

-- no read is stale, so the run is finished
pub invariant_of-self-in-Ok-Done : goal.invariant_of-self-in-Ok-Done
invariant_of-self-in-Ok-Done c =
    let v = c.self.inside in
    let run = c.advance.new.running in
    (sound-with v.code v.fuel v.inputs v.call v.run (its.Kept run stage.Finished) c.self.invariant
    (keeps-done v.code v.fuel v.inputs v.run v.call.call c.self.invariant.keeps c.open.new.run
    (ap opened c.in-Kept.is ∙ ap Some (sym c.open.ensures)) c.args.reads run c.in-Ok-Done.field-0 c.in-Ok-Done.ensures.sliced c.in-Ok-Done.field-0-is))

pub invariant_of-self-in-Ok-Spent : goal.invariant_of-self-in-Ok-Spent
invariant_of-self-in-Ok-Spent c =
    let v = c.self.inside in
    rw c.give_up.ensures (sound-dropped v.code v.fuel v.inputs v.call v.run (subst (λ e. has_run e.phase ≡ true) (sym c.self.view_is) c.requires.run) c.self.invariant)

pub invariant_of-self-in-Ok-OutOfFuel : goal.invariant_of-self-in-Ok-OutOfFuel
invariant_of-self-in-Ok-OutOfFuel c =
    let v = c.self.inside in
    rw c.give_up-in-Ok-OutOfFuel.ensures (sound-dropped v.code v.fuel v.inputs v.call v.run (subst (λ e. has_run e.phase ≡ true) (sym c.self.view_is) c.requires.run) c.self.invariant)

pub invariant_of-self-in-Err : goal.invariant_of-self-in-Err
invariant_of-self-in-Err c =
    let v = c.self.inside in
    rw c.give_up-in-Err.ensures (sound-dropped v.code v.fuel v.inputs v.call v.run (subst (λ e. has_run e.phase ≡ true) (sym c.self.view_is) c.requires.run) c.self.invariant)

-- the reads were re-executed, and the engine has what the definition's slice leaves
pub returns-in-Ok-More-clause-outcome : goal.returns-in-Ok-More-clause-outcome
returns-in-Ok-More-clause-outcome c =
    let v = c.self.inside in
    let before = state_of v.code v.fuel v.inputs v.call.call v.run in
    let is = ap opened c.in-Kept.is ∙ ap Some (sym c.open.ensures) in
    let run = c.advance.new.running in
    let a = c.in-Ok-More.ensures in
    let far = c.in-Ok-More.field-0 in
    let more = c.in-Ok-More.field-0-is in
    let keeps = c.self.invariant.keeps in
    subst (λ e. RepairGoesOn e (under_way v.code v.fuel v.inputs v.call.call run) c.args.reads) c.self.view_is
    (record {
      phase = refl;
      given = some-reads v.code v.fuel v.inputs v.run v.call.call keeps c.open.new.run is c.args.reads run far a.sliced more;
      repairs = record {
        run = subst (λ e. has_run e.phase ≡ true) (sym c.self.view_is) c.requires.run;
        front = front-kept v.code v.fuel v.inputs v.call.call v.run c.open.new.run run stage.Partial is (a.front (λ s. absurd (let clash = sym more ∙ s in cc)));
        cost = cost-repair v.code v.fuel v.inputs v.call.call v.run c.open.new.run run is a.distance stage.Partial;
        apart = apart-repair v.code v.fuel v.inputs v.call.call v.run c.open.new.run run is
            (distinct-nodes v.code v.fuel v.inputs v.run v.call.call keeps) (a.departs (λ s. absurd (let clash = sym more ∙ s in cc))) stage.Partial;
        idle = λ l e honest.
            let part = part-honest v.code v.fuel v.inputs v.run v.call.call keeps c.open.new.run is l e honest in
            looks-queued v.code v.fuel v.inputs v.call.call v.run c.open.new.run run is (a.idle part.0 part.1 part.2 part.3 part.4) stage.Partial;
        marked = marks-opened v.run c.open.new.run run is a.marks;
      };
      slice = goes-on v.code v.fuel v.inputs v.run v.call.call keeps c.open.new.run is c.args.reads run far a.sliced more;
      words = keeps-words v.code v.fuel v.inputs v.run v.call.call keeps c.open.new.run is c.args.reads run far a.sliced more;
      fewer = leaves-fewer v.code v.fuel v.inputs v.run v.call.call keeps c.open.new.run is c.args.reads run far a.sliced more;
    })

-- the slice was the last one: what was left of the repair is done, and where nothing is stale the run is present
pub returns-in-Ok-Done-clause-outcome : goal.returns-in-Ok-Done-clause-outcome
returns-in-Ok-Done-clause-outcome c =
    let v = c.self.inside in
    let is = ap opened c.in-Kept.is ∙ ap Some (sym c.open.ensures) in
    let run = c.advance.new.running in
    let a = c.in-Ok-Done.ensures in
    let far = c.in-Ok-Done.field-0 in
    let done = c.in-Ok-Done.field-0-is in
    let keeps = c.self.invariant.keeps in
    subst (λ e. RepairEnds e (finished v.code v.fuel v.inputs v.call.call run) c.args.reads) c.self.view_is
    (record {
      phase = refl;
      present =
          sound-present v.code v.fuel v.inputs v.call (its.Kept run stage.Finished)
          (sound-with v.code v.fuel v.inputs v.call v.run (its.Kept run stage.Finished) c.self.invariant
          (keeps-done v.code v.fuel v.inputs v.run v.call.call keeps c.open.new.run is c.args.reads run far a.sliced done)) refl;
      repairs = record {
        run = subst (λ e. has_run e.phase ≡ true) (sym c.self.view_is) c.requires.run;
        front = front-kept v.code v.fuel v.inputs v.call.call v.run c.open.new.run run stage.Finished is (a.front (λ s. absurd (let clash = sym done ∙ s in cc)));
        cost = cost-repair v.code v.fuel v.inputs v.call.call v.run c.open.new.run run is a.distance stage.Finished;
        apart = apart-repair v.code v.fuel v.inputs v.call.call v.run c.open.new.run run is
            (distinct-nodes v.code v.fuel v.inputs v.run v.call.call keeps) (a.departs (λ s. absurd (let clash = sym done ∙ s in cc))) stage.Finished;
        idle = λ l e honest.
            let part = part-honest v.code v.fuel v.inputs v.run v.call.call keeps c.open.new.run is l e honest in
            looks-queued v.code v.fuel v.inputs v.call.call v.run c.open.new.run run is (a.idle part.0 part.1 part.2 part.3 part.4) stage.Finished;
        marked = marks-opened v.run c.open.new.run run is a.marks;
      };
      slice = ends v.code v.fuel v.inputs v.run v.call.call keeps c.open.new.run is c.args.reads run far a.sliced done;
      repaired = λ w l e. (done-so-far v.code v.fuel v.inputs v.run w v.call.call keeps c.open.new.run is run far a.repaired done l e).0;
      unchanged = λ w l e h. ((done-so-far v.code v.fuel v.inputs v.run w v.call.call keeps c.open.new.run is run far a.repaired done l e).1 h).0;
      unchanged_nodes = λ w l e h. ((done-so-far v.code v.fuel v.inputs v.run w v.call.call keeps c.open.new.run is run far a.repaired done l e).1 h).1;
    })

-- the slice would take more steps than the fuel, and so would the run from scratch
pub returns-in-Ok-OutOfFuel-clause-outcome : goal.returns-in-Ok-OutOfFuel-clause-outcome
returns-in-Ok-OutOfFuel-clause-outcome c = λ next r carries.
    let v = c.self.inside in
    let is = ap opened c.in-Kept.is ∙ ap Some (sym c.open.ensures) in
    let run = c.advance.new.running in
    let sliced = c.in-Ok-OutOfFuel.ensures.sliced in
    subst (λ e. (CarriesRepair e next r → IsOut e c.args.reads r)) c.self.view_is
    (is-out v.code v.fuel v.inputs v.run v.call.call c.self.invariant.keeps c.open.new.run is c.args.reads run c.in-Ok-OutOfFuel.field-0 sliced c.in-Ok-OutOfFuel.field-0-is next r) carries

-- where more steps were spent than the fuel, no slice is there
pub returns-in_ok-start_over-in-Ok-Spent-clause-outcome : goal.returns-in_ok-start_over-in-Ok-Spent-clause-outcome
returns-in_ok-start_over-in-Ok-Spent-clause-outcome c =
    let v = c.self.inside in
    let is = ap opened c.in-Kept.is ∙ ap Some (sym c.open.ensures) in
    let run = c.advance.new.running in
    let sliced = c.in-Ok-Spent.ensures.sliced in
    let a = c.in_ok-start_over-in-Ok-Spent.ensures in
    record {
      from = inl (subst (λ s. s.phase ≡ Partial) c.self.view_is (sym c.phase-before.ensures ∙ a.began));
      slice = λ next r carries.
          subst (λ e. (CarriesRepair e next r → sliced_repair e.code own e.inputs c.args.reads e.fuel r ≡ None)) c.self.view_is
          (no-slice v.code v.fuel v.inputs v.run v.call.call c.self.invariant.keeps c.open.new.run is c.args.reads run c.in-Ok-Spent.field-0 sliced c.in-Ok-Spent.field-0-is next r) carries;
      anew = a.anew;
    }

-- the fuel was spent, and the run from nothing ended with an error
pub returns-in_err-start_over-in-Ok-Spent-clause-outcome : goal.returns-in_err-start_over-in-Ok-Spent-clause-outcome
returns-in_err-start_over-in-Ok-Spent-clause-outcome c =
    let v = c.self.inside in
    let is = ap opened c.in-Kept.is ∙ ap Some (sym c.open.ensures) in
    let run = c.advance.new.running in
    let sliced = c.in-Ok-Spent.ensures.sliced in
    let error = err_from_is_err_and c.from_residual.result c.from_residual.ensures.1 in
    rw error.1
    (out-of-fuel c.args.self.now c.start_over.new.self c.args.reads
    (λ next r carries.
    subst (λ e. (CarriesRepair e next r → sliced_repair e.code own e.inputs c.args.reads e.fuel r ≡ None)) c.self.view_is
    (no-slice v.code v.fuel v.inputs v.run v.call.call c.self.invariant.keeps c.open.new.run is c.args.reads run c.in-Ok-Spent.field-0 sliced c.in-Ok-Spent.field-0-is next r) carries) error.0)

-- the repair has more steps than the fuel, so it is run from nothing
pub start_over-requires-clause-out : goal.start_over-requires-clause-out
start_over-requires-clause-out c = λ other.
    let v = c.self.inside in
    let is = ap opened c.in-Kept.is ∙ ap Some (sym c.open.ensures) in
    spent-fresh v.code v.fuel v.inputs v.run (other-whole (phase_of v.run) (subst (λ e. has_run e.phase ≡ true) (sym c.self.view_is) c.requires.run)
    (λ e. other (c.phase-before.ensures ∙ e))) v.call.call c.self.invariant.keeps c.open.new.run is c.advance.new.running
    c.in-Ok-Spent.field-0 c.in-Ok-Spent.ensures.repaired c.in-Ok-Spent.field-0-is

-- code, fuel, inputs and call stay, and the run is dropped
pub returns-in-Ok-OutOfFuel-clause-keeps : goal.returns-in-Ok-OutOfFuel-clause-keeps
returns-in-Ok-OutOfFuel-clause-keeps c =
    let v = c.self.inside in
    let fresh = fresh-out v.code v.fuel v.inputs v.run v.call.call c.self.invariant.keeps c.open.new.run
    (ap opened c.in-Kept.is ∙ ap Some (sym c.open.ensures)) c.args.reads c.advance.new.running c.in-Ok-OutOfFuel.field-0 c.in-Ok-OutOfFuel.ensures.sliced c.in-Ok-OutOfFuel.field-0-is in
    rw c.give_up-in-Ok-OutOfFuel.ensures
    (subst (λ e. Advances {A = Came} e (state_of v.code v.fuel v.inputs v.call.call its.Dropped) (Err OutOfFuel)) c.self.view_is
    (record {
      code = refl;
      fuel = refl;
      inputs = refl;
      call = refl;
      sure_where_honest = λ w l e h. absurd (honest-ends v.code v.fuel v.inputs v.run v.call.call c.self.invariant.keeps w l e h fresh);
      sure_in_part = λ l e h. tt;
      out_of_fuel = fresh;
      dropped = refl;
    }))

-- where no read is stale it does not fail
pub returns-in-Err-clause-keeps : goal.returns-in-Err-clause-keeps
returns-in-Err-clause-keeps c =
    let v = c.self.inside in
    let before = state_of v.code v.fuel v.inputs v.call.call v.run in
    let sure : (l : Trace) → trace before ≡ Some l → IsHonest v.code v.inputs l → ⊥ = λ l e h.
    let p = part-honest v.code v.fuel v.inputs v.run v.call.call c.self.invariant.keeps c.open.new.run (ap opened c.in-Kept.is ∙ ap Some (sym c.open.ensures)) l e h in
    absurd (let no : false ≡ true = c.in-Err.ensures.sure p.0 p.1 p.2 p.3 p.4 in cc) in
    rw (c.give_up-in-Err.ensures, c.from.ensures)
    (subst (λ e. Advances {A = Came} e (state_of v.code v.fuel v.inputs v.call.call its.Dropped) (Err Memory)) c.self.view_is
    (record {
      code = refl;
      fuel = refl;
      inputs = refl;
      call = refl;
      sure_where_honest = λ w l e h. absurd (sure l e h);
      sure_in_part = λ l e h. absurd (sure l e h);
      out_of_fuel = tt;
      dropped =
          refl;
    }))

-- the same, where memory ran out in the run from nothing
pub returns-in_err-start_over-in-Ok-Spent-clause-keeps : goal.returns-in_err-start_over-in-Ok-Spent-clause-keeps
returns-in_err-start_over-in-Ok-Spent-clause-keeps c =
    let v = c.self.inside in
    let before = state_of v.code v.fuel v.inputs v.call.call v.run in
    let sure : (l : Trace) → trace before ≡ Some l → IsHonest v.code v.inputs l → ⊥ = λ l e h.
    let p = part-honest v.code v.fuel v.inputs v.run v.call.call c.self.invariant.keeps c.open.new.run (ap opened c.in-Kept.is ∙ ap Some (sym c.open.ensures)) l e h in
    done-within v.code v.inputs p.0 p.1 v.fuel p.2 c.open.new.run p.3 p.4 c.args.reads c.requires.some
    (subst (IsSliced v.code v.inputs p.0 p.1 c.args.reads v.fuel p.2 c.advance.new.running) c.in-Ok-Spent.field-0-is (c.in-Ok-Spent.ensures.sliced p.0 p.1 p.2 p.3)) in
    let error = err_from_is_err_and c.from_residual.result c.from_residual.ensures.1 in
    let k = on-error {B = Came} _ c.start_over.new.self _ c.in_err-start_over-in-Ok-Spent.ensures.keeps in
    rw (error.1, error.2)
    (subst (λ e. Advances {A = Came} e c.start_over.new.self (Err c.in_err-start_over-in-Ok-Spent.field-0.0)) c.self.view_is
    (record {
      code = k.code;
      fuel = k.fuel;
      inputs = k.inputs;
      call = k.call;
      sure_where_honest = λ w l e h. absurd (sure l e h);
      sure_in_part = λ l e h. absurd (sure l e h);
      out_of_fuel =
          k.out_of_fuel;
      dropped = k.dropped;
    }))
