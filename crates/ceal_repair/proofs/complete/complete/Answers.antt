use Rattle.std.proofs.Common.{◌≡◌, false, arith}
use Rattle.std.proofs.Common.{true, refl, ◌∙◌}
use Rattle.ceal_repair.proofs.Runs.Paid.{pays-self, pays-then, anew-then}
use Rattle.ceal_repair.specs.Repairs.{account}
use Rattle.ceal_repair.proofs.complete.complete.Goals as goal

pub returns-then-not-branch-clause-done : goal.returns-then-not-branch-clause-done
returns-then-not-branch-clause-done c = λ start r.
    let last : c.in_ok-act.field-0 ≡ false = grind (arith, c.if-not-branch.true) in
    (rw last at (c.in_ok-act.ensures.runs start (c.loop-act.invariant.runs start r)), omega (arith, c.in_ok-act.ensures.spent last, c.spent.ensures, c.if-spent-fuel.false))

pub loop-act-init : goal.loop-act-init
loop-act-init c = record {
  call = record { code = refl; inputs = refl; place = refl; marks = refl };
  some = c.requires.runs;
  runs = λ start r. r;
  pays = pays-self (account c.args.repair.now);
  anew = λ none. (none, refl);
}

-- one act more is done, and it is paid
pub loop-act-preserved : goal.loop-act-preserved
loop-act-preserved c =
    let told : c.in_ok-act.field-0 ≡ true = grind (arith, c.if-not-branch.false) in
    let e = c.in_ok-act.ensures in
    let i = c.loop-act.invariant in
    record {
      call = record { code = e.call.code ∙ i.call.code; inputs = e.call.inputs ∙ i.call.inputs; place = e.call.place ∙ i.call.place; marks = e.call.marks ∙ i.call.marks };
      some = (i.some.0, rw told at (e.runs i.some.0 i.some.1));
      runs = λ start r. rw told at (e.runs start (i.runs start r));
      pays = pays-then 0 (account c.args.repair.now) (account c.loop-act.repair) (account c.act.new.self) i.pays e.pays;
      anew = anew-then c.args.repair.now c.loop-act.repair c.act.new.self i.anew e.anew;
    }

pub returns-then-spent-fuel-clause-pays : goal.returns-then-spent-fuel-clause-pays
returns-then-spent-fuel-clause-pays c = c.loop-act.invariant.pays

pub returns-then-not-branch-clause-pays : goal.returns-then-not-branch-clause-pays
returns-then-not-branch-clause-pays c =
    pays-then 0 (account c.args.repair.now) (account c.loop-act.repair) (account c.act.new.self) c.loop-act.invariant.pays c.in_ok-act.ensures.pays

pub returns-then-spent-fuel-clause-anew : goal.returns-then-spent-fuel-clause-anew
returns-then-spent-fuel-clause-anew c = c.loop-act.invariant.anew

pub returns-then-not-branch-clause-anew : goal.returns-then-not-branch-clause-anew
returns-then-not-branch-clause-anew c = anew-then c.args.repair.now c.loop-act.repair c.act.new.self c.loop-act.invariant.anew c.in_ok-act.ensures.anew
