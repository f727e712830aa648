use Rattle.std.proofs.Common.{◌≡◌, true, false, subst, arith}
use Rattle.ceal_repair.specs.Reads.{Entered}
use Rattle.ceal_repair.proofs.Runs.Paid.{pays-then, anew-then}
use Rattle.ceal_repair.specs.Repairs.{account}
use Rattle.ceal_repair.proofs.repair.Repair.read.Goals as goal

pub pass-requires : goal.pass-requires
pass-requires c =
    let passed : c.in_ok-take_read-in-Some.field-0 ≡ false = grind (arith, c.if-not-branch.true) in
    record { passes = (c.requires.acts.0, subst (λ b. Entered b c.requires.acts.0 c.take_read.new.self) passed (c.in_ok-take_read-in-Some.ensures.runs c.requires.acts.0 c.requires.acts.1)) }

pub returns-in_ok-pass-in-Some-clause-runs : goal.returns-in_ok-pass-in-Some-clause-runs
returns-in_ok-pass-in-Some-clause-runs c = λ start a.
    let passed : c.in_ok-take_read-in-Some.field-0 ≡ false = grind (arith, c.if-not-branch.true) in
    c.in_ok-pass-in-Some.ensures.runs start (subst (λ b. Entered b start c.take_read.new.self) passed (c.in_ok-take_read-in-Some.ensures.runs start a))

pub returns-else-not-branch-clause-runs : goal.returns-else-not-branch-clause-runs
returns-else-not-branch-clause-runs c = λ start a.
    let anew : c.in_ok-take_read-in-Some.field-0 ≡ true = grind (arith, c.if-not-branch.false) in
    subst (λ b. Entered b start c.take_read.new.self) anew (c.in_ok-take_read-in-Some.ensures.runs start a)

pub returns-in_ok-pass-in-Some-clause-pays : goal.returns-in_ok-pass-in-Some-clause-pays
returns-in_ok-pass-in-Some-clause-pays c =
    pays-then 0 (account c.args.self.now) (account c.take_read.new.self) (account c.pass.new.self) c.in_ok-take_read-in-Some.ensures.pays c.in_ok-pass-in-Some.ensures.pays

pub returns-in_ok-pass-in-Some-clause-anew : goal.returns-in_ok-pass-in-Some-clause-anew
returns-in_ok-pass-in-Some-clause-anew c = anew-then c.args.self.now c.take_read.new.self c.pass.new.self c.in_ok-take_read-in-Some.ensures.anew c.in_ok-pass-in-Some.ensures.anew
