use Rattle.std.proofs.Common.{ap, ◌∙◌}
use Rattle.ceal_code.specs.Stacks.{stack_in}
use Rattle.ceal_repair.proofs.Runs.UnitSteps.{now-quiet}
use Rattle.ceal_repair.proofs.Runs.RepairView.{running-here, runs-as, IsStepped, stepped-view}
use Rattle.ceal_repair.specs.Repairs.{code_of, inputs_of, view}
use Rattle.ceal_repair.specs.declared.repair.Repair.{Repair}
use Rattle.std.proofs.Common.{refl, arith}
use Rattle.ceal_repair.proofs.Runs.Paid.{step-pays, spends, none-put}
use Rattle.ceal_repair.proofs.TableCalls.FewLooks.{counts-still}
use Rattle.ceal_repair.specs.Looks.{Account, touched_ahead, ends_ahead}
use Rattle.ceal_repair.specs.Repairs.{account}
use Rattle.std.proofs.Common.{◌+◌}
use Rattle.ceal_repair.proofs.repair.Repair.quiet.Goals as goal

pub step-requires-clause-here : goal.step-requires-clause-here
step-requires-clause-here c = running-here c.requires.acts.0 c.requires.acts.1.stack c.args.self.now c.requires.acts.1.now

-- a step that reads and writes nothing: only the unit and the count change
pub returns-clause-runs : goal.returns-clause-runs
returns-clause-runs c = λ start a.
    let old : Repair = c.args.self.now in
    let new : Repair = c.step.new.self in
    let e = c.in_ok-step.ensures in
    let h : IsStepped old new = record { rest = e.rest; heap = e.heap; spent = e.spent; more = record { nodes = e.nodes; mods = e.mods; queue = e.queue; kept = e.kept } } in
    runs-as (code_of old) (inputs_of old) start (stack_in old.stack.now) _ new
    (now-quiet (code_of old) (inputs_of old) start a.stack (view old) a.now (stack_in old.stack.now) new.running.now.tables a.does h.more)
    (ap code_of h.rest) (ap inputs_of h.rest) (ap (λ (r : Repair). stack_in r.stack.now) h.rest) (stepped-view old new h)

pub returns-clause-pays : goal.returns-clause-pays
returns-clause-pays c =
    let a : Account = account c.args.self.now in
    let e = c.in_ok-step.ensures in
    let b : Account = record {
      tables = c.step.new.self.running.now.tables;
      cursor = c.step.new.self.cursor.0;
      spent = c.step.new.self.running.now.spent;
      ahead = a.ahead + 4;
      ends = a.ends + 2;
    } in
    let s = e.touched in
    let stepped = step-pays a b _ e.nodes e.mods e.queue e.spent s refl refl (ap (λ (r : Repair). r.cursor.0) e.rest) e.counts in
    let h = ap (λ (r : Repair). touched_ahead r.frames.now.items) e.rest in
    let i = ap (λ (r : Repair). ends_ahead r.frames.now.items) e.rest in
    let z : Account = record b { ahead = touched_ahead c.step.new.self.frames.now.items; ends = ends_ahead c.step.new.self.frames.now.items } in
    spends 5 0 a b z stepped (omega arith) (omega (arith, h)) refl refl (counts-still b.tables b.tables refl refl refl) (omega (arith, i)) (none-put b z (λ o f d r. r))

pub returns-clause-anew : goal.returns-clause-anew
returns-clause-anew c = λ none. let e = c.in_ok-step.ensures in (ap (λ (r : Repair). r.limit) e.rest ∙ none, ap (λ m. m.differed) e.mods)
