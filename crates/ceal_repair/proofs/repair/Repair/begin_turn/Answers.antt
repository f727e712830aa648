use Rattle.std.proofs.Common.{ap, refl}
use Rattle.ceal_repair.proofs.Propagation.TurnBegin.{node-now, turn-runs}
use Rattle.ceal_repair.proofs.Runs.RepairView.{with_parts}
use Rattle.ceal_repair.specs.Repairs.{code_of, inputs_of}
use Rattle.ceal_repair.specs.declared.repair.Repair.{Repair}
use Rattle.ceal_trace.proofs.Entries.{has-held}
use Rattle.ceal_trace.specs.Nodes.{is_read}
use Rattle.ceal_repair.proofs.Runs.Paid.{stays, due-steps}
use Rattle.ceal_repair.specs.Looks.{Account, found}
use Rattle.ceal_repair.specs.Repairs.{account}
use Rattle.std.proofs.Common.{arith}
use Rattle.ceal_repair.proofs.Runs.Nearness.{came-steps}
use Rattle.ceal_repair.proofs.repair.Repair.begin_turn.Goals as goal

pub unit_at-requires : goal.unit_at-requires
unit_at-requires c =
    let old : Repair = c.args.self.now in
    let found = c.requires.found.3 in
    let held = node-now (code_of old)
    (inputs_of old) c.requires.found.0 c.requires.found.1 c.requires.found.2 c.args.read.0 old.running.now c.listed_law.ensures.law c.ready_law.ensures.law c.turn_known_law.ensures.law found in
    record { read = ap is_read held }

pub end_of-self-requires : goal.end_of-self-requires
end_of-self-requires c =
    let old : Repair = c.args.self.now in
    let held = node-now (code_of old) (inputs_of old) c.requires.found.0 c.requires.found.1 c.requires.found.2 c.args.read.0 old.running.now c.listed_law.ensures.law c.ready_law.ensures.law
    c.turn_known_law.ensures.law c.requires.found.3 in
    record { read = ap is_read held }

pub set_steps-requires-clause-here : goal.set_steps-requires-clause-here
set_steps-requires-clause-here c =
    let old : Repair = c.args.self.now in
    let held = node-now (code_of old) (inputs_of old) c.requires.found.0 c.requires.found.1 c.requires.found.2 c.args.read.0 old.running.now c.listed_law.ensures.law c.ready_law.ensures.law
    c.turn_known_law.ensures.law c.requires.found.3 in
    has-held c.args.read.0 _ old.running.now.tables.trace.nodes held

-- the cursor is on the stale read, and its unit runs with its value up to its end
pub returns-clause-begins : goal.returns-clause-begins
returns-clause-begins c = λ f args o found.
    let old : Repair = c.args.self.now in
    let s = c.set_steps.ensures in
    turn-runs (code_of old) (inputs_of old) f args o c.args.read.0 old.running.now c.listed_law.ensures.law c.ready_law.ensures.law c.turn_known_law.ensures.law found
    (record (with_parts old (record { tables = c.set_steps.new.self; heap = old.running.now.heap; spent = old.running.now.spent }) c.unit_at.new.stack old.frames.now) {
      cursor = c.args.read;
      limit = c.end_of-self.result;
    })
    refl refl s.nodes s.mods s.queue s.kept refl refl refl c.requires.idle c.end_of-self.ensures.finished c.end_of-self.ensures.open c.in_ok-unit_at.ensures.unit

pub returns-clause-pays : goal.returns-clause-pays
returns-clause-pays c =
    let a : Account = found c.args.read.0 (account c.args.self.now) in
    let g = c.set_steps.ensures in
    let t = g.touched in
    stays a (record (account c.args.self.now) { tables = c.set_steps.new.self; cursor = c.args.read.0 }) (due-steps a.tables c.set_steps.new.self _ _ g.nodes g.mods g.queue) (omega (arith, t)) refl
    (ap (λ m. m.differed) g.mods) g.counts (omega arith) (λ o n m r. came-steps o n m c.args.read.0 0 a.tables.trace.nodes c.set_steps.new.self.trace.nodes g.nodes r)
