use Rattle.std.proofs.Common.{ℕ, ◌++◌, ◌∷◌, reverse, refl}
use Rattle.ceal_code.specs.Piles.{Pile}
use Rattle.ceal_repair.proofs.Runs.NewReadEnd.{among, open-is-read, open-before, now-finish}
use Rattle.ceal_repair.proofs.Runs.UnitSteps.{NodeMore, cursor-here}
use Rattle.ceal_repair.proofs.Runs.RepairView.{runs-as, with_parts}
use Rattle.ceal_repair.specs.Entries.{entries}
use Rattle.ceal_repair.specs.Moment.{View}
use Rattle.ceal_repair.specs.Repairs.{code_of, inputs_of, view_under, units_on}
use Rattle.ceal_repair.specs.Frames.{Begun, frames_in}
use Rattle.ceal_repair.specs.declared.repair.Repair.{Repair}
use Rattle.ceal_trace.specs.declared.node.Node.TheVariants.{End}
use Rattle.std.proofs.Common.{arith, ap}
use Rattle.ceal_repair.proofs.Runs.Paid.{due-put, puts}
use Rattle.ceal_repair.proofs.TableCalls.FewLooks.{owed-same}
use Rattle.ceal_repair.specs.Looks.{Account, begun}
use Rattle.ceal_repair.specs.Repairs.{account}
use Rattle.ceal_repair.proofs.Runs.Nearness.{came-put}
use Rattle.ceal_repair.proofs.repair.Repair.finish.Goals as goal

-- the read that ends is a node, since what was put in after it is inside it
pub finish_read-requires-clause-read : goal.finish_read-requires-clause-read
finish_read-requires-clause-read c =
    let r : Repair = c.args.self.now in
    let e = c.requires.ends.1 in
    let v : View = record (view_under c.args.below r) { frames = Begun (units_on c.args.below r) c.args.read ∷ (view_under c.args.below r).frames } in
    open-is-read c.requires.ends.0 v e.now.reads (entries e.now.left ++ e.now.tail) e.now.placed c.args.read.0
    (among (code_of r) (inputs_of r) c.requires.ends.0 e.stack (view_under c.args.below r) (units_on c.args.below r) c.args.read e.now)

pub finish_read-requires-clause-here : goal.finish_read-requires-clause-here
finish_read-requires-clause-here c =
    let r : Repair = c.args.self.now in
    let e = c.requires.ends.1 in
    let v : View = record (view_under c.args.below r) { frames = Begun (units_on c.args.below r) c.args.read ∷ (view_under c.args.below r).frames } in
    cursor-here c.requires.ends.0 v e.now.reads (entries e.now.left ++ e.now.tail) e.now.placed

-- the cursor is not before the read, since all that was put in is after it
pub finish_read-requires-clause-order : goal.finish_read-requires-clause-order
finish_read-requires-clause-order c =
    let r : Repair = c.args.self.now in
    let e = c.requires.ends.1 in
    let v : View = record (view_under c.args.below r) { frames = Begun (units_on c.args.below r) c.args.read ∷ (view_under c.args.below r).frames } in
    open-before c.requires.ends.0 v e.now.reads (entries e.now.left ++ e.now.tail) e.now.placed c.args.read.0
    (among (code_of r) (inputs_of r) c.requires.ends.0 e.stack (view_under c.args.below r) (units_on c.args.below r) c.args.read e.now)

-- the new read has its end, and the units below run on after it
pub returns-clause-runs : goal.returns-clause-runs
returns-clause-runs c = λ start a.
    let r : Repair = c.args.self.now in
    let s : ℕ = c.in_ok-self.field-0.0 in
    let f = c.in_ok-self.ensures in
    let k : NodeMore r.cursor.0 s (End c.args.read) r.running.now.tables c.finish_read.new.self =
    record { nodes = f.nodes; inserted = f.inserted; bases = λ p. rw f.mods refl; behind = f.behind; kept = f.kept } in
    runs-as (code_of r) (inputs_of r) start (units_on c.args.below r) _
    (record (with_parts r (record r.running.now { tables = c.finish_read.new.self }) c.bring_back.new.self r.frames.now) { cursor = c.in_ok-self.field-0 })
    (now-finish (code_of r) (inputs_of r) start a.stack (view_under c.args.below r) (units_on c.args.below r) c.args.read a.now c.finish_read.new.self s a.over k)
    refl refl c.bring_back.ensures.back
    (ap (λ (a : Pile). record {
      tables = c.finish_read.new.self;
      heap = r.running.now.heap;
      spent = r.running.now.spent;
      cursor = s;
      limit = r.limit;
      frames =
          frames_in a (reverse r.frames.now.items);
    }) c.bring_back.ensures.aside)

pub returns-clause-pays : goal.returns-clause-pays
returns-clause-pays c =
    let a : Account = begun (account c.args.self.now) in
    let f = c.in_ok-self.ensures in
    let o = owed-same a.tables c.finish_read.new.self f.mods f.queue in
    let d = due-put a.tables c.finish_read.new.self c.args.self.now.cursor.0 c.in_ok-self.field-0.0 (End c.args.read) 0 f.nodes (omega (arith, o)) in
    let t = f.touched in
    puts a (record (account c.args.self.now) { tables = c.finish_read.new.self; cursor = c.in_ok-self.field-0.0 }) (omega (arith, d)) (omega (arith, t)) refl (ap (λ m. m.differed) f.mods) f.counts
    (omega arith) (λ o n d r. came-put o n d a.cursor c.in_ok-self.field-0.0 (End c.args.read) a.tables.trace.nodes c.finish_read.new.self.trace.nodes f.nodes f.inserted r)

pub returns-clause-anew : goal.returns-clause-anew
returns-clause-anew c = λ none. let f = c.in_ok-self.ensures in (none, ap (λ m. m.differed) f.mods)
