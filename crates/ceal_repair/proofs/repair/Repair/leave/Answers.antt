use Rattle.std.proofs.Common.{◌≡◌, ℕ, inr, true, Some, reverse, refl, sym, ap, subst, ◌∙◌}
use Rattle.ceal_code.specs.Piles.{Pile}
use Rattle.ceal_order.specs.declared.stamp.Stamp.{Stamp}
use Rattle.ceal_repair.proofs.Reuse.TakenReadEnd.{next-taken, lies-left, first-is, end-there, now-leave}
use Rattle.ceal_repair.proofs.Runs.RepairView.{runs-as, with_parts}
use Rattle.ceal_repair.specs.Entries.{stamp_of_number}
use Rattle.ceal_repair.specs.Frames.{frames_in}
use Rattle.ceal_repair.specs.Moment.{through}
use Rattle.ceal_repair.specs.Repairs.{code_of, inputs_of, view_under, units_on}
use Rattle.ceal_repair.specs.declared.repair.Repair.{Repair}
use Rattle.ceal_repair.specs.declared.tables.Tables.{Tables}
use Rattle.ceal_trace.specs.Nodes.{has_node, with_steps}
use Rattle.std.proofs.Common.{arith}
use Rattle.ceal_repair.proofs.Runs.Paid.{stays, due-steps, has-limit}
use Rattle.ceal_repair.proofs.TableCalls.FewLooks.{counts-then}
use Rattle.ceal_repair.specs.Looks.{Account, owing}
use Rattle.ceal_repair.specs.Repairs.{account}
use Rattle.ceal_repair.proofs.Runs.Nearness.{came-steps, came-cut-to}
use Rattle.ceal_repair.proofs.repair.Repair.leave.Goals as goal

-- what is left over inside the read is between the cursor and its end
pub cut_until-requires-clause-lies : goal.cut_until-requires-clause-lies
cut_until-requires-clause-lies c =
    let old : Repair = c.args.self.now in
    let start = c.requires.ends.0 in
    let a = c.requires.ends.1 in
    let n = next-taken (code_of old) (inputs_of old) start a.stack (view_under c.args.below old) (units_on c.args.below old) c.args.until a.now in
    let both : Some (stamp_of_number n.end) ≡ Some c.in-Some.end = sym n.now_is ∙ c.in-Some.is in
    let same : stamp_of_number n.end ≡ c.in-Some.end = cc in (
      through a.now.placed.done a.now.placed.last,
      a.now.left,
      a.now.tail,
      lies-left (code_of old) (inputs_of old) start a.stack (view_under c.args.below old) (units_on c.args.below old) c.args.until a.now,
      inr (first-is (code_of old) (inputs_of old) start a.stack (view_under c.args.below old) (units_on c.args.below old) c.args.until a.now ∙ ap (λ (s : Stamp). Some s.0) same),
    )

-- the end of the read is still there, since only what stood before it was revoked
pub set_steps-requires-clause-here : goal.set_steps-requires-clause-here
set_steps-requires-clause-here c =
    let old : Repair = c.args.self.now in
    let start = c.requires.ends.0 in
    let a = c.requires.ends.1 in
    let n = next-taken (code_of old) (inputs_of old) start a.stack (view_under c.args.below old) (units_on c.args.below old) c.args.until a.now in
    let both : Some (stamp_of_number n.end) ≡ Some c.in-Some.end = sym n.now_is ∙ c.in-Some.is in
    let same : stamp_of_number n.end ≡ c.in-Some.end = cc in
    let f = c.in_ok-cut_until.ensures in
    let l = f.all (through a.now.placed.done a.now.placed.last) a.now.left a.now.tail
    (lies-left (code_of old) (inputs_of old) start a.stack (view_under c.args.below old) (units_on c.args.below old) c.args.until a.now)
    (first-is (code_of old) (inputs_of old) start a.stack (view_under c.args.below old) (units_on c.args.below old) c.args.until a.now ∙ ap (λ (s : Stamp). Some s.0) same) in
    subst (λ (s : Stamp). has_node s.0 c.cut_until.new.self.tables.trace.nodes ≡ true) same
    (end-there (code_of old) (inputs_of old) start a.stack (view_under c.args.below old) (units_on c.args.below old) c.args.until a.now c.cut_until.new.self.tables f.kept l)

-- what was left over is revoked, and the units below run on after the end of the read
pub returns-clause-runs : goal.returns-clause-runs
returns-clause-runs c = λ start a.
    let old : Repair = c.args.self.now in
    let n = next-taken (code_of old) (inputs_of old) start a.stack (view_under c.args.below old) (units_on c.args.below old) c.args.until a.now in
    let both : Some (stamp_of_number n.end) ≡ Some c.in-Some.end = sym n.now_is ∙ c.in-Some.is in
    let same : stamp_of_number n.end ≡ c.in-Some.end = cc in
    let f = c.in_ok-cut_until.ensures in
    let g = c.set_steps.ensures in
    let t1 : Tables = c.cut_until.new.self.tables in
    let l = f.all (through a.now.placed.done a.now.placed.last) a.now.left a.now.tail
    (lies-left (code_of old) (inputs_of old) start a.stack (view_under c.args.below old) (units_on c.args.below old) c.args.until a.now)
    (first-is (code_of old) (inputs_of old) start a.stack (view_under c.args.below old) (units_on c.args.below old) c.args.until a.now ∙ ap (λ (s : Stamp). Some s.0) same) in
    let nodes : c.set_steps.new.self.trace.nodes ≡ with_steps n.end 0 t1.trace.nodes = g.nodes ∙ ap (λ (s : Stamp). with_steps s.0 0 t1.trace.nodes) (sym same) in
    runs-as (code_of old) (inputs_of old) start (units_on c.args.below old)
    (record {
      tables = c.set_steps.new.self;
      heap = c.cut_until.new.self.heap;
      spent = old.running.now.spent;
      cursor = n.end;
      limit = Some c.args.until;
      frames =
          (view_under c.args.below old).frames;
    })
    (record (with_parts old (record { tables = c.set_steps.new.self; heap = c.cut_until.new.self.heap; spent = c.cut_until.new.self.spent }) c.bring_back.new.self old.frames.now) {
      cursor =
          c.in-Some.end;
      limit = Some c.args.until;
    })
    (now-leave (code_of old) (inputs_of old) start a.stack (view_under c.args.below old)
    (units_on c.args.below old) c.args.until a.now t1 c.set_steps.new.self c.cut_until.new.self.heap a.over l f.bases f.blocks (f.has (code_of old) (inputs_of old)) f.kept
    nodes g.mods g.queue g.kept) refl refl c.bring_back.ensures.back
    (ap (λ (a : Pile). record {
      tables = c.set_steps.new.self;
      heap = c.cut_until.new.self.heap;
      spent = c.cut_until.new.self.spent;
      cursor = c.in-Some.end.0;
      limit = Some c.args.until;
      frames =
          frames_in a (reverse old.frames.now.items);
    }) c.bring_back.ensures.aside
    ∙ (ap (λ (k : ℕ). record {
      tables = c.set_steps.new.self;
      heap = c.cut_until.new.self.heap;
      spent = k;
      cursor = c.in-Some.end.0;
      limit = Some c.args.until;
      frames =
          (view_under c.args.below old).frames;
    }) f.spent
    ∙ ap (λ (s : Stamp). record {
      tables = c.set_steps.new.self;
      heap = c.cut_until.new.self.heap;
      spent = old.running.now.spent;
      cursor = s.0;
      limit = Some c.args.until;
      frames =
          (view_under c.args.below old).frames;
    }) (sym same)))

pub returns-clause-pays : goal.returns-clause-pays
returns-clause-pays c =
    let a : Account = owing (account c.args.self.now) in
    let f = c.in_ok-cut_until.ensures in
    let g = c.set_steps.ensures in
    let d = due-steps c.cut_until.new.self.tables c.set_steps.new.self _ _ g.nodes g.mods g.queue in
    let t = f.touched in
    let u = g.touched in
    stays a (record (account c.args.self.now) { tables = c.set_steps.new.self; cursor = c.in-Some.end.0; spent = c.cut_until.new.self.spent }) (let l = f.looks in omega (arith, d, l))
    (omega (arith, t, u)) f.spent (ap (λ m. m.differed) g.mods ∙ f.differed)
    (counts-then a.tables c.cut_until.new.self.tables c.set_steps.new.self f.counts g.counts) (omega arith)
    (λ o n m r. came-steps o n m c.in-Some.end.0 0 c.cut_until.new.self.tables.trace.nodes c.set_steps.new.self.trace.nodes g.nodes
    (came-cut-to o n m a.cursor c.in-Some.end.0 a.tables.trace.nodes c.cut_until.new.self.tables.trace.nodes f.cuts f.first f.kept.step.whole.order.distinct r))

pub returns-clause-anew : goal.returns-clause-anew
returns-clause-anew c = λ none. has-limit c.args.self.now.limit c.in-Some.end c.in-Some.is none
