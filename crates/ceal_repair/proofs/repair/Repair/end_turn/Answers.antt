use Rattle.std.proofs.Common.{◌≡◌, inr, None, Some, reverse, sym, ap, ◌∙◌}
use Rattle.ceal_code.specs.Stacks.{aside_in}
use Rattle.ceal_order.specs.declared.stamp.Stamp.{Stamp}
use Rattle.ceal_repair.proofs.Propagation.TurnEnd.{now-there, lies-ended, limit-ended, first-ended, turn-ends}
use Rattle.ceal_repair.specs.Entries.{stamp_of_number}
use Rattle.ceal_repair.specs.Frames.{frames_in}
use Rattle.ceal_repair.specs.Moment.{through}
use Rattle.ceal_repair.specs.Repairs.{code_of, inputs_of, view}
use Rattle.ceal_repair.specs.declared.repair.Repair.{Repair}
use Rattle.ceal_repair.proofs.Runs.Paid.{stays}
use Rattle.std.proofs.Common.{arith}
use Rattle.ceal_repair.specs.Looks.{Account}
use Rattle.ceal_repair.specs.Repairs.{account}
use Rattle.ceal_repair.proofs.Runs.Nearness.{came-cut}
use Rattle.ceal_repair.proofs.repair.Repair.end_turn.Goals as goal

pub unreachable-requires : goal.unreachable-requires
unreachable-requires c =
    let old : Repair = c.args.self.now in
    let q = c.requires.over in
    let now = now-there old q.0 q.1 q.2 q.3 q.4 q.5 q.6 in
    let none = ap (λ fs. frames_in (aside_in old.stack.now) (reverse fs)) q.6.last in
    let both : Some (stamp_of_number q.5.spot.end) ≡ None = sym (limit-ended (code_of old) (inputs_of old) q.0 q.1 q.2 q.3 q.4 q.5 q.6.stack (view old) now none) ∙ c.in-None.is in
    cc

-- what is left over inside the read is between the cursor and its end
pub cut_until-requires-clause-lies : goal.cut_until-requires-clause-lies
cut_until-requires-clause-lies c =
    let old : Repair = c.args.self.now in
    let q = c.requires.over in
    let now = now-there old q.0 q.1 q.2 q.3 q.4 q.5 q.6 in
    let none = ap (λ fs. frames_in (aside_in old.stack.now) (reverse fs)) q.6.last in
    let both : Some (stamp_of_number q.5.spot.end) ≡ Some c.in-Some.end = sym (limit-ended (code_of old) (inputs_of old) q.0 q.1 q.2 q.3 q.4 q.5 q.6.stack (view old) now none) ∙ c.in-Some.is in
    let same : stamp_of_number q.5.spot.end ≡ c.in-Some.end = cc in (
      through now.placed.done now.placed.last,
      now.left,
      now.tail,
      lies-ended (code_of old) (inputs_of old) q.0 q.1 q.2 q.3 q.4 q.5 q.6.stack (view old) now none,
      inr (first-ended (code_of old) (inputs_of old) q.0 q.1 q.2 q.3 q.4 q.5 q.6.stack (view old) now none ∙ ap (λ (s : Stamp). Some s.0) same),
    )

-- what was left over is revoked, and the cursor is on the end of the read
pub returns-clause-ends : goal.returns-clause-ends
returns-clause-ends c = λ f args o before start b z.
    let old : Repair = c.args.self.now in
    let now = now-there old f args o before start b z in
    let none = ap (λ fs. frames_in (aside_in old.stack.now) (reverse fs)) z.last in
    let both : Some (stamp_of_number b.spot.end) ≡ Some c.in-Some.end = sym (limit-ended (code_of old) (inputs_of old) f args o before start b z.stack (view old) now none) ∙ c.in-Some.is in
    let same : stamp_of_number b.spot.end ≡ c.in-Some.end = cc in
    let e = c.in_ok-cut_until.ensures in
    turn-ends (code_of old) (inputs_of old) f args o before start b z.stack (view old) now none z.over c.cut_until.new.self
    (e.all (through now.placed.done now.placed.last) now.left now.tail (lies-ended (code_of old) (inputs_of old) f args o before start b z.stack (view old) now none)
    (first-ended (code_of old) (inputs_of old) f args o before start b z.stack (view old) now none ∙ ap (λ (s : Stamp). Some s.0) same))
    e.kept e.blocks (e.has (code_of old) (inputs_of old)) e.spent

pub returns-clause-pays : goal.returns-clause-pays
returns-clause-pays c =
    let a : Account = account c.args.self.now in
    let f = c.in_ok-cut_until.ensures in
    let t = f.touched in
    stays a (record a { tables = c.cut_until.new.self.tables; spent = c.cut_until.new.self.spent }) f.looks (omega (arith, t)) f.spent f.differed f.counts (omega arith)
    (λ o n m r. came-cut o n m a.cursor a.tables.trace.nodes c.cut_until.new.self.tables.trace.nodes f.cuts.front (f.cuts.back o) r)

pub returns-clause-late : goal.returns-clause-late
returns-clause-late c =
    let old : Repair = c.args.self.now in
    let q = c.requires.over in
    let now = now-there old q.0 q.1 q.2 q.3 q.4 q.5 q.6 in
    let none = ap (λ fs. frames_in (aside_in old.stack.now) (reverse fs)) q.6.last in
    let both : Some (stamp_of_number q.5.spot.end) ≡ Some c.in-Some.end = sym (limit-ended (code_of old) (inputs_of old) q.0 q.1 q.2 q.3 q.4 q.5 q.6.stack (view old) now none) ∙ c.in-Some.is in
    let same : stamp_of_number q.5.spot.end ≡ c.in-Some.end = cc in
    (c.in_ok-cut_until.ensures.all (through now.placed.done now.placed.last) now.left now.tail
    (lies-ended (code_of old) (inputs_of old) q.0 q.1 q.2 q.3 q.4 q.5 q.6.stack (view old) now none)
    (first-ended (code_of old) (inputs_of old) q.0 q.1 q.2 q.3 q.4 q.5 q.6.stack (view old) now none ∙ ap (λ (s : Stamp). Some s.0) same)).late
