use Rattle.std.proofs.Common.{refl}
use Rattle.std.proofs.lemmas.Bool.{eq-eqb}
use Rattle.ceal_mods.specs.Mods.{cell_of}
use Rattle.ceal_repair.specs.Lists.{entries_in}
use Rattle.ceal_trace.specs.Nodes.{Timeline, stamps_in}
use Rattle.ceal_trace.specs.declared.node.Node.TheVariants.{End}
use Rattle.ceal_mods.specs.Cell.{without_read}
use Rattle.ceal_repair.proofs.TableCalls.CutKeepsTables.{read-there, read-cut-behind, read-cut-kept, end-is, stamp-of}
use Rattle.ceal_repair.proofs.TableCalls.PutKeepsTables.{bases-same}
use Rattle.std.proofs.Common.{arith, ap, ◌∙◌, length, ◌+◌}
use Rattle.std.proofs.Common.{subst}
use Rattle.ceal_repair.specs.Looks.{Grows}
use Rattle.ceal_repair.proofs.TableCalls.FewLooks.{touched-less, grows-cut, grows-then}
use Rattle.ceal_mods.specs.Mods.{Contents}
use Rattle.ceal_mods.specs.Mods.{places_of}
use Rattle.ceal_memo.specs.Memo.{Contents as Memo}
use Rattle.ceal_repair.proofs.tables.Tables.cut_read.Goals as goal

pub remove_read-requires-clause-there : goal.remove_read-requires-clause-there
remove_read-requires-clause-there c =
    rw c.hand_on.ensures.mods (read-there c.args.self.now c.requires.kept.step c.args.read.0 c.recorded-value.result.0 c.recorded-value.result.1 c.recorded-value.ensures)

pub returns-clause-bases : goal.returns-clause-bases
returns-clause-bases c = λ p.
    bases-same c.args.self.now.mods c.remove_read.new.self c.recorded-value.result.0 (without_read c.args.read.0 (cell_of c.args.self.now.mods c.recorded-value.result.0))
    (rw c.hand_on.ensures.mods at c.remove_read.ensures.cell) refl p

-- the read leaves the queue, and the next one of its place may be queued for it, which is after it
pub returns-clause-behind : goal.returns-clause-behind
returns-clause-behind c = λ s lt.
    read-cut-behind c.args.self.now c.requires.kept c.args.read.0 c.in-Some.end.0 c.recorded-value.result.0 c.recorded-value.result.1 c.recorded-value.ensures c.in-Some.ensures.finished
    c.discard.new.self c.discard-2.new.self
    (rw c.hand_on.ensures.trace at c.discard.ensures.nodes) (rw c.hand_on.ensures.trace at c.discard.ensures.others) c.discard-2.ensures.nodes c.discard-2.ensures.others c.discard.ensures.whole
    c.remove_read.new.self (rw c.hand_on.ensures.mods at c.remove_read.ensures.cell) c.remove.new.self
    (c.remove.ensures.holds (entries_in c.args.self.now.trace.nodes) (rw c.hand_on.ensures.memo c.requires.kept.step.keyed.entries))
    c.hand_on.new.self.stale c.hand_on.ensures.gone c.hand_on.ensures.more c.hand_on.ensures.only c.in-Some.ensures.behind (rw c.hand_on.ensures.trace at c.hand_on.ensures.stale)
    (rw c.hand_on.ensures.trace at c.hand_on.ensures.ahead) s lt

-- each table loses the node with its stamp
pub returns-clause-kept : goal.returns-clause-kept
returns-clause-kept c =
    let is = end-is c.args.self.now c.requires.kept c.args.read.0 c.in-Some.end.0 c.recorded-value.result.0 c.recorded-value.result.1 c.recorded-value.ensures c.in-Some.ensures.finished
    c.discard.new.self c.discard-2.new.self
    (rw c.hand_on.ensures.trace at c.discard.ensures.nodes) (rw c.hand_on.ensures.trace at c.discard.ensures.others) c.discard-2.ensures.nodes c.discard-2.ensures.others c.discard.ensures.whole
    c.remove_read.new.self (rw c.hand_on.ensures.mods at c.remove_read.ensures.cell) c.remove.new.self
    (c.remove.ensures.holds (entries_in c.args.self.now.trace.nodes) (rw c.hand_on.ensures.memo c.requires.kept.step.keyed.entries)) in
    read-cut-kept c.args.self.now c.requires.kept c.args.read.0 c.in-Some.end.0 c.recorded-value.result.0 c.recorded-value.result.1 c.recorded-value.ensures c.in-Some.ensures.finished
    c.discard.new.self c.discard-2.new.self
    (rw c.hand_on.ensures.trace at c.discard.ensures.nodes) (rw c.hand_on.ensures.trace at c.discard.ensures.others) c.discard-2.ensures.nodes c.discard-2.ensures.others c.discard.ensures.whole
    c.remove_read.new.self (rw c.hand_on.ensures.mods at c.remove_read.ensures.cell) c.remove.new.self
    (c.remove.ensures.holds (entries_in c.args.self.now.trace.nodes) (rw c.hand_on.ensures.memo c.requires.kept.step.keyed.entries))
    c.hand_on.new.self.stale c.hand_on.ensures.gone c.hand_on.ensures.more c.hand_on.ensures.only c.hand_on.ensures.woken c.discard-2.ensures.whole
    (c.discard-2.ensures.mended (End (stamp-of c.args.read.0)) c.args.read.0 is (c.discard.ensures.loose (rw c.hand_on.ensures.trace c.requires.kept.step.closed))
    (rw (eq-eqb c.args.read.0 c.args.read.0 refl) refl))
    (rw (c.order.ensures, c.hand_on.ensures.trace) at c.remove_read.ensures.follows) c.remove.ensures.gone
    (c.remove.ensures.follows (stamps_in c.args.self.now.trace.nodes) (rw c.hand_on.ensures.memo c.requires.kept.step.memo))
    (rw c.hand_on.ensures.trace at c.hand_on.ensures.stale)

pub returns-clause-looks : goal.returns-clause-looks
returns-clause-looks c =
    let a = c.remove_read.ensures.cell.looked in
    let b = ap (λ (m : Contents). m.looked) c.hand_on.ensures.mods in
    let d = c.hand_on.ensures.most in omega (arith, a, b, d)

pub returns-clause-differed : goal.returns-clause-differed
returns-clause-differed c = c.remove_read.ensures.cell.differed ∙ ap (λ (m : Contents). m.differed) c.hand_on.ensures.mods

pub returns-clause-marks : goal.returns-clause-marks
returns-clause-marks c = c.remove_read.ensures.cell.marked ∙ ap (λ (m : Contents). m.marked) c.hand_on.ensures.mods

pub returns-clause-counts : goal.returns-clause-counts
returns-clause-counts c =
    let a = c.remove_read.ensures.cell.looked in
    let b = ap (λ (m : Contents). m.looked) c.hand_on.ensures.mods in
    let d = c.remove_read.ensures.cell.differed in
    let e = ap (λ (m : Contents). m.differed) c.hand_on.ensures.mods in
    let f = c.discard.ensures.touches.no_fewer in
    let g = c.discard-2.ensures.touches.no_fewer in
    let h = ap (λ (x : Timeline). x.touched) c.hand_on.ensures.trace in
    record {
      looked = omega (arith, a, b);
      differed = omega (arith, d, e);
      touched = omega (arith, f, g, h);
      grows = λ few. subst (λ (x : Timeline). Grows x c.discard-2.new.self) c.hand_on.ensures.trace
          (grows-then c.hand_on.new.self.trace c.discard.new.self c.discard-2.new.self f g
          (grows-cut c.args.read.0 c.hand_on.new.self.trace c.discard.new.self c.discard.ensures.touches c.discard.ensures.others c.discard.ensures.spare)
          (grows-cut c.in-Some.end.0 c.discard.new.self c.discard-2.new.self c.discard-2.ensures.touches c.discard-2.ensures.others c.discard-2.ensures.spare));
      seed = c.remove.ensures.seed ∙ ap (λ (m : Memo). m.seed) c.hand_on.ensures.memo;
    }

pub returns-clause-touched : goal.returns-clause-touched
returns-clause-touched c =
    let t = touched-less c.args.read.0 c.hand_on.new.self.trace c.discard.new.self c.discard.ensures.touches c.discard.ensures.others in
    let u = touched-less c.in-Some.end.0 c.discard.new.self c.discard-2.new.self c.discard-2.ensures.touches c.discard-2.ensures.others in
    let e = ap (λ (x : Timeline). x.touched + length x.nodes) c.hand_on.ensures.trace in omega (arith, t, u, e)

-- each place has its cell still
pub returns-clause-cells : goal.returns-clause-cells
returns-clause-cells c = c.remove_read.ensures.places ∙ ap (λ (m : Contents). places_of m.cells) c.hand_on.ensures.mods

pub returns-clause-lists : goal.returns-clause-lists
returns-clause-lists c = c.remove.ensures.room ∙ ap (λ (m : Memo). length m.table.lists) c.hand_on.ensures.memo
