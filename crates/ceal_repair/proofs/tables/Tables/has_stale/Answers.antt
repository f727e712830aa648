use Rattle.std.proofs.Common.{◌≡◌, ℕ, true, false, ◌∙◌, ap, sym, arith}
use Rattle.ceal_mods.specs.Mods.{Contents}
use Rattle.ceal_order.specs.Stamps.{is_in}
use Rattle.ceal_trace.specs.Nodes.{stamps_in}
use Rattle.ceal_repair.proofs.TableCalls.BaseEdit.{looking-first, none-late, looked-more, honest-same, queue-empty}
use Rattle.ceal_repair.proofs.Lists.PartedLists.{false-of}
use Rattle.ceal_repair.proofs.TableCalls.CutKeepsTables.{unqueued-honest}
use Rattle.ceal_repair.specs.Kept.{Kept, IsHonestRecord}
use Rattle.ceal_repair.specs.declared.tables.Tables.{Tables}
use Rattle.std.proofs.Common.{length}
use Rattle.ceal_queue.specs.Queue.{Waiting}
use Rattle.ceal_repair.proofs.TableCalls.FewLooks.{counts-still, counts-then}
use Rattle.ceal_repair.proofs.tables.Tables.has_stale.Goals as goal

-- where nothing is queued all is honest
all-honest : (t : Tables) → Kept t → ((s : ℕ) → is_in s t.stale.stamps ≡ true → ⊥) → (s : ℕ) → IsHonestRecord s t
all-honest t k none s = unqueued-honest t k s (false-of (is_in s t.stale.stamps) (λ i. absurd (none s i))) (λ z i. absurd (none z i))

pub loop-looked-init : goal.loop-looked-init
loop-looked-init c = looking-first c.args.self.now c.requires.kept

pub returns-in-None-clause-honest : goal.returns-in-None-clause-honest
returns-in-None-clause-honest c = λ told s. all-honest c.loop-looked.self c.loop-looked.invariant.kept (λ r i. absurd (let clash : true ≡ false = sym i ∙ c.in-None.ensures.none r in cc)) s

pub differs-requires-clause-here : goal.differs-requires-clause-here
differs-requires-clause-here c =
    c.loop-looked.invariant.kept.step.queued c.in-Some.read.0 (c.in-Some.ensures.first (stamps_in c.loop-looked.self.trace.nodes) c.loop-looked.invariant.kept.step.stale).there

pub dismiss-requires-clause-here : goal.dismiss-requires-clause-here
dismiss-requires-clause-here c = rw c.differs.ensures.trace
    (c.loop-looked.invariant.kept.step.queued c.in-Some.read.0 (c.in-Some.ensures.first (stamps_in c.loop-looked.self.trace.nodes) c.loop-looked.invariant.kept.step.stale).there)

pub dismiss-requires-clause-first : goal.dismiss-requires-clause-first
dismiss-requires-clause-first c = rw (c.differs.ensures.trace, c.differs.ensures.queue)
    (c.in-Some.ensures.first (stamps_in c.loop-looked.self.trace.nodes) c.loop-looked.invariant.kept.step.stale).first

pub dismiss-requires-clause-honest : goal.dismiss-requires-clause-honest
dismiss-requires-clause-honest c =
    honest-same c.loop-looked.self c.differs.new.self c.in-Some.read.0 (sym c.differs.ensures.trace) (sym c.differs.ensures.cells) (c.differs.ensures.honest c.if-differs.false)

-- one read more was looked at, and it had the value of its moment
pub loop-looked-preserved : goal.loop-looked-preserved
loop-looked-preserved c =
    looked-more c.args.self.now c.loop-looked.self c.dismiss.new.self c.loop-looked._looked c.in-Some.read.0 c.loop-looked.invariant
    (c.in-Some.ensures.first (stamps_in c.loop-looked.self.trace.nodes) c.loop-looked.invariant.kept.step.stale).there c.dismiss.ensures.kept
    (c.dismiss.ensures.trace ∙ c.differs.ensures.trace) (ap (λ (m : Contents). m.cells) c.dismiss.ensures.mods ∙ c.differs.ensures.cells)
    (c.dismiss.ensures.memo ∙ c.differs.ensures.memo) c.dismiss.ensures.behind
    (let there = (c.in-Some.ensures.first (stamps_in c.loop-looked.self.trace.nodes) c.loop-looked.invariant.kept.step.stale).there in
    let a = c.differs.ensures.looks in
    let b = ap (λ (m : Contents). m.looked) c.dismiss.ensures.mods in
    let d = c.dismiss.ensures.fewer (rw c.differs.ensures.queue there) in
    let e = ap (λ (q : Waiting). length q.stamps) c.differs.ensures.queue in omega (arith, a, b, d, e))
    (let there = (c.in-Some.ensures.first (stamps_in c.loop-looked.self.trace.nodes) c.loop-looked.invariant.kept.step.stale).there in
    let a = c.differs.ensures.looks in
    let b = ap (λ (m : Contents). m.looked) c.dismiss.ensures.mods in
    let d = c.dismiss.ensures.fewer (rw c.differs.ensures.queue there) in
    let e = ap (λ (q : Waiting). length q.stamps) c.differs.ensures.queue in omega (arith, a, b, d, e))
    (ap (λ (m : Contents). m.differed) c.dismiss.ensures.mods ∙ c.differs.ensures.differed)
    (counts-then c.loop-looked.self c.differs.new.self c.dismiss.new.self c.differs.ensures.counts
    (counts-still c.differs.new.self c.dismiss.new.self c.dismiss.ensures.mods c.dismiss.ensures.trace c.dismiss.ensures.memo))
    (ap (λ (m : Contents). m.marked) c.dismiss.ensures.mods ∙ c.differs.ensures.marks)

pub returns-clause-honest : goal.returns-clause-honest
returns-clause-honest c = λ told s. all-honest c.loop-looked.self c.loop-looked.invariant.kept
    (λ r i. none-late c.args.self.now c.loop-looked.self c.loop-looked._looked c.loop-looked.invariant (omega (arith, c.loop-looked-test.false)) r i) s

pub returns-in-None-clause-looks : goal.returns-in-None-clause-looks
returns-in-None-clause-looks c = let d = c.loop-looked.invariant.looks in omega (arith, d)

pub returns-in-None-clause-idle : goal.returns-in-None-clause-idle
returns-in-None-clause-idle c = λ told. c.loop-looked.invariant.looks

pub returns-then-differs-clause-looks : goal.returns-then-differs-clause-looks
returns-then-differs-clause-looks c =
    let a = c.differs.ensures.looks in
    let d = c.loop-looked.invariant.looks in omega (arith, a, d)

pub returns-clause-looks : goal.returns-clause-looks
returns-clause-looks c = let d = c.loop-looked.invariant.looks in omega (arith, d)

pub returns-clause-idle : goal.returns-clause-idle
returns-clause-idle c = λ told. c.loop-looked.invariant.looks

pub returns-in-None-clause-differed : goal.returns-in-None-clause-differed
returns-in-None-clause-differed c = c.loop-looked.invariant.differed

pub returns-then-differs-clause-differed : goal.returns-then-differs-clause-differed
returns-then-differs-clause-differed c = c.differs.ensures.differed ∙ c.loop-looked.invariant.differed

pub returns-clause-differed : goal.returns-clause-differed
returns-clause-differed c = c.loop-looked.invariant.differed

pub returns-in-None-clause-none : goal.returns-in-None-clause-none
returns-in-None-clause-none c = λ told. queue-empty c.loop-looked.self.stale.stamps (λ r i. absurd (let clash : true ≡ false = sym i ∙ c.in-None.ensures.none r in cc))

pub returns-clause-none : goal.returns-clause-none
returns-clause-none c = λ told. queue-empty c.loop-looked.self.stale.stamps
    (λ r i. none-late c.args.self.now c.loop-looked.self c.loop-looked._looked c.loop-looked.invariant (omega (arith, c.loop-looked-test.false)) r i)

pub returns-in-None-clause-marks : goal.returns-in-None-clause-marks
returns-in-None-clause-marks c = c.loop-looked.invariant.marks

pub returns-then-differs-clause-marks : goal.returns-then-differs-clause-marks
returns-then-differs-clause-marks c = c.differs.ensures.marks ∙ c.loop-looked.invariant.marks

pub returns-clause-marks : goal.returns-clause-marks
returns-clause-marks c = c.loop-looked.invariant.marks

pub returns-in-None-clause-counts : goal.returns-in-None-clause-counts
returns-in-None-clause-counts c = c.loop-looked.invariant.counts

pub returns-then-differs-clause-counts : goal.returns-then-differs-clause-counts
returns-then-differs-clause-counts c = counts-then c.args.self.now c.loop-looked.self c.differs.new.self c.loop-looked.invariant.counts c.differs.ensures.counts

pub returns-clause-counts : goal.returns-clause-counts
returns-clause-counts c = c.loop-looked.invariant.counts
