use Rattle.std.proofs.Common.{◌≡◌, ◌≢◌, ◌≤◌, false, true, sym, ap, subst, ◌∙◌, arith, rules}
use Rattle.ceal_heap.specs.Heap.{next}
use Rattle.ceal_repair.proofs.Propagation.KeptRun.{has-come-in, idle-first}
use Rattle.ceal_repair.proofs.Propagation.SlicesOfRun.{since, begun-in, is-sliced, front-stays, departs-so, is-repaired}
use Rattle.ceal_repair.proofs.Runs.Paid.{distance-as, pays-settled, root-late}
use Rattle.std.proofs.Common.{Some}
use Rattle.ceal_order.specs.Stamps.{head_of}
use Rattle.ceal_repair.specs.Kept.{Kept}
use Rattle.ceal_repair.specs.Looks.{LooksAtQueued}
use Rattle.ceal_trace.specs.Nodes.{stamps_in}
use Rattle.ceal_repair.specs.Propagation.{Propagated}
use Rattle.ceal_repair.specs.Turning.{since_begun}
use Rattle.ceal_repair.specs.declared.advance.Progress.TheVariants.{Spent}
use Rattle.ceal_repair.specs.declared.running.Running.{Running}
use Rattle.ceal_repair.specs.declared.tables.Tables.{Tables}
use Rattle.ceal_repair.proofs.advance.advance.Goals as goal

pub turns-requires-clause-comes : goal.turns-requires-clause-comes
turns-requires-clause-comes c =
    let q = c.requires.part in
    let e = c.at_root-repair.ensures in (
      q.0,
      q.1,
      since c.args.code.now c.args.inputs.now q.0 q.1 c.args.fuel q.2 c.args.running.now q.3,
      c.args.running.now,
      begun-in c.args.code.now c.args.inputs.now q.0 q.1 c.args.fuel q.2 c.args.running.now q.3 c.at_root-repair.result e.code e.inputs e.view e.heap e.spent,
    )

pub turns-requires-clause-idle : goal.turns-requires-clause-idle
turns-requires-clause-idle c = idle-first c.at_root-repair.result.stack.now.waits.aside c.at_root-repair.result.frames.now.items c.at_root-repair.ensures.frames

-- the turns continue a repair of the call that has begun, and what they end with is a slice of it
pub returns-clause-sliced : goal.returns-clause-sliced
returns-clause-sliced c = λ f args r part.
    let e = c.at_root-repair.ensures in
    let t = c.in_ok-progress.ensures in
    let code = c.args.code.now in
    let inputs = c.args.inputs.now in
    let o = since code inputs f args c.args.fuel r c.args.running.now part in
    let same : c.turns.new.self.running.now ≡ c.running-1.given.0 = search (rules, e.place, t.call.place) in
    let come = begun-in code inputs f args c.args.fuel r c.args.running.now part c.at_root-repair.result e.code e.inputs e.view e.heap e.spent in
    let ended = subst (λ z. Propagated c.in_ok-progress.progress code inputs f args c.args.reads c.args.fuel o c.args.running.now z) same
    (rw (e.code, e.inputs) at (t.ended f args o c.args.running.now come)) in
    let few : c.in_ok-progress.progress ≢ Spent → c.running-1.given.0.spent ≤ c.args.fuel = λ n. subst (λ (z : Running). z.spent ≤ c.args.fuel) same (t.within n (omega (arith, part.few, e.spent))) in
    is-sliced code inputs f args c.args.fuel r c.args.running.now part c.in_ok-progress.progress c.args.running.now c.running-1.given.0 c.args.reads c.requires.some few ended

-- the same from a finished run, whose repair begins here
pub returns-clause-repaired : goal.returns-clause-repaired
returns-clause-repaired c = λ f args l kept none.
    let e = c.at_root-repair.ensures in
    let t = c.in_ok-progress.ensures in
    let code = c.args.code.now in
    let inputs = c.args.inputs.now in
    let o = since_begun code inputs l (next c.args.running.now.heap) in
    let same : c.turns.new.self.running.now ≡ c.running-1.given.0 = search (rules, e.place, t.call.place) in
    let come = has-come-in code inputs f args c.args.fuel l c.args.running.now kept c.at_root-repair.result e.code e.inputs e.view e.heap (e.spent ∙ none) in
    let ended = subst (λ z. Propagated c.in_ok-progress.progress code inputs f args c.args.reads c.args.fuel o c.args.running.now z) same
    (rw (e.code, e.inputs) at (t.ended f args o c.args.running.now come)) in
    is-repaired code inputs f args c.args.reads c.args.fuel l c.args.running.now kept c.args.running.now c.running-1.given.0 c.in_ok-progress.progress ended

-- the nodes at the beginning agree with the walk, and the turns only add to them
pub returns-clause-front : goal.returns-clause-front
returns-clause-front c = λ n.
    let q = c.requires.part in
    let e = c.at_root-repair.ensures in
    let t = c.in_ok-progress.ensures in
    let code = c.args.code.now in
    let inputs = c.args.inputs.now in
    let o = since code inputs q.0 q.1 c.args.fuel q.2 c.args.running.now q.3 in
    let same : c.turns.new.self.running.now ≡ c.running-1.given.0 = search (rules, e.place, t.call.place) in
    let come = begun-in code inputs q.0 q.1 c.args.fuel q.2 c.args.running.now q.3 c.at_root-repair.result e.code e.inputs e.view e.heap e.spent in
    let ended = subst (λ z. Propagated c.in_ok-progress.progress code inputs q.0 q.1 c.args.reads c.args.fuel o c.args.running.now z) same
    (rw (e.code, e.inputs) at (t.ended q.0 q.1 o c.args.running.now come)) in
    front-stays code inputs q.0 q.1 c.args.reads c.args.fuel o c.args.running.now c.running-1.given.0 c.in_ok-progress.progress n ended

-- so do they where some depart
pub returns-clause-departs : goal.returns-clause-departs
returns-clause-departs c = λ n.
    let q = c.requires.part in
    let e = c.at_root-repair.ensures in
    let t = c.in_ok-progress.ensures in
    let code = c.args.code.now in
    let inputs = c.args.inputs.now in
    let o = since code inputs q.0 q.1 c.args.fuel q.2 c.args.running.now q.3 in
    let same : c.turns.new.self.running.now ≡ c.running-1.given.0 = search (rules, e.place, t.call.place) in
    let come = begun-in code inputs q.0 q.1 c.args.fuel q.2 c.args.running.now q.3 c.at_root-repair.result e.code e.inputs e.view e.heap e.spent in
    let ended = subst (λ z. Propagated c.in_ok-progress.progress code inputs q.0 q.1 c.args.reads c.args.fuel o c.args.running.now z) same
    (rw (e.code, e.inputs) at (t.ended q.0 q.1 o c.args.running.now come)) in
    departs-so code inputs q.0 q.1 c.args.reads c.args.fuel o c.args.running.now c.running-1.given.0 c.in_ok-progress.progress n ended

pub returns-clause-distance : goal.returns-clause-distance
returns-clause-distance c =
    let e = c.at_root-repair.ensures in
    let t = c.in_ok-progress.ensures in
    let same : c.turns.new.self.running.now ≡ c.running-1.given.0 = search (rules, e.place, t.call.place) in
    let none = idle-first c.at_root-repair.result.stack.now.waits.aside c.at_root-repair.result.frames.now.items e.frames in
    distance-as c.at_root-repair.result.running.now c.args.running.now c.turns.new.self.running.now c.running-1.given.0 e.view e.spent (ap (λ (z : Running). z.tables) same)
    (ap (λ (z : Running). z.spent) same) (pays-settled c.at_root-repair.result c.turns.new.self (subst Kept (sym e.view) c.requires.part.3.stands.kept) none t.pays)

-- what is queued is a read, and so after the root
pub turns-requires-clause-late : goal.turns-requires-clause-late
turns-requires-clause-late c =
    let e = c.at_root-repair.ensures in
    root-late c.at_root-repair.result.running.now.tables (subst Kept (sym e.view) c.requires.part.3.stands.kept) c.at_root-repair.result.cursor.0
    (subst (λ (t : Tables). head_of (stamps_in t.trace.nodes) ≡ Some c.at_root-repair.result.cursor.0) (sym e.view) e.cursor)

-- where there was memory for all, the turns have no error
pub returns-in_err-progress-clause-sure : goal.returns-in_err-progress-clause-sure
returns-in_err-progress-clause-sure c = λ f args r part honest.
    let e = c.at_root-repair.ensures in
    let come = begun-in c.args.code.now c.args.inputs.now f args c.args.fuel r c.args.running.now part c.at_root-repair.result e.code e.inputs e.view e.heap e.spent in
    absurd (let no : false ≡ true =
    c.in_err-progress.ensures.sure f args (since c.args.code.now c.args.inputs.now f args c.args.fuel r c.args.running.now part) c.args.running.now come (rw (e.code, e.inputs) honest) in cc)

pub returns-clause-marks : goal.returns-clause-marks
returns-clause-marks c =
    let e = c.at_root-repair.ensures in
    let t = c.in_ok-progress.ensures in
    let same : c.turns.new.self.running.now ≡ c.running-1.given.0 = search (rules, e.place, t.call.place) in
    ap (λ (z : Running). z.tables.mods.marked) (sym same) ∙ (t.call.marks ∙ ap (λ (d : Tables). d.mods.marked) e.view)

-- where no read is stale the queue is looked at
pub returns-clause-idle : goal.returns-clause-idle
returns-clause-idle c = λ f args r part honest.
    let e = c.at_root-repair.ensures in
    let t = c.in_ok-progress.ensures in
    let same : c.turns.new.self.running.now ≡ c.running-1.given.0 = search (rules, e.place, t.call.place) in
    let come = begun-in c.args.code.now c.args.inputs.now f args c.args.fuel r c.args.running.now part c.at_root-repair.result e.code e.inputs e.view e.heap e.spent in
    let idle = t.idle f args (since c.args.code.now c.args.inputs.now f args c.args.fuel r c.args.running.now part) c.args.running.now come (rw (e.code, e.inputs) honest) in
    subst (λ (z : Running). LooksAtQueued c.args.running.now.tables z.tables) same (subst (λ (d : Tables). LooksAtQueued d c.turns.new.self.running.now.tables) e.view idle)
