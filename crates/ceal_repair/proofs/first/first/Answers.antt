use Rattle.std.proofs.Common.{◌≡◌, sym, subst, ap, ◌∙◌, rules}
use Rattle.ceal_repair.specs.Kept.{Kept}
use Rattle.ceal_repair.proofs.Runs.RunEnd.{first-done, first-out}
use Rattle.ceal_repair.proofs.Runs.Paid.{first-pays, pays-settled}
use Rattle.ceal_repair.proofs.Propagation.KeptRun.{idle-first}
use Rattle.ceal_repair.proofs.Runs.RunStart.{begun}
use Rattle.ceal_repair.proofs.first.first.Goals as goal
use Rattle.ceal_repair.specs.Moment.{first_start}
use Rattle.ceal_repair.specs.declared.running.Running.{Running}
use Rattle.ceal_repair.specs.declared.tables.Tables.{Tables}

-- nothing has run yet, so what is to come is the run of the call from its beginning
pub complete-requires : goal.complete-requires
complete-requires c =
    let r = c.at_root-repair.ensures in
    let e = c.in_ok-running.ensures in
    let runs = begun c.args.code.now c.args.inputs.now c.args.function c.args.args.now c.requires.fits (c.chosen_law.ensures.law c.args.code.now)
    (c.known_law.ensures.law c.args.code.now) c.in_ok-running.running e.nodes e.queue
    e.kept e.heap e.bases e.spent c.at_root-repair.result r.code r.inputs r.view r.heap r.spent r.frames r.limit (r.stack ∙ c.in_ok-room.ensures.started) r.cursor in
    record { runs = (first_start c.args.code.now c.args.inputs.now c.args.function c.args.args.now, runs) }

-- the run ended within the fuel, so its trace is the first one of the call
pub returns-in-Ok-true : goal.returns-in-Ok-true
returns-in-Ok-true c =
    let r = c.at_root-repair.ensures in
    let e = c.in_ok-running.ensures in
    let runs = begun c.args.code.now c.args.inputs.now c.args.function c.args.args.now c.requires.fits (c.chosen_law.ensures.law c.args.code.now)
    (c.known_law.ensures.law c.args.code.now) c.in_ok-running.running e.nodes e.queue
    e.kept e.heap e.bases e.spent c.at_root-repair.result r.code r.inputs r.view r.heap r.spent r.frames r.limit (r.stack ∙ c.in_ok-room.ensures.started) r.cursor in
    let back : c.running-3-1.given.0 ≡ c.complete.new.repair.running.now = search (rules, r.place, c.in-Ok-true.ensures.call.place) in
    let done = rw c.in-Ok-true.field-0-test at (c.in-Ok-true.ensures.done (first_start c.args.code.now c.args.inputs.now c.args.function c.args.args.now) runs) in
    let same = c.in-Ok-true.ensures.call in
    record {
      first =
          first-done c.args.code.now c.args.inputs.now c.args.function c.args.args.now c.requires.fits (c.chosen_law.ensures.law c.args.code.now) c.complete.new.repair (same.code ∙ r.code)
          (same.inputs ∙ r.inputs) c.args.fuel
          done.0 done.1 (record { tables = c.running-3-1.given.0.tables; heap = c.release_revoked.new.self; spent = c.running-3-1.given.0.spent }) (ap (λ (run : Running). run.tables) back)
          (ap (λ (run : Running). run.spent) back) (rw back at c.release_revoked.ensures.released) c.release_revoked.ensures.slots
          (first-pays c.in_ok-running.running e.nodes e.queue e.looks e.spent c.complete.new.repair.running.now
          (record { tables = c.running-3-1.given.0.tables; heap = c.release_revoked.new.self; spent = c.running-3-1.given.0.spent }) c.at_root-repair.result.running.now r.view r.spent
          (ap (λ (run : Running). run.tables) back) (ap (λ (run : Running). run.spent) back) (pays-settled c.at_root-repair.result c.complete.new.repair (subst Kept (sym r.view) e.kept)
          (idle-first c.at_root-repair.result.stack.now.waits.aside c.at_root-repair.result.frames.now.items r.frames)
          c.in-Ok-true.ensures.pays) (c.in-Ok-true.ensures.anew r.limit).1)
          (ap (λ (run : Running). run.tables.mods.marked) back ∙ (same.marks ∙ (ap (λ (t : Tables). t.mods.marked) r.view ∙ e.unmarked)));
    }

-- the run has more steps than the fuel, so the call has no first trace within it
pub returns-in-Ok-false : goal.returns-in-Ok-false
returns-in-Ok-false c =
    let r = c.at_root-repair.ensures in
    let e = c.in_ok-running.ensures in
    let runs = begun c.args.code.now c.args.inputs.now c.args.function c.args.args.now c.requires.fits (c.chosen_law.ensures.law c.args.code.now)
    (c.known_law.ensures.law c.args.code.now) c.in_ok-running.running e.nodes e.queue
    e.kept e.heap e.bases e.spent c.at_root-repair.result r.code r.inputs r.view r.heap r.spent r.frames r.limit (r.stack ∙ c.in_ok-room.ensures.started) r.cursor in
    let done = rw c.in-Ok-false.field-0-test at (c.in-Ok-false.ensures.done (first_start c.args.code.now c.args.inputs.now c.args.function c.args.args.now) runs) in
    let same = c.in-Ok-false.ensures.call in
    record {
      first = first-out c.args.code.now c.args.inputs.now c.args.function c.args.args.now c.requires.fits (c.chosen_law.ensures.law c.args.code.now) c.complete.new.repair (same.code ∙ r.code)
          (same.inputs ∙ r.inputs) c.args.fuel done.0 done.1;
    }
