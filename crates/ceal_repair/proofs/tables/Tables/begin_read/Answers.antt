use Rattle.std.proofs.Common.{◌≡◌, ◌<◌, ℕ, true, List, refl, sym, ap, subst, ◌∙◌}
use Rattle.ceal_base.specs.declared.word.Word.{Word}
use Rattle.ceal_memo.specs.Keys.{ReadKey, OfRead}
use Rattle.ceal_memo.specs.Memo.{Contents, Holds, IsOf, with_key}
use Rattle.ceal_repair.specs.Lists.{entries_in}
use Rattle.ceal_mods.specs.Mods.{cell_of}
use Rattle.ceal_trace.specs.Nodes.{Entry, Timeline, stamps_in, has_node, position}
use Rattle.ceal_trace.specs.declared.node.Node.TheVariants.{Read}
use Rattle.ceal_repair.proofs.QueueCover.NodeChanges.{read-has, cell-same}
use Rattle.ceal_repair.proofs.TableCalls.PutKeepsTables.{read-kept, is-free, no-entry, bases-same, tables}
use Rattle.ceal_repair.proofs.TableCalls.ContentAfter.{value-over}
use Rattle.ceal_repair.proofs.TableCalls.CallsKeepCover.{behind-put}
use Rattle.ceal_mods.specs.Cell.{with_read}
use Rattle.ceal_mods.specs.declared.cell.Cell.{Cell}
use Rattle.std.proofs.Common.{arith, length}
use Rattle.std.proofs.Common.{◌≤◌, ◌+◌}
use Rattle.std.specs.Prelude.{max}
use Rattle.ceal_order.specs.Stamps.{room_beyond}
use Rattle.ceal_repair.proofs.TableCalls.FewLooks.{touched-more, grows-put}
use Rattle.ceal_queue.specs.Queue.{Waiting}
use Rattle.ceal_mods.specs.Mods.{places_of, with_place}
use Rattle.ceal_base.specs.declared.word.Place.{Place}
use Rattle.ceal_repair.proofs.tables.Tables.begin_read.Goals as goal

pub add_read_in-requires-clause-absent : goal.add_read_in-requires-clause-absent
add_read_in-requires-clause-absent c =
    (is-free c.begin_read-read.result.0 c.value_behind-value.new.self c.value_behind-value.ensures.kept.step c.begin_read-read.ensures.inserted.new c.key.inside.place).1

pub add_read_in-requires-clause-slot : goal.add_read_in-requires-clause-slot
add_read_in-requires-clause-slot c = rw c.value_behind-value.ensures.cells c.slot-at.ensures

pub add-requires-clause-absent : goal.add-requires-clause-absent
add-requires-clause-absent c = no-entry c.begin_read-read.result.0 c.value_behind-value.new.self c.value_behind-value.ensures.kept.step c.begin_read-read.ensures.inserted.new

-- a read changes no base
pub returns-clause-bases : goal.returns-clause-bases
returns-clause-bases c = λ p.
    bases-same c.value_behind-value.new.self.mods c.add_read_in.new.self c.key.inside.place
    (with_read (stamps_in c.begin_read-read.new.self.nodes) c.begin_read-read.result.0 (cell_of c.value_behind-value.new.self.mods c.key.inside.place))
    (rw c.order.ensures at c.in_ok-add_read_in.ensures.ok) refl p
    ∙ ap (λ (x : Cell). x.base) (cell-same p c.value_behind-value.new.self.mods c.args.self.now.mods c.value_behind-value.ensures.cells)

here : (after : ℕ) (a b : Timeline) (nodes : List Entry) → a ≡ b → b.nodes ≡ nodes → has_node after nodes ≡ true → has_node after a.nodes ≡ true
here after a b nodes e f h = rw (e, f) h

further : (after r : ℕ) (a b : Timeline) (nodes : List Entry) → a ≡ b → b.nodes ≡ nodes → position after nodes < position r nodes → position after a.nodes < position r a.nodes
further after r a b nodes e f h = rw (e, f) h

-- the new read is not stale, so what was queued is what is queued
pub returns-clause-behind : goal.returns-clause-behind
returns-clause-behind c = λ late r i.
    behind-put c.args.after.0 c.begin_read-read.result.0
    (Read c.key.inside.place c.value_behind-value.result c.key.inside.unit c.key.inside.var c.in_ok-args.args) c.value_behind-value.new.self.trace.nodes c.begin_read-read.new.self.nodes
    c.begin_read-read.ensures.inserted
    (here c.args.after.0 c.value_behind-value.new.self.trace c.reserve.new.self c.args.self.now.trace.nodes c.value_behind-value.ensures.trace c.reserve.ensures.nodes c.requires.here)
    r (read-has r c.value_behind-value.new.self.trace.nodes (c.value_behind-value.ensures.kept.step.queued r i))
    (further c.args.after.0 r c.value_behind-value.new.self.trace c.reserve.new.self c.args.self.now.trace.nodes c.value_behind-value.ensures.trace c.reserve.ensures.nodes
    (late r (rw c.value_behind-value.ensures.queue at i)))

-- the order has one stamp more, along which all tables still lie
pub returns-clause-kept : goal.returns-clause-kept
returns-clause-kept c =
    let s : ℕ = c.begin_read-read.result.0 in
    let key : ReadKey = record { place = c.key.inside.place; unit = c.key.inside.unit; var = c.key.inside.var; args = c.in_ok-args.args } in
    let same : key ≡ c.args.key.now =
    ap (λ (ws : List Word). record { place = c.key.inside.place; unit = c.key.inside.unit; var = c.key.inside.var; args = ws }) c.in_ok-args.ensures.equal ∙ c.key.view_is in
    read-kept c.value_behind-value.new.self c.value_behind-value.ensures.kept c.args.after.0 s
    (Read c.key.inside.place c.value_behind-value.result c.key.inside.unit c.key.inside.var c.in_ok-args.args) c.begin_read-read.new.self
    (here c.args.after.0 c.value_behind-value.new.self.trace c.reserve.new.self c.args.self.now.trace.nodes c.value_behind-value.ensures.trace c.reserve.ensures.nodes c.requires.here)
    c.begin_read-read.ensures.nodes c.begin_read-read.ensures.inserted c.begin_read-read.ensures.whole c.begin_read-read.ensures.closed key c.value_behind-value.result refl
    c.add_read_in.new.self c.add.new.self (rw c.order.ensures at c.in_ok-add_read_in.ensures.ok)
    (subst (λ (k : ReadKey). Holds c.add.new.self (with_key s (OfRead k) (entries_in c.value_behind-value.new.self.trace.nodes))) (sym same)
    (c.in_ok-add.ensures.ok (OfRead c.args.key.now) (entries_in c.value_behind-value.new.self.trace.nodes) (subst (λ (m : Contents). IsOf m (OfRead c.args.key.now) c.args.hashed)
    (sym c.value_behind-value.ensures.memo) c.requires.hashed) c.value_behind-value.ensures.kept.step.keyed.entries))
    (c.value_behind-value.ensures.value ∙ sym (value-over c.value_behind-value.new.self
    (tables c.reserve.new.self c.args.self.now.mods c.args.self.now.stale c.args.self.now.memo) c.args.after.0 c.value_behind-value.ensures.trace c.value_behind-value.ensures.cells
    c.key.inside.place))
    (λ r i. further c.args.after.0 r c.value_behind-value.new.self.trace c.reserve.new.self c.args.self.now.trace.nodes c.value_behind-value.ensures.trace c.reserve.ensures.nodes
    (c.requires.late r (rw c.value_behind-value.ensures.queue at i)))
    (rw c.order.ensures at c.add_read_in.ensures.follows) (rw c.order-2.ensures at c.add.ensures.follows)
    (c.follows_still-2.ensures.inserted s c.value_behind-value.new.self.stale (stamps_in c.value_behind-value.new.self.trace.nodes)
    (stamps_in c.begin_read-read.new.self.nodes) c.value_behind-value.ensures.kept.step.stale c.begin_read-read.ensures.inserted.others.stamps)

pub returns-clause-looks : goal.returns-clause-looks
returns-clause-looks c =
    let change = rw c.order.ensures at c.in_ok-add_read_in.ensures.ok in
    let a = change.looked in
    let b = c.value_behind-value.ensures.looks in
    let e = ap (λ (q : Waiting). length q.stamps) c.value_behind-value.ensures.queue in omega (arith, a, b, e)

pub returns-clause-differed : goal.returns-clause-differed
returns-clause-differed c =
    let change = rw c.order.ensures at c.in_ok-add_read_in.ensures.ok in
    change.differed ∙ c.value_behind-value.ensures.differed

pub returns-clause-marks : goal.returns-clause-marks
returns-clause-marks c =
    let change = rw c.order.ensures at c.in_ok-add_read_in.ensures.ok in
    change.marked ∙ c.value_behind-value.ensures.marks

pub returns-clause-counts : goal.returns-clause-counts
returns-clause-counts c =
    let change = rw c.order.ensures at c.in_ok-add_read_in.ensures.ok in
    let k = c.value_behind-value.ensures.counts in
    let a = change.looked in
    let b = k.looked in
    let d = change.differed in
    let e = k.differed in
    let f = c.begin_read-read.ensures.touches.no_fewer in
    let g = k.touched in
    let h = c.reserve.ensures.untouched in
    record {
      looked = omega (arith, a, b);
      differed = omega (arith, d, e);
      touched = omega (arith, f, g, h);
      grows = λ few. grows-put c.begin_read-read.result.0 c.args.self.now.trace c.value_behind-value.new.self.trace c.begin_read-read.new.self
          (ap (λ (x : Timeline). x.nodes) c.value_behind-value.ensures.trace ∙ c.reserve.ensures.nodes)
          (ap (λ (x : Timeline). x.touched) c.value_behind-value.ensures.trace ∙ c.reserve.ensures.untouched)
          (subst (λ (x : Timeline). x.spare ≤ max c.args.self.now.trace.spare (1 + room_beyond)) (sym c.value_behind-value.ensures.trace) c.in_ok-reserve.ensures.few)
          c.begin_read-read.ensures.touches c.begin_read-read.ensures.inserted.others c.begin_read-read.ensures.spare few;
      seed = c.add.ensures.seed ∙ ap (λ (m : Contents). m.seed) c.value_behind-value.ensures.memo;
    }

pub returns-clause-touched : goal.returns-clause-touched
returns-clause-touched c =
    touched-more c.begin_read-read.result.0 c.args.self.now.trace c.value_behind-value.new.self.trace c.begin_read-read.new.self
    (ap (λ (x : Timeline). x.nodes) c.value_behind-value.ensures.trace ∙ c.reserve.ensures.nodes)
    (ap (λ (x : Timeline). x.touched) c.value_behind-value.ensures.trace ∙ c.reserve.ensures.untouched)
    c.begin_read-read.ensures.touches c.begin_read-read.ensures.inserted.others

-- the place has a cell, and no other one comes
pub returns-clause-cells : goal.returns-clause-cells
returns-clause-cells c =
    let change = rw c.order.ensures at c.in_ok-add_read_in.ensures.ok in
    rw (← c.key.view_is) (change.places ∙ ap (λ cells. with_place c.key.inside.place (places_of cells)) c.value_behind-value.ensures.cells)

pub returns-clause-lists : goal.returns-clause-lists
returns-clause-lists c = rw c.value_behind-value.ensures.memo at c.in_ok-add.ensures.room
