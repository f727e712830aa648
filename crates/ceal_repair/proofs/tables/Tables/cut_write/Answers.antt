use Rattle.std.proofs.Common.{◌≡◌, ℕ, Bool, true, false, Some, inl, inr, ◌⊎◌, refl, sym, ◌∙◌}
use Rattle.ceal_base.specs.declared.word.Place.{Place}
use Rattle.ceal_base.specs.declared.word.Word.{Word}
use Rattle.ceal_code.proofs.Words.SameIsEqual.{some-same}
use Rattle.ceal_repair.specs.declared.tables.Tables.{Tables}
use Rattle.ceal_trace.specs.Nodes.{Timeline, stamps_in, node_at}
use Rattle.ceal_trace.specs.declared.node.Node.TheVariants.{Write}
use Rattle.ceal_repair.proofs.QueueCover.NodeChanges.{node-has}
use Rattle.ceal_repair.proofs.TableCalls.CutKeepsTables.{write-there, write-cut-behind, write-cut-kept, no-end, room-kept, same-write}
use Rattle.ceal_repair.proofs.TableCalls.PutKeepsTables.{tables}
use Rattle.ceal_repair.proofs.TableCalls.BaseEdit.{contents-same}
use Rattle.ceal_repair.specs.Kept.{contents_at}
use Rattle.std.proofs.Common.{arith, length, ap, ◌+◌}
use Rattle.std.proofs.Common.{subst}
use Rattle.ceal_memo.specs.Memo.{Contents as Memo}
use Rattle.ceal_repair.specs.Looks.{Grows}
use Rattle.ceal_repair.proofs.TableCalls.FewLooks.{touched-less, grows-cut}
use Rattle.ceal_mods.specs.Mods.{Contents}
use Rattle.ceal_queue.specs.Queue.{Waiting}
use Rattle.ceal_mods.specs.Mods.{places_of}
use Rattle.ceal_repair.proofs.tables.Tables.cut_write.Goals as goal

-- the write is there after the look at it
there : (s : ℕ) (p : Place) (v : Word) (a b : Timeline) → a ≡ b → node_at s b.nodes ≡ Some (Write p v) → node_at s a.nodes ≡ Some (Write p v)
there s p v a b e h = rw e h

pub is_needless-needless-requires-clause-kept : goal.is_needless-needless-requires-clause-kept
is_needless-needless-requires-clause-kept c =
    room-kept c.args.self.now c.reserve.new.self c.requires.kept c.reserve.ensures.stamps (c.reserve.ensures.follows (stamps_in c.args.self.now.trace.nodes) c.requires.kept.step.stale)

pub remove_write-at-requires-clause-here : goal.remove_write-at-requires-clause-here
remove_write-at-requires-clause-here c =
    rw (c.order.ensures, c.is_needless-needless.ensures.trace) (node-has c.args.write.0 (Write c.args.place c.requires.here.0) c.args.self.now.trace.nodes c.requires.here.1)

pub remove_write-at-requires-clause-there : goal.remove_write-at-requires-clause-there
remove_write-at-requires-clause-there c =
    write-there c.is_needless-needless.new.self c.is_needless-needless.ensures.kept.step c.args.write.0 c.args.place c.requires.here.0
    (there c.args.write.0 c.args.place c.requires.here.0 c.is_needless-needless.new.self.trace c.args.self.now.trace c.is_needless-needless.ensures.trace c.requires.here.1)

pub wake_unless-requires-clause-here : goal.wake_unless-requires-clause-here
wake_unless-requires-clause-here c = rw c.is_needless-needless.ensures.trace (node-has c.args.write.0 (Write c.args.place c.requires.here.0) c.args.self.now.trace.nodes c.requires.here.1)

pub discard-requires-clause-here : goal.discard-requires-clause-here
discard-requires-clause-here c =
    rw (c.wake_unless.ensures.trace, c.is_needless-needless.ensures.trace) (node-has c.args.write.0 (Write c.args.place c.requires.here.0) c.args.self.now.trace.nodes c.requires.here.1)

either : {X Y : Type 0} (t : Bool) → (t ≡ true → X) → (t ≡ false → Y) → X ⊎ Y
either true f g = inl (f refl)
either false f g = inr (g refl)

-- the read that this affects is queued, and it is after the write
pub returns-clause-behind : goal.returns-clause-behind
returns-clause-behind c = λ s lt late r i.
    let b : Tables = c.is_needless-needless.new.self in
    let at_it : node_at c.args.write.0 b.trace.nodes ≡ Some (Write c.args.place c.requires.here.0) =
    there c.args.write.0 c.args.place c.requires.here.0 b.trace c.args.self.now.trace c.is_needless-needless.ensures.trace c.requires.here.1 in
    write-cut-behind c.is_needless-needless.new.self c.is_needless-needless.ensures.kept c.args.write.0 (Write c.args.place c.requires.here.0) at_it c.discard.new.self
    (rw c.wake_unless.ensures.trace at c.discard.ensures.nodes) (rw c.wake_unless.ensures.trace at c.discard.ensures.others)
    c.discard.ensures.whole (c.discard.ensures.closed (rw c.wake_unless.ensures.trace c.is_needless-needless.ensures.kept.step.closed)
    (rw c.wake_unless.ensures.trace (no-end c.args.write.0 (Write c.args.place c.requires.here.0) c.is_needless-needless.new.self.trace c.is_needless-needless.ensures.kept.step.whole at_it refl)))
    c.args.place c.requires.here.0 refl c.remove_write-at.new.self c.remove_write-at.ensures.cell c.wake_unless.new.self.stale (rw c.wake_unless.ensures.trace at c.wake_unless.ensures.stale)
    c.wake_unless.ensures.ahead s (rw c.is_needless-needless.ensures.trace lt)
    (λ z j. rw c.is_needless-needless.ensures.trace (late z (rw (c.is_needless-needless.ensures.queue, c.reserve.ensures.stamps) at j))) r i

-- each table loses the node with its stamp
pub returns-clause-kept : goal.returns-clause-kept
returns-clause-kept c =
    let b : Tables = c.is_needless-needless.new.self in
    let at_it : node_at c.args.write.0 b.trace.nodes ≡ Some (Write c.args.place c.requires.here.0) =
    there c.args.write.0 c.args.place c.requires.here.0 b.trace c.args.self.now.trace c.is_needless-needless.ensures.trace c.requires.here.1 in
    let before : Tables = tables c.args.self.now.trace c.args.self.now.mods c.reserve.new.self c.args.self.now.memo in
    rw (c.wake_unless.ensures.mods, c.wake_unless.ensures.memo)
    (write-cut-kept c.is_needless-needless.new.self c.is_needless-needless.ensures.kept c.args.write.0 (Write c.args.place c.requires.here.0) at_it c.discard.new.self
    (rw c.wake_unless.ensures.trace at c.discard.ensures.nodes) (rw c.wake_unless.ensures.trace at c.discard.ensures.others)
    c.discard.ensures.whole (c.discard.ensures.closed (rw c.wake_unless.ensures.trace c.is_needless-needless.ensures.kept.step.closed)
    (rw c.wake_unless.ensures.trace (no-end c.args.write.0 (Write c.args.place c.requires.here.0) c.is_needless-needless.new.self.trace c.is_needless-needless.ensures.kept.step.whole at_it refl)))
    c.args.place c.requires.here.0 refl c.remove_write-at.new.self c.remove_write-at.ensures.cell c.wake_unless.new.self.stale
    c.wake_unless.ensures.more c.wake_unless.ensures.only
    (λ r i. rw c.is_needless-needless.ensures.trace (c.requires.first r (rw (c.is_needless-needless.ensures.queue, c.reserve.ensures.stamps) at i)))
    (either c.is_needless-needless.result
    (λ told. (same-write c.args.place c.args.place c.requires.here.0 (contents_at c.args.write.0 before c.args.place)
    (some-same (Write c.args.place c.requires.here.0) (Write c.args.place (contents_at c.args.write.0 before c.args.place)) (sym c.requires.here.1 ∙ c.is_needless-needless.ensures.same told))).1
    ∙ sym (contents-same c.is_needless-needless.new.self before c.args.write.0 c.is_needless-needless.ensures.trace c.is_needless-needless.ensures.cells c.args.place))
    (λ told. c.wake_unless.ensures.woken told))
    (rw c.order.ensures at c.remove_write-at.ensures.follows) (rw c.wake_unless.ensures.trace at c.wake_unless.ensures.stale))

pub returns-clause-looks : goal.returns-clause-looks
returns-clause-looks c =
    let a = c.remove_write-at.ensures.cell.looked in
    let b = ap (λ (m : Contents). m.looked) c.wake_unless.ensures.mods in
    let d = c.wake_unless.ensures.one in
    let e = ap length c.reserve.ensures.stamps in
    let f = ap (λ (q : Waiting). length q.stamps) c.is_needless-needless.ensures.queue in
    let g = c.is_needless-needless.ensures.looks in omega (arith, a, b, d, e, f, g)

pub returns-clause-differed : goal.returns-clause-differed
returns-clause-differed c = ap (λ (m : Contents). m.differed) c.wake_unless.ensures.mods ∙ (c.remove_write-at.ensures.cell.differed ∙ c.is_needless-needless.ensures.differed)

pub returns-clause-marks : goal.returns-clause-marks
returns-clause-marks c = ap (λ (m : Contents). m.marked) c.wake_unless.ensures.mods ∙ (c.remove_write-at.ensures.cell.marked ∙ c.is_needless-needless.ensures.marks)

pub returns-clause-counts : goal.returns-clause-counts
returns-clause-counts c =
    let k = c.is_needless-needless.ensures.counts in
    let a = k.looked in
    let b = c.remove_write-at.ensures.cell.looked in
    let d = ap (λ (m : Contents). m.looked) c.wake_unless.ensures.mods in
    let e = k.differed in
    let f = c.remove_write-at.ensures.cell.differed in
    let g = ap (λ (m : Contents). m.differed) c.wake_unless.ensures.mods in
    let h = c.discard.ensures.touches.no_fewer in
    let i = ap (λ (x : Timeline). x.touched) (c.wake_unless.ensures.trace ∙ c.is_needless-needless.ensures.trace) in
    record {
      looked = omega (arith, a, b, d);
      differed = omega (arith, e, f, g);
      touched = omega (arith, h, i);
      grows = λ few. subst (λ (x : Timeline). Grows x c.discard.new.self) (c.wake_unless.ensures.trace ∙ c.is_needless-needless.ensures.trace)
          (grows-cut c.args.write.0 c.wake_unless.new.self.trace c.discard.new.self c.discard.ensures.touches c.discard.ensures.others c.discard.ensures.spare);
      seed = ap (λ (m : Memo). m.seed) (c.wake_unless.ensures.memo ∙ c.is_needless-needless.ensures.memo);
    }

pub returns-clause-touched : goal.returns-clause-touched
returns-clause-touched c =
    let t = touched-less c.args.write.0 c.wake_unless.new.self.trace c.discard.new.self c.discard.ensures.touches c.discard.ensures.others in
    let e = ap (λ (x : Timeline). x.touched + length x.nodes) (c.wake_unless.ensures.trace ∙ c.is_needless-needless.ensures.trace) in omega (arith, t, e)

-- each place has its cell still
pub returns-clause-cells : goal.returns-clause-cells
returns-clause-cells c =
    ap (λ (m : Contents). places_of m.cells) c.wake_unless.ensures.mods ∙ (c.remove_write-at.ensures.places ∙ ap places_of c.is_needless-needless.ensures.cells)
