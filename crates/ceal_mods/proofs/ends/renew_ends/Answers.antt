use Rattle.std.proofs.Common.{◌≡◌, ◌<◌, ◌+◌, ◌∙◌, List, ℕ, drop, get_or, length, ap, sym, arith}
use Rattle.std.proofs.lemmas.List.{at_drop_all, at_drop_more}
use Rattle.ceal_base.specs.declared.word.Word.{Word}
use Rattle.ceal_order.proofs.Places.{AllBelow-more}
use Rattle.ceal_mods.specs.Cell.{latest_value}
use Rattle.ceal_mods.specs.Index.{cell_in}
use Rattle.ceal_mods.proofs.MarksLemmas.{fewer}
use Rattle.ceal_mods.proofs.RenewedMarks.{below-at, renewed, renewed-is, unlisted, unlisted-is, with_end, with-end-set}
use Rattle.ceal_mods.proofs.ToldCells.{told-in}
use Rattle.ceal_mods.proofs.ends.renew_ends.Goals as goal

pub bounds-ends-at : goal.bounds-ends-at
bounds-ends-at g c = (let b = below-at _ c.args.slots.now c.loop-slot.slot-index 0 c.requires.watched.within (omega arith) in omega (arith, b))

pub bounds-listed-at : goal.bounds-listed-at
bounds-listed-at g c = (let b = below-at _ c.args.slots.now c.loop-slot.slot-index 0 c.requires.watched.within (omega arith) in omega (arith, b, c.requires.long))

pub cell_at-requires : goal.cell_at-requires
cell_at-requires g c =
    let ends = c.args.ends.now in
    let cells = c.args.cells.now in
    let slots = c.args.slots.now in
    below-at _ slots c.loop-slot.slot-index _
    (AllBelow-more (length ends) (length cells) slots (fewer ends cells c.requires.watched.places) c.requires.watched.within) (omega arith)

pub end-requires : goal.end-requires
end-requires g c =
    let ends = c.args.ends.now in
    let cells = c.args.cells.now in
    let slots = c.args.slots.now in
    let within = below-at _ slots c.loop-slot.slot-index 0
    (AllBelow-more (length ends) (length cells) slots (fewer ends cells c.requires.watched.places) c.requires.watched.within) (omega arith) in
    record { values = rw c.cell_at.ensures (told-in (g.W.Written.tells c.args.written.now) cells _ within c.requires.values) }

pub loop-slot-preserved : goal.loop-slot-preserved
loop-slot-preserved g c =
    let slots = c.args.slots.now in
    let cells = c.args.cells.now in
    let i = c.loop-slot.slot-index in
    let slot = get_or slots i 0 in
    let h = c.loop-slot-test.true in
    let within : slot < length c.loop-slot.ends = (let b = below-at _ slots i 0 c.requires.watched.within h in omega (arith, b, c.loop-slot.auto.ends)) in
    let now : c.end.result ≡ latest_value (cell_in cells slot) = c.end.ensures ∙ ap latest_value c.cell_at.ensures in
    record {
      ends = ap (renewed cells (drop (i + 1) slots)) (with-end-set c.loop-slot.ends slot _ c.end.result within ∙ ap (λ (w : Word). with_end slot w c.loop-slot.ends) now)
          ∙ (sym (at_drop_more (λ (ss : List ℕ). renewed cells ss c.loop-slot.ends) slots i 0 h) ∙ c.loop-slot.invariant.ends);
      listed = sym (at_drop_more (λ (ss : List ℕ). unlisted ss c.loop-slot.listed) slots i 0 h) ∙ c.loop-slot.invariant.listed;
    }

pub returns : goal.returns
returns g c =
    let w = c.requires.watched in
    let slots = c.args.slots.now in
    let i = c.loop-slot.slot-index in
    record {
      ends = sym (at_drop_all (λ (ss : List ℕ). renewed c.args.cells.now ss c.loop-slot.ends) slots i (omega arith))
          ∙ (c.loop-slot.invariant.ends ∙ renewed-is slots c.args.ends.now c.args.cells.now w.places w.same);
      listed = sym (at_drop_all (λ (ss : List ℕ). unlisted ss c.loop-slot.listed) slots i (omega arith))
          ∙ (c.loop-slot.invariant.listed ∙ unlisted-is slots c.args.listed.now c.requires.flags);
    }
