use Rattle.std.proofs.Common.{◌≡◌, ◌<◌, ◌+◌, ◌++◌, ◌∙◌, List, ℕ, drop, get_or, length, ap, sym, arith, append_assoc}
use Rattle.std.proofs.lemmas.List.{at_drop_more}
use Rattle.ceal_base.specs.declared.word.Place.{Place}
use Rattle.ceal_mods.specs.Cell.{latest_value}
use Rattle.ceal_mods.specs.Index.{cell_in}
use Rattle.ceal_mods.specs.Marks.{told, told_at}
use Rattle.ceal_mods.proofs.ChangedPlaces.{told-at-is}
use Rattle.ceal_mods.proofs.RenewedMarks.{below-at}
use Rattle.ceal_mods.proofs.ToldCells.{told-in}
use Rattle.ceal_mods.proofs.ends.tell_listed.Goals as goal

pub bounds-ends-slot : goal.bounds-ends-slot
bounds-ends-slot g c = below-at _ c.args.slots.now c.loop-slot.slot-index 0 c.requires.ends (omega arith)

pub bounds-ends-slot-in-loop-slot : goal.bounds-ends-slot-in-loop-slot
bounds-ends-slot-in-loop-slot g c = below-at _ c.args.slots.now c.loop-slot.slot-index 0 c.requires.ends (omega arith)

pub cell_at-requires : goal.cell_at-requires
cell_at-requires g c = below-at _ c.args.slots.now c.loop-slot.slot-index _ c.requires.cells (omega arith)

pub end-now-requires : goal.end-now-requires
end-now-requires g c =
    let within = below-at _ c.args.slots.now c.loop-slot.slot-index 0 c.requires.cells (omega arith) in
    record { values = rw c.cell_at.ensures (told-in (g.W.Written.tells c.args.written.now) c.args.cells.now _ within c.requires.values) }

pub loop-slot-preserved : goal.loop-slot-preserved
loop-slot-preserved g c =
    let slots = c.args.slots.now in
    let cells = c.args.cells.now in
    let ends = c.args.ends.now in
    let i = c.loop-slot.slot-index in
    let slot = get_or slots i 0 in
    let h = c.loop-slot-test.true in
    let items = c.loop-slot.places.items in
    let rest = told ends cells (drop (i + 1) slots) in
    let within : slot < length ends = below-at _ slots i 0 c.requires.ends h in
    let now : c.end-now.result ≡ latest_value (cell_in cells slot) = c.end-now.ensures ∙ ap latest_value c.cell_at.ensures in
    let one = sym (told-at-is ends slot _ c.end-now.result within) ∙ ap (told_at ends slot) now in
    ap (λ (l : List Place). l ++ rest) (c.in_ok-tell.ensures ∙ ap (λ (l : List Place). items ++ l) one)
    ∙ (append_assoc items (told_at ends slot (latest_value (cell_in cells slot))) rest
    ∙ (ap (λ (l : List Place). items ++ l) (sym (at_drop_more (λ (ss : List ℕ). told ends cells ss) slots i 0 h)) ∙ c.loop-slot.invariant))
