use Rattle.std.proofs.Common.{◌∙◌, ap, sym, Some, None}
use Rattle.ceal_heap.specs.Heap.{Contents}
use Rattle.ceal_heap.specs.Table.{held_at}
use Rattle.ceal_heap.proofs.HeapLemmas.{field_word}
use Rattle.ceal_heap.proofs.heap.Heap.field.Goals as goal

pub returns-in-None : goal.returns-in-None
returns-in-None c =
    let v = c.self.inside in
    let heap : Contents = record { numbers = v.table.numbers; region = v.pieces } in
    let held = ap (held_at v.table.numbers) (sym c.number_of.ensures) ∙ c.held-held.ensures in
    rw (← c.self.view_is) (record { word = field_word heap c.args.block c.held-held.result.now c.args.index None held c.in-None.ensures })

pub returns-in-Some : goal.returns-in-Some
returns-in-Some c =
    let v = c.self.inside in
    let heap : Contents = record { numbers = v.table.numbers; region = v.pieces } in
    let held = ap (held_at v.table.numbers) (sym c.number_of.ensures) ∙ c.held-held.ensures in
    rw (← c.self.view_is) (record { word = field_word heap c.args.block c.held-held.result.now c.args.index (Some c.in-Some.word) held c.in-Some.ensures })
