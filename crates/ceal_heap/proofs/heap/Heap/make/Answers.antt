use Rattle.std.proofs.Common.{◌∙◌, ◌++◌, ap, sym, subst, List}
use Rattle.std.proofs.lemmas.List.{length-take-le}
use Rattle.ceal_base.specs.declared.word.Word.{Word}
use Rattle.ceal_base.specs.declared.word.BlockId.TheVariants.{Core}
use Rattle.ceal_heap.specs.Cells.{cell_count}
use Rattle.ceal_heap.specs.Heap.{Contents, HasSlots, KeepsBlocks}
use Rattle.ceal_heap.specs.Parts.{filling}
use Rattle.ceal_heap.specs.Table.{held_at, GivesOut}
use Rattle.ceal_heap.specs.declared.number.Held.{Held}
use Rattle.ceal_heap.specs.declared.number.Number.{Number}
use Rattle.ceal_heap.proofs.HeapLemmas.{slots_of, given, was_free, kept_all, make_kept, make_others, make_made, unknown}
use Rattle.ceal_heap.proofs.heap.Heap.make.Goals as goal

pub returns-in_err-prepare-clause-slots : goal.returns-in_err-prepare-clause-slots
returns-in_err-prepare-clause-slots c =
    let v = c.self.inside in
    subst (λ (ns : List Number). HasSlots (record { numbers = ns; region = v.pieces })) (sym c.in_err-prepare.ensures.numbers)
    (slots_of (record { numbers = v.table.numbers; region = v.pieces }) c.self.invariant)

pub returns-in_err-slot-clause-slots : goal.returns-in_err-slot-clause-slots
returns-in_err-slot-clause-slots c =
    let v = c.self.inside in
    subst (λ (ns : List Number). HasSlots (record { numbers = ns; region = c.put.new.self })) (sym c.in_ok-prepare.ensures.numbers)
    (slots_of (record { numbers = v.table.numbers; region = c.put.new.self }) (kept_all (held_at v.table.numbers) v.pieces c.self.invariant c.put.new.self c.in_err-slot.ensures.err))

pub invariant_of-self-2 : goal.invariant_of-self-2
invariant_of-self-2 c =
    let v = c.self.inside in let after = c.give_out-given.new.self.numbers in let n = c.give_out-given.result.number in let old = c.give_out-given.result.before in
    let h : Held = record { slot = c.in_ok-slot.slot; parts = c.of-parts.result } in
    let out : GivesOut v.table.numbers after c.args.shape h n old = subst (λ (ns : List Number). GivesOut ns after c.args.shape h n old) c.in_ok-prepare.ensures.numbers c.give_out-given.ensures in
    let is = given v.table.numbers after c.args.shape h n old out in
    make_kept v.table.numbers after v.pieces c.put.new.self c.args.shape h n c.self.invariant is c.in_ok-slot.ensures.was_new c.in_ok-slot.ensures.others
    (c.in_ok-slot.ensures.cells ∙ ap cell_count (length-take-le c.of-parts.result.kept c.args.words.now c.of-parts.ensures.kept))

pub returns-clause-made : goal.returns-clause-made
returns-clause-made c =
    let v = c.self.inside in let after = c.give_out-given.new.self.numbers in let n = c.give_out-given.result.number in let old = c.give_out-given.result.before in
    let h : Held = record { slot = c.in_ok-slot.slot; parts = c.of-parts.result } in
    let out : GivesOut v.table.numbers after c.args.shape h n old = subst (λ (ns : List Number). GivesOut ns after c.args.shape h n old) c.in_ok-prepare.ensures.numbers c.give_out-given.ensures in
    let is = given v.table.numbers after c.args.shape h n old out in
    make_made v.table.numbers after v.pieces c.put.new.self c.args.shape h n c.self.invariant is c.in_ok-slot.ensures.was_new c.in_ok-slot.ensures.others
    c.args.words.now (ap (λ (ws : List Word). ws ++ filling c.of-parts.result) c.in_ok-slot.ensures.words ∙ c.of-parts.ensures.same)

pub returns-clause-others : goal.returns-clause-others
returns-clause-others c =
    let v = c.self.inside in let after = c.give_out-given.new.self.numbers in let n = c.give_out-given.result.number in let old = c.give_out-given.result.before in
    let h : Held = record { slot = c.in_ok-slot.slot; parts = c.of-parts.result } in
    let out : GivesOut v.table.numbers after c.args.shape h n old = subst (λ (ns : List Number). GivesOut ns after c.args.shape h n old) c.in_ok-prepare.ensures.numbers c.give_out-given.ensures in
    let is = given v.table.numbers after c.args.shape h n old out in
    subst (λ (heap : Contents). KeepsBlocks (Core n) heap (record { numbers = after; region = c.put.new.self })) c.self.view_is
    (make_others v.table.numbers after v.pieces c.put.new.self c.args.shape h n c.self.invariant is c.in_ok-slot.ensures.was_new c.in_ok-slot.ensures.others)

pub returns-clause-count : goal.returns-clause-count
returns-clause-count c =
    let v = c.self.inside in let after = c.give_out-given.new.self.numbers in let n = c.give_out-given.result.number in let old = c.give_out-given.result.before in
    let h : Held = record { slot = c.in_ok-slot.slot; parts = c.of-parts.result } in
    let out : GivesOut v.table.numbers after c.args.shape h n old = subst (λ (ns : List Number). GivesOut ns after c.args.shape h n old) c.in_ok-prepare.ensures.numbers c.give_out-given.ensures in
    let is = given v.table.numbers after c.args.shape h n old out in rw (← c.self.view_is) is.count

pub returns-clause-slots : goal.returns-clause-slots
returns-clause-slots c =
    let v = c.self.inside in let after = c.give_out-given.new.self.numbers in let n = c.give_out-given.result.number in let old = c.give_out-given.result.before in
    let h : Held = record { slot = c.in_ok-slot.slot; parts = c.of-parts.result } in
    let out : GivesOut v.table.numbers after c.args.shape h n old = subst (λ (ns : List Number). GivesOut ns after c.args.shape h n old) c.in_ok-prepare.ensures.numbers c.give_out-given.ensures in
    let is = given v.table.numbers after c.args.shape h n old out in
    slots_of (record { numbers = after; region = c.put.new.self })
    (make_kept v.table.numbers after v.pieces c.put.new.self c.args.shape h n c.self.invariant is c.in_ok-slot.ensures.was_new c.in_ok-slot.ensures.others
    (c.in_ok-slot.ensures.cells ∙ ap cell_count (length-take-le c.of-parts.result.kept c.args.words.now c.of-parts.ensures.kept)))

pub returns-clause-new : goal.returns-clause-new
returns-clause-new c =
    let v = c.self.inside in let after = c.give_out-given.new.self.numbers in let n = c.give_out-given.result.number in let old = c.give_out-given.result.before in
    let h : Held = record { slot = c.in_ok-slot.slot; parts = c.of-parts.result } in
    let out : GivesOut v.table.numbers after c.args.shape h n old = subst (λ (ns : List Number). GivesOut ns after c.args.shape h n old) c.in_ok-prepare.ensures.numbers c.give_out-given.ensures in
    let is = given v.table.numbers after c.args.shape h n old out in
    rw (← c.self.view_is) (unknown (record { numbers = v.table.numbers; region = v.pieces }) n is.none)

pub returns-clause-free : goal.returns-clause-free
returns-clause-free c =
    let v = c.self.inside in let after = c.give_out-given.new.self.numbers in let n = c.give_out-given.result.number in let old = c.give_out-given.result.before in
    let h : Held = record { slot = c.in_ok-slot.slot; parts = c.of-parts.result } in
    let out : GivesOut v.table.numbers after c.args.shape h n old = subst (λ (ns : List Number). GivesOut ns after c.args.shape h n old) c.in_ok-prepare.ensures.numbers c.give_out-given.ensures in
    rw (← c.self.view_is) (was_free (record { numbers = v.table.numbers; region = v.pieces }) after c.args.shape h n old out)
