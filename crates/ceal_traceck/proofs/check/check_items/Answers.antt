use Rattle.std.proofs.Common.{refl, ◌∙◌, sym}
use Rattle.std.proofs.lemmas.Bool.{false≢true}
use Rattle.ceal_traceck.proofs.Stages.{Begun, begins, Learns, Stores, unnamed, unaccepted, found, dishonest, is-honest, asked-there}
use Rattle.ceal_traceck.proofs.check.check_items.Goals as goal

-- an item names a block that is not there, so the record is no replay
pub returns-then-not-branch : goal.returns-then-not-branch
returns-then-not-branch c =
    let code = c.args.code.now in
    let r = c.args.kept.now in
    let is = c.items-items.result.now in
    let m = c.new-memory in
    let begun : Begun code r m.result is r.args = begins m.ensures.code m.ensures.plain m.ensures.store c.items-items.ensures.value refl in
    (c.requires, unnamed code r m.result is r.args c.requires begun (sym c.in_ok-learn_named.ensures.answer ∙ c.if-not-branch.true))

-- the walk over the items stopped, and a replay would have been walked to its end
pub returns-then-not-branch-2 : goal.returns-then-not-branch-2
returns-then-not-branch-2 c =
    let code = c.args.code.now in
    let r = c.args.kept.now in
    let is = c.items-items.result.now in
    let args = c.items.result.now in
    let m = c.new-memory in
    let begun : Begun code r m.result is args = begins m.ensures.code m.ensures.plain m.ensures.store c.items-items.ensures.value c.items.ensures.value in
    let n = c.in_ok-learn_named.ensures in
    let learnt = c.learn_named.new.memory in
    let learns : Learns m.result learnt is = record { program = n.code; plain = n.plain c.if-not-branch.false; store = n.store } in (
      c.requires,
      unaccepted code r m.result is args c.requires begun learnt learns
          (λ k. false≢true (sym c.if-not-branch-2.true ∙ c.in_ok-are_replayed.ensures.answer.1 k)),
    )

-- the items replay, but a read among them differs from the content of its place
pub returns-then-not-branch-3 : goal.returns-then-not-branch-3
returns-then-not-branch-3 c =
    let code = c.args.code.now in
    let r = c.args.kept.now in
    let is = c.items-items.result.now in
    let args = c.items.result.now in
    let m = c.new-memory in
    let begun : Begun code r m.result is args = begins m.ensures.code m.ensures.plain m.ensures.store c.items-items.ensures.value c.items.ensures.value in
    let n = c.in_ok-learn_named.ensures in
    let named = sym n.answer ∙ c.if-not-branch.false in
    let learnt = c.learn_named.new.memory in
    let learns : Learns m.result learnt is = record { program = n.code; plain = n.plain c.if-not-branch.false; store = n.store } in
    let accepts = c.in_ok-are_replayed.ensures.answer.0 c.if-not-branch-2.false in
    let replays = found code r m.result is args c.requires begun learnt learns named accepts in (
      c.requires,
      (
        replays.0,
        replays.1,
        dishonest code r m.result is args c.requires begun learnt learns named accepts
            (sym c.in_ok-store_honest.ensures.answer ∙ c.if-not-branch-3.true),
      ),
    )

-- the items replay and are honest, and the blocks are those that the call leaves
pub returns-then-branch : goal.returns-then-branch
returns-then-branch c =
    let code = c.args.code.now in
    let r = c.args.kept.now in
    let is = c.items-items.result.now in
    let args = c.items.result.now in
    let m = c.new-memory in
    let begun : Begun code r m.result is args = begins m.ensures.code m.ensures.plain m.ensures.store c.items-items.ensures.value c.items.ensures.value in
    let n = c.in_ok-learn_named.ensures in
    let named = sym n.answer ∙ c.if-not-branch.false in
    let learnt = c.learn_named.new.memory in
    let learns : Learns m.result learnt is = record { program = n.code; plain = n.plain c.if-not-branch.false; store = n.store } in
    let accepts = c.in_ok-are_replayed.ensures.answer.0 c.if-not-branch-2.false in
    let replays = found code r m.result is args c.requires begun learnt learns named accepts in
    let h = c.in_ok-store_honest.ensures in
    let stores : Stores learnt c.store_honest.new.memory is = record { program = h.code; plain = h.plain; store = h.store c.if-not-branch-3.false } in
    let asks = asked-there code r m.result is args c.requires begun learnt learns named accepts c.store_honest.new.memory stores c.items-2.result.now c.items-2.ensures.value in (
      c.requires,
      (
        replays.0,
        replays.1,
        is-honest code r m.result is args c.requires begun learnt learns named accepts (sym h.answer ∙ c.if-not-branch-3.false),
        asks.0 (c.in_ok-is_remembered.ensures.answer.0 c.if-branch.true),
      ),
    )

-- the items replay and are honest, but the blocks are not those that the call leaves
pub returns : goal.returns
returns c =
    let code = c.args.code.now in
    let r = c.args.kept.now in
    let is = c.items-items.result.now in
    let args = c.items.result.now in
    let m = c.new-memory in
    let begun : Begun code r m.result is args = begins m.ensures.code m.ensures.plain m.ensures.store c.items-items.ensures.value c.items.ensures.value in
    let n = c.in_ok-learn_named.ensures in
    let named = sym n.answer ∙ c.if-not-branch.false in
    let learnt = c.learn_named.new.memory in
    let learns : Learns m.result learnt is = record { program = n.code; plain = n.plain c.if-not-branch.false; store = n.store } in
    let accepts = c.in_ok-are_replayed.ensures.answer.0 c.if-not-branch-2.false in
    let replays = found code r m.result is args c.requires begun learnt learns named accepts in
    let h = c.in_ok-store_honest.ensures in
    let stores : Stores learnt c.store_honest.new.memory is = record { program = h.code; plain = h.plain; store = h.store c.if-not-branch-3.false } in
    let asks = asked-there code r m.result is args c.requires begun learnt learns named accepts c.store_honest.new.memory stores c.items-2.result.now c.items-2.ensures.value in (
      c.requires,
      (
        replays.0,
        replays.1,
        is-honest code r m.result is args c.requires begun learnt learns named accepts (sym h.answer ∙ c.if-not-branch-3.false),
        λ k. false≢true (sym c.if-branch.false ∙ c.in_ok-is_remembered.ensures.answer.1 (asks.1 k)),
      ),
    )
