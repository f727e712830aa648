use Rattle.std.proofs.Common.{◌≡◌, ◌∷◌, length, ap, ◌∙◌, arith}
use Rattle.std.proofs.lemmas.Bool.{iff_false}
use Rattle.ceal_order.specs.Rising.{numbers}
use Rattle.ceal_queue.specs.Queue.{Waiting, IsBefore}
use Rattle.ceal_queue.proofs.QueueLemmas.{headed, none_before, is_earliest, without_earliest}
use Rattle.ceal_queue.proofs.stale.Stale.pop_before.Goals as goal

pub is_before-requires-clause-here : goal.is_before-requires-clause-here
is_before-requires-clause-here c =
    let first = headed c.self.inside.stamps.items c.in_ok-first.first.0 (rw c.in_ok-first.was at c.first.ensures.first) in
    let rising = rw (← c.self.view_is, ← first) at c.requires.follows in
    rising.0

pub returns-then-not-is_before-clause-none : goal.returns-then-not-is_before-clause-none
returns-then-not-is_before-clause-none c =
    let first = headed c.self.inside.stamps.items c.in_ok-first.first.0 (rw c.in_ok-first.was at c.first.ensures.first) in
    let rising = rw (← c.self.view_is, ← first) at c.requires.follows in
    let late : IsBefore c.args.order.now.stamps c.args.limit c.in_ok-first.first.0 → ⊥ = iff_false c.is_before.ensures c.if-not-is_before.true in
    rw (← c.self.view_is, ← first) (none_before _ _ _ _ rising late)

-- the stamps are the earliest one, and those that are left
parted : (c : goal.After-self-1) → c.in_ok-first.first.0 ∷ numbers c.remove.new.self.items ≡ c.args.self.now.stamps
parted c =
    rw c.remove.ensures.items (headed c.self.inside.stamps.items c.in_ok-first.first.0 (rw c.in_ok-first.was at c.first.ensures.first)) ∙ ap (λ (q : Waiting). q.stamps) c.self.view_is

pub returns-clause-earliest : goal.returns-clause-earliest
returns-clause-earliest c =
    let rising = rw (← parted c) at c.requires.follows in
    rw (← parted c) (is_earliest _ _ _ rising)

pub returns-clause-here : goal.returns-clause-here
returns-clause-here c =
    let rising = rw (← parted c) at c.requires.follows in
    rising.0

pub returns-clause-without : goal.returns-clause-without
returns-clause-without c =
    let rising = rw (← parted c) at c.requires.follows in
    rw (← parted c) (without_earliest _ _ _ rising)

pub returns-clause-fewer : goal.returns-clause-fewer
returns-clause-fewer c = let long = ap length (parted c) in omega (arith, long)
