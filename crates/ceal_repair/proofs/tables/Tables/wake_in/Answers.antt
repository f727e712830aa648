use Rattle.std.proofs.Common.{◌≡◌, ℕ, ◌≤◌, true, List, arith}
use Rattle.ceal_mods.specs.Cell.{Sees, IsAffected}
use Rattle.ceal_mods.specs.Mods.{cell_of}
use Rattle.ceal_mods.specs.declared.cell.Cell.{Cell}
use Rattle.ceal_order.proofs.Places.{place_tells}
use Rattle.ceal_order.proofs.RisingLemmas.{in_order}
use Rattle.ceal_order.specs.Rising.{IsRising}
use Rattle.ceal_order.specs.Stamps.{is_in, place}
use Rattle.ceal_trace.specs.Nodes.{stamps_in}
use Rattle.std.proofs.Common.{length, ap}
use Rattle.ceal_queue.specs.Queue.{Waiting}
use Rattle.ceal_repair.proofs.TableCalls.CutKeepsTables.{by-queue}
use Rattle.ceal_repair.proofs.tables.Tables.wake_in.Goals as goal

-- the earliest read that sees a change is one
one-woken : (order : List ℕ) (cell : Cell) (s read : ℕ) (queue : List ℕ) → IsRising order cell.reads → IsAffected order cell s read → is_in read queue ≡ true
    → (r : ℕ) → Sees order cell s r → ((other : ℕ) → Sees order cell s other → place r order ≤ place other order) → is_in r queue ≡ true
one-woken order cell s read queue rises a h r sees least =
    let same : r ≡ read =
    place_tells r read order (in_order r cell.reads order rises sees.there) (in_order read cell.reads order rises a.sees.there) (omega (arith, least read a.sees, a.earliest r sees)) in
    rw same h

pub returns-in-Some-clause-woken : goal.returns-in-Some-clause-woken
returns-in-Some-clause-woken c =
    one-woken (stamps_in c.args.self.now.trace.nodes) (cell_of c.args.self.now.mods c.args.place) c.args.after.0 c.in-Some.read.0 c.push.new.self.stamps (c.requires.mods c.args.place).reads
    (rw c.order.ensures at c.in-Some.ensures.some) c.push.ensures.with.there

pub returns-in-Some-clause-one : goal.returns-in-Some-clause-one
returns-in-Some-clause-one c = by-queue c.in-Some.read.0 c.args.self.now.stale.stamps
    (λ i. let e = ap (λ (q : Waiting). length q.stamps) (c.push.ensures.known i) in omega (arith, e))
    (λ i. let e = c.push.ensures.more i in omega (arith, e))
