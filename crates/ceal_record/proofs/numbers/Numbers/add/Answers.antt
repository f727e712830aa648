use Rattle.std.proofs.Common.{◌≡◌, true, false, is_some, refl}
use Rattle.ceal_record.proofs.Places.{added-new, added-known, found-some, found-none}
use Rattle.ceal_record.proofs.numbers.Numbers.add.Goals as goal

-- the block has its number from an earlier item
pub returns-then-is_some : goal.returns-then-is_some
returns-then-is_some c =
    let t : is_some c.get.result ≡ true = cc (c.is_some.ensures, c.if-is_some.true) in
    let found = found-some c.get.result _ c.get.ensures.value t in
    λ bs h. added-known c.args.self.now _ c.args.block c.in_ok-count.ensures bs h found.0 found.1 refl

-- the block is new, and gets the number of blocks so far
pub returns : goal.returns
returns c =
    let t : is_some c.get.result ≡ false = cc (c.is_some.ensures, c.if-is_some.false) in
    λ bs h. added-new c.args.self.now _ c.args.block c.in_ok-count.ensures bs h (found-none c.get.result _ c.get.ensures.value t) c.in_ok-insert.ensures.updates.0
