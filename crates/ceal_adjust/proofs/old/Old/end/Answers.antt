use Rattle.std.proofs.Common.{length, ap, sym, subst, arith}
use Rattle.ceal_adjust.proofs.Spotting.{ends-none, ends-next}
use Rattle.ceal_adjust.specs.Spots.{Ends}
use Rattle.ceal_adjust.proofs.old.Old.end.Goals as goal

-- no end of this level follows, so there is none
pub returns-in-None : goal.returns-in-None
returns-in-None c =
    subst (λ l. Ends c.args.self.now c.args.from c.args.levels l) (sym (ap length c.self.view_is))
    (ends-none c.args.self.now c.args.from c.args.levels c.in-Some.outside (omega (arith, c.if-levels-eq0.false)) (omega (arith, c.in-Some.ensures, c.depth.ensures)) c.requires c.in-None.ensures.next)

-- the next end at the depth of the level closes it
pub returns-in-Some-next_end : goal.returns-in-Some-next_end
returns-in-Some-next_end c =
    ends-next c.args.self.now c.args.from c.args.levels c.in-Some.outside (omega (arith, c.if-levels-eq0.false))
    (omega (arith, c.in-Some.ensures, c.depth.ensures)) c.in-Some-next_end.at c.in-Some-next_end.ensures.next
