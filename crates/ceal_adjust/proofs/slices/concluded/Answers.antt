use Rattle.std.proofs.Common.{refl}
use Rattle.ceal_adjust.proofs.slices.concluded.Goals as goal

pub returns-then-branch : goal.returns-then-branch
returns-then-branch c = λ r f args fits stands sound. (refl, (c.in_ok-is_honest.ensures r f args fits stands sound).0 c.if-branch.true)

pub returns-else-branch : goal.returns-else-branch
returns-else-branch c = λ r f args fits stands sound. (
  refl,
  λ h. let t = (c.in_ok-is_honest.ensures r f args fits stands sound).1 h in
      let d = c.if-branch.false in
      absurd cc,
)
