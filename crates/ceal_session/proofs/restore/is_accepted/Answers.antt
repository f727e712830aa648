use Rattle.std.proofs.Common.{subst}
use Rattle.ceal_traceck.specs.Verdicts.{Means}
use Rattle.ceal_traceck.specs.declared.verdict.Verdict.TheVariants.{Yes}
use Rattle.ceal_session.proofs.restore.is_accepted.Goals as goal

pub returns : goal.returns
returns c =
    let v = c.in_ok-verdict in (
      λ h. subst (Means c.args.code.now c.args.kept.now) (c.is_yes.ensures.0 h) v.ensures.verdict,
      λ h. c.is_yes.ensures.1 (c.one_verdict_law.ensures.law c.args.code.now c.args.kept.now v.verdict Yes v.ensures.verdict h),
    )
