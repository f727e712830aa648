use Rattle.std.proofs.Common.{◌≡◌, true, sym, subst}
use Rattle.ceal_code.specs.Fresh.{fresh}
use Rattle.ceal_code.specs.Valid.{valid}
use Rattle.ceal_fold.proofs.Runs.{fresh-same}
use Rattle.ceal_fold.proofs.Traces.{traces-same, replays-same}
use Rattle.ceal_fold.proofs.UnitTrees.{valid-trees}
use Rattle.ceal_fold.proofs.Validity.{folded-valid}
use Rattle.ceal_fold.specs.Traces.{SameTraces, SameReplays}
use Rattle.ceal_fold.proofs.fold.fold.Goals as goal

pub fold_code-requires : goal.fold_code-requires
fold_code-requires c = record { trees = valid-trees c.args.code c.requires.valid }

pub returns-clause-valid : goal.returns-clause-valid
returns-clause-valid c = subst (λ d. valid d ≡ true) (sym c.in_ok-after.ensures.exact) (folded-valid c.args.code c.requires.valid)

pub returns-clause-same_run : goal.returns-clause-same_run
returns-clause-same_run c f args inputs fuel =
    subst (λ d. fresh d f args inputs fuel ≡ fresh c.args.code f args inputs fuel) (sym c.in_ok-after.ensures.exact) (fresh-same c.args.code c.requires.valid f args inputs fuel)

pub returns-clause-same_traces : goal.returns-clause-same_traces
returns-clause-same_traces c = subst (λ d. SameTraces d c.args.code) (sym c.in_ok-after.ensures.exact) (traces-same c.args.code c.requires.valid)

pub returns-clause-replays : goal.returns-clause-replays
returns-clause-replays c = subst (λ d. SameReplays d c.args.code) (sym c.in_ok-after.ensures.exact) (replays-same c.args.code c.requires.valid)
