use Rattle.std.proofs.Common.{rules}
use Rattle.ceal_base.specs.Answers.{Gives}
use Rattle.ceal_types.specs.Checked.{checked}
use Rattle.ceal_types.proofs.Typing.ProgramTyped.{given-typed}
use Rattle.ceal_types.proofs.check.check.Goals as goal

pub returns-clause-well_typed : goal.returns-clause-well_typed
returns-clause-well_typed c =
    let given : Gives c.check_entries-checked.result (checked c.args.tree) = search rules in
    λ short. given-typed c.args.tree c.check_entries-checked.result given short
