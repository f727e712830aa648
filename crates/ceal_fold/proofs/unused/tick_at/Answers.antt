use Rattle.std.proofs.Common.{◌≡◌, ◌||◌, ◌&&◌, not, ap, ◌∙◌, sym}
use Rattle.ceal_code.specs.Valid.{followers}
use Rattle.ceal_fold.specs.Folding.{used_in, uses, assigns}
use Rattle.ceal_fold.specs.States.{has, has_at}
use Rattle.ceal_fold.proofs.UnusedSteps.{ticked-ext, ticked-followers}
use Rattle.ceal_fold.proofs.unused.tick_at.Goals as goal

-- the command becomes a tick where nothing that follows it uses what it assigns
pub returns-in_ok-command-in-Ok-clause-command : goal.returns-in_ok-command-in-Ok-clause-command
returns-in_ok-command-in-Ok-clause-command c =
    c.in_ok-command-in-Ok.ensures.command
    ∙ ticked-ext (has c.in-Ok.later) (used_in (has_at c.args.sets.now.items) (followers c.args.command c.args.index)) c.args.command c.in-Ok.ensures.value

-- a variable is used from here on if the command uses it, or if a later one does and this one does not assign it
pub returns-in_ok-command-in-Ok-clause-here : goal.returns-in_ok-command-in-Ok-clause-here
returns-in_ok-command-in-Ok-clause-here c u =
    let i = c.args.index in
    let d = c.in_ok-command-in-Ok.command in
    let same : followers d i ≡ followers c.args.command i = ap (λ d. followers d i) c.in_ok-command-in-Ok.ensures.command ∙ ticked-followers (has c.in-Ok.later) c.args.command i in
    c.in_ok-command-in-Ok.ensures.here u
    ∙ ap (λ b. uses d u || (not (assigns d u) && b)) (c.in-Ok.ensures.value u ∙ ap (λ js. used_in (has_at c.args.sets.now.items) js u) (sym same))

pub returns-in_ok-command-in-Ok-clause-left : goal.returns-in_ok-command-in-Ok-clause-left
returns-in_ok-command-in-Ok-clause-left c j u other apart = c.in_ok-command-in-Ok.ensures.left j u other ∙ c.in-Ok.ensures.left j u apart
