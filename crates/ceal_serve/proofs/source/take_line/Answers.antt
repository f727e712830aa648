use Rattle.std.proofs.Common.{◌∙◌, ◌++◌, ◌∷◌, [], List, ℕ, ap, take}
use Rattle.ceal_serve.proofs.Sources.{takes-line}
use Rattle.ceal_serve.proofs.source.take_line.Goals as goal

pub returns-clause-taken : goal.returns-clause-taken
returns-clause-taken c =
    takes-line _ _ _ _ (take c.args.end c.rest.result.now) _ _ c.requires.line (ap (take c.args.end) c.rest.ensures.rest) c.is_mark-marked.ensures
    (c.in_ok-push.ensures.items ∙ ap (λ (l : List ℕ). l ++ 10 ∷ []) c.in_ok-extend_from_slice.ensures.items) c.take.ensures
