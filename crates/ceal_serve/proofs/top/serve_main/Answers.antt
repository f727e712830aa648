use Rattle.ceal_serve.proofs.Asked.{asked-begins, begun-asked}
use Rattle.ceal_serve.proofs.top.serve_main.Goals as goal

pub serve-requires-clause-begun : goal.serve-requires-clause-begun
serve-requires-clause-begun g c = begun-asked _ c.in-Ok-Some.fuel _ (rw c.in-Ok-Some.field-0-is at c.in-Ok-Some.ensures) c.requires.begun

pub returns-in-Ok-Some-clause-undefined : goal.returns-in-Ok-Some-clause-undefined
returns-in-Ok-Some-clause-undefined g c =
    let asked = rw c.in-Ok-Some.field-0-is at c.in-Ok-Some.ensures in
    λ none. absurd (none c.in-Ok-Some.fuel asked)

pub returns-in-Ok-Some-clause-untouched : goal.returns-in-Ok-Some-clause-untouched
returns-in-Ok-Some-clause-untouched g c =
    let asked = rw c.in-Ok-Some.field-0-is at c.in-Ok-Some.ensures in
    λ none. absurd (none c.in-Ok-Some.fuel asked)

pub returns-in-Err-clause-beginning : goal.returns-in-Err-clause-beginning
returns-in-Err-clause-beginning g c = λ some. asked-begins _ _ some c.requires.begun
