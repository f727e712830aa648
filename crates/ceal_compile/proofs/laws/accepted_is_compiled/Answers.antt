use Rattle.ceal_compile.proofs.Accepted.{compiled, some_compiled}
use Rattle.ceal_compile.proofs.Coded.{some_code}
use Rattle.ceal_compile.proofs.laws.accepted_is_compiled.Goals as goal

-- each pass keeps the meaning of what it takes, so an accepted input is compiled
pub returns : goal.returns
returns c =
    let whole = compiled c.typed_law.ensures.law c.kept_law.ensures.law c.run_law.ensures.law
    c.valid_law.ensures.law c.run_law-2.ensures.law c.valid_law-2.ensures.law c.run_law-3.ensures.law in
    record { compiled = whole; some = some_compiled whole (some_code c.some_law.ensures.law) }
