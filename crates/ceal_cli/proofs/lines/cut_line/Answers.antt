use Rattle.std.proofs.Common.{eqb, sym, ◌∙◌}
use Rattle.std.proofs.lemmas.List.{take_rest}
use Rattle.ceal_cli.proofs.Inputs.FirstLineFeed.{cut_some, cut_none, whole_text}
use Rattle.ceal_cli.proofs.lines.cut_line.Goals as goal

pub returns-in-Some : goal.returns-in-Some
returns-in-Some c =
    let found = sym c.line_end.ensures ∙ c.in-Some.is in
    let cut = cut_some (λ b. eqb b 10) c.args.text.now c.in-Some.at found in
    simp (take_rest) (record { lines = cut.1; whole = whole_text _ _ found cut.0 })

pub returns-in-None-clause-lines : goal.returns-in-None-clause-lines
returns-in-None-clause-lines c = cut_none (λ b. eqb b 10) c.args.text.now (sym c.line_end.ensures ∙ c.in-None.is)
