use Rattle.std.proofs.Common.{◌∙◌, sym, ap}
use Rattle.std.specs.Option.{option_copied}
use Rattle.ceal_cli.specs.Lines.{lines_left}
use Rattle.ceal_cli.proofs.Inputs.ScriptLines.{lines_cut, copied_some}
use Rattle.ceal_cli.proofs.lines.ScriptLines.next.Goals as goal

pub returns : goal.returns
returns c =
    sym c.self.view_is ∙ ap (λ r. lines_left (option_copied r)) c.in-Some.is
    ∙ lines_cut c.in-Some.rest.now c.cut_line.result.0.now c.line.result.now (option_copied c.cut_line.result.1) c.is_some.result
    c.cut_line.ensures.lines (c.is_some.ensures ∙ copied_some _) c.line.ensures
