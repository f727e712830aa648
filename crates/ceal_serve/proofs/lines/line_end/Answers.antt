use Rattle.std.proofs.Common.{sym}
use Rattle.ceal_serve.proofs.FirstLine.{finds}
use Rattle.ceal_serve.proofs.lines.line_end.Goals as goal

pub returns : goal.returns
returns c = finds c.args.text.now c.line_feed.result (sym c.line_feed.ensures)
