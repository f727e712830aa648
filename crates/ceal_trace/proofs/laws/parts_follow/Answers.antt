use Rattle.ceal_trace.proofs.Parting.{unclosed-append}
use Rattle.ceal_trace.proofs.Parts.{stamps-append, forest-append, sum-append}
use Rattle.ceal_trace.proofs.laws.parts_follow.Goals as goal

pub returns : goal.returns
returns c = record { stamps = stamps-append; items = forest-append; steps = sum-append; unclosed = unclosed-append }
