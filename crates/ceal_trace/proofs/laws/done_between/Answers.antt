use Rattle.ceal_trace.proofs.Parts.{entry-part, position-part, after-part, without-part, changed-part}
use Rattle.ceal_trace.proofs.laws.done_between.Goals as goal

pub returns : goal.returns
returns c = record { entry = entry-part; position = position-part; after = after-part; without = without-part; changed = changed-part }
