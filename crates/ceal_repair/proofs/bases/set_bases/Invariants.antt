use Rattle.ceal_repair.proofs.Runs.BlockBases.{Setting, field-word}
use Rattle.ceal_repair.proofs.bases.set_bases.Given as goal

abbrev pub invariant-loop-field : goal.invariant-loop-field
invariant-loop-field l = Setting l.structs l.id l.shape (field-word l.structs l.shape l.words) l.fn.tables l.tables l.field
