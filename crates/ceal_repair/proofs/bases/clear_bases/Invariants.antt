use Rattle.std.proofs.Common.{pos}
use Rattle.ceal_base.specs.declared.word.Word.TheVariants.{Num}
use Rattle.ceal_repair.proofs.Runs.BlockBases.{Setting}
use Rattle.ceal_repair.proofs.bases.clear_bases.Given as goal

abbrev pub invariant-loop-field : goal.invariant-loop-field
invariant-loop-field l = Setting l.structs l.id l.before (λ field. Num (pos 0)) l.fn.tables l.tables l.field
