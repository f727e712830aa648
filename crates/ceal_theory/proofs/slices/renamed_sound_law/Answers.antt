use Rattle.ceal_theory.proofs.SlicedRepair.SliceLaws.{renamed-sound-law}
use Rattle.ceal_theory.proofs.slices.renamed_sound_law.Goals as goal

pub returns : goal.returns
returns c = record { law = renamed-sound-law }
