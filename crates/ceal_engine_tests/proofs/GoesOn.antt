-- A repair holds on edited inputs.
use Rattle.std.proofs.Common.{ℕ, List}
use Rattle.ceal_base.specs.Block.{Block}
use Rattle.ceal_base.specs.declared.word.Word.{Word}
use Rattle.ceal_code.specs.Fitting.{Fits}
use Rattle.ceal_code.specs.Program.{Code}
use Rattle.ceal_adjust.specs.Slicing.{HoldsFor}
use Rattle.ceal_adjust.specs.declared.slices.Repair.{Repair}
use Rattle.ceal_theory.specs.Adjust.{Extended}
use Rattle.ceal_theory.specs.Repair.{own}
use Rattle.ceal_theory.specs.SliceLaws.{MoreLaw}

pub goes-on : MoreLaw → (code : Code) (old new : List Block) (f : ℕ) (args : List Word) (q : Repair) → HoldsFor code old f args q → Fits code new f args → Extended code old new
    → HoldsFor code new f args q
goes-on law code old new f args q h fits more = record {
  fits = fits;
  repair = h.repair;
  stands = h.stands;
  sound = law code own old new f args h.fits fits.blocks more h.repair h.sound;
}
