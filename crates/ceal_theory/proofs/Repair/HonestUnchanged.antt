-- Where the items are honest on the present store, a repair leaves them, with no work.
use Rattle.std.proofs.Common.{ℕ, refl}
use Rattle.ceal_base.specs.Block.{Block}
use Rattle.ceal_base.specs.Trace.{Trace}
use Rattle.ceal_code.specs.Program.{Code}
use Rattle.ceal_code.specs.Replay.{plain_of, IsHonest}
use Rattle.std.specs.Prelude.{List}
use Rattle.ceal_theory.proofs.Store.Walk.{walk-fix}
use Rattle.ceal_theory.specs.Adjust.{Adjusts}
use Rattle.ceal_theory.specs.Repair.{own, begins}
use Rattle.ceal_theory.specs.Walk.{with_store}

pub adjust-same : (code : Code) (inputs : List Block) (number : ℕ) (l : Trace) → IsHonest code inputs l → Adjusts code inputs number l l 0
adjust-same code inputs number l h = record {
  after = with_store (begins code inputs (plain_of code inputs l) number) h.after;
  fix = walk-fix code own h.walk (begins code inputs (plain_of code inputs l) number) refl;
  counted = refl;
}
