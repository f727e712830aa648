-- A trace on more inputs.
use Rattle.std.specs.Prelude.{◌≡◌, ℕ, ◌<◌, true, List, length}
use Rattle.ceal_base.specs.Block.{Block}
use Rattle.ceal_base.specs.Fitting.{inputs_fit}
use Rattle.ceal_base.specs.Trace.{Trace}
use Rattle.ceal_base.specs.declared.word.BlockId.TheVariants.{Input}
use Rattle.ceal_base.specs.declared.word.Word.{Word}
use Rattle.ceal_code.specs.Fitting.{Fits}
use Rattle.ceal_code.specs.Program.{Code}
use Rattle.ceal_code.specs.Replay.{bases, Replays, IsHonest}
use Rattle.ceal_theory.specs.Adjust.{Extended}

-- the old inputs have the bases that they had
abbrev pub SameBases : Code → List Block → List Block → Type 0
SameBases code old new = (i field : ℕ) → i < length old
    → bases code old (record { block = Input i; field = field })
    ≡ bases code new (record { block = Input i; field = field })

-- a trace of a call is one on inputs that extend the old ones; where no old base is another, it stays honest
pub record OnMore (code : Code) (old new : List Block) (f : ℕ) (args : List Word) (l : Trace) : Type 0 where
  pub call : Fits code new f args
  pub replays : Replays code new f args l
  pub honest : SameBases code old new → IsHonest code old l → IsHonest code new l

abbrev pub MoreInputsLaw : Type 0
MoreInputsLaw =
    (code : Code) (old new : List Block) (f : ℕ) (args : List Word) → Fits code old f args
    → inputs_fit code.structs new ≡ true → Extended code old new
    → (l : Trace) → Replays code old f args l → OnMore code old new f args l
