-- What a compiled program is.
use Rattle.std.specs.Prelude.{◌≡◌, ℕ, true, Result, Ok, Err, List, slice_get}
use Rattle.ceal_base.specs.Block.{Block}
use Rattle.ceal_base.specs.Usage.{IsCore, KeepsUsage}
use Rattle.ceal_base.specs.WellTyped.{WellTyped}
use Rattle.ceal_base.specs.declared.fault.FrontError.{FrontError}
use Rattle.ceal_base.specs.declared.typed.Typed.{Typed}
use Rattle.ceal_base.specs.declared.word.Word.{Word}
use Rattle.ceal_code.specs.Fresh.{fresh as code_fresh}
use Rattle.ceal_code.specs.Program.{Code}
use Rattle.ceal_code.specs.Valid.{valid}
use Rattle.ceal_compile.specs.declared.program.Program.{Program}
use Rattle.ceal_fold.specs.Folding.{folded}
use Rattle.ceal_mean.specs.Fresh.{fresh}
use Rattle.ceal_norm.specs.Laws.{AreUnitsOf}

-- every run of a core function ends with the same memory as that of the source, in as many steps and with as
-- many new blocks
abbrev pub Means : Code → Typed → Type 0
Means code p = (f : ℕ) (args : List Word) (inputs : List Block) (fuel : ℕ) → IsCore (slice_get p.functions f)
    → code_fresh code f args inputs fuel ≡ fresh p f args inputs fuel

-- The code is that of the program: its units, folded.
pub record IsCodeOf (p : Typed) (code : Code) : Type 0 where
  pub unfolded : Code
  pub units : AreUnitsOf p unfolded
  pub same : code ≡ folded unfolded

-- The code is that of the program. It is valid, and means what the source means.
pub record IsCompiled (p : Program) : Type 0 where
  pub typed : WellTyped p.typed
  pub usage : KeepsUsage p.typed
  pub code : IsCodeOf p.typed p.code
  pub valid : valid p.code ≡ true
  pub means : Means p.code p.typed

-- the source's tree in place of the program
abbrev pub typed_of : Result Program FrontError → Result Typed FrontError
typed_of r = elim r [ Ok p ↦ Ok p.typed | Err e ↦ Err e ]
