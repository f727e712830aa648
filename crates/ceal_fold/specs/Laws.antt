-- Laws of folding.
use Rattle.std.specs.Prelude.{◌≡◌, ℕ, true, List}
use Rattle.ceal_base.specs.Block.{Block}
use Rattle.ceal_base.specs.declared.word.Word.{Word}
use Rattle.ceal_code.specs.Fresh.{fresh}
use Rattle.ceal_code.specs.Program.{Code}
use Rattle.ceal_code.specs.Valid.{valid}
use Rattle.ceal_fold.specs.Folding.{folded}

-- the folding of valid code is valid
abbrev pub ValidLaw : Type 0
ValidLaw = (code : Code) → valid code ≡ true → valid (folded code) ≡ true

-- and runs as the code does
abbrev pub RunLaw : Type 0
RunLaw = (code : Code) → valid code ≡ true
    → (f : ℕ) (args : List Word) (inputs : List Block) (fuel : ℕ)
    → fresh (folded code) f args inputs fuel ≡ fresh code f args inputs fuel
