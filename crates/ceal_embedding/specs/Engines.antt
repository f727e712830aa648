-- What an engine of an example runs.
use Rattle.std.specs.Prelude.{◌≡◌, ℕ, Option, Some, List, [], ◌∷◌}
use Rattle.ceal_base.specs.Block.{Block}
use Rattle.ceal_base.specs.declared.call.Call.{Call}
use Rattle.ceal_base.specs.declared.kind.Shape.{Shape}
use Rattle.ceal_base.specs.declared.typed.Typed.{Typed}
use Rattle.ceal_base.specs.declared.word.BlockId.TheVariants.{Input}
use Rattle.ceal_base.specs.declared.word.Word.{Word}
use Rattle.ceal_base.specs.declared.word.Word.TheVariants.{At}
use Rattle.ceal_compile.specs.Compiled.{IsCodeOf}
use Rattle.ceal_compile.specs.Source.{IsProgram}
use Rattle.ceal_engine.specs.Engine.{EngineState}

-- it has the same code, and a run may take the same number of steps
pub record KeepsProgram (old new : EngineState) : Type 0 where
  pub code : new.code ≡ old.code
  pub fuel : new.fuel ≡ old.fuel

-- its code is that of the program of a source text
pub record HasCodeOf (source : List ℕ) (e : EngineState) : Type 0 where
  pub program : Typed
  pub is : IsProgram source program
  pub code : IsCodeOf program e.code

-- the block of an input of one word
abbrev pub one_word : Shape × Word → Block
one_word field = record { shape = field.0; words = field.1 ∷ [] }

-- the modifiable that an input is
abbrev pub modifiable : ℕ → Word
modifiable n = At (record { block = Input n; field = 0 })

-- the call of a function on the first two inputs
abbrev pub call_of : ℕ → Option Call
call_of function = Some (record { function = function; args = modifiable 0 ∷ modifiable 1 ∷ [] })
