-- A call that may be run: a core function of valid code, on arguments and inputs that fit.
use Rattle.std.specs.Prelude.{◌≡◌, ℕ, Bool, true, false, Option, Some, None, List, [], slice_get}
use Rattle.ceal_base.specs.Block.{Block, Blocks}
use Rattle.ceal_base.specs.Fitting.{words_fit, inputs_fit}
use Rattle.ceal_base.specs.declared.typed.StructInfo.{StructInfo}
use Rattle.ceal_base.specs.declared.word.Word.{Word}
use Rattle.ceal_code.specs.Program.{Code}
use Rattle.ceal_code.specs.Valid.{valid}
use Rattle.ceal_code.specs.declared.function.FunctionCode.{FunctionCode}
use Rattle.ceal_code.specs.declared.function.FunctionCode.TheVariants.{Core as CoreFunction, Init as InitFunction}

-- one word for each parameter of the core function, which fits it in this memory
abbrev pub args_fit : List StructInfo → Blocks → Option FunctionCode → List Word → Bool
args_fit structs m (Some (CoreFunction name entry params)) args = words_fit structs m params args
args_fit structs m (Some (InitFunction name s params body)) args = false
args_fit structs m None args = false

-- the code is valid, and the inputs and the arguments of the call fit it
pub record Fits (code : Code) (inputs : List Block) (f : ℕ) (args : List Word) : Type 0 where
  pub is_valid : valid code ≡ true
  pub blocks : inputs_fit code.structs inputs ≡ true
  pub words : args_fit code.structs (record { inputs = inputs; made = [] }) (slice_get code.functions f) args ≡ true
