-- Laws of the code of a program, and of accepted inputs.
use Rattle.std.specs.Prelude.{◌≡◌, ℕ, ◌&&◌, Bool, false, Option, Some, None, List, is_none, slice_get, take}
use Rattle.ceal_base.specs.Block.{Blocks}
use Rattle.ceal_base.specs.Fitting.{words_fit}
use Rattle.ceal_base.specs.declared.typed.StructInfo.{StructInfo}
use Rattle.ceal_base.specs.declared.typed.Typed.{Typed}
use Rattle.ceal_base.specs.declared.typed.TypedFunction.{TypedFunction}
use Rattle.ceal_base.specs.declared.word.Word.{Word}
use Rattle.ceal_code.specs.Fitting.{args_fit}
use Rattle.ceal_code.specs.Program.{Code}
use Rattle.ceal_compile.specs.Compiled.{IsCodeOf, IsCompiled}
use Rattle.ceal_compile.specs.Source.{IsAccepted, IsProgram}
use Rattle.ceal_compile.specs.declared.program.Program.{Program}

-- A program has one code.
abbrev pub OneCodeLaw : Type 0
OneCodeLaw = (p : Typed) (c d : Code) → IsCodeOf p c → IsCodeOf p d → c ≡ d

-- Each program has a code.
abbrev pub SomeCodeLaw : Type 0
SomeCodeLaw = (p : Typed) → (code : Code) × IsCodeOf p code

-- The code of a program has the program's structs.
abbrev pub StructsLaw : Type 0
StructsLaw = (p : Typed) (code : Code) → IsCodeOf p code → code.structs ≡ p.structs

-- a core function, and words that fit its parameters
abbrev pub call_fits : List StructInfo → Blocks → Option TypedFunction → List Word → Bool
call_fits structs m None words = false
call_fits structs m (Some f) words = is_none f.initialiser && words_fit structs m (take f.params f.kinds) words

-- The arguments of a call fit the code's function exactly when they fit the program's.
abbrev pub CallsLaw : Type 0
CallsLaw =
    (p : Typed) (code : Code) → IsCodeOf p code → (structs : List StructInfo) (m : Blocks) (f : ℕ) (args : List Word)
    → args_fit structs m (slice_get code.functions f) args ≡ call_fits structs m (slice_get p.functions f) args

-- The program of an input and its code are a compiled program: well typed, and with code that is valid and
-- means what it means.
abbrev pub CompiledLaw : Type 0
CompiledLaw = (input : List ℕ) (p : Program) → IsProgram input p.typed → IsCodeOf p.typed p.code → IsCompiled p

-- So each accepted input has one.
abbrev pub SomeCompiledLaw : Type 0
SomeCompiledLaw = (input : List ℕ) → IsAccepted input
    → (p : Program) × IsProgram input p.typed × IsCompiled p
