-- What the next step of trace code is. Running, replaying and repairing all use this one function.
use Rattle.std.specs.Prelude.{ℕ, ◌+◌, ◌==◌, Option, Some, None, List, [], ◌∷◌, length, slice_get, unwrap_or}
use Rattle.std.specs.Prelude.{if◌then◌else◌}
use Rattle.ceal_base.specs.Access.{holds}
use Rattle.ceal_base.specs.Shapes.{default_of}
use Rattle.ceal_base.specs.declared.forest.Key.{Key}
use Rattle.ceal_base.specs.declared.forest.Key.TheVariants.{Init, ModInt as IntKey, ModPtr as PtrKey}
use Rattle.ceal_base.specs.declared.forest.UnitId.{UnitId}
use Rattle.ceal_base.specs.declared.kind.Kind.{Kind}
use Rattle.ceal_base.specs.declared.kind.Shape.{Shape}
use Rattle.ceal_base.specs.declared.kind.Shape.TheVariants.{Struct, ModInt, ModPtr}
use Rattle.ceal_base.specs.declared.word.Place.{Place}
use Rattle.ceal_base.specs.declared.word.Word.{Word}
use Rattle.ceal_base.specs.declared.word.Word.TheVariants.{Num, Null, Block as BlockWord, At}
use Rattle.ceal_code.specs.Program.{Unit, Code}
use Rattle.ceal_code.specs.Value.{Plain, Variables, unset, set, expr_value, values}
use Rattle.ceal_code.specs.declared.command.Cmd.{Cmd}
use Rattle.ceal_code.specs.declared.command.Cmd.TheVariants.{Move, Tick, Alloc, Modref, Write, If, Done, Tail, Read}
use Rattle.ceal_code.specs.declared.command.Cmd.TheVariants.{Call}
use Rattle.ceal_code.specs.declared.expr.VarId.{VarId}
use Rattle.ceal_code.specs.declared.function.FunctionCode.{FunctionCode}
use Rattle.ceal_code.specs.declared.function.FunctionCode.TheVariants.{Core as CoreFunction, Init as InitFunction}

-- a number without a unit has no parameters and is done
abbrev pub unit_at : Code → ℕ → Unit
unit_at code u = unwrap_or (slice_get code.units u) (record { function = 0; params = []; body = [] })

-- past the end of a body it is done
abbrev pub command_at : Code → ℕ → ℕ → Cmd
command_at code u i = unwrap_or (slice_get (unit_at code u).body i) Done

-- the unit at which a function is entered; no unit, where it is no core function
abbrev pub entry_in : Code → Option FunctionCode → ℕ
entry_in code (Some (CoreFunction name entry params)) = entry.0
entry_in code (Some (InitFunction name s params body)) = length code.units
entry_in code None = length code.units

-- the unit in which a call of the function begins; of what is no core function it is one that is not there
abbrev pub entry_of : Code → ℕ → ℕ
entry_of code f = entry_in code (slice_get code.functions f)

-- the kinds of the variables of a function
abbrev pub kinds_of : Code → ℕ → List Kind
kinds_of code f = unwrap_or (slice_get code.kinds f) []

-- what a read through null gives to a variable of the unit's function
abbrev pub variable_default : Code → ℕ → ℕ → Word
variable_default code u v = default_of (slice_get (kinds_of code (unit_at code u).function) v)

-- units still to do, each at an index of its body and with its variables; the running one first
pub data Stack : Type 0 where
  Empty : Stack
  Run : (unit index : ℕ) (env : Variables) (below : Stack) → Stack

-- the words of parameters
unfoldable pub bound : List VarId → List Word → Variables
bound [] words = unset
bound (p ∷ ps) [] = unset
bound (p ∷ ps) (word ∷ words) = set (bound ps words) p.0 word

-- a unit at its beginning, with a word for each of its parameters
abbrev pub entered : Code → ℕ → List Word → Stack → Stack
entered code u words below = Run u 0 (bound (unit_at code u).params words) below

-- the words of those parameters of a function that its entry unit has
unfoldable pub chosen : List VarId → List Word → List Word
chosen [] args = []
chosen (p ∷ ps) args = unwrap_or (slice_get args p.0) Null ∷ chosen ps args

-- a call of the function by itself, on words for all its parameters
abbrev pub started : Code → ℕ → List Word → Stack
started code f args = entered code (entry_of code f) (chosen (unit_at code (entry_of code f)).params args) Empty

-- the first of the words; null, where there is none
abbrev pub first_word : List Word → Word
first_word [] = Null
first_word (word ∷ words) = word

-- the words after the first
abbrev pub later_words : List Word → List Word
later_words [] = []
later_words (word ∷ words) = words

-- a word for each of the parameters: the value for the variable, and the arguments in turn for the others
unfoldable pub woven : List VarId → ℕ → Word → List Word → List Word
woven [] v value args = []
woven (p ∷ ps) v value args =
    if p.0 == v then value ∷ woven ps v value args else first_word args ∷ woven ps v value (later_words args)

-- the words of a unit that continues after a read
abbrev pub words_after_read : Code → ℕ → ℕ → List Word → Word → List Word
words_after_read code u v args value = woven (unit_at code u).params v value args

-- what the next step of a stack is; each but `Over` takes one step
pub data Act : Type 0 where
  -- nothing is left
  Over : Act
  -- a step that no trace has more of
  Quiet : (after : Stack) → Act
  -- a new block for this key, to which the variable then points
  Makes : (key : Key) (var unit index : ℕ) (env : Variables) (below : Stack) → Act
  Writes : (place : Place) (value : Word) (after : Stack) → Act
  -- the unit continues with the content for the variable and with the arguments; `below` comes after it
  Reads : (place : Place) (unit : UnitId) (var : ℕ) (args : List Word) (below : Stack) → Act

-- a modifiable by itself; no shape but its own two has a key of this sort
abbrev pub key_of : Shape → Key
key_of ModInt = IntKey
key_of (ModPtr s) = PtrKey s
key_of (Struct s) = IntKey

-- a word that is no place counts as null
abbrev pub place_of : Word → Option Place
place_of (At p) = Some p
place_of (Num n) = None
place_of Null = None
place_of (BlockWord b) = None

-- a write at a place; where there is none, a step that changes nothing
abbrev pub writes_at : Option Place → Word → Stack → Act
writes_at None value after = Quiet after
writes_at (Some p) value after = Writes p value after

-- a read at a place; where there is none, its unit continues with the default
abbrev pub reads_at : Code → Option Place → UnitId → ℕ → List Word → Stack → Act
reads_at code None u v args below =
    Quiet (entered code u.0 (words_after_read code u.0 v args (variable_default code u.0 v)) below)
reads_at code (Some p) u v args below = Reads p u v args below

-- the step of a command at an index of a unit
abbrev pub act : Code → Plain → Cmd → ℕ → ℕ → Variables → Stack → Act
act code x (Move v e) u i env below = Quiet (Run u (i + 1) (set env v.0 (expr_value code.structs x env e)) below)
act code x Tick u i env below = Quiet (Run u (i + 1) env below)
act code x (Alloc v f args) u i env below = Makes (Init f (values code.structs x env args)) v.0 u (i + 1) env below
act code x (Modref v shape) u i env below = Makes (key_of shape) v.0 u (i + 1) env below
act code x (Write p e) u i env below =
    writes_at (place_of (expr_value code.structs x env p)) (expr_value code.structs x env e) (Run u (i + 1) env below)
act code x (If test first second) u i env below =
    Quiet (Run u (if holds (expr_value code.structs x env test) then first else second) env below)
act code x Done u i env below = Over
act code x (Tail w args) u i env below = Over
act code x (Read v p w args) u i env below =
    reads_at code (place_of (expr_value code.structs x env p)) w v.0 (values code.structs x env args) below
act code x (Call f args w rest) u i env below =
    Quiet (entered code (entry_of code f) (values code.structs x env args)
    (entered code w.0 (values code.structs x env rest) below))

-- where a tail call arrives; on a command that is again a tail, which valid code has not, the activation ends
abbrev pub landed : Cmd → Stack → Stack → Stack
landed Done arrived rest = rest
landed (Tail w args) arrived rest = rest
landed c arrived rest = arrived

-- `Done` and `Tail` take no step
abbrev pub stack_after_quiet_at : Code → Plain → Cmd → ℕ → ℕ → Variables → Stack → Stack → Stack
stack_after_quiet_at code x Done u i env below rest = rest
stack_after_quiet_at code x (Tail w args) u i env below rest =
    landed (command_at code w.0 0) (entered code w.0 (values code.structs x env args) below) rest
stack_after_quiet_at code x c u i env below rest = Run u i env below

-- the stack after commands that take no step
unfoldable pub stack_after_quiet : Code → Plain → Stack → Stack
stack_after_quiet code x Empty = Empty
stack_after_quiet code x (Run u i env below) =
    stack_after_quiet_at code x (command_at code u i) u i env below (stack_after_quiet code x below)

-- the next step of a stack
abbrev pub acted : Code → Plain → Stack → Act
acted code x Empty = Over
acted code x (Run u i env below) = act code x (command_at code u i) u i env below

-- the next step, from plain words and a stack
unfoldable pub next : Code → Plain → Stack → Act
next code x st = acted code x (stack_after_quiet code x st)
