-- What each command is answered, and the state after it.
use Rattle.std.specs.Prelude.{◌≡◌, ℕ, Bool, true, false, ◌||◌, ◌&&◌, Option, Some, None, is_some, is_none, Result, Ok}
use Rattle.std.specs.Prelude.{Err, List, [], ◌∷◌, ◌++◌, map, take, slice_get, bytes_eq, if◌then◌else◌}
use Rattle.std.specs.List.{list_any}
use Rattle.ceal_base.specs.Block.{Block, written_at}
use Rattle.ceal_base.specs.Fitting.{kind_at, fits_field, words_fit, block_fits}
use Rattle.ceal_base.specs.declared.kind.FieldKind.{FieldKind}
use Rattle.ceal_base.specs.declared.kind.Shape.{Shape}
use Rattle.ceal_base.specs.declared.typed.TypedFunction.{TypedFunction}
use Rattle.ceal_base.specs.declared.word.Place.{Place}
use Rattle.ceal_base.specs.declared.word.Word.{Word}
use Rattle.ceal_base.specs.declared.word.Word.TheVariants.{At}
use Rattle.ceal_script.specs.declared.command.Command.{Command}
use Rattle.ceal_script.specs.declared.command.Command.TheVariants.{Blank, Mod, New, Set, Run, Propagate, Slice, Get}
use Rattle.ceal_script.specs.declared.command.Command.TheVariants.{Show, Blocks, Steps, Work, Bound}
use Rattle.ceal_session.specs.Runs.{memory_of, run_of, with_run, with_part}
use Rattle.ceal_session.specs.Senses.{place_sense, value_sense, is_unknown, words_of, mod_shape, struct_shape}
use Rattle.ceal_session.specs.Senses.{struct_named, function_named, input_named}
use Rattle.ceal_session.specs.declared.refusal.Refusal.{Refusal}
use Rattle.ceal_session.specs.declared.refusal.Refusal.TheVariants.{C1, C2, C3, C4, C5, C6, C7, C8}
use Rattle.ceal_session.specs.declared.reply.Query.{Query}
use Rattle.ceal_session.specs.declared.reply.Query.TheVariants.{Get as GetOf, Show as ShowOf, Blocks as BlocksOf}
use Rattle.ceal_session.specs.declared.reply.Query.TheVariants.{Steps as StepsOf, Work as WorkOf, Bound as BoundOf}
use Rattle.ceal_session.specs.declared.reply.Reply.{Reply}
use Rattle.ceal_session.specs.declared.reply.Reply.TheVariants as reply
use Rattle.ceal_session.specs.declared.reply.Reply.TheVariants.{Refused, Told}
use Rattle.ceal_session.specs.declared.sense.Sense.{Sense}
use Rattle.ceal_session.specs.declared.sense.Sense.TheVariants.{Word as IsWord}
use Rattle.ceal_base.specs.declared.call.Call.{Call}
use Rattle.ceal_session.specs.State.{State}

-- a reply, and the state after it
pub record Step : Type 0 where
  pub reply : Reply
  pub state : State

-- a reply after which nothing has changed
abbrev pub IsQuiet : Reply → Type 0
IsQuiet reply.Ok = ⊥
IsQuiet reply.OutOfFuel = ⊥
IsQuiet reply.More = ⊥
IsQuiet reply.Done = ⊥
IsQuiet _ = Unit {0}

-- a line that changes nothing
abbrev pub stays : State → Reply → Step
stays s reply = record { reply = reply; state = s }

abbrev pub refuses : State → Refusal → Step
refuses s r = stays s (Refused r)

-- `mod` and `new`: one more input
abbrev pub with_input : State → List ℕ → Block → State
with_input s name block =
    record s { names = s.names ++ name ∷ []; inputs = s.inputs ++ block ∷ []; settled = s.settled ++ block ∷ [] }

abbrev pub block_of : Shape → List Word → Block
block_of shape words = record { shape = shape; words = words }

abbrev pub step_if_fits : State → List ℕ → Block → Bool → Step
step_if_fits s name block fits = if fits then stays (with_input s name block) reply.Ok else refuses s C4

abbrev pub step_of_words : State → List ℕ → Shape → Option (List Word) → Step
step_of_words s name shape None = refuses s C4
step_of_words s name shape (Some words) =
    step_if_fits s name (block_of shape words) (block_fits s.program.structs (memory_of s) (block_of shape words))

abbrev pub step_of_input : State → List ℕ → Shape → List Sense → Step
step_of_input s name shape senses =
    if list_any is_unknown senses then refuses s C2
    else if list_any (bytes_eq name) s.names then refuses s C3
    else step_of_words s name shape (words_of senses)

abbrev pub step_of_shape : State → List ℕ → Option Shape → List Sense → Step
step_of_shape s name None senses = refuses s C2
step_of_shape s name (Some shape) senses = step_of_input s name shape senses

-- `set`: another base
abbrev pub with_base : State → Place → Word → State
with_base s p word = record s { inputs = (written_at (memory_of s) p.block p.field word).inputs; pending = true }

abbrev pub fits_cell : State → Option FieldKind → Word → Bool
fits_cell s None word = false
fits_cell s (Some kind) word = fits_field s.program.structs (memory_of s) kind word

abbrev pub step_of_base : State → Place → Word → Step
step_of_base s p word =
    if fits_cell s (kind_at s.program.structs (memory_of s) p) word then stays (with_base s p word) reply.Ok
    else refuses s C4

abbrev pub step_of_word : State → Sense → Sense → Step
step_of_word s (IsWord (At p)) (IsWord word) = step_of_base s p word
step_of_word s _ _ = refuses s C4

abbrev pub step_of_set : State → Sense → Sense → Step
step_of_set s place value = if is_unknown place || is_unknown value then refuses s C2 else step_of_word s place value

-- `run`: the call, or why there is none
abbrev pub fits_function : State → TypedFunction → List Word → Bool
fits_function s f words =
    is_none f.initialiser && words_fit s.program.structs (memory_of s) (take f.params f.kinds) words

abbrev pub call_of_words : State → ℕ → TypedFunction → Option (List Word) → Result Call Refusal
call_of_words s n f None = Err C5
call_of_words s n f (Some words) =
    if fits_function s f words
    then if is_some s.call then Err C6 else Ok (record { function = n; args = words })
    else Err C5

abbrev pub call_of_function : State → ℕ → Option TypedFunction → List Sense → Result Call Refusal
call_of_function s n None senses = Err C2
call_of_function s n (Some f) senses =
    if list_any is_unknown senses then Err C2 else call_of_words s n f (words_of senses)

abbrev pub call_of_run : State → Option ℕ → List Sense → Result Call Refusal
call_of_run s None senses = Err C2
call_of_run s (Some n) senses = call_of_function s n (slice_get s.program.functions n) senses

-- the call is that of a core function, on words that fit
abbrev pub is_call_of : State → Option TypedFunction → List Word → Bool
is_call_of s None words = false
is_call_of s (Some f) words = fits_function s f words

abbrev pub IsCall : State → Call → Type 0
IsCall s call = is_call_of s (slice_get s.program.functions call.function) call.args ≡ true

-- such a call, where none was accepted before
pub record IsFirst (s : State) (call : Call) : Type 0 where
  pub fits : IsCall s call
  pub none : s.call ≡ None

-- `propagate`: the call of the accepted `run`
abbrev pub call_again : Option Call → Result Call Refusal
call_again None = Err C7
call_again (Some call) = Ok call

-- The table of replies to a line that runs. `reads` is how many stale reads it re-executes at most, where it says so,
-- `more` whether a repair is in progress after it, and `out` whether the run from scratch is out of fuel.
abbrev pub run_reply : Option ℕ → Bool → Bool → Reply
run_reply None more true = reply.OutOfFuel
run_reply None more false = reply.Ok
run_reply (Some reads) true out = reply.More
run_reply (Some reads) false true = reply.OutOfFuel
run_reply (Some reads) false false = reply.Done

-- the state after it, by the same
abbrev pub state_after_run : State → Call → Option ℕ → Bool → Bool → State
state_after_run s call None more out = with_run s call out
state_after_run s call (Some reads) true out = with_part s
state_after_run s call (Some reads) false out = with_run s call out

-- a line that runs: the run from scratch on the inputs of this moment, or a part of a repair that continues
abbrev pub runs : State → Option ℕ → Bool → Result Call Refusal → Step
runs s reads more (Err r) = refuses s r
runs s reads more (Ok call) = record {
  reply = run_reply reads more (is_none (run_of s call));
  state = state_after_run s call reads more (is_none (run_of s call));
}

-- a question: there is a run that was not out of fuel, and no edit came after it, and no repair is pending
abbrev pub has_no_run : State → Bool
has_no_run s = s.out_of_fuel || is_none s.call

abbrev pub reply_to_query : State → Query → Reply
reply_to_query s q = if has_no_run s then Refused C7 else if s.pending then Refused C8 else Told q

-- `get`: only a modifiable has a content
abbrev pub reply_to_get : State → Sense → Reply
reply_to_get s (IsWord (At p)) = reply_to_query s (GetOf p)
reply_to_get s sense = if is_unknown sense then Refused C2 else Refused C4

abbrev pub reply_to_show : State → Option ℕ → Reply
reply_to_show s None = Refused C2
reply_to_show s (Some n) = reply_to_query s (ShowOf n)

-- the call of a line that runs
abbrev pub call_of : State → Command → Result Call Refusal
call_of s (Run function args) = call_of_run s (function_named s function) (map (value_sense s) args)
call_of s Propagate = call_again s.call
call_of s (Slice reads) = call_again s.call
call_of s _ = Err C1

-- how many stale reads a line re-executes at most, where it says so
abbrev pub reads_of : Command → Option ℕ
reads_of (Slice reads) = Some reads
reads_of _ = None

-- what a command is answered; `more` says whether a repair is in progress after it, which a part of a repair uses
abbrev pub step_of_command : State → Bool → Command → Step
step_of_command s more Blank = stays s reply.Nothing
step_of_command s more (Mod name kind value) = step_of_shape s name (mod_shape s kind) (value_sense s value ∷ [])
step_of_command s more (New name shape values) =
    step_of_shape s name (struct_shape (struct_named s shape)) (map (value_sense s) values)
step_of_command s more (Set place value) = step_of_set s (place_sense s place) (value_sense s value)
step_of_command s more (Run function args) =
    runs s None more (call_of_run s (function_named s function) (map (value_sense s) args))
step_of_command s more Propagate = runs s None more (call_again s.call)
step_of_command s more (Slice reads) = runs s (Some reads) more (call_again s.call)
step_of_command s more (Get place) = stays s (reply_to_get s (place_sense s place))
step_of_command s more (Show name) = stays s (reply_to_show s (input_named s name))
step_of_command s more Blocks = stays s (reply_to_query s BlocksOf)
step_of_command s more Steps = stays s (reply_to_query s StepsOf)
step_of_command s more Work = stays s (reply_to_query s WorkOf)
step_of_command s more Bound = stays s (reply_to_query s BoundOf)

-- what a line is answered that is this command's, or none's
abbrev pub step_of_line : State → Bool → Option Command → Step
step_of_line s more None = refuses s C1
step_of_line s more (Some command) = step_of_command s more command
