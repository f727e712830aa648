-- What a part of the reader answers.
use Rattle.std.specs.Prelude.{Result, Ok, Err, Option, Some, None}
use Rattle.ceal_script.specs.declared.line_error.LineError.{LineError}
use Rattle.ceal_script.specs.declared.line_error.LineError.TheVariants.{Memory, Unreadable}

-- What was found is such a value, and nothing is found only where there is none.
abbrev pub Finds : {A : Type 0} → Option A → (A → Type 0) → Type 0
Finds {A} None P = (x : A) → P x → ⊥
Finds {A} (Some x) P = P x

-- What was read is such a value, and a text is unreadable only where there is none.
abbrev pub Reads : {A : Type 0} → Result A LineError → (A → Type 0) → Type 0
Reads {A} (Ok x) P = P x
Reads {A} (Err Memory) P = Unit {0}
Reads {A} (Err Unreadable) P = (x : A) → P x → ⊥
