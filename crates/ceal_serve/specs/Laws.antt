-- What is said is what `ceal run` writes.
use Rattle.std.specs.Prelude.{◌≡◌, ◌<◌, ◌≤◌, ◌^◌, ℕ, Bool, true, List, [], ◌++◌, length}
use Rattle.ceal_base.specs.declared.fault.Fault.{Fault}
use Rattle.ceal_compile.specs.Source.{IsFirstFault}
use Rattle.ceal_cli.specs.Output.{IsAnswer, IsOutput, IsPrefix, IsRefusal}
use Rattle.ceal_cli.specs.declared.words.Mode.TheVariants.{Run}
use Rattle.ceal_serve.specs.Exchange.{Exchange}
use Rattle.ceal_serve.specs.Turns.{IsBeginning, IsSaidFor, IsServed, IsTurnedAway}

-- The replies to a text are those that `ceal run` writes for it, if that can count its bytes.
abbrev pub ServedLaw : Type 0
ServedLaw =
    (fuel : ℕ) (ended : Bool) (text said : List ℕ) → length text < 2 ^ 32 → IsServed fuel ended text said
    → IsAnswer (Run fuel) text said

-- So is the line of a first fault, also where the text continues after the mark.
abbrev pub TurnedAwayLaw : Type 0
TurnedAwayLaw =
    (fuel : ℕ) (ended : Bool) (text more said : List ℕ) → length (text ++ more) < 2 ^ 32
    → IsTurnedAway ended text said → (ended ≡ true → more ≡ []) → IsRefusal (Run fuel) (text ++ more) said

-- One text at most is said for a text: it depends neither on the pieces in which that came nor on what hashes begin
-- with.
abbrev pub OneSaidLaw : Type 0
OneSaidLaw =
    (fuel : ℕ) (text one other : List ℕ) → length text < 2 ^ 32 → IsSaidFor fuel text one → IsSaidFor fuel text other
    → one ≡ other

-- However what was heard continues, what was said is the beginning of what `ceal run` writes for the whole.
abbrev pub BeginningLaw : Type 0
BeginningLaw =
    (e : Exchange) (more out : List ℕ) → IsBeginning e → (e.ended ≡ true → more ≡ [])
    → length (e.heard ++ more) < 2 ^ 32 → IsOutput (Run e.fuel) (e.heard ++ more) out → IsPrefix e.said out

-- The first fault of a text is in it, or at its end.
abbrev pub PlacedLaw : Type 0
PlacedLaw = (text : List ℕ) (fault : Fault) → IsFirstFault text fault → fault.span.from ≤ length text
