-- The words of the command line, and the line of a status.
use Rattle.std.specs.Prelude.{ℕ, List, [], ◌∷◌, codes}
use Rattle.ceal_cli.specs.Modes.{Text, Asks}
use Rattle.ceal_cli.specs.declared.top.Status.{Status}
use Rattle.ceal_cli.specs.declared.top.Status.TheVariants.{Done, Refused, Usage, TooLong, Memory, ReadFault, WriteFault}
use Rattle.ceal_cli.specs.declared.words.Mode.TheVariants.{Run}

-- The words ask for a conversation in which a run may take this many steps, as those of `ceal run` after its first
-- word.
abbrev pub AskToServe : List Text → ℕ → Type 0
AskToServe words fuel = Asks (codes "run" ∷ words) (Run fuel)

abbrev pub AskForNothing : List Text → Type 0
AskForNothing words = (fuel : ℕ) → ¬ AskToServe words fuel

abbrev pub status_text : Status → List ℕ
status_text Done = []
status_text Refused = []
status_text Usage = codes "usage: ceal_serve [--fuel N]\n"
status_text TooLong = codes "ceal_serve: source text or line longer than 4194304 bytes\n"
status_text Memory = codes "ceal_serve: out of memory\n"
status_text ReadFault = codes "ceal_serve: reading failed\n"
status_text WriteFault = codes "ceal_serve: writing failed\n"
