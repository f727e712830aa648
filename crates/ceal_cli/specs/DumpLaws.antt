-- What `dump` writes, beside what `save` and `verify` write.
use Rattle.std.specs.Prelude.{◌≡◌, ◌⊎◌, ℕ, ◌<◌, ◌^◌, true, List, ◌++◌, length}
use Rattle.ceal_dump.specs.DumpText.{dump_text}
use Rattle.ceal_lex.specs.Parts.{source_of}
use Rattle.ceal_session.specs.AfterLine.{IsAllowed}
use Rattle.ceal_snap.specs.SaveText.{Save}
use Rattle.ceal_traceck.specs.declared.verdict.Verdict.TheVariants.{Yes}
use Rattle.ceal_cli.specs.Dumps.{no_run_text}
use Rattle.ceal_cli.specs.Output.{Programmed, IsAnswer, first_state, lines_after_mark}
use Rattle.ceal_cli.specs.ReadBack.{IsDumpAfter}
use Rattle.ceal_cli.specs.Saves.{mark_line, with_source}
use Rattle.ceal_cli.specs.Verdicts.{verdict_text}
use Rattle.ceal_cli.specs.declared.words.Mode.TheVariants.{Dump, Verify, Save as SaveMode}

-- What `save` writes is the source part, a line `%%` and a save, whose record is that of which `dump` writes
-- the text; or both say that there is no run.
abbrev pub EndsWithDump : ℕ → List ℕ → List ℕ → Type 0
EndsWithDump fuel input out =
    ((out ≡ no_run_text) × IsAnswer (Dump fuel) input no_run_text)
    ⊎ (p : Programmed input) × (s : Save) × (out ≡ with_source (source_of input p.part) s)
    × IsAnswer (Dump fuel) input (dump_text s.kept)

-- So the dump is the tail of the save.
abbrev pub TailLaw : Type 0
TailLaw = (fuel : ℕ) (input out : List ℕ) → IsAnswer (SaveMode fuel) input out → EndsWithDump fuel input out

-- The source part of an input, a line `%%` and what `dump` wrote of a run of it are an input again.
pub record DumpsAgain (fuel : ℕ) (input written again : List ℕ) : Type 0 where
  pub first : Programmed input
  pub allowed : IsAllowed fuel
  pub marked : first.part.marked ≡ true
  pub dumped : IsDumpAfter first.code (first_state first fuel) (lines_after_mark first) written
  pub again_is : again ≡ source_of input first.part ++ (mark_line ++ written)
  pub small : length again < 2 ^ 32

-- To it `verify` answers yes.
abbrev pub DumpVerifiedLaw : Type 0
DumpVerifiedLaw = (fuel : ℕ) (input written again : List ℕ) → DumpsAgain fuel input written again
    → IsAnswer Verify again (verdict_text Yes)
