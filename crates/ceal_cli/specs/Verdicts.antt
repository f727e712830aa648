-- What is written of a dump.
use Rattle.std.specs.Prelude.{◌≡◌, ◌⊎◌, ℕ, List, codes}
use Rattle.ceal_base.specs.declared.recorded.Record.{Record}
use Rattle.ceal_code.specs.Program.{Code}
use Rattle.ceal_dump.specs.DumpText.{IsDump}
use Rattle.ceal_traceck.specs.Verdicts.{Means}
use Rattle.ceal_traceck.specs.declared.verdict.Verdict.{Verdict}
use Rattle.ceal_traceck.specs.declared.verdict.Verdict.TheVariants.{Yes, NoFit, NotReplay, NotHonest, MemoryDiffers}

abbrev pub verdict_text : Verdict → List ℕ
verdict_text Yes = codes "yes\n"
verdict_text NoFit = codes "no K2: call does not fit\n"
verdict_text NotReplay = codes "no K3: not a replay\n"
verdict_text NotHonest = codes "no K4: not honest\n"
verdict_text MemoryDiffers = codes "no K5: memory differs\n"

abbrev pub unreadable_text : List ℕ
unreadable_text = codes "no K1: unreadable dump\n"

-- The bytes are the dump of no record.
abbrev pub IsNoDump : List ℕ → List ℕ → Type 0
IsNoDump bytes out = ((r : Record) → ¬ IsDump bytes r) × (out ≡ unreadable_text)

-- They are that of a record, and the line says what is wrong with it, or yes.
abbrev pub IsJudged : Code → List ℕ → List ℕ → Type 0
IsJudged code bytes out =
    (r : Record) × (v : Verdict) × IsDump bytes r × Means code r v × (out ≡ verdict_text v)

abbrev pub IsVerdictLine : Code → List ℕ → List ℕ → Type 0
IsVerdictLine code bytes out = IsNoDump bytes out ⊎ IsJudged code bytes out
