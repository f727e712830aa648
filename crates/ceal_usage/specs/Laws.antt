-- A law of usage.
use Rattle.std.specs.Prelude.{◌↔◌, IsOk}
use Rattle.ceal_base.specs.Usage.{KeepsUsage}
use Rattle.ceal_base.specs.declared.typed.Typed.{Typed}
use Rattle.ceal_usage.specs.Faults.{usage_faults}
use Rattle.ceal_usage.specs.Verdict.{verdict}

-- a program has no fault of usage exactly when it keeps the rules
abbrev pub KeptLaw : Type 0
KeptLaw = (p : Typed) → IsOk (verdict (usage_faults p)) ↔ KeepsUsage p
