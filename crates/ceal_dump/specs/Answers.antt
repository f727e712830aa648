-- What a dump's reader answers.
use Rattle.std.specs.Prelude.{◌≡◌, ◌⊎◌, ℕ, List, Result, Ok, Err}
use Rattle.ceal_base.specs.declared.recorded.Record.{Record}
use Rattle.ceal_dump.specs.DumpText.{IsDump}
use Rattle.ceal_dump.specs.declared.read.DumpError.{DumpError}
use Rattle.ceal_dump.specs.declared.read.DumpError.TheVariants.{Memory, Unreadable}

-- the bytes are the dump of the record that is read, and are unreadable where they are that of none
abbrev pub IsRead : List ℕ → Result Record DumpError → Type 0
IsRead bytes (Ok r) = IsDump bytes r
IsRead bytes (Err Memory) = Unit {0}
IsRead bytes (Err Unreadable) = (r : Record) → IsDump bytes r → ⊥

-- bytes are the dump of one record at most
abbrev pub OneRecordLaw : Type 0
OneRecordLaw = (bytes : List ℕ) (r s : Record) → IsDump bytes r → IsDump bytes s → r ≡ s

-- and of one, or of none
abbrev pub DumpOrNoneLaw : Type 0
DumpOrNoneLaw = (bytes : List ℕ) → ((r : Record) × IsDump bytes r) ⊎ ((r : Record) → IsDump bytes r → ⊥)

-- the record that is read is this one
abbrev pub IsReadAs : Record → Result Record DumpError → Type 0
IsReadAs r (Ok s) = s ≡ r
IsReadAs r (Err Memory) = Unit {0}
IsReadAs r (Err Unreadable) = ⊥

-- of bytes that are the dump of a record a reader gives that record, if there is memory
abbrev pub ReadBackLaw : Type 0
ReadBackLaw = (bytes : List ℕ) (r : Record) (answer : Result Record DumpError)
    → IsDump bytes r → IsRead bytes answer → IsReadAs r answer
