-- Bytes are a save, or none.
use Rattle.std.proofs.Common.{inl, inr, ◌⊎◌, ℕ, ◌^◌, List, [], ◌∷◌, ◌++◌, length, refl}
use Rattle.std.specs.List.{AllByRecursion}
use Rattle.ceal_base.specs.declared.recorded.Record.{Record}
use Rattle.ceal_dump.proofs.Decided.{Decided, both, is-or-not, below-or-not, text-or-not, dump-or-none}
use Rattle.ceal_dump.specs.DumpText.{IsDump}
use Rattle.ceal_script.specs.Spelling.{is_name, IsName}
use Rattle.ceal_snap.proofs.Joined.{Joins, is-save, is-none, no-dump}
use Rattle.ceal_snap.specs.Answers.{SaveOrNoneLaw}
use Rattle.ceal_snap.specs.Reading.{head_at}
use Rattle.ceal_snap.specs.SaveText.{Save, head_text, IsSave}

names-or-not : (names : List (List ℕ)) → Decided (AllByRecursion IsName names)
names-or-not [] = inl tt
names-or-not (name ∷ names) = both (is-or-not (is_name name)) (names-or-not names)

joins-or-not : (bytes : List ℕ) (s : Save) (rest : List ℕ) → Decided (Joins bytes s rest)
joins-or-not bytes s rest = both (names-or-not s.names) (both (below-or-not (length s.names) (2 ^ 32)) (text-or-not bytes (head_text s ++ rest)))

-- the save of the lines at the front and of the record of what is left
abbrev with_record : List ℕ → Record → Save
with_record bytes r = record { fuel = (head_at bytes).fuel; work = (head_at bytes).work; bound = (head_at bytes).bound; names = (head_at bytes).names; kept = r }

abbrev SaveOrNone : List ℕ → Type 0
SaveOrNone bytes = ((s : Save) × IsSave bytes s) ⊎ ((s : Save) → IsSave bytes s → ⊥)

pub save-or-none : SaveOrNoneLaw
save-or-none bytes = by-dump (dump-or-none (head_at bytes).rest)
  where
    by-lines : (r : Record) → IsDump (head_at bytes).rest r → Decided (Joins bytes (with_record bytes r) (head_at bytes).rest) → SaveOrNone bytes
    by-lines r k (inl h) = inl (with_record bytes r, is-save bytes (with_record bytes r) (head_at bytes).rest refl refl refl refl refl k h)
    by-lines r k (inr n) = inr (is-none bytes (with_record bytes r) (head_at bytes).rest refl refl refl refl refl k n)

    by-dump : ((r : Record) × IsDump (head_at bytes).rest r) ⊎ ((r : Record) → IsDump (head_at bytes).rest r → ⊥) → SaveOrNone bytes
    by-dump (inl (r, k)) = by-lines r k (joins-or-not bytes (with_record bytes r) (head_at bytes).rest)
    by-dump (inr n) = inr (no-dump bytes (head_at bytes).rest refl n)
