-- A save holds, or it does not.
use Rattle.std.proofs.Common.{◌≡◌, inl, inr, ℕ, ◌≤◌, Bool, true, false, List, [], ◌∷◌, length, refl, arith}
use Rattle.std.proofs.lemmas.Bool.{cases_lt}
use Rattle.std.specs.List.{AllByRecursion, IsDistinct}
use Rattle.std.specs.Prelude.{bytes_eq}
use Rattle.ceal_base.specs.Trace.{steps_in}
use Rattle.ceal_base.specs.declared.recorded.Record.{Record}
use Rattle.ceal_code.specs.Program.{Code}
use Rattle.ceal_dump.proofs.Decided.{Decided, both, moved, is-or-not}
use Rattle.ceal_engine.specs.Engine.{LARGEST_FUEL}
use Rattle.ceal_script.specs.Spelling.{is_name}
use Rattle.ceal_session.specs.InputNames.{AreDistinct, AreSpelled}
use Rattle.ceal_session.specs.SessionSave.{SaveHolds}
use Rattle.ceal_snap.specs.SaveText.{Save}
use Rattle.ceal_traceck.specs.Laws.{OneVerdictLaw, SomeVerdictLaw}
use Rattle.ceal_traceck.specs.Verdicts.{Means}
use Rattle.ceal_traceck.specs.declared.verdict.Verdict.{Verdict}
use Rattle.ceal_traceck.specs.declared.verdict.Verdict.TheVariants.{Yes, NoFit, NotReplay, NotHonest, MemoryDiffers}

is-false-or-not : (b : Bool) → Decided (b ≡ false)
is-false-or-not true = inr (λ e. absurd (cc e))
is-false-or-not false = inl refl

at-most-or-not : (n m : ℕ) → Decided (n ≤ m)
at-most-or-not n m = elim (cases_lt m n) [ inl less ↦ inr (λ h. absurd (omega (arith, less, h))) | inr h ↦ inl h ]

equal-or-not : (n m : ℕ) → Decided (n ≡ m)
equal-or-not n m = moved (λ h. omega (arith, h.0, h.1)) (λ e. (omega (arith, e), omega (arith, e))) (both (at-most-or-not n m) (at-most-or-not m n))

names-or-not : (names : List (List ℕ)) → Decided (AreSpelled names)
names-or-not [] = inl tt
names-or-not (name ∷ names) = both (is-or-not (is_name name)) (names-or-not names)

other-or-not : (name : List ℕ) (names : List (List ℕ)) → Decided (AllByRecursion (λ other. bytes_eq name other ≡ false) names)
other-or-not name [] = inl tt
other-or-not name (other ∷ names) = both (is-false-or-not (bytes_eq name other)) (other-or-not name names)

distinct-or-not : (names : List (List ℕ)) → Decided (AreDistinct names)
unfolding IsDistinct
distinct-or-not [] = inl tt
distinct-or-not (name ∷ names) = both (other-or-not name names) (distinct-or-not names)

module _ (some : SomeVerdictLaw) (one : OneVerdictLaw) where
  yes-or-not : (code : Code) (r : Record) → Decided (Means code r Yes)
  yes-or-not code r = by-verdict (some code r).0 (some code r).1
    where
      other : (v : Verdict) → (v ≡ Yes → ⊥) → Means code r v → Decided (Means code r Yes)
      other v differs h = inr (λ k. differs (one code r v Yes h k))

      by-verdict : (v : Verdict) → Means code r v → Decided (Means code r Yes)
      by-verdict Yes h = inl h
      by-verdict NoFit h = other NoFit (λ e. absurd (cc e)) h
      by-verdict NotReplay h = other NotReplay (λ e. absurd (cc e)) h
      by-verdict NotHonest h = other NotHonest (λ e. absurd (cc e)) h
      by-verdict MemoryDiffers h = other MemoryDiffers (λ e. absurd (cc e)) h

  pub holds-or-not : (code : Code) (s : Save) → Decided (SaveHolds code s)
  holds-or-not code s =
      moved (λ h. record { fuel = h.0.0; spelled = h.0.1.0; once = h.0.1.1; count = h.1.0; yes = h.1.1.0; few = h.1.1.1 })
      (λ h. ((h.fuel, (h.spelled, h.once)), (h.count, (h.yes, h.few))))
      (both (both (both (at-most-or-not 1 s.fuel) (at-most-or-not s.fuel LARGEST_FUEL)) (both (names-or-not s.names) (distinct-or-not s.names)))
      (both (equal-or-not (length s.names) (length s.kept.inputs)) (both (yes-or-not code s.kept) (at-most-or-not (steps_in s.kept.forest) s.fuel))))
