-- The record of a run has a dump: each read of a trace has its end, and each of its blocks is a core block.
use Rattle.std.proofs.Common.{◌≡◌, ℕ, ◌+◌, ◌-◌, ◌<◌, true, List, [], ◌∷◌, ◌++◌, refl, sym, ap, ◌∙◌, append_assoc, append-nil, arith}
use Rattle.ceal_base.specs.Trace.{Trace, Nothing, Stepped, Allocated, Wrote, WasRead, flat}
use Rattle.ceal_base.specs.declared.forest.Item.{Item}
use Rattle.ceal_base.specs.declared.forest.Item.TheVariants.{End}
use Rattle.ceal_base.specs.declared.recorded.Record.{Record}
use Rattle.ceal_code.specs.Program.{Code}
use Rattle.ceal_code.specs.Replay.{Yields}
use Rattle.ceal_code.specs.Step.{Stack}
use Rattle.ceal_code.specs.Value.{Plain}
use Rattle.ceal_dump.proofs.Steps.{closed-step, closed-alloc, closed-write, closed-read, closed-end}
use Rattle.ceal_dump.specs.DumpText.{closed, all_core}
use Rattle.ceal_record.proofs.Left.{replays-in-order}
use Rattle.ceal_session.specs.RunRecord.{IsRecorded}
use Rattle.ceal_session.specs.State.{Situation}
use Rattle.ceal_theory.specs.Named.{RenamingLaw}

closed-then : (n : ℕ) (l : Trace) (is : List Item) → closed n (flat l ++ is) ≡ closed n is
closed-then n Nothing is = refl
closed-then n (Stepped l) is = closed-step n (flat l ++ is) ∙ closed-then n l is
closed-then n (Allocated b key l) is = closed-alloc n b key (flat l ++ is) ∙ closed-then n l is
closed-then n (Wrote p value l) is = closed-write n p value (flat l ++ is) ∙ closed-then n l is
closed-then n (WasRead p value u v args inside l) is =
    let above : 0 < n + 1 = omega arith in
    let below : n + 1 - 1 ≡ n = omega arith in
    closed-read n p value u v args ((flat inside ++ End ∷ flat l) ++ is)
    ∙ (ap (closed (n + 1)) (append_assoc (flat inside) (End ∷ flat l) is)
    ∙ (closed-then (n + 1) inside (End ∷ (flat l ++ is))
    ∙ (closed-end (n + 1) (flat l ++ is) above ∙ (ap (λ k. closed k (flat l ++ is)) below ∙ closed-then n l is))))

closed-flat : (l : Trace) → closed 0 (flat l) ≡ true
unfolding closed
closed-flat l = ap (closed 0) (sym (append-nil (flat l))) ∙ closed-then 0 l []

core-then : {code : Code} {x : Plain} {st : Stack} {l : Trace} → Yields code x st l → (is : List Item) → all_core (flat l ++ is) ≡ all_core is
unfolding all_core
core-then (Yields.over e) is = refl
core-then (Yields.quiet e h) is = core-then h is
core-then (Yields.makes e g h) is = core-then h is
core-then (Yields.writes e h) is = core-then h is
core-then (Yields.reads {inside = inside} {rest = rest} e h k) is =
    ap all_core (append_assoc (flat inside) (End ∷ flat rest) is) ∙ (core-then h (End ∷ (flat rest ++ is)) ∙ core-then k is)

core-flat : {code : Code} {x : Plain} {st : Stack} {l : Trace} → Yields code x st l → all_core (flat l) ≡ true
unfolding all_core
core-flat {l = l} h = ap all_core (sym (append-nil (flat l))) ∙ core-then h []

module _ (m : Situation) (r : Record) (h : IsRecorded m r) where
  pub recorded-core : RenamingLaw → all_core r.forest ≡ true
  recorded-core renaming =
      ap all_core h.is.items ∙ core-flat (replays-in-order renaming m.code m.state.inputs h.call.function h.call.args h.of.fits h.run.items h.of.replays).yields

  pub recorded-closed : closed 0 r.forest ≡ true
  recorded-closed = ap (closed 0) h.is.items ∙ closed-flat _
