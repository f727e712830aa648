-- What is written as a dump is the tail of what is written as a save, and the checker says yes to it.
use Rattle.std.proofs.Common.{◌≡◌, ◌⊎◌, inl, inr, ℕ, List, refl, sym, subst}
use Rattle.ceal_base.specs.declared.recorded.Record.{Record}
use Rattle.ceal_compile.specs.declared.program.Program.{Program}
use Rattle.ceal_dump.specs.DumpText.{dump_text}
use Rattle.ceal_lex.specs.Parts.{source_of}
use Rattle.ceal_session.specs.Runs.{state_at_start}
use Rattle.ceal_session.specs.SaveLaws.{ResumesAs}
use Rattle.ceal_session.specs.State.{Situation}
use Rattle.ceal_session.specs.Steps.{reply_to_query}
use Rattle.ceal_session.specs.declared.reply.Query.TheVariants.{Steps}
use Rattle.ceal_session.specs.declared.reply.Reply.{Reply}
use Rattle.ceal_session.specs.declared.reply.Reply.TheVariants.{Told}
use Rattle.ceal_traceck.specs.declared.verdict.Verdict.TheVariants.{Yes}
use Rattle.ceal_cli.specs.DumpLaws.{DumpsAgain, DumpVerifiedLaw, EndsWithDump, TailLaw}
use Rattle.ceal_cli.specs.Dumps.{IsWrittenBy, no_run_text}
use Rattle.ceal_cli.specs.Lines.{script_of, script_lines}
use Rattle.ceal_cli.specs.Output.{IsAnswer, Programmed, lines_after_mark}
use Rattle.ceal_cli.specs.ReadBack.{IsDumpAfter}
use Rattle.ceal_cli.specs.Saves.{save_of, with_source}
use Rattle.ceal_cli.specs.Verdicts.{IsVerdictLine, verdict_text}
use Rattle.ceal_cli.specs.declared.words.Mode.TheVariants.{Verify}
use Rattle.ceal_cli.proofs.Outputs.FirstScript.{Known, as-compiled, compiled, goes-on-after, here}
use Rattle.ceal_cli.proofs.Inputs.OtherScript.{other-marked, other-parts, other-script, other-source, other-split, program-there}

-- what is written by one function of a record, and what is written by another one
Beside : Reply → Situation → (Record → List ℕ) → (Record → List ℕ) → List ℕ → Type 0
Beside reply m write other out =
    ((out ≡ no_run_text) × IsWrittenBy reply m other no_run_text) ⊎ (r : Record) × (out ≡ write r) × IsWrittenBy reply m other (other r)

beside : (reply : Reply) (m : Situation) (write other : Record → List ℕ) (out : List ℕ) → IsWrittenBy reply m write out → Beside reply m write other out
unfolding Beside
beside (Told q) m write other out (r, is, e) = inr (r, e, (r, is, refl))
beside _ m write other out e = inl (e, refl)

pub tail-law : TailLaw
unfolding Beside
tail-law fuel input out (p, h) = by-record (beside (reply_to_query h.end.state Steps) h.end (λ kept. with_source (source_of input p.part) (save_of h.end kept)) dump_text out h.save)
  where
    by-record : Beside (reply_to_query h.end.state Steps) h.end (λ kept. with_source (source_of input p.part) (save_of h.end kept)) dump_text out → EndsWithDump fuel input out
    by-record (inl (e, is)) = inl (e, (p, record { replies = h.replies; end = h.end; leads = h.leads; dump = is }))
    by-record (inr (r, e, is)) = inr (p, save_of h.end r, e, (p, record { replies = h.replies; end = h.end; leads = h.leads; dump = is }))

module _ (known : Known) (fuel : ℕ) (input written again : List ℕ) (h : DumpsAgain fuel input written again) where
  abbrev program : Program
  program = (compiled known input h.first).0

  first : IsDumpAfter program.code (state_at_start program.typed fuel) (lines_after_mark h.first) written
  first = as-compiled known input h.first (λ part p k. IsDumpAfter k (state_at_start p fuel) (script_lines (script_of input part)) written) h.dumped

  goes-on : ResumesAs first.end program (save_of first.end first.kept)
  goes-on = goes-on-after known input h.first fuel first.end first.kept first.run h.allowed

  abbrev there : Programmed again
  there =
      program-there known.split input again (here known input h.first) (other-parts input h.first.part h.first.split h.marked written again h.again_is h.small)
      (other-split input h.first.part h.first.split h.marked written again h.again_is h.small)
      (other-source input h.first.part h.first.split h.marked written again h.again_is h.small)
      (other-marked input h.first.part h.first.split h.marked written again h.again_is h.small)

  bytes-is : script_of again there.part ≡ written
  bytes-is = other-script input h.first.part h.first.split h.marked written again h.again_is h.small

  pub is-yes : IsAnswer Verify again (verdict_text Yes)
  is-yes = (there, subst (λ b. IsVerdictLine program.code b (verdict_text Yes)) (sym bytes-is) (inr (first.kept, Yes, first.dump, goes-on.holds.yes, refl)))

pub dump-verified : Known → DumpVerifiedLaw
dump-verified known fuel input written again h = is-yes known fuel input written again h
