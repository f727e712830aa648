-- What a yes of the checker says of the source.
use Rattle.std.proofs.Common.{◌≡◌, inl, inr, ℕ, Ok, List, length, refl, sym, ◌∙◌, subst, arith}
use Rattle.ceal_base.specs.Block.{alone}
use Rattle.ceal_base.specs.Trace.{steps_in}
use Rattle.ceal_base.specs.declared.recorded.Record.{Record}
use Rattle.ceal_compile.specs.Compiled.{IsCodeOf, IsCompiled}
use Rattle.ceal_compile.specs.Laws.{OneCodeLaw}
use Rattle.ceal_compile.specs.declared.program.Program.{Program}
use Rattle.ceal_dump.specs.DumpText.{IsDump}
use Rattle.ceal_session.proofs.Engine.ProgramAndCode.{core-of}
use Rattle.ceal_traceck.specs.Laws.{Sound, SoundLaw}
use Rattle.ceal_traceck.specs.Verdicts.{Means}
use Rattle.ceal_traceck.specs.declared.verdict.Verdict.{Verdict}
use Rattle.ceal_traceck.specs.declared.verdict.Verdict.TheVariants.{Yes, NoFit, NotReplay, NotHonest, MemoryDiffers}
use Rattle.ceal_cli.specs.Laws.{Verified, VerifiedLaw}
use Rattle.ceal_cli.specs.Output.{bytes_after_mark}
use Rattle.ceal_cli.specs.Verdicts.{verdict_text, unreadable_text}
use Rattle.ceal_cli.proofs.Inputs.OneReading.{AnswerLaw}

-- no other verdict has this line
is-yes : (v : Verdict) → verdict_text Yes ≡ verdict_text v → v ≡ Yes
is-yes Yes e = refl
is-yes NoFit e = absurd (cc e)
is-yes NotReplay e = absurd (cc e)
is-yes NotHonest e = absurd (cc e)
is-yes MemoryDiffers e = absurd (cc e)

readable : verdict_text Yes ≡ unreadable_text → ⊥
readable e = cc e

-- the run of the code is that of the source
of-source : (sound : SoundLaw) (p : Program) → IsCompiled p → (bytes : List ℕ) (r : Record) → IsDump bytes r → Means p.code r Yes → Verified p.typed bytes
of-source sound p compiled bytes r is means =
    let s : Sound p.code r = sound p.code r means in
    let core = core-of p.typed p.code compiled.code p.code.structs (alone r.inputs) r.args r.function means.0.call.words in
    record {
      kept = r;
      dump = is;
      trace = s.trace;
      items = s.items;
      run = record { memory = s.memory; steps = steps_in r.forest; blocks = length r.memory.made };
      ends = sym (compiled.means r.function r.args r.inputs (steps_in r.forest) core) ∙ s.ends (steps_in r.forest) (omega arith);
      steps = refl;
      short = λ fuel less. sym (compiled.means r.function r.args r.inputs fuel core) ∙ s.short fuel less;
      same = s.same;
      count = refl;
    }

pub verified-law : AnswerLaw → OneCodeLaw → SoundLaw → VerifiedLaw
verified-law answer code sound input p reads compiled (q, inl (absent, e)) = absurd (readable e)
verified-law answer code sound input p reads compiled (q, inr (r, v, is, means, e)) =
    let same : Ok q.program ≡ Ok p.typed = answer input (Ok q.program) (Ok p.typed) q.reads reads in
    let programs : q.program ≡ p.typed = cc same in
    let codes : q.code ≡ p.code = code p.typed q.code p.code (subst (λ t. IsCodeOf t q.code) programs q.is_code) compiled.code in
    let yes : Means q.code r Yes = subst (λ w. Means q.code r w) (is-yes v e) means in
    of-source sound p compiled (bytes_after_mark q) r is (subst (λ c. Means c r Yes) codes yes)
