-- What is written for an input.
use Rattle.std.proofs.Common.{◌≡◌, inl, inr, ℕ, List, [], Option, Result, Ok, Err, OnOk, refl, ap, ◌∙◌, subst}
use Rattle.ceal_base.specs.declared.fault.Fault.{Fault}
use Rattle.ceal_base.specs.declared.typed.Typed.{Typed}
use Rattle.ceal_code.specs.Listing.{listing_text}
use Rattle.ceal_code.specs.Program.{Code}
use Rattle.ceal_compile.specs.Compiled.{IsCodeOf, IsCompiled}
use Rattle.ceal_compile.specs.declared.program.Program.{Program}
use Rattle.ceal_compile.specs.FaultLine.{fault_line}
use Rattle.ceal_compile.specs.Source.{Comes, IsAccepted, IsProgram, IsFirstFault}
use Rattle.ceal_io.specs.declared.streams.Stopped.{Stopped}
use Rattle.ceal_lex.specs.Parts.{IsSplit, source_of}
use Rattle.ceal_lex.specs.declared.parts.Split.{Split}
use Rattle.ceal_record.specs.Laws.{RenamedLaw}
use Rattle.ceal_session.specs.AfterLine.{situation_at_start}
use Rattle.ceal_session.specs.Laws.{BegunLaw, KeptLaw, SomeReplyLaw, SomeScriptLaw}
use Rattle.ceal_session.specs.Replies.{Leads}
use Rattle.ceal_session.specs.SaveLaws.{SavedLaw}
use Rattle.ceal_session.specs.Consistency.{IsIn}
use Rattle.ceal_session.specs.State.{Situation}
use Rattle.ceal_snap.specs.SaveText.{save_text, IsSave}
use Rattle.ceal_cli.specs.ManySessions.{AreTold}
use Rattle.ceal_cli.specs.Fuel.{DEFAULT_FUEL}
use Rattle.ceal_cli.specs.SinkGrowth.{Grows, Puts, Writes, WritesFirst}
use Rattle.ceal_cli.specs.Members.{Opens}
use Rattle.ceal_cli.specs.Saves.{save_of, with_source}
use Rattle.ceal_cli.specs.ServedLines.{AreServed, BeginServed, FirstAreServed, AreServedFromRun, BeginServedFromRun, IsDumpAfterLines, IsDumpFrom, IsSaveAfterLines, IsSaveFrom}
use Rattle.ceal_cli.specs.Lines.{script_of, script_lines}
use Rattle.ceal_cli.specs.Modes.{ReadsInput}
use Rattle.ceal_cli.specs.Output.{AreFirstReplies, IsOutput, Programmed, accepted_text, Begins, IsOutputFromRun}
use Rattle.ceal_cli.specs.ReadBack.{IsReadableDump, IsReadableSave, WritesDump, WritesSave}
use Rattle.ceal_cli.specs.Verdicts.{IsVerdictLine}
use Rattle.ceal_cli.specs.declared.words.Mode.{Mode}
use Rattle.ceal_cli.specs.declared.words.Mode.TheVariants.{Check, List as Listing, Run, Dump, Verify, Many, Save}
use Rattle.ceal_cli.proofs.Sessions.GrowingReplies.{all_as, puts_as, weaker}
use Rattle.ceal_cli.proofs.Sessions.SessionLeads.{served, served-from-run, carried}
use Rattle.ceal_cli.proofs.Sessions.ReplyPrefixes.{begun, begun-from-run}
use Rattle.ceal_cli.proofs.Sessions.SessionInSituation.{dump-in, record-in, same-save, save-in}

module _ (input : List ℕ) where
  -- the word `accepted`
  pub accepted : (program : Typed) → IsProgram input program → IsOutput Check input accepted_text
  accepted program is = inl ((program, is), refl)

  -- the text of trace code
  pub listed : (program : Typed) → IsProgram input program → (code : Code) → IsCodeOf program code → (text : List ℕ) → text ≡ listing_text code
      → IsOutput Listing input text
  listed program reads code is text same = inl (record { program = program; reads = reads; code = code; is_code = is; text = same })

  -- the line of the first fault
  pub refused : (mode : Mode) → ReadsInput mode → (fault : Fault) → IsFirstFault input fault → (text : List ℕ) → text ≡ fault_line input fault
      → IsOutput mode input text
  refused mode reads fault is text same = inr (reads, inl (fault, is, same))

  module _ (part : Split) (split : IsSplit input part) (p : Program) where
    programmed : IsProgram input p.typed → IsCompiled p → Programmed input
    programmed reads compiled = record { part = part; split = split; program = p.typed; reads = reads; code = p.code; is_code = compiled.code }

    abbrev lines : List (List ℕ)
    lines = script_lines (script_of input part)

    -- what the checker says of the dump after the mark
    pub checked : IsProgram input p.typed → IsCompiled p → (text : List ℕ) → IsVerdictLine p.code (script_of input part) text → IsOutput Verify input text
    unfolding programmed
    checked reads compiled text is = inl (programmed reads compiled, is)

    module _ (fuel : ℕ) (opens : Opens input p fuel) where
      -- the replies of many sessions
      pub many_told : (text : List ℕ) → AreTold (situation_at_start p fuel) [] lines text → IsOutput (Many fuel) input text
      unfolding programmed
      many_told text told = inl (programmed opens.reads opens.compiled, told)

      module _ (begins : BegunLaw) (kept : KeptLaw) where
        -- the replies
        pub replied : (r : Result (Unit {0}) Stopped) (a b : Option (List ℕ)) (m n : ℕ) → SomeScriptLaw
            → Puts r a b m n (AreServed (situation_at_start p fuel) lines) (BeginServed (situation_at_start p fuel) lines) → Writes r a b m n (IsOutput (Run fuel) input)
        unfolding programmed
        replied r a b m n script h =
            puts_as r a b m n _ _ (IsOutput (Run fuel) input) (Begins (IsOutput (Run fuel) input))
            (λ out serves.
            let w = served kept (situation_at_start p fuel) (situation_at_start p fuel) lines out (begins p fuel opens.compiled) serves in
            inl (programmed opens.reads opens.compiled, record { end = w.0; leads = w.1 }))
            (λ out part.
            let w = begun kept script (situation_at_start p fuel) (situation_at_start p fuel) lines out (begins p fuel opens.compiled) part in
            inr (w.text, inl (programmed opens.reads opens.compiled, record { end = w.end; leads = w.leads }), w.prefix)) h

        -- the replies to the first lines
        are-first : (out : List ℕ) → FirstAreServed (situation_at_start p fuel) lines out → AreFirstReplies fuel input out
        unfolding programmed
        are-first out (front, back, cut, serves) =
            let w = served kept (situation_at_start p fuel) (situation_at_start p fuel) front out (begins p fuel opens.compiled) serves in
            inr (programmed opens.reads opens.compiled, front, back, cut, record { end = w.0; leads = w.1 })

        pub first_replies : (a b : Option (List ℕ)) → Grows a b (FirstAreServed (situation_at_start p fuel) lines) → WritesFirst a b fuel input
        first_replies a b h = weaker are-first h

        -- the dump after the script
        pub dumped : RenamedLaw → (text : List ℕ) → IsDumpAfterLines (situation_at_start p fuel) lines text → IsOutput (Dump fuel) input text
        unfolding programmed
        dumped renamed text behind =
            let there = carried kept (situation_at_start p fuel) behind.end (situation_at_start p fuel) lines (begins p fuel opens.compiled) behind.carries in
            inl (
              programmed opens.reads opens.compiled,
              record { replies = there.0; end = there.1; leads = there.2; dump = dump-in renamed behind.end there.1 there.3 text behind.is },
            )

        -- which is read as the record of the run
        readable-dump : RenamedLaw → (text : List ℕ) → IsDumpAfterLines (situation_at_start p fuel) lines text → IsReadableDump fuel input text
        unfolding programmed
        readable-dump renamed text behind =
            let there = carried kept (situation_at_start p fuel) behind.end (situation_at_start p fuel) lines (begins p fuel opens.compiled) behind.carries in
            by-form there.0 there.1 there.2 there.3 behind.is
          where
            by-form : (replies : List ℕ) (end : Situation) → Leads (situation_at_start p fuel) lines replies end → IsIn behind.end end → IsDumpFrom behind.end text → IsReadableDump fuel input text
            by-form replies end leads in-end (inl none) = inl none.1
            by-form replies end leads in-end (inr (r, recorded, dump)) =
                let run = record-in renamed behind.end end in-end r recorded in
                inr (
                  programmed opens.reads opens.compiled,
                  record { end = end; kept = r; run = record { replies = replies; leads = leads; told = run.0; recorded = run.1 }; dump = dump },
                )

        pub dumped-readable : RenamedLaw → (r : Result (Unit {0}) Stopped) (a b : Option (List ℕ)) (m n : ℕ) → Writes r a b m n (IsDumpAfterLines (situation_at_start p fuel) lines)
            → OnOk r (WritesDump a b fuel input)
        dumped-readable renamed r a b m n h = all_as r a b (IsDumpAfterLines (situation_at_start p fuel) lines) (IsReadableDump fuel input) (readable-dump renamed) h.all

        -- the save after the script
        pub saved : RenamedLaw → SavedLaw → (text : List ℕ) → IsSaveAfterLines (source_of input part) (situation_at_start p fuel) lines text → IsOutput (Save fuel) input text
        unfolding programmed
        saved renamed saves text behind =
            let there = carried kept (situation_at_start p fuel) behind.end (situation_at_start p fuel) lines (begins p fuel opens.compiled) behind.carries in
            inl (
              programmed opens.reads opens.compiled,
              record { replies = there.0; end = there.1; leads = there.2; save = save-in renamed saves (source_of input part) behind.end there.1 there.3 text behind.is },
            )

        -- which is read as the save of the session
        readable-save : RenamedLaw → SavedLaw → (text : List ℕ) → IsSaveAfterLines (source_of input part) (situation_at_start p fuel) lines text → IsReadableSave fuel input text
        unfolding programmed
        readable-save renamed saves text behind =
            let there = carried kept (situation_at_start p fuel) behind.end (situation_at_start p fuel) lines (begins p fuel opens.compiled) behind.carries in
            by-form there.0 there.1 there.2 there.3 behind.is
          where
            by-form : (replies : List ℕ) (end : Situation) → Leads (situation_at_start p fuel) lines replies end → IsIn behind.end end → IsSaveFrom (source_of input part) behind.end text
                → IsReadableSave fuel input text
            by-form replies end leads in-end (inl none) = inl none.1
            by-form replies end leads in-end (inr (s, saved, save, whole)) =
                let run = record-in renamed behind.end end in-end s.kept saved.kept in
                let same : s ≡ save_of end s.kept = same-save end s (saves behind.end end s in-end saved) in
                inr (
                  programmed opens.reads opens.compiled,
                  record {
                    end = end;
                    kept = s.kept;
                    run = record { replies = replies; leads = leads; told = run.0; recorded = run.1 };
                    save = subst (λ x. IsSave (save_text x) x) same save;
                    whole = whole ∙ ap (with_source (source_of input part)) same;
                  },
                )

        pub saved-readable : RenamedLaw → SavedLaw → (r : Result (Unit {0}) Stopped) (a b : Option (List ℕ)) (m n : ℕ)
            → Writes r a b m n (IsSaveAfterLines (source_of input part) (situation_at_start p fuel) lines)
            → OnOk r (WritesSave a b fuel input)
        saved-readable renamed saves r a b m n h =
            all_as r a b (IsSaveAfterLines (source_of input part) (situation_at_start p fuel) lines) (IsReadableSave fuel input) (readable-save renamed saves) h.all

    -- the replies from that of the first run on
    module _ (reads : IsProgram input p.typed) (compiled : IsCompiled p) (begins : BegunLaw) (kept : KeptLaw) where
      pub from_run : (r : Result (Unit {0}) Stopped) (a b : Option (List ℕ)) (m n : ℕ) → SomeReplyLaw → SomeScriptLaw
          → Puts r a b m n (AreServedFromRun (situation_at_start p DEFAULT_FUEL) lines) (BeginServedFromRun (situation_at_start p DEFAULT_FUEL) lines)
          → Writes r a b m n (IsOutputFromRun input)
      unfolding programmed
      from_run r a b m n reply script h =
          puts_as r a b m n _ _ (IsOutputFromRun input) (Begins (IsOutputFromRun input))
          (λ out serves.
          let w = served-from-run kept (situation_at_start p DEFAULT_FUEL) (situation_at_start p DEFAULT_FUEL) lines out (begins p DEFAULT_FUEL compiled) serves in
          (programmed reads compiled, record { end = w.0; leads = w.1 }))
          (λ out part.
          let w = begun-from-run kept script reply (situation_at_start p DEFAULT_FUEL) (situation_at_start p DEFAULT_FUEL) lines out (begins p DEFAULT_FUEL compiled) part in
          inr (w.text, (programmed reads compiled, record { end = w.end; leads = w.leads }), w.prefix)) h

-- a refused input is not accepted
pub not_accepted : (input : List ℕ) (fault : Fault) → ((a b : Result Typed Fault) → Comes input a → Comes input b → a ≡ b)
    → IsFirstFault input fault → IsAccepted input → ⊥
not_accepted input fault once is (program, reads) = absurd (cc (once (Ok program) (Err fault) reads is))
