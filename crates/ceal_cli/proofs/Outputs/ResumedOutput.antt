-- What is written for an input that is resumed, and for one that is not.
use Rattle.std.proofs.Common.{◌≡◌, inl, inr, ℕ, Option, Result, Ok, List, refl, subst}
use Rattle.ceal_code.specs.Program.{Code}
use Rattle.ceal_compile.specs.Compiled.{IsCompiled}
use Rattle.ceal_compile.specs.Source.{IsProgram}
use Rattle.ceal_compile.specs.declared.program.Program.{Program}
use Rattle.ceal_io.specs.declared.streams.Stopped.{Stopped}
use Rattle.ceal_lex.specs.Parts.{IsSplit}
use Rattle.ceal_lex.specs.declared.parts.Split.{Split}
use Rattle.ceal_session.specs.Laws.{KeptLaw, SomeScriptLaw}
use Rattle.ceal_session.specs.SessionSave.{SaveHolds, situation_of_save}
use Rattle.ceal_session.specs.State.{Situation}
use Rattle.ceal_snap.specs.SaveText.{Save}
use Rattle.ceal_cli.specs.ResumedInput.{IsSaveRead, ContinuesFromSave, IsUnsound}
use Rattle.ceal_cli.specs.SinkGrowth.{Puts, Writes}
use Rattle.ceal_cli.specs.Lines.{script_of, script_lines}
use Rattle.ceal_cli.specs.Output.{Begins, IsOutput, IsRefusal, IsTaken, Programmed}
use Rattle.ceal_cli.specs.Resumed.{Resumption, IsResumable, IsNotResumed, IsRepliedAfter, unreadable_save, not_holding}
use Rattle.ceal_cli.specs.ServedLines.{AreServed, BeginServed}
use Rattle.ceal_cli.specs.declared.words.Mode.TheVariants.{Resume}
use Rattle.ceal_cli.proofs.Sessions.GrowingReplies.{puts_as}
use Rattle.ceal_cli.proofs.Sessions.SessionLeads.{served}
use Rattle.ceal_cli.proofs.Sessions.ReplyPrefixes.{begun}

pub unsound : (code : Code) (bytes : List ℕ) (part : Split) → IsSplit bytes part → (s : Save) → IsSaveRead bytes part (Ok s) → (SaveHolds code s → ⊥) → IsUnsound code bytes
unsound code bytes part is s h none = (record { part = part; split = is; marked = h.0; saved = s; is = h.1 }, none)

module _ (input : List ℕ) (part : Split) (is : IsSplit input part) (p : Program) (reads : IsProgram input p.typed) (compiled : IsCompiled p)
    (bytes : List ℕ) (same : bytes ≡ script_of input part) where
  programmed : Programmed input
  programmed = record { part = part; split = is; program = p.typed; reads = reads; code = p.code; is_code = compiled.code }

  -- of the replies to the second script
  module _ (second : Split) (split : IsSplit bytes second) (session : Situation) (g : ContinuesFromSave p bytes second session) where
    from : Resumption bytes
    from = record { part = second; split = split; marked = g.marked; saved = g.saved; is = g.is }

    abbrev lines : List (List ℕ)
    lines = script_lines (script_of bytes second)

    abbrev start : Situation
    start = situation_of_save p.typed p.code g.saved g.resumed.trace

    pub taken : IsTaken Resume input
    unfolding programmed from
    taken = (programmed, subst (IsResumable p.code) same (from, g.holds))

    pub replied : (r : Result (Unit {0}) Stopped) (a b : Option (List ℕ)) (m n : ℕ) → KeptLaw → SomeScriptLaw
        → Puts r a b m n (AreServed session lines) (BeginServed session lines) → Writes r a b m n (IsOutput Resume input)
    unfolding programmed from
    replied r a b m n kept script h =
        puts_as r a b m n _ _ (IsOutput Resume input) (Begins (IsOutput Resume input))
        (λ out serves.
        let w = served kept session start lines out g.resumed.is_in serves in
        let after : IsRepliedAfter p.typed p.code bytes out =
        record { from = from; holds = g.holds; trace = g.resumed.trace; items = g.resumed.items; end = w.0; leads = w.1 } in
        inl (programmed, subst (λ l. IsRepliedAfter p.typed p.code l out) same after))
        (λ out part.
        let w = begun kept script session start lines out g.resumed.is_in part in
        let after : IsRepliedAfter p.typed p.code bytes w.text =
        record { from = from; holds = g.holds; trace = g.resumed.trace; items = g.resumed.items; end = w.end; leads = w.leads } in
        inr (w.text, inl (programmed, subst (λ l. IsRepliedAfter p.typed p.code l w.text) same after), w.prefix)) h

  -- of the lines that say why there are none
  pub is-unreadable : (Resumption bytes → ⊥) → IsRefusal Resume input unreadable_save
  unfolding programmed
  is-unreadable none = (tt, inr (programmed, subst (λ l. IsNotResumed p.code l unreadable_save) same (inl (none, refl))))

  pub is-unsound : IsUnsound p.code bytes → IsRefusal Resume input not_holding
  unfolding programmed
  is-unsound u = (tt, inr (programmed, subst (λ l. IsNotResumed p.code l not_holding) same (inr (u.0, u.1, refl))))
