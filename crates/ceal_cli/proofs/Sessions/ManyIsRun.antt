-- One of many sessions writes what `run` writes for its lines.
use Rattle.std.proofs.Common.{◌≡◌, ◌⊎◌, inl, inr, ℕ, Some, List, [], ◌∷◌, ◌++◌, map, refl, sym, ap₂, ◌∙◌, subst, append-nil}
use Rattle.ceal_many.specs.Alone.{AnswersAlone, own_lines, own_texts}
use Rattle.ceal_many.specs.Laws.{OwnRepliesLaw}
use Rattle.ceal_many.specs.Prefixes.{prefixed}
use Rattle.ceal_many.specs.Sessions.{state_of}
use Rattle.ceal_script.specs.declared.command.Command.TheVariants.{Blank}
use Rattle.ceal_session.specs.Laws.{JoinedLaw}
use Rattle.ceal_session.specs.Replies.{situation_without_run, Replies, Leads}
use Rattle.ceal_session.specs.State.{Situation}
use Rattle.ceal_cli.specs.ManyLaws.{IsScriptOf, ManyIsRunLaw}
use Rattle.ceal_cli.specs.ManySessions.{joined_texts}
use Rattle.ceal_cli.specs.Output.{IsAnswer, Programmed, first_state, lines_after_mark}
use Rattle.ceal_cli.specs.declared.words.Mode.TheVariants.{Many, Run}
use Rattle.ceal_cli.proofs.Inputs.OneReading.{SplitLaw}
use Rattle.ceal_cli.proofs.Inputs.OtherScript.{program-there}
use Rattle.ceal_cli.proofs.Outputs.ResumedAsContinued.{empty-is-blank}

-- what a session answers by itself
pub record Led (name : List ℕ) (m : Situation) (lines texts : List (List ℕ)) : Type 0 where
  pub replies : List (List ℕ)
  pub end : Situation
  pub prefixes : texts ≡ map (prefixed name) replies
  pub leads : Leads m lines (joined_texts replies) end

led-alone : (name : List ℕ) (m : Situation) (lines texts : List (List ℕ)) → AnswersAlone Replies name m lines texts → Led name m lines texts
unfolding AnswersAlone Leads
led-alone name m [] texts e = record { replies = []; end = m; prefixes = e; leads = (refl, refl) }
led-alone name m (line ∷ lines) texts (text, n, rest, w, more, e) =
    let r = led-alone name n lines rest more in
    record { replies = w.reply ∷ r.replies; end = r.end; prefixes = e ∙ ap₂ ◌∷◌ w.written r.prefixes; leads = (w.reply, n, joined_texts r.replies, w.answer, r.leads, refl) }

-- an empty line changes nothing
blank-line : (m : Situation) → Replies m [] [] m
blank-line m = record { command = Some Blank; reads = empty-is-blank; reply = refl; next = refl }

blank-led : (m : Situation) → Leads m ([] ∷ []) [] m
unfolding Leads
blank-led m = ([], m, [], blank-line m, (refl, refl), refl)

with-empty : JoinedLaw → (m n : Situation) (lines : List (List ℕ)) (out : List ℕ) → Leads m lines out n → Leads m (lines ++ ([] ∷ [])) out n
with-empty joined-law m n lines out h = subst (λ t. Leads m (lines ++ ([] ∷ [])) t n) (append-nil out) (joined-law m n n lines ([] ∷ []) out [] h (blank-led n))

module _ (split : SplitLaw) (joined-law : JoinedLaw) (own : OwnRepliesLaw Replies) (fuel : ℕ) (input long out name : List ℕ) (answer : IsAnswer (Many fuel) input out) (q : Programmed long)
    (h : IsScriptOf name answer.0 q) where
  abbrev first : Situation
  first = situation_without_run answer.0.code (first_state answer.0 fuel)

  led : Led name first (own_lines name (lines_after_mark answer.0)) (own_texts name (lines_after_mark answer.0) answer.1.texts)
  unfolding state_of
  led =
      led-alone name first (own_lines name (lines_after_mark answer.0)) (own_texts name (lines_after_mark answer.0) answer.1.texts)
      (own first [] answer.1.next (lines_after_mark answer.0) answer.1.texts name answer.1.replies h.session)

  leads : Leads first (lines_after_mark q) (joined_texts led.replies) led.end
  leads = by-lines h.lines
    where
      by-lines : (lines_after_mark q ≡ own_lines name (lines_after_mark answer.0)) ⊎ (lines_after_mark q ≡ own_lines name (lines_after_mark answer.0) ++ ([] ∷ []))
          → Leads first (lines_after_mark q) (joined_texts led.replies) led.end
      by-lines (inl e) = subst (λ l. Leads first l (joined_texts led.replies) led.end) (sym e) led.leads
      by-lines (inr e) =
          subst (λ l. Leads first l (joined_texts led.replies) led.end) (sym e)
          (with-empty joined-law first led.end (own_lines name (lines_after_mark answer.0)) (joined_texts led.replies) led.leads)

  pub is-run : (replies : List (List ℕ)) × (own_texts name (lines_after_mark answer.0) answer.1.texts ≡ map (prefixed name) replies) × IsAnswer (Run fuel) long (joined_texts replies)
  is-run = (led.replies, led.prefixes, (program-there split input long answer.0 q.part q.split h.source h.marked, record { end = led.end; leads = leads }))

pub many-is-run : SplitLaw → JoinedLaw → OwnRepliesLaw Replies → ManyIsRunLaw
many-is-run split joined-law own fuel input long out name answer q h = is-run split joined-law own fuel input long out name answer q h
