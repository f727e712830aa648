-- What a session has begun to answer to lines is a prefix of what they lead to.
use Rattle.std.proofs.Common.{◌≡◌, inl, inr, ℕ, Bool, true, false, List, [], ◌∷◌, ◌++◌, codes, eqb, refl, sym, ap, ◌∙◌, subst, append_assoc}
use Rattle.std.specs.List.{starts_with}
use Rattle.std.proofs.lemmas.Bool.{false≢true}
use Rattle.ceal_session.specs.Laws.{AnswersIn, KeptLaw, SomeReplyLaw, SomeScriptLaw}
use Rattle.ceal_session.specs.Replies.{Leads}
use Rattle.ceal_session.specs.Consistency.{IsIn, IsConsistent}
use Rattle.ceal_session.specs.State.{Situation}
use Rattle.ceal_cli.specs.Output.{IsPrefix, IsRunLine, LeadsFromRun}
use Rattle.ceal_cli.specs.ServedLines.{BeginServed, BeginServedFromRun}
use Rattle.ceal_cli.proofs.Sessions.RepliesFromFirstRun.{run_line}

pub nothing-first : (out whole : List ℕ) → out ≡ [] → IsPrefix out whole
nothing-first out whole e = record { rest = whole; same = ap (λ l. l ++ whole) e }

pub more-behind : (out text rest : List ℕ) → IsPrefix out text → IsPrefix out (text ++ rest)
more-behind out text rest p = record { rest = p.rest ++ rest; same = sym (append_assoc out p.rest rest) ∙ ap (λ l. l ++ rest) p.same }

pub same-front : (text out rest : List ℕ) → IsPrefix out rest → IsPrefix (text ++ out) (text ++ rest)
same-front text out rest p = record { rest = p.rest; same = append_assoc text out p.rest ∙ ap (λ l. text ++ l) p.same }

-- a whole text that begins so, and the situation to which it leads
pub record Whole (P : List ℕ → Situation → Type 0) (out : List ℕ) : Type 0 where
  pub text : List ℕ
  pub end : Situation
  pub leads : P text end
  pub prefix : IsPrefix out text

abbrev pub WholeReplies : Situation → List (List ℕ) → List ℕ → Type 0
WholeReplies s lines out = Whole (λ text end. Leads s lines text end) out

abbrev pub WholeFromRun : Situation → List (List ℕ) → List ℕ → Type 0
WholeFromRun s lines out = Whole (λ text end. LeadsFromRun s lines text end) out

-- a line is a run, or not
run-or-not : (line : List ℕ) → (r : Bool) → r ≡ starts_with eqb line (codes "run ") → (P : Type 0) → (IsRunLine line → P) → ((IsRunLine line → ⊥) → P) → P
run-or-not line true e P here later = here ((run_line line true e).0 refl)
run-or-not line false e P here later = later (λ h. false≢true ((run_line line false e).1 h))

module _ (reply : SomeReplyLaw) (script : SomeScriptLaw) where
  -- there is a text from the first run on
  pub some-from-run : (s : Situation) (lines : List (List ℕ)) → IsConsistent s → (text : List ℕ) × (end : Situation) × LeadsFromRun s lines text end
  unfolding LeadsFromRun
  some-from-run s [] st = ([], s, (refl, refl))
  some-from-run s (line ∷ lines) st =
      let a = reply s line st in
      let rest = some-from-run a.next lines a.stands in
      run-or-not line (starts_with eqb line (codes "run ")) refl ((text : List ℕ) × (end : Situation) × LeadsFromRun s (line ∷ lines) text end)
      (λ is. let w = script s (line ∷ lines) st in (w.out, w.end, inl (is, w.leads)))
      (λ other. (rest.0, rest.1, inr (other, a.text, a.next, a.replies, rest.2)))

module _ (kept : KeptLaw) (script : SomeScriptLaw) where
  pub begun : (m s : Situation) (lines : List (List ℕ)) (out : List ℕ) → IsIn m s → BeginServed m lines out → WholeReplies s lines out
  unfolding BeginServed Leads
  begun m s [] out at h = record { text = []; end = s; leads = (refl, refl); prefix = nothing-first out [] h }
  begun m s (line ∷ lines) out at (inl e) =
      let r = script s (line ∷ lines) at.sound in
      record { text = r.out; end = r.end; leads = r.leads; prefix = nothing-first out r.out e }
  begun m s (line ∷ lines) out at (inr (text, n, serves, inl p)) =
      let k : AnswersIn s line text n = kept m n s line text at serves.answers serves.repairs in
      let r = script k.next lines k.is_in.sound in
      record { text = text ++ r.out; end = r.end; leads = (text, k.next, r.out, k.replies, r.leads, refl); prefix = more-behind out text r.out p }
  begun m s (line ∷ lines) out at (inr (text, n, serves, inr (rest, e, begins))) =
      let k : AnswersIn s line text n = kept m n s line text at serves.answers serves.repairs in
      let w = begun n k.next lines rest k.is_in begins in
      record {
        text = text ++ w.text;
        end = w.end;
        leads = (text, k.next, w.text, k.replies, w.leads, refl);
        prefix = subst (λ o. IsPrefix o (text ++ w.text)) (sym e) (same-front text rest w.text w.prefix);
      }

  module _ (reply : SomeReplyLaw) where
    pub begun-from-run : (m s : Situation) (lines : List (List ℕ)) (out : List ℕ) → IsIn m s → BeginServedFromRun m lines out → WholeFromRun s lines out
    unfolding BeginServedFromRun LeadsFromRun
    begun-from-run m s [] out at h = record { text = []; end = s; leads = (refl, refl); prefix = nothing-first out [] h }
    begun-from-run m s (line ∷ lines) out at (inl e) =
        let r = some-from-run reply script s (line ∷ lines) at.sound in
        record { text = r.0; end = r.1; leads = r.2; prefix = nothing-first out r.0 e }
    begun-from-run m s (line ∷ lines) out at (inr (inl (is, begins))) =
        let w = begun m s (line ∷ lines) out at begins in
        record { text = w.text; end = w.end; leads = inl (is, w.leads); prefix = w.prefix }
    begun-from-run m s (line ∷ lines) out at (inr (inr (other, text, n, serves, begins))) =
        let k : AnswersIn s line text n = kept m n s line text at serves.answers serves.repairs in
        let w = begun-from-run n k.next lines out k.is_in begins in
        record { text = w.text; end = w.end; leads = inr (other, text, k.next, k.replies, w.leads); prefix = w.prefix }
