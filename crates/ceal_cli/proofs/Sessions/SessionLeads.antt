-- What a session that is in a situation answers to lines is what the lines lead to there.
use Rattle.std.proofs.Common.{inl, inr, ℕ, List, [], ◌∷◌, ◌++◌, refl, sym, subst}
use Rattle.ceal_session.specs.Laws.{AnswersIn, KeptLaw}
use Rattle.ceal_session.specs.Replies.{Leads}
use Rattle.ceal_session.specs.Consistency.{IsIn}
use Rattle.ceal_session.specs.State.{Situation}
use Rattle.ceal_cli.specs.Output.{LeadsFromRun}
use Rattle.ceal_cli.specs.ServedLines.{AreServed, AreServedFromRun, Carries}

-- where the session answers the lines
pub served : KeptLaw → (m s : Situation) (lines : List (List ℕ)) (out : List ℕ) → IsIn m s → AreServed m lines out → (end : Situation) × Leads s lines out end
unfolding AreServed Leads
served kept m s [] out h e = (s, (e, refl))
served kept m s (line ∷ lines) out h (text, next, rest, serves, more, e) =
    let k : AnswersIn s line text next = kept m next s line text h serves.answers serves.repairs in
    let r = served kept next k.next lines rest k.is_in more in
    (r.0, (text, k.next, rest, k.replies, r.1, e))

-- where those before the first run are answered and their replies left out
pub served-from-run : KeptLaw → (m s : Situation) (lines : List (List ℕ)) (out : List ℕ) → IsIn m s → AreServedFromRun m lines out
    → (end : Situation) × LeadsFromRun s lines out end
unfolding AreServedFromRun LeadsFromRun
served-from-run kept m s [] out h e = (s, (e, refl))
served-from-run kept m s (line ∷ lines) out h (inl (is, all)) = let w = served kept m s (line ∷ lines) out h all in (w.0, inl (is, w.1))
served-from-run kept m s (line ∷ lines) out h (inr (other, text, next, serves, more)) =
    let k : AnswersIn s line text next = kept m next s line text h serves.answers serves.repairs in
    let r = served-from-run kept next k.next lines out k.is_in more in
    (r.0, inr (other, text, k.next, k.replies, r.1))

-- where they are carried out without being answered
pub carried : KeptLaw → (m n s : Situation) (lines : List (List ℕ)) → IsIn m s → Carries m lines n
    → (out : List ℕ) × (end : Situation) × Leads s lines out end × IsIn n end
unfolding Carries Leads
carried kept m n s [] h e = ([], s, (refl, refl), subst (λ x. IsIn x s) (sym e) h)
carried kept m n s (line ∷ lines) h (text, mid, serves, more) =
    let k : AnswersIn s line text mid = kept m mid s line text h serves.answers serves.repairs in
    let r = carried kept mid n k.next lines k.is_in more in
    (text ++ r.0, r.1, (text, k.next, r.0, k.replies, r.2, refl), r.3)
