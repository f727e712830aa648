-- A session that is saved, resumed and saved again has the save of one that never stopped.
use Rattle.std.proofs.Common.{◌≡◌, ℕ, List, [], ◌∷◌, ◌++◌, refl, sym, subst, append-nil}
use Rattle.ceal_base.specs.Trace.{Trace}
use Rattle.ceal_compile.specs.declared.program.Program.{Program}
use Rattle.ceal_session.proofs.Saves.ResumedReplies.{same-trace}
use Rattle.ceal_session.specs.Consistency.{IsIn}
use Rattle.ceal_session.specs.Laws.{AnswersIn, JoinedLaw, KeptLaw, OneScriptLaw}
use Rattle.ceal_session.specs.Replies.{Leads}
use Rattle.ceal_session.specs.SaveLaws.{OneSavedLaw, ResumedLaw, SavedLaw}
use Rattle.ceal_session.specs.SavedAgain.{BecomeLaw, BecomesLaw, SavedAfterLaw, SavedAgainLaw}
use Rattle.ceal_session.specs.SessionSave.{situation_of_save}
use Rattle.ceal_session.specs.State.{Situation}

pub saved-after : ResumedLaw → OneScriptLaw → SavedLaw → SavedAfterLaw
saved-after resumes once saved program m end n s trace lines out told h items whole later =
    let r = resumes program m s h.stands h.code h.typed h.allowed h.saved in
    let same : r.trace ≡ trace = same-trace s.kept.forest r.trace trace r.items items in
    let start : Trace → Situation = situation_of_save program.typed program.code s in
    let other = r.answers lines out end whole in
    let there : Leads (start trace) lines out other.0 = subst (λ t. Leads (start t) lines out other.0) same other.1 in
    let is-in : IsIn n end = subst (λ x. IsIn x end) (once (start trace) lines out told other.0 n there later).1 other.2 in
    (is-in, λ v k. saved n end v is-in k)

-- a line that is answered leads to one situation
one-line : (m : Situation) (line text : List ℕ) (session : Situation) → AnswersIn m line text session
    → (out : List ℕ) × (end : Situation) × Leads m (line ∷ []) out end × IsIn session end
unfolding Leads
one-line m line text session a = (text, a.next, (text, a.next, [], a.replies, (refl, refl), sym (append-nil text)), a.is_in)

pub becomes : KeptLaw → BecomesLaw
becomes kept old new line text answers repairs m h = one-line m line text new (kept old new m line text h answers repairs)

pub become : JoinedLaw → BecomeLaw
become joined old mid new front back first second m h =
    let a = first m h in
    let b = second a.1 a.3 in
    (a.0 ++ b.0, b.1, joined m a.1 b.1 front back a.0 b.0 a.2 b.2, b.3)

pub saved-again : SavedAfterLaw → SavedLaw → OneSavedLaw → SavedAgainLaw
saved-again after-law saved one program m end session after s u v lines out h resumed whole becomes-after k l =
    let there = becomes-after (situation_of_save program.typed program.code s resumed.trace) resumed.is_in in
    let behind = after-law program m end there.1 s resumed.trace lines out there.0 h resumed.items whole there.2 in
    one end v u (behind.1 v (saved after there.1 v there.3 l)) k
