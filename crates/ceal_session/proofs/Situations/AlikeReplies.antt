-- Situations that are the same up to the numbers of core blocks have the same replies.
use Rattle.std.proofs.Common.{◌≡◌, ℕ, Option, Ok, List, [], ◌∷◌, ◌++◌, refl, sym, ap, ◌∙◌, subst}
use Rattle.ceal_base.specs.declared.call.Call.{Call}
use Rattle.ceal_code.specs.Laws.{ProgressLaw}
use Rattle.ceal_script.specs.declared.command.Command.{Command}
use Rattle.ceal_session.proofs.Situations.SituationFollowsSession.{CallFacts, follows}
use Rattle.ceal_session.proofs.Replies.ReplyExists.{LineLaw, WholeLaw, TextLaw, accepted-in, fits-call, past-before}
use Rattle.ceal_session.specs.AfterLine.{RunsOrKeeps, IsAfterLine}
use Rattle.ceal_session.specs.Laws.{AnswersIn, KeptLaw, OneReplyLaw, Replied, SomeReplyLaw}
use Rattle.ceal_session.specs.Replies.{Answers, Replies, Leads, situation_after}
use Rattle.ceal_session.specs.SaveLaws.{AlikeLaw}
use Rattle.ceal_session.specs.Consistency.{IsConsistent, IsIn}
use Rattle.ceal_session.specs.State.{Situation, numbers_in}
use Rattle.ceal_session.specs.Works.{call_in, reads_in}
use Rattle.ceal_theory.specs.Pasts.{goes}

-- the call of a line fits, and what is past is one of it
abbrev pub CallLaw : Type 0
CallLaw = (m : Situation) (command : Option Command) → IsConsistent m → (call : Call) → call_in m.state command ≡ Ok call → CallFacts m call

pub call-law : ProgressLaw → LineLaw → WholeLaw → TextLaw → CallLaw
call-law progress line_law whole_law text_law m command st call e =
    let a = accepted-in progress line_law whole_law text_law m st command call e in
    record { fits = fits-call progress line_law whole_law text_law m st call a.is; past = past-before progress line_law whole_law text_law m st call a }

-- so a situation of the definition continues as a session does
abbrev pub FollowsLaw : Type 0
FollowsLaw = (m : Situation) (command : Option Command) → IsConsistent m → RunsOrKeeps m (call_in m.state command) (reads_in command) (situation_after m command)

pub follows-law : CallLaw → FollowsLaw
follows-law calls m command st = follows m command (calls m command st)

module _ (reply : SomeReplyLaw) (kept : KeptLaw) (one : OneReplyLaw) (follows : FollowsLaw) where
  answers : (m : Situation) (line text : List ℕ) (n : Situation) → Replies m line text n → Answers m.state (numbers_in m) (goes n.past) line text n.state
  answers m line text n r =
      subst (λ (x : Situation). Answers m.state (numbers_in m) (goes x.past) line text x.state) (sym r.next)
      (record { command = r.command; reads = r.reads; reply = r.reply; state = refl })

  repairs : (m : Situation) (line text : List ℕ) (n : Situation) → IsConsistent m → Replies m line text n → IsAfterLine m line n
  repairs m line text n st r = record {
    command = r.command;
    reads = r.reads;
    goes = subst (λ (x : Situation). RunsOrKeeps m (call_in m.state r.command) (reads_in r.command) x) (sym r.next) (follows m r.command st);
  }

  pub alike : AlikeLaw
  unfolding Leads
  alike m n end [] out st h (e, f) = (m, (e, refl), st, subst (λ x. IsIn m x) (sym f) h)
  alike m n end (line ∷ lines) out st h (text, mid, rest, there, more, e) =
      let a : Replied m line = reply m line st in
      let k : AnswersIn n line a.text a.next = kept m a.next n line a.text h (answers m line a.text a.next a.replies) (repairs m line a.text a.next st a.replies) in
      let same = one n line a.text text k.next mid k.replies there in
      let r = alike a.next mid end lines rest a.stands (subst (λ x. IsIn a.next x) same.1 k.is_in) more in
      (r.0, (a.text, a.next, rest, a.replies, r.1, e ∙ ap (λ t. t ++ rest) (sym same.0)), r.2, r.3)
