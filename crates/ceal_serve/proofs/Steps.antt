-- What is said at a time is a part of one reply.
use Rattle.std.proofs.Common.{◌≡◌, inl, inr, ℕ, true, false, Option, List, [], ◌∷◌, ◌++◌, take, drop, take-append-drop}
use Rattle.std.proofs.Common.{refl, sym, ap, ◌∙◌, subst, append_assoc, append-nil, option_map}
use Rattle.std.specs.Prelude.{IfSome}
use Rattle.ceal_session.specs.Laws.{KeptLaw}
use Rattle.ceal_session.specs.State.{Situation}
use Rattle.ceal_cli.specs.Lines.{without_return}
use Rattle.ceal_cli.specs.ServedLines.{Serves}
use Rattle.ceal_serve.specs.Exchange.{Exchange, saying}
use Rattle.ceal_serve.specs.Listening.{HasLine}
use Rattle.ceal_serve.specs.Replying.{IsAt, IsLast, Owes}
use Rattle.ceal_serve.specs.Turns.{IsOneLine, IsNextReply, IsWithinReply}
use Rattle.ceal_serve.proofs.Following.{last-served, line-more, served-so, take-line}
use Rattle.ceal_serve.proofs.Hearing.{known-after, known-same}

-- after the first bytes come the others
step-on : (bytes : List ℕ) (k : ℕ) (e : Exchange) → IsWithinReply bytes e → IsWithinReply (drop k bytes) (saying (take k bytes) e)
step-on bytes k e h = record {
  before = h.before;
  reply = h.reply;
  is_next = h.is_next;
  part = h.part ++ take k bytes;
  said_is = ap (λ (l : List ℕ). l ++ take k bytes) h.said_is ∙ append_assoc h.before h.part (take k bytes);
  within = record {
    rest = h.within.rest;
    same =
        ap (λ (l : List ℕ). l ++ h.within.rest) (append_assoc h.part (take k bytes) (drop k bytes) ∙ ap (λ (l : List ℕ). h.part ++ l) (take-append-drop k bytes))
        ∙ h.within.same;
  };
}

pub step-known : (o n : Option Exchange) (bytes rest : List ℕ) (k : ℕ) → rest ≡ drop k bytes → n ≡ option_map (saying (take k bytes)) o → IfSome o (IsWithinReply bytes)
    → IfSome n (IsWithinReply rest)
step-known o n bytes rest k is e h =
    known-after o n (saying (take k bytes)) (IsWithinReply bytes) (IsWithinReply rest) e
    (λ x w. subst (λ (l : List ℕ). IsWithinReply l (saying (take k bytes) x)) (sym is) (step-on bytes k x w)) h

-- a reply that is whole and of which nothing was said
whole-step : (e : Exchange) (text : List ℕ) → IsNextReply e.fuel e.heard e.ended e.said text → IsWithinReply text e
whole-step e text n =
    record { before = e.said; reply = text; is_next = n; part = []; said_is = sym (append-nil e.said); within = record { rest = []; same = append-nil text } }

false-is-not : false ≡ true → ⊥
false-is-not e = absurd (cc e)

pub owed-known : (o : Option Exchange) (session next : Situation) (line text : List ℕ) → Serves session line text next → IfSome o (Owes session line) → IfSome o (IsWithinReply text)
unfolding Owes
owed-known o session next line text serves h = known-same o o (Owes session line) (IsWithinReply text) refl (λ e w. w text next serves) h

module _ (kept : KeptLaw) where
  next-line : (lines : List ℕ) (at : ℕ) (session next : Situation) (e : Exchange) (text : List ℕ) → (has : HasLine lines at) → (h : IsAt lines session e)
      → Serves session (without_return has.line) text next → IsNextReply e.fuel e.heard e.ended e.said text
  next-line lines at session next e text has h serves = record {
    lines = h.text;
    next = has.line ++ 10 ∷ [];
    after = has.rest;
    heard_is = h.heard ∙ ap (λ (l : List ℕ). h.text ++ l) (has.whole ∙ sym (append_assoc has.line (10 ∷ []) has.rest));
    complete = h.follows.complete;
    last = false;
    is_line = (has.line, has.one, refl);
    over = λ x. absurd (false-is-not x);
    answered = inr (served-so e.fuel h.text e.said session h.follows);
    replied =
        inl (served-so e.fuel (h.text ++ (has.line ++ 10 ∷ [])) (e.said ++ text) next
        (line-more e.fuel h.text e.said session h.follows kept has.line text next has.one serves));
  }

  last-line : (line : List ℕ) (session next : Situation) (e : Exchange) (text : List ℕ) → IsOneLine line → (h : IsLast line session e) → Serves session line text next
      → IsNextReply e.fuel e.heard e.ended e.said text
  last-line line session next e text one h serves = record {
    lines = h.text;
    next = line;
    after = [];
    heard_is = h.heard ∙ ap (λ (l : List ℕ). h.text ++ l) (sym (append-nil line));
    complete = h.follows.complete;
    last = true;
    is_line = (one, refl);
    over = λ x. h.ended;
    answered = inr (served-so e.fuel h.text e.said session h.follows);
    replied = inl (last-served e.fuel h.text e.said session h.follows kept line text next one serves);
  }

  -- the reply to the first line, and to the last one
  pub first-owed : (o : Option Exchange) (lines line : List ℕ) (at : ℕ) (session : Situation) → HasLine lines at → IfSome o (IsAt lines session) → line ≡ without_return (take at lines)
      → IfSome o (Owes session line)
  unfolding Owes whole-step next-line
  first-owed o lines line at session has h is =
      known-same o o (IsAt lines session) (Owes session line) refl
      (λ e k. λ text next serves. whole-step e text (next-line lines at session next e text has k
      (subst (λ (l : List ℕ). Serves session l text next) (is ∙ ap without_return (take-line lines at has)) serves))) h

  pub last-owed : (o : Option Exchange) (line : List ℕ) (session : Situation) → IsOneLine line → IfSome o (IsLast line session) → IfSome o (Owes session line)
  unfolding Owes whole-step last-line
  last-owed o line session one h =
      known-same o o (IsLast line session) (Owes session line) refl
      (λ e k. λ text next serves. whole-step e text (last-line line session next e text one k serves)) h
