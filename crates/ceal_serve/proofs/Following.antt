-- Replies to lines, one after another, and what is said for a text.
use Rattle.std.proofs.Common.{◌≡◌, ◌⊎◌, inl, inr, suc, ◌+◌, ℕ, true, false, Option, Some, Result, List, []}
use Rattle.std.proofs.Common.{◌∷◌, ◌++◌, length, take, drop, refl, sym, ap, ◌∙◌, subst, append_assoc, append-nil, arith}
use Rattle.std.proofs.Common.{option_map}
use Rattle.std.specs.Prelude.{IfSome, OnErr}
use Rattle.ceal_compile.specs.Compiled.{IsCompiled}
use Rattle.ceal_compile.specs.Source.{IsProgram}
use Rattle.ceal_compile.specs.declared.program.Program.{Program}
use Rattle.ceal_lex.specs.Parts.{IsBeforeLine}
use Rattle.ceal_script.specs.Lines.{IsLineOf}
use Rattle.ceal_script.specs.Words.{HasWords}
use Rattle.ceal_script.specs.declared.command.Command.TheVariants.{Blank}
use Rattle.ceal_session.specs.AfterLine.{situation_at_start}
use Rattle.ceal_session.specs.Laws.{AnswersIn, BegunLaw, KeptLaw, SomeScriptLaw}
use Rattle.ceal_session.specs.Replies.{situation_without_run, Replies, Leads, situation_after}
use Rattle.ceal_session.specs.State.{Situation}
use Rattle.ceal_cli.specs.Lines.{lines_of, script_lines, without_return}
use Rattle.ceal_cli.specs.Output.{Begins, IsPrefix, first_state}
use Rattle.ceal_cli.specs.ServedLines.{BeginsReply, IsReply, Serves}
use Rattle.ceal_serve.specs.Exchange.{Exchange, Says, saying}
use Rattle.ceal_serve.specs.Listening.{HasLine, Hears, HearsEnd, HearsSome, IsCaughtUp, heard_more, heard_end}
use Rattle.ceal_serve.specs.Replying.{Follows, IsAt, IsLast}
use Rattle.ceal_serve.specs.Turns.{IsHead, IsServed, IsAnswered, IsOneLine, IsSaidFor, IsBeginning, IsDone, IsLong, IsTooLong, LIMIT}
use Rattle.ceal_serve.proofs.FirstLine.{line-first, one-line-last}
use Rattle.ceal_serve.proofs.Hearing.{known-after, known-said, known-same, on-err}

-- one line more, and many
leads-more : (front : List (List ℕ)) (line : List ℕ) (m mid n : Situation) (out text : List ℕ) → Leads m front out mid → Replies mid line text n
    → Leads m (front ++ line ∷ []) (out ++ text) n
unfolding Leads
leads-more [] line m mid n out text (e, same) r =
    (text, n, [], subst (λ (s : Situation). Replies s line text n) same r, (refl, refl), ap (λ (t : List ℕ). t ++ text) e ∙ sym (append-nil text))
leads-more (l ∷ front) line m mid n out text (t, s, rest, first, more, e) r =
    (t, s, rest ++ text, first, leads-more front line s mid n rest text more r, ap (λ (o : List ℕ). o ++ text) e ∙ append_assoc t rest text)

leads-join : (front back : List (List ℕ)) (m mid n : Situation) (a b : List ℕ) → Leads m front a mid → Leads mid back b n → Leads m (front ++ back) (a ++ b) n
unfolding Leads
leads-join [] back m mid n a b (e, same) more =
    subst (λ (s : Situation). Leads s back (a ++ b) n) same (subst (λ (t : List ℕ). Leads mid back (t ++ b) n) (sym e) more)
leads-join (l ∷ front) back m mid n a b (t, s, rest, first, after, e) more =
    (t, s, rest ++ b, first, leads-join front back s mid n rest b after more, ap (λ (o : List ℕ). o ++ b) e ∙ append_assoc t rest b)

-- an empty line has no reply
empty-is-blank : IsLineOf Blank []
unfolding HasWords
empty-is-blank = record { words = []; has_words = tt; says = tt }

blank-reply : (m : Situation) → Replies m [] [] (situation_after m (Some Blank))
blank-reply m = record { command = Some Blank; reads = empty-is-blank; reply = refl; next = refl }

empty-lines : script_lines [] ≡ [] ∷ []
unfolding lines_of
empty-lines = refl

still : (P Q : Type 0) → P ⊎ ((false ≡ true) × Q) → P
still P Q (inl p) = p
still P Q (inr q) = absurd (cc q.0)

-- the replies to nothing are nothing
pub nothing-served : (m : Situation) → (end : Situation) × Leads m (script_lines []) [] end
unfolding Leads
nothing-served m = (
  situation_after m (Some Blank),
  subst (λ (l : List (List ℕ)). Leads m l [] (situation_after m (Some Blank))) (sym empty-lines)
      ([], situation_after m (Some Blank), [], blank-reply m, (refl, refl), refl),
)

-- the session begins after the mark
pub begins-there : BegunLaw → (p : Program) (fuel : ℕ) (text : List ℕ) → IsHead false text [] → IsBeforeLine text → IsProgram text p.typed → IsCompiled p
    → Follows fuel text [] (situation_at_start p fuel)
unfolding Leads
begins-there begins p fuel text head complete reads compiled = record {
  parts = record { head = text; script = []; is_head = head; whole = sym (append-nil text) };
  program = record { part = head.part; split = head.split; program = p.typed; reads = reads; code = p.code; is_code = compiled.code };
  complete = complete;
  front = [];
  lines = λ more. refl;
  end = situation_at_start p fuel;
  leads = (refl, refl);
  is_in = begins p fuel compiled;
}

module _ (fuel : ℕ) (text said : List ℕ) (session : Situation) (h : Follows fuel text said session) where
  abbrev first : Situation
  first = situation_without_run h.program.code (first_state h.program fuel)

  -- all is said to the complete lines
  pub served-so : IsServed fuel false text said
  served-so =
      let lines-now : script_lines h.parts.script ≡ h.front ++ ([] ∷ []) =
      ap script_lines (sym (append-nil h.parts.script)) ∙ (h.lines [] ∙ ap (λ (l : List (List ℕ)). h.front ++ l) empty-lines) in
      let leads : Leads first (h.front ++ ([] ∷ [])) (said ++ []) (situation_after h.end (Some Blank)) =
      leads-more h.front [] first h.end (situation_after h.end (Some Blank)) said [] h.leads (blank-reply h.end) in
      let now = subst (λ (t : List ℕ). Leads first (h.front ++ ([] ∷ [])) t (situation_after h.end (Some Blank))) (append-nil said) leads in
      record {
        parts = h.parts;
        program = h.program;
        replies = record { end = situation_after h.end (Some Blank); leads = subst (λ (l : List (List ℕ)). Leads first l said (situation_after h.end (Some Blank))) (sym lines-now) now };
      }

  -- what is said where the text continues so and ends
  to-end : (rest out : List ℕ) (end : Situation) → Leads first (h.front ++ script_lines rest) (said ++ out) end → IsServed fuel true (text ++ rest) (said ++ out)
  to-end rest out end leads = record {
    parts = record {
      head = h.parts.head;
      script = h.parts.script ++ rest;
      is_head = record { part = h.parts.is_head.part; split = h.parts.is_head.split; bare = h.parts.is_head.bare; complete = inl (still _ _ h.parts.is_head.complete) };
      whole = ap (λ (t : List ℕ). t ++ rest) h.parts.whole ∙ append_assoc h.parts.head h.parts.script rest;
    };
    program = h.program;
    replies = record { end = end; leads = subst (λ (l : List (List ℕ)). Leads first l (said ++ out) end) (sym (h.lines rest)) leads };
  }

  some-end : SomeScriptLaw → (rest : List ℕ) → (out : List ℕ) × IsServed fuel true (text ++ rest) (said ++ out)
  some-end script rest =
      let r = script h.end (script_lines rest) h.is_in.sound in
      (r.out, to-end rest r.out r.end (leads-join h.front (script_lines rest) first h.end r.end said r.out h.leads r.leads))

  module _ (kept : KeptLaw) where
    -- after one line more
    pub line-more : (line out : List ℕ) (next : Situation) → IsOneLine line → Serves session (without_return line) out next → Follows fuel (text ++ (line ++ 10 ∷ [])) (said ++ out) next
    line-more line out next one serves =
        let k : AnswersIn h.end (without_return line) out next = kept session next h.end (without_return line) out h.is_in serves.answers serves.repairs in
        record {
          parts = record {
            head = h.parts.head;
            script = h.parts.script ++ (line ++ 10 ∷ []);
            is_head = record { part = h.parts.is_head.part; split = h.parts.is_head.split; bare = h.parts.is_head.bare; complete = inl (still _ _ h.parts.is_head.complete) };
            whole = ap (λ (t : List ℕ). t ++ (line ++ 10 ∷ [])) h.parts.whole ∙ append_assoc h.parts.head h.parts.script (line ++ 10 ∷ []);
          };
          program = h.program;
          complete = inr (text ++ line, sym (append_assoc text line (10 ∷ [])));
          front = h.front ++ (without_return line ∷ []);
          lines = λ more.
              ap script_lines (append_assoc h.parts.script (line ++ 10 ∷ []) more)
              ∙ (h.lines ((line ++ 10 ∷ []) ++ more)
              ∙ (ap (λ (l : List (List ℕ)). h.front ++ l) (ap script_lines (append_assoc line (10 ∷ []) more) ∙ line-first line more one)
              ∙ sym (append_assoc h.front (without_return line ∷ []) (script_lines more))));
          end = k.next;
          leads = leads-more h.front (without_return line) first h.end k.next said out h.leads k.replies;
          is_in = k.is_in;
        }

    -- after the last line
    pub last-served : (rest out : List ℕ) (next : Situation) → IsOneLine rest → Serves session rest out next → IsServed fuel true (text ++ rest) (said ++ out)
    last-served rest out next one serves =
        let k : AnswersIn h.end rest out next = kept session next h.end rest out h.is_in serves.answers serves.repairs in
        to-end rest out k.next
        (subst (λ (l : List (List ℕ)). Leads first (h.front ++ l) (said ++ out) k.next) (sym (one-line-last rest one))
        (leads-more h.front rest first h.end k.next said out h.leads k.replies))

pub caught-up-at : (rest : List ℕ) (session : Situation) (e : Exchange) → IsAt rest session e → IsCaughtUp rest e
unfolding served-so
caught-up-at rest session e h = record { going = h.going; lines = h.text; heard = h.heard; complete = h.follows.complete; answered = inr (served-so e.fuel h.text e.said session h.follows) }

pub at-more : (rest more : List ℕ) (session : Situation) (e : Exchange) → IsAt rest session e → IsAt (rest ++ more) session (heard_more more e)
at-more rest more session e h = record { text = h.text; heard = ap (λ (l : List ℕ). l ++ more) h.heard ∙ append_assoc h.text rest more; going = h.going; follows = h.follows }

pub at-end : (rest : List ℕ) (session : Situation) (e : Exchange) → IsAt rest session e → IsLast rest session (heard_end e)
at-end rest session e h = record { text = h.text; heard = h.heard; ended = refl; follows = h.follows }

take-whole : (line rest : List ℕ) → take (length line) (line ++ rest) ≡ line
take-whole [] rest = refl
take-whole (b ∷ line) rest = ap (λ (l : List ℕ). b ∷ l) (take-whole line rest)

drop-whole : (line rest : List ℕ) → drop (length line + 1) (line ++ 10 ∷ rest) ≡ rest
drop-whole [] rest = refl
drop-whole (b ∷ line) rest =
    let e : length (b ∷ line) + 1 ≡ suc (length line + 1) = omega arith in
    ap (λ n. drop n (b ∷ (line ++ 10 ∷ rest))) e ∙ drop-whole line rest

-- the first line, and what is left after it
pub take-line : (text : List ℕ) (at : ℕ) (h : HasLine text at) → take at text ≡ h.line
take-line text at h = ap (λ (t : List ℕ). take at t) h.whole ∙ (ap (λ n. take n (h.line ++ 10 ∷ h.rest)) (sym h.ends) ∙ take-whole h.line (10 ∷ h.rest))

pub drop-line : (text : List ℕ) (at : ℕ) (h : HasLine text at) → drop (at + 1) text ≡ h.rest
drop-line text at h = ap (λ (t : List ℕ). drop (at + 1) t) h.whole ∙ (ap (λ n. drop (n + 1) (h.line ++ 10 ∷ h.rest)) (sym h.ends) ∙ drop-whole h.line h.rest)

whole-line : (heard text rest : List ℕ) (at : ℕ) (h : HasLine rest at) → heard ≡ text ++ rest → heard ≡ (text ++ (h.line ++ 10 ∷ [])) ++ h.rest
whole-line heard text rest at h e =
    e ∙ (ap (λ (t : List ℕ). text ++ t) (h.whole ∙ sym (append_assoc h.line (10 ∷ []) h.rest)) ∙ sym (append_assoc text (h.line ++ 10 ∷ []) h.rest))

same-pieces : (said text out rest : List ℕ) (p : IsPrefix out text) → (said ++ out) ++ (p.rest ++ rest) ≡ (said ++ text) ++ rest
same-pieces said text out rest p =
    append_assoc said out (p.rest ++ rest)
    ∙ (ap (λ (t : List ℕ). said ++ t) (sym (append_assoc out p.rest rest) ∙ ap (λ (t : List ℕ). t ++ rest) p.same)
    ∙ sym (append_assoc said text rest))

-- what was heard continues so
then-more : (heard text rest more : List ℕ) → heard ≡ text ++ rest → heard ++ more ≡ text ++ (rest ++ more)
then-more heard text rest more e = ap (λ (t : List ℕ). t ++ more) e ∙ append_assoc text rest more

-- what was said begins what is said for all that will be heard
module _ (script : SomeScriptLaw) (rest : List ℕ) (session : Situation) (e : Exchange) (h : IsAt rest session e) where
  begins-then : (more : List ℕ) → Begins (IsSaidFor e.fuel (e.heard ++ more)) e.said
  unfolding some-end
  begins-then more =
      let w = some-end e.fuel h.text e.said session h.follows script (rest ++ more) in
      inr (e.said ++ w.0, inl (subst (λ (t : List ℕ). IsServed e.fuel true t (e.said ++ w.0)) (sym (then-more e.heard h.text rest more h.heard)) w.1), record { rest = w.0; same = refl })

  pub beginning-at : IsBeginning e
  unfolding IsBeginning begins-then
  beginning-at = λ more over. begins-then more

  module _ (kept : KeptLaw) where
    -- also where it is a part of the reply to the next line
    part-then : (at : ℕ) (out : List ℕ) → HasLine rest at → BeginsReply session (without_return (take at rest)) out → (more : List ℕ) → Begins (IsSaidFor e.fuel (e.heard ++ more)) (e.said ++ out)
    unfolding line-more some-end begins-then
    part-then at out has (inl none) more =
        subst (λ (t : List ℕ). Begins (IsSaidFor e.fuel (e.heard ++ more)) t) (sym (ap (λ (o : List ℕ). e.said ++ o) none ∙ append-nil e.said)) (begins-then more)
    part-then at out has (inr (text, next, serves, prefix)) more =
        let front : take at rest ≡ has.line = take-line rest at has in
        let serves-line : Serves session (without_return has.line) text next = subst (λ (l : List ℕ). Serves session (without_return l) text next) front serves in
        let after = line-more e.fuel h.text e.said session h.follows kept has.line text next has.one serves-line in
        let w = some-end e.fuel (h.text ++ (has.line ++ 10 ∷ [])) (e.said ++ text) next after script (has.rest ++ more) in
        let heard : e.heard ++ more ≡ (h.text ++ (has.line ++ 10 ∷ [])) ++ (has.rest ++ more) =
        then-more e.heard (h.text ++ (has.line ++ 10 ∷ [])) has.rest more (whole-line e.heard h.text rest at has h.heard) in
        inr (
          (e.said ++ text) ++ w.0,
          inl (subst (λ (t : List ℕ). IsServed e.fuel true t ((e.said ++ text) ++ w.0)) (sym heard) w.1),
          record { rest = prefix.rest ++ w.0; same = same-pieces e.said text out w.0 prefix },
        )

    pub beginning-part : (at : ℕ) (out : List ℕ) → HasLine rest at → BeginsReply session (without_return (take at rest)) out → IsBeginning (saying out e)
    unfolding IsBeginning part-then
    beginning-part at out has part = λ more over. part-then at out has part more

-- the reply to the first line was said
pub at-next : KeptLaw → (rest : List ℕ) (session next : Situation) (e : Exchange) (at : ℕ) (out : List ℕ) → IsAt rest session e → HasLine rest at
    → Serves session (without_return (take at rest)) out next → IsAt (drop (at + 1) rest) next (saying out e)
unfolding line-more
at-next kept rest session next e at out h has serves =
    let front : take at rest ≡ has.line = take-line rest at has in
    let serves-line : Serves session (without_return has.line) out next = subst (λ (l : List ℕ). Serves session (without_return l) out next) front serves in
    record {
      text = h.text ++ (has.line ++ 10 ∷ []);
      going = h.going;
      heard = whole-line e.heard h.text rest at has h.heard ∙ ap (λ (t : List ℕ). (h.text ++ (has.line ++ 10 ∷ [])) ++ t) (sym (drop-line rest at has));
      follows = line-more e.fuel h.text e.said session h.follows kept has.line out next has.one serves-line;
    }

-- the reply to the last line was said, or a part of it
module _ (kept : KeptLaw) (rest : List ℕ) (session : Situation) (e : Exchange) (one : IsOneLine rest) (h : IsLast rest session e) where
  pub done-at : (next : Situation) (out : List ℕ) → Serves session rest out next → IsDone (saying out e)
  unfolding last-served
  done-at next out serves =
      let w = last-served e.fuel h.text e.said session h.follows kept rest out next one serves in
      (h.ended, subst (λ (t : List ℕ). IsServed e.fuel true t (e.said ++ out)) (sym h.heard) w)

  last-then : SomeScriptLaw → (out : List ℕ) → BeginsReply session rest out → Begins (IsSaidFor e.fuel (h.text ++ rest)) (e.said ++ out)
  unfolding last-served some-end
  last-then script out (inl none) =
      let w = some-end e.fuel h.text e.said session h.follows script rest in
      inr (
        e.said ++ w.0,
        inl w.1,
        record { rest = w.0; same = ap (λ (o : List ℕ). o ++ w.0) (ap (λ (o : List ℕ). e.said ++ o) none ∙ append-nil e.said) },
      )
  last-then script out (inr (text, next, serves, prefix)) =
      let w = last-served e.fuel h.text e.said session h.follows kept rest text next one serves in
      inr (
        e.said ++ text,
        inl w,
        record { rest = prefix.rest; same = append_assoc e.said out prefix.rest ∙ ap (λ (t : List ℕ). e.said ++ t) prefix.same },
      )

  pub beginning-last : SomeScriptLaw → (out : List ℕ) → BeginsReply session rest out → IsBeginning (saying out e)
  unfolding IsBeginning last-then
  beginning-last script out part = λ more over.
      let all : e.heard ++ more ≡ h.text ++ rest = ap (λ (t : List ℕ). e.heard ++ t) (over h.ended) ∙ (append-nil e.heard ∙ h.heard) in
      subst (λ (t : List ℕ). Begins (IsSaidFor e.fuel t) (e.said ++ out)) (sym all) (last-then script out part)

-- The same of what is known of a conversation.
module _ {A E : Type 0} (r : Result A E) (script : SomeScriptLaw) (kept : KeptLaw) (o n : Option Exchange) where
  pub first-begins : (lines line : List ℕ) (at : ℕ) (session : Situation) → HasLine lines at → IfSome o (IsAt lines session) → line ≡ without_return (take at lines)
      → Says o n (BeginsReply session line) → OnErr r (IfSome n IsBeginning)
  first-begins lines line at session has h is said =
      on-err r (IfSome n IsBeginning) (known-said o n (BeginsReply session line) (IsAt lines session) IsBeginning said
      (λ out e p k. beginning-part script lines session e k kept at out has (subst (λ (l : List ℕ). BeginsReply session l out) is p)) h)

pub first-next : KeptLaw → (o n : Option Exchange) (lines rest line : List ℕ) (at : ℕ) (session next : Situation) → HasLine lines at → IfSome o (IsAt lines session)
    → line ≡ without_return (take at lines) → rest ≡ drop (at + 1) lines → Says o n (IsReply session line next) → IfSome n (IsAt rest next)
first-next kept o n lines rest line at session next has h is left said =
    known-said o n (IsReply session line next) (IsAt lines session) (IsAt rest next) said
    (λ text e p k. subst (λ (l : List ℕ). IsAt l next (saying text e)) (sym left) (at-next kept lines session next e at text k has (subst (λ (l : List ℕ). Serves session l text next) is p))) h

module _ (kept : KeptLaw) (o n : Option Exchange) (line : List ℕ) (session : Situation) (one : IsOneLine line) (h : IfSome o (IsLast line session)) where
  pub last-done : (next : Situation) → Says o n (IsReply session line next) → IfSome n IsDone
  last-done next said = known-said o n (IsReply session line next) (IsLast line session) IsDone said (λ text e p k. done-at kept line session e one k next text p) h

  pub last-begins : SomeScriptLaw → Says o n (BeginsReply session line) → IfSome n IsBeginning
  last-begins script said = known-said o n (BeginsReply session line) (IsLast line session) IsBeginning said (λ out e p k. beginning-last kept line session e one k script out p) h

pub caught-up-known : (o : Option Exchange) (rest : List ℕ) (session : Situation) → IfSome o (IsAt rest session) → IfSome o (IsCaughtUp rest)
caught-up-known o rest session h = known-same o o (IsAt rest session) (IsCaughtUp rest) refl (λ e k. caught-up-at rest session e k) h

-- more was heard, and the end
pub at-heard : (o n : Option Exchange) (before after : List ℕ) (session : Situation) → Hears o n before after → IfSome o (IsAt before session) → IfSome n (IsAt after session)
at-heard o n before after session h k =
    known-after o n (heard_more h.more) (IsAt before session) (IsAt after session) h.exchange
    (λ e a. subst (λ (l : List ℕ). IsAt l session (heard_more h.more e)) (sym h.there) (at-more before h.more session e a)) k

pub last-heard : (o n : Option Exchange) (before after : List ℕ) (session : Situation) → HearsEnd o n before after → IfSome o (IsAt before session) → IfSome n (IsLast after session)
last-heard o n before after session h k =
    known-after (option_map (heard_more h.more) o) n heard_end (IsAt after session) (IsLast after session) h.exchange (λ e a. at-end after session e a)
    (at-heard o (option_map (heard_more h.more) o) before after session (record { more = h.more; exchange = refl; there = h.there }) k)

-- more was heard, and is lost or too much
pub lost-heard : SomeScriptLaw → (o n : Option Exchange) (before : List ℕ) (session : Situation) → HearsSome o n → IfSome o (IsAt before session) → IfSome n IsBeginning
lost-heard script o n before session (more, h) k =
    known-after o n (heard_more more) (IsAt before session) IsBeginning h (λ e a. beginning-at script (before ++ more) session (heard_more more e) (at-more before more session e a)) k

pub begins-known : SomeScriptLaw → (o : Option Exchange) (rest : List ℕ) (session : Situation) → IfSome o (IsAt rest session) → IfSome o IsBeginning
begins-known script o rest session h = known-same o o (IsAt rest session) IsBeginning refl (λ e k. beginning-at script rest session e k) h

pub line-too-long : (o n : Option Exchange) (before after : List ℕ) (session : Situation) → Hears o n before after → IsLong LIMIT after → IfSome o (IsAt before session) → IfSome n IsTooLong
line-too-long o n before after session h long k =
    known-same n n (IsAt after session) IsTooLong refl
    (λ e a. record { lines = a.text; part = after; heard = a.heard; complete = a.follows.complete; long = inl long }) (at-heard o n before after session h k)
