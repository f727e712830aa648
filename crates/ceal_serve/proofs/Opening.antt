-- What is said for a source part.
use Rattle.std.proofs.Common.{◌≡◌, inl, inr, ℕ, ◌<◌, ◌^◌, Bool, true, false, Option, Result, Ok, Err, List, [], ◌∷◌, ◌++◌, length, refl, sym, ap, ◌∙◌, subst, append_assoc, append-nil, arith}
use Rattle.std.specs.Prelude.{IfSome, OnErr}
use Rattle.ceal_base.specs.declared.fault.Fault.{Fault}
use Rattle.ceal_compile.specs.Compiled.{IsCompiled}
use Rattle.ceal_compile.specs.FaultLine.{fault_line}
use Rattle.ceal_compile.specs.Source.{IsFirstFault, IsProgram}
use Rattle.ceal_compile.specs.declared.program.Program.{Program}
use Rattle.ceal_session.specs.AfterLine.{situation_at_start}
use Rattle.ceal_session.specs.Laws.{BegunLaw}
use Rattle.ceal_session.specs.Replies.{Leads, situation_without_run}
use Rattle.ceal_session.specs.State.{Situation}
use Rattle.ceal_cli.specs.Lines.{script_lines}
use Rattle.ceal_cli.specs.Output.{IsPrefix, Programmed, first_state}
use Rattle.ceal_serve.specs.Exchange.{Exchange, Says, SaysPrefix, saying}
use Rattle.ceal_serve.specs.Listening.{IsFaultLineOf, IsHeardSource, IsMarkedSource, IsOpenSource, OwesFault, SourceIs}
use Rattle.ceal_serve.specs.Replying.{Follows, IsAt}
use Rattle.ceal_serve.specs.Turns.{IsHead, IsTurnedAway, IsBeginning, IsDone, IsOver, IsRefused, IsWithinReply}
use Rattle.ceal_serve.proofs.Following.{begins-there, nothing-served}
use Rattle.ceal_serve.proofs.Hearing.{known-said, known-same, on-err, prefix-said, said-none, unsaid-begins}
use Rattle.ceal_serve.proofs.Heads.{complete-source, marked-head, open-head}
use Rattle.ceal_serve.proofs.Marks.{one-mark}

true-is-not : false ≡ true → ⊥
true-is-not e = absurd (cc e)

-- the line of the first fault was said
module _ (fuel : ℕ) (text rest line : List ℕ) (small : length text < 2 ^ 32) (fault : IsFaultLineOf text line) (e : Exchange) where
  away : (ended : Bool) (all script : List ℕ) → IsHead ended text script → all ≡ text ++ script → IsTurnedAway ended all line
  away ended all script head whole = record {
    parts = record { head = text; script = script; is_head = head; whole = whole };
    fault = fault.0;
    first = fault.1;
    line = fault.2;
  }

  open-is : IsOpenSource text → IsHead true text []
  open-is is = open-head text is (Err fault.0) fault.1

  -- by what was heard
  away-now : (marked : Bool) → SourceIs marked text → IsHeardSource fuel marked text rest e → IsTurnedAway e.ended e.heard line
  unfolding open-is
  away-now true is h = elim h.heard [
    | inl k ↦ away e.ended e.heard rest (marked-head text small is e.ended rest) k.2
    | inr k ↦ absurd (true-is-not (sym k.0))
  ]
  away-now false is h = elim h.heard [
    | inl k ↦ absurd (true-is-not k.0)
    | inr k ↦ away e.ended e.heard [] (subst (λ b. IsHead b text []) (sym k.1) (open-is is)) (k.2 ∙ sym (append-nil text))
  ]

  -- and however it continues
  away-then : (marked : Bool) → SourceIs marked text → IsHeardSource fuel marked text rest e → (more : List ℕ) → (e.ended ≡ true → more ≡ []) → IsTurnedAway true (e.heard ++ more) line
  unfolding open-is
  away-then true is h more over = elim h.heard [
    | inl k ↦ away true (e.heard ++ more) (rest ++ more) (marked-head text small is true (rest ++ more)) (ap (λ (l : List ℕ). l ++ more) k.2 ∙ append_assoc text rest more)
    | inr k ↦ absurd (true-is-not (sym k.0))
  ]
  away-then false is h more over = elim h.heard [
    | inl k ↦ absurd (true-is-not k.0)
    | inr k ↦ away true (e.heard ++ more) [] (open-is is) (ap (λ (l : List ℕ). l ++ more) k.2 ∙ ap (λ (l : List ℕ). text ++ l) (over k.1))
  ]

  -- it is the next reply
  owed-marked : IsMarkedSource text → IsHeardSource fuel true text rest e → IsWithinReply line e
  owed-marked is h = elim h.heard [
    | inl k ↦ (record {
      before = [];
      reply = line;
      is_next = record {
        lines = is.front;
        next = is.line ++ 10 ∷ [];
        after = rest;
        heard_is = k.2 ∙ (ap (λ (l : List ℕ). l ++ rest) is.whole ∙ append_assoc is.front (is.line ++ 10 ∷ []) rest);
        complete = is.complete;
        last = false;
        is_line = (is.line, one-mark is.line is.mark, refl);
        over = λ x. absurd (true-is-not x);
        answered = inl (is.none, refl);
        replied = inr (subst (λ (t : List ℕ). IsTurnedAway false t line) is.whole (away false text [] (marked-head text small is false []) (sym (append-nil text))));
      };
      part = [];
      said_is = h.unsaid;
      within = record { rest = []; same = append-nil line };
    })
    | inr k ↦ absurd (true-is-not (sym k.0))
  ]

  owed-open : IsOpenSource text → IsHeardSource fuel false text rest e → IsWithinReply line e
  unfolding open-is
  owed-open is h = elim h.heard [
    | inl k ↦ absurd (true-is-not k.0)
    | inr k ↦ (record {
      before = [];
      reply = line;
      is_next = record {
        lines = is.front;
        next = is.last;
        after = [];
        heard_is = k.2 ∙ (is.whole ∙ ap (λ (l : List ℕ). is.front ++ l) (sym (append-nil is.last)));
        complete = is.complete;
        last = true;
        is_line = (is.one, refl);
        over = λ x. k.1;
        answered = inl (is.none, refl);
        replied = inr (subst (λ (t : List ℕ). IsTurnedAway true t line) is.whole (away true text [] (open-is is) (sym (append-nil text))));
      };
      part = [];
      said_is = h.unsaid;
      within = record { rest = []; same = append-nil line };
    })
  ]

  pub fault-owed : (marked : Bool) → SourceIs marked text → IsHeardSource fuel marked text rest e → IsWithinReply line e
  unfolding owed-marked owed-open
  fault-owed true is h = owed-marked is h
  fault-owed false is h = owed-open is h

  pub refused-at : (marked : Bool) → SourceIs marked text → IsHeardSource fuel marked text rest e → IsRefused (saying line e)
  unfolding away-now
  refused-at marked is h =
      subst (λ (l : List ℕ). IsTurnedAway e.ended e.heard l) (sym (ap (λ (l : List ℕ). l ++ line) h.unsaid)) (away-now marked is h)

  pub fault-begins : (marked : Bool) → SourceIs marked text → IsHeardSource fuel marked text rest e → (out : List ℕ) → IsPrefix out line → IsBeginning (saying out e)
  unfolding IsBeginning away-then
  fault-begins marked is h out p = λ more over.
      inr (line, inr (away-then marked is h more over), record { rest = p.rest; same = ap (λ (l : List ℕ). (l ++ out) ++ p.rest) h.unsaid ∙ p.same })

-- an accepted source part without more is served
module _ (fuel : ℕ) (text rest : List ℕ) (e : Exchange) (p : Program) (reads : IsProgram text p.typed) (compiled : IsCompiled p) where
  program-at : (ended : Bool) (script : List ℕ) → IsHead ended text script → Programmed text
  program-at ended script head = record { part = head.part; split = head.split; program = p.typed; reads = reads; code = p.code; is_code = compiled.code }

  pub done-open : IsOpenSource text → IsHeardSource fuel false text rest e → IsDone e
  unfolding program-at
  done-open is h = elim h.heard [
    | inl k ↦ absurd (true-is-not k.0)
    | inr k ↦ (let head : IsHead true text [] = open-head text is (Ok p.typed) reads in
        let none = nothing-served (situation_without_run p.code (first_state (program-at true [] head) e.fuel)) in (
          k.1,
          record {
            parts = record { head = text; script = []; is_head = head; whole = k.2 ∙ sym (append-nil text) };
            program = program-at true [] head;
            replies = record {
              end = none.0;
              leads =
                  subst (λ (l : List ℕ). Leads (situation_without_run p.code (first_state (program-at true [] head) e.fuel)) (script_lines []) l none.0) (sym h.unsaid) none.1;
            };
          },
        ))
  ]

  -- after the mark the session begins
  pub at-opening : BegunLaw → length text < 2 ^ 32 → IsMarkedSource text → IsHeardSource fuel true text rest e → (session : Situation) → session ≡ situation_at_start p fuel → IsAt rest session e
  at-opening begins small is h session same = elim h.heard [
    | inr k ↦ absurd (true-is-not (sym k.0))
    | inl k ↦ (let f : Follows fuel text [] (situation_at_start p fuel) = begins-there begins p fuel text (marked-head text small is false []) (complete-source text small is) reads compiled in
        let g : Follows e.fuel text [] (situation_at_start p fuel) = subst (λ n. Follows n text [] (situation_at_start p fuel)) (sym h.fuel_is) f in
        let i : Follows e.fuel text e.said (situation_at_start p fuel) = subst (λ (l : List ℕ). Follows e.fuel text l (situation_at_start p fuel)) (sym h.unsaid) g in
        record { text = text; heard = k.2; going = k.1; follows = subst (λ s. Follows e.fuel text e.said s) (sym same) i })
  ]

-- nothing was said yet
pub heard-begins : (fuel : ℕ) (marked : Bool) (text rest : List ℕ) (o : Option Exchange) → IfSome o (IsHeardSource fuel marked text rest) → IfSome o IsBeginning
heard-begins fuel marked text rest o h =
    known-same o o (IsHeardSource fuel marked text rest) IsBeginning refl (λ e k. unsaid-begins e k.unsaid) h

pub fault-step : (o : Option Exchange) (source line : List ℕ) → IsFaultLineOf source line → IfSome o (OwesFault source) → IfSome o (IsWithinReply line)
unfolding OwesFault
fault-step o source line fault h = known-same o o (OwesFault source) (IsWithinReply line) refl (λ e w. w line fault) h

-- nothing of the line was said
pub none-of-it : {A E : Type 0} (r : Result A E) (o : Option Exchange) (source : List ℕ) (fault : Fault) → IsFirstFault source fault
    → OnErr r ((line : List ℕ) × IsFaultLineOf source line × SaysPrefix o o line)
none-of-it r o source fault first = on-err r ((line : List ℕ) × IsFaultLineOf source line × SaysPrefix o o line) (fault_line source fault, (fault, first, refl), (0, omega arith, sym (said-none o)))

-- The same of what is known of a conversation whose source part was heard.
module _ (fuel : ℕ) (marked : Bool) (text rest : List ℕ) (o : Option Exchange) (h : IfSome o (IsHeardSource fuel marked text rest)) where
  module _ (is : SourceIs marked text) (p : Program) (reads : IsProgram text p.typed) (compiled : IsCompiled p) where
    pub done-known : marked ≡ false → IfSome o (IsOver true)
    done-known open-is =
        known-same o o (IsHeardSource fuel marked text rest) (IsOver true) refl
        (λ e k. done-open fuel text rest e p reads compiled (subst (λ b. SourceIs b text) open-is is) (subst (λ b. IsHeardSource fuel b text rest e) open-is k)) h

    pub at-known : BegunLaw → length text < 2 ^ 32 → marked ≡ true → (session : Situation) → session ≡ situation_at_start p fuel → IfSome o (IsAt rest session)
    at-known begins small marked-is session same =
        known-same o o (IsHeardSource fuel marked text rest) (IsAt rest session) refl
        (λ e k. at-opening fuel text rest e p reads compiled begins small (subst (λ b. SourceIs b text) marked-is is) (subst (λ b. IsHeardSource fuel b text rest e) marked-is k) session same) h

  module _ (is : SourceIs marked text) (small : length text < 2 ^ 32) (n : Option Exchange) where
    pub refused-known : Says o n (IsFaultLineOf text) → IfSome n (IsOver false)
    refused-known said =
        known-said o n (IsFaultLineOf text) (IsHeardSource fuel marked text rest) (IsOver false) said (λ line e p k. refused-at fuel text rest line small p e marked is k) h

    pub owes-fault : IfSome o (OwesFault text)
    unfolding OwesFault fault-owed
    owes-fault =
        known-same o o (IsHeardSource fuel marked text rest) (OwesFault text) refl (λ e k. λ line fault. fault-owed fuel text rest line small fault e marked is k) h

    pub whole-begins : Says o n (IsFaultLineOf text) → IfSome n IsBeginning
    whole-begins said =
        known-said o n (IsFaultLineOf text) (IsHeardSource fuel marked text rest) IsBeginning said
        (λ line e p k. fault-begins fuel text rest line small p e marked is k line (record { rest = []; same = append-nil line })) h

    pub part-begins : (line : List ℕ) × IsFaultLineOf text line × SaysPrefix o n line → IfSome n IsBeginning
    part-begins (line, fault, part) =
        known-said o n (λ out. IsPrefix out line) (IsHeardSource fuel marked text rest) IsBeginning (prefix-said o n line part)
        (λ out e p k. fault-begins fuel text rest line small fault e marked is k out p) h
