-- The replies of lines are the text that the plain meaning of the source gives to them with their entries.
use Rattle.std.proofs.Common.{◌≡◌, ℕ, Bool, Option, Some, None, Result, Ok, Err, List, [], ◌∷◌, ◌++◌, refl, sym, ap, ap₂, ◌∙◌, subst, arith}
use Rattle.ceal_base.specs.declared.call.Call.{Call}
use Rattle.ceal_code.specs.Program.{Code}
use Rattle.ceal_script.specs.declared.command.Command.{Command}
use Rattle.ceal_script.specs.declared.command.Command.TheVariants.{Blank, Mod, New, Set, Run, Propagate, Slice, Get, Show, Blocks, Steps, Work, Bound}
use Rattle.ceal_session.proofs.Replies.QuestionsAnswered.{can-tell}
use Rattle.ceal_session.specs.Questions.{IsReady, CanTell}
use Rattle.ceal_session.specs.Entries.{Entry, entry_of, entries_by, AreEntries, begins_with_more, told_after_run, told_after, AreReplies, EntriesLaw, OneTextLaw}
use Rattle.ceal_session.specs.Laws.{OneCommandLaw, OneAnswerLaw, OneStateLaw}
use Rattle.ceal_session.specs.Replies.{Reads, Answers, Replies, Leads, situation_after}
use Rattle.ceal_session.specs.Consistency.{IsPastIn, IsConsistent}
use Rattle.ceal_session.specs.State.{State, Situation, Numbers, trace_in_past, latest_work, numbers_in}
use Rattle.ceal_session.specs.Steps.{step_of_line}
use Rattle.ceal_session.specs.Texts.{IsText}
use Rattle.ceal_session.specs.Works.{call_in, past_in, past_left, bound_in, bound_left, reads_in}
use Rattle.ceal_session.specs.declared.refusal.Refusal.{Refusal}
use Rattle.ceal_session.specs.declared.reply.Reply.{Reply}
use Rattle.ceal_session.specs.declared.reply.Reply.TheVariants as reply
use Rattle.ceal_session.specs.declared.reply.Reply.TheVariants.{Refused, Told as Asked}
use Rattle.ceal_theory.specs.Computed.{Repaired}
use Rattle.ceal_theory.specs.Pasts.{Past, NoTrace, Traced, Going, goes}

-- a line that runs nothing is answered without a look at the repair
same-step : (s : State) (a b : Bool) (command : Option Command) (r : Refusal) → call_in s command ≡ Err r → step_of_line s a command ≡ step_of_line s b command
same-step s a b None r e = refl
same-step s a b (Some Blank) r e = refl
same-step s a b (Some (Mod name kind value)) r e = refl
same-step s a b (Some (New name shape values)) r e = refl
same-step s a b (Some (Set place value)) r e = refl
same-step s a b (Some (Run function args)) r e = rw e refl
same-step s a b (Some Propagate) r e = rw e refl
same-step s a b (Some (Slice reads)) r e = rw e refl
same-step s a b (Some (Get place)) r e = refl
same-step s a b (Some (Show name)) r e = refl
same-step s a b (Some Blocks) r e = refl
same-step s a b (Some Steps) r e = refl
same-step s a b (Some Work) r e = refl
same-step s a b (Some Bound) r e = refl

-- the latest numbers are those of the trace, where there is one
abbrev AreLatest : Situation → Numbers → Type 0
AreLatest m latest = (l : Repaired) → m.past ≡ Traced l → latest ≡ record { work = l.work; bound = m.bound }

-- a question finds a trace
ready-traced : (code : Code) (s : State) (o : Option Call) (p : Past) → s.call ≡ o → IsPastIn code s o p → IsReady s → (l : Repaired) × (p ≡ Traced l)
ready-traced code s None p c h r = absurd (let run = r.run in grind (arith, run, c))
ready-traced code s (Some call) NoTrace c h r = absurd (let run = r.run in grind (arith, run, h))
ready-traced code s (Some call) (Traced l) c h r = (l, refl)
ready-traced code s (Some call) (Going z) c h r = absurd (let edited = r.edited in let pending = h.pending in grind (arith, edited, pending))

same-numbers : (m : Situation) (latest : Numbers) → IsConsistent m → AreLatest m latest → IsReady m.state → numbers_in m ≡ latest
same-numbers m latest st h r =
    let t = ready-traced m.code m.state m.state.call m.past refl st.past r in
    ap (λ p. record { work = latest_work (trace_in_past p); bound = m.bound }) t.1 ∙ sym (h t.0 t.1)

text-by : (s : State) (v w : Numbers) (r : Reply) → CanTell s r → (IsReady s → v ≡ w) → (text : List ℕ) → IsText s v r text → IsText s w r text
text-by s v w reply.Nothing c e text h = h
text-by s v w reply.Ok c e text h = h
text-by s v w reply.OutOfFuel c e text h = h
text-by s v w reply.More c e text h = h
text-by s v w reply.Done c e text h = h
text-by s v w (Refused r) c e text h = h
text-by s v w (Asked q) c e text h = subst (λ n. IsText s n (Asked q) text) (e c.0) h

can-tell-line : (s : State) (more : Bool) (m : Situation) → IsConsistent m → s ≡ m.state → (command : Option Command) → CanTell m.state (step_of_line m.state more command).reply
can-tell-line s more m st e None = tt
can-tell-line s more m st e (Some command) = can-tell m.state more st.named command

-- the entry of a line says whether a repair is in progress after it
entry-goes : (p : Past) (bound : ℕ) (later : List Entry) → begins_with_more (entry_of p bound ∷ later) ≡ goes p
entry-goes NoTrace bound later = refl
entry-goes (Traced l) bound later = refl
entry-goes (Going r) bound later = refl

same-run : (k l : Repaired) → Traced k ≡ Traced l → k ≡ l
same-run k l e = cc e

entry-latest : (latest : Numbers) (p : Past) (bound : ℕ) (later : List Entry) → (l : Repaired) → p ≡ Traced l
    → (told_after_run latest (entry_of p bound ∷ later)).latest ≡ record { work = l.work; bound = bound }
entry-latest latest NoTrace bound later l e = absurd (grind (arith, e))
entry-latest latest (Traced k) bound later l e = ap (λ (x : Repaired). record { work = x.work; bound = bound }) (same-run k l e)
entry-latest latest (Going r) bound later l e = absurd (grind (arith, e))

-- the latest numbers after it, with the entries to come
told-on : (latest : Numbers) (p : Past) (bound : ℕ) (later : List Entry)
    → record { latest = (told_after_run latest (entry_of p bound ∷ [])).latest; coming = later } ≡ told_after_run latest (entry_of p bound ∷ later)
told-on latest NoTrace bound later = refl
told-on latest (Traced l) bound later = refl
told-on latest (Going r) bound later = refl

-- the situation after each line is sound
abbrev pub BehindLaw : Type 0
BehindLaw = (m : Situation) (line : List ℕ) (command : Option Command) → Reads line command → IsConsistent m → IsConsistent (situation_after m command)

-- the lines have these entries, and the text that goes with them
record Found (m : Situation) (latest : Numbers) (lines : List (List ℕ)) (out : List ℕ) : Type 0 where
  entries : List Entry
  are : AreEntries m lines entries
  text : AreReplies m.state (record { latest = latest; coming = entries }) lines out

module _ (stands : BehindLaw) where
  module _ (m : Situation) (latest : Numbers) (st : IsConsistent m) (al : AreLatest m latest) (line text : List ℕ) (mid : Situation) (r : Replies m line text mid) where
    abbrev command : Option Command
    command = r.command

    abbrev more : Bool
    more = goes (past_in m command)

    abbrev entry : Entry
    entry = entry_of (past_in m command) (bound_in m command)

    -- the answer, by these numbers, and where it is said that a repair is in progress
    abbrev answer : (told : Bool) → step_of_line m.state more command ≡ step_of_line m.state told command → Answers m.state latest told line text (situation_after m command).state
    answer told same = record {
      command = command;
      reads = r.reads;
      reply = subst (λ step. IsText m.state latest step.reply text) same
          (text-by m.state (numbers_in m) latest (step_of_line m.state more command).reply (can-tell-line m.state more m st refl command) (same-numbers m latest st al) text r.reply);
      state = ap (λ step. step.state) same;
    }

    calm-latest : (x : Refusal) → call_in m.state command ≡ Err x → AreLatest (situation_after m command) latest
    calm-latest x i l e =
        let past : past_in m command ≡ m.past = ap (λ c. past_left m.code m.state c (reads_in command) m.past) i in
        let bound : bound_in m command ≡ m.bound = ap (λ c. bound_left m.code m.state c (reads_in command) m.past m.bound) i in
        al l (sym past ∙ e) ∙ ap (λ b. record { work = l.work; bound = b }) (sym bound)

    -- a line, before lines that have entries
    on-line : (lines : List (List ℕ)) (out rest : List ℕ) → out ≡ text ++ rest → ((next : Numbers) → AreLatest (situation_after m command) next → Found (situation_after m command) next lines rest)
        → (calls : Result Call Refusal) → call_in m.state command ≡ calls → Found m latest (line ∷ lines) out
    unfolding AreEntries AreReplies
    on-line lines out rest e on (Err x) i =
        let f = on latest (calm-latest x i) in
        record {
          entries = f.entries;
          are = (command, f.entries, r.reads, f.are, ap (λ c. entries_by c entry ++ f.entries) (sym i));
          text = (
            text,
            (situation_after m command).state,
            rest,
            answer (begins_with_more f.entries) (same-step m.state more (begins_with_more f.entries) command x i),
            subst (λ c. AreReplies (situation_after m command).state (told_after c latest f.entries) lines rest) (sym i) f.text,
            e,
          );
        }
    on-line lines out rest e on (Ok call) i =
        let f = on (told_after_run latest (entry ∷ [])).latest (λ l q. entry-latest latest (past_in m command) (bound_in m command) [] l q) in
        record {
          entries = entry ∷ f.entries;
          are = (command, f.entries, r.reads, f.are, ap (λ c. entries_by c entry ++ f.entries) (sym i));
          text = (
            text,
            (situation_after m command).state,
            rest,
            answer (begins_with_more (entry ∷ f.entries)) (ap (λ g. step_of_line m.state g command) (sym (entry-goes (past_in m command) (bound_in m command) f.entries))),
            subst (λ c. AreReplies (situation_after m command).state (told_after c latest (entry ∷ f.entries)) lines rest) (sym i)
                (subst (λ t. AreReplies (situation_after m command).state t lines rest) (told-on latest (past_in m command) (bound_in m command) f.entries) f.text),
            e,
          );
        }

  found : (m end : Situation) (latest : Numbers) (lines : List (List ℕ)) (out : List ℕ) → IsConsistent m → AreLatest m latest → Leads m lines out end → Found m latest lines out
  unfolding Leads AreEntries AreReplies
  found m end latest [] out st al h = record { entries = []; are = refl; text = h.0 }
  found m end latest (line ∷ lines) out st al (text, mid, rest, r, leads, e) =
      on-line m latest st al line text mid r lines out rest e
      (λ next al. found (situation_after m r.command) end next lines rest (stands m line r.command r.reads st) al (subst (λ t. Leads t lines rest end) r.next leads))
      (call_in m.state r.command) refl

  pub entries : EntriesLaw
  entries m end lines out st h =
      let f = found m end (numbers_in m) lines out st (λ l e. ap (λ p. record { work = latest_work (trace_in_past p); bound = m.bound }) e) h in
      record { entries = f.entries; are = f.are; text = f.text }

pub one-text : OneCommandLaw → OneAnswerLaw → OneStateLaw → OneTextLaw
unfolding AreReplies
one-text one answer state s told [] a b h k = h ∙ sym k
one-text one answer state s told (line ∷ lines) a b (text, next, rest, x, more, e) (text', next', rest', x', more', e') =
    let t = answer s told.latest (begins_with_more told.coming) line text text' next next' x x' in
    let n = state s told.latest told.latest (begins_with_more told.coming) line text text' next next' x x' in
    let c = one line x.command x'.command x.reads x'.reads in
    let there = subst (λ d. AreReplies next (told_after (call_in s d) told.latest told.coming) lines rest) c more in
    let r = one-text one answer state next' (told_after (call_in s x'.command) told.latest told.coming) lines rest rest'
    (subst (λ t. AreReplies t (told_after (call_in s x'.command) told.latest told.coming) lines rest) n there) more' in
    e ∙ (ap₂ ◌++◌ t r ∙ sym e')
