-- Where no edit comes between the slices of a repair, the work at its end is at most the bound, and that at most the
-- steps.
use Rattle.std.proofs.Common.{◌≡◌, inl, inr, ℕ, ◌≤◌, Bool, true, false, Option, Some, None, Result, Ok, Err, List, [], ◌∷◌, is_none, refl, sym, ap, ◌∙◌, subst, arith}
use Rattle.std.specs.Prelude.{⊤, IfSome}
use Rattle.ceal_base.specs.Finished.{Finished}
use Rattle.ceal_base.specs.Trace.{steps_of}
use Rattle.ceal_base.specs.declared.call.Call.{Call}
use Rattle.ceal_code.proofs.Replay.ReplayedCall.{trace-law}
use Rattle.ceal_code.proofs.Words.SameIsEqual.{some-same}
use Rattle.ceal_code.specs.Fitting.{Fits}
use Rattle.ceal_code.specs.Laws.{ProgressLaw}
use Rattle.ceal_code.specs.Program.{Code}
use Rattle.ceal_code.specs.Replay.{Replays, IsHonest}
use Rattle.ceal_script.specs.declared.command.Command.{Command}
use Rattle.ceal_script.specs.declared.command.Command.TheVariants.{Blank, Mod, New, Set, Run, Propagate, Slice, Get, Show, Blocks, Steps, Work, Bound}
use Rattle.ceal_session.proofs.Engine.RunLeavesPast.{Ran, above}
use Rattle.ceal_session.proofs.Engine.WorkWithinBound.{IsLeft, IsSlicedFrom, first-left, reaches-next, reaches-slice, slice-left}
use Rattle.ceal_session.proofs.Inputs.ShapesOfInputs.{line-named}
use Rattle.ceal_session.proofs.Replies.ReplyExists.{Accepted, LineLaw, TextLaw, WholeLaw, accepted-in, before-line, code-run, facts, fits-call, fits-settled, ran-here}
use Rattle.ceal_session.specs.Bounded.{AreOrdered, BoundedLaw, HaveNoEdit, IsEdit}
use Rattle.ceal_session.specs.Laws.{OneCommandLaw}
use Rattle.ceal_session.specs.InputNames.{IsNamed}
use Rattle.ceal_session.specs.Replies.{Leads, situation_after}
use Rattle.ceal_session.specs.Runs.{run_of, with_run, with_part}
use Rattle.ceal_session.specs.Consistency.{IsPastIn, IsConsistent}
use Rattle.ceal_session.specs.State.{State, Situation}
use Rattle.ceal_session.specs.Steps.{step_of_line}
use Rattle.ceal_session.specs.Works.{call_in, reads_in, past_in, bound_in, past_left, bound_left}
use Rattle.ceal_session.specs.declared.refusal.Refusal.{Refusal}
use Rattle.ceal_theory.specs.Computed.{Repaired}
use Rattle.ceal_theory.specs.Pasts.{Past, NoTrace, Traced, Going, goes}
use Rattle.ceal_theory.specs.Repair.{own}
use Rattle.ceal_theory.specs.Slices.{Repair, beginning, sliced}

-- A repair in progress is one of slices, without an edit between them.
abbrev pub IsUnedited : Code → State → Option Call → Past → Type 0
IsUnedited code s None past = ⊤
IsUnedited code s (Some call) NoTrace = ⊤
IsUnedited code s (Some call) (Traced l) = ⊤
IsUnedited code s (Some call) (Going r) = IsSlicedFrom code s call r

abbrev pub Unedited : Situation → Type 0
Unedited m = IsUnedited m.code m.state m.state.call m.past

not-going : (m : Situation) → goes m.past ≡ false → Unedited m
not-going m h = go m.state.call m.past h
  where
    go : (o : Option Call) (p : Past) → goes p ≡ false → IsUnedited m.code m.state o p
    go None p h = tt
    go (Some call) NoTrace h = tt
    go (Some call) (Traced l) h = tt
    go (Some call) (Going r) h = absurd (grind (arith, h))

module _ (progress : ProgressLaw) (line_law : LineLaw) (whole_law : WholeLaw) (text_law : TextLaw) where
  module _ (m : Situation) (st : IsConsistent m) (kept : Unedited m) where
    abbrev code : Code
    code = m.code

    abbrev s : State
    s = m.state

    -- what a line that runs this call leaves
    module _ (call : Call) (a : Accepted s call) (reads : Option ℕ) where
      abbrev now : Fits code s.inputs call.function call.args
      now = fits-call progress line_law whole_law text_law m st call a.is

      abbrev was : Fits code s.settled call.function call.args
      was = fits-settled progress line_law whole_law text_law m st call a.is

      abbrev past : Past
      past = past_left code s (Ok call) reads m.past

      abbrev bound : ℕ
      bound = bound_left code s (Ok call) reads m.past m.bound

      of-past : (p : Past) → IsPastIn code s (Some call) p → IsUnedited code s (Some call) p
          → IsLeft code s call (past_left code s (Ok call) reads p) (bound_left code s (Ok call) reads p m.bound)
      of-past NoTrace h k = first-left code s call now
      of-past (Traced l) h k =
          let next = beginning code s.inputs l.items (above l.items) in
          slice-left code s call now was st.settled l h reads next (reaches-next code s call now was st.settled l h) m.bound (sliced code own s.inputs reads s.fuel next) refl
      of-past (Going r) h k =
          slice-left code s call now was st.settled k.trace k.is reads r (reaches-slice code s call now was st.settled k.trace k.is k.reads r k.slices) m.bound
          (sliced code own s.inputs reads s.fuel r) refl

      left : IsLeft code s call past bound
      left = elim (before-line progress line_law whole_law text_law m st call a) [
        | inl e ↦ of-past m.past (subst (λ o. IsPastIn code s o m.past) e st.past) (subst (λ o. IsUnedited code s o m.past) e kept)
        | inr (e, n) ↦ subst (λ p. IsLeft code s call (past_left code s (Ok call) reads p) (bound_left code s (Ok call) reads p m.bound)) (sym n) (first-left code s call now)
      ]

      ran : Ran code s.inputs call.function call.args now s.fuel reads (run_of s call) past
      ran = ran-here progress line_law whole_law text_law m st call a reads

      -- a run has the steps of its trace
      same-steps : (l : Repaired) (run : Finished) → run_of s call ≡ Some run → Replays code s.inputs call.function call.args l.items → IsHonest code s.inputs l.items → steps_of l.items ≤ s.fuel
          → run.steps ≡ steps_of l.items
      same-steps l run e replays honest few =
          let k = (trace-law code s.inputs call.function call.args now l.items replays honest).ends s.fuel few in
          ap (λ (x : Finished). x.steps) (some-same run _ (sym e ∙ (sym (code-run progress line_law whole_law text_law m st call a.is) ∙ k)))

      ordered-by : (q : Past) → Ran code s.inputs call.function call.args now s.fuel reads (run_of s call) q → IsLeft code s call q bound → goes q ≡ false
          → AreOrdered (record { state = with_run s call (is_none (run_of s call)); code = code; past = q; bound = bound })
      ordered-by _ (Ran.out e) h g = record { work = omega arith; steps = subst (λ o. IfSome o (λ run. bound ≤ run.steps)) (sym e) tt }
      ordered-by _ (Ran.ended l run e replays honest few) h g = record {
        work = h.0;
        steps = subst (λ o. IfSome o (λ x. bound ≤ x.steps)) (sym e) (subst (λ n. bound ≤ n) (sym (same-steps l run e replays honest few)) h.1);
      }
      ordered-by _ (Ran.going r sound some) h g = absurd (grind (arith, g))

      -- where the run is whole no repair is in progress
      whole-so : (t : State) → reads ≡ None → IsUnedited code t (Some call) past
      whole-so t e = go past ran
        where
          go : (q : Past) → Ran code s.inputs call.function call.args now s.fuel reads (run_of s call) q → IsUnedited code t (Some call) q
          go _ (Ran.out k) = tt
          go _ (Ran.ended l run k replays honest few) = tt
          go _ (Ran.going r sound some) = absurd (grind (arith, some, e))

      moved : (r : Repair) → IsSlicedFrom code s call r → IsSlicedFrom code (with_part s) call r
      moved r k = record {
        trace = k.trace;
        is = record { within = refl; replays = k.is.replays; was = k.is.was; honest = k.is.honest; few = k.is.few; same = λ p. absurd (grind (arith, p)) };
        reads = k.reads;
        slices = k.slices;
      }

      part-so : (t : State) → (goes past ≡ true → t ≡ with_part s) → IsUnedited code t (Some call) past
      part-so t same = go past same left
        where
          go : (q : Past) → (goes q ≡ true → t ≡ with_part s) → IsLeft code s call q bound → IsUnedited code t (Some call) q
          go NoTrace same h = tt
          go (Traced l) same h = tt
          go (Going r) same h = subst (λ x. IsSlicedFrom code x call r) (sym (same refl)) (moved r h)

    -- the state after a line that runs nothing and edits nothing
    quiet-state : (command : Option Command) (more : Bool) (x : Refusal) → call_in s command ≡ Err x → ¬ IsEdit command → (step_of_line s more command).state ≡ s
    quiet-state None more x e h = refl
    quiet-state (Some Blank) more x e h = refl
    quiet-state (Some (Mod name kind value)) more x e h = absurd (h tt)
    quiet-state (Some (New name shape values)) more x e h = absurd (h tt)
    quiet-state (Some (Set place value)) more x e h = absurd (h tt)
    quiet-state (Some (Run function args)) more x e h = rw e refl
    quiet-state (Some Propagate) more x e h = rw e refl
    quiet-state (Some (Slice reads)) more x e h = rw e refl
    quiet-state (Some (Get place)) more x e h = refl
    quiet-state (Some (Show name)) more x e h = refl
    quiet-state (Some Blocks) more x e h = refl
    quiet-state (Some Steps) more x e h = refl
    quiet-state (Some Work) more x e h = refl
    quiet-state (Some Bound) more x e h = refl

    -- after one that completes a run
    run-state : (command : Option Command) (more : Bool) (call : Call) → call_in s command ≡ Ok call → more ≡ false → (step_of_line s more command).state ≡ with_run s call (is_none (run_of s call))
    run-state None more call e g = absurd (grind (arith, e))
    run-state (Some Blank) more call e g = absurd (grind (arith, e))
    run-state (Some (Mod name kind value)) more call e g = absurd (grind (arith, e))
    run-state (Some (New name shape values)) more call e g = absurd (grind (arith, e))
    run-state (Some (Set place value)) more call e g = absurd (grind (arith, e))
    run-state (Some (Run function args)) more call e g = rw e refl
    run-state (Some Propagate) more call e g = rw e refl
    run-state (Some (Slice reads)) more call e g = rw (e, g) refl
    run-state (Some (Get place)) more call e g = absurd (grind (arith, e))
    run-state (Some (Show name)) more call e g = absurd (grind (arith, e))
    run-state (Some Blocks) more call e g = absurd (grind (arith, e))
    run-state (Some Steps) more call e g = absurd (grind (arith, e))
    run-state (Some Work) more call e g = absurd (grind (arith, e))
    run-state (Some Bound) more call e g = absurd (grind (arith, e))

    -- and after a slice with which a repair is in progress
    part-state : (reads : ℕ) (more : Bool) (call : Call) → call_in s (Some (Slice reads)) ≡ Ok call → more ≡ true → (step_of_line s more (Some (Slice reads))).state ≡ with_part s
    part-state reads more call e g = rw (e, g) refl

    past-is : (command : Option Command) (r : Result Call Refusal) → call_in s command ≡ r → past_in m command ≡ past_left code s r (reads_in command) m.past
    past-is command r e = ap (λ c. past_left code s c (reads_in command) m.past) e

    abbrev after : Option Command → State
    after command = (step_of_line s (goes (past_in m command)) command).state

    quiet : (command : Option Command) (x : Refusal) → call_in s command ≡ Err x → ¬ IsEdit command → Unedited (situation_after m command)
    quiet command x e h =
        subst (λ t. IsUnedited code t t.call (past_in m command)) (sym (quiet-state command (goes (past_in m command)) x e h))
        (subst (IsUnedited code s s.call) (sym (past-is command (Err x) e)) kept)

    runs : (command : Option Command) → IfSome command IsNamed → (call : Call) (e : call_in s command ≡ Ok call)
        → IsUnedited code (after command) (Some call) (past_left code s (Ok call) (reads_in command) m.past) → Unedited (situation_after m command)
    runs command n call e h =
        subst (λ o. IsUnedited code (after command) o (past_in m command)) (sym ((facts progress line_law whole_law text_law m st command n).called call e))
        (subst (IsUnedited code (after command) (Some call)) (sym (past-is command (Ok call) e)) h)

    accepted : (command : Option Command) (call : Call) → call_in s command ≡ Ok call → Accepted s call
    accepted command call e = accepted-in progress line_law whole_law text_law m st command call e

    by-call : (command : Option Command) → IfSome command IsNamed → (r : Result Call Refusal) → call_in s command ≡ r → ¬ IsEdit command → Unedited (situation_after m command)
    by-call command n (Err x) e h = quiet command x e h
    by-call (Some (Run function args)) n (Ok call) e h =
        runs (Some (Run function args)) n call e (whole-so call (accepted (Some (Run function args)) call e) None (after (Some (Run function args))) refl)
    by-call (Some Propagate) n (Ok call) e h = runs (Some Propagate) n call e (whole-so call (accepted (Some Propagate) call e) None (after (Some Propagate)) refl)
    by-call (Some (Slice reads)) n (Ok call) e h =
        runs (Some (Slice reads)) n call e
        (part-so call (accepted (Some (Slice reads)) call e) (Some reads) (after (Some (Slice reads)))
        (λ g. part-state reads (goes (past_in m (Some (Slice reads)))) call e (ap goes (past-is (Some (Slice reads)) (Ok call) e) ∙ g)))
    by-call None n (Ok call) e h = absurd (grind (arith, e))
    by-call (Some Blank) n (Ok call) e h = absurd (grind (arith, e))
    by-call (Some (Mod name kind value)) n (Ok call) e h = absurd (grind (arith, e))
    by-call (Some (New name shape values)) n (Ok call) e h = absurd (grind (arith, e))
    by-call (Some (Set place value)) n (Ok call) e h = absurd (grind (arith, e))
    by-call (Some (Get place)) n (Ok call) e h = absurd (grind (arith, e))
    by-call (Some (Show name)) n (Ok call) e h = absurd (grind (arith, e))
    by-call (Some Blocks) n (Ok call) e h = absurd (grind (arith, e))
    by-call (Some Steps) n (Ok call) e h = absurd (grind (arith, e))
    by-call (Some Work) n (Ok call) e h = absurd (grind (arith, e))
    by-call (Some Bound) n (Ok call) e h = absurd (grind (arith, e))

    -- so it stays with each line that is no edit
    still : (command : Option Command) → IfSome command IsNamed → ¬ IsEdit command → Unedited (situation_after m command)
    still command n h = by-call command n (call_in s command) refl h

    -- after a line that completes a run or a repair the numbers are in order
    ordered : (command : Option Command) (call : Call) → call_in s command ≡ Ok call → goes (past_in m command) ≡ false → AreOrdered (situation_after m command)
    ordered command call e g =
        let a = accepted command call e in
        let reads = reads_in command in
        let p : past_in m command ≡ past_left code s (Ok call) reads m.past = past-is command (Ok call) e in
        let b : bound_in m command ≡ bound_left code s (Ok call) reads m.past m.bound = ap (λ c. bound_left code s c reads m.past m.bound) e in
        let k = ordered-by call a reads (past_left code s (Ok call) reads m.past) (ran call a reads) (left call a reads) (sym (ap goes p) ∙ g) in
        subst (λ t. AreOrdered (record { state = t; code = code; past = past_in m command; bound = bound_in m command })) (sym (run-state command (goes (past_in m command)) call e g))
        (subst (λ q. AreOrdered (record { state = with_run s call (is_none (run_of s call)); code = code; past = q; bound = bound_in m command })) (sym p)
        (subst (λ n. AreOrdered (record { state = with_run s call (is_none (run_of s call)); code = code; past = past_left code s (Ok call) reads m.past; bound = n })) (sym b) k))

  record Comes (m : Situation) : Type 0 where
    stands : IsConsistent m
    unedited : Unedited m

  -- after lines without an edit
  comes : (m mid : Situation) → Comes m → (lines : List (List ℕ)) (out : List ℕ) → HaveNoEdit lines → Leads m lines out mid → Comes mid
  unfolding Leads
  comes m mid c [] out h (e, same) = subst Comes (sym same) c
  comes m mid c (line ∷ lines) out h (text, next, rest, r, leads, e) =
      let n = line-named line r.command r.reads in
      let here : Comes (situation_after m r.command) = record {
        stands = (facts progress line_law whole_law text_law m c.stands r.command n).stands;
        unedited = still m c.stands c.unedited r.command n (h.0 r.command r.reads);
      } in
      comes (situation_after m r.command) mid here lines rest h.1 (subst (λ x. Leads x lines rest mid) r.next leads)

  pub bounded-law : OneCommandLaw → BoundedLaw
  bounded-law one m mid n lines line out text st g h leads r c =
      let k = comes m mid (record { stands = st; unedited = not-going m g }) lines out h leads in
      let same : c.command ≡ r.command = one line c.command r.command c.reads r.reads in
      let is : call_in mid.state r.command ≡ Ok c.call = subst (λ x. call_in mid.state x ≡ Ok c.call) same c.runs in
      let ends : goes (past_in mid r.command) ≡ false = subst (λ (x : Situation). goes x.past ≡ false) r.next c.ends in
      subst AreOrdered (sym r.next) (ordered mid k.stands k.unedited r.command c.call is ends)
