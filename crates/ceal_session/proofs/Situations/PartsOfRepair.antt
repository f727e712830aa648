-- Lines `propagate READS` one after another: there is an end of them, which is that of one line `propagate`.
use Rattle.std.proofs.Common.{◌≡◌, ◌+◌, ◌≤◌, ℕ, Bool, true, false, Option, Some, None, Result, Ok, List, [], ◌∷◌, is_none, refl, sym, ap, ap₂, ◌∙◌, subst, arith}
use Rattle.std.specs.Prelude.{IfSome, codes}
use Rattle.ceal_base.specs.Block.{Block}
use Rattle.ceal_base.specs.declared.call.Call.{Call}
use Rattle.ceal_code.proofs.Words.SameIsEqual.{none-some, some-same}
use Rattle.ceal_code.specs.Fitting.{Fits}
use Rattle.ceal_code.specs.Program.{Code}
use Rattle.ceal_code.specs.Replay.{IsHonest}
use Rattle.ceal_script.specs.Lines.{IsLineOf}
use Rattle.ceal_script.specs.declared.command.Command.{Command}
use Rattle.ceal_script.specs.declared.command.Command.TheVariants.{Propagate, Slice}
use Rattle.ceal_session.proofs.Engine.RunLeavesPast.{next-sound}
use Rattle.ceal_session.proofs.Replies.LineKeepsSituation.{FactsLaw}
use Rattle.ceal_session.proofs.Replies.ReplyUpToNumbers.{past-of}
use Rattle.ceal_session.proofs.Situations.SlicesOfWhole.{none-whole, whole-after, whole-of}
use Rattle.ceal_session.specs.Consistency.{IsConsistent, IsPastIn}
use Rattle.ceal_session.specs.Laws.{OneCommandLaw}
use Rattle.ceal_session.specs.PartLaws.{Ends, GoOn, GoesOn, PartsAreWholeLaw, PartsEndLaw, unrepaired_in, unrepaired_past}
use Rattle.ceal_session.specs.Replies.{Reads, Replies, situation_after}
use Rattle.ceal_session.specs.Runs.{run_of, with_part, with_run}
use Rattle.ceal_session.specs.State.{Numbers, Situation, State, numbers_in}
use Rattle.ceal_session.specs.Steps.{call_again, run_reply, runs, state_after_run, step_of_line}
use Rattle.ceal_session.specs.Texts.{IsText}
use Rattle.ceal_session.specs.Works.{bound_by, bound_left, first_trace, past_in, past_left}
use Rattle.ceal_session.specs.declared.refusal.Refusal.{Refusal}
use Rattle.ceal_theory.proofs.SlicedRepair.Progress.{progress-law}
use Rattle.ceal_theory.proofs.SlicedRepair.SliceLaws.{is-done-law, slices-law}
use Rattle.ceal_theory.specs.Computed.{Repaired}
use Rattle.ceal_theory.specs.Pasts.{Going, NoTrace, Past, Traced, done_past, first_past, goes, left_by, next_repair, slice_of}
use Rattle.ceal_theory.specs.Progress.{unrepaired}
use Rattle.ceal_theory.specs.Repair.{own}
use Rattle.ceal_theory.specs.Slices.{Repair, RepairHolds, is_done, sliced}

-- the first byte of a text, by which some replies differ
abbrev head : List ℕ → ℕ
head [] = 0
head (x ∷ xs) = x

more-goes : (s : State) (numbers : Numbers) (reads : ℕ) (on out : Bool) → IsText s numbers (run_reply (Some reads) on out) (codes "more\n") → on ≡ true
more-goes s numbers reads true out h = refl
more-goes s numbers reads false true h = absurd (let n : 109 ≡ 111 = ap head h in omega (arith, n))
more-goes s numbers reads false false h = absurd (let n : 109 ≡ 100 = ap head h in omega (arith, n))

goes-more : (s : State) (numbers : Numbers) (reads : ℕ) (on out : Bool) (text : List ℕ) → IsText s numbers (run_reply (Some reads) on out) text → on ≡ true → text ≡ codes "more\n"
goes-more s numbers reads true out text h e = h
goes-more s numbers reads false out text h e = absurd (grind (arith, e))

module _ (code : Code) (inputs : List Block) where
  -- where a repair is in progress there is a slice that is not done
  goes-left : (first : Option Repaired) (o : Option Repair) → goes (left_by code inputs first o) ≡ true → (z : Repair) × (o ≡ Some z) × (is_done code inputs z ≡ false)
  goes-left None None h = absurd (grind (arith, h))
  goes-left (Some a) None h = absurd (grind (arith, h))
  goes-left first (Some z) h = go (is_done code inputs z) refl
    where
      never : (o : Option Repaired) → goes (done_past o z) ≡ true → ⊥
      never None e = absurd (grind (arith, e))
      never (Some a) e = absurd (grind (arith, e))

      go : (b : Bool) → is_done code inputs z ≡ b → (w : Repair) × (Some z ≡ Some w) × (is_done code inputs w ≡ false)
      go true i = absurd (never first (rw i at h))
      go false i = (z, refl, i)

  goes-slice : (fuel : ℕ) (reads : Option ℕ) (o : Option Repair) (z : Repair) → slice_of code inputs fuel reads o ≡ Some z
      → (r : Repair) × (o ≡ Some r) × (sliced code own inputs reads fuel r ≡ Some z)
  goes-slice fuel reads None z h = none-some z h
  goes-slice fuel reads (Some r) z h = (r, refl, h)

  next-items : (p : Past) (r : Repair) → next_repair code inputs p ≡ Some r → unrepaired_past code inputs p ≡ unrepaired code inputs r.items
  next-items NoTrace r h = none-some r h
  next-items (Traced l) r h = ap (λ (q : Repair). unrepaired code inputs q.items) (some-same _ r h)
  next-items (Going q) r h = ap (λ (q : Repair). unrepaired code inputs q.items) (some-same q r h)

-- the situation after a line that runs the call, by the slice that it makes
abbrev after-slice : Situation → Call → Option Repair → Situation
after-slice m call o = record {
  state = with_run m.state call (is_none (run_of m.state call));
  code = m.code;
  past = left_by m.code m.state.inputs (first_trace m.code m.state call) o;
  bound = bound_by m.code m.state call (first_trace m.code m.state call) o m.bound;
}

abbrev slice-of : Situation → Option ℕ → Option Repair
slice-of m reads = slice_of m.code m.state.inputs m.state.fuel reads (next_repair m.code m.state.inputs m.past)

-- the situation after a line that is a repair, or a part of one
abbrev after-call : Situation → Option ℕ → Result Call Refusal → Situation
after-call m reads called = record {
  state = (runs m.state reads (goes (past_left m.code m.state called reads m.past)) called).state;
  code = m.code;
  past = past_left m.code m.state called reads m.past;
  bound = bound_left m.code m.state called reads m.past m.bound;
}

-- the situation after a part, by the slice that it makes
abbrev after-part : Situation → ℕ → Call → Option Repair → Situation
after-part m reads call o = record {
  state = state_after_run m.state call (Some reads) (goes (left_by m.code m.state.inputs (first_trace m.code m.state call) o)) (is_none (run_of m.state call));
  code = m.code;
  past = left_by m.code m.state.inputs (first_trace m.code m.state call) o;
  bound = bound_by m.code m.state call (first_trace m.code m.state call) o m.bound;
}

-- a slice that is not done leaves its repair
left-going : (code : Code) (inputs : List Block) (first : Option Repaired) (z : Repair) → is_done code inputs z ≡ false → left_by code inputs first (Some z) ≡ Going z
left-going code inputs first z e = rw e refl

bound-stays : (m : Situation) (call : Call) (first : Option Repaired) (z : Repair) → is_done m.code m.state.inputs z ≡ false
    → bound_by m.code m.state call first (Some z) m.bound ≡ m.bound
bound-stays m call None z e = rw e refl
bound-stays m call (Some a) z e = rw e refl

going-part : (m : Situation) (reads : ℕ) (call : Call) (z : Repair) → is_done m.code m.state.inputs z ≡ false
    → after-part m reads call (Some z) ≡ record { state = with_part m.state; code = m.code; past = Going z; bound = m.bound }
going-part m reads call z e =
    ap₂ (λ (q : Past) (k : ℕ). record { state = state_after_run m.state call (Some reads) (goes q) (is_none (run_of m.state call)); code = m.code; past = q; bound = k })
    (left-going m.code m.state.inputs (first_trace m.code m.state call) z e) (bound-stays m call (first_trace m.code m.state call) z e)

-- a part after which nothing is left leaves what the whole of that slice does
ended-part : (m : Situation) (reads : ℕ) (call : Call) (o : Option Repair) → goes (left_by m.code m.state.inputs (first_trace m.code m.state call) o) ≡ false
    → after-part m reads call o ≡ after-slice m call o
ended-part m reads call o e =
    ap (λ (b : Bool). record {
      state = state_after_run m.state call (Some reads) b (is_none (run_of m.state call));
      code = m.code;
      past = left_by m.code m.state.inputs (first_trace m.code m.state call) o;
      bound = bound_by m.code m.state call (first_trace m.code m.state call) o m.bound;
    }) e

module _ (one : OneCommandLaw) (facts : FactsLaw) where
  after-line : (m n : Situation) (command : Command) (line text : List ℕ) → IsLineOf command line → Replies m line text n → n ≡ situation_after m (Some command)
  after-line m n command line text is r = r.next ∙ ap (situation_after m) (one line r.command (Some command) r.reads is)

  reply-of : (m n : Situation) (reads : ℕ) (line text : List ℕ) → IsLineOf (Slice reads) line → Replies m line text n
      → IsText m.state (numbers_in m) (runs m.state (Some reads) (goes (past_left m.code m.state (call_again m.state.call) (Some reads) m.past)) (call_again m.state.call)).reply text
  reply-of m n reads line text is r =
      subst (λ (c : Option Command). IsText m.state (numbers_in m) (step_of_line m.state (goes (past_in m c)) c).reply text)
      (one line r.command (Some (Slice reads)) r.reads is) r.reply

  -- what is known of a part after which more is left
  record Part (m : Situation) (reads : ℕ) (mid : Situation) : Type 0 where
    call : Call
    called : m.state.call ≡ Some call
    fits : Fits m.code m.state.inputs call.function call.args
    r : Repair
    next : next_repair m.code m.state.inputs m.past ≡ Some r
    holds : RepairHolds m.code own m.state.inputs call.function call.args r
    z : Repair
    slice : sliced m.code own m.state.inputs (Some reads) m.state.fuel r ≡ Some z
    going : is_done m.code m.state.inputs z ≡ false
    is : mid ≡ record { state = with_part m.state; code = m.code; past = Going z; bound = m.bound }

  -- the call of a situation, and the repair that continues its past, belong together
  fits-of : (m : Situation) (st : IsConsistent m) (line : List ℕ) (command : Option Command) → Reads line command → (call : Call) → m.state.call ≡ Some call
      → Fits m.code m.state.inputs call.function call.args
  fits-of m st line command reads call e = subst (λ o. IfSome o (λ call. Fits m.code m.state.inputs call.function call.args)) e (facts m line command reads st).fits

  holds-of : (m : Situation) (st : IsConsistent m) (call : Call) → m.state.call ≡ Some call → Fits m.code m.state.inputs call.function call.args
      → (r : Repair) → next_repair m.code m.state.inputs m.past ≡ Some r → RepairHolds m.code own m.state.inputs call.function call.args r
  holds-of m st call e fits r next =
      next-sound m.code m.state.inputs call.function call.args fits m.state.fuel m.past (past-of m.code m.state call m.past (subst (λ o. IsPastIn m.code m.state o m.past) e st.past)) r next

  part-of : (m mid : Situation) (reads : ℕ) → IsConsistent m → GoesOn m reads mid → Part m reads mid
  part-of m mid reads st g =
      go m.state.call refl (reply-of m mid reads g.line (codes "more\n") g.is g.replies) (after-line m mid (Slice reads) g.line (codes "more\n") g.is g.replies)
    where
      go : (o : Option Call) → m.state.call ≡ o
          → IsText m.state (numbers_in m) (runs m.state (Some reads) (goes (past_left m.code m.state (call_again o) (Some reads) m.past)) (call_again o)).reply (codes "more\n")
          → mid ≡ after-call m (Some reads) (call_again o) → Part m reads mid
      go None e text next = absurd (let n : 109 ≡ 114 = ap head text in omega (arith, n))
      go (Some call) e text next =
          let q = past_left m.code m.state (Ok call) (Some reads) m.past in
          let on : goes q ≡ true = more-goes m.state (numbers_in m) reads (goes q) (is_none (run_of m.state call)) text in
          let left = goes-left m.code m.state.inputs (first_trace m.code m.state call) (slice-of m (Some reads)) on in
          let cut = goes-slice m.code m.state.inputs m.state.fuel (Some reads) (next_repair m.code m.state.inputs m.past) left.0 left.1 in
          let fits = fits-of m st g.line (Some (Slice reads)) g.is call e in
          record {
            call = call;
            called = e;
            fits = fits;
            r = cut.0;
            next = cut.1;
            holds = holds-of m st call e fits cut.0 cut.1;
            z = left.0;
            slice = cut.2;
            going = left.2;
            is = next ∙ (ap (after-part m reads call) left.1 ∙ going-part m reads call left.0 left.2);
          }

  stands-after : (m n : Situation) (command : Command) (line text : List ℕ) → IsLineOf command line → Replies m line text n → IsConsistent m → IsConsistent n
  stands-after m n command line text is r st = subst IsConsistent (sym (after-line m n command line text is r)) (facts m line (Some command) is st).stands

  -- the whole of the repair, from after such a part, is the whole from before it
  same-whole : (m mid : Situation) (reads : ℕ) → Part m reads mid → situation_after m (Some Propagate) ≡ situation_after mid (Some Propagate)
  same-whole m mid reads p =
      let later : Situation = record { state = with_part m.state; code = m.code; past = Going p.z; bound = m.bound } in
      let whole = whole-after m.code own m.state.inputs m.state.fuel p.r p.call.function p.call.args p.fits p.holds reads p.z p.slice in
      let here : situation_after m (Some Propagate) ≡ after-slice m p.call (sliced m.code own m.state.inputs None m.state.fuel p.r) =
      ap (λ o. after-call m None (call_again o)) p.called ∙ ap (λ o. after-slice m p.call (slice_of m.code m.state.inputs m.state.fuel None o)) p.next in
      let there : situation_after later (Some Propagate) ≡ after-slice m p.call (sliced m.code own m.state.inputs None m.state.fuel p.z) =
      ap (λ o. after-call later None (call_again o)) p.called in
      here ∙ (ap (after-slice m p.call) whole ∙ (sym there ∙ ap (λ (x : Situation). situation_after x (Some Propagate)) (sym p.is)))

  -- a part after which nothing is left ends where the whole does
  not-going : (first : Option Repaired) → goes (first_past first) ≡ false
  not-going None = refl
  not-going (Some a) = refl

  not-done : (first : Option Repaired) (z : Repair) → goes (done_past first z) ≡ false
  not-done None z = refl
  not-done (Some a) z = refl

  done-same : (m : Situation) (call : Call) (first : Option Repaired) (w z : Repair) → is_done m.code m.state.inputs w ≡ true → is_done m.code m.state.inputs z ≡ true
      → w.items ≡ z.items → w.spent ≡ z.spent
      → (left_by m.code m.state.inputs first (Some w) ≡ left_by m.code m.state.inputs first (Some z))
      × (bound_by m.code m.state call first (Some w) m.bound ≡ bound_by m.code m.state call first (Some z) m.bound)
  done-same m call None w z a b items spent = rw (a, b) (refl, refl)
  done-same m call (Some x) w z a b items spent = rw (a, b, items, spent) (refl, refl)

  ends-whole : (m n : Situation) → IsConsistent m → Ends m n → n ≡ situation_after m (Some Propagate)
  ends-whole m n st g =
      after-line m n (Slice g.reads) g.line g.text g.is g.replies ∙ go m.state.call refl (reply-of m n g.reads g.line g.text g.is g.replies)
    where
      go : (o : Option Call) → m.state.call ≡ o
          → IsText m.state (numbers_in m) (runs m.state (Some g.reads) (goes (past_left m.code m.state (call_again o) (Some g.reads) m.past)) (call_again o)).reply g.text
          → after-call m (Some g.reads) (call_again o) ≡ after-call m None (call_again o)
      go None e text = refl
      go (Some call) e text = by (next_repair m.code m.state.inputs m.past) refl
        where
          fits : Fits m.code m.state.inputs call.function call.args
          fits = fits-of m st g.line (Some (Slice g.reads)) g.is call e

          -- nothing is left after the slice
          quiet : (goes (past_left m.code m.state (Ok call) (Some g.reads) m.past) ≡ true) → ⊥
          quiet on = g.ended (goes-more m.state (numbers_in m) g.reads (goes (past_left m.code m.state (Ok call) (Some g.reads) m.past)) (is_none (run_of m.state call)) g.text text on)

          -- the situation after it, by the slice
          part : (o : Option Repair) → slice-of m (Some g.reads) ≡ o → goes (left_by m.code m.state.inputs (first_trace m.code m.state call) o) ≡ false
              → after-call m (Some g.reads) (Ok call) ≡ after-slice m call o
          part o i off = ap (after-part m g.reads call) i ∙ ended-part m g.reads call o off

          whole : (o : Option Repair) → slice-of m None ≡ o → after-call m None (Ok call) ≡ after-slice m call o
          whole o i = ap (after-slice m call) i

          by : (o : Option Repair) → next_repair m.code m.state.inputs m.past ≡ o → after-call m (Some g.reads) (Ok call) ≡ after-call m None (Ok call)
          by None i =
              part None (ap (slice_of m.code m.state.inputs m.state.fuel (Some g.reads)) i) (not-going (first_trace m.code m.state call))
              ∙ sym (whole None (ap (slice_of m.code m.state.inputs m.state.fuel None) i))
          by (Some r) i = sliced-by (sliced m.code own m.state.inputs (Some g.reads) m.state.fuel r) refl
            where
              holds : RepairHolds m.code own m.state.inputs call.function call.args r
              holds = holds-of m st call e fits r i

              the-part : slice-of m (Some g.reads) ≡ sliced m.code own m.state.inputs (Some g.reads) m.state.fuel r
              the-part = ap (slice_of m.code m.state.inputs m.state.fuel (Some g.reads)) i

              the-whole : slice-of m None ≡ sliced m.code own m.state.inputs None m.state.fuel r
              the-whole = ap (slice_of m.code m.state.inputs m.state.fuel None) i

              done : (z : Repair) → sliced m.code own m.state.inputs (Some g.reads) m.state.fuel r ≡ Some z → is_done m.code m.state.inputs z ≡ true
                  → after-call m (Some g.reads) (Ok call) ≡ after-call m None (Ok call)
              done z k d =
                  let w = whole-of m.code own m.state.inputs m.state.fuel r call.function call.args fits holds g.reads z k ((is-done-law m.code m.state.inputs z).0 d) in
                  let d' = (is-done-law m.code m.state.inputs w.repair).1 (subst (IsHonest m.code m.state.inputs) (sym w.items) ((is-done-law m.code m.state.inputs z).0 d)) in
                  let same = done-same m call (first_trace m.code m.state call) w.repair z d' d w.items w.spent in
                  let off : goes (left_by m.code m.state.inputs (first_trace m.code m.state call) (Some z)) ≡ false = rw d (not-done (first_trace m.code m.state call) z) in
                  part (Some z) (the-part ∙ k) off
                  ∙ (ap₂ (λ (q : Past) (k : ℕ). record { state = with_run m.state call (is_none (run_of m.state call)); code = m.code; past = q; bound = k }) (sym same.0) (sym same.1)
                  ∙ sym (whole (Some w.repair) (the-whole ∙ w.is_whole)))

              sliced-by : (o : Option Repair) → sliced m.code own m.state.inputs (Some g.reads) m.state.fuel r ≡ o
                  → after-call m (Some g.reads) (Ok call) ≡ after-call m None (Ok call)
              sliced-by None k =
                  part None (the-part ∙ k) (not-going (first_trace m.code m.state call)) ∙ sym (whole None (the-whole ∙ none-whole m.code own m.state.inputs m.state.fuel r g.reads k))
              sliced-by (Some z) k = of-done (is_done m.code m.state.inputs z) refl
                where
                  of-done : (b : Bool) → is_done m.code m.state.inputs z ≡ b → after-call m (Some g.reads) (Ok call) ≡ after-call m None (Ok call)
                  of-done true d = done z k d
                  of-done false d =
                      absurd (quiet (ap (λ (o : Option Repair). goes (left_by m.code m.state.inputs (first_trace m.code m.state call) o)) (the-part ∙ k)
                      ∙ ap goes (left-going m.code m.state.inputs (first_trace m.code m.state call) z d)))

  whole-by-parts : {m mid : Situation} {reads : ℕ} → GoOn m reads mid → IsConsistent m → (n : Situation) → Ends mid n → n ≡ situation_after m (Some Propagate)
  whole-by-parts {m} GoOn.none st n e = ends-whole m n st e
  whole-by-parts {m} (GoOn.more {mid = mid} {reads = reads} g rest) st n e =
      whole-by-parts rest (stands-after m mid (Slice reads) g.line (codes "more\n") g.is g.replies st) n e ∙ sym (same-whole m mid reads (part-of m mid reads st g))

  pub whole-law : PartsAreWholeLaw
  whole-law m mid n o reads line text st go_on ends is r = whole-by-parts go_on st n ends ∙ sym (after-line m o Propagate line text is r)

  fewer : (m mid : Situation) (reads : ℕ) → Part m reads mid → unrepaired_in mid + reads ≤ unrepaired_in m
  fewer m mid reads p =
      let not_honest : ¬ (IsHonest m.code m.state.inputs p.z.items) = λ honest. let d = (is-done-law m.code m.state.inputs p.z).1 honest in let off = p.going in grind (arith, d, off) in
      let slice = ((slices-law m.code own m.state.inputs (Some reads) m.state.fuel p.r p.z).0 p.slice).0 in
      let less = progress-law m.code own m.state.inputs p.call.function p.call.args p.fits p.r p.holds reads p.z slice not_honest in
      subst (λ (k : ℕ). unrepaired_in mid + reads ≤ k) (sym (next-items m.code m.state.inputs m.past p.r p.next))
      (subst (λ (x : Situation). unrepaired_in x + reads ≤ unrepaired m.code m.state.inputs p.r.items) (sym p.is) less)

  parts-end : {m n : Situation} {reads : ℕ} → GoOn m reads n → IsConsistent m → unrepaired_in n + reads ≤ unrepaired_in m
  parts-end GoOn.none st = omega arith
  parts-end {m} (GoOn.more {mid = mid} {reads = reads} {rest = rest} g others) st =
      let here = fewer m mid reads (part-of m mid reads st g) in
      let later = parts-end others (stands-after m mid (Slice reads) g.line (codes "more\n") g.is g.replies st) in
      omega (arith, here, later)

  pub end-law : PartsEndLaw
  end-law m n reads st go_on = parts-end go_on st
