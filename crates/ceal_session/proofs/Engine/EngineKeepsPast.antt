-- What an engine makes of a run, or of what is left of a repair, is what the definition makes of each past that it had
-- up to numbers.
use Rattle.std.proofs.Common.{◌≡◌, ◌⊎◌, inl, inr, ℕ, Bool, true, false, if◌then◌else◌, Option, Some, None, Ok, Err, IsSomeAnd, List, is_some, refl, sym, ap, ◌∙◌, subst, arith}
use Rattle.std.specs.Prelude.{IfSome, IsSome, OnErr}
use Rattle.ceal_base.specs.Block.{Block}
use Rattle.ceal_base.specs.Trace.{Trace, steps_of}
use Rattle.ceal_base.specs.declared.call.Call.{Call}
use Rattle.ceal_base.specs.declared.word.BlockId.TheVariants.{Core}
use Rattle.ceal_base.specs.declared.word.Word.{Word}
use Rattle.ceal_code.proofs.Words.SameIsEqual.{some-same}
use Rattle.ceal_code.specs.Fitting.{Fits}
use Rattle.ceal_code.specs.Program.{Code}
use Rattle.ceal_code.specs.Replay.{Replays, plain_of}
use Rattle.ceal_engine.proofs.Present.{not-both}
use Rattle.ceal_engine.specs.Advance.{AdvanceOutcome}
use Rattle.ceal_engine.specs.Calls.{Advances, IsRunAnew}
use Rattle.ceal_engine.specs.Cost.{CostOfCall}
use Rattle.ceal_engine.specs.Engine.{EngineState, IsEngine, IsPresent, is_whole, IsWhole, IsHeapOf, ReplaysCall, trace, fresh_call, fresh_of, has_run, IfOutOfFuel}
use Rattle.ceal_engine.specs.Partial.{CarriesRepair, RenamedFrom, SliceContinues, SliceEnds, carried_by, spent_in, words_in}
use Rattle.ceal_engine.specs.Repaired.{IsFirst, first_call}
use Rattle.ceal_engine.specs.declared.phase.Came.{Came}
use Rattle.ceal_engine.specs.declared.phase.Came.TheVariants.{More, Done, Anew}
use Rattle.ceal_engine.specs.declared.phase.Phase.{Phase}
use Rattle.ceal_engine.specs.declared.phase.Phase.TheVariants.{New, Finished, Pending, Partial, Dropped}
use Rattle.ceal_engine.specs.declared.run_error.RunError.{RunError}
use Rattle.ceal_engine.specs.declared.run_error.RunError.TheVariants.{Memory, OutOfFuel}
use Rattle.ceal_session.proofs.Engine.RunLeavesPast.{above, is-above, has-first}
use Rattle.ceal_session.specs.Marks.{KeepsMarks}
use Rattle.ceal_session.specs.Outcomes.{Outcome, EngineAfterCall, IsSliceOf}
use Rattle.ceal_session.specs.SessionState.{past_of, past_by, traced_by, going_by}
use Rattle.ceal_theory.proofs.SlicedRepair.CarriedLaws.{carried-same-law, carried-trace-law, edited-so, own-single}
use Rattle.ceal_theory.proofs.SlicedRepair.SliceLaws.{begin-law}
use Rattle.ceal_theory.specs.Carried.{Carried}
use Rattle.ceal_theory.specs.Computed.{Repaired, first_of}
use Rattle.ceal_theory.specs.Laws.{RenamedRepair}
use Rattle.ceal_theory.specs.Pasts.{Past, NoTrace, Traced, Going, SamePast, IsPastOf, first_past, done_past, left_by, next_repair, slice_of, past_after}
use Rattle.ceal_theory.specs.Repair.{own}
use Rattle.ceal_theory.specs.Slices.{Repair, RepairHolds, beginning, sliced, is_done}

-- what an engine has, by its phase and its trace
pub past-going : (e : EngineState) (l : Trace) → e.phase ≡ Partial → trace e ≡ Some l → past_of e ≡ Going (carried_by e l)
past-going e l ph is = go e.phase ph
  where
    go : (phase : Phase) → phase ≡ Partial → past_by phase e ≡ Going (carried_by e l)
    go New p = absurd (grind (arith, p))
    go Finished p = absurd (grind (arith, p))
    go Pending p = absurd (grind (arith, p))
    go Partial p = ap (going_by e) is
    go Dropped p = absurd (grind (arith, p))

pub past-traced : (e : EngineState) (l : Trace) → IsWhole e.phase → trace e ≡ Some l → past_of e ≡ Traced (record { items = l; work = e.work })
past-traced e l ph is = go e.phase ph
  where
    go : (phase : Phase) → IsWhole phase → past_by phase e ≡ Traced (record { items = l; work = e.work })
    go New p = absurd (grind (arith, p))
    go Finished p = ap (traced_by e) is
    go Pending p = ap (traced_by e) is
    go Partial p = absurd (grind (arith, p))
    go Dropped p = absurd (grind (arith, p))

no-trace : (o : Option Trace) → is_some o ≡ false → o ≡ None
no-trace None h = refl
no-trace (Some l) h = absurd (grind (arith, h))

pub some-trace : (o : Option Trace) → is_some o ≡ true → (l : Trace) × (o ≡ Some l)
some-trace None h = absurd (grind (arith, h))
some-trace (Some l) h = (l, refl)

pub past-none : (e : EngineState) → IsEngine e → has_run e.phase ≡ false → past_of e ≡ NoTrace
past-none e k h = go e.phase h
  where
    none : trace e ≡ None
    none = no-trace (trace e) (k.kept ∙ h)

    go : (phase : Phase) → has_run phase ≡ false → past_by phase e ≡ NoTrace
    go New p = ap (traced_by e) none
    go Finished p = absurd (grind (arith, p))
    go Pending p = absurd (grind (arith, p))
    go Partial p = absurd (grind (arith, p))
    go Dropped p = ap (traced_by e) none

-- a run is whole, or in progress
pub whole-or-part : (phase : Phase) → has_run phase ≡ true → IsWhole phase ⊎ (phase ≡ Partial)
whole-or-part New h = absurd (grind (arith, h))
whole-or-part Finished h = inl refl
whole-or-part Pending h = inl refl
whole-or-part Partial h = inr refl
whole-or-part Dropped h = absurd (grind (arith, h))

pub whole-runs : (phase : Phase) → IsWhole phase → has_run phase ≡ true
whole-runs New p = absurd (grind (arith, p))
whole-runs Finished p = refl
whole-runs Pending p = refl
whole-runs Partial p = refl
whole-runs Dropped p = absurd (grind (arith, p))

whole-spent : (phase : Phase) (work : ℕ) → IsWhole phase → spent_in phase work ≡ 0
whole-spent New work p = refl
whole-spent Finished work p = refl
whole-spent Pending work p = refl
whole-spent Partial work p = absurd (grind (arith, p))
whole-spent Dropped work p = refl

-- it is a trace renamed
pub record IsTraceAs (p : Past) (b : Repaired) : Type 0 where
  pub run : Repaired
  pub is : p ≡ Traced run
  pub renamed : RenamedRepair (Some run) (Some b)

-- it is a repair carried
pub record IsRepairAs (code : Code) (inputs : List Block) (f : ℕ) (args : List Word) (p : Past) (z : Repair) : Type 0 where
  pub repair : Repair
  pub is : p ≡ Going repair
  pub sound : RepairHolds code own inputs f args repair
  pub carried : Carried code inputs 0 repair z

module _ {code : Code} {inputs : List Block} {f : ℕ} {args : List Word} where
  pub same-none : {p q : Past} → SamePast code inputs f args p q → q ≡ NoTrace → p ≡ NoTrace
  same-none SamePast.none e = refl
  same-none (SamePast.traced r) e = absurd (grind (arith, e))
  same-none (SamePast.going s c) e = absurd (grind (arith, e))

  pub same-traced : {p q : Past} → SamePast code inputs f args p q → (b : Repaired) → q ≡ Traced b → IsTraceAs p b
  same-traced SamePast.none b e = absurd (grind (arith, e))
  same-traced (SamePast.traced {a = a} r) b e = record { run = a; is = refl; renamed = subst (λ x. RenamedRepair (Some a) (Some x)) (cc e) r }
  same-traced (SamePast.going s c) b e = absurd (grind (arith, e))

  pub same-going : {p q : Past} → SamePast code inputs f args p q → (z : Repair) → q ≡ Going z → IsRepairAs code inputs f args p z
  same-going SamePast.none z e = absurd (grind (arith, e))
  same-going (SamePast.traced r) z e = absurd (grind (arith, e))
  same-going (SamePast.going {r = r} s c) z e = record { repair = r; is = refl; sound = s; carried = subst (Carried code inputs 0 r) (cc e) c }

-- a number of reads was given
is-given : (reads : Option ℕ) → IsSome reads → is_some reads ≡ true
is-given None h = h
is-given (Some k) h = refl

-- the repair with which the definition continues is the engine's, up to the numbers of core blocks
pub record IsNext (e : EngineState) (p : Past) : Type 0 where
  pub repair : Repair
  pub is : next_repair e.code e.inputs p ≡ Some repair
  pub carries : CarriesRepair e 0 repair

module _ (e : EngineState) (k : IsEngine e) (call : Call) (called : e.call ≡ Some call) where
  fits : Fits e.code e.inputs call.function call.args
  fits = subst (λ o. IfSome o (λ call. Fits e.code e.inputs call.function call.args)) called k.call

  next-of-part : e.phase ≡ Partial → (p : Past) → SamePast e.code e.inputs call.function call.args p (past_of e) → IsNext e p
  next-of-part ph p same =
      let l = some-trace (trace e) (k.kept ∙ ap has_run ph) in
      let g = same-going same (carried_by e l.0) (past-going e l.0 ph l.1) in
      record {
        repair = g.repair;
        is = ap (next_repair e.code e.inputs) g.is;
        carries = record { call = call; called = called; items = l.0; is = l.1; sound = g.sound; carried = g.carried };
      }

  -- the heap of a run has the plain words of its trace
  heap-is : (l : Trace) → trace e ≡ Some l → IsWhole e.phase → (b : ℕ) → words_in e.heap (Core b) ≡ plain_of e.code e.inputs l (Core b)
  heap-is l is ph b = go e.heap (k.heap_there ∙ whole-runs e.phase ph) (subst (λ o. IfSome o (λ l. IfSome e.heap (IsHeapOf e.code e.inputs l))) is (k.held ph))
    where
      go : (o : Option _) → is_some o ≡ true → IfSome o (IsHeapOf e.code e.inputs l) → words_in o (Core b) ≡ plain_of e.code e.inputs l (Core b)
      go None i h = absurd (grind (arith, i))
      go (Some heap) i h = h.words b

  next-of-run : IsWhole e.phase → (p : Past) → IsPastOf e.code e.inputs call.function call.args p → SamePast e.code e.inputs call.function call.args p (past_of e) → IsNext e p
  next-of-run ph p of same =
      let l = some-trace (trace e) (k.kept ∙ whole-runs e.phase ph) in
      let g = same-traced same (record { items = l.0; work = e.work }) (past-traced e l.0 ph l.1) in
      let here : Replays e.code e.inputs call.function call.args l.0 =
      subst (λ o. IfSome o (λ c. Replays e.code e.inputs c.function c.args l.0)) called (subst (λ o. IfSome o (ReplaysCall e)) l.1 (k.replays ph)) in
      let there : Replays e.code e.inputs call.function call.args g.run.items = subst (IsPastOf e.code e.inputs call.function call.args) g.is of in
      let n = above g.run.items in
      record {
        repair = beginning e.code e.inputs g.run.items n;
        is = ap (next_repair e.code e.inputs) g.is;
        carries = record {
          call = call;
          called = called;
          items = l.0;
          is = l.1;
          sound = begin-law e.code own e.inputs e.inputs call.function call.args g.run.items n n
              (edited-so e.code e.inputs call.function call.args fits g.run.items there n (is-above g.run.items)) own-single (λ j i. is-above g.run.items j i);
          carried = carried-same-law e.code e.inputs 0 (beginning e.code e.inputs g.run.items n) (beginning e.code e.inputs l.0 (above l.0)) (carried_by e l.0)
              (by-names g.run (record { items = l.0; work = e.work }) g.renamed there here) refl (λ b. heap-is l.0 l.1 ph b) (whole-spent e.phase e.work ph);
        };
      }
    where
      by-names : (a b : Repaired) → RenamedRepair (Some a) (Some b) → Replays e.code e.inputs call.function call.args a.items → Replays e.code e.inputs call.function call.args b.items
          → Carried e.code e.inputs 0 (beginning e.code e.inputs a.items (above a.items)) (beginning e.code e.inputs b.items (above b.items))
      by-names a b (RenamedRepair.some ps one alike work) h i =
          carried-trace-law e.code e.inputs call.function call.args fits a.items b.items h i ps one alike (above a.items) (above b.items) (is-above a.items) (is-above b.items)

  pub next-of : has_run e.phase ≡ true → (p : Past) → IsPastOf e.code e.inputs call.function call.args p → SamePast e.code e.inputs call.function call.args p (past_of e) → IsNext e p
  next-of h p of same = elim (whole-or-part e.phase h) [ inl ph ↦ next-of-run ph p of same | inr ph ↦ next-of-part ph p same ]

module _ (e e' : EngineState) (call : Call) (code : e'.code ≡ e.code) (fuel : e'.fuel ≡ e.fuel) (inputs : e'.inputs ≡ e.inputs) (called : e'.call ≡ Some call)
    (fit : Fits e.code e.inputs call.function call.args) where
  abbrev first : Option Repaired
  first = first_of e.code e.inputs e.fuel call.function call.args

  abbrev Same : Past → Type 0
  Same p = SamePast e.code e.inputs call.function call.args p (past_of e')

  here-first : first_call e'.code e'.inputs e'.fuel e'.call ≡ first
  here-first = rw (code, inputs, fuel, called) refl

  -- a first run: each of its steps is work
  pub after-first : IsWhole e'.phase → IsPresent e' → IsSomeAnd (trace e') (IsFirst e') → Same (first_past first)
  after-first ph present h = go (trace e') refl h
    where
      fresh : fresh_call e.code e.inputs e.fuel (Some call) ≡ Some present.run
      fresh = rw (code, inputs, fuel, called) at present.fresh

      go : (o : Option Trace) → trace e' ≡ o → IsSomeAnd o (IsFirst e') → Same (first_past first)
      go None is h = absurd h
      go (Some l) is h =
          let found = has-first e.code e.inputs call.function call.args fit e.fuel present.run fresh in
          let one : found.first ≡ h.first = some-same found.first h.first (sym found.is ∙ (sym here-first ∙ h.is)) in
          let counted : h.first.work ≡ e'.work = ap (λ a. a.work) (sym one) ∙ (found.trace.work ∙ (sym found.trace.steps ∙ (ap (λ a. steps_of a.items) one ∙ sym h.work))) in
          let same : SamePast e.code e.inputs call.function call.args (Traced h.first) (Traced (record { items = l; work = e'.work })) =
          SamePast.traced (RenamedRepair.some h.renamed.pairs h.renamed.one h.renamed.alike counted) in
          subst (λ (q : Past). SamePast e.code e.inputs call.function call.args (first_past first) q) (sym (past-traced e' l ph is))
          (subst (λ (o : Option Repaired). SamePast e.code e.inputs call.function call.args (first_past o) (Traced (record { items = l; work = e'.work }))) (sym (sym here-first ∙ h.is)) same)

  has-a-first : IsPresent e' → (a : Repaired) × (first ≡ Some a)
  has-a-first present =
      let found = has-first e.code e.inputs call.function call.args fit e.fuel present.run (rw (code, inputs, fuel, called) at present.fresh) in (found.first, found.is)

  -- a repair that is done
  pub after-done : (reads : Option ℕ) (r : Repair) → IsWhole e'.phase → IsPresent e' → (h : SliceEnds e e' reads 0 r) → Same (left_by e.code e.inputs first (Some h.repair))
  after-done reads r ph present h = go (trace e') refl h.items
    where
      go : (o : Option Trace) → trace e' ≡ o → IsSomeAnd o (RenamedFrom e 0 r h.repair.items) → Same (left_by e.code e.inputs first (Some h.repair))
      go None is i = absurd i
      go (Some l) is i =
          let a = has-a-first present in
          let same : SamePast e.code e.inputs call.function call.args (Traced (record { items = h.repair.items; work = h.repair.spent })) (Traced (record { items = l; work = e'.work })) =
          SamePast.traced (RenamedRepair.some i.pairs i.one i.alike (sym h.work)) in
          subst (λ (q : Past). SamePast e.code e.inputs call.function call.args (left_by e.code e.inputs first (Some h.repair)) q) (sym (past-traced e' l ph is))
          (subst (λ (b : Bool). SamePast e.code e.inputs call.function call.args (if b then done_past first h.repair else Going h.repair) (Traced (record { items = l; work = e'.work }))) (sym h.done)
          (subst (λ (o : Option Repaired). SamePast e.code e.inputs call.function call.args (done_past o h.repair) (Traced (record { items = l; work = e'.work }))) (sym a.1) same))

  -- a repair in progress
  pub after-part : (r : Repair) → e'.phase ≡ Partial → is_done e.code e.inputs r ≡ false → CarriesRepair e' 0 r → Same (left_by e.code e.inputs first (Some r))
  after-part r ph more h =
      let c : h.call ≡ call = some-same h.call call (sym h.called ∙ called) in
      let sound : RepairHolds e.code own e.inputs call.function call.args r =
      subst (λ (c : Call). RepairHolds e.code own e.inputs c.function c.args r) c
      (subst (λ (i : List Block). RepairHolds e.code own i h.call.function h.call.args r) inputs (subst (λ (d : Code). RepairHolds d own e'.inputs h.call.function h.call.args r) code h.sound)) in
      let carried : Carried e.code e.inputs 0 r (carried_by e' h.items) =
      subst (λ (i : List Block). Carried e.code i 0 r (carried_by e' h.items)) inputs (subst (λ (d : Code). Carried d e'.inputs 0 r (carried_by e' h.items)) code h.carried) in
      let same : SamePast e.code e.inputs call.function call.args (Going r) (Going (carried_by e' h.items)) = SamePast.going sound carried in
      subst (λ (q : Past). SamePast e.code e.inputs call.function call.args (left_by e.code e.inputs first (Some r)) q) (sym (past-going e' h.items ph h.is))
      (subst (λ (b : Bool). SamePast e.code e.inputs call.function call.args (if b then done_past first r else Going r) (Going (carried_by e' h.items))) (sym more) same)

-- there is a run, or there is none
run-or-none : (there : Bool) → (there ≡ true) ⊎ (there ≡ false)
run-or-none true = inl refl
run-or-none false = inr refl

module _ (e e' : EngineState) (k : IsEngine e) (call : Call) (fit : Fits e.code e.inputs call.function call.args) (code : e'.code ≡ e.code) (fuel : e'.fuel ≡ e.fuel) (inputs : e'.inputs ≡ e.inputs)
    (called : e'.call ≡ Some call)
    (reads : Option ℕ) where
  abbrev IsHad : Past → Type 0
  IsHad p = SamePast e.code e.inputs call.function call.args p (past_of e)

  abbrev slice_at : Past → Option Repair
  slice_at p = slice_of e.code e.inputs e.fuel reads (next_repair e.code e.inputs p)

  -- where there was no run, there is no slice of one
  no-slice : has_run e.phase ≡ false → (p : Past) → IsHad p → slice_at p ≡ None
  no-slice none p same = ap slice_at (same-none same (past-none e k none))

  -- a run of a call of which there was none
  pub ran-first : ¬ IsWhole e.phase → has_run e.phase ≡ false → IsRunAnew e' → EngineAfterCall e call reads (Ok Anew) e'
  ran-first part none anew = record {
    code = code;
    fuel = fuel;
    inputs = inputs;
    called = called;
    phase = anew.phase;
    completes = anew.present;
    began = tt;
    slice = λ p of same. no-slice none p same;
    makes = λ p of same. subst (λ q. SamePast e.code e.inputs call.function call.args (past_after e.code e.inputs e.fuel (first_of e.code e.inputs e.fuel call.function call.args) reads q)
        (past_of e')) (sym (same-none same (past-none e k none)))
        (after-first e e' call code fuel inputs called fit (ap is_whole anew.phase) anew.present anew.first);
    cost = CostOfCall.run part anew.first anew.cost;
    marks = KeepsMarks.anew anew;
  }

  -- an error, after which there is no run
  failed : (error : RunError) → ((p : Past) → IsPastOf e.code e.inputs call.function call.args p → IsHad p → IsSliceOf (Err error) e.code e.inputs (slice_at p))
      → IfOutOfFuel {A = Came} (Err error) (fresh_of e' ≡ None) → e'.phase ≡ Dropped → EngineAfterCall e call reads (Err error) e'
  failed OutOfFuel slice out dropped = record {
    code = code;
    fuel = fuel;
    inputs = inputs;
    called = called;
    phase = dropped;
    completes = out;
    began = tt;
    slice = slice;
    makes = λ p of same. tt;
    cost = CostOfCall.given_up dropped;
    marks = KeepsMarks.lost dropped;
  }
  failed Memory slice out dropped = record {
    code = code;
    fuel = fuel;
    inputs = inputs;
    called = called;
    phase = dropped;
    completes = tt;
    began = tt;
    slice = slice;
    makes = λ p of same. tt;
    cost = CostOfCall.given_up dropped;
    marks = KeepsMarks.lost dropped;
  }

  no-slice-of : has_run e.phase ≡ false → (error : RunError) → (p : Past) → IsPastOf e.code e.inputs call.function call.args p → IsHad p → IsSliceOf (Err error) e.code e.inputs (slice_at p)
  no-slice-of none OutOfFuel p of same = inl (no-slice none p same)
  no-slice-of none Memory p of same = tt

  pub failed-first : has_run e.phase ≡ false → (error : RunError) → IfOutOfFuel {A = Came} (Err error) (fresh_of e' ≡ None) → e'.phase ≡ Dropped → EngineAfterCall e call reads (Err error) e'
  failed-first none error out dropped = failed error (no-slice-of none error) out dropped

  -- what is left of a repair, or a part of it
  module _ (again : e.call ≡ Some call) where
    module _ (runs : has_run e.phase ≡ true) where
      next : (p : Past) → IsPastOf e.code e.inputs call.function call.args p → IsHad p → IsNext e p
      next p of same = next-of e k call again runs p of same

      slice-is : (p : Past) (n : IsNext e p) → slice_at p ≡ sliced e.code own e.inputs reads e.fuel n.repair
      slice-is p n = ap (slice_of e.code e.inputs e.fuel reads) n.is

      abbrev left : Option Repair → Past
      left o = left_by e.code e.inputs (first_of e.code e.inputs e.fuel call.function call.args) o

      -- a run in place of a repair in progress
      ran-again : ¬ IsWhole e.phase → ((next : ℕ) (r : Repair) → CarriesRepair e next r → sliced e.code own e.inputs reads e.fuel r ≡ None) → IsRunAnew e' → EngineAfterCall e call reads (Ok Anew) e'
      ran-again part none anew = record {
        code = code;
        fuel = fuel;
        inputs = inputs;
        called = called;
        phase = anew.phase;
        completes = anew.present;
        began = tt;
        slice = λ p of same. let n = next p of same in slice-is p n ∙ none 0 n.repair n.carries;
        makes = λ p of same. let n = next p of same in
            subst (λ o. SamePast e.code e.inputs call.function call.args (left o) (past_of e')) (sym (slice-is p n ∙ none 0 n.repair n.carries))
            (after-first e e' call code fuel inputs called fit (ap is_whole anew.phase) anew.present anew.first);
        cost = CostOfCall.run part anew.first anew.cost;
        marks = KeepsMarks.anew anew;
      }

      slice-out : (error : RunError) → AdvanceOutcome e e' reads (Err error) → (p : Past) → IsPastOf e.code e.inputs call.function call.args p → IsHad p
          → IsSliceOf (Err error) e.code e.inputs (slice_at p)
      slice-out OutOfFuel comes p of same =
          let n = next p of same in elim (comes 0 n.repair n.carries) [ inl none ↦ inl (slice-is p n ∙ none) | inr r ↦ inr (r.0, slice-is p n ∙ r.1, r.2) ]
      slice-out Memory comes p of same = tt

    pub brought : (outcome : Outcome) → AdvanceOutcome e e' reads outcome → IfOutOfFuel outcome (fresh_of e' ≡ None) → OnErr outcome (e'.phase ≡ Dropped) → EngineAfterCall e call reads outcome e'
    brought (Ok More) o out dropped =
        let runs = o.repairs.run in
        record {
          code = code;
          fuel = fuel;
          inputs = inputs;
          called = called;
          phase = o.phase;
          completes = tt;
          began = (runs, is-given reads o.given, again);
          slice = λ p of same. let n = next runs p of same in let g : SliceContinues e e' reads 0 n.repair = o.slice 0 n.repair n.carries in (g.repair, slice-is runs p n ∙ g.is, g.more);
          makes = λ p of same. let n = next runs p of same in let g : SliceContinues e e' reads 0 n.repair = o.slice 0 n.repair n.carries in
              subst (λ o. SamePast e.code e.inputs call.function call.args (left runs o) (past_of e')) (sym (slice-is runs p n ∙ g.is))
              (after-part e e' call code fuel inputs called fit g.repair o.phase g.more g.carries);
          cost = CostOfCall.repair o.repairs.cost;
          marks = KeepsMarks.still o.repairs.marked;
        }
    brought (Ok Done) o out dropped =
        let runs = o.repairs.run in
        record {
          code = code;
          fuel = fuel;
          inputs = inputs;
          called = called;
          phase = o.phase;
          completes = o.present;
          began = (runs, again);
          slice = λ p of same. let n = next runs p of same in let g : SliceEnds e e' reads 0 n.repair = o.slice 0 n.repair n.carries in (g.repair, slice-is runs p n ∙ g.is, g.done);
          makes = λ p of same. let n = next runs p of same in let g : SliceEnds e e' reads 0 n.repair = o.slice 0 n.repair n.carries in
              subst (λ o. SamePast e.code e.inputs call.function call.args (left runs o) (past_of e')) (sym (slice-is runs p n ∙ g.is))
              (after-done e e' call code fuel inputs called fit reads n.repair (ap is_whole o.phase) o.present g);
          cost = CostOfCall.repair o.repairs.cost;
          marks = KeepsMarks.still o.repairs.marked;
        }
    brought (Ok Anew) o out dropped =
        elim o.from [
          | inl part ↦ ran-again (ap has_run part) (not-both e.phase part) o.slice o.anew
          | inr none ↦ ran-first (λ w. absurd (let p = ap is_whole none in grind (arith, p, w))) (ap has_run none) o.anew
        ]
    brought (Err error) o out dropped =
        elim (run-or-none (has_run e.phase)) [
          | inl runs ↦ failed error (slice-out runs error o) out dropped
          | inr none ↦ failed error (no-slice-of none error) out dropped
        ]

-- the accepted call after `advance`
pub after-advance : (e e' : EngineState) → IsEngine e → (call : Call) → e.call ≡ Some call → (reads : Option ℕ) (outcome : Outcome) → Advances e e' outcome → AdvanceOutcome e e' reads outcome
    → EngineAfterCall e call reads outcome e'
after-advance e e' k call again reads outcome a o =
    brought e e' k call (subst (λ o. IfSome o (λ call. Fits e.code e.inputs call.function call.args)) again k.call)
    a.code a.fuel a.inputs (a.call ∙ again) reads again outcome o a.out_of_fuel a.dropped
