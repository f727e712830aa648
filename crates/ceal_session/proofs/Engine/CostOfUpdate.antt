-- What an update of an engine costs, by the first traces before it and after it.
use Rattle.std.proofs.Common.{◌≡◌, ℕ, ◌+◌, ◌≤◌, Bool, true, false, Option, Some, None, List, refl, sym, ap, ◌∙◌, subst, arith}
use Rattle.std.specs.Option.{IsSomeAnd, option_map}
use Rattle.std.specs.Prelude.{IfSome, is_some}
use Rattle.ceal_base.specs.Block.{Block}
use Rattle.ceal_base.specs.Fitting.{inputs_fit}
use Rattle.ceal_base.specs.Operators.{same_word}
use Rattle.ceal_base.specs.Trace.{Trace, Stepped, Allocated, Wrote, WasRead, flat, steps_of}
use Rattle.ceal_base.specs.declared.call.Call.{Call}
use Rattle.ceal_base.specs.declared.word.Word.{Word}
use Rattle.ceal_code.proofs.Alike.AlikeSteps.{steps-alike}
use Rattle.ceal_code.proofs.Words.SameIsEqual.{word-refl}
use Rattle.ceal_code.specs.Fitting.{Fits}
use Rattle.ceal_code.specs.Program.{Code}
use Rattle.ceal_code.specs.Replay.{Replays, IsHonest}
use Rattle.ceal_cost.proofs.Apart.{Departs, fix-departs, departs-apart}
use Rattle.ceal_cost.proofs.Bounds.{bound-law}
use Rattle.ceal_cost.specs.Apart.{first_apart}
use Rattle.ceal_cost.specs.Bounds.{first_cost}
use Rattle.ceal_cost.specs.Firsts.{IsHonestTrace}
use Rattle.ceal_engine.specs.Advance.{RepairEnds}
use Rattle.ceal_engine.specs.Apart.{reads_apart, reads_inside}
use Rattle.ceal_engine.specs.Cost.{CostLaw, IsPaid, Updates, revalued}
use Rattle.ceal_engine.specs.Engine.{EngineState, IsEngine, IsTraced, ReplaysCall, fresh_call, has_run, is_whole, stands_for, trace}
use Rattle.ceal_engine.specs.Repaired.{IsRepairFrom, IsRepaired}
use Rattle.ceal_engine.specs.declared.phase.Phase.TheVariants.{Finished}
use Rattle.ceal_session.proofs.Engine.RunLeavesPast.{above, is-above, few-steps}
use Rattle.ceal_session.specs.UpdateCost.{IsUpdate, UpdateCostLaw}
use Rattle.ceal_theory.proofs.Renaming.GivenNumbers.{named-law}
use Rattle.ceal_theory.specs.Adjust.{Extended}
use Rattle.ceal_theory.specs.Computed.{adjusted}
use Rattle.ceal_theory.specs.Counts.{reads_of}
use Rattle.ceal_theory.specs.Laws.{Edited}

-- ---- reads that are apart in a trace that departs

read-true : (b : Bool) → b ≡ true → (n : ℕ) (j : Trace) → reads_inside b n j ≡ n
read-true b e n j = rw e refl

read-any : (b : Bool) (n : ℕ) (j : Trace) → n ≤ 1 + reads_of j → reads_inside b n j ≤ 1 + reads_of j
read-any true n j h = h
read-any false n j h = omega arith

apart-reads : (l m : Trace) → reads_apart l m ≤ reads_of m
unfolding reads_apart
apart-reads (Stepped l) (Stepped m) = apart-reads l m
apart-reads (Allocated b k l) (Allocated c k' m) = apart-reads l m
apart-reads (Wrote p v l) (Wrote q w m) = apart-reads l m
apart-reads (WasRead p v u x args i l) (WasRead q w u' x' args' j m) =
    omega (arith, read-any (same_word v w) (reads_apart i j) j (omega (arith, apart-reads i j)), apart-reads l m)
apart-reads _ _ = omega arith

departs-fewer : {l m : Trace} {n : ℕ} → Departs l m n → reads_apart l m ≤ n
unfolding reads_apart
departs-fewer Departs.nothing = omega arith
departs-fewer (Departs.stepped d) = departs-fewer d
departs-fewer (Departs.allocated d) = departs-fewer d
departs-fewer (Departs.wrote d) = departs-fewer d
departs-fewer (Departs.same {v = v} {i = i} {j = j} d e) =
    omega (arith, read-true (same_word v v) (word-refl v) (reads_apart i j) j, departs-fewer d, departs-fewer e)
departs-fewer (Departs.other {v = v} {w = w} {i = i} {j = j} differs d) =
    omega (arith, read-any (same_word v w) (reads_apart i j) j (omega (arith, apart-reads i j)), departs-fewer d)

-- ---- what is there

some-there : {A : Type 0} (o : Option A) → is_some o ≡ true → (a : A) × (o ≡ Some a)
some-there None h = absurd (let no : false ≡ true = h in cc)
some-there (Some a) h = (a, refl)

some-and : {A : Type 0} (P : A → Type 0) (o : Option A) → IsSomeAnd o P → (a : A) × (o ≡ Some a) × P a
some-and P None h = absurd h
some-and P (Some a) h = (a, refl, h)

had : {A : Type 0} (P : A → Type 0) (o : Option A) (a : A) → o ≡ Some a → IfSome o P → P a
had P o a e h = subst (λ o. IfSome o P) e h

-- ---- a finished engine

module _ (e : EngineState) (call : Call) (h : IsEngine e) (finished : e.phase ≡ Finished) (called : e.call ≡ Some call) where
  runs : has_run e.phase ≡ true
  runs = ap has_run finished

  whole : is_whole e.phase ≡ true
  whole = ap is_whole finished

  there : (l : Trace) × (trace e ≡ Some l)
  there = some-there (trace e) (h.kept ∙ runs)

  fits : Fits e.code e.inputs call.function call.args
  fits = had (λ (c : Call). Fits e.code e.inputs c.function c.args) e.call call called h.call

  module _ (l : Trace) (is : trace e ≡ Some l) where
    replays : Replays e.code e.inputs call.function call.args l
    replays = had (λ (c : Call). Replays e.code e.inputs c.function c.args l) e.call call called (had (ReplaysCall e) (trace e) l is (h.replays whole))

    honest : IsHonest e.code e.inputs l
    honest = (had (IsTraced e) (trace e) l is (h.traced finished)).honest

    honest-trace : IsHonestTrace e.code e.inputs call.function call.args l
    honest-trace = record { fits = fits; replays = replays; honest = honest }

    few : steps_of l ≤ e.fuel
    few =
        let p = h.present finished in
        few-steps e.code e.inputs call.function call.args fits e.fuel l replays honest p.run (sym (ap (fresh_call e.code e.inputs e.fuel) called) ∙ p.fresh)

flat-there : (e : EngineState) → IsEngine e → (l : Trace) → trace e ≡ Some l → e.forest ≡ Some (flat l)
flat-there e h l is = h.flat_form ∙ ap (option_map flat) is

-- ---- an update

module _ (cost-law : CostLaw) (e n : EngineState) (edits : ℕ) (call : Call) (u : IsUpdate e n edits call) where
  abbrev m : EngineState
  m = u.edited

  abbrev f : ℕ
  f = call.function

  abbrev args : List Word
  args = call.args

  old : (l : Trace) × (trace e ≡ Some l)
  old = there e call u.before u.finished u.called

  old-still : trace m ≡ Some old.0
  old-still = ap stands_for u.same.forest ∙ old.1

  outcome : RepairEnds m n None
  outcome = u.repaired.outcome

  new : (k : Trace) × (trace n ≡ Some k) × IsRepaired n old.0 k
  new = some-and (IsRepaired n old.0) (trace n) (outcome.repaired u.whole old.0 old-still)

  code-same : n.code ≡ e.code
  code-same = u.repaired.keeps.code ∙ u.same.code

  fuel-same : n.fuel ≡ e.fuel
  fuel-same = u.repaired.keeps.fuel ∙ u.fuel

  called-new : n.call ≡ Some call
  called-new = u.repaired.keeps.call ∙ (u.same.call ∙ u.called)

  fit-new : inputs_fit e.code.structs n.inputs ≡ true
  fit-new = subst (λ (c : Code). inputs_fit c.structs n.inputs ≡ true) code-same u.after.inputs

  extended-new : Extended e.code e.inputs n.inputs
  extended-new = subst (λ (is : List Block). Extended e.code e.inputs is) (sym u.repaired.keeps.inputs) u.same.inputs

  abbrev number : ℕ
  number = above old.0

  edited-old : Edited e.code e.inputs n.inputs f args old.0 number
  edited-old = record {
    call = fits e call u.before u.finished u.called;
    fit = fit-new;
    extended = extended-new;
    trace = replays e call u.before u.finished u.called old.0 old.1;
    above = is-above old.0;
  }

  from : IsRepairFrom n new.2.names old.0 new.0 number
  from = new.2.from number (is-above old.0)

  there-now : adjusted e.code n.inputs number e.fuel old.0 ≡ Some from.repair
  there-now = ap (λ (c : Code). adjusted c n.inputs number e.fuel old.0) (sym code-same) ∙ (ap (λ (k : ℕ). adjusted n.code n.inputs number k old.0) (sym fuel-same) ∙ from.is)

  few-old : steps_of old.0 ≤ e.fuel
  few-old = few e call u.before u.finished u.called old.0 old.1

  few-new : steps_of new.0 ≤ e.fuel
  few-new = let k = few n call u.after outcome.phase called-new new.0 new.1 in omega (arith, k, fuel-same)

  trace-new : IsHonestTrace e.code n.inputs f args new.0
  trace-new = subst (λ (c : Code). IsHonestTrace c n.inputs f args new.0) code-same (honest-trace n call u.after outcome.phase called-new new.0 new.1)

  trace-old : IsHonestTrace e.code e.inputs f args old.0
  trace-old = honest-trace e call u.before u.finished u.called old.0 old.1

  -- the work is within the cost of the first traces
  work-bound : n.work ≤ first_cost e.code e.fuel e.inputs n.inputs f args
  work-bound =
      let few-repair = few-new in
      let same = steps-alike from.renamed.alike in
      let k = bound-law e.code e.inputs n.inputs f args old.0 number e.fuel from.repair edited-old trace-old.honest few-old there-now (omega (arith, few-repair, same)) in
      omega (arith, k.0, from.work)

  -- the new trace departs from the old one
  departed : (k : ℕ) × Departs old.0 new.0 k
  departed =
      let q = (named-law e.code e.inputs n.inputs f args old.0 number edited-old new.2.names new.2.single new.2.apart e.fuel).there from.repair there-now in
      let d = fix-departs q.1.fix in
      (d.reads, subst (λ (k : Trace). Departs old.0 k d.reads) (q.2.same ∙ sym from.named) d.departs)

  -- so the reads that got another value are apart in the first traces
  stale-bound : revalued m n ≤ first_apart e.code e.fuel e.inputs n.inputs f args
  stale-bound =
      let one = outcome.repairs.apart old.0 new.0 (flat-there m u.between old.0 old-still) (flat-there n u.after new.0 new.1) in
      let two = departs-fewer departed.1 in
      let three = departs-apart e.code e.inputs n.inputs f args old.0 new.0 e.fuel departed.0 trace-old trace-new few-old few-new departed.1 in
      omega (arith, one, two, three)

  pub paid : IsPaid e n edits (first_cost e.code e.fuel e.inputs n.inputs f args) (first_apart e.code e.fuel e.inputs n.inputs f args)
  paid =
      let p = cost-law e n edits (0 + n.work) (0 + revalued m n) (Updates.repair u.counted outcome.repairs.cost n.work (omega arith)) in
      record { looks = omega (arith, p.looks, work-bound, stale-bound); touches = omega (arith, p.touches, work-bound, stale-bound) }

pub update-cost-law : CostLaw → UpdateCostLaw
update-cost-law cost-law e n edits call u = paid cost-law e n edits call u
