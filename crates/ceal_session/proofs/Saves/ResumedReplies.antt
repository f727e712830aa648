-- What a session saves holds, and resumed it answers as the session would have answered.
use Rattle.std.proofs.Common.{◌≡◌, ℕ, ◌≤◌, Bool, true, false, ◌||◌, Option, Some, List, length, is_none, refl, sym, ap, ap₂, ◌∙◌, subst, arith}
use Rattle.ceal_base.proofs.TraceLemmas.{trace-flat, steps-flat}
use Rattle.ceal_base.specs.Block.{Block}
use Rattle.ceal_base.specs.Same.{index_of}
use Rattle.ceal_base.specs.Trace.{Trace, flat, trace_of, steps_in, steps_of}
use Rattle.ceal_base.specs.declared.call.Call.{Call}
use Rattle.ceal_base.specs.declared.forest.Item.{Item}
use Rattle.ceal_base.specs.declared.typed.StructInfo.{StructInfo}
use Rattle.ceal_base.specs.declared.typed.Typed.{Typed}
use Rattle.ceal_base.specs.declared.word.Word.{Word}
use Rattle.ceal_code.proofs.Alike.AlikeSteps.{steps-alike}
use Rattle.ceal_code.proofs.Words.SameIsEqual.{some-same}
use Rattle.ceal_code.specs.Fitting.{Fits}
use Rattle.ceal_code.specs.Program.{Code}
use Rattle.ceal_code.specs.Replay.{Replays, IsHonest}
use Rattle.ceal_compile.specs.Compiled.{IsCompiled}
use Rattle.ceal_record.proofs.Left.{ordered}
use Rattle.ceal_record.specs.Recorded.{numbers_of, in_order}
use Rattle.ceal_session.proofs.Engine.ProgramAndCode.{same-structs}
use Rattle.ceal_session.proofs.Saves.SaveThatHolds.{held}
use Rattle.ceal_session.proofs.Saves.SaveOfSession.{traced-in}
use Rattle.ceal_session.specs.AfterLine.{IsAllowed}
use Rattle.ceal_session.specs.InputNames.{AreSpelled, AreDistinct, HaveKnownShapes}
use Rattle.ceal_session.specs.RunRecord.{IsRecorded}
use Rattle.ceal_session.specs.SaveLaws.{AlikeLaw, OneSavedLaw, ResavedLaw, ResumedLaw, SavedLaw}
use Rattle.ceal_session.specs.SessionSave.{IsSaved, SaveHolds, saved_state, situation_of_save}
use Rattle.ceal_session.specs.Consistency.{IsTraceIn, IsPastIn, IsIn, IsSamePast, IsConsistent}
use Rattle.ceal_session.specs.State.{State, Situation, latest_work}
use Rattle.ceal_session.specs.Steps.{has_no_run}
use Rattle.ceal_snap.specs.SaveText.{Save}
use Rattle.ceal_theory.specs.Laws.{RenamedRepair}
use Rattle.ceal_theory.specs.Named.{RenamedBy, RenamingLaw}
use Rattle.ceal_theory.specs.Pasts.{Past, Traced, SamePast}

same-state : (s t : State) → s.program ≡ t.program → s.fuel ≡ t.fuel → s.names ≡ t.names → s.inputs ≡ t.inputs → s.settled ≡ t.settled → s.call ≡ t.call
    → s.out_of_fuel ≡ t.out_of_fuel → s.pending ≡ t.pending → s ≡ t
same-state s t a b c d e f g h =
    go s.program t.program s.fuel t.fuel s.names t.names s.inputs t.inputs s.settled t.settled s.call t.call s.out_of_fuel t.out_of_fuel s.pending t.pending a b c d e f g h
  where
    go : (p p' : Typed) (n n' : ℕ) (ns ns' : List (List ℕ)) (i i' j j' : List Block) (k k' : Option Call) (o o' q q' : Bool) → p ≡ p' → n ≡ n' → ns ≡ ns' → i ≡ i' → j ≡ j' → k ≡ k' → o ≡ o' → q ≡ q'
        → ◌≡◌ {A = State} (record { program = p; fuel = n; names = ns; inputs = i; settled = j; call = k; out_of_fuel = o; pending = q })
        (record { program = p'; fuel = n'; names = ns'; inputs = i'; settled = j'; call = k'; out_of_fuel = o'; pending = q' })
    go p p' n n' ns ns' i i' j j' k k' o o' q q' a b c d e f g h = rw (a, b, c, d, e, f, g, h) refl

-- a run that is there was not out of fuel
within : (s : State) → has_no_run s ≡ false → s.out_of_fuel ≡ false
within s h = go s.out_of_fuel refl
  where
    go : (b : Bool) → s.out_of_fuel ≡ b → b ≡ false
    go true i = absurd (let k : (true || is_none s.call) ≡ false = subst (λ b. (b || is_none s.call) ≡ false) i h in grind (arith, k))
    go false i = refl

module _ (renaming : RenamingLaw) (m : Situation) (s : Save) (st : IsConsistent m) (allowed : IsAllowed m.state.fuel) (h : IsSaved m s) where
  abbrev code : Code
  code = m.code

  abbrev k : IsRecorded m s.kept
  k = h.kept

  abbrev call : Call
  call = k.call

  abbrev t : Trace
  t = in_order k.run.items

  past-is : m.past ≡ Traced k.run
  past-is = traced-in m.past k.run k.traced

  trace-in : IsTraceIn code m.state call k.run
  trace-in = subst (IsPastIn code m.state (Some call)) past-is (subst (λ o. IsPastIn code m.state o m.past) k.called st.past)

  settled-is : m.state.settled ≡ m.state.inputs
  settled-is = trace-in.same k.ready.edited

  named : RenamedBy code m.state.inputs call.function call.args (index_of (numbers_of k.run.items)) k.run.items
  named = ordered renaming code m.state.inputs call.function call.args k.of.fits k.run.items k.of.replays

  -- on the inputs and the call of the record
  on-record : (P : List Block → ℕ → List Word → Type 0) → P m.state.inputs call.function call.args → P s.kept.inputs s.kept.function s.kept.args
  on-record P x =
      subst (λ i. P i s.kept.function s.kept.args) (sym k.is.blocks) (subst (λ f. P m.state.inputs f s.kept.args) (sym k.is.function) (subst (λ a. P m.state.inputs call.function a) (sym k.is.args) x))

  honest : IsHonest code m.state.inputs k.run.items
  honest = subst (λ i. IsHonest code i k.run.items) settled-is trace-in.honest

  replays-there : Replays code m.state.inputs call.function call.args t
  unfolding in_order
  replays-there = named.replays

  honest-there : IsHonest code m.state.inputs t
  unfolding in_order
  honest-there = named.honest honest

  steps-there : steps_of t ≡ steps_of k.run.items
  unfolding in_order
  steps-there = sym (steps-alike named.alike)

  renamed-there : RenamedRepair (Some k.run) (Some (record { items = t; work = s.work }))
  unfolding in_order
  renamed-there = RenamedRepair.some named.pairs named.one named.alike (sym (ap latest_work k.traced) ∙ sym h.work)

  pub holding : SaveHolds code s
  holding = record {
    fuel = subst IsAllowed (sym h.fuel) allowed;
    spelled = subst AreSpelled (sym h.names) st.spelled;
    once = subst AreDistinct (sym h.names) st.once;
    count = ap length h.names ∙ (st.named ∙ ap length (sym k.is.blocks));
    yes = (
      record {
        call = on-record (λ i f a. Fits code i f a) k.of.fits;
        shapes = subst (λ (x : List StructInfo). HaveKnownShapes x s.kept.inputs) (sym (same-structs m.state.program code st.compiled.code))
            (subst (HaveKnownShapes m.state.program.structs) (sym k.is.blocks) st.shapes);
      },
      (
        t,
        record { items = k.is.items; replays = on-record (λ i f a. Replays code i f a t) replays-there },
        subst (λ i. IsHonest code i t) (sym k.is.blocks) honest-there,
        k.is.memory,
      ),
    );
    few = subst (λ n. n ≤ s.fuel) (sym (ap steps_in k.is.items ∙ (steps-flat t ∙ steps-there))) (subst (λ n. steps_of k.run.items ≤ n) (sym h.fuel) trace-in.few);
  }

  -- the situation of the save is that of the session, up to the numbers of core blocks
  pub resumed-in : IsIn (situation_of_save m.state.program code s t) m
  resumed-in = record {
    state = same-state (saved_state m.state.program s) m.state refl h.fuel h.names k.is.blocks (k.is.blocks ∙ sym settled-is)
        (ap₂ (λ f a. Some (record { function = f; args = a })) k.is.function k.is.args ∙ sym k.called) (sym (within m.state k.ready.run)) (sym k.ready.edited);
    code = refl;
    bound = h.bound;
    sound = st;
    past = subst (λ o. IsSamePast code m.state.inputs o m.past (Traced (record { items = t; work = s.work }))) (sym k.called)
        (subst (λ (q : Past). SamePast code m.state.inputs call.function call.args q (Traced (record { items = t; work = s.work }))) (sym past-is) (SamePast.traced renamed-there));
  }

-- two traces with the same items are one
pub same-trace : (items : List Item) (l m : Trace) → items ≡ flat l → items ≡ flat m → l ≡ m
same-trace items l m h k = some-same l m (sym (trace-flat l) ∙ (ap trace_of (sym h ∙ k) ∙ trace-flat m))

pub resumed-law : RenamingLaw → AlikeLaw → ResumedLaw
resumed-law renaming alike program m s st code typed allowed h =
    let x = holding renaming m s st allowed h in
    let holds : SaveHolds program.code s = subst (λ c. SaveHolds c s) code x in
    let t = in_order h.kept.run.items in
    record {
      holds = holds;
      trace = t;
      items = h.kept.is.items;
      answers = λ lines out end leads. (
          let there : IsIn (situation_of_save program.typed program.code s t) m =
          subst (λ c. IsIn (situation_of_save program.typed c s t) m) code (subst (λ p. IsIn (situation_of_save p m.code s t) m) typed (resumed-in renaming m s st allowed h)) in
          let a = held program s compiled holds in
          let stands : IsConsistent (situation_of_save program.typed program.code s t) =
          subst (λ l. IsConsistent (situation_of_save program.typed program.code s l)) (same-trace s.kept.forest a.0 t a.1 h.kept.is.items) a.2 in
          let r = alike (situation_of_save program.typed program.code s t) m end lines out stands there leads in
          (r.0, r.1, r.3)
          );
    }
  where
    compiled : IsCompiled program
    compiled = subst (λ c. IsCompiled (record { typed = program.typed; code = c })) code (subst (λ p. IsCompiled (record { typed = p; code = m.code })) typed st.compiled)

-- its save is one of the situation, which has one
pub resaved-law : RenamingLaw → SavedLaw → OneSavedLaw → ResavedLaw
resaved-law renaming saved one program m session s t st code typed allowed h r k =
    let l = in_order h.kept.run.items in
    let same : r.trace ≡ l = same-trace s.kept.forest r.trace l r.items h.kept.is.items in
    let there : IsIn session (situation_of_save program.typed program.code s l) = subst (λ x. IsIn session (situation_of_save program.typed program.code s x)) same r.is_in in
    let here : IsIn (situation_of_save program.typed program.code s l) m =
    subst (λ c. IsIn (situation_of_save program.typed c s l) m) code (subst (λ p. IsIn (situation_of_save p m.code s l) m) typed (resumed-in renaming m s st allowed h)) in
    one m t s (saved (situation_of_save program.typed program.code s l) m t here (saved session (situation_of_save program.typed program.code s l) t there k)) h
