-- A record has a verdict.
use Rattle.std.proofs.Common.{◌≡◌, inl, inr, ◌<◌, ◌≤◌, ℕ, zero, suc, Bool, true, false, Some, List, [], ◌∷◌, length, map, refl, sym, ap, ◌∙◌, subst, arith}
use Rattle.std.specs.List.{list_all}
use Rattle.std.specs.Prelude.{slice_get}
use Rattle.ceal_base.specs.Block.{alone}
use Rattle.ceal_base.specs.Fitting.{inputs_fit}
use Rattle.ceal_base.specs.Trace.{Trace, blocks_of}
use Rattle.ceal_base.specs.declared.forest.Item.{Item}
use Rattle.ceal_base.specs.declared.forest.Item.TheVariants.{Step, Alloc, Write, Read, End}
use Rattle.ceal_base.specs.declared.forest.Key.{Key}
use Rattle.ceal_base.specs.declared.forest.UnitId.{UnitId}
use Rattle.ceal_base.specs.declared.recorded.Record.{Record}
use Rattle.ceal_base.specs.declared.word.BlockId.TheVariants.{Core}
use Rattle.ceal_base.specs.declared.word.Place.{Place}
use Rattle.ceal_base.specs.declared.word.Word.{Word}
use Rattle.ceal_code.specs.After.{store_after, memory_after}
use Rattle.ceal_code.specs.Fitting.{args_fit, Fits}
use Rattle.ceal_code.specs.Init.{pointer}
use Rattle.ceal_code.specs.Program.{Code}
use Rattle.ceal_code.specs.Replay.{bases, input_plain, inputs_after}
use Rattle.ceal_code.specs.Step.{Stack, Empty, Run, Act, Over, Quiet, Makes, Writes, Reads, entered, words_after_read, next, started}
use Rattle.ceal_code.specs.Tables.{plain_flat}
use Rattle.ceal_code.specs.Valid.{valid}
use Rattle.ceal_code.specs.Value.{Plain, Variables, set}
use Rattle.ceal_traceck.proofs.Checked.{replayed-accepted, accepted-replayed, not-named, honest-of, not-honest}
use Rattle.ceal_traceck.proofs.Decided.{Decided, both, moved, is-or-not, block-or-not, option-or-not, list-or-not, none-or-some, step-or-not, end-or-not, alloc-or-not, write-or-not, read-or-not}
use Rattle.ceal_traceck.proofs.WalkSteps.{begins, over-more, quiet-more, makes-more, writes-more, reads-more}
use Rattle.ceal_traceck.specs.Items.{all_named, all_honest}
use Rattle.ceal_traceck.specs.Laws.{SomeVerdictLaw}
use Rattle.ceal_traceck.specs.Verdicts.{CallFits, has_known_shape, Replayed, IsHonestRecord, Remembered, Means}
use Rattle.ceal_traceck.specs.Walk.{Accepts}
use Rattle.ceal_traceck.specs.declared.verdict.Verdict.{Verdict}
use Rattle.ceal_traceck.specs.declared.verdict.Verdict.TheVariants.{Yes, NoFit, NotReplay, NotHonest, MemoryDiffers}

module _ (code : Code) (x : Plain) where
  -- items are accepted or not
  abbrev Told : Act → List Stack → List Item → Type 0
  Told a below is = Decided (Accepts code x a below is)

  -- so it is known of fewer items than these
  abbrev Fewer : List Item → Type 0
  Fewer is = (js : List Item) → length js < length is → (a : Act) (below : List Stack) → Told a below js

  -- the first item is this one
  abbrev Starts : List Item → Item → Type 0
  Starts is i = (js : List Item) × (is ≡ i ∷ js)

  over-told : (st : Stack) (below : List Stack) (is : List Item) → Fewer is → Decided (Starts is End) → Told Over (st ∷ below) is
  over-told st below is later (inl (js, e)) =
      let more = over-more code x st below (st ∷ below) is js refl e in
      moved more.1 more.0 (later js (omega (arith, ap length e)) (next code x st) below)
  over-told st below is later (inr none) = inr (λ h. let q = begins code x h in none (q.0, q.1))

  quiet-told : (st : Stack) (below : List Stack) (is : List Item) → Fewer is → Decided (Starts is Step) → Told (Quiet st) below is
  quiet-told st below is later (inl (js, e)) =
      let more = quiet-more code x st below is js e in
      moved more.1 more.0 (later js (omega (arith, ap length e)) (next code x st) below)
  quiet-told st below is later (inr none) = inr (λ h. let q = begins code x h in none (q.0, q.1))

  -- what follows a step
  behind-step : (is js ks : List Item) → is ≡ Step ∷ js → is ≡ Step ∷ ks → js ≡ ks
  behind-step is js ks e f = let same : Step ∷ js ≡ Step ∷ ks = sym e ∙ f in cc same

  module _ (key : Key) (v u i : ℕ) (env : Variables) (st : Stack) (below : List Stack) (is : List Item) (later : Fewer is) where
    made-told : (js : List Item) → is ≡ Step ∷ js → Decided ((b : ℕ) × (ks : List Item) × (js ≡ Alloc (Core b) key ∷ ks)) → Told (Makes key v u i env st) below is
    made-told js e (inl (b, ks, f)) =
        let run = Run u i (set env v (pointer key (Core b))) st in
        let more = makes-more code x key v u i env st run below is js ks b e f refl in
        moved more.1 more.0 (later ks (omega (arith, ap length e, ap length f)) (next code x run) below)
    made-told js e (inr none) = inr (λ h. let q = begins code x h in none (q.0, q.1, behind-step is js (Alloc (Core q.0) key ∷ q.1) e q.2))

    makes-told : Decided (Starts is Step) → Told (Makes key v u i env st) below is
    makes-told (inl (js, e)) = made-told js e (alloc-or-not key js)
    makes-told (inr none) = inr (λ h. let q = begins code x h in none (Alloc (Core q.0) key ∷ q.1, q.2))

  module _ (p : Place) (w : Word) (st : Stack) (below : List Stack) (is : List Item) (later : Fewer is) where
    wrote-told : (js : List Item) → is ≡ Step ∷ js → Decided (Starts js (Write p w)) → Told (Writes p w st) below is
    wrote-told js e (inl (ks, f)) =
        let more = writes-more code x p w st below is js ks e f in
        moved more.1 more.0 (later ks (omega (arith, ap length e, ap length f)) (next code x st) below)
    wrote-told js e (inr none) = inr (λ h. let q = begins code x h in none (q.0, behind-step is js (Write p w ∷ q.0) e q.1))

    writes-told : Decided (Starts is Step) → Told (Writes p w st) below is
    writes-told (inl (js, e)) = wrote-told js e (write-or-not p w js)
    writes-told (inr none) = inr (λ h. let q = begins code x h in none (Write p w ∷ q.0, q.1))

  module _ (p : Place) (u : UnitId) (v : ℕ) (args : List Word) (st : Stack) (below : List Stack) (is : List Item) (later : Fewer is) where
    read-told : (js : List Item) → is ≡ Step ∷ js → Decided ((w : Word) × (ks : List Item) × (js ≡ Read p w u v args ∷ ks)) → Told (Reads p u v args st) below is
    read-told js e (inl (w, ks, f)) =
        let run = entered code u.0 (words_after_read code u.0 v args w) Empty in
        let more = reads-more code x p u v args w st run Empty below (st ∷ below) is js ks e f refl refl refl in
        moved more.1 more.0 (later ks (omega (arith, ap length e, ap length f)) (next code x run) (st ∷ below))
    read-told js e (inr none) = inr (λ h. let q = begins code x h in none (q.0, q.1, behind-step is js (Read p q.0 u v args ∷ q.1) e q.2))

    reads-told : Decided (Starts is Step) → Told (Reads p u v args st) below is
    reads-told (inl (js, e)) = read-told js e (read-or-not p u v args js)
    reads-told (inr none) = inr (λ h. let q = begins code x h in none (Read p q.0 u v args ∷ q.1, q.2))

  turn-told : (is : List Item) → Fewer is → (a : Act) (below : List Stack) → Told a below is
  turn-told is later Over [] = moved (λ e. subst (Accepts code x Over []) (sym e) Accepts.ends) (λ h. begins code x h) (none-or-some is)
  turn-told is later Over (st ∷ below) = over-told st below is later (end-or-not is)
  turn-told is later (Quiet st) below = quiet-told st below is later (step-or-not is)
  turn-told is later (Makes key v u i env st) below = makes-told key v u i env st below is later (step-or-not is)
  turn-told is later (Writes p w st) below = writes-told p w st below is later (step-or-not is)
  turn-told is later (Reads p u v args st) below = reads-told p u v args st below is later (step-or-not is)

  all-told : (n : ℕ) (is : List Item) → length is ≤ n → (a : Act) (below : List Stack) → Told a below is
  all-told zero is short = turn-told is (λ js h a below. absurd (omega (arith, short, h)))
  all-told (suc n) is short = turn-told is (λ js h. all-told n js (omega (arith, short, h)))

  accepted-or-not : (a : Act) (is : List Item) → Told a [] is
  accepted-or-not a is = all-told (length is) is (omega arith) a []

may-run-or-not : (code : Code) (r : Record) → Decided (Fits code r.inputs r.function r.args)
may-run-or-not code r =
    moved (λ h. record { is_valid = h.0.0; blocks = h.0.1; words = h.1 }) (λ h. ((h.is_valid, h.blocks), h.words))
    (both (both (is-or-not (valid code)) (is-or-not (inputs_fit code.structs r.inputs))) (is-or-not (args_fit code.structs (alone r.inputs) (slice_get code.functions r.function) r.args)))

fits-or-not : (code : Code) (r : Record) → Decided (CallFits code r)
fits-or-not code r =
    moved (λ h. record { call = h.0; shapes = h.1 }) (λ h. (h.call, h.shapes))
    (both (may-run-or-not code r) (is-or-not (list_all (has_known_shape code.structs) r.inputs)))

module _ (code : Code) (r : Record) where
  remembered-or-not : (l : Trace) → Decided (Remembered code r l)
  remembered-or-not l =
      moved (λ h. record { inputs = h.0; made = h.1 }) (λ h. (h.inputs, h.made))
      (both (list-or-not block-or-not r.memory.inputs (inputs_after code (store_after code (bases code r.inputs) l) 0 r.inputs))
      (list-or-not (option-or-not block-or-not) (map Some r.memory.made) (map (memory_after code r.inputs l) (blocks_of l))))

  abbrev Judged : Type 0
  Judged = (v : Verdict) × Means code r v

  module _ (fits : CallFits code r) where
    by-memory : (l : Trace) → Replayed code r l → IsHonestRecord code r l → Decided (Remembered code r l) → Judged
    by-memory l h k (inl m) = (Yes, (fits, (l, h, k, m)))
    by-memory l h k (inr n) = (MemoryDiffers, (fits, (l, h, k, n)))

    by-contents : (l : Trace) → Replayed code r l → (b : Bool) → all_honest code (bases code r.inputs) r.forest ≡ b → Judged
    by-contents l h true e = by-memory l h (honest-of code r l h.items e) (remembered-or-not l)
    by-contents l h false e = (NotHonest, (fits, (l, h, not-honest code r l h.items e)))

    by-steps : all_named code (input_plain code r.inputs) r.forest ≡ true
        → Decided (Accepts code (plain_flat code (input_plain code r.inputs) r.forest) (next code (plain_flat code (input_plain code r.inputs) r.forest) (started code r.function r.args)) [] r.forest)
        → Judged
    by-steps e (inl a) = let q = accepted-replayed code r fits e a in by-contents q.0 q.1 (all_honest code (bases code r.inputs) r.forest) refl
    by-steps e (inr n) = (NotReplay, (fits, λ l h. n (replayed-accepted code r l h)))

    by-names : (b : Bool) → all_named code (input_plain code r.inputs) r.forest ≡ b → Judged
    by-names true e =
        let x = plain_flat code (input_plain code r.inputs) r.forest in
        by-steps e (accepted-or-not code x (next code x (started code r.function r.args)) r.forest)
    by-names false e = (NotReplay, (fits, not-named code r fits e))

  by-call : Decided (CallFits code r) → Judged
  by-call (inl fits) = by-names fits (all_named code (input_plain code r.inputs) r.forest) refl
  by-call (inr n) = (NoFit, n)

pub some-verdict : SomeVerdictLaw
some-verdict code r = by-call code r (fits-or-not code r)
