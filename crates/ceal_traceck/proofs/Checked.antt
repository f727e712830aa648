-- What each part of the check says of a record.
use Rattle.std.proofs.Common.{◌≡◌, ℕ, ◌+◌, ◌≤◌, true, false, List, [], ◌++◌, length, refl, sym, ap, ◌∙◌, subst, append-nil, arith}
use Rattle.ceal_base.proofs.TraceLemmas.{trace-flat}
use Rattle.ceal_base.specs.Trace.{Trace, flat, trace_of, blocks_of}
use Rattle.ceal_base.specs.declared.forest.Item.{Item}
use Rattle.std.specs.Prelude.{◌↔◌}
use Rattle.ceal_base.specs.declared.recorded.Record.{Record}
use Rattle.ceal_base.specs.declared.word.Word.{Word}
use Rattle.ceal_code.proofs.Words.SameIsEqual.{some-same}
use Rattle.ceal_code.proofs.Equations.TableSteps.{plain-of-flat, store-of-flat}
use Rattle.ceal_code.specs.After.{store_after}
use Rattle.ceal_code.specs.Program.{Code}
use Rattle.ceal_code.specs.Replay.{Yields, Store, count, core_numbers, input_plain, plain_of, bases}
use Rattle.ceal_code.specs.Step.{started, next}
use Rattle.ceal_code.specs.Tables.{plain_flat, store_flat}
use Rattle.ceal_code.specs.Value.{Plain}
use Rattle.ceal_traceck.proofs.Accepted.{accepted, yielded}
use Rattle.ceal_traceck.proofs.HonestItems.{honest-trace, trace-honest}
use Rattle.ceal_traceck.proofs.ItemSteps.{named-none, honest-none}
use Rattle.ceal_traceck.proofs.Known.{begin-knows, learns, named-mentions, mentions-named}
use Rattle.ceal_traceck.specs.Items.{all_named, all_honest}
use Rattle.ceal_traceck.specs.Verdicts.{CallFits, Replayed, IsHonestRecord}
use Rattle.ceal_traceck.specs.Walk.{Accepts}

-- items are those of one trace at most
pub same-trace : (is : List Item) (l m : Trace) → is ≡ flat l → is ≡ flat m → l ≡ m
same-trace is l m e k = some-same l m (sym (trace-flat l) ∙ (ap trace_of (sym e ∙ k) ∙ trace-flat m))

module _ (code : Code) (r : Record) where
  -- a trace that replays is one whose items are named
  pub replayed-named : CallFits code r → (l : Trace) → Replayed code r l → all_named code (input_plain code r.inputs) r.forest ≡ true
  replayed-named fits l h =
      let once : (b : ℕ) → count b (core_numbers (blocks_of l)) + count b [] ≤ 1 = λ b. omega (arith, h.replays.distinct b) in
      let q = mentions-named (length r.inputs) code h.replays.mentions [] (input_plain code r.inputs) (begin-knows code r.inputs fits.call.blocks) once in
      ap (all_named code (input_plain code r.inputs)) (h.items ∙ sym (append-nil (flat l))) ∙ (q.0.same ∙ named-none code _)

  pub not-named : CallFits code r → all_named code (input_plain code r.inputs) r.forest ≡ false → (l : Trace) → Replayed code r l → ⊥
  not-named fits h l k = cc (replayed-named fits l k, h)

  -- and which the code accepts
  pub replayed-accepted : (l : Trace) → Replayed code r l
      → Accepts code (plain_flat code (input_plain code r.inputs) r.forest) (next code (plain_flat code (input_plain code r.inputs) r.forest) (started code r.function r.args)) [] r.forest
  replayed-accepted l h =
      let e : plain_flat code (input_plain code r.inputs) r.forest ≡ plain_of code r.inputs l = ap (plain_flat code (input_plain code r.inputs)) h.items ∙ plain-of-flat code r.inputs l in
      rw (e, h.items) (yielded code (plain_of code r.inputs l) (started code r.function r.args) l h.replays.yields)

  -- where both hold, there is a trace that replays
  pub accepted-replayed : CallFits code r → all_named code (input_plain code r.inputs) r.forest ≡ true
      → Accepts code (plain_flat code (input_plain code r.inputs) r.forest) (next code (plain_flat code (input_plain code r.inputs) r.forest) (started code r.function r.args)) [] r.forest
      → (l : Trace) × Replayed code r l
  accepted-replayed fits h k =
      let n = length r.inputs in
      let begin = begin-knows code r.inputs fits.call.blocks in
      let learnt = learns n code r.forest [] (input_plain code r.inputs) begin h in
      let q = accepted code (plain_flat code (input_plain code r.inputs) r.forest) (started code r.function r.args) r.forest k learnt.made' in
      let l = q.0 in
      let e : plain_flat code (input_plain code r.inputs) r.forest ≡ plain_of code r.inputs l = ap (plain_flat code (input_plain code r.inputs)) q.1 ∙ plain-of-flat code r.inputs l in
      let h' : all_named code (input_plain code r.inputs) (flat l ++ []) ≡ true = ap (all_named code (input_plain code r.inputs)) (append-nil (flat l) ∙ sym q.1) ∙ h in
      let m = named-mentions n code l [] [] (input_plain code r.inputs) begin (λ b. omega arith) h' in (
        l,
        record {
          items = q.1;
          replays = record {
            yields = subst (λ x. Yields code x (started code r.function r.args) l) e q.2;
            distinct = λ b. omega (arith, m.counts b, m.once b);
            known = m.known;
            mentions = m.mentions;
          };
        },
      )

  module _ (l : Trace) (items : r.forest ≡ flat l) where
    -- the items are honest where their trace is
    pub honest-of : all_honest code (bases code r.inputs) r.forest ≡ true → IsHonestRecord code r l
    honest-of h =
        let h' : all_honest code (bases code r.inputs) (flat l ++ []) ≡ true = ap (all_honest code (bases code r.inputs)) (append-nil (flat l) ∙ sym items) ∙ h in
        record { after = store_after code (bases code r.inputs) l; walk = (honest-trace code l (bases code r.inputs) [] h').0 }

    pub of-honest : IsHonestRecord code r l → all_honest code (bases code r.inputs) r.forest ≡ true
    of-honest h = ap (all_honest code (bases code r.inputs)) (items ∙ sym (append-nil (flat l))) ∙ (trace-honest code h.walk [] ∙ honest-none code h.after)

    pub not-honest : all_honest code (bases code r.inputs) r.forest ≡ false → IsHonestRecord code r l → ⊥
    not-honest h k = cc (of-honest k, h)

    pub plain-is : plain_flat code (input_plain code r.inputs) r.forest ≡ plain_of code r.inputs l
    plain-is = ap (plain_flat code (input_plain code r.inputs)) items ∙ plain-of-flat code r.inputs l

    pub store-is : store_flat code (bases code r.inputs) r.forest ≡ store_after code (bases code r.inputs) l
    store-is = ap (store_flat code (bases code r.inputs)) items ∙ store-of-flat code (bases code r.inputs) l

-- the same with other names
pub named-moved : (code now : Code) (x y : Plain) (is js : List Item) → now ≡ code → x ≡ y → is ≡ js → all_named now x is ≡ all_named code y js
named-moved code now x y is js e f g = rw (e, f, g) refl

pub honest-moved : (code now : Code) (s t : Store) (is js : List Item) → now ≡ code → s ≡ t → is ≡ js → all_honest now s is ≡ all_honest code t js
honest-moved code now s t is js e f g = rw (e, f, g) refl

pub plain-moved : (code now : Code) (x y : Plain) (is js : List Item) → now ≡ code → x ≡ y → is ≡ js → plain_flat now x is ≡ plain_flat code y js
plain-moved code now x y is js e f g = rw (e, f, g) refl

pub store-moved : (code now : Code) (s t : Store) (is js : List Item) → now ≡ code → s ≡ t → is ≡ js → store_flat now s is ≡ store_flat code t js
store-moved code now s t is js e f g = rw (e, f, g) refl

pub accepts-moved : (code now : Code) (x y : Plain) (f : ℕ) (as' bs : List Word) (is js : List Item) → now ≡ code → x ≡ y → as' ≡ bs → is ≡ js
    → Accepts now x (next now x (started now f as')) [] is ↔ Accepts code y (next code y (started code f bs)) [] js
accepts-moved code now x y f as' bs is js e k l m = rw (e, k, l, m) (λ h. h, λ h. h)
