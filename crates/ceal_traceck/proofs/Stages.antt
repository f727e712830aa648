-- What each stage of the check has found: `m` is the memory before the items, `learnt` the one that has their blocks,
-- and `after` the one that has their contents too.
use Rattle.std.proofs.Common.{◌≡◌, ℕ, ◌<◌, true, false, List, [], length, slice_get, sym, ap, ◌∙◌}
use Rattle.std.specs.Prelude.{◌↔◌}
use Rattle.ceal_base.specs.Block.{Block}
use Rattle.ceal_base.specs.Trace.{Trace}
use Rattle.ceal_base.specs.declared.forest.Item.{Item}
use Rattle.ceal_base.specs.declared.recorded.Record.{Record}
use Rattle.ceal_base.specs.declared.word.BlockId.TheVariants.{Input}
use Rattle.ceal_base.specs.declared.word.Word.{Word}
use Rattle.ceal_code.specs.Program.{Code}
use Rattle.ceal_code.specs.Replay.{input_plain, bases, block_after}
use Rattle.ceal_code.specs.Step.{started, next}
use Rattle.ceal_code.specs.Tables.{code_in, plain_in, store_in, plain_flat, store_flat}
use Rattle.ceal_code.specs.declared.trace_memory.TraceMemory.{TraceMemory}
use Rattle.ceal_traceck.proofs.Checked.{not-named, replayed-accepted, accepted-replayed, honest-of, not-honest, plain-is, store-is, named-moved, honest-moved, plain-moved, store-moved, accepts-moved}
use Rattle.ceal_traceck.proofs.Remembering.{Asked, asked, asked-moved}
use Rattle.ceal_traceck.specs.Items.{all_named, all_honest, AreMade}
use Rattle.ceal_traceck.specs.Verdicts.{CallFits, Replayed, IsHonestRecord, Remembered}
use Rattle.ceal_traceck.specs.Walk.{Accepts}

-- a memory of the record's inputs, with the record's items and arguments at hand
pub record Begun (code : Code) (r : Record) (m : TraceMemory) (is : List Item) (args : List Word) : Type 0 where
  pub program : code_in m ≡ code
  pub plain : plain_in m ≡ input_plain code r.inputs
  pub store : store_in m ≡ bases code r.inputs
  pub items : is ≡ r.forest
  pub arguments : args ≡ r.args

pub begins : {code : Code} {r : Record} {m : TraceMemory} {is : List Item} {args : List Word} → code_in m ≡ code
    → plain_in m ≡ input_plain code r.inputs → store_in m ≡ bases code r.inputs → is ≡ r.forest → args ≡ r.args
    → Begun code r m is args
begins program plain store items arguments =
    record { program = program; plain = plain; store = store; items = items; arguments = arguments }

-- the memory after the items' blocks were learnt
pub record Learns (m learnt : TraceMemory) (is : List Item) : Type 0 where
  pub program : code_in learnt ≡ code_in m
  pub plain : plain_in learnt ≡ plain_flat (code_in m) (plain_in m) is
  pub store : store_in learnt ≡ store_in m

-- and after their contents were
pub record Stores (m after : TraceMemory) (is : List Item) : Type 0 where
  pub program : code_in after ≡ code_in m
  pub plain : plain_in after ≡ plain_in m
  pub store : store_in after ≡ store_flat (code_in m) (store_in m) is

-- the items are those of a run of this memory's code
abbrev pub Accepted : Record → TraceMemory → List Item → List Word → Type 0
Accepted r m is args = Accepts (code_in m) (plain_in m) (next (code_in m) (plain_in m) (started (code_in m) r.function args)) [] is

-- the recorded memory is this one
abbrev pub Asks : Record → TraceMemory → List Block → List Item → Type 0
Asks r m inputs is =
    (length r.memory.inputs ≡ length inputs)
    × ((i : ℕ) → i < length r.memory.inputs → block_after (code_in m) (plain_in m) (store_in m) (Input i) ≡ slice_get r.memory.inputs i)
    × AreMade (λ b. block_after (code_in m) (plain_in m) (store_in m) b) is r.memory.made

module _ (code : Code) (r : Record) (m : TraceMemory) (is : List Item) (args : List Word) (fits : CallFits code r) (begun : Begun code r m is args) where
  names-here : all_named (code_in m) (plain_in m) is ≡ all_named code (input_plain code r.inputs) r.forest
  names-here = named-moved code (code_in m) (plain_in m) (input_plain code r.inputs) is r.forest begun.program begun.plain begun.items

  pub unnamed : all_named (code_in m) (plain_in m) is ≡ false → (l : Trace) → Replayed code r l → ⊥
  unnamed h = not-named code r fits (sym names-here ∙ h)

  module _ (learnt : TraceMemory) (learns : Learns m learnt is) where
    program-then : code_in learnt ≡ code
    program-then = learns.program ∙ begun.program

    plain-then : plain_in learnt ≡ plain_flat code (input_plain code r.inputs) r.forest
    plain-then = learns.plain ∙ plain-moved code (code_in m) (plain_in m) (input_plain code r.inputs) is r.forest begun.program begun.plain begun.items

    store-then : store_in learnt ≡ bases code r.inputs
    store-then = learns.store ∙ begun.store

    abbrev AcceptedThere : Type 0
    AcceptedThere = Accepts code (plain_flat code (input_plain code r.inputs) r.forest) (next code (plain_flat code (input_plain code r.inputs) r.forest) (started code r.function r.args)) [] r.forest

    accepts-here : Accepted r learnt is args ↔ AcceptedThere
    accepts-here = accepts-moved code (code_in learnt) (plain_in learnt)
        (plain_flat code (input_plain code r.inputs) r.forest) r.function args r.args is r.forest program-then plain-then begun.arguments begun.items

    pub unaccepted : (Accepted r learnt is args → ⊥) → (l : Trace) → Replayed code r l → ⊥
    unaccepted h l k = h (accepts-here.1 (replayed-accepted code r l k))

    module _ (named : all_named (code_in m) (plain_in m) is ≡ true) (accepts : Accepted r learnt is args) where
      pub found : (l : Trace) × Replayed code r l
      found = accepted-replayed code r fits (sym names-here ∙ named) (accepts-here.0 accepts)

      honest-here : all_honest (code_in learnt) (store_in learnt) is ≡ all_honest code (bases code r.inputs) r.forest
      honest-here = honest-moved code (code_in learnt) (store_in learnt) (bases code r.inputs) is r.forest program-then store-then begun.items

      pub dishonest : all_honest (code_in learnt) (store_in learnt) is ≡ false → IsHonestRecord code r found.0 → ⊥
      dishonest h = not-honest code r found.0 found.1.items (sym honest-here ∙ h)

      pub is-honest : all_honest (code_in learnt) (store_in learnt) is ≡ true → IsHonestRecord code r found.0
      is-honest h = honest-of code r found.0 found.1.items (sym honest-here ∙ h)

      -- what is asked of the memory then is asked of the one after the trace
      module _ (after : TraceMemory) (stores : Stores learnt after is) where
        stored : store_in after ≡ store_flat code (bases code r.inputs) r.forest
        stored = stores.store ∙ store-moved code (code_in learnt) (store_in learnt) (bases code r.inputs) is r.forest program-then store-then begun.items

        words : Asked code r (plain_in after) (store_in after) ↔ Remembered code r found.0
        words = asked code r found.0 found.1.items found.1.replays (plain_in after) (store_in after)
            (stores.plain ∙ (plain-then ∙ plain-is code r found.0 found.1.items))
            (stored ∙ store-is code r found.0 found.1.items)

        pub asked-there : (inputs : List Block) → inputs ≡ r.inputs → Asks r after inputs is ↔ Remembered code r found.0
        asked-there inputs same =
            let told = asked-moved code (code_in after) r (plain_in after) (store_in after) (length inputs) is (stores.program ∙ program-then) (ap length same) begun.items in
            (λ h. words.0 (told.0 h), λ h. told.1 (words.1 h))
