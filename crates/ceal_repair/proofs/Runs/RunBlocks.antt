-- A run begins, and makes blocks.
use Rattle.std.proofs.Common.{◌≡◌, ◌≢◌, ◌<◌, ◌≤◌, ℕ, zero, suc, ◌==◌, nat_le, pos, inl, inr, Bool, true, false, if◌then◌else◌, Option, Some, None, List, [], ◌∷◌, length, refl, sym, ap, ap₂, subst}
use Rattle.std.proofs.Common.{◌∙◌, slice_get, arith}
use Rattle.std.proofs.lemmas.Bool.Decides.{eqb_tells}
use Rattle.ceal_base.specs.Block.{Block}
use Rattle.ceal_base.specs.Operators.{same_block}
use Rattle.ceal_base.specs.declared.forest.Key.{Key}
use Rattle.ceal_base.specs.declared.kind.Shape.{Shape}
use Rattle.ceal_base.specs.declared.typed.StructInfo.{StructInfo}
use Rattle.ceal_base.specs.declared.word.BlockId.{BlockId}
use Rattle.ceal_base.specs.declared.word.BlockId.TheVariants.{Input, Core}
use Rattle.ceal_base.specs.declared.word.Place.{Place}
use Rattle.ceal_base.specs.declared.word.Word.{Word}
use Rattle.ceal_base.specs.declared.word.Word.TheVariants.{Num}
use Rattle.ceal_code.proofs.Replay.MemoryChanges.{made-shape}
use Rattle.ceal_code.proofs.Words.SameIsEqual.{nat-refl, block-same, block-refl}
use Rattle.ceal_code.specs.Init.{made}
use Rattle.ceal_code.specs.Program.{Code}
use Rattle.ceal_code.specs.Replay.{cell_default, content_in, shape_of}
use Rattle.ceal_code.specs.Value.{Plain, is_cell, field_kind, field_default}
use Rattle.ceal_heap.specs.Heap.{Contents, IsFree, IsMade, IsNew, KeepsBlocks, standing, plain_of}
use Rattle.ceal_mods.specs.Mods.{Contents as Mods, IsUntouched}
use Rattle.ceal_mods.specs.declared.cell.Cell.{Cell}
use Rattle.ceal_order.specs.Stamps.{is_in}
use Rattle.ceal_repair.specs.Words.{HasBases, default_by_standing, base_of, base_cleared}
use Rattle.ceal_repair.specs.Kept.{Kept, base_in}
use Rattle.ceal_repair.specs.declared.tables.Tables.{Tables}
use Rattle.ceal_trace.specs.Nodes.{new_entry, is_read, held_by}
use Rattle.ceal_trace.specs.declared.node.Node.TheVariants.{Root}

-- only the root is no read, so nothing is queued
alone : (s root : ℕ) (b : Bool) → is_read (held_by (if b then Some (new_entry root Root) else None)) ≡ false
alone s root true = refl
alone s root false = refl

pub none-queued : (t : Tables) → Kept t → t.trace.nodes ≡ new_entry 0 Root ∷ [] → t.stale.stamps ≡ []
none-queued t k e = go t.stale.stamps (λ s i. sym (alone s 0 (0 == s)) ∙ rw e at k.step.queued s i)
  where
    go : (stamps : List ℕ) → ((s : ℕ) → is_in s stamps ≡ true → false ≡ true) → stamps ≡ []
    go [] h = refl
    go (s ∷ ss) h = absurd (let clash = h s (rw (nat-refl s) refl) in cc)

-- the bases of a run at its beginning
pub first-bases : (structs : List StructInfo) (inputs : List Block) (heap : Contents) (old new : Mods) → IsNew heap → IsUntouched old
    → ((i field : ℕ) → i < length inputs → base_in new (record { block = Input i; field = field }) ≡ content_in structs (slice_get inputs i) field)
    → ((p : Place) → ((i : ℕ) → i < length inputs → same_block p.block (Input i) ≡ false) → base_in new p ≡ base_in old p)
    → HasBases structs inputs heap new
first-bases structs inputs heap old new empty fresh of_inputs others = record {
  of_cores =
      λ b field. others (record { block = Core b; field = field }) (λ i h. refl) ∙ (ap (λ (c : Cell). c.base) (fresh (record { block = Core b; field = field })) ∙ rw (empty.blocks (Core b)) refl);
  of_inputs = λ i field. go i field (nat_le (length inputs) i) refl;
}
  where
    -- an input that is not there has 0
    later : (xs : List Block) (i : ℕ) → length xs ≤ i → slice_get xs i ≡ None
    later [] i h = refl
    later (x ∷ xs) zero h = absurd (omega (arith, h))
    later (x ∷ xs) (suc i) h = later xs i (omega (arith, h))

    away : (i j : ℕ) → length inputs ≤ i → j < length inputs → same_block (Input i) (Input j) ≡ false
    away i j h k = elim (eqb_tells i j) [ inl q ↦ absurd (omega (arith, h, k, q.1)) | inr q ↦ q.0 ]

    go : (i field : ℕ) (t : Bool) → nat_le (length inputs) i ≡ t → base_in new (record { block = Input i; field = field }) ≡ content_in structs (slice_get inputs i) field
    go i field true h =
        let late : length inputs ≤ i = grind (arith, h) in
        others (record { block = Input i; field = field }) (λ j k. away i j late k) ∙ (ap (λ (c : Cell). c.base) (fresh (record { block = Input i; field = field })) ∙ rw (later inputs i late) refl)
    go i field false h = of_inputs i field (grind (arith, h))

-- a block that is made is a core block, with the words of its key
pub made-core : (heap : Contents) (id : BlockId) (shape : Shape) (words : List Word) → IsMade heap id shape words → (b : ℕ) × (id ≡ Core b)
made-core heap (Core b) shape words m = (b, refl)
made-core heap (Input i) shape words m = let clash = m.1 in cc

pub made-words : (code : Code) (x : Plain) (heap : Contents) (id : BlockId) (shape : Shape) (key : Key) (words : List Word) → IsMade heap id shape words
    → shape ≡ shape_of code key → words ≡ (made code x key).words → plain_of heap id ≡ Some (made code x key)
made-words code x heap id shape key words m s w =
    rw m.1 (ap₂ (λ sh ws. Some (record { shape = sh; words = ws })) (s ∙ sym (made-shape code x key)) w)

past-last : {A : Type 0} (xs : List A) → slice_get xs (length xs) ≡ None
past-last [] = refl
past-last (x ∷ xs) = past-last xs

-- where the modifiables of the last block are set back, each base of a number that is free is 0
free-bare : (structs : List StructInfo) (heap : Contents) (id : BlockId) (before : Option Shape) (field : ℕ) → IsFree heap id before
    → base_cleared structs before field (default_by_standing structs (standing heap id) field) ≡ Num (pos 0)
free-bare structs heap id None field free = rw (free.0, past-last heap.numbers) refl
free-bare structs heap id (Some shape) field free = rw free (go (is_cell (field_kind structs shape field)))
  where
    go : (b : Bool) → (if b then Num (pos 0) else (if b then field_default (field_kind structs shape field) else Num (pos 0))) ≡ Num (pos 0)
    go true = refl
    go false = refl

module _ (structs : List StructInfo) (inputs : List Block) (heap heap' : Contents) (mods mods' : Mods) (id : BlockId) (shape : Shape) (words : List Word) where
  pub made-bases : (before : Option Shape) → IsFree heap id before → IsMade heap' id shape words → KeepsBlocks id heap heap'
      → ((p : Place) → same_block p.block id ≡ true → base_in mods' p ≡ base_of structs shape [] p.field (base_cleared structs before p.field (base_in mods p)))
      → ((p : Place) → same_block p.block id ≡ false → base_in mods' p ≡ base_in mods p)
      → HasBases structs inputs heap mods → HasBases structs inputs heap' mods'
  made-bases before free new_one kept here others h = record { of_cores = cores; of_inputs = of_inputs }
    where
      default-here : (field : ℕ) (now : Word) → now ≡ Num (pos 0) → base_of structs shape [] field now ≡ cell_default (field_kind structs shape field)
      default-here field now bare = rw bare refl

      cores : (b field : ℕ) → base_in mods' (record { block = Core b; field = field }) ≡ default_by_standing structs (standing heap' (Core b)) field
      cores b field = go (same_block (Core b) id) refl
        where
          go : (same : Bool) → same_block (Core b) id ≡ same → base_in mods' (record { block = Core b; field = field }) ≡ default_by_standing structs (standing heap' (Core b)) field
          go true e =
              let is : Core b ≡ id = block-same (Core b) id e in
              here (record { block = Core b; field = field }) e
              ∙ (default-here field (base_cleared structs before field (base_in mods (record { block = Core b; field = field })))
              (ap (λ w. base_cleared structs before field w) (h.of_cores b field)
              ∙ subst (λ i. base_cleared structs before field (default_by_standing structs (standing heap i) field) ≡ Num (pos 0)) (sym is) (free-bare structs heap id before field free))
              ∙ subst (λ i. cell_default (field_kind structs shape field) ≡ default_by_standing structs (standing heap' i) field) (sym is) (rw new_one.1 refl))
          go false e =
              let away : Core b ≢ id = λ same. let clash : true ≡ false = sym (block-refl (Core b)) ∙ (rw (← same) at e) in cc in
              others (record { block = Core b; field = field }) e ∙ (h.of_cores b field ∙ rw (kept (Core b) away) refl)

      of_inputs : (i field : ℕ) → base_in mods' (record { block = Input i; field = field }) ≡ content_in structs (slice_get inputs i) field
      of_inputs i field =
          let core = made-core heap' id shape words new_one in
          others (record { block = Input i; field = field }) (rw core.1 refl) ∙ h.of_inputs i field
