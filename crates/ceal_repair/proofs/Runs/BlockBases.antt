-- The bases of the modifiables of a block are set, field by field.
use Rattle.std.proofs.Common.{◌≡◌, ◌<◌, ◌≤◌, ◌+◌, ◌==◌, ℕ, pos, inl, inr, Bool, true, false, Some, List, if◌then◌else◌, refl, sym, ap, ◌∙◌, arith, slice_get, unwrap_or}
use Rattle.std.proofs.lemmas.Bool.Decides.{eqb_tells}
use Rattle.ceal_base.specs.Block.{Block}
use Rattle.ceal_base.specs.Operators.{same_block}
use Rattle.ceal_base.specs.Shapes.{default_of_field}
use Rattle.ceal_base.specs.declared.kind.FieldKind.{FieldKind}
use Rattle.ceal_base.specs.declared.kind.Shape.{Shape}
use Rattle.ceal_base.specs.declared.typed.StructInfo.{StructInfo}
use Rattle.ceal_base.specs.declared.word.BlockId.{BlockId}
use Rattle.ceal_base.specs.declared.word.BlockId.TheVariants.{Input}
use Rattle.ceal_base.specs.declared.word.Place.{Place}
use Rattle.ceal_base.specs.declared.word.Word.{Word}
use Rattle.ceal_base.specs.declared.word.Word.TheVariants.{Num}
use Rattle.ceal_code.proofs.Words.SameIsEqual.{block-refl}
use Rattle.ceal_code.specs.Replay.{stored, content_in}
use Rattle.ceal_code.specs.Value.{is_cell, field_kind, field_default}
use Rattle.ceal_mods.specs.Mods.{cell_of, IsUntouched}
use Rattle.ceal_mods.specs.declared.cell.Cell.{Cell}
use Rattle.ceal_order.specs.Stamps.{is_in}
use Rattle.ceal_repair.specs.Words.{base_of}
use Rattle.ceal_repair.specs.Kept.{Kept, base_in}
use Rattle.ceal_repair.specs.declared.tables.Tables.{Tables}

-- where the nodes are the same, the reads of each place are
pub reads-same : (old t : Tables) → Kept old → Kept t → t.trace ≡ old.trace → (p : Place) → (cell_of t.mods p).reads ≡ (cell_of old.mods p).reads
reads-same old t k l e p = l.step.tabled.reads p ∙ rw e (sym (k.step.tabled.reads p))

-- reads that are queued in two steps are those of the places of one block
pub only-both : (id : BlockId) (old mid new : Tables) → Kept old → Kept mid → mid.trace ≡ old.trace
    → ((s : ℕ) → is_in s mid.stale.stamps ≡ true → is_in s old.stale.stamps ≡ false → (p : Place) × (same_block p.block id ≡ true) × (is_in s (cell_of old.mods p).reads ≡ true))
    → ((s : ℕ) → is_in s new.stale.stamps ≡ true → is_in s mid.stale.stamps ≡ false → (p : Place) × (same_block p.block id ≡ true) × (is_in s (cell_of mid.mods p).reads ≡ true))
    → (s : ℕ) → is_in s new.stale.stamps ≡ true → is_in s old.stale.stamps ≡ false → (p : Place) × (same_block p.block id ≡ true) × (is_in s (cell_of old.mods p).reads ≡ true)
only-both id old mid new ko km trace first second s i was_not = go (is_in s mid.stale.stamps) refl
  where
    go : (b : Bool) → is_in s mid.stale.stamps ≡ b → (p : Place) × (same_block p.block id ≡ true) × (is_in s (cell_of old.mods p).reads ≡ true)
    go true was = first s was was_not
    go false was = let found = second s i was in (found.0, found.1, rw (← reads-same old mid ko km trace found.0) found.2)

-- the word of a field, or its default where there is none
abbrev pub field-word : List StructInfo → Shape → List Word → ℕ → Word
field-word structs shape words field = unwrap_or (slice_get words field) (field_default (field_kind structs shape field))

pub set-word : (structs : List StructInfo) (shape : Shape) (words : List Word) (n : ℕ) (kind : FieldKind) (word : Word) → Some kind ≡ field_kind structs shape n
    → word ≡ unwrap_or (slice_get words n) (default_of_field kind) → word ≡ field-word structs shape words n
set-word structs shape words n kind word is_kind is = rw (← is_kind) is

module _ (structs : List StructInfo) (id : BlockId) (shape : Shape) (value : ℕ → Word) where
  -- how far the modifiables of a block have these bases, by their fields
  pub record Setting (old t : Tables) (n : ℕ) : Type 0 where
    pub trace : t.trace ≡ old.trace
    pub memo : t.memo ≡ old.memo
    pub looked : t.mods.looked ≡ old.mods.looked
    pub differed : t.mods.differed ≡ old.mods.differed
    pub marks : t.mods.marked ≡ old.mods.marked
    pub here : (p : Place) → same_block p.block id ≡ true → p.field < n → base_in t.mods p ≡ (if is_cell (field_kind structs shape p.field) then value p.field else base_in old.mods p)
    pub later : (p : Place) → same_block p.block id ≡ true → n ≤ p.field → base_in t.mods p ≡ base_in old.mods p
    pub others : (p : Place) → same_block p.block id ≡ false → base_in t.mods p ≡ base_in old.mods p
    pub only : (s : ℕ) → is_in s t.stale.stamps ≡ true → is_in s old.stale.stamps ≡ false → (p : Place) × (same_block p.block id ≡ true) × (is_in s (cell_of old.mods p).reads ≡ true)
    pub kept : Kept t

  -- a field that is no modifiable
  pub setting-plain : (old t : Tables) (n : ℕ) → Setting old t n → (kind : FieldKind) → Some kind ≡ field_kind structs shape n → is_cell (Some kind) ≡ false → Setting old t (n + 1)
  setting-plain old t n s kind is_kind not_cell = record {
    trace = s.trace;
    memo = s.memo;
    looked = s.looked;
    differed = s.differed;
    marks = s.marks;
    here = here-too;
    later = λ p e l. s.later p e (omega (arith, l));
    others = s.others;
    only = s.only;
    kept = s.kept;
  }
    where
      plain : is_cell (field_kind structs shape n) ≡ false
      plain = rw (← is_kind) not_cell

      here-too : (p : Place) → same_block p.block id ≡ true → p.field < n + 1 → base_in t.mods p ≡ (if is_cell (field_kind structs shape p.field) then value p.field else base_in old.mods p)
      here-too p e l = elim (eqb_tells p.field n) [
        | inl q ↦ let none : is_cell (field_kind structs shape p.field) ≡ false = rw q.1 plain in rw none (s.later p e (omega (arith, q.1)))
        | inr q ↦ s.here p e (omega (arith, l, q.1))
      ]

  -- a field that is one
  pub setting-more : (old t t' : Tables) (n : ℕ) (word : Word) → Kept old → Setting old t n → (kind : FieldKind) → Some kind ≡ field_kind structs shape n → is_cell (Some kind) ≡ true
      → word ≡ value n
      → t'.trace ≡ t.trace → t'.memo ≡ t.memo → t'.mods.looked ≡ t.mods.looked → t'.mods.differed ≡ t.mods.differed → t'.mods.marked ≡ t.mods.marked
      → ((p : Place) → base_in t'.mods p ≡ stored (base_in t.mods) (record { block = id; field = n }) word p)
      → ((s : ℕ) → is_in s t'.stale.stamps ≡ true → is_in s t.stale.stamps ≡ false → is_in s (cell_of t.mods (record { block = id; field = n })).reads ≡ true)
      → Kept t' → Setting old t' (n + 1)
  unfolding stored
  setting-more old t t' n word ko s kind is_kind is_cell_kind is trace memo looked differed marks base only kept = record {
    trace = trace ∙ s.trace;
    memo = memo ∙ s.memo;
    looked = looked ∙ s.looked;
    differed = differed ∙ s.differed;
    marks = marks ∙ s.marks;
    here = here-too;
    later = λ p e l. elim (eqb_tells p.field n) [
      | inl q ↦ absurd (omega (arith, l, q.1))
      | inr q ↦ base p ∙ rw (e, q.0) (s.later p e (omega (arith, l)))
    ];
    others = λ p e. base p ∙ rw e (s.others p e);
    only = only-too;
    kept = kept;
  }
    where
      cell : is_cell (field_kind structs shape n) ≡ true
      cell = rw (← is_kind) is_cell_kind

      here-too : (p : Place) → same_block p.block id ≡ true → p.field < n + 1 → base_in t'.mods p ≡ (if is_cell (field_kind structs shape p.field) then value p.field else base_in old.mods p)
      here-too p e l = elim (eqb_tells p.field n) [
        | inl q ↦
            let here : is_cell (field_kind structs shape p.field) ≡ true = rw q.1 cell in
            let is_here : word ≡ value p.field = rw q.1 is in
            base p ∙ rw (e, q.0, here) is_here
        | inr q ↦ base p ∙ rw (e, q.0) (s.here p e (omega (arith, l, q.1)))
      ]

      only-too : (r : ℕ) → is_in r t'.stale.stamps ≡ true → is_in r old.stale.stamps ≡ false → (p : Place) × (same_block p.block id ≡ true) × (is_in r (cell_of old.mods p).reads ≡ true)
      only-too r i was_not = go (is_in r t.stale.stamps) refl
        where
          go : (b : Bool) → is_in r t.stale.stamps ≡ b → (p : Place) × (same_block p.block id ≡ true) × (is_in r (cell_of old.mods p).reads ≡ true)
          go true was = s.only r was was_not
          go false was = (record { block = id; field = n }, block-refl id, rw (← reads-same old t ko s.kept s.trace (record { block = id; field = n })) (only r i was))

-- how far the inputs have their bases
pub record SetInputs (structs : List StructInfo) (inputs : List Block) (old t : Tables) (n : ℕ) : Type 0 where
  pub trace : t.trace ≡ old.trace
  pub here : (i field : ℕ) → i < n → base_in t.mods (record { block = Input i; field = field }) ≡ content_in structs (slice_get inputs i) field
  pub others : (p : Place) → ((i : ℕ) → i < n → same_block p.block (Input i) ≡ false) → base_in t.mods p ≡ base_in old.mods p
  pub looked : t.mods.looked ≡ old.mods.looked
  pub differed : t.mods.differed ≡ old.mods.differed
  pub marks : t.mods.marked ≡ old.mods.marked
  pub kept : Kept t

module _ (structs : List StructInfo) (inputs : List Block) (old : Tables) where
  pub inputs-more : IsUntouched old.mods → (t t' : Tables) (n : ℕ) (block : Block) → SetInputs structs inputs old t n → slice_get inputs n ≡ Some block
      → t'.trace ≡ t.trace
      → ((p : Place) → same_block p.block (Input n) ≡ true → base_in t'.mods p ≡ base_of structs block.shape block.words p.field (base_in t.mods p))
      → ((p : Place) → same_block p.block (Input n) ≡ false → base_in t'.mods p ≡ base_in t.mods p)
      → t'.mods.looked ≡ t.mods.looked → t'.mods.differed ≡ t.mods.differed → t'.mods.marked ≡ t.mods.marked → Kept t' → SetInputs structs inputs old t' (n + 1)
  inputs-more fresh t t' n block s is trace here others looked differed marks kept = record {
    looked = looked ∙ s.looked;
    differed = differed ∙ s.differed;
    marks = marks ∙ s.marks;
    trace = trace ∙ s.trace;
    here = here-too;
    others = λ p away. others p (away n (omega arith)) ∙ s.others p (λ i l. away i (omega (arith, l)));
    kept = kept;
  }
    where
      ahead : (i : ℕ) → i < n → (n == i) ≡ false
      ahead i l = elim (eqb_tells n i) [
        | inl q ↦ absurd (omega (arith, l, q.1))
        | inr q ↦ q.0
      ]

      bare : (field : ℕ) → base_in t.mods (record { block = Input n; field = field }) ≡ Num (pos 0)
      bare field = s.others (record { block = Input n; field = field }) ahead ∙ ap (λ (c : Cell). c.base) (fresh (record { block = Input n; field = field }))

      here-too : (i field : ℕ) → i < n + 1 → base_in t'.mods (record { block = Input i; field = field }) ≡ content_in structs (slice_get inputs i) field
      here-too i field l = elim (eqb_tells i n) [
        | inl q ↦ rw (q.1, is) (here (record { block = Input n; field = field }) (block-refl (Input n)) ∙ rw (bare field) refl)
        | inr q ↦ others (record { block = Input i; field = field }) q.0 ∙ s.here i field (omega (arith, l, q.1))
      ]
