-- The places of a new input are touched, and then get their bases.
use Rattle.std.proofs.Common.{◌≡◌, ◌<◌, ◌+◌, ℕ, inl, inr, Bool, true, false, Some, List, [], ◌∷◌, refl, sym, ap, subst, ◌∙◌, arith, slice_get, unwrap_or}
use Rattle.std.specs.Prelude.{Result, Ok, Err, OnOk, OnErr}
use Rattle.std.proofs.Math.Path.{fun_ext}
use Rattle.std.proofs.lemmas.Bool.Decides.{eqb_tells}
use Rattle.ceal_base.specs.Operators.{same_place}
use Rattle.ceal_base.specs.Shapes.{default_of_field}
use Rattle.ceal_base.specs.declared.kind.FieldKind.{FieldKind}
use Rattle.ceal_base.specs.declared.kind.Shape.{Shape}
use Rattle.ceal_base.specs.declared.typed.StructInfo.{StructInfo}
use Rattle.ceal_base.specs.declared.word.BlockId.TheVariants.{Input}
use Rattle.ceal_base.specs.declared.word.Place.{Place}
use Rattle.ceal_base.specs.declared.word.Word.{Word}
use Rattle.ceal_code.proofs.Words.SameIsEqual.{place-same}
use Rattle.ceal_code.specs.Replay.{stored}
use Rattle.ceal_code.specs.Value.{is_cell, field_kind}
use Rattle.ceal_mods.specs.Cell.{with_base}
use Rattle.ceal_mods.specs.Mods.{Contents, HasCell, cell_of, Changes, Follows as Mods_follow}
use Rattle.ceal_mods.specs.declared.cell.Cell.{Cell}
use Rattle.ceal_order.specs.Stamps.{is_in, head_of}
use Rattle.ceal_queue.specs.Queue.{Waiting}
use Rattle.ceal_repair.proofs.Runs.BlockBases.{reads-same, field-word, set-word, Setting, setting-plain, setting-more}
use Rattle.ceal_repair.proofs.TableCalls.BaseEdit.{edit-tabled, edit-reads, edit-kept}
use Rattle.ceal_repair.proofs.TableCalls.PutKeepsTables.{tables}
use Rattle.ceal_repair.proofs.Lists.ListsOfNodes.{other-place}
use Rattle.ceal_repair.specs.Chain.{Chained}
use Rattle.ceal_repair.specs.Covered.{queue_of}
use Rattle.ceal_repair.specs.Kept.{Kept, IsAwake, base_in}
use Rattle.ceal_repair.specs.Looks.{LooksAtNothing}
use Rattle.ceal_repair.specs.Words.{IsTouched}
use Rattle.ceal_repair.specs.declared.tables.Tables.{Tables}
use Rattle.ceal_trace.specs.Nodes.{Entry, stamps_in}

-- ---- a place is touched

base-own : (c : Cell) (v : Word) → c.base ≡ v → with_base v c ≡ c
base-own c v e = ap (λ b. record { base = b; writes = c.writes; reads = c.reads }) (sym e)

pub touched-cells : (old mods : Contents) (p : Place) (v : Word) → base_in old p ≡ v → Changes old mods p (with_base v (cell_of old p)) → (q : Place) → cell_of mods q ≡ cell_of old q
touched-cells old mods p v bare change q = go (same_place q p) refl
  where
    go : (b : Bool) → same_place q p ≡ b → cell_of mods q ≡ cell_of old q
    go true e = rw (place-same q p e) (change.here ∙ base-own (cell_of old p) v bare)
    go false e = change.others q (other-place q p e)

pub touched-either : {A E : Type 0} (r : Result A E) (old mods : Contents) (p : Place) (v : Word) → base_in old p ≡ v → OnOk r (Changes old mods p (with_base v (cell_of old p))) → OnErr r (mods ≡ old)
    → (q : Place) → cell_of mods q ≡ cell_of old q
touched-either (Ok x) old mods p v bare ok err q = touched-cells old mods p v bare ok q
touched-either (Err x) old mods p v bare ok err q = ap (λ (m : Contents). cell_of m q) err

-- nothing was looked up
pub touched-looks : {A E : Type 0} (r : Result A E) (old mods : Contents) (p : Place) (c : Cell) → OnOk r (Changes old mods p c) → OnErr r (mods ≡ old)
    → (mods.looked ≡ old.looked) × (mods.differed ≡ old.differed) × (mods.marked ≡ old.marked)
touched-looks (Ok x) old mods p c ok err = (ok.looked, ok.differed, ok.marked)
touched-looks (Err x) old mods p c ok err = (ap (λ (m : Contents). m.looked) err, ap (λ (m : Contents). m.differed) err, ap (λ (m : Contents). m.marked) err)

-- what two calls after one another look at
pub looks-then : (a b c : Tables) → LooksAtNothing a b → LooksAtNothing b c → LooksAtNothing a c
looks-then a b c h k = record { looked = k.looked ∙ h.looked; differed = k.differed ∙ h.differed; queue = k.queue ∙ h.queue }

-- tables whose cells are as they were
pub kept-cells : (old : Tables) → Kept old → (mods : Contents) → ((p : Place) → cell_of mods p ≡ cell_of old.mods p) → Mods_follow (stamps_in old.trace.nodes) mods
    → Kept (tables old.trace mods old.stale old.memo)
kept-cells old k mods cells follows = record {
  step = record {
    whole = k.step.whole;
    closed = k.step.closed;
    tabled = record {
      writes = λ p. ap (λ (c : Cell). c.writes) (cells p) ∙ k.step.tabled.writes p;
      reads = λ p. ap (λ (c : Cell). c.reads) (cells p) ∙ k.step.tabled.reads p;
    };
    keyed = k.step.keyed;
    queued = k.step.queued;
    mods = follows;
    memo = k.step.memo;
    stale = k.step.stale;
  };
  chained = subst (λ s. Chained (queue_of old.stale.stamps) s old.trace.nodes) (sym base) k.chained;
}
  where
    base : base_in mods ≡ base_in old.mods
    base = fun_ext (λ p. ap (λ (c : Cell). c.base) (cells p))

module _ (structs : List StructInfo) (input : ℕ) (shape : Shape) where
  abbrev at : ℕ → Place
  at field = record { block = Input input; field = field }

  -- how far the places are touched
  pub record Touching (old t : Tables) (n : ℕ) : Type 0 where
    pub trace : t.trace ≡ old.trace
    pub cells : (p : Place) → cell_of t.mods p ≡ cell_of old.mods p
    pub touched : (field : ℕ) → field < n → is_cell (field_kind structs shape field) ≡ true → HasCell t.mods (record { block = Input input; field = field })
    pub looks : LooksAtNothing old t
    pub marks : t.mods.marked ≡ old.mods.marked
    pub kept : Kept t

  pub touching-plain : (old t : Tables) (n : ℕ) → Touching old t n → (kind : FieldKind) → Some kind ≡ field_kind structs shape n → is_cell (Some kind) ≡ false → Touching old t (n + 1)
  touching-plain old t n s kind is not_cell = record { trace = s.trace; cells = s.cells; touched = touched; looks = s.looks; marks = s.marks; kept = s.kept }
    where
      plain : is_cell (field_kind structs shape n) ≡ false
      plain = rw (← is) not_cell

      touched : (field : ℕ) → field < n + 1 → is_cell (field_kind structs shape field) ≡ true → HasCell t.mods (record { block = Input input; field = field })
      touched field l c = elim (eqb_tells field n) [
        | inl q ↦ absurd (let no : is_cell (field_kind structs shape field) ≡ false = rw q.1 plain in let clash : true ≡ false = sym c ∙ no in cc)
        | inr q ↦ s.touched field (omega (arith, l, q.1)) c
      ]

  pub touching-more : (old t t' : Tables) (n : ℕ) → Touching old t n → t'.trace ≡ t.trace → ((p : Place) → cell_of t'.mods p ≡ cell_of t.mods p)
      → HasCell t'.mods (record { block = Input input; field = n })
      → ((p : Place) → HasCell t.mods p → HasCell t'.mods p) → LooksAtNothing t t' → t'.mods.marked ≡ t.mods.marked → Kept t' → Touching old t' (n + 1)
  touching-more old t t' n s trace cells here others looks marks kept = record {
    looks = looks-then old t t' s.looks looks;
    marks = marks ∙ s.marks;
    trace = trace ∙ s.trace;
    cells = λ p. cells p ∙ s.cells p;
    touched = λ field l c. elim (eqb_tells field n) [
      | inl q ↦ subst (λ g. HasCell t'.mods (record { block = Input input; field = g })) (sym q.1) here
      | inr q ↦ others (record { block = Input input; field = field }) (s.touched field (omega (arith, l, q.1)) c)
    ];
    kept = kept;
  }

-- ---- a place that is not read gets its base

none-in : (s : ℕ) (xs : List ℕ) → xs ≡ [] → is_in s xs ≡ true → ⊥
none-in s xs e i = absurd (let no : false ≡ true = rw e at i in cc)

pub unread-kept : (old : Tables) → Kept old → (p : Place) (v : Word) (mods : Contents) → Changes old.mods mods p (with_base v (cell_of old.mods p)) → (cell_of old.mods p).reads ≡ []
    → Mods_follow (stamps_in old.trace.nodes) mods → Kept (tables old.trace mods old.stale old.memo)
unread-kept old k p v mods change unread follows = record {
  step = record {
    whole = k.step.whole;
    closed = k.step.closed;
    tabled = edit-tabled old k p v mods change;
    keyed = k.step.keyed;
    queued = k.step.queued;
    mods = follows;
    memo = k.step.memo;
    stale = k.step.stale;
  };
  chained = go old.trace.nodes refl;
}
  where
    -- no read is affected
    awake : (root : ℕ) → IsAwake (stamps_in old.trace.nodes) (cell_of mods p) root old.stale.stamps
    awake root r sees earliest = absurd (none-in r (cell_of mods p).reads (edit-reads old k p v mods change p ∙ unread) sees.there)

    go : (nodes : List Entry) → old.trace.nodes ≡ nodes → Chained (queue_of old.stale.stamps) (base_in mods) old.trace.nodes
    go [] e = rw e tt
    go (x ∷ xs) e =
        let first : head_of (stamps_in old.trace.nodes) ≡ Some x.stamp = rw e refl in
        (edit-kept old k p v mods change x.stamp first (k.step.whole.first_root x.stamp first) old.stale (λ t i. i) (λ t a b. absurd (let no : true ≡ false = sym b ∙ a in cc))
        (awake x.stamp) follows k.step.stale).chained

-- how far the bases are set
pub record Placing (structs : List StructInfo) (input : ℕ) (shape : Shape) (words : List Word) (old t : Tables) (n : ℕ) : Type 0 where
  pub setting : Setting structs (Input input) shape (field-word structs shape words) old t n
  pub touched : IsTouched structs input shape t.mods
  pub unread : (field : ℕ) → (cell_of t.mods (record { block = Input input; field = field })).reads ≡ []
  pub queue : t.stale.stamps ≡ old.stale.stamps

module _ (structs : List StructInfo) (input : ℕ) (shape : Shape) (words : List Word) where
  pub placed-looks : (old t : Tables) (n : ℕ) → Placing structs input shape words old t n → LooksAtNothing old t
  placed-looks old t n s = record { looked = s.setting.looked; differed = s.setting.differed; queue = s.queue }

  pub placing-plain : (old t : Tables) (n : ℕ) → Placing structs input shape words old t n → (kind : FieldKind) → Some kind ≡ field_kind structs shape n → is_cell (Some kind) ≡ false
      → Placing structs input shape words old t (n + 1)
  placing-plain old t n s kind is not_cell =
      record { setting = setting-plain structs (Input input) shape (field-word structs shape words) old t n s.setting kind is not_cell; touched = s.touched; unread = s.unread; queue = s.queue }

  pub placing-more : (old t t' : Tables) (n : ℕ) (value : Word) → Kept old → Placing structs input shape words old t n → (kind : FieldKind) → Some kind ≡ field_kind structs shape n
      → is_cell (Some kind) ≡ true
      → value ≡ unwrap_or (slice_get words n) (default_of_field kind)
      → t'.trace ≡ t.trace → t'.memo ≡ t.memo → t'.mods.looked ≡ t.mods.looked → t'.mods.differed ≡ t.mods.differed → t'.mods.marked ≡ t.mods.marked → t'.stale ≡ t.stale
      → ((p : Place) → base_in t'.mods p ≡ stored (base_in t.mods) (record { block = Input input; field = n }) value p)
      → ((p : Place) → HasCell t.mods p → HasCell t'.mods p) → Kept t' → Placing structs input shape words old t' (n + 1)
  placing-more old t t' n value ko s kind is cell is_value trace memo looked differed marks queue base others kept = record {
    setting = setting-more structs (Input input) shape (field-word structs shape words) old t t' n value ko s.setting kind is cell
        (set-word structs shape words n kind value is is_value) trace memo looked differed marks base
        (λ r a b. absurd (let no : true ≡ false = sym a ∙ (ap (λ (q : Waiting). is_in r q.stamps) queue ∙ b) in cc)) kept;
    touched = λ field c. others (record { block = Input input; field = field }) (s.touched field c);
    unread = λ field. reads-same t t' s.setting.kept kept trace (record { block = Input input; field = field }) ∙ s.unread field;
    queue = ap (λ (q : Waiting). q.stamps) queue ∙ s.queue;
  }
