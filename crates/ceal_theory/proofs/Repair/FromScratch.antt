-- A run from scratch that ends leaves a trace: the first one.
use Rattle.std.proofs.Common.{◌≡◌, ℕ, pos, zero, suc, ◌+◌, ◌≤◌, ◌<◌, ◌==◌, ◌&&◌, Bool, true, false, if◌then◌else◌}
use Rattle.std.proofs.Common.{Option, Some, None, List, [], ◌∷◌, length, slice_get, slice_set, is_some, refl, sym, ap}
use Rattle.std.proofs.Common.{◌∙◌, subst, arith}
use Rattle.std.specs.Option.{option_map}
use Rattle.ceal_base.specs.Access.{of_struct, is_struct, place_in, content_of}
use Rattle.ceal_base.specs.Block.{Block, Blocks, block_at, written_at}
use Rattle.ceal_base.specs.Finished.{Finished, with_block}
use Rattle.ceal_base.specs.Fitting.{kind_in}
use Rattle.ceal_base.specs.Operators.{same_block}
use Rattle.ceal_base.specs.Shapes.{kinds_of_shape}
use Rattle.ceal_base.specs.Trace.{Trace, Nothing, Stepped, Allocated, Wrote, WasRead}
use Rattle.ceal_base.specs.declared.forest.Key.{Key}
use Rattle.ceal_base.specs.declared.forest.UnitId.{UnitId}
use Rattle.ceal_base.specs.declared.kind.FieldKind.{FieldKind}
use Rattle.ceal_base.specs.declared.kind.FieldKind.TheVariants.{Plain as PlainField, CellInt, CellPtr}
use Rattle.ceal_base.specs.declared.kind.Shape.TheVariants.{Struct}
use Rattle.ceal_base.specs.declared.typed.StructInfo.{StructInfo}
use Rattle.ceal_base.specs.declared.word.BlockId.{BlockId}
use Rattle.ceal_base.specs.declared.word.BlockId.TheVariants.{Input, Core}
use Rattle.ceal_base.specs.declared.word.Place.{Place}
use Rattle.ceal_base.specs.declared.word.Word.{Word}
use Rattle.ceal_base.specs.declared.word.Word.TheVariants.{Num, Block as BlockWord, At, Null}
use Rattle.ceal_code.proofs.Words.Closed.{OfStack, OfKey, OfAct, Equal, next-of, next-equal, set-of, words_after_read-of, entered-of, chosen-of}
use Rattle.ceal_code.proofs.Words.ClosedInit.{made-equal}
use Rattle.ceal_code.proofs.Replay.DeterminedRun.{over-on, one-step, no-step}
use Rattle.ceal_code.proofs.TypedCode.FittingWords.{begun-placed, input-full, args-placed}
use Rattle.ceal_code.proofs.Replay.MemoryChanges.{contents, CellThere, content-read, altered, got, get-set_other}
use Rattle.ceal_code.proofs.Replay.MemoryChanges.{get-push_other, length-set, written-here, written-other}
use Rattle.ceal_code.proofs.Replay.MemoryChanges.{written-count, written-contents, grown-here, grown-count}
use Rattle.ceal_code.proofs.Replay.MemoryChanges.{grown-contents, made-full}
use Rattle.ceal_code.proofs.Words.ValidPicks.{Starts, picks-valid}
use Rattle.ceal_code.proofs.TypedCode.TypedBlocks.{rows-valid}
use Rattle.ceal_code.specs.Valid.{valid}
use Rattle.ceal_code.proofs.Words.Placed.{Placed, WellPlaced, Keeps, placed-keeps, stack-keeps, placed-closed, content-placed, written-keeps, written-well, grown-keeps, grown-well, pointer-placed}
use Rattle.ceal_code.proofs.Replay.ReplayedCall.{empty-run}
use Rattle.ceal_code.proofs.Words.SameIsEqual.{block-same, some-same, none-some, struct-shape}
use Rattle.ceal_code.specs.Fitting.{Fits}
use Rattle.ceal_code.specs.Fresh.{ran, only_over, run, fresh}
use Rattle.ceal_code.specs.Init.{made, pointer}
use Rattle.ceal_code.specs.Over.{on, act_on}
use Rattle.ceal_code.specs.Program.{Code}
use Rattle.ceal_code.specs.Replay.{learnt, plain_block, plain_words, input_plain, content_in, input_block, bases}
use Rattle.ceal_code.specs.Step.{Stack, Empty, Run, Act, Over, Quiet, Makes, Writes, Reads, variable_default, chosen, started, entered, unit_at, entry_of, words_after_read, next}
use Rattle.ceal_code.specs.Value.{set, field_kind, is_cell, field_in, plain_word, field_value, address_value}
use Rattle.ceal_theory.proofs.Repair.Honesty.{anew-rises}
use Rattle.ceal_theory.proofs.Store.EqualContents.{stored-equal, cleared-equal}
use Rattle.ceal_theory.specs.Adjust.{Firsts}
use Rattle.ceal_theory.specs.Repair.{own, State, begins, puts, works, grows, resumed, Reruns}
use Rattle.ceal_theory.specs.Take.{take_alloc, take_read}

pub take-none : (key : Key) → take_alloc key Nothing ≡ None
unfolding take_alloc
take-none key = refl

pub read-none : (p : Place) (u : UnitId) (v : ℕ) (args : List Word) → take_read p u v args Nothing ≡ None
unfolding take_read
read-none p u v args = refl

-- one word for each field
abbrev Full : List StructInfo → Blocks → Type 0
Full structs m = (b : BlockId) (block : Block) → block_at m b ≡ Some block → length block.words ≡ length (kinds_of_shape structs block.shape)

cell-within : (kinds : List FieldKind) (n : ℕ) → is_cell (slice_get kinds n) ≡ true → n < length kinds
cell-within [] n h = absurd (grind (arith, h))
cell-within (kind ∷ kinds) zero h = omega arith
cell-within (kind ∷ kinds) (suc n) h = omega (arith, cell-within kinds n h)

module _ (structs : List StructInfo) (m : Blocks) (full : Full structs m) where
  cell-in : (p : Place) (o : Option Block) → block_at m p.block ≡ o → is_cell (kind_in structs o p.field) ≡ true → CellThere structs m p
  cell-in p None e c = absurd (grind (arith, c))
  cell-in p (Some block) e c =
      let w = got block.words p.field (omega (arith, cell-within (kinds_of_shape structs block.shape) p.field c, full p.block block e)) in
      record { block = block; there = e; cell = c; word = w.0; holds = w.1 }

  -- a modifiable that is named is there
  cell-there : (p : Place) → Placed structs m (At p) → CellThere structs m p
  cell-there p c = cell-in p (block_at m p.block) refl c

-- a plain field is another than a modifiable
plain-other : (kinds : List FieldKind) (ws : List Word) (n f : ℕ) (w : Word) → is_cell (slice_get kinds n) ≡ true
    → plain_word (slice_get kinds f) (slice_set ws n w) f ≡ plain_word (slice_get kinds f) ws f
plain-other kinds ws n f w c = go (slice_get kinds f) refl
  where
    go : (k : Option FieldKind) → slice_get kinds f ≡ k → plain_word k (slice_set ws n w) f ≡ plain_word k ws f
    go None e = refl
    go (Some CellInt) e = refl
    go (Some (CellPtr s)) e = refl
    go (Some (PlainField kind)) e = apart (f == n) refl
      where
        apart : (t : Bool) → (f == n) ≡ t → plain_word (Some (PlainField kind)) (slice_set ws n w) f ≡ plain_word (Some (PlainField kind)) ws f
        apart true t = let i : n ≡ f = grind (arith, t) in let d : is_cell (Some (PlainField kind)) ≡ true = rw (i, e) at c in absurd (grind (arith, d))
        apart false t = rw (get-set_other ws n f w t)

module _ (code : Code) (ok : valid code ≡ true) where
  -- the state of a first trace stands for the memory of the run
  record Matches (s : State) (m : Blocks) : Type 0 where
    pub plain : Equal code.structs (block_at m) s.plain (Placed code.structs m)
    pub store : (p : Place) → s.store p ≡ contents code m p
    pub number : s.number ≡ length m.made
    pub well : WellPlaced code.structs m
    pub full : Full code.structs m

  matches-works : (s : State) (m : Blocks) → Matches s m → Matches (works s) m
  matches-works s m h = record { plain = h.plain; store = h.store; number = h.number; well = h.well; full = h.full }

  same-step : (s : State) (m : Blocks) → Matches s m → (st : Stack) → OfStack (Placed code.structs m) st → next code s.plain st ≡ next code (block_at m) st
  same-step s m h st k = sym (next-equal (Starts code.structs) (Placed code.structs m) code (block_at m)
      (placed-closed code.structs m h.well (rows-valid code ok)) (picks-valid code ok) s.plain h.plain st k)

  same-made : (s : State) (m : Blocks) → Matches s m → (key : Key) → OfKey (Placed code.structs m) key → made code s.plain key ≡ made code (block_at m) key
  same-made s m h key k = sym (made-equal (Starts code.structs) (Placed code.structs m) code (block_at m)
      (placed-closed code.structs m h.well (rows-valid code ok)) (picks-valid code ok) s.plain h.plain key k)

  places : (s : State) (m : Blocks) → Matches s m → (st : Stack) → OfStack (Placed code.structs m) st → (a : Act) → next code (block_at m) st ≡ a → OfAct (Placed code.structs m) a
  places s m h st k a e = subst (OfAct (Placed code.structs m)) e
      (next-of (Starts code.structs) (Placed code.structs m) code (block_at m)
      (placed-closed code.structs m h.well (rows-valid code ok)) (picks-valid code ok) st k)

  -- after a write
  module _ (s : State) (m : Blocks) (h : Matches s m) (p : Place) (cell : CellThere code.structs m p) (w : Word) where
    in-if : (t : Bool) (z f : ℕ) → is_struct z cell.block.shape ≡ t
        → field_in (field_kind code.structs (Struct z) f)
        (if t then Some (altered cell.block p.field w) else None) f ≡ field_in
        (field_kind code.structs (Struct z) f) (if t then Some cell.block else None) f
    in-if false z f e = refl
    in-if true z f e =
        let c : is_cell (slice_get (kinds_of_shape code.structs (Struct z)) p.field) ≡ true = subst
        (λ shape. is_cell (slice_get (kinds_of_shape code.structs shape) p.field) ≡ true)
        (struct-shape z cell.block.shape e) cell.cell in
        plain-other (kinds_of_shape code.structs (Struct z)) cell.block.words p.field f w c

    some-if : (t : Bool) → is_some (if t then Some (altered cell.block p.field w) else None) ≡ is_some (if t then Some cell.block else None)
    some-if true = refl
    some-if false = refl

    field-if : (t : Bool) (b : BlockId) → same_block b p.block ≡ t → (z f : ℕ)
        → field_in (field_kind code.structs (Struct z) f) (of_struct z (block_at (written_at m p.block p.field w) b)) f ≡ field_in (field_kind code.structs (Struct z) f) (of_struct z (block_at m b)) f
    field-if true b e z f = rw (block-same b p.block e, written-here m p.block p.field w cell.block cell.there, cell.there) (in-if (is_struct z cell.block.shape) z f refl)
    field-if false b e z f = rw (written-other m p.block b p.field w cell.block cell.there e)

    there-if : (t : Bool) (b : BlockId) → same_block b p.block ≡ t → (z : ℕ)
        → is_some (of_struct z (block_at (written_at m p.block p.field w) b)) ≡ is_some (of_struct z (block_at m b))
    there-if true b e z = rw (block-same b p.block e, written-here m p.block p.field w cell.block cell.there, cell.there) (some-if (is_struct z cell.block.shape))
    there-if false b e z = rw (written-other m p.block b p.field w cell.block cell.there e)

    full-if : (t : Bool) (b : BlockId) → same_block b p.block ≡ t → (block : Block) → block_at
        (written_at m p.block p.field w) b ≡ Some block → length block.words ≡ length
        (kinds_of_shape code.structs block.shape)
    full-if true b e block g =
        let g' : block_at (written_at m p.block p.field w) p.block ≡ Some block = rw (block-same b p.block e) at g in
        let is : altered cell.block p.field w ≡ block = some-same (altered cell.block p.field w) block (sym (written-here m p.block p.field w cell.block cell.there) ∙ g') in
        subst (λ block. length block.words ≡ length (kinds_of_shape code.structs block.shape)) is (length-set cell.block.words p.field w ∙ h.full p.block cell.block cell.there)
    full-if false b e block g = h.full b block (sym (written-other m p.block b p.field w cell.block cell.there e) ∙ g)

    matches-puts : Placed code.structs m w → Matches (puts s p w) (written_at m p.block p.field w)
    matches-puts c = record {
      plain = record {
        field = λ b z f i. field-if (same_block b p.block) b refl z f ∙ h.plain.field b z f tt;
        address = λ b z f i. ap (λ t. if is_cell (field_kind code.structs (Struct z) f) && t then place_in
            (BlockWord b) f else Null) (there-if (same_block b p.block) b refl z) ∙ h.plain.address b z f tt;
      };
      store = λ q. stored-equal s.store (contents code m) p w q (h.store q) ∙ sym (written-contents code m p cell w q);
      number = h.number ∙ sym (written-count m p.block p.field w cell.block cell.there);
      well = written-well code.structs m h.well p.block p.field w cell.block cell.there c;
      full = λ b block g. full-if (same_block b p.block) b refl block g;
    }

  -- after a new block
  module _ (s : State) (m : Blocks) (h : Matches s m) (key : Key) (placed : OfKey (Placed code.structs m) key) where
    new-at : (t : Bool) (b : BlockId) → same_block b (Core (length m.made)) ≡ t → (F : Option Block → Option Block → Type 0) → ((o : Option Block) → F o o) → F (block_at m b) (s.plain b)
        → F (block_at (with_block m (made code (block_at m) key)) b) (if t then Some (made code s.plain key) else s.plain b)
    new-at true b e F same older =
        rw (block-same b (Core (length m.made)) e, grown-here m (made code (block_at m) key), same-made s m h key placed) (same (Some (made code (block_at m) key)))
    new-at false (Input i) e F same older = older
    new-at false (Core c) e F same older = rw (get-push_other m.made (made code (block_at m) key) c e) older

    new-full : (t : Bool) (b : BlockId) → same_block b (Core (length m.made)) ≡ t → (block : Block) → block_at (with_block m (made code (block_at m) key)) b ≡ Some block
        → length block.words ≡ length (kinds_of_shape code.structs block.shape)
    new-full true b e block g =
        let g' : block_at (with_block m (made code (block_at m) key)) (Core (length m.made)) ≡ Some block = rw (block-same b (Core (length m.made)) e) at g in
        let is : made code (block_at m) key ≡ block = some-same (made code (block_at m) key) block (sym (grown-here m (made code (block_at m) key)) ∙ g') in
        subst (λ block. length block.words ≡ length (kinds_of_shape code.structs block.shape)) is (made-full code (block_at m) key)
    new-full false (Input i) e block g = h.full (Input i) block g
    new-full false (Core c) e block g = h.full (Core c) block (sym (get-push_other m.made (made code (block_at m) key) c e) ∙ g)

    plain-field : (b : BlockId) (z f : ℕ) → field_value code.structs (block_at (with_block m (made code (block_at m) key))) (BlockWord b) z f
        ≡ field_value code.structs (learnt s.plain (Core (length m.made)) (made code s.plain key)) (BlockWord b) z f
    unfolding learnt
    plain-field b z f =
        new-at (same_block b (Core (length m.made))) b refl
        (λ o q. field_in (field_kind code.structs (Struct z) f) (of_struct z o) f ≡ field_in
        (field_kind code.structs (Struct z) f) (of_struct z q) f) (λ o. refl)
        (h.plain.field b z f tt)

    plain-address : (b : BlockId) (z f : ℕ) → address_value code.structs (block_at (with_block m (made code (block_at m) key))) (BlockWord b) z f
        ≡ address_value code.structs (learnt s.plain (Core (length m.made)) (made code s.plain key)) (BlockWord b) z f
    unfolding learnt
    plain-address b z f =
        new-at (same_block b (Core (length m.made))) b refl
        (λ o q. (if is_cell (field_kind code.structs (Struct z) f) && is_some (of_struct z o) then place_in
        (BlockWord b) f else Null) ≡ (if is_cell (field_kind code.structs (Struct z) f) && is_some
        (of_struct z q) then place_in (BlockWord b) f else Null))
        (λ o. refl) (h.plain.address b z f tt)

    matches-grows : Matches (grows code own s key) (with_block m (made code (block_at m) key))
    matches-grows = record {
      plain = record {
        field = λ b z f i. rw h.number (plain-field b z f);
        address = λ b z f i. rw h.number (plain-address b z f);
      };
      store = λ q. rw h.number (cleared-equal code s.store (contents code m) (Core (length m.made)) key q (h.store q) ∙ sym (grown-contents code (block_at m) m key q));
      number = ap (λ n. n + 1) h.number ∙ sym (grown-count m (made code (block_at m) key));
      well = grown-well code m h.well key ok placed;
      full = λ b block g. new-full (same_block b (Core (length m.made))) b refl block g;
    }

  -- a run of a stack over another one is a first trace of the one, and then a run of the other
  record FirstPart (n steps : ℕ) (s : State) (m : Blocks) (st below : Stack) (r : Finished) : Type 0 where
    pub state : State
    pub items : Trace
    pub anew : Reruns code own s st Nothing state items Nothing
    pub memory : Blocks
    pub matches : Matches state memory
    pub keeps : Keeps code.structs m memory
    pub fuel : ℕ
    pub taken : ℕ
    pub less : state.work + fuel ≡ s.work + n
    pub count : taken + s.work ≡ steps + state.work
    pub later : run code fuel taken memory below ≡ Some r

  abbrev Running : ℕ → Type 0
  Running n = (steps : ℕ) (s : State) (m : Blocks) → Matches s m → (st below : Stack) → OfStack
      (Placed code.structs m) st → (r : Finished) → run code n steps m (on st below) ≡ Some r
      → FirstPart n steps s m st below r

  step-inv : (n steps : ℕ) (m : Blocks) (st below : Stack) (a : Act) (r : Finished) → next code (block_at m) st ≡ a → only_over steps m (act_on a below (next code (block_at m) below)) ≡ None
      → run code n steps m (on st below) ≡ Some r → (k : ℕ) × (n ≡ suc k) × (ran code (run code k (steps + 1)) steps m (act_on a below (next code (block_at m) below)) ≡ Some r)
  step-inv zero steps m st below a r e none h = none-some r (sym none ∙ (sym (no-step code steps m st below a e) ∙ h))
  step-inv (suc k) steps m st below a r e none h = (k, refl, sym (one-step code k steps m st below a e) ∙ h)

  runs-act : (b : ℕ) → ((n : ℕ) → n < b → Running n) → (n : ℕ) → n ≤ b → (steps : ℕ) (s : State) (m : Blocks) → Matches s m → (st below : Stack) → OfStack (Placed code.structs m) st → (r : Finished)
      → run code n steps m (on st below) ≡ Some r → (a : Act) → next code (block_at m) st ≡ a → FirstPart n steps s m st below r
  runs-act b ih n k steps s m h st below c r g Over e = record {
    state = s;
    items = Nothing;
    anew = Reruns.over (same-step s m h st c ∙ e);
    memory = m;
    matches = h;
    keeps = λ p i. i;
    fuel = n;
    taken = steps;
    less = refl;
    count = refl;
    later = sym (over-on code n steps m st below e) ∙ g;
  }
  runs-act b ih n k steps s m h st below c r g (Quiet after) e =
      let i = step-inv n steps m st below (Quiet after) r e refl g in
      let q = ih i.0 (omega (arith, k, i.1)) (steps + 1) (works s) m (matches-works s m h) after below (places s m h st c (Quiet after) e) r i.2 in
      record {
        state = q.state;
        items = Stepped q.items;
        anew = Reruns.quiet (same-step s m h st c ∙ e) q.anew;
        memory = q.memory;
        matches = q.matches;
        keeps = q.keeps;
        fuel = q.fuel;
        taken = q.taken;
        less = omega (arith, q.less, i.1);
        count = omega (arith, q.count);
        later = q.later;
      }
  runs-act b ih n k steps s m h st below c r g (Makes key v u i env under) e =
      let j = step-inv n steps m st below (Makes key v u i env under) r e refl g in
      let p = places s m h st c (Makes key v u i env under) e in
      let m' : Blocks = with_block m (made code (block_at m) key) in
      let keeps = grown-keeps code m h.well key in
      let g' : run code j.0 (steps + 1) m' (on (Run u i (set env v (pointer key (Core s.number))) under) below) ≡ Some r =
      subst (λ n. run code j.0 (steps + 1) (with_block m (made code (block_at m) key)) (on (Run u i (set env v (pointer key (Core n))) under) below) ≡ Some r) (sym h.number) j.2 in
      let word : Placed code.structs m' (pointer key (Core s.number)) =
      subst (λ n. Placed code.structs (with_block m (made code (block_at m) key)) (pointer key (Core n))) (sym h.number) (pointer-placed code m h.well key key refl) in
      let q = ih j.0 (omega (arith, k, j.1)) (steps + 1) (grows code own (works s) key) m'
      (matches-grows (works s) m (matches-works s m h) key p.0)
      (Run u i (set env v (pointer key (Core s.number))) under) below (
        set-of (Placed code.structs m') (λ n. tt) tt env v (pointer key (Core s.number))
            (λ y. placed-keeps code.structs m m' keeps (env y) (p.1 y)) word,
        stack-keeps code.structs m m' keeps under p.2,
      ) r g' in
      record {
        state = q.state;
        items = Stepped (Allocated (Core s.number) key q.items);
        anew = Reruns.makes (same-step s m h st c ∙ e) (take-none key) q.anew;
        memory = q.memory;
        matches = q.matches;
        keeps = λ z i. q.keeps z (keeps z i);
        fuel = q.fuel;
        taken = q.taken;
        less = omega (arith, q.less, j.1);
        count = omega (arith, q.count);
        later = q.later;
      }
  runs-act b ih n k steps s m h st below c r g (Writes p value after) e =
      let i = step-inv n steps m st below (Writes p value after) r e refl g in
      let a = places s m h st c (Writes p value after) e in
      let cell = cell-there code.structs m h.full p a.0 in
      let keeps = written-keeps code.structs m h.well p.block p.field value cell.block cell.there in
      let q = ih i.0 (omega (arith, k, i.1)) (steps + 1) (puts (works s) p value) (written_at m p.block p.field value) (matches-puts (works s) m (matches-works s m h) p cell value a.1) after below
      (stack-keeps code.structs m (written_at m p.block p.field value) keeps after a.2) r i.2 in
      record {
        state = q.state;
        items = Stepped (Wrote p value q.items);
        anew = Reruns.writes (same-step s m h st c ∙ e) q.anew;
        memory = q.memory;
        matches = q.matches;
        keeps = λ z i. q.keeps z (keeps z i);
        fuel = q.fuel;
        taken = q.taken;
        less = omega (arith, q.less, i.1);
        count = omega (arith, q.count);
        later = q.later;
      }
  runs-act b ih n k steps s m h st below c r g (Reads p u v args under) e =
      let i = step-inv n steps m st below (Reads p u v args under) r e refl g in
      let a = places s m h st c (Reads p u v args under) e in
      let cell = cell-there code.structs m h.full p a.0 in
      let value : content_of m (At p) (variable_default code u.0 v) ≡ s.store p = content-read code m p (variable_default code u.0 v) cell ∙ sym (h.store p) in
      let g' : run code i.0 (steps + 1) m (on (resumed code u v args (s.store p)) (on under below)) ≡ Some r =
      subst (λ w. run code i.0 (steps + 1) m (entered code u.0 (words_after_read code u.0 v args w) (on under below)) ≡ Some r) value i.2 in
      let word : Placed code.structs m (s.store p) = rw (h.store p) (content-placed code m p h.well cell) in
      let q1 = ih i.0 (omega (arith, k, i.1)) (steps + 1) (works s) m (matches-works s m h) (resumed code u v args (s.store p)) (on under below)
      (words_after_read-of (Placed code.structs m) (λ n. tt) tt code u.0 v args (s.store p) Empty a.1 word tt) r g' in
      let q2 = ih q1.fuel (omega (
        arith,
        k,
        i.1,
        q1.less,
        anew-rises q1.anew,
      )) q1.taken q1.state q1.memory q1.matches under below
      (stack-keeps code.structs m q1.memory q1.keeps under a.2) r q1.later in
      record {
        state = q2.state;
        items = Stepped (WasRead p (s.store p) u v args q1.items q2.items);
        anew = Reruns.reads (same-step s m h st c ∙ e) (read-none p u v args) q1.anew q2.anew;
        memory = q2.memory;
        matches = q2.matches;
        keeps = λ z i. q2.keeps z (q1.keeps z i);
        fuel = q2.fuel;
        taken = q2.taken;
        less = omega (arith, q1.less, q2.less, i.1);
        count = omega (arith, q1.count, q2.count);
        later = q2.later;
      }

  runs-anew : (b n : ℕ) → n < b → Running n
  runs-anew zero n k = absurd (omega (arith, k))
  runs-anew (suc b) n k = λ steps s m h st below c r g. runs-act b (runs-anew b) n (omega (arith, k)) steps s m h st below c r g (next code (block_at m) st) refl

word-later : (k : Option FieldKind) (v w : Word) (ws zs : List Word) (f : ℕ) → plain_word k ws f ≡ plain_word k zs f → plain_word k (v ∷ ws) (suc f) ≡ plain_word k (w ∷ zs) (suc f)
word-later None v w ws zs f e = refl
word-later (Some CellInt) v w ws zs f e = refl
word-later (Some (CellPtr s)) v w ws zs f e = refl
word-later (Some (PlainField kind)) v w ws zs f e = e

-- a plain field is the same in an input's plain words
plain-same : (kinds : List FieldKind) (ws : List Word) (f : ℕ) → plain_word (slice_get kinds f) ws f ≡ plain_word (slice_get kinds f) (plain_words kinds ws) f
plain-same [] ws f = refl
plain-same (kind ∷ kinds) [] f = refl
plain-same (PlainField k ∷ kinds) (w ∷ ws) zero = refl
plain-same (CellInt ∷ kinds) (w ∷ ws) zero = refl
plain-same (CellPtr s ∷ kinds) (w ∷ ws) zero = refl
plain-same (PlainField k ∷ kinds) (w ∷ ws) (suc f) = word-later (slice_get kinds f) w w ws (plain_words kinds ws) f (plain-same kinds ws f)
plain-same (CellInt ∷ kinds) (w ∷ ws) (suc f) = word-later (slice_get kinds f) w (Num (pos 0)) ws (plain_words kinds ws) f (plain-same kinds ws f)
plain-same (CellPtr s ∷ kinds) (w ∷ ws) (suc f) = word-later (slice_get kinds f) w Null ws (plain_words kinds ws) f (plain-same kinds ws f)

module _ (code : Code) (inputs : List Block) (f : ℕ) (args : List Word) (fits : Fits code inputs f args) where
  begun-full : Full code.structs (record { inputs = inputs; made = [] })
  begun-full (Input i) block e = input-full code.structs inputs fits.blocks i block e
  begun-full (Core c) block e = none-some block e

  begun-field_if : (z g : ℕ) (block : Block) (t : Bool) → is_struct z block.shape ≡ t
      → field_in (field_kind code.structs (Struct z) g) (if t then Some block else None) g ≡ field_in
      (field_kind code.structs (Struct z) g) (if t then Some (plain_block code.structs block) else None) g
  begun-field_if z g block false e = refl
  begun-field_if z g block true e =
      subst (λ shape. plain_word (slice_get (kinds_of_shape code.structs (Struct z)) g) block.words g ≡ plain_word
      (slice_get (kinds_of_shape code.structs (Struct z)) g)
      (plain_words (kinds_of_shape code.structs shape) block.words) g)
      (sym (struct-shape z block.shape e)) (plain-same (kinds_of_shape code.structs (Struct z)) block.words g)

  begun-field : (z g : ℕ) (o : Option Block) → field_in (field_kind code.structs (Struct z) g)
      (of_struct z o) g ≡ field_in (field_kind code.structs (Struct z) g)
      (of_struct z (option_map (plain_block code.structs) o)) g
  begun-field z g None = refl
  begun-field z g (Some block) = begun-field_if z g block (is_struct z block.shape) refl

  begun-there_if : (block : Block) (t : Bool) → is_some (if t then Some block else None) ≡ is_some (if t then Some (plain_block code.structs block) else None)
  begun-there_if block true = refl
  begun-there_if block false = refl

  begun-there : (z : ℕ) (o : Option Block) → is_some (of_struct z o) ≡ is_some (of_struct z (option_map (plain_block code.structs) o))
  begun-there z None = refl
  begun-there z (Some block) = begun-there_if block (is_struct z block.shape)

  begun-plain-field : (b : BlockId) (z g : ℕ) → field_value code.structs
      (block_at (record { inputs = inputs; made = [] })) (BlockWord b) z g ≡ field_value code.structs
      (input_plain code inputs) (BlockWord b) z g
  unfolding input_plain
  begun-plain-field (Input i) z g = begun-field z g (slice_get inputs i)
  begun-plain-field (Core c) z g = refl

  begun-plain-address : (b : BlockId) (z g : ℕ) → address_value code.structs
      (block_at (record { inputs = inputs; made = [] })) (BlockWord b) z g ≡ address_value code.structs
      (input_plain code inputs) (BlockWord b) z g
  unfolding input_plain
  begun-plain-address (Input i) z g = ap (λ t. if is_cell (field_kind code.structs (Struct z) g) && t then place_in (BlockWord (Input i)) g else Null) (begun-there z (slice_get inputs i))
  begun-plain-address (Core c) z g = refl

  begun-store : (p : Place) → bases code inputs p ≡ contents code (record { inputs = inputs; made = [] }) p
  unfolding bases contents
  begun-store p = go p.block
    where
      go : (b : BlockId) → content_in code.structs (input_block inputs b) p.field ≡ content_in code.structs (block_at (record { inputs = inputs; made = [] }) b) p.field
      go (Input i) = refl
      go (Core c) = refl

  begun : Matches code fits.is_valid (begins code inputs (input_plain code inputs) 0) (record { inputs = inputs; made = [] })
  begun = record {
    plain = record { field = λ b z g i. begun-plain-field b z g; address = λ b z g i. begun-plain-address b z g };
    store = begun-store;
    number = refl;
    well = begun-placed code.structs inputs fits.blocks;
    full = begun-full;
  }

  -- a run that ends has a first trace, of as many steps
  pub scratch-first : (fuel : ℕ) (r : Finished) → fresh code f args inputs fuel ≡ Some r → (l : Trace) × Firsts code inputs f args l r.steps × r.steps ≤ fuel
  unfolding fresh
  scratch-first fuel r g =
      let m : Blocks = record { inputs = inputs; made = [] } in
      let q = runs-anew code fits.is_valid (suc fuel) fuel (omega arith) 0 (begins code inputs (input_plain code inputs) 0) m begun (started code f args) Empty
      (entered-of (Placed code.structs m) (λ n. tt) tt code (entry_of code f) (chosen (unit_at code (entry_of code f)).params args) Empty
      (chosen-of (Placed code.structs m) (λ n. tt) tt (unit_at code (entry_of code f)).params args (args-placed code inputs f args fits)) tt) r g in
      let is = some-same (record { memory = q.memory; steps = q.taken; blocks = length q.memory.made }) r (sym (empty-run code q.fuel q.taken q.memory) ∙ q.later) in
      let steps : q.taken ≡ r.steps = ap (λ r. r.steps) is in
      (q.items, record { after = q.state; left = Nothing; anew = q.anew; counted = omega (arith, q.count, steps) }, omega (arith, q.less, q.count, steps))
