-- A slice of a repair whose core blocks are renamed one to one is the slice renamed.
use Rattle.std.proofs.Common.{◌≡◌, ℕ, suc, pos, ◌≤◌, arith, Bool, true, false, if◌then◌else◌, Option, Some, None, List, slice_get, refl, sym, ◌∙◌, subst}
use Rattle.ceal_base.specs.Block.{Block}
use Rattle.ceal_base.specs.Fitting.{inputs_fit}
use Rattle.ceal_base.specs.Shapes.{kinds_of_shape}
use Rattle.ceal_base.specs.Trace.{Trace, Nothing, Stepped, Allocated, Wrote, WasRead}
use Rattle.ceal_base.specs.declared.forest.UnitId.{UnitId}
use Rattle.ceal_base.specs.declared.kind.FieldKind.{FieldKind}
use Rattle.ceal_base.specs.declared.typed.StructInfo.{StructInfo}
use Rattle.ceal_base.specs.declared.word.BlockId.{BlockId}
use Rattle.ceal_base.specs.declared.word.BlockId.TheVariants.{Input, Core}
use Rattle.ceal_base.specs.declared.word.Place.{Place}
use Rattle.ceal_base.specs.declared.word.Word.{Word}
use Rattle.ceal_base.specs.declared.word.Word.TheVariants.{Num}
use Rattle.ceal_code.proofs.Alike.AlikeSteps.{id-wider, place-wider, word-wider, words-wider, key-wider, trace-wider, field_default-self}
use Rattle.ceal_code.proofs.Alike.BlockPairs.{within-trans}
use Rattle.ceal_code.proofs.Replay.ReplayedCall.{bases-self}
use Rattle.ceal_code.proofs.Words.SameIsEqual.{none-some}
use Rattle.ceal_code.specs.Alike.{Pairs, Tied, IdAlike, PlaceAlike, WordAlike, WordsAlike, FieldsAlike, MaybeAlike, PlainAlike, StoreAlike, TraceAlike, Within}
use Rattle.ceal_code.specs.Program.{Code}
use Rattle.ceal_code.specs.Replay.{bases, cell_default, content_in, IsHonest}
use Rattle.ceal_code.specs.Value.{Plain, field_kind, field_default, is_cell}
use Rattle.ceal_theory.proofs.Renaming.FlippedPairs.{tied-back, word-flip, flipped, one-flip, trace-flip}
use Rattle.ceal_theory.proofs.Renaming.RenamedTrace.{honest-renamed}
use Rattle.ceal_theory.proofs.Renaming.RepairSideBySide.{given-too, equal-too, apart-too, twin-clears, twin-puts, Sides, ComesFrom, Twin, RanToo, fix-too, anew-too}
use Rattle.ceal_theory.specs.Repair.{Single, State, clears, puts, resumed}
use Rattle.ceal_theory.proofs.SlicedRepair.SliceFunction.{sliced-sound, sliced-found}
use Rattle.ceal_theory.specs.Slices.{Repair, with_inputs, default_in, starting_in, starting, goes_on, Part, Runs, repair_at, Slices, sliced, AlikeRepairs, IsOldOrNewPair, RenamedSlices}

module _ (code : Code) (sides : Sides) where
  pub record PartToo (ps : Pairs) (k j : ℕ) (s' : State) (new : Trace) (t : State) (old' : Trace) : Type 0 where
    pub state : State
    pub items : Trace
    pub part : Part code sides.right k t old' j state items
    pub pairs : Pairs
    pub wider : Within ps pairs
    pub alike : TraceAlike pairs new items
    pub twin : Twin code sides pairs s' state

  kept-too : (ps : Pairs) (k i j : ℕ) (s1 s' t : State) (p q : Place) (v w : Word) (u : UnitId) (y : ℕ) (args args' : List Word) (i' l' o m : Trace)
      → PlaceAlike ps p q → WordAlike ps v (t.store q) → WordsAlike ps args args' → t.store q ≡ w
      → PartToo ps (suc k) i s1 i' t o
      → ((qs : Pairs) (t1 : State) → Within ps qs → Twin code sides qs s1 t1 → PartToo qs i j s' l' t1 m)
      → PartToo ps (suc k) j s' (WasRead p v u y args i' l') t (WasRead q w u y args' o m)
  kept-too ps k i j s1 s' t p q v w u y args args' i' l' o m kp kv ka e a f = go (f a.pairs a.state a.wider a.twin)
    where
      go : PartToo a.pairs i j s' l' a.state m → PartToo ps (suc k) j s' (WasRead p v u y args i' l') t (WasRead q w u y args' o m)
      go x = record {
        state = x.state;
        items = WasRead q (t.store q) u y args' a.items x.items;
        part = Part.kept e a.part x.part;
        pairs = x.pairs;
        wider = within-trans ps a.pairs x.pairs a.wider x.wider;
        alike = TraceAlike.was_read (place-wider ps x.pairs (within-trans ps a.pairs x.pairs a.wider x.wider) kp) (word-wider ps x.pairs (within-trans ps a.pairs x.pairs a.wider x.wider) kv)
            (words-wider ps x.pairs (within-trans ps a.pairs x.pairs a.wider x.wider) ka) (trace-wider a.pairs x.pairs x.wider a.alike) x.alike;
        twin = x.twin;
      }

  stale-too : (ps : Pairs) (k j : ℕ) (s1 s' t : State) (p q : Place) (v w : Word) (u : UnitId) (y : ℕ) (args args' : List Word) (i' left l' o m : Trace)
      → PlaceAlike ps p q → WordAlike ps v (t.store q) → WordsAlike ps args args' → ¬ (t.store q ≡ w)
      → RanToo code sides ps s1 i' left t (resumed code u y args' (t.store q)) o
      → ((qs : Pairs) (t1 : State) → Within ps qs → Twin code sides qs s1 t1 → PartToo qs k j s' l' t1 m)
      → PartToo ps (suc k) j s' (WasRead p v u y args i' l') t (WasRead q w u y args' o m)
  stale-too ps k j s1 s' t p q v w u y args args' i' left l' o m kp kv ka e a f = go (f a.pairs a.state a.wider a.twin)
    where
      go : PartToo a.pairs k j s' l' a.state m → PartToo ps (suc k) j s' (WasRead p v u y args i' l') t (WasRead q w u y args' o m)
      go x = record {
        state = x.state;
        items = WasRead q (t.store q) u y args' a.items x.items;
        part = Part.stale e a.anew x.part;
        pairs = x.pairs;
        wider = within-trans ps a.pairs x.pairs a.wider x.wider;
        alike = TraceAlike.was_read (place-wider ps x.pairs (within-trans ps a.pairs x.pairs a.wider x.wider) kp) (word-wider ps x.pairs (within-trans ps a.pairs x.pairs a.wider x.wider) kv)
            (words-wider ps x.pairs (within-trans ps a.pairs x.pairs a.wider x.wider) ka) (trace-wider a.pairs x.pairs x.wider a.alike) x.alike;
        twin = x.twin;
      }

  pub part-too : {k j : ℕ} {s s' : State} {old new : Trace} → Part code sides.left k s old j s' new → (ps : Pairs)
      (t : State) {old' : Trace} → TraceAlike ps old old' → Twin code sides ps s t → PartToo ps k j s' new t old'
  part-too Part.stays ps t {old'} h k = record { state = t; items = old'; part = Part.stays; pairs = ps; wider = λ b c i. i; alike = h; twin = k }
  part-too Part.end ps t TraceAlike.nothing k = record { state = t; items = Nothing; part = Part.end; pairs = ps; wider = λ b c i. i; alike = TraceAlike.nothing; twin = k }
  part-too (Part.step f) ps t (TraceAlike.stepped h) k =
      let x = part-too f ps t h k in
      record { state = x.state; items = Stepped x.items; part = Part.step x.part; pairs = x.pairs; wider = x.wider; alike = TraceAlike.stepped x.alike; twin = x.twin }
  part-too {s = s} (Part.alloc {b = b} {key = key} f) ps t (TraceAlike.allocated {c = c} {k' = key'} i kk h) k =
      let x = part-too f ps (clears code t c key') h (twin-clears code sides ps s t b c key key' i kk k) in
      record {
        state = x.state;
        items = Allocated c key' x.items;
        part = Part.alloc x.part;
        pairs = x.pairs;
        wider = x.wider;
        alike = TraceAlike.allocated (id-wider ps x.pairs x.wider i) (key-wider ps x.pairs x.wider kk) x.alike;
        twin = x.twin;
      }
  part-too {s = s} (Part.write {p = p} {value = v} f) ps t (TraceAlike.wrote {q = q} {w = w} kp kv h) k =
      let x = part-too f ps (puts t q w) h (twin-puts code sides ps s t p q v w kp kv k) in
      record {
        state = x.state;
        items = Wrote q w x.items;
        part = Part.write x.part;
        pairs = x.pairs;
        wider = x.wider;
        alike = TraceAlike.wrote (place-wider ps x.pairs x.wider kp) (word-wider ps x.pairs x.wider kv) x.alike;
        twin = x.twin;
      }
  part-too {s = s} {s' = s'} (Part.kept {k = k} {i = i} {j = j} {t = s1} {p = p} {value = v} {u = u} {v = y} {args =
      args} {inside' = i'} {rest' = l'} e g f) ps t
      (TraceAlike.was_read {q = q} {w = w} {ws = args'} {j = o} {m = m} kp kv ka ki h) tw =
      kept-too ps k i j s1 s' t p q (s.store p) w u y args args' i' l' o m kp (tw.store p q kp) ka (equal-too ps tw.one (s.store p) v (t.store q) w (tw.store p q kp) kv e) (part-too g ps t ki tw)
      (λ qs t1 wide k1. part-too f qs t1 (trace-wider ps qs wide h) k1)
  part-too {s = s} {s' = s'} (Part.stale {k = k} {j = j} {t = s1} {p = p} {value = v} {u = u} {v = y} {args =
      args} {inside' = i'} {left = left} {rest' = l'} n a f) ps t
      (TraceAlike.was_read {q = q} {w = w} {ws = args'} {j = o} {m = m} kp kv ka ki h) tw =
      stale-too ps k j s1 s' t p q (s.store p) w u y args args' i' left l' o m kp (tw.store p q kp) ka (apart-too ps tw.one (s.store p) v (t.store q) w (tw.store p q kp) kv n)
      (anew-too code sides a ps t (given-too code ps u y args args' (s.store p) (t.store q) ka (tw.store p q kp)) ki tw)
      (λ qs t1 wide k1. part-too f qs t1 (trace-wider ps qs wide h) k1)

  pub record RunsToo (ps : Pairs) (k : Option ℕ) (s' : State) (new : Trace) (t : State) (old' : Trace) : Type 0 where
    pub state : State
    pub items : Trace
    pub runs : Runs code sides.right k t old' state items
    pub pairs : Pairs
    pub wider : Within ps pairs
    pub alike : TraceAlike pairs new items
    pub twin : Twin code sides pairs s' state

  pub runs-too : {k : Option ℕ} {s s' : State} {old new : Trace} → Runs code sides.left k s old s' new → (ps : Pairs)
      (t : State) {old' : Trace} → TraceAlike ps old old' → Twin code sides ps s t → RunsToo ps k s' new t old'
  runs-too (Runs.whole f) ps t h k =
      let x = fix-too code sides f ps t h k in record { state = x.state; items = x.items; runs = Runs.whole x.fix; pairs = x.pairs; wider = x.wider; alike = x.alike; twin = x.twin }
  runs-too (Runs.part f) ps t h k =
      let x = part-too f ps t h k in record { state = x.state; items = x.items; runs = Runs.part x.part; pairs = x.pairs; wider = x.wider; alike = x.alike; twin = x.twin }

cell-self : (ps : Pairs) (kind : Option FieldKind) → WordAlike ps (cell_default kind) (cell_default kind)
cell-self ps kind = go (is_cell kind)
  where
    go : (t : Bool) → WordAlike ps (if t then field_default kind else Num (pos 0)) (if t then field_default kind else Num (pos 0))
    go true = field_default-self ps kind
    go false = WordAlike.num

default-alike : (structs : List StructInfo) (ps : Pairs) {o q : Option Block} (field : ℕ) → MaybeAlike structs ps o q → WordAlike ps (default_in structs o field) (default_in structs q field)
default-alike structs ps field MaybeAlike.none = WordAlike.num
default-alike structs ps field (MaybeAlike.some {b = b} {c = c} h) = rw h.shape (cell-self ps (field_kind structs c.shape field))

module _ (code : Code) (inputs : List Block) (fit : inputs_fit code.structs inputs ≡ true) where
  core-alike : (ps : Pairs) (x y : Plain) → PlainAlike code.structs ps (with_inputs code inputs x)
      (with_inputs code inputs y) → (b c : ℕ) → Tied b c ps → MaybeAlike code.structs ps (x (Core b)) (y (Core c))
  unfolding with_inputs
  core-alike ps x y h b c t = h (Core b) (Core c) (IdAlike.core t)

  input-alike : (ps : Pairs) (i field : ℕ) → WordAlike ps (content_in code.structs (slice_get inputs i) field) (content_in code.structs (slice_get inputs i) field)
  unfolding bases
  input-alike ps i field = bases-self code inputs ps fit (record { block = Input i; field = field }) (record { block = Input i; field = field }) (record { block = IdAlike.input; field = refl })

  starting-alike : (ps : Pairs) (x y : Plain) → PlainAlike code.structs ps (with_inputs code inputs x) (with_inputs code inputs y) → StoreAlike ps (starting code inputs x) (starting code inputs y)
  unfolding starting
  starting-alike ps x y h p q i = go p.block q.block i.block (rw i.field refl)
    where
      go : (b c : BlockId) → IdAlike ps b c → p.field ≡ q.field → WordAlike ps (starting_in code inputs x b p.field) (starting_in code inputs y c q.field)
      go b c (IdAlike.input {i = i}) e = rw e (input-alike ps i q.field)
      go b c (IdAlike.core {b = d} {c = f} t) e = rw e (default-alike code.structs ps q.field (core-alike ps x y h d f t))

  pub with-alike : (ps : Pairs) (x y : Plain) → PlainAlike code.structs ps x y → PlainAlike code.structs ps (with_inputs code inputs x) (with_inputs code inputs y)
  unfolding with_inputs
  with-alike ps x y h b c (IdAlike.input {i = i}) = Rattle.ceal_code.proofs.Replay.ReplayedCall.begin-self code inputs ps fit i
  with-alike ps x y h b c (IdAlike.core {b = d} {c = e} t) = h (Core d) (Core e) (IdAlike.core t)

  module _ (names names' : ℕ → ℕ) (single : Single names) (single' : Single names') where
    abbrev sides : Pairs → Repair → Repair → Sides
    sides ps r q = record { left = names; right = names'; from = r.number; other = q.number; base = ps; single-left = single; single-right = single' }

    twin : (ps : Pairs) (r q : Repair) → AlikeRepairs code names names' inputs ps r q → Twin code (sides ps r q) ps (goes_on code inputs r) (goes_on code inputs q)
    twin ps r q h = record {
      one = h.one;
      plain = h.known;
      store = starting-alike ps r.known q.known h.known;
      left = h.left;
      right = h.right;
      work = h.spent;
      since = 0;
      numbers = (omega arith, omega arith);
      pairs = λ b c t. ComesFrom.begun t;
    }

    pub record SlicesToo (ps : Pairs) (k : Option ℕ) (r r' q : Repair) : Type 0 where
      pub repair : Repair
      pub slice : Slices code names' inputs k q repair
      pub pairs : Pairs
      pub wider : Within ps pairs
      pub alike : AlikeRepairs code names names' inputs pairs r' repair
      pub from : (b c : ℕ) → Tied b c pairs → IsOldOrNewPair names names' ps r q b c

    behind : (ps : Pairs) (r q : Repair) (b c : ℕ) → ComesFrom (sides ps r q) b c → IsOldOrNewPair names names' ps r q b c
    behind ps r q b c (ComesFrom.begun t) = IsOldOrNewPair.old t
    behind ps r q b c (ComesFrom.grown k e e') = IsOldOrNewPair.new k e e'

    pub slice-too : (ps : Pairs) (r q : Repair) → AlikeRepairs code names names' inputs ps r q → (k : Option ℕ) (r' : Repair) → Slices code names inputs k r r' → SlicesToo ps k r r' q
    slice-too ps r q h k r' s = subst (λ r'. SlicesToo ps k r r' q) (sym s.is) (finish (runs-too code (sides ps r q) s.runs ps (goes_on code inputs q) h.items (twin ps r q h)))
      where
        finish : RunsToo code (sides ps r q) ps k s.after s.items (goes_on code inputs q) q.items → SlicesToo ps k r (repair_at s.after s.items) q
        finish x = record {
          repair = repair_at x.state x.items;
          slice = record { after = x.state; items = x.items; runs = x.runs; is = refl };
          pairs = x.pairs;
          wider = x.wider;
          alike = record { one = x.twin.one; items = x.alike; known = with-alike x.pairs s.after.plain x.state.plain x.twin.plain; left = x.twin.left; right = x.twin.right; spent = x.twin.work };
          from = λ b c t. behind ps r q b c (x.twin.pairs b c t);
        }

  -- what is done on the one side is done on the other
  pub done-too : {names names' : ℕ → ℕ} (ps : Pairs) (r q : Repair) → AlikeRepairs code names names' inputs ps r q → IsHonest code inputs r.items → IsHonest code inputs q.items
  done-too ps r q h k =
      let x = honest-renamed ps h.one code k.walk h.items (bases code inputs) (bases-self code inputs ps fit) in record { after = x.after; walk = x.walk }

module _ (structs : List StructInfo) (ps : Pairs) where
  id-unflip : {b c : BlockId} → IdAlike (flipped ps) c b → IdAlike ps b c
  id-unflip IdAlike.input = IdAlike.input
  id-unflip (IdAlike.core {b = c} {c = b} t) = IdAlike.core (tied-back ps b c t)

  fields-flip : {kinds : List FieldKind} {vs ws : List Word} → FieldsAlike ps kinds vs ws → FieldsAlike (flipped ps) kinds ws vs
  fields-flip FieldsAlike.none = FieldsAlike.none
  fields-flip (FieldsAlike.plain h k) = FieldsAlike.plain (word-flip ps h) (fields-flip k)
  fields-flip (FieldsAlike.int_cell k) = FieldsAlike.int_cell (fields-flip k)
  fields-flip (FieldsAlike.pointer_cell k) = FieldsAlike.pointer_cell (fields-flip k)

  maybe-flip : {o q : Option Block} → MaybeAlike structs ps o q → MaybeAlike structs (flipped ps) q o
  maybe-flip MaybeAlike.none = MaybeAlike.none
  maybe-flip (MaybeAlike.some {b = b} {c = c} h) =
      MaybeAlike.some (record { shape = sym h.shape; fields = subst (λ s. FieldsAlike (flipped ps) (kinds_of_shape structs s) c.words b.words) h.shape (fields-flip h.fields) })

  pub plain-flip : (x y : Plain) → PlainAlike structs ps x y → PlainAlike structs (flipped ps) y x
  plain-flip x y h c b i = maybe-flip (h b c (id-unflip i))

module _ (code : Code) (inputs : List Block) (fit : inputs_fit code.structs inputs ≡ true) where
  pub repairs-flip : {names names' : ℕ → ℕ} (ps : Pairs) (r q : Repair) → AlikeRepairs code names names' inputs ps r q → AlikeRepairs code names' names inputs (flipped ps) q r
  repairs-flip ps r q h = record {
    one = one-flip ps h.one;
    items = trace-flip ps h.items;
    known = plain-flip code.structs ps (with_inputs code inputs r.known) (with_inputs code inputs q.known) h.known;
    left = λ b c t. h.right c b (tied-back ps c b t);
    right = λ b c t. h.left c b (tied-back ps c b t);
    spent = sym h.spent;
  }

  module _ (names names' : ℕ → ℕ) (single : Single names) (single' : Single names') (ps : Pairs) (r q : Repair) (h : AlikeRepairs code names names' inputs ps r q) (k : Option ℕ) (n : ℕ) where
    there-too : (a : Repair) → sliced code names inputs k n r ≡ Some a → (b : Repair) × (sliced code names' inputs k n q ≡ Some b) × RenamedSlices code names names' inputs ps r q (Some a) (Some b)
    there-too a e =
        let s = sliced-sound code names inputs n r k a e in
        let t = slice-too code inputs fit names names' single single' ps r q h k a s.0 in
        (t.repair, sliced-found code names' inputs n q k t.repair t.slice (subst (λ m. m ≤ n) t.alike.spent s.1), RenamedSlices.some t.pairs t.wider t.alike t.from)

  module _ (names names' : ℕ → ℕ) (single : Single names) (single' : Single names') (ps : Pairs) (r q : Repair) (h : AlikeRepairs code names names' inputs ps r q) (k : Option ℕ) (n : ℕ) where
    by-cases : (o o' : Option Repair) → sliced code names inputs k n r ≡ o → sliced code names' inputs k n q ≡ o' → RenamedSlices code names names' inputs ps r q o o'
    by-cases None None e e' = RenamedSlices.none
    by-cases None (Some b) e e' =
        let t = there-too names' names single' single (flipped ps) q r (repairs-flip ps r q h) k n b e' in none-some t.0 (sym e ∙ t.1)
    by-cases (Some a) None e e' = let t = there-too names names' single single' ps r q h k n a e in none-some t.0 (sym e' ∙ t.1)
    by-cases (Some a) (Some b) e e' =
        let t = there-too names names' single single' ps r q h k n a e in
        subst (λ o. RenamedSlices code names names' inputs ps r q (Some a) o) (sym t.1 ∙ e') t.2

    -- a slice of the renamed repair is there exactly when that of the repair is, and is that one renamed
    pub slice-renamed : RenamedSlices code names names' inputs ps r q (sliced code names inputs k n r) (sliced code names' inputs k n q)
    slice-renamed = by-cases (sliced code names inputs k n r) (sliced code names' inputs k n q) refl refl
