-- Items that a stack yields and that are honest determine the run of a stack like it over a memory like their store.
use Rattle.std.proofs.Common.{◌≡◌, ℕ, zero, suc, ◌+◌, ◌-◌, ◌<◌, ◌≤◌, nat_le, Bool, true, false, Option, Some, None, List, [], ◌∷◌, ◌++◌, length, append_assoc, ◌⊎◌, inl, inr, refl, sym, ap, ap₂, ◌∙◌}
use Rattle.std.proofs.Common.{subst, slice_get, slice_set, arith}
use Rattle.ceal_base.specs.Access.{content_of}
use Rattle.ceal_base.specs.Block.{Block, Blocks, block_at, written_at}
use Rattle.ceal_base.specs.Finished.{with_block}
use Rattle.ceal_base.specs.Fitting.{kind_in}
use Rattle.ceal_base.specs.Operators.{same_block}
use Rattle.ceal_base.specs.Shapes.{kinds_of_shape}
use Rattle.ceal_base.specs.Trace.{Trace, Nothing, Stepped, Allocated, Wrote, WasRead, steps_of, blocks_of}
use Rattle.ceal_base.specs.declared.forest.Key.{Key}
use Rattle.ceal_base.specs.declared.forest.UnitId.{UnitId}
use Rattle.ceal_base.specs.declared.kind.FieldKind.{FieldKind}
use Rattle.ceal_base.specs.declared.typed.StructInfo.{StructInfo}
use Rattle.ceal_base.specs.declared.word.BlockId.{BlockId}
use Rattle.ceal_base.specs.declared.word.BlockId.TheVariants.{Input, Core}
use Rattle.ceal_base.specs.declared.word.Place.{Place}
use Rattle.ceal_base.specs.declared.word.Word.{Word}
use Rattle.ceal_base.specs.declared.word.Word.TheVariants.{At}
use Rattle.ceal_code.proofs.Alike.AlikeActs.{QuietToo, MakesToo, WritesToo, ReadsToo, over-too, quiet-too, makes-too, writes-too, reads-too}
use Rattle.ceal_code.proofs.Alike.AlikeSteps.{key-wider, variables-wider, stack-wider, set-alike, words_after_read-alike, pointer-alike, made-alike, next-alike}
use Rattle.ceal_code.proofs.Alike.AlikeStores.{cleared-alike, stored-alike, plain-with}
use Rattle.ceal_code.proofs.Words.Closed.{OfStack, OfKey, OfAct, next-of, set-of, words_after_read-of}
use Rattle.ceal_code.proofs.Replay.MemoryChanges.{contents, CellThere, content-read, altered, written-here, written-other, written-count, written-contents, grown-here, grown-other, grown-count}
use Rattle.ceal_code.proofs.Replay.MemoryChanges.{grown-contents}
use Rattle.ceal_code.proofs.Replay.StackOver.{next-on}
use Rattle.ceal_code.proofs.Alike.BlockPairs.{within-trans, one-within, more-pair, tied-with, tied-case}
use Rattle.ceal_code.proofs.Words.ValidPicks.{Starts, picks-valid}
use Rattle.ceal_code.proofs.TypedCode.TypedBlocks.{rows-valid}
use Rattle.ceal_code.specs.Valid.{valid}
use Rattle.ceal_code.proofs.Words.Placed.{content-placed, Placed, WellPlaced, Keeps, placed-keeps, stack-keeps, placed-closed, written-keeps, written-well, grown-keeps, grown-well, pointer-placed}
use Rattle.ceal_code.proofs.Words.SameIsEqual.{block-same}
use Rattle.ceal_code.specs.Alike.{Pairs, Tied, IdAlike, PlaceAlike, WordAlike, KeyAlike, StackAlike, ActAlike, FieldsAlike, MaybeAlike, PlainAlike, StoreAlike, Within, OneToOne}
use Rattle.ceal_code.specs.Fresh.{ran, only_over, run}
use Rattle.ceal_code.specs.Init.{made, pointer}
use Rattle.ceal_code.specs.Over.{on, act_on}
use Rattle.ceal_code.specs.Program.{Code}
use Rattle.ceal_code.specs.Replay.{Yields, Honest, Store, core_numbers, cleared, stored}
use Rattle.ceal_code.specs.Step.{Stack, Empty, Run, Act, Over, Quiet, Makes, Writes, Reads, variable_default, entered, words_after_read, next}
use Rattle.ceal_code.specs.Value.{Plain, Variables, set, is_cell}

pub cores-append : (bs cs : List BlockId) → core_numbers (bs ++ cs) ≡ core_numbers bs ++ core_numbers cs
cores-append [] cs = refl
cores-append (Core b ∷ bs) cs = ap (λ ns. b ∷ ns) (cores-append bs cs)
cores-append (Input i ∷ bs) cs = cores-append bs cs

-- the first of these stands for n, the second for n + 1, and so on
abbrev pub numbered : ℕ → List ℕ → Pairs
numbered n [] = []
numbered n (b ∷ bs) = record { left = b; right = n } ∷ numbered (n + 1) bs

numbered-at : (n k : ℕ) (bs : List ℕ) → n ≡ k → Within (numbered n bs) (numbered k bs)
numbered-at n k bs e = subst (λ k. Within (numbered n bs) (numbered k bs)) e (λ b c t. t)

pub numbered-rest : (n k : ℕ) (bs cs : List ℕ) → k ≡ n + length bs → Within (numbered k cs) (numbered n (bs ++ cs))
numbered-rest n k [] cs e b c t = numbered-at k n cs (omega (arith, e)) b c t
numbered-rest n k (d ∷ bs) cs e b c t = Tied.there (numbered-rest (n + 1) k bs cs (omega (arith, e)) b c t)

numbered-both : (n k : ℕ) (bs cs : List ℕ) (ps : Pairs) → k ≡ n + length bs → Within (numbered n bs) ps → Within (numbered k cs) ps → Within (numbered n (bs ++ cs)) ps
numbered-both n k [] cs ps e h g b c t = g b c (numbered-at n k cs (omega (arith, e)) b c t)
numbered-both n k (d ∷ bs) cs ps e h g b c Tied.here = h d n Tied.here
numbered-both n k (d ∷ bs) cs ps e h g b c (Tied.there t) =
    numbered-both (n + 1) k bs cs ps (omega (arith, e)) (λ b c t. h b c (Tied.there t)) g b c t

cases-le : {X : Type 0} (n k : ℕ) → (n ≤ k → X) → (k < n → X) → X
cases-le {X} n k f g = go (nat_le n k) refl
  where
    go : (b : Bool) → nat_le n k ≡ b → X
    go true e = f (grind (arith, e))
    go false e = g (grind (arith, e))

fields-word : {ps : Pairs} {kinds : List FieldKind} {vs ws : List Word} → FieldsAlike ps kinds vs ws → (n : ℕ) → is_cell (slice_get kinds n) ≡ true → (w : Word) × (slice_get ws n ≡ Some w)
fields-word FieldsAlike.none n h = absurd (grind (arith, h))
fields-word (FieldsAlike.plain {w = w} l k) zero h = (w, refl)
fields-word (FieldsAlike.plain l k) (suc n) h = fields-word k n h
fields-word (FieldsAlike.int_cell {w = w} k) zero h = (w, refl)
fields-word (FieldsAlike.int_cell k) (suc n) h = fields-word k n h
fields-word (FieldsAlike.pointer_cell {w = w} k) zero h = (w, refl)
fields-word (FieldsAlike.pointer_cell k) (suc n) h = fields-word k n h

fields-cell : {ps : Pairs} {kinds : List FieldKind} {vs ws : List Word} → FieldsAlike ps kinds vs ws → (n : ℕ) (w : Word) → is_cell (slice_get kinds n) ≡ true
    → FieldsAlike ps kinds vs (slice_set ws n w)
fields-cell FieldsAlike.none n w h = FieldsAlike.none
fields-cell (FieldsAlike.plain l k) zero w h = absurd (grind (arith, h))
fields-cell (FieldsAlike.plain l k) (suc n) w h = FieldsAlike.plain l (fields-cell k n w h)
fields-cell (FieldsAlike.int_cell k) zero w h = FieldsAlike.int_cell k
fields-cell (FieldsAlike.int_cell k) (suc n) w h = FieldsAlike.int_cell (fields-cell k n w h)
fields-cell (FieldsAlike.pointer_cell k) zero w h = FieldsAlike.pointer_cell k
fields-cell (FieldsAlike.pointer_cell k) (suc n) w h = FieldsAlike.pointer_cell (fields-cell k n w h)

module _ (structs : List StructInfo) (ps : Pairs) (x : Plain) (m : Blocks) (plain : PlainAlike structs ps x (block_at m)) where
  there-in : (q : Place) (o o' : Option Block) → block_at m q.block ≡ o' → MaybeAlike structs ps o o' → is_cell (kind_in structs o' q.field) ≡ true → CellThere structs m q
  there-in q o None e h c = absurd (grind (arith, c))
  there-in q (Some b) (Some block) e (MaybeAlike.some h) c =
      let c' : is_cell (slice_get (kinds_of_shape structs b.shape) q.field) ≡ true = subst (λ shape. is_cell (slice_get (kinds_of_shape structs shape) q.field) ≡ true) (sym h.shape) c in
      let k = fields-word h.fields q.field c' in
      record { block = block; there = e; cell = c; word = k.0; holds = k.1 }
  there-in q None (Some block) e h c = elim h [ ]

  -- a place that stands for another is that of a modifiable with a content
  cell-there : {p q : Place} → PlaceAlike ps p q → Placed structs m (At q) → CellThere structs m q
  cell-there {p} {q} h c = there-in q (x p.block) (block_at m q.block) refl (plain p.block q.block h.block) c

  module _ (q : Place) (cell : CellThere structs m q) (w : Word) where
    maybe-written : (o : Option Block) → MaybeAlike structs ps o (Some cell.block) → MaybeAlike structs ps o (Some (altered cell.block q.field w))
    maybe-written None h = elim h [ ]
    maybe-written (Some b) (MaybeAlike.some h) =
        MaybeAlike.some (record {
          shape = h.shape;
          fields = fields-cell h.fields q.field w (subst (λ shape. is_cell (slice_get (kinds_of_shape structs shape) q.field) ≡ true) (sym h.shape) cell.cell);
        })

    written-if : (t : Bool) (b c : BlockId) → same_block c q.block ≡ t → IdAlike ps b c → MaybeAlike structs ps (x b) (block_at (written_at m q.block q.field w) c)
    written-if true b c e h =
        let e' : c ≡ q.block = block-same c q.block e in
        let k : MaybeAlike structs ps (x b) (Some cell.block) = rw (e', cell.there) at (plain b c h) in
        rw (e', written-here m q.block q.field w cell.block cell.there) (maybe-written (x b) k)
    written-if false b c e h = rw (written-other m q.block c q.field w cell.block cell.there e) (plain b c h)

    -- a write of a modifiable changes no plain word
    written-plain : PlainAlike structs ps x (block_at (written_at m q.block q.field w))
    written-plain b c h = written-if (same_block c q.block) b c refl h

-- equal places of equal stores
store-is : (ps : Pairs) (s t t' : Store) → StoreAlike ps s t → ((p : Place) → t' p ≡ t p) → StoreAlike ps s t'
store-is ps s t t' h e p q k = rw (e q) (h p q k)

module _ (code : Code) where
  pub over-on : (n steps : ℕ) (m : Blocks) (st below : Stack) → next code (block_at m) st ≡ Over → run code n steps m (on st below) ≡ run code n steps m below
  unfolding run
  over-on zero steps m st below e = ap (only_over steps m) (next-on code (block_at m) below st ∙ ap (λ a. act_on a below (next code (block_at m) below)) e)
  over-on (suc n) steps m st below e = ap (ran code (run code n (steps + 1)) steps m) (next-on code (block_at m) below st ∙ ap (λ a. act_on a below (next code (block_at m) below)) e)

  pub one-step : (n steps : ℕ) (m : Blocks) (st below : Stack) (a : Act) → next code (block_at m) st ≡ a
      → run code (suc n) steps m (on st below) ≡ ran code (run code n (steps + 1)) steps m (act_on a below (next code (block_at m) below))
  unfolding run
  one-step n steps m st below a e = ap (ran code (run code n (steps + 1)) steps m) (next-on code (block_at m) below st ∙ ap (λ a. act_on a below (next code (block_at m) below)) e)

  pub no-step : (steps : ℕ) (m : Blocks) (st below : Stack) (a : Act) → next code (block_at m) st ≡ a
      → run code zero steps m (on st below) ≡ only_over steps m (act_on a below (next code (block_at m) below))
  unfolding run
  no-step steps m st below a e = ap (only_over steps m) (next-on code (block_at m) below st ∙ ap (λ a. act_on a below (next code (block_at m) below)) e)

  module _ (x : Plain) (big : Pairs) (one : OneToOne big) where
    -- the memory stands for the store and the plain words
    pub record Stands (ps : Pairs) (s : Store) (m : Blocks) : Type 0 where
      pub plain : PlainAlike code.structs ps x (block_at m)
      pub store : StoreAlike ps s (contents code m)
      pub well : WellPlaced code.structs m
      pub within : Within ps big
      pub bound : (b c : ℕ) → Tied b c ps → c < length m.made

    -- what the run of a stack over a memory does that stands for these items
    pub record Runs (ps : Pairs) (m : Blocks) (st : Stack) (l : Trace) (s' : Store) : Type 0 where
      pub after : Pairs
      pub wider : Within ps after
      pub memory : Blocks
      pub stands : Stands after s' memory
      pub keeps : Keeps code.structs m memory
      pub count : length memory.made ≡ length m.made + length (core_numbers (blocks_of l))
      pub inward : Within (numbered (length m.made) (core_numbers (blocks_of l))) after
      pub runs : (below : Stack) (n f steps k : ℕ) → n ≡ steps_of l + f → k ≡ steps + steps_of l → run code n steps m (on st below) ≡ run code f k memory below
      pub short : (below : Stack) (n steps : ℕ) → n < steps_of l → run code n steps m (on st below) ≡ None

    acts : (ps : Pairs) (s : Store) (m : Blocks) → Stands ps s m → {st st' : Stack} → StackAlike ps st st' → (a : Act) → next code x st ≡ a → ActAlike ps a (next code (block_at m) st')
    acts ps s m h {st} {st'} k a e = subst (λ a. ActAlike ps a (next code (block_at m) st')) e (next-alike ps (one-within ps big h.within one) code x (block_at m) h.plain k)

    places : valid code ≡ true → (ps : Pairs) (s : Store) (m : Blocks) → Stands ps s m → (st : Stack) → OfStack (Placed code.structs m) st → (a : Act) → next code (block_at m) st ≡ a
        → OfAct (Placed code.structs m) a
    places ok ps s m h st k a e = subst (OfAct (Placed code.structs m)) e
        (next-of (Starts code.structs) (Placed code.structs m) code (block_at m) (placed-closed code.structs m h.well (rows-valid code ok)) (picks-valid code ok) st k)

    runs-over : (ps : Pairs) (s : Store) (m : Blocks) (st : Stack) → Stands ps s m → next code (block_at m) st ≡ Over → Runs ps m st Nothing s
    runs-over ps s m st h e = record {
      after = ps;
      wider = λ b c t. t;
      memory = m;
      stands = h;
      keeps = λ p c. c;
      count = omega arith;
      inward = λ b c t. elim t [ ];
      runs = λ below n f steps k hn hk. over-on n steps m st below e ∙ ap₂ (λ n k. run code n k m below) (omega (arith, hn)) (omega (arith, hk));
      short = λ below n steps h. absurd (omega (arith, h));
    }

    -- one step, and then what its stack does
    quiet-runs : (m : Blocks) (st after : Stack) (memory : Blocks) (l : Trace) → next code (block_at m) st ≡ Quiet after
        → ((below : Stack) (n f steps k : ℕ) → n ≡ steps_of l + f → k ≡ steps + steps_of l → run code n steps m (on after below) ≡ run code f k memory below)
        → (below : Stack) (n f steps k : ℕ) → n ≡ steps_of (Stepped l) + f → k ≡ steps + steps_of (Stepped l) → run code n steps m (on st below) ≡ run code f k memory below
    quiet-runs m st after memory l e h below zero f steps k hn hk = absurd (omega (arith, hn))
    quiet-runs m st after memory l e h below (suc n) f steps k hn hk = one-step n steps m st below (Quiet after) e ∙ h below n f (steps + 1) k (omega (arith, hn)) (omega (arith, hk))

    quiet-short : (m : Blocks) (st after : Stack) (l : Trace) → next code (block_at m) st ≡ Quiet after
        → ((below : Stack) (n steps : ℕ) → n < steps_of l → run code n steps m (on after below) ≡ None)
        → (below : Stack) (n steps : ℕ) → n < steps_of (Stepped l) → run code n steps m (on st below) ≡ None
    quiet-short m st after l e h below zero steps hn = no-step steps m st below (Quiet after) e
    quiet-short m st after l e h below (suc n) steps hn = one-step n steps m st below (Quiet after) e ∙ h below n (steps + 1) (omega (arith, hn))

    runs-quiet : (ps : Pairs) (m : Blocks) (st after : Stack) (l : Trace) (s' : Store) → next code (block_at m) st ≡ Quiet after → Runs ps m after l s' → Runs ps m st (Stepped l) s'
    runs-quiet ps m st after l s' e r = record {
      after = r.after;
      wider = r.wider;
      memory = r.memory;
      stands = r.stands;
      keeps = r.keeps;
      count = r.count;
      inward = r.inward;
      runs = quiet-runs m st after r.memory l e r.runs;
      short = quiet-short m st after l e r.short;
    }

    makes-runs : (m : Blocks) (st below' : Stack) (key : Key) (v u i b : ℕ) (env : Variables) (key0 : Key) (memory : Blocks) (l : Trace) → next code (block_at m) st ≡ Makes key v u i env below'
        → ((below : Stack) (n f steps k : ℕ) → n ≡ steps_of l + f → k ≡ steps + steps_of l
        → run code n steps (with_block m (made code (block_at m) key)) (on (Run u i (set env v (pointer key (Core (length m.made)))) below') below) ≡ run code f k memory below)
        → (below : Stack) (n f steps k : ℕ) → n ≡ steps_of (Stepped (Allocated (Core b) key0 l)) + f → k ≡ steps + steps_of (Stepped (Allocated (Core b) key0 l)) → run code n steps m (on st below)
        ≡ run code f k memory below
    makes-runs m st below' key v u i b env key0 memory l e h below zero f steps k hn hk = absurd (omega (arith, hn))
    makes-runs m st below' key v u i b env key0 memory l e h below (suc n) f steps k hn hk =
        one-step n steps m st below (Makes key v u i env below') e ∙ h below n f (steps + 1) k (omega (arith, hn)) (omega (arith, hk))

    makes-short : (m : Blocks) (st below' : Stack) (key : Key) (v u i b : ℕ) (env : Variables) (key0 : Key) (l : Trace) → next code (block_at m) st ≡ Makes key v u i env below'
        → ((below : Stack) (n steps : ℕ) → n < steps_of l
        → run code n steps (with_block m (made code (block_at m) key)) (on (Run u i (set env v (pointer key (Core (length m.made)))) below') below) ≡ None)
        → (below : Stack) (n steps : ℕ) → n < steps_of (Stepped (Allocated (Core b) key0 l)) → run code n steps m (on st below) ≡ None
    makes-short m st below' key v u i b env key0 l e h below zero steps hn = no-step steps m st below (Makes key v u i env below') e
    makes-short m st below' key v u i b env key0 l e h below (suc n) steps hn =
        one-step n steps m st below (Makes key v u i env below') e ∙ h below n (steps + 1) (omega (arith, hn))

    -- the pairs with the new block's
    inward-with : (n k b : ℕ) (bs : List ℕ) (after : Pairs) → k ≡ n + 1 → Tied b n after → Within (numbered k bs) after → Within (numbered n (b ∷ bs)) after
    inward-with n k b bs after e t h c d Tied.here = t
    inward-with n k b bs after e t h c d (Tied.there s) = within-trans (numbered (n + 1) bs) (numbered k bs) after (numbered-at (n + 1) k bs (sym e)) h c d s

    runs-makes : (ps : Pairs) (m : Blocks) (st below' : Stack) (key : Key) (v u i b : ℕ) (env : Variables) (key0 : Key) (l : Trace) (s' : Store) → WellPlaced code.structs m → next code (block_at m) st
        ≡ Makes key v u i env below'
        → Runs (record { left = b; right = length m.made } ∷ ps) (with_block m (made code (block_at m) key)) (Run u i (set env v (pointer key (Core (length m.made)))) below') l s'
        → Runs ps m st (Stepped (Allocated (Core b) key0 l)) s'
    runs-makes ps m st below' key v u i b env key0 l s' well e r = record {
      after = r.after;
      wider = within-trans ps (record { left = b; right = length m.made } ∷ ps) r.after (more-pair (record { left = b; right = length m.made }) ps) r.wider;
      memory = r.memory;
      stands = r.stands;
      keeps = λ p c. r.keeps p (grown-keeps code m well key p c);
      count = omega (arith, r.count, grown-count m (made code (block_at m) key));
      inward = inward-with (length m.made) (length (with_block m (made code (block_at m) key)).made) b (core_numbers (blocks_of l)) r.after (grown-count m (made code (block_at m) key))
          (r.wider b (length m.made) Tied.here) r.inward;
      runs = makes-runs m st below' key v u i b env key0 r.memory l e r.runs;
      short = makes-short m st below' key v u i b env key0 l e r.short;
    }

    writes-runs : (m : Blocks) (st after : Stack) (p q : Place) (v w : Word) (memory : Blocks) (l : Trace) → next code (block_at m) st ≡ Writes q w after
        → ((below : Stack) (n f steps k : ℕ) → n ≡ steps_of l + f → k ≡ steps + steps_of l → run code n steps (written_at m q.block q.field w) (on after below) ≡ run code f k memory below)
        → (below : Stack) (n f steps k : ℕ) → n ≡ steps_of (Stepped (Wrote p v l)) + f → k ≡ steps + steps_of (Stepped (Wrote p v l)) → run code n steps m (on st below) ≡ run code f k memory below
    writes-runs m st after p q v w memory l e h below zero f steps k hn hk = absurd (omega (arith, hn))
    writes-runs m st after p q v w memory l e h below (suc n) f steps k hn hk = one-step n steps m st below (Writes q w after) e ∙ h below n f (steps + 1) k (omega (arith, hn)) (omega (arith, hk))

    writes-short : (m : Blocks) (st after : Stack) (p q : Place) (v w : Word) (l : Trace) → next code (block_at m) st ≡ Writes q w after
        → ((below : Stack) (n steps : ℕ) → n < steps_of l → run code n steps (written_at m q.block q.field w) (on after below) ≡ None)
        → (below : Stack) (n steps : ℕ) → n < steps_of (Stepped (Wrote p v l)) → run code n steps m (on st below) ≡ None
    writes-short m st after p q v w l e h below zero steps hn = no-step steps m st below (Writes q w after) e
    writes-short m st after p q v w l e h below (suc n) steps hn = one-step n steps m st below (Writes q w after) e ∙ h below n (steps + 1) (omega (arith, hn))

    runs-writes : (ps : Pairs) (m : Blocks) (st after : Stack) (p q : Place) (v w : Word) (l : Trace) (s' : Store) → WellPlaced code.structs m → CellThere code.structs m q → next code (block_at m) st
        ≡ Writes q w after
        → Runs ps (written_at m q.block q.field w) after l s' → Runs ps m st (Stepped (Wrote p v l)) s'
    runs-writes ps m st after p q v w l s' well cell e r = record {
      after = r.after;
      wider = r.wider;
      memory = r.memory;
      stands = r.stands;
      keeps = λ p c. r.keeps p (written-keeps code.structs m well q.block q.field w cell.block cell.there p c);
      count = omega (arith, r.count, written-count m q.block q.field w cell.block cell.there);
      inward = within-trans (numbered (length m.made) (core_numbers (blocks_of l))) (numbered (length (written_at m q.block q.field w).made) (core_numbers (blocks_of l))) r.after
          (numbered-at (length m.made) (length (written_at m q.block q.field w).made) (core_numbers (blocks_of l)) (sym (written-count m q.block q.field w cell.block cell.there))) r.inward;
      runs = writes-runs m st after p q v w r.memory l e r.runs;
      short = writes-short m st after p q v w l e r.short;
    }

    -- what the run reads
    reads-runs : (m m1 : Blocks) (st below' : Stack) (p q : Place) (v w : Word) (u : UnitId) (y : ℕ) (args args' : List Word) (memory : Blocks) (i l : Trace)
        → next code (block_at m) st ≡ Reads q u y args' below' → content_of m (At q) (variable_default code u.0 y) ≡ w
        → ((below : Stack) (n f steps k : ℕ) → n ≡ steps_of i + f → k ≡ steps + steps_of i → run code n steps m (on (entered code u.0 (words_after_read code u.0 y args' w) Empty) below)
        ≡ run code f k m1 below)
        → ((below : Stack) (n f steps k : ℕ) → n ≡ steps_of l + f → k ≡ steps + steps_of l → run code n steps m1 (on below' below) ≡ run code f k memory below)
        → (below : Stack) (n f steps k : ℕ) → n ≡ steps_of (Stepped (WasRead p v u y args i l)) + f → k ≡ steps + steps_of (Stepped (WasRead p v u y args i l)) → run code n steps m (on st below)
        ≡ run code f k memory below
    reads-runs m m1 st below' p q v w u y args args' memory i l e c h g below zero f steps k hn hk = absurd (omega (arith, hn))
    reads-runs m m1 st below' p q v w u y args args' memory i l e c h g below (suc n) f steps k hn hk =
        one-step n steps m st below (Reads q u y args' below') e
        ∙ (ap (λ w. run code n (steps + 1) m (entered code u.0 (words_after_read code u.0 y args' w) (on below' below))) c
        ∙ (h (on below' below) n (steps_of l + f) (steps + 1) (steps + 1 + steps_of i) (omega (arith, hn)) refl
        ∙ g below (steps_of l + f) f (steps + 1 + steps_of i) k refl (omega (arith, hk))))

    reads-short : (m m1 : Blocks) (st below' : Stack) (p q : Place) (v w : Word) (u : UnitId) (y : ℕ) (args args' : List Word) (i l : Trace)
        → next code (block_at m) st ≡ Reads q u y args' below' → content_of m (At q) (variable_default code u.0 y) ≡ w
        → ((below : Stack) (n f steps k : ℕ) → n ≡ steps_of i + f → k ≡ steps + steps_of i → run code n steps m (on (entered code u.0 (words_after_read code u.0 y args' w) Empty) below)
        ≡ run code f k m1 below)
        → ((below : Stack) (n steps : ℕ) → n < steps_of i → run code n steps m (on (entered code u.0 (words_after_read code u.0 y args' w) Empty) below) ≡ None)
        → ((below : Stack) (n steps : ℕ) → n < steps_of l → run code n steps m1 (on below' below) ≡ None)
        → (below : Stack) (n steps : ℕ) → n < steps_of (Stepped (WasRead p v u y args i l)) → run code n steps m (on st below) ≡ None
    reads-short m m1 st below' p q v w u y args args' i l e c h hs gs below zero steps hn = no-step steps m st below (Reads q u y args' below') e
    reads-short m m1 st below' p q v w u y args args' i l e c h hs gs below (suc n) steps hn =
        one-step n steps m st below (Reads q u y args' below') e
        ∙ (ap (λ w. run code n (steps + 1) m (entered code u.0 (words_after_read code u.0 y args' w) (on below' below))) c
        ∙ cases-le (steps_of i) n
        (λ k. h (on below' below) n (n - steps_of i) (steps + 1) (steps + 1 + steps_of i) (omega (arith, k)) refl ∙ gs below (n - steps_of i) (steps + 1 + steps_of i) (omega (arith, k, hn)))
        (λ k. hs (on below' below) n (steps + 1) k))

    runs-reads : (ps : Pairs) (m : Blocks) (st below' : Stack) (p q : Place) (v w : Word) (u : UnitId) (y : ℕ) (args args' : List Word) (i l : Trace) (t s' : Store)
        → next code (block_at m) st ≡ Reads q u y args' below' → content_of m (At q) (variable_default code u.0 y) ≡ w
        → (r : Runs ps m (entered code u.0 (words_after_read code u.0 y args' w) Empty) i t) → Runs r.after r.memory below' l s'
        → Runs ps m st (Stepped (WasRead p v u y args i l)) s'
    runs-reads ps m st below' p q v w u y args args' i l t s' e c r g = record {
      after = g.after;
      wider = within-trans ps r.after g.after r.wider g.wider;
      memory = g.memory;
      stands = g.stands;
      keeps = λ p c. g.keeps p (r.keeps p c);
      count = omega (arith, r.count, g.count, both);
      inward = subst (λ ns. Within (numbered (length m.made) ns) g.after) (sym (cores-append (blocks_of i) (blocks_of l)))
          (numbered-both (length m.made) (length r.memory.made) (core_numbers (blocks_of i)) (core_numbers (blocks_of l)) g.after r.count
          (within-trans (numbered (length m.made) (core_numbers (blocks_of i))) r.after g.after r.inward g.wider) g.inward);
      runs = reads-runs m r.memory st below' p q v w u y args args' g.memory i l e c r.runs g.runs;
      short = reads-short m r.memory st below' p q v w u y args args' i l e c r.runs r.short g.short;
    }
      where
        length-append : (bs cs : List ℕ) → length (bs ++ cs) ≡ length bs + length cs
        length-append [] cs = omega arith
        length-append (b ∷ bs) cs = omega (arith, length-append bs cs)

        both : length (core_numbers (blocks_of (WasRead p v u y args i l))) ≡ length (core_numbers (blocks_of i)) + length (core_numbers (blocks_of l))
        both = ap length (cores-append (blocks_of i) (blocks_of l)) ∙ length-append (core_numbers (blocks_of i)) (core_numbers (blocks_of l))

    then-reads : (ps : Pairs) (m : Blocks) (st below' : Stack) (p q : Place) (v w : Word) (u : UnitId) (y : ℕ) (args args' : List Word) (i l : Trace) (t s' : Store)
        → next code (block_at m) st ≡ Reads q u y args' below' → content_of m (At q) (variable_default code u.0 y) ≡ w
        → Runs ps m (entered code u.0 (words_after_read code u.0 y args' w) Empty) i t
        → ((qs : Pairs) (m1 : Blocks) → Within ps qs → Keeps code.structs m m1 → length m1.made ≡ length m.made + length (core_numbers (blocks_of i)) → Stands qs t m1 → Runs qs m1 below' l s')
        → Runs ps m st (Stepped (WasRead p v u y args i l)) s'
    then-reads ps m st below' p q v w u y args args' i l t s' e c r f = runs-reads ps m st below' p q v w u y args args' i l t s' e c r (f r.after r.memory r.wider r.keeps r.count r.stands)

    stands-write : (ps : Pairs) (s : Store) (m : Blocks) (p q : Place) (v w : Word) → Stands ps s m → PlaceAlike ps p q → WordAlike ps v w → CellThere code.structs m q → Placed code.structs m w
        → Stands ps (stored s p v) (written_at m q.block q.field w)
    stands-write ps s m p q v w h kp kw cell c = record {
      plain = written-plain code.structs ps x m h.plain q cell w;
      store = store-is ps (stored s p v) (stored (contents code m) q w) (contents code (written_at m q.block q.field w))
          (stored-alike ps (one-within ps big h.within one) s (contents code m) p q v w h.store kp kw) (written-contents code m q cell w);
      well = written-well code.structs m h.well q.block q.field w cell.block cell.there c;
      within = h.within;
      bound = λ b c t. rw (written-count m q.block q.field w cell.block cell.there) (h.bound b c t);
    }

    plain-grown : (ps : Pairs) (s : Store) (m : Blocks) (key : Key) → Stands ps s m → PlainAlike code.structs ps x (block_at (with_block m (made code (block_at m) key)))
    plain-grown ps s m key h b c (IdAlike.input {i = i}) = h.plain (Input i) (Input i) IdAlike.input
    plain-grown ps s m key h b c (IdAlike.core {b = d} {c = e} t) = rw (grown-other m (made code (block_at m) key) e (h.bound d e t)) (h.plain (Core d) (Core e) (IdAlike.core t))

    bound-with : (m : Blocks) (block : Block) (ps : Pairs) (b : ℕ) → ((d c : ℕ) → Tied d c ps → c < length m.made) → (d c : ℕ) → Tied d c (record { left = b; right = length m.made } ∷ ps)
        → c < length (with_block m block).made
    bound-with m block ps b h d c t = go (tied-case d c (record { left = b; right = length m.made }) ps t)
      where
        go : ((b ≡ d) × (length m.made ≡ c)) ⊎ Tied d c ps → c < length (with_block m block).made
        go (inl e) = omega (arith, e.1, grown-count m block)
        go (inr t) = omega (arith, h d c t, grown-count m block)

    stands-new : valid code ≡ true → (ps : Pairs) (s : Store) (m : Blocks) (b : ℕ) (key key' : Key) → Stands ps s m → KeyAlike ps key key' → OfKey (Placed code.structs m) key' → x (Core b)
        ≡ Some (made code x key) → Tied b (length m.made) big
        → Stands (record { left = b; right = length m.made } ∷ ps) (cleared code s (Core b) key) (with_block m (made code (block_at m) key'))
    stands-new ok ps s m b key key' h kk c e t =
        let within = tied-with b (length m.made) ps big h.within t in
        let one' = one-within (record { left = b; right = length m.made } ∷ ps) big within one in
        record {
          plain = plain-with code.structs b (length m.made) ps x (block_at (with_block m (made code (block_at m) key'))) (made code x key) (made code (block_at m) key') (plain-grown ps s m key' h) e
              (grown-here m (made code (block_at m) key')) (made-alike ps (one-within ps big h.within one) code x (block_at m) h.plain kk);
          store = store-is (record { left = b; right = length m.made } ∷ ps) (cleared code s (Core b) key) (cleared code (contents code m) (Core (length m.made)) key')
              (contents code (with_block m (made code (block_at m) key'))) (cleared-alike code b (length m.made) ps one' kk s (contents code m) h.store) (grown-contents code (block_at m) m key');
          well = grown-well code m h.well key' ok c;
          within = within;
          bound = bound-with m (made code (block_at m) key') ps b h.bound;
        }

    rest-within : (n k : ℕ) (is ls : List BlockId) (rest : List ℕ) → k ≡ n + length (core_numbers is) → Within (numbered n (core_numbers (is ++ ls) ++ rest)) big
        → Within (numbered k (core_numbers ls ++ rest)) big
    rest-within n k is ls rest e z =
        within-trans (numbered k (core_numbers ls ++ rest)) (numbered n (core_numbers is ++ (core_numbers ls ++ rest))) big
        (numbered-rest n k (core_numbers is) (core_numbers ls ++ rest) e) (rw (cores-append is ls, append_assoc (core_numbers is) (core_numbers ls) rest) at z)

    first-within : (n : ℕ) (is ls : List BlockId) (rest : List ℕ) → Within (numbered n (core_numbers (is ++ ls) ++ rest)) big → Within (numbered n (core_numbers is ++ (core_numbers ls ++ rest))) big
    first-within n is ls rest z = rw (cores-append is ls, append_assoc (core_numbers is) (core_numbers ls) rest) at z

    pub determined : valid code ≡ true → {st : Stack} {l : Trace} → Yields code x st l → (ps : Pairs) (s : Store) (m : Blocks) → Stands ps s m → {st' : Stack} → StackAlike ps st st'
        → OfStack (Placed code.structs m) st'
        → {s' : Store} → Honest code s l s' → (rest : List ℕ) → Within (numbered (length m.made) (core_numbers (blocks_of l) ++ rest)) big → Runs ps m st' l s'
    determined ok (Yields.over e) ps s m h {st'} k c Honest.end rest z = runs-over ps s m st' h (over-too ps (next code (block_at m) st') (acts ps s m h k Over e))
    determined ok (Yields.quiet {after = after} {rest = l} e r) ps s m h {st'} k c {s'} (Honest.step w) rest z =
        go (quiet-too ps after (next code (block_at m) st') (acts ps s m h k (Quiet after) e)) (λ after' alike placed. determined ok r ps s m h alike placed w rest z)
      where
        go : QuietToo ps after (next code (block_at m) st') → ((after' : Stack) → StackAlike ps after after' → OfStack (Placed code.structs m) after' → Runs ps m after' l s')
            → Runs ps m st' (Stepped l) s'
        go q f = runs-quiet ps m st' q.after' l s' q.is (f q.after' q.alike (places ok ps s m h st' c (Quiet q.after') q.is))
    determined ok (Yields.makes {key = key} {v = v} {u = u} {i = i} {env = env} {below = below} {b = b} {rest = l} e g r) ps s m h {st'} k c {s'} (Honest.step (Honest.alloc w)) rest z =
        go (makes-too ps key v u i env below (next code (block_at m) st') (acts ps s m h k (Makes key v u i env below) e))
        (λ key' st'' stands alike placed. determined ok r (record { left = b; right = length m.made } ∷ ps) (cleared code s (Core b) key)
        (with_block m (made code (block_at m) key')) stands alike placed w rest
        (within-trans (numbered (length (with_block m (made code (block_at m) key')).made) (core_numbers (blocks_of l) ++ rest))
        (numbered (length m.made) (b ∷ (core_numbers (blocks_of l) ++ rest))) big
        (numbered-rest (length m.made) (length (with_block m (made code (block_at m) key')).made) (b ∷ []) (core_numbers (blocks_of l) ++ rest)
        (omega (arith, grown-count m (made code (block_at m) key')))) z))
      where
        go : MakesToo ps key v u i env below (next code (block_at m) st')
            → ((key' : Key) (st'' : Stack) → Stands (record { left = b; right = length m.made } ∷ ps) (cleared code s (Core b) key) (with_block m (made code (block_at m) key'))
            → StackAlike (record { left = b; right = length m.made } ∷ ps) (Run u i (set env v (pointer key (Core b))) below) st''
            → OfStack (Placed code.structs (with_block m (made code (block_at m) key'))) st''
            → Runs (record { left = b; right = length m.made } ∷ ps) (with_block m (made code (block_at m) key')) st'' l s')
            → Runs ps m st' (Stepped (Allocated (Core b) key l)) s'
        go q f =
            let a = places ok ps s m h st' c (Makes q.key' v u i q.env' q.below') q.is in
            let m' : Blocks = with_block m (made code (block_at m) q.key') in
            let keeps = grown-keeps code m h.well q.key' in
            let more = more-pair (record { left = b; right = length m.made }) ps in
            runs-makes ps m st' q.below' q.key' v u i b q.env' key l s' h.well q.is
            (f q.key' (Run u i (set q.env' v (pointer q.key' (Core (length m.made)))) q.below')
            (stands-new ok ps s m b key q.key' h q.keys a.0 g (z b (length m.made) Tied.here))
            (StackAlike.run (set-alike (record { left = b; right = length m.made } ∷ ps) (variables-wider ps (record { left = b; right = length m.made } ∷ ps) more q.envs) v
            (pointer-alike (record { left = b; right = length m.made } ∷ ps) (key-wider ps (record { left = b; right = length m.made } ∷ ps) more q.keys) (IdAlike.core Tied.here)))
            (stack-wider ps (record { left = b; right = length m.made } ∷ ps) more q.alike)) (
              set-of (Placed code.structs m') (λ n. tt) tt q.env' v (pointer q.key' (Core (length m.made))) (λ y. placed-keeps code.structs m m' keeps (q.env' y) (a.1 y))
                  (pointer-placed code m h.well q.key' q.key' refl),
              stack-keeps code.structs m m' keeps q.below' a.2,
            ))
    determined ok (Yields.writes {after = after} {p = p} {value = value} {rest = l} e r) ps s m h {st'} k c {s'} (Honest.step (Honest.write w)) rest z =
        go (writes-too ps p value after (next code (block_at m) st') (acts ps s m h k (Writes p value after) e))
        (λ p' value' after' count stands alike placed. determined ok r ps (stored s p value) (written_at m p'.block p'.field value') stands alike placed w rest
        (rw count z))
      where
        go : WritesToo ps p value after (next code (block_at m) st')
            → ((p' : Place) (value' : Word) (after' : Stack) → length (written_at m p'.block p'.field value').made ≡ length m.made
            → Stands ps (stored s p value) (written_at m p'.block p'.field value')
            → StackAlike ps after after' → OfStack (Placed code.structs (written_at m p'.block p'.field value')) after' → Runs ps (written_at m p'.block p'.field value') after' l s')
            → Runs ps m st' (Stepped (Wrote p value l)) s'
        go q f =
            let a = places ok ps s m h st' c (Writes q.p' q.value' q.after') q.is in
            let cell = cell-there code.structs ps x m h.plain q.places a.0 in
            runs-writes ps m st' q.after' p q.p' value q.value' l s' h.well cell q.is
            (f q.p' q.value' q.after' (written-count m q.p'.block q.p'.field q.value' cell.block cell.there) (stands-write ps s m p q.p' value q.value' h q.places q.words cell a.1) q.alike
            (stack-keeps code.structs m (written_at m q.p'.block q.p'.field q.value') (written-keeps code.structs m h.well q.p'.block q.p'.field q.value' cell.block cell.there) q.after' a.2))
    determined ok (Yields.reads {below = below} {p = p} {u = u} {v = y} {args = args} {value = value} {inside = i} {rest = l} e r1 r2) ps s m h {st'} k c {s'}
        (Honest.step (Honest.read {t = t} f w1 w2)) rest z =
        go (reads-too ps p u y args below (next code (block_at m) st') (acts ps s m h k (Reads p u y args below) e))
        (λ st'' alike placed. determined ok r1 ps s m h alike placed w1 (core_numbers (blocks_of l) ++ rest) (first-within (length m.made) (blocks_of i) (blocks_of l) rest z))
        (λ qs m1 st'' count stands alike placed. determined ok r2 qs t m1 stands alike placed w2 rest (rest-within (length m.made) (length m1.made) (blocks_of i) (blocks_of l) rest count z))
      where
        go : ReadsToo ps p u y args below (next code (block_at m) st')
            → ((st'' : Stack) → StackAlike ps (entered code u.0 (words_after_read code u.0 y args value) Empty) st'' → OfStack (Placed code.structs m) st'' → Runs ps m st'' i t)
            → ((qs : Pairs) (m1 : Blocks) (st'' : Stack) → length m1.made ≡ length m.made + length (core_numbers (blocks_of i)) → Stands qs t m1 → StackAlike qs below st''
            → OfStack (Placed code.structs m1) st'' → Runs qs m1 st'' l s')
            → Runs ps m st' (Stepped (WasRead p value u y args i l)) s'
        go q g1 g2 =
            let a = places ok ps s m h st' c (Reads q.p' u y q.args' q.below') q.is in
            let cell = cell-there code.structs ps x m h.plain q.places a.0 in
            let w : Word = contents code m q.p' in
            let kw : WordAlike ps value (contents code m q.p') = rw f at (h.store p q.p' q.places) in
            then-reads ps m st' q.below' p q.p' value (contents code m q.p') u y args q.args' i l t s' q.is (content-read code m q.p' (variable_default code u.0 y) cell)
            (g1 (entered code u.0 (words_after_read code u.0 y q.args' (contents code m q.p')) Empty) (words_after_read-alike ps code u.0 y q.words kw StackAlike.empty)
            (words_after_read-of (Placed code.structs m) (λ n. tt) tt code u.0 y q.args' (contents code m q.p') Empty a.1 (content-placed code m q.p' h.well cell) tt))
            (λ qs m1 wide keeps count stands. g2 qs m1 q.below' count stands (stack-wider ps qs wide q.alike) (stack-keeps code.structs m m1 keeps q.below' a.2))
