-- The memory of the run that honest items determine is the store and the plain words of the items, up to the numbers of
-- core blocks.
use Rattle.std.proofs.Common.{◌≡◌, ℕ, zero, suc, ◌+◌, ◌<◌, ◌≤◌, ◌==◌, nat_eq, Bool, true, false, Option, Some, None, List, [], ◌∷◌, length, map, ◌⊎◌, inl, inr, refl, sym, ap, ap₂, ◌∙◌, subst}
use Rattle.std.proofs.Common.{slice_get, slice_index, arith}
use Rattle.std.specs.List.{IsDistinct, AllByRecursion}
use Rattle.std.specs.Option.{option_map}
use Rattle.ceal_base.specs.Block.{Block, Blocks, block_at}
use Rattle.ceal_base.specs.Same.{index_of, renamed_id, renamed_word, renamed_block}
use Rattle.ceal_base.specs.declared.kind.FieldKind.{FieldKind}
use Rattle.ceal_base.specs.declared.kind.FieldKind.TheVariants.{Plain as PlainField, CellInt, CellPtr}
use Rattle.ceal_base.specs.declared.word.BlockId.{BlockId}
use Rattle.ceal_base.specs.declared.word.BlockId.TheVariants.{Core}
use Rattle.ceal_base.specs.declared.word.Word.{Word}
use Rattle.ceal_base.specs.declared.word.Word.TheVariants.{Block as BlockWord, At}
use Rattle.ceal_code.proofs.Alike.AlikeSteps.{word-wider, fields-wider}
use Rattle.ceal_code.proofs.Replay.DeterminedRun.{numbered}
use Rattle.ceal_code.proofs.Replay.MemoryChanges.{contents}
use Rattle.ceal_code.proofs.Alike.BlockPairs.{one-at, tied-case}
use Rattle.ceal_code.proofs.Words.SameIsEqual.{nat-same, some-same, none-some}
use Rattle.ceal_code.specs.Alike.{Pairs, Tied, IdAlike, WordAlike, FieldsAlike, BlockAlike, MaybeAlike, PlainAlike, StoreAlike, Within, OneToOne}
use Rattle.ceal_code.specs.Program.{Code}
use Rattle.ceal_code.specs.Replay.{Store, count, Distinct, with_contents, filled, block_after}
use Rattle.ceal_code.specs.Value.{Plain, field_kind, is_cell}

-- numbers side by side with 0, 1, 2 and so on
pub numbered-low : (n : ℕ) (bs : List ℕ) (b c : ℕ) → Tied b c (numbered n bs) → n ≤ c
numbered-low n [] b c t = elim t [ ]
numbered-low n (d ∷ bs) b c Tied.here = omega arith
numbered-low n (d ∷ bs) b c (Tied.there t) = omega (arith, numbered-low (n + 1) bs b c t)

numbered-in : (n : ℕ) (bs : List ℕ) (b c : ℕ) → Tied b c (numbered n bs) → 1 ≤ count b bs
numbered-in n [] b c t = elim t [ ]
numbered-in n (d ∷ bs) b c Tied.here = omega (arith, one-at b b refl)
numbered-in n (d ∷ bs) b c (Tied.there t) = omega (arith, numbered-in (n + 1) bs b c t)

numbered-left : (n : ℕ) (bs : List ℕ) → Distinct bs → (b c d : ℕ) → Tied b c (numbered n bs) → Tied b d (numbered n bs) → c ≡ d
numbered-left n [] h b c d s t = elim s [ ]
numbered-left n (e ∷ bs) h b c d s t =
    go (tied-case b c (record { left = e; right = n }) (numbered (n + 1) bs) s) (tied-case b d (record { left = e; right = n }) (numbered (n + 1) bs) t)
    (numbered-left (n + 1) bs (λ k. omega (arith, h k)) b c d)
  where
    go : ((e ≡ b) × (n ≡ c)) ⊎ Tied b c (numbered (n + 1) bs) → ((e ≡ b) × (n ≡ d)) ⊎ Tied b d (numbered (n + 1) bs)
        → (Tied b c (numbered (n + 1) bs) → Tied b d (numbered (n + 1) bs) → c ≡ d) → c ≡ d
    go (inl s) (inl t) k = sym s.1 ∙ t.1
    go (inl s) (inr t) k = absurd (omega (arith, numbered-in (n + 1) bs b d t, h b, one-at b e s.0))
    go (inr s) (inl t) k = absurd (omega (arith, numbered-in (n + 1) bs b c s, h b, one-at b e t.0))
    go (inr s) (inr t) k = k s t

numbered-right : (n : ℕ) (bs : List ℕ) (b c d : ℕ) → Tied b d (numbered n bs) → Tied c d (numbered n bs) → b ≡ c
numbered-right n [] b c d s t = elim s [ ]
numbered-right n (e ∷ bs) b c d s t =
    go (tied-case b d (record { left = e; right = n }) (numbered (n + 1) bs) s) (tied-case c d (record { left = e; right = n }) (numbered (n + 1) bs) t)
    (numbered-right (n + 1) bs b c d)
  where
    go : ((e ≡ b) × (n ≡ d)) ⊎ Tied b d (numbered (n + 1) bs) → ((e ≡ c) × (n ≡ d)) ⊎ Tied c d (numbered (n + 1) bs)
        → (Tied b d (numbered (n + 1) bs) → Tied c d (numbered (n + 1) bs) → b ≡ c) → b ≡ c
    go (inl s) (inl t) k = sym s.0 ∙ t.0
    go (inl s) (inr t) k = absurd (omega (arith, s.1, numbered-low (n + 1) bs c d t))
    go (inr s) (inl t) k = absurd (omega (arith, t.1, numbered-low (n + 1) bs b d s))
    go (inr s) (inr t) k = k s t

pub numbered-one : (bs : List ℕ) → Distinct bs → OneToOne (numbered 0 bs)
numbered-one bs h = record { left = numbered-left 0 bs h; right = numbered-right 0 bs }

pub numbered-at : (n : ℕ) (bs : List ℕ) (i : ℕ) → i < length bs → Tied (slice_index bs i) (n + i) (numbered n bs)
numbered-at n [] i h = absurd (omega (arith, h))
numbered-at n (b ∷ bs) zero h = let e : n + 0 ≡ n = omega arith in rw e Tied.here
numbered-at n (b ∷ bs) (suc i) h =
    let e : n + suc i ≡ (n + 1) + i = omega arith in rw e (Tied.there (numbered-at (n + 1) bs i (omega (arith, h))))

-- the place of a number of the list
index-at : (n : ℕ) (bs : List ℕ) → Distinct bs → (b c : ℕ) → Tied b c (numbered n bs) → n + index_of bs b ≡ c
index-at n [] h b c t = elim t [ ]
index-at n (d ∷ bs) h b c t = go (tied-case b c (record { left = d; right = n }) (numbered (n + 1) bs) t) (d == b) refl (index-at (n + 1) bs (λ k. omega (arith, h k)) b c)
  where
    go : ((d ≡ b) × (n ≡ c)) ⊎ Tied b c (numbered (n + 1) bs) → (z : Bool) → (d == b) ≡ z → (Tied b c (numbered (n + 1) bs) → (n + 1) + index_of bs b ≡ c) → n + index_of (d ∷ bs) b ≡ c
    go (inl e) true z k = rw z (omega (arith, e.1))
    go (inl e) false z k = absurd (grind (arith, z, e.0))
    go (inr s) true z k = let e : d ≡ b = nat-same d b z in absurd (omega (arith, numbered-in (n + 1) bs b c s, h b, one-at b d e))
    go (inr s) false z k = rw z (omega (arith, k s))

apart : (b : ℕ) (bs : List ℕ) → count b bs ≡ 0 → AllByRecursion (λ c. nat_eq b c ≡ false) bs
apart b [] h = tt
apart b (c ∷ bs) h = (go (nat_eq b c) refl, apart b bs (omega (arith, h)))
  where
    go : (z : Bool) → nat_eq b c ≡ z → nat_eq b c ≡ false
    go false e = e
    go true e = let e' : c ≡ b = grind (arith, e) in absurd (omega (arith, h, one-at b c e'))

pub is-distinct : (bs : List ℕ) → Distinct bs → IsDistinct nat_eq bs
unfolding IsDistinct
is-distinct [] h = tt
is-distinct (b ∷ bs) h = (apart b bs (omega (arith, h b, one-at b b refl)), is-distinct bs (λ c. omega (arith, h c)))

pub list-same : {A : Type 0} (xs ys : List A) → ((i : ℕ) → slice_get xs i ≡ slice_get ys i) → xs ≡ ys
list-same [] [] h = refl
list-same [] (y ∷ ys) h = none-some y (h 0)
list-same (x ∷ xs) [] h = none-some x (sym (h 0))
list-same (x ∷ xs) (y ∷ ys) h = ap₂ ◌∷◌ (some-same x y (h 0)) (list-same xs ys (λ i. h (suc i)))

pub get-map : {A B : Type 0} (f : A → B) (xs : List A) (i : ℕ) → slice_get (map f xs) i ≡ option_map f (slice_get xs i)
get-map f [] i = refl
get-map f (x ∷ xs) zero = refl
get-map f (x ∷ xs) (suc i) = get-map f xs i

module _ (bs : List ℕ) (distinct : Distinct bs) where
  id-named : {b c : BlockId} → IdAlike (numbered 0 bs) b c → renamed_id bs b ≡ c
  id-named IdAlike.input = refl
  id-named (IdAlike.core {b = b} {c = c} t) = let e : index_of bs b ≡ c = omega (arith, index-at 0 bs distinct b c t) in ap Core e

  word-named : {v w : Word} → WordAlike (numbered 0 bs) v w → renamed_word bs v ≡ w
  word-named WordAlike.num = refl
  word-named WordAlike.null = refl
  word-named (WordAlike.block h) = ap BlockWord (id-named h)
  word-named (WordAlike.at {p = p} {q = q} h) = ap₂ (λ b f. At (record { block = b; field = f })) (id-named h.block) h.field

  -- the store has words like those of the modifiables, the first of which has this number
  abbrev HasContents : Store → BlockId → ℕ → List FieldKind → List Word → Type 0
  HasContents s b n kinds ws =
      (j : ℕ) (w : Word) → is_cell (slice_get kinds j) ≡ true → slice_get ws j ≡ Some w → WordAlike (numbered 0 bs) (s (record { block = b; field = n + j })) w

  first : (s : Store) (b : BlockId) (n : ℕ) (kind : FieldKind) (kinds : List FieldKind) (w : Word) (ws : List Word) → is_cell (Some kind) ≡ true → HasContents s b n (kind ∷ kinds) (w ∷ ws)
      → WordAlike (numbered 0 bs) (s (record { block = b; field = n })) w
  first s b n kind kinds w ws c h = let i : n + 0 ≡ n = omega arith in rw i at (h 0 w c refl)

  later : (s : Store) (b : BlockId) (n : ℕ) (kind : FieldKind) (kinds : List FieldKind) (w : Word) (ws : List Word) → HasContents s b n (kind ∷ kinds) (w ∷ ws) → HasContents s b (n + 1) kinds ws
  later s b n kind kinds w ws h j z c e = let i : n + suc j ≡ n + 1 + j = omega arith in rw i at (h (suc j) z c e)

  -- the words of a block with its modifiables' contents
  words-named : (s : Store) (b : BlockId) (n : ℕ) {kinds : List FieldKind} {vs ws : List Word} → FieldsAlike (numbered 0 bs) kinds vs ws → HasContents s b n kinds ws
      → map (renamed_word bs) (with_contents s b n kinds vs) ≡ ws
  words-named s b n FieldsAlike.none h = refl
  words-named s b n (FieldsAlike.plain {kind = kind} {kinds = kinds} {w = w} {ws = ws} l k) h =
      ap₂ ◌∷◌ (word-named l) (words-named s b (n + 1) k (later s b n (PlainField kind) kinds w ws h))
  words-named s b n (FieldsAlike.int_cell {kinds = kinds} {w = w} {ws = ws} k) h =
      ap₂ ◌∷◌ (word-named (first s b n CellInt kinds w ws refl h)) (words-named s b (n + 1) k (later s b n CellInt kinds w ws h))
  words-named s b n (FieldsAlike.pointer_cell {s = y} {kinds = kinds} {w = w} {ws = ws} k) h =
      ap₂ ◌∷◌ (word-named (first s b n (CellPtr y) kinds w ws refl h)) (words-named s b (n + 1) k (later s b n (CellPtr y) kinds w ws h))

  module _ (code : Code) (x : Plain) (s : Store) (m : Blocks) (ps : Pairs) (within : Within ps (numbered 0 bs)) (plain : PlainAlike code.structs ps x (block_at m))
      (store : StoreAlike ps s (contents code m)) where
    content-named : (c : BlockId) (w : Block) → block_at m c ≡ Some w → (j : ℕ) (z : Word) → is_cell (field_kind code.structs w.shape j) ≡ true → slice_get w.words j ≡ Some z
        → contents code m (record { block = c; field = j }) ≡ z
    unfolding contents
    content-named c w e j z k h = rw (e, k, h)

    fields-named : (b c : BlockId) (v w : Block) → IdAlike ps b c → block_at m c ≡ Some w → BlockAlike code.structs ps v w → renamed_block bs (filled code s b v) ≡ w
    fields-named b c v w i e h =
        ap₂ (λ shape words. record { shape = shape; words = words }) h.shape
        (words-named s b 0 (fields-wider ps (numbered 0 bs) within h.fields)
        (λ j z k g. cell j z (subst (λ shape. is_cell (field_kind code.structs shape j) ≡ true) h.shape k) g))
      where
        cell : (j : ℕ) (z : Word) → is_cell (field_kind code.structs w.shape j) ≡ true → slice_get w.words j ≡ Some z → WordAlike (numbered 0 bs) (s (record { block = b; field = 0 + j })) z
        cell j z k g =
            let n : 0 + j ≡ j = omega arith in
            rw (n, ← content-named c w e j z k g)
            (word-wider ps (numbered 0 bs) within (store (record { block = b; field = j }) (record { block = c; field = j }) (record { block = i; field = refl })))

    -- a block of the memory
    pub block-named : (b c : BlockId) → IdAlike ps b c → option_map (renamed_block bs) (block_after code x s b) ≡ block_at m c
    unfolding block_after
    block-named b c i = go (x b) (block_at m c) refl (plain b c i)
      where
        go : (o o' : Option Block) → block_at m c ≡ o' → MaybeAlike code.structs ps o o' → option_map (renamed_block bs) (option_map (filled code s b) o) ≡ o'
        go None o' e MaybeAlike.none = refl
        go (Some v) o' e (MaybeAlike.some {c = w} h) = ap Some (fields-named b c v w i e h)
