-- Like stores stay alike over writes and new blocks.
use Rattle.std.proofs.Common.{◌≡◌, ℕ, pos, Bool, true, false, if◌then◌else◌, Option, Some, List, ◌∷◌, refl, subst, arith}
use Rattle.ceal_base.specs.Block.{Block}
use Rattle.ceal_base.specs.Operators.{same_block, same_place}
use Rattle.ceal_base.specs.declared.forest.Key.{Key}
use Rattle.ceal_base.specs.declared.kind.FieldKind.{FieldKind}
use Rattle.ceal_base.specs.declared.typed.StructInfo.{StructInfo}
use Rattle.ceal_base.specs.declared.word.BlockId.{BlockId}
use Rattle.ceal_base.specs.declared.word.BlockId.TheVariants.{Input, Core}
use Rattle.ceal_base.specs.declared.word.Place.{Place}
use Rattle.ceal_base.specs.declared.word.Word.{Word}
use Rattle.ceal_base.specs.declared.word.Word.TheVariants.{Num}
use Rattle.ceal_code.proofs.Alike.AlikeSteps.{word-wider, block-wider, maybe-wider, id-both, place-both, field_default-self}
use Rattle.ceal_code.proofs.Alike.BlockPairs.{more-pair}
use Rattle.ceal_code.proofs.Words.SameIsEqual.{nat-refl}
use Rattle.ceal_code.specs.Alike.{Pairs, Tied, IdAlike, PlaceAlike, WordAlike, KeyAlike, BlockAlike, MaybeAlike, PlainAlike, StoreAlike, OneToOne}
use Rattle.ceal_code.specs.Program.{Code}
use Rattle.ceal_code.specs.Replay.{Store, cell_default, shape_of, cleared, stored}
use Rattle.ceal_code.specs.Value.{Plain, field_kind, field_default, is_cell}

-- an older pair, where the block is another
narrow : (b c : ℕ) (ps : Pairs) {d e : BlockId} → IdAlike (record { left = b; right = c } ∷ ps) d e → same_block d (Core b) ≡ false → IdAlike ps d e
narrow b c ps IdAlike.input h = IdAlike.input
narrow b c ps (IdAlike.core Tied.here) h = absurd (grind (arith, h, nat-refl b))
narrow b c ps (IdAlike.core (Tied.there t)) h = IdAlike.core t

shape-alike : (code : Code) {ps : Pairs} {k l : Key} → KeyAlike ps k l → shape_of code k ≡ shape_of code l
shape-alike code (KeyAlike.init h) = refl
shape-alike code KeyAlike.int = refl
shape-alike code KeyAlike.pointer = refl

cell-if : (ps : Pairs) (kind : Option FieldKind) → WordAlike ps (cell_default kind) (cell_default kind)
cell-if ps kind = go (is_cell kind)
  where
    go : (t : Bool) → WordAlike ps (if t then field_default kind else Num (pos 0)) (if t then field_default kind else Num (pos 0))
    go true = field_default-self ps kind
    go false = WordAlike.num

-- a block of a new pair
pub cleared-alike : (code : Code) (b c : ℕ) (ps : Pairs) → OneToOne (record { left = b; right = c } ∷ ps) → {k l : Key} → KeyAlike ps k l → (s t : Store) → StoreAlike ps s t
    → StoreAlike (record { left = b; right = c } ∷ ps) (cleared code s (Core b) k) (cleared code t (Core c) l)
unfolding cleared
cleared-alike code b c ps one {k} {l} kk s t h p q i =
    subst (λ z. WordAlike (record { left = b; right = c } ∷ ps) (if same_block p.block (Core b) then cell_default (field_kind code.structs (shape_of code k) p.field) else s p)
    (if z then cell_default (field_kind code.structs (shape_of code l) q.field) else t q))
    (id-both (record { left = b; right = c } ∷ ps) one i.block (IdAlike.core Tied.here)) (go (same_block p.block (Core b)) refl)
  where
    go : (e : Bool) → same_block p.block (Core b) ≡ e
        → WordAlike (record { left = b; right = c } ∷ ps) (if e then cell_default (field_kind code.structs (shape_of code k) p.field) else s p)
        (if e then cell_default (field_kind code.structs (shape_of code l) q.field) else t q)
    go true e = rw (shape-alike code kk, i.field) (cell-if (record { left = b; right = c } ∷ ps) (field_kind code.structs (shape_of code l) q.field))
    go false e = word-wider ps (record { left = b; right = c } ∷ ps) (more-pair (record { left = b; right = c }) ps) (h p q (record { block = narrow b c ps i.block e; field = i.field }))

-- a block of a pair that is there already
pub cleared-tied : (code : Code) (ps : Pairs) → OneToOne ps → (b c : BlockId) → IdAlike ps b c → {k l : Key} → KeyAlike ps k l → (s t : Store) → StoreAlike ps s t
    → StoreAlike ps (cleared code s b k) (cleared code t c l)
unfolding cleared
cleared-tied code ps one b c i {k} {l} kk s t h p q j =
    subst (λ z. WordAlike ps (if same_block p.block b then cell_default (field_kind code.structs (shape_of code k) p.field) else s p)
    (if z then cell_default (field_kind code.structs (shape_of code l) q.field) else t q)) (id-both ps one j.block i) (go (same_block p.block b))
  where
    go : (e : Bool) → WordAlike ps (if e then cell_default (field_kind code.structs (shape_of code k) p.field) else s p)
        (if e then cell_default (field_kind code.structs (shape_of code l) q.field) else t q)
    go true = rw (shape-alike code kk, j.field) (cell-if ps (field_kind code.structs (shape_of code l) q.field))
    go false = h p q j

pub stored-alike : (ps : Pairs) → OneToOne ps → (s t : Store) (p q : Place) (v w : Word) → StoreAlike ps s t → PlaceAlike ps p q → WordAlike ps v w
    → StoreAlike ps (stored s p v) (stored t q w)
unfolding stored
stored-alike ps one s t p q v w h pq vw r r' k =
    subst (λ z. WordAlike ps (if same_place r p then v else s r) (if z then w else t r')) (place-both ps one r p r' q k pq) (go (same_place r p))
  where
    go : (e : Bool) → WordAlike ps (if e then v else s r) (if e then w else t r')
    go true = vw
    go false = h r r' k

-- a new pair of like blocks
pub plain-with : (structs : List StructInfo) (b c : ℕ) (ps : Pairs) (x y : Plain) (v w : Block) → PlainAlike structs ps x y → x (Core b) ≡ Some v → y (Core c) ≡ Some w → BlockAlike structs ps v w
    → PlainAlike structs (record { left = b; right = c } ∷ ps) x y
plain-with structs b c ps x y v w h e f k d g (IdAlike.input {i = i}) =
    maybe-wider ps (record { left = b; right = c } ∷ ps) (more-pair (record { left = b; right = c }) ps) (h (Input i) (Input i) IdAlike.input)
plain-with structs b c ps x y v w h e f k d g (IdAlike.core Tied.here) =
    rw (e, f) (MaybeAlike.some (block-wider ps (record { left = b; right = c } ∷ ps) (more-pair (record { left = b; right = c }) ps) k))
plain-with structs b c ps x y v w h e f k d g (IdAlike.core (Tied.there t)) =
    maybe-wider ps (record { left = b; right = c } ∷ ps) (more-pair (record { left = b; right = c }) ps) (h d g (IdAlike.core t))
