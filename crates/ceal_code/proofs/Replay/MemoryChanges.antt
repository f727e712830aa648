-- What a write and a new block change in a memory, and what they leave.
use Rattle.std.proofs.Common.{◌≡◌, ℕ, pos, zero, suc, ◌+◌, ◌<◌, ◌==◌, ◌&&◌, Bool, true, false, Option, Some, None, List, [], ◌∷◌, ◌++◌, length, if◌then◌else◌, refl, ap, ◌∙◌, slice_get, slice_set}
use Rattle.std.proofs.Common.{unwrap_or, map, arith}
use Rattle.std.specs.Prelude.{⊤}
use Rattle.ceal_base.specs.Access.{content_of, holds}
use Rattle.ceal_base.specs.Block.{Block, Blocks, block_at, with_word, written_at}
use Rattle.ceal_base.specs.Finished.{with_block}
use Rattle.ceal_base.specs.Operators.{same_block}
use Rattle.ceal_base.specs.Shapes.{default_of_field, default_block, kinds_of_shape}
use Rattle.ceal_base.specs.declared.forest.Key.{Key}
use Rattle.ceal_base.specs.declared.forest.Key.TheVariants.{Init, ModInt as IntKey, ModPtr as PtrKey}
use Rattle.ceal_base.specs.declared.kind.FieldKind.{FieldKind}
use Rattle.ceal_base.specs.declared.kind.FieldKind.TheVariants.{Plain as PlainField, CellInt, CellPtr}
use Rattle.ceal_base.specs.declared.kind.Shape.TheVariants.{Struct}
use Rattle.ceal_base.specs.declared.typed.StructInfo.{StructInfo}
use Rattle.ceal_base.specs.declared.word.BlockId.{BlockId}
use Rattle.ceal_base.specs.declared.word.BlockId.TheVariants.{Input, Core}
use Rattle.ceal_base.specs.declared.word.Place.{Place}
use Rattle.ceal_base.specs.declared.word.Word.{Word}
use Rattle.ceal_base.specs.declared.word.Word.TheVariants.{Num, Null, At}
use Rattle.ceal_code.proofs.Words.SameIsEqual.{nat-same, block-same, none-some}
use Rattle.ceal_code.specs.Init.{set_plain, set_by, set_by_row, set_by_all, arguments, made_by, made}
use Rattle.ceal_code.specs.Program.{Code}
use Rattle.ceal_code.specs.Replay.{Store, cell_default, content_in, shape_in, shape_of, cleared, stored}
use Rattle.ceal_code.specs.Value.{Plain, Variables, field_kind, field_default, is_cell, expr_value}
use Rattle.ceal_code.specs.declared.function.FunctionCode.{FunctionCode}
use Rattle.ceal_code.specs.declared.function.FunctionCode.TheVariants.{Core as CoreFunction, Init as InitFunction}
use Rattle.ceal_code.specs.declared.function.InitStmt.{InitStmt, Set, If' as IfStmt', Row_of-InitStmt, end_of-InitStmt, more_of-InitStmt}

module _ {A : Type 0} where
  pub get-set_here : (xs : List A) (n : ℕ) (x y : A) → slice_get xs n ≡ Some y → slice_get (slice_set xs n x) n ≡ Some x
  get-set_here [] n x y e = none-some y e
  get-set_here (z ∷ xs) zero x y e = refl
  get-set_here (z ∷ xs) (suc n) x y e = get-set_here xs n x y e

  pub get-set_other : (xs : List A) (n k : ℕ) (x : A) → (k == n) ≡ false → slice_get (slice_set xs n x) k ≡ slice_get xs k
  get-set_other [] n k x e = refl
  get-set_other (z ∷ xs) zero zero x e = absurd (grind (arith, e))
  get-set_other (z ∷ xs) zero (suc k) x e = refl
  get-set_other (z ∷ xs) (suc n) zero x e = refl
  get-set_other (z ∷ xs) (suc n) (suc k) x e = get-set_other xs n k x (grind (arith, e))

  pub get-push : (xs : List A) (x : A) → slice_get (xs ++ x ∷ []) (length xs) ≡ Some x
  get-push [] x = refl
  get-push (y ∷ xs) x = get-push xs x

  pub get-push_other : (xs : List A) (x : A) (k : ℕ) → (k == length xs) ≡ false → slice_get (xs ++ x ∷ []) k ≡ slice_get xs k
  get-push_other [] x zero e = absurd (grind (arith, e))
  get-push_other [] x (suc k) e = refl
  get-push_other (y ∷ xs) x zero e = refl
  get-push_other (y ∷ xs) x (suc k) e = get-push_other xs x k (grind (arith, e))

  pub get-before : (xs ys : List A) (k : ℕ) → k < length xs → slice_get (xs ++ ys) k ≡ slice_get xs k
  get-before [] ys k h = absurd (omega (arith, h))
  get-before (x ∷ xs) ys zero h = refl
  get-before (x ∷ xs) ys (suc k) h = get-before xs ys k (omega (arith, h))

  pub get-within : (xs : List A) (k : ℕ) (x : A) → slice_get xs k ≡ Some x → k < length xs
  get-within [] k x e = none-some x e
  get-within (y ∷ xs) zero x e = omega arith
  get-within (y ∷ xs) (suc k) x e = omega (arith, get-within xs k x e)

  pub got : (xs : List A) (i : ℕ) → i < length xs → (a : A) × (slice_get xs i ≡ Some a)
  got [] i h = absurd (omega (arith, h))
  got (x ∷ xs) zero h = (x, refl)
  got (x ∷ xs) (suc i) h = got xs i (omega (arith, h))

-- a block with another word
abbrev pub altered : Block → ℕ → Word → Block
altered block f w = record block { words = slice_set block.words f w }

with_word-is : (blocks : List Block) (n f : ℕ) (w : Word) (block : Block) → slice_get blocks n ≡ Some block → with_word blocks n f w ≡ slice_set blocks n (altered block f w)
with_word-is blocks n f w block e = rw e

pub written-here : (m : Blocks) (b : BlockId) (f : ℕ) (w : Word) (block : Block) → block_at m b ≡ Some block → block_at (written_at m b f w) b ≡ Some (altered block f w)
written-here m (Input n) f w block e = rw (with_word-is m.inputs n f w block e) (get-set_here m.inputs n (altered block f w) block e)
written-here m (Core n) f w block e = rw (with_word-is m.made n f w block e) (get-set_here m.made n (altered block f w) block e)

pub written-other : (m : Blocks) (b c : BlockId) (f : ℕ) (w : Word) (block : Block) → block_at m b ≡ Some block → same_block c b ≡ false → block_at (written_at m b f w) c ≡ block_at m c
written-other m (Input n) (Input k) f w block e h = rw (with_word-is m.inputs n f w block e) (get-set_other m.inputs n k (altered block f w) h)
written-other m (Input n) (Core k) f w block e h = refl
written-other m (Core n) (Input k) f w block e h = refl
written-other m (Core n) (Core k) f w block e h = rw (with_word-is m.made n f w block e) (get-set_other m.made n k (altered block f w) h)

pub length-set : {A : Type 0} (xs : List A) (n : ℕ) (x : A) → length (slice_set xs n x) ≡ length xs
length-set [] n x = refl
length-set (y ∷ xs) zero x = refl
length-set (y ∷ xs) (suc n) x = ap suc (length-set xs n x)

pub written-count : (m : Blocks) (b : BlockId) (f : ℕ) (w : Word) (block : Block) → block_at m b ≡ Some block → length (written_at m b f w).made ≡ length m.made
written-count m (Input n) f w block e = refl
written-count m (Core n) f w block e = rw (with_word-is m.made n f w block e) (length-set m.made n (altered block f w))

pub grown-here : (m : Blocks) (block : Block) → block_at (with_block m block) (Core (length m.made)) ≡ Some block
grown-here m block = get-push m.made block

pub grown-other : (m : Blocks) (block : Block) (c : ℕ) → c < length m.made → block_at (with_block m block) (Core c) ≡ block_at m (Core c)
grown-other m block c h = get-before m.made (block ∷ []) c h

length-push : {A : Type 0} (xs : List A) (x : A) → length (xs ++ x ∷ []) ≡ length xs + 1
length-push [] x = omega arith
length-push (y ∷ xs) x = omega (arith, length-push xs x)

pub grown-count : (m : Blocks) (block : Block) → length (with_block m block).made ≡ length m.made + 1
grown-count m block = length-push m.made block

-- the contents of a memory's modifiables
unfoldable pub contents : Code → Blocks → Store
contents code m = λ p. content_in code.structs (block_at m p.block) p.field

-- the place is that of a modifiable with a content
pub record CellThere (structs : List StructInfo) (m : Blocks) (p : Place) : Type 0 where
  pub block : Block
  pub there : block_at m p.block ≡ Some block
  pub cell : is_cell (field_kind structs block.shape p.field) ≡ true
  pub word : Word
  pub holds : slice_get block.words p.field ≡ Some word

pub content-there : (code : Code) (m : Blocks) (p : Place) (c : CellThere code.structs m p) → contents code m p ≡ c.word
unfolding contents
content-there code m p c = rw (c.there, c.cell, c.holds)

pub content-read : (code : Code) (m : Blocks) (q : Place) (d : Word) → CellThere code.structs m q → content_of m (At q) d ≡ contents code m q
content-read code m q d cell = rw (content-there code m q cell, cell.there, cell.holds)

module _ (code : Code) (m : Blocks) (p : Place) (c : CellThere code.structs m p) (w : Word) where
  field-if : (t : Bool) (f : ℕ) → (f == p.field) ≡ t
      → content_in code.structs (Some (altered c.block p.field w)) f ≡ (if t then w else content_in code.structs (Some c.block) f)
  field-if true f e = let e' : f ≡ p.field = nat-same f p.field e in rw (e', c.cell, get-set_here c.block.words p.field w c.word c.holds)
  field-if false f e = rw (get-set_other c.block.words p.field f w e)

  at-if : (t : Bool) (b : BlockId) (f : ℕ) → same_block b p.block ≡ t
      → content_in code.structs (block_at (written_at m p.block p.field w) b) f ≡ (if t && f == p.field then w else content_in code.structs (block_at m b) f)
  at-if true b f e =
      let e' : b ≡ p.block = block-same b p.block e in
      rw (e', written-here m p.block p.field w c.block c.there, c.there) (field-if (f == p.field) f refl)
  at-if false b f e = rw (written-other m p.block b p.field w c.block c.there e)

  -- a write changes only the content of its place
  pub written-contents : (q : Place) → contents code (written_at m p.block p.field w) q ≡ stored (contents code m) p w q
  unfolding contents stored
  written-contents q = at-if (same_block q.block p.block) q.block q.field refl

-- each modifiable of these fields is at its default
abbrev pub AtDefaults : List FieldKind → List Word → Type 0
AtDefaults [] words = ⊤
AtDefaults (kind ∷ kinds) [] = ⊤
AtDefaults (PlainField k ∷ kinds) (word ∷ words) = AtDefaults kinds words
AtDefaults (CellInt ∷ kinds) (word ∷ words) = (word ≡ Num (pos 0)) × AtDefaults kinds words
AtDefaults (CellPtr s ∷ kinds) (word ∷ words) = (word ≡ Null) × AtDefaults kinds words

new-defaults : (kinds : List FieldKind) → AtDefaults kinds (map default_of_field kinds)
new-defaults [] = tt
new-defaults (PlainField k ∷ kinds) = new-defaults kinds
new-defaults (CellInt ∷ kinds) = (refl, new-defaults kinds)
new-defaults (CellPtr s ∷ kinds) = (refl, new-defaults kinds)

pub set-next : (k : Option FieldKind) (w : Word) (ws : List Word) (n : ℕ) (z : Word) → set_plain k (w ∷ ws) (suc n) z ≡ w ∷ set_plain k ws n z
set-next None w ws n z = refl
set-next (Some (PlainField kind)) w ws n z = refl
set-next (Some CellInt) w ws n z = refl
set-next (Some (CellPtr s)) w ws n z = refl

set-empty : (k : Option FieldKind) (n : ℕ) (z : Word) → set_plain k [] n z ≡ []
set-empty None n z = refl
set-empty (Some (PlainField kind)) n z = refl
set-empty (Some CellInt) n z = refl
set-empty (Some (CellPtr s)) n z = refl

defaults-set : (kinds : List FieldKind) (ws : List Word) (n : ℕ) (z : Word) → AtDefaults kinds ws → AtDefaults kinds (set_plain (slice_get kinds n) ws n z)
defaults-set [] ws n z h = tt
defaults-set (kind ∷ kinds) [] n z h = rw (set-empty (slice_get (kind ∷ kinds) n) n z) tt
defaults-set (PlainField k ∷ kinds) (w ∷ ws) zero z h = h
defaults-set (PlainField k ∷ kinds) (w ∷ ws) (suc n) z h = rw (set-next (slice_get kinds n) w ws n z) (defaults-set kinds ws n z h)
defaults-set (CellInt ∷ kinds) (w ∷ ws) zero z h = h
defaults-set (CellInt ∷ kinds) (w ∷ ws) (suc n) z h = rw (set-next (slice_get kinds n) w ws n z) (h.0, defaults-set kinds ws n z h.1)
defaults-set (CellPtr s ∷ kinds) (w ∷ ws) zero z h = h
defaults-set (CellPtr s ∷ kinds) (w ∷ ws) (suc n) z h = rw (set-next (slice_get kinds n) w ws n z) (h.0, defaults-set kinds ws n z h.1)

module _ (structs : List StructInfo) (x : Plain) (env : Variables) (s : ℕ) where
  defaults-if : (b : Bool) (kinds : List FieldKind) (vs ws : List Word) → AtDefaults kinds vs → AtDefaults kinds ws → AtDefaults kinds (if b then vs else ws)
  defaults-if true kinds vs ws h k = h
  defaults-if false kinds vs ws h k = k

  mutual
    unfolding set_by

    set_by-defaults : (ws : List Word) (stmt : InitStmt) → AtDefaults (kinds_of_shape structs (Struct s)) ws → AtDefaults (kinds_of_shape structs (Struct s)) (set_by structs x env s ws stmt)
    set_by-defaults ws (Set field e) h = defaults-set (kinds_of_shape structs (Struct s)) ws field (expr_value structs x env e) h
    set_by-defaults ws (IfStmt' test _ first _ second) h =
        defaults-if (holds (expr_value structs x env test)) (kinds_of_shape structs (Struct s)) (set_by_row structs x env s ws first) (set_by_row structs x env s ws second)
        (row-defaults ws first h) (row-defaults ws second h)

    row-defaults : (ws : List Word) {n : _} (row : Row_of-InitStmt n) → AtDefaults (kinds_of_shape structs (Struct s)) ws
        → AtDefaults (kinds_of_shape structs (Struct s)) (set_by_row structs x env s ws row)
    row-defaults ws end_of-InitStmt h = h
    row-defaults ws (more_of-InitStmt stmt rest) h = row-defaults (set_by structs x env s ws stmt) rest (set_by-defaults ws stmt h)

  all-defaults : (ws : List Word) (stmts : List InitStmt) → AtDefaults (kinds_of_shape structs (Struct s)) ws → AtDefaults (kinds_of_shape structs (Struct s)) (set_by_all structs x env s ws stmts)
  unfolding set_by_all
  all-defaults ws [] h = h
  all-defaults ws (stmt ∷ rest) h = all-defaults (set_by structs x env s ws stmt) rest (set_by-defaults ws stmt h)

module _ (code : Code) (x : Plain) where
  made_by-shape : (args : List Word) (f : Option FunctionCode) → (made_by code.structs x args f).shape ≡ shape_in f
  made_by-shape args (Some (InitFunction name s params body)) = refl
  made_by-shape args (Some (CoreFunction name entry params)) = refl
  made_by-shape args None = refl

  -- the shape of a new block
  pub made-shape : (key : Key) → (made code x key).shape ≡ shape_of code key
  unfolding made
  made-shape (Init f args) = made_by-shape args (slice_get code.functions f)
  made-shape IntKey = refl
  made-shape (PtrKey s) = refl

  made_by-defaults : (args : List Word) (f : Option FunctionCode) → AtDefaults (kinds_of_shape code.structs (made_by code.structs x args f).shape) (made_by code.structs x args f).words
  made_by-defaults args (Some (InitFunction name s params body)) =
      all-defaults code.structs x (arguments args) s (default_block code.structs (Struct s)).words body (new-defaults (kinds_of_shape code.structs (Struct s)))
  made_by-defaults args (Some (CoreFunction name entry params)) = (refl, tt)
  made_by-defaults args None = (refl, tt)

  -- and its modifiables
  pub made-defaults : (key : Key) → AtDefaults (kinds_of_shape code.structs (made code x key).shape) (made code x key).words
  unfolding made
  made-defaults (Init f args) = made_by-defaults args (slice_get code.functions f)
  made-defaults IntKey = (refl, tt)
  made-defaults (PtrKey s) = (refl, tt)

set_plain-length : (k : Option FieldKind) (ws : List Word) (n : ℕ) (z : Word) → length (set_plain k ws n z) ≡ length ws
set_plain-length None ws n z = refl
set_plain-length (Some (PlainField kind)) ws n z = length-set ws n z
set_plain-length (Some CellInt) ws n z = refl
set_plain-length (Some (CellPtr s)) ws n z = refl

module _ (structs : List StructInfo) (x : Plain) (env : Variables) (s : ℕ) where
  length-if : (b : Bool) (vs ws : List Word) (n : ℕ) → length vs ≡ n → length ws ≡ n → length (if b then vs else ws) ≡ n
  length-if true vs ws n h k = h
  length-if false vs ws n h k = k

  mutual
    unfolding set_by

    set_by-length : (ws : List Word) (stmt : InitStmt) → length (set_by structs x env s ws stmt) ≡ length ws
    set_by-length ws (Set field e) = set_plain-length (field_kind structs (Struct s) field) ws field (expr_value structs x env e)
    set_by-length ws (IfStmt' test _ first _ second) =
        length-if (holds (expr_value structs x env test)) (set_by_row structs x env s ws first) (set_by_row structs x env s ws second) (length ws) (row-length ws first) (row-length ws second)

    row-length : (ws : List Word) {n : _} (row : Row_of-InitStmt n) → length (set_by_row structs x env s ws row) ≡ length ws
    row-length ws end_of-InitStmt = refl
    row-length ws (more_of-InitStmt stmt rest) = row-length (set_by structs x env s ws stmt) rest ∙ set_by-length ws stmt

  all-length : (ws : List Word) (stmts : List InitStmt) → length (set_by_all structs x env s ws stmts) ≡ length ws
  unfolding set_by_all
  all-length ws [] = refl
  all-length ws (stmt ∷ rest) = all-length (set_by structs x env s ws stmt) rest ∙ set_by-length ws stmt

default-length : (kinds : List FieldKind) → length (map default_of_field kinds) ≡ length kinds
default-length [] = refl
default-length (kind ∷ kinds) = ap suc (default-length kinds)

module _ (code : Code) (x : Plain) where
  made_by-full : (args : List Word) (f : Option FunctionCode) → length (made_by code.structs x args f).words ≡ length (kinds_of_shape code.structs (made_by code.structs x args f).shape)
  made_by-full args (Some (InitFunction name s params body)) =
      all-length code.structs x (arguments args) s (default_block code.structs (Struct s)).words body ∙ default-length (kinds_of_shape code.structs (Struct s))
  made_by-full args (Some (CoreFunction name entry params)) = refl
  made_by-full args None = refl

  -- a new block has one word for each field
  pub made-full : (key : Key) → length (made code x key).words ≡ length (kinds_of_shape code.structs (made code x key).shape)
  unfolding made
  made-full (Init f args) = made_by-full args (slice_get code.functions f)
  made-full IntKey = refl
  made-full (PtrKey s) = refl

default-content : (kinds : List FieldKind) (ws : List Word) (n : ℕ) → AtDefaults kinds ws
    → (if is_cell (slice_get kinds n) then unwrap_or (slice_get ws n) (field_default (slice_get kinds n)) else Num (pos 0)) ≡ cell_default (slice_get kinds n)
default-content [] ws n h = refl
default-content (kind ∷ kinds) [] n h = refl
default-content (PlainField k ∷ kinds) (w ∷ ws) zero h = refl
default-content (PlainField k ∷ kinds) (w ∷ ws) (suc n) h = default-content kinds ws n h
default-content (CellInt ∷ kinds) (w ∷ ws) zero h = h.0
default-content (CellInt ∷ kinds) (w ∷ ws) (suc n) h = default-content kinds ws n h.1
default-content (CellPtr s ∷ kinds) (w ∷ ws) zero h = h.0
default-content (CellPtr s ∷ kinds) (w ∷ ws) (suc n) h = default-content kinds ws n h.1

module _ (code : Code) (x : Plain) (m : Blocks) (key : Key) where
  new-content : (f : ℕ) → content_in code.structs (Some (made code x key)) f ≡ cell_default (field_kind code.structs (shape_of code key) f)
  new-content f =
      default-content (kinds_of_shape code.structs (made code x key).shape) (made code x key).words f (made-defaults code x key)
      ∙ ap (λ shape. cell_default (field_kind code.structs shape f)) (made-shape code x key)

  grown-if : (t : Bool) (b : BlockId) (f : ℕ) → same_block b (Core (length m.made)) ≡ t
      → content_in code.structs (block_at (with_block m (made code x key)) b) f
      ≡ (if t then cell_default (field_kind code.structs (shape_of code key) f) else content_in code.structs (block_at m b) f)
  grown-if true b f e =
      let e' : b ≡ Core (length m.made) = block-same b (Core (length m.made)) e in
      rw (e', grown-here m (made code x key)) (new-content f)
  grown-if false (Input i) f e = refl
  grown-if false (Core c) f e = rw (get-push_other m.made (made code x key) c e)

  -- a new block's modifiables are at their defaults, and the others as before
  pub grown-contents : (q : Place) → contents code (with_block m (made code x key)) q ≡ cleared code (contents code m) (Core (length m.made)) key q
  unfolding contents cleared
  grown-contents q = grown-if (same_block q.block (Core (length m.made))) q.block q.field refl
