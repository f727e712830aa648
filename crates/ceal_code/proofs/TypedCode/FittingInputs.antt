-- Inputs that fit still fit with one input more, and with another base.
use Rattle.std.proofs.Common.{◌≡◌, ◌∙◌, ℕ, zero, suc, Bool, true, false, Option, Some, None, List, [], ◌∷◌, ◌++◌, length, refl, sym, ap, subst, slice_get, slice_set, arith}
use Rattle.std.specs.List.{list_all}
use Rattle.ceal_base.specs.Block.{Block, alone, block_at, with_field, written_at}
use Rattle.ceal_base.specs.Fitting.{kind_in, kind_at, fits_field, block_fits, inputs_fit}
use Rattle.ceal_base.specs.Shapes.{kinds_of_shape}
use Rattle.ceal_base.specs.declared.kind.FieldKind.{FieldKind}
use Rattle.ceal_base.specs.declared.typed.StructInfo.{StructInfo}
use Rattle.ceal_base.specs.declared.word.BlockId.{BlockId}
use Rattle.ceal_base.specs.declared.word.BlockId.TheVariants.{Input, Core}
use Rattle.ceal_base.specs.declared.word.Place.{Place}
use Rattle.ceal_base.specs.declared.word.Word.{Word}
use Rattle.ceal_code.proofs.TypedCode.ShapesKept.{ShapesKept, fields-kept, kept-written}
use Rattle.ceal_code.proofs.Replay.MemoryChanges.{altered, get-before, get-within}
use Rattle.ceal_code.proofs.Words.SameIsEqual.{both, both-true, none-some}
use Rattle.ceal_code.proofs.TypedCode.TypedBlocks.{fields-set}

all-kept : (test test' : Block → Bool) → ((b : Block) → test b ≡ true → test' b ≡ true) → (xs : List Block) → list_all test xs ≡ true → list_all test' xs ≡ true
all-kept test test' k [] h = refl
all-kept test test' k (x ∷ xs) h = let g = both (test x) (list_all test xs) h in both-true (test' x) (list_all test' xs) (k x g.0) (all-kept test test' k xs g.1)

all-push : (test : Block → Bool) (xs : List Block) (b : Block) → list_all test xs ≡ true → test b ≡ true → list_all test (xs ++ b ∷ []) ≡ true
all-push test [] b h k = both-true (test b) true k refl
all-push test (x ∷ xs) b h k = let g = both (test x) (list_all test xs) h in both-true (test x) (list_all test (xs ++ b ∷ [])) g.0 (all-push test xs b g.1 k)

all-set : (test : Block → Bool) (xs : List Block) (n : ℕ) (x : Block) → list_all test xs ≡ true → test x ≡ true → list_all test (slice_set xs n x) ≡ true
all-set test [] n x h k = h
all-set test (y ∷ xs) zero x h k = let g = both (test y) (list_all test xs) h in both-true (test x) (list_all test xs) k g.1
all-set test (y ∷ xs) (suc n) x h k = let g = both (test y) (list_all test xs) h in both-true (test y) (list_all test (slice_set xs n x)) g.0 (all-set test xs n x g.1 k)

all-get : (test : Block → Bool) (xs : List Block) (n : ℕ) (x : Block) → list_all test xs ≡ true → slice_get xs n ≡ Some x → test x ≡ true
all-get test [] n x h e = none-some x e
all-get test (y ∷ xs) zero x h e = let g = both (test y) (list_all test xs) h in subst (λ o. only o ≡ true) e g.0
  where
    only : Option Block → Bool
    only None = true
    only (Some b) = test b
all-get test (y ∷ xs) (suc n) x h e = let g = both (test y) (list_all test xs) h in all-get test xs n x g.1 e

module _ (structs : List StructInfo) where
  abbrev fit : List Block → Block → Bool
  fit inputs = block_fits structs (alone inputs)

  fit-all : (inputs : List Block) → inputs_fit structs inputs ≡ true → list_all (fit inputs) inputs ≡ true
  fit-all inputs h = (both (list_all (fit inputs) inputs) true h).0

  fit-kept : (xs ys : List Block) → ShapesKept (alone xs) (alone ys) → (b : Block) → fit xs b ≡ true → fit ys b ≡ true
  fit-kept xs ys kept b h = fields-kept structs (alone xs) (alone ys) kept (kinds_of_shape structs b.shape) b.words h

  -- one input more
  pub kept-longer : (inputs : List Block) (b : Block) → ShapesKept (alone inputs) (alone (inputs ++ b ∷ []))
  kept-longer inputs b (Input i) block e = (block, get-before inputs (b ∷ []) i (get-within inputs i block e) ∙ e, refl)
  kept-longer inputs b (Core c) block e = none-some block e

  pub longer-fits : (inputs : List Block) (b : Block) → inputs_fit structs inputs ≡ true → block_fits structs (alone inputs) b ≡ true → inputs_fit structs (inputs ++ b ∷ []) ≡ true
  longer-fits inputs b h k =
      let kept = kept-longer inputs b in
      both-true (list_all (fit (inputs ++ b ∷ [])) (inputs ++ b ∷ [])) true
      (all-push (fit (inputs ++ b ∷ [])) inputs b
      (all-kept (fit inputs) (fit (inputs ++ b ∷ [])) (fit-kept inputs (inputs ++ b ∷ []) kept) inputs (fit-all inputs h)) (fit-kept inputs (inputs ++ b ∷ []) kept b k)) refl

  -- another base
  abbrev rebased : List Block → Place → Word → List Block
  rebased inputs p w = (written_at (alone inputs) p.block p.field w).inputs

  -- the word fits the field of this type
  abbrev pub fits_in : List Block → Option FieldKind → Word → Bool
  fits_in inputs None w = false
  fits_in inputs (Some kind) w = fits_field structs (alone inputs) kind w

  module _ (inputs : List Block) (n f : ℕ) (w : Word) (block : Block) (there : slice_get inputs n ≡ Some block) where
    kept-set : ShapesKept (alone inputs) (alone (slice_set inputs n (altered block f w)))
    kept-set = rw there at (kept-written (alone inputs) (Input n) f w block there)

    set-fits : (kind : FieldKind) → slice_get (kinds_of_shape structs block.shape) f ≡ Some kind → fits_field structs (alone inputs) kind w ≡ true
        → inputs_fit structs inputs ≡ true → inputs_fit structs (slice_set inputs n (altered block f w)) ≡ true
    set-fits kind e k h =
        let ys : List Block = slice_set inputs n (altered block f w) in
        let old : fit inputs block ≡ true = all-get (fit inputs) inputs n block (fit-all inputs h) there in
        let new : fit inputs (altered block f w) ≡ true = fields-set structs (alone inputs) (kinds_of_shape structs block.shape) block.words f kind w old e k in
        both-true (list_all (fit ys) ys) true
        (all-kept (fit inputs) (fit ys) (fit-kept inputs ys kept-set) ys (all-set (fit inputs) inputs n (altered block f w) (fit-all inputs h) new)) refl

  -- the inputs after an edit fit, and keep their shapes
  pub record Rebased (inputs : List Block) (p : Place) (w : Word) : Type 0 where
    pub fits : inputs_fit structs (rebased inputs p w) ≡ true
    pub kept : ShapesKept (alone inputs) (alone (rebased inputs p w))
    pub count : length (rebased inputs p w) ≡ length inputs

  base-is : (inputs : List Block) (n f : ℕ) (w : Word) (block : Block) → slice_get inputs n ≡ Some block
      → rebased inputs (record { block = Input n; field = f }) w ≡ slice_set inputs n (altered block f w)
  base-is inputs n f w block e = ap (λ o. with_field inputs o n f w) e

  length-set : (xs : List Block) (n : ℕ) (x : Block) → length (slice_set xs n x) ≡ length xs
  length-set [] n x = refl
  length-set (y ∷ xs) zero x = refl
  length-set (y ∷ xs) (suc n) x = ap suc (length-set xs n x)

  pub edit-fits : (inputs : List Block) (p : Place) (w : Word) → inputs_fit structs inputs ≡ true → fits_in inputs (kind_at structs (alone inputs) p) w ≡ true → Rebased inputs p w
  edit-fits inputs p w h t = of-block p.block t
    where
      at : (n : ℕ) (block : Block) → slice_get inputs n ≡ Some block → (k : Option FieldKind) → slice_get (kinds_of_shape structs block.shape) p.field ≡ k → fits_in inputs k w ≡ true
          → Rebased inputs (record { block = Input n; field = p.field }) w
      at n block e None i g = absurd (grind (arith, g))
      at n block e (Some kind) i g =
          let is = sym (base-is inputs n p.field w block e) in
          record {
            fits = subst (λ ys. inputs_fit structs ys ≡ true) is (set-fits inputs n p.field w block e kind i g h);
            kept = subst (λ ys. ShapesKept (alone inputs) (alone ys)) is (kept-set inputs n p.field w block e);
            count = subst (λ ys. length ys ≡ length inputs) is (length-set inputs n (altered block p.field w));
          }

      of-input : (n : ℕ) (o : Option Block) → slice_get inputs n ≡ o → fits_in inputs (kind_in structs o p.field) w ≡ true → Rebased inputs (record { block = Input n; field = p.field }) w
      of-input n None e g = absurd (grind (arith, g))
      of-input n (Some block) e g = at n block e (slice_get (kinds_of_shape structs block.shape) p.field) refl g

      of-block : (b : BlockId) → fits_in inputs (kind_in structs (block_at (alone inputs) b) p.field) w ≡ true → Rebased inputs (record { block = b; field = p.field }) w
      of-block (Input n) g = of-input n (slice_get inputs n) refl g
      of-block (Core c) g = absurd (grind (arith, g))
