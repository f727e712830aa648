-- Edits of bases that are undone.
use Rattle.std.proofs.Common.{◌≡◌, ℕ, zero, suc, ◌<◌, Option, Some, None, List, [], ◌∷◌, ◌++◌, length, slice_get, slice_set, unwrap_or, refl, sym, ap, ◌∙◌, subst, arith}
use Rattle.ceal_base.specs.Block.{Block, with_field, with_word, written_at, alone}
use Rattle.ceal_base.specs.declared.word.BlockId.{BlockId}
use Rattle.ceal_base.specs.declared.word.BlockId.TheVariants.{Input, Core}
use Rattle.ceal_base.specs.declared.word.Place.{Place}
use Rattle.ceal_base.specs.declared.word.Word.{Word}
use Rattle.ceal_base.specs.declared.word.Word.TheVariants.{Null}
use Rattle.ceal_code.proofs.TypedCode.ShapesKept.{ShapesKept}
use Rattle.ceal_code.proofs.Words.SameIsEqual.{none-some, some-same}
use Rattle.ceal_engine.specs.Engine.{with_base}
use Rattle.ceal_session.specs.UndoneEdits.{undone, word_of, base_in, base_at, IsWithin, AreWithin}
use Rattle.ceal_session.specs.declared.journal.Edit.{Edit}

set-set : {A : Type 0} (xs : List A) (n : ℕ) (x y : A) → slice_set (slice_set xs n x) n y ≡ slice_set xs n y
set-set [] n x y = refl
set-set (z ∷ xs) zero x y = refl
set-set (z ∷ xs) (suc n) x y = ap (λ l. z ∷ l) (set-set xs n x y)

set-same : {A : Type 0} (xs : List A) (n : ℕ) (x : A) → slice_get xs n ≡ Some x → slice_set xs n x ≡ xs
set-same [] n x e = refl
set-same (z ∷ xs) zero x e = ap (λ w. w ∷ xs) (sym (cc e))
set-same (z ∷ xs) (suc n) x e = ap (λ l. z ∷ l) (set-same xs n x e)

-- what was there is put back, or null where nothing was
set-back : (xs : List Word) (n : ℕ) (w : Word) → slice_set (slice_set xs n w) n (unwrap_or (slice_get xs n) Null) ≡ xs
set-back [] n w = refl
set-back (z ∷ xs) zero w = refl
set-back (z ∷ xs) (suc n) w = ap (λ l. z ∷ l) (set-back xs n w)

get-set : {A : Type 0} (xs : List A) (n : ℕ) (x y : A) → slice_get xs n ≡ Some y → slice_get (slice_set xs n x) n ≡ Some x
get-set [] n x y e = none-some y e
get-set (z ∷ xs) zero x y e = refl
get-set (z ∷ xs) (suc n) x y e = get-set xs n x y e

set-longer : {A : Type 0} (xs ys : List A) (n : ℕ) (x : A) → n < length xs → slice_set (xs ++ ys) n x ≡ slice_set xs n x ++ ys
set-longer [] ys n x h = absurd (omega (arith, h))
set-longer (z ∷ xs) ys zero x h = refl
set-longer (z ∷ xs) ys (suc n) x h = ap (λ l. z ∷ l) (set-longer xs ys n x (omega (arith, h)))

get-longer : {A : Type 0} (xs ys : List A) (n : ℕ) → n < length xs → slice_get (xs ++ ys) n ≡ slice_get xs n
get-longer [] ys n h = absurd (omega (arith, h))
get-longer (z ∷ xs) ys zero h = refl
get-longer (z ∷ xs) ys (suc n) h = get-longer xs ys n (omega (arith, h))

set-count : {A : Type 0} (xs : List A) (n : ℕ) (x : A) → length (slice_set xs n x) ≡ length xs
set-count [] n x = refl
set-count (z ∷ xs) zero x = refl
set-count (z ∷ xs) (suc n) x = omega (arith, set-count xs n x)

changed-count : (inputs : List Block) (o : Option Block) (n field : ℕ) (w : Word) → length (with_field inputs o n field w) ≡ length inputs
changed-count inputs None n field w = refl
changed-count inputs (Some b) n field w = set-count inputs n _

pub base-count : (inputs : List Block) (p : Place) (w : Word) → length (with_base inputs p w) ≡ length inputs
base-count inputs p w = go p.block
  where
    go : (b : BlockId) → length (written_at (alone inputs) b p.field w).inputs ≡ length inputs
    go (Input n) = changed-count inputs (slice_get inputs n) n p.field w
    go (Core n) = refl

-- one edit more is undone first
pub undone-more : (es : List Edit) (e : Edit) (inputs : List Block) → undone (es ++ e ∷ []) inputs ≡ undone es (with_base inputs e.place e.base)
undone-more [] e inputs = refl
undone-more (d ∷ es) e inputs = ap (λ i. with_base i d.place d.base) (undone-more es e inputs)

-- an edit that is undone leaves what was there
pub put-back : (inputs : List Block) (p : Place) (word : Word) → with_base (with_base inputs p word) p (base_at inputs p) ≡ inputs
put-back inputs p word = go p.block
  where
    in-block : (n : ℕ) (o : Option Block) → slice_get inputs n ≡ o → with_word (with_field inputs o n p.field word) n p.field (word_of o p.field) ≡ inputs
    in-block n None e = rw e refl
    in-block n (Some b) e =
        rw (get-set inputs n (record b { words = slice_set b.words p.field word }) b e)
        (set-set inputs n (record b { words = slice_set b.words p.field word }) (record b { words = slice_set (slice_set b.words p.field word) p.field (word_of (Some b) p.field) })
        ∙ (ap (λ ws. slice_set inputs n (record b { words = ws })) (set-back b.words p.field word) ∙ set-same inputs n b e))

    go : (b : BlockId) → (written_at (alone (written_at (alone inputs) b p.field word).inputs) b p.field (base_in inputs b p.field)).inputs ≡ inputs
    go (Input n) = in-block n (slice_get inputs n) refl
    go (Core n) = refl

base-longer : (inputs : List Block) (b : Block) (p : Place) (w : Word) → IsWithin (length inputs) p.block → with_base (inputs ++ b ∷ []) p w ≡ with_base inputs p w ++ b ∷ []
base-longer inputs b p w h = go p.block h
  where
    in-block : (n : ℕ) (o : Option Block) → n < length inputs → with_field (inputs ++ b ∷ []) o n p.field w ≡ with_field inputs o n p.field w ++ b ∷ []
    in-block n None h = refl
    in-block n (Some c) h = set-longer inputs (b ∷ []) n _ h

    go : (c : BlockId) → IsWithin (length inputs) c → (written_at (alone (inputs ++ b ∷ [])) c p.field w).inputs ≡ (written_at (alone inputs) c p.field w).inputs ++ b ∷ []
    go (Input n) h = rw (get-longer inputs (b ∷ []) n h) (in-block n (slice_get inputs n) h)
    go (Core n) h = refl

pub undone-count : (es : List Edit) (inputs : List Block) → length (undone es inputs) ≡ length inputs
undone-count [] inputs = refl
undone-count (e ∷ es) inputs = base-count (undone es inputs) e.place e.base ∙ undone-count es inputs

-- an input that comes later is left as it is
pub undone-longer : (es : List Edit) (inputs : List Block) (b : Block) → AreWithin (length inputs) es → undone es (inputs ++ b ∷ []) ≡ undone es inputs ++ b ∷ []
undone-longer [] inputs b h = refl
undone-longer (e ∷ es) inputs b h =
    ap (λ i. with_base i e.place e.base) (undone-longer es inputs b h.1)
    ∙ base-longer (undone es inputs) b e.place e.base (subst (λ n. IsWithin n e.place.block) (sym (undone-count es inputs)) h.0)

-- edits are within more inputs, and so is one more
within-more : (b : BlockId) (n : ℕ) → IsWithin n b → IsWithin (suc n) b
within-more (Input i) n h = omega (arith, h)
within-more (Core c) n h = h

pub are-within-more : (es : List Edit) (n : ℕ) → AreWithin n es → AreWithin (suc n) es
are-within-more [] n h = tt
are-within-more (e ∷ es) n h = (within-more e.place.block n h.0, are-within-more es n h.1)

pub are-within-push : (es : List Edit) (e : Edit) (n : ℕ) → AreWithin n es → IsWithin n e.place.block → AreWithin n (es ++ e ∷ [])
are-within-push [] e n h k = (k, tt)
are-within-push (d ∷ es) e n h k = (h.0, are-within-push es e n h.1 k)

-- only bases change: each block keeps its shape
shape-set : (inputs : List Block) (n i : ℕ) (x block : Block) → slice_get inputs n ≡ Some block → (y : Block) → slice_get inputs i ≡ Some y → x.shape ≡ block.shape
    → (z : Block) × (slice_get (slice_set inputs n x) i ≡ Some z) × (z.shape ≡ y.shape)
shape-set [] n i x block e y h s = none-some y h
shape-set (b ∷ bs) zero zero x block e y h s = (x, refl, s ∙ ap (λ o. o.shape) (some-same block y (sym e ∙ h)))
shape-set (b ∷ bs) zero (suc i) x block e y h s = (y, h, refl)
shape-set (b ∷ bs) (suc n) zero x block e y h s = (y, h, refl)
shape-set (b ∷ bs) (suc n) (suc i) x block e y h s = shape-set bs n i x block e y h s

pub shapes-base : (inputs : List Block) (p : Place) (w : Word) → ShapesKept (alone inputs) (alone (with_base inputs p w))
shapes-base inputs p w (Core c) y h = none-some y h
shapes-base inputs p w (Input i) y h = go p.block
  where
    in-block : (n : ℕ) (o : Option Block) → slice_get inputs n ≡ o → (z : Block) × (slice_get (with_field inputs o n p.field w) i ≡ Some z) × (z.shape ≡ y.shape)
    in-block n None e = (y, h, refl)
    in-block n (Some b) e = shape-set inputs n i (record b { words = slice_set b.words p.field w }) b e y h refl

    go : (b : BlockId) → (z : Block) × (slice_get (written_at (alone inputs) b p.field w).inputs i ≡ Some z) × (z.shape ≡ y.shape)
    go (Input n) = in-block n (slice_get inputs n) refl
    go (Core n) = (y, h, refl)

pub shapes-undone : (es : List Edit) (inputs : List Block) → ShapesKept (alone inputs) (alone (undone es inputs))
shapes-undone [] inputs b y h = (y, h, refl)
shapes-undone (e ∷ es) inputs b y h =
    let k = shapes-undone es inputs b y h in
    let g = shapes-base (undone es inputs) e.place e.base b k.0 k.1 in (g.0, g.1, g.2 ∙ k.2)
