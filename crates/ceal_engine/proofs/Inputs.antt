-- Inputs that fit still fit with one input more, and with another base; both extend what they were.
use Rattle.std.proofs.Common.{◌≡◌, ℕ, zero, suc, ◌==◌, ◌&&◌, Bool, true, false, if◌then◌else◌, Option, Some, None, List, [], ◌∷◌, ◌++◌, length, refl, sym, ap, ◌∙◌, subst, slice_get, slice_set, arith}
use Rattle.std.specs.List.{list_all}
use Rattle.std.specs.Option.{option_map}
use Rattle.std.specs.Prelude.{IfSome}
use Rattle.ceal_base.specs.Block.{Block, block_at, with_field, alone}
use Rattle.ceal_base.specs.Fitting.{kind_in, kind_at, fits_field, block_fits, inputs_fit}
use Rattle.ceal_base.specs.Shapes.{kinds_of_shape, default_of_field}
use Rattle.ceal_base.specs.declared.kind.FieldKind.{FieldKind}
use Rattle.ceal_base.specs.declared.typed.StructInfo.{StructInfo}
use Rattle.ceal_base.specs.declared.word.BlockId.{BlockId}
use Rattle.ceal_base.specs.declared.word.BlockId.TheVariants.{Input, Core}
use Rattle.ceal_base.specs.declared.word.Place.{Place}
use Rattle.ceal_base.specs.declared.word.Word.{Word}
use Rattle.ceal_code.proofs.TypedCode.ShapesKept.{ShapesKept, words-kept, fields-kept, kept-written}
use Rattle.ceal_code.proofs.Replay.MemoryChanges.{altered, get-before, get-within, get-set_here, get-set_other}
use Rattle.ceal_code.proofs.Words.SameIsEqual.{both, both-true, none-some, nat-same}
use Rattle.ceal_code.proofs.TypedCode.TypedBlocks.{fields-set, words-count}
use Rattle.ceal_code.specs.Fitting.{args_fit, Fits}
use Rattle.ceal_code.specs.Program.{Code}
use Rattle.ceal_code.specs.Replay.{plain_words, plain_block}
use Rattle.ceal_code.specs.Value.{is_cell}
use Rattle.ceal_code.specs.declared.function.FunctionCode.{FunctionCode}
use Rattle.ceal_code.specs.declared.function.FunctionCode.TheVariants.{Core as CoreFunction, Init as InitFunction}
use Rattle.ceal_engine.specs.Engine.{fits_in, with_base}
use Rattle.ceal_engine.specs.Keeping.{argument_count}
use Rattle.ceal_theory.specs.Adjust.{Extended}
use Rattle.ceal_base.specs.declared.call.Call.{Call}

all-kept : (test test' : Block → Bool) → ((b : Block) → test b ≡ true → test' b ≡ true) → (xs : List Block) → list_all test xs ≡ true → list_all test' xs ≡ true
all-kept test test' k [] h = refl
all-kept test test' k (x ∷ xs) h = let g = both (test x) (list_all test xs) h in both-true (test' x) (list_all test' xs) (k x g.0) (all-kept test test' k xs g.1)

all-push : (test : Block → Bool) (xs : List Block) (b : Block) → list_all test xs ≡ true → test b ≡ true → list_all test (xs ++ b ∷ []) ≡ true
all-push test [] b h k = both-true (test b) true k refl
all-push test (x ∷ xs) b h k = let g = both (test x) (list_all test xs) h in both-true (test x) (list_all test (xs ++ b ∷ [])) g.0 (all-push test xs b g.1 k)

all-set : (test : Block → Bool) (xs : List Block) (n : ℕ) (x : Block) → list_all test xs ≡ true → test x ≡ true → list_all test (slice_set xs n x) ≡ true
all-set test [] n x h k = h
all-set test (y ∷ xs) zero x h k = let g = both (test y) (list_all test xs) h in both-true (test x) (list_all test xs) k g.1
all-set test (y ∷ xs) (suc n) x h k = let g = both (test y) (list_all test xs) h in both-true (test y) (list_all test (slice_set xs n x)) g.0 (all-set test xs n x g.1 k)

pub all-get : (test : Block → Bool) (xs : List Block) (n : ℕ) (x : Block) → list_all test xs ≡ true → slice_get xs n ≡ Some x → test x ≡ true
all-get test [] n x h e = none-some x e
all-get test (y ∷ xs) zero x h e = let g = both (test y) (list_all test xs) h in subst (λ o. only o ≡ true) e g.0
  where
    only : Option Block → Bool
    only None = true
    only (Some b) = test b
all-get test (y ∷ xs) (suc n) x h e = let g = both (test y) (list_all test xs) h in all-get test xs n x g.1 e

module _ (structs : List StructInfo) where
  abbrev fit : List Block → Block → Bool
  fit inputs = block_fits structs (alone inputs)

  pub fit-all : (inputs : List Block) → inputs_fit structs inputs ≡ true → list_all (fit inputs) inputs ≡ true
  fit-all inputs h = (both (list_all (fit inputs) inputs) true h).0

  fit-kept : (xs ys : List Block) → ShapesKept (alone xs) (alone ys) → (b : Block) → fit xs b ≡ true → fit ys b ≡ true
  fit-kept xs ys kept b h = fields-kept structs (alone xs) (alone ys) kept (kinds_of_shape structs b.shape) b.words h

  -- one input more
  pub kept-longer : (inputs : List Block) (b : Block) → ShapesKept (alone inputs) (alone (inputs ++ b ∷ []))
  kept-longer inputs b (Input i) block e = (block, get-before inputs (b ∷ []) i (get-within inputs i block e) ∙ e, refl)
  kept-longer inputs b (Core c) block e = none-some block e

  pub longer-fits : (inputs : List Block) (b : Block) → inputs_fit structs inputs ≡ true → block_fits structs (alone inputs) b ≡ true → inputs_fit structs (inputs ++ b ∷ []) ≡ true
  longer-fits inputs b h k =
      let kept = kept-longer inputs b in
      both-true (list_all (fit (inputs ++ b ∷ [])) (inputs ++ b ∷ [])) true
      (all-push (fit (inputs ++ b ∷ [])) inputs b
      (all-kept (fit inputs) (fit (inputs ++ b ∷ [])) (fit-kept inputs (inputs ++ b ∷ []) kept) inputs (fit-all inputs h)) (fit-kept inputs (inputs ++ b ∷ []) kept b k)) refl

  -- another base
  module _ (inputs : List Block) (n f : ℕ) (w : Word) (block : Block) (there : slice_get inputs n ≡ Some block) where
    kept-set : ShapesKept (alone inputs) (alone (slice_set inputs n (altered block f w)))
    kept-set = rw there at (kept-written (alone inputs) (Input n) f w block there)

    set-fits : (kind : FieldKind) → slice_get (kinds_of_shape structs block.shape) f ≡ Some kind → fits_field structs (alone inputs) kind w ≡ true
        → inputs_fit structs inputs ≡ true → inputs_fit structs (slice_set inputs n (altered block f w)) ≡ true
    set-fits kind e k h =
        let ys : List Block = slice_set inputs n (altered block f w) in
        let old : fit inputs block ≡ true = all-get (fit inputs) inputs n block (fit-all inputs h) there in
        let new : fit inputs (altered block f w) ≡ true = fields-set structs (alone inputs) (kinds_of_shape structs block.shape) block.words f kind w old e k in
        both-true (list_all (fit ys) ys) true
        (all-kept (fit inputs) (fit ys) (fit-kept inputs ys kept-set) ys (all-set (fit inputs) inputs n (altered block f w) (fit-all inputs h) new)) refl

  -- the inputs after an edit fit, and keep their shapes
  pub record Edited (inputs : List Block) (p : Place) (w : Word) : Type 0 where
    pub fits : inputs_fit structs (with_base inputs p w) ≡ true
    pub kept : ShapesKept (alone inputs) (alone (with_base inputs p w))
    pub count : length (with_base inputs p w) ≡ length inputs

  base-is : (inputs : List Block) (n f : ℕ) (w : Word) (block : Block) → slice_get inputs n ≡ Some block
      → with_base inputs (record { block = Input n; field = f }) w ≡ slice_set inputs n (altered block f w)
  base-is inputs n f w block e = ap (λ o. with_field inputs o n f w) e

  length-set : (xs : List Block) (n : ℕ) (x : Block) → length (slice_set xs n x) ≡ length xs
  length-set [] n x = refl
  length-set (y ∷ xs) zero x = refl
  length-set (y ∷ xs) (suc n) x = ap suc (length-set xs n x)

  pub edit-fits : (inputs : List Block) (p : Place) (w : Word) → inputs_fit structs inputs ≡ true
      → (is_cell (kind_at structs (alone inputs) p) && fits_in structs (alone inputs) (kind_at structs (alone inputs) p) w) ≡ true → Edited inputs p w
  edit-fits inputs p w h t = of-block p.block (both (is_cell (kind_at structs (alone inputs) p)) (fits_in structs (alone inputs) (kind_at structs (alone inputs) p) w) t).1
    where
      at : (n : ℕ) (block : Block) → slice_get inputs n ≡ Some block → (k : Option FieldKind) → slice_get (kinds_of_shape structs block.shape) p.field ≡ k → fits_in structs (alone inputs) k w ≡ true
          → Edited inputs (record { block = Input n; field = p.field }) w
      at n block e None i g = absurd (grind (arith, g))
      at n block e (Some kind) i g =
          let is = sym (base-is inputs n p.field w block e) in
          record {
            fits = subst (λ ys. inputs_fit structs ys ≡ true) is (set-fits inputs n p.field w block e kind i g h);
            kept = subst (λ ys. ShapesKept (alone inputs) (alone ys)) is (kept-set inputs n p.field w block e);
            count = subst (λ ys. length ys ≡ length inputs) is (length-set inputs n (altered block p.field w));
          }

      of-input : (n : ℕ) (o : Option Block) → slice_get inputs n ≡ o → fits_in structs (alone inputs) (kind_in structs o p.field) w ≡ true
          → Edited inputs (record { block = Input n; field = p.field }) w
      of-input n None e g = absurd (grind (arith, g))
      of-input n (Some block) e g = at n block e (slice_get (kinds_of_shape structs block.shape) p.field) refl g

      of-block : (b : BlockId) → fits_in structs (alone inputs) (kind_in structs (block_at (alone inputs) b) p.field) w ≡ true → Edited inputs (record { block = b; field = p.field }) w
      of-block (Input n) g = of-input n (slice_get inputs n) refl g
      of-block (Core c) g = absurd (grind (arith, g))

-- a call that fits still fits
module _ (code : Code) (xs ys : List Block) (kept : ShapesKept (alone xs) (alone ys)) (fits : inputs_fit code.structs ys ≡ true) where
  args-kept : (f : Option FunctionCode) (args : List Word) → args_fit code.structs (alone xs) f args ≡ true → args_fit code.structs (alone ys) f args ≡ true
  args-kept None args h = h
  args-kept (Some (InitFunction name s params body)) args h = h
  args-kept (Some (CoreFunction name entry params)) args h = words-kept code.structs (alone xs) (alone ys) kept params args h

  pub call-kept : (call : Option Call) → IfSome call (λ call. Fits code xs call.function call.args) → IfSome call (λ call. Fits code ys call.function call.args)
  call-kept None h = tt
  call-kept (Some call) h = record { is_valid = h.is_valid; blocks = fits; words = args-kept (slice_get code.functions call.function) call.args h.words }

-- a trace still replays where each old input has its shape and its plain words
pub extended-refl : (code : Code) (inputs : List Block) → Extended code inputs inputs
extended-refl code inputs i block e = ap (option_map (plain_block code.structs)) e

pub extended-longer : (code : Code) (inputs : List Block) (b : Block) → Extended code inputs (inputs ++ b ∷ [])
extended-longer code inputs b i block e = ap (option_map (plain_block code.structs)) (get-before inputs (b ∷ []) i (get-within inputs i block e) ∙ e)

plain-set : (kinds : List FieldKind) (words : List Word) (f : ℕ) (w : Word) → is_cell (slice_get kinds f) ≡ true → plain_words kinds (slice_set words f w) ≡ plain_words kinds words
plain-set [] words f w e = absurd (grind (arith, e))
plain-set (kind ∷ kinds) [] f w e = refl
plain-set (kind ∷ kinds) (v ∷ words) zero w e = rw e refl
plain-set (kind ∷ kinds) (v ∷ words) (suc f) w e = ap (λ ws. (if is_cell (Some kind) then default_of_field kind else v) ∷ ws) (plain-set kinds words f w e)

module _ (code : Code) (inputs : List Block) (n f : ℕ) (w : Word) (block : Block) (there : slice_get inputs n ≡ Some block)
    (cell : is_cell (slice_get (kinds_of_shape code.structs block.shape) f) ≡ true) where
  plain-altered : plain_block code.structs (altered block f w) ≡ plain_block code.structs block
  plain-altered = ap (λ ws. record { shape = block.shape; words = ws }) (plain-set (kinds_of_shape code.structs block.shape) block.words f w cell)

  extended-set : Extended code inputs (slice_set inputs n (altered block f w))
  extended-set i b e = go (i == n) refl
    where
      same : Some block ≡ Some b → option_map (plain_block code.structs) (Some (altered block f w)) ≡ Some (plain_block code.structs b)
      same h = ap Some plain-altered ∙ ap (option_map (plain_block code.structs)) h

      go : (t : Bool) → (i == n) ≡ t → option_map (plain_block code.structs) (slice_get (slice_set inputs n (altered block f w)) i) ≡ Some (plain_block code.structs b)
      go true k =
          let m : i ≡ n = nat-same i n k in
          rw m (ap (option_map (plain_block code.structs)) (get-set_here inputs n (altered block f w) block there) ∙ same (sym there ∙ (ap (slice_get inputs) (sym m) ∙ e)))
      go false k = ap (option_map (plain_block code.structs)) (get-set_other inputs n i (altered block f w) k ∙ e)

pub extended-edit : (code : Code) (inputs : List Block) (p : Place) (w : Word) → is_cell (kind_at code.structs (alone inputs) p) ≡ true → Extended code inputs (with_base inputs p w)
extended-edit code inputs p w t = of-block p.block t
  where
    of-input : (n : ℕ) (o : Option Block) → slice_get inputs n ≡ o → is_cell (kind_in code.structs o p.field) ≡ true
        → Extended code inputs (with_base inputs (record { block = Input n; field = p.field }) w)
    of-input n None e g = absurd (grind (arith, g))
    of-input n (Some block) e g =
        subst (λ ys. Extended code inputs ys) (sym (ap (λ o. with_field inputs o n p.field w) e)) (extended-set code inputs n p.field w block e g)

    of-block : (b : BlockId) → is_cell (kind_in code.structs (block_at (alone inputs) b) p.field) ≡ true → Extended code inputs (with_base inputs (record { block = b; field = p.field }) w)
    of-block (Input n) g = of-input n (slice_get inputs n) refl g
    of-block (Core c) g = absurd (grind (arith, g))

-- a call has as many arguments as its function has parameters
pub argument-number : (code : Code) (inputs : List Block) (f : ℕ) (args : List Word) → Fits code inputs f args → argument_count (slice_get code.functions f) ≡ length args
argument-number code inputs f args h = go (slice_get code.functions f) h.words
  where
    go : (o : Option FunctionCode) → args_fit code.structs (alone inputs) o args ≡ true → argument_count o ≡ length args
    go None e = absurd (grind (arith, e))
    go (Some (InitFunction name s params body)) e = absurd (grind (arith, e))
    go (Some (CoreFunction name entry params)) e = words-count code.structs (alone inputs) params args e
