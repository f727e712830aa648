-- Known blocks one after another, and what a memory has that knows them.
use Rattle.std.proofs.Common.{◌≡◌, ℕ, suc, ◌+◌, ◌<◌, ◌≤◌, Bool, true, false, if◌then◌else◌, Option, Some, None, List, [], ◌∷◌, ◌++◌, append-nil, length, refl, sym, ap, ◌∙◌, inl, inr, ◌⊎◌, arith}
use Rattle.std.proofs.Math.Path.{fun_ext}
use Rattle.ceal_base.specs.Block.{Block}
use Rattle.ceal_base.specs.Operators.{same_block}
use Rattle.ceal_base.specs.declared.word.BlockId.{BlockId}
use Rattle.ceal_base.specs.declared.word.BlockId.TheVariants.{Input, Core}
use Rattle.ceal_base.specs.declared.word.Place.{Place}
use Rattle.ceal_code.specs.Program.{Code}
use Rattle.ceal_code.specs.Replay.{Store, learnt, input_plain, bases}
use Rattle.ceal_code.specs.Tables.{defaulted}
use Rattle.ceal_code.specs.Value.{Plain}
use Rattle.ceal_adjust.specs.KnownBlocks.{Numbered, nothing, knowing, defaulting, IsKnown, block_list, blocks_below}
use Rattle.std.proofs.lemmas.Bool.{cases_order}
use Rattle.ceal_theory.specs.Slices.{with_inputs, default_in, starting}

pub knowing-none : (x : Plain) (ks : List Numbered) → length ks ≡ 0 → knowing x ks ≡ x
unfolding knowing
knowing-none x [] e = refl
knowing-none x (k ∷ ks) e = absurd cc

pub knowing-more : (x : Plain) (k : Numbered) (ks : List Numbered) → knowing x (k ∷ ks) ≡ knowing (learnt x (Core k.number) k.block) ks
unfolding knowing
knowing-more x k ks = refl

pub defaulting-none : (code : Code) (s : Store) (ks : List Numbered) → length ks ≡ 0 → defaulting code s ks ≡ s
unfolding defaulting
defaulting-none code s [] e = refl
defaulting-none code s (k ∷ ks) e = absurd cc

pub defaulting-more : (code : Code) (s : Store) (k : Numbered) (ks : List Numbered) → defaulting code s (k ∷ ks) ≡ defaulting code (defaulted code s (Core k.number) k.block) ks
unfolding defaulting
defaulting-more code s k ks = refl

pub ruleset knowing_steps = (knowing-more, defaulting-more)

-- one more at the end
pub knowing-end : (x : Plain) (ks : List Numbered) (k : Numbered) → knowing x (ks ++ k ∷ []) ≡ learnt (knowing x ks) (Core k.number) k.block
unfolding knowing
knowing-end x [] k = refl
knowing-end x (l ∷ ks) k = knowing-end (learnt x (Core l.number) l.block) ks k

-- what is known of a core block does not come from inputs
pub knowing-core : (x y : Plain) (b : ℕ) (ks : List Numbered) → x (Core b) ≡ y (Core b) → knowing x ks (Core b) ≡ knowing y ks (Core b)
unfolding knowing learnt
knowing-core x y b [] e = e
knowing-core x y b (k ∷ ks) e =
    knowing-core (learnt x (Core k.number) k.block) (learnt y (Core k.number) k.block) b ks (ap (λ (o : Option Block). if same_block (Core b) (Core k.number) then Some k.block else o) e)

pub knowing-input : (x : Plain) (i : ℕ) (ks : List Numbered) → knowing x ks (Input i) ≡ x (Input i)
unfolding knowing learnt
knowing-input x i [] = refl
knowing-input x i (k ∷ ks) = knowing-input (learnt x (Core k.number) k.block) i ks

module _ (code : Code) (inputs : List Block) (known : Plain) (ks : List Numbered) (same : (b : ℕ) → knowing nothing ks (Core b) ≡ known (Core b)) where
  core-known : (b : ℕ) → knowing (input_plain code inputs) ks (Core b) ≡ known (Core b)
  unfolding input_plain
  core-known b = knowing-core (input_plain code inputs) nothing b ks refl ∙ same b

  -- a memory of the inputs that knows the blocks has the plain words of a repair
  pub known-plain : knowing (input_plain code inputs) ks ≡ with_inputs code inputs known
  unfolding with_inputs
  known-plain = fun_ext at
    where
      at : (b : BlockId) → knowing (input_plain code inputs) ks b ≡ with_inputs code inputs known b
      at (Input i) = knowing-input (input_plain code inputs) i ks
      at (Core b) = core-known b

  -- a place of a core block has the default
  default-core : (x : Plain) (s : Store) (b field : ℕ) (ls : List Numbered) → s (record { block = Core b; field = field }) ≡ default_in code.structs (x (Core b)) field
      → defaulting code s ls (record { block = Core b; field = field }) ≡ default_in code.structs (knowing x ls (Core b)) field
  unfolding defaulting knowing defaulted learnt
  default-core x s b field [] e = e
  default-core x s b field (l ∷ ls) e = default-core (learnt x (Core l.number) l.block) (defaulted code s (Core l.number) l.block) b field ls (of (same_block (Core b) (Core l.number)) refl)
    where
      of : (t : Bool) → same_block (Core b) (Core l.number) ≡ t
          → defaulted code s (Core l.number) l.block (record { block = Core b; field = field }) ≡ default_in code.structs (learnt x (Core l.number) l.block (Core b)) field
      of true k = rw k refl
      of false k = rw k e

  default-input : (s : Store) (i field : ℕ) (ls : List Numbered) → defaulting code s ls (record { block = Input i; field = field }) ≡ s (record { block = Input i; field = field })
  unfolding defaulting defaulted
  default-input s i field [] = refl
  default-input s i field (l ∷ ls) = default-input (defaulted code s (Core l.number) l.block) i field ls

  -- and the contents with which a slice begins
  pub known-store : defaulting code (bases code inputs) ks ≡ starting code inputs known
  unfolding bases input_plain starting
  known-store = fun_ext at
    where
      base : (b field : ℕ) → bases code inputs (record { block = Core b; field = field }) ≡ default_in code.structs (input_plain code inputs (Core b)) field
      base b field = refl

      of : (b : BlockId) (field : ℕ) → defaulting code (bases code inputs) ks (record { block = b; field = field }) ≡ starting code inputs known (record { block = b; field = field })
      of (Input i) field = default-input (bases code inputs) i field ks
      of (Core b) field = default-core (input_plain code inputs) (bases code inputs) b field ks (base b field) ∙ ap (λ o. default_in code.structs o field) (core-known b)

      at : (p : Place) → defaulting code (bases code inputs) ks p ≡ starting code inputs known p
      at p = of p.block p.field

-- the list with the block of the next number, if it is known
blocks-next : (x : Plain) (n : ℕ) (ks : List Numbered) → ks ≡ blocks_below n x → ks ++ block_list n (x (Core n)) ≡ blocks_below (n + 1) x
unfolding blocks_below
blocks-next x n ks e = rw (more-is n) (ap (λ l. l ++ block_list n (x (Core n))) e)
  where
    more-is : (k : ℕ) → k + 1 ≡ suc k
    more-is k = omega arith

blocks-none : (x : Plain) (n : ℕ) (ks : List Numbered) → ks ≡ blocks_below n x → x (Core n) ≡ None → ks ≡ blocks_below (n + 1) x
blocks-none x n ks h e = sym (append-nil ks) ∙ (ap (λ o. ks ++ block_list n o) (sym e) ∙ blocks-next x n ks h)

blocks-some : (x : Plain) (n : ℕ) (ks : List Numbered) (k : Numbered) → ks ≡ blocks_below n x → k.number ≡ n → x (Core n) ≡ Some k.block
    → ks ++ k ∷ [] ≡ blocks_below (n + 1) x
blocks-some x n ks k h m e = ap (λ i. ks ++ record { number = i; block = k.block } ∷ []) m ∙ (ap (λ o. ks ++ block_list n o) (sym e) ∙ blocks-next x n ks h)

blocks-zero : (x : Plain) → [] ≡ blocks_below 0 x
unfolding blocks_below
blocks-zero x = refl

-- the known blocks below a number
pub record Below (x : Plain) (n : ℕ) (ks : List Numbered) : Type 0 where
  pub listed : ks ≡ blocks_below n x
  pub below : (b : ℕ) → b < n → knowing nothing ks (Core b) ≡ x (Core b)
  pub others : (b : ℕ) → n ≤ b → knowing nothing ks (Core b) ≡ None

-- the block of the next number, if it is known
pub below-none : (x : Plain) (n : ℕ) (ks : List Numbered) → Below x n ks → IsKnown n (x (Core n)) None → Below x (n + 1) ks
below-none x n ks h e = record {
  listed = blocks-none x n ks h.listed e;
  below = λ b l. of b (cases_order b n) l;
  others = λ b l. h.others b (omega (arith, l));
}
  where
    of : (b : ℕ) → (b ≡ n) ⊎ ((b < n) ⊎ (n < b)) → b < n + 1 → knowing nothing ks (Core b) ≡ x (Core b)
    of b (inl k) l = h.others b (omega (arith, k)) ∙ (sym e ∙ ap (λ c. x (Core c)) (sym k))
    of b (inr (inl k)) l = h.below b k
    of b (inr (inr k)) l = absurd (omega (arith, k, l))

block-here : (b : ℕ) → same_block (Core b) (Core b) ≡ true
block-here b = grind arith

pub below-some : (x : Plain) (n : ℕ) (ks : List Numbered) (k : Numbered) → Below x n ks → IsKnown n (x (Core n)) (Some k) → Below x (n + 1) (ks ++ k ∷ [])
unfolding learnt
below-some x n ks k h e = record {
  listed = blocks-some x n ks k h.listed e.0 e.1;
  below = λ b l. rw (knowing-end nothing ks k, e.0) (of b (cases_order b n) l);
  others = λ b l. rw (knowing-end nothing ks k, e.0) (apart b (omega (arith, l)) ∙ h.others b (omega (arith, l)));
}
  where
    apart : (b : ℕ) → ¬ (b ≡ n) → learnt (knowing nothing ks) (Core n) k.block (Core b) ≡ knowing nothing ks (Core b)
    apart b d = go (same_block (Core b) (Core n)) refl
      where
        go : (t : Bool) → same_block (Core b) (Core n) ≡ t → (if t then Some k.block else knowing nothing ks (Core b)) ≡ knowing nothing ks (Core b)
        go false f = refl
        go true f = absurd (d (grind (arith, f)))

    here : learnt (knowing nothing ks) (Core n) k.block (Core n) ≡ Some k.block
    here = rw (block-here n) refl

    of : (b : ℕ) → (b ≡ n) ⊎ ((b < n) ⊎ (n < b)) → b < n + 1 → learnt (knowing nothing ks) (Core n) k.block (Core b) ≡ x (Core b)
    of b (inl f) l = rw f (here ∙ sym e.1)
    of b (inr (inl f)) l = apart b (λ g. absurd (omega (arith, f, g))) ∙ h.below b f
    of b (inr (inr f)) l = absurd (omega (arith, f, l))

pub below-zero : (x : Plain) (ks : List Numbered) → ks ≡ [] → Below x 0 ks
unfolding knowing
below-zero x ks e = record {
  listed = e ∙ blocks-zero x;
  below = λ b l. absurd (omega (arith, l));
  others = λ b l. rw e refl;
}
