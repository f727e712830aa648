-- What the operators of sameness say: equal.
use Rattle.std.proofs.Common.{◌≡◌, ℕ, ℤ, Bool, true, false, ◌==◌, ◌&&◌, Some, None, refl, ap, ap₂, arith}
use Rattle.std.specs.Ordering.{int_eq, is_eq, nat_cmp}
use Rattle.ceal_base.specs.Access.{is_struct}
use Rattle.ceal_base.specs.Operators.{same_block, same_place, same_word}
use Rattle.ceal_base.specs.declared.kind.Shape.{Shape}
use Rattle.ceal_base.specs.declared.kind.Shape.TheVariants.{Struct, ModInt, ModPtr}
use Rattle.ceal_base.specs.declared.word.BlockId.{BlockId}
use Rattle.ceal_base.specs.declared.word.BlockId.TheVariants.{Input, Core}
use Rattle.ceal_base.specs.declared.word.Place.{Place}
use Rattle.ceal_base.specs.declared.word.Word.{Word}
use Rattle.ceal_base.specs.declared.word.Word.TheVariants.{Num, Null, Block as BlockWord, At}

pub both : (a b : Bool) → (a && b) ≡ true → (a ≡ true) × (b ≡ true)
both true b h = (refl, h)
both false b h = absurd (grind (arith, h))

pub both-true : (a b : Bool) → a ≡ true → b ≡ true → (a && b) ≡ true
both-true a b h k = rw (h, k)

pub some-same : {A : Type 0} (a b : A) → Some a ≡ Some b → a ≡ b
some-same a b e = grind (arith, e)

pub none-some : {A B : Type 0} (a : A) → None ≡ Some a → B
none-some a e = absurd (grind (arith, e))

pub nat-same : (m n : ℕ) → (m == n) ≡ true → m ≡ n
nat-same m n h = grind (arith, h)

pub nat-refl : (n : ℕ) → (n == n) ≡ true
nat-refl n = grind arith

-- numbers are compared as equal where they are one
pub nat-compared : (m n : ℕ) → is_eq (nat_cmp m n) ≡ (m == n)
nat-compared m n = grind arith

int-same : (m n : ℤ) → int_eq m n ≡ true → m ≡ n
int-same m n h = grind (arith, h)

int-refl : (n : ℤ) → int_eq n n ≡ true
int-refl n = grind arith

pub block-same : (b c : BlockId) → same_block b c ≡ true → b ≡ c
block-same (Input a) (Input b) h = ap Input (nat-same a b h)
block-same (Core a) (Core b) h = ap Core (nat-same a b h)
block-same (Input a) (Core b) h = absurd (grind (arith, h))
block-same (Core a) (Input b) h = absurd (grind (arith, h))

pub place-same : (p q : Place) → same_place p q ≡ true → p ≡ q
place-same p q h =
    let k = both (same_block p.block q.block) (p.field == q.field) h in
    ap₂ (λ b f. record { block = b; field = f }) (block-same p.block q.block k.0) (nat-same p.field q.field k.1)

pub word-same : (v w : Word) → same_word v w ≡ true → v ≡ w
word-same (Num m) (Num n) h = ap Num (int-same m n h)
word-same Null Null h = refl
word-same (BlockWord b) (BlockWord c) h = ap BlockWord (block-same b c h)
word-same (At p) (At q) h = ap At (place-same p q h)
word-same _ _ h = absurd (grind (arith, h))

pub block-refl : (b : BlockId) → same_block b b ≡ true
block-refl (Input n) = nat-refl n
block-refl (Core n) = nat-refl n

pub place-refl : (p : Place) → same_place p p ≡ true
place-refl p = rw (block-refl p.block, nat-refl p.field)

pub word-refl : (w : Word) → same_word w w ≡ true
word-refl (Num n) = int-refl n
word-refl Null = refl
word-refl (BlockWord b) = block-refl b
word-refl (At p) = place-refl p

pub struct-shape : (s : ℕ) (shape : Shape) → is_struct s shape ≡ true → shape ≡ Struct s
struct-shape s (Struct t) h = let e : t ≡ s = grind (arith, h) in ap Struct e
struct-shape s ModInt h = absurd (grind (arith, h))
struct-shape s (ModPtr t) h = absurd (grind (arith, h))
