-- What the operators give, as in C (ISO C, 6.5): a quotient is cut off towards 0. Numbers of 64 bits wrap,
-- and a division by 0 gives 0 and has the dividend as its remainder (our own).
use Rattle.std.specs.Prelude.{ℕ, ◌+◌, ◌^◌, nat_lt, ℤ, pos, negsuc, Bool, true, false, not, ◌==◌, ◌&&◌, ◌||◌}
use Rattle.std.specs.Prelude.{if◌then◌else◌, int_lt, int_le, int_rem}
use Rattle.std.specs.Ordering.{int_eq}
use Rattle.std.specs.Int.{w64, int_wrapping_add, int_wrapping_sub, int_wrapping_mul, int_wrapping_div, int_wrapping_neg}
use Rattle.ceal_base.specs.declared.word.BlockId.{BlockId}
use Rattle.ceal_base.specs.declared.word.BlockId.TheVariants.{Input, Core}
use Rattle.ceal_base.specs.declared.word.Place.{Place}
use Rattle.ceal_base.specs.declared.word.Word.{Word}
use Rattle.ceal_base.specs.declared.word.Word.TheVariants.{Num, Null, Block, At}
use Rattle.ceal_base.specs.declared.operators.Unary.{Unary}
use Rattle.ceal_base.specs.declared.operators.Unary.TheVariants.{Neg, Not}
use Rattle.ceal_base.specs.declared.operators.Binary.{Binary}
use Rattle.ceal_base.specs.declared.operators.Binary.TheVariants.{Add, Sub, Mul, Div, Rem, Less, LessEq, More, MoreEq}
use Rattle.ceal_base.specs.declared.operators.Binary.TheVariants.{Same, Differ, And, Or, Pick}

-- a word that is no number counts as 0
abbrev pub number_of : Word → ℤ
number_of (Num n) = n
number_of Null = pos 0
number_of (Block b) = pos 0
number_of (At p) = pos 0

-- a truth value as a number: 1 or 0
abbrev pub truth : Bool → Word
truth true = Num (pos 1)
truth false = Num (pos 0)

-- whether the number is 0
abbrev pub is_zero : ℤ → Bool
is_zero z = int_eq z (pos 0)

-- what an operator on one word gives
abbrev pub unary_value : Unary → Word → Word
unary_value Neg a = Num (int_wrapping_neg w64 (number_of a))
unary_value Not a = truth (is_zero (number_of a))

-- whether two names of blocks are one
abbrev pub same_block : BlockId → BlockId → Bool
same_block (Input a) (Input b) = a == b
same_block (Core a) (Core b) = a == b
same_block (Input a) (Core b) = false
same_block (Core a) (Input b) = false

-- whether two places are one
abbrev pub same_place : Place → Place → Bool
same_place p q = same_block p.block q.block && p.field == q.field

-- whether two words are one
abbrev pub same_word : Word → Word → Bool
same_word (Num m) (Num n) = int_eq m n
same_word Null Null = true
same_word (Block b) (Block c) = same_block b c
same_word (At p) (At q) = same_place p q
same_word _ _ = false

-- the quotient of two numbers
abbrev pub quotient : ℤ → ℤ → ℤ
quotient x y = if is_zero y then pos 0 else int_wrapping_div w64 x y

-- the remainder of two numbers
abbrev pub remainder : ℤ → ℤ → ℤ
remainder x y = if is_zero y then x else int_rem x y

-- the operators on numbers
abbrev pub numbers_value : Binary → ℤ → ℤ → Word
numbers_value Add x y = Num (int_wrapping_add w64 x y)
numbers_value Sub x y = Num (int_wrapping_sub w64 x y)
numbers_value Mul x y = Num (int_wrapping_mul w64 x y)
numbers_value Div x y = Num (quotient x y)
numbers_value Rem x y = Num (remainder x y)
numbers_value Less x y = truth (int_lt x y)
numbers_value LessEq x y = truth (int_le x y)
numbers_value More x y = truth (int_lt y x)
numbers_value MoreEq x y = truth (int_le y x)
numbers_value Same x y = truth (int_eq x y)
numbers_value Differ x y = truth (not (int_eq x y))
numbers_value And x y = truth (not (is_zero x) && not (is_zero y))
numbers_value Or x y = truth (not (is_zero x) || not (is_zero y))
numbers_value (Pick row) x y = Null

-- the modifiable that is this many after the first one of a row: null where the row has none there
abbrev pub element : ℕ → Place → ℤ → Word
element row p (pos i) =
    if nat_lt i row && nat_lt (p.field + i) (2 ^ 32) then At (record { block = p.block; field = p.field + i }) else Null
element row p (negsuc i) = Null

-- the element of a row at an index; null, where the words are no address and no number
abbrev pub picked_element : ℕ → Word → Word → Word
picked_element row (At p) (Num i) = element row p i
picked_element row _ _ = Null

-- what an operator on two words gives
abbrev pub binary_value : Binary → Word → Word → Word
binary_value Same a b = truth (same_word a b)
binary_value Differ a b = truth (not (same_word a b))
binary_value (Pick row) a b = picked_element row a b
binary_value op a b = numbers_value op (number_of a) (number_of b)
