use Rattle.std.proofs.Common.{◌≡◌, ◌<◌, ℕ, zero, suc, pos, arith, rules, slice_index, slice_get, Option, Some, None, List, [], ◌∷◌, refl}
use Rattle.std.specs.Option.{option_map}
use Rattle.std.specs.List.{IsDistinct}
use Rattle.ceal_base.specs.Block.{Block}
use Rattle.ceal_base.specs.Operators.{binary_value}
use Rattle.ceal_base.specs.Same.{Same, renamed_block}
use Rattle.ceal_base.specs.Trace.{trace_of, Nothing, Stepped, WasRead, Wrote}
use Rattle.ceal_base.specs.declared.forest.Item.TheVariants.{Step, Write, Read, End}
use Rattle.ceal_base.specs.declared.operators.Binary.TheVariants.{Add, Div, Rem, Pick}
use Rattle.ceal_base.specs.declared.word.BlockId.TheVariants.{Input, Core}
use Rattle.ceal_base.specs.declared.word.Place.{Place}
use Rattle.ceal_base.specs.declared.kind.Shape.TheVariants.{Struct}
use Rattle.ceal_base.specs.declared.word.Word.{Word}
use Rattle.ceal_base.specs.declared.word.Word.TheVariants.{Num, Null, Block as BlockWord, At}
use Rattle.std.proofs.Common.{negsuc}

abbrev a : Place
a = record { block = Input 0; field = 0 }

reads : trace_of (Step ∷ Read a (Num (pos 4)) (record { 0 = 1 }) 2 [] ∷ Step ∷ Write a (Num (pos 5)) ∷ End ∷ [])
    ≡ Some (Stepped (WasRead a (Num (pos 4)) (record { 0 = 1 }) 2 [] (Stepped (Wrote a (Num (pos 5)) Nothing)) Nothing))
reads = refl

unclosed : trace_of (Step ∷ Read a (Num (pos 4)) (record { 0 = 1 }) 2 [] ∷ Step ∷ []) ≡ None
unclosed = refl

least_by_minus_one : binary_value Div (Num (negsuc 9223372036854775807)) (Num (negsuc 0)) ≡ Num (negsuc 9223372036854775807)
least_by_minus_one = refl

wraps : binary_value Add (Num (pos 9223372036854775807)) (Num (pos 1)) ≡ Num (negsuc 9223372036854775807)
wraps = refl

remainder_sign : binary_value Rem (Num (negsuc 6)) (Num (pos 4)) ≡ Num (negsuc 2)
remainder_sign = refl

no_number : binary_value Add Null (Num (pos 1)) ≡ Num (pos 1)
no_number = refl

-- a row of four from field 1 on: an element, and no element past it and before it
abbrev row : Word
row = At (record { block = Input 0; field = 1 })

an_element : binary_value (Pick 4) row (Num (pos 3)) ≡ At (record { block = Input 0; field = 4 })
an_element = refl

none_past_it : binary_value (Pick 4) row (Num (pos 4)) ≡ Null
none_past_it = refl

none_before_it : binary_value (Pick 4) row (Num (negsuc 0)) ≡ Null
none_before_it = refl

none_of_null : binary_value (Pick 4) Null (Num (pos 0)) ≡ Null
none_of_null = refl

abbrev cell : Word → Word → Block
cell head tail = record { shape = Struct 0; words = head ∷ tail ∷ [] }

abbrev core : ℕ → Option Block
core n = Some (cell (Num (pos n)) (BlockWord (Core 3)))

abbrev made : List Block
made = cell (Num (pos 7)) (BlockWord (Core 1)) ∷ cell (Num (pos 3)) (BlockWord (Core 1)) ∷ []

each : (i : ℕ) → i < 2 → option_map (renamed_block (7 ∷ 3 ∷ [])) (core (slice_index (7 ∷ 3 ∷ []) i)) ≡ slice_get made i
each zero h = refl
each (suc zero) h = refl
each (suc (suc i)) h = absurd (omega arith)

same : Same (7 ∷ 3 ∷ []) [] core (record { inputs = []; made = made })
unfolding IsDistinct
same = record { distinct = search rules; each_input = refl; count = refl; each_core = each }
