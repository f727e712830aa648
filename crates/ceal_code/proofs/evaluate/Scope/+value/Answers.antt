use mir.Val.{SFits}
use Rattle.std.proofs.Common.{◌∙◌, w64, rules}
use Rattle.std.proofs.lemmas.Int.{to_z-of_z}
use Rattle.ceal_code.specs.Init.{arguments}
use Rattle.ceal_code.proofs.Equations.ValueSteps.{arithmetic-word, arithmetic-number, binary-number}
use Rattle.ceal_code.proofs.evaluate.Scope.+value.Goals as goal

-- both operands are taken as numbers, and the arithmetic in 64 bits is that of the definition
pub whole-returns-then-is_arithmetic : goal.whole-returns-then-is_arithmetic
whole-returns-then-is_arithmetic g t c =
    let m : SFits w64 c.number-x.result = search rules in
    let n : SFits w64 c.number-y.result = search rules in
    let k : SFits w64 c.arithmetic.result = search rules in
    arithmetic-word c.args.self.now.structs.now (g.P.PlainWords.plain c.args.self.now.plain.now) (arguments c.args.self.now.env.now)
    _ _ _ _ _ _ _ (c.is_arithmetic.ensures c.if-is_arithmetic.true) c.in-Binary.is (rw c.get-then-is_arithmetic.ensures.value at c.number-x.ensures.number)
    (rw c.get-then-is_arithmetic-2.ensures.value at c.number-y.ensures.number)
    (rw (to_z-of_z w64 c.number-x.result m, to_z-of_z w64 c.number-y.result n) at (to_z-of_z w64 c.arithmetic.result k ∙ c.arithmetic.ensures))

-- the same of an operator whose result is asked as a number
pub whole_number-returns-then-is_arithmetic : goal.whole_number-returns-then-is_arithmetic
whole_number-returns-then-is_arithmetic g t c =
    let m : SFits w64 c.number-x.result = search rules in
    let n : SFits w64 c.number-y.result = search rules in
    let k : SFits w64 c.arithmetic.result = search rules in
    arithmetic-number c.args.self.now.structs.now (g.P.PlainWords.plain c.args.self.now.plain.now) (arguments c.args.self.now.env.now)
    _ _ _ _ _ _ _ (c.is_arithmetic.ensures c.if-is_arithmetic.true) c.in-Binary.is (rw c.get.ensures.value at c.number-x.ensures.number)
    (rw c.get-then-is_arithmetic.ensures.value at c.number-y.ensures.number)
    (rw (to_z-of_z w64 c.number-x.result m, to_z-of_z w64 c.number-y.result n) at (to_z-of_z w64 c.arithmetic.result k ∙ c.arithmetic.ensures))

-- any other operator answers a word, of which the number is taken
pub whole_number-returns-in-Binary : goal.whole_number-returns-in-Binary
whole_number-returns-in-Binary g t c =
    let k : SFits w64 c.number.result = search rules in
    binary-number c.args.self.now.structs.now (g.P.PlainWords.plain c.args.self.now.plain.now) (arguments c.args.self.now.env.now)
    _ _ _ _ _ _ _ _ c.in-Binary.is (rw c.get-in-Binary.ensures.value at c.value-left.ensures.value)
    (rw c.get-in-Binary-2.ensures.value at c.value-right.ensures.value) c.apply.ensures (to_z-of_z w64 c.number.result k ∙ c.number.ensures.value)
