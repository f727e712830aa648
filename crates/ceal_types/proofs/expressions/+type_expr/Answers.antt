use Rattle.std.proofs.Common.{arith}
use Rattle.ceal_types.proofs.ExpressionSteps.{type-place, type-element}
use Rattle.ceal_types.proofs.expressions.+type_expr.Goals as goal

pub returns-in_err-a-in-Field-form : goal.returns-in_err-a-in-Field-form
returns-in_err-a-in-Field-form t c =
    let e = type-place c.args.site.now.program.now c.args.site.now.own c.args.site.now.variables.now c.args.e.now.span c.in-Address.operand c.in-Field-form.a c.in-Field-form.name
    (rw c.get-in-Address.ensures.value at c.in-Field-form.is) in
    grind arith

pub returns-in_ok-a-in-Field-form : goal.returns-in_ok-a-in-Field-form
returns-in_ok-a-in-Field-form t c =
    let e = type-place c.args.site.now.program.now c.args.site.now.own c.args.site.now.variables.now c.args.e.now.span c.in-Address.operand c.in-Field-form.a c.in-Field-form.name
    (rw c.get-in-Address.ensures.value at c.in-Field-form.is) in
    grind arith

-- the row of the element has a fault, which is the first one
pub returns-in_err-a-in-Field-form-2 : goal.returns-in_err-a-in-Field-form-2
returns-in_err-a-in-Field-form-2 t c =
    let e = type-element c.args.site.now.program.now c.args.site.now.own c.args.site.now.variables.now c.args.e.now.span c.in-Pick.operand c.in-Pick.index c.in-Field-form-2.a c.in-Field-form-2.name
    (rw c.get-in-Pick.ensures.value at c.in-Field-form-2.is) in
    grind arith

-- the row has no fault, and the index has one
pub returns-in_err-index-in-Field-form-2 : goal.returns-in_err-index-in-Field-form-2
returns-in_err-index-in-Field-form-2 t c =
    let e = type-element c.args.site.now.program.now c.args.site.now.own c.args.site.now.variables.now c.args.e.now.span c.in-Pick.operand c.in-Pick.index c.in-Field-form-2.a c.in-Field-form-2.name
    (rw c.get-in-Pick.ensures.value at c.in-Field-form-2.is) in
    grind arith

-- neither has a fault, so it depends on their kinds
pub returns-in_ok-index-in-Field-form-2 : goal.returns-in_ok-index-in-Field-form-2
returns-in_ok-index-in-Field-form-2 t c =
    let e = type-element c.args.site.now.program.now c.args.site.now.own c.args.site.now.variables.now c.args.e.now.span c.in-Pick.operand c.in-Pick.index c.in-Field-form-2.a c.in-Field-form-2.name
    (rw c.get-in-Pick.ensures.value at c.in-Field-form-2.is) in
    grind arith
