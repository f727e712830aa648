use Rattle.std.proofs.Common.{rules, ◌≡◌, Result, Ok, Err}
use Rattle.ceal_base.specs.declared.fault.FrontError.{FrontError}
use Rattle.ceal_base.specs.declared.fault.FrontError.TheVariants.{Fault as FaultError}
use Rattle.ceal_base.specs.declared.typed.Typed.{Typed}
use Rattle.ceal_compile.proofs.Answering.{comes_of, faults_of, given_back, settled_as, settled_fails, tokens_fault, tokens_only, tree_fault, tree_only}
use Rattle.ceal_compile.proofs.ShortLists.{short_lists}
use Rattle.ceal_compile.proofs.compile.read_part.Goals as goal

pub returns-in_err-tokens-clause-only : goal.returns-in_err-tokens-clause-only
returns-in_err-tokens-clause-only c r h =
    let same : c.from_residual.result ≡ Err c.in_err-tokens.field-0.0 = search rules in
    given_back _ _ r same (tokens_fault _ _ _ c.in_err-tokens.ensures.all c.in_err-tokens.ensures.only r h)

pub returns-in_err-tree-clause-only : goal.returns-in_err-tree-clause-only
returns-in_err-tree-clause-only c r h =
    let same : c.from_residual-in_err-tree.result ≡ Err c.in_err-tree.field-0.0 = search rules in
    let fails = tree_fault c.in_ok-tokens.tokens _ c.in_err-tree.ensures.all c.in_err-tree.ensures.only in
    given_back _ _ r same (tokens_only _ _ _ (Err c.in_err-tree.field-0.0) c.in_ok-tokens.ensures.all c.in_ok-tokens.ensures.only fails r h)

pub returns-in_err-program-clause-fault : goal.returns-in_err-program-clause-fault
returns-in_err-program-clause-fault c =
    let same : c.from_residual-in_err-program.result ≡ Err c.in_err-program.field-0.0 = search rules in
    faults_of _ _ c.in_ok-tokens.tokens c.in_ok-tree.tree _ _ same c.in_ok-tokens.ensures.found c.in_ok-tree.ensures.found
    (settled_fails _ _ c.in_err-program.ensures.value)

pub returns-in_err-program-clause-only : goal.returns-in_err-program-clause-only
returns-in_err-program-clause-only c r h =
    let same : c.from_residual-in_err-program.result ≡ Err c.in_err-program.field-0.0 = search rules in
    let error = Err c.in_err-program.field-0.0 in
    let come = tree_only c.in_ok-tokens.tokens c.in_ok-tree.tree error c.in_ok-tree.ensures.all c.in_ok-tree.ensures.only
    (settled_fails _ _ c.in_err-program.ensures.value) in
    given_back _ _ r same (tokens_only _ _ _ error c.in_ok-tokens.ensures.all c.in_ok-tokens.ensures.only come r h)

pub check_rules-requires : goal.check_rules-requires
check_rules-requires c =
    c.in_ok-program.ensures.well_typed (short_lists c.in_ok-tokens.tokens c.in_ok-tree.tree c.in_ok-tree.ensures.found)

pub returns-in-Ok-clause-only : goal.returns-in-Ok-clause-only
returns-in-Ok-clause-only c r h =
    let answer : Result Typed FrontError = Ok c.in_ok-program.program in
    let come = tree_only c.in_ok-tokens.tokens c.in_ok-tree.tree answer c.in_ok-tree.ensures.all c.in_ok-tree.ensures.only
    (settled_as _ _ _ c.in_ok-program.ensures.value c.in-Ok.ensures.kept) in
    tokens_only _ _ _ answer c.in_ok-tokens.ensures.all c.in_ok-tokens.ensures.only come r h

pub returns-in-Err-clause-fault : goal.returns-in-Err-clause-fault
returns-in-Err-clause-fault c =
    comes_of _ _ c.in_ok-tokens.tokens c.in_ok-tree.tree _ c.in_ok-tokens.ensures.found c.in_ok-tree.ensures.found
    (settled_as _ _ _ c.in_ok-program.ensures.value c.in-Err.ensures.broken)

pub returns-in-Err-clause-only : goal.returns-in-Err-clause-only
returns-in-Err-clause-only c r h =
    let answer : Result Typed FrontError = Err (FaultError c.in-Err.fault) in
    let come = tree_only c.in_ok-tokens.tokens c.in_ok-tree.tree answer c.in_ok-tree.ensures.all c.in_ok-tree.ensures.only
    (settled_as _ _ _ c.in_ok-program.ensures.value c.in-Err.ensures.broken) in
    tokens_only _ _ _ answer c.in_ok-tokens.ensures.all c.in_ok-tokens.ensures.only come r h
