use Rattle.std.proofs.Common.{◌≡◌, ◌+◌, ◌∷◌, ◌++◌, ◌∙◌, [], List, arith, rules, drop, subst, sym, ap}
use Rattle.std.specs.Prelude.{ℕ}
use Rattle.std.proofs.lemmas.List.{take_rest}
use Rattle.ceal_base.specs.declared.fault.Span.{Span}
use Rattle.ceal_lex.specs.Faults.{FaultStands}
use Rattle.ceal_lex.specs.Front.{IsBlank, IsFound}
use Rattle.ceal_lex.proofs.Going.{Continues, after_blank, after_token, at_end, at_fault}
use Rattle.ceal_lex.proofs.lex.read.Goals as goal

-- a blank or a comment has no token
pub loop-at-preserved-in-Blank : goal.loop-at-preserved-in-Blank
loop-at-preserved-in-Blank c =
    let source = c.args.source.now in
    let blank : IsBlank c.in-Blank.length (drop c.loop-at.at source) =
    subst (IsBlank c.in-Blank.length) (take_rest source c.loop-at.at) (rw c.in-Blank.is at c.in_ok-length.ensures.front) in
    record {
      within = search rules;
      so_far = after_blank source c.loop-at.at c.loop-at.tokens c.loop-at.invariant.so_far c.in-Blank.length blank;
    }

-- the longest token at this place follows those before it
pub loop-at-preserved : goal.loop-at-preserved
loop-at-preserved c =
    let source = c.args.source.now in
    let found : IsFound c.in-Found.kind c.in-Found.length (drop c.loop-at.at source) =
    subst (IsFound c.in-Found.kind c.in-Found.length) (take_rest source c.loop-at.at) (rw c.in-Found.is at c.in_ok-length.ensures.front) in
    let more = after_token source c.loop-at.at c.loop-at.tokens c.loop-at.invariant.so_far c.in-Found.kind c.in-Found.length found in
    let pushed : c.push.new.self ≡ c.loop-at.tokens ++ record { kind = c.in-Found.kind; span = record { from = c.loop-at.at; to = c.loop-at.at + c.in-Found.length } } ∷ [] =
    c.in_ok-push-in-Found.ensures.ok ∙ ap (λ (s : Span). c.loop-at.tokens ++ record { kind = c.in-Found.kind; span = s } ∷ []) c.span-span.ensures in
    record {
      within = search rules;
      so_far = subst (Continues source (drop (c.loop-at.at + c.in-Found.length) source) (c.loop-at.at + c.in-Found.length)) (sym pushed) more;
    }

-- the text up to this place is tokens, and what follows begins none
pub returns-in-Broken-clause-fault : goal.returns-in-Broken-clause-fault
returns-in-Broken-clause-fault c =
    let source = c.args.source.now in
    let broken : FaultStands c.in-Broken.code (drop c.loop-at.at source) c.in-Broken.length =
    subst (λ (x : List ℕ). FaultStands c.in-Broken.code x c.in-Broken.length) (take_rest source c.loop-at.at) (rw c.in-Broken.is at c.in_ok-length.ensures.front) in
    rw c.span-span-in-Broken.ensures
    (at_fault source c.loop-at.at c.loop-at.tokens c.loop-at.invariant.so_far c.in-Broken.code c.in-Broken.length c.loop-at.invariant.within broken)

pub returns-clause-found : goal.returns-clause-found
returns-clause-found c = at_end c.args.source.now c.loop-at.at c.loop-at.tokens c.loop-at.invariant.so_far (omega (arith, c.loop-at-test.false))
