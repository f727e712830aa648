use Rattle.std.proofs.Common.{◌≡◌, ◌+◌, ◌∙◌, [], ◌∷◌, sym, ap, drop, length, arith}
use Rattle.std.proofs.lemmas.List.{drop_all, length-append}
use Rattle.ceal_code.proofs.Equations.FloorSteps.{off-floor, waiting-none}
use Rattle.ceal_code.specs.Piles.{Piles}
use Rattle.ceal_code.specs.Stacks.{waiting, waits_in}
use Rattle.ceal_code.specs.Step.{Empty}
use Rattle.ceal_code.proofs.waits.Waits.pop.Goals as goal

-- no unit is above the floor, so none waits
pub returns-then-len-self-clause-began : goal.returns-then-len-self-clause-began
unfolding waits_in
returns-then-len-self-clause-began c =
    let p = c.self.inside in
    let none : waiting c.args.self.now.waits.units c.args.self.now.waits.words ≡ Empty =
    sym (ap (λ (w : Piles). waiting w.waits.units w.waits.words) c.self.view_is)
    ∙ waiting-none _ _ (drop_all p.floor.units p.units.items (omega (arith, c.len.ensures, c.if-len-self.true))) in
    (none, none)

-- the last unit that waits is taken, with the words from where its own begin
pub returns-clause-began : goal.returns-clause-began
unfolding waits_in
returns-clause-began c =
    let p = c.self.inside in
    let one-fewer : length p.units.items ≡ length c.pop.new.self.items + 1 =
    ap length c.in-Some.ensures.items ∙ length-append c.pop.new.self.items (c.in-Some.next ∷ []) in
    sym (ap (λ (w : Piles). waiting w.waits.units w.waits.words) c.self.view_is)
    ∙ off-floor p.units.items c.pop.new.self.items c.in-Some.next p.words.items c.refill.new.env.items c.truncate.new.self.items c.larger-from.result p.floor.units p.floor.words
    c.in-Some.ensures.items (omega (arith, c.len.ensures, c.if-len-self.false, one-fewer)) c.self.invariant.1
    (omega (arith, c.larger-from.ensures, c.less.ensures, ap length c.as_slice-words.ensures.value))
    (c.in_ok-refill.ensures ∙ (c.tail.ensures ∙ ap (drop c.larger-from.result) c.as_slice-words.ensures.value)) c.truncate.ensures.items
