-- First traces in code, and the cost of the one beside the other.
use Rattle.std.proofs.Common.{◌≡◌, ℕ, ◌≤◌, ◌<◌, ◌^◌, Option, Some, None, List, sym, ap, ap₂, ◌∙◌, subst, arith}
use Rattle.std.specs.Prelude.{IfSome}
use Rattle.ceal_adjust.specs.Answers.{IsRepair}
use Rattle.ceal_base.proofs.TraceLemmas.{steps-flat}
use Rattle.ceal_base.specs.Block.{Block}
use Rattle.ceal_base.specs.Trace.{steps_in, steps_of}
use Rattle.ceal_base.specs.declared.forest.Item.{Item}
use Rattle.ceal_base.specs.declared.word.Word.{Word}
use Rattle.ceal_code.proofs.Words.SameIsEqual.{some-same}
use Rattle.ceal_code.specs.Fitting.{Fits}
use Rattle.ceal_code.specs.Fresh.{fresh}
use Rattle.ceal_code.specs.Program.{Code}
use Rattle.ceal_cost.specs.Bounds.{aligned_of}
use Rattle.ceal_session.proofs.Engine.RunLeavesPast.{few-steps, has-first, no-first}
use Rattle.ceal_session.specs.Costs.{HasItems, IsCost}
use Rattle.ceal_theory.specs.Computed.{Repaired, first_of}

module _ (code : Code) (inputs : List Block) (f : ℕ) (args : List Word) (fits : Fits code inputs f args) (fuel : ℕ) where
  pub has-items : (forest : List Item) (work : ℕ) → IsRepair forest work (first_of code inputs fuel f args) (fresh code f args inputs fuel)
      → HasItems fuel (first_of code inputs fuel f args) (Some forest)
  has-items forest work h =
      let found = has-first code inputs f args fits fuel h.finished h.ends in
      let one : found.first ≡ record { items = h.items; work = work } = some-same found.first _ (sym found.is ∙ h.same) in
      let few = few-steps code inputs f args fits fuel found.first.items found.trace.replays found.trace.honest h.finished h.ends in
      (record { items = h.items; work = work }, h.same, h.flat_form, rw h.flat_form (subst (λ n. n ≤ fuel) (sym (steps-flat h.items)) (subst (λ a. steps_of a.items ≤ fuel) one few)))

  pub no-items : fresh code f args inputs fuel ≡ None → HasItems fuel (first_of code inputs fuel f args) None
  no-items e = no-first code inputs f args fits fuel e

-- a number within the fuel is a number of 32 bits
pub few-items : (fuel : ℕ) → fuel ≤ 4194304 → (o : Option Repaired) (items : Option (List Item)) → HasItems fuel o items → IfSome items (λ items. steps_in items < 2 ^ 32)
few-items fuel l o None h = tt
few-items fuel l o (Some items) h = let few = h.3 in omega (arith, l, few)

-- the cost of these items is that of the traces
pub cost-is : (fuel : ℕ) (g h : Option Repaired) (old new : Option (List Item)) (n : ℕ) → HasItems fuel g old → HasItems fuel h new → IsCost old new n → n ≡ aligned_of g h
cost-is fuel g h None new n i k c = c ∙ ap (λ o. aligned_of o h) (sym i)
cost-is fuel g h (Some old) None n i k c = c ∙ sym (ap₂ aligned_of i.1 k)
cost-is fuel g h (Some old) (Some new) n i k c = c i.0.items k.0.items i.2 k.2 ∙ sym (ap₂ aligned_of i.1 k.1)
