-- First traces in code, and the cost of the one beside the other.
use Rattle.std.specs.Prelude.{◌≡◌, ℕ, ◌≤◌, Option, Some, None, List}
use Rattle.ceal_base.specs.Trace.{Trace, flat, steps_in}
use Rattle.ceal_base.specs.declared.forest.Item.{Item}
use Rattle.ceal_theory.specs.Computed.{Repaired}
use Rattle.ceal_theory.specs.Cost.{aligned}

-- the items of the first trace, which has no more steps than the fuel allows; both are there, or neither
abbrev pub HasItems : ℕ → Option Repaired → Option (List Item) → Type 0
HasItems fuel o None = o ≡ None
HasItems fuel o (Some items) = (a : Repaired) × (o ≡ Some a) × (items ≡ flat a.items) × (steps_in items ≤ fuel)

-- the cost of traces with these items
abbrev pub IsCost : Option (List Item) → Option (List Item) → ℕ → Type 0
IsCost None old n = n ≡ 0
IsCost (Some old) None n = n ≡ 0
IsCost (Some old) (Some new) n = (l m : Trace) → old ≡ flat l → new ≡ flat m → n ≡ aligned l m
