-- The cost of one trace beside another, and the bound that it is of the work of a repair.
use Rattle.std.specs.Prelude.{◌≡◌, ℕ, ◌+◌, ◌≤◌, ◌==◌, ◌&&◌, Bool, true, false, if◌then◌else◌, Some, List, [], ◌∷◌}
use Rattle.std.specs.Ordering.{int_eq}
use Rattle.ceal_base.specs.Block.{Block}
use Rattle.ceal_base.specs.Trace.{Trace, Stepped, Allocated, Wrote, WasRead, steps_of}
use Rattle.ceal_base.specs.declared.word.BlockId.{BlockId}
use Rattle.ceal_base.specs.declared.word.BlockId.TheVariants.{Input, Core}
use Rattle.ceal_base.specs.declared.word.Word.{Word}
use Rattle.ceal_base.specs.declared.word.Word.TheVariants.{Num, Null, Block as BlockWord, At}
use Rattle.ceal_code.specs.Alike.{Pairs}
use Rattle.ceal_code.specs.Program.{Code}
use Rattle.ceal_code.specs.Replay.{IsHonest}
use Rattle.ceal_theory.specs.Computed.{Repaired, adjusted, first_of}
use Rattle.ceal_theory.specs.Laws.{Edited}

-- whether the pair is in the list
abbrev pub paired : Pairs → ℕ → ℕ → Bool
paired [] b c = false
paired (p ∷ ps) b c = if p.left == b && p.right == c then true else paired ps b c

-- the same input block, or core blocks that are a pair
abbrev pub same_id : Pairs → BlockId → BlockId → Bool
same_id ps (Input i) (Input j) = i == j
same_id ps (Core b) (Core c) = paired ps b c
same_id ps _ _ = false

-- equal, where core blocks that are a pair count as equal
abbrev pub same_value : Pairs → Word → Word → Bool
same_value ps (Num m) (Num n) = int_eq m n
same_value ps Null Null = true
same_value ps (BlockWord b) (BlockWord c) = same_id ps b c
same_value ps (At p) (At q) = same_id ps p.block q.block && p.field == q.field
same_value ps _ _ = false

-- the pairs with one more, of core blocks
abbrev pub with_pair : Pairs → BlockId → BlockId → Pairs
with_pair ps (Core b) (Core c) = record { left = b; right = c } ∷ ps
with_pair ps _ _ = ps

-- the pairs at the end, and the cost
pub record Cost : Type 0 where
  pub pairs : Pairs
  pub cost : ℕ

-- what is inside two reads costs as many steps as the second has, where their values are not the same
abbrev pub cost_inside : Bool → Cost → Pairs → Trace → Cost
cost_inside true inside ps j = inside
cost_inside false inside ps j = record { pairs = ps; cost = steps_of j }

-- two traces side by side, item by item; traces of one call have the same sorts of items there
unfoldable pub cost_from : Pairs → Trace → Trace → Cost
cost_from ps (Stepped l) (Stepped m) = cost_from ps l m
cost_from ps (Allocated b key l) (Allocated c key' m) = cost_from (with_pair ps b c) l m
cost_from ps (Wrote p v l) (Wrote q w m) = cost_from ps l m
cost_from ps (WasRead p v u x args i l) (WasRead q w u' x' args' j m) =
    let inside = cost_inside (same_value ps v w) (cost_from ps i j) ps j in
    let rest = cost_from inside.pairs l m in
    record { pairs = rest.pairs; cost = inside.cost + rest.cost }
cost_from ps _ _ = record { pairs = ps; cost = 0 }

-- the cost of two traces side by side, where no blocks are paired yet
abbrev pub aligned : Trace → Trace → ℕ
aligned l m = (cost_from [] l m).cost

-- The work of a repair is at most the cost of the first trace on the new inputs beside the first trace on the old ones,
-- and that is at most the steps of the run from scratch.
abbrev pub CostLaw : Type 0
CostLaw = (code : Code) (old new : List Block) (f : ℕ) (args : List Word) (l : Trace) (number n : ℕ) (a : Repaired)
    → Edited code old new f args l number → IsHonest code old l → adjusted code new number n l ≡ Some a
    → (j k : ℕ) (g h : Repaired) → first_of code old j f args ≡ Some g → first_of code new k f args ≡ Some h
    → (a.work ≤ aligned g.items h.items) × (aligned g.items h.items ≤ steps_of h.items)
