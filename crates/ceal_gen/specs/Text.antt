-- The text of a workload.
use Rattle.std.specs.Prelude.{ℕ, List}
use Rattle.ceal_gen.specs.ListText.{list_text}
use Rattle.ceal_gen.specs.TreeText.{tree_text}
use Rattle.ceal_gen.specs.declared.kind.Workload.{Workload}
use Rattle.ceal_gen.specs.declared.kind.Workload.TheVariants.{List as OfList, Tree as OfTree}

-- the text of a workload, by its kind
abbrev pub workload_text : Workload → ℕ → ℕ → List ℕ
workload_text OfList seed size = list_text seed size
workload_text OfTree seed size = tree_text seed size
