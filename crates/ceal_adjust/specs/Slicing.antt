-- A repair in progress, as the code keeps it, and the result of a slice of it.
use Rattle.std.specs.Prelude.{◌≡◌, ◌≤◌, ℕ, suc, Bool, true, false, ⊤, Option, Some, None, List, ◌++◌, ◌∷◌}
use Rattle.ceal_base.specs.Block.{Block}
use Rattle.ceal_base.specs.Trace.{flat}
use Rattle.ceal_base.specs.declared.forest.Item.{Item}
use Rattle.ceal_base.specs.declared.forest.Item.TheVariants.{Read}
use Rattle.ceal_base.specs.declared.word.BlockId.TheVariants.{Core}
use Rattle.ceal_base.specs.declared.word.Word.{Word}
use Rattle.ceal_code.specs.Fitting.{Fits}
use Rattle.ceal_code.specs.Program.{Code}
use Rattle.ceal_code.specs.Replay.{Store, IsHonest}
use Rattle.ceal_adjust.specs.KnownBlocks.{nothing, knowing}
use Rattle.ceal_adjust.specs.declared.slices.Repair.{Repair as RepairInCode}
use Rattle.ceal_adjust.specs.declared.slices.Sliced.{Sliced}
use Rattle.ceal_adjust.specs.declared.slices.Sliced.TheVariants.{More, Done, Spent}
use Rattle.ceal_adjust.specs.declared.stale.Stale.{Stale}
use Rattle.ceal_adjust.specs.declared.turn.Turned.{Turned}
use Rattle.ceal_adjust.specs.declared.turn.Turned.TheVariants.{Honest, Went, Over}
use Rattle.ceal_theory.specs.Repair.{own}
use Rattle.ceal_theory.specs.Slices.{Repair, Slices, sliced, RepairHolds, is_done}
use Rattle.ceal_theory.specs.Walk.{store_after, AgreesAll}

-- The repair in code is this one: the flat items, the plain words of the known core blocks, the next number,
-- and the number spent.
pub record StandsFor (q : RepairInCode) (r : Repair) : Type 0 where
  pub items : q.forest ≡ flat r.items
  pub known : (b : ℕ) → knowing nothing q.known (Core b) ≡ r.known (Core b)
  pub next : q.next ≡ r.number
  pub spent : q.spent ≡ r.spent

-- It is a repair that holds for a call that fits.
pub record HoldsFor (code : Code) (inputs : List Block) (f : ℕ) (args : List Word) (q : RepairInCode) : Type 0 where
  pub fits : Fits code inputs f args
  pub repair : Repair
  pub stands : StandsFor q repair
  pub sound : RepairHolds code own inputs f args repair

-- the slice is there, is done or not, and is this repair
pub record IsSliceOf (code : Code) (inputs : List Block) (reads : Option ℕ) (fuel : ℕ) (done : Bool) (r : Repair)
    (q : RepairInCode) : Type 0 where
  pub repair : Repair
  pub is : sliced code own inputs reads fuel r ≡ Some repair
  pub stands : StandsFor q repair
  pub ends : is_done code inputs repair ≡ done

-- the result of re-executing this number of reads, or all, by the definition
abbrev pub Comes : Code → List Block → Option ℕ → ℕ → Repair → Sliced → Type 0
Comes code inputs reads fuel r (More q) = IsSliceOf code inputs reads fuel false r q
Comes code inputs reads fuel r (Done q) = IsSliceOf code inputs reads fuel true r q
Comes code inputs reads fuel r Spent = sliced code own inputs reads fuel r ≡ None

-- what is left of a repair when no more reads should be re-executed: it is done or not
abbrev pub IsConcluded : Code → List Block → Repair → RepairInCode → Sliced → Type 0
IsConcluded code inputs r q (More p) = (p ≡ q) × ¬ IsHonest code inputs r.items
IsConcluded code inputs r q (Done p) = (p ≡ q) × IsHonest code inputs r.items
IsConcluded code inputs r q Spent = ⊥

-- the repair that is given, if one is
abbrev pub IfGiven : Sliced → (RepairInCode → Type 0) → Type 0
IfGiven (More q) f = f q
IfGiven (Done q) f = f q
IfGiven Spent f = ⊤

-- The first read that does not agree with the store, with the content of its place and the items around it.
pub record IsStale (code : Code) (s : Store) (is : List Item) (x : Stale) : Type 0 where
  pub value : Word
  pub split : is ≡ x.front.now ++ Read x.closure.place value x.closure.unit x.closure.var x.closure.args ∷ x.after.now
  pub agrees : AgreesAll code s x.front.now
  pub stale : ¬ (store_after code s x.front.now x.closure.place ≡ value)
  pub content : x.content ≡ store_after code s x.front.now x.closure.place

-- what one turn comes to
abbrev pub IsTurn : Code → List Block → ℕ → Repair → Turned → Type 0
IsTurn code inputs fuel r Honest = IsHonest code inputs r.items
IsTurn code inputs fuel r (Went q) =
    (z : Repair) × Slices code own inputs (Some 1) r z × StandsFor q z × (q.spent ≤ fuel)
IsTurn code inputs fuel r Over =
    (sliced code own inputs None fuel r ≡ None) × ((k : ℕ) → sliced code own inputs (Some (suc k)) fuel r ≡ None)
