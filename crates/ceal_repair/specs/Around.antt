-- What is left over to a unit, and what waits around it, by the nodes after the cursor.
use Rattle.std.specs.Prelude.{◌≡◌, ℕ, Option, None, Some, List, [], ◌∷◌, ◌++◌}
use Rattle.ceal_code.specs.Step.{Stack}
use Rattle.ceal_order.specs.declared.stamp.Stamp.{Stamp}
use Rattle.ceal_repair.specs.Entries.{stamp_of_number, end_entry, entries}
use Rattle.ceal_repair.specs.Frames.{Frame, Begun, Taken, Kept}
use Rattle.ceal_theory.specs.Course.{Wait, Fixes, Takes, Begins}
use Rattle.ceal_theory.specs.Groves.{Grove}
use Rattle.ceal_trace.specs.Nodes.{Entry}

-- Kept nodes up to the end of a taken read: those of the innermost read that is open at the cursor, its end, and so on.
-- Each such read waits for its end; with these the first waits and open reads become the second ones.
pub data Inside (ws : List Wait) (rs : List ℕ) : List Wait → List ℕ → List Entry → Type 0 where
  level : (g : Grove) → Inside ws rs ws rs (entries g)
  deeper : {vs : List Wait} {qs : List ℕ} {es : List Entry} (g : Grove) (e r m : ℕ)
      → Inside ws rs vs qs es
      → Inside ws rs (Fixes ∷ vs) (r ∷ qs) (entries g ++ end_entry e r m ∷ es)

-- Where nodes that are left over end: without a limit nothing comes after them; with one, the end of a read at the
-- limit.
abbrev pub Bounds : Option Stamp → List Entry → Type 0
Bounds None es = es ≡ []
Bounds (Some e) es = (r m : ℕ) × (rest : List Entry) × (es ≡ end_entry e.0 r m ∷ rest)

-- Both begin with the limit, the frames (the next first), what waits for them, and the reads that are open for them,
-- the last begun first; the last list is that of the nodes.
-- A repair ends at the limit and the nodes with which it began.
mutual
  -- the nodes after those that are left over to the unit that runs
  pub data Tails (limit : Option Stamp) (beyond : List Entry)
      : Option Stamp → List Frame → List Wait → List ℕ → List Entry → Type 0 where
    last : Tails limit beyond limit [] [] [] beyond
    -- a new read shares what is left over
    begun : {until : Option Stamp} {fs : List Frame} {ws : List Wait} {rs : List ℕ} {tail : List Entry}
        (below : Stack) (read : Stamp)
        → Tails limit beyond until fs ws rs tail
        → Tails limit beyond until (Begun below read ∷ fs) (Begins below ∷ ws) (read.0 ∷ rs) tail
    -- a taken read that is re-executed: its end, and what is left over after it
    taken : {until : Stamp} {fs : List Frame} {ws : List Wait} {rs : List ℕ} {tail : List Entry}
        (below : Stack) (e r m : ℕ) (g : Grove)
        → Tails limit beyond (Some until) fs ws rs tail
        → Tails limit beyond (Some (stamp_of_number e)) (Taken below until ∷ fs) (Takes below ∷ ws) (r ∷ rs)
        (end_entry e r m ∷ (entries g ++ tail))
    -- a stale read of a taken one: its end, and the nodes that are passed then
    kept : {until : Stamp} {fs : List Frame} {ws : List Wait} {rs : List ℕ} {back : List Entry} (e r m : ℕ)
        → Passes limit beyond until fs ws rs back
        → Tails limit beyond (Some (stamp_of_number e)) (Kept until ∷ fs) (Fixes ∷ ws) (r ∷ rs) (end_entry e r m ∷ back)

  -- the nodes after the cursor, where kept nodes are passed up to the end of a taken read
  pub data Passes (limit : Option Stamp) (beyond : List Entry)
      : Stamp → List Frame → List Wait → List ℕ → List Entry → Type 0 where
    passes : {until : Stamp} {fs : List Frame} {ws vs : List Wait} {rs qs : List ℕ} {es tail : List Entry}
        (below : Stack) (e r m : ℕ) (g : Grove)
        → Inside (Takes below ∷ ws) (r ∷ rs) vs qs es
        → Tails limit beyond (Some until) fs ws rs tail
        → Passes limit beyond (stamp_of_number e) (Taken below until ∷ fs) vs qs
        (es ++ end_entry e r m ∷ (entries g ++ tail))
