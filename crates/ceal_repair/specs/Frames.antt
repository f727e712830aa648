-- What follows the ends of the reads of a repair.
use Rattle.std.specs.Prelude.{List, [], ◌∷◌}
use Rattle.ceal_code.specs.Piles.{Pile}
use Rattle.ceal_code.specs.Stacks.{above_floor, under_floor}
use Rattle.ceal_code.specs.Step.{Stack}
use Rattle.ceal_order.specs.declared.stamp.Stamp.{Stamp}
use Rattle.ceal_repair.specs.declared.frame.Frame.{Frame as CodeFrame}
use Rattle.ceal_repair.specs.declared.frame.Frame.TheVariants.{Begun as CodeBegun, Taken as CodeTaken, Kept as CodeKept}

-- what follows the end of a read, with the units that run then
pub data Frame : Type 0 where
  -- the read is new: the units below run, with what its own leave over
  Begun : (below : Stack) (read : Stamp) → Frame
  -- the read was taken: the units below run, with the nodes after its end, up to this limit
  Taken : (below : Stack) (limit : Stamp) → Frame
  -- the read was stale among nodes that are kept: those after its end are passed, up to this limit
  Kept : (until : Stamp) → Frame

-- the frames as the code keeps them, the next first: the units of each are set aside on its floor
abbrev pub frames_in : Pile → List CodeFrame → List Frame
frames_in aside [] = []
frames_in aside (CodeBegun floor read ∷ fs) =
    Begun (above_floor floor aside) read ∷ frames_in (under_floor floor aside) fs
frames_in aside (CodeTaken floor limit ∷ fs) =
    Taken (above_floor floor aside) limit ∷ frames_in (under_floor floor aside) fs
frames_in aside (CodeKept until ∷ fs) = Kept until ∷ frames_in aside fs
