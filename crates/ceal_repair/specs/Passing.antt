-- How nodes that are kept are passed.
use Rattle.std.specs.Prelude.{◌≡◌, ◌<◌}
use Rattle.ceal_base.specs.declared.word.Place.{Place}
use Rattle.ceal_base.specs.declared.word.Word.{Word}
use Rattle.ceal_order.specs.declared.stamp.Stamp.{Stamp}
use Rattle.ceal_repair.specs.Kept.{Kept, IsStale, Records, QueuedAfter, QueuedFrom, contents_at}
use Rattle.ceal_repair.specs.Moment.{Start, PassingNow}
use Rattle.ceal_repair.specs.Repairs.{code_of, inputs_of, running_of, view}
use Rattle.ceal_repair.specs.declared.repair.Repair.{Repair}
use Rattle.ceal_repair.specs.declared.tables.Tables.{Tables}
use Rattle.ceal_trace.specs.Nodes.{node_at, position, with_value}

-- None of the reads up to the limit is stale, and none of them is queued any more; all else is as it was before.
pub record NoneStale (start : Start) (r : Repair) : Type 0 where
  pub before : Tables
  pub until : Stamp
  pub now : PassingNow (code_of r) (inputs_of r) start until (record (view r) { tables = before })
  pub trace : (running_of r).tables.trace ≡ before.trace
  pub left : QueuedFrom until.0 (running_of r).tables
  pub cells : (running_of r).tables.mods.cells ≡ before.mods.cells
  pub kept : Kept (running_of r).tables

-- The first stale read up to the limit was found, and has the content of its moment since then; what is queued is after
-- it, and all else is as it was before.
pub record StaleInside (start : Start) (read : Stamp) (r : Repair) : Type 0 where
  pub before : Tables
  pub until : Stamp
  pub now : PassingNow (code_of r) (inputs_of r) start until (record (view r) { tables = before })
  pub stale : IsStale read.0 before
  pub place : Place
  pub value : Word
  pub is_read : Records place value (node_at read.0 before.trace.nodes)
  pub nodes : (running_of r).tables.trace.nodes ≡ with_value read.0 (contents_at read.0 before place) before.trace.nodes
  pub limit : position read.0 before.trace.nodes < position until.0 before.trace.nodes
  pub queued : QueuedAfter read.0 (running_of r).tables
  pub cells : (running_of r).tables.mods.cells ≡ before.mods.cells
  pub kept : Kept (running_of r).tables
