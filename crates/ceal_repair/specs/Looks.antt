-- How many contents are looked at, and how many nodes are touched: put in, taken out or changed. Each queued read is
-- looked at once, and may queue another one then; so may each write that is taken out, which is looked at as well. Each
-- node that is taken out is touched once.
use Rattle.std.specs.Prelude.{◌≡◌, ◌⊎◌, ◌≤◌, ◌<◌, ℕ, zero, suc, ◌+◌, ◌-◌, ◌*◌, ◌^◌, min, List, [], ◌∷◌, length}
use Rattle.ceal_order.specs.Stamps.{room_beyond}
use Rattle.ceal_repair.specs.Distance.{Reuses, CameTo}
use Rattle.ceal_repair.specs.declared.frame.Frame.{Frame}
use Rattle.ceal_repair.specs.declared.frame.Frame.TheVariants.{Begun, Taken, Kept}
use Rattle.ceal_repair.specs.declared.running.Running.{Running}
use Rattle.ceal_repair.specs.declared.tables.Tables.{Tables}
use Rattle.ceal_trace.specs.Nodes.{Entry, Timeline}
use Rattle.ceal_trace.specs.declared.node.Node.{Node}
use Rattle.ceal_trace.specs.declared.node.Node.TheVariants.{Write}

-- the contents that were looked at, and twice the reads that are queued
abbrev pub looks_owed : Tables → ℕ
looks_owed t = t.mods.looked + 2 * length t.stale.stamps

-- how often nodes were touched, and how many there are
abbrev pub touched_owed : Tables → ℕ
touched_owed t = t.trace.touched + length t.trace.nodes

-- no content differed from what had been recorded of it, or one did
abbrev pub NoneDiffers : Tables → Tables → Type 0
NoneDiffers old new = new.mods.differed ≡ old.mods.differed

abbrev pub OneDiffers : Tables → Tables → Type 0
OneDiffers old new = new.mods.differed ≡ min (old.mods.differed + 1) (2 ^ 64 - 1)

-- what was marked is marked as it was
abbrev pub KeepsMarks : Tables → Tables → Type 0
KeepsMarks old new = new.mods.marked ≡ old.mods.marked

-- how many nodes a trace has room for, those counted that it has
abbrev pub slots : Timeline → ℕ
slots t = length t.nodes + t.spare

-- Each node that was put in was touched. There is room for no more nodes than before, or for no more than there were
-- then, those touched since and some beyond.
pub record Grows (old new : Timeline) : Type 0 where
  pub nodes : length new.nodes + old.touched ≤ length old.nodes + new.touched
  pub room : (slots new ≤ slots old) ⊎ (slots new + old.touched ≤ length old.nodes + new.touched + room_beyond)

-- No count falls. As long as touches are counted, that of the nodes grows by no more. The seed of the memo stays.
pub record CountsOn (old new : Tables) : Type 0 where
  pub looked : old.mods.looked ≤ new.mods.looked
  pub differed : old.mods.differed ≤ new.mods.differed
  pub touched : old.trace.touched ≤ new.trace.touched
  pub grows : new.trace.touched < 2 ^ 64 - 1 → Grows old.trace new.trace
  pub seed : new.memo.seed ≡ old.memo.seed

-- Queued reads were looked at, each one once, and none of them differed.
pub record LooksAtQueued (old new : Tables) : Type 0 where
  pub looked : new.mods.looked + length new.stale.stamps ≤ old.mods.looked + length old.stale.stamps
  pub differed : NoneDiffers old new

-- nothing was looked at, and the queue is as it was
pub record LooksAtNothing (old new : Tables) : Type 0 where
  pub looked : new.mods.looked ≡ old.mods.looked
  pub differed : NoneDiffers old new
  pub queue : new.stale.stamps ≡ old.stale.stamps

-- nothing was looked at or touched yet, and there is no spare node
pub record LooksNever (t : Tables) : Type 0 where
  pub looked : t.mods.looked ≡ 0
  pub differed : t.mods.differed ≡ 0
  pub touched : t.trace.touched ≡ 0
  pub spare : t.trace.spare ≡ 0

-- how many of these are writes
abbrev pub writes_at : Node → ℕ
writes_at (Write p value) = 1
writes_at _ = 0

abbrev pub write_count : List Entry → ℕ
write_count [] = 0
write_count (e ∷ es) = writes_at e.node + write_count es

-- what is owed, and three more for each write
abbrev pub due : Tables → ℕ
due t = looks_owed t + 3 * write_count t.trace.nodes

-- a count that was raised n times; it stays at the end of its type
abbrev pub raised : ℕ → ℕ → ℕ
raised zero count = count
raised (suc n) count = raised n (min (count + 1) (2 ^ 64 - 1))

-- What is still to be done at the ends of reads: how often nodes are touched, and how many new ones are put in. An end
-- is put in where the read was begun, and loses its steps where the read was taken.
abbrev pub touched_ahead : List Frame → ℕ
touched_ahead [] = 0
touched_ahead (Begun below read ∷ fs) = 2 + touched_ahead fs
touched_ahead (Taken below limit ∷ fs) = 1 + touched_ahead fs
touched_ahead (Kept until ∷ fs) = touched_ahead fs

abbrev pub ends_ahead : List Frame → ℕ
ends_ahead [] = 0
ends_ahead (Begun below read ∷ fs) = 1 + ends_ahead fs
ends_ahead (Taken below limit ∷ fs) = ends_ahead fs
ends_ahead (Kept until ∷ fs) = ends_ahead fs

-- what an account is kept of: the tables, the stamp of the cursor, the steps that were re-executed, and the touches and
-- the ends to come that are paid
pub record Account : Type 0 where
  pub tables : Tables
  pub cursor : ℕ
  pub spent : ℕ
  pub ahead : ℕ
  pub ends : ℕ

-- with one touch more to come
abbrev pub owing : Account → Account
owing a = record a { ahead = a.ahead + 1 }

-- with the end of a read that was begun
abbrev pub begun : Account → Account
begun a = record a { ahead = a.ahead + 2; ends = a.ends + 1 }

-- where a stale read was found, whose steps are dropped then
abbrev pub found : ℕ → Account → Account
found read a = record a { cursor = read; ahead = a.ahead + 1 }

-- so far a repair of the old nodes has come by this account
abbrev pub Comes : List Entry → ℕ → ℕ → Account → Type 0
Comes o fresh stale a = CameTo o fresh stale a.cursor a.tables.trace.nodes

-- Each step that was re-executed pays for five looks, for five touches and for two new nodes, and each content that
-- differed for two looks or touches, and for the read that has another value then; n looks are left over. The contents
-- that differed were counted.
pub record PaysBut (n : ℕ) (old new : Account) : Type 0 where
  pub counts : CountsOn old.tables new.tables
  pub stale : ℕ
  pub differed : new.tables.mods.differed ≡ raised stale old.tables.mods.differed
  pub looks : due new.tables + n + 5 * old.spent ≤ due old.tables + 5 * new.spent + 2 * stale
  pub touches : touched_owed new.tables + new.ahead + 5 * old.spent
      ≤ touched_owed old.tables + old.ahead + 5 * new.spent + 2 * stale
  pub fresh : ℕ
  pub few : fresh + new.ends + 2 * old.spent ≤ old.ends + 2 * new.spent
  pub comes : (o : List Entry) (f s : ℕ) → Comes o f s old → Comes o (f + fresh) (s + stale) new

abbrev pub Pays : Account → Account → Type 0
Pays old new = PaysBut 0 old new

-- How far a call takes a run, and what it does on the way. Of the new nodes `fresh` are none of the old ones, `stale`
-- are old reads with another value, and each other one is an old node at its stamp: the distance of the traces. The
-- steps that were re-executed and the stale reads pay for the new nodes, for what was looked at and for what was
-- touched.
pub record Distance (old new : Running) : Type 0 where
  pub counts : CountsOn old.tables new.tables
  pub fresh : ℕ
  pub stale : ℕ
  pub reuses : Reuses old.tables.trace.nodes new.tables.trace.nodes fresh stale
  pub few : fresh + 2 * old.spent ≤ 2 * new.spent
  pub differed : new.tables.mods.differed ≡ raised stale old.tables.mods.differed
  pub looks : due new.tables + 5 * old.spent ≤ due old.tables + 5 * new.spent + 2 * stale
  pub touches : touched_owed new.tables + 5 * old.spent ≤ touched_owed old.tables + 5 * new.spent + 2 * stale

-- What a run from nothing looks at and touches is paid by its steps, and so is the room for nodes, but for some beyond.
-- No content differed. The root is a node.
pub record PaysFirst (run : Running) : Type 0 where
  pub looks : due run.tables ≤ 5 * run.spent
  pub differed : run.tables.mods.differed ≡ 0
  pub touches : touched_owed run.tables ≤ 5 * run.spent + 1
  pub room : run.tables.trace.touched < 2 ^ 64 - 1 → slots run.tables.trace ≤ 5 * run.spent + 2 + room_beyond
