-- A queue of stale reads: a set of stamps, from which the earliest is taken out (Acar, Blelloch and Harper, *Adaptive
-- functional programming*, POPL 2002).
use Rattle.std.specs.Prelude.{◌≡◌, ◌≢◌, ◌<◌, ◌≤◌, ◌+◌, ◌^◌, ℕ, List, Option, None, Some, true, false}
use Rattle.ceal_order.specs.declared.stamp.Stamp.{Stamp}
use Rattle.ceal_order.specs.Stamps.{is_in, place}
use Rattle.ceal_order.specs.Rising.{IsRising}

-- what a caller sees of a queue: its stamps, from the earliest to the latest, and how many more take no memory
pub record Waiting : Type 0 where
  pub stamps : List ℕ
  pub spare : ℕ

-- a queue follows an order along which its stamps rise
abbrev pub Follows : List ℕ → Waiting → Type 0
Follows order queue = IsRising order queue.stamps

-- the new stamps are the old ones and s
pub record IsWith (s : ℕ) (old new : List ℕ) : Type 0 where
  pub there : is_in s new ≡ true
  pub others : (t : ℕ) → t ≢ s → is_in t new ≡ is_in t old

-- the new stamps are the old ones without s
pub record IsWithout (s : ℕ) (old new : List ℕ) : Type 0 where
  pub gone : is_in s new ≡ false
  pub others : (t : ℕ) → t ≢ s → is_in t new ≡ is_in t old

-- a stamp is before the limit; each is where there is none
abbrev pub IsBefore : List ℕ → Option Stamp → ℕ → Type 0
IsBefore order None s = Unit {0}
IsBefore order (Some limit) s = place s order < place limit.0 order

-- one of these stamps, and none of them is before it
pub record IsEarliest (order stamps : List ℕ) (s : ℕ) : Type 0 where
  pub there : is_in s stamps ≡ true
  pub first : (t : ℕ) → is_in t stamps ≡ true → place s order ≤ place t order

-- how the parts of a queue fit: there are few stamps and spare places, and room for all of them
pub record Fits (count spare capacity : ℕ) : Type 0 where
  pub few : count + spare < 2 ^ 32
  pub places : count + spare ≤ capacity
