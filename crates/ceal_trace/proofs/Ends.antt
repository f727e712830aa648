-- What a table says of the end of a read.
use Rattle.std.proofs.Common.{◌≡◌, ℕ, ◌<◌, true, sym, ◌∙◌, Option, Some, None}
use Rattle.std.specs.Prelude.{IfSome, IfNone}
use Rattle.ceal_order.specs.Stamps.{Listing}
use Rattle.ceal_trace.specs.Nodes.{has_node, position, node_at, is_read, end_in}
use Rattle.ceal_trace.specs.Rows.{Table}
use Rattle.ceal_trace.specs.Keeping.{end_of, timeline, noted, Sound}
use Rattle.ceal_trace.proofs.Entries.{has-held, has-read}

pub if_some_map : {A : Type 0} {P Q : A → Type 0} (o : Option A) → ((x : A) → P x → Q x) → IfSome o P → IfSome o Q
if_some_map None f h = h
if_some_map (Some x) f h = f x h

pub if_none_map : {A : Type 0} {P Q : Type 0} (o : Option A) → (P → Q) → IfNone o P → IfNone o Q
if_none_map None f h = f h
if_none_map (Some x) f h = h

module _ (order : Listing) (t : Table) (read steps : ℕ) (sound : Sound order t steps)
    (reads : is_read (node_at read (timeline order t).nodes) ≡ true) where
  noted_is : noted (end_of t read) ≡ end_in read (timeline order t).nodes
  noted_is = sound.knows_ends.noted_end read (has-read read (timeline order t).nodes reads)

  pub no_end : noted (end_of t read) ≡ None → end_in read (timeline order t).nodes ≡ None
  no_end none = sym noted_is ∙ none

  module _ (end : ℕ) (is : noted (end_of t read) ≡ Some end) where
    pub an_end : end_in read (timeline order t).nodes ≡ Some end
    an_end = sym noted_is ∙ is

    pub end_there : has_node end (timeline order t).nodes ≡ true
    end_there = has-held end _ (timeline order t).nodes (sound.is_trace.end_node end read an_end)

    pub end_behind : position read (timeline order t).nodes < position end (timeline order t).nodes
    end_behind = sound.is_trace.behind end read an_end (has-read read (timeline order t).nodes reads)
