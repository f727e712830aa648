-- The nodes of a run that reads a and writes one more to b, in the tables, and what has to be queued after an edit of
-- a.
use Rattle.std.proofs.Common.{None, Some, ◌≡◌, ℕ, pos, false, List, [], ◌∷◌, refl, inr, inl}
use Rattle.ceal_base.specs.declared.forest.Item.TheVariants as item
use Rattle.ceal_base.specs.declared.kind.Shape.TheVariants.{ModInt}
use Rattle.ceal_base.specs.declared.word.BlockId.TheVariants.{Input}
use Rattle.ceal_base.specs.declared.word.Place.{Place}
use Rattle.ceal_base.specs.declared.word.Word.TheVariants.{Num, At}
use Rattle.ceal_code.specs.Replay.{Store, stored}
use Rattle.ceal_memo.specs.Keys.{ReadKey, OfRead}
use Rattle.ceal_repair.specs.AsItems.{nodes_of}
use Rattle.ceal_repair.specs.Chain.{Chained}
use Rattle.ceal_repair.specs.Covered.{contents_after, queue_of, with_seen, Covers}
use Rattle.ceal_repair.specs.Entries.{entry, end_entry, entries}
use Rattle.ceal_repair.specs.Lists.{writes_in, stamps_where, reads_at, entries_in, before, between}
use Rattle.ceal_repair.specs.Words.{base_of}
use Rattle.ceal_theory.specs.Cover as cover
use Rattle.ceal_theory.specs.Groves.{Bare, Put, Got}
use Rattle.ceal_trace.specs.Nodes.{Entry}
use Rattle.ceal_trace.specs.declared.node.Node.TheVariants.{Root, Write, Read}

abbrev a : Place
a = record { block = Input 0; field = 0 }

abbrev b : Place
b = record { block = Input 1; field = 0 }

-- 4 was read and 5 written, at stamps that are not in order
abbrev increment : List Entry
increment = entry 0 Root 1 ∷ entry 7 (Read a (Num (pos 4)) (record { 0 = 1 }) 2 (At b ∷ [])) 1 ∷ entry 3 (Write b (Num (pos 5))) 0 ∷ end_entry 5 7 0 ∷ []

-- the tables have the writes and the reads of each place, and the memo the keys of reads
writes_of_b : writes_in b increment ≡ record { stamp = 3; value = Num (pos 5) } ∷ []
writes_of_b = refl

reads_of_a : stamps_where (reads_at a) increment ≡ 7 ∷ []
reads_of_a = refl

reads_of_b : stamps_where (reads_at b) increment ≡ []
reads_of_b = refl

abbrev key : Place → ReadKey
key p = record { place = p; unit = record { 0 = 1 }; var = 2; args = At b ∷ [] }

recalled : entries_in increment 7 ≡ Some (OfRead (key a))
recalled = refl

of_another_key : entries_in increment 3 ≡ None
of_another_key = refl

inside_the_read : between 7 5 increment ≡ entry 3 (Write b (Num (pos 5))) 0 ∷ []
inside_the_read = refl

-- what b holds before the write, and at the end
abbrev holding : ℕ → Store
holding n = λ p. Num (pos n)

b_before : contents_after (holding 4) (before 3 increment) b ≡ Num (pos 4)
b_before = refl

b_at_the_end : contents_after (holding 4) increment b ≡ Num (pos 5)
unfolding stored
b_at_the_end = refl

-- where a holds 4 nothing has to be queued
nothing_queued : Covers (queue_of []) (holding 4) (λ p. false) increment
nothing_queued = (tt, (inl refl, (tt, (tt, tt))))

-- where it holds 9 the read has to be
queued : Covers (queue_of (7 ∷ [])) (holding 9) (λ p. false) increment
unfolding queue_of with_seen
queued = (tt, (inr refl, (tt, (tt, tt))))

not_without_it : Covers (queue_of []) (holding 9) (λ p. false) increment → ⊥
unfolding queue_of
not_without_it covers = elim covers.1.0 [ inl same ↦ absurd (cc) | inr seen ↦ absurd (cc) ]

-- nor does the read record then what was recorded last
in_the_chain : Chained (queue_of []) (holding 4) increment
in_the_chain = (tt, (inl refl, (tt, (tt, tt))))

not_in_the_chain : Chained (queue_of []) (holding 9) increment → ⊥
unfolding queue_of
not_in_the_chain chained = elim chained.1.0 [ inl same ↦ absurd (cc) | inr queued ↦ absurd (cc) ]

-- two reads that record the same, of which only the first one is queued
twice : Chained (queue_of (7 ∷ [])) (holding 9) (entry 7 (Read a (Num (pos 4)) (record { 0 = 1 }) 2 []) 0 ∷ entry 8 (Read a (Num (pos 4)) (record { 0 = 1 }) 2 []) 0 ∷ [])
unfolding queue_of stored
twice = (inr refl, (inl refl, tt))

-- the nodes after the root as a grove, and as the theory has them
of_a_grove : entry 0 Root 1 ∷ entries (Got 7 a (Num (pos 4)) (record { 0 = 1 }) 2 (At b ∷ []) 1 (Put 3 b (Num (pos 5)) 0 Bare) 5 0 Bare) ≡ increment
of_a_grove = refl

in_the_theory : nodes_of (before 3 increment) ≡ cover.Node 0 item.Step (cover.Node 7 (item.Read a (Num (pos 4)) (record { 0 = 1 }) 2 (At b ∷ [])) cover.Nil)
in_the_theory = refl

-- an edit of an input sets the base of its modifiable, and of no field that it has not
base_set : base_of [] ModInt (Num (pos 9) ∷ []) 0 (Num (pos 4)) ≡ Num (pos 9)
base_set = refl

base_kept : base_of [] ModInt (Num (pos 9) ∷ []) 1 (Num (pos 4)) ≡ Num (pos 4)
base_kept = refl
