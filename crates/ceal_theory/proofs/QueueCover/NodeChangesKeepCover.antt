-- What an engine does to its nodes keeps the cover: each by the law of the cover, after the place of the change.
use Rattle.std.proofs.Common.{◌≡◌, ℕ, Bool, false, List, inl, refl, sym}
use Rattle.ceal_base.specs.Operators.{same_place}
use Rattle.ceal_base.specs.declared.forest.Item.TheVariants.{Alloc, Write, Read, End}
use Rattle.ceal_base.specs.declared.forest.Key.{Key}
use Rattle.ceal_base.specs.declared.forest.UnitId.{UnitId}
use Rattle.ceal_base.specs.declared.word.BlockId.{BlockId}
use Rattle.ceal_base.specs.declared.word.Place.{Place}
use Rattle.ceal_base.specs.declared.word.Word.{Word}
use Rattle.ceal_code.specs.Program.{Code}
use Rattle.ceal_code.specs.Replay.{Store, cleared, stored}
use Rattle.ceal_theory.proofs.QueueCover.Cover.{opened-keeps, covered-less, covered-change, covered-front, honest-front, none-waits, cover, same-on}
use Rattle.ceal_theory.specs.Cover.{Queue, Waiting, Nodes, Node, items_of, before, none_waits, waiting_after_write, waiting_after_read, Covered, first_read, with_queued, NoneQueued, NodeChangesLaw}
use Rattle.ceal_theory.specs.Walk.{store_after, AgreesAll}

pub stored-other : (s : Store) (p : Place) (value : Word) (r : Place) → same_place r p ≡ false → s r ≡ stored s p value r
unfolding stored
stored-other s p value r e = rw e refl

closed-other : (w : Waiting) (p r : Place) → same_place r p ≡ false → waiting_after_write w p r ≡ w r
unfolding waiting_after_write
closed-other w p r e = rw e refl

opened-other : (w : Waiting) (p : Place) (b : Bool) (r : Place) → same_place r p ≡ false → waiting_after_read w p b r ≡ w r
unfolding waiting_after_read
opened-other w p b r e = rw e refl

module _ (code : Code) where
  -- what follows nodes of which none is queued
  behind : (q : Queue) (s : Store) (front l : Nodes) → NoneQueued q front → Covered code q s none_waits (before front l)
      → AgreesAll code s (items_of front) × Covered code q (store_after code s (items_of front)) none_waits l
  behind q s front l m c = covered-front code q front l m s none_waits (none-waits code) c

  put-write : (q : Queue) (s : Store) (front back : Nodes) (n : ℕ) (p : Place) (value : Word) → NoneQueued q front → Covered code q s none_waits (before front back)
      → Covered code (with_queued q (first_read p back)) s none_waits (before front (Node n (Write p value) back))
  put-write q s front back n p value m c =
      let k = behind q s front back m c in
      let t = store_after code s (items_of front) in
      honest-front code (with_queued q (first_read p back)) front (Node n (Write p value) back) s none_waits k.0
      (covered-change code p q back t (stored t p value) none_waits (waiting_after_write none_waits p) (λ r e. (stored-other t p value r e, λ i. rw (closed-other none_waits p r e) i)) k.1)

  cut-write : (q : Queue) (s : Store) (front back : Nodes) (n : ℕ) (p : Place) (value : Word) → NoneQueued q front → Covered code q s none_waits (before front (Node n (Write p value) back))
      → Covered code (with_queued q (first_read p back)) s none_waits (before front back)
  cut-write q s front back n p value m c =
      let k = behind q s front (Node n (Write p value) back) m c in
      let t = store_after code s (items_of front) in
      honest-front code (with_queued q (first_read p back)) front back s none_waits k.0
      (covered-change code p q back (stored t p value) t (waiting_after_write none_waits p) none_waits (λ r e. (sym (stored-other t p value r e), λ i. rw (closed-other none_waits p r e) at i)) k.1)

  cut-read : (q : Queue) (s : Store) (front back : Nodes) (n : ℕ) (p : Place) (value : Word) (u : UnitId) (v : ℕ) (args : List Word) → NoneQueued q front
      → Covered code q s none_waits (before front (Node n (Read p value u v args) back)) → Covered code (with_queued q (first_read p back)) s none_waits (before front back)
  cut-read q s front back n p value u v args m c =
      let k = behind q s front (Node n (Read p value u v args) back) m c in
      let t = store_after code s (items_of front) in
      honest-front code (with_queued q (first_read p back)) front back s none_waits k.0
      (covered-change code p q back t t (waiting_after_read none_waits p (q n)) none_waits (λ r e. (refl, λ i. rw (opened-other none_waits p (q n) r e) at i)) k.1.1)

  put-read : (q : Queue) (s : Store) (front back : Nodes) (n : ℕ) (p : Place) (value : Word) (u : UnitId) (v : ℕ)
      (args : List Word) → NoneQueued q front → store_after code s (items_of front) p ≡ value
      → Covered code q s none_waits (before front back) → Covered code q s none_waits (before front (Node n (Read p value u v args) back))
  put-read q s front back n p value u v args m e c =
      let k = behind q s front back m c in
      let t = store_after code s (items_of front) in
      honest-front code q front (Node n (Read p value u v args) back) s none_waits k.0
      (inl e, covered-less code q q back (same-on code q back) t t none_waits (waiting_after_read none_waits p (q n)) (λ r. inl (refl, λ i. opened-keeps none_waits p (q n) r i)) k.1)

  put-end : (q : Queue) (s : Store) (front back : Nodes) (n : ℕ) → NoneQueued q front → Covered code q s none_waits (before front back) → Covered code q s none_waits (before front (Node n End back))
  put-end q s front back n m c = let k = behind q s front back m c in honest-front code q front (Node n End back) s none_waits k.0 k.1

  cut-end : (q : Queue) (s : Store) (front back : Nodes) (n : ℕ) → NoneQueued q front → Covered code q s none_waits (before front (Node n End back)) → Covered code q s none_waits (before front back)
  cut-end q s front back n m c = let k = behind q s front (Node n End back) m c in honest-front code q front back s none_waits k.0 k.1

  put-alloc : (q : Queue) (s : Store) (front back : Nodes) (n : ℕ) (b : BlockId) (key : Key) → NoneQueued q front
      → ((p : Place) → cleared code (store_after code s (items_of front)) b key p ≡ store_after code s (items_of front) p)
      → Covered code q s none_waits (before front back) → Covered code q s none_waits (before front (Node n (Alloc b key) back))
  put-alloc q s front back n b key m e c =
      let k = behind q s front back m c in
      let t = store_after code s (items_of front) in
      honest-front code q front (Node n (Alloc b key) back) s none_waits k.0
      (cover code q q back (same-on code q back) t (cleared code t b key) none_waits (λ p. inl (sym (e p), none-waits code p)) k.1)

  cut-alloc : (q : Queue) (s : Store) (front back : Nodes) (n : ℕ) (b : BlockId) (key : Key) → NoneQueued q front
      → ((p : Place) → cleared code (store_after code s (items_of front)) b key p ≡ store_after code s (items_of front) p)
      → Covered code q s none_waits (before front (Node n (Alloc b key) back)) → Covered code q s none_waits (before front back)
  cut-alloc q s front back n b key m e c =
      let k = behind q s front (Node n (Alloc b key) back) m c in
      let t = store_after code s (items_of front) in
      honest-front code q front back s none_waits k.0
      (cover code q q back (same-on code q back) (cleared code t b key) t none_waits (λ p. inl (e p, none-waits code p)) k.1)

pub node-changes-law : NodeChangesLaw
node-changes-law code = record {
  put_write = put-write code;
  cut_write = cut-write code;
  cut_read = cut-read code;
  put_read = put-read code;
  put_end = put-end code;
  cut_end = cut-end code;
  put_alloc = put-alloc code;
  cut_alloc = cut-alloc code;
}
