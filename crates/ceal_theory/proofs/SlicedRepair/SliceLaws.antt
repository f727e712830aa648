-- The laws of slices.
use Rattle.std.proofs.Common.{◌≡◌, ℕ, zero, suc, ◌+◌, ◌≤◌, ◌<◌, Bool, true, false, Option, Some, None, List, [], ◌∷◌, ◌++◌, length, ◌⊎◌, inl, inr, refl, sym, ◌∙◌, subst, arith}
use Rattle.ceal_base.specs.Block.{Block}
use Rattle.ceal_base.specs.Operators.{same_place}
use Rattle.ceal_base.specs.Trace.{Trace, flat}
use Rattle.ceal_base.specs.declared.forest.Item.{Item}
use Rattle.ceal_base.specs.declared.forest.Item.TheVariants.{Read, End}
use Rattle.ceal_base.specs.declared.forest.UnitId.{UnitId}
use Rattle.ceal_base.specs.declared.word.Place.{Place}
use Rattle.ceal_base.specs.declared.word.BlockId.TheVariants.{Core}
use Rattle.ceal_base.specs.declared.word.Word.{Word}
use Rattle.ceal_code.proofs.Replay.ReplayedCall.{trace-law}
use Rattle.ceal_code.specs.Fitting.{Fits}
use Rattle.ceal_code.specs.Known.{KnownStack}
use Rattle.ceal_code.specs.Program.{Code}
use Rattle.ceal_code.specs.Replay.{KnownWord, stored, IsHonest}
use Rattle.ceal_theory.proofs.Store.Walk.{agrees-honest, flat-honest, walk-fix}
use Rattle.ceal_theory.specs.Repair.{State, resumed}
use Rattle.ceal_theory.specs.Moves.{Finishes}
use Rattle.ceal_theory.proofs.MoveMachine.MoveKeepsEnd.{RanFlat, finishes-anew}
use Rattle.ceal_theory.proofs.Repair.DistinctBlocks.{named-same, named-one, named-later}
use Rattle.ceal_theory.proofs.SlicedRepair.CoreBases.{to-bases, from-bases}
use Rattle.ceal_theory.proofs.SlicedRepair.UnlimitedSlice.{adjusts-slices, slices-adjusts, begun-adjusted}
use Rattle.ceal_theory.proofs.SlicedRepair.SliceFunction.{sliced-sound, sliced-found}
use Rattle.ceal_theory.proofs.QueueCover.Cover.{cover, covered-behind, covered-change, covered-front, none-waits, honest-front, first-pop}
use Rattle.ceal_theory.proofs.Store.Walk.{flat-honest, agrees-front}
use Rattle.ceal_theory.proofs.QueueCover.NodeChangesKeepCover.{stored-other}
use Rattle.ceal_theory.proofs.SlicedRepair.OneTurn.{honest-part, at-flat, at-store, at-honest, at-run, at-must, Located, Ahead, locate, SameFirst, one-first, alone, anew-finishes}
use Rattle.ceal_theory.proofs.SlicedRepair.KnownAtStaleRead.{sound-ready}
use Rattle.ceal_code.proofs.Words.SameIsEqual.{some-same, none-some}
use Rattle.ceal_theory.proofs.SlicedRepair.Decomposition.{runs-after}
use Rattle.ceal_theory.proofs.QueueCover.TurnKeepsCover.{turn-kept}
use Rattle.ceal_theory.proofs.Renaming.RenamedSoundness.{sound-renamed}
use Rattle.ceal_theory.proofs.Store.FittingInputs.{fits-more}
use Rattle.ceal_theory.specs.Adjust.{Extended}
use Rattle.ceal_theory.proofs.SlicedRepair.DoneTest.{done-honest, honest-done}
use Rattle.ceal_theory.proofs.SlicedRepair.DoneReplays.{any-start-honest, replays-words, done-replays, whole-done}
use Rattle.ceal_theory.proofs.SlicedRepair.SoundComposition.{done-stays, follow, from-start}
use Rattle.ceal_theory.proofs.SlicedRepair.Soundness.{low, at-core, begin-sound, sound-more, grown, part-sound}
use Rattle.ceal_theory.proofs.SlicedRepair.AddedBlocks.{part-adds, part-uses}
use Rattle.ceal_theory.proofs.SlicedRepair.PartYields.{AsPart, part-fix, fix-part}
use Rattle.ceal_theory.proofs.Renaming.RenamedSlice.{slice-renamed, done-too}
use Rattle.ceal_theory.specs.SliceLaws.{StartLaw, OtherNamesLaw, BeginLaw, MoreLaw, Sliced, SliceLaw, DoneLaw, WholeLaw}
use Rattle.ceal_theory.specs.SliceLaws.{StaysLaw, BegunLaw, BegunAdjustedLaw, IsNamed, RenamedSliceLaw, and_more}
use Rattle.ceal_theory.specs.SliceLaws.{FollowLaw, SlicesLaw, IsDoneLaw, BasesLaw, unit_alone, FirstStale, TurnLaw}
use Rattle.ceal_theory.specs.SliceLaws.{KnownThere, ReadyLaw, Turns, TurnsLaw, History, HeldUp, HistoryLaw}
use Rattle.ceal_theory.specs.SliceLaws.{RenamedSoundLaw, KeepLaw, SplitLaw, TurnedOver, TurnsOverLaw}
use Rattle.ceal_theory.specs.Cover.{before, items_of, waits_after, CoverLaw, ReplaceLaw, known_after, Waiting, none_waits, waiting_after_write, waiting_after_read, ChangeLaw, PopLaw, FirstQueuedLaw}
use Rattle.ceal_theory.specs.Cover.{FrontLaw}
use Rattle.ceal_theory.specs.Walk.{store_after, AgreesAll, with_store}
use Rattle.ceal_theory.specs.Slices.{Repair, with_inputs, starting, goes_on, Part, Runs, repair_at, Slices, sliced, RepairHolds, Follows}

pub begin-law : BeginLaw
begin-law code names old new f args l above number e single apart = begin-sound code names old new f args l above number e single apart

pub more-law : MoreLaw
more-law code names old new f args fits fit more r h = sound-more code old new f args fits fit more r h

module _ {names : ℕ → ℕ} (code : Code) (inputs : List Block) (f : ℕ) (args : List Word) (fits : Fits code inputs f args) (r : Repair) (h : RepairHolds code names inputs f args r) where
  part-sliced : (k j : ℕ) (s' : State) (m : Trace) → Part code names k (goes_on code inputs r) r.items j s' m → Sliced code names inputs f args r (repair_at s' m)
  part-sliced k j s' m p =
      let s = part-sound code inputs f args fits r h k j s' m p in
      let a = part-adds code p in
      record {
        sound = s;
        kept = λ b block e. grown code inputs f args fits r h k j s' m p (Core b) block (at-core code inputs r.known b ∙ e);
        known = λ b block e. known b block (a.known b block e);
        old = λ b i. omega (arith, part-uses code b p, named-same names r.number s'.number b a.numbers (λ k x y e. i (k, x, y, e)));
        new = λ k i j. omega (arith, a.items (names k), named-one names h.single s'.number k j, named-later names h.single r.number k i, s.distinct (names k));
        numbers = a.numbers;
        room = a.work;
      }
    where
      known : (b : ℕ) (block : Block) → (with_inputs code inputs r.known (Core b) ≡ Some block)
          ⊎ IsNamed names r.number s'.number b → (r.known (Core b) ≡ Some block) ⊎ IsNamed names r.number s'.number b
      known b block (inl e) = inl (sym (at-core code inputs r.known b) ∙ e)
      known b block (inr e) = inr e

  runs-sliced : (k : Option ℕ) (s' : State) (m : Trace) → Runs code names k (goes_on code inputs r) r.items s' m → Sliced code names inputs f args r (repair_at s' m)
  runs-sliced k s' m (Runs.whole g) = let q : AsPart code names (goes_on code inputs r) r.items s' m 0 = fix-part g 0 in part-sliced (suc q.reads) 1 s' m q.part
  runs-sliced k s' m (Runs.part {k = n} {j = j} p) = part-sliced n j s' m p

pub slice-law : SliceLaw
slice-law code names inputs f args fits r h k r' s = subst (Sliced code names inputs f args r) (sym s.is) (runs-sliced code inputs f args fits r h k s.after s.items s.runs)

pub other-names-law : OtherNamesLaw
other-names-law code names names' inputs f args r h single number free = record {
  yields = h.yields;
  distinct = h.distinct;
  blocks = h.blocks;
  all = h.all;
  holds = h.holds;
  uses = h.uses;
  single = single;
  free = free;
}

pub done-law : DoneLaw
done-law code names inputs f args fits r h k =
    let p = done-replays code inputs f args fits r h k in record { replays = p; run = trace-law code inputs f args fits r.items p k }

pub start-law : StartLaw
start-law code names inputs f args fits r s = (
  λ h. flat-honest code (from-start code inputs f args fits r s h).walk,
  λ a. any-start-honest code inputs f args fits r s r.known (store_after code (starting code inputs r.known) (flat r.items)) (agrees-honest code (starting code inputs r.known) r.items a),
)

pub whole-law : WholeLaw
whole-law code names inputs f args fits r h r' s = whole-done code inputs f args fits r h r' s

pub stays-law : StaysLaw
stays-law code names inputs f args fits r h k o r' s = done-stays code inputs f args fits r h k o r' s

pub begun-law : BegunLaw
begun-law code names old new f args l above number e single apart =
    (adjusts-slices code names old new f args l above number e single apart, slices-adjusts code names old new f args l above number e single apart)

pub begun-adjusted-law : BegunAdjustedLaw
begun-adjusted-law code old new f args l number e n = begun-adjusted code old new f args l number e n

pub renamed-slice-law : RenamedSliceLaw
renamed-slice-law code names names' single single' inputs fit ps r q h = (λ k n. slice-renamed code inputs fit names names' single single' ps r q h k n, done-too code inputs fit ps r q h)

pub follow-law : FollowLaw
follow-law code names inputs f args fits r h k r' s o z s' = go o (follow code inputs f args fits r h k r' s o z s')
  where
    go : (o : Option ℕ) → Follows code names inputs k r o z → Slices code names inputs (and_more k o) r z
    go None (Follows.whole q) = q
    go (Some j) (Follows.part q) = q

pub slices-law : SlicesLaw
slices-law code names inputs k n r r' = (sliced-sound code names inputs n r k r', λ h. sliced-found code names inputs n r k r' h.0 h.1)

pub is-done-law : IsDoneLaw
is-done-law code inputs r = (done-honest code inputs r, honest-done code inputs r)

pub bases-law : BasesLaw
bases-law code names inputs f args fits r h k r' = (to-bases code inputs f args fits r h k r', from-bases code inputs f args fits r h k r')

other-place : (w : Waiting) (p : Place) (wait : Bool) (r : Place) → same_place r p ≡ false → w r ≡ true → waiting_after_read (waiting_after_write w p) p wait r ≡ true
unfolding waiting_after_read waiting_after_write
other-place w p wait r e i = rw e i

pub change-law : ChangeLaw
change-law code q s p value l = (
  λ c. covered-change code p q l s (stored s p value) none_waits none_waits (λ r e. (stored-other s p value r e, λ i. i)) c,
  λ w wait c. covered-change code p q l s s w (waiting_after_read (waiting_after_write w p) p wait) (λ r e. (refl, λ i. other-place w p wait r e i)) c,
)

pub pop-law : PopLaw
pop-law code q s front n p value u v args l m a c e = first-pop code q s front n p value u v args l m a c e

pub first-queued-law : FirstQueuedLaw
first-queued-law code q s front l m c = covered-front code q front l m s none_waits (none-waits code) c

pub front-law : FrontLaw
front-law code q s front l h c = honest-front code q front l s none_waits h c

-- what a turn at a read comes to
pub record TurnedAt (code : Code) (names : ℕ → ℕ) (inputs : List Block) (r : Repair) (inside : Trace) (back front : List Item) (p : Place) (u : UnitId) (v : ℕ) (args : List Word) : Type 0 where
  pub slice : (t : State) (out : List Item) → Finishes code names (unit_alone code inputs r front p u v args inside) t out
      → (m : Trace) × Slices code names inputs (Some 1) r (repair_at t m) × (flat m ≡ front ++ Read p (store_after code (starting code inputs r.known) front p) u v args ∷ (out ++ End ∷ back))
  pub over : (n : ℕ) → ((t : State) (out : List Item) → Finishes code names (unit_alone code inputs r front p u v args inside) t out → n < t.work)
      → (k : Option ℕ) → ¬ (k ≡ Some zero) → sliced code names inputs k n r ≡ None

moved : (code : Code) (names : ℕ → ℕ) (inputs : List Block) (r : Repair) (inside : Trace) (back : List Item) (f0 f : List Item) (p0 p : Place) (u0 u : UnitId) (v0 v : ℕ) (args0 args : List Word)
    → f0 ≡ f → p0 ≡ p → u0 ≡ u → v0 ≡ v → args0 ≡ args → TurnedAt code names inputs r inside back f0 p0 u0 v0 args0 → TurnedAt code names inputs r inside back f p u v args
moved code names inputs r inside back f0 f p0 p u0 u v0 v args0 args e0 e1 e2 e3 e4 h =
    subst (λ z. TurnedAt code names inputs r inside back f p u v z) e4 (subst (λ z. TurnedAt code names inputs r inside back f p u z args0) e3
    (subst (λ z. TurnedAt code names inputs r inside back f p z v0 args0) e2
    (subst (λ z. TurnedAt code names inputs r inside back f z u0 v0 args0) e1
    (subst (λ z. TurnedAt code names inputs r inside back z p0 u0 v0 args0) e0 h))))

runs-part : (code : Code) (names : ℕ → ℕ) (s : State) (l : Trace) (k : Option ℕ) (t : State) (m : Trace) → Runs code names k s l t m → ¬ (k ≡ Some zero) → (j i : ℕ) × Part code names (suc j) s l i t m
runs-part code names s l None t m (Runs.whole g) h = let q : AsPart code names s l t m 0 = fix-part g 0 in (q.reads, 1, q.part)
runs-part code names s l (Some zero) t m (Runs.part p) h = absurd (h refl)
runs-part code names s l (Some (suc j)) t m (Runs.part {j = i} p) h = (j, i, p)

turned : (code : Code) (names : ℕ → ℕ) (inputs : List Block) (r : Repair)
    (q : Located code (starting code inputs r.known) r.items)
    → TurnedAt code names inputs r q.inside q.back q.front q.place q.unit q.var q.args
turned code names inputs r q = record {
  slice = λ t out h. sliced-one t out (finishes-anew code names (with_store (goes_on code inputs r) q.store) (resumed code q.unit q.var q.args (q.store q.place)) q.inside t out (to-store t out h));
  over = λ n h k z. none-over n h k z (sliced code names inputs k n r) refl;
}
  where
    w : q.store ≡ store_after code (starting code inputs r.known) q.front
    w = at-store code q.at-it

    to-store : (t : State) (out : List Item) → Finishes code names (unit_alone code inputs r q.front q.place q.unit q.var q.args q.inside) t out
        → Finishes code names (alone code names (with_store (goes_on code inputs r) q.store) (resumed code q.unit q.var q.args (q.store q.place)) q.inside) t out
    to-store t out h = subst (λ z. Finishes code names (alone code names (with_store (goes_on code inputs r) z) (resumed code q.unit q.var q.args (z q.place)) q.inside) t out) (sym w) h

    sliced-one : (t : State) (out : List Item) → RanFlat code names (with_store (goes_on code inputs r) q.store) (resumed code q.unit q.var q.args (q.store q.place)) q.inside t out
        → (m : Trace) × Slices code names inputs (Some 1) r (repair_at t m) ×
        (flat m ≡ q.front ++ Read q.place (store_after code
        (starting code inputs r.known) q.front q.place) q.unit q.var q.args ∷ (out ++ End ∷ q.back))
    sliced-one t out x =
        let y = at-run code names (goes_on code inputs r) q.at-it q.stale x.anew in (
          y.items,
          record { after = t; items = y.items; runs = Runs.part y.part; is = refl },
          subst (λ z. flat y.items ≡ q.front ++ Read q.place (z q.place) q.unit q.var q.args ∷ (out ++ End ∷ q.back)) w
              (subst (λ is. flat y.items ≡ q.front ++ Read q.place (q.store q.place) q.unit q.var q.args ∷ (is ++ End ∷ q.back)) (sym x.same) y.flat_items),
        )

    none-over : (n : ℕ) → ((t : State) (out : List Item) → Finishes code names (unit_alone code inputs r q.front q.place q.unit q.var q.args q.inside) t out → n < t.work)
        → (k : Option ℕ) → ¬ (k ≡ Some zero) → (o : Option Repair) → sliced code names inputs k n r ≡ o → sliced code names inputs k n r ≡ None
    none-over n h k z None e = e
    none-over n h k z (Some a) e =
        let s = sliced-sound code names inputs n r k a e in
        let p = runs-part code names (goes_on code inputs r) r.items k s.0.after s.0.items s.0.runs z in
        let m = at-must code names (goes_on code inputs r) q.at-it q.stale p.2 in
        let f : Finishes code names (unit_alone code inputs r q.front q.place q.unit q.var q.args q.inside) m.state (flat m.new ++ []) =
        subst (λ z. Finishes code names (alone code names (with_store (goes_on code inputs r) z)
        (resumed code q.unit q.var q.args (z q.place)) q.inside) m.state (flat m.new ++ [])) w
        (anew-finishes code names m.anew) in
        absurd (omega (arith, h m.state (flat m.new ++ []) f, m.work, subst (λ a. a.spent ≤ n) s.0.is s.1))

-- the turn at the located read, which is the one that was found
pub turn-law : TurnLaw
turn-law code names inputs r front p value u v args after e h n = found (locate code r.items (starting code inputs r.known))
  where
    read-honest : AgreesAll code (starting code inputs r.known) (front ++ Read p value u v args ∷ after) → store_after code (starting code inputs r.known) front p ≡ value
    read-honest k = (agrees-front code (starting code inputs r.known) front (Read p value u v args ∷ after) k).1.0

    finish : (q : Located code (starting code inputs r.known) r.items) → after ≡ flat q.inside ++ End ∷ q.back
        → TurnedAt code names inputs r q.inside q.back front p u v args
        → FirstStale code names inputs r front p u v args after
    finish q i x = record {
      inside = q.inside;
      back = q.back;
      items = i;
      slice = x.slice;
      over = λ n h. (x.over n h None (λ z. none-is z), λ k. x.over n h (Some (suc k)) (λ z. some-is k z));
    }
      where
        none-is : {A : Type 0} → None ≡ Some zero → A
        none-is z = Rattle.ceal_code.proofs.Words.SameIsEqual.none-some zero z

        some-is : {A : Type 0} (k : ℕ) → Some (suc k) ≡ Some zero → A
        some-is k z = absurd (omega (arith, Rattle.ceal_code.proofs.Words.SameIsEqual.some-same (suc k) zero z))

    at : (q : Located code (starting code inputs r.known) r.items)
        → SameFirst code q.front front q.place p q.value value q.unit u q.var v q.args args
        (flat q.inside ++ End ∷ q.back) after → FirstStale code names inputs r front p u v args after
    at q o = finish q (sym o.afters)
        (moved code names inputs r q.inside q.back q.front front q.place p q.unit u q.var v q.args args o.fronts o.places o.units o.vars o.words
        (turned code names inputs r q))

    found : Ahead code (starting code inputs r.known) r.items → FirstStale code names inputs r front p u v args after
    found (Ahead.honest k) = absurd (n (read-honest (subst (λ is. AgreesAll code (starting code inputs r.known) is) e (flat-honest code k))))
    found (Ahead.stale q) = at q (one-first code (starting code inputs r.known) q.front front
        (flat q.inside ++ End ∷ q.back) after q.place p q.value value q.unit u q.var v q.args args
        (sym (at-flat code q.at-it) ∙ e)
        (at-honest code q.at-it) (subst (λ z. ¬ (z q.place ≡ q.value)) (at-store code q.at-it) q.stale) h n)

known-there : {names : ℕ → ℕ} (code : Code) (inputs : List Block) (f : ℕ) (ws : List Word) → Fits code inputs f ws →
    (r : Repair) → RepairHolds code names inputs f ws r → (q : Located code (starting code inputs r.known) r.items)
    → KnownThere code inputs r q.front q.place q.value q.unit q.var q.args (flat q.inside ++ End ∷ q.back)
known-there code inputs f ws fits r h q =
    let x = sound-ready code inputs f ws fits r h q.at-it in
    let w = at-store code q.at-it in
    record {
      inside = q.inside;
      back = q.back;
      items = refl;
      holds = x.good.plain;
      store = λ p. subst (λ z. KnownWord (length inputs) (known_after [] q.front) (z p)) w (x.good.store p);
      place = x.place;
      words = x.words;
      stack = subst (λ z. KnownStack (length inputs) (known_after [] q.front) (resumed code q.unit q.var q.args (z q.place))) w x.stack;
      yields = x.yields;
    }

moved-there : (code : Code) (inputs : List Block) (r : Repair) (f0 f : List Item) (p0 p : Place) (value0 value : Word) (u0 u : UnitId) (v0 v : ℕ) (args0 args : List Word) (a0 a : List Item)
    → SameFirst code f0 f p0 p value0 value u0 u v0 v args0 args a0 a → KnownThere code inputs r f0 p0 value0 u0 v0 args0 a0 → KnownThere code inputs r f p value u v args a
moved-there code inputs r f0 f p0 p value0 value u0 u v0 v args0 args a0 a o h =
    subst (λ z. KnownThere code inputs r f p value u v args z) o.afters
    (subst (λ z. KnownThere code inputs r f p value u v z a0) o.words
    (subst (λ z. KnownThere code inputs r f p value u z args0 a0) o.vars
    (subst (λ z. KnownThere code inputs r f p value z v0 args0 a0) o.units (subst (λ z. KnownThere code inputs r f p z u0 v0 args0 a0) o.values
    (subst (λ z. KnownThere code inputs r f z value0 u0 v0 args0 a0) o.places (subst (λ z. KnownThere code inputs r z p0 value0 u0 v0 args0 a0) o.fronts h))))))

pub ready-law : ReadyLaw
ready-law code names inputs f ws fits r h front p value u v args after e k n = found (locate code r.items (starting code inputs r.known))
  where
    found : Ahead code (starting code inputs r.known) r.items → KnownThere code inputs r front p value u v args after
    found (Ahead.honest m) = absurd (n
        (agrees-front code (starting code inputs r.known) front (Read p value u v args ∷ after)
        (subst (λ is. AgreesAll code (starting code inputs r.known) is) e (flat-honest code m))).1.0)
    found (Ahead.stale q) = moved-there code inputs r q.front front q.place p q.value value q.unit u q.var v q.args args (flat q.inside ++ End ∷ q.back) after
        (one-first code (starting code inputs r.known) q.front front (flat q.inside ++ End ∷ q.back) after q.place p q.value value q.unit u q.var v q.args args (sym (at-flat code q.at-it) ∙ e)
        (at-honest code q.at-it) (subst (λ z. ¬ (z q.place ≡ q.value)) (at-store code q.at-it) q.stale) k n)
        (known-there code inputs f ws fits r h q)

module _ {names : ℕ → ℕ} (code : Code) (inputs : List Block) (f : ℕ) (args : List Word) (fits : Fits code inputs f args) where
  -- what is done has a slice, which leaves it
  stay-whole : (r : Repair) → RepairHolds code names inputs f args r → IsHonest code inputs r.items → Slices code names inputs None r (repair_at (goes_on code inputs r) r.items)
  stay-whole r h k =
      let w = from-start code inputs f args fits r h k in
      record { after = record (goes_on code inputs r) { store = w.after }; items = r.items; runs = Runs.whole (walk-fix code names w.walk (goes_on code inputs r) refl); is = refl }

  stay-part : (r : Repair) → RepairHolds code names inputs f args r → IsHonest code inputs r.items → (n : ℕ) → Slices code names inputs (Some (suc n)) r (repair_at (goes_on code inputs r) r.items)
  stay-part r h k n =
      let w = from-start code inputs f args fits r h k in
      record { after = record (goes_on code inputs r) { store = w.after }; items = r.items; runs = Runs.part (honest-part code names w.walk (goes_on code inputs r) n); is = refl }

  follow-some : (r : Repair) → RepairHolds code names inputs f args r → (r' : Repair) → Slices code names inputs
      (Some 1) r r' → (j : ℕ) (z : Repair) → Slices code names inputs (Some j) r' z → Slices code names inputs
      (Some (suc j)) r z
  follow-some r h r' s j z s' =
      subst (λ n. Slices code names inputs (Some n) r z) (omega arith) (follow-law code names inputs f args fits r h 1 r' s (Some j) z s')

  turns-many : (r z : Repair) (n : ℕ) → RepairHolds code names inputs f args r → Turns code names inputs (suc n) r z → Slices code names inputs (Some (suc n)) r z
  turns-many r z n h (Turns.turn s Turns.none) = s
  turns-many r z n h (Turns.turn {r' = r'} s (Turns.turn {n = m} t u)) =
      follow-some r h r' s (suc m) z (turns-many r' z m (slice-law code names inputs f args fits r h (Some 1) r' s).sound (Turns.turn t u))

  turns-whole : (r z : Repair) (n : ℕ) → RepairHolds code names inputs f args r → Turns code names inputs n r z
      → IsHonest code inputs z.items → Slices code names inputs None r (repair_at (goes_on code inputs z) z.items)
  turns-whole r z n h Turns.none k = stay-whole r h k
  turns-whole r z n h (Turns.turn {n = m} {r' = r'} s t) k =
      follow-law code names inputs f args fits r h 1 r' s None (repair_at (goes_on code inputs z) z.items) (turns-whole r' z m (slice-law code names inputs f args fits r h (Some 1) r' s).sound t k)

  turns-ended : (r z : Repair) (n : ℕ) → RepairHolds code names inputs f args r → Turns code names inputs n r z
      → IsHonest code inputs z.items → (k : ℕ) → n ≤ k → Slices code names inputs (Some (suc k)) r
      (repair_at (goes_on code inputs z) z.items)
  turns-ended r z n h Turns.none k j l = stay-part r h k j
  turns-ended r z n h (Turns.turn {n = m} s t) k zero l = absurd (omega (arith, l))
  turns-ended r z n h (Turns.turn {n = m} {r' = r'} s t) k (suc j) l =
      follow-some r h r' s (suc j) (repair_at (goes_on code inputs z) z.items) (turns-ended r' z m (slice-law code names inputs f args fits r h (Some 1) r' s).sound t k j (omega (arith, l)))

pub turns-law : TurnsLaw
turns-law code names inputs f args fits r h n z t = record {
  many = λ l. many n t l;
  whole = λ k. turns-whole code inputs f args fits r z n h t k;
  ended = λ k j l. ended k j l;
}
  where
    many : (n : ℕ) → Turns code names inputs n r z → 1 ≤ n → Slices code names inputs (Some n) r z
    many zero t l = absurd (omega (arith, l))
    many (suc n) t l = turns-many code inputs f args fits r z n h t

    ended : IsHonest code inputs z.items → (j : ℕ) → n < j → Slices code names inputs (Some j) r (repair_at (goes_on code inputs z) z.items)
    ended k zero l = absurd (omega (arith, l))
    ended k (suc j) l = turns-ended code inputs f args fits r z n h t k j (omega (arith, l))

pub renamed-sound-law : RenamedSoundLaw
renamed-sound-law code names names' single' inputs f args fits r h ps q a t = sound-renamed code inputs f args fits r h names' single' ps q a t

extended-refl : (code : Code) (inputs : List Block) → Extended code inputs inputs
extended-refl code inputs i block e = rw e refl

-- what a history comes to
history : (code : Code) (names : ℕ → ℕ) (f : ℕ) (args : List Word) {inputs : List Block} {r : Repair} → History code names f args inputs r
    → Fits code inputs f args × RepairHolds code names inputs f args r
history code names f args (History.began {old = old} {new = new} {l = l} {above = above} {number = number} e single apart) =
    (fits-more code old new e.extended f args e.call e.fit, begin-sound code names old new f args l above number e single apart)
history code names f args (History.edited {old = old} {new = new} {r = r} h more fit) =
    let k = history code names f args h in (fits-more code old new more f args k.0 fit, sound-more code old new f args k.0 fit more r k.1)
history code names f args (History.cut {inputs = inputs} {k = k} {r = r} {r' = r'} h s) =
    let i = history code names f args h in (i.0, (slice-law code names inputs f args i.0 r i.1 k r' s).sound)

pub history-law : HistoryLaw
history-law code names f args inputs r h = of (history code names f args h)
  where
    of : Fits code inputs f args × RepairHolds code names inputs f args r → HeldUp code names inputs f args r
    of k = record {
      call = k.0;
      sound = k.1;
      ended = λ i. done-law code names inputs f args k.0 r k.1 i;
      words = λ i. replays-words code inputs f args k.0 r k.1 i;
      apart = low code inputs f args k.0 r k.1;
      again = λ i number above. record { call = k.0; fit = k.0.blocks; extended = extended-refl code inputs; trace = done-replays code inputs f args k.0 r k.1 i; above = above };
    }

-- a slice has one result
slices-one : (code : Code) (names : ℕ → ℕ) (inputs : List Block) (k : Option ℕ) (r a b : Repair) → Slices code names inputs k r a → Slices code names inputs k r b → a ≡ b
slices-one code names inputs k r a b s t =
    let n = a.spent + b.spent in
    some-same a b (sym (sliced-found code names inputs n r k a s (omega arith)) ∙ sliced-found code names inputs n r k b t (omega arith))

module _ {names : ℕ → ℕ} (code : Code) (inputs : List Block) (f : ℕ) (args : List Word) (fits : Fits code inputs f args) (r : Repair) (h : RepairHolds code names inputs f args r) where
  stay : (r' : Repair) → RepairHolds code names inputs f args r' → IsHonest code inputs r'.items → (o : Option ℕ) → ¬
      (o ≡ Some zero) → Slices code names inputs o r' (repair_at (goes_on code inputs r') r'.items)
  stay r' h' k None z = stay-whole code inputs f args fits r' h' k
  stay r' h' k (Some zero) z = absurd (z refl)
  stay r' h' k (Some (suc j)) z = stay-part code inputs f args fits r' h' k j

  -- the first slice left reads over: it is done
  split-done : (k : ℕ) (r' : Repair) → Slices code names inputs (Some k) r r' → IsHonest code inputs r'.items →
      (o : Option ℕ) → ¬ (o ≡ Some zero) → (z : Repair) → Slices code names inputs (and_more k o) r z
      → Slices code names inputs o r' z
  split-done k r' s k' o n z t =
      let h' = (slice-law code names inputs f args fits r h (Some k) r' s).sound in
      let w = stay r' h' k' o n in
      let w' = follow-law code names inputs f args fits r h k r' s o (repair_at (goes_on code inputs r') r'.items) w in
      subst (λ z. Slices code names inputs o r' z) (slices-one code names inputs (and_more k o) r (repair_at (goes_on code inputs r') r'.items) z w' t) w

  split-left : (k i : ℕ) (t : State) (m : Trace) → Part code names k (goes_on code inputs r) r.items i t m →
      (o : Option ℕ) → ¬ (o ≡ Some zero) → (z : Repair) → Slices code names inputs (and_more k o) r z
      → Slices code names inputs o (repair_at t m) z
  split-left k zero t m p o n z w =
      subst (λ z. Slices code names inputs o (repair_at t m) z) (sym w.is) (runs-after code inputs f args fits r h k t m p o n (and_more k o) refl w.after w.items w.runs)
  split-left k (suc i) t m p o n z w =
      let whole : Slices code names inputs None r (repair_at t m) = record { after = t; items = m; runs = Runs.whole (part-fix p); is = refl } in
      split-done k (repair_at t m) (record { after = t; items = m; runs = Runs.part p; is = refl }) (whole-done code inputs f args fits r h (repair_at t m) whole) o n z w

  split-runs : (k : ℕ) (t : State) (m : Trace) → Runs code names (Some k) (goes_on code inputs r) r.items t m →
      (o : Option ℕ) → ¬ (o ≡ Some zero) → (z : Repair) → Slices code names inputs (and_more k o) r z
      → Slices code names inputs o (repair_at t m) z
  split-runs k t m (Runs.part {j = i} p) o n z w = split-left k i t m p o n z w

  split-slices : (k : ℕ) (r' : Repair) → Slices code names inputs (Some k) r r' → (o : Option ℕ) → ¬ (o ≡ Some zero) →
      (z : Repair) → Slices code names inputs (and_more k o) r z → Slices code names inputs o r' z
  split-slices k r' s o n z w = subst (λ r'. Slices code names inputs o r' z) (sym s.is) (split-runs k s.after s.items s.runs o n z w)

  split-over : (k : ℕ) (r' : Repair) → Slices code names inputs (Some k) r r' → (o : Option ℕ) → ¬ (o ≡ Some zero) →
      (n : ℕ) → sliced code names inputs o n r' ≡ None → sliced code names inputs (and_more k o) n r ≡ None
  split-over k r' s o z n e = go (sliced code names inputs (and_more k o) n r) refl
    where
      go : (q : Option Repair) → sliced code names inputs (and_more k o) n r ≡ q → sliced code names inputs (and_more k o) n r ≡ None
      go None i = i
      go (Some a) i =
          let w = sliced-sound code names inputs n r (and_more k o) a i in
          none-some a (sym e ∙ sliced-found code names inputs n r' o a (split-slices k r' s o z a w.0) w.1)

pub split-law : SplitLaw
split-law code names inputs f args fits r h k r' s o z = record { later = split-slices code inputs f args fits r h k r' s o z; over = split-over code inputs f args fits r h k r' s o z }

turns-over : (code : Code) (names : ℕ → ℕ) (inputs : List Block) (f : ℕ) (args : List Word) → Fits code inputs f args
    → (r z : Repair) (n : ℕ) → RepairHolds code names inputs f args r → Turns code names inputs n r z
    → TurnedOver code names inputs n r z
turns-over code names inputs f args fits r z n h Turns.none = record { whole = λ k e. e; part = λ k j e. e' k j e }
  where
    e' : (k j : ℕ) → sliced code names inputs (Some (suc j)) k r ≡ None → sliced code names inputs (Some (zero + suc j)) k r ≡ None
    e' k j e = subst (λ i. sliced code names inputs (Some i) k r ≡ None) (omega arith) e
turns-over code names inputs f args fits r z n h (Turns.turn {n = m} {r' = r'} s t) = of
    (turns-over code names inputs f args fits r' z m
    (slice-law code names inputs f args fits r h (Some 1) r' s).sound t)
  where
    of : TurnedOver code names inputs m r' z → TurnedOver code names inputs (suc m) r z
    of x = record {
      whole = λ k e. split-over code inputs f args fits r h 1 r' s None (λ i. no-none i) k (x.whole k e);
      part = λ k j e. later k j (x.part k j e);
    }
      where
        no-none : {A : Type 0} → None ≡ Some zero → A
        no-none i = none-some zero i

        later : (k j : ℕ) → sliced code names inputs (Some (m + suc j)) k r' ≡ None → sliced code names inputs (Some (suc m + suc j)) k r ≡ None
        later k j e = subst (λ i. sliced code names inputs (Some i) k r ≡ None) (omega arith) (split-over code inputs f args fits r h 1 r' s (Some (m + suc j)) (λ i. no-zero i) k e)
          where
            no-zero : {A : Type 0} → Some (m + suc j) ≡ Some zero → A
            no-zero i = absurd (omega (arith, some-same (m + suc j) zero i))

pub turns-over-law : TurnsOverLaw
turns-over-law code names inputs f args fits r h n z t = turns-over code names inputs f args fits r z n h t

pub cover-law : CoverLaw
cover-law code q q' l m s s' w h c = cover code q q' l m s s' w h c

pub replace-law : ReplaceLaw
replace-law code q q' s front old new back m c h more loose =
    let k = covered-front code q front (before old back) m s none_waits none_waits' c in
    let b = covered-behind code q old back (store_after code s (items_of front)) none_waits k.1 in
    let t = store_after code s (items_of front) in
    honest-front code q' front (before new back) s none_waits k.0
    (honest-front code q' new back t none_waits h (cover code q q' back more (store_after code t (items_of old)) (store_after code t (items_of new)) (waits_after q none_waits old) loose b))
  where
    none_waits' : (r : Place) → none_waits r ≡ false
    none_waits' = none-waits code

pub keep-law : KeepLaw
keep-law code names inputs f ws fits r h front old fresh behind w p value u v args inside back at t new left a stamp last now all q q' none c more loose =
    turn-kept code inputs f ws fits r h at t new left a front old fresh behind stamp last refl now q q' all none c more loose
