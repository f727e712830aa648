-- A turn keeps the cover: from the store at the beginning of the old repair to that of the new one.
use Rattle.std.proofs.Common.{◌≡◌, ℕ, Bool, true, false, if◌then◌else◌, Option, Some, None, List, [], ◌∷◌, ◌++◌, length, ◌⊎◌, inl, inr, refl, sym, ap, ◌∙◌, subst}
use Rattle.std.specs.Prelude.{⊤}
use Rattle.ceal_base.specs.Block.{Block}
use Rattle.ceal_base.specs.Operators.{same_place}
use Rattle.ceal_base.specs.Trace.{Trace, Nothing, Stepped, Allocated, Wrote, WasRead, flat}
use Rattle.ceal_base.specs.declared.forest.Item.{Item}
use Rattle.ceal_base.specs.declared.forest.Item.TheVariants.{Step, Alloc, Write, Read, End}
use Rattle.ceal_base.specs.declared.forest.UnitId.{UnitId}
use Rattle.ceal_base.specs.declared.word.BlockId.{BlockId}
use Rattle.ceal_base.specs.declared.word.BlockId.TheVariants.{Input, Core}
use Rattle.ceal_base.specs.declared.word.Place.{Place}
use Rattle.ceal_base.specs.declared.word.Word.{Word}
use Rattle.ceal_code.proofs.Words.SameIsEqual.{place-same, none-some}
use Rattle.ceal_code.specs.Fitting.{Fits}
use Rattle.ceal_code.specs.Program.{Code}
use Rattle.ceal_code.specs.Replay.{Store, KnownBlock, cleared, stored}
use Rattle.ceal_code.specs.Value.{Plain}
use Rattle.ceal_theory.proofs.Repair.RepairInvariant.{Extends}
use Rattle.ceal_theory.proofs.Store.WordsGrow.{anew-grows}
use Rattle.ceal_theory.proofs.Repair.Honesty.{anew-honest}
use Rattle.ceal_theory.proofs.Repair.RepairYields.{anew-plays}
use Rattle.ceal_theory.proofs.Store.EqualContents.{stored-equal, cleared-equal}
use Rattle.ceal_theory.specs.Repair.{State, resumed, Reruns}
use Rattle.ceal_theory.proofs.Store.KnownPlaces.{honest-again}
use Rattle.ceal_theory.proofs.QueueCover.Cover.{same-on, cover, covered-front, covered-behind, honest-front, none-waits}
use Rattle.ceal_theory.proofs.Store.Walk.{agrees-append, flat-honest}
use Rattle.ceal_theory.proofs.SlicedRepair.Soundness.{at-core}
use Rattle.ceal_theory.proofs.SlicedRepair.KnownAtStaleRead.{Ready, ready-over, sound-ready}
use Rattle.ceal_theory.proofs.SlicedRepair.OneTurn.{at-store}
use Rattle.ceal_theory.specs.Cover.{known_after, Nodes, Nil, Node, items_of, before, Queue, none_waits, Covered, first_read, NoneQueued, waits_after, Queued, MoreOn, At}
use Rattle.ceal_theory.specs.Walk.{store_after, AgreesAll, with_store}
use Rattle.ceal_theory.specs.Slices.{Repair, with_inputs, starting, starting_in, default_in, goes_on, Uses, RepairHolds}

-- the places of reads are of known blocks
abbrev ReadKnown : ℕ → List ℕ → Item → Type 0
ReadKnown n bs Step = ⊤
ReadKnown n bs (Alloc b key) = ⊤
ReadKnown n bs (Write p value) = ⊤
ReadKnown n bs (Read p value u v args) = KnownBlock n bs p.block
ReadKnown n bs End = ⊤

abbrev ReadsKnown : ℕ → List ℕ → List Item → Type 0
ReadsKnown n bs [] = ⊤
ReadsKnown n bs (i ∷ is) = ReadKnown n bs i × ReadsKnown n bs is

reads-both : (n : ℕ) (bs : List ℕ) (is js : List Item) → ReadsKnown n bs is → ReadsKnown n bs js → ReadsKnown n bs (is ++ js)
reads-both n bs [] js h k = k
reads-both n bs (i ∷ is) js h k = (h.0, reads-both n bs is js h.1 k)

uses-reads : (n : ℕ) (bs : List ℕ) (l : Trace) → Uses n bs l → ReadsKnown n bs (flat l)
uses-reads n bs Nothing u = tt
uses-reads n bs (Stepped rest) u = (tt, uses-reads n bs rest u)
uses-reads n bs (Allocated b key rest) u = (tt, uses-reads n bs rest u.2)
uses-reads n bs (Wrote p value rest) u = (tt, uses-reads n bs rest u.2)
uses-reads n bs (WasRead p value u v args inside rest) w =
    (w.0, reads-both n bs (flat inside) (End ∷ flat rest) (uses-reads n bs inside w.3) (tt, uses-reads n bs rest w.4))

-- a place of a block that is not known has no read
no-read : (n : ℕ) (bs : List ℕ) (p : Place) → ¬ (KnownBlock n bs p.block) → (l : Nodes) → ReadsKnown n bs (items_of l) → first_read p l ≡ None
no-read n bs p away Nil h = refl
no-read n bs p away (Node m Step rest) h = no-read n bs p away rest h.1
no-read n bs p away (Node m (Alloc b key) rest) h = no-read n bs p away rest h.1
no-read n bs p away (Node m (Write q value) rest) h = go (same_place q p) (no-read n bs p away rest h.1)
  where
    go : (t : Bool) → first_read p rest ≡ None → (if t then None else first_read p rest) ≡ None
    go true e = refl
    go false e = e
no-read n bs p away (Node m (Read q value u v args) rest) h = go (same_place q p) refl (no-read n bs p away rest h.1)
  where
    go : (t : Bool) → same_place q p ≡ t → first_read p rest ≡ None → (if t then Some m else first_read p rest) ≡ None
    go true e i = absurd (away (subst (λ z. KnownBlock n bs z.block) (place-same q p e) h.0))
    go false e i = i
no-read n bs p away (Node m End rest) h = no-read n bs p away rest h.1

-- where two stores have the same they have it after any items
after-equal : (code : Code) (s t : Store) (is : List Item) (p : Place) → s p ≡ t p → store_after code s is p ≡ store_after code t is p
after-equal code s t [] p e = e
after-equal code s t (Step ∷ is) p e = after-equal code s t is p e
after-equal code s t (Alloc b key ∷ is) p e = after-equal code (cleared code s b key) (cleared code t b key) is p (cleared-equal code s t b key p e)
after-equal code s t (Write q value ∷ is) p e = after-equal code (stored s q value) (stored t q value) is p (stored-equal s t q value p e)
after-equal code s t (Read q value u v args ∷ is) p e = after-equal code s t is p e
after-equal code s t (End ∷ is) p e = after-equal code s t is p e

module _ {names : ℕ → ℕ} (code : Code) (inputs : List Block) (f : ℕ) (ws : List Word) (fits : Fits code inputs f ws)
    (r : Repair) (h : RepairHolds code names inputs f ws r) (z : Plain)
    (ext : Extends (with_inputs code inputs r.known) z) where
  -- z knows more: the start store is the same where a block is known, and no item reads where it is not
  start-same : (p : Place) → (starting code inputs r.known p ≡ starting code inputs z p) ⊎ (¬ (KnownBlock (length inputs) h.blocks p.block))
  unfolding starting
  start-same p = go p.block
    where
      core : (c : ℕ) (o : Option Block) → r.known (Core c) ≡ o →
          (default_in code.structs (r.known (Core c)) p.field ≡ default_in code.structs (z (Core c)) p.field) ⊎
          (¬ (KnownBlock (length inputs) h.blocks (Core c)))
      core c None e = inr (λ k. let g = h.holds (Core c) k in none-some g.block (sym e ∙ (sym (at-core code inputs r.known c) ∙ g.there)))
      core c (Some block) e = inl (rw (e, ext (Core c) block (at-core code inputs r.known c ∙ e)) refl)

      go : (b : BlockId) → (starting_in code inputs r.known b p.field ≡ starting_in code inputs z b p.field) ⊎ (¬ (KnownBlock (length inputs) h.blocks b))
      go (Input i) = inl refl
      go (Core c) = core c (r.known (Core c)) refl

  -- the old nodes stay covered from the new start
  pub moved-start : (q : Queue) (l : Nodes) → items_of l ≡ flat r.items → Covered code q (starting code inputs r.known) none_waits l → Covered code q (starting code inputs z) none_waits l
  moved-start q l e c = cover code q q l (same-on code q l) (starting code inputs r.known) (starting code inputs z) none_waits at c
    where
      of : (p : Place) → (starting code inputs r.known p ≡ starting code inputs z p) ⊎ (¬ (KnownBlock (length inputs) h.blocks p.block))
          → ((starting code inputs r.known p ≡ starting code inputs z p) × (none_waits p ≡ false)) ⊎ Queued q (first_read p l)
      of p (inl e) = inl (e, none-waits code p)
      of p (inr away) = inr (subst (Queued q) (sym
          (no-read (length inputs) h.blocks p away l
          (subst (ReadsKnown (length inputs) h.blocks) (sym e)
          (uses-reads (length inputs) h.blocks r.items h.uses)))) tt)

      at : (p : Place) → ((starting code inputs r.known p ≡ starting code inputs z p) × (none_waits p ≡ false)) ⊎ Queued q (first_read p l)
      at p = of p (start-same p)

  -- what is held of known blocks has the same start
  start-at : (p : Place) (bs : List ℕ) → Rattle.ceal_code.specs.Known.Holds (length inputs) bs
      (with_inputs code inputs r.known) → KnownBlock (length inputs) bs p.block
      → starting code inputs r.known p ≡ starting code inputs z p
  unfolding starting
  start-at p bs held k = go p.block k
    where
      core : (c : ℕ) → KnownBlock (length inputs) bs (Core c) → default_in code.structs (r.known (Core c)) p.field ≡ default_in code.structs (z (Core c)) p.field
      core c k =
          let g = held (Core c) k in
          rw (sym (at-core code inputs r.known c) ∙ g.there, ext (Core c) g.block g.there) refl

      go : (b : BlockId) → KnownBlock (length inputs) bs b → starting_in code inputs r.known b p.field ≡ starting_in code inputs z b p.field
      go (Input i) k = refl
      go (Core c) k = core c k

-- the unit of a located read was re-executed: its new items are honest from the new start, too
module _ {names : ℕ → ℕ} (code : Code) (inputs : List Block) (f : ℕ) (ws : List Word) (fits : Fits code inputs f ws)
    (r : Repair) (h : RepairHolds code names inputs f ws r) {front back : List Item} {w : Store} {p : Place} {value : Word} {u : UnitId} {v : ℕ} {args : List Word} {inside : Trace}
    (at : At code (starting code inputs r.known) r.items front w p value u v args inside back) (t : State)
    (new left : Trace) (a : Reruns code names (with_store (goes_on code inputs r) w)
    (resumed code u v args (w p)) inside t new left) where
  ready : Ready names h.single code (length inputs) (with_inputs code inputs r.known) (known_after [] front) (with_store (goes_on code inputs r) w) p value u v args inside
  ready = sound-ready code inputs f ws fits r h at

  pub ext : Extends (with_inputs code inputs r.known) t.plain
  ext = (anew-grows h.single a ready.good.free).plain

  known-same : (q : Place) → KnownBlock (length inputs) (known_after [] front) q.block → w q ≡ store_after code (starting code inputs t.plain) front q
  known-same q k =
      ap (λ z. z q) (at-store code at) ∙ after-equal code (starting code inputs r.known) (starting code inputs t.plain) front q
      (start-at code inputs f ws fits r h t.plain ext q (known_after [] front) ready.good.plain k)

  pub new-value : w p ≡ store_after code (starting code inputs t.plain) front p
  new-value = known-same p ready.place

  pub new-honest : AgreesAll code (store_after code (starting code inputs t.plain) front) (flat new)
  new-honest =
      let x = ready-over code inputs f ws fits r h t.plain ext at in
      let m = anew-plays names h.single code (length inputs) t.plain a (λ b block e. e) (known_after [] front) x.good x.stack x.pieces in
      let q = honest-again code (length inputs) (anew-honest a) m.mentions (store_after code (starting code inputs t.plain) front) known-same in
      flat-honest code q.walk

  module _ (fore old fresh behind : Nodes) (stamp last : ℕ) (is : items_of fore ≡ front) (now : items_of fresh ≡ flat new) (q q' : Queue)
      (all : items_of (before fore (before old behind)) ≡ flat r.items) (none : NoneQueued q fore)
      (c : Covered code q (starting code inputs r.known) none_waits (before fore (before old behind)))
      (more : MoreOn q q' behind) where
    -- the store at the read, as the new repair begins
    abbrev here : Store
    here = store_after code (starting code inputs t.plain) (items_of fore)

    abbrev made_nodes : Nodes
    made_nodes = Node stamp (Read p (w p) u v args) (before fresh (Node last End Nil))

    honest-nodes : AgreesAll code here (items_of made_nodes)
    honest-nodes =
        subst (λ z. AgreesAll code (store_after code (starting code inputs t.plain) z) (items_of made_nodes)) (sym is) (
          sym new-value,
          honest-end (items_of fresh) (subst (λ z. AgreesAll code (store_after code (starting code inputs t.plain) front) z) (sym now) new-honest),
        )
      where
        items-end : (l : Nodes) → items_of (before l (Node last End Nil)) ≡ items_of l ++ End ∷ []
        items-end Nil = refl
        items-end (Node n i rest) = ap (λ is. i ∷ is) (items-end rest)

        honest-end : (js : List Item) → AgreesAll code (store_after code (starting code inputs t.plain) front) js
            → AgreesAll code (store_after code (starting code inputs t.plain) front)
            (items_of (before fresh (Node last End Nil)))
        honest-end js k = subst (λ z. AgreesAll code (store_after code (starting code inputs t.plain) front) z) (sym (items-end fresh))
            (agrees-append code (store_after code (starting code inputs t.plain) front) (items_of fresh) (End ∷ [])
            (subst (λ z. AgreesAll code (store_after code (starting code inputs t.plain) front) z) (sym now) new-honest) (tt, tt))

    -- the new nodes are covered from the new start, if the first read after the read's end is queued of each place
    -- whose content changes there or of which somebody waited
    pub turn-kept : ((x : Place) → ((store_after code here (items_of old) x ≡ store_after code here
        (items_of made_nodes) x) × (waits_after q none_waits old x ≡ false)) ⊎ Queued q' (first_read x behind))
        → Covered code q' (starting code inputs t.plain) none_waits (before fore (before made_nodes behind))
    turn-kept loose =
        let c' = moved-start code inputs f ws fits r h t.plain ext q (before fore (before old behind)) all c in
        let k = covered-front code q fore (before old behind) none (starting code inputs t.plain) none_waits (none-waits code) c' in
        let b = covered-behind code q old behind here none_waits k.1 in
        honest-front code q' fore (before made_nodes behind) (starting code inputs t.plain) none_waits k.0
        (honest-front code q' made_nodes behind here none_waits honest-nodes
        (cover code q q' behind more (store_after code here (items_of old)) (store_after code here (items_of made_nodes)) (waits_after q none_waits old) loose b))
