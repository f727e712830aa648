-- The front of a repair in progress, as lists of writes by place see it.
use Rattle.std.proofs.Common.{◌≡◌, ℕ, ◌+◌, Some, List, [], ◌∷◌, ◌++◌, length, append-nil, refl, sym, ap, ◌∙◌, subst, arith}
use Rattle.std.specs.Prelude.{⊤}
use Rattle.ceal_base.specs.Block.{Block}
use Rattle.ceal_base.specs.Trace.{Trace, Nothing, Stepped, Allocated, Wrote, WasRead, flat, blocks_of}
use Rattle.ceal_base.specs.declared.forest.Item.{Item}
use Rattle.ceal_base.specs.declared.forest.Item.TheVariants.{Step, Alloc, Write, Read, End}
use Rattle.ceal_base.specs.declared.forest.Key.{Key}
use Rattle.ceal_base.specs.declared.word.BlockId.{BlockId}
use Rattle.ceal_base.specs.declared.word.BlockId.TheVariants.{Input, Core}
use Rattle.ceal_base.specs.declared.word.Place.{Place}
use Rattle.ceal_base.specs.declared.word.Word.{Word}
use Rattle.ceal_code.proofs.Words.StepLocality.{next-known}
use Rattle.ceal_code.proofs.Replay.MemoryChanges.{made-shape}
use Rattle.ceal_code.specs.Fitting.{Fits}
use Rattle.ceal_code.specs.Init.{made}
use Rattle.ceal_code.specs.Program.{Code}
use Rattle.ceal_code.specs.Replay.{KnownBlock, Distinct, count, cell_default, shape_of}
use Rattle.ceal_code.specs.Step.{started}
use Rattle.ceal_code.specs.Value.{Plain, field_kind}
use Rattle.ceal_theory.proofs.Repair.DistinctBlocks.{uses, times-append}
use Rattle.ceal_theory.proofs.SlicedRepair.DoneReplays.{begun}
use Rattle.ceal_theory.proofs.MoveMachine.FlatMachine.{begins, passes-flat, passes-front}
use Rattle.ceal_theory.proofs.Store.KnownBlocks.{knowing-law}
use Rattle.ceal_theory.proofs.Store.KnownContent.{known-content-law}
use Rattle.ceal_theory.proofs.SlicedRepair.Soundness.{at-core, start-known, starting-known}
use Rattle.ceal_theory.proofs.Repair.YieldsByStep.{yields-told}
use Rattle.ceal_theory.proofs.Store.Mentions.{uses-sure}
use Rattle.ceal_theory.proofs.Store.Walk.{content-law}
use Rattle.ceal_theory.specs.Cover.{known_after}
use Rattle.ceal_theory.specs.FlatMachine.{GoesThrough, flat_machine, passes_all}
use Rattle.ceal_theory.specs.Known.{Sure, Ready, Knows, KnownItems, GoesKnowing}
use Rattle.ceal_theory.specs.KnownContent.{allocs, Allocates, written_after, KnownContents}
use Rattle.ceal_theory.specs.Listed.{ListedLaw}
use Rattle.ceal_theory.specs.Slices.{Repair, with_inputs, starting, goes_on, RepairHolds}
use Rattle.ceal_theory.specs.Moves.{Machine, Fixing, Bottom}
use Rattle.ceal_theory.specs.Walk.{store_after, AgreesAll}

-- the blocks that are known after items
known-is : {n : ℕ} {bs cs : List ℕ} {is : List Item} → KnownItems n bs is cs → cs ≡ known_after bs is
known-is KnownItems.none = refl
known-is (KnownItems.step k) = known-is k
known-is (KnownItems.close k) = known-is k
known-is (KnownItems.alloc a k) = known-is k
known-is (KnownItems.write a b k) = known-is k
known-is (KnownItems.read a b c k) = known-is k

-- how often items allocate a block
allocs-append : (b : ℕ) (is js : List Item) → count b (allocs (is ++ js)) ≡ count b (allocs is) + count b (allocs js)
allocs-append b [] js = omega arith
allocs-append b (Step ∷ is) js = allocs-append b is js
allocs-append b (Alloc (Core c) key ∷ is) js = omega (arith, allocs-append b is js)
allocs-append b (Alloc (Input i) key ∷ is) js = allocs-append b is js
allocs-append b (Write p value ∷ is) js = allocs-append b is js
allocs-append b (Read p value u v args ∷ is) js = allocs-append b is js
allocs-append b (End ∷ is) js = allocs-append b is js

allocs-flat : (b : ℕ) (l : Trace) → count b (allocs (flat l)) ≡ uses b l
allocs-flat b Nothing = refl
allocs-flat b (Stepped rest) = allocs-flat b rest
allocs-flat b (Allocated (Core c) key rest) = omega (arith, allocs-flat b rest)
allocs-flat b (Allocated (Input i) key rest) = allocs-flat b rest
allocs-flat b (Wrote p value rest) = allocs-flat b rest
allocs-flat b (WasRead p value u v args inside rest) =
    omega (arith, allocs-append b (flat inside) (End ∷ flat rest), allocs-flat b inside, allocs-flat b rest, times-append b (blocks_of inside) (blocks_of rest))

-- each block that items allocate has what its key gives
abbrev MadeItem : Code → Plain → Item → Type 0
MadeItem code x (Alloc (Core b) key) = x (Core b) ≡ Some (made code x key)
MadeItem code x (Alloc (Input i) key) = ⊤
MadeItem code x Step = ⊤
MadeItem code x (Write p value) = ⊤
MadeItem code x (Read p value u v args) = ⊤
MadeItem code x End = ⊤

abbrev MadeItems : Code → Plain → List Item → Type 0
MadeItems code x [] = ⊤
MadeItems code x (i ∷ is) = MadeItem code x i × MadeItems code x is

made-both : (code : Code) (x : Plain) (is js : List Item) → MadeItems code x is → MadeItems code x js → MadeItems code x (is ++ js)
made-both code x [] js h k = k
made-both code x (i ∷ is) js h k = (h.0, made-both code x is js h.1 k)

made-front : (code : Code) (x : Plain) (is js : List Item) → MadeItems code x (is ++ js) → MadeItems code x is
made-front code x [] js h = tt
made-front code x (i ∷ is) js h = (h.0, made-front code x is js h.1)

made-flat : (code : Code) (n : ℕ) (ds : List ℕ) (x : Plain) (l : Trace) → Sure code n ds x l → MadeItems code x (flat l)
made-flat code n ds x Nothing h = tt
made-flat code n ds x (Stepped rest) h = (tt, made-flat code n ds x rest h)
made-flat code n ds x (Allocated (Core b) key rest) h = (h.2, made-flat code n ds x rest h.3)
made-flat code n ds x (Allocated (Input i) key rest) h = absurd h
made-flat code n ds x (Wrote p value rest) h = (tt, made-flat code n ds x rest h)
made-flat code n ds x (WasRead p value u v args inside rest) h = (tt, made-both code x (flat inside) (End ∷ flat rest) (made-flat code n ds x inside h.3) (tt, made-flat code n ds x rest h.4))

allocates-made : (code : Code) (x : Plain) {b : ℕ} {key : Key} {is : List Item} → Allocates b key is → MadeItems code x is → x (Core b) ≡ Some (made code x key)
allocates-made code x Allocates.here h = h.0
allocates-made code x (Allocates.there a) h = allocates-made code x a h.1

module _ {names : ℕ → ℕ} (code : Code) (inputs : List Block) (f : ℕ) (args : List Word) (fits : Fits code inputs f args) (r : Repair) (h : RepairHolds code names inputs f args r)
    (front back : List Item) (e : flat r.items ≡ front ++ back) (agrees : AgreesAll code (starting code inputs r.known) front) where
  abbrev x : Plain
  x = with_inputs code inputs r.known

  sure : Sure code (length inputs) h.blocks x r.items
  sure = uses-sure code (length inputs) h.blocks x h.yields h.uses

  begins-knowing : Knows code (length inputs) h.blocks [] (record { state = goes_on code inputs r; mode = Fixing r.items; frames = Bottom })
  begins-knowing = record {
    plain = begun code inputs f args fits r h;
    old = h.holds;
    store = λ p. starting-known code inputs fits.blocks r.known p;
    mode = (
      Ready.whole (next-known (length inputs) [] x (begun code inputs f args fits r h) x (λ b i. refl) code (started code f args) (start-known code inputs f args fits r h []))
          (next-known (length inputs) h.blocks x h.holds x (λ b i. refl) code (started code f args) (start-known code inputs f args fits r h h.blocks)) (yields-told code x h.yields),
      sure,
    );
    frames = tt;
  }

  knows : Knows code (length inputs) h.blocks [] (flat_machine (goes_on code inputs r) GoesThrough [] (front ++ back))
  knows = subst (λ m. Knows code (length inputs) h.blocks [] m)
      (sym (ap (flat_machine (goes_on code inputs r) GoesThrough []) (sym e) ∙ begins code names
      (goes_on code inputs r) r.items)) begins-knowing

  known-front : KnownItems (length inputs) [] front (known_after [] front)
  known-front =
      let whole : passes_all (flat r.items) [] ≡ Some [] = ap (λ is. passes_all is []) (sym (append-nil (flat r.items))) ∙ passes-flat r.items [] [] in
      let o = passes-front front back [] [] (ap (λ is. passes_all is []) (sym e) ∙ whole) in
      of ((knowing-law code).stays (length inputs) h.blocks [] (goes_on code inputs r) [] o.0 front back knows agrees o.1)
    where
      of : {m : Machine} → GoesKnowing code (length inputs) h.blocks [] front m → KnownItems (length inputs) [] front (known_after [] front)
      of g = subst (KnownItems (length inputs) [] front) (known-is g.items) g.items

  once : Distinct (allocs front)
  once b = omega (arith, allocs-append b front back, ap (λ is. count b (allocs is)) e, allocs-flat b r.items, h.distinct b)

  made-in : MadeItems code x front
  made-in = made-front code x front back (subst (MadeItems code x) e (made-flat code (length inputs) h.blocks x r.items sure))

  contents : KnownContents code front (known_after [] front)
  contents = known-content-law code (length inputs) front (known_after [] front) known-front once

  -- a block starts with its defaults
  default-at : (p : Place) (b : ℕ) (key : Key) → p.block ≡ Core b → Allocates b key front → starting code inputs r.known p ≡ cell_default (field_kind code.structs (shape_of code key) p.field)
  unfolding starting
  default-at p b key i a =
      let w : r.known (Core b) ≡ Some (made code x key) = sym (at-core code inputs r.known b) ∙ allocates-made code x a made-in in
      rw (i, w, made-shape code x key) refl

  last : (p : Place) → KnownBlock (length inputs) (known_after [] front) p.block → store_after code (starting code inputs r.known) front p ≡ written_after p (starting code inputs r.known p) front
  last p k = content-law code (starting code inputs r.known) front p ∙ go p.block refl k
    where
      go : (c : BlockId) → p.block ≡ c → KnownBlock (length inputs) (known_after [] front) c
          → Rattle.ceal_theory.specs.Walk.content_after code p (starting code inputs r.known p) front ≡ written_after p (starting code inputs r.known p) front
      go (Input i) s j = contents.input p i s (starting code inputs r.known p)
      go (Core b) s j =
          let a = contents.allocated b j in
          contents.core p b a.0 s a.1 (starting code inputs r.known p) ∙ ap (λ w. written_after p w front) (sym (default-at p b a.0 s a.1))

pub listed-law : ListedLaw
listed-law code names inputs f args fits r h front back e agrees = record {
  items = known-front code inputs f args fits r h front back e agrees;
  once = once code inputs f args fits r h front back e agrees;
  last = last code inputs f args fits r h front back e agrees;
}
