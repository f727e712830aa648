-- A trace on more inputs.
use Rattle.std.proofs.Common.{◌≡◌, ℕ, Bool, true, false, if◌then◌else◌, List, [], ◌∷◌, length, refl, sym, ◌∙◌, arith}
use Rattle.ceal_base.specs.Block.{Block}
use Rattle.ceal_base.specs.Operators.{same_block, same_place}
use Rattle.ceal_base.specs.Trace.{Trace}
use Rattle.ceal_base.specs.declared.forest.Key.{Key}
use Rattle.ceal_base.specs.declared.word.BlockId.{BlockId}
use Rattle.ceal_base.specs.declared.word.BlockId.TheVariants.{Input, Core}
use Rattle.ceal_base.specs.declared.word.Place.{Place}
use Rattle.ceal_base.specs.declared.word.Word.{Word}
use Rattle.ceal_code.proofs.Words.SameIsEqual.{nat-refl}
use Rattle.ceal_code.specs.Program.{Code}
use Rattle.ceal_code.specs.Replay.{Store, here, there, KnownBlock, Mentions, Honest, cell_default, shape_of, cleared, stored, bases, IsHonest}
use Rattle.ceal_code.specs.Value.{field_kind}
use Rattle.ceal_theory.proofs.Store.FittingInputs.{fits-more}
use Rattle.ceal_theory.proofs.Repair.RepairReplays.{yields-new, mentions-new}
use Rattle.ceal_theory.specs.MoreInputs.{SameBases, MoreInputsLaw}

-- both have the same content at each place of a known block
Agreeing : ℕ → List ℕ → Store → Store → Type 0
Agreeing n bs s s' = (p : Place) → KnownBlock n bs p.block → s p ≡ s' p

module _ (code : Code) (n : ℕ) where
  older : (bs : List ℕ) (b : ℕ) (c : BlockId) → KnownBlock n (b ∷ bs) c → same_block c (Core b) ≡ false → KnownBlock n bs c
  older bs b (Input i) k e = k
  older bs b (Core c) here e = absurd (grind (arith, e, nat-refl b))
  older bs b (Core c) (there i) e = i

  agreeing-cleared : (bs : List ℕ) (s s' : Store) (b : ℕ) (key : Key) → Agreeing n bs s s' → Agreeing n (b ∷ bs) (cleared code s (Core b) key) (cleared code s' (Core b) key)
  unfolding Agreeing cleared
  agreeing-cleared bs s s' b key h p k = go (same_block p.block (Core b)) refl
    where
      go : (t : Bool) → same_block p.block (Core b) ≡ t
          → (if t then cell_default (field_kind code.structs (shape_of code key) p.field) else s p) ≡ (if t then cell_default (field_kind code.structs (shape_of code key) p.field) else s' p)
      go true e = refl
      go false e = h p (older bs b p.block k e)

  agreeing-stored : (bs : List ℕ) (s s' : Store) (q : Place) (v : Word) → Agreeing n bs s s' → Agreeing n bs (stored s q v) (stored s' q v)
  unfolding Agreeing stored
  agreeing-stored bs s s' q v h p k = go (same_place p q)
    where
      go : (t : Bool) → (if t then v else s p) ≡ (if t then v else s' p)
      go true = refl
      go false = h p k

  same-at : (bs : List ℕ) (s s' : Store) (p : Place) → KnownBlock n bs p.block → Agreeing n bs s s' → s' p ≡ s p
  unfolding Agreeing
  same-at bs s s' p k h = sym (h p k)

  record HonestToo (l : Trace) (s' t : Store) (cs : List ℕ) : Type 0 where
    after : Store
    walk : Honest code s' l after
    agreeing : Agreeing n cs t after

  honest-too : {bs cs : List ℕ} {l : Trace} → Mentions n bs l cs → {s t : Store} → Honest code s l t → (s' : Store) → Agreeing n bs s s' → HonestToo l s' t cs
  honest-too Mentions.end Honest.end s' h = record { after = s'; walk = Honest.end; agreeing = h }
  honest-too (Mentions.step m) (Honest.step w) s' h = let a = honest-too m w s' h in record { after = a.after; walk = Honest.step a.walk; agreeing = a.agreeing }
  honest-too {bs} (Mentions.alloc {b = b} {key = key} k m) {s} (Honest.alloc w) s' h =
      let a = honest-too m w (cleared code s' (Core b) key) (agreeing-cleared bs s s' b key h) in record { after = a.after; walk = Honest.alloc a.walk; agreeing = a.agreeing }
  honest-too {bs} (Mentions.write {p = p} {value = v} k j m) {s} (Honest.write w) s' h =
      let a = honest-too m w (stored s' p v) (agreeing-stored bs s s' p v h) in record { after = a.after; walk = Honest.write a.walk; agreeing = a.agreeing }
  honest-too {bs} (Mentions.read {p = p} {value = v} {u = u} {v = x} {args = args} {inside = inside} {rest = rest} k j i m1 m2) {s} (Honest.read e w1 w2) s' h =
      let a = honest-too m1 w1 s' h in
      let b = honest-too m2 w2 a.after a.agreeing in
      record { after = b.after; walk = Honest.read (same-at bs s s' p k h ∙ e) a.walk b.walk; agreeing = b.agreeing }

begun : (code : Code) (old new : List Block) → SameBases code old new → Agreeing (length old) [] (bases code old) (bases code new)
unfolding Agreeing
begun code old new same p k = at p.block k
  where
    at : (b : BlockId) → KnownBlock (length old) [] b → bases code old (record { block = b; field = p.field }) ≡ bases code new (record { block = b; field = p.field })
    at (Input i) k = same i p.field k
    at (Core c) k = elim k [ ]

pub inputs-law : MoreInputsLaw
inputs-law code old new f args fits fit more l r = record {
  call = fits-more code old new more f args fits fit;
  replays = record {
    yields = yields-new code old new f args fits fit more l r;
    distinct = r.distinct;
    known = r.known;
    mentions = mentions-new code old new f args fits fit more l r;
  };
  honest = λ same h. go same h;
}
  where
    go : SameBases code old new → IsHonest code old l → IsHonest code new l
    go same h = let a = honest-too code (length old) r.mentions h.walk (bases code new) (begun code old new same) in record { after = a.after; walk = a.walk }
