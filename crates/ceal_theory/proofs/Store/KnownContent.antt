-- The content of a known place.
use Rattle.std.proofs.Common.{◌≡◌, ◌⊎◌, inl, inr, ℕ, ◌≤◌, Bool, true, false, ◌==◌, if◌then◌else◌, List, [], ◌∷◌, refl, sym, ap, ◌∙◌, subst, arith}
use Rattle.ceal_base.specs.Operators.{same_block, same_place}
use Rattle.ceal_base.specs.declared.forest.Item.{Item}
use Rattle.ceal_base.specs.declared.forest.Item.TheVariants.{Step, Alloc, Write, Read, End}
use Rattle.ceal_base.specs.declared.forest.Key.{Key}
use Rattle.ceal_base.specs.declared.word.BlockId.TheVariants.{Input, Core}
use Rattle.ceal_base.specs.declared.word.Place.{Place}
use Rattle.ceal_base.specs.declared.word.Word.{Word}
use Rattle.ceal_code.proofs.Alike.BlockPairs.{one_if, one-at}
use Rattle.ceal_code.proofs.Words.SameIsEqual.{nat-same, block-refl, place-same}
use Rattle.ceal_code.specs.Program.{Code}
use Rattle.ceal_code.specs.Replay.{In, here, there, KnownBlock, count, Distinct, cell_default, shape_of}
use Rattle.ceal_code.specs.Value.{field_kind}
use Rattle.ceal_theory.specs.Known.{KnownItems}
use Rattle.ceal_theory.specs.KnownContent.{allocs, Allocates, written_after, KnownContentLaw}
use Rattle.ceal_theory.specs.Walk.{content_after}

allocates-count : (b : ℕ) (key : Key) {is : List Item} → Allocates b key is → 1 ≤ count b (allocs is)
allocates-count b key Allocates.here = omega (arith, one-at b b refl)
allocates-count b key (Allocates.there {i = Step} a) = allocates-count b key a
allocates-count b key (Allocates.there {i = Alloc (Core c) k} a) = omega (arith, allocates-count b key a)
allocates-count b key (Allocates.there {i = Alloc (Input j) k} a) = allocates-count b key a
allocates-count b key (Allocates.there {i = Write p v} a) = allocates-count b key a
allocates-count b key (Allocates.there {i = Read p v u x args} a) = allocates-count b key a
allocates-count b key (Allocates.there {i = End} a) = allocates-count b key a

-- another block than that of the place
apart : (p : Place) (b c : ℕ) → p.block ≡ Core b → one_if b c ≡ 0 → same_block p.block (Core c) ≡ false
apart p b c e h = rw e (go (b == c) refl)
  where
    go : (t : Bool) → (b == c) ≡ t → (b == c) ≡ false
    go false k = k
    go true k = absurd (omega (arith, h, one-at b c (sym (nat-same b c k))))

input-apart : (p : Place) (i c : ℕ) → p.block ≡ Input i → same_block p.block (Core c) ≡ false
input-apart p i c e = rw e refl

in-case : (b c : ℕ) (bs : List ℕ) → In b (c ∷ bs) → (c ≡ b) ⊎ In b bs
in-case b c bs here = inl refl
in-case b c bs (there i) = inr i

module _ (code : Code) (n : ℕ) where
  inputs-same : {bs cs : List ℕ} {is : List Item} → KnownItems n bs is cs → (p : Place) (i : ℕ) → p.block ≡ Input i → (w : Word) → content_after code p w is ≡ written_after p w is
  inputs-same KnownItems.none p i e w = refl
  inputs-same (KnownItems.step h) p i e w = inputs-same h p i e w
  inputs-same (KnownItems.close h) p i e w = inputs-same h p i e w
  inputs-same (KnownItems.alloc {b = c} k h) p i e w = rw (input-apart p i c e) (inputs-same h p i e w)
  inputs-same (KnownItems.write {p = q} {value = v} k l h) p i e w = inputs-same h p i e (if same_place p q then v else w)
  inputs-same (KnownItems.read k l j h) p i e w = inputs-same h p i e w

  after-same : {bs cs : List ℕ} {is : List Item} → KnownItems n bs is cs → (p : Place) (b : ℕ) → p.block ≡ Core b
      → count b (allocs is) ≡ 0 → (w : Word) → content_after code p w is ≡ written_after p w is
  after-same KnownItems.none p b e z w = refl
  after-same (KnownItems.step h) p b e z w = after-same h p b e z w
  after-same (KnownItems.close h) p b e z w = after-same h p b e z w
  after-same (KnownItems.alloc {b = c} k h) p b e z w = rw (apart p b c e (omega (arith, z))) (after-same h p b e (omega (arith, z)) w)
  after-same (KnownItems.write {p = q} {value = v} k l h) p b e z w = after-same h p b e z (if same_place p q then v else w)
  after-same (KnownItems.read k l j h) p b e z w = after-same h p b e z w

  abbrev default : Place → Key → Word
  default p key = cell_default (field_kind code.structs (shape_of code key) p.field)

  not-written : (bs : List ℕ) (p q : Place) (b : ℕ) → p.block ≡ Core b → ¬ In b bs → KnownBlock n bs q.block → same_place p q ≡ false
  not-written bs p q b e fresh k = go (same_place p q) refl
    where
      go : (t : Bool) → same_place p q ≡ t → t ≡ false
      go false s = refl
      go true s = absurd (fresh (subst (KnownBlock n bs) (ap (λ z. z.block) (sym (place-same p q s)) ∙ e) k))

  core-same : {bs cs : List ℕ} {is : List Item} → KnownItems n bs is cs → (p : Place) (b : ℕ) (key : Key) → p.block ≡ Core b → ¬ In b bs → Distinct (allocs is) → Allocates b key is
      → (w : Word) → content_after code p w is ≡ written_after p (default p key) is
  core-same KnownItems.none p b key e fresh d a w = elim a [ ]
  core-same (KnownItems.step h) p b key e fresh d (Allocates.there a) w = core-same h p b key e fresh d a w
  core-same (KnownItems.close h) p b key e fresh d (Allocates.there a) w = core-same h p b key e fresh d a w
  core-same {bs} (KnownItems.alloc {b = c} {key = k} {is = is} l h) p b key e fresh d Allocates.here w =
      rw (e, block-refl (Core b)) (after-same h p b e (omega (arith, d b, one-at b b refl)) (default p key))
  core-same {bs} (KnownItems.alloc {b = c} {key = k} {is = is} l h) p b key e fresh d (Allocates.there a) w =
      let z : one_if b c ≡ 0 = omega (arith, d b, allocates-count b key a) in
      rw (apart p b c e z) (core-same h p b key e (λ i. new z (in-case b c bs i)) (λ f. omega (arith, d f)) a w)
    where
      new : one_if b c ≡ 0 → (c ≡ b) ⊎ In b bs → ⊥
      new z (inl s) = omega (arith, z, one-at b c s)
      new z (inr i) = fresh i
  core-same {bs} (KnownItems.write {p = q} {value = v} k l h) p b key e fresh d (Allocates.there a) w = rw (not-written bs p q b e fresh k) (core-same h p b key e fresh d a w)
  core-same (KnownItems.read k l j h) p b key e fresh d (Allocates.there a) w = core-same h p b key e fresh d a w

  one-later : (b : ℕ) (bs : List ℕ) (i : Item) (is : List Item) → In b bs ⊎ ((key : Key) × Allocates b key is) → In b bs ⊎ ((key : Key) × Allocates b key (i ∷ is))
  one-later b bs i is (inl j) = inl j
  one-later b bs i is (inr (key, a)) = inr (key, Allocates.there a)

  made-here : (b c : ℕ) (bs : List ℕ) (k : Key) (is : List Item) → (c ≡ b) ⊎ In b bs → In b bs ⊎ ((key : Key) × Allocates b key (Alloc (Core c) k ∷ is))
  made-here b c bs k is (inl e) = inr (k, subst (λ c. Allocates b k (Alloc (Core c) k ∷ is)) (sym e) Allocates.here)
  made-here b c bs k is (inr i) = inl i

  made-later : (b c : ℕ) (bs : List ℕ) (k : Key) (is : List Item) → In b (c ∷ bs) ⊎ ((key : Key) × Allocates b key is) → In b bs ⊎ ((key : Key) × Allocates b key (Alloc (Core c) k ∷ is))
  made-later b c bs k is (inl i) = made-here b c bs k is (in-case b c bs i)
  made-later b c bs k is (inr (key, a)) = inr (key, Allocates.there a)

  allocated : {bs cs : List ℕ} {is : List Item} → KnownItems n bs is cs → (b : ℕ) → In b cs → In b bs ⊎ ((key : Key) × Allocates b key is)
  allocated KnownItems.none b i = inl i
  allocated {bs} (KnownItems.step {is = is} h) b i = one-later b bs Step is (allocated h b i)
  allocated {bs} (KnownItems.close {is = is} h) b i = one-later b bs End is (allocated h b i)
  allocated {bs} (KnownItems.alloc {b = c} {key = k} {is = is} l h) b i = made-later b c bs k is (allocated h b i)
  allocated {bs} (KnownItems.write {p = p} {value = v} {is = is} k l h) b i = one-later b bs (Write p v) is (allocated h b i)
  allocated {bs} (KnownItems.read {p = p} {value = v} {u = u} {v = x} {args = args} {is = is} k l j h) b i = one-later b bs (Read p v u x args) is (allocated h b i)

pub known-content-law : KnownContentLaw
known-content-law code n is bs k d = record {
  allocated = λ b i. go b (allocated code n k b i);
  input = inputs-same code n k;
  core = λ p b key e a w. core-same code n k p b key e (λ i. elim i [ ]) d a w;
}
  where
    go : (b : ℕ) → In b [] ⊎ ((key : Key) × Allocates b key is) → (key : Key) × Allocates b key is
    go b (inl i) = elim i [ ]
    go b (inr a) = a
