-- Facts that hold or do not: equalities of words, keys and blocks, and what the first of flat items is.
use Rattle.std.proofs.Common.{◌≡◌, inl, inr, ◌⊎◌, ℕ, Bool, true, false, Option, Some, None, List, [], ◌∷◌, refl, ap, ap₂}
use Rattle.std.specs.Prelude.{bytes_eq}
use Rattle.std.proofs.lemmas.Bool.{false≢true}
use Rattle.std.proofs.lemmas.Slice.Eq.{bytes_eq-Decides}
use Rattle.ceal_base.proofs.Equality.{words-Decides}
use Rattle.ceal_base.specs.Block.{Block}
use Rattle.ceal_base.specs.contracts.words.WordsPartialEq.TheImpl.{ghosts}
use Rattle.ceal_base.specs.declared.forest.Item.{Item}
use Rattle.ceal_base.specs.declared.forest.Item.TheVariants.{Step, Alloc, Write, Read, End}
use Rattle.ceal_base.specs.declared.forest.Key.{Key}
use Rattle.ceal_base.specs.declared.forest.Key.TheVariants.{Init, ModInt as IntKey, ModPtr as PtrKey}
use Rattle.ceal_base.specs.declared.forest.UnitId.{UnitId}
use Rattle.ceal_base.specs.declared.kind.Shape.{Shape}
use Rattle.ceal_base.specs.declared.kind.Shape.TheVariants.{Struct, ModInt, ModPtr}
use Rattle.ceal_base.specs.declared.word.BlockId.TheVariants.{Input, Core}
use Rattle.ceal_base.specs.declared.word.Place.{Place}
use Rattle.ceal_base.specs.declared.word.Word.{Word}
use Rattle.ceal_base.specs.declared.word.Word.TheVariants.{At}

-- a fact holds, or it does not
abbrev pub Decided : Type 0 → Type 0
Decided P = P ⊎ (P → ⊥)

pub both : {P Q : Type 0} → Decided P → Decided Q → Decided (P × Q)
both (inl p) (inl q) = inl (p, q)
both (inl p) (inr n) = inr (λ h. n h.1)
both (inr n) q = inr (λ h. n h.0)

pub moved : {P Q : Type 0} → (P → Q) → (Q → P) → Decided P → Decided Q
moved f g (inl p) = inl (f p)
moved f g (inr n) = inr (λ q. n (g q))

pub is-or-not : (b : Bool) → Decided (b ≡ true)
is-or-not true = inl refl
is-or-not false = inr (λ e. false≢true e)

numbers-or-not : (m n : ℕ) → Decided (m ≡ n)
numbers-or-not m n =
    let d = bytes_eq-Decides (m ∷ []) (n ∷ []) in
    moved (λ e. let h : m ∷ [] ≡ n ∷ [] = d.0 e in cc h) (λ h. d.1 (ap (λ k. k ∷ []) h)) (is-or-not (bytes_eq (m ∷ []) (n ∷ [])))

words-or-not : (xs ys : List Word) → Decided (xs ≡ ys)
words-or-not xs ys = moved (words-Decides xs ys).0 (words-Decides xs ys).1 (is-or-not (ghosts.eq xs ys))

word-or-not : (v w : Word) → Decided (v ≡ w)
word-or-not v w = moved (λ (e : v ∷ [] ≡ w ∷ []). cc e) (ap (λ k. k ∷ [])) (words-or-not (v ∷ []) (w ∷ []))

place-or-not : (p q : Place) → Decided (p ≡ q)
place-or-not p q = moved (λ (e : At p ≡ At q). cc e) (ap At) (word-or-not (At p) (At q))

unit-or-not : (u v : UnitId) → Decided (u ≡ v)
unit-or-not u v = moved (λ e. ap (λ (k : ℕ). record { 0 = k }) e) (λ e. ap (λ (k : UnitId). k.0) e) (numbers-or-not u.0 v.0)

key-or-not : (a b : Key) → Decided (a ≡ b)
key-or-not (Init f xs) (Init g ys) = moved (λ h. ap₂ Init h.0 h.1) (λ (e : Init f xs ≡ Init g ys). (cc e, cc e)) (both (numbers-or-not f g) (words-or-not xs ys))
key-or-not IntKey IntKey = inl refl
key-or-not (PtrKey m) (PtrKey n) = moved (ap PtrKey) (λ (e : PtrKey m ≡ PtrKey n). cc e) (numbers-or-not m n)
key-or-not (Init f xs) IntKey = inr (λ e. cc e)
key-or-not (Init f xs) (PtrKey n) = inr (λ e. cc e)
key-or-not IntKey (Init g ys) = inr (λ e. cc e)
key-or-not IntKey (PtrKey n) = inr (λ e. cc e)
key-or-not (PtrKey m) (Init g ys) = inr (λ e. cc e)
key-or-not (PtrKey m) IntKey = inr (λ e. cc e)

shape-or-not : (a b : Shape) → Decided (a ≡ b)
shape-or-not (Struct m) (Struct n) = moved (ap Struct) (λ (e : Struct m ≡ Struct n). cc e) (numbers-or-not m n)
shape-or-not ModInt ModInt = inl refl
shape-or-not (ModPtr m) (ModPtr n) = moved (ap ModPtr) (λ (e : ModPtr m ≡ ModPtr n). cc e) (numbers-or-not m n)
shape-or-not (Struct m) ModInt = inr (λ e. cc e)
shape-or-not (Struct m) (ModPtr n) = inr (λ e. cc e)
shape-or-not ModInt (Struct n) = inr (λ e. cc e)
shape-or-not ModInt (ModPtr n) = inr (λ e. cc e)
shape-or-not (ModPtr m) (Struct n) = inr (λ e. cc e)
shape-or-not (ModPtr m) ModInt = inr (λ e. cc e)

pub block-or-not : (a b : Block) → Decided (a ≡ b)
block-or-not a b =
    moved (λ h. ap₂ (λ (s : Shape) (ws : List Word). record { shape = s; words = ws }) h.0 h.1) (λ e. (ap (λ (k : Block). k.shape) e, ap (λ (k : Block). k.words) e))
    (both (shape-or-not a.shape b.shape) (words-or-not a.words b.words))

pub option-or-not : {A : Type 0} → ((a b : A) → Decided (a ≡ b)) → (x y : Option A) → Decided (x ≡ y)
option-or-not d None None = inl refl
option-or-not d None (Some b) = inr (λ e. cc e)
option-or-not d (Some a) None = inr (λ e. cc e)
option-or-not d (Some a) (Some b) = moved (ap Some) (λ (e : Some a ≡ Some b). cc e) (d a b)

pub list-or-not : {A : Type 0} → ((a b : A) → Decided (a ≡ b)) → (xs ys : List A) → Decided (xs ≡ ys)
list-or-not d [] [] = inl refl
list-or-not d [] (y ∷ ys) = inr (λ e. cc e)
list-or-not d (x ∷ xs) [] = inr (λ e. cc e)
list-or-not d (x ∷ xs) (y ∷ ys) = moved (λ h. ap₂ ◌∷◌ h.0 h.1) (λ (e : x ∷ xs ≡ y ∷ ys). (cc e, cc e)) (both (d x y) (list-or-not d xs ys))

pub none-or-some : (is : List Item) → Decided (is ≡ [])
none-or-some [] = inl refl
none-or-some (i ∷ is) = inr (λ e. cc e)

-- the first item is a step
pub step-or-not : (is : List Item) → Decided ((js : List Item) × (is ≡ Step ∷ js))
step-or-not [] = inr (λ h. let e = h.1 in cc e)
step-or-not (Step ∷ js) = inl (js, refl)
step-or-not (Alloc b key ∷ js) = inr (λ h. let e = h.1 in cc e)
step-or-not (Write p w ∷ js) = inr (λ h. let e = h.1 in cc e)
step-or-not (Read p w u v args ∷ js) = inr (λ h. let e = h.1 in cc e)
step-or-not (End ∷ js) = inr (λ h. let e = h.1 in cc e)

-- or the end of a read
pub end-or-not : (is : List Item) → Decided ((js : List Item) × (is ≡ End ∷ js))
end-or-not [] = inr (λ h. let e = h.1 in cc e)
end-or-not (Step ∷ js) = inr (λ h. let e = h.1 in cc e)
end-or-not (Alloc b key ∷ js) = inr (λ h. let e = h.1 in cc e)
end-or-not (Write p w ∷ js) = inr (λ h. let e = h.1 in cc e)
end-or-not (Read p w u v args ∷ js) = inr (λ h. let e = h.1 in cc e)
end-or-not (End ∷ js) = inl (js, refl)

-- or the allocation of a core block with this key
pub alloc-or-not : (key : Key) (is : List Item) → Decided ((b : ℕ) × (js : List Item) × (is ≡ Alloc (Core b) key ∷ js))
alloc-or-not key [] = inr (λ h. let e = h.2 in cc e)
alloc-or-not key (Step ∷ js) = inr (λ h. let e = h.2 in cc e)
alloc-or-not key (Alloc (Core b) k ∷ js) =
    moved (λ e. (b, js, ap (λ x. Alloc (Core b) x ∷ js) e)) (λ h. let e = h.2 in cc e) (key-or-not k key)
alloc-or-not key (Alloc (Input i) k ∷ js) = inr (λ h. let e = h.2 in cc e)
alloc-or-not key (Write p w ∷ js) = inr (λ h. let e = h.2 in cc e)
alloc-or-not key (Read p w u v args ∷ js) = inr (λ h. let e = h.2 in cc e)
alloc-or-not key (End ∷ js) = inr (λ h. let e = h.2 in cc e)

-- or this write
pub write-or-not : (p : Place) (w : Word) (is : List Item) → Decided ((js : List Item) × (is ≡ Write p w ∷ js))
write-or-not p w [] = inr (λ h. let e = h.1 in cc e)
write-or-not p w (Step ∷ js) = inr (λ h. let e = h.1 in cc e)
write-or-not p w (Alloc b key ∷ js) = inr (λ h. let e = h.1 in cc e)
write-or-not p w (Write q x ∷ js) =
    moved (λ h. (js, ap₂ (λ a b. Write a b ∷ js) h.0 h.1)) (λ h. let e = h.1 in (cc e, cc e)) (both (place-or-not q p) (word-or-not x w))
write-or-not p w (Read q x u v args ∷ js) = inr (λ h. let e = h.1 in cc e)
write-or-not p w (End ∷ js) = inr (λ h. let e = h.1 in cc e)

same-read : (q p : Place) (x : Word) (t u : UnitId) (y v : ℕ) (bs args : List Word) (js : List Item) → (q ≡ p) × (t ≡ u) → (y ≡ v) × (bs ≡ args)
    → Read q x t y bs ∷ js ≡ Read p x u v args ∷ js
same-read q p x t u y v bs args js (a, b) (c, d) = rw (a, b, c, d) refl

-- or a read of this closure
pub read-or-not : (p : Place) (u : UnitId) (v : ℕ) (args : List Word) (is : List Item) → Decided ((w : Word) × (js : List Item) × (is ≡ Read p w u v args ∷ js))
read-or-not p u v args [] = inr (λ h. let e = h.2 in cc e)
read-or-not p u v args (Step ∷ js) = inr (λ h. let e = h.2 in cc e)
read-or-not p u v args (Alloc b key ∷ js) = inr (λ h. let e = h.2 in cc e)
read-or-not p u v args (Write q x ∷ js) = inr (λ h. let e = h.2 in cc e)
read-or-not p u v args (Read q x t y bs ∷ js) =
    moved (λ h. (x, js, same-read q p x t u y v bs args js h.0 h.1)) (λ h. let e = h.2 in ((cc e, cc e), (cc e, cc e)))
    (both (both (place-or-not q p) (unit-or-not t u)) (both (numbers-or-not y v) (words-or-not bs args)))
read-or-not p u v args (End ∷ js) = inr (λ h. let e = h.2 in cc e)
