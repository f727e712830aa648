-- Pairs of core blocks.
use Rattle.std.proofs.Common.{◌≡◌, ℕ, ◌+◌, ◌≤◌, ◌==◌, if◌then◌else◌, List, [], ◌∷◌, ◌⊎◌, inl, inr, refl, sym, ◌∙◌, arith}
use Rattle.ceal_code.proofs.Words.SameIsEqual.{nat-refl}
use Rattle.ceal_code.specs.Alike.{Pair, Pairs, Tied, Within, OneToOne, zipped}
use Rattle.ceal_code.specs.Replay.{count, Distinct}

pub within-trans : (ps qs rs : Pairs) → Within ps qs → Within qs rs → Within ps rs
within-trans ps qs rs h k b c t = k b c (h b c t)

pub one-within : (ps qs : Pairs) → Within ps qs → OneToOne qs → OneToOne ps
one-within ps qs h o = record {
  left = λ b c d s t. o.left b c d (h b c s) (h b d t);
  right = λ b c d s t. o.right b c d (h b d s) (h c d t);
}

-- with one more pair
pub more-pair : (p : Pair) (ps : Pairs) → Within ps (p ∷ ps)
more-pair p ps b c t = Tied.there t

pub tied-with : (b c : ℕ) (ps big : Pairs) → Within ps big → Tied b c big → Within (record { left = b; right = c } ∷ ps) big
tied-with b c ps big h t d e Tied.here = t
tied-with b c ps big h t d e (Tied.there s) = h d e s

pub tied-case : (b c : ℕ) (p : Pair) (ps : Pairs) → Tied b c (p ∷ ps) → ((p.left ≡ b) × (p.right ≡ c)) ⊎ Tied b c ps
tied-case b c p ps Tied.here = inl (refl, refl)
tied-case b c p ps (Tied.there t) = inr t

-- how often b is c
abbrev pub one_if : ℕ → ℕ → ℕ
one_if b c = if c == b then 1 else 0

pub one-at : (b e : ℕ) → e ≡ b → one_if b e ≡ 1
one-at b e h = rw (h, nat-refl b)

abbrev pub lefts : Pairs → List ℕ
lefts [] = []
lefts (p ∷ ps) = p.left ∷ lefts ps

abbrev pub rights : Pairs → List ℕ
rights [] = []
rights (p ∷ ps) = p.right ∷ rights ps

pub left-count : (ps : Pairs) (b c : ℕ) → Tied b c ps → 1 ≤ count b (lefts ps)
left-count [] b c t = elim t [ ]
left-count (p ∷ ps) b c t = go (tied-case b c p ps t) (left-count ps b c)
  where
    go : ((p.left ≡ b) × (p.right ≡ c)) ⊎ Tied b c ps → (Tied b c ps → 1 ≤ count b (lefts ps)) → 1 ≤ one_if b p.left + count b (lefts ps)
    go (inl e) k = omega (arith, one-at b p.left e.0)
    go (inr t) k = omega (arith, k t)

pub right-count : (ps : Pairs) (b c : ℕ) → Tied b c ps → 1 ≤ count c (rights ps)
right-count [] b c t = elim t [ ]
right-count (p ∷ ps) b c t = go (tied-case b c p ps t) (right-count ps b c)
  where
    go : ((p.left ≡ b) × (p.right ≡ c)) ⊎ Tied b c ps → (Tied b c ps → 1 ≤ count c (rights ps)) → 1 ≤ one_if c p.right + count c (rights ps)
    go (inl e) k = omega (arith, one-at c p.right e.1)
    go (inr t) k = omega (arith, k t)

one-left : (ps : Pairs) → Distinct (lefts ps) → (b c d : ℕ) → Tied b c ps → Tied b d ps → c ≡ d
one-left [] h b c d s t = elim s [ ]
one-left (p ∷ ps) h b c d s t = go (tied-case b c p ps s) (tied-case b d p ps t) (one-left ps (λ n. omega (arith, h n)) b c d)
  where
    go : ((p.left ≡ b) × (p.right ≡ c)) ⊎ Tied b c ps → ((p.left ≡ b) × (p.right ≡ d)) ⊎ Tied b d ps → (Tied b c ps → Tied b d ps → c ≡ d) → c ≡ d
    go (inl s) (inl t) k = sym s.1 ∙ t.1
    go (inl s) (inr t) k = absurd (omega (arith, left-count ps b d t, h b, one-at b p.left s.0))
    go (inr s) (inl t) k = absurd (omega (arith, left-count ps b c s, h b, one-at b p.left t.0))
    go (inr s) (inr t) k = k s t

one-right : (ps : Pairs) → Distinct (rights ps) → (b c d : ℕ) → Tied b d ps → Tied c d ps → b ≡ c
one-right [] h b c d s t = elim s [ ]
one-right (p ∷ ps) h b c d s t = go (tied-case b d p ps s) (tied-case c d p ps t) (one-right ps (λ n. omega (arith, h n)) b c d)
  where
    go : ((p.left ≡ b) × (p.right ≡ d)) ⊎ Tied b d ps → ((p.left ≡ c) × (p.right ≡ d)) ⊎ Tied c d ps → (Tied b d ps → Tied c d ps → b ≡ c) → b ≡ c
    go (inl s) (inl t) k = sym s.0 ∙ t.0
    go (inl s) (inr t) k = absurd (omega (arith, right-count ps c d t, h d, one-at d p.right s.1))
    go (inr s) (inl t) k = absurd (omega (arith, right-count ps b d s, h d, one-at d p.right t.1))
    go (inr s) (inr t) k = k s t

-- pairs without doubles are one to one
pub pairs-one : (ps : Pairs) → Distinct (lefts ps) → Distinct (rights ps) → OneToOne ps
pairs-one ps h k = record { left = one-left ps h; right = one-right ps k }

count-lefts : (b : ℕ) (bs cs : List ℕ) → count b (lefts (zipped bs cs)) ≤ count b bs
count-lefts b [] cs = omega arith
count-lefts b (d ∷ bs) [] = omega arith
count-lefts b (d ∷ bs) (e ∷ cs) = omega (arith, count-lefts b bs cs)

count-rights : (c : ℕ) (bs cs : List ℕ) → count c (rights (zipped bs cs)) ≤ count c cs
count-rights c [] cs = omega arith
count-rights c (d ∷ bs) [] = omega arith
count-rights c (d ∷ bs) (e ∷ cs) = omega (arith, count-rights c bs cs)

-- so are lists without doubles, side by side
pub zip-one : (bs cs : List ℕ) → Distinct bs → Distinct cs → OneToOne (zipped bs cs)
zip-one bs cs h k = pairs-one (zipped bs cs) (λ b. omega (arith, h b, count-lefts b bs cs)) (λ c. omega (arith, k c, count-rights c bs cs))
