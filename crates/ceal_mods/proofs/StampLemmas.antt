-- Which writes there are, with one more or one less.
use Rattle.std.proofs.Common.{◌≡◌, ◌==◌, ◌<◌, ◌∙◌, ℕ, suc, zero, inl, inr, true, false, if◌then◌else◌, Option, Some, None, is_some, List, [], ◌∷◌, refl, ap, sym, subst, arith}
use Rattle.std.proofs.lemmas.Bool.Decides.{eqb_tells}
use Rattle.std.proofs.lemmas.Bool.{eq-eqb}
use Rattle.std.specs.List.{insert}
use Rattle.ceal_base.specs.declared.word.Word.{Word}
use Rattle.ceal_order.specs.Stamps.{is_in, place, without}
use Rattle.ceal_order.specs.Rising.{IsBeforeAll, IsRising}
use Rattle.ceal_mods.specs.Writes.{Write, stamps_of, written_at, without_one}

pub stamps-insert : (ws : List Write) (i : ℕ) (w : Write) → stamps_of (insert ws i w) ≡ insert (stamps_of ws) i w.stamp
stamps-insert ws zero w = refl
stamps-insert [] (suc i) w = refl
stamps-insert (v ∷ ws) (suc i) w = ap (λ (l : List ℕ). v.stamp ∷ l) (stamps-insert ws i w)

pub stamps-without : (s : ℕ) (ws : List Write) → stamps_of (without_one s ws) ≡ without s (stamps_of ws)
stamps-without s [] = refl
stamps-without s (w ∷ ws) = elim (eqb_tells w.stamp s) [
  | inl p ↦ rw p.0 refl
  | inr p ↦ rw p.0 (ap (λ (l : List ℕ). w.stamp ∷ l) (stamps-without s ws))
]

pub written-there : (s : ℕ) (ws : List Write) → is_some (written_at s ws) ≡ is_in s (stamps_of ws)
written-there s [] = refl
written-there s (w ∷ ws) = elim (eqb_tells w.stamp s) [ inl p ↦ rw p.0 refl | inr p ↦ rw p.0 (written-there s ws) ]

none-some : (o : Option Word) → is_some o ≡ false → o ≡ None
none-some None h = refl
none-some (Some w) h = absurd (cc)

pub not-written : (s : ℕ) (ws : List Write) → is_in s (stamps_of ws) ≡ false → written_at s ws ≡ None
not-written s ws h = none-some (written_at s ws) (written-there s ws ∙ h)

pub written-insert : (t i : ℕ) (w : Write) (ws : List Write) → is_in w.stamp (stamps_of ws) ≡ false → written_at t (insert ws i w) ≡ (if w.stamp == t then Some w.value else written_at t ws)
written-insert t zero w ws h = refl
written-insert t (suc i) w [] h = refl
written-insert t (suc i) w (v ∷ ws) h = elim (eqb_tells v.stamp t) [
  | inl p ↦ elim (eqb_tells w.stamp t) [
    | inl q ↦ absurd (let no : true ≡ false = sym (rw (eq-eqb v.stamp w.stamp (p.1 ∙ sym q.1)) refl) ∙ h in cc)
    | inr q ↦ rw (p.0, q.0) refl
  ]
  | inr p ↦ elim (eqb_tells v.stamp w.stamp) [
    | inl q ↦ absurd (let no : true ≡ false = rw q.0 at h in cc)
    | inr q ↦ rw p.0 (written-insert t i w ws (rw q.0 at h))
  ]
]

not-behind : (order : List ℕ) (s : ℕ) (xs : List ℕ) → IsBeforeAll order s xs → is_in s xs ≡ false
not-behind order s [] before = refl
not-behind order s (x ∷ xs) before = elim (eqb_tells x s) [
  | inl p ↦ absurd (let less : place s order < place s order = subst (λ (k : ℕ). place s order < place k order) p.1 before.0 in omega (arith, less))
  | inr p ↦ rw p.0 (not-behind order s xs before.1)
]

-- of stamps none of which occurs twice
pub written-without : (t s : ℕ) (ws : List Write) → ((u : ℕ) → is_in u (without s (stamps_of ws)) ≡ (if s == u then false else is_in u (stamps_of ws)))
    → written_at t (without_one s ws) ≡ (if s == t then None else written_at t ws)
written-without t s ws once = elim (eqb_tells s t) [
  | inl q ↦
      let none : is_in t (stamps_of (without_one s ws)) ≡ false = ap (is_in t) (stamps-without s ws) ∙ once t ∙ rw q.0 refl in
      rw q.0 (not-written t (without_one s ws) none)
  | inr q ↦ rw q.0 (other q.1 ws)
]
  where
    other : (s ≡ t → ⊥) → (ws : List Write) → written_at t (without_one s ws) ≡ written_at t ws
    other different [] = refl
    other different (w ∷ ws) = elim (eqb_tells w.stamp s) [
      | inl p ↦ elim (eqb_tells w.stamp t) [
        | inl r ↦ absurd (different (sym p.1 ∙ r.1))
        | inr r ↦ rw (p.0, r.0) refl
      ]
      | inr p ↦ elim (eqb_tells w.stamp t) [ inl r ↦ rw (p.0, r.0) refl | inr r ↦ rw (p.0, r.0) (other different ws) ]
    ]

-- writes with the same stamps, none of which occurs twice, and the same values
pub values-same : (order : List ℕ) (xs ys : List Write) → IsRising order (stamps_of xs) → stamps_of xs ≡ stamps_of ys → ((s : ℕ) → written_at s xs ≡ written_at s ys) → xs ≡ ys
values-same order [] [] rises stamps same = refl
values-same order [] (v ∷ vs) rises stamps same = absurd (cc)
values-same order (w ∷ ws) [] rises stamps same = absurd (cc)
values-same order (w ∷ ws) (v ∷ vs) rises stamps same =
    let head : w.stamp ≡ v.stamp = cc in
    let tail : stamps_of ws ≡ stamps_of vs = cc in
    let one : written_at w.stamp (w ∷ ws) ≡ Some w.value = rw (eq-eqb w.stamp w.stamp refl) refl in
    let two : written_at w.stamp (v ∷ vs) ≡ Some v.value = rw (eq-eqb v.stamp w.stamp (sym head)) refl in
    let value : Some w.value ≡ Some v.value = sym one ∙ same w.stamp ∙ two in
    let first : w ≡ v = one-write w v head (some-word w.value v.value value) in
    ap (λ (u : Write). u ∷ ws) first ∙ ap (λ (l : List Write). v ∷ l) (values-same order ws vs rises.2 tail (rest head tail))
  where
    some-word : (a b : Word) → Some a ≡ Some b → a ≡ b
    some-word a b h = cc

    one-write : (a b : Write) → a.stamp ≡ b.stamp → a.value ≡ b.value → a ≡ b
    one-write a b h k = ap (λ (s : ℕ). record { stamp = s; value = a.value }) h ∙ ap (λ (x : Word). record { stamp = b.stamp; value = x }) k

    rest : w.stamp ≡ v.stamp → stamps_of ws ≡ stamps_of vs → (s : ℕ) → written_at s ws ≡ written_at s vs
    rest head tail s = elim (eqb_tells w.stamp s) [
      | inl q ↦
          let none_w : is_in s (stamps_of ws) ≡ false = subst (λ (k : ℕ). is_in k (stamps_of ws) ≡ false) q.1 (not-behind order w.stamp (stamps_of ws) rises.1) in
          let none_v : is_in s (stamps_of vs) ≡ false = ap (is_in s) (sym tail) ∙ none_w in
          not-written s ws none_w ∙ sym (not-written s vs none_v)
      | inr q ↦ (let h : written_at s (w ∷ ws) ≡ written_at s (v ∷ vs) = same s in rw (← head, q.0) at h)
    ]
