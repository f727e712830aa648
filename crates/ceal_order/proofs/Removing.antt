-- A link is taken out, and becomes spare.
use Rattle.std.proofs.Common.{◌≡◌, ◌≢◌, ℕ, inl, inr, ◌⊎◌, ◌+◌, ◌<◌, ◌^◌, true, false, List, [], ◌∷◌, ◌++◌, length, refl, sym, ap, subst, ◌∙◌, arith, Some}
use Rattle.std.proofs.lemmas.Bool.Decides.{eqb_tells}
use Rattle.ceal_order.specs.Stamps.{NotIn, Distinct, AllBelow, is_in, without, head_of}
use Rattle.ceal_order.specs.Links.{no_link, Chained, Rising, Sound, Unlinked, next_of, prev_of, label_of, stamps_of, spares_of}
use Rattle.ceal_order.specs.declared.link.Link.{Link}
use Rattle.ceal_order.proofs.Places.{apart, below_of, in_tail, length-without}
use Rattle.ceal_order.proofs.Chains.{is_link, Distinct-front, AllBelow-front, prev_where, next_where, prev_next, stamps_are, seen}
use Rattle.ceal_order.proofs.Inserting.{Chained-same, Rising-same, Distinct-apart}

-- ---- a list of distinct numbers, one of which moves after it

NotIn-in : (x f : ℕ) (xs ys : List ℕ) → x ≢ f → NotIn x (xs ++ ys) → NotIn x (xs ++ f ∷ ys)
NotIn-in x f [] ys differ h = (differ, h)
NotIn-in x f (z ∷ xs) ys differ h = (h.0, NotIn-in x f xs ys differ h.1)

pub Distinct-in : (f : ℕ) (xs ys : List ℕ) → NotIn f (xs ++ ys) → Distinct (xs ++ ys) → Distinct (xs ++ f ∷ ys)
Distinct-in f [] ys none h = (none, h)
Distinct-in f (z ∷ xs) ys none h = (NotIn-in z f xs ys (λ e. none.0 (sym e)) h.0, Distinct-in f xs ys none.1 h.1)

pub AllBelow-in : (n f : ℕ) (xs ys : List ℕ) → f < n → AllBelow n (xs ++ ys) → AllBelow n (xs ++ f ∷ ys)
AllBelow-in n f [] ys low h = (low, h)
AllBelow-in n f (z ∷ xs) ys low h = (h.0, AllBelow-in n f xs ys low h.1)

module _ (s : ℕ) where
  NotIn-behind : (x : ℕ) (xs ys : List ℕ) → x ≢ s → NotIn x (xs ++ ys) → NotIn x (without s xs ++ s ∷ ys)
  NotIn-behind x [] ys differ h = (differ, h)
  NotIn-behind x (z ∷ xs) ys differ h = elim (eqb_tells z s) [
    | inl p ↦ rw p.0 (NotIn-in x s xs ys differ h.1)
    | inr p ↦ rw p.0 (h.0, NotIn-behind x xs ys differ h.1)
  ]

  pub Distinct-behind : (xs ys : List ℕ) → is_in s xs ≡ true → Distinct (xs ++ ys) → Distinct (without s xs ++ s ∷ ys)
  Distinct-behind [] ys found h = absurd (cc)
  Distinct-behind (x ∷ xs) ys found h = elim (eqb_tells x s) [
    | inl p ↦ rw p.0 (Distinct-in s xs ys (subst (λ (k : ℕ). NotIn k (xs ++ ys)) p.1 h.0) h.1)
    | inr p ↦ let rest : is_in s xs ≡ true = rw p.0 at found in rw p.0 (NotIn-behind x xs ys p.1 h.0, Distinct-behind xs ys rest h.1)
  ]

  pub AllBelow-behind : (n : ℕ) (xs ys : List ℕ) → is_in s xs ≡ true → AllBelow n (xs ++ ys) → AllBelow n (without s xs ++ s ∷ ys)
  AllBelow-behind n [] ys found h = absurd (cc)
  AllBelow-behind n (x ∷ xs) ys found h = elim (eqb_tells x s) [
    | inl p ↦ rw p.0 (AllBelow-in n s xs ys (subst (λ (k : ℕ). k < n) p.1 h.0) h.1)
    | inr p ↦ let rest : is_in s xs ≡ true = rw p.0 at found in rw p.0 (h.0, AllBelow-behind n xs ys rest h.1)
  ]

-- ---- the links

module _ (next next' prev label : ℕ → ℕ) (s : ℕ) (over : next' (prev s) ≡ next s) (other : (k : ℕ) → k ≢ s → k ≢ prev s → next' k ≡ next k) where
  pub Chained-remove : (at x : ℕ) (xs : List ℕ) → x ≢ s → is_in s xs ≡ true → Distinct (x ∷ xs) → Rising prev label (x ∷ xs) → Chained next at (x ∷ xs) → Chained next' at (x ∷ without s xs)
  Chained-remove at x [] differ found distinct rising h = absurd (cc)
  Chained-remove at x (y ∷ ys) differ found distinct rising h = elim (eqb_tells y s) [
    | inl p ↦
        let before : x ≡ prev s = sym rising.1.0 ∙ ap prev p.1 in
        let jump : next' x ≡ next y = ap next' before ∙ over ∙ ap next (sym p.1) in
        rw p.0 (
          h.0,
          rw jump (Chained-same next next' s (prev s) other (next y) ys
              (subst (λ (k : ℕ). NotIn k ys) p.1 distinct.1.0) (subst (λ (k : ℕ). NotIn k ys) before distinct.0.1) h.1.1),
        )
    | inr p ↦
        let rest : is_in s ys ≡ true = rw p.0 at found in
        let not_before : prev s ≢ x = apart (prev s) x (y ∷ ys) distinct.0 (prev_where prev label s y ys rising.2 rest) in
        rw (p.0, other x differ (λ e. not_before (sym e))) (h.0, Chained-remove (next x) y ys p.1 rest distinct.1 rising.2 h.1)
  ]

module _ (next prev prev' label label' : ℕ → ℕ) (s n : ℕ) (few : n < 2 ^ 32)
    (back : next s ≢ no_link → prev' (next s) ≡ prev s) (other : (k : ℕ) → k ≢ next s → prev' k ≡ prev k) (same : (k : ℕ) → label' k ≡ label k)
    (pointing : next s ≢ no_link → prev (next s) ≡ s) where
  pub Rising-remove : (at x : ℕ) (xs : List ℕ) → x ≢ s → is_in s xs ≡ true → Chained next at (x ∷ xs) → Distinct
      (x ∷ xs) → AllBelow n (x ∷ xs) → Rising prev label (x ∷ xs) → Rising prev' label' (x ∷ without s xs)
  Rising-remove at x [] differ found h distinct within rising = absurd (cc)
  Rising-remove at x (y ∷ []) differ found h distinct within rising = elim (eqb_tells y s) [
    | inl p ↦ rw (p.0, same x) (rising.0, tt, tt)
    | inr p ↦ absurd (let no : false ≡ true = rw p.0 at found in cc)
  ]
  Rising-remove at x (y ∷ z ∷ zs) differ found h distinct within rising = elim (eqb_tells y s) [
    | inl p ↦
        let to_z : next s ≡ z = ap next (sym p.1) ∙ h.1.1.0 in
        let inner : next s ≢ no_link = λ e. is_link n z few within.1.1.0 (sym to_z ∙ e) in
        let points : prev' z ≡ x = ap prev' (sym to_z) ∙ back inner ∙ ap prev (sym p.1) ∙ rising.1.0 in
        let less : label x < label z = omega (arith, rising.1.1, rising.2.1.1) in
        let less' : label' x < label' z = rw (same x, same z) less in
        let no_s : NotIn s (z ∷ zs) = subst (λ (k : ℕ). NotIn k (z ∷ zs)) p.1 distinct.1.0 in
        let rest = Rising-same prev prev' label label' s z (λ k a b. other k (λ e. b (e ∙ to_z))) (λ k a. same k) z zs no_s distinct.1.1.0 rising.2.2 in
        let low : label' x < 2 ^ 62 = rw (same x) rising.0 in
        rw p.0 (low, (points, less'), rest)
    | inr p ↦
        let inside = is_link n y few within.1.0 in
        let not_next : y ≢ next s = λ e. differ (sym rising.1.0 ∙ ap prev e ∙ pointing (λ o. inside (e ∙ o))) in
        let less : label' x < label' y = rw (same x, same y) rising.1.1 in
        let low : label' x < 2 ^ 62 = rw (same x) rising.0 in
        let rest = Rising-remove (next x) y (z ∷ zs) p.1 (rw p.0 at found) h.1 distinct.1 within.1 rising.2 in
        rw p.0 (low, (other y not_next ∙ rising.1.0, less), rest)
  ]

-- ---- the whole

-- a stamp that is not the first of a list is one of the others
module _ (old new : List Link) (s free : ℕ) where
  pub Sound-remove : (spare x : ℕ) (xs F : List ℕ) → Sound old free spare (x ∷ xs) F → x ≢ s → is_in s xs ≡ true → Unlinked old new s free → Sound new s (spare + 1) (x ∷ without s xs) (s ∷ F)
  Sound-remove spare x xs F sound differ found unlinked =
      let S_distinct = Distinct-front (x ∷ xs) F sound.distinct in
      let here = in_tail s x xs found in
      let before = prev_where (prev_of old) (label_of old) s x xs sound.rising found in
      let long = sym unlinked.long in
      let inside : next_of old s ≢ no_link → prev_of old (next_of old s) ≡ s =
      prev_next (next_of old) (prev_of old) (label_of old) 0 s (x ∷ xs) sound.live sound.rising here in
      let behind : Distinct (without s (x ∷ xs) ++ s ∷ F) = Distinct-behind s (x ∷ xs) F here sound.distinct in
      let within : AllBelow (length old) (without s (x ∷ xs) ++ s ∷ F) = AllBelow-behind s (length old) (x ∷ xs) F here sound.within in
      let kept : Chained (next_of new) (next_of new s) F = rw unlinked.next_gone
      (Chained-same (next_of old) (next_of new) s (prev_of old s) unlinked.next_other free F
      (Distinct-apart s (x ∷ xs) F here sound.distinct) (Distinct-apart (prev_of old s) (x ∷ xs) F before sound.distinct) sound.kept) in
      elim (eqb_tells x s) [
        | inl p ↦ absurd (differ p.1)
        | inr p ↦
            let behind' : Distinct ((x ∷ without s xs) ++ s ∷ F) = rw p.0 at behind in
            let within' : AllBelow (length old) ((x ∷ without s xs) ++ s ∷ F) = rw p.0 at within in
            record {
              live = Chained-remove (next_of old) (next_of new) (prev_of old) (label_of old) s unlinked.next_prev unlinked.next_other 0 x xs differ found S_distinct sound.rising sound.live;
              kept = (refl, kept);
              rising = Rising-remove (next_of old) (prev_of old) (prev_of new) (label_of old) (label_of new) s (length old) sound.few unlinked.prev_next unlinked.prev_other unlinked.label_other inside
                  0 x xs differ found sound.live S_distinct (AllBelow-front (length old) (x ∷ xs) F sound.within) sound.rising;
              distinct = behind';
              within = subst (λ (k : ℕ). AllBelow k ((x ∷ without s xs) ++ s ∷ F)) long within';
              few = subst (λ (k : ℕ). k < 2 ^ 32) long sound.few;
              all = let less = length-without s xs found in let whole = sound.all in omega (arith, less, whole, long);
              room = let one = sound.room in omega (arith, one);
            }
      ]

module _ (s : ℕ) where
  prev_apart : (prev label : ℕ → ℕ) (x : ℕ) (xs : List ℕ) → Rising prev label (x ∷ xs) → Distinct (x ∷ xs) → is_in s xs ≡ true → prev s ≢ s
  prev_apart prev label x [] rising distinct found = absurd (cc)
  prev_apart prev label x (y ∷ ys) rising distinct found = elim (eqb_tells y s) [
    | inl p ↦ λ e. distinct.0.0 (sym rising.1.0 ∙ ap prev p.1 ∙ e ∙ sym p.1)
    | inr p ↦ prev_apart prev label y ys rising.2 distinct.1 (rw p.0 at found)
  ]

  next_apart_of : (next : ℕ → ℕ) (at n : ℕ) (xs : List ℕ) → n < 2 ^ 32 → Chained next at xs → Distinct xs → AllBelow n xs → is_in s xs ≡ true → next s ≢ s
  next_apart_of next at n [] few h distinct within found = absurd (cc)
  next_apart_of next at n (x ∷ []) few h distinct within found = elim (eqb_tells x s) [
    | inl p ↦ λ e. let low = within.0 in let last : next s ≡ no_link = ap next (sym p.1) ∙ h.1 in absurd (omega (arith, p.1))
    | inr p ↦ absurd (let no : false ≡ true = rw p.0 at found in cc)
  ]
  next_apart_of next at n (x ∷ y ∷ ys) few h distinct within found = elim (eqb_tells x s) [
    | inl p ↦ λ e. distinct.0.0 (p.1 ∙ sym e ∙ ap next (sym p.1) ∙ h.1.0)
    | inr p ↦ next_apart_of next (next x) n (y ∷ ys) few h.1 distinct.1 within.1 (rw p.0 at found)
  ]

-- what taking out a link needs
pub record Removable (links : List Link) (s spare : ℕ) : Type 0 where
  pub at_in : s < length links
  pub prev_in : prev_of links s < length links
  pub apart : prev_of links s ≢ s
  pub next_in : (next_of links s ≡ no_link) ⊎ (next_of links s < length links)
  pub next_apart : next_of links s ≢ s
  pub fits : spare + 1 < 2 ^ 32

in_rest : (s x : ℕ) (xs : List ℕ) → x ≢ s → is_in s (x ∷ xs) ≡ true → is_in s xs ≡ true
in_rest s x xs differ found = elim (eqb_tells x s) [ inl p ↦ absurd (differ p.1) | inr p ↦ rw p.0 at found ]

without_rest : (s x : ℕ) (xs : List ℕ) → x ≢ s → without s (x ∷ xs) ≡ x ∷ without s xs
without_rest s x xs differ = elim (eqb_tells x s) [ inl p ↦ absurd (differ p.1) | inr p ↦ rw p.0 refl ]

pub removable : (links : List Link) (free spare s : ℕ) (S F : List ℕ) → Sound links free spare S F → is_in s S ≡ true → head_of S ≢ Some s → Removable links s spare
removable links free spare s [] F sound found other = absurd (cc)
removable links free spare s (x ∷ xs) F sound found other =
    let differ : x ≢ s = λ e. other (ap (λ (n : ℕ). Some n) e) in
    let rest = in_rest s x xs differ found in
    let distinct = Distinct-front (x ∷ xs) F sound.distinct in
    let within = AllBelow-front (length links) (x ∷ xs) F sound.within in
    let few = sound.few in
    let whole = sound.all in
    let room = sound.room in
    record {
      at_in = below_of s (length links) (x ∷ xs) found within;
      prev_in = below_of (prev_of links s) (length links) (x ∷ xs) (prev_where (prev_of links) (label_of links) s x xs sound.rising rest) within;
      apart = prev_apart s (prev_of links) (label_of links) x xs sound.rising distinct rest;
      next_in = elim (next_where (next_of links) 0 s (x ∷ xs) sound.live found) [ inl last ↦ inl last | inr here ↦ inr (below_of (next_of links s) (length links) (x ∷ xs) here within) ];
      next_apart = next_apart_of s (next_of links) 0 (length links) (x ∷ xs) sound.few sound.live distinct within found;
      fits = omega (arith, whole, room, few);
    }

-- the same of what a view reads
pub delete_view : (old new : List Link) (free spare s : ℕ) (S F : List ℕ) → Sound old free spare S F → is_in s S ≡ true → head_of S ≢ Some s → Unlinked old new s free
    → (stamps_of new ≡ without s S) × Sound new s (spare + 1) (stamps_of new) (spares_of new s)
delete_view old new free spare s [] F sound found other unlinked = absurd (cc)
delete_view old new free spare s (x ∷ xs) F sound found other unlinked =
    let differ : x ≢ s = λ e. other (ap (λ (n : ℕ). Some n) e) in
    let rest = in_rest s x xs differ found in
    let whole' : Sound new s (spare + 1) (x ∷ without s xs) (s ∷ F) = Sound-remove old new s free spare x xs F sound differ rest unlinked in
    let whole : Sound new s (spare + 1) (without s (x ∷ xs)) (s ∷ F) = subst (λ (l : List ℕ). Sound new s (spare + 1) l (s ∷ F)) (sym (without_rest s x xs differ)) whole' in
    (stamps_are new s (spare + 1) (without s (x ∷ xs)) (s ∷ F) whole, seen new s (spare + 1) (without s (x ∷ xs)) (s ∷ F) whole)
