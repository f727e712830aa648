-- A new link after another.
use Rattle.std.proofs.Common.{◌≡◌, ◌≢◌, ℕ, suc, inl, inr, ◌⊎◌, ◌-◌, ◌<◌, ◌^◌, true, false, List, [], ◌∷◌, ◌++◌, length, sym, ap, subst, ◌∙◌, arith}
use Rattle.std.proofs.lemmas.Bool.Decides.{eqb_tells}
use Rattle.ceal_order.specs.Stamps.{NotIn, Distinct, AllBelow, is_in, with_after}
use Rattle.ceal_order.specs.Links.{no_link, Chained, Ahead, Rising, Sound, SameLinks, Spliced, Between, next_of, prev_of, label_of, stamps_of, spares_of}
use Rattle.ceal_order.specs.declared.link.Link.{Link}
use Rattle.ceal_order.proofs.Places.{apart, not_in, below_of, length-with_after}
use Rattle.ceal_order.proofs.Chains.{is_link, Distinct-front, AllBelow-front, Chained-as, next_where, prev_next, stamps_are, seen}

-- ---- a list of distinct numbers, one of which moves to the front part

NotIn-out : (x f : ℕ) (xs ys : List ℕ) → NotIn x (xs ++ f ∷ ys) → (x ≢ f) × NotIn x (xs ++ ys)
NotIn-out x f [] ys h = h
NotIn-out x f (z ∷ xs) ys h = let r = NotIn-out x f xs ys h.1 in (r.0, (h.0, r.1))

Distinct-out : (f : ℕ) (xs ys : List ℕ) → Distinct (xs ++ f ∷ ys) → NotIn f (xs ++ ys) × Distinct (xs ++ ys)
Distinct-out f [] ys h = h
Distinct-out f (z ∷ xs) ys h =
    let r = Distinct-out f xs ys h.1 in
    let o = NotIn-out z f xs ys h.0 in ((λ e. o.0 (sym e), r.0), (o.1, r.1))

AllBelow-out : (n f : ℕ) (xs ys : List ℕ) → AllBelow n (xs ++ f ∷ ys) → (f < n) × AllBelow n (xs ++ ys)
AllBelow-out n f [] ys h = h
AllBelow-out n f (z ∷ xs) ys h = let r = AllBelow-out n f xs ys h.1 in (r.0, (h.0, r.1))

pub NotIn-front : (s : ℕ) (xs ys : List ℕ) → NotIn s (xs ++ ys) → NotIn s xs
NotIn-front s [] ys h = tt
NotIn-front s (x ∷ xs) ys h = (h.0, NotIn-front s xs ys h.1)

pub NotIn-back : (s : ℕ) (xs ys : List ℕ) → NotIn s (xs ++ ys) → NotIn s ys
NotIn-back s [] ys h = h
NotIn-back s (x ∷ xs) ys h = NotIn-back s xs ys h.1

-- one of the first is none of the others
pub Distinct-apart : (s : ℕ) (xs ys : List ℕ) → is_in s xs ≡ true → Distinct (xs ++ ys) → NotIn s ys
Distinct-apart s [] ys found h = absurd (cc)
Distinct-apart s (x ∷ xs) ys found h = elim (eqb_tells x s) [
  | inl p ↦ subst (λ (k : ℕ). NotIn k ys) p.1 (NotIn-back x xs ys h.0)
  | inr p ↦ Distinct-apart s xs ys (rw p.0 at found) h.1
]

module _ (s f : ℕ) where
  NotIn-moved : (x : ℕ) (xs ys : List ℕ) → is_in s xs ≡ true → NotIn x (xs ++ f ∷ ys) → NotIn x (with_after s f xs ++ ys)
  NotIn-moved x [] ys found h = absurd (cc)
  NotIn-moved x (z ∷ xs) ys found h = elim (eqb_tells z s) [
    | inl p ↦ rw p.0 (h.0, NotIn-out x f xs ys h.1)
    | inr p ↦ rw p.0 (h.0, NotIn-moved x xs ys (rw p.0 at found) h.1)
  ]

  pub Distinct-moved : (xs ys : List ℕ) → is_in s xs ≡ true → Distinct (xs ++ f ∷ ys) → Distinct (with_after s f xs ++ ys)
  Distinct-moved [] ys found h = absurd (cc)
  Distinct-moved (x ∷ xs) ys found h = elim (eqb_tells x s) [
    | inl p ↦ rw p.0 (NotIn-out x f xs ys h.0, Distinct-out f xs ys h.1)
    | inr p ↦ let rest : is_in s xs ≡ true = rw p.0 at found in rw p.0 (NotIn-moved x xs ys rest h.0, Distinct-moved xs ys rest h.1)
  ]

  pub AllBelow-moved : (n : ℕ) (xs ys : List ℕ) → is_in s xs ≡ true → AllBelow n (xs ++ f ∷ ys) → AllBelow n (with_after s f xs ++ ys)
  AllBelow-moved n [] ys found h = absurd (cc)
  AllBelow-moved n (x ∷ xs) ys found h = elim (eqb_tells x s) [
    | inl p ↦ rw p.0 (h.0, AllBelow-out n f xs ys h.1)
    | inr p ↦ rw p.0 (h.0, AllBelow-moved n xs ys (rw p.0 at found) h.1)
  ]

-- ---- the links

module _ (next next' : ℕ → ℕ) (s f : ℕ) (other : (k : ℕ) → k ≢ s → k ≢ f → next' k ≡ next k) where
  pub Chained-same : (at : ℕ) (xs : List ℕ) → NotIn s xs → NotIn f xs → Chained next at xs → Chained next' at xs
  Chained-same at [] no_s no_f h = h
  Chained-same at (x ∷ xs) no_s no_f h =
      (h.0, rw (other x (λ e. no_s.0 (sym e)) (λ e. no_f.0 (sym e))) (Chained-same (next x) xs no_s.1 no_f.1 h.1))

  pub Chained-insert : (at : ℕ) (xs : List ℕ) → next' s ≡ f → next' f ≡ next s → is_in s xs ≡ true → Distinct xs → NotIn f xs → Chained next at xs → Chained next' at (with_after s f xs)
  Chained-insert at [] to_f from_f found distinct no_f h = absurd (cc)
  Chained-insert at (x ∷ xs) to_f from_f found distinct no_f h = elim (eqb_tells x s) [
    | inl p ↦ rw p.0 (
      h.0,
      (
        subst (λ (k : ℕ). next' k ≡ f) (sym p.1) to_f,
        rw (from_f, ← p.1) (Chained-same (next x) xs (subst (λ (k : ℕ). NotIn k xs) p.1 distinct.0) no_f.1 h.1),
      ),
    )
    | inr p ↦ rw p.0 (h.0, rw (other x p.1 (λ e. no_f.0 (sym e))) (Chained-insert (next x) xs to_f from_f (rw p.0 at found) distinct.1 no_f.1 h.1))
  ]

-- ---- the labels and the links back

module _ (prev prev' label label' : ℕ → ℕ) (f z : ℕ) (prev_other : (k : ℕ) → k ≢ f → k ≢ z → prev' k ≡ prev k) (label_other : (k : ℕ) → k ≢ f → label' k ≡ label k) where
  -- links that neither are new nor have a new one before them
  pub Rising-same : (x : ℕ) (xs : List ℕ) → NotIn f (x ∷ xs) → NotIn z xs → Rising prev label (x ∷ xs) → Rising prev' label' (x ∷ xs)
  Rising-same x [] no_f no_z h = (rw (label_other x (λ e. no_f.0 (sym e))) h.0, tt, tt)
  Rising-same x (y ∷ ys) no_f no_z h =
      let same_x = label_other x (λ e. no_f.0 (sym e)) in
      let same_y = label_other y (λ e. no_f.1.0 (sym e)) in
      (rw same_x h.0, (prev_other y (λ e. no_f.1.0 (sym e)) (λ e. no_z.0 (sym e)) ∙ h.1.0, rw (same_x, same_y) h.1.1), Rising-same y ys no_f.1 no_z.1 h.2)

module _ (next prev prev' label label' : ℕ → ℕ) (s f l n : ℕ) (few : n < 2 ^ 32)
    (to_s : prev' f ≡ s) (back : next s ≢ no_link → prev' (next s) ≡ f) (prev_other : (k : ℕ) → k ≢ f → k ≢ next s → prev' k ≡ prev k)
    (fresh : label' f ≡ l) (label_other : (k : ℕ) → k ≢ f → label' k ≡ label k)
    (above : label s < l) (ends : next s ≡ no_link → l < 2 ^ 62) (below : next s ≢ no_link → l < label (next s))
    (pointing : next s ≢ no_link → prev (next s) ≡ s) where
  Ahead-insert : (x y : ℕ) (ys : List ℕ) → prev' y ≡ x → label' x < label' y → Ahead prev' label' x (with_after s f (y ∷ ys))
  Ahead-insert x y ys points less = elim (eqb_tells y s) [ inl p ↦ rw p.0 (points, less) | inr p ↦ rw p.0 (points, less) ]

  pub Rising-insert : (at : ℕ) (xs : List ℕ) → is_in s xs ≡ true → Chained next at xs → Rising prev label xs → Distinct xs → NotIn f xs → AllBelow n xs → Rising prev' label' (with_after s f xs)
  Rising-insert at [] found h rising distinct no_f within = absurd (cc)
  Rising-insert at (x ∷ []) found h rising distinct no_f within = elim (eqb_tells x s) [
    | inl p ↦ rw (p.0, label_other x (λ e. no_f.0 (sym e)), fresh)
        (rising.0, (to_s ∙ sym p.1, subst (λ (k : ℕ). label k < l) (sym p.1) above), (ends (ap next (sym p.1) ∙ h.1), tt, tt))
    | inr p ↦ absurd (let no : false ≡ true = rw p.0 at found in cc)
  ]
  Rising-insert at (x ∷ y ∷ ys) found h rising distinct no_f within =
      let same_x = label_other x (λ e. no_f.0 (sym e)) in
      let same_y = label_other y (λ e. no_f.1.0 (sym e)) in
      let inside = is_link n y few within.1.0 in
      elim (eqb_tells x s) [
        | inl p ↦
            let to_y : next s ≡ y = ap next (sym p.1) ∙ h.1.0 in
            let inner : next s ≢ no_link = λ e. inside (sym to_y ∙ e) in
            let less : l < label y = subst (λ (k : ℕ). l < label k) to_y (below inner) in
            let rest = Rising-same prev prev' label label' f y (λ k a b. prev_other k a (λ e. b (e ∙ to_y))) label_other y ys no_f.1 distinct.1.0 rising.2 in
            let short : l < 2 ^ 62 = omega (arith, rising.2.0) in
            let less' : l < label' y = rw same_y less in
            rw (p.0, same_x, fresh)
            (rising.0, (to_s ∙ sym p.1, subst (λ (k : ℕ). label k < l) (sym p.1) above), (short, (subst (λ (k : ℕ). prev' k ≡ f) to_y (back inner), less'), rest))
        | inr p ↦
            let not_next : y ≢ next s = λ e. p.1 (sym rising.1.0 ∙ ap prev e ∙ pointing (λ o. inside (e ∙ o))) in
            let points : prev' y ≡ x = prev_other y (λ e. no_f.1.0 (sym e)) not_next ∙ rising.1.0 in
            let less : label' x < label' y = rw (same_x, same_y) rising.1.1 in
            let rest = Rising-insert (next x) (y ∷ ys) (rw p.0 at found) h.1 rising.2 distinct.1 no_f.1 within.1 in
            let low : label' x < 2 ^ 62 = rw same_x rising.0 in
            rw p.0 (low, Ahead-insert x y ys points less, rest)
      ]

-- ---- the whole

module _ (old new : List Link) (s f l : ℕ) (S F : List ℕ) where
  pub Sound-insert : (free spare : ℕ) → Sound old free (suc spare) S (f ∷ F) → is_in s S ≡ true → Spliced old new s f l → Between old s l → Sound new (next_of old f) spare (with_after s f S) F
  Sound-insert free spare sound found spliced between =
      let out = Distinct-out f S F sound.distinct in
      let no_f = NotIn-front f S F out.0 in
      let s_not_f = apart s f S no_f found in
      let no_s = Distinct-apart s S (f ∷ F) found sound.distinct in
      let S_distinct = Distinct-front S (f ∷ F) sound.distinct in
      let long = sym spliced.long in
      let inside : next_of old s ≢ no_link → prev_of old (next_of old s) ≡ s =
      prev_next (next_of old) (prev_of old) (label_of old) 0 s S sound.live sound.rising found in
      record {
        live = Chained-insert (next_of old) (next_of new) s f spliced.next_other 0 S spliced.next_at spliced.next_fresh found S_distinct no_f sound.live;
        kept = Chained-same (next_of old) (next_of new) s f spliced.next_other (next_of old f) F no_s.1 (NotIn-back f S F out.0) sound.kept.1;
        rising = Rising-insert (next_of old) (prev_of old) (prev_of new) (label_of old) (label_of new) s f l (length old) sound.few
            spliced.prev_fresh spliced.prev_next spliced.prev_other spliced.label_fresh spliced.label_other between.above between.ends between.below inside
            0 S found sound.live sound.rising S_distinct no_f (AllBelow-front (length old) S (f ∷ F) sound.within);
        distinct = Distinct-moved s f S F found sound.distinct;
        within = subst (λ (k : ℕ). AllBelow k (with_after s f S ++ F)) long (AllBelow-moved s f (length old) S F found sound.within);
        few = subst (λ (k : ℕ). k < 2 ^ 32) long sound.few;
        all = let more = length-with_after s f S found in let whole = sound.all in omega (arith, more, whole, long);
        room = let one = sound.room in omega (arith, one);
      }

-- labels given again change nothing else
pub relabelled : (old mid : List Link) (free spare : ℕ) (S F : List ℕ) → Sound old free spare S F → SameLinks old mid → Rising (prev_of mid) (label_of mid) S → Sound mid free spare S F
relabelled old mid free spare S F sound same rising =
    let long = sym same.long in
    record {
      live = Chained-as (next_of old) (next_of mid) same.next 0 S sound.live;
      kept = Chained-as (next_of old) (next_of mid) same.next free F sound.kept;
      rising = rising;
      distinct = sound.distinct;
      within = subst (λ (k : ℕ). AllBelow k (S ++ F)) long sound.within;
      few = subst (λ (k : ℕ). k < 2 ^ 32) long sound.few;
      all = sound.all ∙ long;
      room = sound.room;
    }

-- what a new link after s needs
pub record Ready (links : List Link) (free s : ℕ) (S : List ℕ) : Type 0 where
  pub at_in : s < length links
  pub next_in : (next_of links s ≡ no_link) ⊎ (next_of links s < length links)
  pub new_in : free < length links
  pub apart : s ≢ free
  pub next_apart : next_of links s ≢ free
  pub fresh : is_in free S ≡ false

ready_at : (links : List Link) (free spare s f : ℕ) (S F : List ℕ) → Sound links free spare S (f ∷ F) → is_in s S ≡ true → Ready links f s S
ready_at links free spare s f S F sound found =
    let out = Distinct-out f S F sound.distinct in
    let no_f = NotIn-front f S F out.0 in
    let below = AllBelow-out (length links) f S F sound.within in
    let within = AllBelow-front (length links) S (f ∷ F) sound.within in
    let where_next = next_where (next_of links) 0 s S sound.live found in
    let few = sound.few in
    record {
      at_in = below_of s (length links) S found within;
      next_in = elim where_next [ inl last ↦ inl last | inr here ↦ inr (below_of (next_of links s) (length links) S here within) ];
      new_in = below.0;
      apart = apart s f S no_f found;
      next_apart = elim where_next [
        | inl last ↦ λ e. is_link (length links) f few below.0 (sym e ∙ last)
        | inr here ↦ apart (next_of links s) f S no_f here
      ];
      fresh = not_in f S no_f;
    }

pub ready : (links : List Link) (free spare s : ℕ) (S F : List ℕ) → Sound links free spare S F → 0 < spare → is_in s S ≡ true → Ready links free s S
ready links free spare s S [] sound some found = absurd (let none = sound.room in omega arith)
ready links free spare s S (f ∷ F) sound some found = subst (λ (k : ℕ). Ready links k s S) (sym sound.kept.0) (ready_at links free spare s f S F sound found)

-- the same of what a view reads
pub insert_view : (old new : List Link) (free spare s l : ℕ) (S F : List ℕ) → Sound old free spare S F → 0 < spare → is_in s S ≡ true → Spliced old new s free l → Between old s l
    → (stamps_of new ≡ with_after s free S) × Sound new (next_of old free) (spare - 1) (stamps_of new) (spares_of new (next_of old free))
insert_view old new free spare s l S [] sound some found spliced between = absurd (let none = sound.room in omega arith)
insert_view old new free spare s l S (f ∷ F) sound some found spliced between =
    let one : spare ≡ suc (spare - 1) = omega arith in
    let before : Sound old free (suc (spare - 1)) S (f ∷ F) = subst (λ (k : ℕ). Sound old free k S (f ∷ F)) one sound in
    let spliced' : Spliced old new s f l = subst (λ (k : ℕ). Spliced old new s k l) sound.kept.0 spliced in
    let whole' : Sound new (next_of old f) (spare - 1) (with_after s f S) F = Sound-insert old new s f l S F free (spare - 1) before found spliced' between in
    let whole : Sound new (next_of old free) (spare - 1) (with_after s free S) F = subst (λ (k : ℕ). Sound new (next_of old k) (spare - 1) (with_after s k S) F) (sym sound.kept.0) whole' in
    (stamps_are new (next_of old free) (spare - 1) (with_after s free S) F whole, seen new (next_of old free) (spare - 1) (with_after s free S) F whole)
