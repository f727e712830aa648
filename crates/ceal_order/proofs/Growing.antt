-- One spare link more.
use Rattle.std.proofs.Common.{◌≡◌, ℕ, ◌+◌, ◌<◌, ◌^◌, List, [], ◌∷◌, ◌++◌, length, get_or, refl, ap, subst, ◌∙◌, arith, length-append}
use Rattle.std.proofs.lemmas.Grind.{common_steps}
use Rattle.ceal_order.specs.Stamps.{NotIn, AllBelow}
use Rattle.ceal_order.specs.Links.{blank, Chained, Rising, Sound, Grown, next_of, prev_of, label_of, stamps_of, spares_of}
use Rattle.ceal_order.specs.declared.link.Link.{Link}
use Rattle.ceal_order.proofs.Places.{AllBelow-more}
use Rattle.ceal_order.proofs.Chains.{AllBelow-front, AllBelow-back, stamps_are, seen}
use Rattle.ceal_order.proofs.Removing.{Distinct-in, AllBelow-in}

NotIn-above : (n : ℕ) (xs : List ℕ) → AllBelow n xs → NotIn n xs
NotIn-above n [] h = tt
NotIn-above n (x ∷ xs) h = ((λ e. let low = h.0 in absurd (omega arith)), NotIn-above n xs h.1)

module _ (next next' : ℕ → ℕ) (n : ℕ) (same : (k : ℕ) → k < n → next' k ≡ next k) where
  pub Chained-below : (at : ℕ) (xs : List ℕ) → AllBelow n xs → Chained next at xs → Chained next' at xs
  Chained-below at [] below h = h
  Chained-below at (x ∷ xs) below h = (h.0, rw (same x below.0) (Chained-below (next x) xs below.1 h.1))

module _ (prev prev' label label' : ℕ → ℕ) (n : ℕ) (same_prev : (k : ℕ) → k < n → prev' k ≡ prev k) (same_label : (k : ℕ) → k < n → label' k ≡ label k) where
  pub Rising-below : (xs : List ℕ) → AllBelow n xs → Rising prev label xs → Rising prev' label' xs
  Rising-below [] below h = tt
  Rising-below (x ∷ []) below h = (rw (same_label x below.0) h.0, tt, tt)
  Rising-below (x ∷ y ∷ ys) below h =
      (rw (same_label x below.0) h.0, (same_prev y below.1.0 ∙ h.1.0, rw (same_label x below.0, same_label y below.1.0) h.1.1), Rising-below (y ∷ ys) below.1 h.2)

-- a link that is there stays as it was
kept_link : (links : List Link) (new : Link) (k : ℕ) → k < length links → get_or (links ++ new ∷ []) k blank ≡ get_or links k blank
kept_link links new k low = grind (arith, common_steps)

new_link : (links : List Link) (new : Link) → get_or (links ++ new ∷ []) (length links) blank ≡ new
new_link links new = grind (arith, common_steps)

pub spare_view : (old : List Link) (new : Link) (free spare : ℕ) (S F : List ℕ) → Sound old free spare S F → new.next ≡ free → length old + 1 < 2 ^ 32
    → (stamps_of (old ++ new ∷ []) ≡ S) × Sound (old ++ new ∷ []) (length old) (spare + 1) (stamps_of (old ++ new ∷ [])) (spares_of (old ++ new ∷ []) (length old))
spare_view old new free spare S F sound to_free room =
    let n = length old in
    let all = old ++ new ∷ [] in
    let same : (k : ℕ) → k < n → get_or all k blank ≡ get_or old k blank = λ k low. kept_link old new k low in
    let next_same : (k : ℕ) → k < n → next_of all k ≡ next_of old k = λ k low. ap (λ (l : Link). l.next) (same k low) in
    let prev_same : (k : ℕ) → k < n → prev_of all k ≡ prev_of old k = λ k low. ap (λ (l : Link). l.prev) (same k low) in
    let label_same : (k : ℕ) → k < n → label_of all k ≡ label_of old k = λ k low. ap (λ (l : Link). l.label) (same k low) in
    let first : next_of all n ≡ free = ap (λ (l : Link). l.next) (new_link old new) ∙ to_free in
    let long : length all ≡ n + 1 = omega (arith, length-append old (new ∷ [])) in
    let whole : Sound all n (spare + 1) S (n ∷ F) = record {
      live = Chained-below (next_of old) (next_of all) n next_same 0 S (AllBelow-front n S F sound.within) sound.live;
      kept = (refl, rw first (Chained-below (next_of old) (next_of all) n next_same free F (AllBelow-back n S F sound.within) sound.kept));
      rising = Rising-below (prev_of old) (prev_of all) (label_of old) (label_of all) n prev_same label_same S (AllBelow-front n S F sound.within) sound.rising;
      distinct = Distinct-in n S F (NotIn-above n (S ++ F) sound.within) sound.distinct;
      within = AllBelow-in (length all) n S F (omega (arith, long)) (AllBelow-more n (length all) (S ++ F) (omega (arith, long)) sound.within);
      few = omega (arith, long);
      all = let was = sound.all in omega (arith, long, was);
      room = let one = sound.room in omega (arith, one);
    } in
    (stamps_are all n (spare + 1) S (n ∷ F) whole, seen all n (spare + 1) S (n ∷ F) whole)

pub grown_none : (old : List Link) (free : ℕ) → Grown old old free free 0
grown_none old free = record {
  long = omega arith;
  stamps = λ spare sound. refl;
  sound = λ spare sound. let same : spare ≡ spare + 0 = omega arith in subst (λ (k : ℕ). Sound old free k (stamps_of old) (spares_of old free)) same sound;
}

pub grown_one : (old mid : List Link) (new : Link) (free first k : ℕ) → Grown old mid free first k → new.next ≡ first → length mid + 1 < 2 ^ 32
    → Grown old (mid ++ new ∷ []) free (length mid) (k + 1)
grown_one old mid new free first k grown to_first room =
    let all = mid ++ new ∷ [] in
    record {
      long = let was = grown.long in omega (arith, length-append mid (new ∷ []), was);
      stamps = λ spare sound. (spare_view mid new first (spare + k) (stamps_of mid) (spares_of mid first) (grown.sound spare sound) to_first room).0 ∙ grown.stamps spare sound;
      sound = λ spare sound.
          let done = (spare_view mid new first (spare + k) (stamps_of mid) (spares_of mid first) (grown.sound spare sound) to_first room).1 in
          let same : spare + k + 1 ≡ spare + (k + 1) = omega arith in
          subst (λ (n : ℕ). Sound all (length mid) n (stamps_of all) (spares_of all (length mid))) same done;
    }
