-- The read that is affected by a change after a stamp is the first one of its place there, before any write of the
-- place.
use Rattle.std.proofs.Common.{◌≡◌, ℕ, ◌<◌, ◌≤◌, Bool, true, false, List, [], ◌∷◌, ◌++◌, refl, sym, ap, subst, ◌∙◌, arith, append_assoc}
use Rattle.std.specs.Prelude.{⊤}
use Rattle.ceal_base.specs.Operators.{same_place}
use Rattle.ceal_base.specs.declared.word.Place.{Place}
use Rattle.ceal_order.proofs.Places.{in_head, place_below, place_head}
use Rattle.ceal_order.specs.Stamps.{Distinct, is_in, place}
use Rattle.ceal_trace.specs.Nodes.{Entry, stamps_in}
use Rattle.ceal_trace.specs.declared.node.Node.{Node}
use Rattle.ceal_trace.specs.declared.node.Node.TheVariants.{Root, Alloc, Write, Read, End}
use Rattle.ceal_mods.specs.Cell.{Sees}
use Rattle.ceal_mods.specs.Writes.{Write as WriteOf, stamps_of}
use Rattle.ceal_mods.specs.declared.cell.Cell.{Cell}
use Rattle.ceal_repair.proofs.QueueCover.Chain.{FirstQueued, FirstQueuedBy, FirstQueuedIf}
use Rattle.ceal_repair.proofs.Lists.PartedLists.{place-front, place-back, writes-among, where-among}
use Rattle.ceal_repair.proofs.Lists.ListChanges.{back-apart, in-back}
use Rattle.ceal_repair.specs.Covered.{Queue}
use Rattle.ceal_repair.specs.Lists.{write_of, writes_in, reads_at, stamps_where}

-- the order parts at the stamp after which things change: those up to it, those between with nothing of the place, and
-- the rest
module _ (front : List ℕ) (p : Place) (cell : Cell) (after : ℕ) (q' : Queue) where
  -- a queued read of the place that is after the stamp, and no other such one before it
  abbrev pub IsWoken : List ℕ → Type 0
  IsWoken order = (r : ℕ) → Sees order cell after r → ((other : ℕ) → Sees order cell after other → place r order ≤ place other order) → q' r ≡ true

  first-read : (mid : List ℕ) (e : Entry) (es : List Entry)
      → Distinct (front ++ (mid ++ stamps_in (e ∷ es)))
      → ((t : ℕ) → is_in t front ≡ true → place t (front ++ (mid ++ stamps_in (e ∷ es))) ≤ place after (front ++ (mid ++ stamps_in (e ∷ es))))
      → is_in after front ≡ true
      → ((t : ℕ) → is_in t (stamps_of cell.writes) ≡ true → (is_in t front ≡ false) → is_in t (stamps_in (e ∷ es)) ≡ true)
      → ((t : ℕ) → is_in t cell.reads ≡ true → (is_in t front ≡ false) → is_in t (stamps_in (e ∷ es)) ≡ true)
      → is_in e.stamp cell.reads ≡ true
      → IsWoken (front ++ (mid ++ stamps_in (e ∷ es))) → q' e.stamp ≡ true
  first-read mid e es distinct up_to here writes reads there woken =
      woken e.stamp (record {
        there = there;
        behind = own-behind;
        clear = λ w i b. far w (writes w i (not-in-front w b));
      }) (λ other s. far other (reads other s.there (not-in-front other s.behind)))
    where
      apart : (t : ℕ) → is_in t (mid ++ stamps_in (e ∷ es)) ≡ true → is_in t front ≡ false
      apart t h = back-apart front (mid ++ stamps_in (e ∷ es)) distinct t h

      own-in : is_in e.stamp (mid ++ stamps_in (e ∷ es)) ≡ true
      own-in = in-back mid (stamps_in (e ∷ es)) e.stamp (in_head e.stamp (stamps_in es))

      own-behind : place after (front ++ (mid ++ stamps_in (e ∷ es))) < place e.stamp (front ++ (mid ++ stamps_in (e ∷ es)))
      own-behind = omega (arith, place-front after front (mid ++ stamps_in (e ∷ es)) here, place_below after front here, place-back e.stamp front (mid ++ stamps_in (e ∷ es)) (apart e.stamp own-in))

      not-in-front : (t : ℕ) → place after (front ++ (mid ++ stamps_in (e ∷ es))) < place t (front ++ (mid ++ stamps_in (e ∷ es))) → is_in t front ≡ false
      not-in-front t h = go (is_in t front) refl
        where
          go : (b : Bool) → is_in t front ≡ b → b ≡ false
          go false k = refl
          go true k = absurd (omega (arith, h, up_to t k))

      -- a stamp of the rest is not before its first one
      far : (t : ℕ) → is_in t (stamps_in (e ∷ es)) ≡ true → place e.stamp (front ++ (mid ++ stamps_in (e ∷ es))) ≤ place t (front ++ (mid ++ stamps_in (e ∷ es)))
      far t h = omega (
        arith,
        place-back t front (mid ++ stamps_in (e ∷ es)) (apart t (in-back mid (stamps_in (e ∷ es)) t h)),
        place-back e.stamp front (mid ++ stamps_in (e ∷ es)) (apart e.stamp own-in),
        place-back t mid (stamps_in (e ∷ es)) (rest-apart t h),
        place-back e.stamp mid (stamps_in (e ∷ es)) (rest-apart e.stamp (in_head e.stamp (stamps_in es))),
        first-place,
      )
        where
          tail-distinct : (xs ys : List ℕ) → Distinct (xs ++ ys) → Distinct ys
          tail-distinct [] ys h = h
          tail-distinct (x ∷ xs) ys h = tail-distinct xs ys h.1

          rest-apart : (t : ℕ) → is_in t (stamps_in (e ∷ es)) ≡ true → is_in t mid ≡ false
          rest-apart t h = back-apart mid (stamps_in (e ∷ es)) (tail-distinct front (mid ++ stamps_in (e ∷ es)) distinct) t h

          first-place : place e.stamp (stamps_in (e ∷ es)) ≡ 0
          first-place = place_head e.stamp (stamps_in es)

  -- what is known of the nodes after
  pub record Behind (order mid : List ℕ) (rest : List Entry) : Type 0 where
    pub parts : order ≡ front ++ (mid ++ stamps_in rest)
    pub writes : (t : ℕ) → is_in t (stamps_of cell.writes) ≡ true → is_in t front ≡ false → is_in t (stamps_of (writes_in p rest)) ≡ true
    pub reads : (t : ℕ) → is_in t cell.reads ≡ true → is_in t front ≡ false → is_in t (stamps_where (reads_at p) rest) ≡ true
    pub there : (t : ℕ) → is_in t (stamps_where (reads_at p) rest) ≡ true → is_in t cell.reads ≡ true

  module _ (order : List ℕ) (distinct : Distinct order) (up_to : (t : ℕ) → is_in t front ≡ true → place t order ≤ place after order) (here : is_in after front ≡ true) (woken : IsWoken order) where
    one-more : (mid : List ℕ) (e : Entry) (es : List Entry) → order ≡ front ++ (mid ++ stamps_in (e ∷ es)) → order ≡ front ++ ((mid ++ e.stamp ∷ []) ++ stamps_in es)
    one-more mid e es h = h ∙ ap (λ (l : List ℕ). front ++ l) (sym (append_assoc mid (e.stamp ∷ []) (stamps_in es)))

    read-here : (mid : List ℕ) (e : Entry) (es : List Entry) → Behind order mid (e ∷ es) → is_in e.stamp cell.reads ≡ true → q' e.stamp ≡ true
    read-here mid e es b there =
        first-read mid e es
        (subst (λ (l : List ℕ). Distinct l) b.parts distinct)
        (subst (λ (l : List ℕ). (t : ℕ) → is_in t front ≡ true → place t l ≤ place after l) b.parts up_to)
        here
        (λ t i k. writes-among p (e ∷ es) t (b.writes t i k))
        (λ t i k. where-among (reads_at p) (e ∷ es) t (b.reads t i k))
        there
        (subst (λ (l : List ℕ). IsWoken l) b.parts woken)

    first-node : (mid : List ℕ) (e : Entry) (es : List Entry) → Behind order mid (e ∷ es) → ((mid : List ℕ) → Behind order mid es → FirstQueued q' p es) → FirstQueued q' p (e ∷ es)
    first-node mid e es b on = go e.node refl
      where
        skip : ((l : List WriteOf) → write_of p e.stamp e.node l ≡ l) → reads_at p e.node ≡ false → FirstQueued q' p es
        skip w r = on (mid ++ e.stamp ∷ []) (record {
          parts = one-more mid e es b.parts;
          writes = λ t i k. subst (λ (l : List WriteOf). is_in t (stamps_of l) ≡ true) (w (writes_in p es)) (b.writes t i k);
          reads = λ t i k. subst (λ (l : List ℕ). is_in t l ≡ true) same (b.reads t i k);
          there = λ t i. b.there t (subst (λ (l : List ℕ). is_in t l ≡ true) (sym same) i);
        })
          where
            same : stamps_where (reads_at p) (e ∷ es) ≡ stamps_where (reads_at p) es
            same = rw r refl

        go : (i : Node) → e.node ≡ i → FirstQueuedBy q' p e.stamp i (FirstQueued q' p es)
        go Root k = skip (λ l. rw k refl) (rw k refl)
        go (Alloc block key) k = skip (λ l. rw k refl) (rw k refl)
        go (End read) k = skip (λ l. rw k refl) (rw k refl)
        go (Write q v) k = by (same_place q p) refl
          where
            by : (t : Bool) → same_place q p ≡ t → FirstQueuedIf t ⊤ (FirstQueued q' p es)
            by true s = tt
            by false s = skip (λ l. rw (k, s) refl) (rw k refl)
        go (Read q v u x args) k = by (same_place q p) refl
          where
            by : (t : Bool) → same_place q p ≡ t → FirstQueuedIf t (q' e.stamp ≡ true) (FirstQueued q' p es)
            by true s = read-here mid e es b (b.there e.stamp (rw (k, s) (in_head e.stamp (stamps_where (reads_at p) es))))
            by false s = skip (λ l. rw k refl) (rw (k, s) refl)

    pub first-woken : (mid : List ℕ) (rest : List Entry) → Behind order mid rest → FirstQueued q' p rest
    first-woken mid [] b = tt
    first-woken mid (e ∷ es) b = first-node mid e es b (λ mid' b'. first-woken mid' es b')
