-- What a look-up between two nodes answers.
use Rattle.std.proofs.Common.{◌≡◌, ◌<◌, ◌≤◌, ◌+◌, ℕ, Bool, inl, inr, true, false, ◌==◌, List, [], ◌∷◌, ◌++◌, length, refl, sym, ap, subst, ◌∙◌, arith, append_assoc, Option, Some, None, IfSome, IfNone}
use Rattle.std.specs.Prelude.{option_map}
use Rattle.ceal_order.specs.declared.stamp.Stamp.{Stamp}
use Rattle.std.proofs.lemmas.Bool.{eq-eqb}
use Rattle.std.proofs.lemmas.Bool.Decides.{eqb_tells}
use Rattle.ceal_base.specs.declared.forest.Key.{Key}
use Rattle.ceal_memo.specs.Keys.{EntryKey, OfRead, OfAlloc, ReadKey}
use Rattle.ceal_memo.specs.Memo.{IsFirstWith, NoneWith}
use Rattle.ceal_order.proofs.Places.{in_head, place_below, place_tells, place_head, place_tail}
use Rattle.ceal_order.specs.Rising.{IsFirstAfter}
use Rattle.ceal_order.specs.Stamps.{Distinct, is_in, place, head_of}
use Rattle.ceal_repair.proofs.QueueCover.NodeChanges.{before-node, behind-node}
use Rattle.ceal_repair.proofs.Lists.PartedLists.{place-front, place-back, where-append, where-among, where-holds}
use Rattle.ceal_repair.proofs.Lists.ListChanges.{back-apart, in-back, in-front, in-parts}
use Rattle.ceal_repair.proofs.Lists.ListsOfNodes.{read-key-same, read-key-refl, key-refl}
use Rattle.ceal_repair.specs.Lists.{key_of, entries_in, allocates, recalls, stamps_where, before, nodes_after, between}
use Rattle.ceal_theory.proofs.Reuse.TakenItems.{key-same}
use Rattle.ceal_trace.proofs.Parts.{stamps-append, split_at}
use Rattle.ceal_trace.specs.Nodes.{Entry, stamps_in, has_node, node_at, position}
use Rattle.ceal_trace.specs.declared.node.Node.{Node}
use Rattle.ceal_trace.specs.declared.node.Node.TheVariants.{Root, Alloc, Write, Read, End}

-- none of these is between two stamps
abbrev NoneBetween : List ℕ → List ℕ → ℕ → ℕ → Type 0
NoneBetween order stamps after until = (s : ℕ) → is_in s stamps ≡ true → place after order < place s order → place until order ≤ place s order

-- the first of a list is before the others of it
where-first : (f : Node → Bool) (es : List Entry) (x : ℕ) (xs : List ℕ) → Distinct (stamps_in es) → stamps_where f es ≡ x ∷ xs
    → (t : ℕ) → is_in t (stamps_where f es) ≡ true → place x (stamps_in es) ≤ place t (stamps_in es)
where-first f [] x xs d h t i = absurd (let no : false ≡ true = i in cc)
where-first f (e ∷ es) x xs d h t i = go (f e.node) refl (where-first f es x xs d.1)
  where
    first : (s : ℕ) (l : List ℕ) → s ∷ l ≡ x ∷ xs → s ≡ x
    first s l k = some (ap head_of k)
      where
        some : Some s ≡ Some x → s ≡ x
        some k = grind (arith, k)

    go : (b : Bool) → f e.node ≡ b → (stamps_where f es ≡ x ∷ xs → (t : ℕ) → is_in t (stamps_where f es) ≡ true → place x (stamps_in es) ≤ place t (stamps_in es))
        → place x (e.stamp ∷ stamps_in es) ≤ place t (e.stamp ∷ stamps_in es)
    go true k on =
        let same : e.stamp ≡ x = first e.stamp (stamps_where f es) (rw k at h) in
        rw (← same, eq-eqb e.stamp e.stamp refl) (omega arith)
    go false k on =
        let h' : stamps_where f es ≡ x ∷ xs = rw k at h in
        let i' : is_in t (stamps_where f es) ≡ true = rw k at i in
        let own : is_in x (stamps_where f es) ≡ true = rw h' (in_head x xs) in
        let a = place_tail x e.stamp (stamps_in es) d.0 (where-among f es x own) in
        let b = place_tail t e.stamp (stamps_in es) d.0 (where-among f es t i') in
        let c = on h' t i' in
        omega (arith, a, b, c)

tail-distinct : (xs ys : List ℕ) → Distinct (xs ++ ys) → Distinct ys
tail-distinct [] ys h = h
tail-distinct (x ∷ xs) ys h = tail-distinct xs ys h.1

front-distinct : (xs ys : List ℕ) → Distinct (xs ++ ys) → Distinct xs
front-distinct [] ys h = tt
front-distinct (x ∷ xs) ys h = (none x xs h.0, front-distinct xs ys h.1)
  where
    none : (x : ℕ) (xs : List ℕ) → Rattle.ceal_order.specs.Stamps.NotIn x (xs ++ ys) → Rattle.ceal_order.specs.Stamps.NotIn x xs
    none x [] h = tt
    none x (y ∷ xs) h = (h.0, none x xs h.1)

-- the nodes up to one, those between, and those from another one on
module _ (f : Node → Bool) (front mid : List Entry) (u : Entry) (later : List Entry) (after : ℕ) (nodes : List Entry) (was : nodes ≡ front ++ (mid ++ u ∷ later))
    (distinct : Distinct (stamps_in nodes)) (here : is_in after (stamps_in front) ≡ true) (last : place after (stamps_in front) + 1 ≡ length (stamps_in front)) where
  order-is : stamps_in nodes ≡ stamps_in front ++ (stamps_in mid ++ stamps_in (u ∷ later))
  order-is = ap stamps_in was ∙ (stamps-append front (mid ++ u ∷ later) ∙ ap (λ (l : List ℕ). stamps_in front ++ l) (stamps-append mid (u ∷ later)))

  parts : Distinct (stamps_in front ++ (stamps_in mid ++ stamps_in (u ∷ later)))
  parts = subst (λ (l : List ℕ). Distinct l) order-is distinct

  rest : Distinct (stamps_in mid ++ stamps_in (u ∷ later))
  rest = tail-distinct (stamps_in front) (stamps_in mid ++ stamps_in (u ∷ later)) parts

  at-after : place after (stamps_in nodes) + 1 ≡ length (stamps_in front)
  at-after = rw order-is (let a = place-front after (stamps_in front) (stamps_in mid ++ stamps_in (u ∷ later)) here in omega (arith, a, last))

  at-mid : (t : ℕ) → is_in t (stamps_in mid) ≡ true → place t (stamps_in nodes) ≡ length (stamps_in front) + place t (stamps_in mid)
  at-mid t i = rw order-is
      (let a = place-back t (stamps_in front) (stamps_in mid ++ stamps_in (u ∷ later))
      (back-apart (stamps_in front) (stamps_in mid ++ stamps_in (u ∷ later)) parts t (in-front (stamps_in mid) (stamps_in (u ∷ later)) t i)) in
      let b = place-front t (stamps_in mid) (stamps_in (u ∷ later)) i in omega (arith, a, b))

  at-later : (t : ℕ) → is_in t (stamps_in (u ∷ later)) ≡ true → place t (stamps_in nodes) ≡ length (stamps_in front) + (length (stamps_in mid) + place t (stamps_in (u ∷ later)))
  at-later t i = rw order-is
      (let a = place-back t (stamps_in front) (stamps_in mid ++ stamps_in (u ∷ later))
      (back-apart (stamps_in front) (stamps_in mid ++ stamps_in (u ∷ later)) parts t (in-back (stamps_in mid) (stamps_in (u ∷ later)) t i)) in
      let b = place-back t (stamps_in mid) (stamps_in (u ∷ later)) (back-apart (stamps_in mid) (stamps_in (u ∷ later)) rest t i) in omega (arith, a, b))

  at-until : place u.stamp (stamps_in nodes) ≡ length (stamps_in front) + length (stamps_in mid)
  at-until = let a = at-later u.stamp (in_head u.stamp (stamps_in later)) in let b = place_head u.stamp (stamps_in later) in omega (arith, a, b)

  list-is : stamps_where f nodes ≡ stamps_where f front ++ (stamps_where f mid ++ stamps_where f (u ∷ later))
  list-is = ap (stamps_where f) was ∙ (where-append f front (mid ++ u ∷ later) ∙ ap (λ (l : List ℕ). stamps_where f front ++ l) (where-append f mid (u ∷ later)))

  -- what is between the two is one of those between
  one-between : (t : ℕ) → is_in t (stamps_where f nodes) ≡ true → place after (stamps_in nodes) < place t (stamps_in nodes) → place t (stamps_in nodes) < place u.stamp (stamps_in nodes)
      → is_in t (stamps_where f mid) ≡ true
  one-between t i lo hi = middle (is_in t (stamps_where f mid)) refl
      (in-parts (stamps_where f front) (stamps_where f mid ++ stamps_where f (u ∷ later)) t (subst (λ (l : List ℕ). is_in t l ≡ true) list-is i) not-front-one)
    where
      not-front-one : is_in t (stamps_where f front) ≡ false
      not-front-one = none (is_in t (stamps_where f front)) refl
        where
          none : (b : Bool) → is_in t (stamps_where f front) ≡ b → b ≡ false
          none false k = refl
          none true k =
              let j = where-among f front t k in
              let a : place t (stamps_in nodes) ≡ place t (stamps_in front) = rw order-is (place-front t (stamps_in front) (stamps_in mid ++ stamps_in (u ∷ later)) j) in
              absurd (omega (arith, a, place_below t (stamps_in front) j, lo, at-after))

      middle : (b : Bool) → is_in t (stamps_where f mid) ≡ b → is_in t (stamps_where f mid ++ stamps_where f (u ∷ later)) ≡ true → b ≡ true
      middle true k j = refl
      middle false k j =
          let l = where-among f (u ∷ later) t (in-parts (stamps_where f mid) (stamps_where f (u ∷ later)) t j k) in
          absurd (omega (arith, at-later t l, hi, at-until))

  in-list : (t : ℕ) → is_in t (stamps_where f mid) ≡ true → is_in t (stamps_where f nodes) ≡ true
  in-list t i = rw list-is (in-back (stamps_where f front) (stamps_where f mid ++ stamps_where f (u ∷ later)) t (in-front (stamps_where f mid) (stamps_where f (u ∷ later)) t i))

  in-nodes : (t : ℕ) → is_in t (stamps_where f mid) ≡ true → (place after (stamps_in nodes) < place t (stamps_in nodes)) × (place t (stamps_in nodes) < place u.stamp (stamps_in nodes))
  in-nodes t i =
      let j = where-among f mid t i in
      (omega (arith, at-mid t j, at-after), omega (arith, at-mid t j, at-until, place_below t (stamps_in mid) j))

  found-mid : (s : ℕ) → IsFirstAfter (stamps_in nodes) (stamps_where f nodes) after s → place s (stamps_in nodes) < place u.stamp (stamps_in nodes) → head_of (stamps_where f mid) ≡ Some s
  found-mid s first hi = go (stamps_where f mid) refl (one-between s first.there first.behind hi)
    where
      go : (l : List ℕ) → stamps_where f mid ≡ l → is_in s (stamps_where f mid) ≡ true → head_of l ≡ Some s
      go [] k i = absurd (let no : false ≡ true = rw k at i in cc)
      go (x ∷ xs) k i =
          let own : is_in x (stamps_where f mid) ≡ true = rw k (in_head x xs) in
          let a = first.nearest x (in-list x own) (in-nodes x own).0 in
          let b = where-first f mid x xs (front-distinct (stamps_in mid) (stamps_in (u ∷ later)) rest) k s i in
          let same : x ≡ s = place_tells x s (stamps_in nodes) (where-among f nodes x (in-list x own)) (where-among f nodes s first.there)
          (omega (arith, a, b, at-mid x (where-among f mid x own), at-mid s (where-among f mid s i))) in
          ap (λ (z : ℕ). Some z) same

  none-mid : NoneBetween (stamps_in nodes) (stamps_where f nodes) after u.stamp → head_of (stamps_where f mid) ≡ None
  none-mid none = go (stamps_where f mid) refl
    where
      go : (l : List ℕ) → stamps_where f mid ≡ l → head_of l ≡ None
      go [] k = refl
      go (x ∷ xs) k =
          let own : is_in x (stamps_where f mid) ≡ true = rw k (in_head x xs) in
          let p = in-nodes x own in
          absurd (omega (arith, p.1, none x (in-list x own) p.0))

-- the nodes part at two of them
pub record PartedTwice (after until : ℕ) (nodes : List Entry) : Type 0 where
  pub front : List Entry
  pub mid : List Entry
  pub u : Entry
  pub later : List Entry
  pub was : nodes ≡ front ++ (mid ++ u ∷ later)
  pub here : is_in after (stamps_in front) ≡ true
  pub last : place after (stamps_in front) + 1 ≡ length (stamps_in front)
  pub stamp : u.stamp ≡ until
  pub mid_is : between after until nodes ≡ mid

parted-twice : (after until : ℕ) (nodes : List Entry) → Distinct (stamps_in nodes) → has_node after nodes ≡ true → has_node until nodes ≡ true → position after nodes < position until nodes
    → PartedTwice after until nodes
parted-twice after until nodes distinct h k lt = go (split_at after nodes h)
  where
    go : (front : List Entry) × (e : Entry) × (back : List Entry) × (nodes ≡ front ++ e ∷ back) × (e.stamp ≡ after) × (has_node after front ≡ false) → PartedTwice after until nodes
    go s = more (split_at until s.2 until-behind)
      where
        front-stamps : stamps_in (s.0 ++ s.1 ∷ []) ≡ stamps_in s.0 ++ after ∷ []
        front-stamps = stamps-append s.0 (s.1 ∷ []) ∙ ap (λ z. stamps_in s.0 ++ z ∷ []) s.4

        whole : nodes ≡ (s.0 ++ s.1 ∷ []) ++ s.2
        whole = s.3 ∙ sym (append_assoc s.0 (s.1 ∷ []) s.2)

        length-one : (xs : List ℕ) (y : ℕ) → length (xs ++ y ∷ []) ≡ length xs + 1
        length-one [] y = omega arith
        length-one (x ∷ xs) y = omega (arith, length-one xs y)

        last-one : place after (stamps_in (s.0 ++ s.1 ∷ [])) + 1 ≡ length (stamps_in (s.0 ++ s.1 ∷ []))
        last-one = rw front-stamps (let a = place-back after (stamps_in s.0) (after ∷ []) s.5 in let b = place_head after [] in omega (arith, a, b, length-one (stamps_in s.0) after))

        own : is_in after (stamps_in (s.0 ++ s.1 ∷ [])) ≡ true
        own = rw front-stamps (in-back (stamps_in s.0) (after ∷ []) after (in_head after []))

        order-two : stamps_in nodes ≡ stamps_in (s.0 ++ s.1 ∷ []) ++ stamps_in s.2
        order-two = ap stamps_in whole ∙ stamps-append (s.0 ++ s.1 ∷ []) s.2

        until-behind : has_node until s.2 ≡ true
        until-behind = in-parts (stamps_in (s.0 ++ s.1 ∷ [])) (stamps_in s.2) until (subst (λ (l : List ℕ). is_in until l ≡ true) order-two k) none
          where
            none : is_in until (stamps_in (s.0 ++ s.1 ∷ [])) ≡ false
            none = by (is_in until (stamps_in (s.0 ++ s.1 ∷ []))) refl
              where
                by : (b : Bool) → is_in until (stamps_in (s.0 ++ s.1 ∷ [])) ≡ b → b ≡ false
                by false e = refl
                by true e =
                    let a : place until (stamps_in nodes) ≡ place until (stamps_in (s.0 ++ s.1 ∷ [])) = rw order-two (place-front until (stamps_in (s.0 ++ s.1 ∷ [])) (stamps_in s.2) e) in
                    let b : place after (stamps_in nodes) ≡ place after (stamps_in (s.0 ++ s.1 ∷ [])) = rw order-two (place-front after (stamps_in (s.0 ++ s.1 ∷ [])) (stamps_in s.2) own) in
                    absurd (omega (arith, a, b, lt, last-one, place_below until (stamps_in (s.0 ++ s.1 ∷ [])) e))

        behind-is : nodes_after after nodes ≡ s.2
        behind-is = subst (λ (a : ℕ). nodes_after a nodes ≡ s.2) s.4 (ap (nodes_after s.1.stamp) s.3 ∙ behind-node s.1 s.2 s.0 (rw (← s.4) at s.5))

        more : (mid : List Entry) × (u : Entry) × (later : List Entry) × (s.2 ≡ mid ++ u ∷ later) × (u.stamp ≡ until) × (has_node until mid ≡ false) → PartedTwice after until nodes
        more m = record {
          front = s.0 ++ s.1 ∷ [];
          mid = m.0;
          u = m.1;
          later = m.2;
          was = whole ∙ ap (λ (l : List Entry). (s.0 ++ s.1 ∷ []) ++ l) m.3;
          here = own;
          last = last-one;
          stamp = m.4;
          mid_is = ap (before until) (behind-is ∙ m.3) ∙ subst (λ (z : ℕ). before z (m.0 ++ m.1 ∷ m.2) ≡ m.0) m.4 (before-node m.1 m.2 m.0 (rw (← m.4) at m.5));
        }

module _ (f : Node → Bool) (after until : ℕ) (nodes : List Entry) (distinct : Distinct (stamps_in nodes)) (h : has_node after nodes ≡ true) (k : has_node until nodes ≡ true)
    (lt : position after nodes < position until nodes) where
  -- the first one between that is found
  pub found-between : (s : ℕ) → IsFirstAfter (stamps_in nodes) (stamps_where f nodes) after s → place s (stamps_in nodes) < place until (stamps_in nodes)
      → head_of (stamps_where f (between after until nodes)) ≡ Some s
  found-between s first hi =
      let p = parted-twice after until nodes distinct h k lt in
      rw p.mid_is (found-mid f p.front p.mid p.u p.later after nodes p.was distinct p.here p.last s first (rw p.stamp hi))

  pub none-between : NoneBetween (stamps_in nodes) (stamps_where f nodes) after until → head_of (stamps_where f (between after until nodes)) ≡ None
  none-between none =
      let p = parted-twice after until nodes distinct h k lt in
      rw p.mid_is (none-mid f p.front p.mid p.u p.later after nodes p.was distinct p.here p.last (rw p.stamp none))

  -- so is what is answered
  pub found-as : (o : Option Stamp) → IfSome o (λ s. IsFirstAfter (stamps_in nodes) (stamps_where f nodes) after s.0) → IfSome o (λ s. place s.0 (stamps_in nodes) < place until (stamps_in nodes))
      → IfNone o (NoneBetween (stamps_in nodes) (stamps_where f nodes) after until) → option_map (λ (s : Stamp). s.0) o ≡ head_of (stamps_where f (between after until nodes))
  found-as None a b c = sym (none-between c)
  found-as (Some s) a b c = sym (found-between s.0 a b)

-- ---- nodes with a key

-- a node of which something is true is one of those
where-there : (f : Node → Bool) (es : List Entry) (t : ℕ) (n : Node) → node_at t es ≡ Some n → f n ≡ true → is_in t (stamps_where f es) ≡ true
where-there f [] t n at_it so = absurd (let no : None ≡ Some n = at_it in cc)
where-there f (e ∷ es) t n at_it so = elim (eqb_tells e.stamp t) [
  | inl p ↦ (let same : e.node ≡ n = some-node e.node n (rw p.0 at at_it) in rw (same, so, p.0) refl)
  | inr p ↦ by (f e.node) refl p.0 (where-there f es t n (rw p.0 at at_it) so)
]
  where
    some-node : (a b : Node) → Some a ≡ Some b → a ≡ b
    some-node a b same = cc

    by : (b : Bool) → f e.node ≡ b → (e.stamp == t) ≡ false → is_in t (stamps_where f es) ≡ true → is_in t (stamps_where f (e ∷ es)) ≡ true
    by true p q rest = rw (p, q) rest
    by false p q rest = rw p rest

-- what tells a key
pub record Tells (f : Node → Bool) (key : EntryKey) : Type 0 where
  pub has : (n : Node) → f n ≡ true → key_of (Some n) ≡ Some key
  pub all : (o : Option Node) → key_of o ≡ Some key → (n : Node) × (o ≡ Some n) × (f n ≡ true)

same-key : (a b : EntryKey) → Some a ≡ Some b → a ≡ b
same-key a b same = cc

same-read-key : (a b : ReadKey) → OfRead a ≡ OfRead b → a ≡ b
same-read-key a b same = cc

same-alloc-key : (a b : Key) → OfAlloc a ≡ OfAlloc b → a ≡ b
same-alloc-key a b same = cc

pub read-tells : (key : ReadKey) → Tells (recalls key) (OfRead key)
read-tells key = record { has = has; all = all }
  where
    has : (n : Node) → recalls key n ≡ true → key_of (Some n) ≡ Some (OfRead key)
    has (Read p v u x args) h = ap (λ k. Some (OfRead k)) (read-key-same (record { place = p; unit = u; var = x; args = args }) key h)
    has (Alloc b k) h = absurd (let no : false ≡ true = h in cc)
    has (Write p v) h = absurd (let no : false ≡ true = h in cc)
    has (End r) h = absurd (let no : false ≡ true = h in cc)
    has Root h = absurd (let no : false ≡ true = h in cc)

    all : (o : Option Node) → key_of o ≡ Some (OfRead key) → (n : Node) × (o ≡ Some n) × (recalls key n ≡ true)
    all None h = absurd (let no : None ≡ Some (OfRead key) = h in cc)
    all (Some (Read p v u x args)) h =
        let same = same-read-key (record { place = p; unit = u; var = x; args = args }) key (same-key _ _ h) in
        (Read p v u x args, refl, subst (λ k. recalls k (Read p v u x args) ≡ true) same (read-key-refl (record { place = p; unit = u; var = x; args = args })))
    all (Some (Alloc b k)) h = absurd (let no : OfAlloc k ≡ OfRead key = same-key _ _ h in cc)
    all (Some (Write p v)) h = absurd (let no : None ≡ Some (OfRead key) = h in cc)
    all (Some (End r)) h = absurd (let no : None ≡ Some (OfRead key) = h in cc)
    all (Some Root) h = absurd (let no : None ≡ Some (OfRead key) = h in cc)

pub alloc-tells : (key : Key) → Tells (allocates key) (OfAlloc key)
alloc-tells key = record { has = has; all = all }
  where
    has : (n : Node) → allocates key n ≡ true → key_of (Some n) ≡ Some (OfAlloc key)
    has (Alloc b k) h = ap (λ i. Some (OfAlloc i)) (key-same k key h)
    has (Read p v u x args) h = absurd (let no : false ≡ true = h in cc)
    has (Write p v) h = absurd (let no : false ≡ true = h in cc)
    has (End r) h = absurd (let no : false ≡ true = h in cc)
    has Root h = absurd (let no : false ≡ true = h in cc)

    all : (o : Option Node) → key_of o ≡ Some (OfAlloc key) → (n : Node) × (o ≡ Some n) × (allocates key n ≡ true)
    all None h = absurd (let no : None ≡ Some (OfAlloc key) = h in cc)
    all (Some (Alloc b k)) h =
        let same = same-alloc-key k key (same-key _ _ h) in
        (Alloc b k, refl, subst (λ i. allocates i (Alloc b k) ≡ true) same (key-refl k))
    all (Some (Read p v u x args)) h = absurd (let no : OfRead (record { place = p; unit = u; var = x; args = args }) ≡ OfAlloc key = same-key _ _ h in cc)
    all (Some (Write p v)) h = absurd (let no : None ≡ Some (OfAlloc key) = h in cc)
    all (Some (End r)) h = absurd (let no : None ≡ Some (OfAlloc key) = h in cc)
    all (Some Root) h = absurd (let no : None ≡ Some (OfAlloc key) = h in cc)

module _ (f : Node → Bool) (key : EntryKey) (tells : Tells f key) (nodes : List Entry) (distinct : Distinct (stamps_in nodes)) where
  of-key : (t : ℕ) → is_in t (stamps_where f nodes) ≡ true → entries_in nodes t ≡ Some key
  of-key t there =
      let n = where-holds f nodes t distinct there in
      ap key_of n.1 ∙ tells.has n.0 n.2

  with-key : (t : ℕ) → entries_in nodes t ≡ Some key → is_in t (stamps_where f nodes) ≡ true
  with-key t is =
      let n = tells.all (node_at t nodes) is in
      where-there f nodes t n.0 n.1 n.2

  first-as : (after s : ℕ) → IsFirstWith (stamps_in nodes) (entries_in nodes) key after s → IsFirstAfter (stamps_in nodes) (stamps_where f nodes) after s
  first-as after s first = record {
    there = with-key s first.entry;
    behind = first.behind;
    nearest = λ t there later. first.earliest t (of-key t there) later;
  }

  none-as : (after until : ℕ) → NoneWith (stamps_in nodes) (entries_in nodes) key after until → NoneBetween (stamps_in nodes) (stamps_where f nodes) after until
  none-as after until none t there later = none t (of-key t there) later

  -- what the memo answers
  pub looked-up : (after until : ℕ) → has_node after nodes ≡ true → has_node until nodes ≡ true → position after nodes < position until nodes → (o : Option Stamp)
      → IfSome o (λ s. IsFirstWith (stamps_in nodes) (entries_in nodes) key after s.0) → IfSome o (λ s. place s.0 (stamps_in nodes) < place until (stamps_in nodes))
      → IfNone o (NoneWith (stamps_in nodes) (entries_in nodes) key after until) → option_map (λ (s : Stamp). s.0) o ≡ head_of (stamps_where f (between after until nodes))
  looked-up after until h k lt None a b c = found-as f after until nodes distinct h k lt None tt tt (none-as after until c)
  looked-up after until h k lt (Some s) a b c = found-as f after until nodes distinct h k lt (Some s) (first-as after s.0 a) b tt
