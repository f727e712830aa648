-- The read that is taken of the nodes that are left over: the first one that has the key.
use Rattle.std.proofs.Common.{◌≡◌, ◌⊎◌, ℕ, zero, suc, inl, inr, Bool, true, false, ◌==◌, ◌&&◌, Option, Some, None, List, [], ◌∷◌, ◌++◌, refl, sym, ap, subst, ◌∙◌}
use Rattle.std.proofs.lemmas.Bool.Decides.{eqb_tells}
use Rattle.std.proofs.lemmas.Bool.{cases_Bool, eq-eqb}
use Rattle.ceal_base.specs.declared.forest.UnitId.{UnitId}
use Rattle.ceal_base.specs.declared.word.Place.{Place}
use Rattle.ceal_base.specs.declared.word.Word.{Word}
use Rattle.ceal_code.proofs.Words.SameIsEqual.{both, nat-same, place-same}
use Rattle.ceal_memo.specs.declared.key.ReadKey.{ReadKey}
use Rattle.ceal_order.specs.Stamps.{NotIn, Distinct, is_in, head_of}
use Rattle.ceal_order.specs.declared.stamp.Stamp.{Stamp}
use Rattle.ceal_repair.proofs.Nodes.NodeItems.{knots-entries, entries-joined}
use Rattle.ceal_repair.specs.Entries.{CutTo, entries, end_entry, knots_of, first_stamp, starts}
use Rattle.ceal_repair.proofs.Lists.PartedLists.{where-append}
use Rattle.ceal_repair.specs.AsItems.{item_in}
use Rattle.ceal_repair.specs.Lists.{recalls, stamps_where}
use Rattle.ceal_base.specs.Operators.{same_place}
use Rattle.ceal_theory.proofs.Reuse.TakenAfterRevocation.{taking-law}
use Rattle.ceal_theory.proofs.Reuse.TakenItems.{words-same, unit-same}
use Rattle.ceal_theory.specs.Groves.{Grove, Bare, Made, Put, Got, Takings, LacksRead, LacksReadItem, bare, bare_read, cut, first_reads, stepped, trace_in}
use Rattle.ceal_theory.specs.Levels.{same_read}
use Rattle.ceal_theory.specs.Take.{TakenRead, same_words, take_read}
use Rattle.ceal_trace.proofs.Parts.{stamps-append}
use Rattle.ceal_trace.specs.Nodes.{Entry, stamps_in}
use Rattle.ceal_trace.specs.declared.node.Node.{Node}
use Rattle.ceal_trace.specs.declared.node.Node.TheVariants.{Root, Alloc, Write, Read, End}

-- ---- stamps of nodes of which something is true

not-where : (holds : Node → Bool) (s : ℕ) (es : List Entry) → NotIn s (stamps_in es) → NotIn s (stamps_where holds es)
not-where holds s [] n = tt
not-where holds s (e ∷ es) n = elim (cases_Bool (holds e.node)) [
  | inl h ↦ rw h (n.0, not-where holds s es n.1)
  | inr h ↦ rw h (not-where holds s es n.1)
]

not-head : (s : ℕ) (xs : List ℕ) → NotIn s xs → head_of xs ≡ Some s → ⊥
not-head s [] n e = cc
not-head s (x ∷ xs) n e = let same : x ≡ s = cc in n.0 (sym same)

not-without : (s y : ℕ) (xs ys : List ℕ) → NotIn s (xs ++ y ∷ ys) → NotIn s (xs ++ ys)
not-without s y [] ys n = n.1
not-without s y (x ∷ xs) ys n = (n.0, not-without s y xs ys n.1)

distinct-without : (y : ℕ) (xs ys : List ℕ) → Distinct (xs ++ y ∷ ys) → Distinct (xs ++ ys)
distinct-without y [] ys d = d.1
distinct-without y (x ∷ xs) ys d = (not-without x y xs ys d.0, distinct-without y xs ys d.1)

-- ---- the first node of a grove

-- whether the first node is such a one
abbrev pub holds_first : (Node → Bool) → Grove → Bool
holds_first holds Bare = false
holds_first holds (Made s b k n rest) = holds (Alloc b k)
holds_first holds (Put s p v n rest) = holds (Write p v)
holds_first holds (Got s p v u x args n inside e m rest) = holds (Read p v u x args)

module _ (holds : Node → Bool) where
  -- it holds of the first node, where that has the first of the stamps
  pub first-holds : (g : Grove) (s : ℕ) → Distinct (stamps_in (entries g)) → head_of (stamps_where holds (entries g)) ≡ Some s → first_stamp g ≡ Some s → holds_first holds g ≡ true
  first-holds Bare s d e f = absurd cc
  first-holds (Made t b k n rest) s d e f = elim (cases_Bool (holds (Alloc b k))) [
    | inl h ↦ h
    | inr h ↦ let same : t ≡ s = cc in absurd (not-head s (stamps_where holds (entries rest)) (not-where holds s (entries rest) (subst (λ r. NotIn r (stamps_in (entries rest))) same d.0)) (rw h at e))
  ]
  first-holds (Put t p v n rest) s d e f = elim (cases_Bool (holds (Write p v))) [
    | inl h ↦ h
    | inr h ↦ let same : t ≡ s = cc in absurd (not-head s (stamps_where holds (entries rest)) (not-where holds s (entries rest) (subst (λ r. NotIn r (stamps_in (entries rest))) same d.0)) (rw h at e))
  ]
  first-holds (Got t p v u x args n inside c m rest) s d e f = elim (cases_Bool (holds (Read p v u x args))) [
    | inl h ↦ h
    | inr h ↦
        let same : t ≡ s = cc in
        let es = entries inside ++ end_entry c t m ∷ entries rest in
        absurd (not-head s (stamps_where holds es) (not-where holds s es (subst (λ r. NotIn r (stamps_in es)) same d.0)) (rw h at e))
  ]

  -- it does not, where another one has it
  pub first-not : (g : Grove) (s : ℕ) → head_of (stamps_where holds (entries g)) ≡ Some s → ¬ (first_stamp g ≡ Some s) → holds_first holds g ≡ false
  first-not Bare s e other = refl
  first-not (Made t b k n rest) s e other = elim (cases_Bool (holds (Alloc b k))) [ inl h ↦ absurd (other (rw h at e)) | inr h ↦ h ]
  first-not (Put t p v n rest) s e other = elim (cases_Bool (holds (Write p v))) [ inl h ↦ absurd (other (rw h at e)) | inr h ↦ h ]
  first-not (Got t p v u x args n inside c m rest) s e other = elim (cases_Bool (holds (Read p v u x args))) [ inl h ↦ absurd (other (rw h at e)) | inr h ↦ h ]

  module _ (no_end : (r : Stamp) → holds (End r) ≡ false) where
    -- then the others are those of what is left without it
    pub where-cut : (g : Grove) → holds_first holds g ≡ false → stamps_where holds (entries (cut g)) ≡ stamps_where holds (entries g)
    where-cut Bare h = refl
    where-cut (Made t b k n rest) h = rw h refl
    where-cut (Put t p v n rest) h = rw h refl
    where-cut (Got t p v u x args n inside c m rest) h =
        ap (stamps_where holds) (entries-joined inside rest) ∙ (where-append holds (entries inside) (entries rest)
        ∙ (rw (h, where-append holds (entries inside) (end_entry c t m ∷ entries rest), no_end (record { 0 = t })) refl))

pub distinct-cut : (g : Grove) → Distinct (stamps_in (entries g)) → Distinct (stamps_in (entries (cut g)))
distinct-cut Bare d = tt
distinct-cut (Made t b k n rest) d = d.1
distinct-cut (Put t p v n rest) d = d.1
distinct-cut (Got t p v u x args n inside c m rest) d =
    subst Distinct (sym (ap stamps_in (entries-joined inside rest) ∙ stamps-append (entries inside) (entries rest)))
    (distinct-without c (stamps_in (entries inside)) (stamps_in (entries rest)) (subst Distinct (stamps-append (entries inside) (end_entry c t m ∷ entries rest)) d.1))

in-either : (s : ℕ) (xs ys : List ℕ) → is_in s (xs ++ ys) ≡ true → (is_in s xs ≡ true) ⊎ (is_in s ys ≡ true)
in-either s [] ys i = inr i
in-either s (x ∷ xs) ys i = elim (eqb_tells x s) [
  | inl p ↦ inl (rw p.0 refl)
  | inr p ↦ rw p.0 (in-either s xs ys (rw p.0 at i))
]

in-left : (s : ℕ) (xs ys : List ℕ) → is_in s xs ≡ true → is_in s (xs ++ ys) ≡ true
in-left s [] ys i = absurd cc
in-left s (x ∷ xs) ys i = elim (eqb_tells x s) [
  | inl p ↦ rw p.0 refl
  | inr p ↦ rw p.0 (in-left s xs ys (rw p.0 at i))
]

in-right : (s : ℕ) (xs ys : List ℕ) → is_in s ys ≡ true → is_in s (xs ++ ys) ≡ true
in-right s [] ys i = i
in-right s (x ∷ xs) ys i = elim (eqb_tells x s) [
  | inl p ↦ rw p.0 refl
  | inr p ↦ rw p.0 (in-right s xs ys i)
]

in-later : (s x : ℕ) (xs : List ℕ) → is_in s xs ≡ true → is_in s (x ∷ xs) ≡ true
in-later s x xs i = elim (eqb_tells x s) [ inl p ↦ rw p.0 refl | inr p ↦ rw p.0 i ]

in-first : (s x : ℕ) (xs ys : List ℕ) → is_in s (x ∷ xs) ≡ true → (is_in s xs ≡ true → is_in s ys ≡ true) → is_in s (x ∷ ys) ≡ true
in-first s x xs ys i more = elim (eqb_tells x s) [ inl p ↦ rw p.0 refl | inr p ↦ rw p.0 (more (rw p.0 at i)) ]

head-is-in : (s : ℕ) (xs : List ℕ) → head_of xs ≡ Some s → is_in s xs ≡ true
head-is-in s [] e = absurd cc
head-is-in s (x ∷ xs) e = let same : x ≡ s = cc in rw (eq-eqb x s same) refl

module _ (holds : Node → Bool) (no_end : (r : Stamp) → holds (End r) ≡ false) where
  in-both : (s t c m : ℕ) (inside rest : Grove) → (is_in s (stamps_where holds (entries inside)) ≡ true → is_in s (starts inside) ≡ true)
      → (is_in s (stamps_where holds (entries rest)) ≡ true → is_in s (starts rest) ≡ true)
      → is_in s (stamps_where holds (entries inside ++ end_entry c t m ∷ entries rest)) ≡ true → is_in s (starts inside ++ starts rest) ≡ true
  in-both s t c m inside rest one two i =
      elim (in-either s (stamps_where holds (entries inside)) (stamps_where holds (entries rest))
      (rw (where-append holds (entries inside) (end_entry c t m ∷ entries rest), no_end (record { 0 = t })) at i)) [
        | inl k ↦ in-left s (starts inside) (starts rest) (one k)
        | inr k ↦ in-right s (starts inside) (starts rest) (two k)
      ]

  -- a node of which it is true is no end
  in-starts : (s : ℕ) (g : Grove) → is_in s (stamps_where holds (entries g)) ≡ true → is_in s (starts g) ≡ true
  in-starts s Bare i = i
  in-starts s (Made t b k n rest) i = elim (cases_Bool (holds (Alloc b k))) [
    | inl h ↦ in-first s t (stamps_where holds (entries rest)) (starts rest) (rw h at i) (in-starts s rest)
    | inr h ↦ in-later s t (starts rest) (in-starts s rest (rw h at i))
  ]
  in-starts s (Put t p v n rest) i = elim (cases_Bool (holds (Write p v))) [
    | inl h ↦ in-first s t (stamps_where holds (entries rest)) (starts rest) (rw h at i) (in-starts s rest)
    | inr h ↦ in-later s t (starts rest) (in-starts s rest (rw h at i))
  ]
  in-starts s (Got t p v u x args n inside c m rest) i = elim (cases_Bool (holds (Read p v u x args))) [
    | inl h ↦
        in-first s t (stamps_where holds (entries inside ++ end_entry c t m ∷ entries rest)) (starts inside ++ starts rest) (rw h at i)
        (in-both s t c m inside rest (in-starts s inside) (in-starts s rest))
    | inr h ↦ in-later s t (starts inside ++ starts rest) (in-both s t c m inside rest (in-starts s inside) (in-starts s rest) (rw h at i))
  ]

  pub first-starts : (s : ℕ) (g : Grove) → head_of (stamps_where holds (entries g)) ≡ Some s → is_in s (starts g) ≡ true
  first-starts s g e = in-starts s g (head-is-in s (stamps_where holds (entries g)) e)

-- ---- reads

bare-stepped : (n : ℕ) (g : Grove) → bare (stepped n (trace_in g)) ≡ bare (trace_in g)
bare-stepped zero g = refl
bare-stepped (suc n) g = bare-stepped n g

pub data TakesRead (key : ReadKey) (g : Grove) (s : ℕ) : Grove → Type 0 where
  takes : (q : Place) (v : Word) (w : UnitId) (y : ℕ) (words : List Word) (n : ℕ) (inside : Grove) (e m : ℕ) (rest : Grove) (t : TakenRead)
      → same_read q w y words key.place key.unit key.var key.args ≡ true
      → take_read key.place key.unit key.var key.args (trace_in g) ≡ Some t → t.value ≡ v → t.inside ≡ stepped n (trace_in inside) → bare t.leftover ≡ bare (trace_in rest)
      → TakesRead key g s (Got s q v w y words n inside e m rest)

read-same : (a b : Option TakenRead) (t : TakenRead) → bare_read a ≡ bare_read b → a ≡ Some t
    → (r : TakenRead) × (b ≡ Some r) × (r.value ≡ t.value) × (r.inside ≡ t.inside) × (bare r.leftover ≡ bare t.leftover)
read-same a None t e k = absurd (let clash : Some (record t { leftover = bare t.leftover }) ≡ None = ap bare_read (sym k) ∙ e in cc)
read-same a (Some r) t e k =
    let same : Some (record t { leftover = bare t.leftover }) ≡ Some (record r { leftover = bare r.leftover }) = ap bare_read (sym k) ∙ e in
    let parts : ◌≡◌ {A = TakenRead} (record t { leftover = bare t.leftover }) (record r { leftover = bare r.leftover }) = cc in
    (r, refl, sym (ap (λ (x : TakenRead). x.value) parts), sym (ap (λ (x : TakenRead). x.inside) parts), sym (ap (λ (x : TakenRead). x.leftover) parts))

module _ (laws : Takings) (key : ReadKey) where
  recalls-first : (g : Grove) → holds_first (recalls key) g ≡ first_reads key.place key.unit key.var key.args g
  recalls-first Bare = refl
  recalls-first (Made s b k n rest) = refl
  recalls-first (Put s p v n rest) = refl
  recalls-first (Got s p v u x args n inside e m rest) = refl

  found-read : (g : Grove) (s : ℕ) → holds_first (recalls key) g ≡ true → first_stamp g ≡ Some s → TakesRead key g s g
  found-read Bare s h f = absurd cc
  found-read (Made t b k n rest) s h f = absurd cc
  found-read (Put t p v n rest) s h f = absurd cc
  found-read (Got t q v w y words n inside e m rest) s h f =
      let same : t ≡ s = cc in
      subst (λ r. TakesRead key (Got t q v w y words n inside e m rest) s (Got r q v w y words n inside e m rest)) (sym same)
      (takes q v w y words n inside e m rest (record { value = v; inside = stepped n (trace_in inside); leftover = stepped m (trace_in rest) }) h
      (laws.read_found key.place key.unit key.var key.args t q v w y words n inside e m rest h) refl refl (bare-stepped m rest))

  kept-read : (g h : Grove) (s : ℕ) → first_reads key.place key.unit key.var key.args g ≡ false → TakesRead key (cut g) s h → TakesRead key g s h
  kept-read g h s f (takes q v w y words n inside e m rest t same found is within left) =
      let r = read-same (take_read key.place key.unit key.var key.args (trace_in (cut g))) (take_read key.place key.unit key.var key.args (trace_in g)) t
      (laws.read_kept key.place key.unit key.var key.args g f) found in
      takes q v w y words n inside e m rest r.0 same r.1 (r.2 ∙ is) (r.3 ∙ within) (r.4 ∙ left)

  -- the first read with the key is what is taken
  pub taken-read : (s : ℕ) {g h : Grove} → CutTo s g h → Distinct (stamps_in (entries g)) → head_of (stamps_where (recalls key) (entries g)) ≡ Some s → TakesRead key g s h
  taken-read s (CutTo.there {g = g} f) d e = found-read g s (first-holds (recalls key) g s d e f) f
  taken-read s (CutTo.more {g = g} {h = h} other c) d e =
      let h0 : holds_first (recalls key) g ≡ false = first-not (recalls key) g s e other in
      kept-read g h s (sym (recalls-first g) ∙ h0) (taken-read s c (distinct-cut g d) (ap head_of (where-cut (recalls key) (λ r. refl) g h0) ∙ e))

  reads-lack : (es : List Entry) → stamps_where (recalls key) es ≡ [] → LacksRead key.place key.unit key.var key.args (knots_of es)
  reads-lack [] e = tt
  reads-lack (x ∷ es) e = elim (cases_Bool (recalls key x.node)) [
    | inl h ↦ absurd (let clash : x.stamp ∷ stamps_where (recalls key) es ≡ [] = rw h at e in cc)
    | inr h ↦ (lacks-node x.node h, reads-lack es (rw h at e))
  ]
    where
      lacks-node : (node : Node) → recalls key node ≡ false → LacksReadItem key.place key.unit key.var key.args (item_in node)
      lacks-node Root h = tt
      lacks-node (Alloc b k) h = tt
      lacks-node (Write p v) h = tt
      lacks-node (Read p v u x args) h = h
      lacks-node (End r) h = tt

  -- where there is none nothing is taken
  pub none-read : (g : Grove) → stamps_where (recalls key) (entries g) ≡ [] → take_read key.place key.unit key.var key.args (trace_in g) ≡ None
  none-read g e =
      laws.read_absent key.place key.unit key.var key.args g (subst (LacksRead key.place key.unit key.var key.args) (knots-entries g) (reads-lack (entries g) e))

-- ---- the match of a read

-- the first read with a key, where nodes are revoked up to it: it is of the place and of the closure of the key
pub record MatchRead (p : Place) (u : UnitId) (x : ℕ) (args : List Word) (found : ℕ) (g rest : Grove) : Type 0 where
  pub value : Word
  pub steps : ℕ
  pub inside : Grove
  pub end : ℕ
  pub end_steps : ℕ
  pub behind : Grove
  pub is : rest ≡ Got found p value u x args steps inside end end_steps behind
  pub taken : TakenRead
  pub takes_it : take_read p u x args (trace_in g) ≡ Some taken
  pub value_is : taken.value ≡ value
  pub inside_is : taken.inside ≡ stepped steps (trace_in inside)
  pub left_is : bare taken.leftover ≡ bare (trace_in behind)

pub match-read : (p : Place) (u : UnitId) (x : ℕ) (args : List Word) (found : ℕ) {g rest : Grove} → CutTo found g rest → Distinct (stamps_in (entries g))
    → head_of (stamps_where (recalls (record { place = p; unit = u; var = x; args = args })) (entries g)) ≡ Some found → MatchRead p u x args found g rest
match-read p u x args found {g} {rest} c d e = go rest (taken-read taking-law (record { place = p; unit = u; var = x; args = args }) found c d e)
  where
    go : (rest : Grove) → TakesRead (record { place = p; unit = u; var = x; args = args }) g found rest → MatchRead p u x args found g rest
    go rest (takes q v w y words n inside e m behind t same found_it value in_it left) =
        let s1 = both (same_place q p && w.0 == u.0 && y == x) (same_words words args) same in
        let s2 = both (same_place q p && w.0 == u.0) (y == x) s1.0 in
        let s3 = both (same_place q p) (w.0 == u.0) s2.0 in
        record {
          value = v;
          steps = n;
          inside = inside;
          end = e;
          end_steps = m;
          behind = behind;
          is = rw (place-same q p s3.0, unit-same w u s3.1, nat-same y x s2.1, words-same words args s1.1) refl;
          taken = t;
          takes_it = found_it;
          value_is = value;
          inside_is = in_it;
          left_is = left;
        }
