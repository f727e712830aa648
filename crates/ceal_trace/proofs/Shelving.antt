-- Two slabs that fit together, while nodes are put into them and taken out.
use Rattle.std.proofs.Common.{◌≡◌, ◌≢◌, ◌⊎◌, ℕ, zero, suc, inl, inr, ◌+◌, ◌<◌, ◌≤◌, Bool, false, List, [], ◌∷◌, length, get_or, Option, Some, None, IsSome, is_some, count_by, cond, refl, sym, ap}
use Rattle.std.proofs.Common.{subst, ◌∙◌, arith, option_map}
use Rattle.std.specs.Prelude.{sum_by}
use Rattle.std.proofs.lemmas.Bool.{cases_eq}
use Rattle.std.proofs.lemmas.List.Sums.{sum_by-cons, sum_by-set}
use Rattle.slab.specs.Slab.{Slab, get, slab_len, Updates, with_value}
use Rattle.slab.proofs.SlabLemmas.{Updates-with_value, ContainsKey-within}
use Rattle.ceal_base.specs.declared.word.Word.{Word}
use Rattle.ceal_base.specs.declared.word.BlockId.{BlockId}
use Rattle.ceal_trace.specs.declared.node.Node.{Node}
use Rattle.ceal_trace.specs.declared.held.Held.{Held}
use Rattle.ceal_trace.specs.declared.held.Held.TheVariants as small
use Rattle.ceal_trace.specs.declared.held.Apart.{Apart}
use Rattle.ceal_trace.specs.declared.held.Apart.TheVariants as other
use Rattle.ceal_order.specs.declared.packed.Packed.{Packed}
use Rattle.ceal_trace.specs.Nodes.{valued}
use Rattle.ceal_order.specs.Packed.{number_of, word_of}
use Rattle.ceal_trace.specs.Shelves.{keyed, closed, whole, whole_in, place_of, needs, weight, IsFit, Split, Joined, held_valued}

-- ---- how many slots are counted, where one changes

module _ {X : Type 0} (w : Option X → Bool) (none : w None ≡ false) where
  abbrev f : Option X → ℕ
  f o = cond (w o) 1 0

  nothing : (o : Option X) → o ≡ None → f o ≡ 0
  nothing o is = ap f is ∙ ap (λ (b : Bool). cond b 1 0) none

  abbrev rest : List (Option X) → List (Option X)
  rest [] = []
  rest (x ∷ xs) = xs

  parts : (xs : List (Option X)) → sum_by f xs ≡ f (get_or xs 0 None) + sum_by f (rest xs)
  parts [] = omega (arith, nothing None refl)
  parts (x ∷ xs) = sum_by-cons f x xs

  at_rest : (xs : List (Option X)) (k : ℕ) → get_or (rest xs) k None ≡ get_or xs (suc k) None
  at_rest [] k = refl
  at_rest (x ∷ xs) k = refl

  counted_same : (xs ys : List (Option X)) → ((k : ℕ) → get_or ys k None ≡ get_or xs k None) → sum_by f ys ≡ sum_by f xs
  counted_same [] [] same = refl
  counted_same [] (y ∷ ys) same = let first = nothing y (same 0) in let later = counted_same [] ys (λ k. same (suc k)) in omega (arith, sum_by-cons f y ys, first, later)
  counted_same (x ∷ xs) [] same = let first = nothing x (sym (same 0)) in let later = counted_same xs [] (λ k. same (suc k)) in omega (arith, sum_by-cons f x xs, first, later)
  counted_same (x ∷ xs) (y ∷ ys) same = let first : f y
      ≡ f x = ap f (same 0) in let later = counted_same xs ys (λ k. same (suc k)) in omega (arith, sum_by-cons f x xs, sum_by-cons f y ys, first, later)

  -- a slot that was empty has this now, and no other one changed
  pub counted_more : (k : ℕ) (xs ys : List (Option X)) (v : Option X) → get_or ys k None ≡ v → get_or xs k None ≡ None
      → ((o : ℕ) → o ≢ k → get_or ys o None ≡ get_or xs o None) → count_by w ys ≡ count_by w xs + cond (w v) 1 0
  counted_more zero xs ys v is was same =
      let first : f (get_or ys 0 None) ≡ f v = ap f is in
      let empty = nothing (get_or xs 0 None) was in
      let later = counted_same (rest xs) (rest ys) (λ k. at_rest ys k ∙ same (suc k) (omega arith) ∙ sym (at_rest xs k)) in
      omega (arith, parts xs, parts ys, first, empty, later)
  counted_more (suc k) xs ys v is was same =
      let first : f (get_or ys 0 None) ≡ f (get_or xs 0 None) = ap f (same 0 (omega arith)) in
      let later = counted_more k (rest xs) (rest ys) v (at_rest ys k ∙ is) (at_rest xs k ∙ was)
      (λ o differs. at_rest ys o ∙ same (suc o) (λ e. differs (omega (arith, e))) ∙ sym (at_rest xs o)) in
      omega (arith, parts xs, parts ys, first, later)

-- ---- a small part and its other part

keyed_some : (block : BlockId) (o : Option Apart) → IsSome (keyed block o) → IsSome o
keyed_some block None some = some
keyed_some block (Some a) some = refl

closed_some : (value : Word) (var : ℕ) (o : Option Apart) → IsSome (closed value var o) → IsSome o
closed_some value var None some = some
closed_some value var (Some a) some = refl

-- the other part is there, where the node is whole
pub stands : (a : Slab Apart) (o : Option Held) (at : ℕ) → IsSome (whole_in a o) → place_of o ≡ Some at → IsSome (get a at)
stands a None at some is = absurd (cc)
stands a (Some small.Root) at some is = absurd (cc)
stands a (Some (small.Alloc block k)) at some is = let same : number_of k ≡ at = cc in subst (λ (n : ℕ). IsSome (get a n)) same (keyed_some block (get a (number_of k)) some)
stands a (Some (small.Write place value)) at some is = absurd (cc)
stands a (Some (small.Read value var k)) at some is = let same : number_of k ≡ at = cc in subst (λ (n : ℕ). IsSome (get a n)) same (closed_some (word_of value) var (get a (number_of k)) some)
stands a (Some (small.End read)) at some is = absurd (cc)

-- a node is whole as long as its other part is kept
pub whole_kept : (a a' : Slab Apart) (o : Option Held) → ((at : ℕ) → place_of o ≡ Some at → get a' at ≡ get a at) → whole_in a' o ≡ whole_in a o
whole_kept a a' None kept = refl
whole_kept a a' (Some small.Root) kept = refl
whole_kept a a' (Some (small.Alloc block k)) kept = ap (keyed block) (kept (number_of k) refl)
whole_kept a a' (Some (small.Write place value)) kept = refl
whole_kept a a' (Some (small.Read value var k)) kept = ap (closed (word_of value) var) (kept (number_of k) refl)
whole_kept a a' (Some (small.End read)) kept = refl

none_or_some : {X : Type 0} (o : Option X) → (o ≡ None) ⊎ IsSome o
none_or_some None = inl refl
none_or_some (Some x) = inr refl

not_both : {X : Type 0} (o : Option X) → o ≡ None → IsSome o → ⊥
not_both None is some = cc
not_both (Some x) is some = cc

-- ---- a node more

module _ (h h' : Slab Held) (a a' : Slab Apart) (key : ℕ) (n : Node) (x : Held)
    (fit : IsFit h a) (split : Split a a' n x) (was : get h key ≡ None) (ups : Updates h h' key (Some x)) where
  old_kept : (k : ℕ) → whole_in a' (get h k) ≡ whole_in a (get h k)
  old_kept k = elim (none_or_some (get h k)) [
    | inl none ↦ rw none refl
    | inr there ↦ whole_kept a a' (get h k) (λ at is. split.kept at (stands a (get h k) at (fit.there k there) is))
  ]

  pub put_there : whole_in a' (get h' key) ≡ Some n
  put_there = ap (whole_in a') ups.changed ∙ split.is

  pub put_others : (k : ℕ) → k ≢ key → whole_in a' (get h' k) ≡ whole_in a (get h k)
  put_others k differs = ap (whole_in a') (ups.others k differs) ∙ old_kept k

  pub put_fresh : whole_in a (get h key) ≡ None
  put_fresh = ap (whole_in a) was

  there' : (k : ℕ) → IsSome (get h' k) → IsSome (whole_in a' (get h' k))
  there' k some = elim (cases_eq k key) [
    | inl same ↦ subst (λ (m : ℕ). IsSome (whole_in a' (get h' m))) (sym same) (ap is_some put_there)
    | inr differs ↦ ap is_some (put_others k differs) ∙ fit.there k (ap is_some (sym (ups.others k differs)) ∙ some)
  ]

  -- no old node has its part where the new one has it
  apart_from : (k at : ℕ) → k ≢ key → place_of (get h' k) ≡ Some at → place_of (get h' key) ≡ Some at → ⊥
  apart_from k at differs is new =
      let old : place_of (get h k) ≡ Some at = ap place_of (sym (ups.others k differs)) ∙ is in
      let free : get a at ≡ None = split.free at (ap place_of (sym ups.changed) ∙ new) in
      elim (none_or_some (get h k)) [
        | inl none ↦ let nowhere : place_of (get h k) ≡ None = ap place_of none in absurd (cc)
        | inr there ↦ not_both (get a at) free (stands a (get h k) at (fit.there k there) old)
      ]

  pub put_fits : IsFit h' a'
  put_fits = record {
    there = there';
    one = λ k l at first second. elim (cases_eq k key) [
      | inl same ↦ elim (cases_eq l key) [
        | inl too ↦ same ∙ sym too
        | inr differs ↦ absurd (apart_from l at differs second (subst (λ (m : ℕ). place_of (get h' m) ≡ Some at) same first))
      ]
      | inr differs ↦ elim (cases_eq l key) [
        | inl too ↦ absurd (apart_from k at differs first (subst (λ (m : ℕ). place_of (get h' m) ≡ Some at) too second))
        | inr both ↦ fit.one k l at (ap place_of (sym (ups.others k differs)) ∙ first) (ap place_of (sym (ups.others l both)) ∙ second)
      ]
    ];
    count = split.count ∙ ap (λ (m : ℕ). m + weight (Some x)) fit.count
        ∙ sym (counted_more needs refl key h.slots h'.slots (Some x) ups.changed was ups.others);
  }

-- ---- a node less

module _ (h h' : Slab Held) (a a' : Slab Apart) (key : ℕ) (n : Node) (x : Held)
    (fit : IsFit h a) (was : get h key ≡ Some x) (ups : Updates h h' key None) (joined : Joined a a' x n) where
  pub took_was : whole_in a (get h key) ≡ Some n
  took_was = ap (whole_in a) was ∙ joined.is

  pub took_gone : whole_in a' (get h' key) ≡ None
  took_gone = ap (whole_in a') ups.changed

  pub took_others : (k : ℕ) → k ≢ key → whole_in a' (get h' k) ≡ whole_in a (get h k)
  took_others k differs = ap (whole_in a') (ups.others k differs)
      ∙ whole_kept a a' (get h k) (λ at is. joined.kept at (λ its. differs (fit.one k key at is (ap place_of was ∙ its))))

  back : (k : ℕ) (o : Option ℕ) → k ≢ key → place_of (get h' k) ≡ o → place_of (get h k) ≡ o
  back k o differs is = ap place_of (sym (ups.others k differs)) ∙ is

  gone_place : (k at : ℕ) → k ≡ key → place_of (get h' k) ≡ Some at → ⊥
  gone_place k at same is = let none : place_of (get h' key) ≡ None = ap place_of ups.changed in let here : place_of (get h' key)
      ≡ Some at = subst (λ (m : ℕ). place_of (get h' m) ≡ Some at) same is in cc

  pub took_fits : IsFit h' a'
  took_fits = record {
    there = λ k some. elim (cases_eq k key) [
      | inl same ↦ absurd (not_both (get h' k) (subst (λ (m : ℕ). get h' m ≡ None) (sym same) ups.changed) some)
      | inr differs ↦ ap is_some (took_others k differs) ∙ fit.there k (ap is_some (sym (ups.others k differs)) ∙ some)
    ];
    one = λ k l at first second. elim (cases_eq k key) [
      | inl same ↦ absurd (gone_place k at same first)
      | inr differs ↦ elim (cases_eq l key) [
        | inl too ↦ absurd (gone_place l at too second)
        | inr both ↦ fit.one k l at (back k (Some at) differs first) (back l (Some at) both second)
      ]
    ];
    count = let less = joined.count in
        let more = counted_more needs refl key h'.slots h.slots (Some x) was ups.changed (λ o differs. sym (ups.others o differs)) in
        let count = fit.count in omega arith;
  }

-- ---- another value

valued_whole : (a : Slab Apart) (value : Packed) (x : Held) → whole a (held_valued value x) ≡ option_map (valued (word_of value)) (whole a x)
valued_whole a value small.Root = refl
valued_whole a value (small.Alloc block at) = by (get a (number_of at))
  where
    by : (o : Option Apart) → keyed block o ≡ option_map (valued (word_of value)) (keyed block o)
    by None = refl
    by (Some (other.Key key)) = refl
    by (Some (other.OfInput block' field unit args)) = refl
    by (Some (other.OfCore block' field unit args)) = refl
valued_whole a value (small.Write place word) = refl
valued_whole a value (small.Read word var at) = by (get a (number_of at))
  where
    by : (o : Option Apart) → closed (word_of value) var o ≡ option_map (valued (word_of value)) (closed (word_of word) var o)
    by None = refl
    by (Some (other.Key key)) = refl
    by (Some (other.OfInput block' field unit args)) = refl
    by (Some (other.OfCore block' field unit args)) = refl
valued_whole a value (small.End read) = refl

valued_place : (value : Packed) (x : Held) → place_of (Some (held_valued value x)) ≡ place_of (Some x)
valued_place value small.Root = refl
valued_place value (small.Alloc block at) = refl
valued_place value (small.Write place word) = refl
valued_place value (small.Read word var at) = refl
valued_place value (small.End read) = refl

some_mapped : {X Y : Type 0} (g : X → Y) (o : Option X) → IsSome o → IsSome (option_map g o)
some_mapped g None some = some
some_mapped g (Some x) some = refl

module _ (h h' : Slab Held) (a : Slab Apart) (key : ℕ) (value : Packed) (x : Held)
    (fit : IsFit h a) (was : get h key ≡ Some x) (is : h' ≡ with_value h key (held_valued value x)) where
  ups : Updates h h' key (Some (held_valued value x))
  ups = subst (λ (s : Slab Held). Updates h s key (Some (held_valued value x))) (sym is) (Updates-with_value h key (held_valued value x) (ap is_some was))

  pub valued_changed : whole_in a (get h' key) ≡ option_map (valued (word_of value)) (whole_in a (get h key))
  valued_changed = ap (whole_in a) ups.changed ∙ valued_whole a value x ∙ sym (ap (λ (o : Option Held). option_map (valued (word_of value)) (whole_in a o)) was)

  pub valued_others : (k : ℕ) → k ≢ key → whole_in a (get h' k) ≡ whole_in a (get h k)
  valued_others k differs = ap (whole_in a) (ups.others k differs)

  place_same : (k : ℕ) → place_of (get h' k) ≡ place_of (get h k)
  place_same k = elim (cases_eq k key) [
    | inl same ↦ subst (λ (m : ℕ). place_of (get h' m) ≡ place_of (get h m)) (sym same) (ap place_of ups.changed ∙ valued_place value x ∙ sym (ap place_of was))
    | inr differs ↦ ap place_of (ups.others k differs)
  ]

  within : key < length h.slots
  within = ContainsKey-within h key (ap is_some was)

  abbrev weigh : Option Held → ℕ
  weigh o = cond (needs o) 1 0

  abbrev filled : Option Held → ℕ
  filled o = cond (is_some o) 1 0

  pub valued_len : slab_len h' ≡ slab_len h
  valued_len =
      let count = sum_by-set filled h.slots key (Some (held_valued value x)) None within in
      let old : filled (get h key) ≡ filled (Some x) = ap filled was in
      ap (λ (s : Slab Held). slab_len s) is ∙ omega arith

  abbrev placed : Option ℕ → ℕ
  placed o = cond (is_some o) 1 0

  valued_count : count_by needs h'.slots ≡ count_by needs h.slots
  valued_count =
      let count = sum_by-set weigh h.slots key (Some (held_valued value x)) None within in
      let old : weigh (get h key) ≡ weigh (Some x) = ap weigh was in
      let same : weigh (Some (held_valued value x)) ≡ weigh (Some x) = ap placed (valued_place value x) in
      ap (λ (s : Slab Held). count_by needs s.slots) is ∙ omega arith

  pub valued_fits : IsFit h' a
  valued_fits = record {
    there = λ k some. elim (cases_eq k key) [
      | inl same ↦ subst (λ (m : ℕ). IsSome (whole_in a (get h' m))) (sym same)
          (ap is_some valued_changed ∙ some_mapped (valued (word_of value)) (whole_in a (get h key)) (fit.there key (ap is_some was)))
      | inr differs ↦ ap is_some (valued_others k differs) ∙ fit.there k (ap is_some (sym (ups.others k differs)) ∙ some)
    ];
    one = λ k l at first second. fit.one k l at (sym (place_same k) ∙ first) (sym (place_same l) ∙ second);
    count = fit.count ∙ sym valued_count;
  }

-- ---- there are no more other parts than nodes

fewer : (xs : List (Option Held)) → count_by needs xs ≤ count_by is_some xs
fewer [] = omega arith
fewer (x ∷ xs) =
    let first = sum_by-cons (λ o. cond (needs o) 1 0) x xs in
    let all = sum_by-cons (λ o. cond (is_some o) 1 0) x xs in
    let later = fewer xs in
    let here = one x in
    omega arith
  where
    one : (o : Option Held) → cond (needs o) 1 0 ≤ cond (is_some o) 1 0
    one None = omega arith
    one (Some small.Root) = omega arith
    one (Some (small.Alloc block at)) = omega arith
    one (Some (small.Write place value)) = omega arith
    one (Some (small.Read value var at)) = omega arith
    one (Some (small.End read)) = omega arith

pub apart_less : (h : Slab Held) (a : Slab Apart) → IsFit h a → slab_len a ≤ slab_len h
apart_less h a fit = let least = fewer h.slots in let count = fit.count in omega arith
