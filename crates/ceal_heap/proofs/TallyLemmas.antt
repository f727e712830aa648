-- Numbers that pass a test: how many there are, and lists of them.
use Rattle.std.proofs.Common.{◌≡◌, ◌≢◌, ℕ, zero, suc, ◌+◌, ◌<◌, ◌≤◌, List, [], ◌∷◌, ◌++◌, length, set, Bool, true, false, Option, Some, None, refl, sym, ap, ◌∙◌, ⊎_elim, arith, slice_get}
use Rattle.std.specs.Prelude.{◌==◌}
use Rattle.std.proofs.lemmas.List.{length_push}
use Rattle.std.proofs.lemmas.Option.{none-some, same_Some, slice_get_past}
use Rattle.std.proofs.lemmas.Bool.{cases_eq, eq-eqb, ne_eqb}
use Rattle.ceal_heap.specs.Table.{one_if, mark, tally, times, Tracks}
use Rattle.ceal_heap.specs.declared.number.Number.{Number}

pub get_set_same : {X : Type 0} (xs : List X) (i : ℕ) (x y : X) → slice_get xs i ≡ Some x → slice_get (set xs i y) i ≡ Some y
get_set_same [] i x y some = absurd (none-some x some)
get_set_same (z ∷ xs) zero x y some = refl
get_set_same (z ∷ xs) (suc i) x y some = get_set_same xs i x y some

pub get_set_other : {X : Type 0} (xs : List X) (i j : ℕ) (x : X) → j ≢ i → slice_get (set xs i x) j ≡ slice_get xs j
get_set_other [] i j x other = refl
get_set_other (y ∷ xs) zero zero x other = absurd (other refl)
get_set_other (y ∷ xs) zero (suc j) x other = refl
get_set_other (y ∷ xs) (suc i) zero x other = refl
get_set_other (y ∷ xs) (suc i) (suc j) x other = get_set_other xs i j x (λ e. other (ap suc e))

pub get_push_same : {X : Type 0} (xs : List X) (x : X) → slice_get (xs ++ x ∷ []) (length xs) ≡ Some x
get_push_same [] x = refl
get_push_same (y ∷ xs) x = get_push_same xs x

pub get_push_other : {X : Type 0} (xs : List X) (x : X) (j : ℕ) → j ≢ length xs → slice_get (xs ++ x ∷ []) j ≡ slice_get xs j
get_push_other [] x zero other = absurd (other refl)
get_push_other [] x (suc j) other = refl
get_push_other (y ∷ xs) x zero other = refl
get_push_other (y ∷ xs) x (suc j) other = get_push_other xs x j (λ e. other (ap suc e))

pub one_most : (b : Bool) → one_if b ≤ 1
one_most true = omega arith
one_most false = omega arith

pub one_true : (b : Bool) → 0 < one_if b → b ≡ true
one_true true some = refl
one_true false some = absurd (omega (arith, some))

pub one_false : (b : Bool) → one_if b ≡ 0 → b ≡ false
one_false true none = absurd (omega (arith, none))
one_false false none = refl

-- how a change of one number changes how many pass a test
module _ (test : Number → Bool) where
  pub tally_set : (xs : List Number) (i : ℕ) (x y : Number) → slice_get xs i ≡ Some x
      → tally test (set xs i y) + one_if (test x) ≡ tally test xs + one_if (test y)
  tally_set [] i x y some = absurd (none-some x some)
  tally_set (z ∷ xs) zero x y some = let e = ap (λ (n : Number). one_if (test n)) (same_Some z x some) in omega (arith, e)
  tally_set (z ∷ xs) (suc i) x y some = let e = tally_set xs i x y some in omega (arith, e)

  pub tally_push : (xs : List Number) (y : Number) → tally test (xs ++ y ∷ []) ≡ tally test xs + one_if (test y)
  tally_push [] y = omega arith
  tally_push (x ∷ xs) y = let e = tally_push xs y in omega (arith, e)

  pub tally_most : (xs : List Number) → tally test xs ≤ length xs
  tally_most [] = omega arith
  tally_most (x ∷ xs) = let e = tally_most xs in let one = one_most (test x) in omega (arith, e, one)

  pub tally_below : (xs : List Number) (i : ℕ) (x : Number) → slice_get xs i ≡ Some x → test x ≡ false → tally test xs < length xs
  tally_below [] i x some fails = absurd (none-some x some)
  tally_below (z ∷ xs) zero x some fails =
      let e = ap one_if (ap test (same_Some z x some) ∙ fails) in let most = tally_most xs in omega (arith, e, most)
  tally_below (z ∷ xs) (suc i) x some fails = let e = tally_below xs i x some fails in let one = one_most (test z) in omega (arith, e, one)

  pub tally_some : (xs : List Number) (i : ℕ) (x : Number) → slice_get xs i ≡ Some x → test x ≡ true → 0 < tally test xs
  tally_some [] i x some passes = absurd (none-some x some)
  tally_some (z ∷ xs) zero x some passes = let e = ap one_if (ap test (same_Some z x some) ∙ passes) in omega (arith, e)
  tally_some (z ∷ xs) (suc i) x some passes = let e = tally_some xs i x some passes in omega (arith, e)

times_push : (n m : ℕ) (ns : List ℕ) → times n (ns ++ m ∷ []) ≡ times n ns + one_if (m == n)
times_push n m [] = omega arith
times_push n m (k ∷ ns) = let e = times_push n m ns in omega (arith, e)

one_same : (n m : ℕ) → m ≡ n → one_if (m == n) ≡ 1
one_same n m e = ap one_if (eq-eqb m n e)

one_other : (n m : ℕ) → m ≢ n → one_if (m == n) ≡ 0
one_other n m e = ap one_if (ne_eqb m n e)

-- lists of the numbers that pass a test, as one number changes
module _ (test : Number → Bool) where
  mark_here : (xs : List Number) (i n : ℕ) (x y : Number) → slice_get xs i ≡ Some x → n ≡ i → mark test (slice_get (set xs i y) n) ≡ one_if (test y)
  mark_here xs i n x y some e = ap (λ (k : ℕ). mark test (slice_get (set xs i y) k)) e ∙ ap (mark test) (get_set_same xs i x y some)

  mark_was : (xs : List Number) (i n : ℕ) (x : Number) → slice_get xs i ≡ Some x → n ≡ i → mark test (slice_get xs n) ≡ one_if (test x)
  mark_was xs i n x some e = ap (λ (k : ℕ). mark test (slice_get xs k)) e ∙ ap (mark test) some

  mark_there : (xs : List Number) (i n : ℕ) (y : Number) → n ≢ i → mark test (slice_get (set xs i y) n) ≡ mark test (slice_get xs n)
  mark_there xs i n y other = ap (mark test) (get_set_other xs i n y other)

  pub tracks_keep : (ns : List ℕ) (xs : List Number) (i : ℕ) (x y : Number) → Tracks test ns xs → slice_get xs i ≡ Some x → test y ≡ test x → Tracks test ns (set xs i y)
  tracks_keep ns xs i x y tracks some same = record {
    each = λ n. ⊎_elim
        (λ e. tracks.each n ∙ mark_was xs i n x some e ∙ sym (ap one_if same) ∙ sym (mark_here xs i n x y some e))
        (λ other. tracks.each n ∙ sym (mark_there xs i n y other))
        (cases_eq n i);
    all = let counted = tally_set test xs i x y some in let one = ap one_if same in omega (arith, counted, one, tracks.all);
  }

  pub tracks_in : (ns : List ℕ) (xs : List Number) (i : ℕ) (x y : Number) → Tracks test ns xs → slice_get xs i ≡ Some x → test x ≡ false → test y ≡ true
      → Tracks test (ns ++ i ∷ []) (set xs i y)
  tracks_in ns xs i x y tracks some fails passes = record {
    each = λ n. times_push n i ns ∙ ⊎_elim
        (λ e. let was = tracks.each n ∙ mark_was xs i n x some e ∙ ap one_if fails in let here = mark_here xs i n x y some e ∙ ap one_if passes in
        let one = one_same n i (sym e) in omega (arith, was, here, one))
        (λ other. let was = tracks.each n in let there = mark_there xs i n y other in let one = one_other n i (λ e. other (sym e)) in omega (arith, was, there, one))
        (cases_eq n i);
    all = let counted = tally_set test xs i x y some in let f = ap one_if fails in let p = ap one_if passes in let long = length_push ns i in
        omega (arith, counted, f, p, long, tracks.all);
  }

  found : (o : Option Number) → 0 < mark test o → (x : Number) × (o ≡ Some x) × (test x ≡ true)
  found None some = absurd (omega (arith, some))
  found (Some x) some = (x, refl, one_true (test x) some)

  pub tracks_found : (ns : List ℕ) (xs : List Number) (i : ℕ) → Tracks test (ns ++ i ∷ []) xs → (x : Number) × (slice_get xs i ≡ Some x) × (test x ≡ true)
  tracks_found ns xs i tracks = found (slice_get xs i) (let e = sym (times_push i i ns) ∙ tracks.each i in let one = one_same i i refl in omega (arith, e, one))

  pub tracks_out : (ns : List ℕ) (xs : List Number) (i : ℕ) (x y : Number) → Tracks test (ns ++ i ∷ []) xs → slice_get xs i ≡ Some x → test y ≡ false
      → Tracks test ns (set xs i y)
  tracks_out ns xs i x y tracks some fails = record {
    each = λ n. ⊎_elim
        (λ e. let was = sym (times_push n i ns) ∙ tracks.each n ∙ mark_was xs i n x some e in let here = mark_here xs i n x y some e ∙ ap one_if fails in
        let one = one_same n i (sym e) in let most = one_most (test x) in omega (arith, was, here, one, most))
        (λ other. let was = sym (times_push n i ns) ∙ tracks.each n in let there = mark_there xs i n y other in let one = one_other n i (λ e. other (sym e)) in
        omega (arith, was, there, one))
        (cases_eq n i);
    all = let counted = tally_set test xs i x y some in let f = ap one_if fails in let long = length_push ns i in
        let was = sym (times_push i i ns) ∙ tracks.each i ∙ mark_was xs i i x some refl in let one = one_same i i refl in let most = one_most (test x) in
        omega (arith, counted, f, long, was, one, most, tracks.all);
  }

  pub tracks_more : (ns : List ℕ) (xs : List Number) (y : Number) → Tracks test ns xs → test y ≡ false → Tracks test ns (xs ++ y ∷ [])
  tracks_more ns xs y tracks fails = record {
    each = λ n. tracks.each n ∙ ⊎_elim
        (λ e. ap (mark test) (slice_get_past xs n (omega (arith, e))) ∙ sym (ap one_if fails) ∙ sym (ap (λ (k : ℕ). mark test (slice_get (xs ++ y ∷ []) k)) e ∙ ap (mark test) (get_push_same xs y)))
        (λ other. sym (ap (mark test) (get_push_other xs y n other)))
        (cases_eq n (length xs));
    all = let counted = tally_push test xs y in let f = ap one_if fails in omega (arith, counted, f, tracks.all);
  }

  pub tracks_none : (xs : List Number) (n : ℕ) (x : Number) → Tracks test [] xs → slice_get xs n ≡ Some x → test x ≡ false
  tracks_none xs n x tracks some = one_false (test x) (sym (tracks.each n ∙ ap (mark test) some))
