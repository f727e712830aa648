-- The first places of numbers.
use Rattle.std.proofs.Common.{◌≡◌, ℕ, suc, ◌+◌, ◌==◌, Bool, true, false, cond, if◌then◌else◌, Option, Some, None}
use Rattle.std.proofs.Common.{is_some, unwrap_or, Bor, List, [], ◌∷◌, ◌++◌, length, length-append, refl, sym, ap, ◌∙◌}
use Rattle.std.proofs.Common.{subst, arith}
use Rattle.std.specs.BTreeMap.{get}
use Rattle.std.specs.Option.{option_map, option_copied}
use Rattle.std.specs.Ordering.{is_eq}
use Rattle.std.proofs.Math.Path.{fun_ext}
use Rattle.ceal_base.specs.Same.{index_of}
use Rattle.ceal_base.specs.contracts.word.BlockIdOrd.TheImpl.{ghosts}
use Rattle.ceal_base.specs.declared.forest.Item.{Item}
use Rattle.ceal_base.specs.declared.word.BlockId.{BlockId}
use Rattle.ceal_base.specs.declared.word.BlockId.TheVariants.{Core}
use Rattle.ceal_code.proofs.Words.SameIsEqual.{nat-same}
use Rattle.ceal_code.proofs.Equations.TableSteps.{eq-block}
use Rattle.ceal_code.specs.Replay.{core_numbers}
use Rattle.ceal_record.specs.Numbers.{place_in, number_of, Counts}
use Rattle.ceal_record.specs.declared.numbers.Numbers.{Numbers}
use Rattle.ceal_traceck.specs.Items.{allocated}

-- the place of a number with one more after
abbrev or_last : Option ℕ → Bool → ℕ → Option ℕ
or_last (Some k) here n = Some k
or_last None true n = Some n
or_last None false n = None

one-before : (o : Option ℕ) (here : Bool) (n : ℕ) → option_map (λ k. suc k) (or_last o here n) ≡ or_last (option_map (λ k. suc k) o) here (suc n)
one-before (Some k) here n = refl
one-before None true n = refl
one-before None false n = refl

place-push : (bs : List ℕ) (c b : ℕ) → place_in (bs ++ c ∷ []) b ≡ or_last (place_in bs b) (c == b) (length bs)
place-push [] c b = go (c == b)
  where
    go : (t : Bool) → (if t then Some 0 else None) ≡ or_last None t 0
    go true = refl
    go false = refl
place-push (d ∷ ds) c b = go (d == b) (place-push ds c b)
  where
    go : (t : Bool) → place_in (ds ++ c ∷ []) b ≡ or_last (place_in ds b) (c == b) (length ds)
        → (if t then Some 0 else option_map (λ n. suc n) (place_in (ds ++ c ∷ []) b)) ≡ or_last (if t then Some 0 else option_map (λ n. suc n) (place_in ds b)) (c == b) (suc (length ds))
    go true e = refl
    go false e = ap (option_map (λ n. suc n)) e ∙ one-before (place_in ds b) (c == b) (length ds)

place-index : (bs : List ℕ) (b : ℕ) → unwrap_or (place_in bs b) (length bs) ≡ index_of bs b
place-index [] b = refl
place-index (d ∷ ds) b = go (d == b) (place_in ds b) (place-index ds b)
  where
    go : (t : Bool) (o : Option ℕ) → unwrap_or o (length ds) ≡ index_of ds b
        → unwrap_or (if t then Some 0 else option_map (λ n. suc n) o) (suc (length ds)) ≡ (if t then 0 else index_of ds b + 1)
    go true o e = refl
    go false (Some k) e = omega (arith, e)
    go false None e = omega (arith, e)

-- the numbers are the places
pub number-index : (t : Numbers) (bs : List ℕ) → Counts t bs → number_of t ≡ index_of bs
unfolding number_of
number-index t bs h = fun_ext (λ b. rw (h.each b, h.count) (place-index bs b))

module _ (old next : Numbers) (block : ℕ) (counted : next.count ≡ old.count + 1) (bs : List ℕ) (h : Counts old bs) where
  more : next.count ≡ length (bs ++ block ∷ [])
  more = let n = length-append bs (block ∷ []) in let k = h.count in omega (arith, counted, n, k)

  -- a block that was not counted before
  pub added-new : get ghosts.cmp old.given (Core block) ≡ None
      → ((b : BlockId) → get ghosts.cmp next.given b ≡ cond (is_eq (ghosts.cmp (Core block) b)) (Some old.count) (get ghosts.cmp old.given b))
      → Counts next (bs ++ block ∷ [])
  added-new none update = record { count = more; each = λ b. update (Core b) ∙ rw (eq-block (Core block) (Core b), place-push bs block b) (go b (block == b) refl) }
    where
      absent : place_in bs block ≡ None
      absent = sym (h.each block) ∙ none

      go : (b : ℕ) (t : Bool) → (block == b) ≡ t → cond t (Some old.count) (get ghosts.cmp old.given (Core b)) ≡ or_last (place_in bs b) t (length bs)
      go b true e =
          let none-here : place_in bs b ≡ None = subst (λ c. place_in bs c ≡ None) (nat-same block b e) absent in
          rw (none-here) (ap (λ n. Some n) h.count)
      go b false e = h.each b ∙ stays (place_in bs b)
        where
          stays : (o : Option ℕ) → o ≡ or_last o false (length bs)
          stays (Some k) = refl
          stays None = refl

  -- one that was
  pub added-known : (k : ℕ) → get ghosts.cmp old.given (Core block) ≡ Some k → next.given ≡ old.given → Counts next (bs ++ block ∷ [])
  added-known k found same = record { count = more; each = λ b. rw (same, place-push bs block b) (h.each b ∙ go b (block == b) refl) }
    where
      known : place_in bs block ≡ Some k
      known = sym (h.each block) ∙ found

      go : (b : ℕ) (t : Bool) → (block == b) ≡ t → place_in bs b ≡ or_last (place_in bs b) t (length bs)
      go b true e =
          let here : place_in bs b ≡ Some k = subst (λ c. place_in bs c ≡ Some k) (nat-same block b e) known in
          rw here refl
      go b false e = stays (place_in bs b)
        where
          stays : (o : Option ℕ) → o ≡ or_last o false (length bs)
          stays (Some n) = refl
          stays None = refl

-- the blocks so far, and those that are left, are all
pub record SoFar (t : Numbers) (left all : List Item) : Type 0 where
  pub seen : List ℕ
  pub counts : Counts t seen
  pub whole : seen ++ core_numbers (allocated left) ≡ core_numbers (allocated all)

-- the value of a key in a table
pub found-some : (o : Option (Bor ℕ)) (x : Option ℕ) → option_copied o ≡ x → is_some o ≡ true → (k : ℕ) × (x ≡ Some k)
found-some None x e h = absurd (cc h)
found-some (Some r) x e h = (r.now, sym e)

pub found-none : (o : Option (Bor ℕ)) (x : Option ℕ) → option_copied o ≡ x → is_some o ≡ false → x ≡ None
found-none None x e h = sym e
found-none (Some r) x e h = absurd (cc h)
