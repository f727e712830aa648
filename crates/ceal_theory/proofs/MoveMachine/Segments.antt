-- What is found in an interval of flat items, and flat items renamed.
use Rattle.std.proofs.Common.{◌≡◌, ℕ, zero, suc, Option, Some, None, List, [], ◌∷◌, ◌++◌, refl, ap, ◌∙◌}
use Rattle.ceal_base.specs.Trace.{Nothing, Stepped, Allocated, Wrote, WasRead, flat}
use Rattle.ceal_base.specs.declared.forest.Item.{Item}
use Rattle.ceal_base.specs.declared.forest.Item.TheVariants.{Step, Alloc, Write, Read, End}
use Rattle.ceal_base.specs.declared.forest.Key.{Key}
use Rattle.ceal_base.specs.declared.forest.UnitId.{UnitId}
use Rattle.ceal_base.specs.declared.word.BlockId.{BlockId}
use Rattle.ceal_base.specs.declared.word.Place.{Place}
use Rattle.ceal_base.specs.declared.word.Word.{Word}
use Rattle.ceal_code.proofs.Words.SameIsEqual.{some-same, none-some}
use Rattle.ceal_theory.specs.Levels.{after_item, block_of_key, value_of_read, skipped, find_alloc, find_read}
use Rattle.ceal_theory.specs.Named.{id_by, place_by, word_by, key_by}
use Rattle.ceal_theory.specs.Segments.{opens, then_opens, opens_all, NoAlloc, NoRead, SegmentLaw, item_by, items_by, RenamedItemsLaw}

-- the levels after an item are one more than the reads that are open after it
opens-levels : (i : Item) (n k : ℕ) → opens i n ≡ Some k → after_item i (suc n) ≡ suc k
opens-levels Step n k e = ap suc (some-same n k e)
opens-levels (Alloc b key) n k e = ap suc (some-same n k e)
opens-levels (Write p v) n k e = ap suc (some-same n k e)
opens-levels (Read p v u x args) n k e = ap suc (some-same (suc n) k e)
opens-levels End zero k e = none-some k e
opens-levels End (suc n) k e = ap suc (some-same n k e)

module _ (key : Key) where
  alloc-next : (i : Item) (front : List Item) (n : ℕ) → block_of_key i key ≡ None → find_alloc key (suc n) (i ∷ front) ≡ find_alloc key (after_item i (suc n)) front
  unfolding find_alloc
  alloc-next i front n e = rw e refl

  alloc-found : (front : List Item) (n k : ℕ) → opens_all front n ≡ Some k → NoAlloc key front → (i : Item) (block : BlockId) (back : List Item) → block_of_key i key ≡ Some block
      → find_alloc key (suc n) (front ++ i ∷ back) ≡ Some (record { block = block; rest = back; levels = suc k })
  unfolding find_alloc
  alloc-found [] n k e h i block back w = rw (w, some-same n k e) refl
  alloc-found (j ∷ front) n k e h i block back w = alloc-next j (front ++ i ∷ back) n h.0 ∙ go (opens j n) refl (λ m d. alloc-found front m k d h.1 i block back w) e
    where
      go : (o : Option ℕ) → opens j n ≡ o → ((m : ℕ) → opens_all front m ≡ Some k → find_alloc key (suc m) (front ++ i ∷ back) ≡ Some (record { block = block; rest = back; levels = suc k }))
          → then_opens o (opens_all front) ≡ Some k → find_alloc key (after_item j (suc n)) (front ++ i ∷ back) ≡ Some (record { block = block; rest = back; levels = suc k })
      go None o f d = none-some k d
      go (Some m) o f d = rw (opens-levels j n m o) (f m d)

  alloc-none : (front : List Item) (n k : ℕ) → opens_all front n ≡ Some k → NoAlloc key front → (back : List Item) → k ≡ 0 → find_alloc key (suc n) (front ++ End ∷ back) ≡ None
  unfolding find_alloc
  alloc-none [] n k e h back w = rw (some-same n k e ∙ w) refl
  alloc-none (j ∷ front) n k e h back w = alloc-next j (front ++ End ∷ back) n h.0 ∙ go (opens j n) refl (λ m d. alloc-none front m k d h.1 back w) e
    where
      go : (o : Option ℕ) → opens j n ≡ o → ((m : ℕ) → opens_all front m ≡ Some k → find_alloc key (suc m) (front ++ End ∷ back) ≡ None)
          → then_opens o (opens_all front) ≡ Some k → find_alloc key (after_item j (suc n)) (front ++ End ∷ back) ≡ None
      go None o f d = none-some k d
      go (Some m) o f d = rw (opens-levels j n m o) (f m d)

module _ (p : Place) (u : UnitId) (v : ℕ) (args : List Word) where
  read-next : (i : Item) (front : List Item) (n : ℕ) → value_of_read i p u v args ≡ None → find_read p u v args (suc n) (i ∷ front) ≡ find_read p u v args (after_item i (suc n)) front
  unfolding find_read
  read-next i front n e = rw e refl

  read-found : (front : List Item) (n k : ℕ) → opens_all front n ≡ Some k → NoRead p u v args front → (i : Item) (value : Word) (back : List Item) → value_of_read i p u v args ≡ Some value
      → find_read p u v args (suc n) (front ++ i ∷ back) ≡ Some (record { value = value; rest = back; levels = suc k })
  unfolding find_read
  read-found [] n k e h i value back w = rw (w, some-same n k e) refl
  read-found (j ∷ front) n k e h i value back w = read-next j (front ++ i ∷ back) n h.0 ∙ go (opens j n) refl (λ m d. read-found front m k d h.1 i value back w) e
    where
      go : (o : Option ℕ) → opens j n ≡ o → ((m : ℕ) → opens_all front m ≡ Some k → find_read p u v args (suc m) (front ++ i ∷ back) ≡ Some (record { value = value; rest = back; levels = suc k }))
          → then_opens o (opens_all front) ≡ Some k → find_read p u v args (after_item j (suc n)) (front ++ i ∷ back) ≡ Some (record { value = value; rest = back; levels = suc k })
      go None o f d = none-some k d
      go (Some m) o f d = rw (opens-levels j n m o) (f m d)

  read-none : (front : List Item) (n k : ℕ) → opens_all front n ≡ Some k → NoRead p u v args front → (back : List Item) → k ≡ 0 → find_read p u v args (suc n) (front ++ End ∷ back) ≡ None
  unfolding find_read
  read-none [] n k e h back w = rw (some-same n k e ∙ w) refl
  read-none (j ∷ front) n k e h back w = read-next j (front ++ End ∷ back) n h.0 ∙ go (opens j n) refl (λ m d. read-none front m k d h.1 back w) e
    where
      go : (o : Option ℕ) → opens j n ≡ o → ((m : ℕ) → opens_all front m ≡ Some k → find_read p u v args (suc m) (front ++ End ∷ back) ≡ None)
          → then_opens o (opens_all front) ≡ Some k → find_read p u v args (after_item j (suc n)) (front ++ End ∷ back) ≡ None
      go None o f d = none-some k d
      go (Some m) o f d = rw (opens-levels j n m o) (f m d)

skipped-item : (i : Item) (n k : ℕ) (is : List Item) → after_item i (suc n) ≡ suc k → skipped (suc n) (i ∷ is) ≡ skipped (suc k) is
unfolding skipped
skipped-item i n k is e = ap (λ m. skipped m is) e

skipped-end : (front : List Item) (n k : ℕ) → opens_all front n ≡ Some k → (back : List Item) → k ≡ 0 → skipped (suc n) (front ++ End ∷ back) ≡ back
unfolding skipped
skipped-end [] n k e back w = rw (some-same n k e ∙ w) refl
skipped-end (j ∷ front) n k e back w = go (opens j n) refl (λ m d. skipped-end front m k d back w) e
  where
    go : (o : Option ℕ) → opens j n ≡ o → ((m : ℕ) → opens_all front m ≡ Some k → skipped (suc m) (front ++ End ∷ back) ≡ back)
        → then_opens o (opens_all front) ≡ Some k → skipped (suc n) (j ∷ front ++ End ∷ back) ≡ back
    go None o f d = none-some k d
    go (Some m) o f d = skipped-item j n m (front ++ End ∷ back) (opens-levels j n m o) ∙ f m d

pub segment-law : SegmentLaw
segment-law n k front e = (
  skipped-end front n k e,
  λ key h. (alloc-found key front n k e h, alloc-none key front n k e h),
  λ p u v args h. (read-found p u v args front n k e h, read-none p u v args front n k e h),
)

items-append : (r : ℕ → ℕ) (is js : List Item) → items_by r (is ++ js) ≡ items_by r is ++ items_by r js
items-append r [] js = refl
items-append r (i ∷ is) js = ap (λ ks. item_by r i ∷ ks) (items-append r is js)

pub renamed-items-law : RenamedItemsLaw
renamed-items-law r Nothing = refl
renamed-items-law r (Stepped rest) = ap (λ is. Step ∷ is) (renamed-items-law r rest)
renamed-items-law r (Allocated b key rest) = ap (λ is. Alloc (id_by r b) (key_by r key) ∷ is) (renamed-items-law r rest)
renamed-items-law r (Wrote p v rest) = ap (λ is. Write (place_by r p) (word_by r v) ∷ is) (renamed-items-law r rest)
renamed-items-law r (WasRead p v u x args inside rest) =
    rw (items-append r (flat inside) (End ∷ flat rest), renamed-items-law r inside, renamed-items-law r rest) refl
