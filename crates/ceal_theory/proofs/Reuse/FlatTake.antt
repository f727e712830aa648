-- To take from old items is to find in a part of their flat list.
use Rattle.std.proofs.Common.{◌≡◌, ℕ, zero, suc, ◌<◌, ◌≤◌, length, arith, Bool, true, false, if◌then◌else◌, Option}
use Rattle.std.proofs.Common.{Some, None, List, [], ◌∷◌, ◌++◌, append_assoc, append-nil, refl, sym, ap, ◌∙◌, subst}
use Rattle.ceal_base.specs.Trace.{Trace, Nothing, Stepped, Allocated, Wrote, WasRead, flat, trace_then}
use Rattle.ceal_base.specs.declared.forest.Item.{Item}
use Rattle.ceal_base.specs.declared.forest.Item.TheVariants.{Step, Alloc, Write, Read, End}
use Rattle.ceal_base.specs.declared.forest.Key.{Key}
use Rattle.ceal_base.specs.declared.forest.UnitId.{UnitId}
use Rattle.ceal_base.specs.declared.word.BlockId.{BlockId}
use Rattle.ceal_base.specs.declared.word.Place.{Place}
use Rattle.ceal_base.specs.declared.word.Word.{Word}
use Rattle.ceal_code.proofs.Words.SameIsEqual.{some-same, none-some}
use Rattle.ceal_theory.specs.Take.{same_key, TakenAlloc, TakenRead, alloc_then, take_alloc, read_then, take_read}
use Rattle.ceal_theory.specs.Levels.{first, around, levels, loose, beyond, after_item, block_of_key, value_of_read}
use Rattle.ceal_theory.specs.Levels.{skipped, FoundAlloc, alloc_or, find_alloc, FoundRead, read_or, same_read}
use Rattle.ceal_theory.specs.Levels.{find_read, taken_alloc, taken_read}

pub followed-nothing : (f : Trace) → trace_then f Nothing ≡ f
followed-nothing Nothing = refl
followed-nothing (Stepped rest) = ap Stepped (followed-nothing rest)
followed-nothing (Allocated b k rest) = ap (Allocated b k) (followed-nothing rest)
followed-nothing (Wrote p v rest) = ap (Wrote p v) (followed-nothing rest)
followed-nothing (WasRead p v u x args inside rest) = ap (WasRead p v u x args inside) (followed-nothing rest)

pub followed-followed : (f g h : Trace) → trace_then (trace_then f g) h ≡ trace_then f (trace_then g h)
followed-followed Nothing g h = refl
followed-followed (Stepped rest) g h = ap Stepped (followed-followed rest g h)
followed-followed (Allocated b k rest) g h = ap (Allocated b k) (followed-followed rest g h)
followed-followed (Wrote p v rest) g h = ap (Wrote p v) (followed-followed rest g h)
followed-followed (WasRead p v u x args inside rest) g h = ap (WasRead p v u x args inside) (followed-followed rest g h)

-- a part that begins with whole items
pub around-flat : (f : Trace) (is : List Item) → around (levels (flat f ++ is)) ≡ around (levels is)
around-flat Nothing is = refl
around-flat (Stepped rest) is = around-flat rest is
around-flat (Allocated b k rest) is = around-flat rest is
around-flat (Wrote p v rest) is = around-flat rest is
around-flat (WasRead p v u x args inside rest) is =
    rw (append_assoc (flat inside) (End ∷ flat rest) is, around-flat inside (End ∷ (flat rest ++ is))) (around-flat rest is)

pub first-flat : (f : Trace) (is : List Item) → first (levels (flat f ++ is)) ≡ trace_then f (first (levels is))
first-flat Nothing is = refl
first-flat (Stepped rest) is = ap Stepped (first-flat rest is)
first-flat (Allocated b k rest) is = ap (Allocated b k) (first-flat rest is)
first-flat (Wrote p v rest) is = ap (Wrote p v) (first-flat rest is)
first-flat (WasRead p v u x args inside rest) is =
    rw (append_assoc (flat inside) (End ∷ flat rest) is, first-flat inside (End ∷ (flat rest ++ is)), around-flat inside (End ∷ (flat rest ++ is)), first-flat rest is, followed-nothing inside) refl

-- whole items are their trace
pub first-of-flat : (f : Trace) → first (levels (flat f)) ≡ f
first-of-flat f = ap (λ is. first (levels is)) (sym (append-nil (flat f))) ∙ first-flat f [] ∙ followed-nothing f

pub around-of-flat : (f : Trace) → around (levels (flat f)) ≡ []
around-of-flat f = ap (λ is. around (levels is)) (sym (append-nil (flat f))) ∙ around-flat f []

loose-none : (n : ℕ) → loose n [] ≡ Nothing
loose-none zero = refl
loose-none (suc n) = loose-none n

pub loose-one : (ts : List Trace) → loose 1 ts ≡ first ts
loose-one ts = followed-nothing (first ts)

then-then : (r g : Trace) (a b c : Option TakenAlloc) → alloc_then (trace_then r g) a (alloc_then g b c) ≡ alloc_then g (alloc_then r a b) c
then-then r g None b c = refl
then-then r g (Some a) b c = ap (λ l. Some (record a { leftover = l })) (sym (followed-followed a.leftover r g))

if-then : (b : BlockId) (r g : Trace) (t : Bool) (a c d : Option TakenAlloc) → a ≡ alloc_then g c d
    → (if t then Some (record { block = b; leftover = trace_then r g }) else a) ≡ alloc_then g (if t then Some (record { block = b; leftover = r }) else c) d
if-then b r g true a c d e = refl
if-then b r g false a c d e = e

pub alloc-followed : (key : Key) (f g : Trace) → take_alloc key (trace_then f g) ≡ alloc_then g (take_alloc key f) (take_alloc key g)
unfolding take_alloc
alloc-followed key Nothing g = refl
alloc-followed key (Stepped rest) g = alloc-followed key rest g
alloc-followed key (Allocated b k rest) g =
    if-then b rest g (same_key k key) (take_alloc key (trace_then rest g)) (take_alloc key rest) (take_alloc key g) (alloc-followed key rest g)
alloc-followed key (Wrote p v rest) g = alloc-followed key rest g
alloc-followed key (WasRead p v u x args inside rest) g =
    ap (λ o. alloc_then (trace_then rest g) (take_alloc key inside) o) (alloc-followed key rest g) ∙ then-then rest g (take_alloc key inside) (take_alloc key rest) (take_alloc key g)

if-found : (b : BlockId) (is : List Item) (n : ℕ) (t : Bool) (a : Option TakenAlloc) (c : Option FoundAlloc) → a ≡ taken_alloc c
    → (if t then Some (record { block = b; leftover = loose n (levels is) }) else a) ≡ taken_alloc (alloc_or (if t then Some b else None) is n c)
if-found b is n true a c e = refl
if-found b is n false a c e = e

-- to take an allocation of what is left over is to find it
pub take-found : (key : Key) (is : List Item) (n : ℕ) → take_alloc key (loose n (levels is)) ≡ taken_alloc (find_alloc key n is)
unfolding take_alloc find_alloc
take-found key is zero = refl
take-found key [] (suc n) = rw (loose-none n) refl
take-found key (Step ∷ is) (suc n) = take-found key is (suc n)
take-found key (Alloc b k ∷ is) (suc n) =
    if-found b is (suc n) (same_key k key) (take_alloc key (loose (suc n) (levels is))) (find_alloc key (suc n) is) (take-found key is (suc n))
take-found key (Write p v ∷ is) (suc n) = take-found key is (suc n)
take-found key (Read p v u x args ∷ is) (suc n) =
    sym (alloc-followed key (first (levels is)) (loose (suc n) (around (levels is)))) ∙ take-found key is (suc (suc n))
take-found key (End ∷ is) (suc n) = take-found key is n

if-beyond : (b : BlockId) (is : List Item) (n : ℕ) (ts : List Trace) (t : Bool) (c : Option FoundAlloc) (f : FoundAlloc)
    → beyond n (levels is) ≡ ts → (c ≡ Some f → beyond f.levels (levels f.rest) ≡ ts)
    → alloc_or (if t then Some b else None) is n c ≡ Some f → beyond f.levels (levels f.rest) ≡ ts
if-beyond b is n ts true c f h k e = subst (λ g. beyond g.levels (levels g.rest) ≡ ts) (some-same (record { block = b; rest = is; levels = n }) f e) h
if-beyond b is n ts false c f h k e = k e

-- the levels around what is left over stay
pub found-beyond : (key : Key) (is : List Item) (n : ℕ) (f : FoundAlloc) → find_alloc key n is ≡ Some f → beyond f.levels (levels f.rest) ≡ beyond n (levels is)
unfolding find_alloc
found-beyond key is zero f e = none-some f e
found-beyond key [] (suc n) f e = none-some f e
found-beyond key (Step ∷ is) (suc n) f e = found-beyond key is (suc n) f e
found-beyond key (Alloc b k ∷ is) (suc n) f e =
    if-beyond b is (suc n) (beyond (suc n) (levels is)) (same_key k key) (find_alloc key (suc n) is) f refl (found-beyond key is (suc n) f) e
found-beyond key (Write p v ∷ is) (suc n) f e = found-beyond key is (suc n) f e
found-beyond key (Read p v u x args ∷ is) (suc n) f e = found-beyond key is (suc (suc n)) f e
found-beyond key (End ∷ is) (suc n) f e = found-beyond key is n f e

then-then-read : (r g : Trace) (a b c : Option TakenRead) → read_then (trace_then r g) a (read_then g b c) ≡ read_then g (read_then r a b) c
then-then-read r g None b c = refl
then-then-read r g (Some a) b c = ap (λ l. Some (record a { leftover = l })) (sym (followed-followed a.leftover r g))

if-then-read : (v : Word) (i r g : Trace) (t : Bool) (a c d : Option TakenRead) → a ≡ read_then g c d
    → (if t then Some (record { value = v; inside = i; leftover = trace_then r g }) else a) ≡ read_then g (if t then Some (record { value = v; inside = i; leftover = r }) else c) d
if-then-read v i r g true a c d e = refl
if-then-read v i r g false a c d e = e

pub read-followed : (p : Place) (u : UnitId) (x : ℕ) (ws : List Word) (f g : Trace) → take_read p u x ws (trace_then f g) ≡ read_then g (take_read p u x ws f) (take_read p u x ws g)
unfolding take_read
read-followed p u x ws Nothing g = refl
read-followed p u x ws (Stepped rest) g = read-followed p u x ws rest g
read-followed p u x ws (Allocated b k rest) g = read-followed p u x ws rest g
read-followed p u x ws (Wrote q v rest) g = read-followed p u x ws rest g
read-followed p u x ws (WasRead q v w y args inside rest) g =
    if-then-read v inside rest g (same_read q w y args p u x ws)
    (read_then (trace_then rest g) (take_read p u x ws inside) (take_read p u x ws (trace_then rest g))) (read_then rest (take_read p u x ws inside) (take_read p u x ws rest)) (take_read p u x ws g)
    (ap (λ o. read_then (trace_then rest g) (take_read p u x ws inside) o) (read-followed p u x ws rest g)
    ∙ then-then-read rest g (take_read p u x ws inside) (take_read p u x ws rest) (take_read p u x ws g))

if-found-read : (v : Word) (is : List Item) (n : ℕ) (t : Bool) (a : Option TakenRead) (c : Option FoundRead) → a ≡ taken_read c
    → (if t then Some (record { value = v; inside = first (levels is); leftover = loose n (around (levels is)) }) else a)
    ≡ taken_read (read_or (if t then Some v else None) is n c)
if-found-read v is n true a c e = refl
if-found-read v is n false a c e = e

-- to take a read of what is left over is to find it
pub take-found-read : (p : Place) (u : UnitId) (x : ℕ) (ws : List Word) (is : List Item) (n : ℕ)
    → take_read p u x ws (loose n (levels is)) ≡ taken_read (find_read p u x ws n is)
unfolding take_read find_read
take-found-read p u x ws is zero = refl
take-found-read p u x ws [] (suc n) = rw (loose-none n) refl
take-found-read p u x ws (Step ∷ is) (suc n) = take-found-read p u x ws is (suc n)
take-found-read p u x ws (Alloc b k ∷ is) (suc n) = take-found-read p u x ws is (suc n)
take-found-read p u x ws (Write q v ∷ is) (suc n) = take-found-read p u x ws is (suc n)
take-found-read p u x ws (Read q v w y args ∷ is) (suc n) =
    if-found-read v is (suc n) (same_read q w y args p u x ws)
    (read_then (loose (suc n) (around (levels is))) (take_read p u x ws (first (levels is))) (take_read p u x ws (loose (suc n) (around (levels is)))))
    (find_read p u x ws (suc (suc n)) is)
    (sym (read-followed p u x ws (first (levels is)) (loose (suc n) (around (levels is)))) ∙ take-found-read p u x ws is (suc (suc n)))
take-found-read p u x ws (End ∷ is) (suc n) = take-found-read p u x ws is n

if-beyond-read : (v : Word) (is : List Item) (n : ℕ) (ts : List Trace) (t : Bool) (c : Option FoundRead) (f : FoundRead)
    → beyond n (around (levels is)) ≡ ts → (c ≡ Some f → beyond f.levels (around (levels f.rest)) ≡ ts)
    → read_or (if t then Some v else None) is n c ≡ Some f → beyond f.levels (around (levels f.rest)) ≡ ts
if-beyond-read v is n ts true c f h k e = subst (λ g. beyond g.levels (around (levels g.rest)) ≡ ts) (some-same (record { value = v; rest = is; levels = n }) f e) h
if-beyond-read v is n ts false c f h k e = k e

-- the levels around what is left over stay
pub found-beyond-read : (p : Place) (u : UnitId) (x : ℕ) (ws : List Word) (is : List Item) (n : ℕ) (f : FoundRead)
    → find_read p u x ws n is ≡ Some f → beyond f.levels (around (levels f.rest)) ≡ beyond n (levels is)
unfolding find_read
found-beyond-read p u x ws is zero f e = none-some f e
found-beyond-read p u x ws [] (suc n) f e = none-some f e
found-beyond-read p u x ws (Step ∷ is) (suc n) f e = found-beyond-read p u x ws is (suc n) f e
found-beyond-read p u x ws (Alloc b k ∷ is) (suc n) f e = found-beyond-read p u x ws is (suc n) f e
found-beyond-read p u x ws (Write q v ∷ is) (suc n) f e = found-beyond-read p u x ws is (suc n) f e
found-beyond-read p u x ws (Read q v w y args ∷ is) (suc n) f e =
    if-beyond-read v is (suc n) (beyond (suc (suc n)) (levels is)) (same_read q w y args p u x ws) (find_read p u x ws (suc (suc n)) is) f
    refl (found-beyond-read p u x ws is (suc (suc n)) f) e
found-beyond-read p u x ws (End ∷ is) (suc n) f e = found-beyond-read p u x ws is n f e

beyond-none : (n : ℕ) → beyond n [] ≡ []
beyond-none zero = refl
beyond-none (suc n) = beyond-none n

-- the items after some levels are those of the levels around
pub skipped-levels : (n : ℕ) (is : List Item) → levels (skipped n is) ≡ beyond n (levels is)
unfolding skipped
skipped-levels zero is = refl
skipped-levels (suc n) [] = sym (beyond-none n)
skipped-levels (suc n) (Step ∷ is) = skipped-levels (suc n) is
skipped-levels (suc n) (Alloc b k ∷ is) = skipped-levels (suc n) is
skipped-levels (suc n) (Write p v ∷ is) = skipped-levels (suc n) is
skipped-levels (suc n) (Read p v u x args ∷ is) = skipped-levels (suc (suc n)) is
skipped-levels (suc n) (End ∷ is) = skipped-levels n is

-- the search in code, item by item
pub found-zero : (key : Key) (n : ℕ) (is : List Item) → n ≤ 0 → find_alloc key n is ≡ None
unfolding find_alloc
found-zero key zero is h = refl
found-zero key (suc n) is h = absurd (omega (arith, h))

pub found-empty : (key : Key) (n : ℕ) (is : List Item) → length is ≡ 0 → find_alloc key n is ≡ None
unfolding find_alloc
found-empty key zero is h = refl
found-empty key (suc n) [] h = refl
found-empty key (suc n) (i ∷ is) h = absurd (omega (arith, h))

pub found-here : (key : Key) (n : ℕ) (is : List Item) (i : Item) (later : List Item) (o : Option BlockId) (b : BlockId) → is ≡ i ∷ later → 0 < n → o ≡ block_of_key i key → o ≡ Some b
    → find_alloc key n is ≡ Some (record { block = b; rest = later; levels = n })
unfolding find_alloc
found-here key zero is i later o b e h k w = absurd (omega (arith, h))
found-here key (suc n) is i later o b e h k w = rw (e, ← k, w) refl

pub found-next : (key : Key) (n m : ℕ) (is : List Item) (i : Item) (later : List Item) (o : Option BlockId) → is ≡ i ∷ later → 0 < n → o ≡ block_of_key i key → o ≡ None
    → m ≡ after_item i n → find_alloc key m later ≡ find_alloc key n is
unfolding find_alloc
found-next key zero m is i later o e h k w l = absurd (omega (arith, h))
found-next key (suc n) m is i later o e h k w l = rw (e, l, ← k, w) refl

module _ (p : Place) (u : UnitId) (v : ℕ) (args : List Word) where
  pub read-zero : (n : ℕ) (is : List Item) → n ≤ 0 → find_read p u v args n is ≡ None
  unfolding find_read
  read-zero zero is h = refl
  read-zero (suc n) is h = absurd (omega (arith, h))

  pub read-empty : (n : ℕ) (is : List Item) → length is ≡ 0 → find_read p u v args n is ≡ None
  unfolding find_read
  read-empty zero is h = refl
  read-empty (suc n) [] h = refl
  read-empty (suc n) (i ∷ is) h = absurd (omega (arith, h))

  pub read-here : (n : ℕ) (is : List Item) (i : Item) (later : List Item) (o : Option Word) (w : Word) → is ≡ i ∷ later → 0 < n → o ≡ value_of_read i p u v args → o ≡ Some w
      → find_read p u v args n is ≡ Some (record { value = w; rest = later; levels = n })
  unfolding find_read
  read-here zero is i later o w e h k l = absurd (omega (arith, h))
  read-here (suc n) is i later o w e h k l = rw (e, ← k, l) refl

  pub read-next : (n m : ℕ) (is : List Item) (i : Item) (later : List Item) (o : Option Word) → is ≡ i ∷ later → 0 < n → o ≡ value_of_read i p u v args → o ≡ None
      → m ≡ after_item i n → find_read p u v args m later ≡ find_read p u v args n is
  unfolding find_read
  read-next zero m is i later o e h k w l = absurd (omega (arith, h))
  read-next (suc n) m is i later o e h k w l = rw (e, l, ← k, w) refl

pub skipped-next : (n m : ℕ) (is : List Item) (i : Item) (later : List Item) → is ≡ i ∷ later → 0 < n → m ≡ after_item i n → skipped m later ≡ skipped n is
unfolding skipped
skipped-next zero m is i later e h l = absurd (omega (arith, h))
skipped-next (suc n) m is i later e h l = rw (e, l) refl
