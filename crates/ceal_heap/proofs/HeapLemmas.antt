-- What a change of the table and of the region makes of a heap.
use Rattle.std.proofs.Common.{◌≡◌, ◌≢◌, ℕ, zero, suc, ◌+◌, List, [], ◌∷◌, ◌++◌, Option, Some, None, IsSome}
use Rattle.std.proofs.Common.{refl, sym, ap, ◌∙◌, subst, inl, inr, ◌⊎◌, ⊎_elim, arith, slice_get, unwrap_or, rules, IfSome, pos}
use Rattle.std.specs.Option.{option_map}
use Rattle.std.proofs.lemmas.Option.{none-some, same_Some, slice_get_past, unwrap_or-slice_get}
use Rattle.std.proofs.lemmas.Bool.{cases_eq, false≢true}
use Rattle.ceal_base.specs.declared.kind.Shape.{Shape}
use Rattle.ceal_base.specs.declared.word.BlockId.{BlockId}
use Rattle.ceal_base.specs.declared.word.BlockId.TheVariants.{Input, Core}
use Rattle.ceal_base.specs.Block.{Block}
use Rattle.ceal_base.specs.declared.word.Word.{Word}
use Rattle.ceal_base.specs.declared.word.Word.TheVariants.{Num}
use Rattle.ceal_code.specs.PlainWords.{block_word}
use Rattle.ceal_words.specs.Region.{words_of, KeepsAll, KeepsOthers}
use Rattle.ceal_words.specs.SizeClass.{SizeClass}
use Rattle.ceal_words.specs.declared.slot.Slot.{Slot}
use Rattle.ceal_heap.specs.Cells.{words_read, cells_held, cell_count}
use Rattle.ceal_heap.specs.Parts.{filling}
use Rattle.ceal_heap.specs.Table.{held_in, held_of, held_at, is_live, is_revoked, tally, IsLiveAt, NoneFree, NoneRevoked, Reuses, Adds, GivesOut, Revokes, Releases}
use Rattle.ceal_heap.specs.Heap.{Contents, Known, Standing, Unused, Live, Revoked, Released, known_in, state_standing}
use Rattle.ceal_heap.specs.Heap.{number_standing, standing, known, block_of, plain_block, plain_of, word_at, revoked}
use Rattle.ceal_heap.specs.Heap.{released, IsLive, IsMade, NoneReleased, IsFree, KeepsBlocks, HasSlots, number_of}
use Rattle.ceal_heap.specs.Heap.{IsKept, words_held}
use Rattle.ceal_heap.specs.declared.number.Held.{Held}
use Rattle.ceal_heap.specs.declared.number.Number.{Number}
use Rattle.ceal_heap.specs.declared.number.State.{State}
use Rattle.ceal_heap.specs.declared.number.State.TheVariants.{Live as LiveState, Revoked as RevokedState, Released as ReleasedState}
use Rattle.ceal_heap.proofs.TallyLemmas.{get_set_same, get_set_other, get_push_same, get_push_other, tally_set, tally_push}
use Rattle.ceal_heap.proofs.CellsLemmas.{count_some}

cells_some : (o : Option (List ℕ)) (n : ℕ) → cells_held o ≡ cell_count n → IsSome o
cells_some None zero e = absurd (omega (arith, e))
cells_some None (suc n) e = absurd (let h = count_some (suc n) (omega arith) in omega (arith, e, h))
cells_some (Some cells) n e = refl

not_none : {X : Type 0} (o : Option X) → IsSome o → o ≡ None → ⊥
not_none o some none = false≢true (subst IsSome none some)

slot_cases : (a b : Slot) → (a ≡ b) ⊎ (a ≢ b)
slot_cases a b = ⊎_elim
    (λ chunk. ⊎_elim
    (λ at. ⊎_elim
    (λ len. inl (λ i. record { chunk = chunk i; at = at i; len = len i }))
    (λ apart. inr (λ e. apart (ap (λ (s : Slot). s.len) e)))
    (cases_eq a.len b.len))
    (λ apart. inr (λ e. apart (ap (λ (s : Slot). s.at) e)))
    (cases_eq a.at b.at))
    (λ apart. inr (λ e. apart (ap (λ (s : Slot). s.chunk) e)))
    (cases_eq a.chunk b.chunk)

-- what is kept stays so
module _ (held : ℕ → Option Held) (region : List SizeClass) (kept : IsKept held region) where
  -- a slot of the region is there
  pub slot_there : (n : ℕ) (x : Held) → held n ≡ Some x → IsSome (words_of region x.slot)
  slot_there n x some = cells_some (words_of region x.slot) x.parts.kept (kept.cells n x some)

  pub kept_same : (held' : ℕ → Option Held) → ((n : ℕ) → held' n ≡ held n) → IsKept held' region
  kept_same held' same = record {
    cells = λ n x some. kept.cells n x (sym (same n) ∙ some);
    one = λ n m x y a b slots. kept.one n m x y (sym (same n) ∙ a) (sym (same m) ∙ b) slots;
    all = λ slot some. let found = kept.all slot some in (found.0, found.1, same found.0 ∙ found.2, found.3);
  }

  pub kept_all : (region' : List SizeClass) → KeepsAll region region' → IsKept held region'
  kept_all region' all = record {
    cells = λ n x some. ap cells_held (all x.slot) ∙ kept.cells n x some;
    one = kept.one;
    all = λ slot some. kept.all slot (subst IsSome (all slot) some);
  }

  -- a slot was taken for a number that had none
  module _ (held' : ℕ → Option Held) (region' : List SizeClass) (n : ℕ) (h : Held) (here : held' n ≡ Some h) (none : held n ≡ None) (others : (m : ℕ) → m ≢ n → held' m ≡ held m)
      (new : words_of region h.slot ≡ None) (keeps : KeepsOthers h.slot region region') where
    pub apart : (m : ℕ) (x : Held) → held m ≡ Some x → x.slot ≢ h.slot
    apart m x some e = not_none (words_of region x.slot) (slot_there m x some) (ap (words_of region) e ∙ new)

    pub kept_more : cells_held (words_of region' h.slot) ≡ cell_count h.parts.kept → IsKept held' region'
    kept_more cells = record {
      cells = λ m x some. ⊎_elim
          (λ e. subst (λ (y : Held). cells_held (words_of region' y.slot) ≡ cell_count y.parts.kept) (same_Some h x (sym here ∙ ap held' (sym e) ∙ some)) cells)
          (λ other. let was = sym (others m other) ∙ some in ap cells_held (keeps x.slot (apart m x was)) ∙ kept.cells m x was)
          (cases_eq m n);
      one = λ a b x y first second slots. ⊎_elim
          (λ e. ⊎_elim
          (λ f. e ∙ sym f)
          (λ other. absurd (apart b y (sym (others b other) ∙ second) (sym slots ∙ ap (λ (z : Held). z.slot) (sym (same_Some h x (sym here ∙ ap held' (sym e) ∙ first))))))
          (cases_eq b n))
          (λ other. ⊎_elim
          (λ f. absurd (apart a x (sym (others a other) ∙ first) (slots ∙ ap (λ (z : Held). z.slot) (sym (same_Some h y (sym here ∙ ap held' (sym f) ∙ second))))))
          (λ another. kept.one a b x y (sym (others a other) ∙ first) (sym (others b another) ∙ second) slots)
          (cases_eq b n))
          (cases_eq a n);
      all = λ slot some. ⊎_elim
          (λ e. (n, h, here, sym e))
          (λ other. let found = kept.all slot (subst IsSome (keeps slot other) some) in (
            found.0,
            found.1,
            ⊎_elim
                (λ e. absurd (none-some found.1 (sym none ∙ ap held (sym e) ∙ found.2)))
                (λ away. others found.0 away ∙ found.2)
                (cases_eq found.0 n),
            found.3,
          ))
          (slot_cases slot h.slot);
    }

  -- the slot of a number was given back
  module _ (held' : ℕ → Option Held) (region' : List SizeClass) (n : ℕ) (h : Held) (was : held n ≡ Some h) (none : held' n ≡ None) (others : (m : ℕ) → m ≢ n → held' m ≡ held m)
      (gone : words_of region' h.slot ≡ None) (keeps : KeepsOthers h.slot region region') where
    left : (m : ℕ) (x : Held) → held' m ≡ Some x → (m ≢ n) × (held m ≡ Some x)
    left m x some = ⊎_elim
        (λ e. absurd (none-some x (sym none ∙ ap held' (sym e) ∙ some)))
        (λ other. (other, sym (others m other) ∙ some))
        (cases_eq m n)

    pub away : (m : ℕ) (x : Held) → m ≢ n → held m ≡ Some x → x.slot ≢ h.slot
    away m x other some e = other (kept.one m n x h some was e)

    pub kept_less : IsKept held' region'
    kept_less = record {
      cells = λ m x some. let l = left m x some in ap cells_held (keeps x.slot (away m x l.0 l.1)) ∙ kept.cells m x l.1;
      one = λ a b x y first second slots. kept.one a b x y (left a x first).1 (left b y second).1 slots;
      all = λ slot some.
          let other : slot ≢ h.slot = λ e. not_none (words_of region' slot) some (ap (words_of region') e ∙ gone) in
          let found = kept.all slot (subst IsSome (keeps slot other) some) in
          (found.0, found.1, others found.0 (λ e. other (sym found.3 ∙ ap (λ (z : Held). z.slot) (same_Some found.1 h (sym found.2 ∙ ap held e ∙ was)))) ∙ found.2, found.3);
    }

-- what is known of a number, by what is kept of it
abbrev pub Found : List SizeClass → Option Number → Known → Type 0
Found region o block = (x : Number) × (h : Held) × (o ≡ Some x) × (held_in x.state ≡ Some h) × (block ≡ known_in region x.shape h)

state_found : (region : List SizeClass) (x : Number) (s : State) (block : Known) → known (state_standing region x.shape s) ≡ Some block
    → (h : Held) × (held_in s ≡ Some h) × (block ≡ known_in region x.shape h)
state_found region x (LiveState h) block some = (h, refl, sym (same_Some (known_in region x.shape h) block some))
state_found region x (RevokedState h) block some = (h, refl, sym (same_Some (known_in region x.shape h) block some))
state_found region x ReleasedState block some = absurd (none-some block some)

number_found : (region : List SizeClass) (o : Option Number) (block : Known) → known (number_standing region o) ≡ Some block → Found region o block
number_found region None block some = absurd (none-some block some)
number_found region (Some x) block some = let found = state_found region x x.state block some in (x, found.0, refl, found.1, found.2)

-- a block of which something is known
pub found_at : (c : Contents) (b : BlockId) (block : Known) → block_of c b ≡ Some block → (b ≡ Core (number_of b)) × Found c.region (slice_get c.numbers (number_of b)) block
found_at c (Input n) block some = absurd (none-some block some)
found_at c (Core n) block some = (refl, number_found c.region (slice_get c.numbers n) block some)

held_found : (c : Contents) (b : BlockId) (block : Known) → block_of c b ≡ Some block → (h : Held) × (held_at c.numbers (number_of b) ≡ Some h) × (block.slot ≡ h.slot)
held_found c b block some = let found = found_at c b block some in let f = found.1 in
    (f.1, ap held_of f.2 ∙ f.3, ap (λ (k : Known). k.slot) f.4)

state_known : (region : List SizeClass) (x : Number) (s : State) (h : Held) → held_in s ≡ Some h → known (state_standing region x.shape s) ≡ Some (known_in region x.shape h)
state_known region x (LiveState k) h some = ap (λ (y : Held). Some (known_in region x.shape y)) (same_Some k h some)
state_known region x (RevokedState k) h some = ap (λ (y : Held). Some (known_in region x.shape y)) (same_Some k h some)
state_known region x ReleasedState h some = absurd (none-some h some)

number_known : (region : List SizeClass) (o : Option Number) (h : Held) → held_of o ≡ Some h → (block : Known) × (known (number_standing region o) ≡ Some block) × (block.slot ≡ h.slot)
number_known region None h some = absurd (none-some h some)
number_known region (Some x) h some = (known_in region x.shape h, state_known region x x.state h some, refl)

-- so the slots are those of the blocks
pub slots_of : (c : Contents) → IsKept (held_at c.numbers) c.region → HasSlots c
slots_of c kept = record {
  there = λ b block some. let found = held_found c b block some in
      subst (λ (slot : Slot). IsSome (words_of c.region slot)) (sym found.2) (slot_there (held_at c.numbers) c.region kept (number_of b) found.0 found.1);
  one = λ a b x y first second slots.
      let f = held_found c a x first in let g = held_found c b y second in
      (found_at c a x first).0 ∙ ap Core (kept.one (number_of a) (number_of b) f.0 g.0 f.1 g.1 (sym f.2 ∙ slots ∙ g.2)) ∙ sym (found_at c b y second).0;
  all = λ slot some. let found = kept.all slot some in let is = number_known c.region (slice_get c.numbers found.0) found.1 found.2 in
      (Core found.0, is.0, is.1, is.2 ∙ found.3);
}

-- a number whose slot keeps its words has the same state
state_same : (region region' : List SizeClass) (shape : Shape) (s : State) → ((x : Held) → held_in s ≡ Some x → words_of region' x.slot ≡ words_of region x.slot)
    → state_standing region' shape s ≡ state_standing region shape s
state_same region region' shape (LiveState h) same = ap (λ (o : Option (List ℕ)). Live (record { shape = shape; words = words_read o ++ filling h.parts; slot = h.slot })) (same h refl)
state_same region region' shape (RevokedState h) same = ap (λ (o : Option (List ℕ)). Revoked (record { shape = shape; words = words_read o ++ filling h.parts; slot = h.slot })) (same h refl)
state_same region region' shape ReleasedState same = refl

number_same : (region region' : List SizeClass) (o : Option Number) → ((x : Held) → held_of o ≡ Some x → words_of region' x.slot ≡ words_of region x.slot)
    → number_standing region' o ≡ number_standing region o
number_same region region' None same = refl
number_same region region' (Some x) same = state_same region region' x.shape x.state same

-- the number of a block that is no other's
other_number : (n m : ℕ) → Core m ≢ Core n → m ≢ n
other_number n m other e = other (ap Core e)

-- a number changes, and the region only at its slot
others_same : (before after : List Number) (region region' : List SizeClass) (n : ℕ) → ((m : ℕ) → m ≢ n → slice_get after m ≡ slice_get before m)
    → ((m : ℕ) (x : Held) → m ≢ n → held_at before m ≡ Some x → words_of region' x.slot ≡ words_of region x.slot)
    → KeepsBlocks (Core n) (record { numbers = before; region = region }) (record { numbers = after; region = region' })
others_same before after region region' n numbers words (Input m) other = refl
others_same before after region region' n numbers words (Core m) other =
    let apart = other_number n m other in
    ap (number_standing region') (numbers m apart) ∙ number_same region region' (slice_get before m) (λ x some. words m x apart some)

-- what giving out a number does
pub record Given (before after : List Number) (shape : Shape) (h : Held) (n : ℕ) : Type 0 where
  pub none : held_at before n ≡ None
  pub here : slice_get after n ≡ Some (record { shape = shape; state = LiveState h })
  pub others : (m : ℕ) → m ≢ n → slice_get after m ≡ slice_get before m
  pub count : tally is_live after ≡ tally is_live before + 1

reused_given : (before after : List Number) (old shape : Shape) (h : Held) (n : ℕ) → Reuses before after old shape h n → Given before after shape h n
reused_given before after old shape h n is =
    let free : Number = record { shape = old; state = ReleasedState } in let live : Number = record { shape = shape; state = LiveState h } in record {
      none = ap held_of is.was;
      here = ap (λ (xs : List Number). slice_get xs n) is.now ∙ get_set_same before n free live is.was;
      others = λ m other. ap (λ (xs : List Number). slice_get xs m) is.now ∙ get_set_other before n m live other;
      count = let e = ap (tally is_live) is.now in let counted = tally_set is_live before n free live is.was in omega (arith, e, counted);
    }

added_given : (before after : List Number) (shape : Shape) (h : Held) (n : ℕ) → Adds before after shape h n → Given before after shape h n
added_given before after shape h n is =
    let live : Number = record { shape = shape; state = LiveState h } in record {
      none = ap held_of (slice_get_past before n (let e = is.next in omega (arith, e)));
      here = ap (λ (xs : List Number). slice_get xs n) is.now ∙ ap (slice_get (before ++ live ∷ [])) is.next ∙ get_push_same before live;
      others = λ m other. ap (λ (xs : List Number). slice_get xs m) is.now ∙ get_push_other before live m (λ e. other (e ∙ sym is.next));
      count = let e = ap (tally is_live) is.now in let counted = tally_push is_live before live in omega (arith, e, counted);
    }

pub given : (before after : List Number) (shape : Shape) (h : Held) (n : ℕ) (old : Option Shape) → GivesOut before after shape h n old → Given before after shape h n
given before after shape h n (Some old) is = reused_given before after old shape h n is
given before after shape h n None is = added_given before after shape h n is

-- a number that is released
state_free : (region : List SizeClass) (shape other : Shape) (s : State) → state_standing region shape s ≡ Released other → (shape ≡ other) × (s ≡ ReleasedState)
state_free region shape other (LiveState held) e = absurd (search rules)
state_free region shape other (RevokedState held) e = absurd (search rules)
state_free region shape other ReleasedState e = (ap (shape_of shape) e, refl)
  where
    shape_of : Shape → Standing → Shape
    shape_of s Unused = s
    shape_of s (Live block) = s
    shape_of s (Revoked block) = s
    shape_of s (Released is) = is

number_free : (region : List SizeClass) (o : Option Number) (shape : Shape) → number_standing region o ≡ Released shape → o ≡ Some (record { shape = shape; state = ReleasedState })
number_free region None shape e = absurd (search rules)
number_free region (Some x) shape e = let free = state_free region x.shape shape x.state e in ap Some (λ i. record { shape = free.0 i; state = free.1 i })

none_released : (c : Contents) → NoneFree c.numbers → NoneReleased c
none_released c none (Input n) shape e = absurd (search rules)
none_released c none (Core n) shape e = none n shape (number_free c.region (slice_get c.numbers n) shape e)

-- a number that was given out was free
pub was_free : (c : Contents) (after : List Number) (shape : Shape) (h : Held) (n : ℕ) (old : Option Shape) → GivesOut c.numbers after shape h n old → IsFree c (Core n) old
was_free c after shape h n (Some old) is = ap (number_standing c.region) is.was
was_free c after shape h n None is = (ap Core is.next, none_released c is.none_free)

-- a number was given out to a block whose words were written
module _ (before after : List Number) (region region' : List SizeClass) (shape : Shape) (h : Held) (n : ℕ) (kept : IsKept (held_at before) region)
    (is : Given before after shape h n) (new : words_of region h.slot ≡ None) (keeps : KeepsOthers h.slot region region') where
  pub make_kept : cells_held (words_of region' h.slot) ≡ cell_count h.parts.kept → IsKept (held_at after) region'
  make_kept cells = kept_more (held_at before) region kept (held_at after) region' n h (ap held_of is.here) is.none (λ m other. ap held_of (is.others m other)) new keeps cells

  pub make_others : KeepsBlocks (Core n) (record { numbers = before; region = region }) (record { numbers = after; region = region' })
  make_others = others_same before after region region' n is.others
      (λ m x other some. keeps x.slot (apart (held_at before) region kept (held_at after) region' n h (ap held_of is.here) is.none (λ m other. ap held_of (is.others m other)) new keeps m x some))

  pub make_made : (words : List Word) → words_held region' h ≡ words → IsMade (record { numbers = after; region = region' }) (Core n) shape words
  make_made words e = (h.slot, ap (number_standing region') is.here ∙ ap (λ (ws : List Word). Live (record { shape = shape; words = ws; slot = h.slot })) e)

-- a block that is live
state_live : (region : List SizeClass) (shape : Shape) (s : State) (block : Known) → state_standing region shape s ≡ Live block → (held : Held) × (s ≡ LiveState held)
state_live region shape (LiveState held) block e = (held, refl)
state_live region shape (RevokedState held) block e = absurd (search rules)
state_live region shape ReleasedState block e = absurd (search rules)

number_live : (region : List SizeClass) (o : Option Number) (block : Known) → number_standing region o ≡ Live block
    → (shape : Shape) × (held : Held) × (o ≡ Some (record { shape = shape; state = LiveState held }))
number_live region None block e = absurd (search rules)
number_live region (Some x) block e = let live = state_live region x.shape x.state block e in (x.shape, live.0, ap Some (λ i. record { shape = x.shape; state = live.1 i }))

pub live_at : (c : Contents) (b : BlockId) → IsLive c b → (b ≡ Core (number_of b)) × IsLiveAt c.numbers (number_of b)
live_at c (Input n) live = absurd (let e = live.1 in search rules)
live_at c (Core n) live = (refl, number_live c.region (slice_get c.numbers n) live.0 live.1)

-- a live block was revoked
module _ (before after : List Number) (region : List SizeClass) (n : ℕ) (is : Revokes before after n) where
  revoked_here : slice_get after n ≡ Some (record { shape = is.0; state = RevokedState is.1 })
  revoked_here = ap (λ (xs : List Number). slice_get xs n) is.3 ∙ get_set_same before n (record { shape = is.0; state = LiveState is.1 }) (record { shape = is.0; state = RevokedState is.1 }) is.2

  revoked_there : (m : ℕ) → m ≢ n → slice_get after m ≡ slice_get before m
  revoked_there m other = ap (λ (xs : List Number). slice_get xs m) is.3 ∙ get_set_other before n m (record { shape = is.0; state = RevokedState is.1 }) other

  pub revoke_kept : IsKept (held_at before) region → IsKept (held_at after) region
  revoke_kept kept = kept_same (held_at before) region kept (held_at after) (λ m. ⊎_elim
      (λ e. ap (held_at after) e ∙ ap held_of revoked_here ∙ sym (ap held_of is.2) ∙ sym (ap (held_at before) e))
      (λ other. ap held_of (revoked_there m other))
      (cases_eq m n))

  pub revoke_here : standing (record { numbers = after; region = region }) (Core n) ≡ revoked (standing (record { numbers = before; region = region }) (Core n))
  revoke_here = ap (number_standing region) revoked_here ∙ sym (ap (λ (o : Option Number). revoked (number_standing region o)) is.2)

  pub revoke_others : KeepsBlocks (Core n) (record { numbers = before; region = region }) (record { numbers = after; region = region })
  revoke_others = others_same before after region region n revoked_there (λ m x other some. refl)

  pub revoke_count : tally is_live after + 1 ≡ tally is_live before
  revoke_count = let e = ap (tally is_live) is.3 in
      let counted = tally_set is_live before n (record { shape = is.0; state = LiveState is.1 }) (record { shape = is.0; state = RevokedState is.1 }) is.2 in omega (arith, e, counted)

-- a revoked block was taken away, and its slot was given back
module _ (before after : List Number) (region region' : List SizeClass) (h : Held) (is : Releases before after h) where
  released_here : slice_get after is.0 ≡ Some (record { shape = is.1; state = ReleasedState })
  released_here = ap (λ (xs : List Number). slice_get xs is.0) is.3 ∙ get_set_same before is.0 (record { shape = is.1; state = RevokedState h }) (record { shape = is.1; state = ReleasedState }) is.2

  released_there : (m : ℕ) → m ≢ is.0 → slice_get after m ≡ slice_get before m
  released_there m other = ap (λ (xs : List Number). slice_get xs m) is.3 ∙ get_set_other before is.0 m (record { shape = is.1; state = ReleasedState }) other

  pub release_slot : IsKept (held_at before) region → IsSome (words_of region h.slot)
  release_slot kept = slot_there (held_at before) region kept is.0 h (ap held_of is.2)

  pub release_kept : IsKept (held_at before) region → words_of region' h.slot ≡ None → KeepsOthers h.slot region region' → IsKept (held_at after) region'
  release_kept kept gone keeps = kept_less (held_at before) region kept (held_at after) region' is.0 h (ap held_of is.2) (ap held_of released_here)
      (λ m other. ap held_of (released_there m other)) gone keeps

  pub release_each : IsKept (held_at before) region → words_of region' h.slot ≡ None → KeepsOthers h.slot region region' → (b : BlockId)
      → released (standing (record { numbers = after; region = region' }) b) ≡ released (standing (record { numbers = before; region = region }) b)
  release_each kept gone keeps (Input m) = refl
  release_each kept gone keeps (Core m) = ⊎_elim
      (λ e. ap (λ (k : ℕ). released (number_standing region' (slice_get after k))) e ∙ ap (λ (o : Option Number). released (number_standing region' o)) released_here
      ∙ sym (ap (λ (k : ℕ). released (number_standing region (slice_get before k))) e ∙ ap (λ (o : Option Number). released (number_standing region o)) is.2))
      (λ other. ap released (others_same before after region region' is.0 released_there
      (λ k x apart some. keeps x.slot (away (held_at before) region kept (held_at after) region' is.0 h (ap held_of is.2) (ap held_of released_here)
      (λ m other. ap held_of (released_there m other)) gone keeps k x apart some))
      (Core m) (λ e. other (ap number_of e))))
      (cases_eq m is.0)

  pub release_fewer : tally is_revoked after + 1 ≡ tally is_revoked before
  release_fewer = let e = ap (tally is_revoked) is.3 in
      let counted = tally_set is_revoked before is.0 (record { shape = is.1; state = RevokedState h }) (record { shape = is.1; state = ReleasedState }) is.2 in omega (arith, e, counted)

  pub release_count : tally is_live after ≡ tally is_live before
  release_count = let e = ap (tally is_live) is.3 in
      let counted = tally_set is_live before is.0 (record { shape = is.1; state = RevokedState h }) (record { shape = is.1; state = ReleasedState }) is.2 in omega (arith, e, counted)

state_stays : (region : List SizeClass) (shape : Shape) (s : State) → ((held : Held) → s ≢ RevokedState held) → state_standing region shape s ≡ released (state_standing region shape s)
state_stays region shape (LiveState h) none = refl
state_stays region shape (RevokedState h) none = absurd (none h refl)
state_stays region shape ReleasedState none = refl

number_stays : (region : List SizeClass) (o : Option Number) → ((shape : Shape) (held : Held) → o ≢ Some (record { shape = shape; state = RevokedState held }))
    → number_standing region o ≡ released (number_standing region o)
number_stays region None none = refl
number_stays region (Some x) none = state_stays region x.shape x.state (λ held e. none x.shape held (ap Some (λ i. record { shape = x.shape; state = e i })))

-- where no block is revoked, any state is right for each
pub all_stay : (c : Contents) → NoneRevoked c.numbers → (b : BlockId) → standing c b ≡ released (standing c b)
all_stay c none (Input n) = refl
all_stay c none (Core n) = number_stays c.region (slice_get c.numbers n) (none n)

-- a word of a block, by what is kept of it
state_word : (region : List SizeClass) (shape : Shape) (s : State) (h : Held) (i : ℕ) → held_in s ≡ Some h
    → block_word (option_map plain_block (known (state_standing region shape s))) i ≡ slice_get (words_held region h) i
state_word region shape (LiveState k) h i some = ap (λ (x : Held). slice_get (words_held region x) i) (same_Some k h some)
state_word region shape (RevokedState k) h i some = ap (λ (x : Held). slice_get (words_held region x) i) (same_Some k h some)
state_word region shape ReleasedState h i some = absurd (none-some h some)

number_word : (region : List SizeClass) (o : Option Number) (h : Held) (i : ℕ) → held_of o ≡ Some h
    → block_word (option_map plain_block (known (number_standing region o))) i ≡ slice_get (words_held region h) i
number_word region None h i some = absurd (none-some h some)
number_word region (Some x) h i some = state_word region x.shape x.state h i some

pub word_there : (c : Contents) (n : ℕ) (h : Held) (i : ℕ) → held_at c.numbers n ≡ Some h
    → block_word (plain_of c (Core n)) i ≡ slice_get (words_held c.region h) i
word_there c n h i some = number_word c.region (slice_get c.numbers n) h i some

if_word : (o : Option Block) (i : ℕ) (w : Option Word) → block_word o i ≡ w → IfSome o (λ block. unwrap_or w (Num (pos 0)) ≡ word_at block.words i)
if_word None i w same = tt
if_word (Some block) i w same = ap (λ (o : Option Word). unwrap_or o (Num (pos 0))) (sym same) ∙ unwrap_or-slice_get block.words i (Num (pos 0))

-- the word of a block's field, and past its words the number 0
pub field_word : (c : Contents) (b : BlockId) (h : Held) (i : ℕ) (w : Option Word) → held_at c.numbers (number_of b) ≡ Some h → w ≡ slice_get (words_held c.region h) i
    → IfSome (plain_of c b) (λ block. unwrap_or w (Num (pos 0)) ≡ word_at block.words i)
field_word c (Input n) h i w held found = tt
field_word c (Core n) h i w held found = if_word (plain_of c (Core n)) i w (word_there c n h i held ∙ sym found)

state_unknown : (region : List SizeClass) (shape : Shape) (s : State) → held_in s ≡ None → known (state_standing region shape s) ≡ None
state_unknown region shape (LiveState h) none = absurd (none-some h (sym none))
state_unknown region shape (RevokedState h) none = absurd (none-some h (sym none))
state_unknown region shape ReleasedState none = refl

number_unknown : (region : List SizeClass) (o : Option Number) → held_of o ≡ None → known (number_standing region o) ≡ None
number_unknown region None none = refl
number_unknown region (Some x) none = state_unknown region x.shape x.state none

-- a number without a block
pub unknown : (c : Contents) (n : ℕ) → held_at c.numbers n ≡ None → block_of c (Core n) ≡ None
unknown c n none = number_unknown c.region (slice_get c.numbers n) none
