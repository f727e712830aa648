-- A change of one size class is a change only of its slots.
use Rattle.std.proofs.Common.{◌≡◌, ◌≢◌, ℕ, zero, suc, ◌+◌, ◌-◌, ◌^◌, ◌<◌, List, [], ◌∷◌, ◌++◌, length, get_or, set}
use Rattle.std.proofs.Common.{replicate, Bool, cond, Option, Some, None, IsSome, IfSome, refl, sym, ap, ◌∙◌, subst, inl}
use Rattle.std.proofs.Common.{inr, ◌⊎◌, ⊎_elim, arith, slice_get}
use Rattle.std.proofs.lemmas.List.{get_or-set_same, get_or-set_other, get_or_past, length-set, get_or_append_left, get_or-append_right, get_or-replicate, length-replicate, length_push}
use Rattle.std.proofs.lemmas.Option.{slice_get-get_or, slice_get_past, slice_get_within, slice_get_read}
use Rattle.std.specs.Int.Count.{leading_unique}
use Rattle.std.proofs.lemmas.Bool.{cases_lt, cases_eq, eq-eqb, ne_eqb, false≢true}
use Rattle.ceal_words.specs.Lengths.{size_class, RoundsTo}
use Rattle.ceal_words.specs.SizeClass.{SizeClass, words_at, word_in, changed, given, with_word, grown}
use Rattle.ceal_words.specs.Region.{of_length, words_in, words_of, word_of, spare_in, spare, KeepsOthers, KeepsAll, KeepsOtherSpares, KeepsSpares, IsInOrder, AreNew}
use Rattle.ceal_words.specs.declared.slot.Slot.{Slot}

get_set_same : {X : Type 0} (xs : List X) (i : ℕ) (x : X) → i < length xs → slice_get (set xs i x) i ≡ Some x
get_set_same xs i x inside = slice_get-get_or (set xs i x) i x (let e = length-set xs i x in omega (arith, e, inside)) ∙ ap Some (get_or-set_same xs i x x inside)

get_set_other : {X : Type 0} (xs : List X) (i j : ℕ) (x : X) → j ≢ i → slice_get (set xs i x) j ≡ slice_get xs j
get_set_other [] i j x other = refl
get_set_other (y ∷ xs) zero zero x other = absurd (other refl)
get_set_other (y ∷ xs) zero (suc j) x other = refl
get_set_other (y ∷ xs) (suc i) zero x other = refl
get_set_other (y ∷ xs) (suc i) (suc j) x other = get_set_other xs i j x (λ e. other (ap suc e))

-- the words that a slot of this length sees
of_same : (len : ℕ) (words : List ℕ) → length words ≡ len → of_length len (Some words) ≡ Some words
of_same len words e = ap (λ (b : Bool). cond b (Some words) None) (eq-eqb (length words) len e)

of_other : (len : ℕ) (words : List ℕ) → length words ≢ len → of_length len (Some words) ≡ None
of_other len words e = ap (λ (b : Bool). cond b (Some words) None) (ne_eqb (length words) len e)

-- a piece whose words are of this length, or that is free
abbrev pub OnlyOf : ℕ → Option (List ℕ) → Type 0
OnlyOf len None = Unit {0}
OnlyOf len (Some words) = length words ≡ len

no_other : (len : ℕ) (p : Option (List ℕ)) → OnlyOf len p → (len' : ℕ) → len' ≢ len → of_length len' p ≡ None
no_other len None only len' apart = refl
no_other len (Some words) only len' apart = of_other len' words (λ e. apart (sym e ∙ only))

-- what a slot's length says of its piece
pub of_found : (len : ℕ) (p : Option (List ℕ)) → IsSome (of_length len p) → OnlyOf len p × (of_length len p ≡ p)
of_found len None none = absurd (false≢true none)
of_found len (Some words) some = ⊎_elim
    (λ same. (same, of_same len words same))
    (λ apart. absurd (false≢true (subst IsSome (of_other len words apart) some)))
    (cases_eq (length words) len)

-- another piece at a place is another piece only for the slots of its length
piece_kept : (pieces : List (Option (List ℕ))) (at len : ℕ) (q : Option (List ℕ)) → OnlyOf len (words_at pieces at) → OnlyOf len q → at < length pieces
    → (at' len' : ℕ) → ((at' ≡ at) × (len' ≡ len) → ⊥) → of_length len' (words_at (set pieces at q) at') ≡ of_length len' (words_at pieces at')
piece_kept pieces at len q before after inside at' len' apart = ⊎_elim
    (λ same. subst (λ (n : ℕ). of_length len' (words_at (set pieces at q) n) ≡ of_length len' (words_at pieces n)) (sym same)
    (let longer : len' ≢ len = λ e. apart (same, e) in
    ap (of_length len') (get_or-set_same pieces at q None inside) ∙ no_other len q after len' longer ∙ sym (no_other len (words_at pieces at) before len' longer)))
    (λ other. ap (of_length len') (get_or-set_other pieces at at' q None other))
    (cases_eq at' at)

-- the region with another class in place of one, of which is known how its words are related to those of the old one
module _ (region : List SizeClass) (k : ℕ) (old new : SizeClass) (here : slice_get region k ≡ Some old) where
  abbrev after : List SizeClass
  after = set region k new

  inside : k < length region
  inside = slice_get_within region k old here

  pub new_here : slice_get after k ≡ Some new
  new_here = get_set_same region k new inside

  -- what is the same of the classes is the same of the regions
  pub same_words : (at len : ℕ) → of_length len (words_at new.pieces at) ≡ of_length len (words_at old.pieces at)
      → words_in (slice_get after k) at len ≡ words_in (slice_get region k) at len
  same_words at len e = ap (λ (c : Option SizeClass). words_in c at len) new_here ∙ e ∙ ap (λ (c : Option SizeClass). words_in c at len) (sym here)

  pub keeps : (at len : ℕ) → ((at' len' : ℕ) → ((at' ≡ at) × (len' ≡ len) → ⊥) → of_length len' (words_at new.pieces at') ≡ of_length len' (words_at old.pieces at'))
      → (slot other : Slot) → slot.chunk ≡ k → slot.at ≡ at → slot.len ≡ len → other ≢ slot → words_of after other ≡ words_of region other
  keeps at len same slot other ek ea el apart = ⊎_elim
      (λ e. subst (λ (n : ℕ). words_in (slice_get after n) other.at other.len ≡ words_in (slice_get region n) other.at other.len) (sym e)
      (same_words other.at other.len (same other.at other.len (λ both. apart (λ i. record { chunk = (e ∙ sym ek) i; at = (both.0 ∙ sym ea) i; len = (both.1 ∙ sym el) i })))))
      (λ elsewhere. ap (λ (c : Option SizeClass). words_in c other.at other.len) (get_set_other region k other.chunk new elsewhere))
      (cases_eq other.chunk k)

  pub keeps_all : ((at len : ℕ) → of_length len (words_at new.pieces at) ≡ of_length len (words_at old.pieces at)) → KeepsAll region after
  keeps_all same slot = ⊎_elim
      (λ e. subst (λ (n : ℕ). words_in (slice_get after n) slot.at slot.len ≡ words_in (slice_get region n) slot.at slot.len) (sym e) (same_words slot.at slot.len (same slot.at slot.len)))
      (λ elsewhere. ap (λ (c : Option SizeClass). words_in c slot.at slot.len) (get_set_other region k slot.chunk new elsewhere))
      (cases_eq slot.chunk k)

  pub keeps_other_spares : (len : ℕ) → size_class len ≡ k → KeepsOtherSpares len region after
  keeps_other_spares len e other apart = ap spare_in (get_set_other region k (size_class other) new (λ same. apart (same ∙ sym e)))

  pub keeps_spares : new.spare ≡ old.spare → KeepsSpares region after
  keeps_spares same len = ⊎_elim
      (λ e. subst (λ (n : ℕ). spare_in (slice_get after n) ≡ spare_in (slice_get region n)) (sym e) (ap spare_in new_here ∙ same ∙ ap spare_in (sym here)))
      (λ elsewhere. ap spare_in (get_set_other region k (size_class len) new elsewhere))
      (cases_eq (size_class len) k)

-- the class of a slot is changed at the slot's piece
module _ (region : List SizeClass) (slot : Slot) (old new : SizeClass) (q : Option (List ℕ)) (here : slice_get region slot.chunk ≡ Some old)
    (pieces : new.pieces ≡ set old.pieces slot.at q) (before : OnlyOf slot.len (words_at old.pieces slot.at)) (after_ : OnlyOf slot.len q) (inside_ : slot.at < length old.pieces) where
  pub keeps_others : KeepsOthers slot region (set region slot.chunk new)
  keeps_others other apart = keeps region slot.chunk old new here slot.at slot.len
      (λ at' len' both. ap (λ (ps : List (Option (List ℕ))). of_length len' (words_at ps at')) pieces ∙ piece_kept old.pieces slot.at slot.len q before after_ inside_ at' len' both)
      slot other refl refl refl apart

  pub words_after : words_of (set region slot.chunk new) slot ≡ of_length slot.len q
  words_after = ap (λ (c : Option SizeClass). words_in c slot.at slot.len) (new_here region slot.chunk old new here)
      ∙ ap (λ (ps : List (Option (List ℕ))). of_length slot.len (words_at ps slot.at)) pieces
      ∙ ap (of_length slot.len) (get_or-set_same old.pieces slot.at q None inside_)

pub words_before : (region : List SizeClass) (slot : Slot) (old : SizeClass) → slice_get region slot.chunk ≡ Some old → words_of region slot ≡ of_length slot.len (words_at old.pieces slot.at)
words_before region slot old here = ap (λ (c : Option SizeClass). words_in c slot.at slot.len) here

-- a slot that has words has a class, and a piece of it
pub has_class : (region : List SizeClass) (slot : Slot) → IsSome (words_of region slot) → slot.chunk < length region
has_class region slot some = ⊎_elim (λ within. within)
    (λ past. absurd (false≢true (subst (λ (c : Option SizeClass). IsSome (words_in c slot.at slot.len)) (slice_get_past region slot.chunk past) some)))
    (cases_lt slot.chunk (length region))

pub has_piece : (pieces : List (Option (List ℕ))) (at len : ℕ) → IsSome (of_length len (words_at pieces at)) → at < length pieces
has_piece pieces at len some = ⊎_elim (λ within. within)
    (λ past. absurd (false≢true (subst (λ (p : Option (List ℕ)). IsSome (of_length len p)) (get_or_past pieces at None past) some)))
    (cases_lt at (length pieces))

-- the size class of a length that rounds up to a power of two
pub class_is : (len k : ℕ) → k < 17 → RoundsTo len (2 ^ k) → size_class len ≡ k
class_is len k small rounds =
    let fits = rounds.fits in let least = rounds.least in
    let e = leading_unique 32 (len - 1) (32 - k) k (omega (arith, small)) (omega (arith, fits, least)) (omega (arith, least)) in omega (arith, e, small)

-- what a slot that has words says of its class
module _ (region : List SizeClass) (slot : Slot) (some : IsSome (words_of region slot)) (old : SizeClass) (read : old ≡ get_or region slot.chunk old) where
  pub here : slice_get region slot.chunk ≡ Some old
  here = slice_get_read region (length region) slot.chunk old refl (has_class region slot some) read

  pub sees : IsSome (of_length slot.len (words_at old.pieces slot.at))
  sees = subst IsSome (words_before region slot old here) some

  pub only : OnlyOf slot.len (words_at old.pieces slot.at)
  only = (of_found slot.len (words_at old.pieces slot.at) sees).0

  pub whole : words_of region slot ≡ words_at old.pieces slot.at
  whole = words_before region slot old here ∙ (of_found slot.len (words_at old.pieces slot.at) sees).1

  pub there : slot.at < length old.pieces
  there = has_piece old.pieces slot.at slot.len sees

  -- the slot is given back
  pub given_out : words_of (set region slot.chunk (given slot.at old)) slot ≡ None
  given_out = words_after region slot old (given slot.at old) None here refl only tt there

  pub given_words : KeepsOthers slot region (set region slot.chunk (given slot.at old))
  given_words = keeps_others region slot old (given slot.at old) None here refl only tt there

  rounds_of : (p : Option (List ℕ)) → IsSome p → OnlyOf slot.len p → IfSome p (λ ws. RoundsTo (length ws) old.size) → RoundsTo slot.len old.size
  rounds_of None none only_ rounds = absurd (false≢true none)
  rounds_of (Some ws) some_ only_ rounds = subst (λ (n : ℕ). RoundsTo n old.size) only_ rounds

  pub class_of_slot : IsInOrder 17 region → IfSome (words_at old.pieces slot.at) (λ ws. RoundsTo (length ws) old.size) → size_class slot.len ≡ slot.chunk
  class_of_slot order rounds = class_is slot.len slot.chunk (let below = has_class region slot some in let counted = order.counted in omega (arith, below, counted))
      (subst (RoundsTo slot.len) (order.sizes slot.chunk old here)
      (rounds_of (words_at old.pieces slot.at) (subst IsSome ((of_found slot.len (words_at old.pieces slot.at) sees).1) sees) only rounds))

  pub given_raises : size_class slot.len ≡ slot.chunk → spare (set region slot.chunk (given slot.at old)) slot.len ≡ spare region slot.len + 1
  given_raises e = ap (λ (k : ℕ). spare_in (slice_get (set region slot.chunk (given slot.at old)) k)) e
      ∙ ap spare_in (new_here region slot.chunk old (given slot.at old) here)
      ∙ ap (λ (n : ℕ). n + 1) (sym (ap (λ (k : ℕ). spare_in (slice_get region k)) e ∙ ap spare_in here))

  pub given_others : size_class slot.len ≡ slot.chunk → KeepsOtherSpares slot.len region (set region slot.chunk (given slot.at old))
  given_others e = keeps_other_spares region slot.chunk old (given slot.at old) here slot.len e

  -- a word of the slot is set
  module _ (index value : ℕ) where
    abbrev written : SizeClass
    written = with_word slot.at index value old

    only_changed : (p : Option (List ℕ)) → OnlyOf slot.len p → OnlyOf slot.len (changed p index value)
    only_changed None only_ = tt
    only_changed (Some ws) only_ = length-set ws index value ∙ only_

    same_length : (p : Option (List ℕ)) → OnlyOf slot.len p → of_length slot.len (changed p index value) ≡ changed p index value
    same_length None only_ = refl
    same_length (Some ws) only_ = of_same slot.len (set ws index value) (length-set ws index value ∙ only_)

    pub set_word : words_of (set region slot.chunk written) slot ≡ changed (words_of region slot) index value
    set_word = words_after region slot old written (changed (words_at old.pieces slot.at) index value) here refl only (only_changed (words_at old.pieces slot.at) only) there
        ∙ same_length (words_at old.pieces slot.at) only ∙ ap (λ (p : Option (List ℕ)). changed p index value) (sym whole)

    pub set_words : KeepsOthers slot region (set region slot.chunk written)
    set_words = keeps_others region slot old written (changed (words_at old.pieces slot.at) index value) here refl only (only_changed (words_at old.pieces slot.at) only) there

    pub set_spares : KeepsSpares region (set region slot.chunk written)
    set_spares = keeps_spares region slot.chunk old written here refl

has_words_in : (p : Option (List ℕ)) (index : ℕ) → IsSome (word_in p index) → IsSome p
has_words_in None index none = none
has_words_in (Some ws) index some = refl

pub has_words : (region : List SizeClass) (slot : Slot) (index : ℕ) → IsSome (word_of region slot index) → IsSome (words_of region slot)
has_words region slot index some = has_words_in (words_of region slot) index some

-- more free pieces
words_grown : (n : ℕ) (pieces : List (Option (List ℕ))) (at : ℕ) → words_at (pieces ++ replicate n None) at ≡ words_at pieces at
words_grown n pieces at = ⊎_elim
    (λ inside. get_or_append_left pieces (replicate n None) None at inside)
    (λ past. get_or-append_right pieces (replicate n None) (length pieces) at None refl past
    ∙ ⊎_elim (λ few. get_or-replicate n (at - length pieces) None None few)
    (λ many. get_or_past (replicate n None) (at - length pieces) None (let e = length-replicate {A = Option (List ℕ)} n None in omega (arith, e, many)))
    (cases_lt (at - length pieces) n)
    ∙ sym (get_or_past pieces at None past))
    (cases_lt at (length pieces))

module _ (region : List SizeClass) (k n : ℕ) (old : SizeClass) (inside_ : k < length region) (read : old ≡ get_or region k old) where
  there_ : slice_get region k ≡ Some old
  there_ = slice_get_read region (length region) k old refl inside_ read

  pub grown_words : KeepsAll region (set region k (grown n old))
  grown_words = keeps_all region k old (grown n old) there_ (λ at len. ap (of_length len) (words_grown n old.pieces at))

  pub spare_there : (len : ℕ) → size_class len ≡ k → spare region len ≡ old.spare
  spare_there len e = ap (λ (j : ℕ). spare_in (slice_get region j)) e ∙ ap spare_in there_

  pub grown_spare : (len : ℕ) → size_class len ≡ k → spare (set region k (grown n old)) len ≡ spare region len + n
  grown_spare len e = ap (λ (j : ℕ). spare_in (slice_get (set region k (grown n old)) j)) e
      ∙ ap spare_in (new_here region k old (grown n old) there_)
      ∙ ap (λ (m : ℕ). m + n) (sym (spare_there len e))

  pub grown_others : (len : ℕ) → size_class len ≡ k → KeepsOtherSpares len region (set region k (grown n old))
  grown_others len e = keeps_other_spares region k old (grown n old) there_ len e

-- the size classes of a new region
get_push : {X : Type 0} (xs : List X) (x y : X) (j : ℕ) → slice_get (xs ++ x ∷ []) j ≡ Some y → (slice_get xs j ≡ Some y) ⊎ ((j ≡ length xs) × (Some x ≡ Some y))
get_push [] x y zero e = inr (refl, e)
get_push [] x y (suc j) e = inl e
get_push (z ∷ xs) x y zero e = inl e
get_push (z ∷ xs) x y (suc j) e = ⊎_elim (λ found. inl found) (λ last. inr (ap suc last.0, last.1)) (get_push xs x y j e)

abbrev size_of : Option SizeClass → ℕ
size_of None = 0
size_of (Some class) = class.size

abbrev pieces_of : Option SizeClass → List (Option (List ℕ))
pieces_of None = []
pieces_of (Some class) = class.pieces

pub one_more_class : (n : ℕ) (region : List SizeClass) (class : SizeClass) → class ≡ record { size = 2 ^ n; pieces = []; spare = 0 } → IsInOrder n region × AreNew region
    → IsInOrder (n + 1) (region ++ class ∷ []) × AreNew (region ++ class ∷ [])
one_more_class n region class e now = (
  record {
    counted = length_push region class ∙ ap (λ (m : ℕ). m + 1) (now.0).counted;
    sizes = λ k other found. ⊎_elim (λ before. (now.0).sizes k other before)
        (λ last. sym (ap size_of last.1) ∙ ap (λ (c : SizeClass). c.size) e ∙ ap (λ (m : ℕ). 2 ^ m) (sym (last.0 ∙ (now.0).counted))) (get_push region class other k found);
  },
  λ k other found. ⊎_elim (λ before. now.1 k other before)
      (λ last. (sym (ap pieces_of last.1) ∙ ap (λ (c : SizeClass). c.pieces) e, sym (ap spare_in last.1) ∙ ap (λ (c : SizeClass). c.spare) e)) (get_push region class other k found),
)
