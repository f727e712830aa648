-- A memo from which the entry of a stamp is taken.
use Rattle.std.proofs.Common.{◌≡◌, ◌≢◌, ℕ, inl, inr, true, List, refl, sym, ap, ◌∙◌, subst, Some, slice_get}
use Rattle.std.proofs.lemmas.Bool.Decides.{eqb_tells}
use Rattle.ceal_order.specs.Stamps.{is_in, without}
use Rattle.ceal_order.proofs.Places.{not_in, gone, left_in}
use Rattle.ceal_order.proofs.Editing.{rising_without}
use Rattle.ceal_order.proofs.StampLists.{without_none, absent_without, Distinct-without}
use Rattle.ceal_memo.specs.declared.home.Home.TheVariants.{Nowhere, In}
use Rattle.ceal_memo.specs.Homes.{home_of, HomeChange, IsKept}
use Rattle.ceal_memo.specs.Numbers.{list_at, hashes_in, IsWithout}
use Rattle.ceal_memo.specs.Table.{ByHash, entries_of, Follows, HasNone, OneEntry}
use Rattle.ceal_memo.proofs.Looking.{out, list_is, in_list, nowhere, all_without, all_once, one_less, same_entries}
use Rattle.ceal_memo.proofs.Adding.{home_other, not_that}

-- ---- a home tells its number

pub number_in : (m n : ℕ) → In m ≡ In n → m ≡ n
number_in m n same = cc

pub nowhere_in : (n : ℕ) → Nowhere ≡ In n → ⊥
nowhere_in n same = cc

-- ---- lists

-- a stamp that is in none of the lists
pub untouched : (s : ℕ) (es : List (ℕ × List ℕ)) → ((n : ℕ) → is_in s (list_at es n) ≡ true → ⊥) → IsWithout s es es
untouched s es impossible = record { hashes = refl; lists = λ n. sym (without_none s (list_at es n) (out (is_in s (list_at es n)) (impossible n))) }

-- one that is in only one list
pub taken : (s n : ℕ) (old new : List (ℕ × List ℕ)) → hashes_in new ≡ hashes_in old → list_at new n ≡ without s (list_at old n)
    → ((m : ℕ) → m ≢ n → list_at new m ≡ list_at old m) → ((m : ℕ) → is_in s (list_at old m) ≡ true → m ≡ n) → IsWithout s old new
taken s n old new hashes here others one = record {
  hashes = hashes;
  lists = λ m. elim (eqb_tells m n) [
    | inl p ↦ subst (λ (i : ℕ). list_at new i ≡ without s (list_at old i)) (sym p.1) here
    | inr p ↦ others m p.1 ∙ sym (without_none s (list_at old m) (out (is_in s (list_at old m)) (λ found. p.1 (one m found))))
  ];
}

same_hash : (a b : ℕ × List ℕ) → Some a ≡ Some b → a.0 ≡ b.0
same_hash a b same = let entries : a ≡ b = cc in ap (λ (e : ℕ × List ℕ). e.0) entries

-- ---- a memo

module _ (memo : ByHash) (homes : List ℕ) (kept : IsKept memo homes) where
  -- a hash with a stamp has the list that is the home of the stamp
  one_list : (s hash : ℕ) → is_in s (entries_of memo hash) ≡ true → (n : ℕ) × (home_of homes s ≡ In n) × (slice_get memo.lists n ≡ Some (hash, entries_of memo hash))
  one_list s hash there =
      let at = in_list memo.lists hash s there in
      (at.0, kept.houses at.0 s (rw (list_is memo.lists at.0 hash (entries_of memo hash) at.1) there), at.1)

  pub one_of_kept : OneEntry memo
  one_of_kept s a b in_a in_b =
      let at_a = one_list s a in_a in
      let at_b = one_list s b in_b in
      let same : at_a.0 ≡ at_b.0 = number_in at_a.0 at_b.0 (sym at_a.1 ∙ at_b.1) in
      same_hash (a, entries_of memo a) (b, entries_of memo b) (sym at_a.2 ∙ ap (slice_get memo.lists) same ∙ at_b.2)

module _ (s : ℕ) (old new : ByHash) (less : IsWithout s old.lists new.lists) (homes : List ℕ) (kept : IsKept old homes) where
  pub stamps_less : (hash : ℕ) → entries_of new hash ≡ without s (entries_of old hash)
  stamps_less = all_without s old.lists new.lists less kept.unique

  pub follows_less : (order : List ℕ) → Follows order old → Follows order new
  follows_less order follows = record { rising = λ k. rw (stamps_less k) (rising_without order s (entries_of old k) (follows.rising k)) }

  pub none_still : (t : ℕ) → HasNone t old → HasNone t new
  none_still t absent = record { none = λ k. rw (stamps_less k) (absent_without t s (entries_of old k) (absent.none k)) }

  pub none_less : HasNone s new
  none_less = record { none = λ k. rw (stamps_less k) (not_in s (without s (entries_of old k)) (gone s (entries_of old k) (all_once old.lists kept.once k))) }

  pub memo_unchanged : HasNone s old → new ≡ old
  memo_unchanged none =
      let same = same_entries old.lists new.lists less.hashes (λ n. less.lists n ∙ without_none s (list_at old.lists n) (nowhere old.lists kept.unique s none.none n)) in
      λ i. record { lists = same i }

  pub kept_less : (homes' : List ℕ) → HomeChange s Nowhere homes homes' → IsKept new homes'
  kept_less homes' change = record {
    houses = λ n t there.
        let left : is_in t (without s (list_at old.lists n)) ≡ true = subst (λ (l : List ℕ). is_in t l ≡ true) (less.lists n) there in
        let none = not_in s (without s (list_at old.lists n)) (gone s (list_at old.lists n) (kept.once n)) in
        home_other s Nowhere homes homes' change t (not_that s t (without s (list_at old.lists n)) none left) ∙ kept.houses n t (left_in s t (list_at old.lists n) left);
    once = λ n. rw (less.lists n) (Distinct-without s (list_at old.lists n) (kept.once n));
    unique = one_less s old.lists new.lists less kept.unique;
  }
