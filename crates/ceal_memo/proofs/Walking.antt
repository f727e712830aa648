-- The stamps of a list are looked at one after another, until one has a key.
use Rattle.std.proofs.Common.{◌≡◌, ◌≢◌, ◌<◌, ◌≤◌, ◌-◌, ℕ, true, List, sym, subst, arith}
use Rattle.ceal_order.specs.Stamps.{is_in, place}
use Rattle.ceal_order.specs.Rising.{IsRising, IsFirstAfter, NoneAfter}
use Rattle.ceal_order.proofs.Places.{place_below, place_tells}
use Rattle.ceal_order.proofs.RisingLemmas.{in_order}
use Rattle.std.specs.Prelude.{length}
use Rattle.ceal_memo.specs.Lists.{IsFirstOf, NoneOf}

-- those after the first stamp and up to the one that was passed last have another key
pub record Passed (order stamps : List ℕ) (is : ℕ → Type 0) (after last : ℕ) : Type 0 where
  pub here : is_in last order ≡ true
  pub behind : place after order ≤ place last order
  pub others : (t : ℕ) → is_in t stamps ≡ true → is t → place after order < place t order → place last order < place t order

module _ (order stamps : List ℕ) (is : ℕ → Type 0) (after : ℕ) where
  pub passed_none : is_in after order ≡ true → Passed order stamps is after after
  passed_none here = record { here = here; behind = omega arith; others = λ t there so later. later }

  module _ (last : ℕ) (passed : Passed order stamps is after last) where
    -- there is nothing after it
    pub passed_all : NoneAfter order stamps last → (until : ℕ) → NoneOf order stamps is after until
    passed_all none until t there so later =
        let more = passed.others t there so later in
        let most = none t there in
        absurd (omega (arith, more, most))

    module _ (next : ℕ) (first : IsFirstAfter order stamps last next) where
      pub passed_found : is next → IsFirstOf order stamps is after next
      passed_found so = record {
        there = first.there;
        is_so = so;
        behind = (let a = passed.behind in let b = first.behind in omega (arith, a, b));
        nearest = λ t there too later. first.nearest t there (passed.others t there too later);
      }

      pub passed_until : (until : ℕ) → (place next order < place until order → ⊥) → NoneOf order stamps is after until
      passed_until until not t there so later =
          let nearest = first.nearest t there (passed.others t there so later) in
          omega (arith, nearest, not)

      pub passed_more : IsRising order stamps → (is next → ⊥) → Passed order stamps is after next
      passed_more rising fails = record {
        here = in_order next stamps order rising first.there;
        behind = (let a = passed.behind in let b = first.behind in omega (arith, a, b));
        others = λ t there so later.
            let nearest = first.nearest t there (passed.others t there so later) in
            let apart : place next order ≢ place t order = λ same. fails
            (subst is (sym (place_tells next t order (in_order next stamps order rising first.there) (in_order t stamps order rising there) same)) so) in
            omega (arith, nearest, apart);
      }

      -- fewer are after the one that is passed next
      pub fewer_left : IsRising order stamps → length order - place next order < length order - place last order
      fewer_left rising =
          let later = first.behind in
          let below = place_below next order (in_order next stamps order rising first.there) in
          omega (arith, later, below)
