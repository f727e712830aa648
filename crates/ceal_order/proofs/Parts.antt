-- Rising stamps in the parts of a fork.
use Rattle.std.proofs.Common.{◌≡◌, ◌<◌, ◌+◌, ℕ, List, ◌++◌, length, refl, arith, length-append}
use Rattle.ceal_order.specs.declared.stamp.Stamp.{Stamp}
use Rattle.ceal_order.specs.Rising.{numbers, IsRising, count_before}
use Rattle.ceal_order.proofs.Searching.{length-numbers, count_append, count_all, count_no_more, count_le, rising_front, rising_back}
use Rattle.ceal_order.proofs.Editing.{numbers-append}

module _ (order : List ℕ) (xs ys zs : List Stamp) where
  numbers-parts : numbers (xs ++ ys ++ zs) ≡ numbers xs ++ numbers ys ++ numbers zs
  numbers-parts = rw (numbers-append (xs ++ ys) zs, numbers-append xs ys) refl

  pub count_parts : (s : ℕ) → count_before order s (numbers (xs ++ ys ++ zs)) ≡ count_before order s (numbers xs) + count_before order s (numbers ys) + count_before order s (numbers zs)
  count_parts s = rw numbers-parts (omega (arith, count_append order s (numbers xs ++ numbers ys) (numbers zs), count_append order s (numbers xs) (numbers ys)))

  module _ (rising : IsRising order (numbers (xs ++ ys ++ zs))) where
    both : IsRising order (numbers xs ++ numbers ys)
    both = rising_front order (numbers xs ++ numbers ys) (numbers zs) (rw numbers-parts at rising)

    pub rise_earlier : IsRising order (numbers xs)
    rise_earlier = rising_front order (numbers xs) (numbers ys) both

    pub rise_here : IsRising order (numbers ys)
    rise_here = rising_back order (numbers xs) (numbers ys) both

    pub rise_later : IsRising order (numbers zs)
    rise_later = rising_back order (numbers xs ++ numbers ys) (numbers zs) (rw numbers-parts at rising)

    pub all_earlier : (s : ℕ) → 0 < count_before order s (numbers ys) → count_before order s (numbers xs) ≡ length xs
    all_earlier s some = omega (arith, count_all order s (numbers xs) (numbers ys) both some, length-numbers xs)

    pub none_later : (s : ℕ) → count_before order s (numbers ys) < length ys → count_before order s (numbers zs) ≡ 0
    none_later s less =
        let fewer : count_before order s (numbers xs ++ numbers ys) < length (numbers xs ++ numbers ys)
        = omega (arith, less, count_append order s (numbers xs) (numbers ys), count_le order s (numbers xs), length-append (numbers xs) (numbers ys), length-numbers xs, length-numbers ys) in
        count_no_more order s (numbers xs ++ numbers ys) (numbers zs) (rw numbers-parts at rising) fewer
