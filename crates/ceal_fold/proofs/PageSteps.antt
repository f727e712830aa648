-- What is known, in pages.
use Rattle.std.proofs.Common.{◌≡◌, ℕ, ◌==◌, Bool, true, false, if◌then◌else◌, Option, Some, None, List, [], refl, sym, ap, ◌∙◌, subst, arith}
use Rattle.std.specs.BTreeMap.{is_at}
use Rattle.std.specs.Map.{lookup}
use Rattle.std.specs.Ordering.{nat_cmp}
use Rattle.ceal_code.proofs.Words.SameIsEqual.{nat-same}
use Rattle.ceal_fold.specs.States.{Pages, page_of, in_page, in_maybe, last_of}
use Rattle.ceal_fold.specs.declared.known.Assigned.{Assigned}

at-is : (v u : ℕ) → is_at (nat_cmp v) u ≡ (u == v)
at-is v u = grind arith

-- a variable of a page is put
pub put-here : (page page' : List (ℕ × Assigned)) (v : ℕ) (last : Assigned)
    → ((u : ℕ) → lookup (is_at (nat_cmp u)) page' ≡ (if is_at (nat_cmp v) u then Some last else lookup (is_at (nat_cmp u)) page))
    → (u : ℕ) → in_page page' u ≡ (if u == v then Some last else in_page page u)
unfolding in_page
put-here page page' v last h u = h u ∙ ap (λ b. if b then Some last else lookup (is_at (nat_cmp u)) page) (at-is v u)

-- nothing is in an empty page
pub none-here : (u : ℕ) → in_page [] u ≡ None
unfolding in_page
none-here u = refl

-- A page is taken out, and put back with the last assignment of a variable of it.
module _ (known left known' : Pages) (v : ℕ) (last : Assigned) (page : List (ℕ × Assigned))
    (out : (n : ℕ) → lookup (is_at (nat_cmp n)) left ≡ (if is_at (nat_cmp (page_of v)) n then None else lookup (is_at (nat_cmp n)) known))
    (back : (n : ℕ) → lookup (is_at (nat_cmp n)) known' ≡ (if is_at (nat_cmp (page_of v)) n then Some page else lookup (is_at (nat_cmp n)) left))
    (turned : (u : ℕ) → in_page page u ≡ (if u == v then Some last else in_maybe (lookup (is_at (nat_cmp (page_of v))) known) u)) where
  pub put-last : (u : ℕ) → last_of known' u ≡ (if u == v then Some last else last_of known u)
  unfolding last_of
  put-last u = go (page_of u == page_of v) refl
    where
      go : (b : Bool) → (page_of u == page_of v) ≡ b
          → in_maybe (lookup (is_at (nat_cmp (page_of u))) known') u ≡ (if u == v then Some last else in_maybe (lookup (is_at (nat_cmp (page_of u))) known) u)
      go true e =
          let same : page_of u ≡ page_of v = nat-same (page_of u) (page_of v) e in
          ap (λ o. in_maybe o u) (back (page_of u) ∙ ap (λ b. if b then Some page else lookup (is_at (nat_cmp (page_of u))) left) (at-is (page_of v) (page_of u) ∙ e))
          ∙ turned u
          ∙ ap (λ n. if u == v then Some last else in_maybe (lookup (is_at (nat_cmp n)) known) u) (sym same)
      go false e =
          let other : (u == v) ≡ false = apart (u == v) refl e in
          ap (λ o. in_maybe o u) (back (page_of u) ∙ ap (λ b. if b then Some page else lookup (is_at (nat_cmp (page_of u))) left) (at-is (page_of v) (page_of u) ∙ e)
          ∙ out (page_of u) ∙ ap (λ b. if b then None else lookup (is_at (nat_cmp (page_of u))) known) (at-is (page_of v) (page_of u) ∙ e))
          ∙ ap (λ b. if b then Some last else in_maybe (lookup (is_at (nat_cmp (page_of u))) known) u) (sym other)
        where
          apart : (b : Bool) → (u == v) ≡ b → (page_of u == page_of v) ≡ false → (u == v) ≡ false
          apart false i k = i
          apart true i k =
              let same : u ≡ v = nat-same u v i in
              let pages : page_of u ≡ page_of v = ap page_of same in
              absurd (grind (arith, k, pages))

-- the same, where the page's number is told
pub put-in : (known left known' : Pages) (v number : ℕ) (last : Assigned) (page : List (ℕ × Assigned)) (taken : Option (List (ℕ × Assigned)))
    → number ≡ page_of v → taken ≡ lookup (is_at (nat_cmp number)) known
    → ((n : ℕ) → lookup (is_at (nat_cmp n)) left ≡ (if is_at (nat_cmp number) n then None else lookup (is_at (nat_cmp n)) known))
    → ((n : ℕ) → lookup (is_at (nat_cmp n)) known' ≡ (if is_at (nat_cmp number) n then Some page else lookup (is_at (nat_cmp n)) left))
    → ((u : ℕ) → in_page page u ≡ (if u == v then Some last else in_maybe taken u))
    → (u : ℕ) → last_of known' u ≡ (if u == v then Some last else last_of known u)
put-in known left known' v number last page taken e t out back turned =
    put-last known left known' v last page
    (subst (λ m. (n : ℕ) → lookup (is_at (nat_cmp n)) left ≡ (if is_at (nat_cmp m) n then None else lookup (is_at (nat_cmp n)) known)) e out)
    (subst (λ m. (n : ℕ) → lookup (is_at (nat_cmp n)) known' ≡ (if is_at (nat_cmp m) n then Some page else lookup (is_at (nat_cmp n)) left)) e back)
    (λ u. turned u ∙ ap (λ o. if u == v then Some last else in_maybe o u) (t ∙ ap (λ m. lookup (is_at (nat_cmp m)) known) e))

pub ruleset page_steps = (put-here)

pub ruleset turn_steps = (none-here)
