-- In which list each stamp has its entry.
use Rattle.std.specs.Prelude.{◌≡◌, ℕ, List, true, ◌==◌, if◌then◌else◌, slice_get, unwrap_or}
use Rattle.ceal_order.specs.Stamps.{is_in, Distinct}
use Rattle.ceal_memo.specs.declared.home.Home.{Home}
use Rattle.ceal_memo.specs.declared.home.Home.TheVariants.{Nowhere, In}
use Rattle.ceal_memo.specs.Numbers.{list_at, OneList}
use Rattle.ceal_memo.specs.Table.{ByHash}

-- stands for no list: there are fewer lists than this
abbrev pub no_list : ℕ
no_list = 4294967295

-- the home that a number stands for
abbrev pub home_in : ℕ → Home
home_in n = if n == no_list then Nowhere else In n

-- the home of a stamp
abbrev pub home_of : List ℕ → ℕ → Home
home_of homes s = home_in (unwrap_or (slice_get homes s) no_list)

-- a stamp has this home now, and each other one has the home that it had
abbrev pub HomeChange : ℕ → Home → List ℕ → List ℕ → Type 0
HomeChange s home old new = (t : ℕ) → home_of new t ≡ (if s == t then home else home_of old t)

-- each stamp of a list has that list for its home
abbrev pub Houses : ByHash → List ℕ → Type 0
Houses memo homes = (n s : ℕ) → is_in s (list_at memo.lists n) ≡ true → home_of homes s ≡ In n

-- each stamp of a memo occurs once, in the list that is its home, and each hash has one list with stamps
pub record IsKept (memo : ByHash) (homes : List ℕ) : Type 0 where
  pub houses : Houses memo homes
  pub once : (n : ℕ) → Distinct (list_at memo.lists n)
  pub unique : OneList memo.lists
