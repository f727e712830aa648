-- Groups of stamps by hash, in chains
-- (hash tables with separate chaining: Knuth, *The Art of Computer Programming*, volume 3, 6.4).
use Rattle.std.specs.Prelude.{◌≡◌, ◌*◌, ◌/◌, ◌^◌, ◌<◌, ◌≤◌, ◌==◌, ℕ, suc, Bool, true, false, List, [], ◌∷◌, length}
use Rattle.std.specs.Prelude.{slice_index_or, set, if◌then◌else◌}
use Rattle.ceal_order.specs.Stamps.{is_in, Distinct}
use Rattle.ceal_memo.specs.Lists.{has_stamps}
use Rattle.ceal_memo.specs.declared.chains.Group.{Group}

-- the bucket that a hash falls into: the upper bits of the hash tell it
abbrev pub bucket : ℕ → ℕ → ℕ
bucket size hash = hash * size / 2 ^ 32

abbrev pub blank : Group
blank = record { hash = 0; next = 0; list = [] }

-- the group with a number
abbrev pub group_at : List Group → ℕ → Group
group_at groups n = slice_index_or groups n blank

-- the link to the first group in a bucket
abbrev pub head_at : List ℕ → ℕ → ℕ
head_at heads b = slice_index_or heads b 0

-- the link from a group to the next one in its bucket
abbrev pub next_at : List Group → ℕ → ℕ
next_at groups n = (group_at groups n).next

-- the groups, each as its hash and its stamps
abbrev pub lists_of : List Group → List (ℕ × List ℕ)
lists_of [] = []
lists_of (g ∷ gs) = (g.hash, g.list) ∷ lists_of gs

-- with other stamps in a group
abbrev pub with_list : List Group → ℕ → List ℕ → List Group
with_list groups n list = set groups n (record (group_at groups n) { list = list })

-- which groups have stamps
abbrev pub stamped : List Group → ℕ → Bool
stamped groups n = has_stamps (group_at groups n).list

-- with one more
abbrev pub with_one : ℕ → (ℕ → Bool) → ℕ → Bool
with_one number chosen n = if n == number then true else chosen n

-- a group is chosen, and its hash falls into a bucket
pub record IsIn (among : ℕ → Bool) (size : ℕ) (groups : List Group) (n b : ℕ) : Type 0 where
  pub chosen : among n ≡ true
  pub bucket : bucket size (group_at groups n).hash ≡ b

-- a link leads to the last group in a bucket before a bound, if there is one
pub record IsLast (own : ℕ → ℕ → Type 0) (b bound link : ℕ) : Type 0 where
  pub within : link ≤ bound
  pub there : (n : ℕ) → link ≡ suc n → own n b
  pub last : (n : ℕ) → n < bound → own n b → n < link

-- each bucket has a chain of its groups, as many of these as are counted
pub record IsChained (own : ℕ → ℕ → Type 0) (size count : ℕ) (head next : ℕ → ℕ) : Type 0 where
  pub heads : (b : ℕ) → b < size → IsLast own b count (head b)
  pub nexts : (n b : ℕ) → n < count → own n b → IsLast own b n (next n)

-- the chosen ones of the first groups are in the chains of their buckets
abbrev pub Chained : ℕ → (ℕ → Bool) → List ℕ → List Group → Type 0
Chained count chosen heads groups =
    IsChained (IsIn chosen (length heads) groups) (length heads) count (head_at heads) (next_at groups)

-- what lies before the place of a group in a bucket: the head, where the link is 0, or the group that it leads to
pub record IsBefore (chosen : ℕ → Bool) (heads : List ℕ) (groups : List Group) (b number before : ℕ) : Type 0 where
  pub within : before ≤ length groups
  pub first : before ≡ 0 → head_at heads b ≤ suc number
  pub there : (n : ℕ) → before ≡ suc n → IsIn chosen (length heads) groups n b
  pub after : (n : ℕ) → before ≡ suc n → number < n
  pub next : (n : ℕ) → before ≡ suc n → next_at groups n ≤ suc number

-- those with stamps are in the chains of their buckets, of which there are enough
pub record IsLinked (heads : List ℕ) (groups : List Group) : Type 0 where
  pub chained : Chained (length groups) (stamped groups) heads groups
  pub few : length groups ≤ length heads

-- stands for no group: there are fewer groups than this
abbrev pub no_group : ℕ
no_group = 4294967295

-- a group is there and has no stamps
pub record IsEmptyAt (groups : List Group) (n : ℕ) : Type 0 where
  pub within : n < length groups
  pub empty : stamped groups n ≡ false

-- a number is that of the first of these groups, the link of each is the number of the next one, and that of the last
-- one stands for no group
abbrev pub LeadsThrough : (ℕ → ℕ) → ℕ → List ℕ → Type 0
LeadsThrough next first [] = first ≡ no_group
LeadsThrough next first (n ∷ ns) = (first ≡ n) × LeadsThrough next (next n) ns

-- those without stamps can be filled again: a number leads through all of them, each once
pub record HasSpares (groups : List Group) (free : ℕ) : Type 0 where
  pub spares : List ℕ
  pub leads : LeadsThrough (next_at groups) free spares
  pub once : Distinct spares
  pub empty : (n : ℕ) → is_in n spares ≡ true → IsEmptyAt groups n
  pub all : (n : ℕ) → IsEmptyAt groups n → is_in n spares ≡ true
  pub few : length groups ≤ no_group

-- groups with stamps are found by their buckets, and the others can be filled again
pub record IsWhole (heads : List ℕ) (groups : List Group) (free : ℕ) : Type 0 where
  pub linked : IsLinked heads groups
  pub spares : HasSpares groups free
