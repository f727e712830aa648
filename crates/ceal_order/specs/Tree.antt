-- A tree of chunks of items.
use Rattle.std.specs.Prelude.{◌≡◌, ◌≤◌, ℕ, ◌+◌, min, max, List, [], ◌++◌, length}
use Rattle.ceal_order.specs.declared.tree.Tree.{Tree, Empty, Fork'}
use Rattle.ceal_order.specs.declared.tree.Fork.{Fork}

-- the items of a tree, from left to right
abbrev pub items_of : {A : Type 0} → Tree A → List A
items_of Empty = []
items_of (Fork' p items count height earlier later) = items_of earlier ++ items.items ++ items_of later

-- the items of a fork, between those of its trees
abbrev pub items_under : {A : Type 0} → Fork A → List A
items_under fork = items_of fork.earlier ++ fork.items.items ++ items_of fork.later

-- each fork of a tree has the count of the items under it
abbrev pub IsCounted : {A : Type 0} → Tree A → Type 0
IsCounted Empty = Unit {0}
IsCounted (Fork' p items count height earlier later) =
    (count ≡ min (length (items_of earlier ++ items.items ++ items_of later)) 18446744073709551615)
    × IsCounted earlier × IsCounted later

-- a fork has the count of the items under it
abbrev pub Counts : {A : Type 0} → Fork A → Type 0
Counts fork =
    (fork.count ≡ min (length (items_under fork)) 18446744073709551615) × IsCounted fork.earlier × IsCounted fork.later

-- how many forks a tree has, and a fork with its trees
abbrev pub forks_of : {A : Type 0} → Tree A → ℕ
forks_of Empty = 0
forks_of (Fork' p items count height earlier later) = 1 + forks_of earlier + forks_of later

abbrev pub forks_under : {A : Type 0} → Fork A → ℕ
forks_under fork = 1 + forks_of fork.earlier + forks_of fork.later

-- the largest number of forks one under another: no more are on the way from the top to an item
abbrev pub depth_of : {A : Type 0} → Tree A → ℕ
depth_of Empty = 0
depth_of (Fork' p items count height earlier later) = 1 + max (depth_of earlier) (depth_of later)

abbrev pub depth_under : {A : Type 0} → Fork A → ℕ
depth_under fork = 1 + max (depth_of fork.earlier) (depth_of fork.later)

-- two numbers differ by one at most
abbrev pub AreNear : ℕ → ℕ → Type 0
AreNear m n = (m ≤ 1 + n) × (n ≤ 1 + m)

-- a chunk in a tree has one item at least, and no more than fit
abbrev pub IsChunk : {A : Type 0} → List A → Type 0
IsChunk items = (1 ≤ length items) × (length items ≤ 64)

-- a chunk has as many items as before, or one more
abbrev pub GrowsByOne : {A : Type 0} → List A → List A → Type 0
GrowsByOne old new = (length old ≤ length new) × (length new ≤ 1 + length old)

-- how many items the first chunk of a tree has; this number where there is no chunk
abbrev pub first_or : {A : Type 0} → ℕ → Tree A → ℕ
first_or n Empty = n
first_or n (Fork' p items count height earlier later) = first_or (length items.items) earlier

-- each fork of a tree has a chunk, its height, and two trees that differ by one in depth at most
abbrev pub IsBalanced : {A : Type 0} → Tree A → Type 0
IsBalanced Empty = Unit {0}
IsBalanced (Fork' p items count height earlier later) =
    IsChunk items.items
    × (height ≡ 1 + max (depth_of earlier) (depth_of later))
    × AreNear (depth_of earlier) (depth_of later)
    × IsBalanced earlier × IsBalanced later

abbrev pub Balances : {A : Type 0} → Fork A → Type 0
Balances fork =
    IsChunk fork.items.items
    × (fork.height ≡ depth_under fork)
    × AreNear (depth_of fork.earlier) (depth_of fork.later)
    × IsBalanced fork.earlier × IsBalanced fork.later

-- a sequence has few items, in a last chunk and in a tree that counts them and is balanced; each of its forks is in the
-- tree or spare, and there is room for all of them among the spare ones
pub record Fits {A : Type 0} (front : Tree A) (last : List A) (spare forks capacity : ℕ) : Type 0 where
  pub counted : IsCounted front
  pub balanced : IsBalanced front
  pub last_fits : length last ≤ 64
  pub few : length (items_of front ++ last) ≤ 4294967295
  pub all : forks_of front + spare ≡ forks
  pub room : forks ≤ capacity
