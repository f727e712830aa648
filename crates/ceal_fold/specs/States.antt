-- How the two passes over a body keep what they know at each index.
use Rattle.std.specs.Prelude.{ℕ, ◌/◌, ◌≤◌, Bool, Option, Some, None, List, [], slice_get, unwrap_or, nat_lt}
use Rattle.std.specs.Prelude.{if◌then◌else◌}
use Rattle.std.specs.List.{list_any}
use Rattle.std.specs.Map.{lookup}
use Rattle.std.specs.BTreeMap.{is_at}
use Rattle.std.specs.Ordering.{nat_cmp}
use Rattle.ceal_fold.specs.Folding.{Copies}
use Rattle.ceal_fold.specs.declared.copies.Copied.{Copied}
use Rattle.ceal_fold.specs.declared.copies.Copied.TheVariants.{Num as CopiedNum, Null as CopiedNull, Var as CopiedVar}
use Rattle.ceal_fold.specs.declared.known.Assigned.{Assigned}

-- what is known of variables at a point: the last assignment of each, in pages, which are kept by their numbers
abbrev pub Pages : Type 0
Pages = List (ℕ × List (ℕ × Assigned))

-- the page of a variable: 256 that follow one another have one
unfoldable pub page_of : ℕ → ℕ
page_of v = v / 256

-- the last assignment of a variable, of those that are kept by the variables' numbers
unfoldable pub in_page : List (ℕ × Assigned) → ℕ → Option Assigned
in_page page v = lookup (is_at (nat_cmp v)) page

-- the same, where there may be no page
abbrev pub in_maybe : Option (List (ℕ × Assigned)) → ℕ → Option Assigned
in_maybe None v = None
in_maybe (Some page) v = in_page page v

-- the last assignment of a variable, which its page has
unfoldable pub last_of : Pages → ℕ → Option Assigned
last_of known v = in_maybe (lookup (is_at (nat_cmp (page_of v))) known) v

-- when it was; 0 is before all
abbrev pub time : Option Assigned → ℕ
time None = 0
time (Some a) = a.at

-- what is left of a copy that was made at this time: nothing where its source was assigned since
abbrev pub lasting_copy : (ℕ → Option Assigned) → ℕ → Option Copied → Option Copied
lasting_copy last at None = None
lasting_copy last at (Some (CopiedNum n)) = Some (CopiedNum n)
lasting_copy last at (Some CopiedNull) = Some CopiedNull
lasting_copy last at (Some (CopiedVar w)) = if nat_lt (time (last w.0)) at then Some (CopiedVar w) else None

-- what is copied by an assignment, if it still holds
abbrev pub current_copy : (ℕ → Option Assigned) → Option Assigned → Option Copied
current_copy last None = None
current_copy last (Some a) = lasting_copy last a.at a.copy

-- what a variable is a copy of
unfoldable pub copy_at : Pages → Copies
copy_at known v = current_copy (last_of known) (last_of known v)

-- what is kept at an index of the body
unfoldable pub state_at : List Pages → ℕ → Pages
state_at states j = unwrap_or (slice_get states j) []

-- the copies at an index, by the states of all indices
unfoldable pub copies_at : List Pages → ℕ → Copies
copies_at states j = copy_at (state_at states j)

-- no assignment was after this time
unfoldable pub Until : ℕ → Pages → Type 0
Until n known = (v : ℕ) → time (last_of known v) ≤ n

-- In no state was an assignment after this time.
unfoldable pub AllUntil : ℕ → List Pages → Type 0
AllUntil n states = (j : ℕ) → Until n (state_at states j)

-- whether a variable is among those that are used
unfoldable pub has : List ℕ → ℕ → Bool
has vars v = list_any (is_at (nat_cmp v)) vars

-- and among those from an index of the body on
unfoldable pub has_at : List (List ℕ) → ℕ → ℕ → Bool
has_at sets j = has (unwrap_or (slice_get sets j) [])
