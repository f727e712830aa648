-- The table of places, seen as a function, and what is found by it.
use Rattle.std.specs.Prelude.{ℕ, List, [], unwrap_or}
use Rattle.std.specs.HashMap.{get}
use Rattle.ceal_adjust.specs.contracts.mark.MarkPartialEq.TheImpl.{ghosts}
use Rattle.ceal_adjust.specs.declared.mark.Mark.{Mark}
use Rattle.ceal_adjust.specs.declared.places.Places.{Places}

-- the places with a mark
unfoldable pub listed : Places → Mark → List ℕ
listed t m = unwrap_or (get ghosts.eq t.table m) []
