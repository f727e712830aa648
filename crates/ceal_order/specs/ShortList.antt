-- A list that is short mostly.
use Rattle.std.specs.Prelude.{List, [], ◌∷◌}
use Rattle.ceal_order.specs.declared.short_list.Form.{Form}
use Rattle.ceal_order.specs.declared.short_list.Form.TheVariants.{Empty, One, Two, Many}

-- the items of each form
abbrev pub listed : {A : Type 0} → Form A → List A
listed Empty = []
listed (One item) = item ∷ []
listed (Two first second) = first ∷ second ∷ []
listed (Many items) = items.value
