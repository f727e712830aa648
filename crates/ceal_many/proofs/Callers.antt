-- For callers of `Many::command`.
use Rattle.std.proofs.Common.{List, [], ◌∷◌, refl}
use Rattle.ceal_many.specs.Kept.{StandFor, AllMeet}
use Rattle.ceal_many.specs.Sessions.{session}
use Rattle.ceal_many.specs.Standing.{IsReady}
use Rattle.ceal_many.specs.declared.entry.Entry.{Entry}

-- Where each value stands for a state that meets the condition, `command` may always be called.
pub all-ready : {A S : Type 0} (stands : A → S → Type 0) (needs : S → Type 0) → ((a : A) → IsReady stands needs a)
    → (held : List (Entry A)) → IsReady (StandFor stands) (AllMeet needs) held
all-ready stands needs each [] = ([], tt, tt)
all-ready stands needs each (h ∷ hs) =
    let one = each h.answerer in
    let rest = all-ready stands needs each hs in
    (session h.name one.0 ∷ rest.0, (record { name = refl; state = one.1 }, rest.1), (one.2, rest.2))
