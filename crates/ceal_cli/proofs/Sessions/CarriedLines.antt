-- Lines that are carried out, one after another.
use Rattle.std.proofs.Common.{ℕ, List, [], ◌∷◌, refl}
use Rattle.ceal_session.specs.State.{Situation}
use Rattle.ceal_cli.specs.ServedLines.{Serves, Carries}

-- what carries out the lines that are left carries out all
abbrev pub CarriedSoFar : Situation → Situation → List (List ℕ) → List (List ℕ) → Type 0
CarriedSoFar start here all left = (end : Situation) → Carries here left end → Carries start all end

pub one-carried : (start here next : Situation) (all lines : List (List ℕ)) (line text : List ℕ) → CarriedSoFar start here all (line ∷ lines) → Serves here line text next
    → CarriedSoFar start next all lines
unfolding Carries
one-carried start here next all lines line text h serves end more = h end (text, next, serves, more)

pub all-carried : (start here : Situation) (all : List (List ℕ)) → CarriedSoFar start here all [] → Carries start all here
unfolding Carries
all-carried start here all h = h here refl
