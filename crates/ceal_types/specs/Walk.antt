-- A walk ends at its first fault.
use Rattle.std.specs.Prelude.{Result, Ok, Err, List, [], ◌∷◌, ◌++◌}
use Rattle.ceal_base.specs.declared.fault.Fault.{Fault}
use Rattle.ceal_base.specs.declared.fault.FaultCode.{FaultCode}
use Rattle.ceal_base.specs.declared.fault.Span.{Span}

-- a fault with this code at this place
abbrev pub fault : {A : Type 0} → FaultCode → Span → Result A Fault
fault code at = Err (record { code = code; span = at })

-- what comes next, where there was no fault
abbrev pub after : {A B : Type 0} → (A → Result B Fault) → Result A Fault → Result B Fault
after next (Ok x) = next x
after next (Err f) = Err f

-- what is made of it, where there was no fault
abbrev pub result_map : {A B : Type 0} → (A → B) → Result A Fault → Result B Fault
result_map make (Ok x) = Ok (make x)
result_map make (Err f) = Err f

-- what comes next, where neither is a fault
abbrev pub both : {A B C : Type 0} → (A → B → Result C Fault) → Result A Fault → Result B Fault → Result C Fault
both next (Ok x) (Ok y) = next x y
both next (Ok x) (Err f) = Err f
both next (Err f) y = Err f

-- the items one after another, each changing what there is so far
unfoldable pub in_turn : {A S : Type 0} → (A → S → Result S Fault) → List A → S → Result S Fault
in_turn step [] s = Ok s
in_turn step (x ∷ xs) s = after (in_turn step xs) (step x s)

-- the list with one more at its end
abbrev pub at_end : {A : Type 0} → List A → A → List A
at_end xs x = xs ++ x ∷ []
