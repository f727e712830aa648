-- Parameters other than one of them.
use Rattle.std.specs.Prelude.{ℕ, ◌+◌, ◌==◌, List, [], ◌∷◌, if◌then◌else◌}
use Rattle.ceal_code.specs.declared.expr.VarId.{VarId}

-- one for a parameter that is not this variable
abbrev pub one_other : ℕ → VarId → ℕ
one_other v p = if p.0 == v then 0 else 1

-- how many of the parameters are not this variable
unfoldable pub others : ℕ → List VarId → ℕ
others v [] = 0
others v (p ∷ ps) = one_other v p + others v ps
