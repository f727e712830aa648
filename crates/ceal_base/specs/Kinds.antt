-- What kinds of variables have in common.
use Rattle.std.specs.Prelude.{Bool, true, false, ◌==◌}
use Rattle.ceal_base.specs.declared.kind.Kind.{Kind}
use Rattle.ceal_base.specs.declared.kind.Kind.TheVariants.{Int, Ptr, ModInt, ModPtr}

-- whether two kinds are one
abbrev pub same_kind : Kind → Kind → Bool
same_kind Int Int = true
same_kind (Ptr s) (Ptr t) = s == t
same_kind ModInt ModInt = true
same_kind (ModPtr s) (ModPtr t) = s == t
same_kind _ _ = false

-- whether the kind has null
abbrev pub is_pointer : Kind → Bool
is_pointer Int = false
is_pointer (Ptr s) = true
is_pointer ModInt = true
is_pointer (ModPtr s) = true
