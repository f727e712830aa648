-- Which types go together.
use Rattle.std.specs.Prelude.{Bool, true, Option, Some, None}
use Rattle.ceal_base.specs.declared.kind.Kind.{Kind}
use Rattle.ceal_base.specs.Kinds.{same_kind, is_pointer}

-- a value of this type, or `null` where it has none, may be used where that type is asked
abbrev pub suits : Kind → Option Kind → Bool
suits asked None = is_pointer asked
suits asked (Some given) = same_kind asked given

-- values of these types may be compared by `==` and `!=`
abbrev pub comparable : Option Kind → Option Kind → Bool
comparable None None = true
comparable None (Some kind) = is_pointer kind
comparable (Some kind) None = is_pointer kind
comparable (Some kind) (Some other) = same_kind kind other
