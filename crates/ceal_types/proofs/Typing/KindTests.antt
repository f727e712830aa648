-- What the tests of types say.
use Rattle.std.proofs.Common.{◌≡◌, true, Option, Some, None, refl, sym, ap}
use Rattle.std.proofs.lemmas.Bool.{false≢true}
use Rattle.std.proofs.lemmas.Bool.Decides.{Decides-eqb}
use Rattle.ceal_base.specs.WellTyped.{IsPointer, Suits, Comparable}
use Rattle.ceal_base.specs.declared.kind.Kind.{Kind}
use Rattle.ceal_base.specs.declared.kind.Kind.TheVariants.{Int, Ptr, ModInt, ModPtr}
use Rattle.ceal_base.specs.Kinds.{same_kind, is_pointer}
use Rattle.ceal_types.specs.Kinds.{suits, comparable}

pub same-kind : (a b : Kind) → same_kind a b ≡ true → a ≡ b
same-kind Int Int h = refl
same-kind (Ptr s) (Ptr t) h = ap Ptr ((Decides-eqb s t).0 h)
same-kind ModInt ModInt h = refl
same-kind (ModPtr s) (ModPtr t) h = ap ModPtr ((Decides-eqb s t).0 h)
same-kind Int (Ptr t) h = absurd (false≢true h)
same-kind Int ModInt h = absurd (false≢true h)
same-kind Int (ModPtr t) h = absurd (false≢true h)
same-kind (Ptr s) Int h = absurd (false≢true h)
same-kind (Ptr s) ModInt h = absurd (false≢true h)
same-kind (Ptr s) (ModPtr t) h = absurd (false≢true h)
same-kind ModInt Int h = absurd (false≢true h)
same-kind ModInt (Ptr t) h = absurd (false≢true h)
same-kind ModInt (ModPtr t) h = absurd (false≢true h)
same-kind (ModPtr s) Int h = absurd (false≢true h)
same-kind (ModPtr s) (Ptr t) h = absurd (false≢true h)
same-kind (ModPtr s) ModInt h = absurd (false≢true h)

pointer : (kind : Kind) → is_pointer kind ≡ true → IsPointer kind
pointer Int h = absurd (false≢true h)
pointer (Ptr s) h = tt
pointer ModInt h = tt
pointer (ModPtr s) h = tt

pub suited : (asked : Kind) (given : Option Kind) → suits asked given ≡ true → Suits asked given
suited asked None h = pointer asked h
suited asked (Some kind) h = same-kind asked kind h

pub int-suited : (given : Option Kind) → suits Int given ≡ true → given ≡ Some Int
int-suited None h = absurd (false≢true h)
int-suited (Some kind) h = ap Some (sym (same-kind Int kind h))

pub compared-kinds : (left right : Option Kind) → comparable left right ≡ true → Comparable left right
compared-kinds None None h = tt
compared-kinds None (Some kind) h = pointer kind h
compared-kinds (Some kind) None h = pointer kind h
compared-kinds (Some kind) (Some other) h = same-kind kind other h
