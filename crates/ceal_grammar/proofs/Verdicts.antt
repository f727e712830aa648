-- Tokens are a program or have a first fault, and neither in two ways: the machine has one verdict.
use Rattle.std.proofs.Common.{◌≡◌, ◌⊎◌, inl, inr, refl, Result, Ok, Err, List, []}
use Rattle.ceal_base.specs.declared.fault.Fault.{Fault}
use Rattle.ceal_base.specs.declared.syntax.Tree.{Tree}
use Rattle.ceal_lex.specs.Tokens.{IsEnded}
use Rattle.ceal_lex.specs.declared.token.Token.{Token}
use Rattle.ceal_grammar.specs.declared.state.State.TheVariants.{Top}
use Rattle.ceal_grammar.specs.Faults.{Accepts, IsFirstFault}
use Rattle.ceal_grammar.specs.Judged.{tree_or_fault}
use Rattle.ceal_grammar.proofs.Exact.{accepted, complete, faulty, first_given}

same_ok : (a b : Tree) (r : Result Tree Fault) → r ≡ Ok a → r ≡ Ok b → a ≡ b
same_ok a b r p q = cc

same_err : (f g : Fault) (r : Result Tree Fault) → r ≡ Err f → r ≡ Err g → f ≡ g
same_err f g r p q = cc

never_both : (a : Tree) (f : Fault) (r : Result Tree Fault) → r ≡ Ok a → r ≡ Err f → ⊥
never_both a f r p q = absurd (cc)

pub one_tree : (ts : List Token) (a b : Tree) → Accepts ts a → Accepts ts b → a ≡ b
one_tree ts a b p q = same_ok a b (tree_or_fault (Top []) ts) (complete ts a p) (complete ts b q)

pub one_fault : (ts : List Token) (f g : Fault) → IsFirstFault ts f → IsFirstFault ts g → f ≡ g
one_fault ts f g p q = same_err f g (tree_or_fault (Top []) ts) (first_given ts f p) (first_given ts g q)

pub not_both : (ts : List Token) (tree : Tree) (f : Fault) → Accepts ts tree → IsFirstFault ts f → ⊥
not_both ts tree f p q = never_both tree f (tree_or_fault (Top []) ts) (complete ts tree p) (first_given ts f q)

verdict : (r : Result Tree Fault) → ((tree : Tree) × (r ≡ Ok tree)) ⊎ ((f : Fault) × (r ≡ Err f))
verdict (Ok tree) = inl (tree, refl)
verdict (Err f) = inr (f, refl)

pub either : (ts : List Token) → IsEnded ts → ((tree : Tree) × Accepts ts tree) ⊎ ((f : Fault) × IsFirstFault ts f)
either ts ended = elim (verdict (tree_or_fault (Top []) ts)) [
  | inl a ↦ inl (a.0, accepted ts a.0 a.1)
  | inr b ↦ inr (b.0, faulty ts b.0 ended b.1)
]
