-- One phase after another: what the first answers decides what all come to.
use Rattle.std.proofs.Common.{◌≡◌, Bool, Result, Ok, Err, List, ℕ, refl, sym, inl, inr}
use Rattle.ceal_base.specs.Answers.{Gives, Fails, IfFault}
use Rattle.ceal_base.specs.declared.fault.Fault.{Fault}
use Rattle.ceal_base.specs.declared.fault.FrontError.{FrontError}
use Rattle.ceal_base.specs.declared.fault.FrontError.TheVariants.{Memory, Fault as FaultError}
use Rattle.ceal_base.specs.declared.syntax.Tree.{Tree}
use Rattle.ceal_base.specs.declared.typed.Typed.{Typed}
use Rattle.ceal_lex.specs.declared.parts.Split.{Split}
use Rattle.ceal_lex.specs.declared.token.Token.{Token}
use Rattle.ceal_lex.specs.Faults.{IsFirstFault as IsFirstMisspelling}
use Rattle.ceal_lex.specs.Parts.{IsSplit, source_of}
use Rattle.ceal_lex.specs.Tokens.{AreTokens}
use Rattle.ceal_grammar.specs.Faults.{Accepts, IsFirstFault}
use Rattle.ceal_types.specs.Checked.{checked}
use Rattle.ceal_compile.specs.Phases.{ruled, settled, TokensCome}
use Rattle.ceal_compile.specs.Source.{PartComes, Comes}

abbrev pub Answer : Type 0
Answer = Result Typed Fault

-- an error that is handed on
pub given_back : (answer : Result Typed FrontError) (e : FrontError) (r : Answer) → answer ≡ Err e → Fails e r → Gives answer r
given_back answer e r same fails = rw same fails

-- the rules are those of the program that names and types give
pub settled_as : (tree : Tree) (p : Typed) (r : Answer) → checked tree ≡ Ok p → ruled p ≡ r → settled tree ≡ r
settled_as tree p r named same = rw (settled, named) same

-- a fault of names or types is the first one
pub settled_fails : (tree : Tree) (e : FrontError) → Fails e (checked tree) → Fails e (settled tree)
settled_fails tree Memory fails = tt
settled_fails tree (FaultError f) fails = rw (settled, fails) refl

-- what all phases say of a part whose tree was read
pub comes_of : (input : List ℕ) (part : Split) (ts : List Token) (tree : Tree) (r : Answer) → AreTokens (source_of input part) part.marked ts
    → Accepts ts tree → settled tree ≡ r → PartComes input part r
comes_of input part ts tree r lexed accepted same =
    inr (record { tokens = ts; lexed = lexed; come = inr (record { tree = tree; accepted = accepted; same = sym same }) })

pub faults_of : (input : List ℕ) (part : Split) (ts : List Token) (tree : Tree) (answer : Result Typed FrontError) (e : FrontError)
    → answer ≡ Err e → AreTokens (source_of input part) part.marked ts → Accepts ts tree → Fails e (settled tree)
    → IfFault answer (λ f. PartComes input part (Err f))
faults_of input part ts tree answer Memory same lexed accepted fails = rw same tt
faults_of input part ts tree answer (FaultError f) same lexed accepted fails = rw same (comes_of input part ts tree (Err f) lexed accepted fails)

-- after the tree that was read
pub tree_only : (ts : List Token) (tree : Tree) (answer : Result Typed FrontError)
    → ((t : Tree) → Accepts ts t → Gives {A = Tree} (Ok tree) (Ok t)) → ((f : Fault) → IsFirstFault ts f → Gives {A = Tree} (Ok tree) (Err f))
    → Gives answer (settled tree) → (r : Answer) → TokensCome ts r → Gives answer r
tree_only ts tree answer all only gives r (inl m) = absurd (cc (only m.fault m.stands))
tree_only ts tree answer all only gives r (inr p) =
    let e : p.tree ≡ tree = cc (all p.tree p.accepted) in rw (p.same, e) gives

-- after a fault of the grammar
pub tree_fault : (ts : List Token) (e : FrontError)
    → ((t : Tree) → Accepts ts t → Fails {A = Tree} e (Ok t)) → ((f : Fault) → IsFirstFault ts f → Fails {A = Tree} e (Err f))
    → (r : Answer) → TokensCome ts r → Fails e r
tree_fault ts Memory all only r h = tt
tree_fault ts (FaultError f) all only r (inl m) = let e : m.fault ≡ f = cc (only m.fault m.stands) in rw (m.same, e) refl
tree_fault ts (FaultError f) all only r (inr p) = absurd (cc (all p.tree p.accepted))

-- after the tokens that were read
pub tokens_only : (input : List ℕ) (part : Split) (ts : List Token) (answer : Result Typed FrontError)
    → ((us : List Token) → AreTokens (source_of input part) part.marked us → Gives {A = List Token} (Ok ts) (Ok us))
    → ((f : Fault) → IsFirstMisspelling (source_of input part) f → Gives {A = List Token} (Ok ts) (Err f))
    → ((r : Answer) → TokensCome ts r → Gives answer r) → (r : Answer) → PartComes input part r → Gives answer r
tokens_only input part ts answer all only come r (inl m) = absurd (cc (only m.fault m.stands))
tokens_only input part ts answer all only come r (inr p) =
    let e : p.tokens ≡ ts = cc (all p.tokens p.lexed) in come r (rw (← e) p.come)

-- after a fault of characters
pub tokens_fault : (input : List ℕ) (part : Split) (e : FrontError)
    → ((us : List Token) → AreTokens (source_of input part) part.marked us → Fails {A = List Token} e (Ok us))
    → ((f : Fault) → IsFirstMisspelling (source_of input part) f → Fails {A = List Token} e (Err f))
    → (r : Answer) → PartComes input part r → Fails e r
tokens_fault input part Memory all only r h = tt
tokens_fault input part (FaultError f) all only r (inl m) =
    let e : m.fault ≡ f = cc (only m.fault m.stands) in rw (m.same, e) refl
tokens_fault input part (FaultError f) all only r (inr p) = absurd (cc (all p.tokens p.lexed))

module _ (one_split : (input : List ℕ) (p q : Split) → IsSplit input p → IsSplit input q → p ≡ q)
    (one_list : (source : List ℕ) (marked : Bool) (ts us : List Token) → AreTokens source marked ts → AreTokens source marked us → ts ≡ us)
    (one_misspelling : (source : List ℕ) (f g : Fault) → IsFirstMisspelling source f → IsFirstMisspelling source g → f ≡ g)
    (not_misspelled : (source : List ℕ) (marked : Bool) (ts : List Token) (f : Fault) → AreTokens source marked ts → IsFirstMisspelling source f → ⊥)
    (one_tree : (ts : List Token) (a b : Tree) → Accepts ts a → Accepts ts b → a ≡ b)
    (one_fault : (ts : List Token) (f g : Fault) → IsFirstFault ts f → IsFirstFault ts g → f ≡ g)
    (not_both : (ts : List Token) (tree : Tree) (f : Fault) → Accepts ts tree → IsFirstFault ts f → ⊥) where
  tokens_once : (ts : List Token) (a b : Answer) → TokensCome ts a → TokensCome ts b → a ≡ b
  tokens_once ts a b (inl x) (inl y) = rw (x.same, y.same, one_fault ts x.fault y.fault x.stands y.stands) refl
  tokens_once ts a b (inl x) (inr y) = absurd (not_both ts y.tree x.fault y.accepted x.stands)
  tokens_once ts a b (inr x) (inl y) = absurd (not_both ts x.tree y.fault x.accepted y.stands)
  tokens_once ts a b (inr x) (inr y) = rw (x.same, y.same, one_tree ts x.tree y.tree x.accepted y.accepted) refl

  part_once : (input : List ℕ) (part : Split) (a b : Answer) → PartComes input part a → PartComes input part b → a ≡ b
  part_once input part a b (inl x) (inl y) =
      rw (x.same, y.same, one_misspelling (source_of input part) x.fault y.fault x.stands y.stands) refl
  part_once input part a b (inl x) (inr y) = absurd (not_misspelled (source_of input part) part.marked y.tokens x.fault y.lexed x.stands)
  part_once input part a b (inr x) (inl y) = absurd (not_misspelled (source_of input part) part.marked x.tokens y.fault x.lexed y.stands)
  part_once input part a b (inr x) (inr y) =
      let e = one_list (source_of input part) part.marked x.tokens y.tokens x.lexed y.lexed in
      tokens_once y.tokens a b (rw (← e) x.come) y.come

  pub one_answer : (input : List ℕ) (a b : Answer) → Comes input a → Comes input b → a ≡ b
  one_answer input a b x y =
      let e = one_split input x.part y.part x.split y.split in part_once input y.part a b (rw (← e) x.comes) y.comes
