-- Two readings of an input are one.
use Rattle.std.proofs.Common.{◌≡◌, ℕ, Result, Ok, Err, List, subst}
use Rattle.ceal_base.specs.declared.fault.Fault.{Fault}
use Rattle.ceal_base.specs.declared.typed.Typed.{Typed}
use Rattle.ceal_code.specs.Program.{Code}
use Rattle.ceal_compile.specs.Compiled.{IsCodeOf}
use Rattle.ceal_compile.specs.Laws.{OneCodeLaw}
use Rattle.ceal_compile.specs.Source.{Comes, IsProgram, IsFirstFault, IsAccepted}
use Rattle.ceal_lex.specs.Parts.{IsSplit}
use Rattle.ceal_lex.specs.declared.parts.Split.{Split}
use Rattle.ceal_cli.specs.Output.{Programmed}

-- the laws that an input has one split, and that it has at most one program or first fault
abbrev pub SplitLaw : Type 0
SplitLaw = (input : List ℕ) (p q : Split) → IsSplit input p → IsSplit input q → p ≡ q

abbrev pub AnswerLaw : Type 0
AnswerLaw = (input : List ℕ) (a b : Result Typed Fault) → Comes input a → Comes input b → a ≡ b

pub one-program : AnswerLaw → (input : List ℕ) (p q : Typed) → IsProgram input p → IsProgram input q → p ≡ q
one-program answer input p q h k = cc (answer input (Ok p) (Ok q) h k)

pub one-fault : AnswerLaw → (input : List ℕ) (f g : Fault) → IsFirstFault input f → IsFirstFault input g → f ≡ g
one-fault answer input f g h k = cc (answer input (Err f) (Err g) h k)

-- an input with a fault is not accepted
pub no-fault : AnswerLaw → (input : List ℕ) (fault : Fault) → IsFirstFault input fault → IsAccepted input → ⊥
no-fault answer input fault is (program, reads) = absurd (cc (answer input (Ok program) (Err fault) reads is))

-- two readings have the same parts, the same program and the same code
pub record SameReading (input : List ℕ) (p q : Programmed input) : Type 0 where
  pub part : p.part ≡ q.part
  pub program : p.program ≡ q.program
  pub code : p.code ≡ q.code

pub one-reading : SplitLaw → AnswerLaw → OneCodeLaw → (input : List ℕ) (p q : Programmed input) → SameReading input p q
one-reading split answer code input p q =
    let programs : p.program ≡ q.program = one-program answer input p.program q.program p.reads q.reads in
    record {
      part = split input p.part q.part p.split q.split;
      program = programs;
      code = code q.program p.code q.code (subst (λ t. IsCodeOf t p.code) programs p.is_code) q.is_code;
    }

-- what is true of the one is true of the other
pub read-again : (P : Split → Typed → Code → Type 0) (input : List ℕ) (p q : Programmed input) → SameReading input p q
    → P p.part p.program p.code → P q.part q.program q.code
read-again P input p q same h =
    subst (λ c. P q.part q.program c) same.code (subst (λ t. P q.part t p.code) same.program (subst (λ s. P s p.program p.code) same.part h))
