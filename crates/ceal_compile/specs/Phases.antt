-- What the phases after the grammar make of a tree, and what all make of tokens.
use Rattle.std.specs.Prelude.{◌≡◌, ◌≤◌, ◌⊎◌, Result, Ok, Err, List}
use Rattle.ceal_base.specs.Usage.{KeepsUsage}
use Rattle.ceal_base.specs.WellTyped.{WellTyped}
use Rattle.ceal_base.specs.declared.fault.Fault.{Fault}
use Rattle.ceal_base.specs.declared.syntax.Tree.{Tree}
use Rattle.ceal_base.specs.declared.typed.Typed.{Typed}
use Rattle.ceal_flow.specs.Lowering.{BLOCKS, function_sizes, graph_of, lowered}
use Rattle.ceal_lex.specs.declared.token.Token.{Token}
use Rattle.ceal_grammar.specs.Faults.{Accepts, IsFirstFault}
use Rattle.ceal_types.specs.Checked.{checked}
use Rattle.ceal_usage.specs.Faults.{usage_faults}
use Rattle.ceal_usage.specs.Verdict.{verdict}

-- the program where its graph has no more blocks than are allowed, and else the first place past the limit
abbrev pub counted : Typed → Result Typed Fault
counted p = elim (lowered p) [ Ok g ↦ Ok p | Err f ↦ Err f ]

-- the program where it keeps the rules of usage as well, and else the first place where it breaks one
abbrev pub ruled : Typed → Result Typed Fault
ruled p = elim (verdict (usage_faults p)) [ Ok u ↦ counted p | Err f ↦ Err f ]

-- names and types first, then the rules of usage, then the limit
abbrev pub settled : Tree → Result Typed Fault
settled tree = elim (checked tree) [ Ok p ↦ ruled p | Err f ↦ Err f ]

-- The program has passed all checks: its names and types are right, it keeps the rules of usage, and the limit.
pub record IsChecked (p : Typed) : Type 0 where
  pub typed : WellTyped p
  pub usage : KeepsUsage p
  pub limit : counted p ≡ Ok p
  pub graph : lowered p ≡ Ok (graph_of p)
  pub few : function_sizes p.functions ≤ BLOCKS

-- The tokens have this first fault of the grammar.
pub record IsMisplaced (ts : List Token) (r : Result Typed Fault) : Type 0 where
  pub fault : Fault
  pub stands : IsFirstFault ts fault
  pub same : r ≡ Err fault

-- The tokens are those of a tree, and this is its result.
pub record IsParsed (ts : List Token) (r : Result Typed Fault) : Type 0 where
  pub tree : Tree
  pub accepted : Accepts ts tree
  pub same : r ≡ settled tree

-- what tokens come to: a program, or their first fault
abbrev pub TokensCome : List Token → Result Typed Fault → Type 0
TokensCome ts r = IsMisplaced ts r ⊎ IsParsed ts r
