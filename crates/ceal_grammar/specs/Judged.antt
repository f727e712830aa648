-- What a reading of tokens comes to.
use Rattle.std.specs.Prelude.{ℕ, nat_le, Option, Some, None, Result, Ok, Err, List, [], ◌∷◌, if◌then◌else◌}
use Rattle.ceal_base.specs.declared.fault.Fault.{Fault}
use Rattle.ceal_base.specs.declared.fault.FaultCode.{FaultCode}
use Rattle.ceal_base.specs.declared.fault.FaultCode.TheVariants.{S3, S4, S5, S6}
use Rattle.ceal_base.specs.declared.syntax.Entry.{Entry}
use Rattle.ceal_base.specs.declared.syntax.Tree.{Tree}
use Rattle.ceal_lex.specs.declared.token.Token.{Token}
use Rattle.ceal_lex.specs.declared.token.TokenKind.{TokenKind}
use Rattle.ceal_lex.specs.declared.token.TokenKind.TheVariants.{End, Cut}
use Rattle.ceal_grammar.specs.declared.state.State.{State}
use Rattle.ceal_grammar.specs.declared.state.State.TheVariants.{Finished}
use Rattle.ceal_grammar.specs.Machine.{step, nesting_of, item_of, operators_of}

-- the code of a fault at a token that cannot be there
abbrev pub code_at : TokenKind → FaultCode
code_at End = S5
code_at Cut = S5
code_at _ = S3

-- a fault at a token
abbrev pub fault_at : FaultCode → Token → Fault
fault_at code t = record { code = code; span = t.span }

-- the entries of a reading that has ended
abbrev pub entries_of : State → Option (List Entry)
entries_of (Finished es) = Some es
entries_of _ = None

-- Where no token is left that finishes the program: no list whose last token is End or Cut has this result.
abbrev pub tree_at_end : State → Result Tree Fault
tree_at_end (Finished es) = Ok (record { entries = es })
tree_at_end _ = Err (record { code = S5; span = record { from = 0; to = 0 } })

-- The state after the token t, which begins the item of this number, if it keeps the limits.
abbrev pub within_limits : ℕ → Token → State → Result State Fault
within_limits item t next =
    if nat_le 65 (nesting_of next) then Err (fault_at S4 t)
    else if nat_le 256 item then Err (fault_at S6 t)
    else if nat_le 256 (operators_of next) then Err (fault_at S6 t)
    else Ok next

-- where a token leads to, or the fault at it
abbrev pub next_state : State → Token → Option State → Result State Fault
next_state s t None = Err (fault_at (code_at t.kind) t)
next_state s t (Some next) = within_limits (item_of s t) t next

-- the tree of tokens from a state on, or the first fault
unfoldable pub tree_or_fault : State → List Token → Result Tree Fault
tree_or_fault s [] = tree_at_end s
tree_or_fault s (t ∷ ts) = elim (next_state s t (step s t)) [ Ok next ↦ tree_or_fault next ts | Err f ↦ Err f ]
