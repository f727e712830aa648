-- The programs of the workloads are accepted, by computing, and with them any script.
use Rattle.std.proofs.Common.{◌≡◌, Result, ℕ, ◌+◌, ◌<◌, ◌^◌, List, ◌++◌, length, refl, subst, sym}
use Rattle.ceal_base.specs.Faults.{faults_of_each}
use Rattle.ceal_base.specs.declared.syntax.ExprForm.TheBlock.{hidden-the_row-Expr-0}
use Rattle.ceal_base.specs.declared.syntax.Stmt.TheBlock.{hidden-the_row-Stmt-0}
use Rattle.ceal_base.specs.declared.typed.TypedForm.TheBlock.{hidden-the_row-TypedExpr-0}
use Rattle.ceal_base.specs.declared.typed.TypedStmt.TheBlock.{hidden-the_row-TypedStmt-0}
use Rattle.ceal_compile.specs.Source.{IsAccepted}
use Rattle.ceal_flow.specs.Lowering.{all_places, function_places, lowered, places}
use Rattle.ceal_gen.specs.ListText.{cell_lines, head, list_run, list_text, put_at_end, put_in_front, take_front}
use Rattle.ceal_gen.specs.Programs.{eval_program, map_program}
use Rattle.ceal_gen.specs.TreeText.{change_leaf, node_count, node_lines, replace_left, tree_run, tree_text}
use Rattle.ceal_gen.specs.declared.kind.Workload.TheVariants.{List as OfList, Tree as OfTree}
use Rattle.ceal_base.specs.declared.fault.Fault.{Fault}
use Rattle.ceal_base.specs.declared.syntax.Entry.{Entry}
use Rattle.ceal_base.specs.declared.syntax.Tree.{Tree}
use Rattle.ceal_base.specs.declared.typed.Typed.{Typed}
use Rattle.ceal_base.specs.Digits.{number_with_digits}
use Rattle.ceal_lex.specs.Pieces.{Piece, spelled}
use Rattle.ceal_lex.specs.declared.token.Token.{Token}
use Rattle.ceal_grammar.specs.declared.state.State.{State}
use Rattle.ceal_types.specs.declared.program.Program.{Program}
use Rattle.ceal_flow.specs.Program.{Graph}
use Rattle.ceal_lex.specs.Tokens.{tokens_from}
use Rattle.ceal_grammar.specs.Judged.{tree_or_fault}
use Rattle.ceal_grammar.specs.Machine.{reduction, same_sign, same_word, chain_statement}
use Rattle.ceal_types.specs.Checked.{checked, typed_function, with_body}
use Rattle.ceal_types.specs.Expressions.{address_at, field_at, member, typed_form}
use Rattle.ceal_types.specs.Heads.{head_of, heads, struct_names, with_entry, with_field, with_parameter}
use Rattle.ceal_types.specs.Statements.{typed_stmt, typed_value}
use Rattle.ceal_types.specs.Tables.{find}
use Rattle.ceal_types.specs.Walk.{in_turn}
use Rattle.ceal_usage.specs.Faults.{core_faults, form_mentions, init_faults, usage_faults}
use Rattle.ceal_cli.proofs.Accepted.Lengths.{list_short, tree_short}
use Rattle.ceal_cli.proofs.Accepted.Parts.{input, is_clear}
use Rattle.ceal_cli.proofs.Accepted.Pieces.{all_may_stand, found, scanned}
use Rattle.ceal_cli.proofs.Accepted.Source.{IsFine, accepted_input}
use Rattle.ceal_cli.specs.Laws.{AcceptedLaw, ShortLaw}

-- The phases, each with all that unfolds where it computes.
unfoldable characters : ℕ → List ℕ → List Piece
unfolding scanned found number_with_digits
characters n bytes = scanned n bytes

unfoldable grammar : State → List Token → Result Tree Fault
unfolding tree_or_fault same_sign same_word reduction chain_statement
grammar s ts = tree_or_fault s ts

unfoldable names : List Entry → Result Program Fault
unfolding heads struct_names with_entry with_field with_parameter head_of in_turn find
names es = heads es

unfoldable types : Tree → Result Typed Fault
unfolding checked with_body typed_function typed_stmt typed_value typed_form member field_at address_at hidden-the_row-Expr-0 hidden-the_row-Stmt-0 denote.Hole.Carrier.hidden
types tree = checked tree

unfoldable usage : Typed → List Fault
unfolding faults_of_each init_faults core_faults form_mentions hidden-the_row-TypedExpr-0 hidden-the_row-TypedStmt-0
usage p = usage_faults p

unfoldable limit : Typed → Result Graph Fault
unfolding function_places all_places places
limit p = lowered p

fine : IsFine map_program × IsFine eval_program
unfolding map_program eval_program spelled all_may_stand is_clear tokens_from characters grammar names types usage limit
fine = (
  record { spelled = refl; stand = refl; clear = refl; ends = refl; program = refl },
  record { spelled = refl; stand = refl; clear = refl; ends = refl; program = refl },
)

abbrev list_script : ℕ → ℕ → List ℕ
list_script seed size =
    cell_lines seed size ++ list_run size ++ put_in_front size (head seed (size + 1)) ++ put_at_end (head seed (size + 2)) ++ take_front size

list_parts : (seed size : ℕ) → list_text seed size ≡ input map_program (list_script seed size)
unfolding map_program
list_parts seed size = refl

abbrev tree_script : ℕ → ℕ → List ℕ
tree_script seed size = node_lines seed size (node_count size) ++ tree_run ++ change_leaf (node_count size) ++ replace_left

tree_parts : (seed size : ℕ) → tree_text seed size ≡ input eval_program (tree_script seed size)
unfolding eval_program
tree_parts seed size = refl

abbrev Acceptable : List ℕ → Type 0
Acceptable text = length text < 2 ^ 32 → IsAccepted text

pub accepted-law : AcceptedLaw
accepted-law OfList seed size = subst Acceptable (sym (list_parts seed size)) (accepted_input map_program (list_script seed size) fine.0)
accepted-law OfTree seed size = subst Acceptable (sym (tree_parts seed size)) (accepted_input eval_program (tree_script seed size) fine.1)

pub short-law : ShortLaw
short-law OfList seed size h = list_short seed size h
short-law OfTree seed size h = tree_short seed size h
