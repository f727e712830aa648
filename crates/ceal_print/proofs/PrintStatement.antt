-- Each statement is printed as its own derivation, with no more braces than it had.
use Rattle.std.proofs.Common.{◌≡◌, ℕ, suc, ◌≤◌, Bool, true, false, List, [], ◌∷◌, ◌++◌, refl, ap, sym, ◌∙◌, subst, arith, inl, inr, append_assoc}
use Rattle.std.proofs.lemmas.Bool.{cases_Bool, false≢true}
use Rattle.ceal_base.specs.declared.fault.Span.{Span}
use Rattle.ceal_base.specs.declared.syntax.Expr.{Expr}
use Rattle.ceal_base.specs.declared.syntax.Stmt.{Stmt, Declare, Assign, SetField, Write, Call, If', While', Return, Break, Continue}
use Rattle.ceal_base.specs.declared.syntax.Stmt.TheBlock.{hidden-the_row-Stmt-0, shape-the_row-Stmt-0}
use Rattle.ceal_base.specs.declared.syntax.Stmt.TheViews.{If, While}
use Rattle.ceal_base.specs.declared.syntax.Value.TheVariants.{Plain, Read, Alloc}
use Rattle.ceal_lex.specs.declared.token.Reserved.TheVariants as Words
use Rattle.ceal_lex.specs.declared.token.Sign.TheVariants as Signs
use Rattle.ceal_lex.specs.declared.token.Token.{Token}
use Rattle.ceal_lex.specs.declared.token.TokenKind.{TokenKind}
use Rattle.ceal_lex.specs.declared.token.TokenKind.TheVariants.{Name, Reserved, Sign}
use Rattle.ceal_grammar.specs.Grammar.{Phrase, variable, own, arrow, level_of, Grouped, IsPath, Written, int, pointer}
use Rattle.ceal_grammar.specs.Grammar.{mod_int, mod_pointer, cell_int, cell_pointer, Allowed, IsCell, Arguments}
use Rattle.ceal_grammar.specs.Grammar.{no_arguments, arguments, AllGrouped, ArgumentsGrouped, Given, plainly, reading}
use Rattle.ceal_grammar.specs.Grammar.{allocation, modref_int, modref, GivenGrouped, Statement, declare, assign, set}
use Rattle.ceal_grammar.specs.Grammar.{store, call, branch, loop, exit, break, continue, Branch, when, Otherwise}
use Rattle.ceal_grammar.specs.Grammar.{nothing, otherwise, chained, Block, block, Statements, ended, followed}
use Rattle.ceal_grammar.specs.Grammar.{StatementProper, BranchProper, OtherwiseProper, BlockProper, StatementsProper}
use Rattle.ceal_print.specs.Print.{nowhere, bare_name, bare_expr, bare_exprs, bare_type, bare_value, bare_stmt, bare_stmt_row, bare_stmts}
use Rattle.ceal_print.specs.PrintWords.{expr_kinds, more_kinds, argument_kinds, type_kinds, value_kinds, is_branch, is_chain, braced, after_else, stmt_kinds, stmts_kinds, second_kinds}
use Rattle.ceal_grammar.specs.Spelled.{Mark, plain, spelled, spelled_type, spelled_more, spelled_arguments}
use Rattle.ceal_grammar.specs.Spelled.{spelled_given, spelled_statement, spelled_branch, spelled_otherwise}
use Rattle.ceal_grammar.specs.Spelled.{spelled_block, spelled_statements}
use Rattle.ceal_grammar.specs.Trees.{expression, first, type_form, expressions, argument_trees, value_tree, statement_tree, branch_tree, otherwise_trees, block_trees, statement_trees}
use Rattle.ceal_print.proofs.PrintMarks.{Thinner, kept, same, dropped}
use Rattle.ceal_print.proofs.PrintPhrase.{spanned, placed, Printed, printed}
use Rattle.ceal_print.proofs.PrintSteps.{kinds-if, kinds-while}
use Rattle.ceal_grammar.proofs.Words.{word, phrase, type_words, items, argument_words, given_words, statement, branch_words, other_words, block_words, statement_words}

-- one more token in front
pub next : (σ : List TokenKind → Span) (k : TokenKind) {ts : List Token} {ks : List TokenKind} → ts ≡ spanned σ ks → word k (σ (k ∷ ks)) ∷ ts ≡ spanned σ (k ∷ ks)
unfolding spanned
next σ k {ts} {ks} e = ap (λ u. word k (σ (k ∷ ks)) ∷ u) e

-- Rows are lists.
bare-row : (ss : List Stmt) → bare_stmt_row (hidden-the_row-Stmt-0 ss) ≡ bare_stmts ss
unfolding bare_stmt bare_stmts hidden-the_row-Stmt-0 shape-the_row-Stmt-0 denote.Hole.Carrier.hidden
bare-row [] = refl
bare-row (s ∷ ss) = ap (λ t. bare_stmt s ∷ t) (bare-row ss)

bare-if : (at : Span) (e : Expr) (first second : List Stmt) → bare_stmt (If at e first second) ≡ If nowhere (bare_expr e) (bare_stmts first) (bare_stmts second)
unfolding bare_stmt
bare-if at e first second = λ i. If nowhere (bare_expr e) (bare-row first i) (bare-row second i)

bare-while : (at : Span) (e : Expr) (body : List Stmt) → bare_stmt (While at e body) ≡ While nowhere (bare_expr e) (bare_stmts body)
unfolding bare_stmt
bare-while at e body = λ i. While nowhere (bare_expr e) (bare-row body i)

-- A path is grouped.
path_grouped : (p : Phrase) → IsPath p → (8 ≤ level_of p) × Grouped p
unfolding Grouped
path_grouped (variable x) h = (omega arith, tt)
path_grouped (own s) h = (omega arith, tt)
path_grouped (arrow a s x) h = (omega arith, path_grouped a h)
path_grouped _ h = absurd h

-- What a type, arguments and so on are printed as, before tokens of the kinds ks.
pub record PrintedType (σ : List TokenKind → Span) (old : Written) (ks : List TokenKind) : Type 0 where
  pub made : Written
  pub words : type_words made (spanned σ ks) ≡ spanned σ (type_kinds (type_form old) ++ ks)
  pub allowed : (cells : Bool) → Allowed cells old → Allowed cells made
  pub cell : IsCell old → IsCell made
  pub bare : bare_type (type_form made) ≡ bare_type (type_form old)
  pub thinner : (d i : ℕ) (ms ns : List Mark) → Thinner 0 ms ns → Thinner 0 (spelled_type d i made ms) (spelled_type d i old ns)

pub record PrintedMore (σ : List TokenKind → Span) (old : List (Span × Phrase)) (ks : List TokenKind) : Type 0 where
  pub made : List (Span × Phrase)
  pub words : items made (spanned σ ks) ≡ spanned σ (more_kinds (expressions old) ++ ks)
  pub grouped : AllGrouped made
  pub bare : bare_exprs (expressions made) ≡ bare_exprs (expressions old)
  pub thinner : (d i : ℕ) (ms ns : List Mark) → Thinner 0 ms ns → Thinner 0 (spelled_more d i made ms) (spelled_more d i old ns)

pub record PrintedArguments (σ : List TokenKind → Span) (old : Arguments) (ks : List TokenKind) : Type 0 where
  pub made : Arguments
  pub words : argument_words made (spanned σ ks) ≡ spanned σ (argument_kinds (argument_trees old) ++ ks)
  pub grouped : ArgumentsGrouped made
  pub bare : bare_exprs (argument_trees made) ≡ bare_exprs (argument_trees old)
  pub thinner : (d : ℕ) (ms ns : List Mark) → Thinner 0 ms ns → Thinner 0 (spelled_arguments d made ms) (spelled_arguments d old ns)

pub record PrintedGiven (σ : List TokenKind → Span) (old : Given) (ks : List TokenKind) : Type 0 where
  pub made : Given
  pub words : given_words made (spanned σ ks) ≡ spanned σ (value_kinds (value_tree old) ++ ks)
  pub grouped : GivenGrouped made
  pub bare : bare_value (value_tree made) ≡ bare_value (value_tree old)
  pub thinner : (d : ℕ) (ms ns : List Mark) → Thinner 0 ms ns → Thinner 0 (spelled_given d made ms) (spelled_given d old ns)

pub record PrintedStatement (σ : List TokenKind → Span) (old : Statement) (ks : List TokenKind) : Type 0 where
  pub made : Statement
  pub words : statement made (spanned σ ks) ≡ spanned σ (stmt_kinds (statement_tree old) ++ ks)
  pub proper : StatementProper made
  pub bare : bare_stmt (statement_tree made) ≡ bare_stmt (statement_tree old)
  pub thinner : (d : ℕ) (ms ns : List Mark) → Thinner 0 ms ns → Thinner 0 (spelled_statement d made ms) (spelled_statement d old ns)

pub record PrintedBranch (σ : List TokenKind → Span) (old : Branch) (ks : List TokenKind) : Type 0 where
  pub made : Branch
  pub words : branch_words made (spanned σ ks) ≡ spanned σ (stmt_kinds (branch_tree old) ++ ks)
  pub proper : BranchProper made
  pub bare : bare_stmt (branch_tree made) ≡ bare_stmt (branch_tree old)
  pub thinner : (d : ℕ) (ms ns : List Mark) → Thinner 0 ms ns → Thinner 0 (spelled_branch d made ms) (spelled_branch d old ns)

pub record PrintedOther (σ : List TokenKind → Span) (old : Otherwise) (ks : List TokenKind) : Type 0 where
  pub made : Otherwise
  pub words : other_words made (spanned σ ks) ≡ spanned σ (second_kinds (otherwise_trees old) ++ ks)
  pub proper : OtherwiseProper made
  pub bare : bare_stmts (otherwise_trees made) ≡ bare_stmts (otherwise_trees old)
  pub thinner : (d : ℕ) (ms ns : List Mark) → Thinner 0 ms ns → Thinner 0 (spelled_otherwise d made ms) (spelled_otherwise d old ns)

pub record PrintedBlock (σ : List TokenKind → Span) (old : Block) (ks : List TokenKind) : Type 0 where
  pub made : Block
  pub words : block_words made (spanned σ ks) ≡ spanned σ (braced (stmts_kinds (block_trees old)) ++ ks)
  pub proper : BlockProper made
  pub bare : bare_stmts (block_trees made) ≡ bare_stmts (block_trees old)
  pub thinner : (d : ℕ) (ms ns : List Mark) → Thinner 0 ms ns → Thinner 0 (spelled_block d made ms) (spelled_block d old ns)

pub record PrintedStatements (σ : List TokenKind → Span) (old : Statements) (ks : List TokenKind) : Type 0 where
  pub made : Statements
  pub words : statement_words made (spanned σ ks) ≡ spanned σ (stmts_kinds (statement_trees old) ++ ks)
  pub proper : StatementsProper made
  pub bare : bare_stmts (statement_trees made) ≡ bare_stmts (statement_trees old)
  pub thinner : (d : ℕ) (ms ns : List Mark) → Thinner 0 ms ns → Thinner 0 (spelled_statements d made ms) (spelled_statements d old ns)

-- An else part of a single `if`.
chain_bare : (ss : List Stmt) → is_chain (bare_stmts ss) ≡ is_chain ss
unfolding bare_stmt bare_stmts
chain_bare [] = refl
chain_bare (Declare s form x v ∷ []) = refl
chain_bare (Assign x v ∷ []) = refl
chain_bare (SetField s p x e ∷ []) = refl
chain_bare (Write s a e ∷ []) = refl
chain_bare (Call x args ∷ []) = refl
chain_bare (If' s e p first q second ∷ []) = refl
chain_bare (While' s e p body ∷ []) = refl
chain_bare (Return s ∷ []) = refl
chain_bare (Break s ∷ []) = refl
chain_bare (Continue s ∷ []) = refl
chain_bare (s ∷ t ∷ ss) = refl

alone : (ss : Statements) → is_chain (statement_trees ss) ≡ true → (b : Branch) × (ss ≡ followed (branch b) ended)
unfolding statement_tree
alone ended h = absurd (false≢true h)
alone (followed (branch b) ended) h = (b, refl)
alone (followed (declare w x q g semi) ended) h = absurd (false≢true h)
alone (followed (assign x q g semi) ended) h = absurd (false≢true h)
alone (followed (set p s x q e semi) ended) h = absurd (false≢true h)
alone (followed (store s l a c e r semi) ended) h = absurd (false≢true h)
alone (followed (call x l args r semi) ended) h = absurd (false≢true h)
alone (followed (loop s l e r b) ended) h = absurd (false≢true h)
alone (followed (exit s semi) ended) h = absurd (false≢true h)
alone (followed (break s semi) ended) h = absurd (false≢true h)
alone (followed (continue s semi) ended) h = absurd (false≢true h)
alone (followed a (followed b ss)) h = absurd (false≢true h)

is_if : (b : Branch) → is_branch (branch_tree b) ≡ true
unfolding statement_tree
is_if (when s l e r b other) = refl

module _ (σ : List TokenKind → Span) where
  pub printed_type : (old : Written) (ks : List TokenKind) → PrintedType σ old ks
  unfolding spanned
  printed_type (int s) ks = record {
    made = int (σ (Reserved Words.Int ∷ ks));
    words = refl;
    allowed = λ cells h. h;
    cell = λ h. h;
    bare = refl;
    thinner = λ d i ms ns th. same refl th;
  }
  printed_type (pointer s x t) ks = record {
    made = pointer (σ (Reserved Words.Struct ∷ Name x.text ∷ Sign Signs.Star ∷ ks)) (placed σ x (Sign Signs.Star ∷ ks)) (σ (Sign Signs.Star ∷ ks));
    words = refl;
    allowed = λ cells h. h;
    cell = λ h. h;
    bare = refl;
    thinner = λ d i ms ns th. same refl (same refl (same refl th));
  }
  printed_type (mod_int s k t) ks = record {
    made = mod_int (σ (Reserved Words.Mod ∷ Reserved Words.Int ∷ Sign Signs.Star ∷ ks)) (σ (Reserved Words.Int ∷ Sign Signs.Star ∷ ks)) (σ (Sign Signs.Star ∷ ks));
    words = refl;
    allowed = λ cells h. h;
    cell = λ h. h;
    bare = refl;
    thinner = λ d i ms ns th. same refl (same refl (same refl th));
  }
  printed_type (mod_pointer s k x t) ks = record {
    made = mod_pointer (σ (Reserved Words.Mod ∷ Reserved Words.Struct ∷ Name x.text ∷ Sign Signs.Star ∷ ks))
        (σ (Reserved Words.Struct ∷ Name x.text ∷ Sign Signs.Star ∷ ks)) (placed σ x (Sign Signs.Star ∷ ks)) (σ (Sign Signs.Star ∷ ks));
    words = refl;
    allowed = λ cells h. h;
    cell = λ h. h;
    bare = refl;
    thinner = λ d i ms ns th. same refl (same refl (same refl (same refl th)));
  }
  printed_type (cell_int s k) ks = record {
    made = cell_int (σ (Reserved Words.Mod ∷ Reserved Words.Int ∷ ks)) (σ (Reserved Words.Int ∷ ks));
    words = refl;
    allowed = λ cells h. h;
    cell = λ h. h;
    bare = refl;
    thinner = λ d i ms ns th. same refl (same refl th);
  }
  printed_type (cell_pointer s k x) ks = record {
    made = cell_pointer (σ (Reserved Words.Mod ∷ Reserved Words.Struct ∷ Name x.text ∷ ks)) (σ (Reserved Words.Struct ∷ Name x.text ∷ ks)) (placed σ x ks);
    words = refl;
    allowed = λ cells h. h;
    cell = λ h. h;
    bare = refl;
    thinner = λ d i ms ns th. same refl (same refl (same refl th));
  }

  printed_more : (old : List (Span × Phrase)) → AllGrouped old → (ks : List TokenKind) → PrintedMore σ old ks
  unfolding spanned items AllGrouped expressions bare_exprs more_kinds spelled_more
  printed_more [] g ks = record {
    made = [];
    words = refl;
    grouped = tt;
    bare = refl;
    thinner = λ d i ms ns th. th;
  }
  printed_more (a ∷ old) g ks =
      let M = printed_more old g.1 ks in
      let E = printed σ a.1 g.0 (more_kinds (expressions old) ++ ks) in
      let whole : List TokenKind = expr_kinds (expression a.1) ++ (more_kinds (expressions old) ++ ks) in
      let flat : more_kinds (expressions (a ∷ old)) ++ ks ≡ Sign Signs.Comma ∷ whole = simp append_assoc refl in record {
        made = (σ (Sign Signs.Comma ∷ whole), E.made) ∷ M.made;
        words = next σ (Sign Signs.Comma) (ap (phrase E.made) M.words ∙ E.words) ∙ sym (ap (spanned σ) flat);
        grouped = (E.grouped, M.grouped);
        bare = λ i. E.bare i ∷ M.bare i;
        thinner = λ d i ms ns th. same refl (E.lighter 0 d d i i 0 0 _ _ (omega arith) (omega arith) (omega arith) (M.thinner d (suc i) ms ns th));
      }

  printed_arguments : (old : Arguments) → ArgumentsGrouped old → (ks : List TokenKind) → PrintedArguments σ old ks
  unfolding spanned bare_exprs argument_kinds
  printed_arguments no_arguments g ks = record {
    made = no_arguments;
    words = refl;
    grouped = tt;
    bare = refl;
    thinner = λ d ms ns th. th;
  }
  printed_arguments (arguments e more) g ks =
      let M = printed_more more g.1 ks in
      let E = printed σ e g.0 (more_kinds (expressions more) ++ ks) in record {
        made = arguments E.made M.made;
        words = ap (phrase E.made) M.words ∙ E.words ∙ sym (ap (spanned σ) (append_assoc (expr_kinds (expression e)) (more_kinds (expressions more)) ks));
        grouped = (E.grouped, M.grouped);
        bare = λ i. E.bare i ∷ M.bare i;
        thinner = λ d ms ns th. E.lighter 0 d d 1 1 0 0 _ _ (omega arith) (omega arith) (omega arith) (M.thinner d 2 ms ns th);
      }

  -- an expression that begins no item, with no operators before it
  alike : (old : Phrase) (ks : List TokenKind) (E : Printed σ old ks) (d : ℕ) {ms ns : List Mark} → Thinner 0 ms ns → Thinner 0 (spelled d 0 0 E.made ms) (spelled d 0 0 old ns)
  alike old ks E d th = E.lighter 0 d d 0 0 0 0 _ _ (omega arith) (omega arith) (omega arith) th

  printed_given : (old : Given) → GivenGrouped old → (ks : List TokenKind) → PrintedGiven σ old ks
  unfolding spanned
  printed_given (plainly e) g ks =
      let E = printed σ e g ks in record {
        made = plainly E.made;
        words = E.words;
        grouped = E.grouped;
        bare = λ i. Plain (E.bare i);
        thinner = λ d ms ns th. alike e ks E d th;
      }
  printed_given (reading s l e r) g ks =
      let R : List TokenKind = Sign Signs.RightParenthesis ∷ ks in
      let E = printed σ e g R in
      let L : List TokenKind = Sign Signs.LeftParenthesis ∷ expr_kinds (expression e) ++ R in
      let flat : value_kinds (value_tree (reading s l e r)) ++ ks ≡ Reserved Words.Read ∷ L = simp append_assoc refl in record {
        made = reading (σ (Reserved Words.Read ∷ L)) (σ L) E.made (σ R);
        words = next σ (Reserved Words.Read) (next σ (Sign Signs.LeftParenthesis) E.words) ∙ sym (ap (spanned σ) flat);
        grouped = E.grouped;
        bare = λ i. Read nowhere (E.bare i);
        thinner = λ d ms ns th. same refl (same refl (alike e R E (suc d) (same refl th)));
      }
  printed_given (allocation s y x l args r) g ks =
      let R : List TokenKind = Sign Signs.RightParenthesis ∷ ks in
      let A = printed_arguments args g R in
      let L : List TokenKind = Sign Signs.LeftParenthesis ∷ argument_kinds (argument_trees args) ++ R in
      let flat : value_kinds (value_tree (allocation s y x l args r)) ++ ks ≡ Reserved Words.Alloc ∷ Name y.text ∷ Name x.text ∷ L = simp append_assoc refl in record {
        made = allocation (σ (Reserved Words.Alloc ∷ Name y.text ∷ Name x.text ∷ L)) (placed σ y (Name x.text ∷ L)) (placed σ x L) (σ L) A.made (σ R);
        words = next σ (Reserved Words.Alloc) (next σ (Name y.text) (next σ (Name x.text) (next σ (Sign Signs.LeftParenthesis) A.words))) ∙ sym (ap (spanned σ) flat);
        grouped = A.grouped;
        bare = λ i. Alloc nowhere (bare_name y) (bare_name x) (A.bare i);
        thinner = λ d ms ns th. same refl (same refl (same refl (same refl (A.thinner (suc d) _ _ (same refl th)))));
      }
  printed_given (modref_int s k l r) g ks =
      let R : List TokenKind = Sign Signs.RightParenthesis ∷ ks in
      let L : List TokenKind = Sign Signs.LeftParenthesis ∷ R in record {
        made = modref_int (σ (Reserved Words.Modref ∷ Reserved Words.Int ∷ L)) (σ (Reserved Words.Int ∷ L)) (σ L) (σ R);
        words = refl;
        grouped = tt;
        bare = refl;
        thinner = λ d ms ns th. same refl (same refl (same refl (same refl th)));
      }
  printed_given (modref s y l r) g ks =
      let R : List TokenKind = Sign Signs.RightParenthesis ∷ ks in
      let L : List TokenKind = Sign Signs.LeftParenthesis ∷ R in record {
        made = modref (σ (Reserved Words.Modref ∷ Name y.text ∷ L)) (placed σ y L) (σ L) (σ R);
        words = refl;
        grouped = tt;
        bare = refl;
        thinner = λ d ms ns th. same refl (same refl (same refl (same refl th)));
      }

  in_braces : (s l r : Span) (old : Statements) (ks : List TokenKind) → PrintedStatements σ old (Sign Signs.RightBrace ∷ ks)
      → second_kinds (statement_trees old) ≡ after_else false (stmts_kinds (statement_trees old)) → PrintedOther σ (otherwise s (block l old r)) ks
  unfolding spanned statement statement_tree StatementProper spelled_statement
  in_braces s l r old ks P e =
      let R : List TokenKind = Sign Signs.RightBrace ∷ ks in
      let B : List TokenKind = Sign Signs.LeftBrace ∷ stmts_kinds (statement_trees old) ++ R in
      let flat : after_else false (stmts_kinds (statement_trees old)) ++ ks ≡ Reserved Words.Else ∷ B = simp append_assoc refl in record {
        made = otherwise (σ (Reserved Words.Else ∷ B)) (block (σ B) P.made (σ R));
        words = next σ (Reserved Words.Else) (next σ (Sign Signs.LeftBrace) P.words) ∙ sym (ap (spanned σ) flat) ∙ ap (λ u. spanned σ (u ++ ks)) (sym e);
        proper = P.proper;
        bare = P.bare;
        thinner = λ d ms ns th. same refl (same refl (P.thinner (suc d) _ _ (same refl th)));
      }

  in_chain : (s l r : Span) (old : Statements) (ks : List TokenKind) → PrintedStatements σ old ks → is_chain (statement_trees old) ≡ true
      → second_kinds (statement_trees old) ≡ after_else true (stmts_kinds (statement_trees old)) → PrintedOther σ (otherwise s (block l old r)) ks
  unfolding spanned statement statement_tree StatementProper spelled_statement
  in_chain s l r old ks P h e =
      let found = alone P.made (sym (chain_bare (statement_trees P.made)) ∙ ap is_chain P.bare ∙ chain_bare (statement_trees old) ∙ h) in
      let whole : List TokenKind = stmts_kinds (statement_trees old) ++ ks in record {
        made = chained (σ (Reserved Words.Else ∷ whole)) found.0;
        words = next σ (Reserved Words.Else) (ap (λ (ss : Statements). statement_words ss (spanned σ ks)) (sym found.1) ∙ P.words)
            ∙ ap (λ u. spanned σ (u ++ ks)) (sym e);
        proper = (subst StatementsProper found.1 P.proper).0;
        bare = ap (λ (ss : Statements). bare_stmts (statement_trees ss)) (sym found.1) ∙ P.bare;
        thinner = λ d ms ns th. same refl (dropped refl
            (subst (λ (ss : Statements). Thinner 0 (spelled_statements (suc d) ss ms) (spelled_statements (suc d) old (plain d (Sign Signs.RightBrace) r ∷ ns))) found.1
            (P.thinner (suc d) ms (plain d (Sign Signs.RightBrace) r ∷ ns) (dropped refl th))));
      }

  other_block : (s l r : Span) (old : Statements) → ((ks : List TokenKind) → PrintedStatements σ old ks) → (ks : List TokenKind) → PrintedOther σ (otherwise s (block l old r)) ks
  unfolding statement statement_tree StatementProper spelled_statement
  other_block s l r ended P ks = record {
    made = nothing;
    words = refl;
    proper = tt;
    bare = refl;
    thinner = λ d ms ns th. dropped refl (dropped refl (dropped refl th));
  }
  other_block s l r (followed a old) P ks = elim (cases_Bool (is_chain (statement_trees (followed a old)))) [
    | inl e ↦ in_chain s l r (followed a old) ks (P ks) e (ap (λ b. after_else b (stmts_kinds (statement_trees (followed a old)))) e)
    | inr e ↦ in_braces s l r (followed a old) ks (P (Sign Signs.RightBrace ∷ ks)) (ap (λ b. after_else b (stmts_kinds (statement_trees (followed a old)))) e)
  ]

  other_branch : (s : Span) (b : Branch) (ks : List TokenKind) → PrintedBranch σ b ks → PrintedOther σ (chained s b) ks
  unfolding spanned statement statement_tree StatementProper spelled_statement bare_stmts stmts_kinds
  other_branch s b ks P =
      let whole : List TokenKind = stmt_kinds (branch_tree b) ++ ks in
      let flat : after_else true (stmts_kinds (branch_tree b ∷ [])) ++ ks ≡ Reserved Words.Else ∷ whole =
      ap (λ u. Reserved Words.Else ∷ u) (append_assoc (stmt_kinds (branch_tree b)) [] ks) in record {
        made = chained (σ (Reserved Words.Else ∷ whole)) P.made;
        words = next σ (Reserved Words.Else) P.words ∙ sym (ap (spanned σ) flat)
            ∙ ap (λ c. spanned σ (after_else c (stmts_kinds (branch_tree b ∷ [])) ++ ks)) (sym (is_if b));
        proper = P.proper;
        bare = λ i. P.bare i ∷ [];
        thinner = λ d ms ns th. same refl (P.thinner (suc d) ms ns th);
      }

  mutual
    unfolding spanned statement statement_tree first StatementProper spelled_statement bare_stmt bare_stmts stmt_kinds stmts_kinds

    pub printed_statement : (old : Statement) → StatementProper old → (ks : List TokenKind) → PrintedStatement σ old ks
    printed_statement (declare w x q g semi) h ks =
        let E : List TokenKind = Sign Signs.Semicolon ∷ ks in
        let G = printed_given g h.1 E in
        let N : List TokenKind = Name x.text ∷ Sign Signs.Equals ∷ value_kinds (value_tree g) ++ E in
        let W = printed_type w N in
        let flat : stmt_kinds (statement_tree (declare w x q g semi)) ++ ks ≡ type_kinds (type_form w) ++ N = simp append_assoc refl in record {
          made = declare W.made (record { text = x.text; span = σ N }) (σ (Sign Signs.Equals ∷ value_kinds (value_tree g) ++ E)) G.made (σ E);
          words = ap (type_words W.made) (next σ (Name x.text) (next σ (Sign Signs.Equals) G.words)) ∙ W.words ∙ sym (ap (spanned σ) flat);
          proper = (W.allowed false h.0, G.grouped);
          bare = λ i. Declare nowhere (W.bare i) (bare_name x) (G.bare i);
          thinner = λ d ms ns th. W.thinner d 0 _ _ (same refl (same refl (G.thinner d _ _ (same refl th))));
        }
    printed_statement (assign x q g semi) h ks =
        let E : List TokenKind = Sign Signs.Semicolon ∷ ks in
        let G = printed_given g h E in
        let Q : List TokenKind = Sign Signs.Equals ∷ value_kinds (value_tree g) ++ E in
        let flat : stmt_kinds (statement_tree (assign x q g semi)) ++ ks ≡ Name x.text ∷ Q = simp append_assoc refl in record {
          made = assign (placed σ x Q) (σ Q) G.made (σ E);
          words = next σ (Name x.text) (next σ (Sign Signs.Equals) G.words) ∙ sym (ap (spanned σ) flat);
          proper = G.grouped;
          bare = λ i. Assign (bare_name x) (G.bare i);
          thinner = λ d ms ns th. same refl (same refl (G.thinner d _ _ (same refl th)));
        }
    printed_statement (set p s x q e semi) h ks =
        let S : List TokenKind = Sign Signs.Semicolon ∷ ks in
        let E = printed σ e h.1 S in
        let Q : List TokenKind = Sign Signs.Equals ∷ expr_kinds (expression e) ++ S in
        let A : List TokenKind = Sign Signs.Arrow ∷ Name x.text ∷ Q in
        let P = printed σ p (path_grouped p h.0).1 A in
        let flat : stmt_kinds (statement_tree (set p s x q e semi)) ++ ks ≡ expr_kinds (expression p) ++ A = simp append_assoc refl in record {
          made = set P.made (σ A) (placed σ x Q) (σ Q) E.made (σ S);
          words = ap (phrase P.made) (next σ (Sign Signs.Arrow) (next σ (Name x.text) (next σ (Sign Signs.Equals) E.words))) ∙ P.words ∙ sym (ap (spanned σ) flat);
          proper = ((P.path h.0).0, E.grouped);
          bare = λ i. SetField nowhere (P.bare i) (bare_name x) (E.bare i);
          thinner = λ d ms ns th.
              let k = P.counted 0 0 (omega arith) in
              alike p A P d (kept refl (omega arith) (omega arith) (omega (arith, k)) (kept refl (omega arith) (omega arith) (omega (arith, k))
              (same refl (alike e S E d (same refl th)))));
        }
    printed_statement (store s l a c e r semi) h ks =
        let R : List TokenKind = Sign Signs.RightParenthesis ∷ Sign Signs.Semicolon ∷ ks in
        let E = printed σ e h.1 R in
        let C : List TokenKind = Sign Signs.Comma ∷ expr_kinds (expression e) ++ R in
        let A = printed σ a h.0 C in
        let L : List TokenKind = Sign Signs.LeftParenthesis ∷ expr_kinds (expression a) ++ C in
        let flat : stmt_kinds (statement_tree (store s l a c e r semi)) ++ ks ≡ Reserved Words.Write ∷ L = simp append_assoc refl in record {
          made = store (σ (Reserved Words.Write ∷ L)) (σ L) A.made (σ C) E.made (σ R) (σ (Sign Signs.Semicolon ∷ ks));
          words = next σ (Reserved Words.Write) (next σ (Sign Signs.LeftParenthesis) (ap (phrase A.made) (next σ (Sign Signs.Comma) E.words) ∙ A.words))
              ∙ sym (ap (spanned σ) flat);
          proper = (A.grouped, E.grouped);
          bare = λ i. Write nowhere (A.bare i) (E.bare i);
          thinner = λ d ms ns th. same refl (same refl (alike a C A (suc d) (same refl (alike e R E (suc d) (same refl (same refl th))))));
        }
    printed_statement (call x l args r semi) h ks =
        let R : List TokenKind = Sign Signs.RightParenthesis ∷ Sign Signs.Semicolon ∷ ks in
        let A = printed_arguments args h R in
        let L : List TokenKind = Sign Signs.LeftParenthesis ∷ argument_kinds (argument_trees args) ++ R in
        let flat : stmt_kinds (statement_tree (call x l args r semi)) ++ ks ≡ Name x.text ∷ L = simp append_assoc refl in record {
          made = call (placed σ x L) (σ L) A.made (σ R) (σ (Sign Signs.Semicolon ∷ ks));
          words = next σ (Name x.text) (next σ (Sign Signs.LeftParenthesis) A.words) ∙ sym (ap (spanned σ) flat);
          proper = A.grouped;
          bare = λ i. Call (bare_name x) (A.bare i);
          thinner = λ d ms ns th. same refl (same refl (A.thinner (suc d) _ _ (same refl (same refl th))));
        }
    printed_statement (branch b) h ks =
        let P = printed_branch b h ks in record {
          made = branch P.made;
          words = P.words;
          proper = P.proper;
          bare = P.bare;
          thinner = P.thinner;
        }
    printed_statement (loop s l e r b) h ks =
        let B = printed_block b h.1 ks in
        let R : List TokenKind = Sign Signs.RightParenthesis ∷ braced (stmts_kinds (block_trees b)) ++ ks in
        let E = printed σ e h.0 R in
        let L : List TokenKind = Sign Signs.LeftParenthesis ∷ expr_kinds (expression e) ++ R in
        let flat : stmt_kinds (statement_tree (loop s l e r b)) ++ ks ≡ Reserved Words.While ∷ L =
        ap (λ u. u ++ ks) (kinds-while s (expression e) (block_trees b)) ∙ simp append_assoc refl in record {
          made = loop (σ (Reserved Words.While ∷ L)) (σ L) E.made (σ R) B.made;
          words = next σ (Reserved Words.While) (next σ (Sign Signs.LeftParenthesis) (ap (phrase E.made) (next σ (Sign Signs.RightParenthesis) B.words) ∙ E.words))
              ∙ sym (ap (spanned σ) flat);
          proper = (E.grouped, B.proper);
          bare = bare-while (σ (Reserved Words.While ∷ L)) (expression E.made) (block_trees B.made)
              ∙ (λ i. While nowhere (E.bare i) (B.bare i))
              ∙ sym (bare-while s (expression e) (block_trees b));
          thinner = λ d ms ns th. same refl (same refl (alike e R E (suc d) (same refl (B.thinner d ms ns th))));
        }
    printed_statement (exit s semi) h ks = record {
      made = exit (σ (Reserved Words.Return ∷ Sign Signs.Semicolon ∷ ks)) (σ (Sign Signs.Semicolon ∷ ks));
      words = refl;
      proper = tt;
      bare = refl;
      thinner = λ d ms ns th. same refl (same refl th);
    }
    printed_statement (break s semi) h ks = record {
      made = break (σ (Reserved Words.Break ∷ Sign Signs.Semicolon ∷ ks)) (σ (Sign Signs.Semicolon ∷ ks));
      words = refl;
      proper = tt;
      bare = refl;
      thinner = λ d ms ns th. same refl (same refl th);
    }
    printed_statement (continue s semi) h ks = record {
      made = continue (σ (Reserved Words.Continue ∷ Sign Signs.Semicolon ∷ ks)) (σ (Sign Signs.Semicolon ∷ ks));
      words = refl;
      proper = tt;
      bare = refl;
      thinner = λ d ms ns th. same refl (same refl th);
    }

    pub printed_branch : (old : Branch) → BranchProper old → (ks : List TokenKind) → PrintedBranch σ old ks
    printed_branch (when s l e r b other) h ks =
        let O = printed_other other h.2 ks in
        let B = printed_block b h.1 (second_kinds (otherwise_trees other) ++ ks) in
        let R : List TokenKind = Sign Signs.RightParenthesis ∷ braced (stmts_kinds (block_trees b)) ++ (second_kinds (otherwise_trees other) ++ ks) in
        let E = printed σ e h.0 R in
        let L : List TokenKind = Sign Signs.LeftParenthesis ∷ expr_kinds (expression e) ++ R in
        let flat : stmt_kinds (branch_tree (when s l e r b other)) ++ ks ≡ Reserved Words.If ∷ L =
        ap (λ u. u ++ ks) (kinds-if s (expression e) (block_trees b) (otherwise_trees other)) ∙ simp append_assoc refl in record {
          made = when (σ (Reserved Words.If ∷ L)) (σ L) E.made (σ R) B.made O.made;
          words = next σ (Reserved Words.If) (next σ (Sign Signs.LeftParenthesis)
              (ap (phrase E.made) (next σ (Sign Signs.RightParenthesis) (ap (block_words B.made) O.words ∙ B.words)) ∙ E.words))
              ∙ sym (ap (spanned σ) flat);
          proper = (E.grouped, B.proper, O.proper);
          bare = bare-if (σ (Reserved Words.If ∷ L)) (expression E.made) (block_trees B.made) (otherwise_trees O.made)
              ∙ (λ i. If nowhere (E.bare i) (B.bare i) (O.bare i))
              ∙ sym (bare-if s (expression e) (block_trees b) (otherwise_trees other));
          thinner = λ d ms ns th. same refl (same refl (alike e R E (suc d) (same refl (B.thinner d _ _ (O.thinner d ms ns th)))));
        }

    pub printed_other : (old : Otherwise) → OtherwiseProper old → (ks : List TokenKind) → PrintedOther σ old ks
    printed_other nothing h ks = record {
      made = nothing;
      words = refl;
      proper = tt;
      bare = refl;
      thinner = λ d ms ns th. th;
    }
    printed_other (otherwise s (block l ss r)) h ks = other_block s l r ss (printed_statements ss h) ks
    printed_other (chained s b) h ks = other_branch s b ks (printed_branch b h ks)

    pub printed_block : (old : Block) → BlockProper old → (ks : List TokenKind) → PrintedBlock σ old ks
    printed_block (block l ss r) h ks =
        let R : List TokenKind = Sign Signs.RightBrace ∷ ks in
        let P = printed_statements ss h R in
        let B : List TokenKind = Sign Signs.LeftBrace ∷ stmts_kinds (statement_trees ss) ++ R in
        let flat : braced (stmts_kinds (statement_trees ss)) ++ ks ≡ B = simp append_assoc refl in record {
          made = block (σ B) P.made (σ R);
          words = next σ (Sign Signs.LeftBrace) P.words ∙ sym (ap (spanned σ) flat);
          proper = P.proper;
          bare = P.bare;
          thinner = λ d ms ns th. same refl (P.thinner (suc d) _ _ (same refl th));
        }

    pub printed_statements : (old : Statements) → StatementsProper old → (ks : List TokenKind) → PrintedStatements σ old ks
    printed_statements ended h ks = record {
      made = ended;
      words = refl;
      proper = tt;
      bare = refl;
      thinner = λ d ms ns th. th;
    }
    printed_statements (followed a ss) h ks =
        let P = printed_statements ss h.1 ks in
        let S = printed_statement a h.0 (stmts_kinds (statement_trees ss) ++ ks) in record {
          made = followed S.made P.made;
          words = ap (statement S.made) P.words ∙ S.words ∙ sym (ap (spanned σ) (append_assoc (stmt_kinds (statement_tree a)) (stmts_kinds (statement_trees ss)) ks));
          proper = (S.proper, P.proper);
          bare = λ i. S.bare i ∷ P.bare i;
          thinner = λ d ms ns th. S.thinner d _ _ (P.thinner d ms ns th);
        }
