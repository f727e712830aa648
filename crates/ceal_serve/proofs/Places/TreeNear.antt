-- Where all tokens are near, so is the tree.
use Rattle.std.proofs.Common.{◌≡◌, ◌∙◌, ℕ, List, [], ◌∷◌, subst, sym}
use Rattle.ceal_base.specs.declared.fault.Span.{Span}
use Rattle.ceal_base.specs.declared.syntax.ExprForm.TheBlock.{hidden-the_row-Expr-0, shape-the_row-Expr-0}
use Rattle.ceal_base.specs.declared.syntax.Stmt.TheBlock.{hidden-the_row-Stmt-0, shape-the_row-Stmt-0}
use Rattle.ceal_base.specs.declared.syntax.Stmt.{Stmt}
use Rattle.ceal_base.specs.declared.syntax.TypeForm.{TypeForm}
use Rattle.ceal_base.specs.declared.syntax.TypeForm.TheVariants as forms
use Rattle.ceal_lex.specs.declared.token.Token.{Token}
use Rattle.ceal_grammar.specs.Grammar.{Phrase, number, null, variable, own, parens, arrow, prefix, address, element}
use Rattle.ceal_grammar.specs.Grammar.{binary, Written, int, pointer, mod_int, mod_pointer, cell_int, cell_pointer}
use Rattle.ceal_grammar.specs.Grammar.{Arguments, no_arguments, arguments, Given, plainly, reading, allocation}
use Rattle.ceal_grammar.specs.Grammar.{modref_int, modref, Statement, declare, assign, set, store, call, branch, loop}
use Rattle.ceal_grammar.specs.Grammar.{exit, break, continue, Branch, when, Otherwise, nothing, otherwise, chained}
use Rattle.ceal_grammar.specs.Grammar.{Block, block, Statements, ended, followed, Parameter, Parameters, no_parameters}
use Rattle.ceal_grammar.specs.Grammar.{parameters, Signature, core, init, Size, single, row, Member, Part, structure}
use Rattle.ceal_grammar.specs.Grammar.{function, Program}
use Rattle.ceal_grammar.specs.Spelled.{spelled_program, tokens_of}
use Rattle.ceal_grammar.specs.Trees.{first, expression, type_form, type_first, expressions, argument_trees, value_tree}
use Rattle.ceal_grammar.specs.Trees.{statement_tree, branch_tree, otherwise_trees, block_trees, statement_trees}
use Rattle.ceal_grammar.specs.Trees.{parameter_tree, other_trees, parameter_trees, close_of}
use Rattle.ceal_grammar.specs.Trees.{sized_form, member_trees, part_tree, part_trees, program_tree}
use Rattle.ceal_grammar.proofs.Words.{phrase, type_words, items, argument_words, given_words, statement, branch_words}
use Rattle.ceal_grammar.proofs.Words.{other_words, block_words, statement_words, parameter_words, others, parameters_words}
use Rattle.ceal_grammar.proofs.Words.{signature_words, size_words, member_words, part_words, parts_words, bare_program}
use Rattle.ceal_serve.proofs.Places.Near.{Near, Each, FormNear, ExprNear, TypeNear, ValueNear, StmtNear, StmtsNear, DeclNear, EntryNear, TreeIsNear}
use Rattle.ceal_serve.proofs.Places.TokensNear.{TokenNear}

-- a row has what its list has
pub row-near : (n : ℕ) (ss : List Stmt) → Each (StmtNear n) ss → StmtsNear n (hidden-the_row-Stmt-0 ss)
unfolding Each StmtNear hidden-the_row-Stmt-0 shape-the_row-Stmt-0 denote.Hole.Carrier.hidden
row-near n [] h = tt
row-near n (s ∷ ss) h = (h.0, row-near n ss h.1)

module _ (n : ℕ) where
  -- these tokens are near
  abbrev pub All : List Token → Type 0
  All ts = Each (TokenNear n) ts

  pub phrase-near : (c : Phrase) (u : List Token) → All (phrase c u) → Near n (first c) × ExprNear n (expression c) × All u
  unfolding Each phrase first expression FormNear hidden-the_row-Expr-0 shape-the_row-Expr-0 denote.Hole.Carrier.hidden
  phrase-near (number v s) u h = (h.0, (h.0, tt), h.1)
  phrase-near (null s) u h = (h.0, (h.0, tt), h.1)
  phrase-near (variable x) u h = (h.0, (h.0, h.0), h.1)
  phrase-near (own s) u h = (h.0, (h.0, tt), h.1)
  phrase-near (parens l a r) u h =
      let k = phrase-near a _ h.1 in
      (h.0, k.1, k.2.1)
  phrase-near (arrow a s x) u h =
      let k = phrase-near a _ h in
      (k.0, (k.0, (k.1, k.2.1.0)), k.2.1.1)
  phrase-near (prefix op s a) u h =
      let k = phrase-near a _ h.1 in
      (h.0, (h.0, k.1), k.2)
  phrase-near (address s a) u h =
      let k = phrase-near a _ h.1 in
      (h.0, (h.0, k.1), k.2)
  phrase-near (element s a l b r) u h =
      let k = phrase-near a _ h.1 in
      let m = phrase-near b _ k.2.1 in
      (h.0, (h.0, (k.1, m.1)), m.2.1)
  phrase-near (binary op a s b) u h =
      let k = phrase-near a _ h in
      let m = phrase-near b _ k.2.1 in
      (k.0, (k.0, (k.2.0, k.1, m.1)), m.2)

  pub type-near : (w : Written) (u : List Token) → All (type_words w u) → Near n (type_first w) × TypeNear n (type_form w) × All u
  unfolding Each
  type-near (int s) u h = (h.0, tt, h.1)
  type-near (pointer s x t) u h = (h.0, h.1.0, h.1.1.1)
  type-near (mod_int s k t) u h = (h.0, tt, h.1.1.1)
  type-near (mod_pointer s k x t) u h = (h.0, h.1.1.0, h.1.1.1.1)
  type-near (cell_int s k) u h = (h.0, tt, h.1.1)
  type-near (cell_pointer s k x) u h = (h.0, h.1.1.0, h.1.1.1)

  items-near : (l : List (Span × Phrase)) (u : List Token) → All (items l u) → Each (ExprNear n) (expressions l) × All u
  unfolding Each items expressions
  items-near [] u h = (tt, h)
  items-near (a ∷ l) u h =
      let k = phrase-near a.1 _ h.1 in
      let m = items-near l u k.2 in
      ((k.1, m.0), m.1)

  arguments-near : (args : Arguments) (u : List Token) → All (argument_words args u) → Each (ExprNear n) (argument_trees args) × All u
  unfolding Each
  arguments-near no_arguments u h = (tt, h)
  arguments-near (arguments e l) u h =
      let k = phrase-near e _ h in
      let m = items-near l u k.2 in
      ((k.1, m.0), m.1)

  given-near : (g : Given) (u : List Token) → All (given_words g u) → ValueNear n (value_tree g) × All u
  unfolding Each
  given-near (plainly e) u h =
      let k = phrase-near e u h in
      (k.1, k.2)
  given-near (reading s l e r) u h =
      let k = phrase-near e _ h.1.1 in
      ((h.0, k.1), k.2.1)
  given-near (allocation s y x l args r) u h =
      let k = arguments-near args _ h.1.1.1.1 in
      ((h.0, h.1.0, h.1.1.0, k.0), k.1.1)
  given-near (modref_int s k l r) u h = (h.0, h.1.1.1.1)
  given-near (modref s y l r) u h = ((h.0, h.1.0), h.1.1.1.1)

  mutual
    unfolding Each statement statement_tree StmtNear row-near

    statement-near : (s : Statement) (u : List Token) → All (statement s u) → StmtNear n (statement_tree s) × All u
    statement-near (declare w x q g semi) u h =
        let k = type-near w _ h in
        let m = given-near g _ k.2.1.1 in
        ((k.0, k.1, k.2.0, m.0), m.1.1)
    statement-near (assign x q g semi) u h =
        let m = given-near g _ h.1.1 in
        ((h.0, m.0), m.1.1)
    statement-near (set p s x q e semi) u h =
        let k = phrase-near p _ h in
        let m = phrase-near e _ k.2.1.1.1 in
        ((k.0, k.1, k.2.1.0, m.1), m.2.1)
    statement-near (store s l a c e r semi) u h =
        let k = phrase-near a _ h.1.1 in
        let m = phrase-near e _ k.2.1 in
        ((h.0, k.1, m.1), m.2.1.1)
    statement-near (call x l args r semi) u h =
        let k = arguments-near args _ h.1.1 in
        ((h.0, k.0), k.1.1.1)
    statement-near (branch b) u h = branch-near b u h
    statement-near (loop s l e r b) u h =
        let k = phrase-near e _ h.1.1 in
        let m = block-near b u k.2.1 in
        ((h.0, k.1, row-near n (block_trees b) m.0), m.1)
    statement-near (exit s semi) u h = (h.0, h.1.1)
    statement-near (break s semi) u h = (h.0, h.1.1)
    statement-near (continue s semi) u h = (h.0, h.1.1)

    branch-near : (b : Branch) (u : List Token) → All (branch_words b u) → StmtNear n (branch_tree b) × All u
    branch-near (when s l e r b other) u h =
        let k = phrase-near e _ h.1.1 in
        let m = block-near b _ k.2.1 in
        let o = other-near other u m.1 in
        ((h.0, k.1, row-near n (block_trees b) m.0, row-near n (otherwise_trees other) o.0), o.1)

    other-near : (o : Otherwise) (u : List Token) → All (other_words o u) → Each (StmtNear n) (otherwise_trees o) × All u
    other-near nothing u h = (tt, h)
    other-near (otherwise s b) u h = block-near b u h.1
    other-near (chained s b) u h =
        let k = branch-near b u h.1 in
        ((k.0, tt), k.1)

    block-near : (b : Block) (u : List Token) → All (block_words b u) → Each (StmtNear n) (block_trees b) × All u
    block-near (block l ss r) u h =
        let k = statements-near ss _ h.1 in
        (k.0, k.1.1)

    statements-near : (ss : Statements) (u : List Token) → All (statement_words ss u) → Each (StmtNear n) (statement_trees ss) × All u
    statements-near ended u h = (tt, h)
    statements-near (followed s ss) u h =
        let k = statement-near s _ h in
        let m = statements-near ss u k.1 in
        ((k.0, m.0), m.1)

  close-near : (b : Block) (u : List Token) → All (block_words b u) → Near n (close_of b)
  unfolding Each statement
  close-near (block l ss r) u h = (statements-near ss _ h.1).1.0

  parameter-near : (p : Parameter) (u : List Token) → All (parameter_words p u) → DeclNear n (parameter_tree p) × All u
  unfolding Each
  parameter-near p u h =
      let k = type-near p.type _ h in
      ((k.1, k.2.0), k.2.1)

  others-near : (l : List (Span × Parameter)) (u : List Token) → All (others l u) → Each (DeclNear n) (other_trees l) × All u
  unfolding Each others other_trees
  others-near [] u h = (tt, h)
  others-near (p ∷ l) u h =
      let k = parameter-near p.1 _ h.1 in
      let m = others-near l u k.1 in
      ((k.0, m.0), m.1)

  parameters-near : (ps : Parameters) (u : List Token) → All (parameters_words ps u) → Each (DeclNear n) (parameter_trees ps) × All u
  unfolding Each
  parameters-near no_parameters u h = (tt, h)
  parameters-near (parameters p l) u h =
      let k = parameter-near p _ h in
      let m = others-near l u k.1 in
      ((k.0, m.0), m.1)

  function-near : (f : Signature) (b : Block) (u : List Token) → All (signature_words f (block_words b u)) → EntryNear n (part_tree (function f b)) × All u
  unfolding Each
  function-near (core s x l ps r) b u h =
      let k = parameters-near ps _ h.1.1.1 in
      let m = block-near b u k.1.1 in
      ((tt, h.1.0, k.0, m.0, close-near b u k.1.1), m.1)
  function-near (init s x l i y t o more r) b u h =
      let k = others-near more _ h.1.1.1.1.1.1.1 in
      let m = block-near b u k.1.1 in
      ((h.1.1.1.1.0, h.1.0, k.0, m.0, close-near b u k.1.1), m.1)

  sized-near : (form : TypeForm) (z : Size) → TypeNear n form → TypeNear n (sized_form form z)
  sized-near form single h = h
  sized-near forms.Int (row l c s r) h = h
  sized-near (forms.Ptr x) (row l c s r) h = h
  sized-near forms.ModInt (row l c s r) h = h
  sized-near (forms.ModPtr x) (row l c s r) h = h
  sized-near forms.CellInt (row l c s r) h = h
  sized-near (forms.CellPtr x) (row l c s r) h = h
  sized-near (forms.CellRow k) (row l c s r) h = h
  sized-near (forms.CellPtrRow x k) (row l c s r) h = h

  size-near : (z : Size) (u : List Token) → All (size_words z u) → All u
  unfolding Each
  size-near single u h = h
  size-near (row l c s r) u h = h.1.1.1

  members-near : (ms : List Member) (u : List Token) → All (member_words ms u) → Each (DeclNear n) (member_trees ms) × All u
  unfolding Each member_words member_trees
  members-near [] u h = (tt, h)
  members-near (m ∷ ms) u h =
      let k = type-near m.type _ h in
      let z = size-near m.size _ k.2.1 in
      let o = members-near ms u z.1 in
      (((sized-near (type_form m.type) m.size k.1, k.2.0), o.0), o.1)

  part-near : (p : Part) (u : List Token) → All (part_words p u) → EntryNear n (part_tree p) × All u
  unfolding Each
  part-near (structure s x l ms r semi) u h =
      let k = members-near ms _ h.1.1.1 in
      ((h.1.0, k.0), k.1.1.1)
  part-near (function f b) u h = function-near f b u h

  parts-near : (ps : List Part) (u : List Token) → All (parts_words ps u) → Each (EntryNear n) (part_trees ps)
  unfolding Each parts_words part_trees
  parts-near [] u h = tt
  parts-near (p ∷ ps) u h =
      let k = part-near p _ h in
      (k.0, parts-near ps u k.1)

  pub tree-near : (p : Program) (ts : List Token) → tokens_of (spelled_program p) ≡ ts → All ts → TreeIsNear n (program_tree p)
  tree-near p ts e h = parts-near p.parts _ (subst All (sym e ∙ bare_program p) h)
