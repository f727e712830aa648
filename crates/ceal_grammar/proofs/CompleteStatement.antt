-- Each statement is read.
use Rattle.std.proofs.Common.{◌≡◌, ℕ, suc, Bool, false, Option, Some, None, List, [], ◌∷◌, ◌++◌, length, refl, sym, ap, ◌∙◌, subst, arith, append_assoc, length-append, append-nil, inl, inr}
use Rattle.ceal_base.specs.declared.fault.Span.{Span}
use Rattle.ceal_base.specs.declared.syntax.Entry.{Entry}
use Rattle.ceal_base.specs.declared.syntax.Expr.{Expr}
use Rattle.ceal_base.specs.declared.syntax.Ident.{Ident}
use Rattle.ceal_base.specs.declared.syntax.Stmt.{Stmt, SetField}
use Rattle.ceal_base.specs.declared.syntax.Stmt.TheViews.{If}
use Rattle.ceal_base.specs.declared.syntax.TypeForm.{TypeForm}
use Rattle.ceal_base.specs.declared.syntax.TypeForm.TheVariants as Forms
use Rattle.ceal_lex.specs.declared.token.Reserved.{Reserved as ReservedWord}
use Rattle.ceal_lex.specs.declared.token.Reserved.TheVariants as Words
use Rattle.ceal_lex.specs.declared.token.Sign.{Sign as SignOf}
use Rattle.ceal_lex.specs.declared.token.Sign.TheVariants as Signs
use Rattle.ceal_lex.specs.declared.token.Token.{Token}
use Rattle.ceal_lex.specs.declared.token.TokenKind.{TokenKind}
use Rattle.ceal_lex.specs.declared.token.TokenKind.TheVariants.{Name, Number, Reserved, Sign, End, Cut}
use Rattle.ceal_grammar.specs.declared.state.Callee.{Callee}
use Rattle.ceal_grammar.specs.declared.state.Callee.TheVariants.{Call as ToCall, Alloc as ToAlloc}
use Rattle.ceal_grammar.specs.declared.state.Head.{Head}
use Rattle.ceal_grammar.specs.declared.state.Inside.{Inside}
use Rattle.ceal_grammar.specs.declared.state.Mode.{Mode}
use Rattle.ceal_grammar.specs.declared.state.Mode.TheVariants as Modes
use Rattle.ceal_grammar.specs.declared.state.Opened.{Opened}
use Rattle.ceal_grammar.specs.declared.state.Place.TheVariants.{Want}
use Rattle.ceal_grammar.specs.declared.state.Owner.{Owner}
use Rattle.ceal_grammar.specs.declared.state.Owner.TheVariants.{While as OfWhile, Then as OfThen, Else as OfElse}
use Rattle.ceal_grammar.specs.declared.state.Receiver.{Receiver}
use Rattle.ceal_grammar.specs.declared.state.Receiver.TheVariants as To
use Rattle.ceal_grammar.specs.declared.state.State.{State}
use Rattle.ceal_grammar.specs.declared.state.State.TheVariants.{In}
use Rattle.ceal_grammar.specs.declared.state.Target.{Target}
use Rattle.ceal_grammar.specs.declared.state.Target.TheVariants.{Declare as ToDeclare, Assign as ToAssign}
use Rattle.ceal_grammar.specs.declared.state.TypePart.{TypePart}
use Rattle.ceal_grammar.specs.declared.state.TypePart.TheVariants as Types
use Rattle.ceal_grammar.specs.declared.state.Typing.{Typing}
use Rattle.ceal_grammar.specs.declared.state.Typing.TheVariants.{More as MoreType, Named as NamedType}
use Rattle.ceal_grammar.specs.declared.state.Whole.{Whole}
use Rattle.ceal_grammar.specs.Grammar.{Phrase, number, null, variable, own, parens, arrow, prefix, address, element}
use Rattle.ceal_grammar.specs.Grammar.{binary, Grouped, IsPath, Written, int, pointer, mod_int, mod_pointer, cell_int}
use Rattle.ceal_grammar.specs.Grammar.{cell_pointer, Allowed, Arguments, no_arguments, arguments, AllGrouped}
use Rattle.ceal_grammar.specs.Grammar.{ArgumentsGrouped, Given, plainly, reading, allocation, modref_int, modref}
use Rattle.ceal_grammar.specs.Grammar.{GivenGrouped, Statement, declare, assign, set, store, call, branch, loop, exit}
use Rattle.ceal_grammar.specs.Grammar.{break, continue, Branch, when, Otherwise, nothing, otherwise, chained, Block}
use Rattle.ceal_grammar.specs.Grammar.{block, Statements, ended, followed, StatementProper, BranchProper}
use Rattle.ceal_grammar.specs.Grammar.{OtherwiseProper, BlockProper, StatementsProper}
use Rattle.ceal_grammar.specs.Spelled.{Mark, plain, name, after, spelled, spelled_type, spelled_more, spelled_arguments}
use Rattle.ceal_grammar.specs.Spelled.{spelled_given, spelled_statement, spelled_branch, spelled_otherwise}
use Rattle.ceal_grammar.specs.Spelled.{spelled_block, spelled_statements}
use Rattle.ceal_grammar.specs.Trees.{first, expression, type_form, type_first, expressions, argument_trees, value_tree, statement_tree, branch_tree, otherwise_trees, block_trees, statement_trees}
use Rattle.ceal_grammar.specs.Machine.{same_sign, same_word, is_sign, is_word, operator_of, Reduction, reduction, within}
use Rattle.ceal_grammar.specs.Machine.{new_whole, state_in, at_operand, at_body, at_type, with_typing, type_begin, value_statement, call_statement}
use Rattle.ceal_grammar.specs.Machine.{chain_statement, with_statement, at_expression_end, closes, at_sign_after, mode_after_block, opened_by}
use Rattle.ceal_grammar.specs.Machine.{at_mode, step, nesting_of, item_of, operators_of}
use Rattle.ceal_grammar.specs.Follows.{Follows}
use Rattle.ceal_grammar.proofs.CompletePhrase.{having, whole, pending, complete, reduced_pending, no_item, sign_behind}
use Rattle.ceal_grammar.proofs.Telling.{sign_tells, word_tells}

-- the token after a whole expression
pub received_at : (i : Inside) (d : ℕ) (c : Phrase) (n : ℕ) (r : Receiver) (k : SignOf) (s : Span) → same_sign k Signs.Arrow ≡ false → same_sign k Signs.LeftBracket ≡ false
    → operator_of k ≡ None → Grouped c → step (having i d c [] n r) (record { kind = Sign k; span = s }) ≡ at_expression_end i d r (expression c) k
unfolding reduction
received_at i d c n r k s a b o g =
    let q = pending c [] in let w = whole d (after c n) q.frames r in
    sign_behind i w c q.piece s k a b
    ∙ (ap (at_sign_after i w q.piece s k) o
    ∙ ap (λ (q : Reduction). closes i (whole d (after c n) q.frames r) k q.piece q.frames) (reduced_pending 0 c [] g (omega arith) (omega arith)))

-- the first token of a statement is no `else`
not_else : (i : Inside) (s : Span) (w : ReservedWord) (σ : State) → at_body i s (Reserved w) ≡ Some σ → same_word w Words.Else ≡ false
unfolding same_word
not_else i s w σ h = elim (word_tells w Words.Else) [ inl p ↦ absurd (wrong (rw p.1 at h)) | inr p ↦ p ]
  where
    wrong : None ≡ Some σ → ⊥
    wrong e = cc

closed_step : (i : Inside) (at : Span) (e : Expr) (first : List Stmt) (s : Span) (k : TokenKind) (σ : State)
    → at_body (with_statement i (If at e first [])) s k ≡ Some σ → at_mode i (Modes.Closed at e first) s k ≡ Some σ
closed_step i at e first s (Name x) σ h = h
closed_step i at e first s (Number v) σ h = h
closed_step i at e first s (Reserved w) σ h = rw (not_else (with_statement i (If at e first [])) s w σ h) h
closed_step i at e first s (Sign c) σ h = h
closed_step i at e first s End σ h = h
closed_step i at e first s Cut σ h = h

-- what one more token makes of a type in a body
typed_in : (i : Inside) (on : TypePart → Mode) (done : TypeForm → Ident → Mode) (o : Option Typing)
    → state_in i (with_typing on done o) ≡ with_typing (λ p. In i (on p)) (λ form x. In i (done form x)) o
typed_in i on done None = refl
typed_in i on done (Some (MoreType p)) = refl
typed_in i on done (Some (NamedType form x)) = refl

-- no operand begins with `)`
operand_open : (i : Inside) (w : Whole) (s : Span) (k : TokenKind) (σ : State) → state_in i (at_operand w s k) ≡ Some σ → is_sign Signs.RightParenthesis k ≡ false
unfolding same_sign
operand_open i w s (Name y) σ h = refl
operand_open i w s (Number v) σ h = refl
operand_open i w s (Reserved k) σ h = refl
operand_open i w s (Sign c) σ h = elim (sign_tells c Signs.RightParenthesis) [ inl p ↦ absurd (wrong (rw p.1 at h)) | inr p ↦ p ]
  where
    wrong : None ≡ Some σ → ⊥
    wrong e = cc
operand_open i w s End σ h = refl
operand_open i w s Cut σ h = refl

-- no operand begins with `read`, `alloc` or `modref`
abbrev NoValueWord : TokenKind → Type 0
NoValueWord k = (is_word Words.Read k ≡ false) × (is_word Words.Alloc k ≡ false) × (is_word Words.Modref k ≡ false)

operand_word : (i : Inside) (w : Whole) (s : Span) (k : TokenKind) (σ : State) → state_in i (at_operand w s k) ≡ Some σ → NoValueWord k
unfolding same_word
operand_word i w s (Name y) σ h = (refl, refl, refl)
operand_word i w s (Number v) σ h = (refl, refl, refl)
operand_word i w s (Reserved k) σ h = elim (word_tells k Words.Own) [
  | inl p ↦ subst (λ (j : ReservedWord). NoValueWord (Reserved j)) (sym p.1) (refl, refl, refl)
  | inr p ↦ elim (word_tells k Words.Null)
      [ inl q ↦ subst (λ (j : ReservedWord). NoValueWord (Reserved j)) (sym q.1) (refl, refl, refl) | inr q ↦ absurd (wrong (rw (p, q) at h)) ]
]
  where
    wrong : None ≡ Some σ → ⊥
    wrong e = cc
operand_word i w s (Sign c) σ h = (refl, refl, refl)
operand_word i w s End σ h = (refl, refl, refl)
operand_word i w s Cut σ h = (refl, refl, refl)

path_span : (p : Phrase) → IsPath p → (expression p).span ≡ first p
unfolding expression first
path_span (variable x) h = refl
path_span (own s) h = refl
path_span (arrow a s x) h = refl
path_span (number v s) h = absurd h
path_span (null s) h = absurd h
path_span (parens l a r) h = absurd h
path_span (prefix op s a) h = absurd h
path_span (address s a) h = absurd h
path_span (element s a l b r) h = absurd h
path_span (binary op a s b) h = absurd h

-- where a reading is after a path
unfoldable reached : Inside → Phrase → State
reached i (variable x) = In i (Modes.Named x)
reached i (own s) = In i (Modes.Owned s)
reached i (arrow a s x) = In i (Modes.Reached (expression a) x (suc (after a 0)))
reached i _ = In i Modes.Body

-- Types, in a declaration, a parameter or a member.
module _ (tree : List Entry) (cells : Bool) (d : ℕ) (more : TypePart → State) (done : TypeForm → Ident → State)
    (moves : (p : TypePart) (s : Span) (k : TokenKind) → step (more p) (record { kind = k; span = s }) ≡ with_typing more done (at_type cells p s k))
    (deep : (p : TypePart) → nesting_of (more p) ≡ d) (deep_done : (form : TypeForm) (x : Ident) → nesting_of (done form x) ≡ d)
    (item : (p : TypePart) (t : Token) → item_of (more p) t ≡ 0)
    (few : (p : TypePart) → operators_of (more p) ≡ 0) (few_done : (form : TypeForm) (x : Ident) → operators_of (done form x) ≡ 0) where
  pub read_type : (w : Written) (x : Ident) (i : ℕ) (σ : State) (rest : List Mark) → Allowed cells w
      → ((k : ReservedWord) (p : TypePart) → type_begin k ≡ Some p → step σ (record { kind = Reserved k; span = type_first w }) ≡ Some (more p))
      → ((k : ReservedWord) (p : TypePart) → type_begin k ≡ Some p → item_of σ (record { kind = Reserved k; span = type_first w }) ≡ i)
      → Follows (done (type_form w) x) rest tree → Follows σ (spelled_type d i w (name d x ∷ rest)) tree
  unfolding Follows same_sign same_word
  read_type (int s) x i σ rest a st it f = (
    _,
    st Words.Int (Types.Done Forms.Int) refl,
    deep _,
    it Words.Int (Types.Done Forms.Int) refl,
    few _,
    (_, moves _ x.span (Name x.text), deep_done _ _, item _ _, few_done _ _, f),
  )
  read_type (pointer s y t) x i σ rest a st it f = (
    _,
    st Words.Struct Types.Struct refl,
    deep _,
    it Words.Struct Types.Struct refl,
    few _,
    (
      _,
      moves _ y.span (Name y.text),
      deep _,
      item _ _,
      few _,
      (
        _,
        moves _ t (Sign Signs.Star),
        deep _,
        item _ _,
        few _,
        (_, moves _ x.span (Name x.text), deep_done _ _, item _ _, few_done _ _, f),
      ),
    ),
  )
  read_type (mod_int s k t) x i σ rest a st it f = (
    _,
    st Words.Mod Types.Mod refl,
    deep _,
    it Words.Mod Types.Mod refl,
    few _,
    (
      _,
      moves _ k (Reserved Words.Int),
      deep _,
      item _ _,
      few _,
      (
        _,
        moves _ t (Sign Signs.Star),
        deep _,
        item _ _,
        few _,
        (_, moves _ x.span (Name x.text), deep_done _ _, item _ _, few_done _ _, f),
      ),
    ),
  )
  read_type (mod_pointer s k y t) x i σ rest a st it f = (
    _,
    st Words.Mod Types.Mod refl,
    deep _,
    it Words.Mod Types.Mod refl,
    few _,
    (
      _,
      moves _ k (Reserved Words.Struct),
      deep _,
      item _ _,
      few _,
      (
        _,
        moves _ y.span (Name y.text),
        deep _,
        item _ _,
        few _,
        (
          _,
          moves _ t (Sign Signs.Star),
          deep _,
          item _ _,
          few _,
          (_, moves _ x.span (Name x.text), deep_done _ _, item _ _, few_done _ _, f),
        ),
      ),
    ),
  )
  read_type (cell_int s k) x i σ rest a st it f = (
    _,
    st Words.Mod Types.Mod refl,
    deep _,
    it Words.Mod Types.Mod refl,
    few _,
    (
      _,
      moves _ k (Reserved Words.Int),
      deep _,
      item _ _,
      few _,
      (done Forms.CellInt x, moves Types.ModInt x.span (Name x.text) ∙ rw a refl, deep_done _ _, item _ _, few_done _ _, f),
    ),
  )
  read_type (cell_pointer s k y) x i σ rest a st it f = (
    _,
    st Words.Mod Types.Mod refl,
    deep _,
    it Words.Mod Types.Mod refl,
    few _,
    (
      _,
      moves _ k (Reserved Words.Struct),
      deep _,
      item _ _,
      few _,
      (
        _,
        moves _ y.span (Name y.text),
        deep _,
        item _ _,
        few _,
        (done (Forms.CellPtr y) x, moves (Types.ModNamed y) x.span (Name x.text) ∙ rw a refl, deep_done _ _, item _ _, few_done _ _, f),
      ),
    ),
  )

module _ (tree : List Entry) where
  closed_body : (i : Inside) (at : Span) (e : Expr) (first : List Stmt) (ms : List Mark)
      → Follows (In (with_statement i (If at e first [])) Modes.Body) ms tree → Follows (In i (Modes.Closed at e first)) ms tree
  unfolding Follows
  closed_body i at e first [] f = absurd (cc)
  closed_body i at e first (m ∷ ms) f = (f.0, closed_step i at e first m.token.span m.token.kind f.0 f.1, f.2, f.3, f.4, f.5)

  ended_body : (i : Inside) (st : Stmt) (ms : List Mark) → Follows (In (with_statement i st) Modes.Body) ms tree → Follows (In i (Modes.Ended st)) ms tree
  unfolding Follows
  ended_body i st [] f = absurd (cc)
  ended_body i st (m ∷ ms) f = (f.0, f.1, f.2, f.3, f.4, f.5)

  read_more : (i : Inside) (d : ℕ) (c : Callee) (l : List (Span × Phrase)) (args : List Expr) (e : Phrase) (n k : ℕ) (right : Span) (rest : List Mark)
      → Grouped e → AllGrouped l → suc (length (args ++ expression e ∷ [])) ≡ k
      → Follows (In i (Modes.Ends (call_statement c (args ++ expression e ∷ expressions l)))) rest tree
      → Follows (having i d e [] n (To.Argument c args)) (spelled_more d k l (plain i.nesting (Sign Signs.RightParenthesis) right ∷ rest)) tree
  unfolding Follows spelled_more expressions AllGrouped same_sign
  read_more i d c [] args e n k right rest g gs h f = (_, received_at i d e n (To.Argument c args) Signs.RightParenthesis right refl refl refl g, refl, no_item d e [] n (To.Argument c args), refl, f)
  read_more i d c (a ∷ l) args e n k right rest g gs h f = (
    _,
    received_at i d e n (To.Argument c args) Signs.Comma a.0 refl refl refl g,
    refl,
    no_item d e [] n (To.Argument c args),
    refl,
    rw (← h) (complete i (To.Argument c (args ++ expression e ∷ [])) tree d [] 0 a.1 _ gs.0 tt
        (read_more i d c l (args ++ expression e ∷ []) a.1 0 (suc (suc (length (args ++ expression e ∷ [])))) right rest gs.0 gs.1
        (omega (arith, length-append (args ++ expression e ∷ []) (expression a.1 ∷ []))) (rw append_assoc f))),
  )

  first_argument : (i : Inside) (c : Callee) (ms : List Mark)
      → Follows (within i (new_whole (suc i.nesting) (To.Argument c [])) Want) ms tree → Follows (In i (Modes.First c)) ms tree
  unfolding Follows
  first_argument i c [] f = absurd (cc)
  first_argument i c (m ∷ ms) f =
      let e = operand_open i (new_whole (suc i.nesting) (To.Argument c [])) m.token.span m.token.kind f.0 f.1 in
      (f.0, rw e f.1, f.2, rw e f.3, f.4, f.5)

  read_arguments : (i : Inside) (c : Callee) (args : Arguments) (right : Span) (rest : List Mark) → ArgumentsGrouped args
      → Follows (In i (Modes.Ends (call_statement c (argument_trees args)))) rest tree
      → Follows (In i (Modes.First c)) (spelled_arguments (suc i.nesting) args (plain i.nesting (Sign Signs.RightParenthesis) right ∷ rest)) tree
  unfolding Follows same_sign
  read_arguments i c no_arguments right rest g f = (_, refl, refl, refl, refl, f)
  read_arguments i c (arguments e l) right rest g f =
      first_argument i c _ (complete i (To.Argument c []) tree (suc i.nesting) [] 0 e _ g.0 tt (read_more i (suc i.nesting) c l [] e 0 2 right rest g.0 g.1 refl f))

  plain_value : (i : Inside) (t : Target) (ms : List Mark) → Follows (within i (new_whole i.nesting (To.Value t)) Want) ms tree → Follows (In i (Modes.Value t)) ms tree
  unfolding Follows
  plain_value i t [] f = absurd (cc)
  plain_value i t (m ∷ ms) f =
      let e = operand_word i (new_whole i.nesting (To.Value t)) m.token.span m.token.kind f.0 f.1 in
      (f.0, rw (e.0, e.1, e.2) f.1, f.2, f.3, f.4, f.5)

  abbrev pub inner : List Entry → Head → List Opened → List Stmt → ℕ → Inside
  inner es h os ds d = record { entries = es; head = h; opened = os; done = ds; chain = []; base = d; nesting = d }

  read_given : (g : Given) (es : List Entry) (h : Head) (os : List Opened) (ds : List Stmt) (d : ℕ) (t : Target) (semi : Span) (rest : List Mark) → GivenGrouped g
      → Follows (In (inner es h os (ds ++ value_statement t (value_tree g) ∷ []) d) Modes.Body) rest tree
      → Follows (In (inner es h os ds d) (Modes.Value t)) (spelled_given d g (plain d (Sign Signs.Semicolon) semi ∷ rest)) tree
  unfolding Follows same_sign same_word chain_statement
  read_given (plainly e) es h os ds d t semi rest g f =
      let i = inner es h os ds d in
      plain_value i t _ (complete i (To.Value t) tree d [] 0 e _ g tt
      (_, received_at i d e 0 (To.Value t) Signs.Semicolon semi refl refl refl g, refl, no_item d e [] 0 (To.Value t), refl, f))
  read_given (reading s l e r) es h os ds d t semi rest g f =
      let i = inner es h os ds d in (
        _,
        refl,
        refl,
        refl,
        refl,
        (
          _,
          refl,
          refl,
          refl,
          refl,
          complete i (To.Read t s) tree (suc d) [] 0 e _ g tt
              (_, received_at i (suc d) e 0 (To.Read t s) Signs.RightParenthesis r refl refl refl g, refl, no_item (suc d) e [] 0 (To.Read t s), refl, (_, refl, refl, refl, refl, f)),
        ),
      )
  read_given (allocation s y x l args r) es h os ds d t semi rest g f =
      let i = inner es h os ds d in (
        _,
        refl,
        refl,
        refl,
        refl,
        (
          _,
          refl,
          refl,
          refl,
          refl,
          (
            _,
            refl,
            refl,
            refl,
            refl,
            (
              _,
              refl,
              refl,
              refl,
              refl,
              read_arguments i (ToAlloc t s y x) args r _ g (_, refl, refl, refl, refl, f),
            ),
          ),
        ),
      )
  read_given (modref_int s k l r) es h os ds d t semi rest g f =
      (_, refl, refl, refl, refl, (_, refl, refl, refl, refl, (_, refl, refl, refl, refl, (_, refl, refl, refl, refl, (_, refl, refl, refl, refl, f)))))
  read_given (modref s y l r) es h os ds d t semi rest g f =
      (_, refl, refl, refl, refl, (_, refl, refl, refl, refl, (_, refl, refl, refl, refl, (_, refl, refl, refl, refl, (_, refl, refl, refl, refl, f)))))

  reached_arrow : (i : Inside) (p : Phrase) (s : Span) → IsPath p
      → step (reached i p) (record { kind = Sign Signs.Arrow; span = s }) ≡ Some (In i (Modes.Path (expression p) (suc (after p 0))))
  unfolding reached same_sign expression after
  reached_arrow i (variable x) s h = refl
  reached_arrow i (own at) s h = refl
  reached_arrow i (arrow a at x) s h = ap (λ (q : Span). Some (In i (Modes.Path (record { span = q; form = (expression (arrow a at x)).form }) (suc (suc (after a 0)))))) (path_span a h)
  reached_arrow i (number v at) s h = absurd h
  reached_arrow i (null at) s h = absurd h
  reached_arrow i (parens l a r) s h = absurd h
  reached_arrow i (prefix op at a) s h = absurd h
  reached_arrow i (address at a) s h = absurd h
  reached_arrow i (element at a l b r) s h = absurd h
  reached_arrow i (binary op a at b) s h = absurd h

  reached_item : (i : Inside) (p : Phrase) (t : Token) → IsPath p → item_of (reached i p) t ≡ 0
  unfolding reached
  reached_item i (variable x) t h = refl
  reached_item i (own at) t h = refl
  reached_item i (arrow a at x) t h = refl
  reached_item i (number v at) t h = absurd h
  reached_item i (null at) t h = absurd h
  reached_item i (parens l a r) t h = absurd h
  reached_item i (prefix op at a) t h = absurd h
  reached_item i (address at a) t h = absurd h
  reached_item i (element at a l b r) t h = absurd h
  reached_item i (binary op a at b) t h = absurd h

  read_path : (p : Phrase) (i : Inside) (rest : List Mark) → IsPath p → Follows (reached i p) rest tree
      → Follows (In i Modes.Body) (spelled i.nesting 0 0 p rest) tree
  unfolding Follows reached same_sign same_word spelled after
  read_path (variable x) i rest h f = (_, refl, refl, refl, refl, f)
  read_path (own at) i rest h f = (_, refl, refl, refl, refl, f)
  read_path (arrow a at x) i rest h f =
      read_path a i _ h (_, reached_arrow i a at h, refl, reached_item i a _ h, refl, (_, refl, refl, refl, refl, f))
  read_path (number v at) i rest h f = absurd h
  read_path (null at) i rest h f = absurd h
  read_path (parens l a r) i rest h f = absurd h
  read_path (prefix op at a) i rest h f = absurd h
  read_path (address at a) i rest h f = absurd h
  read_path (element at a l b r) i rest h f = absurd h
  read_path (binary op a at b) i rest h f = absurd h

  owned_nesting : (i : Inside) (o : Owner) (ss : List Stmt) → nesting_of (In i (mode_after_block o ss)) ≡ i.nesting
  owned_nesting i (OfWhile s e) ss = refl
  owned_nesting i (OfThen s e) ss = refl
  owned_nesting i (OfElse s e first) ss = refl

  owned_operators : (i : Inside) (o : Owner) (ss : List Stmt) → operators_of (In i (mode_after_block o ss)) ≡ 0
  owned_operators i (OfWhile s e) ss = refl
  owned_operators i (OfThen s e) ss = refl
  owned_operators i (OfElse s e first) ss = refl

  word_starts : (i : Inside) (s : Span) (k : ReservedWord) (p : TypePart) → type_begin k ≡ Some p
      → step (In i Modes.Body) (record { kind = Reserved k; span = s }) ≡ Some (In i (Modes.Typing s p))
  word_starts i s k p e = rw e refl

  mutual
    unfolding Follows spelled_statement statement_tree StatementProper chain_statement same_sign same_word

    read_statement : (s : Statement) (es : List Entry) (h : Head) (os : List Opened) (ds : List Stmt) (d : ℕ) (rest : List Mark) → StatementProper s
        → Follows (In (inner es h os (ds ++ statement_tree s ∷ []) d) Modes.Body) rest tree
        → Follows (In (inner es h os ds d) Modes.Body) (spelled_statement d s rest) tree
    read_statement (declare w x q v semi) es h os ds d rest g f =
        let i = inner es h os ds d in
        read_type tree false d (λ p. In i (Modes.Typing (type_first w) p)) (λ form y. In i (Modes.Declared (type_first w) form y))
        (λ p s k. typed_in i _ _ (at_type false p s k)) (λ p. refl) (λ form y. refl) (λ p t. refl) (λ p. refl) (λ form y. refl)
        w x 0 (In i Modes.Body) _ g.0 (λ k p e. word_starts i (type_first w) k p e) (λ k p e. refl)
        (_, refl, refl, refl, refl, read_given v es h os ds d (ToDeclare (type_first w) (type_form w) x) semi rest g.1 f)
    read_statement (assign x q v semi) es h os ds d rest g f =
        (_, refl, refl, refl, refl, (_, refl, refl, refl, refl, read_given v es h os ds d (ToAssign x) semi rest g f))
    read_statement (set p s x q e semi) es h os ds d rest g f =
        let i = inner es h os ds d in
        read_path p i _ g.0 (
          _,
          reached_arrow i p s g.0,
          refl,
          reached_item i p _ g.0,
          refl,
          (
            _,
            refl,
            refl,
            refl,
            refl,
            (
              _,
              refl,
              refl,
              refl,
              refl,
              complete i (To.Set (expression p) x) tree d [] 0 e _ g.1 tt (
                _,
                received_at i d e 0 (To.Set (expression p) x) Signs.Semicolon semi refl refl refl g.1,
                refl,
                no_item d e [] 0 (To.Set (expression p) x),
                refl,
                subst
                    (λ (q : Span). Follows (In (inner es h os
                    (ds ++ SetField q (expression p) x (expression e) ∷ []) d) Modes.Body) rest tree)
                    (sym (path_span p g.0)) f,
              ),
            ),
          ),
        )
    read_statement (store s l a c e r semi) es h os ds d rest g f =
        let i = inner es h os ds d in (
          _,
          refl,
          refl,
          refl,
          refl,
          (
            _,
            refl,
            refl,
            refl,
            refl,
            complete i (To.Write s) tree (suc d) [] 0 a _ g.0 tt (
              _,
              received_at i (suc d) a 0 (To.Write s) Signs.Comma c refl refl refl g.0,
              refl,
              no_item (suc d) a [] 0 (To.Write s),
              refl,
              complete i (To.Store s (expression a)) tree (suc d) [] 0 e _ g.1 tt (
                _,
                received_at i (suc d) e 0 (To.Store s
                    (expression a)) Signs.RightParenthesis r refl refl refl g.1,
                refl,
                no_item (suc d) e [] 0
                    (To.Store s (expression a)),
                refl,
                (_, refl, refl, refl, refl, f),
              ),
            ),
          ),
        )
    read_statement (call x l args r semi) es h os ds d rest g f =
        let i = inner es h os ds d in
        (_, refl, refl, refl, refl, (_, refl, refl, refl, refl, read_arguments i (ToCall x) args r _ g (_, refl, refl, refl, refl, f)))
    read_statement (branch b) es h os ds d rest g f =
        let i = inner es h os ds d in read_branch b i (In i Modes.Body) rest (λ s. refl) (λ t. refl) g f
    read_statement (loop s l e r b) es h os ds d rest g f =
        let i = inner es h os ds d in (
          _,
          refl,
          refl,
          refl,
          refl,
          (
            _,
            refl,
            refl,
            refl,
            refl,
            complete i (To.While s) tree (suc d) [] 0 e _ g.0 tt (
              _,
              received_at i (suc d) e 0 (To.While s) Signs.RightParenthesis r refl refl refl g.0,
              refl,
              no_item (suc d) e [] 0 (To.While s),
              refl,
              read_block b i (OfWhile s (expression e)) _ rest (λ s. refl) (λ t. refl) g.1 (ended_body i _ rest f),
            ),
          ),
        )
    read_statement (exit s semi) es h os ds d rest g f = (_, refl, refl, refl, refl, (_, refl, refl, refl, refl, f))
    read_statement (break s semi) es h os ds d rest g f = (_, refl, refl, refl, refl, (_, refl, refl, refl, refl, f))
    read_statement (continue s semi) es h os ds d rest g f = (_, refl, refl, refl, refl, (_, refl, refl, refl, refl, f))

    read_branch : (b : Branch) (i : Inside) (σ : State) (rest : List Mark)
        → ((s : Span) → step σ (record { kind = Reserved Words.If; span = s }) ≡ Some (In i (Modes.Before (To.If s)))) → ((t : Token) → item_of σ t ≡ 0)
        → BranchProper b
        → Follows (In (with_statement i (branch_tree b)) Modes.Body) rest tree
        → Follows σ (spelled_branch i.nesting b rest) tree
    read_branch (when s l e r b other) i σ rest st it g f = (
      _,
      st s,
      refl,
      it _,
      refl,
      (
        _,
        refl,
        refl,
        refl,
        refl,
        complete i (To.If s) tree (suc i.nesting) [] 0 e _ g.0 tt (
          _,
          received_at i (suc i.nesting) e 0 (To.If s) Signs.RightParenthesis r refl refl refl g.0,
          refl,
          no_item (suc i.nesting) e [] 0 (To.If s),
          refl,
          read_block b i (OfThen s (expression e)) _ _ (λ s. refl) (λ t. refl) g.1 (read_otherwise other i s (expression e) (block_trees b) rest g.2 f),
        ),
      ),
    )

    read_otherwise : (o : Otherwise) (i : Inside) (s : Span) (e : Expr) (first : List Stmt) (rest : List Mark)
        → OtherwiseProper o
        → Follows (In (with_statement i (If s e first (otherwise_trees o))) Modes.Body) rest tree
        → Follows (In i (Modes.Closed s e first)) (spelled_otherwise i.nesting o rest) tree
    read_otherwise nothing i s e first rest g f = closed_body i s e first rest f
    read_otherwise (otherwise at b) i s e first rest g f =
        (_, refl, refl, refl, refl, read_block b i (OfElse s e first) _ rest (λ s. refl) (λ t. refl) g (ended_body i _ rest f))
    read_otherwise (chained at b) i s e first rest g f = (
      _,
      refl,
      refl,
      refl,
      refl,
      read_branch b (record {
        entries = i.entries;
        head = i.head;
        opened = i.opened;
        done = i.done;
        chain = record { span = s; test = e; first = first } ∷ i.chain;
        base = i.base;
        nesting = suc i.nesting;
      }) _ rest (λ s. refl) (λ t. refl) g f,
    )

    read_block : (b : Block) (i : Inside) (o : Owner) (σ : State) (rest : List Mark)
        → ((s : Span) → step σ (record { kind = Sign Signs.LeftBrace; span = s }) ≡ Some (opened_by i o)) → ((t : Token) → item_of σ t ≡ 0)
        → BlockProper b
        → Follows (In i (mode_after_block o (block_trees b))) rest tree
        → Follows σ (spelled_block i.nesting b rest) tree
    read_block (block l ss r) i o σ rest st it g f = (
      _,
      st l,
      refl,
      it _,
      refl,
      read_statements ss i.entries i.head (record { before = i.done; chain = i.chain; owner = o; base = i.base; nesting = i.nesting } ∷ i.opened) [] (suc i.nesting) _ g
          (_, refl, owned_nesting i o _, refl, owned_operators i o _, f),
    )

    pub read_statements : (ss : Statements) (es : List Entry) (h : Head) (os : List Opened) (ds : List Stmt) (d : ℕ) (rest : List Mark) → StatementsProper ss
        → Follows (In (inner es h os (ds ++ statement_trees ss) d) Modes.Body) rest tree
        → Follows (In (inner es h os ds d) Modes.Body) (spelled_statements d ss rest) tree
    read_statements ended es h os ds d rest g f = rw append-nil at f
    read_statements (followed s ss) es h os ds d rest g f =
        read_statement s es h os ds d _ g.0 (read_statements ss es h os (ds ++ statement_tree s ∷ []) d rest g.1 (rw append_assoc f))
