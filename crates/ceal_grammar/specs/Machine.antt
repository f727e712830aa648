-- A reading of a program, token by token.
use Rattle.std.specs.Prelude.{ℕ, suc, ◌+◌, pos, Bool, true, false, nat_eq, nat_le, Option, Some, None, List, [], ◌∷◌}
use Rattle.std.specs.Prelude.{◌++◌, length, if◌then◌else◌}
use Rattle.ceal_base.specs.declared.fault.Span.{Span}
use Rattle.ceal_base.specs.declared.operators.Unary.{Unary as UnaryOp}
use Rattle.ceal_base.specs.declared.operators.Unary.TheVariants.{Neg, Not}
use Rattle.ceal_base.specs.declared.operators.Binary.{Binary as BinaryOp}
use Rattle.ceal_base.specs.declared.operators.Binary.TheVariants.{Add, Sub, Mul, Div, Rem, Less, LessEq, More, MoreEq}
use Rattle.ceal_base.specs.declared.operators.Binary.TheVariants.{Same, Differ, And, Or}
use Rattle.ceal_base.specs.declared.syntax.Entry.{Entry}
use Rattle.ceal_base.specs.declared.syntax.Entry.TheVariants.{Struct as StructEntry, Function as FunctionEntry}
use Rattle.ceal_base.specs.declared.syntax.Expr.{Expr}
use Rattle.ceal_base.specs.declared.syntax.ExprForm.{ExprForm, Num, Null, Var, Own}
use Rattle.ceal_base.specs.declared.syntax.ExprForm.TheViews.{Unary, Binary, Field, Address, Pick}
use Rattle.ceal_base.specs.declared.syntax.FieldDecl.{FieldDecl}
use Rattle.ceal_base.specs.declared.syntax.Ident.{Ident}
use Rattle.ceal_base.specs.declared.syntax.Stmt.{Stmt, Declare, Assign, SetField, Write, Call, Return, Break, Continue}
use Rattle.ceal_base.specs.declared.syntax.Stmt.TheViews.{If, While}
use Rattle.ceal_base.specs.declared.syntax.TypeForm.{TypeForm}
use Rattle.ceal_base.specs.declared.syntax.TypeForm.TheVariants.{Int, Ptr, ModInt, ModPtr, CellInt, CellPtr, CellRow}
use Rattle.ceal_base.specs.declared.syntax.TypeForm.TheVariants.{CellPtrRow}
use Rattle.ceal_base.specs.declared.syntax.Value.{Value}
use Rattle.ceal_base.specs.declared.syntax.Value.TheVariants.{Plain, Read, Alloc, ModrefInt, Modref}
use Rattle.ceal_lex.specs.declared.token.Reserved.{Reserved as ReservedWord}
use Rattle.ceal_lex.specs.declared.token.Reserved.TheVariants as Words
use Rattle.ceal_lex.specs.declared.token.Sign.{Sign as SignOf}
use Rattle.ceal_lex.specs.declared.token.Sign.TheVariants as Signs
use Rattle.ceal_lex.specs.declared.token.Token.{Token}
use Rattle.ceal_lex.specs.declared.token.TokenKind.{TokenKind}
use Rattle.ceal_lex.specs.declared.token.TokenKind.TheVariants.{Name, Number, Reserved, Sign, End}
use Rattle.ceal_grammar.specs.Grammar.{level}
use Rattle.ceal_grammar.specs.Trees.{row_form}
use Rattle.ceal_grammar.specs.declared.state.Callee.{Callee}
use Rattle.ceal_grammar.specs.declared.state.Callee.TheVariants.{Call as ToCall, Alloc as ToAlloc}
use Rattle.ceal_grammar.specs.declared.state.Chained.{Chained}
use Rattle.ceal_grammar.specs.declared.state.Frame.{Frame}
use Rattle.ceal_grammar.specs.declared.state.Frame.TheVariants.{Open, Prefix, Address as AddressOf, Index, Left}
use Rattle.ceal_grammar.specs.declared.state.Head.{Head}
use Rattle.ceal_grammar.specs.declared.state.HeadPlace.{HeadPlace}
use Rattle.ceal_grammar.specs.declared.state.HeadPlace.TheVariants as Heads
use Rattle.ceal_grammar.specs.declared.state.Inside.{Inside}
use Rattle.ceal_grammar.specs.declared.state.Layout.{Layout}
use Rattle.ceal_grammar.specs.declared.state.Making.{Making}
use Rattle.ceal_grammar.specs.declared.state.Making.TheVariants as Makings
use Rattle.ceal_grammar.specs.declared.state.Mode.{Mode}
use Rattle.ceal_grammar.specs.declared.state.Mode.TheVariants as Modes
use Rattle.ceal_grammar.specs.declared.state.Opened.{Opened}
use Rattle.ceal_grammar.specs.declared.state.Owner.{Owner}
use Rattle.ceal_grammar.specs.declared.state.Owner.TheVariants.{While as OfWhile, Then as OfThen, Else as OfElse}
use Rattle.ceal_grammar.specs.declared.state.Piece.{Piece}
use Rattle.ceal_grammar.specs.declared.state.Place.{Place}
use Rattle.ceal_grammar.specs.declared.state.Place.TheVariants.{Want, Post, Have, Element, Access}
use Rattle.ceal_grammar.specs.declared.state.Receiver.{Receiver}
use Rattle.ceal_grammar.specs.declared.state.Receiver.TheVariants as To
use Rattle.ceal_grammar.specs.declared.state.State.{State}
use Rattle.ceal_grammar.specs.declared.state.State.TheVariants.{Top, Struct, Head as InHead, In, Finished}
use Rattle.ceal_grammar.specs.declared.state.StructPlace.{StructPlace}
use Rattle.ceal_grammar.specs.declared.state.StructPlace.TheVariants as Structs
use Rattle.ceal_grammar.specs.declared.state.Target.{Target}
use Rattle.ceal_grammar.specs.declared.state.Target.TheVariants.{Declare as ToDeclare, Assign as ToAssign}
use Rattle.ceal_grammar.specs.declared.state.TypePart.{TypePart}
use Rattle.ceal_grammar.specs.declared.state.TypePart.TheVariants as Types
use Rattle.ceal_grammar.specs.declared.state.Typing.{Typing}
use Rattle.ceal_grammar.specs.declared.state.Typing.TheVariants.{More as MoreType, Named as NamedType}
use Rattle.ceal_grammar.specs.declared.state.Whole.{Whole}

-- Signs and words by their place in their lists.
abbrev pub sign_number : SignOf → ℕ
sign_number Signs.Arrow = 0
sign_number Signs.AndAnd = 1
sign_number Signs.BarBar = 2
sign_number Signs.EqualsEquals = 3
sign_number Signs.BangEquals = 4
sign_number Signs.LessEquals = 5
sign_number Signs.GreaterEquals = 6
sign_number Signs.Less = 7
sign_number Signs.Greater = 8
sign_number Signs.Plus = 9
sign_number Signs.Minus = 10
sign_number Signs.Star = 11
sign_number Signs.Slash = 12
sign_number Signs.Percent = 13
sign_number Signs.Bang = 14
sign_number Signs.Ampersand = 15
sign_number Signs.Equals = 16
sign_number Signs.LeftParenthesis = 17
sign_number Signs.RightParenthesis = 18
sign_number Signs.LeftBrace = 19
sign_number Signs.RightBrace = 20
sign_number Signs.Comma = 21
sign_number Signs.Semicolon = 22
sign_number Signs.LeftBracket = 23
sign_number Signs.RightBracket = 24

-- a number for each reserved word
abbrev pub word_number : ReservedWord → ℕ
word_number Words.Struct = 0
word_number Words.Int = 1
word_number Words.Mod = 2
word_number Words.Ceal = 3
word_number Words.Init = 4
word_number Words.Own = 5
word_number Words.Read = 6
word_number Words.Write = 7
word_number Words.Alloc = 8
word_number Words.Modref = 9
word_number Words.If = 10
word_number Words.Else = 11
word_number Words.While = 12
word_number Words.Return = 13
word_number Words.Null = 14
word_number Words.Break = 15
word_number Words.Continue = 16

-- whether two signs are one
unfoldable pub same_sign : SignOf → SignOf → Bool
same_sign a b = nat_eq (sign_number a) (sign_number b)

-- whether two reserved words are one
unfoldable pub same_word : ReservedWord → ReservedWord → Bool
same_word a b = nat_eq (word_number a) (word_number b)

-- whether the token is this sign
abbrev pub is_sign : SignOf → TokenKind → Bool
is_sign c (Sign s) = same_sign s c
is_sign c _ = false

-- whether the token is this reserved word
abbrev pub is_word : ReservedWord → TokenKind → Bool
is_word c (Reserved s) = same_word s c
is_word c _ = false

-- the next state, if the token is the one that is wanted
abbrev pub wants : {A : Type 0} → Bool → A → Option A
wants b next = if b then Some next else None

-- the operator that a sign stands for between operands
abbrev pub operator_of : SignOf → Option BinaryOp
operator_of Signs.Plus = Some Add
operator_of Signs.Minus = Some Sub
operator_of Signs.Star = Some Mul
operator_of Signs.Slash = Some Div
operator_of Signs.Percent = Some Rem
operator_of Signs.Less = Some Less
operator_of Signs.LessEquals = Some LessEq
operator_of Signs.Greater = Some More
operator_of Signs.GreaterEquals = Some MoreEq
operator_of Signs.EqualsEquals = Some Same
operator_of Signs.BangEquals = Some Differ
operator_of Signs.AndAnd = Some And
operator_of Signs.BarBar = Some Or
operator_of _ = None

-- the name that a token of this kind is, at this place
abbrev pub ident_of : Span → TokenKind → Option Ident
ident_of s (Name x) = Some (record { text = x; span = s })
ident_of s _ = None

-- what is made of a name, if there is one
abbrev pub with_name : {A : Type 0} → (Ident → A) → Option Ident → Option A
with_name f None = None
with_name f (Some x) = Some (f x)

-- what is made of a token that is a name
abbrev pub at_name : {A : Type 0} → (Ident → A) → Span → TokenKind → Option A
at_name f s k = with_name f (ident_of s k)

-- Expressions.
abbrev pub single : Span → ExprForm → Piece
single s form = record { from = s; expr = record { span = s; form = form } }

-- a piece with an operator before it
abbrev pub prefix_piece : UnaryOp → Span → Piece → Piece
prefix_piece op s p = record { from = s; expr = record { span = s; form = Unary op p.expr } }

-- a piece with `&` before it
abbrev pub address_piece : Span → Piece → Piece
address_piece s p = record { from = s; expr = record { span = s; form = Address p.expr } }

-- the element of a row, the piece being its index
abbrev pub element_of : Span → Expr → Piece → Piece
element_of s row p = record { from = s; expr = record { span = s; form = Pick row p.expr } }

-- two pieces with an operator between
abbrev pub infix_piece : Piece → BinaryOp → Span → Piece → Piece
infix_piece a op s b = record { from = a.from; expr = record { span = a.from; form = Binary op s a.expr b.expr } }

-- a piece with an arrow and a name after it
abbrev pub arrow_piece : Piece → Ident → Piece
arrow_piece p x = record { from = p.from; expr = record { span = p.from; form = Field p.expr x } }

-- a piece, and the frames that still wait
pub record Reduction : Type 0 where
  pub piece : Piece
  pub frames : List Frame

-- The operators of level l and above that wait for the piece take it.
unfoldable pub reduction : ℕ → Piece → List Frame → Reduction
reduction l p [] = record { piece = p; frames = [] }
reduction l p (Open s d ∷ fs) = record { piece = p; frames = Open s d ∷ fs }
reduction l p (Index s row d ∷ fs) = record { piece = p; frames = Index s row d ∷ fs }
reduction l p (Prefix op s ∷ fs) = reduction l (prefix_piece op s p) fs
reduction l p (AddressOf s ∷ fs) = reduction l (address_piece s p) fs
reduction l p (Left a op s ∷ fs) =
    if nat_le l (level op)
    then reduction l (infix_piece a op s p) fs
    else record { piece = p; frames = Left a op s ∷ fs }

-- the state within a whole expression
abbrev pub within : Inside → Whole → Place → State
within i w p = In i (Modes.Within w p)

-- a whole expression of which nothing was read
abbrev pub new_whole : ℕ → Receiver → Whole
new_whole d r = record { nesting = d; operators = 0; frames = []; receiver = r }

-- a whole expression with one more parenthesis open
abbrev pub with_parenthesis : Whole → Span → Whole
with_parenthesis w s = record {
  nesting = suc w.nesting;
  operators = w.operators;
  frames = Open s w.nesting ∷ w.frames;
  receiver = w.receiver;
}

-- an index begins after the piece p, the operand of the `&` at s
abbrev pub with_index : Whole → Span → Piece → List Frame → Whole
with_index w s p fs =
    record {
      nesting = suc w.nesting;
      operators = suc w.operators;
      frames = Index s p.expr w.nesting ∷ fs;
      receiver = w.receiver;
    }

-- a whole expression with one more operator that waits
abbrev pub with_operator : Whole → Frame → List Frame → Whole
with_operator w f fs = record {
  nesting = w.nesting;
  operators = suc w.operators;
  frames = f ∷ fs;
  receiver = w.receiver;
}

-- what a token makes of a place within a statement, in a body
abbrev pub state_in : Inside → Option Mode → Option State
state_in i None = None
state_in i (Some m) = Some (In i m)

-- a token that begins an operand without a sign
abbrev pub at_prim : Whole → Span → TokenKind → Option Mode
at_prim w s (Name x) = Some (Modes.Within w (Have (single s (Var (record { text = x; span = s })))))
at_prim w s (Number v) = Some (Modes.Within w (Have (single s (Num v))))
at_prim w s (Reserved k) =
    if same_word k Words.Own then Some (Modes.Within w (Have (single s Own)))
    else wants (same_word k Words.Null) (Modes.Within w (Have (single s Null)))
at_prim w s (Sign c) = wants (same_sign c Signs.LeftParenthesis) (Modes.Within (with_parenthesis w s) Want)
at_prim w s _ = None

-- a token that begins an operand
abbrev pub at_operand : Whole → Span → TokenKind → Option Mode
at_operand w s k =
    if is_sign Signs.Minus k then Some (Modes.Within (with_operator w (Prefix Neg s) w.frames) Want)
    else if is_sign Signs.Bang k then Some (Modes.Within (with_operator w (Prefix Not s) w.frames) Want)
    else if is_sign Signs.Ampersand k then Some (Modes.Within (with_operator w (AddressOf s) w.frames) Post)
    else at_prim w s k

-- A statement ends, and with it each `if` that it is the else part of.
unfoldable pub chain_statement : List Chained → Stmt → Stmt
chain_statement [] st = st
chain_statement (c ∷ cs) st = chain_statement cs (If c.span c.test c.first (st ∷ []))

-- a body with one more statement
abbrev pub with_statement : Inside → Stmt → Inside
with_statement i st = record {
  entries = i.entries;
  head = i.head;
  opened = i.opened;
  done = i.done ++ chain_statement i.chain st ∷ [];
  chain = [];
  base = i.base;
  nesting = i.base;
}

-- the statement whose value has ended
abbrev pub value_statement : Target → Value → Stmt
value_statement (ToDeclare s form x) v = Declare s form x v
value_statement (ToAssign x) v = Assign x v

-- What a statement becomes once its arguments are there.
abbrev pub call_statement : Callee → List Expr → Stmt
call_statement (ToCall x) args = Call x args
call_statement (ToAlloc t s y x) args = value_statement t (Alloc s y x args)

-- a statement ends at `;`
abbrev pub ends_at : Inside → Stmt → SignOf → Option State
ends_at i st c = wants (same_sign c Signs.Semicolon) (In (with_statement i st) Modes.Body)

-- The whole expression e at the sign after it; d is the nesting at it.
abbrev pub at_argument : ℕ → Callee → List Expr → SignOf → Option Mode
at_argument d f args c =
    if same_sign c Signs.Comma then Some (Modes.Within (new_whole d (To.Argument f args)) Want)
    else wants (same_sign c Signs.RightParenthesis) (Modes.Ends (call_statement f args))

-- a whole expression has ended at this sign
abbrev pub at_expression_end : Inside → ℕ → Receiver → Expr → SignOf → Option State
at_expression_end i d (To.Value t) e c = ends_at i (value_statement t (Plain e)) c
at_expression_end i d (To.Read t s) e c =
    state_in i (wants (same_sign c Signs.RightParenthesis) (Modes.Ends (value_statement t (Read s e))))
at_expression_end i d (To.Argument f args) e c = state_in i (at_argument d f (args ++ e ∷ []) c)
at_expression_end i d (To.Set a x) e c = ends_at i (SetField a.span a x e) c
at_expression_end i d (To.Write s) e c =
    state_in i (wants (same_sign c Signs.Comma) (Modes.Within (new_whole d (To.Store s e)) Want))
at_expression_end i d (To.Store s a) e c =
    state_in i (wants (same_sign c Signs.RightParenthesis) (Modes.Ends (Write s a e)))
at_expression_end i d (To.If s) e c = state_in i (wants (same_sign c Signs.RightParenthesis) (Modes.Opens (OfThen s e)))
at_expression_end i d (To.While s) e c =
    state_in i (wants (same_sign c Signs.RightParenthesis) (Modes.Opens (OfWhile s e)))

-- a whole expression with one parenthesis closed
abbrev pub without_parenthesis : Whole → ℕ → List Frame → Whole
without_parenthesis w d fs = record { nesting = d; operators = w.operators; frames = fs; receiver = w.receiver }

-- a sign that closes a parenthesis, or ends the whole expression
abbrev pub closes : Inside → Whole → SignOf → Piece → List Frame → Option State
closes i w c p [] = at_expression_end i w.nesting w.receiver p.expr c
closes i w c p (Open s d ∷ fs) =
    wants (same_sign c Signs.RightParenthesis)
    (within i (without_parenthesis w d fs) (Have (record { from = s; expr = p.expr })))
closes i w c p (Index s row d ∷ fs) =
    wants (same_sign c Signs.RightBracket) (within i (without_parenthesis w d fs) (Element (element_of s row p)))
closes i w c p (Prefix op s ∷ fs) = None
closes i w c p (AddressOf s ∷ fs) = None
closes i w c p (Left a op s ∷ fs) = None

-- an operator after a piece
abbrev pub operates : Inside → Whole → BinaryOp → Span → Reduction → Option State
operates i w op s q = Some (within i (with_operator w (Left q.piece op s) q.frames) Want)

-- a sign after a piece, with the operator that it stands for
abbrev pub at_sign_after : Inside → Whole → Piece → Span → SignOf → Option BinaryOp → Option State
at_sign_after i w p s c (Some op) = operates i w op s (reduction (level op) p w.frames)
at_sign_after i w p s c None = let q = reduction 0 p w.frames in closes i w c q.piece q.frames

-- a whole expression with one more arrow
abbrev pub with_arrow : Whole → Whole
with_arrow w = record { nesting = w.nesting; operators = suc w.operators; frames = w.frames; receiver = w.receiver }

-- An index may be after the operand of an `&` only.
abbrev pub at_index : Inside → Whole → Piece → List Frame → Option State
at_index i w p (AddressOf s ∷ fs) = Some (within i (with_index w s p fs) Want)
at_index i w p _ = None

-- a token after a piece
abbrev pub at_after : Inside → Whole → Piece → Span → TokenKind → Option State
at_after i w p s (Sign c) =
    if same_sign c Signs.Arrow then Some (within i (with_arrow w) (Access p))
    else if same_sign c Signs.LeftBracket then at_index i w p w.frames
    else at_sign_after i w p s c (operator_of c)
at_after i w p s _ = None

-- a token after an operand with an index
abbrev pub at_element : Inside → Whole → Piece → Span → TokenKind → Option State
at_element i w p s (Sign c) = at_sign_after i w p s c (operator_of c)
at_element i w p s _ = None

-- the name after an arrow
abbrev pub at_access : Whole → Piece → Span → TokenKind → Option Mode
at_access w p s k = at_name (λ x. Modes.Within w (Have (arrow_piece p x))) s k

-- a token within a whole expression, by the place in it
abbrev pub at_place : Inside → Whole → Place → Span → TokenKind → Option State
at_place i w Want s k = state_in i (at_operand w s k)
at_place i w Post s k = state_in i (at_prim w s k)
at_place i w (Have p) s k = at_after i w p s k
at_place i w (Element p) s k = at_element i w p s k
at_place i w (Access p) s k = state_in i (at_access w p s k)

-- Types. `cells` says whether a modifiable within a struct may be here.
abbrev pub type_begin : ReservedWord → Option TypePart
type_begin k =
    if same_word k Words.Int then Some (Types.Done Int)
    else if same_word k Words.Struct then Some Types.Struct
    else wants (same_word k Words.Mod) Types.Mod

-- how a type begins at a token
abbrev pub type_starts : TokenKind → Option TypePart
type_starts (Reserved k) = type_begin k
type_starts _ = None

-- a `*`, or the name after a type that has ended
abbrev pub star_or : Bool → TypeForm → TypeForm → Span → TokenKind → Option Typing
star_or cells form cell s k =
    if is_sign Signs.Star k then Some (MoreType (Types.Done form))
    else if cells then at_name (λ x. NamedType cell x) s k else None

-- a token after `mod`
abbrev pub at_mod : TokenKind → Option Typing
at_mod k =
    if is_word Words.Int k then Some (MoreType Types.ModInt)
    else wants (is_word Words.Struct k) (MoreType Types.ModStruct)

-- a token within a type
abbrev pub at_type : Bool → TypePart → Span → TokenKind → Option Typing
at_type cells Types.Struct s k = at_name (λ x. MoreType (Types.StructNamed x)) s k
at_type cells (Types.StructNamed y) s k = wants (is_sign Signs.Star k) (MoreType (Types.Done (Ptr y)))
at_type cells Types.Mod s k = at_mod k
at_type cells Types.ModInt s k = star_or cells ModInt CellInt s k
at_type cells Types.ModStruct s k = at_name (λ x. MoreType (Types.ModNamed x)) s k
at_type cells (Types.ModNamed y) s k = star_or cells (ModPtr y) (CellPtr y) s k
at_type cells (Types.Done form) s k = at_name (λ x. NamedType form x) s k

-- Statements.
abbrev pub mode_after_block : Owner → List Stmt → Mode
mode_after_block (OfWhile s e) body = Modes.Ended (While s e body)
mode_after_block (OfThen s e) body = Modes.Closed s e body
mode_after_block (OfElse s e first) body = Modes.Ended (If s e first body)

-- the state after a `}`
abbrev pub block_closed : List Entry → Head → List Stmt → List Opened → Span → State
block_closed es h done [] s =
    Top (es ++ FunctionEntry (record {
      initialiser = h.initialiser;
      name = h.name;
      params = h.params;
      body = done;
      close = s;
    }) ∷ [])
block_closed es h done (o ∷ os) s =
    In (record {
      entries = es;
      head = h;
      opened = os;
      done = o.before;
      chain = o.chain;
      base = o.base;
      nesting = o.nesting;
    }) (mode_after_block o.owner done)

-- the state after a `{`
abbrev pub opened_by : Inside → Owner → State
opened_by i o = In (record {
  entries = i.entries;
  head = i.head;
  opened = record { before = i.done; chain = i.chain; owner = o; base = i.base; nesting = i.nesting } ∷ i.opened;
  done = [];
  chain = [];
  base = suc i.nesting;
  nesting = suc i.nesting;
}) Modes.Body

-- a word that begins a statement, and no type
abbrev pub at_statement : Span → ReservedWord → Option Mode
at_statement s k =
    if same_word k Words.If then Some (Modes.Before (To.If s))
    else if same_word k Words.While then Some (Modes.Before (To.While s))
    else if same_word k Words.Return then Some (Modes.Ends (Return s))
    else if same_word k Words.Break then Some (Modes.Ends (Break s))
    else if same_word k Words.Continue then Some (Modes.Ends (Continue s))
    else if same_word k Words.Write then Some (Modes.Before (To.Write s))
    else wants (same_word k Words.Own) (Modes.Owned s)

-- a reserved word that begins a statement
abbrev pub at_word : Span → ReservedWord → Option TypePart → Option Mode
at_word s k (Some part) = Some (Modes.Typing s part)
at_word s k None = at_statement s k

-- a token that begins a statement, or ends its block
abbrev pub at_body : Inside → Span → TokenKind → Option State
at_body i s (Name x) = Some (In i (Modes.Named (record { text = x; span = s })))
at_body i s (Reserved k) = state_in i (at_word s k (type_begin k))
at_body i s (Sign c) = wants (same_sign c Signs.RightBrace) (block_closed i.entries i.head i.done i.opened s)
at_body i s _ = None

-- what is made of a type that continues, and of one that has ended
abbrev pub with_typing : {A : Type 0} → (TypePart → A) → (TypeForm → Ident → A) → Option Typing → Option A
with_typing more done None = None
with_typing more done (Some (MoreType part)) = Some (more part)
with_typing more done (Some (NamedType form x)) = Some (done form x)

-- A path, and one more field of it.
abbrev pub field_of : Expr → Ident → Expr
field_of e x = record { span = e.span; form = Field e x }

-- a name as a path
abbrev pub path_of : Ident → Expr
path_of x = record { span = x.span; form = Var x }

-- d is the nesting
abbrev pub at_value : ℕ → Target → Span → TokenKind → Option Mode
at_value d t s k =
    if is_word Words.Read k then Some (Modes.Before (To.Read t s))
    else if is_word Words.Alloc k then Some (Modes.Making (Makings.Alloc t s))
    else if is_word Words.Modref k then Some (Modes.Making (Makings.Modref t s))
    else at_operand (new_whole d (To.Value t)) s k

-- a token after `modref(`
abbrev pub at_modref : Target → Span → Span → TokenKind → Option Mode
at_modref t at s (Name y) =
    Some (Modes.Making (Makings.Typed (value_statement t (Modref at (record { text = y; span = s })))))
at_modref t at s (Reserved k) =
    wants (same_word k Words.Int) (Modes.Making (Makings.Typed (value_statement t (ModrefInt at))))
at_modref t at s _ = None

-- a token within an allocation
abbrev pub at_making : Making → Span → TokenKind → Option Mode
at_making (Makings.Alloc t at) s k = at_name (λ y. Modes.Making (Makings.Shape t at y)) s k
at_making (Makings.Shape t at y) s k = at_name (λ x. Modes.Calls (ToAlloc t at y x)) s k
at_making (Makings.Modref t at) s k = at_modref t at s k
at_making (Makings.Typed st) s k = wants (is_sign Signs.LeftParenthesis k) (Modes.Making (Makings.Opened st))
at_making (Makings.Opened st) s k = wants (is_sign Signs.RightParenthesis k) (Modes.Ends st)

-- a token within the type of a declaration
abbrev pub at_typing : Span → TypePart → Span → TokenKind → Option Mode
at_typing at part s k =
    with_typing (λ p. Modes.Typing at p) (λ form x. Modes.Declared at form x) (at_type false part s k)

-- the `=` of a declaration
abbrev pub at_declared : Span → TypeForm → Ident → TokenKind → Option Mode
at_declared at form x k = wants (is_sign Signs.Equals k) (Modes.Value (ToDeclare at form x))

-- the arrow after `self`
abbrev pub at_owned : Span → TokenKind → Option Mode
at_owned at k = wants (is_sign Signs.Arrow k) (Modes.Path (record { span = at; form = Own }) 1)

-- e is a path, and n the number of its arrow
abbrev pub at_path : Expr → ℕ → Span → TokenKind → Option Mode
at_path e n s k = at_name (λ x. Modes.Reached e x n) s k

-- the parenthesis of a call
abbrev pub at_calls : Callee → TokenKind → Option Mode
at_calls f k = wants (is_sign Signs.LeftParenthesis k) (Modes.First f)

-- the parenthesis before an expression
abbrev pub at_before : ℕ → Receiver → TokenKind → Option Mode
at_before d r k = wants (is_sign Signs.LeftParenthesis k) (Modes.Within (new_whole (suc d) r) Want)

-- a token after a name that begins a statement
abbrev pub at_named : Ident → TokenKind → Option Mode
at_named x k =
    if is_sign Signs.Equals k then Some (Modes.Value (ToAssign x))
    else if is_sign Signs.LeftParenthesis k then Some (Modes.First (ToCall x))
    else wants (is_sign Signs.Arrow k) (Modes.Path (path_of x) 1)

-- a token after a path of a field assignment's left side
abbrev pub at_reached : ℕ → Expr → Ident → ℕ → TokenKind → Option Mode
at_reached d e x n k =
    if is_sign Signs.Arrow k then Some (Modes.Path (field_of e x) (suc n))
    else wants (is_sign Signs.Equals k) (Modes.Within (new_whole d (To.Set e x)) Want)

-- the first argument of a call, or its end
abbrev pub at_first : ℕ → Callee → Span → TokenKind → Option Mode
at_first d f s k =
    if is_sign Signs.RightParenthesis k then Some (Modes.Ends (call_statement f []))
    else at_operand (new_whole (suc d) (To.Argument f [])) s k

-- an `if` waits for the one that is its else part
abbrev pub chained_in : Inside → Chained → Inside
chained_in i c = record {
  entries = i.entries;
  head = i.head;
  opened = i.opened;
  done = i.done;
  chain = c ∷ i.chain;
  base = i.base;
  nesting = suc i.nesting;
}

-- the `;` of a statement
abbrev pub at_ends : Inside → Stmt → TokenKind → Option State
at_ends i st k = wants (is_sign Signs.Semicolon k) (In (with_statement i st) Modes.Body)

-- the `{` of a block
abbrev pub at_opens : Inside → Owner → TokenKind → Option State
at_opens i o k = wants (is_sign Signs.LeftBrace k) (opened_by i o)

-- a token after the first block of an `if`
abbrev pub at_closed : Inside → Span → Expr → List Stmt → Span → TokenKind → Option State
at_closed i at e first s k =
    if is_word Words.Else k then Some (In i (Modes.Otherwise at e first))
    else at_body (with_statement i (If at e first [])) s k

-- a token after `else`
abbrev pub at_otherwise : Inside → Span → Expr → List Stmt → Span → TokenKind → Option State
at_otherwise i at e first s k =
    if is_sign Signs.LeftBrace k then Some (opened_by i (OfElse at e first))
    else wants (is_word Words.If k)
    (In (chained_in i (record { span = at; test = e; first = first })) (Modes.Before (To.If s)))

-- a token within a body, by the mode
abbrev pub at_mode : Inside → Mode → Span → TokenKind → Option State
at_mode i Modes.Body s k = at_body i s k
at_mode i (Modes.Typing at part) s k = state_in i (at_typing at part s k)
at_mode i (Modes.Declared at form x) s k = state_in i (at_declared at form x k)
at_mode i (Modes.Named x) s k = state_in i (at_named x k)
at_mode i (Modes.Owned at) s k = state_in i (at_owned at k)
at_mode i (Modes.Path e n) s k = state_in i (at_path e n s k)
at_mode i (Modes.Reached e x n) s k = state_in i (at_reached i.nesting e x n k)
at_mode i (Modes.Value t) s k = state_in i (at_value i.nesting t s k)
at_mode i (Modes.Making m) s k = state_in i (at_making m s k)
at_mode i (Modes.Calls f) s k = state_in i (at_calls f k)
at_mode i (Modes.First f) s k = state_in i (at_first i.nesting f s k)
at_mode i (Modes.Before r) s k = state_in i (at_before i.nesting r k)
at_mode i (Modes.Within w p) s k = at_place i w p s k
at_mode i (Modes.Ends st) s k = at_ends i st k
at_mode i (Modes.Ended st) s k = at_body (with_statement i st) s k
at_mode i (Modes.Opens o) s k = at_opens i o k
at_mode i (Modes.Closed at e first) s k = at_closed i at e first s k
at_mode i (Modes.Otherwise at e first) s k = at_otherwise i at e first s k

-- Structs.
-- how many fields there are with a member of this type, c of them before it
abbrev pub fields_with_member : ℕ → TypeForm → ℕ
fields_with_member c (CellRow n) = c + n
fields_with_member c (CellPtrRow y n) = c + n
fields_with_member c form = suc c

-- a struct with one more member
abbrev pub with_member : Layout → FieldDecl → Layout
with_member l m =
    record {
      decl = record { name = l.decl.name; fields = l.decl.fields ++ m ∷ [] };
      count = fields_with_member l.count m.form;
    }

-- whether the type is that of a modifiable
abbrev pub is_cell : TypeForm → Bool
is_cell CellInt = true
is_cell (CellPtr y) = true
is_cell form = false

-- the length of a row that a token is: a number above 0
abbrev pub length_of : TokenKind → Option ℕ
length_of (Number (pos (suc n))) = Some (suc n)
length_of k = None

-- the state within a type, if one begins
abbrev pub begun_type : (TypePart → State) → Option TypePart → Option State
begun_type more None = None
begun_type more (Some part) = Some (more part)

-- a token that begins a member, or ends the struct
abbrev pub at_member : List Entry → Layout → TokenKind → Option State
at_member es l k =
    if is_sign Signs.RightBrace k then Some (Struct es (Structs.Closed l.decl))
    else begun_type (λ p. Struct es (Structs.Typing l p)) (type_starts k)

-- a token after a member
abbrev pub at_member_end : List Entry → Layout → FieldDecl → TokenKind → Option State
at_member_end es l m k =
    if is_sign Signs.Semicolon k then Some (Struct es (Structs.Members (with_member l m)))
    else if is_cell m.form then wants (is_sign Signs.LeftBracket k) (Struct es (Structs.Length l m))
    else None

-- the length of a row
abbrev pub at_length : List Entry → Layout → FieldDecl → Option ℕ → Option State
at_length es l m None = None
at_length es l m (Some n) = Some (Struct es (Structs.Sized l m n))

-- the `]` after the length of a row
abbrev pub at_sized : List Entry → Layout → FieldDecl → ℕ → TokenKind → Option State
at_sized es l m n k =
    wants (is_sign Signs.RightBracket k)
    (Struct es (Structs.Ends l (record { form = row_form m.form n; name = m.name })))

-- a struct of which no member was read
abbrev pub begun_struct : Ident → Layout
begun_struct x = record { decl = record { name = x; fields = [] }; count = 0 }

-- a token within a struct
abbrev pub at_struct : List Entry → StructPlace → Span → TokenKind → Option State
at_struct es Structs.Begun s k = at_name (λ x. Struct es (Structs.Named x)) s k
at_struct es (Structs.Named x) s k = wants (is_sign Signs.LeftBrace k) (Struct es (Structs.Members (begun_struct x)))
at_struct es (Structs.Members l) s k = at_member es l k
at_struct es (Structs.Typing l part) s k =
    with_typing (λ p. Struct es (Structs.Typing l p))
    (λ form x. Struct es (Structs.Ends l (record { form = form; name = x }))) (at_type true part s k)
at_struct es (Structs.Ends l m) s k = at_member_end es l m k
at_struct es (Structs.Length l m) s k = at_length es l m (length_of k)
at_struct es (Structs.Sized l m n) s k = at_sized es l m n k
at_struct es (Structs.Closed d) s k = wants (is_sign Signs.Semicolon k) (Top (es ++ StructEntry d ∷ []))

-- Heads of functions.
abbrev pub with_parameter : Head → FieldDecl → Head
with_parameter h p = record { initialiser = h.initialiser; name = h.name; params = h.params ++ p ∷ [] }

-- the state at the begin of a body
abbrev pub body_of : List Entry → Head → State
body_of es h =
    In (record { entries = es; head = h; opened = []; done = []; chain = []; base = 1; nesting = 1 }) Modes.Body

-- a token within the head of a function
abbrev pub at_head : List Entry → HeadPlace → Span → TokenKind → Option State
at_head es Heads.Ceal s k = at_name (λ x. InHead es (Heads.CealNamed x)) s k
at_head es (Heads.CealNamed x) s k =
    wants (is_sign Signs.LeftParenthesis k)
    (InHead es (Heads.First (record { initialiser = None; name = x; params = [] })))
at_head es Heads.Init s k = at_name (λ x. InHead es (Heads.InitNamed x)) s k
at_head es (Heads.InitNamed x) s k = wants (is_sign Signs.LeftParenthesis k) (InHead es (Heads.InitOpened x))
at_head es (Heads.InitOpened x) s k = wants (is_word Words.Struct k) (InHead es (Heads.InitStruct x))
at_head es (Heads.InitStruct x) s k =
    at_name (λ y. InHead es (Heads.Shaped (record { initialiser = Some y; name = x; params = [] }))) s k
at_head es (Heads.Shaped h) s k = wants (is_sign Signs.Star k) (InHead es (Heads.Starred h))
at_head es (Heads.Starred h) s k = wants (is_word Words.Own k) (InHead es (Heads.Named h))
at_head es (Heads.First h) s k =
    if is_sign Signs.RightParenthesis k then Some (InHead es (Heads.Done h))
    else begun_type (λ p. InHead es (Heads.Typing h p)) (type_starts k)
at_head es (Heads.Next h) s k = begun_type (λ p. InHead es (Heads.Typing h p)) (type_starts k)
at_head es (Heads.Typing h part) s k =
    with_typing (λ p. InHead es (Heads.Typing h p))
    (λ form x. InHead es (Heads.Named (with_parameter h (record { form = form; name = x })))) (at_type false part s k)
at_head es (Heads.Named h) s k =
    if is_sign Signs.Comma k then Some (InHead es (Heads.Next h))
    else wants (is_sign Signs.RightParenthesis k) (InHead es (Heads.Done h))
at_head es (Heads.Done h) s k = wants (is_sign Signs.LeftBrace k) (body_of es h)

-- a reserved word that begins a part of a program
abbrev pub at_part : List Entry → ReservedWord → Option State
at_part es k =
    if same_word k Words.Struct then Some (Struct es Structs.Begun)
    else if same_word k Words.Ceal then Some (InHead es Heads.Ceal)
    else wants (same_word k Words.Init) (InHead es Heads.Init)

-- a token between the parts of a program
abbrev pub at_top : List Entry → TokenKind → Option State
at_top es End = Some (Finished es)
at_top es (Reserved k) = at_part es k
at_top es _ = None

-- The state of a reading after one more token; None where no program continues this way.
abbrev pub step : State → Token → Option State
step (Top es) t = at_top es t.kind
step (Struct es p) t = at_struct es p t.span t.kind
step (InHead es p) t = at_head es p t.span t.kind
step (In i m) t = at_mode i m t.span t.kind
step (Finished es) t = None

-- The nesting.
abbrev pub making_nesting : Making → ℕ → ℕ
making_nesting (Makings.Opened st) d = suc d
making_nesting _ d = d

-- the nesting of a token within a body, by the mode
abbrev pub mode_nesting : Mode → ℕ → ℕ
mode_nesting (Modes.First f) d = suc d
mode_nesting (Modes.Within w p) d = w.nesting
mode_nesting (Modes.Making m) d = making_nesting m d
mode_nesting _ d = d

-- the nesting of a token within a struct
abbrev pub struct_nesting : StructPlace → ℕ
struct_nesting (Structs.Members l) = 1
struct_nesting (Structs.Typing l p) = 1
struct_nesting (Structs.Ends l m) = 1
struct_nesting (Structs.Length l m) = 2
struct_nesting (Structs.Sized l m n) = 2
struct_nesting _ = 0

-- the nesting of a token within the head of a function
abbrev pub head_nesting : HeadPlace → ℕ
head_nesting Heads.Ceal = 0
head_nesting (Heads.CealNamed x) = 0
head_nesting Heads.Init = 0
head_nesting (Heads.InitNamed x) = 0
head_nesting (Heads.Done h) = 0
head_nesting _ = 1

-- the nesting of a token
abbrev pub nesting_of : State → ℕ
nesting_of (Top es) = 0
nesting_of (Struct es p) = struct_nesting p
nesting_of (InHead es p) = head_nesting p
nesting_of (In i m) = mode_nesting m i.nesting
nesting_of (Finished es) = 0

-- The operators of the whole expression so far.
abbrev pub operators_in : Mode → ℕ
operators_in (Modes.Within w p) = w.operators
operators_in (Modes.Path e n) = n
operators_in (Modes.Reached e x n) = n
operators_in _ = 0

-- how many operators the expression has so far
abbrev pub operators_of : State → ℕ
operators_of (In i m) = operators_in m
operators_of _ = 0

-- The number of the item of a list that begins with the next token, 0 where none begins; at the length of a row the
-- number of its last field.
abbrev pub argument_number : Receiver → ℕ
argument_number (To.Argument f args) = suc (length args)
argument_number _ = 0

-- the number of the argument that begins here; 0 where none does
abbrev pub argument_begun : List Frame → Receiver → ℕ
argument_begun [] r = argument_number r
argument_begun (f ∷ fs) r = 0

-- the same within a whole expression
abbrev pub place_item : Whole → Place → ℕ
place_item w Want = argument_begun w.frames w.receiver
place_item w _ = 0

-- the same within a body
abbrev pub mode_item : Mode → TokenKind → ℕ
mode_item (Modes.First f) k = if is_sign Signs.RightParenthesis k then 0 else 1
mode_item (Modes.Within w p) k = place_item w p
mode_item _ k = 0

-- the number of the last field of a row with this length
abbrev pub length_item : ℕ → Option ℕ → ℕ
length_item c None = 0
length_item c (Some n) = c + n

-- the number of the field that begins or ends here
abbrev pub struct_item : StructPlace → TokenKind → ℕ
struct_item (Structs.Members l) k = if is_sign Signs.RightBrace k then 0 else suc l.count
struct_item (Structs.Length l m) k = length_item l.count (length_of k)
struct_item _ k = 0

-- the number of the parameter that begins here
abbrev pub head_item : HeadPlace → TokenKind → ℕ
head_item (Heads.First h) k = if is_sign Signs.RightParenthesis k then 0 else 1
head_item (Heads.Next h) k = suc (length h.params)
head_item _ k = 0

-- the number of the list item that begins at a token; 0 where none does
abbrev pub item_of : State → Token → ℕ
item_of (Top es) t = 0
item_of (Struct es p) t = struct_item p t.kind
item_of (InHead es p) t = head_item p t.kind
item_of (In i m) t = mode_item m t.kind
item_of (Finished es) t = 0
