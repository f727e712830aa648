-- The grammar: a type for each of its symbols, with a constructor for each of its rules. What is in these types
-- are derivations: they have the parentheses and the span of every token (Aho, Lam, Sethi and Ullman, *Compilers*,
-- 2006, section 4.2).
use Rattle.std.specs.Prelude.{ℕ, ℤ, ◌≤◌, ◌<◌, ◌≡◌, Bool, true, false, List, [], ◌∷◌}
use Rattle.ceal_base.specs.declared.fault.Span.{Span}
use Rattle.ceal_base.specs.declared.operators.Unary.{Unary as UnaryOp}
use Rattle.ceal_base.specs.declared.operators.Binary.{Binary as BinaryOp}
use Rattle.ceal_base.specs.declared.operators.Binary.TheVariants.{Add, Sub, Mul, Div, Rem, Less, LessEq, More, MoreEq}
use Rattle.ceal_base.specs.declared.operators.Binary.TheVariants.{Same, Differ, And, Or, Pick}
use Rattle.ceal_base.specs.declared.syntax.Ident.{Ident}

-- An expression. `prefix` is `-` or `!`, and `element` is `&a[index]`.
pub data Phrase : Type 0 where
  number : (value : ℤ) (at : Span) → Phrase
  null : (at : Span) → Phrase
  variable : (x : Ident) → Phrase
  own : (at : Span) → Phrase
  parens : (left : Span) (a : Phrase) (right : Span) → Phrase
  arrow : (a : Phrase) (at : Span) (field : Ident) → Phrase
  prefix : (op : UnaryOp) (at : Span) (a : Phrase) → Phrase
  address : (at : Span) (a : Phrase) → Phrase
  element : (at : Span) (a : Phrase) (left : Span) (index : Phrase) (right : Span) → Phrase
  binary : (op : BinaryOp) (a : Phrase) (at : Span) (b : Phrase) → Phrase

-- The levels of expressions, each a separate rule: `or` 1, `and` 2, `eq` 3, `rel` 4, `add` 5, `mul` 6, `unary` 7,
-- `post` 8, `prim` 9. `Pick` is not written between two operands: it is written as `element`, and has no level.
abbrev pub level : BinaryOp → ℕ
level Or = 1
level And = 2
level Same = 3
level Differ = 3
level Less = 4
level LessEq = 4
level More = 4
level MoreEq = 4
level Add = 5
level Sub = 5
level Mul = 6
level Div = 6
level Rem = 6
level (Pick n) = 0

-- an operator that has a sign between its operands
abbrev pub IsInfix : BinaryOp → Type 0
IsInfix (Pick n) = ⊥
IsInfix op = Unit {0}

-- how tightly a phrase binds: 9 is the tightest
abbrev pub level_of : Phrase → ℕ
level_of (number v s) = 9
level_of (null s) = 9
level_of (variable x) = 9
level_of (own s) = 9
level_of (parens l a r) = 9
level_of (arrow a s x) = 8
level_of (prefix op s a) = 7
level_of (address s a) = 7
level_of (element s a l b r) = 7
level_of (binary op a s b) = level op

-- Each operand is at the level that its rule asks: `add = add "+" mul`, `unary = "-" unary`, and so on. The
-- right operand of a binary operator is of a higher level, so that operators group to the left.
unfoldable pub Grouped : Phrase → Type 0
Grouped (number v s) = Unit {0}
Grouped (null s) = Unit {0}
Grouped (variable x) = Unit {0}
Grouped (own s) = Unit {0}
Grouped (parens l a r) = Grouped a
Grouped (arrow a s x) = (8 ≤ level_of a) × Grouped a
Grouped (prefix op s a) = (7 ≤ level_of a) × Grouped a
Grouped (address s a) = (8 ≤ level_of a) × Grouped a
Grouped (element s a l b r) = (8 ≤ level_of a) × Grouped a × Grouped b
Grouped (binary op a s b) = (level op ≤ level_of a) × (level op < level_of b) × Grouped a × Grouped b × IsInfix op

-- A name or `self`, and arrows: what may be to the left of the last `->` of a field assignment.
abbrev pub IsPath : Phrase → Type 0
IsPath (variable x) = Unit {0}
IsPath (own s) = Unit {0}
IsPath (arrow a s x) = IsPath a
IsPath _ = ⊥

-- A type. The last two are modifiables within a struct: `mod int` and `mod struct S` without a star.
pub data Written : Type 0 where
  int : (at : Span) → Written
  pointer : (at : Span) (x : Ident) (star : Span) → Written
  mod_int : (at inner star : Span) → Written
  mod_pointer : (at inner : Span) (x : Ident) (star : Span) → Written
  cell_int : (at inner : Span) → Written
  cell_pointer : (at inner : Span) (x : Ident) → Written

-- Modifiables within a struct are types only of fields.
abbrev pub Allowed : Bool → Written → Type 0
Allowed cells (int s) = Unit {0}
Allowed cells (pointer s x t) = Unit {0}
Allowed cells (mod_int s k t) = Unit {0}
Allowed cells (mod_pointer s k x t) = Unit {0}
Allowed cells (cell_int s k) = cells ≡ true
Allowed cells (cell_pointer s k x) = cells ≡ true

-- args = expr { "," expr }, or nothing
pub data Arguments : Type 0 where
  no_arguments : Arguments
  arguments : (e : Phrase) (more : List (Span × Phrase)) → Arguments

-- What a variable is given.
pub data Given : Type 0 where
  plainly : (e : Phrase) → Given
  reading : (at left : Span) (e : Phrase) (right : Span) → Given
  allocation : (at : Span) (shape x : Ident) (left : Span) (args : Arguments) (right : Span) → Given
  modref_int : (at inner left right : Span) → Given
  modref : (at : Span) (shape : Ident) (left right : Span) → Given

mutual
  -- a statement
  pub data Statement : Type 0 where
    declare : (type : Written) (x : Ident) (equals : Span) (g : Given) (semi : Span) → Statement
    assign : (x : Ident) (equals : Span) (g : Given) (semi : Span) → Statement
    set : (p : Phrase) (at : Span) (field : Ident) (equals : Span) (e : Phrase) (semi : Span) → Statement
    store : (at left : Span) (a : Phrase) (comma : Span) (e : Phrase) (right semi : Span) → Statement
    call : (x : Ident) (left : Span) (args : Arguments) (right semi : Span) → Statement
    branch : Branch → Statement
    loop : (at left : Span) (e : Phrase) (right : Span) (body : Block) → Statement
    exit : (at semi : Span) → Statement
    break : (at semi : Span) → Statement
    continue : (at semi : Span) → Statement

  -- an `if` with its parts
  pub data Branch : Type 0 where
    when : (at left : Span) (e : Phrase) (right : Span) (body : Block) (other : Otherwise) → Branch

  -- what follows the first block of an `if`
  pub data Otherwise : Type 0 where
    nothing : Otherwise
    otherwise : (at : Span) (body : Block) → Otherwise
    chained : (at : Span) (other : Branch) → Otherwise

  -- statements in braces
  pub data Block : Type 0 where
    block : (left : Span) (body : Statements) (right : Span) → Block

  -- statements one after another
  pub data Statements : Type 0 where
    ended : Statements
    followed : Statement → Statements → Statements

-- a parameter: its type and its name
pub record Parameter : Type 0 where
  pub type : Written
  pub x : Ident

-- parameters with commas between
pub data Parameters : Type 0 where
  no_parameters : Parameters
  parameters : (p : Parameter) (more : List (Span × Parameter)) → Parameters

-- The head of a core function or of an initialiser; `shape` is the struct of `self`.
pub data Signature : Type 0 where
  core : (at : Span) (x : Ident) (left : Span) (params : Parameters) (right : Span) → Signature
  init : (at : Span) (x : Ident) (left inner : Span) (shape : Ident) (star own : Span)
      (more : List (Span × Parameter)) (right : Span) → Signature

-- How many modifiables a member is: one, or a row of them, `[length]`.
pub data Size : Type 0 where
  single : Size
  row : (left : Span) (length : ℕ) (at right : Span) → Size

-- a member of a struct
pub record Member : Type 0 where
  pub type : Written
  pub x : Ident
  pub size : Size
  pub semi : Span

-- a struct or a function
pub data Part : Type 0 where
  structure : (at : Span) (x : Ident) (left : Span) (members : List Member) (right semi : Span) → Part
  function : (head : Signature) (body : Block) → Part

-- a program: its parts, and the end
pub record Program : Type 0 where
  pub parts : List Part
  pub last : Span

-- Every expression is grouped, every type is one that may be used there, and the left side of every field assignment
-- is a path.
unfoldable pub AllGrouped : List (Span × Phrase) → Type 0
AllGrouped [] = Unit {0}
AllGrouped (a ∷ more) = Grouped a.1 × AllGrouped more

-- each argument is grouped by levels
abbrev pub ArgumentsGrouped : Arguments → Type 0
ArgumentsGrouped no_arguments = Unit {0}
ArgumentsGrouped (arguments e more) = Grouped e × AllGrouped more

-- the expressions of a value are grouped by levels
abbrev pub GivenGrouped : Given → Type 0
GivenGrouped (plainly e) = Grouped e
GivenGrouped (reading s l e r) = Grouped e
GivenGrouped (allocation s y x l args r) = ArgumentsGrouped args
GivenGrouped (modref_int s k l r) = Unit {0}
GivenGrouped (modref s y l r) = Unit {0}

unfoldable mutual
  -- the types of a statement may be used there, and its expressions are grouped by levels
  pub StatementProper : Statement → Type 0
  StatementProper (declare w x q g semi) = Allowed false w × GivenGrouped g
  StatementProper (assign x q g semi) = GivenGrouped g
  StatementProper (set p s x q e semi) = IsPath p × Grouped e
  StatementProper (store s l a c e r semi) = Grouped a × Grouped e
  StatementProper (call x l args r semi) = ArgumentsGrouped args
  StatementProper (branch b) = BranchProper b
  StatementProper (loop s l e r b) = Grouped e × BlockProper b
  StatementProper (exit s semi) = Unit {0}
  StatementProper (break s semi) = Unit {0}
  StatementProper (continue s semi) = Unit {0}

  -- the same of an `if`
  pub BranchProper : Branch → Type 0
  BranchProper (when s l e r b other) = Grouped e × BlockProper b × OtherwiseProper other

  -- the same of what follows the first block of an `if`
  pub OtherwiseProper : Otherwise → Type 0
  OtherwiseProper nothing = Unit {0}
  OtherwiseProper (otherwise s b) = BlockProper b
  OtherwiseProper (chained s b) = BranchProper b

  -- the same of a block
  pub BlockProper : Block → Type 0
  BlockProper (block l ss r) = StatementsProper ss

  -- the same of each statement
  pub StatementsProper : Statements → Type 0
  StatementsProper ended = Unit {0}
  StatementsProper (followed s ss) = StatementProper s × StatementsProper ss

-- the type of each parameter may be used there
unfoldable pub MoreProper : List (Span × Parameter) → Type 0
MoreProper [] = Unit {0}
MoreProper (p ∷ more) = Allowed false p.1.type × MoreProper more

-- the same of all parameters of a function
abbrev pub ParametersProper : Parameters → Type 0
ParametersProper no_parameters = Unit {0}
ParametersProper (parameters p more) = Allowed false p.type × MoreProper more

-- the same of the head of a function
abbrev pub SignatureProper : Signature → Type 0
SignatureProper (core s x l ps r) = ParametersProper ps
SignatureProper (init s x l k y t o more r) = MoreProper more

-- a modifiable within a struct
abbrev pub IsCell : Written → Type 0
IsCell (cell_int s k) = Unit {0}
IsCell (cell_pointer s k x) = Unit {0}
IsCell _ = ⊥

-- A row is of modifiables within the struct, and its length is above 0.
abbrev pub SizeProper : Written → Size → Type 0
SizeProper w single = Unit {0}
SizeProper w (row l n s r) = IsCell w × (0 < n)

-- the type of each member may be used there
unfoldable pub MembersProper : List Member → Type 0
MembersProper [] = Unit {0}
MembersProper (m ∷ ms) = SizeProper m.type m.size × MembersProper ms

-- the same of a struct or a function
abbrev pub PartProper : Part → Type 0
PartProper (structure s x l ms r semi) = MembersProper ms
PartProper (function h b) = SignatureProper h × BlockProper b

-- the same of each part
unfoldable pub PartsProper : List Part → Type 0
PartsProper [] = Unit {0}
PartsProper (p ∷ ps) = PartProper p × PartsProper ps
