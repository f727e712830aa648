-- Live variables, by paths: the classical definition of data flow analysis (Kildall, POPL 1973; Aho, Lam,
-- Sethi and Ullman, *Compilers*, 2006, section 9.2).
use Rattle.std.specs.Prelude.{◌≡◌, ◌↔◌, ℕ, ◌<◌, not, Bool, true, Option, Some, None, List, [], ◌∷◌, ◌++◌, length}
use Rattle.std.specs.Prelude.{slice_get}
use Rattle.ceal_base.specs.declared.typed.TypedExpr.{TypedExpr}
use Rattle.ceal_base.specs.declared.typed.TypedForm.TheBlock.{Row_of-TypedExpr, end_of-TypedExpr, more_of-TypedExpr}
use Rattle.ceal_base.specs.declared.typed.TypedForm.{TypedForm, Num, Null, Var, Own, Unary', Binary', Field', Address'}
use Rattle.ceal_base.specs.declared.typed.TypedStmt.{TypedStmt, Declare, Assign, SetField, Write, Call, If', While'}
use Rattle.ceal_base.specs.declared.typed.TypedStmt.{Return, Break, Continue}
use Rattle.ceal_base.specs.declared.typed.TypedValue.{TypedValue}
use Rattle.ceal_base.specs.declared.typed.TypedValue.TheVariants.{Plain, Read, Alloc, ModrefInt, Modref}
use Rattle.ceal_flow.specs.Paths.{Path}
use Rattle.ceal_flow.specs.Sets.{is_in, is_that, IsAscending, set_at}
use Rattle.ceal_flow.specs.declared.block.GraphBlock.{GraphBlock}
use Rattle.ceal_flow.specs.declared.block.GraphBlock.TheVariants.{Done, Test, Act, Unreached}

-- the variables that an expression of this form mentions, from left to right
unfoldable mutual
  pub form_mentions : TypedForm → List ℕ
  form_mentions (Num n) = []
  form_mentions Null = []
  form_mentions (Var n) = n ∷ []
  form_mentions Own = []
  form_mentions (Unary' op _ a) = operand_mentions a
  form_mentions (Binary' op at _ a _ b) = operand_mentions a ++ operand_mentions b
  form_mentions (Field' _ a s field) = operand_mentions a
  form_mentions (Address' _ a s field) = operand_mentions a

  -- the variables that an operand mentions
  pub operand_mentions : {n : _} → Row_of-TypedExpr n → List ℕ
  operand_mentions end_of-TypedExpr = []
  operand_mentions (more_of-TypedExpr span kind form rest) = form_mentions form

-- the variables that an expression mentions
abbrev pub mentions : TypedExpr → List ℕ
mentions e = form_mentions e.form

-- the variables that expressions mention
unfoldable pub all_mentions : List TypedExpr → List ℕ
all_mentions [] = []
all_mentions (e ∷ es) = mentions e ++ all_mentions es

-- the variables that a value mentions
abbrev pub value_mentions : TypedValue → List ℕ
value_mentions (Plain e) = mentions e
value_mentions (Read at e) = mentions e
value_mentions (Alloc at shape f name args) = all_mentions args
value_mentions (ModrefInt at) = []
value_mentions (Modref at s) = []

-- the variables that a statement uses: any mention in an expression is a use. The statements in it are not looked at,
-- since they are separate blocks
abbrev pub stmt_uses : TypedStmt → List ℕ
stmt_uses (Declare at n kind value) = value_mentions value
stmt_uses (Assign at n value) = value_mentions value
stmt_uses (SetField at left s field e) = mentions left ++ mentions e
stmt_uses (Write at place e) = mentions place ++ mentions e
stmt_uses (Call at f args) = all_mentions args
stmt_uses (If' at test _ first _ second) = mentions test
stmt_uses (While' at test _ body) = mentions test
stmt_uses (Return at) = []
stmt_uses (Break at) = []
stmt_uses (Continue at) = []

-- the variables that a block uses
abbrev pub uses : GraphBlock → List ℕ
uses Done = []
uses (Test test first second) = mentions test
uses (Act s next) = stmt_uses s
uses Unreached = []

-- the variable to which a block gives a value
abbrev pub stmt_assigns : TypedStmt → Option ℕ
stmt_assigns (Declare at n kind value) = Some n
stmt_assigns (Assign at n value) = Some n
stmt_assigns _ = None

-- the variable that a block assigns, if it does
abbrev pub assigns : GraphBlock → Option ℕ
assigns (Act s next) = stmt_assigns s
assigns _ = None

-- the block does not assign the variable
abbrev pub keeps : ℕ → GraphBlock → Bool
keeps v block = not (is_that (assigns block) v)

-- the variables that a block uses, if it is there
abbrev pub uses_at : Option GraphBlock → List ℕ
uses_at None = []
uses_at (Some block) = uses block

-- a variable is live at a block: some path leads from there to a use of it, and no block before it on the
-- path assigns it
abbrev pub Live : List GraphBlock → ℕ → ℕ → Type 0
Live blocks v b = (c : ℕ) × Path blocks (keeps v) b c × (is_in v (uses_at (slice_get blocks c)) ≡ true)

-- for each block the variables that are live there, ascending
pub record AreLiveSets (blocks : List GraphBlock) (sets : List (List ℕ)) : Type 0 where
  pub each : length sets ≡ length blocks
  pub ascending : (b : ℕ) → IsAscending (set_at sets b)
  pub exact : (b v : ℕ) → b < length blocks → (is_in v (set_at sets b) ≡ true) ↔ Live blocks v b
