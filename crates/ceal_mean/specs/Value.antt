-- The value of an expression.
use Rattle.std.specs.Prelude.{ℕ, Option, Some, None, List, slice_get, unwrap_or, map}
use Rattle.ceal_base.specs.Access.{field_of, address_of}
use Rattle.ceal_base.specs.Block.{Blocks}
use Rattle.ceal_base.specs.Operators.{unary_value, binary_value}
use Rattle.ceal_base.specs.Shapes.{default_of}
use Rattle.ceal_base.specs.declared.kind.Kind.{Kind}
use Rattle.ceal_base.specs.declared.typed.TypedExpr.{TypedExpr}
use Rattle.ceal_base.specs.declared.typed.TypedForm.TheBlock.{Row_of-TypedExpr, end_of-TypedExpr, more_of-TypedExpr}
use Rattle.ceal_base.specs.declared.typed.TypedForm.{TypedForm, Num as NumForm, Null as NullForm, Var, Own, Unary'}
use Rattle.ceal_base.specs.declared.typed.TypedForm.{Binary', Field', Address'}
use Rattle.ceal_base.specs.declared.word.Word.{Word}
use Rattle.ceal_base.specs.declared.word.Word.TheVariants.{Num, Null}

-- the word of a variable
abbrev pub variable_of : List Word → ℕ → Word
variable_of env n = unwrap_or (slice_get env n) Null

-- an expression's value in an environment and a memory, by its form; a field through null is the default of its type
unfoldable mutual
  pub form_value : List Word → Blocks → Option Kind → TypedForm → Word
  form_value env m kind (NumForm n) = Num n
  form_value env m kind NullForm = Null
  form_value env m kind (Var n) = variable_of env n
  form_value env m kind Own = Null
  form_value env m kind (Unary' op _ a) = unary_value op (operand_value env m a)
  form_value env m kind (Binary' op at _ a _ b) = binary_value op (operand_value env m a) (operand_value env m b)
  form_value env m kind (Field' _ a shape field) = field_of m shape (operand_value env m a) field (default_of kind)
  form_value env m kind (Address' _ a shape field) = address_of m shape (operand_value env m a) field

  -- the value of an operand
  pub operand_value : List Word → Blocks → {n : _} → Row_of-TypedExpr n → Word
  operand_value env m end_of-TypedExpr = Null
  operand_value env m (more_of-TypedExpr span kind form rest) = form_value env m kind form

-- the value of an expression in an environment and a memory
abbrev pub value_of : List Word → Blocks → TypedExpr → Word
value_of env m e = form_value env m e.kind e.form

-- the values of the arguments
unfoldable pub values_of : List Word → Blocks → List TypedExpr → List Word
values_of env m args = map (λ e. value_of env m e) args
