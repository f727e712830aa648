-- What a contract sees of a unit and of code.
use Rattle.std.specs.Prelude.{ℕ, List}
use Rattle.ceal_base.specs.declared.kind.Kind.{Kind}
use Rattle.ceal_base.specs.declared.typed.StructInfo.{StructInfo}
use Rattle.ceal_code.specs.declared.command.Cmd.{Cmd}
use Rattle.ceal_code.specs.declared.expr.VarId.{VarId}
use Rattle.ceal_code.specs.declared.function.FunctionCode.{FunctionCode}

-- a tree of commands that is entered at index 0; its parameters are variables of the function
pub record Unit : Type 0 where
  pub function : ℕ
  pub params : List VarId
  pub body : List Cmd

-- the kinds are those of each function's variables, parameters first
pub record Code : Type 0 where
  pub structs : List StructInfo
  pub functions : List FunctionCode
  pub units : List Unit
  pub kinds : List (List Kind)
