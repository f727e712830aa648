use Rattle.std.proofs.Common.{◌≡◌, ◌<◌, ◌≤◌, List, [], ◌∷◌, length, get_or, refl, sym, ap, ◌∙◌, arith}
use Rattle.ceal_base.specs.declared.typed.StructInfo.{StructInfo}
use Rattle.ceal_code.specs.Init.{arguments}
use Rattle.ceal_code.specs.Value.{Plain, Variables, expr_value, values}
use Rattle.ceal_code.specs.declared.expr.CodeExpr.{CodeExpr}
use Rattle.ceal_code.proofs.evaluate.Scope.values.Goals as goal

module _ (structs : List StructInfo) (x : Plain) (env : Variables) where
  none : (es : List CodeExpr) → length es < 1 → [] ≡ values structs x env es
  unfolding values
  none [] h = refl
  none (e ∷ es) h = absurd (omega (arith, h))

  one : (es : List CodeExpr) (a : CodeExpr) → 1 ≤ length es → length es < 2 → a ≡ get_or es 0 a → values structs x env es ≡ expr_value structs x env a ∷ []
  unfolding values
  one [] a h k e = absurd (omega (arith, h))
  one (b ∷ []) a h k e = ap (λ (d : CodeExpr). expr_value structs x env d ∷ []) (sym e)
  one (b ∷ d ∷ es) a h k e = absurd (omega (arith, k))

  two : (es : List CodeExpr) (a b : CodeExpr) → 2 ≤ length es → length es < 3 → a ≡ get_or es 0 a → b ≡ get_or es 1 b
      → values structs x env es ≡ expr_value structs x env a ∷ expr_value structs x env b ∷ []
  unfolding values
  two [] a b h k e f = absurd (omega (arith, h))
  two (c ∷ []) a b h k e f = absurd (omega (arith, h))
  two (c ∷ d ∷ []) a b h k e f =
      ap (λ (i : CodeExpr). expr_value structs x env i ∷ expr_value structs x env d ∷ []) (sym e)
      ∙ ap (λ (i : CodeExpr). expr_value structs x env a ∷ expr_value structs x env i ∷ []) (sym f)
  two (c ∷ d ∷ i ∷ es) a b h k e f = absurd (omega (arith, k))

pub returns-in-empty : goal.returns-in-empty
returns-in-empty g c = record {
  value = c.empty.ensures.value
      ∙ none c.args.self.now.structs.now (g.P.PlainWords.plain c.args.self.now.plain.now) (arguments c.args.self.now.env.now) c.args.es.now (omega (arith, c.in-empty.len_below));
}

-- there is one expression, and the list has its value
pub returns-in-len1 : goal.returns-in-len1
returns-in-len1 g c = record {
  value = rw (
    one c.args.self.now.structs.now (g.P.PlainWords.plain c.args.self.now.plain.now) (arguments c.args.self.now.env.now) c.args.es.now c.one-item.result
        (omega (arith, c.in-len1.len_at_least)) (omega (arith, c.in-len1.len_below)) c.one-item.is,
    ← c.value.ensures.value,
  ) c.from_slice.ensures.equal;
}

-- there are two expressions, and the list has their values in order
pub returns-in-len2 : goal.returns-in-len2
returns-in-len2 g c = record {
  value = rw (
    two c.args.self.now.structs.now (g.P.PlainWords.plain c.args.self.now.plain.now) (arguments c.args.self.now.env.now) c.args.es.now c.one-item-then-es-lt3.result c.two-item.result
        (omega (arith, c.in-len2.len_at_least)) (omega (arith, c.in-len2.len_below)) c.one-item-then-es-lt3.is c.two-item.is,
    ← c.value-in-len2.ensures.value,
    ← c.value-in-len2-2.ensures.value,
  ) c.from_slice-in-len2.ensures.equal;
}
