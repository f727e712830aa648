-- Each expression is printed as its own derivation, with no more parentheses than it had.
use Rattle.std.proofs.Common.{◌≡◌, ℕ, suc, ◌+◌, ◌≤◌, ◌<◌, max, List, [], ◌∷◌, ◌++◌, refl, ap, ap₂, sym, ◌∙◌, arith, inl, inr, append_assoc}
use Rattle.std.proofs.lemmas.Bool.Decides.{leb_tells}
use Rattle.ceal_base.specs.declared.fault.Span.{Span}
use Rattle.ceal_base.specs.declared.syntax.Expr.{Expr}
use Rattle.ceal_base.specs.declared.syntax.ExprForm.TheBlock.{hidden-the_row-Expr-0, shape-the_row-Expr-0}
use Rattle.ceal_base.specs.declared.syntax.ExprForm.TheViews.{Unary, Binary, Field, Address, Pick}
use Rattle.ceal_base.specs.declared.syntax.Ident.{Ident}
use Rattle.ceal_lex.specs.declared.token.Reserved.TheVariants as Words
use Rattle.ceal_lex.specs.declared.token.Sign.TheVariants as Signs
use Rattle.ceal_lex.specs.declared.token.Token.{Token}
use Rattle.ceal_lex.specs.declared.token.TokenKind.{TokenKind}
use Rattle.ceal_lex.specs.declared.token.TokenKind.TheVariants.{Name, Number, Reserved, Sign}
use Rattle.ceal_grammar.specs.Grammar.{Phrase, number, null, variable, own, parens, arrow, prefix, address, element, binary, level, level_of, Grouped, IsPath}
use Rattle.ceal_print.specs.Print.{nowhere, bare_name, bare_form, bare_expr}
use Rattle.ceal_print.specs.PrintWords.{form_level, raised, form_kinds, expr_kinds}
use Rattle.ceal_grammar.specs.Spelled.{Mark, sign_of, prefix_sign, after, spelled}
use Rattle.ceal_grammar.specs.Trees.{expression, first}
use Rattle.ceal_grammar.proofs.CompletePhrase.{level_low}
use Rattle.ceal_print.proofs.PrintMarks.{Thinner, kept, dropped}
use Rattle.ceal_grammar.proofs.Words.{word, phrase}

-- Tokens of these kinds. The span of each is a function of the kinds from it on.
unfoldable pub spanned : (List TokenKind → Span) → List TokenKind → List Token
spanned σ [] = []
spanned σ (k ∷ ks) = word k (σ (k ∷ ks)) ∷ spanned σ ks

-- a name that is before tokens of these kinds
abbrev pub placed : (List TokenKind → Span) → Ident → List TokenKind → Ident
placed σ x ks = record { text = x.text; span = σ (Name x.text ∷ ks) }

-- Wherever it is, a has no more tokens than b, and no larger counts.
abbrev pub Lighter : Phrase → Phrase → Type 0
Lighter a b =
    (c d e i j n m : ℕ) (ms ns : List Mark) → d ≤ e → i ≤ max j c → n ≤ m → Thinner 0 ms ns
    → Thinner c (spelled d i n a ms) (spelled e j m b ns)

-- the level of the tree of a derivation
abbrev pub tree_level : Phrase → ℕ
tree_level a = form_level (expression a).form

-- What the derivation `old` is printed as, before tokens of the kinds ks.
pub record Printed (σ : List TokenKind → Span) (old : Phrase) (ks : List TokenKind) : Type 0 where
  pub made : Phrase
  pub words : phrase made (spanned σ ks) ≡ spanned σ (expr_kinds (expression old) ++ ks)
  pub grouped : Grouped made
  pub level : level_of made ≡ tree_level old
  pub bare : bare_expr (expression made) ≡ bare_expr (expression old)
  pub path : IsPath old → IsPath made × (8 ≤ tree_level old)
  pub counted : (n m : ℕ) → n ≤ m → after made n ≤ after old m
  pub lighter : Lighter made old
  pub enclosed : tree_level old < level_of old → (s t : Span) → Lighter (parens s made t) old

-- The same of an operand where the level l at least is asked.
pub record Operand (σ : List TokenKind → Span) (l : ℕ) (old : Phrase) (ks : List TokenKind) : Type 0 where
  pub made : Phrase
  pub words : phrase made (spanned σ ks) ≡ spanned σ (raised l (tree_level old) (expr_kinds (expression old)) ++ ks)
  pub grouped : Grouped made
  pub level : l ≤ level_of made
  pub bare : bare_expr (expression made) ≡ bare_expr (expression old)
  pub path : l ≤ 8 → IsPath old → IsPath made
  pub counted : (n m : ℕ) → n ≤ m → after made n ≤ after old m
  pub lighter : Lighter made old

module _ (σ : List TokenKind → Span) where
  as_it_is : (l : ℕ) (old : Phrase) (ks : List TokenKind) → l ≤ tree_level old → Printed σ old ks
      → raised l (tree_level old) (expr_kinds (expression old)) ≡ expr_kinds (expression old) → Operand σ l old ks
  as_it_is l old ks h P e = record {
    made = P.made;
    words = P.words ∙ ap (λ u. spanned σ (u ++ ks)) (sym e);
    grouped = P.grouped;
    level = let k = P.level in omega (arith, h, k);
    bare = P.bare;
    path = λ low p. (P.path p).0;
    counted = P.counted;
    lighter = P.lighter;
  }

  abbrev open_at : Phrase → List TokenKind → Span
  open_at old ks = σ (Sign Signs.LeftParenthesis ∷ (expr_kinds (expression old) ++ Sign Signs.RightParenthesis ∷ []) ++ ks)

  in_parentheses : (l : ℕ) (old : Phrase) (ks : List TokenKind) → l ≤ level_of old → l ≤ 9 → tree_level old < l → Printed σ old (Sign Signs.RightParenthesis ∷ ks)
      → raised l (tree_level old) (expr_kinds (expression old)) ≡ Sign Signs.LeftParenthesis ∷ expr_kinds (expression old) ++ Sign Signs.RightParenthesis ∷ []
      → Operand σ l old ks
  unfolding spanned phrase Grouped expression after
  in_parentheses l old ks h low less P e = record {
    made = parens (open_at old ks) P.made (σ (Sign Signs.RightParenthesis ∷ ks));
    words = ap (λ u. word (Sign Signs.LeftParenthesis) (open_at old ks) ∷ u)
        (P.words ∙ ap (spanned σ) (sym (append_assoc (expr_kinds (expression old)) (Sign Signs.RightParenthesis ∷ []) ks)))
        ∙ ap (λ u. spanned σ (u ++ ks)) (sym e);
    grouped = P.grouped;
    level = low;
    bare = P.bare;
    path = λ small p. let k = (P.path p).1 in absurd (omega (arith, small, k, less));
    counted = P.counted;
    lighter = P.enclosed (omega (arith, h, less)) (open_at old ks) (σ (Sign Signs.RightParenthesis ∷ ks));
  }

  pub operand : (l : ℕ) (old : Phrase) → l ≤ level_of old → l ≤ 9 → ((ks : List TokenKind) → Printed σ old ks) → (ks : List TokenKind) → Operand σ l old ks
  operand l old h low P ks = elim (leb_tells l (tree_level old)) [
    | inl p ↦ as_it_is l old ks p.1 (P ks) (rw p.0)
    | inr p ↦ in_parentheses l old ks h low p.1 (P (Sign Signs.RightParenthesis ∷ ks)) (rw p.0)
  ]

  pub printed : (old : Phrase) → Grouped old → (ks : List TokenKind) → Printed σ old ks
  unfolding spanned phrase Grouped expression first after spelled form_kinds bare_form hidden-the_row-Expr-0 shape-the_row-Expr-0 denote.Hole.Carrier.hidden
  printed (number v s) g ks = record {
    made = number v (σ (Number v ∷ ks));
    words = refl;
    grouped = tt;
    level = refl;
    bare = refl;
    path = λ p. absurd p;
    counted = λ n m h. h;
    lighter = λ c d e i j n m ms ns de ij nm th. kept refl de ij nm th;
    enclosed = λ less. absurd (omega (arith, less));
  }
  printed (null s) g ks = record {
    made = null (σ (Reserved Words.Null ∷ ks));
    words = refl;
    grouped = tt;
    level = refl;
    bare = refl;
    path = λ p. absurd p;
    counted = λ n m h. h;
    lighter = λ c d e i j n m ms ns de ij nm th. kept refl de ij nm th;
    enclosed = λ less. absurd (omega (arith, less));
  }
  printed (variable x) g ks = record {
    made = variable (placed σ x ks);
    words = refl;
    grouped = tt;
    level = refl;
    bare = refl;
    path = λ p. (tt, omega arith);
    counted = λ n m h. h;
    lighter = λ c d e i j n m ms ns de ij nm th. kept refl de ij nm th;
    enclosed = λ less. absurd (omega (arith, less));
  }
  printed (own s) g ks = record {
    made = own (σ (Reserved Words.Own ∷ ks));
    words = refl;
    grouped = tt;
    level = refl;
    bare = refl;
    path = λ p. (tt, omega arith);
    counted = λ n m h. h;
    lighter = λ c d e i j n m ms ns de ij nm th. kept refl de ij nm th;
    enclosed = λ less. absurd (omega (arith, less));
  }
  printed (parens l a r) g ks = let P = printed a g ks in record {
    made = P.made;
    words = P.words;
    grouped = P.grouped;
    level = P.level;
    bare = P.bare;
    path = λ p. absurd p;
    counted = P.counted;
    lighter = λ c d e i j n m ms ns de ij nm th.
        dropped refl (P.lighter (max j c) d (suc e) i 0 n m ms _ (omega (arith, de)) (omega (arith, ij)) nm (dropped refl th));
    enclosed = λ less s t c d e i j n m ms ns de ij nm th.
        kept refl (omega (arith, de)) ij nm
        (P.lighter 0 (suc d) (suc e) 0 0 n m _ _ (omega (arith, de)) (omega arith) nm (kept refl de (omega arith) (P.counted n m nm) th));
  }
  printed (arrow a s x) g ks =
      let A = operand 8 a g.0 (omega arith) (printed a g.1) (Sign Signs.Arrow ∷ Name x.text ∷ ks) in record {
        made = arrow A.made (σ (Sign Signs.Arrow ∷ Name x.text ∷ ks)) (placed σ x ks);
        words = A.words ∙ ap (spanned σ) (sym (append_assoc (raised 8 (tree_level a) (expr_kinds (expression a))) (Sign Signs.Arrow ∷ Name x.text ∷ []) ks));
        grouped = (A.level, A.grouped);
        level = refl;
        bare = ap (λ (e : Expr). record { span = nowhere; form = Field e (bare_name x) }) A.bare;
        path = λ p. (A.path (omega arith) p, omega arith);
        counted = λ n m h. let k = A.counted n m h in omega (arith, k);
        lighter = λ c d e i j n m ms ns de ij nm th.
            let k = A.counted n m nm in
            A.lighter c d e i j n m _ _ de ij nm (kept refl de (omega arith) (omega (arith, k)) (kept refl de (omega arith) (omega (arith, k)) th));
        enclosed = λ less. absurd (omega (arith, less));
      }
  printed (prefix op s a) g ks =
      let A = operand 7 a g.0 (omega arith) (printed a g.1) ks in record {
        made = prefix op (σ (Sign (prefix_sign op) ∷ raised 7 (tree_level a) (expr_kinds (expression a)) ++ ks)) A.made;
        words = ap (λ u. word (Sign (prefix_sign op)) (σ (Sign (prefix_sign op) ∷ raised 7 (tree_level a) (expr_kinds (expression a)) ++ ks)) ∷ u) A.words;
        grouped = (A.level, A.grouped);
        level = refl;
        bare = ap (λ (e : Expr). record { span = nowhere; form = Unary op e }) A.bare;
        path = λ p. absurd p;
        counted = λ n m h. A.counted (suc n) (suc m) (omega (arith, h));
        lighter = λ c d e i j n m ms ns de ij nm th.
            kept refl de ij (omega (arith, nm)) (A.lighter 0 d e 0 0 (suc n) (suc m) _ _ de (omega arith) (omega (arith, nm)) th);
        enclosed = λ less. absurd (omega (arith, less));
      }
  printed (address s a) g ks =
      let A = operand 8 a g.0 (omega arith) (printed a g.1) ks in record {
        made = address (σ (Sign Signs.Ampersand ∷ raised 8 (tree_level a) (expr_kinds (expression a)) ++ ks)) A.made;
        words = ap (λ u. word (Sign Signs.Ampersand) (σ (Sign Signs.Ampersand ∷ raised 8 (tree_level a) (expr_kinds (expression a)) ++ ks)) ∷ u) A.words;
        grouped = (A.level, A.grouped);
        level = refl;
        bare = ap (λ (e : Expr). record { span = nowhere; form = Address e }) A.bare;
        path = λ p. absurd p;
        counted = λ n m h. A.counted (suc n) (suc m) (omega (arith, h));
        lighter = λ c d e i j n m ms ns de ij nm th.
            kept refl de ij (omega (arith, nm)) (A.lighter 0 d e 0 0 (suc n) (suc m) _ _ de (omega arith) (omega (arith, nm)) th);
        enclosed = λ less. absurd (omega (arith, less));
      }
  printed (element s a l b r) g ks =
      let R : List TokenKind = Sign Signs.RightBracket ∷ ks in
      let B = printed b g.2 R in
      let L : List TokenKind = Sign Signs.LeftBracket ∷ expr_kinds (expression b) ++ R in
      let A = operand 8 a g.0 (omega arith) (printed a g.1) L in
      let whole : List TokenKind = Sign Signs.Ampersand ∷ raised 8 (tree_level a) (expr_kinds (expression a)) ++ L in
      let flat : expr_kinds (expression (element s a l b r)) ++ ks ≡ whole = simp append_assoc refl in record {
        made = element (σ whole) A.made (σ L) B.made (σ R);
        words = ap (λ u. word (Sign Signs.Ampersand) (σ whole) ∷ phrase A.made (word (Sign Signs.LeftBracket) (σ L) ∷ u)) B.words
            ∙ ap (λ u. word (Sign Signs.Ampersand) (σ whole) ∷ u) A.words
            ∙ sym (ap (spanned σ) flat);
        grouped = (A.level, A.grouped, B.grouped);
        level = refl;
        bare = ap₂ (λ (x y : Expr). record { span = nowhere; form = Pick x y }) A.bare B.bare;
        path = λ p. absurd p;
        counted = λ n m h. let k = A.counted (suc n) (suc m) (omega (arith, h)) in B.counted (suc (after A.made (suc n))) (suc (after a (suc m))) (omega (arith, k));
        lighter = λ c d e i j n m ms ns de ij nm th.
            let k = A.counted (suc n) (suc m) (omega (arith, nm)) in
            kept refl de ij (omega (arith, nm)) (A.lighter 0 d e 0 0 (suc n) (suc m) _ _ de (omega arith) (omega (arith, nm))
            (kept refl (omega (arith, de)) (omega arith) (omega (arith, k))
            (B.lighter 0 (suc d) (suc e) 0 0 (suc (after A.made (suc n))) (suc (after a (suc m))) _ _ (omega (arith, de)) (omega arith) (omega (arith, k))
            (kept refl de (omega arith) (B.counted (suc (after A.made (suc n))) (suc (after a (suc m))) (omega (arith, k))) th))));
        enclosed = λ less. absurd (omega (arith, less));
      }
  printed (binary op a s b) g ks =
      let low = level_low op in
      let B = operand (level op + 1) b (let h = g.1 in omega (arith, h)) (omega (arith, low)) (printed b g.3) ks in
      let right : List TokenKind = Sign (sign_of op) ∷ raised (level op + 1) (tree_level b) (expr_kinds (expression b)) in
      let A = operand (level op) a g.0 (omega (arith, low)) (printed a g.2) (right ++ ks) in record {
        made = binary op A.made (σ (right ++ ks)) B.made;
        words = ap (λ u. phrase A.made (word (Sign (sign_of op)) (σ (right ++ ks)) ∷ u)) B.words
            ∙ A.words
            ∙ ap (spanned σ) (sym (append_assoc (raised (level op) (tree_level a) (expr_kinds (expression a))) right ks));
        grouped = (A.level, let h = B.level in omega (arith, h), A.grouped, B.grouped, g.4);
        level = refl;
        bare = ap₂ (λ (x y : Expr). record { span = nowhere; form = Binary op nowhere x y }) A.bare B.bare;
        path = λ p. absurd p;
        counted = λ n m h. let k = A.counted n m h in B.counted (suc (after A.made n)) (suc (after a m)) (omega (arith, k));
        lighter = λ c d e i j n m ms ns de ij nm th.
            let k = A.counted n m nm in
            A.lighter c d e i j n m _ _ de ij nm
            (kept refl de (omega arith) (omega (arith, k))
            (B.lighter 0 d e 0 0 (suc (after A.made n)) (suc (after a m)) _ _ de (omega arith) (omega (arith, k)) th));
        enclosed = λ less. absurd (omega (arith, less));
      }
