-- The tokens of a tree and their text, piece by piece.
use Rattle.std.proofs.Common.{◌≡◌, ℕ, ℤ, pos, ◌+◌, ◌<◌, false, List, [], ◌∷◌, ◌++◌, refl, length, arith, codes, ap, ap₂, append_assoc, append-nil, ◌∙◌, sym, take, get_or}
use Rattle.std.specs.Fmt.{signed_decimal}
use Rattle.std.proofs.lemmas.List.{take_more}
use Rattle.ceal_base.specs.declared.fault.Span.{Span}
use Rattle.ceal_base.specs.declared.operators.Binary.{Binary as BinaryOp}
use Rattle.ceal_base.specs.declared.operators.Unary.{Unary as UnaryOp}
use Rattle.ceal_base.specs.declared.syntax.Entry.{Entry}
use Rattle.ceal_base.specs.declared.syntax.Expr.{Expr}
use Rattle.ceal_base.specs.declared.syntax.ExprForm.{Num, Null, Var, Own}
use Rattle.ceal_base.specs.declared.syntax.ExprForm.TheBlock.{hidden-the_row-Expr-0, shape-the_row-Expr-0}
use Rattle.ceal_base.specs.declared.syntax.ExprForm.TheViews.{Unary, Binary, Field, Address, Pick}
use Rattle.ceal_base.specs.declared.syntax.FieldDecl.{FieldDecl}
use Rattle.ceal_base.specs.declared.syntax.Ident.{Ident}
use Rattle.ceal_base.specs.declared.syntax.Stmt.{Stmt, Declare, Assign, SetField, Write, Call, Return, Break, Continue}
use Rattle.ceal_base.specs.declared.syntax.Stmt.TheBlock.{hidden-the_row-Stmt-0, shape-the_row-Stmt-0}
use Rattle.ceal_base.specs.declared.syntax.Stmt.TheViews.{If, While}
use Rattle.ceal_base.specs.declared.syntax.TypeForm.{TypeForm}
use Rattle.ceal_base.specs.declared.syntax.Value.{Value}
use Rattle.ceal_lex.specs.declared.token.Reserved.TheVariants as Words
use Rattle.ceal_lex.specs.declared.token.Sign.{Sign as SignOf}
use Rattle.ceal_lex.specs.declared.token.Sign.TheVariants as Signs
use Rattle.ceal_lex.specs.declared.token.TokenKind.{TokenKind}
use Rattle.ceal_lex.specs.declared.token.TokenKind.TheVariants.{Name, Number, Reserved, Sign}
use Rattle.ceal_lex.specs.Spelling.{sign_text}
use Rattle.ceal_grammar.specs.Grammar.{level}
use Rattle.ceal_grammar.specs.Spelled.{sign_of, prefix_sign}
use Rattle.ceal_print.specs.PrintWords.{kind_text, gap, sign_gap, texts, form_level, raised, form_kinds, expr_kinds}
use Rattle.ceal_print.specs.PrintWords.{more_kinds, argument_kinds, type_kinds, row_length_kinds, size_kinds}
use Rattle.ceal_print.specs.PrintWords.{value_kinds, braced, after_else, stmt_kinds, row_kinds, else_kinds, stmts_kinds}
use Rattle.ceal_print.specs.PrintWords.{second_kinds, field_kinds, other_kinds, parameter_kinds, member_kinds}
use Rattle.ceal_print.specs.PrintWords.{entry_kinds, entries_kinds}

-- one list of tokens after another
pub texts-nil : texts [] ≡ []
unfolding texts
texts-nil = refl

pub texts-append : (ks ls : List TokenKind) → texts (ks ++ ls) ≡ texts ks ++ texts ls
unfolding texts
texts-append [] ls = refl
texts-append (k ∷ ks) ls =
    ap (λ t. kind_text k ++ (gap k ++ t)) (texts-append ks ls)
    ∙ ap (λ t. kind_text k ++ t) (sym (append_assoc (gap k) (texts ks) (texts ls)))
    ∙ sym (append_assoc (kind_text k) (gap k ++ texts ks) (texts ls))

pub text-name : (text : List ℕ) → texts (Name text ∷ []) ≡ text ++ codes " "
unfolding texts
text-name text = refl

pub text-number : (n : ℤ) → texts (Number n ∷ []) ≡ signed_decimal n ++ codes " "
unfolding texts
text-number n = refl

pub text-sign : (s : SignOf) → texts (Sign s ∷ []) ≡ sign_text s ++ sign_gap s ∷ []
unfolding texts
text-sign s = refl

-- expressions
pub kinds-unary : (op : UnaryOp) (a : Expr) → form_kinds (Unary op a) ≡ Sign (prefix_sign op) ∷ raised 7 (form_level a.form) (expr_kinds a)
unfolding form_kinds hidden-the_row-Expr-0 shape-the_row-Expr-0 denote.Hole.Carrier.hidden
kinds-unary op a = refl

pub kinds-binary : (op : BinaryOp) (at : Span) (a b : Expr)
    → form_kinds (Binary op at a b)
    ≡ raised (level op) (form_level a.form) (expr_kinds a) ++ Sign (sign_of op) ∷ raised (level op + 1) (form_level b.form) (expr_kinds b)
unfolding form_kinds hidden-the_row-Expr-0 shape-the_row-Expr-0 denote.Hole.Carrier.hidden
kinds-binary op at a b = refl

pub kinds-field : (a : Expr) (x : Ident) → form_kinds (Field a x) ≡ raised 8 (form_level a.form) (expr_kinds a) ++ Sign Signs.Arrow ∷ Name x.text ∷ []
unfolding form_kinds hidden-the_row-Expr-0 shape-the_row-Expr-0 denote.Hole.Carrier.hidden
kinds-field a x = refl

pub kinds-address : (a : Expr) → form_kinds (Address a) ≡ Sign Signs.Ampersand ∷ raised 8 (form_level a.form) (expr_kinds a)
unfolding form_kinds hidden-the_row-Expr-0 shape-the_row-Expr-0 denote.Hole.Carrier.hidden
kinds-address a = refl

pub kinds-element : (a b : Expr)
    → form_kinds (Pick a b)
    ≡ Sign Signs.Ampersand ∷ raised 8 (form_level a.form) (expr_kinds a) ++ Sign Signs.LeftBracket ∷ expr_kinds b ++ Sign Signs.RightBracket ∷ []
unfolding form_kinds hidden-the_row-Expr-0 shape-the_row-Expr-0 denote.Hole.Carrier.hidden
kinds-element a b = refl

pub text-num : (n : ℤ) → texts (form_kinds (Num n)) ≡ texts (Number n ∷ [])
unfolding form_kinds
text-num n = refl

pub text-null : texts (form_kinds Null) ≡ codes "null "
unfolding form_kinds texts
text-null = refl

pub text-var : (x : Ident) → texts (form_kinds (Var x)) ≡ texts (Name x.text ∷ [])
unfolding form_kinds
text-var x = refl

pub text-own : texts (form_kinds Own) ≡ codes "self "
unfolding form_kinds texts
text-own = refl

pub text-unary : (op : UnaryOp) (a : Expr)
    → texts (form_kinds (Unary op a)) ≡ texts (Sign (prefix_sign op) ∷ []) ++ texts (raised 7 (form_level a.form) (expr_kinds a))
unfolding texts
text-unary op a = rw kinds-unary (simp append_assoc refl)

pub text-binary : (op : BinaryOp) (at : Span) (a b : Expr)
    → texts (form_kinds (Binary op at a b))
    ≡ texts (raised (level op) (form_level a.form) (expr_kinds a)) ++ texts (Sign (sign_of op) ∷ []) ++ texts (raised (level op + 1) (form_level b.form) (expr_kinds b))
unfolding texts
text-binary op at a b = rw kinds-binary (simp (texts-append, append_assoc) refl)

pub text-field : (a : Expr) (x : Ident)
    → texts (form_kinds (Field a x)) ≡ texts (raised 8 (form_level a.form) (expr_kinds a)) ++ codes "-> " ++ texts (Name x.text ∷ [])
unfolding texts
text-field a x = rw kinds-field (simp (texts-append, append_assoc) refl)

pub text-address : (a : Expr) → texts (form_kinds (Address a)) ≡ codes "& " ++ texts (raised 8 (form_level a.form) (expr_kinds a))
unfolding texts
text-address a = rw kinds-address refl

pub text-element : (a b : Expr)
    → texts (form_kinds (Pick a b)) ≡ codes "& " ++ texts (raised 8 (form_level a.form) (expr_kinds a)) ++ codes "[ " ++ texts (expr_kinds b) ++ codes "] "
unfolding texts
text-element a b =
    let row : List TokenKind = Sign Signs.Ampersand ∷ raised 8 (form_level a.form) (expr_kinds a) in
    let index : List TokenKind = Sign Signs.LeftBracket ∷ expr_kinds b in
    ap texts (kinds-element a b)
    ∙ (texts-append (row ++ index) (Sign Signs.RightBracket ∷ [])
    ∙ ap (λ t. t ++ codes "] ") (texts-append row index ∙ sym (append_assoc (texts row) (codes "[ ") (texts (expr_kinds b)))))

pub text-parens : (ks : List TokenKind) → texts (Sign Signs.LeftParenthesis ∷ ks ++ Sign Signs.RightParenthesis ∷ []) ≡ codes "( " ++ texts ks ++ codes ") "
unfolding texts
text-parens ks = simp (texts-append, append_assoc) refl

-- arguments
pub text-more : (e : Expr) (es : List Expr) → texts (more_kinds (e ∷ es)) ≡ codes ", " ++ texts (expr_kinds e) ++ texts (more_kinds es)
unfolding texts more_kinds
text-more e es = simp (texts-append, append_assoc) refl

pub text-arguments : (e : Expr) (es : List Expr) → texts (argument_kinds (e ∷ es)) ≡ texts (expr_kinds e) ++ texts (more_kinds es)
unfolding argument_kinds
text-arguments e es = texts-append (expr_kinds e) (more_kinds es)

pub arguments-end : (es : List Expr) → length es ≡ 0 → texts (argument_kinds es) ≡ []
unfolding texts argument_kinds
arguments-end [] h = refl
arguments-end (e ∷ es) h = absurd (omega (arith, h))

pub more-end : (es : List Expr) → length es ≡ 0 → texts (more_kinds es) ≡ []
unfolding texts more_kinds
more-end [] h = refl
more-end (e ∷ es) h = absurd (omega (arith, h))

-- types and values
pub text-int : texts (Reserved Words.Int ∷ []) ≡ codes "int "
unfolding texts
text-int = refl

pub text-pointer : (text : List ℕ) → texts (Reserved Words.Struct ∷ Name text ∷ Sign Signs.Star ∷ []) ≡ codes "struct " ++ texts (Name text ∷ []) ++ codes "* "
unfolding texts
text-pointer text = simp (texts-append, append_assoc) refl

pub text-mod_int : texts (Reserved Words.Mod ∷ Reserved Words.Int ∷ Sign Signs.Star ∷ []) ≡ codes "mod int * "
unfolding texts
text-mod_int = refl

pub text-mod_pointer : (text : List ℕ)
    → texts (Reserved Words.Mod ∷ Reserved Words.Struct ∷ Name text ∷ Sign Signs.Star ∷ []) ≡ codes "mod struct " ++ texts (Name text ∷ []) ++ codes "* "
unfolding texts
text-mod_pointer text = simp (texts-append, append_assoc) refl

pub text-cell_int : texts (Reserved Words.Mod ∷ Reserved Words.Int ∷ []) ≡ codes "mod int "
unfolding texts
text-cell_int = refl

pub text-cell_pointer : (text : List ℕ) → texts (Reserved Words.Mod ∷ Reserved Words.Struct ∷ Name text ∷ []) ≡ codes "mod struct " ++ texts (Name text ∷ [])
unfolding texts
text-cell_pointer text = refl

pub text-row_length : (n : ℕ) → texts (row_length_kinds n) ≡ codes "[ " ++ texts (Number (pos n) ∷ []) ++ codes "] "
unfolding texts
text-row_length n = simp (texts-append, append_assoc) refl

pub text-reading : (ks : List TokenKind)
    → texts (Reserved Words.Read ∷ Sign Signs.LeftParenthesis ∷ ks ++ Sign Signs.RightParenthesis ∷ []) ≡ codes "read ( " ++ texts ks ++ codes ") "
unfolding texts
text-reading ks = simp (texts-append, append_assoc) refl

pub text-allocation : (y x : List ℕ) (ks : List TokenKind)
    → texts (Reserved Words.Alloc ∷ Name y ∷ Name x ∷ Sign Signs.LeftParenthesis ∷ ks ++ Sign Signs.RightParenthesis ∷ [])
    ≡ codes "alloc " ++ texts (Name y ∷ []) ++ texts (Name x ∷ []) ++ codes "( " ++ texts ks ++ codes ") "
unfolding texts
text-allocation y x ks = simp (texts-append, append_assoc) refl

pub text-modref_int : texts (Reserved Words.Modref ∷ Reserved Words.Int ∷ Sign Signs.LeftParenthesis ∷ Sign Signs.RightParenthesis ∷ []) ≡ codes "modref int ( ) "
unfolding texts
text-modref_int = refl

pub text-modref : (y : List ℕ)
    → texts (Reserved Words.Modref ∷ Name y ∷ Sign Signs.LeftParenthesis ∷ Sign Signs.RightParenthesis ∷ []) ≡ codes "modref " ++ texts (Name y ∷ []) ++ codes "( ) "
unfolding texts
text-modref y = simp (texts-append, append_assoc) refl

-- statements: rows are lists
row-all : (ss : List Stmt) → row_kinds (hidden-the_row-Stmt-0 ss) ≡ stmts_kinds ss
unfolding stmt_kinds stmts_kinds hidden-the_row-Stmt-0 shape-the_row-Stmt-0 denote.Hole.Carrier.hidden
row-all [] = refl
row-all (s ∷ ss) = ap (λ t. stmt_kinds s ++ t) (row-all ss)

else-all : (ss : List Stmt) → else_kinds (hidden-the_row-Stmt-0 ss) ≡ second_kinds ss
unfolding stmt_kinds stmts_kinds hidden-the_row-Stmt-0 shape-the_row-Stmt-0 denote.Hole.Carrier.hidden
else-all [] = refl
else-all (s ∷ []) = refl
else-all (s ∷ t ∷ ss) = ap (λ u. after_else false (stmt_kinds s ++ (stmt_kinds t ++ u))) (row-all ss)

pub kinds-if : (at : Span) (e : Expr) (first second : List Stmt)
    → stmt_kinds (If at e first second)
    ≡ Reserved Words.If ∷ Sign Signs.LeftParenthesis ∷ expr_kinds e ++ Sign Signs.RightParenthesis ∷ braced (stmts_kinds first) ++ second_kinds second
unfolding stmt_kinds
kinds-if at e first second =
    ap₂ (λ t u. Reserved Words.If ∷ Sign Signs.LeftParenthesis ∷ expr_kinds e ++ Sign Signs.RightParenthesis ∷ braced t ++ u) (row-all first) (else-all second)

pub kinds-while : (at : Span) (e : Expr) (body : List Stmt)
    → stmt_kinds (While at e body)
    ≡ Reserved Words.While ∷ Sign Signs.LeftParenthesis ∷ expr_kinds e ++ Sign Signs.RightParenthesis ∷ braced (stmts_kinds body)
unfolding stmt_kinds
kinds-while at e body =
    ap (λ t. Reserved Words.While ∷ Sign Signs.LeftParenthesis ∷ expr_kinds e ++ Sign Signs.RightParenthesis ∷ braced t) (row-all body)

pub text-declare : (at : Span) (form : TypeForm) (x : Ident) (v : Value)
    → texts (stmt_kinds (Declare at form x v)) ≡ texts (type_kinds form) ++ texts (Name x.text ∷ []) ++ codes "= " ++ texts (value_kinds v) ++ codes ";\n"
unfolding texts stmt_kinds
text-declare at form x v = simp (texts-append, append_assoc) refl

pub text-assign : (x : Ident) (v : Value)
    → texts (stmt_kinds (Assign x v)) ≡ texts (Name x.text ∷ []) ++ codes "= " ++ texts (value_kinds v) ++ codes ";\n"
unfolding texts stmt_kinds
text-assign x v = simp (texts-append, append_assoc) refl

pub text-set : (at : Span) (p : Expr) (x : Ident) (e : Expr)
    → texts (stmt_kinds (SetField at p x e))
    ≡ texts (expr_kinds p) ++ codes "-> " ++ texts (Name x.text ∷ []) ++ codes "= " ++ texts (expr_kinds e) ++ codes ";\n"
unfolding texts stmt_kinds
text-set at p x e = simp (texts-append, append_assoc) refl

pub text-write : (at : Span) (a e : Expr)
    → texts (stmt_kinds (Write at a e)) ≡ codes "write ( " ++ texts (expr_kinds a) ++ codes ", " ++ texts (expr_kinds e) ++ codes ") ;\n"
unfolding texts stmt_kinds
text-write at a e =
    let first : List TokenKind = expr_kinds a in
    let second : List TokenKind = expr_kinds e in
    ap (λ t. codes "write ( " ++ t)
    (texts-append (first ++ Sign Signs.Comma ∷ second) (Sign Signs.RightParenthesis ∷ Sign Signs.Semicolon ∷ [])
    ∙ ap (λ t. t ++ codes ") ;\n") (texts-append first (Sign Signs.Comma ∷ second)))
    ∙ simp append_assoc refl

pub text-call : (x : Ident) (args : List Expr)
    → texts (stmt_kinds (Call x args)) ≡ texts (Name x.text ∷ []) ++ codes "( " ++ texts (argument_kinds args) ++ codes ") ;\n"
unfolding texts stmt_kinds
text-call x args = simp (texts-append, append_assoc) refl

pub text-if : (at : Span) (e : Expr) (first second : List Stmt)
    → texts (stmt_kinds (If at e first second))
    ≡ codes "if ( " ++ (texts (expr_kinds e) ++ (codes ") " ++ texts (braced (stmts_kinds first))) ++ texts (second_kinds second))
unfolding texts
text-if at e first second =
    let body : List TokenKind = braced (stmts_kinds first) in
    ap texts (kinds-if at e first second)
    ∙ ap (λ t. codes "if ( " ++ t)
    (texts-append (expr_kinds e ++ Sign Signs.RightParenthesis ∷ body) (second_kinds second)
    ∙ ap (λ t. t ++ texts (second_kinds second)) (texts-append (expr_kinds e) (Sign Signs.RightParenthesis ∷ body)))

pub text-while : (at : Span) (e : Expr) (body : List Stmt)
    → texts (stmt_kinds (While at e body)) ≡ codes "while ( " ++ texts (expr_kinds e) ++ codes ") " ++ texts (braced (stmts_kinds body))
unfolding texts
text-while at e body =
    ap texts (kinds-while at e body)
    ∙ ap (λ t. codes "while ( " ++ t) (texts-append (expr_kinds e) (Sign Signs.RightParenthesis ∷ braced (stmts_kinds body)))
    ∙ simp append_assoc refl

pub text-return : (at : Span) → texts (stmt_kinds (Return at)) ≡ codes "return ;\n"
unfolding texts stmt_kinds
text-return at = refl

pub text-break : (at : Span) → texts (stmt_kinds (Break at)) ≡ codes "break ;\n"
unfolding texts stmt_kinds
text-break at = refl

pub text-continue : (at : Span) → texts (stmt_kinds (Continue at)) ≡ codes "continue ;\n"
unfolding texts stmt_kinds
text-continue at = refl

pub text-block : (ks : List TokenKind) → texts (Sign Signs.LeftBrace ∷ ks ++ Sign Signs.RightBrace ∷ []) ≡ codes "{\n" ++ texts ks ++ codes "}\n"
unfolding texts
text-block ks = simp (texts-append, append_assoc) refl

pub text-else : (ks : List TokenKind) → texts (Reserved Words.Else ∷ ks) ≡ codes "else " ++ texts ks
unfolding texts
text-else ks = refl

pub text-none : texts (stmts_kinds []) ≡ []
unfolding texts stmts_kinds
text-none = refl

pub text-push : (ss : List Stmt) (s : Stmt) → texts (stmts_kinds (ss ++ s ∷ [])) ≡ texts (stmts_kinds ss) ++ texts (stmt_kinds s)
unfolding texts stmts_kinds
text-push [] s = texts-append (stmt_kinds s) [] ∙ append-nil (texts (stmt_kinds s))
text-push (t ∷ ss) s =
    texts-append (stmt_kinds t) (stmts_kinds (ss ++ s ∷ []))
    ∙ ap (λ u. texts (stmt_kinds t) ++ u) (text-push ss s)
    ∙ sym (append_assoc (texts (stmt_kinds t)) (texts (stmts_kinds ss)) (texts (stmt_kinds s)))
    ∙ ap (λ u. u ++ texts (stmt_kinds s)) (sym (texts-append (stmt_kinds t) (stmts_kinds ss)))

pub text-take : (ss : List Stmt) (i : ℕ) (d : Stmt) → i < length ss
    → texts (stmts_kinds (take (i + 1) ss)) ≡ texts (stmts_kinds (take i ss)) ++ texts (stmt_kinds (get_or ss i d))
text-take ss i d h = ap (λ u. texts (stmts_kinds u)) (take_more ss i d h) ∙ text-push (take i ss) (get_or ss i d)

-- fields, structs and functions
pub text-field_kinds : (f : FieldDecl) → texts (field_kinds f) ≡ texts (type_kinds f.form) ++ texts (Name f.name.text ∷ [])
unfolding field_kinds
text-field_kinds f = texts-append (type_kinds f.form) (Name f.name.text ∷ [])

pub text-parameters : (f : FieldDecl) (fs : List FieldDecl) → texts (parameter_kinds (f ∷ fs)) ≡ texts (field_kinds f) ++ texts (other_kinds fs)
unfolding parameter_kinds
text-parameters f fs = texts-append (field_kinds f) (other_kinds fs)

pub parameters-end : (fs : List FieldDecl) → length fs ≡ 0 → texts (parameter_kinds fs) ≡ []
unfolding texts parameter_kinds
parameters-end [] h = refl
parameters-end (f ∷ fs) h = absurd (omega (arith, h))

pub text-other : (f : FieldDecl) (fs : List FieldDecl) → texts (other_kinds (f ∷ fs)) ≡ codes ", " ++ texts (field_kinds f) ++ texts (other_kinds fs)
unfolding texts other_kinds
text-other f fs = simp (texts-append, append_assoc) refl

pub other-end : (fs : List FieldDecl) → length fs ≡ 0 → texts (other_kinds fs) ≡ []
unfolding texts other_kinds
other-end [] h = refl
other-end (f ∷ fs) h = absurd (omega (arith, h))

pub text-member : (f : FieldDecl) (fs : List FieldDecl)
    → texts (member_kinds (f ∷ fs)) ≡ texts (field_kinds f) ++ texts (size_kinds f.form) ++ codes ";\n" ++ texts (member_kinds fs)
unfolding texts member_kinds
text-member f fs =
    let front : List TokenKind = field_kinds f ++ size_kinds f.form in
    texts-append front (Sign Signs.Semicolon ∷ member_kinds fs)
    ∙ (ap (λ t. t ++ (codes ";\n" ++ texts (member_kinds fs))) (texts-append (field_kinds f) (size_kinds f.form))
    ∙ sym (append_assoc (texts (field_kinds f) ++ texts (size_kinds f.form)) (codes ";\n") (texts (member_kinds fs))))

pub member-end : (fs : List FieldDecl) → length fs ≡ 0 → texts (member_kinds fs) ≡ []
unfolding texts member_kinds
member-end [] h = refl
member-end (f ∷ fs) h = absurd (omega (arith, h))

pub text-core : (x : List ℕ) (ks : List TokenKind)
    → texts (Reserved Words.Ceal ∷ Name x ∷ Sign Signs.LeftParenthesis ∷ ks) ≡ codes "ceal " ++ texts (Name x ∷ []) ++ codes "( " ++ texts ks
unfolding texts
text-core x ks = simp (texts-append, append_assoc) refl

pub text-init : (x y : List ℕ) (ks : List TokenKind)
    → texts (Reserved Words.Init ∷ Name x ∷ Sign Signs.LeftParenthesis ∷ Reserved Words.Struct ∷ Name y ∷ Sign Signs.Star ∷ Reserved Words.Own ∷ ks)
    ≡ codes "init " ++ texts (Name x ∷ []) ++ codes "( struct " ++ texts (Name y ∷ []) ++ codes "* self " ++ texts ks
unfolding texts
text-init x y ks = simp (texts-append, append_assoc) refl

pub text-struct : (x : List ℕ) (ks : List TokenKind)
    → texts (Reserved Words.Struct ∷ Name x ∷ braced ks ++ Sign Signs.Semicolon ∷ []) ≡ codes "struct " ++ texts (Name x ∷ []) ++ codes "{\n" ++ texts ks ++ codes "}\n;\n"
unfolding texts
text-struct x ks = simp (texts-append, append_assoc) refl

pub text-function : (ks ls : List TokenKind)
    → texts (ks ++ Sign Signs.RightParenthesis ∷ braced ls) ≡ texts ks ++ codes ") " ++ texts (braced ls)
unfolding texts
text-function ks ls = simp (texts-append, append_assoc) refl

pub text-entry : (e : Entry) (es : List Entry) → texts (entries_kinds (e ∷ es)) ≡ texts (entry_kinds e) ++ texts (entries_kinds es)
unfolding texts entries_kinds
text-entry e es = simp (texts-append, append_assoc) refl

pub entry-end : (es : List Entry) → length es ≡ 0 → texts (entries_kinds es) ≡ []
unfolding texts entries_kinds
entry-end [] h = refl
entry-end (e ∷ es) h = absurd (omega (arith, h))

pub ruleset kind_steps = (text-name, text-number, text-row_length, append_assoc)

pub ruleset sign_steps = (text-sign, append_assoc)

pub ruleset expr_steps = (text-num, text-null, text-var, text-own, text-unary, text-binary, text-field, text-address, text-element, text-parens, append_assoc)

pub ruleset list_steps = (text-more, more-end, text-arguments, arguments-end, append_assoc, append-nil)

pub ruleset type_steps = (text-int, text-pointer, text-mod_int, text-mod_pointer, text-cell_int, text-cell_pointer, append_assoc)

pub ruleset size_steps = (texts-nil, append_assoc, append-nil)

pub ruleset value_steps = (text-reading, text-allocation, text-modref_int, text-modref, append_assoc)

pub ruleset stmt_steps = (text-declare, text-assign, text-set, text-write, text-call, text-if, text-while, text-return, text-break, text-continue, append_assoc)

pub ruleset stmts_steps = (text-none, text-take, append_assoc, append-nil)

pub ruleset block_steps = (text-block, text-else, texts-nil, append_assoc, append-nil)

pub ruleset field_steps = (text-field_kinds, append_assoc)

pub ruleset other_steps = (text-other, other-end, text-parameters, parameters-end, append_assoc, append-nil)

pub ruleset member_steps = (text-member, member-end, append_assoc, append-nil)

pub ruleset entry_steps = (text-core, text-init, text-struct, text-function, text-entry, entry-end, append_assoc, append-nil)
