-- The tokens of each derivation without their marks.
use Rattle.std.proofs.Common.{◌≡◌, ℕ, suc, pos, List, [], ◌∷◌, refl, ap, ◌∙◌}
use Rattle.ceal_base.specs.declared.fault.Span.{Span}
use Rattle.ceal_base.specs.declared.syntax.Ident.{Ident}
use Rattle.ceal_lex.specs.declared.token.Reserved.TheVariants as Words
use Rattle.ceal_lex.specs.declared.token.Sign.TheVariants as Signs
use Rattle.ceal_lex.specs.declared.token.Token.{Token}
use Rattle.ceal_lex.specs.declared.token.TokenKind.{TokenKind}
use Rattle.ceal_lex.specs.declared.token.TokenKind.TheVariants.{Name, Number, Reserved, Sign, End}
use Rattle.ceal_grammar.specs.Grammar.{Phrase, number, null, variable, own, parens, arrow, prefix, address, element}
use Rattle.ceal_grammar.specs.Grammar.{binary, Written, int, pointer, mod_int, mod_pointer, cell_int, cell_pointer}
use Rattle.ceal_grammar.specs.Grammar.{Arguments, no_arguments, arguments, Given, plainly, reading, allocation}
use Rattle.ceal_grammar.specs.Grammar.{modref_int, modref, Statement, declare, assign, set, store, call, branch, loop}
use Rattle.ceal_grammar.specs.Grammar.{exit, break, continue, Branch, when, Otherwise, nothing, otherwise, chained}
use Rattle.ceal_grammar.specs.Grammar.{Block, block, Statements, ended, followed, Parameter, Parameters, no_parameters}
use Rattle.ceal_grammar.specs.Grammar.{parameters, Signature, core, init, Size, single, row, Member, Part, structure}
use Rattle.ceal_grammar.specs.Grammar.{function, Program}
use Rattle.ceal_grammar.specs.Spelled.{Mark, mark, plain, sign_of, prefix_sign, after, spelled, spelled_type}
use Rattle.ceal_grammar.specs.Spelled.{spelled_more, spelled_arguments, spelled_given, spelled_statement}
use Rattle.ceal_grammar.specs.Spelled.{spelled_branch, spelled_otherwise, spelled_block, spelled_statements}
use Rattle.ceal_grammar.specs.Spelled.{spelled_others, spelled_parameters, spelled_signature, fields_up_to, spelled_size}
use Rattle.ceal_grammar.specs.Spelled.{spelled_members, spelled_part, spelled_parts, spelled_program, tokens_of}

abbrev pub word : TokenKind → Span → Token
word k s = record { kind = k; span = s }

abbrev pub named : Ident → Token
named x = word (Name x.text) x.span

unfoldable pub phrase : Phrase → List Token → List Token
phrase (number v s) u = word (Number v) s ∷ u
phrase (null s) u = word (Reserved Words.Null) s ∷ u
phrase (variable x) u = named x ∷ u
phrase (own s) u = word (Reserved Words.Own) s ∷ u
phrase (parens l a r) u = word (Sign Signs.LeftParenthesis) l ∷ phrase a (word (Sign Signs.RightParenthesis) r ∷ u)
phrase (arrow a s x) u = phrase a (word (Sign Signs.Arrow) s ∷ named x ∷ u)
phrase (prefix op s a) u = word (Sign (prefix_sign op)) s ∷ phrase a u
phrase (address s a) u = word (Sign Signs.Ampersand) s ∷ phrase a u
phrase (element s a l b r) u =
    word (Sign Signs.Ampersand) s ∷ phrase a (word (Sign Signs.LeftBracket) l ∷ phrase b (word (Sign Signs.RightBracket) r ∷ u))
phrase (binary op a s b) u = phrase a (word (Sign (sign_of op)) s ∷ phrase b u)

abbrev pub type_words : Written → List Token → List Token
type_words (int s) u = word (Reserved Words.Int) s ∷ u
type_words (pointer s x t) u = word (Reserved Words.Struct) s ∷ named x ∷ word (Sign Signs.Star) t ∷ u
type_words (mod_int s k t) u = word (Reserved Words.Mod) s ∷ word (Reserved Words.Int) k ∷ word (Sign Signs.Star) t ∷ u
type_words (mod_pointer s k x t) u = word (Reserved Words.Mod) s ∷ word (Reserved Words.Struct) k ∷ named x ∷ word (Sign Signs.Star) t ∷ u
type_words (cell_int s k) u = word (Reserved Words.Mod) s ∷ word (Reserved Words.Int) k ∷ u
type_words (cell_pointer s k x) u = word (Reserved Words.Mod) s ∷ word (Reserved Words.Struct) k ∷ named x ∷ u

unfoldable pub items : List (Span × Phrase) → List Token → List Token
items [] u = u
items (a ∷ more) u = word (Sign Signs.Comma) a.0 ∷ phrase a.1 (items more u)

abbrev pub argument_words : Arguments → List Token → List Token
argument_words no_arguments u = u
argument_words (arguments e more) u = phrase e (items more u)

abbrev pub given_words : Given → List Token → List Token
given_words (plainly e) u = phrase e u
given_words (reading s l e r) u = word (Reserved Words.Read) s ∷ word (Sign Signs.LeftParenthesis) l ∷ phrase e (word (Sign Signs.RightParenthesis) r ∷ u)
given_words (allocation s y x l args r) u =
    word (Reserved Words.Alloc) s ∷ named y ∷ named x ∷ word (Sign Signs.LeftParenthesis) l ∷ argument_words args (word (Sign Signs.RightParenthesis) r ∷ u)
given_words (modref_int s k l r) u =
    word (Reserved Words.Modref) s ∷ word (Reserved Words.Int) k ∷ word (Sign Signs.LeftParenthesis) l ∷ word (Sign Signs.RightParenthesis) r ∷ u
given_words (modref s y l r) u = word (Reserved Words.Modref) s ∷ named y ∷ word (Sign Signs.LeftParenthesis) l ∷ word (Sign Signs.RightParenthesis) r ∷ u

unfoldable mutual
  pub statement : Statement → List Token → List Token
  statement (declare w x q g semi) u = type_words w (named x ∷ word (Sign Signs.Equals) q ∷ given_words g (word (Sign Signs.Semicolon) semi ∷ u))
  statement (assign x q g semi) u = named x ∷ word (Sign Signs.Equals) q ∷ given_words g (word (Sign Signs.Semicolon) semi ∷ u)
  statement (set p s x q e semi) u =
      phrase p (word (Sign Signs.Arrow) s ∷ named x ∷ word (Sign Signs.Equals) q ∷ phrase e (word (Sign Signs.Semicolon) semi ∷ u))
  statement (store s l a c e r semi) u =
      word (Reserved Words.Write) s ∷ word (Sign Signs.LeftParenthesis) l
      ∷ phrase a (word (Sign Signs.Comma) c ∷ phrase e (word (Sign Signs.RightParenthesis) r ∷ word (Sign Signs.Semicolon) semi ∷ u))
  statement (call x l args r semi) u =
      named x ∷ word (Sign Signs.LeftParenthesis) l ∷ argument_words args (word (Sign Signs.RightParenthesis) r ∷ word (Sign Signs.Semicolon) semi ∷ u)
  statement (branch b) u = branch_words b u
  statement (loop s l e r b) u =
      word (Reserved Words.While) s ∷ word (Sign Signs.LeftParenthesis) l ∷ phrase e (word (Sign Signs.RightParenthesis) r ∷ block_words b u)
  statement (exit s semi) u = word (Reserved Words.Return) s ∷ word (Sign Signs.Semicolon) semi ∷ u
  statement (break s semi) u = word (Reserved Words.Break) s ∷ word (Sign Signs.Semicolon) semi ∷ u
  statement (continue s semi) u = word (Reserved Words.Continue) s ∷ word (Sign Signs.Semicolon) semi ∷ u

  pub branch_words : Branch → List Token → List Token
  branch_words (when s l e r b other) u =
      word (Reserved Words.If) s ∷ word (Sign Signs.LeftParenthesis) l ∷ phrase e (word (Sign Signs.RightParenthesis) r ∷ block_words b (other_words other u))

  pub other_words : Otherwise → List Token → List Token
  other_words nothing u = u
  other_words (otherwise s b) u = word (Reserved Words.Else) s ∷ block_words b u
  other_words (chained s b) u = word (Reserved Words.Else) s ∷ branch_words b u

  pub block_words : Block → List Token → List Token
  block_words (block l ss r) u = word (Sign Signs.LeftBrace) l ∷ statement_words ss (word (Sign Signs.RightBrace) r ∷ u)

  pub statement_words : Statements → List Token → List Token
  statement_words ended u = u
  statement_words (followed s ss) u = statement s (statement_words ss u)

abbrev pub parameter_words : Parameter → List Token → List Token
parameter_words p u = type_words p.type (named p.x ∷ u)

unfoldable pub others : List (Span × Parameter) → List Token → List Token
others [] u = u
others (p ∷ more) u = word (Sign Signs.Comma) p.0 ∷ parameter_words p.1 (others more u)

abbrev pub parameters_words : Parameters → List Token → List Token
parameters_words no_parameters u = u
parameters_words (parameters p more) u = parameter_words p (others more u)

abbrev pub signature_words : Signature → List Token → List Token
signature_words (core s x l ps r) u =
    word (Reserved Words.Ceal) s ∷ named x ∷ word (Sign Signs.LeftParenthesis) l ∷ parameters_words ps (word (Sign Signs.RightParenthesis) r ∷ u)
signature_words (init s x l k y t o more r) u =
    word (Reserved Words.Init) s ∷ named x ∷ word (Sign Signs.LeftParenthesis) l ∷ word (Reserved Words.Struct) k ∷ named y ∷ word (Sign Signs.Star) t
    ∷ word (Reserved Words.Own) o ∷ others more (word (Sign Signs.RightParenthesis) r ∷ u)

abbrev pub size_words : Size → List Token → List Token
size_words single u = u
size_words (row l n s r) u = word (Sign Signs.LeftBracket) l ∷ word (Number (pos n)) s ∷ word (Sign Signs.RightBracket) r ∷ u

unfoldable pub member_words : List Member → List Token → List Token
member_words [] u = u
member_words (m ∷ ms) u = type_words m.type (named m.x ∷ size_words m.size (word (Sign Signs.Semicolon) m.semi ∷ member_words ms u))

abbrev pub part_words : Part → List Token → List Token
part_words (structure s x l ms r semi) u =
    word (Reserved Words.Struct) s ∷ named x ∷ word (Sign Signs.LeftBrace) l ∷ member_words ms (word (Sign Signs.RightBrace) r ∷ word (Sign Signs.Semicolon) semi ∷ u)
part_words (function h b) u = signature_words h (block_words b u)

unfoldable pub parts_words : List Part → List Token → List Token
parts_words [] u = u
parts_words (p ∷ ps) u = part_words p (parts_words ps u)

-- Without their marks the spelled tokens are these.
pub bare_phrase : (d i n : ℕ) (c : Phrase) (rest : List Mark) → tokens_of (spelled d i n c rest) ≡ phrase c (tokens_of rest)
unfolding tokens_of spelled phrase
bare_phrase d i n (number v s) rest = refl
bare_phrase d i n (null s) rest = refl
bare_phrase d i n (variable x) rest = refl
bare_phrase d i n (own s) rest = refl
bare_phrase d i n (parens l a r) rest =
    ap (λ u. word (Sign Signs.LeftParenthesis) l ∷ u) (bare_phrase (suc d) 0 n a (mark d 0 (after a n) (Sign Signs.RightParenthesis) r ∷ rest))
bare_phrase d i n (arrow a s x) rest =
    bare_phrase d i n a (mark d 0 (suc (after a n)) (Sign Signs.Arrow) s ∷ mark d 0 (suc (after a n)) (Name x.text) x.span ∷ rest)
bare_phrase d i n (prefix op s a) rest = ap (λ u. word (Sign (prefix_sign op)) s ∷ u) (bare_phrase d 0 (suc n) a rest)
bare_phrase d i n (address s a) rest = ap (λ u. word (Sign Signs.Ampersand) s ∷ u) (bare_phrase d 0 (suc n) a rest)
bare_phrase d i n (element s a l b r) rest =
    ap (λ u. word (Sign Signs.Ampersand) s ∷ u)
    (bare_phrase d 0 (suc n) a (mark (suc d) 0 (suc (after a (suc n))) (Sign Signs.LeftBracket) l
    ∷ spelled (suc d) 0 (suc (after a (suc n))) b (mark d 0 (after b (suc (after a (suc n)))) (Sign Signs.RightBracket) r ∷ rest))
    ∙ ap (λ u. phrase a (word (Sign Signs.LeftBracket) l ∷ u))
    (bare_phrase (suc d) 0 (suc (after a (suc n))) b (mark d 0 (after b (suc (after a (suc n)))) (Sign Signs.RightBracket) r ∷ rest)))
bare_phrase d i n (binary op a s b) rest =
    bare_phrase d i n a (mark d 0 (suc (after a n)) (Sign (sign_of op)) s ∷ spelled d 0 (suc (after a n)) b rest)
    ∙ ap (λ u. phrase a (word (Sign (sign_of op)) s ∷ u)) (bare_phrase d 0 (suc (after a n)) b rest)

pub bare_type : (d i : ℕ) (w : Written) (rest : List Mark) → tokens_of (spelled_type d i w rest) ≡ type_words w (tokens_of rest)
unfolding tokens_of
bare_type d i (int s) rest = refl
bare_type d i (pointer s x t) rest = refl
bare_type d i (mod_int s k t) rest = refl
bare_type d i (mod_pointer s k x t) rest = refl
bare_type d i (cell_int s k) rest = refl
bare_type d i (cell_pointer s k x) rest = refl

pub bare_more : (d i : ℕ) (l : List (Span × Phrase)) (rest : List Mark) → tokens_of (spelled_more d i l rest) ≡ items l (tokens_of rest)
unfolding tokens_of spelled_more items
bare_more d i [] rest = refl
bare_more d i (a ∷ l) rest = rw (bare_phrase, bare_more d (suc i) l rest)

pub bare_arguments : (d : ℕ) (args : Arguments) (rest : List Mark) → tokens_of (spelled_arguments d args rest) ≡ argument_words args (tokens_of rest)
bare_arguments d no_arguments rest = refl
bare_arguments d (arguments e l) rest = rw (bare_phrase, bare_more)

pub bare_given : (d : ℕ) (g : Given) (rest : List Mark) → tokens_of (spelled_given d g rest) ≡ given_words g (tokens_of rest)
unfolding tokens_of
bare_given d (plainly e) rest = rw bare_phrase
bare_given d (reading s l e r) rest = rw bare_phrase
bare_given d (allocation s y x l args r) rest = rw bare_arguments
bare_given d (modref_int s k l r) rest = refl
bare_given d (modref s y l r) rest = refl

mutual
  unfolding tokens_of spelled_statement statement

  pub bare_statement : (s : Statement) (d : ℕ) (rest : List Mark) → tokens_of (spelled_statement d s rest) ≡ statement s (tokens_of rest)
  bare_statement (declare w x q g semi) d rest = rw (bare_type, bare_given)
  bare_statement (assign x q g semi) d rest = rw bare_given
  bare_statement (set p s x q e semi) d rest = rw (bare_phrase, bare_phrase)
  bare_statement (store s l a c e r semi) d rest = rw (bare_phrase, bare_phrase)
  bare_statement (call x l args r semi) d rest = rw bare_arguments
  bare_statement (branch b) d rest = bare_branch b d rest
  bare_statement (loop s l e r b) d rest = rw (bare_phrase, bare_block b d rest)
  bare_statement (exit s semi) d rest = refl
  bare_statement (break s semi) d rest = refl
  bare_statement (continue s semi) d rest = refl

  pub bare_branch : (b : Branch) (d : ℕ) (rest : List Mark) → tokens_of (spelled_branch d b rest) ≡ branch_words b (tokens_of rest)
  bare_branch (when s l e r b other) d rest = rw (bare_phrase, bare_block b d (spelled_otherwise d other rest), bare_other other d rest)

  pub bare_other : (o : Otherwise) (d : ℕ) (rest : List Mark) → tokens_of (spelled_otherwise d o rest) ≡ other_words o (tokens_of rest)
  bare_other nothing d rest = refl
  bare_other (otherwise s b) d rest = rw (bare_block b d rest)
  bare_other (chained s b) d rest = rw (bare_branch b (suc d) rest)

  pub bare_block : (b : Block) (d : ℕ) (rest : List Mark) → tokens_of (spelled_block d b rest) ≡ block_words b (tokens_of rest)
  bare_block (block l ss r) d rest = rw (bare_statements ss (suc d) (plain d (Sign Signs.RightBrace) r ∷ rest))

  pub bare_statements : (ss : Statements) (d : ℕ) (rest : List Mark) → tokens_of (spelled_statements d ss rest) ≡ statement_words ss (tokens_of rest)
  bare_statements ended d rest = refl
  bare_statements (followed s ss) d rest = rw (bare_statement s d (spelled_statements d ss rest), bare_statements ss d rest)

pub bare_others : (i : ℕ) (l : List (Span × Parameter)) (rest : List Mark) → tokens_of (spelled_others i l rest) ≡ others l (tokens_of rest)
unfolding tokens_of spelled_others others
bare_others i [] rest = refl
bare_others i (p ∷ l) rest = rw (bare_type, bare_others (suc i) l rest)

pub bare_parameters : (ps : Parameters) (rest : List Mark) → tokens_of (spelled_parameters ps rest) ≡ parameters_words ps (tokens_of rest)
unfolding tokens_of
bare_parameters no_parameters rest = refl
bare_parameters (parameters p l) rest = rw (bare_type, bare_others)

pub bare_signature : (h : Signature) (rest : List Mark) → tokens_of (spelled_signature h rest) ≡ signature_words h (tokens_of rest)
unfolding tokens_of
bare_signature (core s x l ps r) rest = rw bare_parameters
bare_signature (init s x l k y t o more r) rest = rw bare_others

bare_size : (c : ℕ) (z : Size) (rest : List Mark) → tokens_of (spelled_size c z rest) ≡ size_words z (tokens_of rest)
unfolding tokens_of
bare_size c single rest = refl
bare_size c (row l n s r) rest = refl

pub bare_members : (c : ℕ) (ms : List Member) (rest : List Mark) → tokens_of (spelled_members c ms rest) ≡ member_words ms (tokens_of rest)
unfolding tokens_of spelled_members member_words
bare_members c [] rest = refl
bare_members c (m ∷ ms) rest = rw (bare_type, bare_size, bare_members (fields_up_to c m.size) ms rest)

pub bare_part : (p : Part) (rest : List Mark) → tokens_of (spelled_part p rest) ≡ part_words p (tokens_of rest)
unfolding tokens_of
bare_part (structure s x l ms r semi) rest = rw bare_members
bare_part (function h b) rest = rw (bare_signature, bare_block b 0 rest)

pub bare_parts : (ps : List Part) (rest : List Mark) → tokens_of (spelled_parts ps rest) ≡ parts_words ps (tokens_of rest)
unfolding tokens_of spelled_parts parts_words
bare_parts [] rest = refl
bare_parts (p ∷ ps) rest = rw (bare_part p (spelled_parts ps rest), bare_parts ps rest)

pub bare_program : (p : Program) → tokens_of (spelled_program p) ≡ parts_words p.parts (word End p.last ∷ [])
unfolding tokens_of
bare_program p = bare_parts p.parts (plain 0 End p.last ∷ [])
