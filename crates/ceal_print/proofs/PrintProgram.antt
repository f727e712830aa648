-- Each program is printed as its own derivation, with the same tree apart from spans.
use Rattle.std.proofs.Common.{◌≡◌, ℕ, suc, pos, false, Some, None, List, [], ◌∷◌, ◌++◌, refl, ap, sym, ◌∙◌, append_assoc}
use Rattle.ceal_base.specs.declared.fault.Span.{Span}
use Rattle.ceal_base.specs.declared.syntax.Entry.TheVariants.{Struct, Function}
use Rattle.ceal_base.specs.declared.syntax.TypeForm.{TypeForm}
use Rattle.ceal_base.specs.declared.syntax.TypeForm.TheVariants as Forms
use Rattle.ceal_lex.specs.declared.token.Reserved.TheVariants as Words
use Rattle.ceal_lex.specs.declared.token.Sign.TheVariants as Signs
use Rattle.ceal_lex.specs.declared.token.TokenKind.{TokenKind}
use Rattle.ceal_lex.specs.declared.token.TokenKind.TheVariants.{Name, Number, Reserved, Sign, End}
use Rattle.ceal_grammar.specs.Grammar.{Written, int, pointer, mod_int, mod_pointer, cell_int, cell_pointer, Allowed}
use Rattle.ceal_grammar.specs.Grammar.{Parameter, Parameters, no_parameters, parameters, core, init, Size, single, row}
use Rattle.ceal_grammar.specs.Grammar.{Member, Part, structure, function, Program, MoreProper, ParametersProper, IsCell}
use Rattle.ceal_grammar.specs.Grammar.{SizeProper, MembersProper, PartProper, PartsProper}
use Rattle.ceal_print.specs.Print.{nowhere, bare_name, bare_type, bare_field, bare_fields, bare_entry, bare_entries, bare_tree}
use Rattle.ceal_print.specs.PrintWords.{type_kinds, row_length_kinds, size_kinds, braced, stmts_kinds, field_kinds, other_kinds, parameter_kinds, member_kinds, entry_kinds, entries_kinds, tree_kinds}
use Rattle.ceal_grammar.specs.Spelled.{Mark, spelled_parameter, spelled_others, spelled_parameters, fields_up_to, spelled_size, spelled_members, spelled_part, spelled_parts, spelled_program}
use Rattle.ceal_grammar.specs.Spelled.{tokens_of}
use Rattle.ceal_grammar.specs.Trees.{type_form, sized_form, parameter_tree, other_trees, parameter_trees, member_trees, block_trees, part_tree, part_trees, program_tree}
use Rattle.ceal_print.proofs.PrintMarks.{Thinner, same, the_end}
use Rattle.ceal_print.proofs.PrintPhrase.{spanned, placed}
use Rattle.ceal_print.proofs.PrintStatement.{next, printed_type, printed_block}
use Rattle.ceal_grammar.proofs.Words.{type_words, parameter_words, others, parameters_words, size_words, member_words, part_words, parts_words, bare_program}

pub record PrintedParameter (σ : List TokenKind → Span) (old : Parameter) (ks : List TokenKind) : Type 0 where
  pub made : Parameter
  pub words : parameter_words made (spanned σ ks) ≡ spanned σ (field_kinds (parameter_tree old) ++ ks)
  pub allowed : Allowed false old.type → Allowed false made.type
  pub bare : bare_field (parameter_tree made) ≡ bare_field (parameter_tree old)
  pub thinner : (i : ℕ) (ms ns : List Mark) → Thinner 0 ms ns → Thinner 0 (spelled_parameter i made ms) (spelled_parameter i old ns)

pub record PrintedOthers (σ : List TokenKind → Span) (old : List (Span × Parameter)) (ks : List TokenKind) : Type 0 where
  pub made : List (Span × Parameter)
  pub words : others made (spanned σ ks) ≡ spanned σ (other_kinds (other_trees old) ++ ks)
  pub proper : MoreProper made
  pub bare : bare_fields (other_trees made) ≡ bare_fields (other_trees old)
  pub thinner : (i : ℕ) (ms ns : List Mark) → Thinner 0 ms ns → Thinner 0 (spelled_others i made ms) (spelled_others i old ns)

pub record PrintedParameters (σ : List TokenKind → Span) (old : Parameters) (ks : List TokenKind) : Type 0 where
  pub made : Parameters
  pub words : parameters_words made (spanned σ ks) ≡ spanned σ (parameter_kinds (parameter_trees old) ++ ks)
  pub proper : ParametersProper made
  pub bare : bare_fields (parameter_trees made) ≡ bare_fields (parameter_trees old)
  pub thinner : (ms ns : List Mark) → Thinner 0 ms ns → Thinner 0 (spelled_parameters made ms) (spelled_parameters old ns)

-- what follows the name of a member
abbrev pub size_tokens : Size → List TokenKind
size_tokens single = []
size_tokens (row l n s r) = row_length_kinds n

pub record PrintedSize (σ : List TokenKind → Span) (old : Size) (ks : List TokenKind) : Type 0 where
  pub made : Size
  pub words : size_words made (spanned σ ks) ≡ spanned σ (size_tokens old ++ ks)
  pub proper : (w : Written) → SizeProper w old → SizeProper w made
  pub form : (f : TypeForm) → sized_form f made ≡ sized_form f old
  pub count : (c : ℕ) → fields_up_to c made ≡ fields_up_to c old
  pub thinner : (c : ℕ) (ms ns : List Mark) → Thinner 0 ms ns → Thinner 0 (spelled_size c made ms) (spelled_size c old ns)

pub record PrintedMembers (σ : List TokenKind → Span) (old : List Member) (ks : List TokenKind) : Type 0 where
  pub made : List Member
  pub words : member_words made (spanned σ ks) ≡ spanned σ (member_kinds (member_trees old) ++ ks)
  pub proper : MembersProper made
  pub bare : bare_fields (member_trees made) ≡ bare_fields (member_trees old)
  pub thinner : (i : ℕ) (ms ns : List Mark) → Thinner 0 ms ns → Thinner 0 (spelled_members i made ms) (spelled_members i old ns)

pub record PrintedPart (σ : List TokenKind → Span) (old : Part) (ks : List TokenKind) : Type 0 where
  pub made : Part
  pub words : part_words made (spanned σ ks) ≡ spanned σ (entry_kinds (part_tree old) ++ ks)
  pub proper : PartProper made
  pub bare : bare_entry (part_tree made) ≡ bare_entry (part_tree old)
  pub thinner : (ms ns : List Mark) → Thinner 0 ms ns → Thinner 0 (spelled_part made ms) (spelled_part old ns)

pub record PrintedParts (σ : List TokenKind → Span) (old : List Part) (ks : List TokenKind) : Type 0 where
  pub made : List Part
  pub words : parts_words made (spanned σ ks) ≡ spanned σ (entries_kinds (part_trees old) ++ ks)
  pub proper : PartsProper made
  pub bare : bare_entries (part_trees made) ≡ bare_entries (part_trees old)
  pub thinner : (ms ns : List Mark) → Thinner 0 ms ns → Thinner 0 (spelled_parts made ms) (spelled_parts old ns)

-- What a program is printed as.
pub record PrintedProgram (σ : List TokenKind → Span) (old : Program) : Type 0 where
  pub made : Program
  pub words : tokens_of (spelled_program made) ≡ spanned σ (tree_kinds (program_tree old) ++ End ∷ [])
  pub proper : PartsProper made.parts
  pub bare : bare_tree (program_tree made) ≡ bare_tree (program_tree old)
  pub thinner : Thinner 0 (spelled_program made) (spelled_program old)

-- Rows of modifiables: their types, and their lengths.
row_type_kinds : (w : Written) (z : Size) → type_kinds (sized_form (type_form w) z) ≡ type_kinds (type_form w)
row_type_kinds w single = refl
row_type_kinds (int s) (row l n at r) = refl
row_type_kinds (pointer s x t) (row l n at r) = refl
row_type_kinds (mod_int s k t) (row l n at r) = refl
row_type_kinds (mod_pointer s k x t) (row l n at r) = refl
row_type_kinds (cell_int s k) (row l n at r) = refl
row_type_kinds (cell_pointer s k x) (row l n at r) = refl

row_size_kinds : (w : Written) (z : Size) → SizeProper w z → size_kinds (sized_form (type_form w) z) ≡ size_tokens z
row_size_kinds (int s) single h = refl
row_size_kinds (pointer s x t) single h = refl
row_size_kinds (mod_int s k t) single h = refl
row_size_kinds (mod_pointer s k x t) single h = refl
row_size_kinds (cell_int s k) single h = refl
row_size_kinds (cell_pointer s k x) single h = refl
row_size_kinds (cell_int s k) (row l n at r) h = refl
row_size_kinds (cell_pointer s k x) (row l n at r) h = refl
row_size_kinds (int s) (row l n at r) h = absurd h.0
row_size_kinds (pointer s x t) (row l n at r) h = absurd h.0
row_size_kinds (mod_int s k t) (row l n at r) h = absurd h.0
row_size_kinds (mod_pointer s k x t) (row l n at r) h = absurd h.0

bare_sized : (f : TypeForm) (z : Size) → bare_type (sized_form f z) ≡ sized_form (bare_type f) z
bare_sized f single = refl
bare_sized Forms.Int (row l n at r) = refl
bare_sized (Forms.Ptr y) (row l n at r) = refl
bare_sized Forms.ModInt (row l n at r) = refl
bare_sized (Forms.ModPtr y) (row l n at r) = refl
bare_sized Forms.CellInt (row l n at r) = refl
bare_sized (Forms.CellPtr y) (row l n at r) = refl
bare_sized (Forms.CellRow m) (row l n at r) = refl
bare_sized (Forms.CellPtrRow y m) (row l n at r) = refl

size_proper : (v w : Written) (z : Size) → (IsCell v → IsCell w) → SizeProper v z → SizeProper w z
size_proper v w single f h = tt
size_proper v w (row l n at r) f h = (f h.0, h.1)

module _ (σ : List TokenKind → Span) where
  printed_parameter : (old : Parameter) (ks : List TokenKind) → PrintedParameter σ old ks
  unfolding spanned field_kinds
  printed_parameter old ks =
      let W = printed_type σ old.type (Name old.x.text ∷ ks) in record {
        made = record { type = W.made; x = placed σ old.x ks };
        words = W.words ∙ sym (ap (spanned σ) (append_assoc (type_kinds (type_form old.type)) (Name old.x.text ∷ []) ks));
        allowed = W.allowed false;
        bare = λ i. record { form = W.bare i; name = bare_name old.x };
        thinner = λ i ms ns th. W.thinner 1 i _ _ (same refl th);
      }

  printed_others : (old : List (Span × Parameter)) → MoreProper old → (ks : List TokenKind) → PrintedOthers σ old ks
  unfolding spanned others other_trees other_kinds spelled_others MoreProper bare_fields
  printed_others [] h ks = record {
    made = [];
    words = refl;
    proper = tt;
    bare = refl;
    thinner = λ i ms ns th. th;
  }
  printed_others (p ∷ old) h ks =
      let O = printed_others old h.1 ks in
      let P = printed_parameter p.1 (other_kinds (other_trees old) ++ ks) in
      let whole : List TokenKind = field_kinds (parameter_tree p.1) ++ (other_kinds (other_trees old) ++ ks) in
      let flat : other_kinds (other_trees (p ∷ old)) ++ ks ≡ Sign Signs.Comma ∷ whole = simp append_assoc refl in record {
        made = (σ (Sign Signs.Comma ∷ whole), P.made) ∷ O.made;
        words = next σ (Sign Signs.Comma) (ap (parameter_words P.made) O.words ∙ P.words) ∙ sym (ap (spanned σ) flat);
        proper = (P.allowed h.0, O.proper);
        bare = λ i. P.bare i ∷ O.bare i;
        thinner = λ i ms ns th. same refl (P.thinner i _ _ (O.thinner (suc i) ms ns th));
      }

  printed_parameters : (old : Parameters) → ParametersProper old → (ks : List TokenKind) → PrintedParameters σ old ks
  unfolding spanned parameter_kinds bare_fields
  printed_parameters no_parameters h ks = record {
    made = no_parameters;
    words = refl;
    proper = tt;
    bare = refl;
    thinner = λ ms ns th. th;
  }
  printed_parameters (parameters p more) h ks =
      let O = printed_others more h.1 ks in
      let P = printed_parameter p (other_kinds (other_trees more) ++ ks) in record {
        made = parameters P.made O.made;
        words = ap (parameter_words P.made) O.words ∙ P.words
            ∙ sym (ap (spanned σ) (append_assoc (field_kinds (parameter_tree p)) (other_kinds (other_trees more)) ks));
        proper = (P.allowed h.0, O.proper);
        bare = λ i. P.bare i ∷ O.bare i;
        thinner = λ ms ns th. P.thinner 1 _ _ (O.thinner 2 ms ns th);
      }

  printed_size : (old : Size) (ks : List TokenKind) → PrintedSize σ old ks
  unfolding spanned
  printed_size single ks = record {
    made = single;
    words = refl;
    proper = λ w h. tt;
    form = λ f. refl;
    count = λ c. refl;
    thinner = λ c ms ns th. th;
  }
  printed_size (row l n s r) ks =
      let R : List TokenKind = Sign Signs.RightBracket ∷ ks in
      let N : List TokenKind = Number (pos n) ∷ R in record {
        made = row (σ (Sign Signs.LeftBracket ∷ N)) n (σ N) (σ R);
        words = refl;
        proper = λ w h. h;
        form = λ f. refl;
        count = λ c. refl;
        thinner = λ c ms ns th. same refl (same refl (same refl th));
      }

  printed_members : (old : List Member) → MembersProper old → (ks : List TokenKind) → PrintedMembers σ old ks
  unfolding spanned member_words member_trees member_kinds field_kinds spelled_members bare_fields MembersProper
  printed_members [] h ks = record {
    made = [];
    words = refl;
    proper = tt;
    bare = refl;
    thinner = λ i ms ns th. th;
  }
  printed_members (m ∷ old) h ks =
      let M = printed_members old h.1 ks in
      let S : List TokenKind = Sign Signs.Semicolon ∷ member_kinds (member_trees old) ++ ks in
      let Z = printed_size m.size S in
      let T : List TokenKind = size_tokens m.size ++ S in
      let W = printed_type σ m.type (Name m.x.text ∷ T) in
      let flat : member_kinds (member_trees (m ∷ old)) ++ ks ≡ type_kinds (type_form m.type) ++ Name m.x.text ∷ T =
      rw (row_type_kinds m.type m.size, row_size_kinds m.type m.size h.0) (simp append_assoc refl) in record {
        made = record { type = W.made; x = placed σ m.x T; size = Z.made; semi = σ S } ∷ M.made;
        words = ap (type_words W.made) (next σ (Name m.x.text) (ap (size_words Z.made) (next σ (Sign Signs.Semicolon) M.words) ∙ Z.words)) ∙ W.words ∙ sym (ap (spanned σ) flat);
        proper = (size_proper m.type W.made Z.made W.cell (Z.proper m.type h.0), M.proper);
        bare = λ i. record {
          form = (bare_sized (type_form W.made) Z.made ∙ ap (λ f. sized_form f Z.made) W.bare ∙ Z.form (bare_type (type_form m.type))
              ∙ sym (bare_sized (type_form m.type) m.size)) i;
          name = bare_name m.x;
        } ∷ M.bare i;
        thinner = λ i ms ns th. W.thinner 1 (suc i) _ _ (same refl (Z.thinner i _ _ (same refl (rw (Z.count i) (M.thinner (fields_up_to i m.size) ms ns th)))));
      }

  printed_part : (old : Part) → PartProper old → (ks : List TokenKind) → PrintedPart σ old ks
  unfolding spanned
  printed_part (structure s x l members r semi) h ks =
      let S : List TokenKind = Sign Signs.Semicolon ∷ ks in
      let R : List TokenKind = Sign Signs.RightBrace ∷ S in
      let M = printed_members members h R in
      let L : List TokenKind = Sign Signs.LeftBrace ∷ member_kinds (member_trees members) ++ R in
      let flat : entry_kinds (part_tree (structure s x l members r semi)) ++ ks ≡ Reserved Words.Struct ∷ Name x.text ∷ L = simp append_assoc refl in record {
        made = structure (σ (Reserved Words.Struct ∷ Name x.text ∷ L)) (placed σ x L) (σ L) M.made (σ R) (σ S);
        words = next σ (Reserved Words.Struct) (next σ (Name x.text) (next σ (Sign Signs.LeftBrace) M.words)) ∙ sym (ap (spanned σ) flat);
        proper = M.proper;
        bare = λ i. Struct (record { name = bare_name x; fields = M.bare i });
        thinner = λ ms ns th. same refl (same refl (same refl (M.thinner 0 _ _ (same refl (same refl th)))));
      }
  printed_part (function (core s x l params r) b) h ks =
      let B = printed_block σ b h.1 ks in
      let R : List TokenKind = Sign Signs.RightParenthesis ∷ braced (stmts_kinds (block_trees b)) ++ ks in
      let P = printed_parameters params h.0 R in
      let L : List TokenKind = Sign Signs.LeftParenthesis ∷ parameter_kinds (parameter_trees params) ++ R in
      let flat : entry_kinds (part_tree (function (core s x l params r) b)) ++ ks ≡ Reserved Words.Ceal ∷ Name x.text ∷ L = simp append_assoc refl in record {
        made = function (core (σ (Reserved Words.Ceal ∷ Name x.text ∷ L)) (placed σ x L) (σ L) P.made (σ R)) B.made;
        words = next σ (Reserved Words.Ceal) (next σ (Name x.text) (next σ (Sign Signs.LeftParenthesis)
            (ap (parameters_words P.made) (next σ (Sign Signs.RightParenthesis) B.words) ∙ P.words)))
            ∙ sym (ap (spanned σ) flat);
        proper = (P.proper, B.proper);
        bare = λ i. Function (record { initialiser = None; name = bare_name x; params = P.bare i; body = B.bare i; close = nowhere });
        thinner = λ ms ns th. same refl (same refl (same refl (P.thinner _ _ (same refl (B.thinner 0 ms ns th)))));
      }
  printed_part (function (init s x l k y t o more r) b) h ks =
      let B = printed_block σ b h.1 ks in
      let R : List TokenKind = Sign Signs.RightParenthesis ∷ braced (stmts_kinds (block_trees b)) ++ ks in
      let P = printed_others more h.0 R in
      let O : List TokenKind = Reserved Words.Own ∷ other_kinds (other_trees more) ++ R in
      let T : List TokenKind = Sign Signs.Star ∷ O in
      let L : List TokenKind = Sign Signs.LeftParenthesis ∷ Reserved Words.Struct ∷ Name y.text ∷ T in
      let flat : entry_kinds (part_tree (function (init s x l k y t o more r) b)) ++ ks ≡ Reserved Words.Init ∷ Name x.text ∷ L = simp append_assoc refl in record {
        made = function (init (σ (Reserved Words.Init ∷ Name x.text ∷ L)) (placed σ x L) (σ L) (σ (Reserved Words.Struct ∷ Name y.text ∷ T)) (placed σ y T)
            (σ T) (σ O) P.made (σ R)) B.made;
        words = next σ (Reserved Words.Init) (next σ (Name x.text) (next σ (Sign Signs.LeftParenthesis) (next σ (Reserved Words.Struct) (next σ (Name y.text)
            (next σ (Sign Signs.Star) (next σ (Reserved Words.Own) (ap (others P.made) (next σ (Sign Signs.RightParenthesis) B.words) ∙ P.words)))))))
            ∙ sym (ap (spanned σ) flat);
        proper = (P.proper, B.proper);
        bare = λ i. Function (record { initialiser = Some (bare_name y); name = bare_name x; params = P.bare i; body = B.bare i; close = nowhere });
        thinner = λ ms ns th.
            same refl (same refl (same refl (same refl (same refl (same refl (same refl (P.thinner 1 _ _ (same refl (B.thinner 0 ms ns th)))))))));
      }

  printed_parts : (old : List Part) → PartsProper old → (ks : List TokenKind) → PrintedParts σ old ks
  unfolding spanned parts_words part_trees entries_kinds spelled_parts PartsProper bare_entries
  printed_parts [] h ks = record {
    made = [];
    words = refl;
    proper = tt;
    bare = refl;
    thinner = λ ms ns th. th;
  }
  printed_parts (p ∷ old) h ks =
      let P = printed_parts old h.1 ks in
      let A = printed_part p h.0 (entries_kinds (part_trees old) ++ ks) in record {
        made = A.made ∷ P.made;
        words = ap (part_words A.made) P.words ∙ A.words ∙ sym (ap (spanned σ) (append_assoc (entry_kinds (part_tree p)) (entries_kinds (part_trees old)) ks));
        proper = (A.proper, P.proper);
        bare = λ i. A.bare i ∷ P.bare i;
        thinner = λ ms ns th. A.thinner _ _ (P.thinner ms ns th);
      }

  pub printed_program : (old : Program) → PartsProper old.parts → PrintedProgram σ old
  unfolding spanned
  printed_program old h =
      let P = printed_parts old.parts h (End ∷ []) in
      let whole : Program = record { parts = P.made; last = σ (End ∷ []) } in record {
        made = whole;
        words = bare_program whole ∙ P.words;
        proper = P.proper;
        bare = λ i. record { entries = P.bare i };
        thinner = P.thinner _ _ the_end;
      }
