-- A reading within the limits holds no struct of more than 255 fields.
use Rattle.std.proofs.Common.{◌≡◌, ℕ, suc, ◌+◌, ◌≤◌, Bool, true, false, Option, Some, None, List, [], ◌∷◌, refl, sym, ap, ◌∙◌, subst, arith}
use Rattle.std.specs.Prelude.{if◌then◌else◌}
use Rattle.ceal_base.specs.declared.fault.Span.{Span}
use Rattle.ceal_base.specs.declared.operators.Binary.{Binary as BinaryOp}
use Rattle.ceal_base.specs.declared.syntax.Entry.{Entry}
use Rattle.ceal_base.specs.declared.syntax.Expr.{Expr}
use Rattle.ceal_base.specs.declared.syntax.FieldDecl.{FieldDecl}
use Rattle.ceal_base.specs.declared.syntax.Ident.{Ident}
use Rattle.ceal_base.specs.declared.syntax.Stmt.{Stmt}
use Rattle.ceal_base.specs.declared.syntax.Stmt.TheViews.{If}
use Rattle.ceal_base.specs.declared.syntax.TypeForm.{TypeForm}
use Rattle.ceal_base.specs.declared.syntax.TypeForm.TheVariants as Forms
use Rattle.ceal_lex.specs.declared.token.Reserved.TheVariants as Words
use Rattle.ceal_lex.specs.declared.token.Sign.{Sign as SignOf}
use Rattle.ceal_lex.specs.declared.token.Sign.TheVariants as Signs
use Rattle.ceal_lex.specs.declared.token.Token.{Token}
use Rattle.ceal_lex.specs.declared.token.TokenKind.{TokenKind}
use Rattle.ceal_lex.specs.declared.token.TokenKind.TheVariants.{Name, Number, Reserved, Sign, End, Cut}
use Rattle.ceal_grammar.specs.declared.state.Frame.{Frame}
use Rattle.ceal_grammar.specs.declared.state.Frame.TheVariants.{Open, Prefix, Address as AddressOf, Index, Left}
use Rattle.ceal_grammar.specs.declared.state.Head.{Head}
use Rattle.ceal_grammar.specs.declared.state.HeadPlace.{HeadPlace}
use Rattle.ceal_grammar.specs.declared.state.HeadPlace.TheVariants as Heads
use Rattle.ceal_grammar.specs.declared.state.Inside.{Inside}
use Rattle.ceal_grammar.specs.declared.state.Layout.{Layout}
use Rattle.ceal_grammar.specs.declared.state.Mode.{Mode}
use Rattle.ceal_grammar.specs.declared.state.Mode.TheVariants as Modes
use Rattle.ceal_grammar.specs.declared.state.Opened.{Opened}
use Rattle.ceal_grammar.specs.declared.state.Owner.TheVariants.{Else as OfElse}
use Rattle.ceal_grammar.specs.declared.state.Piece.{Piece}
use Rattle.ceal_grammar.specs.declared.state.Place.{Place}
use Rattle.ceal_grammar.specs.declared.state.Place.TheVariants.{Want, Post, Have, Element, Access}
use Rattle.ceal_grammar.specs.declared.state.Receiver.{Receiver}
use Rattle.ceal_grammar.specs.declared.state.Receiver.TheVariants as To
use Rattle.ceal_grammar.specs.declared.state.State.{State}
use Rattle.ceal_grammar.specs.declared.state.State.TheVariants.{Top, Struct, Head as InHead, In, Finished}
use Rattle.ceal_grammar.specs.declared.state.StructPlace.{StructPlace}
use Rattle.ceal_grammar.specs.declared.state.StructPlace.TheVariants as Structs
use Rattle.ceal_grammar.specs.declared.state.TypePart.{TypePart}
use Rattle.ceal_grammar.specs.declared.state.TypePart.TheVariants as Types
use Rattle.ceal_grammar.specs.declared.state.Typing.{Typing}
use Rattle.ceal_grammar.specs.declared.state.Typing.TheVariants.{More as MoreType, Named as NamedType}
use Rattle.ceal_grammar.specs.declared.state.Whole.{Whole}
use Rattle.ceal_grammar.specs.Trees.{row_form}
use Rattle.ceal_grammar.specs.Machine.{same_sign, same_word, is_sign, is_word, wants, operator_of, at_name, reduction}
use Rattle.ceal_grammar.specs.Machine.{within, state_in, with_statement, at_expression_end, closes, at_sign_after, with_arrow}
use Rattle.ceal_grammar.specs.Machine.{at_index, at_after, at_element, at_place, type_starts, at_type, block_closed}
use Rattle.ceal_grammar.specs.Machine.{opened_by, at_body, with_typing, chained_in, at_mode, begun_type, fields_with_member, is_cell}
use Rattle.ceal_grammar.specs.Machine.{length_of, at_length, length_item, struct_item, at_struct, with_member, body_of}
use Rattle.ceal_grammar.specs.Machine.{at_head, at_top, step, item_of}
use Rattle.ceal_grammar.proofs.Viable.{wanted, got}
use Rattle.ceal_parse.specs.Reading.{fields_with, PlaceFits, Fits}

never : {P : Type 0} (z : State) → None ≡ Some z → P
never z h = absurd (cc)

at_next : (σ z : State) → Some σ ≡ Some z → Fits σ → Fits z
at_next σ z h f = subst Fits (got σ z h) f

at_wanted : (b : Bool) (σ z : State) → wants b σ ≡ Some z → Fits σ → Fits z
at_wanted b σ z h f = subst Fits ((wanted b σ z h).1) f

at_chosen : (b : Bool) (x y : Option State) (z : State) → (if b then x else y) ≡ Some z → (x ≡ Some z → Fits z) → (y ≡ Some z → Fits z) → Fits z
at_chosen true x y z h f g = f h
at_chosen false x y z h f g = g h

name_fits : (f : Ident → State) (s : Span) (k : TokenKind) (z : State) → at_name f s k ≡ Some z → ((x : Ident) → Fits (f x)) → Fits z
name_fits f s (Name x) z h g = at_next _ z h (g (record { text = x; span = s }))
name_fits f s (Number x) z h g = never z h
name_fits f s (Reserved x) z h g = never z h
name_fits f s (Sign x) z h g = never z h
name_fits f s End z h g = never z h
name_fits f s Cut z h g = never z h

-- Bodies: a reading within one continues within it, or after it.
module _ (i : Inside) (z : State) where
  placed_fits : (o : Option Mode) → state_in i o ≡ Some z → Fits z
  placed_fits None h = never z h
  placed_fits (Some m) h = at_next (In i m) z h tt

  closed_fits : (h : Head) (ds : List Stmt) (os : List Opened) (s : Span) (b : Bool) → wants b (block_closed i.entries h ds os s) ≡ Some z → Fits z
  closed_fits h ds [] s b e = at_wanted b _ z e tt
  closed_fits h ds (o ∷ os) s b e = at_wanted b _ z e tt

  body_fits : (s : Span) (k : TokenKind) → at_body i s k ≡ Some z → Fits z
  body_fits s (Name x) h = at_next _ z h tt
  body_fits s (Reserved w) h = placed_fits _ h
  body_fits s (Sign c) h = closed_fits i.head i.done i.opened s (same_sign c Signs.RightBrace) h
  body_fits s (Number v) h = never z h
  body_fits s End h = never z h
  body_fits s Cut h = never z h

  received_fits : (r : Receiver) (d : ℕ) (e : Expr) (c : SignOf) → at_expression_end i d r e c ≡ Some z → Fits z
  received_fits (To.Value t) d e c h = at_wanted _ _ z h tt
  received_fits (To.Read t s) d e c h = placed_fits _ h
  received_fits (To.Argument f args) d e c h = placed_fits _ h
  received_fits (To.Set a x) d e c h = at_wanted _ _ z h tt
  received_fits (To.Write s) d e c h = placed_fits _ h
  received_fits (To.Store s a) d e c h = placed_fits _ h
  received_fits (To.If s) d e c h = placed_fits _ h
  received_fits (To.While s) d e c h = placed_fits _ h

  closes_fits : (w : Whole) (c : SignOf) (p : Piece) (fs : List Frame) → closes i w c p fs ≡ Some z → Fits z
  closes_fits w c p [] h = received_fits w.receiver w.nesting p.expr c h
  closes_fits w c p (Open s d ∷ fs) h = at_wanted _ _ z h tt
  closes_fits w c p (Index s e d ∷ fs) h = at_wanted _ _ z h tt
  closes_fits w c p (Prefix op s ∷ fs) h = never z h
  closes_fits w c p (AddressOf s ∷ fs) h = never z h
  closes_fits w c p (Left a op s ∷ fs) h = never z h

  sign_fits : (w : Whole) (p : Piece) (s : Span) (c : SignOf) (o : Option BinaryOp) → at_sign_after i w p s c o ≡ Some z → Fits z
  sign_fits w p s c (Some op) h = at_next _ z h tt
  sign_fits w p s c None h = let q = reduction 0 p w.frames in closes_fits w c q.piece q.frames h

  index_fits : (w : Whole) (p : Piece) (fs : List Frame) → at_index i w p fs ≡ Some z → Fits z
  index_fits w p (AddressOf s ∷ fs) h = at_next _ z h tt
  index_fits w p [] h = never z h
  index_fits w p (Open s d ∷ fs) h = never z h
  index_fits w p (Index s e d ∷ fs) h = never z h
  index_fits w p (Prefix op s ∷ fs) h = never z h
  index_fits w p (Left a op s ∷ fs) h = never z h

  after_fits : (w : Whole) (p : Piece) (s : Span) (k : TokenKind) → at_after i w p s k ≡ Some z → Fits z
  after_fits w p s (Sign c) h =
      at_chosen (same_sign c Signs.Arrow) (Some (within i (with_arrow w) (Access p))) (later c) z h (λ e. at_next _ z e tt)
      (λ e. at_chosen (same_sign c Signs.LeftBracket) (at_index i w p w.frames) (at_sign_after i w p s c (operator_of c)) z e
      (λ g. index_fits w p w.frames g) (λ g. sign_fits w p s c (operator_of c) g))
    where
      later : SignOf → Option State
      later c = if same_sign c Signs.LeftBracket then at_index i w p w.frames else at_sign_after i w p s c (operator_of c)
  after_fits w p s (Name x) h = never z h
  after_fits w p s (Number x) h = never z h
  after_fits w p s (Reserved x) h = never z h
  after_fits w p s End h = never z h
  after_fits w p s Cut h = never z h

  element_fits : (w : Whole) (p : Piece) (s : Span) (k : TokenKind) → at_element i w p s k ≡ Some z → Fits z
  element_fits w p s (Sign c) h = sign_fits w p s c (operator_of c) h
  element_fits w p s (Name x) h = never z h
  element_fits w p s (Number x) h = never z h
  element_fits w p s (Reserved x) h = never z h
  element_fits w p s End h = never z h
  element_fits w p s Cut h = never z h

  place_fits : (w : Whole) (p : Place) (s : Span) (k : TokenKind) → at_place i w p s k ≡ Some z → Fits z
  place_fits w Want s k h = placed_fits _ h
  place_fits w Post s k h = placed_fits _ h
  place_fits w (Have p) s k h = after_fits w p s k h
  place_fits w (Element p) s k h = element_fits w p s k h
  place_fits w (Access p) s k h = placed_fits _ h

mode_fits : (i : Inside) (z : State) (m : Mode) (s : Span) (k : TokenKind) → at_mode i m s k ≡ Some z → Fits z
mode_fits i z Modes.Body s k h = body_fits i z s k h
mode_fits i z (Modes.Typing at p) s k h = placed_fits i z _ h
mode_fits i z (Modes.Declared at form x) s k h = placed_fits i z _ h
mode_fits i z (Modes.Named x) s k h = placed_fits i z _ h
mode_fits i z (Modes.Owned at) s k h = placed_fits i z _ h
mode_fits i z (Modes.Path e n) s k h = placed_fits i z _ h
mode_fits i z (Modes.Reached e x n) s k h = placed_fits i z _ h
mode_fits i z (Modes.Value t) s k h = placed_fits i z _ h
mode_fits i z (Modes.Making m) s k h = placed_fits i z _ h
mode_fits i z (Modes.Calls f) s k h = placed_fits i z _ h
mode_fits i z (Modes.First f) s k h = placed_fits i z _ h
mode_fits i z (Modes.Before r) s k h = placed_fits i z _ h
mode_fits i z (Modes.Within w p) s k h = place_fits i z w p s k h
mode_fits i z (Modes.Ends st) s k h = at_wanted _ _ z h tt
mode_fits i z (Modes.Ended st) s k h = body_fits (with_statement i st) z s k h
mode_fits i z (Modes.Opens o) s k h = at_wanted _ (opened_by i o) z h tt
mode_fits i z (Modes.Closed at e first) s k h =
    at_chosen (is_word Words.Else k) (Some (In i (Modes.Otherwise at e first))) (at_body (with_statement i (If at e first [])) s k) z h
    (λ g. at_next _ z g tt) (λ g. body_fits (with_statement i (If at e first [])) z s k g)
mode_fits i z (Modes.Otherwise at e first) s k h =
    at_chosen (is_sign Signs.LeftBrace k) (Some (opened_by i (OfElse at e first)))
    (wants (is_word Words.If k) (In (chained_in i (record { span = at; test = e; first = first })) (Modes.Before (To.If s)))) z h
    (λ g. at_next (opened_by i (OfElse at e first)) z g tt) (λ g. at_wanted _ _ z g tt)

-- Types.
begun_fits : (f : TypePart → State) (o : Option TypePart) (z : State) → begun_type f o ≡ Some z → ((p : TypePart) → o ≡ Some p → Fits (f p)) → Fits z
begun_fits f None z h g = never z h
begun_fits f (Some p) z h g = at_next (f p) z h (g p refl)

typed_fits : (f : TypePart → State) (g : TypeForm → Ident → State) (o : Option Typing) (z : State) → with_typing f g o ≡ Some z
    → ((p : TypePart) → o ≡ Some (MoreType p) → Fits (f p)) → ((form : TypeForm) (x : Ident) → o ≡ Some (NamedType form x) → Fits (g form x)) → Fits z
typed_fits f g None z h a b = never z h
typed_fits f g (Some (MoreType p)) z h a b = at_next (f p) z h (a p refl)
typed_fits f g (Some (NamedType form x)) z h a b = at_next (g form x) z h (b form x refl)

-- A type that was read so far, or the member that it became.
abbrev fields_after : ℕ → Typing → ℕ
fields_after c (MoreType p) = fields_with c p
fields_after c (NamedType form x) = fields_with_member c form

starts_one : (c : ℕ) (k : TokenKind) (p : TypePart) → type_starts k ≡ Some p → fields_with c p ≡ suc c
starts_one c (Reserved w) p h = word_one (same_word w Words.Int) (same_word w Words.Struct) (same_word w Words.Mod) h
  where
    word_one : (a b d : Bool) → (if a then Some (Types.Done Forms.Int) else if b then Some Types.Struct else wants d Types.Mod) ≡ Some p → fields_with c p ≡ suc c
    word_one true b d e = ap (fields_with c) (sym (got _ p e))
    word_one false true d e = ap (fields_with c) (sym (got _ p e))
    word_one false false true e = ap (fields_with c) (sym (got _ p e))
    word_one false false false e = absurd (cc)
starts_one c (Name x) p h = absurd (cc)
starts_one c (Number x) p h = absurd (cc)
starts_one c (Sign x) p h = absurd (cc)
starts_one c End p h = absurd (cc)
starts_one c Cut p h = absurd (cc)

module _ (c : ℕ) (s : Span) (q : Typing) where
  name_goes : (f : Ident → Typing) (k : TokenKind) → at_name f s k ≡ Some q → ((x : Ident) → fields_after c (f x) ≡ suc c) → fields_after c q ≡ suc c
  name_goes f (Name x) h g = ap (fields_after c) (sym (got _ q h)) ∙ g (record { text = x; span = s })
  name_goes f (Number x) h g = absurd (cc)
  name_goes f (Reserved x) h g = absurd (cc)
  name_goes f (Sign x) h g = absurd (cc)
  name_goes f End h g = absurd (cc)
  name_goes f Cut h g = absurd (cc)

  name_keeps : (form : TypeForm) (k : TokenKind) → at_name (λ x. NamedType form x) s k ≡ Some q → fields_after c q ≡ fields_with_member c form
  name_keeps form (Name x) h = ap (fields_after c) (sym (got _ q h))
  name_keeps form (Number x) h = absurd (cc)
  name_keeps form (Reserved x) h = absurd (cc)
  name_keeps form (Sign x) h = absurd (cc)
  name_keeps form End h = absurd (cc)
  name_keeps form Cut h = absurd (cc)

  want_goes : (b : Bool) (r : Typing) → wants b r ≡ Some q → fields_after c r ≡ suc c → fields_after c q ≡ suc c
  want_goes b r h e = ap (fields_after c) (sym ((wanted b r q h).1)) ∙ e

  star_goes : (b cells : Bool) (form cell : TypeForm) (k : TokenKind)
      → (if b then Some (MoreType (Types.Done form)) else if cells then at_name (λ x. NamedType cell x) s k else None) ≡ Some q
      → fields_with_member c form ≡ suc c → fields_with_member c cell ≡ suc c → fields_after c q ≡ suc c
  star_goes true cells form cell k h e g = ap (fields_after c) (sym (got _ q h)) ∙ e
  star_goes false true form cell k h e g = name_keeps cell k h ∙ g
  star_goes false false form cell k h e g = absurd (cc)

  mod_goes : (a b : Bool) → (if a then Some (MoreType Types.ModInt) else wants b (MoreType Types.ModStruct)) ≡ Some q → fields_after c q ≡ suc c
  mod_goes true b h = ap (fields_after c) (sym (got _ q h))
  mod_goes false b h = want_goes b (MoreType Types.ModStruct) h refl

  -- one more token of a member's type leaves the fields as they are
  type_keeps : (cells : Bool) (p : TypePart) (k : TokenKind) → at_type cells p s k ≡ Some q → fields_after c q ≡ fields_with c p
  type_keeps cells Types.Struct k h = name_goes _ k h (λ x. refl)
  type_keeps cells (Types.StructNamed y) k h = want_goes _ _ h refl
  type_keeps cells Types.Mod k h = mod_goes _ _ h
  type_keeps cells Types.ModInt k h = star_goes _ cells Forms.ModInt Forms.CellInt k h refl refl
  type_keeps cells Types.ModStruct k h = name_goes _ k h (λ x. refl)
  type_keeps cells (Types.ModNamed y) k h = star_goes _ cells (Forms.ModPtr y) (Forms.CellPtr y) k h refl refl
  type_keeps cells (Types.Done form) k h = name_keeps form k h

-- Structs.
row_count : (c : ℕ) (form : TypeForm) (n : ℕ) → is_cell form ≡ true → fields_with_member c (row_form form n) ≡ c + n
row_count c Forms.CellInt n h = refl
row_count c (Forms.CellPtr y) n h = refl
row_count c Forms.Int n h = absurd (cc)
row_count c (Forms.Ptr y) n h = absurd (cc)
row_count c Forms.ModInt n h = absurd (cc)
row_count c (Forms.ModPtr y) n h = absurd (cc)
row_count c (Forms.CellRow m) n h = absurd (cc)
row_count c (Forms.CellPtrRow y m) n h = absurd (cc)

module _ (es : List Entry) (z : State) where
  member_fits : (l : Layout) (k : TokenKind) (b : Bool)
      → (if b then Some (Struct es (Structs.Closed l.decl)) else begun_type (λ p. Struct es (Structs.Typing l p)) (type_starts k)) ≡ Some z
      → (if b then 0 else suc l.count) ≤ 255 → Fits z
  member_fits l k true h i = at_next (Struct es (Structs.Closed l.decl)) z h tt
  member_fits l k false h i =
      begun_fits (λ p. Struct es (Structs.Typing l p)) (type_starts k) z h (λ p e. let c = starts_one l.count k p e in omega (arith, c, i))

  end_fits : (l : Layout) (m : FieldDecl) (k : TokenKind) (a b : Bool) → is_cell m.form ≡ b
      → (if a then Some (Struct es (Structs.Members (with_member l m))) else if b then wants (is_sign Signs.LeftBracket k) (Struct es (Structs.Length l m)) else None) ≡ Some z → Fits z
  end_fits l m k true b e h = at_next (Struct es (Structs.Members (with_member l m))) z h tt
  end_fits l m k false true e h = at_wanted _ (Struct es (Structs.Length l m)) z h e
  end_fits l m k false false e h = never z h

  length_fits : (l : Layout) (m : FieldDecl) (o : Option ℕ) → at_length es l m o ≡ Some z → length_item l.count o ≤ 255 → is_cell m.form ≡ true → Fits z
  length_fits l m None h i c = never z h
  length_fits l m (Some n) h i c =
      let e = row_count l.count m.form n c in at_next (Struct es (Structs.Sized l m n)) z h (omega (arith, i), omega (arith, e, i))

  struct_fits : (p : StructPlace) (s : Span) (k : TokenKind) → at_struct es p s k ≡ Some z → struct_item p k ≤ 255 → PlaceFits p → Fits z
  struct_fits Structs.Begun s k h i f = name_fits (λ x. Struct es (Structs.Named x)) s k z h (λ x. tt)
  struct_fits (Structs.Named x) s k h i f = at_wanted _ _ z h tt
  struct_fits (Structs.Members l) s k h i f = member_fits l k (is_sign Signs.RightBrace k) h i
  struct_fits (Structs.Typing l p) s k h i f =
      typed_fits (λ q. Struct es (Structs.Typing l q)) (λ form x. Struct es (Structs.Ends l (record { form = form; name = x }))) (at_type true p s k) z h
      (λ q e. let c = type_keeps l.count s (MoreType q) true p k e in omega (arith, c, f))
      (λ form x e. let c = type_keeps l.count s (NamedType form x) true p k e in omega (arith, c, f))
  struct_fits (Structs.Ends l m) s k h i f = end_fits l m k (is_sign Signs.Semicolon k) (is_cell m.form) refl h
  struct_fits (Structs.Length l m) s k h i f = length_fits l m (length_of k) h i f
  struct_fits (Structs.Sized l m n) s k h i f = at_wanted _ (Struct es (Structs.Ends l (record { form = row_form m.form n; name = m.name }))) z h f.1
  struct_fits (Structs.Closed d) s k h i f = at_wanted _ _ z h tt

  -- Heads of functions, and what is between entries.
  head_begun : (f : TypePart → HeadPlace) (o : Option TypePart) → begun_type (λ p. InHead es (f p)) o ≡ Some z → Fits z
  head_begun f o h = begun_fits (λ p. InHead es (f p)) o z h (λ p e. tt)

  head_fits : (p : HeadPlace) (s : Span) (k : TokenKind) → at_head es p s k ≡ Some z → Fits z
  head_fits Heads.Ceal s k h = name_fits (λ x. InHead es (Heads.CealNamed x)) s k z h (λ x. tt)
  head_fits (Heads.CealNamed x) s k h = at_wanted _ _ z h tt
  head_fits Heads.Init s k h = name_fits (λ x. InHead es (Heads.InitNamed x)) s k z h (λ x. tt)
  head_fits (Heads.InitNamed x) s k h = at_wanted _ _ z h tt
  head_fits (Heads.InitOpened x) s k h = at_wanted _ _ z h tt
  head_fits (Heads.InitStruct x) s k h = name_fits (λ y. InHead es (Heads.Shaped (record { initialiser = Some y; name = x; params = [] }))) s k z h (λ x. tt)
  head_fits (Heads.Shaped d) s k h = at_wanted _ _ z h tt
  head_fits (Heads.Starred d) s k h = at_wanted _ _ z h tt
  head_fits (Heads.First d) s k h =
      at_chosen (is_sign Signs.RightParenthesis k) (Some (InHead es (Heads.Done d))) (begun_type (λ p. InHead es (Heads.Typing d p)) (type_starts k)) z h
      (λ e. at_next _ z e tt) (λ e. head_begun (λ p. Heads.Typing d p) (type_starts k) e)
  head_fits (Heads.Next d) s k h = head_begun (λ p. Heads.Typing d p) (type_starts k) h
  head_fits (Heads.Typing d p) s k h = typed_fits _ _ (at_type false p s k) z h (λ q e. tt) (λ form x e. tt)
  head_fits (Heads.Named d) s k h =
      at_chosen (is_sign Signs.Comma k) (Some (InHead es (Heads.Next d))) (wants (is_sign Signs.RightParenthesis k) (InHead es (Heads.Done d))) z h
      (λ e. at_next _ z e tt) (λ e. at_wanted _ _ z e tt)
  head_fits (Heads.Done d) s k h = at_wanted _ (body_of es d) z h tt

  part_fits : (a b c : Bool)
      → (if a then Some (Struct es Structs.Begun) else if b then Some (InHead es Heads.Ceal) else wants c (InHead es Heads.Init)) ≡ Some z → Fits z
  part_fits true b c h = at_next (Struct es Structs.Begun) z h tt
  part_fits false true c h = at_next (InHead es Heads.Ceal) z h tt
  part_fits false false c h = at_wanted c (InHead es Heads.Init) z h tt

  top_fits : (k : TokenKind) → at_top es k ≡ Some z → Fits z
  top_fits End h = at_next _ z h tt
  top_fits (Reserved k) h = part_fits (same_word k Words.Struct) (same_word k Words.Ceal) (same_word k Words.Init) h
  top_fits (Name x) h = never z h
  top_fits (Number x) h = never z h
  top_fits (Sign x) h = never z h
  top_fits Cut h = never z h

pub step_fits : (s : State) (t : Token) (z : State) → step s t ≡ Some z → item_of s t ≤ 255 → Fits s → Fits z
step_fits (Top es) t z h i f = top_fits es z t.kind h
step_fits (Struct es p) t z h i f = struct_fits es z p t.span t.kind h i f
step_fits (InHead es p) t z h i f = head_fits es z p t.span t.kind h
step_fits (In i m) t z h e f = mode_fits i z m t.span t.kind h
step_fits (Finished es) t z h i f = never z h
