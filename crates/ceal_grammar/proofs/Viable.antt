-- Where a reading continues, some program does.
use Rattle.std.proofs.Common.{◌≡◌, ℕ, zero, suc, ◌≤◌, ◌<◌, pos, negsuc, Bool, true, false, Option, Some, None, List, [], ◌∷◌, ◌++◌, refl, sym, ap, ◌∙◌, subst, arith, inl, inr, ◌⊎◌}
use Rattle.std.specs.Prelude.{if◌then◌else◌}
use Rattle.ceal_base.specs.declared.fault.Span.{Span}
use Rattle.ceal_base.specs.declared.operators.Unary.{Unary as UnaryOp}
use Rattle.ceal_base.specs.declared.operators.Unary.TheVariants.{Neg, Not}
use Rattle.ceal_base.specs.declared.operators.Binary.{Binary as BinaryOp}
use Rattle.ceal_base.specs.declared.syntax.Entry.{Entry}
use Rattle.ceal_base.specs.declared.syntax.Expr.{Expr}
use Rattle.ceal_base.specs.declared.syntax.Ident.{Ident}
use Rattle.ceal_base.specs.declared.syntax.Stmt.{Stmt}
use Rattle.ceal_base.specs.declared.syntax.TypeForm.{TypeForm}
use Rattle.ceal_lex.specs.declared.token.Reserved.{Reserved as ReservedWord}
use Rattle.ceal_lex.specs.declared.token.Reserved.TheVariants as Words
use Rattle.ceal_lex.specs.declared.token.Sign.{Sign as SignOf}
use Rattle.ceal_lex.specs.declared.token.Sign.TheVariants as Signs
use Rattle.ceal_lex.specs.declared.token.Token.{Token}
use Rattle.ceal_lex.specs.declared.token.TokenKind.{TokenKind}
use Rattle.ceal_lex.specs.declared.token.TokenKind.TheVariants.{Name, Number, Reserved, Sign, End, Cut}
use Rattle.ceal_grammar.specs.declared.state.Callee.TheVariants.{Call as ToCall, Alloc as ToAlloc}
use Rattle.ceal_grammar.specs.declared.state.Frame.{Frame}
use Rattle.ceal_grammar.specs.declared.state.Frame.TheVariants.{Open, Prefix, Address as AddressOf, Index, Left}
use Rattle.ceal_grammar.specs.declared.state.Head.{Head}
use Rattle.ceal_grammar.specs.declared.state.HeadPlace.{HeadPlace}
use Rattle.ceal_grammar.specs.declared.state.HeadPlace.TheVariants as Heads
use Rattle.ceal_grammar.specs.declared.state.Inside.{Inside}
use Rattle.ceal_grammar.specs.declared.state.Layout.{Layout}
use Rattle.ceal_grammar.specs.declared.state.Making.{Making}
use Rattle.ceal_grammar.specs.declared.state.Making.TheVariants as Makings
use Rattle.ceal_grammar.specs.declared.state.Mode.{Mode}
use Rattle.ceal_grammar.specs.declared.state.Mode.TheVariants as Modes
use Rattle.ceal_grammar.specs.declared.state.Opened.{Opened}
use Rattle.ceal_grammar.specs.declared.state.Owner.{Owner}
use Rattle.ceal_grammar.specs.declared.state.Owner.TheVariants.{While as OfWhile, Then as OfThen, Else as OfElse}
use Rattle.ceal_grammar.specs.declared.state.Piece.{Piece}
use Rattle.ceal_grammar.specs.declared.state.Place.{Place}
use Rattle.ceal_grammar.specs.declared.state.Place.TheVariants.{Want, Post, Have, Element, Access}
use Rattle.ceal_grammar.specs.declared.state.Receiver.{Receiver}
use Rattle.ceal_grammar.specs.declared.state.Receiver.TheVariants as To
use Rattle.ceal_grammar.specs.declared.state.State.{State}
use Rattle.ceal_grammar.specs.declared.state.State.TheVariants.{Top, Struct, Head as InHead, In, Finished}
use Rattle.ceal_grammar.specs.declared.state.StructPlace.{StructPlace}
use Rattle.ceal_grammar.specs.declared.state.StructPlace.TheVariants as Structs
use Rattle.ceal_grammar.specs.declared.state.Target.{Target}
use Rattle.ceal_grammar.specs.declared.state.Target.TheVariants.{Declare as ToDeclare, Assign as ToAssign}
use Rattle.ceal_grammar.specs.declared.state.TypePart.{TypePart}
use Rattle.ceal_grammar.specs.declared.state.TypePart.TheVariants as Types
use Rattle.ceal_grammar.specs.declared.state.Typing.{Typing}
use Rattle.ceal_grammar.specs.declared.state.Typing.TheVariants.{More as MoreType, Named as NamedType}
use Rattle.ceal_grammar.specs.declared.state.Whole.{Whole}
use Rattle.ceal_grammar.specs.Grammar.{Phrase, number, null, variable, own, parens, arrow, level, IsInfix, level_of}
use Rattle.ceal_grammar.specs.Grammar.{Grouped, IsPath, Written, int, pointer, mod_int, mod_pointer, cell_int}
use Rattle.ceal_grammar.specs.Grammar.{cell_pointer, Allowed, no_arguments, arguments, AllGrouped, plainly, reading}
use Rattle.ceal_grammar.specs.Grammar.{allocation, modref_int, modref, Statement, declare, assign, set, store, call}
use Rattle.ceal_grammar.specs.Grammar.{branch, loop, exit, break, continue, Branch, when, nothing, otherwise, chained}
use Rattle.ceal_grammar.specs.Grammar.{block, ended, followed, StatementProper, BranchProper, Parameter, no_parameters}
use Rattle.ceal_grammar.specs.Grammar.{parameters, MoreProper, core, init, single as one_field, row, Part, structure}
use Rattle.ceal_grammar.specs.Grammar.{function, IsCell, MembersProper, PartProper, PartsProper}
use Rattle.ceal_grammar.specs.Spelled.{sign_of, prefix_sign}
use Rattle.ceal_grammar.specs.Trees.{type_form, row_form}
use Rattle.ceal_grammar.proofs.Words.{word, named, phrase, type_words, items, argument_words, given_words, statement}
use Rattle.ceal_grammar.proofs.Words.{branch_words, block_words, parameter_words, others, parameters_words}
use Rattle.ceal_grammar.proofs.Words.{member_words, part_words, parts_words}
use Rattle.ceal_grammar.proofs.Regroup.{negate, negate_grouped, negate_words, Behind, stop, more, behind_words}
use Rattle.ceal_grammar.proofs.Regroup.{BehindGrouped, beside, beside_grouped, beside_words, Tail, ending, field, index}
use Rattle.ceal_grammar.proofs.Regroup.{tail_words, TailGrouped, pointed, pointed_grouped, pointed_words}
use Rattle.std.proofs.lemmas.Bool.{false≢true}
use Rattle.std.proofs.lemmas.Bool.Decides.{leb_tells}
use Rattle.ceal_base.specs.declared.syntax.Stmt.{Return, Break, Continue, SetField, Write}
use Rattle.ceal_base.specs.declared.syntax.FieldDecl.{FieldDecl}
use Rattle.ceal_base.specs.declared.syntax.Stmt.TheViews as Trees
use Rattle.ceal_base.specs.declared.syntax.ExprForm.{Null, Own}
use Rattle.ceal_base.specs.declared.syntax.TypeForm.TheVariants as Forms
use Rattle.ceal_base.specs.declared.syntax.Value.TheVariants as Values
use Rattle.ceal_grammar.specs.Machine.{same_sign, same_word, is_sign, is_word, wants, operator_of, at_name, single}
use Rattle.ceal_grammar.specs.Machine.{prefix_piece, address_piece, infix_piece, arrow_piece, reduction, within, new_whole, with_operator, state_in}
use Rattle.ceal_grammar.specs.Machine.{at_prim, at_operand, with_statement, value_statement, call_statement, at_expression_end, closes}
use Rattle.ceal_grammar.specs.Machine.{at_sign_after, with_arrow, at_index, at_after, at_element, at_place, type_begin}
use Rattle.ceal_grammar.specs.Machine.{type_starts, star_or, at_type, mode_after_block, block_closed, opened_by, at_statement}
use Rattle.ceal_grammar.specs.Machine.{at_word, at_body, with_typing, path_of, field_of, at_value, at_modref, at_making}
use Rattle.ceal_grammar.specs.Machine.{at_reached, chained_in, at_mode, begun_type, with_member, is_cell, length_of}
use Rattle.ceal_grammar.specs.Machine.{at_member_end, at_length, begun_struct, at_struct, with_parameter, at_head}
use Rattle.ceal_grammar.specs.Machine.{at_part, at_top, step}
use Rattle.ceal_grammar.proofs.Telling.{sign_true, word_true, sign_is, word_is}
use Rattle.ceal_grammar.proofs.Future.{AfterSign, AfterWord, AfterName, TopFuture, StarOr, TypeFuture, Each, BodyFuture}
use Rattle.ceal_grammar.proofs.Future.{OtherFuture, OwnedFuture, CloseFuture, InBody, SemiFuture, ClosedFuture}
use Rattle.ceal_grammar.proofs.Future.{BlockFuture, ReceiverFuture, FramesFuture, OperandFuture, without_index}
use Rattle.ceal_grammar.proofs.Future.{WantFuture, PostFuture, HaveFuture, ElementFuture, PlaceFuture, ArgumentsFuture}
use Rattle.ceal_grammar.proofs.Future.{ValueFuture, hops, ReachedFuture, PathFuture, MakingFuture, NamedFuture}
use Rattle.ceal_grammar.proofs.Future.{ModeFuture, MembersFuture, LengthFuture, EndFuture, StructFuture, OthersFuture}
use Rattle.ceal_grammar.proofs.Future.{ParametersFuture, OwnFuture, ShapeFuture, HeadFuture, Future}

pub wanted : {A : Type 0} (b : Bool) (x y : A) → wants b x ≡ Some y → (b ≡ true) × (x ≡ y)
wanted true x y h = (refl, cc)
wanted false x y h = absurd (cc)

pub chosen : {A : Type 0} (b : Bool) (x y : Option A) (z : A) → (if b then x else y) ≡ Some z → ((b ≡ true) × (x ≡ Some z)) ⊎ ((b ≡ false) × (y ≡ Some z))
chosen true x y z h = inl (refl, h)
chosen false x y z h = inr (refl, h)

pub got : {A : Type 0} (x y : A) → Some x ≡ Some y → x ≡ y
got x y h = cc

pub never : {P : Type 0} (τ : State) → None ≡ Some τ → P
never τ h = absurd (cc)

-- the future of the state that a step gives
pub at_next : (u : List Token) (σ τ : State) → Some σ ≡ Some τ → Future τ u → Future σ u
at_next u σ τ h f = subst (λ (ρ : State). Future ρ u) (sym (got σ τ h)) f

pub at_wanted : (u : List Token) (b : Bool) (σ τ : State) → wants b σ ≡ Some τ → Future τ u → Future σ u
at_wanted u b σ τ h f = subst (λ (ρ : State). Future ρ u) (sym ((wanted b σ τ h).1)) f

-- the same at a place within a body
pub chosen_in : (i : Inside) (b : Bool) (x y : Option Mode) (τ : State) → state_in i (if b then x else y) ≡ Some τ → ((b ≡ true) × (state_in i x ≡ Some τ)) ⊎ ((b ≡ false) × (state_in i y ≡ Some τ))
chosen_in i true x y τ h = inl (refl, h)
chosen_in i false x y τ h = inr (refl, h)

pub wanted_in : (i : Inside) (b : Bool) (m : Mode) (τ : State) → state_in i (wants b m) ≡ Some τ → wants b (In i m) ≡ Some τ
wanted_in i true m τ h = h
wanted_in i false m τ h = h

pub name_in : (i : Inside) (g : Ident → Mode) (s : Span) (k : TokenKind) (τ : State) → state_in i (at_name g s k) ≡ Some τ → at_name (λ x. In i (g x)) s k ≡ Some τ
name_in i g s (Name x) τ h = h
name_in i g s (Number x) τ h = h
name_in i g s (Reserved x) τ h = h
name_in i g s (Sign x) τ h = h
name_in i g s End τ h = h
name_in i g s Cut τ h = h

pub typed_in : (i : Inside) (on : TypePart → Mode) (done : TypeForm → Ident → Mode) (o : Option Typing) (τ : State)
    → state_in i (with_typing on done o) ≡ Some τ → with_typing (λ p. In i (on p)) (λ form x. In i (done form x)) o ≡ Some τ
typed_in i on done None τ h = h
typed_in i on done (Some (MoreType p)) τ h = h
typed_in i on done (Some (NamedType form x)) τ h = h

-- the same token by its kind
pub same_kind : (k l : TokenKind) (s : Span) (u : List Token) → k ≡ l → word k s ∷ u ≡ word l s ∷ u
same_kind k l s u h = ap (λ (j : TokenKind). word j s ∷ u) h

abbrev then_word : TokenKind → Span → List Token → List Token
then_word k s v = word k s ∷ v

-- one more token before what follows
ahead : (k : TokenKind) (s : Span) (u v : List Token) → u ≡ v → word k s ∷ u ≡ word k s ∷ v
ahead k s u v e = ap (then_word k s) e

-- the same, where the token's kind is known by an equation
behind : (k l : TokenKind) (s : Span) (u v : List Token) → k ≡ l → u ≡ v → word k s ∷ u ≡ word l s ∷ v
behind k l s u v h e = same_kind k l s u h ∙ ahead l s u v e

-- a statement before others
put : (close : List Token → Type 0) (st : Statement) (u v : List Token) → StatementProper st → u ≡ statement st v → BodyFuture close v → BodyFuture close u
unfolding statement StatementProper
put close st u v g e b = (followed st b.0, b.1, b.2, (g, b.3), e ∙ ap (statement st) b.4, b.5)

closed_back : (i : Inside) (h : Head) (ds : List Stmt) (os : List Opened) (s : Span) (u : List Token) → Future (block_closed i.entries h ds os s) u → CloseFuture os u
unfolding CloseFuture
closed_back i h ds [] s u f = f
closed_back i h ds (o ∷ os) s u f = owner_back o.owner f
  where
    owner_back : (w : Owner)
        → Future (In (record { entries = i.entries; head = h; opened = os; done = o.before; chain = o.chain; base = o.base; nesting = o.nesting }) (mode_after_block w ds)) u
        → OwnedFuture w (BodyFuture (CloseFuture os)) u
    owner_back (OfWhile at e) f = f
    owner_back (OfThen at e) f = f
    owner_back (OfElse at e first) f = f

module _ (s : Span) (τ : State) (u : List Token) where
  -- a name, and what follows it
  at_name_back : (g : Ident → State) (next : List Token → Type 0) → ((x : Ident) → Future (g x) u → next u)
      → (k : TokenKind) → at_name g s k ≡ Some τ → Future τ u → AfterName next (word k s ∷ u)
  at_name_back g next c (Name x) h f = (record { text = x; span = s }, u, refl, c (record { text = x; span = s }) (at_next u _ τ h f))
  at_name_back g next c (Number x) h f = never τ h
  at_name_back g next c (Reserved x) h f = never τ h
  at_name_back g next c (Sign x) h f = never τ h
  at_name_back g next c End h f = never τ h
  at_name_back g next c Cut h f = never τ h

  -- a sign or a word, and what follows it
  sign_wanted : (l : SignOf) (k : TokenKind) (ρ : State) (next : List Token → Type 0) → (Future ρ u → next u) → wants (is_sign l k) ρ ≡ Some τ → Future τ u → AfterSign l next (word k s ∷ u)
  sign_wanted l k ρ next g h f = (s, u, same_kind _ _ s u (sign_is l k (wanted _ _ τ h).0), g (at_wanted u _ _ τ h f))

  word_wanted : (l : ReservedWord) (k : TokenKind) (ρ : State) (next : List Token → Type 0) → (Future ρ u → next u) → wants (is_word l k) ρ ≡ Some τ → Future τ u → AfterWord l next (word k s ∷ u)
  word_wanted l k ρ next g h f = (s, u, same_kind _ _ s u (word_is l k (wanted _ _ τ h).0), g (at_wanted u _ _ τ h f))

-- Types.
begun_tells : (k : ReservedWord) (p : TypePart) → type_begin k ≡ Some p
    → ((k ≡ Words.Int) × (Types.Done Forms.Int ≡ p)) ⊎ (((k ≡ Words.Struct) × (Types.Struct ≡ p)) ⊎ ((k ≡ Words.Mod) × (Types.Mod ≡ p)))
begun_tells k p h = elim (chosen (same_word k Words.Int) (Some (Types.Done Forms.Int)) (later k) p h) [
  | inl a ↦ inl (word_true k Words.Int a.0, got _ p a.1)
  | inr a ↦ elim (chosen (same_word k Words.Struct) (Some Types.Struct) (wants (same_word k Words.Mod) Types.Mod) p a.1) [
    | inl b ↦ inr (inl (word_true k Words.Struct b.0, got _ p b.1))
    | inr b ↦ let w = wanted (same_word k Words.Mod) Types.Mod p b.1 in inr (inr (word_true k Words.Mod w.0, w.1))
  ]
]
  where
    later : ReservedWord → Option TypePart
    later k = if same_word k Words.Struct then Some Types.Struct else wants (same_word k Words.Mod) Types.Mod

-- a whole type and the name after it
abbrev TypeAnd : Bool → (Bool → List Token → Type 0) → List Token → Type 0
TypeAnd cells next u = (w : Written) × (x : Ident) × (v : List Token) × Allowed cells w × (u ≡ type_words w (named x ∷ v)) × next (is_cell (type_form w)) v

module _ (cells : Bool) (next : Bool → List Token → Type 0) (s : Span) (u : List Token) where
  starred_int : (at : Span) → StarOr cells next u → TypeAnd cells next (word (Reserved Words.Mod) at ∷ word (Reserved Words.Int) s ∷ u)
  starred_int at (inl f) = let n = f.3 in
      (mod_int at s f.0, n.0, n.1, tt, ahead (Reserved Words.Mod) at _ _ (ahead (Reserved Words.Int) s _ _ (f.2 ∙ ahead (Sign Signs.Star) f.0 _ _ n.2)), n.3)
  starred_int at (inr f) = let n = f.1 in
      (cell_int at s, n.0, n.1, f.0, ahead (Reserved Words.Mod) at _ _ (ahead (Reserved Words.Int) s _ _ n.2), n.3)

  starred_pointer : (at : Span) (y : Ident) → StarOr cells next u → TypeAnd cells next (word (Reserved Words.Mod) at ∷ word (Reserved Words.Struct) s ∷ named y ∷ u)
  starred_pointer at y (inl f) = let n = f.3 in (
    mod_pointer at s y f.0,
    n.0,
    n.1,
    tt,
    ahead (Reserved Words.Mod) at _ _ (ahead (Reserved Words.Struct) s _ _ (ahead (Name y.text) y.span _ _ (f.2 ∙ ahead (Sign Signs.Star) f.0 _ _ n.2))),
    n.3,
  )
  starred_pointer at y (inr f) = let n = f.1 in
      (cell_pointer at s y, n.0, n.1, f.0, ahead (Reserved Words.Mod) at _ _ (ahead (Reserved Words.Struct) s _ _ (ahead (Name y.text) y.span _ _ n.2)), n.3)

module _ (cells : Bool) (next : Bool → List Token → Type 0) (s : Span) (u : List Token) where
  begun_back : (k : ReservedWord) (p : TypePart) → type_begin k ≡ Some p → TypeFuture cells next p u → TypeAnd cells next (word (Reserved k) s ∷ u)
  begun_back k p h f = elim (begun_tells k p h) [
    | inl a ↦ let n = subst (λ (q : TypePart). TypeFuture cells next q u) (sym a.1) f in
        (int s, n.0, n.1, tt, behind _ _ s _ _ (ap Reserved a.0) n.2, n.3)
    | inr r ↦ elim r [
      | inl a ↦ let n = subst (λ (q : TypePart). TypeFuture cells next q u) (sym a.1) f in let m = n.3 in let o = m.3 in
          (pointer s n.0 m.0, o.0, o.1, tt, behind _ _ s _ _ (ap Reserved a.0) (n.2 ∙ ahead _ _ _ _ (m.2 ∙ ahead _ _ _ _ o.2)), o.3)
      | inr a ↦ subst (λ (j : ReservedWord). TypeAnd cells next (word (Reserved j) s ∷ u)) (sym a.0)
          (mod_back (subst (λ (q : TypePart). TypeFuture cells next q u) (sym a.1) f))
    ]
  ]
    where
      mod_back : TypeFuture cells next Types.Mod u → TypeAnd cells next (word (Reserved Words.Mod) s ∷ u)
      mod_back (inl f) =
          let t = starred_int cells next f.0 f.1 s f.3 in (t.0, t.1, t.2, t.3, ahead (Reserved Words.Mod) s _ _ f.2 ∙ t.4, t.5)
      mod_back (inr f) =
          let n = f.3 in let t = starred_pointer cells next f.0 n.1 s n.0 n.3 in
          (t.0, t.1, t.2, t.3, ahead (Reserved Words.Mod) s _ _ (f.2 ∙ ahead (Reserved Words.Struct) f.0 _ _ n.2) ∙ t.4, t.5)

module _ (cells : Bool) (next : Bool → List Token → Type 0) (s : Span) (τ : State) (u : List Token) (on : TypePart → State) (done : TypeForm → Ident → State)
    (from_on : (p : TypePart) → Future (on p) u → TypeFuture cells next p u) (from_done : (form : TypeForm) (x : Ident) → Future (done form x) u → next (is_cell form) u) where
  abbrev Typed : Option Typing → Type 0
  Typed o = with_typing on done o ≡ Some τ

  choose : (b : Bool) (x y : Option Typing) → Typed (if b then x else y) → ((b ≡ true) × Typed x) ⊎ ((b ≡ false) × Typed y)
  choose true x y h = inl (refl, h)
  choose false x y h = inr (refl, h)

  name_on : (g : Ident → TypePart) (k : TokenKind) (P : List Token → Type 0) → ((x : Ident) → TypeFuture cells next (g x) u → P u)
      → Typed (at_name (λ x. MoreType (g x)) s k) → Future τ u → AfterName P (word k s ∷ u)
  name_on g (Name x) P c h f = (record { text = x; span = s }, u, refl, c (record { text = x; span = s }) (from_on (g (record { text = x; span = s })) (at_next u _ τ h f)))
  name_on g (Number x) P c h f = never τ h
  name_on g (Reserved x) P c h f = never τ h
  name_on g (Sign x) P c h f = never τ h
  name_on g End P c h f = never τ h
  name_on g Cut P c h f = never τ h

  name_done : (form : TypeForm) (k : TokenKind) → Typed (at_name (λ x. NamedType form x) s k) → Future τ u → AfterName (next (is_cell form)) (word k s ∷ u)
  name_done form (Name x) h f = (record { text = x; span = s }, u, refl, from_done form (record { text = x; span = s }) (at_next u _ τ h f))
  name_done form (Number x) h f = never τ h
  name_done form (Reserved x) h f = never τ h
  name_done form (Sign x) h f = never τ h
  name_done form End h f = never τ h
  name_done form Cut h f = never τ h

  star_back : (form cell : TypeForm) → is_cell form ≡ false → is_cell cell ≡ true
      → (k : TokenKind) → Typed (star_or cells form cell s k) → Future τ u → StarOr cells next (word k s ∷ u)
  star_back form cell plain one k h f =
      elim (choose (is_sign Signs.Star k) (Some (MoreType (Types.Done form))) (if cells then at_name (λ x. NamedType cell x) s k else None) h) [
        | inl a ↦ inl (s, u, same_kind _ _ s u (sign_is Signs.Star k a.0), subst (λ (b : Bool). AfterName (next b) u) plain (from_on (Types.Done form) (at_next u _ τ a.1 f)))
        | inr a ↦ elim (choose cells (at_name (λ x. NamedType cell x) s k) None a.1)
            [ inl b ↦ inr (b.0, subst (λ (b : Bool). AfterName (next b) (word k s ∷ u)) one (name_done cell k b.1 f)) | inr b ↦ never τ b.1 ]
      ]

  type_back : (p : TypePart) (k : TokenKind) → Typed (at_type cells p s k) → Future τ u → TypeFuture cells next p (word k s ∷ u)
  type_back Types.Struct k h f = name_on (λ x. Types.StructNamed x) k (AfterSign Signs.Star (AfterName (next false))) (λ x g. g) h f
  type_back (Types.StructNamed y) k h f =
      elim (choose (is_sign Signs.Star k) (Some (MoreType (Types.Done (Forms.Ptr y)))) None h)
      [ inl a ↦ (s, u, same_kind _ _ s u (sign_is Signs.Star k a.0), from_on (Types.Done (Forms.Ptr y)) (at_next u _ τ a.1 f)) | inr a ↦ never τ a.1 ]
  type_back Types.Mod k h f =
      elim (choose (is_word Words.Int k) (Some (MoreType Types.ModInt)) (wants (is_word Words.Struct k) (MoreType Types.ModStruct)) h) [
        | inl a ↦ inl (s, u, same_kind _ _ s u (word_is Words.Int k a.0), from_on Types.ModInt (at_next u _ τ a.1 f))
        | inr a ↦ elim (choose (is_word Words.Struct k) (Some (MoreType Types.ModStruct)) None a.1)
            [ inl b ↦ inr (s, u, same_kind _ _ s u (word_is Words.Struct k b.0), from_on Types.ModStruct (at_next u _ τ b.1 f)) | inr b ↦ never τ b.1 ]
      ]
  type_back Types.ModInt k h f = star_back Forms.ModInt Forms.CellInt refl refl k h f
  type_back Types.ModStruct k h f = name_on (λ x. Types.ModNamed x) k (StarOr cells next) (λ x g. g) h f
  type_back (Types.ModNamed y) k h f = star_back (Forms.ModPtr y) (Forms.CellPtr y) refl refl k h f
  type_back (Types.Done form) k h f = name_done form k h f

-- Paths: an arrow and a name after a path make a longer one.
pub record Way : Type 0 where
  pub path : Phrase
  pub at : Span
  pub field : Ident

unfoldable way : Phrase → Span → Ident → List (Span × Ident) → Way
way p s y [] = record { path = p; at = s; field = y }
way p s y (a ∷ l) = way (arrow p s y) a.0 a.1 l

way_path : (p : Phrase) (s : Span) (y : Ident) (l : List (Span × Ident)) → IsPath p → IsPath (way p s y l).path
unfolding way
way_path p s y [] h = h
way_path p s y (a ∷ l) h = way_path (arrow p s y) a.0 a.1 l h

way_words : (p : Phrase) (s : Span) (y : Ident) (l : List (Span × Ident)) (u : List Token)
    → phrase p (word (Sign Signs.Arrow) s ∷ named y ∷ hops l u) ≡ phrase (way p s y l).path (word (Sign Signs.Arrow) (way p s y l).at ∷ named (way p s y l).field ∷ u)
unfolding way hops phrase
way_words p s y [] u = refl
way_words p s y (a ∷ l) u = way_words (arrow p s y) a.0 a.1 l u

module _ (i : Inside) (s : Span) (τ : State) (u : List Token) where
  -- a field assignment, by its path so far
  set_back : (p : Phrase) → IsPath p → AfterSign Signs.Arrow (PathFuture i) u → InBody i (phrase p u)
  unfolding statement StatementProper
  set_back p h f =
      let y = f.3 in let r = y.3 in let semi = r.6 in
      let w = way p f.0 y.0 r.0 in
      put _ (set w.path w.at w.field r.1 r.2 semi.0) _ semi.1 (way_path p f.0 y.0 r.0 h, r.4)
      (ap (phrase p) (f.2 ∙ ahead (Sign Signs.Arrow) f.0 _ _ (y.2 ∙ ahead (Name y.0.text) y.0.span _ _ (r.5 ∙ ap (λ (v : List Token). hops r.0 (word (Sign Signs.Equals) r.1 ∷ phrase r.2 v)) semi.2)))
      ∙ way_words p f.0 y.0 r.0 _) semi.3

  named_back : (x : List ℕ) → NamedFuture i u → InBody i (word (Name x) s ∷ u)
  unfolding statement StatementProper phrase
  named_back x (inl f) =
      let g = f.3 in let semi = g.4 in
      put _ (assign (record { text = x; span = s }) f.0 g.0 semi.0) _ semi.1 g.2
      (ahead (Name x) s _ _ (f.2 ∙ ahead (Sign Signs.Equals) f.0 _ _ (g.3 ∙ ap (given_words g.0) semi.2))) semi.3
  named_back x (inr (inl f)) =
      let a = f.3 in let semi = a.5 in
      put _ (call (record { text = x; span = s }) f.0 a.0 a.1 semi.0) _ semi.1 a.3
      (ahead (Name x) s _ _ (f.2 ∙ ahead (Sign Signs.LeftParenthesis) f.0 _ _ (a.4 ∙ ap (λ (v : List Token). argument_words a.0 (word (Sign Signs.RightParenthesis) a.1 ∷ v)) semi.2))) semi.3
  named_back x (inr (inr f)) = set_back (variable (record { text = x; span = s })) tt f

  typing_back : (k : ReservedWord) (p : TypePart) → type_begin k ≡ Some p → TypeFuture false (Each (AfterSign Signs.Equals (ValueFuture i))) p u → InBody i (word (Reserved k) s ∷ u)
  unfolding statement StatementProper
  typing_back k p h f =
      let t = begun_back false (Each (AfterSign Signs.Equals (ValueFuture i))) s u k p h f in
      let q = t.5 in let g = q.3 in let semi = g.4 in
      put _ (declare t.0 t.1 q.0 g.0 semi.0) _ semi.1 (t.3, g.2)
      (t.4 ∙ ap (λ (v : List Token). type_words t.0 (named t.1 ∷ v)) (q.2 ∙ ahead (Sign Signs.Equals) q.0 _ _ (g.3 ∙ ap (given_words g.0) semi.2))) semi.3

  -- the rest of an `if`
  if_rest : Future (In i (Modes.Before (To.If s))) u → (b : Branch) × (v : List Token) × BranchProper b × (word (Reserved Words.If) s ∷ u ≡ branch_words b v) × InBody i v
  unfolding FramesFuture statement StatementProper
  if_rest f =
      let w = f.3 in
      let r = w.4 in
      let b = r.3 in
      let o = b.4 in (
        when s f.0 w.0 r.0 b.0 o.0,
        o.1,
        (w.2, b.2, o.2),
        ahead (Reserved Words.If) s _ _ (f.2 ∙ ahead (Sign Signs.LeftParenthesis) f.0 _ _
            (w.3 ∙ ap (phrase w.0) (r.2 ∙ ahead (Sign Signs.RightParenthesis) r.0 _ _ (b.3 ∙ ap (block_words b.0) o.3)))),
        o.4,
      )

  while_back : Future (In i (Modes.Before (To.While s))) u → InBody i (word (Reserved Words.While) s ∷ u)
  unfolding FramesFuture statement StatementProper
  while_back f =
      let w = f.3 in
      let r = w.4 in
      let b = r.3 in
      put _ (loop s f.0 w.0 r.0 b.0) _ b.1 (w.2, b.2)
      (ahead (Reserved Words.While) s _ _ (f.2 ∙ ahead (Sign Signs.LeftParenthesis) f.0 _ _ (w.3 ∙ ap (phrase w.0) (r.2 ∙ ahead (Sign Signs.RightParenthesis) r.0 _ _ b.3)))) b.4

  write_back : Future (In i (Modes.Before (To.Write s))) u → InBody i (word (Reserved Words.Write) s ∷ u)
  unfolding FramesFuture statement StatementProper
  write_back f =
      let w = f.3 in
      let r = w.4 in
      let semi = r.6 in
      put _ (store s f.0 w.0 r.0 r.1 r.2 semi.0) _ semi.1 (w.2, r.4)
      (ahead (Reserved Words.Write) s _ _ (f.2 ∙ ahead (Sign Signs.LeftParenthesis) f.0 _ _ (w.3 ∙ ap (phrase w.0)
      (r.5 ∙ ahead (Sign Signs.Comma) r.0 _ _ (ap (λ (v : List Token). phrase r.1 (word (Sign Signs.RightParenthesis) r.2 ∷ v)) semi.2))))) semi.3

  abbrev at_word_7 : ReservedWord → Option Mode
  at_word_7 k = wants (same_word k Words.Own) (Modes.Owned s)

  abbrev at_word_6 : ReservedWord → Option Mode
  at_word_6 k = if same_word k Words.Write then Some (Modes.Before (To.Write s)) else at_word_7 k

  abbrev at_word_5 : ReservedWord → Option Mode
  at_word_5 k = if same_word k Words.Continue then Some (Modes.Ends (Continue s)) else at_word_6 k

  abbrev at_word_4 : ReservedWord → Option Mode
  at_word_4 k = if same_word k Words.Break then Some (Modes.Ends (Break s)) else at_word_5 k

  abbrev at_word_3 : ReservedWord → Option Mode
  at_word_3 k = if same_word k Words.Return then Some (Modes.Ends (Return s)) else at_word_4 k

  abbrev at_word_2 : ReservedWord → Option Mode
  at_word_2 k = if same_word k Words.While then Some (Modes.Before (To.While s)) else at_word_3 k

  abbrev Backed : ReservedWord → Type 0
  Backed k = InBody i (word (Reserved k) s ∷ u)

  backed : (k l : ReservedWord) → same_word k l ≡ true → Backed l → Backed k
  backed k l e b = subst Backed (sym (word_true k l e)) b

  statement_back : (k : ReservedWord) → state_in i (at_statement s k) ≡ Some τ → Future τ u → Backed k
  unfolding statement StatementProper phrase
  statement_back k h f = elim (chosen_in i (same_word k Words.If) (Some (Modes.Before (To.If s))) (at_word_2 k) τ h) [
    | inl q ↦ backed k Words.If q.0 (let b = if_rest (at_next u _ τ q.1 f) in put _ (branch b.0) _ b.1 b.2 b.3 b.4)
    | inr q ↦ elim (chosen_in i (same_word k Words.While) (Some (Modes.Before (To.While s))) (at_word_3 k) τ q.1) [
      | inl r ↦ backed k Words.While r.0 (while_back (at_next u _ τ r.1 f))
      | inr r ↦ elim (chosen_in i (same_word k Words.Return) (Some (Modes.Ends (Return s))) (at_word_4 k) τ r.1) [
        | inl a ↦ backed k Words.Return a.0 (let g = at_next u _ τ a.1 f in put _ (exit s g.0) _ g.1 tt (ahead (Reserved Words.Return) s _ _ g.2) g.3)
        | inr a ↦ elim (chosen_in i (same_word k Words.Break) (Some (Modes.Ends (Break s))) (at_word_5 k) τ a.1) [
          | inl b ↦ backed k Words.Break b.0 (let g = at_next u _ τ b.1 f in put _ (break s g.0) _ g.1 tt (ahead (Reserved Words.Break) s _ _ g.2) g.3)
          | inr b ↦ elim (chosen_in i (same_word k Words.Continue) (Some (Modes.Ends (Continue s))) (at_word_6 k) τ b.1) [
            | inl c ↦ backed k Words.Continue c.0 (let g = at_next u _ τ c.1 f in put _ (continue s g.0) _ g.1 tt (ahead (Reserved Words.Continue) s _ _ g.2) g.3)
            | inr c ↦ elim (chosen_in i (same_word k Words.Write) (Some (Modes.Before (To.Write s))) (at_word_7 k) τ c.1) [
              | inl d ↦ backed k Words.Write d.0 (write_back (at_next u _ τ d.1 f))
              | inr d ↦ let w = wanted_in i _ _ τ d.1 in backed k Words.Own (wanted _ _ τ w).0 (set_back (own s) tt (at_wanted u _ _ τ w f))
            ]
          ]
        ]
      ]
    ]
  ]

  word_back : (k : ReservedWord) (o : Option TypePart) → type_begin k ≡ o → state_in i (at_word s k o) ≡ Some τ → Future τ u → Backed k
  word_back k (Some p) e h f = typing_back k p e (at_next u _ τ h f)
  word_back k None e h f = statement_back k h f

  body_back : (k : TokenKind) → at_body i s k ≡ Some τ → Future τ u → InBody i (word k s ∷ u)
  unfolding statement StatementProper
  body_back (Name x) h f = named_back x (at_next u _ τ h f)
  body_back (Reserved w) h f = word_back w (type_begin w) refl h f
  body_back (Sign c) h f =
      (ended, s, u, tt, same_kind _ _ s u (ap Sign (sign_true c Signs.RightBrace (wanted _ _ τ h).0)), closed_back i i.head i.done i.opened s u (at_wanted u _ _ τ h f))
  body_back (Number v) h f = never τ h
  body_back End h f = never τ h
  body_back Cut h f = never τ h

-- Expressions.
operator_is : (c : SignOf) (op : BinaryOp) → operator_of c ≡ Some op → c ≡ sign_of op
operator_is Signs.Plus op h = ap sign_of (got _ op h)
operator_is Signs.Minus op h = ap sign_of (got _ op h)
operator_is Signs.Star op h = ap sign_of (got _ op h)
operator_is Signs.Slash op h = ap sign_of (got _ op h)
operator_is Signs.Percent op h = ap sign_of (got _ op h)
operator_is Signs.Less op h = ap sign_of (got _ op h)
operator_is Signs.LessEquals op h = ap sign_of (got _ op h)
operator_is Signs.Greater op h = ap sign_of (got _ op h)
operator_is Signs.GreaterEquals op h = ap sign_of (got _ op h)
operator_is Signs.EqualsEquals op h = ap sign_of (got _ op h)
operator_is Signs.BangEquals op h = ap sign_of (got _ op h)
operator_is Signs.AndAnd op h = ap sign_of (got _ op h)
operator_is Signs.BarBar op h = ap sign_of (got _ op h)
operator_is Signs.Arrow op h = absurd (cc)
operator_is Signs.Bang op h = absurd (cc)
operator_is Signs.Ampersand op h = absurd (cc)
operator_is Signs.Equals op h = absurd (cc)
operator_is Signs.LeftParenthesis op h = absurd (cc)
operator_is Signs.RightParenthesis op h = absurd (cc)
operator_is Signs.LeftBrace op h = absurd (cc)
operator_is Signs.RightBrace op h = absurd (cc)
operator_is Signs.Comma op h = absurd (cc)
operator_is Signs.Semicolon op h = absurd (cc)
operator_is Signs.LeftBracket op h = absurd (cc)
operator_is Signs.RightBracket op h = absurd (cc)

operator_infix : (c : SignOf) (op : BinaryOp) → operator_of c ≡ Some op → IsInfix op
operator_infix Signs.Plus op h = subst IsInfix (got _ op h) tt
operator_infix Signs.Minus op h = subst IsInfix (got _ op h) tt
operator_infix Signs.Star op h = subst IsInfix (got _ op h) tt
operator_infix Signs.Slash op h = subst IsInfix (got _ op h) tt
operator_infix Signs.Percent op h = subst IsInfix (got _ op h) tt
operator_infix Signs.Less op h = subst IsInfix (got _ op h) tt
operator_infix Signs.LessEquals op h = subst IsInfix (got _ op h) tt
operator_infix Signs.Greater op h = subst IsInfix (got _ op h) tt
operator_infix Signs.GreaterEquals op h = subst IsInfix (got _ op h) tt
operator_infix Signs.EqualsEquals op h = subst IsInfix (got _ op h) tt
operator_infix Signs.BangEquals op h = subst IsInfix (got _ op h) tt
operator_infix Signs.AndAnd op h = subst IsInfix (got _ op h) tt
operator_infix Signs.BarBar op h = subst IsInfix (got _ op h) tt
operator_infix Signs.Arrow op h = absurd (cc)
operator_infix Signs.Bang op h = absurd (cc)
operator_infix Signs.Ampersand op h = absurd (cc)
operator_infix Signs.Equals op h = absurd (cc)
operator_infix Signs.LeftParenthesis op h = absurd (cc)
operator_infix Signs.RightParenthesis op h = absurd (cc)
operator_infix Signs.LeftBrace op h = absurd (cc)
operator_infix Signs.RightBrace op h = absurd (cc)
operator_infix Signs.Comma op h = absurd (cc)
operator_infix Signs.Semicolon op h = absurd (cc)
operator_infix Signs.LeftBracket op h = absurd (cc)
operator_infix Signs.RightBracket op h = absurd (cc)

-- operators that take a piece leave the future as it is
kept : (i : Inside) (r : Receiver) (l : ℕ) (p : Piece) (fs : List Frame) (u : List Token)
    → FramesFuture i r (reduction l p fs).frames u → FramesFuture i r fs u
unfolding reduction FramesFuture
kept i r l p [] u f = f
kept i r l p (Open s d ∷ fs) u f = f
kept i r l p (Index s e d ∷ fs) u f = f
kept i r l p (Prefix op s ∷ fs) u f = kept i r l (prefix_piece op s p) fs u f
kept i r l p (AddressOf s ∷ fs) u f = kept i r l (address_piece s p) fs u f
kept i r l p (Left a op s ∷ fs) u f = elim (leb_tells l (level op))
    [ inl t ↦ kept i r l (infix_piece a op s p) fs u (rw t.0 at f) | inr t ↦ rw t.0 at f ]

module _ (i : Inside) (s : Span) (τ : State) (u : List Token) where
  ended_at : (c l : SignOf) (ρ : State) → wants (same_sign c l) ρ ≡ Some τ → (next : List Token → Type 0) → (Future ρ u → next u) → Future τ u → AfterSign l next (word (Sign c) s ∷ u)
  ended_at c l ρ h next g f = (s, u, same_kind _ _ s u (ap Sign (sign_true c l (wanted _ _ τ h).0)), g (at_wanted u _ _ τ h f))

  receiver_back : (r : Receiver) (d : ℕ) (e : Expr) (c : SignOf) → at_expression_end i d r e c ≡ Some τ → Future τ u → ReceiverFuture i r (word (Sign c) s ∷ u)
  unfolding FramesFuture items AllGrouped
  receiver_back (To.Value t) d e c h f = ended_at c Signs.Semicolon (In (with_statement i (value_statement t (Values.Plain e))) Modes.Body) h (InBody i) (λ g. g) f
  receiver_back (To.Read t at) d e c h f = ended_at c Signs.RightParenthesis (In i (Modes.Ends (value_statement t (Values.Read at e)))) (wanted_in i _ _ τ h) (SemiFuture i) (λ g. g) f
  receiver_back (To.Argument x args) d e c h f =
      elim (chosen_in i (same_sign c Signs.Comma)
      (Some (Modes.Within (new_whole d (To.Argument x (args ++ e ∷ []))) Want))
      (wants (same_sign c Signs.RightParenthesis) (Modes.Ends (call_statement x (args ++ e ∷ [])))) τ h) [
        | inl p ↦ let w = at_next u _ τ p.1 f in let a = w.4 in
            ((s, w.0) ∷ a.0, a.1, a.2, (w.2, a.3), behind _ _ s _ _ (ap Sign (sign_true c Signs.Comma p.0)) (w.3 ∙ ap (phrase w.0) a.4), a.5)
        | inr p ↦ let q = wanted_in i _ _ τ p.1 in ([], s, u, tt, same_kind _ _ s u (ap Sign (sign_true c Signs.RightParenthesis (wanted _ _ τ q).0)), at_wanted u _ _ τ q f)
      ]
  receiver_back (To.Set a x) d e c h f = ended_at c Signs.Semicolon (In (with_statement i (SetField a.span a x e)) Modes.Body) h (InBody i) (λ g. g) f
  receiver_back (To.Write at) d e c h f =
      let q = wanted_in i _ _ τ h in let w = at_wanted u _ _ τ q f in let p = w.4 in
      (s, w.0, p.0, p.1, w.2, behind _ _ s _ _ (ap Sign (sign_true c Signs.Comma (wanted _ _ τ q).0)) (w.3 ∙ ap (phrase w.0) p.2), p.3)
  receiver_back (To.Store at a) d e c h f = ended_at c Signs.RightParenthesis (In i (Modes.Ends (Write at a e))) (wanted_in i _ _ τ h) (SemiFuture i) (λ g. g) f
  receiver_back (To.If at) d e c h f = ended_at c Signs.RightParenthesis (In i (Modes.Opens (OfThen at e))) (wanted_in i _ _ τ h) (BlockFuture (OtherFuture (InBody i))) (λ g. g) f
  receiver_back (To.While at) d e c h f = ended_at c Signs.RightParenthesis (In i (Modes.Opens (OfWhile at e))) (wanted_in i _ _ τ h) (BlockFuture (InBody i)) (λ g. g) f

  closes_back : (w : Whole) (c : SignOf) (p : Piece) (fs : List Frame) → closes i w c p fs ≡ Some τ → Future τ u → FramesFuture i w.receiver fs (word (Sign c) s ∷ u)
  unfolding FramesFuture
  closes_back w c p [] h f = receiver_back w.receiver w.nesting p.expr c h f
  closes_back w c p (Open o d ∷ fs) h f =
      let t = at_wanted u _ _ τ h f in
      (s, t.0, t.1, t.2, behind _ _ s _ _ (ap Sign (sign_true c Signs.RightParenthesis (wanted _ _ τ h).0)) t.3, t.4)
  closes_back w c p (Index o e d ∷ fs) h f =
      let t = at_wanted u _ _ τ h f in
      (s, t.0, t.1, t.2, behind _ _ s _ _ (ap Sign (sign_true c Signs.RightBracket (wanted _ _ τ h).0)) t.3, t.4)
  closes_back w c p (Prefix op o ∷ fs) h f = never τ h
  closes_back w c p (AddressOf o ∷ fs) h f = never τ h
  closes_back w c p (Left a op o ∷ fs) h f = never τ h

  sign_back : (w : Whole) (p : Piece) (c : SignOf) (o : Option BinaryOp) → operator_of c ≡ o
      → at_sign_after i w p s c o ≡ Some τ → Future τ u → ElementFuture i w.receiver w.frames (word (Sign c) s ∷ u)
  unfolding FramesFuture behind_words BehindGrouped
  sign_back w p c (Some op) e h f =
      let t = at_next u _ τ h f in
      (more op s t.0, t.1, (operator_infix c op e, t.2), behind _ _ s _ _ (ap Sign (operator_is c op e)) t.3, kept i w.receiver (level op) p w.frames _ t.4)
  sign_back w p c None e h f =
      let q = reduction 0 p w.frames in
      (stop, _, tt, refl, kept i w.receiver 0 p w.frames _ (closes_back w c q.piece q.frames h f))

  element_back : (w : Whole) (p : Piece) (k : TokenKind) → at_element i w p s k ≡ Some τ → Future τ u → ElementFuture i w.receiver w.frames (word k s ∷ u)
  element_back w p (Sign c) h f = sign_back w p c (operator_of c) refl h f
  element_back w p (Name x) h f = never τ h
  element_back w p (Number x) h f = never τ h
  element_back w p (Reserved x) h f = never τ h
  element_back w p End h f = never τ h
  element_back w p Cut h f = never τ h

  index_back : (w : Whole) (p : Piece) (k : TokenKind) (fs : List Frame) → k ≡ Sign Signs.LeftBracket → at_index i w p fs ≡ Some τ → Future τ u
      → HaveFuture i w.receiver fs (word k s ∷ u)
  unfolding FramesFuture tail_words TailGrouped
  index_back w p k (AddressOf o ∷ fs) e h f =
      let t = at_next u _ τ h f in let b = t.4 in
      (index s t.0 b.0 b.1, b.2, (tt, t.2, b.3), behind _ _ s _ _ e (t.3 ∙ ap (phrase t.0) b.4), b.5)
  index_back w p k [] e h f = never τ h
  index_back w p k (Open o d ∷ fs) e h f = never τ h
  index_back w p k (Index o x d ∷ fs) e h f = never τ h
  index_back w p k (Prefix op o ∷ fs) e h f = never τ h
  index_back w p k (Left a op o ∷ fs) e h f = never τ h

  after_back : (w : Whole) (p : Piece) (k : TokenKind) → at_after i w p s k ≡ Some τ → Future τ u → HaveFuture i w.receiver w.frames (word k s ∷ u)
  unfolding tail_words TailGrouped
  after_back w p (Sign c) h f =
      elim (chosen (same_sign c Signs.Arrow) (Some (within i (with_arrow w) (Access p))) (later c) τ h) [
        | inl a ↦ let n = at_next u _ τ a.1 f in let t = n.3 in (
          field s n.0 t.0,
          t.1,
          t.2,
          behind _ _ s _ _ (ap Sign (sign_true c Signs.Arrow a.0)) (n.2 ∙ ahead (Name n.0.text) n.0.span _ _ t.3),
          t.4,
        )
        | inr a ↦ elim (chosen (same_sign c Signs.LeftBracket) (at_index i w p w.frames) (at_sign_after i w p s c (operator_of c)) τ a.1) [
          | inl b ↦ index_back w p (Sign c) w.frames (ap Sign (sign_true c Signs.LeftBracket b.0)) b.1 f
          | inr b ↦ let t = sign_back w p c (operator_of c) refl b.1 f in (ending t.0, t.1, t.2, t.3, t.4)
        ]
      ]
    where
      later : SignOf → Option State
      later c = if same_sign c Signs.LeftBracket then at_index i w p w.frames else at_sign_after i w p s c (operator_of c)
  after_back w p (Name x) h f = never τ h
  after_back w p (Number x) h f = never τ h
  after_back w p (Reserved x) h f = never τ h
  after_back w p End h f = never τ h
  after_back w p Cut h f = never τ h

  -- an operand, and what follows it
  prim_back : (w : Whole) (k : TokenKind) → state_in i (at_prim w s k) ≡ Some τ → Future τ u → PostFuture i w.receiver w.frames (word k s ∷ u)
  unfolding FramesFuture Grouped phrase
  prim_back w (Name x) h f =
      let t = at_next u _ τ h f in
      (variable (record { text = x; span = s }), t.0, t.1, omega arith, tt, t.2, ahead (Name x) s _ _ t.3, t.4)
  prim_back w (Number v) h f = let t = at_next u _ τ h f in (number v s, t.0, t.1, omega arith, tt, t.2, ahead (Number v) s _ _ t.3, t.4)
  prim_back w (Reserved k) h f =
      elim (chosen_in i (same_word k Words.Own) (Some (Modes.Within w (Have (single s Own)))) (wants (same_word k Words.Null) (Modes.Within w (Have (single s Null)))) τ h) [
        | inl a ↦ let t = at_next u _ τ a.1 f in
            (own s, t.0, t.1, omega arith, tt, t.2, behind _ _ s _ _ (ap Reserved (word_true k Words.Own a.0)) t.3, t.4)
        | inr a ↦ let q = wanted_in i _ _ τ a.1 in let t = at_wanted u _ _ τ q f in
            (null s, t.0, t.1, omega arith, tt, t.2, behind _ _ s _ _ (ap Reserved (word_true k Words.Null (wanted _ _ τ q).0)) t.3, t.4)
      ]
  prim_back w (Sign c) h f =
      let q = wanted_in i _ _ τ h in let n = at_wanted u _ _ τ q f in let t = n.4 in
      (parens s n.0 t.0, t.1, t.2, omega arith, n.2, t.3, behind _ _ s _ _ (ap Sign (sign_true c Signs.LeftParenthesis (wanted _ _ τ q).0)) (n.3 ∙ ap (phrase n.0) t.4), t.5)
  prim_back w End h f = never τ h
  prim_back w Cut h f = never τ h

  -- an index of the operand of an `&`
  indexed_back : (r : Receiver) (fs : List Frame) (l : Span) (c : Phrase) (e : Span) (b : Behind) (v : List Token) → TailGrouped fs (index l c e b)
      → FramesFuture i r fs v → OperandFuture i r fs (tail_words (index l c e b) v)
  unfolding FramesFuture tail_words TailGrouped
  indexed_back r (AddressOf o ∷ fs) l c e b v k f = inr (l, c, e, b, v, k.1, k.2, refl, f)
  indexed_back r [] l c e b v k f = absurd k.0
  indexed_back r (Open o d ∷ fs) l c e b v k f = absurd k.0
  indexed_back r (Index o x d ∷ fs) l c e b v k f = absurd k.0
  indexed_back r (Prefix op o ∷ fs) l c e b v k f = absurd k.0
  indexed_back r (Left a op o ∷ fs) l c e b v k f = absurd k.0

  grow_back : (r : Receiver) (fs : List Frame) (t : Tail) (c : Phrase) (v w : List Token) → 8 ≤ level_of c → Grouped c → TailGrouped fs t → w ≡ phrase c (tail_words t v)
      → FramesFuture i r fs v → WantFuture i r fs w
  unfolding tail_words TailGrouped phrase Grouped
  grow_back r fs (ending b) c v w h g k e f = (beside c b, v, beside_grouped b c (omega arith) g k, e ∙ sym (beside_words b c v), without_index i r fs v f)
  grow_back r fs (field at x t) c v w h g k e f = grow_back r fs t (arrow c at x) v w (omega arith) (h, g) k e f
  grow_back r fs (index l d q b) c v w h g k e f = (c, _, g, e, indexed_back r fs l d q b v k f)

  operand_back : (w : Whole) (k : TokenKind) → state_in i (at_operand w s k) ≡ Some τ → Future τ u → WantFuture i w.receiver w.frames (word k s ∷ u)
  unfolding FramesFuture Grouped phrase
  operand_back w k h f =
      elim (chosen_in i (is_sign Signs.Minus k) (Some (Modes.Within (with_operator w (Prefix Neg s) w.frames) Want)) (second k) τ h) [
        | inl a ↦ prefix_back Neg (sign_is Signs.Minus k a.0) (at_next u _ τ a.1 f)
        | inr a ↦ elim (chosen_in i (is_sign Signs.Bang k) (Some (Modes.Within (with_operator w (Prefix Not s) w.frames) Want)) (third k) τ a.1) [
          | inl b ↦ prefix_back Not (sign_is Signs.Bang k b.0) (at_next u _ τ b.1 f)
          | inr b ↦ elim (chosen_in i (is_sign Signs.Ampersand k) (Some (Modes.Within (with_operator w (AddressOf s) w.frames) Post)) (at_prim w s k) τ b.1) [
            | inl c ↦ let t = at_next u _ τ c.1 f in (
              pointed s t.0 t.1,
              t.2,
              pointed_grouped s (AddressOf s ∷ w.frames) t.1 t.0 t.3 t.4 t.5,
              behind _ _ s _ _ (sign_is Signs.Ampersand k c.0) t.6 ∙ sym (pointed_words s t.1 t.0 t.2),
              without_index i w.receiver w.frames t.2 t.7,
            )
            | inr c ↦ let t = prim_back w k c.1 f in grow_back w.receiver w.frames t.1 t.0 t.2 _ t.3 t.4 t.5 t.6 t.7
          ]
        ]
      ]
    where
      third : TokenKind → Option Mode
      third k = if is_sign Signs.Ampersand k then Some (Modes.Within (with_operator w (AddressOf s) w.frames) Post) else at_prim w s k

      second : TokenKind → Option Mode
      second k = if is_sign Signs.Bang k then Some (Modes.Within (with_operator w (Prefix Not s) w.frames) Want) else third k

      prefix_back : (o : UnaryOp) → k ≡ Sign (prefix_sign o) → WantFuture i w.receiver (Prefix o s ∷ w.frames) u → WantFuture i w.receiver w.frames (word k s ∷ u)
      prefix_back o e t = (
        negate o s t.0,
        t.1,
        negate_grouped o s t.0 t.2,
        behind _ _ s _ _ e t.3 ∙ sym (negate_words o s t.0 t.1),
        without_index i w.receiver w.frames t.1 t.4,
      )

  place_back : (w : Whole) (p : Place) (k : TokenKind) → at_place i w p s k ≡ Some τ → Future τ u → PlaceFuture i w p (word k s ∷ u)
  place_back w Want k h f = operand_back w k h f
  place_back w Post k h f = prim_back w k h f
  place_back w (Have p) k h f = after_back w p k h f
  place_back w (Element p) k h f = element_back w p k h f
  place_back w (Access p) k h f = at_name_back s τ u (λ x. within i w (Have (arrow_piece p x)))
      (HaveFuture i w.receiver w.frames) (λ x g. g) k
      (name_in i (λ x. Modes.Within w (Have (arrow_piece p x))) s k τ h) f

  value_back : (t : Target) (k : TokenKind) → state_in i (at_value i.nesting t s k) ≡ Some τ → Future τ u → ValueFuture i (word k s ∷ u)
  unfolding FramesFuture
  value_back t k h f =
      elim (chosen_in i (is_word Words.Read k) (Some (Modes.Before (To.Read t s))) (second k) τ h) [
        | inl a ↦ let p = at_next u _ τ a.1 f in let e = p.3 in let c = e.4 in
            (reading s p.0 e.0 c.0, c.1, e.2, behind _ _ s _ _ (word_is Words.Read k a.0) (p.2 ∙ ahead (Sign Signs.LeftParenthesis) p.0 _ _ (e.3 ∙ ap (phrase e.0) c.2)), c.3)
        | inr a ↦ elim (chosen_in i (is_word Words.Alloc k) (Some (Modes.Making (Makings.Alloc t s))) (third k) τ a.1) [
          | inl b ↦ let y = at_next u _ τ b.1 f in let x = y.3 in let l = x.3 in let p = l.3 in (
            allocation s y.0 x.0 l.0 p.0 p.1,
            p.2,
            p.3,
            behind _ _ s _ _ (word_is Words.Alloc k b.0) (y.2 ∙ ahead (Name y.0.text) y.0.span _ _ (x.2 ∙ ahead (Name x.0.text) x.0.span _ _ (l.2 ∙ ahead (Sign Signs.LeftParenthesis) l.0 _ _ p.4))),
            p.5,
          )
          | inr b ↦ elim (chosen_in i (is_word Words.Modref k) (Some (Modes.Making (Makings.Modref t s))) (at_operand (new_whole i.nesting (To.Value t)) s k) τ b.1) [
            | inl c ↦ made_back (word_is Words.Modref k c.0) (at_next u _ τ c.1 f)
            | inr c ↦ let w = operand_back (new_whole i.nesting (To.Value t)) k c.1 f in (plainly w.0, w.1, w.2, w.3, w.4)
          ]
        ]
      ]
    where
      third : TokenKind → Option Mode
      third k = if is_word Words.Modref k then Some (Modes.Making (Makings.Modref t s)) else at_operand (new_whole i.nesting (To.Value t)) s k

      second : TokenKind → Option Mode
      second k = if is_word Words.Alloc k then Some (Modes.Making (Makings.Alloc t s)) else third k

      made_back : k ≡ Reserved Words.Modref → MakingFuture i (Makings.Modref t s) u → ValueFuture i (word k s ∷ u)
      made_back e (inl f) = let l = f.3 in let r = l.3 in
          (modref_int s f.0 l.0 r.0, r.1, tt, behind _ _ s _ _ e (f.2 ∙ ahead (Reserved Words.Int) f.0 _ _ (l.2 ∙ ahead (Sign Signs.LeftParenthesis) l.0 _ _ r.2)), r.3)
      made_back e (inr f) = let l = f.3 in let r = l.3 in
          (modref s f.0 l.0 r.0, r.1, tt, behind _ _ s _ _ e (f.2 ∙ ahead (Name f.0.text) f.0.span _ _ (l.2 ∙ ahead (Sign Signs.LeftParenthesis) l.0 _ _ r.2)), r.3)

  modref_back : (t : Target) (at : Span) (k : TokenKind) → state_in i (at_modref t at s k) ≡ Some τ → Future τ u → MakingFuture i (Makings.Modref t at) (word k s ∷ u)
  modref_back t at (Name x) h f = inr (record { text = x; span = s }, u, refl, at_next u _ τ h f)
  modref_back t at (Reserved k) h f = let q = wanted_in i _ _ τ h in inl (s, u, same_kind _ _ s u (ap Reserved (word_true k Words.Int (wanted _ _ τ q).0)), at_wanted u _ _ τ q f)
  modref_back t at (Number v) h f = never τ h
  modref_back t at (Sign c) h f = never τ h
  modref_back t at End h f = never τ h
  modref_back t at Cut h f = never τ h

  making_back : (m : Making) (k : TokenKind) → state_in i (at_making m s k) ≡ Some τ → Future τ u → MakingFuture i m (word k s ∷ u)
  making_back (Makings.Alloc t at) k h f =
      at_name_back s τ u (λ y. In i (Modes.Making (Makings.Shape t at y)))
      (AfterName (AfterSign Signs.LeftParenthesis (ArgumentsFuture i))) (λ x g. g) k
      (name_in i (λ y. Modes.Making (Makings.Shape t at y)) s k τ h) f
  making_back (Makings.Shape t at y) k h f =
      at_name_back s τ u (λ x. In i (Modes.Calls (ToAlloc t at y x))) (AfterSign Signs.LeftParenthesis (ArgumentsFuture i)) (λ x g. g) k (name_in i (λ x. Modes.Calls (ToAlloc t at y x)) s k τ h) f
  making_back (Makings.Modref t at) k h f = modref_back t at k h f
  making_back (Makings.Typed st) k h f = sign_wanted s τ u Signs.LeftParenthesis k (In i (Modes.Making (Makings.Opened st))) (ClosedFuture i) (λ g. g) (wanted_in i _ _ τ h) f
  making_back (Makings.Opened st) k h f = sign_wanted s τ u Signs.RightParenthesis k (In i (Modes.Ends st)) (SemiFuture i) (λ g. g) (wanted_in i _ _ τ h) f

  opened_back : (o : Owner) (k : TokenKind) → k ≡ Sign Signs.LeftBrace → Future (opened_by i o) u → BlockFuture (OwnedFuture o (InBody i)) (word k s ∷ u)
  unfolding CloseFuture statement StatementProper
  opened_back o k e f = (block s f.0 f.1, f.2, f.3, behind _ _ s _ _ e f.4, f.5)

  reached_back : (e : Expr) (x : Ident) (n : ℕ) (k : TokenKind) → state_in i (at_reached i.nesting e x n k) ≡ Some τ → Future τ u → ReachedFuture i (word k s ∷ u)
  unfolding hops FramesFuture
  reached_back e x n k h f =
      elim (chosen_in i (is_sign Signs.Arrow k) (Some (Modes.Path (field_of e x) (suc n))) (wants (is_sign Signs.Equals k) (Modes.Within (new_whole i.nesting (To.Set e x)) Want)) τ h) [
        | inl a ↦ let y = at_next u _ τ a.1 f in let r = y.3 in
            ((s, y.0) ∷ r.0, r.1, r.2, r.3, r.4, behind _ _ s _ _ (sign_is Signs.Arrow k a.0) (y.2 ∙ ahead (Name y.0.text) y.0.span _ _ r.5), r.6)
        | inr a ↦ let q = wanted_in i _ _ τ a.1 in let w = at_wanted u _ _ τ q f in
            ([], s, w.0, w.1, w.2, behind _ _ s _ _ (sign_is Signs.Equals k (wanted _ _ τ q).0) w.3, w.4)
      ]

module _ (i : Inside) (s : Span) (τ : State) (u : List Token) where
  mode_back : (m : Mode) (k : TokenKind) → at_mode i m s k ≡ Some τ → Future τ u → ModeFuture i m (word k s ∷ u)
  unfolding CloseFuture FramesFuture statement StatementProper
  mode_back Modes.Body k h f = body_back i s τ u k h f
  mode_back (Modes.Typing at p) k h f =
      type_back false (Each (AfterSign Signs.Equals (ValueFuture i))) s τ u (λ q. In i (Modes.Typing at q))
      (λ form x. In i (Modes.Declared at form x)) (λ q g. g) (λ form x g. g) p k
      (typed_in i (λ q. Modes.Typing at q) (λ form x. Modes.Declared at form x) (at_type false p s k) τ h) f
  mode_back (Modes.Declared at form x) k h f = sign_wanted s τ u Signs.Equals k (In i (Modes.Value (ToDeclare at form x))) (ValueFuture i) (λ g. g) (wanted_in i _ _ τ h) f
  mode_back (Modes.Named x) k h f =
      elim (chosen_in i (is_sign Signs.Equals k) (Some (Modes.Value (ToAssign x))) (second k) τ h) [
        | inl a ↦ inl (s, u, same_kind _ _ s u (sign_is Signs.Equals k a.0), at_next u _ τ a.1 f)
        | inr a ↦ elim (chosen_in i (is_sign Signs.LeftParenthesis k) (Some (Modes.First (ToCall x))) (third k) τ a.1) [
          | inl b ↦ inr (inl (s, u, same_kind _ _ s u (sign_is Signs.LeftParenthesis k b.0), at_next u _ τ b.1 f))
          | inr b ↦ inr (inr (sign_wanted s τ u Signs.Arrow k (In i (Modes.Path (path_of x) 1)) (PathFuture i) (λ g. g) (wanted_in i _ _ τ b.1) f))
        ]
      ]
    where
      third : TokenKind → Option Mode
      third k = wants (is_sign Signs.Arrow k) (Modes.Path (path_of x) 1)

      second : TokenKind → Option Mode
      second k = if is_sign Signs.LeftParenthesis k then Some (Modes.First (ToCall x)) else third k
  mode_back (Modes.Owned at) k h f = sign_wanted s τ u Signs.Arrow k (In i (Modes.Path (record { span = at; form = Own }) 1)) (PathFuture i) (λ g. g) (wanted_in i _ _ τ h) f
  mode_back (Modes.Path e n) k h f = at_name_back s τ u (λ x. In i (Modes.Reached e x n)) (ReachedFuture i) (λ x g. g) k (name_in i (λ x. Modes.Reached e x n) s k τ h) f
  mode_back (Modes.Reached e x n) k h f = reached_back i s τ u e x n k h f
  mode_back (Modes.Value t) k h f = value_back i s τ u t k h f
  mode_back (Modes.Making m) k h f = making_back i s τ u m k h f
  mode_back (Modes.Calls c) k h f = sign_wanted s τ u Signs.LeftParenthesis k (In i (Modes.First c)) (ArgumentsFuture i) (λ g. g) (wanted_in i _ _ τ h) f
  mode_back (Modes.First c) k h f =
      elim (chosen_in i (is_sign Signs.RightParenthesis k) (Some (Modes.Ends (call_statement c []))) (at_operand (new_whole (suc i.nesting) (To.Argument c [])) s k) τ h) [
        | inl p ↦ (no_arguments, s, u, tt, same_kind _ _ s u (sign_is Signs.RightParenthesis k p.0), at_next u _ τ p.1 f)
        | inr p ↦ let w = operand_back i s τ u (new_whole (suc i.nesting) (To.Argument c [])) k p.1 f in let a = w.4 in
            (arguments w.0 a.0, a.1, a.2, (w.2, a.3), w.3 ∙ ap (phrase w.0) a.4, a.5)
      ]
  mode_back (Modes.Before r) k h f = sign_wanted s τ u Signs.LeftParenthesis k (within i (new_whole (suc i.nesting) r) Want) (WantFuture i r []) (λ g. g) (wanted_in i _ _ τ h) f
  mode_back (Modes.Within w p) k h f = place_back i s τ u w p k h f
  mode_back (Modes.Ends st) k h f = sign_wanted s τ u Signs.Semicolon k (In (with_statement i st) Modes.Body) (InBody i) (λ g. g) h f
  mode_back (Modes.Ended st) k h f = body_back (with_statement i st) s τ u k h f
  mode_back (Modes.Opens o) k h f = opened_back i s τ u o k (sign_is Signs.LeftBrace k (wanted _ _ τ h).0) (at_wanted u _ _ τ h f)
  mode_back (Modes.Closed at e first) k h f =
      elim (chosen (is_word Words.Else k) (Some (In i (Modes.Otherwise at e first))) (at_body (with_statement i (Trees.If at e first [])) s k) τ h) [
        | inl p ↦ else_back (word_is Words.Else k p.0) (at_next u _ τ p.1 f)
        | inr p ↦ (nothing, _, tt, refl, body_back (with_statement i (Trees.If at e first [])) s τ u k p.1 f)
      ]
    where
      else_back : k ≡ Reserved Words.Else → Future (In i (Modes.Otherwise at e first)) u → OtherFuture (InBody i) (word k s ∷ u)
      else_back h (inl b) = (otherwise s b.0, b.1, b.2, behind _ _ s _ _ h b.3, b.4)
      else_back h (inr b) = (chained s b.0, b.1, b.2, behind _ _ s _ _ h b.3, b.4)
  mode_back (Modes.Otherwise at e first) k h f =
      elim (chosen (is_sign Signs.LeftBrace k) (Some (opened_by i (OfElse at e first))) (wants (is_word Words.If k) (In nested (Modes.Before (To.If s)))) τ h) [
        | inl p ↦ inl (opened_back i s τ u (OfElse at e first) k (sign_is Signs.LeftBrace k p.0) (at_next u _ τ p.1 f))
        | inr p ↦ let b = if_rest nested s τ u (at_wanted u _ _ τ p.1 f) in
            inr (b.0, b.1, b.2, same_kind _ _ s u (word_is Words.If k (wanted _ _ τ p.1).0) ∙ b.3, b.4)
      ]
    where
      nested : Inside
      nested = chained_in i (record { span = at; test = e; first = first })

-- Structs, heads and whole parts.
cell_is : (w : Written) → is_cell (type_form w) ≡ true → IsCell w
cell_is (cell_int s k) h = tt
cell_is (cell_pointer s k x) h = tt
cell_is (int s) h = absurd (cc)
cell_is (pointer s x t) h = absurd (cc)
cell_is (mod_int s k t) h = absurd (cc)
cell_is (mod_pointer s k x t) h = absurd (cc)

row_no_cell : (form : TypeForm) (n : ℕ) → is_cell (row_form form n) ≡ false
row_no_cell Forms.Int n = refl
row_no_cell (Forms.Ptr y) n = refl
row_no_cell Forms.ModInt n = refl
row_no_cell (Forms.ModPtr y) n = refl
row_no_cell Forms.CellInt n = refl
row_no_cell (Forms.CellPtr y) n = refl
row_no_cell (Forms.CellRow m) n = refl
row_no_cell (Forms.CellPtrRow y m) n = refl

length_is : (k : TokenKind) (n : ℕ) → length_of k ≡ Some n → (k ≡ Number (pos n)) × (0 < n)
length_is (Number (pos (suc m))) n h =
    let e = got (suc m) n h in
    let p : 0 < n = omega (arith, e) in (ap (λ (j : ℕ). Number (pos j)) e, p)
length_is (Number (pos zero)) n h = absurd (cc)
length_is (Number (negsuc m)) n h = absurd (cc)
length_is (Name x) n h = absurd (cc)
length_is (Reserved x) n h = absurd (cc)
length_is (Sign x) n h = absurd (cc)
length_is End n h = absurd (cc)
length_is Cut n h = absurd (cc)

module _ (s : Span) (τ : State) (u : List Token) (es : List Entry) where
  part_more : (p : Part) (v w : List Token) → PartProper p → v ≡ part_words p w → TopFuture w → TopFuture v
  unfolding parts_words PartsProper
  part_more p v w a e t = (p ∷ t.0, t.1, (a, t.2), e ∙ ap (part_words p) t.3)

  starts_back : (on : TypePart → State) (cells : Bool) (next : Bool → List Token → Type 0) → ((p : TypePart) → Future (on p) u → TypeFuture cells next p u)
      → (k : TokenKind) → begun_type on (type_starts k) ≡ Some τ → Future τ u → TypeAnd cells next (word k s ∷ u)
  starts_back on cells next c (Reserved k) h f = go (type_begin k) refl h
    where
      go : (o : Option TypePart) → type_begin k ≡ o → begun_type on o ≡ Some τ → TypeAnd cells next (word (Reserved k) s ∷ u)
      go (Some p) e h = begun_back cells next s u k p e (c p (at_next u _ τ h f))
      go None e h = never τ h
  starts_back on cells next c (Name x) h f = never τ h
  starts_back on cells next c (Number x) h f = never τ h
  starts_back on cells next c (Sign x) h f = never τ h
  starts_back on cells next c End h f = never τ h
  starts_back on cells next c Cut h f = never τ h

  -- a member and those after it
  member_back : (w : Written) (x : Ident) (v l : List Token) → l ≡ type_words w (named x ∷ v) → EndFuture (is_cell (type_form w)) v → MembersFuture l
  unfolding member_words MembersProper
  member_back w x v l e (inl c) =
      let m = c.3 in (
        record { type = w; x = x; size = one_field; semi = c.0 } ∷ m.0,
        m.1,
        m.2,
        m.3,
        (tt, m.4),
        e ∙ ap (λ (y : List Token). type_words w (named x ∷ y)) (c.2 ∙ ahead (Sign Signs.Semicolon) c.0 _ _ m.5),
        m.6,
      )
  member_back w x v l e (inr p) =
      let o = p.1 in let n = o.3 in let r = n.5 in let c = r.3 in let m = c.3 in (
        record { type = w; x = x; size = row o.0 n.0 n.1 r.0; semi = c.0 } ∷ m.0,
        m.1,
        m.2,
        m.3,
        ((cell_is w p.0, n.3), m.4),
        e ∙ ap (λ (y : List Token). type_words w (named x ∷ y)) (o.2 ∙ ahead (Sign Signs.LeftBracket) o.0 _ _ (n.4 ∙ ahead (Number (pos n.0)) n.1 _ _
            (r.2 ∙ ahead (Sign Signs.RightBracket) r.0 _ _ (c.2 ∙ ahead (Sign Signs.Semicolon) c.0 _ _ m.5)))),
        m.6,
      )

  member_end_back : (l : Layout) (m : FieldDecl) (k : TokenKind) → at_member_end es l m k ≡ Some τ → Future τ u → EndFuture (is_cell m.form) (word k s ∷ u)
  member_end_back l m k h f =
      elim (chosen (is_sign Signs.Semicolon k) (Some (Struct es (Structs.Members (with_member l m)))) (later k) τ h) [
        | inl a ↦ inl (s, u, same_kind _ _ s u (sign_is Signs.Semicolon k a.0), at_next u _ τ a.1 f)
        | inr a ↦ elim (chosen (is_cell m.form) (wants (is_sign Signs.LeftBracket k) (Struct es (Structs.Length l m))) None τ a.1)
            [ inl b ↦ inr (b.0, sign_wanted s τ u Signs.LeftBracket k (Struct es (Structs.Length l m)) LengthFuture (λ g. g) b.1 f) | inr b ↦ never τ b.1 ]
      ]
    where
      later : TokenKind → Option State
      later k = if is_cell m.form then wants (is_sign Signs.LeftBracket k) (Struct es (Structs.Length l m)) else None

  length_back : (l : Layout) (m : FieldDecl) (k : TokenKind) (o : Option ℕ) → length_of k ≡ o → at_length es l m o ≡ Some τ → Future τ u → LengthFuture (word k s ∷ u)
  length_back l m k (Some n) e h f = let t = length_is k n e in (n, s, u, t.1, same_kind _ _ s u t.0, at_next u _ τ h f)
  length_back l m k None e h f = never τ h

  -- a row is no modifiable that may be a row
  row_end : (form : TypeForm) (n : ℕ) (v : List Token) → EndFuture (is_cell (row_form form n)) v → AfterSign Signs.Semicolon MembersFuture v
  row_end form n v (inl c) = c
  row_end form n v (inr c) = absurd (false≢true (sym (row_no_cell form n) ∙ c.0))

  struct_back : (p : StructPlace) (k : TokenKind) → at_struct es p s k ≡ Some τ → Future τ u → StructFuture p (word k s ∷ u)
  unfolding member_words MembersProper
  struct_back Structs.Begun k h f = at_name_back s τ u (λ x. Struct es (Structs.Named x)) (AfterSign Signs.LeftBrace MembersFuture) (λ x g. g) k h f
  struct_back (Structs.Named x) k h f =
      sign_wanted s τ u Signs.LeftBrace k (Struct es (Structs.Members (begun_struct x))) MembersFuture (λ g. g) h f
  struct_back (Structs.Members l) k h f =
      elim (chosen (is_sign Signs.RightBrace k) (Some (Struct es (Structs.Closed l.decl))) (begun_type (λ p. Struct es (Structs.Typing l p)) (type_starts k)) τ h) [
        | inl a ↦ let t = at_next u _ τ a.1 f in ([], s, t.0, t.1, tt, behind _ _ s _ _ (sign_is Signs.RightBrace k a.0) t.2, t.3)
        | inr a ↦ let t = starts_back (λ p. Struct es (Structs.Typing l p)) true EndFuture (λ p g. g) k a.1 f in member_back t.0 t.1 t.2 _ t.4 t.5
      ]
  struct_back (Structs.Typing l p) k h f =
      type_back true EndFuture s τ u (λ q. Struct es (Structs.Typing l q)) (λ form x. Struct es (Structs.Ends l (record { form = form; name = x })))
      (λ q g. g) (λ form x g. g) p k h f
  struct_back (Structs.Ends l m) k h f = member_end_back l m k h f
  struct_back (Structs.Length l m) k h f = length_back l m k (length_of k) refl h f
  struct_back (Structs.Sized l m n) k h f =
      sign_wanted s τ u Signs.RightBracket k (Struct es (Structs.Ends l (record { form = row_form m.form n; name = m.name }))) (AfterSign Signs.Semicolon MembersFuture)
      (λ g. row_end m.form n u g) h f
  struct_back (Structs.Closed d) k h f = sign_wanted s τ u Signs.Semicolon k _ TopFuture (λ g. g) h f

  next_back : (k : TokenKind) (h : Head) → begun_type (λ p. InHead es (Heads.Typing h p)) (type_starts k) ≡ Some τ → Future τ u
      → (p : Parameter) × (v : List Token) × Allowed false p.type × (word k s ∷ u ≡ parameter_words p v) × OthersFuture v
  next_back k h e f =
      let t = starts_back (λ p. InHead es (Heads.Typing h p)) false (Each OthersFuture) (λ p g. g) k e f in
      (record { type = t.0; x = t.1 }, t.2, t.3, t.4, t.5)

  head_back : (p : HeadPlace) (k : TokenKind) → at_head es p s k ≡ Some τ → Future τ u → HeadFuture p (word k s ∷ u)
  unfolding others MoreProper CloseFuture statement StatementProper
  head_back Heads.Ceal k h f = at_name_back s τ u (λ x. InHead es (Heads.CealNamed x)) (AfterSign Signs.LeftParenthesis ParametersFuture) (λ x g. g) k h f
  head_back (Heads.CealNamed x) k h f = sign_wanted s τ u Signs.LeftParenthesis k _ ParametersFuture (λ g. g) h f
  head_back Heads.Init k h f =
      at_name_back s τ u (λ x. InHead es (Heads.InitNamed x)) (AfterSign Signs.LeftParenthesis (AfterWord Words.Struct ShapeFuture)) (λ x g. g) k h f
  head_back (Heads.InitNamed x) k h f = sign_wanted s τ u Signs.LeftParenthesis k _ (AfterWord Words.Struct ShapeFuture) (λ g. g) h f
  head_back (Heads.InitOpened x) k h f = word_wanted s τ u Words.Struct k _ ShapeFuture (λ g. g) h f
  head_back (Heads.InitStruct x) k h f = at_name_back s τ u (λ y. InHead es (Heads.Shaped (record { initialiser = Some y; name = x; params = [] }))) (AfterSign Signs.Star OwnFuture) (λ x g. g) k h f
  head_back (Heads.Shaped d) k h f = sign_wanted s τ u Signs.Star k _ OwnFuture (λ g. g) h f
  head_back (Heads.Starred d) k h f = word_wanted s τ u Words.Own k _ OthersFuture (λ g. g) h f
  head_back (Heads.First d) k h f =
      elim (chosen (is_sign Signs.RightParenthesis k) (Some (InHead es (Heads.Done d))) (begun_type (λ p. InHead es (Heads.Typing d p)) (type_starts k)) τ h) [
        | inl a ↦ (no_parameters, s, u, tt, same_kind _ _ s u (sign_is Signs.RightParenthesis k a.0), at_next u _ τ a.1 f)
        | inr a ↦ let p = next_back k d a.1 f in let o = p.4 in
            (parameters p.0 o.0, o.1, o.2, (p.2, o.3), p.3 ∙ ap (parameter_words p.0) o.4, o.5)
      ]
  head_back (Heads.Next d) k h f = next_back k d h f
  head_back (Heads.Typing d p) k h f =
      type_back false (Each OthersFuture) s τ u (λ q. InHead es (Heads.Typing d q)) (λ form x. InHead es (Heads.Named (with_parameter d (record { form = form; name = x }))))
      (λ q g. g) (λ form x g. g) p k h f
  head_back (Heads.Named d) k h f =
      elim (chosen (is_sign Signs.Comma k) (Some (InHead es (Heads.Next d))) (wants (is_sign Signs.RightParenthesis k) (InHead es (Heads.Done d))) τ h) [
        | inl a ↦ let p = at_next u _ τ a.1 f in let o = p.4 in
            ((s, p.0) ∷ o.0, o.1, o.2, (p.2, o.3), behind _ _ s _ _ (sign_is Signs.Comma k a.0) (p.3 ∙ ap (parameter_words p.0) o.4), o.5)
        | inr a ↦ ([], s, u, tt, same_kind _ _ s u (sign_is Signs.RightParenthesis k (wanted _ _ τ a.1).0), at_wanted u _ _ τ a.1 f)
      ]
  head_back (Heads.Done d) k h f =
      let b = at_wanted u _ _ τ h f in
      (block s b.0 b.1, b.2, b.3, behind _ _ s _ _ (sign_is Signs.LeftBrace k (wanted _ _ τ h).0) b.4, b.5)

  part_back : (k : ReservedWord) → at_part es k ≡ Some τ → Future τ u → TopFuture (word (Reserved k) s ∷ u)
  part_back k h f =
      elim (chosen (same_word k Words.Struct) (Some (Struct es Structs.Begun)) (second k) τ h) [
        | inl a ↦ let x = at_next u _ τ a.1 f in let l = x.3 in let m = l.3 in
            part_more (structure s x.0 l.0 m.0 m.1 m.2) _ m.3 m.4
            (behind _ _ s _ _ (ap Reserved (word_true k Words.Struct a.0)) (x.2 ∙ ahead (Name x.0.text) x.0.span _ _ (l.2 ∙ ahead (Sign Signs.LeftBrace) l.0 _ _ m.5))) m.6
        | inr a ↦ elim (chosen (same_word k Words.Ceal) (Some (InHead es Heads.Ceal)) (wants (same_word k Words.Init) (InHead es Heads.Init)) τ a.1) [
          | inl b ↦ let x = at_next u _ τ b.1 f in let l = x.3 in let p = l.3 in let d = p.5 in
              part_more (function (core s x.0 l.0 p.0 p.1) d.0) _ d.1 (p.3, d.2)
              (behind _ _ s _ _ (ap Reserved (word_true k Words.Ceal b.0)) (x.2 ∙ ahead (Name x.0.text) x.0.span _ _ (l.2 ∙ ahead (Sign Signs.LeftParenthesis) l.0 _ _
              (p.4 ∙ ap (λ (v : List Token). parameters_words p.0 (word (Sign Signs.RightParenthesis) p.1 ∷ v)) d.3)))) d.4
          | inr b ↦ let x = at_wanted u _ _ τ b.1 f in let l = x.3 in let j = l.3 in let y = j.3 in let t = y.3 in let o = t.3 in let p = o.3 in let d = p.5 in
              part_more (function (init s x.0 l.0 j.0 y.0 t.0 o.0 p.0 p.1) d.0) _ d.1 (p.3, d.2)
              (behind _ _ s _ _ (ap Reserved (word_true k Words.Init (wanted _ _ τ b.1).0)) (x.2 ∙ ahead (Name x.0.text) x.0.span _ _ (l.2 ∙ ahead (Sign Signs.LeftParenthesis) l.0 _ _
              (j.2 ∙ ahead (Reserved Words.Struct) j.0 _ _ (y.2 ∙ ahead (Name y.0.text) y.0.span _ _ (t.2 ∙ ahead (Sign Signs.Star) t.0 _ _ (o.2 ∙ ahead (Reserved Words.Own) o.0 _ _
              (p.4 ∙ ap (λ (v : List Token). others p.0 (word (Sign Signs.RightParenthesis) p.1 ∷ v)) d.3)))))))) d.4
        ]
      ]
    where
      second : ReservedWord → Option State
      second k = if same_word k Words.Ceal then Some (InHead es Heads.Ceal) else wants (same_word k Words.Init) (InHead es Heads.Init)

  top_back : (k : TokenKind) → at_top es k ≡ Some τ → Future τ u → TopFuture (word k s ∷ u)
  unfolding parts_words PartsProper
  top_back End h f = ([], s, tt, ahead End s _ _ (at_next u _ τ h f))
  top_back (Reserved k) h f = part_back k h f
  top_back (Name x) h f = never τ h
  top_back (Number x) h f = never τ h
  top_back (Sign x) h f = never τ h
  top_back Cut h f = never τ h

module _ (s : Span) (τ : State) (u : List Token) where
  pub step_back : (σ : State) (k : TokenKind) → step σ (word k s) ≡ Some τ → Future τ u → Future σ (word k s ∷ u)
  step_back (Top es) k h f = top_back s τ u es k h f
  step_back (Struct es p) k h f = struct_back s τ u es p k h f
  step_back (InHead es p) k h f = head_back s τ u es p k h f
  step_back (In i m) k h f = mode_back i s τ u m k h f
  step_back (Finished es) k h f = never τ h
