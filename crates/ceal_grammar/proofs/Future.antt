-- What may follow where a reading is.
use Rattle.std.proofs.Common.{◌≡◌, ℕ, ◌≤◌, ◌<◌, pos, Bool, true, false, List, [], ◌∷◌, ◌⊎◌, inl}
use Rattle.ceal_base.specs.declared.fault.Span.{Span}
use Rattle.ceal_base.specs.declared.syntax.Ident.{Ident}
use Rattle.ceal_lex.specs.declared.token.Reserved.{Reserved as ReservedWord}
use Rattle.ceal_lex.specs.declared.token.Reserved.TheVariants as Words
use Rattle.ceal_lex.specs.declared.token.Sign.{Sign as SignOf}
use Rattle.ceal_lex.specs.declared.token.Sign.TheVariants as Signs
use Rattle.ceal_lex.specs.declared.token.Token.{Token}
use Rattle.ceal_lex.specs.declared.token.TokenKind.{TokenKind}
use Rattle.ceal_lex.specs.declared.token.TokenKind.TheVariants.{Number, Reserved, Sign, End}
use Rattle.ceal_grammar.specs.declared.state.Frame.{Frame}
use Rattle.ceal_grammar.specs.declared.state.Frame.TheVariants.{Open, Prefix, Address as AddressOf, Index, Left}
use Rattle.ceal_grammar.specs.declared.state.HeadPlace.{HeadPlace}
use Rattle.ceal_grammar.specs.declared.state.HeadPlace.TheVariants as Heads
use Rattle.ceal_grammar.specs.declared.state.Inside.{Inside}
use Rattle.ceal_grammar.specs.declared.state.Making.{Making}
use Rattle.ceal_grammar.specs.declared.state.Making.TheVariants as Makings
use Rattle.ceal_grammar.specs.declared.state.Mode.{Mode}
use Rattle.ceal_grammar.specs.declared.state.Mode.TheVariants as Modes
use Rattle.ceal_grammar.specs.declared.state.Opened.{Opened}
use Rattle.ceal_grammar.specs.declared.state.Owner.{Owner}
use Rattle.ceal_grammar.specs.declared.state.Owner.TheVariants.{While as OfWhile, Then as OfThen, Else as OfElse}
use Rattle.ceal_grammar.specs.declared.state.Place.{Place}
use Rattle.ceal_grammar.specs.declared.state.Place.TheVariants.{Want, Post, Have, Element, Access}
use Rattle.ceal_grammar.specs.declared.state.Receiver.{Receiver}
use Rattle.ceal_grammar.specs.declared.state.Receiver.TheVariants as To
use Rattle.ceal_grammar.specs.declared.state.State.{State}
use Rattle.ceal_grammar.specs.declared.state.State.TheVariants.{Top, Struct, Head as InHead, In, Finished}
use Rattle.ceal_grammar.specs.declared.state.StructPlace.{StructPlace}
use Rattle.ceal_grammar.specs.declared.state.StructPlace.TheVariants as Structs
use Rattle.ceal_grammar.specs.declared.state.TypePart.{TypePart}
use Rattle.ceal_grammar.specs.declared.state.TypePart.TheVariants as Types
use Rattle.ceal_grammar.specs.declared.state.Whole.{Whole}
use Rattle.ceal_grammar.specs.Grammar.{Phrase, level_of, Grouped, Allowed, Arguments, AllGrouped, ArgumentsGrouped}
use Rattle.ceal_grammar.specs.Grammar.{Given, GivenGrouped, Branch, Otherwise, Block, Statements, BranchProper}
use Rattle.ceal_grammar.specs.Grammar.{OtherwiseProper, BlockProper, StatementsProper, Parameter, Parameters}
use Rattle.ceal_grammar.specs.Grammar.{MoreProper, ParametersProper, Member, MembersProper, Part, PartsProper}
use Rattle.ceal_grammar.specs.Machine.{is_cell}
use Rattle.ceal_grammar.proofs.Words.{word, named, phrase, items, argument_words, given_words, branch_words}
use Rattle.ceal_grammar.proofs.Words.{other_words, block_words, statement_words, parameter_words, others}
use Rattle.ceal_grammar.proofs.Words.{parameters_words, member_words, parts_words}
use Rattle.ceal_grammar.proofs.Regroup.{Behind, behind_words, BehindGrouped, Tail, tail_words, TailGrouped}

-- one token, and then what follows
abbrev pub After : TokenKind → (List Token → Type 0) → List Token → Type 0
After k next u = (s : Span) × (v : List Token) × (u ≡ word k s ∷ v) × next v

abbrev pub AfterSign : SignOf → (List Token → Type 0) → List Token → Type 0
AfterSign c next u = After (Sign c) next u

abbrev pub AfterWord : ReservedWord → (List Token → Type 0) → List Token → Type 0
AfterWord k next u = After (Reserved k) next u

abbrev pub AfterName : (List Token → Type 0) → List Token → Type 0
AfterName next u = (x : Ident) × (v : List Token) × (u ≡ named x ∷ v) × next v

-- whole parts and the end
abbrev pub TopFuture : List Token → Type 0
TopFuture u = (ps : List Part) × (s : Span) × PartsProper ps × (u ≡ parts_words ps (word End s ∷ []))

-- the rest of a type, a name, and then what follows
-- What follows may depend on whether the type is that of a modifiable within a struct.
abbrev pub StarOr : Bool → (Bool → List Token → Type 0) → List Token → Type 0
StarOr cells next u = AfterSign Signs.Star (AfterName (next false)) u ⊎ ((cells ≡ true) × AfterName (next true) u)

abbrev pub TypeFuture : Bool → (Bool → List Token → Type 0) → TypePart → List Token → Type 0
TypeFuture cells next Types.Struct u = AfterName (AfterSign Signs.Star (AfterName (next false))) u
TypeFuture cells next (Types.StructNamed y) u = AfterSign Signs.Star (AfterName (next false)) u
TypeFuture cells next Types.Mod u = AfterWord Words.Int (StarOr cells next) u ⊎ AfterWord Words.Struct (AfterName (StarOr cells next)) u
TypeFuture cells next Types.ModInt u = StarOr cells next u
TypeFuture cells next Types.ModStruct u = AfterName (StarOr cells next) u
TypeFuture cells next (Types.ModNamed y) u = StarOr cells next u
TypeFuture cells next (Types.Done form) u = AfterName (next (is_cell form)) u

-- the same after each type
abbrev pub Each : (List Token → Type 0) → Bool → List Token → Type 0
Each next cell u = next u

-- statements, and the `}` of their block
abbrev pub BodyFuture : (List Token → Type 0) → List Token → Type 0
BodyFuture close u = (ss : Statements) × (s : Span) × (v : List Token) × StatementsProper ss × (u ≡ statement_words ss (word (Sign Signs.RightBrace) s ∷ v)) × close v

abbrev pub OtherFuture : (List Token → Type 0) → List Token → Type 0
OtherFuture body u = (o : Otherwise) × (v : List Token) × OtherwiseProper o × (u ≡ other_words o v) × body v

-- after the block of a statement
abbrev pub OwnedFuture : Owner → (List Token → Type 0) → List Token → Type 0
OwnedFuture (OfWhile s e) body u = body u
OwnedFuture (OfThen s e) body u = OtherFuture body u
OwnedFuture (OfElse s e first) body u = body u

-- after the `}` of the innermost block
unfoldable pub CloseFuture : List Opened → List Token → Type 0
CloseFuture [] u = TopFuture u
CloseFuture (o ∷ os) u = OwnedFuture o.owner (BodyFuture (CloseFuture os)) u

abbrev pub InBody : Inside → List Token → Type 0
InBody i u = BodyFuture (CloseFuture i.opened) u

abbrev pub SemiFuture : Inside → List Token → Type 0
SemiFuture i u = AfterSign Signs.Semicolon (InBody i) u

abbrev pub ClosedFuture : Inside → List Token → Type 0
ClosedFuture i u = AfterSign Signs.RightParenthesis (SemiFuture i) u

abbrev pub EmptyFuture : Inside → List Token → Type 0
EmptyFuture i u = AfterSign Signs.LeftParenthesis (ClosedFuture i) u

abbrev pub BlockFuture : (List Token → Type 0) → List Token → Type 0
BlockFuture next u = (b : Block) × (v : List Token) × BlockProper b × (u ≡ block_words b v) × next v

-- after a whole expression
abbrev pub ReceiverFuture : Inside → Receiver → List Token → Type 0
ReceiverFuture i (To.Value t) u = SemiFuture i u
ReceiverFuture i (To.Read t s) u = ClosedFuture i u
ReceiverFuture i (To.Argument f args) u = (l : List (Span × Phrase)) × (r : Span) × (v : List Token) × AllGrouped l
    × (u ≡ items l (word (Sign Signs.RightParenthesis) r ∷ v)) × SemiFuture i v
ReceiverFuture i (To.Set a x) u = SemiFuture i u
ReceiverFuture i (To.Write s) u = (c : Span) × (e : Phrase) × (r : Span) × (v : List Token) × Grouped e
    × (u ≡ word (Sign Signs.Comma) c ∷ phrase e (word (Sign Signs.RightParenthesis) r ∷ v)) × SemiFuture i v
ReceiverFuture i (To.Store s a) u = ClosedFuture i u
ReceiverFuture i (To.If at) u = AfterSign Signs.RightParenthesis (BlockFuture (OtherFuture (InBody i))) u
ReceiverFuture i (To.While at) u = AfterSign Signs.RightParenthesis (BlockFuture (InBody i)) u

-- after an operand and what follows it, within its frames
unfoldable pub FramesFuture : Inside → Receiver → List Frame → List Token → Type 0
FramesFuture i r [] u = ReceiverFuture i r u
FramesFuture i r (Prefix op s ∷ fs) u = FramesFuture i r fs u
FramesFuture i r (AddressOf s ∷ fs) u = FramesFuture i r fs u
FramesFuture i r (Left a op s ∷ fs) u = FramesFuture i r fs u
FramesFuture i r (Open o d ∷ fs) u = (s : Span) × (t : Tail) × (v : List Token) × TailGrouped fs t × (u ≡ word (Sign Signs.RightParenthesis) s ∷ tail_words t v) × FramesFuture i r fs v
FramesFuture i r (Index o e d ∷ fs) u = (s : Span) × (b : Behind) × (v : List Token) × BehindGrouped b × (u ≡ word (Sign Signs.RightBracket) s ∷ behind_words b v) × FramesFuture i r fs v

abbrev pub IndexFuture : Inside → Receiver → List Frame → List Token → Type 0
IndexFuture i r fs u = (l : Span) × (c : Phrase) × (e : Span) × (b : Behind) × (v : List Token) × Grouped c × BehindGrouped b
    × (u ≡ word (Sign Signs.LeftBracket) l ∷ phrase c (word (Sign Signs.RightBracket) e ∷ behind_words b v)) × FramesFuture i r fs v

-- after a whole operand: after the operand of an `&` an index may be
abbrev pub OperandFuture : Inside → Receiver → List Frame → List Token → Type 0
OperandFuture i r (AddressOf s ∷ fs) u = FramesFuture i r fs u ⊎ IndexFuture i r fs u
OperandFuture i r fs u = FramesFuture i r fs u

pub without_index : (i : Inside) (r : Receiver) (fs : List Frame) (u : List Token) → FramesFuture i r fs u → OperandFuture i r fs u
unfolding FramesFuture
without_index i r [] u f = f
without_index i r (Prefix op s ∷ fs) u f = f
without_index i r (AddressOf s ∷ fs) u f = inl f
without_index i r (Left a op s ∷ fs) u f = f
without_index i r (Open o d ∷ fs) u f = f
without_index i r (Index o e d ∷ fs) u f = f

abbrev pub WantFuture : Inside → Receiver → List Frame → List Token → Type 0
WantFuture i r fs u = (c : Phrase) × (v : List Token) × Grouped c × (u ≡ phrase c v) × OperandFuture i r fs v

abbrev pub PostFuture : Inside → Receiver → List Frame → List Token → Type 0
PostFuture i r fs u = (c : Phrase) × (t : Tail) × (v : List Token) × (8 ≤ level_of c) × Grouped c × TailGrouped fs t × (u ≡ phrase c (tail_words t v)) × FramesFuture i r fs v

abbrev pub HaveFuture : Inside → Receiver → List Frame → List Token → Type 0
HaveFuture i r fs u = (t : Tail) × (v : List Token) × TailGrouped fs t × (u ≡ tail_words t v) × FramesFuture i r fs v

abbrev pub ElementFuture : Inside → Receiver → List Frame → List Token → Type 0
ElementFuture i r fs u = (b : Behind) × (v : List Token) × BehindGrouped b × (u ≡ behind_words b v) × FramesFuture i r fs v

abbrev pub PlaceFuture : Inside → Whole → Place → List Token → Type 0
PlaceFuture i w Want u = WantFuture i w.receiver w.frames u
PlaceFuture i w Post u = PostFuture i w.receiver w.frames u
PlaceFuture i w (Have p) u = HaveFuture i w.receiver w.frames u
PlaceFuture i w (Element p) u = ElementFuture i w.receiver w.frames u
PlaceFuture i w (Access p) u = AfterName (HaveFuture i w.receiver w.frames) u

abbrev pub ArgumentsFuture : Inside → List Token → Type 0
ArgumentsFuture i u = (args : Arguments) × (r : Span) × (v : List Token) × ArgumentsGrouped args
    × (u ≡ argument_words args (word (Sign Signs.RightParenthesis) r ∷ v)) × SemiFuture i v

abbrev pub ValueFuture : Inside → List Token → Type 0
ValueFuture i u = (g : Given) × (v : List Token) × GivenGrouped g × (u ≡ given_words g v) × SemiFuture i v

-- further arrows and names of a path
unfoldable pub hops : List (Span × Ident) → List Token → List Token
hops [] u = u
hops (a ∷ l) u = word (Sign Signs.Arrow) a.0 ∷ named a.1 ∷ hops l u

abbrev pub ReachedFuture : Inside → List Token → Type 0
ReachedFuture i u = (l : List (Span × Ident)) × (q : Span) × (e : Phrase) × (v : List Token) × Grouped e
    × (u ≡ hops l (word (Sign Signs.Equals) q ∷ phrase e v)) × SemiFuture i v

abbrev pub PathFuture : Inside → List Token → Type 0
PathFuture i u = AfterName (ReachedFuture i) u

abbrev pub MakingFuture : Inside → Making → List Token → Type 0
MakingFuture i (Makings.Alloc t s) u = AfterName (AfterName (AfterSign Signs.LeftParenthesis (ArgumentsFuture i))) u
MakingFuture i (Makings.Shape t s y) u = AfterName (AfterSign Signs.LeftParenthesis (ArgumentsFuture i)) u
MakingFuture i (Makings.Modref t s) u = AfterWord Words.Int (EmptyFuture i) u ⊎ AfterName (EmptyFuture i) u
MakingFuture i (Makings.Typed st) u = EmptyFuture i u
MakingFuture i (Makings.Opened st) u = ClosedFuture i u

abbrev pub NamedFuture : Inside → List Token → Type 0
NamedFuture i u = AfterSign Signs.Equals (ValueFuture i) u
    ⊎ (AfterSign Signs.LeftParenthesis (ArgumentsFuture i) u ⊎ AfterSign Signs.Arrow (PathFuture i) u)

abbrev pub BranchFuture : Inside → List Token → Type 0
BranchFuture i u = (b : Branch) × (v : List Token) × BranchProper b × (u ≡ branch_words b v) × InBody i v

abbrev pub ModeFuture : Inside → Mode → List Token → Type 0
ModeFuture i Modes.Body u = InBody i u
ModeFuture i (Modes.Typing at p) u = TypeFuture false (Each (AfterSign Signs.Equals (ValueFuture i))) p u
ModeFuture i (Modes.Declared at form x) u = AfterSign Signs.Equals (ValueFuture i) u
ModeFuture i (Modes.Named x) u = NamedFuture i u
ModeFuture i (Modes.Owned at) u = AfterSign Signs.Arrow (PathFuture i) u
ModeFuture i (Modes.Path e n) u = PathFuture i u
ModeFuture i (Modes.Reached e x n) u = ReachedFuture i u
ModeFuture i (Modes.Value t) u = ValueFuture i u
ModeFuture i (Modes.Making m) u = MakingFuture i m u
ModeFuture i (Modes.Calls f) u = AfterSign Signs.LeftParenthesis (ArgumentsFuture i) u
ModeFuture i (Modes.First f) u = ArgumentsFuture i u
ModeFuture i (Modes.Before r) u = AfterSign Signs.LeftParenthesis (WantFuture i r []) u
ModeFuture i (Modes.Within w p) u = PlaceFuture i w p u
ModeFuture i (Modes.Ends st) u = SemiFuture i u
ModeFuture i (Modes.Ended st) u = InBody i u
ModeFuture i (Modes.Opens o) u = BlockFuture (OwnedFuture o (InBody i)) u
ModeFuture i (Modes.Closed at e first) u = OtherFuture (InBody i) u
ModeFuture i (Modes.Otherwise at e first) u = BlockFuture (InBody i) u ⊎ BranchFuture i u

abbrev pub MembersFuture : List Token → Type 0
MembersFuture u = (ms : List Member) × (r semi : Span) × (v : List Token) × MembersProper ms
    × (u ≡ member_words ms (word (Sign Signs.RightBrace) r ∷ word (Sign Signs.Semicolon) semi ∷ v)) × TopFuture v

-- the `]` of a row's length, and the end of the member
abbrev pub SizedFuture : List Token → Type 0
SizedFuture u = AfterSign Signs.RightBracket (AfterSign Signs.Semicolon MembersFuture) u

abbrev pub LengthFuture : List Token → Type 0
LengthFuture u = (n : ℕ) × (s : Span) × (v : List Token) × (0 < n) × (u ≡ word (Number (pos n)) s ∷ v) × SizedFuture v

-- after the name of a member
abbrev pub EndFuture : Bool → List Token → Type 0
EndFuture cell u = AfterSign Signs.Semicolon MembersFuture u ⊎ ((cell ≡ true) × AfterSign Signs.LeftBracket LengthFuture u)

abbrev pub StructFuture : StructPlace → List Token → Type 0
StructFuture Structs.Begun u = AfterName (AfterSign Signs.LeftBrace MembersFuture) u
StructFuture (Structs.Named x) u = AfterSign Signs.LeftBrace MembersFuture u
StructFuture (Structs.Members d) u = MembersFuture u
StructFuture (Structs.Typing d p) u = TypeFuture true EndFuture p u
StructFuture (Structs.Ends d m) u = EndFuture (is_cell m.form) u
StructFuture (Structs.Length d m) u = LengthFuture u
StructFuture (Structs.Sized d m n) u = SizedFuture u
StructFuture (Structs.Closed d) u = AfterSign Signs.Semicolon TopFuture u

abbrev pub OthersFuture : List Token → Type 0
OthersFuture u = (l : List (Span × Parameter)) × (s : Span) × (v : List Token) × MoreProper l × (u ≡ others l (word (Sign Signs.RightParenthesis) s ∷ v)) × BlockFuture TopFuture v

abbrev pub ParametersFuture : List Token → Type 0
ParametersFuture u = (ps : Parameters) × (s : Span) × (v : List Token) × ParametersProper ps
    × (u ≡ parameters_words ps (word (Sign Signs.RightParenthesis) s ∷ v)) × BlockFuture TopFuture v

abbrev pub OwnFuture : List Token → Type 0
OwnFuture u = AfterWord Words.Own OthersFuture u

abbrev pub ShapeFuture : List Token → Type 0
ShapeFuture u = AfterName (AfterSign Signs.Star OwnFuture) u

abbrev pub HeadFuture : HeadPlace → List Token → Type 0
HeadFuture Heads.Ceal u = AfterName (AfterSign Signs.LeftParenthesis ParametersFuture) u
HeadFuture (Heads.CealNamed x) u = AfterSign Signs.LeftParenthesis ParametersFuture u
HeadFuture Heads.Init u = AfterName (AfterSign Signs.LeftParenthesis (AfterWord Words.Struct ShapeFuture)) u
HeadFuture (Heads.InitNamed x) u = AfterSign Signs.LeftParenthesis (AfterWord Words.Struct ShapeFuture) u
HeadFuture (Heads.InitOpened x) u = AfterWord Words.Struct ShapeFuture u
HeadFuture (Heads.InitStruct x) u = ShapeFuture u
HeadFuture (Heads.Shaped h) u = AfterSign Signs.Star OwnFuture u
HeadFuture (Heads.Starred h) u = OwnFuture u
HeadFuture (Heads.First h) u = ParametersFuture u
HeadFuture (Heads.Next h) u = (p : Parameter) × (v : List Token) × Allowed false p.type × (u ≡ parameter_words p v) × OthersFuture v
HeadFuture (Heads.Typing h p) u = TypeFuture false (Each OthersFuture) p u
HeadFuture (Heads.Named h) u = OthersFuture u
HeadFuture (Heads.Done h) u = BlockFuture TopFuture u

abbrev pub Future : State → List Token → Type 0
Future (Top es) u = TopFuture u
Future (Struct es p) u = StructFuture p u
Future (InHead es p) u = HeadFuture p u
Future (In i m) u = ModeFuture i m u
Future (Finished es) u = u ≡ []
