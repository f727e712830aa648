-- Each reading can be brought to an end.
use Rattle.std.proofs.Common.{pos, Bool, true, false, List, [], ◌∷◌, refl, arith, inl, inr}
use Rattle.ceal_base.specs.declared.fault.Span.{Span}
use Rattle.ceal_base.specs.declared.syntax.Ident.{Ident}
use Rattle.ceal_lex.specs.declared.token.Reserved.TheVariants as Words
use Rattle.ceal_lex.specs.declared.token.Sign.TheVariants as Signs
use Rattle.ceal_lex.specs.declared.token.Token.{Token}
use Rattle.ceal_lex.specs.declared.token.TokenKind.{TokenKind}
use Rattle.ceal_lex.specs.declared.token.TokenKind.TheVariants.{Name, Number, Reserved, Sign, End}
use Rattle.ceal_grammar.specs.declared.state.Frame.{Frame}
use Rattle.ceal_grammar.specs.declared.state.Frame.TheVariants.{Open, Prefix, Address as AddressOf, Index, Left}
use Rattle.ceal_grammar.specs.declared.state.HeadPlace.{HeadPlace}
use Rattle.ceal_grammar.specs.declared.state.HeadPlace.TheVariants as Heads
use Rattle.ceal_grammar.specs.declared.state.Inside.{Inside}
use Rattle.ceal_grammar.specs.declared.state.Making.{Making}
use Rattle.ceal_grammar.specs.declared.state.Making.TheVariants as Makings
use Rattle.ceal_grammar.specs.declared.state.Mode.{Mode}
use Rattle.ceal_grammar.specs.declared.state.Mode.TheVariants as Modes
use Rattle.ceal_grammar.specs.declared.state.Opened.{Opened}
use Rattle.ceal_grammar.specs.declared.state.Owner.{Owner}
use Rattle.ceal_grammar.specs.declared.state.Owner.TheVariants.{While as OfWhile, Then as OfThen, Else as OfElse}
use Rattle.ceal_grammar.specs.declared.state.Place.{Place}
use Rattle.ceal_grammar.specs.declared.state.Place.TheVariants.{Want, Post, Have, Element, Access}
use Rattle.ceal_grammar.specs.declared.state.Receiver.{Receiver}
use Rattle.ceal_grammar.specs.declared.state.Receiver.TheVariants as To
use Rattle.ceal_grammar.specs.declared.state.State.{State}
use Rattle.ceal_grammar.specs.declared.state.State.TheVariants.{Top, Struct, Head as InHead, In, Finished}
use Rattle.ceal_grammar.specs.declared.state.StructPlace.{StructPlace}
use Rattle.ceal_grammar.specs.declared.state.StructPlace.TheVariants as Structs
use Rattle.ceal_grammar.specs.declared.state.TypePart.{TypePart}
use Rattle.ceal_grammar.specs.declared.state.TypePart.TheVariants as Types
use Rattle.ceal_grammar.specs.declared.state.Whole.{Whole}
use Rattle.ceal_grammar.specs.Grammar.{variable, Grouped, int, no_arguments, AllGrouped, plainly, nothing, block, ended, StatementProper, no_parameters, MoreProper, MembersProper, PartsProper}
use Rattle.ceal_grammar.specs.Machine.{is_cell}
use Rattle.ceal_grammar.proofs.Words.{word, phrase, items, statement, others, member_words, parts_words}
use Rattle.ceal_grammar.proofs.Regroup.{stop, behind_words, BehindGrouped, ending, tail_words, TailGrouped}
use Rattle.ceal_grammar.proofs.Future.{After, AfterSign, AfterName, TopFuture, StarOr, TypeFuture, Each, BodyFuture}
use Rattle.ceal_grammar.proofs.Future.{OtherFuture, OwnedFuture, CloseFuture, InBody, SemiFuture, ClosedFuture}
use Rattle.ceal_grammar.proofs.Future.{EmptyFuture, BlockFuture, ReceiverFuture, FramesFuture, without_index}
use Rattle.ceal_grammar.proofs.Future.{WantFuture, PostFuture, HaveFuture, ElementFuture, PlaceFuture, ArgumentsFuture}
use Rattle.ceal_grammar.proofs.Future.{ValueFuture, hops, ReachedFuture, PathFuture, MakingFuture, ModeFuture}
use Rattle.ceal_grammar.proofs.Future.{MembersFuture, SizedFuture, LengthFuture, EndFuture, StructFuture, OthersFuture}
use Rattle.ceal_grammar.proofs.Future.{ParametersFuture, OwnFuture, ShapeFuture, HeadFuture, Future}

-- some tokens bring it about
abbrev pub Possible : (List Token → Type 0) → Type 0
Possible P = (u : List Token) × P u

abbrev here : Span
here = record { from = 0; to = 0 }

abbrev some_name : Ident
some_name = record { text = []; span = here }

top_possible : Possible TopFuture
unfolding parts_words PartsProper
top_possible = (word End here ∷ [], ([], here, tt, refl))

body_possible : (close : List Token → Type 0) → Possible close → Possible (BodyFuture close)
unfolding statement StatementProper
body_possible close c = (word (Sign Signs.RightBrace) here ∷ c.0, (ended, here, c.0, tt, refl, c.1))

other_possible : (body : List Token → Type 0) → Possible body → Possible (OtherFuture body)
unfolding statement StatementProper
other_possible body c = (c.0, (nothing, c.0, tt, refl, c.1))

owned_possible : (o : Owner) (body : List Token → Type 0) → Possible body → Possible (OwnedFuture o body)
owned_possible (OfWhile s e) body c = c
owned_possible (OfThen s e) body c = other_possible body c
owned_possible (OfElse s e first) body c = c

close_possible : (os : List Opened) → Possible (CloseFuture os)
unfolding CloseFuture
close_possible [] = top_possible
close_possible (o ∷ os) = owned_possible o.owner (BodyFuture (CloseFuture os)) (body_possible (CloseFuture os) (close_possible os))

in_possible : (i : Inside) → Possible (InBody i)
in_possible i = body_possible (CloseFuture i.opened) (close_possible i.opened)

block_possible : (next : List Token → Type 0) → Possible next → Possible (BlockFuture next)
unfolding statement StatementProper
block_possible next c = (word (Sign Signs.LeftBrace) here ∷ word (Sign Signs.RightBrace) here ∷ c.0, (block here ended here, c.0, tt, refl, c.1))

after_possible : (k : TokenKind) (next : List Token → Type 0) → Possible next → Possible (After k next)
after_possible k next c = (word k here ∷ c.0, (here, c.0, refl, c.1))

name_possible : (next : List Token → Type 0) → Possible next → Possible (AfterName next)
name_possible next c = (word (Name []) here ∷ c.0, (some_name, c.0, refl, c.1))

semi_possible : (i : Inside) → Possible (SemiFuture i)
semi_possible i = after_possible (Sign Signs.Semicolon) (InBody i) (in_possible i)

closed_possible : (i : Inside) → Possible (ClosedFuture i)
closed_possible i = after_possible (Sign Signs.RightParenthesis) (SemiFuture i) (semi_possible i)

empty_possible : (i : Inside) → Possible (EmptyFuture i)
empty_possible i = after_possible (Sign Signs.LeftParenthesis) (ClosedFuture i) (closed_possible i)

star_possible : (cells : Bool) (next : Bool → List Token → Type 0) → ((b : Bool) → Possible (next b)) → Possible (StarOr cells next)
star_possible cells next c = let d = after_possible (Sign Signs.Star) (AfterName (next false)) (name_possible (next false) (c false)) in (d.0, inl d.1)

type_possible : (cells : Bool) (next : Bool → List Token → Type 0) → ((b : Bool) → Possible (next b)) → (p : TypePart) → Possible (TypeFuture cells next p)
type_possible cells next c Types.Struct = name_possible _ (after_possible (Sign Signs.Star) _ (name_possible (next false) (c false)))
type_possible cells next c (Types.StructNamed y) = after_possible (Sign Signs.Star) _ (name_possible (next false) (c false))
type_possible cells next c Types.Mod = let d = after_possible (Reserved Words.Int) (StarOr cells next) (star_possible cells next c) in (d.0, inl d.1)
type_possible cells next c Types.ModInt = star_possible cells next c
type_possible cells next c Types.ModStruct = name_possible _ (star_possible cells next c)
type_possible cells next c (Types.ModNamed y) = star_possible cells next c
type_possible cells next c (Types.Done form) = name_possible (next (is_cell form)) (c (is_cell form))

receiver_possible : (i : Inside) (r : Receiver) → Possible (ReceiverFuture i r)
unfolding items AllGrouped phrase Grouped
receiver_possible i (To.Value t) = semi_possible i
receiver_possible i (To.Read t s) = closed_possible i
receiver_possible i (To.Argument f args) =
    let c = semi_possible i in (word (Sign Signs.RightParenthesis) here ∷ c.0, ([], here, c.0, tt, refl, c.1))
receiver_possible i (To.Set a x) = semi_possible i
receiver_possible i (To.Write s) =
    let c = semi_possible i in
    (word (Sign Signs.Comma) here ∷ word (Name []) here ∷ word (Sign Signs.RightParenthesis) here ∷ c.0, (here, variable some_name, here, c.0, tt, refl, c.1))
receiver_possible i (To.Store s a) = closed_possible i
receiver_possible i (To.If at) = after_possible (Sign Signs.RightParenthesis) _ (block_possible _ (other_possible _ (in_possible i)))
receiver_possible i (To.While at) = after_possible (Sign Signs.RightParenthesis) _ (block_possible _ (in_possible i))

frames_possible : (i : Inside) (r : Receiver) (fs : List Frame) → Possible (FramesFuture i r fs)
unfolding FramesFuture tail_words TailGrouped behind_words BehindGrouped
frames_possible i r [] = receiver_possible i r
frames_possible i r (Prefix op s ∷ fs) = frames_possible i r fs
frames_possible i r (AddressOf s ∷ fs) = frames_possible i r fs
frames_possible i r (Left a op s ∷ fs) = frames_possible i r fs
frames_possible i r (Open o d ∷ fs) = let c = frames_possible i r fs in (word (Sign Signs.RightParenthesis) here ∷ c.0, (here, ending stop, c.0, tt, refl, c.1))
frames_possible i r (Index o e d ∷ fs) = let c = frames_possible i r fs in (word (Sign Signs.RightBracket) here ∷ c.0, (here, stop, c.0, tt, refl, c.1))

want_possible : (i : Inside) (r : Receiver) (fs : List Frame) → Possible (WantFuture i r fs)
unfolding phrase Grouped
want_possible i r fs =
    let c = frames_possible i r fs in (word (Name []) here ∷ c.0, (variable some_name, c.0, tt, refl, without_index i r fs c.0 c.1))

post_possible : (i : Inside) (r : Receiver) (fs : List Frame) → Possible (PostFuture i r fs)
unfolding phrase Grouped tail_words TailGrouped behind_words BehindGrouped
post_possible i r fs = let c = frames_possible i r fs in (word (Name []) here ∷ c.0, (variable some_name, ending stop, c.0, omega arith, tt, tt, refl, c.1))

have_possible : (i : Inside) (r : Receiver) (fs : List Frame) → Possible (HaveFuture i r fs)
unfolding tail_words TailGrouped behind_words BehindGrouped
have_possible i r fs = let c = frames_possible i r fs in (c.0, (ending stop, c.0, tt, refl, c.1))

element_possible : (i : Inside) (r : Receiver) (fs : List Frame) → Possible (ElementFuture i r fs)
unfolding behind_words BehindGrouped
element_possible i r fs = let c = frames_possible i r fs in (c.0, (stop, c.0, tt, refl, c.1))

place_possible : (i : Inside) (w : Whole) (p : Place) → Possible (PlaceFuture i w p)
place_possible i w Want = want_possible i w.receiver w.frames
place_possible i w Post = post_possible i w.receiver w.frames
place_possible i w (Have p) = have_possible i w.receiver w.frames
place_possible i w (Element p) = element_possible i w.receiver w.frames
place_possible i w (Access p) = name_possible _ (have_possible i w.receiver w.frames)

arguments_possible : (i : Inside) → Possible (ArgumentsFuture i)
arguments_possible i = let c = semi_possible i in (word (Sign Signs.RightParenthesis) here ∷ c.0, (no_arguments, here, c.0, tt, refl, c.1))

opened_possible : (i : Inside) → Possible (AfterSign Signs.LeftParenthesis (ArgumentsFuture i))
opened_possible i = after_possible (Sign Signs.LeftParenthesis) _ (arguments_possible i)

value_possible : (i : Inside) → Possible (ValueFuture i)
unfolding phrase Grouped
value_possible i = let c = semi_possible i in (word (Name []) here ∷ c.0, (plainly (variable some_name), c.0, tt, refl, c.1))

equals_possible : (i : Inside) → Possible (AfterSign Signs.Equals (ValueFuture i))
equals_possible i = after_possible (Sign Signs.Equals) _ (value_possible i)

reached_possible : (i : Inside) → Possible (ReachedFuture i)
unfolding phrase Grouped hops
reached_possible i =
    let c = semi_possible i in (word (Sign Signs.Equals) here ∷ word (Name []) here ∷ c.0, ([], here, variable some_name, c.0, tt, refl, c.1))

path_possible : (i : Inside) → Possible (PathFuture i)
path_possible i = name_possible _ (reached_possible i)

making_possible : (i : Inside) (m : Making) → Possible (MakingFuture i m)
making_possible i (Makings.Alloc t s) = name_possible _ (name_possible _ (opened_possible i))
making_possible i (Makings.Shape t s y) = name_possible _ (opened_possible i)
making_possible i (Makings.Modref t s) = let c = name_possible _ (empty_possible i) in (c.0, inr c.1)
making_possible i (Makings.Typed st) = empty_possible i
making_possible i (Makings.Opened st) = closed_possible i

mode_possible : (i : Inside) (m : Mode) → Possible (ModeFuture i m)
mode_possible i Modes.Body = in_possible i
mode_possible i (Modes.Typing at p) = type_possible false (Each (AfterSign Signs.Equals (ValueFuture i))) (λ b. equals_possible i) p
mode_possible i (Modes.Declared at form x) = equals_possible i
mode_possible i (Modes.Named x) = let c = equals_possible i in (c.0, inl c.1)
mode_possible i (Modes.Owned at) = after_possible (Sign Signs.Arrow) _ (path_possible i)
mode_possible i (Modes.Path e n) = path_possible i
mode_possible i (Modes.Reached e x n) = reached_possible i
mode_possible i (Modes.Value t) = value_possible i
mode_possible i (Modes.Making m) = making_possible i m
mode_possible i (Modes.Calls f) = opened_possible i
mode_possible i (Modes.First f) = arguments_possible i
mode_possible i (Modes.Before r) = after_possible _ _ (want_possible i r [])
mode_possible i (Modes.Within w p) = place_possible i w p
mode_possible i (Modes.Ends st) = semi_possible i
mode_possible i (Modes.Ended st) = in_possible i
mode_possible i (Modes.Opens o) = block_possible _ (owned_possible o (InBody i) (in_possible i))
mode_possible i (Modes.Closed at e first) = other_possible _ (in_possible i)
mode_possible i (Modes.Otherwise at e first) = let c = block_possible _ (in_possible i) in (c.0, inl c.1)

members_possible : Possible MembersFuture
unfolding member_words MembersProper
members_possible =
    let c = top_possible in (word (Sign Signs.RightBrace) here ∷ word (Sign Signs.Semicolon) here ∷ c.0, ([], here, here, c.0, tt, refl, c.1))

end_possible : (cell : Bool) → Possible (EndFuture cell)
end_possible cell = let c = after_possible (Sign Signs.Semicolon) MembersFuture members_possible in (c.0, inl c.1)

sized_possible : Possible SizedFuture
sized_possible = after_possible (Sign Signs.RightBracket) _ (after_possible (Sign Signs.Semicolon) MembersFuture members_possible)

length_possible : Possible LengthFuture
length_possible = let c = sized_possible in (word (Number (pos 1)) here ∷ c.0, (1, here, c.0, omega arith, refl, c.1))

struct_possible : (p : StructPlace) → Possible (StructFuture p)
struct_possible Structs.Begun = name_possible _ (after_possible _ _ members_possible)
struct_possible (Structs.Named x) = after_possible _ _ members_possible
struct_possible (Structs.Members d) = members_possible
struct_possible (Structs.Typing d p) = type_possible true EndFuture (λ b. end_possible b) p
struct_possible (Structs.Ends d m) = end_possible (is_cell m.form)
struct_possible (Structs.Length d m) = length_possible
struct_possible (Structs.Sized d m n) = sized_possible
struct_possible (Structs.Closed d) = after_possible _ _ top_possible

others_possible : Possible OthersFuture
unfolding others MoreProper
others_possible = let c = block_possible TopFuture top_possible in (word (Sign Signs.RightParenthesis) here ∷ c.0, ([], here, c.0, tt, refl, c.1))

parameters_possible : Possible ParametersFuture
parameters_possible = let c = block_possible TopFuture top_possible in (word (Sign Signs.RightParenthesis) here ∷ c.0, (no_parameters, here, c.0, tt, refl, c.1))

own_possible : Possible OwnFuture
own_possible = after_possible _ _ others_possible

shape_possible : Possible ShapeFuture
shape_possible = name_possible _ (after_possible _ _ own_possible)

head_possible : (p : HeadPlace) → Possible (HeadFuture p)
head_possible Heads.Ceal = name_possible _ (after_possible _ _ parameters_possible)
head_possible (Heads.CealNamed x) = after_possible _ _ parameters_possible
head_possible Heads.Init = name_possible _ (after_possible _ _ (after_possible _ _ shape_possible))
head_possible (Heads.InitNamed x) = after_possible _ _ (after_possible _ _ shape_possible)
head_possible (Heads.InitOpened x) = after_possible _ _ shape_possible
head_possible (Heads.InitStruct x) = shape_possible
head_possible (Heads.Shaped h) = after_possible _ _ own_possible
head_possible (Heads.Starred h) = own_possible
head_possible (Heads.First h) = parameters_possible
head_possible (Heads.Next h) =
    let c = others_possible in
    (word (Reserved Words.Int) here ∷ word (Name []) here ∷ c.0, (record { type = int here; x = some_name }, c.0, tt, refl, c.1))
head_possible (Heads.Typing h p) = type_possible false (Each OthersFuture) (λ b. others_possible) p
head_possible (Heads.Named h) = others_possible
head_possible (Heads.Done h) = block_possible _ top_possible

pub possible : (σ : State) → Possible (Future σ)
possible (Top es) = top_possible
possible (Struct es p) = struct_possible p
possible (InHead es p) = head_possible p
possible (In i m) = mode_possible i m
possible (Finished es) = ([], refl)
