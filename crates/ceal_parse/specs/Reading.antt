-- Where the parser's answers leave a reading.
use Rattle.std.specs.Prelude.{ℕ, suc, ◌≤◌, ◌≡◌, Bool, true, false, Option, Some, None}
use Rattle.ceal_base.specs.declared.fault.Span.{Span}
use Rattle.ceal_lex.specs.declared.token.Sign.{Sign}
use Rattle.ceal_lex.specs.declared.token.Token.{Token}
use Rattle.ceal_lex.specs.declared.token.TokenKind.{TokenKind}
use Rattle.ceal_lex.specs.declared.token.TokenKind.TheVariants.{Name, Cut}
use Rattle.ceal_grammar.specs.declared.state.HeadPlace.{HeadPlace}
use Rattle.ceal_grammar.specs.declared.state.HeadPlace.TheVariants as Heads
use Rattle.ceal_grammar.specs.declared.state.Inside.{Inside}
use Rattle.ceal_grammar.specs.declared.state.Mode.{Mode}
use Rattle.ceal_grammar.specs.declared.state.Mode.TheVariants as Modes
use Rattle.ceal_grammar.specs.declared.state.Place.{Place}
use Rattle.ceal_grammar.specs.declared.state.Place.TheVariants.{Have}
use Rattle.ceal_grammar.specs.declared.state.Receiver.{Receiver}
use Rattle.ceal_grammar.specs.declared.state.Receiver.TheVariants as To
use Rattle.ceal_grammar.specs.declared.state.State.{State}
use Rattle.ceal_grammar.specs.declared.state.State.TheVariants.{Top, Struct, In}
use Rattle.ceal_grammar.specs.declared.state.StructPlace.{StructPlace}
use Rattle.ceal_grammar.specs.declared.state.StructPlace.TheVariants as Structs
use Rattle.ceal_grammar.specs.declared.state.TypePart.{TypePart}
use Rattle.ceal_grammar.specs.declared.state.TypePart.TheVariants.{Done}
use Rattle.ceal_grammar.specs.declared.state.Whole.{Whole}
use Rattle.ceal_grammar.specs.Machine.{within, at_expression_end, fields_with_member, is_cell}
use Rattle.ceal_grammar.specs.Trees.{row_form}
use Rattle.ceal_parse.specs.declared.turn.Part.{Part}
use Rattle.ceal_parse.specs.declared.turn.Part.TheVariants as Parts
use Rattle.ceal_parse.specs.declared.turn.Turn.{Turn}
use Rattle.ceal_parse.specs.declared.turn.Turn.TheVariants as Turns

-- The token is a name.
abbrev pub is_name : TokenKind → Bool
is_name (Name x) = true
is_name _ = false

-- A token at this place. The limits look only at the place of a token.
abbrev pub cut_at : Span → Token
cut_at s = record { kind = Cut; span = s }

-- The state of the reading after the sign c, at which the whole expression w has ended with the operand at p.
abbrev pub ended : Inside → Whole → Place → Sign → Option State
ended i w (Have p) c = at_expression_end i w.nesting w.receiver p.expr c
ended i w _ c = None

-- The state of the reading after a token within a whole expression.
abbrev pub part_state : Inside → Whole → Place → Part → Option State
part_state i w p Parts.Refused = None
part_state i w p Parts.On = Some (within i w p)
part_state i w p (Parts.Ended c) = ended i w p c

-- The same of a place within a body.
abbrev pub mode_ended : Inside → Mode → Sign → Option State
mode_ended i (Modes.Within w p) c = ended i w p c
mode_ended i _ c = None

-- The place is within a path, an allocation or a call.
abbrev pub is_aside : Mode → Bool
is_aside (Modes.Path e n) = true
is_aside (Modes.Reached e x n) = true
is_aside (Modes.Making m) = true
is_aside (Modes.Calls f) = true
is_aside (Modes.First f) = true
is_aside _ = false

-- The place is within a statement and in no whole expression, and parts of the statement were read.
abbrev pub has_parts : Mode → Bool
has_parts Modes.Body = false
has_parts (Modes.Owned at) = false
has_parts (Modes.Within w p) = false
has_parts _ = true

-- Such a statement has not ended, and waits for no parenthesis before an expression.
abbrev pub is_begun : Mode → Bool
is_begun (Modes.Ends st) = false
is_begun (Modes.Before r) = false
is_begun m = has_parts m

-- It is at a block, or within a path, an allocation or a call.
abbrev pub is_later : Mode → Bool
is_later (Modes.Opens o) = true
is_later (Modes.Ended st) = true
is_later (Modes.Closed at e first) = true
is_later (Modes.Otherwise at e first) = true
is_later m = is_aside m

-- What the expression is wanted for has no part that was read.
abbrev pub is_plain : Receiver → Bool
is_plain (To.Write at) = true
is_plain (To.If at) = true
is_plain (To.While at) = true
is_plain _ = false

-- The struct has ended.
abbrev pub is_closed : StructPlace → Bool
is_closed (Structs.Closed x) = true
is_closed _ = false

-- The head of a function has ended.
abbrev pub is_done : HeadPlace → Bool
is_done (Heads.Done h) = true
is_done _ = false

-- The function of the head has a name, and the head has not ended.
abbrev pub is_named : HeadPlace → Bool
is_named Heads.Ceal = false
is_named Heads.Init = false
is_named (Heads.Done h) = false
is_named _ = true

-- The place is within the body of a function.
abbrev pub is_inside : State → Bool
is_inside (In i m) = true
is_inside _ = false

-- The state of the reading after a token within a body.
abbrev pub turn_state : Inside → Mode → Turn → Option State
turn_state i m Turns.Refused = None
turn_state i m Turns.On = Some (In i m)
turn_state i m Turns.Closed = Some (Top i.entries)

-- How many fields the members of a struct are with one whose type was read so far.
abbrev pub fields_with : ℕ → TypePart → ℕ
fields_with c (Done form) = fields_with_member c form
fields_with c _ = suc c

-- The members of a struct are 255 fields at most, with the one at which the reading is, and a length is after
-- a modifiable. A reading within the limits reaches no other state.
abbrev pub PlaceFits : StructPlace → Type 0
PlaceFits (Structs.Typing l p) = fields_with l.count p ≤ 255
PlaceFits (Structs.Ends l m) = fields_with_member l.count m.form ≤ 255
PlaceFits (Structs.Length l m) = is_cell m.form ≡ true
PlaceFits (Structs.Sized l m n) = (n ≤ 255) × (fields_with_member l.count (row_form m.form n) ≤ 255)
PlaceFits _ = Unit {0}

-- the members of the struct at which the reading is keep the limit
abbrev pub Fits : State → Type 0
Fits (Struct es p) = PlaceFits p
Fits _ = Unit {0}
