-- Computed samples of the definitions.
use Rattle.std.proofs.Common.{◌≡◌, true, false, List, [], ◌∷◌, ◌++◌, pos, refl}
use Rattle.std.specs.Prelude.{codes}
use Rattle.ceal_base.specs.Digits.{number_with_digits, number_of}
use Rattle.ceal_lex.specs.declared.token.TokenKind.TheVariants.{Name, Number, Sign, End}
use Rattle.ceal_lex.specs.declared.token.Sign.TheVariants.{Arrow}
use Rattle.ceal_lex.specs.Characters.{is_space, is_word_byte}
use Rattle.ceal_lex.specs.Pieces.{Piece, space, line_comment, block_comment, token, spelled}
use Rattle.ceal_lex.specs.Tokens.{last_token, span, tokens_from}

-- a name, a comment, a sign, white space, a number and a comment at the end
abbrev pieces : List Piece
pieces = token (Name (codes "ab")) (codes "ab") ∷ block_comment (codes "/") ∷ token (Sign Arrow) (codes "->") ∷ space 32
    ∷ token (Number (pos 7)) (codes "07") ∷ line_comment (codes " *") ∷ []

text : spelled pieces [] ≡ codes "ab/*/*/-> 07// *"
unfolding spelled
text = refl

tokens : tokens_from 0 pieces ++ last_token true 16 ∷ []
    ≡ record { kind = Name (codes "ab"); span = span 0 2 } ∷ record { kind = Sign Arrow; span = span 7 9 }
    ∷ record { kind = Number (pos 7); span = span 10 12 } ∷ record { kind = End; span = span 16 16 } ∷ []
unfolding tokens_from
tokens = refl

number : number_of (codes "007") ≡ 7
unfolding number_with_digits
number = refl

largest : number_of (codes "9223372036854775807") ≡ 9223372036854775807
unfolding number_with_digits
largest = refl

spaces : is_space 10 ≡ true
spaces = refl

no_word : is_word_byte 195 ≡ false
no_word = refl
