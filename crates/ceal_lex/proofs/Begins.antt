-- What is at the front of bytes, by the class of the first.
use Rattle.std.proofs.Common.{◌≡◌, ◌≢◌, ℕ, ◌+◌, ◌-◌, ◌≤◌, ◌<◌, Bool, true, false, not, ◌||◌, List, [], ◌∷◌, ◌++◌, length, take, drop, get_or, refl, sym, ap, ◌∙◌, subst, arith, inl, inr}
use Rattle.std.specs.Prelude.{◌==◌, ℤ, pos}
use Rattle.std.specs.List.{prefix_len, position_or_len}
use Rattle.std.proofs.lemmas.Bool.{false≢true, or_left, or_right, or_parts, not-true}
use Rattle.std.proofs.lemmas.Bool.Decides.{nat_tests}
use Rattle.std.proofs.lemmas.List.{length-append, length-take-le, length-drop, take-append-drop, take_rest}
use Rattle.std.proofs.Math.Numerals.{one-add}
use Rattle.ceal_base.specs.declared.fault.FaultCode.{FaultCode}
use Rattle.ceal_base.specs.declared.fault.FaultCode.TheVariants.{S1, S2}
use Rattle.ceal_base.specs.Digits.{number_of, is_digit}
use Rattle.ceal_lex.specs.declared.token.Sign.{Sign}
use Rattle.ceal_lex.specs.declared.token.Sign.TheVariants as signs
use Rattle.ceal_lex.specs.declared.token.TokenKind.{TokenKind}
use Rattle.ceal_lex.specs.declared.token.TokenKind.TheVariants as kinds
use Rattle.ceal_lex.specs.declared.front.Front.{Front}
use Rattle.ceal_lex.specs.declared.front.Front.TheVariants.{Blank, Found, Broken}
use Rattle.ceal_lex.specs.Characters.{LINE_FEED, SLASH, STAR, is_letter, is_space, is_word_byte}
use Rattle.ceal_lex.specs.Spelling.{AreDigits, IsLexeme, IsWord, LARGEST, sign_text, Spells}
use Rattle.ceal_lex.specs.Pieces.{Piece, space, line_comment, block_comment, token, piece_then, BeginsComment, IsLongest, Stands}
use Rattle.ceal_lex.specs.Tokens.{tokens_from}
use Rattle.ceal_lex.specs.Faults.{FaultStands}
use Rattle.ceal_lex.specs.Front.{BeginsWith, is_other, ClosesAt, IsBlank, IsFound, IsFront, IsLongestSign, IsNeverClosed, IsTaken}
use Rattle.ceal_lex.proofs.Runs.{run_within, run_passes, run_longest, line_passes, line_ends}
use Rattle.ceal_lex.proofs.Spellings.{lexeme_of, lexeme_not_empty, letter_no_digit}
use Rattle.ceal_lex.proofs.Fronts.{fault_not_empty}
use Rattle.ceal_lex.proofs.SignTexts.{two_bytes}

-- the first byte of bytes that are not empty
pub begins_with : (test : ℕ → Bool) (bytes : List ℕ) → 0 < length bytes → test (get_or bytes 0 0) ≡ true → BeginsWith test bytes
begins_with test [] l h = absurd (omega (arith, l))
begins_with test (b ∷ bs) l h = h

other_byte : (b : ℕ) → is_space b ≡ false → is_letter b ≡ false → is_digit b ≡ false → is_other b ≡ true
other_byte b s l d = rw (s, l, d) refl

pub begins_other : (bytes : List ℕ) → 0 < length bytes → is_space (get_or bytes 0 0) ≡ false → is_letter (get_or bytes 0 0) ≡ false → is_digit (get_or bytes 0 0) ≡ false
    → BeginsWith is_other bytes
begins_other bytes l s t d = begins_with is_other bytes l (other_byte (get_or bytes 0 0) s t d)

-- white space
pub blank_space : (bytes : List ℕ) → BeginsWith is_space bytes → IsBlank 1 bytes
unfolding tokens_from
blank_space [] h = absurd h
blank_space (b ∷ bs) h = record {
  piece = space b;
  rest = bs;
  begins = refl;
  stands = h;
  counted = omega arith;
  no_token = λ at ps. refl;
}

-- the rest of a line after `//`
pub blank_line : (text : List ℕ) (n : ℕ) → n ≡ position_or_len (λ b. b == LINE_FEED) text → IsBlank (2 + n) (SLASH ∷ SLASH ∷ text)
unfolding tokens_from
blank_line text n h =
    let fits : n ≤ length text = let p = run_within (λ b. not (b == LINE_FEED)) text in omega (arith, h, p) in
    let whole = take-append-drop n text in
    let l : length (take n text) ≡ n = length-take-le n text fits in
    let r = length-drop n text in
    record {
      piece = line_comment (take n text);
      rest = drop n text;
      begins = ap (λ (x : List ℕ). SLASH ∷ SLASH ∷ x) whole;
      stands = (rw h (line_passes text), rw h (line_ends text));
      counted = omega (arith, r, fits);
      no_token = λ at ps. ap (λ (k : ℕ). tokens_from (at + (2 + k)) ps) l;
    }

-- a comment that is closed, after `/*`
pub blank_block : (text : List ℕ) (n : ℕ) → ClosesAt n text → IsBlank (4 + n) (SLASH ∷ STAR ∷ text)
unfolding tokens_from
blank_block text n h =
    let l = ap length (sym h.whole) ∙ length-append h.inside (STAR ∷ SLASH ∷ h.rest) in
    record {
      piece = block_comment h.inside;
      rest = h.rest;
      begins = ap (λ (x : List ℕ). SLASH ∷ STAR ∷ x) h.whole;
      stands = h.first;
      counted = omega (arith, l, h.counted);
      no_token = λ at ps. ap (λ (k : ℕ). tokens_from (at + (4 + k)) ps) (sym h.counted);
    }

-- and one that is not
pub open_block : (text : List ℕ) → IsNeverClosed text → FaultStands S1 (SLASH ∷ STAR ∷ text) 1
open_block text h = (inl (record { text = text; begins = refl; never_closed = h }), refl)

-- the same, of the bytes from the two signs on
module _ (bytes : List ℕ) (two : 2 ≤ length bytes) (slash : get_or bytes 0 0 ≡ SLASH) where
  behind : (c : ℕ) → get_or bytes 1 0 ≡ c → SLASH ∷ c ∷ drop 2 bytes ≡ bytes
  behind c h =
      ap (λ (k : ℕ). k ∷ c ∷ drop 2 bytes) (sym slash) ∙ ap (λ (k : ℕ). get_or bytes 0 0 ∷ k ∷ drop 2 bytes) (sym h) ∙ sym (two_bytes bytes two)

  pub line_at : (n : ℕ) → get_or bytes 1 0 ≡ SLASH → n ≡ position_or_len (λ b. b == LINE_FEED) (take (length bytes - 2) (drop 2 bytes)) → IsBlank (2 + n) bytes
  line_at n h e =
      let f : n ≡ position_or_len (λ b. b == LINE_FEED) (drop 2 bytes) = e ∙ ap (position_or_len (λ b. b == LINE_FEED)) (take_rest bytes 2) in
      subst (IsBlank (2 + n)) (behind SLASH h) (blank_line (drop 2 bytes) n f)

  pub block_at : (n : ℕ) → get_or bytes 1 0 ≡ STAR → ClosesAt n (take (length bytes - 2) (drop 2 bytes)) → IsBlank (4 + n) bytes
  block_at n h e = subst (IsBlank (4 + n)) (behind STAR h) (blank_block (drop 2 bytes) n (subst (ClosesAt n) (take_rest bytes 2) e))

  pub open_at : get_or bytes 1 0 ≡ STAR → IsNeverClosed (take (length bytes - 2) (drop 2 bytes)) → FaultStands S1 bytes 1
  open_at h e = subst (λ (x : List ℕ). FaultStands S1 x 1) (behind STAR h) (open_block (drop 2 bytes) (subst IsNeverClosed (take_rest bytes 2) e))

-- no comment begins with a letter or a digit
no_comment : (b : ℕ) (bs : List ℕ) → is_word_byte b ≡ true → BeginsComment (b ∷ bs) → ⊥
no_comment b bs h c =
    let e : b ≡ SLASH = cc c.2 in
    false≢true (ap is_word_byte (sym e) ∙ h)

sign_no_word_byte : (b : ℕ) (bs : List ℕ) (s : Sign) → is_word_byte b ≡ true → b ∷ bs ≡ sign_text s → ⊥
sign_no_word_byte b bs signs.Arrow h e = grind (arith, nat_tests)
sign_no_word_byte b bs _ h e = grind (arith, nat_tests)

letter_in_word : (b : ℕ) → is_letter b ≡ true → is_word_byte b ≡ true
letter_in_word b h = or_left (is_letter b) (is_digit b) h

digit_in_word : (b : ℕ) → is_digit b ≡ true → is_word_byte b ≡ true
digit_in_word b h = or_right (is_letter b) (is_digit b) h

-- a word at the front of bytes that begin with a letter
module _ (b : ℕ) (bs : List ℕ) (letter : is_letter b ≡ true) where
  word_length_more : (a r : List ℕ) → b ∷ bs ≡ a ++ r → IsLexeme a → length a ≤ prefix_len is_word_byte (b ∷ bs)
  word_length_more [] r h x = omega arith
  word_length_more (c ∷ a) r h (inl w) =
      let p = run_longest is_word_byte (c ∷ a) r (letter_in_word c w.0, w.1) in
      subst (λ (x : List ℕ). length (c ∷ a) ≤ prefix_len is_word_byte x) (sym h) p
  word_length_more (c ∷ a) r h (inr (inl d)) =
      let e : b ≡ c = cc h in
      absurd (letter_no_digit c (ap is_letter (sym e) ∙ letter) d.0)
  word_length_more (c ∷ a) r h (inr (inr (s, x))) =
      let e : b ≡ c = cc h in
      absurd (sign_no_word_byte c a s (letter_in_word c (ap is_letter (sym e) ∙ letter)) x)

  is_word : IsWord (take (prefix_len is_word_byte (b ∷ bs)) (b ∷ bs))
  is_word = rw (letter_in_word b letter, one-add) (letter, run_passes is_word_byte bs)

-- a number at the front of bytes that begin with a digit
module _ (b : ℕ) (bs : List ℕ) (digit : is_digit b ≡ true) where
  digits_length_more : (a r : List ℕ) → b ∷ bs ≡ a ++ r → IsLexeme a → length a ≤ prefix_len is_digit (b ∷ bs)
  digits_length_more [] r h x = omega arith
  digits_length_more (c ∷ a) r h (inl w) =
      let e : b ≡ c = cc h in
      absurd (letter_no_digit c w.0 (ap is_digit (sym e) ∙ digit))
  digits_length_more (c ∷ a) r h (inr (inl d)) =
      let p = run_longest is_digit (c ∷ a) r d in
      subst (λ (x : List ℕ). length (c ∷ a) ≤ prefix_len is_digit x) (sym h) p
  digits_length_more (c ∷ a) r h (inr (inr (s, x))) =
      let e : b ≡ c = cc h in
      absurd (sign_no_word_byte c a s (digit_in_word c (ap is_digit (sym e) ∙ digit)) x)

  are_digits : AreDigits (take (prefix_len is_digit (b ∷ bs)) (b ∷ bs))
  are_digits = rw (digit, one-add) (digit, run_passes is_digit bs)

-- the front and the rest of bytes
module _ (bytes : List ℕ) (n : ℕ) where
  front_longest : n ≤ length bytes → ((a r : List ℕ) → bytes ≡ a ++ r → IsLexeme a → length a ≤ n) → IsLongest (take n bytes) (drop n bytes)
  front_longest fits h a r e x =
      let p = h a r (sym (take-append-drop n bytes) ∙ e) x in
      let l = length-take-le n bytes fits in
      omega (arith, p, l)

  front_found : (k : TokenKind) → n ≤ length bytes → Spells k (take n bytes) → IsLongest (take n bytes) (drop n bytes) → (BeginsComment bytes → ⊥) → IsFound k n bytes
  front_found k fits h l c = record {
    text = take n bytes;
    rest = drop n bytes;
    begins = take-append-drop n bytes;
    stands = (h, l, λ d. c (subst BeginsComment (take-append-drop n bytes) d));
    counted = sym (length-take-le n bytes fits);
  }

pub word_found : (k : TokenKind) (bytes : List ℕ) (n : ℕ) → BeginsWith is_letter bytes → n ≡ prefix_len is_word_byte bytes → (IsWord (take n bytes) → Spells k (take n bytes)) → IsFound k n bytes
word_found k [] n h e s = absurd h
word_found k (b ∷ bs) n h e s =
    let fits : n ≤ length (b ∷ bs) = let p = run_within is_word_byte (b ∷ bs) in omega (arith, e, p) in
    let word : IsWord (take n (b ∷ bs)) = rw e (is_word b bs h) in
    let longest = front_longest (b ∷ bs) n fits (λ a r g x. let p = word_length_more b bs h a r g x in omega (arith, e, p)) in
    front_found (b ∷ bs) n k fits (s word) longest (no_comment b bs (letter_in_word b h))

module _ (bytes : List ℕ) (n : ℕ) (h : BeginsWith is_digit bytes) (e : n ≡ prefix_len is_digit bytes) where
  digits_fit : n ≤ length bytes
  digits_fit = let p = run_within is_digit bytes in omega (arith, e, p)

  all_digits : AreDigits (take n bytes)
  all_digits = rw e (all bytes h)
    where
      all : (bs : List ℕ) → BeginsWith is_digit bs → AreDigits (take (prefix_len is_digit bs) bs)
      all [] h = h
      all (b ∷ bs) h = are_digits b bs h

  digits_longest : IsLongest (take n bytes) (drop n bytes)
  digits_longest = front_longest bytes n digits_fit (λ a r g x. let p = more bytes h a r g x in omega (arith, e, p))
    where
      more : (bs : List ℕ) → BeginsWith is_digit bs → (a r : List ℕ) → bs ≡ a ++ r → IsLexeme a → length a ≤ prefix_len is_digit bs
      more [] h = absurd h
      more (b ∷ bs) h = digits_length_more b bs h

  digits_no_comment : BeginsComment bytes → ⊥
  digits_no_comment = none bytes h
    where
      none : (bs : List ℕ) → BeginsWith is_digit bs → BeginsComment bs → ⊥
      none [] h = absurd h
      none (b ∷ bs) h = no_comment b bs (digit_in_word b h)

  pub number_found : (v : ℤ) → v ≡ pos (number_of (take n bytes)) → number_of (take n bytes) ≤ LARGEST → IsFound (kinds.Number v) n bytes
  number_found v same small = front_found bytes n (kinds.Number v) digits_fit (same, all_digits, small) digits_longest digits_no_comment

  pub number_too_large : LARGEST < number_of (take n bytes) → FaultStands S2 bytes n
  number_too_large large = record {
    digits = take n bytes;
    more = drop n bytes;
    begins = sym (take-append-drop n bytes);
    all = all_digits;
    longest = digits_longest;
    large = large;
    counted = sym (length-take-le n bytes digits_fit);
  }

other_parts : (b : ℕ) → is_other b ≡ true → (is_space b ≡ false) × (is_letter b ≡ false) × (is_digit b ≡ false)
other_parts b h =
    let p = or_parts (is_space b || is_letter b) (is_digit b) (not-true (is_space b || is_letter b || is_digit b) h) in
    let q = or_parts (is_space b) (is_letter b) p.0 in
    (q.0, q.1, p.1)

-- a lexeme at the front of other bytes is a sign
other_sign : (bytes : List ℕ) → BeginsWith is_other bytes → (a r : List ℕ) → bytes ≡ a ++ r → IsLexeme a → (s : Sign) × (a ≡ sign_text s)
other_sign bytes h [] r e x = absurd (lexeme_not_empty x)
other_sign [] h (c ∷ a) r e x = absurd h
other_sign (b ∷ bs) h (c ∷ a) r e (inl w) =
    let i : b ≡ c = cc e in
    absurd (false≢true (sym (ap is_letter (sym i) ∙ (other_parts b h).1) ∙ w.0))
other_sign (b ∷ bs) h (c ∷ a) r e (inr (inl d)) =
    let i : b ≡ c = cc e in
    absurd (false≢true (sym (ap is_digit (sym i) ∙ (other_parts b h).2) ∙ d.0))
other_sign (b ∷ bs) h (c ∷ a) r e (inr (inr s)) = s

pub sign_found : (bytes : List ℕ) (s : Sign) (n : ℕ) → BeginsWith is_other bytes → (BeginsComment bytes → ⊥) → IsLongestSign s n bytes → IsFound (kinds.Sign s) n bytes
sign_found bytes s n h c l = record {
  text = sign_text s;
  rest = l.rest;
  begins = sym l.begins;
  stands = (refl, λ a r e x. longest a r e (other_sign bytes h a r (l.begins ∙ e) x), λ d. c (subst BeginsComment (sym l.begins) d));
  counted = l.counted;
}
  where
    longest : (a r : List ℕ) → sign_text s ++ l.rest ≡ a ++ r → (t : Sign) × (a ≡ sign_text t) → length a ≤ length (sign_text s)
    longest a r e (t, i) =
        let p = l.longest t r (l.begins ∙ e ∙ ap (λ (x : List ℕ). x ++ r) i) in
        let q = ap length i in
        omega (arith, p, q, l.counted)

pub nothing_found : (bytes : List ℕ) → BeginsWith is_other bytes → ((s : Sign) (more : List ℕ) → bytes ≢ sign_text s ++ more) → FaultStands S1 bytes 1
nothing_found [] h none = absurd h
nothing_found (b ∷ bs) h none = (
  inr (record {
    byte = b;
    more = bs;
    begins = refl;
    no_space = (other_parts b h).0;
    no_lexeme = λ a r e x. let s = other_sign (b ∷ bs) h a r e x in none s.0 r (e ∙ ap (λ (y : List ℕ). y ++ r) s.1);
  }),
  refl,
)

-- How many bytes are taken.
followed_longer : (p : Piece) (rest : List ℕ) → Stands p rest → length rest < length (piece_then p rest)
followed_longer (space b) rest h = omega arith
followed_longer (line_comment t) rest h = let l = length-append t rest in omega (arith, l)
followed_longer (block_comment t) rest h = let l = length-append t (STAR ∷ SLASH ∷ rest) in omega (arith, l)
followed_longer (token k []) rest h = absurd (lexeme_not_empty (lexeme_of [] k h.0))
followed_longer (token k (b ∷ t)) rest h = let l = length-append t rest in omega (arith, l)

blank_taken : (n : ℕ) (bytes : List ℕ) → IsBlank n bytes → (0 < n) × (n ≤ length bytes)
blank_taken n bytes h =
    let p = followed_longer h.piece h.rest h.stands in
    let q = ap length h.begins in
    (omega (arith, p, q, h.counted), omega (arith, h.counted))

found_taken : (k : TokenKind) (n : ℕ) (bytes : List ℕ) → IsFound k n bytes → (0 < n) × (n ≤ length bytes)
found_taken k n bytes h =
    let p = followed_longer (token k h.text) h.rest h.stands in
    let q = ap length h.begins in
    let l = length-append h.text h.rest in
    (omega (arith, p, q, l, h.counted), omega (arith, q, l, h.counted))

not_empty : (bytes : List ℕ) (c : FaultCode) (n : ℕ) → FaultStands c bytes n → 1 ≤ length bytes
not_empty [] c n h = absurd (fault_not_empty n c h)
not_empty (b ∷ bs) c n h = omega arith

some_digits : (d : List ℕ) → AreDigits d → 1 ≤ length d
some_digits [] h = absurd h
some_digits (b ∷ d) h = omega arith

broken_taken : (bytes : List ℕ) (c : FaultCode) (n : ℕ) → FaultStands c bytes n → (0 < n) × (n ≤ length bytes)
broken_taken bytes S1 n h = let p = not_empty bytes S1 n h in (omega (arith, h.1), omega (arith, h.1, p))
broken_taken bytes S2 n h =
    let p = ap length h.begins ∙ length-append h.digits h.more in
    let q = some_digits h.digits h.all in
    (omega (arith, q, h.counted), omega (arith, p, h.counted))
broken_taken bytes _ n h = absurd h

pub front_taken : (f : Front) (bytes : List ℕ) → IsFront f bytes → IsTaken f bytes
front_taken (Blank n) bytes h = blank_taken n bytes h
front_taken (Found k n) bytes h = found_taken k n bytes h
front_taken (Broken c n) bytes h = broken_taken bytes c n h
