-- At most one piece is at the front of bytes, and none where there is a fault.
use Rattle.std.proofs.Common.{◌≡◌, ◌≢◌, ◌⊎◌, inl, inr, ℕ, true, List, [], ◌∷◌, ◌++◌, length, take, refl, sym, ap, ◌∙◌, arith, subst}
use Rattle.std.specs.List.{AllByRecursion}
use Rattle.std.proofs.lemmas.Bool.{true≢false, false≢true}
use Rattle.std.proofs.lemmas.List.{append_cancel_left, take_at}
use Rattle.ceal_base.specs.declared.fault.FaultCode.{FaultCode}
use Rattle.ceal_base.specs.declared.fault.FaultCode.TheVariants.{S1, S2}
use Rattle.ceal_base.specs.Digits.{is_digit}
use Rattle.ceal_lex.specs.declared.token.Sign.TheVariants as signs
use Rattle.ceal_lex.specs.Characters.{LINE_FEED, SLASH, STAR, is_space}
use Rattle.ceal_lex.specs.Spelling.{AreDigits, IsLexeme, Spells}
use Rattle.ceal_lex.specs.Pieces.{Piece, space, line_comment, block_comment, token, piece_then, EndsLine, IsLongest, IsClosedFirst, Stands}
use Rattle.ceal_lex.specs.Faults.{IsOpen, BeginsNothing, BeginsTooLarge, FaultStands}
use Rattle.ceal_lex.proofs.Spellings.{same_kind, lexeme_of, not_too_large, lexeme_not_empty, space_no_lexeme}

-- lists of one length that begin one list
pub same_parts : (t u r s : List ℕ) → t ++ r ≡ u ++ s → length t ≡ length u → (t ≡ u) × (r ≡ s)
same_parts t u r s h l =
    let e : t ≡ u = sym (take_at t r (length t) refl) ∙ ap (take (length t)) h ∙ take_at u s (length t) (sym l) in
    (e, append_cancel_left u r s (ap (λ (x : List ℕ). x ++ r) (sym e) ∙ h))

-- the longest lexeme
pub same_longest : (t u r s : List ℕ) → t ++ r ≡ u ++ s → IsLexeme t → IsLexeme u → IsLongest t r → IsLongest u s → (t ≡ u) × (r ≡ s)
same_longest t u r s h a b l k =
    let p = k t r (sym h) a in
    let q = l u s h b in
    same_parts t u r s h (omega (arith, p, q))

-- the first end of a comment
same_closed : (t u r s : List ℕ) → t ++ STAR ∷ SLASH ∷ r ≡ u ++ STAR ∷ SLASH ∷ s → IsClosedFirst t r → IsClosedFirst u s → (t ≡ u) × (r ≡ s)
same_closed t u r s h l k =
    let p = k t r (sym h) in
    let q = l u s h in
    let e = same_parts t u (STAR ∷ SLASH ∷ r) (STAR ∷ SLASH ∷ s) h (omega (arith, p, q)) in
    let f : r ≡ s = cc e.1 in
    (e.0, f)

line_goes_on : (b : ℕ) (t r : List ℕ) → b ≢ LINE_FEED → EndsLine r → r ≡ b ∷ t → ⊥
line_goes_on b t r n (inl e) h = absurd (cc)
line_goes_on b t r n (inr (more, e)) h = n (cc)

-- the end of a line
pub same_line : (t u r s : List ℕ) → t ++ r ≡ u ++ s → AllByRecursion (λ b. b ≢ LINE_FEED) t → AllByRecursion (λ b. b ≢ LINE_FEED) u → EndsLine r → EndsLine s → (t ≡ u) × (r ≡ s)
same_line [] [] r s h a b e f = (refl, h)
same_line [] (c ∷ u) r s h a b e f = absurd (line_goes_on c (u ++ s) r b.0 e h)
same_line (c ∷ t) [] r s h a b e f = absurd (line_goes_on c (t ++ r) s a.0 f (sym h))
same_line (c ∷ t) (d ∷ u) r s h a b e f =
    let i : t ++ r ≡ u ++ s = cc h in
    let x : c ≡ d = cc h in
    let p = same_line t u r s i a.1 b.1 e f in
    (cc (x, p.0), p.1)

slash_no_space : (b : ℕ) → b ≡ SLASH → is_space b ≡ true → ⊥
slash_no_space b e h = false≢true (ap is_space (sym e) ∙ h)

-- white space is no front of a lexeme
space_unlike_lexeme : (b : ℕ) (r t s : List ℕ) → b ∷ r ≡ t ++ s → is_space b ≡ true → IsLexeme t → ⊥
space_unlike_lexeme b r [] s h e x = lexeme_not_empty x
space_unlike_lexeme b r (c ∷ t) s h e x =
    let i : c ≡ b = cc h in
    space_no_lexeme c t (ap is_space i ∙ e) x

module _ (r s : List ℕ) where
  space_unlike_slash : (b : ℕ) (t : List ℕ) → b ∷ r ≡ SLASH ∷ t → is_space b ≡ true → ⊥
  space_unlike_slash b t h e = slash_no_space b (cc h) e

  line_unlike_block : (t u : List ℕ) → SLASH ∷ SLASH ∷ t ≡ SLASH ∷ STAR ∷ u → ⊥
  line_unlike_block t u h = let e : SLASH ≡ STAR = cc h in omega (arith, e)

  -- one piece at most
  pub same_front : (p q : Piece) → piece_then p r ≡ piece_then q s → Stands p r → Stands q s → (p ≡ q) × (r ≡ s)
  same_front (space b) (space c) h a e = let x : b ≡ c = cc h in (ap space x, cc h)
  same_front (space b) (line_comment u) h a e = absurd (space_unlike_slash b _ h a)
  same_front (space b) (block_comment u) h a e = absurd (space_unlike_slash b _ h a)
  same_front (space b) (token k u) h a e = absurd (space_unlike_lexeme b r u s h a (lexeme_of u k e.0))
  same_front (line_comment t) (space c) h a e = absurd (slash_no_space c (cc h) e)
  same_front (line_comment t) (line_comment u) h a e =
      let i : t ++ r ≡ u ++ s = cc h in
      let p = same_line t u r s i a.0 e.0 a.1 e.1 in
      (ap line_comment p.0, p.1)
  same_front (line_comment t) (block_comment u) h a e = absurd (line_unlike_block _ _ h)
  same_front (line_comment t) (token k u) h a e = absurd (e.2 (SLASH, t ++ r, sym h, inl refl))
  same_front (block_comment t) (space c) h a e = absurd (slash_no_space c (cc h) e)
  same_front (block_comment t) (line_comment u) h a e = absurd (line_unlike_block _ _ (sym h))
  same_front (block_comment t) (block_comment u) h a e =
      let i : t ++ STAR ∷ SLASH ∷ r ≡ u ++ STAR ∷ SLASH ∷ s = cc h in
      let p = same_closed t u r s i a e in
      (ap block_comment p.0, p.1)
  same_front (block_comment t) (token k u) h a e = absurd (e.2 (STAR, t ++ STAR ∷ SLASH ∷ r, sym h, inr refl))
  same_front (token k t) (space c) h a e = absurd (space_unlike_lexeme c s t r (sym h) e (lexeme_of t k a.0))
  same_front (token k t) (line_comment u) h a e = absurd (a.2 (SLASH, u ++ s, h, inl refl))
  same_front (token k t) (block_comment u) h a e = absurd (a.2 (STAR, u ++ STAR ∷ SLASH ∷ s, h, inr refl))
  same_front (token k t) (token j u) h a e =
      let p = same_longest t u r s h (lexeme_of t k a.0) (lexeme_of u j e.0) a.1 e.1 in
      let f : Spells j t = subst (Spells j) (sym p.0) e.0 in
      let g : k ≡ j = same_kind t k j a.0 f in
      (cc (g, p.0), p.1)

-- There is no piece at the front.
abbrev pub Stops : List ℕ → Type 0
Stops rest = (p : Piece) (s : List ℕ) → Stands p s → piece_then p s ≡ rest → ⊥

pub stops_at_end : Stops []
stops_at_end (space b) s a h = absurd (cc h)
stops_at_end (line_comment t) s a h = absurd (cc h)
stops_at_end (block_comment t) s a h = absurd (cc h)
stops_at_end (token k []) s a h = lexeme_not_empty (lexeme_of [] k a.0)
stops_at_end (token k (b ∷ t)) s a h = absurd (cc h)

slash_lexeme : IsLexeme (SLASH ∷ [])
slash_lexeme = inr (inr (signs.Slash, refl))

module _ (rest : List ℕ) where
  stops_open : IsOpen rest → Stops rest
  stops_open o (space b) s a h = slash_no_space b (cc (h, o.begins)) a
  stops_open o (line_comment t) s a h = line_unlike_block [] [] (t ++ s) o.text (h ∙ o.begins)
  stops_open o (block_comment t) s a h = o.never_closed t s (cc (h, o.begins))
  stops_open o (token k t) s a h = a.2 (STAR, o.text, h ∙ o.begins, inr refl)

  stops_nothing : BeginsNothing rest → Stops rest
  stops_nothing o (space b) s a h =
      let e : b ≡ o.byte = cc (h, o.begins) in
      true≢false (sym a ∙ ap is_space e ∙ o.no_space)
  stops_nothing o (line_comment t) s a h = o.no_lexeme (SLASH ∷ []) (SLASH ∷ t ++ s) (sym h) slash_lexeme
  stops_nothing o (block_comment t) s a h = o.no_lexeme (SLASH ∷ []) (STAR ∷ t ++ STAR ∷ SLASH ∷ s) (sym h) slash_lexeme
  stops_nothing o (token k t) s a h = o.no_lexeme t s (sym h) (lexeme_of t k a.0)

digits_no_slash : (t u s : List ℕ) → SLASH ∷ t ≡ u ++ s → AreDigits u → ⊥
digits_no_slash t [] s h d = d
digits_no_slash t (b ∷ u) s h d =
    let e : b ≡ SLASH = cc h in
    false≢true (ap is_digit (sym e) ∙ d.0)

module _ (rest : List ℕ) (count : ℕ) where
  stops_too_large : BeginsTooLarge rest count → Stops rest
  stops_too_large o (space b) s a h = space_unlike_lexeme b s o.digits o.more (h ∙ o.begins) a (inr (inl o.all))
  stops_too_large o (line_comment t) s a h = digits_no_slash _ o.digits o.more (h ∙ o.begins) o.all
  stops_too_large o (block_comment t) s a h = digits_no_slash _ o.digits o.more (h ∙ o.begins) o.all
  stops_too_large o (token k t) s a h =
      let p = same_longest t o.digits s o.more (h ∙ o.begins) (lexeme_of t k a.0) (inr (inl o.all)) a.1 o.longest in
      let d : Spells k o.digits = subst (Spells k) p.0 a.0 in
      not_too_large o.digits k d o.all o.large

  pub stops_at_fault : (code : FaultCode) → FaultStands code rest count → Stops rest
  stops_at_fault S1 f = elim f.0 [ inl o ↦ stops_open rest o | inr o ↦ stops_nothing rest o ]
  stops_at_fault S2 f = stops_too_large f
  stops_at_fault _ f = absurd f

open_no_number : (rest : List ℕ) (n : ℕ) → IsOpen rest → BeginsTooLarge rest n → ⊥
open_no_number rest n o p = digits_no_slash _ p.digits p.more (sym o.begins ∙ p.begins) p.all

nothing_no_number : (rest : List ℕ) (n : ℕ) → BeginsNothing rest → BeginsTooLarge rest n → ⊥
nothing_no_number rest n o p = o.no_lexeme p.digits p.more p.begins (inr (inl p.all))

bad_no_number : (rest : List ℕ) (n : ℕ) → IsOpen rest ⊎ BeginsNothing rest → BeginsTooLarge rest n → ⊥
bad_no_number rest n (inl o) p = open_no_number rest n o p
bad_no_number rest n (inr o) p = nothing_no_number rest n o p

-- one fault at most
pub same_fault : (rest : List ℕ) (n m : ℕ) (c d : FaultCode) → FaultStands c rest n → FaultStands d rest m → (c ≡ d) × (n ≡ m)
same_fault rest n m S1 S1 a b = (refl, a.1 ∙ sym b.1)
same_fault rest n m S1 S2 a b = absurd (bad_no_number rest m a.0 b)
same_fault rest n m S2 S1 a b = absurd (bad_no_number rest n b.0 a)
same_fault rest n m S2 S2 a b =
    let p = same_longest a.digits b.digits a.more b.more (sym a.begins ∙ b.begins) (inr (inl a.all)) (inr (inl b.all)) a.longest b.longest in
    (refl, a.counted ∙ ap length p.0 ∙ sym b.counted)
same_fault rest n m S1 _ a b = absurd b
same_fault rest n m S2 _ a b = absurd b
same_fault rest n m _ _ a b = absurd a

-- there is a fault at a byte
pub fault_not_empty : (n : ℕ) (c : FaultCode) → FaultStands c [] n → ⊥
fault_not_empty n S1 a = elim a.0 [ inl o ↦ absurd (cc o.begins) | inr o ↦ absurd (cc o.begins) ]
fault_not_empty n S2 a = too_large a
  where
    empty : (d m : List ℕ) → [] ≡ d ++ m → AreDigits d → ⊥
    empty [] m h x = x
    empty (b ∷ d) m h x = absurd (cc h)

    too_large : BeginsTooLarge [] n → ⊥
    too_large o = empty o.digits o.more o.begins o.all
fault_not_empty n _ a = a
