-- Where the first line of a text ends.
use Rattle.std.proofs.Common.{◌≡◌, ◌≤◌, ◌<◌, ℕ, zero, suc, ◌+◌, ◌==◌, Bool, true, false, Option, Some, None, List, []}
use Rattle.std.proofs.Common.{◌∷◌, ◌++◌, length, take, drop, get_or, refl, sym, ap, ◌∙◌, subst, position, eqb, ltb}
use Rattle.std.proofs.Common.{cond, arith, take-append-drop, length-append}
use Rattle.std.specs.Prelude.{MatchOption}
use Rattle.std.specs.List.{position_or_len}
use Rattle.std.proofs.lemmas.List.Quantifiers.{position-Some}
use Rattle.std.proofs.lemmas.List.{drop_more}
use Rattle.std.proofs.lemmas.List.Sums.{fails_before_first}
use borrow.Author.Tests.{ltb-false}
use Rattle.ceal_cli.specs.Lines.{pieces_of, lines_of, script_lines, without_return}
use Rattle.ceal_serve.specs.Listening.{HasLine}
use Rattle.ceal_serve.specs.Turns.{IsOneLine}

not-feed : (b : ℕ) → eqb b 10 ≡ false → b ≡ 10 → ⊥
not-feed b h e =
    let z : eqb 10 10 ≡ false = subst (λ (c : ℕ). eqb c 10 ≡ false) e h in
    absurd (cc z)

below-one : (xs : List ℕ) (n : ℕ) → n ≤ length xs → ((k : ℕ) → k < n → eqb (get_or xs k 0) 10 ≡ false) → IsOneLine (take n xs)
below-one xs zero w h = tt
below-one [] (suc n) w h = absurd (omega (arith, w))
below-one (b ∷ bs) (suc n) w h = (not-feed b (h 0 (omega arith)), below-one bs n (omega (arith, w)) (λ k l. h (suc k) (omega (arith, l))))

take-all : (xs : List ℕ) → take (length xs) xs ≡ xs
take-all [] = refl
take-all (x ∷ xs) = ap (λ (l : List ℕ). x ∷ l) (take-all xs)

-- where none was found, the first place is past the end
none-found : (b : Bool) (n m : ℕ) → ltb n m ≡ b → cond b (Some n) None ≡ None → m ≤ n
none-found true n m below found = absurd (cc)
none-found false n m below found = ltb-false n m below

-- what a search for a line feed finds
abbrev pub Finds : List ℕ → Option ℕ → Type 0
Finds text o = MatchOption o (IsOneLine text) (λ at. HasLine text at)

length-take-le : (n : ℕ) (xs : List ℕ) → n ≤ length xs → length (take n xs) ≡ n
length-take-le zero xs h = refl
length-take-le (suc n) [] h = absurd (omega (arith, h))
length-take-le (suc n) (x ∷ xs) h = ap suc (length-take-le n xs (omega (arith, h)))

is-feed : (b : ℕ) → eqb b 10 ≡ true → b ≡ 10
is-feed b e = grind arith

pub finds : (text : List ℕ) (o : Option ℕ) → position (λ b. eqb b 10) text ≡ o → Finds text o
finds text None e =
    let past = none-found _ (position_or_len (λ b. eqb b 10) text) (length text) refl e in
    subst IsOneLine (take-all text) (below-one text (length text) (omega arith) (λ k h. fails_before_first (λ b. eqb b 10) text k 0 (omega (arith, past, h))))
finds text (Some at) e =
    let is = position-Some (λ b. eqb b 10) text at 0 e in
    record {
      line = take at text;
      rest = drop (at + 1) text;
      whole = sym (take-append-drop at text) ∙ ap (λ (l : List ℕ). take at text ++ l) (drop_more text at 0 is.0 ∙ ap (λ (b : ℕ). b ∷ drop (at + 1) text) (is-feed _ is.1));
      one = below-one text at (omega (arith, is.0)) is.2;
      ends = length-take-le at text (omega (arith, is.0));
    }

pub one-line-append : (a b : List ℕ) → IsOneLine a → IsOneLine b → IsOneLine (a ++ b)
one-line-append [] b h k = k
one-line-append (x ∷ a) b h k = (h.0, one-line-append a b h.1 k)

pub line-after : (a b : List ℕ) (at : ℕ) → IsOneLine a → HasLine b at → HasLine (a ++ b) (length a + at)
line-after a b at h k = record {
  line = a ++ k.line;
  rest = k.rest;
  whole = ap (λ (l : List ℕ). a ++ l) k.whole ∙ sym (append-assoc-here a k.line (10 ∷ k.rest));
  one = one-line-append a k.line h k.one;
  ends = length-append a k.line ∙ ap (λ (n : ℕ). length a + n) k.ends;
}
  where
    append-assoc-here : (x y z : List ℕ) → (x ++ y) ++ z ≡ x ++ (y ++ z)
    append-assoc-here [] y z = refl
    append-assoc-here (c ∷ x) y z = ap (λ (l : List ℕ). c ∷ l) (append-assoc-here x y z)

-- a line feed that is far enough off leaves the bytes before it without one
pub long-line : (text : List ℕ) (at limit : ℕ) → HasLine text at → limit ≤ at → IsOneLine (take limit text)
long-line text at limit h k = subst (λ (l : List ℕ). IsOneLine (take limit l)) (sym h.whole) (front h.line (10 ∷ h.rest) limit h.one (omega (arith, k, h.ends)))
  where
    front : (line rest : List ℕ) (n : ℕ) → IsOneLine line → n ≤ length line → IsOneLine (take n (line ++ rest))
    front line rest zero one w = tt
    front [] rest (suc n) one w = absurd (omega (arith, w))
    front (b ∷ line) rest (suc n) one w = (one.0, front line rest n one.1 (omega (arith, w)))

pub one-line-take : (text : List ℕ) (n : ℕ) → IsOneLine text → IsOneLine (take n text)
one-line-take text zero h = tt
one-line-take [] (suc n) h = tt
one-line-take (b ∷ text) (suc n) h = (h.0, one-line-take text n h.1)

feed-test : (b : ℕ) → (b ≡ 10 → ⊥) → (b == 10) ≡ false
feed-test b h = by (b == 10) refl
  where
    by : (r : Bool) → (b == 10) ≡ r → (b == 10) ≡ false
    by true e = absurd (h (grind arith))
    by false e = e

piece-first : (line more : List ℕ) → IsOneLine line → pieces_of (line ++ 10 ∷ more) ≡ line ∷ pieces_of more
piece-first [] more n = refl
piece-first (b ∷ line) more n = rw (feed-test b n.0, piece-first line more n.1) refl

one-piece : (line : List ℕ) → IsOneLine line → pieces_of line ≡ line ∷ []
one-piece [] n = refl
one-piece (b ∷ line) n = rw (feed-test b n.0, one-piece line n.1) refl

-- there is a piece, whatever the text is
record Begun (lines : List (List ℕ)) : Type 0 where
  first : List ℕ
  more : List (List ℕ)
  same : lines ≡ first ∷ more

piece-more : (b : ℕ) (bs : List ℕ) → Begun (pieces_of bs) → (r : Bool) → (b == 10) ≡ r → Begun (pieces_of (b ∷ bs))
piece-more b bs rest true e = record { first = []; more = pieces_of bs; same = rw e refl }
piece-more b bs rest false e = record { first = b ∷ rest.first; more = rest.more; same = rw (e, rest.same) refl }

some-piece : (text : List ℕ) → Begun (pieces_of text)
some-piece [] = record { first = []; more = []; same = refl }
some-piece (b ∷ bs) = piece-more b bs (some-piece bs) (b == 10) refl

followed : (piece : List ℕ) (lines : List (List ℕ)) → Begun lines → lines_of (piece ∷ lines) ≡ without_return piece ∷ lines_of lines
unfolding lines_of
followed piece lines b = subst (λ (l : List (List ℕ)). lines_of (piece ∷ l) ≡ without_return piece ∷ lines_of l) (sym b.same) refl

-- the first of the lines is the one before the first line feed
pub line-first : (line more : List ℕ) → IsOneLine line → script_lines (line ++ 10 ∷ more) ≡ without_return line ∷ script_lines more
line-first line more n = ap lines_of (piece-first line more n) ∙ followed line (pieces_of more) (some-piece more)

-- a text without a line feed is its last line
pub one-line-last : (line : List ℕ) → IsOneLine line → script_lines line ≡ line ∷ []
unfolding lines_of
one-line-last line n = ap lines_of (one-piece line n)
