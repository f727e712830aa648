-- A line `%%` that is put after bytes without a mark is the first one.
use Rattle.std.proofs.Common.{◌≡◌, ℕ, zero, suc, ◌+◌, ◌<◌, ◌≤◌, ◌^◌, ◌==◌, ◌&&◌, inl, inr, Bool, true, false, not, Some}
use Rattle.std.proofs.Common.{List, [], ◌∷◌, ◌++◌, length, slice_get, refl, sym, ap, ◌∙◌, subst, arith, append_assoc}
use Rattle.std.proofs.Common.{length-append}
use Rattle.std.proofs.Math.Seq.{take-append_seam, drop-append-add}
use Rattle.std.proofs.lemmas.Bool.{cases_lt}
use Rattle.ceal_lex.specs.Parts.{IsMark, IsBeforeLine, IsLine, HasMark, HasFirstMark, IsSplit, source_of}
use Rattle.ceal_lex.specs.Tokens.{span}
use Rattle.ceal_lex.specs.declared.parts.Split.{Split}
use Rattle.ceal_snap.specs.Marks.{are_plain}
use Rattle.ceal_cli.specs.Lines.{script_of}
use Rattle.ceal_cli.specs.Saves.{mark_line}

-- a text begins with a percent sign
Begins : List ℕ → Type 0
Begins bs = (tail : List ℕ) × (bs ≡ 37 ∷ tail)

mark-begins : (text : List ℕ) → IsMark text → Begins text
unfolding Begins
mark-begins text (inl e) = (37 ∷ [], e)
mark-begins text (inr e) = (37 ∷ (13 ∷ []), e)

line-begins : (text line after : List ℕ) → Begins text → IsLine text line after → Begins line
unfolding Begins
line-begins text line after b (inl e) = (b.0 ++ (10 ∷ []), e ∙ ap (λ t. t ++ (10 ∷ [])) b.1)
line-begins text line after b (inr e) = (b.0, e.0 ∙ b.1)

-- the place of the sign that a text has after others
percent-at : (before : List ℕ) (line after : List ℕ) → Begins line → slice_get (before ++ (line ++ after)) (length before) ≡ Some 37
unfolding Begins
percent-at [] line after b = ap (λ l. slice_get (l ++ after) 0) b.1
percent-at (x ∷ before) line after b = percent-at before line after b

-- and no such sign is among the first bytes
and-parts : (a b : Bool) → (a && b) ≡ true → (a ≡ true) × (b ≡ true)
and-parts true true e = (refl, refl)
and-parts true false e = absurd (cc e)
and-parts false b e = absurd (cc e)

not-percent : (b : ℕ) → not (b == 37) ≡ true → Some b ≡ Some 37 → ⊥
not-percent b h e =
    let k : b ≡ 37 = cc e in
    let z : not (37 == 37) ≡ true = subst (λ c. not (c == 37) ≡ true) k h in
    let f : not (37 == 37) ≡ false = refl in
    absurd (cc (sym f ∙ z))

none-in-front : (front rest : List ℕ) (n : ℕ) → are_plain front ≡ true → n < length front → slice_get (front ++ rest) n ≡ Some 37 → ⊥
none-in-front [] rest n h k e = omega (arith, k)
none-in-front (b ∷ front) rest zero h k e = not-percent b (and-parts (not (b == 37)) (are_plain front) h).0 e
none-in-front (b ∷ front) rest (suc n) h k e = none-in-front front rest n (and-parts (not (b == 37)) (are_plain front) h).1 (omega (arith, k)) e

not-less : (m n : ℕ) → (n < m → ⊥) → m ≤ n
not-less m n f = grind (arith, f)

the-mark : (before rest : List ℕ) → IsBeforeLine before → HasMark (before ++ (mark_line ++ rest)) before rest
the-mark before rest starts = record { text = 37 ∷ (37 ∷ []); line = mark_line; mark = inl refl; is_line = inl refl; starts = starts; whole = refl }

-- after bytes without a percent sign
pub put-mark : (front more : List ℕ) → are_plain front ≡ true → IsBeforeLine front → HasFirstMark (front ++ (mark_line ++ more)) front more
unfolding the-mark
put-mark front more plain before = record { mark = the-mark front more before; first = λ b a m. go b a m }
  where
    go : (b a : List ℕ) → HasMark (front ++ (mark_line ++ more)) b a → length front ≤ length b
    go b a m = not-less (length front) (length b) (λ k. none-in-front front (mark_line ++ more) (length b) plain k
        (ap (λ i. slice_get i (length b)) m.whole ∙ percent-at b m.line a (line-begins m.text m.line a (mark-begins m.text m.mark) m.is_line)))

-- a text without a line feed
NoFeed : List ℕ → Type 0
NoFeed [] = Unit {0}
NoFeed (b ∷ bs) = (b ≡ 10 → ⊥) × NoFeed bs

no-feed-in : (text : List ℕ) → IsMark text → NoFeed text
unfolding NoFeed
no-feed-in text (inl e) = subst NoFeed (sym e) ((λ f. cc f), ((λ f. cc f), tt))
no-feed-in text (inr e) = subst NoFeed (sym e) ((λ f. cc f), ((λ f. cc f), ((λ f. cc f), tt)))

-- a text that ends in a line feed
Ends : List ℕ → Type 0
Ends bs = (earlier : List ℕ) × (bs ≡ earlier ++ (10 ∷ []))

ends-none : Ends [] → ⊥
unfolding Ends
ends-none ([], e) = absurd (cc e)
ends-none (x ∷ xs, e) = absurd (cc e)

head-of : (x y : ℕ) (xs ys : List ℕ) → x ∷ xs ≡ y ∷ ys → x ≡ y
head-of x y xs ys e = cc e

tail-of : (x y : ℕ) (xs ys : List ℕ) → x ∷ xs ≡ y ∷ ys → xs ≡ ys
tail-of x y xs ys e = cc e

ends-later : (x : ℕ) (xs : List ℕ) → (x ≡ 10 → ⊥) → Ends (x ∷ xs) → Ends xs
unfolding Ends
ends-later x xs other ([], e) = absurd (other (head-of x 10 xs [] e))
ends-later x xs other (y ∷ ys, e) = (ys, tail-of x y xs (ys ++ (10 ∷ [])) e)

-- a line that is in front is whole where the bytes in front end in a line feed
line-fits : (t d X a : List ℕ) → d ++ X ≡ (t ++ (10 ∷ [])) ++ a → Ends d → NoFeed t → (rest : List ℕ) × (d ≡ (t ++ (10 ∷ [])) ++ rest)
unfolding NoFeed
line-fits t [] X a e f n = absurd (ends-none f)
line-fits [] (x ∷ ds) X a e f n = (ds, ap (λ (y : ℕ). y ∷ ds) (head-of x 10 (ds ++ X) a e))
line-fits (y ∷ ts) (x ∷ ds) X a e f n =
    let same : x ≡ y = head-of x y (ds ++ X) ((ts ++ (10 ∷ [])) ++ a) e in
    let more = line-fits ts ds X a (tail-of x y (ds ++ X) ((ts ++ (10 ∷ [])) ++ a) e) (ends-later x ds (λ i. n.0 (sym same ∙ i)) f) n.1 in
    (more.0, ap (λ (z : ℕ). z ∷ ds) same ∙ ap (λ (l : List ℕ). y ∷ l) more.1)

-- and one without a line feed is nowhere there
no-last : (t d X : List ℕ) → d ++ X ≡ t → Ends d → NoFeed t → ⊥
unfolding NoFeed
no-last t [] X e f n = ends-none f
no-last [] (x ∷ ds) X e f n = absurd (cc e)
no-last (y ∷ ts) (x ∷ ds) X e f n =
    let same : x ≡ y = head-of x y (ds ++ X) ts e in
    no-last ts ds X (tail-of x y (ds ++ X) ts e) (ends-later x ds (λ i. n.0 (sym same ∙ i)) f) n.1

-- of two fronts of one text the shorter one is a front of the other
shorter : (before X b Y : List ℕ) → before ++ X ≡ b ++ Y → length b < length before → (d : List ℕ) × (before ≡ b ++ d) × (d ++ X ≡ Y)
shorter [] X b Y e k = absurd (omega (arith, k))
shorter (x ∷ before) X [] Y e k = (x ∷ before, refl, e)
shorter (x ∷ before) X (y ∷ b) Y e k =
    let more = shorter before X b Y (tail-of x y (before ++ X) (b ++ Y) e) (omega (arith, k)) in
    (more.0, ap (λ (z : ℕ). z ∷ before) (head-of x y (before ++ X) (b ++ Y) e) ∙ ap (λ (l : List ℕ). y ∷ l) more.1, more.2)

-- what is left of a text that ends in a line feed ends in one
ends-behind : (b d : List ℕ) → Ends (b ++ d) → length b < length (b ++ d) → Ends d
unfolding Ends
ends-behind [] d f k = f
ends-behind (x ∷ b) d ([], e) k =
    let none : b ++ d ≡ [] = tail-of x 10 (b ++ d) [] e in
    let size = ap length none in
    absurd (omega (arith, k, size))
ends-behind (x ∷ b) d (y ∷ ys, e) k = ends-behind b d (ys, tail-of x y (b ++ d) (ys ++ (10 ∷ [])) e) (omega (arith, k))

no-feed-then : (t : List ℕ) → NoFeed t → NoFeed (t ++ [])
unfolding NoFeed
no-feed-then [] n = tt
no-feed-then (x ∷ t) n = (n.0, no-feed-then t n.1)

ends-before : (b before : List ℕ) → length b < length before → IsBeforeLine before → Ends before
unfolding Ends
ends-before b before k (inl e) = let size = ap length e in absurd (omega (arith, k, size))
ends-before b before k (inr e) = e

-- in the place of the first mark of an input, with other bytes after it
module _ (input before after rest : List ℕ) (h : HasFirstMark input before after) where
  earlier : (b a : List ℕ) (m : HasMark (before ++ (mark_line ++ rest)) b a) → length b < length before → IsLine m.text m.line a → length before ≤ length b
  earlier b a m k (inl is) =
      let cut = shorter before (mark_line ++ rest) b (m.line ++ a) m.whole k in
      let feed = ends-behind b cut.0 (subst Ends cut.1 (ends-before b before k h.mark.starts)) (subst (λ (l : List ℕ). length b < length l) cut.1 k) in
      let fits = line-fits m.text cut.0 (mark_line ++ rest) a (cut.2 ∙ ap (λ (l : List ℕ). l ++ a) is) feed (no-feed-in m.text m.mark) in
      let line = m.text ++ (10 ∷ []) in
      let behind = h.mark.line ++ after in
      let same : before ≡ b ++ (line ++ fits.0) = cut.1 ∙ ap (λ (l : List ℕ). b ++ l) fits.1 in
      let whole : input ≡ b ++ (line ++ (fits.0 ++ behind)) = h.mark.whole
      ∙ (ap (λ (l : List ℕ). l ++ behind) same ∙ (append_assoc b (line ++ fits.0) behind ∙ ap (λ (l : List ℕ). b ++ l) (append_assoc line fits.0 behind))) in
      h.first b (fits.0 ++ behind) (record { text = m.text; line = line; mark = m.mark; is_line = inl refl; starts = m.starts; whole = whole })
  earlier b a m k (inr is) =
      let cut = shorter before (mark_line ++ rest) b (m.line ++ a) m.whole k in
      let feed = ends-behind b cut.0 (subst Ends cut.1 (ends-before b before k h.mark.starts)) (subst (λ (l : List ℕ). length b < length l) cut.1 k) in
      let all : cut.0 ++ (mark_line ++ rest) ≡ m.text ++ [] = cut.2 ∙ (ap (λ (l : List ℕ). l ++ a) is.0 ∙ ap (λ (l : List ℕ). m.text ++ l) is.1) in
      absurd (no-last (m.text ++ []) cut.0 (mark_line ++ rest) all feed (no-feed-then m.text (no-feed-in m.text m.mark)))

  none-earlier : (b a : List ℕ) → HasMark (before ++ (mark_line ++ rest)) b a → length before ≤ length b
  none-earlier b a m = elim (cases_lt (length b) (length before)) [
    | inl less ↦ earlier b a m less m.is_line
    | inr more ↦ more
  ]

  pub other-behind : HasFirstMark (before ++ (mark_line ++ rest)) before rest
  unfolding the-mark
  other-behind = record { mark = the-mark before rest h.mark.starts; first = λ b a m. none-earlier b a m }

-- the parts of bytes with a mark between these
abbrev pub put-parts : List ℕ → List ℕ → Split
put-parts front more = record {
  source = span 0 (length front);
  marked = true;
  script = span (length front + 3) (length front + 3 + length more);
}

pub put-split : (front more : List ℕ) → length (front ++ (mark_line ++ more)) < 2 ^ 32 → HasFirstMark (front ++ (mark_line ++ more)) front more
    → IsSplit (front ++ (mark_line ++ more)) (put-parts front more)
put-split front more small first =
    let whole = length-append front (mark_line ++ more) in
    let behind = length-append mark_line more in
    record {
      small = small;
      parts = record { before = front; after = more; first = first; source = refl; from = omega (arith, whole, behind); to = omega (arith, whole, behind) };
    }

pub put-source : (front more : List ℕ) → source_of (front ++ (mark_line ++ more)) (put-parts front more) ≡ front
put-source front more = take-append_seam front (mark_line ++ more)

pub put-script : (front more : List ℕ) → script_of (front ++ (mark_line ++ more)) (put-parts front more) ≡ more
put-script front more = drop-append-add front (mark_line ++ more) 3
