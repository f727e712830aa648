-- Where the mark of a text is, line after line.
use Rattle.std.proofs.Common.{◌≡◌, ℕ, ◌≤◌, ◌⊎◌, inl, inr, List, [], ◌∷◌, ◌++◌, length, refl, sym, ap, ◌∙◌, subst, arith, append_assoc, append-nil, length-append}
use Rattle.ceal_lex.specs.Parts.{IsMark, IsBeforeLine, IsLine, HasMark, HasFirstMark}
use Rattle.ceal_serve.specs.Turns.{HasNoMark, IsOneLine}

head-of : (x y : ℕ) (xs ys : List ℕ) → x ∷ xs ≡ y ∷ ys → x ≡ y
head-of x y xs ys e = cc e

tail-of : (x y : ℕ) (xs ys : List ℕ) → x ∷ xs ≡ y ∷ ys → xs ≡ ys
tail-of x y xs ys e = cc e

-- a text with something at its end is not empty
not-empty : (xs : List ℕ) (y : ℕ) (ys : List ℕ) → xs ++ y ∷ ys ≡ [] → ⊥
not-empty [] y ys e = absurd (cc e)
not-empty (x ∷ xs) y ys e = absurd (cc e)

-- the mark is one line, and is not empty
pub one-mark : (text : List ℕ) → IsMark text → IsOneLine text
one-mark text (inl e) = subst IsOneLine (sym e) ((λ f. cc f), ((λ f. cc f), tt))
one-mark text (inr e) = subst IsOneLine (sym e) ((λ f. cc f), ((λ f. cc f), ((λ f. cc f), tt)))

mark-full : (text : List ℕ) → IsMark text → text ≡ [] → ⊥
mark-full text (inl e) f = absurd (cc (sym e ∙ f))
mark-full text (inr e) f = absurd (cc (sym e ∙ f))

line-full : (text line after : List ℕ) → IsMark text → IsLine text line after → line ≡ [] → ⊥
line-full text line after m (inl e) f = not-empty text 10 [] (sym e ∙ f)
line-full text line after m (inr e) f = mark-full text m (sym e.0 ∙ f)

-- two cuts of one text
SplitAt : (a X b Y : List ℕ) → Type 0
SplitAt a X b Y = ((d : List ℕ) × (a ≡ b ++ d) × (d ++ X ≡ Y)) ⊎ ((c : List ℕ) × (b ≡ a ++ c) × (X ≡ c ++ Y))

split-at : (a X b Y : List ℕ) → a ++ X ≡ b ++ Y → SplitAt a X b Y
unfolding SplitAt
split-at [] X b Y e = inr (b, refl, e)
split-at (x ∷ a) X [] Y e = inl (x ∷ a, refl, e)
split-at (x ∷ a) X (y ∷ b) Y e = longer (split-at a X b Y (tail-of x y (a ++ X) (b ++ Y) e))
  where
    longer : SplitAt a X b Y → SplitAt (x ∷ a) X (y ∷ b) Y
    longer (inl (d, f, g)) = inl (d, ap (λ (z : ℕ). z ∷ a) (head-of x y (a ++ X) (b ++ Y) e) ∙ ap (λ (l : List ℕ). y ∷ l) f, g)
    longer (inr (c, f, g)) = inr (c, ap (λ (z : ℕ). z ∷ b) (sym (head-of x y (a ++ X) (b ++ Y) e)) ∙ ap (λ (l : List ℕ). x ∷ l) f, g)

-- a text that ends in a line feed
Ends : List ℕ → Type 0
Ends bs = (earlier : List ℕ) × (bs ≡ earlier ++ 10 ∷ [])

-- what is left of a text that ends in a line feed ends in one
ends-after : (b : List ℕ) (x : ℕ) (d : List ℕ) → Ends (b ++ x ∷ d) → Ends (x ∷ d)
unfolding Ends
ends-after [] x d f = f
ends-after (y ∷ b) x d ([], e) = absurd (not-empty b x d (tail-of y 10 (b ++ x ∷ d) [] e))
ends-after (y ∷ b) x d (z ∷ zs, e) = ends-after b x d (zs, tail-of y z (b ++ x ∷ d) (zs ++ 10 ∷ []) e)

ends-before : (b : List ℕ) (x : ℕ) (d : List ℕ) → IsBeforeLine (b ++ x ∷ d) → Ends (x ∷ d)
unfolding Ends
ends-before b x d (inl e) = absurd (not-empty b x d e)
ends-before b x d (inr e) = ends-after b x d e

-- a line that a line feed ends is whole in front of a text where the bytes there end in a line feed
line-fits : (t d X a : List ℕ) → d ++ X ≡ (t ++ 10 ∷ []) ++ a → Ends d → IsOneLine t → (rest : List ℕ) × (d ≡ (t ++ 10 ∷ []) ++ rest)
unfolding Ends
line-fits t [] X a e f n = absurd (not-empty f.0 10 [] (sym f.1))
line-fits [] (x ∷ ds) X a e f n = (ds, ap (λ (y : ℕ). y ∷ ds) (head-of x 10 (ds ++ X) a e))
line-fits (y ∷ ts) (x ∷ []) X a e ([], g) n = absurd (n.0 (sym (head-of x y X ((ts ++ 10 ∷ []) ++ a) e) ∙ head-of x 10 [] [] g))
line-fits (y ∷ ts) (x ∷ []) X a e (z ∷ zs, g) n = absurd (not-empty zs 10 [] (sym (tail-of x z [] (zs ++ 10 ∷ []) g)))
line-fits (y ∷ ts) (x ∷ w ∷ ds) X a e f n =
    let same : x ≡ y = head-of x y (w ∷ ds ++ X) ((ts ++ 10 ∷ []) ++ a) e in
    let more = line-fits ts (w ∷ ds) X a (tail-of x y (w ∷ ds ++ X) ((ts ++ 10 ∷ []) ++ a) e) (ends-after (x ∷ []) w ds f) n.1 in
    (more.0, ap (λ (z : ℕ). z ∷ w ∷ ds) same ∙ ap (λ (l : List ℕ). y ∷ l) more.1)

-- one line has no line feed in it
pub no-feed-in : (t s x : List ℕ) → s ++ 10 ∷ x ≡ t → IsOneLine t → ⊥
no-feed-in [] s x e n = not-empty s 10 x e
no-feed-in (y ∷ t) [] x e n = n.0 (sym (head-of 10 y x t e))
no-feed-in (y ∷ t) (z ∷ s) x e n = no-feed-in t s x (tail-of z y (s ++ 10 ∷ x) t e) n.1

-- of two texts that are a line with its line feed, and more, the lines are the same
same-line : (s t x y : List ℕ) → IsOneLine s → IsOneLine t → s ++ 10 ∷ x ≡ t ++ 10 ∷ y → s ≡ t
same-line [] [] x y n k e = refl
same-line [] (b ∷ t) x y n k e = absurd (k.0 (sym (head-of 10 b x (t ++ 10 ∷ y) e)))
same-line (a ∷ s) [] x y n k e = absurd (n.0 (head-of a 10 (s ++ 10 ∷ x) y e))
same-line (a ∷ s) (b ∷ t) x y n k e =
    ap (λ (z : ℕ). z ∷ s) (head-of a b (s ++ 10 ∷ x) (t ++ 10 ∷ y) e)
    ∙ ap (λ (l : List ℕ). b ∷ l) (same-line s t x y n.1 k.1 (tail-of a b (s ++ 10 ∷ x) (t ++ 10 ∷ y) e))

-- a line has its line feed last
last-feed : (s c y : List ℕ) → IsOneLine s → s ++ 10 ∷ [] ≡ c ++ 10 ∷ y → y ≡ []
last-feed [] [] y n e = sym (tail-of 10 10 [] y e)
last-feed [] (z ∷ zs) y n e = absurd (not-empty zs 10 y (sym (tail-of 10 z [] (zs ++ 10 ∷ y) e)))
last-feed (b ∷ s) [] y n e = absurd (n.0 (head-of b 10 (s ++ 10 ∷ []) y e))
last-feed (b ∷ s) (z ∷ zs) y n e = last-feed s zs y n.1 (tail-of b z (s ++ 10 ∷ []) (zs ++ 10 ∷ y) e)

-- The mark of a text that begins with complete lines is one of these lines, or after them.
module _ (front X b a : List ℕ) (m : HasMark (front ++ X) b a) (starts : IsBeforeLine front) where
  abbrev Earlier : Type 0
  Earlier = (after : List ℕ) × HasMark front b after

  abbrev Later : Type 0
  Later = (c : List ℕ) × (b ≡ front ++ c) × (X ≡ c ++ (m.line ++ a))

  fits : (d : List ℕ) → front ≡ b ++ d → d ++ X ≡ m.line ++ a → Ends d → IsLine m.text m.line a → Earlier
  unfolding Ends
  fits d f g ends (inl is) =
      let whole = line-fits m.text d X a (g ∙ ap (λ (l : List ℕ). l ++ a) is) ends (one-mark m.text m.mark) in
      (whole.0, record { text = m.text; line = m.text ++ 10 ∷ []; mark = m.mark; is_line = inl refl; starts = m.starts; whole = f ∙ ap (λ (l : List ℕ). b ++ l) whole.1 })
  fits d f g ends (inr is) =
      let all : d ++ X ≡ m.text = g ∙ (ap (λ (l : List ℕ). l ++ a) is.0 ∙ (ap (λ (l : List ℕ). m.text ++ l) is.1 ∙ append-nil m.text)) in
      let cut : (ends.0 ++ 10 ∷ []) ++ X ≡ m.text = subst (λ (l : List ℕ). l ++ X ≡ m.text) ends.1 all in
      absurd (no-feed-in m.text ends.0 X (sym (append_assoc ends.0 (10 ∷ []) X) ∙ cut) (one-mark m.text m.mark))

  by-rest : (d : List ℕ) → front ≡ b ++ d → d ++ X ≡ m.line ++ a → Earlier ⊎ Later
  by-rest [] f g = inr ([], sym (f ∙ append-nil b) ∙ sym (append-nil front), g)
  by-rest (x ∷ d) f g = inl (fits (x ∷ d) f g (ends-before b x d (subst IsBeforeLine f starts)) m.is_line)

  placed : Earlier ⊎ Later
  unfolding SplitAt
  placed = elim (split-at front X b (m.line ++ a) m.whole) [
    | inl h ↦ by-rest h.0 h.1 h.2
    | inr h ↦ inr h
  ]

pub placed-mark : (front X b a : List ℕ) (m : HasMark (front ++ X) b a) → IsBeforeLine front → ((after : List ℕ) × HasMark front b after) ⊎ ((c : List ℕ) × (b ≡ front ++ c) × (X ≡ c ++ (m.line ++ a)))
placed-mark front X b a m starts = placed front X b a m starts

-- after complete lines without the mark it is the first one
pub first-mark : (front line rest : List ℕ) → HasNoMark front → IsBeforeLine front → IsMark line → HasFirstMark (front ++ ((line ++ 10 ∷ []) ++ rest)) front rest
first-mark front line rest none starts mark =
    record { mark = record { text = line; line = line ++ 10 ∷ []; mark = mark; is_line = inl refl; starts = starts; whole = refl }; first = λ b a m. go b a m }
  where
    go : (b a : List ℕ) → HasMark (front ++ ((line ++ 10 ∷ []) ++ rest)) b a → length front ≤ length b
    go b a m = elim (placed front ((line ++ 10 ∷ []) ++ rest) b a m starts) [
      | inl h ↦ absurd (none b h.0 h.1)
      | inr h ↦ (let size = ap length h.1 in let sum = length-append front h.0 in omega (arith, size, sum))
    ]

nothing-first : (xs ys : List ℕ) → xs ++ ys ≡ [] → xs ≡ []
nothing-first [] ys e = refl
nothing-first (x ∷ xs) ys e = absurd (cc e)

-- and one line more that is not the mark leaves the text without it
pub no-mark-more : (front line : List ℕ) → HasNoMark front → IsBeforeLine front → IsOneLine line → (IsMark line → ⊥) → HasNoMark (front ++ (line ++ 10 ∷ []))
unfolding Ends
no-mark-more front line none starts one other b a m = go (placed front (line ++ 10 ∷ []) b a m starts)
  where
    here : line ++ 10 ∷ [] ≡ m.line ++ a → IsLine m.text m.line a → ⊥
    here g (inl is) =
        let same = same-line line m.text [] a one (one-mark m.text m.mark) (g ∙ (ap (λ (l : List ℕ). l ++ a) is ∙ append_assoc m.text (10 ∷ []) a)) in
        other (subst IsMark (sym same) m.mark)
    here g (inr is) =
        let all : line ++ 10 ∷ [] ≡ m.text = g ∙ (ap (λ (l : List ℕ). l ++ a) is.0 ∙ (ap (λ (l : List ℕ). m.text ++ l) is.1 ∙ append-nil m.text)) in
        no-feed-in m.text line [] all (one-mark m.text m.mark)

    past : (x : ℕ) (c : List ℕ) → b ≡ front ++ x ∷ c → line ++ 10 ∷ [] ≡ x ∷ c ++ (m.line ++ a) → ⊥
    past x c f g =
        let ends = ends-before front x c (subst IsBeforeLine f m.starts) in
        let cut : line ++ 10 ∷ [] ≡ (ends.0 ++ 10 ∷ []) ++ (m.line ++ a) = g ∙ ap (λ (l : List ℕ). l ++ (m.line ++ a)) ends.1 in
        let none-left = last-feed line ends.0 (m.line ++ a) one (cut ∙ append_assoc ends.0 (10 ∷ []) (m.line ++ a)) in
        line-full m.text m.line a m.mark m.is_line (nothing-first m.line a none-left)

    by-place : (c : List ℕ) → b ≡ front ++ c → line ++ 10 ∷ [] ≡ c ++ (m.line ++ a) → ⊥
    by-place [] f g = here g m.is_line
    by-place (x ∷ c) f g = past x c f g

    go : ((after : List ℕ) × HasMark front b after) ⊎ ((c : List ℕ) × (b ≡ front ++ c) × (line ++ 10 ∷ [] ≡ c ++ (m.line ++ a))) → ⊥
    go (inl h) = none b h.0 h.1
    go (inr h) = by-place h.0 h.1 h.2

nothing-after : (xs ys : List ℕ) → xs ++ ys ≡ [] → ys ≡ []
nothing-after [] ys e = e
nothing-after (x ∷ xs) ys e = absurd (cc e)

-- a text that ends in a line feed does not end in the mark
not-last : (before text : List ℕ) → IsMark text → IsBeforeLine (before ++ text) → ⊥
unfolding SplitAt
not-last before text mark (inl e) = mark-full text mark (nothing-after before text e)
not-last before text mark (inr (earlier, e)) = by-cut (split-at before text earlier (10 ∷ []) e)
  where
    by-rest : (d : List ℕ) → d ++ text ≡ 10 ∷ [] → ⊥
    by-rest [] g = no-feed-in text [] [] (sym g) (one-mark text mark)
    by-rest (x ∷ d) g = mark-full text mark (nothing-after d text (tail-of x 10 (d ++ text) [] g))

    by-cut : SplitAt before text earlier (10 ∷ []) → ⊥
    by-cut (inl (d, f, g)) = by-rest d g
    by-cut (inr (c, f, g)) = no-feed-in text c [] (sym g) (one-mark text mark)

-- A text whose last line is its first mark: that is the first one where more comes after it, too.
module _ (head before : List ℕ) (m : HasMark head before []) (least : (b a : List ℕ) → HasMark head b a → length before ≤ length b) (complete : IsBeforeLine head) (script : List ℕ) where
  head-is : head ≡ before ++ m.line
  head-is = m.whole ∙ ap (λ (l : List ℕ). before ++ l) (append-nil m.line)

  line-is : IsLine m.text m.line [] → m.line ≡ m.text ++ 10 ∷ []
  line-is (inl is) = is
  line-is (inr is) = absurd (not-last before m.text m.mark (subst IsBeforeLine (head-is ∙ ap (λ (l : List ℕ). before ++ l) is.0) complete))

  abbrev behind : List ℕ
  behind = (m.text ++ 10 ∷ []) ++ script

  whole-is : head ++ script ≡ before ++ behind
  whole-is = ap (λ (l : List ℕ). l ++ script) (head-is ∙ ap (λ (l : List ℕ). before ++ l) (line-is m.is_line)) ∙ append_assoc before (m.text ++ 10 ∷ []) script

  in-front : (b after : List ℕ) (q : HasMark before b after) → IsLine q.text q.line after → length before ≤ length b
  in-front b after q (inl is) =
      least b (after ++ m.line) (record {
        text = q.text;
        line = q.line;
        mark = q.mark;
        is_line = inl is;
        starts = q.starts;
        whole = head-is ∙ (ap (λ (l : List ℕ). l ++ m.line) q.whole ∙ (append_assoc b (q.line ++ after) m.line ∙ ap (λ (l : List ℕ). b ++ l) (append_assoc q.line after m.line)));
      })
  in-front b after q (inr is) =
      absurd (not-last b q.text q.mark (subst IsBeforeLine
      (q.whole ∙ ap (λ (l : List ℕ). b ++ l) (ap (λ (l : List ℕ). l ++ after) is.0 ∙
      (ap (λ (l : List ℕ). q.text ++ l) is.1 ∙ append-nil q.text))) m.starts))

  none-before : (b a : List ℕ) → HasMark (head ++ script) b a → length before ≤ length b
  none-before b a q = elim (placed before behind b a (subst (λ (t : List ℕ). HasMark t b a) whole-is q) m.starts) [
    | inl h ↦ in-front b h.0 h.1 h.1.is_line
    | inr h ↦ (let size = ap length h.1 in let sum = length-append before h.0 in omega (arith, size, sum))
  ]

  pub first-of-longer : HasFirstMark (head ++ script) before script
  first-of-longer = record {
    mark = record { text = m.text; line = m.text ++ 10 ∷ []; mark = m.mark; is_line = inl refl; starts = m.starts; whole = whole-is };
    first = λ b a q. none-before b a q;
  }
