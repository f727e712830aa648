-- The first line `%%`.
use Rattle.std.proofs.Common.{◌≡◌, ◌≢◌, ℕ, suc, ◌+◌, ◌-◌, ◌≤◌, ◌<◌, min, Bool, true, false, List, [], ◌∷◌, ◌++◌, length, take, drop, get_or, refl, sym, ap, ◌∙◌, subst, arith, inl, inr, zero}
use Rattle.std.specs.Prelude.{◌==◌, not}
use Rattle.std.specs.List.{AllByRecursion, position_or_len}
use Rattle.std.proofs.lemmas.Bool.{cases_order, cases_lt}
use Rattle.std.proofs.lemmas.List.{append_assoc, length-append, length-drop, length-take-le, drop_at, take-append-drop, take_more, get_or-drop, get_or-take, get_or_at}
use Rattle.ceal_base.specs.declared.fault.Span.{Span}
use Rattle.ceal_lex.specs.declared.parts.Split.{Split}
use Rattle.ceal_lex.specs.Characters.{CARRIAGE_RETURN, LINE_FEED, PERCENT}
use Rattle.ceal_lex.specs.Parts.{HasFirstMark, HasMark, IsBeforeLine, IsLine, IsMark, IsMarked, IsSplit, PartsAre}
use Rattle.ceal_lex.specs.Pieces.{EndsLine}
use Rattle.ceal_lex.specs.Tokens.{span}
use Rattle.ceal_lex.proofs.Fronts.{same_line, same_parts}
use Rattle.ceal_lex.proofs.Runs.{line_ends, line_passes, run_within}

-- No line `%%` begins before byte n.
abbrev pub NoneBefore : ℕ → List ℕ → Type 0
NoneBefore n input = (b a : List ℕ) → HasMark input b a → n ≤ length b

percent_goes_on : PERCENT ≢ LINE_FEED
percent_goes_on h = omega (arith, h)

return_goes_on : CARRIAGE_RETURN ≢ LINE_FEED
return_goes_on h = omega (arith, h)

mark_passes : (text : List ℕ) → IsMark text → AllByRecursion (λ b. b ≢ LINE_FEED) text
mark_passes text (inl e) = rw e (percent_goes_on, (percent_goes_on, tt))
mark_passes text (inr e) = rw e (percent_goes_on, (percent_goes_on, (return_goes_on, tt)))

mark_some : (text : List ℕ) → IsMark text → 1 ≤ length text
mark_some text (inl e) = rw e (omega arith)
mark_some text (inr e) = rw e (omega arith)

line_some : (text line after : List ℕ) → IsMark text → IsLine text line after → 1 ≤ length line
line_some text line after m (inl e) =
    let p = mark_some text m in
    let l = ap length e ∙ length-append text (LINE_FEED ∷ []) in
    omega (arith, p, l)
line_some text line after m (inr e) =
    let p = mark_some text m in
    let l = ap length e.0 in
    omega (arith, p, l)

passes_at : (bs : List ℕ) (k : ℕ) → AllByRecursion (λ b. b ≢ LINE_FEED) bs → k < length bs → get_or bs k 0 ≢ LINE_FEED
passes_at [] k h l = absurd (omega (arith, l))
passes_at (b ∷ bs) zero h l = h.0
passes_at (b ∷ bs) (suc k) h l = passes_at bs k h.1 (omega (arith, l))

ends_in_feed : (text line after : List ℕ) → line ≡ text ++ LINE_FEED ∷ [] → line ++ after ≡ text ++ LINE_FEED ∷ after
ends_in_feed text line after i = ap (λ (x : List ℕ). x ++ after) i ∙ append_assoc text (LINE_FEED ∷ []) after

ends_input : (text line after : List ℕ) → line ≡ text → after ≡ [] → line ++ after ≡ text ++ []
ends_input text line after i j = ap (λ (x : List ℕ). x ++ after) i ∙ ap (λ (x : List ℕ). text ++ x) j

-- the text of the line, the line and the rest make what is left
same_text : (t tail text line after : List ℕ) → t ++ tail ≡ line ++ after → AllByRecursion (λ b. b ≢ LINE_FEED) t → EndsLine tail → IsMark text → IsLine text line after → t ≡ text
same_text t tail text line after h p e m (inl i) =
    let g : t ++ tail ≡ text ++ LINE_FEED ∷ after = h ∙ ends_in_feed text line after i in
    (same_line t text tail (LINE_FEED ∷ after) g p (mark_passes text m) e (inr (after, refl))).0
same_text t tail text line after h p e m (inr i) =
    let g : t ++ tail ≡ text ++ [] = h ∙ ends_input text line after i.0 i.1 in
    (same_line t text tail [] g p (mark_passes text m) e (inl refl)).0

-- the line itself, with its LF where it has one
made_line : (text tail : List ℕ) → EndsLine tail → (line : List ℕ) × IsLine text line (drop 1 tail) × (text ++ tail ≡ line ++ drop 1 tail)
made_line text tail (inl e) = (text, inr (refl, ap (drop 1) e), ap (λ (x : List ℕ). text ++ x) (e ∙ sym (ap (drop 1) e)))
made_line text tail (inr (more, e)) = (
  text ++ LINE_FEED ∷ [],
  inl refl,
  ap (λ (x : List ℕ). text ++ x) (e ∙ ap (λ (x : List ℕ). LINE_FEED ∷ x) (sym (ap (drop 1) e))) ∙ sym (append_assoc text (LINE_FEED ∷ []) (drop 1 tail)),
)

module _ (input : List ℕ) (start n : ℕ) (under : start < length input) (none : NoneBefore start input) (before : IsBeforeLine (take start input))
    (length_is : n ≡ position_or_len (λ b. b == LINE_FEED) (drop start input)) where
  abbrev text : List ℕ
  text = take n (drop start input)

  abbrev tail : List ℕ
  tail = drop n (drop start input)

  fits : n ≤ length (drop start input)
  fits = let p = run_within (λ b. not (b == LINE_FEED)) (drop start input) in omega (arith, length_is, p)

  passes : AllByRecursion (λ b. b ≢ LINE_FEED) text
  passes = rw length_is (line_passes (drop start input))

  ends : EndsLine tail
  ends = rw length_is (line_ends (drop start input))

  parts : text ++ tail ≡ drop start input
  parts = take-append-drop n (drop start input)

  tail_length : length tail ≡ length input - start - n
  tail_length = length-drop n (drop start input) ∙ ap (λ (k : ℕ). k - n) (length-drop start input)

  pub first_mark : IsMark text → HasFirstMark input (take start input) (drop 1 tail)
  first_mark m =
      let made = made_line text tail ends in
      record {
        mark = record {
          text = text;
          line = made.0;
          mark = m;
          is_line = made.1;
          starts = before;
          whole = sym (take-append-drop start input) ∙ ap (λ (x : List ℕ). take start input ++ x) (sym parts ∙ made.2);
        };
        first = λ b a h. let p = none b a h in let few = length-take-le start input (omega (arith, under)) in omega (arith, p, few);
      }

  mark_here : (b a : List ℕ) → HasMark input b a → length b ≡ start → IsMark text
  mark_here b a m l =
      let g : text ++ tail ≡ m.line ++ a = parts ∙ ap (drop start) m.whole ∙ drop_at b (m.line ++ a) start l in
      subst IsMark (sym (same_text text tail m.text m.line a g passes ends m.mark m.is_line)) m.mark

  line_feed_later : (b e rest : List ℕ) → input ≡ b ++ rest → b ≡ e ++ LINE_FEED ∷ [] → start < length b → start + n + 1 ≤ length b
  line_feed_later b e rest w i l =
      elim (cases_lt (length e) (start + n)) [
        | inl less ↦
            let size = ap length i ∙ length-append e (LINE_FEED ∷ []) in
            let k : start + (length e - start) ≡ length e = omega (arith, l, size) in
            let feed : get_or input (length e) 0 ≡ LINE_FEED =
            ap (λ (x : List ℕ). get_or x (length e) 0) (w ∙ ap (λ (x : List ℕ). x ++ rest) i ∙ append_assoc e (LINE_FEED ∷ []) rest)
            ∙ get_or_at e LINE_FEED rest 0 (length e) refl in
            let here : get_or text (length e - start) 0 ≡ LINE_FEED =
            get_or-take n (drop start input) (length e - start) 0 (omega (arith, less, l, size))
            ∙ get_or-drop start input (length e - start) 0 ∙ ap (λ (j : ℕ). get_or input j 0) k ∙ feed in
            let many = length-take-le n (drop start input) fits in
            absurd (passes_at text (length e - start) passes (omega (arith, many, less, l, size)) here)
        | inr more ↦
            let size = ap length i ∙ length-append e (LINE_FEED ∷ []) in
            omega (arith, size, more)
      ]

  mark_later : (b a : List ℕ) → HasMark input b a → start < length b → start + n + 1 ≤ length b
  mark_later b a m l = later m.starts
    where
      later : IsBeforeLine b → start + n + 1 ≤ length b
      later (inl e) = let size = ap length e in absurd (omega (arith, l, size))
      later (inr (e, i)) = line_feed_later b e (m.line ++ a) m.whole i l

  pub none_more : (IsMark text → ⊥) → NoneBefore (start + n + 1) input
  none_more other b a m = elim (cases_order start (length b)) [
    | inl e ↦ absurd (other (mark_here b a m (sym e)))
    | inr (inl l) ↦ mark_later b a m l
    | inr (inr g) ↦ let p = none b a m in absurd (omega (arith, p, g))
  ]

  pub before_more : start + n + 1 ≤ length input → IsBeforeLine (take (start + n + 1) input)
  before_more l = next ends
    where
      next : EndsLine tail → IsBeforeLine (take (start + n + 1) input)
      next (inl e) = let size = sym tail_length ∙ ap length e in absurd (omega (arith, size, l))
      next (inr (more, e)) =
          let feed : get_or input (start + n) 0 ≡ LINE_FEED =
          ap (λ (j : ℕ). get_or input (start + j) 0) (omega arith) ∙ sym (get_or-drop start input (n + 0) 0)
          ∙ sym (get_or-drop n (drop start input) 0 0) ∙ ap (λ (x : List ℕ). get_or x 0 0) e in
          inr (take (start + n) input, take_more input (start + n) 0 (omega (arith, l)) ∙ ap (λ (k : ℕ). take (start + n) input ++ k ∷ []) feed)

  pub marked : IsMark text → IsMarked input (record { source = record { from = 0; to = start }; marked = true; script = record { from = min (start + n + 1) (length input); to = length input } })
  marked m =
      let size = length-drop 1 tail in
      let few = length-take-le start input (omega (arith, under)) in
      record {
        before = take start input;
        after = drop 1 tail;
        first = first_mark m;
        source = ap (span 0) (sym few);
        from = omega (arith, size, tail_length, under);
        to = refl;
      }

pub none_left : (input : List ℕ) (start : ℕ) → length input ≤ start → NoneBefore start input → (b a : List ℕ) → HasMark input b a → ⊥
none_left input start l none b a m =
    let p = none b a m in
    let size = ap length m.whole ∙ length-append b (m.line ++ a) in
    let more = length-append m.line a in
    let some = line_some m.text m.line a m.mark m.is_line in
    omega (arith, p, size, more, some, l)

pub at_start : (input : List ℕ) → NoneBefore 0 input
at_start input b a m = omega arith

-- one line `%%` at one place, and so one rest
same_after : (text line after text' line' after' : List ℕ) → line ++ after ≡ line' ++ after' → IsMark text → IsMark text' → IsLine text line after → IsLine text' line' after' → after ≡ after'
same_after t l a t' l' a' h m m' (inl i) (inl j) =
    let g : t ++ LINE_FEED ∷ a ≡ t' ++ LINE_FEED ∷ a' = sym (ends_in_feed t l a i) ∙ h ∙ ends_in_feed t' l' a' j in
    cc (same_line t t' (LINE_FEED ∷ a) (LINE_FEED ∷ a') g (mark_passes t m) (mark_passes t' m') (inr (a, refl)) (inr (a', refl))).1
same_after t l a t' l' a' h m m' (inl i) (inr j) =
    let g : t ++ LINE_FEED ∷ a ≡ t' ++ [] = sym (ends_in_feed t l a i) ∙ h ∙ ends_input t' l' a' j.0 j.1 in
    absurd (cc (same_line t t' (LINE_FEED ∷ a) [] g (mark_passes t m) (mark_passes t' m') (inr (a, refl)) (inl refl)).1)
same_after t l a t' l' a' h m m' (inr i) (inl j) =
    let g : t ++ [] ≡ t' ++ LINE_FEED ∷ a' = sym (ends_input t l a i.0 i.1) ∙ h ∙ ends_in_feed t' l' a' j in
    absurd (cc (same_line t t' [] (LINE_FEED ∷ a') g (mark_passes t m) (mark_passes t' m') (inl refl) (inr (a', refl))).1)
same_after t l a t' l' a' h m m' (inr i) (inr j) = i.1 ∙ sym j.1

same_first : (input b a b' a' : List ℕ) → HasFirstMark input b a → HasFirstMark input b' a' → (b ≡ b') × (a ≡ a')
same_first input b a b' a' m m' =
    let p = m.first b' a' m'.mark in
    let q = m'.first b a m.mark in
    let l = m.mark.line in
    let l' = m'.mark.line in
    let e = same_parts b b' (l ++ a) (l' ++ a') (sym m.mark.whole ∙ m'.mark.whole) (omega (arith, p, q)) in
    (e.0, same_after m.mark.text l a m'.mark.text l' a' e.1 m.mark.mark m'.mark.mark m.mark.is_line m'.mark.is_line)

same_split : (p q : Split) → p.source ≡ q.source → p.marked ≡ q.marked → p.script ≡ q.script → p ≡ q
same_split p q s m t =
    ap (λ (x : Span). record { source = x; marked = p.marked; script = p.script }) s
    ∙ ap (λ (x : Bool). record { source = q.source; marked = x; script = p.script }) m
    ∙ ap (λ (x : Span). record { source = q.source; marked = q.marked; script = x }) t

same_span : (s t : Span) → s.from ≡ t.from → s.to ≡ t.to → s ≡ t
same_span s t f g = ap (λ (k : ℕ). span k s.to) f ∙ ap (λ (k : ℕ). span t.from k) g

module _ (input : List ℕ) (p q : Split) where
  one_parts : (m n : Bool) → p.marked ≡ m → q.marked ≡ n → PartsAre m input p → PartsAre n input q → p ≡ q
  one_parts true true e f a b =
      let s = same_first input a.before a.after b.before b.after a.first b.first in
      let l = ap length s.1 in
      same_split p q (a.source ∙ ap (λ (x : List ℕ). span 0 (length x)) s.0 ∙ sym b.source) (e ∙ sym f)
      (same_span p.script q.script (omega (arith, a.from, b.from, l)) (a.to ∙ sym b.to))
  one_parts true false e f a b = absurd (b.none a.before a.after a.first.mark)
  one_parts false true e f a b = absurd (a.none b.before b.after b.first.mark)
  one_parts false false e f a b = same_split p q (a.source ∙ sym b.source) (e ∙ sym f) (a.script ∙ sym b.script)

pub one_split : (input : List ℕ) (p q : Split) → IsSplit input p → IsSplit input q → p ≡ q
one_split input p q a b = one_parts input p q p.marked q.marked refl refl a.parts b.parts
