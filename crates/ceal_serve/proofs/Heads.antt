-- The head of a text.
use Rattle.std.proofs.Common.{◌≡◌, ◌⊎◌, inl, inr, ◌<◌, ◌^◌, ℕ, Bool, true, false, Result, List, [], ◌∷◌, ◌++◌, length, drop, refl, sym, ap, ◌∙◌, subst, append_assoc, append-nil, arith}
use Rattle.ceal_base.specs.declared.fault.Fault.{Fault}
use Rattle.ceal_base.specs.declared.fault.Span.{Span}
use Rattle.ceal_base.specs.declared.typed.Typed.{Typed}
use Rattle.ceal_compile.specs.Source.{Comes}
use Rattle.ceal_lex.specs.Parts.{IsBeforeLine, IsLine, IsSplit, HasMark, HasFirstMark, PartsAre}
use Rattle.ceal_lex.specs.Tokens.{span}
use Rattle.ceal_lex.specs.declared.parts.Split.{Split}
use Rattle.ceal_cli.specs.Lines.{script_of}
use Rattle.ceal_serve.specs.Listening.{IsMarkedSource, IsOpenSource}
use Rattle.ceal_serve.specs.Turns.{IsHead}
use Rattle.ceal_serve.proofs.Marks.{first-mark, no-feed-in, placed-mark}

drop-all : (xs : List ℕ) → drop (length xs) xs ≡ []
drop-all [] = refl
drop-all (x ∷ xs) = drop-all xs

-- a source part with its mark is a head, whatever its script is
module _ (text : List ℕ) (small : length text < 2 ^ 32) (h : IsMarkedSource text) where
  abbrev parts : Split
  parts = record { source = span 0 (length h.front); marked = true; script = span (length text) (length text) }

  first : HasFirstMark text h.front []
  first =
      let whole : text ≡ h.front ++ ((h.line ++ 10 ∷ []) ++ []) = h.whole ∙ ap (λ (t : List ℕ). h.front ++ t) (sym (append-nil (h.line ++ 10 ∷ []))) in
      subst (λ (t : List ℕ). HasFirstMark t h.front []) (sym whole) (first-mark h.front h.line [] h.none h.complete h.mark)

  split : IsSplit text parts
  split = record { small = small; parts = record { before = h.front; after = []; first = first; source = refl; from = omega arith; to = refl } }

  pub complete-source : IsBeforeLine text
  complete-source = inr (h.front ++ h.line, h.whole ∙ sym (append_assoc h.front h.line (10 ∷ [])))

  pub marked-head : (ended : Bool) (script : List ℕ) → IsHead ended text script
  unfolding split
  marked-head ended script = record { part = parts; split = split; bare = drop-all text; complete = inl (refl, complete-source) }

-- a source part without an end is a head where nothing comes after it
module _ (text : List ℕ) (h : IsOpenSource text) where
  from-all : (part : Split) → part.script.from ≡ length text → script_of text part ≡ []
  from-all part e = ap (λ n. drop n text) e ∙ drop-all text

  last-mark : (before after : List ℕ) → HasMark text before after → after ≡ []
  last-mark before after m = by-place m' (placed-mark h.front h.last before after m' h.complete)
    where
      m' : HasMark (h.front ++ h.last) before after
      m' = subst (λ (t : List ℕ). HasMark t before after) h.whole m

      by-line : (k : HasMark (h.front ++ h.last) before after) (c : List ℕ) → h.last ≡ c ++ (k.line ++ after) → IsLine k.text k.line after → after ≡ []
      by-line k c g (inl is) =
          let cut : h.last ≡ (c ++ k.text) ++ 10 ∷ after =
          g ∙ (ap (λ (l : List ℕ). c ++ (l ++ after)) is ∙ (ap (λ (l : List ℕ). c ++ l) (append_assoc k.text (10 ∷ []) after) ∙ sym (append_assoc c k.text (10 ∷ after)))) in
          absurd (no-feed-in h.last (c ++ k.text) after (sym cut) h.one)
      by-line k c g (inr is) = is.1

      by-place : (k : HasMark (h.front ++ h.last) before after)
          → ((later : List ℕ) × HasMark h.front before later) ⊎ ((c : List ℕ) × (before ≡ h.front ++ c) × (h.last ≡ c ++ (k.line ++ after))) → after ≡ []
      by-place k (inl e) = absurd (h.none before e.0 e.1)
      by-place k (inr e) = by-line k e.0 e.2 k.is_line

  bare : (part : Split) (b : Bool) → PartsAre b text part → script_of text part ≡ []
  bare part false p = from-all part (ap (λ (s : Span). s.from) p.script)
  bare part true p =
      let none : p.after ≡ [] = last-mark p.before p.after p.first.mark in
      let size = ap length none in
      let sum = p.from in
      from-all part (omega (arith, size, sum))

  pub open-head : (r : Result Typed Fault) → Comes text r → IsHead true text []
  unfolding bare
  open-head r c = record { part = c.part; split = c.split; bare = bare c.part c.part.marked c.split.parts; complete = inr (refl, refl) }
