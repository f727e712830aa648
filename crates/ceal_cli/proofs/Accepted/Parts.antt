-- The first line `%%` is after a source that has no two `%` in a row and ends with its line.
use Rattle.std.proofs.Common.{◌≡◌, ℕ, ◌+◌, ◌≤◌, ◌<◌, ◌^◌, Bool, true, ◌&&◌, not, List, [], ◌∷◌, ◌++◌, length, refl, sym, ap, ◌∙◌, arith, inl, inr}
use Rattle.std.specs.Prelude.{codes, nat_eq}
use Rattle.std.proofs.lemmas.Bool.{and_parts, false≢true, not-true}
use Rattle.std.proofs.lemmas.List.{length-append, take_at}
use Rattle.ceal_lex.specs.declared.parts.Split.{Split}
use Rattle.ceal_lex.specs.Characters.{CARRIAGE_RETURN, LINE_FEED, PERCENT}
use Rattle.ceal_lex.specs.Parts.{HasMark, IsBeforeLine, IsLine, IsMark, IsSplit, source_of}
use Rattle.ceal_lex.specs.Tokens.{span}

abbrev begins_percent : List ℕ → Bool
begins_percent [] = true
begins_percent (b ∷ bs) = nat_eq b PERCENT

-- no `%` is before another, and none at the end
unfoldable pub is_clear : List ℕ → Bool
is_clear [] = true
is_clear (b ∷ bs) = not (nat_eq b PERCENT && begins_percent bs) && is_clear bs

begins : (bs rest more : List ℕ) → bs ++ rest ≡ PERCENT ∷ more → begins_percent bs ≡ true
begins [] rest more h = refl
begins (b ∷ bs) rest more h = let e : b ≡ PERCENT = cc h in rw e refl

-- two `%` are after bytes that are clear
behind : (bytes rest b more : List ℕ) → is_clear bytes ≡ true → bytes ++ rest ≡ b ++ PERCENT ∷ PERCENT ∷ more → length bytes ≤ length b
unfolding is_clear
behind [] rest b more clear h = omega arith
behind (x ∷ bytes) rest [] more clear h =
    let p = and_parts (not (nat_eq x PERCENT && begins_percent bytes)) (is_clear bytes) clear in
    let q = not-true (nat_eq x PERCENT && begins_percent bytes) p.0 in
    let e : x ≡ PERCENT = cc h in
    let next = begins bytes rest more (cc h) in
    absurd (false≢true (sym q ∙ rw (e, next) refl))
behind (x ∷ bytes) rest (y ∷ b) more clear h =
    let p = and_parts (not (nat_eq x PERCENT && begins_percent bytes)) (is_clear bytes) clear in
    let q = behind bytes rest b more p.1 (cc h) in
    omega (arith, q)

mark_begins : (text line after : List ℕ) → IsMark text → IsLine text line after → (more : List ℕ) × (line ++ after ≡ PERCENT ∷ PERCENT ∷ more)
mark_begins text line after (inl e) (inl i) = (LINE_FEED ∷ after, rw (i, e) refl)
mark_begins text line after (inl e) (inr i) = (after, rw (i.0, e) refl)
mark_begins text line after (inr e) (inl i) = (CARRIAGE_RETURN ∷ LINE_FEED ∷ after, rw (i, e) refl)
mark_begins text line after (inr e) (inr i) = (CARRIAGE_RETURN ∷ after, rw (i.0, e) refl)

module _ (source script : List ℕ) where
  abbrev pub input : List ℕ
  input = source ++ (codes "%%\n" ++ script)

  abbrev pub part : Split
  part = record { source = span 0 (length source); marked = true; script = span (length source + 3) (length input) }

  pub source_is : source_of input part ≡ source
  source_is = take_at source (codes "%%\n" ++ script) (length source) refl

  module _ (clear : is_clear source ≡ true) (ends : IsBeforeLine source) where
    mark : HasMark input source script
    mark = record {
      text = codes "%%";
      line = codes "%%\n";
      mark = inl refl;
      is_line = inl refl;
      starts = ends;
      whole = refl;
    }

    first : (b a : List ℕ) → HasMark input b a → length source ≤ length b
    first b a m =
        let p = mark_begins m.text m.line a m.mark m.is_line in
        behind source (codes "%%\n" ++ script) b p.0 clear (m.whole ∙ ap (λ (x : List ℕ). b ++ x) p.1)

    pub split : length input < 2 ^ 32 → IsSplit input part
    split small = record {
      small = small;
      parts = record {
        before = source;
        after = script;
        first = record { mark = mark; first = first };
        source = refl;
        from = let l = length-append source (codes "%%\n" ++ script) in omega (arith, l);
        to = refl;
      };
    }
