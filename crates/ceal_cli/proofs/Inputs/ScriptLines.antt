-- The lines of a script, piece by piece.
use Rattle.std.proofs.Common.{◌≡◌, ℕ, ◌+◌, Bool, is_some, Option, Some, None, List, [], ◌∷◌, if◌then◌else◌, eqb, position, take, drop, refl, sym, ap, ◌∙◌, subst, Bor}
use Rattle.std.specs.Option.{option_copied}
use Rattle.ceal_cli.specs.Lines.{lines_left, lines_of, pieces_of, pieces_left, script_lines, without_return}
use Rattle.ceal_cli.proofs.Inputs.FirstLineFeed.{cut_some, cut_none}

record Begun (lines : List (List ℕ)) : Type 0 where
  first : List ℕ
  more : List (List ℕ)
  same : lines ≡ first ∷ more

some_line : (text : List ℕ) (o : Option ℕ) → position (λ b. eqb b 10) text ≡ o → Begun (pieces_of text)
some_line text None e = record { first = text; more = []; same = cut_none (λ b. eqb b 10) text e }
some_line text (Some at) e =
    record { first = take at text; more = pieces_of (drop (at + 1) text); same = (cut_some (λ b. eqb b 10) text at e).1 }

followed : (piece : List ℕ) (lines : List (List ℕ)) → Begun lines → lines_of (piece ∷ lines) ≡ without_return piece ∷ lines_of lines
unfolding lines_of
followed piece lines b =
    subst (λ (l : List (List ℕ)). lines_of (piece ∷ l) ≡ without_return piece ∷ lines_of l) (sym b.same) refl

-- the first line of what is left, and those after it
line_next : (piece : List ℕ) (after : Option (List ℕ))
    → lines_of (piece ∷ pieces_left after) ≡ (if is_some after then without_return piece else piece) ∷ lines_of (pieces_left after)
unfolding lines_of
line_next piece None = refl
line_next piece (Some text) = followed piece (pieces_of text) (some_line text _ refl)

pub copied_some : (o : Option (Bor (List ℕ))) → is_some o ≡ is_some (option_copied o)
copied_some None = refl
copied_some (Some x) = refl

-- the lines of pieces are those of the text that they are left of
lines_of_left : (after : Option (List ℕ)) → lines_of (pieces_left after) ≡ lines_left after
unfolding lines_of
lines_of_left None = refl
lines_of_left (Some text) = refl

pub lines_cut : (rest piece line : List ℕ) (after : Option (List ℕ)) (ended : Bool)
    → pieces_of rest ≡ piece ∷ pieces_left after → ended ≡ is_some after → line ≡ (if ended then without_return piece else piece)
    → script_lines rest ≡ line ∷ lines_left after
lines_cut rest piece line after ended cut e is =
    let here : (if is_some after then without_return piece else piece) ≡ line =
    ap (λ (b : Bool). if b then without_return piece else piece) (sym e) ∙ sym is in
    ap lines_of cut ∙ line_next piece after ∙ ap (λ (l : List ℕ). l ∷ lines_of (pieces_left after)) here
    ∙ ap (λ (ls : List (List ℕ)). line ∷ ls) (lines_of_left after)
