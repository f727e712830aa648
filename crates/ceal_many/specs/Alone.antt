-- One session among many.
use Rattle.std.specs.Prelude.{◌≡◌, ℕ, ◌||◌, nat_le, List, [], ◌∷◌, ◌++◌, length, bytes_eq, if◌then◌else◌}
use Rattle.std.specs.List.{list_any}
use Rattle.ceal_many.specs.Lines.{Said, Blank, For, Unreadable, said}
use Rattle.ceal_many.specs.Replies.{Writes}
use Rattle.ceal_many.specs.Sessions.{MOST}
use Rattle.ceal_many.specs.Standing.{Answering}

-- the lines that follow, after this one where it is for the session of the name
abbrev pub own_line : List ℕ → Said → List (List ℕ) → List (List ℕ)
own_line name Blank lines = lines
own_line name Unreadable lines = lines
own_line name (For other line) lines = if bytes_eq name other then line ∷ lines else lines

-- the lines for the session of a name, in their order
unfoldable pub own_lines : List ℕ → List (List ℕ) → List (List ℕ)
own_lines name [] = []
own_lines name (line ∷ lines) = own_line name (said line) (own_lines name lines)

-- the texts of the lines for a name, with this one where its line is for it
abbrev pub own_text : List ℕ → Said → List ℕ → List (List ℕ) → List (List ℕ)
own_text name Blank text texts = texts
own_text name Unreadable text texts = texts
own_text name (For other line) text texts = if bytes_eq name other then text ∷ texts else texts

-- the texts that answer these lines, of the texts that answer all lines
unfoldable pub own_texts : List ℕ → List (List ℕ) → List (List ℕ) → List (List ℕ)
own_texts name [] texts = []
own_texts name (line ∷ lines) [] = []
own_texts name (line ∷ lines) (text ∷ texts) = own_text name (said line) text (own_texts name lines texts)

-- A session by itself, from a state on, answers its lines by these texts, with the prefix of the name.
unfoldable pub AnswersAlone : {S : Type 0} → Answering S → List ℕ → S → List (List ℕ) → List (List ℕ) → Type 0
AnswersAlone answers name s [] texts = texts ≡ []
AnswersAlone {S} answers name s (line ∷ lines) texts =
    (text : List ℕ) × (n : S) × (rest : List (List ℕ)) × Writes answers name s line text n
    × AnswersAlone answers name n lines rest × (texts ≡ text ∷ rest)

-- the names of the sessions with one more, unless it is there, or there are as many as there may be
abbrev pub with_name : List (List ℕ) → List ℕ → List (List ℕ)
with_name names name =
    if list_any (bytes_eq name) names || nat_le MOST (length names) then names else names ++ name ∷ []

-- the names with that of a line
abbrev pub names_with : List (List ℕ) → Said → List (List ℕ)
names_with names Blank = names
names_with names Unreadable = names
names_with names (For name line) = with_name names name

-- the names of the sessions after the lines: the first names that come, up to as many as there may be
unfoldable pub names_after : List (List ℕ) → List (List ℕ) → List (List ℕ)
names_after names [] = names
names_after names (line ∷ lines) = names_after (names_with names (said line)) lines
