-- One byte more.
use Rattle.std.proofs.Common.{◌≡◌, ℕ, ◌+◌, ◌==◌, ◌<◌, Bool, true, false, List, [], ◌∷◌, ◌++◌, length, reverse, take, get_or, refl, arith, if◌then◌else◌}
use Rattle.std.proofs.lemmas.List.{reverse-append, take_more}
use Rattle.ceal_compile.specs.FaultLine.{line_feeds, first_line, line_after, column_after}

feeds-swap : (t s : Bool) (k : ℕ) → (if t then 1 + (if s then 1 + k else k) else (if s then 1 + k else k)) ≡ (if s then 1 + (if t then 1 + k else k) else (if t then 1 + k else k))
feeds-swap true true k = refl
feeds-swap true false k = refl
feeds-swap false true k = refl
feeds-swap false false k = refl

feeds-more : (bs : List ℕ) (b : ℕ) → line_feeds (bs ++ b ∷ []) ≡ (if b == 10 then 1 + line_feeds bs else line_feeds bs)
unfolding line_feeds
feeds-more [] b = refl
feeds-more (x ∷ bs) b = rw (feeds-more bs b) (feeds-swap (x == 10) (b == 10) (line_feeds bs))

one-swap : (t : Bool) (k : ℕ) → 1 + (if t then 1 + k else k) ≡ (if t then 1 + (1 + k) else 1 + k)
one-swap true k = refl
one-swap false k = refl

-- the line after one byte more
pub line-more : (bs : List ℕ) (i : ℕ) (line : ℕ) → i < length bs → line ≡ line_after (take i bs)
    → (if get_or bs i 0 == 10 then 1 + line else line) ≡ line_after (take (i + 1) bs)
line-more bs i line h e =
    rw (take_more bs i 0 h, feeds-more (take i bs) (get_or bs i 0), e) (rw (one-swap (get_or bs i 0 == 10) (line_feeds (take i bs))) refl)

length-first : (t : Bool) (b : ℕ) (bs : List ℕ) → 1 + length (if t then [] else b ∷ bs) ≡ (if t then 1 else 1 + (1 + length bs))
length-first true b bs = refl
length-first false b bs = omega arith

-- the column after one byte more
pub column-more : (bs : List ℕ) (i : ℕ) (column : ℕ) → i < length bs → column ≡ column_after (take i bs)
    → (if get_or bs i 0 == 10 then 1 else 1 + column) ≡ column_after (take (i + 1) bs)
unfolding first_line
column-more bs i column h e =
    rw (take_more bs i 0 h, reverse-append (take i bs) (get_or bs i 0 ∷ []), e)
    (rw (length-first (get_or bs i 0 == 10) (get_or bs i 0) (first_line (reverse (take i bs)))) refl)
