-- Texts and readings of lists, one by one.
use Rattle.std.proofs.Common.{◌≡◌, ℕ, zero, suc, ◌+◌, ◌-◌, ◌<◌, ◌==◌, ◌&&◌, true, false, List, [], ◌∷◌, ◌++◌, length, refl, sym, ap, ◌∙◌, append_assoc, append-nil, arith}
use Rattle.std.specs.Prelude.{codes}
use Rattle.std.proofs.lemmas.Bool.Decides.{nat_tests}
use Rattle.ceal_base.specs.Block.{Block}
use Rattle.ceal_base.specs.declared.forest.Item.{Item}
use Rattle.ceal_base.specs.declared.forest.Item.TheVariants.{Step, Alloc, Write, Read, End}
use Rattle.ceal_base.specs.declared.word.Word.{Word}
use Rattle.ceal_base.specs.Digits.{is_digit}
use Rattle.ceal_dump.specs.DumpText.{word_text, words_text, block_line, block_lines, item_line, item_lines, closed, is_core, all_core}
use Rattle.ceal_dump.specs.Reading.{with_digit, number_from}

-- texts
text-more : (out line rest text next all : List ℕ) → next ≡ out ++ line → text ≡ line ++ rest → out ++ text ≡ all → next ++ rest ≡ all
text-more out line rest text next all e k h = ap (λ t. t ++ rest) e ∙ (append_assoc out line rest ∙ (ap (λ t. out ++ t) (sym k) ∙ h))

text-end : (out text all : List ℕ) → text ≡ [] → out ++ text ≡ all → out ≡ all
text-end out text all e h = sym (append-nil out) ∙ (ap (λ t. out ++ t) (sym e) ∙ h)

pub words-more : (out mid next all : List ℕ) (words more : List Word) (w : Word) → mid ≡ out ++ codes " "
    → next ≡ mid ++ word_text w → words ≡ w ∷ more → out ++ words_text words ≡ all → next ++ words_text more ≡ all
unfolding words_text
words-more out mid next all words more w e k l h =
    text-more out (codes " " ++ word_text w) (words_text more) (words_text words) next all (k ∙ (ap (λ t. t ++ word_text w) e ∙ append_assoc out (codes " ") (word_text w))) (ap words_text l) h

pub words-end : (out all : List ℕ) (words : List Word) → length words ≡ 0 → out ++ words_text words ≡ all → out ≡ all
unfolding words_text
words-end out all [] e h = text-end out [] all refl h
words-end out all (w ∷ ws) e h = absurd (omega (arith, e))

pub blocks-more : (out next all : List ℕ) (blocks more : List Block) (b : Block) → next ≡ out ++ block_line b → blocks ≡ b ∷ more → out ++ block_lines blocks ≡ all → next ++ block_lines more ≡ all
unfolding block_lines
blocks-more out next all blocks more b e l h = text-more out (block_line b) (block_lines more) (block_lines blocks) next all e (ap block_lines l) h

pub blocks-end : (out all : List ℕ) (blocks : List Block) → length blocks ≡ 0 → out ++ block_lines blocks ≡ all → out ≡ all
unfolding block_lines
blocks-end out all [] e h = text-end out [] all refl h
blocks-end out all (b ∷ bs) e h = absurd (omega (arith, e))

pub items-more : (out next all : List ℕ) (items more : List Item) (i : Item) → next ≡ out ++ item_line i → items ≡ i ∷ more → out ++ item_lines items ≡ all → next ++ item_lines more ≡ all
unfolding item_lines
items-more out next all items more i e l h = text-more out (item_line i) (item_lines more) (item_lines items) next all e (ap item_lines l) h

pub items-end : (out all : List ℕ) (items : List Item) → length items ≡ 0 → out ++ item_lines items ≡ all → out ≡ all
unfolding item_lines
items-end out all [] e h = text-end out [] all refl h
items-end out all (i ∷ is) e h = absurd (omega (arith, e))

-- core blocks
pub core-none : (is : List Item) → length is ≡ 0 → all_core is ≡ true
unfolding all_core
core-none [] e = refl
core-none (i ∷ is) e = absurd (omega (arith, e))

pub core-alloc : (b : _) (key : _) (is : List Item) → all_core (Alloc b key ∷ is) ≡ (is_core b && all_core is)
unfolding all_core
core-alloc b key is = refl

pub core-step : (is : List Item) → all_core (Step ∷ is) ≡ all_core is
unfolding all_core
core-step is = refl

pub core-write : (p : _) (w : Word) (is : List Item) → all_core (Write p w ∷ is) ≡ all_core is
unfolding all_core
core-write p w is = refl

pub core-read : (p : _) (w : Word) (u : _) (v : ℕ) (args : List Word) (is : List Item) → all_core (Read p w u v args ∷ is) ≡ all_core is
unfolding all_core
core-read p w u v args is = refl

pub core-end : (is : List Item) → all_core (End ∷ is) ≡ all_core is
unfolding all_core
core-end is = refl

pub ruleset core_steps = (core-none, core-alloc, core-step, core-write, core-read, core-end)

-- open reads
suc-none : (n : ℕ) → false ≡ (suc n == 0)
suc-none n = grind (arith, nat_tests)

pub closed-none : (n : ℕ) (is : List Item) → length is ≡ 0 → closed n is ≡ (n == 0)
unfolding closed
closed-none zero [] e = refl
closed-none (suc n) [] e = suc-none n
closed-none n (i ∷ is) e = absurd (omega (arith, e))

pub closed-step : (n : ℕ) (is : List Item) → closed n (Step ∷ is) ≡ closed n is
unfolding closed
closed-step zero is = refl
closed-step (suc n) is = refl

pub closed-alloc : (n : ℕ) (b : _) (key : _) (is : List Item) → closed n (Alloc b key ∷ is) ≡ closed n is
unfolding closed
closed-alloc zero b key is = refl
closed-alloc (suc n) b key is = refl

pub closed-write : (n : ℕ) (p : _) (w : Word) (is : List Item) → closed n (Write p w ∷ is) ≡ closed n is
unfolding closed
closed-write zero p w is = refl
closed-write (suc n) p w is = refl

pub closed-read : (n : ℕ) (p : _) (w : Word) (u : _) (v : ℕ) (args : List Word) (is : List Item) → closed n (Read p w u v args ∷ is) ≡ closed (n + 1) is
unfolding closed
closed-read zero p w u v args is = refl
closed-read (suc n) p w u v args is = let e : suc n + 1 ≡ suc (suc n) = omega arith in rw e refl

pub closed-last : (is : List Item) → closed 0 (End ∷ is) ≡ false
unfolding closed
closed-last is = refl

pub closed-end : (n : ℕ) (is : List Item) → 0 < n → closed n (End ∷ is) ≡ closed (n - 1) is
unfolding closed
closed-end zero is h = absurd (omega (arith, h))
closed-end (suc n) is h = let e : suc n - 1 ≡ n = omega arith in rw e refl

pub ruleset closed_steps = (closed-none, closed-step, closed-alloc, closed-write, closed-read, closed-last, closed-end)

-- digits
pub digits-stop : (n b : ℕ) (bs rest : List ℕ) (all : ℕ × List ℕ) → rest ≡ b ∷ bs → is_digit b ≡ false → number_from n rest ≡ all → all ≡ (n, rest)
unfolding number_from
digits-stop n b bs rest all e k h = sym h ∙ rw (e, k) refl

pub digits-more : (n b m : ℕ) (bs rest : List ℕ) (all : ℕ × List ℕ) → rest ≡ b ∷ bs → is_digit b ≡ true → m ≡ with_digit n b → number_from n rest ≡ all → number_from m bs ≡ all
unfolding number_from
digits-more n b m bs rest all e k l h = ap (λ m. number_from m bs) l ∙ (sym (rw (e, k) refl) ∙ h)

pub digits-end : (n : ℕ) (rest : List ℕ) (all : ℕ × List ℕ) → length rest ≡ 0 → number_from n rest ≡ all → all ≡ (n, rest)
unfolding number_from
digits-end n [] all e h = sym h
digits-end n (b ∷ bs) all e h = absurd (omega (arith, e))
