-- Words are those of one command at most.
use Rattle.std.proofs.Common.{◌≡◌, ◌≢◌, ℕ, false, List, [], ◌∷◌, Result, Ok, Err, refl, sym, ap, ◌∙◌, subst, arith, inl, inr}
use Rattle.std.specs.Prelude.{codes, bytes_eq, if◌then◌else◌, ◌⊎◌}
use Rattle.std.proofs.lemmas.Bool.{false≢true}
use Rattle.ceal_base.specs.Digits.{number_of}
use Rattle.ceal_script.specs.Answers.{Reads}
use Rattle.ceal_script.specs.Keywords.{keyword_text}
use Rattle.ceal_script.specs.Lines.{is_comment, IsBlank, Says, IsLineOf}
use Rattle.ceal_script.specs.Spelling.{SpellsKind, SpellsPlace, SpellsValue}
use Rattle.ceal_script.specs.Words.{HasWords}
use Rattle.std.specs.List.{AllZip}
use Rattle.ceal_script.specs.declared.command.Command.{Command}
use Rattle.ceal_script.specs.declared.command.Command.TheVariants.{Blank, Mod, New, Set, Run, Propagate, Slice, Get, Show, Blocks, Steps, Work, Bound}
use Rattle.ceal_script.specs.declared.keyword.Keyword.{Keyword}
use Rattle.ceal_script.specs.declared.keyword.Keyword.TheVariants as keywords
use Rattle.ceal_script.specs.declared.line_error.LineError.{LineError}
use Rattle.ceal_script.specs.declared.line_error.LineError.TheVariants.{Memory, Unreadable}
use Rattle.ceal_script.proofs.SpellingLaws.{one_place, one_value, one_list, one_kind}
use Rattle.ceal_script.proofs.WordLaws.{one_words}

-- the first word of a command that is not blank is its keyword
first_word : (w v : List ℕ) (ws vs : List (List ℕ)) → w ∷ ws ≡ v ∷ vs → w ≡ v
first_word w v ws vs e = cc

pub no_keyword : (word : List ℕ) (rest : List (List ℕ)) → is_comment word ≡ false → ((k : Keyword) → word ≢ keyword_text k) → (c : Command) → Says (word ∷ rest) c → ⊥
no_keyword word rest comment none Blank h = false≢true (sym comment ∙ h)
no_keyword word rest comment none (Mod name kind value) h = none keywords.Mod (first_word _ _ _ _ h.2)
no_keyword word rest comment none (New name shape values) h = none keywords.New (first_word _ _ _ _ h.1)
no_keyword word rest comment none (Set place value) h = none keywords.Set (first_word _ _ _ _ h.2)
no_keyword word rest comment none (Run function args) h = none keywords.Run (first_word _ _ _ _ h.1)
no_keyword word rest comment none Propagate e = none keywords.Propagate (first_word _ _ _ _ e)
no_keyword word rest comment none (Slice reads) h = none keywords.Propagate (first_word _ _ _ _ h.1)
no_keyword word rest comment none (Get place) h = none keywords.Get (first_word _ _ _ _ h.1)
no_keyword word rest comment none (Show name) h = none keywords.Show (first_word _ _ _ _ h.0)
no_keyword word rest comment none Blocks e = none keywords.Blocks (first_word _ _ _ _ e)
no_keyword word rest comment none Steps e = none keywords.Steps (first_word _ _ _ _ e)
no_keyword word rest comment none Work e = none keywords.Work (first_word _ _ _ _ e)
no_keyword word rest comment none Bound e = none keywords.Bound (first_word _ _ _ _ e)

-- what the words of each command are the words of
blank_only : (words : List (List ℕ)) (c : Command) → IsBlank words → Says words c → c ≡ Blank
blank_only words Blank b h = refl
blank_only words (Mod name kind value) b h = absurd (false≢true (subst IsBlank h.2 b))
blank_only words (New name shape values) b h = absurd (false≢true (subst IsBlank h.1 b))
blank_only words (Set place value) b h = absurd (false≢true (subst IsBlank h.2 b))
blank_only words (Run function args) b h = absurd (false≢true (subst IsBlank h.1 b))
blank_only words Propagate b e = absurd (false≢true (subst IsBlank e b))
blank_only words (Slice reads) b h = absurd (false≢true (subst IsBlank h.1 b))
blank_only words (Get place) b h = absurd (false≢true (subst IsBlank h.1 b))
blank_only words (Show name) b h = absurd (false≢true (subst IsBlank h.0 b))
blank_only words Blocks b e = absurd (false≢true (subst IsBlank e b))
blank_only words Steps b e = absurd (false≢true (subst IsBlank e b))
blank_only words Work b e = absurd (false≢true (subst IsBlank e b))
blank_only words Bound b e = absurd (false≢true (subst IsBlank e b))

-- which form the words have, by the first one
unfoldable pub form_of_words : List (List ℕ) → ℕ
form_of_words [] = 0
form_of_words (w ∷ ws) =
    if is_comment w then 0
    else if bytes_eq w (codes "mod") then 1
    else if bytes_eq w (codes "new") then 2
    else if bytes_eq w (codes "set") then 3
    else if bytes_eq w (codes "run") then 4
    else if bytes_eq w (codes "propagate") then 5
    else if bytes_eq w (codes "get") then 6
    else if bytes_eq w (codes "show") then 7
    else if bytes_eq w (codes "blocks") then 8
    else if bytes_eq w (codes "steps") then 9
    else if bytes_eq w (codes "work") then 10
    else if bytes_eq w (codes "bound") then 11
    else 12

abbrev pub form : Command → ℕ
form Blank = 0
form (Mod name kind value) = 1
form (New name shape values) = 2
form (Set place value) = 3
form (Run function args) = 4
form Propagate = 5
form (Slice reads) = 5
form (Get place) = 6
form (Show name) = 7
form Blocks = 8
form Steps = 9
form Work = 10
form Bound = 11

pub form_said : (words : List (List ℕ)) (c : Command) → Says words c → form_of_words words ≡ form c
unfolding form_of_words
form_said [] Blank h = refl
form_said (w ∷ ws) Blank h = rw h refl
form_said words (Mod name kind value) h = ap form_of_words h.2
form_said words (New name shape values) h = ap form_of_words h.1
form_said words (Set place value) h = ap form_of_words h.2
form_said words (Run function args) h = ap form_of_words h.1
form_said words Propagate h = ap form_of_words h
form_said words (Slice reads) h = ap form_of_words h.1
form_said words (Get place) h = ap form_of_words h.1
form_said words (Show name) h = ap form_of_words h.0
form_said words Blocks h = ap form_of_words h
form_said words Steps h = ap form_of_words h
form_said words Work h = ap form_of_words h
form_said words Bound h = ap form_of_words h

one_saying : (words : List (List ℕ)) (c d : Command) → Says words c → Says words d → c ≡ d
one_saying words Blank d h k = sym (blank_only words d h k)
one_saying words c Blank h k = blank_only words c k h
one_saying words (Mod n a v) (Mod m b w) h k =
    let t : codes "mod" ∷ n ∷ h.0 ∷ h.1 ∷ [] ≡ codes "mod" ∷ m ∷ k.0 ∷ k.1 ∷ [] = sym h.2 ∙ k.2 in
    let e : n ≡ m = cc in
    let f : a ≡ b = one_kind h.0 a b h.4 (let s : k.0 ≡ h.0 = cc in subst (λ (x : List ℕ). SpellsKind x b) s k.4) in
    let g : v ≡ w = one_value h.1 v w h.5 (let s : k.1 ≡ h.1 = cc in subst (λ (x : List ℕ). SpellsValue x w) s k.5) in
    cc
one_saying words (New n s vs) (New m t ws) h k =
    let e : codes "new" ∷ n ∷ s ∷ h.0 ≡ codes "new" ∷ m ∷ t ∷ k.0 = sym h.1 ∙ k.1 in
    let f : vs ≡ ws = one_list h.0 vs ws h.4 (let s : k.0 ≡ h.0 = cc in subst (λ (x : List (List ℕ)). AllZip SpellsValue x ws) s k.4) in
    let g : n ≡ m = cc in
    let i : s ≡ t = cc in
    cc
one_saying words (Set p v) (Set q w) h k =
    let t : codes "set" ∷ h.0 ∷ h.1 ∷ [] ≡ codes "set" ∷ k.0 ∷ k.1 ∷ [] = sym h.2 ∙ k.2 in
    let e : p ≡ q = one_place h.0 p q h.3 (let s : k.0 ≡ h.0 = cc in subst (λ (x : List ℕ). SpellsPlace x q) s k.3) in
    let f : v ≡ w = one_value h.1 v w h.4 (let s : k.1 ≡ h.1 = cc in subst (λ (x : List ℕ). SpellsValue x w) s k.4) in
    cc
one_saying words (Run f vs) (Run g ws) h k =
    let e : codes "run" ∷ f ∷ h.0 ≡ codes "run" ∷ g ∷ k.0 = sym h.1 ∙ k.1 in
    let i : vs ≡ ws = one_list h.0 vs ws h.3 (let s : k.0 ≡ h.0 = cc in subst (λ (x : List (List ℕ)). AllZip SpellsValue x ws) s k.3) in
    let j : f ≡ g = cc in
    cc
one_saying words Propagate Propagate h k = refl
one_saying words Propagate (Slice n) h k = absurd (cc (sym h ∙ k.1))
one_saying words (Slice n) Propagate h k = absurd (cc (sym k ∙ h.1))
one_saying words (Slice n) (Slice m) h k =
    let t : codes "propagate" ∷ h.0 ∷ [] ≡ codes "propagate" ∷ k.0 ∷ [] = sym h.1 ∙ k.1 in
    let s : h.0 ≡ k.0 = cc in
    let e : n ≡ m = h.2.4 ∙ ap number_of s ∙ sym k.2.4 in
    ap Slice e
one_saying words (Get p) (Get q) h k =
    let t : codes "get" ∷ h.0 ∷ [] ≡ codes "get" ∷ k.0 ∷ [] = sym h.1 ∙ k.1 in
    let e : p ≡ q = one_place h.0 p q h.2 (let s : k.0 ≡ h.0 = cc in subst (λ (x : List ℕ). SpellsPlace x q) s k.2) in
    ap Get e
one_saying words (Show n) (Show m) h k =
    let t : codes "show" ∷ n ∷ [] ≡ codes "show" ∷ m ∷ [] = sym h.0 ∙ k.0 in
    let e : n ≡ m = cc in
    ap Show e
one_saying words Blocks Blocks h k = refl
one_saying words Steps Steps h k = refl
one_saying words Work Work h k = refl
one_saying words Bound Bound h k = refl
one_saying words c d h k = let e : form c ≡ form d = sym (form_said words c h) ∙ form_said words d k in absurd (omega (arith, e))

module _ (line : List ℕ) (words : List (List ℕ)) (has : HasWords line words) where
  -- the words that a command of the line has are those of the line
  pub said : (c : Command) → IsLineOf c line → Says words c
  said c h = subst (λ (ws : List (List ℕ)). Says ws c) (one_words line h.words words h.has_words has) h.says

  pub line_unreadable : (r : Result Command LineError) → Reads r (Says words) → r ≡ Err Unreadable → (c : Command) → IsLineOf c line → ⊥
  line_unreadable r reads e c h =
      let none = subst (λ (s : Result Command LineError). Reads s (Says words)) e reads in
      none c (said c h)

  pub line_all : (r : Result Command LineError) → Reads r (Says words) → (c : Command) → IsLineOf c line → (r ≡ Ok c) ⊎ (r ≡ Err Memory)
  line_all (Ok d) reads c h = inl (ap Ok (one_saying words d c reads (said c h)))
  line_all (Err Memory) reads c h = inr refl
  line_all (Err Unreadable) reads c h = absurd (reads c (said c h))

pub one_line : (line : List ℕ) (c d : Command) → IsLineOf c line → IsLineOf d line → c ≡ d
one_line line c d h k = one_saying h.words c d h.says (said line h.words h.has_words d k)
