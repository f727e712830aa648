-- A walk and a list of faults that say the same.
use Rattle.std.proofs.Common.{◌≡◌, ◌↔◌, ◌||◌, Bool, true, false, Some, Result, Ok, Err, List, [], ◌∷◌, ◌++◌, slice_get, refl, sym, subst, ap, ◌∙◌, append_assoc, append-nil, if◌then◌else◌}
use Rattle.std.specs.Prelude.{IfOk, IsOk}
use Rattle.std.proofs.lemmas.Bool.{false≢true}
use Rattle.ceal_base.specs.Faults.{one}
use Rattle.ceal_base.specs.declared.fault.Fault.{Fault}
use Rattle.ceal_base.specs.declared.fault.FaultCode.{FaultCode}
use Rattle.ceal_base.specs.declared.fault.Span.{Span}
use Rattle.ceal_types.specs.Faults.{one_unless, one_if, faults_after}
use Rattle.ceal_types.specs.Walk.{fault, after, result_map, both, in_turn}

-- where the walk gives something, there is no fault and this holds of it; else it gives the first fault
abbrev pub Tells : {A : Type 0} → (A → Type 0) → List Fault → Result A Fault → Type 0
Tells P fs (Ok x) = (fs ≡ []) × P x
Tells P fs (Err f) = slice_get fs 0 ≡ Some f

first-front : (fs gs : List Fault) (f : Fault) → slice_get fs 0 ≡ Some f → slice_get (fs ++ gs) 0 ≡ Some f
first-front [] gs f h = cc
first-front (g ∷ fs) gs f h = h

pub none-front : (fs gs : List Fault) → fs ≡ [] → fs ++ gs ≡ gs
none-front fs gs h = ap (λ (l : List Fault). l ++ gs) h

-- lists one after another, put together from the right
pub right-three : (a b c : List Fault) → a ++ (b ++ c) ≡ a ++ b ++ c
right-three a b c = sym (append_assoc a b c)

pub right-four : (a b c d : List Fault) → a ++ (b ++ (c ++ d)) ≡ a ++ b ++ c ++ d
right-four a b c d = ap (λ (l : List Fault). a ++ l) (right-three b c d) ∙ right-three a (b ++ c) d ∙ ap (λ (l : List Fault). l ++ d) (right-three a b c)

pub right-five : (a b c d e : List Fault) → a ++ (b ++ (c ++ (d ++ e))) ≡ a ++ b ++ c ++ d ++ e
right-five a b c d e =
    ap (λ (l : List Fault). a ++ l) (right-four b c d e) ∙ right-three a (b ++ c ++ d) e ∙ ap
    (λ (l : List Fault). l ++ e) (sym (ap (λ (l : List Fault). a ++ l) (right-three b c d)) ∙ right-four a b c d)

-- both lists are empty where they are together
pub none-of-both : (fs gs : List Fault) → fs ++ gs ≡ [] → (fs ≡ []) × (gs ≡ [])
none-of-both [] gs h = (refl, h)
none-of-both (f ∷ fs) gs h = cc

module _ {A : Type 0} (P : A → Type 0) where
  pub as-list : (fs gs : List Fault) (r : Result A Fault) → fs ≡ gs → Tells P fs r → Tells P gs r
  as-list fs gs r h t = subst (λ (l : List Fault). Tells P l r) h t

  pub tells-and-none : (fs : List Fault) (r : Result A Fault) → Tells P fs r → Tells (λ x. P x × (fs ≡ [])) fs r
  tells-and-none fs (Ok x) h = (h.0, (h.1, h.0))
  tells-and-none fs (Err f) h = h

  pub tells-itself : (fs : List Fault) (r : Result A Fault) → Tells P fs r → Tells (λ x. P x × (r ≡ Ok x)) fs r
  tells-itself fs (Ok x) h = (h.0, (h.1, refl))
  tells-itself fs (Err f) h = h

  pub tells-and : (Q : A → Type 0) (fs : List Fault) (r : Result A Fault) → Tells P fs r → IfOk r Q → Tells (λ x. P x × Q x) fs r
  tells-and Q fs (Ok x) h k = (h.0, (h.1, k))
  tells-and Q fs (Err f) h k = h

  -- without a fault there is something
  pub something : (fs : List Fault) (r : Result A Fault) → fs ≡ [] → Tells P fs r → (x : A) × (r ≡ Ok x) × P x
  something fs (Ok x) none h = (x, refl, h.1)
  something fs (Err f) none h = absurd (nothing (sym (ap (λ (l : List Fault). slice_get l 0) none) ∙ h))
    where
      nothing : slice_get {X = Fault} [] 0 ≡ Some f → ⊥
      nothing e = cc

  pub tells-weaker : (Q : A → Type 0) (fs : List Fault) (r : Result A Fault) → Tells P fs r → ((x : A) → P x → Q x) → Tells Q fs r
  tells-weaker Q fs (Ok x) h keep = (h.0, keep x h.1)
  tells-weaker Q fs (Err f) h keep = h

  pub unless-tells : (b : Bool) (code : FaultCode) (at : Span) (x : A) → (b ≡ true → P x) → Tells P (one_unless b code at) (if b then Ok x else fault code at)
  unless-tells true code at x h = (refl, h refl)
  unless-tells false code at x h = refl

  -- a fault unless something holds, and then the others
  pub unless-first : (b : Bool) (code : FaultCode) (at : Span) (gs : List Fault) (r : Result A Fault) → (b ≡ true → Tells P gs r)
      → Tells P (one_unless b code at ++ gs) (if b then r else fault code at)
  unless-first true code at gs r h = h refl
  unless-first false code at gs r h = refl

  pub where-first : (b : Bool) (code : FaultCode) (at : Span) (gs : List Fault) (r : Result A Fault) → (b ≡ false → Tells P gs r)
      → Tells P (one_if b code at ++ gs) (if b then fault code at else r)
  where-first true code at gs r h = refl
  where-first false code at gs r h = h refl

  pub where-tells : (b : Bool) (code : FaultCode) (at : Span) (x : A) → (b ≡ false → P x) → Tells P (one_if b code at) (if b then fault code at else Ok x)
  where-tells true code at x h = refl
  where-tells false code at x h = (refl, h refl)

  pub where-either : (a b : Bool) (code : FaultCode) (at : Span) (r : Result A Fault) → (a ≡ false → Tells P (one_if b code at) r)
      → Tells P (one_if (a || b) code at) (if a then fault code at else r)
  where-either true b code at r h = refl
  where-either false b code at r h = h refl

  pub either-way : (b : Bool) (fs gs : List Fault) (r s : Result A Fault) → Tells P fs r → Tells P gs s
      → Tells P (if b then fs else gs) (if b then r else s)
  either-way true fs gs r s h k = h
  either-way false fs gs r s h k = k

module _ {A B : Type 0} (P : A → Type 0) (Q : B → Type 0) where
  pub after-tells : (fs gs : List Fault) (next : A → Result B Fault) (r : Result A Fault) → Tells P fs r → ((x : A) → P x → Tells Q gs (next x))
      → Tells Q (fs ++ gs) (after next r)
  after-tells fs gs next (Ok x) h keep = as-list Q gs (fs ++ gs) (next x) (sym (none-front fs gs h.0)) (keep x h.1)
  after-tells fs gs next (Err f) h keep = first-front fs gs f h

  pub mapped-tells : (fs : List Fault) (make : A → B) (r : Result A Fault) → Tells P fs r → ((x : A) → P x → Q (make x)) → Tells Q fs (result_map make r)
  mapped-tells fs make (Ok x) h keep = (h.0, keep x h.1)
  mapped-tells fs make (Err f) h keep = h

  -- one fault at one place, for either of two reasons
  pub where-after : (a b : Bool) (code : FaultCode) (at : Span) (next : A → Result B Fault) (r : Result A Fault) → Tells P (one_if a code at) r
      → ((x : A) → P x → Tells Q (one_if b code at) (next x)) → Tells Q (one_if (a || b) code at) (after next r)
  where-after false b code at next (Ok x) h keep = keep x h.1
  where-after true b code at next (Ok x) h keep = absurd (some-fault (one code at) h.0)
    where
      some-fault : (fs : List Fault) → one code at ≡ [] → ⊥
      some-fault fs e = cc
  where-after true b code at next (Err f) h keep = h
  where-after false b code at next (Err f) h keep = absurd (nothing h)
    where
      nothing : slice_get {X = Fault} [] 0 ≡ Some f → ⊥
      nothing e = cc

pub both-tells : {A B C : Type 0} (P : A → Type 0) (Q : B → Type 0) (R : C → Type 0) (fs gs hs : List Fault) (next : A → B → Result C Fault)
    (r : Result A Fault) (s : Result B Fault) → Tells P fs r → Tells Q gs s → ((x : A) (y : B) → P x → Q y → Tells R hs (next x y))
    → Tells R (fs ++ (gs ++ hs)) (both next r s)
both-tells P Q R fs gs hs next (Ok x) (Ok y) h k keep =
    as-list R hs (fs ++ (gs ++ hs)) (next x y) (sym (none-front fs (gs ++ hs) h.0 ∙ none-front gs hs k.0)) (keep x y h.1 k.1)
both-tells P Q R fs gs hs next (Ok x) (Err f) h k keep =
    ap (λ (l : List Fault). slice_get l 0) (none-front fs (gs ++ hs) h.0) ∙ first-front gs hs f k
both-tells P Q R fs gs hs next (Err f) s h k keep = first-front fs (gs ++ hs) f h

-- a walk over items, whose state tells what was before
module _ {A S : Type 0} (step : A → S → Result S Fault) (faults : List A → A → List Fault) (I : List A → S → Type 0)
    (each : (before : List A) (x : A) (s : S) → I before s → Tells (I (before ++ x ∷ [])) (faults before x) (step x s)) where
  pub turn-tells : (xs before : List A) (s : S) → I before s → Tells (I (before ++ xs)) (faults_after faults before xs) (in_turn step xs s)
  unfolding in_turn faults_after
  turn-tells [] before s h = (refl, subst (λ (l : List A). I l s) (sym (append-nil before)) h)
  turn-tells (x ∷ xs) before s h =
      after-tells (I (before ++ x ∷ [])) (I (before ++ x ∷ xs)) (faults before x) (faults_after faults (before ++ x ∷ []) xs) (in_turn step xs) (step x s) (each before x s h)
      (λ t k. subst (λ (l : List A). Tells (I l) (faults_after faults (before ++ x ∷ []) xs) (in_turn step xs t)) (append_assoc before (x ∷ []) xs)
      (turn-tells xs (before ++ x ∷ []) t k))

-- ---- what a walk answers
module _ {A : Type 0} (P : A → Type 0) where
  pub tells-first : (fs : List Fault) (r : Result A Fault) → Tells P fs r → (f : Fault) → (r ≡ Err f) ↔ (slice_get fs 0 ≡ Some f)
  tells-first fs (Ok x) h f = (λ e. cc, λ e. absurd (nothing (sym (ap (λ (l : List Fault). slice_get l 0) h.0) ∙ e)))
    where
      nothing : slice_get {X = Fault} [] 0 ≡ Some f → ⊥
      nothing e = cc
  tells-first fs (Err g) h f = (λ e. h ∙ ap Some (same g e), λ e. ap Err (same-found g (sym h ∙ e)))
    where
      same : (g : Fault) → ◌≡◌ {A = Result A Fault} (Err g) (Err f) → g ≡ f
      same g e = cc

      same-found : (g : Fault) → Some g ≡ Some f → g ≡ f
      same-found g e = cc

  pub tells-none : (fs : List Fault) (r : Result A Fault) → Tells P fs r → IsOk r ↔ (fs ≡ [])
  tells-none fs (Ok x) h = (λ e. h.0, λ e. refl)
  tells-none fs (Err g) h = (λ e. absurd (false≢true e), λ e. absurd (nothing (sym (ap (λ (l : List Fault). slice_get l 0) e) ∙ h)))
    where
      nothing : slice_get {X = Fault} [] 0 ≡ Some g → ⊥
      nothing e = cc
