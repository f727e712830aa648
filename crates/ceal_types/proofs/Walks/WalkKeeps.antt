-- What holds of what a walk gives, where it gives no fault.
use Rattle.std.proofs.Common.{◌≡◌, ℕ, suc, ◌+◌, arith, Bool, true, false, Result, Ok, Err, List, [], ◌∷◌, All, length, refl, subst, if◌then◌else◌}
use Rattle.std.specs.Prelude.{IfOk}
use Rattle.ceal_base.specs.declared.fault.Fault.{Fault}
use Rattle.ceal_types.specs.Walk.{after, result_map, both, in_turn}

pub after-keeps : {A B : Type 0} (P : A → Type 0) (Q : B → Type 0) (next : A → Result B Fault) (r : Result A Fault)
    → IfOk r P → ((x : A) → P x → IfOk (next x) Q) → IfOk (after next r) Q
after-keeps P Q next (Ok x) h keep = keep x h
after-keeps P Q next (Err f) h keep = tt

pub mapped-keeps : {A B : Type 0} (P : A → Type 0) (Q : B → Type 0) (make : A → B) (r : Result A Fault)
    → IfOk r P → ((x : A) → P x → Q (make x)) → IfOk (result_map make r) Q
mapped-keeps P Q make (Ok x) h keep = keep x h
mapped-keeps P Q make (Err f) h keep = tt

pub both-keeps : {A B C : Type 0} (P : A → Type 0) (Q : B → Type 0) (R : C → Type 0) (next : A → B → Result C Fault) (r : Result A Fault)
    (s : Result B Fault) → IfOk r P → IfOk s Q → ((x : A) (y : B) → P x → Q y → IfOk (next x y) R) → IfOk (both next r s) R
both-keeps P Q R next (Ok x) (Ok y) h k keep = keep x y h k
both-keeps P Q R next (Ok x) (Err f) h k keep = tt
both-keeps P Q R next (Err f) s h k keep = tt

pub if-keeps : {A : Type 0} (P : A → Type 0) (b : Bool) (r s : Result A Fault)
    → (b ≡ true → IfOk r P) → (b ≡ false → IfOk s P) → IfOk (if b then r else s) P
if-keeps P true r s yes-case no-case = yes-case refl
if-keeps P false r s yes-case no-case = no-case refl

pub weaken : {A : Type 0} (P Q : A → Type 0) (r : Result A Fault) → ((x : A) → P x → Q x) → IfOk r P → IfOk r Q
weaken P Q (Ok x) keep h = keep x h
weaken P Q (Err f) keep h = tt

pub any-ok : {A : Type 0} (r : Result A Fault) → IfOk r (λ x. Unit {0})
any-ok (Ok x) = tt
any-ok (Err f) = tt

pub ok-self : {A : Type 0} (r : Result A Fault) → IfOk r (λ x. r ≡ Ok x)
ok-self (Ok x) = refl
ok-self (Err f) = tt

pub ok-at : {A : Type 0} (P : A → Type 0) (r : Result A Fault) (x : A) → r ≡ Ok x → IfOk r P → P x
ok-at P r x is h = subst (λ (q : Result _ Fault). IfOk q P) is h

-- where all went well, the first did
pub after-ok : {A B : Type 0} (next : A → Result B Fault) (r : Result A Fault) (y : B) → after next r ≡ Ok y → (x : A) × (r ≡ Ok x) × (next x ≡ Ok y)
after-ok next (Ok x) y h = (x, refl, h)
after-ok next (Err f) y h = cc

-- what each step keeps, all keep
pub turn-keeps : {A S : Type 0} (step : A → S → Result S Fault) (P : S → Type 0) → ((x : A) (s : S) → P s → IfOk (step x s) P)
    → (xs : List A) (s : S) → P s → IfOk (in_turn step xs s) P
unfolding in_turn
turn-keeps step P keep [] s h = h
turn-keeps step P keep (x ∷ xs) s h = after-keeps P P (in_turn step xs) (step x s) (keep x s h) (turn-keeps step P keep xs)

-- what each step keeps at an item of this sort, all keep where each item is of it
pub turn-keeps-each : {A S : Type 0} (step : A → S → Result S Fault) (Q : A → Type 0) (P : S → Type 0)
    → ((x : A) (s : S) → Q x → P s → IfOk (step x s) P) → (xs : List A) → All Q xs → (s : S) → P s → IfOk (in_turn step xs s) P
unfolding in_turn
turn-keeps-each step Q P keep [] all s h = h
turn-keeps-each step Q P keep (x ∷ xs) all s h =
    after-keeps P P (in_turn step xs) (step x s) (keep x s (all 0 x (omega arith)) h)
    (turn-keeps-each step Q P keep xs (λ k d l. all (suc k) d (omega (arith, l))))

-- a size that each step makes larger by one
pub turn-counts : {A S : Type 0} (step : A → S → Result S Fault) (size : S → ℕ) → ((x : A) (s : S) → IfOk (step x s) (λ t. size t ≡ size s + 1))
    → (xs : List A) (s : S) → IfOk (in_turn step xs s) (λ t. size t ≡ size s + length xs)
unfolding in_turn
turn-counts step size grow [] s = omega arith
turn-counts {S = S} step size grow (x ∷ xs) s =
    after-keeps (λ t. size t ≡ size s + 1) (λ t. size t ≡ size s + length (x ∷ xs)) (in_turn step xs) (step x s) (grow x s)
    (λ t h. weaken (λ (u : S). size u ≡ size t + length xs) (λ (u : S). size u ≡ size s + length (x ∷ xs)) (in_turn step xs t) (λ u k. omega (arith, h, k)) (turn-counts step size grow xs t))
