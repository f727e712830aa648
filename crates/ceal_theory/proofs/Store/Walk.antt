-- The store along flat items, and the machine over items that agree with it.
use Rattle.std.proofs.Common.{◌≡◌, ◌⊎◌, inl, inr, ℕ, Bool, true, false, List, [], ◌∷◌, ◌++◌, refl, sym, ap, ◌∙◌, subst, arith}
use Rattle.ceal_base.specs.Operators.{same_word}
use Rattle.ceal_base.specs.Trace.{Trace, Nothing, Stepped, Allocated, Wrote, WasRead, flat}
use Rattle.ceal_base.specs.declared.forest.Item.{Item}
use Rattle.ceal_base.specs.declared.forest.Item.TheVariants.{Step, Alloc, Write, Read, End}
use Rattle.ceal_base.specs.declared.forest.UnitId.{UnitId}
use Rattle.ceal_base.specs.declared.word.Place.{Place}
use Rattle.ceal_base.specs.declared.word.Word.{Word}
use Rattle.ceal_code.proofs.Words.SameIsEqual.{word-same, word-refl}
use Rattle.ceal_code.specs.Program.{Code}
use Rattle.ceal_code.specs.Replay.{Store, cleared, stored, Honest}
use Rattle.ceal_theory.specs.Repair.{State, clears, puts, Fix, Mend}
use Rattle.ceal_theory.specs.Walk.{store_item, store_after, Agrees, AgreesAll, WalkLaw, content_item, content_after, ContentLaw, Stale, StaleLaw, with_store, HonestFixLaw}

module _ (code : Code) where
  pub after-append : (s : Store) (is js : List Item) → store_after code s (is ++ js) ≡ store_after code (store_after code s is) js
  after-append s [] js = refl
  after-append s (i ∷ is) js = after-append (store_item code s i) is js

  pub agrees-append : (s : Store) (is js : List Item) → AgreesAll code s is → AgreesAll code (store_after code s is) js → AgreesAll code s (is ++ js)
  agrees-append s [] js h k = k
  agrees-append s (i ∷ is) js h k = (h.0, agrees-append (store_item code s i) is js h.1 k)

  pub agrees-front : (s : Store) (is js : List Item) → AgreesAll code s (is ++ js) → AgreesAll code s is × AgreesAll code (store_after code s is) js
  agrees-front s [] js h = (tt, h)
  agrees-front s (i ∷ is) js h = let k = agrees-front (store_item code s i) is js h.1 in ((h.0, k.0), k.1)

  honest-agrees : {s t : Store} {l : Trace} → Honest code s l t → AgreesAll code s (flat l) × (t ≡ store_after code s (flat l))
  honest-agrees Honest.end = (tt, refl)
  honest-agrees (Honest.step h) = let k = honest-agrees h in ((tt, k.0), k.1)
  honest-agrees (Honest.alloc h) = let k = honest-agrees h in ((tt, k.0), k.1)
  honest-agrees (Honest.write h) = let k = honest-agrees h in ((tt, k.0), k.1)
  honest-agrees {s} {t} (Honest.read {t = m} {inside = inside} {rest = rest} e h1 h2) =
      let k1 = honest-agrees h1 in
      let k2 = honest-agrees h2 in
      let a : AgreesAll code (store_after code s (flat inside)) (flat rest) = subst (λ m. AgreesAll code m (flat rest)) k1.1 k2.0 in
      ((e, agrees-append s (flat inside) (End ∷ flat rest) k1.0 (tt, a)), k2.1 ∙ (ap (λ m. store_after code m (flat rest)) k1.1 ∙ sym (after-append s (flat inside) (End ∷ flat rest))))

  pub flat-honest : {s t : Store} {l : Trace} → Honest code s l t → AgreesAll code s (flat l)
  flat-honest h = (honest-agrees h).0

  pub flat-after : {s t : Store} {l : Trace} → Honest code s l t → t ≡ store_after code s (flat l)
  flat-after h = (honest-agrees h).1

  pub agrees-honest : (s : Store) (l : Trace) → AgreesAll code s (flat l) → Honest code s l (store_after code s (flat l))
  agrees-honest s Nothing h = Honest.end
  agrees-honest s (Stepped rest) h = Honest.step (agrees-honest s rest h.1)
  agrees-honest s (Allocated b key rest) h = Honest.alloc (agrees-honest (cleared code s b key) rest h.1)
  agrees-honest s (Wrote p v rest) h = Honest.write (agrees-honest (stored s p v) rest h.1)
  agrees-honest s (WasRead p v u x args inside rest) h =
      let k = agrees-front s (flat inside) (End ∷ flat rest) h.1 in
      subst (λ t. Honest code s (WasRead p v u x args inside rest) t) (sym (after-append s (flat inside) (End ∷ flat rest)))
      (Honest.read h.0 (agrees-honest s inside k.0) (agrees-honest (store_after code s (flat inside)) rest k.1.1))

  read-stale : (s : Store) (p : Place) (v : Word) (u : UnitId) (x : ℕ) (args : List Word) (is : List Item) → AgreesAll code s is ⊎ Stale code s is → (b : Bool) → same_word (s p) v ≡ b
      → AgreesAll code s (Read p v u x args ∷ is) ⊎ Stale code s (Read p v u x args ∷ is)
  read-stale s p v u x args is (inl h) true e = inl (word-same (s p) v e, h)
  read-stale s p v u x args is (inr h) true e = inr (record {
    front = Read p v u x args ∷ h.front;
    place = h.place;
    value = h.value;
    unit = h.unit;
    var = h.var;
    args = h.args;
    back = h.back;
    split = ap (λ is. Read p v u x args ∷ is) h.split;
    agrees = (word-same (s p) v e, h.agrees);
    stale = h.stale;
  })
  read-stale s p v u x args is h false e = inr (record {
    front = [];
    place = p;
    value = v;
    unit = u;
    var = x;
    args = args;
    back = is;
    split = refl;
    agrees = tt;
    stale = λ same. grind (arith, rw same at e, word-refl v);
  })

  item-stale : (s : Store) (i : Item) (is : List Item) → Agrees s i → AgreesAll code (store_item code s i) is ⊎ Stale code (store_item code s i) is → AgreesAll code s (i ∷ is) ⊎ Stale code s (i ∷ is)
  item-stale s i is a (inl h) = inl (a, h)
  item-stale s i is a (inr h) = inr (record {
    front = i ∷ h.front;
    place = h.place;
    value = h.value;
    unit = h.unit;
    var = h.var;
    args = h.args;
    back = h.back;
    split = ap (λ is. i ∷ is) h.split;
    agrees = (a, h.agrees);
    stale = h.stale;
  })

  pub first-stale : (s : Store) (is : List Item) → AgreesAll code s is ⊎ Stale code s is
  first-stale s [] = inl tt
  first-stale s (Step ∷ is) = item-stale s Step is tt (first-stale s is)
  first-stale s (Alloc b key ∷ is) = item-stale s (Alloc b key) is tt (first-stale (cleared code s b key) is)
  first-stale s (Write p v ∷ is) = item-stale s (Write p v) is tt (first-stale (stored s p v) is)
  first-stale s (Read p v u x args ∷ is) = read-stale s p v u x args is (first-stale s is) (same_word (s p) v) refl
  first-stale s (End ∷ is) = item-stale s End is tt (first-stale s is)

pub walk-law : WalkLaw
walk-law code = (
  λ s t l. (λ h. honest-agrees code h, λ h. subst (λ t. Honest code s l t) (sym h.1) (agrees-honest code s l h.0)),
  after-append code,
)

item-at : (code : Code) (s : Store) (i : Item) (p : Place) → store_item code s i p ≡ content_item code p (s p) i
unfolding cleared stored
item-at code s (Alloc b key) p = refl
item-at code s (Write q v) p = refl
item-at code s Step p = refl
item-at code s (Read q v u x args) p = refl
item-at code s End p = refl

pub content-law : ContentLaw
content-law code s [] p = refl
content-law code s (i ∷ is) p = content-law code (store_item code s i) is p ∙ ap (λ w. content_after code p w is) (item-at code s i p)

pub stale-law : StaleLaw
stale-law = first-stale

pub walk-fix : (code : Code) (names : ℕ → ℕ) {a t : Store} {l : Trace} → Honest code a l t → (s : State) → s.store ≡ a → Fix code names s l (with_store s t) l
walk-fix code names Honest.end s e = subst (λ a. Fix code names s Nothing (with_store s a) Nothing) e Fix.end
walk-fix code names (Honest.step h) s e = Fix.step (walk-fix code names h s e)
walk-fix code names (Honest.alloc {b = b} {key = key} h) s e = Fix.alloc (walk-fix code names h (clears code s b key) (ap (λ a. cleared code a b key) e))
walk-fix code names (Honest.write {p = p} {value = v} h) s e = Fix.write (walk-fix code names h (puts s p v) (ap (λ a. stored a p v) e))
walk-fix code names {a} {t} (Honest.read {t = m} {p = p} {value = value} {u = u} {v = v} {args = args} {inside = inside} {rest = rest} k h1 h2) s e =
    let same : s.store p ≡ value = ap (λ a. a p) e ∙ k in
    let f : Fix code names s (WasRead p value u v args inside rest) (with_store s t) (WasRead p (s.store p) u v args inside rest) =
    Fix.read (Mend.kept same (walk-fix code names h1 s e)) (walk-fix code names h2 (with_store s m) refl) in
    subst (λ w. Fix code names s (WasRead p value u v args inside rest) (with_store s t) (WasRead p w u v args inside rest)) same f

pub honest-fix-law : HonestFixLaw
honest-fix-law code names s l t h = walk-fix code names h s refl
