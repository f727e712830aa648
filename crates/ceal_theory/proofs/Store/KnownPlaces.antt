-- A walk and a repair use what the store has only at known places.
use Rattle.std.proofs.Common.{◌≡◌, ℕ, Bool, true, false, ◌==◌, if◌then◌else◌, List, ◌∷◌, refl, sym, ◌∙◌, subst, arith}
use Rattle.ceal_base.specs.Operators.{same_block}
use Rattle.ceal_base.specs.Trace.{Trace, Stepped, WasRead}
use Rattle.ceal_base.specs.declared.forest.Key.{Key}
use Rattle.ceal_base.specs.declared.forest.UnitId.{UnitId}
use Rattle.ceal_base.specs.declared.word.BlockId.{BlockId}
use Rattle.ceal_base.specs.declared.word.BlockId.TheVariants.{Input, Core}
use Rattle.ceal_base.specs.declared.word.Place.{Place}
use Rattle.ceal_base.specs.declared.word.Word.{Word}
use Rattle.ceal_code.proofs.Words.SameIsEqual.{nat-refl}
use Rattle.ceal_code.specs.Program.{Code}
use Rattle.ceal_code.specs.Replay.{Store, Honest, In, here, there, KnownBlock, Mentions, cell_default, shape_of, cleared, stored}
use Rattle.ceal_code.specs.Step.{Stack}
use Rattle.ceal_code.specs.Value.{field_kind}
use Rattle.ceal_theory.proofs.Store.EqualContents.{stored-equal}
use Rattle.ceal_theory.specs.Walk.{with_store}
use Rattle.ceal_theory.specs.Repair.{State, works, resumed, Fix, Mend, Reruns}

-- the stores have the same at each known place
abbrev pub SameAt : ℕ → List ℕ → Store → Store → Type 0
SameAt n bs s t = (p : Place) → KnownBlock n bs p.block → s p ≡ t p

older-block : (n : ℕ) (bs : List ℕ) (b : ℕ) (c : BlockId) → KnownBlock n (b ∷ bs) c → same_block c (Core b) ≡ false → KnownBlock n bs c
older-block n bs b (Input i) k e = k
older-block n bs b (Core c) k e = older c k e
  where
    older : (c : ℕ) → In c (b ∷ bs) → (c == b) ≡ false → In c bs
    older c here e = absurd (grind (arith, e, nat-refl b))
    older c (there i) e = i

pub cleared-same : (code : Code) (n : ℕ) (bs : List ℕ) (b : ℕ) (key : Key) (s t : Store) → SameAt n bs s t → SameAt n (b ∷ bs) (cleared code s (Core b) key) (cleared code t (Core b) key)
unfolding cleared
cleared-same code n bs b key s t h p k = go (same_block p.block (Core b)) refl
  where
    go : (e : Bool) → same_block p.block (Core b) ≡ e
        → (if e then cell_default (field_kind code.structs (shape_of code key) p.field) else s p) ≡ (if e then cell_default (field_kind code.structs (shape_of code key) p.field) else t p)
    go true e = refl
    go false e = h p (older-block n bs b p.block k e)

pub stored-same : (n : ℕ) (bs : List ℕ) (s t : Store) (q : Place) (w : Word) → SameAt n bs s t → SameAt n bs (stored s q w) (stored t q w)
stored-same n bs s t q w h p k = stored-equal s t q w p (h p k)

pub record HonestAgain (code : Code) (n : ℕ) (t : Store) (l : Trace) (cs : List ℕ) (s' : Store) : Type 0 where
  pub after : Store
  pub walk : Honest code t l after
  pub same : SameAt n cs s' after

pub honest-again : (code : Code) (n : ℕ) {s s' : Store} {l : Trace} → Honest code s l s' → {bs cs : List ℕ} → Mentions n bs l cs → (t : Store) → SameAt n bs s t → HonestAgain code n t l cs s'
honest-again code n Honest.end Mentions.end t h = record { after = t; walk = Honest.end; same = h }
honest-again code n (Honest.step k) (Mentions.step m) t h = let q = honest-again code n k m t h in record { after = q.after; walk = Honest.step q.walk; same = q.same }
honest-again code n {s} (Honest.alloc k) {bs} (Mentions.alloc {b = b} {key = key} a m) t h =
    let q = honest-again code n k m (cleared code t (Core b) key) (cleared-same code n bs b key s t h) in record { after = q.after; walk = Honest.alloc q.walk; same = q.same }
honest-again code n {s} (Honest.write {p = p} {value = w} k) {bs} (Mentions.write a b m) t h =
    let q = honest-again code n k m (stored t p w) (stored-same n bs s t p w h) in record { after = q.after; walk = Honest.write q.walk; same = q.same }
honest-again code n (Honest.read {p = p} e k1 k2) (Mentions.read a b c m1 m2) t h =
    let q1 = honest-again code n k1 m1 t h in
    let q2 = honest-again code n k2 m2 q1.after q1.same in
    record { after = q2.after; walk = Honest.read (sym (h p a) ∙ e) q1.walk q2.walk; same = q2.same }

module _ (code : Code) (names : ℕ → ℕ) (n : ℕ) where
  pub record FixAgain (s' : State) (t : State) (old new : Trace) (cs : List ℕ) : Type 0 where
    pub after : Store
    pub fix : Fix code names t old (with_store s' after) new
    pub same : SameAt n cs s'.store after

  pub record MendAgain (s' : State) (t : State) (p : Place) (u : UnitId) (v : ℕ) (args : List Word) (value : Word) (old new : Trace) (cs : List ℕ) : Type 0 where
    pub after : Store
    pub mend : Mend code names t p u v args value old (with_store s' after) new
    pub same : SameAt n cs s'.store after

  pub record AnewAgain (s' : State) (t : State) (st : Stack) (old new left : Trace) (cs : List ℕ) : Type 0 where
    pub after : Store
    pub anew : Reruns code names t st old (with_store s' after) new left
    pub same : SameAt n cs s'.store after

  mutual
    pub fix-again : {s s' : State} {old new : Trace} → Fix code names s old s' new → {bs cs : List ℕ}
        → Mentions n bs new cs → (t : Store) → SameAt n bs s.store t → FixAgain s' (with_store s t) old new cs
    fix-again Fix.end Mentions.end t h = record { after = t; fix = Fix.end; same = h }
    fix-again (Fix.step f) (Mentions.step m) t h = let q = fix-again f m t h in record { after = q.after; fix = Fix.step q.fix; same = q.same }
    fix-again {s} (Fix.alloc f) {bs} (Mentions.alloc {b = b} {key = key} a m) t h =
        let q = fix-again f m (cleared code t (Core b) key) (cleared-same code n bs b key s.store t h) in record { after = q.after; fix = Fix.alloc q.fix; same = q.same }
    fix-again {s} (Fix.write {p = p} {value = w} f) {bs} (Mentions.write a b m) t h =
        let q = fix-again f m (stored t p w) (stored-same n bs s.store t p w h) in record { after = q.after; fix = Fix.write q.fix; same = q.same }
    fix-again {s} {s'} (Fix.read {p = p} {value = value} {u = u} {v = v} {args = args} {inside = i} {inside' = i'} {rest = l} {rest' = l'} m f) (Mentions.read a b c m1 m2) t h =
        let q1 = mend-again m a m1 t h in
        let q2 = fix-again f m2 q1.after q1.same in
        let z : Fix code names (with_store s t) (WasRead p value u v args i l) (with_store s' q2.after) (WasRead p (t p) u v args i' l') = Fix.read q1.mend q2.fix in
        record {
          after = q2.after;
          fix = subst (λ w. Fix code names (with_store s t) (WasRead p value u v args i l)
              (with_store s' q2.after) (WasRead p w u v args i' l')) (sym (h p a)) z;
          same = q2.same;
        }

    pub mend-again : {s s' : State} {p : Place} {u : UnitId} {v : ℕ} {args : List Word} {value : Word} {old new : Trace} → Mend code names s p u v args value old s' new
        → {bs cs : List ℕ} → KnownBlock n bs p.block → Mentions n bs new cs → (t : Store) → SameAt n bs s.store t → MendAgain s' (with_store s t) p u v args value old new cs
    mend-again {s} {s'} {p} (Mend.kept e f) a m t h = let q = fix-again f m t h in record { after = q.after; mend = Mend.kept (sym (h p a) ∙ e) q.fix; same = q.same }
    mend-again {s} {s'} {p} {u} {v} {args} {value} {old} {new} (Mend.stale {left = left} e f) a m t h =
        let q = anew-again f m t h in
        record {
          after = q.after;
          mend = Mend.stale (λ i. e (h p a ∙ i)) (subst (λ w. Reruns code names (with_store s t) (resumed code u v args w) old (with_store s' q.after) new left) (h p a) q.anew);
          same = q.same;
        }

    pub anew-again : {s s' : State} {st : Stack} {old new left : Trace} → Reruns code names s st old s' new left
        → {bs cs : List ℕ} → Mentions n bs new cs → (t : Store) → SameAt n bs s.store t → AnewAgain s' (with_store s t) st old new left cs
    anew-again (Reruns.over e) Mentions.end t h = record { after = t; anew = Reruns.over e; same = h }
    anew-again (Reruns.quiet e f) (Mentions.step m) t h = let q = anew-again f m t h in record { after = q.after; anew = Reruns.quiet e q.anew; same = q.same }
    anew-again {s} (Reruns.takes_alloc e w f) {bs} (Mentions.step (Mentions.alloc {b = b} {key = key} a m)) t h =
        let q = anew-again f m (cleared code t (Core b) key) (cleared-same code n bs b key s.store t h) in record { after = q.after; anew = Reruns.takes_alloc e w q.anew; same = q.same }
    anew-again {s} (Reruns.makes e w f) {bs} (Mentions.step (Mentions.alloc {b = b} {key = key} a m)) t h =
        let q = anew-again f m (cleared code t (Core b) key) (cleared-same code n bs b key s.store t h) in record { after = q.after; anew = Reruns.makes e w q.anew; same = q.same }
    anew-again {s} (Reruns.writes {p = p} {value = w} e f) {bs} (Mentions.step (Mentions.write a b m)) t h =
        let q = anew-again f m (stored t p w) (stored-same n bs s.store t p w h) in record { after = q.after; anew = Reruns.writes e q.anew; same = q.same }
    anew-again {s} {s'} {st} {old} (Reruns.takes_read {p = p} {u = u} {v = v} {args = args} {inside' = i'} {new = l'} {left = left} e w g f) (Mentions.step (Mentions.read a b c m1 m2)) t h =
        let q1 = mend-again g a m1 t h in
        let q2 = anew-again f m2 q1.after q1.same in
        let z : Reruns code names (with_store s t) st old (with_store s' q2.after) (Stepped (WasRead p (t p) u v args i' l')) left = Reruns.takes_read e w q1.mend q2.anew in
        record { after = q2.after; anew = subst (λ w. Reruns code names (with_store s t) st old (with_store s' q2.after) (Stepped (WasRead p w u v args i' l')) left) (sym (h p a)) z; same = q2.same }
    anew-again {s} {s'} {st} {old} (Reruns.reads {t = s1} {p = p} {u = u} {v = v} {args = args} {between =
        between} {inside' = i'} {new = l'} {left = left} e w g f) (Mentions.step (Mentions.read a b c m1 m2)) t h =
        let q1 = anew-again g m1 t h in
        let q2 = anew-again f m2 q1.after q1.same in
        let y : Reruns code names (works (with_store s t)) (resumed code u v args (t p)) old (with_store s1 q1.after) i' between =
        subst (λ w. Reruns code names (works (with_store s t)) (resumed code u v args w) old (with_store s1 q1.after) i' between) (h p a) q1.anew in
        let z : Reruns code names (with_store s t) st old (with_store s' q2.after) (Stepped (WasRead p (t p) u v args i' l')) left = Reruns.reads e w y q2.anew in
        record { after = q2.after; anew = subst (λ w. Reruns code names (with_store s t) st old (with_store s' q2.after) (Stepped (WasRead p w u v args i' l')) left) (sym (h p a)) z; same = q2.same }
