-- What a part of a repair gives is yielded by the same stack, over the plain words at its end, and all that it mentions
-- is known then.
use Rattle.std.proofs.Common.{◌≡◌, ℕ, zero, suc, ◌+◌, List, sym, subst, arith}
use Rattle.ceal_base.specs.Trace.{Trace, WasRead}
use Rattle.ceal_base.specs.declared.forest.UnitId.{UnitId}
use Rattle.ceal_base.specs.declared.word.BlockId.{BlockId}
use Rattle.ceal_base.specs.declared.word.BlockId.TheVariants.{Core}
use Rattle.ceal_base.specs.declared.word.Place.{Place}
use Rattle.ceal_base.specs.declared.word.Word.{Word}
use Rattle.ceal_code.proofs.Words.StepLocality.{word-more, words-more, stack-more, set-known, words_after_read-known}
use Rattle.ceal_code.specs.Init.{pointer}
use Rattle.ceal_code.specs.Known.{Subset, KnownStack}
use Rattle.ceal_code.specs.Program.{Code}
use Rattle.ceal_code.specs.Replay.{Yields, KnownWord}
use Rattle.ceal_code.specs.Step.{Stack, Empty, Run, Quiet, Makes, Writes, Reads}
use Rattle.ceal_code.specs.Value.{Plain, set}
use Rattle.ceal_theory.proofs.Repair.RepairInvariant.{Extends, extends-trans, FreeFrom, Good, Pieces}
use Rattle.ceal_theory.proofs.Store.WordsGrow.{Grown, mentions-subset, pieces-more, anew-grows}
use Rattle.ceal_theory.proofs.Repair.RepairYields.{pointer-known, cleared-known, stored-known, step-y, anew-plays}
use Rattle.ceal_theory.specs.Repair.{Single, State, clears, puts, resumed, Fix, Mend}
use Rattle.ceal_theory.proofs.Store.Mentions.{uses-more, mentions-uses}
use Rattle.ceal_theory.specs.Slices.{Part, Uses}

-- a whole repair is a part with reads left over
pub record AsPart (code : Code) (names : ℕ → ℕ) (s : State) (l : Trace) (s' : State) (m : Trace) (j : ℕ) : Type 0 where
  pub reads : ℕ
  pub part : Part code names (suc reads) s l (suc j) s' m

mutual
  pub fix-part : {code : Code} {names : ℕ → ℕ} {s s' : State} {l m : Trace} → Fix code names s l s' m → (j : ℕ) → AsPart code names s l s' m j
  fix-part Fix.end j = record { reads = j; part = Part.end }
  fix-part (Fix.step f) j = let q = fix-part f j in record { reads = q.reads; part = Part.step q.part }
  fix-part (Fix.alloc f) j = let q = fix-part f j in record { reads = q.reads; part = Part.alloc q.part }
  fix-part (Fix.write f) j = let q = fix-part f j in record { reads = q.reads; part = Part.write q.part }
  fix-part (Fix.read m f) j = mend-part m f (fix-part f j)

  mend-part : {code : Code} {names : ℕ → ℕ} {s t s' : State} {p : Place} {value : Word} {u : UnitId} {v : ℕ} {args : List Word} {inside inside' rest rest' : Trace} {j : ℕ}
      → Mend code names s p u v args value inside t inside' → Fix code names t rest s' rest' → AsPart code names t rest s' rest' j
      → AsPart code names s (WasRead p value u v args inside rest) s' (WasRead p (s.store p) u v args inside' rest') j
  mend-part (Mend.kept e g) f q = let k = fix-part g q.reads in record { reads = k.reads; part = Part.kept e k.part q.part }
  mend-part (Mend.stale n a) f q = record { reads = suc q.reads; part = Part.stale n a q.part }

-- and one with reads left over is whole
pub part-fix : {code : Code} {names : ℕ → ℕ} {k j : ℕ} {s s' : State} {l m : Trace} → Part code names k s l (suc j) s' m → Fix code names s l s' m
part-fix Part.end = Fix.end
part-fix (Part.step f) = Fix.step (part-fix f)
part-fix (Part.alloc f) = Fix.alloc (part-fix f)
part-fix (Part.write f) = Fix.write (part-fix f)
part-fix (Part.kept {i = suc i} e g f) = Fix.read (Mend.kept e (part-fix g)) (part-fix f)
part-fix (Part.kept {i = zero} e g f) = elim f [ ]
part-fix (Part.stale {k = suc k} n a f) = Fix.read (Mend.stale n a) (part-fix f)
part-fix (Part.stale {k = zero} n a f) = elim f [ ]

-- more of them
abbrev pub beyond : ℕ → ℕ → ℕ
beyond zero k = k
beyond (suc n) k = suc (beyond n k)

pub beyond-sum : (n k : ℕ) → beyond n k ≡ n + k
beyond-sum zero k = omega arith
beyond-sum (suc n) k = omega (arith, beyond-sum n k)

grown-trans : {names : ℕ → ℕ} (s t s' : State) → Grown names s t → Grown names t s' → Grown names s s'
grown-trans s t s' g h = record { plain = extends-trans s.plain t.plain s'.plain g.plain h.plain; free = h.free }

pub part-grows : {code : Code} {names : ℕ → ℕ} {k j : ℕ} {s s' : State} {l m : Trace} → Single names → Part code names k s l j s' m → FreeFrom names s.plain s.number → Grown names s s'
part-grows z Part.stays h = record { plain = λ b block e. e; free = h }
part-grows z Part.end h = record { plain = λ b block e. e; free = h }
part-grows z (Part.step f) h = part-grows z f h
part-grows z (Part.alloc f) h = let g = part-grows z f h in record { plain = g.plain; free = g.free }
part-grows z (Part.write f) h = let g = part-grows z f h in record { plain = g.plain; free = g.free }
part-grows z (Part.kept {s = s} {t = t} {s' = s'} e g f) h = let q = part-grows z g h in grown-trans s t s' q (part-grows z f q.free)
part-grows z (Part.stale {s = s} {t = t} {s' = s'} n a f) h = let q = anew-grows z a h in grown-trans s t s' q (part-grows z f q.free)

module _ (code : Code) (names : ℕ → ℕ) (inputs : ℕ) where
  pub record Parted (y : Plain) (bs : List ℕ) (st : Stack) (new : Trace) (s' : State) : Type 0 where
    pub known : List ℕ
    pub sub : Subset bs known
    pub uses : Uses inputs known new
    pub yields : Yields code y st new
    pub good : Good names inputs known s'

  -- the old items' blocks are known, so that an allocation learns nothing
  pub good-again : (bs : List ℕ) (s : State) (b : BlockId) (key : _) → Good names inputs bs s → Good names inputs bs (clears code s b key)
  good-again bs s b key g = record { plain = g.plain; store = cleared-known code inputs bs s.store b key g.store; free = g.free }

  pub good-puts : (bs : List ℕ) (s : State) (p : Place) (w : Word) → Good names inputs bs s → KnownWord inputs bs w → Good names inputs bs (puts s p w)
  good-puts bs s p w g k = record { plain = g.plain; store = stored-known inputs bs s.store p w g.store k; free = g.free }

  module _ (single : Single names) (y : Plain) where
    pub part-plays : {k j : ℕ} {s s' : State} {old new : Trace} → Part code names k s old j s' new
        → Extends s'.plain y → (bs : List ℕ) → Good names inputs bs s
        → (st : Stack) → Yields code y st old → KnownStack inputs bs st → Pieces code s.plain y old → Uses inputs bs old
        → Parted y bs st new s'
    part-plays Part.stays ext bs g st r k h u = record { known = bs; sub = λ b i. i; uses = u; yields = r; good = g }
    part-plays Part.end ext bs g st (Yields.over e) k h u = record { known = bs; sub = λ b i. i; uses = u; yields = Yields.over e; good = g }
    part-plays {s = s} {s' = s'} (Part.step f) ext bs g st (Yields.quiet {after = after} e r) k h u =
        let x = extends-trans s.plain s'.plain y (part-grows single f g.free).plain ext in
        let q = part-plays f ext bs g after r (step-y code inputs y bs s.plain st (Quiet after) g.plain x k e) h u in
        record { known = q.known; sub = q.sub; uses = q.uses; yields = Yields.quiet e q.yields; good = q.good }
    part-plays {s = s} {s' = s'} (Part.step (Part.alloc f)) ext bs g st (Yields.makes {key = key} {v = v} {u = w} {i = i} {env = env} {below = below} {b = b} e m r) k h u =
        let x = extends-trans s.plain s'.plain y (part-grows single f g.free).plain ext in
        let a = step-y code inputs y bs s.plain st (Makes key v w i env below) g.plain x k e in
        let ks : KnownStack inputs bs (Run w i (set env v (pointer key (Core b))) below) =
        (set-known inputs bs env v (pointer key (Core b)) a.1 (pointer-known inputs bs key (Core b) u.0), a.2) in
        let q = part-plays f ext bs (good-again bs s (Core b) key g) (Run w i (set env v (pointer key (Core b))) below) r ks h.1 u.2 in
        record {
          known = q.known;
          sub = q.sub;
          uses = (
            q.sub b u.0,
            Rattle.ceal_code.proofs.Words.StepLocality.key-more inputs bs q.known q.sub key u.1,
            q.uses,
          );
          yields = Yields.makes e m q.yields;
          good = q.good;
        }
    part-plays {s = s} {s' = s'} (Part.step (Part.write f)) ext bs g st (Yields.writes {after = after} {p = p} {value = value} e r) k h u =
        let x = extends-trans s.plain s'.plain y (part-grows single f g.free).plain ext in
        let a = step-y code inputs y bs s.plain st (Writes p value after) g.plain x k e in
        let q = part-plays f ext bs (good-puts bs s p value g u.1) after r a.2 h u.2 in
        record {
          known = q.known;
          sub = q.sub;
          uses = (Rattle.ceal_code.proofs.Words.StepLocality.block-more inputs bs q.known q.sub p.block u.0, word-more inputs bs q.known q.sub value u.1, q.uses);
          yields = Yields.writes e q.yields;
          good = q.good;
        }
    part-plays {s = s} {s' = s'} (Part.step (Part.kept {t = t} {inside' = inside'} same f1 f2)) ext bs g st
        (Yields.reads {below = below} {p = p} {u = w} {v = v} {args = args} {value = value} {inside = inside} {rest =
        rest} e r1 r2) k h u =
        let g1 = part-grows single f1 g.free in
        let xt = extends-trans t.plain s'.plain y (part-grows single f2 g1.free).plain ext in
        let x = extends-trans s.plain t.plain y g1.plain xt in
        let a = step-y code inputs y bs s.plain st (Reads p w v args below) g.plain x k e in
        let q1 = part-plays f1 xt bs g (resumed code w v args value) r1 (words_after_read-known inputs bs code w.0 v args value Empty u.2 u.1 tt) h.1 u.3 in
        let q2 = part-plays f2 ext q1.known q1.good below r2 (stack-more inputs bs q1.known q1.sub below a.2)
        (pieces-more code s.plain t.plain y g1.plain rest h.2) (uses-more inputs bs q1.known q1.sub rest u.4) in
        let sub : Subset bs q2.known = λ b i. q2.sub b (q1.sub b i) in
        record {
          known = q2.known;
          sub = sub;
          uses = (
            Rattle.ceal_code.proofs.Words.StepLocality.block-more inputs bs q2.known sub p.block u.0,
            word-more inputs bs q2.known sub (s.store p) (g.store p),
            words-more inputs bs q2.known sub args u.2,
            uses-more inputs q1.known q2.known q2.sub inside' q1.uses,
            q2.uses,
          );
          yields = Yields.reads e (subst (λ z. Yields code y (resumed code w v args z) inside') (sym same) q1.yields) q2.yields;
          good = q2.good;
        }
    part-plays {s = s} {s' = s'} (Part.step (Part.stale {t = t} {inside' = inside'} apart n f)) ext bs g st
        (Yields.reads {below = below} {p = p} {u = w} {v = v} {args = args} {value = value} {inside = inside} {rest =
        rest} e r1 r2) k h u =
        let g1 = anew-grows single n g.free in
        let xt = extends-trans t.plain s'.plain y (part-grows single f g1.free).plain ext in
        let x = extends-trans s.plain t.plain y g1.plain xt in
        let a = step-y code inputs y bs s.plain st (Reads p w v args below) g.plain x k e in
        let q1 = anew-plays names single code inputs y n xt bs g (words_after_read-known inputs bs code w.0 v args (s.store p) Empty u.2 (g.store p) tt) h.1 in
        let sub1 : Subset bs q1.known = mentions-subset q1.mentions in
        let q2 = part-plays f ext q1.known q1.good below r2 (stack-more inputs bs q1.known sub1 below a.2)
        (pieces-more code s.plain t.plain y g1.plain rest h.2) (uses-more inputs bs q1.known sub1 rest u.4) in
        let sub : Subset bs q2.known = λ b i. q2.sub b (sub1 b i) in
        record {
          known = q2.known;
          sub = sub;
          uses = (
            Rattle.ceal_code.proofs.Words.StepLocality.block-more inputs bs q2.known sub p.block u.0,
            word-more inputs bs q2.known sub (s.store p) (g.store p),
            words-more inputs bs q2.known sub args u.2,
            mentions-uses inputs q1.mentions q2.known q2.sub,
            q2.uses,
          );
          yields = Yields.reads e q1.yields q2.yields;
          good = q2.good;
        }
    part-plays (Part.alloc f) ext bs g st r k h u = elim r [ ]
    part-plays (Part.write f) ext bs g st r k h u = elim r [ ]
    part-plays (Part.kept e f1 f2) ext bs g st r k h u = elim r [ ]
    part-plays (Part.stale n a f) ext bs g st r k h u = elim r [ ]
