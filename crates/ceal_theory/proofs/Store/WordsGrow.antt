-- The plain words of a repair only grow.
use Rattle.std.proofs.Common.{◌≡◌, ℕ, ◌+◌, Bool, true, false, ◌==◌, if◌then◌else◌, Some, None, List, refl, arith}
use Rattle.ceal_base.specs.Block.{Block}
use Rattle.ceal_base.specs.Operators.{same_block}
use Rattle.ceal_base.specs.Trace.{Trace, Nothing, Stepped, Allocated, Wrote, WasRead}
use Rattle.ceal_base.specs.declared.forest.UnitId.{UnitId}
use Rattle.ceal_base.specs.declared.word.BlockId.{BlockId}
use Rattle.ceal_base.specs.declared.word.BlockId.TheVariants.{Input, Core}
use Rattle.ceal_base.specs.declared.word.Place.{Place}
use Rattle.ceal_base.specs.declared.word.Word.{Word}
use Rattle.ceal_code.proofs.Words.SameIsEqual.{nat-same, block-same, block-refl}
use Rattle.ceal_code.specs.Init.{made}
use Rattle.ceal_code.specs.Known.{Subset}
use Rattle.ceal_code.specs.Program.{Code}
use Rattle.ceal_code.specs.Replay.{learnt, there, Mentions}
use Rattle.ceal_code.specs.Step.{Stack}
use Rattle.ceal_code.specs.Value.{Plain}
use Rattle.ceal_theory.proofs.Repair.RepairInvariant.{Extends, extends-trans, FreeFrom, Pieces}
use Rattle.ceal_theory.specs.Repair.{own, Single, State, Fix, Mend, Reruns}

learnt-other : (x : Plain) (n : ℕ) (c : BlockId) (new block : Block) (b : Bool) → same_block c (Core n) ≡ b → x (Core n) ≡ None → x c ≡ Some block
    → (if b then Some new else x c) ≡ Some block
learnt-other x n c new block false s h e = e
learnt-other x n c new block true s h e =
    let e' : x (Core n) ≡ Some block = rw (block-same c (Core n) s) at e in
    absurd (cc (e', h))

pub learnt-extends : (names : ℕ → ℕ) (x : Plain) (n : ℕ) (new : Block) → FreeFrom names x n → Extends x (learnt x (Core (names n)) new)
unfolding learnt
learnt-extends names x n new h c block e = learnt-other x (names n) c new block (same_block c (Core (names n))) refl (h n (omega arith)) e

pub learnt-here : (x : Plain) (b : BlockId) (new : Block) → learnt x b new b ≡ Some new
unfolding learnt
learnt-here x b new = rw (block-refl b)

pub learnt-free : (names : ℕ → ℕ) → Single names → (x : Plain) (n : ℕ) (new : Block) → FreeFrom names x n → FreeFrom names (learnt x (Core (names n)) new) (n + 1)
unfolding learnt
learnt-free names single x n new h k l = rw (apart (names k == names n) refl) (h k (omega (arith, l)))
  where
    apart : (b : Bool) → (names k == names n) ≡ b → (names k == names n) ≡ false
    apart false e = e
    apart true e = absurd (omega (arith, single k n (nat-same (names k) (names n) e), l))

pub own-single : Single own
own-single j k e = e

pub record Grown (names : ℕ → ℕ) (s s' : State) : Type 0 where
  pub plain : Extends s.plain s'.plain
  pub free : FreeFrom names s'.plain s'.number

grown-trans : (names : ℕ → ℕ) (s t s' : State) → Grown names s t → Grown names t s' → Grown names s s'
grown-trans names s t s' g h = record { plain = extends-trans s.plain t.plain s'.plain g.plain h.plain; free = h.free }

mutual
  pub fix-grows : {code : Code} {names : ℕ → ℕ} {s s' : State} {old new : Trace} → Single names → Fix code names s old s' new → FreeFrom names s.plain s.number → Grown names s s'
  fix-grows single Fix.end h = record { plain = λ b block e. e; free = h }
  fix-grows single (Fix.step f) h = fix-grows single f h
  fix-grows single (Fix.alloc f) h = let g = fix-grows single f h in record { plain = g.plain; free = g.free }
  fix-grows single (Fix.write f) h = let g = fix-grows single f h in record { plain = g.plain; free = g.free }
  fix-grows {code} {names} {s} {s'} single (Fix.read {t = t} m f) h = let g = mend-grows single m h in grown-trans names s t s' g (fix-grows single f g.free)

  pub mend-grows : {code : Code} {names : ℕ → ℕ} {s t : State} {p : Place} {u : UnitId} {v : ℕ} {args : List Word} {value : Word} {old new : Trace}
      → Single names → Mend code names s p u v args value old t new → FreeFrom names s.plain s.number → Grown names s t
  mend-grows single (Mend.kept e f) h = fix-grows single f h
  mend-grows single (Mend.stale e a) h = anew-grows single a h

  pub anew-grows : {code : Code} {names : ℕ → ℕ} {s s' : State} {st : Stack} {old new left : Trace} → Single names
      → Reruns code names s st old s' new left → FreeFrom names s.plain s.number → Grown names s s'
  anew-grows single (Reruns.over e) h = record { plain = λ b block e. e; free = h }
  anew-grows single (Reruns.quiet e a) h = let g = anew-grows single a h in record { plain = g.plain; free = g.free }
  anew-grows single (Reruns.takes_alloc e t a) h = let g = anew-grows single a h in record { plain = g.plain; free = g.free }
  anew-grows {code} {names} {s} {s'} single (Reruns.makes {key = key} e t a) h =
      let block = made code s.plain key in
      let g = anew-grows single a (learnt-free names single s.plain s.number block h) in
      record { plain = extends-trans s.plain (learnt s.plain (Core (names s.number)) block) s'.plain (learnt-extends names s.plain s.number block h) g.plain; free = g.free }
  anew-grows single (Reruns.writes e a) h = let g = anew-grows single a h in record { plain = g.plain; free = g.free }
  anew-grows {code} {names} {s} {s'} single (Reruns.takes_read {t = u} e t m a) h =
      let g = mend-grows single m h in let k = anew-grows single a g.free in
      record { plain = extends-trans s.plain u.plain s'.plain g.plain k.plain; free = k.free }
  anew-grows {code} {names} {s} {s'} single (Reruns.reads {t = u} e t m a) h =
      let g = anew-grows single m h in let k = anew-grows single a g.free in
      record { plain = extends-trans s.plain u.plain s'.plain g.plain k.plain; free = k.free }

pub mentions-subset : {inputs : ℕ} {bs cs : List ℕ} {l : Trace} → Mentions inputs bs l cs → Subset bs cs
mentions-subset Mentions.end b h = h
mentions-subset (Mentions.step m) b h = mentions-subset m b h
mentions-subset (Mentions.alloc k m) b h = mentions-subset m b (there h)
mentions-subset (Mentions.write k l m) b h = mentions-subset m b h
mentions-subset (Mentions.read k l j m n) b h = mentions-subset n b (mentions-subset m b h)

pub pieces-more : (code : Code) (x x' y : Plain) → Extends x x' → (l : Trace) → Pieces code x y l → Pieces code x' y l
pieces-more code x x' y h Nothing p = p
pieces-more code x x' y h (Stepped rest) p = pieces-more code x x' y h rest p
pieces-more code x x' y h (Allocated (Core b) key rest) p = (h (Core b) (made code y key) p.0, pieces-more code x x' y h rest p.1)
pieces-more code x x' y h (Allocated (Input i) key rest) p = absurd p
pieces-more code x x' y h (Wrote q value rest) p = pieces-more code x x' y h rest p
pieces-more code x x' y h (WasRead q value u v args inside rest) p =
    (p.0, pieces-more code x x' y h inside p.1, pieces-more code x x' y h rest p.2)
