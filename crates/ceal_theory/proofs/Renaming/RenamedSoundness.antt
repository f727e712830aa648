-- A repair that is another one with its core blocks renamed holds, too.
use Rattle.std.proofs.Common.{ℕ, List, length, refl}
use Rattle.ceal_base.specs.Block.{Block}
use Rattle.ceal_base.specs.Trace.{Trace}
use Rattle.ceal_base.specs.declared.word.Word.{Word}
use Rattle.ceal_code.proofs.Alike.AlikeSteps.{next-alike}
use Rattle.ceal_code.proofs.TypedCode.FittingWords.{args-known}
use Rattle.ceal_code.proofs.Replay.ReplayedCall.{started-alike}
use Rattle.ceal_code.specs.Alike.{Pairs, Tied, IdAlike, TraceAlike, OneToOne}
use Rattle.ceal_code.specs.Fitting.{Fits}
use Rattle.ceal_code.specs.Program.{Code}
use Rattle.ceal_code.specs.Replay.{In}
use Rattle.ceal_code.specs.Step.{started}
use Rattle.ceal_code.specs.Value.{Plain}
use Rattle.ceal_theory.proofs.Renaming.RenamedTrace.{id-known, word-known, words-known, key-known, told-yields, told-renamed, distinct-renamed, MadeIn as Made_core}
use Rattle.ceal_theory.proofs.Repair.YieldsByStep.{yields-told}
use Rattle.ceal_theory.specs.Repair.{Single}
use Rattle.ceal_theory.specs.SliceLaws.{MadeIn, StandsFor}
use Rattle.ceal_theory.specs.Slices.{Repair, with_inputs, Uses, RepairHolds, AlikeRepairs}

module _ (ps : Pairs) (one : OneToOne ps) (n : ℕ) (bs cs : List ℕ) (listed : (b : ℕ) → In b bs → (c : ℕ) × Tied b c ps × In c cs) where
  uses-alike : {l m : Trace} → TraceAlike ps l m → Uses n bs l → Uses n cs m
  uses-alike TraceAlike.nothing u = u
  uses-alike (TraceAlike.stepped h) u = uses-alike h u
  uses-alike (TraceAlike.allocated b k h) u = (id-known ps one n bs cs listed b u.0, key-known ps one n bs cs listed k u.1, uses-alike h u.2)
  uses-alike (TraceAlike.wrote p w h) u = (id-known ps one n bs cs listed p.block u.0, word-known ps one n bs cs listed w u.1, uses-alike h u.2)
  uses-alike (TraceAlike.was_read p w vs i h) u = (
    id-known ps one n bs cs listed p.block u.0,
    word-known ps one n bs cs listed w u.1,
    words-known ps one n bs cs listed vs u.2,
    uses-alike i u.3,
    uses-alike h u.4,
  )

-- blocks of items that stand for core blocks are core blocks
made-core : (code : Code) (y : Plain) (ps : Pairs) (n : ℕ) (bs : List ℕ) (x : Plain) {l m : Trace} → TraceAlike ps l m
    → Rattle.ceal_theory.proofs.Repair.RepairInvariant.Pieces code x x l → MadeIn code y m → Made_core code y m
made-core code y ps n bs x TraceAlike.nothing p h = tt
made-core code y ps n bs x (TraceAlike.stepped t) p h = made-core code y ps n bs x t p h
made-core code y ps n bs x (TraceAlike.allocated (IdAlike.core i) k t) p h = (h.0, made-core code y ps n bs x t p.1 h.1)
made-core code y ps n bs x (TraceAlike.allocated IdAlike.input k t) p h = absurd p
made-core code y ps n bs x (TraceAlike.wrote q w t) p h = made-core code y ps n bs x t p h
made-core code y ps n bs x (TraceAlike.was_read q w vs i t) p h = (made-core code y ps n bs x i p.1 h.0, made-core code y ps n bs x t p.2 h.1)

module _ {names : ℕ → ℕ} (code : Code) (inputs : List Block) (f : ℕ) (args : List Word)
    (fits : Fits code inputs f args) (r : Repair) (h : RepairHolds code names inputs f args r) (names' : ℕ → ℕ)
    (single' : Single names') (ps : Pairs) (q : Repair) (a : AlikeRepairs code names names' inputs ps r q)
    (t : StandsFor code names' inputs ps h.blocks q) where
  pub sound-renamed : RepairHolds code names' inputs f args q
  sound-renamed =
      let x = with_inputs code inputs r.known in
      let y = with_inputs code inputs q.known in
      let p = Rattle.ceal_theory.proofs.Store.Mentions.uses-pieces code (length inputs) h.blocks x x h.holds (λ b block e. e) h.yields h.uses in
      record {
        yields = told-yields code y
            (told-renamed ps a.one code x y a.known (yields-told code x h.yields)
            (next-alike ps a.one code x y a.known (started-alike code (length inputs) ps f args
            (args-known code inputs f args fits))) a.items
            (made-core code y ps (length inputs) h.blocks x a.items p t.made')) (started code f args) refl;
        distinct = distinct-renamed ps a.one a.items h.distinct;
        blocks = t.others;
        all = t.known;
        holds = t.holds;
        uses = uses-alike ps a.one (length inputs) h.blocks t.others t.listed a.items h.uses;
        single = single';
        free = t.free;
      }
