-- Change propagation begins from a kept run.
use Rattle.std.proofs.Common.{◌≡◌, inl, ℕ, List, [], ◌∷◌, reverse, refl, sym, ap, ◌∙◌, arith}
use Rattle.std.proofs.lemmas.List.{reverse-reverse}
use Rattle.ceal_base.specs.Block.{Block}
use Rattle.ceal_base.specs.Trace.{Trace, blocks_of}
use Rattle.ceal_base.specs.declared.word.Word.{Word}
use Rattle.ceal_code.specs.Program.{Code}
use Rattle.ceal_code.specs.Replay.{core_numbers}
use Rattle.ceal_heap.specs.Heap.{Contents, next}
use Rattle.ceal_repair.proofs.Propagation.Departing.{departs-not}
use Rattle.ceal_repair.proofs.Propagation.NewBlockNumbers.{GoesOn, goes-on, begins-sound, is-origin}
use Rattle.ceal_repair.proofs.Runs.FewNumbers.{trace-there, trace-only}
use Rattle.ceal_repair.specs.Answers.{IsKeptRun}
use Rattle.ceal_repair.specs.Propagation.{HasCome}
use Rattle.ceal_repair.specs.Repairs.{code_of, inputs_of}
use Rattle.ceal_repair.specs.Turning.{StandsFor, TurnedSoFar, IsOrigin, since_begun}
use Rattle.ceal_code.specs.Piles.{Pile}
use Rattle.ceal_repair.specs.Frames.{frames_in}
use Rattle.ceal_repair.specs.declared.frame.Frame.{Frame as CodeFrame}
use Rattle.ceal_repair.specs.declared.frame.Frame.TheVariants.{Begun as CodeBegun, Taken as CodeTaken, Kept as CodeKept}
use Rattle.ceal_repair.specs.declared.repair.Repair.{Repair}
use Rattle.ceal_repair.specs.declared.running.Running.{Running}
use Rattle.ceal_repair.specs.declared.tables.Tables.{Tables}
use Rattle.ceal_theory.specs.SliceLaws.{Turns}
use Rattle.ceal_theory.specs.Slices.{beginning}

-- ---- no turn was made yet

module _ (code : Code) (inputs : List Block) (f : ℕ) (args : List Word) (fuel : ℕ) (l : Trace) (run : Running) (kept : IsKeptRun code inputs f args fuel l run) where
  called : IsOrigin code inputs f args (since_begun code inputs l (next run.heap))
  called = is-origin code inputs f args l kept.fits kept.replays (next run.heap)

  abbrev some_names : GoesOn [] (core_numbers (blocks_of l))
  some_names = goes-on (core_numbers (blocks_of l)) [] (λ b. omega arith) (λ b i. absurd (elim i [ ]))

  stands : StandsFor code inputs f args (beginning code inputs l 0) (record run { spent = 0 })
  stands = record {
    kept = kept.stands.kept;
    nests = kept.stands.nests;
    items = kept.stands.items;
    known = λ b. sym (kept.stands.words b);
    blocks = kept.stands.blocks;
    spent = refl;
    names = some_names.names;
    sound = begins-sound code inputs f args l kept.fits kept.replays some_names.names some_names.single some_names.apart;
  }

  so_far : TurnedSoFar code inputs f args (since_begun code inputs l (next run.heap)) (record run { spent = 0 })
  so_far = record {
    repair = beginning code inputs l 0;
    stands = stands;
    chosen = [];
    number = refl;
    given = record {
      distinct = λ b. omega arith;
      apart = λ b i. absurd (elim i [ ]);
      there = λ b i. absurd (elim i [ ]);
      still = trace-there code inputs f args fuel l run kept;
      only = λ b some. inl (trace-only code inputs f args fuel l run kept b some);
      few = inl (omega arith);
    };
    history = λ names go. Turns.none;
  }

  pub has-come : HasCome code inputs f args (since_begun code inputs l (next run.heap)) run (record run { spent = 0 })
  has-come = record {
    called = called;
    items = kept.stands.items;
    so_far = so_far;
    front = λ front back e agrees. (back, e);
    departs = departs-not run.tables;
    unchanged = λ h. (refl, refl);
  }

pub same-running : (a b : Running) → a.tables ≡ b.tables → a.heap ≡ b.heap → a.spent ≡ b.spent → a ≡ b
same-running a b t h s =
    ap (λ (t : Tables). record { tables = t; heap = a.heap; spent = a.spent }) t
    ∙ (ap (λ (h : Contents). record { tables = b.tables; heap = h; spent = a.spent }) h
    ∙ ap (λ (n : ℕ). record { tables = b.tables; heap = b.heap; spent = n }) s)

-- a repair that begins on it
pub has-come-in : (code : Code) (inputs : List Block) (f : ℕ) (args : List Word) (fuel : ℕ) (l : Trace) (run : Running) → IsKeptRun code inputs f args fuel l run
    → (r : Repair) → code_of r ≡ code → inputs_of r ≡ inputs → r.running.now.tables ≡ run.tables → r.running.now.heap ≡ run.heap → r.running.now.spent ≡ 0
    → HasCome (code_of r) (inputs_of r) f args (since_begun code inputs l (next run.heap)) run r.running.now
has-come-in code inputs f args fuel l run kept r same_code same_inputs tables heap spent =
    let same : r.running.now ≡ record run { spent = 0 } = same-running r.running.now (record run { spent = 0 }) tables heap spent in
    rw (same_code, same_inputs, same) (has-come code inputs f args fuel l run kept)

-- no frame waits
none-in : (aside : Pile) (fs : List CodeFrame) → frames_in aside fs ≡ [] → fs ≡ []
none-in aside [] e = refl
none-in aside (CodeBegun floor read ∷ fs) e = absurd (cc)
none-in aside (CodeTaken floor limit ∷ fs) e = absurd (cc)
none-in aside (CodeKept until ∷ fs) e = absurd (cc)

pub idle-first : (aside : Pile) (fs : List CodeFrame) → frames_in aside (reverse fs) ≡ [] → fs ≡ []
idle-first aside fs e = sym (reverse-reverse fs) ∙ ap reverse (none-in aside (reverse fs) e)
