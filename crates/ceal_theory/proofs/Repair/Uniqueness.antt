-- Two traces of one call that are honest on the same inputs are one up to the numbers of their blocks.
use Rattle.std.proofs.Common.{◌≡◌, ℕ, true, List, [], ◌∷◌, ◌++◌, length, append_assoc, append-nil, ap, ◌∙◌}
use Rattle.ceal_base.specs.Block.{Block}
use Rattle.ceal_base.specs.Fitting.{inputs_fit}
use Rattle.ceal_base.specs.Trace.{Trace, blocks_of, steps_of}
use Rattle.ceal_base.specs.declared.word.BlockId.{BlockId}
use Rattle.ceal_base.specs.declared.word.BlockId.TheVariants.{Core}
use Rattle.ceal_base.specs.declared.word.Word.{Word}
use Rattle.ceal_code.proofs.Alike.AlikeSteps.{place-wider, word-wider, words-wider, key-wider, variables-wider}
use Rattle.ceal_code.proofs.Alike.AlikeSteps.{stack-wider, trace-wider, steps-alike, set-alike, words_after_read-alike}
use Rattle.ceal_code.proofs.Alike.AlikeSteps.{pointer-alike, made-alike, next-alike}
use Rattle.ceal_code.proofs.Alike.AlikeStores.{cleared-alike, stored-alike, plain-with}
use Rattle.ceal_code.proofs.Replay.DeterminedRun.{cores-append}
use Rattle.ceal_code.proofs.TypedCode.FittingWords.{args-known}
use Rattle.ceal_code.proofs.Alike.BlockPairs.{within-trans, one-within, more-pair, tied-with, zip-one}
use Rattle.ceal_code.proofs.Replay.ReplayedCall.{begin-self, bases-self, input-after, started-alike}
use Rattle.ceal_code.specs.Alike.{Pairs, Tied, IdAlike, WordAlike, StackAlike, ActAlike, PlainAlike, StoreAlike, TraceAlike, Within, OneToOne, zipped}
use Rattle.ceal_code.specs.Fitting.{Fits}
use Rattle.ceal_code.specs.Init.{made, pointer}
use Rattle.ceal_code.specs.Program.{Code}
use Rattle.ceal_code.specs.Replay.{Yields, Store, Honest, core_numbers, input_plain, plain_of, Replays, IsHonest}
use Rattle.ceal_code.specs.Step.{Stack, Run, Act, next}
use Rattle.ceal_code.specs.Value.{Plain, set}
use Rattle.ceal_theory.proofs.Repair.YieldsByStep.{yields-told}
use Rattle.ceal_theory.specs.Known.{Told}

-- the pairs of blocks of items and of what follows them
both-lists : (is ls : List BlockId) (bs : List ℕ) → core_numbers (is ++ ls) ++ bs ≡ core_numbers is ++ (core_numbers ls ++ bs)
both-lists is ls bs = ap (λ ns. ns ++ bs) (cores-append is ls) ∙ append_assoc (core_numbers is) (core_numbers ls) bs

module _ (code : Code) (x y : Plain) (big : Pairs) (one : OneToOne big) where
  -- what a walk of both traces, from pairs ps, leads to
  pub record Joined (ps : Pairs) (l m : Trace) (s' t' : Store) (bs cs : List ℕ) : Type 0 where
    pub after : Pairs
    pub wider : Within ps after
    pub within : Within after big
    pub plain : PlainAlike code.structs after x y
    pub trace : TraceAlike after l m
    pub store : StoreAlike after s' t'
    pub rest : Within (zipped bs cs) big

  nexts : (ps : Pairs) → Within ps big → PlainAlike code.structs ps x y → {st st' : Stack} → StackAlike ps st st' → ActAlike ps (next code x st) (next code y st')
  nexts ps w pl k = next-alike ps (one-within ps big w one) code x y pl k

  pub joined : {a : Act} {l : Trace} → Told code x a l → (ps : Pairs) → Within ps big → PlainAlike code.structs ps x y
      → {a' : Act} → ActAlike ps a a' → {m : Trace} → Told code y a' m
      → {s s' t t' : Store} → StoreAlike ps s t → Honest code s l s' → Honest code t m t'
      → (bs cs : List ℕ) → Within (zipped (core_numbers (blocks_of l) ++ bs) (core_numbers (blocks_of m) ++ cs)) big
      → Joined ps l m s' t' bs cs
  joined Told.over ps w pl ActAlike.over Told.over st Honest.end Honest.end bs cs z =
      record { after = ps; wider = λ b c t. t; within = w; plain = pl; trace = TraceAlike.nothing; store = st; rest = z }
  joined (Told.quiet r) ps w pl (ActAlike.quiet k) (Told.quiet r') st (Honest.step h) (Honest.step h') bs cs z =
      let q = joined r ps w pl (nexts ps w pl k) r' st h h' bs cs z in
      record { after = q.after; wider = q.wider; within = q.within; plain = q.plain; trace = TraceAlike.stepped q.trace; store = q.store; rest = q.rest }
  joined (Told.makes {key = key} {v = v} {u = u} {i = i} {env = env} {below = below} {b = b} {rest =
      rest} e r) ps w pl (ActAlike.makes {k' = key'} {env' = env'} {st' = below'} kk kv ks)
      (Told.makes {b = c} {rest = rest'} e' r')
      {s} {s'} {t} {t'} st (Honest.step (Honest.alloc h)) (Honest.step (Honest.alloc h')) bs cs z =
      let qs : Pairs = record { left = b; right = c } ∷ ps in
      let more : Within ps qs = more-pair (record { left = b; right = c }) ps in
      let w' : Within qs big = tied-with b c ps big w (z b c Tied.here) in
      let o' = one-within qs big w' one in
      let pl' : PlainAlike code.structs qs x y = plain-with code.structs b c ps x y (made code x key) (made code y key') pl e e' (made-alike ps (one-within ps big w one) code x y pl kk) in
      let ks' : StackAlike qs (Run u i (set env v (pointer key (Core b))) below) (Run u i (set env' v (pointer key' (Core c))) below') =
      StackAlike.run (set-alike qs (variables-wider ps qs more kv) v (pointer-alike qs (key-wider ps qs more kk) (IdAlike.core Tied.here))) (stack-wider ps qs more ks) in
      let q = joined r qs w' pl' (nexts qs w' pl' ks') r' (cleared-alike code b c ps o' kk s t st) h h' bs cs (λ d g i. z d g (Tied.there i)) in
      record {
        after = q.after;
        wider = within-trans ps qs q.after more q.wider;
        within = q.within;
        plain = q.plain;
        trace = TraceAlike.stepped (TraceAlike.allocated (IdAlike.core (q.wider b c Tied.here)) (key-wider ps q.after (within-trans ps qs q.after more q.wider) kk) q.trace);
        store = q.store;
        rest = q.rest;
      }
  joined (Told.writes {p = p} {value = v} r) ps w pl (ActAlike.writes {q = p'} {w = v'} kp kv ks)
      (Told.writes r') {s} {s'} {t} {t'} st (Honest.step (Honest.write h)) (Honest.step (Honest.write h')) bs cs z =
      let o = one-within ps big w one in
      let q = joined r ps w pl (nexts ps w pl ks) r' (stored-alike ps o s t p p' v v' st kp kv) h h' bs cs z in
      record {
        after = q.after;
        wider = q.wider;
        within = q.within;
        plain = q.plain;
        trace = TraceAlike.stepped (TraceAlike.wrote (place-wider ps q.after q.wider kp) (word-wider ps q.after q.wider kv) q.trace);
        store = q.store;
        rest = q.rest;
      }
  joined (Told.reads {below = below} {p = p} {u = u} {v = n} {args = args} {value = v} {inside = i} {rest =
      l} r1 r2) ps w pl (ActAlike.reads {q = p'} {ws = args'} {st' = below'} kp ka ks)
      (Told.reads {value = v'} {inside = j} {rest = m} r1' r2')
      {s} {s'} {t} {t'} st (Honest.step (Honest.read e h1 h2)) (Honest.step (Honest.read e' h1' h2')) bs cs z =
      let kv : WordAlike ps v v' = rw (e, e') at (st p p' kp) in
      let z' : Within (zipped (core_numbers (blocks_of i) ++ (core_numbers (blocks_of l) ++ bs)) (core_numbers (blocks_of j) ++ (core_numbers (blocks_of m) ++ cs))) big =
      rw (both-lists (blocks_of i) (blocks_of l) bs, both-lists (blocks_of j) (blocks_of m) cs) at z in
      let q1 = joined r1 ps w pl (nexts ps w pl (words_after_read-alike ps code u.0 n ka kv StackAlike.empty)) r1' st h1 h1' (core_numbers (blocks_of l) ++ bs) (core_numbers (blocks_of m) ++ cs) z' in
      let q2 = joined r2 q1.after q1.within q1.plain (nexts q1.after q1.within q1.plain (stack-wider ps q1.after q1.wider ks)) r2' q1.store h2 h2' bs cs q1.rest in
      let both = within-trans ps q1.after q2.after q1.wider q2.wider in
      record {
        after = q2.after;
        wider = both;
        within = q2.within;
        plain = q2.plain;
        trace = TraceAlike.stepped (TraceAlike.was_read (place-wider ps q2.after both kp) (word-wider ps q2.after both kv) (words-wider ps q2.after both ka)
            (trace-wider q1.after q2.after q2.wider q1.trace) q2.trace);
        store = q2.store;
        rest = q2.rest;
      }

-- the plain words of two traces on the same inputs agree in the inputs
pub inputs-alike : (code : Code) (inputs : List Block) → inputs_fit code.structs inputs ≡ true → {z w : Plain} {st st' : Stack} {l m : Trace} → Yields code z st l → Yields code w st' m → (ps : Pairs)
    → ((b c : ℕ) → Tied b c ps → ⊥) → PlainAlike code.structs ps (plain_of code inputs l) (plain_of code inputs m)
unfolding plain_of
inputs-alike code inputs fit r r' ps none b c (IdAlike.input {i = i}) =
    rw (input-after code r (input_plain code inputs) i, input-after code r' (input_plain code inputs) i) (begin-self code inputs ps fit i)
inputs-alike code inputs fit r r' ps none b c (IdAlike.core {b = d} {c = e} t) = absurd (none d e t)

module _ (code : Code) (inputs : List Block) (f : ℕ) (args : List Word) (fits : Fits code inputs f args)
    (l m : Trace) (r : Replays code inputs f args l) (r' : Replays code inputs f args m) (h : IsHonest code inputs l) (h' : IsHonest code inputs m) where
  pub both : Joined code (plain_of code inputs l) (plain_of code inputs m)
      (zipped (core_numbers (blocks_of l)) (core_numbers (blocks_of m)))
      (zip-one (core_numbers (blocks_of l)) (core_numbers
      (blocks_of m)) r.distinct r'.distinct) [] l m h.after h'.after [] []
  both =
      let o = zip-one (core_numbers (blocks_of l)) (core_numbers (blocks_of m)) r.distinct r'.distinct in
      let pl = inputs-alike code inputs fits.blocks r.yields r'.yields [] (λ b c t. elim t [ ]) in
      let none : Within [] (zipped (core_numbers (blocks_of l)) (core_numbers (blocks_of m))) = λ b c t. elim t [ ] in
      joined code (plain_of code inputs l) (plain_of code inputs m) (zipped (core_numbers (blocks_of l)) (core_numbers (blocks_of m))) o
      (yields-told code (plain_of code inputs l) r.yields) [] none pl
      (next-alike [] (one-within [] (zipped (core_numbers (blocks_of l)) (core_numbers (blocks_of m))) none o) code (plain_of code inputs l) (plain_of code inputs m) pl
      (started-alike code (length inputs) [] f args (args-known code inputs f args fits)))
      (yields-told code (plain_of code inputs m) r'.yields) (bases-self code inputs [] fits.blocks) h.walk h'.walk [] []
      (rw (append-nil (core_numbers (blocks_of l)), append-nil (core_numbers (blocks_of m))) (λ b c t. t))

  -- the i-th block of the one stands for the i-th block of the other
  pub same-traces : TraceAlike (zipped (core_numbers (blocks_of l)) (core_numbers (blocks_of m))) l m
  same-traces = trace-wider both.after (zipped (core_numbers (blocks_of l)) (core_numbers (blocks_of m))) both.within both.trace

  pub same-steps : steps_of l ≡ steps_of m
  same-steps = steps-alike both.trace
