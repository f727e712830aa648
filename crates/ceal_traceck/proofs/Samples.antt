-- Records of INC, judged: unit 0 reads its first parameter, and unit 1 writes one more than the value to the second.
use Rattle.std.proofs.Common.{◌≡◌, ℕ, pos, List, [], ◌∷◌, refl, ap, arith, lit<}
use Rattle.ceal_base.specs.Block.{Block}
use Rattle.ceal_base.specs.Trace.{flat}
use Rattle.ceal_base.specs.declared.recorded.Record.{Record}
use Rattle.ceal_base.specs.declared.word.Word.{Word}
use Rattle.ceal_base.specs.declared.word.Word.TheVariants.{Num}
use Rattle.ceal_code.proofs.Replay.Increment.{inc, place, inputs, args, items}
use Rattle.ceal_code.specs.Replay.{Store, Yields, Honest, Mentions, bases, stored}
use Rattle.ceal_code.specs.Step.{first_word, stack_after_quiet, next, chosen, bound, woven}
use Rattle.ceal_code.specs.Valid.{valid, structs_ok, functions_ok, units_ok, unit_ok, is_prefix, kinds_ok, below}
use Rattle.ceal_code.specs.Valid.{all_forward, is_tree, reached, all_followers, all_true, paths_ok, with_params}
use Rattle.ceal_code.specs.Valid.{type_of, params_fit, others}
use Rattle.ceal_code.specs.Value.{expr_value, values, set, unset}
use Rattle.ceal_code.specs.declared.expr.CodeExpr.TheBlock.{hidden-the_row-CodeExpr-0, shape-the_row-CodeExpr-0}
use Rattle.ceal_traceck.specs.Verdicts.{CallFits, Replayed, IsHonestRecord, Means}
use Rattle.ceal_traceck.specs.declared.verdict.Verdict.TheVariants.{Yes, NotHonest, MemoryDiffers}

-- a record of the call where a is 4: what was read and written, and what a and b hold then
abbrev recorded : ℕ → ℕ → ℕ → Record
recorded read written after = record {
  inputs = inputs 4 0;
  function = 0;
  args = args;
  forest = flat (items read written);
  memory = record { inputs = inputs 4 after; made = [] };
}

fits : (read written after : ℕ) → CallFits inc (recorded read written after)
unfolding valid structs_ok functions_ok units_ok unit_ok is_prefix kinds_ok below all_forward is_tree reached
    all_followers all_true paths_ok with_params type_of params_fit others hidden-the_row-CodeExpr-0
    shape-the_row-CodeExpr-0 denote.Hole.Carrier.hidden
fits read written after = record { call = record { is_valid = refl; blocks = refl; words = refl }; shapes = refl }

replays : (after : ℕ) → Replayed inc (recorded 4 5 after) (items 4 5)
unfolding next stack_after_quiet chosen bound woven set unset expr_value values hidden-the_row-CodeExpr-0 shape-the_row-CodeExpr-0 denote.Hole.Carrier.hidden
replays after = record {
  items = refl;
  replays = record {
    yields = Yields.reads refl (Yields.writes refl (Yields.over refl)) (Yields.over refl);
    distinct = λ b. omega arith;
    known = [];
    mentions = Mentions.step (Mentions.read (lit< tt) tt (lit< tt, tt) (Mentions.step (Mentions.write (lit< tt) tt Mentions.end)) Mentions.end);
  };
}

honest : (after : ℕ) → IsHonestRecord inc (recorded 4 5 after) (items 4 5)
unfolding bases
honest after = record {
  after = stored (bases inc (inputs 4 0)) (place 1) (Num (pos 5));
  walk = Honest.step (Honest.read refl (Honest.step (Honest.write Honest.end)) Honest.end);
}

-- 4 was read and 5 written
accepted : Means inc (recorded 4 5 5) Yes
unfolding bases stored
accepted = (fits 4 5 5, (items 4 5, replays 5, honest 5, record { inputs = refl; made = refl }))

-- what b holds
abbrev of_b : List Block → Word
of_b (a ∷ b ∷ more) = first_word b.words
of_b _ = Num (pos 0)

-- the record says that b holds 6 then
differ : inputs 4 6 ≡ inputs 4 5 → ⊥
differ same = absurd (let no : Num (pos 6) ≡ Num (pos 5) = ap of_b same in cc)

other_memory : Means inc (recorded 4 5 6) MemoryDiffers
unfolding bases stored
other_memory = (fits 4 5 6, (items 4 5, replays 6, honest 6, λ same. differ same.inputs))

-- the record says that 3 was read where a holds 4, and 4 written
replays-three : Replayed inc (recorded 3 4 4) (items 3 4)
unfolding next stack_after_quiet chosen bound woven set unset expr_value values hidden-the_row-CodeExpr-0 shape-the_row-CodeExpr-0 denote.Hole.Carrier.hidden
replays-three = record {
  items = refl;
  replays = record {
    yields = Yields.reads refl (Yields.writes refl (Yields.over refl)) (Yields.over refl);
    distinct = λ b. omega arith;
    known = [];
    mentions = Mentions.step (Mentions.read (lit< tt) tt (lit< tt, tt) (Mentions.step (Mentions.write (lit< tt) tt Mentions.end)) Mentions.end);
  };
}

stale : {t : Store} → Honest inc (bases inc (inputs 4 0)) (items 3 4) t → ⊥
unfolding bases
stale (Honest.step (Honest.read same inside rest)) = absurd (cc)

not_honest : Means inc (recorded 3 4 4) NotHonest
not_honest = (fits 3 4 4, (items 3 4, replays-three, λ honest. stale honest.walk))
