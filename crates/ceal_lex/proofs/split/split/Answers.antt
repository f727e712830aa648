use Rattle.std.proofs.Common.{◌≡◌, ◌+◌, ◌∙◌, List, arith, drop, take, subst, sym, refl}
use Rattle.std.specs.Prelude.{ℕ, ◌==◌}
use Rattle.std.specs.List.{position_or_len}
use Rattle.std.proofs.lemmas.Bool.{false≢true}
use Rattle.std.proofs.lemmas.List.{take_rest}
use Rattle.ceal_lex.specs.Characters.{LINE_FEED}
use Rattle.ceal_lex.specs.Parts.{IsBeforeLine, IsMark}
use Rattle.ceal_lex.proofs.Marks.{NoneBefore, before_more, marked, none_left, none_more}
use Rattle.ceal_lex.proofs.split.split.Goals as goal

-- no line before this one is the mark, and this one is
pub returns-then-is_mark : goal.returns-then-is_mark
returns-then-is_mark c =
    let input = c.args.input.now in
    let start = c.loop-start.start in
    let n = c.line_length-length.result in
    let length_is : n ≡ position_or_len (λ b. b == LINE_FEED) (drop start input) =
    subst (λ (x : List ℕ). n ≡ position_or_len (λ b. b == LINE_FEED) x) (take_rest input start) c.line_length-length.ensures.first in
    let mark : IsMark (take n (drop start input)) =
    subst (λ (x : List ℕ). IsMark (take n x)) (take_rest input start) (c.is_mark.ensures.0 c.if-is_mark.true) in
    let parts = marked input start n c.loop-start-test.true c.loop-start.invariant.none (c.loop-start.invariant.before (omega (arith, c.loop-start-test.true))) length_is mark in
    record { parts = record { small = c.requires; parts = rw c.min-script.ensures parts } }

-- this line is not the mark, and no line before it is
pub loop-start-preserved : goal.loop-start-preserved
loop-start-preserved c =
    let input = c.args.input.now in
    let start = c.loop-start.start in
    let n = c.line_length-length.result in
    let length_is : n ≡ position_or_len (λ b. b == LINE_FEED) (drop start input) =
    subst (λ (x : List ℕ). n ≡ position_or_len (λ b. b == LINE_FEED) x) (take_rest input start) c.line_length-length.ensures.first in
    let other : IsMark (take n (drop start input)) → ⊥ =
    λ m. false≢true (sym c.if-is_mark.false ∙ c.is_mark.ensures.1 (subst (λ (x : List ℕ). IsMark (take n x)) (sym (take_rest input start)) m)) in
    let before = c.loop-start.invariant.before (omega (arith, c.loop-start-test.true)) in
    let place : start + n + 1 ≡ start + (n + 1) = omega arith in
    record {
      none = subst (λ (k : ℕ). NoneBefore k input) place (none_more input start n c.loop-start-test.true c.loop-start.invariant.none before length_is other);
      before = λ l. subst (λ (k : ℕ). IsBeforeLine (take k input)) place (before_more input start n c.loop-start-test.true c.loop-start.invariant.none before length_is (omega (arith, l)));
    }

-- no line is the mark, so all is source
pub returns : goal.returns
returns c =
    record {
      parts = record {
        small = c.requires;
        parts = record {
          none = none_left c.args.input.now c.loop-start.start (omega (arith, c.loop-start-test.false)) c.loop-start.invariant.none;
          source = refl;
          script = refl;
        };
      };
    }
