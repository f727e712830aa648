use Rattle.std.proofs.Common.{◌∙◌, arith, refl}
use Rattle.ceal_compile.specs.FaultLine.{line_feeds, first_line}
use Rattle.ceal_compile.proofs.Positions.{line-more, column-more}
use Rattle.ceal_compile.proofs.position.position_after.Goals as goal

pub loop-byte-init : goal.loop-byte-init
unfolding line_feeds first_line
loop-byte-init c = record { line = refl; column = refl; few_lines = omega arith; few_columns = omega arith }

-- a line feed begins a line, another byte a column
pub loop-byte-preserved : goal.loop-byte-preserved
loop-byte-preserved c =
    let bs = c.args.before.now in
    let i = c.loop-byte.byte-index in
    record {
      line = c.after_byte-position.ensures.line ∙ line-more bs i c.loop-byte.position.line c.loop-byte-test.true c.loop-byte.invariant.line;
      column = c.after_byte-position.ensures.column ∙ column-more bs i c.loop-byte.position.column c.loop-byte-test.true c.loop-byte.invariant.column;
      few_lines = omega (arith, c.after_byte-position.ensures.few_lines, c.loop-byte.invariant.few_lines);
      few_columns = omega (arith, c.after_byte-position.ensures.few_columns, c.loop-byte.invariant.few_columns);
    }
