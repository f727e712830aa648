use Rattle.std.proofs.Common.{◌∙◌, arith, rules, sym}
use Rattle.std.proofs.lemmas.Bool.{false≢true}
use Rattle.ceal_script.proofs.IndexLaws.{index_below, index_digits, index_front, index_of}
use Rattle.ceal_script.proofs.number.is_index.Goals as goal
use Rattle.ceal_script.proofs.number.is_index.Goals.{in_default-via-then-word-lt2, in_default-via-else-word-lt2+in_default-1}

pub returns-in-48 : goal.returns-in-48
returns-in-48 c = (λ e. absurd (false≢true e), λ h. absurd (omega (arith, index_front c.args.word.now h (search rules), c.in-48.len_at_least)))

-- digits without a leading zero spell an index exactly when their number fits a row
pub returns-then-are_digits : goal.returns-then-are_digits
returns-then-are_digits c = (
  λ e. index_of c.args.word.now (sym c.are_digits.ensures ∙ c.if-are_digits.true)
      (λ z. elim c.in_default.branch [ in_default-via-then-word-lt2 w ↦ search rules | in_default-via-else-word-lt2+in_default-1 w ↦ omega (arith, z) ]) (c.fits_row.ensures.0 e),
  λ h. c.fits_row.ensures.1 (index_below c.args.word.now h),
)

pub returns-else-are_digits : goal.returns-else-are_digits
returns-else-are_digits c = (
  λ e. absurd (false≢true (sym c.if-are_digits.false ∙ e)),
  λ h. c.are_digits.ensures ∙ index_digits c.args.word.now h,
)
