use Rattle.std.proofs.Common.{[], ◌∷◌, ◌+◌, ◌∙◌, sym, None, Some}
use Rattle.std.proofs.lemmas.Bool.{false≢true}
use Rattle.std.proofs.lemmas.Bool.Decides.{Decides-eqb}
use Rattle.std.proofs.lemmas.List.{take_rest}
use Rattle.std.proofs.lemmas.Slice.Eq.{strip_suffix_is}
use Rattle.ceal_script.specs.Spelling.{CLOSING_BRACKET}
use Rattle.ceal_script.proofs.FieldLaws.{element_around, index_within, no_element, no_row, not_closed}
use Rattle.ceal_script.proofs.spelling.is_element.Goals as goal

pub returns-in_default : goal.returns-in_default
returns-in_default c = (λ e. absurd (false≢true e), λ h. absurd (no_element c.args.word.now c.in_default.ensures h))

-- the word does not end with a bracket, and an element does
pub returns-in-None : goal.returns-in-None
returns-in-None c =
    let unclosed = strip_suffix_is Decides-eqb _ (CLOSING_BRACKET ∷ []) None c.in-None.ensures.cases in
    let behind = take_rest c.args.word.now (c.in-Some.at + 1) in
    (λ e. absurd (false≢true e), λ h. absurd (not_closed c.args.word.now c.in-Some.at c.in-Some.ensures (λ front e. unclosed front (behind ∙ e)) h))

-- a row's name, a bracket, an index or none, and a bracket
pub returns-then-is_identifier : goal.returns-then-is_identifier
returns-then-is_identifier c =
    let closed = strip_suffix_is Decides-eqb _ (CLOSING_BRACKET ∷ []) (Some c.in-Some-strip_suffix.index) c.in-Some-strip_suffix.ensures.cases in
    let behind = sym (take_rest c.args.word.now (c.in-Some.at + 1)) ∙ closed in
    let row = sym c.is_identifier.ensures ∙ c.if-is_identifier.true in (
      λ e. element_around c.args.word.now c.in-Some.at c.in-Some.ensures _ behind row (c.is_index.ensures.0 e),
      λ h. c.is_index.ensures.1 (index_within c.args.word.now c.in-Some.at c.in-Some.ensures _ behind h),
    )

pub returns-else-is_identifier : goal.returns-else-is_identifier
returns-else-is_identifier c = (
  λ e. absurd (false≢true (sym c.if-is_identifier.false ∙ e)),
  λ h. absurd (no_row c.args.word.now c.in-Some.at c.in-Some.ensures (sym c.is_identifier.ensures ∙ c.if-is_identifier.false) h),
)
