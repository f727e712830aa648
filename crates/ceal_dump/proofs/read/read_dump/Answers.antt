use Rattle.std.proofs.Common.{◌≡◌, ◌∙◌, sym, subst}
use Rattle.std.proofs.lemmas.Bool.{false≢true}
use Rattle.ceal_base.specs.declared.recorded.Record.{Record}
use Rattle.ceal_dump.proofs.Records.{record-read, record-range}
use Rattle.ceal_dump.specs.DumpText.{dump_text, HasDump, InRange}
use Rattle.ceal_dump.proofs.read.read_dump.Goals as goal

pub returns-in-Ok-true : goal.returns-in-Ok-true
returns-in-Ok-true c =
    let told = c.in-Ok-true.ensures.0 c.in-Ok-true.field-0-test in
    record { read = record { has = told.0; range = subst InRange (sym c.in-Ok.ensures) (record-range c.args.bytes.now); text = told.1 } }

-- a dump of another record would have been read as that one, and this record gives other bytes
pub returns-in-Ok-false : goal.returns-in-Ok-false
returns-in-Ok-false c = record {
  read = λ r h.
      let same : r ≡ c.in-Ok.kept = sym (record-read c.args.bytes.now r h) ∙ sym c.in-Ok.ensures in
      false≢true
      (sym c.in-Ok-false.field-0-test ∙ c.in-Ok-false.ensures.1 (subst HasDump same h.has, subst (λ (r : Record). c.args.bytes.now ≡ dump_text r) same h.text));
}
