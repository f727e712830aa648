-- What a test of modifiables knows of a new stamp.
use Rattle.std.proofs.Common.{◌≡◌, ℕ, List, true, false, inl, inr, sym, ap, ◌∙◌}
use Rattle.std.proofs.lemmas.Bool.{cases_Bool}
use Rattle.ceal_base.specs.declared.word.Word.{Word}
use Rattle.ceal_order.specs.Stamps.{is_in}
use Rattle.ceal_order.specs.Rising.{IsRising, count_before}
use Rattle.ceal_order.proofs.Members.{in_insert}
use Rattle.ceal_order.proofs.RisingLemmas.{in_head, in_order}
use Rattle.ceal_mods.specs.Cell.{with_write}
use Rattle.ceal_mods.specs.Writes.{stamps_of}
use Rattle.ceal_mods.specs.declared.cell.Cell.{Cell}
use Rattle.ceal_mods.proofs.StampLemmas.{stamps-insert}

-- what is not in an order is none of the stamps that rise along it
pub absent : (s : ℕ) (ss order : List ℕ) → IsRising order ss → is_in s order ≡ false → is_in s ss ≡ false
absent s ss order rising new = elim (cases_Bool (is_in s ss)) [
  | inl there ↦ absurd (let no : true ≡ false = sym (in_order s ss order rising there) ∙ new in cc)
  | inr missing ↦ missing
]

-- a write that is put in is there
pub written : (order : List ℕ) (s : ℕ) (value : Word) (cell : Cell) → is_in s (stamps_of (with_write order s value cell).writes) ≡ true
written order s value cell = ap (is_in s) (stamps-insert cell.writes (count_before order s (stamps_of cell.writes)) (record { stamp = s; value = value }))
    ∙ in_insert s s (count_before order s (stamps_of cell.writes)) (stamps_of cell.writes) ∙ in_head s (stamps_of cell.writes)
