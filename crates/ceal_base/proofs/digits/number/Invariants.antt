use Rattle.std.proofs.Common.{◌≡◌, ◌≤◌, drop}
use Rattle.ceal_base.specs.Digits.{number_with_digits, number_of}
use Rattle.ceal_base.proofs.digits.number.Given as goal

-- the digits that are left lead from the value to the number
abbrev pub invariant-loop-byte : goal.invariant-loop-byte
invariant-loop-byte l = record {
  small : l.number ≤ l.most;
  same : number_with_digits l.number (drop l.byte-index l.digits) ≡ number_of l.digits;
}
