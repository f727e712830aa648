use Rattle.std.proofs.Common.{◌≡◌, ◌++◌, drop}
use Rattle.ceal_many.specs.Prefixes.{prefixed, with_prefix}
use Rattle.ceal_many.proofs.prefix.prefixed.Given as goal

-- the text so far, and then that of what is left
abbrev pub invariant-loop-byte : goal.invariant-loop-byte
invariant-loop-byte l = l.text ++ with_prefix l.name l.begins (drop l.byte-index l.reply) ≡ prefixed l.name l.reply
