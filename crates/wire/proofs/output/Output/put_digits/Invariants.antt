use Rattle.std.proofs.Common.{take}
use Rattle.wire.specs.Appending.{Writes}
use Rattle.wire.specs.Bytes.{hex}
use Rattle.wire.proofs.output.Output.put_digits.Given as goal

-- the bytes that were passed are written
abbrev pub invariant-loop-byte : goal.invariant-loop-byte
invariant-loop-byte l = Writes l.initial.self l.self (hex (take l.byte-index l.frame))
