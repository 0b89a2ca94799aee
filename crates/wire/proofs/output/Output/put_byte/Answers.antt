use Rattle.std.proofs.Common.{[], ◌∷◌, arith}
use Rattle.wire.proofs.Written.{writes_room, writes_on}
use Rattle.wire.proofs.output.Output.put_byte.Goals as goal

pub put-requires : goal.put-requires
put-requires c = omega arith

pub put-requires-2 : goal.put-requires-2
put-requires-2 c = omega (arith, writes_room c.args.self.now c.put.new.self (c.hex_digit.result ∷ []) c.put.ensures 1 (omega arith))

pub returns : goal.returns
returns c =
    let both = writes_on c.args.self.now c.put.new.self (c.hex_digit.result ∷ []) c.put.ensures (omega arith) c.put-2.new.self (c.hex_digit-2.result ∷ []) c.put-2.ensures in
    rw (← c.hex_digit.ensures, ← c.hex_digit-2.ensures) both
