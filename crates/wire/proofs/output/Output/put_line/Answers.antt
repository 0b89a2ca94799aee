use Rattle.std.proofs.Common.{◌+◌, ◌*◌, ◌<◌, length, arith, rules}
use Rattle.std.proofs.lemmas.List.Elements.{All-from_get_or}
use Rattle.std.proofs.lemmas.Bool.{ltb-true}
use Rattle.wire.specs.Bytes.{hex}
use Rattle.wire.proofs.Adding.{fitting, left_out}
use Rattle.wire.proofs.Hex.{length_hex}
use Rattle.wire.proofs.ReadBack.{reads_back}
use Rattle.wire.proofs.Written.{writes_room}
use Rattle.wire.proofs.output.Output.put_line.Goals as goal

pub put_feed-requires : goal.put_feed-requires
put_feed-requires c =
    let fits = ltb-true (c.args.self.now.at + 2 * length c.args.frame.now) (length c.args.self.now.bytes.now) (search rules) in
    omega (arith, writes_room c.args.self.now c.put_digits.new.self (hex c.args.frame.now) c.put_digits.ensures 1 (omega (arith, length_hex c.args.frame.now)))

pub returns-then-room-clause-appends : goal.returns-then-room-clause-appends
returns-then-room-clause-appends c = fitting c.args.self.now c.args.frame.now c.put_digits.new.self c.put_feed.new.self (search rules) c.put_digits.ensures c.put_feed.ensures

pub returns-else-room-clause-appends : goal.returns-else-room-clause-appends
returns-else-room-clause-appends c = left_out c.args.self.now c.args.frame.now (search rules)

pub returns-then-room-clause-reads : goal.returns-then-room-clause-reads
returns-then-room-clause-reads c = reads_back c.args.frame.now (All-from_get_or (λ b. b < 256) c.args.frame.now 0 (λ i h. (c.type_inv.frame i).fits))

pub returns-else-room-clause-reads : goal.returns-else-room-clause-reads
returns-else-room-clause-reads c = reads_back c.args.frame.now (All-from_get_or (λ b. b < 256) c.args.frame.now 0 (λ i h. (c.type_inv.frame i).fits))
