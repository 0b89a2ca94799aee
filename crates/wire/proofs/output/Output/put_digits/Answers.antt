use Rattle.std.proofs.Common.{◌≡◌, ℕ, ◌+◌, ◌*◌, ◌/◌, ◌%◌, ◌≤◌, [], ◌∷◌, ◌++◌, List, length, get_or, take, ap, ◌∙◌, arith}
use Rattle.std.proofs.lemmas.List.{take_more, take_all, length-take-le}
use Rattle.wire.specs.Bytes.{digit_of, hex}
use Rattle.wire.proofs.Hex.{length_hex, hex_append}
use Rattle.wire.proofs.Written.{writes_none, writes_room, writes_on}
use Rattle.wire.proofs.output.Output.put_digits.Goals as goal

passed : (bs : List ℕ) (i : ℕ) → i ≤ length bs → length (hex (take i bs)) ≡ 2 * i
passed bs i h = length_hex (take i bs) ∙ ap (λ k. 2 * k) (length-take-le i bs h)

pub loop-byte-init : goal.loop-byte-init
loop-byte-init c = writes_none c.args.self.now

pub put_byte-requires : goal.put_byte-requires
put_byte-requires c =
    let bs = c.args.frame.now in
    let i = c.loop-byte.byte-index in
    omega (arith, writes_room c.args.self.now c.loop-byte.self (hex (take i bs)) c.loop-byte.invariant 2 (omega (arith, passed bs i (omega arith))))

pub loop-byte-preserved : goal.loop-byte-preserved
loop-byte-preserved c =
    let bs = c.args.frame.now in
    let i = c.loop-byte.byte-index in
    let more : hex (take (i + 1) bs) ≡ hex (take i bs) ++ (digit_of (get_or bs i 0 / 16) ∷ digit_of (get_or bs i 0 % 16) ∷ []) = ap hex (take_more bs i 0 c.loop-byte-test.true) ∙ hex_append (take i bs) (get_or bs i 0 ∷ []) in
    rw more (writes_on c.args.self.now c.loop-byte.self (hex (take i bs)) c.loop-byte.invariant (omega (arith, passed bs i (omega arith))) c.put_byte.new.self _ c.put_byte.ensures)

pub returns : goal.returns
returns c = rw (take_all c.loop-byte.byte-index c.args.frame.now (omega arith)) at c.loop-byte.invariant
