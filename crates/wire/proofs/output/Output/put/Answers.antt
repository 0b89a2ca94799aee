use Rattle.std.proofs.Common.{◌+◌, refl, ap}
use Rattle.wire.specs.Appending.{lines}
use Rattle.wire.proofs.Written.{written_one}
use Rattle.wire.proofs.output.Output.put.Goals as goal

pub returns : goal.returns
returns c =
    let o = c.args.self.now in
    record { same_bytes = refl; bytes_put = ap (λ d. lines d (o.at + 1)) (written_one o.bytes.now o.at c.args.byte c.requires) }
