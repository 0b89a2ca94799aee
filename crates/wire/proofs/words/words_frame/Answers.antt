use Rattle.std.proofs.Common.{rules}
use Rattle.interface.proofs.Filled.{filled}
use Rattle.wire.specs.Words.{words_frame_byte}
use Rattle.wire.proofs.words.words_frame.Goals as goal

pub returns : goal.returns
returns g c = filled _ (words_frame_byte c.args.code c.args.n c.args.words.now) 0 _ (λ k y q called. (let m = called.met.1 in λ i. (m.0 i, m.1 i, m.2 i), search rules)) c.from_fn.ensures.items
