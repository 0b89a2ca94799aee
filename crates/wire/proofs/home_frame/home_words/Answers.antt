use Rattle.std.proofs.Common.{pos, rules}
use Rattle.interface.proofs.Filled.{filled}
use Rattle.wire.specs.HomeFrame.{home_word}
use Rattle.wire.proofs.home_frame.home_words.Goals as goal

pub returns : goal.returns
returns c = filled _ (home_word c.args.home.now) (pos 0) _ (λ k y q called. (λ i. record { 0 = called.met.1 i }, search rules)) c.from_fn.ensures.items
