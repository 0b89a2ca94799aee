use Rattle.std.proofs.Common.{ℕ, ◌/◌, ◌%◌, ℤ, pos, rules}
use Rattle.interface.proofs.Filled.{filled}
use Rattle.interface.proofs.shape.Shape.reading.Goals as goal

pub returns : goal.returns
returns g c =
    let f : ℕ → ℤ = λ t. g.Self.Shape.model.limit c.args.self.now (t / 16) (t % 16) in
    let e = filled _ f (pos 0) _ (λ k y q called. ((λ i. record { 0 = called.met.1 i }), search rules)) c.from_fn.ensures.items in
    λ i. record { n = c.n.ensures i; limits = e i }
