use Rattle.std.proofs.Common.{◌≡◌, ap, ◌∙◌, arith, w32, w64, to_z, of_z}
use borrow.Author.Differences.{ints}
use Rattle.interface.specs.Cuts.{cut_of}
use Rattle.rule_base.specs.Bounds.{cut_at}
use Rattle.rule_base.proofs.bounds.cut_at.Goals as goal

pub returns-then-contains : goal.returns-then-contains
unfolding cut_at
returns-then-contains c =
    let same : to_z w32 (of_z w32 (to_z w64 (of_z w64 c.args.c))) ≡ c.args.c = grind (arith, ints) in
    c.new-then-contains.ensures ∙ ap (cut_of c.args.p c.args.q) same
