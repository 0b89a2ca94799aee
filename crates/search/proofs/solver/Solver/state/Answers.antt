-- A stated rule narrows as its standing cut does.
use Rattle.std.proofs.Common.{◌≡◌, true, rules, sym, subst}
use Rattle.search_theory.specs.RegionLaws.{Narrowed}
use Rattle.search_theory.specs.Regions.{cut_if_any}
use Rattle.search.proofs.Meanings.{narrows}
use Rattle.search.proofs.solver.Solver.state.Goals as goal

pub returns-in-Some-clause-narrows : goal.returns-in-Some-clause-narrows
returns-in-Some-clause-narrows g c m e =
    let M = g.S.Shape.model in
    let K = g.R.Rule.model in
    let r = c.args.rule in
    let s = c.args.self.now.shape in
    let is : c.cut.new.self ≡ cut_if_any M s (K.standing (M.n s) r) = search rules in
    subst (Narrowed M (λ x. K.meets (M.n s) r x ≡ true) s) (sym is) (narrows g.met.S.Shape.laws g.met.R.Rule.laws r s m)
