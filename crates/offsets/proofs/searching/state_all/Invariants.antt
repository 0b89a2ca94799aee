use Rattle.std.proofs.Common.{◌≡◌, map, drop}
use Rattle.octagon.specs.Octagons.{octagon_model}
use Rattle.rules.specs.Any.{any_model}
use Rattle.search.specs.Lending.{SameSlices, world_with}
use Rattle.search_theory.specs.declared.request.Request.TheVariants.{State}
use Rattle.solving.specs.Solving.{after_calls}
use Rattle.offsets.proofs.searching.state_all.Given as goal

-- the rules that are left give the result
abbrev pub invariant-loop-rule : goal.invariant-loop-rule
invariant-loop-rule l = record {
  same_slices : SameSlices l.initial.lent l.lent;
  same_out : l.lent.out.now ≡ l.initial.lent.out.now;
  rest : after_calls octagon_model any_model (world_with l.solver l.lent) l.lent.out.now (map State (drop l.rule-index l.stated)) ≡ after_calls octagon_model any_model (world_with l.initial.solver l.initial.lent) l.initial.lent.out.now (map State l.stated);
}
