use Rattle.std.proofs.Common.{List, subst, refl}
use Rattle.octagon.specs.declared.matrix.Octagon.{Octagon}
use Rattle.octagon.specs.Octagons.{octagon_model}
use Rattle.offsets.specs.Entry.{answer_frames}
use Rattle.rules.specs.Any.{AnyRule, any_model}
use Rattle.search.specs.Lending.{world_with, answered_with}
use Rattle.search_theory.specs.declared.region.Region.{Region}
use Rattle.search_theory.specs.declared.request.Request.TheVariants.{Begin, Run}
use Rattle.search_theory.specs.Requests.{World, Answered, answer}
use Rattle.wire.specs.Appending.{Appends}
use Rattle.offsets.proofs.Passing.{two_calls}
use Rattle.offsets.proofs.searching.search_in.Goals as goal

pub returns : goal.returns
returns c =
    let s = c.state_all.new in
    let b = c.call.new in
    let r = c.call-answer.new in
    let same = two_calls {W = World Octagon AnyRule} {O = List (Region Octagon)} {A = Answered Octagon AnyRule} (λ a. a.world) (λ a. a.out) (λ w o. answer octagon_model any_model w o Begin) (λ w o. answer octagon_model any_model w o (Run c.args.budget)) (λ a. answer_frames octagon_model a.reply a.out)
    (world_with s.solver s.lent) _ (world_with b.solver b.lent) s.lent.out.now c.args.lent.now.out.now b.lent.out.now
    (answered_with c.call.result b.solver b.lent) (answered_with c.call-answer.result r.solver r.lent)
    c.state_all.ensures.world c.state_all.ensures.out (λ x y. refl) c.call.ensures.answers refl refl c.call-answer.ensures.answers in
    subst (Appends c.args.output.now c.put_answer.new.output) same c.put_answer.ensures
