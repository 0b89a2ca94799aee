use Rattle.std.proofs.Common.{◌≡◌, ◌-◌, ap, subst, ◌∙◌, arith}
use Rattle.offsets.specs.Entry.{copies, room_in}
use Rattle.offsets.proofs.Memories.{same_memory}
use Rattle.wire.specs.Appending.{Appends}
use Rattle.offsets.proofs.memory.solve_opened.Goals as goal

pub returns : goal.returns
unfolding copies
returns c =
    let r = c.region_room-room.result in
    let all : r - 0 ≡ r = omega arith in
    subst (Appends c.args.output.now c.search_in.new.output)
    (same_memory c.args.solver.now c.args.budget _ _ _ _ _ _ _ _ _ _ c.no_rule-rules.ensures c.start-shape.ensures.value c.empty_point-point.ensures (all ∙ c.region_room-room.ensures.value ∙ ap room_in c.size.ensures) c.stated.ensures)
    c.search_in.ensures
