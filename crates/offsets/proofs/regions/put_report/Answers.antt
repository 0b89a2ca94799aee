use Rattle.std.proofs.Common.{[], ◌∷◌, subst}
use Rattle.std.specs.List.{flat_map}
use Rattle.octagon.specs.Octagons.{octagon_model}
use Rattle.offsets.specs.Entry.{frames_of}
use Rattle.report_lines.specs.EndFrame.{end_frame}
use Rattle.wire.proofs.Adding.{appends_on}
use Rattle.wire.specs.Appending.{Appends}
use Rattle.offsets.proofs.regions.put_report.Goals as goal

pub returns : goal.returns
returns c =
    let p = c.args.report in
    let regions = subst (λ gs. Appends c.args.output.now c.put_all.new.output (flat_map (frames_of octagon_model) gs)) c.front.ensures c.put_all.ensures in
    appends_on c.args.output.now c.put_all.new.output c.put_end.new.out _ (end_frame p.outcome p.found p.steps ∷ []) regions c.put_end.ensures.appends
