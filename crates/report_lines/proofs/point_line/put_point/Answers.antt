use Rattle.std.proofs.Common.{◌≡◌, ◌+◌, ◌*◌, [], ◌∷◌, min, length, ap, ◌∙◌, subst, rules}
use Rattle.std.proofs.lemmas.List.{length-take}
use Rattle.wire.specs.Appending.{Appends}
use Rattle.report_lines.proofs.Pointed.{point_front}
use Rattle.report_lines.proofs.point_line.put_point.Goals as goal

pub returns : goal.returns
returns c =
    let eight : length c.args.point.now.values ≡ 8 = search rules in
    let e = point_front c.args.point.now eight c.words_frame-bytes.result _ c.words_frame-bytes.ensures (ap (λ n. 2 + 4 * n) (c.settings.ensures ∙ length-take c.args.point.now.n c.args.point.now.values ∙ ap (min c.args.point.now.n) eight)) in
    subst (λ bs. Appends c.args.out.now c.put_line.new.self (bs ∷ [])) e c.put_line.ensures.appends
