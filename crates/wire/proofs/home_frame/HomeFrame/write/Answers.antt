use Rattle.std.proofs.Common.{◌+◌, ◌*◌, [], ◌∷◌, ap, ◌∙◌, subst}
use Rattle.wire.specs.Appending.{lines_in, has_room, Appends}
use Rattle.wire.proofs.HomeBytes.{home_front}
use Rattle.wire.proofs.home_frame.HomeFrame.write.Goals as goal

pub returns : goal.returns
returns c =
    let e = home_front c.args.self.now c.home_words.result c.words_frame-bytes.result _ c.home_words.ensures c.words_frame-bytes.ensures (ap (λ n. 2 + 8 * n) c.min.ensures) in
    record {
      room = c.put_line.ensures.room ∙ ap (has_room (lines_in c.args.out.now)) e;
      appends = subst (λ bs. Appends c.args.out.now c.put_line.new.self (bs ∷ [])) e c.put_line.ensures.appends;
    }
