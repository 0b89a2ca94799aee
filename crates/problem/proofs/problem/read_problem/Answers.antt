use Rattle.std.proofs.Common.{◌≡◌, Ok, refl, sym, ap, ◌∙◌, rules}
use Rattle.wire.specs.Readers.{left_of}
use Rattle.problem.specs.Reading.{first_home}
use Rattle.problem.proofs.Lines.{read_more, past_first}
use Rattle.problem.proofs.problem.read_problem.Goals as goal

pub returns : goal.returns
returns c =
    let sized : c.size_of.result ≡ Ok c.in_ok-map_err.field-0 = search rules in
    let homed : c.first_home.result ≡ Ok c.in_ok-home.home = search rules in
    c.rules_behind.ensures
    ∙ past_first (record { text = c.args.text; pos = 0; line = 0 }) c.new-reader.result c.first_home.new.reader c.in_ok-home.home _ refl refl c.new-reader.ensures c.first_home.ensures.after
    ∙ read_more c.args.text.now _ c.in_ok-home.home (sym sized ∙ c.size_of.ensures) (sym homed ∙ c.first_home.ensures.value ∙ ap (λ r. first_home (left_of r)) c.new-reader.ensures)
