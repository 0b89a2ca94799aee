-- The session's history with one call more, and on it everything that is promised; the counts go with the solver's.
use Rattle.std.proofs.Common.{◌≡◌, sym, ap, ◌∙◌, subst}
use Rattle.fitter.proofs.Counting.{counts_follow}
use Rattle.fitter.proofs.Following.{asked}
use Rattle.fitter.proofs.desk.Desk.ask.Goals as goal
use Rattle.fitter.specs.Counting.{rules_in, marks_in}
use Rattle.fitter.specs.Sessions.{Session}

pub invariant_of-self-5 : goal.invariant_of-self-5
invariant_of-self-5 c =
    let d = c.args.self.now in
    let rules = subst (λ o. rules_in o d.counts.rules ≡ d.counts.rules) c.in-Some.is d.standing in
    let marks = subst (λ o. marks_in o d.counts.marks ≡ d.counts.marks) c.in-Some.is d.marked in
    let counts = counts_follow c.in-Some.solver c.ask-answer.new.solver d.memory c.ask-answer.new.self c.args.request c.ask-answer.result d.counts c.ask-answer.ensures.answers rules marks ∙ sym c.after-self.ensures in
    record { session = c.ask-answer.ensures.session (subst (λ o. Session o d.memory) c.in-Some.is d.session); standing = ap (λ k. k.rules) counts; marked = ap (λ k. k.marks) counts }

pub returns : goal.returns
returns c = asked c.args.self.now.solver c.in-Some.solver c.ask-answer.new.solver c.args.self.now.memory c.ask-answer.new.self c.args.request c.ask-answer.result c.in-Some.is c.args.self.now.session c.ask-answer.ensures.answers c.ask-answer.ensures.promise
