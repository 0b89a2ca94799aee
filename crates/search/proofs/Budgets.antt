-- A run with some steps left ends here, or is a step and then a run with one step fewer. Assumes nothing.
use Rattle.std.proofs.Common.{◌≡◌, ℕ, zero, suc, ◌+◌, ◌-◌, ◌<◌, false, cond, eqb, List, Ok, Err, Result, sym, ap, ◌∙◌, arith}
use Rattle.interface.specs.Rules.{RuleModel}
use Rattle.interface.specs.Shapes.{ShapeModel}
use Rattle.search_theory.specs.declared.outcome.Outcome.{Outcome}
use Rattle.search_theory.specs.declared.outcome.Outcome.TheVariants.{Done, Spent}
use Rattle.search_theory.specs.Runs.{Work, Ended, ended, go_on, step, run_from}
use Rattle.search.specs.Works.{stepped}

module _ {S : Type 0} (w v : Work S) (more : Work S → Ended S) (i : ℕ) where
  go_made : (x : Result (Work S) Outcome) → (Ok tt, v) ≡ stepped w x → go_on x (λ o. ended o i w) more ≡ more v
  go_made (Ok u) e = ap more (sym (ap (λ p. p.1) e))
  go_made (Err p) e = cc (ap (λ q. q.0) e)

  go_stopped : (o : Outcome) (x : Result (Work S) Outcome) → (Err o, v) ≡ stepped w x → go_on x (λ q. ended q i w) more ≡ ended o i v
  go_stopped o (Ok u) e = cc (ap (λ q. q.0) e)
  go_stopped o (Err p) e =
      let same : p ≡ o = cc (ap (λ q. q.0) e) in
      ap (λ q. ended q i w) same ∙ ap (ended o i) (sym (ap (λ q. q.1) e))

module _ {S R : Type 0} (M : ShapeModel S) (K : RuleModel R) (rs : List R) (w : Work S) where
  pub run_done : (b i : ℕ) → w.waiting ≡ 0 → run_from M K rs b i w ≡ ended Done i w
  run_done zero i e = ap (λ n. cond (eqb n 0) (ended Done i w) (ended Spent i w)) e
  run_done (suc b) i e = ap (λ n. cond (eqb n 0) (ended Done i w) (go_on (step M K rs w) (λ o. ended o i w) (run_from M K rs b (i + 1)))) e

  -- where something waits and i of b steps are made
  run_next : (b i : ℕ) → i < b → 0 < w.waiting → run_from M K rs (b - i) i w ≡ go_on (step M K rs w) (λ o. ended o i w) (run_from M K rs (b - (i + 1)) (i + 1))
  run_next b i l h =
      let more : b - i ≡ suc (b - (i + 1)) = omega arith in
      let waits : eqb w.waiting 0 ≡ false = grind arith in
      ap (λ n. run_from M K rs n i w) more ∙ ap (λ t. cond t (ended Done i w) (go_on (step M K rs w) (λ o. ended o i w) (run_from M K rs (b - (i + 1)) (i + 1)))) waits

  pub run_made : (b i : ℕ) → i < b → 0 < w.waiting → (v : Work S) → (Ok tt, v) ≡ stepped w (step M K rs w) → run_from M K rs (b - i) i w ≡ run_from M K rs (b - (i + 1)) (i + 1) v
  run_made b i l h v e = run_next b i l h ∙ go_made w v (run_from M K rs (b - (i + 1)) (i + 1)) i (step M K rs w) e

  pub run_stopped : (b i : ℕ) → i < b → 0 < w.waiting → (v : Work S) (o : Outcome) → (Err o, v) ≡ stepped w (step M K rs w) → run_from M K rs (b - i) i w ≡ ended o i v
  run_stopped b i l h v o e = run_next b i l h ∙ go_stopped w v (run_from M K rs (b - (i + 1)) (i + 1)) i o (step M K rs w) e
