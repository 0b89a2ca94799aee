-- No chain's sum is below the least, and the least to the opposite node is 0 at each of the four nodes.
use Rattle.std.proofs.Common.{◌≡◌, ℕ, zero, suc, ◌<◌, List, pos, ◌≤ℤ◌, refl, subst, arith}
use Rattle.interface.specs.Nodes.{opp}
use Rattle.octagon_theory.specs.Limits.{top_of, home_entry, entry, least_upto, least, Between, chain_sum}
use Rattle.octagon_theory.proofs.Theorems.{least_sums_are_least}
use Rattle.figures.specs.Figures.{ten, four_cuts}

least_0 : least ten four_cuts 0 1 ≡ pos 0
unfolding least_upto entry home_entry top_of
least_0 = refl

least_1 : least ten four_cuts 1 0 ≡ pos 0
unfolding least_upto entry home_entry top_of
least_1 = refl

least_2 : least ten four_cuts 2 3 ≡ pos 0
unfolding least_upto entry home_entry top_of
least_2 = refl

least_3 : least ten four_cuts 3 2 ≡ pos 0
unfolding least_upto entry home_entry top_of
least_3 = refl

least_opposite : (p : ℕ) → p < 4 → least ten four_cuts p (opp p) ≡ pos 0
least_opposite zero h = least_0
least_opposite (suc zero) h = least_1
least_opposite (suc (suc zero)) h = least_2
least_opposite (suc (suc (suc zero))) h = least_3
least_opposite (suc (suc (suc (suc p)))) h = absurd (omega arith)

pub no_negative_chain : (p : ℕ) → p < 4 → (rs : List ℕ) → Between 2 rs → pos 0 ≤ℤ chain_sum (entry ten four_cuts) p rs (opp p)
no_negative_chain p h rs b = subst (λ z. z ≤ℤ chain_sum (entry ten four_cuts) p rs (opp p)) (least_opposite p h) ((least_sums_are_least ten four_cuts (omega arith) p (opp p)).lowest rs b)
