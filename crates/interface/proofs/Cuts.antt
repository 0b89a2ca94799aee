-- A cut is its three numbers: its proof of the bounds is the only one. Assumes nothing.
use Rattle.std.proofs.Common.{◌≡◌, ℕ, Bool, true, false, ℤ, Some, refl, ap, ◌∙◌}
use mathlib.Core.Bool.{Bool-set}
use Rattle.std.proofs.lemmas.Bool.{both_ways}
use Rattle.interface.specs.CutBounds.{valid_cut}
use Rattle.interface.specs.Cuts.{cut_of, cut_if}

made_if : (p q : ℕ) (c : ℤ) (b : Bool) (d : valid_cut p q c ≡ b) (e : valid_cut p q c ≡ true) → Some (record { p = p; q = q; c = c; ok = e }) ≡ cut_if p q c b d
made_if p q c true d e = λ i. Some (record { p = p; q = q; c = c; ok = Bool-set _ _ e d i })
made_if p q c false d e = absurd (both_ways _ d e)

pub cut_made : (p q : ℕ) (c d : ℤ) → d ≡ c → (e : valid_cut p q d ≡ true) → Some (record { p = p; q = q; c = d; ok = e }) ≡ cut_of p q c
cut_made p q c d same e = made_if p q d (valid_cut p q d) refl e ∙ ap (cut_of p q) same
