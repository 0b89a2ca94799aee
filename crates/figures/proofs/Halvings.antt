-- The halvings of one range are the binary digits of its width: counting those computes, trying every power does not.
use Rattle.std.proofs.Common.{◌≡◌, ℕ, ◌+◌, ◌-◌, ◌^◌, ◌<◌, [], ◌∷◌, pos, neg_ℤ, sym, refl, ap, subst, arith}
use lib.Count.{count_leading_zeros}
use Rattle.halving.specs.Halvings.{halvings_of, bits_for, width, LeastPower}
use Rattle.halving.proofs.Lowers.{digits_least, bits_unique}

bits_are : (w b : ℕ) → w < 2 ^ 32 → 32 - count_leading_zeros 32 w ≡ b → bits_for (w + 1) ≡ b
bits_are w b h e = sym (bits_unique (w + 1) b (subst (LeastPower (w + 1)) e (digits_least w h)))

pub three_values : halvings_of (width (pos 0) (pos 2) ∷ []) ≡ 2
unfolding count_leading_zeros
three_values = ap (λ b. 0 + b) (bits_are 2 2 (omega arith) refl)

pub widest_range : halvings_of (width (neg_ℤ (pos 1000000)) (pos 1000000) ∷ []) ≡ 21
unfolding count_leading_zeros
widest_range = ap (λ b. 0 + b) (bits_are 2000000 21 (omega arith) refl)
