-- A cut made from a bound is met by every point that keeps the bound. Assumes nothing.
use Rattle.std.proofs.Common.{◌≡◌, ℕ, ◌*◌, ◌<◌, Bool, true, false, cond, List, length, ℤ, pos, ◌+ℤ◌, neg_ℤ, ◌≤ℤ◌, Some, None, refl, ap, arith}
use borrow.Author.Differences.{ints}
use lib.Signed.{lt_z}
use Rattle.std.specs.Int.{int_max}
use Rattle.std.proofs.lemmas.Int.{clamps}
use Rattle.interface.specs.declared.cut.Cut.{Cut}
use Rattle.interface.specs.CutBounds.{valid_cut}
use Rattle.interface.specs.Cuts.{Meets, cut_if}
use Rattle.interface.specs.Nodes.{value}
use Rattle.rule_base.specs.Bounds.{cut_at, bounded}

is_cut : (p q : ℕ) (c : ℤ) (b : Bool) (e : valid_cut p q c ≡ b) (t : Cut) → cut_if p q c b e ≡ Some t → (t.p ≡ p) × (t.q ≡ q) × (t.c ≡ c)
is_cut p q c true e t h = let same : t ≡ record { p = p; q = q; c = c; ok = e } = cc in (ap (λ (s : Cut). s.p) same, ap (λ (s : Cut). s.q) same, ap (λ (s : Cut). s.c) same)
is_cut p q c false e t h = absurd cc

pub cut_met : (p q : ℕ) (c : ℤ) (t : Cut) → cut_at p q c ≡ Some t → (x : List ℤ) → (p < 2 * length x → q < 2 * length x → (value x p +ℤ value x q) ≤ℤ c) → Meets x t
unfolding cut_at
cut_met p q c t e x keeps =
    let is = is_cut p q c (valid_cut p q c) refl t e in
    λ hp hq.
    let kept = keeps (omega (arith, is.0)) (omega (arith, is.1)) in
    omega (arith, ints, kept, ap (value x) is.0, ap (value x) is.1, is.2)

-- the bound doubled and clipped is met by every point that keeps it
pub bound_met : (p : ℕ) (b : ℤ) (t : Cut) → bounded p b ≡ Some t → (x : List ℤ) → value x p ≤ℤ b → Meets x t
bound_met p b t e x keeps = by (lt_z (pos 2000000) (b +ℤ b)) e
  where
    by : (above : Bool) → cond above None (cut_at p p (int_max (b +ℤ b) (neg_ℤ (pos 2000000)))) ≡ Some t → Meets x t
    by true h = absurd cc
    by false h = cut_met p p (int_max (b +ℤ b) (neg_ℤ (pos 2000000))) t h x (λ _ _. omega (arith, ints, clamps, keeps))
