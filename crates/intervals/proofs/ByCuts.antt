-- To split is to cut at one node twice over: the cut exists, and halving its bound gives the middle back. Assumes nothing.
use Rattle.std.proofs.Common.{◌≡◌, ℕ, ◌+◌, ◌*◌, ◌/◌, ◌%◌, ◌<◌, ◌≤◌, true, not, ◌&&◌, eqb, ltb, ℤ, pos, ◌+ℤ◌, neg_ℤ, ◌≤ℤ◌, sym, refl, ap, ◌∙◌, subst, arith}
use lib.Signed.{le_z}
use Rattle.std.proofs.lemmas.Int.{ints}
use Rattle.std.proofs.lemmas.Bool.{and_from, not_from_false, eq-eqb, ne_eqb, lt-ltb, cond-true, cond-false}
use Rattle.interface.specs.declared.cut.Cut.{Cut}
use Rattle.interface.specs.CutBounds.{valid_cut}
use Rattle.interface.specs.Nodes.{opp}
use Rattle.interface.specs.Numbers.{half}
use Rattle.interface.proofs.Cuts.{cut_made}
use Rattle.interface.proofs.Halves.{half_is}
use Rattle.halving.specs.Halvings.{widest_of}
use Rattle.intervals.specs.declared.interval_box.IntervalBox.{IntervalBox}
use Rattle.intervals.specs.Boxes.{low_at, high_at, widths_of, on_line, at_most, at_least, bounded}
use Rattle.intervals.specs.Answers.{cut_box, middle}
use Rattle.intervals.specs.Splits.{LeftBy, SplitByCuts}
use Rattle.intervals.specs.Extents.{open_says}
use Rattle.intervals.specs.Holding.{passes}
use Rattle.intervals.specs.Laws.{made_sound}
use Rattle.intervals.specs.Splitting.{lower_is, upper_is}

-- there is a cut that bounds a node by c, for c within a million
twice_valid : (p : ℕ) (c : ℤ) → p < 16 → neg_ℤ (pos 1000000) ≤ℤ c → c ≤ℤ pos 1000000 → valid_cut p p (c +ℤ c) ≡ true
twice_valid p c h low high = and_from (ltb p 16) _ (lt-ltb p 16 h) (and_from (ltb p 16) _ (lt-ltb p 16 h) (and_from (not (eqb p (opp p))) _ (not_from_false (eqb p (opp p)) (ne_eqb p (opp p) (λ e. omega arith))) (and_from (le_z (neg_ℤ (pos 2000000)) (c +ℤ c)) (le_z (c +ℤ c) (pos 2000000)) (passes (neg_ℤ (pos 2000000)) (c +ℤ c) (omega (arith, ints))) (passes (c +ℤ c) (pos 2000000) (omega (arith, ints))))))

-- it leaves what bounding the node leaves
left_by : (s : IntervalBox) (p : ℕ) (c : ℤ) → s.n ≤ 8 → p < 2 * s.n → neg_ℤ (pos 1000000) ≤ℤ c → c ≤ℤ pos 1000000 → LeftBy s p c (bounded s p c)
left_by s p c most on low high = (t, sym (cut_made p p (c +ℤ c) (c +ℤ c) refl valid), sym whole)
  where
    valid : valid_cut p p (c +ℤ c) ≡ true
    valid = twice_valid p c (omega arith) low high

    t : Cut
    t = record { p = p; q = p; c = c +ℤ c; ok = valid }

    whole : cut_box s t ≡ bounded s p c
    whole = cond-true (on_line s p && on_line s p) _ s (and_from (on_line s p) (on_line s p) (lt-ltb p (2 * s.n) on) (lt-ltb p (2 * s.n) on)) ∙ cond-true (eqb p p) (bounded s p (half (c +ℤ c))) _ (eq-eqb p p refl) ∙ ap (bounded s p) (omega (arith, ints, half_is (c +ℤ c)))

-- an even node bounds its setting from above, an odd one from below
even_node : (s : IntervalBox) (k : ℕ) (b : ℤ) → at_most s k b ≡ bounded s (2 * k) b
unfolding bounded
even_node s k b = ap (λ j. at_most s j b) (omega arith) ∙ sym (cond-true (eqb (2 * k % 2) 0) (at_most s (2 * k / 2) b) (at_least s (2 * k / 2) (neg_ℤ b)) (eq-eqb (2 * k % 2) 0 (omega arith)))

odd_node : (s : IntervalBox) (k : ℕ) (b : ℤ) → at_least s k b ≡ bounded s (2 * k + 1) (neg_ℤ b)
unfolding bounded
odd_node s k b = ap (λ j. at_least s j b) (omega arith) ∙ ap (at_least s ((2 * k + 1) / 2)) (omega (arith, ints)) ∙ sym (cond-false (eqb ((2 * k + 1) % 2) 0) (at_most s ((2 * k + 1) / 2) (neg_ℤ b)) (at_least s ((2 * k + 1) / 2) (neg_ℤ (neg_ℤ b))) (ne_eqb ((2 * k + 1) % 2) 0 (λ e. omega arith)))

pub split_by_cuts : SplitByCuts
split_by_cuts s m e =
    let sd = made_sound m in
    let o = open_says s sd e in
    let k : ℕ = widest_of (widths_of s) in
    let g = sd.good k in
    let h = half_is (low_at s k +ℤ high_at s k) in
    let w = o.wide in
    let on = o.on in (
      subst (LeftBy s (2 * k) (middle s k)) (sym (lower_is s sd o ∙ even_node s k (middle s k))) (left_by s (2 * k) (middle s k) sd.most (omega (arith, on)) (omega (arith, ints, h, g.ordered, g.bottom)) (omega (arith, ints, h, g.ordered, g.top))),
      subst (LeftBy s (2 * k + 1) (neg_ℤ (middle s k +ℤ pos 1))) (sym (upper_is s sd o ∙ odd_node s k (middle s k +ℤ pos 1))) (left_by s (2 * k + 1) (neg_ℤ (middle s k +ℤ pos 1)) sd.most (omega (arith, on)) (omega (arith, ints, h, w, g.ordered, g.top)) (omega (arith, ints, h, g.ordered, g.bottom))),
    )
