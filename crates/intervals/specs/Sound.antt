-- What every made box keeps: ranges in order within a million, 0 past the line. Narrowing a range within itself keeps it. Assumes nothing.
use Rattle.std.specs.Prelude.{◌≡◌, ℕ, ◌<◌, ◌≤◌, Bool, true, false, cond, length, replicate, ℤ, pos, neg_ℤ, ◌≤ℤ◌, ◌<ℤ◌, ◌≢◌, int_lt, slice_index_or, slice_set, refl}
use Rattle.std.proofs.Common.{⊎_elim, sym, subst, ◌∙◌, arith, length-set}
use Rattle.std.proofs.lemmas.List.{get_or-replicate, get_or_past, length-replicate, get_or-set_same, get_or-set_other}
use Rattle.std.proofs.lemmas.Int.{ints}
use Rattle.std.proofs.lemmas.Bool.{cases_lt, cases_eq}
use Rattle.interface.specs.declared.home.Home.{Home}
use Rattle.interface.specs.declared.home.Span.{Span}
use Rattle.interface.specs.Homes.{zero_span, low_of, high_of, Passes}
use Rattle.interface.proofs.Homes.{passed_n, passed_at, length_spans, span_before, span_past}
use Rattle.intervals.specs.declared.interval_box.IntervalBox.{IntervalBox}
use Rattle.intervals.specs.Boxes.{low_at, high_at, voided, with_range, narrowed}
use Rattle.intervals.specs.Answers.{home_spans, start_box}

-- the range of setting k of a line with n settings
pub record Good (n k : ℕ) (low high : ℤ) : Type 0 where
  pub ordered : low ≤ℤ high
  pub bottom : neg_ℤ (pos 1000000) ≤ℤ low
  pub top : high ≤ℤ pos 1000000
  pub past : n ≤ k → (low ≡ pos 0) × (high ≡ pos 0)

pub record Sound (s : IntervalBox) : Type 0 where
  pub some : 1 ≤ s.n
  pub most : s.n ≤ 8
  pub spans_are : length s.spans ≡ 8
  pub good : (k : ℕ) → Good s.n k (low_at s k) (high_at s k)

-- the three ways in which narrowing goes
pub narrowed_cases : (s : IntervalBox) (k : ℕ) (lo hi : ℤ) (P : IntervalBox → Type 0) → (s.void ≡ true → P s) → (s.void ≡ false → hi <ℤ lo → P (voided s)) → (s.void ≡ false → lo ≤ℤ hi → P (with_range s k lo hi)) → P (narrowed s k lo hi)
narrowed_cases s k lo hi P was empties keeps = by s.void refl (int_lt hi lo) refl
  where
    by : (v : Bool) → s.void ≡ v → (b : Bool) → int_lt hi lo ≡ b → P (cond v s (cond b (voided s) (with_range s k lo hi)))
    by true e b f = was e
    by false e true f = empties e (omega (arith, ints))
    by false e false f = keeps e (omega (arith, ints))

-- what is read after a write: the new range at its setting, the old one elsewhere
pub range_cases : (s : IntervalBox) (k : ℕ) (lo hi : ℤ) (j : ℕ) (P : ℤ → ℤ → Type 0) → Sound s → k < 8 → (j ≡ k → P lo hi) → ((j ≢ k) → P (low_at s j) (high_at s j)) → P (low_at (with_range s k lo hi) j) (high_at (with_range s k lo hi) j)
range_cases s k lo hi j P sd h here there = ⊎_elim same other (cases_eq j k)
  where
    span : Span
    span = record { low = lo; high = hi }

    same : j ≡ k → P (low_at (with_range s k lo hi) j) (high_at (with_range s k lo hi) j)
    same e = subst (λ r. P r.low r.high) (sym (subst (λ i. slice_index_or (slice_set s.spans k span) i zero_span ≡ span) (sym e) (get_or-set_same s.spans k span zero_span (omega (arith, sd.spans_are))))) (here e)

    other : (j ≢ k) → P (low_at (with_range s k lo hi) j) (high_at (with_range s k lo hi) j)
    other ne = subst (λ r. P r.low r.high) (sym (get_or-set_other s.spans k j span zero_span ne)) (there ne)

zero_at : (k : ℕ) → slice_index_or (replicate 8 zero_span) k zero_span ≡ zero_span
zero_at k = ⊎_elim (λ (h : k < 8). get_or-replicate 8 k zero_span zero_span h) (λ (h : 8 ≤ k). get_or_past (replicate 8 zero_span) k zero_span (omega (arith, length-replicate 8 zero_span))) (cases_lt k 8)

zero_good : (n k : ℕ) → Good n k (pos 0) (pos 0)
zero_good n k = record { ordered = omega (arith, ints); bottom = omega (arith, ints); top = omega (arith, ints); past = λ _. (refl, refl) }

pub voided_sound : (s : IntervalBox) → Sound s → Sound (voided s)
voided_sound s sd = record {
  some = sd.some;
  most = sd.most;
  spans_are = length-replicate 8 zero_span;
  good = λ k. rw (zero_at k) (zero_good s.n k);
}

module _ (s : IntervalBox) (sd : Sound s) (k : ℕ) (on : k < s.n) (lo hi : ℤ) (above : low_at s k ≤ℤ lo) (below : hi ≤ℤ high_at s k) where
  range_good : lo ≤ℤ hi → (j : ℕ) → Good s.n j (low_at (with_range s k lo hi) j) (high_at (with_range s k lo hi) j)
  range_good le j =
      let g = sd.good k in
      range_cases s k lo hi j (Good s.n j) sd (omega (arith, sd.most)) (λ e. record { ordered = le; bottom = omega (arith, ints, g.bottom); top = omega (arith, ints, g.top); past = λ n≤j. absurd (omega arith) }) (λ _. sd.good j)

  pub narrowed_sound : Sound (narrowed s k lo hi)
  narrowed_sound =
      narrowed_cases s k lo hi Sound (λ _. sd) (λ _ _. voided_sound s sd) (λ _ le. record {
        some = sd.some;
        most = sd.most;
        spans_are = length-set s.spans k _ ∙ sd.spans_are;
        good = range_good le;
      })

-- the home's own span before n
pub home_span_at : (h : Home) (k : ℕ) → h.n ≤ 8 → k < h.n → slice_index_or (home_spans h) k zero_span ≡ record { low = low_of h k; high = high_of h k }
unfolding home_spans
home_span_at h k most l = span_before h.n (low_of h) (high_of h) k most l

module _ (h : Home) (ok : Passes h) where
  start_good : (k : ℕ) → Good h.n k (low_at (start_box h) k) (high_at (start_box h) k)
  unfolding home_spans
  start_good k = ⊎_elim on off (cases_lt k h.n)
    where
      on : k < h.n → Good h.n k (low_at (start_box h) k) (high_at (start_box h) k)
      on l =
          let p = passed_at h ok k l in
          subst (λ r. Good h.n k r.low r.high) (sym (home_span_at h k (passed_n h ok).1 l)) (record { ordered = p.ordered; bottom = p.low_within.0; top = p.high_within.1; past = λ n≤k. absurd (omega arith) })

      off : h.n ≤ k → Good h.n k (low_at (start_box h) k) (high_at (start_box h) k)
      off l = subst (λ r. Good h.n k r.low r.high) (sym (span_past h.n (low_of h) (high_of h) k l)) (zero_good h.n k)

  pub start_sound : Sound (start_box h)
  unfolding home_spans
  start_sound = record { some = (passed_n h ok).0; most = (passed_n h ok).1; spans_are = length_spans h.n (low_of h) (high_of h); good = start_good }
