-- A cut keeps every held point that meets it: what it bounds follows from v(p) + v(q) at most c and the least values. Assumes nothing.
use Rattle.std.specs.Prelude.{◌≡◌, ◌*◌, ◌<◌, ◌≤◌, Bool, true, false, cond, ◌&&◌, List, ℤ, ◌+ℤ◌, ◌-ℤ◌, ◌≤ℤ◌, ◌==◌, refl}
use Rattle.std.proofs.Common.{sym, subst, le_refl, arith}
use Rattle.std.proofs.lemmas.Int.{ints}
use Rattle.std.proofs.lemmas.Bool.{and_parts, ltb-true, eqb-true}
use Rattle.interface.specs.declared.cut.Cut.{Cut}
use Rattle.interface.specs.Cuts.{Meets}
use Rattle.interface.specs.Nodes.{value}
use Rattle.interface.specs.Numbers.{half}
use Rattle.interface.proofs.Halves.{half_is}
use Rattle.intervals.specs.declared.interval_box.IntervalBox.{IntervalBox}
use Rattle.intervals.specs.Boxes.{least, on_line, bounded}
use Rattle.intervals.specs.Answers.{cut_box, halvings_box}
use Rattle.intervals.specs.Holding.{In, between}
use Rattle.intervals.specs.Restricts.{Restricts, restricts_both, bounded_restricts}
use Rattle.intervals.specs.Sound.{Sound}

-- r keeps every point of s that meets the cut, and adds none
pub record Cuts (s r : IntervalBox) (t : Cut) : Type 0 where
  pub same_n : r.n ≡ s.n
  pub sound : Sound r
  pub keeps : (x : List ℤ) → In s x → Meets x t → In r x
  pub adds_none : (x : List ℤ) → In r x → In s x
  pub fewer : halvings_box r ≤ halvings_box s

cuts_by : {s r : IntervalBox} {Q : List ℤ → Type 0} (t : Cut) → Restricts s r Q → ((x : List ℤ) → In s x → Meets x t → Q x) → Cuts s r t
cuts_by t h met = record { same_n = h.same_n; sound = h.sound; keeps = λ x i m. h.keeps x i (met x i m); adds_none = λ x i. (h.adds_none x i).0; fewer = h.fewer }

cuts_nothing : (s : IntervalBox) (t : Cut) → Sound s → Cuts s s t
cuts_nothing s t sd = record { same_n = refl; sound = sd; keeps = λ x i _. i; adds_none = λ x i. i; fewer = le_refl (halvings_box s) }

module _ (s : IntervalBox) (sd : Sound s) (t : Cut) (on-p : t.p < 2 * s.n) (on-q : t.q < 2 * s.n) where
  sum_met : (x : List ℤ) → In s x → Meets x t → (value x t.p +ℤ value x t.q) ≤ℤ t.c
  sum_met x i m = m (omega (arith, i.sized)) (omega (arith, i.sized))

  once : t.p ≡ t.q → Cuts s (bounded s t.p (half t.c)) t
  once e = cuts_by t (bounded_restricts s sd t.p on-p (half t.c)) (λ x i m. let sum = subst (λ q. (value x t.p +ℤ value x q) ≤ℤ t.c) (sym e) (sum_met x i m) in omega (arith, ints, half_is t.c, sum))

  both : Cuts s (bounded (bounded s t.p (t.c -ℤ least s t.q)) t.q (t.c -ℤ least s t.p)) t
  both =
      let first = bounded_restricts s sd t.p on-p (t.c -ℤ least s t.q) in
      let second = bounded_restricts (bounded s t.p (t.c -ℤ least s t.q)) first.sound t.q (omega (arith, first.same_n)) (t.c -ℤ least s t.p) in
      cuts_by t (restricts_both first second) (λ x i m. let sum = sum_met x i m in (omega (arith, ints, sum, (between s x i t.q on-q).0), omega (arith, ints, sum, (between s x i t.p on-p).0)))

pub cut_cuts : (s : IntervalBox) → Sound s → (t : Cut) → Cuts s (cut_box s t) t
cut_cuts s sd t = by (on_line s t.p && on_line s t.q) refl (t.p == t.q) refl
  where
    by : (b : Bool) → (on_line s t.p && on_line s t.q) ≡ b → (v : Bool) → (t.p == t.q) ≡ v → Cuts s (cond b (cond v (bounded s t.p (half t.c)) (bounded (bounded s t.p (t.c -ℤ least s t.q)) t.q (t.c -ℤ least s t.p))) s) t
    by false e v f = cuts_nothing s t sd
    by true e true f = let on = and_parts (on_line s t.p) (on_line s t.q) e in once s sd t (ltb-true t.p (2 * s.n) on.0) (ltb-true t.q (2 * s.n) on.1) (eqb-true t.p t.q f)
    by true e false f = let on = and_parts (on_line s t.p) (on_line s t.q) e in both s sd t (ltb-true t.p (2 * s.n) on.0) (ltb-true t.q (2 * s.n) on.1)
