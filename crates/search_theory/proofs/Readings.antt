-- A made shape has at most eight settings, each point that it holds gives each a value, and its reading tells of them. Assumes nothing.
use Rattle.std.proofs.Common.{◌≡◌, ℕ, ◌+◌, ◌*◌, ◌/◌, ◌%◌, ◌<◌, Bool, true, false, cond, not, ◌&&◌, ltb, List, map, length, get_or, ℤ, pos, ◌+ℤ◌, ◌≤ℤ◌, Ok, Err, Result, sym, refl, ◌∙◌, subst, ⊎_elim, arith}
use Rattle.std.specs.List.{range_with_len}
use Rattle.std.proofs.lemmas.List.FromFn.{get_or-map-range_with_len}
use Rattle.std.proofs.lemmas.Bool.{and_parts, ltb-true, lt-ltb, and_from, cond-true}
use Rattle.interface.specs.declared.extent.Extent.TheVariants.{Lone}
use Rattle.interface.specs.declared.fault.RecordFault.{RecordFault}
use Rattle.interface.specs.declared.home.Home.{Home}
use Rattle.interface.specs.Grounds.{next}
use Rattle.interface.specs.Homes.{Passes}
use Rattle.interface.specs.Nodes.{value}
use Rattle.interface.specs.Readings.{limit_at, Within, SumsOf}
use Rattle.interface.specs.Shapes.{ShapeModel, ShapeLaws, Made, one_if, by_start, by_cut, by_lower, by_upper}
use Rattle.search_theory.specs.Regions.{read}
use Rattle.search_theory.proofs.Cases.{err≢ok, cases_open}

settled : (b : Bool) (f : RecordFault) (r : Result (Unit {0}) RecordFault) → next (cond (not b) (Err f) (Ok tt)) r ≡ Ok tt → b ≡ true
settled true f r e = refl
settled false f r e = absurd (err≢ok e)

-- a home that passes its check has at most eight settings
pub home_n : (h : Home) → Passes h → h.n < 9
home_n h p = ltb-true h.n 9 (and_parts (ltb 0 h.n) (ltb h.n 9) (settled (ltb 0 h.n && ltb h.n 9) _ _ p)).1

-- one of two parts holds the point only if both together count it
either_part : (a b c : Bool) → one_if a + one_if b ≡ one_if c → a ≡ true → c ≡ true
either_part a b true e h = refl
either_part true true false e h = absurd (omega (arith, e))
either_part true false false e h = absurd (omega (arith, e))
either_part false b false e h = h

other_part : (a b c : Bool) → one_if a + one_if b ≡ one_if c → b ≡ true → c ≡ true
other_part a b c e h = either_part b a c (omega (arith, e)) h

module _ {S : Type 0} {M : ShapeModel S} (L : ShapeLaws M) where
  -- a part adds no point
  pub lower_adds_none : (s : S) → Made M s → (x : List ℤ) → M.holds (M.lower s) x ≡ true → M.holds s x ≡ true
  lower_adds_none s m x h = ⊎_elim (λ o. either_part _ (M.holds (M.upper s) x) _ (L.split_holds s m o x) h) (λ o. subst (λ t. M.holds t x ≡ true) (L.split_same s m o).0 h) (cases_open (M.extent s))

  pub upper_adds_none : (s : S) → Made M s → (x : List ℤ) → M.holds (M.upper s) x ≡ true → M.holds s x ≡ true
  upper_adds_none s m x h = ⊎_elim (λ o. other_part (M.holds (M.lower s) x) _ _ (L.split_holds s m o x) h) (λ o. subst (λ t. M.holds t x ≡ true) (L.split_same s m o).1 h) (cases_open (M.extent s))

  pub made_n : {s : S} → Made M s → M.n s < 9
  made_n (by_start h p) = subst (λ k. k < 9) (sym (L.start_n h p)) (home_n h p)
  made_n (by_cut {s} m t) = subst (λ k. k < 9) (sym (L.cut_n s m t)) (made_n m)
  made_n (by_lower {s} m) = subst (λ k. k < 9) (sym (L.split_n s m).0) (made_n m)
  made_n (by_upper {s} m) = subst (λ k. k < 9) (sym (L.split_n s m).1) (made_n m)

  -- a held point has a value for each setting
  pub held_n : {s : S} → Made M s → (x : List ℤ) → M.holds s x ≡ true → length x ≡ M.n s
  held_n (by_start h p) x e = ((L.start_holds h p x).0 e).0 ∙ sym (L.start_n h p)
  held_n (by_cut {s} m t) x e = held_n m x (L.cut_adds_none s m t x e) ∙ sym (L.cut_n s m t)
  held_n (by_lower {s} m) x e = held_n m x (lower_adds_none s m x e) ∙ sym (L.split_n s m).0
  held_n (by_upper {s} m) x e = held_n m x (upper_adds_none s m x e) ∙ sym (L.split_n s m).1

place : (f : ℕ → ℕ → ℤ) (p q n : ℕ) → p < 16 → q < 16 → n ≡ 256 → cond (ltb p 16 && ltb q 16) (get_or (map (λ k. f (k / 16) (k % 16)) (range_with_len 0 n)) (16 * p + q) (pos 0)) (pos 0) ≡ f p q
place f p q n hp hq hn =
    let e : (16 * p + q) / 16 ≡ p = omega arith in
    let d : (16 * p + q) % 16 ≡ q = omega arith in
    cond-true _ _ _ (and_from _ _ (lt-ltb p 16 hp) (lt-ltb q 16 hq)) ∙ get_or-map-range_with_len (λ k. f (k / 16) (k % 16)) 0 n (16 * p + q) (16 * p + q) (pos 0) (omega (arith, hn)) (omega arith) ∙ (λ i. f (e i) (d i))

module _ {S : Type 0} (M : ShapeModel S) where
  pub read_n : (s : S) → (read M s).n ≡ M.n s
  unfolding read
  read_n s = refl

  -- the reading's limits are the shape's
  pub read_limit : (s : S) (p q : ℕ) → p < 16 → q < 16 → limit_at (read M s) p q ≡ M.limit s p q
  unfolding read
  read_limit s p q hp hq = place (M.limit s) p q 256 hp hq refl

module _ {S : Type 0} {M : ShapeModel S} (L : ShapeLaws M) where
  -- a node on the line is below 16
  on_line : {s : S} → Made M s → (p : ℕ) → p < 2 * M.n s → p < 16
  on_line m p h = omega (arith, made_n L m, h)

  -- a held point is within the reading
  pub held_within : (s : S) → Made M s → (x : List ℤ) → M.holds s x ≡ true → Within (read M s) x
  held_within s m x h = (
    held_n L m x h ∙ sym (read_n M s),
    λ p q hp hq.
        let hp' : p < 2 * M.n s = subst (λ k. p < 2 * k) (read_n M s) hp in
        let hq' : q < 2 * M.n s = subst (λ k. q < 2 * k) (read_n M s) hq in
        subst (λ z. (value x p +ℤ value x q) ≤ℤ z) (sym (read_limit M s p q (on_line m p hp') (on_line m q hq'))) (L.limit_above s m x h p q hp' hq'),
  )

  -- a lone shape's reading has the exact sums of its one point
  pub lone_sums : (s : S) → Made M s → M.extent s ≡ Lone → (x : List ℤ) → M.holds s x ≡ true → SumsOf (read M s) x
  lone_sums s m o x h = (
    held_n L m x h ∙ sym (read_n M s),
    λ p q hp hq.
        let hp' : p < 2 * M.n s = subst (λ k. p < 2 * k) (read_n M s) hp in
        let hq' : q < 2 * M.n s = subst (λ k. q < 2 * k) (read_n M s) hq in
        sym (read_limit M s p q (on_line m p hp') (on_line m q hq') ∙ L.lone_limit s m o x h p q hp' hq'),
  )
