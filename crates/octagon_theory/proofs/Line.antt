-- The matrix algebra at the nodes of a line: a cut on a tightly closed matrix gives a tightly closed one, and so every entry is reached, by a point of the matrix cut at that entry.
use Rattle.std.proofs.Common.{◌≡◌, ℕ, suc, ◌*◌, ◌<◌, List, [], length, ℤ, pos, ◌+ℤ◌, neg_ℤ, ◌≤ℤ◌, ap₂, arith}
use mathlib.Core.HLevel.{Σ_prop_path}
use native.Mathlib.Bridge.{le_prop}
use borrow.Author.Differences.{ints}
use Rattle.interface.specs.Nodes.{opp, value}
use Rattle.interface.specs.Numbers.{half}
use Rattle.octagon_theory.specs.Matrices.{TightlyClosed, Below, shortest, rounded, least_values}
use Rattle.octagon_theory.proofs.LeastPoint.{least_below, length_least_values}
use Rattle.interface.proofs.Values.{value_opp}
use Rattle.octagon_theory.proofs.Nodes.{opp_opp, opp_below}
use Rattle.octagon_theory.proofs.OneCut.{cut_tight}
use Rattle.octagon_theory.proofs.Points.{under_cut, under_uncut, under_rounded, under_unrounded, meets_from_cut}
use Rattle.octagon_theory.proofs.Rounding.{rounded_tight}
use Rattle.octagon_theory.proofs.Tight.{Closed, Tight, Under}

-- a node of a line of n settings
abbrev pub Node : ℕ → Type 0
Node n = (p : ℕ) × (p < 2 * n)

module _ (n : ℕ) where
  unfoldable pub flip : Node n → Node n
  flip p = (opp p.0, opp_below n p.0 p.1)

  pub flip_flip : (p : Node n) → flip (flip p) ≡ p
  unfolding flip
  flip_flip p = Σ_prop_path (λ (k : ℕ). le_prop {n = suc k} {m = 2 * n}) {u = flip (flip p)} {v = p} (opp_opp p.0)

  -- the matrix at the nodes of the line
  abbrev pub on_line : (ℕ → ℕ → ℤ) → Node n → Node n → ℤ
  on_line L p q = L p.0 q.0

  pub tight_there : (L : ℕ → ℕ → ℤ) → TightlyClosed n L → Tight flip (on_line L)
  unfolding flip
  tight_there L K = record {
    closed = record {
      symmetric = λ p q. K.symmetric p.0 q.0 p.1 q.1;
      opposite = λ p. K.opposite p.0 p.1;
      triangle = λ p q r. K.triangle p.0 q.0 r.0 p.1 q.1 r.1;
    };
    even = λ p. K.even p.0 p.1;
    joined = λ p q. K.joined p.0 q.0 p.1 q.1;
  }

  pub tight_here : (L : ℕ → ℕ → ℤ) → Tight flip (on_line L) → TightlyClosed n L
  unfolding flip
  tight_here L T = record {
    symmetric = λ p q a b. T.closed.symmetric (p, a) (q, b);
    opposite = λ p a. T.closed.opposite (p, a);
    triangle = λ p q r a b c. T.closed.triangle (p, a) (q, b) (r, c);
    even = λ p a. T.even (p, a);
    joined = λ p q a b. T.joined (p, a) (q, b);
  }

  -- a point as values at the nodes of the line
  at_node : List ℤ → Node n → ℤ
  at_node x p = value x p.0

  at_node_odd : (x : List ℤ) (p : Node n) → at_node x (flip p) ≡ neg_ℤ (at_node x p)
  unfolding at_node flip
  at_node_odd x p = value_opp x p.0

  below_there : (L : ℕ → ℕ → ℤ) (x : List ℤ) → length x ≡ n → Below L x → Under (on_line L) (at_node x)
  unfolding at_node
  below_there L x l h p q = let a = p.1 in let b = q.1 in h p.0 q.0 (omega arith) (omega arith)

  below_here : (L : ℕ → ℕ → ℤ) (x : List ℤ) → length x ≡ n → Under (on_line L) (at_node x) → Below L x
  unfolding at_node
  below_here L x l h p q a b = h (p, omega arith) (q, omega arith)

  -- ---- round and join
  pub rounded_line : (D : ℕ → ℕ → ℤ) → Closed flip (on_line D) → ((p : ℕ) → p < 2 * n → pos 0 ≤ℤ (half (D p p) +ℤ half (D (opp p) (opp p)))) → TightlyClosed n (rounded D)
  unfolding flip
  rounded_line D C apart = tight_here (rounded D) (rounded_tight flip flip_flip (on_line D) C (λ p. apart p.0 p.1))

  module _ (x : List ℤ) (l : length x ≡ n) where
    pub below_rounded : (D : ℕ → ℕ → ℤ) → Below D x → Below (rounded D) x
    below_rounded D h = below_here (rounded D) x l (under_rounded flip (at_node x) (at_node_odd x) (on_line D) (below_there D x l h))

    pub below_unrounded : (D : ℕ → ℕ → ℤ) → Below (rounded D) x → Below D x
    below_unrounded D h = below_here D x l (under_unrounded flip (at_node x) (at_node_odd x) (on_line D) (below_there (rounded D) x l h))

  -- ---- one cut
  module _ (L : ℕ → ℕ → ℤ) (K : TightlyClosed n L) (p q : ℕ) (a : p < 2 * n) (b : q < 2 * n) (c : ℤ) where
    pub cut_line : pos 0 ≤ℤ (c +ℤ L (opp p) (opp q)) → TightlyClosed n (rounded (shortest L (opp p) (opp q) c))
    unfolding flip shortest
    cut_line m = tight_here (rounded (shortest L (opp p) (opp q) c)) (cut_tight flip flip_flip (on_line L) (tight_there L K) (flip (p, a)) (flip (q, b)) c m)

    module _ (x : List ℤ) (l : length x ≡ n) where
      pub cut_keeps : Below L x → (value x p +ℤ value x q) ≤ℤ c → Below (rounded (shortest L (opp p) (opp q) c)) x
      unfolding flip shortest at_node
      cut_keeps h m = below_here (rounded (shortest L (opp p) (opp q) c)) x l (under_cut flip (at_node x) (at_node_odd x) (on_line L) (p, a) (q, b) c (below_there L x l h) m)

      pub cut_adds_none : Below (rounded (shortest L (opp p) (opp q) c)) x → Below L x
      unfolding flip shortest at_node
      cut_adds_none h = below_here L x l (under_uncut flip (at_node x) (at_node_odd x) (on_line L) (p, a) (q, b) c (below_there (rounded (shortest L (opp p) (opp q) c)) x l h))

      pub cut_met : Below (rounded (shortest L (opp p) (opp q) c)) x → (value x p +ℤ value x q) ≤ℤ c
      unfolding flip shortest at_node
      cut_met h = meets_from_cut flip (at_node x) (at_node_odd x) (on_line L) (p, a) (q, b) c (tight_there L K).closed (below_there (rounded (shortest L (opp p) (opp q) c)) x l h)

  -- ---- every entry is reached
  pub some_point : (L : ℕ → ℕ → ℤ) → TightlyClosed n L → (x : List ℤ) × (length x ≡ n) × Below L x
  some_point L K = (least_values L [] n, length_least_values L [] n, least_below n L K n [] (omega arith) (λ p q a b. absurd (omega arith)))

  pub reached : (L : ℕ → ℕ → ℤ) → TightlyClosed n L → (p q : ℕ) → p < 2 * n → q < 2 * n → (x : List ℤ) × (length x ≡ n) × Below L x × (value x p +ℤ value x q ≡ L p q)
  reached L K p q a b =
      let c = neg_ℤ (L p q) in
      let e : L (opp (opp p)) (opp (opp q)) ≡ L p q = ap₂ L (opp_opp p) (opp_opp q) in
      let a' = opp_below n p a in
      let b' = opp_below n q b in
      let x = some_point (rounded (shortest L (opp (opp p)) (opp (opp q)) c)) (cut_line L K (opp p) (opp q) a' b' c (omega (arith, ints))) in
      let under = cut_adds_none L K (opp p) (opp q) a' b' c x.0 x.1 x.2 in
      let over = cut_met L K (opp p) (opp q) a' b' c x.0 x.1 x.2 in
      let l = x.1 in
      let top = under p q (omega arith) (omega arith) in
      let v = value_opp x.0 p in
      let w = value_opp x.0 q in
      (x.0, x.1, under, omega (arith, ints))
