-- What opening, stating a rule and asking a limit mean, in terms of the points that the solver's shape holds, and what a run is to one that follows it. Assumes nothing.
use Rattle.std.specs.Prelude.{◌≡◌, ℕ, ◌+◌, ◌≤◌, true, ◌≢◌, List, length, ℤ, ◌+ℤ◌, ◌≤ℤ◌, Ok, Decides, Result}
use Rattle.interface.specs.declared.extent.Extent.TheVariants.{Lone}
use Rattle.interface.specs.declared.fault.SolverFault.{SolverFault}
use Rattle.interface.specs.declared.home.Home.{Home}
use Rattle.interface.specs.Homes.{InHome}
use Rattle.interface.specs.Nodes.{value}
use Rattle.interface.specs.Numbers.{within}
use Rattle.interface.specs.Rules.{RuleModel}
use Rattle.interface.specs.Shapes.{ShapeModel, Made}
use Rattle.search_theory.specs.declared.outcome.Outcome.TheVariants.{ListFull, StackFull}
use Rattle.search_theory.specs.declared.region.Region.{Region}
use Rattle.search_theory.specs.declared.report.Report.{Report}
use Rattle.search_theory.specs.Calls.{run_call}
use Rattle.search_theory.specs.Portions.{AsBoth}
use Rattle.search_theory.specs.RegionLaws.{Narrowed}
use Rattle.search_theory.specs.Solving.{Solving, Left}

-- a solver just opened holds exactly the points of its home
abbrev pub Opens : {S : Type 0} → ShapeModel S → Home → Result (Solving S) SolverFault → Type 0
Opens {S} M h r = (s : Solving S) → r ≡ Ok s → Made M s.shape × (M.n s.shape ≡ h.n) × ((x : List ℤ) → Decides (M.holds s.shape x) (InHome h x))

-- an accepted rule keeps every held point that meets it, and adds none
abbrev pub StateNarrows : {S R T : Type 0} → ShapeModel S → RuleModel R → Solving S → R → Left S (Unit {0}) T → Type 0
StateNarrows M K s r l = Made M s.shape → l.reply ≡ Ok tt → Narrowed M (λ x. K.meets (M.n s.shape) r x ≡ true) s.shape l.solver.shape

-- m bounds v(p) + v(q) over the points that the shape holds, and is that sum where the shape holds one point
pub record Bounds {S : Type 0} (M : ShapeModel S) (s : S) (p q : ℕ) (m : ℤ) : Type 0 where
  pub above : (x : List ℤ) → M.holds s x ≡ true → (value x p +ℤ value x q) ≤ℤ m
  pub on_lone : M.extent s ≡ Lone → (x : List ℤ) → M.holds s x ≡ true → m ≡ value x p +ℤ value x q
  pub in_range : within 2000000 m ≡ true

-- an answered limit bounds
abbrev pub LimitBounds : {S : Type 0} → ShapeModel S → Solving S → ℕ → ℕ → Result ℤ SolverFault → Type 0
LimitBounds M s p q r = Made M s.shape → (m : ℤ) → r ≡ Ok m → Bounds M s.shape p q m

-- a run of budget a that left l, and then one of b with an out slice of its own, do what one of a + b does, given room
abbrev pub InPortions : {S R : Type 0} → ShapeModel S → RuleModel R → Solving S → List R → List S → ℕ → Left S Report (List S × List (Region S)) → Type 0
InPortions {S} M K s rules stack a l = (b : ℕ) (other whole : List (Region S)) (p q : Report) → let second = run_call M K l.solver rules l.slices.0 other b in let once = run_call M K s rules stack whole (a + b) in l.reply ≡ Ok p → second.reply ≡ Ok q → p.outcome ≢ ListFull → p.outcome ≢ StackFull → q.outcome ≢ ListFull → p.count + q.count ≤ length whole → (r : Report) × (once.reply ≡ Ok r) × AsBoth l second once p q r
