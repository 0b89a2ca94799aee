-- Opening starts a history and each call makes it one call longer, by what the contracts of the two say. Assumes nothing.
use Rattle.std.proofs.Common.{◌≡◌, List, [], length, IfOk, Some, Ok, Err, Option, Result, sym, refl, ap, subst}
use mathlib.Core.Logic.{∥∥₁_map}
use Rattle.std.proofs.lemmas.List.{append-nil}
use Rattle.interface.specs.declared.fault.RecordFault.{RecordFault}
use Rattle.interface.specs.declared.fault.SolverFault.{SolverFault}
use Rattle.interface.specs.declared.fault.SolverFault.TheVariants.{Record}
use Rattle.interface.specs.declared.home.Home.{Home}
use Rattle.interface.specs.Homes.{home_check}
use Rattle.octagon.specs.declared.matrix.Octagon.{Octagon}
use Rattle.octagon.specs.Octagons.{octagon_model}
use Rattle.rules.specs.Any.{AnyRule, any_model}
use Rattle.search.specs.declared.solver.Solver.{Solver}
use Rattle.search.specs.Views.{view, view_if_any, answered_by}
use Rattle.search_theory.specs.declared.region.Region.{Region}
use Rattle.search_theory.specs.declared.reply.Reply.{Reply}
use Rattle.search_theory.specs.declared.request.Request.{Request}
use Rattle.search_theory.specs.Ledgers.{Ledger, History, noted, opened_ledger}
use Rattle.search_theory.specs.Ledgers.History.{start, call}
use Rattle.search_theory.specs.Requests.{World, whole, answer}
use Rattle.search_theory.specs.Solving.{Solving, opened, open_call, decided}
use Rattle.fitter.specs.declared.store.Memory.{Memory}
use Rattle.session.specs.Promised.{PromisedWhole}
use Rattle.fitter.specs.Sessions.{world, Session, Asked}

abbrev Reached : Ledger Octagon AnyRule → World Octagon AnyRule → Type 0
Reached = History octagon_model any_model

all_lent : (w : World Octagon AnyRule) → whole w [] [] [] ≡ w
all_lent w = λ i. record { solver = w.solver; rules = append-nil w.rules i; checkpoints = append-nil w.checkpoints i; stack = append-nil w.stack i }

one_more : (l : Ledger Octagon AnyRule) (w : World Octagon AnyRule) → Reached l w → (out : List (Region Octagon)) (q : Request AnyRule) → Reached (noted octagon_model any_model l (length w.stack) q (answer octagon_model any_model w out q).reply) (answer octagon_model any_model w out q).world
one_more l w h out q = subst (Reached _) (all_lent (answer octagon_model any_model w out q).world) (call l w [] [] [] (subst (Reached l) (sym (all_lent w)) h) out q)

pub goes_on : (s s' : Solver Octagon) (m m' : Memory) (q : Request AnyRule) (r : Result Reply SolverFault) → answered_by r (world s' m') m'.regions ≡ answer octagon_model any_model (world s m) m.regions q → Session (Some s) m → Session (Some s') m'
goes_on s s' m m' q r e t = ∥∥₁_map t (λ y. (_, subst (Reached _) (sym (ap (λ a. a.world) e)) (one_more y.0 (world s m) y.1 m.regions q)))

abbrev solver_or : Solving Octagon → Result (Solving Octagon) SolverFault → Solving Octagon
solver_or s (Ok t) = t
solver_or s (Err f) = s

abbrev Accepts : Result (Solving Octagon) SolverFault → Type 0
Accepts (Ok t) = Unit {0}
Accepts (Err f) = ⊥

starts_if : (h : Home) (s : Solver Octagon) (m : Memory) (g : Result (Unit {0}) RecordFault) → home_check h ≡ g → Ok (view s) ≡ decided g (λ f. Err (Record f)) (Ok (opened octagon_model h)) → Session (Some s) m
starts_if h s m (Ok u) e p = ∣ (opened_ledger h, subst (λ t. Reached (opened_ledger h) (record { solver = t; rules = m.rules; checkpoints = m.checkpoints; stack = m.stack })) (sym (ap (solver_or (view s)) p)) (start h e m.rules m.checkpoints m.stack)) ∣₁
starts_if h s m (Err f) e p = absurd (subst Accepts p tt)

pub starts : (h : Home) (m : Memory) (r : Result (Solver Octagon) SolverFault) → view_if_any r ≡ open_call octagon_model h → IfOk r (λ s. Session (Some s) m)
starts h m (Ok s) p = starts_if h s m (home_check h) refl p
starts h m (Err f) p = tt

-- what the call promises on every history, it promises on the session's own
pub asked : (o : Option (Solver Octagon)) (s s' : Solver Octagon) (m m' : Memory) (q : Request AnyRule) (a : Result Reply SolverFault) → o ≡ Some s → Session o m → answered_by a (world s' m') m'.regions ≡ answer octagon_model any_model (world s m) m.regions q → PromisedWhole octagon_model any_model (world s m) q (answered_by a (world s' m') m'.regions) → Asked o m q (Some a) (Some s') m'
asked o s s' m m' q a e t answers promise =
    subst
    (λ x. Session x m → Asked x m q (Some a) (Some s') m')
    (sym e)
    (λ u. (answers, ∥∥₁_map u (λ y. let p = promise y.0 [] [] [] (subst (Reached y.0) (sym (all_lent (world s m))) y.1) in (y.0, y.1, p.0, p.1))))
    t
