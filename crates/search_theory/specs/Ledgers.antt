-- What a bystander writes down who hears only the accepted calls and sees what is handed out. Assumes nothing.
use Rattle.std.specs.Prelude.{ℕ, ◌+◌, Bool, true, false, ◌&&◌, List, [], ◌∷◌, ◌++◌, length, Ok, Err, Result, nat_le}
use Rattle.interface.specs.declared.fault.SolverFault.{SolverFault}
use Rattle.interface.specs.declared.home.Home.{Home}
use Rattle.interface.specs.Homes.{Passes}
use Rattle.interface.specs.Rules.{RuleModel}
use Rattle.interface.specs.Shapes.{ShapeModel}
use Rattle.search_theory.specs.declared.checkpoint.Checkpoint.{Checkpoint}
use Rattle.search_theory.specs.declared.phase.Phase.{Phase}
use Rattle.search_theory.specs.declared.phase.Phase.TheVariants.{Stating, Searching}
use Rattle.search_theory.specs.declared.region.Region.{Region}
use Rattle.search_theory.specs.declared.reply.Reply.{Reply}
use Rattle.search_theory.specs.declared.reply.Reply.TheVariants.{Accepted, Ran, LimitIs}
use Rattle.search_theory.specs.declared.report.Report.{Report}
use Rattle.search_theory.specs.declared.request.Request.{Request}
use Rattle.search_theory.specs.declared.request.Request.TheVariants.{State, Mark, Back, Keep, Begin, Run, Leave, Limit}
use Rattle.search_theory.specs.Requests.{World, whole, answer}
use Rattle.search_theory.specs.Solving.{opened}
use Rattle.search_theory.specs.Standing.{shape_of}
use Rattle.search_theory.specs.Walks.{Held, held, walk}

-- of the search: the phase, what waits and what was handed out since it began, how many stack places it needs, and whether each run since was lent so many
pub record Search (S : Type 0) : Type 0 where
  pub phase : Phase
  pub regions : Held S
  pub need : ℕ
  pub ample : Bool

-- the home, the rules that stand, the lists of rules that marks noted, the last first, and the search
pub record Ledger (S R : Type 0) : Type 0 where
  pub home : Home
  pub standing : List R
  pub notes : List (List R)
  pub search : Search S

abbrev ledger : {S R : Type 0} → Home → List R → List (List R) → Search S → Ledger S R
ledger h rs ns s = record { home = h; standing = rs; notes = ns; search = s }

-- of a solver just opened
abbrev pub opened_ledger : {S R : Type 0} → Home → Ledger S R
opened_ledger h = ledger h [] [] (record { phase = Stating; regions = held [] []; need = 0; ample = false })

-- going back takes the last note as the rules that stand
abbrev pub last_note : {R : Type 0} → List (List R) → List R → List R
last_note [] rs = rs
last_note (n ∷ ns) rs = n

abbrev pub earlier_notes : {R : Type 0} → List (List R) → List (List R)
earlier_notes [] = []
earlier_notes (n ∷ ns) = ns

module _ {S R : Type 0} (M : ShapeModel S) (K : RuleModel R) where
  -- the shape alone waits; one place more than its halvings is enough
  abbrev pub begun : Ledger S R → Search S
  begun l = record { phase = Searching; regions = held (shape_of M K l.home l.standing ∷ []) []; need = 1 + M.halvings (shape_of M K l.home l.standing); ample = true }

  -- as many steps as the report says; places is the length of the lent stack slice
  abbrev pub moved : Ledger S R → ℕ → Report → Search S
  moved l places p = record { phase = l.search.phase; regions = walk M K l.standing p.steps l.search.regions; need = l.search.need; ample = l.search.ample && nat_le l.search.need places }

  -- nothing waits any more
  abbrev pub quit : Ledger S R → Search S
  quit l = record { phase = Stating; regions = held [] l.search.regions.handed; need = l.search.need; ample = l.search.ample }

  abbrev pub heard : Ledger S R → ℕ → Request R → Reply → Ledger S R
  heard l places (State r) a = ledger l.home (l.standing ++ r ∷ []) l.notes l.search
  heard l places Mark a = ledger l.home l.standing (l.standing ∷ l.notes) l.search
  heard l places Back a = ledger l.home (last_note l.notes l.standing) (earlier_notes l.notes) l.search
  heard l places Keep a = ledger l.home l.standing (earlier_notes l.notes) l.search
  heard l places Begin a = ledger l.home l.standing l.notes (begun l)
  heard l places (Run b) Accepted = l
  heard l places (Run b) (Ran p) = ledger l.home l.standing l.notes (moved l places p)
  heard l places (Run b) (LimitIs z) = l
  heard l places Leave a = ledger l.home l.standing l.notes (quit l)
  heard l places (Limit p q) a = l

  -- a refused call changes nothing
  abbrev pub noted : Ledger S R → ℕ → Request R → Result Reply SolverFault → Ledger S R
  noted l places q (Ok a) = heard l places q a
  noted l places q (Err f) = l

-- every way to a ledger and a world: a solver just opened over any slices, then any calls, each lent front parts of the same slices and any out slice
pub data History {S R : Type 0} (M : ShapeModel S) (K : RuleModel R) : Ledger S R → World S R → Type 0 where
  start : (h : Home) → Passes h → (rules : List R) (checkpoints : List (Checkpoint S)) (stack : List S) → History M K (opened_ledger h) (record { solver = opened M h; rules = rules; checkpoints = checkpoints; stack = stack })
  call : (l : Ledger S R) (w : World S R) (rest : List R) (more : List (Checkpoint S)) (deep : List S) → History M K l (whole w rest more deep) → (out : List (Region S)) (q : Request R) → History M K (noted M K l (length w.stack) q (answer M K w out q).reply) (whole (answer M K w out q).world rest more deep)
