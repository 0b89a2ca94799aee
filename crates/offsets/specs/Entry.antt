-- What the entry point writes: the frames that answer a text. Assumes nothing.
use Rattle.std.specs.Prelude.{ℕ, ◌-◌, ◌/◌, min, List, [], ◌∷◌, ◌++◌, take, replicate, pos, Ok, Err, Result}
use Rattle.std.specs.List.{flat_map}
use Rattle.interface.specs.declared.fault.SolverFault.{SolverFault}
use Rattle.interface.specs.declared.fault.SolverFault.TheVariants.{Phase}
use Rattle.interface.specs.declared.home.Home.{Home}
use Rattle.interface.specs.declared.point.Point.{Point}
use Rattle.interface.specs.Shapes.{ShapeModel}
use Rattle.problem.specs.declared.problem.Refusal.{Refusal}
use Rattle.problem.specs.AnyRules.{filler}
use Rattle.problem.specs.Reading.{Stated, read_text}
use Rattle.report_lines.specs.EndFrame.{end_frame}
use Rattle.report_lines.specs.RegionFrames.{region_frames}
use Rattle.rules.specs.Any.{AnyRule, any_model}
use Rattle.search_theory.specs.declared.region.Region.{Region}
use Rattle.search_theory.specs.declared.reply.Reply.{Reply}
use Rattle.search_theory.specs.declared.reply.Reply.TheVariants.{Accepted, Ran, LimitIs}
use Rattle.search_theory.specs.declared.report.Report.{Report}
use Rattle.search_theory.specs.Regions.{read}
use Rattle.search_theory.specs.Solving.{Solving, open_call}
use Rattle.solving.specs.Solving.{Slices, solved}
use Rattle.wire.specs.FaultLine.{fault_frame}

-- as many regions as fit at 1,882 bytes each before an end line of 15 bytes, at most 16
abbrev pub room_in : ℕ → ℕ
room_in size = min 16 ((size - 15) / 1882)

-- n copies; shut, so that no proof writes them out
unfoldable pub copies : {A : Type 0} → ℕ → A → List A
copies n x = replicate n x

abbrev pub no_point : Point
no_point = record { n = 0; values = replicate 8 (pos 0) }

module _ {S : Type 0} (M : ShapeModel S) where
  -- 32 places for rules, 4 for checkpoints, 169 for waiting regions
  abbrev pub memory : S → ℕ → Slices S AnyRule
  memory s room = record { rules = copies 32 filler; checkpoints = copies 4 (record { shape = s; rules = 0 }); stack = copies 169 s; out = take room (copies 16 (record { shape = s; point = no_point })) }

  -- a region's lines come from its limits and its point alone
  abbrev pub frames_of : Region S → List (List ℕ)
  frames_of g = region_frames (read M g.shape) g.point

  -- the regions that were handed out, then the end
  abbrev pub report_frames : Report → List (Region S) → List (List ℕ)
  report_frames p gs = flat_map frames_of gs ++ end_frame p.outcome p.found p.steps ∷ []

  -- a run answers a report; anything else would be a fault of the solver's
  abbrev pub reply_frames : Reply → List (Region S) → List (List ℕ)
  reply_frames (Ran p) out = report_frames p (take p.count out)
  reply_frames Accepted out = fault_frame Phase 0 ∷ []
  reply_frames (LimitIs z) out = fault_frame Phase 0 ∷ []

  abbrev pub answer_frames : Result Reply SolverFault → List (Region S) → List (List ℕ)
  answer_frames (Ok r) out = reply_frames r out
  answer_frames (Err f) out = fault_frame f 0 ∷ []

  -- the home opens a solver, each rule is stated, the search begins and runs once
  abbrev pub solved_frames : Home → List AnyRule → ℕ → ℕ → List (List ℕ)
  solved_frames h rs budget room = let a = solved M any_model h (memory (M.start h) room) rs budget in answer_frames a.reply a.out

  abbrev pub opened_frames : Result (Solving S) SolverFault → Home → List AnyRule → ℕ → ℕ → List (List ℕ)
  opened_frames (Ok s) h rs budget room = solved_frames h rs budget room
  opened_frames (Err f) h rs budget room = fault_frame f 1 ∷ []

  -- a problem is solved, a refusal is told
  abbrev pub problem_frames : Result Stated Refusal → ℕ → ℕ → List (List ℕ)
  problem_frames (Ok p) budget room = opened_frames (open_call M p.home) p.home p.rules budget room
  problem_frames (Err r) budget room = fault_frame r.fault r.line ∷ []

  abbrev pub entry_frames : List ℕ → ℕ → ℕ → List (List ℕ)
  entry_frames text budget size = problem_frames (read_text text) budget (room_in size)
