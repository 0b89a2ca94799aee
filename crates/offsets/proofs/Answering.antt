-- The calls that solve an accepted text are accepted, so its lines tell a report; and they fit the output. Assumes nothing.
use Rattle.std.proofs.Common.{◌≡◌, ℕ, ◌+◌, ◌*◌, ◌≤◌, List, [], ◌∷◌, length, take, Ok, Err, Result, refl, ap, ◌∙◌, subst, arith, length-take}
use lib.ListN.{length-replicate}
use Rattle.std.specs.List.{flat_map}
use Rattle.interface.specs.declared.fault.SolverFault.TheVariants.{Record}
use Rattle.octagon.specs.Laws.{octagon_laws}
use Rattle.octagon.specs.declared.matrix.Octagon.{Octagon}
use Rattle.octagon.specs.Octagons.{octagon_model}
use Rattle.problem.proofs.Sound.{read_sound}
use Rattle.problem.specs.declared.problem.Refusal.{Refusal}
use Rattle.problem.specs.AnyRules.{filler}
use Rattle.problem.specs.Reading.{Stated, read_text}
use Rattle.report_lines.proofs.Bounds.{size_on, regions_bound}
use Rattle.wire.specs.Appending.{lines_size}
use Rattle.report_lines.specs.EndFrame.{end_frame}
use Rattle.rules.proofs.AnyLaws.{any_laws}
use Rattle.rules.specs.Any.{any_model}
use Rattle.search_theory.specs.declared.region.Region.{Region}
use Rattle.search_theory.specs.declared.report.Report.{Report}
use Rattle.search_theory.specs.Regions.{read}
use Rattle.search_theory.specs.Solving.{opened, open_call, decided}
use Rattle.search_theory.specs.Standing.{standing_cuts}
use Rattle.solving.proofs.Calls.{solves_truly}
use Rattle.solving.specs.Solving.{Solvable, TrueOf, solved}
use Rattle.offsets.proofs.Halvings.{enough}
use Rattle.offsets.specs.Entry.{copies, no_point, room_in, memory, frames_of, report_frames, answer_frames, problem_frames, opened_frames, entry_frames}
use Rattle.offsets.specs.Truth.{Told}

length_copies : {A : Type 0} (n : ℕ) (x : A) → length (copies n x) ≡ n
unfolding copies
length_copies n x = length-replicate n x

module _ (budget size : ℕ) (p : Stated) where
  abbrev shape : Octagon
  shape = octagon_model.start p.home

  pub told_of : (text : List ℕ) → read_text text ≡ Ok p → Told octagon_model text budget size p
  told_of text d =
      let good = read_sound text p d in
      let m = memory octagon_model shape (room_in size) in
      let places = length_copies 32 filler in
      let stacked = length_copies 169 shape in
      let ready : Solvable octagon_model any_model p.home m p.rules = record { home_passes = good.0; rules_pass = good.1.0; few = good.1.1; places = omega (arith, places, good.1.1); some_stack = omega (arith, stacked) } in
      let done = solves_truly octagon_laws any_laws p.home m p.rules ready budget in
      let opens : open_call octagon_model p.home ≡ Ok (opened octagon_model p.home) = ap (λ c. decided c (λ f. Err (Record f)) (Ok (opened octagon_model p.home))) good.0 in
      let taken = length-take {A = Region Octagon} (room_in size) (copies 16 (record { shape = shape; point = no_point })) in
      let true_of = subst (λ k. TrueOf octagon_model any_model p.home p.rules k done.0 (take done.0.count (solved octagon_model any_model p.home m p.rules budget).out)) stacked done.2 in
      record {
        report = done.0;
        regions = take done.0.count (solved octagon_model any_model p.home m p.rules budget).out;
        told = ap (λ o. problem_frames octagon_model o budget (room_in size)) d
            ∙ ap (λ o. opened_frames octagon_model o p.home p.rules budget (room_in size)) opens
            ∙ ap (λ r. answer_frames octagon_model r (solved octagon_model any_model p.home m p.rules budget).out) done.1;
        truth = true_of;
        never_full = true_of.room (enough p.home good.0 (standing_cuts any_model p.home.n p.rules));
        few = omega (arith, taken, done.3);
      }

-- a fault's line has 15 bytes, and the lines of a report at most 1,882 a region and 15 for the end
report_size : (q : Report) (gs : List (Region Octagon)) → lines_size (report_frames octagon_model q gs) ≤ 1882 * length gs + 15
report_size q gs =
    let on = size_on (flat_map (frames_of octagon_model) gs) (end_frame q.outcome q.found q.steps ∷ []) in
    let regions = regions_bound (λ (g : Region Octagon). read octagon_model g.shape) (λ g. g.point) gs in
    omega (arith, on, regions)

pub frames_fit : (text : List ℕ) (budget size : ℕ) → 1897 ≤ size → lines_size (entry_frames octagon_model text budget size) ≤ size
frames_fit text budget size big = by (read_text text) refl
  where
    by : (o : Result Stated Refusal) → read_text text ≡ o → lines_size (entry_frames octagon_model text budget size) ≤ size
    by (Ok p) e =
        let t = told_of budget size p text e in
        let told = ap lines_size t.told in
        let most = report_size t.report t.regions in
        let few = t.few in
        omega (arith, told, most, few)
    by (Err r) e =
        let told = ap (λ o. lines_size (problem_frames octagon_model o budget (room_in size))) e in
        omega (arith, told)
