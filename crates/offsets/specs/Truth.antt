-- What is true of the entry point's answer, in the words of the text's own home and rules. Assumes nothing.
use Rattle.std.specs.Prelude.{◌≡◌, ℕ, ◌≤◌, cond, ◌≢◌, List, length, Ok, nat_lt}
use Rattle.std.specs.List.{flat_map}
use Rattle.interface.specs.Shapes.{ShapeModel}
use Rattle.problem.specs.Reading.{Stated, read_text}
use Rattle.wire.specs.Appending.{lines_size}
use Rattle.rules.specs.Any.{any_model}
use Rattle.search_theory.specs.declared.outcome.Outcome.TheVariants.{StackFull}
use Rattle.search_theory.specs.declared.region.Region.{Region}
use Rattle.search_theory.specs.declared.report.Report.{Report}
use Rattle.solving.specs.Solving.{TrueOf}
use Rattle.wire.specs.Output.{written, line_of}
use Rattle.offsets.specs.Entry.{entry_frames, report_frames, room_in}

module _ {S : Type 0} (M : ShapeModel S) where
  -- an output below 1,897 bytes gets nothing; any other gets all lines from its front on, and is as before past them
  abbrev pub entry_count : List ℕ → ℕ → ℕ → ℕ
  entry_count text budget size = cond (nat_lt size 1897) 0 (lines_size (entry_frames M text budget size))

  abbrev pub entry_output : List ℕ → ℕ → List ℕ → List ℕ
  entry_output text budget out = cond (nat_lt (length out) 1897) out (written out 0 (flat_map line_of (entry_frames M text budget (length out))))

  -- the lines tell a report and the regions of a search, and both are true of the problem
  pub record Told (text : List ℕ) (budget size : ℕ) (p : Stated) : Type 0 where
    pub report : Report
    pub regions : List (Region S)
    pub told : entry_frames M text budget size ≡ report_frames M report regions
    pub truth : TrueOf M any_model p.home p.rules 169 report regions
    pub never_full : report.outcome ≢ StackFull
    pub few : length regions ≤ room_in size

  -- a text that is accepted is answered truly
  abbrev pub TellsTruly : List ℕ → ℕ → ℕ → Type 0
  TellsTruly text budget size = (p : Stated) → read_text text ≡ Ok p → Told text budget size p
