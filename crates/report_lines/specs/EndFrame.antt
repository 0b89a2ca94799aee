-- The frame that ends an answer. Assumes nothing.
use Rattle.std.specs.Prelude.{ℕ, Bool, cond, List, ◌∷◌}
use Rattle.search_theory.specs.declared.outcome.Outcome.{Outcome}
use Rattle.search_theory.specs.Outcomes.{outcome_number}
use Rattle.wire.specs.Bytes.{be}

-- 1F, the outcome's number, whether a region was handed out, a byte each, and the steps, four bytes
abbrev pub end_frame : Outcome → Bool → ℕ → List ℕ
end_frame o found steps = 31 ∷ outcome_number o ∷ cond found 1 0 ∷ be 4 steps
