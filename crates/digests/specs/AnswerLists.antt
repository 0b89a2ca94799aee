-- A shape's answers as lists of numbers, in the order in which they are asked. Assumes nothing.
use Rattle.std.specs.Prelude.{ℕ, ◌%◌, List, [], ◌∷◌, ◌++◌, map, ℤ, pos, negsuc, Option, Some, None}
use Rattle.std.specs.List.{range_with_len, flat_map}
use Rattle.interface.specs.declared.point.Point.{Point}
use Rattle.digests.specs.declared.Questions.{Questions}
use Rattle.interface.specs.Answers.{extent_number}
use Rattle.interface.specs.Points.{values_of}
use Rattle.interface.specs.Shapes.{ShapeModel, range_of, one_if}

-- an offered point as its number of settings and its eight values, or -1
abbrev pub offer_numbers : Option Point → List ℤ
offer_numbers None = negsuc 0 ∷ []
offer_numbers (Some x) = pos x.n ∷ x.values

module _ {S : Type 0} (M : ShapeModel S) where
  -- the limits of each two nodes below a number
  abbrev pub limit_numbers : S → ℕ → List ℤ
  limit_numbers s nodes = flat_map (λ p. map (λ q. M.limit s p q) (range_with_len 0 nodes)) (range_with_len 0 nodes)

  -- the low and the high of each setting below a number
  abbrev pub range_numbers : S → ℕ → List ℤ
  range_numbers s settings = flat_map (λ k. (range_of M s k).0 ∷ (range_of M s k).1 ∷ []) (range_with_len 0 settings)

  -- 1 for each point that is held, 0 for any other
  abbrev pub held_numbers : S → List Point → List ℤ
  held_numbers s points = map (λ x. pos (one_if (M.holds s (values_of x)))) points

  -- every answer but the parts
  abbrev pub answer_numbers : Questions → S → List ℤ
  answer_numbers asked s =
      pos (M.n s) ∷ pos (extent_number (M.extent s)) ∷ pos (M.halvings s % 1000) ∷ (limit_numbers s asked.nodes ++ range_numbers s asked.settings ++ held_numbers s asked.points.now ++ offer_numbers (M.offer s))

  -- the answers of the shape, of its lower part and of its upper part
  abbrev pub part_numbers : Questions → S → List ℤ
  part_numbers asked s = answer_numbers asked s ++ answer_numbers asked (M.lower s) ++ answer_numbers asked (M.upper s)
