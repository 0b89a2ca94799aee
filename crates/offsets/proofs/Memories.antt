-- The same memory by equal parts. Assumes nothing.
use Rattle.std.proofs.Common.{◌≡◌, ℕ, List, take, ap, ◌∙◌}
use Rattle.interface.specs.declared.point.Point.{Point}
use Rattle.octagon.specs.declared.matrix.Octagon.{Octagon}
use Rattle.octagon.specs.Octagons.{octagon_model}
use Rattle.rules.specs.Any.{AnyRule}
use Rattle.search.specs.declared.solver.Solver.{Solver}
use Rattle.search.specs.Views.{world_of}
use Rattle.offsets.specs.Entry.{copies}
use Rattle.offsets.specs.Searching.{answered_in}

module _ (s : Solver Octagon) (budget : ℕ) where
  abbrev pub in_memory : AnyRule → Octagon → Point → ℕ → List AnyRule → List (List ℕ)
  in_memory f o x room rs = answered_in octagon_model (world_of s (copies 32 f) (copies 4 (record { shape = o; rules = 0 })) (copies 169 o)) (take room (copies 16 (record { shape = o; point = x }))) rs budget

  pub same_memory : (f f' : AnyRule) (o o' : Octagon) (x x' : Point) (room room' : ℕ) (rs rs' : List AnyRule) → f ≡ f' → o ≡ o' → x ≡ x' → room ≡ room' → rs ≡ rs' → in_memory f o x room rs ≡ in_memory f' o' x' room' rs'
  same_memory f f' o o' x x' room room' rs rs' a b c d e =
      ap (λ y. in_memory y o x room rs) a ∙ ap (λ y. in_memory f' y x room rs) b ∙ ap (λ y. in_memory f' o' y room rs) c ∙ ap (λ y. in_memory f' o' x' y rs) d ∙ ap (in_memory f' o' x' room') e
