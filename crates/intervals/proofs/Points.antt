-- How many values the first n of a list are. Assumes nothing.
use Rattle.std.proofs.Common.{ℕ, ◌≤◌, List, length, take, arith}
use Rattle.std.proofs.lemmas.List.{length-take}

pub length_take_at_most : {X : Type 0} (n : ℕ) (xs : List X) → length (take n xs) ≤ n
length_take_at_most n xs = omega (arith, length-take n xs)
