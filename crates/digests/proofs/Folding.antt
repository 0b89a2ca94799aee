-- A fold over a range whose closure adds a list of numbers to the digest at each turn.
use Rattle.std.proofs.Common.{◌≡◌, ℕ, ◌-◌, List, ◌∷◌, [], ◌++◌, ℤ, ap, sym, refl, ◌∙◌, arith}
use Rattle.std.specs.Fn.{Called}
use Rattle.std.specs.Iterator.{FoldsItems}
use Rattle.std.specs.List.{range_with_len, flat_map}
use Rattle.std.proofs.iter.Yields.{nat_range_steps, Range-gives}
use Rattle.std.proofs.lemmas.Fn.{fold_over}
use Rattle.std.proofs.lemmas.List.{flat_map_more}
use Rattle.std.proofs.lemmas.List.Sums.{fold-append}
use Rattle.digests.specs.Digests.{mixed, mixed_all}
use denote.Param.Members.{Mut}

-- the digest with the numbers of one item more
mixed_more : (f : ℕ → List ℤ) (d a b x : ℕ) (ys : List ℕ) → a ≡ mixed_all d (flat_map f ys) → b ≡ mixed_all a (f x) → b ≡ mixed_all d (flat_map f (ys ++ (x ∷ [])))
mixed_more f d a b x ys so_far one =
    one ∙ ap (λ a. mixed_all a (f x)) so_far ∙ sym (fold-append mixed d (flat_map f ys) (f x)) ∙ ap (mixed_all d) (flat_map_more f [] ys x)

-- where each call adds the numbers of its item, the fold adds those of all items, in order
pub mixed_over : {F : Type 0} (g : Mut F (ℕ × (ℕ × Unit {0})) ℕ) (f : ℕ → List ℤ) (k : F)
    → ((a x b : ℕ) (k' : F) → Called g k (a, (x, tt)) b k' → (b ≡ mixed_all a (f x)) × (k' ≡ k))
    → (n d r : ℕ) → FoldsItems nat_range_steps g (record { start = 0; end = n }) k d r → r ≡ mixed_all d (flat_map f (range_with_len 0 n))
mixed_over g f k step n d r ran =
    let e : n - 0 ≡ n = omega arith in
    fold_over nat_range_steps (λ x. x) g (λ ys a. a ≡ mixed_all d (flat_map f ys)) k (λ ys a x b k' i called. let u = step a x b k' called in (mixed_more f d a b x ys i u.0, u.1)) _ _ d r (Range-gives (record { start = 0; end = n })) refl ran
    ∙ ap (λ m. mixed_all d (flat_map f (range_with_len 0 m))) e
