-- The frames of one item more, and two calls after others. Assumes nothing.
use Rattle.std.proofs.Common.{◌≡◌, ℕ, ◌+◌, ◌<◌, List, [], ◌∷◌, ◌++◌, length, get_or, take, sym, ap, ◌∙◌, subst}
use Rattle.std.proofs.lemmas.Grind.{flat_map-append}
use Rattle.std.proofs.lemmas.List.{take_more, append-nil}
use Rattle.std.proofs.lemmas.List.Concat.{flat_map-cons}
use Rattle.std.specs.List.{flat_map}
use Rattle.wire.proofs.Adding.{appends_on}
use Rattle.wire.specs.declared.output.Output.{Output}
use Rattle.wire.specs.Appending.{Appends}

-- the frames of the items that were passed, and of one more
pub appends_more : {A : Type 0} (f : A → List (List ℕ)) (xs : List A) (i : ℕ) (d x : A) (o m n : Output) → i < length xs → x ≡ get_or xs i d → Appends o m (flat_map f (take i xs)) → Appends m n (f x) → Appends o n (flat_map f (take (i + 1) xs))
appends_more f xs i y x o m n h e before here =
    let passed = take_more xs i y h ∙ ap (λ z. take i xs ++ z ∷ []) (sym e) in
    let frames = ap (flat_map f) passed ∙ flat_map-append f (take i xs) (x ∷ []) ∙ ap (λ fs. flat_map f (take i xs) ++ fs) (flat_map-cons f x [] ∙ append-nil (f x)) in
    subst (Appends o n) (sym frames) (appends_on o m n (flat_map f (take i xs)) (f x) before here)

-- two calls after others, each by its equation with the model
pub two_calls : {W O A X : Type 0} (world : A → W) (out : A → O) (first second : W → O → A) (f : A → X) (w w' v : W) (o o' u : O) (a b : A) → w ≡ w' → o ≡ o' → ((x : W) (y : O) → out (first x y) ≡ y) → a ≡ first w o → v ≡ world a → u ≡ out a → b ≡ second v u → f b ≡ f (second (world (first w' o')) o')
two_calls world out first second f w w' v o o' u a b e d same i j k l =
    let later = j ∙ ap world i in
    let stays = k ∙ ap out i ∙ same w o ∙ d in
    ap f (l ∙ ap (λ x. second x u) later ∙ ap (second (world (first w o))) stays ∙ ap (λ x. second (world (first x o)) o') e ∙ ap (λ y. second (world (first w' y)) o') d)
