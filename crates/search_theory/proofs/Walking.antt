-- Steps on lists keep what holds of the regions: one taken region first, then many steps. Assumes nothing.
use Rattle.std.proofs.Common.{◌≡◌, ℕ, zero, suc, ◌+◌, ◌<◌, ◌≤◌, true, false, List, [], ◌∷◌, length, ℤ, sym, ap, ◌∙◌, subst, arith}
use Rattle.std.specs.List.{AllByRecursion}
use Rattle.std.proofs.ByRecursion.{All-push}
use Rattle.interface.specs.Points.{values_of}
use Rattle.interface.specs.Rules.{RuleModel, RuleLaws}
use Rattle.interface.specs.Shapes.{ShapeModel, ShapeLaws, Made, one_if, by_lower, by_upper}
use Rattle.search_theory.specs.declared.fate.Fate.{Fate}
use Rattle.search_theory.specs.declared.fate.Fate.TheVariants.{Dropped, HandedOut, Split}
use Rattle.search_theory.specs.declared.region.Region.{Region}
use Rattle.search_theory.specs.RegionLaws.{Narrowed, TrueFate}
use Rattle.search_theory.specs.Regions.{refine, classify}
use Rattle.search_theory.specs.RunLaws.{Room, RoomUnder}
use Rattle.search_theory.specs.Standing.{MeetsRules, how_many, shapes_of}
use Rattle.search_theory.specs.Walks.{Held, held, placed, walk_one, walk}
use Rattle.search_theory.proofs.Classifying.{classified}
use Rattle.search_theory.proofs.Counting.{same_bool, false_if_not, how_many_pushed}
use Rattle.search_theory.proofs.Readings.{lower_adds_none, upper_adds_none}
use Rattle.search_theory.proofs.Refining.{refined}

-- what holds of the regions during a search: those that wait are made, have n settings and lie within In; those handed out fit; each fitting point lies in as many regions as c says
pub record Good {S R : Type 0} (M : ShapeModel S) (K : RuleModel R) (rs : List R) (n : ℕ) (In : List ℤ → Type 0) (c : List ℤ → ℕ) (h : Held S) : Type 0 where
  pub waiting_made : AllByRecursion (λ s. Made M s × (M.n s ≡ n) × ((x : List ℤ) → M.holds s x ≡ true → In x)) h.waiting
  pub handed_fit : AllByRecursion (λ g. ((x : List ℤ) → M.holds g.shape x ≡ true → In x × MeetsRules K n rs x) × (M.holds g.shape (values_of g.point) ≡ true)) h.handed
  pub counts : (x : List ℤ) → MeetsRules K n rs x → how_many M (shapes_of h.handed) x + how_many M h.waiting x ≡ c x

-- room is left where the next region is gone
room_left : {S : Type 0} (M : ShapeModel S) (most : ℕ) (ss : List S) → RoomUnder M most ss → Room M most ss
room_left M most [] r = tt
room_left M most (s ∷ ss) r = (omega (arith, r.0), r.1)

module _ {S R : Type 0} {M : ShapeModel S} {K : RuleModel R} (L : ShapeLaws M) (J : RuleLaws K) (rs : List R) (n : ℕ) (In : List ℤ → Type 0) (c : List ℤ → ℕ) where
  -- a narrowed region t of s, put in its place by its fate
  good_placed : (s t : S) (ws : List S) (hs : List (Region S)) → M.n s ≡ n → Narrowed M (MeetsRules K (M.n s) rs) s t → (f : Fate) → TrueFate M K rs t f → Good M K rs n In c (held (s ∷ ws) hs) → Good M K rs n In c (placed M t f ws hs)
  good_placed s t ws hs en a Dropped true-f g = record {
    waiting_made = g.waiting_made.1;
    handed_fit = g.handed_fit;
    counts = λ x met.
        let gone : M.holds s x ≡ false = false_if_not _ (λ h. true-f x (a.keeps x (subst (λ k. MeetsRules K k rs x) (sym en) met) h) (subst (λ k. MeetsRules K k rs x) (sym (a.same_n ∙ en)) met)) in
        let e = g.counts x met in
        let z = ap one_if gone in
        omega (arith, e, z);
  }
  good_placed s t ws hs en a (HandedOut p) true-f g = record {
    waiting_made = g.waiting_made.1;
    handed_fit = All-push _ hs (record { shape = t; point = p }) g.handed_fit (λ x h. (g.waiting_made.0.2 x (a.adds_none x h), subst (λ k. MeetsRules K k rs x) (a.same_n ∙ en) (true-f.0 x h)), true-f.1);
    counts = λ x met.
        let alike : M.holds s x ≡ M.holds t x = same_bool _ _ (a.keeps x (subst (λ k. MeetsRules K k rs x) (sym en) met)) (a.adds_none x) in
        let e = g.counts x met in
        let z = ap one_if alike in
        let d = how_many_pushed M x hs (record { shape = t; point = p }) in
        omega (arith, e, z, d);
  }
  good_placed s t ws hs en a Split true-f g =
      let m = a.made in
      record {
        waiting_made = (
          (by_lower m, (L.split_n t m).0 ∙ a.same_n ∙ en, λ x h. g.waiting_made.0.2 x (a.adds_none x (lower_adds_none L t m x h))),
          ((by_upper m, (L.split_n t m).1 ∙ a.same_n ∙ en, λ x h. g.waiting_made.0.2 x (a.adds_none x (upper_adds_none L t m x h))), g.waiting_made.1),
        );
        handed_fit = g.handed_fit;
        counts = λ x met.
            let alike : M.holds s x ≡ M.holds t x = same_bool _ _ (a.keeps x (subst (λ k. MeetsRules K k rs x) (sym en) met)) (a.adds_none x) in
            let e = g.counts x met in
            let z = ap one_if alike in
            let d = L.split_holds t m true-f x in
            omega (arith, e, z, d);
      }

  good_one : (ws : List S) (hs : List (Region S)) → Good M K rs n In c (held ws hs) → Good M K rs n In c (walk_one M K rs ws hs)
  good_one [] hs g = g
  good_one (s ∷ ws) hs g =
      let a = refined L J rs s g.waiting_made.0.0 in
      good_placed s (refine M K rs s) ws hs g.waiting_made.0.1 a (classify M K rs (refine M K rs s)) (classified L J rs (refine M K rs s) a.made) g

  pub good_walk : (k : ℕ) (h : Held S) → Good M K rs n In c h → Good M K rs n In c (walk M K rs k h)
  good_walk zero h g = g
  good_walk (suc k) h g = good_walk k (walk_one M K rs h.waiting h.handed) (good_one h.waiting h.handed g)

  -- room is kept: each part of a split region has fewer halvings
  room_placed : (most : ℕ) (s t : S) (ws : List S) (hs : List (Region S)) → Made M t → M.halvings t ≤ M.halvings s → (f : Fate) → TrueFate M K rs t f → Room M most (s ∷ ws) → Room M most (placed M t f ws hs).waiting
  room_placed most s t ws hs m le Dropped true-f r = room_left M most ws r.1
  room_placed most s t ws hs m le (HandedOut p) true-f r = room_left M most ws r.1
  room_placed most s t ws hs m le Split true-f r = let low = L.split_halvings t m true-f in (omega (arith, low.0, le, r.0), (omega (arith, low.1, le, r.0), r.1))

  room_one : (most : ℕ) (ws : List S) (hs : List (Region S)) → Good M K rs n In c (held ws hs) → Room M most ws → Room M most (walk_one M K rs ws hs).waiting
  room_one most [] hs g r = r
  room_one most (s ∷ ws) hs g r =
      let a = refined L J rs s g.waiting_made.0.0 in
      room_placed most s (refine M K rs s) ws hs a.made a.no_more_halvings (classify M K rs (refine M K rs s)) (classified L J rs (refine M K rs s) a.made) r

  pub room_walk : (most k : ℕ) (h : Held S) → Good M K rs n In c h → Room M most h.waiting → Room M most (walk M K rs k h).waiting
  room_walk most zero h g r = r
  room_walk most (suc k) h g r = room_walk most k (walk_one M K rs h.waiting h.handed) (good_one h.waiting h.handed g) (room_one most h.waiting h.handed g r)

  -- where the next region is split, more than one place under the most is left
  pub split_has_room : (most : ℕ) (s : S) (ws : List S) → Made M s → classify M K rs (refine M K rs s) ≡ Split → Room M most (s ∷ ws) → length ws < most
  split_has_room most s ws m e r =
      let a = refined L J rs s m in
      let o = subst (TrueFate M K rs (refine M K rs s)) e (classified L J rs (refine M K rs s) a.made) in
      let one = L.open_halvings (refine M K rs s) a.made o in
      omega (arith, one, a.no_more_halvings, r.0)
