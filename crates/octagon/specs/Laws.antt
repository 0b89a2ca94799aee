-- The octagon means what a shape means, and is exact: every made octagon is that of some home and cuts.
use Rattle.std.specs.Prelude.{◌≡◌, true, false, cond, ◌≢◌, ◌⊎◌, List, [], ◌∷◌, ◌++◌, refl}
use Rattle.std.proofs.Common.{inl, inr, sym, ap, subst, ◌∙◌, arith}
use Rattle.std.proofs.lemmas.Bool.{cases_Bool, both_ways}
use Rattle.std.proofs.lemmas.Bool.Decides.{Decides-like}
use Rattle.halving.specs.Halvings.{all_single}
use Rattle.interface.specs.declared.cut.Cut.{Cut}
use Rattle.interface.specs.declared.extent.Extent.TheVariants.{Void, Lone, Open}
use Rattle.interface.specs.declared.home.Home.{Home}
use Rattle.interface.specs.Homes.{Passes}
use Rattle.interface.specs.Nodes.{opp}
use Rattle.interface.specs.Numbers.{half, within}
use Rattle.interface.specs.Shapes.{ShapeLaws, Exact, built}
use Rattle.octagon_theory.specs.Limits.{void, limit}
use Rattle.octagon_theory.proofs.Exact.{limit_void, limit_off, limit_opposite, limits_exact, void_decides}
use Rattle.octagon_theory.proofs.Theorems.{limits_can_be_shown, meets_push, meets_front}
use Rattle.octagon.specs.declared.matrix.Octagon.{Octagon}
use Rattle.octagon.specs.Entries.{at}
use Rattle.octagon.specs.Octagons.{started, holds_at, cut_to, lower_of, upper_of, octagon_model}
use Rattle.octagon.specs.Ranges.{widths, is_open}
use Rattle.octagon.specs.Taking.{OctagonOf, start_of, limit_is, cut_of}
use Rattle.octagon.specs.Holding.{holds_decides, offers}
use Rattle.octagon.specs.Made.{made_of, built_of}
use Rattle.octagon.specs.Facts.{extent_at, is_void, is_lone, is_opened, is_closed, void_none, lone_one, above, lone_sum, offered_held, cut_fewer, open_some, split_counts, lower_lowers, upper_lowers}
use Rattle.octagon.specs.Splitting.{lower_octagon, upper_octagon, lower_same, upper_same}

-- no operation alters how many settings there are
cut_size : (h : Home) (ts : List Cut) (s : Octagon) → OctagonOf h ts s → (t : Cut) → (cut_to s t.p t.q t.c).n ≡ s.n
cut_size h ts s O t = (cut_of h ts s O t).same_n ∙ sym O.same_n

lower_size : (h : Home) (ts : List Cut) (s : Octagon) → OctagonOf h ts s → (lower_of s).n ≡ s.n
lower_size h ts s O = by (cases_Bool (is_open (void h ts) (limit h ts)))
  where
    by : (is_open (void h ts) (limit h ts) ≡ true) ⊎ (is_open (void h ts) (limit h ts) ≡ false) → (lower_of s).n ≡ s.n
    by (inl e) = (lower_octagon h ts s O e).same_n ∙ sym O.same_n
    by (inr e) = ap (λ r. r.n) (lower_same h ts s O e)

upper_size : (h : Home) (ts : List Cut) (s : Octagon) → OctagonOf h ts s → (upper_of s).n ≡ s.n
upper_size h ts s O = by (cases_Bool (is_open (void h ts) (limit h ts)))
  where
    by : (is_open (void h ts) (limit h ts) ≡ true) ⊎ (is_open (void h ts) (limit h ts) ≡ false) → (upper_of s).n ≡ s.n
    by (inl e) = (upper_octagon h ts s O e).same_n ∙ sym O.same_n
    by (inr e) = ap (λ r. r.n) (upper_same h ts s O e)

pub octagon_laws : ShapeLaws octagon_model
octagon_laws = record {
  start_n = λ h ok. refl;
  start_holds = λ h ok x. Decides-like (holds_at (started h) x) (λ w. w.0) (λ i. (i, tt)) (holds_decides h [] (started h) (start_of h ok) x);
  cut_n = λ s m t. let r = made_of m in cut_size r.0 r.1 s r.2 t;
  split_n = λ s m. let r = made_of m in (lower_size r.0 r.1 s r.2, upper_size r.0 r.1 s r.2);
  cut_keeps = λ s m t x e met. let r = made_of m in let w = (holds_decides r.0 r.1 s r.2 x).0 e in (holds_decides r.0 (r.1 ++ (t ∷ [])) (cut_to s t.p t.q t.c) (cut_of r.0 r.1 s r.2 t) x).1 (w.0, meets_push x r.1 t w.1 met);
  cut_adds_none = λ s m t x e. let r = made_of m in let w = (holds_decides r.0 (r.1 ++ (t ∷ [])) (cut_to s t.p t.q t.c) (cut_of r.0 r.1 s r.2 t) x).0 e in (holds_decides r.0 r.1 s r.2 x).1 (w.0, meets_front x r.1 t w.1);
  void_holds = λ s m v. let r = made_of m in void_none r.0 r.1 s r.2 v;
  lone_holds = λ s m l. let r = made_of m in lone_one r.0 r.1 s r.2 l;
  limit_above = λ s m. let r = made_of m in above r.0 r.1 s r.2;
  limit_within = λ s m p q. let r = made_of m in subst (λ z. within 2000000 z ≡ true) (sym (limit_is r.0 r.1 s r.2 p q)) ((limits_can_be_shown r.0 r.2.passes r.1).bounded p q);
  limit_even = λ s m p. let r = made_of m in (half (limit r.0 r.1 p p), limit_is r.0 r.1 s r.2 p p ∙ (limits_can_be_shown r.0 r.2.passes r.1).even p);
  lone_limit = λ s m. let r = made_of m in lone_sum r.0 r.1 s r.2;
  limit_opposite = λ s m p. let r = made_of m in limit_is r.0 r.1 s r.2 p (opp p) ∙ limit_opposite r.0 r.1 p (opp p) refl;
  limit_off = λ s m p q off. let r = made_of m in let n = r.2.same_n in (limit_is r.0 r.1 s r.2 p q ∙ limit_off r.0 r.1 p q (inl (omega arith)), limit_is r.0 r.1 s r.2 q p ∙ limit_off r.0 r.1 q p (inr (omega arith)));
  limit_void = λ s m v p q. let r = made_of m in limit_is r.0 r.1 s r.2 p q ∙ limit_void r.0 r.1 (is_void r.0 r.1 s r.2 v) p q;
  offer_holds = λ s m. let r = made_of m in offered_held r.0 r.1 s r.2;
  lone_offers = λ s m l. let r = made_of m in offers r.0 r.1 s r.2 (is_lone r.0 r.1 s r.2 l).sound;
  cut_halvings = λ s m t. let r = made_of m in cut_fewer r.0 r.1 s r.2 t;
  open_halvings = λ s m o. let r = made_of m in open_some r.0 r.1 s r.2 o;
  split_holds = λ s m o x. let r = made_of m in split_counts r.0 r.1 s r.2 (is_opened r.0 r.1 s r.2 o) x;
  split_halvings = λ s m o. let r = made_of m in let e = is_opened r.0 r.1 s r.2 o in (lower_lowers r.0 r.1 s r.2 e, upper_lowers r.0 r.1 s r.2 e);
  split_same = λ s m o. let r = made_of m in let e = is_closed r.0 r.1 s r.2 o in (lower_same r.0 r.1 s r.2 e, upper_same r.0 r.1 s r.2 e);
}

-- what is built holds exactly the points of home that meet every cut, reaches each limit, and is void if it holds none
pub octagon_exact : Exact octagon_model
octagon_exact = record {
  exact_holds = λ h ok ts x. holds_decides h ts (built octagon_model h ts) (built_of h ok ts) x;
  exact_limit = λ h ok ts e p q a b d.
      let O = built_of h ok ts in
      let v = not_void h ok ts e (cases_Bool (void h ts)) in
      let g = (limits_exact h ts v p q a b).reached in
      (g.0, (holds_decides h ts (built octagon_model h ts) O g.0).1 g.1, g.2 ∙ sym (limit_is h ts (built octagon_model h ts) O p q));
  exact_void = λ h ok ts none.
      let O = built_of h ok ts in
      ap (λ v. cond v Void (cond (all_single (widths (at (built octagon_model h ts).limits))) Lone Open)) (O.same_void ∙ (void_decides h ts).1 (λ x w. both_ways (holds_at (built octagon_model h ts) x) (none x) ((holds_decides h ts (built octagon_model h ts) O x).1 w)));
}
  where
    not_void : (h : Home) (ok : Passes h) (ts : List Cut) → extent_at (built octagon_model h ts) ≢ Void → (void h ts ≡ true) ⊎ (void h ts ≡ false) → void h ts ≡ false
    not_void h ok ts e (inl v) = absurd (e (ap (λ v. cond v Void (cond (all_single (widths (at (built octagon_model h ts).limits))) Lone Open)) ((built_of h ok ts).same_void ∙ v)))
    not_void h ok ts e (inr v) = v
