-- Every made octagon is that of some home and cuts, and what is built is that of its own.
use Rattle.std.specs.Prelude.{◌≡◌, true, false, ◌⊎◌, List, [], ◌∷◌, ◌++◌}
use Rattle.std.proofs.Common.{append_assoc, inl, inr, sym, subst}
use Rattle.std.proofs.lemmas.List.{append-nil}
use Rattle.std.proofs.lemmas.Bool.{cases_Bool}
use Rattle.interface.specs.declared.cut.Cut.{Cut}
use Rattle.interface.specs.declared.home.Home.{Home}
use Rattle.interface.specs.Homes.{Passes}
use Rattle.interface.specs.Shapes.{Made, cut_by, built}
use Rattle.octagon_theory.specs.Limits.{void, limit}
use Rattle.octagon.specs.declared.matrix.Octagon.{Octagon}
use Rattle.octagon.specs.Octagons.{started, cut_to, lower_of, upper_of, octagon_model}
use Rattle.octagon.specs.Ranges.{is_open}
use Rattle.octagon.specs.Taking.{OctagonOf, start_of, cut_of}
use Rattle.octagon.specs.Splitting.{lower_split, upper_split, lower_octagon, upper_octagon, lower_same, upper_same}

abbrev pub OfSome : Octagon → Type 0
OfSome s = (h : Home) × (ts : List Cut) × OctagonOf h ts s

lower_made : (h : Home) (ts : List Cut) (s : Octagon) (O : OctagonOf h ts s) → (is_open (void h ts) (limit h ts) ≡ true) ⊎ (is_open (void h ts) (limit h ts) ≡ false) → OfSome (lower_of s)
lower_made h ts s O (inl e) = (h, ts ++ (lower_split h ts s O e ∷ []), lower_octagon h ts s O e)
lower_made h ts s O (inr e) = (h, ts, subst (OctagonOf h ts) (sym (lower_same h ts s O e)) O)

upper_made : (h : Home) (ts : List Cut) (s : Octagon) (O : OctagonOf h ts s) → (is_open (void h ts) (limit h ts) ≡ true) ⊎ (is_open (void h ts) (limit h ts) ≡ false) → OfSome (upper_of s)
upper_made h ts s O (inl e) = (h, ts ++ (upper_split h ts s O e ∷ []), upper_octagon h ts s O e)
upper_made h ts s O (inr e) = (h, ts, subst (OctagonOf h ts) (sym (upper_same h ts s O e)) O)

pub made_of : {s : Octagon} → Made octagon_model s → OfSome s
made_of (Made.by_start h ok) = (h, [], start_of h ok)
made_of (Made.by_cut {s} m t) = let r = made_of m in (r.0, r.1 ++ (t ∷ []), cut_of r.0 r.1 s r.2 t)
made_of (Made.by_lower {s} m) = let r = made_of m in lower_made r.0 r.1 s r.2 (cases_Bool (is_open (void r.0 r.1) (limit r.0 r.1)))
made_of (Made.by_upper {s} m) = let r = made_of m in upper_made r.0 r.1 s r.2 (cases_Bool (is_open (void r.0 r.1) (limit r.0 r.1)))

-- what is built from a home by cuts is its octagon
pub cut_by_of : (h : Home) (us : List Cut) (s : Octagon) (ts : List Cut) → OctagonOf h us s → OctagonOf h (us ++ ts) (cut_by octagon_model s ts)
cut_by_of h us s [] O = subst (λ vs. OctagonOf h vs s) (sym (append-nil us)) O
cut_by_of h us s (t ∷ ts) O = subst (λ vs. OctagonOf h vs (cut_by octagon_model (cut_to s t.p t.q t.c) ts)) (append_assoc us (t ∷ []) ts) (cut_by_of h (us ++ (t ∷ [])) (cut_to s t.p t.q t.c) ts (cut_of h us s O t))

pub built_of : (h : Home) → Passes h → (ts : List Cut) → OctagonOf h ts (built octagon_model h ts)
built_of h ok ts = cut_by_of h [] (started h) ts (start_of h ok)
