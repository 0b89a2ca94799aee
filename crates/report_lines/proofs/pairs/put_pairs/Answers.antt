use Rattle.std.proofs.Common.{◌≡◌, ℕ, zero, suc, ◌+◌, List, ◌++◌, sym, ap, ◌∙◌, subst, append_assoc, add-one, zero-add, arith}
use Rattle.std.proofs.lemmas.List.{append-nil}
use Rattle.std.specs.List.{range_with_len, flat_map}
use Rattle.wire.specs.Appending.{Appends}
use Rattle.wire.proofs.Adding.{appends_none, appends_on}
use Rattle.report_lines.specs.RegionFrames.{pair_at, pair_frames}
use Rattle.report_lines.proofs.pairs.put_pairs.Goals as goal

-- one place more
passed : {X : Type 0} (f : ℕ → List X) (a n : ℕ) → flat_map f (range_with_len a (suc n)) ≡ flat_map f (range_with_len a n) ++ f (a + n)
passed f a zero = append-nil (f a) ∙ ap f (omega arith)
passed f a (suc n) = ap (λ xs. f a ++ xs) (passed f (a + 1) n ∙ ap (λ k. flat_map f (range_with_len (a + 1) n) ++ f k) (omega arith)) ∙ sym (append_assoc (f a) (flat_map f (range_with_len (a + 1) n)) (f (a + suc n)))

pub loop-k-init : goal.loop-k-init
loop-k-init c = appends_none c.args.out.now

pub loop-k-preserved : goal.loop-k-preserved
loop-k-preserved c =
    let more = appends_on _ _ _ _ _ c.loop-k.invariant c.put_pair.ensures in
    rw (add-one, passed (pair_at c.args.reading.now) 0 c.loop-k.k, zero-add c.loop-k.k) more

pub returns : goal.returns
unfolding pair_frames
returns c =
    let all : c.loop-k.k ≡ 256 = omega arith in
    subst (λ n. Appends c.args.out.now c.loop-k.out (flat_map (pair_at c.args.reading.now) (range_with_len 0 n))) all c.loop-k.invariant
