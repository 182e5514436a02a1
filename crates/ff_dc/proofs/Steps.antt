-- One cut of a range of places gives the values of the whole part, by rule.
use Rattle.std.proofs.Common.{◌≡◌, ℕ, ◌+◌, ◌-◌, ◌/◌, ◌≤◌, List, ◌++◌, map, length, ℤ, pos, ◌+ℤ◌, ◌-ℤ◌, refl, ap, ◌∙◌, sym, arith}
use Rattle.std.specs.Int.{int_min}
use Rattle.std.specs.List.{All}
use Rattle.std.proofs.lemmas.Int.{ints, clamps}
use Rattle.ff_rec.specs.Number.{IsNumber}
use Rattle.ff_dc.specs.declared.rule.DcRule.TheVariants.{Sum, MaxSub, FirstMin, Bracket}
use Rattle.ff_dc.specs.Spans.{Span, size, within}
use Rattle.ff_dc.specs.Fours.{IsWithin, only}
use Rattle.ff_dc.specs.Values.{total, loose, prefixes, suffixes, runs}
use Rattle.ff_dc.specs.Rules.{firstmin_of}
use Rattle.ff_dc.proofs.Ends.{fours}
use Rattle.ff_dc.proofs.Cutting.{within-split, length-within}
use Rattle.ff_dc.proofs.Totals.{total-append}
use Rattle.ff_dc.proofs.Runs.{P, S, M, P-append, S-append, M-append, Near-P, Near-S, Near-M, greatest-up}
use Rattle.ff_dc.proofs.Loosening.{loose-append, loose-few}
use Rattle.ff_dc.proofs.Firsts.{firstmin-append}
use Rattle.ff_dc.proofs.Levels.{Steps}
use Rattle.ff_dc.proofs.Clipped.{add-same, max-same, best-same, meet-same, wait-same}
use Rattle.ff_dc.proofs.Bounds.{few-within, numbers-within, within-total, within-up, within-count}

pub sum-steps : Steps Sum
sum-steps cut ns p asked large =
    let mid : ℕ = p.0 + size p / 2 in
    let l : Span = (p.0, mid) in
    let r : Span = (mid, p.1) in
    let part = asked.part in
    record {
      left = record { cuts = asked.cuts; few = asked.few; numbers = asked.numbers; part = (omega arith, omega arith) };
      right = record { cuts = asked.cuts; few = asked.few; numbers = asked.numbers; part = (omega arith, omega arith) };
      gives =
          ap only
          (add-same (total (within ns l)) (total (within ns r)) (total (within ns p))
          (within-total (within ns l) (numbers-within ns l asked.numbers) (few-within ns l asked.few))
          (within-total (within ns r) (numbers-within ns r asked.numbers) (few-within ns r asked.few))
          (ap total (within-split ns p.0 mid p.1 (omega arith) (omega arith)) ∙ total-append (within ns l) (within ns r)));
    }

pub maxsub-steps : Steps MaxSub
maxsub-steps cut ns p asked large =
    let mid : ℕ = p.0 + size p / 2 in
    let part = asked.part in
    let xs : List ℤ = within ns (p.0, mid) in
    let ys : List ℤ = within ns (mid, p.1) in
    let split : within ns p ≡ xs ++ ys = within-split ns p.0 mid p.1 (omega arith) (omega arith) in
    let hx : All IsNumber xs = numbers-within ns (p.0, mid) asked.numbers in
    let hy : All IsNumber ys = numbers-within ns (mid, p.1) asked.numbers in
    let fx : length xs ≤ 262144 = few-within ns (p.0, mid) asked.few in
    let fy : length ys ≤ 262144 = few-within ns (mid, p.1) asked.few in
    let tx : IsWithin (total xs) = within-total xs hx fx in
    let ty : IsWithin (total ys) = within-total ys hy fy in
    let px : IsWithin (P xs) = within-up (P xs) (length xs) fx (greatest-up (map total (prefixes xs))) (Near-P xs hx) in
    let py : IsWithin (P ys) = within-up (P ys) (length ys) fy (greatest-up (map total (prefixes ys))) (Near-P ys hy) in
    let sx : IsWithin (S xs) = within-up (S xs) (length xs) fx (greatest-up (map total (suffixes xs))) (Near-S xs hx) in
    let sy : IsWithin (S ys) = within-up (S ys) (length ys) fy (greatest-up (map total (suffixes ys))) (Near-S ys hy) in
    let mx : IsWithin (M xs) = within-up (M xs) (length xs) fx (greatest-up (map total (runs xs))) (Near-M xs hx) in
    let my : IsWithin (M ys) = within-up (M ys) (length ys) fy (greatest-up (map total (runs ys))) (Near-M ys hy) in
    record {
      left = record { cuts = asked.cuts; few = asked.few; numbers = asked.numbers; part = (omega arith, omega arith) };
      right = record { cuts = asked.cuts; few = asked.few; numbers = asked.numbers; part = (omega arith, omega arith) };
      gives =
          fours
          (add-same (total xs) (total ys) (total (within ns p)) tx ty (ap total split ∙ total-append xs ys))
          (max-same (P xs) (total xs) (P ys) (P (within ns p)) px tx py (ap P split ∙ P-append xs ys))
          (max-same (S ys) (total ys) (S xs) (S (within ns p)) sy ty sx (ap S split ∙ S-append xs ys))
          (best-same (M xs) (M ys) (S xs) (P ys) (M (within ns p)) mx my sx py (ap M split ∙ M-append xs ys));
    }

meet-closes : (a b c d : ℕ) (m : ℕ × ℕ) → m ≡ (a + (c - b), d + (b - c)) → pos m.0 ≡ pos a +ℤ pos c -ℤ int_min (pos b) (pos c)
meet-closes a b c d m e = ap (λ (s : ℕ × ℕ). pos s.0) e ∙ (let h : pos (a + (c - b)) ≡ pos a +ℤ pos c -ℤ int_min (pos b) (pos c) = omega (arith, ints, clamps) in h)

meet-opens : (a b c d : ℕ) (m : ℕ × ℕ) → m ≡ (a + (c - b), d + (b - c)) → pos m.1 ≡ pos d +ℤ pos b -ℤ int_min (pos b) (pos c)
meet-opens a b c d m e = ap (λ (s : ℕ × ℕ). pos s.1) e ∙ (let h : pos (d + (b - c)) ≡ pos d +ℤ pos b -ℤ int_min (pos b) (pos c) = omega (arith, ints, clamps) in h)

pub bracket-steps : Steps Bracket
bracket-steps cut ns p asked large =
    let mid : ℕ = p.0 + size p / 2 in
    let part = asked.part in
    let xs : List ℤ = within ns (p.0, mid) in
    let ys : List ℤ = within ns (mid, p.1) in
    let split : within ns p ≡ xs ++ ys = within-split ns p.0 mid p.1 (omega arith) (omega arith) in
    let fx : length xs ≤ 262144 = few-within ns (p.0, mid) asked.few in
    let fy : length ys ≤ 262144 = few-within ns (mid, p.1) asked.few in
    let lx : (loose xs).0 + (loose xs).1 ≤ length xs = loose-few xs in
    let ly : (loose ys).0 + (loose ys).1 ≤ length ys = loose-few ys in
    let whole : loose (within ns p) ≡ ((loose xs).0 + ((loose ys).0 - (loose xs).1), (loose ys).1 + ((loose xs).1 - (loose ys).0)) = ap loose split ∙ loose-append xs ys in
    record {
      left = record { cuts = asked.cuts; few = asked.few; numbers = asked.numbers; part = (omega arith, omega arith) };
      right = record { cuts = asked.cuts; few = asked.few; numbers = asked.numbers; part = (omega arith, omega arith) };
      gives =
          fours
          (meet-same (pos (loose xs).0) (pos (loose ys).0) (pos (loose xs).1) (pos (loose (within ns p)).0)
          (within-count (loose xs).0 (omega arith)) (within-count (loose ys).0 (omega arith)) (within-count (loose xs).1 (omega arith))
          (meet-closes (loose xs).0 (loose xs).1 (loose ys).0 (loose ys).1 (loose (within ns p)) whole))
          (wait-same (pos (loose ys).1) (pos (loose xs).1) (pos (loose ys).0) (pos (loose (within ns p)).1)
          (within-count (loose ys).1 (omega arith)) (within-count (loose ys).0 (omega arith)) (within-count (loose xs).1 (omega arith))
          (meet-opens (loose xs).0 (loose xs).1 (loose ys).0 (loose ys).1 (loose (within ns p)) whole))
          refl refl;
    }

pub firstmin-steps : Steps FirstMin
firstmin-steps cut ns p asked large =
    let mid : ℕ = p.0 + size p / 2 in
    let part = asked.part in
    let xs : List ℤ = within ns (p.0, mid) in
    let ys : List ℤ = within ns (mid, p.1) in
    let split : within ns p ≡ xs ++ ys = within-split ns p.0 mid p.1 (omega arith) (omega arith) in
    let lx : length xs ≡ mid - p.0 = length-within ns (p.0, mid) (omega arith) (omega arith) in
    record {
      left = record { cuts = asked.cuts; few = asked.few; numbers = asked.numbers; part = (omega arith, omega arith) };
      right = record { cuts = asked.cuts; few = asked.few; numbers = asked.numbers; part = (omega arith, omega arith) };
      gives = sym (ap (λ (zs : List ℤ). firstmin_of p.0 zs) split ∙ firstmin-append p.0 mid xs ys (omega (arith, lx)));
    }
