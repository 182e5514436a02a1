-- One step of going through a division: a part is divided, or it is come to.
use Rattle.std.proofs.Common.{◌≡◌, ℕ, zero, suc, ◌+◌, ◌*◌, ◌^◌, ◌<◌, ◌≤◌, inl, inr, true, false, List, [], ◌∷◌, length, Some, refl, ap, ◌∙◌, sym, subst, arith}
use Rattle.std.proofs.lemmas.Bool.{true≢false}
use Rattle.ff_rec.specs.Weights.{weigh}
use Rattle.ff_dc.specs.declared.rule.DcRule.{DcRule}
use Rattle.ff_dc.specs.Spans.{Span, is_small}
use Rattle.ff_dc.specs.Rules.{divided}
use Rattle.ff_dc.specs.Divisions.{Division, Whole, Cut, part_count, part_at}
use Rattle.ff_dc.proofs.PartsAt.{part_count-positive, where_part, only_part, part_at-room, part_at-left, part_at-right}
use Rattle.ff_dc_tasks.specs.declared.task.DcTask.{DcTask}
use Rattle.ff_dc_tasks.specs.declared.task.DcTask.TheVariants.{Seq}
use Rattle.ff_dc_tasks.specs.declared.todo.Later.{Later}
use Rattle.ff_dc_tasks.specs.Paths.{root, IsLow, IsProper}
use Rattle.ff_dc_tasks.specs.Walks.{StandsAt, seqs_after}
use Rattle.ff_dc_tasks.proofs.PathSteps.{path_from-left, path_from-right}
use Rattle.ff_dc_tasks.proofs.Heights.{IsLow-more, part_count-low, path_from-low}
use Rattle.ff_dc_tasks.proofs.WalkTasks.{seqs_after-next, seqs_after-more}

-- a part of a proper division is one
IsProper-part : (rule : DcRule) (cut : ℕ) (d : Division) (n : ℕ) (e : Division) → IsProper rule cut d → part_at d n ≡ Some e → IsProper rule cut e
IsProper-part rule cut (Whole p) n e proper at = subst (IsProper rule cut) (only_part p n e at).1 proper
IsProper-part rule cut (Cut p l r) n e proper at =
    elim (where_part p l r n e at) [
      | inl h ↦ subst (IsProper rule cut) h.1 proper
      | inr o ↦ elim o [
        | inl h ↦ IsProper-part rule cut l h.0 e proper.3 h.3
        | inr h ↦ IsProper-part rule cut r h.0 e proper.4 h.2
      ]
    ]

-- a part that is small isn't divided
small-whole : (rule : DcRule) (cut : ℕ) (e : Division) (p : Span) → IsProper rule cut e → p ≡ root e → is_small p cut ≡ true → e ≡ Whole p
small-whole rule cut (Whole q) p proper is small = ap Whole (sym is)
small-whole rule cut (Cut q l r) p proper is small = absurd (true≢false (sym small ∙ ap (λ (s : Span). is_small s cut) is ∙ proper.0))

-- what a part that isn't small is divided into
record IsDivided (rule : DcRule) (e : Division) (p : Span) : Type 0 where
  left : Division
  right : Division
  is : e ≡ Cut p left right
  on_left : root left ≡ (divided rule p).0
  on_right : root right ≡ (divided rule p).1

large-cut : (rule : DcRule) (cut : ℕ) (e : Division) (p : Span) → IsProper rule cut e → p ≡ root e → is_small p cut ≡ false → IsDivided rule e p
large-cut rule cut (Whole q) p proper is large = absurd (true≢false (sym proper ∙ ap (λ (s : Span). is_small s cut) (sym is) ∙ large))
large-cut rule cut (Cut q l r) p proper is large = record {
  left = l;
  right = r;
  is = ap (λ (s : Span). Cut s l r) (sym is);
  on_left = proper.1 ∙ ap (λ (s : Span). (divided rule s).0) (sym is);
  on_right = proper.2 ∙ ap (λ (s : Span). (divided rule s).1) (sym is);
}

-- where more parts are held, there are fewer levels
pub StandsAt-length : (d : Division) (room n : ℕ) (xs : List Later) → StandsAt d room n xs → room + length xs ≤ 25
StandsAt-length d room n [] stands = omega (arith, stands.1)
StandsAt-length d room n (x ∷ xs) stands = omega (arith, StandsAt-length d (room + 1) (n + part_count stands.0.here) xs stands.1)

-- a part that is divided has a level
levels-cut : (room : ℕ) (e : Division) (p : Span) (l r : Division) → e ≡ Cut p l r → IsLow room e → (less : ℕ) × (room ≡ suc less) × IsLow less l × IsLow less r
levels-cut room e p l r is low = by room (subst (IsLow room) is low)
  where
    by : (k : ℕ) → IsLow k (Cut p l r) → (less : ℕ) × (k ≡ suc less) × IsLow less l × IsLow less r
    by zero h = absurd h
    by (suc k) h = (k, refl, h.0, h.1)

module _ (rule : DcRule) (cut : ℕ) (d : Division) (proper : IsProper rule cut d) (low : IsLow 24 d) (room n : ℕ) (x : Later) (xs : List Later) (stands : StandsAt d room n (x ∷ xs)) where
  abbrev here : Division
  here = stands.0.here

  here_proper : IsProper rule cut here
  here_proper = IsProper-part rule cut d n here proper stands.0.at

  -- numbers and paths stay below 2^26
  pub number-small : n + 1 ≤ 2 ^ 25
  number-small = omega (arith, part_at-room d n here stands.0.at, part_count-positive here, part_count-low 24 d low)

  pub number-below : n < part_count d
  number-below = omega (arith, part_at-room d n here stands.0.at, part_count-positive here)

  pub path-small : x.path + 1 ≤ 2 ^ 25
  path-small = omega (arith, stands.0.path, path_from-low 24 1 d n here low stands.0.at)

  pub to_come-some : 1 ≤ weigh (λ _. 1) (seqs_after n 0 d)
  to_come-some = seqs_after-more n 0 n d here (omega arith) stands.0.at

  module _ (small : is_small x.part cut ≡ true) where
    is_whole : here ≡ Whole x.part
    is_whole = small-whole rule cut here x.part here_proper stands.0.part small

    pub at-small : part_at d n ≡ Some (Whole x.part)
    at-small = stands.0.at ∙ ap (λ (e : Division). Some e) is_whole

    pub StandsAt-small : StandsAt d (room + 1) (n + 1) xs
    StandsAt-small = subst (λ (e : Division). StandsAt d (room + 1) (n + part_count e) xs) is_whole stands.1

    pub weigh-small : (h : DcTask → ℕ) → weigh h (seqs_after n 0 d) ≡ h (Seq n x.part) + weigh h (seqs_after (n + 1) 0 d)
    weigh-small h = ap (weigh h) (seqs_after-next n 0 n d (Whole x.part) (omega arith) at-small)

  module _ (large : is_small x.part cut ≡ false) where
    divided_here : IsDivided rule here x.part
    divided_here = large-cut rule cut here x.part here_proper stands.0.part large

    at-large : part_at d n ≡ Some (Cut x.part divided_here.left divided_here.right)
    at-large = stands.0.at ∙ ap (λ (e : Division). Some e) divided_here.is

    less : (less : ℕ) × (room ≡ suc less) × IsLow less divided_here.left × IsLow less divided_here.right
    less = levels-cut room here x.part divided_here.left divided_here.right divided_here.is stands.0.low

    pub length-large : length xs < 24
    length-large = omega (arith, StandsAt-length d room n (x ∷ xs) stands, less.1)

    pub weigh-large : (h : DcTask → ℕ) → weigh h (seqs_after n 0 d) ≡ weigh h (seqs_after (n + 1) 0 d)
    weigh-large h = ap (weigh h) (seqs_after-next n 0 n d (Cut x.part divided_here.left divided_here.right) (omega arith) at-large)

    pub StandsAt-large : (room' : ℕ) × StandsAt d room' (n + 1)
        (record { path = 2 * x.path; part = (divided rule x.part).0 } ∷ record { path = 2 * x.path + 1; part = (divided rule x.part).1 } ∷ xs)
    StandsAt-large =
        let l : Division = divided_here.left in
        let r : Division = divided_here.right in
        let deeper : room + 1 ≡ less.0 + 1 + 1 = omega (arith, less.1) in
        let behind : n + part_count here ≡ n + 1 + part_count l + part_count r = omega (arith, ap part_count divided_here.is) in
        let rest : StandsAt d (less.0 + 1 + 1) (n + 1 + part_count l + part_count r) xs =
        subst (λ (i : ℕ). StandsAt d i (n + 1 + part_count l + part_count r) xs) deeper (subst (λ (i : ℕ). StandsAt d (room + 1) i xs) behind stands.1) in
        let one_more : suc less.0 ≡ less.0 + 1 = omega arith in (
          less.0,
          (
            record {
              here = l;
              at = part_at-left d n x.part l r at-large;
              path = ap (λ (i : ℕ). 2 * i) stands.0.path ∙ sym (path_from-left 1 d n x.part l r at-large);
              part = sym divided_here.on_left;
              low = less.2;
            },
            (
              record {
                here = r;
                at = part_at-right d n x.part l r at-large;
                path = ap (λ (i : ℕ). 2 * i + 1) stands.0.path ∙ sym (path_from-right 1 d n x.part l r at-large);
                part = sym divided_here.on_right;
                low = subst (λ (i : ℕ). IsLow i r) one_more (IsLow-more less.0 r less.3);
              },
              rest,
            ),
          ),
        )
