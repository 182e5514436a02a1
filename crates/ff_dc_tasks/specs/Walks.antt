-- Going through the parts of a division in their order.
use Rattle.std.specs.Prelude.{◌≡◌, ℕ, ◌+◌, ◌≤◌, nat_le, if◌then◌else◌, List, [], ◌∷◌, ◌++◌, Option, Some, None}
use Rattle.ff_rec.specs.Weights.{weigh}
use Rattle.ff_dc.specs.declared.rule.DcRule.{DcRule}
use Rattle.ff_dc.specs.Spans.{Span}
use Rattle.ff_dc.specs.Divisions.{Division, Whole, Cut, division, part_count, part_at}
use Rattle.ff_dc_tasks.specs.declared.task.DcTask.{DcTask}
use Rattle.ff_dc_tasks.specs.declared.task.DcTask.TheVariants.{Seq}
use Rattle.ff_dc_tasks.specs.declared.place.Place.{Place}
use Rattle.ff_dc_tasks.specs.declared.todo.Later.{Later}
use Rattle.ff_dc_tasks.specs.declared.walk.Walk.{Walk}
use Rattle.ff_dc_tasks.specs.Paths.{path_at, root, IsLow, IsProper}

-- the first is taken out, or there are none
abbrev pub Takes : {A : Type 0} → List A → Option A → List A → Type 0
Takes xs None ys = (xs ≡ []) × (ys ≡ [])
Takes xs (Some x) ys = xs ≡ x ∷ ys

-- what is held for the part with this number: it has its path, and at most so many levels
pub record IsHere (d : Division) (room n : ℕ) (x : Later) : Type 0 where
  pub here : Division
  pub at : part_at d n ≡ Some here
  pub path : x.path ≡ path_at d n
  pub part : x.part ≡ root here
  pub low : IsLow room here

-- what is held are the parts from this number on, those in parts that are held left out; each has at most one level more than the one before it
abbrev pub StandsAt : Division → ℕ → ℕ → List Later → Type 0
StandsAt d room n [] = (n ≡ part_count d) × (room ≤ 25)
StandsAt d room n (x ∷ xs) = (at : IsHere d room n x) × StandsAt d (room + 1) (n + part_count at.here) xs

-- the tasks of the parts from number `n` on that aren't divided, of a part with the number `k`
abbrev pub seqs_after : ℕ → ℕ → Division → List DcTask
seqs_after n k (Whole p) = if nat_le n k then Seq k p ∷ [] else []
seqs_after n k (Cut p l r) = seqs_after n (k + 1) l ++ seqs_after n (k + 1 + part_count l) r

-- the division that is gone through
abbrev pub division_of : DcRule → Walk → Division
division_of rule w = division rule w.cut w.whole

-- the tasks of the parts that are to come and aren't divided
abbrev pub to_come : DcRule → Walk → List DcTask
to_come rule w = seqs_after w.number 0 (division_of rule w)

-- it is where its number says, in a division of at most 24 levels
pub record IsWalk (rule : DcRule) (w : Walk) : Type 0 where
  pub proper : IsProper rule w.cut (division_of rule w)
  pub low : IsLow 24 (division_of rule w)
  pub room : ℕ
  pub stands : StandsAt (division_of rule w) room w.number w.todo

-- it comes to this part, which isn't divided
pub record ComesTo (rule : DcRule) (w : Walk) (place : Place) (p : Span) (w' : Walk) : Type 0 where
  pub walk : IsWalk rule w'
  pub cut : w'.cut ≡ w.cut
  pub whole : w'.whole ≡ w.whole
  pub at : part_at (division_of rule w) place.number ≡ Some (Whole p)
  pub path : place.path ≡ path_at (division_of rule w) place.number
  pub first : (h : DcTask → ℕ) → weigh h (to_come rule w) ≡ h (Seq place.number p) + weigh h (to_come rule w')

-- the next part that isn't divided, or there is none
abbrev pub Goes : DcRule → Walk → Option (Place × Span) → Walk → Type 0
Goes rule w None w' = (w' ≡ w) × (w.todo ≡ [])
Goes rule w (Some x) w' = ComesTo rule w x.0 x.1 w'
