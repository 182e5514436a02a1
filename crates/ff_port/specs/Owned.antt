-- Ports that own their ends.
use Rattle.std.specs.Prelude.{◌≡◌, ℕ, List, [], length, map}
use Rattle.std.specs.List.{AllByRecursion, sum_by}
use Rattle.ff_rec.specs.declared.msg.Msg.{Msg}

-- how many messages were taken at all these ins together
abbrev pub count_of : {T I : Type 0} → (I → List (Msg T)) → List I → ℕ
count_of got ins = sum_by (λ i. length (got i)) ins

-- nothing was taken at any of these ins
abbrev pub AllEmpty : {T I : Type 0} → (I → List (Msg T)) → List I → Type 0
AllEmpty got ins = AllByRecursion (λ i. got i ≡ []) ins

-- what the ins and the outs are paired with
abbrev pub links_of : {I O A B : Type 0} → (I → A) → (O → B) → List I → List O → List A × List B
links_of in_link out_link ins outs = (map in_link ins, map out_link outs)
