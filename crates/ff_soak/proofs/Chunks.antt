-- How far a chunk of lines has come.
use Rattle.std.proofs.Common.{◌≡◌, ℕ, ◌+◌, ◌-◌, ◌<◌, ◌≤◌, min, List, [], ◌++◌, length, take, drop, ap, ap₂, ◌∙◌, arith, length-drop}
use Rattle.std.proofs.lemmas.List.{drop_all}
use Rattle.ff_io.proofs.Fronts.{take-drop_whole}
use Rattle.ff_rec.specs.Lines.{text}
use Rattle.ff_soak.specs.Records.{records_behind}

-- the lines from number `made` up to `i` stand in the chunk behind what was left
pub record HasLines (left : List ℕ) (made i n : ℕ) (items : List ℕ) (cap : ℕ) : Type 0 where
  pub bytes : items ++ text (records_behind i (n - i)) ≡ left ++ text (records_behind made (n - made))
  pub room : 65544 ≤ cap

-- where less than a piece was given into more room, nothing was left
pub read-whole : (items seen : List ℕ) (given room n made records : ℕ) → seen ≡ items
    → n ≡ min (length (take (length seen - given) (drop given seen))) room → n < room → n < 65536 → (length items - given < 65536 → made ≡ records)
    → drop (given + n) items ++ text (records_behind made (records - made)) ≡ []
read-whole items seen given room n made records same portion roomy few out =
    let length_left = ap length (take-drop_whole seen given) ∙ length-drop given seen in
    let little : length items - given < 65536 = omega (arith, length_left, ap length same) in
    let all_made : made ≡ records = out little in
    let end : length items ≤ given + n = omega (arith, length_left, ap length same) in
    ap₂ (λ (front : List ℕ) (k : ℕ). front ++ text (records_behind made k)) (drop_all (given + n) items end) (let e : records - made ≡ 0 = omega arith in e)
