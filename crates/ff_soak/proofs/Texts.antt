-- The text of the records, record by record.
use Rattle.std.proofs.Common.{◌≡◌, ℕ, suc, ◌+◌, ◌-◌, ◌<◌, List, ◌++◌, ap, ◌∙◌, append_assoc, arith}
use Rattle.ff_rec.specs.Lines.{line_of, text}
use Rattle.ff_soak.specs.Records.{soak_record, records_behind}

-- the next line is the front of what is left
pub text-next : (items : List ℕ) (i n : ℕ) → i < n
    → (items ++ line_of (soak_record (i + 1))) ++ text (records_behind (i + 1) (n - (i + 1))) ≡ items ++ text (records_behind i (n - i))
text-next items i n below =
    append_assoc items (line_of (soak_record (i + 1))) (text (records_behind (i + 1) (n - (i + 1))))
    ∙ ap (λ j. items ++ (line_of (soak_record j) ++ text (records_behind j (n - (i + 1))))) (let e : i + 1 ≡ suc i = omega arith in e)
    ∙ ap (λ k. items ++ text (records_behind i k)) (let e : suc (n - (i + 1)) ≡ n - i = omega arith in e)
