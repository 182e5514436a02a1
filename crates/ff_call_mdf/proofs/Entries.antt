-- The text of a store with one name more.
use Rattle.std.proofs.Common.{◌≡◌, ℕ, zero, suc, ◌+◌, List, [], ◌∷◌, ◌++◌, take, slice_get, Some, option_map, ap, ap₂, ◌∙◌, sym, append_assoc, append-nil, arith}
use Rattle.ff_mdf.specs.Stores.{Entry, entry}
use Rattle.ff_mdf.specs.declared.value.Value.{Value}
use Rattle.ff_call_mdf.specs.StoreText.{entry_line, store_text}

pub store_text-more : (es : List Entry) (k : ℕ) (n : List ℕ) (v : Value) → option_map (λ e. e.0) (slice_get es k) ≡ Some n → option_map (λ e. e.1) (slice_get es k) ≡ Some v
    → store_text (take (k + 1) es) ≡ store_text (take k es) ++ entry_line (entry n v)
store_text-more [] k n v name value = absurd (cc)
store_text-more (e ∷ es) zero n v name value =
    let its_name : e.0 ≡ n = cc in
    let its_value : e.1 ≡ v = cc in
    append-nil (entry_line e) ∙ ap₂ (λ a b. entry_line (entry a b)) its_name its_value
store_text-more (e ∷ es) (suc k) n v name value =
    let next : suc k + 1 ≡ suc (k + 1) = omega arith in
    ap (λ i. store_text (take i (e ∷ es))) next
    ∙ ap (λ l. entry_line e ++ l) (store_text-more es k n v name value)
    ∙ sym (append_assoc (entry_line e) (store_text (take k es)) (entry_line (entry n v)))
