-- No word is both a form's and an operation's.
use Rattle.std.proofs.Common.{◌≡◌, ℕ, List, Option, None, Some, refl, sym, ap, ◌∙◌}
use Rattle.std.specs.Cmp.Lexicographic.{bytes_decides}
use Rattle.ff_rec.specs.Fields.{same_bytes}
use Rattle.ff_ops.specs.Table.{row_named}
use Rattle.ff_ops.specs.declared.row.Row.{Row}
use Rattle.ff_text.specs.declared.form.Form.{Form}
use Rattle.ff_text.specs.declared.form.Form.TheVariants.{Pipe, Comb, Farm, OFarm, A2a, Wrap}
use Rattle.ff_text.specs.declared.form.TheConstants.{FORMS}
use Rattle.ff_text.specs.Grammar.{form_word, form_named}
use Rattle.ff_ops.proofs.RowLaws.{find-test}

-- the form with a word has this word
pub form_word-form_named : (name : List ℕ) (form : Form) → form_named name ≡ Some form → form_word form ≡ name
form_word-form_named name form e =
    (bytes_decides (form_word form) name).0 (find-test (λ f. same_bytes (form_word f) name) FORMS form e)

row_named-form_word : (form : Form) → row_named (form_word form) ≡ None
row_named-form_word Pipe = refl
row_named-form_word Comb = refl
row_named-form_word Farm = refl
row_named-form_word OFarm = refl
row_named-form_word A2a = refl
row_named-form_word Wrap = refl

form_named-other : (name : List ℕ) (row : Row) (form : Option Form) → row_named name ≡ Some row → form_named name ≡ form → form ≡ None
form_named-other name row None named is = refl
form_named-other name row (Some form) named is =
    let none : row_named name ≡ None = ap row_named (sym (form_word-form_named name form is)) ∙ row_named-form_word form in cc

-- the word of an operation is no form's
pub form_named-row_named : (name : List ℕ) (row : Row) → row_named name ≡ Some row → form_named name ≡ None
form_named-row_named name row named = form_named-other name row (form_named name) named refl
