-- Files in a list, found and stored by name.
use Rattle.std.proofs.Common.{◌≡◌, ℕ, zero, suc, ◌<◌, ◌≤◌, Bool, true, false, cond, List, [], ◌∷◌, ◌++◌, length, get_or, set, position, Some, None, Vec, String, string_bytes, refl, sym, ap, ◌∙◌, arith}
use Rattle.std.proofs.lemmas.Grind.{common_steps}
use Rattle.std.proofs.lemmas.List.Sums.{fails_before_first}
use Rattle.std.proofs.lemmas.Slice.Eq.{bytes_eq-Decides}
use Rattle.std.proofs.lemmas.List.Quantifiers.{position-Some}
use Rattle.std.specs.List.{position_or_len}
use Rattle.std.specs.Str.{bytes_eq}
use Rattle.ff_io.specs.Cabinet.{Entry, entries_of, held, with_file}

-- one choice, made twice
cond-twice : {X : Type 0} (b : Bool) (x y z : X) → cond b x z ≡ cond b x (cond b y z)
cond-twice true x y z = refl
cond-twice false x y z = refl

-- two choices, of which only one can be made
cond-swap : {X : Type 0} (a b : Bool) (x y z : X) → (a ≡ true → b ≡ true → ⊥) → cond a x (cond b y z) ≡ cond b y (cond a x z)
cond-swap true true x y z h = absurd (h refl refl)
cond-swap true false x y z h = refl
cond-swap false true x y z h = refl
cond-swap false false x y z h = refl

-- one entry more in front
held-with_file_step : (b : Bool) (entry : Entry) (entries : List Entry) (name bytes other : List ℕ) → bytes_eq entry.0 name ≡ b
    → held (with_file entries name bytes) other ≡ cond (bytes_eq name other) (Some bytes) (held entries other)
    → held (cond b ((name, bytes) ∷ entries) (entry ∷ with_file entries name bytes)) other
    ≡ cond (bytes_eq name other) (Some bytes) (cond (bytes_eq entry.0 other) (Some entry.1) (held entries other))
held-with_file_step true entry entries name bytes other e rest =
    let same : entry.0 ≡ name = (bytes_eq-Decides entry.0 name).0 e in
    cond-twice (bytes_eq name other) (Some bytes) (Some entry.1) (held entries other)
    ∙ ap (λ n. cond (bytes_eq name other) (Some bytes) (cond (bytes_eq n other) (Some entry.1) (held entries other))) (sym same)
held-with_file_step false entry entries name bytes other e rest =
    let differ : bytes_eq entry.0 other ≡ true → bytes_eq name other ≡ true → ⊥ =
    λ a b. let same : entry.0 ≡ name = (bytes_eq-Decides entry.0 other).0 a ∙ sym ((bytes_eq-Decides name other).0 b) in
    let yes : bytes_eq entry.0 name ≡ true = (bytes_eq-Decides entry.0 name).1 same in cc in
    ap (λ h. cond (bytes_eq entry.0 other) (Some entry.1) h) rest
    ∙ cond-swap (bytes_eq entry.0 other) (bytes_eq name other) (Some entry.1) (Some bytes) (held entries other) differ

-- after a store the name holds the bytes, and every other name what it held
pub held-with_file : (entries : List Entry) (name bytes other : List ℕ)
    → held (with_file entries name bytes) other ≡ cond (bytes_eq name other) (Some bytes) (held entries other)
held-with_file [] name bytes other = refl
held-with_file (entry ∷ entries) name bytes other =
    held-with_file_step (bytes_eq entry.0 name) entry entries name bytes other refl (held-with_file entries name bytes other)

pub held-with_file_name : (entries : List Entry) (name bytes : List ℕ) → held (with_file entries name bytes) name ≡ Some bytes
held-with_file_name entries name bytes =
    held-with_file entries name bytes name ∙ ap (λ b. cond b (Some bytes) (held entries name)) ((bytes_eq-Decides name name).1 refl)

pub held-with_file_other : (entries : List Entry) (name bytes other : List ℕ) → ¬ (other ≡ name)
    → held (with_file entries name bytes) other ≡ held entries other
held-with_file_other entries name bytes other differ =
    held-with_file entries name bytes other ∙ choice (bytes_eq name other) refl where
      choice : (b : Bool) → bytes_eq name other ≡ b → cond b (Some bytes) (held entries other) ≡ held entries other
      choice true e = absurd (differ (sym ((bytes_eq-Decides name other).0 e)))
      choice false e = refl

-- a file of the list has this name
abbrev pub is_named : {Y Z : Type 0} → List ℕ → String Y × Vec ℕ Z → Bool
is_named name file = bytes_eq (string_bytes file.0) name

-- the first file with this name
pub held-first : {Y Z : Type 0} (name : List ℕ) (list : List (String Y × Vec ℕ Z)) (k : ℕ) (d : String Y × Vec ℕ Z) → k < length list
    → is_named name (get_or list k d) ≡ true → ((j : ℕ) → j < k → is_named name (get_or list j d) ≡ false)
    → held (entries_of list) name ≡ Some (get_or list k d).1.items
held-first name [] k d below here before = absurd (omega arith)
held-first name (file ∷ files) zero d below here before = ap (λ b. cond b (Some file.1.items) (held (entries_of files) name)) here
held-first name (file ∷ files) (suc k) d below here before =
    ap (λ b. cond b (Some file.1.items) (held (entries_of files) name)) (before 0 (omega arith))
    ∙ held-first name files k d (omega arith) here (λ j less. before (suc j) (omega arith))

-- no file with this name
pub held-missing : {Y Z : Type 0} (name : List ℕ) (list : List (String Y × Vec ℕ Z))
    → ((j : ℕ) (d : String Y × Vec ℕ Z) → j < length list → is_named name (get_or list j d) ≡ false) → held (entries_of list) name ≡ None
held-missing name [] none = refl
held-missing name (file ∷ files) none =
    ap (λ b. cond b (Some file.1.items) (held (entries_of files) name)) (none 0 file (omega arith))
    ∙ held-missing name files (λ j d less. none (suc j) d (omega arith))

-- the first file with this name holds other bytes
pub with_file-first : {Y Z : Type 0} (name bytes : List ℕ) (list : List (String Y × Vec ℕ Z)) (k : ℕ) (d stored : String Y × Vec ℕ Z) → k < length list
    → is_named name (get_or list k d) ≡ true → ((j : ℕ) → j < k → is_named name (get_or list j d) ≡ false)
    → string_bytes stored.0 ≡ name → stored.1.items ≡ bytes
    → entries_of (set list k stored) ≡ with_file (entries_of list) name bytes
with_file-first name bytes [] k d stored below here before named holds = absurd (omega arith)
with_file-first name bytes (file ∷ files) zero d stored below here before named holds =
    ap (λ (n : List ℕ). (n, stored.1.items) ∷ entries_of files) named
    ∙ ap (λ (b : List ℕ). (name, b) ∷ entries_of files) holds
    ∙ sym (ap (λ b. cond b ((name, bytes) ∷ entries_of files) ((string_bytes file.0, file.1.items) ∷ with_file (entries_of files) name bytes)) here)
with_file-first name bytes (file ∷ files) (suc k) d stored below here before named holds =
    ap (λ (rest : List Entry). (string_bytes file.0, file.1.items) ∷ rest)
    (with_file-first name bytes files k d stored (omega arith) here (λ j less. before (suc j) (omega arith)) named holds)
    ∙ sym (ap (λ b. cond b ((name, bytes) ∷ entries_of files) ((string_bytes file.0, file.1.items) ∷ with_file (entries_of files) name bytes)) (before 0 (omega arith)))

-- a new name comes last
pub with_file-new : {Y Z : Type 0} (name bytes : List ℕ) (list : List (String Y × Vec ℕ Z)) (stored : String Y × Vec ℕ Z)
    → ((j : ℕ) (d : String Y × Vec ℕ Z) → j < length list → is_named name (get_or list j d) ≡ false)
    → string_bytes stored.0 ≡ name → stored.1.items ≡ bytes
    → entries_of (list ++ stored ∷ []) ≡ with_file (entries_of list) name bytes
with_file-new name bytes [] stored none named holds =
    ap (λ (n : List ℕ). (n, stored.1.items) ∷ []) named ∙ ap (λ (b : List ℕ). (name, b) ∷ []) holds
with_file-new name bytes (file ∷ files) stored none named holds =
    ap (λ (rest : List Entry). (string_bytes file.0, file.1.items) ∷ rest)
    (with_file-new name bytes files stored (λ j d less. none (suc j) d (omega arith)) named holds)
    ∙ sym (ap (λ b. cond b ((name, bytes) ∷ entries_of files) ((string_bytes file.0, file.1.items) ∷ with_file (entries_of files) name bytes)) (none 0 file (omega arith)))

-- what it says that no place was found
pub none-from_position : {X : Type 0} (p : X → Bool) (xs : List X) → position p xs ≡ None → (j : ℕ) (d : X) → j < length xs → p (get_or xs j d) ≡ false
none-from_position p xs e j d less = let past : length xs ≤ position_or_len p xs = grind (arith, common_steps) in
    fails_before_first p xs j d (omega arith)

-- these four, from the answer of a search for the place
pub held-at : {Y Z : Type 0} (name : List ℕ) (list : List (String Y × Vec ℕ Z)) (k : ℕ) (file : String Y × Vec ℕ Z) → position (is_named name) list ≡ Some k
    → file ≡ get_or list k file → held (entries_of list) name ≡ Some file.1.items
held-at name list k file e is = let found = position-Some (is_named name) list k file e in
    held-first name list k file found.0 found.1 found.2 ∙ ap (λ f. Some f.1.items) (sym is)

pub held-nowhere : {Y Z : Type 0} (name : List ℕ) (list : List (String Y × Vec ℕ Z)) → position (is_named name) list ≡ None
    → held (entries_of list) name ≡ None
held-nowhere name list e = held-missing name list (none-from_position (is_named name) list e)

pub with_file-at : {Y Z : Type 0} (name bytes : List ℕ) (list : List (String Y × Vec ℕ Z)) (k : ℕ) (file : String Y × Vec ℕ Z) (content : Vec ℕ Z)
    → position (is_named name) list ≡ Some k → file ≡ get_or list k file → content.items ≡ bytes
    → entries_of (set list k (file.0, content)) ≡ with_file (entries_of list) name bytes
with_file-at name bytes list k file content e is holds = let found = position-Some (is_named name) list k file e in
    let named : string_bytes file.0 ≡ name = ap (λ f. string_bytes f.0) is ∙ (bytes_eq-Decides (string_bytes (get_or list k file).0) name).0 found.1 in
    with_file-first name bytes list k file (file.0, content) found.0 found.1 found.2 named holds

pub with_file-nowhere : {Y Z : Type 0} (name bytes : List ℕ) (list after : List (String Y × Vec ℕ Z)) (key : String Y) (content : Vec ℕ Z) → position (is_named name) list ≡ None
    → after ≡ list ++ (key, content) ∷ [] → string_bytes key ≡ name → content.items ≡ bytes
    → entries_of after ≡ with_file (entries_of list) name bytes
with_file-nowhere name bytes list after key content e grown named holds =
    ap entries_of grown ∙ with_file-new name bytes list (key, content) (none-from_position (is_named name) list e) named holds

-- what the name holds, and what the others do, after a store that is known by an equation
pub held-stored : (entries after : List Entry) (name bytes : List ℕ) → after ≡ with_file entries name bytes → held after name ≡ Some bytes
held-stored entries after name bytes e = ap (λ files. held files name) e ∙ held-with_file_name entries name bytes

pub held-stored_other : (entries after : List Entry) (name bytes other : List ℕ) → after ≡ with_file entries name bytes → ¬ (other ≡ name)
    → held after other ≡ held entries other
held-stored_other entries after name bytes other e differ = ap (λ files. held files other) e ∙ held-with_file_other entries name bytes other differ

pub ruleset cabinet_steps = (common_steps, held-stored, held-stored_other, held-at, held-nowhere, with_file-at, with_file-nowhere)
