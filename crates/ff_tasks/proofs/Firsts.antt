-- The first elements of lists.
use Rattle.std.proofs.Common.{◌≡◌, ◌+◌, List, [], ◌∷◌, ◌++◌, length, map, refl, sym, ap, ◌∙◌, arith, length-append, append_assoc, append-nil}
use Rattle.std.proofs.lemmas.List.{map-append, length-map, nil_from_length}
use Rattle.ff_rec.specs.declared.msg.Msg.{Msg}
use Rattle.ff_rec.specs.Streams.{items}
use Rattle.ff_unit.specs.MessageLaws.{items-append}
use Rattle.ff_tasks.specs.Jobs.{Begins}

pub Begins-refl : {A : Type 0} (xs : List A) → Begins xs xs
Begins-refl xs = record { more = []; is = sym (append-nil xs) }

pub Begins-same : {A : Type 0} (xs ys : List A) → ys ≡ xs → Begins xs ys
Begins-same xs ys same = record { more = []; is = same ∙ sym (append-nil xs) }

pub Begins-trans : {A : Type 0} (xs ys zs : List A) → Begins xs ys → Begins ys zs → Begins xs zs
Begins-trans xs ys zs a b = record { more = a.more ++ b.more; is = b.is ∙ ap (λ l. l ++ b.more) a.is ∙ append_assoc xs a.more b.more }

-- more behind them
pub Begins-more : {A : Type 0} (xs ys : List A) (y : A) (zs : List A) → Begins xs ys → zs ≡ ys ++ y ∷ [] → Begins xs zs
Begins-more xs ys y zs a same = Begins-trans xs ys zs a (record { more = y ∷ []; is = same })

-- what they carry
pub Begins-items : {T : Type 0} (xs ys : List (Msg T)) → Begins xs ys → Begins (items xs) (items ys)
Begins-items xs ys a = record { more = items a.more; is = ap items a.is ∙ items-append xs a.more }

-- and what a function gives for each
pub Begins-map : {A B : Type 0} (f : A → B) (xs ys : List A) → Begins xs ys → Begins (map f xs) (map f ys)
Begins-map f xs ys a = record { more = map f a.more; is = ap (map f) a.is ∙ map-append f xs a.more }

-- where they are as many, they are all
pub same-length : {A : Type 0} (xs ys : List A) → Begins xs ys → length xs ≡ length ys → xs ≡ ys
same-length xs ys a same = sym (
    a.is
    ∙ ap (λ l. xs ++ l) (nil_from_length a.more (omega (arith, ap length a.is, length-append xs a.more, same)))
    ∙ append-nil xs
    )

-- what was got from a settled ring is the first of what was put
pub Begins-settled : {A : Type 0} (got there held put got' put' : List A) → (got ++ there) ++ held ≡ put → put ≡ put' → got ≡ got' → Begins got' put'
Begins-settled got there held put got' put' law same same' = record {
  more = there ++ held;
  is = sym same ∙ sym law ∙ append_assoc got there held ∙ ap (λ l. l ++ (there ++ held)) same';
}
