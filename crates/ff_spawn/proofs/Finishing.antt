-- Jobs that are started and finished one after another.
use Rattle.std.proofs.Common.{◌≡◌, ℕ, List, [], ◌∷◌, ◌++◌, reverse, refl, sym, ◌∙◌, ap, append-nil, append_assoc}
use Rattle.std.proofs.lemmas.List.{reverse-append}
use Rattle.std.proofs.lemmas.List.Elements.{AllZip-push}
use Rattle.std.specs.List.{AllZip}
use Rattle.ff_spawn.specs.Counts.{more, more_by, count_more, worked_after}

-- the first of the started jobs were finished, and the others still run
pub record FinishesFront {J : Type 0} (done : J → J → Type 0) (amount : J → ℕ) (started left before now : List J) (worked worked' : ℕ) : Type 0 where
  pub front : List J
  pub finished : List J
  pub splits : started ≡ front ++ left
  pub behind : now ≡ before ++ finished
  pub each : AllZip done front finished
  pub work : worked' ≡ worked_after amount worked finished

pub reverse-push : {J : Type 0} (xs : List J) (x : J) → reverse (xs ++ x ∷ []) ≡ x ∷ reverse xs
reverse-push xs x = reverse-append xs (x ∷ [])

pub count_more-push : {J : Type 0} (n : ℕ) (xs : List J) (x : J) → count_more n (x ∷ xs) ≡ more (count_more n xs)
count_more-push n [] x = refl
count_more-push n (y ∷ ys) x = count_more-push (more n) ys x

pub worked_after-push : {J : Type 0} (amount : J → ℕ) (n : ℕ) (xs : List J) (x : J) → worked_after amount n (xs ++ x ∷ []) ≡ more_by (amount x) (worked_after amount n xs)
worked_after-push amount n [] x = refl
worked_after-push amount n (y ∷ ys) x = worked_after-push amount (more_by (amount y) n) ys x

module _ {J : Type 0} (done : J → J → Type 0) (amount : J → ℕ) where
  pub finishes_none : (started before : List J) (worked : ℕ) → FinishesFront done amount started started before before worked worked
  finishes_none started before worked = record {
    front = [];
    finished = [];
    splits = refl;
    behind = sym (append-nil before);
    each = tt;
    work = refl;
  }

  pub finishes_one : (started left left' before now now' : List J) (worked worked' worked'' : ℕ) (x y : J)
      → FinishesFront done amount started left before now worked worked'
      → left ≡ x ∷ left' → now' ≡ now ++ y ∷ [] → done x y → worked'' ≡ more_by (amount y) worked'
      → FinishesFront done amount started left' before now' worked worked''
  finishes_one started left left' before now now' worked worked' worked'' x y f next pushed ran counted = record {
    front = f.front ++ x ∷ [];
    finished = f.finished ++ y ∷ [];
    splits = f.splits ∙ ap (λ l. f.front ++ l) next ∙ sym (append_assoc f.front (x ∷ []) left');
    behind = pushed ∙ ap (λ l. l ++ y ∷ []) f.behind ∙ append_assoc before f.finished (y ∷ []);
    each = AllZip-push done f.front f.finished x y f.each ran;
    work = counted ∙ ap (more_by (amount y)) f.work ∙ sym (worked_after-push amount worked f.finished y);
  }

module _ {J : Type 0} where
  pub conserved_push : (jobs jobs' all list list' : List J) (x y : J) → jobs ++ reverse list ≡ all → jobs ≡ jobs' ++ x ∷ [] → list' ≡ list ++ y ∷ [] → y ≡ x → jobs' ++ reverse list' ≡ all
  conserved_push jobs jobs' all list list' x y whole popped pushed same =
      ap (λ l. jobs' ++ reverse l) pushed ∙ ap (λ l. jobs' ++ l) (reverse-push list y) ∙ ap (λ z. jobs' ++ z ∷ reverse list) same
      ∙ sym (append_assoc jobs' (x ∷ []) (reverse list)) ∙ ap (λ l. l ++ reverse list) (sym popped) ∙ whole

  pub count_more-reverse : (first n n' : ℕ) (list list' : List J) (y : J) → n ≡ count_more first (reverse list) → n' ≡ more n → list' ≡ list ++ y ∷ [] → n' ≡ count_more first (reverse list')
  count_more-reverse first n n' list list' y before once pushed =
      once ∙ ap more before ∙ sym (count_more-push first (reverse list) y)
      ∙ ap (count_more first) (sym (ap reverse pushed ∙ reverse-push list y))
