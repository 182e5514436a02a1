-- Numbers that are added behind others.
use Rattle.std.proofs.Common.{◌≡◌, ℕ, ◌+◌, ◌<◌, ◌≤◌, take, drop, get_or, take-append-drop, List, [], ◌∷◌, ◌++◌, length, None, Some, refl, sym, ap, ap₂, ◌∙◌, subst, arith, append_assoc, append-nil, length-append, ℤ}
use Rattle.std.proofs.lemmas.List.{map-append, length-map, take_more}
use Rattle.ff_rec.specs.Lines.{Rec}
use Rattle.ff_numbers.specs.Data.{data_fault, lone_number}
use Rattle.ff_numbers.specs.Reads.{Adds, IsDataFault}
use Rattle.ff_numbers.specs.declared.fault.InputFault.{InputFault}
use Rattle.ff_numbers.specs.declared.fault.InputFault.TheVariants.{Read, Line, NotNumber, TooMany, NoMemory}
use Rattle.ff_numbers.specs.declared.fault.TheConstants.{MOST_NUMBERS}
use Rattle.ff_numbers.proofs.Faults.{data_fault-behind, data_fault-front, data_fault-numbers}

pub Adds-none : (ns : List ℤ) → length ns ≤ MOST_NUMBERS → Adds [] ns ns
Adds-none ns few = record { more = []; numbers = refl; all = sym (append-nil ns); few = few }

pub Adds-behind : (xs ys : List Rec) (ns ms now : List ℤ) → Adds xs ns ms → Adds ys ms now → Adds (xs ++ ys) ns now
Adds-behind xs ys ns ms now a b = record {
  more = a.more ++ b.more;
  numbers = map-append lone_number xs ys ∙ ap₂ (λ l r. l ++ r) a.numbers b.numbers ∙ sym (map-append Some a.more b.more);
  all = b.all ∙ ap (λ l. l ++ b.more) a.all ∙ append_assoc ns a.more b.more;
  few = b.few;
}

-- nothing is wrong with the records
pub Adds-fine : (xs : List Rec) (ns now : List ℤ) → Adds xs ns now → data_fault (length ns) xs ≡ None
Adds-fine xs ns now a =
    data_fault-numbers (length ns) xs a.more a.numbers (omega (arith, a.few, ap length a.all, length-append ns a.more))

-- they are as many as the numbers
pub Adds-length : (xs : List Rec) (ns now : List ℤ) → Adds xs ns now → length now ≡ length ns + length xs
Adds-length xs ns now a =
    omega (arith, ap length a.all, length-append ns a.more, length-map xs lone_number, length-map a.more (λ (m : ℤ). Some m), ap length a.numbers)

-- what is wrong behind records that were added
pub data_fault-added : (xs ys : List Rec) (ns now : List ℤ) (fault : InputFault) → Adds xs ns now → data_fault (length now) ys ≡ Some fault
    → data_fault (length ns) (xs ++ ys) ≡ Some fault
data_fault-added xs ys ns now fault a is =
    data_fault-behind (length ns) xs ys (Adds-fine xs ns now a) ∙ ap (λ n. data_fault n ys) (sym (Adds-length xs ns now a)) ∙ is

pub IsDataFault-added : (xs ys : List Rec) (ns now : List ℤ) (fault : InputFault) → Adds xs ns now → IsDataFault (length now) ys fault
    → IsDataFault (length ns) (xs ++ ys) fault
IsDataFault-added xs ys ns now Read a is = is
IsDataFault-added xs ys ns now (Line passed) a is = is
IsDataFault-added xs ys ns now (NotNumber line) a is = data_fault-added xs ys ns now (NotNumber line) a is
IsDataFault-added xs ys ns now TooMany a is = data_fault-added xs ys ns now TooMany a is
IsDataFault-added xs ys ns now NoMemory a is = tt

pub IsDataFault-front : (n : ℕ) (xs ys : List Rec) (fault : InputFault) → IsDataFault n xs fault → IsDataFault n (xs ++ ys) fault
IsDataFault-front n xs ys Read is = is
IsDataFault-front n xs ys (Line passed) is = is
IsDataFault-front n xs ys (NotNumber line) is = data_fault-front n xs ys (NotNumber line) is
IsDataFault-front n xs ys TooMany is = data_fault-front n xs ys TooMany is
IsDataFault-front n xs ys NoMemory is = tt

-- what is wrong at the next record is so with all of them
pub IsDataFault-at : (xs : List Rec) (k : ℕ) (x : Rec) (ns now : List ℤ) (fault : InputFault) → k < length xs → x ≡ get_or xs k x
    → Adds (take k xs) ns now → IsDataFault (length now) (x ∷ []) fault → IsDataFault (length ns) xs fault
IsDataFault-at xs k x ns now fault below is a wrong =
    let front = IsDataFault-added (take k xs) (x ∷ []) ns now fault a wrong in
    let splits : take (k + 1) xs ≡ take k xs ++ x ∷ [] = take_more xs k x below ∙ ap (λ y. take k xs ++ y ∷ []) (sym is) in
    subst (λ l. IsDataFault (length ns) l fault) (ap (λ l. l ++ drop (k + 1) xs) (sym splits) ∙ take-append-drop (k + 1) xs)
    (IsDataFault-front (length ns) (take k xs ++ x ∷ []) (drop (k + 1) xs) fault front)
