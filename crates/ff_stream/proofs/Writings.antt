-- How records are written that are there at once.
use Rattle.std.proofs.Common.{◌≡◌, ℕ, List, [], ◌∷◌, ◌++◌, sym, ap, ◌∙◌, append_assoc, append-nil}
use Rattle.std.specs.Prelude.{Option}
use Rattle.std.proofs.KnownBytes.{Appends-nil, Appends-trans}
use Rattle.ff_rec.specs.Lines.{Rec, line_of, text}
use Rattle.ff_stream.specs.Texts.{Writes, WritesSome}

-- nothing was written yet of what is held and of the records behind it
pub Writes-none : (xs : List Rec) (held : List ℕ) (t : Option (List ℕ)) → held ≡ [] → Writes (text xs) (held ++ text xs) t t
Writes-none xs held t empty = record { put = []; taken = Appends-nil t; splits = ap (λ (l : List ℕ). l ++ text xs) (sym empty) }

-- a record more is held, and some of what is held was written
pub Writes-record : (xs ys zs : List Rec) (r : Rec) (held more rest : List ℕ) (t t' t'' : Option (List ℕ)) → Writes (text xs) (held ++ text ys) t t' → ys ≡ r ∷ zs
    → more ≡ held ++ line_of r → Writes more rest t' t'' → Writes (text xs) (rest ++ text zs) t t''
Writes-record xs ys zs r held more rest t t' t'' so_far first printed written = record {
  put = so_far.put ++ written.put;
  taken = Appends-trans t t' t'' so_far.put written.put so_far.taken written.taken;
  splits = so_far.splits
      ∙ ap (λ (l : List Rec). so_far.put ++ (held ++ text l)) first
      ∙ ap (λ (l : List ℕ). so_far.put ++ l) (sym (append_assoc held (line_of r) (text zs)))
      ∙ ap (λ (l : List ℕ). so_far.put ++ (l ++ text zs)) (sym printed ∙ written.splits)
      ∙ ap (λ (l : List ℕ). so_far.put ++ l) (append_assoc written.put rest (text zs))
      ∙ sym (append_assoc so_far.put written.put (rest ++ text zs));
}

-- one at which a write broke off
pub WritesSome-record : (xs ys zs : List Rec) (r : Rec) (held more : List ℕ) (t t' t'' : Option (List ℕ)) → Writes (text xs) (held ++ text ys) t t' → ys ≡ r ∷ zs
    → more ≡ held ++ line_of r → WritesSome more t' t'' → WritesSome (text xs) t t''
WritesSome-record xs ys zs r held more t t' t'' so_far first printed written = record {
  put = so_far.put ++ written.put;
  taken = Appends-trans t t' t'' so_far.put written.put so_far.taken written.taken;
  back = written.back ++ text zs;
  splits = so_far.splits
      ∙ ap (λ (l : List Rec). so_far.put ++ (held ++ text l)) first
      ∙ ap (λ (l : List ℕ). so_far.put ++ l) (sym (append_assoc held (line_of r) (text zs)))
      ∙ ap (λ (l : List ℕ). so_far.put ++ (l ++ text zs)) (sym printed ∙ written.splits)
      ∙ ap (λ (l : List ℕ). so_far.put ++ l) (append_assoc written.put written.back (text zs))
      ∙ sym (append_assoc so_far.put written.put (written.back ++ text zs));
}

-- the rest
pub Writes-all : (xs ys : List Rec) (held rest : List ℕ) (t t' t'' : Option (List ℕ)) → Writes (text xs) (held ++ text ys) t t' → ys ≡ [] → Writes held rest t' t''
    → rest ≡ [] → Writes (text xs) [] t t''
Writes-all xs ys held rest t t' t'' so_far none written empty = record {
  put = so_far.put ++ written.put;
  taken = Appends-trans t t' t'' so_far.put written.put so_far.taken written.taken;
  splits = so_far.splits
      ∙ ap (λ (l : List Rec). so_far.put ++ (held ++ text l)) none
      ∙ ap (λ (l : List ℕ). so_far.put ++ l) (append-nil held ∙ written.splits ∙ ap (λ (l : List ℕ). written.put ++ l) empty ∙ append-nil written.put)
      ∙ sym (append-nil (so_far.put ++ written.put));
}

pub WritesSome-all : (xs ys : List Rec) (held : List ℕ) (t t' t'' : Option (List ℕ)) → Writes (text xs) (held ++ text ys) t t' → ys ≡ [] → WritesSome held t' t''
    → WritesSome (text xs) t t''
WritesSome-all xs ys held t t' t'' so_far none written = record {
  put = so_far.put ++ written.put;
  taken = Appends-trans t t' t'' so_far.put written.put so_far.taken written.taken;
  back = written.back;
  splits = so_far.splits
      ∙ ap (λ (l : List Rec). so_far.put ++ (held ++ text l)) none
      ∙ ap (λ (l : List ℕ). so_far.put ++ l) (append-nil held ∙ written.splits)
      ∙ sym (append_assoc so_far.put written.put written.back);
}
