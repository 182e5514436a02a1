-- The operations that work on the bytes of fields, each by its row.
use Rattle.std.specs.Prelude.{ℕ, ◌-◌, nat_lt, nat_eq, Bool, true, false, ◌||◌, if◌then◌else◌, List, [], ◌∷◌, ◌++◌, map, length, replicate, Option, None, Some, option_and_then, pos}
use Rattle.std.specs.List.{filter, remove, swap, starts_with}
use Rattle.std.specs.Char.{to_ascii_uppercase, to_ascii_lowercase}
use Rattle.std.specs.Option.{option_map}
use Rattle.ff_rec.specs.Fields.{field_at, same_bytes}
use Rattle.ff_rec.specs.Lines.{Rec, cut}
use Rattle.ff_node.specs.Behaviour.{Behaviour}
use Rattle.ff_node.specs.declared.class.Class.TheVariants.{Plain}
use Rattle.ff_ops.specs.Rows.{with_field, with_number, sent_if, sends_of, rejects_of}
use Rattle.ff_ops.specs.declared.field_op.FieldOp.{FieldOp}
use Rattle.ff_ops.specs.declared.field_op.FieldOp.TheVariants.{Id, Set, Keep, Drop, Swap, Copy, Len, Upper, Lower, IfEq, Has, Words, Dup}

-- whether `needle` stands somewhere in these bytes; an empty one always does
abbrev pub occurs : List ℕ → List ℕ → Bool
occurs needle [] = starts_with nat_eq [] needle
occurs needle (c ∷ cs) = starts_with nat_eq (c ∷ cs) needle || occurs needle cs

-- whether a list has an element
abbrev pub is_some_word : List ℕ → Bool
is_some_word [] = false
is_some_word (c ∷ cs) = true

-- the longest runs of bytes other than space
abbrev pub words : List ℕ → List (List ℕ)
words bytes = filter is_some_word (cut 32 bytes)

-- the record without field `f`, unless that is the only one
abbrev pub without : ℕ → Rec → Option (List Rec)
without f r = if nat_lt 1 (length r) then Some (remove r (f - 1) ∷ []) else None

-- the record with these bytes as a further last field, where there is room for one
abbrev pub with_last : List ℕ → Rec → Option (List Rec)
with_last bytes r = if nat_lt (length r) 64 then Some ((r ++ bytes ∷ []) ∷ []) else None

-- what an operation sends for a record, or none where it rejects it
abbrev pub field_answer : FieldOp → Rec → Option (List Rec)
field_answer Id r = Some (r ∷ [])
field_answer (Set f text) r = option_map (λ bytes. with_field f text r ∷ []) (field_at f r)
field_answer (Keep f) r = option_map (λ bytes. (bytes ∷ []) ∷ []) (field_at f r)
field_answer (Drop f) r = option_and_then (λ bytes. without f r) (field_at f r)
field_answer (Swap f g) r = option_and_then (λ a. option_map (λ b. swap r (f - 1) (g - 1) ∷ []) (field_at g r)) (field_at f r)
field_answer (Copy f) r = option_and_then (λ bytes. with_last bytes r) (field_at f r)
field_answer (Len f) r = option_map (λ bytes. with_number f (pos (length bytes)) r ∷ []) (field_at f r)
field_answer (Upper f) r = option_map (λ bytes. with_field f (map to_ascii_uppercase bytes) r ∷ []) (field_at f r)
field_answer (Lower f) r = option_map (λ bytes. with_field f (map to_ascii_lowercase bytes) r ∷ []) (field_at f r)
field_answer (IfEq f text) r = option_map (λ bytes. sent_if (same_bytes bytes text) r) (field_at f r)
field_answer (Has f text) r = option_map (λ bytes. sent_if (occurs text bytes) r) (field_at f r)
field_answer (Words f) r = option_map (λ bytes. map (λ word. word ∷ []) (words bytes)) (field_at f r)
field_answer (Dup n) r = Some (replicate n r)

-- such an operation as a node: it has no state
abbrev pub field_node : Behaviour FieldOp
field_node = record {
  class = λ o. Plain;
  opening = λ o. o;
  sends = λ o r. sends_of (field_answer o r);
  rejects = λ o r. rejects_of (field_answer o r) r;
  next = λ o r. o;
  ends = λ o r. false;
  last = λ o. [];
  last_rejects = λ o. [];
}
