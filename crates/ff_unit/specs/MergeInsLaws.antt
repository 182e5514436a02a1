-- The ins of a merge stay tied when a message is taken.
use Rattle.std.specs.Prelude.{◌⊎◌}
use Rattle.std.proofs.Common.{◌≡◌, ℕ, ◌<◌, Bool, true, false, List, [], ◌∷◌, ◌++◌, length, slice_index_or, slice_set, refl, sym, ap, ◌∙◌, subst, append-nil, arith, get_or-set_same, get_or-set_other, length-set, inl, inr}
use Rattle.std.proofs.lemmas.Bool.{cases_eq}
use Rattle.ff_rec.specs.Lines.{Rec}
use Rattle.ff_rec.specs.Streams.{IsOpen, IsOpenMsg, at, added, items}
use Rattle.ff_rec.specs.declared.msg.Msg.TheVariants.{Item, Eos as EosMsg, Abort as AbortMsg}
use Rattle.ff_node.specs.Picks.{share}
use Rattle.ff_node.specs.Runs.{Message}
use Rattle.ff_port.specs.declared.answers.End.{End}
use Rattle.ff_port.specs.declared.answers.End.TheVariants.{Eos, Abort, Memory}
use Rattle.ff_unit.specs.Closing.{IsLive, none_live, spoiled}
use Rattle.ff_unit.specs.Units.{TookAbort}
use Rattle.ff_unit.specs.FlagLaws.{IsLive-within, live-none, any_live-none, length-none_live}
use Rattle.ff_unit.specs.MergeTiedLaws.{InTied, InsTied}
use Rattle.ff_unit.specs.MessageLaws.{IsOpen-append, items-append}
use Rattle.ff_unit.specs.ShareLaws.{ArePicks-append, share-push, share-push_other}
use Rattle.ff_unit.specs.TakenLaws.{at-added, at-added_other, length-added, TookAbort-added, TookAbort-abort}

-- an in stays tied where an Abort is taken elsewhere or memory is short
InTied-spoiled : (live : Bool) (end : End) (g : List Message) → InTied live end g → InTied live (spoiled end) g
InTied-spoiled true end g t = t
InTied-spoiled false Eos g t = tt
InTied-spoiled false Abort g t = tt
InTied-spoiled false Memory g t = tt

InTied-memory : (live : Bool) (end : End) (g : List Message) → InTied live end g → InTied live Memory g
InTied-memory true end g t = t
InTied-memory false end g t = tt

-- an in gives its end
InTied-eos : (end : End) (g : List Message) → IsOpen g → InTied false end (g ++ EosMsg ∷ [])
InTied-eos Eos g t = record { inner = g; open_inner = t; is = refl }
InTied-eos Abort g t = tt
InTied-eos Memory g t = tt

InTied-abort : (end : End) (g : List Message) → InTied false (spoiled end) g
InTied-abort Eos g = tt
InTied-abort Abort g = tt
InTied-abort Memory g = tt

module _ (n : ℕ) (live : List Bool) (end : End) (told : Bool) (gots : List (List Message)) (ys : List Rec) (t : InsTied n live end told gots ys) where
  -- memory is short
  pub InsTied-memory : InsTied n live Memory told gots ys
  InsTied-memory = record {
    picks = t.picks;
    picks_are = t.picks_are;
    flags = t.flags;
    ins = t.ins;
    shares = t.shares;
    each = λ j below. InTied-memory (slice_index_or live j false) end (at gots j) (t.each j below);
    cause = λ e. absurd cc;
  }

  -- it is told to abort
  pub InsTied-told : InsTied n (none_live (length live)) Abort true gots ys
  InsTied-told = record {
    picks = t.picks;
    picks_are = t.picks_are;
    flags = length-none_live (length live) ∙ t.flags;
    ins = t.ins;
    shares = t.shares;
    each = λ j below. subst (λ l. InTied l Abort (at gots j)) (sym (live-none (none_live (length live)) j (any_live-none (length live)))) tt;
    cause = λ e. inl refl;
  }

  module _ (k : ℕ) (on : IsLive live k) where
    within : k < length gots
    within = omega (arith, IsLive-within live k on, t.flags, t.ins)

    below_n : k < n
    below_n = omega (arith, within, t.ins)

    -- what was taken there is open
    open_in : IsOpen (at gots k)
    open_in = subst (λ l. InTied l end (at gots k)) on (t.each k below_n)

    -- the cause of an Abort stays
    cause-added : (m : Message) → end ≡ Abort → (told ≡ true) ⊎ TookAbort (added gots k m)
    cause-added m e = elim (t.cause e) as (λ _. (told ≡ true) ⊎ TookAbort (added gots k m)) [ inl told_it ↦ inl told_it | inr took_it ↦ inr (TookAbort-added gots k m took_it) ]

    -- a message that carries no record
    shares-dropped : (m : Message) → items (m ∷ []) ≡ [] → (j : ℕ) → items (at (added gots k m) j) ≡ share t.picks ys j
    shares-dropped m none j = by (cases_eq j k)
      where
        by : (j ≡ k) ⊎ (j ≡ k → ⊥) → items (at (added gots k m) j) ≡ share t.picks ys j
        by (inl same) =
            subst (λ i. items (at (added gots k m) i) ≡ share t.picks ys i) (sym same)
            (ap items (at-added gots k m within) ∙ items-append (at gots k) (m ∷ []) ∙ ap (λ l. items (at gots k) ++ l) none
            ∙ append-nil (items (at gots k)) ∙ t.shares k)
        by (inr other) = ap items (at-added_other gots k j m other) ∙ t.shares j

    -- a record
    shares-item : (x : Rec) (j : ℕ) → items (at (added gots k (Item x)) j) ≡ share (t.picks ++ k ∷ []) (ys ++ x ∷ []) j
    shares-item x j = by (cases_eq j k)
      where
        by : (j ≡ k) ⊎ (j ≡ k → ⊥) → items (at (added gots k (Item x)) j) ≡ share (t.picks ++ k ∷ []) (ys ++ x ∷ []) j
        by (inl same) =
            subst (λ i. items (at (added gots k (Item x)) i) ≡ share (t.picks ++ k ∷ []) (ys ++ x ∷ []) i) (sym same)
            (ap items (at-added gots k (Item x) within) ∙ items-append (at gots k) (Item x ∷ []) ∙ ap (λ l. l ++ x ∷ []) (t.shares k)
            ∙ sym (share-push t.picks ys k x t.picks_are.each))
        by (inr other) = ap items (at-added_other gots k j (Item x) other) ∙ t.shares j ∙ sym (share-push_other t.picks ys k j x t.picks_are.each other)

    -- the in goes on
    each-open : (m : Message) → IsOpenMsg m → (j : ℕ) → j < n → InTied (slice_index_or live j false) end (at (added gots k m) j)
    each-open m is j below = by (cases_eq j k)
      where
        by : (j ≡ k) ⊎ (j ≡ k → ⊥) → InTied (slice_index_or live j false) end (at (added gots k m) j)
        by (inl same) =
            subst (λ i. InTied (slice_index_or live i false) end (at (added gots k m) i)) (sym same)
            (subst (λ l. InTied l end (at (added gots k m) k)) (sym on)
            (subst IsOpen (sym (at-added gots k m within)) (IsOpen-append (at gots k) (m ∷ []) open_in (is, tt))))
        by (inr other) = subst (InTied (slice_index_or live j false) end) (sym (at-added_other gots k j m other)) (t.each j below)

    -- the in ends
    each-closed : (m : Message) (end' : End) → InTied false end' (at gots k ++ m ∷ []) → ((l : Bool) (g : List Message) → InTied l end g → InTied l end' g)
        → (j : ℕ) → j < n → InTied (slice_index_or (slice_set live k false) j false) end' (at (added gots k m) j)
    each-closed m end' here rest j below = by (cases_eq j k)
      where
        by : (j ≡ k) ⊎ (j ≡ k → ⊥) → InTied (slice_index_or (slice_set live k false) j false) end' (at (added gots k m) j)
        by (inl same) =
            subst (λ i. InTied (slice_index_or (slice_set live k false) i false) end' (at (added gots k m) i)) (sym same)
            (subst (λ l. InTied l end' (at (added gots k m) k)) (sym (get_or-set_same live k false false (IsLive-within live k on)))
            (subst (InTied false end') (sym (at-added gots k m within)) here))
        by (inr other) =
            subst (λ l. InTied l end' (at (added gots k m) j)) (sym (get_or-set_other live k j false false other))
            (subst (InTied (slice_index_or live j false) end') (sym (at-added_other gots k j m other)) (rest (slice_index_or live j false) (at gots j) (t.each j below)))

    -- a message that carries no record and behind which others may come is dropped
    pub InsTied-dropped : (m : Message) → IsOpenMsg m → items (m ∷ []) ≡ [] → InsTied n live end told (added gots k m) ys
    InsTied-dropped m is none = record {
      picks = t.picks;
      picks_are = t.picks_are;
      flags = t.flags;
      ins = length-added gots k m ∙ t.ins;
      shares = shares-dropped m none;
      each = each-open m is;
      cause = cause-added m;
    }

    pub InsTied-item : (x : Rec) → InsTied n live end told (added gots k (Item x)) (ys ++ x ∷ [])
    InsTied-item x = record {
      picks = t.picks ++ k ∷ [];
      picks_are = ArePicks-append n t.picks (k ∷ []) ys (x ∷ []) t.picks_are (record { each = refl; within = (below_n, tt) });
      flags = t.flags;
      ins = length-added gots k (Item x) ∙ t.ins;
      shares = shares-item x;
      each = each-open (Item x) tt;
      cause = cause-added (Item x);
    }

    pub InsTied-eos : InsTied n (slice_set live k false) end told (added gots k EosMsg) ys
    InsTied-eos = record {
      picks = t.picks;
      picks_are = t.picks_are;
      flags = length-set live k false ∙ t.flags;
      ins = length-added gots k EosMsg ∙ t.ins;
      shares = shares-dropped EosMsg refl;
      each = each-closed EosMsg end (InTied-eos end (at gots k) open_in) (λ l g h. h);
      cause = cause-added EosMsg;
    }

    pub InsTied-abort : InsTied n (slice_set live k false) (spoiled end) told (added gots k AbortMsg) ys
    InsTied-abort = record {
      picks = t.picks;
      picks_are = t.picks_are;
      flags = length-set live k false ∙ t.flags;
      ins = length-added gots k AbortMsg ∙ t.ins;
      shares = shares-dropped AbortMsg refl;
      each = each-closed AbortMsg (spoiled end) (InTied-abort end (at gots k ++ AbortMsg ∷ [])) (λ l g h. InTied-spoiled l end g h);
      cause = λ e. inr (TookAbort-abort gots k within);
    }
