-- What ties the ports of a merge to its state.
use Rattle.std.specs.Prelude.{◌⊎◌}
use Rattle.std.proofs.Common.{◌≡◌, ℕ, ◌<◌, Bool, true, false, List, [], ◌∷◌, ◌++◌, length, slice_index_or, refl, sym, ap, ◌∙◌, subst, append-nil}
use Rattle.std.proofs.lemmas.List.{map-append}
use Rattle.ff_rec.specs.Lines.{Rec}
use Rattle.ff_rec.specs.Streams.{IsOpen, at, items, carried, closed}
use Rattle.ff_rec.specs.declared.msg.Msg.TheVariants.{Item, Eos as EosMsg, Abort as AbortMsg}
use Rattle.ff_node.specs.Picks.{ArePicks, share}
use Rattle.ff_node.specs.Runs.{Message}
use Rattle.ff_port.specs.declared.answers.End.{End}
use Rattle.ff_port.specs.declared.answers.End.TheVariants.{Eos, Abort, Memory}
use Rattle.ff_unit.specs.Closing.{any_live, spoiled, told_first, told_well}
use Rattle.ff_unit.specs.Merges.{MergeState, forwarded}
use Rattle.ff_unit.specs.Units.{TookAbort}
use Rattle.ff_unit.specs.CarriedLaws.{BeginsCarried, BeginsCarried-front, BeginsCarried-last, BeginsCarried-more}
use Rattle.ff_unit.specs.StageTiedLaws.{IsClosed}

-- what was taken at an in, by whether it still gives and how the merge will end: while all goes well, a closed in gave its Eos
abbrev pub InTied : Bool → End → List Message → Type 0
InTied true end g = IsOpen g
InTied false Eos g = IsClosed g
InTied false Abort g = Unit {0}
InTied false Memory g = Unit {0}

-- some of the records were put, and then an Abort
pub record IsCutOff (t : List Message) (ys : List Rec) : Type 0 where
  pub put : List Message
  pub is : t ≡ put ++ AbortMsg ∷ []
  pub begins : BeginsCarried put ys

-- what was put with what is held, by how the merge will end and whether some in still gives; `ys` are the records taken
abbrev pub OutTied : End → Bool → List Message → List Rec → Type 0
OutTied Eos true t ys = t ≡ carried ys
OutTied Eos false t ys = t ≡ closed (carried ys)
OutTied Abort any t ys = IsCutOff t ys
OutTied Memory any t ys = IsCutOff t ys

-- the ins: `ys` are the records taken, in their order, and `picks` says at which in each was
pub record InsTied (n : ℕ) (live : List Bool) (end : End) (told : Bool) (gots : List (List Message)) (ys : List Rec) : Type 0 where
  pub picks : List ℕ
  pub picks_are : ArePicks n picks ys
  pub flags : length live ≡ n
  pub ins : length gots ≡ n
  pub shares : (j : ℕ) → items (at gots j) ≡ share picks ys j
  pub each : (j : ℕ) → j < n → InTied (slice_index_or live j false) end (at gots j)
  pub cause : end ≡ Abort → (told ≡ true) ⊎ TookAbort gots

-- the ins and the out
pub record MergeTied (n : ℕ) (u : MergeState) (gots puts : List (List Message)) : Type 0 where
  pub ys : List Rec
  pub ins : InsTied n u.live u.end u.told gots ys
  pub put : List Message
  pub puts_are : puts ≡ put ∷ []
  pub out : OutTied u.end (any_live u.live) (put ++ u.held) ys
  pub ended : u.done ≡ true → (u.held ≡ []) × (any_live u.live ≡ false)

-- where something is held, what was put carries the first of the records
cut_begun : (put held : List Message) (ys : List Rec) (m : Message) → IsCutOff (put ++ m ∷ held) ys → BeginsCarried put ys
cut_begun put held ys m t =
    let b = t.begins in
    subst (BeginsCarried put) (sym b.all)
    (BeginsCarried-more put b.front b.more (BeginsCarried-last put held m b.front AbortMsg (t.is ∙ ap (λ l. l ++ AbortMsg ∷ []) b.is)))

pub OutTied-begun : (end : End) (any : Bool) (put held : List Message) (ys : List Rec) (m : Message) → OutTied end any (put ++ m ∷ held) ys → BeginsCarried put ys
OutTied-begun Eos true put held ys m t = BeginsCarried-front put (m ∷ held) ys (sym t)
OutTied-begun Eos false put held ys m t = BeginsCarried-last put held m ys EosMsg t
OutTied-begun Abort any put held ys m t = cut_begun put held ys m t
OutTied-begun Memory any put held ys m t = cut_begun put held ys m t

-- then it is cut off behind them
pub IsCutOff-begun : (put : List Message) (ys : List Rec) → BeginsCarried put ys → IsCutOff (put ++ AbortMsg ∷ []) ys
IsCutOff-begun put ys b = record { put = put; is = refl; begins = b }

module _ (put : List Message) (ys : List Rec) where
  -- all that was taken was put
  all_begun : put ++ [] ≡ carried ys → BeginsCarried put ys
  all_begun e = record { front = ys; more = []; is = sym (append-nil put) ∙ e; all = sym (append-nil ys) }

  -- a record goes on
  pub OutTied-item : (end : End) (x : Rec) → OutTied end true (put ++ []) ys → OutTied end true (put ++ forwarded end x) (ys ++ x ∷ [])
  OutTied-item Eos x t = ap (λ l. l ++ Item x ∷ []) (sym (append-nil put) ∙ t) ∙ sym (map-append (λ y. Item y) ys (x ∷ []))
  OutTied-item Abort x t = record { put = t.put; is = t.is; begins = BeginsCarried-more t.put ys (x ∷ []) t.begins }
  OutTied-item Memory x t = record { put = t.put; is = t.is; begins = BeginsCarried-more t.put ys (x ∷ []) t.begins }

  -- no in gives any more, and the end is told
  pub OutTied-closes : (end : End) → OutTied end true (put ++ []) ys → OutTied end false (put ++ told_well end) ys
  OutTied-closes Eos t = ap (λ l. l ++ EosMsg ∷ []) (sym (append-nil put) ∙ t)
  OutTied-closes Abort t = t
  OutTied-closes Memory t = t

  -- an Abort is taken
  pub OutTied-spoiled : (end : End) (any : Bool) → OutTied end true (put ++ []) ys → OutTied (spoiled end) any (put ++ told_first end) ys
  OutTied-spoiled Eos any t = IsCutOff-begun put ys (all_begun t)
  OutTied-spoiled Abort any t = t
  OutTied-spoiled Memory any t = t

  -- it is told to abort while it puts records
  pub IsCutOff-told : (end : End) → OutTied end true (put ++ []) ys → end ≡ Eos → IsCutOff (put ++ AbortMsg ∷ []) ys
  IsCutOff-told Eos t e = IsCutOff-begun put ys (all_begun t)
  IsCutOff-told Abort t e = absurd cc
  IsCutOff-told Memory t e = absurd cc
