-- An ordered merge that merges stays tied to its ports when it takes a message.
use Rattle.std.specs.Prelude.{if◌then◌else◌, slice_index_or, slice_set}
use Rattle.std.proofs.Common.{◌≡◌, ◌⊎◌, ℕ, ◌<◌, ◌≤◌, true, false, ltb, List, [], ◌∷◌, ◌++◌, length, sym, ap, ◌∙◌, subst, append-nil, arith, inl, inr, lt-ltb, le-ltb}
use Rattle.std.proofs.lemmas.Bool.{cases_Bool, cases_lt}
use Rattle.std.proofs.lemmas.List.{get_or-replicate, map_push}
use Rattle.ff_rec.specs.Lines.{Rec}
use Rattle.ff_rec.specs.Streams.{IsOpen, IsOpenMsg, at, added, carried}
use Rattle.ff_rec.specs.declared.msg.Msg.TheVariants.{Item, Mark, Pick, Eos as EosMsg, Abort as AbortMsg}
use Rattle.ff_node.specs.Fits.{gather}
use Rattle.ff_node.specs.Runs.{Message}
use Rattle.ff_port.specs.declared.answers.End.TheVariants.{Eos}
use Rattle.ff_unit.specs.Closing.{IsLive, any_live}
use Rattle.ff_unit.specs.declared.mode.Mode.TheVariants.{Live}
use Rattle.ff_order.specs.OMerges.{OMergeState, omerge_ins, next_due, omerge_closes, gets_group, gets_pick}
use Rattle.ff_order.specs.OMergeLeftLaws.{IsLeft-item, IsLeft-mark, IsLeft-no_pick, IsLeft-eos}
use Rattle.ff_order.specs.OMergeTiedLaws.{Meets, ForMerged, IsLeft, Begun, TiedLive, TiedShut, TiedTo, eos_after}
use Rattle.ff_order.specs.PortLaws.{FlagsFit, FlagsFit-at, FlagsFit-added, FlagsFit-ended}
use Rattle.ff_order.specs.OMergePicksLaws.{PicksGo, IsLeft-picks}
use Rattle.ff_order.specs.OMergeBegunLaws.{ForMerged-before, TiedLive-begun}

-- nothing is held
pub without_held : (p held : List Message) → held ≡ [] → p ++ held ≡ p
without_held p held none = ap (λ h. p ++ h) none ∙ append-nil p

-- what an ordered merge put, with nothing held
pub record HasPut (u : OMergeState) (gots : List (List Message)) (p : List Message) : Type 0 where
  pub ys : List Rec
  pub is : p ≡ carried ys
  pub ends : u.end ≡ Eos
  pub flags : FlagsFit u.live gots

-- it closes behind `ys`
pub closes-tied : (u : OMergeState) (gots : List (List Message)) (p : List Message) (h : HasPut u gots p) → u.held ≡ []
    → ForMerged u.order u.places gots (λ ins all. all ≡ h.ys) → TiedTo (omerge_closes u) gots p
closes-tied u gots p h none exact = by (cases_Bool (any_live u.live))
  where
    tied : (held : List Message) → p ++ held ≡ carried h.ys ++ eos_after (any_live u.live) → TiedShut u.order u.places u.live u.end gots (p ++ held)
    tied held is = record { ys = h.ys; is = is; ends = h.ends; flags = h.flags; exact = exact }

    by : (any_live u.live ≡ true) ⊎ (any_live u.live ≡ false) → TiedTo (omerge_closes u) gots p
    by (inl e) = rw e (tied u.held (without_held p u.held none ∙ h.is ∙ sym (append-nil (carried h.ys)) ∙ ap (λ b. carried h.ys ++ eos_after b) (sym e)))
    by (inr e) = rw e (tied (EosMsg ∷ []) (ap (λ l. l ++ EosMsg ∷ []) h.is ∙ ap (λ b. carried h.ys ++ eos_after b) (sym e)))

module _ (u : OMergeState) (gots : List (List Message)) (p : List Message)
    (some : 1 ≤ u.places) (ins_are : length gots ≡ omerge_ins u.order u.places) (due_in : u.due < omerge_ins u.order u.places) (none : u.held ≡ []) where
  -- it merges
  module _ (live : u.mode ≡ Live) (t : TiedLive u.order u.places u.due u.live u.end gots (p ++ u.held)) where
    live_put : p ≡ carried t.ys
    live_put = sym (without_held p u.held none) ∙ t.is

    due_live : IsLive u.live u.due
    due_live = ap (λ l. slice_index_or l u.due false) t.all ∙ get_or-replicate (omerge_ins u.order u.places) u.due true false due_in

    due_below : u.due < length gots
    due_below = omega (arith, due_in, ins_are)

    due_got : IsOpen (at gots u.due)
    due_got = FlagsFit-at u.live gots u.due t.flags due_live

    -- it goes on behind a message
    goes_on : (m : Message) (due : ℕ) (ys : List Rec) (held : List Message) → IsOpenMsg m → p ++ held ≡ carried ys
        → ForMerged u.order u.places (added gots u.due m) (λ ins all. IsLeft u.order u.places due (added gots u.due m) ins all ys)
        → TiedLive u.order u.places due u.live u.end (added gots u.due m) (p ++ held)
    goes_on m due ys held inner is left = record {
      ys = ys;
      is = is;
      all = t.all;
      ends = t.ends;
      flags = FlagsFit-added u.live gots u.due m t.flags due_live inner;
      left = left;
    }

    before : (m : Message) (ins : List (List Message)) (picks : List ℕ) (groups : ℕ → List (List Rec))
        → Meets u.order u.places (added gots u.due m) ins picks groups → IsLeft u.order u.places u.due gots ins (gather picks groups) t.ys
    before m = ForMerged-before u.order u.places gots u.due m (λ ins all. IsLeft u.order u.places u.due gots ins all t.ys) t.left

    -- a message of the group that is due
    live_group : (m : Message) → IsOpenMsg m → u.due < u.places → TiedTo (gets_group u m) (added gots u.due m) p
    live_group (Item x) inner within =
        rw live (goes_on (Item x) u.due (t.ys ++ x ∷ []) (Item x ∷ []) tt
        (ap (λ l. l ++ Item x ∷ []) live_put ∙ sym (map_push (λ y. Item y) t.ys x))
        (λ ins picks groups h. IsLeft-item u.order u.places u.due gots ins (gather picks groups) t.ys some due_below due_got
        (before (Item x) ins picks groups h) within x h.go_on))
    live_group Mark inner within =
        rw live (goes_on Mark (next_due u.order u.places u.due) t.ys u.held tt t.is
        (λ ins picks groups h. IsLeft-mark u.order u.places u.due gots ins (gather picks groups) t.ys some due_below due_got
        (before Mark ins picks groups h) within h.go_on))
    live_group (Pick w) inner within =
        rw live (goes_on (Pick w) u.due t.ys u.held tt t.is
        (λ ins picks groups h. absurd (IsLeft-no_pick u.order u.places u.due gots ins (gather picks groups) t.ys some due_below due_got
        (before (Pick w) ins picks groups h) within w h.go_on)))
    live_group EosMsg inner within = absurd inner
    live_group AbortMsg inner within = absurd inner

    -- a message of the in of the picks
    picks_go : u.places ≤ u.due → (m : Message) (ins : List (List Message)) (picks : List ℕ) (groups : ℕ → List (List Rec))
        → Meets u.order u.places (added gots u.due m) ins picks groups → PicksGo u.order u.places u.due gots ins (gather picks groups) t.ys
    picks_go above m ins picks groups h =
        IsLeft-picks u.order u.places u.due gots ins (gather picks groups) t.ys some above due_in due_below due_got (before m ins picks groups h)

    live_pick : (m : Message) → IsOpenMsg m → u.places ≤ u.due → TiedTo (gets_pick u m) (added gots u.due m) p
    live_pick (Item x) inner above =
        rw live (goes_on (Item x) u.due t.ys u.held tt t.is (λ ins picks groups h. absurd ((picks_go above (Item x) ins picks groups h).no_item x h.go_on)))
    live_pick Mark inner above =
        rw live (goes_on Mark u.due t.ys u.held tt t.is (λ ins picks groups h. absurd ((picks_go above Mark ins picks groups h).no_mark h.go_on)))
    live_pick (Pick w) inner above = by (cases_lt w u.places)
      where
        by : (w < u.places) ⊎ (u.places ≤ w) → TiedTo (gets_pick u (Pick w)) (added gots u.due (Pick w)) p
        by (inl below) =
            rw (lt-ltb w u.places below, live)
            (goes_on (Pick w) w t.ys u.held tt t.is (λ ins picks groups h. ((picks_go above (Pick w) ins picks groups h).pick w h.go_on).1))
        by (inr beyond) =
            rw (le-ltb w u.places beyond, live) (goes_on (Pick w) u.due t.ys u.held tt t.is
            (λ ins picks groups h. let below = ((picks_go above (Pick w) ins picks groups h).pick w h.go_on).0 in absurd (omega arith)))
    live_pick EosMsg inner above = absurd inner
    live_pick AbortMsg inner above = absurd inner

    pub live_gets : (m : Message) → IsOpenMsg m → TiedTo (if ltb u.due u.places then gets_group u m else gets_pick u m) (added gots u.due m) p
    live_gets m inner = by (cases_lt u.due u.places)
      where
        by : (u.due < u.places) ⊎ (u.places ≤ u.due) → TiedTo (if ltb u.due u.places then gets_group u m else gets_pick u m) (added gots u.due m) p
        by (inl within) = rw (lt-ltb u.due u.places within) (live_group m inner within)
        by (inr above) = rw (le-ltb u.due u.places above) (live_pick m inner above)

    -- the in that is due ends
    live_last : ForMerged u.order u.places (added gots u.due EosMsg) (λ ins all. all ≡ t.ys)
    live_last ins picks groups h = by (cases_lt u.due u.places)
      where
        by : (u.due < u.places) ⊎ (u.places ≤ u.due) → gather picks groups ≡ t.ys
        by (inl within) =
            IsLeft-eos u.order u.places u.due gots ins (gather picks groups) t.ys some due_below due_got (before EosMsg ins picks groups h) within h.go_on
        by (inr above) = (picks_go above EosMsg ins picks groups h).last h.go_on

    pub live_ended : TiedTo (omerge_closes (record u { live = slice_set u.live u.due false })) (added gots u.due EosMsg) p
    live_ended =
        closes-tied (record u { live = slice_set u.live u.due false }) (added gots u.due EosMsg) p
        (record { ys = t.ys; is = live_put; ends = t.ends; flags = FlagsFit-ended u.live gots u.due t.flags due_live }) none live_last

    pub live_begun : Begun u.order u.places gots p
    live_begun = subst (Begun u.order u.places gots) (without_held p u.held none) (TiedLive-begun u.order u.places u.due u.live u.end gots (p ++ u.held) t)
