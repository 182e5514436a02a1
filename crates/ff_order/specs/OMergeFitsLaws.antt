-- What a run of an ordered merge has put begins what its ins are merged to, and is all of it where it ended by Eos.
use Rattle.std.specs.Prelude.{slice_index_or}
use Rattle.std.proofs.Common.{◌≡◌, ◌⊎◌, ℕ, ◌≤◌, Bool, true, false, List, [], ◌∷◌, ◌++◌, length, drop, refl, sym, ap, ◌∙◌, subst, append_assoc, append-nil, arith, inl, inr, drop_at}
use Rattle.std.proofs.lemmas.Bool.{false≢true}
use Rattle.std.proofs.lemmas.List.{get_or-replicate, map-append}
use Rattle.ff_rec.specs.Lines.{Rec}
use Rattle.ff_rec.specs.Streams.{IsOpen, at, carried, unaborted, closed}
use Rattle.ff_rec.specs.declared.msg.Msg.TheVariants.{Item, Eos as EosMsg}
use Rattle.ff_node.specs.Fits.{gather}
use Rattle.ff_node.specs.Runs.{Message, HasOuts, BeginsToFit, FitsWhole}
use Rattle.ff_port.specs.declared.answers.End.{End}
use Rattle.ff_port.specs.declared.answers.End.TheVariants.{Eos}
use Rattle.ff_unit.specs.Closing.{IsLive, any_live}
use Rattle.ff_unit.specs.FlagLaws.{any_live-all}
use Rattle.ff_unit.specs.MessageLaws.{IsOpen-carried, unaborted-append, unaborted-open, unaborted-cut}
use Rattle.ff_unit.specs.declared.mode.Mode.{Mode}
use Rattle.ff_unit.specs.declared.mode.Mode.TheVariants.{Live, Shut, Cut}
use Rattle.ff_order.specs.MergedLaws.{merged, gather-merged, FitsOMerge-from}
use Rattle.ff_order.specs.OMerges.{OMergeState, OMergeReady, FitsOMerge, omerge_ins}
use Rattle.ff_order.specs.OMergeBegunLaws.{TiedLive-begun, TiedAt-begun}
use Rattle.ff_order.specs.OMergeTiedLaws.{IsTied, Meets, Begun, TiedAt, eos_after}
use Rattle.ff_order.specs.PortLaws.{AllGoOn-length, AllGoOn-open, FlagsFit-whole}
use Rattle.ff_order.specs.declared.order.Order.{Order}
use Rattle.ff_order.specs.declared.order.Order.TheVariants.{InTurn, ByPick}

-- a whole out that goes on from what was put, and is what such ins are merged to
record IsAnswer (order : Order) (n : ℕ) (gots ins : List (List Message)) (t : List Message) : Type 0 where
  out : List Rec
  more : List Message
  is : closed (carried out) ≡ unaborted t ++ more
  fits : (picks : List ℕ) (groups : ℕ → List (List Rec)) → Meets order n gots ins picks groups → out ≡ gather picks groups

-- behind records that begin it: what is left of the merged ins
Begun-answer : (order : Order) (n : ℕ) (gots ins : List (List Message)) (p : List Message) → 1 ≤ n → Begun order n gots p → IsAnswer order n gots ins p
Begun-answer order n gots ins p some b = record {
  out = b.ys ++ rest;
  more = closed (carried rest);
  is = ap closed (map-append (λ y. Item y) b.ys rest) ∙ append_assoc (carried b.ys) (carried rest) (EosMsg ∷ [])
      ∙ ap (λ l. l ++ closed (carried rest)) (sym (unaborted-open (carried b.ys) (IsOpen-carried b.ys)) ∙ ap unaborted (sym b.is));
  fits = λ picks groups h.
      let more = b.begins ins picks groups h in
      let all = gather-merged order n gots ins picks groups some h in
      ap (λ l. b.ys ++ drop (length b.ys) l) (sym all ∙ more.is) ∙ ap (λ l. b.ys ++ l) (drop_at b.ys more.more (length b.ys) refl) ∙ sym more.is;
}
  where
    rest : List Rec
    rest = drop (length b.ys) (merged order n ins)

TiedAt-answer : (mode : Mode) (order : Order) (n due : ℕ) (live : List Bool) (end : End) (gots ins : List (List Message)) (t : List Message) → 1 ≤ n
    → TiedAt mode order n due live end gots t → IsAnswer order n gots ins t
TiedAt-answer Live order n due live end gots ins t some l =
    Begun-answer order n gots ins t some (TiedLive-begun order n due live end gots t l)
TiedAt-answer Shut order n due live end gots ins t some s = by (any_live live) s.is
  where
    by : (b : Bool) → t ≡ carried s.ys ++ eos_after b → IsAnswer order n gots ins t
    by true e = record {
      out = s.ys;
      more = EosMsg ∷ [];
      is = ap (λ l. l ++ EosMsg ∷ []) (sym (unaborted-open (carried s.ys) (IsOpen-carried s.ys)) ∙ ap unaborted (sym (e ∙ append-nil (carried s.ys))));
      fits = λ picks groups h. sym (s.exact ins picks groups h);
    }
    by false e = record {
      out = s.ys;
      more = [];
      is = sym (append-nil (unaborted t) ∙ ap unaborted e ∙ unaborted-append (carried s.ys) (EosMsg ∷ [])
          ∙ ap closed (unaborted-open (carried s.ys) (IsOpen-carried s.ys)));
      fits = λ picks groups h. sym (s.exact ins picks groups h);
    }
TiedAt-answer Cut order n due live end gots ins t some c =
    let a = Begun-answer order n gots ins c.before some c.begun in
    let inner : IsOpen c.before = subst IsOpen (sym c.begun.is) (IsOpen-carried c.begun.ys) in record {
      out = a.out;
      more = a.more;
      is = a.is ∙ ap (λ l. l ++ a.more) (unaborted-open c.before inner ∙ sym (unaborted-cut c.before inner) ∙ ap unaborted (sym c.is));
      fits = a.fits;
    }

module _ (u : OMergeState) (gots puts : List (List Message)) (t : IsTied u gots puts) where
  -- its ports are as its code asks
  pub OMergeReady-tied : OMergeReady u gots puts
  OMergeReady-tied = record {
    ins = t.ins;
    flags = t.lives;
    one_out = ap length t.puts_are;
    due = t.due;
    merging = merging u.mode t.tied;
    open_out = subst (λ l. (u.held ≡ []) ⊎ IsOpen (at l 0)) (sym t.puts_are) (open_out u.held refl);
    ended = t.ended;
  }
    where
      merging : (mode : Mode) → TiedAt mode u.order u.places u.due u.live u.end gots (t.put ++ u.held) → mode ≡ Live → IsLive u.live u.due
      merging Live l e = ap (λ live. slice_index_or live u.due false) l.all ∙ get_or-replicate (omerge_ins u.order u.places) u.due true false t.due
      merging Shut l e = absurd (cc)
      merging Cut l e = absurd (cc)

      open_out : (held : List Message) → u.held ≡ held → (u.held ≡ []) ⊎ IsOpen t.put
      open_out [] e = inl e
      open_out (m ∷ held) e =
          let b = TiedAt-begun u.mode u.order u.places u.due u.live u.end gots t.put m held
          (subst (λ h. TiedAt u.mode u.order u.places u.due u.live u.end gots (t.put ++ h)) e t.tied) in
          inr (subst IsOpen (sym b.is) (IsOpen-carried b.ys))

  -- however its ins go on, its out can go on so that it fits
  pub BeginsToFit-tied : BeginsToFit (FitsOMerge u.order u.places) gots puts
  BeginsToFit-tied ins on =
      let a = TiedAt-answer u.mode u.order u.places u.due u.live u.end gots ins (t.put ++ u.held) t.some t.tied in
      subst (HasOuts (FitsOMerge u.order u.places) ins) (sym t.puts_are) (record {
        outs = carried a.out ∷ [];
        goes_on = (
          record {
            inner = IsOpen-carried a.out;
            more = unaborted u.held ++ a.more;
            is = a.is ∙ ap (λ l. l ++ a.more) (unaborted-append t.put u.held) ∙ append_assoc (unaborted t.put) (unaborted u.held) a.more;
          },
          tt,
        );
        fits = FitsOMerge-from u.order u.places ins a.out (sym (AllGoOn-length gots ins on) ∙ t.ins)
            (λ picks groups are hold. a.fits picks groups (record { go_on = on; picks_are = are; hold = hold }));
      })

  -- ended by Eos it fits what it took and put
  pub FitsWhole-tied : u.done ≡ true → u.end ≡ Eos → FitsWhole (FitsOMerge u.order u.places) gots puts
  FitsWhole-tied done eos = by u.mode t.tied
    where
      none : any_live u.live ≡ false
      none = (t.ended done).1

      some_ins : (order : Order) → 1 ≤ omerge_ins order u.places
      some_ins InTurn = t.some
      some_ins ByPick = omega arith

      by : (mode : Mode) → TiedAt mode u.order u.places u.due u.live u.end gots (t.put ++ u.held) → FitsWhole (FitsOMerge u.order u.places) gots puts
      by Live l =
          absurd (false≢true (sym none ∙ ap any_live l.all ∙ any_live-all (omerge_ins u.order u.places) (some_ins u.order)))
      by Shut s =
          let whole = FlagsFit-whole u.live gots s.flags none in
          let put : t.put ≡ closed (carried s.ys) = sym (append-nil t.put) ∙ ap (λ h. t.put ++ h) (sym (t.ended done).0) ∙ s.is ∙ ap (λ b. carried s.ys ++ eos_after b) none in record {
            ins = whole.ins;
            outs = carried s.ys ∷ [];
            ins_open = AllGoOn-open gots whole.ins whole.go_on;
            outs_open = (IsOpen-carried s.ys, tt);
            gots_are = whole.gots_are;
            puts_are = t.puts_are ∙ ap (λ l. l ∷ []) put;
            fits = FitsOMerge-from u.order u.places whole.ins s.ys (sym (AllGoOn-length gots whole.ins whole.go_on) ∙ t.ins)
                (λ picks groups are hold. sym (s.exact whole.ins picks groups (record { go_on = whole.go_on; picks_are = are; hold = hold })));
          }
      by Cut c = absurd (c.ends eos)
