-- What a merge put begins what it puts for all of its ins, and once it has ended by Eos is all of that.
use Rattle.std.proofs.Common.{◌≡◌, ℕ, ◌+◌, ◌<◌, ◌≤◌, Bool, true, false, List, [], ◌∷◌, ◌++◌, length, map, get_or, slice_index_or, Some, refl, sym, ap, ◌∙◌, subst, append_assoc, append-nil, arith}
use Rattle.std.proofs.lemmas.Option.{none-some}
use Rattle.std.proofs.lemmas.List.{map-append, get_or-map, length-map}
use Rattle.ff_rec.specs.Lines.{Rec}
use Rattle.ff_rec.specs.Streams.{at, items, carried, closed, unaborted}
use Rattle.ff_rec.specs.declared.msg.Msg.TheVariants.{Eos as EosMsg, Abort as AbortMsg}
use Rattle.ff_node.specs.Fits.{FitsMerge}
use Rattle.ff_node.specs.Picks.{ArePicks, share}
use Rattle.ff_node.specs.Runs.{Message, AllGoOn, BeginsToFit, FitsWhole}
use Rattle.ff_port.specs.declared.answers.End.{End}
use Rattle.ff_port.specs.declared.answers.End.TheVariants.{Eos, Abort, Memory}
use Rattle.ff_unit.specs.Closing.{any_live, decided}
use Rattle.ff_unit.specs.Merges.{MergeState}
use Rattle.ff_unit.specs.CarriedLaws.{items-carried, items-closed}
use Rattle.ff_unit.specs.FlagLaws.{live-none}
use Rattle.ff_unit.specs.MergeRestsLaws.{rests, length-rests, length-goes_on, items-rests, rests-closed, AreClosed-each}
use Rattle.ff_unit.specs.MergeTiedLaws.{InTied, OutTied, IsCutOff, MergeTied}
use Rattle.ff_unit.specs.MessageLaws.{IsOpen-carried, unaborted-append, unaborted-open, unaborted-closed, unaborted-cut}
use Rattle.ff_unit.specs.ShareLaws.{joined, blocks, share-append, share-blocks, ArePicks-append, ArePicks-blocks}
use Rattle.ff_unit.specs.StageTiedLaws.{IsClosed}

-- ins that carry these records, each its share, are merged into them
FitsMerge-shares : (n : ℕ) (ins : List (List Message)) (picks : List ℕ) (ys : List Rec) → length ins ≡ n → ArePicks n picks ys
    → ((j : ℕ) → j < n → items (at ins j) ≡ share picks ys j) → FitsMerge n ins (carried ys ∷ [])
FitsMerge-shares n ins picks ys number are shares = (number, refl, λ xss e. (ys, picks, refl, record { picks_are = are; shares = each xss e }))
  where
    each : (xss : List (List Rec)) → ins ≡ map carried xss → (j : ℕ) → j < n → at ins j ≡ carried (share picks ys j)
    each xss e j below =
        let within : j < length xss = omega (arith, below, number, ap length e, length-map xss (carried {T = Rec})) in
        let is : at ins j ≡ carried (get_or xss j []) = ap (λ ls. at ls j) e ∙ get_or-map carried xss j [] [] within in
        is ∙ ap carried (sym (items-carried (get_or xss j [])) ∙ ap items (sym is) ∙ shares j below)

-- what was put and is held goes on to all the records, and to no more than those taken where its end was told
OutTied-goes_on : (end : End) (any : Bool) (t : List Message) (ys zs : List Rec) → OutTied end any t ys → (end ≡ Eos → any ≡ false → zs ≡ [])
    → (more : List Message) × (closed (carried (ys ++ zs)) ≡ unaborted t ++ more)
OutTied-goes_on end any t ys zs out last = by end any out last
  where
    -- it put records alone
    on : t ≡ carried ys → (more : List Message) × (closed (carried (ys ++ zs)) ≡ unaborted t ++ more)
    on e = (
      closed (carried zs),
      ap closed (map-append _ ys zs) ∙ append_assoc (carried ys) (carried zs) (EosMsg ∷ [])
          ∙ ap (λ l. l ++ closed (carried zs)) (sym (unaborted-open (carried ys) (IsOpen-carried ys)) ∙ ap unaborted (sym e)),
    )

    -- it was cut off
    cut : IsCutOff t ys → (more : List Message) × (closed (carried (ys ++ zs)) ≡ unaborted t ++ more)
    cut c =
        let b = c.begins in
        let front : unaborted t ≡ carried b.front = ap unaborted (c.is ∙ ap (λ l. l ++ AbortMsg ∷ []) b.is) ∙ unaborted-cut (carried b.front) (IsOpen-carried b.front) in (
          closed (carried (b.more ++ zs)),
          ap (λ l. closed (carried l)) (ap (λ l. l ++ zs) b.all ∙ append_assoc b.front b.more zs)
              ∙ ap closed (map-append _ b.front (b.more ++ zs))
              ∙ append_assoc (carried b.front) (carried (b.more ++ zs)) (EosMsg ∷ [])
              ∙ ap (λ l. l ++ closed (carried (b.more ++ zs))) (sym front),
        )

    by : (end : End) (any : Bool) → OutTied end any t ys → (end ≡ Eos → any ≡ false → zs ≡ []) → (more : List Message) × (closed (carried (ys ++ zs)) ≡ unaborted t ++ more)
    by Eos true e last = on e
    by Eos false e last = (
      [],
      ap (λ l. closed (carried (ys ++ l))) (last refl refl)
          ∙ ap (λ l. closed (carried l)) (append-nil ys)
          ∙ sym (unaborted-closed (carried ys) (IsOpen-carried ys))
          ∙ ap unaborted (sym e)
          ∙ sym (append-nil (unaborted t)),
    )
    by Abort any c last = cut c
    by Memory any c last = cut c

module _ (n : ℕ) (u : MergeState) (gots puts : List (List Message)) (t : MergeTied n u gots puts) where
  -- where it ended well, each in was closed by its Eos
  closed_ins : u.end ≡ Eos → any_live u.live ≡ false → (j : ℕ) → j < n → IsClosed (at gots j)
  closed_ins well none j below =
      subst (λ l. InTied l Eos (at gots j)) (live-none u.live j none) (subst (λ end. InTied (slice_index_or u.live j false) end (at gots j)) well (t.ins.each j below))

  -- however its ins go on, its out can go on so that it fits: behind what was taken comes the rest of each in, one after the other
  pub BeginsToFit-tied : BeginsToFit (FitsMerge n) gots puts
  BeginsToFit-tied ins on =
      let rs = rests gots ins on in
      let zs = joined rs in
      let out = OutTied-goes_on u.end (any_live u.live) (t.put ++ u.held) t.ys zs t.out
      (λ well none. rests-closed gots ins on (λ j below. closed_ins well none j (omega (arith, below, t.ins.ins)))) in
      let few : 0 + length rs ≤ n = omega (arith, length-rests gots ins on, t.ins.ins) in
      record {
        outs = carried (t.ys ++ zs) ∷ [];
        goes_on = subst (λ ls. AllGoOn ls (carried (t.ys ++ zs) ∷ [])) (sym t.puts_are) (
          record {
            inner = IsOpen-carried (t.ys ++ zs);
            more = unaborted u.held ++ out.0;
            is = out.1 ∙ ap (λ l. l ++ out.0) (unaborted-append t.put u.held) ∙ append_assoc (unaborted t.put) (unaborted u.held) out.0;
          },
          tt,
        );
        fits = FitsMerge-shares n ins (t.ins.picks ++ blocks 0 rs) (t.ys ++ zs) (length-goes_on gots ins on ∙ t.ins.ins)
            (ArePicks-append n t.ins.picks (blocks 0 rs) t.ys zs t.ins.picks_are (ArePicks-blocks n 0 rs few))
            (λ j below.
            items-rests gots ins on j
            ∙ ap (λ l. l ++ get_or rs j []) (t.ins.shares j)
            ∙ ap (λ l. share t.ins.picks t.ys j ++ l) (sym (share-blocks 0 rs j j (omega arith)))
            ∙ sym (share-append t.ins.picks (blocks 0 rs) t.ys zs j t.ins.picks_are.each));
      }

-- how a merge that ended by Eos stands
decided-eos : (any : Bool) (end : End) → decided any end ≡ Some Eos → (any ≡ false) × (end ≡ Eos)
decided-eos true end e = absurd (none-some Eos e)
decided-eos false Eos e = (refl, refl)
decided-eos false Abort e = absurd cc
decided-eos false Memory e = absurd cc

module _ (n : ℕ) (u : MergeState) (gots puts : List (List Message)) (t : MergeTied n u gots puts) where
  -- the whole ins and the whole out
  pub FitsWhole-tied : u.done ≡ true → decided (any_live u.live) u.end ≡ Some Eos → FitsWhole (FitsMerge n) gots puts
  FitsWhole-tied done fin =
      let well = decided-eos (any_live u.live) u.end fin in
      let c = AreClosed-each gots (λ j below. closed_ins n u gots puts t well.1 well.0 j (omega (arith, below, t.ins.ins))) in
      let number : length c.inner ≡ n = sym (length-map c.inner (closed {T = Rec})) ∙ sym (ap length c.are) ∙ t.ins.ins in
      let out : OutTied Eos false (t.put ++ []) t.ys = subst (λ h. OutTied Eos false (t.put ++ h) t.ys) (t.ended done).0
      (subst (λ any. OutTied Eos any (t.put ++ u.held) t.ys) well.0 (subst (λ end. OutTied end (any_live u.live) (t.put ++ u.held) t.ys) well.1 t.out)) in
      record {
        ins = c.inner;
        outs = carried t.ys ∷ [];
        ins_open = c.opens;
        outs_open = (IsOpen-carried t.ys, tt);
        gots_are = c.are;
        puts_are = t.puts_are ∙ ap (λ l. l ∷ []) (sym (append-nil t.put) ∙ out);
        fits = FitsMerge-shares n c.inner t.ins.picks t.ys number t.ins.picks_are (λ j below. same_items c.inner c.are j (omega (arith, below, number)) ∙ t.ins.shares j);
      }
    where
      -- an Eos carries nothing
      same_items : (inner : List (List Message)) → gots ≡ map closed inner → (j : ℕ) → j < length inner → items (at inner j) ≡ items (at gots j)
      same_items inner e j below = sym (items-closed (at inner j)) ∙ ap items (sym (get_or-map closed inner j [] [] below)) ∙ ap (λ ls. items (at ls j)) (sym e)
