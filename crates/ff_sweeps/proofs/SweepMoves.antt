-- Each sweep raises what is bounded, or all have ended, or memory is short.
use Rattle.std.proofs.Common.{◌≡◌, ◌≢◌, ◌⊎◌, ℕ, zero, suc, ◌+◌, ◌<◌, ◌≤◌, Bool, true, false, List, [], ◌∷◌, ◌++◌, length, refl, sym, ap, ◌∙◌, subst, inl, inr, arith, length-append}
use Rattle.std.specs.Prelude.{slice_index}
use Rattle.std.proofs.lemmas.Bool.{false≢true}
use Rattle.std.proofs.lemmas.Bool.Decides.{eqb_tells}
use Rattle.ff_node.specs.Behaviour.{Behaviour, KeepsKind}
use Rattle.ff_net.specs.Counts.{edges}
use Rattle.ff_net.specs.Forms.{has_choice}
use Rattle.ff_net.specs.Good.{Good}
use Rattle.ff_net.specs.Tree.{Tree}
use Rattle.ff_plan.specs.Rows.{range}
use Rattle.ff_unit.specs.Units.{IsUnit}
use Rattle.ff_steps.specs.Core.{CoreState, party, edge, is_short, all_ended}
use Rattle.ff_steps.specs.Events.{CoreStep, Event, Follows, known_at}
use Rattle.ff_steps.specs.Links.{known_over}
use Rattle.ff_steps.specs.NetCores.{IsGood}
use Rattle.ff_steps.specs.NetUnits.{NetState, net_does}
use Rattle.ff_steps.specs.Parties.{Drainer, AsDrainer}
use Rattle.ff_steps.specs.Wiring.{Row}
use Rattle.ff_steps.proofs.DrainerRuns.{IsEnded-drainer}
use Rattle.ff_steps.proofs.NetRuns.{run-drainer}
use Rattle.ff_steps.proofs.PartyAt.{length-parties, party-drainer}
use Rattle.ff_sweeps.proofs.Cores.{PartyRests, CannotMove}
use Rattle.ff_sweeps.proofs.Potentials.{one_if, is_closed, got_size, put_size, closed_size}
use Rattle.ff_sweeps.specs.Schedules.{sweep, sweeps_of}
use Rattle.ff_sweeps.proofs.Chains.{keeps_after, short_stays, all_ended_stays}
use Rattle.ff_sweeps.proofs.CoreStuck.{dry_end, ended-has, all_have_ended}
use Rattle.ff_sweeps.proofs.StepSizes.{weigh-le}
use Rattle.ff_sweeps.proofs.SweepSteps.{SameCore, same-known, Keeps, power, Still, PutsLast, event_result, drainer_row_is, known_bool}

module _ {N : Type 0} (b : Behaviour N) (kind : KeepsKind b) (laws : IsUnit (net_does b)) (m : ℕ) (keep : Bool) (t : Tree N) (good : Good b t) (fixed : has_choice t ≡ false) (count : ℕ) where
  abbrev Inv : CoreState (NetState N) → Type 0
  Inv c = Keeps b kind laws m keep t count c

  abbrev pow : CoreState (NetState N) → ℕ
  pow c = power b kind laws m keep t count c

  power_same : (c c' : CoreState (NetState N)) → SameCore (count + 2) c c' → pow c ≤ pow c'
  power_same c c' same =
      let gots = weigh-le (got_size c) (got_size c') 0 (edges t) (λ e l. let h = ap length (same.got e) in omega (arith, h)) in
      let puts = weigh-le (put_size c) (put_size c') 0 (edges t) (λ e l. elim (eqb_tells e 1) [
        | inl h ↦ rw h.0 (omega arith)
        | inr h ↦ rw h.0 (let g = ap length (same.put e) in omega (arith, g))
      ]) in
      let closed = weigh-le (closed_size b c) (closed_size b c') 0 (count + 2) (λ q l. let h = ap (λ x. one_if (is_closed b x)) (same.party q (omega (arith, l))) in omega (arith, h)) in
      omega (arith, gots, puts, closed)

  same_then : (c d e : CoreState (NetState N)) → SameCore (count + 2) c d → SameCore (count + 2) d e → SameCore (count + 2) c e
  same_then c d e first second = record {
    got = λ x. second.got x ∙ first.got x;
    put = λ x. second.put x ∙ first.put x;
    cap = λ x. second.cap x ∙ first.cap x;
    rows = second.rows ∙ first.rows;
    party = λ q low. second.party q low ∙ first.party q low;
  }

  -- where the parties before `p` of a sweep from `c` have led: something was raised, or a message waits on the last edge, or nothing happened
  record Waiting (c : CoreState (NetState N)) (p : ℕ) (d : CoreState (NetState N)) : Type 0 where
    pub le : pow c ≤ pow d
    pub inside : 1 ≤ length (edge d 1).inside
    pub going : d.drainer.done ≡ false
    pub before : p ≤ suc count

  record Nothing (c : CoreState (NetState N)) (p : ℕ) (d : CoreState (NetState N)) : Type 0 where
    pub same : SameCore (count + 2) c d
    pub rests : (q : ℕ) → q < p → PartyRests (net_does b) (known_at c q) (party c q)

  abbrev Status : CoreState (NetState N) → ℕ → CoreState (NetState N) → Type 0
  Status c p d = (pow c + 1 ≤ pow d) ⊎ (Waiting c p d ⊎ Nothing c p d)

  module _ (c d e : CoreState (NetState N)) (p : ℕ) (inv : Inv d) (inv' : Inv e) (low : p < count + 2) (step : CoreStep (net_does b) p d e) (long : is_short (net_does b) e ≡ false) where
    abbrev Result : Type 0
    Result = (pow d + 1 ≤ pow e) ⊎ (Still b kind laws m keep t count d e p inv inv' low step ⊎ PutsLast b kind laws m keep t count d e p inv inv' low step)

    result : Result
    result = event_result b kind laws m keep t count d e p inv inv' low step long

    grows : pow d ≤ pow e
    grows = elim result [
      | inl raised ↦ omega (arith, raised)
      | inr quiet ↦ elim quiet [ inl still ↦ power_same d e still.same | inr puts ↦ puts.le ]
    ]

    -- a message that was put on the last edge waits there, for a drainer that goes on
    waits_there : pow c ≤ pow d → PutsLast b kind laws m keep t count d e p inv inv' low step → Waiting c (suc p) e
    waits_there le puts =
        let inside : 1 ≤ length (edge e 1).inside =
        omega (arith, puts.more, ap length puts.got, length-append (edge e 1).got (edge e 1).inside, length-append (edge d 1).got (edge d 1).inside) in
        record {
          le = omega (arith, le, puts.le);
          inside = inside;
          going = elim (known_bool e.drainer.done) [
            | inr going ↦ going
            | inl done ↦
                let dry = dry_end b laws m keep t good e inv'.is inv'.sound inv'.run 1
                (ended-has (edge e 1).got (IsEnded-drainer e.drainer ((edge e 1).got ∷ []) [] (run-drainer b m keep t e inv'.is inv'.sound) done)) in
                absurd (omega (arith, ap length dry, inside, length-append (edge e 1).got (edge e 1).inside))
          ];
          before = omega (arith, puts.party_low);
        }

    -- it does until the drainer takes it
    still_waits : Waiting c p d → Still b kind laws m keep t count d e p inv inv' low step → Status c (suc p) e
    still_waits w still = elim (eqb_tells p (suc count)) [
      | inl h ↦ absurd (drainer h.1 (subst (PartyRests (net_does b) (known_at d p)) (ap (party d) h.1 ∙ party-drainer d count inv.many) still.rests))
      | inr h ↦
          let other : p ≢ suc count = h.1 in
          let same = still.same in
          let drains : e.drainer ≡ d.drainer = (let g : AsDrainer e.drainer ≡ AsDrainer d.drainer = sym (party-drainer e count inv'.many) ∙ same.party (suc count) (omega arith) ∙ party-drainer d count inv.many in cc) in
          inr (inl (record {
            le = omega (arith, w.le, grows);
            inside = omega (arith, w.inside, ap length (same.got 1), ap length (same.put 1), length-append (edge e 1).got (edge e 1).inside, length-append (edge d 1).got (edge d 1).inside);
            going = ap (λ (x : Drainer). x.done) drains ∙ w.going;
            before = omega (arith, w.before, other);
          }))
    ]
      where
        drainer : p ≡ suc count → PartyRests (net_does b) (known_at d p) (AsDrainer d.drainer) → ⊥
        drainer last (inl done) = false≢true (sym w.going ∙ done)
        drainer last (inr none) =
            let row = drainer_row_is b kind laws m keep t count d e p inv inv' low step long last in
            let here : length (edge d 1).inside ≡ 0 = subst (λ (r : Row). slice_index (known_over d.edges r).knowns 0 ≡ 0) row none in
            omega (arith, here, w.inside)

    status_next : Status c p d → Status c (suc p) e
    status_next (inl raised) = inl (omega (arith, raised, grows))
    status_next (inr (inl w)) = elim result [
      | inl more ↦ inl (omega (arith, more, w.le))
      | inr quiet ↦ elim quiet [ inl still ↦ still_waits w still | inr puts ↦ inr (inl (waits_there w.le puts)) ]
    ]
    status_next (inr (inr n)) = elim result [
      | inl more ↦ inl (let h = power_same c d n.same in omega (arith, more, h))
      | inr quiet ↦ elim quiet [
        | inl still ↦ inr (inr (record {
          same = same_then c d e n.same still.same;
          rests = λ q below. elim (eqb_tells q p) [
            | inl h ↦ subst (λ x. PartyRests (net_does b) (known_at c x) (party c x)) (sym h.1)
                (subst (λ k. PartyRests (net_does b) k (party c p)) (same-known (count + 2) c d n.same p)
                (subst (PartyRests (net_does b) (known_at d p)) (n.same.party p low) still.rests))
            | inr h ↦ let other : q ≢ p = h.1 in n.rests q (omega (arith, below, other))
          ];
        }))
        | inr puts ↦ inr (inl (waits_there (power_same c d n.same) puts))
      ]
    ]

  -- events one after another
  abbrev Chain : List ℕ → CoreState (NetState N) → CoreState (NetState N) → Type 0
  Chain ps c c' = Follows (net_does b) (IsGood b m t) ps c c'

  record Moves (p : ℕ) (ps : List ℕ) (c c' : CoreState (NetState N)) : Type 0 where
    pub next : CoreState (NetState N)
    pub step : CoreStep (net_does b) p c next
    pub inv : Inv next
    pub rest : Chain ps next c'

  first_move : (p : ℕ) (ps : List ℕ) (c c' : CoreState (NetState N)) → Inv c → p < count + 2 → Chain (p ∷ ps) c c' → Moves p ps c c'
  first_move p ps c c' inv low chain = by chain.1
    where
      by : Event (net_does b) p c chain.0 → Moves p ps c c'
      by (inl event) = record { next = chain.0; step = event.1; inv = keeps_after b kind laws m keep t count c chain.0 p inv chain.2.sound low event.1; rest = chain.3 }
      by (inr none) = absurd (omega (arith, none.0, low, length-parties c, inv.many))

  -- what was short is so afterwards, and so is what has ended
  chain_long : (p j : ℕ) → p + j ≤ count + 2 → (c c' : CoreState (NetState N)) → Inv c → Chain (range p j) c c' → is_short (net_does b) c' ≡ false → is_short (net_does b) c ≡ false
  chain_long p zero room c c' inv chain long = subst (λ x. is_short (net_does b) x ≡ false) chain long
  chain_long p (suc j) room c c' inv chain long =
      let low : p < count + 2 = omega (arith, room) in
      let move = first_move p (range (suc p) j) c c' inv low chain in
      let later = chain_long (suc p) j (omega (arith, room)) move.next c' move.inv move.rest long in
      elim (known_bool (is_short (net_does b) c)) [
        | inr whole ↦ whole
        | inl short ↦ absurd (false≢true (sym later ∙ short_stays b kind laws m keep t count c move.next p inv move.inv.sound low move.step short))
      ]

  chain_status : (p j : ℕ) → p + j ≤ count + 2 → (c d c' : CoreState (NetState N)) → Inv d → Chain (range p j) d c' → is_short (net_does b) c' ≡ false → Status c p d
      → Inv c' × Status c (p + j) c'
  chain_status p zero room c d c' inv chain long status =
      let same : p ≡ p + 0 = omega arith in
      (subst Inv (sym chain) inv, subst (λ k. Status c k c') same (subst (λ x. Status c p x) (sym chain) status))
  chain_status p (suc j) room c d c' inv chain long status =
      let low : p < count + 2 = omega (arith, room) in
      let within : suc p + j ≤ count + 2 = omega (arith, room) in
      let move = first_move p (range (suc p) j) d c' inv low chain in
      let later = chain_long (suc p) j within move.next c' move.inv move.rest long in
      let same : suc p + j ≡ p + suc j = omega arith in
      let all = chain_status (suc p) j within c move.next c' move.inv move.rest long (status_next c d move.next p inv move.inv low move.step later status) in
      (all.0, subst (λ k. Status c k c') same all.1)

  -- a sweep raises something, or no party can move, and so all have ended
  pub sweep_moves : (c c' : CoreState (NetState N)) → Inv c → Chain (sweep count) c c' → is_short (net_does b) c' ≡ false
      → Inv c' × ((pow c + 1 ≤ pow c') ⊎ (all_ended (net_does b) c' ≡ true))
  sweep_moves c c' inv chain long =
      let start : Status c 0 c = inr (inr (record {
        same = record { got = λ e. refl; put = λ e. refl; cap = λ e. refl; rows = refl; party = λ q low. refl };
        rests = λ q below. absurd (omega (arith, below));
      })) in
      let all = chain_status 0 (count + 2) (omega arith) c c c' inv chain long start in
      (all.0, by all.0 all.1)
    where
      by : Inv c' → Status c (0 + (count + 2)) c' → (pow c + 1 ≤ pow c') ⊎ (all_ended (net_does b) c' ≡ true)
      by inv' (inl raised) = inl raised
      by inv' (inr (inl waits)) = absurd (omega (arith, waits.before))
      by inv' (inr (inr nothing)) =
          let still : CannotMove (net_does b) c' = λ p low.
          let below : p < count + 2 = omega (arith, low, length-parties c', inv'.many) in
          subst (λ k. PartyRests (net_does b) k (party c' p)) (sym (same-known (count + 2) c c' nothing.same p))
          (subst (PartyRests (net_does b) (known_at c p)) (sym (nothing.same.party p below)) (nothing.rests p (omega (arith, below)))) in
          inr (all_have_ended b laws m keep t good c' inv'.is inv'.sound inv'.run still fixed)

  -- parts of a chain
  record Parts (ps qs : List ℕ) (c c' : CoreState (NetState N)) : Type 0 where
    pub between : CoreState (NetState N)
    pub front : Chain ps c between
    pub back : Chain qs between c'

  cut_chain : (ps qs : List ℕ) (c c' : CoreState (NetState N)) → Chain (ps ++ qs) c c' → Parts ps qs c c'
  cut_chain [] qs c c' chain = record { between = c; front = refl; back = chain }
  cut_chain (p ∷ ps) qs c c' chain =
      let rest = cut_chain ps qs chain.0 c' chain.3 in
      record { between = rest.between; front = (chain.0, chain.1, chain.2, rest.front); back = rest.back }

  -- what a sweep keeps, whatever comes
  chain_keeps : (p j : ℕ) → p + j ≤ count + 2 → (c c' : CoreState (NetState N)) → Inv c → Chain (range p j) c c'
      → Inv c' × ((is_short (net_does b) c ≡ true → is_short (net_does b) c' ≡ true) × (all_ended (net_does b) c ≡ true → all_ended (net_does b) c' ≡ true))
  chain_keeps p zero room c c' inv chain =
      (subst Inv (sym chain) inv, ((λ h. subst (λ x. is_short (net_does b) x ≡ true) (sym chain) h), (λ h. subst (λ x. all_ended (net_does b) x ≡ true) (sym chain) h)))
  chain_keeps p (suc j) room c c' inv chain =
      let low : p < count + 2 = omega (arith, room) in
      let move = first_move p (range (suc p) j) c c' inv low chain in
      let rest = chain_keeps (suc p) j (omega (arith, room)) move.next c' move.inv move.rest in (
        rest.0,
        (
          (λ h. rest.1.0 (short_stays b kind laws m keep t count c move.next p inv move.inv.sound low move.step h)),
          (λ h. rest.1.1 (all_ended_stays b kind laws m keep t count c move.next p inv move.inv.sound low move.step h)),
        ),
      )

  -- so many sweeps
  pub sweeps_move : (n : ℕ) (c c' : CoreState (NetState N)) → Inv c → Chain (sweeps_of count n) c c'
      → Inv c' × ((pow c + n ≤ pow c') ⊎ ((all_ended (net_does b) c' ≡ true) ⊎ (is_short (net_does b) c' ≡ true)))
  sweeps_move zero c c' inv chain = (subst Inv (sym chain) inv, inl (let same = ap pow chain in omega (arith, same)))
  sweeps_move (suc n) c c' inv chain =
      let parts = cut_chain (sweep count) (sweeps_of count n) c c' chain in
      let kept = chain_keeps 0 (count + 2) (omega arith) c parts.between inv parts.front in
      let rest = sweeps_move n parts.between c' kept.0 parts.back in
      (rest.0, by parts kept.0 rest)
    where
      later_short : (n : ℕ) (d c' : CoreState (NetState N)) → Inv d → Chain (sweeps_of count n) d c' → (is_short (net_does b) d ≡ true → is_short (net_does b) c' ≡ true) × (all_ended (net_does b) d ≡ true → all_ended (net_does b) c' ≡ true)
      later_short zero d e invd ch = ((λ h. subst (λ x. is_short (net_does b) x ≡ true) (sym ch) h), (λ h. subst (λ x. all_ended (net_does b) x ≡ true) (sym ch) h))
      later_short (suc k) d e invd ch =
          let parts = cut_chain (sweep count) (sweeps_of count k) d e ch in
          let kept = chain_keeps 0 (count + 2) (omega arith) d parts.between invd parts.front in
          let rest = later_short k parts.between e kept.0 parts.back in
          ((λ h. rest.0 (kept.1.0 h)), (λ h. rest.1 (kept.1.1 h)))

      by : (parts : Parts (sweep count) (sweeps_of count n) c c') → Inv parts.between
          → (Inv c' × ((pow parts.between + n ≤ pow c') ⊎ ((all_ended (net_does b) c' ≡ true) ⊎ (is_short (net_does b) c' ≡ true))))
          → (pow c + suc n ≤ pow c') ⊎ ((all_ended (net_does b) c' ≡ true) ⊎ (is_short (net_does b) c' ≡ true))
      by parts invd rest = elim (known_bool (is_short (net_does b) parts.between)) [
        | inl short ↦ inr (inr ((later_short n parts.between c' invd parts.back).0 short))
        | inr long ↦ elim (sweep_moves c parts.between inv parts.front long).1 [
          | inr ended ↦ inr (inl ((later_short n parts.between c' invd parts.back).1 ended))
          | inl raised ↦ elim rest.1 [ inl more ↦ inl (omega (arith, raised, more)) | inr other ↦ inr other ]
        ]
      ]
