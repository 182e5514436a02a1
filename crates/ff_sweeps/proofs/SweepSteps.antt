-- What one event of a core does to what sweeps raise.
use Rattle.std.proofs.Common.{◌≡◌, ◌≢◌, ◌⊎◌, ℕ, zero, suc, ◌+◌, ◌<◌, ◌≤◌, Bool, true, false, ◌||◌, ◌&&◌, List, [], ◌∷◌, length, map, slice_index_or, refl, sym, ap, ap₂, ◌∙◌, subst, inl, inr, arith, length-append}
use Rattle.std.specs.Prelude.{slice_index}
use Rattle.std.specs.List.{list_any}
use Rattle.std.proofs.lemmas.Bool.{false≢true, cases_lt}
use Rattle.std.proofs.lemmas.Bool.Decides.{eqb_tells}
use Rattle.ff_rec.specs.Streams.{at}
use Rattle.ff_node.specs.Behaviour.{Behaviour, KeepsKind}
use Rattle.ff_node.specs.Runs.{Message, Act, Took, Gave, Refused, Idle, Told, Handed, took, gave}
use Rattle.ff_net.specs.Counts.{edges}
use Rattle.ff_net.specs.Tree.{Tree}
use Rattle.ff_port.specs.Queues.{put_of, room_of}
use Rattle.ff_unit.specs.Units.{IsUnit, Ran}
use Rattle.ff_steps.specs.Core.{CoreState, party, edge, gots_of, puts_of, IsSound, is_cut_off, is_short}
use Rattle.ff_steps.specs.Events.{CoreStep, Stalls, UnitIdles, known_at}
use Rattle.ff_steps.specs.Links.{edge_at, ends_at, known_over}
use Rattle.ff_steps.specs.NetCores.{IsNetCore, port_rows}
use Rattle.ff_steps.proofs.CoreSteps.{row-behind}
use Rattle.ff_steps.specs.NetUnits.{NetState, net_does, NetStep}
use Rattle.ff_steps.specs.Parties.{Party, Feeder, Drainer, AsUnit, AsFeeder, AsDrainer, PartyStep, FeederStep, DrainerStep, PartyRan}
use Rattle.ff_steps.specs.Wiring.{Row, row_at, feeder_row, drainer_row}
use Rattle.ff_steps.proofs.PartyAt.{length-parties, party-unit, party-feeder, party-drainer}
use Rattle.ff_unit.proofs.Rests.{AtRest}
use Rattle.ff_sweeps.proofs.Cores.{PartyRests, CanRun}
use Rattle.ff_sweeps.specs.Cuts.{is_cut, IsPlainUnit}
use Rattle.ff_sweeps.proofs.Potentials.{one_if, is_closed, got_size, put_size, closed_size, potential, IsPlainParty}
use Rattle.ff_sweeps.proofs.CutUnits.{refused_cuts, cut_ends}
use Rattle.ff_sweeps.proofs.StepSizes.{weigh-le, weigh-lt, length-gots, length-puts, got_grows, put_grows, got_same, put_same, got_more, put_more}
use Rattle.ff_sweeps.proofs.UnitSteps.{IsCoreAct, ended_still, cut_stays, idles, takes_within, gives_within}

-- flags
one_if-le : (x y : Bool) → (x ≡ true → y ≡ true) → one_if x ≤ one_if y
one_if-le true y h = let is = h refl in rw is (omega arith)
one_if-le false true h = omega arith
one_if-le false false h = omega arith

pub or-true : (x y : Bool) → (x || y) ≡ true → (x ≡ true) ⊎ (y ≡ true)
or-true true y h = inl refl
or-true false y h = inr h

pub or-left : (x y : Bool) → x ≡ true → (x || y) ≡ true
or-left x y h = rw h refl

pub or-right : (x y : Bool) → y ≡ true → (x || y) ≡ true
or-right true y h = refl
or-right false y h = h

pub known_bool : (x : Bool) → (x ≡ true) ⊎ (x ≡ false)
known_bool true = inl refl
known_bool false = inr refl

-- a unit that was cut off makes the core short
pub any-at : {A : Type 0} (f : A → Bool) (xs : List A) (i : ℕ) (d : A) → i < length xs → f (slice_index_or xs i d) ≡ true → list_any f xs ≡ true
any-at f [] i d low is = absurd (omega (arith, low))
any-at f (x ∷ xs) zero d low is = or-left (f x) (list_any f xs) is
any-at f (x ∷ xs) (suc i) d low is = or-right (f x) (list_any f xs) (any-at f xs i d (omega (arith, low)) is)

-- the same edges and parties
pub record SameCore {N : Type 0} (parties : ℕ) (c c' : CoreState (NetState N)) : Type 0 where
  pub got : (e : ℕ) → (edge c' e).got ≡ (edge c e).got
  pub put : (e : ℕ) → put_of (edge c' e) ≡ put_of (edge c e)
  pub cap : (e : ℕ) → (edge c' e).cap ≡ (edge c e).cap
  pub rows : c'.rows ≡ c.rows
  pub party : (q : ℕ) → q < parties → party c' q ≡ party c q

map-same : {A : Type 0} (f g : ℕ → A) (es : List ℕ) → ((e : ℕ) → f e ≡ g e) → map f es ≡ map g es
map-same f g [] same = refl
map-same f g (e ∷ es) same = ap₂ (λ x xs. x ∷ xs) (same e) (map-same f g es same)

map-map-ends : {A : Type 0} (f : _ → A) (es : List _) (ks : List ℕ) → map f (ends_at es ks) ≡ map (λ e. f (edge_at es e)) ks
map-map-ends f es [] = refl
map-map-ends f es (k ∷ ks) = ap (λ l. f (edge_at es k) ∷ l) (map-map-ends f es ks)

-- so a party knows the same
pub same-known : {N : Type 0} (n : ℕ) (c c' : CoreState (NetState N)) → SameCore n c c' → (p : ℕ) → known_at c' p ≡ known_at c p
same-known n c c' same p =
    let inside : (e : ℕ) → length (edge c' e).inside ≡ length (edge c e).inside =
    λ e. omega (arith, ap length (same.got e), ap length (same.put e), length-append (edge c' e).got (edge c' e).inside, length-append (edge c e).got (edge c e).inside) in
    let room : (e : ℕ) → room_of (edge c' e) ≡ room_of (edge c e) = λ e. omega (arith, inside e, same.cap e) in
    let ins = (row_at c.rows p).ins in
    let outs = (row_at c.rows p).outs in
    let first : map (λ q. length q.inside) (ends_at c'.edges ins) ≡ map (λ q. length q.inside) (ends_at c.edges ins) =
    map-map-ends (λ q. length q.inside) c'.edges ins ∙ map-same (λ e. length (edge c' e).inside) (λ e. length (edge c e).inside) ins inside ∙ sym (map-map-ends (λ q. length q.inside) c.edges ins) in
    let second : map (λ q. room_of q) (ends_at c'.edges outs) ≡ map (λ q. room_of q) (ends_at c.edges outs) =
    map-map-ends (λ q. room_of q) c'.edges outs ∙ map-same (λ e. room_of (edge c' e)) (λ e. room_of (edge c e)) outs room ∙ sym (map-map-ends (λ q. room_of q) c.edges outs) in
    ap (λ rows. known_over c'.edges (row_at rows p)) same.rows ∙ (λ j. record { knowns = first j; rooms = second j; waiting = 0 })

module _ {N : Type 0} (b : Behaviour N) (kind : KeepsKind b) (laws : IsUnit (net_does b)) (m : ℕ) (keep : Bool) (t : Tree N) (count : ℕ) where
  -- what each moment keeps
  pub record Keeps (c : CoreState (NetState N)) : Type 0 where
    pub is : IsNetCore b m keep t c
    pub sound : IsSound (net_does b) c
    pub run : CanRun b t c
    pub plain : (p : ℕ) → p < count + 2 → IsPlainParty (party c p)
    pub many : length c.units ≡ count

  abbrev pub power : CoreState (NetState N) → ℕ
  power c = potential b (edges t) (count + 2) c

  -- which party is which
  pub unit_low : (c : CoreState (NetState N)) → length c.units ≡ count → (p : ℕ) (u : NetState N) → p < count + 2 → party c p ≡ AsUnit u → p < count
  unit_low c many p u low who = elim (cases_lt p count) [
    | inl below ↦ below
    | inr from ↦ elim (eqb_tells p count) [
      | inl h ↦ absurd (let e : AsFeeder c.feeder ≡ AsUnit u = sym (party-feeder c p (many ∙ sym h.1)) ∙ who in cc)
      | inr h ↦
          let other : p ≢ count = h.1 in
          let last : p ≡ suc count = omega (arith, other, from, low) in
          absurd (let e : AsDrainer c.drainer ≡ AsUnit u = sym (party-drainer c count many) ∙ ap (party c) (sym last) ∙ who in cc)
    ]
  ]

  pub feeder_is : (c : CoreState (NetState N)) → length c.units ≡ count → (p : ℕ) (f : Feeder) → p < count + 2 → party c p ≡ AsFeeder f → p ≡ count
  feeder_is c many p f low who = elim (cases_lt p count) [
    | inl below ↦ absurd (by c.units refl below)
    | inr from ↦ elim (eqb_tells p count) [
      | inl h ↦ h.1
      | inr h ↦
          let other : p ≢ count = h.1 in
          let last : p ≡ suc count = omega (arith, other, from, low) in
          absurd (let e : AsDrainer c.drainer ≡ AsFeeder f = sym (party-drainer c count many) ∙ ap (party c) (sym last) ∙ who in cc)
    ]
  ]
    where
      by : (us : List (NetState N)) → c.units ≡ us → p < count → ⊥
      by [] is below = omega (arith, below, many, ap length is)
      by (u ∷ us) is below = let e : AsUnit (slice_index_or c.units p u) ≡ AsFeeder f = sym (party-unit c p u (omega (arith, below, many))) ∙ who in cc

  pub drainer_is : (c : CoreState (NetState N)) → length c.units ≡ count → (p : ℕ) (d : Drainer) → p < count + 2 → party c p ≡ AsDrainer d → p ≡ suc count
  drainer_is c many p d low who = elim (cases_lt p count) [
    | inl below ↦ absurd (by c.units refl below)
    | inr from ↦ elim (eqb_tells p count) [
      | inl h ↦ absurd (let e : AsFeeder c.feeder ≡ AsDrainer d = sym (party-feeder c p (many ∙ sym h.1)) ∙ who in cc)
      | inr h ↦ let other : p ≢ count = h.1 in omega (arith, other, from, low)
    ]
  ]
    where
      by : (us : List (NetState N)) → c.units ≡ us → p < count → ⊥
      by [] is below = omega (arith, below, many, ap length is)
      by (u ∷ us) is below = let e : AsUnit (slice_index_or c.units p u) ≡ AsDrainer d = sym (party-unit c p u (omega (arith, below, many))) ∙ who in cc

  -- the run of a unit
  pub ran_of : (c : CoreState (NetState N)) → Keeps c → (p : ℕ) (u : NetState N) → p < count + 2 → party c p ≡ AsUnit u → Ran (net_does b) u (gots_of c p) (puts_of c p)
  ran_of c inv p u low who =
      subst (λ (q : Party (NetState N)). PartyRan (net_does b) c.input q (gots_of c p) (puts_of c p)) who (inv.sound.ran p (omega (arith, low, length-parties c, inv.many)))

  -- a unit that has ended and was cut off makes the core short
  cut_short : (c : CoreState (NetState N)) → Keeps c → (p : ℕ) (u : NetState N) → p < count + 2 → party c p ≡ AsUnit u → (net_does b).done u ≡ true → is_cut u ≡ true → is_short (net_does b) c ≡ true
  cut_short c inv p u low who done cut =
      let below = unit_low c inv.many p u low who in
      let units_low : p < length c.units = omega (arith, below, inv.many) in
      let here : slice_index_or c.units p u ≡ u = (let e : AsUnit (slice_index_or c.units p u) ≡ AsUnit u = sym (party-unit c p u units_low) ∙ who in cc) in
      let plain : IsPlainUnit u = subst IsPlainParty who (inv.plain p low) in
      let off = cut_ends b kind laws u (gots_of c p) (puts_of c p) plain (ran_of c inv p u low who) done cut in
      let both : ((net_does b).done u && is_cut_off ((net_does b).fin u)) ≡ true = rw (done, off) refl in
      or-left (list_any (λ w. (net_does b).done w && is_cut_off ((net_does b).fin w)) c.units) (c.feeder.refused || c.drainer.refused)
      (any-at (λ w. (net_does b).done w && is_cut_off ((net_does b).fin w)) c.units p u units_low
      (ap (λ w. (net_does b).done w && is_cut_off ((net_does b).fin w)) here ∙ both))

  module _ (c c' : CoreState (NetState N)) (p : ℕ) (inv : Keeps c) (inv' : Keeps c') (low : p < count + 2) (step : CoreStep (net_does b) p c c') where
    abbrev row : Row
    row = row_at c.rows p

    put_le : (e : ℕ) → put_size c e ≤ put_size c' e
    put_le e = elim (eqb_tells e 1) [
      | inl h ↦ rw h.0 (omega arith)
      | inr h ↦ rw h.0 (put_grows (net_does b) p c c' step e)
    ]

    closed_le : closed_size b c p ≤ closed_size b c' p → (q : ℕ) → q < count + 2 → closed_size b c q ≤ closed_size b c' q
    closed_le mine q below = elim (eqb_tells q p) [
      | inl h ↦ subst (λ x. closed_size b c x ≤ closed_size b c' x) (sym h.1) mine
      | inr h ↦ let same = ap (λ x. one_if (is_closed b x)) (step.others q (omega (arith, below, length-parties c, inv.many)) h.1) in omega (arith, same)
    ]

    pub sums : closed_size b c p ≤ closed_size b c' p → power c ≤ power c'
    sums mine =
        let gots = weigh-le (got_size c) (got_size c') 0 (edges t) (λ e l. got_grows (net_does b) p c c' step e) in
        let puts = weigh-le (put_size c) (put_size c') 0 (edges t) (λ e l. put_le e) in
        let closed = weigh-le (closed_size b c) (closed_size b c') 0 (count + 2) (λ q l. closed_le mine q (omega (arith, l))) in
        omega (arith, gots, puts, closed)

    raise_got : (k : ℕ) (msg : Message) → step.act ≡ Took k msg → k < length row.ins → closed_size b c p ≤ closed_size b c' p → power c + 1 ≤ power c'
    raise_got k msg is within mine =
        let x = slice_index row.ins k in
        let inside = inv.sound.wired.ins_within p k (omega (arith, low, inv.sound.rows_are, length-parties c, inv.many)) within in
        let gots = weigh-lt (got_size c) (got_size c') 0 (edges t) x (λ e l. got_grows (net_does b) p c c' step e) (omega arith) (omega (arith, inside, inv.run.many))
        (got_more (net_does b) p c c' step k msg is within) in
        let puts = weigh-le (put_size c) (put_size c') 0 (edges t) (λ e l. put_le e) in
        let closed = weigh-le (closed_size b c) (closed_size b c') 0 (count + 2) (λ q l. closed_le mine q (omega (arith, l))) in
        omega (arith, gots, puts, closed)

    raise_put : (k : ℕ) (msg : Message) → step.act ≡ Gave k msg → k < length row.outs → slice_index row.outs k ≢ 1 → closed_size b c p ≤ closed_size b c' p → power c + 1 ≤ power c'
    raise_put k msg is within other mine =
        let x = slice_index row.outs k in
        let inside = inv.sound.wired.outs_within p k (omega (arith, low, inv.sound.rows_are, length-parties c, inv.many)) within in
        let more = put_more (net_does b) p c c' step k msg is within in
        let here : put_size c x + 1 ≤ put_size c' x = elim (eqb_tells x 1) [
          | inl h ↦ absurd (other h.1)
          | inr h ↦ rw h.0 more
        ] in
        let gots = weigh-le (got_size c) (got_size c') 0 (edges t) (λ e l. got_grows (net_does b) p c c' step e) in
        let puts = weigh-lt (put_size c) (put_size c') 0 (edges t) x (λ e l. put_le e) (omega arith) (omega (arith, inside, inv.run.many)) here in
        let closed = weigh-le (closed_size b c) (closed_size b c') 0 (count + 2) (λ q l. closed_le mine q (omega (arith, l))) in
        omega (arith, gots, puts, closed)

    raise_closed : closed_size b c p + 1 ≤ closed_size b c' p → power c + 1 ≤ power c'
    raise_closed more =
        let gots = weigh-le (got_size c) (got_size c') 0 (edges t) (λ e l. got_grows (net_does b) p c c' step e) in
        let puts = weigh-le (put_size c) (put_size c') 0 (edges t) (λ e l. put_le e) in
        let closed = weigh-lt (closed_size b c) (closed_size b c') 0 (count + 2) p (λ q l. closed_le (omega (arith, more)) q (omega (arith, l))) (omega arith) (omega (arith, low)) more in
        omega (arith, gots, puts, closed)

    -- nothing happened, and the party can't move
    pub record Still : Type 0 where
      pub same : SameCore (count + 2) c c'
      pub rests : PartyRests (net_does b) (known_at c p) (party c p)

    -- a message was put on the last edge
    pub record PutsLast : Type 0 where
      pub le : power c ≤ power c'
      pub party_low : p < count
      pub more : length (put_of (edge c 1)) + 1 ≤ length (put_of (edge c' 1))
      pub got : (edge c' 1).got ≡ (edge c 1).got

    same_core : step.act ≡ Idle → party c' p ≡ party c p → SameCore (count + 2) c c'
    same_core is mine = record {
      got = got_same (net_does b) p c c' step (ap (λ a. took a (gots_of c p)) is);
      put = put_same (net_does b) p c c' step (ap (λ a. gave a (puts_of c p)) is);
      cap = step.edges.caps;
      rows = step.made.2;
      party = λ q below. elim (eqb_tells q p) [
        | inl h ↦ subst (λ x. party c' x ≡ party c x) (sym h.1) mine
        | inr h ↦ step.others q (omega (arith, below, length-parties c, inv.many)) h.1
      ];
    }

    pub core_act : (q r : Party (NetState N)) (act : Act) → Stalls (net_does b) c c' p q r act → IsCoreAct act
    core_act q r (Took k msg) s = tt
    core_act q r (Gave k msg) s = tt
    core_act q r Refused s = tt
    core_act q r Idle s = tt
    core_act q r Told s = s
    core_act q r (Handed x) s = s

    module _ (long : is_short (net_does b) c' ≡ false) where
      abbrev Result : Type 0
      Result = (power c + 1 ≤ power c') ⊎ (Still ⊎ PutsLast)

      -- a unit
      module _ (u v : NetState N) (was : party c p ≡ AsUnit u) (now : party c' p ≡ AsUnit v) where
        plain : IsPlainUnit u
        plain = subst IsPlainParty was (inv.plain p low)

        ran : Ran (net_does b) u (gots_of c p) (puts_of c p)
        ran = ran_of c inv p u low was

        ready : (net_does b).Ready u (gots_of c p) (puts_of c p)
        ready = laws.ready u (gots_of c p) (puts_of c p) ran

        was_closed : closed_size b c p ≡ one_if ((net_does b).done u || is_cut u)
        was_closed = ap (λ x. one_if (is_closed b x)) was

        now_closed : closed_size b c' p ≡ one_if ((net_does b).done v || is_cut v)
        now_closed = ap (λ x. one_if (is_closed b x)) now

        mono : (act : Act) → IsCoreAct act → NetStep b u act v → closed_size b c p ≤ closed_size b c' p
        mono act core s =
            let one = one_if-le ((net_does b).done u || is_cut u) ((net_does b).done v || is_cut v) (λ h. elim (or-true ((net_does b).done u) (is_cut u) h) [
              | inl done ↦
                  let same = ended_still b u (gots_of c p) (puts_of c p) act v plain ready done core s in
                  or-left ((net_does b).done v) (is_cut v) (ap (net_does b).done same ∙ done)
              | inr cut ↦ or-right ((net_does b).done v) (is_cut v) (cut_stays b u act v plain core s cut)
            ]) in
            omega (arith, one, was_closed, now_closed)

        unit_still : step.act ≡ Idle → v ≡ u → UnitIdles (net_does b) c c' p u ((net_does b).done v) → Result
        unit_still is same idle =
            let whole = same_core is (now ∙ ap AsUnit same ∙ sym was) in
            let rest : AtRest (net_does b) u (known_at c p) (known_at c p) = elim (known_bool ((net_does b).done u)) [
              | inl done ↦ inl done
              | inr going ↦ inr (subst (λ k. (net_does b).Stalls u (known_at c p) k) (same-known (count + 2) c c' whole p)
                  (subst (UnitIdles (net_does b) c c' p u) (ap (net_does b).done same ∙ going) idle))
            ] in
            inr (inl (record { same = whole; rests = subst (PartyRests (net_does b) (known_at c p)) (sym was) rest }))

        unit_step : (act : Act) → step.act ≡ act → NetStep b u act v → Stalls (net_does b) c c' p (AsUnit u) (AsUnit v) act → Result
        unit_step (Took k msg) is s stalls =
            let within = takes_within b u (gots_of c p) (puts_of c p) k msg v plain ready s in
            inl (raise_got k msg is (omega (arith, within, length-gots c.edges row.ins)) (mono (Took k msg) tt s))
        unit_step (Gave k msg) is s stalls =
            let within : k < length row.outs = (let w = gives_within b u (gots_of c p) (puts_of c p) k msg v plain ready s in omega (arith, w, length-puts c.edges row.outs)) in
            elim (eqb_tells (slice_index row.outs k) 1) [
              | inr h ↦ inl (raise_put k msg is within h.1 (mono (Gave k msg) tt s))
              | inl h ↦ inr (inr (record {
                le = sums (mono (Gave k msg) tt s);
                party_low = unit_low c inv.many p u low was;
                more = subst (λ x. length (put_of (edge c x)) + 1 ≤ length (put_of (edge c' x))) h.1 (put_more (net_does b) p c c' step k msg is within);
                got = got_same (net_does b) p c c' step (ap (λ a. took a (gots_of c p)) is) 1;
              }))
            ]
        unit_step Refused is s stalls =
            let cuts = refused_cuts b kind laws u v (gots_of c p) (puts_of c p) plain ran s in
            elim (known_bool ((net_does b).done u)) [
              | inl done ↦
                  let same = ended_still b u (gots_of c p) (puts_of c p) Refused v plain ready done tt s in
                  absurd (false≢true (sym cuts.0 ∙ ap is_cut (sym same) ∙ cuts.1))
              | inr going ↦
                  let before : one_if ((net_does b).done u || is_cut u) ≡ 0 = rw (going, cuts.0) refl in
                  let after : one_if ((net_does b).done v || is_cut v) ≡ 1 = ap one_if (or-right ((net_does b).done v) (is_cut v) cuts.1) in
                  inl (raise_closed (omega (arith, before, after, was_closed, now_closed)))
            ]
        unit_step Idle is s stalls = elim (idles b u v plain s) [
          | inl same ↦ unit_still is same stalls
          | inr done ↦ elim (known_bool ((net_does b).done u)) [
            | inl ended ↦ unit_still is (ended_still b u (gots_of c p) (puts_of c p) Idle v plain ready ended tt s) stalls
            | inr going ↦ elim (known_bool (is_cut u)) [
              | inl cut ↦ absurd (false≢true (sym long ∙ cut_short c' inv' p v low now done (cut_stays b u Idle v plain tt s cut)))
              | inr whole ↦
                  let before : one_if ((net_does b).done u || is_cut u) ≡ 0 = rw (going, whole) refl in
                  let after : one_if ((net_does b).done v || is_cut v) ≡ 1 = ap one_if (or-left ((net_does b).done v) (is_cut v) done) in
                  inl (raise_closed (omega (arith, before, after, was_closed, now_closed)))
            ]
          ]
        ]
        unit_step Told is s stalls = absurd stalls
        unit_step (Handed x) is s stalls = absurd stalls

      -- the feeder
      feeder_row_is : p ≡ count → row_at c.rows p ≡ feeder_row
      feeder_row_is at =
          let long_rows : length (port_rows t) ≡ count = omega (arith, inv.sound.rows_are, length-parties c, ap length inv.is.rows, length-append (port_rows t) (feeder_row ∷ drainer_row ∷ []), inv.many) in
          ap (λ rows. row_at rows p) inv.is.rows ∙ row-behind (port_rows t) p 0 (omega (arith, at, long_rows))

      pub drainer_row_is : p ≡ suc count → row_at c.rows p ≡ drainer_row
      drainer_row_is at =
          let long_rows : length (port_rows t) ≡ count = omega (arith, inv.sound.rows_are, length-parties c, ap length inv.is.rows, length-append (port_rows t) (feeder_row ∷ drainer_row ∷ []), inv.many) in
          ap (λ rows. row_at rows p) inv.is.rows ∙ row-behind (port_rows t) p 1 (omega (arith, at, long_rows))

      feeder_step : (f g : Feeder) → party c p ≡ AsFeeder f → party c' p ≡ AsFeeder g → (act : Act) → step.act ≡ act → FeederStep f act g → Stalls (net_does b) c c' p (AsFeeder f) (AsFeeder g) act → Result
      feeder_step f g was now (Took k msg) is s stalls = absurd s
      feeder_step f g was now (Gave k msg) is s stalls =
          let at = feeder_is c inv.many p f low was in
          let r = feeder_row_is at in
          let none : closed_size b c p ≡ 0 = ap (λ x. one_if (is_closed b x)) was ∙ ap one_if s.1 in
          let within : k < length row.outs = subst (λ (x : Row). k < length x.outs) (sym r) (omega (arith, s.0)) in
          let zero_edge : slice_index row.outs k ≡ 0 = ap (λ (x : Row). slice_index x.outs k) r ∙ ap (λ i. slice_index (0 ∷ []) i) s.0 in
          inl (raise_put k msg is within (λ h. omega (arith, h, zero_edge)) (omega (arith, none)))
      feeder_step f g was now Refused is s stalls =
          let at = feeder_is c inv.many p f low was in
          let new : c'.feeder ≡ g = (let e : AsFeeder c'.feeder ≡ AsFeeder g = sym (party-feeder c' p (inv'.many ∙ sym at)) ∙ now in cc) in
          let refused : c'.feeder.refused ≡ true = ap (λ (x : Feeder). x.refused) (new ∙ s.2) in
          absurd (false≢true (sym long ∙ or-right (list_any (λ w. (net_does b).done w && is_cut_off ((net_does b).fin w)) c'.units) (c'.feeder.refused || c'.drainer.refused)
          (or-left c'.feeder.refused c'.drainer.refused refused)))
      feeder_step f g was now Idle is s stalls =
          inr (inl (record { same = same_core is (now ∙ ap AsFeeder s ∙ sym was); rests = subst (PartyRests (net_does b) (known_at c p)) (sym was) stalls }))
      feeder_step f g was now Told is s stalls = absurd stalls
      feeder_step f g was now (Handed x) is s stalls = absurd stalls

      -- the drainer
      drainer_step : (d e : Drainer) → party c p ≡ AsDrainer d → party c' p ≡ AsDrainer e → (act : Act) → step.act ≡ act → DrainerStep d act e → Stalls (net_does b) c c' p (AsDrainer d) (AsDrainer e) act
          → (power c + 1 ≤ power c') ⊎ Still
      drainer_step d e was now (Took k msg) is s stalls =
          let r = drainer_row_is (drainer_is c inv.many p d low was) in
          let none : closed_size b c p ≡ 0 = ap (λ x. one_if (is_closed b x)) was ∙ ap one_if s.1 in
          let within : k < length row.ins = subst (λ (x : Row). k < length x.ins) (sym r) (omega (arith, s.0)) in
          inl (raise_got k msg is within (omega (arith, none)))
      drainer_step d e was now (Gave k msg) is s stalls = absurd s
      drainer_step d e was now Refused is s stalls = absurd s
      drainer_step d e was now Idle is s stalls =
          inr (record { same = same_core is (now ∙ ap AsDrainer s ∙ sym was); rests = subst (PartyRests (net_does b) (known_at c p)) (sym was) stalls })
      drainer_step d e was now Told is s stalls = absurd stalls
      drainer_step d e was now (Handed x) is s stalls = absurd stalls

      party_step : (q r : Party (NetState N)) → party c p ≡ q → party c' p ≡ r → PartyStep (net_does b) q step.act r → Stalls (net_does b) c c' p q r step.act → Result
      party_step (AsUnit u) (AsUnit v) was now s stalls = unit_step u v was now step.act refl s stalls
      party_step (AsUnit u) (AsFeeder g) was now s stalls = absurd s
      party_step (AsUnit u) (AsDrainer e) was now s stalls = absurd s
      party_step (AsFeeder f) (AsUnit v) was now s stalls = absurd s
      party_step (AsFeeder f) (AsFeeder g) was now s stalls = feeder_step f g was now step.act refl s stalls
      party_step (AsFeeder f) (AsDrainer e) was now s stalls = absurd s
      party_step (AsDrainer d) (AsUnit v) was now s stalls = absurd s
      party_step (AsDrainer d) (AsFeeder g) was now s stalls = absurd s
      party_step (AsDrainer d) (AsDrainer e) was now s stalls = elim (drainer_step d e was now step.act refl s stalls) [ inl raised ↦ inl raised | inr still ↦ inr (inl still) ]

      pub event_result : Result
      event_result = party_step (party c p) (party c' p) refl refl step.steps step.stalls
