-- A stage that waits, or has ended, passed on what came, and its Marks.
use Rattle.std.specs.Prelude.{IsSome, slice_index}
use Rattle.std.proofs.Common.{◌≡◌, ℕ, ◌<◌, ◌≤◌, true, false, List, [], ◌∷◌, ◌++◌, Option, None, Some, refl, sym, ap, ◌∙◌, subst, inl, inr, arith, append-nil}
use Rattle.std.proofs.lemmas.Bool.{false≢true}
use Rattle.ff_rec.specs.Streams.{at}
use Rattle.ff_node.specs.Behaviour.{Behaviour}
use Rattle.ff_node.specs.Fits.{marks}
use Rattle.ff_node.specs.Runs.{Message}
use Rattle.ff_port.specs.declared.answers.End.{End}
use Rattle.ff_unit.specs.Stage.{StageState, opening_stage}
use Rattle.ff_unit.specs.StageKeptLaws.{ins_of, took_on-one, gave_on-one}
use Rattle.ff_unit.specs.StagePorts.{StageReady, Stalls}
use Rattle.ff_unit.specs.StageUnit.{stage_does}
use Rattle.ff_unit.specs.Units.{Ran, Known}
use Rattle.ff_unit.specs.declared.mode.Mode.{Mode}
use Rattle.ff_unit.specs.declared.mode.Mode.TheVariants.{Live, Shut, Cut}
use Rattle.ff_unit.proofs.Rests.{HasEnd}
use Rattle.ff_unit.proofs.Rests.{AtRest, IsFree, Rested}
use Rattle.ff_unit.proofs.StageEnds.{StageEnds, leads_ends}
use Rattle.ff_unit.proofs.TurnMarks.{marks-append}

-- what a unit with one in and one out does with Marks
pub record PassesMarks (gots puts : List (List Message)) : Type 0 where
  pub fewer : marks (at puts 0) ≤ marks (at gots 0)
  pub same : (HasEnd (at puts 0) → ⊥) → marks (at puts 0) ≡ marks (at gots 0)

module _ {N : Type 0} (b : Behaviour N) (u : StageState N) (gots puts : List (List Message)) (ran : Ran (stage_does b) u gots puts) (ready : StageReady u gots puts) where
  ends_here : StageEnds u (at gots 0) (at puts 0)
  ends_here =
      let run = ran.1 in
      let start = opening_stage b u in
      let gots_are = run.takes ∙ took_on-one b [] start run.acts u run.leads in
      let puts_are = run.gives ∙ gave_on-one b [] start run.acts u run.leads in
      subst (λ g. StageEnds u g (at puts 0)) (sym (ap (λ l. at l 0) gots_are))
      (subst (λ p. StageEnds u (ins_of run.acts) p) (sym (ap (λ l. at l 0) puts_are)) (leads_ends b (b.opening u.node) u.keeps run.acts u run.leads))

  pub stage_fewer : marks (at puts 0) ≤ marks (at gots 0)
  stage_fewer = let e = ends_here in omega (arith, e.fewer, marks-append (at puts 0) u.held)

  module _ (told : u.told ≡ false) (before after : Known) (rest : AtRest (stage_does b) u before after) (free : IsFree 1 after) where
    port : (P : List Message → Type 0) (lists : List (List Message)) (k : ℕ) → k < 1 → P (at lists 0) → P (at lists k)
    port P lists k below h = let none : k ≡ 0 = omega (arith, below) in subst (λ j. P (at lists j)) (sym none) h

    -- nothing held
    put_all : u.held ≡ [] → at puts 0 ++ u.held ≡ at puts 0
    put_all none = ap (λ h. at puts 0 ++ h) none ∙ append-nil (at puts 0)

    decided_end : IsSome u.fin → HasEnd (at gots 0)
    decided_end some = elim (ends_here.decided some) [ inl h ↦ absurd (false≢true (sym told ∙ h)) | inr h ↦ h ]

    decided_out : IsSome u.fin → u.held ≡ [] → HasEnd (at puts 0)
    decided_out some none =
        subst HasEnd (put_all none) (ends_here.over (λ live. false≢true (subst IsSome (ends_here.live live) some)))

    pub record Stuck : Type 0 where
      pub rested : Rested 1 1 gots puts after u.done
      pub marked : PassesMarks gots puts

    has_ended : u.done ≡ true → Stuck
    has_ended done =
        let end = ready.ended done in
        let out = decided_out end.1 end.0 in
        record {
          rested = record {
            dry = λ k below. inl (port HasEnd gots k below (decided_end end.1));
            ends = λ each. (done, λ k below. port HasEnd puts k below out);
          };
          marked = record { fewer = stage_fewer; same = λ none. absurd (none out) };
        }

    -- by the mode
    marks_same : (mode : Mode) → u.mode ≡ mode → u.held ≡ [] → (HasEnd (at puts 0) → ⊥) → marks (at puts 0) ≡ marks (at gots 0)
    marks_same Live is none unclosed = subst (λ ms. marks ms ≡ marks (at gots 0)) (put_all none) (ends_here.same is)
    marks_same Shut is none unclosed = absurd (unclosed (subst HasEnd (put_all none) (ends_here.over (λ live. let h : Shut ≡ Live = sym is ∙ live in cc))))
    marks_same Cut is none unclosed = absurd (unclosed (subst HasEnd (put_all none) (ends_here.over (λ live. let h : Cut ≡ Live = sym is ∙ live in cc))))

    waits : (held : List Message) (fin : Option End) → u.held ≡ held → u.fin ≡ fin → Stalls held fin before after → Stuck
    waits (m ∷ held) fin is_held is stalls = absurd (free.rooms 0 (omega arith) stalls.1)
    waits [] (Some fin) is_held is stalls = absurd (stalls free.idle)
    waits [] None is_held is stalls = record {
      rested = record {
        dry = λ k below. inr (let none : k ≡ 0 = omega (arith, below) in subst (λ j. slice_index after.knowns j ≡ 0) (sym none) stalls.1);
        ends = λ each. absurd (ends_here.undecided is (each 0 (omega arith)));
      };
      marked = record { fewer = stage_fewer; same = marks_same u.mode refl is_held };
    }

    pub stage_rests : Stuck
    stage_rests = elim rest [ inl done ↦ has_ended done | inr stalls ↦ waits u.held u.fin refl refl stalls ]
